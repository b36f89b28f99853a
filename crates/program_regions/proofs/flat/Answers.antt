use Rattle.program_regions.proofs.Lone.{flat_answer}
use Rattle.program_regions.proofs.flat.Goals as goal

pub returns : goal.returns
returns c = flat_answer c.args.p.now c.requires.sound c.requires.count c.all.result c.all.ensures.exact c.all.ensures.wired c.all.ensures.passes
