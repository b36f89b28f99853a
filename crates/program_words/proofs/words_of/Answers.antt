use Rattle.std.proofs.Common.{map}
use Rattle.resource_map.specs.Pairs.{pair_of}
use Rattle.program_words.proofs.Whole.{words_answer}
use Rattle.program_words.proofs.words_of.Goals as goal

pub returns : goal.returns
returns c =
    let made = c.in_ok-module.ensures in
    let regions = c.in_ok-regions.ensures in
    words_answer c.args.p.now c.in_ok-regions.regions.list c.in_ok-slots.slots c.args.version regions c.in_ok-slots.ensures (map pair_of c.in_ok-bindings.bindings) c.in_ok-module.module c.in_ok-bindings.ensures.plain (record { is = made.module; same = made.same; formed = made.formed; keeps = made.rules regions; loops = made.loops regions; acts = made.counts; variables = made.few_variables regions }) c.write_module.result c.write_module.ensures.module c.write_module.ensures.exact
