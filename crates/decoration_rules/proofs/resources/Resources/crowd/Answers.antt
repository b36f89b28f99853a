use Rattle.std.proofs.Common.{arith}
use Rattle.std.specs.BTreeMap as tree
use Rattle.std.proofs.lemmas.Grind.{common_steps}
use Rattle.decoration_rules.specs.Variables.{pair_cmp}
use Rattle.decoration_rules.proofs.SeatLaws.{crowd_of}
use Rattle.decoration_rules.proofs.resources.Resources.crowd.Goals as goal

pub returns : goal.returns
returns c = let f = crowd_of (tree.get pair_cmp c.self.inside.crowds) c.self.inside.decorations (c.args.set, c.args.binding) c.self.invariant in grind (arith, common_steps, f)
