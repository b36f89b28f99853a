use Rattle.std.proofs.Common.{refl, arith, length, ◌<◌}
use Rattle.std.proofs.lemmas.Grind.{common_steps}
use Rattle.flow_rules.proofs.Parts.{froms_of}
use Rattle.flow_rules.proofs.lists.push_froms.Goals as goal

pub returns : goal.returns
returns c =
    let some : 0 < length c.args.starts.now = grind (arith, common_steps) in
    froms_of c.args.starts.now _ c.args.spans.now.items c.push_targets.new.spans.items some refl c.in_ok-push_targets.ensures
