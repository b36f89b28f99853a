use Rattle.std.proofs.Common.{arith, ◌≡◌, ◌++◌, ◌∷◌, []}
use Rattle.std.proofs.lemmas.Grind.{common_steps}
use Rattle.id_rules.proofs.BlockLaws.{counting_first, counting_more, counting_all}
use Rattle.id_rules.proofs.blocks.labels_before.Goals as goal

pub loop-inst-init : goal.loop-inst-init
loop-inst-init c = counting_first _ _ c.in-Ok.ensures.items

pub loop-inst-preserved : goal.loop-inst-preserved
loop-inst-preserved c =
    let pushed : c.push.new.self.items ≡ c.loop-inst.before.items ++ c.loop-inst.labels ∷ [] = grind (arith, common_steps) in
    counting_more _ _ _ c.push.new.self.items _ c.counted-labels.result c.inst-item.result c.loop-inst.invariant c.loop-inst-test.true c.inst-item.is pushed c.counted-labels.ensures

pub returns : goal.returns
returns c = counting_all _ _ _ _ c.loop-inst.invariant c.loop-inst-test.false c.loop-inst.auto.inst-index-end
