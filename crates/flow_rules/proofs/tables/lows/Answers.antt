use Rattle.std.proofs.Common.{arith, ◌≡◌, ◌≤◌, ◌++◌, ◌∷◌, [], List, ℕ, sym, subst, length}
use Rattle.std.proofs.lemmas.Grind.{common_steps}
use Rattle.flow_rules.specs.Lists.{IsLow, AreLows}
use Rattle.flow_rules.proofs.Blocks.{at_index, at_below}
use Rattle.flow_rules.proofs.Numbers.{values_more}
use Rattle.flow_rules.proofs.tables.lows.Goals as goal

pub loop-p-preserved : goal.loop-p-preserved
loop-p-preserved c =
    let pushed : c.push.new.self.items ≡ c.loop-p.values.items ++ c.low_of.result ∷ [] = grind (arith, common_steps) in
    let at = at_index c.args.blocks.now c.loop-p.p c.index-blocks-p.result c.loop-p-test.true c.index-blocks-p.is in
    values_more IsLow c.args.blocks.now c.loop-p.p c.low_of.result c.index-blocks-p.result c.loop-p.values.items c.push.new.self.items at c.low_of.ensures c.loop-p.invariant.0 pushed c.loop-p.invariant.1

pub returns : goal.returns
returns c =
    let end : length c.args.blocks.now ≤ c.loop-p.p = c.loop-p-test.false in
    let near : c.loop-p.p ≤ length c.args.blocks.now = omega arith in
    subst (λ (v : List ℕ). AreLows c.args.blocks.now v) (sym c.in_ok-table.ensures) (record {
      counted = omega (arith, c.loop-p.invariant.0);
      each = λ q b at. c.loop-p.invariant.1 q b (let w = at_below c.args.blocks.now q b at in omega arith) at;
    })
