use Rattle.std.proofs.Common.{arith, ℕ, subst, length, get_or, ◌≡◌, ◌<◌, ◌∙◌}
use Rattle.std.proofs.lemmas.List.{length-set}
use Rattle.region_builder.specs.Nodes.{AreNodes}
use Rattle.region_builder.proofs.Naming.{first_nodes, more_nodes}
use Rattle.region_builder.proofs.partial.nodes_of.Goals as goal

pub loop-i-init : goal.loop-i-init
loop-i-init c = record { len = c.in_ok-nodes.ensures.len; are = first_nodes c.args.blocks.now c.args.count c.in_ok-nodes.nodes.items c.in_ok-nodes.ensures.items }

pub loop-i-preserved : goal.loop-i-preserved
loop-i-preserved c = record {
  len = length-set c.loop-i.nodes.items _ _ ∙ c.loop-i.invariant.len;
  are = (let w : get_or c.args.blocks.now c.loop-i.i 0 < length c.loop-i.nodes.items = omega (arith, c.requires.within c.loop-i.i c.loop-i-test.true, c.loop-i.invariant.len) in
      more_nodes c.args.blocks.now c.loop-i.i c.loop-i.nodes.items c.loop-i-test.true c.requires.rising w c.loop-i.invariant.are);
}

pub returns-clause-exact : goal.returns-clause-exact
returns-clause-exact c =
    let e : c.loop-i.i ≡ length c.args.blocks.now = omega arith in
    let P : ℕ → Type 0 = λ n. AreNodes c.args.blocks.now n c.loop-i.nodes.items in subst P e c.loop-i.invariant.are
