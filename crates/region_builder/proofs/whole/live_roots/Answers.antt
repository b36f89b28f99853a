use Rattle.std.proofs.Common.{◌+◌, ℕ, List, subst, sym}
use Rattle.flow_graph.specs.Shapes.{plain}
use Rattle.region_builder.specs.Children.{AreRoots}
use Rattle.region_builder.proofs.Leaving.{no_roots, root_on}
use Rattle.region_builder.proofs.whole.live_roots.Goals as goal

pub loop-i-init : goal.loop-i-init
loop-i-init c =
    let P : List (ℕ × ℕ) → Type 0 = λ l. AreRoots (plain c.args.graph.now) 0 c.args.blocks.now c.args.places.now l in
    subst P (sym c.new-roots.ensures) (no_roots (plain c.args.graph.now) c.args.blocks.now c.args.places.now)

pub loop-i-preserved : goal.loop-i-preserved
loop-i-preserved c =
    let P : List (ℕ × ℕ) → Type 0 = λ l. AreRoots (plain c.args.graph.now) (c.loop-i.i + 1) c.args.blocks.now c.args.places.now l in
    subst P (sym c.in_ok-add_root.ensures)
    (root_on (plain c.args.graph.now) c.loop-i.i c.args.blocks.now c.args.places.now c.loop-i.roots c.loop-i.invariant c.is_live-live.result c.is_live-live.ensures
    (λ i l. c.requires.rising i c.loop-i.i l c.loop-i-test.true))
