use Rattle.std.proofs.Common.{◌≡◌, ℕ, List, length, ap, ◌∙◌, arith}
use Rattle.std.proofs.lemmas.Result.{IfOk-weaker}
use Rattle.dxil_form.specs.declared.region.Region.{Region}
use Rattle.dxil_form.specs.declared.region.Regions.{Regions}
use Rattle.dxil_form.specs.Wired.{Wired}
use Rattle.region_laws.specs.Roots.{closed}
use Rattle.region_laws.specs.Paths.{PassesAll}
use Rattle.region_leaves.specs.Leaves.{leaves_of, placed_from}
use Rattle.region_leaves.proofs.Rooted.{few_blocks}
use Rattle.dispatch_loop.specs.Whole.{IsOneDispatch}
use Rattle.dispatch_loop.proofs.Dispatching.{one_dispatch, dispatch_wired, dispatch_passes}
use Rattle.dispatch_loop.proofs.all.Goals as goal
use Rattle.dispatch_loop.proofs.all.Goals.{After-drop-blocks-inside-2}

pub leaf_roots-requires : goal.leaf_roots-requires
leaf_roots-requires c =
    let few = few_blocks c.args.p.now c.requires c.in_ok-blocks.blocks c.in_ok-blocks.ensures in
    let e = ap (λ (l : List ℕ). length l) c.as_slice-2.ensures in omega arith

is_closed : (c : After-drop-blocks-inside-2) (whole : List Region) → whole ≡ closed c.in_ok-list.list c.in_ok-roots.roots → whole ≡ closed (leaves_of c.in_ok-blocks.blocks) (placed_from 0 c.in_ok-blocks.blocks)
is_closed c whole e =
    let l : c.in_ok-list.list ≡ leaves_of c.in_ok-blocks.blocks = c.in_ok-list.ensures ∙ ap leaves_of c.as_slice.ensures in
    let r : c.in_ok-roots.roots ≡ placed_from 0 c.in_ok-blocks.blocks = c.in_ok-roots.ensures ∙ ap (placed_from 0) c.as_slice-2.ensures in
    e ∙ ap (λ (x : List Region). closed x c.in_ok-roots.roots) l ∙ ap (λ (x : List (ℕ × ℕ)). closed (leaves_of c.in_ok-blocks.blocks) x) r

pub returns-clause-exact : goal.returns-clause-exact
returns-clause-exact c =
    IfOk-weaker {X = Regions} c.close.result (λ r. r.list ≡ closed c.in_ok-list.list c.in_ok-roots.roots) (λ r. IsOneDispatch c.args.p.now r.list)
    (λ r e. one_dispatch c.args.p.now c.requires c.in_ok-blocks.blocks c.in_ok-blocks.ensures r.list (is_closed c r.list e)) c.close.ensures

pub returns-clause-wired : goal.returns-clause-wired
returns-clause-wired c =
    IfOk-weaker {X = Regions} c.close.result (λ r. r.list ≡ closed c.in_ok-list.list c.in_ok-roots.roots) (λ r. Wired c.args.p.now r.list)
    (λ r e. dispatch_wired c.args.p.now c.requires c.in_ok-blocks.blocks c.in_ok-blocks.ensures r.list (is_closed c r.list e)) c.close.ensures

pub returns-clause-passes : goal.returns-clause-passes
returns-clause-passes c =
    IfOk-weaker {X = Regions} c.close.result (λ r. r.list ≡ closed c.in_ok-list.list c.in_ok-roots.roots) (λ r. PassesAll c.args.p.now r.list)
    (λ r e. dispatch_passes c.args.p.now c.requires c.in_ok-blocks.blocks c.in_ok-blocks.ensures r.list (is_closed c r.list e)) c.close.ensures
