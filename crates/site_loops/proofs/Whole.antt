-- Each reachable block has a site, which stands in as many loop constructs as the block is deep.
use Rattle.std.proofs.Common.{◌≡◌, ℕ, ◌<◌, eqb, List, [], ◌∷◌, length, Some, sym, ◌∙◌, arith}
use Rattle.std.specs.Prelude.{◌^◌, slice_get}
use Rattle.std.specs.List.{list_any}
use Rattle.dxil_form.specs.declared.program.Program.{Program}
use Rattle.dxil_form.specs.declared.region.Region.{Region}
use Rattle.dxil_form.specs.declared.region.Region.TheVariants as region
use Rattle.dxil_form.specs.Graphs.{Graph, Path, IsHeadOver}
use Rattle.dxil_form.specs.Branches.{declared_graph, IsBranchGraph}
use Rattle.dxil_form.specs.Sound.{Sound}
use Rattle.dxil_form.specs.Wired.{Wired}
use Rattle.module_loops.proofs.Whole.{count_listed}
use Rattle.site_loops.specs.Laws.{SitesStandInTheirLoops}
use Rattle.site_loops.proofs.Hung.{leaf_under}
use Rattle.site_loops.proofs.Entries.{root_headers}
use Rattle.site_loops.proofs.Function.{leaf_site}

-- a block that is reached is a block
pub reached_below : (p : Program) → Sound p → (before : List ℕ) (b : ℕ) → Path (declared_graph p) 0 before b → b < length p.blocks
reached_below p sound [] b path =
    let begins = sound.begins in
    omega (arith, begins, path)
reached_below p sound (c ∷ before) b path = (sound.targets c b path.0).1

-- and so is a head
head_below : (p : Program) (g : Graph) (h b : ℕ) → Sound p → IsBranchGraph p g → IsHeadOver g h b → h < g.count
head_below p g h b sound graph o =
    let low = reached o.1.enters.1.0 h o.1.enters.1.1 in
    let count = graph.count in
    omega (arith, low, count)
  where
    reached : (before : List ℕ) (h : ℕ) → Path g 0 before h → h < length p.blocks
    reached [] h path =
        let begins = sound.begins in
        omega (arith, begins, path)
    reached (c ∷ before) h path = (sound.targets c h ((graph.edges c h).0 path.0).1).1

-- the block of a leaf is numbered by a word
pub words : (p : Program) (list : List Region) → Sound p → Wired p list → (r k : ℕ) → slice_get list r ≡ Some (region.Leaf k) → k < 2 ^ 32
words p list sound w r k e =
    let reach = w.reached r k e in
    let low = reached_below p sound reach.0 k reach.1 in
    let few = sound.counts.blocks in
    omega (arith, low, few)

pub stand_in_loops : SitesStandInTheirLoops
stand_in_loops p list at v plan blocks g b sound h regions structured reach =
    let w = h.wired in
    let nested = h.few blocks structured.reachable structured.few in
    let heads = nested.loops g structured.graph structured.uncrossed in
    let leaf = w.leaf b reach in
    let u = leaf_under p list g w (nested.no_dispatch g structured.graph structured.uncrossed) heads leaf.0 b leaf.1 in
    let headers = root_headers p list w (nested.no_dispatch g structured.graph structured.uncrossed) heads.once in
    let s = leaf_site p list at v plan w regions (words p list sound w) headers leaf.0 b u.over_it leaf.1 u.under in
    let counted = count_listed g.count u.heads u.once (λ k e. head_below p g k b sound structured.graph ((u.are_heads k).0 e)) in
    (s.place, length u.over_it, s.site, ((λ k. list_any (eqb k) u.heads), u.are_heads, u.long ∙ sym counted), s.loops)
