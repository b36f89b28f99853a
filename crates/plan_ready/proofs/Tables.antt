-- What is in the table of a program.
use Rattle.std.proofs.Common.{◌≡◌, ℕ, zero, suc, Bool, true, List, [], ◌∷◌, ◌++◌, Some, sym, subst, inl, inr}
use Rattle.std.specs.Prelude.{slice_get}
use Rattle.dxil_form.specs.declared.block.Block.{Block}
use Rattle.dxil_form.specs.declared.program.Program.{Program}
use Rattle.dxil_form.specs.declared.region.Region.{Region}
use Rattle.dxil_form.specs.declared.region.Region.TheVariants as region
use Rattle.spirv_code.specs.declared.key.Global.{Global}
use Rattle.spirv_code.specs.declared.key.Slot.{Slot}
use Rattle.spirv_code.specs.Keys.{has_key}
use Rattle.spirv_code.specs.Needed.{add_whole, add_all, block_keys, block_keys_at, region_keys, regions_keys, slots_keys, want_keys, table_of}
use Rattle.line_runs.proofs.Tests.{some_inj}
use Rattle.frame_facts.proofs.Tabled.{IsKnown, all_keeps, add_whole_has}
use Rattle.plan_ready.proofs.Among.{Among, among_front, among_back}

-- ---- keys that are added

pub all_have : (p : Program) (gs t : List Global) (g : Global) → Among g gs → IsKnown p g → has_key (add_all p t gs) g ≡ true
all_have p [] t g h d = absurd h
all_have p (x ∷ gs) t g (inl e) d =
    all_keeps p (add_whole p t x) gs g (subst (λ y. has_key (add_whole p t y) g ≡ true) e (add_whole_has p t g d))
all_have p (x ∷ gs) t g (inr h) d = all_have p gs (add_whole p t x) g h d

-- ---- the table of a program

pub leaf_among : (p : Program) (wants : Bool) (list : List Region) (r b : ℕ) (block : Block) (g : Global) → slice_get list r ≡ Some (region.Leaf b) → slice_get p.blocks b ≡ Some block → Among g (block_keys p wants block) → Among g (regions_keys p wants list)
leaf_among p wants [] r b block g e stands h = absurd (cc)
leaf_among p wants (x ∷ list) zero b block g e stands h =
    let here : Among g (block_keys_at p wants (slice_get p.blocks b)) = subst (λ o. Among g (block_keys_at p wants o)) (sym stands) h in
    among_front g (region_keys p wants x) (regions_keys p wants list) (subst (λ y. Among g (region_keys p wants y)) (sym (some_inj e)) here)
leaf_among p wants (x ∷ list) (suc r) b block g e stands h =
    among_back g (region_keys p wants x) (regions_keys p wants list) (leaf_among p wants list r b block g e stands h)

-- what a leaf's block names is in the table
pub table_has : (p : Program) (list : List Region) (wants : Bool) (slots : List Slot) (r b : ℕ) (block : Block) (g : Global) → slice_get list r ≡ Some (region.Leaf b) → slice_get p.blocks b ≡ Some block → Among g (block_keys p wants block) → IsKnown p g → has_key (table_of p list wants slots) g ≡ true
table_has p list wants slots r b block g leaf stands h d =
    let rest : List Global = want_keys p wants ++ regions_keys p wants list in
    all_have p (slots_keys slots ++ rest) [] g (among_back g (slots_keys slots) rest (among_back g (want_keys p wants) (regions_keys p wants list) (leaf_among p wants list r b block g leaf stands h))) d
