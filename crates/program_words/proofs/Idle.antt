-- The words of a program that does nothing, by computation.
use Rattle.std.proofs.Common.{◌≡◌, ℕ, zero, suc, true, List, [], ◌∷◌, map, Some, refl, sym, ap, ◌∙◌, arith}
use Rattle.std.proofs.lemmas.Option.{none-some}
use Rattle.std.proofs.lemmas.List.Concat.{flat_map-cons}
use Rattle.std.specs.List.{slice_get}
use Rattle.dxil_form.specs.declared.block.Block.{Block}
use Rattle.dxil_form.specs.declared.program.Program.{Program}
use Rattle.dxil_form.specs.declared.region.Region.{Region}
use Rattle.dxil_form.specs.declared.region.Region.TheVariants.{Leaf}
use Rattle.dxil_form.specs.Graphs.{Reached}
use Rattle.dxil_form.specs.Branches.{branches, declared_graph, targets_in, has}
use Rattle.dxil_form.specs.declared.value.Ty.{Ty}
use Rattle.dxil_form.specs.declared.value.Reg.{Reg}
use Rattle.dxil_form.specs.Registers.{Spot, At_phi, At_line, SetsAt}
use Rattle.phi_demotion.specs.declared.slots.PhiSlot.{PhiSlot}
use Rattle.phi_demotion.specs.declared.slots.CrossSlot.{CrossSlot}
use Rattle.phi_demotion.specs.declared.slots.Slots.{Slots}
use Rattle.phi_demotion.specs.Slots.{AreSlots, of_phi, of_slot, phis_of}
use Rattle.region_laws.proofs.Places.{has_get, get_has}
use Rattle.region_leaves.specs.Leaves.{AreReachable}
use Rattle.program_regions.specs.Chosen.{AreRegions}
use Rattle.spv_form.specs.declared.module.Version.{Version}
use Rattle.spirv_meaning.specs.Bindings.{Bindings}
use Rattle.spirv_words.specs.Written.{module_words}
use Rattle.spirv_code.specs.Frame.{module_of}
use Rattle.chosen_plan.specs.Chosen.{plan_for}
use Rattle.program_words.specs.Words.{idle_block, IsIdle, idle_words}

-- ---- the slots

block_is : (b : ℕ) (block : Block) → slice_get (idle_block ∷ []) b ≡ Some block → idle_block ≡ block
block_is zero block h = cc
block_is (suc b) block h = absurd (none-some block h)

sets_nothing : (block : Block) → idle_block ≡ block → (spot : Spot) (reg : Reg) (ty : Ty) → SetsAt block spot reg ty → ⊥
sets_nothing block e (At_phi n) reg ty s = none-some s.0 (ap (λ (x : Block). slice_get x.phis n) e ∙ s.1)
sets_nothing block e (At_line n) reg ty s = none-some s.0 (ap (λ (x : Block). slice_get x.instrs n) e ∙ s.1)

no_phis : (phis : List PhiSlot) → map of_slot phis ≡ [] → phis ≡ []
no_phis [] e = refl
no_phis (s ∷ phis) e = absurd (cc)

module _ (p : Program) (idle : IsIdle p) where
  phis_none : (slots : Slots) → AreSlots p slots → slots.phis ≡ []
  phis_none slots are =
      no_phis slots.phis (are.phis ∙ ap (λ (blocks : List Block). map of_phi (phis_of blocks)) idle ∙ ap (map of_phi) (flat_map-cons (λ (block : Block). block.phis) idle_block []))

  crossing_none : (slots : Slots) → AreSlots p slots → slots.crossing ≡ []
  crossing_none slots are = by_list slots.crossing refl
    where
      by_list : (crossing : List CrossSlot) → slots.crossing ≡ crossing → crossing ≡ []
      by_list [] e = refl
      by_list (s ∷ rest) e =
          let (b, spot, sets) = are.types 0 s (ap (λ (xs : List CrossSlot). slice_get xs 0) e) in
          absurd (sets_nothing sets.block (block_is b sets.block (ap (λ (blocks : List Block). slice_get blocks b) (sym idle) ∙ sets.stands)) spot s.reg s.ty sets.sets)

  -- ---- the regions

  no_branch : (b k : ℕ) → branches p b k ≡ true → ⊥
  no_branch b k t = by_block b (ap (λ (blocks : List Block). has k (targets_in (slice_get blocks b))) (sym idle) ∙ t)
    where
      by_block : (b : ℕ) → has k (targets_in (slice_get (idle_block ∷ []) b)) ≡ true → ⊥
      by_block zero h = cc
      by_block (suc b) h = cc

  first_alone : (b : ℕ) → Reached (declared_graph p) b → 0 ≡ b
  first_alone b ([], path) = path
  first_alone b (c ∷ before, path) = absurd (no_branch c b path.0)

  reachable : AreReachable p (0 ∷ [])
  reachable = record {
    rising = λ i j l m. absurd (omega arith);
    all = λ b r. has_get (0 ∷ []) 0 b (ap Some (first_alone b r));
    only = λ b h. let (i, g) = get_has (0 ∷ []) b h in first i b g;
  }
    where
      first : (i b : ℕ) → slice_get (0 ∷ []) i ≡ Some b → Reached (declared_graph p) b
      first zero b h = ([], cc)
      first (suc i) b h = absurd (none-some b h)

  pub idle_list : (list : List Region) → AreRegions p list → list ≡ Leaf 0 ∷ []
  idle_list list are = are.one (0 ∷ []) reachable refl

-- ---- the words

module _ (p : Program) (at : Bindings) (version : Version) (count : ℕ) where
  abbrev pub plain : Program
  plain = record { «local» = p.local; resources = p.resources; shared = p.shared; blocks = idle_block ∷ [] }

  abbrev no_slots : Slots
  no_slots = record { phis = []; crossing = []; count = count }

  pub plain_words : module_words (module_of plain (Leaf 0 ∷ []) at version (plan_for plain (Leaf 0 ∷ []) no_slots)) ≡ idle_words version p.local
  plain_words = refl

-- the words, by what they are made of
abbrev words_by : Bindings → Version → Program → List Region → Slots → List ℕ
words_by at version p list slots = module_words (module_of p list at version (plan_for p list slots))

pub words_idle : (p : Program) (list : List Region) (slots : Slots) (at : Bindings) (version : Version) → IsIdle p → AreRegions p list → AreSlots p slots → module_words (module_of p list at version (plan_for p list slots)) ≡ idle_words version p.local
words_idle p list slots at version idle regions are =
    ap (λ (x : List Region). words_by at version p x slots) (idle_list p idle list regions) ∙ ap (λ (blocks : List Block). words_by at version (record { «local» = p.local; resources = p.resources; shared = p.shared; blocks = blocks }) (Leaf 0 ∷ []) slots) idle ∙ ap (λ (phis : List PhiSlot). words_by at version (plain p at version slots.count) (Leaf 0 ∷ []) (record { phis = phis; crossing = slots.crossing; count = slots.count })) (phis_none p idle slots are) ∙ ap (λ (crossing : List CrossSlot). words_by at version (plain p at version slots.count) (Leaf 0 ∷ []) (record { phis = []; crossing = crossing; count = slots.count })) (crossing_none p idle slots are) ∙ plain_words p at version slots.count
