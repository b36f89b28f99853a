-- Stores to variables of the function keep the rules.
use Rattle.std.proofs.Common.{◌≡◌, ℕ, ◌≤◌, Bool, true, false, List, [], ◌∷◌, Option, Some, None, refl, sym, ap, ◌∙◌, subst, arith}
use Rattle.std.specs.Prelude.{slice_get, option_and_then}
use Rattle.std.specs.Option.{option_map_or}
use Rattle.dxil_form.specs.declared.value.Ty.{Ty}
use Rattle.dxil_form.specs.declared.value.Ty.TheVariants as ty
use Rattle.dxil_form.specs.declared.value.Reg.{Reg}
use Rattle.spv_form.specs.declared.module.Inst.{Inst}
use Rattle.spv_form.specs.Shapes.{shape_of}
use Rattle.spv_ids.specs.Ids.{definition}
use Rattle.type_rules.specs.Values.{value_type, points_to}
use Rattle.type_rules.specs.Fits.{group_of, fits, store_fits}
use Rattle.decoration_rules.specs.ReadOnly.{IsDefinedAt, IsReadOnly, variable, chain}
use Rattle.spirv_code.specs.declared.key.Storage.TheVariants as storage
use Rattle.spirv_code.specs.declared.key.Global.TheVariants.{Plain, Pointer, Buffer}
use Rattle.spirv_code.specs.declared.key.Slot.{Slot}
use Rattle.spirv_code.specs.Keys.{storage_class}
use Rattle.spirv_code.specs.Plans.{Context, inst, type_id, kept}
use Rattle.spirv_code.specs.Reads.{store_code, keep_code}
use Rattle.spirv_code.specs.Frame.{rowed, buffer_storage, declaration, slot_sort, slot_start, slot_variable}
use Rattle.line_runs.specs.Held.{Setting}
use Rattle.line_runs.proofs.Tests.{some_inj}
use Rattle.ruled_ids.proofs.Declared.{declaration_is}
use Rattle.ruled_lines.specs.Kept.{KeepsRules, AreKept, IsValueAt, StandsAhead}
use Rattle.ruled_lines.proofs.Values.{definition_is, value_reached, value_type_is, bare_reach}
use Rattle.ruled_lines.proofs.Facts.{variable_is, local_reached, local_points}

pub store_fits_as : (insts : List Inst) (v id type : ℕ) → value_type insts id ≡ Some type → points_to insts type v ≡ true → fits insts (inst 62 (v ∷ id ∷ [])) ≡ true
unfolding fits group_of store_fits
store_fits_as insts v id type is points =
    ap (λ o. option_map_or (λ t. points_to insts t v) o false) is ∙ points

-- the definition of an id, by its place
pub defined_by : (insts : List Inst) (id i : ℕ) (x : Inst) → IsDefinedAt insts id i x → definition insts id ≡ Some x
unfolding definition
defined_by insts id i x d = ap (λ o. option_and_then (slice_get insts) o) d.definer_is ∙ d.there

module _ (s : Setting) (low : ℕ) (ahead : StandsAhead s low) where
  abbrev insts : List Inst
  insts = s.made.insts

  abbrev c : Context
  c = s.context

  local_is : (slot : Slot) (id : ℕ) → c.slot slot ≡ Some id → definition insts id ≡ Some (slot_variable c.key id slot)
  local_is slot id e =
      let there = ahead.slots slot id e in
      definition_is insts ahead.once there.0 id (slot_variable c.key id slot) there.1 (variable_is (c.key (Pointer storage.Function (slot_sort slot))) id 7 (c.key (slot_start slot)))

  -- a variable of the function is no buffer, and none that is made by a chain
  local_writable : (slot : Slot) (id : ℕ) → c.slot slot ≡ Some id → IsReadOnly insts id → ⊥
  local_writable slot id e (variable v i x d opcode mark) =
      let b = ahead.marks v mark in
      let buffer = definition_is insts ahead.once b.stands.0 v (declaration s.program c.key v (Buffer b.r)) b.stands.1 (declaration_is s.program c.key v (Buffer b.r)) in
      other_class (rowed s.program b.r) (ap (λ (y : Inst). slice_get y.operands 2) (some_inj (sym (local_is slot v e) ∙ buffer)))
    where
      other_class : (rows : Bool) → Some 7 ≡ Some (storage_class (buffer_storage rows)) → ⊥
      other_class true same = let clash : 7 ≡ 2 = some_inj same in omega (arith, clash)
      other_class false same = let clash : 7 ≡ 12 = some_inj same in omega (arith, clash)
  local_writable slot id e (chain q i j x d opcode base before more) =
      let same = some_inj (sym (local_is slot q e) ∙ defined_by insts q i x d) in
      let clash : 59 ≡ 65 = ap (λ (y : Inst). y.opcode) same ∙ opcode in
      omega (arith, clash)

  pub store_kept : (at v id type : ℕ) (slot : Slot) → c.slot slot ≡ Some v → c.key (Plain (slot_sort slot)) ≡ type → IsValueAt insts at id type → low ≤ at → KeepsRules insts at (inst 62 (v ∷ id ∷ []))
  unfolding shape_of
  store_kept at v id type slot there is value behind =
      let x : Inst = inst 62 (v ∷ id ∷ []) in
      record {
        in_reach = bare_reach insts ahead.once at 62 (v ∷ id ∷ []) 2 2 refl (local_reached s low ahead at x slot v there behind, (value_reached insts ahead.once at x id type value, tt));
        fitting = store_fits_as insts v id type (value_type_is insts ahead.once at id type value) (subst (λ n. points_to insts n v ≡ true) is (local_points s low ahead slot v there));
        writable = λ pointer e read_only. local_writable slot v there (subst (IsReadOnly insts) (sym (some_inj e)) read_only);
      }

  sort_is : (reg : Reg) (t : Ty) → c.key (Plain (slot_sort (kept reg t))) ≡ type_id c t
  sort_is reg ty.Int = refl
  sort_is reg ty.Bool = refl

  stored : (at id : ℕ) (reg : Reg) (t : Ty) (slot : Option ℕ) → c.slot (kept reg t) ≡ slot → IsValueAt insts at id (type_id c t) → low ≤ at → AreKept insts at (store_code slot id)
  stored at id reg t None there value behind = tt
  stored at id reg t (Some v) there value behind =
      (store_kept at v id (type_id c t) (kept reg t) there (sort_is reg t) value behind, tt)

  -- a register that has a variable is stored there
  pub keep_kept : (at id : ℕ) (reg : Reg) (t : Ty) → IsValueAt insts at id (type_id c t) → low ≤ at → AreKept insts at (keep_code c reg t id)
  keep_kept at id reg t value behind = stored at id reg t (c.slot (kept reg t)) refl value behind
