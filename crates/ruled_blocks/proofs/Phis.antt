-- The phis at the head of a block keep the rules.
use Rattle.std.proofs.Common.{◌≡◌, ℕ, suc, ◌+◌, ◌≤◌, true, List, [], ◌∷◌, Some, refl, sym, ap, ◌∙◌, subst, arith}
use Rattle.std.specs.Prelude.{slice_get}
use Rattle.dxil_form.specs.declared.value.Ty.{Ty}
use Rattle.dxil_form.specs.declared.value.Ty.TheVariants as ty
use Rattle.dxil_form.specs.declared.value.Reg.{Reg}
use Rattle.dxil_form.specs.declared.block.Phi.{Phi}
use Rattle.spv_form.specs.declared.module.Inst.{Inst}
use Rattle.spv_form.specs.declared.shape.Shape.TheVariants.{Plain}
use Rattle.spv_form.specs.Shapes.{shape_of}
use Rattle.spv_ids.specs.Places.{block_of}
use Rattle.spirv_code.specs.declared.key.Storage.TheVariants as storage
use Rattle.spirv_code.specs.declared.key.Global.TheVariants.{Plain as PlainKey, Pointer}
use Rattle.spirv_code.specs.declared.key.Slot.{Slot}
use Rattle.spirv_code.specs.Plans.{Context, inst, result, type_id, sort_of, zero_of, kept, coming, variable, id_or_0}
use Rattle.spirv_code.specs.Reads.{Env, with_id}
use Rattle.spirv_code.specs.Frame.{slot_sort, slot_start}
use Rattle.spirv_code.specs.Leaves.{phi_code, group_code, group_env}
use Rattle.line_runs.specs.Held.{Setting, Has, Uses}
use Rattle.leaf_runs.specs.BlockReady.{HasVariable, PhiReady}
use Rattle.access_runs.proofs.Stepping.{has_at}
use Rattle.ruled_lines.specs.Kept.{KeepsRules, IsValueAt, KnownAt, StandsAhead}
use Rattle.ruled_lines.proofs.Readings.{block_next, value_later, known_later, load_kept}
use Rattle.ruled_lines.proofs.Stores.{store_kept}
use Rattle.ruled_lines.proofs.Operations.{made_value}
use Rattle.ruled_lines.proofs.Going.{Goes, with_known}
use Rattle.ruled_lines.proofs.Zeros.{goes_on, stays}

pub coming_sort : (reg : Reg) (t : Ty) → slot_sort (coming reg t) ≡ sort_of t
coming_sort reg ty.Int = refl
coming_sort reg ty.Bool = refl

pub coming_start : (reg : Reg) (t : Ty) → slot_start (coming reg t) ≡ zero_of t
coming_start reg ty.Int = refl
coming_start reg ty.Bool = refl

pub kept_sort : (reg : Reg) (t : Ty) → slot_sort (kept reg t) ≡ sort_of t
kept_sort reg ty.Int = refl
kept_sort reg ty.Bool = refl

pub load_shape : shape_of 61 ≡ Some (Plain true true 1 1 0)
unfolding shape_of
load_shape = refl

module _ (s : Setting) (low : ℕ) (ahead : StandsAhead s low) where
  abbrev insts : List Inst
  insts = s.made.insts

  abbrev c : Context
  c = s.context

  -- the type of a variable is declared
  pub sort_used : (slot : Slot) → HasVariable s slot → Uses s (PlainKey (slot_sort slot))
  sort_used slot v =
      (ahead.closed (Pointer storage.Function (slot_sort slot)) (ahead.slots slot v.0 v.1).3.0).0

  pub load_slot : (at id : ℕ) (slot : Slot) (t : Ty) → HasVariable s slot → slot_sort slot ≡ sort_of t → low ≤ at → KeepsRules insts at (inst 61 (type_id c t ∷ id ∷ variable c slot ∷ []))
  load_slot at id slot t v e behind =
      subst (λ n. KeepsRules insts at (inst 61 (type_id c t ∷ id ∷ n ∷ []))) (sym (ap id_or_0 v.1)) (load_kept s low ahead at (type_id c t) id v.0 slot v.1 (ap (λ o. c.key (PlainKey o)) e) (sort_used slot v) behind)

  pub store_slot : (at id : ℕ) (slot : Slot) (t : Ty) → HasVariable s slot → slot_sort slot ≡ sort_of t → low ≤ at → IsValueAt insts at id (type_id c t) → KeepsRules insts at (inst 62 (variable c slot ∷ id ∷ []))
  store_slot at id slot t v e behind value =
      subst (λ n. KeepsRules insts at (inst 62 (n ∷ id ∷ []))) (sym (ap id_or_0 v.1)) (store_kept s low ahead at v.0 id (type_id c t) slot v.1 (ap (λ o. c.key (PlainKey o)) e) value behind)

  pub group_goes : (phis : List Phi) (env : Env) (place : ℕ) → low ≤ place → ((n : ℕ) (phi : Phi) → slice_get phis n ≡ Some phi → PhiReady s phi) → KnownAt s env place → Has s.made place (group_code c place phis) → Goes s place (group_code c place phis) (group_env c env place phis)
  group_goes [] env place behind ready known has = stays s place env known
  group_goes (phi ∷ phis) env place behind ready known has =
      let h = ready 0 phi refl in
      let t : Ty = phi.ty in
      let id : ℕ = result c place in
      let env' : Env = with_id phi.to id env in
      let load : Inst = inst 61 (type_id c t ∷ id ∷ variable c (coming phi.to t) ∷ []) in
      let store : Inst = inst 62 (variable c (kept phi.to t) ∷ id ∷ []) in
      let value = made_value s low ahead place 61 (type_id c t) id (variable c (coming phi.to t) ∷ []) 1 1 0 has.0 load_shape refl in
      let one = block_next insts place load has.0 refl in
      let two = block_next insts (place + 1) store has.1.0 refl in
      let e : place + 1 + 1 ≡ place + 2 = omega arith in
      let both = two ∙ ap (λ n. block_of insts n) e in
      let known' = with_known s env (place + 2) id phi.to t (known_later s env place (place + 2) (omega arith) (one ∙ both) known) h.one (value_later insts (place + 1) (place + 2) id (type_id c t) (omega arith) both value) in
      let first = load_slot place id (coming phi.to t) t h.next (coming_sort phi.to t) behind in
      let second = store_slot (place + 1) id (kept phi.to t) t h.own (kept_sort phi.to t) (omega (arith, behind)) value in
      goes_on s place (phi_code c place phi) (group_code c (place + 2) phis) (group_env c env' (place + 2) phis) (first, (second, tt)) (group_goes phis env' (place + 2) (omega (arith, behind)) (λ n. ready (suc n)) known' (has_at s.made (place + 1 + 1) (place + 2) (group_code c (place + 2) phis) e has.1.1))
