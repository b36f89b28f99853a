-- The code of a read keeps the rules, and gives a value of the operand's type.
use Rattle.std.proofs.Common.{◌≡◌, ℕ, ◌+◌, ◌<◌, ◌≤◌, true, false, List, [], ◌∷◌, get_or, Option, Some, None, refl, sym, ap, ◌∙◌, subst, arith, inl, inr, ⊎_elim}
use Rattle.std.specs.Prelude.{slice_get, nat_eq}
use Rattle.std.proofs.lemmas.List.Sums.{count_by_more_no}
use Rattle.std.proofs.lemmas.Option.{slice_get_within, get_or_from_slice_get}
use Rattle.dxil_form.specs.declared.value.Ty.{Ty}
use Rattle.dxil_form.specs.declared.value.Ty.TheVariants as ty
use Rattle.dxil_form.specs.declared.value.Reg.{Reg}
use Rattle.dxil_form.specs.declared.value.Operand.{Operand}
use Rattle.dxil_form.specs.declared.value.Operand.TheVariants as operand
use Rattle.dxil_form.specs.Registers.{Spot, Sets}
use Rattle.spv_form.specs.declared.module.Inst.{Inst}
use Rattle.spv_form.specs.Shapes.{shape_of}
use Rattle.spv_ids.specs.Roles.{type_of}
use Rattle.spv_ids.specs.Places.{is_op, block_of}
use Rattle.id_rules.specs.Uses.{is_misused}
use Rattle.type_rules.specs.Values.{points_to}
use Rattle.type_rules.specs.Fits.{group_of, fits}
use Rattle.spirv_code.specs.declared.key.Global.TheVariants.{Plain, Number, Truth}
use Rattle.spirv_code.specs.declared.key.Slot.{Slot}
use Rattle.spirv_code.specs.Plans.{Context, inst, result, type_id, sort_of, kept}
use Rattle.spirv_code.specs.Reads.{Env, read_size, read_code, read_id, reg_size, reg_code, reg_id}
use Rattle.spirv_code.specs.Needed.{operand_keys}
use Rattle.spirv_code.specs.Frame.{slot_sort}
use Rattle.line_runs.specs.Held.{Setting, Has, Uses}
use Rattle.line_runs.specs.Ready.{Ready}
use Rattle.line_runs.proofs.Tests.{none_some}
use Rattle.ruled_ids.proofs.Seats.{load_is}
use Rattle.ruled_lines.specs.Kept.{KeepsRules, AreKept, IsValueAt, KnownAt, AreUsed, StandsAhead}
use Rattle.ruled_lines.proofs.Values.{typed_reach}
use Rattle.ruled_lines.proofs.Facts.{key_reached, number_value, truth_value, local_reached, local_points}

-- ---- blocks

-- behind an instruction that is no label the block is the same
pub block_next : (insts : List Inst) (at : ℕ) (y : Inst) → slice_get insts at ≡ Some y → nat_eq y.opcode 248 ≡ false → block_of insts at ≡ block_of insts (at + 1)
unfolding block_of
block_next insts at y there other =
    let is : get_or insts at y ≡ y = get_or_from_slice_get insts at y y there in
    sym (count_by_more_no (is_op 248) insts at y (slice_get_within insts at y there) (ap (λ (x : Inst). nat_eq x.opcode 248) is ∙ other))

-- a value stays one, further on in the block
pub value_later : (insts : List Inst) (at later id type : ℕ) → at ≤ later → block_of insts at ≡ block_of insts later → IsValueAt insts at id type → IsValueAt insts later id type
value_later insts at later id type more one v =
    let before : v.place < at = v.before in
    record { place = v.place; by = v.by; there = v.there; defines = v.defines; typed = v.typed; before = omega (arith, before, more); near = ⊎_elim (λ outside. inl outside) (λ same. inr (same ∙ one)) v.near }

pub known_later : (s : Setting) (env : Env) (at later : ℕ) → at ≤ later → block_of s.made.insts at ≡ block_of s.made.insts later → KnownAt s env at → KnownAt s env later
known_later s env at later more one known reg id e b spot t sets =
    value_later s.made.insts at later id (type_id s.context t) more one (known reg id e b spot t sets)

-- ---- loads of variables

load_type : (t id v : ℕ) → type_of (inst 61 (t ∷ id ∷ v ∷ [])) ≡ Some t
unfolding type_of shape_of
load_type t id v = refl

pub load_fits : (insts : List Inst) (t id v : ℕ) → points_to insts t v ≡ true → fits insts (inst 61 (t ∷ id ∷ v ∷ [])) ≡ true
unfolding fits group_of
load_fits insts t id v points = points

module _ (s : Setting) (low : ℕ) (ahead : StandsAhead s low) where
  abbrev insts : List Inst
  insts = s.made.insts

  abbrev c : Context
  c = s.context

  -- a load of a variable of the function
  pub load_kept : (at t id v : ℕ) (slot : Slot) → c.slot slot ≡ Some v → c.key (Plain (slot_sort slot)) ≡ t → Uses s (Plain (slot_sort slot)) → low ≤ at → KeepsRules insts at (inst 61 (t ∷ id ∷ v ∷ []))
  unfolding shape_of
  load_kept at t id v slot there type uses behind =
      let x : Inst = inst 61 (t ∷ id ∷ v ∷ []) in
      let type_ok = subst (λ n. is_misused insts at x n ≡ false) type (key_reached s low ahead at x (Plain (slot_sort slot)) uses behind) in
      let points = subst (λ n. points_to insts n v ≡ true) type (local_points s low ahead slot v there) in
      record {
        in_reach = typed_reach insts ahead.once at 61 t id (v ∷ []) 1 1 refl type_ok (local_reached s low ahead at x slot v there behind, tt);
        fitting = load_fits insts t id v points;
        writable = λ pointer e read_only. none_some e;
      }

  -- what a read leaves: its code keeps the rules, and the operand is a value behind it
  pub record Read_at (env : Env) (place : ℕ) (a : Operand) (t : Ty) : Type 0 where
    pub kept : AreKept insts place (read_code c env place a)
    pub value : IsValueAt insts (place + read_size c env a) (read_id c env place a) (type_id c t)
    pub block : block_of insts place ≡ block_of insts (place + read_size c env a)

  sort_same : (reg : Reg) (t : Ty) → c.key (Plain (slot_sort (kept reg t))) ≡ type_id c t
  sort_same reg ty.Int = refl
  sort_same reg ty.Bool = refl

  at_once : (env : Env) (place : ℕ) (a : Operand) (id type : ℕ) → IsValueAt insts place id type → IsValueAt insts (place + 0) id type
  at_once env place a id type v =
      let same : place ≡ place + 0 = omega arith in
      subst (λ n. IsValueAt insts n id type) same v

  -- a register
  reg_read : (place : ℕ) (reg : Reg) (t : Ty) (known slot : Option ℕ) → low ≤ place → Uses s (Plain (sort_of t)) → ((id : ℕ) → known ≡ Some id → IsValueAt insts place id (type_id c t)) → c.slot (kept reg t) ≡ slot → (known ≡ None → slot ≡ None → ⊥) → Has s.made place (reg_code c place t known slot) → AreKept insts place (reg_code c place t known slot) × IsValueAt insts (place + reg_size known slot) (reg_id c place t known slot) (type_id c t) × (block_of insts place ≡ block_of insts (place + reg_size known slot))
  reg_read place reg t (Some id) slot behind uses value there can has =
      let same : place ≡ place + 0 = omega arith in
      (tt, subst (λ n. IsValueAt insts n id (type_id c t)) same (value id refl), ap (block_of insts) same)
  reg_read place reg t None None behind uses value there can has = absurd (can refl refl)
  reg_read place reg t None (Some v) behind uses value there can has =
      let type = sort_same reg t in
      let used = by_sort t uses in
      let one = block_next insts place (inst 61 (type_id c t ∷ result c place ∷ v ∷ [])) has.0 refl in
      ((load_kept place (type_id c t) (result c place) v (kept reg t) there type used behind, tt), record { place = place; by = inst 61 (type_id c t ∷ result c place ∷ v ∷ []); there = has.0; defines = load_is (type_id c t) (result c place) v; typed = load_type (type_id c t) (result c place) v; before = omega arith; near = inr one }, one)
    where
      by_sort : (t : Ty) → Uses s (Plain (sort_of t)) → Uses s (Plain (slot_sort (kept reg t)))
      by_sort ty.Int u = u
      by_sort ty.Bool u = u

  -- what is known of a register is of the type with which it is read
  known_typed : (env : Env) (place : ℕ) (reg : Reg) (u t : Ty) → u ≡ t → ((b : ℕ) × (spot : Spot) × Sets s.program b spot reg u) → KnownAt s env place → (id : ℕ) → env reg ≡ Some id → IsValueAt insts place id (type_id c u)
  known_typed env place reg u t same sets known id e = known reg id e sets.0 sets.1 u sets.2

  pub read_at : (env : Env) (place : ℕ) (a : Operand) (t : Ty) → low ≤ place → Ready s env a t → AreUsed s (operand_keys a) → KnownAt s env place → Has s.made place (read_code c env place a) → Read_at env place a t
  read_at env place (operand.Reg reg u) t behind ready used known has =
      let uses = used (Plain (sort_of u)) (0, omega arith, refl) tt in
      let r = reg_read place reg u (env reg) (c.slot (kept reg u)) behind uses (known_typed env place reg u t ready.typed.0 ready.typed.1 known) refl ready.can has in
      record { kept = r.0; value = subst (λ v. IsValueAt insts (place + read_size c env (operand.Reg reg u)) (read_id c env place (operand.Reg reg u)) (type_id c v)) ready.typed.0 r.1; block = r.2 }
  read_at env place (operand.Int n) t behind ready used known has =
      let same : place ≡ place + 0 = omega arith in
      record { kept = tt; value = subst (λ v. IsValueAt insts (place + 0) (c.key (Number n)) (type_id c v)) ready.typed (at_once env place (operand.Int n) (c.key (Number n)) (type_id c ty.Int) (number_value s low ahead place n ready.needs behind)); block = ap (block_of insts) same }
  read_at env place (operand.Bool b) t behind ready used known has =
      let same : place ≡ place + 0 = omega arith in
      record { kept = tt; value = subst (λ v. IsValueAt insts (place + 0) (c.key (Truth b)) (type_id c v)) ready.typed (at_once env place (operand.Bool b) (c.key (Truth b)) (type_id c ty.Bool) (truth_value s low ahead place b ready.needs behind)); block = ap (block_of insts) same }
  read_at env place (operand.Undef ty.Int) t behind ready used known has =
      let same : place ≡ place + 0 = omega arith in
      record { kept = tt; value = subst (λ v. IsValueAt insts (place + 0) (c.key (Number 0)) (type_id c v)) ready.typed (at_once env place (operand.Undef ty.Int) (c.key (Number 0)) (type_id c ty.Int) (number_value s low ahead place 0 ready.needs behind)); block = ap (block_of insts) same }
  read_at env place (operand.Undef ty.Bool) t behind ready used known has =
      let same : place ≡ place + 0 = omega arith in
      record { kept = tt; value = subst (λ v. IsValueAt insts (place + 0) (c.key (Truth false)) (type_id c v)) ready.typed (at_once env place (operand.Undef ty.Bool) (c.key (Truth false)) (type_id c ty.Bool) (truth_value s low ahead place false ready.needs behind)); block = ap (block_of insts) same }
