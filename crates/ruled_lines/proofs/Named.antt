-- Lines that name inputs, buffers and scopes keep the rules: the numbers of the invocation, sizes and barriers; and copies.
use Rattle.std.proofs.Common.{◌≡◌, ◌≢◌, ℕ, zero, suc, ◌<◌, ◌≤◌, Bool, true, false, List, [], ◌∷◌, get_or, Some, refl, sym, ap, ◌∙◌, subst, arith}
use Rattle.std.specs.Prelude.{nat_eq, ◌&&◌}
use Rattle.dxil_form.specs.declared.instr.Scope.{Scope}
use Rattle.spv_form.specs.declared.module.Inst.{Inst}
use Rattle.spv_form.specs.declared.shape.Shape.TheVariants.{Plain}
use Rattle.spv_form.specs.Operands.{is_id}
use Rattle.spv_form.specs.Shapes.{shape_of}
use Rattle.spv_ids.specs.Roles.{result_place}
use Rattle.id_rules.specs.Uses.{is_misused, Misuses}
use Rattle.type_rules.specs.Types.{is_int}
use Rattle.type_rules.specs.Values.{is_constant, points_to, points_to_runtime_array}
use Rattle.type_rules.specs.Fits.{group_of, fits, length_fits}
use Rattle.spirv_code.specs.declared.key.Sort.TheVariants as sort
use Rattle.spirv_code.specs.declared.key.BuiltIn.{BuiltIn}
use Rattle.spirv_code.specs.declared.key.Global.TheVariants.{Plain as PlainKey, Number, Input, Buffer}
use Rattle.spirv_code.specs.Plans.{Context, inst, number, int_id}
use Rattle.spirv_code.specs.Frame.{rowed, input_sort}
use Rattle.spirv_code.specs.Lines.{barrier_scope, barrier_semantics, barrier_code}
use Rattle.line_runs.specs.Held.{Setting, Uses}
use Rattle.line_runs.proofs.Tests.{none_some, some_inj, true_false}
use Rattle.block_runs.specs.Inside.{BarrierReady}
use Rattle.ruled_lines.specs.Kept.{KeepsRules, AreKept, StandsAhead}
use Rattle.ruled_lines.proofs.Values.{bare_reach, typed_reach}
use Rattle.ruled_lines.proofs.Facts.{key_reached, int_is, constant_is}
use Rattle.ruled_lines.proofs.Globals.{input_points, input_sort_used, buffer_runtime}
use Rattle.ruled_lines.proofs.Operations.{both}

-- of an instruction with a type, a result, an id and a number
pub number_reach : (insts : List Inst) (at opcode type id x n : ℕ) → shape_of opcode ≡ Some (Plain true true 2 2 2) → is_misused insts at (inst opcode (type ∷ id ∷ x ∷ n ∷ [])) type ≡ false → is_misused insts at (inst opcode (type ∷ id ∷ x ∷ n ∷ [])) x ≡ false → Misuses insts at (inst opcode (type ∷ id ∷ x ∷ n ∷ [])) → ⊥
number_reach insts at opcode type id x n shape type_ok x_ok m =
    true_false (sym m.misused ∙ ap (is_misused insts at y) (sym m.uses.id_is) ∙ by_place m.uses.at m.uses.within (subst (λ t. is_id t y.operands m.uses.at ≡ true) same m.uses.is_id) (subst (λ t. result_place t ≢ Some m.uses.at) same m.uses.is_used))
  where
    y : Inst
    y = inst opcode (type ∷ id ∷ x ∷ n ∷ [])

    same : m.uses.shape ≡ Plain true true 2 2 2
    same = some_inj (sym m.uses.listed ∙ shape)

    by_place : (k : ℕ) → k < 4 → is_id (Plain true true 2 2 2) (type ∷ id ∷ x ∷ n ∷ []) k ≡ true → Some 1 ≢ Some k → is_misused insts at y (get_or (type ∷ id ∷ x ∷ n ∷ []) k 0) ≡ false
    by_place zero low is other = type_ok
    by_place (suc zero) low is other = absurd (other refl)
    by_place (suc (suc zero)) low is other = x_ok
    by_place (suc (suc (suc zero))) low is other = absurd (true_false (sym is))
    by_place (suc (suc (suc (suc k)))) low is other = absurd (omega (arith, low))

fits_load : (insts : List Inst) (type id v : ℕ) → points_to insts type v ≡ true → fits insts (inst 61 (type ∷ id ∷ v ∷ [])) ≡ true
unfolding fits group_of
fits_load insts type id v points = points

fits_length : (insts : List Inst) (type id v : ℕ) → is_int insts type ≡ true → points_to_runtime_array insts v ≡ true → fits insts (inst 68 (type ∷ id ∷ v ∷ 0 ∷ [])) ≡ true
unfolding fits group_of length_fits
fits_length insts type id v int points =
    both (is_int insts type) (points_to_runtime_array insts v && nat_eq 0 0) int (both (points_to_runtime_array insts v) (nat_eq 0 0) points refl)

fits_control : (insts : List Inst) (x y z : ℕ) → is_constant insts x ≡ true → is_constant insts y ≡ true → is_constant insts z ≡ true → fits insts (inst 224 (x ∷ y ∷ z ∷ [])) ≡ true
unfolding fits group_of
fits_control insts x y z hx hy hz =
    both (is_constant insts x) (is_constant insts y && is_constant insts z) hx (both (is_constant insts y) (is_constant insts z) hy hz)

fits_memory : (insts : List Inst) (x y : ℕ) → is_constant insts x ≡ true → is_constant insts y ≡ true → fits insts (inst 225 (x ∷ y ∷ [])) ≡ true
unfolding fits group_of
fits_memory insts x y hx hy = both (is_constant insts x) (is_constant insts y) hx hy

module _ (s : Setting) (low : ℕ) (ahead : StandsAhead s low) where
  abbrev insts : List Inst
  insts = s.made.insts

  abbrev c : Context
  c = s.context

  -- ---- barriers

  pub barrier_kept : (at : ℕ) (sync : Bool) (x : Scope) (uav shared : Bool) → low ≤ at → BarrierReady s sync x uav shared → AreKept insts at (barrier_code c sync x uav shared)
  unfolding shape_of
  barrier_kept at true x uav shared behind ready =
      let group = ready.group refl in
      let y : Inst = inst 224 (number c 2 ∷ number c (barrier_scope x) ∷ number c (barrier_semantics uav shared) ∷ []) in
      let reach : (n : ℕ) → Uses s (Number n) → is_misused insts at y (number c n) ≡ false = λ n uses. key_reached s low ahead at y (Number n) uses behind in
      (record { in_reach = bare_reach insts ahead.once at 224 (number c 2 ∷ number c (barrier_scope x) ∷ number c (barrier_semantics uav shared) ∷ []) 3 3 refl (reach 2 group, (reach (barrier_scope x) ready.scope_uses, (reach (barrier_semantics uav shared) ready.semantics, tt))); fitting = fits_control insts (number c 2) (number c (barrier_scope x)) (number c (barrier_semantics uav shared)) (constant_is s low ahead 2 group) (constant_is s low ahead (barrier_scope x) ready.scope_uses) (constant_is s low ahead (barrier_semantics uav shared) ready.semantics); writable = λ pointer e read_only. none_some e }, tt)
  barrier_kept at false x uav shared behind ready =
      let y : Inst = inst 225 (number c (barrier_scope x) ∷ number c (barrier_semantics uav shared) ∷ []) in
      let reach : (n : ℕ) → Uses s (Number n) → is_misused insts at y (number c n) ≡ false = λ n uses. key_reached s low ahead at y (Number n) uses behind in
      (record { in_reach = bare_reach insts ahead.once at 225 (number c (barrier_scope x) ∷ number c (barrier_semantics uav shared) ∷ []) 2 2 refl (reach (barrier_scope x) ready.scope_uses, (reach (barrier_semantics uav shared) ready.semantics, tt)); fitting = fits_memory insts (number c (barrier_scope x)) (number c (barrier_semantics uav shared)) (constant_is s low ahead (barrier_scope x) ready.scope_uses) (constant_is s low ahead (barrier_semantics uav shared) ready.semantics); writable = λ pointer e read_only. none_some e }, tt)

  -- ---- inputs and sizes

  pub input_kept : (at id : ℕ) (b : BuiltIn) → Uses s (Input b) → low ≤ at → KeepsRules insts at (inst 61 (c.key (PlainKey (input_sort b)) ∷ id ∷ c.key (Input b) ∷ []))
  unfolding shape_of
  input_kept at id b uses behind =
      let y : Inst = inst 61 (c.key (PlainKey (input_sort b)) ∷ id ∷ c.key (Input b) ∷ []) in
      record {
        in_reach = typed_reach insts ahead.once at 61 (c.key (PlainKey (input_sort b))) id (c.key (Input b) ∷ []) 1 1 refl (key_reached s low ahead at y (PlainKey (input_sort b)) (input_sort_used s low ahead b uses) behind) (key_reached s low ahead at y (Input b) uses behind, tt);
        fitting = fits_load insts (c.key (PlainKey (input_sort b))) id (c.key (Input b)) (input_points s low ahead b uses);
        writable = λ pointer e read_only. none_some e;
      }

  pub size_kept : (at id r : ℕ) → Uses s (Buffer r) → Uses s (PlainKey sort.Int) → rowed s.program r ≡ false → low ≤ at → KeepsRules insts at (inst 68 (int_id c ∷ id ∷ c.key (Buffer r) ∷ 0 ∷ []))
  unfolding shape_of
  size_kept at id r uses int plain behind =
      let y : Inst = inst 68 (int_id c ∷ id ∷ c.key (Buffer r) ∷ 0 ∷ []) in
      record {
        in_reach = number_reach insts at 68 (int_id c) id (c.key (Buffer r)) 0 refl (key_reached s low ahead at y (PlainKey sort.Int) int behind) (key_reached s low ahead at y (Buffer r) uses behind);
        fitting = fits_length insts (int_id c) id (c.key (Buffer r)) (int_is s low ahead int) (buffer_runtime s low ahead r plain uses);
        writable = λ pointer e read_only. none_some e;
      }
