-- Copies, the numbers of the invocation and the sizes of buffers keep the rules.
use Rattle.std.proofs.Common.{◌≡◌, ℕ, ◌+◌, ◌<◌, ◌≤◌, Bool, true, false, List, [], ◌∷◌, Some, refl, sym, ap, ◌∙◌, subst, arith}
use Rattle.std.specs.Prelude.{slice_get, nat_eq, nat_lt, ◌&&◌}
use Rattle.std.specs.Option.{option_map_or}
use Rattle.dxil_form.specs.declared.value.Ty.{Ty}
use Rattle.dxil_form.specs.declared.value.Ty.TheVariants as ty
use Rattle.dxil_form.specs.declared.value.Reg.{Reg}
use Rattle.dxil_form.specs.declared.value.Operand.{Operand}
use Rattle.dxil_form.specs.declared.instr.IdOp.{IdOp}
use Rattle.dxil_form.specs.declared.instr.IdOp.TheVariants as thread
use Rattle.dxil_form.specs.declared.instr.Target.TheVariants as target
use Rattle.dxil_form.specs.declared.program.Resource.{Resource}
use Rattle.dxil_form.specs.declared.program.Kind.{Kind}
use Rattle.dxil_form.specs.declared.program.Kind.TheVariants as kind
use Rattle.dxil_form.specs.Sound.{IsBuffer, PartFits}
use Rattle.spv_form.specs.declared.module.Inst.{Inst}
use Rattle.spv_form.specs.declared.shape.Shape.TheVariants.{Plain}
use Rattle.spv_form.specs.Shapes.{shape_of}
use Rattle.spv_ids.specs.Roles.{operand}
use Rattle.spv_ids.specs.Ids.{definition}
use Rattle.type_rules.specs.Types.{is_int, is_defined_as}
use Rattle.type_rules.specs.Values.{value_type}
use Rattle.type_rules.specs.Fits.{group_of, fits, extract_fits}
use Rattle.spirv_code.specs.declared.key.Sort.TheVariants as sort
use Rattle.spirv_code.specs.declared.key.BuiltIn.{BuiltIn}
use Rattle.spirv_code.specs.declared.key.BuiltIn.TheVariants as builtin
use Rattle.spirv_code.specs.declared.key.Global.TheVariants.{Plain as PlainKey, Input, Buffer}
use Rattle.spirv_code.specs.Plans.{Context, inst, result, int_id}
use Rattle.spirv_code.specs.Reads.{Env, with_id, read_size, read_code, read_id, keep_code}
use Rattle.spirv_code.specs.Needed.{operand_keys}
use Rattle.spirv_code.specs.Accesses.{length_inst}
use Rattle.spirv_code.specs.Frame.{rowed, has_rows, input_sort}
use Rattle.spirv_code.specs.Lines.{built_in_of, component_code, id_code, id_before, copy_code}
use Rattle.line_runs.specs.Held.{Setting, Has, Uses}
use Rattle.line_runs.specs.Ready.{Ready, IsSet}
use Rattle.line_runs.proofs.Tests.{none_some}
use Rattle.ruled_lines.specs.Kept.{KeepsRules, IsValueAt, KnownAt, AreUsed, StandsAhead}
use Rattle.ruled_lines.proofs.Values.{value_reached, value_type_is}
use Rattle.ruled_lines.proofs.Facts.{key_is, key_reached, int_is}
use Rattle.ruled_lines.proofs.Globals.{input_sort_used}
use Rattle.ruled_lines.proofs.Readings.{block_next}
use Rattle.ruled_lines.proofs.Operations.{both, made_value}
use Rattle.ruled_lines.proofs.Going.{Goes, ends_with}
use Rattle.ruled_lines.proofs.Named.{number_reach, input_kept, size_kept}
use Rattle.ruled_lines.proofs.Straight.{read_step}
use Rattle.ruled_lines.proofs.Zeros.{goes_on, keeps}

extract_shape : shape_of 81 ≡ Some (Plain true true 2 2 2)
unfolding shape_of
extract_shape = refl

length_shape : shape_of 68 ≡ Some (Plain true true 2 2 2)
unfolding shape_of
length_shape = refl

load_shape : shape_of 61 ≡ Some (Plain true true 1 1 0)
unfolding shape_of
load_shape = refl

-- a component of a vector of three integers
fits_extract : (insts : List Inst) (type id x n vector : ℕ) → is_int insts type ≡ true → value_type insts x ≡ Some vector → definition insts vector ≡ Some (inst 23 (vector ∷ type ∷ 3 ∷ [])) → n ≤ 2 → fits insts (inst 81 (type ∷ id ∷ x ∷ n ∷ [])) ≡ true
unfolding fits group_of extract_fits
fits_extract insts type id x n vector int typed is few =
    both (is_int insts type) (option_map_or (λ t. is_defined_as insts t test) (value_type insts x) false) int (ap (λ o. option_map_or (λ t. is_defined_as insts t test) o false) typed ∙ ap (λ o. option_map_or test o false) is ∙ both (nat_eq type type) (nat_lt n 3) (same type) below)
  where
    test : Inst → Bool
    test v = nat_eq v.opcode 23 && (nat_eq (operand v 1) type && nat_lt n (operand v 2))

    same : (k : ℕ) → nat_eq k k ≡ true
    same k = grind arith

    below : nat_lt n 3 ≡ true
    below = let low : n < 3 = omega (arith, few) in grind (arith, low)

module _ (s : Setting) (low : ℕ) (ahead : StandsAhead s low) where
  abbrev insts : List Inst
  insts = s.made.insts

  abbrev c : Context
  c = s.context

  -- ---- copies

  pub copy_goes : (env : Env) (place : ℕ) (to : Reg) (t : Ty) (a : Operand) → low ≤ place → AreUsed s (operand_keys a) → Ready s env a t → IsSet s to t → KnownAt s env place → Has s.made place (copy_code c env place to t a) → Goes s place (copy_code c env place to t a) (with_id to (read_id c env place a) env)
  copy_goes env place to t a behind used ready set known has =
      let id : ℕ = read_id c env place a in
      let front : List Inst = read_code c env place a in
      let back : List Inst = keep_code c to t id in
      let r = read_step s low ahead env place (place + read_size c env a) a t back refl behind ready used known has in
      let g = keeps s low ahead env (place + read_size c env a) id to t (omega (arith, behind)) set r.value r.known r.has in
      goes_on s place front back (with_id to id env) r.kept (subst (λ n. Goes s n back (with_id to id env)) (sym r.size) g)

  -- ---- sizes

  plain_buffer : (resource : Resource) (k : Kind) → IsBuffer k → has_rows (Some (record resource { kind = k })) ≡ false
  plain_buffer resource kind.Raw is = refl
  plain_buffer resource (kind.Structured stride) is = refl
  plain_buffer resource (kind.Constant rows) is = absurd is

  pub size_goes : (env : Env) (place r : ℕ) (to : Reg) (resource : Resource) → low ≤ place → slice_get s.program.resources r ≡ Some resource → IsBuffer resource.kind → Uses s (Buffer r) → Uses s (PlainKey sort.Int) → IsSet s to ty.Int → KnownAt s env place → Has s.made place (length_inst c place (target.Buffer r) ∷ keep_code c to ty.Int (result c place)) → Goes s place (length_inst c place (target.Buffer r) ∷ keep_code c to ty.Int (result c place)) (with_id to (result c place) env)
  size_goes env place r to resource behind is laid uses int set known has =
      let plain : rowed s.program r ≡ false = ap has_rows is ∙ plain_buffer resource resource.kind laid in
      ends_with s low ahead env place place to ty.Int 68 (c.key (Buffer r) ∷ 0 ∷ []) 2 2 2 [] (omega arith) tt refl has (size_kept s low ahead place (result c place) r uses int plain behind) length_shape refl set known behind

  -- ---- numbers of the invocation

  -- a component of a vector that is a value
  extract_kept : (at id x part : ℕ) → low ≤ at → part ≤ 2 → Uses s (PlainKey sort.Int) → Uses s (PlainKey sort.Triple) → IsValueAt insts at x (c.key (PlainKey sort.Triple)) → KeepsRules insts at (inst 81 (int_id c ∷ id ∷ x ∷ part ∷ []))
  extract_kept at id x part behind few int triple value =
      let y : Inst = inst 81 (int_id c ∷ id ∷ x ∷ part ∷ []) in
      let vector : ℕ = c.key (PlainKey sort.Triple) in
      record {
        in_reach = number_reach insts at 81 (int_id c) id x part extract_shape (key_reached s low ahead at y (PlainKey sort.Int) int behind) (value_reached insts ahead.once at y x vector value);
        fitting = fits_extract insts (int_id c) id x part vector (int_is s low ahead int) (value_type_is insts ahead.once at x vector value) (key_is s low ahead (PlainKey sort.Triple) triple) few;
        writable = λ pointer e read_only. none_some e;
      }

  component_goes : (env : Env) (place : ℕ) (to : Reg) (b : BuiltIn) (part : ℕ) → input_sort b ≡ sort.Triple → low ≤ place → part ≤ 2 → Uses s (PlainKey sort.Int) → Uses s (Input b) → IsSet s to ty.Int → KnownAt s env place → Has s.made place (component_code c place to b part) → Goes s place (component_code c place to b part) (with_id to (result c (place + 1)) env)
  component_goes env place to b part three behind few int uses set known has =
      let vector : ℕ = c.key (PlainKey sort.Triple) in
      let id : ℕ = result c place in
      let load : Inst = inst 61 (vector ∷ id ∷ c.key (Input b) ∷ []) in
      let loaded : KeepsRules insts place load = subst (λ o. KeepsRules insts place (inst 61 (c.key (PlainKey o) ∷ id ∷ c.key (Input b) ∷ []))) three (input_kept s low ahead place id b uses behind) in
      let triple : Uses s (PlainKey sort.Triple) = subst (λ o. Uses s (PlainKey o)) three (input_sort_used s low ahead b uses) in
      let value = made_value s low ahead place 61 vector id (c.key (Input b) ∷ []) 1 1 0 has.0 load_shape refl in
      let rules = extract_kept (place + 1) (result c (place + 1)) id part (omega (arith, behind)) few int triple value in
      ends_with s low ahead env place (place + 1) to ty.Int 81 (id ∷ part ∷ []) 2 2 2 (load ∷ []) refl (loaded, tt) (block_next insts place load has.0 refl) has.1 rules extract_shape refl set known behind

  pub id_goes : (env : Env) (place : ℕ) (to : Reg) (op : IdOp) (part : ℕ) → low ≤ place → PartFits op part → Uses s (PlainKey sort.Int) → Uses s (Input (built_in_of op)) → IsSet s to ty.Int → KnownAt s env place → Has s.made place (id_code c place to op part) → Goes s place (id_code c place to op part) (with_id to (result c (place + id_before op)) env)
  id_goes env place to thread.Thread part behind fit int uses set known has =
      component_goes env place to builtin.GlobalInvocationId part refl behind fit int uses set known has
  id_goes env place to thread.Group part behind fit int uses set known has =
      component_goes env place to builtin.WorkgroupId part refl behind fit int uses set known has
  id_goes env place to thread.InGroup part behind fit int uses set known has =
      component_goes env place to builtin.LocalInvocationId part refl behind fit int uses set known has
  id_goes env place to thread.Flat part behind fit int uses set known has =
      let b : BuiltIn = builtin.LocalInvocationIndex in
      let e : place ≡ place + 0 = omega arith in
      subst (λ n. Goes s place (id_code c place to thread.Flat part) (with_id to (result c n) env)) e (ends_with s low ahead env place place to ty.Int 61 (c.key (Input b) ∷ []) 1 1 0 [] (omega arith) tt refl has (input_kept s low ahead place (result c place) b uses behind) load_shape refl set known behind)
