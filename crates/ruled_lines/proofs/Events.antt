-- The event of a part keeps the rules, behind a pointer to its word.
use Rattle.std.proofs.Common.{◌≡◌, ℕ, ◌+◌, ◌≤◌, true, false, List, [], ◌∷◌, ◌++◌, length, Some, refl, sym, ap, ◌∙◌, subst, arith}
use Rattle.std.specs.Prelude.{nat_eq, option_and_then, ◌&&◌}
use Rattle.std.specs.Option.{option_map_or}
use Rattle.dxil_form.specs.declared.value.Ty.TheVariants as ty
use Rattle.dxil_form.specs.declared.value.Reg.{Reg}
use Rattle.dxil_form.specs.declared.value.Operand.{Operand}
use Rattle.dxil_form.specs.declared.instr.AtomicOp.{AtomicOp}
use Rattle.dxil_form.specs.declared.instr.AtomicOp.TheVariants as op
use Rattle.dxil_form.specs.declared.instr.Target.{Target}
use Rattle.spv_form.specs.declared.module.Inst.{Inst}
use Rattle.spv_form.specs.Shapes.{shape_of}
use Rattle.spv_ids.specs.Roles.{operand}
use Rattle.spv_ids.specs.Places.{block_of}
use Rattle.type_rules.specs.Types.{is_int}
use Rattle.type_rules.specs.Values.{pointer_type, pointer_of, points_to, points_to_int, is_constant, is_int_value}
use Rattle.type_rules.specs.Fits.{group_of, fits, fits_as, atomic_fits, exchange_fits}
use Rattle.type_rules.specs.declared.group.Group.TheVariants.{Atomic as AtomicGroup}
use Rattle.decoration_rules.specs.ReadOnly.{IsReadOnly, written_by}
use Rattle.spirv_code.specs.declared.key.Sort.TheVariants as sort
use Rattle.spirv_code.specs.declared.key.Storage.{Storage}
use Rattle.spirv_code.specs.declared.key.Global.TheVariants.{Plain as PlainKey, Number}
use Rattle.spirv_code.specs.Keys.{storage_class}
use Rattle.spirv_code.specs.Plans.{Context, inst, result, number, int_id, kept}
use Rattle.spirv_code.specs.Reads.{no_register, read_size, read_code, read_id, keep_size, keep_code, two_size, two_code, second_id}
use Rattle.spirv_code.specs.Needed.{operand_keys, two_keys, word_pointer}
use Rattle.spirv_code.specs.Accesses.{int_inst, bool_inst, atomic_opcode, scope_of, swap_code}
use Rattle.line_runs.specs.Held.{Setting, Has, Uses}
use Rattle.line_runs.specs.Ready.{Ready}
use Rattle.line_runs.proofs.Tests.{none_some, some_inj}
use Rattle.line_runs.proofs.Pieces.{has_front, has_back}
use Rattle.line_runs.proofs.Reading.{two_length}
use Rattle.access_runs.proofs.Events.{keep_length}
use Rattle.formed_lines.proofs.Opcodes.{atomic_shape, swap_shape}
use Rattle.ruled_lines.specs.Kept.{KeepsRules, AreKept, IsValueAt, KnownAt, AreUsed, StandsAhead}
use Rattle.ruled_lines.proofs.Values.{value_reached, value_type_is, value_is_int, typed_reach, bare_reach}
use Rattle.ruled_lines.proofs.Facts.{key_reached, int_is, constant_is}
use Rattle.ruled_lines.proofs.Readings.{load_fits, value_later}
use Rattle.ruled_lines.proofs.Stores.{store_fits_as, keep_kept}
use Rattle.ruled_lines.proofs.Operations.{both, made_value}
use Rattle.ruled_lines.proofs.Going.{kept_behind, stored_block, two_at}
use Rattle.ruled_lines.proofs.Lines.{front_used, back_used}
use Rattle.ruled_lines.proofs.Straight.{equal, step, truth_step, read_step}
use Rattle.ruled_lines.proofs.Pointers.{pointer_is}

eq_self : (n : ℕ) → nat_eq n n ≡ true
eq_self n = grind arith

pub none_known : (s : Setting) (at : ℕ) → KnownAt s no_register at
unfolding no_register
none_known s at reg id e = absurd (none_some e)

atomic_group : (o : AtomicOp) → group_of (atomic_opcode o) ≡ AtomicGroup
unfolding group_of
atomic_group op.Add = refl
atomic_group op.Sub = refl
atomic_group op.And = refl
atomic_group op.Or = refl
atomic_group op.Xor = refl
atomic_group op.SMin = refl
atomic_group op.SMax = refl
atomic_group op.UMin = refl
atomic_group op.UMax = refl
atomic_group op.Exchange = refl

atomic_writes : (o : AtomicOp) (type id pointer : ℕ) (rest : List ℕ) → written_by (inst (atomic_opcode o) (type ∷ id ∷ pointer ∷ rest)) ≡ Some pointer
atomic_writes op.Add type id pointer rest = refl
atomic_writes op.Sub type id pointer rest = refl
atomic_writes op.And type id pointer rest = refl
atomic_writes op.Or type id pointer rest = refl
atomic_writes op.Xor type id pointer rest = refl
atomic_writes op.SMin type id pointer rest = refl
atomic_writes op.SMax type id pointer rest = refl
atomic_writes op.UMin type id pointer rest = refl
atomic_writes op.UMax type id pointer rest = refl
atomic_writes op.Exchange type id pointer rest = refl

atomic_other : (o : AtomicOp) → nat_eq (atomic_opcode o) 248 ≡ false
atomic_other op.Add = refl
atomic_other op.Sub = refl
atomic_other op.And = refl
atomic_other op.Or = refl
atomic_other op.Xor = refl
atomic_other op.SMin = refl
atomic_other op.SMax = refl
atomic_other op.UMin = refl
atomic_other op.UMax = refl
atomic_other op.Exchange = refl

fits_atomic : (insts : List Inst) (opcode type id p x y v : ℕ) → group_of opcode ≡ AtomicGroup → is_int insts type ≡ true → points_to_int insts p ≡ true → is_constant insts x ≡ true → is_constant insts y ≡ true → is_int_value insts v ≡ true → fits insts (inst opcode (type ∷ id ∷ p ∷ x ∷ y ∷ v ∷ [])) ≡ true
unfolding fits atomic_fits
fits_atomic insts opcode type id p x y v group ht hp hx hy hv =
    ap (fits_as insts (inst opcode (type ∷ id ∷ p ∷ x ∷ y ∷ v ∷ []))) group ∙ both (is_int insts type && (points_to_int insts p && (is_constant insts x && is_constant insts y))) (is_int_value insts v) (both (is_int insts type) (points_to_int insts p && (is_constant insts x && is_constant insts y)) ht (both (points_to_int insts p) (is_constant insts x && is_constant insts y) hp (both (is_constant insts x) (is_constant insts y) hx hy))) hv

fits_exchange : (insts : List Inst) (type id p x y v w : ℕ) → is_int insts type ≡ true → points_to_int insts p ≡ true → is_constant insts x ≡ true → is_constant insts y ≡ true → is_int_value insts v ≡ true → is_int_value insts w ≡ true → fits insts (inst 230 (type ∷ id ∷ p ∷ x ∷ y ∷ y ∷ v ∷ w ∷ [])) ≡ true
unfolding fits group_of atomic_fits exchange_fits
fits_exchange insts type id p x y v w ht hp hx hy hv hw =
    both (is_int insts type && (points_to_int insts p && (is_constant insts x && is_constant insts y))) (is_constant insts y && (is_int_value insts v && is_int_value insts w)) (both (is_int insts type) (points_to_int insts p && (is_constant insts x && is_constant insts y)) ht (both (points_to_int insts p) (is_constant insts x && is_constant insts y) hp (both (is_constant insts x) (is_constant insts y) hx hy))) (both (is_constant insts y) (is_int_value insts v && is_int_value insts w) hy (both (is_int_value insts v) (is_int_value insts w) hv hw))

module _ (s : Setting) (low : ℕ) (ahead : StandsAhead s low) (int : Uses s (PlainKey sort.Int)) (bool : Uses s (PlainKey sort.Bool)) (st : Storage) (pointed : Uses s (word_pointer st)) where
  abbrev insts : List Inst
  insts = s.made.insts

  abbrev c : Context
  c = s.context

  abbrev type : ℕ
  type = c.key (word_pointer st)

  -- ---- a pointer to an integer

  pointer_of_value : (at p : ℕ) → IsValueAt insts at p type → pointer_of insts p ≡ Some (inst 32 (type ∷ storage_class st ∷ int_id c ∷ []))
  unfolding pointer_of
  pointer_of_value at p v = ap (option_and_then (pointer_type insts)) (value_type_is insts ahead.once at p type v) ∙ pointer_is s low ahead st pointed

  to_int : (at p : ℕ) → IsValueAt insts at p type → points_to insts (int_id c) p ≡ true
  unfolding points_to
  to_int at p v = ap (λ o. option_map_or (λ (x : Inst). nat_eq (operand x 2) (int_id c)) o false) (pointer_of_value at p v) ∙ eq_self (int_id c)

  to_an_int : (at p : ℕ) → IsValueAt insts at p type → points_to_int insts p ≡ true
  unfolding points_to_int
  to_an_int at p v = ap (λ o. option_map_or (λ (x : Inst). is_int insts (operand x 2)) o false) (pointer_of_value at p v) ∙ int_is s low ahead int

  -- ---- instructions

  load_rules : (at id p : ℕ) → low ≤ at → IsValueAt insts at p type → KeepsRules insts at (inst 61 (int_id c ∷ id ∷ p ∷ []))
  unfolding shape_of
  load_rules at id p behind vp =
      record {
        in_reach = typed_reach insts ahead.once at 61 (int_id c) id (p ∷ []) 1 1 refl (key_reached s low ahead at (inst 61 (int_id c ∷ id ∷ p ∷ [])) (PlainKey sort.Int) int behind) (value_reached insts ahead.once at (inst 61 (int_id c ∷ id ∷ p ∷ [])) p type vp, tt);
        fitting = load_fits insts (int_id c) id p (to_int at p vp);
        writable = λ pointer e read_only. none_some e;
      }

  store_rules : (at p v : ℕ) → IsValueAt insts at p type → IsValueAt insts at v (int_id c) → (IsReadOnly insts p → ⊥) → KeepsRules insts at (inst 62 (p ∷ v ∷ []))
  unfolding shape_of
  store_rules at p v vp vv safe =
      record {
        in_reach = bare_reach insts ahead.once at 62 (p ∷ v ∷ []) 2 2 refl (value_reached insts ahead.once at (inst 62 (p ∷ v ∷ [])) p type vp, (value_reached insts ahead.once at (inst 62 (p ∷ v ∷ [])) v (int_id c) vv, tt));
        fitting = store_fits_as insts p v (int_id c) (value_type_is insts ahead.once at v (int_id c) vv) (to_int at p vp);
        writable = λ pointer e read_only. safe (subst (IsReadOnly insts) (sym (some_inj e)) read_only);
      }

  atomic_rules : (at id p v n : ℕ) (o : AtomicOp) → low ≤ at → Uses s (Number n) → Uses s (Number 0) → IsValueAt insts at p type → IsValueAt insts at v (int_id c) → (IsReadOnly insts p → ⊥) → KeepsRules insts at (inst (atomic_opcode o) (int_id c ∷ id ∷ p ∷ number c n ∷ number c 0 ∷ v ∷ []))
  atomic_rules at id p v n o behind scope none vp vv safe =
      let y : Inst = inst (atomic_opcode o) (int_id c ∷ id ∷ p ∷ number c n ∷ number c 0 ∷ v ∷ []) in
      record {
        in_reach = typed_reach insts ahead.once at (atomic_opcode o) (int_id c) id (p ∷ number c n ∷ number c 0 ∷ v ∷ []) 4 4 (atomic_shape o) (key_reached s low ahead at y (PlainKey sort.Int) int behind) (value_reached insts ahead.once at y p type vp, (key_reached s low ahead at y (Number n) scope behind, (key_reached s low ahead at y (Number 0) none behind, (value_reached insts ahead.once at y v (int_id c) vv, tt))));
        fitting = fits_atomic insts (atomic_opcode o) (int_id c) id p (number c n) (number c 0) v (atomic_group o) (int_is s low ahead int) (to_an_int at p vp) (constant_is s low ahead n scope) (constant_is s low ahead 0 none) (value_is_int insts ahead.once at v (int_id c) vv (int_is s low ahead int));
        writable = λ pointer e read_only. safe (subst (IsReadOnly insts) (some_inj (sym e ∙ atomic_writes o (int_id c) id p (number c n ∷ number c 0 ∷ v ∷ []))) read_only);
      }

  swap_rules : (at id p v w n : ℕ) → low ≤ at → Uses s (Number n) → Uses s (Number 0) → IsValueAt insts at p type → IsValueAt insts at v (int_id c) → IsValueAt insts at w (int_id c) → (IsReadOnly insts p → ⊥) → KeepsRules insts at (inst 230 (int_id c ∷ id ∷ p ∷ number c n ∷ number c 0 ∷ number c 0 ∷ v ∷ w ∷ []))
  swap_rules at id p v w n behind scope none vp vv vw safe =
      let y : Inst = inst 230 (int_id c ∷ id ∷ p ∷ number c n ∷ number c 0 ∷ number c 0 ∷ v ∷ w ∷ []) in
      let int_at = int_is s low ahead int in
      let none_at = key_reached s low ahead at y (Number 0) none behind in
      record {
        in_reach = typed_reach insts ahead.once at 230 (int_id c) id (p ∷ number c n ∷ number c 0 ∷ number c 0 ∷ v ∷ w ∷ []) 6 6 swap_shape (key_reached s low ahead at y (PlainKey sort.Int) int behind) (value_reached insts ahead.once at y p type vp, (key_reached s low ahead at y (Number n) scope behind, (none_at, (none_at, (value_reached insts ahead.once at y v (int_id c) vv, (value_reached insts ahead.once at y w (int_id c) vw, tt))))));
        fitting = fits_exchange insts (int_id c) id p (number c n) (number c 0) v w int_at (to_an_int at p vp) (constant_is s low ahead n scope) (constant_is s low ahead 0 none) (value_is_int insts ahead.once at v (int_id c) vv int_at) (value_is_int insts ahead.once at w (int_id c) vw int_at);
        writable = λ pointer e read_only. safe (subst (IsReadOnly insts) (sym (some_inj e)) read_only);
      }

  -- ---- events

  pub load_event : (place p : ℕ) (to : Reg) → low ≤ place → IsValueAt insts place p type → Has s.made place (int_inst c place 61 (p ∷ []) ∷ keep_code c to ty.Int (result c place)) → AreKept insts place (int_inst c place 61 (p ∷ []) ∷ keep_code c to ty.Int (result c place))
  unfolding shape_of
  load_event place p to behind vp has =
      (load_rules place (result c place) p behind vp, keep_kept s low ahead (place + 1) (result c place) to ty.Int (made_value s low ahead place 61 (int_id c) (result c place) (p ∷ []) 1 1 0 has.0 refl refl) (omega (arith, behind)))

  pub store_event : (place p : ℕ) (value : Operand) → low ≤ place → Ready s no_register value ty.Int → AreUsed s (operand_keys value) → IsValueAt insts place p type → (IsReadOnly insts p → ⊥) → Has s.made place (read_code c no_register place value ++ (inst 62 (p ∷ read_id c no_register place value ∷ []) ∷ [])) → AreKept insts place (read_code c no_register place value ++ (inst 62 (p ∷ read_id c no_register place value ∷ []) ∷ []))
  store_event place p value behind ready used vp safe has =
      let q : ℕ = place + read_size c no_register value in
      let v : ℕ = read_id c no_register place value in
      let y : Inst = inst 62 (p ∷ v ∷ []) in
      let r = read_step s low ahead no_register place q value ty.Int (y ∷ []) refl behind ready used (none_known s place) has in
      kept_behind insts place q (read_code c no_register place value) (y ∷ []) r.size r.kept (store_rules q p v (r.on p type vp) r.value safe, tt)

  pub atomic_event : (place p n : ℕ) (to : Reg) (o : AtomicOp) (value : Operand) → low ≤ place → Ready s no_register value ty.Int → Uses s (Number n) → Uses s (Number 0) → AreUsed s (operand_keys value) → IsValueAt insts place p type → (IsReadOnly insts p → ⊥) → Has s.made place (read_code c no_register place value ++ (int_inst c (place + read_size c no_register value) (atomic_opcode o) (p ∷ number c n ∷ number c 0 ∷ read_id c no_register place value ∷ []) ∷ keep_code c to ty.Int (result c (place + read_size c no_register value)))) → AreKept insts place (read_code c no_register place value ++ (int_inst c (place + read_size c no_register value) (atomic_opcode o) (p ∷ number c n ∷ number c 0 ∷ read_id c no_register place value ∷ []) ∷ keep_code c to ty.Int (result c (place + read_size c no_register value))))
  atomic_event place p n to o value behind ready scope none used vp safe has =
      let q : ℕ = place + read_size c no_register value in
      let v : ℕ = read_id c no_register place value in
      let later : low ≤ q = omega (arith, behind) in
      let operands : List ℕ = p ∷ number c n ∷ number c 0 ∷ v ∷ [] in
      let y : Inst = int_inst c q (atomic_opcode o) operands in
      let keeps : List Inst = keep_code c to ty.Int (result c q) in
      let r = read_step s low ahead no_register place q value ty.Int (y ∷ keeps) refl behind ready used (none_known s place) has in
      let x = step s low ahead q (q + 1) (atomic_opcode o) (int_id c) operands 4 4 0 keeps refl (atomic_shape o) (atomic_other o) (atomic_rules q (result c q) p v n o later scope none (r.on p type vp) r.value safe) r.has in
      kept_behind insts place q (read_code c no_register place value) (y ∷ keeps) r.size r.kept (x.kept, keep_kept s low ahead (q + 1) (result c q) to ty.Int x.value (omega (arith, later)))

  pub swap_event : (place p n : ℕ) (t : Target) (old same : Reg) (value compare : Operand) → low ≤ place → Ready s no_register value ty.Int → Ready s no_register compare ty.Int → scope_of t ≡ n → Uses s (Number n) → Uses s (Number 0) → AreUsed s (two_keys value compare) → IsValueAt insts place p type → (IsReadOnly insts p → ⊥) → Has s.made place (two_code c no_register place value compare ++ swap_code c (place + two_size c no_register value compare) p t old same (read_id c no_register place value) (second_id c no_register place value compare)) → AreKept insts place (two_code c no_register place value compare ++ swap_code c (place + two_size c no_register value compare) p t old same (read_id c no_register place value) (second_id c no_register place value compare))
  swap_event place p n t old same value compare behind rv rc scope_is scope none used vp safe has =
      let q : ℕ = place + two_size c no_register value compare in
      let later : low ≤ q = omega (arith, behind) in
      let v : ℕ = read_id c no_register place value in
      let w : ℕ = second_id c no_register place value compare in
      let front : List Inst = two_code c no_register place value compare in
      let back : List Inst = swap_code c q p t old same v w in
      let size : place + length front ≡ q = ap (λ k. place + k) (two_length c no_register place value compare) in
      let r = two_at s low ahead no_register place value compare ty.Int ty.Int behind rv rc (front_used s (operand_keys value) (operand_keys compare) used) (back_used s (operand_keys value) (operand_keys compare) used) (none_known s place) (has_front s.made place front back has) in
      let has_q = subst (λ k. Has s.made k back) size (has_back s.made place front back has) in
      let pointer = value_later insts place q p type (omega arith) r.block vp in
      kept_behind insts place q front back size r.kept (tail q v w later has_q pointer r.first r.second)
    where
      used_scope : Uses s (Number (scope_of t))
      used_scope = subst (λ k. Uses s (Number k)) (sym scope_is) scope

      tail : (q v w : ℕ) → low ≤ q → Has s.made q (swap_code c q p t old same v w) → IsValueAt insts q p type → IsValueAt insts q v (int_id c) → IsValueAt insts q w (int_id c) → AreKept insts q (swap_code c q p t old same v w)
      tail q v w later has vp vv vw =
          let q2 : ℕ = q + (1 + keep_size c old ty.Int) in
          let operands : List ℕ = p ∷ number c (scope_of t) ∷ number c 0 ∷ number c 0 ∷ v ∷ w ∷ [] in
          let id : ℕ = result c q in
          let keep_old : List Inst = keep_code c old ty.Int id in
          let test : Inst = bool_inst c q2 170 (id ∷ w ∷ []) in
          let keep_same : List Inst = keep_code c same ty.Bool (result c q2) in
          let x1 = step s low ahead q (q + 1) 230 (int_id c) operands 6 6 0 (keep_old ++ (test ∷ keep_same)) refl swap_shape refl (swap_rules q id p v w (scope_of t) later used_scope none vp vv vw safe) has in
          let size : q + 1 + length keep_old ≡ q2 = omega (arith, keep_length c old ty.Int id) in
          let has_old = has_front s.made (q + 1) keep_old (test ∷ keep_same) x1.has in
          let has_test = subst (λ k. Has s.made k (test ∷ keep_same)) size (has_back s.made (q + 1) keep_old (test ∷ keep_same) x1.has) in
          let stays = stored_block s low ahead (q + 1) id (c.slot (kept old ty.Int)) has_old ∙ ap (block_of insts) size in
          let more : q + 1 ≤ q2 = omega arith in
          let b2 : low ≤ q2 = omega (arith, later) in
          let old_value = value_later insts (q + 1) q2 id (int_id c) more stays x1.value in
          let w_value = value_later insts (q + 1) q2 w (int_id c) more stays (x1.on w (int_id c) vw) in
          let x2 = truth_step s low ahead q2 (q2 + 1) 170 id w keep_same refl equal int bool b2 old_value w_value has_test in
          let kept_same = keep_kept s low ahead (q2 + 1) (result c q2) same ty.Bool x2.value (omega (arith, b2)) in
          (x1.kept, kept_behind insts (q + 1) q2 keep_old (test ∷ keep_same) size (keep_kept s low ahead (q + 1) id old ty.Int x1.value (omega (arith, later))) (x2.kept, kept_same))
