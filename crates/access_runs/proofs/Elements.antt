-- The test of a part of an element: there is room for it, and the element is in the buffer.
use Rattle.std.proofs.Common.{◌≡◌, ℕ, ◌+◌, ◌-◌, ◌*◌, ◌/◌, ◌≤◌, Bool, false, List, [], ◌∷◌, ◌++◌, length, Some, None, refl, ap, ◌∙◌, arith}
use Rattle.std.specs.Prelude.{nat_eq, nat_lt, nat_le, ◌&&◌, slice_get, slice_index, option_map}
use Rattle.std.proofs.lemmas.Bool.Decides.{nat_tests}
use Rattle.dxil_form.specs.declared.value.Ty.TheVariants as ty
use Rattle.dxil_form.specs.declared.value.Operand.{Operand}
use Rattle.dxil_form.specs.declared.instr.Addr.TheVariants.{Element}
use Rattle.dxil_form.specs.declared.instr.Target.TheVariants as target
use Rattle.dxil_form.specs.declared.program.Resource.{Resource}
use Rattle.spv_form.specs.declared.module.Inst.{Inst}
use Rattle.dxil_meaning.specs.Arithmetic.{unless}
use Rattle.dxil_meaning.specs.Source.{Registers, number_of}
use Rattle.spirv_meaning.specs.Target as spv
use Rattle.spirv_meaning.specs.Target.{Value, Word, Truth, State, value_of}
use Rattle.spirv_code.specs.declared.key.Global.TheVariants as global
use Rattle.spirv_code.specs.Plans.{Context, result, number, int_id, bool_id}
use Rattle.spirv_code.specs.Reads.{Env, read_size, read_code, read_id}
use Rattle.spirv_code.specs.Accesses.{int_inst, bool_inst, length_inst, test_size, test_code, test_id}
use Rattle.line_runs.specs.Held.{Setting, Held, Has, Uses}
use Rattle.line_runs.specs.Declared.{Declares, has_rows}
use Rattle.line_runs.specs.Ready.{Ready}
use Rattle.line_runs.proofs.Tests.{if_false}
use Rattle.line_runs.proofs.Pieces.{has_front, has_back}
use Rattle.line_runs.proofs.Results.{gave, fixed_here}
use Rattle.line_runs.proofs.Reading.{read_length}
use Rattle.access_runs.proofs.Stepping.{held_at, has_at, inst_at, next_two, more, then_ahead}
use Rattle.access_runs.proofs.Ranges.{Tested, read_number, length_next, less_next, and_next}

-- the room for the part is told by the offset alone
room_same : (n stride part : ℕ) → nat_lt stride (4 + 4 * part) ≡ false → nat_le n (stride - (4 + 4 * part)) ≡ nat_le (n + 4 * part + 4) stride
room_same n stride part room = grind (arith, nat_tests)

divides : (x y : ℕ) → nat_eq y 0 ≡ false → option_map Word (unless (nat_eq y 0) (x / y)) ≡ Some (Word (x / y))
divides x y e = ap (option_map Word) (if_false (nat_eq y 0) e None (Some (x / y)))

pub element_tested : (s : Setting) → Declares s → (i : ℕ) (env : Env) (place : ℕ) (regs : Registers) (t : State) (r : ℕ) (resource : Resource) (index at : Operand) (stride k n part : ℕ) → nat_lt stride (4 + 4 * part) ≡ false → slice_get s.program.resources r ≡ Some resource → has_rows resource.kind ≡ false → Uses s (global.Buffer r) → Uses s (global.Number (stride - (4 + 4 * part))) → Uses s (global.Number (stride / 4)) → Ready s env index ty.Int → Ready s env at ty.Int → number_of regs index ≡ Some k → number_of regs at ≡ Some n → Held s env place regs t → Has s.made place (test_code s.context env place (target.Buffer r) (Element index at stride) part) → Tested s i env place (test_size s.context env (Element index at stride) part) regs t (test_id s.context env place (Element index at stride) part) (nat_le (n + 4 * part + 4) stride && nat_lt k (slice_index s.launch.sizes r / (stride / 4)))
element_tested s d i env place regs t r resource index at stride k n part room at_r words uses uses_room uses_quarter ready_index ready_at is_k is_n h has =
    let c : Context = s.context in
    let n0 : ℕ = read_size c env at in
    let n1 : ℕ = read_size c env index in
    let q : ℕ = place + n0 in
    let len : ℕ = slice_index s.launch.sizes r in
    let limit : ℕ = stride - (4 + 4 * part) in
    let quarter : ℕ = stride / 4 in
    let tail2 : List Inst = bool_inst c (place + (n0 + 3 + n1)) 176 (read_id c env (place + (n0 + 3)) index ∷ result c (place + (n0 + 2)) ∷ []) ∷ bool_inst c (place + (n0 + 3 + n1 + 1)) 167 (result c q ∷ result c (place + (n0 + 3 + n1)) ∷ []) ∷ [] in
    let tail1 : List Inst = bool_inst c q 178 (read_id c env place at ∷ number c limit ∷ []) ∷ length_inst c (place + (n0 + 1)) (target.Buffer r) ∷ int_inst c (place + (n0 + 2)) 134 (result c (place + (n0 + 1)) ∷ number c quarter ∷ []) ∷ (read_code c env (place + (n0 + 3)) index ++ tail2) in
    let r0 = read_number s d i env place regs t at n ready_at is_n h (has_front s.made place (read_code c env place at) tail1 has) in
    let behind = has_at s.made (place + length (read_code c env place at)) q tail1 (ap (λ j. place + j) (read_length c env place at)) (has_back s.made place (read_code c env place at) tail1 has) in
    let b1 : Bool = nat_le n limit in
    let x1 = next_two s d i env q regs r0.t' 178 (bool_id c) (read_id c env place at) (number c limit) (Word n) (Word limit) (Truth b1) _ r0.ahead.held behind.0 refl r0.is (fixed_here s r0.t' (number c limit) (Word limit) (d.numbers limit uses_room)) refl in
    let t1 : State = gave s q (Truth b1) r0.t' in
    let a1 = more s i env place n0 (n0 + 1) q regs t r0.t' (Truth b1) r0.ahead refl refl x1 in
    let e1 : q + 1 ≡ place + (n0 + 1) = omega arith in
    let x2 = length_next s d i env (place + (n0 + 1)) regs t1 r resource uses at_r words (held_at s env (q + 1) (place + (n0 + 1)) regs t1 e1 x1.held) (inst_at s.made (q + 1) (place + (n0 + 1)) _ e1 behind.1.0) in
    let t2 : State = gave s (place + (n0 + 1)) (Word len) t1 in
    let a2 = more s i env place (n0 + 1) (n0 + 2) (place + (n0 + 1)) regs t t1 (Word len) a1 refl (omega arith) x2 in
    let e2 : place + (n0 + 1) + 1 ≡ place + (n0 + 2) = omega arith in
    let e2' : q + 1 + 1 ≡ place + (n0 + 2) = omega arith in
    let x3 = next_two s d i env (place + (n0 + 2)) regs t2 134 (int_id c) (result c (place + (n0 + 1))) (number c quarter) (Word len) (Word quarter) (Word (len / quarter)) (spv.on_words (λ x y. unless (nat_eq y 0) (x / y))) (held_at s env (place + (n0 + 1) + 1) (place + (n0 + 2)) regs t2 e2 x2.held) (inst_at s.made (q + 1 + 1) (place + (n0 + 2)) _ e2' behind.1.1.0) refl x2.is (fixed_here s t2 (number c quarter) (Word quarter) (d.numbers quarter uses_quarter)) (divides len quarter (not_zero stride part room)) in
    let t3 : State = gave s (place + (n0 + 2)) (Word (len / quarter)) t2 in
    let a3 = more s i env place (n0 + 2) (n0 + 3) (place + (n0 + 2)) regs t t2 (Word (len / quarter)) a2 refl (omega arith) x3 in
    let e3 : place + (n0 + 2) + 1 ≡ place + (n0 + 3) = omega arith in
    let e3' : q + 1 + 1 + 1 ≡ place + (n0 + 3) = omega arith in
    let code3 = has_at s.made (q + 1 + 1 + 1) (place + (n0 + 3)) (read_code c env (place + (n0 + 3)) index ++ tail2) e3' behind.1.1.1 in
    let r1 = read_number s d i env (place + (n0 + 3)) regs t3 index k ready_index is_k (held_at s env (place + (n0 + 2) + 1) (place + (n0 + 3)) regs t3 e3 x3.held) (has_front s.made (place + (n0 + 3)) (read_code c env (place + (n0 + 3)) index) tail2 code3) in
    let a4 = then_ahead s i env place (n0 + 3) n1 (n0 + 3 + n1) regs t t3 r1.t' a3 r1.ahead refl in
    let q4 : ℕ = place + (n0 + 3 + n1) in
    let e4 : place + (n0 + 3) + n1 ≡ q4 = omega arith in
    let code4 = has_at s.made (place + (n0 + 3) + length (read_code c env (place + (n0 + 3)) index)) q4 tail2 (ap (λ j. place + (n0 + 3) + j) (read_length c env (place + (n0 + 3)) index) ∙ e4) (has_back s.made (place + (n0 + 3)) (read_code c env (place + (n0 + 3)) index) tail2 code3) in
    let b2 : Bool = nat_lt k (len / quarter) in
    let x5 = less_next s d i env q4 regs r1.t' (read_id c env (place + (n0 + 3)) index) (result c (place + (n0 + 2))) k (len / quarter) a4.held code4.0 r1.is (r1.ahead.keeps (result c (place + (n0 + 2))) (Word (len / quarter)) x3.is) in
    let t5 : State = gave s q4 (Truth b2) r1.t' in
    let a5 = more s i env place (n0 + 3 + n1) (n0 + 3 + n1 + 1) q4 regs t r1.t' (Truth b2) a4 refl refl x5 in
    let q5 : ℕ = place + (n0 + 3 + n1 + 1) in
    let e5 : q4 + 1 ≡ q5 = omega arith in
    let b1_at = x5.keeps (result c q) (Truth b1) (r1.ahead.keeps (result c q) (Truth b1) (x3.keeps (result c q) (Truth b1) (x2.keeps (result c q) (Truth b1) x1.is))) in
    let x6 = and_next s d i env q5 regs t5 (result c q) (result c q4) b1 b2 (held_at s env (q4 + 1) q5 regs t5 e5 x5.held) (inst_at s.made (q4 + 1) q5 _ e5 code4.1.0) b1_at x5.is in
    record {
      t' = gave s q5 (Truth (b1 && b2)) t5;
      ahead = more s i env place (n0 + 3 + n1 + 1) (n0 + 3 + n1 + 1 + 1) q5 regs t t5 (Truth (b1 && b2)) a5 refl refl x6;
      is = x6.is ∙ ap (λ b. Some (Truth (b && b2))) (room_same n stride part room);
    }
  where
    not_zero : (stride part : ℕ) → nat_lt stride (4 + 4 * part) ≡ false → nat_eq (stride / 4) 0 ≡ false
    not_zero stride part room =
        let least : 4 ≤ stride = grind (arith, nat_tests) in
        let quarter : 1 ≤ stride / 4 = omega (arith, least) in
        grind (arith, nat_tests)
