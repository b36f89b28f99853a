-- The test whether a word is in range is formed.
use Rattle.std.proofs.Common.{ℕ, ◌+◌, Bool, true, false, [], ◌∷◌, arith}
use Rattle.std.specs.Prelude.{if◌then◌else◌, nat_eq}
use Rattle.dxil_form.specs.declared.value.Operand.{Operand}
use Rattle.dxil_form.specs.declared.instr.Addr.{Addr}
use Rattle.dxil_form.specs.declared.instr.Addr.TheVariants.{Byte, Element, Row, Index}
use Rattle.dxil_form.specs.declared.instr.Target.{Target}
use Rattle.spv_form.specs.Formed.{IsIdBelow, IsFormedInst}
use Rattle.spirv_code.specs.Plans.{Context, result, number}
use Rattle.spirv_code.specs.Reads.{Env, read_size, read_code}
use Rattle.spirv_code.specs.Accesses.{int_inst, bool_inst, length_inst, test_last, test_size, test_id, byte_tests, index_test, test_code}
use Rattle.formed_lines.specs.Formed.{KeysBelow, SlotsBelow, Upto, KnownBelow}
use Rattle.formed_lines.proofs.Lists.{AreFormed, join, up}
use Rattle.formed_lines.proofs.Shapes.{two_ids, length_formed}
use Rattle.formed_lines.proofs.Opcodes.{add_shape, below_shape, at_most_shape, both_shape, divide_shape}
use Rattle.formed_lines.proofs.Operands.{read_formed, read_ok}
use Rattle.formed_lines.proofs.Chains.{target_ok, shift_formed}

module _ (b : ℕ) (c : Context) (keys : KeysBelow b c) (slots : SlotsBelow b c) where
  pub size_formed : (place : ℕ) (t : Target) → IsIdBelow b (result c place) → IsFormedInst b (length_inst c place t)
  size_formed place t own = length_formed b _ _ _ 0 (keys _) own (target_ok b c keys slots t)

  -- one number is below another
  less_formed : (place x y : ℕ) → IsIdBelow b (result c place) → IsIdBelow b x → IsIdBelow b y → IsFormedInst b (bool_inst c place 176 (x ∷ y ∷ []))
  less_formed place x y own hx hy = two_ids b 176 _ _ _ _ below_shape (keys _) own hx hy

  both_formed : (place x y : ℕ) → IsIdBelow b (result c place) → IsIdBelow b x → IsIdBelow b y → IsFormedInst b (bool_inst c place 167 (x ∷ y ∷ []))
  both_formed place x y own hx hy = two_ids b 167 _ _ _ _ both_shape (keys _) own hx hy

  byte_formed : (place : ℕ) (t : Target) (part : ℕ) → Upto b c (place + (if nat_eq part 0 then 2 else 5) + 1) → AreFormed b (byte_tests c place t part)
  byte_formed place t part upto = by_test (nat_eq part 0) upto
    where
      by_test : (x : Bool) → Upto b c (place + (if x then 2 else 5) + 1) → AreFormed b (if x then length_inst c (place + 1) t ∷ bool_inst c (place + 2) 176 (result c place ∷ result c (place + 1) ∷ []) ∷ [] else (int_inst c (place + 1) 128 (result c place ∷ number c part ∷ []) ∷ length_inst c (place + 2) t ∷ bool_inst c (place + 3) 176 (result c place ∷ result c (place + 2) ∷ []) ∷ bool_inst c (place + 4) 176 (result c (place + 1) ∷ result c (place + 2) ∷ []) ∷ bool_inst c (place + 5) 167 (result c (place + 3) ∷ result c (place + 4) ∷ []) ∷ []))
      by_test true upto =
          let r0 = upto place (omega arith) in
          let r1 = upto (place + 1) (omega arith) in
          (size_formed (place + 1) t r1, (less_formed (place + 2) _ _ (upto (place + 2) (omega arith)) r0 r1, tt))
      by_test false upto =
          let r0 = upto place (omega arith) in
          let r1 = upto (place + 1) (omega arith) in
          let r2 = upto (place + 2) (omega arith) in
          let r3 = upto (place + 3) (omega arith) in
          let r4 = upto (place + 4) (omega arith) in
          (two_ids b 128 _ _ _ _ add_shape (keys _) r1 r0 (keys _), (size_formed (place + 2) t r2, (less_formed (place + 3) _ _ r3 r0 r2, (less_formed (place + 4) _ _ r4 r1 r2, (both_formed (place + 5) _ _ (upto (place + 5) (omega arith)) r3 r4, tt)))))

  index_formed : (env : Env) (place : ℕ) (index : Operand) (limit : ℕ) → KnownBelow b env → Upto b c (place + (read_size c env index + 1)) → AreFormed b (index_test c env place index limit)
  index_formed env place index limit known upto =
      let n : ℕ = read_size c env index in
      let before = up b c (place + n) _ (omega arith) upto in
      join b (read_code c env place index) _ (read_formed b c keys slots env place index before) (less_formed (place + n) _ _ (upto (place + n) (omega arith)) (read_ok b c keys slots env place index known before) (keys _), tt)

  pub test_formed : (env : Env) (place : ℕ) (t : Target) (addr : Addr) (part : ℕ) → KnownBelow b env → Upto b c (place + test_size c env addr part) → AreFormed b (test_code c env place t addr part)
  test_formed env place t (Byte at) part known upto =
      let n : ℕ = read_size c env at in
      let before = up b c (place + n) _ (omega arith) upto in
      let behind = up b c (place + n + (if nat_eq part 0 then 2 else 5) + 1) _ (omega arith) upto in
      join b (read_code c env place at) _ (read_formed b c keys slots env place at before) (shift_formed b c keys slots (place + n) _ (upto (place + n) (omega arith)) (read_ok b c keys slots env place at known before), byte_formed (place + n) t part behind)
  test_formed env place t (Element index at stride) part known upto =
      let n : ℕ = read_size c env at in
      let m : ℕ = read_size c env index in
      let before = up b c (place + n) _ (omega arith) upto in
      let behind = up b c (place + (n + 3) + m) _ (omega arith) upto in
      let room = upto (place + n) (omega arith) in
      let size = upto (place + (n + 1)) (omega arith) in
      let count = upto (place + (n + 2)) (omega arith) in
      let less = upto (place + (n + 3 + m)) (omega arith) in
      let both = upto (place + (n + 3 + m + 1)) (omega arith) in
      join b (read_code c env place at) _ (read_formed b c keys slots env place at before) (two_ids b 178 _ _ _ _ at_most_shape (keys _) room (read_ok b c keys slots env place at known before) (keys _), (size_formed (place + (n + 1)) t size, (two_ids b 134 _ _ _ _ divide_shape (keys _) count size (keys _), join b (read_code c env (place + (n + 3)) index) _ (read_formed b c keys slots env (place + (n + 3)) index behind) (less_formed (place + (n + 3 + m)) _ _ less (read_ok b c keys slots env (place + (n + 3)) index known behind) count, (both_formed (place + (n + 3 + m + 1)) _ _ both room less, tt)))))
  test_formed env place t (Row index) part known upto = index_formed env place index (c.limit t) known upto
  test_formed env place t (Index index) part known upto = index_formed env place index (c.limit t) known upto

  pub test_ok : (env : Env) (place : ℕ) (addr : Addr) (part : ℕ) → Upto b c (place + test_size c env addr part) → IsIdBelow b (test_id c env place addr part)
  test_ok env place addr part upto = upto (place + test_last c env addr part) (omega arith)
