-- The code of an address is formed, up to the pointer to the word.
use Rattle.std.proofs.Common.{ℕ, ◌+◌, Bool, true, false, [], ◌∷◌, arith}
use Rattle.std.specs.Prelude.{if◌then◌else◌}
use Rattle.dxil_form.specs.declared.instr.Addr.{Addr}
use Rattle.dxil_form.specs.declared.instr.Addr.TheVariants.{Byte, Element, Row, Index}
use Rattle.dxil_form.specs.declared.instr.Target.{Target}
use Rattle.dxil_form.specs.declared.instr.Target.TheVariants as target
use Rattle.spv_form.specs.Formed.{IsIdBelow, IsFormedInst}
use Rattle.spirv_code.specs.Plans.{Context, inst, result, number}
use Rattle.spirv_code.specs.Reads.{Env, read_size, read_code}
use Rattle.spirv_code.specs.Accesses.{int_inst, base_size, shift_inst, base_code, base_id, adds, word_size, word_code, word_id, pointer_id, target_id, chain_indices, chain_size, chain_id, chain_code}
use Rattle.formed_lines.specs.Formed.{KeysBelow, SlotsBelow, Upto, KnownBelow}
use Rattle.formed_lines.proofs.Lists.{AreFormed, join, up}
use Rattle.formed_lines.proofs.Shapes.{two_ids, chain_of_one, chain_of_two, chain_of_three}
use Rattle.formed_lines.proofs.Opcodes.{shift_shape, add_shape, mul_shape}
use Rattle.formed_lines.proofs.Operands.{read_formed, read_ok}

module _ (b : ℕ) (c : Context) (keys : KeysBelow b c) (slots : SlotsBelow b c) where
  pub target_ok : (t : Target) → IsIdBelow b (target_id c t)
  target_ok (target.Buffer r) = keys _
  target_ok (target.Shared a) = keys _

  pub shift_formed : (place id : ℕ) → IsIdBelow b (result c place) → IsIdBelow b id → IsFormedInst b (shift_inst c place id)
  shift_formed place id own ok = two_ids b 194 _ _ _ _ shift_shape (keys _) own ok (keys _)

  base_formed : (env : Env) (place : ℕ) (addr : Addr) → KnownBelow b env → Upto b c (place + base_size c env addr) → AreFormed b (base_code c env place addr)
  base_formed env place (Byte at) known upto =
      let n : ℕ = read_size c env at in
      let before = up b c (place + n) _ (omega arith) upto in
      join b (read_code c env place at) _ (read_formed b c keys slots env place at before) (shift_formed (place + n) _ (upto (place + n) (omega arith)) (read_ok b c keys slots env place at known before), tt)
  base_formed env place (Element index at stride) known upto =
      let n : ℕ = read_size c env at in
      let m : ℕ = read_size c env index in
      let before = up b c (place + n) _ (omega arith) upto in
      let behind = up b c (place + (n + 1) + m) _ (omega arith) upto in
      let shifted = upto (place + n) (omega arith) in
      let times = upto (place + (n + 1 + m)) (omega arith) in
      let sum = upto (place + (n + 1 + m + 1)) (omega arith) in
      join b (read_code c env place at) _ (read_formed b c keys slots env place at before) (shift_formed (place + n) _ shifted (read_ok b c keys slots env place at known before), join b (read_code c env (place + (n + 1)) index) _ (read_formed b c keys slots env (place + (n + 1)) index behind) (two_ids b 132 _ _ _ _ mul_shape (keys _) times (read_ok b c keys slots env (place + (n + 1)) index known behind) (keys _), (two_ids b 128 _ _ _ _ add_shape (keys _) sum times shifted, tt)))
  base_formed env place (Row index) known upto = read_formed b c keys slots env place index upto
  base_formed env place (Index index) known upto = read_formed b c keys slots env place index upto

  base_ok : (env : Env) (place : ℕ) (addr : Addr) → KnownBelow b env → Upto b c (place + base_size c env addr) → IsIdBelow b (base_id c env place addr)
  base_ok env place (Byte at) known upto = upto (place + read_size c env at) (omega arith)
  base_ok env place (Element index at stride) known upto =
      upto (place + (read_size c env at + 1 + read_size c env index + 1)) (omega arith)
  base_ok env place (Row index) known upto = read_ok b c keys slots env place index known upto
  base_ok env place (Index index) known upto = read_ok b c keys slots env place index known upto

  word_formed : (env : Env) (place : ℕ) (addr : Addr) (part : ℕ) → KnownBelow b env → Upto b c (place + word_size c env addr part) → AreFormed b (word_code c env place addr part)
  word_formed env place addr part known upto =
      let before = up b c (place + n) _ (omega arith) upto in
      join b (base_code c env place addr) _ (base_formed env place addr known before) (by_test (adds addr part) upto before)
    where
      n : ℕ
      n = base_size c env addr

      by_test : (x : Bool) → Upto b c (place + (n + (if x then 1 else 0))) → Upto b c (place + n) → AreFormed b (if x then int_inst c (place + n) 128 (base_id c env place addr ∷ number c part ∷ []) ∷ [] else [])
      by_test true upto before =
          (two_ids b 128 _ _ _ _ add_shape (keys _) (upto (place + n) (omega arith)) (base_ok env place addr known before) (keys _), tt)
      by_test false upto before = tt

  word_ok : (env : Env) (place : ℕ) (addr : Addr) (part : ℕ) → KnownBelow b env → Upto b c (place + word_size c env addr part) → IsIdBelow b (word_id c env place addr part)
  word_ok env place addr part known upto =
      by_test (adds addr part) upto (up b c (place + n) _ (omega arith) upto)
    where
      n : ℕ
      n = base_size c env addr

      by_test : (x : Bool) → Upto b c (place + (n + (if x then 1 else 0))) → Upto b c (place + n) → IsIdBelow b (if x then result c (place + n) else base_id c env place addr)
      by_test true upto before = upto (place + n) (omega arith)
      by_test false upto before = base_ok env place addr known before

  pointer_formed : (t : Target) (addr : Addr) (id word part : ℕ) → IsIdBelow b id → IsIdBelow b word → IsFormedInst b (inst 65 (pointer_id c addr ∷ id ∷ target_id c t ∷ chain_indices c addr word part))
  pointer_formed t (Byte at) id word part own ok = chain_of_two b _ _ _ _ _ (keys _) own (target_ok t) (keys _) ok
  pointer_formed t (Element index at stride) id word part own ok =
      chain_of_two b _ _ _ _ _ (keys _) own (target_ok t) (keys _) ok
  pointer_formed t (Row index) id word part own ok =
      chain_of_three b _ _ _ _ _ _ (keys _) own (target_ok t) (keys _) ok (keys _)
  pointer_formed t (Index index) id word part own ok = chain_of_one b _ _ _ _ (keys _) own (target_ok t) ok

  pub chain_formed : (env : Env) (place : ℕ) (t : Target) (addr : Addr) (part : ℕ) → KnownBelow b env → Upto b c (place + chain_size c env addr part) → AreFormed b (chain_code c env place t addr part)
  chain_formed env place t addr part known upto =
      let n : ℕ = word_size c env addr part in
      let before = up b c (place + n) _ (omega arith) upto in
      join b (word_code c env place addr part) _ (word_formed env place addr part known before) (pointer_formed t addr _ _ part (upto (place + n) (omega arith)) (word_ok env place addr part known before), tt)

  pub chain_ok : (env : Env) (place : ℕ) (addr : Addr) (part : ℕ) → Upto b c (place + chain_size c env addr part) → IsIdBelow b (chain_id c env place addr part)
  chain_ok env place addr part upto = upto (place + word_size c env addr part) (omega arith)
