-- Reads and stores are formed.
use Rattle.std.proofs.Common.{◌≡◌, ℕ, ◌+◌, List, ◌∷◌, Option, Some, None, refl, arith}
use Rattle.dxil_form.specs.declared.value.Ty.{Ty}
use Rattle.dxil_form.specs.declared.value.Reg.{Reg}
use Rattle.dxil_form.specs.declared.value.Operand.{Operand}
use Rattle.dxil_form.specs.declared.value.Operand.TheVariants as operand
use Rattle.spv_form.specs.Formed.{IsIdBelow, IsFormedInst}
use Rattle.spirv_code.specs.Plans.{Context, inst, result, type_id, kept}
use Rattle.spirv_code.specs.Reads.{Env, reg_size, reg_code, reg_id, read_size, read_code, read_id, two_size, two_code, second_id, three_size, three_code, store_code, keep_code}
use Rattle.spirv_code.specs.Lines.{value_code}
use Rattle.formed_lines.specs.Formed.{KeysBelow, SlotsBelow, Upto, KnownBelow}
use Rattle.formed_lines.proofs.Lists.{AreFormed, join, up}
use Rattle.formed_lines.proofs.Shapes.{load_formed, store_formed}

module _ (b : ℕ) (c : Context) (keys : KeysBelow b c) (slots : SlotsBelow b c) where
  -- ---- reads

  reg_formed : (place : ℕ) (t : Ty) (e slot : Option ℕ) → ((id : ℕ) → slot ≡ Some id → IsIdBelow b id) → Upto b c (place + reg_size e slot) → AreFormed b (reg_code c place t e slot)
  reg_formed place t (Some id) slot h upto = tt
  reg_formed place t None (Some variable) h upto =
      (load_formed b (type_id c t) (result c place) variable (keys _) (upto place (omega arith)) (h variable refl), tt)
  reg_formed place t None None h upto = tt

  reg_ok : (place : ℕ) (t : Ty) (e slot : Option ℕ) → ((id : ℕ) → e ≡ Some id → IsIdBelow b id) → Upto b c (place + reg_size e slot) → IsIdBelow b (reg_id c place t e slot)
  reg_ok place t (Some id) slot h upto = h id refl
  reg_ok place t None (Some variable) h upto = upto place (omega arith)
  reg_ok place t None None h upto = keys _

  pub read_formed : (env : Env) (place : ℕ) (a : Operand) → Upto b c (place + read_size c env a) → AreFormed b (read_code c env place a)
  read_formed env place (operand.Reg reg t) upto = reg_formed place t (env reg) (c.slot (kept reg t)) (slots (kept reg t)) upto
  read_formed env place (operand.Int n) upto = tt
  read_formed env place (operand.Bool x) upto = tt
  read_formed env place (operand.Undef t) upto = tt

  pub read_ok : (env : Env) (place : ℕ) (a : Operand) → KnownBelow b env → Upto b c (place + read_size c env a) → IsIdBelow b (read_id c env place a)
  read_ok env place (operand.Reg reg t) known upto = reg_ok place t (env reg) (c.slot (kept reg t)) (known reg) upto
  read_ok env place (operand.Int n) known upto = keys _
  read_ok env place (operand.Bool x) known upto = keys _
  read_ok env place (operand.Undef t) known upto = keys _

  pub two_formed : (env : Env) (place : ℕ) (x y : Operand) → Upto b c (place + two_size c env x y) → AreFormed b (two_code c env place x y)
  two_formed env place x y upto =
      join b (read_code c env place x) _ (read_formed env place x (up b c _ _ (omega arith) upto)) (read_formed env (place + read_size c env x) y (up b c _ _ (omega arith) upto))

  pub first_ok : (env : Env) (place : ℕ) (x y : Operand) → KnownBelow b env → Upto b c (place + two_size c env x y) → IsIdBelow b (read_id c env place x)
  first_ok env place x y known upto = read_ok env place x known (up b c _ _ (omega arith) upto)

  pub second_ok : (env : Env) (place : ℕ) (x y : Operand) → KnownBelow b env → Upto b c (place + two_size c env x y) → IsIdBelow b (second_id c env place x y)
  second_ok env place x y known upto = read_ok env (place + read_size c env x) y known (up b c _ _ (omega arith) upto)

  pub three_formed : (env : Env) (place : ℕ) (x y z : Operand) → Upto b c (place + three_size c env x y z) → AreFormed b (three_code c env place x y z)
  three_formed env place x y z upto =
      join b (read_code c env place x) _ (read_formed env place x (up b c _ _ (omega arith) upto)) (two_formed env (place + read_size c env x) y z (up b c _ _ (omega arith) upto))

  pub three_first : (env : Env) (place : ℕ) (x y z : Operand) → KnownBelow b env → Upto b c (place + three_size c env x y z) → IsIdBelow b (read_id c env place x)
  three_first env place x y z known upto = read_ok env place x known (up b c _ _ (omega arith) upto)

  pub three_second : (env : Env) (place : ℕ) (x y z : Operand) → KnownBelow b env → Upto b c (place + three_size c env x y z) → IsIdBelow b (read_id c env (place + read_size c env x) y)
  three_second env place x y z known upto = first_ok env (place + read_size c env x) y z known (up b c _ _ (omega arith) upto)

  pub three_third : (env : Env) (place : ℕ) (x y z : Operand) → KnownBelow b env → Upto b c (place + three_size c env x y z) → IsIdBelow b (second_id c env (place + read_size c env x) y z)
  three_third env place x y z known upto = second_ok env (place + read_size c env x) y z known (up b c _ _ (omega arith) upto)

  -- ---- results

  pub stored_formed : (slot : Option ℕ) (id : ℕ) → ((v : ℕ) → slot ≡ Some v → IsIdBelow b v) → IsIdBelow b id → AreFormed b (store_code slot id)
  stored_formed None id h ok = tt
  stored_formed (Some v) id h ok = (store_formed b v id (h v refl) ok, tt)

  pub keep_formed : (reg : Reg) (t : Ty) (id : ℕ) → IsIdBelow b id → AreFormed b (keep_code c reg t id)
  keep_formed reg t id ok = stored_formed (c.slot (kept reg t)) id (slots (kept reg t)) ok

  pub value_formed : (place : ℕ) (to : Reg) (t : Ty) (opcode : ℕ) (operands : List ℕ) → IsFormedInst b (inst opcode (type_id c t ∷ result c place ∷ operands)) → IsIdBelow b (result c place) → AreFormed b (value_code c place to t opcode operands)
  value_formed place to t opcode operands h ok = (h, keep_formed to t (result c place) ok)
