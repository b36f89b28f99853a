-- Lines without an event are formed.
use Rattle.std.proofs.Common.{◌≡◌, ℕ, ◌+◌, ◌<◌, Bool, true, false, [], ◌∷◌, length, Some, arith}
use Rattle.dxil_form.specs.declared.value.Ty.{Ty}
use Rattle.dxil_form.specs.declared.value.Ty.TheVariants as ty
use Rattle.dxil_form.specs.declared.value.Reg.{Reg}
use Rattle.dxil_form.specs.declared.value.Operand.{Operand}
use Rattle.dxil_form.specs.declared.instr.CastOp.{CastOp}
use Rattle.dxil_form.specs.declared.instr.CastOp.TheVariants as cast
use Rattle.dxil_form.specs.declared.instr.OneOp.{OneOp}
use Rattle.dxil_form.specs.declared.instr.TwoOp.{TwoOp}
use Rattle.dxil_form.specs.declared.instr.IdOp.{IdOp}
use Rattle.dxil_form.specs.declared.instr.IdOp.TheVariants as thread
use Rattle.dxil_form.specs.declared.instr.Scope.{Scope}
use Rattle.spv_form.specs.Formed.{IsIdBelow}
use Rattle.spv_form.specs.Shapes.{shape_of, typed}
use Rattle.spirv_code.specs.declared.key.BuiltIn.{BuiltIn}
use Rattle.spirv_code.specs.Plans.{Context, result}
use Rattle.spirv_code.specs.Reads.{Env, with_id, read_size, read_code, read_id, keep_code, two_size, two_code, second_id, three_size, three_code}
use Rattle.spirv_code.specs.Accesses.{int_inst, bool_inst}
use Rattle.spirv_code.specs.Lines.{value_code, one_opcode, two_opcode, bin_code, cast_before, cast_tail, cast_code, select_code, one_code, extreme_code, mad_code, component_code, id_code, id_before, copy_code, barrier_code}
use Rattle.line_runs.proofs.Reading.{read_length, two_length, three_length}
use Rattle.formed_lines.specs.Formed.{KeysBelow, SlotsBelow, Upto, KnownBelow}
use Rattle.formed_lines.proofs.Lists.{AreFormed, CodeOk, join, with_known, known_at, upto_front, upto_back}
use Rattle.formed_lines.proofs.Shapes.{one_id, two_ids, three_ids, load_formed, extract_formed, barrier_formed, fence_formed}
use Rattle.formed_lines.proofs.Opcodes.{one_shape, extreme_shape, and_shape, differ_shape, add_shape, mul_shape, select_shape}
use Rattle.formed_lines.proofs.Operands.{read_formed, read_ok, two_formed, first_ok, second_ok, three_formed, three_first, three_second, three_third, keep_formed, value_formed}

module _ (b : ℕ) (c : Context) (keys : KeysBelow b c) (slots : SlotsBelow b c) where
  pub bin_ok : (env : Env) (place : ℕ) (to : Reg) (t : Ty) (opcode : ℕ) (x y : Operand) → shape_of opcode ≡ Some (typed 2 0) → KnownBelow b env → Upto b c (place + length (bin_code c env place to t opcode x y)) → CodeOk b (bin_code c env place to t opcode x y) (with_id to (result c (place + two_size c env x y)) env)
  bin_ok env place to t opcode x y shape known upto =
      let n : ℕ = two_size c env x y in
      let front = two_code c env place x y in
      let back = value_code c (place + n) to t opcode (read_id c env place x ∷ second_id c env place x y ∷ []) in
      let before = upto_front b c place n front back (two_length c env place x y) upto in
      let behind = upto_back b c place n front back (two_length c env place x y) upto in
      let ok = behind (place + n) (omega arith) in
      record {
        formed = join b front back (two_formed b c keys slots env place x y before) (value_formed b c keys slots (place + n) to t opcode _ (two_ids b opcode _ _ _ _ shape (keys _) ok (first_ok b c keys slots env place x y known before) (second_ok b c keys slots env place x y known before)) ok);
        known = known_at b c to (place + n) (place + n + length back) env (omega arith) behind known;
      }

  cast_formed : (place : ℕ) (to : Reg) (op : CastOp) (id : ℕ) → IsIdBelow b id → Upto b c (place + length (cast_tail c place to op id)) → AreFormed b (cast_tail c place to op id)
  cast_formed place to cast.Trunc id ok upto =
      let here = upto place (omega arith) in
      let own = upto (place + 1) (omega arith) in
      (two_ids b 199 _ _ _ _ and_shape (keys _) here ok (keys _), value_formed b c keys slots (place + 1) to ty.Bool 171 _ (two_ids b 171 _ _ _ _ differ_shape (keys _) own here (keys _)) own)
  cast_formed place to cast.Zext id ok upto =
      let here = upto place (omega arith) in
      value_formed b c keys slots place to ty.Int 169 _ (three_ids b 169 _ _ _ _ _ select_shape (keys _) here ok (keys _) (keys _)) here
  cast_formed place to cast.Sext id ok upto =
      let here = upto place (omega arith) in
      value_formed b c keys slots place to ty.Int 169 _ (three_ids b 169 _ _ _ _ _ select_shape (keys _) here ok (keys _) (keys _)) here

  cast_room : (place : ℕ) (to : Reg) (op : CastOp) (id : ℕ) → cast_before op < length (cast_tail c place to op id)
  cast_room place to cast.Trunc id = omega arith
  cast_room place to cast.Zext id = omega arith
  cast_room place to cast.Sext id = omega arith

  pub cast_ok : (env : Env) (place : ℕ) (to : Reg) (op : CastOp) (x : Operand) → KnownBelow b env → Upto b c (place + length (cast_code c env place to op x)) → CodeOk b (cast_code c env place to op x) (with_id to (result c (place + (read_size c env x + cast_before op))) env)
  cast_ok env place to op x known upto =
      let n : ℕ = read_size c env x in
      let id : ℕ = read_id c env place x in
      let front = read_code c env place x in
      let back = cast_tail c (place + n) to op id in
      let before = upto_front b c place n front back (read_length c env place x) upto in
      let behind = upto_back b c place n front back (read_length c env place x) upto in
      record {
        formed = join b front back (read_formed b c keys slots env place x before) (cast_formed (place + n) to op id (read_ok b c keys slots env place x known before) behind);
        known = known_at b c to (place + (n + cast_before op)) (place + n + length back) env (omega (arith, cast_room (place + n) to op id)) behind known;
      }

  pub select_ok : (env : Env) (place : ℕ) (to : Reg) (t : Ty) (x y z : Operand) → KnownBelow b env → Upto b c (place + length (select_code c env place to t x y z)) → CodeOk b (select_code c env place to t x y z) (with_id to (result c (place + three_size c env x y z)) env)
  select_ok env place to t x y z known upto =
      let n : ℕ = three_size c env x y z in
      let front = three_code c env place x y z in
      let back = value_code c (place + n) to t 169 (read_id c env place x ∷ read_id c env (place + read_size c env x) y ∷ second_id c env (place + read_size c env x) y z ∷ []) in
      let before = upto_front b c place n front back (three_length c env place x y z) upto in
      let behind = upto_back b c place n front back (three_length c env place x y z) upto in
      let ok = behind (place + n) (omega arith) in
      record {
        formed = join b front back (three_formed b c keys slots env place x y z before) (value_formed b c keys slots (place + n) to t 169 _ (three_ids b 169 _ _ _ _ _ select_shape (keys _) ok (three_first b c keys slots env place x y z known before) (three_second b c keys slots env place x y z known before) (three_third b c keys slots env place x y z known before)) ok);
        known = known_at b c to (place + n) (place + n + length back) env (omega arith) behind known;
      }

  pub copy_ok : (env : Env) (place : ℕ) (to : Reg) (t : Ty) (x : Operand) → KnownBelow b env → Upto b c (place + length (copy_code c env place to t x)) → CodeOk b (copy_code c env place to t x) (with_id to (read_id c env place x) env)
  copy_ok env place to t x known upto =
      let front = read_code c env place x in
      let back = keep_code c to t (read_id c env place x) in
      let before = upto_front b c place _ front back (read_length c env place x) upto in
      let ok = read_ok b c keys slots env place x known before in
      record {
        formed = join b front back (read_formed b c keys slots env place x before) (keep_formed b c keys slots to t _ ok);
        known = with_known b to _ env ok known;
      }

  pub one_ok : (env : Env) (place : ℕ) (to : Reg) (op : OneOp) (x : Operand) → KnownBelow b env → Upto b c (place + length (one_code c env place to op x)) → CodeOk b (one_code c env place to op x) (with_id to (result c (place + read_size c env x)) env)
  one_ok env place to op x known upto =
      let n : ℕ = read_size c env x in
      let front = read_code c env place x in
      let back = value_code c (place + n) to ty.Int (one_opcode op) (read_id c env place x ∷ []) in
      let before = upto_front b c place n front back (read_length c env place x) upto in
      let behind = upto_back b c place n front back (read_length c env place x) upto in
      let ok = behind (place + n) (omega arith) in
      record {
        formed = join b front back (read_formed b c keys slots env place x before) (value_formed b c keys slots (place + n) to ty.Int (one_opcode op) _ (one_id b (one_opcode op) _ _ _ (one_shape op) (keys _) ok (read_ok b c keys slots env place x known before)) ok);
        known = known_at b c to (place + n) (place + n + length back) env (omega arith) behind known;
      }

  pub extreme_ok : (env : Env) (place : ℕ) (to : Reg) (op : TwoOp) (x y : Operand) → KnownBelow b env → Upto b c (place + length (extreme_code c env place to op x y)) → CodeOk b (extreme_code c env place to op x y) (with_id to (result c (place + (two_size c env x y + 1))) env)
  extreme_ok env place to op x y known upto =
      let n : ℕ = two_size c env x y in
      let front = two_code c env place x y in
      let i = bool_inst c (place + n) (two_opcode op) (read_id c env place x ∷ second_id c env place x y ∷ []) in
      let back = value_code c (place + (n + 1)) to ty.Int 169 (result c (place + n) ∷ second_id c env place x y ∷ read_id c env place x ∷ []) in
      let before = upto_front b c place n front (i ∷ back) (two_length c env place x y) upto in
      let behind = upto_back b c place n front (i ∷ back) (two_length c env place x y) upto in
      let here = behind (place + n) (omega arith) in
      let own = behind (place + (n + 1)) (omega arith) in
      let left = first_ok b c keys slots env place x y known before in
      let right = second_ok b c keys slots env place x y known before in
      record {
        formed = join b front (i ∷ back) (two_formed b c keys slots env place x y before) (two_ids b (two_opcode op) _ _ _ _ (extreme_shape op) (keys _) here left right, value_formed b c keys slots (place + (n + 1)) to ty.Int 169 _ (three_ids b 169 _ _ _ _ _ select_shape (keys _) own here right left) own);
        known = with_known b to _ env own known;
      }

  pub mad_ok : (env : Env) (place : ℕ) (to : Reg) (x y z : Operand) → KnownBelow b env → Upto b c (place + length (mad_code c env place to x y z)) → CodeOk b (mad_code c env place to x y z) (with_id to (result c (place + (three_size c env x y z + 1))) env)
  mad_ok env place to x y z known upto =
      let n : ℕ = three_size c env x y z in
      let front = three_code c env place x y z in
      let i = int_inst c (place + n) 132 (read_id c env place x ∷ read_id c env (place + read_size c env x) y ∷ []) in
      let back = value_code c (place + (n + 1)) to ty.Int 128 (result c (place + n) ∷ second_id c env (place + read_size c env x) y z ∷ []) in
      let before = upto_front b c place n front (i ∷ back) (three_length c env place x y z) upto in
      let behind = upto_back b c place n front (i ∷ back) (three_length c env place x y z) upto in
      let here = behind (place + n) (omega arith) in
      let own = behind (place + (n + 1)) (omega arith) in
      record {
        formed = join b front (i ∷ back) (three_formed b c keys slots env place x y z before) (two_ids b 132 _ _ _ _ mul_shape (keys _) here (three_first b c keys slots env place x y z known before) (three_second b c keys slots env place x y z known before), value_formed b c keys slots (place + (n + 1)) to ty.Int 128 _ (two_ids b 128 _ _ _ _ add_shape (keys _) own here (three_third b c keys slots env place x y z known before)) own);
        known = with_known b to _ env own known;
      }

  component_ok : (env : Env) (place : ℕ) (to : Reg) (from : BuiltIn) (part : ℕ) → KnownBelow b env → Upto b c (place + length (component_code c place to from part)) → CodeOk b (component_code c place to from part) (with_id to (result c (place + 1)) env)
  component_ok env place to from part known upto =
      let here = upto place (omega arith) in
      let own = upto (place + 1) (omega arith) in
      record {
        formed = (load_formed b _ _ _ (keys _) here (keys _), value_formed b c keys slots (place + 1) to ty.Int 81 _ (extract_formed b _ _ _ part (keys _) own here) own);
        known = with_known b to _ env own known;
      }

  pub id_ok : (env : Env) (place : ℕ) (to : Reg) (op : IdOp) (part : ℕ) → KnownBelow b env → Upto b c (place + length (id_code c place to op part)) → CodeOk b (id_code c place to op part) (with_id to (result c (place + id_before op)) env)
  id_ok env place to thread.Thread part known upto = component_ok env place to _ part known upto
  id_ok env place to thread.Group part known upto = component_ok env place to _ part known upto
  id_ok env place to thread.InGroup part known upto = component_ok env place to _ part known upto
  id_ok env place to thread.Flat part known upto =
      let here = upto place (omega arith) in
      record {
        formed = value_formed b c keys slots place to ty.Int 61 _ (load_formed b _ _ _ (keys _) here (keys _)) here;
        known = with_known b to _ env (upto (place + 0) (omega arith)) known;
      }

  pub barrier_ok : (sync : Bool) (s : Scope) (uav shared : Bool) → AreFormed b (barrier_code c sync s uav shared)
  barrier_ok true s uav shared = (barrier_formed b _ _ _ (keys _) (keys _) (keys _), tt)
  barrier_ok false s uav shared = (fence_formed b _ _ (keys _) (keys _), tt)
