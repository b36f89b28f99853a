-- What the code of the lines of a block defines.
use Rattle.std.proofs.Common.{◌≡◌, ℕ, ◌+◌, Bool, true, false, List, [], ◌∷◌, ◌++◌, length, Some, ap, arith}
use Rattle.dxil_form.specs.declared.value.Ty.{Ty}
use Rattle.dxil_form.specs.declared.value.Ty.TheVariants as ty
use Rattle.dxil_form.specs.declared.value.Reg.{Reg}
use Rattle.dxil_form.specs.declared.value.Operand.{Operand}
use Rattle.dxil_form.specs.declared.instr.CastOp.{CastOp}
use Rattle.dxil_form.specs.declared.instr.CastOp.TheVariants as cast
use Rattle.dxil_form.specs.declared.instr.IdOp.{IdOp}
use Rattle.dxil_form.specs.declared.instr.IdOp.TheVariants as thread
use Rattle.dxil_form.specs.declared.instr.Scope.{Scope}
use Rattle.dxil_form.specs.declared.instr.Instr.{Instr}
use Rattle.dxil_form.specs.declared.instr.Instr.TheVariants as instr
use Rattle.dxil_form.specs.Registers.{parts_of}
use Rattle.spv_form.specs.declared.module.Inst.{Inst}
use Rattle.spv_form.specs.declared.shape.Shape.TheVariants.{Plain}
use Rattle.spv_form.specs.Shapes.{shape_of}
use Rattle.spirv_code.specs.declared.key.BuiltIn.{BuiltIn}
use Rattle.spirv_code.specs.declared.event.Event.TheVariants as event
use Rattle.spirv_code.specs.Plans.{Context, result}
use Rattle.spirv_code.specs.Reads.{Env, read_size, read_id, second_id, two_size, two_code, three_size, three_code}
use Rattle.spirv_code.specs.Lines.{bin_opcode, cmp_opcode, one_opcode, two_opcode, value_code, cast_tail, component_code, id_code, built_in_of, barrier_code, load_event, store_event, swap_event, line_code, line_env, lines_code}
use Rattle.line_runs.proofs.Reading.{two_length, three_length}
use Rattle.formed_lines.proofs.Opcodes.{bin_shape, cmp_shape, one_shape, extreme_shape, and_shape, differ_shape, add_shape, mul_shape, select_shape}
use Rattle.ruled_ids.proofs.Seats.{AreSeated, bare, own, made, load_is, barrier_is, fence_is, length_is, extract_is, at_place, seated_append, behind, read_then, two_seated, three_seated, keep_seated}
use Rattle.ruled_ids.proofs.SeatedParts.{part_seated, parts_seated}

module _ (c : Context) (M : ℕ → Type 0) where
  value_seated : (place : ℕ) (to : Reg) (t : Ty) (opcode : ℕ) (operands : List ℕ) (least most numbers : ℕ) → shape_of opcode ≡ Some (Plain true true least most numbers) → AreSeated c M place (value_code c place to t opcode operands)
  value_seated place to t opcode operands least most numbers shape =
      (own (made opcode _ _ _ least most numbers shape), keep_seated c M (place + 1) to t (result c place))

  -- behind two or three reads
  two_then : (env : Env) (place : ℕ) (a b : Operand) (rest : List Inst) → AreSeated c M (place + two_size c env a b) rest → AreSeated c M place (two_code c env place a b ++ rest)
  two_then env place a b rest h =
      behind c M place (place + two_size c env a b) (two_code c env place a b) rest (ap (λ n. place + n) (two_length c env place a b)) (two_seated c M env place a b) h

  three_then : (env : Env) (place : ℕ) (x a b : Operand) (rest : List Inst) → AreSeated c M (place + three_size c env x a b) rest → AreSeated c M place (three_code c env place x a b ++ rest)
  three_then env place x a b rest h =
      behind c M place (place + three_size c env x a b) (three_code c env place x a b) rest (ap (λ n. place + n) (three_length c env place x a b)) (three_seated c M env place x a b) h

  cast_seated : (place : ℕ) (to : Reg) (op : CastOp) (id : ℕ) → AreSeated c M place (cast_tail c place to op id)
  cast_seated place to cast.Trunc id =
      (own (made 199 _ _ _ 2 2 0 and_shape), value_seated (place + 1) to ty.Bool 171 _ 2 2 0 differ_shape)
  cast_seated place to cast.Zext id = value_seated place to ty.Int 169 _ 3 3 0 select_shape
  cast_seated place to cast.Sext id = value_seated place to ty.Int 169 _ 3 3 0 select_shape

  component_seated : (place : ℕ) (to : Reg) (b : BuiltIn) (part : ℕ) → AreSeated c M place (component_code c place to b part)
  component_seated place to b part =
      (own (load_is _ _ _), (own (extract_is _ _ _ part), keep_seated c M (place + 1 + 1) to ty.Int (result c (place + 1))))

  id_seated : (place : ℕ) (to : Reg) (op : IdOp) (part : ℕ) → AreSeated c M place (id_code c place to op part)
  id_seated place to thread.Thread part = component_seated place to (built_in_of thread.Thread) part
  id_seated place to thread.Group part = component_seated place to (built_in_of thread.Group) part
  id_seated place to thread.InGroup part = component_seated place to (built_in_of thread.InGroup) part
  id_seated place to thread.Flat part = (own (load_is _ _ _), keep_seated c M (place + 1) to ty.Int (result c place))

  barrier_seated : (place : ℕ) (sync : Bool) (x : Scope) (uav shared : Bool) → AreSeated c M place (barrier_code c sync x uav shared)
  barrier_seated place true x uav shared = (bare (barrier_is _), tt)
  barrier_seated place false x uav shared = (bare (fence_is _), tt)

  line_seated : (env : Env) (place : ℕ) (line : Instr) → AreSeated c M place (line_code c env place line)
  line_seated env place (instr.Bin to op t a b) =
      two_then env place a b _ (value_seated (place + two_size c env a b) to t (bin_opcode op t) _ 2 2 0 (bin_shape op t))
  line_seated env place (instr.Cmp to op t a b) =
      two_then env place a b _ (value_seated (place + two_size c env a b) to ty.Bool (cmp_opcode op t) _ 2 2 0 (cmp_shape op t))
  line_seated env place (instr.Cast to op a) =
      read_then c M env place a _ (cast_seated (place + read_size c env a) to op (read_id c env place a))
  line_seated env place (instr.Select to t x a b) =
      three_then env place x a b _ (value_seated (place + three_size c env x a b) to t 169 _ 3 3 0 select_shape)
  line_seated env place (instr.Copy to t a) =
      read_then c M env place a _ (keep_seated c M (place + read_size c env a) to t (read_id c env place a))
  line_seated env place (instr.One to op a) =
      read_then c M env place a _ (value_seated (place + read_size c env a) to ty.Int (one_opcode op) _ 1 1 0 (one_shape op))
  line_seated env place (instr.Two to op a b) =
      let q : ℕ = place + two_size c env a b in
      let next : place + (two_size c env a b + 1) ≡ q + 1 = omega arith in
      let chosen : List ℕ = result c q ∷ second_id c env place a b ∷ read_id c env place a ∷ [] in
      two_then env place a b _ (own (made (two_opcode op) _ _ _ 2 2 0 (extreme_shape op)), at_place c M (value_code c (place + (two_size c env a b + 1)) to ty.Int 169 chosen) (place + (two_size c env a b + 1)) (q + 1) next (value_seated (place + (two_size c env a b + 1)) to ty.Int 169 chosen 3 3 0 select_shape))
  line_seated env place (instr.Mad to x a b) =
      let q : ℕ = place + three_size c env x a b in
      let next : place + (three_size c env x a b + 1) ≡ q + 1 = omega arith in
      let summed : List ℕ = result c q ∷ second_id c env (place + read_size c env x) a b ∷ [] in
      three_then env place x a b _ (own (made 132 _ _ _ 2 2 0 mul_shape), at_place c M (value_code c (place + (three_size c env x a b + 1)) to ty.Int 128 summed) (place + (three_size c env x a b + 1)) (q + 1) next (value_seated (place + (three_size c env x a b + 1)) to ty.Int 128 summed 2 2 0 add_shape))
  line_seated env place (instr.Id to op part) = id_seated place to op part
  line_seated env place (instr.Size to buffer) =
      (own (length_is _ _ _ _), keep_seated c M (place + 1) to ty.Int (result c place))
  line_seated env place (instr.Load to mask t addr) = parts_seated c M env place t addr (load_event to) (parts_of mask)
  line_seated env place (instr.Store mask t addr x y z w) = parts_seated c M env place t addr (store_event x y z w) (parts_of mask)
  line_seated env place (instr.Atomic to op t addr value) = part_seated c M env place t addr 0 (event.Atomic to op value)
  line_seated env place (instr.Swap to t addr compare value) = part_seated c M env place t addr 0 (swap_event to compare value)
  line_seated env place (instr.Barrier sync x uav shared) = barrier_seated place sync x uav shared
  line_seated env place instr.Nothing = tt

  pub lines_seated : (env : Env) (place : ℕ) (lines : List Instr) → AreSeated c M place (lines_code c env place lines)
  lines_seated env place [] = tt
  lines_seated env place (line ∷ lines) =
      let first : List Inst = line_code c env place line in
      seated_append c M place first _ (line_seated env place line) (lines_seated (line_env c env place line) (place + length first) lines)
