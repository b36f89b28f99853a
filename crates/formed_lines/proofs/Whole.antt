-- The lines of a block are formed.
use Rattle.std.proofs.Common.{ℕ, ◌+◌, List, [], ◌∷◌, length, refl, arith}
use Rattle.dxil_form.specs.declared.value.Ty.TheVariants as ty
use Rattle.dxil_form.specs.declared.instr.Target.TheVariants as target
use Rattle.dxil_form.specs.declared.instr.Instr.{Instr}
use Rattle.dxil_form.specs.declared.instr.Instr.TheVariants.{Bin, Cmp, Cast, Select, Copy, One, Two, Mad, Id, Size, Load, Store, Atomic, Swap, Barrier, Nothing}
use Rattle.dxil_form.specs.Registers.{parts_of}
use Rattle.spirv_code.specs.declared.event.Event.TheVariants as event
use Rattle.spirv_code.specs.Plans.{Context}
use Rattle.spirv_code.specs.Reads.{Env}
use Rattle.spirv_code.specs.Lines.{bin_opcode, cmp_opcode, load_event, store_event, swap_event, line_code, line_env, lines_code, lines_env}
use Rattle.formed_lines.specs.Formed.{KeysBelow, SlotsBelow, Upto, KnownBelow, LinesAreFormed}
use Rattle.formed_lines.proofs.Lists.{CodeOk, join, all_formed, with_known, upto_front, upto_back}
use Rattle.formed_lines.proofs.Opcodes.{bin_shape, cmp_shape}
use Rattle.formed_lines.proofs.Operands.{keep_formed}
use Rattle.formed_lines.proofs.Lines.{bin_ok, cast_ok, select_ok, copy_ok, one_ok, extreme_ok, mad_ok, id_ok, barrier_ok}
use Rattle.formed_lines.proofs.Checks.{size_formed}
use Rattle.formed_lines.proofs.Parts.{part_ok, parts_ok}

module _ (b : ℕ) (c : Context) (keys : KeysBelow b c) (slots : SlotsBelow b c) where
  line_ok : (env : Env) (place : ℕ) (line : Instr) → KnownBelow b env → Upto b c (place + length (line_code c env place line)) → CodeOk b (line_code c env place line) (line_env c env place line)
  line_ok env place (Bin to op t x y) known upto = bin_ok b c keys slots env place to t (bin_opcode op t) x y (bin_shape op t) known upto
  line_ok env place (Cmp to op t x y) known upto =
      bin_ok b c keys slots env place to ty.Bool (cmp_opcode op t) x y (cmp_shape op t) known upto
  line_ok env place (Cast to op x) known upto = cast_ok b c keys slots env place to op x known upto
  line_ok env place (Select to t x y z) known upto = select_ok b c keys slots env place to t x y z known upto
  line_ok env place (Copy to t x) known upto = copy_ok b c keys slots env place to t x known upto
  line_ok env place (One to op x) known upto = one_ok b c keys slots env place to op x known upto
  line_ok env place (Two to op x y) known upto = extreme_ok b c keys slots env place to op x y known upto
  line_ok env place (Mad to x y z) known upto = mad_ok b c keys slots env place to x y z known upto
  line_ok env place (Id to op part) known upto = id_ok b c keys slots env place to op part known upto
  line_ok env place (Size to buffer) known upto =
      let own = upto place (omega arith) in
      record {
        formed = (size_formed b c keys slots place (target.Buffer buffer) own, keep_formed b c keys slots to ty.Int _ own);
        known = with_known b to _ env own known;
      }
  line_ok env place (Load to mask t addr) known upto = parts_ok b c keys slots t addr (load_event to) (parts_of mask) env place known upto
  line_ok env place (Store mask t addr x y z w) known upto =
      parts_ok b c keys slots t addr (store_event x y z w) (parts_of mask) env place known upto
  line_ok env place (Atomic to op t addr value) known upto =
      part_ok b c keys slots env place t addr 0 (event.Atomic to op value) known upto
  line_ok env place (Swap to t addr compare value) known upto =
      part_ok b c keys slots env place t addr 0 (swap_event to compare value) known upto
  line_ok env place (Barrier sync s uav shared) known upto =
      record { formed = barrier_ok b c keys slots sync s uav shared; known = known }
  line_ok env place Nothing known upto = record { formed = tt; known = known }

  pub lines_ok : (lines : List Instr) (env : Env) (place : ℕ) → KnownBelow b env → Upto b c (place + length (lines_code c env place lines)) → CodeOk b (lines_code c env place lines) (lines_env c env place lines)
  lines_ok [] env place known upto = record { formed = tt; known = known }
  lines_ok (line ∷ lines) env place known upto =
      let front = line_code c env place line in
      let env' = line_env c env place line in
      let back = lines_code c env' (place + length front) lines in
      let one = line_ok env place line known (upto_front b c place (length front) front back refl upto) in
      let rest = lines_ok lines env' (place + length front) one.known (upto_back b c place (length front) front back refl upto) in
      record { formed = join b front back one.formed rest.formed; known = rest.known }

pub lines_are_formed : LinesAreFormed
lines_are_formed b c env place lines keys slots known upto =
    let ok = lines_ok b c keys slots lines env place known upto in
    (all_formed b (lines_code c env place lines) ok.formed, ok.known)
