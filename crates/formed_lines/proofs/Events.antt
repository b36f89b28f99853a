-- The event of a part is formed, and so are the zeros that stand for it.
use Rattle.std.proofs.Common.{ℕ, ◌+◌, List, arith}
use Rattle.dxil_form.specs.declared.value.Ty.TheVariants as ty
use Rattle.dxil_form.specs.declared.value.Reg.{Reg}
use Rattle.dxil_form.specs.declared.instr.Target.{Target}
use Rattle.spv_form.specs.declared.module.Inst.{Inst}
use Rattle.spv_form.specs.Formed.{IsIdBelow}
use Rattle.spirv_code.specs.declared.event.Event.{Event}
use Rattle.spirv_code.specs.declared.event.Event.TheVariants.{Load, Store, Atomic, Swap}
use Rattle.spirv_code.specs.Plans.{Context, result}
use Rattle.spirv_code.specs.Reads.{Env, read_size, read_code, keep_size, keep_code, two_size, two_code}
use Rattle.spirv_code.specs.Accesses.{atomic_opcode, event_reads, event_tail, swap_code, event_code, zeros_code, zeros_env, zeros_block, other_code}
use Rattle.formed_lines.specs.Formed.{KeysBelow, SlotsBelow, Upto, KnownBelow}
use Rattle.formed_lines.proofs.Lists.{AreFormed, join, up, with_known}
use Rattle.formed_lines.proofs.Shapes.{two_ids, four_ids, six_ids, load_formed, store_formed, label_formed, branch_formed}
use Rattle.formed_lines.proofs.Opcodes.{equal_shape, swap_shape, atomic_shape}
use Rattle.formed_lines.proofs.Operands.{read_formed, read_ok, two_formed, first_ok, second_ok, keep_formed}

module _ (b : ℕ) (c : Context) (keys : KeysBelow b c) (slots : SlotsBelow b c) where
  swap_formed : (place pointer : ℕ) (t : Target) (old same : Reg) (value compare : ℕ) → IsIdBelow b pointer → IsIdBelow b value → IsIdBelow b compare → Upto b c (place + (1 + keep_size c old ty.Int + (1 + keep_size c same ty.Bool))) → AreFormed b (swap_code c place pointer t old same value compare)
  swap_formed place pointer t old same value compare point ok other upto =
      let n : ℕ = keep_size c old ty.Int in
      let own = upto place (omega arith) in
      let equal = upto (place + (1 + n)) (omega arith) in
      (six_ids b 230 _ _ _ _ _ _ _ _ swap_shape (keys _) own point (keys _) (keys _) (keys _) ok other, join b (keep_code c old ty.Int (result c place)) _ (keep_formed b c keys slots old ty.Int _ own) (two_ids b 170 _ _ _ _ equal_shape (keys _) equal own other, keep_formed b c keys slots same ty.Bool _ equal))

  pub event_formed : (env : Env) (place pointer : ℕ) (t : Target) (event : Event) → IsIdBelow b pointer → KnownBelow b env → Upto b c (place + (event_reads c env event + event_tail c event)) → AreFormed b (event_code c env place pointer t event)
  event_formed env place pointer t (Load to) point known upto =
      let own = upto place (omega arith) in
      (load_formed b _ _ _ (keys _) own point, keep_formed b c keys slots to ty.Int _ own)
  event_formed env place pointer t (Store value) point known upto =
      let before = up b c (place + read_size c env value) _ (omega arith) upto in
      join b (read_code c env place value) _ (read_formed b c keys slots env place value before) (store_formed b _ _ point (read_ok b c keys slots env place value known before), tt)
  event_formed env place pointer t (Atomic to op value) point known upto =
      let n : ℕ = read_size c env value in
      let before = up b c (place + n) _ (omega arith) upto in
      let own = upto (place + n) (omega arith) in
      join b (read_code c env place value) _ (read_formed b c keys slots env place value before) (four_ids b (atomic_opcode op) _ _ _ _ _ _ (atomic_shape op) (keys _) own point (keys _) (keys _) (read_ok b c keys slots env place value known before), keep_formed b c keys slots to ty.Int _ own)
  event_formed env place pointer t (Swap old same compare value) point known upto =
      let n : ℕ = two_size c env value compare in
      let before = up b c (place + n) _ (omega arith) upto in
      let behind = up b c (place + n + (1 + keep_size c old ty.Int + (1 + keep_size c same ty.Bool))) _ (omega arith) upto in
      join b (two_code c env place value compare) _ (two_formed b c keys slots env place value compare before) (swap_formed (place + n) pointer t old same _ _ point (first_ok b c keys slots env place value compare known before) (second_ok b c keys slots env place value compare known before) behind)

  pub zeros_formed : (event : Event) → AreFormed b (zeros_code c event)
  zeros_formed (Load to) = keep_formed b c keys slots to ty.Int _ (keys _)
  zeros_formed (Store value) = tt
  zeros_formed (Atomic to op value) = keep_formed b c keys slots to ty.Int _ (keys _)
  zeros_formed (Swap old same compare value) =
      join b (keep_code c old ty.Int _) _ (keep_formed b c keys slots old ty.Int _ (keys _)) (keep_formed b c keys slots same ty.Bool _ (keys _))

  pub zeros_known : (event : Event) (env : Env) → KnownBelow b env → KnownBelow b (zeros_env c event env)
  zeros_known (Load to) env known = with_known b to _ env (keys _) known
  zeros_known (Store value) env known = known
  zeros_known (Atomic to op value) env known = with_known b to _ env (keys _) known
  zeros_known (Swap old same compare value) env known =
      with_known b same _ _ (keys _) (with_known b old _ env (keys _) known)

  block_formed : (label meet : ℕ) (zeros : List Inst) → IsIdBelow b label → IsIdBelow b meet → AreFormed b zeros → AreFormed b (zeros_block label meet zeros)
  block_formed label meet zeros hl hm formed =
      (label_formed b label hl, join b zeros _ formed (branch_formed b meet hm, tt))

  pub other_formed : (label meet : ℕ) (event : Event) → IsIdBelow b label → IsIdBelow b meet → AreFormed b (other_code c label meet event)
  other_formed label meet (Load to) hl hm = block_formed label meet _ hl hm (zeros_formed (Load to))
  other_formed label meet (Store value) hl hm = tt
  other_formed label meet (Atomic to op value) hl hm =
      block_formed label meet _ hl hm (zeros_formed (Atomic to op value))
  other_formed label meet (Swap old same compare value) hl hm =
      block_formed label meet _ hl hm (zeros_formed (Swap old same compare value))
