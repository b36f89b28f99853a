-- The shapes of the opcodes that lines have.
use Rattle.std.proofs.Common.{◌≡◌, Some, refl}
use Rattle.dxil_form.specs.declared.value.Ty.{Ty}
use Rattle.dxil_form.specs.declared.value.Ty.TheVariants as ty
use Rattle.dxil_form.specs.declared.instr.BinOp.{BinOp}
use Rattle.dxil_form.specs.declared.instr.BinOp.TheVariants as bin
use Rattle.dxil_form.specs.declared.instr.CmpOp.{CmpOp}
use Rattle.dxil_form.specs.declared.instr.CmpOp.TheVariants as cmp
use Rattle.dxil_form.specs.declared.instr.OneOp.{OneOp}
use Rattle.dxil_form.specs.declared.instr.OneOp.TheVariants as one
use Rattle.dxil_form.specs.declared.instr.TwoOp.{TwoOp}
use Rattle.dxil_form.specs.declared.instr.TwoOp.TheVariants as two
use Rattle.dxil_form.specs.declared.instr.AtomicOp.{AtomicOp}
use Rattle.dxil_form.specs.declared.instr.AtomicOp.TheVariants as atomic
use Rattle.spv_form.specs.Shapes.{shape_of, typed}
use Rattle.spirv_code.specs.Accesses.{atomic_opcode}
use Rattle.spirv_code.specs.Lines.{bin_opcode, cmp_opcode, one_opcode, two_opcode}

pub bin_shape : (op : BinOp) (t : Ty) → shape_of (bin_opcode op t) ≡ Some (typed 2 0)
unfolding shape_of
bin_shape bin.Add t = refl
bin_shape bin.Sub t = refl
bin_shape bin.Mul t = refl
bin_shape bin.UDiv t = refl
bin_shape bin.SDiv t = refl
bin_shape bin.URem t = refl
bin_shape bin.SRem t = refl
bin_shape bin.Shl t = refl
bin_shape bin.LShr t = refl
bin_shape bin.AShr t = refl
bin_shape bin.And ty.Int = refl
bin_shape bin.And ty.Bool = refl
bin_shape bin.Or ty.Int = refl
bin_shape bin.Or ty.Bool = refl
bin_shape bin.Xor ty.Int = refl
bin_shape bin.Xor ty.Bool = refl

pub cmp_shape : (op : CmpOp) (t : Ty) → shape_of (cmp_opcode op t) ≡ Some (typed 2 0)
unfolding shape_of
cmp_shape cmp.Eq ty.Int = refl
cmp_shape cmp.Eq ty.Bool = refl
cmp_shape cmp.Ne ty.Int = refl
cmp_shape cmp.Ne ty.Bool = refl
cmp_shape cmp.UGt t = refl
cmp_shape cmp.UGe t = refl
cmp_shape cmp.ULt t = refl
cmp_shape cmp.ULe t = refl
cmp_shape cmp.SGt t = refl
cmp_shape cmp.SGe t = refl
cmp_shape cmp.SLt t = refl
cmp_shape cmp.SLe t = refl

pub one_shape : (op : OneOp) → shape_of (one_opcode op) ≡ Some (typed 1 0)
unfolding shape_of
one_shape one.Bfrev = refl
one_shape one.Countbits = refl

pub extreme_shape : (op : TwoOp) → shape_of (two_opcode op) ≡ Some (typed 2 0)
unfolding shape_of
extreme_shape two.IMax = refl
extreme_shape two.IMin = refl
extreme_shape two.UMax = refl
extreme_shape two.UMin = refl

pub and_shape : shape_of 199 ≡ Some (typed 2 0)
unfolding shape_of
and_shape = refl

pub differ_shape : shape_of 171 ≡ Some (typed 2 0)
unfolding shape_of
differ_shape = refl

pub add_shape : shape_of 128 ≡ Some (typed 2 0)
unfolding shape_of
add_shape = refl

pub mul_shape : shape_of 132 ≡ Some (typed 2 0)
unfolding shape_of
mul_shape = refl

pub select_shape : shape_of 169 ≡ Some (typed 3 0)
unfolding shape_of
select_shape = refl

pub divide_shape : shape_of 134 ≡ Some (typed 2 0)
unfolding shape_of
divide_shape = refl

pub shift_shape : shape_of 194 ≡ Some (typed 2 0)
unfolding shape_of
shift_shape = refl

pub equal_shape : shape_of 170 ≡ Some (typed 2 0)
unfolding shape_of
equal_shape = refl

pub below_shape : shape_of 176 ≡ Some (typed 2 0)
unfolding shape_of
below_shape = refl

pub at_most_shape : shape_of 178 ≡ Some (typed 2 0)
unfolding shape_of
at_most_shape = refl

pub both_shape : shape_of 167 ≡ Some (typed 2 0)
unfolding shape_of
both_shape = refl

pub swap_shape : shape_of 230 ≡ Some (typed 6 0)
unfolding shape_of
swap_shape = refl

pub atomic_shape : (op : AtomicOp) → shape_of (atomic_opcode op) ≡ Some (typed 4 0)
unfolding shape_of
atomic_shape atomic.Add = refl
atomic_shape atomic.Sub = refl
atomic_shape atomic.And = refl
atomic_shape atomic.Or = refl
atomic_shape atomic.Xor = refl
atomic_shape atomic.SMin = refl
atomic_shape atomic.SMax = refl
atomic_shape atomic.UMin = refl
atomic_shape atomic.UMax = refl
atomic_shape atomic.Exchange = refl
