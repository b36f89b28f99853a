-- An operation of the program and the instruction for it give the same value.
use Rattle.std.proofs.Common.{◌≡◌, ℕ, Bool, Option, Some, None, refl, ap, subst}
use Rattle.std.specs.Prelude.{option_map}
use Rattle.dxil_form.specs.declared.value.Ty.{Ty}
use Rattle.dxil_form.specs.declared.value.Ty.TheVariants as ty
use Rattle.dxil_form.specs.declared.instr.BinOp.{BinOp}
use Rattle.dxil_form.specs.declared.instr.BinOp.TheVariants.{Add, Sub, Mul, UDiv, SDiv, URem, SRem, Shl, LShr, AShr, And, Or, Xor}
use Rattle.dxil_form.specs.declared.instr.CmpOp.{CmpOp}
use Rattle.dxil_form.specs.declared.instr.CmpOp.TheVariants.{Eq, Ne, UGt, UGe, ULt, ULe, SGt, SGe, SLt, SLe}
use Rattle.dxil_form.specs.declared.instr.OneOp.{OneOp}
use Rattle.dxil_form.specs.declared.instr.OneOp.TheVariants.{Bfrev, Countbits}
use Rattle.dxil_meaning.specs.Source as source
use Rattle.dxil_meaning.specs.Source.{bin_value, number_op, cmp_value, one_op}
use Rattle.spirv_meaning.specs.Target.{Value, Word, Truth, Two_operands, One_operand, kind_of}
use Rattle.spirv_code.specs.Lines.{bin_opcode, cmp_opcode, one_opcode}
use Rattle.line_runs.specs.Held.{as_value, IsOf}
use Rattle.line_runs.proofs.Tests.{none_some, some_inj}

-- the instruction of this opcode gives the value on these operands
abbrev pub Does : ℕ → Value → Value → Value → Type 0
Does opcode a b v = (f : Option Value → Option Value → Option Value) × (kind_of opcode ≡ Some (Two_operands f)) × (f (Some a) (Some b) ≡ Some v)

through : (o : Option ℕ) (v : source.Value) → option_map source.Number o ≡ Some v → option_map Word o ≡ Some (as_value v)
through (Some n) v e = ap (option_map as_value) e
through None v e = absurd (none_some e)

bin_numbers : (op : BinOp) (x y : ℕ) (v : source.Value) → option_map source.Number (number_op op x y) ≡ Some v → Does (bin_opcode op ty.Int) (Word x) (Word y) (as_value v)
bin_numbers Add x y v e = (_, refl, through (number_op Add x y) v e)
bin_numbers Sub x y v e = (_, refl, through (number_op Sub x y) v e)
bin_numbers Mul x y v e = (_, refl, through (number_op Mul x y) v e)
bin_numbers UDiv x y v e = (_, refl, through (number_op UDiv x y) v e)
bin_numbers SDiv x y v e = (_, refl, through (number_op SDiv x y) v e)
bin_numbers URem x y v e = (_, refl, through (number_op URem x y) v e)
bin_numbers SRem x y v e = (_, refl, through (number_op SRem x y) v e)
bin_numbers Shl x y v e = (_, refl, through (number_op Shl x y) v e)
bin_numbers LShr x y v e = (_, refl, through (number_op LShr x y) v e)
bin_numbers AShr x y v e = (_, refl, through (number_op AShr x y) v e)
bin_numbers And x y v e = (_, refl, through (number_op And x y) v e)
bin_numbers Or x y v e = (_, refl, through (number_op Or x y) v e)
bin_numbers Xor x y v e = (_, refl, through (number_op Xor x y) v e)

-- what two operands of an operation that is defined are, and its result
pub record Bin_of (opcode : ℕ) (type result : Ty) (a b : Option source.Value) (v : source.Value) : Type 0 where
  pub x : source.Value
  pub y : source.Value
  pub left : a ≡ Some x
  pub right : b ≡ Some y
  pub of : IsOf result (as_value v)
  pub does : Does opcode (as_value x) (as_value y) (as_value v)

number_of : (o : Option ℕ) (v : source.Value) → option_map source.Number o ≡ Some v → IsOf ty.Int (as_value v)
number_of (Some n) v e = subst (λ w. IsOf ty.Int (as_value w)) (some_inj e) tt
number_of None v e = absurd (none_some e)

truth_of : (o : Option Bool) (v : source.Value) → option_map source.Truth o ≡ Some v → IsOf ty.Bool (as_value v)
truth_of (Some b) v e = subst (λ w. IsOf ty.Bool (as_value w)) (some_inj e) tt
truth_of None v e = absurd (none_some e)

pub bin_does : (op : BinOp) (type : Ty) (a b : Option source.Value) (v : source.Value) → bin_value op type a b ≡ Some v → Bin_of (bin_opcode op type) type type a b v
bin_does op ty.Int (Some (source.Number x)) (Some (source.Number y)) v e =
    record { x = source.Number x; y = source.Number y; left = refl; right = refl; of = number_of (number_op op x y) v e; does = bin_numbers op x y v e }
bin_does And ty.Bool (Some (source.Truth x)) (Some (source.Truth y)) v e =
    record { x = source.Truth x; y = source.Truth y; left = refl; right = refl; of = truth_of (Some _) v e; does = (_, refl, ap (option_map as_value) e) }
bin_does Or ty.Bool (Some (source.Truth x)) (Some (source.Truth y)) v e =
    record { x = source.Truth x; y = source.Truth y; left = refl; right = refl; of = truth_of (Some _) v e; does = (_, refl, ap (option_map as_value) e) }
bin_does Xor ty.Bool (Some (source.Truth x)) (Some (source.Truth y)) v e =
    record { x = source.Truth x; y = source.Truth y; left = refl; right = refl; of = truth_of (Some _) v e; does = (_, refl, ap (option_map as_value) e) }
bin_does _ ty.Bool (Some (source.Truth x)) (Some (source.Truth y)) v e = absurd (none_some e)
bin_does op ty.Int None b v e = absurd (none_some e)
bin_does op ty.Int (Some (source.Number x)) None v e = absurd (none_some e)
bin_does op ty.Int (Some (source.Truth x)) b v e = absurd (none_some e)
bin_does op ty.Int (Some (source.Number x)) (Some (source.Truth y)) v e = absurd (none_some e)
bin_does op ty.Bool None b v e = absurd (none_some e)
bin_does op ty.Bool (Some (source.Number x)) b v e = absurd (none_some e)
bin_does op ty.Bool (Some (source.Truth x)) None v e = absurd (none_some e)
bin_does op ty.Bool (Some (source.Truth x)) (Some (source.Number y)) v e = absurd (none_some e)

cmp_numbers : (op : CmpOp) (x y : ℕ) → Does (cmp_opcode op ty.Int) (Word x) (Word y) (Truth (source.number_test op x y))
cmp_numbers Eq x y = (_, refl, refl)
cmp_numbers Ne x y = (_, refl, refl)
cmp_numbers UGt x y = (_, refl, refl)
cmp_numbers UGe x y = (_, refl, refl)
cmp_numbers ULt x y = (_, refl, refl)
cmp_numbers ULe x y = (_, refl, refl)
cmp_numbers SGt x y = (_, refl, refl)
cmp_numbers SGe x y = (_, refl, refl)
cmp_numbers SLt x y = (_, refl, refl)
cmp_numbers SLe x y = (_, refl, refl)

pub cmp_does : (op : CmpOp) (type : Ty) (a b : Option source.Value) (v : source.Value) → cmp_value op type a b ≡ Some v → Bin_of (cmp_opcode op type) type ty.Bool a b v
cmp_does op ty.Int (Some (source.Number x)) (Some (source.Number y)) v e =
    record {
      x = source.Number x;
      y = source.Number y;
      left = refl;
      right = refl;
      of = subst (λ w. IsOf ty.Bool (as_value w)) (some_inj e) tt;
      does = subst (λ w. Does (cmp_opcode op ty.Int) (Word x) (Word y) (as_value w)) (some_inj e) (cmp_numbers op x y);
    }
cmp_does Eq ty.Bool (Some (source.Truth x)) (Some (source.Truth y)) v e =
    record { x = source.Truth x; y = source.Truth y; left = refl; right = refl; of = truth_of (Some _) v e; does = (_, refl, ap (option_map as_value) e) }
cmp_does Ne ty.Bool (Some (source.Truth x)) (Some (source.Truth y)) v e =
    record { x = source.Truth x; y = source.Truth y; left = refl; right = refl; of = truth_of (Some _) v e; does = (_, refl, ap (option_map as_value) e) }
cmp_does _ ty.Bool (Some (source.Truth x)) (Some (source.Truth y)) v e = absurd (none_some e)
cmp_does op ty.Int None b v e = absurd (none_some e)
cmp_does op ty.Int (Some (source.Number x)) None v e = absurd (none_some e)
cmp_does op ty.Int (Some (source.Truth x)) b v e = absurd (none_some e)
cmp_does op ty.Int (Some (source.Number x)) (Some (source.Truth y)) v e = absurd (none_some e)
cmp_does op ty.Bool None b v e = absurd (none_some e)
cmp_does op ty.Bool (Some (source.Number x)) b v e = absurd (none_some e)
cmp_does op ty.Bool (Some (source.Truth x)) None v e = absurd (none_some e)
cmp_does op ty.Bool (Some (source.Truth x)) (Some (source.Number y)) v e = absurd (none_some e)

-- the instruction for an operation on one number
pub one_does : (op : OneOp) (x : ℕ) → (f : Option Value → Option Value) × (kind_of (one_opcode op) ≡ Some (One_operand f)) × (f (Some (Word x)) ≡ Some (Word (one_op op x)))
one_does Bfrev x = (_, refl, refl)
one_does Countbits x = (_, refl, refl)
