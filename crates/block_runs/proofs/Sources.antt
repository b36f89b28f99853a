-- Steps of the program's machine inside a block, and what a set register leaves of an address.
use Rattle.std.proofs.Common.{◌≡◌, ◌≢◌, ℕ, suc, ◌+◌, Bool, true, false, List, [], ◌∷◌, length, length-drop, drop, Option, Some, None, refl, sym, ap, ◌∙◌, arith}
use Rattle.std.specs.Prelude.{nat_eq, nat_lt, nat_le, ◌&&◌, ◌*◌, ◌/◌, ◌%◌, ◌<◌, slice_get, option_map, option_and_then, if◌then◌else◌}
use Rattle.std.proofs.Math.Seq.{drop-cons}
use Rattle.std.proofs.lemmas.Option.{slice_get-get_or, slice_get_past}
use Rattle.dxil_form.specs.declared.value.Ty.{Ty}
use Rattle.dxil_form.specs.declared.value.Operand.{Operand}
use Rattle.dxil_form.specs.declared.value.Operand.TheVariants as operand
use Rattle.dxil_form.specs.declared.value.Reg.{Reg}
use Rattle.dxil_form.specs.declared.instr.Addr.{Addr}
use Rattle.dxil_form.specs.declared.instr.Addr.TheVariants.{Byte, Element, Row, Index}
use Rattle.dxil_form.specs.declared.instr.Target.{Target}
use Rattle.dxil_form.specs.declared.instr.Instr.{Instr}
use Rattle.dxil_form.specs.declared.block.Block.{Block}
use Rattle.dxil_form.specs.declared.program.Program.{Program}
use Rattle.dxil_meaning.specs.Source.{Launch, Registers, Words, State, Spot, Line, Value, address, as_number, number_of, value_of, with_reg, on_both, words_of, rows_at, if_in, source, block_step, spot_step, line_step, instr_step}
use Rattle.line_runs.proofs.Tests.{nat_eq-eq}
use Rattle.block_runs.specs.Inside.{IsApart}

-- what is left of a list, by its first element
within : {A : Type 0} (xs : List A) (k : ℕ) (y : A) (ys : List A) → drop k xs ≡ y ∷ ys → k < length xs
within xs k y ys e =
    let left : length (drop k xs) ≡ suc (length ys) = ap length e in
    omega (arith, left, length-drop k xs)

pub drop_first : {A : Type 0} (xs : List A) (k : ℕ) (y : A) (ys : List A) → drop k xs ≡ y ∷ ys → slice_get xs k ≡ Some y
drop_first xs k y ys e =
    let lt : k < length xs = within xs k y ys e in
    slice_get-get_or xs k y lt ∙ ap (λ l. first_of l y) (sym (drop-cons xs k y lt) ∙ e)
  where
    first_of : {A : Type 0} → List A → A → Option A
    first_of [] d = Some d
    first_of (x ∷ l) d = Some x

pub drop_next : {A : Type 0} (xs : List A) (k : ℕ) (y : A) (ys : List A) → drop k xs ≡ y ∷ ys → drop (suc k) xs ≡ ys
drop_next xs k y ys e =
    let lt : k < length xs = within xs k y ys e in
    ap rest_of (sym (drop-cons xs k y lt) ∙ e)
  where
    rest_of : {A : Type 0} → List A → List A
    rest_of [] = []
    rest_of (x ∷ l) = l

pub drop_none : {A : Type 0} (xs : List A) (k : ℕ) → drop k xs ≡ [] → slice_get xs k ≡ None
drop_none xs k e =
    let left : length (drop k xs) ≡ 0 = ap length e in
    slice_get_past xs k (omega (arith, left, length-drop k xs))

-- the step of a state in a block whose spot is known
pub in_block : (p : Program) (l : Launch) (i b : ℕ) (block : Block) (spot : Spot) (x : State) → slice_get p.blocks b ≡ Some block → x.block ≡ b → x.spot ≡ spot → (source p l).step i x ≡ spot_step p l i block spot x
in_block p l i b block spot x at here is =
    ap (λ o. block_step p l i o x) (ap (slice_get p.blocks) here ∙ at) ∙ ap (λ s. spot_step p l i block s x) is

pub at_instr : (p : Program) (l : Launch) (i b k : ℕ) (block : Block) (line : Instr) (x : State) → slice_get p.blocks b ≡ Some block → x.block ≡ b → x.spot ≡ Line k → slice_get block.instrs k ≡ Some line → (source p l).step i x ≡ instr_step p l i k line x
at_instr p l i b k block line x at here is line_is =
    in_block p l i b block (Line k) x at here is ∙ ap (λ o. line_step p l i k block o x) line_is

-- ---- a register that no operand of the address is

apart_value : (regs : Registers) (to c : ℕ) (v : Option Value) (a : Operand) → ((reg : Reg) (type : Ty) → a ≡ operand.Reg reg type → reg.value ≢ to) → value_of (with_reg to c v regs) a ≡ value_of regs a
apart_value regs to c v (operand.Reg reg type) differs = by_test (nat_eq reg.value to) refl
  where
    by_test : (b : Bool) → nat_eq reg.value to ≡ b → (if b && nat_eq reg.part c then v else regs reg.value reg.part) ≡ regs reg.value reg.part
    by_test true e = absurd (differs reg type refl (nat_eq-eq reg.value to e))
    by_test false e = refl
apart_value regs to c v (operand.Int n) differs = refl
apart_value regs to c v (operand.Bool b) differs = refl
apart_value regs to c v (operand.Undef type) differs = refl

apart_number : (regs : Registers) (to c : ℕ) (v : Option Value) (a : Operand) → ((reg : Reg) (type : Ty) → a ≡ operand.Reg reg type → reg.value ≢ to) → number_of (with_reg to c v regs) a ≡ number_of regs a
apart_number regs to c v a differs = ap as_number (apart_value regs to c v a differs)

pub apart_address : (p : Program) (l : Launch) (regs : Registers) (to c : ℕ) (v : Option Value) (t : Target) (addr : Addr) → IsApart addr to → address p l (with_reg to c v regs) t addr ≡ address p l regs t addr
apart_address p l regs to c v t (Byte at) apart =
    ap (λ o. option_and_then (λ at. if nat_eq (at % 4) 0 then Some (λ c. if_in (nat_lt (at / 4 + c) (words_of p l t)) (at / 4 + c)) else None) o) (apart_number regs to c v at (λ reg type e. apart reg type (0, omega arith, e)))
apart_address p l regs to c v t (Element index at stride) apart =
    let f : ℕ → ℕ → Option Words = λ index at. if nat_eq (at % 4) 0 then Some (λ c. if_in (nat_le (at + 4 * c + 4) stride && nat_lt index (words_of p l t / (stride / 4))) ((index * stride + at) / 4 + c)) else None in
    ap (λ o. on_both f o (number_of (with_reg to c v regs) at)) (apart_number regs to c v index (λ reg type e. apart reg type (0, omega arith, e))) ∙ ap (λ o. on_both f (number_of regs index) o) (apart_number regs to c v at (λ reg type e. apart reg type (1, omega arith, e)))
apart_address p l regs to c v t (Row index) apart =
    ap (λ o. option_map (λ index c. if_in (nat_lt index (rows_at p t)) (4 * index + c)) o) (apart_number regs to c v index (λ reg type e. apart reg type (0, omega arith, e)))
apart_address p l regs to c v t (Index index) apart =
    ap (λ o. option_map (λ index c. if_in (nat_lt index (words_of p l t)) index) o) (apart_number regs to c v index (λ reg type e. apart reg type (0, omega arith, e)))
