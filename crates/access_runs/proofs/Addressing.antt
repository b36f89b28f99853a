-- The words of an address, form by form, and the bounds of what is counted there.
use Rattle.std.proofs.Common.{◌≡◌, ℕ, ◌+◌, ◌*◌, ◌/◌, ◌%◌, ◌^◌, ◌<◌, ◌≤◌, Bool, true, false, length, Option, Some, None, refl, sym, ap, arith}
use Rattle.std.specs.Prelude.{nat_eq, nat_lt, nat_le, ◌&&◌, slice_get, slice_index, option_map, option_and_then, if◌then◌else◌}
use Rattle.std.proofs.lemmas.Option.{slice_get-get_or, slice_get_within}
use Rattle.dxil_form.specs.declared.value.Operand.{Operand}
use Rattle.dxil_form.specs.declared.instr.Addr.TheVariants.{Byte, Element, Row, Index}
use Rattle.dxil_form.specs.declared.instr.Target.{Target}
use Rattle.dxil_form.specs.declared.program.Resource.{Resource}
use Rattle.dxil_form.specs.declared.program.Program.{Program}
use Rattle.dxil_meaning.specs.Fits.{Fits}
use Rattle.dxil_meaning.specs.Source.{Launch, Registers, Words, address, number_of, words_of, rows_at, rows_of, if_in, on_both}
use Rattle.line_runs.proofs.Tests.{none_some, some_inj, nat_eq-eq}

-- a buffer has fewer than 2 ^ 30 words
pub small : (p : Program) (l : Launch) → Fits p l → (r : ℕ) (resource : Resource) → slice_get p.resources r ≡ Some resource → slice_index l.sizes r < 2 ^ 30
small p l fits r resource at =
    let within : r < length l.sizes = omega (arith, fits.sizes.one_each, slice_get_within p.resources r resource at) in
    (fits.sizes.each r resource (slice_index l.sizes r) at (slice_get-get_or l.sizes r 0 within)).small

pub rows_fit : (p : Program) (l : Launch) → Fits p l → (r : ℕ) (resource : Resource) → slice_get p.resources r ≡ Some resource → 4 * rows_of resource.kind ≤ slice_index l.sizes r
rows_fit p l fits r resource at =
    let within : r < length l.sizes = omega (arith, fits.sizes.one_each, slice_get_within p.resources r resource at) in
    (fits.sizes.each r resource (slice_index l.sizes r) at (slice_get-get_or l.sizes r 0 within)).rows

-- what is in range, and where
pub record Byte_at (p : Program) (l : Launch) (regs : Registers) (to : Target) (at : Operand) (words : Words) : Type 0 where
  pub n : ℕ
  pub is : number_of regs at ≡ Some n
  pub whole : n % 4 ≡ 0
  pub words_are : (c : ℕ) → words c ≡ if_in (nat_lt (n / 4 + c) (words_of p l to)) (n / 4 + c)

pub byte_at : (p : Program) (l : Launch) (regs : Registers) (to : Target) (at : Operand) (words : Words) → address p l regs to (Byte at) ≡ Some words → Byte_at p l regs to at words
byte_at p l regs to at words e = by_number (number_of regs at) refl e
  where
    inside : ℕ → Words
    inside n = λ c. if_in (nat_lt (n / 4 + c) (words_of p l to)) (n / 4 + c)

    by_number : (o : Option ℕ) → number_of regs at ≡ o → option_and_then (λ at. if nat_eq (at % 4) 0 then Some (λ c. if_in (nat_lt (at / 4 + c) (words_of p l to)) (at / 4 + c)) else None) o ≡ Some words → Byte_at p l regs to at words
    by_number None is e = absurd (none_some e)
    by_number (Some n) is e = by_test (nat_eq (n % 4) 0) refl e
      where
        by_test : (b : Bool) → nat_eq (n % 4) 0 ≡ b → (if b then Some (λ c. if_in (nat_lt (n / 4 + c) (words_of p l to)) (n / 4 + c)) else None) ≡ Some words → Byte_at p l regs to at words
        by_test true whole e =
            record { n = n; is = is; whole = nat_eq-eq (n % 4) 0 whole; words_are = λ c. ap (λ f. f c) (sym (some_inj e)) }
        by_test false whole e = absurd (none_some e)

pub record Element_at (p : Program) (l : Launch) (regs : Registers) (to : Target) (index at : Operand) (stride : ℕ) (words : Words) : Type 0 where
  pub k : ℕ
  pub n : ℕ
  pub index_is : number_of regs index ≡ Some k
  pub is : number_of regs at ≡ Some n
  pub whole : n % 4 ≡ 0
  pub words_are : (c : ℕ) → words c ≡ if_in (nat_le (n + 4 * c + 4) stride && nat_lt k (words_of p l to / (stride / 4))) ((k * stride + n) / 4 + c)

pub element_at : (p : Program) (l : Launch) (regs : Registers) (to : Target) (index at : Operand) (stride : ℕ) (words : Words) → address p l regs to (Element index at stride) ≡ Some words → Element_at p l regs to index at stride words
element_at p l regs to index at stride words e = by_numbers (number_of regs index) (number_of regs at) refl refl e
  where
    by_numbers : (o q : Option ℕ) → number_of regs index ≡ o → number_of regs at ≡ q → on_both (λ index at. if nat_eq (at % 4) 0 then Some (λ c. if_in (nat_le (at + 4 * c + 4) stride && nat_lt index (words_of p l to / (stride / 4))) ((index * stride + at) / 4 + c)) else None) o q ≡ Some words → Element_at p l regs to index at stride words
    by_numbers None q is is' e = absurd (none_some e)
    by_numbers (Some k) None is is' e = absurd (none_some e)
    by_numbers (Some k) (Some n) is is' e = by_test (nat_eq (n % 4) 0) refl e
      where
        by_test : (b : Bool) → nat_eq (n % 4) 0 ≡ b → (if b then Some (λ c. if_in (nat_le (n + 4 * c + 4) stride && nat_lt k (words_of p l to / (stride / 4))) ((k * stride + n) / 4 + c)) else None) ≡ Some words → Element_at p l regs to index at stride words
        by_test true whole e =
            record { k = k; n = n; index_is = is; is = is'; whole = nat_eq-eq (n % 4) 0 whole; words_are = λ c. ap (λ f. f c) (sym (some_inj e)) }
        by_test false whole e = absurd (none_some e)

pub record Row_at (p : Program) (l : Launch) (regs : Registers) (to : Target) (index : Operand) (words : Words) : Type 0 where
  pub k : ℕ
  pub is : number_of regs index ≡ Some k
  pub words_are : (c : ℕ) → words c ≡ if_in (nat_lt k (rows_at p to)) (4 * k + c)

pub row_at : (p : Program) (l : Launch) (regs : Registers) (to : Target) (index : Operand) (words : Words) → address p l regs to (Row index) ≡ Some words → Row_at p l regs to index words
row_at p l regs to index words e = by_number (number_of regs index) refl e
  where
    by_number : (o : Option ℕ) → number_of regs index ≡ o → option_map (λ index c. if_in (nat_lt index (rows_at p to)) (4 * index + c)) o ≡ Some words → Row_at p l regs to index words
    by_number None is e = absurd (none_some e)
    by_number (Some k) is e = record { k = k; is = is; words_are = λ c. ap (λ f. f c) (sym (some_inj e)) }

pub record Index_at (p : Program) (l : Launch) (regs : Registers) (to : Target) (index : Operand) (words : Words) : Type 0 where
  pub k : ℕ
  pub is : number_of regs index ≡ Some k
  pub words_are : (c : ℕ) → words c ≡ if_in (nat_lt k (words_of p l to)) k

pub index_at : (p : Program) (l : Launch) (regs : Registers) (to : Target) (index : Operand) (words : Words) → address p l regs to (Index index) ≡ Some words → Index_at p l regs to index words
index_at p l regs to index words e = by_number (number_of regs index) refl e
  where
    by_number : (o : Option ℕ) → number_of regs index ≡ o → option_map (λ index c. if_in (nat_lt index (words_of p l to)) index) o ≡ Some words → Index_at p l regs to index words
    by_number None is e = absurd (none_some e)
    by_number (Some k) is e = record { k = k; is = is; words_are = λ c. ap (λ f. f c) (sym (some_inj e)) }
