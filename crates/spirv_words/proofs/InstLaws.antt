-- The laws of one instruction in the words of a module.
use Rattle.std.proofs.Common.{◌≡◌, ℕ, ◌+◌, ◌-◌, ◌*◌, ◌/◌, ◌%◌, ◌^◌, ◌<◌, ◌≤◌, inl, inr, true, false, List, length, take, drop, get_or, Some, None, sym, ◌∙◌, ap, subst, arith, rules, length-drop, length-take}
use Rattle.std.proofs.lemmas.Bool.{cases_lt}
use Rattle.std.proofs.lemmas.Nat.{div-mul-add, mod-mul-add}
use Rattle.std.proofs.lemmas.Option.{slice_get_within, get_or_from_slice_get, slice_get-get_or}
use Rattle.spv_form.specs.declared.shape.Shape.{Shape}
use Rattle.spv_form.specs.declared.module.Inst.{Inst}
use Rattle.spv_form.specs.Shapes.{shape_of}
use Rattle.spv_form.specs.Operands.{fits, string_ends, is_id}
use Rattle.spv_form.specs.Formed.{IsFormedInst}
use Rattle.spv_form.specs.Words.{size_of, StandsAt}
use Rattle.spv_form.specs.WordRules.{size_at, inst_at, Breaks}
use Rattle.spirv_words.specs.Reading.{IsLeastBreak, IsBadId, IdAnswer}

-- an opcode that is listed has 16 bits
listed-above : (op : ℕ) → 254 ≤ op → shape_of op ≡ None
unfolding shape_of
listed-above op h = search rules

pub listed_small : (op : ℕ) (s : Shape) → shape_of op ≡ Some s → op < 2 ^ 16
listed_small op s e = elim (cases_lt op 254) [ inl h ↦ omega arith | inr h ↦ let none = listed-above op h in cc ]

same_inst : (a b : ℕ) (xs ys : List ℕ) → a ≡ b → xs ≡ ys → ◌≡◌ {A = Inst} (record { opcode = a; operands = xs }) (record { opcode = b; operands = ys })
same_inst a b xs ys e f = cc

-- What the words say where an instruction stands.
pub record IsThere (words : List ℕ) (at : ℕ) (x : Inst) : Type 0 where
  pub inst : inst_at words at ≡ x
  pub size : size_at words at ≡ size_of x
  pub ends : at + size_of x ≤ length words

pub there : (words : List ℕ) (at : ℕ) (x : Inst) → StandsAt words at x → x.opcode < 2 ^ 16 → IsThere words at x
there words at x s small =
    let first : get_or words at 0 ≡ size_of x * 2 ^ 16 + x.opcode = get_or_from_slice_get words at (size_of x * 2 ^ 16 + x.opcode) 0 s.first in
    let within : at < length words = slice_get_within words at (size_of x * 2 ^ 16 + x.opcode) s.first in
    let size : size_at words at ≡ size_of x = ap (λ w. w / 2 ^ 16) first ∙ div-mul-add (size_of x) (2 ^ 16) x.opcode small in
    let opcode : get_or words at 0 % 2 ^ 16 ≡ x.opcode = ap (λ w. w % 2 ^ 16) first ∙ mod-mul-add (size_of x) (2 ^ 16) x.opcode small in
    let count : size_at words at - 1 ≡ length x.operands = omega arith in
    let operands : take (size_at words at - 1) (drop (at + 1) words) ≡ x.operands = ap (λ n. take n (drop (at + 1) words)) count ∙ s.operands in
    let long : length (take (length x.operands) (drop (at + 1) words)) ≡ length x.operands = ap length s.operands in
    record {
      inst = same_inst _ _ _ _ opcode operands;
      size = size;
      ends = omega (arith, length-take (length x.operands) (drop (at + 1) words), length-drop (at + 1) words, long, within);
    }

-- An instruction that its size and its operands allow breaks no rule.
module _ (words : List ℕ) (bound at : ℕ) (some : 0 < size_at words at) (ends : at + size_at words at ≤ length words) (f : IsFormedInst bound (inst_at words at)) where
  shape-is : (t : Shape) → shape_of (inst_at words at).opcode ≡ Some t → f.shape ≡ t
  shape-is t e = let l = f.listed in cc

  allowed : (rule : ℕ) → Breaks words bound at rule → ⊥
  allowed rule (Breaks.size_is_0 e) = omega (arith, e)
  allowed rule (Breaks.passes_the_end h) = omega (arith, h)
  allowed rule (Breaks.not_listed e) = let l = f.listed in cc
  allowed rule (Breaks.not_fitting t e g) = let other = ap (λ u. fits u (inst_at words at).operands) (shape-is t e) in let q = f.fits in cc
  allowed rule (Breaks.string_without_end t e g) = let other = ap (λ u. string_ends u (inst_at words at).operands) (shape-is t e) in let q = f.string in cc
  allowed rule (Breaks.id_out_of_range t k e h i g) =
      let below = f.ids k h (subst (λ u. is_id u (inst_at words at).operands k ≡ true) (sym (shape-is t e)) i) in
      elim g [ inl z ↦ omega (arith, below.0, z) | inr z ↦ omega (arith, below.1, z) ]

pub unbroken : (words : List ℕ) (bound at : ℕ) (x : Inst) → StandsAt words at x → IsFormedInst bound x → (rule : ℕ) → Breaks words bound at rule → ⊥
unbroken words bound at x s f =
    let is : IsThere words at x = there words at x s (listed_small x.opcode f.shape f.listed) in
    allowed words bound at (omega (arith, is.size)) (omega (arith, is.size, is.ends)) (subst (IsFormedInst bound) (sym is.inst) f)

-- ---- the least rule that is broken, for an instruction whose size passes
pub least_size : (words : List ℕ) (bound at : ℕ) → Breaks words bound at 5 → IsLeastBreak words bound at 5
least_size words bound at b = record { broken = b; least = cases } where
  cases : (rule : ℕ) → Breaks words bound at rule → 5 ≤ rule
  cases rule (Breaks.size_is_0 e) = omega arith
  cases rule (Breaks.passes_the_end h) = omega arith
  cases rule (Breaks.not_listed e) = omega arith
  cases rule (Breaks.not_fitting t e g) = omega arith
  cases rule (Breaks.string_without_end t e g) = omega arith
  cases rule (Breaks.id_out_of_range t k e h i g) = omega arith

module _ (words : List ℕ) (bound at : ℕ) (some : 0 < size_at words at) (ends : at + size_at words at ≤ length words) where
  pub least_opcode : shape_of (inst_at words at).opcode ≡ None → IsLeastBreak words bound at 6
  least_opcode b = record { broken = Breaks.not_listed b; least = cases } where
    cases : (rule : ℕ) → Breaks words bound at rule → 6 ≤ rule
    cases rule (Breaks.size_is_0 e) = absurd (omega (arith, e))
    cases rule (Breaks.passes_the_end h) = absurd (omega (arith, h))
    cases rule (Breaks.not_listed e) = omega arith
    cases rule (Breaks.not_fitting t e g) = omega arith
    cases rule (Breaks.string_without_end t e g) = omega arith
    cases rule (Breaks.id_out_of_range t k e h i g) = omega arith

  module _ (s : Shape) (listed : shape_of (inst_at words at).opcode ≡ Some s) where
    pub least_count : fits s (inst_at words at).operands ≡ false → IsLeastBreak words bound at 7
    least_count b = record { broken = Breaks.not_fitting s listed b; least = cases } where
      cases : (rule : ℕ) → Breaks words bound at rule → 7 ≤ rule
      cases rule (Breaks.size_is_0 e) = absurd (omega (arith, e))
      cases rule (Breaks.passes_the_end h) = absurd (omega (arith, h))
      cases rule (Breaks.not_listed e) = cc
      cases rule (Breaks.not_fitting t e g) = omega arith
      cases rule (Breaks.string_without_end t e g) = omega arith
      cases rule (Breaks.id_out_of_range t k e h i g) = omega arith

    fits-same : (t : Shape) → shape_of (inst_at words at).opcode ≡ Some t → fits s (inst_at words at).operands ≡ true → fits t (inst_at words at).operands ≡ false → ⊥
    fits-same t e f g = let same : s ≡ t = cc in let other = ap (λ u. fits u (inst_at words at).operands) same in cc

    pub least_string : fits s (inst_at words at).operands ≡ true → string_ends s (inst_at words at).operands ≡ false → IsLeastBreak words bound at 8
    least_string f b = record { broken = Breaks.string_without_end s listed b; least = cases } where
      cases : (rule : ℕ) → Breaks words bound at rule → 8 ≤ rule
      cases rule (Breaks.size_is_0 e) = absurd (omega (arith, e))
      cases rule (Breaks.passes_the_end h) = absurd (omega (arith, h))
      cases rule (Breaks.not_listed e) = cc
      cases rule (Breaks.not_fitting t e g) = absurd (fits-same t e f g)
      cases rule (Breaks.string_without_end t e g) = omega arith
      cases rule (Breaks.id_out_of_range t k e h i g) = omega arith

    pub least_id : fits s (inst_at words at).operands ≡ true → string_ends s (inst_at words at).operands ≡ true → (k : ℕ) → IsBadId bound s (inst_at words at).operands k → IsLeastBreak words bound at 9
    least_id f z k b = record { broken = Breaks.id_out_of_range s k listed b.within b.is_id b.out; least = cases } where
      cases : (rule : ℕ) → Breaks words bound at rule → 9 ≤ rule
      cases rule (Breaks.size_is_0 e) = absurd (omega (arith, e))
      cases rule (Breaks.passes_the_end h) = absurd (omega (arith, h))
      cases rule (Breaks.not_listed e) = cc
      cases rule (Breaks.not_fitting t e g) = absurd (fits-same t e f g)
      cases rule (Breaks.string_without_end t e g) = let same : s ≡ t = cc in let other = ap (λ u. string_ends u (inst_at words at).operands) same in cc
      cases rule (Breaks.id_out_of_range t k e h i g) = omega arith

    -- an instruction that breaks none is formed, and stands there
    pub stands_formed : at < length words → get_or words at 0 < 2 ^ 32 → fits s (inst_at words at).operands ≡ true → string_ends s (inst_at words at).operands ≡ true
        → IdAnswer None bound s (inst_at words at).operands → StandsAt words at (inst_at words at) × IsFormedInst bound (inst_at words at)
    stands_formed within word f z ids =
        let count : length (take (size_at words at - 1) (drop (at + 1) words)) ≡ size_at words at - 1 = omega (arith, length-take (size_at words at - 1) (drop (at + 1) words), length-drop (at + 1) words) in
        let size : size_of (inst_at words at) ≡ size_at words at = omega (arith, count) in
        let whole : get_or words at 0 ≡ size_of (inst_at words at) * 2 ^ 16 + get_or words at 0 % 2 ^ 16 = omega (arith, size) in
        let operands : take (length (inst_at words at).operands) (drop (at + 1) words) ≡ (inst_at words at).operands = ap (λ n. take n (drop (at + 1) words)) count in (
          record { first = slice_get-get_or words at 0 within ∙ ap (λ w. Some w) whole; operands = operands },
          record { shape = s; listed = listed; fits = f; string = z; ids = ids; short = omega (arith, count) },
        )

-- The same of what the code computes: `first` is the word, and `operands` are the words that were read.
module _ (words : List ℕ) (bound at first : ℕ) (is : first ≡ get_or words at 0) (within : at < length words) where
  size-is : first / 2 ^ 16 ≡ size_at words at
  size-is = ap (λ w. w / 2 ^ 16) is

  pub code_empty : first / 2 ^ 16 ≡ 0 → IsLeastBreak words bound at 5
  code_empty e = least_size words bound at (Breaks.size_is_0 (sym size-is ∙ e))

  pub code_long : length words - at < first / 2 ^ 16 → IsLeastBreak words bound at 5
  code_long h = least_size words bound at (Breaks.passes_the_end (omega (arith, size-is)))

  module _ (some : first / 2 ^ 16 ≡ 0 → ⊥) (ends : first / 2 ^ 16 ≤ length words - at) where
    some-is : 0 < size_at words at
    some-is = elim (cases_lt 0 (first / 2 ^ 16)) [ inl h ↦ omega (arith, size-is, h) | inr h ↦ absurd (some (omega arith)) ]

    ends-is : at + size_at words at ≤ length words
    ends-is = omega (arith, size-is, ends, within)

    pub code_opcode : shape_of (first % 2 ^ 16) ≡ None → IsLeastBreak words bound at 6
    code_opcode e = least_opcode words bound at some-is ends-is (ap (λ w. shape_of (w % 2 ^ 16)) (sym is) ∙ e)

    module _ (s : Shape) (listed : shape_of (first % 2 ^ 16) ≡ Some s) (operands : List ℕ) (read : operands ≡ take (first / 2 ^ 16 - 1) (drop (at + 1) words)) where
      listed-is : shape_of (inst_at words at).opcode ≡ Some s
      listed-is = ap (λ w. shape_of (w % 2 ^ 16)) (sym is) ∙ listed

      operands-is : operands ≡ (inst_at words at).operands
      operands-is = read ∙ ap (λ w. take (w / 2 ^ 16 - 1) (drop (at + 1) words)) is

      pub code_count : fits s operands ≡ false → IsLeastBreak words bound at 7
      code_count b = least_count words bound at some-is ends-is s listed-is (subst (λ xs. fits s xs ≡ false) operands-is b)

      module _ (f : fits s operands ≡ true) where
        fits-is : fits s (inst_at words at).operands ≡ true
        fits-is = subst (λ xs. fits s xs ≡ true) operands-is f

        pub code_string : string_ends s operands ≡ false → IsLeastBreak words bound at 8
        code_string b = least_string words bound at some-is ends-is s listed-is fits-is (subst (λ xs. string_ends s xs ≡ false) operands-is b)

        module _ (z : string_ends s operands ≡ true) where
          string-is : string_ends s (inst_at words at).operands ≡ true
          string-is = subst (λ xs. string_ends s xs ≡ true) operands-is z

          pub code_id : (k : ℕ) → IsBadId bound s operands k → IsLeastBreak words bound at 9
          code_id k b = least_id words bound at some-is ends-is s listed-is fits-is string-is k (subst (λ xs. IsBadId bound s xs k) operands-is b)

          pub code_inst : first < 2 ^ 32 → IdAnswer None bound s operands
              → StandsAt words at (record { opcode = first % 2 ^ 16; operands = operands }) × IsFormedInst bound (record { opcode = first % 2 ^ 16; operands = operands })
          code_inst word ids =
              let same : inst_at words at ≡ record { opcode = first % 2 ^ 16; operands = operands } = same_inst _ _ _ _ (ap (λ w. w % 2 ^ 16) (sym is)) (sym operands-is) in
              subst (λ (x : Inst). StandsAt words at x × IsFormedInst bound x) same
              (stands_formed words bound at some-is ends-is s listed-is within (omega (arith, is)) fits-is string-is (subst (λ xs. IdAnswer None bound s xs) operands-is ids))
