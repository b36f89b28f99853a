-- The laws of the instructions of a module in its words.
use Rattle.std.proofs.Common.{◌≡◌, ℕ, zero, suc, ◌+◌, ◌-◌, ◌<◌, ◌≤◌, ◌⊎◌, inl, inr, List, [], ◌∷◌, ◌++◌, length, take, get_or, slice_get, Some, refl, sym, ◌∙◌, ap, subst, arith, All, Result, Ok, Err, OnOk, is_err, false, length-append}
use Rattle.std.proofs.lemmas.Bool.{cases_lt}
use Rattle.std.proofs.lemmas.List.{take-append-le, get_or_append_left}
use Rattle.std.proofs.Math.Seq.{get_or-append_seam}
use Rattle.std.proofs.lemmas.Option.{slice_get-get_or, slice_get_within, get_or_from_slice_get}
use Rattle.std.proofs.lemmas.List.Sums.{sum_by_more}
use Rattle.dx_base.specs.First.{IsFirst, IsSound}
use Rattle.spv_form.specs.declared.module.Inst.{Inst}
use Rattle.spv_form.specs.declared.module.Version.{Version}
use Rattle.spv_form.specs.declared.module.Version.TheVariants.{V13, V16}
use Rattle.spv_form.specs.Versions.{version_word}
use Rattle.spv_form.specs.Formed.{IsFormedInst}
use Rattle.spv_form.specs.Words.{size_of, start_of, StandsAt}
use Rattle.spv_form.specs.WordRules.{begin_of, Begins, Breaks, Broken, IsModule}
use Rattle.spv_form.specs.declared.fault.CheckFault.{CheckFault}
use Rattle.spv_form.specs.declared.fault.CheckFault.TheVariants.{Refused, OutOfMemory}
use Rattle.spv_form.specs.declared.fault.WordRule.TheVariants.{W, V, S}
use Rattle.spirv_words.specs.Reading.{AreRead, IsHeader, IsLeastBreak, InstAnswer, InstsAnswer}
use Rattle.spirv_words.proofs.InstLaws.{IsThere, there, listed_small, unbroken}

-- a version's word is one of the two
pub stated : (v : Version) (word : ℕ) → word ≡ version_word v → (word ≡ 0x0001_0600 → ⊥) → (word ≡ 0x0001_0300 → ⊥) → ⊥
stated V13 word e n o = o e
stated V16 word e n o = n e

-- ---- where instructions begin
pub nothing : Inst
nothing = record { opcode = 0; operands = [] }

pub start-more : (insts : List Inst) (i : ℕ) (d : Inst) → i < length insts → start_of insts (i + 1) ≡ start_of insts i + size_of (get_or insts i d)
start-more insts i d h = omega (arith, sum_by_more size_of insts i d h)

begin-mono : (words : List ℕ) (i n : ℕ) → begin_of words i ≤ begin_of words (i + n)
unfolding begin_of
begin-mono words i zero = let e : i + zero ≡ i = omega arith in rw e (omega arith)
begin-mono words i (suc n) = let before = begin-mono words i n in let e : i + suc n ≡ suc (i + n) = omega arith in rw e (omega (arith, before))

begin_below : (words : List ℕ) (i j : ℕ) → i ≤ j → begin_of words i ≤ begin_of words j
begin_below words i j h = let e : i + (j - i) ≡ j = omega arith in subst (λ k. begin_of words i ≤ begin_of words k) e (begin-mono words i (j - i))

pub begins_behind : (words : List ℕ) (at : ℕ) → Begins words at → 5 ≤ at
unfolding begin_of
begins_behind words at g = let h : begin_of words 0 ≤ begin_of words g.index = begin_below words 0 g.index (omega arith) in omega (arith, h, g.is)

module _ (words : List ℕ) (bound : ℕ) (insts : List Inst) (r : AreRead words bound insts) where
  stands : (i : ℕ) (d : Inst) → i < length insts → StandsAt words (start_of insts i) (get_or insts i d)
  stands i d h = r.each i (get_or insts i d) (slice_get-get_or insts i d h)

  pub is_there : (i : ℕ) (d : Inst) → i < length insts → IsThere words (start_of insts i) (get_or insts i d)
  is_there i d h = let f = r.formed i d h in there words (start_of insts i) (get_or insts i d) (stands i d h) (listed_small (get_or insts i d).opcode f.shape f.listed)

  pub begin-start : (i : ℕ) → i ≤ length insts → begin_of words i ≡ start_of insts i
  unfolding begin_of
  begin-start zero h = refl
  begin-start (suc i) h =
      let before : begin_of words i ≡ start_of insts i = begin-start i (omega arith) in
      let here = is_there i nothing (omega arith) in
      let more = start-more insts i nothing (omega arith) in
      let e : i + 1 ≡ suc i = omega arith in
      rw (before, here.size) (sym more ∙ ap (start_of insts) e)

  pub clear : (b rule : ℕ) → Begins words b → b < start_of insts (length insts) → Breaks words bound b rule → ⊥
  clear b rule g h broken = elim (cases_lt g.index (length insts)) [
    | inl before ↦
        let is : start_of insts g.index ≡ b = sym (begin-start g.index (omega arith)) ∙ g.is in
        unbroken words bound b (get_or insts g.index nothing) (subst (λ at. StandsAt words at (get_or insts g.index nothing)) is (stands g.index nothing before)) (r.formed g.index nothing before) rule broken
    | inr behind ↦ let far = begin_below words (length insts) g.index behind in let end = begin-start (length insts) (omega arith) in omega (arith, far, end, g.is)
  ]

  pub begins_here : start_of insts (length insts) < length words → Begins words (start_of insts (length insts))
  begins_here h = record { index = length insts; is = begin-start (length insts) (omega arith); within = h }

  module _ (version : Version) (header : IsHeader words version bound) where
    broken-inst : (rule at : ℕ) → Broken words 0 rule at → Begins words at × Breaks words bound at rule
    broken-inst rule at (Broken.bytes_left_over n) = absurd (n refl)
    broken-inst rule at (Broken.header_missing h) = absurd (omega (arith, h, header.long))
    broken-inst rule at (Broken.other_magic n) = absurd (n header.magic)
    broken-inst rule at (Broken.other_version n o) = absurd (stated version (get_or words 1 0) header.states n o)
    broken-inst rule at (Broken.other_schema n) = absurd (n header.schema)
    broken-inst rule at (Broken.instruction g b) = (g, subst (λ limit. Breaks words limit at rule) header.limit b)

    pub first_of_insts : (at rule : ℕ) → at ≡ start_of insts (length insts) → at < length words → IsLeastBreak words bound at rule → IsFirst (Broken words 0) rule at
    first_of_insts at rule e h least = record {
      broken = Broken.instruction (subst (Begins words) (sym e) (begins_here (omega (arith, e)))) (subst (λ limit. Breaks words limit at rule) (sym header.limit) least.broken);
      least = ordered;
    } where
      ordered : (other place : ℕ) → Broken words 0 other place → (at < place) ⊎ ((at ≡ place) × (rule ≤ other))
      ordered other place b = let p = broken-inst other place b in elim (cases_lt at place) [
        | inl before ↦ inl before
        | inr behind ↦ elim (cases_lt place at) [
          | inl earlier ↦ absurd (clear place other p.0 (omega (arith, e)) p.1)
          | inr same ↦ let one : at ≡ place = omega arith in inr (one, least.least other (subst (λ q. Breaks words bound q other) (sym one) p.1))
        ]
      ]

    pub sound_of_insts : length words ≡ start_of insts (length insts) → IsSound (Broken words 0)
    sound_of_insts e = record { none = λ rule at b. let p = broken-inst rule at b in clear at rule p.0 (let w = p.0.within in omega (arith, e, w)) p.1 }

-- ---- one instruction more
module _ (words : List ℕ) (bound : ℕ) (insts : List Inst) (x : Inst) (r : AreRead words bound insts) (at : ℕ) (place : at ≡ start_of insts (length insts)) (s : StandsAt words at x) (f : IsFormedInst bound x) where
  start-kept : (i : ℕ) → i ≤ length insts → start_of (insts ++ x ∷ []) i ≡ start_of insts i
  start-kept i h = let front : take i (insts ++ x ∷ []) ≡ take i insts = take-append-le i insts (x ∷ []) h in rw front refl

  is-last : (i : ℕ) → i < length (insts ++ x ∷ []) → length insts ≤ i → i ≡ length insts
  is-last i h k = omega (arith, length-append insts (x ∷ []))

  each-more : (i : ℕ) (y : Inst) → slice_get (insts ++ x ∷ []) i ≡ Some y → StandsAt words (start_of (insts ++ x ∷ []) i) y
  each-more i y e =
      let within : i < length (insts ++ x ∷ []) = slice_get_within (insts ++ x ∷ []) i y e in
      let item : get_or (insts ++ x ∷ []) i y ≡ y = get_or_from_slice_get (insts ++ x ∷ []) i y y e in
      elim (cases_lt i (length insts)) [
        | inl before ↦
            let old : slice_get insts i ≡ Some y = slice_get-get_or insts i y before ∙ ap (λ z. Some z) (sym (get_or_append_left insts (x ∷ []) y i before) ∙ item) in
            subst (λ p. StandsAt words p y) (sym (start-kept i (omega arith))) (r.each i y old)
        | inr behind ↦
            let last : i ≡ length insts = is-last i within behind in
            let one : x ≡ y = sym (get_or-append_seam insts x [] y) ∙ ap (λ k. get_or (insts ++ x ∷ []) k y) (sym last) ∙ item in
            let start : at ≡ start_of (insts ++ x ∷ []) i = place ∙ ap (start_of insts) (sym last) ∙ sym (start-kept i (omega arith)) in
            subst (λ p. StandsAt words p y) start (subst (StandsAt words at) one s)
      ]

  formed-more : All (IsFormedInst bound) (insts ++ x ∷ [])
  formed-more k d h = elim (cases_lt k (length insts)) [
    | inl before ↦ subst (IsFormedInst bound) (sym (get_or_append_left insts (x ∷ []) d k before)) (r.formed k d before)
    | inr behind ↦ subst (λ j. IsFormedInst bound (get_or (insts ++ x ∷ []) j d)) (sym (is-last k h behind)) (subst (IsFormedInst bound) (sym (get_or-append_seam insts x [] d)) f)
  ]

  pub read_more : AreRead words bound (insts ++ x ∷ [])
  read_more = record { each = each-more; formed = formed-more }

  pub start_more : at + size_of x ≡ start_of (insts ++ x ∷ []) (length (insts ++ x ∷ []))
  start_more =
      let one : length (insts ++ x ∷ []) ≡ length insts + 1 = omega (arith, length-append insts (x ∷ [])) in
      let item : get_or (insts ++ x ∷ []) (length insts) x ≡ x = get_or-append_seam insts x [] x in
      let more = start-more (insts ++ x ∷ []) (length insts) x (omega (arith, one)) in
      let kept = start-kept (length insts) (omega arith) in
      let size : size_of (get_or (insts ++ x ∷ []) (length insts) x) ≡ size_of x = ap (λ (y : Inst). size_of y) item in
      ap (λ p. p + size_of x) (place ∙ sym kept) ∙ ap (λ n. start_of (insts ++ x ∷ []) (length insts) + n) (sym size) ∙ sym more ∙ ap (start_of (insts ++ x ∷ [])) (sym one)

  pub within_more : at + size_of x ≤ length words
  within_more = (there words at x s (listed_small x.opcode f.shape f.listed)).ends

-- what the reader of the instructions answers where it refuses one
module _ (words : List ℕ) (bound : ℕ) (insts : List Inst) (r : AreRead words bound insts) (version : Version) (header : IsHeader words version bound) where
  pub insts_fault : (at : ℕ) (e : CheckFault) → at ≡ start_of insts (length insts) → at < length words → InstAnswer (Err e) words bound at → InstsAnswer (Err e) words bound
  insts_fault at (Refused (W rule) word) place within a = subst (IsFirst (Broken words 0) rule) (sym a.0) (first_of_insts words bound insts r version header at rule place within a.1)
  insts_fault at (Refused (V rule) word) place within a = a
  insts_fault at (Refused (S rule) word) place within a = a
  insts_fault at OutOfMemory place within a = tt

pub on_ok : {T E P : Type 0} (r : Result T E) → is_err r ≡ false → OnOk r P → P
on_ok (Ok x) e p = p
on_ok (Err x) e p = cc

-- what was read is a module
pub module_of : (words : List ℕ) (version : Version) (bound : ℕ) (insts : List Inst) → IsHeader words version bound → AreRead words bound insts → length words ≡ start_of insts (length insts) → IsModule words (record { version = version; bound = bound; insts = insts })
module_of words version bound insts h r e = record {
  layout = record {
    magic = slice_get-get_or words 0 0 (omega (arith, h.long)) ∙ ap (λ w. Some w) h.magic;
    version = slice_get-get_or words 1 0 (omega (arith, h.long)) ∙ ap (λ w. Some w) h.states;
    bound = slice_get-get_or words 3 0 (omega (arith, h.long)) ∙ ap (λ w. Some w) h.limit;
    schema = slice_get-get_or words 4 0 (omega (arith, h.long)) ∙ ap (λ w. Some w) h.schema;
    each = r.each;
    ends = e;
  };
  sound = sound_of_insts words bound insts r version h e;
}
