-- The first rule that a module breaks, asked instruction by instruction.
use Rattle.std.proofs.Common.{ℕ, zero, suc, ◌≡◌, ◌+◌, ◌-◌, ◌<◌, ◌≤◌, ◌^◌, ◌⊎◌, inl, inr, refl, sym, ap, subst, ◌∙◌, arith, List, [], ◌∷◌, length, take_all, add-zero, sum_by, slice_get, Some, None, Result, Ok, Err, min}
use Rattle.std.proofs.lemmas.Bool.{cases_lt}
use Rattle.std.proofs.lemmas.List.Sums.{sum_by_more, sum_by-cons}
use Rattle.std.proofs.lemmas.Option.{slice_get_within, same_Some, get_or_from_slice_get}
use Rattle.dx_base.specs.First.{IsFirst, IsSound}
use Rattle.spv_form.specs.declared.module.Inst.{Inst}
use Rattle.spv_form.specs.declared.module.Module.{Module}
use Rattle.spv_form.specs.declared.module.Version.{Version}
use Rattle.spv_form.specs.declared.fault.CheckFault.{CheckFault}
use Rattle.spv_form.specs.declared.fault.CheckFault.TheVariants.{Refused, OutOfMemory}
use Rattle.spv_form.specs.declared.fault.WordRule.TheVariants.{W, V, S}
use Rattle.spv_form.specs.Words.{size_of, start_of}
use Rattle.spv_ids.proofs.PlaceLaws.{nothing}
use Rattle.module_rules.specs.Rules.{Breaks, Misses, Broken}
use Rattle.module_rules.specs.Answers.{Finds, FindsMissing, AtStart, IsLeastAtStart, BrokenBy, EachAnswer, RulesAnswer}
use Rattle.module_rules.proofs.RuleLaws.{numbered}

-- ---- words
pub start_more : (insts : List Inst) (i : ℕ) (x : Inst) → slice_get insts i ≡ Some x → start_of insts (i + 1) ≡ start_of insts i + size_of x
start_more insts i x there =
    let within = slice_get_within insts i x there in
    let more = sum_by_more size_of insts i x within in
    let same = get_or_from_slice_get insts i x x there in
    omega (arith, more, ap size_of same)

rises : (insts : List Inst) (i n : ℕ) → start_of insts i ≤ start_of insts (i + n)
rises insts i zero = subst (λ (j : ℕ). start_of insts i ≤ start_of insts j) (sym (add-zero i)) (omega arith)
rises insts i (suc n) = elim (cases_lt (i + n) (length insts)) [
  | inl within ↦
      let more = sum_by_more size_of insts (i + n) nothing within in
      let before = rises insts i n in
      let next : i + suc n ≡ i + n + 1 = omega arith in
      subst (λ (j : ℕ). start_of insts i ≤ start_of insts j) (sym next) (omega (arith, more, before))
  | inr past ↦
      let before = rises insts i n in
      let next : i + suc n ≡ i + n + 1 = omega arith in
      let one = ap (sum_by size_of) (take_all (i + n) insts past) in
      let two = ap (sum_by size_of) (take_all (i + n + 1) insts (omega arith)) in
      subst (λ (j : ℕ). start_of insts i ≤ start_of insts j) (sym next) (omega (arith, one, two, before))
]

-- what comes after an instruction begins at a later word
later : (insts : List Inst) (i j : ℕ) (x : Inst) → slice_get insts i ≡ Some x → i < j → start_of insts i < start_of insts j
later insts i j x there h =
    let more = start_more insts i x there in
    let up = rises insts (i + 1) (j - (i + 1)) in
    let same : i + 1 + (j - (i + 1)) ≡ j = omega arith in
    omega (arith, more, subst (λ (k : ℕ). start_of insts (i + 1) ≤ start_of insts k) same up)

long : (insts : List Inst) → length insts ≤ sum_by size_of insts
long [] = omega arith
long (x ∷ xs) = omega (arith, sum_by-cons size_of x xs, long xs)

pub few : (insts : List Inst) → start_of insts (length insts) < 2 ^ 32 → length insts < 2 ^ 32
few insts h = omega (arith, h, long insts, ap (sum_by size_of) (take_all (length insts) insts (omega arith)))

-- ---- instruction by instruction
-- none of the first so many instructions breaks a rule, and the next one begins at this word
pub record IsClear (version : Version) (insts : List Inst) (at word : ℕ) : Type 0 where
  pub word_is : word ≡ start_of insts at
  pub none : (i : ℕ) (x : Inst) (rule : ℕ) → i < at → slice_get insts i ≡ Some x → Breaks version insts i x rule → ⊥

pub clear_first : (version : Version) (insts : List Inst) → IsClear version insts 0 5
clear_first version insts = record { word_is = refl; none = λ i x rule h e b. absurd (omega arith) }

module _ (version : Version) (insts : List Inst) (at word : ℕ) (x : Inst) (c : IsClear version insts at word) (there : slice_get insts at ≡ Some x) where
  one : (y : Inst) (i : ℕ) → i ≡ at → slice_get insts i ≡ Some y → y ≡ x
  one y i same e = same_Some y x (sym e ∙ ap (slice_get insts) same ∙ there)

  pub clear_more : Finds version insts at x 1 16 None → IsClear version insts (at + 1) (word + (1 + length x.operands))
  clear_more u = record { word_is = omega (arith, c.word_is, start_more insts at x there); none = none } where
    none : (i : ℕ) (y : Inst) (rule : ℕ) → i < at + 1 → slice_get insts i ≡ Some y → Breaks version insts i y rule → ⊥
    none i y rule h e b = elim (cases_lt i at) [
      | inl before ↦ c.none i y rule before e b
      | inr above ↦
          let same : i ≡ at = omega arith in
          let here : Breaks version insts at x rule = subst (λ (z : Inst). Breaks version insts at z rule) (one y i same e) (subst (λ (k : ℕ). Breaks version insts k y rule) same b) in
          let n = numbered version insts at x rule here in
          u.none rule n.0 n.1 here
    ]

  pub first_broken : (rule : ℕ) → Finds version insts at x 1 16 (Some rule) → IsFirst (BrokenBy version insts) rule word
  first_broken rule f = record { broken = subst (BrokenBy version insts rule) (sym c.word_is) (BrokenBy.instruction at x there f.0); least = least } where
    least : (other place : ℕ) → BrokenBy version insts other place → (word < place) ⊎ ((word ≡ place) × (rule ≤ other))
    least other place (BrokenBy.instruction i y e b) = elim (cases_lt i at) [
      | inl before ↦ absurd (c.none i y other before e b)
      | inr above ↦ elim (cases_lt at i) [
        | inl behind ↦ inl (omega (arith, c.word_is, later insts at i x there behind))
        | inr below ↦
            let same : i ≡ at = omega arith in
            let here : Breaks version insts at x other = subst (λ (z : Inst). Breaks version insts at z other) (one y i same e) (subst (λ (k : ℕ). Breaks version insts k y other) same b) in
            let n = numbered version insts at x other here in
            inr (c.word_is ∙ ap (start_of insts) (sym same), elim (cases_lt other rule) [ inl lesser ↦ absurd (f.3.none other n.0 lesser here) | inr greater ↦ greater ])
      ]
    ]

pub all_clear : (version : Version) (insts : List Inst) (at word : ℕ) → IsClear version insts at word → length insts ≤ at → IsSound (BrokenBy version insts)
all_clear version insts at word c h = record { none = none } where
  none : (rule place : ℕ) → BrokenBy version insts rule place → ⊥
  none rule place (BrokenBy.instruction i x e b) = let within = slice_get_within insts i x e in c.none i x rule (omega arith) e b

-- ---- word 5
module _ (version : Version) (insts : List Inst) (missing : ℕ) (m : FindsMissing insts (Some missing)) where
  pub start_alone : ((x : Inst) → slice_get insts 0 ≡ Some x → Finds version insts 0 x 1 16 None) → IsLeastAtStart version insts missing
  start_alone u = record { broken = inl m.0; least = least } where
    least : (other : ℕ) → AtStart version insts other → missing ≤ other
    least other (inl h) = m.1 other h
    least other (inr (x, e, b)) = let n = numbered version insts 0 x other b in absurd ((u x e).none other n.0 n.1 b)

  pub start_with : (x : Inst) (rule : ℕ) → slice_get insts 0 ≡ Some x → Finds version insts 0 x 1 16 (Some rule) → IsLeastAtStart version insts (min rule missing)
  start_with x rule there f = record { broken = broken; least = least } where
    broken : AtStart version insts (min rule missing)
    broken = elim (cases_lt rule missing) [
      | inl lesser ↦ let same : rule ≡ min rule missing = omega arith in inr (x, there, subst (Breaks version insts 0 x) same f.0)
      | inr greater ↦ let same : missing ≡ min rule missing = omega arith in inl (subst (Misses insts) same m.0)
    ]

    least : (other : ℕ) → AtStart version insts other → min rule missing ≤ other
    least other (inl h) = let l = m.1 other h in omega arith
    least other (inr (y, e, b)) =
        let same : y ≡ x = same_Some y x (sym e ∙ there) in
        let here : Breaks version insts 0 x other = subst (λ (z : Inst). Breaks version insts 0 z other) same b in
        let n = numbered version insts 0 x other here in
        elim (cases_lt other rule) [ inl lesser ↦ absurd (f.3.none other n.0 lesser here) | inr greater ↦ omega arith ]

-- ---- the module
five : (insts : List Inst) (i : ℕ) → 5 ≤ start_of insts i
five insts i = omega arith

pub high : (m : Module) → 4194303 < m.bound → IsFirst (Broken m) 13 3
high m h = record { broken = Broken.high_bound h; least = least } where
  least : (other place : ℕ) → Broken m other place → (3 < place) ⊎ ((3 ≡ place) × (13 ≤ other))
  least other place (Broken.high_bound b) = inr (refl, omega arith)
  least other place (Broken.missing b) = inl (omega arith)
  least other place (Broken.instruction i x e b) = inl (omega (arith, five m.insts i))

pub at_start : (m : Module) (rule : ℕ) → m.bound ≤ 4194303 → IsLeastAtStart m.version m.insts rule → IsFirst (Broken m) rule 5
at_start m rule h s = record { broken = broken s.broken; least = least } where
  broken : AtStart m.version m.insts rule → Broken m rule 5
  broken (inl b) = Broken.missing b
  broken (inr (x, e, b)) = Broken.instruction 0 x e b

  least : (other place : ℕ) → Broken m other place → (5 < place) ⊎ ((5 ≡ place) × (rule ≤ other))
  least other place (Broken.high_bound b) = absurd (omega arith)
  least other place (Broken.missing b) = inr (refl, s.least other (inl b))
  least other place (Broken.instruction zero x e b) = inr (refl, s.least other (inr (x, e, b)))
  least other place (Broken.instruction (suc i) x e b) = let f = first m.insts i x e in inl (later m.insts 0 (suc i) f.0 f.1 (omega arith)) where
    first : (insts : List Inst) (i : ℕ) (x : Inst) → slice_get insts (suc i) ≡ Some x → (y : Inst) × (slice_get insts 0 ≡ Some y)
    first [] i x e = absurd cc
    first (y ∷ ys) i x e = (y, refl)

-- nothing is missing, and the bound is not too high: the rest is asked of the instructions
pub alone : (m : Module) (result : Result (Unit {0}) CheckFault) → m.bound ≤ 4194303 → FindsMissing m.insts None → EachAnswer result m.version m.insts → RulesAnswer result m
alone m (Ok u) h n a = record { none = none } where
  none : (rule place : ℕ) → Broken m rule place → ⊥
  none rule place (Broken.high_bound b) = omega arith
  none rule place (Broken.missing b) = n rule b
  none rule place (Broken.instruction i x e b) = a.none rule (start_of m.insts i) (BrokenBy.instruction i x e b)
alone m (Err (Refused (W rule) word)) h n a = a
alone m (Err (Refused (V rule) word)) h n a = record { broken = broken word a.broken; least = least } where
  broken : (place : ℕ) → BrokenBy m.version m.insts rule place → Broken m rule place
  broken place (BrokenBy.instruction i x e b) = Broken.instruction i x e b

  least : (other place : ℕ) → Broken m other place → (word < place) ⊎ ((word ≡ place) × (rule ≤ other))
  least other place (Broken.high_bound b) = absurd (omega arith)
  least other place (Broken.missing b) = absurd (n other b)
  least other place (Broken.instruction i x e b) = a.least other (start_of m.insts i) (BrokenBy.instruction i x e b)
alone m (Err (Refused (S rule) word)) h n a = a
alone m (Err OutOfMemory) h n a = tt
