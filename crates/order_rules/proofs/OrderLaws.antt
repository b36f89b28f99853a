-- The one place at which a module's instructions are out of order.
use Rattle.std.proofs.Common.{ℕ, zero, suc, ◌≡◌, ◌+◌, ◌<◌, ◌≤◌, inl, inr, refl, ap, subst, ◌∙◌, arith, List, [], ◌∷◌, length, take, get_or, slice_get, Option, Some, None}
use Rattle.std.proofs.lemmas.Bool.{cases_lt}
use Rattle.std.proofs.lemmas.List.Folds.{fold_stays}
use Rattle.std.proofs.lemmas.List.Sums.{fold_more}
use Rattle.std.proofs.lemmas.Option.{slice_get_within, get_or_from_slice_get}
use Rattle.std.specs.List.{fold}
use Rattle.std.specs.Option.{option_and_then}
use Rattle.spv_form.specs.declared.module.Inst.{Inst}
use Rattle.order_rules.specs.declared.order.Phase.{Phase}
use Rattle.order_rules.specs.declared.order.Phase.TheVariants.{Global}
use Rattle.order_rules.specs.Order.{follow, phase_behind, OutOfOrder, IsThePlace}

abbrev next : Option Phase → Inst → Option Phase
next o x = option_and_then (λ p. follow p x) o

some_earlier : (xs : List Inst) (s : Option Phase) (k i : ℕ) (ph : Phase) → k ≤ i → fold next s (take i xs) ≡ Some ph → (q : Phase) × (fold next s (take k xs) ≡ Some q)
some_earlier xs (Some s) zero i ph h e = (s, refl)
some_earlier xs None zero i ph h e = let stays = fold_stays next None (λ x. refl) (take i xs) in absurd cc
some_earlier [] s (suc k) zero ph h e = (ph, e)
some_earlier [] s (suc k) (suc i) ph h e = (ph, e)
some_earlier (x ∷ xs) s (suc k) zero ph h e = absurd (omega arith)
some_earlier (x ∷ xs) s (suc k) (suc i) ph h e = some_earlier xs (next s x) k i ph (omega arith) e

none_behind : (insts : List Inst) (at : ℕ) → OutOfOrder insts at → phase_behind (take (at + 1) insts) ≡ None
none_behind insts at o =
    let x = o.inst in
    let within = slice_get_within insts at x o.there in
    fold_more next (Some (Global 0)) insts at x within ∙ ap (λ p. next p (get_or insts at x)) o.reached ∙ ap (follow o.phase) (get_or_from_slice_get insts at x x o.there) ∙ o.stuck

not_later : (insts : List Inst) (i j : ℕ) (ph : Phase) → OutOfOrder insts i → i < j → phase_behind (take j insts) ≡ Some ph → ⊥
not_later insts i j ph o h e =
    let earlier = some_earlier insts (Some (Global 0)) (i + 1) j ph (omega arith) e in
    let none = none_behind insts i o in
    let some : phase_behind (take (i + 1) insts) ≡ Some earlier.0 = earlier.1 in
    cc

pub stuck_here : (insts : List Inst) (at : ℕ) (x : Inst) (ph : Phase) → slice_get insts at ≡ Some x → phase_behind (take at insts) ≡ Some ph → follow ph x ≡ None → IsThePlace (OutOfOrder insts) (Some at)
stuck_here insts at x ph there reached stuck = record {
  holds = λ i e. let same : at ≡ i = cc in subst (OutOfOrder insts) same here;
  only = only;
} where
  here : OutOfOrder insts at
  here = record { inst = x; phase = ph; there = there; reached = reached; stuck = stuck }

  only : (i : ℕ) → OutOfOrder insts i → Some at ≡ Some i
  only i o = elim (cases_lt i at) [
    | inl before ↦ absurd (not_later insts i at ph o before reached)
    | inr above ↦ elim (cases_lt at i) [
      | inl behind ↦ absurd (not_later insts at i o.phase here behind o.reached)
      | inr below ↦ ap Some (omega arith)
    ]
  ]

pub never_stuck : (insts : List Inst) (at : ℕ) (ph : Phase) → phase_behind (take at insts) ≡ Some ph → length insts ≤ at → IsThePlace (OutOfOrder insts) None
never_stuck insts at ph reached h = record {
  holds = λ i e. cc;
  only = λ i o. let within = slice_get_within insts i o.inst o.there in absurd (not_later insts i at ph o (omega arith) reached);
}
