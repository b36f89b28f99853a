-- The table of setters after one line more.
use Rattle.std.proofs.Common.{ℕ, suc, ◌≡◌, ◌<◌, ◌+◌, refl, sym, ap, ◌∙◌, arith, List, ◌∷◌, length, drop, drop-cons, get_or, Bool, true, false, Option, Some, None, if◌then◌else◌}
use Rattle.std.specs.List.{find}
use Rattle.std.proofs.lemmas.Option.{slice_get-get_or}
use Rattle.llvm_bodies.specs.declared.line.Line.{Line}
use Rattle.profile_lines.specs.Setters.{sets, line_at, AreSetters, IsNoted}

pub setters_next : (lines : List Line) (i : ℕ) (d : Line) (old new : List (Option ℕ)) → AreSetters lines (drop (i + 1) lines) old → i < length lines → d ≡ get_or lines i d → IsNoted i d old new → AreSetters lines (drop i lines) new
setters_next lines i d old new a h is n = record {
  each = λ v b. ap (line_at lines) (n.each v (let s = n.same_length in omega arith)) ∙ at (sets v d) refl v (a.each v (let s = n.same_length in omega arith)) ∙ sym (ap (find (sets v)) cut);
} where
  cut : drop i lines ≡ d ∷ drop (i + 1) lines
  cut = let e : suc i ≡ i + 1 = omega arith in drop-cons lines i d h ∙ ap (λ (l : Line). l ∷ drop (suc i) lines) (sym is) ∙ ap (λ (k : ℕ). d ∷ drop k lines) e

  at : (b : Bool) → {c : Bool} → c ≡ b → (v : ℕ) → line_at lines (get_or old v None) ≡ find (sets v) (drop (i + 1) lines)
      → line_at lines (if b then Some i else get_or old v None) ≡ (if b then Some d else find (sets v) (drop (i + 1) lines))
  at true e v r = slice_get-get_or lines i d h ∙ ap Some (sym is)
  at false e v r = r
