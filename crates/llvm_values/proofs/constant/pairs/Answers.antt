use Rattle.std.proofs.Common.{ℕ, ◌≡◌, ◌+◌, ◌∙◌, sym, ap, List, [], ◌∷◌, ◌++◌, map, arith, Bool, false, Result, Ok, Err}
use Rattle.std.proofs.lemmas.Bool.{false≢true}
use Rattle.std.specs.Result.{OnOk, is_err}
use Rattle.std.specs.List.{range_with_len}
use Rattle.std.proofs.lemmas.List.FromFn.{map-range_with_len_more}
use Rattle.llvm_values.specs.Values.{pair_at}
use Rattle.llvm_values.proofs.constant.pairs.Goals as goal

pairs_more : (fields : List ℕ) (place : ℕ) (old new : List (ℕ × ℕ)) (a b : ℕ) → old ≡ map (pair_at fields) (range_with_len 0 place) → new ≡ old ++ (a, b) ∷ []
    → a ≡ (pair_at fields place).0 → b ≡ (pair_at fields place).1 → new ≡ map (pair_at fields) (range_with_len 0 (place + 1))
pairs_more fields place old new a b o n x y =
    let one : (a, b) ≡ pair_at fields place = ap (λ (z : ℕ). (z, b)) x ∙ ap (λ (z : ℕ). ((pair_at fields place).0, z)) y in
    n ∙ ap (λ (ps : List (ℕ × ℕ)). ps ++ (a, b) ∷ []) o ∙ ap (λ (p : ℕ × ℕ). map (pair_at fields) (range_with_len 0 place) ++ p ∷ []) one
    ∙ sym (map-range_with_len_more (pair_at fields) 0 place place (omega arith))

on_ok : {E P : Type 0} (r : Result (Unit {0}) E) (b : Bool) → b ≡ is_err r → b ≡ false → OnOk r P → P
on_ok (Ok u) b e f p = p
on_ok (Err x) b e f p = absurd (false≢true (sym f ∙ e))

pub loop-place-preserved : goal.loop-place-preserved
loop-place-preserved c = pairs_more _ _ _ _ _ _ c.loop-place.invariant (on_ok c.push.result _ c.is_err.ensures.value c.if-is_err.false c.push.ensures.ok) c.number_of.ensures c.number_of-in-loop-place.ensures
