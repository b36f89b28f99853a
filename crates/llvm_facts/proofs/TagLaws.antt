-- The pairs of a node, pair by pair.
use Rattle.std.proofs.Common.{ℕ, ◌≡◌, ◌<◌, ◌≤◌, ◌+◌, ◌*◌, ◌/◌, refl, sym, ◌∙◌, ap, arith, List, [], ◌∷◌, drop, length, get_or, Bool, true, false, suc, is_some, Option, Some, ◌&&◌, count_by, find, cond, if◌then◌else◌, length-drop}
use Rattle.std.proofs.Math.Seq.{drop-cons}
use Rattle.std.proofs.lemmas.List.Sums.{sum_by-cons}
use Rattle.std.specs.List.{list_all}
use Rattle.llvm_facts.specs.Module.{Module}
use Rattle.llvm_facts.specs.Values.{i32_at}
use Rattle.llvm_facts.specs.Tags.{pairs, says, has_tag, tagged, value_of_pair}

abbrev pub all_tags : Module → List ℕ → Bool
all_tags m fields = list_all (λ pair. is_some (i32_at m pair.0)) (pairs fields)

abbrev pub tags_in : Module → ℕ → List ℕ → ℕ
tags_in m tag fields = count_by (has_tag m tag) (pairs fields)

pairs_short : (xs : List ℕ) → length xs < 2 → pairs xs ≡ []
pairs_short [] h = refl
pairs_short (a ∷ []) h = refl
pairs_short (a ∷ b ∷ xs) h = absurd (omega arith)

one_off : (fields : List ℕ) (j : ℕ) → j < length fields → drop j fields ≡ get_or fields j 0 ∷ drop (j + 1) fields
one_off fields j h = let n : suc j ≡ j + 1 = omega arith in drop-cons fields j 0 h ∙ ap (λ n. get_or fields j 0 ∷ drop n fields) n

-- the pair at a place, and those behind it
pub pairs_more : (fields : List ℕ) (k : ℕ) → k < length fields / 2 → pairs (drop (2 * k) fields) ≡ (get_or fields (2 * k) 0, get_or fields (2 * k + 1) 0) ∷ pairs (drop (2 * (k + 1)) fields)
pairs_more fields k h =
    let same : 2 * k + 1 + 1 ≡ 2 * (k + 1) = omega arith in
    ap pairs (one_off fields (2 * k) (omega arith) ∙ ap (λ l. get_or fields (2 * k) 0 ∷ l) (one_off fields (2 * k + 1) (omega arith) ∙ ap (λ n. get_or fields (2 * k + 1) 0 ∷ drop n fields) same))

pub pairs_end : (fields : List ℕ) (k : ℕ) → length fields / 2 ≤ k → pairs (drop (2 * k) fields) ≡ []
pairs_end fields k h = pairs_short (drop (2 * k) fields) (omega (arith, length-drop (2 * k) fields))

and_true : (a b : Bool) → a ≡ true → (a && b) ≡ b
and_true true b e = refl
and_true false b e = cc

and_false : (a b : Bool) → a ≡ false → (a && b) ≡ false
and_false true b e = cc
and_false false b e = refl

all_more : (m : Module) (fields : List ℕ) (k : ℕ) → k < length fields / 2 → all_tags m (drop (2 * k) fields) ≡ (is_some (i32_at m (get_or fields (2 * k) 0)) && all_tags m (drop (2 * (k + 1)) fields))
all_more m fields k h = ap (list_all (λ pair. is_some (i32_at m pair.0))) (pairs_more fields k h)

pub all_goes : (m : Module) (fields : List ℕ) (k : ℕ) → all_tags m (drop (2 * k) fields) ≡ all_tags m fields → k < length fields / 2 → is_some (i32_at m (get_or fields (2 * k) 0)) ≡ true
    → all_tags m (drop (2 * (k + 1)) fields) ≡ all_tags m fields
all_goes m fields k i h t = sym (all_more m fields k h ∙ and_true (is_some (i32_at m (get_or fields (2 * k) 0))) (all_tags m (drop (2 * (k + 1)) fields)) t) ∙ i

pub all_fails : (m : Module) (fields : List ℕ) (k : ℕ) → all_tags m (drop (2 * k) fields) ≡ all_tags m fields → k < length fields / 2 → is_some (i32_at m (get_or fields (2 * k) 0)) ≡ false → false ≡ all_tags m fields
all_fails m fields k i h t = sym (all_more m fields k h ∙ and_false (is_some (i32_at m (get_or fields (2 * k) 0))) (all_tags m (drop (2 * (k + 1)) fields)) t) ∙ i

pub all_ends : (m : Module) (fields : List ℕ) (k : ℕ) → all_tags m (drop (2 * k) fields) ≡ all_tags m fields → length fields / 2 ≤ k → true ≡ all_tags m fields
all_ends m fields k i h = sym (ap (list_all (λ pair. is_some (i32_at m pair.0))) (pairs_end fields k h)) ∙ i

-- how many pairs of a tag were counted
pub record IsCounted (m : Module) (tag : ℕ) (fields : List ℕ) (k count : ℕ) : Type 0 where
  pub whole : count + tags_in m tag (drop (2 * k) fields) ≡ tags_in m tag fields
  pub few : count ≤ k

pub counted_first : (m : Module) (tag : ℕ) (fields : List ℕ) → IsCounted m tag fields 0 0
counted_first m tag fields = record { whole = omega arith; few = omega arith }

pub counted_goes : (m : Module) (tag : ℕ) (fields : List ℕ) (k count now : ℕ) → IsCounted m tag fields k count → k < length fields / 2
    → (b : Bool) → b ≡ says tag (i32_at m (get_or fields (2 * k) 0)) → now ≡ (if b then count + 1 else count) → IsCounted m tag fields (k + 1) now
counted_goes m tag fields k count now i h b t n = cases b t n where
  here_more : tags_in m tag (drop (2 * k) fields) ≡ cond (says tag (i32_at m (get_or fields (2 * k) 0))) 1 0 + tags_in m tag (drop (2 * (k + 1)) fields)
  here_more = ap (count_by (has_tag m tag)) (pairs_more fields k h) ∙ sum_by-cons (λ p. cond (has_tag m tag p) 1 0) (get_or fields (2 * k) 0, get_or fields (2 * k + 1) 0) (pairs (drop (2 * (k + 1)) fields))

  cases : (c : Bool) → c ≡ says tag (i32_at m (get_or fields (2 * k) 0)) → now ≡ (if c then count + 1 else count) → IsCounted m tag fields (k + 1) now
  cases true e f =
      let one : tags_in m tag (drop (2 * k) fields) ≡ 1 + tags_in m tag (drop (2 * (k + 1)) fields) = here_more ∙ ap (λ d. cond d 1 0 + tags_in m tag (drop (2 * (k + 1)) fields)) (sym e) in
      record { whole = omega (arith, i.whole, one, f); few = omega (arith, i.few, f) }
  cases false e f =
      let one : tags_in m tag (drop (2 * k) fields) ≡ 0 + tags_in m tag (drop (2 * (k + 1)) fields) = here_more ∙ ap (λ d. cond d 1 0 + tags_in m tag (drop (2 * (k + 1)) fields)) (sym e) in
      record { whole = omega (arith, i.whole, one, f); few = omega (arith, i.few, f) }

pub counted_ends : (m : Module) (tag : ℕ) (fields : List ℕ) (k count : ℕ) → IsCounted m tag fields k count → length fields / 2 ≤ k → count ≡ tags_in m tag fields
counted_ends m tag fields k count i h = let e : tags_in m tag (drop (2 * k) fields) ≡ 0 = ap (count_by (has_tag m tag)) (pairs_end fields k h) in omega (arith, i.whole, e)

-- the first pair of a tag is not among those before a place
pub record IsSought (m : Module) (tag : ℕ) (fields : List ℕ) (k : ℕ) : Type 0 where
  pub later : tagged m tag (drop (2 * k) fields) ≡ tagged m tag fields

pub sought_first : (m : Module) (tag : ℕ) (fields : List ℕ) → IsSought m tag fields 0
sought_first m tag fields = record { later = refl }

pushed : (b : Bool) (a v : ℕ) (o : Option (ℕ × ℕ)) → value_of_pair (if b then Some (a, v) else o) ≡ (if b then v else value_of_pair o)
pushed true a v o = refl
pushed false a v o = refl

tagged_more : (m : Module) (tag : ℕ) (fields : List ℕ) (k : ℕ) → k < length fields / 2
    → tagged m tag (drop (2 * k) fields) ≡ (if says tag (i32_at m (get_or fields (2 * k) 0)) then get_or fields (2 * k + 1) 0 else tagged m tag (drop (2 * (k + 1)) fields))
unfolding tagged
tagged_more m tag fields k h =
    ap (λ l. value_of_pair (find (has_tag m tag) l)) (pairs_more fields k h)
    ∙ pushed (says tag (i32_at m (get_or fields (2 * k) 0))) (get_or fields (2 * k) 0) (get_or fields (2 * k + 1) 0) (find (has_tag m tag) (pairs (drop (2 * (k + 1)) fields)))

pub sought_goes : (m : Module) (tag : ℕ) (fields : List ℕ) (k : ℕ) → IsSought m tag fields k → k < length fields / 2 → says tag (i32_at m (get_or fields (2 * k) 0)) ≡ false → IsSought m tag fields (k + 1)
sought_goes m tag fields k i h t = record {
  later = sym (tagged_more m tag fields k h ∙ ap (λ b. if b then get_or fields (2 * k + 1) 0 else tagged m tag (drop (2 * (k + 1)) fields)) t) ∙ i.later;
}

pub sought_found : (m : Module) (tag : ℕ) (fields : List ℕ) (k : ℕ) → IsSought m tag fields k → k < length fields / 2 → says tag (i32_at m (get_or fields (2 * k) 0)) ≡ true → get_or fields (2 * k + 1) 0 ≡ tagged m tag fields
sought_found m tag fields k i h t = sym (tagged_more m tag fields k h ∙ ap (λ b. if b then get_or fields (2 * k + 1) 0 else tagged m tag (drop (2 * (k + 1)) fields)) t) ∙ i.later

pub sought_ends : (m : Module) (tag : ℕ) (fields : List ℕ) (k : ℕ) → IsSought m tag fields k → length fields / 2 ≤ k → 0 ≡ tagged m tag fields
unfolding tagged
sought_ends m tag fields k i h = sym (ap (λ l. value_of_pair (find (has_tag m tag) l)) (pairs_end fields k h)) ∙ i.later
