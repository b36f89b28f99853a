-- The greatest numbers of chunks.
use Rattle.std.proofs.Common.{ℕ, ◌≡◌, ◌<◌, ◌≤◌, ◌+◌, ◌-◌, ◌*◌, ◌/◌, ◌%◌, ◌∷◌, ◌++◌, [], refl, sym, ap, subst, ◌∙◌, arith, List, length, get_or, inl, inr, take, drop, length-take, length-drop}
use Rattle.std.proofs.lemmas.Bool.{cases_lt}
use Rattle.std.proofs.lemmas.Nat.{le-div, div_below, div-add-mod', mod_below, mul-le}
use Rattle.std.proofs.lemmas.List.{get_or-take, get_or-drop}
use Rattle.std.proofs.lemmas.Grind.{common_steps}
use Rattle.std.proofs.Math.Nat.{mul_assoc, mul_comm, add-mul}
use Rattle.flow_scans.specs.Ranges.{IsMost, AreMaxima}

pub most_one : (values : List ℕ) (i : ℕ) → IsMost values i 1 (get_or values i 0)
most_one values i = record {
  upper = λ k low high. let is : k ≡ i = omega arith in omega (arith, ap (λ (x : ℕ). get_or values x 0) is);
  at = i;
  behind = omega arith;
  before = omega arith;
  is = refl;
}

-- the greatest number of a part is that of the range that it is taken from
pub most_of_part : (values : List ℕ) (from n count most : ℕ) → n ≡ count → from + count ≤ length values → IsMost (take n (drop from values)) 0 (length (take n (drop from values))) most → IsMost values from count most
most_of_part values from n count most whole within is = record {
  upper = λ k low high. (
      let at : from + (k - from) ≡ k = omega arith in
      let same = part (k - from) (omega arith) in
      omega (arith, is.upper (k - from) (omega arith) (omega (arith, all)), same, ap (λ (x : ℕ). get_or values x 0) at));
  at = from + is.at;
  behind = omega arith;
  before = omega (arith, is.before, all);
  is = sym (part is.at (omega (arith, is.before, all))) ∙ is.is;
} where
  all : length (take n (drop from values)) ≡ count
  all = grind (arith, length-take {A = ℕ}, length-drop {A = ℕ})

  part : (i : ℕ) → i < count → get_or (take n (drop from values)) i 0 ≡ get_or values (from + i) 0
  part i below = get_or-take n (drop from values) i 0 (omega arith) ∙ get_or-drop from values i 0

-- chunks side by side
pub most_of_chunks : (values maxima : List ℕ) (width base count most : ℕ) → 0 < width
    → ((i : ℕ) → base ≤ i → i < base + count → IsMost values (i * width) width (get_or maxima i 0))
    → IsMost maxima base count most → IsMost values (base * width) (count * width) most
most_of_chunks values maxima width base count most some each is = record {
  upper = λ k low high. (
      let i = k / width in
      let first : base ≤ k / width = le-div base k width some low in
      let last : k / width < base + count = div_below k width (base + count) some (omega (arith, add-mul base count width)) in
      let split = div-add-mod' k width in
      let rest = mod_below k width some in
      omega (arith, (each (k / width) first last).upper k (omega arith) (omega arith), is.upper (k / width) first last));
  at = here.at;
  behind = (let a : is.at * width ≤ here.at = here.behind in omega (arith, mul-le base width is.at width is.behind (omega arith)));
  before = (let a : here.at < is.at * width + width = here.before in let b : is.at < base + count = is.before in omega (arith, mul-le (is.at + 1) width (base + count) width (omega arith) (omega arith), add-mul base count width, add-mul is.at 1 width));
  is = here.is ∙ is.is;
} where
  here : IsMost values (is.at * width) width (get_or maxima is.at 0)
  here = each is.at is.behind is.before

pub maxima_of_maxima : (values xs ys : List ℕ) (width : ℕ) → AreMaxima values width xs → AreMaxima xs 16 ys → AreMaxima values (width * 16) ys
maxima_of_maxima values xs ys width low high = record {
  some = (let some : 0 < width = low.some in omega arith);
  whole = λ i. (λ below. omega (arith, (low.whole (i * 16 + 15)).0 (omega (arith, (high.whole i).0 below)), scaled i), λ fits. (high.whole i).1 (omega (arith, (low.whole (i * 16 + 15)).1 (omega (arith, scaled i)))));
  each = λ i below.
      rw (shifted i, mul_comm width 16) (most_of_chunks values xs width (i * 16) 16 (get_or ys i 0) low.some
      (λ k first last. low.each k (let inside = (high.whole i).0 below in omega arith)) (high.each i below));
} where
  shifted : (i : ℕ) → i * (width * 16) ≡ i * 16 * width
  shifted i = ap (λ (n : ℕ). i * n) (mul_comm width 16) ∙ sym (mul_assoc i 16 width)

  scaled : (i : ℕ) → (i * 16 + 15) * width + width ≡ i * (width * 16) + width * 16
  scaled i = omega (arith, add-mul (i * 16) 15 width, shifted i)

-- the chunk of a level that begins at a place
pub chunk_of_level : (values maxima : List ℕ) (width place : ℕ) → AreMaxima values width maxima → place % width ≡ 0 → place + width ≤ length values
    → (place / width < length maxima) × IsMost values place width (get_or maxima (place / width) 0)
chunk_of_level values maxima width place level begins fits =
    let at : place / width * width ≡ place = omega (arith, div-add-mod' place width) in
    let below = (level.whole (place / width)).1 (omega arith) in
    (below, subst (λ (n : ℕ). IsMost values n width (get_or maxima (place / width) 0)) at (level.each (place / width) below))

-- one more chunk
pub chunks_more : (numbers maxima : List ℕ) (count most : ℕ) → length maxima ≡ count → ((k : ℕ) → k < count → IsMost numbers (k * 16) 16 (get_or maxima k 0)) → IsMost numbers (count * 16) 16 most
    → (k : ℕ) → k < count + 1 → IsMost numbers (k * 16) 16 (get_or (maxima ++ most ∷ []) k 0)
chunks_more numbers maxima count most is each new k below = elim (cases_lt k count) [
  | inl low ↦ subst (λ (m : ℕ). IsMost numbers (k * 16) 16 m) (sym (old k (omega arith))) (each k low)
  | inr high ↦ let at : count ≡ k = omega arith in subst (λ (n : ℕ). IsMost numbers (n * 16) 16 (get_or (maxima ++ most ∷ []) n 0)) at (subst (λ (m : ℕ). IsMost numbers (count * 16) 16 m) (sym (subst (λ (n : ℕ). get_or (maxima ++ most ∷ []) n 0 ≡ most) is last)) new)
] where
  old : (n : ℕ) → n < length maxima → get_or (maxima ++ most ∷ []) n 0 ≡ get_or maxima n 0
  old n h = grind (arith, common_steps)

  last : get_or (maxima ++ most ∷ []) (length maxima) 0 ≡ most
  last = grind (arith, common_steps)

pub fewer_maxima : (values maxima : List ℕ) → AreMaxima values 16 maxima → 0 < length values → length maxima < length values
fewer_maxima values maxima are some = elim (cases_lt 0 (length maxima)) [
  | inl more ↦ omega (arith, (are.whole (length maxima - 1)).0 (omega arith))
  | inr none ↦ omega arith
]
