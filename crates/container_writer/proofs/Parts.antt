-- Parts, their bytes and their places.
use Rattle.std.proofs.Common.{ℕ, zero, suc, ◌≡◌, ◌+◌, ◌<◌, ◌⊎◌, inl, inr, refl, sym, ◌∙◌, ap, subst, arith, add-zero, List, [], ◌∷◌, ◌++◌, length, take, length-append, append_assoc, get_or, Some, Result, Ok, Err, OnOk}
use Rattle.std.specs.Prelude.{slice_get, Option}
use Rattle.std.specs.List.{flat_map, sum_by}
use Rattle.std.proofs.lemmas.Bool.{cases_lt}
use Rattle.std.proofs.lemmas.Option.{slice_get_cases, slice_get_within, get_or_from_slice_get}
use Rattle.std.proofs.lemmas.List.{take_more, flat_map_more}
use Rattle.std.proofs.lemmas.List.Concat.{flat_map-cons}
use Rattle.std.proofs.lemmas.List.Sums.{sum_by-cons}
use Rattle.dxbc_container.specs.declared.part.Part.{Part}
use Rattle.container_writer.specs.declared.part.NewPart.{NewPart}
use Rattle.container_writer.specs.Writing.{room}
use Rattle.container_writer.specs.Laying.{word, part_bytes, places_from, shader_head, fixed}
use Rattle.container_writer.proofs.Stands.{length-word}

pub length-head : (minor n : ℕ) → length (shader_head minor n) ≡ 24
unfolding word shader_head
length-head minor n = refl

pub length-fixed : (n k : ℕ) → length (fixed n k) ≡ 32
unfolding word fixed
length-fixed n k = refl

pub length-shader : (minor : ℕ) (bitcode : List ℕ) → length (shader_head minor (length bitcode) ++ bitcode) ≡ 24 + length bitcode
length-shader minor bitcode = length-append (shader_head minor (length bitcode)) bitcode ∙ ap (λ k. k + length bitcode) (length-head minor (length bitcode))

-- the parts as a reader tells them
abbrev pub parts_from : ℕ → List NewPart → List Part
parts_from at [] = []
parts_from at (p ∷ ps) = record { name = p.name; at = at; size = length p.content } ∷ parts_from (at + room p) ps

pub length-parts : (at : ℕ) (ps : List NewPart) → length (parts_from at ps) ≡ length ps
length-parts at [] = refl
length-parts at (p ∷ ps) = ap suc (length-parts (at + room p) ps)

-- part i and its place
pub place_of : (at : ℕ) (ps : List NewPart) (i : ℕ) (p : NewPart) → slice_get ps i ≡ Some p → slice_get (places_from at ps) i ≡ Some (at + sum_by room (take i ps))
place_of at [] i p e = absurd (cc)
place_of at (q ∷ qs) zero p e = ap Some (sym (add-zero at))
place_of at (q ∷ qs) (suc i) p e =
    let further : at + room q + sum_by room (take i qs) ≡ at + sum_by room (take (suc i) (q ∷ qs)) = omega (arith, sum_by-cons room q (take i qs)) in
    place_of (at + room q) qs i p e ∙ ap Some further

pub told : (at : ℕ) (ps : List NewPart) (i : ℕ) (p : NewPart) → slice_get ps i ≡ Some p → slice_get (parts_from at ps) i ≡ Some (record { name = p.name; at = at + sum_by room (take i ps); size = length p.content })
told at [] i p e = absurd (cc)
told at (q ∷ qs) zero p e =
    let same : q ≡ p = cc in
    subst (λ (r : NewPart). ◌≡◌ {A = Option Part} (Some (record { name = q.name; at = at; size = length q.content })) (Some (record { name = r.name; at = at + 0; size = length r.content }))) same
    (ap (λ (n : ℕ). Some (record { name = q.name; at = n; size = length q.content })) (sym (add-zero at)))
told at (q ∷ qs) (suc i) p e =
    let further : at + room q + sum_by room (take i qs) ≡ at + sum_by room (take (suc i) (q ∷ qs)) = omega (arith, sum_by-cons room q (take i qs)) in
    told (at + room q) qs i p e ∙ ap (λ (n : ℕ). Some (record { name = p.name; at = n; size = length p.content })) further

pub told_only : (at : ℕ) (ps : List NewPart) (i : ℕ) (q : Part) → slice_get (parts_from at ps) i ≡ Some q
    → (p : NewPart) × (slice_get ps i ≡ Some p) × ◌≡◌ {A = Part} (record { name = p.name; at = at + sum_by room (take i ps); size = length p.content }) q
told_only at ps i q e = elim (slice_get_cases ps i).1 [
  | inl x ↦ let t : Some (record { name = x.0.name; at = at + sum_by room (take i ps); size = length x.0.content }) ≡ Some q = sym (told at ps i x.0 x.2) ∙ e in (x.0, x.2, cc)
  | inr y ↦ absurd (omega (arith, y.0, length-parts at ps, slice_get_within (parts_from at ps) i q e))
]

pub get_left : (xs ys : List NewPart) (i : ℕ) (x : NewPart) → slice_get xs i ≡ Some x → slice_get (xs ++ ys) i ≡ Some x
get_left [] ys i x e = absurd (cc)
get_left (z ∷ zs) ys zero x e = e
get_left (z ∷ zs) ys (suc i) x e = get_left zs ys i x e

pub get_last : (xs : List NewPart) (y : NewPart) → slice_get (xs ++ y ∷ []) (length xs) ≡ Some y
get_last [] y = refl
get_last (x ∷ xs) y = get_last xs y

-- either a part of the list or the one behind it
pub get_cases : (xs : List NewPart) (y x : NewPart) (i : ℕ) → slice_get (xs ++ y ∷ []) i ≡ Some x → (slice_get xs i ≡ Some x) ⊎ ((i ≡ length xs) × (y ≡ x))
get_cases [] y x zero e = inr (refl, cc)
get_cases [] y x (suc i) e = absurd (cc)
get_cases (z ∷ zs) y x zero e = inl e
get_cases (z ∷ zs) y x (suc i) e = elim (get_cases zs y x i e) [ inl a ↦ inl a | inr b ↦ inr (ap suc b.0, b.1) ]

abbrev pub AreNamed : List NewPart → Type 0
AreNamed ps = (i : ℕ) (p : NewPart) → slice_get ps i ≡ Some p → length p.name ≡ 4

pub length-part : (p : NewPart) → length p.name ≡ 4 → length (part_bytes p) ≡ room p
unfolding part_bytes
length-part p e =
    let whole : length (part_bytes p) ≡ length p.name + length (word (length p.content) ++ p.content) = length-append p.name (word (length p.content) ++ p.content) in
    omega (arith, e, whole, length-append (word (length p.content)) p.content, length-word (length p.content))

pub length-part_bytes : (ps : List NewPart) → AreNamed ps → length (flat_map part_bytes ps) ≡ sum_by room ps
length-part_bytes [] n = refl
length-part_bytes (p ∷ ps) n =
    omega (arith, ap length (flat_map-cons part_bytes p ps), length-append (part_bytes p) (flat_map part_bytes ps), length-part p (n 0 p refl), length-part_bytes ps (λ i q e. n (suc i) q e), sum_by-cons room p ps)

pub named_take : (ps : List NewPart) (i : ℕ) → AreNamed ps → AreNamed (take i ps)
named_take ps zero n k q e = absurd (cc)
named_take [] (suc i) n k q e = absurd (cc)
named_take (p ∷ ps) (suc i) n zero q e = n 0 q e
named_take (p ∷ ps) (suc i) n (suc k) q e = named_take ps i (λ j r f. n (suc j) r f) k q e

-- pieces that were added one behind the other
pub four_pieces : (old a b c d w x y z : List ℕ) → a ≡ old ++ w → b ≡ a ++ x → c ≡ b ++ y → d ≡ c ++ z → d ≡ old ++ (w ++ (x ++ (y ++ z)))
four_pieces old a b c d w x y z p q r s =
    s ∙ ap (λ l. l ++ z) (r ∙ ap (λ l. l ++ y) (q ∙ ap (λ l. l ++ x) p))
    ∙ append_assoc ((old ++ w) ++ x) y z ∙ append_assoc (old ++ w) x (y ++ z) ∙ append_assoc old w (x ++ (y ++ z))

pub on_ok : {E P Q : Type 0} (r : Result (Unit {0}) E) → (P → Q) → OnOk r P → OnOk r Q
on_ok (Ok x) f h = f h
on_ok (Err x) f h = h

-- one part more was written
pub parts_more : (old before new : List ℕ) (parts : List NewPart) (i : ℕ) (p : NewPart) → i < length parts → p ≡ get_or parts i p → length p.name ≡ 4 → new ≡ before ++ part_bytes p
    → (before ≡ old ++ flat_map part_bytes (take i parts)) × ((k : ℕ) (q : NewPart) → k < i → slice_get parts k ≡ Some q → length q.name ≡ 4)
    → (new ≡ old ++ flat_map part_bytes (take (i + 1) parts)) × ((k : ℕ) (q : NewPart) → k < i + 1 → slice_get parts k ≡ Some q → length q.name ≡ 4)
parts_more old before new parts i p low is four more h =
    let longer : take (i + 1) parts ≡ take i parts ++ p ∷ [] = take_more parts i p low ∙ ap (λ q. take i parts ++ q ∷ []) (sym is) in (
      more ∙ ap (λ l. l ++ part_bytes p) h.0 ∙ flat_map_more part_bytes old (take i parts) p ∙ ap (λ ps. old ++ flat_map part_bytes ps) (sym longer),
      λ k q below there. elim (cases_lt k i) [
        | inl a ↦ h.1 k q a there
        | inr b ↦
            let same : k ≡ i = omega arith in
            let found : get_or parts i p ≡ q = get_or_from_slice_get parts i q p (subst (λ (j : ℕ). slice_get parts j ≡ Some q) same there) in
            subst (λ (x : NewPart). length x.name ≡ 4) (is ∙ found) four
      ],
    )
