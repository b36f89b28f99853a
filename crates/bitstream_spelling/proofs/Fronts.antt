-- Fronts of one bitstream lie in a row, so the first place at which something is wrong gives the first broken rule.
use Rattle.std.proofs.Common.{ap, refl, sym, ◌∙◌, subst, ℕ, ◌≡◌, ◌+◌, ◌*◌, ◌<◌, ◌≤◌, ◌^◌, ◌⊎◌, inl, inr, List, [], ◌∷◌, ◌++◌, length, arith, length-append, Bool, true, false, Option, Some, None, if◌then◌else◌, add-zero}
use Rattle.std.proofs.lemmas.List.Sums.{sum_by-append}
use Rattle.dx_base.specs.First.{IsFirst, IsSound}
use Rattle.bitstream_spelling.specs.Layout.{Shape, closes, enters, defines, plain, by, unknown, Abbreviation}
use Rattle.bitstream_spelling.specs.Spelling.{Block, Place, Lays, next, left, defined, entered, item, fields, operands, reads}
use Rattle.bitstream_spelling.specs.Rules.{IsFine, IsFront, begins, goes_on, beginning, HasMagic, IsWhole, IsOpen, PassesEnd, Within, AreWithin, records, is_record, Breaks, b3, b4, b5, b6, b7, b8, too_many_records, too_many_fields, IsBroken, no_magic, too_short, by_rule}
use Rattle.bitstream_spelling.specs.declared.item.Item.{Item}
use Rattle.bitstream_spelling.proofs.Unique.{lays_unique}

more_records : (xs ys : List Item) → records xs ≤ records (xs ++ ys)
more_records xs ys = omega (arith, sum_by-append is_record xs ys)

left_operands : (p : Place) (after : ℕ) (around : List Block) → (left p after around).operands ≡ p.operands
left_operands p after [] = refl
left_operands p after (outer ∷ rest) = refl

entry_operands : (p : Place) (b : Bool) (id width words after : ℕ) → (if b then entered p id width words after else record p { at = after + 32 * words }).operands ≡ p.operands
entry_operands p true id width words after = refl
entry_operands p false id width words after = refl

defined_operands : (p : Place) (ops : Abbreviation) (after : ℕ) → (defined p ops after).operands ≡ p.operands + length ops
defined_operands p ops after = named p.here.named where
  named : (o : Option ℕ) → (elim o as (λ _. Place) [
    | Some id ↦ record p { at = after; given = p.given ++ (id, ops) ∷ []; operands = p.operands + length ops }
    | None ↦ record p { at = after; here = record p.here { forms = p.here.forms ++ ops ∷ [] }; operands = p.operands + length ops }
  ]).operands ≡ p.operands + length ops
  named (Some id) = refl
  named None = refl

-- what stands at a place adds the operands of its definition
pub next_operands : (p : Place) (shape : Shape) (after : ℕ) → (next p shape after).operands ≡ p.operands + operands shape
next_operands p closes after = left_operands p after p.around ∙ sym (add-zero p.operands)
next_operands p (enters id width words) after = entry_operands p (reads p.here.id id) id width words after ∙ sym (add-zero p.operands)
next_operands p (defines ops) after = defined_operands p ops after
next_operands p (plain code row) after = sym (add-zero p.operands)
next_operands p (by k values) after = sym (add-zero p.operands)
next_operands p (unknown k) after = sym (add-zero p.operands)

module _ (bytes : List ℕ) (start end : ℕ) where
  -- a front goes on from one place to a later one
  data Extends : Place → List Item → List ℕ → Place → List Item → List ℕ → Type 0 where
    stays : {p : Place} {is : List Item} {fs : List ℕ} → Extends p is fs p is fs
    goes : {p : Place} {is : List Item} {fs : List ℕ} {q : Place} {js : List Item} {gs : List ℕ} (shape : Shape) (after : ℕ) → p.over ≡ false → Lays bytes start p shape after
        → IsFine end p shape after → Extends (next p shape after) (is ++ item p shape (length fs)) (fs ++ fields shape) q js gs → Extends p is fs q js gs

  extend_one : {p : Place} {is : List Item} {fs : List ℕ} {q : Place} {js : List Item} {gs : List ℕ} (shape : Shape) (after : ℕ) → Extends p is fs q js gs → q.over ≡ false → Lays bytes start q shape after
      → IsFine end q shape after → Extends p is fs (next q shape after) (js ++ item q shape (length gs)) (gs ++ fields shape)
  extend_one shape after stays g l f = goes shape after g l f stays
  extend_one shape after (goes s a g l f e) g2 l2 f2 = goes s a g l f (extend_one shape after e g2 l2 f2)

  from_beginning : {q : Place} {js : List Item} {gs : List ℕ} → IsFront bytes start end q js gs → Extends (beginning bytes start end) [] [] q js gs
  from_beginning (begins m) = stays
  from_beginning (goes_on f g l k) = extend_one _ _ (from_beginning f) g l k

  passes : {p : Place} {is : List Item} {fs : List ℕ} {q : Place} {js : List Item} {gs : List ℕ} (shape : Shape) (after : ℕ) → Lays bytes start p shape after → p.over ≡ false → IsFine end p shape after
      → Extends p is fs q js gs → Extends (next p shape after) (is ++ item p shape (length fs)) (fs ++ fields shape) q js gs ⊎ Extends q js gs (next p shape after) (is ++ item p shape (length fs)) (fs ++ fields shape)
  passes shape after l g f stays = inr (goes shape after g l f stays)
  passes {p} {is} {fs} {q} {js} {gs} shape after l g f (goes s a h m k e) =
      let u = lays_unique bytes start p s a shape after m l in
      inl (subst (λ (x : Shape). Extends (next p x after) (is ++ item p x (length fs)) (fs ++ fields x) q js gs) u.0
      (subst (λ (i : ℕ). Extends (next p s i) (is ++ item p s (length fs)) (fs ++ fields s) q js gs) u.1 e))

  -- of two fronts one goes on to the other
  compared : {p : Place} {is : List Item} {fs : List ℕ} {q : Place} {js : List Item} {gs : List ℕ} → IsFront bytes start end p is fs → IsFront bytes start end q js gs
      → Extends p is fs q js gs ⊎ Extends q js gs p is fs
  compared (begins m) w = inl (from_beginning w)
  compared (goes_on f g l k) w = elim (compared f w) [ inl e ↦ passes _ _ l g k e | inr e ↦ inr (extend_one _ _ e g l k) ]

  front_magic : {p : Place} {is : List Item} {fs : List ℕ} → IsFront bytes start end p is fs → HasMagic bytes start end
  front_magic (begins m) = m
  front_magic (goes_on f g l k) = front_magic f

  fields_grow : {p : Place} {is : List Item} {fs : List ℕ} {q : Place} {js : List Item} {gs : List ℕ} → Extends p is fs q js gs → length fs + p.operands ≤ length gs + q.operands
  fields_grow stays = omega arith
  fields_grow {p} {is} {fs} (goes shape after g l f e) = omega (arith, fields_grow e, length-append fs (fields shape), next_operands p shape after)

  records_grow : {p : Place} {is : List Item} {fs : List ℕ} {q : Place} {js : List Item} {gs : List ℕ} → Extends p is fs q js gs → records is ≤ records js
  records_grow stays = omega arith
  records_grow {p} {is} {fs} (goes shape after g l f e) = omega (arith, records_grow e, more_records is (item p shape (length fs)))

  -- nothing is wrong where a front goes on to one within the limits
  sound_there : (p : Place) (is : List Item) (fs : List ℕ) (shape : Shape) (after rule bit : ℕ) → IsFine end p shape after → records (is ++ item p shape (length fs)) ≤ 2 ^ 22
      → length (fs ++ fields shape) + (p.operands + operands shape) ≤ 2 ^ 24 → Breaks p is fs shape after rule bit → ⊥
  sound_there p is fs shape after rule bit f r n (b3 h) = h f.b3
  sound_there p is fs shape after rule bit f r n (b4 h) = h f.b4
  sound_there p is fs shape after rule bit f r n (b5 h) = h f.b5
  sound_there p is fs shape after rule bit f r n (b6 h) = h f.b6
  sound_there p is fs shape after rule bit f r n (b7 h) = h f.b7
  sound_there p is fs shape after rule bit f r n (b8 h) = h f.b8
  sound_there p is fs shape after rule bit f r n (too_many_records h) = absurd (omega arith)
  sound_there p is fs shape after rule bit f r n (too_many_fields h) = absurd (omega arith)

  -- a front at which something is wrong goes on to no other within the limits
  last_one : {p : Place} {is : List Item} {fs : List ℕ} {q : Place} {js : List Item} {gs : List ℕ} (shape : Shape) (after rule bit : ℕ) → Extends p is fs q js gs → Lays bytes start p shape after
      → Breaks p is fs shape after rule bit → AreWithin q js gs → (p ≡ q) × (is ≡ js) × (fs ≡ gs)
  last_one shape after rule bit stays l b w = (refl, refl, refl)
  last_one {p} {is} {fs} {q} {js} {gs} shape after rule bit (goes s a g m f e) l b w =
      let u = lays_unique bytes start p shape after s a l m in
      let c : Breaks p is fs s a rule bit = subst (λ (i : ℕ). Breaks p is fs s i rule bit) u.1 (subst (λ (x : Shape). Breaks p is fs x after rule bit) u.0 b) in
      absurd (sound_there p is fs s a rule bit f (omega (arith, records_grow e, w.records_few)) (omega (arith, fields_grow e, w.fields_few, next_operands p s a)) c)

  no_further : {p : Place} {is : List Item} {fs : List ℕ} {q : Place} {js : List Item} {gs : List ℕ} → Extends p is fs q js gs → PassesEnd bytes start end p → (p ≡ q) × (is ≡ js) × (fs ≡ gs)
  no_further stays h = (refl, refl, refl)
  no_further (goes s a g l f e) h = absurd (h.none s a l f.b2)

  ended : {p : Place} {is : List Item} {fs : List ℕ} {q : Place} {js : List Item} {gs : List ℕ} → Extends p is fs q js gs → p.over ≡ true → (p ≡ q) × (is ≡ js) × (fs ≡ gs)
  ended stays o = (refl, refl, refl)
  ended (goes shape after g l f e) o = absurd (cc)

  pub whole_unique : (is js : List Item) (fs gs : List ℕ) → IsWhole bytes start end is fs → IsWhole bytes start end js gs → (is ≡ js) × (fs ≡ gs)
  whole_unique is js fs gs a b = elim (compared a.front b.front) [
    | inl e ↦ let s = ended e a.over in (s.1, s.2)
    | inr e ↦ let s = ended e b.over in (sym s.1, sym s.2)
  ]

  differ : {x : Bool} → x ≡ true → x ≡ false → ⊥
  differ e f = absurd (cc)

  pub whole_sound : (is : List Item) (fs : List ℕ) → IsWhole bytes start end is fs → IsSound (IsBroken bytes start end)
  whole_sound is fs w = record { none = cases } where
    same_over : (p : Place) → p ≡ w.place → p.over ≡ false → ⊥
    same_over p e g = differ (ap (λ (x : Place). x.over) e ∙ w.over) g

    cases : (r b : ℕ) → IsBroken bytes start end r b → ⊥
    cases r b (no_magic h) = h (front_magic w.front)
    cases r b (too_short p js gs o short) = elim (compared o.front w.front) [
      | inl e ↦ same_over p (no_further e short).0 o.going
      | inr e ↦ same_over p (sym (ended e w.over).0) o.going
    ]
    cases r b (by_rule p js gs sh af o l x y) = elim (compared o.front w.front) [
      | inl e ↦ same_over p (last_one sh af r b e l y w.few).0 o.going
      | inr e ↦ same_over p (sym (ended e w.over).0) o.going
    ]

  pub magic_first : (HasMagic bytes start end → ⊥) → IsFirst (IsBroken bytes start end) 1 start
  magic_first none = record { broken = no_magic none; least = ordered } where
    ordered : (r b : ℕ) → IsBroken bytes start end r b → (start < b) ⊎ ((start ≡ b) × (1 ≤ r))
    ordered r b (no_magic h) = inr (refl, omega arith)
    ordered r b (too_short q js gs other short) = absurd (none (front_magic other.front))
    ordered r b (by_rule q js gs sh af other l w x) = absurd (none (front_magic other.front))

  -- where what stands there passes the end
  pub short_first : (p : Place) (is : List Item) (fs : List ℕ) → IsOpen bytes start end p is fs → PassesEnd bytes start end p → IsFirst (IsBroken bytes start end) 2 p.at
  short_first p is fs stops none = record { broken = too_short p is fs stops none; least = ordered } where
    ordered : (r b : ℕ) → IsBroken bytes start end r b → (p.at < b) ⊎ ((p.at ≡ b) × (2 ≤ r))
    ordered r b (no_magic h) = absurd (h (front_magic stops.front))
    ordered r b (too_short q js gs other short) = inr (elim (compared stops.front other.front) [
      | inl e ↦ (ap (λ (x : Place). x.at) (no_further e none).0, omega arith)
      | inr e ↦ (ap (λ (x : Place). x.at) (sym (no_further e short).0), omega arith)
    ])
    ordered r b (by_rule q js gs sh af other l w x) =
        let same : q ≡ p = elim (compared stops.front other.front) [ inl e ↦ sym (no_further e none).0 | inr e ↦ (last_one sh af r b e l x stops.few).0 ] in
        absurd (none.none sh af (subst (λ (y : Place). Lays bytes start y sh af) same l) (subst (λ (y : Place). Within end y sh af) same w))

  module _ (p : Place) (is : List Item) (fs : List ℕ) (shape : Shape) (after rule bit : ℕ) (stops : IsOpen bytes start end p is fs) (lays : Lays bytes start p shape after) (within : Within end p shape after)
      (breaks : Breaks p is fs shape after rule bit) (least : (r b : ℕ) → Breaks p is fs shape after r b → (bit ≡ b) × (rule ≤ r)) where
    here_too : (sh : Shape) (af r b : ℕ) → Lays bytes start p sh af → Breaks p is fs sh af r b → (bit ≡ b) × (rule ≤ r)
    here_too sh af r b l x =
        let u = lays_unique bytes start p sh af shape after l lays in
        least r b (subst (λ (i : ℕ). Breaks p is fs shape i r b) u.1 (subst (λ (s : Shape). Breaks p is fs s af r b) u.0 x))

    at_same : (q : Place) (js : List Item) (gs : List ℕ) (sh : Shape) (af r b : ℕ) → (q ≡ p) × (js ≡ is) × (gs ≡ fs) → Lays bytes start q sh af → Breaks q js gs sh af r b → (bit ≡ b) × (rule ≤ r)
    at_same q js gs sh af r b e l x =
        here_too sh af r b (subst (λ (y : Place). Lays bytes start y sh af) e.0 l)
        (subst (λ (y : Place). Breaks y is fs sh af r b) e.0 (subst (λ (y : List Item). Breaks q y fs sh af r b) e.1 (subst (λ (y : List ℕ). Breaks q js y sh af r b) e.2 x)))

    -- where what stands there breaks a rule or passes a limit
    pub first_here : IsFirst (IsBroken bytes start end) rule bit
    first_here = record { broken = by_rule p is fs shape after stops lays within breaks; least = ordered } where
      ordered : (r b : ℕ) → IsBroken bytes start end r b → (bit < b) ⊎ ((bit ≡ b) × (rule ≤ r))
      ordered r b (no_magic h) = absurd (h (front_magic stops.front))
      ordered r b (too_short q js gs other short) =
          let same : q ≡ p = elim (compared stops.front other.front) [ inl e ↦ sym (last_one shape after rule bit e lays breaks other.few).0 | inr e ↦ (no_further e short).0 ] in
          let here : PassesEnd bytes start end p = subst (λ (y : Place). PassesEnd bytes start end y) same short in
          absurd (here.none shape after lays within)
      ordered r b (by_rule q js gs sh af other l w x) = inr (elim (compared stops.front other.front) [
        | inl e ↦ let s = last_one shape after rule bit e lays breaks other.few in at_same q js gs sh af r b (sym s.0, sym s.1, sym s.2) l x
        | inr e ↦ at_same q js gs sh af r b (last_one sh af r b e l x stops.few) l x
      ])
