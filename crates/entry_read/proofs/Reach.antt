-- What is known behind the first items of a module of which nothing is broken.
use Rattle.std.proofs.Common.{ℕ, zero, suc, ◌≡◌, ◌⊎◌, ◌<◌, ◌≤◌, ◌+◌, ◌-◌, inl, inr, refl, sym, subst, ◌∙◌, ap, arith, List, [], ◌∷◌, ◌++◌, length, take, get_or, slice_get, Some, None, Bool, true, false, not, if◌then◌else◌, ◌==◌, ◌&&◌, take_all}
use Rattle.std.specs.List.{list_any, count_by}
use Rattle.std.proofs.lemmas.Bool.{cases_Bool, cases_lt, eqb-true, or_right}
use Rattle.std.proofs.lemmas.List.{take_more}
use Rattle.std.proofs.lemmas.Option.{slice_get-get_or, slice_get_within, same_Some}
use Rattle.dx_base.specs.First.{IsSound, IsUnbroken}
use Rattle.bitstream_spelling.specs.Framed.{IsFramed, IsInBlock, open_after, open_behind}
use Rattle.bitstream_spelling.specs.declared.item.Item.{Item}
use Rattle.bitstream_spelling.specs.declared.item.Item.TheVariants.{Enter, Record, Skip, End}
use Rattle.llvm_items.specs.Sites.{Site, sites, enters, enters_inside, ends_module, is_record_of, bit_at}
use Rattle.llvm_items.proofs.SiteLaws.{take-sites, site-at, site-item, site_of, sites_more, open_more}
use Rattle.llvm_values.specs.Values.{since}
use Rattle.llvm_values.specs.Rules.{is_instruction as is_counted}
use Rattle.llvm_bodies.specs.Bodies.{known, ended}
use Rattle.llvm_bodies.specs.Rules.{Breaks, m11}
use Rattle.llvm_bodies.proofs.ListLaws.{count_more}
use Rattle.llvm_bodies.specs.declared.facts.ModuleFacts.{ModuleFacts}
use Rattle.llvm_records.specs.Reading.{facts_in, Broken as BreaksRecords}
use Rattle.entry_read.proofs.Shapes.{Shape, none_open, one_open, two_open, in_body, in_pool}
use Rattle.entry_read.proofs.Lines.{IsAbove}
use Rattle.entry_read.proofs.Walk.{State, Outside, AllOf, Next, step}

taken_at : {A : Type 0} (n : ℕ) (xs : List A) (i : ℕ) (x : A) → slice_get (take n xs) i ≡ Some x → (i < n) × (slice_get xs i ≡ Some x)
taken_at zero xs i x e = cc
taken_at (suc n) [] i x e = cc
taken_at (suc n) (y ∷ xs) zero x e = (omega arith, e)
taken_at (suc n) (y ∷ xs) (suc i) x e = let r = taken_at n xs i x e in (omega (arith, r.0), r.1)

-- the outermost open block
abbrev bottom : List ℕ → ℕ
bottom [] = 0
bottom (x ∷ []) = x
bottom (x ∷ y ∷ xs) = bottom (y ∷ xs)

bottom_more : (a : List ℕ) (x : Item) → IsInBlock a → IsInBlock (open_after a x) → bottom (open_after a x) ≡ bottom a
bottom_more a (Record c f n b) g h = refl
bottom_more a (Skip i w b) g h = refl
bottom_more [] (Enter i w b) g h = absurd g
bottom_more (y ∷ ys) (Enter i w b) g h = refl
bottom_more [] (End b) g h = absurd g
bottom_more (y ∷ []) (End b) g h = absurd h
bottom_more (y ∷ z ∷ zs) (End b) g h = refl

-- an item behind which no block is open ends the last one
last_open : (a : List ℕ) (x : Item) → IsInBlock a → open_after a x ≡ [] → bottom a ≡ 8 → ends_module (record { around = a; item = x }) ≡ true
last_open [] x g h e = absurd g
last_open (y ∷ ys) (Record c f n b) g h e = cc
last_open (y ∷ ys) (Skip i w b) g h e = cc
last_open (y ∷ ys) (Enter i w b) g h e = cc
last_open (y ∷ []) (End b) g h e = ap (λ n. ends_module (record { around = n ∷ []; item = End b })) e
last_open (y ∷ z ∷ zs) (End b) g h e = cc

some_block : (a : List ℕ) → (a ≡ [] → ⊥) → IsInBlock a
some_block [] f = absurd (f refl)
some_block (x ∷ xs) f = tt

outside_at : (m : ModuleFacts) (fs : List ℕ) {a : List ℕ} (sh : Shape a) (front : List Site) → a ≡ [] → State m fs sh front → Outside m fs front
outside_at m fs none_open front e st = st
outside_at m fs (one_open x f) front e st = st
outside_at m fs (two_open x f g) front e st = st
outside_at m fs in_body front e st = cc
outside_at m fs in_pool front e st = cc

module _ (is : List Item) (fs : List ℕ) (framed : IsFramed is fs) (sound : IsSound (BreaksRecords is fs)) where
  abbrev m : ModuleFacts
  m = facts_in is fs

  abbrev Reached : List ℕ → List Site → Type 0
  Reached a ss = ((sh : Shape a) × State m fs sh ss) × AllOf m fs (ended ss)

  -- the site of an item, at which nothing is broken
  module _ (n : ℕ) (x : Item) (at : slice_get is n ≡ Some x) where
    here : slice_get (sites is) n ≡ Some (site_of (take n is) x)
    here = site-at [] n is x at

    pub unbroken : IsUnbroken (Breaks m fs) (sites (take n is)) (site_of (take n is) x)
    unbroken = record {
      none = λ rule b. sound.none rule (bit_at (site_of (take n is) x))
          (inr (record { index = n; place = site_of (take n is) x; stands = here; at_bit = refl; breaks = subst (λ (ss : List Site). Breaks m fs ss (site_of (take n is) x) rule) (sym (take-sites [] n is)) b }));
    }

    sixth : (list_any is_counted (since (enters 12) (sites (take n is))) && enters_inside 12 11 (site_of (take n is) x)) ≡ false
    sixth = elim (cases_Bool (list_any is_counted (since (enters 12) (sites (take n is))) && enters_inside 12 11 (site_of (take n is) x))) [
      | inr f ↦ f
      | inl t ↦ absurd (sound.none 6 (bit_at (site_of (take n is) x)) (inl (record {
        index = n;
        place = site_of (take n is) x;
        stands = here;
        at_bit = refl;
        breaks = or_right _ _ (ap (λ (ss : List Site). list_any is_counted (since (enters 12) ss) && enters_inside 12 11 (site_of (take n is) x)) (take-sites [] n is) ∙ t);
      })))
    ]

    above : IsAbove (sites (take n is)) (site_of (take n is) x)
    above = record { above = λ i t e. (let g = taken_at n is i t.item (site-item [] i (take n is) t e) in framed.rises i n t.item x g.0 g.1 at) }

    moved : Next m fs (sites (take n is)) (open_behind [] (take n is)) x → Reached (open_behind [] (take n is ++ x ∷ [])) (sites (take n is ++ x ∷ []))
    moved r = subst (λ (a : List ℕ). Reached a (sites (take n is ++ x ∷ []))) (sym (open_more (take n is) x)) (subst (λ (ss : List Site). Reached (open_after (open_behind [] (take n is)) x) ss) (sym (sites_more (take n is) x)) r)

  pub reached : (n : ℕ) → n ≤ length is → Reached (open_behind [] (take n is)) (sites (take n is))
  reached zero h = ((none_open, record { count = refl }), λ k before at. cc)
  reached (suc n) h =
      let x = get_or is n (End 0) in
      let lt : n < length is = omega (arith, h) in
      let at : slice_get is n ≡ Some x = slice_get-get_or is n (End 0) lt in
      let r = reached n (omega (arith, h)) in
      let one : suc n ≡ n + 1 = omega arith in
      let cut : take (suc n) is ≡ take n is ++ x ∷ [] = ap (λ k. take k is) one ∙ take_more is n (End 0) lt in
      subst (λ (l : List Item). Reached (open_behind [] l) (sites l)) (sym cut)
      (moved n x at (step m fs (sites (take n is)) x r.0.0 r.0.1 (framed.stands n x at) (unbroken n x at) (sixth n x at) (above n x at) r.1))

  whole : take (length is) is ≡ is
  whole = take_all (length is) is (omega arith)

  pub all_ended : AllOf m fs (ended (sites is))
  all_ended = subst (λ (l : List Item). AllOf m fs (ended (sites l))) whole (reached (length is) (omega arith)).1

  -- as many bodies have ended as were begun
  pub all_begun : count_by (enters 12) (sites is) ≡ length (ended (sites is))
  all_begun =
      let r = (reached (length is) (omega arith)).0 in
      (subst (λ (l : List Item). Outside m fs (sites l)) whole (outside_at m fs r.0 (sites (take (length is) is)) (ap (open_behind []) whole ∙ framed.ends) r.1)).count

  -- ---- the end of the module

  first_inside : bottom (open_behind [] (take (framed.at + 1) is)) ≡ 8
  first_inside =
      let b = framed.module_block in
      let lt = slice_get_within is framed.at (Enter 8 b.width b.bit) b.enters in
      let same : get_or is framed.at (End 0) ≡ Enter 8 b.width b.bit = same_Some _ _ (sym (slice_get-get_or is framed.at (End 0) lt) ∙ b.enters) in
      let cut : take (framed.at + 1) is ≡ take framed.at is ++ Enter 8 b.width b.bit ∷ [] = take_more is framed.at (End 0) lt ∙ ap (λ (x : Item). take framed.at is ++ x ∷ []) same in
      ap (λ (l : List Item). bottom (open_behind [] l)) cut ∙ ap bottom (open_more (take framed.at is) (Enter 8 b.width b.bit)) ∙ ap (λ (a : List ℕ). bottom (8 ∷ a)) b.outside

  deep : (k : ℕ) → framed.at + 1 + k < length is → bottom (open_behind [] (take (framed.at + 1 + k) is)) ≡ 8
  deep zero h = let e : framed.at + 1 + 0 ≡ framed.at + 1 = omega arith in ap (λ n. bottom (open_behind [] (take n is))) e ∙ first_inside
  deep (suc k) h =
      let n = framed.at + 1 + k in
      let x = get_or is n (End 0) in
      let e : framed.at + 1 + suc k ≡ n + 1 = omega arith in
      let lt : n < length is = omega (arith, h) in
      let b = framed.module_block in
      let cut : take (n + 1) is ≡ take n is ++ x ∷ [] = take_more is n (End 0) lt in
      let open_now : open_behind [] (take (n + 1) is) ≡ open_after (open_behind [] (take n is)) x = ap (open_behind []) cut ∙ open_more (take n is) x in
      let now : IsInBlock (open_after (open_behind [] (take n is)) x) = subst IsInBlock open_now (b.inside (n + 1) (omega arith) (omega (arith, h))) in
      ap (λ i. bottom (open_behind [] (take i is))) e ∙ ap bottom open_now ∙ bottom_more (open_behind [] (take n is)) x (b.inside n (omega arith) lt) now ∙ deep k lt

  -- the last item ends the module
  record HasEnd : Type 0 where
    n : ℕ
    x : Item
    at : slice_get is n ≡ Some x
    last : n + 1 ≡ length is
    ends_it : ends_module (site_of (take n is) x) ≡ true

  the_end : HasEnd
  the_end =
      let b = framed.module_block in
      let lt = slice_get_within is framed.at (Enter 8 b.width b.bit) b.enters in
      let n = length is - 1 in
      let x = get_or is n (End 0) in
      let within : n < length is = omega (arith, lt) in
      let next : n + 1 ≡ length is = omega (arith, lt) in
      let at : slice_get is n ≡ Some x = slice_get-get_or is n (End 0) within in
      let cut : is ≡ take n is ++ x ∷ [] = sym whole ∙ ap (λ k. take k is) (sym next) ∙ take_more is n (End 0) within in
      let none : open_after (open_behind [] (take n is)) x ≡ [] = sym (open_more (take n is) x) ∙ ap (open_behind []) (sym cut) ∙ framed.ends in
      record {
        n = n;
        x = x;
        at = at;
        last = next;
        ends_it = elim (order framed.at n) [
          | inl before ↦ (
              let k = n - (framed.at + 1) in
              let same : framed.at + 1 + k ≡ n = omega (arith, before) in
              last_open (open_behind [] (take n is)) x (b.inside n before within) none
              (ap (λ i. bottom (open_behind [] (take i is))) (sym same) ∙ deep k (omega (arith, same, within))))
          | inr behind ↦ (
              let same : n ≡ framed.at = omega (arith, behind, lt) in
              let enter : x ≡ Enter 8 b.width b.bit = same_Some _ _ (sym at ∙ ap (slice_get is) same ∙ b.enters) in
              absurd (cons_nil 8 (open_behind [] (take n is)) (sym (ap (open_after (open_behind [] (take n is))) enter) ∙ none)))
        ];
      } where
        cons_nil : (y : ℕ) (ys : List ℕ) → y ∷ ys ≡ [] → ⊥
        cons_nil y ys e = cc

        order : (i j : ℕ) → (i < j) ⊎ (j ≤ i)
        order i j = cases_lt i j

  -- there are as many bodies as functions that have one
  pub body_count : length (ended (sites is)) ≡ length m.arguments
  body_count =
      let e = the_end in
      let s = site_of (take e.n is) e.x in
      let clear = unbroken e.n e.x e.at in
      let right : (not (count_by (enters 12) (sites (take e.n is)) == length m.arguments)) ≡ false = elim (cases_Bool (not (count_by (enters 12) (sites (take e.n is)) == length m.arguments))) [
        | inr f ↦ f
        | inl t ↦ absurd (clear.none 11 (record { parts = None; says = λ h. absurd (no_record e.x (open_behind [] (take e.n is)) e.ends_it h); breaks = ap (λ b. b && m11 m (known m fs (sites (take e.n is)))) e.ends_it ∙ t }))
      ] in
      let lt = slice_get_within is e.n e.x e.at in
      let cut : is ≡ take e.n is ++ e.x ∷ [] = sym whole ∙ ap (λ k. take k is) (sym e.last) ∙ take_more is e.n (End 0) lt ∙ ap (λ (z : Item). take e.n is ++ z ∷ []) (same_Some _ _ (sym (slice_get-get_or is e.n (End 0) lt) ∙ e.at)) in
      let sum : count_by (enters 12) (sites is) ≡ count_by (enters 12) (sites (take e.n is)) =
      ap (λ (l : List Item). count_by (enters 12) (sites l)) cut ∙ ap (count_by (enters 12)) (sites_more (take e.n is) e.x) ∙ count_more (enters 12) (sites (take e.n is)) s
      ∙ ap (λ b. if b then count_by (enters 12) (sites (take e.n is)) + 1 else count_by (enters 12) (sites (take e.n is))) (no_entry e.x (open_behind [] (take e.n is)) e.ends_it) in
      sym all_begun ∙ sum ∙ eqb-true _ _ (negated (count_by (enters 12) (sites (take e.n is)) == length m.arguments) right) where
        negated : (b : Bool) → not b ≡ false → b ≡ true
        negated true e = refl
        negated false e = cc

        no_record : (x : Item) (a : List ℕ) → ends_module (record { around = a; item = x }) ≡ true → is_record_of 12 (record { around = a; item = x }) ≡ true → ⊥
        no_record (Record c f n b) a e h = cc
        no_record (Skip i w b) a e h = cc
        no_record (Enter i w b) a e h = cc
        no_record (End b) a e h = cc

        no_entry : (x : Item) (a : List ℕ) → ends_module (record { around = a; item = x }) ≡ true → enters 12 (record { around = a; item = x }) ≡ false
        no_entry (Record c f n b) a e = refl
        no_entry (Skip i w b) a e = refl
        no_entry (Enter i w b) a e = cc
        no_entry (End b) a e = refl
