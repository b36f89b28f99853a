-- What is known behind the sites of a module, one by one.
use Rattle.std.proofs.Common.{ℕ, ◌≡◌, ◌+◌, inl, inr, refl, sym, subst, ◌∙◌, ap, arith, List, [], ◌∷◌, ◌++◌, length, slice_get, Some, None, Bool, true, false, not, nat_lt, if◌then◌else◌, ◌==◌, ◌&&◌, ◌||◌}
use Rattle.std.specs.List.{list_any, count_by}
use Rattle.std.proofs.lemmas.Bool.{cases_Bool, both_ways, eqb-true, ltb-false, lt-ltb}
use Rattle.std.proofs.lemmas.List.{length_push, nil_from_length}
use Rattle.dx_base.specs.First.{IsUnbroken}
use Rattle.bitstream_spelling.specs.Spelling.{reads}
use Rattle.bitstream_spelling.specs.Framed.{StandsIn, open_after}
use Rattle.bitstream_spelling.specs.declared.item.Item.{Item}
use Rattle.bitstream_spelling.specs.declared.item.Item.TheVariants.{Enter, Record, Skip, End}
use Rattle.llvm_items.specs.Sites.{Site, enters, ends, enters_inside, is_within, is_record_of, code_of, fields_of, bit_at}
use Rattle.llvm_values.specs.Values.{since}
use Rattle.llvm_values.specs.Rules.{is_instruction as is_counted}
use Rattle.llvm_values.proofs.Listing.{since_more}
use Rattle.llvm_bodies.specs.Lists.{Each, none, more, Place}
use Rattle.llvm_bodies.specs.Bodies.{known, is_instruction, is_line, is_constant, constant_at, IsLine, lines_in, constants_in, ended}
use Rattle.llvm_bodies.specs.Rules.{m10, Breaks}
use Rattle.llvm_bodies.specs.Reading.{begun_at, record_after, constant_after}
use Rattle.llvm_bodies.proofs.ListLaws.{count_more, any_more}
use Rattle.llvm_bodies.proofs.KnownLaws.{known_more, lines_more, ended_more, constants_more}
use Rattle.llvm_bodies.specs.declared.facts.ModuleFacts.{ModuleFacts}
use Rattle.llvm_bodies.specs.declared.progress.Progress.{Progress}
use Rattle.llvm_bodies.specs.declared.line.Line.{Line}
use Rattle.entry_read.proofs.Shapes.{Shape, none_open, one_open, two_open, in_body, in_pool, only_module, no_blocks}
use Rattle.entry_read.proofs.Lines.{IsAbove, Holds, line_more, record_more, constant_more, other_more, begins, push_at}

-- ---- words

and_false : (b : Bool) → (b && false) ≡ false
and_false true = refl
and_false false = refl

none_left : {A : Type 0} (b : Bool) → b ≡ true → b ≡ false → A
none_left b e f = absurd (both_ways b f e)

-- a list that is as another one with one item more
record Split {A B : Type 0} (R : A → B → Type 0) (xs : List A) (a : A) (zs : List B) : Type 0 where
  ys : List B
  b : B
  cut : zs ≡ ys ++ b ∷ []
  front : Each R xs ys
  last : R a b

each_split : {A B : Type 0} (R : A → B → Type 0) (xs : List A) (a : A) (zs : List B) → Each R (xs ++ a ∷ []) zs → Split R xs a zs
each_split R [] a (b ∷ []) (more r none) = record { ys = []; b = b; cut = refl; front = none; last = r }
each_split R [] a (b ∷ c ∷ zs) (more r e) = elim e [ ]
each_split R [] a [] e = elim e [ ]
each_split R (x ∷ xs) a [] e = elim e [ ]
each_split R (x ∷ xs) a (z ∷ zs) (more r e) = let s = each_split R xs a zs e in record { ys = z ∷ s.ys; b = s.b; cut = ap (λ l. z ∷ l) s.cut; front = more r s.front; last = s.last }

each_nil : {A B : Type 0} (R : A → B → Type 0) (zs : List B) → Each R [] zs → zs ≡ []
each_nil R [] e = refl
each_nil R (z ∷ zs) e = elim e [ ]

not_body : (x : ℕ) → (x == 12) ≡ false → is_within 12 (x ∷ 8 ∷ []) ≡ false
not_body x f = rw f refl

same_counted : (a b c : Bool) → (if a then false else if b then false else if c then false else true) ≡ not (a || b || c)
same_counted true b c = refl
same_counted false true c = refl
same_counted false false true = refl
same_counted false false false = refl

or_some : (b : Bool) (n k : ℕ) → b ≡ nat_lt 0 n → k ≡ n + 1 → (b || true) ≡ nat_lt 0 k
or_some true n k e h = sym (lt-ltb 0 k (omega (arith, h)))
or_some false n k e h = sym (lt-ltb 0 k (omega (arith, h)))

or_none : (b c d : Bool) → c ≡ false → b ≡ d → (b || c) ≡ d
or_none true c d e f = f
or_none false c d e f = e ∙ f

module _ (m : ModuleFacts) (fs : List ℕ) where
  -- outside any body
  pub record Outside (front : List Site) : Type 0 where
    pub count : count_by (enters 12) front ≡ length (ended front)

  -- in a body
  pub record Inside (front : List Site) : Type 0 where
    pub all : (ls : List Line) → Each (IsLine m fs) (lines_in front) ls → Holds m fs (known m fs front) (length (constants_in fs front)) front ls
    pub begun : (ls : List Line) → Each (IsLine m fs) (lines_in front) ls → list_any is_counted (since (enters 12) front) ≡ nat_lt 0 (length ls)
    pub count : count_by (enters 12) front ≡ length (ended front) + 1

  -- in its constants, before which no line stands
  pub record InPool (front : List Site) : Type 0 where
    pub inside : Inside front
    pub no_line : (ls : List Line) → Each (IsLine m fs) (lines_in front) ls → ls ≡ []

  abbrev pub State : {a : List ℕ} → Shape a → List Site → Type 0
  State none_open front = Outside front
  State (one_open x e) front = Outside front
  State (two_open x e f) front = Outside front
  State in_body front = Inside front
  State in_pool front = InPool front

  -- a body that has ended
  pub record HasEnded (k : ℕ) (before : List Site) : Type 0 where
    pub inside : Inside before
    pub finished : m10 (known m fs before) ≡ false
    pub count : count_by (enters 12) before ≡ k + 1

  abbrev pub AllOf : List (List Site) → Type 0
  AllOf bodies = (k : ℕ) (before : List Site) → slice_get bodies k ≡ Some before → HasEnded k before

  held : (p q : Progress) (c d : ℕ) (f : List Site) (ls ks : List Line) → p ≡ q → c ≡ d → ls ≡ ks → Holds m fs p c f ls → Holds m fs q d f ks
  held p q c d f ls ks i j k h = subst (λ (l : List Line). Holds m fs q d f l) k (subst (λ (n : ℕ). Holds m fs q n f ls) j (subst (λ (r : Progress). Holds m fs r c f ls) i h))

  -- ---- a site more

  module _ (front : List Site) (s : Site) where
    abbrev then_ : List Site
    then_ = front ++ s ∷ []

    abbrev pl : Place Site
    pl = record { before = front; item = s }

    count_same : enters 12 s ≡ false → count_by (enters 12) then_ ≡ count_by (enters 12) front
    count_same e = count_more (enters 12) front s ∙ ap (λ b. if b then count_by (enters 12) front + 1 else count_by (enters 12) front) e

    list_same : ends 12 s ≡ false → ended then_ ≡ ended front
    list_same f = ended_more front s ∙ ap (λ b. if b then ended front ++ front ∷ [] else ended front) f

    outside_same : enters 12 s ≡ false → ends 12 s ≡ false → Outside front → Outside then_
    outside_same e f o = record { count = count_same e ∙ o.count ∙ ap length (sym (list_same f)) }

    ended_same : ends 12 s ≡ false → AllOf (ended front) → AllOf (ended then_)
    ended_same f o = subst AllOf (sym (list_same f)) o

    ended_push : ends 12 s ≡ true → HasEnded (length (ended front)) front → AllOf (ended front) → AllOf (ended then_)
    ended_push f h o = subst AllOf (sym (ended_more front s ∙ ap (λ b. if b then ended front ++ front ∷ [] else ended front) f)) pushed where
      pushed : AllOf (ended front ++ front ∷ [])
      pushed k before at = elim (push_at (ended front) front before k at) [
        | inl q ↦ o k before q.1
        | inr q ↦ subst (λ (z : List Site). HasEnded k z) q.1 (subst (λ (n : ℕ). HasEnded n front) (sym q.0) h)
      ]

    begun_same : enters 12 s ≡ false → list_any is_counted (since (enters 12) then_) ≡ (list_any is_counted (since (enters 12) front) || is_counted s)
    begun_same e = ap (list_any is_counted) (since_more (enters 12) front s false e) ∙ any_more is_counted (since (enters 12) front) s

    lines_same : enters 12 s ≡ false → ends 12 s ≡ false → lines_in then_ ≡ (if is_line s then lines_in front ++ pl ∷ [] else lines_in front)
    lines_same e f = lines_more front s ∙ ap (λ b. if b || ends 12 s then [] else if is_line s then lines_in front ++ pl ∷ [] else lines_in front) e ∙ ap (λ b. if b then [] else if is_line s then lines_in front ++ pl ∷ [] else lines_in front) f

    pool_same : enters 12 s ≡ false → ends 12 s ≡ false → is_constant s ≡ false → constants_in fs then_ ≡ constants_in fs front
    pool_same e f c =
        let new = constant_at fs pl in
        constants_more fs front s ∙ ap (λ b. if b || ends 12 s then [] else if is_constant s then constants_in fs front ++ new ∷ [] else constants_in fs front) e
        ∙ ap (λ b. if b then [] else if is_constant s then constants_in fs front ++ new ∷ [] else constants_in fs front) f
        ∙ ap (λ b. if b then constants_in fs front ++ new ∷ [] else constants_in fs front) c

    -- nothing of a body
    module _ (e : enters 12 s ≡ false) (f : ends 12 s ≡ false) (r : is_record_of 12 s ≡ false) where
      quiet_lines : lines_in then_ ≡ lines_in front
      quiet_lines = lines_same e f ∙ ap (λ b. if b && is_instruction (code_of s.item) then lines_in front ++ pl ∷ [] else lines_in front) r

      quiet_begun : list_any is_counted (since (enters 12) then_) ≡ list_any is_counted (since (enters 12) front)
      quiet_begun = begun_same e ∙ or_none (list_any is_counted (since (enters 12) front)) (is_counted s) (list_any is_counted (since (enters 12) front))
          (ap (λ b. b && not (code_of s.item == 1 || code_of s.item == 33 || code_of s.item == 35)) r) refl

      after_same : is_constant s ≡ false → known m fs then_ ≡ known m fs front
      after_same c =
          let p = known m fs front in
          known_more m fs front s
          ∙ ap (λ b. if b then begun_at m p (bit_at s) else if is_record_of 12 s then record_after m p (code_of s.item) (fields_of fs s.item) else if is_constant s then constant_after p else p) e
          ∙ ap (λ b. if b then record_after m p (code_of s.item) (fields_of fs s.item) else if is_constant s then constant_after p else p) r
          ∙ ap (λ b. if b then constant_after p else p) c

      after_pool : is_constant s ≡ true → known m fs then_ ≡ constant_after (known m fs front)
      after_pool c =
          let p = known m fs front in
          known_more m fs front s
          ∙ ap (λ b. if b then begun_at m p (bit_at s) else if is_record_of 12 s then record_after m p (code_of s.item) (fields_of fs s.item) else if is_constant s then constant_after p else p) e
          ∙ ap (λ b. if b then record_after m p (code_of s.item) (fields_of fs s.item) else if is_constant s then constant_after p else p) r
          ∙ ap (λ b. if b then constant_after p else p) c

      quiet_count : Inside front → count_by (enters 12) then_ ≡ length (ended then_) + 1
      quiet_count i = count_same e ∙ i.count ∙ ap (λ bs. length bs + 1) (sym (list_same f))

      inside_same : is_constant s ≡ false → Inside front → Inside then_
      inside_same c i = record {
        all = λ ls each. held (known m fs front) (known m fs then_) (length (constants_in fs front)) (length (constants_in fs then_)) then_ ls ls (sym (after_same c)) (ap length (sym (pool_same e f c))) refl
            (other_more m fs (known m fs front) (length (constants_in fs front)) front s ls (i.all ls (subst (λ ps. Each (IsLine m fs) ps ls) quiet_lines each)));
        begun = λ ls each. quiet_begun ∙ i.begun ls (subst (λ ps. Each (IsLine m fs) ps ls) quiet_lines each);
        count = quiet_count i;
      }

      no_line_same : InPool front → (ls : List Line) → Each (IsLine m fs) (lines_in then_) ls → ls ≡ []
      no_line_same i ls each = i.no_line ls (subst (λ ps. Each (IsLine m fs) ps ls) quiet_lines each)

      -- a constant
      inside_constant : is_constant s ≡ true → InPool front → Inside then_
      inside_constant c i = record {
        all = λ ls each. (
            let old = subst (λ ps. Each (IsLine m fs) ps ls) quiet_lines each in
            let empty = i.no_line ls old in
            held (constant_after (known m fs front)) (known m fs then_) (length (constants_in fs front) + 1) (length (constants_in fs then_)) then_ [] ls (sym (after_pool c)) (sym longer) (sym empty)
            (constant_more m fs (known m fs front) (length (constants_in fs front)) front s (subst (λ (l : List Line). Holds m fs (known m fs front) (length (constants_in fs front)) front l) empty (i.inside.all ls old))));
        begun = λ ls each. quiet_begun ∙ i.inside.begun ls (subst (λ ps. Each (IsLine m fs) ps ls) quiet_lines each);
        count = quiet_count i.inside;
      } where
        longer : length (constants_in fs then_) ≡ length (constants_in fs front) + 1
        longer =
            let new = constant_at fs pl in
            ap length (constants_more fs front s ∙ ap (λ b. if b || ends 12 s then [] else if is_constant s then constants_in fs front ++ new ∷ [] else constants_in fs front) e
            ∙ ap (λ b. if b then [] else if is_constant s then constants_in fs front ++ new ∷ [] else constants_in fs front) f
            ∙ ap (λ b. if b then constants_in fs front ++ new ∷ [] else constants_in fs front) c)
            ∙ length_push (constants_in fs front) new

  -- a record of a body
  module _ (front : List Site) (code first count bit : ℕ) (clear : IsUnbroken (Breaks m fs) front (record { around = 12 ∷ 8 ∷ []; item = Record code first count bit }))
      (above : IsAbove front (record { around = 12 ∷ 8 ∷ []; item = Record code first count bit })) (i : Inside front) where
    abbrev s : Site
    s = record { around = 12 ∷ 8 ∷ []; item = Record code first count bit }

    abbrev new : Progress
    new = record_after m (known m fs front) code (fields_of fs (Record code first count bit))

    counted : is_counted s ≡ is_instruction code
    counted = sym (same_counted (code == 1) (code == 33) (code == 35))

    inside_line : is_instruction code ≡ true → Inside (front ++ s ∷ [])
    inside_line ins = record { all = all_now; begun = begun_now; count = quiet_count_of } where
      split_at : (ls : List Line) → Each (IsLine m fs) (lines_in (front ++ s ∷ [])) ls → Split (IsLine m fs) (lines_in front) (record { before = front; item = s }) ls
      split_at ls each = each_split (IsLine m fs) (lines_in front) (record { before = front; item = s }) ls
          (subst (λ ps. Each (IsLine m fs) ps ls) (lines_more front s ∙ ap (λ b. if b then lines_in front ++ record { before = front; item = s } ∷ [] else lines_in front) ins) each)

      all_now : (ls : List Line) → Each (IsLine m fs) (lines_in (front ++ s ∷ [])) ls → Holds m fs (known m fs (front ++ s ∷ [])) (length (constants_in fs (front ++ s ∷ []))) (front ++ s ∷ []) ls
      all_now ls each =
          let w = split_at ls each in
          held new (known m fs (front ++ s ∷ [])) (length (constants_in fs front)) (length (constants_in fs (front ++ s ∷ []))) (front ++ s ∷ []) (w.ys ++ w.b ∷ []) ls
          (sym (known_more m fs front s)) (ap length (sym (constants_more fs front s))) (sym w.cut)
          (line_more m fs front s w.ys w.b (length (constants_in fs front)) (i.all w.ys w.front) w.last clear refl ins above)

      begun_now : (ls : List Line) → Each (IsLine m fs) (lines_in (front ++ s ∷ [])) ls → list_any is_counted (since (enters 12) (front ++ s ∷ [])) ≡ nat_lt 0 (length ls)
      begun_now ls each =
          let w = split_at ls each in
          begun_same front s refl ∙ ap (λ b. list_any is_counted (since (enters 12) front) || b) (counted ∙ ins)
          ∙ or_some (list_any is_counted (since (enters 12) front)) (length w.ys) (length ls) (i.begun w.ys w.front) (ap length w.cut ∙ length_push w.ys w.b)

      quiet_count_of : count_by (enters 12) (front ++ s ∷ []) ≡ length (ended (front ++ s ∷ [])) + 1
      quiet_count_of = count_same front s refl ∙ i.count ∙ ap (λ bs. length bs + 1) (sym (list_same front s refl))

    inside_note : is_instruction code ≡ false → Inside (front ++ s ∷ [])
    inside_note ins = record { all = all_now; begun = begun_now; count = count_same front s refl ∙ i.count ∙ ap (λ bs. length bs + 1) (sym (list_same front s refl)) } where
      lines_now : lines_in (front ++ s ∷ []) ≡ lines_in front
      lines_now = lines_more front s ∙ ap (λ b. if b then lines_in front ++ record { before = front; item = s } ∷ [] else lines_in front) ins

      all_now : (ls : List Line) → Each (IsLine m fs) (lines_in (front ++ s ∷ [])) ls → Holds m fs (known m fs (front ++ s ∷ [])) (length (constants_in fs (front ++ s ∷ []))) (front ++ s ∷ []) ls
      all_now ls each =
          held new (known m fs (front ++ s ∷ [])) (length (constants_in fs front)) (length (constants_in fs (front ++ s ∷ []))) (front ++ s ∷ []) ls ls
          (sym (known_more m fs front s)) (ap length (sym (constants_more fs front s))) refl
          (record_more m fs front s ls (length (constants_in fs front)) (i.all ls (subst (λ ps. Each (IsLine m fs) ps ls) lines_now each)) clear refl ins)

      begun_now : (ls : List Line) → Each (IsLine m fs) (lines_in (front ++ s ∷ [])) ls → list_any is_counted (since (enters 12) (front ++ s ∷ [])) ≡ nat_lt 0 (length ls)
      begun_now ls each =
          begun_same front s refl ∙ or_none (list_any is_counted (since (enters 12) front)) (is_counted s) (nat_lt 0 (length ls)) (counted ∙ ins) (i.begun ls (subst (λ ps. Each (IsLine m fs) ps ls) lines_now each))

    inside_record : Inside (front ++ s ∷ [])
    inside_record = elim (cases_Bool (is_instruction code)) [ inl t ↦ inside_line t | inr f ↦ inside_note f ]

  -- a record of the constants of a body
  module _ (front : List Site) (code first count bit : ℕ) (i : InPool front) where
    abbrev t : Site
    t = record { around = 11 ∷ 12 ∷ 8 ∷ []; item = Record code first count bit }

    pool_record : InPool (front ++ t ∷ [])
    pool_record = record {
      inside = elim (cases_Bool (is_constant t)) [ inl c ↦ inside_constant front t refl refl refl c i | inr c ↦ inside_same front t refl refl refl c i.inside ];
      no_line = no_line_same front t refl refl refl i;
    }

  -- the entry of a body
  inside_first : (front : List Site) (width bit : ℕ) → Outside front → Inside (front ++ record { around = 8 ∷ []; item = Enter 12 width bit } ∷ [])
  inside_first front width bit o = record { all = all_now; begun = begun_now; count = count_now } where
    all_now : (ls : List Line) → Each (IsLine m fs) (lines_in (front ++ record { around = 8 ∷ []; item = Enter 12 width bit } ∷ [])) ls
        → Holds m fs (known m fs (front ++ record { around = 8 ∷ []; item = Enter 12 width bit } ∷ [])) (length (constants_in fs (front ++ record { around = 8 ∷ []; item = Enter 12 width bit } ∷ [])))
        (front ++ record { around = 8 ∷ []; item = Enter 12 width bit } ∷ []) ls
    all_now ls each =
        let now : List Site = front ++ record { around = 8 ∷ []; item = Enter 12 width bit } ∷ [] in
        let empty = each_nil (IsLine m fs) ls (subst (λ ps. Each (IsLine m fs) ps ls) (lines_more front (record { around = 8 ∷ []; item = Enter 12 width bit })) each) in
        held (begun_at m (known m fs front) bit) (known m fs now) 0 (length (constants_in fs now)) now [] ls
        (sym (known_more m fs front (record { around = 8 ∷ []; item = Enter 12 width bit }))) (ap length (sym (constants_more fs front (record { around = 8 ∷ []; item = Enter 12 width bit })))) (sym empty)
        (begins m fs (known m fs front) bit now)

    begun_now : (ls : List Line) → Each (IsLine m fs) (lines_in (front ++ record { around = 8 ∷ []; item = Enter 12 width bit } ∷ [])) ls
        → list_any is_counted (since (enters 12) (front ++ record { around = 8 ∷ []; item = Enter 12 width bit } ∷ [])) ≡ nat_lt 0 (length ls)
    begun_now ls each =
        let empty = each_nil (IsLine m fs) ls (subst (λ ps. Each (IsLine m fs) ps ls) (lines_more front (record { around = 8 ∷ []; item = Enter 12 width bit })) each) in
        ap (list_any is_counted) (since_more (enters 12) front (record { around = 8 ∷ []; item = Enter 12 width bit }) true refl) ∙ ap (λ (l : List Line). nat_lt 0 (length l)) (sym empty)

    count_now : count_by (enters 12) (front ++ record { around = 8 ∷ []; item = Enter 12 width bit } ∷ []) ≡ length (ended (front ++ record { around = 8 ∷ []; item = Enter 12 width bit } ∷ [])) + 1
    count_now =
        count_more (enters 12) front (record { around = 8 ∷ []; item = Enter 12 width bit }) ∙ ap (λ n. n + 1) o.count
        ∙ ap (λ bs. length bs + 1) (sym (list_same front (record { around = 8 ∷ []; item = Enter 12 width bit }) refl))

  -- the end of a body
  outside_end : (front : List Site) (bit : ℕ) → Inside front → Outside (front ++ record { around = 12 ∷ 8 ∷ []; item = End bit } ∷ [])
  outside_end front bit i = record {
    count = count_same front (record { around = 12 ∷ 8 ∷ []; item = End bit }) refl ∙ i.count
        ∙ sym (ap length (ended_more front (record { around = 12 ∷ 8 ∷ []; item = End bit })) ∙ length_push (ended front) front);
  }

  finished_at : (front : List Site) (bit : ℕ) → IsUnbroken (Breaks m fs) front (record { around = 12 ∷ 8 ∷ []; item = End bit }) → m10 (known m fs front) ≡ false
  finished_at front bit clear = elim (cases_Bool (m10 (known m fs front))) [
    | inl t ↦ absurd (clear.none 10 (record { parts = None; says = λ h. absurd (both_ways false refl h); breaks = t }))
    | inr f ↦ f
  ]

  -- the entry of the constants of a body
  pool_first : (front : List Site) (width bit : ℕ) → (list_any is_counted (since (enters 12) front) && true) ≡ false → Inside front → InPool (front ++ record { around = 12 ∷ 8 ∷ []; item = Enter 11 width bit } ∷ [])
  pool_first front width bit six i = record {
    inside = inside_same front (record { around = 12 ∷ 8 ∷ []; item = Enter 11 width bit }) refl refl refl refl i;
    no_line = λ ls each. (
        let old = subst (λ ps. Each (IsLine m fs) ps ls) (quiet_lines front (record { around = 12 ∷ 8 ∷ []; item = Enter 11 width bit }) refl refl refl) each in
        let none : nat_lt 0 (length ls) ≡ false = sym (i.begun ls old) ∙ dropped (list_any is_counted (since (enters 12) front)) six in
        let few = ltb-false 0 (length ls) none in
        nil_from_length ls (omega (arith, few)));
  } where
    dropped : (b : Bool) → (b && true) ≡ false → b ≡ false
    dropped true e = e
    dropped false e = refl

  -- ---- all of them

  -- what is known behind an item of a module
  abbrev pub Next : List Site → List ℕ → Item → Type 0
  Next front a x = ((sh : Shape (open_after a x)) × State sh (front ++ record { around = a; item = x } ∷ [])) × AllOf (ended (front ++ record { around = a; item = x } ∷ []))

  entered : (front : List Site) (id width bit : ℕ) → reads (Some 8) id ≡ true → (b : Bool) → (id == 12) ≡ b → Outside front → AllOf (ended front) → Next front (8 ∷ []) (Enter id width bit)
  entered front id width bit e true f o all =
      subst (λ (n : ℕ). Next front (8 ∷ []) (Enter n width bit)) (sym (eqb-true id 12 f)) ((in_body, inside_first front width bit o), ended_same front (record { around = 8 ∷ []; item = Enter 12 width bit }) refl all)
  entered front id width bit e false f o all =
      ((two_open id e f, outside_same front (record { around = 8 ∷ []; item = Enter id width bit }) (ap (λ b. b && true) f) refl o), ended_same front (record { around = 8 ∷ []; item = Enter id width bit }) refl all)

  pub step : {a : List ℕ} (front : List Site) (x : Item) (sh : Shape a) → State sh front → StandsIn a x → IsUnbroken (Breaks m fs) front (record { around = a; item = x })
      → (list_any is_counted (since (enters 12) front) && enters_inside 12 11 (record { around = a; item = x })) ≡ false → IsAbove front (record { around = a; item = x }) → AllOf (ended front) → Next front a x
  step front (Record c f n b) none_open st h clear six above all = absurd h
  step front (Record c f n b) (one_open y e) st h clear six above all = ((one_open y e, outside_same front (record { around = y ∷ []; item = Record c f n b }) refl refl st), ended_same front (record { around = y ∷ []; item = Record c f n b }) refl all)
  step front (Record c f n b) (two_open y e g) st h clear six above all =
      ((two_open y e g, outside_same front (record { around = y ∷ 8 ∷ []; item = Record c f n b }) refl refl st), ended_same front (record { around = y ∷ 8 ∷ []; item = Record c f n b }) refl all)
  step front (Record c f n b) in_body st h clear six above all = ((in_body, inside_record front c f n b clear above st), ended_same front (record { around = 12 ∷ 8 ∷ []; item = Record c f n b }) refl all)
  step front (Record c f n b) in_pool st h clear six above all = ((in_pool, pool_record front c f n b st), ended_same front (record { around = 11 ∷ 12 ∷ 8 ∷ []; item = Record c f n b }) refl all)
  step front (Skip i w b) none_open st h clear six above all = ((none_open, outside_same front (record { around = []; item = Skip i w b }) refl refl st), ended_same front (record { around = []; item = Skip i w b }) refl all)
  step front (Skip i w b) (one_open y e) st h clear six above all = ((one_open y e, outside_same front (record { around = y ∷ []; item = Skip i w b }) refl refl st), ended_same front (record { around = y ∷ []; item = Skip i w b }) refl all)
  step front (Skip i w b) (two_open y e g) st h clear six above all =
      ((two_open y e g, outside_same front (record { around = y ∷ 8 ∷ []; item = Skip i w b }) refl refl st), ended_same front (record { around = y ∷ 8 ∷ []; item = Skip i w b }) refl all)
  step front (Skip i w b) in_body st h clear six above all =
      ((in_body, inside_same front (record { around = 12 ∷ 8 ∷ []; item = Skip i w b }) refl refl refl refl st), ended_same front (record { around = 12 ∷ 8 ∷ []; item = Skip i w b }) refl all)
  step front (Skip i w b) in_pool st h clear six above all =
      let s : Site = record { around = 11 ∷ 12 ∷ 8 ∷ []; item = Skip i w b } in
      ((in_pool, record { inside = inside_same front s refl refl refl refl st.inside; no_line = no_line_same front s refl refl refl st }), ended_same front s refl all)
  step front (End b) none_open st h clear six above all = absurd h
  step front (End b) (one_open y e) st h clear six above all = ((none_open, outside_same front (record { around = y ∷ []; item = End b }) refl refl st), ended_same front (record { around = y ∷ []; item = End b }) refl all)
  step front (End b) (two_open y e g) st h clear six above all =
      let s : Site = record { around = y ∷ 8 ∷ []; item = End b } in ((one_open 8 refl, outside_same front s refl (not_body y g) st), ended_same front s (not_body y g) all)
  step front (End b) in_body st h clear six above all =
      ((one_open 8 refl, outside_end front b st), ended_push front (record { around = 12 ∷ 8 ∷ []; item = End b }) refl (record { inside = st; finished = finished_at front b clear; count = st.count }) all)
  step front (End b) in_pool st h clear six above all =
      let s : Site = record { around = 11 ∷ 12 ∷ 8 ∷ []; item = End b } in ((in_body, inside_same front s refl refl refl refl st.inside), ended_same front s refl all)
  step front (Enter i w b) none_open st h clear six above all =
      let s : Site = record { around = []; item = Enter i w b } in ((one_open i h, outside_same front s (and_false (i == 12)) refl st), ended_same front s refl all)
  step front (Enter i w b) (one_open y e) st h clear six above all =
      let eight = only_module y i e h in
      subst (λ (z : ℕ). Next front (z ∷ []) (Enter i w b)) (sym eight) (entered front i w b (subst (λ (z : ℕ). reads (Some z) i ≡ true) eight h) (i == 12) refl st all)
  step front (Enter i w b) (two_open y e g) st h clear six above all = none_left (reads (Some y) i) h (no_blocks y i e g)
  step front (Enter i w b) in_body st h clear six above all =
      let eleven : i ≡ 11 = eqb-true i 11 h in
      subst (λ (z : ℕ). Next front (12 ∷ 8 ∷ []) (Enter z w b)) (sym eleven) (
        (in_pool, pool_first front w b (subst (λ (z : ℕ). (list_any is_counted (since (enters 12) front) && enters_inside 12 11 (record { around = 12 ∷ 8 ∷ []; item = Enter z w b })) ≡ false) eleven six) st),
        ended_same front (record { around = 12 ∷ 8 ∷ []; item = Enter 11 w b }) refl all,
      )
  step front (Enter i w b) in_pool st h clear six above all = absurd (both_ways false refl h)
