-- What the reader has after one more item, and what its answers say of the whole list.
use Rattle.std.proofs.Common.{ℕ, ◌≡◌, ◌+◌, ◌<◌, ◌≤◌, ◌^◌, refl, sym, ap, ◌∙◌, subst, arith, List, [], ◌∷◌, ◌++◌, length, take, get_or, slice_get, Option, Some, None, Bool, true, false, ◌&&◌, ◌||◌, if◌then◌else◌, take_all}
use Rattle.std.proofs.lemmas.List.{take_more}
use Rattle.std.proofs.lemmas.List.Sums.{sum_by_more, sum_by_more_le}
use Rattle.std.proofs.lemmas.Option.{slice_get-get_or}
use Rattle.dx_base.specs.First.{IsFirst, IsSound, IsClear, IsLeast, IsUnbroken}
use Rattle.dx_base.specs.Sentences.{first_that_holds, holds}
use Rattle.dx_base.proofs.FirstLaws.{clear_none, clear_more, first_here, sound_of}
use Rattle.dx_base.proofs.SentenceLaws.{least_stated, none_stated}
use Rattle.dx_base.specs.declared.fault.Fault.{Fault}
use Rattle.dx_base.specs.declared.fault.Fault.TheVariants.{Refused, Limit, OutOfMemory}
use Rattle.dx_base.specs.declared.fault.Rule.TheVariants.{C, B, Y, M, N, P}
use Rattle.dx_base.specs.declared.fault.Which.TheVariants.{File, Records, Fields, Blocks, Instructions, Cases, PhiEntries, Resources}
use Rattle.bitstream_spelling.specs.Framed.{IsFramed, LiesIn, open_after, open_behind}
use Rattle.bitstream_spelling.specs.Rules.{records, is_record}
use Rattle.bitstream_spelling.specs.declared.item.Item.{Item}
use Rattle.llvm_items.specs.Sites.{Site, sites, enters, ends, is_record_of, code_of, fields_of, bit_at}
use Rattle.llvm_items.proofs.SiteLaws.{take-sites, site-at, length-sites, sites-rise, site_of, sites_more, open_more}
use Rattle.llvm_layout.proofs.Unique.{only_reading}
use Rattle.llvm_layout.specs.declared.letter.Around.{Around}
use Rattle.llvm_layout.specs.declared.letter.Parts.{Parts}
use Rattle.llvm_values.specs.Values.{type_behind, type_after}
use Rattle.llvm_values.proofs.Listing.{type_more}
use Rattle.llvm_bodies.specs.Lists.{Each, none, Place}
use Rattle.llvm_bodies.specs.Bodies.{known, around_of, is_line, IsLine, IsLineAt, IsBody, AreBodies, lines_in, ended, constants_in}
use Rattle.llvm_bodies.specs.Rules.{Says, tests, m8, Breaks, Broken}
use Rattle.llvm_bodies.specs.Reading.{AreFew, HasRoom, Tells, here, SaysHere, rule_at, IsStopped, IsPassed, IsBodyAt, LinesNext, BodiesNext, after, constants_after}
use Rattle.llvm_bodies.proofs.ListLaws.{each_more}
use Rattle.llvm_bodies.proofs.KnownLaws.{known_more, lines_more, ended_more, constants_more}
use Rattle.llvm_bodies.proofs.Within.{IsWithin, within_first, within_more, within_room, fields_few}
use Rattle.llvm_bodies.specs.declared.facts.ModuleFacts.{ModuleFacts}
use Rattle.llvm_bodies.specs.declared.progress.Progress.{Progress}
use Rattle.llvm_bodies.specs.declared.line.Line.{Line}
use Rattle.llvm_bodies.specs.declared.line.Body.{Body}
use Rattle.llvm_bodies.specs.declared.read.Reader.{Reader}

gate : (b u v : Bool) → (b ≡ true → u ≡ v) → (b && u) ≡ (b && v)
gate true u v h = h refl
gate false u v h = refl

says_one : (x : Around) (code : ℕ) (fields : List ℕ) (r q : Option Parts) → Says x code fields r → Says x code fields q → r ≡ q
says_one x code fields None None g h = refl
says_one x code fields None (Some q) g h = absurd (g.none q h)
says_one x code fields (Some r) None g h = absurd (h.none r g)
says_one x code fields (Some r) (Some q) g h = ap (λ p. Some p) (only_reading x fields code r q g h)

tells_on : (F G : ℕ → ℕ → Type 0) → ((rule bit : ℕ) → F rule bit → G rule bit) → (e : Fault) → Tells F e → Tells G e
tells_on F G f (Refused (C rule) bit) t = t
tells_on F G f (Refused (B rule) bit) t = t
tells_on F G f (Refused (Y rule) bit) t = t
tells_on F G f (Refused (M rule) bit) t = (t.0, f rule bit t.1)
tells_on F G f (Refused (N rule) bit) t = t
tells_on F G f (Refused (P rule) bit) t = t
tells_on F G f (Limit File bit) t = t
tells_on F G f (Limit Records bit) t = t
tells_on F G f (Limit Fields bit) t = t
tells_on F G f (Limit Blocks bit) t = f 12 bit t
tells_on F G f (Limit Instructions bit) t = f 13 bit t
tells_on F G f (Limit Cases bit) t = f 14 bit t
tells_on F G f (Limit PhiEntries bit) t = f 15 bit t
tells_on F G f (Limit Resources bit) t = t
tells_on F G f OutOfMemory t = t

module _ (m : ModuleFacts) (fs : List ℕ) where
  -- the sentences at a place do not depend on which parts a record says, since it says one row of them at most
  tests_one : (p : Progress) (r q : Option Parts) (s : Site) → (is_record_of 12 s ≡ true → r ≡ q) → tests m fs p r s ≡ tests m fs p q s
  tests_one p r q s h = rw (gate (is_record_of 12 s) (m8 m p (code_of s.item) (fields_of fs s.item) r) (m8 m p (code_of s.item) (fields_of fs s.item) q) (λ e. ap (m8 m p (code_of s.item) (fields_of fs s.item)) (h e))) refl

  module _ (before : List Site) (s : Site) (parts : Option Parts) (says : is_record_of 12 s ≡ true → Says (around_of m fs (known m fs before)) (code_of s.item) (fields_of fs s.item) parts) where
    by_parts : (rule : ℕ) → Breaks m fs before s rule → holds (tests m fs (known m fs before) parts s) rule ≡ true
    by_parts rule b = subst (λ ts. holds ts rule ≡ true) (tests_one (known m fs before) b.parts parts s (λ e. says_one (around_of m fs (known m fs before)) (code_of s.item) (fields_of fs s.item) b.parts parts (b.says e) (says e))) b.breaks

    least_here : (n : ℕ) → n ≡ first_that_holds (tests m fs (known m fs before) parts s) → 0 < n → IsLeast (Breaks m fs) before s n
    least_here n e h =
        let l = least_stated (λ (xs : List Site) (t : Site). tests m fs (known m fs before) parts t) before s n e h in
        record { broken = record { parts = parts; says = says; breaks = l.broken }; least = λ other b. l.least other (by_parts other b) }

    none_here : first_that_holds (tests m fs (known m fs before) parts s) ≡ 0 → IsUnbroken (Breaks m fs) before s
    none_here e =
        let u = none_stated (λ (xs : List Site) (t : Site). tests m fs (known m fs before) parts t) before s e in
        record { none = λ rule b. u.none rule (by_parts rule b) }

  -- what was read of some items
  pub record HasRead (is : List Item) (r : Reader) : Type 0 where
    pub open_is : r.around ≡ open_behind [] is
    pub known_is : r.known ≡ known m fs (sites is)
    pub ty_is : r.ty ≡ type_behind fs (sites is)
    pub constants_are : r.constants ≡ constants_in fs (sites is)
    pub lines_are : Each (IsLine m fs) (lines_in (sites is)) r.lines
    pub bodies_are : Each (IsBody m fs) (ended (sites is)) r.bodies

  -- the reading so far, at which nothing is broken
  pub record IsReading (list : List Item) (index : ℕ) (r : Reader) : Type 0 where
    pub has : HasRead (take index list) r
    pub clear : IsClear bit_at (Breaks m fs) (sites list) index
    pub within : IsWithin r.known index (records (take index list))

  next_lines : (a b : Bool) (ps : List (Place Site)) (p : Place Site) (old new : List Line) → Each (IsLine m fs) ps old → LinesNext a b (IsLine m fs p) old new
      → Each (IsLine m fs) (if a then [] else if b then ps ++ p ∷ [] else ps) new
  next_lines true b ps p old new e n = subst (λ (ls : List Line). Each (IsLine m fs) [] ls) (sym n) none
  next_lines false true ps p old new e n = subst (λ (ls : List Line). Each (IsLine m fs) (ps ++ p ∷ []) ls) (sym n.1) (each_more e n.2)
  next_lines false false ps p old new e n = subst (λ (ls : List Line). Each (IsLine m fs) ps ls) (sym n) e

  next_bodies : (a : Bool) (bs : List (List Site)) (before : List Site) (Q : Body → Type 0) (old new : List Body) → ((body : Body) → Q body → IsBody m fs before body) → Each (IsBody m fs) bs old → BodiesNext a Q old new
      → Each (IsBody m fs) (if a then bs ++ before ∷ [] else bs) new
  next_bodies true bs before Q old new f e n = subst (λ (ls : List Body). Each (IsBody m fs) (bs ++ before ∷ []) ls) (sym n.1) (each_more e (f n.0 n.2))
  next_bodies false bs before Q old new f e n = subst (λ (ls : List Body). Each (IsBody m fs) bs ls) (sym n) e

  module _ (is : List Item) (x : Item) (old new : Reader) (c : HasRead is old) (n : IsPassed m fs old new x) where
    body_is : (body : Body) → IsBodyAt old.known old.constants old.lines body → IsBody m fs (sites is) body
    body_is body b = record {
      bit = b.bit ∙ ap (λ (p : Progress). p.bit) c.known_is;
      blocks = b.blocks ∙ ap (λ (p : Progress). p.blocks) c.known_is;
      values = b.values ∙ ap (λ (p : Progress). p.now) c.known_is;
      constants = b.numbered ∙ c.constants_are;
      lines = subst (λ (ls : List Line). Each (IsLine m fs) (lines_in (sites is)) ls) (sym b.same) c.lines_are;
    }

    lines_next : LinesNext (enters 12 (site_of is x) || ends 12 (site_of is x)) (is_line (site_of is x)) (IsLineAt m fs (known m fs (sites is)) (site_of is x)) old.lines new.lines
    lines_next = subst (λ (p : Progress). LinesNext (enters 12 (site_of is x) || ends 12 (site_of is x)) (is_line (site_of is x)) (IsLineAt m fs p (site_of is x)) old.lines new.lines) c.known_is
        (subst (λ (a : List ℕ). LinesNext (enters 12 (record { around = a; item = x }) || ends 12 (record { around = a; item = x })) (is_line (record { around = a; item = x })) (IsLineAt m fs old.known (record { around = a; item = x })) old.lines new.lines) c.open_is n.lines)

    bodies_next : BodiesNext (ends 12 (site_of is x)) (IsBodyAt old.known old.constants old.lines) old.bodies new.bodies
    bodies_next = subst (λ (a : List ℕ). BodiesNext (ends 12 (record { around = a; item = x })) (IsBodyAt old.known old.constants old.lines) old.bodies new.bodies) c.open_is n.bodies

    known_next : new.known ≡ after m fs (known m fs (sites is)) (site_of is x)
    known_next = n.known ∙ ap (λ (p : Progress). after m fs p (here old x)) c.known_is ∙ ap (λ (a : List ℕ). after m fs (known m fs (sites is)) (record { around = a; item = x })) c.open_is

    has_more : HasRead (is ++ x ∷ []) new
    has_more = record {
      open_is = n.around ∙ ap (λ a. open_after a x) c.open_is ∙ sym (open_more is x);
      known_is = known_next ∙ sym (known_more m fs (sites is) (site_of is x)) ∙ ap (known m fs) (sym (sites_more is x));
      ty_is = n.ty ∙ ap (λ t. type_after fs t (here old x)) c.ty_is ∙ ap (λ (a : List ℕ). type_after fs (type_behind fs (sites is)) (record { around = a; item = x })) c.open_is ∙ sym (type_more fs (sites is) (site_of is x)) ∙ ap (type_behind fs) (sym (sites_more is x));
      constants_are = n.constants ∙ ap (λ t. constants_after fs t old.constants (here old x)) c.ty_is ∙ ap (λ cs. constants_after fs (type_behind fs (sites is)) cs (here old x)) c.constants_are
          ∙ ap (λ (a : List ℕ). constants_after fs (type_behind fs (sites is)) (constants_in fs (sites is)) (record { around = a; item = x })) c.open_is
          ∙ sym (constants_more fs (sites is) (site_of is x)) ∙ ap (constants_in fs) (sym (sites_more is x));
      lines_are = subst (λ (ss : List Site). Each (IsLine m fs) (lines_in ss) new.lines) (sym (sites_more is x))
          (subst (λ (ps : List (Place Site)). Each (IsLine m fs) ps new.lines) (sym (lines_more (sites is) (site_of is x)))
          (next_lines (enters 12 (site_of is x) || ends 12 (site_of is x)) (is_line (site_of is x)) (lines_in (sites is)) (record { before = sites is; item = site_of is x }) old.lines new.lines c.lines_are lines_next));
      bodies_are = subst (λ (ss : List Site). Each (IsBody m fs) (ended ss) new.bodies) (sym (sites_more is x))
          (subst (λ (bs : List (List Site)). Each (IsBody m fs) bs new.bodies) (sym (ended_more (sites is) (site_of is x)))
          (next_bodies (ends 12 (site_of is x)) (ended (sites is)) (sites is) (IsBodyAt old.known old.constants old.lines) old.bodies new.bodies body_is c.bodies_are bodies_next));
    }

  pub reading_first : AreFew m → (list : List Item) (r : Reader) → r.around ≡ [] → r.known ≡ known m fs [] → r.ty ≡ None → r.constants ≡ [] → r.lines ≡ [] → r.bodies ≡ [] → IsReading list 0 r
  reading_first few list r a k t cs l b = record {
    has = record { open_is = a; known_is = k; ty_is = t; constants_are = cs; lines_are = subst (λ (ls : List Line). Each (IsLine m fs) [] ls) (sym l) none; bodies_are = subst (λ (ls : List Body). Each (IsBody m fs) [] ls) (sym b) none };
    clear = clear_none bit_at (Breaks m fs) (sites list);
    within = subst (λ (p : Progress). IsWithin p 0 0) (sym k) (within_first m few fs);
  }

  module _ (list : List Item) (index : ℕ) (r : Reader) (d : Item) (i : IsReading list index r) (h : index < length list) where
    at_sites : r.known ≡ known m fs (take index (sites list))
    at_sites = i.has.known_is ∙ ap (known m fs) (sym (take-sites [] index list))

    moved : (F : Progress → List ℕ → Type 0) → F r.known r.around → F (known m fs (take index (sites list))) (open_behind [] (take index list))
    moved F g = subst (λ (a : List ℕ). F (known m fs (take index (sites list))) a) i.has.open_is (subst (λ (p : Progress). F p r.around) at_sites g)

    stands : slice_get (sites list) index ≡ Some (site_of (take index list) (get_or list index d))
    stands = site-at [] index list (get_or list index d) (slice_get-get_or list index d h)

    pub few_records : IsFramed list fs → records (take index list) + is_record (get_or list index d) ≤ 2 ^ 22
    few_records f = omega (arith, sum_by_more_le is_record list index d h, f.few_records)

    pub lies_here : IsFramed list fs → LiesIn fs (get_or list index d)
    lies_here f = f.lies index (get_or list index d) (slice_get-get_or list index d h)

    pub few_here : IsFramed list fs → length (fields_of fs (get_or list index d)) ≤ 2 ^ 24
    few_here f = fields_few fs (get_or list index d) (2 ^ 24) f.few_fields

    pub room_here : IsFramed list fs → HasRoom r.known
    room_here f = within_room r.known index (records (take index list)) i.within (omega (arith, f.few_items)) (omega (arith, few_records f))

    says_moved : (x : Item) (parts : Option Parts) → SaysHere m fs r x parts → is_record_of 12 (site_of (take index list) x) ≡ true → Says (around_of m fs (known m fs (take index (sites list)))) (code_of x) (fields_of fs x) parts
    says_moved x parts s = moved (λ p a. is_record_of 12 (record { around = a; item = x }) ≡ true → Says (around_of m fs p) (code_of x) (fields_of fs x) parts) s

    rule_moved : (x : Item) (parts : Option Parts) (n : ℕ) → rule_at m fs r x parts ≡ n → first_that_holds (tests m fs (known m fs (take index (sites list))) parts (site_of (take index list) x)) ≡ n
    rule_moved x parts n e = moved (λ p a. first_that_holds (tests m fs p parts (record { around = a; item = x })) ≡ n) e

    pub reading_more : (new : Reader) → AreFew m → IsFramed list fs → IsPassed m fs r new (get_or list index d) → IsReading list (index + 1) new
    reading_more new few f n =
        let x = get_or list index d in
        let cut : take (index + 1) list ≡ take index list ++ x ∷ [] = take_more list index d h in
        let sum : records (take (index + 1) list) ≡ records (take index list) + is_record x = sum_by_more is_record list index d h in
        let w = within_more m few r.known index (records (take index list)) i.within fs r.around x (fields_few fs x (2 ^ 24) f.few_fields) in
        record {
          has = subst (λ (l : List Item). HasRead l new) (sym cut) (has_more (take index list) x r new i.has n);
          clear = clear_more bit_at (Breaks m fs) (sites list) index (site_of (take index list) x) i.clear stands
              (none_here (take index (sites list)) (site_of (take index list) x) n.parts (says_moved x n.parts n.says) (rule_moved x n.parts 0 n.none));
          within = subst (λ (k : ℕ). IsWithin new.known (index + 1) k) (sym sum) (subst (λ (p : Progress). IsWithin p (index + 1) (records (take index list) + is_record x)) (sym n.known) w);
        }

    reading_stops : IsFramed list fs → (rule bit : ℕ) → IsStopped m fs r (get_or list index d) rule bit → IsFirst (Broken m list fs) rule bit
    reading_stops f rule bit s =
        let x = get_or list index d in
        let least = least_here (take index (sites list)) (site_of (take index list) x) s.parts (says_moved x s.parts s.says) rule (sym (rule_moved x s.parts rule s.first)) s.positive in
        let first = first_here bit_at (Breaks m fs) (sites list) index (site_of (take index list) x) rule (sites-rise (Breaks m fs) list fs f) i.clear stands least in
        subst (λ (z : ℕ). IsFirst (Broken m list fs) rule z) (sym s.at) first

    -- a fault of the reader at an item is the answer for the whole list
    pub fault_stops : (e : Fault) → IsFramed list fs → Tells (IsStopped m fs r (get_or list index d)) e → Tells (IsFirst (Broken m list fs)) e
    fault_stops e f t = tells_on (IsStopped m fs r (get_or list index d)) (IsFirst (Broken m list fs)) (reading_stops f) e t

  pub reading_ends : (list : List Item) (index : ℕ) (r : Reader) (bodies : List Body) → IsReading list index r → length list ≤ index → index ≤ length list → bodies ≡ r.bodies → AreBodies m fs (sites list) bodies × IsSound (Broken m list fs)
  reading_ends list index r bodies i h k e =
      let whole : take index list ≡ list = take_all index list h in
      let n : index ≡ length (sites list) = omega (arith, length-sites [] list) in
      (subst (λ (l : List Item). AreBodies m fs (sites l) bodies) whole (subst (λ (bs : List Body). AreBodies m fs (sites (take index list)) bs) (sym e) i.has.bodies_are), sound_of bit_at (Breaks m fs) (sites list) (subst (λ (z : ℕ). IsClear bit_at (Breaks m fs) (sites list) z) n i.clear))
