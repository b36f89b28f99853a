-- What is known behind one site more.
use Rattle.std.proofs.Common.{ℕ, ◌≡◌, ◌+◌, ◌-◌, ◌==◌, refl, sym, ap, ◌∙◌, arith, List, [], ◌∷◌, ◌++◌, get_or, map, Bool, true, false, not, ◌&&◌, ◌||◌, if◌then◌else◌}
use Rattle.std.proofs.lemmas.List.{map-append}
use Rattle.std.specs.List.{list_any, filter, count_by, sum_by}
use Rattle.llvm_items.specs.Sites.{Site, enters, ends, is_record_of, code_of, fields_of, bit_at}
use Rattle.llvm_values.specs.Values.{type_behind}
use Rattle.llvm_bodies.specs.Lists.{has_some, behind_last, last_passes, Place, places}
use Rattle.llvm_bodies.specs.Bodies.{part, records, codes, known, current, number_from, number_after, first_number, declared_by, last_bit, is_terminator, is_instruction, is_constant, is_line, cases_in, entries_in, gives, lines_in, ended, constant_at, constants_in}
use Rattle.llvm_bodies.specs.Reading.{after, constants_after, begun_at, record_after, constant_after}
use Rattle.llvm_bodies.proofs.ListLaws.{behind_last-append, last_passes-append, filter_more, count_more, sum_more, any_more, places_more}
use Rattle.llvm_bodies.specs.declared.facts.ModuleFacts.{ModuleFacts}
use Rattle.llvm_bodies.specs.declared.progress.Progress.{Progress}

chosen_yes : {A : Type 0} (b : Bool) (u v : A) → b ≡ true → (if b then u else v) ≡ u
chosen_yes true u v e = refl
chosen_yes false u v e = absurd (cc)

chosen_no : {A : Type 0} (b : Bool) (u v : A) → b ≡ false → (if b then u else v) ≡ v
chosen_no true u v e = absurd (cc)
chosen_no false u v e = refl

last_bit-append : (ss : List Site) (s : Site) → last_bit (ss ++ s ∷ []) ≡ bit_at s
last_bit-append [] s = refl
last_bit-append (t ∷ []) s = refl
last_bit-append (t ∷ u ∷ ss) s = last_bit-append (u ∷ ss) s

module _ (m : ModuleFacts) (fs : List ℕ) where
  number-append : (now : ℕ) (ss : List Site) (s : Site) → number_from m fs now (ss ++ s ∷ []) ≡ number_after m fs (number_from m fs now ss) s
  number-append now [] s = refl
  number-append now (t ∷ ss) s = number-append (number_after m fs now t) ss s

  declared-append : (rs : List Site) (r : Site) → declared_by m fs (rs ++ r ∷ []) ≡ (if has_some rs then declared_by m fs rs else get_or (fields_of fs r.item) 0 0)
  declared-append [] r = refl
  declared-append (q ∷ rs) r = refl

  -- what is known of a body with these records
  abbrev made : ℕ → ℕ → ℕ → List Site → Progress
  made n bit now rs = record {
    bodies = n;
    bit = bit;
    now = now;
    started = has_some rs;
    blocks = declared_by m fs rs;
    block = count_by is_terminator (codes rs);
    busy = list_any (λ c. is_instruction c && not (c == 16)) (behind_last is_terminator (codes rs));
    closed = last_passes is_terminator (filter is_instruction (codes rs));
    instructions = count_by is_instruction (codes rs);
    cases = sum_by (λ (r : Site). cases_in (code_of r.item) (fields_of fs r.item)) rs;
    entries = sum_by (λ (r : Site). entries_in (code_of r.item) (fields_of fs r.item)) rs;
  }

  same : (n k bit at now then_ : ℕ) (rs qs : List Site) → n ≡ k → bit ≡ at → now ≡ then_ → rs ≡ qs → made n bit now rs ≡ made k at then_ qs
  same n k bit at now then_ rs qs a b c d = rw (a, b, c, d) refl

  by_fields : (p : Progress) (bodies bit now : ℕ) (started : Bool) (blocks block : ℕ) (busy closed : Bool) (instructions cases entries : ℕ)
      → p.bodies ≡ bodies → p.bit ≡ bit → p.now ≡ now → p.started ≡ started → p.blocks ≡ blocks → p.block ≡ block → p.busy ≡ busy → p.closed ≡ closed → p.instructions ≡ instructions → p.cases ≡ cases → p.entries ≡ entries
      → p ≡ record { bodies = bodies; bit = bit; now = now; started = started; blocks = blocks; block = block; busy = busy; closed = closed; instructions = instructions; cases = cases; entries = entries }
  by_fields p bodies bit now started blocks block busy closed instructions cases entries a b c d e f g h i j k = rw (sym a, sym b, sym c, sym d, sym e, sym f, sym g, sym h, sym i, sym j, sym k) refl

  some_length : (rs : List Site) (r : Site) → has_some (rs ++ r ∷ []) ≡ true
  some_length [] r = refl
  some_length (q ∷ rs) r = refl

  busy_more : (cs : List ℕ) (c : ℕ) (f : ℕ → Bool) → list_any f (behind_last is_terminator (cs ++ c ∷ [])) ≡ (not (is_terminator c) && (list_any f (behind_last is_terminator cs) || f c))
  busy_more cs c f = ap (list_any f) (behind_last-append is_terminator cs c) ∙ either (is_terminator c) (behind_last is_terminator cs) where
    either : (b : Bool) (ds : List ℕ) → list_any f (if b then [] else ds ++ c ∷ []) ≡ (not b && (list_any f ds || f c))
    either true ds = refl
    either false ds = any_more f ds c

  closed_more : (cs : List ℕ) (c : ℕ) → last_passes is_terminator (filter is_instruction (cs ++ c ∷ [])) ≡ (if is_instruction c then is_terminator c else last_passes is_terminator (filter is_instruction cs))
  closed_more cs c = ap (last_passes is_terminator) (filter_more is_instruction cs c) ∙ either (is_instruction c) (filter is_instruction cs) where
    either : (b : Bool) (ds : List ℕ) → last_passes is_terminator (if b then ds ++ c ∷ [] else ds) ≡ (if b then is_terminator c else last_passes is_terminator ds)
    either true ds = last_passes-append is_terminator ds c
    either false ds = refl

  made_more : (n bit now : ℕ) (rs : List Site) (r : Site) → made n bit (if gives m now (code_of r.item) (fields_of fs r.item) then now + 1 else now) (rs ++ r ∷ []) ≡ record_after m (made n bit now rs) (code_of r.item) (fields_of fs r.item)
  made_more n bit now rs r =
      let c = code_of r.item in
      let one : codes (rs ++ r ∷ []) ≡ codes rs ++ c ∷ [] = map-append (λ (s : Site). code_of s.item) rs (r ∷ []) in
      by_fields (made n bit (if gives m now c (fields_of fs r.item) then now + 1 else now) (rs ++ r ∷ [])) _ _ _ _ _ _ _ _ _ _ _
      refl refl refl (some_length rs r) (declared-append rs r)
      (ap (count_by is_terminator) one ∙ count_more is_terminator (codes rs) c)
      (ap (λ cs. list_any (λ d. is_instruction d && not (d == 16)) (behind_last is_terminator cs)) one ∙ busy_more (codes rs) c (λ d. is_instruction d && not (d == 16)))
      (ap (λ cs. last_passes is_terminator (filter is_instruction cs)) one ∙ closed_more (codes rs) c)
      (ap (count_by is_instruction) one ∙ count_more is_instruction (codes rs) c)
      (sum_more (λ (s : Site). cases_in (code_of s.item) (fields_of fs s.item)) rs r)
      (sum_more (λ (s : Site). entries_in (code_of s.item) (fields_of fs s.item)) rs r)

  after_is : (e r c : Bool) (a b d p : Progress) → Progress
  after_is e r c a b d p = if e then a else if r then b else if c then d else p

  module _ (ss : List Site) (s : Site) where
    part_more : part (ss ++ s ∷ []) ≡ (if enters 12 s then [] else part ss ++ s ∷ [])
    part_more = behind_last-append (enters 12) ss s

    at_entry : enters 12 s ≡ true → known m fs (ss ++ s ∷ []) ≡ begun_at m (known m fs ss) (bit_at s)
    at_entry e =
        let none : part (ss ++ s ∷ []) ≡ [] = part_more ∙ chosen_yes (enters 12 s) [] (part ss ++ s ∷ []) e in
        let count : count_by (enters 12) (ss ++ s ∷ []) ≡ count_by (enters 12) ss + 1 = count_more (enters 12) ss s ∙ chosen_yes (enters 12 s) _ _ e in
        let last : last_bit (filter (enters 12) (ss ++ s ∷ [])) ≡ bit_at s = ap last_bit (filter_more (enters 12) ss s ∙ chosen_yes (enters 12 s) _ _ e) ∙ last_bit-append (filter (enters 12) ss) s in
        let back : count_by (enters 12) (ss ++ s ∷ []) - 1 ≡ count_by (enters 12) ss = omega arith in
        let now : current m fs (ss ++ s ∷ []) ≡ first_number m (count_by (enters 12) ss) = ap (number_from m fs (first_number m (count_by (enters 12) (ss ++ s ∷ []) - 1))) none ∙ ap (first_number m) back in
        same _ _ _ _ _ _ (records (ss ++ s ∷ [])) [] count last now (ap (filter (is_record_of 12)) none)

    module _ (e : enters 12 s ≡ false) where
      goes_on : part (ss ++ s ∷ []) ≡ part ss ++ s ∷ []
      goes_on = part_more ∙ chosen_no (enters 12 s) [] (part ss ++ s ∷ []) e

      count_same : count_by (enters 12) (ss ++ s ∷ []) ≡ count_by (enters 12) ss
      count_same = count_more (enters 12) ss s ∙ chosen_no (enters 12 s) _ _ e

      last_same : last_bit (filter (enters 12) (ss ++ s ∷ [])) ≡ last_bit (filter (enters 12) ss)
      last_same = ap last_bit (filter_more (enters 12) ss s ∙ chosen_no (enters 12 s) _ _ e)

      now_more : current m fs (ss ++ s ∷ []) ≡ number_after m fs (current m fs ss) s
      now_more = ap (λ n. number_from m fs (first_number m (n - 1)) (part (ss ++ s ∷ []))) count_same ∙ ap (number_from m fs (first_number m (count_by (enters 12) ss - 1))) goes_on ∙ number-append (first_number m (count_by (enters 12) ss - 1)) (part ss) s

      records_more : records (ss ++ s ∷ []) ≡ (if is_record_of 12 s then records ss ++ s ∷ [] else records ss)
      records_more = ap (filter (is_record_of 12)) goes_on ∙ filter_more (is_record_of 12) (part ss) s

      at_record : is_record_of 12 s ≡ true → known m fs (ss ++ s ∷ []) ≡ record_after m (known m fs ss) (code_of s.item) (fields_of fs s.item)
      at_record r =
          let now : current m fs (ss ++ s ∷ []) ≡ (if gives m (current m fs ss) (code_of s.item) (fields_of fs s.item) then current m fs ss + 1 else current m fs ss) = now_more ∙ chosen_yes (is_record_of 12 s) _ _ r in
          same _ _ _ _ _ _ (records (ss ++ s ∷ [])) (records ss ++ s ∷ []) count_same last_same now (records_more ∙ chosen_yes (is_record_of 12 s) _ _ r)
          ∙ made_more (count_by (enters 12) ss) (last_bit (filter (enters 12) ss)) (current m fs ss) (records ss) s

      at_constant : is_record_of 12 s ≡ false → is_constant s ≡ true → known m fs (ss ++ s ∷ []) ≡ constant_after (known m fs ss)
      at_constant r c =
          same _ _ _ _ _ _ (records (ss ++ s ∷ [])) (records ss) count_same last_same (now_more ∙ chosen_no (is_record_of 12 s) _ _ r ∙ chosen_yes (is_constant s) _ _ c) (records_more ∙ chosen_no (is_record_of 12 s) _ _ r)

      at_other : is_record_of 12 s ≡ false → is_constant s ≡ false → known m fs (ss ++ s ∷ []) ≡ known m fs ss
      at_other r c =
          same _ _ _ _ _ _ (records (ss ++ s ∷ [])) (records ss) count_same last_same (now_more ∙ chosen_no (is_record_of 12 s) _ _ r ∙ chosen_no (is_constant s) _ _ c) (records_more ∙ chosen_no (is_record_of 12 s) _ _ r)

    picked : (e r c : Bool) (x a b d p : Progress) → e ≡ enters 12 s → r ≡ is_record_of 12 s → c ≡ is_constant s → (e ≡ true → x ≡ a) → (e ≡ false → r ≡ true → x ≡ b) → (e ≡ false → r ≡ false → c ≡ true → x ≡ d) → (e ≡ false → r ≡ false → c ≡ false → x ≡ p)
        → x ≡ (if e then a else if r then b else if c then d else p)
    picked true r c x a b d p i j k f g h l = f refl
    picked false true c x a b d p i j k f g h l = g refl refl
    picked false false true x a b d p i j k f g h l = h refl refl refl
    picked false false false x a b d p i j k f g h l = l refl refl refl

    pub known_more : known m fs (ss ++ s ∷ []) ≡ after m fs (known m fs ss) s
    known_more = picked (enters 12 s) (is_record_of 12 s) (is_constant s) (known m fs (ss ++ s ∷ [])) (begun_at m (known m fs ss) (bit_at s)) (record_after m (known m fs ss) (code_of s.item) (fields_of fs s.item)) (constant_after (known m fs ss)) (known m fs ss)
        refl refl refl at_entry at_record at_constant at_other

-- the places of lines, and the ends of bodies
pub lines_more : (ss : List Site) (s : Site) → lines_in (ss ++ s ∷ []) ≡ (if enters 12 s || ends 12 s then [] else if is_line s then lines_in ss ++ record { before = ss; item = s } ∷ [] else lines_in ss)
lines_more ss s =
    ap (λ ps. filter (λ (p : Place Site). is_line p.item) (behind_last (λ (p : Place Site). enters 12 p.item || ends 12 p.item) ps)) (places_more [] ss s)
    ∙ ap (filter (λ (p : Place Site). is_line p.item)) (behind_last-append (λ (p : Place Site). enters 12 p.item || ends 12 p.item) (places ss) (record { before = ss; item = s }))
    ∙ either (enters 12 s || ends 12 s) (behind_last (λ (p : Place Site). enters 12 p.item || ends 12 p.item) (places ss)) where
      either : (b : Bool) (ps : List (Place Site)) → filter (λ (p : Place Site). is_line p.item) (if b then [] else ps ++ record { before = ss; item = s } ∷ [])
          ≡ (if b then [] else if is_line s then filter (λ (p : Place Site). is_line p.item) ps ++ record { before = ss; item = s } ∷ [] else filter (λ (p : Place Site). is_line p.item) ps)
      either true ps = refl
      either false ps = filter_more (λ (p : Place Site). is_line p.item) ps (record { before = ss; item = s })

pub ended_more : (ss : List Site) (s : Site) → ended (ss ++ s ∷ []) ≡ (if ends 12 s then ended ss ++ ss ∷ [] else ended ss)
ended_more ss s =
    ap (λ ps. map (λ (p : Place Site). p.before) (filter (λ (p : Place Site). ends 12 p.item) ps)) (places_more [] ss s)
    ∙ ap (map (λ (p : Place Site). p.before)) (filter_more (λ (p : Place Site). ends 12 p.item) (places ss) (record { before = ss; item = s }))
    ∙ either (ends 12 s) (filter (λ (p : Place Site). ends 12 p.item) (places ss)) where
      either : (b : Bool) (ps : List (Place Site)) → map (λ (p : Place Site). p.before) (if b then ps ++ record { before = ss; item = s } ∷ [] else ps) ≡ (if b then map (λ (p : Place Site). p.before) ps ++ ss ∷ [] else map (λ (p : Place Site). p.before) ps)
      either true ps = map-append (λ (p : Place Site). p.before) ps (record { before = ss; item = s } ∷ [])
      either false ps = refl

pub constants_more : (fs : List ℕ) (ss : List Site) (s : Site) → constants_in fs (ss ++ s ∷ []) ≡ constants_after fs (type_behind fs ss) (constants_in fs ss) s
constants_more fs ss s =
    ap (λ ps. map (constant_at fs) (filter (λ (p : Place Site). is_constant p.item) (behind_last (λ (p : Place Site). enters 12 p.item || ends 12 p.item) ps))) (places_more [] ss s)
    ∙ ap (λ ps. map (constant_at fs) (filter (λ (p : Place Site). is_constant p.item) ps)) (behind_last-append (λ (p : Place Site). enters 12 p.item || ends 12 p.item) (places ss) (record { before = ss; item = s }))
    ∙ either (enters 12 s || ends 12 s) (behind_last (λ (p : Place Site). enters 12 p.item || ends 12 p.item) (places ss)) where
      kept : (b : Bool) (ps : List (Place Site)) → map (constant_at fs) (if b then ps ++ record { before = ss; item = s } ∷ [] else ps) ≡ (if b then map (constant_at fs) ps ++ constant_at fs (record { before = ss; item = s }) ∷ [] else map (constant_at fs) ps)
      kept true ps = map-append (constant_at fs) ps (record { before = ss; item = s } ∷ [])
      kept false ps = refl

      either : (b : Bool) (ps : List (Place Site)) → map (constant_at fs) (filter (λ (p : Place Site). is_constant p.item) (if b then [] else ps ++ record { before = ss; item = s } ∷ []))
          ≡ (if b then [] else if is_constant s then map (constant_at fs) (filter (λ (p : Place Site). is_constant p.item) ps) ++ constant_at fs (record { before = ss; item = s }) ∷ [] else map (constant_at fs) (filter (λ (p : Place Site). is_constant p.item) ps))
      either true ps = refl
      either false ps = ap (map (constant_at fs)) (filter_more (λ (p : Place Site). is_constant p.item) ps (record { before = ss; item = s })) ∙ kept (is_constant s) (filter (λ (p : Place Site). is_constant p.item) ps)
