-- What is known of the body that is open behind some sites, and of its lines.
use Rattle.std.proofs.Common.{ℕ, zero, suc, ◌≡◌, ◌⊎◌, ◌<◌, ◌≤◌, ◌+◌, ◌-◌, ◌/◌, inl, inr, refl, sym, subst, ◌∙◌, ap, arith, List, [], ◌∷◌, ◌++◌, length, take, drop, get_or, slice_get, Option, Some, None, is_some, Bool, true, false, not, nat_lt, if◌then◌else◌, ◌==◌, ◌&&◌, ◌||◌}
use Rattle.std.specs.List.{count_by, sum_by}
use Rattle.std.proofs.lemmas.Bool.{cases_Bool, both_ways, eqb-true, ltb-false, le-ltb}
use Rattle.std.proofs.lemmas.List.{take-append-le, length_push}
use Rattle.std.proofs.lemmas.Option.{slice_get_within, same_Some}
use Rattle.std.proofs.Math.Seq.{take-append_seam}
use Rattle.dx_base.specs.First.{IsUnbroken}
use Rattle.dx_base.specs.Sentences.{holds}
use Rattle.llvm_items.specs.Sites.{Site, is_record_of, code_of, fields_of, bit_at}
use Rattle.llvm_layout.specs.Table.{rows_of, is_listed}
use Rattle.llvm_layout.specs.Reads.{HasLayout}
use Rattle.llvm_layout.specs.declared.letter.Parts.{Parts}
use Rattle.llvm_bodies.specs.Lists.{last_passes}
use Rattle.llvm_bodies.specs.Bodies.{known, around_of, signature_of, is_terminator, is_instruction, has_value, gives, first_number, cases_in as cases_by, entries_in as entries_by, IsLineAt}
use Rattle.llvm_bodies.specs.Rules.{Says, tests, m7, passes, many_blocks, Breaks}
use Rattle.llvm_bodies.specs.Reading.{begun_at, record_after, constant_after}
use Rattle.llvm_bodies.proofs.ListLaws.{count_more, sum_more, last_passes-append}
use Rattle.llvm_bodies.specs.declared.facts.ModuleFacts.{ModuleFacts}
use Rattle.llvm_bodies.specs.declared.progress.Progress.{Progress}
use Rattle.llvm_bodies.specs.declared.line.Line.{Line}
use Rattle.profile_tables.specs.Parts.{pairs_of, cases_of, entries_of}
use Rattle.profile_tables.specs.Read.{ends_block, gives_value, cases_in, entries_in}
use Rattle.entry_read.proofs.Layouts.{switch_said, phi_said, quiet_said, goes_twice}

-- ---- words

holds_at : (bs : List Bool) (n : ℕ) (b : Bool) → slice_get bs n ≡ Some b → holds bs (suc n) ≡ b
holds_at [] n b e = cc
holds_at (c ∷ bs) zero b e = same_Some c b e
holds_at (c ∷ bs) (suc n) b e = holds_at bs n b e

and_with : (a b : Bool) → a ≡ true → (a && b) ≡ false → b ≡ false
and_with true b e f = f
and_with false b e f = absurd (both_ways false refl e)

pub push_at : {A : Type 0} (xs : List A) (y z : A) (i : ℕ) → slice_get (xs ++ y ∷ []) i ≡ Some z → ((i < length xs) × (slice_get xs i ≡ Some z)) ⊎ ((i ≡ length xs) × (y ≡ z))
push_at [] y z zero e = inr (refl, same_Some y z e)
push_at [] y z (suc i) e = cc
push_at (x ∷ xs) y z zero e = inl (omega arith, e)
push_at (x ∷ xs) y z (suc i) e = elim (push_at xs y z i e) [ inl h ↦ inl (omega (arith, h.0), h.1) | inr h ↦ inr (ap suc h.0, h.1) ]

pub at_front : {A : Type 0} (xs : List A) (y z : A) (i : ℕ) → slice_get xs i ≡ Some z → slice_get (xs ++ y ∷ []) i ≡ Some z
at_front [] y z i e = cc
at_front (x ∷ xs) y z zero e = e
at_front (x ∷ xs) y z (suc i) e = at_front xs y z i e

pub at_end : {A : Type 0} (xs : List A) (y : A) → slice_get (xs ++ y ∷ []) (length xs) ≡ Some y
at_end [] y = refl
at_end (x ∷ xs) y = at_end xs y

within : (limit count more : ℕ) → count ≤ limit → passes limit count more ≡ false → count + more ≤ limit
within limit count more h e = ltb-false limit (count + more) (and_with (not (nat_lt limit count)) (nat_lt limit (count + more)) (ap not (le-ltb limit count h)) e)

not_first : (b rest : Bool) → (if b then false else rest) ≡ true → b ≡ false
not_first true rest e = cc
not_first false rest e = refl

began : (b listed one q : Bool) → (not listed || (if b then one else not (one && q))) ≡ false → one ≡ false → b ≡ true
began true listed one q e f = refl
began false true one q e f = absurd (both_ways (not (one && q)) e (ap (λ c. not (c && q)) f))
began false false one q e f = cc

first_is : (listed one q : Bool) → (not listed || not (one && q)) ≡ false → one ≡ true
first_is true true q e = refl
first_is true false q e = cc
first_is false one q e = cc

is_chosen : (b : Bool) (n : ℕ) → is_some (if b then Some n else None) ≡ b
is_chosen true n = refl
is_chosen false n = refl

one_more : (b : Bool) (n base k : ℕ) → n ≡ base + k → (if b then n + 1 else n) ≡ base + (if b then k + 1 else k)
one_more true n base k e = omega (arith, e)
one_more false n base k e = e

-- ---- records that are no instructions

record IsQuiet (code : ℕ) : Type 0 where
  no_end : is_terminator code ≡ false
  no_value : has_value code ≡ false
  no_switch : (code == 12) ≡ false
  no_phi : (code == 16) ≡ false

three : (code : ℕ) → is_instruction code ≡ false → (code ≡ 1) ⊎ ((code ≡ 33) ⊎ (code ≡ 35))
three code e = by (code == 1) (code == 33) (code == 35) refl refl refl e where
  by : (a b c : Bool) → (code == 1) ≡ a → (code == 33) ≡ b → (code == 35) ≡ c → (if a then false else if b then false else if c then false else true) ≡ false → (code ≡ 1) ⊎ ((code ≡ 33) ⊎ (code ≡ 35))
  by true b c f g h e = inl (eqb-true code 1 f)
  by false true c f g h e = inr (inl (eqb-true code 33 g))
  by false false true f g h e = inr (inr (eqb-true code 35 h))
  by false false false f g h e = cc

quiet : (code : ℕ) → is_instruction code ≡ false → IsQuiet code
quiet code e = elim (three code e) [
  | inl f ↦ subst IsQuiet (sym f) (record { no_end = refl; no_value = refl; no_switch = refl; no_phi = refl })
  | inr (inl f) ↦ subst IsQuiet (sym f) (record { no_end = refl; no_value = refl; no_switch = refl; no_phi = refl })
  | inr (inr f) ↦ subst IsQuiet (sym f) (record { no_end = refl; no_value = refl; no_switch = refl; no_phi = refl })
]

-- ---- sites

-- a site with this bit is among these
pub record Stands (front : List Site) (bit : ℕ) : Type 0 where
  pub index : ℕ
  pub site : Site
  pub at : slice_get front index ≡ Some site
  pub is : bit_at site ≡ bit

pub stands_on : (front : List Site) (s : Site) (bit : ℕ) → Stands front bit → Stands (front ++ s ∷ []) bit
stands_on front s bit t = record { index = t.index; site = t.site; at = at_front front s t.site t.index t.at; is = t.is }

-- a site has a greater bit than those before it
pub record IsAbove (front : List Site) (s : Site) : Type 0 where
  pub above : (i : ℕ) (t : Site) → slice_get front i ≡ Some t → bit_at t < bit_at s

module _ (m : ModuleFacts) (fs : List ℕ) where
  -- where a line stands, at which nothing is broken
  pub record Placed (line : Line) : Type 0 where
    pub front : List Site
    pub place : Site
    pub is : IsLineAt m fs (known m fs front) place line
    pub clear : IsUnbroken (Breaks m fs) front place
    pub here : is_record_of 12 place ≡ true

  -- a line at its place of a body that has declared so many blocks and whose first value has this number
  pub record GoodAt (blocks base : ℕ) (ls : List Line) (i : ℕ) (line : Line) : Type 0 where
    pub placed : Placed line
    pub block : line.block ≡ count_by ends_block (take i ls)
    pub now : (known m fs placed.front).now ≡ base + count_by gives_value (take i ls)
    pub same_blocks : (known m fs placed.front).blocks ≡ blocks

  -- this is known behind these sites of the open body, which has so many constants and these lines
  pub record Holds (p : Progress) (constants : ℕ) (front : List Site) (ls : List Line) : Type 0 where
    pub instructions : p.instructions ≡ length ls
    pub few : length ls ≤ 32768
    pub ended : p.block ≡ count_by ends_block ls
    pub closed : p.closed ≡ last_passes ends_block ls
    pub cases : p.cases ≡ sum_by cases_in ls
    pub few_cases : sum_by cases_in ls ≤ 65536
    pub entries : p.entries ≡ sum_by entries_in ls
    pub few_entries : sum_by entries_in ls ≤ 262144
    pub now : p.now ≡ (first_number m (p.bodies - 1) + constants) + count_by gives_value ls
    pub few_blocks : p.blocks ≤ 8192
    pub started : 0 < length ls → p.started ≡ true
    pub each : (i : ℕ) (line : Line) → slice_get ls i ≡ Some line → GoodAt p.blocks (first_number m (p.bodies - 1) + constants) ls i line
    pub bits : (i : ℕ) (line : Line) → slice_get ls i ≡ Some line → Stands front line.bit
    pub rises : (i j : ℕ) (a b : Line) → i < j → slice_get ls i ≡ Some a → slice_get ls j ≡ Some b → a.bit < b.bit

  -- what is no rule's sentence at a record whose parts are known
  module _ (front : List Site) (s : Site) (clear : IsUnbroken (Breaks m fs) front s) (here : is_record_of 12 s ≡ true) (parts : Option Parts)
      (says_here : Says (around_of m fs (known m fs front)) (code_of s.item) (fields_of fs s.item) parts) where
    pub unsaid : (n : ℕ) (b : Bool) → slice_get (tests m fs (known m fs front) parts s) n ≡ Some (is_record_of 12 s && b) → b ≡ false
    unsaid n b e = elim (cases_Bool b) [
      | inl t ↦ absurd (clear.none (suc n) (record { parts = parts; says = λ h. says_here; breaks = holds_at (tests m fs (known m fs front) parts s) n (is_record_of 12 s && b) e ∙ ap (λ c. c && b) here ∙ t }))
      | inr f ↦ f
    ]

    pub seven : m7 m (known m fs front) (code_of s.item) (fields_of fs s.item) ≡ false
    seven = unsaid 6 (m7 m (known m fs front) (code_of s.item) (fields_of fs s.item)) refl

    pub twelve : many_blocks m (known m fs front) (code_of s.item) (fields_of fs s.item) ≡ false
    twelve = unsaid 11 (many_blocks m (known m fs front) (code_of s.item) (fields_of fs s.item)) refl

    pub thirteen : passes 32768 (known m fs front).instructions (if is_instruction (code_of s.item) then 1 else 0) ≡ false
    thirteen = unsaid 12 (passes 32768 (known m fs front).instructions (if is_instruction (code_of s.item) then 1 else 0)) refl

    pub fourteen : passes 65536 (known m fs front).cases (cases_by (code_of s.item) (fields_of fs s.item)) ≡ false
    fourteen = unsaid 13 (passes 65536 (known m fs front).cases (cases_by (code_of s.item) (fields_of fs s.item))) refl

    pub fifteen : passes 262144 (known m fs front).entries (entries_by (code_of s.item) (fields_of fs s.item)) ≡ false
    fifteen = unsaid 14 (passes 262144 (known m fs front).entries (entries_by (code_of s.item) (fields_of fs s.item))) refl

  -- ---- a line more

  module _ (front : List Site) (s : Site) (ls : List Line) (line : Line) (constants : ℕ) (h : Holds (known m fs front) constants front ls) (is : IsLineAt m fs (known m fs front) s line)
      (clear : IsUnbroken (Breaks m fs) front s) (here : is_record_of 12 s ≡ true) (ins : is_instruction (code_of s.item) ≡ true) (above : IsAbove front s) where
    abbrev p : Progress
    p = known m fs front

    abbrev code : ℕ
    code = code_of s.item

    abbrev fields : List ℕ
    fields = fields_of fs s.item

    abbrev said : Option Parts
    said = Some (record { numbers = line.numbers; types = line.types; plain = line.plain })

    abbrev new : Progress
    new = record_after m p code fields

    begun : p.started ≡ true
    begun = began p.started (is_listed code) (code == 1) (nat_lt 0 (get_or fields 0 0)) (seven front s clear here said is.parts) (not_first (code == 1) (if code == 33 then false else if code == 35 then false else true) ins)

    same_cases : cases_by code fields ≡ cases_in line
    same_cases = by (code == 12) refl ∙ ap (λ k. if k == 12 then length (cases_of line) else 0) (sym is.code) where
      by : (b : Bool) → (code == 12) ≡ b → (if b then (length fields - 3) / 2 else 0) ≡ (if b then length (cases_of line) else 0)
      by false e = refl
      by true e =
          let w = switch_said (around_of m fs p) fields (record { numbers = line.numbers; types = line.types; plain = line.plain })
          (subst (λ (k : ℕ). HasLayout (around_of m fs p) (rows_of k fields) fields (record { numbers = line.numbers; types = line.types; plain = line.plain })) (eqb-true code 12 e) is.parts) in
          let t = goes_twice p.blocks w.tail w.goes in
          let n : length (cases_of line) ≡ length (pairs_of w.tail) = ap (λ (ns : List ℕ). length (pairs_of (drop 2 ns))) w.is in
          omega (arith, t, n, w.long)

    same_entries : entries_by code fields ≡ entries_in line
    same_entries = by (code == 16) refl ∙ ap (λ k. if k == 16 then length (entries_of line) else 0) (sym is.code) where
      by : (b : Bool) → (code == 16) ≡ b → (if b then (length fields - 1) / 2 else 0) ≡ (if b then length (entries_of line) else 0)
      by false e = refl
      by true e =
          let w = phi_said (around_of m fs p) fields (record { numbers = line.numbers; types = line.types; plain = line.plain })
          (subst (λ (k : ℕ). HasLayout (around_of m fs p) (rows_of k fields) fields (record { numbers = line.numbers; types = line.types; plain = line.plain })) (eqb-true code 16 e) is.parts) in
          let t = goes_twice p.blocks line.numbers w.goes in
          omega (arith, t, w.long)

    same_given : gives_value line ≡ gives m p.now code fields
    same_given = ap (λ (o : Option ℕ). is_some o) is.value ∙ is_chosen (gives m p.now code fields) p.now

    long : length (ls ++ line ∷ []) ≡ length ls + 1
    long = length_push ls line

    kept_blocks : new.blocks ≡ p.blocks
    kept_blocks = ap (λ b. if b then p.blocks else get_or fields 0 0) begun

    cases_now : new.cases ≡ sum_by cases_in (ls ++ line ∷ [])
    cases_now = let t = sum_more cases_in ls line in omega (arith, h.cases, same_cases, t)

    entries_now : new.entries ≡ sum_by entries_in (ls ++ line ∷ [])
    entries_now = let t = sum_more entries_in ls line in omega (arith, h.entries, same_entries, t)

    here_good : GoodAt new.blocks (first_number m (p.bodies - 1) + constants) (ls ++ line ∷ []) (length ls) line
    here_good = record {
      placed = record { front = front; place = s; is = is; clear = clear; here = here };
      block = is.block ∙ h.ended ∙ ap (count_by ends_block) (sym (take-append_seam ls (line ∷ [])));
      now = h.now ∙ ap (λ (l : List Line). (first_number m (p.bodies - 1) + constants) + count_by gives_value l) (sym (take-append_seam ls (line ∷ [])));
      same_blocks = sym kept_blocks;
    }

    older : (i : ℕ) (l : Line) → i < length ls → slice_get ls i ≡ Some l → GoodAt new.blocks (first_number m (p.bodies - 1) + constants) (ls ++ line ∷ []) i l
    older i l lt at =
        let g = h.each i l at in
        let cut = take-append-le i ls (line ∷ []) (omega arith) in
        record {
          placed = g.placed;
          block = g.block ∙ ap (count_by ends_block) (sym cut);
          now = g.now ∙ ap (λ (k : List Line). (first_number m (p.bodies - 1) + constants) + count_by gives_value k) (sym cut);
          same_blocks = g.same_blocks ∙ sym kept_blocks;
        }

    each_now : (i : ℕ) (l : Line) → slice_get (ls ++ line ∷ []) i ≡ Some l → GoodAt new.blocks (first_number m (p.bodies - 1) + constants) (ls ++ line ∷ []) i l
    each_now i l at = elim (push_at ls line l i at) [
      | inl o ↦ older i l o.0 o.1
      | inr o ↦ subst (λ (z : Line). GoodAt new.blocks (first_number m (p.bodies - 1) + constants) (ls ++ line ∷ []) i z) o.1
          (subst (λ (k : ℕ). GoodAt new.blocks (first_number m (p.bodies - 1) + constants) (ls ++ line ∷ []) k line) (sym o.0) here_good)
    ]

    bits_now : (i : ℕ) (l : Line) → slice_get (ls ++ line ∷ []) i ≡ Some l → Stands (front ++ s ∷ []) l.bit
    bits_now i l at = elim (push_at ls line l i at) [
      | inl o ↦ stands_on front s l.bit (h.bits i l o.1)
      | inr o ↦ record { index = length front; site = s; at = at_end front s; is = sym is.bit ∙ ap (λ (z : Line). z.bit) o.1 }
    ]

    rises_now : (i j : ℕ) (a b : Line) → i < j → slice_get (ls ++ line ∷ []) i ≡ Some a → slice_get (ls ++ line ∷ []) j ≡ Some b → a.bit < b.bit
    rises_now i j a b lt at au = elim (push_at ls line b j au) [
      | inl o ↦ elim (push_at ls line a i at) [
        | inl q ↦ h.rises i j a b lt q.1 o.1
        | inr q ↦ absurd (omega (arith, q.0, o.0, lt))
      ]
      | inr o ↦ elim (push_at ls line a i at) [
        | inl q ↦ (
            let t = h.bits i a q.1 in
            let g = above.above t.index t.site t.at in
            omega (arith, t.is, g, is.bit, ap (λ (z : Line). z.bit) o.1))
        | inr q ↦ absurd (omega (arith, q.0, o.0, lt))
      ]
    ]

    few_now : length ls + 1 ≤ 32768
    few_now =
        let q = h.instructions in
        let f = h.few in
        let one : ◌≡◌ {A = ℕ} (if is_instruction code then 1 else 0) 1 = ap (λ b. if b then 1 else 0) ins in
        let w = within 32768 p.instructions (if is_instruction code then 1 else 0) (omega (arith, q, f)) (thirteen front s clear here said is.parts) in
        omega (arith, w, one, q)

    pub line_more : Holds new constants (front ++ s ∷ []) (ls ++ line ∷ [])
    line_more = record {
      instructions = let e : new.instructions ≡ p.instructions + 1 = ap (λ b. if b then p.instructions + 1 else p.instructions) ins in let q = h.instructions in omega (arith, e, q, long);
      few = let f = few_now in omega (arith, f, long);
      ended = ap (λ k. if is_terminator k then p.block + 1 else p.block) (sym is.code) ∙ ap (λ n. if ends_block line then n + 1 else n) h.ended ∙ sym (count_more ends_block ls line);
      closed = ap (λ b. if b then is_terminator code else p.closed) ins ∙ ap is_terminator (sym is.code) ∙ sym (last_passes-append ends_block ls line);
      cases = cases_now;
      few_cases = let w = within 65536 p.cases (cases_by code fields) (let f = h.few_cases in let q = h.cases in omega (arith, f, q)) (fourteen front s clear here said is.parts) in omega (arith, w, cases_now);
      entries = entries_now;
      few_entries = let w = within 262144 p.entries (entries_by code fields) (let f = h.few_entries in let q = h.entries in omega (arith, f, q)) (fifteen front s clear here said is.parts) in omega (arith, w, entries_now);
      now = one_more (gives m p.now code fields) p.now (first_number m (p.bodies - 1) + constants) (count_by gives_value ls) h.now
          ∙ ap (λ b. (first_number m (p.bodies - 1) + constants) + (if b then count_by gives_value ls + 1 else count_by gives_value ls)) (sym same_given)
          ∙ ap (λ n. (first_number m (p.bodies - 1) + constants) + n) (sym (count_more gives_value ls line));
      few_blocks = let f = h.few_blocks in omega (arith, f, kept_blocks);
      started = λ g. refl;
      each = each_now;
      bits = bits_now;
      rises = rises_now;
    }

  -- ---- another record of the body

  module _ (front : List Site) (s : Site) (ls : List Line) (constants : ℕ) (h : Holds (known m fs front) constants front ls)
      (clear : IsUnbroken (Breaks m fs) front s) (here : is_record_of 12 s ≡ true) (ins : is_instruction (code_of s.item) ≡ false) where
    abbrev was : Progress
    was = known m fs front

    abbrev its : ℕ
    its = code_of s.item

    abbrev all : List ℕ
    all = fields_of fs s.item

    abbrev next : Progress
    next = record_after m was its all

    silent : IsQuiet its
    silent = quiet its ins

    read : (o : Option Parts) × Says (around_of m fs was) its all o
    read = quiet_said (around_of m fs was) all its (three its ins)

    first_blocks : was.started ≡ false → get_or all 0 0 ≤ 8192
    first_blocks e =
        let w = seven front s clear here read.0 read.1 in
        let one : (its == 1) ≡ true = first_is (is_listed its) (its == 1) (nat_lt 0 (get_or all 0 0)) (sym (ap (λ b. not (is_listed its) || (if b then its == 1 else not (its == 1 && nat_lt 0 (get_or all 0 0)))) e) ∙ w) in
        ltb-false 8192 (get_or all 0 0) (and_with (its == 1) (nat_lt 8192 (get_or all 0 0)) one (twelve front s clear here read.0 read.1))

    small_blocks : next.blocks ≤ 8192
    small_blocks = by was.started refl where
      by : (b : Bool) → was.started ≡ b → (if b then was.blocks else get_or all 0 0) ≤ 8192
      by true e = h.few_blocks
      by false e = first_blocks e

    kept_each : (i : ℕ) (line : Line) → slice_get ls i ≡ Some line → GoodAt next.blocks (first_number m (was.bodies - 1) + constants) ls i line
    kept_each i line at =
        let lt : 0 < length ls = let w = slice_get_within ls i line at in omega arith in
        subst (λ (n : ℕ). GoodAt n (first_number m (was.bodies - 1) + constants) ls i line) (ap (λ b. if b then was.blocks else get_or all 0 0) (sym (h.started lt))) (h.each i line at)

    pub record_more : Holds next constants (front ++ s ∷ []) ls
    record_more = record {
      instructions = ap (λ b. if b then was.instructions + 1 else was.instructions) ins ∙ h.instructions;
      few = h.few;
      ended = ap (λ b. if b then was.block + 1 else was.block) silent.no_end ∙ h.ended;
      closed = ap (λ b. if b then is_terminator its else was.closed) ins ∙ h.closed;
      cases = let z : cases_by its all ≡ 0 = ap (λ b. if b then (length all - 3) / 2 else 0) silent.no_switch in let q = h.cases in omega (arith, z, q);
      few_cases = h.few_cases;
      entries = let z : entries_by its all ≡ 0 = ap (λ b. if b then (length all - 1) / 2 else 0) silent.no_phi in let q = h.entries in omega (arith, z, q);
      few_entries = h.few_entries;
      now = ap (λ b. if b && not (its == 34 && (signature_of m was.now all).is_void) then was.now + 1 else was.now) silent.no_value ∙ h.now;
      few_blocks = small_blocks;
      started = λ g. refl;
      each = kept_each;
      bits = λ i line at. stands_on front s line.bit (h.bits i line at);
      rises = h.rises;
    }

  -- ---- a constant, and what changes nothing

  pub constant_more : (p : Progress) (constants : ℕ) (front : List Site) (s : Site) → Holds p constants front [] → Holds (constant_after p) (constants + 1) (front ++ s ∷ []) []
  constant_more p constants front s h = record {
    instructions = h.instructions;
    few = h.few;
    ended = h.ended;
    closed = h.closed;
    cases = h.cases;
    few_cases = h.few_cases;
    entries = h.entries;
    few_entries = h.few_entries;
    now = let q = h.now in omega (arith, q);
    few_blocks = h.few_blocks;
    started = h.started;
    each = λ i line at. cc;
    bits = λ i line at. cc;
    rises = h.rises;
  }

  pub other_more : (p : Progress) (constants : ℕ) (front : List Site) (s : Site) (ls : List Line) → Holds p constants front ls → Holds p constants (front ++ s ∷ []) ls
  other_more p constants front s ls h = record {
    instructions = h.instructions;
    few = h.few;
    ended = h.ended;
    closed = h.closed;
    cases = h.cases;
    few_cases = h.few_cases;
    entries = h.entries;
    few_entries = h.few_entries;
    now = h.now;
    few_blocks = h.few_blocks;
    started = h.started;
    each = h.each;
    bits = λ i line at. stands_on front s line.bit (h.bits i line at);
    rises = h.rises;
  }

  -- ---- the entry of a body

  pub begins : (p : Progress) (bit : ℕ) (front : List Site) → Holds (begun_at m p bit) 0 front []
  begins p bit front = record {
    instructions = refl;
    few = omega arith;
    ended = refl;
    closed = refl;
    cases = refl;
    few_cases = omega arith;
    entries = refl;
    few_entries = omega arith;
    now = let e : p.bodies + 1 - 1 ≡ p.bodies = omega arith in let f : first_number m (p.bodies + 1 - 1) ≡ first_number m p.bodies = ap (first_number m) e in let z : count_by gives_value [] ≡ 0 = refl in omega (arith, f, z);
    few_blocks = omega arith;
    started = λ g. absurd (omega arith);
    each = λ i line at. cc;
    bits = λ i line at. cc;
    rises = λ i j a b lt at au. cc;
  }
