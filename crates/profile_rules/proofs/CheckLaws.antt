-- The first rule of a line, and the first line that breaks one.
use Rattle.std.proofs.Common.{ℕ, zero, suc, ◌≡◌, ◌<◌, ◌≤◌, ◌+◌, min, refl, sym, ap, ◌∙◌, subst, arith, List, [], ◌∷◌, ◌++◌, take, length, get_or, slice_get, replicate, Bool, true, false, Option, Some, None}
use Rattle.std.specs.List.{sum_by, range_with_len}
use Rattle.std.specs.BTreeMap as tree
use Rattle.std.proofs.lemmas.Option.{slice_get-get_or}
use Rattle.std.proofs.lemmas.List.Sums.{sum_by-cons}
use Rattle.dx_base.specs.First.{IsFirst, IsSound, IsBroken, IsClear, Rises}
use Rattle.dx_base.specs.Sentences.{first_from, first_that_holds, Stated}
use Rattle.dx_base.proofs.FirstLaws.{clear_none, clear_more, first_here, sound_of}
use Rattle.dx_base.proofs.SentenceLaws.{least_stated, none_stated}
use Rattle.llvm_bodies.specs.declared.line.Line.{Line}
use Rattle.profile_tables.specs.EntryBody.{EntryBody}
use Rattle.profile_rules.specs.Rules.{bit_of_line, sentences, p11, p20}
use Rattle.profile_rules.specs.Seen.{AreVariables, AreRows, AreOwners, Key, key_of, key_cmp, is_other, most}
use Rattle.profile_rules.specs.Checking.{operand_tests, block_tests, place_tests, call_tests, row_tests, listed, tests, IsSeen, IsStep, AreInBlocks}
use Rattle.profile_rules.specs.declared.check.Seen.{Seen}
use Rattle.profile_rules.specs.declared.check.Step.{Step}
use Rattle.profile_rules.specs.declared.rows.Owner.{Owner}
use Rattle.profile_rules.proofs.SeenLaws.{variables_more, rows_more_seen, owners_more, met_is, full_is, many_is}

-- ---- the first of some sentences

abbrev or_next : ℕ → ℕ → ℕ
or_next zero b = b
or_next (suc a) b = suc a

is_next : (a b : ℕ) → 0 < a → a ≡ or_next a b
is_next zero b h = absurd (omega arith)
is_next (suc a) b h = refl

no_next : (a b : ℕ) → a ≤ 0 → or_next a b ≡ b
no_next zero b h = refl
no_next (suc a) b h = absurd (omega arith)

first_append : (n : ℕ) (xs ys : List Bool) → 0 < n → first_from n (xs ++ ys) ≡ or_next (first_from n xs) (first_from (n + length xs) ys)
first_append n [] ys h = let e : n ≡ n + 0 = omega arith in ap (λ (k : ℕ). first_from k ys) e
first_append n (true ∷ xs) ys h = is_next n (first_from (n + length (true ∷ xs)) ys) h
first_append n (false ∷ xs) ys h =
    let e : n + 1 + length xs ≡ n + length (false ∷ xs) = omega arith in
    first_append (n + 1) xs ys (omega arith) ∙ ap (λ (k : ℕ). or_next (first_from (n + 1) xs) (first_from k ys)) e

first_below : (n : ℕ) (bs : List Bool) → 0 < n → first_from n bs < n + length bs
first_below n [] h = omega arith
first_below n (true ∷ bs) h = let e : length (true ∷ bs) ≡ suc (length bs) = refl in omega arith
first_below n (false ∷ bs) h = let r = first_below (n + 1) bs (omega arith) in let e : length (false ∷ bs) ≡ suc (length bs) = refl in omega (arith, r, e)

module _ (x : EntryBody) (line : Line) (step : Step) where
  abbrev of_rows : ℕ
  of_rows = first_from 18 (row_tests x line step.met step.many)

  abbrev of_calls : ℕ
  of_calls = or_next (first_from 13 (call_tests x line)) of_rows

  abbrev of_places : ℕ
  of_places = or_next (first_from 10 (place_tests x line step.full)) of_calls

  abbrev of_blocks : ℕ
  of_blocks = or_next (first_from 5 (block_tests x line)) of_places

  parts : first_that_holds (tests x line step) ≡ or_next (first_from 1 (operand_tests x line)) of_blocks
  parts =
      first_append 1 (operand_tests x line) (block_tests x line ++ (place_tests x line step.full ++ (call_tests x line ++ row_tests x line step.met step.many))) (omega arith)
      ∙ ap (or_next (first_from 1 (operand_tests x line))) (first_append 5 (block_tests x line) (place_tests x line step.full ++ (call_tests x line ++ row_tests x line step.met step.many)) (omega arith)
      ∙ ap (or_next (first_from 5 (block_tests x line))) (first_append 10 (place_tests x line step.full) (call_tests x line ++ row_tests x line step.met step.many) (omega arith)
      ∙ ap (or_next (first_from 10 (place_tests x line step.full))) (first_append 13 (call_tests x line) (row_tests x line step.met step.many) (omega arith))))

  -- at most the limit's number
  pub rule_few : first_that_holds (tests x line step) ≤ 23
  rule_few = let r : first_that_holds (tests x line step) < 24 = first_below 1 (tests x line step) (omega arith) in omega (arith, r)

  pub rule_operand : (a : ℕ) → a ≡ first_from 1 (operand_tests x line) → 0 < a → a ≡ first_that_holds (tests x line step)
  rule_operand a e h = is_next a of_blocks h ∙ ap (λ (k : ℕ). or_next k of_blocks) e ∙ sym parts

  behind_operand : (a : ℕ) → a ≡ first_from 1 (operand_tests x line) → a ≤ 0 → first_that_holds (tests x line step) ≡ of_blocks
  behind_operand a e h = parts ∙ no_next (first_from 1 (operand_tests x line)) of_blocks (omega (arith, e, h))

  pub rule_block : (a b : ℕ) → a ≡ first_from 1 (operand_tests x line) → a ≤ 0 → b ≡ first_from 5 (block_tests x line) → 0 < b → b ≡ first_that_holds (tests x line step)
  rule_block a b ea ha eb hb = is_next b of_places hb ∙ ap (λ (k : ℕ). or_next k of_places) eb ∙ sym (behind_operand a ea ha)

  behind_block : (a b : ℕ) → a ≡ first_from 1 (operand_tests x line) → a ≤ 0 → b ≡ first_from 5 (block_tests x line) → b ≤ 0 → first_that_holds (tests x line step) ≡ of_places
  behind_block a b ea ha eb hb = behind_operand a ea ha ∙ no_next (first_from 5 (block_tests x line)) of_places (omega (arith, eb, hb))

  pub rule_place : (a b p : ℕ) → a ≡ first_from 1 (operand_tests x line) → a ≤ 0 → b ≡ first_from 5 (block_tests x line) → b ≤ 0 → p ≡ first_from 10 (place_tests x line step.full) → 0 < p
      → p ≡ first_that_holds (tests x line step)
  rule_place a b p ea ha eb hb ep hp = is_next p of_calls hp ∙ ap (λ (k : ℕ). or_next k of_calls) ep ∙ sym (behind_block a b ea ha eb hb)

  behind_place : (a b p : ℕ) → a ≡ first_from 1 (operand_tests x line) → a ≤ 0 → b ≡ first_from 5 (block_tests x line) → b ≤ 0 → p ≡ first_from 10 (place_tests x line step.full) → p ≤ 0
      → first_that_holds (tests x line step) ≡ of_calls
  behind_place a b p ea ha eb hb ep hp = behind_block a b ea ha eb hb ∙ no_next (first_from 10 (place_tests x line step.full)) of_calls (omega (arith, ep, hp))

  pub rule_call : (a b p k : ℕ) → a ≡ first_from 1 (operand_tests x line) → a ≤ 0 → b ≡ first_from 5 (block_tests x line) → b ≤ 0 → p ≡ first_from 10 (place_tests x line step.full) → p ≤ 0
      → k ≡ first_from 13 (call_tests x line) → 0 < k → k ≡ first_that_holds (tests x line step)
  rule_call a b p k ea ha eb hb ep hp ek hk = is_next k of_rows hk ∙ ap (λ (n : ℕ). or_next n of_rows) ek ∙ sym (behind_place a b p ea ha eb hb ep hp)

  pub rule_row : (a b p k r : ℕ) → a ≡ first_from 1 (operand_tests x line) → a ≤ 0 → b ≡ first_from 5 (block_tests x line) → b ≤ 0 → p ≡ first_from 10 (place_tests x line step.full) → p ≤ 0
      → k ≡ first_from 13 (call_tests x line) → k ≤ 0 → r ≡ first_from 18 (row_tests x line step.met step.many) → r ≡ first_that_holds (tests x line step)
  rule_row a b p k r ea ha eb hb ep hp ek hk er = er ∙ sym (behind_place a b p ea ha eb hb ep hp ∙ no_next (first_from 13 (call_tests x line)) of_rows (omega (arith, ek, hk)))

-- ---- before the first line

all_false : (n v : ℕ) → get_or (replicate n false) v false ≡ false
all_false zero v = refl
all_false (suc n) zero = refl
all_false (suc n) (suc v) = all_false n v

sum_zero : (a n : ℕ) → sum_by (λ v. 0) (range_with_len a n) ≡ 0
sum_zero a zero = refl
sum_zero a (suc n) = let c = sum_by-cons (λ v. 0) a (range_with_len (a + 1) n) in let r = sum_zero (a + 1) n in omega (arith, c, r)

size : (n : ℕ) → length (replicate n false) ≡ n
size zero = refl
size (suc n) = ap suc (size n)

pub no_variables : (x : EntryBody) (named : List Bool) → named ≡ replicate (length x.pool.globals) false → AreVariables x [] named 0
no_variables x named e = record {
  same_length = ap length e ∙ size (length x.pool.globals);
  each = λ v g. ap (λ (l : List Bool). get_or l v false) e ∙ all_false (length x.pool.globals) v;
  sum = let s = sum_zero 0 (length x.pool.globals) in sym (ap (λ n. min n most) s);
}

pub no_rows : (x : EntryBody) (named : List Bool) → named ≡ replicate (length x.rows) false → AreRows x [] named 0
no_rows x named e = record {
  same_length = ap length e ∙ size (length x.rows);
  each = λ v g. ap (λ (l : List Bool). get_or l v false) e ∙ all_false (length x.rows) v;
  sum = let s = sum_zero 0 (length x.rows) in sym (ap (λ n. min n most) s);
}

pub no_owners : (x : EntryBody) (owners : Key → Option Owner) → ((q : Key) → owners q ≡ None) → AreOwners x [] owners
no_owners x owners e = record { each = λ r row. ap (is_other r) (e (key_of row)) }

-- ---- one line more

pub seen_next : (x : EntryBody) (lines : List Line) (i : ℕ) (d : Line) (old new : Seen) (step : Step) → i < length lines → d ≡ get_or lines i d → IsSeen x (take i lines) old → IsStep x d old new step → IsSeen x (take (i + 1) lines) new
seen_next x lines i d old new step h is a n = record {
  variables = variables_more x lines i d h is _ _ _ _ a.variables n.place;
  rows = rows_more_seen x lines i d h is _ _ _ _ a.rows n.row;
  owners = owners_more x lines i d _ _ h is a.owners n.owned;
}

tests_are : (x : EntryBody) (lines : List Line) (i : ℕ) (d : Line) (old new : Seen) (step : Step) → i < length lines → d ≡ get_or lines i d → IsSeen x (take i lines) old → IsStep x d old new step → tests x d step ≡ sentences x (take i lines) d
tests_are x lines i d old new step h is a n =
    let now = seen_next x lines i d old new step h is a n in
    let full = n.full ∙ full_is x lines i d _ _ h is now.variables in
    let met = n.met ∙ met_is x (take i lines) (tree.get key_cmp old.rows.owners) d a.owners in
    let many = n.many ∙ many_is x lines i d _ _ h is now.rows in
    ap (λ (b : Bool). listed x d b step.met step.many) full ∙ ap (λ (b : Bool). listed x d (p11 x (take i lines) d) b step.many) met ∙ ap (λ (b : Bool). listed x d (p11 x (take i lines) d) (p20 x (take i lines) d) b) many

-- ---- over the lines

-- nothing is broken so far, and this is seen
pub record IsChecking (x : EntryBody) (i : ℕ) (seen : Seen) : Type 0 where
  pub clear : IsClear bit_of_line (Stated (sentences x)) x.lines i
  pub seen_is : IsSeen x (take i x.lines) seen

pub checking_first : (x : EntryBody) (seen : Seen) → IsSeen x [] seen → IsChecking x 0 seen
checking_first x seen e = record { clear = clear_none bit_of_line (Stated (sentences x)) x.lines; seen_is = e }

module _ (x : EntryBody) (ls : List Line) (same : ls ≡ x.lines) (i : ℕ) (d : Line) (old new : Seen) (step : Step) (rule : ℕ) (c : IsChecking x i old) (within : i < length ls) (item : d ≡ get_or ls i d) (n : IsStep x d old new step)
    (r : rule ≡ first_that_holds (tests x d step)) where
  h : i < length x.lines
  h = subst (λ (l : List Line). i < length l) same within

  is : d ≡ get_or x.lines i d
  is = subst (λ (l : List Line). d ≡ get_or l i d) same item

  stands : slice_get x.lines i ≡ Some d
  stands = slice_get-get_or x.lines i d h ∙ ap Some (sym is)

  told : rule ≡ first_that_holds (sentences x (take i x.lines) d)
  told = r ∙ ap first_that_holds (tests_are x x.lines i d old new step h is c.seen_is n)

  pub checking_more : rule ≤ 0 → IsChecking x (i + 1) new
  checking_more z = record {
    clear = clear_more bit_of_line (Stated (sentences x)) x.lines i d c.clear stands (none_stated (sentences x) (take i x.lines) d (omega (arith, told, z)));
    seen_is = seen_next x x.lines i d old new step h is c.seen_is n;
  }

  pub checking_stops : Rises bit_of_line (Stated (sentences x)) x.lines → 0 < rule → (rule ≤ 23) × IsFirst (IsBroken bit_of_line (Stated (sentences x)) x.lines) rule d.bit
  checking_stops up p = (let f = rule_few x d step in omega (arith, f, r), first_here bit_of_line (Stated (sentences x)) x.lines i d rule up c.clear stands (least_stated (sentences x) (take i x.lines) d rule told p))

pub checking_whole : (x : EntryBody) (ls : List Line) → ls ≡ x.lines → (i : ℕ) (seen : Seen) → IsChecking x i seen → length ls ≤ i → i ≤ length ls → IsSound (IsBroken bit_of_line (Stated (sentences x)) x.lines)
checking_whole x ls same i seen c h g =
    let e : i ≡ length ls = omega arith in
    let count : i ≡ length x.lines = e ∙ ap length same in
    sound_of bit_of_line (Stated (sentences x)) x.lines (subst (λ (k : ℕ). IsClear bit_of_line (Stated (sentences x)) x.lines k) count c.clear)

pub in_block : (x : EntryBody) (ls : List Line) → ls ≡ x.lines → (i : ℕ) (d : Line) → AreInBlocks x → i < length ls → d ≡ get_or ls i d → d.block < x.blocks
in_block x ls same i d b h is = b.each i d (ap (λ (l : List Line). slice_get l i) (sym same) ∙ slice_get-get_or ls i d h ∙ ap Some (sym is))
