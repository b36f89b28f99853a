-- The tables after one line more.
use Rattle.std.proofs.Common.{ℕ, ◌≡◌, ◌<◌, ◌≤◌, ◌+◌, ◌==◌, ◌||◌, ◌&&◌, refl, sym, ap, ◌∙◌, subst, arith, List, [], length, take, get_or, take_all, Bool, true, false, if◌then◌else◌}
use Rattle.std.specs.List.{list_any}
use Rattle.std.proofs.lemmas.List.Folds.{list_any_more}
use Rattle.llvm_bodies.specs.declared.line.Line.{Line}
use Rattle.profile_lines.specs.Calls.{operand}
use Rattle.profile_tables.specs.Parts.{takes, taken_of, leads, has_target, goes_to, cases_of}
use Rattle.profile_tables.specs.Tables.{AreTaken, IsMarked, taken_more, has, AreFroms, IsAdded, AreAdded, IsLed}
use Rattle.profile_tables.specs.declared.masks.Taken.{Taken}

-- ---- masks

taken_step : (lines : List Line) (i v : ℕ) (d : Line) → i < length lines → taken_of (take (i + 1) lines) v ≡ taken_more (taken_of (take i lines) v) (get_or lines i d) v
taken_step lines i v d h =
    let x = list_any_more (takes v 0) lines i d h in
    let y = list_any_more (takes v 1) lines i d h in
    let z = list_any_more (takes v 2) lines i d h in
    let w = list_any_more (takes v 3) lines i d h in
    rw (x, y, z, w) refl

pub taken_next : (lines : List Line) (i : ℕ) (d : Line) (old new : List Taken) → AreTaken (take i lines) old → i < length lines → d ≡ get_or lines i d → IsMarked d old new → AreTaken (take (i + 1) lines) new
taken_next lines i d old new a h is m = record {
  each = λ v e b. m.each v e (let s = m.same_length in omega arith) ∙ ap (λ t. taken_more t d v) (a.each v e (let s = m.same_length in omega arith)) ∙ ap (λ l. taken_more (taken_of (take i lines) v) l v) is ∙ sym (taken_step lines i v d h);
}

pub taken_whole : (lines : List Line) (i : ℕ) (table : List Taken) → AreTaken (take i lines) table → length lines ≤ i → AreTaken lines table
taken_whole lines i table a h = subst (λ (ls : List Line). AreTaken ls table) (take_all i lines h) a

-- ---- predecessors

more_or : (o a b e : Bool) → ((o || (a && e)) || (b && e)) ≡ (o || ((a || b) && e))
more_or true a b e = refl
more_or false true true true = refl
more_or false true false true = refl
more_or false true true false = refl
more_or false true false false = refl
more_or false false b e = refl

pub added_none : (from : ℕ) (table : List (List ℕ)) → AreAdded [] from table table
added_none from table = record { same_length = refl; each = λ b a h. or_false (has (get_or table b []) a) } where
  or_false : (c : Bool) → c ≡ (c || false)
  or_false true = refl
  or_false false = refl

pub added_next : (pairs : List (ℕ × ℕ)) (i from : ℕ) (d : ℕ × ℕ) (start old new : List (List ℕ)) → AreAdded (take i pairs) from start old → i < length pairs → IsAdded (get_or pairs i d).1 from old new
    → AreAdded (take (i + 1) pairs) from start new
added_next pairs i from d start old new a h n = record {
  same_length = n.same_length ∙ a.same_length;
  each = λ b c g. n.each b c (let s = a.same_length in omega arith) ∙ ap (λ o. o || ((get_or pairs i d).1 == b && from == c)) (a.each b c g)
      ∙ more_or (has (get_or start b []) c) (list_any (λ p. p.1 == b) (take i pairs)) ((get_or pairs i d).1 == b) (from == c)
      ∙ sym (ap (λ z. has (get_or start b []) c || (z && from == c)) (list_any_more (λ p. p.1 == b) pairs i d h));
}

pub added_whole : (pairs : List (ℕ × ℕ)) (i from : ℕ) (start table : List (List ℕ)) → AreAdded (take i pairs) from start table → length pairs ≤ i → AreAdded pairs from start table
added_whole pairs i from start table a h = subst (λ (ps : List (ℕ × ℕ)). AreAdded ps from start table) (take_all i pairs h) a

pub froms_next : (lines : List Line) (i : ℕ) (d : Line) (old new : List (List ℕ)) → AreFroms (take i lines) old → i < length lines → d ≡ get_or lines i d → IsLed d old new → AreFroms (take (i + 1) lines) new
froms_next lines i d old new a h is n = record {
  each = λ b c g. n.each b c (let s = n.same_length in omega arith) ∙ ap (λ o. o || leads c b d) (a.each b c (let s = n.same_length in omega arith))
      ∙ ap (λ l. list_any (leads c b) (take i lines) || leads c b l) is ∙ sym (list_any_more (leads c b) lines i d h);
}

pub froms_whole : (lines : List Line) (i : ℕ) (table : List (List ℕ)) → AreFroms (take i lines) table → length lines ≤ i → AreFroms lines table
froms_whole lines i table a h = subst (λ (ls : List Line). AreFroms ls table) (take_all i lines h) a

-- ---- switches

led_or : (o p q e : Bool) → ((o || (p && e)) || (q && e)) ≡ (o || (e && (p || q)))
led_or true p q e = refl
led_or false true true true = refl
led_or false true false true = refl
led_or false true true false = refl
led_or false true false false = refl
led_or false false true true = refl
led_or false false true false = refl
led_or false false false true = refl
led_or false false false false = refl

pub led_switch : (line : Line) (old middle new : List (List ℕ)) → line.code ≡ 12 → IsAdded (operand line 1) line.block old middle → AreAdded (cases_of line) line.block middle new → IsLed line old new
led_switch line old middle new is a b = record {
  same_length = b.same_length ∙ a.same_length;
  each = λ k c h. b.each k c (let s = a.same_length in omega arith) ∙ ap (λ o. o || (list_any (λ p. p.1 == k) (cases_of line) && line.block == c)) (a.each k c h)
      ∙ led_or (has (get_or old k []) c) (operand line 1 == k) (list_any (λ p. p.1 == k) (cases_of line)) (line.block == c)
      ∙ ap (λ t. has (get_or old k []) c || (line.block == c && t)) (sym (targets k));
} where
  targets : (k : ℕ) → has_target k line ≡ (operand line 1 == k || goes_to k (cases_of line))
  targets k = by_code line.code is where
    by_code : (code : ℕ) → code ≡ 12 → (if code == 11 then (if length line.numbers == 1 then operand line 0 == k else (operand line 0 == k || operand line 1 == k)) else if code == 12 then (operand line 1 == k || goes_to k (cases_of line)) else false)
        ≡ (operand line 1 == k || goes_to k (cases_of line))
    by_code code e = rw e refl
