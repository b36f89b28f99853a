-- The entries of a phi name exactly the predecessors.
use Rattle.std.proofs.Common.{ℕ, ◌≡◌, ◌==◌, ◌||◌, refl, sym, ap, ◌∙◌, List, [], ◌∷◌, map, Bool, true, false, not}
use Rattle.std.specs.List.{list_any}
use Rattle.std.proofs.lemmas.Bool.{eqb-true}
use Rattle.std.proofs.lemmas.List.Folds.{list_any_at, Any-from_list_any}
use Rattle.llvm_bodies.specs.declared.line.Line.{Line}
use Rattle.profile_tables.specs.EntryBody.{EntryBody}
use Rattle.profile_tables.specs.Parts.{entries_of, has_target, leads, is_predecessor}
use Rattle.profile_tables.specs.Tables.{has}
use Rattle.profile_rules.specs.Rules.{is_entry, has_stranger, lacks, lacks_entry}
use Rattle.profile_rules.proofs.PhiLaws.{eq_refl, and_left, and_right}

any_map : {A B : Type 0} (p : B → Bool) (f : A → B) (xs : List A) → list_any p (map f xs) ≡ list_any (λ x. p (f x)) xs
any_map p f [] = refl
any_map p f (x ∷ xs) = ap (λ b. p (f x) || b) (any_map p f xs)

any_same : {A : Type 0} (p q : A → Bool) (xs : List A) → ((x : A) → p x ≡ q x) → list_any p xs ≡ list_any q xs
any_same p q [] e = refl
any_same p q (x ∷ xs) e = rw (e x, any_same p q xs e) refl

both : (a b : Bool) → (a ≡ true → b ≡ true) → (b ≡ true → a ≡ true) → a ≡ b
both true b f g = sym (f refl)
both false true f g = g refl
both false false f g = refl

module _ (x : EntryBody) (line : Line) (froms : List ℕ) (known : (a : ℕ) → has froms a ≡ is_predecessor x line.block a) where
  pub strangers : list_any (λ n. not (has froms n)) (map (λ (e : ℕ × ℕ). e.1) (entries_of line)) ≡ has_stranger x line
  strangers = any_map (λ n. not (has froms n)) (λ (e : ℕ × ℕ). e.1) (entries_of line) ∙ any_same (λ (e : ℕ × ℕ). not (has froms e.1)) (λ (e : ℕ × ℕ). not (is_predecessor x line.block e.1)) (entries_of line) (λ e. ap not (known e.1))

  named : (a : ℕ) → has (map (λ (e : ℕ × ℕ). e.1) (entries_of line)) a ≡ is_entry line a
  named a = any_map (λ m. m == a) (λ (e : ℕ × ℕ). e.1) (entries_of line)

  down : list_any (λ n. not (has (map (λ (e : ℕ × ℕ). e.1) (entries_of line)) n)) froms ≡ true → lacks_entry x line ≡ true
  down e =
      let (k, a, within, stands, good) = Any-from_list_any (λ n. not (has (map (λ (e : ℕ × ℕ). e.1) (entries_of line)) n)) froms e in
      let present : has froms a ≡ true = list_any_at (λ m. m == a) froms k a within (ap (λ m. m == a) stands ∙ eq_refl a) in
      let (j, l, inside, is, leading) = Any-from_list_any (leads a line.block) x.lines (sym (known a) ∙ present) in
      let block = eqb-true l.block a (and_left (l.block == a) (has_target line.block l) leading) in
      let missing : not (is_entry line l.block) ≡ true = ap (λ b. not (is_entry line b)) block ∙ ap not (sym (named a)) ∙ good in
      let here : lacks line l ≡ true = rw (and_right (l.block == a) (has_target line.block l) leading) missing in
      list_any_at (lacks line) x.lines j l inside (ap (lacks line) is ∙ here)

  up : lacks_entry x line ≡ true → list_any (λ n. not (has (map (λ (e : ℕ × ℕ). e.1) (entries_of line)) n)) froms ≡ true
  up e =
      let (j, l, inside, is, good) = Any-from_list_any (lacks line) x.lines e in
      let target = and_left (has_target line.block l) (not (is_entry line l.block)) good in
      let missing = and_right (has_target line.block l) (not (is_entry line l.block)) good in
      let leading : leads l.block line.block l ≡ true = rw (eq_refl l.block) target in
      let present : has froms l.block ≡ true = known l.block ∙ list_any_at (leads l.block line.block) x.lines j l inside (ap (leads l.block line.block) is ∙ leading) in
      let (k, a, within, stands, same) = Any-from_list_any (λ m. m == l.block) froms present in
      let block = eqb-true a l.block same in
      let here : not (has (map (λ (e : ℕ × ℕ). e.1) (entries_of line)) a) ≡ true = ap not (named a ∙ ap (is_entry line) block) ∙ missing in
      list_any_at (λ n. not (has (map (λ (e : ℕ × ℕ). e.1) (entries_of line)) n)) froms k a within (ap (λ n. not (has (map (λ (e : ℕ × ℕ). e.1) (entries_of line)) n)) stands ∙ here)

  pub lacking : list_any (λ n. not (has (map (λ (e : ℕ × ℕ). e.1) (entries_of line)) n)) froms ≡ lacks_entry x line
  lacking = both _ _ down up

-- ---- as the tests tell it

pub stranger_by : (x : EntryBody) (line : Line) (froms blocks : List ℕ) → ((a : ℕ) → has froms a ≡ is_predecessor x line.block a) → blocks ≡ map (λ (e : ℕ × ℕ). e.1) (entries_of line)
    → (b : Bool) → b ≡ list_any (λ n. not (has froms n)) blocks → has_stranger x line ≡ b
stranger_by x line froms blocks known is b e = sym (strangers x line froms known) ∙ ap (list_any (λ n. not (has froms n))) (sym is) ∙ sym e

pub lacking_by : (x : EntryBody) (line : Line) (froms blocks : List ℕ) → ((a : ℕ) → has froms a ≡ is_predecessor x line.block a) → blocks ≡ map (λ (e : ℕ × ℕ). e.1) (entries_of line)
    → (b : Bool) → b ≡ list_any (λ n. not (has blocks n)) froms → lacks_entry x line ≡ b
lacking_by x line froms blocks known is b e = sym (lacking x line froms known) ∙ ap (λ (l : List ℕ). list_any (λ n. not (has l n)) froms) (sym is) ∙ sym e
