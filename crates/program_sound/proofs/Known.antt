-- The type and the kind of a value of a body: that of the line which gives it.
use Rattle.std.proofs.Common.{ℕ, zero, suc, ◌≡◌, ◌+◌, ◌-◌, ◌<◌, ◌≤◌, inl, inr, refl, sym, ap, ◌∙◌, arith, true, cond, List, [], ◌∷◌, ◌++◌, map, length, take, drop, take-append-drop, get_or, slice_get, Option, Some, None, is_some, count_by}
use Rattle.std.proofs.lemmas.Bool.{cases_order}
use Rattle.std.proofs.lemmas.List.{length-append, length-map, length_push, get_or_append_left, get_or_push, get_or_past}
use Rattle.std.proofs.lemmas.Option.{same_Some}
use Rattle.llvm_bodies.specs.declared.line.Line.{Line}
use Rattle.profile_lines.specs.Pool.{Pool}
use Rattle.profile_lines.specs.Values.{known_of, known_line, known_from, known_values, unknown, with_value}
use Rattle.profile_lines.specs.declared.known.Known.{Known}
use Rattle.profile_tables.specs.EntryBody.{EntryBody}
use Rattle.profile_tables.specs.Read.{IsRead, IsAt, gives_value, first_value}
use Rattle.program_sound.proofs.Lists.{count-cons, count_apart, nth}

module _ (x : Pool) (all : List Line) (values : ℕ) where
  from-append : (known : List Known) (xs ys : List Line) → known_from x all values known (xs ++ ys) ≡ known_from x all values (known_from x all values known xs) ys
  from-append known [] ys = refl
  from-append known (l ∷ xs) ys = from-append (with_value x all values known l l.value) xs ys

  with_length : (known : List Known) (line : Line) (o : Option ℕ) → length (with_value x all values known line o) ≡ length known + cond (is_some o) 1 0
  with_length known line None = omega arith
  with_length known line (Some v) = length_push known (known_line x all values known line)

  pub from_length : (known : List Known) (xs : List Line) → length (known_from x all values known xs) ≡ length known + count_by gives_value xs
  from_length known [] = omega arith
  from_length known (l ∷ xs) = omega (arith, from_length (with_value x all values known l l.value) xs, with_length known l l.value, count-cons gives_value l xs)

  with_keeps : (known : List Known) (line : Line) (o : Option ℕ) (j : ℕ) → j < length known → get_or (with_value x all values known line o) j unknown ≡ get_or known j unknown
  with_keeps known line None j l = refl
  with_keeps known line (Some v) j l = get_or_append_left known (known_line x all values known line ∷ []) unknown j l

  -- lines behind change nothing of what is known
  from_keeps : (known : List Known) (xs : List Line) (j : ℕ) → j < length known → get_or (known_from x all values known xs) j unknown ≡ get_or known j unknown
  from_keeps known [] j l = refl
  from_keeps known (w ∷ xs) j l = from_keeps (with_value x all values known w w.value) xs j (omega (arith, with_length known w w.value)) ∙ with_keeps known w w.value j l

  from_line : (known : List Known) (line : Line) (xs : List Line) (o : Option ℕ) (v : ℕ) → o ≡ Some v → get_or (known_from x all values (with_value x all values known line o) xs) (length known) unknown ≡ known_line x all values known line
  from_line known line xs None v e = cc
  from_line known line xs (Some w) v e = from_keeps (known ++ known_line x all values known line ∷ []) xs (length known) (omega (arith, length_push known (known_line x all values known line)))
      ∙ get_or_push known (known_line x all values known line) unknown (length known) refl

  -- a list is what stands before a place, what stands there, and the rest
  split_at : (xs : List Line) (i : ℕ) (l : Line) → slice_get xs i ≡ Some l → xs ≡ take i xs ++ (l ∷ drop (suc i) xs)
  split_at [] i l e = cc
  split_at (w ∷ xs) zero l e = ap (λ k. k ∷ xs) (same_Some w l e)
  split_at (w ∷ xs) (suc i) l e = ap (λ ks. w ∷ ks) (split_at xs i l e)

  pub from_at : (known : List Known) (xs : List Line) (i v : ℕ) (l : Line) → slice_get xs i ≡ Some l → l.value ≡ Some v
      → get_or (known_from x all values known xs) (length (known_from x all values known (take i xs))) unknown ≡ known_line x all values (known_from x all values known (take i xs)) l
  from_at known xs i v l e f =
      ap (λ ks. get_or ks (length (known_from x all values known (take i xs))) unknown) (ap (known_from x all values known) (split_at xs i l e) ∙ from-append known (take i xs) (l ∷ drop (suc i) xs))
      ∙ from_line (known_from x all values known (take i xs)) l (drop (suc i) xs) l.value v f

  pub from_before : (known : List Known) (xs : List Line) (i j : ℕ) → j < length (known_from x all values known (take i xs)) → get_or (known_from x all values known xs) j unknown ≡ get_or (known_from x all values known (take i xs)) j unknown
  from_before known xs i j l =
      let rest = from_keeps (known_from x all values known (take i xs)) (drop i xs) j l in
      ap (λ ks. get_or (known_from x all values known ks) j unknown) (sym (take-append-drop i xs)) ∙ ap (λ ks. get_or ks j unknown) (from-append known (take i xs) (drop i xs)) ∙ rest

-- what is known of a value
abbrev pub known_at : EntryBody → ℕ → Known
known_at x v = get_or (known_values x.pool x.values x.lines) v unknown

abbrev pub stated_values : Pool → List Known
stated_values x = map (known_of x) x.globals ++ map (known_of x) x.constants

-- what is known before a line
abbrev pub known_before : EntryBody → ℕ → List Known
known_before x i = known_from x.pool x.lines x.values (stated_values x.pool) (take i x.lines)

-- a value of an instruction, and its line
pub record IsGivenBy (x : EntryBody) (v i : ℕ) (line : Line) : Type 0 where
  pub at : IsAt x i line
  pub value : line.value ≡ Some v

pub record HasSetter (x : EntryBody) (v : ℕ) : Type 0 where
  pub i : ℕ
  pub line : Line
  pub by : IsGivenBy x v i line

module _ (x : EntryBody) (counts : List ℕ) (read : IsRead x counts) where
  stated_length : length (stated_values x.pool) ≡ first_value x
  stated_length = length-append (map (known_of x.pool) x.pool.globals) (map (known_of x.pool) x.pool.constants)
      ∙ ap (λ n. n + length (map (known_of x.pool) x.pool.constants)) (length-map x.pool.globals (known_of x.pool)) ∙ ap (λ n. length x.pool.globals + n) (length-map x.pool.constants (known_of x.pool))

  pub before_length : (v i : ℕ) (line : Line) → IsGivenBy x v i line → length (known_before x i) ≡ v
  before_length v i line g = from_length x.pool x.lines x.values (stated_values x.pool) (take i x.lines) ∙ ap (λ n. n + count_by gives_value (take i x.lines)) stated_length ∙ sym (read.numbered i v line g.at g.value)

  pub known_is : (v i : ℕ) (line : Line) → IsGivenBy x v i line → known_at x v ≡ known_line x.pool x.lines x.values (known_before x i) line
  unfolding known_values
  known_is v i line g = ap (λ n. known_at x n) (sym (before_length v i line g)) ∙ from_at x.pool x.lines x.values (stated_values x.pool) x.lines i v line g.at g.value

  pub known_operand : (v i j : ℕ) (line : Line) → IsGivenBy x v i line → j < v → get_or (known_before x i) j unknown ≡ known_at x j
  unfolding known_values
  known_operand v i j line g l = sym (from_before x.pool x.lines x.values (stated_values x.pool) x.lines i j (omega (arith, before_length v i line g)))

  -- one value, one line
  pub given_once : (v i j : ℕ) (a b : Line) → IsGivenBy x v i a → IsGivenBy x v j b → i ≡ j
  given_once v i j a b g h = elim (cases_order i j) [
    | inl e ↦ e
    | inr (inl l) ↦ absurd (omega (arith, read.numbered i v a g.at g.value, read.numbered j v b h.at h.value, count_apart gives_value x.lines i j a g.at (ap is_some g.value) l))
    | inr (inr l) ↦ absurd (omega (arith, read.numbered i v a g.at g.value, read.numbered j v b h.at h.value, count_apart gives_value x.lines j i b h.at (ap is_some h.value) l))
  ]

  pub setter_there : (v : ℕ) → first_value x ≤ v → v < x.values → HasSetter x v
  setter_there v l k = let n = nth gives_value x.lines (v - first_value x) (omega (arith, read.values)) in value_of n.i n.item n.item.value n.at refl n.passes n.place where
    value_of : (i : ℕ) (line : Line) (o : Option ℕ) → IsAt x i line → line.value ≡ o → is_some o ≡ true → count_by gives_value (take i x.lines) ≡ v - first_value x → HasSetter x v
    value_of i line None at e t c = cc
    value_of i line (Some w) at e t c = let same : w ≡ v = omega (arith, read.numbered i w line at e, c) in record { i = i; line = line; by = record { at = at; value = e ∙ ap Some same } }

  pub known_past : (v : ℕ) → x.values ≤ v → known_at x v ≡ unknown
  unfolding known_values
  known_past v l = get_or_past (known_values x.pool x.values x.lines) v unknown (omega (arith, from_length x.pool x.lines x.values (stated_values x.pool) x.lines, stated_length, read.values))

  pub known_stated : (v : ℕ) → v < first_value x → known_at x v ≡ get_or (stated_values x.pool) v unknown
  unfolding known_values
  known_stated v l = from_keeps x.pool x.lines x.values (stated_values x.pool) x.lines v (omega (arith, stated_length))
