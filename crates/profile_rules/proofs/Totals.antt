-- Sums of the weights of numbers that are named, as one number more is named.
use Rattle.std.proofs.Common.{ℕ, zero, suc, ◌≡◌, ◌≢◌, ◌<◌, ◌≤◌, ◌+◌, ◌==◌, ◌&&◌, ◌||◌, inl, inr, refl, sym, ap, ◌∙◌, subst, arith, List, length, get_or, nat_lt, Bool, true, false, not, if◌then◌else◌}
use Rattle.std.specs.List.{sum_by, range_with_len}
use Rattle.std.proofs.lemmas.Bool.{cases_lt, cases_eq, ne_eqb, eq-eqb, lt-ltb, le-ltb}
use Rattle.std.proofs.lemmas.List.Sums.{sum_by-cons}

abbrev pub weight : (ℕ → Bool) → (ℕ → ℕ) → ℕ → ℕ
weight named w v = if named v then w v else 0

abbrev pub total : (ℕ → Bool) → (ℕ → ℕ) → ℕ → ℕ → ℕ
total named w a n = sum_by (λ v. if named v then w v else 0) (range_with_len a n)

total_step : (named : ℕ → Bool) (w : ℕ → ℕ) (a n : ℕ) → total named w a (suc n) ≡ weight named w a + total named w (a + 1) n
total_step named w a n = sum_by-cons (λ v. if named v then w v else 0) a (range_with_len (a + 1) n)

total_apart : (named next : ℕ → Bool) (w : ℕ → ℕ) (a n : ℕ) → ((v : ℕ) → a ≤ v → v < a + n → next v ≡ named v) → total next w a n ≡ total named w a n
total_apart named next w a zero e = refl
total_apart named next w a (suc n) e =
    let first : weight next w a ≡ weight named w a = ap (λ b. if b then w a else 0) (e a (omega arith) (omega arith)) in
    let rest = total_apart named next w (a + 1) n (λ v p q. e v (omega arith) (omega arith)) in
    omega (arith, total_step next w a n, total_step named w a n, first, rest)

total_inside : (named next : ℕ → Bool) (w : ℕ → ℕ) (u a n : ℕ) → a ≤ u → u < a + n → ((v : ℕ) → v ≢ u → next v ≡ named v) → named u ≡ false → next u ≡ true → total next w a n ≡ total named w a n + w u
total_inside named next w u a zero p q e f g = absurd (omega arith)
total_inside named next w u a (suc n) p q e f g = elim (cases_lt a u) [
  | inl below ↦
      let first : weight next w a ≡ weight named w a = ap (λ b. if b then w a else 0) (e a (λ k. omega (arith, k))) in
      let rest = total_inside named next w u (a + 1) n (omega arith) (omega arith) e f g in
      omega (arith, total_step next w a n, total_step named w a n, first, rest)
  | inr above ↦
      let same : u ≡ a = omega arith in
      let here : weight next w u ≡ w u = ap (λ b. if b then w u else 0) g in
      let before : weight named w u ≡ 0 = ap (λ b. if b then w u else 0) f in
      let now = subst (λ (k : ℕ). weight next w k ≡ w u) same here in
      let was = subst (λ (k : ℕ). weight named w k ≡ 0) same before in
      let rest = total_apart named next w (a + 1) n (λ v r s. e v (λ k. omega (arith, k))) in
      omega (arith, total_step next w a n, total_step named w a n, now, was, rest)
]

or_false : (b : Bool) → (b || false) ≡ b
or_false true = refl
or_false false = refl

-- nothing more is named
pub total_none : (named next : ℕ → Bool) (w : ℕ → ℕ) (n : ℕ) → ((v : ℕ) → next v ≡ (named v || false)) → total next w 0 n ≡ total named w 0 n + 0
total_none named next w n e = let s = total_apart named next w 0 n (λ v p q. e v ∙ or_false (named v)) in omega (arith, s)

-- the number u is named too; the table tells which ones below n were
pub total_more : (named next : ℕ → Bool) (w : ℕ → ℕ) (n : ℕ) (table : List Bool) (u : ℕ) → length table ≡ n → ((v : ℕ) → v < length table → get_or table v false ≡ named v) → ((v : ℕ) → next v ≡ (named v || u == v))
    → total next w 0 n ≡ total named w 0 n + (if nat_lt u (length table) && not (get_or table u false) then w u else 0)
total_more named next w n table u size known e = elim (cases_lt u (length table)) [
  | inr past ↦ (
      let s = total_apart named next w 0 n (λ v p q. e v ∙ ap (λ b. named v || b) (ne_eqb u v (λ k. omega (arith, k))) ∙ or_false (named v)) in
      let none : (if nat_lt u (length table) && not (get_or table u false) then w u else 0) ≡ 0 = ap (λ b. if b && not (get_or table u false) then w u else 0) (le-ltb u (length table) past) in
      omega (arith, s, none))
  | inl inside ↦ by_name (named u) refl inside
] where
  apart : (v : ℕ) → v ≢ u → next v ≡ named v
  apart v h = e v ∙ ap (λ b. named v || b) (ne_eqb u v (λ k. h (sym k))) ∙ or_false (named v)

  by_name : (b : Bool) → named u ≡ b → u < length table → total next w 0 n ≡ total named w 0 n + (if nat_lt u (length table) && not (get_or table u false) then w u else 0)
  by_name true f inside =
      let every : (v : ℕ) → next v ≡ named v = λ v. elim (cases_eq v u) [
        | inl same ↦ e v ∙ ap (λ k. named k || u == v) same ∙ ap (λ b. b || u == v) f ∙ sym (ap named same ∙ f)
        | inr other ↦ apart v other
      ] in
      let s = total_apart named next w 0 n (λ v p q. every v) in
      let none : (if nat_lt u (length table) && not (get_or table u false) then w u else 0) ≡ 0 = ap (λ b. if b && not (get_or table u false) then w u else 0) (lt-ltb u (length table) inside) ∙ ap (λ b. if not b then w u else 0) (known u inside ∙ f) in
      omega (arith, s, none)
  by_name false f inside =
      let now : next u ≡ true = e u ∙ ap (λ b. b || u == u) f ∙ eq-eqb u u refl in
      let s = total_inside named next w u 0 n (omega arith) (omega (arith, inside, size)) apart f now in
      let one : (if nat_lt u (length table) && not (get_or table u false) then w u else 0) ≡ w u = ap (λ b. if b && not (get_or table u false) then w u else 0) (lt-ltb u (length table) inside) ∙ ap (λ b. if not b then w u else 0) (known u inside ∙ f) in
      omega (arith, s, one)
