-- Where the code of a row stands among the blocks of a function, and what is promised of it there.
use Rattle.std.proofs.Common.{◌≡◌, ◌⊎◌, inl, inr, ℕ, zero, suc, ◌+◌, ◌<◌, ◌≤◌, Bool, false, List, [], ◌∷◌, ◌++◌, length, length-append, Option, Some, sym, ap, ◌∙◌, subst, arith}
use Rattle.std.proofs.lemmas.Bool.{cases_lt}
use Rattle.std.specs.Prelude.{slice_get, map, Contains}
use Rattle.spv_form.specs.declared.module.Inst.{Inst}
use Rattle.flow_rules.specs.Blocks.{BasicBlock}
use Rattle.flow_rules.specs.declared.block.Merge.{Merge}
use Rattle.flow_rules.specs.declared.block.Terminator.TheVariants.{Return}
use Rattle.flow_rules.specs.Flow.{At}
use Rattle.flow_blocks.specs.Blocks.{Labeled, Open}
use Rattle.flow_blocks.specs.Numbered.{numbered_block}
use Rattle.row_laws.specs.Rows.{Looping, Fine, Neat}
use Rattle.row_laws.proofs.Basics.{at_same, in_cons, first_in, next_in, none}
use Rattle.written_rows.specs.Code.{labels}
use Rattle.written_rows.proofs.Steps.{get_front, get_past, labels_append, open_at, word_at, blocks, blocks_append, opened}
use Rattle.written_rows.proofs.Ends.{name_of, Ends, ends_count}

-- ---- lists of labels, and of their numbers

pub contains_map : (f : ℕ → ℕ) (xs : List ℕ) (x : ℕ) → Contains xs x → Contains (map f xs) (f x)
contains_map f [] x h = absurd (none x h)
contains_map f (y ∷ xs) x h = elim (in_cons x y xs h) [
  | inl e ↦ subst (λ z. Contains (map f (y ∷ xs)) (f z)) (sym e) (first_in (f y) (map f xs))
  | inr i ↦ next_in (f y) (f x) (map f xs) (contains_map f xs x i)
]

pub contains_mapped : (f : ℕ → ℕ) (xs : List ℕ) (q : ℕ) → Contains (map f xs) q → (x : ℕ) × Contains xs x × (f x ≡ q)
contains_mapped f [] q h = absurd (none q h)
contains_mapped f (y ∷ xs) q h = elim (in_cons q (f y) (map f xs) h) [
  | inl e ↦ (y, first_in y xs, sym e)
  | inr i ↦ (let r = contains_mapped f xs q i in (r.0, next_in y r.0 xs r.1, r.2))
]

pub contains_get : (xs : List ℕ) (x : ℕ) → Contains xs x → (i : ℕ) × (slice_get xs i ≡ Some x)
contains_get [] x h = absurd (none x h)
contains_get (y ∷ xs) x h = elim (in_cons x y xs h) [
  | inl e ↦ (0, ap Some (sym e))
  | inr i ↦ (let r = contains_get xs x i in (suc r.0, r.1))
]

pub get_contains : (xs : List ℕ) (i x : ℕ) → slice_get xs i ≡ Some x → Contains xs x
get_contains [] i x e = absurd (cc)
get_contains (y ∷ xs) zero x e = subst (Contains (y ∷ xs)) (inj e) (first_in y xs)
  where
    inj : {a b : ℕ} → Some a ≡ Some b → a ≡ b
    inj e = cc
get_contains (y ∷ xs) (suc i) x e = next_in y x xs (get_contains xs i x e)

-- the numbers of an arm's labels, the last one first, before others
abbrev pub pushed : (ℕ → ℕ) → List ℕ → List ℕ → List ℕ
pushed f [] ts = ts
pushed f (id ∷ ids) ts = pushed f ids (f id ∷ ts)

pub pushed_keeps : (f : ℕ → ℕ) (ids ts : List ℕ) (t : ℕ) → Contains ts t → Contains (pushed f ids ts) t
pushed_keeps f [] ts t h = h
pushed_keeps f (id ∷ ids) ts t h = pushed_keeps f ids (f id ∷ ts) t (next_in (f id) t ts h)

pub pushed_has : (f : ℕ → ℕ) (ids ts : List ℕ) (id : ℕ) → Contains ids id → Contains (pushed f ids ts) (f id)
pushed_has f [] ts id h = absurd (none id h)
pushed_has f (x ∷ ids) ts id h = elim (in_cons id x ids h) [
  | inl e ↦ pushed_keeps f ids (f x ∷ ts) (f id) (subst (λ z. Contains (f x ∷ ts) (f z)) (sym e) (first_in (f x) ts))
  | inr i ↦ pushed_has f ids (f x ∷ ts) id i
]

pub pushed_told : (f : ℕ → ℕ) (ids ts : List ℕ) (t : ℕ) → Contains (pushed f ids ts) t → Contains ts t ⊎ ((id : ℕ) × Contains ids id × (f id ≡ t))
pushed_told f [] ts t h = inl h
pushed_told f (x ∷ ids) ts t h = elim (pushed_told f ids (f x ∷ ts) t h) [
  | inl i ↦ elim (in_cons t (f x) ts i) [ inl e ↦ inr (x, first_in x ids, sym e) | inr j ↦ inl j ]
  | inr r ↦ inr (r.0, next_in x r.0 ids r.1, r.2)
]

-- ---- code among blocks

module _ (bs : List BasicBlock) (number : ℕ → ℕ) where
  -- the blocks that the instructions end are these, from number k on
  abbrev pub Stands : Option Open → (k w : ℕ) → List Inst → Type 0
  Stands o k w zs = (i : ℕ) (d : Labeled) → slice_get (blocks o w zs) i ≡ Some d → At bs (k + i) (numbered_block number d.block)

  -- the labels among the instructions have the numbers from n on
  abbrev pub Numbered : (n : ℕ) → List Inst → Type 0
  Numbered n zs = (i id : ℕ) → slice_get (labels zs) i ≡ Some id → number id ≡ n + i

  -- the code stands behind the label l, whose block has number k
  pub record Here (l v w k : ℕ) (zs : List Inst) : Type 0 where
    pub stands : Stands (Some (opened l v)) k w zs
    pub numbered : Numbered (k + 1) zs
    pub here : number l ≡ k

  pub stands_front : (o : Option Open) (k w : ℕ) (xs ys : List Inst) → Stands o k w (xs ++ ys) → Stands o k w xs
  stands_front o k w xs ys h i d e =
      h i d (ap (λ ds. slice_get ds i) (blocks_append o w xs ys) ∙ get_front (blocks o w xs) (blocks (open_at o w xs) (word_at w xs) ys) i d e)

  pub stands_back : (o : Option Open) (k w : ℕ) (xs ys : List Inst) → Stands o k w (xs ++ ys) → Stands (open_at o w xs) (k + length (blocks o w xs)) (word_at w xs) ys
  stands_back o k w xs ys h i d e =
      let front = blocks o w xs in
      let back = blocks (open_at o w xs) (word_at w xs) ys in
      let at = h (length front + i) d (ap (λ ds. slice_get ds (length front + i)) (blocks_append o w xs ys) ∙ get_past front back i ∙ e) in
      let same : k + (length front + i) ≡ k + length front + i = omega arith in
      subst (λ p. At bs p (numbered_block number d.block)) same at

  pub numbered_front : (n : ℕ) (xs ys : List Inst) → Numbered n (xs ++ ys) → Numbered n xs
  numbered_front n xs ys h i id e =
      h i id (ap (λ ids. slice_get ids i) (labels_append xs ys) ∙ get_front (labels xs) (labels ys) i id e)

  pub numbered_back : (n : ℕ) (xs ys : List Inst) → Numbered n (xs ++ ys) → Numbered (n + length (labels xs)) ys
  numbered_back n xs ys h i id e =
      let at = h (length (labels xs) + i) id (ap (λ ids. slice_get ids (length (labels xs) + i)) (labels_append xs ys) ∙ get_past (labels xs) (labels ys) i ∙ e) in
      omega (arith, at)

  pub here_front : (l v w k : ℕ) (xs ys : List Inst) → Here l v w k (xs ++ ys) → Here l v w k xs
  here_front l v w k xs ys h =
      record { stands = stands_front (Some (opened l v)) k w xs ys h.stands; numbered = numbered_front (k + 1) xs ys h.numbered; here = h.here }

  -- the last label of a list
  last_at : (ns : List ℕ) (last l : ℕ) (ids : List ℕ) → ns ++ (last ∷ []) ≡ l ∷ ids → slice_get (l ∷ ids) (length ids) ≡ Some last
  last_at ns last l ids e =
      let long = ap length e in
      let count = length-append ns (last ∷ []) in
      let same : length ids ≡ length ns + 0 = omega (arith, long, count) in
      ap (slice_get (l ∷ ids)) same ∙ sym (ap (λ xs. slice_get xs (length ns + 0)) e) ∙ get_past ns (last ∷ []) 0

  number_last : (l v w k : ℕ) (xs : List Inst) (e : Ends l v w xs) → Here l v w k xs → number e.last ≡ k + length (labels xs)
  number_last l v w k xs e h =
      by_labels (labels xs) h.numbered (last_at (map name_of (blocks (Some (opened l v)) w xs)) e.last l (labels xs) e.names)
    where
      inj : {a b : ℕ} → Some a ≡ Some b → a ≡ b
      inj x = cc

      by_labels : (ids : List ℕ) → ((i id : ℕ) → slice_get ids i ≡ Some id → number id ≡ k + 1 + i) → slice_get (l ∷ ids) (length ids) ≡ Some e.last → number e.last ≡ k + length ids
      by_labels [] all at =
          let same : number l ≡ number e.last = ap number (inj at) in
          let first = h.here in
          omega (arith, same, first)
      by_labels (id ∷ ids) all at =
          let is = all (length ids) e.last at in
          omega (arith, is)

  pub here_back : (l v w k : ℕ) (xs ys : List Inst) (e : Ends l v w xs) → Here l v w k (xs ++ ys) → Here e.last e.word (word_at w xs) (k + length (labels xs)) ys
  here_back l v w k xs ys e h =
      let n = length (labels xs) in
      let count = ends_count l v w xs e in
      let back = stands_back (Some (opened l v)) k w xs ys h.stands in
      record {
        stands = subst (λ m. Stands (Some (opened e.last e.word)) (k + m) (word_at w xs) ys) count (subst (λ o. Stands o (k + length (blocks (Some (opened l v)) w xs)) (word_at w xs) ys) e.open_is back);
        numbered = λ i id x. (let at = numbered_back (k + 1) xs ys h.numbered i id x in omega (arith, at));
        here = number_last l v w k xs e (here_front l v w k xs ys h);
      }

  -- ---- what is promised of a row's blocks, of which n labels stand behind that of block k

  abbrev pub IsNeat : (from to : ℕ) → Type 0
  IsNeat from to = (p : ℕ) (d : BasicBlock) → from ≤ p → p < to → At bs p d → Neat bs p d × (d.terminator ≡ Return → ⊥)

  pub record Good (loops : Bool) (k n : ℕ) : Type 0 where
    pub fine : Fine bs k (k + n + 1)
    pub neat : IsNeat k (k + n)
    -- the first block is no loop's header
    pub first : loops ≡ false → 0 < n → (g : Merge) → Looping bs k g → ⊥

  pub no_neat : (k : ℕ) → IsNeat k k
  no_neat k p d low high at = absurd (omega (arith, low, high))

  pub neat_on : (a m z : ℕ) → IsNeat a m → IsNeat m z → IsNeat a z
  neat_on a m z f g p d low high at = elim (cases_lt p m) [ inl lt ↦ f p d low lt at | inr ge ↦ g p d ge high at ]

  -- one block
  pub neat_one : (k : ℕ) (b : BasicBlock) → At bs k b → Neat bs k b × (b.terminator ≡ Return → ⊥) → IsNeat k (k + 1)
  neat_one k b at h p d low high there =
      let same : p ≡ k = omega (arith, low, high) in
      let is : b ≡ d = at_same bs k b d at (subst (λ q. At bs q d) same there) in
      subst (λ q. Neat bs q d × (d.terminator ≡ Return → ⊥)) (sym same) (subst (λ c. Neat bs k c × (c.terminator ≡ Return → ⊥)) is h)
