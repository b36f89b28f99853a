-- The blocks of instructions, one instruction at a time.
use Rattle.std.proofs.Common.{◌≡◌, ℕ, zero, suc, ◌+◌, ◌<◌, ◌≤◌, Bool, true, false, ne_eqb, List, [], ◌∷◌, ◌++◌, length, append_assoc, Option, Some, None, refl, sym, ap, ◌∙◌, arith}
use Rattle.std.specs.Prelude.{slice_get, map, ◌==◌, if◌then◌else◌}
use Rattle.spv_form.specs.declared.module.Inst.{Inst}
use Rattle.spv_form.specs.Words.{size_of}
use Rattle.flow_blocks.specs.Blocks.{Labeled, Open, operand, terminator_of, merge_of, inner_after, open_after, ended, ended_at, targets_of, blocks_from}
use Rattle.written_rows.specs.Code.{AreInner, labels}

-- ---- lists

pub map_append : {A B : Type 0} (f : A → B) (xs ys : List A) → map f (xs ++ ys) ≡ map f xs ++ map f ys
map_append f [] ys = refl
map_append f (x ∷ xs) ys = ap (λ zs. f x ∷ zs) (map_append f xs ys)

pub append_none : {A : Type 0} (xs : List A) → xs ++ [] ≡ xs
append_none [] = refl
append_none (x ∷ xs) = ap (λ zs. x ∷ zs) (append_none xs)

pub length_map : {A B : Type 0} (f : A → B) (xs : List A) → length (map f xs) ≡ length xs
length_map f [] = refl
length_map f (x ∷ xs) = ap suc (length_map f xs)

pub get_front : {A : Type 0} (xs ys : List A) (i : ℕ) (x : A) → slice_get xs i ≡ Some x → slice_get (xs ++ ys) i ≡ Some x
get_front [] ys i x e = absurd (cc)
get_front (y ∷ xs) ys zero x e = e
get_front (y ∷ xs) ys (suc i) x e = get_front xs ys i x e

pub get_past : {A : Type 0} (xs ys : List A) (i : ℕ) → slice_get (xs ++ ys) (length xs + i) ≡ slice_get ys i
get_past [] ys i = ap (slice_get ys) (omega arith)
get_past (x ∷ xs) ys i =
    let e : length (x ∷ xs) + i ≡ suc (length xs + i) = omega arith in
    ap (slice_get (x ∷ (xs ++ ys))) e ∙ get_past xs ys i

pub get_below : {A : Type 0} (xs : List A) (i : ℕ) (x : A) → slice_get xs i ≡ Some x → i < length xs
get_below [] i x e = absurd (cc)
get_below (y ∷ xs) zero x e = omega arith
get_below (y ∷ xs) (suc i) x e =
    let h = get_below xs i x e in
    omega (arith, h)

-- ---- the labels of instructions

pub if_not : {A : Type 0} (b : Bool) → b ≡ false → (x y : A) → (if b then x else y) ≡ y
if_not b e x y = ap (λ (c : Bool). if c then x else y) e

pub labels_append : (xs ys : List Inst) → labels (xs ++ ys) ≡ labels xs ++ labels ys
labels_append [] ys = refl
labels_append (x ∷ xs) ys = by_test (operand x 0) (x.opcode == 248) (labels_append xs ys)
  where
    by_test : (id : ℕ) (b : Bool) → labels (xs ++ ys) ≡ labels xs ++ labels ys → (if b then id ∷ labels (xs ++ ys) else labels (xs ++ ys)) ≡ (if b then id ∷ labels xs else labels xs) ++ labels ys
    by_test id true e = ap (λ zs. id ∷ zs) e
    by_test id false e = e

-- ---- blocks, and the block that is open behind instructions

abbrev pub open_at : Option Open → ℕ → List Inst → Option Open
open_at o w [] = o
open_at o w (x ∷ xs) = open_at (open_after o w x) (w + size_of x) xs

abbrev pub word_at : ℕ → List Inst → ℕ
word_at w [] = w
word_at w (x ∷ xs) = word_at (w + size_of x) xs

abbrev pub blocks : Option Open → ℕ → List Inst → List Labeled
blocks o w [] = []
blocks o w (x ∷ xs) = ended_at o w x ++ blocks (open_after o w x) (w + size_of x) xs

pub blocks_are : (o : Option Open) (w : ℕ) (xs : List Inst) → blocks_from o w xs ≡ blocks o w xs
unfolding blocks_from
blocks_are o w [] = refl
blocks_are o w (x ∷ xs) = ap (λ ds. ended_at o w x ++ ds) (blocks_are (open_after o w x) (w + size_of x) xs)

pub open_append : (o : Option Open) (w : ℕ) (xs ys : List Inst) → open_at o w (xs ++ ys) ≡ open_at (open_at o w xs) (word_at w xs) ys
open_append o w [] ys = refl
open_append o w (x ∷ xs) ys = open_append (open_after o w x) (w + size_of x) xs ys

pub blocks_append : (o : Option Open) (w : ℕ) (xs ys : List Inst) → blocks o w (xs ++ ys) ≡ blocks o w xs ++ blocks (open_at o w xs) (word_at w xs) ys
blocks_append o w [] ys = refl
blocks_append o w (x ∷ xs) ys =
    let next = open_after o w x in
    ap (λ ds. ended_at o w x ++ ds) (blocks_append next (w + size_of x) xs ys) ∙ sym (append_assoc (ended_at o w x) (blocks next (w + size_of x) xs) (blocks (open_at next (w + size_of x) xs) (word_at (w + size_of x) xs) ys))

-- the block of a label at a word, in which no merge instruction stands
abbrev pub opened : (label word : ℕ) → Open
opened label word = record { label = label; word = word; strays = []; merge = None }

-- ---- no label, merge instruction or terminator

module _ (x : Inst) (low : x.opcode < 246) where
  is_not : (n : ℕ) → 246 ≤ n → (x.opcode == n) ≡ false
  is_not n high = ne_eqb x.opcode n (λ e. absurd (omega (arith, e, low, high)))

  no_terminator : terminator_of x ≡ None
  no_terminator =
      if_not (x.opcode == 249) (is_not 249 (omega arith)) _ _ ∙ if_not (x.opcode == 250) (is_not 250 (omega arith)) _ _ ∙ if_not (x.opcode == 251) (is_not 251 (omega arith)) _ _ ∙ if_not (x.opcode == 253) (is_not 253 (omega arith)) _ _

  no_merge : (w : ℕ) → merge_of x w ≡ None
  no_merge w =
      if_not (x.opcode == 246) (is_not 246 (omega arith)) _ _ ∙ if_not (x.opcode == 247) (is_not 247 (omega arith)) _ _

  pub low_label : (xs : List Inst) → labels (x ∷ xs) ≡ labels xs
  low_label xs = if_not (x.opcode == 248) (is_not 248 (omega arith)) _ _

  pub low_open : (l v w : ℕ) → open_after (Some (opened l v)) w x ≡ Some (opened l v)
  low_open l v w =
      if_not (x.opcode == 248) (is_not 248 (omega arith)) _ _ ∙ ap (λ t. inner_after (Some (opened l v)) t (merge_of x w)) no_terminator ∙ ap (λ m. inner_after (Some (opened l v)) None m) (no_merge w)

  pub low_none : (w : ℕ) → open_after None w x ≡ None
  low_none w = if_not (x.opcode == 248) (is_not 248 (omega arith)) _ _

  pub low_ended : (l v w : ℕ) → ended_at (Some (opened l v)) w x ≡ []
  low_ended l v w =
      if_not (x.opcode == 248) (is_not 248 (omega arith)) _ _ ∙ ap (λ t. ended (Some (opened l v)) t w (targets_of x)) no_terminator

  pub low_ends_none : (w : ℕ) → ended_at None w x ≡ []
  low_ends_none w =
      if_not (x.opcode == 248) (is_not 248 (omega arith)) _ _

pub inner_labels : (xs : List Inst) → AreInner xs → labels xs ≡ []
inner_labels [] h = refl
inner_labels (x ∷ xs) h = low_label x h.0 xs ∙ inner_labels xs h.1

pub inner_open : (l v w : ℕ) (xs : List Inst) → AreInner xs → open_at (Some (opened l v)) w xs ≡ Some (opened l v)
inner_open l v w [] h = refl
inner_open l v w (x ∷ xs) h =
    ap (λ o. open_at o (w + size_of x) xs) (low_open x h.0 l v w) ∙ inner_open l v (w + size_of x) xs h.1

pub inner_none : (w : ℕ) (xs : List Inst) → AreInner xs → open_at None w xs ≡ None
inner_none w [] h = refl
inner_none w (x ∷ xs) h =
    ap (λ o. open_at o (w + size_of x) xs) (low_none x h.0 w) ∙ inner_none (w + size_of x) xs h.1

pub inner_blocks : (l v w : ℕ) (xs : List Inst) → AreInner xs → blocks (Some (opened l v)) w xs ≡ []
inner_blocks l v w [] h = refl
inner_blocks l v w (x ∷ xs) h =
    ap (λ ds. ds ++ blocks (open_after (Some (opened l v)) w x) (w + size_of x) xs) (low_ended x h.0 l v w) ∙ ap (λ o. blocks o (w + size_of x) xs) (low_open x h.0 l v w) ∙ inner_blocks l v (w + size_of x) xs h.1

pub inner_blocks_none : (w : ℕ) (xs : List Inst) → AreInner xs → blocks None w xs ≡ []
inner_blocks_none w [] h = refl
inner_blocks_none w (x ∷ xs) h =
    ap (λ ds. ds ++ blocks (open_after None w x) (w + size_of x) xs) (low_ends_none x h.0 w) ∙ ap (λ o. blocks o (w + size_of x) xs) (low_none x h.0 w) ∙ inner_blocks_none (w + size_of x) xs h.1
