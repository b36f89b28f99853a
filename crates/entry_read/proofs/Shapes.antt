-- Which blocks are open around an item.
use Rattle.std.proofs.Common.{ℕ, ◌≡◌, inl, inr, refl, sym, ap, subst, List, [], ◌∷◌, Bool, true, false, ◌==◌, Some, None}
use Rattle.std.proofs.lemmas.Bool.{or_cases, cases_Bool, eqb-true, both_ways}
use Rattle.bitstream_spelling.specs.Spelling.{reads}
use Rattle.bitstream_spelling.specs.Framed.{StandsIn, open_after}
use Rattle.bitstream_spelling.specs.declared.item.Item.{Item}
use Rattle.bitstream_spelling.specs.declared.item.Item.TheVariants.{Enter, Record, Skip, End}

-- no block; a block of the top; a block of the module, a body aside; a body; a block of constants in a body
pub data Shape : List ℕ → Type 0 where
  none_open : Shape []
  one_open : (x : ℕ) → reads None x ≡ true → Shape (x ∷ [])
  two_open : (x : ℕ) → reads (Some 8) x ≡ true → (x == 12) ≡ false → Shape (x ∷ 8 ∷ [])
  in_body : Shape (12 ∷ 8 ∷ [])
  in_pool : Shape (11 ∷ 12 ∷ 8 ∷ [])

true_false : {A : Type 0} (b : Bool) → b ≡ true → b ≡ false → A
true_false b e f = absurd (both_ways b f e)

reads_no : (x id : ℕ) → (x == 8) ≡ false → (x == 12) ≡ false → reads (Some x) id ≡ false
reads_no x id e f = rw (e, f) refl

-- a block of the top that has blocks is the module
pub only_module : (x id : ℕ) → reads None x ≡ true → reads (Some x) id ≡ true → x ≡ 8
only_module x id e h = elim (or_cases (x == 0) (x == 8) e) [
  | inl z ↦ true_false (reads (Some x) id) h (ap (λ (n : ℕ). reads (Some n) id) (eqb-true x 0 z))
  | inr m ↦ eqb-true x 8 m
]

-- a block of the module that is no body has no blocks
pub no_blocks : (x id : ℕ) → reads (Some 8) x ≡ true → (x == 12) ≡ false → reads (Some x) id ≡ false
no_blocks x id e n = elim (cases_Bool (x == 8)) [
  | inl m ↦ true_false (reads (Some 8) x) e (ap (λ (k : ℕ). reads (Some 8) k) (eqb-true x 8 m))
  | inr f ↦ reads_no x id f n
]

pub in_module : (id : ℕ) → reads (Some 8) id ≡ true → (b : Bool) → (id == 12) ≡ b → Shape (id ∷ 8 ∷ [])
in_module id e true f = subst (λ (n : ℕ). Shape (n ∷ 8 ∷ [])) (sym (eqb-true id 12 f)) in_body
in_module id e false f = two_open id e f

under_one : (x id : ℕ) → reads None x ≡ true → reads (Some x) id ≡ true → Shape (id ∷ x ∷ [])
under_one x id e h =
    let m = only_module x id e h in
    subst (λ (n : ℕ). Shape (id ∷ n ∷ [])) (sym m) (in_module id (subst (λ (n : ℕ). reads (Some n) id ≡ true) m h) (id == 12) refl)

pub shape_more : {a : List ℕ} (x : Item) → Shape a → StandsIn a x → Shape (open_after a x)
shape_more (Record code first count bit) s h = s
shape_more (Skip id words bit) s h = s
shape_more (End bit) none_open h = none_open
shape_more (End bit) (one_open x e) h = none_open
shape_more (End bit) (two_open x e f) h = one_open 8 refl
shape_more (End bit) in_body h = one_open 8 refl
shape_more (End bit) in_pool h = in_body
shape_more (Enter id width bit) none_open h = one_open id h
shape_more (Enter id width bit) (one_open x e) h = under_one x id e h
shape_more (Enter id width bit) (two_open x e f) h = true_false (reads (Some x) id) h (no_blocks x id e f)
shape_more (Enter id width bit) in_body h = subst (λ (n : ℕ). Shape (n ∷ 12 ∷ 8 ∷ [])) (sym (eqb-true id 11 h)) in_pool
shape_more (Enter id width bit) in_pool h = absurd (both_ways false refl h)
