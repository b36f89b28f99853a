-- What searches over a list of instructions pass over.
use Rattle.std.proofs.Common.{◌≡◌, ℕ, zero, suc, ◌+◌, ◌<◌, Bool, true, false, List, [], ◌∷◌, ◌++◌, length, Option, Some, None, refl, ap, ◌∙◌, subst, arith}
use Rattle.std.specs.Prelude.{slice_get, nat_eq, if◌then◌else◌, ◌&&◌}
use Rattle.spv_form.specs.declared.module.Inst.{Inst}
use Rattle.spirv_meaning.specs.Names.{is_some_at, label_of}
use Rattle.spirv_meaning.specs.Target.{result_of, declared, decoration, first_of, label_at}
use Rattle.spirv_code.specs.Plans.{inst}

abbrev pub Each : (Inst → Type 0) → List Inst → Type 0
Each P [] = Unit {0}
Each P (i ∷ is) = P i × Each P is

pub each_append : (P : Inst → Type 0) (a b : List Inst) → Each P a → Each P b → Each P (a ++ b)
each_append P [] b h k = k
each_append P (i ∷ a) b h k = (h.0, each_append P a b h.1 k)

pub each_weaker : (P Q : Inst → Type 0) → ((i : Inst) → P i → Q i) → (a : List Inst) → Each P a → Each Q a
each_weaker P Q f [] h = tt
each_weaker P Q f (i ∷ a) h = (f i h.0, each_weaker P Q f a h.1)

pub each_at : (P : Inst → Type 0) (a : List Inst) (k : ℕ) (i : Inst) → Each P a → slice_get a k ≡ Some i → P i
each_at P [] k i h e = absurd (let no_such : None ≡ Some i = e in grind arith)
each_at P (j ∷ a) zero i h e = subst P (inj e) h.0
  where
    inj : {A : Type 0} {x y : A} → Some x ≡ Some y → x ≡ y
    inj {x = x} e = ap (from x) e
      where
        from : {A : Type 0} → A → Option A → A
        from default (Some x) = x
        from default None = default
each_at P (j ∷ a) (suc k) i h e = each_at P a k i h.1 e

pub if_not : {A : Type 0} (b : Bool) → b ≡ false → (x y : A) → (if b then x else y) ≡ y
if_not b e x y = ap (λ b. if b then x else y) e

pub if_so : {A : Type 0} (b : Bool) → b ≡ true → (x y : A) → (if b then x else y) ≡ x
if_so b e x y = ap (λ b. if b then x else y) e

pub eq_same : (n : ℕ) → nat_eq n n ≡ true
eq_same n = grind arith

pub eq_told : (n m : ℕ) → nat_eq n m ≡ true → n ≡ m
eq_told n m e = grind arith

pub both_so : (x y : Bool) → (x && y) ≡ true → (x ≡ true) × (y ≡ true)
both_so true y e = (refl, e)
both_so false y e = absurd (let never : false ≡ true = e in grind arith)

pub inj : {A : Type 0} {x y : A} → Some x ≡ Some y → x ≡ y
inj {x = x} e = ap (from x) e
  where
    from : {A : Type 0} → A → Option A → A
    from default (Some x) = x
    from default None = default

-- ---- what each search passes over

abbrev pub DeclaresNot : ℕ → Inst → Type 0
DeclaresNot id i = is_some_at (result_of i) id ≡ false

pub declared_skip : (id : ℕ) (a b : List Inst) → Each (DeclaresNot id) a → declared (a ++ b) id ≡ declared b id
declared_skip id [] b h = refl
declared_skip id (i ∷ a) b h = if_not (is_some_at (result_of i) id) h.0 _ _ ∙ declared_skip id a b h.1

pub declared_none : (id : ℕ) (a : List Inst) → Each (DeclaresNot id) a → declared a id ≡ None
declared_none id [] h = refl
declared_none id (i ∷ a) h = if_not (is_some_at (result_of i) id) h.0 _ _ ∙ declared_none id a h.1

abbrev pub IsNot : ℕ → Inst → Type 0
IsNot opcode i = nat_eq i.opcode opcode ≡ false

pub first_skip : (a b : List Inst) → Each (IsNot 54) a → (operands : List ℕ) → first_of 54 (a ++ (inst 54 operands ∷ b)) ≡ length a
first_skip [] b h operands = refl
first_skip (i ∷ a) b h operands =
    let e : suc (length a) ≡ length (i ∷ a) = omega arith in
    if_not (nat_eq i.opcode 54) h.0 _ _ ∙ ap suc (first_skip a b h.1 operands) ∙ e

-- no label with the id
abbrev pub LabelsNot : ℕ → Inst → Type 0
LabelsNot id i = is_some_at (label_of i) id ≡ false

pub label_skip : (id n : ℕ) (a b : List Inst) → Each (LabelsNot id) a → label_at (a ++ b) id n ≡ label_at b id (n + length a)
label_skip id n [] b h =
    let e : n ≡ n + 0 = omega arith in
    ap (label_at b id) e
label_skip id n (i ∷ a) b h =
    let e : suc n + length a ≡ n + length (i ∷ a) = omega arith in
    if_not (is_some_at (label_of i) id) h.0 _ _ ∙ label_skip id (suc n) a b h.1 ∙ ap (label_at b id) e

-- no decoration of the id
abbrev pub Elsewhere : ℕ → Inst → Type 0
Elsewhere id i = (nat_eq i.opcode 71 && is_some_at (slice_get i.operands 0) id) ≡ false

pub decoration_skip : (id kind : ℕ) (a b : List Inst) → Each (Elsewhere id) a → decoration (a ++ b) id kind ≡ decoration b id kind
decoration_skip id kind [] b h = refl
decoration_skip id kind (i ∷ a) b h =
    if_not _ (ap (λ x. x && is_some_at (slice_get i.operands 1) kind) h.0) _ _ ∙ decoration_skip id kind a b h.1

-- ---- lists

pub get_past : {A : Type 0} (a b : List A) (k : ℕ) → slice_get (a ++ b) (length a + k) ≡ slice_get b k
get_past [] b k =
    let same : 0 + k ≡ k = omega arith in
    ap (slice_get b) same
get_past (i ∷ a) b k =
    let same : length (i ∷ a) + k ≡ suc (length a + k) = omega arith in
    ap (slice_get (i ∷ (a ++ b))) same ∙ get_past a b k

pub get_front : {A : Type 0} (a b : List A) (k : ℕ) (x : A) → slice_get a k ≡ Some x → slice_get (a ++ b) k ≡ Some x
get_front [] b k x e = absurd (let none : None ≡ Some x = e in grind arith)
get_front (y ∷ a) b zero x e = e
get_front (y ∷ a) b (suc k) x e = get_front a b k x e

pub get_below : {A : Type 0} (a : List A) (k : ℕ) (x : A) → slice_get a k ≡ Some x → k < length a
get_below [] k x e = absurd (let none : None ≡ Some x = e in grind arith)
get_below (y ∷ a) zero x e = omega arith
get_below (y ∷ a) (suc k) x e =
    let ih = get_below a k x e in
    omega (arith, ih)
