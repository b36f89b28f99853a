-- The entries of a phi: those of one block are the same operand.
use Rattle.std.proofs.Common.{ℕ, ◌≡◌, ◌<◌, ◌≤◌, ◌+◌, ◌==◌, ◌&&◌, refl, sym, ap, ◌∙◌, List, [], ◌∷◌, ◌++◌, take, take_all, length, get_or, Bool, true, false, not, Option, Some, None}
use Rattle.std.specs.List.{list_any, list_all}
use Rattle.std.proofs.lemmas.Bool.{eqb-true, eqb-false}
use Rattle.std.proofs.lemmas.List.{take_more}
use Rattle.std.proofs.lemmas.List.Folds.{list_any_at, Any-from_list_any}
use Rattle.dxil_form.specs.declared.value.Operand.{Operand}
use Rattle.dxil_form.specs.declared.value.Operand.TheVariants as operand
use Rattle.dxil_form.specs.declared.value.Ty.{Ty}
use Rattle.dxil_form.specs.declared.value.Ty.TheVariants as ty
use Rattle.profile_tables.specs.EntryBody.{EntryBody}
use Rattle.profile_tables.specs.Operands.{operand_of, is_same, is_ty, is_bool}
use Rattle.profile_rules.specs.Rules.{differ}
use Rattle.profile_rules.specs.Helping.{agrees_with, first_kept}

-- ---- operands that are the same

pub and_left : (a b : Bool) → (a && b) ≡ true → a ≡ true
and_left true b e = refl
and_left false b e = cc

pub and_right : (a b : Bool) → (a && b) ≡ true → b ≡ true
and_right true b e = e
and_right false b e = cc

pub eq_refl : (n : ℕ) → (n == n) ≡ true
eq_refl n = at (n == n) refl where
  at : (b : Bool) → (n == n) ≡ b → (n == n) ≡ true
  at true e = e
  at false e = absurd (eqb-false n n e refl)

ty_refl : (t : Ty) → is_ty t t ≡ true
ty_refl ty.Int = refl
ty_refl ty.Bool = refl

ty_same : (t u : Ty) → is_ty t u ≡ true → t ≡ u
ty_same ty.Int ty.Int e = refl
ty_same ty.Int ty.Bool e = cc
ty_same ty.Bool ty.Int e = cc
ty_same ty.Bool ty.Bool e = refl

bool_refl : (b : Bool) → is_bool b b ≡ true
bool_refl true = refl
bool_refl false = refl

bool_same : (a b : Bool) → is_bool a b ≡ true → a ≡ b
bool_same true true e = refl
bool_same true false e = cc
bool_same false true e = cc
bool_same false false e = refl

same_refl : (a : Operand) → is_same a a ≡ true
same_refl (operand.Reg r t) = rw (eq_refl r.value, eq_refl r.part) (ty_refl t)
same_refl (operand.Int n) = eq_refl n
same_refl (operand.Bool b) = bool_refl b
same_refl (operand.Undef t) = ty_refl t

same_is : (a b : Operand) → is_same a b ≡ true → a ≡ b
same_is (operand.Reg r t) (operand.Reg s u) e =
    let values = eqb-true r.value s.value (and_left (r.value == s.value) (r.part == s.part) (and_left (r.value == s.value && r.part == s.part) (is_ty t u) e)) in
    let parts = eqb-true r.part s.part (and_right (r.value == s.value) (r.part == s.part) (and_left (r.value == s.value && r.part == s.part) (is_ty t u) e)) in
    let types = ty_same t u (and_right (r.value == s.value && r.part == s.part) (is_ty t u) e) in
    ap (λ (n : ℕ). operand.Reg (record { value = n; part = r.part }) t) values ∙ ap (λ (n : ℕ). operand.Reg (record { value = s.value; part = n }) t) parts ∙ ap (λ (k : Ty). operand.Reg s k) types
same_is (operand.Reg r t) (operand.Int m) e = cc
same_is (operand.Reg r t) (operand.Bool b) e = cc
same_is (operand.Reg r t) (operand.Undef u) e = cc
same_is (operand.Int n) (operand.Reg s u) e = cc
same_is (operand.Int n) (operand.Int m) e = ap operand.Int (eqb-true n m e)
same_is (operand.Int n) (operand.Bool b) e = cc
same_is (operand.Int n) (operand.Undef u) e = cc
same_is (operand.Bool a) (operand.Reg s u) e = cc
same_is (operand.Bool a) (operand.Int m) e = cc
same_is (operand.Bool a) (operand.Bool b) e = ap operand.Bool (bool_same a b e)
same_is (operand.Bool a) (operand.Undef u) e = cc
same_is (operand.Undef t) (operand.Reg s u) e = cc
same_is (operand.Undef t) (operand.Int m) e = cc
same_is (operand.Undef t) (operand.Bool b) e = cc
same_is (operand.Undef t) (operand.Undef u) e = ap operand.Undef (ty_same t u e)

-- ---- tests over lists

all_append : {A : Type 0} (p : A → Bool) (xs ys : List A) → list_all p xs ≡ true → list_all p ys ≡ true → list_all p (xs ++ ys) ≡ true
all_append p [] ys e f = f
all_append p (x ∷ xs) ys e f = rw (and_left (p x) (list_all p xs) e) (all_append p xs ys (and_right (p x) (list_all p xs) e) f)

all_imp : {A : Type 0} (p q : A → Bool) (xs : List A) → ((x : A) → p x ≡ true → q x ≡ true) → list_all p xs ≡ true → list_all q xs ≡ true
all_imp p q [] h e = refl
all_imp p q (x ∷ xs) h e = rw (h x (and_left (p x) (list_all p xs) e)) (all_imp p q xs h (and_right (p x) (list_all p xs) e))

-- ---- the first operands of blocks

abbrev pub has_same : Option Operand → Operand → Bool
has_same None a = false
has_same (Some first) a = is_same first a

module _ (x : EntryBody) (entries : List (ℕ × ℕ)) where
  -- each entry so far is the same as the first one of its block, and that is one of the entries
  pub record IsAgreed (i : ℕ) (firsts : ℕ → Option Operand) : Type 0 where
    pub same : list_all (λ e. has_same (firsts e.1) (operand_of x e.0)) (take i entries) ≡ true
    pub some : (q : ℕ) (g : Operand) → firsts q ≡ Some g → list_any (λ e. e.1 == q && is_same (operand_of x e.0) g) entries ≡ true

  pub agreed_none : (firsts : ℕ → Option Operand) → ((q : ℕ) → firsts q ≡ None) → IsAgreed 0 firsts
  agreed_none firsts h = record { same = refl; some = λ q g e. let z = h q in absurd (cc) }

  kept : (o : Option Operand) (here : Bool) (a b : Operand) → has_same o b ≡ true → has_same (first_kept o here a) b ≡ true
  kept None here a b e = absurd (cc)
  kept (Some g) here a b e = e

  begun : (o : Option Operand) (a : Operand) → agrees_with o a ≡ true → has_same (first_kept o true a) a ≡ true
  begun None a e = same_refl a
  begun (Some g) a e = e

  pub agreed_more : (i : ℕ) (d : ℕ × ℕ) (firsts next : ℕ → Option Operand) → IsAgreed i firsts → i < length entries
      → agrees_with (firsts (get_or entries i d).1) (operand_of x (get_or entries i d).0) ≡ true
      → ((q : ℕ) → next q ≡ first_kept (firsts q) ((get_or entries i d).1 == q) (operand_of x (get_or entries i d).0)) → IsAgreed (i + 1) next
  agreed_more i d firsts next a h good keeps = record { same = same; some = some } where
    entry : ℕ × ℕ
    entry = get_or entries i d

    here : Operand
    here = operand_of x (get_or entries i d).0

    before : list_all (λ e. has_same (next e.1) (operand_of x e.0)) (take i entries) ≡ true
    before = all_imp (λ e. has_same (firsts e.1) (operand_of x e.0)) (λ e. has_same (next e.1) (operand_of x e.0)) (take i entries)
        (λ e f. ap (λ o. has_same o (operand_of x e.0)) (keeps e.1) ∙ kept (firsts e.1) ((get_or entries i d).1 == e.1) (operand_of x (get_or entries i d).0) (operand_of x e.0) f) a.same

    last : list_all (λ e. has_same (next e.1) (operand_of x e.0)) (get_or entries i d ∷ []) ≡ true
    last = rw (ap (λ o. has_same o (operand_of x (get_or entries i d).0)) (keeps (get_or entries i d).1 ∙ ap (λ b. first_kept (firsts (get_or entries i d).1) b (operand_of x (get_or entries i d).0)) (eq_refl (get_or entries i d).1))
        ∙ begun (firsts (get_or entries i d).1) (operand_of x (get_or entries i d).0) good) refl

    same : list_all (λ e. has_same (next e.1) (operand_of x e.0)) (take (i + 1) entries) ≡ true
    same = ap (list_all (λ e. has_same (next e.1) (operand_of x e.0))) (take_more entries i d h) ∙ all_append (λ e. has_same (next e.1) (operand_of x e.0)) (take i entries) (get_or entries i d ∷ []) before last

    found : (q : ℕ) (g : Operand) (o : Option Operand) (b : Bool) → firsts q ≡ o → ((get_or entries i d).1 == q) ≡ b → first_kept o b (operand_of x (get_or entries i d).0) ≡ Some g → list_any (λ e. e.1 == q && is_same (operand_of x e.0) g) entries ≡ true
    found q g (Some f) b e r k = a.some q g (e ∙ k)
    found q g None true e r k =
        let is : operand_of x (get_or entries i d).0 ≡ g = cc in
        list_any_at (λ e. e.1 == q && is_same (operand_of x e.0) g) entries i d h (rw r (ap (λ z. is_same (operand_of x (get_or entries i d).0) z) (sym is) ∙ same_refl (operand_of x (get_or entries i d).0)))
    found q g None false e r k = absurd (cc)

    some : (q : ℕ) (g : Operand) → next q ≡ Some g → list_any (λ e. e.1 == q && is_same (operand_of x e.0) g) entries ≡ true
    some q g e = found q g (firsts q) ((get_or entries i d).1 == q) refl refl (sym (keeps q) ∙ e)

  pub agreed_not : (i : ℕ) (d : ℕ × ℕ) (firsts : ℕ → Option Operand) → IsAgreed i firsts → i < length entries
      → agrees_with (firsts (get_or entries i d).1) (operand_of x (get_or entries i d).0) ≡ false → list_any (λ e. list_any (differ x e) entries) entries ≡ true
  agreed_not i d firsts a h bad = by_first (firsts (get_or entries i d).1) refl bad where
    by_first : (o : Option Operand) → firsts (get_or entries i d).1 ≡ o → agrees_with o (operand_of x (get_or entries i d).0) ≡ false → list_any (λ e. list_any (differ x e) entries) entries ≡ true
    by_first None e f = absurd (cc)
    by_first (Some g) e f =
        let (k, other, within, stands, good) = Any-from_list_any (λ z. z.1 == (get_or entries i d).1 && is_same (operand_of x z.0) g) entries (a.some (get_or entries i d).1 g e) in
        let block = and_left (other.1 == (get_or entries i d).1) (is_same (operand_of x other.0) g) good in
        let is = same_is (operand_of x other.0) g (and_right (other.1 == (get_or entries i d).1) (is_same (operand_of x other.0) g) good) in
        let here : differ x other (get_or entries i d) ≡ true = rw block (ap (λ z. not (is_same z (operand_of x (get_or entries i d).0))) is ∙ ap not f) in
        let inner : list_any (differ x other) entries ≡ true = list_any_at (differ x other) entries i d h here in
        list_any_at (λ z. list_any (differ x z) entries) entries k other within (ap (λ z. list_any (differ x z) entries) stands ∙ inner)

  one_block : (o : Option Operand) (a b : Operand) → has_same o a ≡ true → has_same o b ≡ true → not (is_same a b) ≡ false
  one_block None a b e f = absurd (cc)
  one_block (Some g) a b e f = ap not (ap (λ z. is_same z b) (sym (same_is g a e)) ∙ f)

  no_difference : (firsts : ℕ → Option Operand) (e f : ℕ × ℕ) → has_same (firsts e.1) (operand_of x e.0) ≡ true → has_same (firsts f.1) (operand_of x f.0) ≡ true → differ x e f ≡ false
  no_difference firsts e f g k = at (e.1 == f.1) refl where
    at : (b : Bool) → (e.1 == f.1) ≡ b → differ x e f ≡ false
    at false r = rw r refl
    at true r = rw r (one_block (firsts f.1) (operand_of x e.0) (operand_of x f.0) (ap (λ q. has_same (firsts q) (operand_of x e.0)) (sym (eqb-true e.1 f.1 r)) ∙ g) k)

  none_of : (firsts : ℕ → Option Operand) (e : ℕ × ℕ) (fs : List (ℕ × ℕ)) → has_same (firsts e.1) (operand_of x e.0) ≡ true → list_all (λ z. has_same (firsts z.1) (operand_of x z.0)) fs ≡ true → list_any (differ x e) fs ≡ false
  none_of firsts e [] g k = refl
  none_of firsts e (f ∷ fs) g k = rw (no_difference firsts e f g (and_left (has_same (firsts f.1) (operand_of x f.0)) _ k)) (none_of firsts e fs g (and_right (has_same (firsts f.1) (operand_of x f.0)) _ k))

  none_differ : (firsts : ℕ → Option Operand) (es fs : List (ℕ × ℕ)) → list_all (λ z. has_same (firsts z.1) (operand_of x z.0)) es ≡ true → list_all (λ z. has_same (firsts z.1) (operand_of x z.0)) fs ≡ true
      → list_any (λ e. list_any (differ x e) fs) es ≡ false
  none_differ firsts [] fs g k = refl
  none_differ firsts (e ∷ es) fs g k = rw (none_of firsts e fs (and_left (has_same (firsts e.1) (operand_of x e.0)) _ g) k) (none_differ firsts es fs (and_right (has_same (firsts e.1) (operand_of x e.0)) _ g) k)

  pub agreed_whole : (i : ℕ) (firsts : ℕ → Option Operand) → IsAgreed i firsts → length entries ≤ i → list_any (λ e. list_any (differ x e) entries) entries ≡ false
  agreed_whole i firsts a h =
      let all = ap (list_all (λ e. has_same (firsts e.1) (operand_of x e.0))) (sym (take_all i entries h)) ∙ a.same in
      none_differ firsts entries entries all all
