-- The set of the read-only pointers with one instruction more.
use Rattle.std.proofs.Common.{ℕ, ◌≡◌, ◌+◌, ◌<◌, ◌≤◌, ◌&&◌, ◌||◌, ◌⊎◌, inl, inr, refl, sym, ap, subst, ◌∙◌, arith, List, [], length, get_or, slice_get, Option, Some, None, Bool, true, false, cond, eqb}
use Rattle.std.proofs.lemmas.Bool.{eqb-true, eq-eqb, cases_lt}
use Rattle.std.proofs.lemmas.List.Quantifiers.{position-Some}
use Rattle.std.proofs.lemmas.Option.{slice_get-get_or, same_Some}
use Rattle.spv_form.specs.declared.module.Inst.{Inst}
use Rattle.spv_ids.specs.Roles.{operand, defines, result_of}
use Rattle.spv_ids.specs.Ids.{definer}
use Rattle.spv_ids.specs.Places.{is_before, is_there}
use Rattle.spv_ids.proofs.IdLaws.{defines_none, defines_is}
use Rattle.decoration_rules.specs.Decorations.{marks_of}
use Rattle.decoration_rules.specs.ReadOnly.{IsDefinedAt, IsReadOnly, IsSetOf, IsSetUpTo, IsNext, makes, adds}

-- ---- tests
and_parts : (a b : Bool) → (a && b) ≡ true → (a ≡ true) × (b ≡ true)
and_parts true b e = (refl, e)
and_parts false b e = cc

and_both : (a b : Bool) → a ≡ true → b ≡ true → (a && b) ≡ true
and_both a b p q = rw (p, q) refl

or_cases : (a b : Bool) → (a || b) ≡ true → (a ≡ true) ⊎ (b ≡ true)
or_cases true b e = inl refl
or_cases false b e = inr e

or_left : (a b : Bool) → a ≡ true → (a || b) ≡ true
or_left a b p = rw p refl

or_right : (a b : Bool) → b ≡ true → (a || b) ≡ true
or_right true b p = refl
or_right false b p = p

before_some : (o : Option ℕ) (at : ℕ) → is_before at o ≡ true → (j : ℕ) × (o ≡ Some j) × (j < at)
before_some None at e = cc
before_some (Some j) at e = (j, refl, grind arith)

before_is : (o : Option ℕ) (at j : ℕ) → o ≡ Some j → j < at → is_before at o ≡ true
before_is o at j e h = rw e (grind arith)

there_some : (o : Option ℕ) (at : ℕ) → is_there at o ≡ true → o ≡ Some at
there_some None at e = cc
there_some (Some j) at e = ap Some (eqb-true j at e)

there_is : (o : Option ℕ) (at : ℕ) → o ≡ Some at → is_there at o ≡ true
there_is o at e = rw e (eq-eqb at at refl)

-- ---- what is kept
pub next_none : (old : ℕ → Bool) (insts : List Inst) (at : ℕ) (x : Inst) → result_of x ≡ None → IsNext old old insts at x
next_none old insts at x e = record { next = λ q. rw (defines_none x q e) refl }

pub next_not : (old : ℕ → Bool) (insts : List Inst) (at : ℕ) (x : Inst) (t : ℕ) → result_of x ≡ Some t → adds insts old at x t ≡ false → IsNext old old insts at x
next_not old insts at x t e no_add = record { next = λ q. rw (defines_is x t q e) (each q (eqb t q) refl) } where
  each : (q : ℕ) (b : Bool) → eqb t q ≡ b → old q ≡ ((b && adds insts old at x q) || old q)
  each q true same = rw (subst (λ (z : ℕ). adds insts old at x z ≡ false) (eqb-true t q same) no_add) refl
  each q false apart = refl

pub next_new : (old new : ℕ → Bool) (insts : List Inst) (at : ℕ) (x : Inst) (t : ℕ) → result_of x ≡ Some t → adds insts old at x t ≡ true → ((q : ℕ) → new q ≡ cond (eqb t q) true (old q)) → IsNext old new insts at x
next_new old new insts at x t e add updates = record { next = λ q. rw (defines_is x t q e, updates q) (each q (eqb t q) refl) } where
  each : (q : ℕ) (b : Bool) → eqb t q ≡ b → cond b true (old q) ≡ ((b && adds insts old at x q) || old q)
  each q true same = rw (subst (λ (z : ℕ). adds insts old at x z ≡ true) (eqb-true t q same) add) refl
  each q false apart = refl

-- ---- one instruction more
module _ (old : ℕ → Bool) (insts : List Inst) (at : ℕ) (x : Inst) (so_far : IsSetUpTo old insts at) (there : slice_get insts at ≡ Some x) where
  made : (id : ℕ) → definer insts id ≡ Some at → makes insts old at x id ≡ true → IsReadOnly insts id
  made id d m = cases (eqb x.opcode 59) (eqb x.opcode 65) refl refl m where
    here : IsDefinedAt insts id at x
    here = record { definer_is = d; there = there }

    cases : (a b : Bool) → eqb x.opcode 59 ≡ a → eqb x.opcode 65 ≡ b
        → cond a (marks_of insts id).non_writable (cond b (is_before at (definer insts (operand x 2)) && old (operand x 2)) false) ≡ true → IsReadOnly insts id
    cases true b p q e = IsReadOnly.variable id at x here (eqb-true x.opcode 59 p) e
    cases false true p q e =
        let both = and_parts (is_before at (definer insts (operand x 2))) (old (operand x 2)) e in
        let base = before_some (definer insts (operand x 2)) at both.0 in
        IsReadOnly.chain id at base.0 x here (eqb-true x.opcode 65 q) base.1 base.2 (so_far.only (operand x 2) both.1)
    cases false false p q e = cc

  same_place : (id i : ℕ) → definer insts id ≡ Some at → definer insts id ≡ Some i → i ≡ at
  same_place id i d e = same_Some i at (sym e ∙ d)

  same_inst : (i : ℕ) (y : Inst) → i ≡ at → slice_get insts i ≡ Some y → y ≡ x
  same_inst i y p e = same_Some y x (sym e ∙ ap (slice_get insts) p ∙ there)

  is_made : (id : ℕ) → definer insts id ≡ Some at → IsReadOnly insts id → makes insts old at x id ≡ true
  is_made id d (IsReadOnly.variable v i y w op m) =
      let same : y ≡ x = same_inst i y (same_place id i d w.definer_is) w.there in
      let op_is : eqb x.opcode 59 ≡ true = eq-eqb x.opcode 59 (ap (λ z. z.opcode) (sym same) ∙ op) in
      rw op_is m
  is_made id d (IsReadOnly.chain q i j y w op base below r) =
      let at_is : i ≡ at = same_place id i d w.definer_is in
      let same : y ≡ x = same_inst i y at_is w.there in
      let opcode : x.opcode ≡ 65 = ap (λ z. z.opcode) (sym same) ∙ op in
      let not_variable : eqb x.opcode 59 ≡ false = rw opcode refl in
      let op_is : eqb x.opcode 65 ≡ true = eq-eqb x.opcode 65 opcode in
      let base_is : operand y 2 ≡ operand x 2 = ap (λ z. operand z 2) same in
      let of : definer insts (operand x 2) ≡ Some j = ap (definer insts) (sym base_is) ∙ base in
      let earlier : j < at = omega (arith, below, at_is) in
      rw (not_variable, op_is) (and_both _ _ (before_is (definer insts (operand x 2)) at j of earlier)
      (so_far.all (operand x 2) j (subst (IsReadOnly insts) base_is r) of earlier))

  defined : (id : ℕ) → definer insts id ≡ Some at → defines id x ≡ true
  defined id d =
      let p = position-Some (defines id) insts at x d in
      let here : get_or insts at x ≡ x = same_Some (get_or insts at x) x (sym (slice_get-get_or insts at x p.0) ∙ there) in
      ap (defines id) (sym here) ∙ p.1

  pub set_more : (new : ℕ → Bool) → IsNext old new insts at x → IsSetUpTo new insts (at + 1)
  set_more new n = record { only = only; earlier = earlier; all = all } where
    parts : (id : ℕ) → new id ≡ true → ((definer insts id ≡ Some at) × (makes insts old at x id ≡ true)) ⊎ (old id ≡ true)
    parts id e = elim (or_cases _ (old id) (sym (n.next id) ∙ e)) [
      | inl added ↦
          let f = and_parts (defines id x) (adds insts old at x id) added in
          let g = and_parts (is_there at (definer insts id)) (makes insts old at x id) f.1 in
          inl (there_some (definer insts id) at g.0, g.1)
      | inr was ↦ inr was
    ]

    only : (id : ℕ) → new id ≡ true → IsReadOnly insts id
    only id e = elim (parts id e) [ inl added ↦ made id added.0 added.1 | inr was ↦ so_far.only id was ]

    earlier : (id : ℕ) → new id ≡ true → (j : ℕ) × (definer insts id ≡ Some j) × (j < at + 1)
    earlier id e = elim (parts id e) [
      | inl added ↦ (at, added.0, omega arith)
      | inr was ↦ let w = so_far.earlier id was in (w.0, w.1, omega (arith, w.2))
    ]

    all : (id j : ℕ) → IsReadOnly insts id → definer insts id ≡ Some j → j < at + 1 → new id ≡ true
    all id j r d h = n.next id ∙ elim (cases_lt j at) [
      | inl before ↦ or_right _ (old id) (so_far.all id j r d before)
      | inr not_before ↦
          let same : j ≡ at = omega arith in
          let d_at : definer insts id ≡ Some at = d ∙ ap Some same in
          or_left _ (old id) (and_both _ _ (defined id d_at) (and_both _ _ (there_is (definer insts id) at d_at) (is_made id d_at r)))
    ]

pub set_first : (has : ℕ → Bool) (insts : List Inst) → ((id : ℕ) → has id ≡ false) → IsSetUpTo has insts 0
set_first has insts none = record {
  only = λ id e. let f = none id in cc;
  earlier = λ id e. let f = none id in cc;
  all = λ id j r d h. absurd (omega arith);
}

-- an instruction to read where none is
nothing : List Inst → Inst
nothing insts = record { opcode = 0; operands = [] }

-- a read-only id is defined
definer_of : (insts : List Inst) (id : ℕ) → IsReadOnly insts id → (j : ℕ) × (definer insts id ≡ Some j)
definer_of insts id (IsReadOnly.variable v i x w op m) = (i, w.definer_is)
definer_of insts id (IsReadOnly.chain q i j x w op base below r) = (i, w.definer_is)

pub set_all : (has : ℕ → Bool) (insts : List Inst) (at : ℕ) → IsSetUpTo has insts at → length insts ≤ at → IsSetOf has insts
set_all has insts at so_far h = record { only = so_far.only; all = all } where
  all : (id : ℕ) → IsReadOnly insts id → has id ≡ true
  all id r =
      let d = definer_of insts id r in
      let p = position-Some (defines id) insts d.0 (nothing insts) d.1 in
      so_far.all id d.0 r d.1 (omega (arith, p.0, h))
