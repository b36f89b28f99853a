-- Code that may stand behind the code of a row.
use Rattle.std.proofs.Common.{◌≡◌, ◌≢◌, ◌⊎◌, inl, inr, ℕ, zero, suc, Bool, false, List, [], ◌∷◌, ◌++◌, append_assoc, refl, sym, ap, ◌∙◌, subst}
use Rattle.std.specs.Prelude.{Contains}
use Rattle.spv_form.specs.declared.module.Inst.{Inst}
use Rattle.row_laws.proofs.Basics.{none, in_cons, first_in}
use Rattle.written_rows.specs.Code.{label_inst, branch_inst, selection_inst, fork_inst, AreInner, one_arm, two_arms, Forking, conditional, AreWays, RowCode, nothing, more, onward, select, ArmsCode, no_arm, arm}

abbrev pub Tail : ℕ → List Inst → Type 0
Tail d ys = (b : Bool) (l : ℕ) (xs : List Inst) → RowCode d b l xs → RowCode d b l (xs ++ ys)

pub inner_tail : (d : ℕ) (ys : List Inst) → AreInner ys → Tail d ys
inner_tail d ys h b l xs row = more d b l xs ys (xs ++ ys) row h refl

pub tail_then : (d : ℕ) (ys zs : List Inst) → Tail d ys → Tail d zs → Tail d (ys ++ zs)
tail_then d ys zs f g b l xs row = subst (RowCode d b l) (append_assoc xs ys zs) (g b l (xs ++ ys) (f b l xs row))

pub tail_onward : (d : ℕ) (again : Bool) (next : ℕ) (ys : List Inst) → RowCode d again next ys → Tail d (branch_inst next ∷ label_inst next ∷ ys)
tail_onward d again next ys rest b l xs row = onward d b again l next xs ys _ row rest refl

pub tail_select : (d meet : ℕ) (ids ways : List ℕ) (x : Inst) (arms : List Inst) → Forking meet ids x ways → AreWays meet ids ways → ArmsCode d meet ids arms → Tail (suc d) (selection_inst meet ∷ x ∷ (arms ++ (label_inst meet ∷ [])))
tail_select d meet ids ways x arms fork are code b l xs row = select d b l meet ids ways x xs arms _ row fork are code refl

pub row_of : (d l : ℕ) (ys : List Inst) → Tail d ys → RowCode d false l ys
row_of d l ys f = f false l [] (nothing d l)

-- ---- a conditional branch to one arm or on

pub one_way : (d : ℕ) (b : Bool) (meet cond there other : ℕ) (body : List Inst) → other ≡ meet → RowCode d b there body → Tail (suc d) (selection_inst meet ∷ fork_inst cond there other ∷ label_inst there ∷ (body ++ (branch_inst meet ∷ label_inst meet ∷ [])))
one_way d b meet cond there other body same row =
    let ids = there ∷ [] in
    let arms : List Inst = label_inst there ∷ (body ++ (branch_inst meet ∷ [])) in
    let code : ArmsCode d meet ids arms = arm d b meet there [] body [] arms row (no_arm d meet) refl in
    let parts = tail_select d meet ids (there ∷ other ∷ []) (fork_inst cond there other) arms (conditional cond there other (one_arm (first_in there []) same)) (record { each = each; all = λ id h. first id h }) code in
    let whole : arms ++ (label_inst meet ∷ []) ≡ label_inst there ∷ (body ++ (branch_inst meet ∷ label_inst meet ∷ [])) = ap (λ is. label_inst there ∷ is) (append_assoc body (branch_inst meet ∷ []) (label_inst meet ∷ [])) in
    subst (λ is. Tail (suc d) (selection_inst meet ∷ fork_inst cond there other ∷ is)) whole parts
  where
    each : (id : ℕ) → Contains (there ∷ other ∷ []) id → (id ≡ meet) ⊎ Contains (there ∷ []) id
    each id h = elim (in_cons id there (other ∷ []) h) [
      | inl e ↦ inr (subst (Contains (there ∷ [])) (sym e) (first_in there []))
      | inr i ↦ elim (in_cons id other [] i) [ inl e ↦ inl (e ∙ same) | inr n ↦ absurd (none id n) ]
    ]

    first : (id : ℕ) → Contains (there ∷ []) id → Contains (there ∷ other ∷ []) id
    first id h = elim (in_cons id there [] h) [ inl e ↦ subst (Contains (there ∷ other ∷ [])) (sym e) (first_in there (other ∷ [])) | inr n ↦ absurd (none id n) ]

-- ---- to one of two arms

pub two_ways : (d meet cond there other : ℕ) (body zeros : List Inst) → AreInner body → AreInner zeros → Tail (suc d) (selection_inst meet ∷ fork_inst cond there other ∷ label_inst there ∷ (body ++ (branch_inst meet ∷ label_inst other ∷ ((zeros ++ (branch_inst meet ∷ [])) ++ (label_inst meet ∷ [])))))
two_ways d meet cond there other body zeros first second =
    let ids = there ∷ other ∷ [] in
    let rest : List Inst = label_inst other ∷ (zeros ++ (branch_inst meet ∷ [])) in
    let arms : List Inst = label_inst there ∷ (body ++ (branch_inst meet ∷ rest)) in
    let code : ArmsCode d meet ids arms = arm d false meet there (other ∷ []) body rest arms (row_of d there body (inner_tail d body first)) (arm d false meet other [] zeros [] rest (row_of d other zeros (inner_tail d zeros second)) (no_arm d meet) refl) refl in
    let parts = tail_select d meet ids ids (fork_inst cond there other) arms (conditional cond there other (two_arms 0 1 refl refl apart)) (record { each = λ id h. inr h; all = λ id h. h }) code in
    let whole : arms ++ (label_inst meet ∷ []) ≡ label_inst there ∷ (body ++ (branch_inst meet ∷ label_inst other ∷ ((zeros ++ (branch_inst meet ∷ [])) ++ (label_inst meet ∷ [])))) = ap (λ is. label_inst there ∷ is) (append_assoc body (branch_inst meet ∷ rest) (label_inst meet ∷ [])) in
    subst (λ is. Tail (suc d) (selection_inst meet ∷ fork_inst cond there other ∷ is)) whole parts
  where
    apart : zero ≢ suc zero
    apart e = cc
