-- The labels of a row's code, and their ids.
use Rattle.std.proofs.Common.{◌≡◌, ℕ, zero, suc, ◌<◌, Bool, true, false, List, [], ◌∷◌, ◌++◌, Some, refl, sym, ap, ◌∙◌, subst, arith}
use Rattle.std.specs.Prelude.{slice_get, ◌==◌, if◌then◌else◌}
use Rattle.spv_form.specs.declared.module.Inst.{Inst}
use Rattle.flow_blocks.specs.Blocks.{operand}
use Rattle.spirv_meaning.specs.Names.{label_of}
use Rattle.written_rows.specs.Code.{label_inst, branch_inst, selection_inst, fork_inst, AreInner, labels, Forking, conditional, switch, RowCode, nothing, more, onward, select, cycle, ArmsCode, no_arm, arm}
use Rattle.written_rows.specs.Laws.{EachOnce}

-- each label among the instructions has an id
abbrev pub HasId : Inst → Type 0
HasId x = (x.opcode == 248) ≡ true → label_of x ≡ Some (operand x 0)

abbrev pub HaveIds : List Inst → Type 0
HaveIds [] = Unit {0}
HaveIds (x ∷ xs) = HasId x × HaveIds xs

true_false : true ≡ false → ⊥
true_false e = cc

low_other : (n : ℕ) → n < 246 → (n == 248) ≡ true → ⊥
low_other n low e = grind arith

ids_append : (xs ys : List Inst) → HaveIds xs → HaveIds ys → HaveIds (xs ++ ys)
ids_append [] ys h k = k
ids_append (x ∷ xs) ys h k = (h.0, ids_append xs ys h.1 k)

inner_ids : (xs : List Inst) → AreInner xs → HaveIds xs
inner_ids [] h = tt
inner_ids (x ∷ xs) h = ((λ e. absurd (low_other x.opcode h.0 e)), inner_ids xs h.1)

fork_id : (meet : ℕ) (ids ways : List ℕ) (x : Inst) → Forking meet ids x ways → HasId x
fork_id meet ids ways x (conditional cond there other p) e = absurd (true_false (sym e))
fork_id meet ids ways x (switch value default words) e = absurd (true_false (sym e))

mutual
  pub row_ids : (d : ℕ) (b : Bool) (l : ℕ) (zs : List Inst) → RowCode d b l zs → HaveIds zs
  row_ids d b l zs (nothing depth label) = tt
  row_ids d b l zs (more depth loops label xs ys all row inner is) =
      subst HaveIds (sym is) (ids_append xs ys (row_ids _ b l xs row) (inner_ids ys inner))
  row_ids d b l zs (onward depth loops again label next xs ys all row rest is) =
      subst HaveIds (sym is) (ids_append xs (branch_inst next ∷ label_inst next ∷ ys) (row_ids _ b l xs row) ((λ e. absurd (true_false (sym e))), ((λ e. refl), row_ids depth again next ys rest)))
  row_ids d b l zs (select depth loops label meet ids ways x xs code all row fork are body is) =
      subst HaveIds (sym is) (ids_append xs (selection_inst meet ∷ x ∷ (code ++ (label_inst meet ∷ []))) (row_ids _ b l xs row) ((λ e. absurd (true_false (sym e))), (fork_id meet ids ways x fork, ids_append code (label_inst meet ∷ []) (arms_ids depth meet ids code body) ((λ e. refl), tt))))
  row_ids d b l zs (cycle depth again label meet next first cond there other body test all row inner round is) =
      let last : List Inst = fork_inst cond there other ∷ label_inst meet ∷ [] in
      subst HaveIds (sym is) ((λ e. absurd (true_false (sym e))), ((λ e. absurd (true_false (sym e))), ((λ e. refl), ids_append body (branch_inst next ∷ label_inst next ∷ (test ++ last)) (row_ids depth again first body row) ((λ e. absurd (true_false (sym e))), ((λ e. refl), ids_append test last (inner_ids test inner) ((λ e. absurd (true_false (sym e))), ((λ e. refl), tt)))))))

  arms_ids : (d meet : ℕ) (ids : List ℕ) (zs : List Inst) → ArmsCode d meet ids zs → HaveIds zs
  arms_ids d meet ids zs (no_arm depth m) = tt
  arms_ids d meet ids zs (arm depth b m label others body rest all row code is) =
      subst HaveIds (sym is) ((λ e. refl), ids_append body (branch_inst meet ∷ rest) (row_ids depth b label body row) ((λ e. absurd (true_false (sym e))), arms_ids depth meet others rest code))

-- ---- where no label stands twice, no id does

-- a label with an id, and where it stands
pub record Standing (xs : List Inst) (id : ℕ) : Type 0 where
  pub place : ℕ
  pub label : Inst
  pub there : slice_get xs place ≡ Some label
  pub id_is : label_of label ≡ Some id

further : (x : Inst) (xs : List Inst) (id : ℕ) → Standing xs id → Standing (x ∷ xs) id
further x xs id s = record { place = suc s.place; label = s.label; there = s.there; id_is = s.id_is }

inj : {A : Type 0} {a b : A} → Some a ≡ Some b → a ≡ b
inj e = cc

stands : (xs : List Inst) → HaveIds xs → (i id : ℕ) → slice_get (labels xs) i ≡ Some id → Standing xs id
stands [] h i id e = absurd (cc)
stands (x ∷ xs) h i id e = by_test (x.opcode == 248) refl (λ j f. stands xs h.1 j id f) i e
  where
    by_test : (b : Bool) → (x.opcode == 248) ≡ b → ((j : ℕ) → slice_get (labels xs) j ≡ Some id → Standing xs id) → (i : ℕ) → slice_get (if b then operand x 0 ∷ labels xs else labels xs) i ≡ Some id → Standing (x ∷ xs) id
    by_test true is rest zero e = record { place = 0; label = x; there = refl; id_is = h.0 is ∙ e }
    by_test true is rest (suc i) e = further x xs id (rest i e)
    by_test false is rest i e = further x xs id (rest i e)

abbrev pub LabelsOnce : List Inst → Type 0
LabelsOnce xs = (j k id : ℕ) (x y : Inst) → slice_get xs j ≡ Some x → slice_get xs k ≡ Some y → label_of x ≡ Some id → label_of y ≡ Some id → j ≡ k

pub each_once : (xs : List Inst) → HaveIds xs → LabelsOnce xs → EachOnce (labels xs)
each_once [] h once i j id e f = absurd (cc)
each_once (x ∷ xs) h once i j id e f =
    by_test (x.opcode == 248) refl (each_once xs h.1 (λ a b k y z ey ez hy hz. (let same = once (suc a) (suc b) k y z ey ez hy hz in omega (arith, same)))) i j e f
  where
    -- the first label's id stands nowhere behind it
    only : (x.opcode == 248) ≡ true → operand x 0 ≡ id → (i : ℕ) → slice_get (labels xs) i ≡ Some id → ⊥
    only is same i e =
        let s = stands xs h.1 i id e in
        let clash = once 0 (suc s.place) id x s.label refl s.there (h.0 is ∙ ap Some same) s.id_is in
        omega (arith, clash)

    by_test : (b : Bool) → (x.opcode == 248) ≡ b → EachOnce (labels xs) → (i j : ℕ) → slice_get (if b then operand x 0 ∷ labels xs else labels xs) i ≡ Some id → slice_get (if b then operand x 0 ∷ labels xs else labels xs) j ≡ Some id → i ≡ j
    by_test true is rest zero zero e f = refl
    by_test true is rest zero (suc j) e f = absurd (only is (inj e) j f)
    by_test true is rest (suc i) zero e f = absurd (only is (inj f) i e)
    by_test true is rest (suc i) (suc j) e f = ap suc (rest i j id e f)
    by_test false is rest i j e f = rest i j id e f
