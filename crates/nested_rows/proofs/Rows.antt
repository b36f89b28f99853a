-- In code that is a row no more merge instructions wait than it is deep.
use Rattle.std.proofs.Common.{◌≡◌, ℕ, ◌<◌, Bool, true, false, ne_eqb, List, [], ◌∷◌, ◌++◌, refl, sym, ap, ◌∙◌, subst, arith}
use Rattle.std.specs.Prelude.{◌==◌, ◌||◌}
use Rattle.std.specs.List.{list_any}
use Rattle.spv_form.specs.declared.module.Inst.{Inst}
use Rattle.order_rules.specs.Merges.{is_merge, is_label}
use Rattle.written_rows.specs.Code.{label_inst, branch_inst, selection_inst, loop_inst, fork_inst, return_inst, AreInner, Forking, conditional, switch, RowCode, nothing, more, onward, select, cycle, ArmsCode, no_arm, arm}
use Rattle.nested_rows.specs.Laws.{NestedRowsStayShallow}
use Rattle.nested_rows.proofs.Waiting.{any_more, any_back, Shallow, none_waits, join, before, opens}

low_other : (x : Inst) → x.opcode < 246 → is_merge x ≡ false
low_other x low =
    ap (λ b. b || (x.opcode == 247)) (ne_eqb x.opcode 246 (λ e. absurd (omega (arith, e, low)))) ∙ ne_eqb x.opcode 247 (λ e. absurd (omega (arith, e, low)))

inner_low : (d : ℕ) (xs : List Inst) → AreInner xs → Shallow d xs
inner_low d [] h = none_waits d
inner_low d (x ∷ xs) h = before d x xs (low_other x h.0) (inner_low d xs h.1)

fork_other : (meet : ℕ) (ids ways : List ℕ) (x : Inst) → Forking meet ids x ways → is_merge x ≡ false
fork_other meet ids ways x (conditional cond there other p) = refl
fork_other meet ids ways x (switch value default words) = refl

label_found : (meet : ℕ) (xs : List Inst) → list_any (is_label meet) (label_inst meet ∷ xs) ≡ true
label_found meet xs = ap (λ b. b || list_any (is_label meet) xs) (same meet)
  where
    same : (n : ℕ) → (n == n) ≡ true
    same n = grind arith

mutual
  pub row_low : (d : ℕ) (b : Bool) (l : ℕ) (zs : List Inst) → RowCode d b l zs → Shallow d zs
  row_low d b l zs (nothing depth label) = none_waits d
  row_low d b l zs (more depth loops label xs ys all row inner is) =
      subst (Shallow d) (sym is) (join d xs ys (row_low d b l xs row) (inner_low d ys inner))
  row_low d b l zs (onward depth loops again label next xs ys all row rest is) =
      subst (Shallow d) (sym is) (join d xs (branch_inst next ∷ label_inst next ∷ ys) (row_low d b l xs row) (before d (branch_inst next) (label_inst next ∷ ys) refl (before d (label_inst next) ys refl (row_low d again next ys rest))))
  row_low d b l zs (select depth loops label meet ids ways x xs code all row fork are body is) =
      let tail : List Inst = label_inst meet ∷ [] in
      let rest : List Inst = x ∷ (code ++ tail) in
      let arms = join depth code tail (arms_low depth meet ids code body) (before depth (label_inst meet) [] refl (none_waits depth)) in
      let there = any_more (is_label meet) x (code ++ tail) (any_back (is_label meet) code tail (label_found meet [])) in
      subst (Shallow d) (sym is) (join d xs (selection_inst meet ∷ rest) (row_low d b l xs row) (opens depth (selection_inst meet) rest there (before depth x (code ++ tail) (fork_other meet ids ways x fork) arms)))
  row_low d b l zs (cycle depth again label meet next first cond there other body test all row inner round is) =
      let last : List Inst = fork_inst cond there other ∷ label_inst meet ∷ [] in
      let second : List Inst = branch_inst next ∷ label_inst next ∷ (test ++ last) in
      let inside : List Inst = body ++ second in
      let ends = before depth (fork_inst cond there other) (label_inst meet ∷ []) refl (before depth (label_inst meet) [] refl (none_waits depth)) in
      let behind = before depth (branch_inst next) (label_inst next ∷ (test ++ last)) refl (before depth (label_inst next) (test ++ last) refl (join depth test last (inner_low depth test inner) ends)) in
      let found = any_more (is_label meet) (fork_inst cond there other) (label_inst meet ∷ []) (label_found meet []) in
      let back = any_more (is_label meet) (branch_inst next) (label_inst next ∷ (test ++ last)) (any_more (is_label meet) (label_inst next) (test ++ last) (any_back (is_label meet) test last found)) in
      let all_back = any_more (is_label meet) (branch_inst first) (label_inst first ∷ inside) (any_more (is_label meet) (label_inst first) inside (any_back (is_label meet) body second back)) in
      subst (Shallow d) (sym is) (opens depth (loop_inst meet next) (branch_inst first ∷ label_inst first ∷ inside) all_back (before depth (branch_inst first) (label_inst first ∷ inside) refl (before depth (label_inst first) inside refl (join depth body second (row_low depth again first body row) behind))))

  arms_low : (d meet : ℕ) (ids : List ℕ) (zs : List Inst) → ArmsCode d meet ids zs → Shallow d zs
  arms_low d meet ids zs (no_arm depth m) = none_waits d
  arms_low d meet ids zs (arm depth b m label others body rest all row code is) =
      subst (Shallow d) (sym is) (before d (label_inst label) (body ++ (branch_inst meet ∷ rest)) refl (join d body (branch_inst meet ∷ rest) (row_low d b label body row) (before d (branch_inst meet) rest refl (arms_low d meet others rest code))))

pub shallow : NestedRowsStayShallow
shallow depth loops front code back label first row last at =
    let tail : List Inst = return_inst ∷ back in
    let inside = before depth (label_inst label) (code ++ tail) refl (join depth code tail (row_low depth loops label code row) (before depth return_inst back refl (inner_low depth back last))) in
    (join depth front (label_inst label ∷ (code ++ tail)) (inner_low depth front first) inside).low at
