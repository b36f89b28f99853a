-- In code that is a row each loop is closed at its end.
use Rattle.std.proofs.Common.{◌≡◌, ◌≢◌, inl, inr, ℕ, zero, suc, ◌+◌, ◌<◌, Bool, ne_eqb, List, [], ◌∷◌, ◌++◌, length, Some, refl, sym, ap, ◌∙◌, subst, arith}
use Rattle.std.specs.Prelude.{slice_get, Contains, if◌then◌else◌}
use Rattle.spv_form.specs.declared.module.Inst.{Inst}
use Rattle.row_laws.proofs.Basics.{none, in_cons, first_in, next_in}
use Rattle.written_rows.specs.Code.{label_inst, branch_inst, selection_inst, loop_inst, fork_inst, AreInner, labels, Forking, conditional, switch, RowCode, nothing, more, onward, select, cycle, ArmsCode, no_arm, arm}
use Rattle.written_rows.specs.Laws.{EachOnce}
use Rattle.written_rows.proofs.Steps.{labels_append, get_front, get_past}
use Rattle.written_rows.proofs.Standing.{contains_get}
use Rattle.site_loops.proofs.Scan as marks
use Rattle.site_loops.proofs.Scan.{remove, step, after, scan, after_append, scan_append, inner_after, inner_scan, remove_first, after_past, scan_past, Apart}

-- ---- lists in which no number stands twice

pub once_front : (xs ys : List ℕ) → EachOnce (xs ++ ys) → EachOnce xs
once_front xs ys h i j id e f = h i j id (get_front xs ys i id e) (get_front xs ys j id f)

pub once_back : (xs ys : List ℕ) → EachOnce (xs ++ ys) → EachOnce ys
once_back xs ys h i j id e f =
    let same = h (length xs + i) (length xs + j) id (get_past xs ys i ∙ e) (get_past xs ys j ∙ f) in
    omega (arith, same)

pub once_rest : (x : ℕ) (xs : List ℕ) → EachOnce (x ∷ xs) → EachOnce xs
once_rest x xs h i j id e f =
    let same = h (suc i) (suc j) id e f in
    omega (arith, same)

-- the first one is none of the others
pub once_first : (x : ℕ) (xs : List ℕ) → EachOnce (x ∷ xs) → Contains xs x → ⊥
once_first x xs h i =
    let y = contains_get xs x i in
    let same = h 0 (suc y.0) x refl y.1 in
    omega (arith, same)

pub once_apart : (xs ys : List ℕ) → EachOnce (xs ++ ys) → (l : ℕ) → Contains xs l → Contains ys l → ⊥
once_apart xs ys h l i j =
    let a = contains_get xs l i in
    let b = contains_get ys l j in
    let same = h a.0 (length xs + b.0) l (get_front xs ys a.0 l a.1) (get_past xs ys b.0 ∙ b.1) in
    let low = below xs a.0 l a.1 in
    omega (arith, same, low)
  where
    below : (zs : List ℕ) (k z : ℕ) → slice_get zs k ≡ Some z → k < length zs
    below [] k z e = absurd (cc)
    below (y ∷ zs) zero z e = omega arith
    below (y ∷ zs) (suc k) z e =
        let h = below zs k z e in
        omega (arith, h)

pub once_labels : (xs ys : List Inst) → EachOnce (labels (xs ++ ys)) → EachOnce (labels xs ++ labels ys)
once_labels xs ys h = subst EachOnce (labels_append xs ys) h

-- ---- the labels of a loop

-- the first block, the body, the continue target and the merge block
record LoopOnce (first next : ℕ) (body : List Inst) : Type 0 where
  inside : EachOnce (labels body)
  other : first ≢ next
  past : Apart (next ∷ []) body

loop_labels : (first next meet : ℕ) (body test : List Inst) (last : List Inst) → EachOnce (first ∷ labels (body ++ (branch_inst next ∷ label_inst next ∷ (test ++ last)))) → LoopOnce first next body
loop_labels first next meet body test last h =
    let rest = once_labels body (branch_inst next ∷ label_inst next ∷ (test ++ last)) (once_rest first _ h) in
    record {
      inside = once_front (labels body) (next ∷ labels (test ++ last)) rest;
      other = λ e. once_first first _ h (subst (λ ids. Contains ids first) (sym (labels_append body (branch_inst next ∷ label_inst next ∷ (test ++ last)))) (back (labels body) (next ∷ labels (test ++ last)) first (subst (Contains (next ∷ labels (test ++ last))) (sym e) (first_in next (labels (test ++ last))))));
      past = λ l i o. once_apart (labels body) (next ∷ labels (test ++ last)) rest l i (subst (Contains (next ∷ labels (test ++ last))) (sym (only l o)) (first_in next (labels (test ++ last))));
    }
  where
    back : (xs ys : List ℕ) (x : ℕ) → Contains ys x → Contains (xs ++ ys) x
    back [] ys x h = h
    back (y ∷ xs) ys x h = next_in y x (xs ++ ys) (back xs ys x h)

    only : (l : ℕ) → Contains (next ∷ []) l → l ≡ next
    only l o = elim (in_cons l next [] o) [ inl e ↦ e | inr n ↦ absurd (none l n) ]

remove_other : (first next : ℕ) → first ≢ next → remove first (next ∷ []) ≡ next ∷ []
remove_other first next other = ap (λ (b : Bool). if b then [] else next ∷ []) (ne_eqb first next other)

fork_after : (meet : ℕ) (ids ways : List ℕ) (x : Inst) (waits : List ℕ) (rest : List Inst) → Forking meet ids x ways → after waits (x ∷ rest) ≡ after waits rest
fork_after meet ids ways x waits rest (conditional cond there other p) = refl
fork_after meet ids ways x waits rest (switch value default words) = refl

pub fork_scan : (meet : ℕ) (ids ways : List ℕ) (x : Inst) (waits : List ℕ) (rest : List Inst) → Forking meet ids x ways → scan waits (x ∷ rest) ≡ scan waits rest
fork_scan meet ids ways x waits rest (conditional cond there other p) = refl
fork_scan meet ids ways x waits rest (switch value default words) = refl

fork_labels : (meet : ℕ) (ids ways : List ℕ) (x : Inst) (rest : List Inst) → Forking meet ids x ways → labels (x ∷ rest) ≡ labels rest
fork_labels meet ids ways x rest (conditional cond there other p) = refl
fork_labels meet ids ways x rest (switch value default words) = refl

-- the labels of the code before, and of the arms
select_front : (meet : ℕ) (ids ways : List ℕ) (x : Inst) (xs code : List Inst) → Forking meet ids x ways → EachOnce (labels (xs ++ (selection_inst meet ∷ x ∷ (code ++ (label_inst meet ∷ []))))) → EachOnce (labels xs) × EachOnce (labels code)
select_front meet ids ways x xs code fork h =
    let rest = code ++ (label_inst meet ∷ []) in
    let both = once_labels xs (selection_inst meet ∷ x ∷ rest) h in
    let second = subst EachOnce (fork_labels meet ids ways x rest fork) (once_back (labels xs) (labels (x ∷ rest)) both) in
    (once_front (labels xs) (labels (x ∷ rest)) both, once_front (labels code) (meet ∷ []) (once_labels code (label_inst meet ∷ []) second))

arm_front : (label meet : ℕ) (body rest : List Inst) → EachOnce (labels (label_inst label ∷ (body ++ (branch_inst meet ∷ rest)))) → EachOnce (labels body) × EachOnce (labels rest)
arm_front label meet body rest h =
    let both = once_labels body (branch_inst meet ∷ rest) (once_rest label (labels (body ++ (branch_inst meet ∷ rest))) h) in
    (once_front (labels body) (labels rest) both, once_back (labels body) (labels rest) both)

onward_front : (next : ℕ) (xs ys : List Inst) → EachOnce (labels (xs ++ (branch_inst next ∷ label_inst next ∷ ys))) → EachOnce (labels xs) × EachOnce (labels ys)
onward_front next xs ys h =
    let both = once_labels xs (branch_inst next ∷ label_inst next ∷ ys) h in
    (once_front (labels xs) (next ∷ labels ys) both, once_rest next (labels ys) (once_back (labels xs) (next ∷ labels ys) both))

more_front : (xs ys : List Inst) → EachOnce (labels (xs ++ ys)) → EachOnce (labels xs)
more_front xs ys h = once_front (labels xs) (labels ys) (once_labels xs ys h)

mutual
  pub row_after : (d : ℕ) (b : Bool) (l : ℕ) (zs : List Inst) → RowCode d b l zs → EachOnce (labels zs) → after [] zs ≡ []
  row_after d b l zs (nothing depth label) h = refl
  row_after d b l zs (more depth loops label xs ys all row inner is) h =
      let o = subst (λ cs. EachOnce (labels cs)) is h in
      ap (after []) is ∙ after_append [] xs ys ∙ ap (λ w. after w ys) (row_after d b l xs row (more_front xs ys o)) ∙ inner_after [] ys inner
  row_after d b l zs (onward depth loops again label next xs ys all row rest is) h =
      let o = onward_front next xs ys (subst (λ cs. EachOnce (labels cs)) is h) in
      ap (after []) is ∙ after_append [] xs (branch_inst next ∷ label_inst next ∷ ys) ∙ ap (λ w. after w (branch_inst next ∷ label_inst next ∷ ys)) (row_after d b l xs row o.0) ∙ row_after d again next ys rest o.1
  row_after d b l zs (select depth loops label meet ids ways x xs code all row fork are body is) h =
      let o = select_front meet ids ways x xs code fork (subst (λ cs. EachOnce (labels cs)) is h) in
      let tail = code ++ (label_inst meet ∷ []) in
      ap (after []) is ∙ after_append [] xs (selection_inst meet ∷ x ∷ tail) ∙ ap (λ w. after w (selection_inst meet ∷ x ∷ tail)) (row_after d b l xs row o.0) ∙ fork_after meet ids ways x [] tail fork ∙ after_append [] code (label_inst meet ∷ []) ∙ ap (λ w. after w (label_inst meet ∷ [])) (arms_after depth meet ids code body o.1)
  row_after d b l zs (cycle depth again label meet next first cond there other body test all row inner round is) h =
      let last : List Inst = fork_inst cond there other ∷ label_inst meet ∷ [] in
      let tail : List Inst = branch_inst next ∷ label_inst next ∷ (test ++ last) in
      let o = loop_labels first next meet body test last (subst (λ cs. EachOnce (labels cs)) is h) in
      ap (after []) is
      ∙ ap (λ w. after w (body ++ tail)) (remove_other first next o.other)
      ∙ after_append (next ∷ []) body tail
      ∙ ap (λ w. after w tail) (after_past [] (next ∷ []) body o.past ∙ ap (λ w. w ++ (next ∷ [])) (row_after depth again first body row o.inside))
      ∙ ap (λ w. after w (test ++ last)) (remove_first next [])
      ∙ after_append [] test last
      ∙ ap (λ w. after w last) (inner_after [] test inner)

  pub arms_after : (d meet : ℕ) (ids : List ℕ) (zs : List Inst) → ArmsCode d meet ids zs → EachOnce (labels zs) → after [] zs ≡ []
  arms_after d meet ids zs (no_arm depth m) h = refl
  arms_after d meet ids zs (arm depth b m label others body rest all row code is) h =
      let o = arm_front label meet body rest (subst (λ cs. EachOnce (labels cs)) is h) in
      ap (after []) is ∙ after_append [] body (branch_inst meet ∷ rest) ∙ ap (λ w. after w (branch_inst meet ∷ rest)) (row_after depth b label body row o.0) ∙ arms_after depth meet others rest code o.1

-- ---- the loops at each label

pub scan_more : (d : ℕ) (b : Bool) (l : ℕ) (xs ys : List Inst) → RowCode d b l xs → AreInner ys → EachOnce (labels (xs ++ ys)) → scan [] (xs ++ ys) ≡ scan [] xs
scan_more d b l xs ys row inner h =
    scan_append [] xs ys ∙ ap (λ ns. scan [] xs ++ ns) (inner_scan (after [] xs) ys inner) ∙ append_none (scan [] xs)
  where
    append_none : (ns : List ℕ) → ns ++ [] ≡ ns
    append_none [] = refl
    append_none (n ∷ ns) = ap (λ ms. n ∷ ms) (append_none ns)

pub scan_onward : (d : ℕ) (b : Bool) (l next : ℕ) (xs ys : List Inst) → RowCode d b l xs → EachOnce (labels (xs ++ (branch_inst next ∷ label_inst next ∷ ys))) → scan [] (xs ++ (branch_inst next ∷ label_inst next ∷ ys)) ≡ scan [] xs ++ 0 ∷ scan [] ys
scan_onward d b l next xs ys row h =
    let o = onward_front next xs ys h in
    scan_append [] xs (branch_inst next ∷ label_inst next ∷ ys) ∙ ap (λ w. scan [] xs ++ scan w (branch_inst next ∷ label_inst next ∷ ys)) (row_after d b l xs row o.0)

pub scan_select : (d depth : ℕ) (b : Bool) (l meet : ℕ) (ids ways : List ℕ) (x : Inst) (xs code : List Inst) → RowCode d b l xs → Forking meet ids x ways → ArmsCode depth meet ids code → EachOnce (labels (xs ++ (selection_inst meet ∷ x ∷ (code ++ (label_inst meet ∷ []))))) → scan [] (xs ++ (selection_inst meet ∷ x ∷ (code ++ (label_inst meet ∷ [])))) ≡ scan [] xs ++ (scan [] code ++ 0 ∷ [])
scan_select d depth b l meet ids ways x xs code row fork body h =
    let o = select_front meet ids ways x xs code fork h in
    let tail = code ++ (label_inst meet ∷ []) in
    scan_append [] xs (selection_inst meet ∷ x ∷ tail) ∙ ap (λ w. scan [] xs ++ scan w (selection_inst meet ∷ x ∷ tail)) (row_after d b l xs row o.0) ∙ ap (λ ns. scan [] xs ++ ns) (fork_scan meet ids ways x [] tail fork ∙ scan_append [] code (label_inst meet ∷ []) ∙ ap (λ w. scan [] code ++ scan w (label_inst meet ∷ [])) (arms_after depth meet ids code body o.1))

pub scan_cycle : (depth : ℕ) (again : Bool) (meet next first cond there other : ℕ) (body test : List Inst) → RowCode depth again first body → AreInner test → EachOnce (labels (loop_inst meet next ∷ branch_inst first ∷ label_inst first ∷ (body ++ (branch_inst next ∷ label_inst next ∷ (test ++ (fork_inst cond there other ∷ label_inst meet ∷ [])))))) → scan [] (loop_inst meet next ∷ branch_inst first ∷ label_inst first ∷ (body ++ (branch_inst next ∷ label_inst next ∷ (test ++ (fork_inst cond there other ∷ label_inst meet ∷ []))))) ≡ 1 ∷ (marks.more 1 (scan [] body) ++ (0 ∷ 0 ∷ []))
scan_cycle depth again meet next first cond there other body test row inner h =
    let last : List Inst = fork_inst cond there other ∷ label_inst meet ∷ [] in
    let tail : List Inst = branch_inst next ∷ label_inst next ∷ (test ++ last) in
    let o = loop_labels first next meet body test last h in
    let behind : scan (next ∷ []) tail ≡ 0 ∷ 0 ∷ [] = ap (λ w. length w ∷ scan w (test ++ last)) (remove_first next []) ∙ ap (λ ns. 0 ∷ ns) (scan_append [] test last ∙ ap (λ ns. ns ++ scan (after [] test) last) (inner_scan [] test inner) ∙ ap (λ w. scan w last) (inner_after [] test inner)) in
    ap (λ w. length w ∷ scan w (body ++ tail)) (remove_other first next o.other)
    ∙ ap (λ ns. 1 ∷ ns) (scan_append (next ∷ []) body tail
    ∙ ap (λ ns. ns ++ scan (after (next ∷ []) body) tail) (scan_past [] (next ∷ []) body o.past)
    ∙ ap (λ w. marks.more 1 (scan [] body) ++ scan w tail) (after_past [] (next ∷ []) body o.past ∙ ap (λ w. w ++ (next ∷ [])) (row_after depth again first body row o.inside))
    ∙ ap (λ ns. marks.more 1 (scan [] body) ++ ns) behind)

pub scan_arm : (depth : ℕ) (b : Bool) (meet label : ℕ) (body rest : List Inst) → RowCode depth b label body → EachOnce (labels (label_inst label ∷ (body ++ (branch_inst meet ∷ rest)))) → scan [] (label_inst label ∷ (body ++ (branch_inst meet ∷ rest))) ≡ 0 ∷ (scan [] body ++ scan [] rest)
scan_arm depth b meet label body rest row h =
    let o = arm_front label meet body rest h in
    ap (λ ns. 0 ∷ ns) (scan_append [] body (branch_inst meet ∷ rest) ∙ ap (λ w. scan [] body ++ scan w (branch_inst meet ∷ rest)) (row_after depth b label body row o.0))

-- ---- what is left once in the parts

pub parts_onward : (next : ℕ) (xs ys : List Inst) → EachOnce (labels (xs ++ (branch_inst next ∷ label_inst next ∷ ys))) → EachOnce (labels xs) × EachOnce (labels ys)
parts_onward next xs ys h = onward_front next xs ys h

pub parts_select : (meet : ℕ) (ids ways : List ℕ) (x : Inst) (xs code : List Inst) → Forking meet ids x ways → EachOnce (labels (xs ++ (selection_inst meet ∷ x ∷ (code ++ (label_inst meet ∷ []))))) → EachOnce (labels xs) × EachOnce (labels code)
parts_select meet ids ways x xs code fork h = select_front meet ids ways x xs code fork h

pub parts_cycle : (meet next first cond there other : ℕ) (body test : List Inst) → EachOnce (labels (loop_inst meet next ∷ branch_inst first ∷ label_inst first ∷ (body ++ (branch_inst next ∷ label_inst next ∷ (test ++ (fork_inst cond there other ∷ label_inst meet ∷ [])))))) → EachOnce (labels body)
parts_cycle meet next first cond there other body test h =
    (loop_labels first next meet body test (fork_inst cond there other ∷ label_inst meet ∷ []) h).inside

pub parts_arm : (label meet : ℕ) (body rest : List Inst) → EachOnce (labels (label_inst label ∷ (body ++ (branch_inst meet ∷ rest)))) → EachOnce (labels body) × EachOnce (labels rest)
parts_arm label meet body rest h = arm_front label meet body rest h

pub parts_more : (xs ys : List Inst) → EachOnce (labels (xs ++ ys)) → EachOnce (labels xs)
parts_more xs ys h = more_front xs ys h
