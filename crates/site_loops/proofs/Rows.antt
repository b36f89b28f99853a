-- How many loops hold the blocks of the code of a row.
use Rattle.std.proofs.Common.{◌≡◌, ℕ, ◌+◌, Bool, false, List, [], ◌∷◌, ◌++◌, length, Some, None, refl, sym, ap, ◌∙◌, subst, arith}
use Rattle.spv_form.specs.declared.module.Inst.{Inst}
use Rattle.spv_form.specs.Words.{size_of}
use Rattle.flow_rules.specs.Blocks.{BasicBlock}
use Rattle.flow_rules.specs.declared.block.Merge.{Merge}
use Rattle.flow_rules.specs.declared.block.MergeKind.{MergeKind}
use Rattle.flow_rules.specs.declared.block.MergeKind.TheVariants.{Selection, Loop}
use Rattle.flow_rules.specs.Flow.{At}
use Rattle.flow_blocks.specs.Numbered.{numbered_merge}
use Rattle.row_laws.specs.Rows.{is_loop, continue_of}
use Rattle.row_laws.proofs.Basics.{none_some, some_inj, true_false, at_same}
use Rattle.row_laws.proofs.Arms as arms
use Rattle.written_rows.specs.Code.{label_inst, branch_inst, selection_inst, loop_inst, fork_inst, labels, RowCode, nothing, more, onward, select, cycle, ArmsCode, no_arm, arm}
use Rattle.written_rows.specs.Laws.{EachOnce}
use Rattle.written_rows.proofs.Steps.{word_at, inner_labels}
use Rattle.written_rows.proofs.Ends.{inner_ends, forked, row_ends}
use Rattle.written_rows.proofs.Standing.{pushed, Stands, Numbered, Here, stands_front, numbered_front, here_front, here_back}
use Rattle.written_rows.proofs.Pieces.{labels_more, labels_onward, labels_select, branching, heading, entering, testing}
use Rattle.written_rows.proofs.Rows.{labels_cycle, labels_arm, branch_at, next_number, here_next, header_at, here_body, selection_at, stands_behind, numbered_behind, label_behind, here_arm, stands_next, test_at, row_good, arms_good}
use Rattle.site_loops.proofs.Scan.{scan}
use Rattle.site_loops.proofs.Over.{Plain}
use Rattle.site_loops.proofs.Held.{Held, AreHeld, Heads, held_none, held_onward, no_arms_held, arm_held, held_select, held_cycle}
use Rattle.site_loops.proofs.Closed.{scan_more, scan_onward, scan_select, scan_cycle, scan_arm, parts_onward, parts_select, parts_cycle, parts_arm, parts_more}

module _ (bs : List BasicBlock) (number : ℕ → ℕ) where
  -- ---- headers

  plain_none : (q : ℕ) (b : BasicBlock) → At bs q b → b.merge ≡ None → Plain bs q
  plain_none q b at e g l =
      none_some g (sym e ∙ (ap (λ (x : BasicBlock). x.merge) (at_same bs q b l.0.0 at l.0.1.0) ∙ l.0.1.1))

  plain_select : (q : ℕ) (b : BasicBlock) (g : Merge) → At bs q b → b.merge ≡ Some g → is_loop g ≡ false → Plain bs q
  plain_select q b g at e never f l =
      let same = some_inj g f (sym e ∙ (ap (λ (x : BasicBlock). x.merge) (at_same bs q b l.0.0 at l.0.1.0) ∙ l.0.1.1)) in
      true_false (sym l.1 ∙ (sym (ap is_loop same) ∙ never))

  -- a loop's header holds the blocks up to the continue target
  heads_of : (k c v w meet next u first : ℕ) → At bs k (entering bs number v w meet next u first) → number next ≡ c → Heads bs k c
  heads_of k c v w meet next u first at is =
      record {
        inside = λ q low high. record { by = g; continue_target = number next; loops = record { header = record { block = entering bs number v w meet next u first; at = at; merge = refl }; kind = refl }; from = low; before = omega (arith, high, is) };
        outside = λ q past s. (let same = some_inj g s.by (ap (λ (x : BasicBlock). x.merge) (at_same bs k (entering bs number v w meet next u first) s.loops.header.block at s.loops.header.at) ∙ s.loops.header.merge) in
            let target : number next ≡ s.continue_target = ap continue_of same ∙ ap target_of s.loops.kind in
            let before = s.before in
            omega (arith, past, is, target, before));
      }
    where
      g : Merge
      g = numbered_merge number (record { word = w; kind = Loop next; merge_block = meet })

      target_of : MergeKind → ℕ
      target_of k = continue_of (record { word = 0; kind = k; merge_block = 0 })

  put : (k n m : ℕ) (ds es : List ℕ) → n ≡ m → ds ≡ es → Held bs k n ds → Held bs k m es
  put k n m ds es e f h = subst (λ z. Held bs k z es) e (subst (Held bs k n) f h)

  put_arms : (k n m : ℕ) (ds es : List ℕ) → n ≡ m → ds ≡ es → AreHeld bs k n ds → AreHeld bs k m es
  put_arms k n m ds es e f h = subst (λ z. AreHeld bs k z es) e (subst (AreHeld bs k n) f h)

  abbrev RowHeld : (k : ℕ) → List Inst → Type 0
  RowHeld k zs = Held bs k (length (labels zs)) (scan [] zs)

  abbrev ArmsHeld : (m : ℕ) → List Inst → Type 0
  ArmsHeld m zs = AreHeld bs m (length (labels zs)) (scan [] zs)

  mutual
    pub row_held : (d : ℕ) (b : Bool) (l : ℕ) (zs : List Inst) → RowCode d b l zs → (v w k : ℕ) → Here bs number l v w k zs → EachOnce (labels zs) → RowHeld k zs
    row_held d b l zs (nothing depth label) v w k h once = held_none bs k
    row_held d b l zs (more depth loops label xs ys all row inner is) v w k h once =
        let here = subst (Here bs number l v w k) is h in
        let o = subst (λ cs. EachOnce (labels cs)) is once in
        let first = row_held d b l xs row v w k (here_front bs number l v w k xs ys here) (parts_more xs ys o) in
        subst (RowHeld k) (sym is) (put k (length (labels xs)) (length (labels (xs ++ ys))) (scan [] xs) (scan [] (xs ++ ys)) (sym (labels_more xs ys inner)) (sym (scan_more d b l xs ys row inner o)) first)
    row_held d b l zs (onward depth loops again label next xs ys all row rest is) v w k h once =
        let here = subst (Here bs number l v w k) is h in
        let o = subst (λ cs. EachOnce (labels cs)) is once in
        let parts = parts_onward next xs ys o in
        let n = length (labels xs) in
        let e = row_ends d b l xs row v w in
        let tail : List Inst = branch_inst next ∷ label_inst next ∷ ys in
        let back = here_back bs number l v w k xs tail e here in
        let p = word_at w xs in
        let front = here_front bs number l v w k xs tail here in
        let good = row_good bs number d b l xs row v w k front in
        let one = row_held d b l xs row v w k front parts.0 in
        let two = row_held d again next ys rest (p + size_of (branch_inst next)) (p + size_of (branch_inst next) + size_of (label_inst next)) (k + n + 1) (here_next bs number e.last e.word p (k + n) next ys back) parts.1 in
        let plain = plain_none (k + n) (branching bs number e.last e.word p next) (branch_at bs number e.last e.word p (k + n) next (label_inst next ∷ ys) back) refl in
        let whole = held_onward bs k n (length (labels ys)) (scan [] xs) (scan [] ys) good.fine plain one two in
        subst (RowHeld k) (sym is) (put k (n + 1 + length (labels ys)) (length (labels (xs ++ tail))) (scan [] xs ++ 0 ∷ scan [] ys) (scan [] (xs ++ tail)) (sym (labels_onward xs next ys)) (sym (scan_onward d b l next xs ys row o)) whole)
    row_held d b l zs (select depth loops label meet ids ways x xs code all row fork are body is) v w k h once =
        let here = subst (Here bs number l v w k) is h in
        let o = subst (λ cs. EachOnce (labels cs)) is once in
        let parts = parts_select meet ids ways x xs code fork o in
        let n = length (labels xs) in
        let e = row_ends d b l xs row v w in
        let f = forked meet ids x ways fork in
        let rest = code ++ (label_inst meet ∷ []) in
        let tail : List Inst = selection_inst meet ∷ x ∷ rest in
        let back = here_back bs number l v w k xs tail e here in
        let p = word_at w xs in
        let m = length (labels code) in
        let q = p + size_of (selection_inst meet) + size_of x in
        let front = here_front bs number l v w k xs tail here in
        let good = row_good bs number d b l xs row v w k front in
        let stands = stands_front bs number None (k + n + 1) q code (label_inst meet ∷ []) (stands_behind bs number e.last e.word p (k + n) meet ids ways x f rest back) in
        let behind = numbered_behind bs number e.last e.word p (k + n) meet ids ways x f rest back in
        let numbered = numbered_front bs number (k + n + 1) code (label_inst meet ∷ []) behind in
        let meet_is = label_behind bs number (k + n + 1) meet code behind in
        let z = k + n + 1 + m in
        let g = arms_good bs number depth meet ids code body q (k + n + 1) (k + n + 1) z [] stands numbered meet_is (omega arith) (omega arith) (arms.no_arm bs (k + n + 1) z (omega arith)) in
        let one = row_held d b l xs row v w k front parts.0 in
        let two = arms_held depth meet ids code body q (k + n + 1) stands numbered parts.1 in
        let plain = plain_select (k + n) (heading bs number e.last e.word p meet f.kind ways) (numbered_merge number (record { word = p; kind = Selection; merge_block = meet })) (selection_at bs number e.last e.word p (k + n) meet ids ways x f rest back) refl refl in
        let whole = held_select bs k n m z (scan [] xs) (scan [] code) (pushed number ids []) good.fine plain g.arms_are one two in
        subst (RowHeld k) (sym is) (put k (n + m + 1) (length (labels (xs ++ tail))) (scan [] xs ++ (scan [] code ++ 0 ∷ [])) (scan [] (xs ++ tail)) (sym (labels_select xs meet x code f.unlabeled)) (sym (scan_select d depth b l meet ids ways x xs code row fork body o)) whole)
    row_held d b l zs (cycle depth again label meet next first cond there other body test all row inner round is) v w k h once =
        let here = subst (Here bs number l v w k) is h in
        let o = subst (λ cs. EachOnce (labels cs)) is once in
        let n = length (labels body) in
        let last : List Inst = fork_inst cond there other ∷ label_inst meet ∷ [] in
        let tail : List Inst = branch_inst next ∷ label_inst next ∷ (test ++ last) in
        let p = w + size_of (loop_inst meet next) + size_of (branch_inst first) in
        let q = p + size_of (label_inst first) in
        let inside = here_body bs number l v w k meet next first (body ++ tail) here in
        let e = row_ends depth again first body row p q in
        let back = here_back bs number first p q (k + 1) body tail e inside in
        let u = word_at q body in
        let j = k + 1 + n in
        let behind = here_next bs number e.last e.word u j next (test ++ last) back in
        let u2 = u + size_of (branch_inst next) in
        let t = inner_ends next u2 (u2 + size_of (label_inst next)) test inner in
        let end = here_back bs number next u2 (u2 + size_of (label_inst next)) (j + 1) test last t behind in
        let empty = ap length (inner_labels test inner) in
        let front = here_front bs number first p q (k + 1) body tail inside in
        let good = row_good bs number depth again first body row p q (k + 1) front in
        let one = row_held depth again first body row p q (k + 1) front (parts_cycle meet next first cond there other body test o) in
        let head = heads_of k (j + 1) v w meet next (w + size_of (loop_inst meet next)) first (header_at bs number l v w k meet next first (body ++ tail) here) (next_number bs number e.last e.word u j next (test ++ last) back) in
        let third = plain_none j (branching bs number e.last e.word u next) (branch_at bs number e.last e.word u j next (label_inst next ∷ (test ++ last)) back) refl in
        let fourth = plain_none (j + 1) (testing bs number t.word (word_at (u2 + size_of (label_inst next)) test) there other) (test_at bs number t.last t.word (word_at (u2 + size_of (label_inst next)) test) (j + 1) (length (labels test)) cond there other meet empty end) refl in
        let whole = held_cycle bs k n (scan [] body) head good.fine third fourth one in
        subst (RowHeld k) (sym is) (put k (n + 3) (length (labels (loop_inst meet next ∷ branch_inst first ∷ label_inst first ∷ (body ++ tail)))) _ (scan [] (loop_inst meet next ∷ branch_inst first ∷ label_inst first ∷ (body ++ tail))) (sym (labels_cycle meet next first cond there other body test empty)) (sym (scan_cycle depth again meet next first cond there other body test row inner o)) whole)

    pub arms_held : (d meet : ℕ) (ids : List ℕ) (zs : List Inst) → ArmsCode d meet ids zs → (w m : ℕ) → Stands bs number None m w zs → Numbered bs number m zs → EachOnce (labels zs) → ArmsHeld m zs
    arms_held d meet ids zs (no_arm depth o) w m s nm once = no_arms_held bs m
    arms_held d meet ids zs (arm depth loops o label others body rest all row code same) w m s nm once =
        let parts = parts_arm label meet body rest (subst (λ cs. EachOnce (labels cs)) same once) in
        let n = length (labels body) in
        let k = length (labels rest) in
        let tail : List Inst = branch_inst meet ∷ rest in
        let b = w + size_of (label_inst label) in
        let s' = subst (Stands bs number None m w) same s in
        let n' = subst (Numbered bs number m) same nm in
        let inside = here_arm bs number w m label (body ++ tail) s' n' in
        let e = row_ends depth loops label body row w b in
        let p = word_at b body in
        let back = here_back bs number label w b m body tail e inside in
        let front = here_front bs number label w b m body tail inside in
        let good = row_good bs number depth loops label body row w b m front in
        let one = row_held depth loops label body row w b m front parts.0 in
        let two = arms_held depth meet others rest code (p + size_of (branch_inst meet)) (m + n + 1) (stands_next bs number e.last e.word p (m + n) meet rest back) (λ i id f. back.numbered i id f) parts.1 in
        let plain = plain_none (m + n) (branching bs number e.last e.word p meet) (branch_at bs number e.last e.word p (m + n) meet rest back) refl in
        let whole = arm_held bs m n k (scan [] body) (scan [] rest) good.fine plain one two in
        subst (ArmsHeld m) (sym same) (put_arms m (1 + n + k) (length (labels (label_inst label ∷ (body ++ tail)))) (0 ∷ (scan [] body ++ scan [] rest)) (scan [] (label_inst label ∷ (body ++ tail))) (sym (labels_arm label meet body rest)) (sym (scan_arm depth loops meet label body rest row (subst (λ cs. EachOnce (labels cs)) same once))) whole)
