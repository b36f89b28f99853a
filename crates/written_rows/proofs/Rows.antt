-- The blocks of the code of a row are a row.
use Rattle.std.proofs.Common.{◌≡◌, inl, inr, ℕ, suc, ◌+◌, ◌≤◌, Bool, true, List, [], ◌∷◌, ◌++◌, length, length-append, Some, None, refl, sym, ap, ◌∙◌, subst, arith}
use Rattle.std.specs.Prelude.{slice_get}
use Rattle.spv_form.specs.declared.module.Inst.{Inst}
use Rattle.spv_form.specs.Words.{size_of}
use Rattle.flow_rules.specs.Blocks.{BasicBlock}
use Rattle.flow_rules.specs.Flow.{At}
use Rattle.flow_blocks.specs.Blocks.{Labeled}
use Rattle.flow_blocks.specs.Numbered.{numbered_block}
use Rattle.row_laws.specs.Rows.{Fine}
use Rattle.row_laws.proofs.Basics.{one}
use Rattle.row_laws.proofs.Arms as arms
use Rattle.written_rows.specs.Code.{label_inst, branch_inst, selection_inst, loop_inst, fork_inst, labels, GoesRound, RowCode, nothing, more, onward, select, cycle, ArmsCode, no_arm, arm}
use Rattle.written_rows.proofs.Steps.{labels_append, word_at, inner_labels}
use Rattle.written_rows.proofs.Ends.{inner_ends, Forked, forked, header_block, fork_blocks, row_ends}
use Rattle.written_rows.proofs.Standing.{Stands, Numbered, Here, stands_front, numbered_front, here_front, here_back, IsNeat, Good, no_neat}
use Rattle.written_rows.proofs.Pieces.{labels_more, labels_onward, labels_select, branching, heading, entering, testing, Round, onward_good, AreGood, no_arms_good, arm_good, select_good, cycle_good}

pub labels_cycle : (meet next first cond there other : ℕ) (body test : List Inst) → length (labels test) ≡ 0 → length (labels (loop_inst meet next ∷ branch_inst first ∷ label_inst first ∷ (body ++ (branch_inst next ∷ label_inst next ∷ (test ++ (fork_inst cond there other ∷ label_inst meet ∷ [])))))) ≡ length (labels body) + 3
labels_cycle meet next first cond there other body test none =
    let last : List Inst = fork_inst cond there other ∷ label_inst meet ∷ [] in
    let one = ap length (labels_append body (branch_inst next ∷ label_inst next ∷ (test ++ last))) in
    let two = length-append (labels body) (next ∷ labels (test ++ last)) in
    let three = ap length (labels_append test last) in
    let four = length-append (labels test) (meet ∷ []) in
    omega (arith, one, two, three, four, none)

pub labels_arm : (label meet : ℕ) (body rest : List Inst) → length (labels (label_inst label ∷ (body ++ (branch_inst meet ∷ rest)))) ≡ 1 + length (labels body) + length (labels rest)
labels_arm label meet body rest =
    let one = ap length (labels_append body (branch_inst meet ∷ rest)) in
    let two = length-append (labels body) (labels rest) in
    omega (arith, one, two)

module _ (bs : List BasicBlock) (number : ℕ → ℕ) where
  -- ---- code, one instruction at a time

  -- the block that a branch ends
  pub branch_at : (l v w k next : ℕ) (ys : List Inst) → Here bs number l v w k (branch_inst next ∷ ys) → At bs k (branching bs number l v w next)
  branch_at l v w k next ys h =
      let d : Labeled = record { label = l; block = record { word = v; strays = []; merge = None; terminator = (branching bs number l v w next).terminator; end_word = w; targets = next ∷ [] } } in
      let same : k + 0 ≡ k = omega arith in
      subst (λ p. At bs p (branching bs number l v w next)) same (h.stands 0 d refl)

  pub next_number : (l v w k next : ℕ) (ys : List Inst) → Here bs number l v w k (branch_inst next ∷ label_inst next ∷ ys) → number next ≡ k + 1
  next_number l v w k next ys h =
      let is = h.numbered 0 next refl in
      omega (arith, is)

  -- behind a branch and the label to which it goes
  pub here_next : (l v w k next : ℕ) (ys : List Inst) → Here bs number l v w k (branch_inst next ∷ label_inst next ∷ ys) → Here bs number next (w + size_of (branch_inst next)) (w + size_of (branch_inst next) + size_of (label_inst next)) (k + 1) ys
  here_next l v w k next ys h =
      record {
        stands = λ i d e. (let same : k + suc i ≡ k + 1 + i = omega arith in subst (λ p. At bs p (numbered_block number d.block)) same (h.stands (suc i) d e));
        numbered = λ i id e. (let is = h.numbered (suc i) id e in omega (arith, is));
        here = next_number l v w k next ys h;
      }

  -- behind a loop's header
  module _ (l v w k meet next first : ℕ) (ys : List Inst) (h : Here bs number l v w k (loop_inst meet next ∷ branch_inst first ∷ label_inst first ∷ ys)) where
    pub header_at : At bs k (entering bs number v w meet next (w + size_of (loop_inst meet next)) first)
    header_at =
        let same : k + 0 ≡ k = omega arith in
        subst (λ p. At bs p (entering bs number v w meet next (w + size_of (loop_inst meet next)) first)) same (h.stands 0 _ refl)

    pub first_number : number first ≡ k + 1
    first_number =
        let is = h.numbered 0 first refl in
        omega (arith, is)

    pub here_body : Here bs number first (w + size_of (loop_inst meet next) + size_of (branch_inst first)) (w + size_of (loop_inst meet next) + size_of (branch_inst first) + size_of (label_inst first)) (k + 1) ys
    here_body =
        record {
          stands = λ i d e. (let same : k + suc i ≡ k + 1 + i = omega arith in subst (λ p. At bs p (numbered_block number d.block)) same (h.stands (suc i) d e));
          numbered = λ i id e. (let is = h.numbered (suc i) id e in omega (arith, is));
          here = first_number;
        }

  -- behind a selection
  module _ (l v w k meet : ℕ) (ids ways : List ℕ) (x : Inst) (f : Forked meet ids x ways) (ys : List Inst) (h : Here bs number l v w k (selection_inst meet ∷ x ∷ ys)) where
    pub selection_at : At bs k (heading bs number l v w meet f.kind ways)
    selection_at =
        let same : k + 0 ≡ k = omega arith in
        let d = header_block l v w meet f.kind ways in
        subst (λ p. At bs p (heading bs number l v w meet f.kind ways)) same (h.stands 0 d (ap (λ ds. slice_get ds 0) (fork_blocks meet ids x ways f l v w ys)))

    pub stands_behind : Stands bs number None (k + 1) (w + size_of (selection_inst meet) + size_of x) ys
    stands_behind i d e =
        let same : k + suc i ≡ k + 1 + i = omega arith in
        subst (λ p. At bs p (numbered_block number d.block)) same (h.stands (suc i) d (ap (λ ds. slice_get ds (suc i)) (fork_blocks meet ids x ways f l v w ys) ∙ e))

    pub numbered_behind : Numbered bs number (k + 1) ys
    numbered_behind i id e = h.numbered i id (ap (λ xs. slice_get xs i) (f.unlabeled ys) ∙ e)

  -- the number of the label behind code
  pub label_behind : (n meet : ℕ) (code : List Inst) → Numbered bs number n (code ++ (label_inst meet ∷ [])) → number meet ≡ n + length (labels code)
  label_behind n meet code h =
      let count : length (labels code) ≡ length (labels code) + 0 = omega arith in
      let is = h (length (labels code)) meet (ap (λ xs. slice_get xs (length (labels code))) (labels_append code (label_inst meet ∷ [])) ∙ last (labels code) meet) in
      is
    where
      last : (xs : List ℕ) (x : ℕ) → slice_get (xs ++ (x ∷ [])) (length xs) ≡ Some x
      last [] x = refl
      last (y ∷ xs) x = last xs x

  -- behind an arm's label
  pub here_arm : (w m label : ℕ) (ys : List Inst) → Stands bs number None m w (label_inst label ∷ ys) → Numbered bs number m (label_inst label ∷ ys) → Here bs number label w (w + size_of (label_inst label)) m ys
  here_arm w m label ys s n =
      record {
        stands = λ i d e. s i d e;
        numbered = λ i id e. (let is = n (suc i) id e in omega (arith, is));
        here = (let is = n 0 label refl in omega (arith, is));
      }

  -- and behind its branch
  pub stands_next : (l v w k meet : ℕ) (ys : List Inst) → Here bs number l v w k (branch_inst meet ∷ ys) → Stands bs number None (k + 1) (w + size_of (branch_inst meet)) ys
  stands_next l v w k meet ys h i d e =
      let same : k + suc i ≡ k + 1 + i = omega arith in
      subst (λ p. At bs p (numbered_block number d.block)) same (h.stands (suc i) d e)

  -- a loop's test, behind code without labels
  pub test_at : (l v w k n cond there other meet : ℕ) → n ≡ 0 → Here bs number l v w (k + n) (fork_inst cond there other ∷ label_inst meet ∷ []) → At bs k (testing bs number v w there other)
  test_at l v w k n cond there other meet none h =
      let same : k + n + 0 ≡ k = omega (arith, none) in
      subst (λ p. At bs p (testing bs number v w there other)) same (h.stands 0 _ refl)

  meet_number : (l v w k n cond there other meet : ℕ) → n ≡ 0 → Here bs number l v w (k + n) (fork_inst cond there other ∷ label_inst meet ∷ []) → number meet ≡ k + 1
  meet_number l v w k n cond there other meet none h =
      let is = h.numbered 0 meet refl in
      omega (arith, is, none)

  rounds : (l k z meet there other : ℕ) → number l ≡ k → number meet ≡ z → GoesRound l meet there other → Round bs number k z (number there) (number other)
  rounds l k z meet there other e f (inl r) = inl (ap number r.0 ∙ e, ap number r.1 ∙ f)
  rounds l k z meet there other e f (inr r) = inr (ap number r.0 ∙ f, ap number r.1 ∙ e)

  -- ---- all code

  mutual
    pub row_good : (d : ℕ) (b : Bool) (l : ℕ) (zs : List Inst) → RowCode d b l zs → (v w k : ℕ) → Here bs number l v w k zs → Good bs number b k (length (labels zs))
    row_good d b l zs (nothing depth label) v w k h =
        let whole : k + 1 ≡ k + 0 + 1 = omega arith in
        let end : k ≡ k + 0 = omega arith in
        record { fine = subst (Fine bs k) whole (one bs k); neat = subst (IsNeat bs number k) end (no_neat bs number k); first = λ plain some g loop. omega (arith, some) }
    row_good d b l zs (more depth loops label xs ys all row inner is) v w k h =
        let here = subst (Here bs number l v w k) is h in
        let count = labels_more xs ys inner ∙ refl in
        let same : length (labels xs) ≡ length (labels zs) = sym (ap (λ cs. length (labels cs)) is ∙ count) in
        subst (Good bs number b k) same (row_good _ b l xs row v w k (here_front bs number l v w k xs ys here))
    row_good d b l zs (onward depth loops again label next xs ys all row rest is) v w k h =
        let here = subst (Here bs number l v w k) is h in
        let n = length (labels xs) in
        let e = row_ends _ b l xs row v w in
        let tail : List Inst = branch_inst next ∷ label_inst next ∷ ys in
        let back = here_back bs number l v w k xs tail e here in
        let p = word_at w xs in
        let g = row_good depth again next ys rest (p + size_of (branch_inst next)) (p + size_of (branch_inst next) + size_of (label_inst next)) (k + n + 1) (here_next e.last e.word p (k + n) next ys back) in
        let whole = onward_good bs number b again k n (length (labels ys)) e.last e.word p next (row_good _ b l xs row v w k (here_front bs number l v w k xs tail here)) (branch_at e.last e.word p (k + n) next (label_inst next ∷ ys) back) (next_number e.last e.word p (k + n) next ys back) g in
        subst (Good bs number b k) (sym (ap (λ cs. length (labels cs)) is ∙ labels_onward xs next ys)) whole
    row_good d b l zs (select depth loops label meet ids ways x xs code all row fork are body is) v w k h =
        let here = subst (Here bs number l v w k) is h in
        let n = length (labels xs) in
        let e = row_ends _ b l xs row v w in
        let f = forked meet ids x ways fork in
        let rest = code ++ (label_inst meet ∷ []) in
        let tail : List Inst = selection_inst meet ∷ x ∷ rest in
        let back = here_back bs number l v w k xs tail e here in
        let p = word_at w xs in
        let m = length (labels code) in
        let stands = stands_behind e.last e.word p (k + n) meet ids ways x f rest back in
        let numbered = numbered_behind e.last e.word p (k + n) meet ids ways x f rest back in
        let meet_is = label_behind (k + n + 1) meet code numbered in
        let z = k + n + 1 + m in
        let g = arms_good depth meet ids code body (p + size_of (selection_inst meet) + size_of x) (k + n + 1) (k + n + 1) z [] (stands_front bs number None (k + n + 1) (p + size_of (selection_inst meet) + size_of x) code (label_inst meet ∷ []) stands) (numbered_front bs number (k + n + 1) code (label_inst meet ∷ []) numbered) meet_is (omega arith) (omega arith) (arms.no_arm bs (k + n + 1) z (omega arith)) in
        let whole = select_good bs number b k n m e.last e.word p meet ids ways x f are (row_good _ b l xs row v w k (here_front bs number l v w k xs tail here)) (selection_at e.last e.word p (k + n) meet ids ways x f rest back) meet_is g in
        subst (Good bs number b k) (sym (ap (λ cs. length (labels cs)) is ∙ labels_select xs meet x code f.unlabeled)) whole
    row_good d b l zs (cycle depth again label meet next first cond there other body test all row inner round is) v w k h =
        let here = subst (Here bs number l v w k) is h in
        let n = length (labels body) in
        let last : List Inst = fork_inst cond there other ∷ label_inst meet ∷ [] in
        let tail : List Inst = branch_inst next ∷ label_inst next ∷ (test ++ last) in
        let p = w + size_of (loop_inst meet next) + size_of (branch_inst first) in
        let q = p + size_of (label_inst first) in
        let inside = here_body l v w k meet next first (body ++ tail) here in
        let e = row_ends depth again first body row p q in
        let back = here_back bs number first p q (k + 1) body tail e inside in
        let u = word_at q body in
        let j = k + 1 + n in
        let behind = here_next e.last e.word u j next (test ++ last) back in
        let u2 = u + size_of (branch_inst next) in
        let t = inner_ends next u2 (u2 + size_of (label_inst next)) test inner in
        let end = here_back bs number next u2 (u2 + size_of (label_inst next)) (j + 1) test last t behind in
        let none = ap length (inner_labels test inner) in
        let g = row_good depth again first body row p q (k + 1) (here_front bs number first p q (k + 1) body tail inside) in
        let last_number = meet_number t.last t.word (word_at (u2 + size_of (label_inst next)) test) (j + 1) (length (labels test)) cond there other meet none end in
        let meets : number meet ≡ j + 2 = omega (arith, last_number) in
        let whole = cycle_good bs number again k n v w meet next (w + size_of (loop_inst meet next)) first e.last e.word u t.word (word_at (u2 + size_of (label_inst next)) test) there other (header_at l v w k meet next first (body ++ tail) here) (first_number l v w k meet next first (body ++ tail) here) g (branch_at e.last e.word u j next (label_inst next ∷ (test ++ last)) back) (next_number e.last e.word u j next (test ++ last) back) (test_at t.last t.word (word_at (u2 + size_of (label_inst next)) test) (j + 1) (length (labels test)) cond there other meet none end) meets (rounds l k (j + 2) meet there other here.here meets round) in
        subst (Good bs number true k) (sym (ap (λ cs. length (labels cs)) is ∙ labels_cycle meet next first cond there other body test none)) whole

    pub arms_good : (d meet : ℕ) (ids : List ℕ) (zs : List Inst) → ArmsCode d meet ids zs → (w a m x : ℕ) (ts : List ℕ) → Stands bs number None m w zs → Numbered bs number m zs → number meet ≡ x → m + length (labels zs) ≤ x → a ≤ m → arms.Arms bs a m x ts → AreGood bs number a m (length (labels zs)) x ids ts
    arms_good d meet ids zs (no_arm depth o) w a m x ts s nm is le am before = no_arms_good bs number a m x ts before
    arms_good d meet ids zs (arm depth loops o label others body rest all row code same) w a m x ts s nm is le am before =
        let n = length (labels body) in
        let k = length (labels rest) in
        let tail : List Inst = branch_inst meet ∷ rest in
        let b = w + size_of (label_inst label) in
        let s' = subst (Stands bs number None m w) same s in
        let n' = subst (Numbered bs number m) same nm in
        let inside = here_arm w m label (body ++ tail) s' n' in
        let e = row_ends depth loops label body row w b in
        let p = word_at b body in
        let back = here_back bs number label w b m body tail e inside in
        let count = labels_arm label meet body rest in
        let total = ap (λ cs. length (labels cs)) same in
        let g = row_good depth loops label body row w b m (here_front bs number label w b m body tail inside) in
        let whole = arm_good bs number a m n k x label meet e.last e.word p others ts loops before am g inside.here (branch_at e.last e.word p (m + n) meet rest back) is (omega (arith, count, total, le)) (λ now. arms_good depth meet others rest code (p + size_of (branch_inst meet)) a (m + n + 1) x (number label ∷ ts) (stands_next e.last e.word p (m + n) meet rest back) (λ i id f. back.numbered i id f) is (omega (arith, count, total, le)) (omega (arith, am)) now) in
        subst (λ z. AreGood bs number a m z x (label ∷ others) ts) (sym (total ∙ count)) whole
