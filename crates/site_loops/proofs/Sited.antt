-- How many loops are open at the site of a leaf in the code of a tree of regions: as many as stand over the leaf.
use Rattle.std.proofs.Common.{◌≡◌, inl, inr, ℕ, zero, suc, ◌+◌, Bool, true, false, List, [], ◌∷◌, ◌++◌, length, Some, refl, sym, ap, ◌∙◌, subst, arith}
use Rattle.std.specs.Prelude.{slice_get, ◌||◌, nat_eq, if◌then◌else◌}
use Rattle.dxil_form.specs.declared.block.Term.{Term}
use Rattle.dxil_form.specs.Branches.{has, targets}
use Rattle.dxil_form.specs.Sound.{cases_in}
use Rattle.spv_form.specs.declared.module.Inst.{Inst}
use Rattle.spirv_code.specs.declared.way.Way.{Way}
use Rattle.spirv_code.specs.declared.way.Way.TheVariants.{Ends, Goes, Chooses, Splits}
use Rattle.spirv_code.specs.Plans.{Context, result, site_label, header_label, merge_label, continue_label, chosen_label, passed_label}
use Rattle.spirv_code.specs.Reads.{Env}
use Rattle.spirv_code.specs.Leaves.{next_blocks, way_of, block_env, block_code}
use Rattle.spirv_code.specs.Exits.{is_wanted, loose, choose_code, split_code, tested, tested_code, tested_id, exit_code}
use Rattle.spirv_code.specs.Trees.{Tree, Missing, Leaf, Then, Loop, Dispatch, Arms, No_arm, Arm, label_at, place_of, arm_label}
use Rattle.spirv_code.specs.Rows.{when_code, arm_code, footer_code, block_at, row_code, one_arm, met_arms, wanted_arms}
use Rattle.line_runs.proofs.Tests.{true_false, nat_eq-eq, nat_eq-refl}
use Rattle.region_runs.proofs.Targets.{has_different, ends_alone, goes_alone}
use Rattle.module_structure.specs.Depth.{depth_of}
use Rattle.module_structure.proofs.Trees.{Fits, FitsArms, Reaches, arm_keys, is_loop, row_is}
use Rattle.module_structure.proofs.Members.{IsOnce}
use Rattle.module_counts.proofs.Lines.{block_others}
use Rattle.module_loops.proofs.Lower.{Single, AreSingle, no_arms, one_arm_at_most}
use Rattle.written_rows.specs.Code.{label_inst, branch_inst, labels}
use Rattle.written_rows.specs.Laws.{EachOnce}
use Rattle.written_rows.proofs.Steps.{labels_append, get_front}
use Rattle.site_loops.proofs.Scan.{after, scan, more, after_append}
use Rattle.site_loops.proofs.Closed.{once_front, once_back, once_labels, row_after, scan_cycle, parts_cycle}
use Rattle.site_loops.proofs.Calm.{calm_after, others_calm, choose_calm, split_calm, tested_calm}
use Rattle.site_loops.proofs.Spots.{Under, itself, in_arms, in_first, in_second, in_body, UnderArms, this_arm, further, Spot, Marked, spot_front, spot_back, spot_label}

-- ---- what a leaf with one way can have

alone_is : (j k : ℕ) → has j (k ∷ []) ≡ true → j ≡ k
alone_is j k e = by_test (nat_eq j k) refl e
  where
    by_test : (b : Bool) → nat_eq j k ≡ b → (b || false) ≡ true → j ≡ k
    by_test true same e = nat_eq-eq j k same
    by_test false same e = absurd (true_false (sym e))

module _ (c : Context) where
  -- ---- regions

  abbrev IsOnceAt : Tree → ℕ → Type 0
  IsOnceAt tree p = EachOnce (labels (row_code c p tree))

  -- the site of a leaf under the heads, in the code of the tree
  abbrev IsMarked : Tree → (id d : ℕ) → Type 0
  IsMarked tree id d = (p : ℕ) → IsOnceAt tree p → Marked (label_at tree) (row_code c p tree) id d

  parts : (xs ys : List Inst) → EachOnce (labels (xs ++ ys)) → EachOnce (labels xs) × EachOnce (labels ys)
  parts xs ys h =
      let both = once_labels xs ys h in
      (once_front (labels xs) (labels ys) both, once_back (labels xs) (labels ys) both)

  rest_once : (l : ℕ) (xs : List Inst) → EachOnce (labels (label_inst l ∷ xs)) → EachOnce (labels xs)
  rest_once l xs h i j id e f =
      let same = h (suc i) (suc j) id e f in
      omega (arith, same)

  tree_after : (tree : Tree) → Fits c tree → (p : ℕ) → IsOnceAt tree p → after [] (row_code c p tree) ≡ []
  tree_after tree fits p once =
      row_after (depth_of tree) (is_loop tree) (label_at tree) (row_code c p tree) (row_is c (depth_of tree) tree fits (omega arith) p) once

  -- the code of a region that runs only where its block is wanted
  when_rest : (p : ℕ) (tree : Tree) → List Inst
  when_rest p tree = label_inst (label_at tree) ∷ (row_code c (p + 5) tree ++ (branch_inst (passed_label (place_of tree)) ∷ label_inst (passed_label (place_of tree)) ∷ []))

  when_spot : (p k : ℕ) (tree : Tree) (id d : ℕ) → IsMarked tree id d → EachOnce (labels (when_code c p k tree (λ q. row_code c q tree))) → Spot (when_code c p k tree (λ q. row_code c q tree)) id d
  when_spot p k tree id d marked once =
      let inner = row_code c (p + 5) tree in
      let tail : List Inst = branch_inst (passed_label (place_of tree)) ∷ label_inst (passed_label (place_of tree)) ∷ [] in
      let all = label_inst (label_at tree) ∷ (inner ++ tail) in
      let inside = (parts inner tail (rest_once (label_at tree) (inner ++ tail) once)).0 in
      let whole : Spot all id d = spot_label (label_at tree) (inner ++ tail) id d (elim (marked (p + 5) inside) [ inl m ↦ inl m | inr s ↦ inr (spot_front inner tail id d s) ]) in
      record { place = whole.place; label_is = whole.label_is; loops_are = whole.loops_are }

  when_after : (p k : ℕ) (tree : Tree) → Fits c tree → EachOnce (labels (when_code c p k tree (λ q. row_code c q tree))) → after [] (when_code c p k tree (λ q. row_code c q tree)) ≡ []
  when_after p k tree fits once =
      let inner = row_code c (p + 5) tree in
      let tail : List Inst = branch_inst (passed_label (place_of tree)) ∷ label_inst (passed_label (place_of tree)) ∷ [] in
      let inside = (parts inner tail (rest_once (label_at tree) (inner ++ tail) once)).0 in
      after_append [] inner tail ∙ ap (λ w. after w tail) (tree_after tree fits (p + 5) inside)

  arm_spot : (p meet : ℕ) (tree : Tree) (id d : ℕ) → IsMarked tree id d → EachOnce (labels (arm_code p meet tree (λ q. row_code c q tree))) → Spot (arm_code p meet tree (λ q. row_code c q tree)) id d
  arm_spot p meet tree id d marked once =
      let inner = row_code c (p + 1) tree in
      let tail : List Inst = branch_inst meet ∷ [] in
      let inside = (parts inner tail (rest_once (label_at tree) (inner ++ tail) once)).0 in
      spot_label (label_at tree) (inner ++ tail) id d (elim (marked (p + 1) inside) [ inl m ↦ inl m | inr s ↦ inr (spot_front inner tail id d s) ])

  arm_after : (p meet : ℕ) (tree : Tree) → Fits c tree → EachOnce (labels (arm_code p meet tree (λ q. row_code c q tree))) → after [] (arm_code p meet tree (λ q. row_code c q tree)) ≡ []
  arm_after p meet tree fits once =
      let inner = row_code c (p + 1) tree in
      let tail : List Inst = branch_inst meet ∷ [] in
      let inside = (parts inner tail (rest_once (label_at tree) (inner ++ tail) once)).0 in
      after_append [] inner tail ∙ ap (λ w. after w tail) (tree_after tree fits (p + 1) inside)

  loop_marked : (r head : ℕ) (body : Tree) (id d : ℕ) → Fits c body → IsMarked body id d → IsMarked (Loop r body head) id (d + 1)
  loop_marked r head body id d fits marked p once =
      let inner = row_code c (p + 3) body in
      let q = p + 3 + length inner in
      let test = is_wanted c (q + 2) head in
      let row = row_is c (depth_of body) body fits (omega arith) (p + 3) in
      let lines = scan_cycle (depth_of body) (is_loop body) (merge_label r) (continue_label r) (label_at body) (result c (q + 2 + 1)) (header_label r) (merge_label r) inner test row (omega arith, (omega arith, tt)) once in
      let inside = parts_cycle (merge_label r) (continue_label r) (label_at body) (result c (q + 2 + 1)) (header_label r) (merge_label r) inner test once in
      let footer = footer_code c r q head (header_label r) (merge_label r) in
      elim (marked (p + 3) inside) [
        | inl m ↦ inr (record { place = 0; label_is = ap Some m.0; loops_are = ap (λ ns. slice_get ns 0) lines ∙ ap (λ n. Some (n + 1)) (sym m.1) })
        | inr s ↦ inr (record {
          place = suc s.place;
          label_is = ap (λ ls. slice_get ls s.place) (labels_append inner footer) ∙ get_front (labels inner) (labels footer) s.place id s.label_is;
          loops_are = ap (λ ns. slice_get ns (suc s.place)) lines ∙ get_front (more 1 (scan [] inner)) (0 ∷ 0 ∷ []) s.place (d + 1) (more_at (scan [] inner) s.place d s.loops_are);
        })
      ]
    where
      more_at : (ns : List ℕ) (j n : ℕ) → slice_get ns j ≡ Some n → slice_get (more 1 ns) j ≡ Some (n + 1)
      more_at [] j n e = absurd (cc)
      more_at (m ∷ ns) zero n e = ap (λ x. Some (x + 1)) (inj e)
        where
          inj : {a b : ℕ} → Some a ≡ Some b → a ≡ b
          inj e = cc
      more_at (m ∷ ns) (suc j) n e = more_at ns j n e

  -- ---- how a leaf is left

  record HasSpots (arms : Arms) (id d : ℕ) : Type 0 where
    met : (meet p : ℕ) → EachOnce (labels (met_arms c meet p arms)) → Spot (met_arms c meet p arms) id d
    wanted : (p : ℕ) → EachOnce (labels (wanted_arms c p arms)) → Spot (wanted_arms c p arms) id d
    one : (k p : ℕ) (tree : Tree) → arms ≡ Arm k tree No_arm → EachOnce (labels (row_code c (p + 2) tree)) → Spot (one_arm c k p (Arm k tree No_arm)) id d
    some : arms ≡ No_arm → ⊥

  one_code : (k p : ℕ) (tree : Tree) → one_arm c k p (Arm k tree No_arm) ≡ branch_inst (label_at tree) ∷ label_inst (label_at tree) ∷ row_code c (p + 2) tree
  one_code k p tree =
      ap (λ (b : Bool). if b then (branch_inst (label_at tree) ∷ label_inst (label_at tree) ∷ row_code c (p + 2) tree) else one_arm c k p No_arm) (nat_eq-refl k)

  goes_spot : (k p : ℕ) (term : Term) (arms : Arms) (id d : ℕ) → next_blocks term ≡ k ∷ [] → Reaches (targets term) (arm_label arms) arms → IsOnce (arm_keys arms) → HasSpots arms id d → EachOnce (labels (one_arm c k p arms)) → Spot (one_arm c k p arms) id d
  goes_spot k p term No_arm id d alone h single spots once = absurd (spots.some refl)
  goes_spot k p term (Arm target tree rest) id d alone h single spots once =
      let same : target ≡ k = only target h.0 in
      let none : rest ≡ No_arm = one_arm_at_most k (targets term) (arm_label (Arm target tree rest)) rest only h.2 (subst (λ j. has j (arm_keys rest) ≡ false) same single.0) in
      let whole : Arm target tree rest ≡ Arm k tree No_arm = ap (λ j. Arm j tree rest) same ∙ ap (λ a. Arm k tree a) none in
      let code : one_arm c k p (Arm target tree rest) ≡ branch_inst (label_at tree) ∷ label_inst (label_at tree) ∷ row_code c (p + 2) tree = ap (λ a. one_arm c k p a) whole ∙ one_code k p tree in
      let inside = rest_once (label_at tree) (row_code c (p + 2) tree) (subst (λ is. EachOnce (labels is)) code once) in
      subst (λ a. Spot (one_arm c k p a) id d) (sym whole) (spots.one k p tree whole inside)
    where
      only : (j : ℕ) → has j (targets term) ≡ true → j ≡ k
      only j e = alone_is j k (sym (ap (has j) alone) ∙ (has_different j (targets term) ∙ e))

  exit_spot : (r : ℕ) (term : Term) (arms : Arms) (id d : ℕ) → Reaches (targets term) (arm_label arms) arms → IsOnce (arm_keys arms) → HasSpots arms id d → (env : Env) (way : Way) → way_of term ≡ way → (place : ℕ) → EachOnce (labels (exit_code c (chosen_label r) term (arm_label arms) (next_blocks term) (λ k p. one_arm c k p arms) (λ p. met_arms c (chosen_label r) p arms) (λ p. wanted_arms c p arms) env way place)) → Spot (exit_code c (chosen_label r) term (arm_label arms) (next_blocks term) (λ k p. one_arm c k p arms) (λ p. met_arms c (chosen_label r) p arms) (λ p. wanted_arms c p arms) env way place) id d
  exit_spot r term arms id d h single spots env Ends is place once =
      let alone = ends_alone (next_blocks term) (cases_in term) is in
      absurd (spots.some (no_arms (targets term) (arm_label arms) arms (λ k. sym (has_different k (targets term)) ∙ ap (has k) alone) h))
  exit_spot r term arms id d h single spots env (Goes k) is place once =
      goes_spot k place term arms id d (goes_alone (next_blocks term) (cases_in term) k is) h single spots once
  exit_spot r term arms id d h single spots env Chooses is place once =
      let meet = chosen_label r in
      let test = tested_code c env place (tested term) in
      let value = tested_id c env place (tested term) in
      let p = place + length test in
      let chosen = choose_code c p meet value term (arm_label arms) (loose (arm_label arms) (next_blocks term)) in
      let code = met_arms c meet (p + length chosen) arms in
      let tail : List Inst = label_inst meet ∷ [] in
      let one = parts test (chosen ++ (code ++ tail)) once in
      let two = parts chosen (code ++ tail) one.1 in
      let three = parts code tail two.1 in
      spot_back test (chosen ++ (code ++ tail)) id d (calm_after test (tested_calm c env place (tested term))) (spot_back chosen (code ++ tail) id d (calm_after chosen (choose_calm c p meet value term (arm_label arms) (loose (arm_label arms) (next_blocks term)))) (spot_front code tail id d (spots.met meet (p + length chosen) three.0)))
  exit_spot r term arms id d h single spots env Splits is place once =
      let test = tested_code c env place (tested term) in
      let value = tested_id c env place (tested term) in
      let p = place + length test in
      let split = split_code c p value term in
      let code = wanted_arms c (p + length split) arms in
      let one = parts test (split ++ code) once in
      let two = parts split code one.1 in
      spot_back test (split ++ code) id d (calm_after test (tested_calm c env place (tested term))) (spot_back split code id d (calm_after split (split_calm c p value term)) (spots.wanted (p + length split) two.1))

  leaf_spot : (r b : ℕ) (arms : Arms) (id d : ℕ) → Reaches (targets (block_at c b).term) (arm_label arms) arms → IsOnce (arm_keys arms) → HasSpots arms id d → (p : ℕ) → IsOnceAt (Leaf r b arms) p → Spot (row_code c p (Leaf r b arms)) id d
  leaf_spot r b arms id d reach single spots p once =
      let block = block_at c b in
      let code = block_code c p b block in
      let q = p + length code in
      let env = block_env c p block in
      let exit = exit_code c (chosen_label r) block.term (arm_label arms) (next_blocks block.term) (λ k p. one_arm c k p arms) (λ p. met_arms c (chosen_label r) p arms) (λ p. wanted_arms c p arms) env (way_of block.term) q in
      spot_back code exit id d (calm_after code (others_calm code (block_others c p b block))) (exit_spot r block.term arms id d reach single spots env (way_of block.term) refl q (parts code exit once).1)

-- ---- all leaves

no_under : {place b : ℕ} {hs : List ℕ} (arms : Arms) → UnderArms arms place b hs → arms ≡ No_arm → ⊥
no_under No_arm u e = elim u [ ]
no_under (Arm target tree arms) u e = absurd (cc)

mutual
  pub spot_tree : (c : Context) (tree : Tree) (place b : ℕ) (hs : List ℕ) → Single c tree → Fits c tree → Under tree place b hs → IsMarked c tree (site_label place) (length hs)
  spot_tree c Missing place b hs single fits u p once = absurd fits
  spot_tree c (Leaf r k arms) place b hs single fits itself p once = inl (refl, refl)
  spot_tree c (Leaf r k arms) place b hs single fits (in_arms u) p once =
      inr (leaf_spot c r k arms (site_label place) (length hs) single.0 single.1 (record { met = λ meet q o. met_spot c arms place b hs single.2 fits.1 u meet q o; wanted = λ q o. wanted_spot c arms place b hs single.2 fits.1 u q o; one = λ j q tree same o. one_spot c arms place b hs single.2 fits.1 u j q tree same o; some = λ e. no_under arms u e }) p once)
  spot_tree c (Then r first second target) place b hs single fits (in_first u) p once =
      let code = row_code c p first in
      let when = when_code c (p + length code) target second (λ q. row_code c q second) in
      elim (spot_tree c first place b hs single.0 fits.0 u p (parts c code when once).0) [ inl m ↦ inl m | inr s ↦ inr (spot_front code when (site_label place) (length hs) s) ]
  spot_tree c (Then r first second target) place b hs single fits (in_second u) p once =
      let code = row_code c p first in
      let when = when_code c (p + length code) target second (λ q. row_code c q second) in
      let both = parts c code when once in
      inr (spot_back code when (site_label place) (length hs) (tree_after c first fits.0 p both.0) (when_spot c (p + length code) target second (site_label place) (length hs) (spot_tree c second place b hs single.1 fits.1 u) both.1))
  spot_tree c (Loop r body head) place b [] single fits u p once = elim u [ ]
  spot_tree c (Loop r body head) place b (h ∷ hs) single fits (in_body u) p once =
      let one : length hs + 1 ≡ suc (length hs) = omega arith in
      subst (λ n. Marked (label_at (Loop r body head)) (row_code c p (Loop r body head)) (site_label place) n) one (loop_marked c r head body (site_label place) (length hs) fits (spot_tree c body place b hs single fits u) p once)
  spot_tree c (Dispatch r arms) place b hs single fits u p once = elim u [ ]

  met_spot : (c : Context) (arms : Arms) (place b : ℕ) (hs : List ℕ) → AreSingle c arms → FitsArms c arms → UnderArms arms place b hs → (meet p : ℕ) → EachOnce (labels (met_arms c meet p arms)) → Spot (met_arms c meet p arms) (site_label place) (length hs)
  met_spot c No_arm place b hs single fits u meet p once = elim u [ ]
  met_spot c (Arm target tree arms) place b hs single fits (this_arm u) meet p once =
      let front = arm_code p meet tree (λ q. row_code c q tree) in
      let rest = met_arms c meet (p + length front) arms in
      spot_front front rest (site_label place) (length hs) (arm_spot c p meet tree (site_label place) (length hs) (spot_tree c tree place b hs single.0 fits.0 u) (parts c front rest once).0)
  met_spot c (Arm target tree arms) place b hs single fits (further u) meet p once =
      let front = arm_code p meet tree (λ q. row_code c q tree) in
      let rest = met_arms c meet (p + length front) arms in
      let both = parts c front rest once in
      spot_back front rest (site_label place) (length hs) (arm_after c p meet tree fits.0 both.0) (met_spot c arms place b hs single.1 fits.1 u meet (p + length front) both.1)

  wanted_spot : (c : Context) (arms : Arms) (place b : ℕ) (hs : List ℕ) → AreSingle c arms → FitsArms c arms → UnderArms arms place b hs → (p : ℕ) → EachOnce (labels (wanted_arms c p arms)) → Spot (wanted_arms c p arms) (site_label place) (length hs)
  wanted_spot c No_arm place b hs single fits u p once = elim u [ ]
  wanted_spot c (Arm target tree arms) place b hs single fits (this_arm u) p once =
      let front = when_code c p target tree (λ q. row_code c q tree) in
      let rest = wanted_arms c (p + length front) arms in
      spot_front front rest (site_label place) (length hs) (when_spot c p target tree (site_label place) (length hs) (spot_tree c tree place b hs single.0 fits.0 u) (parts c front rest once).0)
  wanted_spot c (Arm target tree arms) place b hs single fits (further u) p once =
      let front = when_code c p target tree (λ q. row_code c q tree) in
      let rest = wanted_arms c (p + length front) arms in
      let both = parts c front rest once in
      spot_back front rest (site_label place) (length hs) (when_after c p target tree fits.0 both.0) (wanted_spot c arms place b hs single.1 fits.1 u (p + length front) both.1)

  one_spot : (c : Context) (arms : Arms) (place b : ℕ) (hs : List ℕ) → AreSingle c arms → FitsArms c arms → UnderArms arms place b hs → (k p : ℕ) (tree : Tree) → arms ≡ Arm k tree No_arm → EachOnce (labels (row_code c (p + 2) tree)) → Spot (one_arm c k p (Arm k tree No_arm)) (site_label place) (length hs)
  one_spot c No_arm place b hs single fits u k p tree same once = elim u [ ]
  one_spot c (Arm target other arms) place b hs single fits (this_arm u) k p tree same once =
      let is : other ≡ tree = tree_of same in
      let marked = spot_tree c other place b hs single.0 fits.0 u (p + 2) (subst (λ t. EachOnce (labels (row_code c (p + 2) t))) (sym is) once) in
      let spot = spot_label (label_at other) (row_code c (p + 2) other) (site_label place) (length hs) marked in
      let whole : Spot (branch_inst (label_at other) ∷ label_inst (label_at other) ∷ row_code c (p + 2) other) (site_label place) (length hs) = record { place = spot.place; label_is = spot.label_is; loops_are = spot.loops_are } in
      subst (λ t. Spot (one_arm c k p (Arm k t No_arm)) (site_label place) (length hs)) is (subst (λ code. Spot code (site_label place) (length hs)) (sym (one_code c k p other)) whole)
    where
      from : Tree → Arms → Tree
      from d No_arm = d
      from d (Arm j t rest) = t

      tree_of : Arm target other arms ≡ Arm k tree No_arm → other ≡ tree
      tree_of e = ap (from other) e
  one_spot c (Arm target other arms) place b hs single fits (further u) k p tree same once =
      absurd (no_under arms u (rest_of same))
    where
      from : Arms → Arms
      from No_arm = No_arm
      from (Arm j t rest) = rest

      rest_of : Arm target other arms ≡ Arm k tree No_arm → arms ≡ No_arm
      rest_of e = ap from e
