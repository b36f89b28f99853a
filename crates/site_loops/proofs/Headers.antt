-- In the code of a tree of regions an OpLoopMerge stands in the header of each loop and each dispatch, and branches to the label at which its body begins.
use Rattle.std.proofs.Common.{ℕ, ◌+◌, Bool, true, false, List, [], ◌∷◌, ◌++◌, length, refl}
use Rattle.std.specs.Prelude.{nat_eq, if◌then◌else◌}
use Rattle.dxil_form.specs.declared.block.Term.{Term}
use Rattle.spv_form.specs.declared.module.Inst.{Inst}
use Rattle.spirv_code.specs.declared.key.Slot.TheVariants.{Want}
use Rattle.spirv_code.specs.declared.way.Way.{Way}
use Rattle.spirv_code.specs.declared.way.Way.TheVariants.{Ends, Goes, Chooses, Splits}
use Rattle.spirv_code.specs.Plans.{Context, number, header_label, body_label, merge_label, chosen_label, passed_label}
use Rattle.spirv_code.specs.Reads.{Env}
use Rattle.spirv_code.specs.Leaves.{next_blocks, way_of, block_env, block_code}
use Rattle.spirv_code.specs.Exits.{want_inst, no_block, loose, choose_code, split_code, tested, tested_code, tested_id, exit_code}
use Rattle.spirv_code.specs.Trees.{Tree, Missing, Leaf, Then, Loop, Dispatch, Arms, No_arm, Arm, label_at, place_of, arm_label}
use Rattle.spirv_code.specs.Rows.{onwards, when_code, arm_code, header_code, footer_code, dispatch_tail, block_at, row_code, one_arm, met_arms, wanted_arms}
use Rattle.module_structure.proofs.Inner.{store_low}
use Rattle.module_counts.proofs.Lines.{inner_others, block_others}
use Rattle.written_rows.specs.Code.{label_inst, branch_inst}
use Rattle.site_loops.proofs.Calm.{others_calm, choose_calm, split_calm, tested_calm}
use Rattle.site_loops.proofs.Headed.{Headed, IsFree, headed_append, calm_free}

module _ (G : ℕ → List ℕ → Type 0) where
  -- so are the headers of all loops and dispatches of a tree
  abbrev mutual
    pub AreHeaders : Tree → Type 0
    AreHeaders Missing = Unit {0}
    AreHeaders (Leaf r b arms) = ArmHeaders arms
    AreHeaders (Then r first second target) = AreHeaders first × AreHeaders second
    AreHeaders (Loop r body head) = G (header_label r) (label_at body ∷ []) × AreHeaders body
    AreHeaders (Dispatch r arms) = G (header_label r) (body_label r ∷ []) × ArmHeaders arms

    pub ArmHeaders : Arms → Type 0
    ArmHeaders No_arm = Unit {0}
    ArmHeaders (Arm target tree arms) = AreHeaders tree × ArmHeaders arms

  free_append : (xs ys : List Inst) → IsFree G xs → IsFree G ys → IsFree G (xs ++ ys)
  free_append xs ys f g l = headed_append G l xs ys (f l) g

  module _ (c : Context) where
    abbrev IsHeaded : Tree → Type 0
    IsHeaded tree = (p : ℕ) → Headed G (label_at tree) (row_code c p tree)

    when_free : (p k : ℕ) (tree : Tree) → IsHeaded tree → IsFree G (when_code c p k tree (λ q. row_code c q tree))
    when_free p k tree h l =
        let tail = onwards (passed_label (place_of tree)) in
        (tt, (tt, (tt, (tt, headed_append G (label_at tree) (row_code c (p + 5) tree) tail (h (p + 5)) (calm_free G tail (refl, (refl, tt)))))))

    arm_free : (p meet : ℕ) (tree : Tree) → IsHeaded tree → IsFree G (arm_code p meet tree (λ q. row_code c q tree))
    arm_free p meet tree h l =
        let tail : List Inst = branch_inst meet ∷ [] in
        headed_append G (label_at tree) (row_code c (p + 1) tree) tail (h (p + 1)) (calm_free G tail (refl, tt))

    one_test : (k p : ℕ) (tree : Tree) (arms : Arms) → IsHeaded tree → IsFree G (one_arm c k p arms) → (b : Bool) → IsFree G (if b then (onwards (label_at tree) ++ row_code c (p + length (onwards (label_at tree))) tree) else one_arm c k p arms)
    one_test k p tree arms h rest true l = (tt, h (p + 2))
    one_test k p tree arms h rest false l = rest l

    loop_headed : (r first k there other q l : ℕ) (inner : List Inst) → G l (first ∷ []) → Headed G first inner → Headed G l (header_code r first ++ (inner ++ footer_code c r q k there other))
    loop_headed r first k there other q l inner g h =
        (g, (tt, headed_append G first inner (footer_code c r q k there other) h (calm_free G (footer_code c r q k there other) (refl, (refl, (refl, (refl, (refl, (refl, tt)))))))))

    record HasFree (r : ℕ) (arms : Arms) : Type 0 where
      one : (k p : ℕ) → IsFree G (one_arm c k p arms)
      met : (meet p : ℕ) → IsFree G (met_arms c meet p arms)
      wanted : (p : ℕ) → IsFree G (wanted_arms c p arms)

    exit_free : (r : ℕ) (term : Term) (arms : Arms) → HasFree r arms → (env : Env) (way : Way) (place : ℕ) → IsFree G (exit_code c (chosen_label r) term (arm_label arms) (next_blocks term) (λ k p. one_arm c k p arms) (λ p. met_arms c (chosen_label r) p arms) (λ p. wanted_arms c p arms) env way place)
    exit_free r term arms h env Ends place =
        calm_free G _ (others_calm _ (inner_others _ (store_low (c.slot Want) (number c (no_block c)))))
    exit_free r term arms h env (Goes k) place = h.one k place
    exit_free r term arms h env Chooses place =
        let meet = chosen_label r in
        let test = tested_code c env place (tested term) in
        let value = tested_id c env place (tested term) in
        let p = place + length test in
        let chosen = choose_code c p meet value term (arm_label arms) (loose (arm_label arms) (next_blocks term)) in
        let code = met_arms c meet (p + length chosen) arms in
        free_append test (chosen ++ (code ++ (label_inst meet ∷ []))) (calm_free G test (tested_calm c env place (tested term))) (free_append chosen (code ++ (label_inst meet ∷ [])) (calm_free G chosen (choose_calm c p meet value term (arm_label arms) (loose (arm_label arms) (next_blocks term)))) (free_append code (label_inst meet ∷ []) (h.met meet (p + length chosen)) (calm_free G (label_inst meet ∷ []) (refl, tt))))
    exit_free r term arms h env Splits place =
        let test = tested_code c env place (tested term) in
        let value = tested_id c env place (tested term) in
        let p = place + length test in
        let split = split_code c p value term in
        free_append test (split ++ wanted_arms c (p + length split) arms) (calm_free G test (tested_calm c env place (tested term))) (free_append split (wanted_arms c (p + length split) arms) (calm_free G split (split_calm c p value term)) (h.wanted (p + length split)))

    leaf_free : (r b : ℕ) (arms : Arms) → HasFree r arms → (p : ℕ) → IsFree G (row_code c p (Leaf r b arms))
    leaf_free r b arms h p =
        let block = block_at c b in
        let code = block_code c p b block in
        let q = p + length code in
        let env = block_env c p block in
        let exit = exit_code c (chosen_label r) block.term (arm_label arms) (next_blocks block.term) (λ k p. one_arm c k p arms) (λ p. met_arms c (chosen_label r) p arms) (λ p. wanted_arms c p arms) env (way_of block.term) q in
        free_append code exit (calm_free G code (others_calm code (block_others c p b block))) (exit_free r block.term arms h env (way_of block.term) q)

    dispatch_headed : (r p : ℕ) (arms : Arms) → G (header_label r) (body_label r ∷ []) → ((meet q : ℕ) → IsFree G (met_arms c meet q arms)) → Headed G (header_label r) (row_code c p (Dispatch r arms))
    dispatch_headed r p arms g met =
        let q = p + 6 in
        let code = met_arms c (chosen_label r) q arms in
        let tail = dispatch_tail c r (q + length code) in
        (g, (tt, (tt, (tt, (tt, free_append code tail (met (chosen_label r) q) (calm_free G tail (refl, (refl, (refl, (refl, (refl, (refl, (refl, tt)))))))) (body_label r))))))

  mutual
    pub tree_headed : (c : Context) (tree : Tree) → AreHeaders tree → (p : ℕ) → Headed G (label_at tree) (row_code c p tree)
    tree_headed c Missing g p = tt
    tree_headed c (Leaf r b arms) g p =
        leaf_free c r b arms (record { one = λ k q. one_free c arms g k q; met = λ meet q. met_free c arms g meet q; wanted = λ q. wanted_free c arms g q }) p (label_at (Leaf r b arms))
    tree_headed c (Then r first second target) g p =
        let code = row_code c p first in
        headed_append G (label_at first) code (when_code c (p + length code) target second (λ q. row_code c q second)) (tree_headed c first g.0 p) (when_free c (p + length code) target second (tree_headed c second g.1))
    tree_headed c (Loop r body head) g p =
        let code = row_code c (p + 3) body in
        loop_headed c r (label_at body) head (header_label r) (merge_label r) (p + 3 + length code) (header_label r) code g.0 (tree_headed c body g.1 (p + 3))
    tree_headed c (Dispatch r arms) g p = dispatch_headed c r p arms g.0 (λ meet q. met_free c arms g.1 meet q)

    one_free : (c : Context) (arms : Arms) → ArmHeaders arms → (k p : ℕ) → IsFree G (one_arm c k p arms)
    one_free c No_arm g k p = calm_free G (want_inst c k ∷ []) (refl, tt)
    one_free c (Arm target tree arms) g k p = one_test c k p tree arms (tree_headed c tree g.0) (one_free c arms g.1 k p) (nat_eq k target)

    met_free : (c : Context) (arms : Arms) → ArmHeaders arms → (meet p : ℕ) → IsFree G (met_arms c meet p arms)
    met_free c No_arm g meet p = calm_free G [] tt
    met_free c (Arm target tree arms) g meet p =
        let front = arm_code p meet tree (λ q. row_code c q tree) in
        free_append front (met_arms c meet (p + length front) arms) (arm_free c p meet tree (tree_headed c tree g.0)) (met_free c arms g.1 meet (p + length front))

    wanted_free : (c : Context) (arms : Arms) → ArmHeaders arms → (p : ℕ) → IsFree G (wanted_arms c p arms)
    wanted_free c No_arm g p = calm_free G [] tt
    wanted_free c (Arm target tree arms) g p =
        let front = when_code c p target tree (λ q. row_code c q tree) in
        free_append front (wanted_arms c (p + length front) arms) (when_free c p target tree (tree_headed c tree g.0)) (wanted_free c arms g.1 (p + length front))
