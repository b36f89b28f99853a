-- What the pieces of a region make when one is written behind another.
use Rattle.std.proofs.Common.{◌≡◌, ℕ, ◌+◌, ◌<◌, List, [], ◌∷◌, ◌++◌, length, drop, get_or, Option, Some, None, refl, sym, ap, ◌∙◌, append_assoc}
use Rattle.std.specs.Prelude.{slice_get}
use Rattle.std.proofs.lemmas.List.{at_drop_more}
use Rattle.dxil_form.specs.declared.block.Block.{Block}
use Rattle.dxil_form.specs.declared.block.Term.{Term}
use Rattle.dxil_form.specs.declared.block.Term.TheVariants.{Unreachable}
use Rattle.dxil_form.specs.declared.region.Region.{Region}
use Rattle.dxil_form.specs.declared.region.Region.TheVariants as region
use Rattle.spv_form.specs.declared.module.Inst.{Inst}
use Rattle.spirv_code.specs.declared.key.Slot.TheVariants.{Want}
use Rattle.spirv_code.specs.declared.way.Way.TheVariants.{Chooses, Splits}
use Rattle.spirv_code.specs.Plans.{Context, number, chosen_label, header_label, merge_label, passed_label}
use Rattle.spirv_code.specs.Reads.{Env, store_code}
use Rattle.spirv_code.specs.Leaves.{block_code, block_env, followed, next_blocks, way_of}
use Rattle.spirv_code.specs.Exits.{branch_inst, choose_code, exit_code, label_inst, loose, no_block, split_code, tested, tested_code, tested_id, want_inst}
use Rattle.spirv_code.specs.Rows.{arm_code, dispatch_head, dispatch_tail, footer_code, header_code, leaf_code, met_arms, one_arm, onwards, row_code, wanted_arms, when_code, when_head}
use Rattle.spirv_code.specs.Trees.{Tree, Arms, Leaf, Dispatch, AreEarlier, arm_label, arms_of, label_at, node, place_of, tree_at}
use Rattle.spirv_code.proofs.Follows.{followed_more}
use Rattle.spirv_code.proofs.TreeLaws.{tree_node}
use Rattle.spirv_regions.specs.Ways.{arm_place}
use Rattle.spirv_regions.proofs.Arms.{arm_at, one_arm_is}

-- a block; one that is not declared has nothing in it
abbrev block_or_none : Option Block → Block
block_or_none None = record { phis = []; instrs = []; term = Unreachable }
block_or_none (Some block) = block

-- ---- regions of a list

module _ (c : Context) (list : List Region) (earlier : AreEarlier list) where
  -- the tree of a region that stands in the list
  pub tree_of : (r : ℕ) (x : Option Region) → slice_get list r ≡ x → tree_at list r ≡ node (tree_at list) r x
  tree_of r x stands = tree_node list earlier r ∙ ap (node (tree_at list) r) stands

  -- the code of the tree at a place, where the tree is known
  pub row_here : (old new : List Inst) (r : ℕ) (x : Option Region) (tree : Tree) → slice_get list r ≡ x → node (tree_at list) r x ≡ tree → new ≡ old ++ row_code c (length old) tree → new ≡ old ++ row_code c (length old) (tree_at list r)
  row_here old new r x tree stands is one =
      one ∙ ap (λ t. old ++ row_code c (length old) t) (sym is ∙ sym (tree_of r x stands))

  pub then_written : (old mid new : List Inst) (r first second target : ℕ) → slice_get list r ≡ Some (region.Then first second target) → mid ≡ old ++ row_code c (length old) (tree_at list first) → new ≡ mid ++ when_code c (length mid) target (tree_at list second) (λ q. row_code c q (tree_at list second)) → new ≡ old ++ row_code c (length old) (tree_at list r)
  then_written old mid new r first second target stands one two =
      followed_more old mid new (row_code c (length old) (tree_at list first)) (λ p. when_code c p target (tree_at list second) (λ q. row_code c q (tree_at list second))) one two
      ∙ ap (λ tree. old ++ row_code c (length old) tree) (sym (tree_of r (Some (region.Then first second target)) stands))

  pub loop_written : (old begun mid new : List Inst) (r body head : ℕ) → slice_get list r ≡ Some (region.Loop body head) → begun ≡ old ++ header_code r (label_at (tree_at list body)) → mid ≡ begun ++ row_code c (length begun) (tree_at list body) → new ≡ mid ++ footer_code c r (length mid) head (header_label r) (merge_label r) → new ≡ old ++ row_code c (length old) (tree_at list r)
  loop_written old begun mid new r body head stands one two three =
      followed_more old begun new (header_code r (label_at (tree_at list body))) (λ p. followed p (row_code c p (tree_at list body)) (λ q. footer_code c r q head (header_label r) (merge_label r))) one
      (followed_more begun mid new (row_code c (length begun) (tree_at list body)) (λ q. footer_code c r q head (header_label r) (merge_label r)) two three)
      ∙ ap (λ tree. old ++ row_code c (length old) tree) (sym (tree_of r (Some (region.Loop body head)) stands))

  -- ---- arms

  -- the arm of a block, or a store that the block is wanted
  pub arm_found : (old begun new : List Inst) (k a : ℕ) (arms : List (ℕ × ℕ)) → arm_place k arms ≡ Some a → begun ≡ old ++ onwards (label_at (tree_at list a)) → new ≡ begun ++ row_code c (length begun) (tree_at list a) → new ≡ old ++ one_arm c k (length old) (arms_of (tree_at list) arms)
  arm_found old begun new k a arms found one two =
      followed_more old begun new (onwards (label_at (tree_at list a))) (λ p. row_code c p (tree_at list a)) one two
      ∙ ap (λ o. old ++ arm_at c (tree_at list) k (length old) o) (sym found)
      ∙ ap (λ o. old ++ o) (sym (one_arm_is c (tree_at list) k (length old) arms))

  pub arm_missing : (old new : List Inst) (k : ℕ) (arms : List (ℕ × ℕ)) → arm_place k arms ≡ None → new ≡ old ++ want_inst c k ∷ [] → new ≡ old ++ one_arm c k (length old) (arms_of (tree_at list) arms)
  arm_missing old new k arms found one =
      one
      ∙ ap (λ o. old ++ arm_at c (tree_at list) k (length old) o) (sym found)
      ∙ ap (λ o. old ++ o) (sym (one_arm_is c (tree_at list) k (length old) arms))

  -- one more arm of a list that is written in turn
  pub met_next : (code new all : List Inst) (meet i : ℕ) (arms : List (ℕ × ℕ)) (d : ℕ × ℕ) → i < length arms → new ≡ code ++ arm_code (length code) meet (tree_at list (get_or arms i d).1) (λ q. row_code c q (tree_at list (get_or arms i d).1)) → code ++ met_arms c meet (length code) (arms_of (tree_at list) (drop i arms)) ≡ all → new ++ met_arms c meet (length new) (arms_of (tree_at list) (drop (i + 1) arms)) ≡ all
  met_next code new all meet i arms d within one before =
      followed_more code new (new ++ met_arms c meet (length new) (arms_of (tree_at list) (drop (i + 1) arms))) (arm_code (length code) meet (tree_at list (get_or arms i d).1) (λ q. row_code c q (tree_at list (get_or arms i d).1))) (λ p. met_arms c meet p (arms_of (tree_at list) (drop (i + 1) arms))) one refl
      ∙ sym (at_drop_more (λ xs. code ++ met_arms c meet (length code) (arms_of (tree_at list) xs)) arms i d within)
      ∙ before

  pub wanted_next : (code new all : List Inst) (i : ℕ) (arms : List (ℕ × ℕ)) (d : ℕ × ℕ) → i < length arms → new ≡ code ++ when_code c (length code) (get_or arms i d).0 (tree_at list (get_or arms i d).1) (λ q. row_code c q (tree_at list (get_or arms i d).1)) → code ++ wanted_arms c (length code) (arms_of (tree_at list) (drop i arms)) ≡ all → new ++ wanted_arms c (length new) (arms_of (tree_at list) (drop (i + 1) arms)) ≡ all
  wanted_next code new all i arms d within one before =
      followed_more code new (new ++ wanted_arms c (length new) (arms_of (tree_at list) (drop (i + 1) arms))) (when_code c (length code) (get_or arms i d).0 (tree_at list (get_or arms i d).1) (λ q. row_code c q (tree_at list (get_or arms i d).1))) (λ p. wanted_arms c p (arms_of (tree_at list) (drop (i + 1) arms))) one refl
      ∙ sym (at_drop_more (λ xs. code ++ wanted_arms c (length code) (arms_of (tree_at list) xs)) arms i d within)
      ∙ before

-- ---- a region of a tree

module _ (c : Context) (tree : Tree) where
  pub when_written : (old begun mid new : List Inst) (k passed : ℕ) → passed ≡ passed_label (place_of tree) → begun ≡ old ++ when_head c (length old) k (label_at tree) (place_of tree) → mid ≡ begun ++ row_code c (length begun) tree → new ≡ mid ++ onwards passed → new ≡ old ++ when_code c (length old) k tree (λ q. row_code c q tree)
  when_written old begun mid new k passed is one two three =
      followed_more old begun new (when_head c (length old) k (label_at tree) (place_of tree)) (λ p. row_code c p tree ++ onwards (passed_label (place_of tree))) one
      (three
      ∙ ap (λ o. o ++ onwards passed) two
      ∙ append_assoc begun (row_code c (length begun) tree) (onwards passed)
      ∙ ap (λ l. begun ++ (row_code c (length begun) tree ++ onwards l)) is)

  pub arm_written : (old begun mid new : List Inst) (meet : ℕ) → begun ≡ old ++ label_inst (label_at tree) ∷ [] → mid ≡ begun ++ row_code c (length begun) tree → new ≡ mid ++ branch_inst meet ∷ [] → new ≡ old ++ arm_code (length old) meet tree (λ q. row_code c q tree)
  arm_written old begun mid new meet one two three =
      followed_more old begun new (label_inst (label_at tree) ∷ []) (λ p. row_code c p tree ++ (branch_inst meet ∷ [])) one
      (three
      ∙ ap (λ o. o ++ branch_inst meet ∷ []) two
      ∙ append_assoc begun (row_code c (length begun) tree) (branch_inst meet ∷ []))

-- ---- leaves

module _ (c : Context) (arms : Arms) (place b : ℕ) where
  pub leaf_written : (old mid new : List Inst) (block : Block) → slice_get c.blocks b ≡ Some block → mid ≡ old ++ block_code c (length old) b block → new ≡ mid ++ exit_code c (chosen_label place) block.term (arm_label arms) (next_blocks block.term) (λ k p. one_arm c k p arms) (λ p. met_arms c (chosen_label place) p arms) (λ p. wanted_arms c p arms) (block_env c (length old) block) (way_of block.term) (length mid) → new ≡ old ++ row_code c (length old) (Leaf place b arms)
  leaf_written old mid new block stands one two =
      followed_more old mid new (block_code c (length old) b block) (λ p. exit_code c (chosen_label place) block.term (arm_label arms) (next_blocks block.term) (λ k p. one_arm c k p arms) (λ p. met_arms c (chosen_label place) p arms) (λ p. wanted_arms c p arms) (block_env c (length old) block) (way_of block.term) p) one two
      ∙ ap (λ o. old ++ leaf_code c (length old) (chosen_label place) b (block_or_none o) (arm_label arms) (λ k p. one_arm c k p arms) (λ p. met_arms c (chosen_label place) p arms) (λ p. wanted_arms c p arms)) (sym stands)

  pub no_leaf_written : (old new : List Inst) → slice_get c.blocks b ≡ None → new ≡ old ++ store_code (c.slot Want) (number c (no_block c)) → new ≡ old ++ row_code c (length old) (Leaf place b arms)
  no_leaf_written old new none one =
      one
      ∙ ap (λ o. old ++ leaf_code c (length old) (chosen_label place) b (block_or_none o) (arm_label arms) (λ k p. one_arm c k p arms) (λ p. met_arms c (chosen_label place) p arms) (λ p. wanted_arms c p arms)) (sym none)

pub dispatch_written : (c : Context) (arms : Arms) (r : ℕ) (old begun mid new : List Inst) → begun ≡ old ++ dispatch_head c r (length old) arms → mid ≡ begun ++ met_arms c (chosen_label r) (length begun) arms → new ≡ mid ++ dispatch_tail c r (length mid) → new ≡ old ++ row_code c (length old) (Dispatch r arms)
dispatch_written c arms r old begun mid new one two three =
    followed_more old begun new (dispatch_head c r (length old) arms) (λ p. followed p (met_arms c (chosen_label r) p arms) (λ q. dispatch_tail c r q)) one
    (followed_more begun mid new (met_arms c (chosen_label r) (length begun) arms) (λ q. dispatch_tail c r q) two three)

-- ---- how a leaf is left

module _ (c : Context) (meet : ℕ) (term : Term) (labels : ℕ → Option ℕ) (ks : List ℕ) (one : ℕ → ℕ → List Inst) (met wanted : ℕ → List Inst) (env : Env) where
  pub chosen_written : (old read chosen armed new : List Inst) (id : ℕ) → read ≡ old ++ tested_code c env (length old) (tested term) → id ≡ tested_id c env (length old) (tested term) → chosen ≡ read ++ choose_code c (length read) meet id term labels (loose labels ks) → armed ≡ chosen ++ met (length chosen) → new ≡ armed ++ label_inst meet ∷ [] → new ≡ old ++ exit_code c meet term labels ks one met wanted env Chooses (length old)
  chosen_written old read chosen armed new id first is second third fourth =
      followed_more old read new (tested_code c env (length old) (tested term)) (λ p. followed p (choose_code c p meet (tested_id c env (length old) (tested term)) term labels (loose labels ks)) (λ q. met q ++ (label_inst meet ∷ []))) first
      (followed_more read chosen new (choose_code c (length read) meet (tested_id c env (length old) (tested term)) term labels (loose labels ks)) (λ q. met q ++ (label_inst meet ∷ []))
      (second ∙ ap (λ i. read ++ choose_code c (length read) meet i term labels (loose labels ks)) is)
      (fourth ∙ ap (λ o. o ++ label_inst meet ∷ []) third ∙ append_assoc chosen (met (length chosen)) (label_inst meet ∷ [])))

  pub split_written : (old read parted new : List Inst) (id : ℕ) → read ≡ old ++ tested_code c env (length old) (tested term) → id ≡ tested_id c env (length old) (tested term) → parted ≡ read ++ split_code c (length read) id term → new ≡ parted ++ wanted (length parted) → new ≡ old ++ exit_code c meet term labels ks one met wanted env Splits (length old)
  split_written old read parted new id first is second third =
      followed_more old read new (tested_code c env (length old) (tested term)) (λ p. followed p (split_code c p (tested_id c env (length old) (tested term)) term) wanted) first
      (followed_more read parted new (split_code c (length read) (tested_id c env (length old) (tested term)) term) wanted
      (second ∙ ap (λ i. read ++ split_code c (length read) i term) is) third)
