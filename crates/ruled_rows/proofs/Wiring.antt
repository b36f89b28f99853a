-- The tree of wired regions asks nothing that its plan does not have.
use Rattle.std.proofs.Common.{◌≡◌, ◌⊎◌, ℕ, zero, suc, ◌-◌, ◌<◌, true, List, [], ◌∷◌, length, None, Some, refl, sym, ap, ◌∙◌, subst, arith, inl, inr}
use Rattle.std.specs.Prelude.{slice_get, Contains, option_map, ◌||◌}
use Rattle.std.proofs.lemmas.Option.{slice_get-map}
use Rattle.std.proofs.lemmas.List.Elements.{Contains-append_right}
use Rattle.dxil_form.specs.declared.program.Program.{Program}
use Rattle.dxil_form.specs.declared.region.Region.{Region}
use Rattle.dxil_form.specs.declared.region.Region.TheVariants as region
use Rattle.dxil_form.specs.Branches.{branches, declared_graph}
use Rattle.dxil_form.specs.Graphs.{Reached, Path}
use Rattle.dxil_form.specs.Sound.{Sound}
use Rattle.dxil_form.specs.Wired.{parts, MayWant, Wired}
use Rattle.dxil_form.specs.Wired.MayWant.{leaf_wants, source_wants, arm_wants}
use Rattle.spv_form.specs.declared.module.Version.{Version}
use Rattle.dxil_meaning.specs.Source.{Launch}
use Rattle.spirv_meaning.specs.Bindings.{Bindings}
use Rattle.spirv_code.specs.Plans.{Plan, context_of}
use Rattle.spirv_code.specs.Trees.{Tree, Leaf, Arms, No_arm, arm_label, arms_of, entered_arms, with_arms, node, tree_from, root_of}
use Rattle.spirv_code.specs.Further.{passes, wants, picks}
use Rattle.spirv_code.specs.Rows.{block_at}
use Rattle.line_runs.specs.Held.{Setting}
use Rattle.line_runs.proofs.Tests.{none_some}
use Rattle.frame_facts.specs.Facts.{setting_of}
use Rattle.frame_facts.proofs.Searches.{get_below}
use Rattle.region_runs.proofs.Members.{Among, Taken, Untaken, taken, arms_in, in_arms}
use Rattle.region_runs.proofs.Entries.{any_holds, has_index}
use Rattle.chosen_plan.specs.IsPlan.{IsPlan}
use Rattle.formed_rows.proofs.Counted.{get_some}
use Rattle.ruled_rows.proofs.Readiness.{LeafReady, Ready, AreReady}
use Rattle.ruled_rows.proofs.Leaves.{can_test, leaf_ready}

reached_below : (p : Program) → Sound p → (b : ℕ) → Reached (declared_graph p) b → b < length p.blocks
reached_below p sound b (before, path) = by_path before path
  where
    by_path : (before : List ℕ) → Path (declared_graph p) 0 before b → b < length p.blocks
    by_path [] path = let begins = sound.begins in omega (arith, begins, path)
    by_path (c ∷ before) path = (sound.targets c b path.0).1

-- ---- trees

single_leaf : (list : List Region) (n r b : ℕ) → r < n → slice_get list r ≡ Some (region.Leaf b) → tree_from n list r ≡ Leaf r b No_arm
single_leaf list zero r b low e = absurd (omega (arith, low))
single_leaf list (suc n) r b low e = ap (node (tree_from n list) r) e

no_arm : (part : ℕ → Tree) (xs : List (ℕ × ℕ)) (k : ℕ) → arm_label (arms_of part xs) k ≡ None → (a : ℕ) → Contains xs (k, a) → ⊥
no_arm part xs k none a member = by_taken (taken (arms_of part xs) k)
  where
    by_taken : Taken (arms_of part xs) k ⊎ Untaken (arms_of part xs) k → ⊥
    by_taken (inl x) = none_some (sym none ∙ x.label)
    by_taken (inr u) = u.none (part a) (arms_in part xs k a member)

arms_ready : (s : Setting) (part : ℕ → Tree) (xs : List (ℕ × ℕ)) → ((k a : ℕ) → Contains xs (k, a) → Ready s (part a)) → AreReady s (arms_of part xs)
arms_ready s part [] h = tt
arms_ready s part (x ∷ xs) h =
    (h x.0 x.1 (0, omega arith, refl), arms_ready s part xs (λ k a member. h k a (Contains-append_right (x ∷ []) xs (k, a) member)))

entered_ready : (s : Setting) (part : ℕ → Tree) (xs : List ℕ) → ((i a : ℕ) → slice_get xs i ≡ Some a → Ready s (part a)) → AreReady s (entered_arms part xs)
entered_ready s part [] h = tt
entered_ready s part (a ∷ xs) h = (h 0 a refl, entered_ready s part xs (λ i t e. h (suc i) t e))

module _ (p : Program) (list : List Region) (at : Bindings) (v : Version) (plan : Plan) (l : Launch) (is : IsPlan p list plan) (sound : Sound p) (w : Wired p list) where
  abbrev here : Setting
  here = setting_of p list at v plan l

  abbrev Wants : Type 0
  Wants = wants p list ≡ true

  passing : (r : ℕ) (x : Region) → slice_get list r ≡ Some x → passes x ≡ true → Wants
  passing r x stands h = ap (λ t. t || picks p list) (any_holds passes list r x stands h)

  leaf : (r b : ℕ) (arms : Arms) → slice_get list r ≡ Some (region.Leaf b) → ((k : ℕ) → branches p b k ≡ true → arm_label arms k ≡ None → Wants) → ((k : ℕ) (tree : Tree) → Among arms k tree → branches p b k ≡ true) → LeafReady here b (block_at (context_of p plan) b) arms
  leaf r b arms e loose inside =
      let block = get_some p.blocks b (reached_below p sound b (w.reached r b e)) in
      leaf_ready p list at v plan l is sound w r b arms e block.0 block.1 loose inside

  -- the region's parts are ready, whatever they may want
  abbrev PartsReady : (ℕ → Tree) → Region → Type 0
  PartsReady part x =
      (i t : ℕ) → slice_get (parts x) i ≡ Some t → ((k : ℕ) → MayWant p list t k → Wants) → Ready here (part t)

  source_ready : (n r first : ℕ) (xs : List (ℕ × ℕ)) → r < suc n → slice_get list r ≡ Some (region.Arms first xs) → ((k : ℕ) → MayWant p list r k → Wants) → PartsReady (tree_from n list) (region.Arms first xs) → Ready here (with_arms (tree_from n list first) (arms_of (tree_from n list) xs))
  source_ready n r first xs low e want rest =
      let part = tree_from n list in
      let source = w.source r first xs e in
      let less = w.later r 0 first (record { region = region.Arms first xs; stands = e; part = refl }) in
      let one = single_leaf list n first source.0 (omega (arith, low, less)) source.1 in
      let own = leaf first source.0 (arms_of part xs) source.1 (λ j t none. want j (source_wants e (leaf_wants source.1 t) (no_arm part xs j none))) (λ k tree among. (let arm = in_arms part xs k tree among in source.2 k arm.0 arm.1)) in
      let arms = arms_ready here part xs (λ k a member. (let found = has_index xs (k, a) member in rest (suc found.0) a (slice_get-map (λ (arm : ℕ × ℕ). arm.1) xs found.0 ∙ ap (option_map (λ (arm : ℕ × ℕ). arm.1)) found.1) (λ j may. want j (arm_wants e member may)))) in
      subst (λ t. Ready here (with_arms t (arms_of part xs))) (sym one) (own, arms)

  node_ready : (n r : ℕ) (x : Region) → r < suc n → slice_get list r ≡ Some x → ((k : ℕ) → MayWant p list r k → Wants) → PartsReady (tree_from n list) x → Ready here (node (tree_from n list) r (Some x))
  node_ready n r (region.Leaf b) low e want rest =
      (leaf r b No_arm e (λ j t none. want j (leaf_wants e t)) (λ k tree among. absurd among), tt)
  node_ready n r (region.Then first second target) low e want rest =
      let passed = passing r (region.Then first second target) e refl in
      (can_test p list at v plan l is sound w passed target (is.then_numbers r first second target e), rest 0 first refl (λ k may. passed), rest 1 second refl (λ k may. passed))
  node_ready n r (region.Loop body head) low e want rest =
      let passed = passing r (region.Loop body head) e refl in
      (can_test p list at v plan l is sound w passed head (is.loop_numbers r body head e), rest 0 body refl (λ k may. passed))
  node_ready n r (region.Dispatch xs) low e want rest =
      let passed = passing r (region.Dispatch xs) e refl in
      (can_test p list at v plan l is sound w passed (length p.blocks) (is.no_number passed), entered_ready here (tree_from n list) xs (λ i a stands. rest i a stands (λ k may. passed)))
  node_ready n r (region.Arms first xs) low e want rest = source_ready n r first xs low e want rest

  tree_ready : (n r : ℕ) (x : Region) → r < n → slice_get list r ≡ Some x → ((k : ℕ) → MayWant p list r k → Wants) → Ready here (tree_from n list r)
  tree_ready zero r x low e want = absurd (omega (arith, low))
  tree_ready (suc n) r x low e want =
      subst (λ o. Ready here (node (tree_from n list) r o)) (sym e) (node_ready n r x low e want (λ i t stands may. (let less = w.later r i t (record { region = x; stands = e; part = stands }) in let below = get_below list r x e in let y = get_some list t (omega (arith, less, below)) in tree_ready n t y.0 (omega (arith, less, low)) y.1 may)))

  pub root_ready : Ready here (root_of list)
  root_ready =
      let last = w.last in
      let x = get_some list (length list - 1) (omega (arith, last)) in
      let same : length list - 1 ≡ w.root = omega (arith, last) in
      tree_ready (suc (length list - 1)) (length list - 1) x.0 (omega arith) x.1 (λ k may. absurd (w.over k (subst (λ r. MayWant p list r k) same may)))
