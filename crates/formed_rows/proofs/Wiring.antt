-- The tree of wired regions asks nothing that its plan does not have.
use Rattle.std.proofs.Common.{◌≡◌, ◌⊎◌, ℕ, zero, suc, ◌-◌, ◌<◌, ◌≤◌, Bool, true, false, List, [], ◌∷◌, length, Option, Some, None, refl, sym, ap, ◌∙◌, subst, arith, inl, inr}
use Rattle.std.specs.Prelude.{slice_get, Contains, nat_lt, option_map, if◌then◌else◌, ◌||◌}
use Rattle.std.specs.List.{list_any}
use Rattle.std.proofs.lemmas.Option.{slice_get-map}
use Rattle.std.proofs.lemmas.List.Elements.{Contains-append_right}
use Rattle.dxil_form.specs.declared.block.Phi.{Phi}
use Rattle.dxil_form.specs.declared.block.Block.{Block}
use Rattle.dxil_form.specs.declared.program.Program.{Program}
use Rattle.dxil_form.specs.declared.region.Region.{Region}
use Rattle.dxil_form.specs.declared.region.Region.TheVariants as region
use Rattle.dxil_form.specs.Branches.{has, targets, targets_in, branches}
use Rattle.dxil_form.specs.Sound.{Sound, PhiAt, cases_in}
use Rattle.dxil_form.specs.Wired.{parts, MayWant, Wired}
use Rattle.dxil_form.specs.Wired.MayWant.{leaf_wants, source_wants, arm_wants}
use Rattle.spv_form.specs.Formed.{IsIdBelow}
use Rattle.spirv_code.specs.declared.key.Global.{Global}
use Rattle.spirv_code.specs.declared.key.Slot.{Slot}
use Rattle.spirv_code.specs.declared.key.Slot.TheVariants.{Want, Pick}
use Rattle.spirv_code.specs.Keys.{same_global, index_of}
use Rattle.spirv_code.specs.Plans.{Plan, Context, context_of, label, slots_from, slot_id, kept, coming, id_or_0}
use Rattle.spirv_code.specs.Leaves.{phis_of, next_blocks, most_pairs}
use Rattle.spirv_code.specs.Trees.{Tree, Leaf, No_arm, Arms, arm_label, arms_of, entered_arms, with_arms, node, tree_from, root_of}
use Rattle.spirv_code.specs.Further.{has_slot, many_cases, is_split, passes, wants, picks}
use Rattle.spirv_code.specs.Rows.{block_at}
use Rattle.line_runs.proofs.Tests.{none_some, true_false}
use Rattle.frame_facts.proofs.Searches.{get_below}
use Rattle.frame_facts.proofs.Tables.{slot_stands}
use Rattle.plan_ready.proofs.Base.{has_place}
use Rattle.region_runs.proofs.Targets.{splits_many}
use Rattle.region_runs.proofs.Members.{Taken, Untaken, taken, arms_in}
use Rattle.region_runs.proofs.Entries.{any_holds, has_index}
use Rattle.chosen_plan.specs.IsPlan.{IsPlan}
use Rattle.formed_lines.specs.Formed.{KeysBelow, SlotsBelow}
use Rattle.formed_rows.specs.Rowed.{Room}
use Rattle.formed_rows.proofs.Pieces.{IsThere}
use Rattle.formed_rows.proofs.Blocks.{PhisBelow}
use Rattle.formed_rows.proofs.Readiness as ready
use Rattle.formed_rows.proofs.Readiness.{LeafReady, Ready, AreReady}
use Rattle.formed_rows.proofs.Rows.{Base, block_or}
use Rattle.formed_rows.proofs.Counted.{get_some, arms_few}

-- ---- ids

index_most : (table : List Global) (g : Global) → index_of table g ≤ length table
index_most [] g = omega arith
index_most (h ∷ table) g = by_test (same_global g h) (index_most table g)
  where
    by_test : (b : Bool) → index_of table g ≤ length table → (if b then 0 else suc (index_of table g)) ≤ length (h ∷ table)
    by_test true rest = omega arith
    by_test false rest = omega (arith, rest)

phis_below : (b : ℕ) (c : Context) (phis : List Phi) → ((n : ℕ) (phi : Phi) → slice_get phis n ≡ Some phi → IsThere b c (coming phi.to phi.ty) × IsThere b c (kept phi.to phi.ty)) → PhisBelow b c phis
phis_below b c [] h = tt
phis_below b c (phi ∷ phis) h =
    let one = h 0 phi refl in
    (one.0, one.1, phis_below b c phis (λ n x e. h (suc n) x e))

module _ (p : Program) (list : List Region) (plan : Plan) (b : ℕ) (is : IsPlan p list plan) (room : Room b plan) where
  abbrev c : Context
  c = context_of p plan

  keys : KeysBelow b c
  keys g =
      let most = index_most plan.table g in
      (omega arith, omega (arith, most, room))

  slots : SlotsBelow b c
  slots s id e =
      let x = slot_stands (slots_from plan) plan.slots s id e in
      let low = get_below plan.slots x.k s x.here in
      let there = x.is in
      (omega (arith, there), omega (arith, there, low, room))

  there : (s : Slot) (id : ℕ) → slot_id plan s ≡ Some id → IsThere b c s
  there s id e = subst (λ o. IsIdBelow b (id_or_0 o)) (sym e) (slots s id e)

  has_variable : (s : Slot) → has_slot plan.slots s ≡ true → IsThere b c s
  has_variable s h =
      let x = has_place (slots_from plan) plan.slots s h in
      there s x.0 x.1

  phis : (k : ℕ) → PhisBelow b c (phis_of (slice_get p.blocks k))
  phis k = by_block (slice_get p.blocks k) refl
    where
      by_block : (o : Option Block) → slice_get p.blocks k ≡ o → PhisBelow b c (phis_of o)
      by_block None e = tt
      by_block (Some block) e =
          phis_below b c block.phis (λ n phi at. (let phi_at : PhiAt p k n phi = record { block = block; stands = e; line = at } in
          (has_variable (coming phi.to phi.ty) (is.variables.next k n phi phi_at), has_variable (kept phi.to phi.ty) (is.variables.own k n phi phi_at))))

  labels : (r kind : ℕ) → r < length list → kind < 8 → IsIdBelow b (label r kind)
  labels r kind low few =
      let regions = is.serves.regions in
      (omega arith, omega (arith, low, few, regions, room))

  pub base : Base b c (length list)
  base = record { keys = keys; slots = slots; phis = phis; labels = labels }

  want_there : wants p list ≡ true → IsThere b c Want
  want_there h =
      let x = is.want h in
      there Want x.0 x.1

  pick_there : picks p list ≡ true → IsThere b c Pick
  pick_there h =
      let x = is.pick h in
      there Pick x.0 x.1

  passing : (r : ℕ) (x : Region) → slice_get list r ≡ Some x → passes x ≡ true → IsThere b c Want
  passing r x at h = want_there (ap (λ t. t || picks p list) (any_holds passes list r x at h))

  -- ---- leaves

  targets_same : (k : ℕ) (o : Option Block) → has k (targets (block_or o).term) ≡ has k (targets_in o)
  targets_same k None = refl
  targets_same k (Some block) = refl

  many : (o : Option Block) → nat_lt most_pairs (cases_in (block_or o).term) ≡ true → many_cases o ≡ true
  many None h = absurd (true_false (sym h))
  many (Some block) h = h

  or_true : (t : Bool) → (t || true) ≡ true
  or_true true = refl
  or_true false = refl

  leaf_ready : (r k : ℕ) (arms : Arms) → slice_get list r ≡ Some (region.Leaf k) → ((j : ℕ) → branches p k j ≡ true → arm_label arms j ≡ None → IsThere b c Want) → LeafReady b c (block_at c k) arms
  leaf_ready r k arms at loose =
      record { loose = λ j h none. loose j (sym (targets_same j (slice_get p.blocks k)) ∙ h) none; split = λ way. split (splits_many (next_blocks (block_at c k).term) (cases_in (block_at c k).term) way) }
    where
      split : nat_lt most_pairs (cases_in (block_at c k).term) ≡ true → IsThere b c Want × IsThere b c Pick
      split h =
          let picked = any_holds (is_split p) list r (region.Leaf k) at (many (slice_get p.blocks k) h) in
          (want_there (ap (λ t. list_any passes list || t) picked ∙ or_true (list_any passes list)), pick_there picked)

  -- ---- trees

  single_leaf : (n r k : ℕ) → r < n → slice_get list r ≡ Some (region.Leaf k) → tree_from n list r ≡ Leaf r k No_arm
  single_leaf zero r k low e = absurd (omega (arith, low))
  single_leaf (suc n) r k low e = ap (node (tree_from n list) r) e

  no_arm : (part : ℕ → Tree) (xs : List (ℕ × ℕ)) (k : ℕ) → arm_label (arms_of part xs) k ≡ None → (a : ℕ) → Contains xs (k, a) → ⊥
  no_arm part xs k none a member = by_taken (taken (arms_of part xs) k)
    where
      by_taken : Taken (arms_of part xs) k ⊎ Untaken (arms_of part xs) k → ⊥
      by_taken (inl x) = none_some (sym none ∙ x.label)
      by_taken (inr u) = u.none (part a) (arms_in part xs k a member)

  arms_ready : (part : ℕ → Tree) (xs : List (ℕ × ℕ)) → ((k a : ℕ) → Contains xs (k, a) → Ready b c (length list) (part a)) → AreReady b c (length list) (arms_of part xs)
  arms_ready part [] h = tt
  arms_ready part (x ∷ xs) h =
      (h x.0 x.1 (0, omega arith, refl), arms_ready part xs (λ k a member. h k a (Contains-append_right (x ∷ []) xs (k, a) member)))

  entered_ready : (part : ℕ → Tree) (xs : List ℕ) → ((i a : ℕ) → slice_get xs i ≡ Some a → Ready b c (length list) (part a)) → AreReady b c (length list) (entered_arms part xs)
  entered_ready part [] h = tt
  entered_ready part (a ∷ xs) h = (h 0 a refl, entered_ready part xs (λ i s e. h (suc i) s e))

  entered_count : (part : ℕ → Tree) (xs : List ℕ) → ready.arms_in (entered_arms part xs) ≡ length xs
  entered_count part [] = refl
  entered_count part (a ∷ xs) = ap suc (entered_count part xs)

  module _ (sound : Sound p) (w : Wired p list) where
    -- the region's parts are ready, whatever they may want
    abbrev PartsReady : (ℕ → Tree) → Region → Type 0
    PartsReady part x =
        (i s : ℕ) → slice_get (parts x) i ≡ Some s → ((k : ℕ) → MayWant p list s k → IsThere b c Want) → Ready b c (length list) (part s)

    source_ready : (n r first : ℕ) (xs : List (ℕ × ℕ)) → r < suc n → slice_get list r ≡ Some (region.Arms first xs) → ((k : ℕ) → MayWant p list r k → IsThere b c Want) → PartsReady (tree_from n list) (region.Arms first xs) → Ready b c (length list) (with_arms (tree_from n list first) (arms_of (tree_from n list) xs))
    source_ready n r first xs low e want rest =
        let part = tree_from n list in
        let source = w.source r first xs e in
        let less = w.later r 0 first (record { region = region.Arms first xs; stands = e; part = refl }) in
        let one = single_leaf n first source.0 (omega (arith, low, less)) source.1 in
        let leaf = leaf_ready first source.0 (arms_of part xs) source.1 (λ j t none. want j (source_wants e (leaf_wants source.1 t) (no_arm part xs j none))) in
        let arms = arms_ready part xs (λ k a member. (let at = has_index xs (k, a) member in rest (suc at.0) a (slice_get-map (λ (arm : ℕ × ℕ). arm.1) xs at.0 ∙ ap (option_map (λ (arm : ℕ × ℕ). arm.1)) at.1) (λ j may. want j (arm_wants e member may)))) in
        subst (λ t. Ready b c (length list) (with_arms t (arms_of part xs))) (sym one) (get_below list first (region.Leaf source.0) source.1, leaf, arms)

    dispatch_few : (r : ℕ) (xs : List ℕ) (part : ℕ → Tree) → slice_get list r ≡ Some (region.Dispatch xs) → ready.arms_in (entered_arms part xs) ≤ most_pairs
    dispatch_few r xs part e =
        let few = arms_few p list sound w r xs e in
        let count = entered_count part xs in
        omega (arith, few, count, sound.counts.blocks)

    node_ready : (n r : ℕ) (x : Region) → r < suc n → slice_get list r ≡ Some x → ((k : ℕ) → MayWant p list r k → IsThere b c Want) → PartsReady (tree_from n list) x → Ready b c (length list) (node (tree_from n list) r (Some x))
    node_ready n r (region.Leaf k) low e want rest =
        (get_below list r (region.Leaf k) e, leaf_ready r k No_arm e (λ j t none. want j (leaf_wants e t)), tt)
    node_ready n r (region.Then first second target) low e want rest =
        let there = passing r (region.Then first second target) e refl in
        (get_below list r (region.Then first second target) e, there, rest 0 first refl (λ k may. there), rest 1 second refl (λ k may. there))
    node_ready n r (region.Loop body head) low e want rest =
        let there = passing r (region.Loop body head) e refl in
        (get_below list r (region.Loop body head) e, there, rest 0 body refl (λ k may. there))
    node_ready n r (region.Dispatch xs) low e want rest =
        let there = passing r (region.Dispatch xs) e refl in
        let part = tree_from n list in
        (get_below list r (region.Dispatch xs) e, there, dispatch_few r xs part e, entered_ready part xs (λ i a at. rest i a at (λ k may. there)))
    node_ready n r (region.Arms first xs) low e want rest = source_ready n r first xs low e want rest

    tree_ready : (n r : ℕ) (x : Region) → r < n → slice_get list r ≡ Some x → ((k : ℕ) → MayWant p list r k → IsThere b c Want) → Ready b c (length list) (tree_from n list r)
    tree_ready zero r x low e want = absurd (omega (arith, low))
    tree_ready (suc n) r x low e want =
        subst (λ o. Ready b c (length list) (node (tree_from n list) r o)) (sym e) (node_ready n r x low e want (λ i s at may. (let less = w.later r i s (record { region = x; stands = e; part = at }) in let here = get_below list r x e in let y = get_some list s (omega (arith, less, here)) in tree_ready n s y.0 (omega (arith, less, low)) y.1 may)))

    pub root_ready : Ready b c (length list) (root_of list)
    root_ready =
        let last = w.last in
        let x = get_some list (length list - 1) (omega (arith, last)) in
        let same : length list - 1 ≡ w.root = omega (arith, last) in
        tree_ready (suc (length list - 1)) (length list - 1) x.0 (omega arith) x.1 (λ k may. absurd (w.over k (subst (λ r. MayWant p list r k) same may)))
