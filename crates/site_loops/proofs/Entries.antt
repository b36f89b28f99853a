-- Where no ring is crossed, the body of each loop begins with the leaf of its head.
use Rattle.std.proofs.Common.{◌≡◌, ℕ, zero, suc, ◌-◌, ◌<◌, List, [], ◌∷◌, length, Some, refl, sym, ap, ◌∙◌, subst, arith}
use Rattle.std.specs.Prelude.{slice_get, map}
use Rattle.dxil_form.specs.declared.program.Program.{Program}
use Rattle.dxil_form.specs.declared.region.Region.{Region}
use Rattle.dxil_form.specs.declared.region.Region.TheVariants as region
use Rattle.dxil_form.specs.Walks.{EnteredBy}
use Rattle.dxil_form.specs.Walks.EnteredBy.{by_block, by_head, by_first, by_source, by_start}
use Rattle.dxil_form.specs.Wired.{parts, Wired}
use Rattle.program_regions.specs.Chosen.{NoDispatch}
use Rattle.spirv_code.specs.Plans.{site_label, header_label}
use Rattle.spirv_code.specs.Trees.{Tree, label_at, arms_of, with_arms, node, tree_from, root_of}
use Rattle.module_nesting.proofs.Counted.{get_some, single_leaf, part_there}
use Rattle.site_loops.proofs.Headers.{AreHeaders, ArmHeaders}

-- a label is that of the header of a loop, which branches to the leaf of the loop's head
pub record Enters (list : List Region) (id : ℕ) (ts : List ℕ) : Type 0 where
  pub place : ℕ
  pub body : ℕ
  pub head : ℕ
  pub first : ℕ
  pub header_is : id ≡ header_label place
  pub loop : slice_get list place ≡ Some (region.Loop body head)
  pub leaf : slice_get list first ≡ Some (region.Leaf head)
  pub targets_are : ts ≡ site_label first ∷ []

-- each head is that of one loop
abbrev pub OneLoop : List Region → Type 0
OneLoop list =
    (r s body inner head : ℕ) → slice_get list r ≡ Some (region.Loop body head) → slice_get list s ≡ Some (region.Loop inner head) → r ≡ s

module _ (p : Program) (list : List Region) (w : Wired p list) (none : NoDispatch list) (one_loop : OneLoop list) where
  -- the leaf of a block at which a region begins, where the region is in the block's loop
  abbrev Begins : (n k b : ℕ) → Type 0
  Begins n k b = (s : ℕ) × (slice_get list s ≡ Some (region.Leaf b)) × (label_at (tree_from n list k) ≡ site_label s)

  begins : (n k b r body : ℕ) → k < n → k < r → slice_get list r ≡ Some (region.Loop body b) → EnteredBy list k b → Begins n k b
  begins zero k b r body low less loop e = absurd (omega (arith, low))
  begins (suc n) k b r body low less loop (by_block at) = (k, at, ap (λ o. label_at (node (tree_from n list) k o)) at)
  begins (suc n) k b r body low less loop (by_head {body = inner} at) =
      let same = one_loop r k body inner b loop at in
      absurd (omega (arith, same, less))
  begins (suc n) k b r body low less loop (by_first {first = first} {second = second} {target = target} at entered) =
      let later = w.later k 0 first (record { region = region.Then first second target; stands = at; part = refl }) in
      let rest = begins n first b r body (omega (arith, later, low)) (omega (arith, later, less)) loop entered in
      (rest.0, rest.1, ap (λ o. label_at (node (tree_from n list) k o)) at ∙ rest.2)
  begins (suc n) k b r body low less loop (by_source {first = first} {arms = arms} at entered) =
      let source = w.source k first arms at in
      let later = w.later k 0 first (record { region = region.Arms first arms; stands = at; part = refl }) in
      let rest = begins n first b r body (omega (arith, later, low)) (omega (arith, later, less)) loop entered in
      let one = single_leaf p list w n first source.0 (omega (arith, low, later)) source.1 in
      (rest.0, rest.1, ap (λ o. label_at (node (tree_from n list) k o)) at ∙ (ap (λ t. label_at (with_arms t (arms_of (tree_from n list) arms))) one ∙ (sym (ap label_at one) ∙ rest.2)))
  begins (suc n) k b r body low less loop (by_start {arms = arms} at member entered) = absurd (none k arms at)

  arm_headers : (part : ℕ → Tree) (xs : List (ℕ × ℕ)) → ((i s : ℕ) → slice_get (map (λ arm. arm.1) xs) i ≡ Some s → AreHeaders (Enters list) (part s)) → ArmHeaders (Enters list) (arms_of part xs)
  arm_headers part [] h = tt
  arm_headers part (x ∷ xs) h = (h 0 x.1 refl, arm_headers part xs (λ i s e. h (suc i) s e))

  node_headers : (n r : ℕ) (x : Region) → r < suc n → slice_get list r ≡ Some x → ((i s : ℕ) → slice_get (parts x) i ≡ Some s → AreHeaders (Enters list) (tree_from n list s)) → AreHeaders (Enters list) (node (tree_from n list) r (Some x))
  node_headers n r (region.Leaf k) low e rest = tt
  node_headers n r (region.Then first second target) low e rest = (rest 0 first refl, rest 1 second refl)
  node_headers n r (region.Loop body head) low e rest =
      let less = w.later r 0 body (record { region = region.Loop body head; stands = e; part = refl }) in
      let b = begins n body head r body (omega (arith, low, less)) less e (w.body r body head e) in
      (record { place = r; body = body; head = head; first = b.0; header_is = refl; loop = e; leaf = b.1; targets_are = ap (λ l. l ∷ []) b.2 }, rest 0 body refl)
  node_headers n r (region.Dispatch xs) low e rest = absurd (none r xs e)
  node_headers n r (region.Arms first xs) low e rest =
      let part = tree_from n list in
      let source = w.source r first xs e in
      let less = w.later r 0 first (record { region = region.Arms first xs; stands = e; part = refl }) in
      let one = single_leaf p list w n first source.0 (omega (arith, low, less)) source.1 in
      subst (λ t. AreHeaders (Enters list) (with_arms t (arms_of part xs))) (sym one) (arm_headers part xs (λ i s at. rest (suc i) s at))

  tree_headers : (n r : ℕ) (x : Region) → r < n → slice_get list r ≡ Some x → AreHeaders (Enters list) (tree_from n list r)
  tree_headers zero r x low e = absurd (omega (arith, low))
  tree_headers (suc n) r x low e =
      subst (λ o. AreHeaders (Enters list) (node (tree_from n list) r o)) (sym e) (node_headers n r x low e (λ i s at. (let there = part_there p list w r i s x e at in tree_headers n s there.1.0 (omega (arith, there.0, low)) there.1.1)))

  pub root_headers : AreHeaders (Enters list) (root_of list)
  root_headers =
      let last = w.last in
      let x = get_some list (length list - 1) (omega (arith, last)) in
      tree_headers (suc (length list - 1)) (length list - 1) x.0 (omega arith) x.1
