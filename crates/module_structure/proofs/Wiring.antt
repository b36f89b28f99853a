-- The tree of wired regions has at each leaf the arms to which its terminator goes.
use Rattle.std.proofs.Common.{◌≡◌, ℕ, zero, suc, ◌-◌, ◌<◌, Bool, true, false, List, [], ◌∷◌, length, Option, Some, None, refl, sym, ap, ◌∙◌, subst, arith}
use Rattle.std.specs.Prelude.{slice_get, Contains, nat_eq, option_map, if◌then◌else◌}
use Rattle.std.proofs.lemmas.Option.{slice_get-map, slice_get_within, get_or_from_slice_get}
use Rattle.dxil_form.specs.declared.block.Block.{Block}
use Rattle.dxil_form.specs.declared.block.Term.TheVariants.{Unreachable}
use Rattle.dxil_form.specs.declared.program.Program.{Program}
use Rattle.dxil_form.specs.declared.region.Region.{Region}
use Rattle.dxil_form.specs.declared.region.Region.TheVariants as region
use Rattle.dxil_form.specs.Branches.{has, targets, targets_in}
use Rattle.dxil_form.specs.Walks.{EnteredBy}
use Rattle.dxil_form.specs.Wired.{parts, IsPart, Wired}
use Rattle.spirv_code.specs.Plans.{Plan, Context, context_of}
use Rattle.spirv_code.specs.Trees.{Tree, Leaf, No_arm, label_at, arm_label, arms_of, entered_arms, with_arms, node, tree_from, root_of}
use Rattle.spirv_code.specs.Rows.{block_at}
use Rattle.line_runs.proofs.Tests.{nat_eq-eq, nat_eq-refl}
use Rattle.frame_facts.proofs.Searches.{get_below}
use Rattle.module_structure.proofs.Trees.{Reaches, Fits, FitsArms}
use Rattle.module_structure.proofs.Ancestors.{one_part}

-- ---- arms

reaches : (part : ℕ → Tree) (ts : List ℕ) (labels : ℕ → Option ℕ) (xs : List (ℕ × ℕ)) → ((i : ℕ) (x : ℕ × ℕ) → slice_get xs i ≡ Some x → (has x.0 ts ≡ true) × (labels x.0 ≡ Some (label_at (part x.1)))) → Reaches ts labels (arms_of part xs)
reaches part ts labels [] h = tt
reaches part ts labels (x ∷ xs) h =
    let one = h 0 x refl in
    (one.0, one.1, reaches part ts labels xs (λ i y e. h (suc i) y e))

arm_told : (part : ℕ → Tree) (xs : List (ℕ × ℕ)) (i : ℕ) (x : ℕ × ℕ) → slice_get xs i ≡ Some x → ((j : ℕ) (y : ℕ × ℕ) → slice_get xs j ≡ Some y → y.0 ≡ x.0 → j ≡ i) → arm_label (arms_of part xs) x.0 ≡ Some (label_at (part x.1))
arm_told part [] i x e only = absurd (cc)
arm_told part (y ∷ xs) zero x e only =
    let same : y ≡ x = inj e in
    ap (λ (z : ℕ × ℕ). if nat_eq x.0 z.0 then Some (label_at (part z.1)) else arm_label (arms_of part xs) x.0) same ∙ ap (λ (b : Bool). if b then Some (label_at (part x.1)) else arm_label (arms_of part xs) x.0) (nat_eq-refl x.0)
  where
    inj : {A : Type 0} {a b : A} → Some a ≡ Some b → a ≡ b
    inj e = cc
arm_told part (y ∷ xs) (suc i) x e only =
    by_test (nat_eq x.0 y.0) refl (arm_told part xs i x e (λ j z f same. (let is = only (suc j) z f same in omega (arith, is))))
  where
    by_test : (b : Bool) → nat_eq x.0 y.0 ≡ b → arm_label (arms_of part xs) x.0 ≡ Some (label_at (part x.1)) → (if b then Some (label_at (part y.1)) else arm_label (arms_of part xs) x.0) ≡ Some (label_at (part x.1))
    by_test true same rest =
        let is = only 0 y refl (sym (nat_eq-eq x.0 y.0 same)) in
        absurd (omega (arith, is))
    by_test false same rest = rest

-- ---- the block of a leaf

abbrev block_or : Option Block → Block
block_or None = record { phis = []; instrs = []; term = Unreachable }
block_or (Some block) = block

targets_same : (k : ℕ) (o : Option Block) → has k (targets (block_or o).term) ≡ has k (targets_in o)
targets_same k None = refl
targets_same k (Some block) = refl

get_some : {A : Type 0} (xs : List A) (k : ℕ) → k < length xs → (x : A) × (slice_get xs k ≡ Some x)
get_some [] k h = absurd (omega (arith, h))
get_some (x ∷ xs) zero h = (x, refl)
get_some (x ∷ xs) (suc k) h = get_some xs k (omega (arith, h))

member : {A : Type 0} (xs : List A) (i : ℕ) (x : A) → slice_get xs i ≡ Some x → Contains xs x
member xs i x e = (i, slice_get_within xs i x e, get_or_from_slice_get xs i x x e)

module _ (p : Program) (list : List Region) (plan : Plan) (w : Wired p list) where
  abbrev c : Context
  c = context_of p plan

  single_leaf : (n r k : ℕ) → r < n → slice_get list r ≡ Some (region.Leaf k) → tree_from n list r ≡ Leaf r k No_arm
  single_leaf zero r k low e = absurd (omega (arith, low))
  single_leaf (suc n) r k low e = ap (node (tree_from n list) r) e

  -- the parts of the region are such
  abbrev PartsFit : (ℕ → Tree) → Region → Type 0
  PartsFit part x = (i s : ℕ) → slice_get (parts x) i ≡ Some s → Fits c (part s)

  -- different arms are for different blocks
  module _ (r first : ℕ) (xs : List (ℕ × ℕ)) (e : slice_get list r ≡ Some (region.Arms first xs)) where
    abbrev arm_part : (i : ℕ) (x : ℕ × ℕ) → slice_get xs i ≡ Some x → IsPart list r (suc i) x.1
    arm_part i x at =
        record { region = region.Arms first xs; stands = e; part = slice_get-map (λ (arm : ℕ × ℕ). arm.1) xs i ∙ ap (option_map (λ (arm : ℕ × ℕ). arm.1)) at }

    pub apart : (i j : ℕ) (x y : ℕ × ℕ) → slice_get xs i ≡ Some x → slice_get xs j ≡ Some y → y.0 ≡ x.0 → j ≡ i
    apart i j x y ex ey same =
        let px = arm_part i x ex in
        let py = arm_part j y ey in
        let enters_x = w.arm r first x.0 x.1 xs e (member xs i x ex) in
        let enters_y = w.arm r first y.0 y.1 xs e (member xs j y ey) in
        let one = one_part p list w r y.1 (suc j) x.1 (suc i) x.0 py px (subst (λ k. EnteredBy list y.1 k) same enters_y) enters_x in
        let both = w.once r r (suc j) (suc i) x.1 (subst (λ s. IsPart list r (suc j) s) one py) px in
        let is = both.1 in
        omega (arith, is)

    source_fits : (n : ℕ) → r < suc n → PartsFit (tree_from n list) (region.Arms first xs) → Fits c (with_arms (tree_from n list first) (arms_of (tree_from n list) xs))
    source_fits n low rest =
        let part = tree_from n list in
        let source = w.source r first xs e in
        let less = w.later r 0 first (record { region = region.Arms first xs; stands = e; part = refl }) in
        let one = single_leaf n first source.0 (omega (arith, low, less)) source.1 in
        let labels = arm_label (arms_of part xs) in
        let reach = reaches part (targets (block_at c source.0).term) labels xs (λ i x at. (targets_same x.0 (slice_get p.blocks source.0) ∙ source.2 x.0 x.1 (member xs i x at), arm_told part xs i x at (λ j y f same. apart i j x y at f same))) in
        subst (λ t. Fits c (with_arms t (arms_of part xs))) (sym one) (reach, arms_fit part xs (λ i x at. rest (suc i) x.1 (arm_part i x at).part))
      where
        arms_fit : (part : ℕ → Tree) (ys : List (ℕ × ℕ)) → ((i : ℕ) (x : ℕ × ℕ) → slice_get ys i ≡ Some x → Fits c (part x.1)) → FitsArms c (arms_of part ys)
        arms_fit part [] h = tt
        arms_fit part (x ∷ ys) h = (h 0 x refl, arms_fit part ys (λ i y f. h (suc i) y f))

  entered_fit : (part : ℕ → Tree) (xs : List ℕ) → ((i a : ℕ) → slice_get xs i ≡ Some a → Fits c (part a)) → FitsArms c (entered_arms part xs)
  entered_fit part [] h = tt
  entered_fit part (a ∷ xs) h = (h 0 a refl, entered_fit part xs (λ i b f. h (suc i) b f))

  node_fits : (n r : ℕ) (x : Region) → r < suc n → slice_get list r ≡ Some x → PartsFit (tree_from n list) x → Fits c (node (tree_from n list) r (Some x))
  node_fits n r (region.Leaf k) low e rest = (tt, tt)
  node_fits n r (region.Then first second target) low e rest = (rest 0 first refl, rest 1 second refl)
  node_fits n r (region.Loop body head) low e rest = rest 0 body refl
  node_fits n r (region.Dispatch xs) low e rest = entered_fit (tree_from n list) xs rest
  node_fits n r (region.Arms first xs) low e rest = source_fits r first xs e n low rest

  tree_fits : (n r : ℕ) (x : Region) → r < n → slice_get list r ≡ Some x → Fits c (tree_from n list r)
  tree_fits zero r x low e = absurd (omega (arith, low))
  tree_fits (suc n) r x low e =
      subst (λ o. Fits c (node (tree_from n list) r o)) (sym e) (node_fits n r x low e (λ i s at. (let less = w.later r i s (record { region = x; stands = e; part = at }) in let here = get_below list r x e in let y = get_some list s (omega (arith, less, here)) in tree_fits n s y.0 (omega (arith, less, low)) y.1)))

  pub root_fits : Fits c (root_of list)
  root_fits =
      let last = w.last in
      let x = get_some list (length list - 1) (omega (arith, last)) in
      tree_fits (suc (length list - 1)) (length list - 1) x.0 (omega arith) x.1
