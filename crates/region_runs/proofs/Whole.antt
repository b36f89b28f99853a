-- Every region is in its place, and so each block stands behind its site.
use Rattle.std.proofs.Common.{◌≡◌, ◌⊎◌, ℕ, zero, suc, ◌+◌, ◌≤◌, ◌<◌, Bool, true, false, ◌||◌, List, [], ◌∷◌, length, map, Some, refl, sym, ap, ◌∙◌, subst, arith, inl, inr, ⊎_elim}
use Rattle.std.specs.Prelude.{slice_get, Contains, nat_lt}
use Rattle.std.specs.List.{list_any}
use Rattle.dxil_form.specs.declared.block.Block.{Block}
use Rattle.dxil_form.specs.declared.region.Region.{Region}
use Rattle.dxil_form.specs.declared.region.Region.TheVariants as region
use Rattle.dxil_form.specs.Branches.{has, targets, branches}
use Rattle.dxil_form.specs.Sound.{cases_in}
use Rattle.dxil_form.specs.Wired.{IsPart, parts}
use Rattle.spv_form.specs.declared.module.Inst.{Inst}
use Rattle.spirv_code.specs.declared.way.Way.{Way}
use Rattle.spirv_code.specs.declared.way.Way.TheVariants.{Ends, Goes, Chooses, Splits}
use Rattle.spirv_code.specs.Plans.{Context, site_label, chosen_label}
use Rattle.spirv_code.specs.Leaves.{most_pairs, next_blocks, way_of, block_code, block_env}
use Rattle.spirv_code.specs.Further.{is_split, many_cases, passes, wants, picks}
use Rattle.spirv_code.specs.Trees.{Arms, arm_label, arms_of, tree_at}
use Rattle.spirv_code.specs.Rows.{block_at, leaf_code, one_arm, met_arms, wanted_arms}
use Rattle.line_runs.specs.Held.{Has}
use Rattle.line_runs.specs.Exits.{LeafStands}
use Rattle.line_runs.proofs.Tests.{none_some, some_inj}
use Rattle.line_runs.proofs.Pieces.{has_front}
use Rattle.region_runs.specs.Standing.{RegionsStand, RegionsRun}
use Rattle.region_runs.proofs.Ways.{Scene, comes_arrives}
use Rattle.region_runs.proofs.Members.{pair_of}
use Rattle.region_runs.proofs.Codes.{followed_at, followed_length}
use Rattle.region_runs.proofs.Entries.{Is, any_holds, same_region, within_root, choice_below, reached_below, entry_enters}
use Rattle.region_runs.proofs.Descent.{descend}
use Rattle.region_runs.proofs.Placed.{After, Placed, root_placed}
use Rattle.region_runs.proofs.Thens.{then_first, then_second}
use Rattle.region_runs.proofs.Loops.{loop_body}
use Rattle.region_runs.proofs.Dispatches.{dispatch_arm}
use Rattle.region_runs.proofs.Targets.{branch_target, splits_many}
use Rattle.region_runs.proofs.Leaves.{LeafIn, leaf_alone, leaf_with, Exits, exit_of, left_ends, left_goes}
use Rattle.region_runs.proofs.Choosing.{left_chooses}
use Rattle.region_runs.proofs.Splitting.{left_splits}

-- ---- a leaf

-- the block that the code is made of
block_there : (c : Context) (b : ℕ) (block : Block) → slice_get c.blocks b ≡ Some block → block_at c b ≡ block
block_there c b block at = by_list c.blocks b at
  where
    by_list : (bs : List Block) (b : ℕ) → slice_get bs b ≡ Some block → block_at (record c { blocks = bs }) b ≡ block
    by_list [] b at = absurd (none_some at)
    by_list (x ∷ bs) zero at = some_inj at
    by_list (x ∷ bs) (suc b) at = by_list bs b at

splitting : (e : Scene) (q b : ℕ) (block : Block) → Is e q (region.Leaf b) → slice_get e.s.program.blocks b ≡ Some block → nat_lt most_pairs (cases_in block.term) ≡ true → picks e.s.program e.list ≡ true
splitting e q b block is at many =
    any_holds (is_split e.s.program) e.list q (region.Leaf b) is (ap many_cases at ∙ many)

picking_wants : (e : Scene) → picks e.s.program e.list ≡ true → wants e.s.program e.list ≡ true
picking_wants e is = ap (λ b. list_any passes e.list || b) is ∙ or_true (list_any passes e.list)
  where
    or_true : (b : Bool) → (b || true) ≡ true
    or_true true = refl
    or_true false = refl

module _ (e : Scene) (r q b : ℕ) (xs : List (ℕ × ℕ)) (head place : ℕ) (l : LeafIn e r q b xs head place) (block : Block) (at : slice_get e.s.program.blocks b ≡ Some block) where
  abbrev trees : Arms
  trees = arms_of (tree_at e.list) xs

  abbrev code_of : Block → List Inst
  code_of x = leaf_code e.s.context place (chosen_label q) b x (arm_label trees) (λ k p. one_arm e.s.context k p trees) (λ p. met_arms e.s.context (chosen_label q) p trees) (λ p. wanted_arms e.s.context p trees)

  abbrev p : ℕ
  p = place + length (block_code e.s.context place b block)

  same_block : block_at e.s.context b ≡ block
  same_block = block_there e.s.context b block (ap (λ bs. slice_get bs b) e.has.blocks ∙ at)

  whole : Has e.s.made place (code_of block)
  whole = subst (λ x. Has e.s.made place (code_of x)) same_block l.stands.code

  behind : After e r (place + length (code_of block))
  behind = subst (λ x. After e r (place + length (code_of x))) same_block l.after

  reads : (k : ℕ) → branches e.s.program b k ≡ has k (targets block.term)
  reads k = branch_target e.s.program b k block at

  by_way : (way : Way) → way_of block.term ≡ way → Has e.s.made p (exit_of e q trees block.term (block_env e.s.context place block) way p) → After e r (p + length (exit_of e q trees block.term (block_env e.s.context place block) way p)) → Exits e xs block.term (block_env e.s.context place block) p way
  by_way Ends way has after =
      left_ends e r q b xs head place l block.term (block_env e.s.context place block) p reads way has after
  by_way (Goes k) way has after =
      left_goes e r q b xs head place l block.term (block_env e.s.context place block) p reads k way has after
  by_way Chooses way has after =
      left_chooses e r q b xs head place l block.term (block_env e.s.context place block) p reads has after
  by_way Splits way has after =
      let many = splits_many (next_blocks block.term) (cases_in block.term) way in
      let picked = splitting e q b block l.leaf at many in
      let fits = e.sound.ends b block.term (record { block = block; stands = at; ends = refl }) in
      left_splits e r q b xs head place l block.term (block_env e.s.context place block) p reads (picking_wants e picked) picked many fits has after

  exits : Exits e xs block.term (block_env e.s.context place block) p (way_of block.term)
  exits =
      let rest = exit_of e q trees block.term (block_env e.s.context place block) (way_of block.term) in
      by_way (way_of block.term) refl (followed_at e place p (block_code e.s.context place b block) rest refl whole) (subst (After e r) (followed_length place p (block_code e.s.context place b block) rest refl) behind)

  pub leaf_stands : LeafStands e.s e.i b block head
  leaf_stands =
      record {
        is_site = record { label = (site_label q, l.stands.label); begins = e.has.sites q b head l.leaf l.stands.label };
        start = place;
        ahead = l.stands.ahead;
        between = l.stands.between;
        code = has_front e.s.made place (block_code e.s.context place b block) (exit_of e q trees block.term (block_env e.s.context place block) (way_of block.term) p) whole;
        leaves = exits.leaves;
      }

  pub leaf_arm : (k a : ℕ) → Contains xs (k, a) → (h : ℕ) × (n : ℕ) × Placed e a h n
  leaf_arm k a member = exits.arms k a member

-- ---- all regions, from the root down

pub record InPlace (e : Scene) (r : ℕ) : Type 0 where
  pub head : ℕ
  pub place : ℕ
  pub placed : Placed e r head place

in_place : (e : Scene) (r : ℕ) → ((h : ℕ) × (n : ℕ) × Placed e r h n) → InPlace e r
in_place e r x = record { head = x.0; place = x.1; placed = x.2 }

-- the region is the leaf of another one, with arms
pub record IsSource (e : Scene) (r : ℕ) : Type 0 where
  pub over : ℕ
  pub arms : List (ℕ × ℕ)
  pub is : Is e over (region.Arms r arms)
  pub there : InPlace e over

get_some : {A : Type 0} (xs : List A) (n : ℕ) → n < length xs → (x : A) × (slice_get xs n ≡ Some x)
get_some [] n less = absurd (omega (arith, less))
get_some (x ∷ xs) zero less = (x, refl)
get_some (x ∷ xs) (suc n) less = get_some xs n (omega (arith, less))

contains_at : {A : Type 0} (xs : List A) (i : ℕ) (x : A) → slice_get xs i ≡ Some x → Contains xs x
contains_at [] i x at = absurd (none_some at)
contains_at (y ∷ xs) zero x at = (0, omega arith, some_inj at)
contains_at (y ∷ xs) (suc i) x at =
    let (j, less, same) = contains_at xs i x at in
    (suc j, omega (arith, less), same)

-- an arm at a place of the arms
arm_at : (xs : List (ℕ × ℕ)) (i a : ℕ) → slice_get (map (λ arm. arm.1) xs) i ≡ Some a → (k : ℕ) × Contains xs (pair_of k a)
arm_at [] i a at = absurd (none_some at)
arm_at (x ∷ xs) zero a at = (x.0, (0, omega arith, ap (pair_of x.0) (some_inj at)))
arm_at (x ∷ xs) (suc i) a at =
    let (k, member) = arm_at xs i a at in
    let (j, less, same) = member in
    (k, (suc j, omega (arith, less), same))

-- the source of arms that are in their place
source_in : (e : Scene) (x first : ℕ) (xs : List (ℕ × ℕ)) (b : ℕ) (is : Is e x (region.Arms first xs)) → Is e first (region.Leaf b) → (there : InPlace e x) → LeafIn e x first b xs there.head there.place
source_in e x first xs b is leaf there =
    let source = e.wired.source x first xs is in
    let same : source.0 ≡ b = ap (block_of b) (same_region e first (region.Leaf source.0) (region.Leaf b) source.1 leaf) in
    leaf_with e x first b there.head there.place xs is leaf (subst (λ n. (k a : ℕ) → Contains xs (k, a) → branches e.s.program n k ≡ true) same source.2) there.placed
  where
    block_of : ℕ → Region → ℕ
    block_of default (region.Leaf b) = b
    block_of default _ = default

-- a part of a region that is in its place
part_in : (e : Scene) (q i r : ℕ) (x : Region) → Is e q x → slice_get (parts x) i ≡ Some r → InPlace e q → InPlace e r ⊎ IsSource e r
part_in e q i r (region.Leaf b) is at there = absurd (none_some at)
part_in e q zero r (region.Then first second target) is at there =
    inl (subst (InPlace e) (some_inj at) (record { head = there.head; place = there.place; placed = then_first e q first second target there.head there.place is there.placed }))
part_in e q (suc zero) r (region.Then first second target) is at there =
    inl (subst (InPlace e) (some_inj at) (record { head = _; place = _; placed = then_second e q first second target there.head there.place is there.placed }))
part_in e q (suc (suc i)) r (region.Then first second target) is at there = absurd (none_some at)
part_in e q zero r (region.Loop body head) is at there =
    inl (subst (InPlace e) (some_inj at) (record { head = _; place = _; placed = loop_body e q body head there.head there.place is there.placed }))
part_in e q (suc i) r (region.Loop body head) is at there = absurd (none_some at)
part_in e q i r (region.Dispatch arms) is at there =
    let member = contains_at arms i r at in
    let less = choice_below e q r arms is member in
    let in_root = within_root e q (region.Dispatch arms) is in
    let enters = entry_enters e (suc r) r (omega arith) (omega (arith, less, in_root)) in
    inl (in_place e r (dispatch_arm e q there.head there.place arms is there.placed r _ member enters))
part_in e q zero r (region.Arms first xs) is at there =
    let same : first ≡ r = some_inj at in
    inr (record { over = q; arms = xs; is = subst (λ n. Is e q (region.Arms n xs)) same is; there = there })
part_in e q (suc i) r (region.Arms first xs) is at there =
    let arm = arm_at xs i r at in
    let source = e.wired.source q first xs is in
    let below = reached_below e source.0 (e.wired.reached first source.0 source.1) in
    let block = get_some e.s.program.blocks source.0 below in
    inl (in_place e r (leaf_arm e q first source.0 xs there.head there.place (source_in e q first xs source.0 is source.1 there) block.0 block.1 arm.0 r arm.1))

-- a source is a leaf, and has no parts
no_part : (e : Scene) (q i r : ℕ) → IsSource e q → IsPart e.list q i r → ⊥
no_part e q i r source part =
    let leaf = e.wired.source source.over q source.arms source.is in
    let same = same_region e q part.region (region.Leaf leaf.0) part.stands leaf.1 in
    none_some (ap (λ x. slice_get (parts x) i) (sym same) ∙ part.part)

-- a part of a region that was found
found_part : (e : Scene) (q i r : ℕ) → IsPart e.list q i r → InPlace e q ⊎ IsSource e q → InPlace e r ⊎ IsSource e r
found_part e q i r p (inl there) = part_in e q i r p.region p.stands p.part there
found_part e q i r p (inr source) = absurd (no_part e q i r source p)

order : (a b : ℕ) → a ≤ b → (a < b) ⊎ (b ≡ a)
order a b le = grind arith

found : (e : Scene) (n r : ℕ) → e.wired.root < r + n → r ≤ e.wired.root → InPlace e r ⊎ IsSource e r
found e zero r far within = absurd (omega (arith, far, within))
found e (suc n) r far within =
    ⊎_elim (λ less. below less (λ q after_r in_root. found e n q (omega (arith, far, after_r)) in_root)) (λ same. inl (subst (InPlace e) same (record { head = e.head; place = e.place; placed = root_placed e }))) (order r e.wired.root within)
  where
    below : r < e.wired.root → ((q : ℕ) → r < q → q ≤ e.wired.root → InPlace e q ⊎ IsSource e q) → InPlace e r ⊎ IsSource e r
    below less all =
        let named = e.wired.named r less in
        let q : ℕ = named.0 in
        let p = named.2 in
        found_part e q named.1 r p (all q (e.wired.later q named.1 r p) (within_root e q p.region p.stands))

-- ---- the theorem

leaf_found : (e : Scene) (r b : ℕ) (block : Block) → Is e r (region.Leaf b) → slice_get e.s.program.blocks b ≡ Some block → InPlace e r ⊎ IsSource e r → (site : ℕ) × LeafStands e.s e.i b block site
leaf_found e r b block is at (inl there) =
    (there.head, leaf_stands e r r b [] there.head there.place (leaf_alone e r b there.head there.place is there.placed) block at)
leaf_found e r b block is at (inr source) =
    let there = source.there in
    (there.head, leaf_stands e source.over r b source.arms there.head there.place (source_in e source.over r source.arms b source.is is there) block at)

stand : (e : Scene) → RegionsStand e.s e.list e.head e.i
stand e =
    record {
      leaves = λ b block reached at. (let leaf = e.wired.leaf b reached in leaf_found e leaf.0 b block leaf.1 at (found e (suc e.wired.root) leaf.0 (omega arith) (within_root e leaf.0 (region.Leaf b) leaf.1)));
      begins = λ t at none want. comes_arrives e t 0 (descend e (suc e.wired.root) e.wired.root 0 e.head e.place t (omega arith) e.wired.begins (root_placed e).stands at none (λ arms is. want));
    }

pub regions_stand : RegionsRun
regions_stand s d sound list wired head place has i =
    stand (record {
      s = s;
      declares = d;
      sound = sound;
      list = list;
      wired = wired;
      head = head;
      place = place;
      has = has;
      i = i;
    })
