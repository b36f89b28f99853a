-- The trees of regions by their kinds, and the block that enters a region.
use Rattle.std.proofs.Common.{◌≡◌, ℕ, zero, suc, ◌≤◌, ◌<◌, Bool, true, false, List, [], ◌∷◌, length, Option, Some, None, refl, sym, ap, ◌∙◌, subst, arith}
use Rattle.std.specs.Prelude.{slice_get, Contains, option_map, ◌||◌}
use Rattle.std.specs.List.{list_any}
use Rattle.std.proofs.lemmas.Option.{slice_get-get_or, slice_get-map}
use Rattle.dxil_form.specs.declared.region.Region.{Region}
use Rattle.dxil_form.specs.declared.region.Region.TheVariants as region
use Rattle.dxil_form.specs.declared.program.Program.{Program}
use Rattle.dxil_form.specs.Graphs.{Reached, Path}
use Rattle.dxil_form.specs.Branches.{branches, declared_graph}
use Rattle.dxil_form.specs.Walks.{EnteredBy}
use Rattle.dxil_form.specs.Walks.EnteredBy.{by_block, by_head, by_first, by_source, by_start}
use Rattle.dxil_form.specs.Wired.{IsPart, MayWant, parts}
use Rattle.dxil_form.specs.Wired.MayWant.{leaf_wants, first_wants, second_wants, body_wants, source_wants, arm_wants, choice_wants}
use Rattle.spirv_code.specs.Trees.{Tree, Leaf, Then, Loop, Dispatch, No_arm, entry_of, arms_of, entered_arms, with_arms, node, tree_at}
use Rattle.spirv_code.specs.Further.{passes, wants, picks}
use Rattle.spirv_code.proofs.TreeLaws.{tree_node}
use Rattle.line_runs.proofs.Tests.{none_some, some_inj}
use Rattle.region_runs.proofs.Ways.{Scene, get_below}

-- the region stands at the place of the list
abbrev pub Is : Scene → ℕ → Region → Type 0
Is e r x = slice_get e.list r ≡ Some x

abbrev pub tree : Scene → ℕ → Tree
tree e r = tree_at e.list r

tree_of : (e : Scene) (r : ℕ) (x : Region) → Is e r x → tree e r ≡ node (tree_at e.list) r (Some x)
tree_of e r x is = tree_node e.list e.wired.later r ∙ ap (node (tree_at e.list) r) is

pub leaf_tree : (e : Scene) (r b : ℕ) → Is e r (region.Leaf b) → tree e r ≡ Leaf r b No_arm
leaf_tree e r b is = tree_of e r (region.Leaf b) is

pub then_tree : (e : Scene) (r first second target : ℕ) → Is e r (region.Then first second target) → tree e r ≡ Then r (tree e first) (tree e second) target
then_tree e r first second target is = tree_of e r (region.Then first second target) is

pub loop_tree : (e : Scene) (r body head : ℕ) → Is e r (region.Loop body head) → tree e r ≡ Loop r (tree e body) head
loop_tree e r body head is = tree_of e r (region.Loop body head) is

pub dispatch_tree : (e : Scene) (r : ℕ) (arms : List ℕ) → Is e r (region.Dispatch arms) → tree e r ≡ Dispatch r (entered_arms (tree_at e.list) arms)
dispatch_tree e r arms is = tree_of e r (region.Dispatch arms) is

pub arms_tree : (e : Scene) (r first b : ℕ) (arms : List (ℕ × ℕ)) → Is e r (region.Arms first arms) → Is e first (region.Leaf b) → tree e r ≡ Leaf first b (arms_of (tree_at e.list) arms)
arms_tree e r first b arms is leaf =
    tree_of e r (region.Arms first arms) is ∙ ap (λ t. with_arms t (arms_of (tree_at e.list) arms)) (leaf_tree e first b leaf)

-- ---- where parts stand

pub same_region : (e : Scene) (r : ℕ) (x y : Region) → Is e r x → Is e r y → x ≡ y
same_region e r x y a b = some_inj (sym a ∙ b)

pub part_below : (e : Scene) (r i s : ℕ) (x : Region) → Is e r x → slice_get (parts x) i ≡ Some s → s < r
part_below e r i s x is at = e.wired.later r i s (record { region = x; stands = is; part = at })

pub within_root : (e : Scene) (r : ℕ) (x : Region) → Is e r x → r ≤ e.wired.root
within_root e r x is =
    let below : r < length e.list = get_below e.list r x is in
    let last = e.wired.last in
    omega (arith, below, last)

pub has_index : {A : Type 0} (xs : List A) (x : A) → Contains xs x → (i : ℕ) × (slice_get xs i ≡ Some x)
has_index xs x (i, less, e) = (i, slice_get-get_or xs i x less ∙ ap Some e)

pub arm_part : (e : Scene) (r first k a : ℕ) (arms : List (ℕ × ℕ)) → Is e r (region.Arms first arms) → Contains arms (k, a) → (i : ℕ) × IsPart e.list r i a
arm_part e r first k a arms is member =
    let at = has_index arms (k, a) member in
    (suc at.0, record { region = region.Arms first arms; stands = is; part = slice_get-map (λ (arm : ℕ × ℕ). arm.1) arms at.0 ∙ ap (option_map (λ (arm : ℕ × ℕ). arm.1)) at.1 })

pub arm_below : (e : Scene) (r first k a : ℕ) (arms : List (ℕ × ℕ)) → Is e r (region.Arms first arms) → Contains arms (k, a) → a < r
arm_below e r first k a arms is member =
    let p = arm_part e r first k a arms is member in
    e.wired.later r p.0 a p.1

pub choice_below : (e : Scene) (r a : ℕ) (arms : List ℕ) → Is e r (region.Dispatch arms) → Contains arms a → a < r
choice_below e r a arms is member =
    let at = has_index arms a member in
    part_below e r at.0 a (region.Dispatch arms) is at.1

pub no_dispatch : (e : Scene) (r : ℕ) (arms : List ℕ) → r < e.wired.root → Is e r (region.Dispatch arms) → ⊥
no_dispatch e r arms below is =
    let same = e.wired.dispatch r arms is in
    omega (arith, below, same)

-- ---- which variable there is

pub any_holds : (test : Region → Bool) (xs : List Region) (r : ℕ) (x : Region) → slice_get xs r ≡ Some x → test x ≡ true → list_any test xs ≡ true
any_holds test [] r x at is = absurd (none_some at)
any_holds test (y ∷ xs) zero x at is = ap (λ z. test z || list_any test xs) (some_inj at) ∙ ap (λ b. b || list_any test xs) is
any_holds test (y ∷ xs) (suc r) x at is = ap (λ b. test y || b) (any_holds test xs r x at is) ∙ or_true (test y)
  where
    or_true : (b : Bool) → (b || true) ≡ true
    or_true true = refl
    or_true false = refl

pub passing_wants : (e : Scene) (r : ℕ) (x : Region) → Is e r x → passes x ≡ true → wants e.s.program e.list ≡ true
passing_wants e r x at is =
    ap (λ b. b || picks e.s.program e.list) (any_holds passes e.list r x at is)

-- ---- what may be wanted is a block, and not block 0

pub may_branch : {p : Program} {list : List Region} {r k : ℕ} → MayWant p list r k → (b : ℕ) × (branches p b k ≡ true)
may_branch (leaf_wants {b = b} h t) = (b, t)
may_branch (first_wants h m n) = may_branch m
may_branch (second_wants h m) = may_branch m
may_branch (body_wants h m n) = may_branch m
may_branch (source_wants h m n) = may_branch m
may_branch (arm_wants h i m) = may_branch m
may_branch (choice_wants h i m n) = may_branch m

pub wanted_below : (e : Scene) (r k : ℕ) → MayWant e.s.program e.list r k → k < length e.s.program.blocks
wanted_below e r k may =
    let b = may_branch may in
    (e.sound.targets b.0 k b.1).1

-- a block that is reached is one that the program declares
pub reached_below : (e : Scene) (b : ℕ) → Reached (declared_graph e.s.program) b → b < length e.s.program.blocks
reached_below e b (before, path) = by_path before path
  where
    by_path : (before : List ℕ) → Path (declared_graph e.s.program) 0 before b → b < length e.s.program.blocks
    by_path [] path = let begins = e.sound.begins in omega (arith, begins, path)
    by_path (c ∷ before) path = (e.sound.targets c b path.0).1

pub entered_below : (e : Scene) (n r k : ℕ) → r < n → EnteredBy e.list r k → k < length e.s.program.blocks
entered_below e zero r k below entered = absurd (omega (arith, below))
entered_below e (suc n) r k below (by_block is) = reached_below e k (e.wired.reached r k is)
entered_below e (suc n) r k below (by_head {body = body} is) =
    let less = part_below e r 0 body (region.Loop body k) is refl in
    entered_below e n body k (omega (arith, below, less)) (e.wired.body r body k is)
entered_below e (suc n) r k below (by_first {first = first} {second = second} {target = target} is entered) =
    let less = part_below e r 0 first (region.Then first second target) is refl in
    entered_below e n first k (omega (arith, below, less)) entered
entered_below e (suc n) r k below (by_source {first = first} {arms = arms} is entered) =
    let less = part_below e r 0 first (region.Arms first arms) is refl in
    entered_below e n first k (omega (arith, below, less)) entered
entered_below e (suc n) r k below (by_start is member entered) = e.sound.begins

-- ---- the block that enters a region below the root

pub entry_is : (e : Scene) {r k : ℕ} → r < e.wired.root → EnteredBy e.list r k → entry_of (tree e r) ≡ k
entry_is e {r} {k} below (by_block is) = ap entry_of (leaf_tree e r k is)
entry_is e {r} {k} below (by_head {body = body} is) = ap entry_of (loop_tree e r body k is)
entry_is e {r} {k} below (by_first {first = first} {second = second} {target = target} is entered) =
    let less : first < r = part_below e r 0 first (region.Then first second target) is refl in
    ap entry_of (then_tree e r first second target is) ∙ entry_is e (omega (arith, below, less)) entered
entry_is e {r} {k} below (by_source {first = first} {arms = arms} is entered) =
    let less : first < r = part_below e r 0 first (region.Arms first arms) is refl in
    let source = e.wired.source r first arms is in
    ap entry_of (arms_tree e r first source.0 arms is source.1) ∙ sym (ap entry_of (leaf_tree e first source.0 source.1)) ∙ entry_is e (omega (arith, below, less)) entered
entry_is e {r} below (by_start {arms = arms} is member entered) = absurd (no_dispatch e r arms below is)

-- a region below the root is entered by its entry
entry_of_region : (e : Scene) (r : ℕ) → r < e.wired.root → ((s : ℕ) → s < r → EnteredBy e.list s (entry_of (tree e s))) → (x : Option Region) → slice_get e.list r ≡ x → EnteredBy e.list r (entry_of (tree e r))
entry_of_region e r below all None at =
    let last = e.wired.last in
    let less : r < length e.list = omega (arith, below, last) in
    absurd (none_some (sym at ∙ slice_get-get_or e.list r (region.Leaf 0) less))
entry_of_region e r below all (Some (region.Leaf b)) at =
    subst (λ t. EnteredBy e.list r (entry_of t)) (sym (leaf_tree e r b at)) (by_block at)
entry_of_region e r below all (Some (region.Then first second target)) at =
    let less : first < r = part_below e r 0 first (region.Then first second target) at refl in
    subst (λ t. EnteredBy e.list r (entry_of t)) (sym (then_tree e r first second target at)) (by_first at (all first less))
entry_of_region e r below all (Some (region.Loop body head)) at =
    subst (λ t. EnteredBy e.list r (entry_of t)) (sym (loop_tree e r body head at)) (by_head at)
entry_of_region e r below all (Some (region.Dispatch arms)) at = absurd (no_dispatch e r arms below at)
entry_of_region e r below all (Some (region.Arms first arms)) at =
    let source = e.wired.source r first arms at in
    subst (λ t. EnteredBy e.list r (entry_of t)) (sym (arms_tree e r first source.0 arms at source.1)) (by_source at (by_block source.1))

pub entry_enters : (e : Scene) (n r : ℕ) → r < n → r < e.wired.root → EnteredBy e.list r (entry_of (tree e r))
entry_enters e zero r less below = absurd (omega (arith, less))
entry_enters e (suc n) r less below =
    entry_of_region e r below (λ s under. entry_enters e n s (omega (arith, less, under)) (omega (arith, below, under))) (slice_get e.list r) refl
