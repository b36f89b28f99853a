-- A leaf that one selection leaves.
use Rattle.std.proofs.Common.{◌≡◌, ◌⊎◌, ℕ, suc, ◌+◌, ◌*◌, ◌≤◌, Bool, true, false, List, [], ◌∷◌, ◌++◌, length, length-append, Option, Some, refl, sym, ap, ◌∙◌, subst, arith, inl, inr}
use Rattle.std.specs.Prelude.{Contains, nat_eq, if◌then◌else◌}
use Rattle.dxil_form.specs.declared.block.Term.{Term}
use Rattle.dxil_form.specs.declared.block.Term.TheVariants.{If, Switch}
use Rattle.dxil_form.specs.Branches.{has, targets, branches}
use Rattle.spv_form.specs.declared.module.Inst.{Inst}
use Rattle.dxil_meaning.specs.Source.{case_of}
use Rattle.spirv_meaning.specs.Names.{begun_at}
use Rattle.spirv_meaning.specs.Target as spv
use Rattle.spirv_meaning.specs.Target.{Value, Word, Truth, State, value_of, next}
use Rattle.spirv_code.specs.declared.way.Way.TheVariants.{Chooses}
use Rattle.spirv_code.specs.Plans.{result, chosen_label}
use Rattle.spirv_code.specs.Reads.{Env}
use Rattle.spirv_code.specs.Leaves.{next_blocks, followed}
use Rattle.spirv_code.specs.Exits.{label_inst, tested, tested_code, tested_id, loose, place_in, way_label, setter_label, pairs, choose_head, choose_code, setters_code}
use Rattle.spirv_code.specs.Trees.{Arms, label_at, arm_label, arms_of, tree_at}
use Rattle.spirv_code.specs.Rows.{met_arms}
use Rattle.line_runs.specs.Held.{Has}
use Rattle.line_runs.specs.Exits.{goes_to, ArrivesAt}
use Rattle.line_runs.proofs.Tests.{none_some, some_inj}
use Rattle.line_runs.proofs.Pieces.{has_front, has_back}
use Rattle.region_runs.proofs.Ways.{Scene, Label, Forth, forth_one, forth_on, then_comes, comes_arrives, then_arrives}
use Rattle.region_runs.proofs.Steps.{at_label, pass, pass_label, fork, switch, jump_past}
use Rattle.region_runs.proofs.Wanting.{put, put_holds, put_keeps}
use Rattle.region_runs.proofs.Members.{Taken, Untaken, taken, in_arms, arms_in}
use Rattle.region_runs.proofs.Codes.{Stands, followed_at, followed_length, ArmIn, met_arm}
use Rattle.region_runs.proofs.Entries.{tree, no_dispatch}
use Rattle.region_runs.proofs.Descent.{descend}
use Rattle.region_runs.proofs.Placed.{span, After, after_by}
use Rattle.region_runs.proofs.Targets.{has_different, goes_target, loose_has, way_armed, way_loose}
use Rattle.region_runs.proofs.Setters.{setter_in, setter_runs}
use Rattle.region_runs.proofs.Leaves.{LeafIn, Exits, exit_of}

-- ---- the branch of the selection

pub pairs_case : (to : ℕ → ℕ) (n default : ℕ) (cases : List (ℕ × ℕ)) → spv.case_of n (pairs to cases) (to default) ≡ to (case_of n cases default)
pairs_case to n default [] = refl
pairs_case to n default (c ∷ cases) = by_test (nat_eq c.0 n) (pairs_case to n default cases)
  where
    by_test : (b : Bool) → spv.case_of n (pairs to cases) (to default) ≡ to (case_of n cases default) → (if b then to c.1 else spv.case_of n (pairs to cases) (to default)) ≡ to (if b then c.1 else case_of n cases default)
    by_test true e = refl
    by_test false e = e

if_to : (to : ℕ → ℕ) (b : Bool) (x y : ℕ) → (if b then to x else to y) ≡ to (if b then x else y)
if_to to true x y = refl
if_to to false x y = refl

-- two instructions, of which the second one goes to the way of the block that is chosen
pub record Branch (e : Scene) (p1 k size : ℕ) (to : ℕ → ℕ) (t : State) : Type 0 where
  pub two : size ≡ 2
  pub goes : (d : ℕ) → p1 + 2 ≤ d → Label e d (to k) → Forth e t (at_label d t)

pub chosen_branch : (e : Scene) (meet id first p1 : ℕ) (labels : ℕ → Option ℕ) (ks : List ℕ) (term : Term) (t : State) (v : Value) (k : ℕ) → Has e.s.made p1 (choose_head meet id term labels first ks) → t.at ≡ p1 → value_of e.s.made t id ≡ Some v → goes_to term v ≡ Some k → Branch e p1 k (length (choose_head meet id term labels first ks)) (way_label labels first ks) t
chosen_branch e meet id first p1 labels ks (If cond there other) t (Truth b) k has at is goes =
    let to : ℕ → ℕ = way_label labels first ks in
    let at1 : suc t.at ≡ p1 + 1 = omega (arith, at) in
    let one = forth_one e t (next t) (omega arith) (pass e p1 247 (meet ∷ 0 ∷ []) t at has.0 refl) in
    let same = ap to (some_inj (sym goes)) ∙ sym (if_to to b there other) in
    record {
      two = refl;
      goes = λ d ahead label. forth_on e t (next t) (at_label d t) one (forth_one e (next t) (at_label d t) (omega (arith, at, ahead)) (fork e (p1 + 1) id (to there) (to other) d (next t) b at1 has.1.0 is (subst (λ l. Label e d l) same label)));
    }
chosen_branch e meet id first p1 labels ks (Switch value default cases) t (Word n) k has at is goes =
    let to : ℕ → ℕ = way_label labels first ks in
    let at1 : suc t.at ≡ p1 + 1 = omega (arith, at) in
    let one = forth_one e t (next t) (omega arith) (pass e p1 247 (meet ∷ 0 ∷ []) t at has.0 refl) in
    let same = ap to (some_inj (sym goes)) ∙ sym (pairs_case to n default cases) in
    record {
      two = refl;
      goes = λ d ahead label. forth_on e t (next t) (at_label d t) one (forth_one e (next t) (at_label d t) (omega (arith, at, ahead)) (switch e (p1 + 1) id (to default) d (pairs to cases) (next t) n at1 has.1.0 is (subst (λ l. Label e d l) same label)));
    }
chosen_branch e meet id first p1 labels ks _ t _ k has at is goes = absurd (none_some goes)

-- ---- the pieces

module _ (e : Scene) (r q b : ℕ) (xs : List (ℕ × ℕ)) (head place : ℕ) (l : LeafIn e r q b xs head place) (term : Term) (env : Env) (p : ℕ) (reads : (k : ℕ) → branches e.s.program b k ≡ has k (targets term)) where
  abbrev trees : Arms
  trees = arms_of (tree_at e.list) xs

  abbrev meet : ℕ
  meet = chosen_label q

  abbrev id : ℕ
  id = tested_id e.s.context env p (tested term)

  abbrev p1 : ℕ
  p1 = p + length (tested_code e.s.context env p (tested term))

  abbrev ks : List ℕ
  ks = loose (arm_label trees) (next_blocks term)

  abbrev first : ℕ
  first = result e.s.context (p1 + 2)

  abbrev front : List Inst
  front = choose_head meet id term (arm_label trees) first ks

  abbrev p2 : ℕ
  p2 = p1 + length front

  abbrev p3 : ℕ
  p3 = p2 + length (setters_code e.s.context p2 meet ks)

  abbrev m : ℕ
  m = p3 + length (met_arms e.s.context meet p3 trees)

  record Pieces : Type 0 where
    pub tests : Has e.s.made p (tested_code e.s.context env p (tested term))
    pub front_code : Has e.s.made p1 front
    pub setters : Has e.s.made p2 (setters_code e.s.context p2 meet ks)
    pub arms_code : Has e.s.made p3 (met_arms e.s.context meet p3 trees)
    pub meets : Label e m meet
    pub ends : p + length (exit_of e q trees term env Chooses p) ≡ m + 1

  pieces : Has e.s.made p (exit_of e q trees term env Chooses p) → Pieces
  pieces has =
      let c = e.s.context in
      let test : List Inst = tested_code c env p (tested term) in
      let rest2 : ℕ → List Inst = λ n. met_arms c meet n trees ++ (label_inst meet ∷ []) in
      let rest1 : ℕ → List Inst = λ n. followed n (choose_code c n meet id term (arm_label trees) ks) rest2 in
      let choose : List Inst = choose_code c p1 meet id term (arm_label trees) ks in
      let set : ℕ → List Inst = λ n. setters_code c n meet ks in
      let back1 = followed_at e p p1 test rest1 refl has in
      let chosen = has_front e.s.made p1 choose (rest2 (p1 + length choose)) back1 in
      let p3_is : p1 + length choose ≡ p3 = followed_length p1 p2 front set refl in
      let back2 = followed_at e p1 p3 choose rest2 p3_is back1 in
      let met : List Inst = met_arms c meet p3 trees in
      let long1 = followed_length p p1 test rest1 refl in
      let long2 = followed_length p1 p3 choose rest2 p3_is in
      let long3 = length-append met (label_inst meet ∷ []) in
      record {
        tests = has_front e.s.made p test (rest1 p1) has;
        front_code = has_front e.s.made p1 front (set p2) chosen;
        setters = followed_at e p1 p2 front set refl chosen;
        arms_code = has_front e.s.made p3 met (label_inst meet ∷ []) back2;
        meets = (has_back e.s.made p3 met (label_inst meet ∷ []) back2).0;
        ends = omega (arith, long1, long2, long3);
      }

  module _ (parts : Pieces) (after : After e r (m + 1)) where
    no_start : begun_at e.s.made m ≡ []
    no_start = e.has.others q 5 m (omega arith) (omega arith) parts.meets

    to_arm : (k : ℕ) → Taken trees k → p1 + 2 ≤ p3 → (t : State) → ((d : ℕ) → p1 + 2 ≤ d → Label e d (way_label (arm_label trees) first ks k) → Forth e t (at_label d t)) → ArrivesAt e.s e.i t k
    to_arm k x early t go =
        let arm = in_arms (tree_at e.list) xs k x.tree x.among in
        let code = met_arm e meet trees p3 k x.tree x.among parts.arms_code in
        let behind = code.behind in
        let label = subst (λ n. Label e code.head n) (sym (way_armed (arm_label trees) first ks k (label_at x.tree) x.label)) code.stands.label in
        let goes = go code.head (omega (arith, behind, early)) label in
        let stands = subst (λ y. Stands e y code.head (code.head + 1)) (sym arm.2) code.stands in
        let comes = descend e (suc arm.0) arm.0 k code.head (code.head + 1) (at_label code.head t) (omega arith) (l.enters k arm.0 arm.1) stands refl (λ id. refl) (λ arms d. absurd (no_dispatch e arm.0 arms (l.below k arm.0 arm.1) d)) in
        comes_arrives e t k (then_comes e t (at_label code.head t) k goes (λ id. refl) comes)

    to_setter : (k : ℕ) → Untaken trees k → has k (targets term) ≡ true → p2 ≡ p1 + 2 → (t : State) → ((d : ℕ) → p1 + 2 ≤ d → Label e d (way_label (arm_label trees) first ks k) → Forth e t (at_label d t)) → ArrivesAt e.s e.i t k
    to_setter k u there two t go =
        let branch = reads k ∙ there in
        let may = l.out k branch (λ a member. u.none (tree e a) (arms_in (tree_at e.list) xs k a member)) in
        let onward = after.onward k may in
        let want = e.has.want onward.is_wanted in
        let uses = e.has.next_numbers onward.is_wanted q b k l.leaf branch in
        let j : ℕ = place_in k ks in
        let d : ℕ = p2 + 3 * j in
        let setter = setter_in e meet k ks p2 (loose_has (arm_label trees) (next_blocks term) k u.label (has_different k (targets term) ∙ there)) parts.setters in
        let before = setter.before in
        let own : result e.s.context d ≡ setter_label first ks k = omega (arith, two) in
        let label = subst (λ n. Label e d n) (own ∙ sym (way_loose (arm_label trees) first ks k u.label)) setter.code.0 in
        let goes = go d (omega (arith, two)) label in
        let sets = setter_runs e meet k d m want.0 t setter.code want.1 uses (omega (arith, before)) parts.meets in
        let t2 : State = at_label m (put want.0 k t) in
        let t3 : State = at_label (suc m) (put want.0 k t) in
        let past = forth_one e t2 t3 (omega arith) (pass_label e m meet t2 refl parts.meets no_start) in
        let whole = forth_on e t (at_label d t) t3 goes (forth_on e (at_label d t) t2 t3 sets past) in
        let at_end : suc m ≡ m + 1 = omega arith in
        then_arrives e t t3 k whole (put_keeps e want.0 k t (inl want.1)) (onward.arrives t3 at_end (record { id = want.0; slot = want.1; holds = put_holds want.0 k t }))

    arm_after : (k a : ℕ) (x : Contains xs (k, a)) (code : ArmIn e meet p3 m (tree e a)) → After e a (code.head + 1 + span e (code.head + 1) (tree e a))
    arm_after k a x code =
        after_by e r a (code.head + 1 + span e (code.head + 1) (tree e a)) (m + 1) (λ j may. l.arm_out k a j x may) (λ t at. jump_past e (code.head + 1 + span e (code.head + 1) (tree e a)) m meet t at code.before code.out parts.meets no_start) after

    chosen : (t : State) (v : Value) (k : ℕ) → t.at ≡ p1 → value_of e.s.made t id ≡ Some v → goes_to term v ≡ Some k → ArrivesAt e.s e.i t k
    chosen t v k at is goes = by_arm (taken trees k)
      where
        branch : Branch e p1 k (length front) (way_label (arm_label trees) first ks) t
        branch = chosen_branch e meet id first p1 (arm_label trees) ks term t v k parts.front_code at is goes

        two : p2 ≡ p1 + 2
        two = let two = branch.two in omega (arith, two)

        by_arm : Taken trees k ⊎ Untaken trees k → ArrivesAt e.s e.i t k
        by_arm (inl x) = to_arm k x (omega (arith, two)) t branch.goes
        by_arm (inr u) = to_setter k u (goes_target term v k goes) two t branch.goes

    all : Exits e xs term env p Chooses
    all =
        record {
          leaves = record { has = parts.tests; chosen = chosen };
          arms = λ k a member. (let code = met_arm e meet trees p3 k (tree e a) (arms_in (tree_at e.list) xs k a member) parts.arms_code in (code.head, code.head + 1, record { stands = code.stands; after = arm_after k a member code }));
        }

  pub left_chooses : Has e.s.made p (exit_of e q trees term env Chooses p) → After e r (p + length (exit_of e q trees term env Chooses p)) → Exits e xs term env p Chooses
  left_chooses has after =
      let parts = pieces has in
      all parts (subst (After e r) parts.ends after)
