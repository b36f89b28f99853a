-- A leaf that several selections leave, each by some of the cases of a switch.
use Rattle.std.proofs.Common.{◌≡◌, ℕ, suc, ◌+◌, true, List, length, length-append, map, Some, refl, sym, ◌∙◌, subst, arith, inl, inr}
use Rattle.std.specs.Prelude.{Contains, nat_lt}
use Rattle.dxil_form.specs.declared.block.Term.{Term}
use Rattle.dxil_form.specs.declared.block.Term.TheVariants.{Switch}
use Rattle.dxil_form.specs.Branches.{has, targets, branches}
use Rattle.dxil_form.specs.Sound.{TermFits, cases_in}
use Rattle.dxil_form.specs.Wired.{MayWant}
use Rattle.spv_form.specs.declared.module.Inst.{Inst}
use Rattle.spirv_meaning.specs.Target.{Value, Word, State, value_of}
use Rattle.spirv_code.specs.declared.key.Global.TheVariants as global
use Rattle.spirv_code.specs.declared.way.Way.TheVariants.{Splits}
use Rattle.spirv_code.specs.Plans.{number}
use Rattle.spirv_code.specs.Reads.{Env}
use Rattle.spirv_code.specs.Leaves.{followed, most_pairs}
use Rattle.spirv_code.specs.Exits.{tested, tested_code, tested_id, split_head, split_code, chunks_code, chunk_count}
use Rattle.spirv_code.specs.Further.{wants, picks}
use Rattle.spirv_code.specs.Trees.{Tree, Arms, arms_of, tree_at}
use Rattle.spirv_code.specs.Rows.{wanted_arms}
use Rattle.line_runs.specs.Held.{Has, Uses}
use Rattle.line_runs.specs.Exits.{goes_to, ArrivesAt, Returns}
use Rattle.line_runs.proofs.Tests.{none_some, some_inj, true_false, with_value_there}
use Rattle.line_runs.proofs.Pieces.{has_front, has_back}
use Rattle.line_runs.proofs.Results.{fixed_here}
use Rattle.region_runs.specs.Standing.{HasWant}
use Rattle.region_runs.proofs.Ways.{Scene, forth_one, forth_on, comes_arrives, then_arrives, then_returns}
use Rattle.region_runs.proofs.Steps.{at_label}
use Rattle.region_runs.proofs.Wanting.{Wanting, has_place, put, store_want, store_pick, put_holds, put_keeps}
use Rattle.region_runs.proofs.Members.{Among, in_arms, arms_in}
use Rattle.region_runs.proofs.Codes.{followed_at, followed_length}
use Rattle.region_runs.proofs.Entries.{tree, entered_below}
use Rattle.region_runs.proofs.Placed.{span, nothing, After, Placed, still, wanting, when_out}
use Rattle.region_runs.proofs.Targets.{goes_target, has_here, has_there}
use Rattle.region_runs.proofs.Wanted.{WantedIn, wanted_in, IsArm, Tested, tests_arms}
use Rattle.region_runs.proofs.Cases.{enough}
use Rattle.region_runs.proofs.Chunks.{Picking, apart_slots, Picked, chunks_run}
use Rattle.region_runs.proofs.Leaves.{LeafIn, Exits, exit_of}

-- ---- from the value that is tested to where the block that it chooses is wanted

pub split_runs : (e : Scene) (p1 id : ℕ) (term : Term) (t : State) (v : Value) (k : ℕ) → wants e.s.program e.list ≡ true → picks e.s.program e.list ≡ true → nat_lt most_pairs (cases_in term) ≡ true → ((j : ℕ) → has j (targets term) ≡ true → Uses e.s (global.Number j)) → TermFits term → Has e.s.made p1 (split_code e.s.context p1 id term) → t.at ≡ p1 → value_of e.s.made t id ≡ Some v → goes_to term v ≡ Some k → (n : ℕ) × Picked e n k (p1 + length (split_code e.s.context p1 id term)) t
split_runs e p1 id (Switch value default cases) t (Word n) k wanted picked many uses fits code at is goes =
    let c = e.s.context in
    let want = e.has.want wanted in
    let pick = e.has.pick picked in
    let front : List Inst = split_head c id default in
    let m : ℕ = chunk_count (length cases) in
    let chunks : List Inst = chunks_code c (p1 + 2) m cases in
    let two : p1 + length front ≡ p1 + 2 = omega arith in
    let head = has_front e.s.made p1 front chunks code in
    let back = has_place e (p1 + length front) (p1 + 2) chunks two (has_back e.s.made p1 front chunks code) in
    let t1 : State = put pick.0 n t in
    let t2 : State = put want.0 default t1 in
    let first = forth_one e t t1 (omega arith) (store_pick e p1 pick.0 id n t pick.1 is at head.0) in
    let at1 : suc t.at ≡ p1 + 1 = omega (arith, at) in
    let number_is = fixed_here e.s t1 (number c default) (Word default) (e.declares.numbers default (uses default (has_here default (map (λ arm. arm.1) cases)))) in
    let second = forth_one e t1 t2 (omega arith) (store_want e (p1 + 1) want.0 (number c default) default t1 want.1 number_is at1 head.1.0) in
    let both = forth_on e t t1 t2 first second in
    let stays = with_value_there want.0 (Some (Word default)) t1.locals pick.0 (apart_slots e want.0 pick.0 want.1 pick.1) in
    let picking : Picking e n default t2 = record { want = want.0; want_slot = want.1; want_holds = put_holds want.0 default t1; pick = pick.0; pick_slot = pick.1; pick_holds = stays ∙ put_holds pick.0 n t } in
    let at2 : suc (suc t.at) ≡ p1 + 2 = omega (arith, at) in
    let rest = chunks_run e m (p1 + 2) n default cases t2 (enough (length cases)) fits back (λ j h. uses j (has_there j default (map (λ arm. arm.1) cases) h)) picking at2 in
    let long = length-append front chunks in
    let end : p1 + 2 + length chunks ≡ p1 + length (split_code c p1 id (Switch value default cases)) = omega (arith, long) in
    let there = rest.at in (
      n,
      record {
        t' = rest.t';
        at = there ∙ end;
        forth = forth_on e t t2 rest.t' both rest.forth;
        picking = subst (λ w. Picking e n w rest.t') (some_inj goes) rest.picking;
        keeps = λ x other. rest.keeps x other ∙ put_keeps e want.0 default t1 (inl want.1) x other ∙ put_keeps e pick.0 n t (inr pick.1) x other;
      },
    )
split_runs e p1 id (Switch value default cases) t _ k wanted picked many uses fits code at is goes =
    absurd (none_some goes)
split_runs e p1 id _ t v k wanted picked many uses fits code at is goes = absurd (true_false (sym many))

-- what is wanted, in a state with the same variables
moved_wanting : (e : Scene) (w : ℕ) (t t' : State) → ((id : ℕ) → t'.locals id ≡ t.locals id) → Wanting e w t → Wanting e w t'
moved_wanting e w t t' same h = record { id = h.id; slot = h.slot; holds = same h.id ∙ h.holds }

module _ (e : Scene) (r q b : ℕ) (xs : List (ℕ × ℕ)) (head place : ℕ) (l : LeafIn e r q b xs head place) (term : Term) (env : Env) (p : ℕ) (reads : (k : ℕ) → branches e.s.program b k ≡ has k (targets term)) (is_wanted : wants e.s.program e.list ≡ true) (is_picked : picks e.s.program e.list ≡ true) (many : nat_lt most_pairs (cases_in term) ≡ true) (fits : TermFits term) where
  abbrev trees : Arms
  trees = arms_of (tree_at e.list) xs

  abbrev id : ℕ
  id = tested_id e.s.context env p (tested term)

  abbrev p1 : ℕ
  p1 = p + length (tested_code e.s.context env p (tested term))

  abbrev p3 : ℕ
  p3 = p1 + length (split_code e.s.context p1 id term)

  abbrev to : ℕ
  to = p3 + length (wanted_arms e.s.context p3 trees)

  uses : (j : ℕ) → has j (targets term) ≡ true → Uses e.s (global.Number j)
  uses j h = e.has.next_numbers is_wanted q b j l.leaf (reads j ∙ h)

  is_arm : (j : ℕ) (x : Tree) → Among trees j x → IsArm e j x
  is_arm j x among =
      let a = in_arms (tree_at e.list) xs j x among in
      record {
        region = a.0;
        is = a.2;
        enters = l.enters j a.0 a.1;
        below = l.below j a.0 a.1;
        uses = e.has.next_numbers is_wanted q b j l.leaf (l.target j a.0 a.1);
      }

  module _ (after : After e r to) where
    -- from the tests of arms, where block j is wanted, which the region may want when it is over if none of them is taken
    tests_arrive : (j : ℕ) (arms : Arms) (t : State) → Tested e arms j to t → Wanting e j t → (((x : Tree) → Among arms j x → ⊥) → MayWant e.s.program e.list r j) → ArrivesAt e.s e.i t j
    tests_arrive j arms t (inl found) h may = comes_arrives e t j found.2
    tests_arrive j arms t (inr passed) h may =
        let x = passed.1 in
        then_arrives e t x.t' j x.forth (λ v other. x.locals v) ((after.onward j (may passed.0)).arrives x.t' x.at (moved_wanting e j t x.t' x.locals h))

    tests_return : (arms : Arms) (t : State) → Tested e arms (nothing e) to t → HasWant e.s t (nothing e) → ((x : Tree) → Among arms (nothing e) x → IsArm e (nothing e) x) → Returns e.s e.i t
    tests_return arms t (inl found) want all =
        let arm = all found.0 found.1 in
        let below = entered_below e (suc arm.region) arm.region (nothing e) (omega arith) arm.enters in
        absurd (omega (arith, below))
    tests_return arms t (inr passed) want all =
        let x = passed.1 in
        then_returns e t x.t' x.forth (after.ends x.t' x.at (λ v slot. x.locals v ∙ want v slot))

    module _ (k a : ℕ) (member : Contains xs (k, a)) (w : WantedIn e k p3 to trees (tree e a)) where
      abbrev next : ℕ
      next = w.at + 5 + span e (w.at + 5) (tree e a) + 2

      rest_tested : (j : ℕ) (t : State) → Wanting e j t → Tested e w.rest j to (at_label next t)
      rest_tested j t h =
          subst (λ n. Tested e w.rest j n (at_label next t)) w.ends (tests_arms e w.rest next j (at_label next t) w.rest_code (λ i x among. is_arm i x (w.among i x among)) refl (still e j next t h))

      arm_arrives : (j : ℕ) → MayWant e.s.program e.list a j → (t : State) → t.at ≡ w.at + 5 + span e (w.at + 5) (tree e a) → Wanting e j t → ArrivesAt e.s e.i t j
      arm_arrives j may t at h =
          then_arrives e t (at_label next t) j (when_out e w.at k (tree e a) t w.parts at) (λ v other. refl) (tests_arrive j w.rest (at_label next t) (rest_tested j t h) (still e j next t h) (λ none. l.arm_out k a j member may))

      arm_ends : (t : State) → t.at ≡ w.at + 5 + span e (w.at + 5) (tree e a) → HasWant e.s t (nothing e) → Returns e.s e.i t
      arm_ends t at want =
          then_returns e t (at_label next t) (when_out e w.at k (tree e a) t w.parts at) (tests_return w.rest (at_label next t) (rest_tested (nothing e) t (wanting e (nothing e) t is_wanted want)) want (λ x among. is_arm (nothing e) x (w.among (nothing e) x among)))

      arm_placed : Placed e a (w.at + 4) (w.at + 5)
      arm_placed =
          record {
            stands = w.parts.stands;
            after = record { onward = λ j may. record { is_wanted = is_wanted; arrives = arm_arrives j may }; ends = arm_ends };
          }

    chosen : (arms_code : Has e.s.made p3 (wanted_arms e.s.context p3 trees)) (split : Has e.s.made p1 (split_code e.s.context p1 id term)) (t : State) (v : Value) (k : ℕ) → t.at ≡ p1 → value_of e.s.made t id ≡ Some v → goes_to term v ≡ Some k → ArrivesAt e.s e.i t k
    chosen arms_code split t v k at is goes =
        let run = split_runs e p1 id term t v k is_wanted is_picked many uses fits split at is goes in
        let x = run.1 in
        let h : Wanting e k x.t' = record { id = x.picking.want; slot = x.picking.want_slot; holds = x.picking.want_holds } in
        let tests = tests_arms e trees p3 k x.t' arms_code is_arm x.at h in
        then_arrives e t x.t' k x.forth x.keeps (tests_arrive k trees x.t' tests h (λ none. l.out k (reads k ∙ goes_target term v k goes) (λ a member. none (tree e a) (arms_in (tree_at e.list) xs k a member))))

  pub left_splits : Has e.s.made p (exit_of e q trees term env Splits p) → After e r (p + length (exit_of e q trees term env Splits p)) → Exits e xs term env p Splits
  left_splits has after =
      let c = e.s.context in
      let test : List Inst = tested_code c env p (tested term) in
      let split : ℕ → List Inst = λ n. split_code c n id term in
      let arms : ℕ → List Inst = λ n. wanted_arms c n trees in
      let rest1 : ℕ → List Inst = λ n. followed n (split n) arms in
      let back1 = followed_at e p p1 test rest1 refl has in
      let back2 = followed_at e p1 p3 (split p1) arms refl back1 in
      let mine = has_front e.s.made p1 (split p1) (arms p3) back1 in
      let long = followed_length p p1 test rest1 refl ∙ followed_length p1 p3 (split p1) arms refl in
      let after' = subst (After e r) long after in
      record {
        leaves = record { has = has_front e.s.made p test (rest1 p1) has; chosen = chosen after' back2 mine };
        arms = λ k a member. (let w = wanted_in e trees p3 k (tree e a) (arms_in (tree_at e.list) xs k a member) back2 in (w.at + 4, w.at + 5, arm_placed after' k a member w));
      }
