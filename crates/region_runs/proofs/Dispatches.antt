-- The arms of a dispatch.
use Rattle.std.proofs.Common.{◌≡◌, ℕ, suc, ◌+◌, ◌<◌, true, List, length, refl, sym, ap, ◌∙◌, subst, arith, ⊎_elim}
use Rattle.std.specs.Prelude.{nat_eq, if◌then◌else◌, Contains}
use Rattle.dxil_form.specs.declared.region.Region.TheVariants as region
use Rattle.dxil_form.specs.Walks.{EnteredBy}
use Rattle.dxil_form.specs.Wired.{MayWant}
use Rattle.dxil_form.specs.Wired.MayWant.{choice_wants}
use Rattle.spirv_meaning.specs.Target.{State}
use Rattle.spirv_code.specs.declared.key.Global.TheVariants as global
use Rattle.spirv_code.specs.Plans.{header_label, merge_label, chosen_label}
use Rattle.spirv_code.specs.Exits.{no_block}
use Rattle.spirv_code.specs.Trees.{Arms, Dispatch, entered_arms, tree_at}
use Rattle.spirv_code.specs.Further.{wants}
use Rattle.spirv_code.specs.Rows.{met_arms}
use Rattle.line_runs.specs.Held.{Uses}
use Rattle.line_runs.specs.Exits.{ArrivesAt, Returns}
use Rattle.line_runs.proofs.Tests.{nat_eq-refl}
use Rattle.region_runs.specs.Standing.{HasWant}
use Rattle.region_runs.proofs.Ways.{Scene, Forth, Comes, then_comes, arrives_in, then_arrives, then_returns}
use Rattle.region_runs.proofs.Steps.{at_label, jump_past}
use Rattle.region_runs.proofs.Wanting.{Wanting}
use Rattle.region_runs.proofs.Members.{Taken, Untaken, taken, in_entered, entered_in}
use Rattle.region_runs.proofs.Codes.{Stands, DispatchParts, dispatch_parts, ArmIn, met_arm}
use Rattle.region_runs.proofs.Entries.{Is, tree, dispatch_tree, choice_below, within_root, no_dispatch, passing_wants, wanted_below, entry_is, entry_enters}
use Rattle.region_runs.proofs.Descent.{dispatch_enters, descend}
use Rattle.region_runs.proofs.Placed.{span, nothing, After, Placed, still, wanting, differ}
use Rattle.region_runs.proofs.Loops.{footer_leaves, footer_repeats, footer_room}

module _ (e : Scene) (r head place : ℕ) (arms : List ℕ) (is : Is e r (region.Dispatch arms)) (placed : Placed e r head place) where
  abbrev trees : Arms
  trees = entered_arms (tree_at e.list) arms

  abbrev end : ℕ
  end = place + 6 + length (met_arms e.s.context (chosen_label r) (place + 6) trees)

  whole : Stands e (Dispatch r trees) head place
  whole = subst (λ x. Stands e x head place) (dispatch_tree e r arms is) placed.stands

  pieces : DispatchParts e place r trees
  pieces = dispatch_parts e place r trees whole.code

  behind : After e r (end + 7)
  behind =
      subst (After e r) (ap (λ x. place + span e place x) (dispatch_tree e r arms is) ∙ pieces.ends) placed.after

  there : wants e.s.program e.list ≡ true
  there = passing_wants e r (region.Dispatch arms) is refl

  uses : Uses e.s (global.Number (no_block e.s.context))
  uses = subst (λ bs. Uses e.s (global.Number (length bs))) (sym e.has.blocks) (e.has.no_number there)

  under : (a : ℕ) → Contains arms a → a < e.wired.root
  under a member =
      let less = choice_below e r a arms is member in
      let in_root = within_root e r (region.Dispatch arms) is in
      omega (arith, less, in_root)

  -- what an arm wants, some arm is entered by
  is_taken : (a k : ℕ) → Contains arms a → MayWant e.s.program e.list a k → Taken trees k
  is_taken a k member may = ⊎_elim (λ x. x) (λ u. absurd (leaves u)) (taken trees k)
    where
      leaves : Untaken trees k → ⊥
      leaves u =
          let at_root = e.wired.dispatch r arms is in
          let mine = choice_wants is member may (λ c in_arms entered. u.none (tree e c) (entered_in (tree_at e.list) arms k c in_arms (entry_is e (under c in_arms) entered))) in
          e.wired.over k (subst (λ x. MayWant e.s.program e.list x k) at_root mine)

  -- from the header to the site of the block that is wanted
  choose : (k : ℕ) (t : State) → Taken trees k → t.at ≡ head → Wanting e k t → Comes e t k
  choose k t arm at w =
      let chosen = in_entered (tree_at e.list) arms k arm.tree arm.among in
      let below = under chosen.0 chosen.1 in
      let enters = subst (λ b. EnteredBy e.list chosen.0 b) chosen.3 (entry_enters e (suc chosen.0) chosen.0 (omega arith) below) in
      let goes = dispatch_enters e r k trees head place t arm whole at w in
      let stands = subst (λ x. Stands e x goes.at (goes.at + 1)) (sym chosen.2) goes.stands in
      let rest = descend e (suc chosen.0) chosen.0 k goes.at (goes.at + 1) (at_label goes.at t) (omega arith) enters stands refl (λ id. refl) (λ other d. absurd (no_dispatch e chosen.0 other below d)) in
      then_comes e t (at_label goes.at t) k goes.forth (λ id. refl) rest

  module _ (a : ℕ) (member : Contains arms a) (arm : ArmIn e (chosen_label r) (place + 6) end (tree e a)) where
    abbrev q : ℕ
    q = arm.head + 1 + span e (arm.head + 1) (tree e a)

    -- from the end of the arm to where all arms meet
    meets : (t : State) → t.at ≡ q → Forth e t (at_label (end + 1) t)
    meets t at =
        jump_past e q end (chosen_label r) t at arm.before arm.out pieces.chosen (e.has.others r 5 end (omega arith) (omega arith) pieces.chosen)

    arm_arrives : (k : ℕ) → MayWant e.s.program e.list a k → (t : State) → t.at ≡ q → Wanting e k t → ArrivesAt e.s e.i t k
    arm_arrives k may t at w =
        let s1 : State = at_label (end + 1) t in
        let below = wanted_below e a k may in
        let blocks = ap length e.has.blocks in
        let other = differ k (no_block e.s.context) (λ equal. omega (arith, below, equal, blocks)) in
        let goes = footer_repeats e r (end + 1) (no_block e.s.context) k (merge_label r) (header_label r) head s1 refl pieces.footer (still e k (end + 1) t w) uses (ap (λ b. if b then merge_label r else header_label r) other) whole.label in
        let room = footer_room e r (end + 1) (no_block e.s.context) (merge_label r) (header_label r) pieces.footer in
        let comes = choose k (at_label head t) (is_taken a k member may) refl (still e k head t w) in
        then_arrives e t s1 k (meets t at) (λ id passer. refl) (arrives_in e 5 s1 (at_label head t) k goes room (λ id passer. refl) comes)

    arm_ends : (t : State) → t.at ≡ q → HasWant e.s t (nothing e) → Returns e.s e.i t
    arm_ends t at want =
        let s1 : State = at_label (end + 1) t in
        let w = wanting e (nothing e) s1 there want in
        let equal : nat_eq (nothing e) (no_block e.s.context) ≡ true = subst (λ bs. nat_eq (nothing e) (length bs) ≡ true) (sym e.has.blocks) (nat_eq-refl (nothing e)) in
        let goes = footer_leaves e r (end + 1) (no_block e.s.context) (nothing e) (merge_label r) (header_label r) s1 refl pieces.footer w uses (ap (λ b. if b then merge_label r else header_label r) equal) in
        let place7 : end + 1 + 6 ≡ end + 7 = omega arith in
        let s2 : State = at_label (end + 1 + 6) t in
        then_returns e t s1 (meets t at) (then_returns e s1 s2 goes (behind.ends s2 place7 want))

    arm_placed : Placed e a arm.head (arm.head + 1)
    arm_placed =
        record {
          stands = arm.stands;
          after = record { onward = λ k may. record { is_wanted = there; arrives = arm_arrives k may }; ends = arm_ends };
        }

  pub dispatch_arm : (a k : ℕ) → Contains arms a → EnteredBy e.list a k → (h : ℕ) × (p : ℕ) × Placed e a h p
  dispatch_arm a k member entered =
      let among = entered_in (tree_at e.list) arms k a member (entry_is e (under a member) entered) in
      let arm = met_arm e (chosen_label r) trees (place + 6) k (tree e a) among pieces.arms_code in
      (arm.head, arm.head + 1, arm_placed a member arm)
