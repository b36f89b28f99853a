-- From the label at which a region begins to the site of the block that enters it.
use Rattle.std.proofs.Common.{◌≡◌, ℕ, zero, suc, ◌+◌, ◌<◌, List, [], ◌∷◌, refl, sym, ap, ◌∙◌, subst, arith, ⊎_elim}
use Rattle.std.specs.Prelude.{Contains}
use Rattle.dxil_form.specs.declared.region.Region.TheVariants as region
use Rattle.dxil_form.specs.Walks.{EnteredBy}
use Rattle.dxil_form.specs.Walks.EnteredBy.{by_block, by_head, by_first, by_source, by_start}
use Rattle.dxil_meaning.proofs.Simulation.{leads_none}
use Rattle.spirv_meaning.specs.Names.{begun_at}
use Rattle.spirv_meaning.specs.Target.{State, Word, Loads, next}
use Rattle.spirv_code.specs.declared.key.Slot.TheVariants.{Want}
use Rattle.spirv_code.specs.Plans.{result, site_label, body_label, continue_label, merge_label, chosen_label}
use Rattle.spirv_code.specs.Trees.{Tree, Loop, Dispatch, Arms, entry_of, label_at, entered_arms, tree_at}
use Rattle.spirv_code.specs.Rows.{arm_pairs}
use Rattle.line_runs.specs.Held.{machine}
use Rattle.line_runs.proofs.Results.{gave, result_at, gave_here}
use Rattle.region_runs.specs.Standing.{HasWant}
use Rattle.region_runs.proofs.Ways.{Scene, Label, NoResults, Forth, forth_one, forth_on, Comes, then_comes}
use Rattle.region_runs.proofs.Steps.{at_label, moved, jump, switch, pass, pass_label, pass_to}
use Rattle.region_runs.proofs.Wanting.{Wanting, load}
use Rattle.region_runs.proofs.Members.{Taken, taken, case_taken, in_entered, entered_in}
use Rattle.region_runs.proofs.Codes.{Stands, loop_parts, dispatch_parts, met_arm, then_parts}
use Rattle.region_runs.proofs.Entries.{Is, tree, leaf_tree, then_tree, loop_tree, dispatch_tree, arms_tree, part_below, choice_below, within_root, no_dispatch, passing_wants, entry_is, entry_enters}

-- past a label that begins no block, to the code behind it
pub enter : (e : Scene) (x : Tree) (head place : ℕ) (t : State) → Stands e x head place → begun_at e.s.made head ≡ [] → t.at ≡ head → Forth e t (moved place t)
enter e x head place t st none at =
    let first = forth_one e t (next t) (omega arith) (pass_label e head (label_at x) t at st.label none) in
    let at1 : suc t.at ≡ suc head = ap suc at in
    forth_on e t (next t) (moved place t) first (pass_to e head place (next t) at1 st.ahead st.between)

-- from the header of a loop to the label of its body
pub loop_enters : (e : Scene) (region h : ℕ) (body : Tree) (head place : ℕ) (t : State) → Stands e (Loop region body h) head place → t.at ≡ head → Forth e t (at_label (place + 2) t)
loop_enters e region h body head place t st at =
    let parts = loop_parts e place region h body st.code in
    let t1 : State = moved place t in
    let first = enter e (Loop region body h) head place t st (e.has.others region 1 head (omega arith) (omega arith) st.label) at in
    let second = forth_one e t1 (next t1) (omega arith) (pass e place 246 (merge_label region ∷ continue_label region ∷ 0 ∷ []) t1 refl parts.merge refl) in
    let at2 : suc place ≡ place + 1 = omega arith in
    let third = forth_one e (next t1) (at_label (place + 2) t) (omega arith) (jump e (place + 1) (place + 2) (label_at body) (next t1) at2 parts.out parts.stands.label) in
    forth_on e t t1 (at_label (place + 2) t) first (forth_on e t1 (next t1) (at_label (place + 2) t) second third)

-- from the header of a dispatch to the label of the arm that the block that is wanted enters
pub record Chooses (e : Scene) (x : Tree) (t : State) : Type 0 where
  pub at : ℕ
  pub stands : Stands e x at (at + 1)
  pub forth : Forth e t (at_label at t)

pub dispatch_enters : (e : Scene) (region k : ℕ) (arms : Arms) (head place : ℕ) (t : State) (a : Taken arms k) → Stands e (Dispatch region arms) head place → t.at ≡ head → Wanting e k t → Chooses e a.tree t
dispatch_enters e region k arms head place t a st at wants =
    let c = e.s.context in
    let parts = dispatch_parts e place region arms st.code in
    let arm = met_arm e (chosen_label region) arms (place + 6) k a.tree a.among parts.arms_code in
    let q : ℕ = arm.head in
    let behind = arm.behind in
    let t1 : State = moved place t in
    let t2 : State = at_label (place + 2) t in
    let first = enter e (Dispatch region arms) head place t st (e.has.others region 1 head (omega arith) (omega arith) st.label) at in
    let second = forth_one e t1 (next t1) (omega arith) (pass e place 246 (merge_label region ∷ continue_label region ∷ 0 ∷ []) t1 refl parts.merge refl) in
    let at2 : suc place ≡ place + 1 = omega arith in
    let third = forth_one e (next t1) t2 (omega arith) (jump e (place + 1) (place + 2) (body_label region) (next t1) at2 parts.out parts.body) in
    let none = e.has.others region 2 (place + 2) (omega arith) (omega arith) parts.body in
    let fourth = forth_one e t2 (next t2) (omega arith) (pass_label e (place + 2) (body_label region) t2 refl parts.body none) in
    let at3 : suc (place + 2) ≡ place + 3 = omega arith in
    let t3 : State = gave e.s (place + 3) (Word k) (next t2) in
    let fifth = forth_one e (next t2) t3 (omega arith) (load e (place + 3) wants.id Want (Word k) (next t2) wants.slot wants.holds at3 parts.load) in
    let at4 : suc (suc (place + 2)) ≡ place + 4 = omega arith in
    let sixth = forth_one e t3 (next t3) (omega arith) (pass e (place + 4) 247 (chosen_label region ∷ 0 ∷ []) t3 at4 parts.select refl) in
    let at5 : suc (suc (suc (place + 2))) ≡ place + 5 = omega arith in
    let label = subst (λ l. Label e q l) (sym (case_taken arms k (chosen_label region) (label_at a.tree) a.label)) arm.stands.label in
    let seventh = forth_one e (next t3) (at_label q t) (omega (arith, behind)) (switch e (place + 5) (result c (place + 3)) (chosen_label region) q (arm_pairs arms) (next t3) k at5 parts.switch (gave_here e.s e.declares (place + 3) (result_at e.s (place + 3) 61 _ Loads parts.load refl refl) (Word k) (next t2)) label) in
    let l6 = forth_on e t3 (next t3) (at_label q t) sixth seventh in
    let l5 = forth_on e (next t2) t3 (at_label q t) fifth l6 in
    let l4 = forth_on e t2 (next t2) (at_label q t) fourth l5 in
    let l3 = forth_on e (next t1) t2 (at_label q t) third l4 in
    let l2 = forth_on e t1 (next t1) (at_label q t) second l3 in
    record { at = q; stands = arm.stands; forth = forth_on e t t1 (at_label q t) first l2 }

-- the site of a leaf
here : (e : Scene) (r b head : ℕ) (t : State) → Is e r (region.Leaf b) → Label e head (site_label r) → t.at ≡ head → NoResults t → Comes e t b
here e r b head t is label at none =
    record {
      site = head;
      is = record { label = (site_label r, label); begins = e.has.sites r b head is label };
      n = 0;
      t' = t;
      few = omega (arith, at);
      leads = leads_none (machine e.s) e.i t;
      at = at;
      results = none;
      locals = λ id. refl;
    }

-- the variable is there wherever a dispatch stands
want_there : (e : Scene) (r k : ℕ) (arms : List ℕ) (t : State) → Is e r (region.Dispatch arms) → HasWant e.s t k → Wanting e k t
want_there e r k arms t is want =
    let id = e.has.want (passing_wants e r (region.Dispatch arms) is refl) in
    record { id = id.0; slot = id.1; holds = want id.0 id.1 }

-- an arm of a dispatch that block k enters is taken for it
arm_taken : (e : Scene) (r a k : ℕ) (arms : List ℕ) → Is e r (region.Dispatch arms) → Contains arms a → EnteredBy e.list a k → Taken (entered_arms (tree_at e.list) arms) k
arm_taken e r a k arms is member entered =
    ⊎_elim (λ x. x) (λ u. absurd (u.none (tree e a) (entered_in (tree_at e.list) arms k a member (entry_is e under entered)))) (taken (entered_arms (tree_at e.list) arms) k)
  where
    under : a < e.wired.root
    under =
        let less = choice_below e r a arms is member in
        let in_root = within_root e r (region.Dispatch arms) is in
        omega (arith, less, in_root)

-- where a region begins, it comes to the site of the block that enters it; a dispatch takes the block that is wanted
pub descend : (e : Scene) (n r k head place : ℕ) (t : State) → r < n → EnteredBy e.list r k → Stands e (tree e r) head place → t.at ≡ head → NoResults t → ((arms : List ℕ) → Is e r (region.Dispatch arms) → HasWant e.s t k) → Comes e t k
descend e zero r k head place t below entered st at none want = absurd (omega (arith, below))
descend e (suc n) r k head place t below (by_block is) st at none want =
    here e r k head t is (subst (λ x. Label e head (label_at x)) (leaf_tree e r k is) st.label) at none
descend e (suc n) r k head place t below (by_head {body = body} is) st at none want =
    let less = part_below e r 0 body (region.Loop body k) is refl in
    let in_root = within_root e r (region.Loop body k) is in
    let whole = subst (λ x. Stands e x head place) (loop_tree e r body k is) st in
    let parts = loop_parts e place r k (tree e body) whole.code in
    let first = loop_enters e r k (tree e body) head place t whole at in
    let rest = descend e n body k (place + 2) (place + 3) (at_label (place + 2) t) (omega (arith, below, less)) (e.wired.body r body k is) parts.stands refl (λ id. refl) (λ arms d. absurd (no_dispatch e body arms (omega (arith, less, in_root)) d)) in
    then_comes e t (at_label (place + 2) t) k first (λ id. refl) rest
descend e (suc n) r k head place t below (by_first {first = first} {second = second} {target = target} is entered) st at none want =
    let less = part_below e r 0 first (region.Then first second target) is refl in
    let in_root = within_root e r (region.Then first second target) is in
    let whole = subst (λ x. Stands e x head place) (then_tree e r first second target is) st in
    let parts = then_parts e place r target (tree e first) (tree e second) whole.code in
    descend e n first k head place t (omega (arith, below, less)) entered (record { label = whole.label; ahead = whole.ahead; between = whole.between; code = parts.code }) at none (λ arms d. absurd (no_dispatch e first arms (omega (arith, less, in_root)) d))
descend e (suc n) r k head place t below (by_source {first = first} {arms = arms} is entered) st at none want =
    let less = part_below e r 0 first (region.Arms first arms) is refl in
    let in_root = within_root e r (region.Arms first arms) is in
    let source = e.wired.source r first arms is in
    let whole = subst (λ x. Label e head (label_at x)) (arms_tree e r first source.0 arms is source.1) st.label in
    let enters : source.0 ≡ k = sym (ap entry_of (leaf_tree e first source.0 source.1)) ∙ entry_is e (omega (arith, less, in_root)) entered in
    subst (λ b. Comes e t b) enters (here e first source.0 head t source.1 whole at none)
descend e (suc n) r k head place t below (by_start {a = a} {arms = arms} is member entered) st at none want =
    let whole = subst (λ x. Stands e x head place) (dispatch_tree e r arms is) st in
    let arm = arm_taken e r a k arms is member entered in
    let chosen = in_entered (tree_at e.list) arms k arm.tree arm.among in
    let less = choice_below e r chosen.0 arms is chosen.1 in
    let in_root = within_root e r (region.Dispatch arms) is in
    let under : chosen.0 < e.wired.root = omega (arith, less, in_root) in
    let enters = subst (λ b. EnteredBy e.list chosen.0 b) chosen.3 (entry_enters e (suc chosen.0) chosen.0 (omega arith) under) in
    let goes = dispatch_enters e r k (entered_arms (tree_at e.list) arms) head place t arm whole at (want_there e r k arms t is (want arms is)) in
    let stands = subst (λ x. Stands e x goes.at (goes.at + 1)) (sym chosen.2) goes.stands in
    let rest = descend e n chosen.0 k goes.at (goes.at + 1) (at_label goes.at t) (omega (arith, below, less)) enters stands refl (λ id. refl) (λ other d. absurd (no_dispatch e chosen.0 other under d)) in
    then_comes e t (at_label goes.at t) k goes.forth (λ id. refl) rest
