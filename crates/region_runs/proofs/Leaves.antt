-- A leaf in its place, with the arms that stand at it, and how it is left where its block ends or goes to one block.
use Rattle.std.proofs.Common.{◌≡◌, ◌⊎◌, ℕ, suc, ◌+◌, ◌<◌, Bool, true, false, List, [], ◌∷◌, length, Option, Some, None, refl, sym, ap, ◌∙◌, subst, arith, inl, inr}
use Rattle.std.specs.Prelude.{Contains, ◌||◌, nat_eq}
use Rattle.dxil_form.specs.declared.block.Term.{Term}
use Rattle.dxil_form.specs.declared.region.Region.TheVariants as region
use Rattle.dxil_form.specs.Branches.{has, targets, branches}
use Rattle.dxil_form.specs.Sound.{cases_in}
use Rattle.dxil_form.specs.Walks.{EnteredBy}
use Rattle.dxil_form.specs.Wired.{IsPart, MayWant}
use Rattle.dxil_form.specs.Wired.MayWant.{leaf_wants, source_wants, arm_wants}
use Rattle.spv_form.specs.declared.module.Inst.{Inst}
use Rattle.spirv_meaning.specs.Target.{Word, State, value_of}
use Rattle.spirv_code.specs.declared.key.Global.TheVariants as global
use Rattle.spirv_code.specs.declared.key.Slot.TheVariants.{Want}
use Rattle.spirv_code.specs.declared.way.Way.{Way}
use Rattle.spirv_code.specs.declared.way.Way.TheVariants.{Ends, Goes}
use Rattle.spirv_code.specs.Plans.{inst, number, variable, id_or_0, chosen_label}
use Rattle.spirv_code.specs.Reads.{Env, store_code}
use Rattle.spirv_code.specs.Leaves.{next_blocks, way_of, followed}
use Rattle.spirv_code.specs.Exits.{want_inst, no_block, exit_code}
use Rattle.spirv_code.specs.Trees.{Tree, Leaf, Arms, label_at, arm_label, arms_of, tree_at}
use Rattle.spirv_code.specs.Rows.{onwards, row_code, one_arm, met_arms, wanted_arms}
use Rattle.spirv_code.specs.Further.{wants}
use Rattle.line_runs.specs.Held.{Has, Uses}
use Rattle.line_runs.specs.Exits.{LeavesBy, Returns}
use Rattle.line_runs.proofs.Tests.{none_some, true_false, nat_eq-eq}
use Rattle.line_runs.proofs.Results.{fixed_here}
use Rattle.region_runs.proofs.Ways.{Scene, At, Forth, forth_one, then_comes, comes_arrives, then_arrives, then_returns}
use Rattle.region_runs.proofs.Steps.{at_label, jump}
use Rattle.region_runs.proofs.Wanting.{put, store_want, put_want, put_holds, put_keeps}
use Rattle.region_runs.proofs.Members.{Taken, Untaken, taken, in_arms, arms_in}
use Rattle.region_runs.proofs.Codes.{Stands, next_to, followed_at, followed_length}
use Rattle.region_runs.proofs.Entries.{Is, tree, leaf_tree, arms_tree, arm_part, arm_below, within_root, no_dispatch}
use Rattle.region_runs.proofs.Ancestors.{one_part}
use Rattle.region_runs.proofs.Descent.{descend}
use Rattle.region_runs.proofs.Placed.{span, nothing, After, Placed}
use Rattle.region_runs.proofs.Targets.{has_different, has_here, ends_alone, goes_alone}

-- Region r is the leaf q of block b, alone or with these arms.
pub record LeafIn (e : Scene) (r q b : ℕ) (xs : List (ℕ × ℕ)) (head place : ℕ) : Type 0 where
  pub leaf : Is e q (region.Leaf b)
  pub stands : Stands e (Leaf q b (arms_of (tree_at e.list) xs)) head place
  pub after : After e r (place + span e place (Leaf q b (arms_of (tree_at e.list) xs)))
  pub out : (k : ℕ) → branches e.s.program b k ≡ true → ((a : ℕ) → Contains xs (k, a) → ⊥) → MayWant e.s.program e.list r k
  pub arm_out : (k a j : ℕ) → Contains xs (k, a) → MayWant e.s.program e.list a j → MayWant e.s.program e.list r j
  pub enters : (k a : ℕ) → Contains xs (k, a) → EnteredBy e.list a k
  pub target : (k a : ℕ) → Contains xs (k, a) → branches e.s.program b k ≡ true
  pub below : (k a : ℕ) → Contains xs (k, a) → a < e.wired.root
  pub part : (k a : ℕ) → Contains xs (k, a) → (i : ℕ) × IsPart e.list r i a

nobody : (x : ℕ × ℕ) → Contains [] x → ⊥
nobody x (j, less, e) = omega (arith, less)

pub leaf_alone : (e : Scene) (r b head place : ℕ) → Is e r (region.Leaf b) → Placed e r head place → LeafIn e r r b [] head place
leaf_alone e r b head place is placed =
    let same = leaf_tree e r b is in
    record {
      leaf = is;
      stands = subst (λ x. Stands e x head place) same placed.stands;
      after = subst (λ x. After e r (place + span e place x)) same placed.after;
      out = λ k t none. leaf_wants is t;
      arm_out = λ k a j member. absurd (nobody (k, a) member);
      enters = λ k a member. absurd (nobody (k, a) member);
      target = λ k a member. absurd (nobody (k, a) member);
      below = λ k a member. absurd (nobody (k, a) member);
      part = λ k a member. absurd (nobody (k, a) member);
    }

pub leaf_with : (e : Scene) (r first b head place : ℕ) (xs : List (ℕ × ℕ)) → Is e r (region.Arms first xs) → Is e first (region.Leaf b) → ((k a : ℕ) → Contains xs (k, a) → branches e.s.program b k ≡ true) → Placed e r head place → LeafIn e r first b xs head place
leaf_with e r first b head place xs is leaf targets_are placed =
    let same = arms_tree e r first b xs is leaf in
    record {
      leaf = leaf;
      stands = subst (λ x. Stands e x head place) same placed.stands;
      after = subst (λ x. After e r (place + span e place x)) same placed.after;
      out = λ k t none. source_wants is (leaf_wants leaf t) none;
      arm_out = λ k a j member may. arm_wants is member may;
      enters = λ k a member. e.wired.arm r first k a xs is member;
      target = targets_are;
      below = λ k a member. under k a member;
      part = λ k a member. arm_part e r first k a xs is member;
    }
  where
    under : (k a : ℕ) → Contains xs (k, a) → a < e.wired.root
    under k a member =
        let less = arm_below e r first k a xs is member in
        let in_root = within_root e r (region.Arms first xs) is in
        omega (arith, less, in_root)

-- ---- the end of a leaf

-- the code behind a block's own code
abbrev pub exit_of : Scene → (q : ℕ) → Arms → Term → Env → Way → ℕ → List Inst
exit_of e q arms term env way p =
    exit_code e.s.context (chosen_label q) term (arm_label arms) (next_blocks term) (λ k p. one_arm e.s.context k p arms) (λ p. met_arms e.s.context (chosen_label q) p arms) (λ p. wanted_arms e.s.context p arms) env way p

-- the block is left as it should be, and its arms are placed
pub record Exits (e : Scene) (xs : List (ℕ × ℕ)) (term : Term) (env : Env) (p : ℕ) (way : Way) : Type 0 where
  pub leaves : LeavesBy e.s e.i term env p way
  pub arms : (k a : ℕ) → Contains xs (k, a) → (h : ℕ) × (place : ℕ) × Placed e a h place

-- the same where an arm's end is its region's end
pub after_same : (e : Scene) (r s to : ℕ) → ((k : ℕ) → MayWant e.s.program e.list s k → MayWant e.s.program e.list r k) → After e r to → After e s to
after_same e r s to may after =
    record { onward = λ k wants_k. after.onward k (may k wants_k); ends = after.ends }

-- the number of no block is declared where it is stored
pub none_declared : (e : Scene) → wants e.s.program e.list ≡ true → Uses e.s (global.Number (no_block e.s.context))
none_declared e there =
    subst (λ bs. Uses e.s (global.Number (length bs))) (sym e.has.blocks) (e.has.no_number there)

-- a store of a number leads on
pub stores : (e : Scene) (p id value n : ℕ) (t : State) → e.s.context.slot Want ≡ Some id → value_of e.s.made t value ≡ Some (Word n) → t.at ≡ p → At e p (inst 62 (variable e.s.context Want ∷ value ∷ [])) → Forth e t (put id n t)
stores e p id value n t slot is at here =
    forth_one e t (put id n t) (omega arith) (store_want e p id value n t slot is at here)

-- ---- a block that ends

-- where its end leads to, by whether there is the variable
end_returns : (e : Scene) (r p : ℕ) (o : Option ℕ) → e.s.context.slot Want ≡ o → Has e.s.made p (store_code o (number e.s.context (no_block e.s.context))) → After e r (p + length (store_code o (number e.s.context (no_block e.s.context)))) → (t : State) → t.at ≡ p → Returns e.s e.i t
end_returns e r p None slot has after t at =
    let same : t.at ≡ p + 0 = omega (arith, at) in
    after.ends t same (λ id is. absurd (none_some (sym slot ∙ is)))
end_returns e r p (Some id) slot has after t at =
    let n : ℕ = nothing e in
    let c = e.s.context in
    let declared = e.declares.numbers (no_block c) (none_declared e (e.has.wanted id slot)) in
    let number_is = fixed_here e.s t (number c (no_block c)) (Word (no_block c)) declared ∙ ap (λ bs. Some (Word (length bs))) e.has.blocks in
    let here = has.0 ∙ ap (λ o. Some (inst 62 (id_or_0 o ∷ number c (no_block c) ∷ []))) (sym slot) in
    let goes = stores e p id (number c (no_block c)) n t slot number_is at here in
    let same : suc t.at ≡ p + 1 = omega (arith, at) in
    then_returns e t (put id n t) goes (after.ends (put id n t) same (put_want e id n t slot))

module _ (e : Scene) (r q b : ℕ) (xs : List (ℕ × ℕ)) (head place : ℕ) (l : LeafIn e r q b xs head place) (term : Term) (env : Env) (p : ℕ) (reads : (k : ℕ) → branches e.s.program b k ≡ has k (targets term)) where
  abbrev trees : Arms
  trees = arms_of (tree_at e.list) xs

  pub left_ends : way_of term ≡ Ends → Has e.s.made p (exit_of e q trees term env Ends p) → After e r (p + length (exit_of e q trees term env Ends p)) → Exits e xs term env p Ends
  left_ends way code after =
      record {
        leaves = λ t at. end_returns e r p (e.s.context.slot Want) refl code after t at;
        arms = λ k a member. absurd (nowhere k a member);
      }
    where
      nowhere : (k a : ℕ) → Contains xs (k, a) → ⊥
      nowhere k a member =
          let none = ends_alone (next_blocks term) (cases_in term) way in
          let goes = sym (reads k) ∙ l.target k a member in
          true_false (sym goes ∙ sym (has_different k (targets term)) ∙ ap (has k) none)

  -- ---- a block that goes to one block

  module _ (k : ℕ) (way : way_of term ≡ Goes k) where
    alone : (j : ℕ) → has j (targets term) ≡ true → j ≡ k
    alone j h =
        let one = goes_alone (next_blocks term) (cases_in term) k way in
        nat_eq-eq j k (sym (or_false (nat_eq j k)) ∙ sym (ap (has j) one) ∙ has_different j (targets term) ∙ h)
      where
        or_false : (x : Bool) → (x || false) ≡ x
        or_false true = refl
        or_false false = refl

    branches_to : branches e.s.program b k ≡ true
    branches_to =
        let one = goes_alone (next_blocks term) (cases_in term) k way in
        reads k ∙ sym (has_different k (targets term)) ∙ ap (has k) one ∙ has_here k []

    -- its arm stands there
    to_arm : (a : ℕ) (x : Tree) → Contains xs (k, a) → tree e a ≡ x → Has e.s.made p (followed p (onwards (label_at x)) (λ q. row_code e.s.context q x)) → After e r (p + length (followed p (onwards (label_at x)) (λ q. row_code e.s.context q x))) → Exits e xs term env p (Goes k)
    to_arm a x member same has after =
        let c = e.s.context in
        let two : p + length (onwards (label_at x)) ≡ p + 2 = omega arith in
        let label = has.1.0 in
        let code = followed_at e p (p + 2) (onwards (label_at x)) (λ q. row_code c q x) two has in
        let stands = next_to e x (p + 1) (p + 2) (omega arith) label code in
        let mine = subst (λ y. Stands e y (p + 1) (p + 2)) (sym same) stands in
        let long = followed_length p (p + 2) (onwards (label_at x)) (λ q. row_code c q x) two in
        let end = long ∙ ap (λ y. p + 2 + span e (p + 2) y) (sym same) in
        let after_a = after_same e r a (p + 2 + span e (p + 2) (tree e a)) (λ j may. l.arm_out k a j member may) (subst (After e r) end after) in
        let placed : Placed e a (p + 1) (p + 2) = record { stands = mine; after = after_a } in
        record {
          leaves = λ t at. (let goes = forth_one e t (at_label (p + 1) t) (omega (arith, at)) (jump e p (p + 1) (label_at x) t at has.0 label) in let comes = descend e (suc a) a k (p + 1) (p + 2) (at_label (p + 1) t) (omega arith) (l.enters k a member) mine refl (λ id. refl) (λ arms d. absurd (no_dispatch e a arms (l.below k a member) d)) in comes_arrives e t k (then_comes e t (at_label (p + 1) t) k goes (λ id. refl) comes));
          arms = λ j a' member'. (p + 1, p + 2, subst (λ y. Placed e y (p + 1) (p + 2)) (same_arm j a' member') placed);
        }
      where
        same_arm : (j a' : ℕ) → Contains xs (j, a') → a ≡ a'
        same_arm j a' member' =
            let is_k = alone j (sym (reads j) ∙ l.target j a' member') in
            let enters = subst (λ n. EnteredBy e.list a' n) is_k (l.enters j a' member') in
            let mine = l.part k a member in
            let its = l.part j a' member' in
            one_part e r a mine.0 a' its.0 k mine.1 its.1 (l.enters k a member) enters

    -- it has no arm, and the block is wanted when the region is over
    to_other : Untaken trees k → Has e.s.made p (want_inst e.s.context k ∷ []) → After e r (p + 1) → Exits e xs term env p (Goes k)
    to_other u has after =
        let may = l.out k branches_to (λ a member. u.none (tree e a) (arms_in (tree_at e.list) xs k a member)) in
        let onward = after.onward k may in
        let id = e.has.want onward.is_wanted in
        let uses = e.has.next_numbers onward.is_wanted q b k l.leaf branches_to in
        let c = e.s.context in
        record {
          leaves = λ t at. (let number_is = fixed_here e.s t (number c k) (Word k) (e.declares.numbers k uses) in let goes = stores e p id.0 (number c k) k t id.1 number_is at has.0 in let same : suc t.at ≡ p + 1 = omega (arith, at) in then_arrives e t (put id.0 k t) k goes (put_keeps e id.0 k t (inl id.1)) (onward.arrives (put id.0 k t) same (record { id = id.0; slot = id.1; holds = put_holds id.0 k t })));
          arms = λ j a member. absurd (nowhere j a member);
        }
      where
        nowhere : (j a : ℕ) → Contains xs (j, a) → ⊥
        nowhere j a member =
            let is_k = alone j (sym (reads j) ∙ l.target j a member) in
            u.none (tree e a) (arms_in (tree_at e.list) xs k a (subst (λ n. Contains xs (n, a)) is_k member))

    pub left_goes : Has e.s.made p (exit_of e q trees term env (Goes k) p) → After e r (p + length (exit_of e q trees term env (Goes k) p)) → Exits e xs term env p (Goes k)
    left_goes has after = by_arm (taken trees k)
      where
        by_arm : Taken trees k ⊎ Untaken trees k → Exits e xs term env p (Goes k)
        by_arm (inl x) =
            let arm = in_arms (tree_at e.list) xs k x.tree x.among in
            let code = x.one e.s.context p in
            to_arm arm.0 x.tree arm.1 arm.2 (subst (Has e.s.made p) code has) (subst (λ is. After e r (p + length is)) code after)
        by_arm (inr u) =
            let code = u.one e.s.context p in
            to_other u (subst (Has e.s.made p) code has) (subst (λ is. After e r (p + length is)) code after)
