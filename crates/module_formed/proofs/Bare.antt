-- A module that declares nothing but its function: the one block of its program has no instruction, and its code is formed below a bound of 5.
use Rattle.std.proofs.Common.{◌≡◌, ℕ, zero, suc, ◌+◌, ◌<◌, Bool, true, false, List, [], ◌∷◌, ◌++◌, length, Option, Some, None, refl, sym, ap, ◌∙◌, subst, arith, inl, inr}
use Rattle.std.specs.Prelude.{◌⊎◌, ◌||◌, slice_get}
use Rattle.dxil_form.specs.declared.value.Ty.TheVariants as ty
use Rattle.dxil_form.specs.declared.value.Operand.{Operand}
use Rattle.dxil_form.specs.declared.value.Operand.TheVariants as operand
use Rattle.dxil_form.specs.declared.instr.Addr.{Addr}
use Rattle.dxil_form.specs.declared.instr.Target.{Target}
use Rattle.dxil_form.specs.declared.instr.CastOp.TheVariants.{Trunc, Zext, Sext}
use Rattle.dxil_form.specs.declared.instr.Instr.{Instr}
use Rattle.dxil_form.specs.declared.instr.Instr.TheVariants.{Bin, Cmp, Cast, Select, Copy, One, Two, Mad, Id, Size, Load, Store, Atomic, Swap, Barrier, Nothing}
use Rattle.dxil_form.specs.declared.block.Phi.{Phi}
use Rattle.dxil_form.specs.declared.block.Term.{Term}
use Rattle.dxil_form.specs.declared.block.Term.TheVariants.{Ret, Unreachable, Go, If, Switch}
use Rattle.dxil_form.specs.declared.block.Block.{Block}
use Rattle.dxil_form.specs.declared.program.Program.{Program}
use Rattle.dxil_form.specs.declared.region.Region.{Region}
use Rattle.dxil_form.specs.declared.region.Region.TheVariants as region
use Rattle.dxil_form.specs.Branches.{has, targets, targets_in}
use Rattle.dxil_form.specs.Registers.{parts_of}
use Rattle.dxil_form.specs.Wired.{Wired, leaf_wants}
use Rattle.spirv_code.specs.declared.key.Sort.TheVariants as sort
use Rattle.spirv_code.specs.declared.key.Global.{Global}
use Rattle.spirv_code.specs.declared.key.Global.TheVariants.{Plain, Number, Truth}
use Rattle.spirv_code.specs.declared.key.Slot.{Slot}
use Rattle.spirv_code.specs.declared.key.Slot.TheVariants.{Want}
use Rattle.spirv_code.specs.declared.event.Event.{Event}
use Rattle.spirv_code.specs.Keys.{has_key, place_from}
use Rattle.spirv_code.specs.Plans.{Plan, Context, sort_of, slots_from, slot_id, context_of, number, chosen_label}
use Rattle.spirv_code.specs.Reads.{Env, store_code}
use Rattle.spirv_code.specs.Lines.{load_event, store_event, line_code, line_env, lines_code, parts_code}
use Rattle.spirv_code.specs.Leaves.{group_code, inner_code, block_code, block_env, edges_code, next_blocks, way_of}
use Rattle.spirv_code.specs.Exits.{no_block, exit_code}
use Rattle.spirv_code.specs.Trees.{No_arm, arm_label, root_of}
use Rattle.spirv_code.specs.Rows.{block_at, leaf_code, one_arm, met_arms, wanted_arms}
use Rattle.spirv_code.specs.Frame.{body_code, opening_label}
use Rattle.spirv_code.specs.Further.{wants}
use Rattle.spirv_code.specs.Needed.{operand_keys, parts_keys, line_keys, lines_keys, phis_keys, end_keys, block_keys, slots_keys, want_keys, regions_keys, table_of}
use Rattle.spv_form.specs.declared.module.Inst.{Inst}
use Rattle.spv_form.specs.Formed.{IsIdBelow}
use Rattle.line_runs.proofs.Tests.{true_false}
use Rattle.frame_facts.proofs.Searches.{eq_same}
use Rattle.frame_facts.proofs.Tabled.{IsKnown}
use Rattle.plan_ready.proofs.Among.{Among, among_front, among_back}
use Rattle.plan_ready.proofs.Tables.{all_have, leaf_among}
use Rattle.formed_lines.proofs.Lists.{AreFormed, join}
use Rattle.chosen_plan.specs.IsPlan.{IsPlan}
use Rattle.module_formed.proofs.Framed.{Holds}

-- ---- code that names no key is no code

-- nowhere key is among these
abbrev AreNone : Program → List Global → Type 0
AreNone p gs = (g : Global) → Among g gs → IsKnown p g → ⊥

none_front : (p : Program) (a b : List Global) → AreNone p (a ++ b) → AreNone p a
none_front p a b h g at known = h g (among_front g a b at) known

none_back : (p : Program) (a b : List Global) → AreNone p (a ++ b) → AreNone p b
none_back p a b h g at known = h g (among_back g a b at) known

module _ (p : Program) (c : Context) where
  no_operand : (a : Operand) → AreNone p (operand_keys a) → ⊥
  no_operand (operand.Reg reg t) h = h (Plain (sort_of t)) (inl refl) tt
  no_operand (operand.Int n) h = h (Number n) (inl refl) tt
  no_operand (operand.Bool b) h = h (Truth b) (inl refl) tt
  no_operand (operand.Undef ty.Int) h = h (Number 0) (inl refl) tt
  no_operand (operand.Undef ty.Bool) h = h (Truth false) (inl refl) tt

  no_parts : (env : Env) (place : ℕ) (t : Target) (addr : Addr) (event_of : ℕ → Event) (parts : List ℕ) → AreNone p (parts_keys p t addr event_of parts) → AreFormed 5 (parts_code c env place t addr event_of parts)
  no_parts env place t addr event_of [] h = tt
  no_parts env place t addr event_of (part ∷ parts) h = absurd (h (Plain sort.Int) (inl refl) tt)

  no_line : (env : Env) (place : ℕ) (line : Instr) → AreNone p (line_keys p line) → AreFormed 5 (line_code c env place line)
  no_line env place (Bin to op t x y) h = absurd (h (Plain (sort_of t)) (inl refl) tt)
  no_line env place (Cmp to op t x y) h = absurd (h (Plain sort.Bool) (inl refl) tt)
  no_line env place (Cast to Trunc x) h = absurd (h (Plain sort.Int) (inl refl) tt)
  no_line env place (Cast to Zext x) h = absurd (h (Plain sort.Int) (inl refl) tt)
  no_line env place (Cast to Sext x) h = absurd (h (Plain sort.Int) (inl refl) tt)
  no_line env place (Select to t x y z) h = absurd (h (Plain (sort_of t)) (inl refl) tt)
  no_line env place (Copy to t x) h = absurd (no_operand x h)
  no_line env place (One to op x) h = absurd (h (Plain sort.Int) (inl refl) tt)
  no_line env place (Two to op x y) h = absurd (h (Plain sort.Int) (inl refl) tt)
  no_line env place (Mad to x y z) h = absurd (h (Plain sort.Int) (inl refl) tt)
  no_line env place (Id to op part) h = absurd (h (Plain sort.Int) (inl refl) tt)
  no_line env place (Size to buffer) h = absurd (h (Plain sort.Int) (inl refl) tt)
  no_line env place (Load to mask t addr) h = no_parts env place t addr (load_event to) (parts_of mask) h
  no_line env place (Store mask t addr x y z w) h = no_parts env place t addr (store_event x y z w) (parts_of mask) h
  no_line env place (Atomic to op t addr value) h = absurd (h (Plain sort.Int) (inl refl) tt)
  no_line env place (Swap to t addr compare value) h = absurd (h (Plain sort.Int) (inl refl) tt)
  no_line env place (Barrier sync s uav shared) h = absurd (h (Number 2) (inl refl) tt)
  no_line env place Nothing h = tt

  no_lines : (lines : List Instr) (env : Env) (place : ℕ) → AreNone p (lines_keys p lines) → AreFormed 5 (lines_code c env place lines)
  no_lines [] env place h = tt
  no_lines (line ∷ lines) env place h =
      join 5 (line_code c env place line) _ (no_line env place line (none_front p (line_keys p line) (lines_keys p lines) h)) (no_lines lines (line_env c env place line) (place + length (line_code c env place line)) (none_back p (line_keys p line) (lines_keys p lines) h))

  no_phis : (place : ℕ) (phis : List Phi) → AreNone p (phis_keys phis) → AreFormed 5 (group_code c place phis)
  no_phis place [] h = tt
  no_phis place (phi ∷ phis) h = absurd (h (Plain (sort_of phi.ty)) (inl refl) tt)

  -- a terminator that ends the program
  ending : (w : Bool) (term : Term) → AreNone p (end_keys w term) → ((k : ℕ) → has k (targets term) ≡ true → ⊥) → (term ≡ Ret) ⊎ (term ≡ Unreachable)
  ending w Ret h nowhere = inl refl
  ending w Unreachable h nowhere = inr refl
  ending w (Go k) h nowhere = absurd (nowhere k (ap (λ t. t || false) (eq_same k)))
  ending w (If cond there other) h nowhere = absurd (no_operand cond (none_front p (operand_keys cond) _ h))
  ending w (Switch value default cases) h nowhere = absurd (no_operand value (none_front p (operand_keys value) _ h))

  -- ---- the block

  module _ (no_want : c.slot Want ≡ None) (place meet b : ℕ) (labels : ℕ → Option ℕ) (one : ℕ → ℕ → List Inst) (met wanted : ℕ → List Inst) where
    ends_formed : (env : Env) (edges at : ℕ) (term : Term) → (term ≡ Ret) ⊎ (term ≡ Unreachable) → AreFormed 5 (edges_code c env edges b (next_blocks term)) × AreFormed 5 (exit_code c meet term labels (next_blocks term) one met wanted env (way_of term) at)
    ends_formed env edges at term e = by_term e
      where
        Both : Term → Type 0
        Both t =
            AreFormed 5 (edges_code c env edges b (next_blocks t)) × AreFormed 5 (exit_code c meet t labels (next_blocks t) one met wanted env (way_of t) at)

        no_store : AreFormed 5 (store_code (c.slot Want) (number c (no_block c)))
        no_store = subst (λ o. AreFormed 5 (store_code o (number c (no_block c)))) (sym no_want) tt

        by_term : (term ≡ Ret) ⊎ (term ≡ Unreachable) → Both term
        by_term (inl e) = subst Both (sym e) (tt, no_store)
        by_term (inr e) = subst Both (sym e) (tt, no_store)

    block_formed : (w : Bool) (block : Block) → AreNone p (block_keys p w block) → ((k : ℕ) → has k (targets block.term) ≡ true → ⊥) → AreFormed 5 (leaf_code c place meet b block labels one met wanted)
    block_formed w block h nowhere =
        join 5 (block_code c place b block) _ (join 5 (inner_code c place block) _ (join 5 (group_code c place block.phis) _ (no_phis place block.phis phis) (no_lines block.instrs _ _ lines)) both.0) both.1
      where
        rest : List Global
        rest = lines_keys p block.instrs ++ end_keys w block.term

        phis : AreNone p (phis_keys block.phis)
        phis = none_front p (phis_keys block.phis) rest h

        lines : AreNone p (lines_keys p block.instrs)
        lines = none_front p (lines_keys p block.instrs) (end_keys w block.term) (none_back p (phis_keys block.phis) rest h)

        ends : (block.term ≡ Ret) ⊎ (block.term ≡ Unreachable)
        ends =
            ending w block.term (none_back p (lines_keys p block.instrs) (end_keys w block.term) (none_back p (phis_keys block.phis) rest h)) nowhere

        both : AreFormed 5 (edges_code c (block_env c place block) (place + length (inner_code c place block)) b (next_blocks block.term)) × AreFormed 5 (exit_code c meet block.term labels (next_blocks block.term) one met wanted (block_env c place block) (way_of block.term) (place + length (block_code c place b block)))
        both = ends_formed (block_env c place block) _ _ block.term ends

-- what holds of each block, and of one that ends at once, holds of the block of a leaf
at_leaf : (c : Context) (b : ℕ) (P : Block → Type 0) → P (record { phis = []; instrs = []; term = Unreachable }) → ((block : Block) → slice_get c.blocks b ≡ Some block → P block) → P (block_at c b)
at_leaf c b P none h = by_list c.blocks b h
  where
    by_list : (bs : List Block) (b : ℕ) → ((block : Block) → slice_get bs b ≡ Some block → P block) → P (block_at (record c { blocks = bs }) b)
    by_list [] b h = none
    by_list (x ∷ bs) zero h = h x refl
    by_list (x ∷ bs) (suc b) h = by_list bs b h

-- ---- the module

empty : {A : Type 0} (xs : List A) → length xs ≡ 0 → xs ≡ []
empty [] e = refl
empty (x ∷ xs) e = absurd (omega (arith, e))

-- one region, which is no loop and has no other part, is a leaf
one_leaf : (p : Program) (list : List Region) → Wired p list → length list ≡ 1 → (wants p list ≡ true → ⊥) → (b : ℕ) × (list ≡ region.Leaf b ∷ [])
one_leaf p [] w one nowhere = absurd (omega (arith, one))
one_leaf p (region.Leaf b ∷ []) w one nowhere = (b, refl)
one_leaf p (region.Then first second target ∷ []) w one nowhere = absurd (nowhere refl)
one_leaf p (region.Loop body head ∷ []) w one nowhere = absurd (nowhere refl)
one_leaf p (region.Dispatch arms ∷ []) w one nowhere = absurd (nowhere refl)
one_leaf p (region.Arms first arms ∷ []) w one nowhere =
    let none : first < 0 = w.later 0 0 first (record { region = region.Arms first arms; stands = refl; part = refl }) in
    absurd (omega (arith, none))
one_leaf p (x ∷ y ∷ list) w one nowhere = absurd (omega (arith, one))

module _ (p : Program) (list : List Region) (plan : Plan) (wired : Wired p list) (is_plan : IsPlan p list plan) (one : plan.regions ≡ 1) (none : length plan.slots + length plan.table ≡ 0) where
  abbrev c : Context
  c = context_of p plan

  no_slots : plan.slots ≡ []
  no_slots = empty plan.slots (omega (arith, none))

  no_table : plan.table ≡ []
  no_table = empty plan.table (omega (arith, none))

  no_variable : (s : Slot) → slot_id plan s ≡ None
  no_variable s = ap (λ slots. place_from (slots_from plan) slots s) no_slots

  no_wants : wants p list ≡ true → ⊥
  no_wants e =
      let there = is_plan.want e in
      let clash : None ≡ Some there.0 = sym (no_variable Want) ∙ there.1 in
      absurd (cc clash)

  leaf : (b : ℕ) × (list ≡ region.Leaf b ∷ [])
  leaf = one_leaf p list wired (sym is_plan.serves.regions ∙ one) no_wants

  leaf_stands : slice_get list 0 ≡ Some (region.Leaf leaf.0)
  leaf_stands = ap (λ xs. slice_get xs 0) leaf.1

  no_key : AreNone p (regions_keys p (wants p list) list)
  no_key g at known =
      let rest : List Global = want_keys p (wants p list) ++ regions_keys p (wants p list) list in
      let there : has_key (table_of p list (wants p list) plan.slots) g ≡ true = all_have p (slots_keys plan.slots ++ rest) [] g (among_back g (slots_keys plan.slots) rest (among_back g (want_keys p (wants p list)) (regions_keys p (wants p list) list) at)) known in
      let clash : false ≡ true = ap (λ table. has_key table g) (sym no_table ∙ is_plan.table) ∙ there in
      true_false (sym clash)

  -- nothing is wanted when the leaf is over
  no_target : (block : Block) → slice_get p.blocks leaf.0 ≡ Some block → (k : ℕ) → has k (targets block.term) ≡ true → ⊥
  no_target block stands k branch =
      let same : wired.root ≡ 0 = omega (arith, wired.last, ap length leaf.1) in
      let at_root : slice_get list wired.root ≡ Some (region.Leaf leaf.0) = subst (λ r. slice_get list r ≡ Some (region.Leaf leaf.0)) (sym same) leaf_stands in
      wired.over k (leaf_wants at_root (subst (λ o. has k (targets_in o) ≡ true) (sym stands) branch))

  pub bare_body : (place : ℕ) → AreFormed 5 (body_code p plan (root_of list) place)
  bare_body place =
      subst (λ xs. AreFormed 5 (body_code p plan (root_of xs) place)) (sym leaf.1) (at_leaf c leaf.0 Formed (formed false (record { phis = []; instrs = []; term = Unreachable }) (λ g at known. at) (λ k branch. true_false (sym branch))) (λ block stands. formed (wants p list) block (λ g at known. no_key g (leaf_among p (wants p list) list 0 leaf.0 block g leaf_stands stands at) known) (no_target block stands)))
    where
      Formed : Block → Type 0
      Formed block =
          AreFormed 5 (leaf_code c place (chosen_label 0) leaf.0 block (arm_label No_arm) (λ k q. one_arm c k q No_arm) (λ q. met_arms c (chosen_label 0) q No_arm) (λ q. wanted_arms c q No_arm))

      formed : (w : Bool) (block : Block) → AreNone p (block_keys p w block) → ((k : ℕ) → has k (targets block.term) ≡ true → ⊥) → Formed block
      formed w block h nowhere =
          block_formed p c (no_variable Want) place (chosen_label 0) leaf.0 (arm_label No_arm) (λ k q. one_arm c k q No_arm) (λ q. met_arms c (chosen_label 0) q No_arm) (λ q. wanted_arms c q No_arm) w block h nowhere

  pub bare_holds : Holds 5 list plan
  bare_holds =
      record {
        types = omega arith;
        sites = λ r lt. (omega arith, omega (arith, lt, ap length leaf.1));
        opens = subst (λ xs. IsIdBelow 5 (opening_label (root_of xs))) (sym leaf.1) (omega arith, omega arith);
        slots = λ k lt. absurd (omega (arith, lt, none));
        table = λ k lt. absurd (omega (arith, lt, none));
      }
