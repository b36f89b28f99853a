-- The module of a sound program keeps its order.
use Rattle.std.proofs.Common.{◌≡◌, ⊎_elim, ℕ, zero, suc, ◌+◌, ◌*◌, ◌≤◌, Bool, true, false, not, List, [], ◌∷◌, ◌++◌, length, Option, Some, refl, sym, ap, ◌∙◌, subst, arith, append_assoc}
use Rattle.std.specs.Prelude.{◌&&◌, ◌||◌, nat_le, slice_get, get_or, if◌then◌else◌}
use Rattle.std.proofs.lemmas.List.Elements.{All-head, All-tail}
use Rattle.std.specs.List.{list_any}
use Rattle.dxil_form.specs.declared.program.Program.{Program}
use Rattle.dxil_form.specs.declared.region.Region.{Region}
use Rattle.dxil_form.specs.Sound.{Sound, LocalFits}
use Rattle.dxil_form.specs.Wired.{Wired}
use Rattle.spv_form.specs.declared.module.Inst.{Inst}
use Rattle.spv_form.specs.declared.module.Version.{Version}
use Rattle.spv_ids.specs.Places.{is_op, stands_before}
use Rattle.order_rules.specs.declared.order.Phase.{Phase}
use Rattle.order_rules.specs.declared.order.Phase.TheVariants as phase
use Rattle.order_rules.specs.Order.{part, phase_behind}
use Rattle.order_rules.specs.Once.{is_once, has_numbers, is_wrong_once, is_at_head, is_placed, has, has_four}
use Rattle.module_rules.specs.Entry.{is_count, is_size, is_wrong_size, has_many_pairs}
use Rattle.spirv_meaning.specs.Bindings.{Bindings}
use Rattle.spirv_code.specs.declared.key.Global.{Global}
use Rattle.spirv_code.specs.declared.key.Slot.{Slot}
use Rattle.spirv_code.specs.Plans.{Plan, inst, context_of, slots_from, table_from}
use Rattle.spirv_code.specs.Exits.{label_inst}
use Rattle.spirv_code.specs.Trees.{label_at, begins_plainly, root_of}
use Rattle.spirv_code.specs.Rows.{onwards, row_code}
use Rattle.spirv_code.specs.Leaves.{followed}
use Rattle.spirv_code.specs.Frame.{opening_label, head, names, slot_variables, frame, closing, insts_of}
use Rattle.frame_facts.proofs.Searches.{Each, each_append, each_weaker, each_at, get_below, inj}
use Rattle.frame_facts.proofs.Labels.{get_either}
use Rattle.frame_facts.proofs.Spread.{ids, body, ending, decs, decls, variables, is_spread, names_each}
use Rattle.module_form.proofs.Gathered.{is_decoration, decorations_each}
use Rattle.frame_order.specs.Laws.{KeepsOrder, ModulesKeepOrder}
use Rattle.frame_order.proofs.Leads.{is_inside, Leads, ends, inside, closes, opens, onwards_leads}
use Rattle.frame_order.proofs.Rows.{row_leads}
use Rattle.frame_order.proofs.Narrow.{root_narrow}
use Rattle.frame_order.proofs.Frame.{Calm, is_calm, calm, terminator_calm, Early, early_name, early_void, early_function, early_decoration, declarations_early}
use Rattle.frame_order.proofs.Phases.{behind, behind_append, leads_behind, Reaches, early_behind, slots_stay, never_out}
use Rattle.frame_order.proofs.Variables.{at_head, local_placed}

-- ---- single instructions

leads_calm : {a b : Bool} (xs : List Inst) → Leads a xs b → Each Calm xs
leads_calm [] ends = tt
leads_calm (x ∷ xs) (inside e h) = (calm x (other x.opcode e), leads_calm xs h)
  where
    other : (n : ℕ) → is_inside n ≡ true → is_calm n ≡ true
    other n e = grind arith
leads_calm (x ∷ xs) (closes e few h) = (terminator_calm x e few, leads_calm xs h)
leads_calm (x ∷ xs) (opens {id = id} h) = (calm (label_inst id) refl, leads_calm xs h)

-- what may stand anywhere
abbrev IsFree : Inst → Type 0
IsFree x = (insts : List Inst) (at : ℕ) → is_placed insts at x ≡ true

-- the thread counts are in their bounds
size_fits : (local : List ℕ) → LocalFits local → is_size (get_or local 0 0) (get_or local 1 0) (get_or local 2 0) ≡ true
size_fits (x ∷ y ∷ z ∷ []) h =
    let least_x : 1 ≤ x = All-head (λ n. 1 ≤ n) x (y ∷ z ∷ []) h.least in
    let rest = All-tail (λ n. 1 ≤ n) x (y ∷ z ∷ []) h.least in
    let least_y : 1 ≤ y = All-head (λ n. 1 ≤ n) y (z ∷ []) rest in
    let least_z : 1 ≤ z = All-head (λ n. 1 ≤ n) z [] (All-tail (λ n. 1 ≤ n) y (z ∷ []) rest) in
    both _ _ (counted 1024 x least_x h.x) (both _ _ (counted 1024 y least_y h.y) (both _ _ (counted 64 z least_z h.z) (at_most (x * y * z) 1024 h.product)))
  where
    at_most : (a b : ℕ) → a ≤ b → nat_le a b ≡ true
    at_most a b h = grind arith

    both : (a b : Bool) → a ≡ true → b ≡ true → (a && b) ≡ true
    both a b e f = ap (λ c. c && b) e ∙ f

    counted : (most n : ℕ) → 1 ≤ n → n ≤ most → is_count most n ≡ true
    counted most n least low = both _ _ (at_most 1 n least) (at_most n most low)
size_fits [] h = absurd (omega (arith, h.three))
size_fits (x ∷ []) h = absurd (omega (arith, h.three))
size_fits (x ∷ y ∷ []) h = absurd (omega (arith, h.three))
size_fits (x ∷ y ∷ z ∷ u ∷ more) h = absurd (omega (arith, h.three))

-- the first four, which stand once
module _ (p : Program) (v : Version) (plan : Plan) where
  at_once : (rest : List Inst) → Each (λ x. is_once x.opcode ≡ false) rest → (at : ℕ) (x : Inst) → slice_get (head p v plan ++ rest) at ≡ Some x → is_wrong_once (head p v plan ++ rest) at x ≡ false
  unfolding is_wrong_once has_numbers
  at_once rest h zero x e = subst (λ y. is_wrong_once (head p v plan ++ rest) 0 y ≡ false) (inj e) refl
  at_once rest h (suc zero) x e = subst (λ y. is_wrong_once (head p v plan ++ rest) 1 y ≡ false) (inj e) refl
  at_once rest h (suc (suc zero)) x e = subst (λ y. is_wrong_once (head p v plan ++ rest) 2 y ≡ false) (inj e) refl
  at_once rest h (suc (suc (suc zero))) x e = subst (λ y. is_wrong_once (head p v plan ++ rest) 3 y ≡ false) (inj e) refl
  at_once rest h (suc (suc (suc (suc k)))) x e =
      ap (λ b. b && (not (has_numbers x) || stands_before (is_op x.opcode) (head p v plan ++ rest) (suc (suc (suc (suc k)))))) (each_at (λ x. is_once x.opcode ≡ false) rest k x h e)

  head_sized : LocalFits p.local → Each (λ x. is_wrong_size x ≡ false) (head p v plan)
  unfolding is_wrong_size
  head_sized fits = (refl, (refl, (refl, (ap not (size_fits p.local fits), tt))))

  head_paired : Each (λ x. has_many_pairs x ≡ false) (head p v plan)
  unfolding has_many_pairs
  head_paired = (refl, (refl, (refl, (refl, tt))))

  head_placed : Each IsFree (head p v plan)
  unfolding is_placed
  head_placed = (λ insts at. refl, (λ insts at. refl, (λ insts at. refl, (λ insts at. refl, tt))))

  head_behind : behind (Some (phase.Global 0)) (head p v plan) ≡ Some (phase.Global 3)
  unfolding part
  head_behind = refl

-- from the function on
begun : (k id : ℕ) (xs : List Inst) → behind (Some (phase.Global k)) (inst 54 (2 ∷ 1 ∷ 0 ∷ 3 ∷ []) ∷ label_inst id ∷ xs) ≡ behind (Some phase.Block) xs
unfolding part
begun k id xs = refl

closed : behind (Some phase.Block) closing ≡ Some phase.Closed
unfolding part
closed = refl

any_behind : (test : Inst → Bool) (xs ys : List Inst) → list_any test ys ≡ true → list_any test (xs ++ ys) ≡ true
any_behind test [] ys h = h
any_behind test (x ∷ xs) ys h = ap (λ b. test x || b) (any_behind test xs ys h) ∙ or_true (test x)
  where
    or_true : (b : Bool) → (b || true) ≡ true
    or_true true = refl
    or_true false = refl

-- ---- the variables of the function

record Local (x : Inst) : Type 0 where
  once : is_once x.opcode ≡ false
  sized : is_wrong_size x ≡ false
  paired : has_many_pairs x ≡ false
  variable : is_op 59 x ≡ true
  placed : (insts : List Inst) (at : ℕ) → is_at_head insts at ≡ true → is_placed insts at x ≡ true

slots_local : (ids : Global → ℕ) (n : ℕ) (slots : List Slot) → Each Local (slot_variables ids n slots)
unfolding is_wrong_size has_many_pairs
slots_local ids n [] = tt
slots_local ids n (s ∷ slots) =
    (record { once = refl; sized = refl; paired = refl; variable = refl; placed = λ insts at h. local_placed insts at _ n _ h }, slots_local ids (suc n) slots)

-- ---- the module

module _ (p : Program) (list : List Region) (at : Bindings) (v : Version) (plan : Plan) (sound : Sound p) (w : Wired p list) where
  abbrev first : ℕ
  first = opening_label (root_of list)

  abbrev begin : Inst
  begin = inst 54 (2 ∷ 1 ∷ 0 ∷ 3 ∷ [])

  abbrev locals : List Inst
  locals = variables p list at v plan

  abbrev types : List Inst
  types = inst 19 (2 ∷ []) ∷ inst 33 (3 ∷ 2 ∷ []) ∷ decls p list at v plan

  -- behind the first four, up to the function's first label
  abbrev front : List Inst
  front = names 0 list ++ (decs p list at v plan ++ (types ++ begin ∷ []))

  -- and behind that
  abbrev rest : List Inst
  rest = label_inst first ∷ (locals ++ ending p list at v plan)

  insts_are : insts_of p list at v plan ≡ head p v plan ++ (front ++ rest)
  insts_are =
      let three = append_assoc types (begin ∷ []) rest in
      let two = append_assoc (decs p list at v plan) (types ++ begin ∷ []) rest in
      let one = append_assoc (names 0 list) (decs p list at v plan ++ (types ++ begin ∷ [])) rest in
      is_spread p list at v plan ∙ ap (λ xs. head p v plan ++ xs) (sym (one ∙ ap (λ xs. names 0 list ++ xs) (two ∙ ap (λ xs. decs p list at v plan ++ xs) three)))

  names_early : Each (Early 4) (names 0 list)
  names_early = names_each p list at v plan 0 list (Early 4) early_name

  decs_early : Each (Early 5) (decs p list at v plan)
  decs_early = each_weaker (λ i. is_decoration i.opcode ≡ true) (Early 5) early_decoration (decs p list at v plan) (decorations_each p at (table_from plan) plan.table)

  types_early : Each (Early 6) types
  types_early = (early_void, (early_function, declarations_early p (ids p list at v plan) (table_from plan) plan.table))

  front_each : (P : Inst → Type 0) → ((n : ℕ) (x : Inst) → Early n x → P x) → P begin → Each P front
  front_each P h b =
      each_append P (names 0 list) (decs p list at v plan ++ (types ++ begin ∷ [])) (each_weaker (Early 4) P (h 4) (names 0 list) names_early) (each_append P (decs p list at v plan) (types ++ begin ∷ []) (each_weaker (Early 5) P (h 5) (decs p list at v plan) decs_early) (each_append P types (begin ∷ []) (each_weaker (Early 6) P (h 6) types types_early) (b, tt)))

  -- ---- the order

  body_leads : Leads true (body p list at v plan) true
  body_leads = by_test (begins_plainly (root_of list))
    where
      n : ℕ
      n = length (frame p list at v plan)

      by_test : (b : Bool) → Leads true (if b then row_code (context_of p plan) n (root_of list) else followed n (onwards (label_at (root_of list))) (λ q. row_code (context_of p plan) q (root_of list))) true
      by_test true = row_leads (context_of p plan) (root_of list) n (root_narrow p list sound w)
      by_test false = onwards_leads (row_leads (context_of p plan) (root_of list) (n + 2) (root_narrow p list sound w))

  from_function : (k : ℕ) → behind (Some (phase.Global k)) (begin ∷ rest) ≡ Some phase.Closed
  from_function k =
      begun k first (locals ++ ending p list at v plan) ∙ behind_append (Some phase.Block) locals (ending p list at v plan) ∙ ap (λ o. behind o (ending p list at v plan)) (slots_stay (ids p list at v plan) (slots_from plan) plan.slots) ∙ behind_append (Some phase.Block) (body p list at v plan) closing ∙ ap (λ o. behind o closing) (leads_behind (body p list at v plan) body_leads) ∙ closed

  reached : phase_behind (insts_of p list at v plan) ≡ Some phase.Closed
  reached =
      let named : Option Phase = behind (Some (phase.Global 3)) (names 0 list) in
      let decorated : Option Phase = behind named (decs p list at v plan) in
      let one : Reaches named 4 = early_behind (Some (phase.Global 3)) 3 4 (names 0 list) (omega arith) (record { part_at = 3; low = omega arith; is = refl }) names_early in
      let two : Reaches decorated 5 = early_behind named 4 5 (decs p list at v plan) (omega arith) one decs_early in
      let three : Reaches (behind decorated types) 6 = early_behind decorated 5 6 types (omega arith) two types_early in
      ap phase_behind (is_spread p list at v plan) ∙ behind_append (Some (phase.Global 0)) (head p v plan) (names 0 list ++ (decs p list at v plan ++ (types ++ begin ∷ rest))) ∙ ap (λ o. behind o (names 0 list ++ (decs p list at v plan ++ (types ++ begin ∷ rest)))) (head_behind p v plan) ∙ behind_append (Some (phase.Global 3)) (names 0 list) (decs p list at v plan ++ (types ++ begin ∷ rest)) ∙ behind_append named (decs p list at v plan) (types ++ begin ∷ rest) ∙ behind_append decorated types (begin ∷ rest) ∙ ap (λ o. behind o (begin ∷ rest)) three.is ∙ from_function three.part_at

  -- ---- the rules of single instructions

  ending_calm : Each Calm (ending p list at v plan)
  ending_calm =
      each_append Calm (body p list at v plan) closing (leads_calm (body p list at v plan) body_leads) (calm (inst 253 []) refl, (calm (inst 56 []) refl, tt))

  locals_are : Each Local locals
  locals_are = slots_local (ids p list at v plan) (slots_from plan) plan.slots

  -- what holds of all behind the first four
  behind_each : (P : Inst → Type 0) → ((x : Inst) → Calm x → P x) → ((x : Inst) → Local x → P x) → Each P (front ++ rest)
  behind_each P h l =
      each_append P front rest (front_each P (λ n x early. h x early.is_calm) (h begin (calm begin refl))) (h (label_inst first) (calm (label_inst first) refl), each_append P locals (ending p list at v plan) (each_weaker Local P l locals locals_are) (each_weaker Calm P h (ending p list at v plan) ending_calm))

  whole_each : (P : Inst → Type 0) → Each P (head p v plan) → Each P (front ++ rest) → (j : ℕ) (x : Inst) → slice_get (insts_of p list at v plan) j ≡ Some x → P x
  whole_each P h k j x e =
      each_at P (head p v plan ++ (front ++ rest)) j x (each_append P (head p v plan) (front ++ rest) h k) (ap (λ xs. slice_get xs j) (sym insts_are) ∙ e)

  once : (j : ℕ) (x : Inst) → slice_get (insts_of p list at v plan) j ≡ Some x → is_wrong_once (insts_of p list at v plan) j x ≡ false
  once j x e =
      ap (λ xs. is_wrong_once xs j x) insts_are ∙ at_once p v plan (front ++ rest) (behind_each (λ x. is_once x.opcode ≡ false) (λ x h. h.once) (λ x h. h.once)) j x (ap (λ xs. slice_get xs j) (sym insts_are) ∙ e)

  -- up to the label and with it
  abbrev before : List Inst
  before = head p v plan ++ front

  placed_are : insts_of p list at v plan ≡ before ++ rest
  placed_are = insts_are ∙ sym (append_assoc (head p v plan) front rest)

  no_labels : Each (λ x. is_op 248 x ≡ false) before
  no_labels =
      each_append (λ x. is_op 248 x ≡ false) (head p v plan) front (refl, (refl, (refl, (refl, tt)))) (front_each (λ x. is_op 248 x ≡ false) (λ n x early. early.no_label) refl)

  before_free : Each IsFree before
  before_free =
      each_append IsFree (head p v plan) front (head_placed p v plan) (front_each IsFree (λ n x early. early.is_calm.placed) (calm begin refl).placed)

  local_at : (k : ℕ) (x : Inst) → slice_get locals k ≡ Some x → is_placed (before ++ rest) (length before + suc k) x ≡ true
  local_at k x e =
      (each_at Local locals k x locals_are e).placed (before ++ rest) (length before + suc k) (at_head before first locals (ending p list at v plan) k no_labels (each_weaker Local (λ x. is_op 59 x ≡ true) (λ x h. h.variable) locals locals_are) (get_below locals k x e))

  rest_at : (k : ℕ) (x : Inst) → slice_get rest k ≡ Some x → is_placed (before ++ rest) (length before + k) x ≡ true
  rest_at zero x e =
      subst (λ y. is_placed (before ++ rest) (length before + 0) y ≡ true) (inj e) ((calm (label_inst first) refl).placed (before ++ rest) (length before + 0))
  rest_at (suc k) x e =
      ⊎_elim (λ f. local_at k x f) (λ r. (each_at Calm (ending p list at v plan) r.0 x ending_calm r.2).placed (before ++ rest) (length before + suc k)) (get_either locals (ending p list at v plan) k x e)

  placed : (j : ℕ) (x : Inst) → slice_get (insts_of p list at v plan) j ≡ Some x → is_placed (insts_of p list at v plan) j x ≡ true
  placed j x e =
      ap (λ xs. is_placed xs j x) placed_are ∙ ⊎_elim (λ f. each_at IsFree before j x before_free f (before ++ rest) j) (λ r. ap (λ n. is_placed (before ++ rest) n x) r.1 ∙ rest_at r.0 x r.2) (get_either before rest j x (ap (λ xs. slice_get xs j) (sym placed_are) ∙ e))

  has_four_of : has_four (insts_of p list at v plan) ≡ true
  unfolding has_four
  has_four_of = refl

  keeps_order : KeepsOrder (insts_of p list at v plan)
  keeps_order =
      record {
        ordered = never_out (insts_of p list at v plan) phase.Closed reached;
        ended = ap (λ xs. has xs 56) placed_are ∙ any_behind (is_op 56) before rest (any_behind (is_op 56) (label_inst first ∷ locals) (ending p list at v plan) (any_behind (is_op 56) (body p list at v plan) closing refl));
        once = once;
        four = has_four_of;
        begun = ap (λ xs. has xs 248) placed_are ∙ any_behind (is_op 248) before rest refl;
        placed = placed;
        sized = whole_each (λ x. is_wrong_size x ≡ false) (head_sized p v plan sound.local) (behind_each (λ x. is_wrong_size x ≡ false) (λ x h. h.sized) (λ x h. h.sized));
        paired = whole_each (λ x. has_many_pairs x ≡ false) (head_paired p v plan) (behind_each (λ x. has_many_pairs x ≡ false) (λ x h. h.paired) (λ x h. h.paired));
      }

pub modules_keep_order : ModulesKeepOrder
modules_keep_order p list at v plan sound w = keeps_order p list at v plan sound w
