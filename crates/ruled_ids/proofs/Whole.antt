-- Each id of the module of a program is defined once.
use Rattle.std.proofs.Common.{◌≡◌, ◌⊎◌, inl, inr, ⊎_elim, ℕ, zero, suc, ◌+◌, ◌-◌, ◌<◌, ◌≤◌, Bool, true, false, List, [], ◌∷◌, ◌++◌, length, length-append, take, Option, Some, None, refl, sym, ap, ◌∙◌, subst, arith}
use Rattle.std.specs.Prelude.{slice_get, nat_eq, nat_lt, if◌then◌else◌}
use Rattle.std.specs.Option.{option_map_or}
use Rattle.dxil_form.specs.declared.program.Program.{Program}
use Rattle.dxil_form.specs.declared.region.Region.{Region}
use Rattle.dxil_form.specs.Wired.{Wired}
use Rattle.spv_form.specs.declared.module.Inst.{Inst}
use Rattle.spv_form.specs.declared.module.Version.{Version}
use Rattle.spv_ids.specs.Roles.{result_of, defines}
use Rattle.spv_ids.specs.Ids.{definer}
use Rattle.spv_ids.specs.Places.{stands_before}
use Rattle.id_rules.specs.Uses.{is_defined_again}
use Rattle.spirv_meaning.specs.Names.{label_of}
use Rattle.spirv_meaning.specs.Bindings.{Bindings}
use Rattle.spirv_code.specs.Plans.{Plan, Context, slots_from, table_from, results_from, global_id, context_of}
use Rattle.spirv_code.specs.Trees.{root_of, label_at, begins_plainly}
use Rattle.spirv_code.specs.Exits.{label_inst}
use Rattle.spirv_code.specs.Rows.{onwards, row_code}
use Rattle.spirv_code.specs.Frame.{head, names, function_types, opening, opening_label, frame, closing, insts_of, module_of}
use Rattle.frame_facts.specs.Inner.{Owns}
use Rattle.frame_facts.proofs.Searches.{Each, each_weaker, each_at, inj, if_so, if_not}
use Rattle.frame_facts.proofs.Labels.{get_either}
use Rattle.frame_facts.proofs.InnerRows.{IsLabelOf, label_owned}
use Rattle.frame_facts.proofs.Spread.{body, ending, decs, decls, variables, from_slots, from_function, from_types, from_names, is_spread, names_each, opening_owned, label_below}
use Rattle.frame_facts.proofs.Results.{frame_long}
use Rattle.frame_facts.proofs.Regions.{once}
use Rattle.frame_facts.proofs.Wiring.{root_owned}
use Rattle.module_form.proofs.Gathered.{is_decoration, decorations_each}
use Rattle.ruled_ids.specs.Laws.{DefineOnce, ModulesDefineOnce}
use Rattle.ruled_ids.proofs.Lists.{take_at, some_passes, position_is, defines_it, defined_is}
use Rattle.ruled_ids.proofs.Seats.{Seated, bare, own, of_region, AreSeated, branch_is, label_is, region_label, seated_append}
use Rattle.ruled_ids.proofs.SeatedRows.{row_seated}
use Rattle.ruled_ids.proofs.Declared.{head_none, name_none, decoration_none, closing_none, void_is, function_type_is, function_is, declarations_at, slots_at}

-- what an instruction at a place defines: a label of a region, or an id from which its place follows
data Defines (Mine : ℕ → Type 0) (first : ℕ) (seat : ℕ → ℕ) (place id : ℕ) (i : Inst) : Type 0 where
  labels : IsLabelOf Mine id → i ≡ label_inst id → Defines Mine first seat place id i
  seats : (id < 4) ⊎ (first ≤ id) → place ≡ seat id → Defines Mine first seat place id i

seated_at : (c : Context) (M : ℕ → Type 0) (place : ℕ) (code : List Inst) (k : ℕ) (i : Inst) → AreSeated c M place code → slice_get code k ≡ Some i → Seated c M (place + k) i
seated_at c M place [] k i h e = absurd (cc)
seated_at c M place (x ∷ code) zero i h e =
    let same : place ≡ place + 0 = omega arith in
    subst (λ n. Seated c M n i) same (subst (Seated c M place) (inj e) h.0)
seated_at c M place (x ∷ code) (suc k) i h e =
    let same : place + 1 + k ≡ place + suc k = omega arith in
    subst (λ n. Seated c M n i) same (seated_at c M (place + 1) code k i h.1 e)

less : (a b : ℕ) → a < b → nat_lt a b ≡ true
less a b h = grind arith

not_less : (a b : ℕ) → b ≤ a → nat_lt a b ≡ false
not_less a b h = grind arith

no_result : (i : Inst) (id : ℕ) → result_of i ≡ None → result_of i ≡ Some id → ⊥
no_result i id none some = absurd (let clash : None ≡ Some id = sym none ∙ some in cc clash)

module _ (p : Program) (list : List Region) (at : Bindings) (v : Version) (plan : Plan) (w : Wired p list) (regions : plan.regions ≡ length list) where
  abbrev c : Context
  c = context_of p plan

  abbrev Mine : ℕ → Type 0
  Mine r = r < plan.regions

  owned : Owns Mine (root_of list)
  owned = subst (λ n. Owns (λ r. r < n) (root_of list)) (sym regions) (root_owned p list w)

  -- ---- places

  -- of the types, of the declarations, of the function and of its variables
  abbrev types : ℕ
  types = length (head p v plan) + length (names 0 list) + length (decs p list at v plan)

  abbrev keys : ℕ
  keys = types + 2

  abbrev function : ℕ
  function = keys + length (decls p list at v plan)

  abbrev locals : ℕ
  locals = function + 2

  abbrev low : ℕ
  low = length (frame p list at v plan)

  low_is : locals + length (variables p list at v plan) ≡ low
  low_is =
      let opens = opening plan (root_of list) in
      let four = length-append (decls p list at v plan) opens in
      let three = length-append (decs p list at v plan) (function_types ++ (decls p list at v plan ++ opens)) in
      let two = length-append (names 0 list) (decs p list at v plan ++ (function_types ++ (decls p list at v plan ++ opens))) in
      let one = length-append (head p v plan) (names 0 list ++ (decs p list at v plan ++ (function_types ++ (decls p list at v plan ++ opens)))) in
      omega (arith, one, two, three, four)

  abbrev top : ℕ
  top = table_from plan + length plan.table

  -- the place at which an id is defined that is no label of a region
  seat : ℕ → ℕ
  seat id =
      if nat_lt id 4 then (if nat_eq id 1 then function else (if nat_eq id 2 then types else types + 1))
      else
      (if nat_lt id (table_from plan) then locals + (id - slots_from plan)
      else (if nat_lt id top then keys + (id - table_from plan) else id - results_from plan))

  function_seat : function ≡ seat 1
  unfolding seat
  function_seat = refl

  void_seat : types ≡ seat 2
  unfolding seat
  void_seat = refl

  type_seat : types + 1 ≡ seat 3
  unfolding seat
  type_seat = refl

  local_seat : (k : ℕ) → k < length plan.slots → locals + k ≡ seat (slots_from plan + k)
  unfolding seat
  local_seat k low_k =
      let same : locals + (slots_from plan + k - slots_from plan) ≡ locals + k = omega arith in
      sym (if_not (nat_lt (slots_from plan + k) 4) (not_less _ _ (omega arith)) _ _ ∙ if_so (nat_lt (slots_from plan + k) (table_from plan)) (less _ _ (omega (arith, low_k))) _ _ ∙ same)

  key_seat : (k : ℕ) → k < length plan.table → keys + k ≡ seat (table_from plan + k)
  unfolding seat
  key_seat k low_k =
      let same : keys + (table_from plan + k - table_from plan) ≡ keys + k = omega arith in
      sym (if_not (nat_lt (table_from plan + k) 4) (not_less _ _ (omega arith)) _ _ ∙ if_not (nat_lt (table_from plan + k) (table_from plan)) (not_less _ _ (omega arith)) _ _ ∙ if_so (nat_lt (table_from plan + k) top) (less _ _ (omega (arith, low_k))) _ _ ∙ same)

  own_seat : (j : ℕ) → low ≤ j → j ≡ seat (results_from plan + j)
  unfolding seat
  own_seat j there =
      let long = frame_long p list at v plan in
      let same : results_from plan + j - results_from plan ≡ j = omega arith in
      sym (if_not (nat_lt (results_from plan + j) 4) (not_less _ _ (omega arith)) _ _ ∙ if_not (nat_lt (results_from plan + j) (table_from plan)) (not_less _ _ (omega (arith, there, long))) _ _ ∙ if_not (nat_lt (results_from plan + j) top) (not_less _ _ (omega (arith, there, long))) _ _ ∙ same)

  -- ---- what stands where

  abbrev Def : ℕ → ℕ → Inst → Type 0
  Def j id i = Defines Mine (slots_from plan) seat j id i

  -- an instruction that defines this id
  defined : (j m id : ℕ) (i : Inst) → (m < 4) ⊎ (slots_from plan ≤ m) → j ≡ seat m → result_of i ≡ Some m → result_of i ≡ Some id → Def j id i
  defined j m id i out place is e =
      let same : m ≡ id = inj (sym is ∙ e) in
      subst (λ n. Def j n i) same (seats out place)

  body_seated : AreSeated c Mine low (body p list at v plan)
  body_seated = by_test (begins_plainly (root_of list))
    where
      by_test : (t : Bool) → AreSeated c Mine low (if t then row_code c low (root_of list) else (onwards (label_at (root_of list)) ++ row_code c (low + length (onwards (label_at (root_of list)))) (root_of list)))
      by_test true = row_seated c Mine (root_of list) low owned
      by_test false =
          seated_append c Mine low (onwards (label_at (root_of list))) _ (bare (branch_is (label_at (root_of list))), (region_label c Mine (low + 1) (label_at (root_of list)) (label_owned Mine (root_of list) owned), tt)) (row_seated c Mine (root_of list) (low + length (onwards (label_at (root_of list)))) owned)

  in_body : (j k id : ℕ) (i : Inst) → j ≡ low + k → slice_get (body p list at v plan) k ≡ Some i → result_of i ≡ Some id → Def j id i
  in_body j k id i place there e = by_seat (seated_at c Mine low (body p list at v plan) k i body_seated there)
    where
      by_seat : Seated c Mine (low + k) i → Def j id i
      by_seat (bare none) = absurd (no_result i id none e)
      by_seat (own is) =
          let long = frame_long p list at v plan in
          defined j (results_from plan + (low + k)) id i (inr (omega arith)) (place ∙ own_seat (low + k) (omega arith)) is e
      by_seat (of_region m h is) =
          let same : m ≡ id = inj (sym (label_is m) ∙ ap result_of (sym is) ∙ e) in
          subst (λ n. Def j n i) same (labels h is)

  in_ending : (j k id : ℕ) (i : Inst) → j ≡ low + k → slice_get (ending p list at v plan) k ≡ Some i → result_of i ≡ Some id → Def j id i
  in_ending j k id i place there e = ⊎_elim (λ f. in_body j k id i place f e) (λ r. absurd (no_result i id (each_at (λ x. result_of x ≡ None) closing r.0 i closing_none r.2) e)) (get_either (body p list at v plan) closing k i there)

  in_slots : (j k id : ℕ) (i : Inst) → j ≡ locals + k → slice_get (from_slots p list at v plan) k ≡ Some i → result_of i ≡ Some id → Def j id i
  in_slots j k id i place there e = ⊎_elim here (λ r. in_ending j r.0 id i (let is = r.1 in omega (arith, place, is, low_is)) r.2 e) (get_either (variables p list at v plan) (ending p list at v plan) k i there)
    where
      here : slice_get (variables p list at v plan) k ≡ Some i → Def j id i
      here f =
          let s = slots_at (global_id plan) (slots_from plan) plan.slots k i f in
          defined j (slots_from plan + k) id i (inr (omega arith)) (place ∙ local_seat k s.1) s.0 e

  in_function : (j k id : ℕ) (i : Inst) → j ≡ function + k → slice_get (from_function p list at v plan) k ≡ Some i → result_of i ≡ Some id → Def j id i
  in_function j zero id i place there e =
      let same : function + 0 ≡ function = omega arith in
      defined j 1 id i (inl (omega arith)) (place ∙ same ∙ function_seat) (ap result_of (inj (sym there)) ∙ function_is) e
  in_function j (suc zero) id i place there e =
      let is : i ≡ label_inst (opening_label (root_of list)) = inj (sym there) in
      let same : opening_label (root_of list) ≡ id = inj (sym (label_is (opening_label (root_of list))) ∙ ap result_of (sym is) ∙ e) in
      subst (λ n. Def j n i) same (labels (opening_owned p list at v plan Mine owned) is)
  in_function j (suc (suc k)) id i place there e = in_slots j k id i (omega (arith, place)) there e

  in_types : (j k id : ℕ) (i : Inst) → j ≡ types + k → slice_get (from_types p list at v plan) k ≡ Some i → result_of i ≡ Some id → Def j id i
  in_types j zero id i place there e =
      let same : types + 0 ≡ types = omega arith in
      defined j 2 id i (inl (omega arith)) (place ∙ same ∙ void_seat) (ap result_of (inj (sym there)) ∙ void_is) e
  in_types j (suc zero) id i place there e =
      defined j 3 id i (inl (omega arith)) (place ∙ type_seat) (ap result_of (inj (sym there)) ∙ function_type_is) e
  in_types j (suc (suc k)) id i place there e = ⊎_elim here (λ r. in_function j r.0 id i (let is = r.1 in omega (arith, place, is)) r.2 e) (get_either (decls p list at v plan) (from_function p list at v plan) k i there)
    where
      here : slice_get (decls p list at v plan) k ≡ Some i → Def j id i
      here f =
          let d = declarations_at p (global_id plan) (table_from plan) plan.table k i f in
          let there : j ≡ keys + k = omega (arith, place) in
          defined j (table_from plan + k) id i (inr (omega arith)) (there ∙ key_seat k d.1) d.0 e

  in_names : (j k id : ℕ) (i : Inst) → j ≡ length (head p v plan) + k → slice_get (from_names p list at v plan) k ≡ Some i → result_of i ≡ Some id → Def j id i
  in_names j k id i place there e = ⊎_elim (λ f. absurd (no_result i id (each_at (λ x. result_of x ≡ None) (names 0 list) k i (names_each p list at v plan 0 list (λ x. result_of x ≡ None) name_none) f) e)) (λ r. behind r.0 r.1 r.2) (get_either (names 0 list) _ k i there)
    where
      remarks : Each (λ x. result_of x ≡ None) (decs p list at v plan)
      remarks =
          each_weaker (λ x. is_decoration x.opcode ≡ true) (λ x. result_of x ≡ None) decoration_none (decs p list at v plan) (decorations_each p at (table_from plan) plan.table)

      behind : (m : ℕ) → k ≡ length (names 0 list) + m → slice_get (decs p list at v plan ++ from_types p list at v plan) m ≡ Some i → Def j id i
      behind m is f = ⊎_elim (λ g. absurd (no_result i id (each_at (λ x. result_of x ≡ None) (decs p list at v plan) m i remarks g) e)) (λ r. in_types j r.0 id i (let more = r.1 in omega (arith, place, is, more)) r.2 e) (get_either (decs p list at v plan) (from_types p list at v plan) m i f)

  all_defined : (j id : ℕ) (i : Inst) → slice_get (insts_of p list at v plan) j ≡ Some i → result_of i ≡ Some id → Def j id i
  all_defined j id i there e =
      ⊎_elim (λ f. absurd (no_result i id (each_at (λ x. result_of x ≡ None) (head p v plan) j i (head_none p v plan) f) e)) (λ r. in_names j r.0 id i r.1 r.2 e) (get_either (head p v plan) (from_names p list at v plan) j i (ap (λ xs. slice_get xs j) (sym (is_spread p list at v plan)) ∙ there))

  -- ---- the theorem

  abbrev insts : List Inst
  insts = insts_of p list at v plan

  label_out : (id : ℕ) → IsLabelOf Mine id → (id < 4) ⊎ (slots_from plan ≤ id) → ⊥
  label_out id h out =
      let below = label_below p list at v plan id h in
      let is = h.is in
      ⊎_elim (λ low_id. omega (arith, low_id, is)) (λ high. omega (arith, high, below)) out

  defined_once : (j k id : ℕ) (x y : Inst) → slice_get insts j ≡ Some x → slice_get insts k ≡ Some y → result_of x ≡ Some id → result_of y ≡ Some id → j ≡ k
  defined_once j k id x y ex ey hx hy = both (all_defined j id x ex hx) (all_defined k id y ey hy)
    where
      both : Def j id x → Def k id y → j ≡ k
      both (labels h is) (labels h' is') =
          once p list at v plan w regions j k id x y ex ey (ap label_of is) (ap label_of is')
      both (labels h is) (seats out place) = absurd (label_out id h out)
      both (seats out place) (labels h is) = absurd (label_out id h out)
      both (seats out place) (seats out' place') = place ∙ sym place'

  none_again : (k : ℕ) (x : Inst) → slice_get insts k ≡ Some x → is_defined_again insts k x ≡ false
  unfolding is_defined_again
  none_again k x there = by_result (result_of x) refl
    where
      by_any : (id : ℕ) → result_of x ≡ Some id → (t : Bool) → stands_before (defines id) insts k ≡ t → t ≡ false
      by_any id is false f = refl
      by_any id is true f =
          let some = some_passes (defines id) (take k insts) f in
          let before = take_at insts k some.0 some.1.0 some.1.1 in
          let same = defined_once some.0 k id some.1.0 x before.1 there (defined_is some.1.0 id some.1.2) is in
          let low_k : some.0 < k = before.0 in
          absurd (omega (arith, same, low_k))

      by_result : (o : Option ℕ) → result_of x ≡ o → option_map_or (λ id. stands_before (defines id) insts k) o false ≡ false
      by_result None is = refl
      by_result (Some id) is = by_any id is (stands_before (defines id) insts k) refl

  definer_there : (k id : ℕ) (x : Inst) → slice_get insts k ≡ Some x → result_of x ≡ Some id → definer insts id ≡ Some k
  definer_there k id x there is =
      position_is (defines id) insts k x there (defines_it x id is) earlier
    where
      earlier : (j : ℕ) (y : Inst) → j < k → slice_get insts j ≡ Some y → defines id y ≡ false
      earlier j y before at_j = by_test (defines id y) refl
        where
          by_test : (t : Bool) → defines id y ≡ t → t ≡ false
          by_test false f = refl
          by_test true f =
              let same = defined_once j k id y x at_j there (defined_is y id f) is in
              absurd (omega (arith, same, before))

  pub define_once : DefineOnce (module_of p list at v plan).insts
  define_once = record { once = defined_once; not_again = none_again; definer_is = definer_there }

pub modules_define_once : ModulesDefineOnce
modules_define_once p list at v plan w regions = define_once p list at v plan w regions
