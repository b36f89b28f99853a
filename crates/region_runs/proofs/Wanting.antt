-- The variable of the block that is wanted: stores to it, and tests whether a block is wanted.
use Rattle.std.proofs.Common.{◌≡◌, ℕ, suc, ◌+◌, ◌≤◌, List, [], ◌∷◌, ◌++◌, Some, refl, sym, ap, ◌∙◌, subst, arith}
use Rattle.std.specs.Prelude.{nat_eq, if◌then◌else◌}
use Rattle.spv_form.specs.declared.module.Inst.{Inst}
use Rattle.dxil_meaning.proofs.Simulation.{leads_on}
use Rattle.spirv_meaning.specs.Names.{begun_at}
use Rattle.spirv_meaning.specs.Target.{Word, Truth, Value, State, Stores, Loads, Two_operands, on_tests, value_of, next}
use Rattle.spirv_code.specs.declared.key.Slot.{Slot}
use Rattle.spirv_code.specs.declared.key.Slot.TheVariants.{Want, Pick}
use Rattle.spirv_code.specs.declared.key.Global.TheVariants as global
use Rattle.spirv_code.specs.Plans.{inst, result, number, variable, id_or_0, int_id, bool_id, continue_label, merge_label, passed_label}
use Rattle.spirv_code.specs.Exits.{label_inst, is_wanted}
use Rattle.spirv_code.specs.Rows.{when_head, footer_code}
use Rattle.line_runs.specs.Held.{Has, Uses, machine}
use Rattle.line_runs.specs.Exits.{IsPasser, Keeps}
use Rattle.line_runs.proofs.Tests.{some_inj, with_value_here, with_value_there}
use Rattle.line_runs.proofs.Pieces.{leads_one, has_front}
use Rattle.line_runs.proofs.Results.{gave, fixed_here, result_at, gave_here}
use Rattle.line_runs.proofs.Reading.{load_gives}
use Rattle.line_runs.proofs.Combined.{two_words}
use Rattle.line_runs.proofs.Keeping.{stored_at, store_does}
use Rattle.region_runs.specs.Standing.{HasWant}
use Rattle.region_runs.proofs.Ways.{Scene, At, Label, Runs, Forth}
use Rattle.region_runs.proofs.Steps.{at_label, pass, pass_label, jump, fork}

-- the variable is there, and block w is wanted
pub record Wanting (e : Scene) (w : ℕ) (t : State) : Type 0 where
  pub id : ℕ
  pub slot : e.s.context.slot Want ≡ Some id
  pub holds : t.locals id ≡ Some (Word w)

pub has_place : (e : Scene) (p q : ℕ) (code : List Inst) → p ≡ q → Has e.s.made p code → Has e.s.made q code
has_place e p q code same h = subst (λ n. Has e.s.made n code) same h

-- ---- loads

load_inst : (e : Scene) (place id : ℕ) (slot : Slot) → e.s.context.slot slot ≡ Some id → At e place (inst 61 (int_id e.s.context ∷ result e.s.context place ∷ variable e.s.context slot ∷ [])) → At e place (inst 61 (int_id e.s.context ∷ result e.s.context place ∷ id ∷ []))
load_inst e place id slot is here =
    here ∙ ap (λ o. Some (inst 61 (int_id e.s.context ∷ result e.s.context place ∷ id_or_0 o ∷ []))) is

pub load : (e : Scene) (place id : ℕ) (slot : Slot) (w : Value) (t : State) → e.s.context.slot slot ≡ Some id → t.locals id ≡ Some w → t.at ≡ place → At e place (inst 61 (int_id e.s.context ∷ result e.s.context place ∷ variable e.s.context slot ∷ [])) → Runs e 1 t (gave e.s place w t)
load e place id slot w t is holds at here =
    leads_one e.s e.i t (gave e.s place w t) place 61 (int_id e.s.context ∷ result e.s.context place ∷ id ∷ []) Loads at (load_inst e place id slot is here) refl (load_gives e.s e.i (int_id e.s.context) place t id w (e.declares.locals slot id is).variable holds)

-- ---- stores

store_inst : (e : Scene) (place id value : ℕ) (slot : Slot) → e.s.context.slot slot ≡ Some id → At e place (inst 62 (variable e.s.context slot ∷ value ∷ [])) → At e place (inst 62 (id ∷ value ∷ []))
store_inst e place id value slot is here =
    here ∙ ap (λ o. Some (inst 62 (id_or_0 o ∷ value ∷ []))) is

-- the state behind a store of a number
abbrev pub put : ℕ → ℕ → State → State
put id n t = stored_at id (Word n) t

pub store_want : (e : Scene) (place id value n : ℕ) (t : State) → e.s.context.slot Want ≡ Some id → value_of e.s.made t value ≡ Some (Word n) → t.at ≡ place → At e place (inst 62 (variable e.s.context Want ∷ value ∷ [])) → Runs e 1 t (put id n t)
store_want e place id value n t is holds at here =
    leads_one e.s e.i t (put id n t) place 62 (id ∷ value ∷ []) Stores at (store_inst e place id value Want is here) refl (store_does e.s e.i t Want id value (Word n) (e.declares.locals Want id is) tt holds)

pub store_pick : (e : Scene) (place id value n : ℕ) (t : State) → e.s.context.slot Pick ≡ Some id → value_of e.s.made t value ≡ Some (Word n) → t.at ≡ place → At e place (inst 62 (variable e.s.context Pick ∷ value ∷ [])) → Runs e 1 t (put id n t)
store_pick e place id value n t is holds at here =
    leads_one e.s e.i t (put id n t) place 62 (id ∷ value ∷ []) Stores at (store_inst e place id value Pick is here) refl (store_does e.s e.i t Pick id value (Word n) (e.declares.locals Pick id is) tt holds)

pub put_holds : (id n : ℕ) (t : State) → (put id n t).locals id ≡ Some (Word n)
put_holds id n t = with_value_here id (Some (Word n)) t.locals

pub put_want : (e : Scene) (id n : ℕ) (t : State) → e.s.context.slot Want ≡ Some id → HasWant e.s (put id n t) n
put_want e id n t is other is' =
    subst (λ x. (put id n t).locals x ≡ Some (Word n)) (some_inj (sym is ∙ is')) (put_holds id n t)

-- only a variable of the regions changes
pub put_keeps : (e : Scene) (id n : ℕ) (t : State) → IsPasser e.s id → Keeps e.s t (put id n t)
put_keeps e id n t passer other not_passer =
    with_value_there id (Some (Word n)) t.locals other (λ same. not_passer (subst (λ x. IsPasser e.s x) (sym same) passer))

-- ---- whether block k is wanted

-- behind the test
abbrev pub tested_at : Scene → (place w k : ℕ) → State → State
tested_at e place w k t = gave e.s (place + 1) (Truth (nat_eq w k)) (gave e.s place (Word w) t)

pub tested : (e : Scene) (place k w : ℕ) (t : State) → t.at ≡ place → Has e.s.made place (is_wanted e.s.context place k) → Wanting e w t → Uses e.s (global.Number k) → Runs e 2 t (tested_at e place w k t)
tested e place k w t at has wants uses =
    let c = e.s.context in
    let t1 : State = gave e.s place (Word w) t in
    let first = load e place wants.id Want (Word w) t wants.slot wants.holds at has.0 in
    let behind : suc t.at ≡ place + 1 = omega (arith, at) in
    let second = two_words e.s e.i (place + 1) 170 (bool_id c) (result c place) (number c k) t1 (Word w) (Word k) (Truth (nat_eq w k)) (on_tests nat_eq) behind has.1.0 refl (gave_here e.s e.declares place (result_at e.s place 61 _ Loads has.0 refl refl) (Word w) t) (fixed_here e.s t1 (number c k) (Word k) (e.declares.numbers k uses)) refl in
    leads_on (machine e.s) e.i 1 1 t t1 (tested_at e place w k t) [] [] first second

pub test_is : (e : Scene) (place k w : ℕ) (t : State) → Has e.s.made place (is_wanted e.s.context place k) → value_of e.s.made (tested_at e place w k t) (result e.s.context (place + 1)) ≡ Some (Truth (nat_eq w k))
test_is e place k w t has =
    gave_here e.s e.declares (place + 1) (result_at e.s (place + 1) 170 _ (Two_operands _) has.1.0 refl refl) (Truth (nat_eq w k)) (gave e.s place (Word w) t)

-- the head of a region that runs only where block k is wanted
pub when_goes : (e : Scene) (place k w label region q : ℕ) (t : State) → t.at ≡ place → Has e.s.made place (when_head e.s.context place k label region) → Wanting e w t → Uses e.s (global.Number k) → place + 4 ≤ q → Label e q (if nat_eq w k then label else passed_label region) → Forth e t (at_label q t)
when_goes e place k w label region q t at has wants uses ahead there =
    let c = e.s.context in
    let tail : List Inst = (inst 247 (passed_label region ∷ 0 ∷ []) ∷ inst 250 (result c (place + 1) ∷ label ∷ passed_label region ∷ []) ∷ label_inst label ∷ []) in
    let front = has_front e.s.made place (is_wanted c place k) tail has in
    let t2 : State = tested_at e place w k t in
    let two = tested e place k w t at front wants uses in
    let at2 : suc (suc t.at) ≡ place + 1 + 1 = omega (arith, at) in
    let three = pass e (place + 1 + 1) 247 (passed_label region ∷ 0 ∷ []) t2 at2 has.1.1.0 refl in
    let at3 : suc (suc (suc t.at)) ≡ place + 1 + 1 + 1 = omega (arith, at) in
    let four = fork e (place + 1 + 1 + 1) (result c (place + 1)) label (passed_label region) q (next t2) (nat_eq w k) at3 has.1.1.1.0 (test_is e place k w t front) there in
    let both = leads_on (machine e.s) e.i 2 1 t t2 (next t2) [] [] two three in
    record {
      n = 4;
      few = omega (arith, at, ahead);
      leads = leads_on (machine e.s) e.i 3 1 t (next t2) (at_label q t) [] [] both four;
    }

-- from the end of a body to the continue target, and on by the test
pub footer_goes : (e : Scene) (region place k w there other q : ℕ) (t : State) → t.at ≡ place → Has e.s.made place (footer_code e.s.context region place k there other) → Wanting e w t → Uses e.s (global.Number k) → begun_at e.s.made (place + 1) ≡ [] → Label e q (if nat_eq w k then there else other) → Runs e 5 t (at_label q t)
footer_goes e region place k w there other q t at has wants uses none label =
    let c = e.s.context in
    let s1 : State = at_label (place + 1) t in
    let s2 : State = at_label (place + 2) t in
    let one = jump e place (place + 1) (continue_label region) t at has.0 has.1.0 in
    let past = pass_label e (place + 1) (continue_label region) s1 refl has.1.0 none in
    let same : suc (place + 1) ≡ place + 2 = omega arith in
    let two = subst (λ n. Runs e 2 t (at_label n t)) same (leads_on (machine e.s) e.i 1 1 t s1 (at_label (suc (place + 1)) t) [] [] one past) in
    let tail : List Inst = (inst 250 (result c (place + 2 + 1) ∷ there ∷ other ∷ []) ∷ label_inst (merge_label region) ∷ []) in
    let e2 : place + 1 + 1 ≡ place + 2 = omega arith in
    let back = has_place e (place + 1 + 1) (place + 2) (is_wanted c (place + 2) k ++ tail) e2 has.1.1 in
    let front = has_front e.s.made (place + 2) (is_wanted c (place + 2) k) tail back in
    let s4 : State = tested_at e (place + 2) w k s2 in
    let test = tested e (place + 2) k w s2 refl front (record { id = wants.id; slot = wants.slot; holds = wants.holds }) uses in
    let at4 : suc (suc (place + 2)) ≡ place + 2 + 1 + 1 = omega arith in
    let last = fork e (place + 2 + 1 + 1) (result c (place + 2 + 1)) there other q s4 (nat_eq w k) at4 back.1.1.0 (test_is e (place + 2) k w s2 front) label in
    let four = leads_on (machine e.s) e.i 2 2 t s2 s4 [] [] two test in
    leads_on (machine e.s) e.i 4 1 t s4 (at_label q t) [] [] four last
