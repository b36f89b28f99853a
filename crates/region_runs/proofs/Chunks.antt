-- The selections of a switch of many cases, one after the other.
use Rattle.std.proofs.Common.{◌≡◌, ◌≢◌, ℕ, zero, suc, ◌+◌, ◌*◌, ◌≤◌, true, List, [], ◌∷◌, ◌++◌, length, length-append, take, drop, map, take-append-drop, Some, refl, sym, ap, ◌∙◌, subst, arith, inl, ⊎_elim}
use Rattle.dxil_form.specs.Branches.{has}
use Rattle.spv_form.specs.declared.module.Inst.{Inst}
use Rattle.dxil_meaning.specs.Source.{case_of}
use Rattle.spirv_meaning.specs.Target as spv
use Rattle.spirv_meaning.specs.Target.{Value, Word, State, Loads, value_of, next}
use Rattle.spirv_code.specs.declared.key.Global.TheVariants as global
use Rattle.spirv_code.specs.declared.key.Slot.TheVariants.{Want, Pick}
use Rattle.spirv_code.specs.Plans.{result}
use Rattle.spirv_code.specs.Leaves.{most_pairs}
use Rattle.spirv_code.specs.Exits.{label_inst, setter_label, setters_code, place_in, pairs, chunk_meet, chunk_head, chunk_code, chunks_code, case_targets}
use Rattle.line_runs.specs.Held.{Has, Uses}
use Rattle.line_runs.specs.Exits.{Keeps}
use Rattle.line_runs.proofs.Tests.{with_value_there}
use Rattle.line_runs.proofs.Pieces.{has_front, has_back}
use Rattle.line_runs.proofs.Results.{gave, result_at, gave_here}
use Rattle.region_runs.proofs.Ways.{Scene, Label, Forth, forth_one, forth_on, forth_none}
use Rattle.region_runs.proofs.Steps.{at_label, inst_there, pass, pass_label, switch}
use Rattle.region_runs.proofs.Wanting.{has_place, load, put, put_holds, put_keeps}
use Rattle.region_runs.proofs.Codes.{followed_length}
use Rattle.region_runs.proofs.Targets.{has_different}
use Rattle.region_runs.proofs.Setters.{setter_in, setter_runs}
use Rattle.region_runs.proofs.Cases.{Distinct, CaseIs, CaseNone, find_case, case_pieces, distinct_behind, fewer_left, none_left, has_taken, has_dropped}

-- the two variables, with what they hold
pub record Picking (e : Scene) (n w : ℕ) (t : State) : Type 0 where
  pub want : ℕ
  pub want_slot : e.s.context.slot Want ≡ Some want
  pub want_holds : t.locals want ≡ Some (Word w)
  pub pick : ℕ
  pub pick_slot : e.s.context.slot Pick ≡ Some pick
  pub pick_holds : t.locals pick ≡ Some (Word n)

pub apart_slots : (e : Scene) (want pick : ℕ) → e.s.context.slot Want ≡ Some want → e.s.context.slot Pick ≡ Some pick → pick ≢ want
apart_slots e want pick is_want is_pick same =
    let equal = e.declares.apart Want Pick want is_want (is_pick ∙ ap Some same) in
    absurd (cc equal)

-- a store to one of them leaves the other
pub picking_put : (e : Scene) (n w k : ℕ) (t : State) (h : Picking e n w t) → Picking e n k (put h.want k t)
picking_put e n w k t h =
    record {
      want = h.want;
      want_slot = h.want_slot;
      want_holds = put_holds h.want k t;
      pick = h.pick;
      pick_slot = h.pick_slot;
      pick_holds = with_value_there h.want (Some (Word k)) t.locals h.pick (apart_slots e h.want h.pick h.want_slot h.pick_slot) ∙ h.pick_holds;
    }

-- forwards to a place, where block w is wanted
pub record Picked (e : Scene) (n w to : ℕ) (t : State) : Type 0 where
  pub t' : State
  pub at : t'.at ≡ to
  pub forth : Forth e t t'
  pub picking : Picking e n w t'
  pub keeps : Keeps e.s t t'

-- ---- one chunk

setters_length : (e : Scene) (place meet : ℕ) (ks : List ℕ) → length (setters_code e.s.context place meet ks) ≡ 3 * length ks
setters_length e place meet [] = refl
setters_length e place meet (k ∷ ks) = let rest = setters_length e (place + 3) meet ks in omega (arith, rest)

pub record ChunkParts (e : Scene) (place : ℕ) (cases : List (ℕ × ℕ)) (ks : List ℕ) : Type 0 where
  pub head : Has e.s.made place (chunk_head e.s.context place cases ks)
  pub setters : Has e.s.made (place + 3) (setters_code e.s.context (place + 3) (chunk_meet e.s.context place ks) ks)
  pub meets : Label e (place + (3 + 3 * length ks)) (chunk_meet e.s.context place ks)
  pub ends : place + length (chunk_code e.s.context place cases ks) ≡ place + (3 + 3 * length ks) + 1

pub chunk_parts : (e : Scene) (place : ℕ) (cases : List (ℕ × ℕ)) (ks : List ℕ) → Has e.s.made place (chunk_code e.s.context place cases ks) → ChunkParts e place cases ks
chunk_parts e place cases ks has =
    let c = e.s.context in
    let meet : ℕ = chunk_meet c place ks in
    let front : List Inst = chunk_head c place cases ks in
    let sets : List Inst = setters_code c (place + 3) meet ks in
    let tail : List Inst = label_inst meet ∷ [] in
    let three : place + length front ≡ place + 3 = omega arith in
    let back = has_place e (place + length front) (place + 3) (sets ++ tail) three (has_back e.s.made place front (sets ++ tail) has) in
    let long = setters_length e (place + 3) meet ks in
    let end : place + 3 + length sets ≡ place + (3 + 3 * length ks) = omega (arith, long) in
    let inner = length-append sets tail in
    let outer = length-append front (sets ++ tail) in
    record {
      head = has_front e.s.made place front (sets ++ tail) has;
      setters = has_front e.s.made (place + 3) sets tail back;
      meets = inst_there e (place + 3 + length sets) (place + (3 + 3 * length ks)) (label_inst meet) end (has_back e.s.made (place + 3) sets tail back).0;
      ends = omega (arith, outer, inner, long);
    }

-- from the head of a chunk to the label of the way of the number
chunk_goes : (e : Scene) (place n w q : ℕ) (cases : List (ℕ × ℕ)) (ks : List ℕ) (t : State) → Has e.s.made place (chunk_head e.s.context place cases ks) → Picking e n w t → t.at ≡ place → place + 3 ≤ q → Label e q (spv.case_of n (pairs (setter_label (result e.s.context (place + 3)) ks) cases) (chunk_meet e.s.context place ks)) → Forth e t (at_label q t)
chunk_goes e place n w q cases ks t has h at ahead label =
    let c = e.s.context in
    let t1 : State = gave e.s place (Word n) t in
    let first = forth_one e t t1 (omega arith) (load e place h.pick Pick (Word n) t h.pick_slot h.pick_holds at has.0) in
    let at1 : suc t.at ≡ place + 1 = omega (arith, at) in
    let second = forth_one e t1 (next t1) (omega arith) (pass e (place + 1) 247 (chunk_meet c place ks ∷ 0 ∷ []) t1 at1 has.1.0 refl) in
    let at2 : suc (suc t.at) ≡ place + 1 + 1 = omega (arith, at) in
    let third = forth_one e (next t1) (at_label q t) (omega (arith, at, ahead)) (switch e (place + 1 + 1) (result c place) (chunk_meet c place ks) q (pairs (setter_label (result c (place + 3)) ks) cases) (next t1) n at2 has.1.1.0 (gave_here e.s e.declares place (result_at e.s place 61 _ Loads has.0 refl refl) (Word n) t) label) in
    forth_on e t t1 (at_label q t) first (forth_on e t1 (next t1) (at_label q t) second third)

moved_picking : (e : Scene) (n v p : ℕ) (u : State) → Picking e n v u → Picking e n v (at_label p u)
moved_picking e n v p u g =
    record {
      want = g.want;
      want_slot = g.want_slot;
      want_holds = g.want_holds;
      pick = g.pick;
      pick_slot = g.pick_slot;
      pick_holds = g.pick_holds;
    }

module _ (e : Scene) (place n w : ℕ) (cases : List (ℕ × ℕ)) (t : State) (has : Has e.s.made place (chunk_code e.s.context place cases (case_targets cases))) (h : Picking e n w t) (at : t.at ≡ place) where
  abbrev ks : List ℕ
  ks = case_targets cases

  abbrev q : ℕ
  q = place + (3 + 3 * length (case_targets cases))

  parts : ChunkParts e place cases ks
  parts = chunk_parts e place cases ks has

  past : (u : State) → Forth e (at_label q u) (at_label (suc q) u)
  past u =
      forth_one e (at_label q u) (at_label (suc q) u) (omega arith) (pass_label e q (chunk_meet e.s.context place ks) (at_label q u) refl parts.meets (e.declares.inner q parts.meets).1)

  end : suc q ≡ place + length (chunk_code e.s.context place cases ks)
  end = let ends = parts.ends in omega (arith, ends)

  by_case : (x : CaseIs cases n) → Uses e.s (global.Number x.to) → Picked e n (case_of n cases w) (place + length (chunk_code e.s.context place cases ks)) t
  by_case x uses =
      let c = e.s.context in
      let there = has_different x.to (map (λ arm. arm.1) cases) ∙ x.among in
      let setter = setter_in e (chunk_meet c place ks) x.to ks (place + 3) there parts.setters in
      let d : ℕ = place + 3 + 3 * place_in x.to ks in
      let before = setter.before in
      let long = setters_length e (place + 3) (chunk_meet c place ks) ks in
      let own : result c d ≡ setter_label (result c (place + 3)) ks x.to = omega arith in
      let label = subst (λ l. Label e d l) (own ∙ sym (x.label (setter_label (result c (place + 3)) ks) (chunk_meet c place ks))) setter.code.0 in
      let first = chunk_goes e place n w d cases ks t parts.head h at (omega arith) label in
      let second = setter_runs e (chunk_meet c place ks) x.to d q h.want t setter.code h.want_slot uses (omega (arith, before, long)) parts.meets in
      let u : State = put h.want x.to t in
      record {
        t' = at_label (suc q) u;
        at = end;
        forth = forth_on e t (at_label d t) (at_label (suc q) u) first (forth_on e (at_label d t) (at_label q u) (at_label (suc q) u) second (past u));
        picking = subst (λ v. Picking e n v (at_label (suc q) u)) (sym (x.chosen w)) (moved_picking e n x.to (suc q) u (picking_put e n w x.to t h));
        keeps = put_keeps e h.want x.to t (inl h.want_slot);
      }

  by_none : CaseNone cases n → Picked e n (case_of n cases w) (place + length (chunk_code e.s.context place cases ks)) t
  by_none x =
      let c = e.s.context in
      let label = subst (λ l. Label e q l) (sym (x.label (setter_label (result c (place + 3)) ks) (chunk_meet c place ks))) parts.meets in
      let first = chunk_goes e place n w q cases ks t parts.head h at (omega arith) label in
      record {
        t' = at_label (suc q) t;
        at = end;
        forth = forth_on e t (at_label q t) (at_label (suc q) t) first (past t);
        picking = subst (λ v. Picking e n v (at_label (suc q) t)) (sym (x.chosen w)) (moved_picking e n w (suc q) t h);
        keeps = λ id other. refl;
      }

pub chunk_runs : (e : Scene) (place n w : ℕ) (cases : List (ℕ × ℕ)) (t : State) → Has e.s.made place (chunk_code e.s.context place cases (case_targets cases)) → ((k : ℕ) → has k (map (λ arm. arm.1) cases) ≡ true → Uses e.s (global.Number k)) → Picking e n w t → t.at ≡ place → Picked e n (case_of n cases w) (place + length (chunk_code e.s.context place cases (case_targets cases))) t
chunk_runs e place n w cases t has uses h at =
    ⊎_elim (λ x. by_case e place n w cases t has h at x (uses x.to x.among)) (λ x. by_none e place n w cases t has h at x) (find_case cases n)

-- ---- all chunks

then_picked : (e : Scene) (n w v to : ℕ) (p q : ℕ) (t : State) (a : Picked e n w p t) → Picked e n v q a.t' → Picked e n v q t
then_picked e n w v to p q t a b =
    record {
      t' = b.t';
      at = b.at;
      forth = forth_on e t a.t' b.t' a.forth b.forth;
      picking = b.picking;
      keeps = λ id other. b.keeps id other ∙ a.keeps id other;
    }

pub chunks_run : (e : Scene) (m place n w : ℕ) (cases : List (ℕ × ℕ)) (t : State) → length cases ≤ m * most_pairs → Distinct cases → Has e.s.made place (chunks_code e.s.context place m cases) → ((k : ℕ) → has k (map (λ arm. arm.1) cases) ≡ true → Uses e.s (global.Number k)) → Picking e n w t → t.at ≡ place → Picked e n (case_of n cases w) (place + length (chunks_code e.s.context place m cases)) t
chunks_run e zero place n w cases t few apart has uses h at =
    let same : t.at ≡ place + 0 = omega (arith, at) in
    record {
      t' = t;
      at = same;
      forth = forth_none e t;
      picking = subst (λ cs. Picking e n (case_of n cs w) t) (sym (none_left cases few)) h;
      keeps = λ id other. refl;
    }
chunks_run e (suc m) place n w cases t few apart has uses h at =
    let c = e.s.context in
    let now : List (ℕ × ℕ) = take most_pairs cases in
    let left : List (ℕ × ℕ) = drop most_pairs cases in
    let front : List Inst = chunk_code c place now (case_targets now) in
    let rest : ℕ → List Inst = λ p. chunks_code c p m left in
    let mid : ℕ = place + length front in
    let whole = take-append-drop most_pairs cases in
    let both = subst Distinct (sym whole) apart in
    let first = chunk_runs e place n w now t (has_front e.s.made place front (rest mid) has) (λ k k_in. uses k (has_taken most_pairs k cases k_in)) h at in
    let second = chunks_run e m mid n (case_of n now w) left first.t' (fewer_left cases m few) (distinct_behind now left both) (has_back e.s.made place front (rest mid) has) (λ k k_in. uses k (has_dropped most_pairs k cases k_in)) first.picking first.at in
    let value = case_pieces now left n w both ∙ ap (λ cs. case_of n cs w) whole in
    let end = followed_length place mid front rest refl in
    let done = then_picked e n (case_of n now w) (case_of n left (case_of n now w)) mid mid (mid + length (rest mid)) t first second in
    subst (λ q. Picked e n (case_of n cases w) q t) (sym end) (subst (λ v. Picked e n v (mid + length (rest mid)) t) value done)
