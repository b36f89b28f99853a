-- The code behind a block's lines: a selection by its terminator, or several where a switch has many cases.
use Rattle.std.proofs.Common.{◌≡◌, ◌≢◌, inl, inr, ℕ, zero, suc, ◌+◌, Bool, true, false, ◌||◌, List, [], ◌∷◌, ◌++◌, length, take, drop, append_assoc, Option, Some, None, refl, sym, ap, ◌∙◌, subst, arith}
use Rattle.std.specs.Prelude.{slice_get, map, Contains, if◌then◌else◌}
use Rattle.dxil_form.specs.declared.value.Operand.{Operand}
use Rattle.dxil_form.specs.declared.block.Term.{Term}
use Rattle.dxil_form.specs.declared.block.Term.TheVariants.{Ret, Unreachable, Go, If, Switch}
use Rattle.dxil_form.specs.Branches.{has, targets}
use Rattle.dxil_form.specs.Sound.{cases_in}
use Rattle.spv_form.specs.declared.module.Inst.{Inst}
use Rattle.spirv_code.specs.declared.way.Way.TheVariants.{Ends, Goes, Chooses}
use Rattle.spirv_code.specs.declared.key.Slot.TheVariants.{Pick}
use Rattle.spirv_code.specs.Plans.{Context, result, variable}
use Rattle.spirv_code.specs.Accesses.{int_inst}
use Rattle.flow_blocks.specs.Blocks.{every_second}
use Rattle.spirv_code.specs.Reads.{Env}
use Rattle.spirv_code.specs.Leaves.{different, next_blocks, way_to, way_of, most_pairs}
use Rattle.spirv_code.specs.Exits.{place_in, loose, way_label, setter_label, pairs, setters_code, choose_code, chunk_meet, chunk_code, case_targets, chunks_code, chunk_count, split_head, split_code, tested_code}
use Rattle.line_runs.proofs.Tests.{nat_eq-refl}
use Rattle.region_runs.proofs.Targets.{has_different, has_here, has_there, way_armed, way_loose, loose_has}
use Rattle.row_laws.proofs.Basics.{in_cons, next_in}
use Rattle.written_rows.specs.Code.{label_inst, selection_inst, fork_inst, switch_inst, Parting, two_arms, Forking, conditional, switch, AreWays, ArmsCode}
use Rattle.written_rows.proofs.Steps.{get_front, get_past}
use Rattle.written_rows.proofs.Standing.{contains_map, contains_mapped, get_contains}
use Rattle.module_structure.proofs.Inner.{read_low}
use Rattle.module_structure.proofs.Tails.{Tail, inner_tail, tail_then, tail_select}
use Rattle.module_structure.proofs.Members.{has_contains, contains_has, in_append, once_different, once_loose, loose_told, setter_ids, setters_arms, setters_count, setter_at, place_at, setter_in, setter_of, arms_join, pairs_labels}

-- ---- the arms of a selection: the blocks for which they run, and their labels

pub record Armed (labels : ℕ → Option ℕ) (ts keys ids : List ℕ) : Type 0 where
  -- a label that is told is an arm's, for this block
  pub told : (k id : ℕ) → labels k ≡ Some id → (i : ℕ) × (slice_get keys i ≡ Some k) × (slice_get ids i ≡ Some id)
  -- each arm's label is told, for a block to which the terminator may go
  pub reached : (id : ℕ) → Contains ids id → (k : ℕ) × (has k ts ≡ true) × (labels k ≡ Some id)

-- ---- a selection by a terminator: blocks without an arm have a setter

module _ (c : Context) (place : ℕ) (labels : ℕ → Option ℕ) (ts keys ids : List ℕ) (armed : Armed labels ts keys ids) where
  abbrev ks : List ℕ
  ks = loose labels (different ts)

  abbrev setters : List ℕ
  setters = setter_ids c place ks

  abbrev to : ℕ → ℕ
  to = way_label labels (result c place) ks

  is_loose : (k : ℕ) → labels k ≡ None → has k ts ≡ true → has k ks ≡ true
  is_loose k none h = loose_has labels (different ts) k none (has_different k ts ∙ h)

  -- where a way leads, by its place among the arms
  record Leads (k : ℕ) : Type 0 where
    index : ℕ
    key : slice_get (ks ++ keys) index ≡ Some k
    id : slice_get (setters ++ ids) index ≡ Some (to k)

  leads : (k : ℕ) → has k ts ≡ true → Leads k
  leads k h = by_label (labels k) refl
    where
      by_label : (o : Option ℕ) → labels k ≡ o → Leads k
      by_label None none =
          let there = is_loose k none h in
          record {
            index = place_in k ks;
            key = get_front ks keys (place_in k ks) k (place_at k ks there);
            id = get_front setters ids (place_in k ks) (to k) (setter_at c place k ks there ∙ ap Some (sym (way_loose labels (result c place) ks k none)));
          }
      by_label (Some id) some =
          let r = armed.told k id some in
          let count = setters_count c place ks in
          record {
            index = length ks + r.0;
            key = get_past ks keys r.0 ∙ r.1;
            id = subst (λ n. slice_get (setters ++ ids) (n + r.0) ≡ Some (to k)) count (get_past setters ids r.0 ∙ r.2 ∙ ap Some (sym (way_armed labels (result c place) ks k id some)));
          }

  ways : (meet : ℕ) → AreWays meet (setters ++ ids) (map to ts)
  ways meet =
      record { each = λ id h. inr (each id h); all = λ id h. elim (in_append setters ids id h) [ inl i ↦ from_setter id i | inr i ↦ from_arm id i ] }
    where
      each : (id : ℕ) → Contains (map to ts) id → Contains (setters ++ ids) id
      each id h =
          let y = contains_mapped to ts id h in
          let l = leads y.0 (contains_has y.0 ts y.1) in
          subst (Contains (setters ++ ids)) y.2 (get_contains (setters ++ ids) l.index (to y.0) l.id)

      from_setter : (id : ℕ) → Contains setters id → Contains (map to ts) id
      from_setter id h =
          let y = setter_of c place ks (once_loose labels (different ts)) id h in
          let t = loose_told labels (different ts) y.0 y.1 in
          subst (Contains (map to ts)) (way_loose labels (result c place) ks y.0 t.0 ∙ y.2) (contains_map to ts y.0 (has_contains y.0 ts (sym (has_different y.0 ts) ∙ t.1)))

      from_arm : (id : ℕ) → Contains ids id → Contains (map to ts) id
      from_arm id h =
          let y = armed.reached id h in
          subst (Contains (map to ts)) (way_armed labels (result c place) ks y.0 id y.2) (contains_map to ts y.0 (has_contains y.0 ts y.1))

  -- two blocks are two arms
  parting : (meet there other : ℕ) → there ≢ other → has there ts ≡ true → has other ts ≡ true → Parting meet (setters ++ ids) (to there) (to other)
  parting meet there other apart h k =
      let l = leads there h in
      let m = leads other k in
      two_arms l.index m.index l.id m.id (λ same. apart (inj (sym l.key ∙ (ap (slice_get (ks ++ keys)) same ∙ m.key))))
    where
      inj : {a b : ℕ} → Some a ≡ Some b → a ≡ b
      inj e = cc

-- the selection, its setters and its arms
pick_tail : (c : Context) (d place meet : ℕ) (ks ids ways : List ℕ) (x : Inst) (arms : List Inst) → Forking meet (setter_ids c place ks ++ ids) x ways → AreWays meet (setter_ids c place ks ++ ids) ways → ArmsCode d meet ids arms → Tail (suc d) (selection_inst meet ∷ x ∷ (setters_code c place meet ks ++ (arms ++ (label_inst meet ∷ []))))
pick_tail c d place meet ks ids ways x arms fork are code =
    let setters = setters_code c place meet ks in
    subst (λ is. Tail (suc d) (selection_inst meet ∷ x ∷ is)) (append_assoc setters arms (label_inst meet ∷ [])) (tail_select d meet (setter_ids c place ks ++ ids) ways x (setters ++ arms) fork are (arms_join d meet (setter_ids c place ks) ids setters arms (setters_arms c d place meet ks) code))

-- ---- blocks that are chosen among are two at least

same_goes : (k cases : ℕ) → way_to (different (k ∷ k ∷ [])) cases ≡ Goes k
same_goes k cases =
    ap (λ (b : Bool). way_to (if (b || false) then (k ∷ []) else (k ∷ k ∷ [])) cases) (nat_eq-refl k)

not_chosen : (k : ℕ) → Goes k ≡ Chooses → ⊥
not_chosen k e = cc

chosen_apart : (cond : Operand) (there other : ℕ) → way_of (If cond there other) ≡ Chooses → there ≢ other
chosen_apart cond there other e same =
    not_chosen there (sym (same_goes there (cases_in (If cond there other))) ∙ (ap (λ k. way_to (different (there ∷ k ∷ [])) (cases_in (If cond there other))) same ∙ e))

ends_not : Ends ≡ Chooses → ⊥
ends_not e = cc

pub choose_tail : (c : Context) (d place meet id : ℕ) (term : Term) (labels : ℕ → Option ℕ) (keys ids : List ℕ) (arms : List Inst) → way_of term ≡ Chooses → Armed labels (targets term) keys ids → ArmsCode d meet ids arms → Tail (suc d) (choose_code c place meet id term labels (loose labels (next_blocks term)) ++ (arms ++ (label_inst meet ∷ [])))
choose_tail c d place meet id Ret labels keys ids arms way armed code = absurd (ends_not way)
choose_tail c d place meet id Unreachable labels keys ids arms way armed code = absurd (ends_not way)
choose_tail c d place meet id (Go k) labels keys ids arms way armed code = absurd (not_chosen k way)
choose_tail c d place meet id (If cond there other) labels keys ids arms way armed code =
    let ts = there ∷ other ∷ [] in
    let first = place + 2 in
    let ks = loose labels (different ts) in
    let to = way_label labels (result c first) ks in
    let parts = parting c first labels ts keys ids armed meet there other (chosen_apart cond there other way) (has_here there (other ∷ [])) (has_there other there (other ∷ []) (has_here other [])) in
    pick_tail c d first meet ks ids (to there ∷ to other ∷ []) (fork_inst id (to there) (to other)) arms (conditional id (to there) (to other) parts) (ways c first labels ts keys ids armed meet) code
choose_tail c d place meet id (Switch value default cases) labels keys ids arms way armed code =
    let ts = targets (Switch value default cases) in
    let first = place + 2 in
    let ks = loose labels (different ts) in
    let to = way_label labels (result c first) ks in
    let same : map to ts ≡ to default ∷ every_second (pairs to cases) = ap (λ ids. to default ∷ ids) (sym (pairs_labels to cases)) in
    pick_tail c d first meet ks ids (to default ∷ every_second (pairs to cases)) (switch_inst id (to default) (pairs to cases)) arms (switch id (to default) (pairs to cases)) (subst (AreWays meet (setter_ids c first ks ++ ids)) same (ways c first labels ts keys ids armed meet)) code

-- ---- a switch of many cases

chunk_ways : (c : Context) (place meet : ℕ) (cases : List (ℕ × ℕ)) → AreWays meet (setter_ids c place (case_targets cases)) (meet ∷ every_second (pairs (setter_label (result c place) (case_targets cases)) cases))
chunk_ways c place meet cases =
    record { each = λ id h. elim (in_cons id meet (every_second (pairs to cases)) h) [ inl e ↦ inl e | inr i ↦ inr (each id (subst (λ is. Contains is id) (pairs_labels to cases) i)) ]; all = λ id h. next_in meet id (every_second (pairs to cases)) (subst (λ is. Contains is id) (sym (pairs_labels to cases)) (all id h)) }
  where
    ts : List ℕ
    ts = map (λ arm. arm.1) cases

    to : ℕ → ℕ
    to = setter_label (result c place) (case_targets cases)

    each : (id : ℕ) → Contains (map to ts) id → Contains (setter_ids c place (case_targets cases)) id
    each id h =
        let y = contains_mapped to ts id h in
        subst (Contains (setter_ids c place (case_targets cases))) y.2 (setter_in c place y.0 (case_targets cases) (has_different y.0 ts ∙ contains_has y.0 ts y.1))

    all : (id : ℕ) → Contains (setter_ids c place (case_targets cases)) id → Contains (map to ts) id
    all id h =
        let y = setter_of c place (case_targets cases) (once_different ts) id h in
        subst (Contains (map to ts)) y.2 (contains_map to ts y.0 (has_contains y.0 ts (sym (has_different y.0 ts) ∙ y.1)))

chunk_tail : (c : Context) (d place : ℕ) (cases : List (ℕ × ℕ)) → Tail (suc d) (chunk_code c place cases (case_targets cases))
chunk_tail c d place cases =
    let ks = case_targets cases in
    let meet = chunk_meet c place ks in
    let first = place + 3 in
    let words = pairs (setter_label (result c first) ks) cases in
    let load : List Inst = int_inst c place 61 (variable c Pick ∷ []) ∷ [] in
    let select = tail_select d meet (setter_ids c first ks) (meet ∷ every_second words) (switch_inst (result c place) meet words) (setters_code c first meet ks) (switch (result c place) meet words) (chunk_ways c first meet cases) (setters_arms c d first meet ks) in
    tail_then (suc d) load (selection_inst meet ∷ switch_inst (result c place) meet words ∷ (setters_code c first meet ks ++ (label_inst meet ∷ []))) (inner_tail (suc d) load (omega arith, tt)) select

chunks_tail : (c : Context) (d place n : ℕ) (cases : List (ℕ × ℕ)) → Tail (suc d) (chunks_code c place n cases)
chunks_tail c d place zero cases = inner_tail (suc d) [] tt
chunks_tail c d place (suc n) cases =
    let front = chunk_code c place (take most_pairs cases) (case_targets (take most_pairs cases)) in
    tail_then (suc d) front (chunks_code c (place + length front) n (drop most_pairs cases)) (chunk_tail c d place (take most_pairs cases)) (chunks_tail c d (place + length front) n (drop most_pairs cases))

pub split_tail : (c : Context) (d place id : ℕ) (term : Term) → Tail (suc d) (split_code c place id term)
split_tail c d place id Ret = inner_tail (suc d) [] tt
split_tail c d place id Unreachable = inner_tail (suc d) [] tt
split_tail c d place id (Go k) = inner_tail (suc d) [] tt
split_tail c d place id (If cond there other) = inner_tail (suc d) [] tt
split_tail c d place id (Switch value default cases) =
    let front = split_head c id default in
    tail_then (suc d) front (chunks_code c (place + 2) (chunk_count (length cases)) cases) (inner_tail (suc d) front (omega arith, (omega arith, tt))) (chunks_tail c d (place + 2) (chunk_count (length cases)) cases)

pub tested_tail : (c : Context) (d : ℕ) (env : Env) (place : ℕ) (a : Option Operand) → Tail (suc d) (tested_code c env place a)
tested_tail c d env place None = inner_tail (suc d) [] tt
tested_tail c d env place (Some a) = inner_tail (suc d) (tested_code c env place (Some a)) (read_low c env place a)
