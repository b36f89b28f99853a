-- The pieces of the code of a region, each at its place.
use Rattle.std.proofs.Common.{◌≡◌, ℕ, ◌+◌, ◌≤◌, ◌<◌, List, [], ◌∷◌, ◌++◌, length, length-append, refl, ap, subst, arith, inl, inr}
use Rattle.spv_form.specs.declared.module.Inst.{Inst}
use Rattle.spirv_code.specs.declared.key.Slot.TheVariants.{Want}
use Rattle.spirv_code.specs.Plans.{inst, result, variable, int_id, header_label, body_label, continue_label, merge_label, chosen_label, passed_label}
use Rattle.spirv_code.specs.Leaves.{followed}
use Rattle.spirv_code.specs.Exits.{label_inst, branch_inst, selection_inst, no_block}
use Rattle.spirv_code.specs.Trees.{Tree, Then, Loop, Dispatch, Arms, No_arm, Arm, label_at, place_of}
use Rattle.spirv_code.specs.Rows.{when_head, onwards, when_code, arm_code, header_code, footer_code, arm_pairs, dispatch_head, dispatch_tail, row_code, met_arms}
use Rattle.line_runs.specs.Held.{Has}
use Rattle.line_runs.specs.Exits.{Variables}
use Rattle.line_runs.proofs.Pieces.{has_front, has_back}
use Rattle.region_runs.proofs.Ways.{Scene, At, Label}
use Rattle.region_runs.proofs.Steps.{inst_there}
use Rattle.region_runs.proofs.Members.{Among}

-- The code of the tree stands at the place, behind its label.
pub record Stands (e : Scene) (tree : Tree) (head place : ℕ) : Type 0 where
  pub label : Label e head (label_at tree)
  pub ahead : head < place
  pub between : Variables e.s head place
  pub code : Has e.s.made place (row_code e.s.context place tree)

pub next_to : (e : Scene) (tree : Tree) (head place : ℕ) → place ≡ head + 1 → Label e head (label_at tree) → Has e.s.made place (row_code e.s.context place tree) → Stands e tree head place
next_to e tree head place same label code =
    record {
      label = label;
      ahead = omega (arith, same);
      between = λ n from to. absurd (omega (arith, same, from, to));
      code = code;
    }

pub followed_at : (e : Scene) (place q : ℕ) (front : List Inst) (rest : ℕ → List Inst) → place + length front ≡ q → Has e.s.made place (followed place front rest) → Has e.s.made q (rest q)
followed_at e place q front rest same has =
    subst (λ n. Has e.s.made n (rest n)) same (has_back e.s.made place front (rest (place + length front)) has)

-- the length of what stands there, by the length of its front
pub followed_length : (place q : ℕ) (front : List Inst) (rest : ℕ → List Inst) → place + length front ≡ q → place + length (followed place front rest) ≡ q + length (rest q)
followed_length place q front rest same =
    let long = length-append front (rest (place + length front)) in
    let there = ap (λ n. length (rest n)) same in
    omega (arith, long, there, same)

-- ---- a region that runs only where its block is wanted

pub record WhenParts (e : Scene) (place k : ℕ) (tree : Tree) : Type 0 where
  pub head : Has e.s.made place (when_head e.s.context place k (label_at tree) (place_of tree))
  pub stands : Stands e tree (place + 4) (place + 5)
  pub out : Has e.s.made (place + 5 + length (row_code e.s.context (place + 5) tree)) (onwards (passed_label (place_of tree)))
  pub ends : place + length (when_code e.s.context place k tree (λ q. row_code e.s.context q tree)) ≡ place + 5 + length (row_code e.s.context (place + 5) tree) + 2

pub when_parts : (e : Scene) (place k : ℕ) (tree : Tree) → Has e.s.made place (when_code e.s.context place k tree (λ q. row_code e.s.context q tree)) → WhenParts e place k tree
when_parts e place k tree has =
    let c = e.s.context in
    let front : List Inst = when_head c place k (label_at tree) (place_of tree) in
    let out : List Inst = onwards (passed_label (place_of tree)) in
    let rest : ℕ → List Inst = λ p. row_code c p tree ++ out in
    let same : place + length front ≡ place + 5 = omega arith in
    let first = has_front e.s.made place front (rest (place + length front)) has in
    let back = followed_at e place (place + 5) front rest same has in
    let long = followed_length place (place + 5) front rest same in
    let inner = length-append (row_code c (place + 5) tree) out in
    record {
      head = first;
      stands = next_to e tree (place + 4) (place + 5) (omega arith) (inst_there e (place + 1 + 1 + 1 + 1) (place + 4) (label_inst (label_at tree)) (omega arith) first.1.1.1.1.0) (has_front e.s.made (place + 5) (row_code c (place + 5) tree) out back);
      out = has_back e.s.made (place + 5) (row_code c (place + 5) tree) out back;
      ends = omega (arith, long, inner);
    }

-- a region, and another one that runs where the target is wanted then
pub record ThenParts (e : Scene) (place region target : ℕ) (first second : Tree) : Type 0 where
  pub code : Has e.s.made place (row_code e.s.context place first)
  pub second_parts : WhenParts e (place + length (row_code e.s.context place first)) target second
  pub ends : place + length (row_code e.s.context place (Then region first second target)) ≡ place + length (row_code e.s.context place first) + 5 + length (row_code e.s.context (place + length (row_code e.s.context place first) + 5) second) + 2

pub then_parts : (e : Scene) (place region target : ℕ) (first second : Tree) → Has e.s.made place (row_code e.s.context place (Then region first second target)) → ThenParts e place region target first second
then_parts e place region target first second has =
    let c = e.s.context in
    let front : List Inst = row_code c place first in
    let mid : ℕ = place + length front in
    let rest : ℕ → List Inst = λ p. when_code c p target second (λ q. row_code c q second) in
    let parts = when_parts e mid target second (followed_at e place mid front rest refl has) in
    let long = followed_length place mid front rest refl in
    let ends = parts.ends in
    record {
      code = has_front e.s.made place front (rest mid) has;
      second_parts = parts;
      ends = omega (arith, long, ends);
    }

-- ---- a loop

pub record LoopParts (e : Scene) (place region head : ℕ) (body : Tree) : Type 0 where
  pub merge : At e place (inst 246 (merge_label region ∷ continue_label region ∷ 0 ∷ []))
  pub out : At e (place + 1) (branch_inst (label_at body))
  pub stands : Stands e body (place + 2) (place + 3)
  pub footer : Has e.s.made (place + 3 + length (row_code e.s.context (place + 3) body)) (footer_code e.s.context region (place + 3 + length (row_code e.s.context (place + 3) body)) head (header_label region) (merge_label region))
  pub ends : place + length (row_code e.s.context place (Loop region body head)) ≡ place + 3 + length (row_code e.s.context (place + 3) body) + 6

pub loop_parts : (e : Scene) (place region head : ℕ) (body : Tree) → Has e.s.made place (row_code e.s.context place (Loop region body head)) → LoopParts e place region head body
loop_parts e place region head body has =
    let c = e.s.context in
    let front : List Inst = header_code region (label_at body) in
    let foot : ℕ → List Inst = λ q. footer_code c region q head (header_label region) (merge_label region) in
    let rest : ℕ → List Inst = λ p. followed p (row_code c p body) foot in
    let same : place + length front ≡ place + 3 = omega arith in
    let first = has_front e.s.made place front (rest (place + length front)) has in
    let back = followed_at e place (place + 3) front rest same has in
    let row : List Inst = row_code c (place + 3) body in
    let long = followed_length place (place + 3) front rest same in
    let inner = followed_length (place + 3) (place + 3 + length row) row foot refl in
    record {
      merge = first.0;
      out = first.1.0;
      stands = next_to e body (place + 2) (place + 3) (omega arith) (inst_there e (place + 1 + 1) (place + 2) (label_inst (label_at body)) (omega arith) first.1.1.0) (has_front e.s.made (place + 3) row (foot (place + 3 + length row)) back);
      footer = has_back e.s.made (place + 3) row (foot (place + 3 + length row)) back;
      ends = omega (arith, long, inner);
    }

-- ---- arms that meet

-- the arm stands between two places, and branches to the label at its end
pub record ArmIn (e : Scene) (meet from to : ℕ) (tree : Tree) : Type 0 where
  pub head : ℕ
  pub behind : from ≤ head
  pub stands : Stands e tree head (head + 1)
  pub out : At e (head + 1 + length (row_code e.s.context (head + 1) tree)) (branch_inst meet)
  pub before : head + 1 + length (row_code e.s.context (head + 1) tree) < to

widen : (e : Scene) (meet from to from' to' : ℕ) (tree : Tree) → from' ≤ from → to ≤ to' → ArmIn e meet from to tree → ArmIn e meet from' to' tree
widen e meet from to from' to' tree low high a =
    let behind = a.behind in
    let before = a.before in
    record {
      head = a.head;
      behind = omega (arith, behind, low);
      stands = a.stands;
      out = a.out;
      before = omega (arith, before, high);
    }

arm_parts : (e : Scene) (meet place : ℕ) (tree : Tree) → Has e.s.made place (arm_code place meet tree (λ q. row_code e.s.context q tree)) → ArmIn e meet place (place + length (arm_code place meet tree (λ q. row_code e.s.context q tree))) tree
arm_parts e meet place tree has =
    let c = e.s.context in
    let front : List Inst = label_inst (label_at tree) ∷ [] in
    let out : List Inst = branch_inst meet ∷ [] in
    let rest : ℕ → List Inst = λ p. row_code c p tree ++ out in
    let same : place + length front ≡ place + 1 = omega arith in
    let back = followed_at e place (place + 1) front rest same has in
    let long = followed_length place (place + 1) front rest same in
    let inner = length-append (row_code c (place + 1) tree) out in
    record {
      head = place;
      behind = omega arith;
      stands = next_to e tree place (place + 1) refl has.0 (has_front e.s.made (place + 1) (row_code c (place + 1) tree) out back);
      out = (has_back e.s.made (place + 1) (row_code c (place + 1) tree) out back).0;
      before = omega (arith, long, inner);
    }

pub met_arm : (e : Scene) (meet : ℕ) (arms : Arms) (place k : ℕ) (tree : Tree) → Among arms k tree → Has e.s.made place (met_arms e.s.context meet place arms) → ArmIn e meet place (place + length (met_arms e.s.context meet place arms)) tree
met_arm e meet No_arm place k tree a has = absurd a
met_arm e meet (Arm target other arms) place k tree (inl same) has =
    let c = e.s.context in
    let front : List Inst = arm_code place meet other (λ q. row_code c q other) in
    let rest : ℕ → List Inst = λ p. met_arms c meet p arms in
    let long = followed_length place (place + length front) front rest refl in
    let first = arm_parts e meet place other (has_front e.s.made place front (rest (place + length front)) has) in
    subst (λ x. ArmIn e meet place (place + length (met_arms c meet place (Arm target other arms))) x) same.1 (widen e meet place (place + length front) place (place + length (met_arms c meet place (Arm target other arms))) other (omega arith) (omega (arith, long)) first)
met_arm e meet (Arm target other arms) place k tree (inr a) has =
    let c = e.s.context in
    let front : List Inst = arm_code place meet other (λ q. row_code c q other) in
    let rest : ℕ → List Inst = λ p. met_arms c meet p arms in
    let next : ℕ = place + length front in
    let long = followed_length place next front rest refl in
    widen e meet next (next + length (met_arms c meet next arms)) place (place + length (met_arms c meet place (Arm target other arms))) tree (omega arith) (omega (arith, long)) (met_arm e meet arms next k tree a (followed_at e place next front rest refl has))

-- ---- a dispatch

pub record DispatchParts (e : Scene) (place region : ℕ) (arms : Arms) : Type 0 where
  pub merge : At e place (inst 246 (merge_label region ∷ continue_label region ∷ 0 ∷ []))
  pub out : At e (place + 1) (branch_inst (body_label region))
  pub body : Label e (place + 2) (body_label region)
  pub load : At e (place + 3) (inst 61 (int_id e.s.context ∷ result e.s.context (place + 3) ∷ variable e.s.context Want ∷ []))
  pub select : At e (place + 4) (selection_inst (chosen_label region))
  pub switch : At e (place + 5) (inst 251 (result e.s.context (place + 3) ∷ chosen_label region ∷ arm_pairs arms))
  pub arms_code : Has e.s.made (place + 6) (met_arms e.s.context (chosen_label region) (place + 6) arms)
  pub chosen : Label e (place + 6 + length (met_arms e.s.context (chosen_label region) (place + 6) arms)) (chosen_label region)
  pub footer : Has e.s.made (place + 6 + length (met_arms e.s.context (chosen_label region) (place + 6) arms) + 1) (footer_code e.s.context region (place + 6 + length (met_arms e.s.context (chosen_label region) (place + 6) arms) + 1) (no_block e.s.context) (merge_label region) (header_label region))
  pub ends : place + length (row_code e.s.context place (Dispatch region arms)) ≡ place + 6 + length (met_arms e.s.context (chosen_label region) (place + 6) arms) + 7

pub dispatch_parts : (e : Scene) (place region : ℕ) (arms : Arms) → Has e.s.made place (row_code e.s.context place (Dispatch region arms)) → DispatchParts e place region arms
dispatch_parts e place region arms has =
    let c = e.s.context in
    let front : List Inst = dispatch_head c region place arms in
    let tail : ℕ → List Inst = λ q. dispatch_tail c region q in
    let rest : ℕ → List Inst = λ p. followed p (met_arms c (chosen_label region) p arms) tail in
    let same : place + length front ≡ place + 6 = omega arith in
    let first = has_front e.s.made place front (rest (place + length front)) has in
    let back = followed_at e place (place + 6) front rest same has in
    let met : List Inst = met_arms c (chosen_label region) (place + 6) arms in
    let end : ℕ = place + 6 + length met in
    let behind = has_back e.s.made (place + 6) met (tail end) back in
    let long = followed_length place (place + 6) front rest same in
    let inner = followed_length (place + 6) end met tail refl in
    record {
      merge = first.0;
      out = first.1.0;
      body = inst_there e (place + 1 + 1) (place + 2) (label_inst (body_label region)) (omega arith) first.1.1.0;
      load = inst_there e (place + 1 + 1 + 1) (place + 3) (inst 61 (int_id c ∷ result c (place + 3) ∷ variable c Want ∷ [])) (omega arith) first.1.1.1.0;
      select = inst_there e (place + 1 + 1 + 1 + 1) (place + 4) (selection_inst (chosen_label region)) (omega arith) first.1.1.1.1.0;
      switch = inst_there e (place + 1 + 1 + 1 + 1 + 1) (place + 5) (inst 251 (result c (place + 3) ∷ chosen_label region ∷ arm_pairs arms)) (omega arith) first.1.1.1.1.1.0;
      arms_code = has_front e.s.made (place + 6) met (tail end) back;
      chosen = behind.0;
      footer = behind.1;
      ends = omega (arith, long, inner);
    }
