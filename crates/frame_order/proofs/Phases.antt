-- The instructions of a module stand in order.
use Rattle.std.proofs.Common.{◌≡◌, ℕ, suc, ◌≤◌, Bool, true, false, not, List, [], ◌∷◌, ◌++◌, length, take, Option, Some, None, refl, ap, ◌∙◌, arith}
use Rattle.std.specs.Prelude.{◌==◌, ◌&&◌, ◌||◌, nat_lt, nat_le, option_and_then}
use Rattle.std.specs.List.{fold}
use Rattle.spv_form.specs.declared.module.Inst.{Inst}
use Rattle.order_rules.specs.declared.order.Phase.{Phase}
use Rattle.order_rules.specs.declared.order.Phase.TheVariants as phase
use Rattle.order_rules.specs.Order.{part, is_terminator, follow, follow_global, follow_block, phase_behind, OutOfOrder}
use Rattle.order_rules.proofs.OrderLaws.{never_stuck}
use Rattle.spirv_code.specs.declared.key.Global.{Global}
use Rattle.spirv_code.specs.declared.key.Slot.{Slot}
use Rattle.spirv_code.specs.Frame.{slot_variables}
use Rattle.frame_facts.proofs.Searches.{Each, if_not, if_so}
use Rattle.frame_order.proofs.Leads.{is_inside, Leads, ends, inside, closes, opens}
use Rattle.frame_order.proofs.Frame.{Early}

abbrev pub behind : Option Phase → List Inst → Option Phase
behind o xs = fold (λ o x. option_and_then (λ p. follow p x) o) o xs

pub behind_append : (o : Option Phase) (xs ys : List Inst) → behind o (xs ++ ys) ≡ behind (behind o xs) ys
behind_append o [] ys = refl
behind_append o (x ∷ xs) ys = behind_append (option_and_then (λ p. follow p x) o) xs ys

-- ---- inside the function

-- an opcode of what stands in no part before the function
abbrev is_body : ℕ → Bool
is_body n = nat_lt 60 n && (not (n == 71) && not (n == 72))

no_part : (x : Inst) → is_body x.opcode ≡ true → part x ≡ None
unfolding part
no_part x e =
    let n : ℕ = x.opcode in
    if_not _ (first n e) _ _ ∙ if_not _ (second n e) _ _ ∙ if_not _ (third n e) _ _ ∙ if_not _ (fourth n e) _ _ ∙ if_not _ (name n e) _ _ ∙ if_not _ (decoration n e) _ _ ∙ if_not _ (plain n e) _ _ ∙ if_not _ (made n e) _ _ ∙ if_not _ (constant n e) _ _ ∙ if_not _ (variable n e) _ _
  where
    first : (n : ℕ) → is_body n ≡ true → (n == 17) ≡ false
    first n e = grind arith

    second : (n : ℕ) → is_body n ≡ true → (n == 14) ≡ false
    second n e = grind arith

    third : (n : ℕ) → is_body n ≡ true → (n == 15) ≡ false
    third n e = grind arith

    fourth : (n : ℕ) → is_body n ≡ true → (n == 16) ≡ false
    fourth n e = grind arith

    name : (n : ℕ) → is_body n ≡ true → (n == 5) ≡ false
    name n e = grind arith

    decoration : (n : ℕ) → is_body n ≡ true → (n == 71 || n == 72) ≡ false
    decoration n e = grind arith

    plain : (n : ℕ) → is_body n ≡ true → (n == 19 || n == 20 || n == 21 || n == 23) ≡ false
    plain n e = grind arith

    made : (n : ℕ) → is_body n ≡ true → (n == 28 || n == 29 || n == 30 || n == 32 || n == 33) ≡ false
    made n e = grind arith

    constant : (n : ℕ) → is_body n ≡ true → (n == 41 || n == 42 || n == 43) ≡ false
    constant n e = grind arith

    variable : (n : ℕ) → is_body n ≡ true → (n == 59) ≡ false
    variable n e = grind arith

stays : (x : Inst) → is_inside x.opcode ≡ true → follow phase.Block x ≡ Some phase.Block
stays x e =
    ap (follow_block x) (no_part x (body x.opcode e)) ∙ if_not _ (goes_on x.opcode e) _ _ ∙ if_not _ (no_border x.opcode e) _ _
  where
    body : (n : ℕ) → is_inside n ≡ true → is_body n ≡ true
    body n e = grind arith

    goes_on : (n : ℕ) → is_inside n ≡ true → is_terminator n ≡ false
    goes_on n e = grind arith

    no_border : (n : ℕ) → is_inside n ≡ true → (n == 54 || n == 56 || n == 248) ≡ false
    no_border n e = grind arith

leaves : (x : Inst) → is_terminator x.opcode ≡ true → follow phase.Block x ≡ Some phase.Function
leaves x e = ap (follow_block x) (no_part x (body x.opcode e)) ∙ if_so _ e _ _
  where
    body : (n : ℕ) → is_terminator n ≡ true → is_body n ≡ true
    body n e = grind arith

abbrev pub phase_of : Bool → Phase
phase_of true = phase.Block
phase_of false = phase.Function

pub leads_behind : {a b : Bool} (xs : List Inst) → Leads a xs b → behind (Some (phase_of a)) xs ≡ Some (phase_of b)
leads_behind [] ends = refl
leads_behind (x ∷ xs) (inside e h) = ap (λ o. behind o xs) (stays x e) ∙ leads_behind xs h
leads_behind (x ∷ xs) (closes e few h) = ap (λ o. behind o xs) (leaves x e) ∙ leads_behind xs h
leads_behind (x ∷ xs) (opens h) = leads_behind xs h

-- ---- before the function

-- what is reached in a part of the order
pub record Reaches (o : Option Phase) (most : ℕ) : Type 0 where
  pub part_at : ℕ
  pub low : part_at ≤ most
  pub is : o ≡ Some (phase.Global part_at)

follows : (x : Inst) (n k : ℕ) → k ≤ n → part x ≡ Some n → follow (phase.Global k) x ≡ Some (phase.Global n)
follows x n k low e = ap (follow_global k x) e ∙ if_so (nat_le k n) (less k n low) _ _
  where
    less : (k n : ℕ) → k ≤ n → nat_le k n ≡ true
    less k n h = grind arith

early_from : (n k : ℕ) (xs : List Inst) → k ≤ n → Each (Early n) xs → Reaches (behind (Some (phase.Global k)) xs) n
early_from n k [] low h = record { part_at = k; low = low; is = refl }
early_from n k (x ∷ xs) low h =
    let rest = early_from n n xs (omega arith) h.1 in
    record { part_at = rest.part_at; low = rest.low; is = ap (λ o. behind o xs) (follows x n k low h.0.part_is) ∙ rest.is }

-- more of a later part, behind what was reached
pub early_behind : (o : Option Phase) (m n : ℕ) (xs : List Inst) → m ≤ n → Reaches o m → Each (Early n) xs → Reaches (behind o xs) n
early_behind o m n xs low at h =
    let rest = early_from n at.part_at xs (omega (arith, low, at.low)) h in
    record { part_at = rest.part_at; low = rest.low; is = ap (λ s. behind s xs) at.is ∙ rest.is }

-- ---- the function's variables

pub slots_stay : (ids : Global → ℕ) (n : ℕ) (slots : List Slot) → behind (Some phase.Block) (slot_variables ids n slots) ≡ Some phase.Block
unfolding part
slots_stay ids n [] = refl
slots_stay ids n (s ∷ slots) = slots_stay ids (suc n) slots

-- ---- all

take_all : (xs : List Inst) → take (length xs) xs ≡ xs
take_all [] = refl
take_all (x ∷ xs) = ap (λ ys. x ∷ ys) (take_all xs)

pub never_out : (insts : List Inst) (q : Phase) → phase_behind insts ≡ Some q → (at : ℕ) → OutOfOrder insts at → ⊥
never_out insts q reached at out =
    let none = (never_stuck insts (length insts) q (ap phase_behind (take_all insts) ∙ reached) (omega arith)).only at out in
    cc
