-- Code that is blocks one behind the other: where it leads, from within a block or from between two.
use Rattle.std.proofs.Common.{◌≡◌, ℕ, Bool, true, false, not, List, [], ◌∷◌, ◌++◌, refl}
use Rattle.std.specs.Prelude.{◌==◌, ◌&&◌, nat_lt}
use Rattle.spv_form.specs.declared.module.Inst.{Inst}
use Rattle.order_rules.specs.Order.{is_terminator}
use Rattle.module_rules.specs.Entry.{has_many_pairs}
use Rattle.spirv_code.specs.Exits.{label_inst}

-- an opcode of what stands inside a block: no part of what stands before the function, and no label or terminator
abbrev pub is_inside : ℕ → Bool
is_inside n = nat_lt 60 n && (nat_lt n 248 && (not (n == 71) && not (n == 72)))

abbrev pub AreInside : List Inst → Type 0
AreInside [] = Unit {0}
AreInside (x ∷ xs) = (is_inside x.opcode ≡ true) × AreInside xs

pub inside_append : (xs ys : List Inst) → AreInside xs → AreInside ys → AreInside (xs ++ ys)
inside_append [] ys h k = k
inside_append (x ∷ xs) ys h k = (h.0, inside_append xs ys h.1 k)

-- true stands for within a block, and false for between two
pub data Leads : Bool → List Inst → Bool → Type 0 where
  ends : {b : Bool} → Leads b [] b
  inside : {x : Inst} {xs : List Inst} {b : Bool} → is_inside x.opcode ≡ true → Leads true xs b → Leads true (x ∷ xs) b
  closes : {x : Inst} {xs : List Inst} {b : Bool} → is_terminator x.opcode ≡ true → has_many_pairs x ≡ false → Leads false xs b → Leads true (x ∷ xs) b
  opens : {id : ℕ} {xs : List Inst} {b : Bool} → Leads true xs b → Leads false (label_inst id ∷ xs) b

pub leads_append : {a b d : Bool} (xs ys : List Inst) → Leads a xs b → Leads b ys d → Leads a (xs ++ ys) d
leads_append [] ys ends k = k
leads_append (x ∷ xs) ys (inside e h) k = inside e (leads_append xs ys h k)
leads_append (x ∷ xs) ys (closes e few h) k = closes e few (leads_append xs ys h k)
leads_append (x ∷ xs) ys (opens h) k = opens (leads_append xs ys h k)

pub inside_leads : (xs : List Inst) → AreInside xs → Leads true xs true
inside_leads [] h = ends
inside_leads (x ∷ xs) h = inside h.0 (inside_leads xs h.1)

-- behind what stands inside a block
pub inside_then : {b : Bool} (xs ys : List Inst) → AreInside xs → Leads true ys b → Leads true (xs ++ ys) b
inside_then xs ys h k = leads_append xs ys (inside_leads xs h) k

-- a branch is no switch
pub branch_few : (operands : List ℕ) → has_many_pairs (record { opcode = 249; operands = operands }) ≡ false
unfolding has_many_pairs
branch_few operands = refl

pub fork_few : (operands : List ℕ) → has_many_pairs (record { opcode = 250; operands = operands }) ≡ false
unfolding has_many_pairs
fork_few operands = refl

-- a branch and the label behind it
pub onwards_leads : {b : Bool} {to id : ℕ} {xs : List Inst} → Leads true xs b → Leads true (record { opcode = 249; operands = to ∷ [] } ∷ label_inst id ∷ xs) b
onwards_leads h = closes refl (branch_few _) (opens h)
