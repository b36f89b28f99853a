-- V14: how many merge instructions wait for their merge label.
use Rattle.std.specs.Prelude.{ℕ, ◌≡◌, ◌+◌, ◌-◌, ◌<◌, ◌≤◌, ◌==◌, ◌||◌, ◌&&◌, not, List, length, take, Bool, true, false, Option, Some, None, IfSome, ◌^◌, count_by, if◌then◌else◌}
use Rattle.std.specs.List.{list_any}
use Rattle.std.specs.Option.{option_map, option_map_or, option_and_then}
use Rattle.spv_form.specs.declared.module.Inst.{Inst}
use Rattle.spv_ids.specs.Roles.{operand}
use Rattle.order_rules.specs.declared.merges.Named.{Named}

-- LoopMerge, SelectionMerge: the merge label comes first
abbrev pub is_merge : Inst → Bool
is_merge x = x.opcode == 246 || x.opcode == 247

-- it is the label with this id
abbrev pub is_label : ℕ → Inst → Bool
is_label l x = x.opcode == 248 && operand x 0 == l

-- a merge instruction whose merge label is not among these instructions
abbrev pub is_open : List Inst → Inst → Bool
is_open insts x = is_merge x && not (list_any (is_label (operand x 0)) insts)

-- how many of these instructions are merge instructions whose merge label is not among them
unfoldable pub waiting : List Inst → ℕ
waiting insts = count_by (is_open insts) insts

-- with the instruction at the place more than 1,023 merge instructions wait for their merge label, and before it that was never so
pub record MakesCrowded (insts : List Inst) (at : ℕ) : Type 0 where
  pub within : at < length insts
  pub over : 1023 < waiting (take (at + 1) insts)
  pub before : (j : ℕ) → j ≤ at → waiting (take j insts) ≤ 1023

-- ---- one instruction more

abbrev pub unnamed : Named
unnamed = record { merges = 0; stood = false }

-- a merge instruction that names the label
abbrev pub names : ℕ → Inst → Bool
names l x = is_merge x && operand x 0 == l

-- a merge instruction among these names the label
unfoldable pub is_named : List Inst → ℕ → Bool
is_named insts l = list_any (names l) insts

-- how many merge instructions among these name the label, and whether it is among them
unfoldable pub named_of : List Inst → ℕ → Named
named_of insts l = record { merges = count_by (names l) insts; stood = list_any (is_label l) insts }

-- the label that a merge instruction names, or that stands there
abbrev pub label_of : Inst → Option ℕ
label_of x = if x.opcode == 246 || x.opcode == 247 || x.opcode == 248 then Some (operand x 0) else None

abbrev pub named_with : Bool → Named → Named
named_with is_label n = if is_label then record { merges = n.merges; stood = true } else record { merges = n.merges + 1; stood = n.stood }

-- how many wait, where a label stands there or is named
abbrev pub waiting_with : Bool → Named → ℕ → ℕ
waiting_with is_label n count = if n.stood then count else if is_label then count - n.merges else count + 1

-- ---- a table of the labels that merge instructions name

-- the table has just the labels that these instructions name, and says nothing of them
pub record AreNamed (named : ℕ → Option Named) (insts : List Inst) : Type 0 where
  pub named_is : (l : ℕ) → named l ≡ (if is_named insts l then Some unnamed else None)

-- a label that the instruction names was put
pub record IsPut (named named' : ℕ → Option Named) (x : Inst) : Type 0 where
  pub named_is : (l : ℕ) → named' l ≡ (if names l x then Some unnamed else named l)

-- the first so many instructions are counted, in a table that has just the labels that some of all these instructions name
pub record AreMerges (count : ℕ) (named : ℕ → Option Named) (insts : List Inst) (at : ℕ) : Type 0 where
  pub count_is : count ≡ waiting (take at insts)
  pub named_is : (l : ℕ) → named l ≡ (if is_named insts l then Some (named_of (take at insts) l) else None)

-- the entry of the label that the instruction names or is
abbrev pub entry_of : (ℕ → Option Named) → Inst → Option Named
entry_of named x = option_and_then named (label_of x)

-- the instruction was counted
pub record IsPassed (count count' : ℕ) (named named' : ℕ → Option Named) (x : Inst) : Type 0 where
  pub count_is : count' ≡ option_map_or (λ n. waiting_with (x.opcode == 248) n count) (entry_of named x) count
  pub named_is : (l : ℕ) → named' l ≡ (if option_map_or (λ k. k == l) (label_of x) false then option_map (named_with (x.opcode == 248)) (named l) else named l)

abbrev pub HasRoom : (ℕ → Option Named) → Inst → Type 0
HasRoom named x = IfSome (entry_of named x) (λ n. n.merges + 1 < 2 ^ 32)

-- so far it was never more than 1,023
pub record IsCounting (count : ℕ) (named : ℕ → Option Named) (insts : List Inst) (at : ℕ) : Type 0 where
  pub are : AreMerges count named insts at
  pub before : (j : ℕ) → j ≤ at → waiting (take j insts) ≤ 1023
