-- What the functions of the check answer.
use Rattle.std.specs.Prelude.{ℕ, ◌≡◌, ◌<◌, ◌≤◌, ◌⊎◌, List, slice_get, Option, Some, None, Bool, true, false, Result, Ok, Err}
use Rattle.dx_base.specs.First.{IsFirst, IsSound}
use Rattle.spv_form.specs.declared.module.Inst.{Inst}
use Rattle.spv_form.specs.declared.module.Module.{Module}
use Rattle.spv_form.specs.declared.module.Version.{Version}
use Rattle.spv_form.specs.declared.fault.CheckFault.{CheckFault}
use Rattle.spv_form.specs.declared.fault.CheckFault.TheVariants.{Refused, OutOfMemory}
use Rattle.spv_form.specs.declared.fault.WordRule.TheVariants.{W, V, S}
use Rattle.spv_form.specs.Words.{start_of}
use Rattle.order_rules.specs.Order.{OutOfOrder, IsThePlace}
use Rattle.order_rules.specs.Merges.{MakesCrowded}
use Rattle.id_rules.specs.Again.{AreFormed}
use Rattle.decoration_rules.specs.ReadOnly.{IsReadOnly, written_by}
use Rattle.module_rules.specs.declared.tables.Tables.{Tables}
use Rattle.module_rules.specs.Rules.{Breaks, Misses, Broken}

-- Ok exactly where no rule is broken; a refusal is the rule of least word, and there of least number.
abbrev pub RulesAnswer : Result (Unit {0}) CheckFault → Module → Type 0
RulesAnswer (Ok u) m = IsSound (Broken m)
RulesAnswer (Err (Refused (W rule) word)) m = ⊥
RulesAnswer (Err (Refused (V rule) word)) m = IsFirst (Broken m) rule word
RulesAnswer (Err (Refused (S rule) word)) m = ⊥
RulesAnswer (Err OutOfMemory) m = Unit {0}

-- ---- of the parts

-- none of the rules from `low` up to `high` is broken
pub record IsUnbroken (version : Version) (insts : List Inst) (at : ℕ) (x : Inst) (low high : ℕ) : Type 0 where
  pub none : (rule : ℕ) → low ≤ rule → rule < high → Breaks version insts at x rule → ⊥

-- the least rule from `low` up to `high` that is broken
abbrev pub Finds : Version → List Inst → ℕ → Inst → ℕ → ℕ → Option ℕ → Type 0
Finds version insts at x low high None = IsUnbroken version insts at x low high
Finds version insts at x low high (Some rule) = Breaks version insts at x rule × (low ≤ rule) × (rule < high) × IsUnbroken version insts at x low rule

-- the least rule that wants a missing instruction
abbrev pub FindsMissing : List Inst → Option ℕ → Type 0
FindsMissing insts None = (rule : ℕ) → Misses insts rule → ⊥
FindsMissing insts (Some rule) = Misses insts rule × ((other : ℕ) → Misses insts other → rule ≤ other)

-- the tables are of one list of instructions, each of which is as its opcode says
pub record AreTables (t : Tables) : Type 0 where
  pub blocks_are : t.blocks ≡ t.ids
  pub types_are : t.types ≡ t.ids
  pub resources_are : t.resources ≡ t.ids
  pub read_only_are : t.read_only ≡ t.ids
  pub landmarks_are : t.landmarks ≡ t.ids
  pub out_of_order_is : IsThePlace (OutOfOrder t.ids) t.out_of_order
  pub crowded_is : IsThePlace (MakesCrowded t.ids) t.crowded
  pub formed : AreFormed t.ids

-- whether an instruction writes NonWritable memory
pub record Writes (insts : List Inst) (x : Inst) : Type 0 where
  pub pointer : ℕ
  pub written : written_by x ≡ Some pointer
  pub read_only : IsReadOnly insts pointer

abbrev pub IsWriteAnswer : Bool → List Inst → Inst → Type 0
IsWriteAnswer true insts x = Writes insts x
IsWriteAnswer false insts x = Writes insts x → ⊥

-- a rule is broken by what is missing, or by the first instruction
abbrev pub AtStart : Version → List Inst → ℕ → Type 0
AtStart version insts rule = Misses insts rule ⊎ ((x : Inst) × (slice_get insts 0 ≡ Some x) × Breaks version insts 0 x rule)

-- the least of these
pub record IsLeastAtStart (version : Version) (insts : List Inst) (rule : ℕ) : Type 0 where
  pub broken : AtStart version insts rule
  pub least : (other : ℕ) → AtStart version insts other → rule ≤ other

-- the rules of the instructions alone
pub data BrokenBy (version : Version) (insts : List Inst) : ℕ → ℕ → Type 0 where
  instruction : {rule : ℕ} (i : ℕ) (x : Inst) → slice_get insts i ≡ Some x → Breaks version insts i x rule → BrokenBy version insts rule (start_of insts i)

abbrev pub EachAnswer : Result (Unit {0}) CheckFault → Version → List Inst → Type 0
EachAnswer (Ok u) version insts = IsSound (BrokenBy version insts)
EachAnswer (Err (Refused (W rule) word)) version insts = ⊥
EachAnswer (Err (Refused (V rule) word)) version insts = IsFirst (BrokenBy version insts) rule word
EachAnswer (Err (Refused (S rule) word)) version insts = ⊥
EachAnswer (Err OutOfMemory) version insts = Unit {0}
