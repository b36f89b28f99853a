-- What the readers of the values have read.
use Rattle.std.specs.Prelude.{ℕ, ◌≡◌, ◌+◌, ◌<◌, ◌≤◌, ◌||◌, List, [], ◌∷◌, ◌++◌, length, get_or, false, if◌then◌else◌, Option, Some, None, Result, Ok, Err}
use Rattle.std.specs.Option.{option_or}
use Rattle.bitstream_spelling.specs.Framed.{LiesIn, bit_of, open_after}
use Rattle.bitstream_spelling.specs.declared.item.Item.{Item}
use Rattle.dx_base.specs.declared.fault.Fault.{Fault}
use Rattle.dx_base.specs.declared.fault.Fault.TheVariants.{Refused, OutOfMemory}
use Rattle.dx_base.specs.declared.fault.Rule.TheVariants.{M}
use Rattle.dx_base.specs.First.{IsFirst, IsSound}
use Rattle.dx_base.specs.Sentences.{first_that_holds}
use Rattle.llvm_items.specs.Sites.{Site, enters, sites}
use Rattle.llvm_types.specs.declared.kind.LlvmType.{LlvmType}
use Rattle.llvm_values.specs.declared.global.Global.{Global}
use Rattle.llvm_values.specs.declared.list.ListReader.{ListReader}
use Rattle.llvm_values.specs.declared.check.RuleReader.{RuleReader}
use Rattle.llvm_values.specs.declared.rule.State.{State}
use Rattle.llvm_values.specs.Rules.{Broken, is_instruction, is_version, tests}
use Rattle.llvm_values.specs.Values.{names, symbol_of, name_in, takes_value, has_body, type_after, value_stated}

-- an item that is kept, if one is, has its fields in the list
abbrev pub LiesIfAny : List ℕ → Option Item → Type 0
LiesIfAny fs (Some item) = LiesIn fs item
LiesIfAny fs None = Unit {0}

-- the first symbol of each value that the table has room for
pub record IsTable (is : List Item) (fs : List ℕ) (table : List (Option Item)) : Type 0 where
  pub at : (k : ℕ) → k < length table → get_or table k None ≡ symbol_of fs (sites is) k
  pub lie : (k : ℕ) → LiesIfAny fs (get_or table k None)

-- a site is noted as the first symbol of its value, if it is one
pub record IsNoted (fs : List ℕ) (old new : List (Option Item)) (s : Site) : Type 0 where
  pub at : (k : ℕ) → k < length old → get_or new k None ≡ option_or (get_or old k None) (if names fs k s then Some s.item else None)
  pub past : (k : ℕ) → length old ≤ k → get_or new k None ≡ None

-- What the values so far are behind a site. The table holds the first symbols.
abbrev pub list_after : List ℕ → List LlvmType → List (Option Item) → ListReader → Site → List Global
list_after fs types table old s =
    if takes_value s then old.list ++ value_stated fs types old.ty old.bodies (name_in fs (get_or table (length old.list) None)) s ∷ [] else old.list

-- the value of an item is kept, and nothing else is changed
pub record IsKept (old new : ListReader) (fs : List ℕ) (types : List LlvmType) (table : List (Option Item)) (item : Item) : Type 0 where
  pub list : new.list ≡ list_after fs types table old (record { around = old.around; item = item })
  pub around : new.around ≡ old.around
  pub ty : new.ty ≡ old.ty
  pub bodies : new.bodies ≡ old.bodies

-- one item more was read
pub record IsNext (old new : ListReader) (fs : List ℕ) (types : List LlvmType) (table : List (Option Item)) (item : Item) : Type 0 where
  pub list : new.list ≡ list_after fs types table old (record { around = old.around; item = item })
  pub around : new.around ≡ open_after old.around item
  pub ty : new.ty ≡ type_after fs old.ty (record { around = old.around; item = item })
  pub bodies : new.bodies ≡ (if has_body fs (record { around = old.around; item = item }) then old.bodies + 1 else old.bodies)

-- ---- the rules

-- what an item makes of what stands before
abbrev pub state_after : List ℕ → State → Site → State
state_after fs state s = record {
  versioned = state.versioned || is_version s;
  bodied = state.bodied || enters 12 s;
  instructed = if enters 12 s then false else (state.instructed || is_instruction s);
  ty = type_after fs state.ty s;
}

-- one item more was gone past
pub record IsPassed (old new : RuleReader) (fs : List ℕ) (item : Item) : Type 0 where
  pub around : new.around ≡ open_after old.around item
  pub state : new.state ≡ state_after fs old.state (record { around = old.around; item = item })

-- the number of the first rule that is broken at an item, with these items behind it; 0 where none is
abbrev pub rule_at : RuleReader → List ℕ → List LlvmType → List Item → Item → ℕ
rule_at reader fs types behind item = first_that_holds (tests fs types reader.state behind (record { around = reader.around; item = item }))

abbrev pub StepAnswer : Result (Unit {0}) Fault → RuleReader → RuleReader → List ℕ → List LlvmType → List Item → Item → Type 0
StepAnswer (Ok u) old new fs types behind item = (rule_at old fs types behind item ≡ 0) × IsPassed old new fs item
StepAnswer (Err (Refused (M rule) bit)) old new fs types behind item = (rule_at old fs types behind item ≡ rule) × (0 < rule) × (bit ≡ bit_of item)
StepAnswer (Err OutOfMemory) old new fs types behind item = Unit {0}
StepAnswer (Err e) old new fs types behind item = ⊥

-- Nothing is broken, or the first rule that is, with its bit.
abbrev pub RulesAnswer : Result (Unit {0}) Fault → List Item → List ℕ → Type 0
RulesAnswer (Ok u) is fs = IsSound (Broken is fs)
RulesAnswer (Err (Refused (M rule) bit)) is fs = IsFirst (Broken is fs) rule bit
RulesAnswer (Err OutOfMemory) is fs = Unit {0}
RulesAnswer (Err e) is fs = ⊥
