-- What the metadata say of the compute shader, and the answer of their reader.
use Rattle.std.specs.Prelude.{ℕ, ◌≡◌, List, ◌++◌, get_or, unwrap_or, Result, Ok, Err}
use Rattle.dx_base.specs.First.{IsSound}
use Rattle.dx_base.specs.declared.fault.Fault.{Fault}
use Rattle.dx_base.specs.declared.fault.Fault.TheVariants.{Refused, OutOfMemory}
use Rattle.dx_base.specs.declared.fault.Rule.TheVariants.{N}
use Rattle.dxil_form.specs.declared.program.Class.TheVariants.{Srv, Uav, Cbv}
use Rattle.llvm_nodes.specs.declared.item.Meta.{Meta}
use Rattle.llvm_facts.specs.Module.{Module}
use Rattle.llvm_facts.specs.Values.{body_at}
use Rattle.llvm_facts.specs.Entry.{local as counts_of}
use Rattle.llvm_facts.specs.Rows.{rows_of, rows_at}
use Rattle.llvm_facts.specs.Rules.{Broken, IsFirstByNumber, entry_of}
use Rattle.llvm_facts.specs.declared.facts.Facts.{Facts}
use Rattle.llvm_facts.specs.declared.facts.Row.{Row}

-- the rows of an entry node's lists: SRVs, UAVs, then constant buffers
abbrev pub all_rows : Module → List ℕ → List Row
all_rows m entry = rows_of m Srv (rows_at m entry 0) ++ rows_of m Uav (rows_at m entry 1) ++ rows_of m Cbv (rows_at m entry 2)

-- what an entry node with these fields states
pub record AreFacts (facts : Facts) (m : Module) (entry : List ℕ) : Type 0 where
  pub body : facts.body ≡ unwrap_or (body_at m (get_or entry 0 0)) 0
  pub local : facts.local ≡ counts_of m entry
  pub rows : facts.rows ≡ all_rows m entry

-- No rule is broken, or the first one that is with its bit.
abbrev pub CheckAnswer : Result (Unit {0}) Fault → Module → Meta → Type 0
CheckAnswer (Ok u) m meta = IsSound (Broken m meta)
CheckAnswer (Err (Refused (N rule) bit)) m meta = IsFirstByNumber (Broken m meta) rule bit
CheckAnswer (Err OutOfMemory) m meta = Unit {0}
CheckAnswer (Err e) m meta = ⊥

-- The facts where no rule is broken, or the first rule that is broken with its bit.
abbrev pub FactsAnswer : Result Facts Fault → Module → Meta → Type 0
FactsAnswer (Ok facts) m meta = AreFacts facts m (entry_of m meta) × IsSound (Broken m meta)
FactsAnswer (Err (Refused (N rule) bit)) m meta = IsFirstByNumber (Broken m meta) rule bit
FactsAnswer (Err OutOfMemory) m meta = Unit {0}
FactsAnswer (Err e) m meta = ⊥
