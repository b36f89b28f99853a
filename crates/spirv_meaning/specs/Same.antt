-- A program and a module do the same, where the module names the program's resources by given sets and bindings.
use Rattle.std.specs.Prelude.{◌≡◌, ◌⊎◌, ℕ, ◌+◌, ◌*◌, List, length}
use Rattle.dxil_form.specs.declared.program.Program.{Program}
use Rattle.dxil_form.specs.Sound.{lines_of}
use Rattle.spv_form.specs.declared.module.Module.{Module}
use Rattle.dxil_meaning.specs.Launches.{Memory, Outcome, Undefined, Complete, Ran, Shape, run, at_first}
use Rattle.dxil_meaning.specs.Source.{Launch, product, shape_of, source, State as SourceState}
use Rattle.dxil_meaning.specs.Fits.{Fits, HoldsWords}
use Rattle.spirv_meaning.specs.Bindings.{Bindings}
use Rattle.spirv_meaning.specs.Target.{target, local_size, State as TargetState}

-- K: within so many steps the module answers one step of the program
abbrev pub target_steps : Module → ℕ
target_steps m = 2 * length m.insts + 2

-- L: within so many steps the program answers one step of the module. It is one more than four times the phis, instructions and terminators of the program, since a load or store has at most four parts
abbrev pub source_steps : Program → ℕ
source_steps p = 4 * lines_of p.blocks + 1

-- a run of the program within n steps an entry, in groups of its own thread counts
abbrev pub source_run : Program → Launch → Memory → List ℕ → ℕ → Outcome (Ran SourceState)
source_run p l memory schedule n = run (source p l) (shape_of p l) n schedule (at_first (source p l) memory)

-- how many groups the launch has, and how many invocations the module's LocalSize gives each
abbrev pub target_shape : Module → Launch → Shape
target_shape m l = record { groups = product l.groups; size = product (local_size m.insts) }

-- a run of the module within n steps an entry, in groups of its own LocalSize. It is a function of the module, of the bindings and of the launch alone
abbrev pub target_run : Module → Bindings → Launch → Memory → List ℕ → ℕ → Outcome (Ran TargetState)
target_run m at l memory schedule n =
    run (target m at l) (target_shape m l) n schedule (at_first (target m at l) memory)

-- both runs are complete, every entry made the same event, and at the end the memories are equal, every invocation has the same walk, and the same invocations wait and have ended
pub record Agree {S T : Type 0} (x : Outcome (Ran S)) (y : Outcome (Ran T)) : Type 0 where
  pub left : Ran S
  pub right : Ran T
  pub left_is : x ≡ Complete left
  pub right_is : y ≡ Complete right
  pub events : left.events ≡ right.events
  pub seen : left.world.seen ≡ right.world.seen

-- The module's LocalSize is the program's thread counts, each of the three. And in each launch that fits and by each schedule: where the program's run is complete at n, the module's run is complete at K * (n + 1) and agrees; and where the module's run is complete at n, the program's run at L * (n + 1) is undefined, or complete and agrees.
pub record Same (p : Program) (at : Bindings) (m : Module) : Type 0 where
  pub local : local_size m.insts ≡ p.local
  pub forward : (l : Launch) (memory : Memory) → Fits p l → HoldsWords memory → (schedule : List ℕ) (n : ℕ) (ran : Ran SourceState) → source_run p l memory schedule n ≡ Complete ran → Agree (source_run p l memory schedule n) (target_run m at l memory schedule (target_steps m * (n + 1)))
  pub backward : (l : Launch) (memory : Memory) → Fits p l → HoldsWords memory → (schedule : List ℕ) (n : ℕ) (ran : Ran TargetState) → target_run m at l memory schedule n ≡ Complete ran → (source_run p l memory schedule (source_steps p * (n + 1)) ≡ Undefined) ⊎ Agree (source_run p l memory schedule (source_steps p * (n + 1))) (target_run m at l memory schedule n)
