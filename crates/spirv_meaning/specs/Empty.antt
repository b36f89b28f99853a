-- The program that does nothing but return, in groups of 8, 4 and 1 invocations, and its module.
use Rattle.std.specs.Prelude.{◌≡◌, ℕ, List, [], ◌∷◌, None}
use Rattle.dxil_form.specs.declared.block.Term.TheVariants.{Ret}
use Rattle.dxil_form.specs.declared.program.Program.{Program}
use Rattle.spv_form.specs.declared.module.Inst.{Inst}
use Rattle.spv_form.specs.declared.module.Module.{Module}
use Rattle.spv_form.specs.declared.module.Version.TheVariants.{V16}
use Rattle.dxil_meaning.specs.Source.{Launch, source, State as SourceState}
use Rattle.spirv_meaning.specs.Target.{target, State as TargetState}

abbrev pub inst : ℕ → List ℕ → Inst
inst opcode operands = record { opcode = opcode; operands = operands }

unfoldable pub empty_program : Program
empty_program =
    record {
      local = 8 ∷ 4 ∷ 1 ∷ [];
      resources = [];
      shared = [];
      blocks = record { phis = []; instrs = []; term = Ret } ∷ [];
    }

-- the module of the empty shader in groups of this size: the function is the instruction at place 7, and its one label, named b0, the one at place 8
abbrev pub empty_module_of : (x y z : ℕ) → Module
empty_module_of x y z =
    record {
      version = V16;
      bound = 5;
      insts =
          inst 17 (1 ∷ []) ∷
          inst 14 (0 ∷ 1 ∷ []) ∷
          inst 15 (5 ∷ 1 ∷ 0x6E69616D ∷ 0 ∷ []) ∷
          inst 16 (1 ∷ 17 ∷ x ∷ y ∷ z ∷ []) ∷
          inst 5 (4 ∷ 0x3062 ∷ []) ∷
          inst 19 (2 ∷ []) ∷
          inst 33 (3 ∷ 2 ∷ []) ∷ inst 54 (2 ∷ 1 ∷ 0 ∷ 3 ∷ []) ∷ inst 248 (4 ∷ []) ∷ inst 253 [] ∷ inst 56 [] ∷ [];
    }

unfoldable pub empty_module : Module
empty_module = empty_module_of 8 4 1

-- the same in groups of one invocation
unfoldable pub lonely_module : Module
lonely_module = empty_module_of 1 1 1

-- where the module stands after its label
abbrev pub at_return : Launch → TargetState
at_return l =
    record { at = 9; results = λ id. None; locals = (target empty_module [] l).start.locals }

-- both stand before the return
pub record BeforeReturn (l : Launch) (i : ℕ) (s : SourceState) (t : TargetState) : Type 0 where
  pub source_is : s ≡ (source empty_program l).start
  pub target_is : t ≡ at_return l
