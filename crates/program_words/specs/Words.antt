-- The words that a program is translated into.
use Rattle.std.specs.Prelude.{◌≡◌, ℕ, ◌+◌, ◌*◌, ◌^◌, List, [], ◌∷◌, ◌++◌, length}
use Rattle.dxil_form.specs.declared.block.Block.{Block}
use Rattle.dxil_form.specs.declared.block.Term.TheVariants.{Ret}
use Rattle.dxil_form.specs.declared.program.Program.{Program}
use Rattle.spv_form.specs.declared.module.Module.{Module}
use Rattle.spv_form.specs.declared.module.Version.{Version}
use Rattle.spv_form.specs.Formed.{IsFormed}
use Rattle.spv_form.specs.WordRules.{IsModule}
use Rattle.spv_form.specs.Versions.{version_word}
use Rattle.spirv_meaning.specs.Bindings.{plain_bindings}
use Rattle.spirv_meaning.specs.Same.{Same}
use Rattle.act_counts.specs.Laws.{HasFewActs}
use Rattle.variable_counts.specs.Laws.{HasFewVariables}
use Rattle.module_laws.specs.Rules.{KeepsRules}
use Rattle.module_laws.specs.Loops.{HasLoops}

-- ---- a program that does nothing

abbrev pub idle_block : Block
idle_block = record { phis = []; instrs = []; term = Ret }

abbrev pub IsIdle : Program → Type 0
IsIdle p = p.blocks ≡ idle_block ∷ []

-- an instruction's words: its number of words and its opcode, and its operands
abbrev pub instruction : ℕ → List ℕ → List ℕ
instruction opcode operands = ((1 + length operands) * 2 ^ 16 + opcode) ∷ operands

-- The words of its module, with these thread counts: the magic, the version, no generator, the bound 5 and 0, and then the instructions, with the ids 1 the function, 2 the type void, 3 the function's type and 4 the label.
abbrev pub idle_words : Version → List ℕ → List ℕ
idle_words version counts =
    (0x07230203 ∷ version_word version ∷ 0 ∷ 5 ∷ 0 ∷ [])
    -- OpCapability Shader; OpMemoryModel Logical GLSL450
    ++ (instruction 17 (1 ∷ []) ++ (instruction 14 (0 ∷ 1 ∷ [])
    -- OpEntryPoint GLCompute %1 "main"; OpExecutionMode %1 LocalSize and the counts; OpName %4 "b0"
    ++ (instruction 15 (5 ∷ 1 ∷ 0x6E69616D ∷ 0 ∷ []) ++ (instruction 16 (1 ∷ 17 ∷ counts) ++ (instruction 5 (4 ∷ 0x3062 ∷ [])
    -- %2 = OpTypeVoid; %3 = OpTypeFunction %2; %1 = OpFunction %2 None %3
    ++ (instruction 19 (2 ∷ []) ++ (instruction 33 (3 ∷ 2 ∷ []) ++ (instruction 54 (2 ∷ 1 ∷ 0 ∷ 3 ∷ [])
    -- %4 = OpLabel; OpReturn; OpFunctionEnd
    ++ (instruction 248 (4 ∷ []) ++ (instruction 253 [] ++ instruction 56 []))))))))))

-- ---- every program

-- The words are those of a module of this version whose instructions are as their opcodes say, that keeps the rules, that does the same as the program, whose loops are those of its branch graph, and that has no more accesses, atomics, barriers and divisions than the blocks of the program that are reached. Where its branches are a tree, it has few variables. Those of a program that does nothing are fixed.
pub record IsWordsOf (p : Program) (version : Version) (words : List ℕ) : Type 0 where
  pub made : Module
  pub spelled : IsModule words made
  pub formed : IsFormed made
  pub states : made.version ≡ version
  pub keeps : KeepsRules made
  pub same : Same p (plain_bindings p) made
  pub loops : HasLoops p made
  pub acts : HasFewActs p made
  pub variables : HasFewVariables p made
  pub idle : IsIdle p → words ≡ idle_words version p.local
