-- The words of an instruction and of a module as lists, and words of 32 bits.
use Rattle.std.specs.Prelude.{ℕ, ◌+◌, ◌*◌, ◌^◌, ◌<◌, List, [], ◌∷◌, ◌++◌, All}
use Rattle.std.specs.List.{flat_map}
use Rattle.spv_form.specs.declared.module.Inst.{Inst}
use Rattle.spv_form.specs.declared.module.Module.{Module}
use Rattle.spv_form.specs.Words.{magic, size_of}
use Rattle.spv_form.specs.Versions.{version_word}

abbrev pub inst_words : Inst → List ℕ
inst_words x = (size_of x * 2 ^ 16 + x.opcode) ∷ x.operands

-- the header, with no generator, and the words of each instruction
abbrev pub module_words : Module → List ℕ
module_words m = (magic ∷ version_word m.version ∷ 0 ∷ m.bound ∷ 0 ∷ []) ++ flat_map inst_words m.insts

-- each is below 2 ^ 32
abbrev pub AreWords : List ℕ → Type 0
AreWords words = All (λ w. w < 2 ^ 32) words
