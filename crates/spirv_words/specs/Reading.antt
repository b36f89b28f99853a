-- What the reader of a module answers.
use Rattle.std.specs.Prelude.{ℕ, ◌≡◌, ◌%◌, ◌<◌, ◌≤◌, ◌⊎◌, true, List, length, get_or, slice_get, Option, Some, None, Result, Ok, Err, All}
use Rattle.dx_base.specs.First.{IsFirst}
use Rattle.dx_base.specs.WordBytes.{bytes_of_words}
use Rattle.spv_form.specs.declared.shape.Shape.{Shape}
use Rattle.spv_form.specs.declared.module.Inst.{Inst}
use Rattle.spv_form.specs.declared.module.Module.{Module}
use Rattle.spv_form.specs.declared.module.Version.{Version}
use Rattle.spv_form.specs.declared.fault.CheckFault.{CheckFault}
use Rattle.spv_form.specs.declared.fault.CheckFault.TheVariants.{Refused, OutOfMemory}
use Rattle.spv_form.specs.declared.fault.WordRule.TheVariants.{W, V, S}
use Rattle.spv_form.specs.Operands.{is_id}
use Rattle.spv_form.specs.Formed.{IsFormed, IsFormedInst, IsIdBelow}
use Rattle.spv_form.specs.Words.{magic, start_of, StandsAt, IsLayout}
use Rattle.spv_form.specs.WordRules.{Breaks, Broken, IsModule}
use Rattle.spv_form.specs.Versions.{version_word}
use Rattle.spirv_words.specs.declared.header.Header.{Header}
use Rattle.spirv_words.specs.FileWords.{words_of}
use Rattle.spirv_words.specs.Written.{AreWords}

-- Ok exactly where the bytes are whole words of a module that breaks no rule; a refusal is the rule of least word, and there of least number.
abbrev pub ReadAnswer : Result Module CheckFault → List ℕ → Type 0
ReadAnswer (Ok m) bytes = (length bytes % 4 ≡ 0) × IsModule (words_of bytes) m × IsFormed m
ReadAnswer (Err (Refused (W rule) word)) bytes = IsFirst (Broken (words_of bytes) (length bytes % 4)) rule word
ReadAnswer (Err (Refused (V rule) word)) bytes = ⊥
ReadAnswer (Err (Refused (S rule) word)) bytes = ⊥
ReadAnswer (Err OutOfMemory) bytes = Unit {0}

-- the answer is the module, unless memory runs out
abbrev pub IsReadAs : Result Module CheckFault → Module → Type 0
IsReadAs (Ok read) m = read ≡ m
IsReadAs (Err e) m = e ≡ OutOfMemory

-- The bytes of the words of a module that is as its opcodes say are read as this module.
abbrev pub ReadsBack : Result Module CheckFault → List ℕ → Type 0
ReadsBack result bytes = (m : Module) (words : List ℕ) → AreWords words → bytes ≡ bytes_of_words words → IsLayout words m → IsFormed m → IsReadAs result m

-- ---- of the parts

abbrev pub WordsAnswer : Result Module CheckFault → List ℕ → Type 0
WordsAnswer (Ok m) words = IsModule words m × IsFormed m
WordsAnswer (Err (Refused (W rule) word)) words = IsFirst (Broken words 0) rule word
WordsAnswer (Err (Refused (V rule) word)) words = ⊥
WordsAnswer (Err (Refused (S rule) word)) words = ⊥
WordsAnswer (Err OutOfMemory) words = Unit {0}

-- the header of a module of this version and with this bound
pub record IsHeader (words : List ℕ) (version : Version) (bound : ℕ) : Type 0 where
  pub long : 5 ≤ length words
  pub magic : get_or words 0 0 ≡ magic
  pub states : get_or words 1 0 ≡ version_word version
  pub limit : get_or words 3 0 ≡ bound
  pub schema : get_or words 4 0 ≡ 0

abbrev pub HeaderAnswer : Result Header CheckFault → List ℕ → Type 0
HeaderAnswer (Ok header) words = IsHeader words header.version header.bound
HeaderAnswer (Err (Refused (W rule) word)) words = IsFirst (Broken words 0) rule word
HeaderAnswer (Err (Refused (V rule) word)) words = ⊥
HeaderAnswer (Err (Refused (S rule) word)) words = ⊥
HeaderAnswer (Err OutOfMemory) words = ⊥

-- the least rule that the instruction at a word breaks
pub record IsLeastBreak (words : List ℕ) (bound at rule : ℕ) : Type 0 where
  pub broken : Breaks words bound at rule
  pub least : (other : ℕ) → Breaks words bound at other → rule ≤ other

abbrev pub InstAnswer : Result Inst CheckFault → List ℕ → ℕ → ℕ → Type 0
InstAnswer (Ok x) words bound at = StandsAt words at x × IsFormedInst bound x
InstAnswer (Err (Refused (W rule) word)) words bound at = (word ≡ at) × IsLeastBreak words bound at rule
InstAnswer (Err (Refused (V rule) word)) words bound at = ⊥
InstAnswer (Err (Refused (S rule) word)) words bound at = ⊥
InstAnswer (Err OutOfMemory) words bound at = Unit {0}

-- instructions stand one behind the other from word 5 on, and are as their opcodes say
pub record AreRead (words : List ℕ) (bound : ℕ) (insts : List Inst) : Type 0 where
  pub each : (i : ℕ) (x : Inst) → slice_get insts i ≡ Some x → StandsAt words (start_of insts i) x
  pub formed : All (IsFormedInst bound) insts

abbrev pub InstsAnswer : Result (List Inst) CheckFault → List ℕ → ℕ → Type 0
InstsAnswer (Ok insts) words bound = AreRead words bound insts × (length words ≡ start_of insts (length insts))
InstsAnswer (Err (Refused (W rule) word)) words bound = IsFirst (Broken words 0) rule word
InstsAnswer (Err (Refused (V rule) word)) words bound = ⊥
InstsAnswer (Err (Refused (S rule) word)) words bound = ⊥
InstsAnswer (Err OutOfMemory) words bound = Unit {0}

-- an operand word is an id that is 0 or not below the bound
pub record IsBadId (bound : ℕ) (shape : Shape) (operands : List ℕ) (at : ℕ) : Type 0 where
  pub within : at < length operands
  pub is_id : is_id shape operands at ≡ true
  pub out : (get_or operands at 0 ≡ 0) ⊎ (bound ≤ get_or operands at 0)

abbrev pub IdAnswer : Option ℕ → ℕ → Shape → List ℕ → Type 0
IdAnswer (Some at) bound shape operands = IsBadId bound shape operands at
IdAnswer None bound shape operands = (at : ℕ) → at < length operands → is_id shape operands at ≡ true → IsIdBelow bound (get_or operands at 0)
