-- What the translator says of a file of at most 2 ^ 26 bytes.
use Rattle.std.specs.Prelude.{◌==◌, ℕ, List, Result, Ok, Err, if◌then◌else◌}
use Rattle.dx_base.specs.declared.fault.Fault.{Fault}
use Rattle.dx_base.specs.declared.fault.Fault.TheVariants.{Refused, Limit, OutOfMemory}
use Rattle.dx_base.specs.declared.fault.Rule.{Rule}
use Rattle.dx_base.specs.declared.fault.Rule.TheVariants.{P}
use Rattle.dx_base.specs.declared.fault.Which.{Which}
use Rattle.dx_base.specs.declared.fault.Which.TheVariants.{Resources}
use Rattle.dx_base.specs.First.{IsFirst}
use Rattle.dxil_form.specs.declared.program.Program.{Program}
use Rattle.dxbc_container.specs.declared.part.Parts.{Parts}
use Rattle.bitstream_spelling.specs.declared.item.Item.{Item}
use Rattle.dx_file.specs.Layers.{Refusal, refused, limited, IsContent, IsFirstRefusal}
use Rattle.llvm_shader.specs.Shader.{IsShader, AreSound, IsFirstRefusal as IsFirstOfModule}
use Rattle.llvm_shader.specs.declared.read.Shader.{Shader}
use Rattle.entry_read.specs.Entry.{entry_body}
use Rattle.profile_rules.specs.Rules.{Broken}
use Rattle.dxil_profile.specs.Profile.{Meets}
use Rattle.spv_form.specs.declared.module.Version.{Version}
use Rattle.program_words.specs.Words.{IsWordsOf}

-- The words of a module, or the first broken rule or passed limit with its bit.
pub data Verdict : Type 0 where
  written : List ℕ → Verdict
  stopped : Refusal → Verdict

-- ---- of a shader

-- the refusal of a rule of the profile by its number; the limit of resources has the number 23
abbrev pub refusal_by : ℕ → ℕ → Refusal
refusal_by rule bit = if rule == 23 then limited Resources bit else refused (P rule) bit

-- the first rule of the profile that the entry body of a shader breaks
abbrev pub IsFirstOfProfile : Shader → ℕ → ℕ → Type 0
IsFirstOfProfile shader rule bit = IsFirst (Broken (entry_body shader.types shader.records shader.facts)) rule bit

-- the shader meets the profile, and states this program
abbrev pub MeetsProfile : Shader → Program → Type 0
MeetsProfile shader p = Meets shader.types shader.records shader.facts p

-- A verdict on a shader: the first rule of the profile that it breaks; else words of the program that it states. There may be many such words, and the verdict is any of them.
pub data IsShaderVerdict (version : Version) (shader : Shader) : Verdict → Type 0 where
  by_profile : (rule bit : ℕ) → IsFirstOfProfile shader rule bit → IsShaderVerdict version shader (stopped (refusal_by rule bit))
  by_program : (p : Program) (words : List ℕ) → MeetsProfile shader p → IsWordsOf p version words → IsShaderVerdict version shader (written words)

-- ---- of a module's items, and of a file

-- A verdict on the items of a module: the first refusal of its layers; else a verdict on the shader that it states.
pub data IsModuleVerdict (version : Version) (is : List Item) (fs : List ℕ) : Verdict → Type 0 where
  by_rule : (rule : Rule) (bit : ℕ) → IsFirstOfModule is fs (Refused rule bit) → IsModuleVerdict version is fs (stopped (refused rule bit))
  by_limit : (which : Which) (bit : ℕ) → IsFirstOfModule is fs (Limit which bit) → IsModuleVerdict version is fs (stopped (limited which bit))
  by_shader : (shader : Shader) (v : Verdict) → IsShader is fs shader → AreSound is fs → IsShaderVerdict version shader v → IsModuleVerdict version is fs v

-- A verdict on a file: the first refusal of the layers C and B, where the file has no content; else a verdict on the items of its content.
pub data IsVerdict (version : Version) (bytes : List ℕ) : Verdict → Type 0 where
  by_layers : (refusal : Refusal) → IsFirstRefusal bytes refusal → IsVerdict version bytes (stopped refusal)
  by_module : (parts : Parts) (is : List Item) (fs : List ℕ) (v : Verdict) → IsContent bytes parts is fs → IsModuleVerdict version is fs v → IsVerdict version bytes v

-- A result that is a verdict, or want of memory.
abbrev pub VerdictAnswer : (Verdict → Type 0) → Result (List ℕ) Fault → Type 0
VerdictAnswer IsRight (Ok words) = IsRight (written words)
VerdictAnswer IsRight (Err (Refused rule bit)) = IsRight (stopped (refused rule bit))
VerdictAnswer IsRight (Err (Limit which bit)) = IsRight (stopped (limited which bit))
VerdictAnswer IsRight (Err OutOfMemory) = Unit {0}

-- What `translate` answers.
abbrev pub TranslateAnswer : Version → Result (List ℕ) Fault → List ℕ → Type 0
TranslateAnswer version result bytes = VerdictAnswer (IsVerdict version bytes) result

-- ---- of the parts

-- words of the program, or want of memory
abbrev pub WordsAnswer : Program → Version → Result (List ℕ) Fault → Type 0
WordsAnswer p version (Ok words) = IsWordsOf p version words
WordsAnswer p version (Err (Refused rule bit)) = ⊥
WordsAnswer p version (Err (Limit which bit)) = ⊥
WordsAnswer p version (Err OutOfMemory) = Unit {0}
