-- What a command answers where nothing outside it fails.
use Rattle.std.specs.Prelude.{◌≡◌, ◌≤◌, ◌<◌, ◌^◌, ◌++◌, ℕ, List, [], ◌∷◌, Option, Some, None, length, codes}
use Rattle.std.specs.Fmt.{decimal}
use Rattle.dx_base.specs.WordBytes.{bytes_of_words}
use Rattle.dx_base.specs.declared.fault.Rule.{Rule}
use Rattle.dx_base.specs.declared.fault.Rule.TheVariants.{C, B, Y, M, N, P}
use Rattle.dx_base.specs.declared.fault.Which.{Which}
use Rattle.dx_base.specs.declared.fault.Which.TheVariants.{File, Records, Fields, Blocks, Instructions, Cases, PhiEntries, Resources}
use Rattle.dx_run.specs.declared.status.Status.{Status}
use Rattle.dx_run.specs.declared.status.Status.TheVariants.{Done, Refused, Usage, Limit}
use Rattle.dx_file.specs.Layers.{Refusal, refused, limited, IsFirstRefusal}
use Rattle.dx_show.specs.Showing.{IsShown}
use Rattle.spv_form.specs.declared.fault.WordRule.{WordRule}
use Rattle.spv_form.specs.declared.fault.WordRule.TheVariants.{W, V, S}
use Rattle.spirv_words.specs.FileWords.{words_of}
use Rattle.spirv_file.specs.Checking.{IsAccepted, IsFirstRefusal as IsFirstWordRefusal}
use Rattle.spv_form.specs.declared.module.Version.{Version}
use Rattle.dx_run.specs.Commands.{Command, translate, show, check, unknown}
use Rattle.dx_translate.specs.Verdicts.{Verdict, written, stopped, IsVerdict}

-- The status, the name and bytes of the file that is written, if there is one, and the text that is said.
pub record Answer : Type 0 where
  pub status : Status
  pub writes : Option (List ℕ × List ℕ)
  pub text : List ℕ

abbrev pub rule_name : Rule → List ℕ
rule_name (C n) = codes "C" ++ decimal n
rule_name (B n) = codes "B" ++ decimal n
rule_name (Y n) = codes "Y" ++ decimal n
rule_name (M n) = codes "M" ++ decimal n
rule_name (N n) = codes "N" ++ decimal n
rule_name (P n) = codes "P" ++ decimal n

abbrev pub word_rule_name : WordRule → List ℕ
word_rule_name (W n) = codes "W" ++ decimal n
word_rule_name (V n) = codes "V" ++ decimal n
word_rule_name (S n) = codes "S" ++ decimal n

abbrev pub limit_name : Which → List ℕ
limit_name File = codes "file"
limit_name Records = codes "records"
limit_name Fields = codes "fields"
limit_name Blocks = codes "blocks"
limit_name Instructions = codes "instructions"
limit_name Cases = codes "cases"
limit_name PhiEntries = codes "phi-entries"
limit_name Resources = codes "resources"

-- the line for words of no known form; 10 is the line feed
abbrev pub usage_line : List ℕ
usage_line = codes "usage: translate IN OUT, translate-13 IN OUT, show IN, check IN, sample N OUT" ++ 10 ∷ []

-- the line for a limit
abbrev pub limit_line : List ℕ → ℕ → List ℕ
limit_line name bit = codes "limit " ++ (name ++ (codes " bit " ++ (decimal bit ++ 10 ∷ [])))

-- the line for the first refusal
abbrev pub refused_line : List ℕ → ℕ → List ℕ
refused_line name bit = codes "refused " ++ (name ++ (codes " bit " ++ (decimal bit ++ 10 ∷ [])))

-- the line for the first refusal of a file of words
abbrev pub refused_word_line : List ℕ → ℕ → List ℕ
refused_word_line name word = codes "refused " ++ (name ++ (codes " word " ++ (decimal word ++ 10 ∷ [])))

-- the line for a file of words that is accepted, by the count of its words
abbrev pub checked_line : ℕ → List ℕ
checked_line count = codes "checked " ++ (decimal count ++ (codes " words" ++ 10 ∷ []))

-- the line for a translated file, by the count of its words
abbrev pub translated_line : ℕ → List ℕ
translated_line count = codes "translated " ++ (decimal count ++ (codes " words" ++ 10 ∷ []))

-- the answer to a broken rule or a passed limit
abbrev pub refusal_answer : Refusal → Answer
refusal_answer (refused rule bit) = record { status = Refused; writes = None; text = refused_line (rule_name rule) bit }
refusal_answer (limited which bit) = record { status = Limit; writes = None; text = limit_line (limit_name which) bit }

-- the answer of a translation to a verdict on IN, where OUT has the given name
abbrev pub answer_to : List ℕ → Verdict → Answer
answer_to to (written words) = record { status = Done; writes = Some (to, bytes_of_words words); text = translated_line (length words) }
answer_to to (stopped refusal) = refusal_answer refusal

-- the answer of `show IN` to the lines of IN
abbrev pub lines_answer : List ℕ → Answer
lines_answer text = record { status = Done; writes = None; text = text }

-- the answer of `check IN` to a file that is accepted, and to a broken rule
abbrev pub checked_answer : ℕ → Answer
checked_answer count = record { status = Done; writes = None; text = checked_line count }

abbrev pub word_refusal_answer : WordRule → ℕ → Answer
word_refusal_answer rule word = record { status = Refused; writes = None; text = refused_word_line (word_rule_name rule) word }

-- What a translation to this version answers where IN has these bytes.
pub record IsTranslated (version : Version) (to bytes : List ℕ) (answer : Answer) : Type 0 where
  pub verdict : Verdict
  pub is_verdict : IsVerdict version bytes verdict
  pub answer_is : answer ≡ answer_to to verdict

-- What `show IN` answers where IN has these bytes: the lines of its content, or the first refusal of the layers C and B.
pub data IsListed (bytes : List ℕ) (answer : Answer) : Type 0 where
  by_lines : (text : List ℕ) → IsShown bytes text → answer ≡ lines_answer text → IsListed bytes answer
  by_refusal : (refusal : Refusal) → IsFirstRefusal bytes refusal → answer ≡ refusal_answer refusal → IsListed bytes answer

-- What `check IN` answers where IN has these bytes: the count of its words where these are accepted, or the first refusal of the layers W, V and S.
pub data IsChecked (bytes : List ℕ) (answer : Answer) : Type 0 where
  by_words : IsAccepted bytes → answer ≡ checked_answer (length (words_of bytes)) → IsChecked bytes answer
  by_word_refusal : (rule : WordRule) (word : ℕ) → IsFirstWordRefusal bytes rule word → answer ≡ word_refusal_answer rule word → IsChecked bytes answer

-- The answer of a command that reads a file of these bytes: the limit on the file's length comes first, and then what the command answers.
pub data IsOfFile (Answers : Answer → Type 0) (bytes : List ℕ) (answer : Answer) : Type 0 where
  too_long : 2 ^ 26 < length bytes → answer ≡ refusal_answer (limited File 0) → IsOfFile Answers bytes answer
  of_bytes : length bytes ≤ 2 ^ 26 → Answers answer → IsOfFile Answers bytes answer

-- The answer of a command where IN, if the command has one, has these bytes.
abbrev pub IsAnswer : Command → List ℕ → Answer → Type 0
IsAnswer (translate version from to) bytes answer = IsOfFile (IsTranslated version to bytes) bytes answer
IsAnswer (show from) bytes answer = IsOfFile (IsListed bytes) bytes answer
IsAnswer (check from) bytes answer = IsOfFile (IsChecked bytes) bytes answer
IsAnswer unknown bytes answer = answer ≡ record { status = Usage; writes = None; text = usage_line }
