-- What a command has made before it writes and says.
use Rattle.std.specs.Prelude.{◌≡◌, ℕ, List, Some}
use Rattle.std.specs.Option.{option_map}
use Rattle.dx_base.specs.declared.fault.Fault.{Fault}
use Rattle.dx_base.specs.declared.fault.Fault.TheVariants as fault
use Rattle.dx_file.specs.Layers.{Refusal, refused, limited}
use Rattle.dx_outside.specs.Outside.{FilesSeen, SinkSeen, Rose, SaidPart, with_more}
use Rattle.spv_form.specs.declared.module.Version.{Version}
use Rattle.dx_run.specs.declared.output.Output.{Output}
use Rattle.dx_run.specs.declared.status.Status.{Status}
use Rattle.dx_run.specs.declared.status.Status.TheVariants.{Done, Refused, Usage, ReadFault, WriteFault, Limit, OutOfMemory, SayFault}
use Rattle.dx_run.specs.Commands.{Command, source, target}
use Rattle.dx_run.specs.Answers.{Answer, refusal_answer, IsAnswer, IsTranslated, IsListed, IsChecked}
use Rattle.dx_run.specs.Runs.{Read, Leaves}

-- the answer that an output is
abbrev pub answer_of : List ℕ → Output → Answer
answer_of to output = record { status = output.status; writes = option_map (λ bytes. (to, bytes)) output.bytes; text = output.text }

-- The output is the answer of a translation to this version to a file of these bytes.
pub record IsOutput (version : Version) (bytes : List ℕ) (output : Output) : Type 0 where
  pub translated : (to : List ℕ) → IsTranslated version to bytes (answer_of to output)

-- The output is the answer of `show` to a file of these bytes.
pub record IsListing (bytes : List ℕ) (output : Output) : Type 0 where
  pub listed : (to : List ℕ) → IsListed bytes (answer_of to output)

-- The output is the answer of `check` to a file of these bytes.
pub record IsReport (bytes : List ℕ) (output : Output) : Type 0 where
  pub checked : (to : List ℕ) → IsChecked bytes (answer_of to output)

-- the output is the answer to a refusal
pub record IsRefusalOutput (refusal : Refusal) (output : Output) : Type 0 where
  pub answers : (to : List ℕ) → answer_of to output ≡ refusal_answer refusal

-- the output for a fault
abbrev pub IsFaultOutput : Fault → Output → Type 0
IsFaultOutput (fault.Refused rule bit) output = IsRefusalOutput (refused rule bit) output
IsFaultOutput (fault.Limit which bit) output = IsRefusalOutput (limited which bit) output
IsFaultOutput fault.OutOfMemory output = ⊥

-- the statuses of answers
abbrev pub IsOfAnswer : Status → Type 0
IsOfAnswer Done = Unit {0}
IsOfAnswer Refused = Unit {0}
IsOfAnswer Usage = Unit {0}
IsOfAnswer Limit = Unit {0}
IsOfAnswer ReadFault = ⊥
IsOfAnswer WriteFault = ⊥
IsOfAnswer OutOfMemory = ⊥
IsOfAnswer SayFault = ⊥

-- The text was said whole, and the status is the given one; or a prefix of it was said.
pub data Concluded (text : List ℕ) (old new : SinkSeen) (status : Status) : Status → Type 0 where
  whole : new.taken ≡ with_more old.taken text → Concluded text old new status status
  failed : Rose old.faults new.faults → SaidPart text old.taken new.taken → Concluded text old new status SayFault
  lacking : Rose old.lacks new.lacks → SaidPart text old.taken new.taken → Concluded text old new status OutOfMemory

-- Whatever command this output is the answer of, what it leaves is met.
pub record Finishes (to : List ℕ) (output : Output) (files : FilesSeen) (sink : SinkSeen) (files' : FilesSeen) (sink' : SinkSeen) (status : Status) : Type 0 where
  pub leaves : (command : Command) (bytes : List ℕ) → Read (source command) files.store bytes → target command ≡ Some to
      → IsAnswer command bytes (answer_of to output) → Leaves command files sink files' sink' status
