-- Why a run answers its status and what it leaves, whatever fails outside it.
use Rattle.std.specs.Prelude.{◌≡◌, ◌⊎◌, ℕ, List, Option, Some, None}
use Rattle.dx_outside.specs.Outside.{Store, FilesSeen, SinkSeen, Rose, Stood, Becomes, IsWhole, IsTorn, with_more, SaidPart}
use Rattle.dx_run.specs.declared.status.Status.{Status}
use Rattle.dx_run.specs.declared.status.Status.TheVariants.{Done, Refused, Usage, ReadFault, WriteFault, Limit, OutOfMemory, SayFault}
use Rattle.dx_run.specs.Commands.{Command, source, target}
use Rattle.dx_run.specs.Answers.{Answer, IsAnswer}

-- the number with which the program ends
abbrev pub exit_code : Status → ℕ
exit_code Done = 0
exit_code Refused = 1
exit_code Usage = 2
exit_code ReadFault = 3
exit_code WriteFault = 4
exit_code Limit = 5
exit_code OutOfMemory = 6
exit_code SayFault = 7

-- Where the files are told, the file that is read, if there is one, has these bytes.
abbrev pub Read : Option (List ℕ) → Option Store → List ℕ → Type 0
Read None files bytes = Unit {0}
Read (Some name) files bytes = Stood files name bytes

-- The file that is read, if there is one, is told, and has these bytes.
abbrev pub Tells : Option (List ℕ) → Option Store → List ℕ → Type 0
Tells None files bytes = Unit {0}
Tells (Some name) files bytes = (store : Store) × (files ≡ Some store) × (store name ≡ Some bytes)

-- the files after an answer: with nothing to write they are as before
abbrev pub FilesAfter : Option (List ℕ × List ℕ) → Option Store → Option Store → Type 0
FilesAfter None old new = new ≡ old
FilesAfter (Some (name, bytes)) old new = Becomes old name (IsWhole bytes) new

-- the files after the answer's write failed
abbrev pub FilesTorn : Option (List ℕ × List ℕ) → Option Store → Option Store → Type 0
FilesTorn None old new = ⊥
FilesTorn (Some (name, bytes)) old new = Becomes old name (IsTorn bytes) new

-- The command has such a file, and the count of its name rose.
abbrev pub RoseAt : Option (List ℕ) → (List ℕ → ℕ) → (List ℕ → ℕ) → Type 0
RoseAt None old new = ⊥
RoseAt (Some name) old new = Rose (old name) (new name)

-- What stands of a command, between the files and the sink before and after.
module _ (command : Command) (store : Option Store) (taken : Option (List ℕ)) (store' : Option Store) (taken' : Option (List ℕ)) where
  -- The answer of the command has this status, the files are as it says, and its text was said whole.
  pub record Answered (status : Status) : Type 0 where
    pub bytes : List ℕ
    pub answer : Answer
    pub read : Read (source command) store bytes
    pub right : IsAnswer command bytes answer
    pub status_is : answer.status ≡ status
    pub written : FilesAfter answer.writes store store'
    pub said : taken' ≡ with_more taken answer.text

  -- The files are as the answer of the command says, and a prefix of its text was said.
  pub record CutShort : Type 0 where
    pub bytes : List ℕ
    pub answer : Answer
    pub read : Read (source command) store bytes
    pub right : IsAnswer command bytes answer
    pub written : FilesAfter answer.writes store store'
    pub said : SaidPart answer.text taken taken'

  -- No file changed, and nothing was said.
  pub record Untouched : Type 0 where
    pub files_same : store' ≡ store
    pub nothing_said : taken' ≡ taken

  -- The answer of the command is Done, its file is as before or has a prefix of the answer's bytes, and nothing was said.
  pub record Torn : Type 0 where
    pub bytes : List ℕ
    pub answer : Answer
    pub read : Read (source command) store bytes
    pub right : IsAnswer command bytes answer
    pub status_is : answer.status ≡ Done
    pub written : FilesTorn answer.writes store store'
    pub nothing_said : taken' ≡ taken

-- For each status: why it came, and what it leaves in the files and the sink.
abbrev pub Leaves : Command → FilesSeen → SinkSeen → FilesSeen → SinkSeen → Status → Type 0
-- the answer stands, whole
Leaves command files sink files' sink' Done = Answered command files.store sink.taken files'.store sink'.taken Done
Leaves command files sink files' sink' Refused = Answered command files.store sink.taken files'.store sink'.taken Refused
Leaves command files sink files' sink' Usage = Answered command files.store sink.taken files'.store sink'.taken Usage
Leaves command files sink files' sink' Limit = Answered command files.store sink.taken files'.store sink'.taken Limit
-- a read of IN failed
Leaves command files sink files' sink' ReadFault =
    RoseAt (source command) files.read_faults files'.read_faults × Untouched command files.store sink.taken files'.store sink'.taken
-- the write of OUT failed
Leaves command files sink files' sink' WriteFault =
    RoseAt (target command) files.write_faults files'.write_faults × Torn command files.store sink.taken files'.store sink'.taken
-- a write of the sink failed
Leaves command files sink files' sink' SayFault =
    Rose sink.faults sink'.faults × CutShort command files.store sink.taken files'.store sink'.taken
-- nothing was done, or the sink found no memory
Leaves command files sink files' sink' OutOfMemory =
    Untouched command files.store sink.taken files'.store sink'.taken ⊎ (Rose sink.lacks sink'.lacks × CutShort command files.store sink.taken files'.store sink'.taken)

-- A status that may come where the answer has the first one: that status itself, want of memory, or a fault.
abbrev pub InPlaceOf : Status → Status → Type 0
InPlaceOf status OutOfMemory = Unit {0}
InPlaceOf status ReadFault = Unit {0}
InPlaceOf status WriteFault = Unit {0}
InPlaceOf status SayFault = Unit {0}
InPlaceOf status Done = status ≡ Done
InPlaceOf status Refused = status ≡ Refused
InPlaceOf status Usage = status ≡ Usage
InPlaceOf status Limit = status ≡ Limit

-- Where the file that is read is told, the status is that of the command's answer, or one that stands in its place.
pub record IsExact (command : Command) (files : FilesSeen) (status : Status) : Type 0 where
  pub answered : (bytes : List ℕ) (answer : Answer) → Tells (source command) files.store bytes → IsAnswer command bytes answer → InPlaceOf answer.status status

-- Where besides no count of faults of IN, OUT and the sink rose, the status is that of the command's answer, or want of memory.
pub record IsComplete (command : Command) (files : FilesSeen) (sink : SinkSeen) (files' : FilesSeen) (sink' : SinkSeen) (status : Status) : Type 0 where
  pub answered : (bytes : List ℕ) (answer : Answer) → Tells (source command) files.store bytes → IsAnswer command bytes answer
      → (RoseAt (source command) files.read_faults files'.read_faults → ⊥)
      → (RoseAt (target command) files.write_faults files'.write_faults → ⊥)
      → (Rose sink.faults sink'.faults → ⊥)
      → (status ≡ answer.status) ⊎ (status ≡ OutOfMemory)
