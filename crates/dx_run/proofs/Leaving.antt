-- What the steps of a run say of the whole.
use Rattle.std.proofs.Common.{◌≡◌, ◌≤◌, ◌<◌, ◌+◌, ◌/◌, ◌^◌, ◌⊎◌, ◌∙◌, inl, inr, ℕ, List, [], ◌∷◌, ◌++◌, Option, Some, None, Result, Ok, Err, IfOk, refl, sym, ap, length, codes, arith, zero, suc}
use Rattle.std.specs.declared.alloc.AllocError.{AllocError}
use Rattle.std.proofs.lemmas.Fmt.{decimal_digit}
use Rattle.dx_base.specs.declared.fault.Which.TheVariants.{File}
use Rattle.dx_base.specs.declared.fault.Which.{Which}
use Rattle.dx_base.specs.declared.fault.Rule.{Rule}
use Rattle.dx_base.specs.WordBytes.{bytes_of_words}
use Rattle.dx_outside.specs.Outside.{Store, FilesSeen, SinkSeen, Stood, Holds, Rose, FilesNeverFell, Becomes, IsWhole, IsTorn}
use Rattle.dx_outside.specs.Whole.{IsLong}
use Rattle.dx_run.specs.declared.status.Status.{Status}
use Rattle.dx_run.specs.declared.status.Status.TheVariants.{Done, Refused, Usage, ReadFault, WriteFault, Limit, OutOfMemory, SayFault}
use Rattle.dx_run.specs.declared.output.Output.{Output}
use Rattle.dx_base.specs.declared.fault.Fault.{Fault}
use Rattle.dx_base.specs.declared.fault.Fault.TheVariants as fault
use Rattle.dx_file.specs.Layers.{Refusal, refused, limited}
use Rattle.dx_file.specs.Reading.{FaultAnswer}
use Rattle.dx_show.specs.Showing.{IsShown}
use Rattle.spv_form.specs.declared.fault.WordRule.{WordRule}
use Rattle.spirv_words.specs.FileWords.{words_of}
use Rattle.spirv_words.proofs.FileWordLaws.{length-words_of}
use Rattle.spirv_file.specs.Checking.{IsAccepted, IsFirstRefusal as IsFirstWordRefusal}
use Rattle.spv_form.specs.declared.module.Version.{Version}
use Rattle.dx_run.specs.Commands.{Command, translate, show, check, unknown, source, target}
use Rattle.dx_translate.specs.Verdicts.{Verdict, written, stopped, IsVerdict, TranslateAnswer}
use Rattle.dx_run.specs.Answers.{Answer, answer_to, refusal_answer, IsListed, by_lines, by_refusal, IsChecked, by_words, by_word_refusal, word_rule_name, refused_word_line, checked_line, too_long, of_bytes, IsAnswer, rule_name, limit_name, refused_line, limit_line, translated_line, usage_line}
use Rattle.dx_run.specs.Runs.{Read, Tells, FilesAfter, RoseAt, Answered, Leaves, InPlaceOf, IsExact, IsComplete}
use Rattle.dx_run.specs.Outputs.{answer_of, IsOutput, IsListing, IsReport, IsRefusalOutput, IsFaultOutput, IsOfAnswer, Concluded, whole, failed, lacking, Finishes}
use Rattle.dx_run.proofs.Answering.{status_unique}

of_refusal : (r : Refusal) → IsOfAnswer (refusal_answer r).status
of_refusal (refused rule bit) = tt
of_refusal (limited which bit) = tt

of_verdict : (to : List ℕ) (v : Verdict) → IsOfAnswer (answer_to to v).status
of_verdict to (written words) = tt
of_verdict to (stopped r) = of_refusal r

pub of_answer : (command : Command) (bytes : List ℕ) (answer : Answer) → IsAnswer command bytes answer → IsOfAnswer answer.status
of_answer (translate version from to) bytes answer (too_long l e) = rw e tt
of_answer (translate version from to) bytes answer (of_bytes l t) = rw t.answer_is (of_verdict to t.verdict)
of_answer (show from) bytes answer (too_long l e) = rw e tt
of_answer (show from) bytes answer (of_bytes l (by_lines text s e)) = rw e tt
of_answer (show from) bytes answer (of_bytes l (by_refusal r x e)) = rw e (of_refusal r)
of_answer (check from) bytes answer (too_long l e) = rw e tt
of_answer (check from) bytes answer (of_bytes l (by_words s e)) = rw e tt
of_answer (check from) bytes answer (of_bytes l (by_word_refusal r w x e)) = rw e tt
of_answer unknown bytes answer e = rw e tt

-- A refusal, a limit and the lines of a file write nothing.
refusal_writes : (r : Refusal) → (refusal_answer r).writes ≡ None
refusal_writes (refused rule bit) = refl
refusal_writes (limited which bit) = refl

pub listed_writes : (bytes : List ℕ) (answer : Answer) → IsListed bytes answer → answer.writes ≡ None
listed_writes bytes answer (by_lines text s e) = rw e refl
listed_writes bytes answer (by_refusal r x e) = rw e (refusal_writes r)

pub checked_writes : (bytes : List ℕ) (answer : Answer) → IsChecked bytes answer → answer.writes ≡ None
checked_writes bytes answer (by_words s e) = rw e refl
checked_writes bytes answer (by_word_refusal r w x e) = rw e refl

not_some : (answer : Answer) (w : List ℕ × List ℕ) → answer.writes ≡ None → answer.writes ≡ Some w → ⊥
not_some answer w nothing has = absurd (cc)

-- What is written is the target's, and only at Done.
pub writes_done : (command : Command) (bytes : List ℕ) (answer : Answer) (w : List ℕ × List ℕ) → IsAnswer command bytes answer → answer.writes ≡ Some w → answer.status ≡ Done
writes_done (translate version from to) bytes answer w (too_long l e) has = absurd (not_some answer w (rw e refl) has)
writes_done (translate version from to) bytes answer w (of_bytes l t) has = rw t.answer_is (by_verdict t.verdict (rw t.answer_is at has)) where
  by_verdict : (v : Verdict) → (answer_to to v).writes ≡ Some w → (answer_to to v).status ≡ Done
  by_verdict (written words) has = refl
  by_verdict (stopped r) has = absurd (not_some (refusal_answer r) w (refusal_writes r) has)
writes_done (show from) bytes answer w (too_long l e) has = absurd (not_some answer w (rw e refl) has)
writes_done (show from) bytes answer w (of_bytes l t) has = absurd (not_some answer w (listed_writes bytes answer t) has)
writes_done (check from) bytes answer w (too_long l e) has = absurd (not_some answer w (rw e refl) has)
writes_done (check from) bytes answer w (of_bytes l t) has = absurd (not_some answer w (checked_writes bytes answer t) has)
writes_done unknown bytes answer w e has = absurd (not_some answer w (rw e refl) has)

answered_leaves : (command : Command) (files : FilesSeen) (sink : SinkSeen) (files' : FilesSeen) (sink' : SinkSeen) (status : Status) → IsOfAnswer status
    → Answered command files.store sink.taken files'.store sink'.taken status → Leaves command files sink files' sink' status
answered_leaves command files sink files' sink' Done of a = a
answered_leaves command files sink files' sink' Refused of a = a
answered_leaves command files sink files' sink' Usage of a = a
answered_leaves command files sink files' sink' Limit of a = a
answered_leaves command files sink files' sink' ReadFault of a = absurd of
answered_leaves command files sink files' sink' WriteFault of a = absurd of
answered_leaves command files sink files' sink' OutOfMemory of a = absurd of
answered_leaves command files sink files' sink' SayFault of a = absurd of

-- After the files are as the answer has them, the saying ends the run.
pub concluded : (command : Command) (files : FilesSeen) (sink : SinkSeen) (files' : FilesSeen) (sink' : SinkSeen) (bytes : List ℕ) (answer : Answer) (status : Status)
    → Read (source command) files.store bytes → IsAnswer command bytes answer → FilesAfter answer.writes files.store files'.store
    → Concluded answer.text sink sink' answer.status status → Leaves command files sink files' sink' status
concluded command files sink files' sink' bytes answer status read right after (whole said) =
    answered_leaves command files sink files' sink' answer.status (of_answer command bytes answer right)
    (record { bytes = bytes; answer = answer; read = read; right = right; status_is = refl; written = after; said = said })
concluded command files sink files' sink' bytes answer status read right after (failed rose part) =
    (rose, record { bytes = bytes; answer = answer; read = read; right = right; written = after; said = part })
concluded command files sink files' sink' bytes answer status read right after (lacking rose part) =
    inr (rose, record { bytes = bytes; answer = answer; read = read; right = right; written = after; said = part })

-- A run goes on from a read that changed no file.
module _ (command : Command) (files mid : FilesSeen) (sink : SinkSeen) (files' : FilesSeen) (sink' : SinkSeen) (same : mid.store ≡ files.store) (kept : FilesNeverFell files mid) where
  earlier_rose : (name : Option (List ℕ)) → RoseAt name mid.read_faults files'.read_faults → RoseAt name files.read_faults files'.read_faults
  earlier_rose None rose = rose
  earlier_rose (Some name) rose = omega (arith, kept.reads name)

  earlier_rose_write : (name : Option (List ℕ)) → RoseAt name mid.write_faults files'.write_faults → RoseAt name files.write_faults files'.write_faults
  earlier_rose_write None rose = rose
  earlier_rose_write (Some name) rose = omega (arith, kept.writes name)

  pub earlier : (status : Status) → Leaves command mid sink files' sink' status → Leaves command files sink files' sink' status
  earlier Done a = rw same at a
  earlier Refused a = rw same at a
  earlier Usage a = rw same at a
  earlier Limit a = rw same at a
  earlier ReadFault (rose, a) = (earlier_rose (source command) rose, rw same at a)
  earlier WriteFault (rose, a) = (earlier_rose_write (target command) rose, rw same at a)
  earlier SayFault a = rw same at a
  earlier OutOfMemory a = rw same at a

-- a list of any length
long_list : (n : ℕ) → (xs : List ℕ) × (length xs ≡ n)
long_list zero = ([], refl)
long_list (suc n) = let rest = long_list n in (0 ∷ rest.0, ap suc rest.1)

pub some_long : (files : Option Store) (name : List ℕ) → Holds files name IsLong → (bytes : List ℕ) × Stood files name bytes × IsLong bytes
some_long None name holds = let some = long_list (2 ^ 26 + 1) in (some.0, record { told = λ store e. cc }, omega (arith, some.1))
some_long (Some store) name holds = let h = holds.told store refl in (h.0, record { told = λ other e. let f : store ≡ other = cc in rw (← f) h.1 }, h.2)

-- the outputs
pub made_success : (version : Version) (r : Result Output AllocError) (bytes words : List ℕ) → IsVerdict version bytes (written words)
    → IfOk r (λ output. output.status ≡ Done) → IfOk r (λ output. output.bytes ≡ Some (bytes_of_words words)) → IfOk r (λ output. output.text ≡ translated_line (length words))
    → IfOk r (λ output. IsOutput version bytes output)
made_success version (Err e) bytes words v s b t = tt
made_success version (Ok output) bytes words v s b t = record { translated = λ to. record { verdict = written words; is_verdict = v; answer_is = rw (s, b, t) refl } }

pub made_refusal : (r : Result Output AllocError) (rule : Rule) (bit : ℕ)
    → IfOk r (λ output. output.status ≡ Refused) → IfOk r (λ output. output.bytes ≡ None) → IfOk r (λ output. output.text ≡ refused_line (rule_name rule) bit)
    → IfOk r (λ output. IsRefusalOutput (refused rule bit) output)
made_refusal (Err e) rule bit s b t = tt
made_refusal (Ok output) rule bit s b t = record { answers = λ to. rw (s, b, t) refl }

pub made_limit : (r : Result Output AllocError) (which : Which) (bit : ℕ)
    → IfOk r (λ output. output.status ≡ Limit) → IfOk r (λ output. output.bytes ≡ None) → IfOk r (λ output. output.text ≡ limit_line (limit_name which) bit)
    → IfOk r (λ output. IsRefusalOutput (limited which bit) output)
made_limit (Err e) which bit s b t = tt
made_limit (Ok output) which bit s b t = record { answers = λ to. rw (s, b, t) refl }

pub translate_failed : (version : Version) (r : Result Output AllocError) (bytes : List ℕ) (f : Fault) → TranslateAnswer version (Err f) bytes → IfOk r (λ output. IsFaultOutput f output) → IfOk r (λ output. IsOutput version bytes output)
translate_failed version (Err e) bytes f v o = tt
translate_failed version (Ok output) bytes (fault.Refused rule bit) v o = record { translated = λ to. record { verdict = stopped (refused rule bit); is_verdict = v; answer_is = o.answers to } }
translate_failed version (Ok output) bytes (fault.Limit which bit) v o = record { translated = λ to. record { verdict = stopped (limited which bit); is_verdict = v; answer_is = o.answers to } }
translate_failed version (Ok output) bytes fault.OutOfMemory v o = absurd o

pub show_failed : (r : Result Output AllocError) (bytes : List ℕ) (f : Fault) → FaultAnswer f bytes → IfOk r (λ output. IsFaultOutput f output) → IfOk r (λ output. IsListing bytes output)
show_failed (Err e) bytes f v o = tt
show_failed (Ok output) bytes (fault.Refused rule bit) v o = record { listed = λ to. by_refusal (refused rule bit) v.first (o.answers to) }
show_failed (Ok output) bytes (fault.Limit which bit) v o = record { listed = λ to. by_refusal (limited which bit) v.first (o.answers to) }
show_failed (Ok output) bytes fault.OutOfMemory v o = absurd o

pub shown_listing : (bytes text : List ℕ) → IsShown bytes text → IsListing bytes (record { status = Done; bytes = None; text = text })
shown_listing bytes text s = record { listed = λ to. by_lines text s refl }

pub made_accepted : (r : Result Output AllocError) (bytes : List ℕ) (count : ℕ) → count ≡ length bytes / 4 → IsAccepted bytes
    → IfOk r (λ output. output.status ≡ Done) → IfOk r (λ output. output.bytes ≡ None) → IfOk r (λ output. output.text ≡ checked_line count)
    → IfOk r (λ output. IsReport bytes output)
made_accepted (Err e) bytes count c a s b t = tt
made_accepted (Ok output) bytes count c a s b t =
    let long : count ≡ length (words_of bytes) = c ∙ sym (length-words_of bytes) in
    record { checked = λ to. by_words a (rw (s, b, t, long) refl) }

pub made_word_refusal : (r : Result Output AllocError) (bytes : List ℕ) (rule : WordRule) (word : ℕ) → IsFirstWordRefusal bytes rule word
    → IfOk r (λ output. output.status ≡ Refused) → IfOk r (λ output. output.bytes ≡ None) → IfOk r (λ output. output.text ≡ refused_word_line (word_rule_name rule) word)
    → IfOk r (λ output. IsReport bytes output)
made_word_refusal (Err e) bytes rule word x s b t = tt
made_word_refusal (Ok output) bytes rule word x s b t = record { checked = λ to. by_word_refusal rule word x (rw (s, b, t) refl) }

in_place : (command : Command) (files : FilesSeen) (sink : SinkSeen) (files' : FilesSeen) (sink' : SinkSeen) (status : Status) → Leaves command files sink files' sink' status
    → (bytes : List ℕ) (answer : Answer) → Tells (source command) files.store bytes → IsAnswer command bytes answer → InPlaceOf answer.status status
in_place command files sink files' sink' Done a bytes answer tells right = status_unique command files.store a.bytes bytes a.answer answer a.read tells a.right right ∙ a.status_is
in_place command files sink files' sink' Refused a bytes answer tells right = status_unique command files.store a.bytes bytes a.answer answer a.read tells a.right right ∙ a.status_is
in_place command files sink files' sink' Usage a bytes answer tells right = status_unique command files.store a.bytes bytes a.answer answer a.read tells a.right right ∙ a.status_is
in_place command files sink files' sink' Limit a bytes answer tells right = status_unique command files.store a.bytes bytes a.answer answer a.read tells a.right right ∙ a.status_is
in_place command files sink files' sink' ReadFault a bytes answer tells right = tt
in_place command files sink files' sink' WriteFault a bytes answer tells right = tt
in_place command files sink files' sink' OutOfMemory a bytes answer tells right = tt
in_place command files sink files' sink' SayFault a bytes answer tells right = tt

pub exact : (command : Command) (files : FilesSeen) (sink : SinkSeen) (files' : FilesSeen) (sink' : SinkSeen) (status : Status) → Leaves command files sink files' sink' status
    → IsExact command files status
exact command files sink files' sink' status leaves = record { answered = in_place command files sink files' sink' status leaves }

no_fault : (command : Command) (files : FilesSeen) (sink : SinkSeen) (files' : FilesSeen) (sink' : SinkSeen) (status wanted : Status) → Leaves command files sink files' sink' status
    → InPlaceOf wanted status
    → (RoseAt (source command) files.read_faults files'.read_faults → ⊥)
    → (RoseAt (target command) files.write_faults files'.write_faults → ⊥)
    → (Rose sink.faults sink'.faults → ⊥)
    → (status ≡ wanted) ⊎ (status ≡ OutOfMemory)
no_fault command files sink files' sink' Done wanted a in_place read write say = inl (sym in_place)
no_fault command files sink files' sink' Refused wanted a in_place read write say = inl (sym in_place)
no_fault command files sink files' sink' Usage wanted a in_place read write say = inl (sym in_place)
no_fault command files sink files' sink' Limit wanted a in_place read write say = inl (sym in_place)
no_fault command files sink files' sink' ReadFault wanted a in_place read write say = absurd (read a.0)
no_fault command files sink files' sink' WriteFault wanted a in_place read write say = absurd (write a.0)
no_fault command files sink files' sink' OutOfMemory wanted a in_place read write say = inr refl
no_fault command files sink files' sink' SayFault wanted a in_place read write say = absurd (say a.0)

pub complete : (command : Command) (files : FilesSeen) (sink : SinkSeen) (files' : FilesSeen) (sink' : SinkSeen) (status : Status) → Leaves command files sink files' sink' status
    → IsComplete command files sink files' sink' status
complete command files sink files' sink' status leaves = record {
  answered = λ bytes answer tells right read write say.
      no_fault command files sink files' sink' status answer.status leaves (in_place command files sink files' sink' status leaves bytes answer tells right) read write say;
}

-- The output writes nothing.
pub finished_none : (to : List ℕ) (output : Output) (files : FilesSeen) (sink sink' : SinkSeen) (status : Status) → output.bytes ≡ None
    → Concluded output.text sink sink' output.status status → Finishes to output files sink files sink' status
finished_none to output files sink sink' status none said = record {
  leaves = λ command bytes read is right. concluded command files sink files sink' bytes (answer_of to output) status read right (rw none refl) said;
}

-- The output's bytes were written.
pub finished_some : (to : List ℕ) (output : Output) (content : List ℕ) (files : FilesSeen) (sink : SinkSeen) (files' : FilesSeen) (sink' : SinkSeen) (status : Status) → output.bytes ≡ Some content
    → Becomes files.store to (IsWhole content) files'.store
    → Concluded output.text sink sink' output.status status → Finishes to output files sink files' sink' status
finished_some to output content files sink files' sink' status some whole_write said = record {
  leaves = λ command bytes read is right. concluded command files sink files' sink' bytes (answer_of to output) status read right (rw some whole_write) said;
}

-- The write failed.
pub finished_torn : (to : List ℕ) (output : Output) (content : List ℕ) (files : FilesSeen) (sink : SinkSeen) (files' : FilesSeen) → output.bytes ≡ Some content
    → Becomes files.store to (IsTorn content) files'.store → Rose (files.write_faults to) (files'.write_faults to) → Finishes to output files sink files' sink WriteFault
finished_torn to output content files sink files' some torn rose = record {
  leaves = λ command bytes read is right. (
    rw is rose,
    record {
      bytes = bytes;
      answer = answer_of to output;
      read = read;
      right = right;
      status_is = writes_done command bytes (answer_of to output) (to, content) right (rw some refl);
      written = rw some torn;
      nothing_said = refl;
    },
  );
}

limit_text : limit_line (limit_name File) 0 ≡ codes "limit file bit 0" ++ 10 ∷ []
limit_text = rw (decimal_digit 0 (omega arith)) refl

-- The file is too long.
pub limited_leaves : (command : Command) (from text : List ℕ) (files mid : FilesSeen) (sink sink' : SinkSeen) (status : Status) → source command ≡ Some from
    → ((bytes : List ℕ) → 2 ^ 26 < length bytes → IsAnswer command bytes (refusal_answer (limited File 0)))
    → text ≡ codes "limit file bit 0" ++ 10 ∷ [] → mid.store ≡ files.store → Holds files.store from IsLong
    → Concluded text sink sink' Limit status → Leaves command files sink mid sink' status
limited_leaves command from text files mid sink sink' status reads answers line same holds said =
    let long = some_long files.store from holds in
    let right : text ≡ limit_line (limit_name File) 0 = line ∙ sym limit_text in
    concluded command files sink mid sink' long.0 (refusal_answer (limited File 0)) status (rw reads long.1) (answers long.0 long.2) same (rw right at said)

-- The lines of the file, or its refusal.
pub listed_leaves : (from bytes : List ℕ) (output : Output) (files mid : FilesSeen) (sink sink' : SinkSeen) (status : Status) → mid.store ≡ files.store → Stood files.store from bytes
    → length bytes ≤ 2 ^ 26 → IsListing bytes output → Concluded output.text sink sink' output.status status → Leaves (show from) files sink mid sink' status
listed_leaves from bytes output files mid sink sink' status same stood short listing said =
    let listed : IsListed bytes (answer_of [] output) = listing.listed [] in
    concluded (show from) files sink mid sink' bytes (answer_of [] output) status stood (of_bytes short listed) (rw (listed_writes bytes (answer_of [] output) listed) same) said

-- The count of the words, or their refusal.
pub checked_leaves : (from bytes : List ℕ) (output : Output) (files mid : FilesSeen) (sink sink' : SinkSeen) (status : Status) → mid.store ≡ files.store → Stood files.store from bytes
    → length bytes ≤ 2 ^ 26 → IsReport bytes output → Concluded output.text sink sink' output.status status → Leaves (check from) files sink mid sink' status
checked_leaves from bytes output files mid sink sink' status same stood short report said =
    let checked : IsChecked bytes (answer_of [] output) = report.checked [] in
    concluded (check from) files sink mid sink' bytes (answer_of [] output) status stood (of_bytes short checked) (rw (checked_writes bytes (answer_of [] output) checked) same) said

-- The words are of no form that is known.
pub usage_leaves : (command : Command) (text : List ℕ) (files : FilesSeen) (sink sink' : SinkSeen) (status : Status) → command ≡ unknown → text ≡ usage_line
    → Concluded text sink sink' Usage status → Leaves command files sink files sink' status
usage_leaves command text files sink sink' status none line said =
    rw none (concluded unknown files sink files sink' [] (record { status = Usage; writes = None; text = usage_line }) status tt refl refl (rw line at said))
