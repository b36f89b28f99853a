-- A command has one answer for each content of the file that it reads.
use Rattle.std.proofs.Common.{◌≡◌, ◌∙◌, ℕ, List, Option, Some, refl, sym, ap, arith, subst}
use Rattle.dx_outside.specs.Outside.{Store}
use Rattle.dx_file.proofs.Answering.{refusal_unique, content_sound}
use Rattle.spirv_file.proofs.Refusals.{refusal_unique as word_refusal_unique, accepted_sound}
use Rattle.spv_form.specs.declared.module.Version.{Version}
use Rattle.dx_translate.specs.Verdicts.{Verdict}
use Rattle.dx_run.specs.Commands.{Command, translate, show, check, unknown, source}
use Rattle.dx_run.specs.Answers.{Answer, answer_to, refusal_answer, lines_answer, word_refusal_answer, IsTranslated, IsListed, by_lines, by_refusal, IsChecked, by_words, by_word_refusal, IsOfFile, too_long, of_bytes, IsAnswer}
use Rattle.dx_run.specs.Runs.{Read, Tells}
use Rattle.dx_translate.proofs.Unique.{Agree, both_written, both_stopped, verdicts_agree}
use Rattle.dx_run.proofs.Shown.{shown_unique}

agreed_status : (to : List ℕ) (v w : Verdict) → Agree v w → (answer_to to v).status ≡ (answer_to to w).status
agreed_status to v w (both_written words others) = refl
agreed_status to v w (both_stopped r) = refl

-- all words of a module are an answer of one status
translated_status : (version : Version) (to bytes : List ℕ) (a b : Answer) → IsTranslated version to bytes a → IsTranslated version to bytes b → a.status ≡ b.status
translated_status version to bytes a b x y =
    ap (λ w. w.status) x.answer_is ∙ agreed_status to x.verdict y.verdict (verdicts_agree version bytes x.verdict y.verdict x.is_verdict y.is_verdict) ∙ sym (ap (λ w. w.status) y.answer_is)

listed_unique : (bytes : List ℕ) (a b : Answer) → IsListed bytes a → IsListed bytes b → a ≡ b
listed_unique bytes a b (by_lines t s e) (by_lines u r f) = e ∙ ap lines_answer (shown_unique bytes t u s r) ∙ sym f
listed_unique bytes a b (by_lines t s e) (by_refusal r x f) = absurd (content_sound bytes s.parts s.is s.fs r s.content x)
listed_unique bytes a b (by_refusal r x e) (by_lines t s f) = absurd (content_sound bytes s.parts s.is s.fs r s.content x)
listed_unique bytes a b (by_refusal r x e) (by_refusal q y f) = e ∙ ap refusal_answer (refusal_unique bytes r q x y) ∙ sym f

checked_unique : (bytes : List ℕ) (a b : Answer) → IsChecked bytes a → IsChecked bytes b → a ≡ b
checked_unique bytes a b (by_words s e) (by_words r f) = e ∙ sym f
checked_unique bytes a b (by_words s e) (by_word_refusal r w x f) = absurd (accepted_sound bytes r w s x)
checked_unique bytes a b (by_word_refusal r w x e) (by_words s f) = absurd (accepted_sound bytes r w s x)
checked_unique bytes a b (by_word_refusal r w x e) (by_word_refusal q v y f) = let u = word_refusal_unique bytes r q w v x y in e ∙ ap (λ z. word_refusal_answer z w) u.0 ∙ ap (word_refusal_answer q) u.1 ∙ sym f

of_file_status : (Answers : Answer → Type 0) → ((a b : Answer) → Answers a → Answers b → a.status ≡ b.status) → (bytes : List ℕ) (a b : Answer) → IsOfFile Answers bytes a → IsOfFile Answers bytes b → a.status ≡ b.status
of_file_status Answers one bytes a b (too_long l e) (too_long m f) = ap (λ w. w.status) (e ∙ sym f)
of_file_status Answers one bytes a b (too_long l e) (of_bytes m y) = absurd (omega arith)
of_file_status Answers one bytes a b (of_bytes m x) (too_long l f) = absurd (omega arith)
of_file_status Answers one bytes a b (of_bytes m x) (of_bytes n y) = one a b x y

same_read : (files : Option Store) (from bytes told : List ℕ) → Read (Some from) files bytes → Tells (Some from) files told → bytes ≡ told
same_read files from bytes told read tells = let has : tells.0 from ≡ Some bytes = read.told tells.0 tells.1 in cc

pub status_unique : (command : Command) (files : Option Store) (bytes told : List ℕ) (a b : Answer) → Read (source command) files bytes → Tells (source command) files told
    → IsAnswer command bytes a → IsAnswer command told b → b.status ≡ a.status
status_unique (translate version from to) files bytes told a b read tells right other =
    let same = same_read files from bytes told read tells in
    of_file_status (IsTranslated version to told) (translated_status version to told) told b a other (subst (λ (w : List ℕ). IsOfFile (IsTranslated version to w) w a) same right)
status_unique (show from) files bytes told a b read tells right other =
    let same = same_read files from bytes told read tells in
    of_file_status (IsListed told) (λ x y l m. ap (λ w. w.status) (listed_unique told x y l m)) told b a other (subst (λ (w : List ℕ). IsOfFile (IsListed w) w a) same right)
status_unique (check from) files bytes told a b read tells right other =
    let same = same_read files from bytes told read tells in
    of_file_status (IsChecked told) (λ x y l m. ap (λ w. w.status) (checked_unique told x y l m)) told b a other (subst (λ (w : List ℕ). IsOfFile (IsChecked w) w a) same right)
status_unique unknown files bytes told a b read tells right other = ap (λ w. w.status) (other ∙ sym right)
