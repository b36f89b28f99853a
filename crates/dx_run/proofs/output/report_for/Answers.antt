use Rattle.std.proofs.Common.{refl, subst, Err}
use Rattle.spv_form.specs.declared.fault.CheckFault.{CheckFault}
use Rattle.spirv_file.specs.Checking.{FileAnswer}
use Rattle.dx_run.proofs.Leaving.{made_accepted, made_word_refusal}
use Rattle.dx_run.proofs.output.report_for.Goals as goal

pub returns-in-Ok : goal.returns-in-Ok
returns-in-Ok c = made_accepted c.accepted.result c.args.bytes _ refl c.in-Ok.ensures c.accepted.ensures.status c.accepted.ensures.bytes (rw c.len-count.ensures at c.accepted.ensures.text)

pub returns-in-Err-Refused : goal.returns-in-Err-Refused
returns-in-Err-Refused c = made_word_refusal c.word_refusal.result c.args.bytes c.in-Err-Refused.rule c.in-Err-Refused.word
    (subst (λ (e : CheckFault). FileAnswer (Err e) c.args.bytes) c.in-Err-Refused.field-0-is c.in-Err-Refused.ensures) c.word_refusal.ensures.status c.word_refusal.ensures.bytes c.word_refusal.ensures.text
