use Rattle.dx_run.proofs.Leaving.{made_refusal, made_limit}
use Rattle.dx_run.proofs.output.fault_output.Goals as goal

pub returns-in-Refused : goal.returns-in-Refused
returns-in-Refused c = rw c.in-Refused.is (made_refusal c.refusal.result c.in-Refused.rule c.in-Refused.bit c.refusal.ensures.status c.refusal.ensures.bytes c.refusal.ensures.text)

pub returns-in-Limit : goal.returns-in-Limit
returns-in-Limit c = rw c.in-Limit.is (made_limit c.limit.result c.in-Limit.which c.in-Limit.bit c.limit.ensures.status c.limit.ensures.bytes c.limit.ensures.text)
