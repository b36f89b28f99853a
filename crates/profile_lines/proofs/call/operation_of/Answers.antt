use Rattle.std.proofs.Common.{rules, ℕ, ◌≡◌, ◌≢◌, Option, Some, None, IfSome, IsNone}
use Rattle.dxil_form.specs.Operations.{code_of}
use Rattle.dxil_form.specs.declared.op.OpKind.{OpKind}
use Rattle.profile_lines.specs.Calls.{operation_of}
use Rattle.profile_lines.proofs.Operations.{found, missing}
use Rattle.profile_lines.proofs.call.operation_of.Goals as goal

either : (code : ℕ) (answer : Option OpKind) → IfSome answer (λ kind. code_of kind ≡ code) → (IsNone answer → (kind : OpKind) → code_of kind ≢ code) → answer ≡ operation_of (Some code)
either code None f m = missing code (m (search rules))
either code (Some op) f m = found code op f

pub returns-in-Some : goal.returns-in-Some
returns-in-Some c = rw c.in-Some.is (either c.in-Some.code c.op_of.result c.op_of.ensures.found c.op_of.ensures.missing)
