use Rattle.std.proofs.Common.{arith}
use Rattle.profile_tables.proofs.RowLaws.{no_class}
use Rattle.profile_tables.proofs.scope.Scope.row_with.Goals as goal

pub returns-else-class-eq2 : goal.returns-else-class-eq2
returns-else-class-eq2 c = no_class c.args.class c.args.id 0 c.args.self.now.rows (λ e. omega arith) (λ e. omega arith) (λ e. omega arith)
