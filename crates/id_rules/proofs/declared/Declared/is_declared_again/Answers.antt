use Rattle.std.proofs.Common.{subst, sym, IsTrue, ◌↔◌}
use Rattle.id_rules.specs.Again.{IsDeclaredAgain}
use Rattle.id_rules.proofs.AgainLaws.{again}
use Rattle.id_rules.proofs.declared.Declared.is_declared_again.Goals as goal

pub returns : goal.returns
returns c = subst (λ b. IsTrue b ↔ IsDeclaredAgain c.args.self.now c.args.at c.args.inst.now) (sym c.is_key_before.ensures) (again _ _ _ c.requires.formed c.requires.there c.requires.listed)
