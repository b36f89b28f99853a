use Rattle.std.proofs.Common.{◌≡◌, List, sym, subst}
use Rattle.std.proofs.lemmas.Result.{IfOk-weaker}
use Rattle.dxil_form.specs.declared.program.Program.{Program}
use Rattle.dxil_form.specs.declared.region.Region.{Region}
use Rattle.dxil_form.specs.declared.region.Regions.{Regions}
use Rattle.dxil_form.specs.Wired.{Wired}
use Rattle.region_laws.specs.Roots.{closed}
use Rattle.region_laws.specs.Paths.{PassesAll, enters_other}
use Rattle.region_laws.proofs.Closing.{closed_is_wired}
use Rattle.region_laws.proofs.Turning.{closed_passes_all}
use Rattle.region_laws.proofs.Runs.{has_other, entry_has}
use Rattle.region_builder.specs.Started.{IsPartial}
use Rattle.dispatch_loop.proofs.Dispatching.{no_return}
use Rattle.dispatch_loop.proofs.finish.Goals as goal

pub returns-clause-wired : goal.returns-clause-wired
returns-clause-wired c =
    IfOk-weaker {X = Regions} c.close.result (λ r. r.list ≡ closed c.args.partial.list c.args.partial.roots) (λ r. (p : Program) → IsPartial p c.args.partial → Wired p r.list)
    (λ r e p is. (let P : List Region → Type 0 = λ l. Wired p l in
    subst P (sym e) (closed_is_wired p c.args.partial.list c.args.partial.roots (no_return p is.sound) is.wired))) c.close.ensures

pub returns-clause-passes : goal.returns-clause-passes
returns-clause-passes c =
    IfOk-weaker {X = Regions} c.close.result (λ r. r.list ≡ closed c.args.partial.list c.args.partial.roots) (λ r. (p : Program) → IsPartial p c.args.partial → PassesAll p r.list)
    (λ r e p is. (let P : List Region → Type 0 = λ l. PassesAll p l in
    subst P (sym e) (closed_passes_all p c.args.partial.list c.args.partial.roots (no_return p is.sound) is.wired (λ b root h. record {
      stops = enters_other c.args.partial.roots b;
      all = λ k t. t;
      only = λ k t. (let ((s, g), _) = has_other c.args.partial.roots b k t in entry_has c.args.partial.roots k s g);
      passes = is.passes b root h;
    })))) c.close.ensures
