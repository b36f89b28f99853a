use Rattle.std.proofs.Common.{ℕ, ◌∙◌, subst, List, Result, Ok, Err, OnOk}
use Rattle.dx_base.specs.declared.fault.OutOfMemory.{OutOfMemory}
use Rattle.profile_tables.specs.Tables.{IsAdded, AreAdded}
use Rattle.profile_tables.proofs.TableLaws.{led_switch}
use Rattle.profile_tables.proofs.froms.lead.Goals as goal

on_ok : (r : Result (Unit {0}) OutOfMemory) (P Q : Type 0) → (P → Q) → OnOk r P → OnOk r Q
on_ok (Ok u) P Q f p = f p
on_ok (Err e) P Q f p = tt

pub returns-in_ok-cases-in-12 : goal.returns-in_ok-cases-in-12
returns-in_ok-cases-in-12 c =
    let line = c.args.line.now in
    let default = subst (λ (b : ℕ). IsAdded b line.block c.args.table.now c.add-in-12.new.table) c.operand-in-12.ensures c.in_ok-add-in-12.ensures in
    on_ok c.add_all.result _ _ (λ (a : AreAdded c.as_slice.result.now line.block c.add-in-12.new.table c.add_all.new.table).
    led_switch line _ _ _ c.in-12.is default (subst (λ (ps : List (ℕ × ℕ)). AreAdded ps line.block c.add-in-12.new.table c.add_all.new.table) (c.as_slice.ensures ∙ c.in_ok-cases-in-12.ensures) a)) c.add_all.ensures
