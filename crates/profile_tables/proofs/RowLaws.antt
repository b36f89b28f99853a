-- Rows by class and id.
use Rattle.std.proofs.Common.{ℕ, ◌≡◌, ◌≢◌, ◌+◌, ◌==◌, refl, sym, List, [], ◌∷◌, Bool, true, false, None}
use Rattle.std.specs.List.{position_from}
use Rattle.std.proofs.lemmas.Bool.{eqb-true}
use Rattle.dxil_form.specs.declared.program.Class.{Class}
use Rattle.dxil_form.specs.declared.program.Class.TheVariants.{Srv, Uav, Cbv}
use Rattle.llvm_facts.specs.declared.facts.Row.{Row}
use Rattle.profile_tables.specs.Resources.{class_number, has_key}

no_key : (class id : ℕ) (row : Row) → class ≢ 0 → class ≢ 1 → class ≢ 2 → has_key class id row ≡ false
no_key class id row a b d = at (class_number row.class == class) refl where
  number : (k : Class) → class_number k ≡ class → has_key class id row ≡ false
  number Srv e = absurd (a (sym e))
  number Uav e = absurd (b (sym e))
  number Cbv e = absurd (d (sym e))

  at : (t : Bool) → (class_number row.class == class) ≡ t → has_key class id row ≡ false
  at true e = number row.class (eqb-true (class_number row.class) class e)
  at false e = rw e refl

pub no_class : (class id at : ℕ) (rows : List Row) → class ≢ 0 → class ≢ 1 → class ≢ 2 → None ≡ position_from (has_key class id) at rows
no_class class id at [] a b d = refl
no_class class id at (row ∷ rows) a b d = rw (no_key class id row a b d) (no_class class id (at + 1) rows a b d)
