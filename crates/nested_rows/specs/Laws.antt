-- How many merge instructions wait for their merge labels in a function that is written as one row of blocks.
use Rattle.std.specs.Prelude.{ℕ, ◌≤◌, Bool, List, ◌∷◌, ◌++◌, take}
use Rattle.spv_form.specs.declared.module.Inst.{Inst}
use Rattle.order_rules.specs.Merges.{waiting}
use Rattle.written_rows.specs.Code.{label_inst, return_inst, AreInner, RowCode}

-- Code that is a row, between its label and a return; no label, merge instruction or terminator stands before or behind that. Among the first so many instructions no more merge instructions stand whose merge label does not than the row is deep.
abbrev pub NestedRowsStayShallow : Type 0
NestedRowsStayShallow =
    (depth : ℕ) (loops : Bool) (front code back : List Inst) (label : ℕ) → AreInner front → RowCode depth loops label code → AreInner back → (at : ℕ) → waiting (take at (front ++ (label_inst label ∷ (code ++ (return_inst ∷ back))))) ≤ depth
