-- A function that is written as one row of blocks breaks no structure rule.
use Rattle.std.specs.Prelude.{ℕ, ◌≡◌, List, ◌∷◌, ◌++◌, Some, slice_get, false}
use Rattle.dx_base.specs.First.{IsSound}
use Rattle.spv_form.specs.declared.module.Inst.{Inst}
use Rattle.flow_rules.specs.Rules.{Broken}
use Rattle.flow_blocks.specs.Numbered.{blocks_of}
use Rattle.written_rows.specs.Code.{label_inst, return_inst, AreInner, labels, RowCode}

-- no number stands twice
abbrev pub EachOnce : List ℕ → Type 0
EachOnce ids = (i j id : ℕ) → slice_get ids i ≡ Some id → slice_get ids j ≡ Some id → i ≡ j

-- Code that is a row and does not begin with a loop's header, between its label and a return; no label, merge instruction or terminator stands before or behind that, and no label stands twice.
abbrev pub WrittenRowsAreSound : Type 0
WrittenRowsAreSound =
    (depth : ℕ) (front code back : List Inst) (label : ℕ) → AreInner front → RowCode depth false label code → AreInner back → EachOnce (label ∷ labels code) → IsSound (Broken (blocks_of (front ++ (label_inst label ∷ (code ++ (return_inst ∷ back))))))
