-- How a block is left keeps the rules.
use Rattle.std.proofs.Common.{◌≡◌, ℕ, ◌+◌, ◌≤◌, true, List, None, length, refl, ◌∙◌, arith, inl, inr}
use Rattle.dxil_form.specs.Branches.{has, targets}
use Rattle.spv_form.specs.declared.module.Inst.{Inst}
use Rattle.spirv_code.specs.declared.way.Way.TheVariants.{Chooses, Splits}
use Rattle.spirv_code.specs.Plans.{Context}
use Rattle.spirv_code.specs.Leaves.{next_blocks}
use Rattle.spirv_code.specs.Exits.{loose, choose_code, split_code, tested, tested_code, tested_id}
use Rattle.region_runs.proofs.Targets.{has_different, loose_has}
use Rattle.formed_rows.proofs.Rows.{loose_told}
use Rattle.ruled_lines.proofs.Going.{kept_append}
use Rattle.ruled_exits.specs.Exits.{CanWant}
use Rattle.ruled_exits.specs.Laws.{ChoicesKeepRules, SplitsKeepRules}
use Rattle.ruled_exits.proofs.Tested.{tested_kept}
use Rattle.ruled_exits.proofs.Chosen.{choose_kept}
use Rattle.ruled_exits.proofs.Chunks.{split_kept}

pub choices_keep_rules : ChoicesKeepRules
choices_keep_rules s low ahead term env place meet labels behind way ready used known there armed can code =
    let c : Context = s.context in
    let front : List Inst = tested_code c env place (tested term) in
    let id : ℕ = tested_id c env place (tested term) in
    let p : ℕ = place + length front in
    let ks : List ℕ = loose labels (next_blocks term) in
    let back : List Inst = choose_code c p meet id term labels ks in
    let later : low ≤ p = omega (arith, behind) in
    let x = tested_kept s low ahead term env place back Chooses way (inl refl) behind ready used known code in
    let wanted : (k : ℕ) → has k ks ≡ true → CanWant s k = λ k h. (let told = loose_told labels term k h in can k told.1 told.0) in
    let setter : (k : ℕ) → has k (targets term) ≡ true → labels k ≡ None → has k ks ≡ true = λ k h none. loose_has labels (next_blocks term) k none (has_different k (targets term) ∙ h) in
    kept_append s.made.insts place front back x.kept (choose_kept s low ahead term p meet id labels ks later x.value there armed setter wanted x.has)

pub splits_keep_rules : SplitsKeepRules
splits_keep_rules s low ahead term env place behind way ready used known pick can code =
    let c : Context = s.context in
    let front : List Inst = tested_code c env place (tested term) in
    let id : ℕ = tested_id c env place (tested term) in
    let p : ℕ = place + length front in
    let back : List Inst = split_code c p id term in
    let later : low ≤ p = omega (arith, behind) in
    let x = tested_kept s low ahead term env place back Splits way (inr refl) behind ready used known code in
    kept_append s.made.insts place front back x.kept (split_kept s low ahead pick term p id later x.value can x.has)
