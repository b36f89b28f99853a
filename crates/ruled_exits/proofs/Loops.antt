-- The merge instruction of a loop keeps the rules, and so does the end of a function.
use Rattle.std.proofs.Common.{◌≡◌, ℕ, zero, suc, ◌<◌, true, false, List, [], ◌∷◌, get_or, Some, refl, sym, ap, ◌∙◌, subst, arith}
use Rattle.spv_form.specs.declared.module.Inst.{Inst}
use Rattle.spv_form.specs.declared.shape.Shape.TheVariants.{Plain}
use Rattle.spv_form.specs.Shapes.{shape_of}
use Rattle.spv_form.specs.Operands.{is_id}
use Rattle.id_rules.specs.Uses.{is_misused, Misuses}
use Rattle.type_rules.specs.Values.{is_label}
use Rattle.type_rules.specs.Fits.{group_of, fits}
use Rattle.spirv_code.specs.Plans.{inst}
use Rattle.line_runs.specs.Held.{Setting}
use Rattle.line_runs.proofs.Tests.{none_some, some_inj, true_false}
use Rattle.ruled_lines.specs.Kept.{KeepsRules, StandsAhead}
use Rattle.ruled_lines.proofs.Values.{label_reached, label_is_there}
use Rattle.ruled_lines.proofs.Operations.{both}
use Rattle.ruled_exits.specs.Exits.{Stands}

loop_shape : shape_of 246 ≡ Some (Plain false false 3 3 4)
unfolding shape_of
loop_shape = refl

fits_loop : (insts : List Inst) (merge next : ℕ) → is_label insts merge ≡ true → is_label insts next ≡ true → fits insts (inst 246 (merge ∷ next ∷ 0 ∷ [])) ≡ true
unfolding fits group_of
fits_loop insts merge next first second = both (is_label insts merge) (is_label insts next) first second

-- its last operand is a number
loop_reach : (insts : List Inst) (at merge next : ℕ) → is_misused insts at (inst 246 (merge ∷ next ∷ 0 ∷ [])) merge ≡ false → is_misused insts at (inst 246 (merge ∷ next ∷ 0 ∷ [])) next ≡ false → Misuses insts at (inst 246 (merge ∷ next ∷ 0 ∷ [])) → ⊥
loop_reach insts at merge next first second m =
    true_false (sym m.misused ∙ ap (is_misused insts at y) (sym m.uses.id_is) ∙ by_place m.uses.at m.uses.within (subst (λ t. is_id t y.operands m.uses.at ≡ true) same m.uses.is_id))
  where
    y : Inst
    y = inst 246 (merge ∷ next ∷ 0 ∷ [])

    same : m.uses.shape ≡ Plain false false 3 3 4
    same = some_inj (sym m.uses.listed ∙ loop_shape)

    by_place : (k : ℕ) → k < 3 → is_id (Plain false false 3 3 4) (merge ∷ next ∷ 0 ∷ []) k ≡ true → is_misused insts at y (get_or (merge ∷ next ∷ 0 ∷ []) k 0) ≡ false
    by_place zero low is = first
    by_place (suc zero) low is = second
    by_place (suc (suc zero)) low is = absurd (true_false (sym is))
    by_place (suc (suc (suc k))) low is = absurd (omega (arith, low))

pub loop_rules : (s : Setting) (low : ℕ) (ahead : StandsAhead s low) (at merge next : ℕ) → Stands s.made.insts merge → Stands s.made.insts next → KeepsRules s.made.insts at (inst 246 (merge ∷ next ∷ 0 ∷ []))
loop_rules s low ahead at merge next first second =
    record {
      in_reach = loop_reach insts at merge next (label_reached insts ahead.once at y first.0 merge first.1) (label_reached insts ahead.once at y second.0 next second.1);
      fitting = fits_loop insts merge next (label_is_there insts ahead.once first.0 merge first.1) (label_is_there insts ahead.once second.0 next second.1);
      writable = λ pointer e read_only. none_some e;
    }
  where
    insts : List Inst
    insts = s.made.insts

    y : Inst
    y = inst 246 (merge ∷ next ∷ 0 ∷ [])

-- ---- instructions without operands

fits_return : (insts : List Inst) → fits insts (inst 253 []) ≡ true
unfolding fits group_of
fits_return insts = refl

fits_end : (insts : List Inst) → fits insts (inst 56 []) ≡ true
unfolding fits group_of
fits_end insts = refl

empty_reach : (insts : List Inst) (at opcode : ℕ) → Misuses insts at (inst opcode []) → ⊥
empty_reach insts at opcode m =
    let low = m.uses.within in
    omega (arith, low)

pub return_rules : (insts : List Inst) (at : ℕ) → KeepsRules insts at (inst 253 [])
return_rules insts at =
    record { in_reach = empty_reach insts at 253; fitting = fits_return insts; writable = λ pointer e read_only. none_some e }

pub function_end_rules : (insts : List Inst) (at : ℕ) → KeepsRules insts at (inst 56 [])
function_end_rules insts at =
    record { in_reach = empty_reach insts at 56; fitting = fits_end insts; writable = λ pointer e read_only. none_some e }
