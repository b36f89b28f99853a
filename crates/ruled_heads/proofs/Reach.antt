-- An instruction whose operands are in reach, each that is an id, misuses none.
use Rattle.std.proofs.Common.{◌≡◌, ◌≢◌, ℕ, zero, suc, ◌+◌, ◌<◌, true, false, List, [], ◌∷◌, length, get_or, Some, None, sym, ap, ◌∙◌, subst, arith}
use Rattle.spv_form.specs.declared.module.Inst.{Inst}
use Rattle.spv_form.specs.declared.shape.Shape.{Shape}
use Rattle.spv_form.specs.Shapes.{shape_of}
use Rattle.spv_form.specs.Operands.{is_id}
use Rattle.spv_ids.specs.Roles.{result_place}
use Rattle.id_rules.specs.Uses.{is_misused, Misuses}
use Rattle.type_rules.specs.Fits.{group_of, fits_as, fits}
use Rattle.type_rules.specs.declared.group.Group.TheVariants.{Other}
use Rattle.decoration_rules.specs.ReadOnly.{written_by}
use Rattle.spirv_code.specs.Plans.{inst}
use Rattle.line_runs.proofs.Tests.{none_some, some_inj, true_false}
use Rattle.ruled_lines.specs.Kept.{KeepsRules}

module _ (insts : List Inst) (at : ℕ) (y : Inst) (shape : Shape) where
  -- what is asked of an operand at a place
  abbrev pub InReach : (k id : ℕ) → Type 0
  InReach k id =
      is_id shape y.operands k ≡ true → result_place shape ≢ Some k → is_misused insts at y id ≡ false

  -- and of each from there on
  abbrev pub AreInReach : ℕ → List ℕ → Type 0
  AreInReach k [] = Unit {0}
  AreInReach k (id ∷ ids) = InReach k id × AreInReach (suc k) ids

  reach_at : (n : ℕ) (ids : List ℕ) (k j : ℕ) → AreInReach n ids → n + k ≡ j → k < length ids → InReach j (get_or ids k 0)
  reach_at n [] k j h e low = absurd (omega (arith, low))
  reach_at n (id ∷ ids) zero j h e low =
      let same : n ≡ j = omega (arith, e) in
      subst (λ m. InReach m id) same h.0
  reach_at n (id ∷ ids) (suc k) j h e low = reach_at (suc n) ids k j h.1 (omega (arith, e)) (omega (arith, low))

  pub no_misuse : shape_of y.opcode ≡ Some shape → AreInReach 0 y.operands → Misuses insts at y → ⊥
  no_misuse is h m =
      let same : m.uses.shape ≡ shape = some_inj (sym m.uses.listed ∙ is) in
      let is_id_there = subst (λ s. is_id s y.operands m.uses.at ≡ true) same m.uses.is_id in
      let is_used = subst (λ s. result_place s ≢ Some m.uses.at) same m.uses.is_used in
      true_false (sym m.misused ∙ ap (is_misused insts at y) (sym m.uses.id_is) ∙ reach_at 0 y.operands m.uses.at m.uses.at h (omega arith) m.uses.within is_id_there is_used)

-- an instruction of which only this is asked
pub other_kept : (insts : List Inst) (at opcode : ℕ) (operands : List ℕ) (shape : Shape) → shape_of opcode ≡ Some shape → group_of opcode ≡ Other → written_by (inst opcode operands) ≡ None → AreInReach insts at (inst opcode operands) shape 0 operands → KeepsRules insts at (inst opcode operands)
unfolding fits
other_kept insts at opcode operands shape listed group quiet h =
    record {
      in_reach = no_misuse insts at (inst opcode operands) shape listed h;
      fitting = ap (fits_as insts (inst opcode operands)) group;
      writable = λ pointer e read_only. none_some (sym quiet ∙ e);
    }
