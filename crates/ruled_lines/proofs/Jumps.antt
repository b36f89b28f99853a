-- Labels, and the instructions that lead to them, keep the rules.
use Rattle.std.proofs.Common.{◌≡◌, ◌≢◌, ℕ, zero, suc, ◌<◌, true, false, List, [], ◌∷◌, get_or, Some, refl, sym, ap, ◌∙◌, subst, arith}
use Rattle.std.specs.Prelude.{slice_get, ◌&&◌}
use Rattle.spv_form.specs.declared.module.Inst.{Inst}
use Rattle.spv_form.specs.declared.shape.Shape.TheVariants.{Plain}
use Rattle.spv_form.specs.Shapes.{shape_of}
use Rattle.spv_form.specs.Operands.{is_id}
use Rattle.spv_ids.specs.Roles.{result_place}
use Rattle.id_rules.specs.Uses.{is_misused, Misuses}
use Rattle.type_rules.specs.Values.{is_label, is_bool_value}
use Rattle.type_rules.specs.Fits.{group_of, fits}
use Rattle.spirv_code.specs.declared.key.Sort.TheVariants as sort
use Rattle.spirv_code.specs.declared.key.Global.TheVariants.{Plain as PlainKey}
use Rattle.spirv_code.specs.Plans.{inst, bool_id}
use Rattle.line_runs.specs.Held.{Setting, Uses}
use Rattle.line_runs.proofs.Tests.{none_some, some_inj, true_false}
use Rattle.ruled_lines.specs.Kept.{KeepsRules, IsValueAt, StandsAhead}
use Rattle.ruled_lines.proofs.Values.{label_reached, label_is_there, value_reached, value_is_bool, bare_reach}
use Rattle.ruled_lines.proofs.Facts.{bool_is}
use Rattle.ruled_lines.proofs.Operations.{both}

-- this label stands there
abbrev pub LabelAt : List Inst → (place id : ℕ) → Type 0
LabelAt insts place id = slice_get insts place ≡ Some (inst 248 (id ∷ []))

label_shape : shape_of 248 ≡ Some (Plain false true 0 0 0)
unfolding shape_of
label_shape = refl

branch_shape : shape_of 249 ≡ Some (Plain false false 1 1 0)
unfolding shape_of
branch_shape = refl

fork_shape : shape_of 250 ≡ Some (Plain false false 3 3 0)
unfolding shape_of
fork_shape = refl

merge_shape : shape_of 247 ≡ Some (Plain false false 2 2 2)
unfolding shape_of
merge_shape = refl

fits_label : (insts : List Inst) (id : ℕ) → fits insts (inst 248 (id ∷ [])) ≡ true
unfolding fits group_of
fits_label insts id = refl

fits_branch : (insts : List Inst) (id : ℕ) → is_label insts id ≡ true → fits insts (inst 249 (id ∷ [])) ≡ true
unfolding fits group_of
fits_branch insts id is = is

fits_merge : (insts : List Inst) (id : ℕ) → is_label insts id ≡ true → fits insts (inst 247 (id ∷ 0 ∷ [])) ≡ true
unfolding fits group_of
fits_merge insts id is = is

fits_fork : (insts : List Inst) (test a b : ℕ) → is_bool_value insts test ≡ true → is_label insts a ≡ true → is_label insts b ≡ true → fits insts (inst 250 (test ∷ a ∷ b ∷ [])) ≡ true
unfolding fits group_of
fits_fork insts test a b ht ha hb =
    both (is_bool_value insts test) (is_label insts a && is_label insts b) ht (both (is_label insts a) (is_label insts b) ha hb)

-- a label uses no id
pub label_rules : (insts : List Inst) (at id : ℕ) → KeepsRules insts at (inst 248 (id ∷ []))
label_rules insts at id =
    record { in_reach = reach; fitting = fits_label insts id; writable = λ pointer e read_only. none_some e }
  where
    by_place : (k : ℕ) → k < 1 → Some 0 ≢ Some k → ⊥
    by_place zero low other = other refl
    by_place (suc k) low other = omega (arith, low)

    reach : Misuses insts at (inst 248 (id ∷ [])) → ⊥
    reach m =
        let same : m.uses.shape ≡ Plain false true 0 0 0 = some_inj (sym m.uses.listed ∙ label_shape) in
        by_place m.uses.at m.uses.within (subst (λ t. result_place t ≢ Some m.uses.at) same m.uses.is_used)

-- the other operand of a selection is a number
merge_reach : (insts : List Inst) (at id : ℕ) → is_misused insts at (inst 247 (id ∷ 0 ∷ [])) id ≡ false → Misuses insts at (inst 247 (id ∷ 0 ∷ [])) → ⊥
merge_reach insts at id ok m =
    true_false (sym m.misused ∙ ap (is_misused insts at y) (sym m.uses.id_is) ∙ by_place m.uses.at m.uses.within (subst (λ t. is_id t y.operands m.uses.at ≡ true) same m.uses.is_id))
  where
    y : Inst
    y = inst 247 (id ∷ 0 ∷ [])

    same : m.uses.shape ≡ Plain false false 2 2 2
    same = some_inj (sym m.uses.listed ∙ merge_shape)

    by_place : (k : ℕ) → k < 2 → is_id (Plain false false 2 2 2) (id ∷ 0 ∷ []) k ≡ true → is_misused insts at y (get_or (id ∷ 0 ∷ []) k 0) ≡ false
    by_place zero low is = ok
    by_place (suc zero) low is = absurd (true_false (sym is))
    by_place (suc (suc k)) low is = absurd (omega (arith, low))

module _ (s : Setting) (low : ℕ) (ahead : StandsAhead s low) where
  abbrev insts : List Inst
  insts = s.made.insts

  pub branch_rules : (at place id : ℕ) → LabelAt insts place id → KeepsRules insts at (inst 249 (id ∷ []))
  branch_rules at place id there =
      record {
        in_reach = bare_reach insts ahead.once at 249 (id ∷ []) 1 1 branch_shape (label_reached insts ahead.once at (inst 249 (id ∷ [])) place id there, tt);
        fitting = fits_branch insts id (label_is_there insts ahead.once place id there);
        writable = λ pointer e read_only. none_some e;
      }

  pub merge_rules : (at place id : ℕ) → LabelAt insts place id → KeepsRules insts at (inst 247 (id ∷ 0 ∷ []))
  merge_rules at place id there =
      record {
        in_reach = merge_reach insts at id (label_reached insts ahead.once at (inst 247 (id ∷ 0 ∷ [])) place id there);
        fitting = fits_merge insts id (label_is_there insts ahead.once place id there);
        writable = λ pointer e read_only. none_some e;
      }

  pub fork_rules : (at test p a q b : ℕ) → Uses s (PlainKey sort.Bool) → IsValueAt insts at test (bool_id s.context) → LabelAt insts p a → LabelAt insts q b → KeepsRules insts at (inst 250 (test ∷ a ∷ b ∷ []))
  fork_rules at test p a q b bool value first second =
      let y : Inst = inst 250 (test ∷ a ∷ b ∷ []) in
      record {
        in_reach = bare_reach insts ahead.once at 250 (test ∷ a ∷ b ∷ []) 3 3 fork_shape (value_reached insts ahead.once at y test (bool_id s.context) value, (label_reached insts ahead.once at y p a first, (label_reached insts ahead.once at y q b second, tt)));
        fitting = fits_fork insts test a b (value_is_bool insts ahead.once at test (bool_id s.context) value (bool_is s low ahead bool)) (label_is_there insts ahead.once p a first) (label_is_there insts ahead.once q b second);
        writable = λ pointer e read_only. none_some e;
      }
