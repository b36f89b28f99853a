-- A switch keeps the rules, where its value is a number and its labels stand.
use Rattle.std.proofs.Common.{◌≡◌, ℕ, zero, suc, ◌<◌, true, false, List, [], ◌∷◌, length, get_or, Some, refl, sym, ap, ◌∙◌, subst, arith}
use Rattle.std.specs.Prelude.{nat_eq, ◌||◌, ◌%◌}
use Rattle.std.specs.List.{list_all}
use Rattle.spv_form.specs.declared.module.Inst.{Inst}
use Rattle.spv_form.specs.declared.shape.Shape.TheVariants.{Pairs}
use Rattle.spv_form.specs.Shapes.{shape_of}
use Rattle.spv_form.specs.Operands.{is_id}
use Rattle.id_rules.specs.Uses.{is_misused, Misuses}
use Rattle.type_rules.specs.Values.{is_label, is_int_value}
use Rattle.type_rules.specs.Fits.{group_of, fits, switch_fits, seconds}
use Rattle.spirv_code.specs.declared.key.Sort.TheVariants as sort
use Rattle.spirv_code.specs.declared.key.Global.TheVariants.{Plain as PlainKey}
use Rattle.spirv_code.specs.Plans.{inst, int_id}
use Rattle.line_runs.specs.Held.{Setting, Uses}
use Rattle.line_runs.proofs.Tests.{none_some, some_inj, true_false}
use Rattle.ruled_lines.specs.Kept.{KeepsRules, IsValueAt, StandsAhead}
use Rattle.ruled_lines.proofs.Values.{label_reached, label_is_there, value_reached, value_is_int}
use Rattle.ruled_lines.proofs.Facts.{int_is}
use Rattle.ruled_lines.proofs.Operations.{both}
use Rattle.ruled_exits.specs.Exits.{Stands}

-- the labels of pairs of a number and a label stand somewhere
abbrev pub PairsStand : List Inst → List ℕ → Type 0
PairsStand insts [] = Unit {0}
PairsStand insts (n ∷ []) = Unit {0}
PairsStand insts (n ∷ id ∷ ps) = Stands insts id × PairsStand insts ps

switch_shape : shape_of 251 ≡ Some Pairs
unfolding shape_of
switch_shape = refl

fits_switch : (insts : List Inst) (id other : ℕ) (ps : List ℕ) → is_int_value insts id ≡ true → list_all (is_label insts) (other ∷ seconds ps) ≡ true → fits insts (inst 251 (id ∷ other ∷ ps)) ≡ true
unfolding fits group_of switch_fits
fits_switch insts id other ps int labels = both (is_int_value insts id) (list_all (is_label insts) (other ∷ seconds ps)) int labels

module _ (s : Setting) (low : ℕ) (ahead : StandsAhead s low) where
  abbrev insts : List Inst
  insts = s.made.insts

  labels_there : (ps : List ℕ) → PairsStand insts ps → list_all (is_label insts) (seconds ps) ≡ true
  labels_there [] h = refl
  labels_there (n ∷ []) h = refl
  labels_there (n ∷ id ∷ ps) h =
      both (is_label insts id) (list_all (is_label insts) (seconds ps)) (label_is_there insts ahead.once h.0.0 id h.0.1) (labels_there ps h.1)

  pairs_reached : (at : ℕ) (y : Inst) (ps : List ℕ) (k : ℕ) → PairsStand insts ps → k < length ps → k % 2 ≡ 1 → is_misused insts at y (get_or ps k 0) ≡ false
  pairs_reached at y [] k h low odd = absurd (omega (arith, low))
  pairs_reached at y (n ∷ []) zero h low odd = absurd (omega (arith, odd))
  pairs_reached at y (n ∷ []) (suc k) h low odd = absurd (omega (arith, low))
  pairs_reached at y (n ∷ id ∷ ps) zero h low odd = absurd (omega (arith, odd))
  pairs_reached at y (n ∷ id ∷ ps) (suc zero) h low odd = label_reached insts ahead.once at y h.0.0 id h.0.1
  pairs_reached at y (n ∷ id ∷ ps) (suc (suc k)) h low odd =
      pairs_reached at y ps k h.1 (omega (arith, low)) (omega (arith, odd))

  pub switch_rules : (at id other : ℕ) (ps : List ℕ) → Uses s (PlainKey sort.Int) → IsValueAt insts at id (int_id s.context) → Stands insts other → PairsStand insts ps → KeepsRules insts at (inst 251 (id ∷ other ∷ ps))
  switch_rules at id other ps int value there pairs =
      record {
        in_reach = reach;
        fitting = fits_switch insts id other ps (value_is_int insts ahead.once at id (int_id s.context) value (int_is s low ahead int)) (both (is_label insts other) (list_all (is_label insts) (seconds ps)) (label_is_there insts ahead.once there.0 other there.1) (labels_there ps pairs));
        writable = λ pointer e read_only. none_some e;
      }
    where
      y : Inst
      y = inst 251 (id ∷ other ∷ ps)

      odd_of : (k : ℕ) → (nat_eq (suc (suc k)) 0 || nat_eq (suc (suc k) % 2) 1) ≡ true → k % 2 ≡ 1
      odd_of k e = grind arith

      by_place : (k : ℕ) → k < length (id ∷ other ∷ ps) → is_id Pairs (id ∷ other ∷ ps) k ≡ true → is_misused insts at y (get_or (id ∷ other ∷ ps) k 0) ≡ false
      by_place zero low is = value_reached insts ahead.once at y id (int_id s.context) value
      by_place (suc zero) low is = label_reached insts ahead.once at y there.0 other there.1
      by_place (suc (suc k)) low is = pairs_reached at y ps k pairs (omega (arith, low)) (odd_of k is)

      reach : Misuses insts at y → ⊥
      reach m =
          let same : m.uses.shape ≡ Pairs = some_inj (sym m.uses.listed ∙ switch_shape) in
          true_false (sym m.misused ∙ ap (is_misused insts at y) (sym m.uses.id_is) ∙ by_place m.uses.at m.uses.within (subst (λ t. is_id t y.operands m.uses.at ≡ true) same m.uses.is_id))
