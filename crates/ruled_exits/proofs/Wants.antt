-- Stores and tests of the block that is wanted keep the rules.
use Rattle.std.proofs.Common.{◌≡◌, ℕ, suc, ◌+◌, ◌*◌, ◌≤◌, Bool, true, false, List, [], ◌∷◌, ◌++◌, Option, Some, None, refl, ap, ◌∙◌, subst, arith}
use Rattle.std.specs.Prelude.{nat_eq, ◌||◌, if◌then◌else◌}
use Rattle.dxil_form.specs.declared.value.Ty.TheVariants as ty
use Rattle.dxil_form.specs.Branches.{has}
use Rattle.spv_form.specs.declared.module.Inst.{Inst}
use Rattle.spv_ids.specs.Places.{block_of}
use Rattle.spirv_code.specs.declared.key.Sort.TheVariants as sort
use Rattle.spirv_code.specs.declared.key.Slot.TheVariants.{Want}
use Rattle.spirv_code.specs.declared.key.Global.TheVariants.{Plain as PlainKey, Number}
use Rattle.spirv_code.specs.Plans.{Context, inst, result, number, int_id, bool_id, variable, id_or_0}
use Rattle.spirv_code.specs.Reads.{store_code}
use Rattle.spirv_code.specs.Accesses.{bool_inst}
use Rattle.spirv_code.specs.Exits.{branch_inst, want_inst, is_wanted, setters_code, place_in, setter_label}
use Rattle.line_runs.specs.Held.{Setting, Has, Uses}
use Rattle.leaf_runs.specs.BlockReady.{HasVariable}
use Rattle.access_runs.proofs.Stepping.{has_at}
use Rattle.region_runs.proofs.Targets.{has_here, has_there}
use Rattle.ruled_lines.specs.Kept.{KeepsRules, AreKept, IsValueAt, StandsAhead}
use Rattle.ruled_lines.proofs.Facts.{number_value}
use Rattle.ruled_lines.proofs.Straight.{cons_kept, equal, step, truth_step}
use Rattle.ruled_lines.proofs.Jumps.{LabelAt, label_rules, branch_rules}
use Rattle.ruled_blocks.proofs.Phis.{load_shape, load_slot, store_slot, sort_used}
use Rattle.ruled_exits.specs.Exits.{Stands, CanWant}

module _ (s : Setting) (low : ℕ) (ahead : StandsAhead s low) where
  abbrev insts : List Inst
  insts = s.made.insts

  abbrev c : Context
  c = s.context

  pub want_rules : (at k : ℕ) → CanWant s k → low ≤ at → KeepsRules insts at (want_inst c k)
  want_rules at k can behind =
      store_slot s low ahead at (number c k) Want ty.Int can.0 refl behind (number_value s low ahead at k can.1 behind)

  -- a store where the variable may be missing
  pub ends_kept : (at k : ℕ) → (HasVariable s Want → Uses s (Number k)) → low ≤ at → AreKept insts at (store_code (c.slot Want) (number c k))
  ends_kept at k uses behind = by_slot (c.slot Want) refl
    where
      by_slot : (o : Option ℕ) → c.slot Want ≡ o → AreKept insts at (store_code o (number c k))
      by_slot None e = tt
      by_slot (Some id) e =
          let store = want_rules at k ((id, e), uses (id, e)) behind in
          (subst (λ n. KeepsRules insts at (inst 62 (n ∷ number c k ∷ []))) (ap id_or_0 e) store, tt)

  -- behind the test whether a block is wanted
  pub record Wanted (place k : ℕ) (rest : List Inst) : Type 0 where
    pub kept : AreKept insts (place + 2) rest → AreKept insts place (is_wanted c place k ++ rest)
    pub value : IsValueAt insts (place + 2) (result c (place + 1)) (bool_id c)
    pub block : block_of insts place ≡ block_of insts (place + 2)
    pub has : Has s.made (place + 2) rest

  pub wanted_gives : (place k : ℕ) (rest : List Inst) → CanWant s k → Uses s (PlainKey sort.Bool) → low ≤ place → Has s.made place (is_wanted c place k ++ rest) → Wanted place k rest
  wanted_gives place k rest can bool behind has =
      let later : low ≤ place + 1 = omega (arith, behind) in
      let y : Inst = bool_inst c (place + 1) 170 (result c place ∷ number c k ∷ []) in
      let int : Uses s (PlainKey sort.Int) = sort_used s low ahead Want can.0 in
      let x1 = step s low ahead place (place + 1) 61 (int_id c) (variable c Want ∷ []) 1 1 0 (y ∷ rest) refl load_shape refl (load_slot s low ahead place (result c place) Want ty.Int can.0 refl behind) has in
      let x2 = truth_step s low ahead (place + 1) (place + 2) 170 (result c place) (number c k) rest (omega arith) equal int bool later x1.value (number_value s low ahead (place + 1) k can.1 later) x1.has in
      record {
        kept = λ more. (x1.kept, cons_kept insts (place + 1) (place + 2) y rest (omega arith) x2.kept more);
        value = x2.value;
        block = x1.block ∙ x2.block;
        has = x2.has;
      }

  -- ---- blocks that store which block is wanted

  pub setters_kept : (ks : List ℕ) (place meet : ℕ) → Stands insts meet → ((k : ℕ) → has k ks ≡ true → CanWant s k) → low ≤ place → Has s.made place (setters_code c place meet ks) → AreKept insts place (setters_code c place meet ks)
  setters_kept [] place meet there can behind code = tt
  setters_kept (k ∷ ks) place meet there can behind code =
      let e : place + 1 + 1 + 1 ≡ place + 3 = omega arith in
      let back : List Inst = setters_code c (place + 3) meet ks in
      let rest = setters_kept ks (place + 3) meet there (λ j among. can j (has_there j k ks among)) (omega (arith, behind)) (has_at s.made (place + 1 + 1 + 1) (place + 3) back e code.1.1.1) in
      (label_rules insts place (result c place), (want_rules (place + 1) k (can k (has_here k ks)) (omega (arith, behind)), cons_kept insts (place + 1 + 1) (place + 3) (branch_inst meet) back (omega arith) (branch_rules s low ahead (place + 1 + 1) there.0 meet there.1) rest))

-- the setter of a block has its label
pub setter_there : (s : Setting) (ks : List ℕ) (place meet k : ℕ) → has k ks ≡ true → Has s.made place (setters_code s.context place meet ks) → Stands s.made.insts (setter_label (result s.context place) ks k)
setter_there s [] place meet k among code = absurd (cc)
setter_there s (l ∷ ks) place meet k among code =
    by_test (nat_eq k l) among (λ m. setter_there s ks (place + 3) meet k m (has_at s.made (place + 1 + 1 + 1) (place + 3) (setters_code s.context (place + 3) meet ks) (omega arith) code.1.1.1))
  where
    c : Context
    c = s.context

    further : (n : ℕ) → result c (place + 3) + 3 * n ≡ result c place + 3 * suc n
    further n = omega arith

    by_test : (t : Bool) → (t || has k ks) ≡ true → (has k ks ≡ true → Stands s.made.insts (setter_label (result c (place + 3)) ks k)) → Stands s.made.insts (result c place + 3 * (if t then 0 else suc (place_in k ks)))
    by_test true among rest =
        let first : result c place ≡ result c place + 3 * 0 = omega arith in
        (place, subst (LabelAt s.made.insts place) first code.0)
    by_test false among rest =
        let there = rest among in
        (there.0, subst (LabelAt s.made.insts there.0) (further (place_in k ks)) there.1)
