-- How many labels stand before each instruction.
use Rattle.std.proofs.Common.{ℕ, ◌≡◌, ◌+◌, ◌<◌, ◌≤◌, inl, inr, refl, sym, ap, ◌∙◌, arith, List, [], ◌∷◌, ◌++◌, length, get_or, Bool, true, false, cond, eqb}
use Rattle.std.proofs.lemmas.Bool.{cases_lt}
use Rattle.std.proofs.lemmas.Grind.{common_steps}
use Rattle.std.proofs.lemmas.List.{length_push, get_or_push}
use Rattle.std.proofs.lemmas.List.Sums.{count_by_more_yes, count_by_more_no}
use Rattle.spv_form.specs.declared.module.Inst.{Inst}
use Rattle.spv_ids.specs.Places.{is_op, block_of}
use Rattle.id_rules.specs.Uses.{AreBlocks}

-- the labels of the first so many instructions are counted
pub record IsCounting (insts : List Inst) (index : ℕ) (before : List ℕ) (labels : ℕ) : Type 0 where
  pub length_is : length before ≡ index
  pub are : (k : ℕ) → k < index → get_or before k 0 ≡ block_of insts k
  pub labels_are : labels ≡ block_of insts index
  pub few : labels ≤ index

pub counting_first : (insts : List Inst) (before : List ℕ) → before ≡ [] → IsCounting insts 0 before 0
unfolding block_of
counting_first insts before e = record { length_is = ap length e; are = λ k h. absurd (omega arith); labels_are = refl; few = omega arith }

block_yes : (insts : List Inst) (index : ℕ) (x : Inst) → index < length insts → x ≡ get_or insts index x → eqb x.opcode 248 ≡ true → block_of insts (index + 1) ≡ block_of insts index + 1
unfolding block_of
block_yes insts index x h is hit = count_by_more_yes (is_op 248) insts index x h (ap (is_op 248) (sym is) ∙ hit)

block_no : (insts : List Inst) (index : ℕ) (x : Inst) → index < length insts → x ≡ get_or insts index x → eqb x.opcode 248 ≡ false → block_of insts (index + 1) ≡ block_of insts index
unfolding block_of
block_no insts index x h is other = count_by_more_no (is_op 248) insts index x h (ap (is_op 248) (sym is) ∙ other)

pub counting_more : (insts : List Inst) (index : ℕ) (before before' : List ℕ) (labels labels' : ℕ) (x : Inst) → IsCounting insts index before labels → index < length insts → x ≡ get_or insts index x
    → before' ≡ before ++ labels ∷ [] → labels' ≡ (cond (eqb x.opcode 248) (labels + 1) labels) → IsCounting insts (index + 1) before' labels'
counting_more insts index before before' labels labels' x c h is pushed next = record {
  length_is = ap length pushed ∙ length_push before labels ∙ ap (λ n. n + 1) c.length_is;
  are = are;
  labels_are = (each (eqb x.opcode 248) refl).0;
  few = (each (eqb x.opcode 248) refl).1;
} where
  each : (b : Bool) → eqb x.opcode 248 ≡ b → (labels' ≡ block_of insts (index + 1)) × (labels' ≤ index + 1)
  each true hit = let n : labels' ≡ labels + 1 = next ∙ ap (λ b. cond b (labels + 1) labels) hit in (omega (arith, n, c.labels_are, block_yes insts index x h is hit), omega (arith, n, c.few))
  each false other = let n : labels' ≡ labels = next ∙ ap (λ b. cond b (labels + 1) labels) other in (omega (arith, n, c.labels_are, block_no insts index x h is other), omega (arith, n, c.few))

  are : (k : ℕ) → k < index + 1 → get_or before' k 0 ≡ block_of insts k
  are k below = ap (λ l. get_or l k 0) pushed ∙ elim (cases_lt k index) [
    | inl earlier ↦ let e = c.are k earlier in let n = c.length_is in grind (arith, common_steps)
    | inr last ↦ let same : k ≡ index = omega arith in get_or_push before labels 0 k (c.length_is ∙ sym same) ∙ c.labels_are ∙ ap (block_of insts) (sym same)
  ]

pub counting_all : (insts : List Inst) (index : ℕ) (before : List ℕ) (labels : ℕ) → IsCounting insts index before labels → length insts ≤ index → index ≤ length insts → AreBlocks insts before
counting_all insts index before labels c h k = record { length_is = omega (arith, c.length_is); are = λ j below. c.are j (omega (arith, c.length_is)) }
