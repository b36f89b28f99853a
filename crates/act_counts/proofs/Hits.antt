-- How many acts of a kind an instruction has, and how many a list of them.
use Rattle.std.proofs.Common.{◌≡◌, ℕ, ◌+◌, ◌≤◌, Bool, true, false, not, cond, List, [], ◌∷◌, ◌++◌, refl, sym, ◌∙◌, subst, arith}
use Rattle.std.proofs.lemmas.List.Sums.{sum_by-cons}
use Rattle.std.specs.Prelude.{nat_eq, nat_le, ◌&&◌, ◌||◌, if◌then◌else◌, slice_get, count_by}
use Rattle.spv_form.specs.declared.module.Inst.{Inst}
use Rattle.spv_form.specs.declared.module.Module.{Module}
use Rattle.spirv_code.specs.Plans.{inst}
use Rattle.frame_facts.proofs.Counting.{bit}
use Rattle.frame_facts.proofs.Searches.{if_so, if_not, eq_told, both_so}
use Rattle.module_form.specs.Form.{gather}
use Rattle.module_form.proofs.Gathered.{apart_by}
use Rattle.act_form.specs.Acts as acts
use Rattle.act_form.specs.Acts.{Act, constant, act_of, acts_in}
use Rattle.act_counts.specs.Laws.{Kind, Loads, Stores, Atomics, Swaps, Barriers, Quotients, Remainders, Signed_remainders, Reversals, Bit_counts, is_outward, is_of}

-- ---- acts of a kind

abbrev pub computed : Kind → ℕ → ℕ
computed Quotients n = bit (nat_eq n 135)
computed Remainders n = bit (nat_eq n 137)
computed Signed_remainders n = bit (nat_eq n 138)
computed Reversals n = bit (nat_eq n 204)
computed Bit_counts n = bit (nat_eq n 205)
computed _ n = 0

abbrev pub hit : Kind → Act → ℕ
hit Loads acts.Loads = 1
hit Stores acts.Stores = 1
hit Atomics (acts.Updates opcode scope semantics) = 1
hit Swaps (acts.Swaps scope equal unequal) = 1
hit Barriers (acts.Syncs execution memory semantics) = 1
hit Barriers (acts.Orders memory semantics) = 1
hit kind (acts.Computes n) = computed kind n
hit _ _ = 0

abbrev pub hits : Kind → List Act → ℕ
hits kind [] = 0
hits kind (a ∷ xs) = hit kind a + hits kind xs

pub hits_append : (kind : Kind) (xs ys : List Act) → hits kind (xs ++ ys) ≡ hits kind xs + hits kind ys
hits_append kind [] ys = omega arith
hits_append kind (a ∷ xs) ys =
    let rest = hits_append kind xs ys in
    omega (arith, rest)

-- ---- an instruction

-- a test counts at most n, where n is not 0 if it passes
most : (t : Bool) (n : ℕ) → (t ≡ true → 1 ≤ n) → cond t 1 0 ≤ n
most true n h = h refl
most false n h = omega arith

either_so : (a b : Bool) → (a || b) ≡ true → a ≡ false → b ≡ true
either_so true b e f = absurd (cc)
either_so false b e f = e

load_hit : (own : Bool) → not own ≡ true → 1 ≤ hits Loads (if own then [] else acts.Loads ∷ [])
load_hit true e = absurd (cc)
load_hit false e = omega arith

store_hit : (own : Bool) → not own ≡ true → 1 ≤ hits Stores (if own then [] else acts.Stores ∷ [])
store_hit true e = absurd (cc)
store_hit false e = omega arith

-- what an opcode does, by the opcode that it is
module _ (m : Module) (opcode : ℕ) (operands : List ℕ) where
  named : (kind : Kind) (n : ℕ) → 1 ≤ hits kind (act_of m n operands) → nat_eq opcode n ≡ true → 1 ≤ hits kind (act_of m opcode operands)
  named kind n h e = subst (λ k. 1 ≤ hits kind (act_of m k operands)) (sym (eq_told opcode n e)) h

  loads : (nat_eq opcode 61 && is_outward m (slice_get operands 2)) ≡ true → 1 ≤ hits Loads (act_of m opcode operands)
  loads e =
      let both = both_so (nat_eq opcode 61) (is_outward m (slice_get operands 2)) e in
      named Loads 61 (load_hit _ both.1) both.0

  stores : (nat_eq opcode 62 && is_outward m (slice_get operands 0)) ≡ true → 1 ≤ hits Stores (act_of m opcode operands)
  stores e =
      let both = both_so (nat_eq opcode 62) (is_outward m (slice_get operands 0)) e in
      named Stores 62 (store_hit _ both.1) both.0

  barriers : (nat_eq opcode 224 || nat_eq opcode 225) ≡ true → 1 ≤ hits Barriers (act_of m opcode operands)
  barriers e = by_test (nat_eq opcode 224) refl
    where
      by_test : (t : Bool) → nat_eq opcode 224 ≡ t → 1 ≤ hits Barriers (act_of m opcode operands)
      by_test true f = named Barriers 224 (omega arith) f
      by_test false f = named Barriers 225 (omega arith) (either_so (nat_eq opcode 224) (nat_eq opcode 225) e f)

  atomics : (nat_eq opcode 229 || nat_le 234 opcode && nat_le opcode 242) ≡ true → 1 ≤ hits Atomics (act_of m opcode operands)
  atomics e = subst (λ xs. 1 ≤ hits Atomics xs) (sym does) (omega arith)
    where
      does : act_of m opcode operands ≡ acts.Updates opcode (constant m operands 3) (constant m operands 4) ∷ []
      does =
          if_not (nat_eq opcode 61) (apart_by (λ n. nat_eq n 229 || nat_le 234 n && nat_le n 242) opcode 61 e refl) _ _ ∙ if_not (nat_eq opcode 62) (apart_by (λ n. nat_eq n 229 || nat_le 234 n && nat_le n 242) opcode 62 e refl) _ _ ∙ if_not (nat_eq opcode 230) (apart_by (λ n. nat_eq n 229 || nat_le 234 n && nat_le n 242) opcode 230 e refl) _ _ ∙ if_so _ e _ _

  opcode_hits : (kind : Kind) → cond (is_of m kind (inst opcode operands)) 1 0 ≤ hits kind (act_of m opcode operands)
  opcode_hits Loads = most _ _ loads
  opcode_hits Stores = most _ _ stores
  opcode_hits Atomics = most _ _ atomics
  opcode_hits Swaps = most _ _ (named Swaps 230 (omega arith))
  opcode_hits Barriers = most _ _ barriers
  opcode_hits Quotients = most _ _ (named Quotients 135 (omega arith))
  opcode_hits Remainders = most _ _ (named Remainders 137 (omega arith))
  opcode_hits Signed_remainders = most _ _ (named Signed_remainders 138 (omega arith))
  opcode_hits Reversals = most _ _ (named Reversals 204 (omega arith))
  opcode_hits Bit_counts = most _ _ (named Bit_counts 205 (omega arith))

-- ---- the words

pub insts_hits : (m : Module) (kind : Kind) (insts : List Inst) → count_by (is_of m kind) insts ≤ hits kind (gather (acts_in m) insts)
insts_hits m kind [] = omega arith
insts_hits m kind (i ∷ insts) =
    let sum = sum_by-cons (λ x. cond (is_of m kind x) 1 0) i insts in
    let here = opcode_hits m i.opcode i.operands kind in
    let rest = insts_hits m kind insts in
    let both = hits_append kind (acts_in m i) (gather (acts_in m) insts) in
    omega (arith, sum, here, rest, both)
