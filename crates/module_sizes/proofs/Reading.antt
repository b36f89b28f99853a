-- How much a read of an operand takes, with what it declares.
use Rattle.std.proofs.Common.{◌≡◌, ℕ, suc, ◌+◌, ◌≤◌, Bool, true, false, List, [], ◌∷◌, ◌++◌, length, Option, Some, None, refl, arith}
use Rattle.std.specs.Prelude.{if◌then◌else◌}
use Rattle.dxil_form.specs.declared.value.Ty.{Ty}
use Rattle.dxil_form.specs.declared.value.Ty.TheVariants as ty
use Rattle.dxil_form.specs.declared.value.Reg.{Reg}
use Rattle.dxil_form.specs.declared.value.Operand.{Operand}
use Rattle.dxil_form.specs.declared.value.Operand.TheVariants as operand
use Rattle.dxil_form.specs.declared.program.Program.{Program}
use Rattle.spv_form.specs.declared.module.Inst.{Inst}
use Rattle.spirv_code.specs.declared.key.Global.{Global}
use Rattle.spirv_code.specs.declared.key.Global.TheVariants.{Plain}
use Rattle.spirv_code.specs.Plans.{Context, kept, sort_of, zero_of}
use Rattle.spirv_code.specs.Reads.{Env, reg_code, read_size, read_code, two_code, three_code, store_code, keep_code}
use Rattle.spirv_code.specs.Lines.{value_code}
use Rattle.spirv_code.specs.Needed.{operand_keys, two_keys}
use Rattle.module_sizes.specs.Sizes.{Measure, amount, size}
use Rattle.module_sizes.proofs.Totals.{total, total_append}
use Rattle.module_sizes.proofs.Common.{AreSmall, named, named_number}

pub size_append : (m : Measure) (xs ys : List Inst) → size m (xs ++ ys) ≡ size m xs + size m ys
size_append m [] ys = let e : size m ys ≡ 0 + size m ys = omega arith in e
size_append m (i ∷ xs) ys =
    let ih = size_append m xs ys in
    let e : amount m (length i.operands) + size m (xs ++ ys) ≡ amount m (length i.operands) + size m xs + size m ys = omega (arith, ih) in
    e

pub either_fits : (m : Measure) (b : Bool) (xs ys : List Inst) (n : ℕ) → size m xs ≤ n → size m ys ≤ n → size m (if b then xs else ys) ≤ n
either_fits m true xs ys n h k = h
either_fits m false xs ys n h k = k

-- what a read may take: a load of a register, and nothing of a constant, which takes a declaration instead
abbrev pub room : Measure → Operand → ℕ
room m (operand.Reg reg t) = amount m 3
room m (operand.Int n) = 0
room m (operand.Bool b) = 0
room m (operand.Undef t) = 0

module _ (p : Program) (m : Measure) (small : AreSmall p) where
  -- what keys take that are named
  abbrev pub keys : List Global → ℕ
  keys gs = total (named p m) gs

  pub keys_append : (gs hs : List Global) → keys (gs ++ hs) ≡ keys gs + keys hs
  keys_append gs hs = total_append (named p m) gs hs

  pub sort_named : (t : Ty) → named p m (Plain (sort_of t)) ≡ 0
  sort_named ty.Int = refl
  sort_named ty.Bool = refl

  pub zero_named : (t : Ty) → named p m (zero_of t) ≡ 0
  zero_named ty.Int = refl
  zero_named ty.Bool = refl

  pub operand_fits : (a : Operand) → keys (operand_keys a) + room m a ≤ amount m 3
  operand_fits (operand.Reg reg t) =
      let one = sort_named t in
      let two = zero_named t in
      omega (arith, one, two)
  operand_fits (operand.Int n) = let h = named_number p m small n in omega (arith, h)
  operand_fits (operand.Bool b) = by_truth b
    where
      by_truth : (b : Bool) → keys (operand_keys (operand.Bool b)) + 0 ≤ amount m 3
      by_truth true = omega arith
      by_truth false = omega arith
  operand_fits (operand.Undef t) = let one = zero_named t in omega (arith, one)

  pub two_fit : (a b : Operand) → keys (two_keys a b) + (room m a + room m b) ≤ amount m 3 + amount m 3
  two_fit a b =
      let one = operand_fits a in
      let two = operand_fits b in
      let both = keys_append (operand_keys a) (operand_keys b) in
      omega (arith, one, two, both)

  pub three_fit : (x a b : Operand) → keys (operand_keys x ++ two_keys a b) + (room m x + (room m a + room m b)) ≤ amount m 3 + (amount m 3 + amount m 3)
  three_fit x a b =
      let one = operand_fits x in
      let two = two_fit a b in
      let both = keys_append (operand_keys x) (two_keys a b) in
      omega (arith, one, two, both)

module _ (m : Measure) (c : Context) where
  pub read_fits : (env : Env) (place : ℕ) (a : Operand) → size m (read_code c env place a) ≤ room m a
  read_fits env place (operand.Int n) = omega arith
  read_fits env place (operand.Bool b) = omega arith
  read_fits env place (operand.Undef t) = omega arith
  read_fits env place (operand.Reg reg t) = by_env (env reg) (c.slot (kept reg t))
    where
      by_env : (o s : Option ℕ) → size m (reg_code c place t o s) ≤ amount m 3
      by_env (Some id) s = omega arith
      by_env None (Some variable) = omega arith
      by_env None None = omega arith

  pub two_reads : (env : Env) (place : ℕ) (a b : Operand) → size m (two_code c env place a b) ≤ room m a + room m b
  two_reads env place a b =
      let one = read_fits env place a in
      let two = read_fits env (place + read_size c env a) b in
      let both = size_append m (read_code c env place a) (read_code c env (place + read_size c env a) b) in
      omega (arith, one, two, both)

  pub three_reads : (env : Env) (place : ℕ) (x a b : Operand) → size m (three_code c env place x a b) ≤ room m x + (room m a + room m b)
  three_reads env place x a b =
      let one = read_fits env place x in
      let two = two_reads env (place + read_size c env x) a b in
      let both = size_append m (read_code c env place x) (two_code c env (place + read_size c env x) a b) in
      omega (arith, one, two, both)

  pub store_fits : (o : Option ℕ) (id : ℕ) → size m (store_code o id) ≤ amount m 2
  store_fits None id = omega arith
  store_fits (Some variable) id = omega arith

  pub keep_fits : (reg : Reg) (t : Ty) (id : ℕ) → size m (keep_code c reg t id) ≤ amount m 2
  keep_fits reg t id = store_fits (c.slot (kept reg t)) id

  pub value_fits : (place : ℕ) (to : Reg) (t : Ty) (opcode : ℕ) (operands : List ℕ) → size m (value_code c place to t opcode operands) ≤ amount m (suc (suc (length operands))) + amount m 2
  value_fits place to t opcode operands =
      let h = store_fits (c.slot (kept to t)) (c.first + place) in
      omega (arith, h)
