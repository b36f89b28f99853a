-- Tests of numbers and of registers, and what is set at one of them.
use Rattle.std.proofs.Common.{◌≡◌, ◌≢◌, ℕ, Bool, true, false, Option, Some, None, refl, sym, ap, ◌∙◌, subst, eqb→eq, eq-eqb, arith}
use Rattle.std.specs.Prelude.{◌⊎◌, ◌&&◌, T, nat_eq, if◌then◌else◌}
use Rattle.std.proofs.Common.{inl, inr}
use Rattle.dxil_form.specs.declared.value.Reg.{Reg}
use Rattle.dxil_meaning.specs.Source.{Registers, with_reg}
use Rattle.dxil_meaning.specs.Source as source
use Rattle.spirv_meaning.specs.Target.{with_value}
use Rattle.spirv_code.specs.Reads.{Env, same_reg, with_id}

pub none_some : {A : Type 0} {x : A} → None ≡ Some x → ⊥
none_some e = grind arith

pub true_false : true ≡ false → ⊥
true_false e = grind arith

pub some_inj : {A : Type 0} {x y : A} → Some x ≡ Some y → x ≡ y
some_inj {x = x} e = ap (from x) e
  where
    from : {A : Type 0} → A → Option A → A
    from default (Some x) = x
    from default None = default

pub nat_eq-eq : (x y : ℕ) → nat_eq x y ≡ true → x ≡ y
nat_eq-eq x y e = eqb→eq x y (subst (λ b. T b) (sym e) tt)

pub nat_eq-refl : (x : ℕ) → nat_eq x x ≡ true
nat_eq-refl x = eq-eqb x x refl

pub both_true : (x y : Bool) → (x && y) ≡ true → (x ≡ true) × (y ≡ true)
both_true true y e = (refl, e)
both_true false y e = absurd (true_false (sym e))

pub if_true : {A : Type 0} (b : Bool) → b ≡ true → (x y : A) → (if b then x else y) ≡ x
if_true b e x y = ap (λ b. if b then x else y) e

pub if_false : {A : Type 0} (b : Bool) → b ≡ false → (x y : A) → (if b then x else y) ≡ y
if_false b e x y = ap (λ b. if b then x else y) e

-- ---- what is set at one id

pub with_value_here : {A : Type 0} (id : ℕ) (v : A) (f : ℕ → A) → with_value id v f id ≡ v
with_value_here id v f = if_true (nat_eq id id) (nat_eq-refl id) v (f id)

pub with_value_there : {A : Type 0} (id : ℕ) (v : A) (f : ℕ → A) (x : ℕ) → x ≢ id → with_value id v f x ≡ f x
with_value_there id v f x h = by_test (nat_eq x id) refl
  where
    by_test : (b : Bool) → nat_eq x id ≡ b → (if b then v else f x) ≡ f x
    by_test true e = absurd (h (nat_eq-eq x id e))
    by_test false e = refl

-- ---- registers

pub same_reg-eq : (a b : Reg) → same_reg a b ≡ true → a ≡ b
same_reg-eq a b e =
    let both = both_true (nat_eq a.value b.value) (nat_eq a.part b.part) e in
    ap (λ n. record { value = n; part = a.part }) (nat_eq-eq a.value b.value both.0) ∙ ap (λ n. record { value = b.value; part = n }) (nat_eq-eq a.part b.part both.1)

pub same_reg-refl : (a : Reg) → same_reg a a ≡ true
same_reg-refl a = ap (λ b. b && nat_eq a.part a.part) (nat_eq-refl a.value) ∙ nat_eq-refl a.part

-- two registers are the same, or are told apart
pub told : (a b : Reg) → (a ≡ b) ⊎ (same_reg a b ≡ false)
told a b = by_test (same_reg a b) refl
  where
    by_test : (t : Bool) → same_reg a b ≡ t → (a ≡ b) ⊎ (same_reg a b ≡ false)
    by_test true e = inl (same_reg-eq a b e)
    by_test false e = inr e

pub apart : (a b : Reg) → same_reg a b ≡ false → a ≢ b
apart a b e same = true_false (sym (subst (λ r. same_reg a r ≡ true) same (same_reg-refl a)) ∙ e)

pub env_here : (to : Reg) (id : ℕ) (env : Env) → with_id to id env to ≡ Some id
unfolding with_id
env_here to id env = if_true (same_reg to to) (same_reg-refl to) (Some id) (env to)

pub env_there : (to : Reg) (id : ℕ) (env : Env) (reg : Reg) → same_reg to reg ≡ false → with_id to id env reg ≡ env reg
unfolding with_id
env_there to id env reg e = if_false (same_reg to reg) e (Some id) (env reg)

-- what a register holds
abbrev pub at_reg : Registers → Reg → Option source.Value
at_reg regs reg = regs reg.value reg.part

-- a register is set
abbrev pub with_at : Reg → Option source.Value → Registers → Registers
with_at to v regs = with_reg to.value to.part v regs

pub regs_here : (to : Reg) (v : Option source.Value) (regs : Registers) → at_reg (with_at to v regs) to ≡ v
regs_here to v regs = if_true (same_reg to to) (same_reg-refl to) v (at_reg regs to)

pub regs_there : (to : Reg) (v : Option source.Value) (regs : Registers) (reg : Reg) → same_reg to reg ≡ false → at_reg (with_at to v regs) reg ≡ at_reg regs reg
regs_there to v regs reg e = by_test (same_reg reg to) refl
  where
    by_test : (b : Bool) → same_reg reg to ≡ b → (if b then v else at_reg regs reg) ≡ at_reg regs reg
    by_test true same = absurd (apart to reg e (sym (same_reg-eq reg to same)))
    by_test false same = refl
