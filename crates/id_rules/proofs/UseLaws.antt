-- Whether an instruction uses an id that it may not use.
use Rattle.std.proofs.Common.{ℕ, ◌≡◌, ◌≢◌, ◌<◌, ◌≤◌, ◌↔◌, IsTrue, refl, sym, ap, subst, ◌∙◌, arith, List, length, Option, Some, None, Bool, true, false, eqb}
use Rattle.std.proofs.lemmas.Bool.{eq-eqb, eqb-true}
use Rattle.spv_form.specs.declared.shape.Shape.{Shape}
use Rattle.spv_form.specs.declared.module.Inst.{Inst}
use Rattle.spv_form.specs.Shapes.{shape_of}
use Rattle.spv_form.specs.Operands.{is_id}
use Rattle.spv_ids.specs.Roles.{operand, result_place}
use Rattle.spv_ids.specs.Places.{is_there}
use Rattle.id_rules.specs.Uses.{is_misused, Misuses}

not_there : (o : Option ℕ) (k : ℕ) → is_there k o ≡ false → o ≢ Some k
not_there None k e s = cc
not_there (Some j) k e s = let same : j ≡ k = cc in let yes = eq-eqb j k same in cc

there_not : (o : Option ℕ) (k : ℕ) → o ≢ Some k → is_there k o ≡ false
there_not None k ne = refl
there_not (Some j) k ne = cases (eqb j k) refl where
  cases : (b : Bool) → eqb j k ≡ b → eqb j k ≡ false
  cases true e = absurd (ne (ap Some (eqb-true j k e)))
  cases false e = e

-- the operand words before a place misuse nothing
pub record IsFine (insts : List Inst) (at : ℕ) (x : Inst) (shape : Shape) (k : ℕ) : Type 0 where
  pub fine : (j : ℕ) → j < k → is_id shape x.operands j ≡ true → is_there j (result_place shape) ≡ false → is_misused insts at x (operand x j) ≡ false

pub no_shape : (insts : List Inst) (at : ℕ) (x : Inst) → shape_of x.opcode ≡ None → IsTrue false ↔ Misuses insts at x
no_shape insts at x e = (λ h. cc, λ m. let l = m.uses.listed in cc)

pub misuse_found : (insts : List Inst) (at : ℕ) (x : Inst) (shape : Shape) (k word : ℕ) → shape_of x.opcode ≡ Some shape → k < length x.operands → is_id shape x.operands k ≡ true → is_there k (result_place shape) ≡ false
    → operand x k ≡ word → is_misused insts at x word ≡ true → IsTrue true ↔ Misuses insts at x
misuse_found insts at x shape k word listed h id used is m =
    (λ _. record { id = word; uses = record { shape = shape; at = k; listed = listed; within = h; is_id = id; is_used = not_there (result_place shape) k used; id_is = is }; misused = m }, λ _. refl)

pub none_found : (insts : List Inst) (at : ℕ) (x : Inst) (shape : Shape) (k : ℕ) → shape_of x.opcode ≡ Some shape → IsFine insts at x shape k → length x.operands ≤ k → IsTrue false ↔ Misuses insts at x
none_found insts at x shape k listed f h = (λ e. cc, λ m. none m) where
  none : Misuses insts at x → false ≡ true
  none m =
      let u = m.uses in
      let same : u.shape ≡ shape = (let l = u.listed in cc) in
      let id : is_id shape x.operands u.at ≡ true = subst (λ s. is_id s x.operands u.at ≡ true) same u.is_id in
      let used : is_there u.at (result_place shape) ≡ false = there_not (result_place shape) u.at (subst (λ (s : Shape). result_place s ≢ Some u.at) same u.is_used) in
      let fine = f.fine u.at (omega (arith, u.within, h)) id used in
      let bad : is_misused insts at x (operand x u.at) ≡ true = ap (is_misused insts at x) u.id_is ∙ m.misused in
      sym fine ∙ bad
