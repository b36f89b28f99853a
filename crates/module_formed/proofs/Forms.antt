-- Instructions of which some operands are numbers.
use Rattle.std.proofs.Common.{◌≡◌, ℕ, zero, suc, ◌+◌, ◌<◌, Bool, true, false, List, [], ◌∷◌, length, get_or, Some, refl, sym, subst, arith}
use Rattle.spv_form.specs.declared.shape.Shape.{Shape}
use Rattle.spv_form.specs.declared.shape.Shape.TheVariants.{Plain}
use Rattle.spv_form.specs.Formed.{IsIdBelow, IsFormedInst}
use Rattle.spv_form.specs.Operands.{fits, string_ends, is_id}
use Rattle.spv_form.specs.Shapes.{shape_of, plain, made, typed}
use Rattle.spirv_code.specs.Plans.{inst}
use Rattle.line_runs.proofs.Tests.{true_false}

-- each operand from a place on is an id where the test passes
abbrev pub AllAt : ℕ → (ℕ → Bool) → ℕ → List ℕ → Type 0
AllAt b test n [] = Unit {0}
AllAt b test n (x ∷ xs) = (test n ≡ true → IsIdBelow b x) × AllAt b test (suc n) xs

at_all : (b : ℕ) (test : ℕ → Bool) (n : ℕ) (xs : List ℕ) (k : ℕ) → AllAt b test n xs → k < length xs → test (n + k) ≡ true → IsIdBelow b (get_or xs k 0)
at_all b test n [] k h lt is = absurd (omega (arith, lt))
at_all b test n (x ∷ xs) zero h lt is =
    let same : n + 0 ≡ n = omega arith in
    h.0 (subst (λ j. test j ≡ true) same is)
at_all b test n (x ∷ xs) (suc k) h lt is =
    let same : n + suc k ≡ suc n + k = omega arith in
    at_all b test (suc n) xs k h.1 (omega (arith, lt)) (subst (λ j. test j ≡ true) same is)

pub formed_by : (b opcode : ℕ) (ops : List ℕ) (shape : Shape) → shape_of opcode ≡ Some shape → fits shape ops ≡ true → string_ends shape ops ≡ true → length ops < 65535 → AllAt b (is_id shape ops) 0 ops → IsFormedInst b (inst opcode ops)
formed_by b opcode ops shape listed fit ends short ids =
    record {
      shape = shape;
      listed = listed;
      fits = fit;
      string = ends;
      ids = λ at lt is. (let same : at ≡ 0 + at = omega arith in at_all b (is_id shape ops) 0 ops at ids lt (subst (λ j. is_id shape ops j ≡ true) same is));
      short = short;
    }

-- a number is no id
pub number : {A : Type 0} → false ≡ true → A
number e = absurd (true_false (sym e))

module _ (b : ℕ) where
  -- ---- modes

  pub capability_formed : (n : ℕ) → IsFormedInst b (inst 17 (n ∷ []))
  unfolding shape_of
  capability_formed n = formed_by b 17 (n ∷ []) (plain 1 1) refl refl refl (omega arith) (number, tt)

  pub model_formed : (m n : ℕ) → IsFormedInst b (inst 14 (m ∷ n ∷ []))
  unfolding shape_of
  model_formed m n = formed_by b 14 (m ∷ n ∷ []) (plain 2 3) refl refl refl (omega arith) (number, (number, tt))

  pub mode_formed : (x k l m n : ℕ) → IsIdBelow b x → IsFormedInst b (inst 16 (x ∷ k ∷ l ∷ m ∷ n ∷ []))
  unfolding shape_of
  mode_formed x k l m n hx =
      formed_by b 16 (x ∷ k ∷ l ∷ m ∷ n ∷ []) (plain 5 30) refl refl refl (omega arith) (λ is. hx, (number, (number, (number, (number, tt)))))

  -- ---- decorations

  pub decoration_formed : (x n : ℕ) → IsIdBelow b x → IsFormedInst b (inst 71 (x ∷ n ∷ []))
  unfolding shape_of
  decoration_formed x n hx =
      formed_by b 71 (x ∷ n ∷ []) (Plain false false 2 3 6) refl refl refl (omega arith) (λ is. hx, (number, tt))

  pub valued_formed : (x n m : ℕ) → IsIdBelow b x → IsFormedInst b (inst 71 (x ∷ n ∷ m ∷ []))
  unfolding shape_of
  valued_formed x n m hx =
      formed_by b 71 (x ∷ n ∷ m ∷ []) (Plain false false 2 3 6) refl refl refl (omega arith) (λ is. hx, (number, (number, tt)))

  pub member_formed : (x n m k : ℕ) → IsIdBelow b x → IsFormedInst b (inst 72 (x ∷ n ∷ m ∷ k ∷ []))
  unfolding shape_of
  member_formed x n m k hx =
      formed_by b 72 (x ∷ n ∷ m ∷ k ∷ []) (plain 4 14) refl refl refl (omega arith) (λ is. hx, (number, (number, (number, tt))))

  -- ---- types

  pub void_formed : (x : ℕ) → IsIdBelow b x → IsFormedInst b (inst 19 (x ∷ []))
  unfolding shape_of
  void_formed x hx = formed_by b 19 (x ∷ []) (made 0 0) refl refl refl (omega arith) (λ is. hx, tt)

  pub truth_formed : (x : ℕ) → IsIdBelow b x → IsFormedInst b (inst 20 (x ∷ []))
  unfolding shape_of
  truth_formed x hx = formed_by b 20 (x ∷ []) (made 0 0) refl refl refl (omega arith) (λ is. hx, tt)

  pub integer_formed : (x n m : ℕ) → IsIdBelow b x → IsFormedInst b (inst 21 (x ∷ n ∷ m ∷ []))
  unfolding shape_of
  integer_formed x n m hx =
      formed_by b 21 (x ∷ n ∷ m ∷ []) (made 2 3) refl refl refl (omega arith) (λ is. hx, (number, (number, tt)))

  pub vector_formed : (x y n : ℕ) → IsIdBelow b x → IsIdBelow b y → IsFormedInst b (inst 23 (x ∷ y ∷ n ∷ []))
  unfolding shape_of
  vector_formed x y n hx hy =
      formed_by b 23 (x ∷ y ∷ n ∷ []) (made 2 2) refl refl refl (omega arith) (λ is. hx, (λ is. hy, (number, tt)))

  pub array_formed : (x y z : ℕ) → IsIdBelow b x → IsIdBelow b y → IsIdBelow b z → IsFormedInst b (inst 28 (x ∷ y ∷ z ∷ []))
  unfolding shape_of
  array_formed x y z hx hy hz =
      formed_by b 28 (x ∷ y ∷ z ∷ []) (made 2 0) refl refl refl (omega arith) (λ is. hx, (λ is. hy, (λ is. hz, tt)))

  pub endless_formed : (x y : ℕ) → IsIdBelow b x → IsIdBelow b y → IsFormedInst b (inst 29 (x ∷ y ∷ []))
  unfolding shape_of
  endless_formed x y hx hy =
      formed_by b 29 (x ∷ y ∷ []) (made 1 0) refl refl refl (omega arith) (λ is. hx, (λ is. hy, tt))

  pub struct_formed : (x y : ℕ) → IsIdBelow b x → IsIdBelow b y → IsFormedInst b (inst 30 (x ∷ y ∷ []))
  unfolding shape_of
  struct_formed x y hx hy =
      formed_by b 30 (x ∷ y ∷ []) (Plain false true 0 65535 0) refl refl refl (omega arith) (λ is. hx, (λ is. hy, tt))

  pub function_type_formed : (x y : ℕ) → IsIdBelow b x → IsIdBelow b y → IsFormedInst b (inst 33 (x ∷ y ∷ []))
  unfolding shape_of
  function_type_formed x y hx hy =
      formed_by b 33 (x ∷ y ∷ []) (Plain false true 0 65535 0) refl refl refl (omega arith) (λ is. hx, (λ is. hy, tt))

  pub pointer_formed : (x n y : ℕ) → IsIdBelow b x → IsIdBelow b y → IsFormedInst b (inst 32 (x ∷ n ∷ y ∷ []))
  unfolding shape_of
  pointer_formed x n y hx hy =
      formed_by b 32 (x ∷ n ∷ y ∷ []) (made 2 1) refl refl refl (omega arith) (λ is. hx, (number, (λ is. hy, tt)))

  -- ---- constants and variables

  pub constant_formed : (x y n : ℕ) → IsIdBelow b x → IsIdBelow b y → IsFormedInst b (inst 43 (x ∷ y ∷ n ∷ []))
  unfolding shape_of
  constant_formed x y n hx hy =
      formed_by b 43 (x ∷ y ∷ n ∷ []) (typed 1 1) refl refl refl (omega arith) (λ is. hx, (λ is. hy, (number, tt)))

  pub true_formed : (x y : ℕ) → IsIdBelow b x → IsIdBelow b y → IsFormedInst b (inst 41 (x ∷ y ∷ []))
  unfolding shape_of
  true_formed x y hx hy =
      formed_by b 41 (x ∷ y ∷ []) (typed 0 0) refl refl refl (omega arith) (λ is. hx, (λ is. hy, tt))

  pub false_formed : (x y : ℕ) → IsIdBelow b x → IsIdBelow b y → IsFormedInst b (inst 42 (x ∷ y ∷ []))
  unfolding shape_of
  false_formed x y hx hy =
      formed_by b 42 (x ∷ y ∷ []) (typed 0 0) refl refl refl (omega arith) (λ is. hx, (λ is. hy, tt))

  pub variable_formed : (x y n : ℕ) → IsIdBelow b x → IsIdBelow b y → IsFormedInst b (inst 59 (x ∷ y ∷ n ∷ []))
  unfolding shape_of
  variable_formed x y n hx hy =
      formed_by b 59 (x ∷ y ∷ n ∷ []) (Plain true true 1 2 1) refl refl refl (omega arith) (λ is. hx, (λ is. hy, (number, tt)))

  pub local_formed : (x y n z : ℕ) → IsIdBelow b x → IsIdBelow b y → IsIdBelow b z → IsFormedInst b (inst 59 (x ∷ y ∷ n ∷ z ∷ []))
  unfolding shape_of
  local_formed x y n z hx hy hz =
      formed_by b 59 (x ∷ y ∷ n ∷ z ∷ []) (Plain true true 1 2 1) refl refl refl (omega arith) (λ is. hx, (λ is. hy, (number, (λ is. hz, tt))))

  -- ---- the function

  pub function_formed : (x y n z : ℕ) → IsIdBelow b x → IsIdBelow b y → IsIdBelow b z → IsFormedInst b (inst 54 (x ∷ y ∷ n ∷ z ∷ []))
  unfolding shape_of
  function_formed x y n z hx hy hz =
      formed_by b 54 (x ∷ y ∷ n ∷ z ∷ []) (typed 2 1) refl refl refl (omega arith) (λ is. hx, (λ is. hy, (number, (λ is. hz, tt))))

  pub return_formed : IsFormedInst b (inst 253 [])
  unfolding shape_of
  return_formed = formed_by b 253 [] (plain 0 0) refl refl refl (omega arith) tt

  pub end_formed : IsFormedInst b (inst 56 [])
  unfolding shape_of
  end_formed = formed_by b 56 [] (plain 0 0) refl refl refl (omega arith) tt
