-- What an instruction of the code of regions defines: nothing, the id of its own place, or a label of a region.
use Rattle.std.proofs.Common.{◌≡◌, ℕ, ◌+◌, true, List, [], ◌∷◌, ◌++◌, length, Option, Some, None, refl, sym, ap, ◌∙◌, subst, arith}
use Rattle.std.specs.Prelude.{slice_get, option_and_then}
use Rattle.dxil_form.specs.declared.value.Ty.{Ty}
use Rattle.dxil_form.specs.declared.value.Reg.{Reg}
use Rattle.dxil_form.specs.declared.value.Operand.{Operand}
use Rattle.dxil_form.specs.declared.value.Operand.TheVariants as operand
use Rattle.spv_form.specs.declared.module.Inst.{Inst}
use Rattle.spv_form.specs.declared.shape.Shape.TheVariants.{Plain}
use Rattle.spv_form.specs.Shapes.{shape_of}
use Rattle.spv_ids.specs.Roles.{result_place, result_of}
use Rattle.spirv_code.specs.Plans.{Context, inst, result, kept}
use Rattle.spirv_code.specs.Reads.{Env, reg_code, read_size, read_code, two_code, three_code, store_code, keep_code}
use Rattle.spirv_code.specs.Exits.{label_inst}
use Rattle.line_runs.proofs.Reading.{read_length}
use Rattle.frame_facts.proofs.InnerRows.{IsLabelOf}

pub data Seated (c : Context) (M : ℕ → Type 0) (place : ℕ) (i : Inst) : Type 0 where
  bare : result_of i ≡ None → Seated c M place i
  own : result_of i ≡ Some (result c place) → Seated c M place i
  of_region : (id : ℕ) → IsLabelOf M id → i ≡ label_inst id → Seated c M place i

abbrev pub AreSeated : Context → (ℕ → Type 0) → ℕ → List Inst → Type 0
AreSeated c M place [] = Unit {0}
AreSeated c M place (i ∷ is) = Seated c M place i × AreSeated c M (place + 1) is

-- ---- opcodes

-- a type, and then the result
pub made : (opcode type id : ℕ) (rest : List ℕ) (least most numbers : ℕ) → shape_of opcode ≡ Some (Plain true true least most numbers) → result_of (inst opcode (type ∷ id ∷ rest)) ≡ Some id
unfolding result_of
made opcode type id rest least most numbers e =
    ap (λ s. option_and_then (λ at. slice_get (type ∷ id ∷ rest) at) (option_and_then result_place s)) e

pub load_is : (type id v : ℕ) → result_of (inst 61 (type ∷ id ∷ v ∷ [])) ≡ Some id
unfolding result_of shape_of
load_is type id v = refl

pub store_is : (v id : ℕ) → result_of (inst 62 (v ∷ id ∷ [])) ≡ None
unfolding result_of shape_of
store_is v id = refl

pub label_is : (id : ℕ) → result_of (label_inst id) ≡ Some id
unfolding result_of shape_of
label_is id = refl

pub branch_is : (id : ℕ) → result_of (inst 249 (id ∷ [])) ≡ None
unfolding result_of shape_of
branch_is id = refl

pub selection_is : (id n : ℕ) → result_of (inst 247 (id ∷ n ∷ [])) ≡ None
unfolding result_of shape_of
selection_is id n = refl

pub conditional_is : (x y z : ℕ) → result_of (inst 250 (x ∷ y ∷ z ∷ [])) ≡ None
unfolding result_of shape_of
conditional_is x y z = refl

pub switch_is : (operands : List ℕ) → result_of (inst 251 operands) ≡ None
unfolding result_of shape_of
switch_is operands = refl

pub merge_is : (x y n : ℕ) → result_of (inst 246 (x ∷ y ∷ n ∷ [])) ≡ None
unfolding result_of shape_of
merge_is x y n = refl

pub barrier_is : (operands : List ℕ) → result_of (inst 224 operands) ≡ None
unfolding result_of shape_of
barrier_is operands = refl

pub fence_is : (operands : List ℕ) → result_of (inst 225 operands) ≡ None
unfolding result_of shape_of
fence_is operands = refl

pub chain_is : (type id : ℕ) (rest : List ℕ) → result_of (inst 65 (type ∷ id ∷ rest)) ≡ Some id
unfolding result_of shape_of
chain_is type id rest = refl

pub length_is : (type id x n : ℕ) → result_of (inst 68 (type ∷ id ∷ x ∷ n ∷ [])) ≡ Some id
unfolding result_of shape_of
length_is type id x n = refl

pub extract_is : (type id x n : ℕ) → result_of (inst 81 (type ∷ id ∷ x ∷ n ∷ [])) ≡ Some id
unfolding result_of shape_of
extract_is type id x n = refl

pub choose_is : (type id x y z : ℕ) → result_of (inst 169 (type ∷ id ∷ x ∷ y ∷ z ∷ [])) ≡ Some id
unfolding result_of shape_of
choose_is type id x y z = refl

-- ---- code in a row

module _ (c : Context) (M : ℕ → Type 0) where
  pub own_at : (p q : ℕ) (i : Inst) → p ≡ q → result_of i ≡ Some (result c p) → Seated c M q i
  own_at p q i e h = own (h ∙ ap (λ n. Some (result c n)) e)

  pub own_label : (p q : ℕ) → p ≡ q → Seated c M q (label_inst (result c p))
  own_label p q e = own_at p q (label_inst (result c p)) e (label_is (result c p))

  pub region_label : (place id : ℕ) → IsLabelOf M id → Seated c M place (label_inst id)
  region_label place id h = of_region id h refl

  pub at_place : (code : List Inst) (p q : ℕ) → p ≡ q → AreSeated c M p code → AreSeated c M q code
  at_place code p q e h = subst (λ n. AreSeated c M n code) e h

  pub seated_append : (place : ℕ) (a b : List Inst) → AreSeated c M place a → AreSeated c M (place + length a) b → AreSeated c M place (a ++ b)
  seated_append place [] b h k =
      let e : place + 0 ≡ place = omega arith in
      at_place b (place + 0) place e k
  seated_append place (x ∷ a) b h k =
      let e : place + length (x ∷ a) ≡ place + 1 + length a = omega arith in
      (h.0, seated_append (place + 1) a b h.1 (at_place b (place + length (x ∷ a)) (place + 1 + length a) e k))

  -- behind code of so many instructions
  pub behind : (place q : ℕ) (a b : List Inst) → place + length a ≡ q → AreSeated c M place a → AreSeated c M q b → AreSeated c M place (a ++ b)
  behind place q a b e h k = seated_append place a b h (at_place b q (place + length a) (sym e) k)

  -- ---- reads and stores

  reg_seated : (place : ℕ) (t : Ty) (env slot : Option ℕ) → AreSeated c M place (reg_code c place t env slot)
  reg_seated place t (Some id) slot = tt
  reg_seated place t None (Some variable) = (own (load_is _ _ variable), tt)
  reg_seated place t None None = tt

  pub read_seated : (env : Env) (place : ℕ) (a : Operand) → AreSeated c M place (read_code c env place a)
  read_seated env place (operand.Reg reg t) = reg_seated place t (env reg) (c.slot (kept reg t))
  read_seated env place (operand.Int n) = tt
  read_seated env place (operand.Bool b) = tt
  read_seated env place (operand.Undef t) = tt

  -- a read, and what stands behind it
  pub read_then : (env : Env) (place : ℕ) (a : Operand) (rest : List Inst) → AreSeated c M (place + read_size c env a) rest → AreSeated c M place (read_code c env place a ++ rest)
  read_then env place a rest h =
      behind place (place + read_size c env a) (read_code c env place a) rest (ap (λ n. place + n) (read_length c env place a)) (read_seated env place a) h

  pub two_seated : (env : Env) (place : ℕ) (a b : Operand) → AreSeated c M place (two_code c env place a b)
  two_seated env place a b =
      read_then env place a (read_code c env (place + read_size c env a) b) (read_seated env (place + read_size c env a) b)

  pub three_seated : (env : Env) (place : ℕ) (x a b : Operand) → AreSeated c M place (three_code c env place x a b)
  three_seated env place x a b =
      read_then env place x (two_code c env (place + read_size c env x) a b) (two_seated env (place + read_size c env x) a b)

  pub store_seated : (place : ℕ) (slot : Option ℕ) (id : ℕ) → AreSeated c M place (store_code slot id)
  store_seated place None id = tt
  store_seated place (Some variable) id = (bare (store_is variable id), tt)

  pub keep_seated : (place : ℕ) (reg : Reg) (t : Ty) (id : ℕ) → AreSeated c M place (keep_code c reg t id)
  keep_seated place reg t id = store_seated place (c.slot (kept reg t)) id
