-- Code that does nothing with memory that others see: reads and stores of variables of the function, and instructions on values.
use Rattle.std.proofs.Common.{◌≡◌, ℕ, ◌+◌, ◌≤◌, Bool, true, false, List, [], ◌∷◌, ◌++◌, Option, Some, None, refl, ap, ◌∙◌, arith}
use Rattle.std.specs.Prelude.{nat_eq, nat_le, nat_lt, not, ◌&&◌, ◌||◌, if◌then◌else◌}
use Rattle.dxil_form.specs.declared.value.Ty.{Ty}
use Rattle.dxil_form.specs.declared.value.Reg.{Reg}
use Rattle.dxil_form.specs.declared.value.Operand.{Operand}
use Rattle.dxil_form.specs.declared.value.Operand.TheVariants as operand
use Rattle.spv_form.specs.declared.module.Inst.{Inst}
use Rattle.spv_form.specs.declared.module.Module.{Module}
use Rattle.spirv_meaning.specs.Target.{Word, fixed}
use Rattle.spirv_code.specs.declared.key.BuiltIn.{BuiltIn}
use Rattle.spirv_code.specs.declared.key.Global.TheVariants as global
use Rattle.spirv_code.specs.declared.key.Slot.{Slot}
use Rattle.spirv_code.specs.Plans.{inst, result, kept}
use Rattle.spirv_code.specs.Reads.{Env, read_size, read_code, reg_code, two_code, three_code, store_code, keep_code}
use Rattle.line_runs.specs.Held.{Setting, Uses}
use Rattle.line_runs.proofs.Tests.{both_true}
use Rattle.frame_facts.proofs.Searches.{if_not}
use Rattle.module_form.specs.Form.{gather}
use Rattle.module_form.proofs.Gathered.{gather_append, apart_by}
use Rattle.act_form.specs.Acts.{Act, Loads, Stores, is_own, is_operation, act_of, acts_in}

-- what is declared: numbers have their values, inputs and variables of the function are the invocation's own, and the results of code from a place on are no variables
pub record Knows (s : Setting) (low : ℕ) : Type 0 where
  pub numbers : (n : ℕ) → Uses s (global.Number n) → fixed s.made (s.context.key (global.Number n)) ≡ Some (Word n)
  pub inputs : (b : BuiltIn) → Uses s (global.Input b) → is_own s.made (Some (s.context.key (global.Input b))) ≡ true
  pub locals : (slot : Slot) (id : ℕ) → s.context.slot slot ≡ Some id → is_own s.made (Some id) ≡ true
  pub results : (place : ℕ) → low ≤ place → is_own s.made (Some (result s.context place)) ≡ false

-- ---- opcodes

-- an opcode of no access, atomic or barrier
abbrev pub is_inward : ℕ → Bool
is_inward n = nat_lt n 61 || nat_lt 62 n && nat_lt n 224 || nat_lt 242 n

-- and of none of the operations
abbrev pub is_silent : ℕ → Bool
is_silent n = is_inward n && not (is_operation n)

-- an opcode that passes a test is none of the operations, where none of these does
pub no_operation : (test : ℕ → Bool) (n : ℕ) → test n ≡ true → test 135 ≡ false → test 137 ≡ false → test 138 ≡ false → test 204 ≡ false → test 205 ≡ false → is_operation n ≡ false
no_operation test n e a b c d f =
    ap (λ x. x || (nat_eq n 137 || (nat_eq n 138 || (nat_eq n 204 || nat_eq n 205)))) (apart_by test n 135 e a) ∙ ap (λ x. x || (nat_eq n 138 || (nat_eq n 204 || nat_eq n 205))) (apart_by test n 137 e b) ∙ ap (λ x. x || (nat_eq n 204 || nat_eq n 205)) (apart_by test n 138 e c) ∙ ap (λ x. x || nat_eq n 205) (apart_by test n 204 e d) ∙ apart_by test n 205 e f

pub silent_by : (n : ℕ) → is_inward n ≡ true → is_operation n ≡ false → is_silent n ≡ true
silent_by n e f = ap (λ x. x && not (is_operation n)) e ∙ ap not f

pub silent_none : (m : Module) (opcode : ℕ) (operands : List ℕ) → is_silent opcode ≡ true → act_of m opcode operands ≡ []
silent_none m opcode operands e =
    if_not (nat_eq opcode 61) (apart_by is_silent opcode 61 e refl) _ _ ∙ if_not (nat_eq opcode 62) (apart_by is_silent opcode 62 e refl) _ _ ∙ if_not (nat_eq opcode 230) (apart_by is_silent opcode 230 e refl) _ _ ∙ if_not _ (no_atomic opcode (both_true (is_inward opcode) (not (is_operation opcode)) e).0) _ _ ∙ if_not (nat_eq opcode 224) (apart_by is_silent opcode 224 e refl) _ _ ∙ if_not (nat_eq opcode 225) (apart_by is_silent opcode 225 e refl) _ _ ∙ if_not (is_operation opcode) (no_operation is_silent opcode e refl refl refl refl refl) _ _
  where
    no_atomic : (n : ℕ) → is_inward n ≡ true → (nat_eq n 229 || nat_le 234 n && nat_le n 242) ≡ false
    no_atomic n e = grind arith

-- ---- lists

abbrev pub acts : Setting → List Inst → List Act
acts s code = gather (acts_in s.made) code

pub joined : (s : Setting) (a b : List Inst) (x y : List Act) → acts s a ≡ x → acts s b ≡ y → acts s (a ++ b) ≡ x ++ y
joined s a b x y h k = gather_append (acts_in s.made) a b ∙ ap (λ xs. xs ++ acts s b) h ∙ ap (λ ys. x ++ ys) k

-- nothing is done in front
pub behind : (s : Setting) (a b : List Inst) (y : List Act) → acts s a ≡ [] → acts s b ≡ y → acts s (a ++ b) ≡ y
behind s a b y h k = joined s a b [] y h k

pub on_silent : (s : Setting) (opcode : ℕ) (operands : List ℕ) (rest : List Inst) → is_silent opcode ≡ true → acts s (inst opcode operands ∷ rest) ≡ acts s rest
on_silent s opcode operands rest e = ap (λ xs. xs ++ acts s rest) (silent_none s.made opcode operands e)

-- ---- variables of the invocation's own

-- of any type, to any id
pub on_load : (s : Setting) (variable : ℕ) (rest : List Inst) → is_own s.made (Some variable) ≡ true → acts s (inst 61 (0 ∷ 0 ∷ variable ∷ []) ∷ rest) ≡ acts s rest
on_load s variable rest h = ap (λ b. (if b then [] else Loads ∷ []) ++ acts s rest) h

-- of any id
pub on_store : (s : Setting) (variable : ℕ) (rest : List Inst) → is_own s.made (Some variable) ≡ true → acts s (inst 62 (variable ∷ 0 ∷ []) ∷ rest) ≡ acts s rest
on_store s variable rest h = ap (λ b. (if b then [] else Stores ∷ []) ++ acts s rest) h

reg_none : (s : Setting) (place : ℕ) (t : Ty) (env slot : Option ℕ) → ((id : ℕ) → slot ≡ Some id → is_own s.made (Some id) ≡ true) → acts s (reg_code s.context place t env slot) ≡ []
reg_none s place t (Some id) slot h = refl
reg_none s place t None (Some variable) h = on_load s variable [] (h variable refl)
reg_none s place t None None h = refl

stored_none : (s : Setting) (slot : Option ℕ) (id : ℕ) → ((v : ℕ) → slot ≡ Some v → is_own s.made (Some v) ≡ true) → acts s (store_code slot id) ≡ []
stored_none s None id h = refl
stored_none s (Some variable) id h = on_store s variable [] (h variable refl)

module _ (s : Setting) (low : ℕ) (knows : Knows s low) where
  pub read_none : (env : Env) (place : ℕ) (a : Operand) → acts s (read_code s.context env place a) ≡ []
  read_none env place (operand.Reg reg t) =
      reg_none s place t (env reg) (s.context.slot (kept reg t)) (knows.locals (kept reg t))
  read_none env place (operand.Int n) = refl
  read_none env place (operand.Bool b) = refl
  read_none env place (operand.Undef t) = refl

  pub two_none : (env : Env) (place : ℕ) (a b : Operand) → acts s (two_code s.context env place a b) ≡ []
  two_none env place a b =
      behind s (read_code s.context env place a) (read_code s.context env (place + read_size s.context env a) b) [] (read_none env place a) (read_none env (place + read_size s.context env a) b)

  pub three_none : (env : Env) (place : ℕ) (x a b : Operand) → acts s (three_code s.context env place x a b) ≡ []
  three_none env place x a b =
      behind s (read_code s.context env place x) (two_code s.context env (place + read_size s.context env x) a b) [] (read_none env place x) (two_none env (place + read_size s.context env x) a b)

  pub store_none : (slot : Slot) (id : ℕ) → acts s (store_code (s.context.slot slot) id) ≡ []
  store_none slot id = stored_none s (s.context.slot slot) id (knows.locals slot)

  pub keep_none : (reg : Reg) (t : Ty) (id : ℕ) → acts s (keep_code s.context reg t id) ≡ []
  keep_none reg t id = store_none (kept reg t) id
