-- The code of a read gives the value of the operand, where the program's operand has one, and else some value of its type.
use Rattle.std.proofs.Common.{◌≡◌, ℕ, ◌+◌, Bool, false, List, [], ◌∷◌, length, length-append, Option, Some, None, refl, sym, ap, ◌∙◌, subst, arith}
use Rattle.dxil_form.specs.declared.value.Ty.{Ty}
use Rattle.dxil_form.specs.declared.value.Ty.TheVariants as ty
use Rattle.dxil_form.specs.declared.value.Reg.{Reg}
use Rattle.dxil_form.specs.declared.value.Operand.{Operand}
use Rattle.dxil_form.specs.declared.value.Operand.TheVariants as operand
use Rattle.dxil_form.specs.Registers.{Spot, Sets}
use Rattle.spv_form.specs.declared.module.Inst.{Inst}
use Rattle.dxil_meaning.specs.Launches.{Quiet}
use Rattle.dxil_meaning.specs.Steps.{Leads}
use Rattle.dxil_meaning.proofs.Simulation.{leads_none, leads_on}
use Rattle.dxil_meaning.specs.Source.{Registers}
use Rattle.dxil_meaning.specs.Source as source
use Rattle.spirv_meaning.specs.Target as spv
use Rattle.spirv_meaning.specs.Target.{Value, Word, Truth, Pointer, State, Loads, act, gives, is_class, value_of}
use Rattle.spirv_code.specs.declared.key.Global.TheVariants as global
use Rattle.spirv_code.specs.Plans.{Context, inst, result, number, type_id, zero_id, kept}
use Rattle.spirv_code.specs.Reads.{Env, reg_size, reg_code, reg_id, read_size, read_code, read_id, two_size, two_code, second_id, three_size, three_code}
use Rattle.line_runs.specs.Held.{Setting, Held, Has, IsOf, machine, as_value}
use Rattle.line_runs.specs.Declared.{Declares, IsVariable}
use Rattle.line_runs.specs.Ready.{Ready}
use Rattle.line_runs.proofs.Tests.{none_some, some_inj, if_true}
use Rattle.line_runs.proofs.Pieces.{leads_one, has_front, has_back}
use Rattle.line_runs.proofs.Results.{gave, Keeps, fixed_here, result_at, gave_here, gave_keeps, gave_held}

-- an operand that was read: a value of its type is there, and it is the program's where that has one
pub record Reading (s : Setting) (i : ℕ) (env : Env) (place : ℕ) (regs : Registers) (t : State) (a : Operand) (type : Ty) (n id : ℕ) : Type 0 where
  pub t' : State
  pub leads : Leads (machine s) i n t [] t'
  pub held : Held s env (place + n) regs t'
  pub keeps : Keeps s t t'
  pub locals : (v : ℕ) → t'.locals v ≡ t.locals v
  pub worth : Value
  pub is : value_of s.made t' id ≡ Some worth
  pub type_is : IsOf type worth
  pub same : (x : source.Value) → source.value_of regs a ≡ Some x → worth ≡ as_value x

read_at_once : (s : Setting) (i : ℕ) (env : Env) (place : ℕ) (regs : Registers) (t : State) (a : Operand) (type : Ty) (id : ℕ) (w : Value) → Held s env place regs t → value_of s.made t id ≡ Some w → IsOf type w → ((x : source.Value) → source.value_of regs a ≡ Some x → w ≡ as_value x) → Reading s i env place regs t a type 0 id
read_at_once s i env place regs t a type id w h is of same =
    let e : place ≡ place + 0 = omega arith in
    record {
      t' = t;
      leads = leads_none (machine s) i t;
      held = subst (λ n. Held s env n regs t) e h;
      keeps = λ id x e. e;
      locals = λ v. refl;
      worth = w;
      is = is;
      type_is = of;
      same = same;
    }

pub load_gives : (s : Setting) (i type place : ℕ) (t : State) (variable : ℕ) (w : Value) → IsVariable s variable 7 → t.locals variable ≡ Some w → act s.made s.bindings s.launch i Loads (type ∷ result s.context place ∷ variable ∷ []) t ≡ Quiet [] (gave s place w t)
load_gives s i type place t variable w v local =
    ap (λ o. spv.load_step s.made s.bindings s.launch i type (result s.context place) o t) (fixed_here s t variable (Pointer variable []) v.pointer) ∙ if_true (is_class s.made variable 7) v.class_is _ _ ∙ ap (λ o. gives (result s.context place) o t) local

-- the code of a load of a variable of the function
abbrev load_code : Setting → ℕ → Ty → ℕ → List Inst
load_code s place type variable =
    inst 61 (type_id s.context type ∷ result s.context place ∷ variable ∷ []) ∷ []

read_variable : (s : Setting) → Declares s → (i : ℕ) (env : Env) (place : ℕ) (regs : Registers) (t : State) (reg : Reg) (type : Ty) (variable : ℕ) → s.context.slot (kept reg type) ≡ Some variable → Held s env place regs t → Has s.made place (load_code s place type variable) → Reading s i env place regs t (operand.Reg reg type) type 1 (result s.context place)
read_variable s d i env place regs t reg type variable slot h has =
    let k = h.stored reg type variable slot in
    let v = (d.locals (kept reg type) variable slot).variable in
    let does = load_gives s i (type_id s.context type) place t variable k.0 v k.1 in
    record {
      t' = gave s place k.0 t;
      leads = leads_one s i t (gave s place k.0 t) place 61 _ Loads h.at has.0 refl does;
      held = gave_held s env place regs t k.0 h;
      keeps = gave_keeps s place k.0 t (h.fresh place (omega arith));
      locals = λ v. refl;
      worth = k.0;
      is = gave_here s d place (result_at s place 61 _ Loads has.0 refl refl) k.0 t;
      type_is = k.2;
      same = k.3;
    }

int_bool : ty.Int ≡ ty.Bool → ⊥
int_bool e = absurd (cc)

number_same : (n : ℕ) (x : source.Value) → Some (source.Number n) ≡ Some x → Word n ≡ as_value x
number_same n x e = ap as_value (some_inj e)

truth_same : (b : Bool) (x : source.Value) → Some (source.Truth b) ≡ Some x → Truth b ≡ as_value x
truth_same b x e = ap as_value (some_inj e)

pub read : (s : Setting) → Declares s → (i : ℕ) (env : Env) (place : ℕ) (regs : Registers) (t : State) (a : Operand) (type : Ty) → Ready s env a type → Held s env place regs t → Has s.made place (read_code s.context env place a) → Reading s i env place regs t a type (read_size s.context env a) (read_id s.context env place a)
read s d i env place regs t (operand.Int n) ty.Int ready h has =
    read_at_once s i env place regs t (operand.Int n) ty.Int (number s.context n) (Word n) h (fixed_here s t (number s.context n) (Word n) (d.numbers n ready.needs)) tt (number_same n)
read s d i env place regs t (operand.Int n) ty.Bool ready h has = absurd (int_bool ready.typed)
read s d i env place regs t (operand.Bool b) ty.Bool ready h has =
    read_at_once s i env place regs t (operand.Bool b) ty.Bool (s.context.key (global.Truth b)) (Truth b) h (fixed_here s t (s.context.key (global.Truth b)) (Truth b) (d.truths b ready.needs)) tt (truth_same b)
read s d i env place regs t (operand.Bool b) ty.Int ready h has = absurd (int_bool (sym ready.typed))
read s d i env place regs t (operand.Undef ty.Int) ty.Int ready h has =
    read_at_once s i env place regs t (operand.Undef ty.Int) ty.Int (zero_id s.context ty.Int) (Word 0) h (fixed_here s t (zero_id s.context ty.Int) (Word 0) (d.numbers 0 ready.needs)) tt (λ x e. absurd (none_some e))
read s d i env place regs t (operand.Undef ty.Bool) ty.Bool ready h has =
    read_at_once s i env place regs t (operand.Undef ty.Bool) ty.Bool (zero_id s.context ty.Bool) (Truth false) h (fixed_here s t (zero_id s.context ty.Bool) (Truth false) (d.truths false ready.needs)) tt (λ x e. absurd (none_some e))
read s d i env place regs t (operand.Undef ty.Int) ty.Bool ready h has = absurd (int_bool ready.typed)
read s d i env place regs t (operand.Undef ty.Bool) ty.Int ready h has = absurd (int_bool (sym ready.typed))
read s d i env place regs t (operand.Reg reg own) type ready h has =
    let at_own = by_env (env reg) (s.context.slot (kept reg own)) refl refl has in
    subst (λ u. Reading s i env place regs t (operand.Reg reg own) u (read_size s.context env (operand.Reg reg own)) (read_id s.context env place (operand.Reg reg own))) ready.typed.0 at_own
  where
    set : (b : ℕ) × (spot : Spot) × Sets s.program b spot reg own
    set = ready.typed.1

    by_env : (o p : Option ℕ) → env reg ≡ o → s.context.slot (kept reg own) ≡ p → Has s.made place (reg_code s.context place own o p) → Reading s i env place regs t (operand.Reg reg own) own (reg_size o p) (reg_id s.context place own o p)
    by_env (Some id) p e slot has =
        let x = h.known reg id e in
        read_at_once s i env place regs t (operand.Reg reg own) own id x.0 h x.1 (x.2 set.0 set.1 own set.2) x.3
    by_env None (Some variable) e slot has = read_variable s d i env place regs t reg own variable slot h has
    by_env None None e slot has = absurd (ready.can e slot)

pub read_length : (c : Context) (env : Env) (place : ℕ) (a : Operand) → length (read_code c env place a) ≡ read_size c env a
read_length c env place (operand.Int n) = refl
read_length c env place (operand.Bool b) = refl
read_length c env place (operand.Undef type) = refl
read_length c env place (operand.Reg reg type) = by_env (env reg) (c.slot (kept reg type))
  where
    by_env : (o p : Option ℕ) → length (reg_code c place type o p) ≡ reg_size o p
    by_env (Some id) p = refl
    by_env None (Some variable) = refl
    by_env None None = refl

-- ---- two and three operands, one read after the other

pub record Two (s : Setting) (i : ℕ) (env : Env) (place : ℕ) (regs : Registers) (t : State) (a b : Operand) (ta tb : Ty) : Type 0 where
  pub t' : State
  pub leads : Leads (machine s) i (two_size s.context env a b) t [] t'
  pub held : Held s env (place + two_size s.context env a b) regs t'
  pub keeps : Keeps s t t'
  pub left : Value
  pub left_is : value_of s.made t' (read_id s.context env place a) ≡ Some left
  pub left_type : IsOf ta left
  pub left_same : (x : source.Value) → source.value_of regs a ≡ Some x → left ≡ as_value x
  pub right : Value
  pub right_is : value_of s.made t' (second_id s.context env place a b) ≡ Some right
  pub right_type : IsOf tb right
  pub right_same : (x : source.Value) → source.value_of regs b ≡ Some x → right ≡ as_value x

pub read_two : (s : Setting) → Declares s → (i : ℕ) (env : Env) (place : ℕ) (regs : Registers) (t : State) (a b : Operand) (ta tb : Ty) → Ready s env a ta → Ready s env b tb → Held s env place regs t → Has s.made place (two_code s.context env place a b) → Two s i env place regs t a b ta tb
read_two s d i env place regs t a b ta tb ra rb h has =
    let na : ℕ = read_size s.context env a in
    let nb : ℕ = read_size s.context env b in
    let first = read s d i env place regs t a ta ra h (has_front s.made place (read_code s.context env place a) (read_code s.context env (place + na) b) has) in
    let behind = subst (λ n. Has s.made (place + n) (read_code s.context env (place + na) b)) (read_length s.context env place a) (has_back s.made place (read_code s.context env place a) (read_code s.context env (place + na) b) has) in
    let second = read s d i env (place + na) regs first.t' b tb rb first.held behind in
    let e : place + na + nb ≡ place + (na + nb) = omega arith in
    record {
      t' = second.t';
      leads = leads_on (machine s) i na nb t first.t' second.t' [] [] first.leads second.leads;
      held = subst (λ n. Held s env n regs second.t') e second.held;
      keeps = λ id x is. second.keeps id x (first.keeps id x is);
      left = first.worth;
      left_is = second.keeps (read_id s.context env place a) first.worth first.is;
      left_type = first.type_is;
      left_same = first.same;
      right = second.worth;
      right_is = second.is;
      right_type = second.type_is;
      right_same = second.same;
    }

pub two_length : (c : Context) (env : Env) (place : ℕ) (a b : Operand) → length (two_code c env place a b) ≡ two_size c env a b
two_length c env place a b =
    length-append (read_code c env place a) (read_code c env (place + read_size c env a) b) ∙ ap (λ n. n + length (read_code c env (place + read_size c env a) b)) (read_length c env place a) ∙ ap (λ n. read_size c env a + n) (read_length c env (place + read_size c env a) b)

pub record Three (s : Setting) (i : ℕ) (env : Env) (place : ℕ) (regs : Registers) (t : State) (x a b : Operand) (tx ta tb : Ty) : Type 0 where
  pub t' : State
  pub leads : Leads (machine s) i (three_size s.context env x a b) t [] t'
  pub held : Held s env (place + three_size s.context env x a b) regs t'
  pub first : Value
  pub first_is : value_of s.made t' (read_id s.context env place x) ≡ Some first
  pub first_type : IsOf tx first
  pub first_same : (v : source.Value) → source.value_of regs x ≡ Some v → first ≡ as_value v
  pub left : Value
  pub left_is : value_of s.made t' (read_id s.context env (place + read_size s.context env x) a) ≡ Some left
  pub left_type : IsOf ta left
  pub left_same : (v : source.Value) → source.value_of regs a ≡ Some v → left ≡ as_value v
  pub right : Value
  pub right_is : value_of s.made t' (second_id s.context env (place + read_size s.context env x) a b) ≡ Some right
  pub right_type : IsOf tb right
  pub right_same : (v : source.Value) → source.value_of regs b ≡ Some v → right ≡ as_value v

pub read_three : (s : Setting) → Declares s → (i : ℕ) (env : Env) (place : ℕ) (regs : Registers) (t : State) (x a b : Operand) (tx ta tb : Ty) → Ready s env x tx → Ready s env a ta → Ready s env b tb → Held s env place regs t → Has s.made place (three_code s.context env place x a b) → Three s i env place regs t x a b tx ta tb
read_three s d i env place regs t x a b tx ta tb rx ra rb h has =
    let nx : ℕ = read_size s.context env x in
    let n : ℕ = two_size s.context env a b in
    let one = read s d i env place regs t x tx rx h (has_front s.made place (read_code s.context env place x) (two_code s.context env (place + nx) a b) has) in
    let behind = subst (λ n. Has s.made (place + n) (two_code s.context env (place + nx) a b)) (read_length s.context env place x) (has_back s.made place (read_code s.context env place x) (two_code s.context env (place + nx) a b) has) in
    let two = read_two s d i env (place + nx) regs one.t' a b ta tb ra rb one.held behind in
    let e : place + nx + n ≡ place + (nx + n) = omega arith in
    record {
      t' = two.t';
      leads = leads_on (machine s) i nx n t one.t' two.t' [] [] one.leads two.leads;
      held = subst (λ n. Held s env n regs two.t') e two.held;
      first = one.worth;
      first_is = two.keeps (read_id s.context env place x) one.worth one.is;
      first_type = one.type_is;
      first_same = one.same;
      left = two.left;
      left_is = two.left_is;
      left_type = two.left_type;
      left_same = two.left_same;
      right = two.right;
      right_is = two.right_is;
      right_type = two.right_type;
      right_same = two.right_same;
    }

pub three_length : (c : Context) (env : Env) (place : ℕ) (x a b : Operand) → length (three_code c env place x a b) ≡ three_size c env x a b
three_length c env place x a b =
    length-append (read_code c env place x) (two_code c env (place + read_size c env x) a b) ∙ ap (λ n. n + length (two_code c env (place + read_size c env x) a b)) (read_length c env place x) ∙ ap (λ n. read_size c env x + n) (two_length c env (place + read_size c env x) a b)
