-- Lines of one result: the code of each gives what the line gives.
use Rattle.std.proofs.Common.{◌≡◌, ℕ, ◌+◌, Bool, true, false, List, [], ◌∷◌, ◌++◌, length, length-append, Option, Some, refl, ap, ◌∙◌, subst, arith}
use Rattle.std.specs.Prelude.{if◌then◌else◌}
use Rattle.dxil_form.specs.declared.value.Ty.{Ty}
use Rattle.dxil_form.specs.declared.value.Ty.TheVariants as ty
use Rattle.dxil_form.specs.declared.value.Reg.{Reg}
use Rattle.dxil_form.specs.declared.value.Operand.{Operand}
use Rattle.dxil_form.specs.declared.instr.OneOp.{OneOp}
use Rattle.spv_form.specs.declared.module.Inst.{Inst}
use Rattle.dxil_meaning.specs.Launches.{Quiet}
use Rattle.dxil_meaning.specs.Steps.{Leads}
use Rattle.dxil_meaning.proofs.Simulation.{leads_on}
use Rattle.dxil_meaning.specs.Source.{Registers, bin_value, cmp_value, one_op, number_of}
use Rattle.dxil_meaning.specs.Source as source
use Rattle.spirv_meaning.specs.Target.{Value, Word, Truth, Vector, Pointer, State, Kind, Two_operands, One_operand, Chooses, act, gives, kind_of, selected, value_of}
use Rattle.spirv_code.specs.Plans.{inst, result, type_id}
use Rattle.spirv_code.specs.Reads.{Env, with_id, read_size, read_code, read_id, two_size, two_code, second_id, three_size, three_code, keep_code}
use Rattle.spirv_code.specs.Lines.{value_code, bin_code, select_code, one_code, one_opcode, copy_code}
use Rattle.line_runs.specs.Held.{Setting, Held, Has, IsOf, machine, as_value}
use Rattle.line_runs.specs.Declared.{Declares, gives_result}
use Rattle.line_runs.proofs.Tests.{with_at}
use Rattle.line_runs.proofs.Pieces.{leads_one, has_front, has_back}
use Rattle.line_runs.proofs.Results.{gave, result_at, gave_here, gave_held}
use Rattle.line_runs.specs.Ready.{Ready, IsSet}
use Rattle.line_runs.specs.Done.{Done}
use Rattle.line_runs.proofs.Keeping.{keep}
use Rattle.line_runs.proofs.Reading.{read, read_length, read_two, two_length, read_three, three_length}
use Rattle.line_runs.proofs.Values.{Bin_of, one_does}

-- code in two pieces, of which the first leads to t1
pub joined : (s : Setting) (i : ℕ) (front back : List Inst) (n : ℕ) (env : Env) (place : ℕ) (regs : Registers) (t t1 : State) → length front ≡ n → Leads (machine s) i n t [] t1 → Done s i back env (place + n) regs t1 → Done s i (front ++ back) env place regs t
joined s i front back n env place regs t t1 is first rest =
    let whole : n + length back ≡ length (front ++ back) = omega (arith, is, length-append front back) in
    let end : place + n + length back ≡ place + length (front ++ back) = omega (arith, is, length-append front back) in
    record {
      t' = rest.t';
      leads = subst (λ k. Leads (machine s) i k t [] rest.t') whole (leads_on (machine s) i n (length back) t t1 rest.t' [] [] first rest.leads);
      held = subst (λ k. Held s env k regs rest.t') end rest.held;
    }

-- an instruction whose result a register takes
pub value_line : (s : Setting) → Declares s → (i : ℕ) (env : Env) (place : ℕ) (regs : Registers) (t : State) (to : Reg) (type : Ty) (opcode : ℕ) (operands : List ℕ) (kind : Kind) (v : source.Value) → Held s env place regs t → IsSet s to type → IsOf type (as_value v) → kind_of opcode ≡ Some kind → gives_result kind ≡ true → act s.made s.bindings s.launch i kind (type_id s.context type ∷ result s.context place ∷ operands) t ≡ Quiet [] (gave s place (as_value v) t) → Has s.made place (value_code s.context place to type opcode operands) → Done s i (value_code s.context place to type opcode operands) (with_id to (result s.context place) env) place (with_at to (Some v) regs) t
value_line s d i env place regs t to type opcode operands kind v h one of is gives_it does has =
    let first = leads_one s i t (gave s place (as_value v) t) place opcode (type_id s.context type ∷ result s.context place ∷ operands) kind h.at has.0 is does in
    let rest = (keep s d i env (place + 1) regs (gave s place (as_value v) t) to type v (result s.context place) (gave_held s env place regs t (as_value v) h) one of (gave_here s d place (result_at s place opcode _ kind has.0 is gives_it) (as_value v) t) has.1).done in
    joined s i (inst opcode (type_id s.context type ∷ result s.context place ∷ operands) ∷ []) (keep_code s.context to type (result s.context place)) 1 (with_id to (result s.context place) env) place (with_at to (Some v) regs) t (gave s place (as_value v) t) refl first rest

pub two_gives : (s : Setting) (place a b : ℕ) (t : State) (wa wb w : Value) (f : Option Value → Option Value → Option Value) → value_of s.made t a ≡ Some wa → value_of s.made t b ≡ Some wb → f (Some wa) (Some wb) ≡ Some w → gives (result s.context place) (f (value_of s.made t a) (value_of s.made t b)) t ≡ Quiet [] (gave s place w t)
two_gives s place a b t wa wb w f isa isb is =
    ap (λ o. gives (result s.context place) (f o (value_of s.made t b)) t) isa ∙ ap (λ o. gives (result s.context place) (f (Some wa) o) t) isb ∙ ap (λ o. gives (result s.context place) o t) is

-- an operation or a compare on two operands
pub bin_line : (s : Setting) → Declares s → (i : ℕ) (env : Env) (place : ℕ) (regs : Registers) (t : State) (to : Reg) (opcode : ℕ) (type of : Ty) (a b : Operand) (v : source.Value) → Ready s env a type → Ready s env b type → IsSet s to of → Bin_of opcode type of (source.value_of regs a) (source.value_of regs b) v → Held s env place regs t → Has s.made place (bin_code s.context env place to of opcode a b) → Done s i (bin_code s.context env place to of opcode a b) (with_id to (result s.context (place + two_size s.context env a b)) env) place (with_at to (Some v) regs) t
bin_line s d i env place regs t to opcode type of a b v ra rb one bin h has =
    let n : ℕ = two_size s.context env a b in
    let front : List Inst = two_code s.context env place a b in
    let ids : List ℕ = read_id s.context env place a ∷ second_id s.context env place a b ∷ [] in
    let back : List Inst = value_code s.context (place + n) to of opcode ids in
    let two = read_two s d i env place regs t a b type type ra rb h (has_front s.made place front back has) in
    let behind = subst (λ k. Has s.made (place + k) back) (two_length s.context env place a b) (has_back s.made place front back has) in
    let wa = two.left_is ∙ ap Some (two.left_same bin.x bin.left) in
    let wb = two.right_is ∙ ap Some (two.right_same bin.y bin.right) in
    let does = two_gives s (place + n) (read_id s.context env place a) (second_id s.context env place a b) two.t' (as_value bin.x) (as_value bin.y) (as_value v) bin.does.0 wa wb bin.does.2 in
    let rest = value_line s d i env (place + n) regs two.t' to of opcode ids (Two_operands bin.does.0) v two.held one bin.of bin.does.1 refl does behind in
    joined s i front back n (with_id to (result s.context (place + n)) env) place (with_at to (Some v) regs) t two.t' (two_length s.context env place a b) two.leads rest

-- a choice of two values of one type
pub select_gives : (type : Ty) (c : Bool) (a b : Value) → IsOf type a → IsOf type b → selected (Some (Truth c)) (Some a) (Some b) ≡ Some (if c then a else b)
select_gives ty.Int true (Word x) (Word y) oa ob = refl
select_gives ty.Int false (Word x) (Word y) oa ob = refl
select_gives ty.Bool true (Truth x) (Truth y) oa ob = refl
select_gives ty.Bool false (Truth x) (Truth y) oa ob = refl
select_gives ty.Int c (Truth x) b oa ob = absurd oa
select_gives ty.Int c (Word x) (Truth y) oa ob = absurd ob
select_gives ty.Bool c (Word x) b oa ob = absurd oa
select_gives ty.Bool c (Truth x) (Word y) oa ob = absurd ob
select_gives ty.Int c (Vector x) b oa ob = absurd oa
select_gives ty.Int c (Pointer x y) b oa ob = absurd oa
select_gives ty.Int c (Word x) (Vector y) oa ob = absurd ob
select_gives ty.Int c (Word x) (Pointer y z) oa ob = absurd ob
select_gives ty.Bool c (Vector x) b oa ob = absurd oa
select_gives ty.Bool c (Pointer x y) b oa ob = absurd oa
select_gives ty.Bool c (Truth x) (Vector y) oa ob = absurd ob
select_gives ty.Bool c (Truth x) (Pointer y z) oa ob = absurd ob

-- a copy: the value of its operand, which is kept
pub copy_line : (s : Setting) → Declares s → (i : ℕ) (env : Env) (place : ℕ) (regs : Registers) (t : State) (to : Reg) (type : Ty) (a : Operand) (v : source.Value) → Ready s env a type → IsSet s to type → source.value_of regs a ≡ Some v → Held s env place regs t → Has s.made place (copy_code s.context env place to type a) → Done s i (copy_code s.context env place to type a) (with_id to (read_id s.context env place a) env) place (with_at to (Some v) regs) t
copy_line s d i env place regs t to type a v ra one is h has =
    let n : ℕ = read_size s.context env a in
    let id : ℕ = read_id s.context env place a in
    let front : List Inst = read_code s.context env place a in
    let back : List Inst = keep_code s.context to type id in
    let first = read s d i env place regs t a type ra h (has_front s.made place front back has) in
    let behind = subst (λ k. Has s.made (place + k) back) (read_length s.context env place a) (has_back s.made place front back has) in
    let worth : first.worth ≡ as_value v = first.same v is in
    let rest = (keep s d i env (place + n) regs first.t' to type v id first.held one (subst (λ w. IsOf type w) worth first.type_is) (first.is ∙ ap Some worth) behind).done in
    joined s i front back n (with_id to id env) place (with_at to (Some v) regs) t first.t' (read_length s.context env place a) first.leads rest

-- an operation on one number
pub one_line : (s : Setting) → Declares s → (i : ℕ) (env : Env) (place : ℕ) (regs : Registers) (t : State) (to : Reg) (op : OneOp) (a : Operand) (x : ℕ) → Ready s env a ty.Int → IsSet s to ty.Int → source.value_of regs a ≡ Some (source.Number x) → Held s env place regs t → Has s.made place (one_code s.context env place to op a) → Done s i (one_code s.context env place to op a) (with_id to (result s.context (place + read_size s.context env a)) env) place (with_at to (Some (source.Number (one_op op x))) regs) t
one_line s d i env place regs t to op a x ra one is h has =
    let n : ℕ = read_size s.context env a in
    let id : ℕ = read_id s.context env place a in
    let front : List Inst = read_code s.context env place a in
    let back : List Inst = value_code s.context (place + n) to ty.Int (one_opcode op) (id ∷ []) in
    let first = read s d i env place regs t a ty.Int ra h (has_front s.made place front back has) in
    let behind = subst (λ k. Has s.made (place + k) back) (read_length s.context env place a) (has_back s.made place front back has) in
    let at_id = first.is ∙ ap Some (first.same (source.Number x) is) in
    let f = one_does op x in
    let does = ap (λ o. gives (result s.context (place + n)) (f.0 o) first.t') at_id ∙ ap (λ o. gives (result s.context (place + n)) o first.t') f.2 in
    let rest = value_line s d i env (place + n) regs first.t' to ty.Int (one_opcode op) (id ∷ []) (One_operand f.0) (source.Number (one_op op x)) first.held one tt f.1 refl does behind in
    joined s i front back n (with_id to (result s.context (place + n)) env) place (with_at to (Some (source.Number (one_op op x))) regs) t first.t' (read_length s.context env place a) first.leads rest

-- a choice between two operands
pub select_line : (s : Setting) → Declares s → (i : ℕ) (env : Env) (place : ℕ) (regs : Registers) (t : State) (to : Reg) (type : Ty) (x a b : Operand) (c : Bool) (v : source.Value) → Ready s env x ty.Bool → Ready s env a type → Ready s env b type → IsSet s to type → source.value_of regs x ≡ Some (source.Truth c) → (if c then source.value_of regs a else source.value_of regs b) ≡ Some v → Held s env place regs t → Has s.made place (select_code s.context env place to type x a b) → Done s i (select_code s.context env place to type x a b) (with_id to (result s.context (place + three_size s.context env x a b)) env) place (with_at to (Some v) regs) t
select_line s d i env place regs t to type x a b c v rx ra rb one is_c is_v h has =
    let n : ℕ = three_size s.context env x a b in
    let place1 : ℕ = place + read_size s.context env x in
    let ids : List ℕ = read_id s.context env place x ∷ read_id s.context env place1 a ∷ second_id s.context env place1 a b ∷ [] in
    let front : List Inst = three_code s.context env place x a b in
    let back : List Inst = value_code s.context (place + n) to type 169 ids in
    let three = read_three s d i env place regs t x a b ty.Bool type type rx ra rb h (has_front s.made place front back has) in
    let behind = subst (λ k. Has s.made (place + k) back) (three_length s.context env place x a b) (has_back s.made place front back has) in
    let chosen : (if c then three.left else three.right) ≡ as_value v = which c three.left three.right three.left_same three.right_same is_v in
    let of : IsOf type (as_value v) = subst (λ w. IsOf type w) chosen (either c three.left three.right three.left_type three.right_type) in
    let gives_it : selected (value_of s.made three.t' (read_id s.context env place x)) (value_of s.made three.t' (read_id s.context env place1 a)) (value_of s.made three.t' (second_id s.context env place1 a b)) ≡ Some (as_value v) = ap (λ o. selected o (value_of s.made three.t' (read_id s.context env place1 a)) (value_of s.made three.t' (second_id s.context env place1 a b))) (three.first_is ∙ ap Some (three.first_same (source.Truth c) is_c)) ∙ ap (λ o. selected (Some (Truth c)) o (value_of s.made three.t' (second_id s.context env place1 a b))) three.left_is ∙ ap (λ o. selected (Some (Truth c)) (Some three.left) o) three.right_is ∙ select_gives type c three.left three.right three.left_type three.right_type ∙ ap Some chosen in
    let does = ap (λ o. gives (result s.context (place + n)) o three.t') gives_it in
    let rest = value_line s d i env (place + n) regs three.t' to type 169 ids Chooses v three.held one of refl refl does behind in
    joined s i front back n (with_id to (result s.context (place + n)) env) place (with_at to (Some v) regs) t three.t' (three_length s.context env place x a b) three.leads rest
  where
    either : (c : Bool) (l r : Value) → IsOf type l → IsOf type r → IsOf type (if c then l else r)
    either true l r ol or = ol
    either false l r ol or = or

    which : (c : Bool) (l r : Value) → ((y : source.Value) → source.value_of regs a ≡ Some y → l ≡ as_value y) → ((y : source.Value) → source.value_of regs b ≡ Some y → r ≡ as_value y) → (if c then source.value_of regs a else source.value_of regs b) ≡ Some v → (if c then l else r) ≡ as_value v
    which true l r sl sr e = sl v e
    which false l r sl sr e = sr v e
