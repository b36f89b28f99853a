-- Lines of which the code computes in more than one step, and those without operands.
use Rattle.std.proofs.Common.{◌≡◌, ℕ, zero, suc, ◌+◌, ◌*◌, ◌/◌, ◌%◌, ◌≤◌, ◌<◌, Bool, true, false, List, [], ◌∷◌, ◌++◌, Option, Some, None, refl, sym, ap, ◌∙◌, subst, arith}
use Rattle.std.specs.Prelude.{nat_eq, nat_lt, not, option_map, option_and_then, if◌then◌else◌, slice_get, slice_index, bit_and, ◌&&◌, max, min}
use Rattle.std.proofs.lemmas.Nat.{and_mask}
use Rattle.std.proofs.lemmas.Bool.Decides.{nat_tests}
use Rattle.dxil_form.specs.declared.value.Ty.TheVariants as ty
use Rattle.dxil_form.specs.declared.value.Reg.{Reg}
use Rattle.dxil_form.specs.declared.value.Operand.{Operand}
use Rattle.dxil_form.specs.declared.instr.CastOp.{CastOp}
use Rattle.dxil_form.specs.declared.instr.CastOp.TheVariants as cast
use Rattle.dxil_form.specs.declared.instr.TwoOp.{TwoOp}
use Rattle.dxil_form.specs.declared.instr.TwoOp.TheVariants as two
use Rattle.dxil_form.specs.declared.instr.IdOp.{IdOp}
use Rattle.dxil_form.specs.declared.instr.IdOp.TheVariants as thread
use Rattle.dxil_form.specs.declared.program.Kind.{Kind}
use Rattle.dxil_form.specs.declared.program.Kind.TheVariants as kind
use Rattle.dxil_form.specs.declared.program.Resource.{Resource}
use Rattle.dxil_form.specs.Registers.{cast_to, cast_from}
use Rattle.dxil_form.specs.Sound.{PartFits}
use Rattle.spv_form.specs.declared.module.Inst.{Inst}
use Rattle.dxil_meaning.specs.Arithmetic.{word_add, word_mul, signed_lt}
use Rattle.dxil_meaning.specs.Launches.{Quiet}
use Rattle.dxil_meaning.specs.Steps.{Leads}
use Rattle.dxil_meaning.specs.Source.{Registers, Launch, coordinate, product, id_of, two_op}
use Rattle.dxil_meaning.specs.Source as source
use Rattle.spirv_meaning.specs.Target as spv
use Rattle.spirv_meaning.specs.Target.{Value, Word, Truth, Vector, Pointer, State, Loads, Lengths, Extracts, Chooses, Two_operands, act, gives, kind_of, value_of, is_class, storage, local_size, lookup, builtin_table, component, input_value, three, extracted, length_of, buffer_of, over_vectors}
use Rattle.spirv_meaning.specs.Names.{is_some_at}
use Rattle.spirv_code.specs.declared.key.BuiltIn.{BuiltIn}
use Rattle.spirv_code.specs.declared.key.BuiltIn.TheVariants as builtin
use Rattle.spirv_code.specs.declared.key.Sort.TheVariants as sort
use Rattle.spirv_code.specs.declared.key.Global.TheVariants as global
use Rattle.spirv_code.specs.Keys.{built_in_number}
use Rattle.spirv_code.specs.Plans.{inst, result, number, type_id, int_id, bool_id}
use Rattle.spirv_code.specs.Reads.{Env, with_id, read_size, read_code, read_id, two_size, two_code, second_id, three_size, three_code}
use Rattle.spirv_code.specs.Accesses.{int_inst, bool_inst}
use Rattle.spirv_code.specs.Lines.{value_code, cast_before, cast_tail, cast_code, two_opcode, extreme_code, mad_code, built_in_of, component_code, id_code, id_before}
use Rattle.line_runs.specs.Held.{Setting, Held, Has, Uses, IsOf, machine, as_value}
use Rattle.line_runs.specs.Declared.{Declares, IsBuffer, has_rows, buffer_class}
use Rattle.line_runs.proofs.Tests.{none_some, some_inj, true_false, if_true, if_false, nat_eq-eq, with_at}
use Rattle.line_runs.proofs.Pieces.{leads_one, has_front, has_back}
use Rattle.line_runs.proofs.Results.{gave, fixed_here, result_at, gave_here, gave_keeps, gave_held}
use Rattle.line_runs.specs.Ready.{Ready, IsSet, CastNeeds}
use Rattle.line_runs.specs.Done.{Done}
use Rattle.line_runs.proofs.Reading.{read, read_length, read_two, two_length, read_three, three_length}
use Rattle.line_runs.proofs.Lines.{joined, value_line, two_gives}

-- a result that no register takes stands before the rest of the code
behind_one : (s : Setting) → Declares s → (i : ℕ) (env env' : Env) (place : ℕ) (regs regs' : Registers) (t : State) (opcode : ℕ) (operands : List ℕ) (w : Value) (back : List Inst) → Held s env place regs t → Leads (machine s) i 1 t [] (gave s place w t) → Done s i back env' (place + 1) regs' (gave s place w t) → Done s i (inst opcode operands ∷ back) env' place regs' t
behind_one s d i env env' place regs regs' t opcode operands w back h first rest =
    joined s i (inst opcode operands ∷ []) back 1 env' place regs' t (gave s place w t) refl first rest

-- an instruction on two words
pub two_words : (s : Setting) (i place opcode type a b : ℕ) (t : State) (wa wb w : Value) (f : Option Value → Option Value → Option Value) → t.at ≡ place → slice_get s.made.insts place ≡ Some (inst opcode (type ∷ result s.context place ∷ a ∷ b ∷ [])) → kind_of opcode ≡ Some (Two_operands f) → value_of s.made t a ≡ Some wa → value_of s.made t b ≡ Some wb → f (Some wa) (Some wb) ≡ Some w → Leads (machine s) i 1 t [] (gave s place w t)
two_words s i place opcode type a b t wa wb w f at here is isa isb gives_it =
    leads_one s i t (gave s place w t) place opcode (type ∷ result s.context place ∷ a ∷ b ∷ []) (Two_operands f) at here is (two_gives s place a b t wa wb w f isa isb gives_it)

-- a choice between two numbers
choice_gives : (s : Setting) (place x a b : ℕ) (t : State) (c : Bool) (n m : ℕ) → value_of s.made t x ≡ Some (Truth c) → value_of s.made t a ≡ Some (Word n) → value_of s.made t b ≡ Some (Word m) → gives (result s.context place) (spv.selected (value_of s.made t x) (value_of s.made t a) (value_of s.made t b)) t ≡ Quiet [] (gave s place (Word (if c then n else m)) t)
choice_gives s place x a b t c n m is_x is_a is_b =
    ap (λ o. gives (result s.context place) (spv.selected o (value_of s.made t a) (value_of s.made t b)) t) is_x ∙ ap (λ o. gives (result s.context place) (spv.selected (Some (Truth c)) o (value_of s.made t b)) t) is_a ∙ ap (λ o. gives (result s.context place) (spv.selected (Some (Truth c)) (Some (Word n)) o) t) is_b

-- ---- casts

low_bit : (x : ℕ) → not (nat_eq (bit_and x 1) 0) ≡ nat_eq (x % 2) 1
low_bit x = ap (λ n. not (nat_eq n 0)) (and_mask x 1) ∙ by_rest (x % 2) (omega arith)
  where
    by_rest : (r : ℕ) → r < 2 → not (nat_eq r 0) ≡ nat_eq r 1
    by_rest zero le = refl
    by_rest (suc zero) le = refl
    by_rest (suc (suc r)) le = absurd (omega arith)

-- a choice between two numbers, which a register takes
chosen : (s : Setting) → Declares s → (i : ℕ) (env : Env) (place : ℕ) (regs : Registers) (t : State) (to : Reg) (n : ℕ) (ids : List ℕ) (v : source.Value) → IsSet s to ty.Int → source.Number n ≡ v → act s.made s.bindings s.launch i Chooses (type_id s.context ty.Int ∷ result s.context place ∷ ids) t ≡ Quiet [] (gave s place (Word n) t) → Held s env place regs t → Has s.made place (value_code s.context place to ty.Int 169 ids) → Done s i (value_code s.context place to ty.Int 169 ids) (with_id to (result s.context (place + 0)) env) place (with_at to (Some v) regs) t
chosen s d i env place regs t to n ids v one same does h has =
    let e : place ≡ place + 0 = omega arith in
    let line = value_line s d i env place regs t to ty.Int 169 ids Chooses (source.Number n) h one tt refl refl does has in
    subst (λ w. Done s i (value_code s.context place to ty.Int 169 ids) (with_id to (result s.context (place + 0)) env) place (with_at to (Some w) regs) t) same (subst (λ k. Done s i (value_code s.context place to ty.Int 169 ids) (with_id to (result s.context k) env) place (with_at to (Some (source.Number n)) regs) t) e line)

cast_after : (s : Setting) → Declares s → (i : ℕ) (env : Env) (place : ℕ) (regs : Registers) (t : State) (to : Reg) (op : CastOp) (id : ℕ) (x v : source.Value) → CastNeeds s op → IsSet s to (cast_to op) → source.cast op x ≡ Some v → value_of s.made t id ≡ Some (as_value x) → Held s env place regs t → Has s.made place (cast_tail s.context place to op id) → Done s i (cast_tail s.context place to op id) (with_id to (result s.context (place + cast_before op)) env) place (with_at to (Some v) regs) t
cast_after s d i env place regs t to cast.Trunc id (source.Number n) v needs one e is h has =
    let here = fixed_here s t (number s.context 1) (Word 1) (d.numbers 1 needs.0) in
    let t1 : State = gave s place (Word (bit_and n 1)) t in
    let first = two_words s i place 199 (int_id s.context) id (number s.context 1) t (Word n) (Word 1) (Word (bit_and n 1)) _ h.at has.0 refl is here refl in
    let held = gave_held s env place regs t (Word (bit_and n 1)) h in
    let zero_here = fixed_here s t1 (number s.context 0) (Word 0) (d.numbers 0 needs.1) in
    let test : Truth (not (nat_eq (bit_and n 1) 0)) ≡ as_value v = ap Truth (low_bit n) ∙ ap as_value (some_inj e) in
    let does = two_gives s (place + 1) (result s.context place) (number s.context 0) t1 (Word (bit_and n 1)) (Word 0) (as_value v) (spv.on_tests (λ x y. not (nat_eq x y))) (gave_here s d place (result_at s place 199 _ (Two_operands _) has.0 refl refl) (Word (bit_and n 1)) t) zero_here (ap Some test) in
    let rest = value_line s d i env (place + 1) regs t1 to ty.Bool 171 (result s.context place ∷ number s.context 0 ∷ []) (Two_operands (spv.on_tests (λ x y. not (nat_eq x y)))) v held one (subst (λ w. IsOf ty.Bool w) test tt) refl refl does has.1 in
    behind_one s d i env (with_id to (result s.context (place + 1)) env) place regs (with_at to (Some v) regs) t 199 (int_id s.context ∷ result s.context place ∷ id ∷ number s.context 1 ∷ []) (Word (bit_and n 1)) (value_code s.context (place + 1) to ty.Bool 171 (result s.context place ∷ number s.context 0 ∷ [])) h first rest
cast_after s d i env place regs t to cast.Zext id (source.Truth b) v needs one e is h has =
    let does = choice_gives s place id (number s.context 1) (number s.context 0) t b 1 0 is (fixed_here s t (number s.context 1) (Word 1) (d.numbers 1 needs.0)) (fixed_here s t (number s.context 0) (Word 0) (d.numbers 0 needs.1)) in
    chosen s d i env place regs t to (if b then 1 else 0) (id ∷ number s.context 1 ∷ number s.context 0 ∷ []) v one (some_inj e) does h has
cast_after s d i env place regs t to cast.Sext id (source.Truth b) v needs one e is h has =
    let does = choice_gives s place id (number s.context 0xFFFF_FFFF) (number s.context 0) t b 0xFFFF_FFFF 0 is (fixed_here s t (number s.context 0xFFFF_FFFF) (Word 0xFFFF_FFFF) (d.numbers 0xFFFF_FFFF needs.0)) (fixed_here s t (number s.context 0) (Word 0) (d.numbers 0 needs.1)) in
    chosen s d i env place regs t to (if b then 0xFFFF_FFFF else 0) (id ∷ number s.context 0xFFFF_FFFF ∷ number s.context 0 ∷ []) v one (some_inj e) does h has
cast_after s d i env place regs t to cast.Trunc id (source.Truth b) v needs one e is h has = absurd (none_some e)
cast_after s d i env place regs t to cast.Zext id (source.Number n) v needs one e is h has = absurd (none_some e)
cast_after s d i env place regs t to cast.Sext id (source.Number n) v needs one e is h has = absurd (none_some e)

pub cast_line : (s : Setting) → Declares s → (i : ℕ) (env : Env) (place : ℕ) (regs : Registers) (t : State) (to : Reg) (op : CastOp) (a : Operand) (x v : source.Value) → Ready s env a (cast_from op) → CastNeeds s op → IsSet s to (cast_to op) → source.value_of regs a ≡ Some x → source.cast op x ≡ Some v → Held s env place regs t → Has s.made place (cast_code s.context env place to op a) → Done s i (cast_code s.context env place to op a) (with_id to (result s.context (place + (read_size s.context env a + cast_before op))) env) place (with_at to (Some v) regs) t
cast_line s d i env place regs t to op a x v ra needs one is_x is_v h has =
    let n : ℕ = read_size s.context env a in
    let id : ℕ = read_id s.context env place a in
    let front : List Inst = read_code s.context env place a in
    let back : List Inst = cast_tail s.context (place + n) to op id in
    let first = read s d i env place regs t a (cast_from op) ra h (has_front s.made place front back has) in
    let behind = subst (λ k. Has s.made (place + k) back) (read_length s.context env place a) (has_back s.made place front back has) in
    let rest = cast_after s d i env (place + n) regs first.t' to op id x v needs one is_v (first.is ∙ ap Some (first.same x is_x)) first.held behind in
    let whole = joined s i front back n (with_id to (result s.context (place + n + cast_before op)) env) place (with_at to (Some v) regs) t first.t' (read_length s.context env place a) first.leads rest in
    let e : place + n + cast_before op ≡ place + (n + cast_before op) = omega arith in
    subst (λ k. Done s i (front ++ back) (with_id to (result s.context k) env) place (with_at to (Some v) regs) t) e whole

-- ---- maxima and minima

-- the compare, and what it chooses
extreme_gives : (op : TwoOp) (x y : ℕ) → (f : Option Value → Option Value → Option Value) × (c : Bool) × (kind_of (two_opcode op) ≡ Some (Two_operands f)) × (f (Some (Word x)) (Some (Word y)) ≡ Some (Truth c)) × ((if c then y else x) ≡ two_op op x y)
extreme_gives two.IMax x y = (_, signed_lt x y, refl, refl, refl)
extreme_gives two.IMin x y = (_, signed_lt y x, refl, refl, refl)
extreme_gives two.UMax x y = (_, nat_lt x y, refl, refl, greater x y)
  where
    greater : (x y : ℕ) → (if nat_lt x y then y else x) ≡ max x y
    greater x y = grind (arith, nat_tests)
extreme_gives two.UMin x y = (_, nat_lt y x, refl, refl, less x y)
  where
    less : (x y : ℕ) → (if nat_lt y x then y else x) ≡ min x y
    less x y = grind (arith, nat_tests)

pub extreme_line : (s : Setting) → Declares s → (i : ℕ) (env : Env) (place : ℕ) (regs : Registers) (t : State) (to : Reg) (op : TwoOp) (a b : Operand) (x y : ℕ) → Ready s env a ty.Int → Ready s env b ty.Int → IsSet s to ty.Int → source.value_of regs a ≡ Some (source.Number x) → source.value_of regs b ≡ Some (source.Number y) → Held s env place regs t → Has s.made place (extreme_code s.context env place to op a b) → Done s i (extreme_code s.context env place to op a b) (with_id to (result s.context (place + (two_size s.context env a b + 1))) env) place (with_at to (Some (source.Number (two_op op x y))) regs) t
extreme_line s d i env place regs t to op a b x y ra rb one is_x is_y h has =
    let n : ℕ = two_size s.context env a b in
    let ida : ℕ = read_id s.context env place a in
    let idb : ℕ = second_id s.context env place a b in
    let test : ℕ = result s.context (place + n) in
    let ids : List ℕ = test ∷ idb ∷ ida ∷ [] in
    let e1 : place + n + 1 ≡ place + (n + 1) = omega arith in
    let back : List Inst = value_code s.context (place + (n + 1)) to ty.Int 169 ids in
    let front : List Inst = two_code s.context env place a b in
    let both = read_two s d i env place regs t a b ty.Int ty.Int ra rb h (has_front s.made place front (bool_inst s.context (place + n) (two_opcode op) (ida ∷ idb ∷ []) ∷ back) has) in
    let behind = subst (λ k. Has s.made (place + k) (bool_inst s.context (place + n) (two_opcode op) (ida ∷ idb ∷ []) ∷ back)) (two_length s.context env place a b) (has_back s.made place front (bool_inst s.context (place + n) (two_opcode op) (ida ∷ idb ∷ []) ∷ back) has) in
    let at_a = both.left_is ∙ ap Some (both.left_same (source.Number x) is_x) in
    let at_b = both.right_is ∙ ap Some (both.right_same (source.Number y) is_y) in
    let f = extreme_gives op x y in
    let t1 : State = gave s (place + n) (Truth f.1) both.t' in
    let step = two_words s i (place + n) (two_opcode op) (bool_id s.context) ida idb both.t' (Word x) (Word y) (Truth f.1) f.0 both.held.at behind.0 f.2 at_a at_b f.3 in
    let held = gave_held s env (place + n) regs both.t' (Truth f.1) both.held in
    let keeps = gave_keeps s (place + n) (Truth f.1) both.t' (both.held.fresh (place + n) (omega arith)) in
    let chosen_gives = choice_gives s (place + (n + 1)) test idb ida t1 f.1 y x (gave_here s d (place + n) (result_at s (place + n) (two_opcode op) _ (Two_operands f.0) behind.0 f.2 refl) (Truth f.1) both.t') (keeps idb (Word y) at_b) (keeps ida (Word x) at_a) in
    let does = chosen_gives ∙ ap (λ w. Quiet [] (gave s (place + (n + 1)) (Word w) t1)) f.4 in
    let rest = value_line s d i env (place + (n + 1)) regs t1 to ty.Int 169 ids Chooses (source.Number (two_op op x y)) (subst (λ k. Held s env k regs t1) e1 held) one tt refl refl does (subst (λ k. Has s.made k back) e1 behind.1) in
    let tail = behind_one s d i env (with_id to (result s.context (place + (n + 1))) env) (place + n) regs (with_at to (Some (source.Number (two_op op x y))) regs) both.t' (two_opcode op) (bool_id s.context ∷ test ∷ ida ∷ idb ∷ []) (Truth f.1) back both.held step (subst (λ k. Done s i back (with_id to (result s.context (place + (n + 1))) env) k (with_at to (Some (source.Number (two_op op x y))) regs) t1) (sym e1) rest) in
    joined s i front (bool_inst s.context (place + n) (two_opcode op) (ida ∷ idb ∷ []) ∷ back) n (with_id to (result s.context (place + (n + 1))) env) place (with_at to (Some (source.Number (two_op op x y))) regs) t both.t' (two_length s.context env place a b) both.leads tail

-- ---- a product and a sum

pub mad_line : (s : Setting) → Declares s → (i : ℕ) (env : Env) (place : ℕ) (regs : Registers) (t : State) (to : Reg) (x a b : Operand) (k m n : ℕ) → Ready s env x ty.Int → Ready s env a ty.Int → Ready s env b ty.Int → IsSet s to ty.Int → source.value_of regs x ≡ Some (source.Number k) → source.value_of regs a ≡ Some (source.Number m) → source.value_of regs b ≡ Some (source.Number n) → Held s env place regs t → Has s.made place (mad_code s.context env place to x a b) → Done s i (mad_code s.context env place to x a b) (with_id to (result s.context (place + (three_size s.context env x a b + 1))) env) place (with_at to (Some (source.Number (word_add (word_mul k m) n))) regs) t
mad_line s d i env place regs t to x a b k m n rx ra rb one is_k is_m is_n h has =
    let size : ℕ = three_size s.context env x a b in
    let idx : ℕ = read_id s.context env place x in
    let ida : ℕ = read_id s.context env (place + read_size s.context env x) a in
    let idb : ℕ = second_id s.context env (place + read_size s.context env x) a b in
    let product_id : ℕ = result s.context (place + size) in
    let e1 : place + size + 1 ≡ place + (size + 1) = omega arith in
    let back : List Inst = value_code s.context (place + (size + 1)) to ty.Int 128 (product_id ∷ idb ∷ []) in
    let front : List Inst = three_code s.context env place x a b in
    let whole : List Inst = int_inst s.context (place + size) 132 (idx ∷ ida ∷ []) ∷ back in
    let all = read_three s d i env place regs t x a b ty.Int ty.Int ty.Int rx ra rb h (has_front s.made place front whole has) in
    let behind = subst (λ k. Has s.made (place + k) whole) (three_length s.context env place x a b) (has_back s.made place front whole has) in
    let at_x = all.first_is ∙ ap Some (all.first_same (source.Number k) is_k) in
    let at_a = all.left_is ∙ ap Some (all.left_same (source.Number m) is_m) in
    let at_b = all.right_is ∙ ap Some (all.right_same (source.Number n) is_n) in
    let w : Value = Word (word_mul k m) in
    let t1 : State = gave s (place + size) w all.t' in
    let step = two_words s i (place + size) 132 (int_id s.context) idx ida all.t' (Word k) (Word m) w _ all.held.at behind.0 refl at_x at_a refl in
    let held = gave_held s env (place + size) regs all.t' w all.held in
    let keeps = gave_keeps s (place + size) w all.t' (all.held.fresh (place + size) (omega arith)) in
    let does = two_gives s (place + (size + 1)) product_id idb t1 w (Word n) (Word (word_add (word_mul k m) n)) (spv.on_words (λ x y. Some (word_add x y))) (gave_here s d (place + size) (result_at s (place + size) 132 _ (Two_operands _) behind.0 refl refl) w all.t') (keeps idb (Word n) at_b) refl in
    let rest = value_line s d i env (place + (size + 1)) regs t1 to ty.Int 128 (product_id ∷ idb ∷ []) (Two_operands (spv.on_words (λ x y. Some (word_add x y)))) (source.Number (word_add (word_mul k m) n)) (subst (λ k. Held s env k regs t1) e1 held) one tt refl refl does (subst (λ k. Has s.made k back) e1 behind.1) in
    let tail = behind_one s d i env (with_id to (result s.context (place + (size + 1))) env) (place + size) regs (with_at to (Some (source.Number (word_add (word_mul k m) n))) regs) all.t' 132 (int_id s.context ∷ product_id ∷ idx ∷ ida ∷ []) w back all.held step (subst (λ k'. Done s i back (with_id to (result s.context (place + (size + 1))) env) k' (with_at to (Some (source.Number (word_add (word_mul k m) n))) regs) t1) (sym e1) rest) in
    joined s i front whole size (with_id to (result s.context (place + (size + 1))) env) place (with_at to (Some (source.Number (word_add (word_mul k m) n))) regs) t all.t' (three_length s.context env place x a b) all.leads tail

-- ---- numbers of the invocation

other_class : (s : Setting) (id : ℕ) → is_class s.made id 1 ≡ true → is_class s.made id 7 ≡ false
other_class s id e = by_storage (storage s.made id) e
  where
    by_storage : (o : Option ℕ) → is_some_at o 1 ≡ true → is_some_at o 7 ≡ false
    by_storage (Some n) e = ap (λ k. nat_eq k 7) (nat_eq-eq n 1 e)
    by_storage None e = refl

-- a load of a built-in input, whole
input_load : (s : Setting) → Declares s → (i type place : ℕ) (t : State) (b : BuiltIn) (w : Value) → Uses s (global.Input b) → lookup (built_in_number b) (builtin_table s.launch s.program.local i) ≡ Some w → act s.made s.bindings s.launch i Loads (type ∷ result s.context place ∷ s.context.key (global.Input b) ∷ []) t ≡ Quiet [] (gave s place w t)
input_load s d i type place t b w uses is =
    let id : ℕ = s.context.key (global.Input b) in
    let input = d.inputs b uses in
    let value : input_value s.made s.launch i id [] ≡ Some w = ap (λ o. option_and_then (λ v. component v []) (option_and_then (λ kind. lookup kind (builtin_table s.launch (local_size s.made.insts) i)) o)) input.holds ∙ ap (λ local. option_and_then (λ v. component v []) (lookup (built_in_number b) (builtin_table s.launch local i))) d.local ∙ ap (λ o. option_and_then (λ v. component v []) o) is in
    ap (λ o. spv.load_step s.made s.bindings s.launch i type (result s.context place) o t) (fixed_here s t id (Pointer id []) input.variable.pointer) ∙ if_false (is_class s.made id 7) (other_class s id input.variable.class_is) _ _ ∙ if_true (is_class s.made id 1) input.variable.class_is _ _ ∙ ap (λ o. gives (result s.context place) o t) value

component_of : (f : ℕ → ℕ) (part : ℕ) → part ≤ 2 → extracted (Some (Vector (three f))) part ≡ Some (Word (f part))
component_of f zero le = refl
component_of f (suc zero) le = refl
component_of f (suc (suc zero)) le = refl
component_of f (suc (suc (suc n))) le = absurd (omega arith)

component_line : (s : Setting) → Declares s → (i : ℕ) (env : Env) (place : ℕ) (regs : Registers) (t : State) (to : Reg) (b : BuiltIn) (part : ℕ) (f : ℕ → ℕ) → Uses s (global.Input b) → part ≤ 2 → IsSet s to ty.Int → lookup (built_in_number b) (builtin_table s.launch s.program.local i) ≡ Some (Vector (three f)) → Held s env place regs t → Has s.made place (component_code s.context place to b part) → Done s i (component_code s.context place to b part) (with_id to (result s.context (place + 1)) env) place (with_at to (Some (source.Number (f part))) regs) t
component_line s d i env place regs t to b part f uses le one is h has =
    let type : ℕ = s.context.key (global.Plain sort.Triple) in
    let w : Value = Vector (three f) in
    let t1 : State = gave s place w t in
    let step = leads_one s i t t1 place 61 (type ∷ result s.context place ∷ s.context.key (global.Input b) ∷ []) Loads h.at has.0 refl (input_load s d i type place t b w uses is) in
    let held = gave_held s env place regs t w h in
    let does = ap (λ o. gives (result s.context (place + 1)) (extracted o part) t1) (gave_here s d place (result_at s place 61 _ Loads has.0 refl refl) w t) ∙ ap (λ o. gives (result s.context (place + 1)) o t1) (component_of f part le) in
    let rest = value_line s d i env (place + 1) regs t1 to ty.Int 81 (result s.context place ∷ part ∷ []) Extracts (source.Number (f part)) held one tt refl refl does has.1 in
    behind_one s d i env (with_id to (result s.context (place + 1)) env) place regs (with_at to (Some (source.Number (f part))) regs) t 61 (type ∷ result s.context place ∷ s.context.key (global.Input b) ∷ []) w (value_code s.context (place + 1) to ty.Int 81 (result s.context place ∷ part ∷ [])) h step rest

pub id_line : (s : Setting) → Declares s → (i : ℕ) (env : Env) (place : ℕ) (regs : Registers) (t : State) (to : Reg) (op : IdOp) (part : ℕ) → Uses s (global.Input (built_in_of op)) → PartFits op part → IsSet s to ty.Int → Held s env place regs t → Has s.made place (id_code s.context place to op part) → Done s i (id_code s.context place to op part) (with_id to (result s.context (place + id_before op)) env) place (with_at to (Some (source.Number (id_of s.program s.launch i op part))) regs) t
id_line s d i env place regs t to thread.Thread part uses fits one h has =
    component_line s d i env place regs t to builtin.GlobalInvocationId part (λ c. coordinate s.launch.groups c (i / product s.program.local) * slice_index s.program.local c + coordinate s.program.local c (i % product s.program.local)) uses fits one refl h has
id_line s d i env place regs t to thread.Group part uses fits one h has =
    component_line s d i env place regs t to builtin.WorkgroupId part (λ c. coordinate s.launch.groups c (i / product s.program.local)) uses fits one refl h has
id_line s d i env place regs t to thread.InGroup part uses fits one h has =
    component_line s d i env place regs t to builtin.LocalInvocationId part (λ c. coordinate s.program.local c (i % product s.program.local)) uses fits one refl h has
id_line s d i env place regs t to thread.Flat part uses fits one h has =
    let e : place ≡ place + 0 = omega arith in
    let n : ℕ = i % product s.program.local in
    let does = input_load s d i (type_id s.context ty.Int) place t builtin.LocalInvocationIndex (Word n) uses refl in
    let line = value_line s d i env place regs t to ty.Int 61 (s.context.key (global.Input builtin.LocalInvocationIndex) ∷ []) Loads (source.Number n) h one tt refl refl does has in
    subst (λ k. Done s i (id_code s.context place to thread.Flat part) (with_id to (result s.context k) env) place (with_at to (Some (source.Number n)) regs) t) e line

-- ---- sizes

pub length_is : (s : Setting) (r : ℕ) (resource : Resource) (id : ℕ) → has_rows resource.kind ≡ false → IsBuffer s r resource id → length_of s.made s.bindings s.launch (Some (Pointer id [])) ≡ Some (Word (slice_index s.launch.sizes r))
length_is s r resource id words buffer =
    let class = class_12 resource.kind words buffer.variable.class_is in
    let rows : over_vectors s.made id ≡ false = buffer.rows ∙ words in
    if_true (is_some_at (storage s.made id) 12 && not (over_vectors s.made id)) (ap (λ b. b && not (over_vectors s.made id)) class ∙ ap not rows) _ _ ∙ ap (λ o. option_map (λ r. Word (slice_index s.launch.sizes r)) o) buffer.stands_for
  where
    class_12 : (k : Kind) → has_rows k ≡ false → is_class s.made id (buffer_class k) ≡ true → is_some_at (storage s.made id) 12 ≡ true
    class_12 kind.Raw w e = e
    class_12 (kind.Structured stride) w e = e
    class_12 (kind.Constant rows) w e = absurd (true_false w)

pub size_line : (s : Setting) → Declares s → (i : ℕ) (env : Env) (place : ℕ) (regs : Registers) (t : State) (to : Reg) (r : ℕ) (resource : Resource) → Uses s (global.Buffer r) → slice_get s.program.resources r ≡ Some resource → has_rows resource.kind ≡ false → IsSet s to ty.Int → Held s env place regs t → Has s.made place (value_code s.context place to ty.Int 68 (s.context.key (global.Buffer r) ∷ 0 ∷ [])) → Done s i (value_code s.context place to ty.Int 68 (s.context.key (global.Buffer r) ∷ 0 ∷ [])) (with_id to (result s.context place) env) place (with_at to (Some (source.Number (slice_index s.launch.sizes r))) regs) t
size_line s d i env place regs t to r resource uses at words one h has =
    let id : ℕ = s.context.key (global.Buffer r) in
    let buffer = d.buffers r resource uses at in
    let does = ap (λ o. gives (result s.context place) (length_of s.made s.bindings s.launch o) t) (fixed_here s t id (Pointer id []) buffer.variable.pointer) ∙ ap (λ o. gives (result s.context place) o t) (length_is s r resource id words buffer) in
    value_line s d i env place regs t to ty.Int 68 (id ∷ 0 ∷ []) Lengths (source.Number (slice_index s.launch.sizes r)) h one tt refl refl does has
