-- The test of a part gives whether its word is in range.
use Rattle.std.proofs.Common.{◌≡◌, ℕ, ◌+◌, ◌/◌, ◌%◌, ◌^◌, ◌<◌, ◌≤◌, Bool, true, false, List, [], ◌∷◌, length, Some, refl, sym, ap, ◌∙◌, subst, arith}
use Rattle.std.specs.Prelude.{nat_eq, nat_lt, ◌&&◌, slice_get, slice_index, if◌then◌else◌}
use Rattle.std.proofs.lemmas.Bool.Decides.{nat_tests}
use Rattle.dxil_form.specs.declared.value.Ty.TheVariants as ty
use Rattle.dxil_form.specs.declared.value.Operand.{Operand}
use Rattle.dxil_form.specs.declared.instr.Addr.TheVariants.{Byte}
use Rattle.dxil_form.specs.declared.instr.Target.TheVariants as target
use Rattle.dxil_form.specs.declared.program.Resource.{Resource}
use Rattle.spv_form.specs.declared.module.Inst.{Inst}
use Rattle.dxil_meaning.specs.Arithmetic.{word_add, word_shr}
use Rattle.dxil_meaning.specs.Fits.{Fits}
use Rattle.dxil_meaning.specs.Source.{Registers, Words, words_of, number_of, as_number}
use Rattle.dxil_meaning.specs.Source as source
use Rattle.spirv_meaning.specs.Target.{Value, Word, Truth, Pointer, State, Lengths, gives, length_of, value_of}
use Rattle.spirv_code.specs.declared.key.Global.TheVariants as global
use Rattle.spirv_code.specs.Plans.{Context, result, number, int_id, bool_id}
use Rattle.spirv_code.specs.Reads.{Env, read_size, read_code, read_id}
use Rattle.spirv_code.specs.Accesses.{int_inst, bool_inst, shift_inst, length_inst, byte_tests, index_test, test_size, test_code, test_id}
use Rattle.line_runs.specs.Held.{Setting, Held, Has, Uses}
use Rattle.line_runs.specs.Declared.{Declares, has_rows}
use Rattle.line_runs.specs.Ready.{Ready}
use Rattle.line_runs.proofs.Tests.{nat_eq-eq}
use Rattle.line_runs.proofs.Pieces.{leads_one, has_front, has_back}
use Rattle.line_runs.proofs.Results.{gave, fixed_here, result_at}
use Rattle.line_runs.proofs.Reading.{read, read_length}
use Rattle.line_runs.proofs.Combined.{length_is}
use Rattle.line_runs.proofs.Whole.{number_some}
use Rattle.access_runs.proofs.Stepping.{held_at, has_at, inst_at, Next, next_of, next_two, Ahead, more}

-- the truth stands behind n instructions
pub record Tested (s : Setting) (i : ℕ) (env : Env) (place n : ℕ) (regs : Registers) (t : State) (id : ℕ) (b : Bool) : Type 0 where
  pub t' : State
  pub ahead : Ahead s i env place n regs t t'
  pub is : value_of s.made t' id ≡ Some (Truth b)

-- ---- single instructions

-- an operand of i32 that has a number, read at the place
pub record Read_number (s : Setting) (i : ℕ) (env : Env) (place : ℕ) (regs : Registers) (t : State) (a : Operand) (n : ℕ) : Type 0 where
  pub t' : State
  pub ahead : Ahead s i env place (read_size s.context env a) regs t t'
  pub is : value_of s.made t' (read_id s.context env place a) ≡ Some (Word n)

pub read_number : (s : Setting) → Declares s → (i : ℕ) (env : Env) (place : ℕ) (regs : Registers) (t : State) (a : Operand) (n : ℕ) → Ready s env a ty.Int → number_of regs a ≡ Some n → Held s env place regs t → Has s.made place (read_code s.context env place a) → Read_number s i env place regs t a n
read_number s d i env place regs t a n ready is h has =
    let r = read s d i env place regs t a ty.Int ready h has in
    record {
      t' = r.t';
      ahead = record { leads = r.leads; held = r.held; keeps = r.keeps };
      is = r.is ∙ ap Some (r.same (source.Number n) (number_some (source.value_of regs a) n is));
    }

pub shift_next : (s : Setting) → Declares s → (i : ℕ) (env : Env) (q : ℕ) (regs : Registers) (t : State) (id n : ℕ) → Uses s (global.Number 2) → Held s env q regs t → slice_get s.made.insts q ≡ Some (shift_inst s.context q id) → value_of s.made t id ≡ Some (Word n) → Next s i env q regs t (Word (word_shr n 2))
shift_next s d i env q regs t id n uses h here is =
    next_two s d i env q regs t 194 (int_id s.context) id (number s.context 2) (Word n) (Word 2) (Word (word_shr n 2)) _ h here refl is (fixed_here s t (number s.context 2) (Word 2) (d.numbers 2 uses)) refl

pub length_next : (s : Setting) → Declares s → (i : ℕ) (env : Env) (q : ℕ) (regs : Registers) (t : State) (r : ℕ) (resource : Resource) → Uses s (global.Buffer r) → slice_get s.program.resources r ≡ Some resource → has_rows resource.kind ≡ false → Held s env q regs t → slice_get s.made.insts q ≡ Some (length_inst s.context q (target.Buffer r)) → Next s i env q regs t (Word (slice_index s.launch.sizes r))
length_next s d i env q regs t r resource uses at words h here =
    let id : ℕ = s.context.key (global.Buffer r) in
    let buffer = d.buffers r resource uses at in
    let w : Value = Word (slice_index s.launch.sizes r) in
    let does = ap (λ o. gives (result s.context q) (length_of s.made s.bindings s.launch o) t) (fixed_here s t id (Pointer id []) buffer.variable.pointer) ∙ ap (λ o. gives (result s.context q) o t) (length_is s r resource id words buffer) in
    next_of s d i env q regs t w h (result_at s q 68 _ Lengths here refl refl) (leads_one s i t (gave s q w t) q 68 (int_id s.context ∷ result s.context q ∷ id ∷ 0 ∷ []) Lengths h.at here refl does)

pub less_next : (s : Setting) → Declares s → (i : ℕ) (env : Env) (q : ℕ) (regs : Registers) (t : State) (a b x y : ℕ) → Held s env q regs t → slice_get s.made.insts q ≡ Some (bool_inst s.context q 176 (a ∷ b ∷ [])) → value_of s.made t a ≡ Some (Word x) → value_of s.made t b ≡ Some (Word y) → Next s i env q regs t (Truth (nat_lt x y))
less_next s d i env q regs t a b x y h here isa isb =
    next_two s d i env q regs t 176 (bool_id s.context) a b (Word x) (Word y) (Truth (nat_lt x y)) _ h here refl isa isb refl

pub and_next : (s : Setting) → Declares s → (i : ℕ) (env : Env) (q : ℕ) (regs : Registers) (t : State) (a b : ℕ) (x y : Bool) → Held s env q regs t → slice_get s.made.insts q ≡ Some (bool_inst s.context q 167 (a ∷ b ∷ [])) → value_of s.made t a ≡ Some (Truth x) → value_of s.made t b ≡ Some (Truth y) → Next s i env q regs t (Truth (x && y))
and_next s d i env q regs t a b x y h here isa isb =
    next_two s d i env q regs t 167 (bool_id s.context) a b (Truth x) (Truth y) (Truth (x && y)) _ h here refl isa isb refl

-- ---- an index below a number

pub index_tested : (s : Setting) → Declares s → (i : ℕ) (env : Env) (place : ℕ) (regs : Registers) (t : State) (index : Operand) (k limit : ℕ) → Ready s env index ty.Int → Uses s (global.Number limit) → number_of regs index ≡ Some k → Held s env place regs t → Has s.made place (index_test s.context env place index limit) → Tested s i env place (read_size s.context env index + 1) regs t (result s.context (place + read_size s.context env index)) (nat_lt k limit)
index_tested s d i env place regs t index k limit ready uses is h has =
    let c : Context = s.context in
    let n : ℕ = read_size c env index in
    let tail : List Inst = bool_inst c (place + n) 176 (read_id c env place index ∷ number c limit ∷ []) ∷ [] in
    let r = read_number s d i env place regs t index k ready is h (has_front s.made place (read_code c env place index) tail has) in
    let behind = has_at s.made (place + length (read_code c env place index)) (place + n) tail (ap (λ j. place + j) (read_length c env place index)) (has_back s.made place (read_code c env place index) tail has) in
    let x = less_next s d i env (place + n) regs r.t' (read_id c env place index) (number c limit) k limit r.ahead.held behind.0 r.is (fixed_here s r.t' (number c limit) (Word limit) (d.numbers limit uses)) in
    record {
      t' = gave s (place + n) (Truth (nat_lt k limit)) r.t';
      ahead = more s i env place n (n + 1) (place + n) regs t r.t' (Truth (nat_lt k limit)) r.ahead refl refl x;
      is = x.is;
    }

-- ---- a byte offset

-- the first part: the shifted offset is below the length
first_byte : (s : Setting) → Declares s → (i : ℕ) (env : Env) (place m : ℕ) (regs : Registers) (t t0 : State) (r : ℕ) (resource : Resource) (id n : ℕ) → Ahead s i env place m regs t t0 → Uses s (global.Number 2) → Uses s (global.Buffer r) → slice_get s.program.resources r ≡ Some resource → has_rows resource.kind ≡ false → value_of s.made t0 id ≡ Some (Word n) → Has s.made (place + m) (shift_inst s.context (place + m) id ∷ length_inst s.context (place + m + 1) (target.Buffer r) ∷ bool_inst s.context (place + m + 2) 176 (result s.context (place + m) ∷ result s.context (place + m + 1) ∷ []) ∷ []) → Tested s i env place (m + 2 + 1) regs t (result s.context (place + (m + 2))) (nat_lt (word_shr n 2) (slice_index s.launch.sizes r))
first_byte s d i env place m regs t t0 r resource id n a two uses at words is has =
    let c : Context = s.context in
    let q : ℕ = place + m in
    let len : ℕ = slice_index s.launch.sizes r in
    let x1 = shift_next s d i env q regs t0 id n two a.held has.0 is in
    let t1 : State = gave s q (Word (word_shr n 2)) t0 in
    let a1 = more s i env place m (m + 1) q regs t t0 (Word (word_shr n 2)) a refl refl x1 in
    let x2 = length_next s d i env (q + 1) regs t1 r resource uses at words x1.held has.1.0 in
    let t2 : State = gave s (q + 1) (Word len) t1 in
    let a2 = more s i env place (m + 1) (m + 2) (q + 1) regs t t1 (Word len) a1 (omega arith) (omega arith) x2 in
    let e : q + 1 + 1 ≡ q + 2 = omega arith in
    let x3 = less_next s d i env (q + 2) regs t2 (result c q) (result c (q + 1)) (word_shr n 2) len (held_at s env (q + 1 + 1) (q + 2) regs t2 e x2.held) (inst_at s.made (q + 1 + 1) (q + 2) _ e has.1.1.0) (x2.keeps (result c q) (Word (word_shr n 2)) x1.is) x2.is in
    let e' : q + 2 ≡ place + (m + 2) = omega arith in
    record {
      t' = gave s (q + 2) (Truth (nat_lt (word_shr n 2) len)) t2;
      ahead = more s i env place (m + 2) (m + 2 + 1) (q + 2) regs t t2 (Truth (nat_lt (word_shr n 2) len)) a2 e' refl x3;
      is = subst (λ k. value_of s.made (gave s (q + 2) (Truth (nat_lt (word_shr n 2) len)) t2) (result c k) ≡ Some (Truth (nat_lt (word_shr n 2) len))) e' x3.is;
    }

-- any other part: so is its sum with the part
other_byte : (s : Setting) → Declares s → (i : ℕ) (env : Env) (place m part : ℕ) (regs : Registers) (t t0 : State) (r : ℕ) (resource : Resource) (id n : ℕ) → Ahead s i env place m regs t t0 → Uses s (global.Number 2) → Uses s (global.Number part) → Uses s (global.Buffer r) → slice_get s.program.resources r ≡ Some resource → has_rows resource.kind ≡ false → value_of s.made t0 id ≡ Some (Word n) → Has s.made (place + m) (shift_inst s.context (place + m) id ∷ int_inst s.context (place + m + 1) 128 (result s.context (place + m) ∷ number s.context part ∷ []) ∷ length_inst s.context (place + m + 2) (target.Buffer r) ∷ bool_inst s.context (place + m + 3) 176 (result s.context (place + m) ∷ result s.context (place + m + 2) ∷ []) ∷ bool_inst s.context (place + m + 4) 176 (result s.context (place + m + 1) ∷ result s.context (place + m + 2) ∷ []) ∷ bool_inst s.context (place + m + 5) 167 (result s.context (place + m + 3) ∷ result s.context (place + m + 4) ∷ []) ∷ []) → Tested s i env place (m + 5 + 1) regs t (result s.context (place + (m + 5))) (nat_lt (word_shr n 2) (slice_index s.launch.sizes r) && nat_lt (word_add (word_shr n 2) part) (slice_index s.launch.sizes r))
other_byte s d i env place m part regs t t0 r resource id n a two uses_part uses at words is has =
    let c : Context = s.context in
    let q : ℕ = place + m in
    let len : ℕ = slice_index s.launch.sizes r in
    let w : ℕ = word_shr n 2 in
    let sum : ℕ = word_add w part in
    let x1 = shift_next s d i env q regs t0 id n two a.held has.0 is in
    let t1 : State = gave s q (Word w) t0 in
    let a1 = more s i env place m (m + 1) q regs t t0 (Word w) a refl refl x1 in
    let x2 = next_two s d i env (q + 1) regs t1 128 (int_id c) (result c q) (number c part) (Word w) (Word part) (Word sum) _ x1.held has.1.0 refl x1.is (fixed_here s t1 (number c part) (Word part) (d.numbers part uses_part)) refl in
    let t2 : State = gave s (q + 1) (Word sum) t1 in
    let a2 = more s i env place (m + 1) (m + 2) (q + 1) regs t t1 (Word sum) a1 (omega arith) (omega arith) x2 in
    let e2 : q + 1 + 1 ≡ q + 2 = omega arith in
    let x3 = length_next s d i env (q + 2) regs t2 r resource uses at words (held_at s env (q + 1 + 1) (q + 2) regs t2 e2 x2.held) (inst_at s.made (q + 1 + 1) (q + 2) _ e2 has.1.1.0) in
    let t3 : State = gave s (q + 2) (Word len) t2 in
    let a3 = more s i env place (m + 2) (m + 3) (q + 2) regs t t2 (Word len) a2 (omega arith) (omega arith) x3 in
    let e3 : q + 2 + 1 ≡ q + 3 = omega arith in
    let e3' : q + 1 + 1 + 1 ≡ q + 3 = omega arith in
    let w_at = x3.keeps (result c q) (Word w) (x2.keeps (result c q) (Word w) x1.is) in
    let x4 = less_next s d i env (q + 3) regs t3 (result c q) (result c (q + 2)) w len (held_at s env (q + 2 + 1) (q + 3) regs t3 e3 x3.held) (inst_at s.made (q + 1 + 1 + 1) (q + 3) _ e3' has.1.1.1.0) w_at x3.is in
    let b1 : Bool = nat_lt w len in
    let t4 : State = gave s (q + 3) (Truth b1) t3 in
    let a4 = more s i env place (m + 3) (m + 4) (q + 3) regs t t3 (Truth b1) a3 (omega arith) (omega arith) x4 in
    let e4 : q + 3 + 1 ≡ q + 4 = omega arith in
    let e4' : q + 1 + 1 + 1 + 1 ≡ q + 4 = omega arith in
    let b2 : Bool = nat_lt sum len in
    let x5 = less_next s d i env (q + 4) regs t4 (result c (q + 1)) (result c (q + 2)) sum len (held_at s env (q + 3 + 1) (q + 4) regs t4 e4 x4.held) (inst_at s.made (q + 1 + 1 + 1 + 1) (q + 4) _ e4' has.1.1.1.1.0) (x4.keeps (result c (q + 1)) (Word sum) (x3.keeps (result c (q + 1)) (Word sum) x2.is)) (x4.keeps (result c (q + 2)) (Word len) x3.is) in
    let t5 : State = gave s (q + 4) (Truth b2) t4 in
    let a5 = more s i env place (m + 4) (m + 5) (q + 4) regs t t4 (Truth b2) a4 (omega arith) (omega arith) x5 in
    let e5 : q + 4 + 1 ≡ q + 5 = omega arith in
    let e5' : q + 1 + 1 + 1 + 1 + 1 ≡ q + 5 = omega arith in
    let x6 = and_next s d i env (q + 5) regs t5 (result c (q + 3)) (result c (q + 4)) b1 b2 (held_at s env (q + 4 + 1) (q + 5) regs t5 e5 x5.held) (inst_at s.made (q + 1 + 1 + 1 + 1 + 1) (q + 5) _ e5' has.1.1.1.1.1.0) (x5.keeps (result c (q + 3)) (Truth b1) x4.is) x5.is in
    let e : q + 5 ≡ place + (m + 5) = omega arith in
    record {
      t' = gave s (q + 5) (Truth (b1 && b2)) t5;
      ahead = more s i env place (m + 5) (m + 5 + 1) (q + 5) regs t t5 (Truth (b1 && b2)) a5 e refl x6;
      is = subst (λ k. value_of s.made (gave s (q + 5) (Truth (b1 && b2)) t5) (result c k) ≡ Some (Truth (b1 && b2))) e x6.is;
    }

-- nothing wraps below the length
first_same : (n len : ℕ) → nat_lt (word_shr n 2) len ≡ nat_lt (n / 4 + 0) len
first_same n len = ap (λ k. nat_lt k len) (omega arith)

other_same : (n len part : ℕ) → len < 2 ^ 30 → part ≤ 3 → (nat_lt (word_shr n 2) len && nat_lt (word_add (word_shr n 2) part) len) ≡ nat_lt (n / 4 + part) len
other_same n len part small few = by_test (nat_lt (n / 4) len) refl
  where
    by_test : (b : Bool) → nat_lt (n / 4) len ≡ b → (b && nat_lt (word_add (n / 4) part) len) ≡ nat_lt (n / 4 + part) len
    by_test true e =
        let below : n / 4 < len = grind (arith, nat_tests) in
        let whole : (n / 4 + part) % 2 ^ 32 ≡ n / 4 + part = omega arith in
        ap (λ k. nat_lt k len) whole
    by_test false e = grind (arith, nat_tests)

pub byte_tested : (s : Setting) → Declares s → Fits s.program s.launch → (i : ℕ) (env : Env) (place : ℕ) (regs : Registers) (t : State) (r : ℕ) (resource : Resource) (at : Operand) (n part : ℕ) → part ≤ 3 → slice_index s.launch.sizes r < 2 ^ 30 → slice_get s.program.resources r ≡ Some resource → has_rows resource.kind ≡ false → Uses s (global.Buffer r) → Uses s (global.Number 2) → Uses s (global.Number part) → Ready s env at ty.Int → number_of regs at ≡ Some n → Held s env place regs t → Has s.made place (test_code s.context env place (target.Buffer r) (Byte at) part) → Tested s i env place (test_size s.context env (Byte at) part) regs t (test_id s.context env place (Byte at) part) (nat_lt (n / 4 + part) (slice_index s.launch.sizes r))
byte_tested s d fits i env place regs t r resource at n part few small at_r words uses two uses_part ready is h has =
    let c : Context = s.context in
    let m : ℕ = read_size c env at in
    let tail : List Inst = shift_inst c (place + m) (read_id c env place at) ∷ byte_tests c (place + m) (target.Buffer r) part in
    let first = read_number s d i env place regs t at n ready is h (has_front s.made place (read_code c env place at) tail has) in
    let behind = has_at s.made (place + length (read_code c env place at)) (place + m) tail (ap (λ j. place + j) (read_length c env place at)) (has_back s.made place (read_code c env place at) tail has) in
    by_part (nat_eq part 0) refl first behind
  where
    by_part : (b : Bool) → nat_eq part 0 ≡ b → (first : Read_number s i env place regs t at n) → Has s.made (place + read_size s.context env at) (shift_inst s.context (place + read_size s.context env at) (read_id s.context env place at) ∷ (if b then length_inst s.context (place + read_size s.context env at + 1) (target.Buffer r) ∷ bool_inst s.context (place + read_size s.context env at + 2) 176 (result s.context (place + read_size s.context env at) ∷ result s.context (place + read_size s.context env at + 1) ∷ []) ∷ [] else (int_inst s.context (place + read_size s.context env at + 1) 128 (result s.context (place + read_size s.context env at) ∷ number s.context part ∷ []) ∷ length_inst s.context (place + read_size s.context env at + 2) (target.Buffer r) ∷ bool_inst s.context (place + read_size s.context env at + 3) 176 (result s.context (place + read_size s.context env at) ∷ result s.context (place + read_size s.context env at + 2) ∷ []) ∷ bool_inst s.context (place + read_size s.context env at + 4) 176 (result s.context (place + read_size s.context env at + 1) ∷ result s.context (place + read_size s.context env at + 2) ∷ []) ∷ bool_inst s.context (place + read_size s.context env at + 5) 167 (result s.context (place + read_size s.context env at + 3) ∷ result s.context (place + read_size s.context env at + 4) ∷ []) ∷ []))) → Tested s i env place (read_size s.context env at + (if b then 2 else 5) + 1) regs t (result s.context (place + (read_size s.context env at + (if b then 2 else 5)))) (nat_lt (n / 4 + part) (slice_index s.launch.sizes r))
    by_part true zero_part first behind =
        let done = first_byte s d i env place (read_size s.context env at) regs t first.t' r resource (read_id s.context env place at) n first.ahead two uses at_r words first.is behind in
        let e : nat_lt (word_shr n 2) (slice_index s.launch.sizes r) ≡ nat_lt (n / 4 + part) (slice_index s.launch.sizes r) = first_same n (slice_index s.launch.sizes r) ∙ ap (λ k. nat_lt (n / 4 + k) (slice_index s.launch.sizes r)) (sym (nat_eq-eq part 0 zero_part)) in
        record { t' = done.t'; ahead = done.ahead; is = done.is ∙ ap (λ b. Some (Truth b)) e }
    by_part false other first behind =
        let done = other_byte s d i env place (read_size s.context env at) part regs t first.t' r resource (read_id s.context env place at) n first.ahead two uses_part uses at_r words first.is behind in
        record { t' = done.t'; ahead = done.ahead; is = done.is ∙ ap (λ b. Some (Truth b)) (other_same n (slice_index s.launch.sizes r) part small few) }
