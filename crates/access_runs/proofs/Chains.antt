-- The chain of a part gives a pointer to the part's word.
use Rattle.std.proofs.Common.{◌≡◌, ℕ, suc, ◌+◌, ◌/◌, Bool, true, false, List, [], ◌∷◌, ◌++◌, length, length-append, Some, refl, ap, ◌∙◌, subst, arith}
use Rattle.std.specs.Prelude.{if◌then◌else◌}
use Rattle.dxil_form.specs.declared.value.Ty.TheVariants as ty
use Rattle.dxil_form.specs.declared.value.Operand.{Operand}
use Rattle.dxil_form.specs.declared.instr.Addr.{Addr}
use Rattle.dxil_form.specs.declared.instr.Addr.TheVariants.{Byte, Element, Row, Index}
use Rattle.dxil_form.specs.declared.instr.Target.{Target}
use Rattle.spv_form.specs.declared.module.Inst.{Inst}
use Rattle.dxil_meaning.specs.Arithmetic.{word_add, word_mul, word_shr}
use Rattle.dxil_meaning.specs.Source.{Registers, number_of}
use Rattle.spirv_meaning.specs.Target as spv
use Rattle.spirv_meaning.specs.Target.{Value, Word, Pointer, State, Chains, gives, value_of, words_at, both_words, as_word}
use Rattle.spirv_code.specs.declared.key.Global.TheVariants as global
use Rattle.spirv_code.specs.Plans.{Context, inst, result, number, int_id}
use Rattle.spirv_code.specs.Reads.{Env, read_size, read_code, read_id}
use Rattle.spirv_code.specs.Accesses.{int_inst, shift_inst, base_size, base_code, base_id, adds, word_size, word_code, word_id, pointer_id, target_id, chain_indices, chain_size, chain_id, chain_code}
use Rattle.line_runs.specs.Held.{Setting, Held, Has, Uses}
use Rattle.line_runs.specs.Declared.{Declares}
use Rattle.line_runs.specs.Ready.{Ready}
use Rattle.line_runs.proofs.Pieces.{leads_one, has_front, has_back}
use Rattle.line_runs.proofs.Results.{gave, fixed_here, result_at}
use Rattle.line_runs.proofs.Reading.{read_length}
use Rattle.access_runs.proofs.Stepping.{has_at, inst_at, next_of, next_two, Ahead, more, then_ahead}
use Rattle.access_runs.proofs.Ranges.{read_number, shift_next}

-- a number stands behind n instructions
pub record Numbered (s : Setting) (i : ℕ) (env : Env) (place n : ℕ) (regs : Registers) (t : State) (id w : ℕ) : Type 0 where
  pub t' : State
  pub ahead : Ahead s i env place n regs t t'
  pub is : value_of s.made t' id ≡ Some (Word w)

-- ---- the word of part 0

pub byte_base : (s : Setting) → Declares s → (i : ℕ) (env : Env) (place : ℕ) (regs : Registers) (t : State) (at : Operand) (n : ℕ) → Uses s (global.Number 2) → Ready s env at ty.Int → number_of regs at ≡ Some n → Held s env place regs t → Has s.made place (base_code s.context env place (Byte at)) → Numbered s i env place (base_size s.context env (Byte at)) regs t (base_id s.context env place (Byte at)) (word_shr n 2)
byte_base s d i env place regs t at n two ready is h has =
    let c : Context = s.context in
    let m : ℕ = read_size c env at in
    let tail : List Inst = shift_inst c (place + m) (read_id c env place at) ∷ [] in
    let r = read_number s d i env place regs t at n ready is h (has_front s.made place (read_code c env place at) tail has) in
    let behind = has_at s.made (place + length (read_code c env place at)) (place + m) tail (ap (λ j. place + j) (read_length c env place at)) (has_back s.made place (read_code c env place at) tail has) in
    let x = shift_next s d i env (place + m) regs r.t' (read_id c env place at) n two r.ahead.held behind.0 r.is in
    record {
      t' = gave s (place + m) (Word (word_shr n 2)) r.t';
      ahead = more s i env place m (m + 1) (place + m) regs t r.t' (Word (word_shr n 2)) r.ahead refl refl x;
      is = x.is;
    }

pub index_base : (s : Setting) → Declares s → (i : ℕ) (env : Env) (place : ℕ) (regs : Registers) (t : State) (index : Operand) (k : ℕ) → Ready s env index ty.Int → number_of regs index ≡ Some k → Held s env place regs t → Has s.made place (read_code s.context env place index) → Numbered s i env place (read_size s.context env index) regs t (read_id s.context env place index) k
index_base s d i env place regs t index k ready is h has =
    let r = read_number s d i env place regs t index k ready is h has in
    record { t' = r.t'; ahead = r.ahead; is = r.is }

pub element_base : (s : Setting) → Declares s → (i : ℕ) (env : Env) (place : ℕ) (regs : Registers) (t : State) (index at : Operand) (stride k n : ℕ) → Uses s (global.Number 2) → Uses s (global.Number (stride / 4)) → Ready s env index ty.Int → Ready s env at ty.Int → number_of regs index ≡ Some k → number_of regs at ≡ Some n → Held s env place regs t → Has s.made place (base_code s.context env place (Element index at stride)) → Numbered s i env place (base_size s.context env (Element index at stride)) regs t (base_id s.context env place (Element index at stride)) (word_add (word_mul k (stride / 4)) (word_shr n 2))
element_base s d i env place regs t index at stride k n two uses ready_index ready_at is_k is_n h has =
    let c : Context = s.context in
    let n0 : ℕ = read_size c env at in
    let n1 : ℕ = read_size c env index in
    let q : ℕ = place + n0 in
    let quarter : ℕ = stride / 4 in
    let mul_at : ℕ = place + (n0 + 1 + n1) in
    let add_at : ℕ = place + (n0 + 1 + n1 + 1) in
    let tail2 : List Inst = int_inst c mul_at 132 (read_id c env (place + (n0 + 1)) index ∷ number c quarter ∷ []) ∷ int_inst c add_at 128 (result c mul_at ∷ result c q ∷ []) ∷ [] in
    let tail1 : List Inst = shift_inst c q (read_id c env place at) ∷ (read_code c env (place + (n0 + 1)) index ++ tail2) in
    let r0 = read_number s d i env place regs t at n ready_at is_n h (has_front s.made place (read_code c env place at) tail1 has) in
    let behind = has_at s.made (place + length (read_code c env place at)) q tail1 (ap (λ j. place + j) (read_length c env place at)) (has_back s.made place (read_code c env place at) tail1 has) in
    let x1 = shift_next s d i env q regs r0.t' (read_id c env place at) n two r0.ahead.held behind.0 r0.is in
    let t1 : State = gave s q (Word (word_shr n 2)) r0.t' in
    let a1 = more s i env place n0 (n0 + 1) q regs t r0.t' (Word (word_shr n 2)) r0.ahead refl refl x1 in
    let e1 : q + 1 ≡ place + (n0 + 1) = omega arith in
    let code1 = has_at s.made (q + 1) (place + (n0 + 1)) (read_code c env (place + (n0 + 1)) index ++ tail2) e1 behind.1 in
    let r1 = read_number s d i env (place + (n0 + 1)) regs t1 index k ready_index is_k a1.held (has_front s.made (place + (n0 + 1)) (read_code c env (place + (n0 + 1)) index) tail2 code1) in
    let a2 = then_ahead s i env place (n0 + 1) n1 (n0 + 1 + n1) regs t t1 r1.t' a1 r1.ahead refl in
    let e2 : place + (n0 + 1) + n1 ≡ mul_at = omega arith in
    let code2 = has_at s.made (place + (n0 + 1) + length (read_code c env (place + (n0 + 1)) index)) mul_at tail2 (ap (λ j. place + (n0 + 1) + j) (read_length c env (place + (n0 + 1)) index) ∙ e2) (has_back s.made (place + (n0 + 1)) (read_code c env (place + (n0 + 1)) index) tail2 code1) in
    let product : ℕ = word_mul k quarter in
    let x3 = next_two s d i env mul_at regs r1.t' 132 (int_id c) (read_id c env (place + (n0 + 1)) index) (number c quarter) (Word k) (Word quarter) (Word product) _ a2.held code2.0 refl r1.is (fixed_here s r1.t' (number c quarter) (Word quarter) (d.numbers quarter uses)) refl in
    let t3 : State = gave s mul_at (Word product) r1.t' in
    let a3 = more s i env place (n0 + 1 + n1) (n0 + 1 + n1 + 1) mul_at regs t r1.t' (Word product) a2 refl refl x3 in
    let e3 : mul_at + 1 ≡ add_at = omega arith in
    let shifted = x3.keeps (result c q) (Word (word_shr n 2)) (r1.ahead.keeps (result c q) (Word (word_shr n 2)) x1.is) in
    let x4 = next_two s d i env add_at regs t3 128 (int_id c) (result c mul_at) (result c q) (Word product) (Word (word_shr n 2)) (Word (word_add product (word_shr n 2))) _ a3.held (inst_at s.made (mul_at + 1) add_at _ e3 code2.1.0) refl x3.is shifted refl in
    let e4 : n0 + 1 + n1 + 2 ≡ n0 + 1 + n1 + 1 + 1 = omega arith in
    record {
      t' = gave s add_at (Word (word_add product (word_shr n 2))) t3;
      ahead = more s i env place (n0 + 1 + n1 + 1) (n0 + 1 + n1 + 2) add_at regs t t3 (Word (word_add product (word_shr n 2))) a3 refl e4 x4;
      is = x4.is;
    }

-- ---- the word of a part

abbrev pub part_word : Addr → (part base : ℕ) → ℕ
part_word addr part base = if adds addr part then word_add base part else base

pub base_length : (c : Context) (env : Env) (place : ℕ) (addr : Addr) → length (base_code c env place addr) ≡ base_size c env addr
base_length c env place (Byte at) =
    length-append (read_code c env place at) _ ∙ ap (λ n. n + 1) (read_length c env place at)
base_length c env place (Element index at stride) =
    let inner : length (read_code c env (place + (read_size c env at + 1)) index ++ (int_inst c (place + (read_size c env at + 1 + read_size c env index)) 132 (read_id c env (place + (read_size c env at + 1)) index ∷ number c (stride / 4) ∷ []) ∷ int_inst c (place + (read_size c env at + 1 + read_size c env index + 1)) 128 (result c (place + (read_size c env at + 1 + read_size c env index)) ∷ result c (place + read_size c env at) ∷ []) ∷ [])) ≡ read_size c env index + 2 = length-append (read_code c env (place + (read_size c env at + 1)) index) _ ∙ ap (λ n. n + 2) (read_length c env (place + (read_size c env at + 1)) index) in
    length-append (read_code c env place at) _ ∙ (let sum : length (read_code c env place at) + suc (length (read_code c env (place + (read_size c env at + 1)) index ++ (int_inst c (place + (read_size c env at + 1 + read_size c env index)) 132 (read_id c env (place + (read_size c env at + 1)) index ∷ number c (stride / 4) ∷ []) ∷ int_inst c (place + (read_size c env at + 1 + read_size c env index + 1)) 128 (result c (place + (read_size c env at + 1 + read_size c env index)) ∷ result c (place + read_size c env at) ∷ []) ∷ []))) ≡ read_size c env at + 1 + read_size c env index + 2 = omega (arith, inner, read_length c env place at) in sum)
base_length c env place (Row index) = read_length c env place index
base_length c env place (Index index) = read_length c env place index

pub word_of_part : (s : Setting) → Declares s → (i : ℕ) (env : Env) (place : ℕ) (regs : Registers) (t : State) (addr : Addr) (part base : ℕ) → (adds addr part ≡ true → Uses s (global.Number part)) → Numbered s i env place (base_size s.context env addr) regs t (base_id s.context env place addr) base → Has s.made place (word_code s.context env place addr part) → Numbered s i env place (word_size s.context env addr part) regs t (word_id s.context env place addr part) (part_word addr part base)
word_of_part s d i env place regs t addr part base uses b has =
    let c : Context = s.context in
    let n : ℕ = base_size c env addr in
    let tail : List Inst = if adds addr part then int_inst c (place + n) 128 (base_id c env place addr ∷ number c part ∷ []) ∷ [] else [] in
    let behind = has_at s.made (place + length (base_code c env place addr)) (place + n) tail (ap (λ j. place + j) (base_length c env place addr)) (has_back s.made place (base_code c env place addr) tail has) in
    by_test (adds addr part) refl behind
  where
    by_test : (x : Bool) → adds addr part ≡ x → Has s.made (place + base_size s.context env addr) (if x then int_inst s.context (place + base_size s.context env addr) 128 (base_id s.context env place addr ∷ number s.context part ∷ []) ∷ [] else []) → Numbered s i env place (base_size s.context env addr + (if x then 1 else 0)) regs t (if x then result s.context (place + base_size s.context env addr) else base_id s.context env place addr) (if x then word_add base part else base)
    by_test true e code =
        let q : ℕ = place + base_size s.context env addr in
        let x = next_two s d i env q regs b.t' 128 (int_id s.context) (base_id s.context env place addr) (number s.context part) (Word base) (Word part) (Word (word_add base part)) _ b.ahead.held code.0 refl b.is (fixed_here s b.t' (number s.context part) (Word part) (d.numbers part (uses e))) refl in
        record {
          t' = gave s q (Word (word_add base part)) b.t';
          ahead = more s i env place (base_size s.context env addr) (base_size s.context env addr + 1) q regs t b.t' (Word (word_add base part)) b.ahead refl refl x;
          is = x.is;
        }
    by_test false e code =
        let same : base_size s.context env addr ≡ base_size s.context env addr + 0 = omega arith in
        record { t' = b.t'; ahead = subst (λ n. Ahead s i env place n regs t b.t') same b.ahead; is = b.is }

pub word_length : (c : Context) (env : Env) (place : ℕ) (addr : Addr) (part : ℕ) → length (word_code c env place addr part) ≡ word_size c env addr part
word_length c env place addr part =
    length-append (base_code c env place addr) _ ∙ ap (λ n. n + length (if adds addr part then int_inst c (place + base_size c env addr) 128 (base_id c env place addr ∷ number c part ∷ []) ∷ [] else [])) (base_length c env place addr) ∙ ap (λ n. base_size c env addr + n) (by_test (adds addr part))
  where
    by_test : (x : Bool) → length (if x then int_inst c (place + base_size c env addr) 128 (base_id c env place addr ∷ number c part ∷ []) ∷ [] else []) ≡ (if x then 1 else 0)
    by_test true = refl
    by_test false = refl

-- ---- the pointer

pub record Chained (s : Setting) (i : ℕ) (env : Env) (place n : ℕ) (regs : Registers) (t : State) (id variable : ℕ) (indices : List ℕ) : Type 0 where
  pub t' : State
  pub ahead : Ahead s i env place n regs t t'
  pub is : value_of s.made t' id ≡ Some (Pointer variable indices)

-- the indices of the chain have these numbers
pub chain_of : (s : Setting) → Declares s → (i : ℕ) (env : Env) (place : ℕ) (regs : Registers) (t : State) (target : Target) (addr : Addr) (part word variable : ℕ) (indices : List ℕ) → spv.fixed s.made (target_id s.context target) ≡ Some (Pointer variable []) → (w : Numbered s i env place (word_size s.context env addr part) regs t (word_id s.context env place addr part) word) → words_at s.made w.t' (chain_indices s.context addr (word_id s.context env place addr part) part) ≡ Some indices → Has s.made place (chain_code s.context env place target addr part) → Chained s i env place (chain_size s.context env addr part) regs t (chain_id s.context env place addr part) variable indices
chain_of s d i env place regs t target addr part word variable indices pointer w are has =
    let c : Context = s.context in
    let n : ℕ = word_size c env addr part in
    let q : ℕ = place + n in
    let id : ℕ = word_id c env place addr part in
    let last : Inst = inst 65 (pointer_id c addr ∷ chain_id c env place addr part ∷ target_id c target ∷ chain_indices c addr id part) in
    let behind = has_at s.made (place + length (word_code c env place addr part)) q (last ∷ []) (ap (λ j. place + j) (word_length c env place addr part)) (has_back s.made place (word_code c env place addr part) (last ∷ []) has) in
    let v : Value = Pointer variable indices in
    let does = ap (λ o. gives (result c q) (spv.chain o (words_at s.made w.t' (chain_indices c addr id part))) w.t') (fixed_here s w.t' (target_id c target) (Pointer variable []) pointer) ∙ ap (λ o. gives (result c q) (spv.chain (Some (Pointer variable [])) o) w.t') are in
    let x = next_of s d i env q regs w.t' v w.ahead.held (result_at s q 65 _ Chains behind.0 refl refl) (leads_one s i w.t' (gave s q v w.t') q 65 (pointer_id c addr ∷ result c q ∷ target_id c target ∷ chain_indices c addr id part) Chains w.ahead.held.at behind.0 refl does) in
    record {
      t' = gave s q v w.t';
      ahead = more s i env place n (n + 1) q regs t w.t' v w.ahead refl refl x;
      is = x.is;
    }
