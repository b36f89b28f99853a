-- A part of an access: whether its word is in range, and a pointer to it.
use Rattle.std.proofs.Common.{◌≡◌, ℕ, suc, ◌+◌, ◌*◌, ◌/◌, ◌%◌, ◌^◌, ◌<◌, ◌≤◌, Bool, true, false, [], ◌∷◌, Some, refl, sym, ap, ◌∙◌, subst, arith}
use Rattle.std.specs.Prelude.{nat_eq, nat_lt, nat_le, ◌&&◌, slice_get, slice_index, if◌then◌else◌}
use Rattle.std.proofs.lemmas.Bool.Decides.{nat_tests}
use Rattle.std.proofs.Math.Nat.{le-div_iff_mul-le}
use Rattle.dxil_form.specs.declared.value.Ty.TheVariants as ty
use Rattle.dxil_form.specs.declared.value.Operand.{Operand}
use Rattle.dxil_form.specs.declared.value.Operand.TheVariants as operand
use Rattle.dxil_form.specs.declared.instr.Addr.{Addr}
use Rattle.dxil_form.specs.declared.instr.Addr.TheVariants.{Byte, Element, Row, Index}
use Rattle.dxil_form.specs.declared.instr.Target.{Target}
use Rattle.dxil_form.specs.declared.instr.Target.TheVariants as target
use Rattle.dxil_form.specs.declared.program.Resource.{Resource}
use Rattle.dxil_form.specs.declared.program.Kind.{Kind}
use Rattle.dxil_form.specs.declared.program.Kind.TheVariants as kind
use Rattle.dxil_form.specs.Sound.{Sound, KindFits}
use Rattle.dxil_meaning.specs.Arithmetic.{word_add, word_mul, word_shr}
use Rattle.dxil_meaning.specs.Fits.{Fits}
use Rattle.dxil_meaning.specs.Source.{Registers, Words, address, rows_at, rows_in, rows_of, if_in, place_of}
use Rattle.spirv_meaning.specs.Target.{Word, Pointer, State, is_class, over_vectors, buffer_of, shared_size, fixed, value_of, words_at, both_words, as_word}
use Rattle.spirv_code.specs.declared.key.Global.TheVariants as global
use Rattle.spirv_code.specs.Plans.{number}
use Rattle.spirv_code.specs.Reads.{Env, no_register}
use Rattle.spirv_code.specs.Accesses.{adds, is_never, test_code, test_size, test_id, base_code, word_code, word_size, chain_indices, chain_code, chain_size, chain_id, word_id}
use Rattle.line_runs.specs.Held.{Setting, Held, Has, Uses}
use Rattle.line_runs.specs.Declared.{Declares, IsBuffer, has_rows, buffer_class}
use Rattle.line_runs.specs.Ready.{Ready, CanRead}
use Rattle.line_runs.proofs.Tests.{true_false, nat_eq-eq}
use Rattle.line_runs.proofs.Pieces.{has_front}
use Rattle.line_runs.proofs.Results.{fixed_here}
use Rattle.access_runs.specs.Parts.{AddrReady}
use Rattle.access_runs.proofs.Stepping.{Ahead}
use Rattle.access_runs.proofs.Addressing.{small, rows_fit, byte_at, element_at, row_at, index_at}
use Rattle.access_runs.proofs.Ranges.{Tested, byte_tested, index_tested}
use Rattle.access_runs.proofs.Elements.{element_tested}
use Rattle.access_runs.proofs.Chains.{Numbered, part_word, byte_base, element_base, index_base, word_of_part, chain_of}
use Rattle.access_runs.proofs.Places.{other_class, word_place, row_place, shared_place}
use Rattle.access_runs.proofs.Events.{Points}

-- an operand that can be read where no register is known can be read anywhere
pub ready_anywhere : (s : Setting) (env : Env) (a : Operand) → Ready s no_register a ty.Int → Ready s env a ty.Int
unfolding no_register
ready_anywhere s env a r = record { typed = r.typed; needs = r.needs; can = anywhere a r.can }
  where
    anywhere : (a : Operand) → CanRead s no_register a → CanRead s env a
    anywhere (operand.Reg reg type) can = λ e. can refl
    anywhere (operand.Int n) can = tt
    anywhere (operand.Bool b) can = tt
    anywhere (operand.Undef type) can = tt

-- the pointer of a part, in the block of the event
pub record Pointed (s : Setting) (i place : ℕ) (regs : Registers) (t : State) (target : Target) (addr : Addr) (part word : ℕ) : Type 0 where
  pub t' : State
  pub ahead : Ahead s i no_register place (chain_size s.context no_register addr part) regs t t'
  pub points : Points s t' (chain_id s.context no_register place addr part) (place_of target word)

-- the word of a part is told by a test, and in range there is a pointer to it
pub record Located (s : Setting) (i : ℕ) (env : Env) (place : ℕ) (regs : Registers) (t : State) (target : Target) (addr : Addr) (part : ℕ) (words : Words) : Type 0 where
  pub b : Bool
  pub word : ℕ
  pub words_are : words part ≡ if_in b word
  pub tested : Tested s i env place (test_size s.context env addr part) regs t (test_id s.context env place addr part) b
  pub pointed : b ≡ true → (p : ℕ) (t0 : State) → Held s no_register p regs t0 → Has s.made p (chain_code s.context no_register p target addr part) → Pointed s i p regs t0 target addr part word

two_words_at : (s : Setting) (t : State) (a b x y : ℕ) → value_of s.made t a ≡ Some (Word x) → value_of s.made t b ≡ Some (Word y) → words_at s.made t (a ∷ b ∷ []) ≡ Some (x ∷ y ∷ [])
two_words_at s t a b x y isa isb =
    ap (λ o. both_words (as_word o) (words_at s.made t (b ∷ []))) isa ∙ ap (λ o. both_words (Some x) (both_words (as_word o) (Some []))) isb

three_words_at : (s : Setting) (t : State) (a b c x y z : ℕ) → value_of s.made t a ≡ Some (Word x) → value_of s.made t b ≡ Some (Word y) → value_of s.made t c ≡ Some (Word z) → words_at s.made t (a ∷ b ∷ c ∷ []) ≡ Some (x ∷ y ∷ z ∷ [])
three_words_at s t a b c x y z isa isb isc =
    ap (λ o. both_words (as_word o) (words_at s.made t (b ∷ c ∷ []))) isa ∙ ap (λ o. both_words (Some x) o) (two_words_at s t b c y z isb isc)

one_word_at : (s : Setting) (t : State) (a x : ℕ) → value_of s.made t a ≡ Some (Word x) → words_at s.made t (a ∷ []) ≡ Some (x ∷ [])
one_word_at s t a x isa = ap (λ o. both_words (as_word o) (Some [])) isa

less_is : (x y : ℕ) → nat_lt x y ≡ true → x < y
less_is x y e = grind (arith, nat_tests)

-- a buffer of words, by the layout of its resource
pub record IsWords (s : Setting) (id : ℕ) : Type 0 where
  pub pointer : fixed s.made id ≡ Some (Pointer id [])
  pub class : is_class s.made id 12 ≡ true
  pub no_vectors : over_vectors s.made id ≡ false

words_of_buffer : (s : Setting) (r : ℕ) (resource : Resource) (id : ℕ) → has_rows resource.kind ≡ false → IsBuffer s r resource id → IsWords s id
words_of_buffer s r resource id words b =
    record { pointer = b.variable.pointer; class = by_kind resource.kind words b.variable.class_is; no_vectors = b.rows ∙ words }
  where
    by_kind : (k : Kind) → has_rows k ≡ false → is_class s.made id (buffer_class k) ≡ true → is_class s.made id 12 ≡ true
    by_kind kind.Raw w e = e
    by_kind (kind.Structured stride) w e = e
    by_kind (kind.Constant rows) w e = absurd (true_false w)

-- a pointer through member 0 of a buffer of words
word_pointed : (s : Setting) → Declares s → (i p : ℕ) (regs : Registers) (t0 : State) (r : ℕ) (addr : Addr) (part word base : ℕ) → IsWords s (s.context.key (global.Buffer r)) → buffer_of s.made s.bindings (s.context.key (global.Buffer r)) ≡ Some r → word < slice_index s.launch.sizes r → part_word addr part base ≡ word → chain_indices s.context addr (word_id s.context no_register p addr part) part ≡ number s.context 0 ∷ word_id s.context no_register p addr part ∷ [] → Uses s (global.Number 0) → Numbered s i no_register p (word_size s.context no_register addr part) regs t0 (word_id s.context no_register p addr part) (part_word addr part base) → Has s.made p (chain_code s.context no_register p (target.Buffer r) addr part) → Pointed s i p regs t0 (target.Buffer r) addr part word
word_pointed s d i p regs t0 r addr part word base w stands below is indices uses n code =
    let id : ℕ = s.context.key (global.Buffer r) in
    let zero_at = fixed_here s n.t' (number s.context 0) (Word 0) (d.numbers 0 uses) in
    let are = ap (words_at s.made n.t') indices ∙ two_words_at s n.t' (number s.context 0) (word_id s.context no_register p addr part) 0 word zero_at (n.is ∙ ap (λ k. Some (Word k)) is) in
    let c = chain_of s d i no_register p regs t0 (target.Buffer r) addr part (part_word addr part base) id (0 ∷ word ∷ []) w.pointer n are code in
    record {
      t' = c.t';
      ahead = c.ahead;
      points = record {
        variable = id;
        indices = 0 ∷ word ∷ [];
        is = c.is;
        goes = word_place s r id word w.class w.no_vectors stands below;
        no_local = other_class s id 12 7 refl w.class;
        no_input = other_class s id 12 1 refl w.class;
      };
    }

-- ---- bytes

byte_word : (at : Operand) (n part len : ℕ) → len < 2 ^ 30 → part ≤ 3 → n / 4 + part < len → part_word (Byte at) part (word_shr n 2) ≡ n / 4 + part
byte_word at n part len small few below = by_test (nat_eq part 0) refl
  where
    by_test : (b : Bool) → nat_eq part 0 ≡ b → (if (if b then false else true) then word_add (n / 4) part else n / 4) ≡ n / 4 + part
    by_test true e = let zero : part ≡ 0 = nat_eq-eq part 0 e in omega (arith, zero)
    by_test false e = omega arith

pub byte_located : (s : Setting) → Declares s → Fits s.program s.launch → (i : ℕ) (env : Env) (place : ℕ) (regs : Registers) (t : State) (r : ℕ) (at : Operand) (part : ℕ) (words : Words) → part ≤ 3 → AddrReady s (target.Buffer r) (Byte at) part → address s.program s.launch regs (target.Buffer r) (Byte at) ≡ Some words → Held s env place regs t → Has s.made place (test_code s.context env place (target.Buffer r) (Byte at) part) → Located s i env place regs t (target.Buffer r) (Byte at) part words
byte_located s d fits i env place regs t r at part words few ready is h has =
    let resource : Resource = ready.0.0 in
    let at_r : slice_get s.program.resources r ≡ Some resource = ready.0.1 in
    let raw : resource.kind ≡ kind.Raw = ready.0.2 in
    let plain : has_rows resource.kind ≡ false = ap has_rows raw in
    let uses = ready.1 in
    let operand_ready : Ready s no_register at ty.Int = ready.2 in
    let a = byte_at s.program s.launch regs (target.Buffer r) at words is in
    let len : ℕ = slice_index s.launch.sizes r in
    let bound : len < 2 ^ 30 = small s.program s.launch fits r resource at_r in
    let buffer = d.buffers r resource uses at_r in
    let w = words_of_buffer s r resource (s.context.key (global.Buffer r)) plain buffer in
    record {
      b = nat_lt (a.n / 4 + part) len;
      word = a.n / 4 + part;
      words_are = a.words_are part;
      tested = byte_tested s d fits i env place regs t r resource at a.n part few bound at_r plain uses ready.3 ready.5 (ready_anywhere s env at operand_ready) a.is h has;
      pointed = λ inside p t0 h0 code. (let below : a.n / 4 + part < len = less_is (a.n / 4 + part) len inside in
          let base = byte_base s d i no_register p regs t0 at a.n ready.3 operand_ready a.is h0 (has_front s.made p (base_code s.context no_register p (Byte at)) _ (has_front s.made p (word_code s.context no_register p (Byte at) part) _ code)) in
          let word = word_of_part s d i no_register p regs t0 (Byte at) part (word_shr a.n 2) (λ e. ready.5) base (has_front s.made p (word_code s.context no_register p (Byte at) part) _ code) in
          word_pointed s d i p regs t0 r (Byte at) part (a.n / 4 + part) (word_shr a.n 2) w buffer.stands_for below (byte_word at a.n part len bound few below) refl ready.4 word code);
    }

-- ---- elements

element_word : (index at : Operand) (stride k n part len : ℕ) → n % 4 ≡ 0 → stride % 4 ≡ 0 → 4 ≤ stride → len < 2 ^ 30 → part ≤ 3 → n + 4 * part + 4 ≤ stride → k < len / (stride / 4) → part_word (Element index at stride) part (word_add (word_mul k (stride / 4)) (word_shr n 2)) ≡ (k * stride + n) / 4 + part
element_word index at stride k n part len whole whole' least small few room below = by_test (nat_eq part 0) refl
  where
    q : ℕ
    q = stride / 4

    four : stride ≡ 4 * q
    four = omega (arith, whole')

    product : k * stride ≡ 4 * (k * q)
    product = subst (λ x. k * x ≡ 4 * (k * q)) (sym four) (omega arith)

    positive : 0 < q
    positive = omega (arith, least)

    fits : suc k * q ≤ len
    fits = (le-div_iff_mul-le positive).0 below

    within : k * q + q ≤ len
    within = let same : suc k * q ≡ k * q + q = omega arith in omega (arith, same, fits)

    quotient : (k * stride + n) / 4 ≡ k * q + n / 4
    quotient = omega (arith, product, whole)

    by_test : (b : Bool) → nat_eq part 0 ≡ b → (if (if b then false else true) then word_add (word_add (word_mul k q) (word_shr n 2)) part else word_add (word_mul k q) (word_shr n 2)) ≡ (k * stride + n) / 4 + part
    by_test true e =
        let none : part ≡ 0 = nat_eq-eq part 0 e in
        omega (arith, none, quotient, within, four, room, small)
    by_test false e = omega (arith, quotient, within, four, room, small, few)

never_fits : (stride part : ℕ) → nat_lt stride (4 + 4 * part) ≡ false → 4 + 4 * part ≤ stride
never_fits stride part e = grind (arith, nat_tests)

both_true_lt : (x y : Bool) → (x && y) ≡ true → (x ≡ true) × (y ≡ true)
both_true_lt true y e = (refl, e)
both_true_lt false y e = absurd (true_false (sym e))

le_is : (x y : ℕ) → nat_le x y ≡ true → x ≤ y
le_is x y e = grind (arith, nat_tests)

-- the stride of a structured buffer
strides : (s : Setting) → Sound s.program → (r : ℕ) (resource : Resource) (stride : ℕ) → slice_get s.program.resources r ≡ Some resource → resource.kind ≡ kind.Structured stride → (4 ≤ stride) × (stride % 4 ≡ 0)
strides s sound r resource stride at structured =
    let fits = subst (λ k. KindFits k resource.class) structured (sound.resources r resource at).kind in
    (fits.1, fits.3)

pub element_located : (s : Setting) → Declares s → Sound s.program → Fits s.program s.launch → (i : ℕ) (env : Env) (place : ℕ) (regs : Registers) (t : State) (r : ℕ) (index at : Operand) (stride part : ℕ) (words : Words) → part ≤ 3 → is_never (Element index at stride) part ≡ false → AddrReady s (target.Buffer r) (Element index at stride) part → address s.program s.launch regs (target.Buffer r) (Element index at stride) ≡ Some words → Held s env place regs t → Has s.made place (test_code s.context env place (target.Buffer r) (Element index at stride) part) → Located s i env place regs t (target.Buffer r) (Element index at stride) part words
element_located s d sound fits i env place regs t r index at stride part words few room ready is h has =
    let resource : Resource = ready.0.0 in
    let at_r : slice_get s.program.resources r ≡ Some resource = ready.0.1 in
    let structured : resource.kind ≡ kind.Structured stride = ready.0.2 in
    let plain : has_rows resource.kind ≡ false = ap has_rows structured in
    let ready_index : Ready s no_register index ty.Int = ready.2 in
    let ready_at : Ready s no_register at ty.Int = ready.3 in
    let a = element_at s.program s.launch regs (target.Buffer r) index at stride words is in
    let len : ℕ = slice_index s.launch.sizes r in
    let bound : len < 2 ^ 30 = small s.program s.launch fits r resource at_r in
    let buffer = d.buffers r resource ready.1 at_r in
    let w = words_of_buffer s r resource (s.context.key (global.Buffer r)) plain buffer in
    let stride_is = strides s sound r resource stride at_r structured in
    record {
      b = nat_le (a.n + 4 * part + 4) stride && nat_lt a.k (len / (stride / 4));
      word = (a.k * stride + a.n) / 4 + part;
      words_are = a.words_are part;
      tested = element_tested s d i env place regs t r resource index at stride a.k a.n part room at_r plain ready.1 ready.8 ready.7 (ready_anywhere s env index ready_index) (ready_anywhere s env at ready_at) a.index_is a.is h has;
      pointed = λ inside p t0 h0 code. (let both = both_true_lt (nat_le (a.n + 4 * part + 4) stride) (nat_lt a.k (len / (stride / 4))) inside in
          let fits_in : a.n + 4 * part + 4 ≤ stride = le_is (a.n + 4 * part + 4) stride both.0 in
          let below : a.k < len / (stride / 4) = less_is a.k (len / (stride / 4)) both.1 in
          let base = element_base s d i no_register p regs t0 index at stride a.k a.n ready.4 ready.7 ready_index ready_at a.index_is a.is h0 (has_front s.made p (base_code s.context no_register p (Element index at stride)) _ (has_front s.made p (word_code s.context no_register p (Element index at stride) part) _ code)) in
          let word = word_of_part s d i no_register p regs t0 (Element index at stride) part (word_add (word_mul a.k (stride / 4)) (word_shr a.n 2)) (λ e. ready.6) base (has_front s.made p (word_code s.context no_register p (Element index at stride) part) _ code) in
          word_pointed s d i p regs t0 r (Element index at stride) part ((a.k * stride + a.n) / 4 + part) (word_add (word_mul a.k (stride / 4)) (word_shr a.n 2)) w buffer.stands_for (element_in a.k a.n stride part len a.whole stride_is.1 stride_is.0 fits_in below) (element_word index at stride a.k a.n part len a.whole stride_is.1 stride_is.0 bound few fits_in below) refl ready.5 word code);
    }
  where
    element_in : (k n stride part len : ℕ) → n % 4 ≡ 0 → stride % 4 ≡ 0 → 4 ≤ stride → n + 4 * part + 4 ≤ stride → k < len / (stride / 4) → (k * stride + n) / 4 + part < len
    element_in k n stride part len whole whole' least room below =
        let q : ℕ = stride / 4 in
        let four : stride ≡ 4 * q = omega (arith, whole') in
        let product : k * stride ≡ 4 * (k * q) = subst (λ x. k * x ≡ 4 * (k * q)) (sym four) (omega arith) in
        let positive : 0 < q = omega (arith, least) in
        let fits : suc k * q ≤ len = (le-div_iff_mul-le positive).0 below in
        let same : suc k * q ≡ k * q + q = omega arith in
        let quotient : (k * stride + n) / 4 ≡ k * q + n / 4 = omega (arith, product, whole) in
        omega (arith, quotient, same, fits, four, room)

-- ---- rows

pub row_located : (s : Setting) → Declares s → Fits s.program s.launch → (i : ℕ) (env : Env) (place : ℕ) (regs : Registers) (t : State) (r : ℕ) (index : Operand) (part : ℕ) (words : Words) → part ≤ 3 → s.context.limit (target.Buffer r) ≡ rows_at s.program (target.Buffer r) → AddrReady s (target.Buffer r) (Row index) part → address s.program s.launch regs (target.Buffer r) (Row index) ≡ Some words → Held s env place regs t → Has s.made place (test_code s.context env place (target.Buffer r) (Row index) part) → Located s i env place regs t (target.Buffer r) (Row index) part words
row_located s d fits i env place regs t r index part words few limit_is ready is h has =
    let resource : Resource = ready.0.0 in
    let rows : ℕ = ready.0.1 in
    let at_r : slice_get s.program.resources r ≡ Some resource = ready.0.2 in
    let constant : resource.kind ≡ kind.Constant rows = ready.0.3 in
    let ready_index : Ready s no_register index ty.Int = ready.2 in
    let a = row_at s.program s.launch regs (target.Buffer r) index words is in
    let id : ℕ = s.context.key (global.Buffer r) in
    let buffer = d.buffers r resource ready.1 at_r in
    let class : is_class s.made id 2 ≡ true = subst (λ k. is_class s.made id (buffer_class k) ≡ true) constant buffer.variable.class_is in
    let vectors : over_vectors s.made id ≡ true = buffer.rows ∙ ap has_rows constant in
    let limit : ℕ = s.context.limit (target.Buffer r) in
    let rows_is : rows_at s.program (target.Buffer r) ≡ rows_of resource.kind = ap rows_in at_r in
    record {
      b = nat_lt a.k limit;
      word = 4 * a.k + part;
      words_are = a.words_are part ∙ ap (λ n. if_in (nat_lt a.k n) (4 * a.k + part)) (sym limit_is);
      tested = index_tested s d i env place regs t index a.k limit (ready_anywhere s env index ready_index) ready.3 a.is h has;
      pointed = λ inside p t0 h0 code. (let below : a.k < limit = less_is a.k limit inside in
          let base = index_base s d i no_register p regs t0 index a.k ready_index a.is h0 (has_front s.made p (base_code s.context no_register p (Row index)) _ (has_front s.made p (word_code s.context no_register p (Row index) part) _ code)) in
          let n = word_of_part s d i no_register p regs t0 (Row index) part a.k (λ e. ready.5) base (has_front s.made p (word_code s.context no_register p (Row index) part) _ code) in
          let plain_word : part_word (Row index) part a.k ≡ a.k = no_sum part a.k in
          let zero_at = fixed_here s n.t' (number s.context 0) (Word 0) (d.numbers 0 ready.4) in
          let part_at = fixed_here s n.t' (number s.context part) (Word part) (d.numbers part ready.5) in
          let are = three_words_at s n.t' (number s.context 0) (word_id s.context no_register p (Row index) part) (number s.context part) 0 a.k part zero_at (n.is ∙ ap (λ k. Some (Word k)) plain_word) part_at in
          let c = chain_of s d i no_register p regs t0 (target.Buffer r) (Row index) part (part_word (Row index) part a.k) id (0 ∷ a.k ∷ part ∷ []) buffer.variable.pointer n are code in
          let room = rows_fit s.program s.launch fits r resource at_r in
          let in_size : 4 * a.k + part < slice_index s.launch.sizes r = omega (arith, below, few, room, limit_is, rows_is) in
          let four : part < 4 = omega (arith, few) in
          record {
            t' = c.t';
            ahead = c.ahead;
            points = record {
              variable = id;
              indices = 0 ∷ a.k ∷ part ∷ [];
              is = c.is;
              goes = row_place s r id a.k part four class vectors buffer.stands_for in_size;
              no_local = other_class s id 2 7 refl class;
              no_input = other_class s id 2 1 refl class;
            };
          });
    }
  where
    no_sum : (part k : ℕ) → part_word (Row index) part k ≡ k
    no_sum part k = by_test (nat_eq part 0)
      where
        by_test : (b : Bool) → (if (if b then false else false) then word_add k part else k) ≡ k
        by_test true = refl
        by_test false = refl

-- ---- groupshared arrays

pub index_located : (s : Setting) → Declares s → (i : ℕ) (env : Env) (place : ℕ) (regs : Registers) (t : State) (array : ℕ) (index : Operand) (part : ℕ) (words : Words) → s.context.limit (target.Shared array) ≡ slice_index s.program.shared array → AddrReady s (target.Shared array) (Index index) part → address s.program s.launch regs (target.Shared array) (Index index) ≡ Some words → Held s env place regs t → Has s.made place (test_code s.context env place (target.Shared array) (Index index) part) → Located s i env place regs t (target.Shared array) (Index index) part words
index_located s d i env place regs t array index part words limit_is ready is h has =
    let ready_index : Ready s no_register index ty.Int = ready.1 in
    let a = index_at s.program s.launch regs (target.Shared array) index words is in
    let id : ℕ = s.context.key (global.Shared array) in
    let variable = d.arrays array ready.0 in
    let limit : ℕ = s.context.limit (target.Shared array) in
    record {
      b = nat_lt a.k limit;
      word = a.k;
      words_are = a.words_are part ∙ ap (λ n. if_in (nat_lt a.k n) a.k) (sym limit_is);
      tested = index_tested s d i env place regs t index a.k limit (ready_anywhere s env index ready_index) ready.2 a.is h has;
      pointed = λ inside p t0 h0 code. (let below : a.k < limit = less_is a.k limit inside in
          let base = index_base s d i no_register p regs t0 index a.k ready_index a.is h0 (has_front s.made p (base_code s.context no_register p (Index index)) _ (has_front s.made p (word_code s.context no_register p (Index index) part) _ code)) in
          let plain_word : part_word (Index index) part a.k ≡ a.k = no_sum part a.k in
          let n = word_of_part s d i no_register p regs t0 (Index index) part a.k (λ e. absurd (no_add part e)) base (has_front s.made p (word_code s.context no_register p (Index index) part) _ code) in
          let are = one_word_at s n.t' (word_id s.context no_register p (Index index) part) a.k (n.is ∙ ap (λ k. Some (Word k)) plain_word) in
          let c = chain_of s d i no_register p regs t0 (target.Shared array) (Index index) part (part_word (Index index) part a.k) id (a.k ∷ []) variable.variable.pointer n are code in
          let in_size : a.k < shared_size s.made id = omega (arith, below, limit_is, variable.size) in
          record {
            t' = c.t';
            ahead = c.ahead;
            points = record {
              variable = id;
              indices = a.k ∷ [];
              is = c.is;
              goes = shared_place s array id a.k variable.variable.class_is variable.number in_size;
              no_local = other_class s id 4 7 refl variable.variable.class_is;
              no_input = other_class s id 4 1 refl variable.variable.class_is;
            };
          });
    }
  where
    no_sum : (part k : ℕ) → part_word (Index index) part k ≡ k
    no_sum part k = by_test (nat_eq part 0)
      where
        by_test : (b : Bool) → (if (if b then false else false) then word_add k part else k) ≡ k
        by_test true = refl
        by_test false = refl

    no_add : (part : ℕ) → adds (Index index) part ≡ true → ⊥
    no_add part e = by_test (nat_eq part 0) e
      where
        by_test : (b : Bool) → (if b then false else false) ≡ true → ⊥
        by_test true e = true_false (sym e)
        by_test false e = true_false (sym e)
