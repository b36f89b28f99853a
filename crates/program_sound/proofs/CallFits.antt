-- What a call of an operation states fits.
use Rattle.std.proofs.Common.{ℕ, zero, suc, ◌≡◌, ◌+◌, ◌≤◌, inl, inr, refl, sym, ap, ◌∙◌, arith, Bool, true, false, cond, not, ◌||◌, nat_lt, List, [], ◌∷◌, slice_get, Option, Some, None, unwrap_or}
use Rattle.std.proofs.lemmas.Bool.{both_ways, and_parts, or_parts, or_cases, leb-true, not-false, not-true}
use Rattle.std.proofs.lemmas.Option.{same_Some}
use Rattle.dx_base.specs.First.{IsSound}
use Rattle.dxil_form.specs.declared.instr.Instr.{Instr}
use Rattle.dxil_form.specs.declared.instr.Instr.TheVariants.{Load}
use Rattle.dxil_form.specs.declared.op.OpKind.{OpKind}
use Rattle.dxil_form.specs.declared.op.OpKind.TheVariants.{Bfrev, Countbits, IMax, IMin, UMax, UMin, IMad, UMad, CreateHandle, CBufferLoad, BufferLoad, BufferStore, AtomicBinOp, AtomicCompareExchange, Barrier, ThreadId, GroupId, ThreadIdInGroup, FlatId, RawLoad, RawStore}
use Rattle.dxil_form.specs.declared.value.Ty.TheVariants as ty
use Rattle.dxil_form.specs.Registers.{in_address, operands_of}
use Rattle.dxil_form.specs.Sound.{HasType, Loads, Writes, InstrFits}
use Rattle.llvm_bodies.specs.declared.line.Line.{Line}
use Rattle.profile_lines.specs.Calls.{operand as number_at, argument, arguments, operation}
use Rattle.profile_lines.specs.Pool.{constant_given}
use Rattle.profile_lines.specs.declared.call.Argument.{Argument}
use Rattle.profile_lines.specs.declared.call.Argument.TheVariants.{Number}
use Rattle.profile_lines.specs.declared.known.ValueKind.TheVariants.{Int}
use Rattle.profile_tables.specs.EntryBody.{EntryBody}
use Rattle.profile_tables.specs.Parts.{mask_of, mask_in, taken_of, bit_if}
use Rattle.profile_tables.specs.Operands.{operand_of}
use Rattle.profile_tables.specs.Read.{IsRead, IsAt}
use Rattle.profile_rules.specs.Asked.{are_arguments, are_numbers, is_number, is_of_kind}
use Rattle.profile_rules.specs.Rules.{Broken, has_bad_constant, are_in_range, is_in, is_within}
use Rattle.stated_program.specs.Instructions.{target, address_at, at, call_of, number_of, constant_at, load_of, store_of}
use Rattle.stated_program.specs.Stated.{program_of}
use Rattle.program_sound.proofs.Clear.{keeps17}
use Rattle.program_sound.proofs.Codes.{asked34}
use Rattle.program_sound.proofs.Plain.{asks, call_fits}
use Rattle.program_sound.proofs.ValueKinds.{same_kind}
use Rattle.program_sound.proofs.Typed.{kind_typed}
use Rattle.program_sound.proofs.Access.{AreTyped, numbers_append, IsInt, IsAccess, OwnAddress, suited_row, loads_buffer, writes_buffer, loads_row}

-- ---- single arguments

within : (least most : ℕ) (o : Option ℕ) → is_within least most o ≡ true → (least ≤ unwrap_or o 0) × (unwrap_or o 0 ≤ most)
within least most None e = cc
within least most (Some n) e = let p = and_parts _ _ e in (leb-true _ _ p.0, leb-true _ _ p.1)

number_arg : (x : EntryBody) (line : Line) (args : List Argument) (place k : ℕ) → are_numbers x line place args ≡ true → slice_get args k ≡ Some Number → is_of_kind x line (place + k) Int ≡ true
number_arg x line [] place k e at = cc
number_arg x line (a ∷ args) place zero e at =
    let p = and_parts (not (is_number a) || is_of_kind x line place Int) (are_numbers x line (place + 1) args) e in
    let z : place ≡ place + 0 = omega arith in
    let n : is_number a ≡ true = ap is_number (same_Some a Number at) in
    ap (λ j. is_of_kind x line j Int) (sym z) ∙ elim (or_cases (not (is_number a)) (is_of_kind x line place Int) p.0) [ inl f ↦ absurd (both_ways _ (not-true _ f) n) | inr t ↦ t ]
number_arg x line (a ∷ args) place (suc k) e at =
    let p = and_parts (not (is_number a) || is_of_kind x line place Int) (are_numbers x line (place + 1) args) e in
    let z : (place + 1) + k ≡ place + suc k = omega arith in
    ap (λ j. is_of_kind x line j Int) (sym z) ∙ number_arg x line args (place + 1) k p.1 at

bits_low : (a b c d : Bool) → bit_if a 1 + bit_if b 2 + bit_if c 4 + bit_if d 8 ≤ 15
bits_low a b c d = omega (arith, low a 1, low b 2, low c 4, low d 8) where
  low : (a : Bool) (n : ℕ) → bit_if a n ≤ n
  low true n = omega arith
  low false n = omega arith

mask_low : (x : EntryBody) (v : ℕ) → mask_of x v ≤ 15
unfolding mask_of
mask_low x v = go (nat_lt v x.values) where
  go : (b : Bool) → cond b (mask_in (taken_of x.lines v)) 0 ≤ 15
  go true = bits_low (taken_of x.lines v).x (taken_of x.lines v).y (taken_of x.lines v).z (taken_of x.lines v).w
  go false = omega arith

-- ---- what a line states

-- no address of a load names a register of its own value
abbrev pub OwnValue : (ℕ → Type 0) → Instr → Type 0
OwnValue Own (Load to mask target addr) = OwnAddress Own addr
OwnValue Own rest = Unit {0}

pub record IsFitting (x : EntryBody) (counts : List ℕ) (Own : ℕ → Type 0) (instr : Instr) : Type 0 where
  pub fits : InstrFits (program_of x counts) instr
  pub typed : AreTyped x counts (operands_of instr)
  pub own : OwnValue Own instr

module _ (x : EntryBody) (counts : List ℕ) (read : IsRead x counts) (sound : IsSound (Broken x)) (i : ℕ) (line : Line) (here : IsAt x i line) (c : line.code ≡ 34) where
  abbrev Fits : Instr → Type 0
  Fits instr = IsFitting x counts (IsInt x) instr

  args_fit : (op : OpKind) → operation x.pool line ≡ Some op → are_numbers x line 2 (arguments op) ≡ true
  args_fit op e =
      let a : are_arguments x line (Some op) ≡ true = sym (ap (are_arguments x line) e) ∙ sym (asked34 x line c) ∙ asks x counts read sound i line here in
      elim (or_cases _ _ a) [ inl f ↦ absurd (both_ways _ (not-true _ f) (call_fits x counts read sound i line op here c e)) | inr t ↦ t ]

  int : (op : OpKind) (k : ℕ) → operation x.pool line ≡ Some op → slice_get (arguments op) k ≡ Some Number → IsInt x (number_at line (2 + k))
  int op k e at = same_kind _ _ (number_arg x line (arguments op) 2 k (args_fit op e) at)

  typed : (op : OpKind) (k : ℕ) → operation x.pool line ≡ Some op → slice_get (arguments op) k ≡ Some Number → HasType (program_of x counts) (operand_of x (number_at line (2 + k))) ty.Int
  typed op k e at = kind_typed x counts read sound (number_at line (2 + k)) Int (int op k e at) refl

  range : (op : OpKind) → operation x.pool line ≡ Some op → are_in_range x.pool line op ≡ true
  range op e = not-false _ (or_parts _ _ (sym (ap (has_bad_constant x.pool line) e) ∙ keeps17 x sound i line here)).1

  load_fits : IsAccess x counts (IsInt x) Loads (target x line) (address_at x line 2 3) → Fits (load_of x line)
  load_fits a = record { fits = (mask_low x (number_of line), a.fits); typed = a.typed; own = a.own }

  -- a store, the four values of which are numbers
  store_fits : (op : OpKind) → operation x.pool line ≡ Some op → is_in x.pool line 8 8 1 15 ≡ true → IsAccess x counts (IsInt x) Writes (target x line) (address_at x line 2 3)
      → slice_get (arguments op) 3 ≡ Some Number → slice_get (arguments op) 4 ≡ Some Number → slice_get (arguments op) 5 ≡ Some Number → slice_get (arguments op) 6 ≡ Some Number → Fits (store_of x line)
  store_fits op e r a p q s t =
      let m = within 1 15 (constant_given x.pool 8 (argument line 8)) r in
      record {
        fits = (m.0, m.1, a.fits);
        typed = numbers_append x counts (in_address (address_at x line 2 3)) (at x line 5 ∷ at x line 6 ∷ at x line 7 ∷ at x line 8 ∷ []) a.typed (typed op 3 e p, (typed op 4 e q, (typed op 5 e s, (typed op 6 e t, tt))));
        own = tt;
      }

  pub call_is_fitting : (op : OpKind) → operation x.pool line ≡ Some op → IsFitting x counts (IsInt x) (call_of x line op)
  call_is_fitting Bfrev e = record { fits = tt; typed = (typed Bfrev 0 e refl, tt); own = tt }
  call_is_fitting Countbits e = record { fits = tt; typed = (typed Countbits 0 e refl, tt); own = tt }
  call_is_fitting IMax e = record { fits = tt; typed = (typed IMax 0 e refl, (typed IMax 1 e refl, tt)); own = tt }
  call_is_fitting IMin e = record { fits = tt; typed = (typed IMin 0 e refl, (typed IMin 1 e refl, tt)); own = tt }
  call_is_fitting UMax e = record { fits = tt; typed = (typed UMax 0 e refl, (typed UMax 1 e refl, tt)); own = tt }
  call_is_fitting UMin e = record { fits = tt; typed = (typed UMin 0 e refl, (typed UMin 1 e refl, tt)); own = tt }
  call_is_fitting IMad e = record { fits = tt; typed = (typed IMad 0 e refl, (typed IMad 1 e refl, (typed IMad 2 e refl, tt))); own = tt }
  call_is_fitting UMad e = record { fits = tt; typed = (typed UMad 0 e refl, (typed UMad 1 e refl, (typed UMad 2 e refl, tt))); own = tt }
  call_is_fitting CreateHandle e = record { fits = tt; typed = tt; own = tt }
  call_is_fitting CBufferLoad e = load_fits (loads_row x counts read sound line (number_at line 3) (number_at line 4) (int CBufferLoad 1 e refl) (suited_row x counts read sound i line CBufferLoad here e))
  call_is_fitting BufferLoad e = load_fits (loads_buffer x counts read sound line (number_at line 3) (number_at line 4) (int BufferLoad 1 e refl) (int BufferLoad 2 e refl) (suited_row x counts read sound i line BufferLoad here e))
  call_is_fitting RawLoad e = load_fits (loads_buffer x counts read sound line (number_at line 3) (number_at line 4) (int RawLoad 1 e refl) (int RawLoad 2 e refl) (suited_row x counts read sound i line RawLoad here e))
  call_is_fitting BufferStore e = store_fits BufferStore e (range BufferStore e) (writes_buffer x counts read sound line (number_at line 3) (number_at line 4) (int BufferStore 1 e refl) (int BufferStore 2 e refl) (suited_row x counts read sound i line BufferStore here e)) refl refl refl refl
  call_is_fitting RawStore e = store_fits RawStore e (range RawStore e) (writes_buffer x counts read sound line (number_at line 3) (number_at line 4) (int RawStore 1 e refl) (int RawStore 2 e refl) (suited_row x counts read sound i line RawStore here e)) refl refl refl refl
  call_is_fitting AtomicBinOp e = let a = writes_buffer x counts read sound line (number_at line 4) (number_at line 5) (int AtomicBinOp 2 e refl) (int AtomicBinOp 3 e refl) (suited_row x counts read sound i line AtomicBinOp here e) in
      record { fits = a.fits; typed = numbers_append x counts (in_address (address_at x line 3 4)) (at x line 7 ∷ []) a.typed (typed AtomicBinOp 5 e refl, tt); own = tt }
  call_is_fitting AtomicCompareExchange e = let a = writes_buffer x counts read sound line (number_at line 3) (number_at line 4) (int AtomicCompareExchange 1 e refl) (int AtomicCompareExchange 2 e refl) (suited_row x counts read sound i line AtomicCompareExchange here e) in
      record { fits = a.fits; typed = numbers_append x counts (in_address (address_at x line 2 3)) (at x line 6 ∷ at x line 7 ∷ []) a.typed (typed AtomicCompareExchange 4 e refl, (typed AtomicCompareExchange 5 e refl, tt)); own = tt }
  call_is_fitting Barrier e = let m = within 1 15 (constant_given x.pool 32 (argument line 1)) (range Barrier e) in
      record { fits = record { mode = constant_at x line 1 32; least = m.0; most = m.1; sync_is = refl; uav_is = refl; shared_is = refl; scope_is = refl }; typed = tt; own = tt }
  call_is_fitting ThreadId e = record { fits = (within 0 2 (constant_given x.pool 32 (argument line 1)) (range ThreadId e)).1; typed = tt; own = tt }
  call_is_fitting GroupId e = record { fits = (within 0 2 (constant_given x.pool 32 (argument line 1)) (range GroupId e)).1; typed = tt; own = tt }
  call_is_fitting ThreadIdInGroup e = record { fits = (within 0 2 (constant_given x.pool 32 (argument line 1)) (range ThreadIdInGroup e)).1; typed = tt; own = tt }
  call_is_fitting FlatId e = record { fits = refl; typed = tt; own = tt }
