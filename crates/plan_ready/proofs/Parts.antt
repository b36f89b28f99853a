-- Parts of accesses are ready.
use Rattle.std.proofs.Common.{◌≡◌, ◌≢◌, ℕ, zero, suc, ◌+◌, ◌-◌, ◌*◌, ◌/◌, ◌≤◌, ◌<◌, Bool, true, false, List, [], ◌∷◌, refl, sym, ap, ◌∙◌, subst, arith, inl, inr, ⊎_elim}
use Rattle.std.specs.Prelude.{◌%◌, ◌^◌, nat_eq, filter, if◌then◌else◌}
use Rattle.dxil_form.specs.declared.value.Ty.TheVariants as ty
use Rattle.dxil_form.specs.declared.value.Operand.{Operand}
use Rattle.dxil_form.specs.declared.instr.Addr.{Addr}
use Rattle.dxil_form.specs.declared.instr.Addr.TheVariants.{Byte, Element, Row, Index}
use Rattle.dxil_form.specs.declared.instr.Target.{Target}
use Rattle.dxil_form.specs.declared.instr.Target.TheVariants as target
use Rattle.dxil_form.specs.declared.program.Class.{Class}
use Rattle.dxil_form.specs.declared.program.Class.TheVariants.{Cbv}
use Rattle.dxil_form.specs.declared.program.Kind.{Kind}
use Rattle.dxil_form.specs.declared.program.Kind.TheVariants as kind
use Rattle.dxil_form.specs.declared.program.Program.{Program}
use Rattle.dxil_form.specs.Registers.{in_address, parts_of}
use Rattle.dxil_form.specs.Sound.{Use, Loads, Writes, AccessFits, KindFits}
use Rattle.spirv_code.specs.declared.key.Global.{Global}
use Rattle.spirv_code.specs.declared.key.Global.TheVariants as global
use Rattle.spirv_code.specs.declared.event.Event.{Event}
use Rattle.spirv_code.specs.Plans.{limit_of}
use Rattle.spirv_code.specs.Reads.{no_register}
use Rattle.spirv_code.specs.Accesses.{is_never}
use Rattle.spirv_code.specs.Needed.{operand_keys, target_key, place_reads, place_numbers, address_keys, event_keys, place_keys, access_keys, parts_keys}
use Rattle.line_runs.specs.Held.{Setting, Uses}
use Rattle.line_runs.specs.Ready.{Ready}
use Rattle.access_runs.specs.Parts.{AddrReady, EventReady, ZerosReady, PartReady}
use Rattle.block_runs.specs.Inside.{PartsReady}
use Rattle.plan_ready.proofs.Among.{Among, among_front, among_back}
use Rattle.frame_facts.proofs.Tabled.{IsKnown}
use Rattle.plan_ready.proofs.Base.{Base}
use Rattle.plan_ready.proofs.Operands.{AllUsed}

-- ---- masks

-- the parts of a mask are among the four, and a mask that is not zero has one
filter_among : (test : ℕ → Bool) (x : ℕ) (xs : List ℕ) → Among x (filter test xs) → Among x xs
filter_among test x [] h = absurd h
filter_among test x (y ∷ xs) h = by_test (test y) (filter_among test x xs) h
  where
    by_test : (b : Bool) → (Among x (filter test xs) → Among x xs) → Among x (if b then y ∷ filter test xs else filter test xs) → Among x (y ∷ xs)
    by_test true rest h = ⊎_elim (λ e. inl e) (λ h. inr (rest h)) h
    by_test false rest h = inr (rest h)

pub part_few : (mask part : ℕ) → Among part (parts_of mask) → part ≤ 3
part_few mask part h = by_four (filter_among (λ c. nat_eq (mask / 2 ^ c % 2) 1) part (0 ∷ 1 ∷ 2 ∷ 3 ∷ []) h)
  where
    by_four : Among part (0 ∷ 1 ∷ 2 ∷ 3 ∷ []) → part ≤ 3
    by_four (inl e) = omega (arith, e)
    by_four (inr (inl e)) = omega (arith, e)
    by_four (inr (inr (inl e))) = omega (arith, e)
    by_four (inr (inr (inr (inl e)))) = omega (arith, e)
    by_four (inr (inr (inr (inr none)))) = absurd none

filter_none : (test : ℕ → Bool) (x : ℕ) (xs : List ℕ) → filter test xs ≡ [] → Among x xs → test x ≡ false
filter_none test x [] e h = absurd h
filter_none test x (y ∷ xs) e h = by_test (filter_none test x xs) (test y) refl e
  where
    by_test : (filter test xs ≡ [] → Among x xs → test x ≡ false) → (b : Bool) → test y ≡ b → (if b then y ∷ filter test xs else filter test xs) ≡ [] → test x ≡ false
    by_test rest true is e = absurd (cc)
    by_test rest false is e = ⊎_elim (λ same. ap test same ∙ is) (λ h. rest e h) h

-- the bit of the mask
abbrev bit : ℕ → ℕ → Bool
bit mask c = nat_eq (mask / 2 ^ c % 2) 1

odd_bit : (r : ℕ) → r < 2 → nat_eq r 1 ≡ false → r ≡ 0
odd_bit zero lt e = refl
odd_bit (suc zero) lt e = absurd (cc)
odd_bit (suc (suc r)) lt e = absurd (omega arith)

pub mask_some : (mask : ℕ) → 1 ≤ mask → mask ≤ 15 → parts_of mask ≢ []
mask_some mask least most e =
    let no0 : nat_eq (mask / 1 % 2) 1 ≡ false = filter_none (bit mask) 0 (0 ∷ 1 ∷ 2 ∷ 3 ∷ []) e (inl refl) in
    let no1 : nat_eq (mask / 2 % 2) 1 ≡ false = filter_none (bit mask) 1 (0 ∷ 1 ∷ 2 ∷ 3 ∷ []) e (inr (inl refl)) in
    let no2 : nat_eq (mask / 4 % 2) 1 ≡ false = filter_none (bit mask) 2 (0 ∷ 1 ∷ 2 ∷ 3 ∷ []) e (inr (inr (inl refl))) in
    let no3 : nat_eq (mask / 8 % 2) 1 ≡ false = filter_none (bit mask) 3 (0 ∷ 1 ∷ 2 ∷ 3 ∷ []) e (inr (inr (inr (inl refl)))) in
    let z0 : mask / 1 % 2 ≡ 0 = odd_bit (mask / 1 % 2) (omega arith) no0 in
    let z1 : mask / 2 % 2 ≡ 0 = odd_bit (mask / 2 % 2) (omega arith) no1 in
    let z2 : mask / 4 % 2 ≡ 0 = odd_bit (mask / 4 % 2) (omega arith) no2 in
    let z3 : mask / 8 % 2 ≡ 0 = odd_bit (mask / 8 % 2) (omega arith) no3 in
    omega (arith, z0, z1, z2, z3)

-- ---- the address

-- a constant buffer has rows
rows_of_constant : (k : Kind) (class : Class) → KindFits k class → class ≡ Cbv → (rows : ℕ) × (k ≡ kind.Constant rows)
rows_of_constant kind.Raw class fits e = absurd (fits e)
rows_of_constant (kind.Structured stride) class fits e = absurd (fits.0 e)
rows_of_constant (kind.Constant rows) class fits e = (rows, refl)

-- an access that fits has its target's array
pub target_declared : (p : Program) (how : Use) (t : Target) (addr : Addr) → AccessFits p how t addr → IsKnown p (target_key t)
target_declared p how (target.Buffer r) addr fits = tt
target_declared p how (target.Shared a) addr fits = fits.0

module _ (s : Setting) (base : Base s) (how : Use) where
  -- the operands of an address can be read where no register is known
  abbrev pub OperandsReady : Addr → Type 0
  OperandsReady addr = (a : Operand) → Among a (in_address addr) → Ready s no_register a ty.Int

  buffer_ready : (r : ℕ) (addr : Addr) (part : ℕ) → AccessFits s.program how (target.Buffer r) addr → OperandsReady addr → Uses s (global.Buffer r) → AllUsed s (place_numbers s.program (target.Buffer r) addr part) → AddrReady s (target.Buffer r) addr part
  buffer_ready r (Byte at) part fits ready uses used =
      ((fits.0, fits.1, fits.2.0), uses, ready at (inl refl), used (global.Number 2) (inl refl) tt, used (global.Number 0) (inr (inl refl)) tt, used (global.Number part) (inr (inr (inl refl))) tt)
  buffer_ready r (Element index at stride) part fits ready uses used =
      ((fits.0, fits.1, fits.2.0), uses, ready index (inl refl), ready at (inr (inl refl)), used (global.Number 2) (inl refl) tt, used (global.Number 0) (inr (inl refl)) tt, used (global.Number part) (inr (inr (inl refl))) tt, used (global.Number (stride / 4)) (inr (inr (inr (inl refl)))) tt, used (global.Number (stride - (4 + 4 * part))) (inr (inr (inr (inr (inl refl))))) tt)
  buffer_ready r (Row index) part fits ready uses used = by_use how fits
    where
      by_use : (how : Use) → AccessFits s.program how (target.Buffer r) (Row index) → AddrReady s (target.Buffer r) (Row index) part
      by_use Loads fits =
          let constant = rows_of_constant fits.0.kind fits.0.class (base.sound.resources r fits.0 fits.1).kind fits.2 in
          ((fits.0, constant.0, fits.1, constant.1), uses, ready index (inl refl), row_limit (used (global.Number (limit_of s.program (target.Buffer r))) (inl refl) tt), used (global.Number 0) (inr (inl refl)) tt, used (global.Number part) (inr (inr (inl refl))) tt)
        where
          row_limit : Uses s (global.Number (limit_of s.program (target.Buffer r))) → Uses s (global.Number (s.context.limit (target.Buffer r)))
          row_limit u = subst (λ n. Uses s (global.Number n)) (sym (base.limit_is (target.Buffer r))) u
      by_use Writes fits = absurd fits.2
  buffer_ready r (Index index) part fits ready uses used = absurd fits.2

  addr_ready : (t : Target) (addr : Addr) (part : ℕ) → AccessFits s.program how t addr → OperandsReady addr → Uses s (target_key t) → AllUsed s (place_numbers s.program t addr part) → AddrReady s t addr part
  addr_ready (target.Buffer r) addr part fits ready uses used = buffer_ready r addr part fits ready uses used
  addr_ready (target.Shared a) (Index index) part fits ready uses used =
      (uses, ready index (inl refl), subst (λ n. Uses s (global.Number n)) (sym (base.limit_is (target.Shared a))) (used (global.Number (limit_of s.program (target.Shared a))) (inl refl) tt))
  addr_ready (target.Shared a) (Byte at) part fits ready uses used = absurd fits.1
  addr_ready (target.Shared a) (Element index at stride) part fits ready uses used = absurd fits.1
  addr_ready (target.Shared a) (Row index) part fits ready uses used = absurd fits.1

  -- ---- a part

  -- a part with a test names its target and the numbers of its address
  named_there : (t : Target) (addr : Addr) (part : ℕ) (e : Event) → is_never addr part ≡ false → (g : Global) → Among g (target_key t ∷ address_keys s.program t addr part) → Among g (access_keys s.program t addr part e)
  named_there t addr part e room g h = inr (inr (among_back g (event_keys t e) (place_keys s.program t addr part) (by_test (is_never addr part) room)))
    where
      by_test : (b : Bool) → b ≡ false → Among g (if b then [] else target_key t ∷ address_keys s.program t addr part)
      by_test true e = absurd (cc)
      by_test false e = h

  -- an operand of the address names its keys there
  read_there : (addr : Addr) (a : Operand) (g : Global) → Among a (in_address addr) → Among g (operand_keys a) → Among g (place_reads addr)
  read_there (Byte at) a g (inl e) h = subst (λ x. Among g (operand_keys x)) e h
  read_there (Byte at) a g (inr none) h = absurd none
  read_there (Element index at stride) a g (inl e) h = among_back g (operand_keys at) (operand_keys index) (subst (λ x. Among g (operand_keys x)) e h)
  read_there (Element index at stride) a g (inr (inl e)) h = among_front g (operand_keys at) (operand_keys index) (subst (λ x. Among g (operand_keys x)) e h)
  read_there (Element index at stride) a g (inr (inr none)) h = absurd none
  read_there (Row index) a g (inl e) h = subst (λ x. Among g (operand_keys x)) e h
  read_there (Row index) a g (inr none) h = absurd none
  read_there (Index index) a g (inl e) h = subst (λ x. Among g (operand_keys x)) e h
  read_there (Index index) a g (inr none) h = absurd none

  -- those whose constants are declared
  abbrev pub OperandsRead : Addr → Type 0
  OperandsRead addr = (a : Operand) → Among a (in_address addr) → AllUsed s (operand_keys a) → Ready s no_register a ty.Int

  pub part_ready : (t : Target) (addr : Addr) (part : ℕ) (e : Event) → part ≤ 3 → AccessFits s.program how t addr → OperandsRead addr → EventReady s t e → ZerosReady s e → AllUsed s (access_keys s.program t addr part e) → PartReady s t addr part e
  part_ready t addr part e few fits ready operands zeros used =
      record {
        few = few;
        zeros = zeros;
        access = λ room. record {
          limit = base.limit t;
          address = addr_ready t addr part fits (λ a h. ready a h (λ g k d. used g (named_there t addr part e room g (inr (among_front g (place_reads addr) (place_numbers s.program t addr part) (read_there addr a g h k)))) d)) (used (target_key t) (named_there t addr part e room (target_key t) (inl refl)) (target_declared s.program how t addr fits)) (λ g h d. used g (named_there t addr part e room g (inr (among_back g (place_reads addr) (place_numbers s.program t addr part) h))) d);
          operands = operands;
        };
      }

  -- what a part asks besides its address
  abbrev pub PartAsks : Target → Addr → (ℕ → Event) → ℕ → Type 0
  PartAsks t addr event_of part =
      AllUsed s (access_keys s.program t addr part (event_of part)) → (part ≤ 3) × EventReady s t (event_of part) × ZerosReady s (event_of part)

  pub parts_ready : (t : Target) (addr : Addr) (event_of : ℕ → Event) (parts : List ℕ) → AccessFits s.program how t addr → ((part : ℕ) → Among part parts → OperandsRead addr) → ((part : ℕ) → Among part parts → PartAsks t addr event_of part) → AllUsed s (parts_keys s.program t addr event_of parts) → PartsReady s t addr event_of parts
  parts_ready t addr event_of [] fits ready each used = tt
  parts_ready t addr event_of (part ∷ parts) fits ready each used =
      let front : List Global = access_keys s.program t addr part (event_of part) in
      let back : List Global = parts_keys s.program t addr event_of parts in
      let mine : AllUsed s front = λ g h d. used g (among_front g front back h) d in
      let here = each part (inl refl) mine in
      (part_ready t addr part (event_of part) here.0 fits (ready part (inl refl)) here.1 here.2 mine, parts_ready t addr event_of parts fits (λ n h. ready n (inr h)) (λ n h. each n (inr h)) (λ g h d. used g (among_back g front back h) d))
