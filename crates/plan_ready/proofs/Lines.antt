-- The lines of a block are ready, one after the other.
use Rattle.std.proofs.Common.{◌≡◌, ℕ, suc, ◌≤◌, Bool, true, false, List, [], ◌∷◌, ◌++◌, Some, refl, sym, ap, ◌∙◌, subst, arith, inl, inr}
use Rattle.std.specs.Prelude.{◌||◌, nat_eq, slice_get, map, if◌then◌else◌}
use Rattle.dxil_form.specs.declared.value.Ty.{Ty}
use Rattle.dxil_form.specs.declared.value.Ty.TheVariants as ty
use Rattle.dxil_form.specs.declared.value.Reg.{Reg}
use Rattle.dxil_form.specs.declared.value.Operand.{Operand}
use Rattle.dxil_form.specs.declared.instr.CastOp.{CastOp}
use Rattle.dxil_form.specs.declared.instr.CastOp.TheVariants as cast
use Rattle.dxil_form.specs.declared.instr.AtomicOp.{AtomicOp}
use Rattle.dxil_form.specs.declared.instr.Addr.{Addr}
use Rattle.dxil_form.specs.declared.instr.Target.{Target}
use Rattle.dxil_form.specs.declared.instr.Instr.{Instr}
use Rattle.dxil_form.specs.declared.instr.Instr.TheVariants.{Bin, Cmp, Cast, Select, Copy, One, Two, Mad, Id, Size, Load, Store, Atomic, Swap, Barrier, Nothing}
use Rattle.dxil_form.specs.declared.program.Kind.{Kind}
use Rattle.dxil_form.specs.declared.program.Kind.TheVariants as kind
use Rattle.dxil_form.specs.declared.block.Block.{Block}
use Rattle.dxil_form.specs.Registers.{Typed, At_line, SetsAt, set_by, typed, part_of, parts_of, pick, cast_from, cast_to, operands_of, in_address, numbers, unless_empty}
use Rattle.dxil_form.specs.Registers as registers
use Rattle.dxil_form.specs.Sound.{LineAt, IsBuffer, Loads, Writes, InstrFits}
use Rattle.spirv_code.specs.declared.key.Global.{Global}
use Rattle.spirv_code.specs.declared.key.Global.TheVariants as global
use Rattle.spirv_code.specs.declared.key.Sort.TheVariants as sort
use Rattle.spirv_code.specs.declared.key.Slot.{Slot}
use Rattle.spirv_code.specs.declared.event.Event.{Event}
use Rattle.spirv_code.specs.declared.event.Event.TheVariants as event
use Rattle.spirv_code.specs.Plans.{kept}
use Rattle.spirv_code.specs.Reads.{Env, no_register}
use Rattle.spirv_code.specs.Accesses.{scope_of}
use Rattle.spirv_code.specs.Lines.{built_in_of, load_event, store_event, swap_event, barrier_scope, barrier_semantics}
use Rattle.spirv_code.specs.Needed.{operand_keys, two_keys, cast_keys, access_keys, line_keys}
use Rattle.spirv_code.specs.Further.{named_all, is_access, access_sets, line_slots}
use Rattle.line_runs.specs.Held.{Setting, Uses}
use Rattle.line_runs.specs.Declared.{has_rows}
use Rattle.line_runs.specs.Ready.{Ready, IsSet, CastNeeds}
use Rattle.access_runs.specs.Parts.{EventReady, ZerosReady}
use Rattle.block_runs.specs.Inside.{StepReady}
use Rattle.leaf_runs.specs.BlockReady.{HasVariable}
use Rattle.plan_ready.proofs.Among.{Among, among_front, among_back, among_map}
use Rattle.plan_ready.proofs.Base.{Base}
use Rattle.plan_ready.proofs.Operands.{AllUsed, needs_of, can_by_slot, named_among, Known, can_line, set_ready}
use Rattle.plan_ready.proofs.Parts.{part_few, mask_some, part_ready, parts_ready}

-- the type with which one register is set
pub one_type : (reg to : Reg) (type u : Ty) → Among (typed reg u) (typed to type ∷ []) → u ≡ type
one_type reg to type u (inl e) = ap (λ (t : Typed Reg). t.ty) e
one_type reg to type u (inr none) = absurd none

pub loaded_type : (reg : Reg) (to : ℕ) (parts : List ℕ) (u : Ty) → Among (typed reg u) (map (λ c. typed (part_of to c) ty.Int) parts) → u ≡ ty.Int
loaded_type reg to [] u h = absurd h
loaded_type reg to (part ∷ parts) u (inl e) = ap (λ (t : Typed Reg). t.ty) e
loaded_type reg to (part ∷ parts) u (inr h) = loaded_type reg to parts u h

swapped_old : (to : ℕ) (u : Ty) → Among (typed (part_of to 0) u) (typed (part_of to 0) ty.Int ∷ typed (part_of to 1) ty.Bool ∷ []) → u ≡ ty.Int
swapped_old to u (inl e) = ap (λ (t : Typed Reg). t.ty) e
swapped_old to u (inr (inl e)) = let part : ◌≡◌ {A = ℕ} 0 1 = ap (λ (t : Typed Reg). t.item.part) e in absurd (omega arith)
swapped_old to u (inr (inr none)) = absurd none

swapped_same : (to : ℕ) (u : Ty) → Among (typed (part_of to 1) u) (typed (part_of to 0) ty.Int ∷ typed (part_of to 1) ty.Bool ∷ []) → u ≡ ty.Bool
swapped_same to u (inl e) = let part : ◌≡◌ {A = ℕ} 1 0 = ap (λ (t : Typed Reg). t.item.part) e in absurd (omega arith)
swapped_same to u (inr (inl e)) = ap (λ (t : Typed Reg). t.ty) e
swapped_same to u (inr (inr none)) = absurd none

-- operands in a list of numbers
pub number_at : (operands : List Operand) (a : Operand) → Among a operands → (k : ℕ) × (slice_get (numbers operands) k ≡ Some (typed a ty.Int))
number_at [] a h = absurd h
number_at (x ∷ operands) a (inl e) = (0, ap (λ y. Some (typed y ty.Int)) (sym e))
number_at (x ∷ operands) a (inr h) = let rest = number_at operands a h in (suc rest.0, rest.1)

-- all operands are read but where only some parts are
items_among : (operands : List Operand) (a : Operand) → Among a operands → Among a (map (λ x. x.item) (numbers operands))
items_among [] a h = absurd h
items_among (x ∷ operands) a (inl e) = inl e
items_among (x ∷ operands) a (inr h) = inr (items_among operands a h)

-- what an access with parts reads
read_parts : (part : ℕ) (parts : List ℕ) (operands : List Operand) (a : Operand) → Among part parts → Among a operands → Among a (unless_empty parts operands)
read_parts part [] operands a h there = absurd h
read_parts part (c ∷ parts) operands a h there = there

pub picked : (part : ℕ) (x y z w : Operand) → Among (pick part x y z w) (x ∷ y ∷ z ∷ w ∷ [])
picked part x y z w = by_tests (nat_eq part 0) (nat_eq part 1) (nat_eq part 2)
  where
    by_tests : (a b c : Bool) → Among (if a then x else (if b then y else (if c then z else w))) (x ∷ y ∷ z ∷ w ∷ [])
    by_tests true b c = inl refl
    by_tests false true c = inr (inl refl)
    by_tests false false true = inr (inr (inl refl))
    by_tests false false false = inr (inr (inr (inl refl)))

no_rows : (k : Kind) → IsBuffer k → has_rows k ≡ false
no_rows kind.Raw is = refl
no_rows (kind.Structured stride) is = refl
no_rows (kind.Constant rows) is = absurd is

module _ (s : Setting) (base : Base s) (b : ℕ) (block : Block) (stands : slice_get s.program.blocks b ≡ Some block) where
  module _ (env : Env) (n : ℕ) (behind : Bool) (instr : Instr) (known : Known s base b block stands env n behind) (asked : (slot : Slot) → Among slot (line_slots behind instr) → HasVariable s slot) (at : slice_get block.instrs n ≡ Some instr) (used : AllUsed s (line_keys s.program instr)) where
    line_at : LineAt s.program b n instr
    line_at = record { block = block; stands = stands; line = at }

    -- an operand of the line, which has a place among them
    operand_ready : (a : Operand) (type : Ty) (j : ℕ) → slice_get (operands_of instr) j ≡ Some (typed a type) → Among a (registers.reads instr) → ((g : Global) → Among g (operand_keys a) → Among g (line_keys s.program instr)) → Ready s env a type
    operand_ready a type j is among keys =
        let has_type = base.sound.line_types b n j instr (typed a type) line_at is in
        record {
          typed = has_type;
          needs = needs_of s a (λ g h d. used g (keys g h) d);
          can = can_line s base b block stands env n behind instr a type known further at has_type among;
        }
      where
        by_access : (c : Bool) → behind ≡ true → (slot : Slot) → Among slot (named_all (registers.reads instr)) → Among slot (if c || behind then named_all (registers.reads instr) else [])
        by_access true e slot h = h
        by_access false e slot h = subst (λ x. Among slot (if x then named_all (registers.reads instr) else [])) (sym e) h

        further : behind ≡ true → (slot : Slot) → Among slot (named_all (registers.reads instr)) → HasVariable s slot
        further e slot h = asked slot (among_back slot (access_sets instr) _ (by_access (is_access instr) e slot h))

    -- an operand of an access, which has a variable
    access_operand : is_access instr ≡ true → (a : Operand) (j : ℕ) → slice_get (operands_of instr) j ≡ Some (typed a ty.Int) → Among a (registers.reads instr) → AllUsed s (operand_keys a) → Ready s no_register a ty.Int
    access_operand is a j at_j among keys =
        record {
          typed = base.sound.line_types b n j instr (typed a ty.Int) line_at at_j;
          needs = needs_of s a keys;
          can = can_by_slot s no_register a (λ reg type e. asked (kept reg type) (among_back (kept reg type) (access_sets instr) _ (by_access (is_access instr) is (kept reg type) (named_among (registers.reads instr) reg type (subst (λ x. Among x (registers.reads instr)) e among)))));
        }
      where
        by_access : (c : Bool) → c ≡ true → (slot : Slot) → Among slot (named_all (registers.reads instr)) → Among slot (if c || behind then named_all (registers.reads instr) else [])
        by_access true e slot h = h
        by_access false e slot h = absurd (cc)

    -- an operand in a list of numbers that are the line's
    number_operand : (operands : List Operand) → operands_of instr ≡ numbers operands → is_access instr ≡ true → (a : Operand) → Among a operands → Among a (registers.reads instr) → AllUsed s (operand_keys a) → Ready s no_register a ty.Int
    number_operand operands are is a h read keys =
        let j = number_at operands a h in
        access_operand is a j.0 (ap (λ xs. slice_get xs j.0) are ∙ j.1) read keys

    one_set : (reg : Reg) (type : Ty) → Among (typed reg type) (set_by instr) → ((u : Ty) → Among (typed reg u) (set_by instr) → u ≡ type) → IsSet s reg type
    one_set reg type among one = set_ready s base b block stands n instr reg type at among one

  -- ---- each line

  cast_needs : (op : CastOp) (rest : List Global) → AllUsed s (cast_keys op ++ rest) → CastNeeds s op
  cast_needs cast.Trunc rest used = (used (global.Number 1) (inr (inr (inl refl))) tt, used (global.Number 0) (inr (inr (inr (inl refl)))) tt)
  cast_needs cast.Zext rest used = (used (global.Number 1) (inr (inl refl)) tt, used (global.Number 0) (inr (inr (inl refl))) tt)
  cast_needs cast.Sext rest used = (used (global.Number 0xFFFF_FFFF) (inr (inl refl)) tt, used (global.Number 0) (inr (inr (inl refl))) tt)

  -- what is known and declared at a line
  pub record Given (env : Env) (n : ℕ) (behind : Bool) (instr : Instr) : Type 0 where
    pub known : Known s base b block stands env n behind
    pub asked : (slot : Slot) → Among slot (line_slots behind instr) → HasVariable s slot
    pub at : slice_get block.instrs n ≡ Some instr
    pub used : AllUsed s (line_keys s.program instr)

  read_operand : (env : Env) (n : ℕ) (behind : Bool) (instr : Instr) → Given env n behind instr → (a : Operand) (type : Ty) (j : ℕ) → slice_get (operands_of instr) j ≡ Some (typed a type) → Among a (registers.reads instr) → ((g : Global) → Among g (operand_keys a) → Among g (line_keys s.program instr)) → Ready s env a type
  read_operand env n behind instr g = operand_ready env n behind instr g.known g.asked g.at g.used

  is_set : (env : Env) (n : ℕ) (behind : Bool) (instr : Instr) → Given env n behind instr → (reg : Reg) (type : Ty) → Among (typed reg type) (set_by instr) → ((u : Ty) → Among (typed reg u) (set_by instr) → u ≡ type) → IsSet s reg type
  is_set env n behind instr g = one_set env n behind instr g.known g.asked g.at g.used

  fits_line : (env : Env) (n : ℕ) (behind : Bool) (instr : Instr) → Given env n behind instr → InstrFits s.program instr
  fits_line env n behind instr g = base.sound.lines b n instr (record { block = block; stands = stands; line = g.at })

  load_ready : (env : Env) (n : ℕ) (behind : Bool) (to mask : ℕ) (t : Target) (addr : Addr) → Given env n behind (Load to mask t addr) → StepReady s env (Load to mask t addr)
  load_ready env n behind to mask t addr g =
      (parts_ready s base Loads t addr (load_event to) (parts_of mask) (fits_line env n behind instr g).1 operands each g.used, λ reg type c. base.sound.own_value b n to mask t addr reg type (record { block = block; stands = stands; line = g.at }) c)
    where
      instr : Instr
      instr = Load to mask t addr

      operands : (part : ℕ) → Among part (parts_of mask) → (a : Operand) → Among a (in_address addr) → AllUsed s (operand_keys a) → Ready s no_register a ty.Int
      operands part h a in_addr keys =
          number_operand env n behind instr g.known g.asked g.at g.used (in_address addr) refl refl a in_addr (read_parts part (parts_of mask) (in_address addr) a h in_addr) keys

      each : (part : ℕ) → Among part (parts_of mask) → AllUsed s (access_keys s.program t addr part (load_event to part)) → (part ≤ 3) × EventReady s t (load_event to part) × ZerosReady s (load_event to part)
      each part h used =
          (part_few mask part h, used (global.Plain sort.Int) (inl refl) tt, (is_set env n behind instr g (part_of to part) ty.Int (among_map (λ c. typed (part_of to c) ty.Int) part (parts_of mask) h) (loaded_type (part_of to part) to (parts_of mask)), used (global.Number 0) (inr (inr (inl refl))) tt))

  store_ready : (env : Env) (n : ℕ) (behind : Bool) (mask : ℕ) (t : Target) (addr : Addr) (x y z w : Operand) → Given env n behind (Store mask t addr x y z w) → StepReady s env (Store mask t addr x y z w)
  store_ready env n behind mask t addr x y z w g =
      (parts_ready s base Writes t addr (store_event x y z w) (parts_of mask) fits.2 operands each g.used, mask_some mask fits.0 fits.1)
    where
      instr : Instr
      instr = Store mask t addr x y z w

      all : List Operand
      all = in_address addr ++ (x ∷ y ∷ z ∷ w ∷ [])

      fits : InstrFits s.program instr
      fits = fits_line env n behind instr g

      values : List Operand
      values = map (λ c. pick c x y z w) (parts_of mask)

      operands : (part : ℕ) → Among part (parts_of mask) → (a : Operand) → Among a (in_address addr) → AllUsed s (operand_keys a) → Ready s no_register a ty.Int
      operands part h a in_addr keys =
          number_operand env n behind instr g.known g.asked g.at g.used all refl refl a (among_front a (in_address addr) (x ∷ y ∷ z ∷ w ∷ []) in_addr) (among_front a (in_address addr) values in_addr) keys

      each : (part : ℕ) → Among part (parts_of mask) → AllUsed s (access_keys s.program t addr part (store_event x y z w part)) → (part ≤ 3) × EventReady s t (store_event x y z w part) × ZerosReady s (store_event x y z w part)
      each part h used =
          let a : Operand = pick part x y z w in
          (part_few mask part h, number_operand env n behind instr g.known g.asked g.at g.used all refl refl a (among_back a (in_address addr) (x ∷ y ∷ z ∷ w ∷ []) (picked part x y z w)) (among_back a (in_address addr) values (among_map (λ c. pick c x y z w) part (parts_of mask) h)) (λ k k_in d. used k (inr (inr (among_front k (operand_keys a) _ k_in))) d), tt)

  atomic_ready : (env : Env) (n : ℕ) (behind : Bool) (to : Reg) (op : AtomicOp) (t : Target) (addr : Addr) (value : Operand) → Given env n behind (Atomic to op t addr value) → StepReady s env (Atomic to op t addr value)
  atomic_ready env n behind to op t addr value g =
      part_ready s base Writes t addr 0 e (omega arith) (fits_line env n behind instr g) (λ a h keys. read a (among_front a (in_address addr) (value ∷ []) h) keys) (read value (among_back value (in_address addr) (value ∷ []) (inl refl)) (λ k h d. g.used k (inr (inr (inr (inr (among_front k (operand_keys value) _ h))))) d), g.used (global.Number (scope_of t)) (inr (inr (inl refl))) tt, nought) (is_set env n behind instr g to ty.Int (inl refl) (one_type to to ty.Int), nought) g.used
    where
      instr : Instr
      instr = Atomic to op t addr value

      e : Event
      e = event.Atomic to op value

      all : List Operand
      all = in_address addr ++ (value ∷ [])

      nought : Uses s (global.Number 0)
      nought = g.used (global.Number 0) (inr (inr (inr (inl refl)))) tt

      read : (a : Operand) → Among a all → AllUsed s (operand_keys a) → Ready s no_register a ty.Int
      read a h keys = number_operand env n behind instr g.known g.asked g.at g.used all refl refl a h (items_among all a h) keys

  swap_ready : (env : Env) (n : ℕ) (behind : Bool) (to : ℕ) (t : Target) (addr : Addr) (compare value : Operand) → Given env n behind (Swap to t addr compare value) → StepReady s env (Swap to t addr compare value)
  swap_ready env n behind to t addr compare value g =
      part_ready s base Writes t addr 0 e (omega arith) (fits_line env n behind instr g) (λ a h keys. read a (among_front a (in_address addr) (compare ∷ value ∷ []) h) keys) (read compare (among_back compare (in_address addr) (compare ∷ value ∷ []) (inl refl)) (λ k h d. two k (among_back k (operand_keys value) (operand_keys compare) h) d), read value (among_back value (in_address addr) (compare ∷ value ∷ []) (inr (inl refl))) (λ k h d. two k (among_front k (operand_keys value) (operand_keys compare) h) d), g.used (global.Number (scope_of t)) (inr (inr (inl refl))) tt, nought) (is_set env n behind instr g (part_of to 0) ty.Int (inl refl) (swapped_old to), is_set env n behind instr g (part_of to 1) ty.Bool (inr (inl refl)) (swapped_same to), nought, g.used (global.Truth false) (inr (inr (inr (inr (inl refl))))) tt) g.used
    where
      instr : Instr
      instr = Swap to t addr compare value

      e : Event
      e = swap_event to compare value

      all : List Operand
      all = in_address addr ++ (compare ∷ value ∷ [])

      nought : Uses s (global.Number 0)
      nought = g.used (global.Number 0) (inr (inr (inr (inl refl)))) tt

      two : AllUsed s (two_keys value compare)
      two k h d = g.used k (inr (inr (inr (inr (inr (among_front k (two_keys value compare) _ h)))))) d

      read : (a : Operand) → Among a all → AllUsed s (operand_keys a) → Ready s no_register a ty.Int
      read a h keys = number_operand env n behind instr g.known g.asked g.at g.used all refl refl a h (items_among all a h) keys

  pub step_ready : (env : Env) (n : ℕ) (behind : Bool) (instr : Instr) → Given env n behind instr → StepReady s env instr
  step_ready env n behind (Bin to op t a c) g =
      let r = read_operand env n behind (Bin to op t a c) g in
      (r a t 0 refl (inl refl) (λ k h. inr (among_front k (operand_keys a) (operand_keys c) h)), r c t 1 refl (inr (inl refl)) (λ k h. inr (among_back k (operand_keys a) (operand_keys c) h)), is_set env n behind (Bin to op t a c) g to t (inl refl) (one_type to to t))
  step_ready env n behind (Cmp to op t a c) g =
      let r = read_operand env n behind (Cmp to op t a c) g in
      (r a t 0 refl (inl refl) (λ k h. inr (among_front k (operand_keys a) (operand_keys c) h)), r c t 1 refl (inr (inl refl)) (λ k h. inr (among_back k (operand_keys a) (operand_keys c) h)), is_set env n behind (Cmp to op t a c) g to ty.Bool (inl refl) (one_type to to ty.Bool))
  step_ready env n behind (Cast to op a) g =
      (read_operand env n behind (Cast to op a) g a (cast_from op) 0 refl (inl refl) (λ k h. among_back k (cast_keys op) (operand_keys a) h), cast_needs op (operand_keys a) g.used, is_set env n behind (Cast to op a) g to (cast_to op) (inl refl) (one_type to to (cast_to op)))
  step_ready env n behind (Select to t x a c) g =
      let r = read_operand env n behind (Select to t x a c) g in
      (r x ty.Bool 0 refl (inl refl) (λ k h. inr (among_front k (operand_keys x) (two_keys a c) h)), r a t 1 refl (inr (inl refl)) (λ k h. inr (among_back k (operand_keys x) (two_keys a c) (among_front k (operand_keys a) (operand_keys c) h))), r c t 2 refl (inr (inr (inl refl))) (λ k h. inr (among_back k (operand_keys x) (two_keys a c) (among_back k (operand_keys a) (operand_keys c) h))), is_set env n behind (Select to t x a c) g to t (inl refl) (one_type to to t))
  step_ready env n behind (Copy to t a) g =
      (read_operand env n behind (Copy to t a) g a t 0 refl (inl refl) (λ k h. h), is_set env n behind (Copy to t a) g to t (inl refl) (one_type to to t))
  step_ready env n behind (One to op a) g =
      (read_operand env n behind (One to op a) g a ty.Int 0 refl (inl refl) (λ k h. inr h), is_set env n behind (One to op a) g to ty.Int (inl refl) (one_type to to ty.Int))
  step_ready env n behind (Two to op a c) g =
      let r = read_operand env n behind (Two to op a c) g in
      (r a ty.Int 0 refl (inl refl) (λ k h. inr (inr (among_front k (operand_keys a) (operand_keys c) h))), r c ty.Int 1 refl (inr (inl refl)) (λ k h. inr (inr (among_back k (operand_keys a) (operand_keys c) h))), is_set env n behind (Two to op a c) g to ty.Int (inl refl) (one_type to to ty.Int))
  step_ready env n behind (Mad to x a c) g =
      let r = read_operand env n behind (Mad to x a c) g in
      (r x ty.Int 0 refl (inl refl) (λ k h. inr (among_front k (operand_keys x) (two_keys a c) h)), r a ty.Int 1 refl (inr (inl refl)) (λ k h. inr (among_back k (operand_keys x) (two_keys a c) (among_front k (operand_keys a) (operand_keys c) h))), r c ty.Int 2 refl (inr (inr (inl refl))) (λ k h. inr (among_back k (operand_keys x) (two_keys a c) (among_back k (operand_keys a) (operand_keys c) h))), is_set env n behind (Mad to x a c) g to ty.Int (inl refl) (one_type to to ty.Int))
  step_ready env n behind (Id to op part) g =
      (g.used (global.Input (built_in_of op)) (inr (inl refl)) tt, fits_line env n behind (Id to op part) g, is_set env n behind (Id to op part) g to ty.Int (inl refl) (one_type to to ty.Int))
  step_ready env n behind (Size to buffer) g =
      let fits = fits_line env n behind (Size to buffer) g in
      (g.used (global.Buffer buffer) (inr (inl refl)) tt, (fits.0, fits.1, no_rows fits.0.kind fits.2), is_set env n behind (Size to buffer) g to ty.Int (inl refl) (one_type to to ty.Int))
  step_ready env n behind (Load to mask t addr) g = load_ready env n behind to mask t addr g
  step_ready env n behind (Store mask t addr x y z w) g = store_ready env n behind mask t addr x y z w g
  step_ready env n behind (Atomic to op t addr value) g = atomic_ready env n behind to op t addr value g
  step_ready env n behind (Swap to t addr compare value) g = swap_ready env n behind to t addr compare value g
  step_ready env n behind (Barrier sync scope uav shared) g =
      record {
        is = fits_line env n behind (Barrier sync scope uav shared) g;
        group = λ e. g.used (global.Number 2) (inl refl) tt;
        scope_uses = g.used (global.Number (barrier_scope scope)) (inr (inl refl)) tt;
        semantics = g.used (global.Number (barrier_semantics uav shared)) (inr (inr (inl refl))) tt;
      }
  step_ready env n behind Nothing g = tt
