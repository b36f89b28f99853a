-- Each buffer of a program's table is a resource, and each groupshared array one of the program's.
use Rattle.std.proofs.Common.{◌≡◌, ℕ, zero, suc, ◌<◌, ◌≤◌, Bool, true, false, List, [], ◌∷◌, ◌++◌, length, Option, Some, None, refl, ap, subst, arith}
use Rattle.std.specs.Prelude.{slice_get, if◌then◌else◌}
use Rattle.dxil_form.specs.declared.value.Ty.{Ty}
use Rattle.dxil_form.specs.declared.value.Ty.TheVariants as ty
use Rattle.dxil_form.specs.declared.value.Operand.{Operand}
use Rattle.dxil_form.specs.declared.value.Operand.TheVariants as operand
use Rattle.dxil_form.specs.declared.instr.Addr.{Addr}
use Rattle.dxil_form.specs.declared.instr.Addr.TheVariants.{Byte, Element, Row, Index}
use Rattle.dxil_form.specs.declared.instr.Target.{Target}
use Rattle.dxil_form.specs.declared.instr.Target.TheVariants as target
use Rattle.dxil_form.specs.declared.instr.CastOp.{CastOp}
use Rattle.dxil_form.specs.declared.instr.CastOp.TheVariants.{Trunc, Zext, Sext}
use Rattle.dxil_form.specs.declared.instr.Instr.{Instr}
use Rattle.dxil_form.specs.declared.instr.Instr.TheVariants.{Bin, Cmp, Cast, Select, Copy, One, Two, Mad, Id, Size, Load, Store, Atomic, Swap, Barrier, Nothing}
use Rattle.dxil_form.specs.declared.block.Entry.{Entry}
use Rattle.dxil_form.specs.declared.block.Phi.{Phi}
use Rattle.dxil_form.specs.declared.block.Term.{Term}
use Rattle.dxil_form.specs.declared.block.Block.{Block}
use Rattle.dxil_form.specs.declared.program.Resource.{Resource}
use Rattle.dxil_form.specs.declared.program.Program.{Program}
use Rattle.dxil_form.specs.declared.region.Region.{Region}
use Rattle.dxil_form.specs.declared.region.Region.TheVariants as region
use Rattle.dxil_form.specs.Branches.{targets}
use Rattle.dxil_form.specs.Registers.{parts_of}
use Rattle.dxil_form.specs.Sound.{Sound, Use, Loads, Writes, AccessFits, InstrFits}
use Rattle.spirv_code.specs.declared.key.Sort.{Sort}
use Rattle.spirv_code.specs.declared.key.Sort.TheVariants as sort
use Rattle.spirv_code.specs.declared.key.Storage.TheVariants as storage
use Rattle.spirv_code.specs.declared.key.Global.{Global}
use Rattle.spirv_code.specs.declared.key.Global.TheVariants.{Plain, Pointer, Number, Truth, Input, Buffer, Shared}
use Rattle.spirv_code.specs.declared.key.Slot.{Slot}
use Rattle.spirv_code.specs.declared.key.Slot.TheVariants.{Next, Kept, Want, Pick}
use Rattle.spirv_code.specs.declared.event.Event.{Event}
use Rattle.spirv_code.specs.declared.event.Event.TheVariants as event
use Rattle.spirv_code.specs.Keys.{has_key, add_key}
use Rattle.spirv_code.specs.Plans.{zero_of}
use Rattle.spirv_code.specs.Frame.{rowed, input_sort, slot_start}
use Rattle.spirv_code.specs.Accesses.{is_never}
use Rattle.spirv_code.specs.Lines.{load_event, store_event, swap_event}
use Rattle.spirv_code.specs.Exits.{tested}
use Rattle.spirv_code.specs.Needed.{operand_keys, two_keys, target_key, place_reads, place_numbers, address_keys, event_keys, place_keys, access_keys, parts_keys, cast_keys, line_keys, lines_keys, entries_keys, phi_keys, phis_keys, tested_keys, numbers_keys, end_keys, block_keys_at, region_keys, regions_keys, want_keys, slots_keys, words_keys, sort_keys, arrays_keys, whole, add_each, add_whole, add_all, table_of}

module _ (p : Program) where
  abbrev pub KeyFits : Global → Type 0
  KeyFits (Buffer r) = (resource : Resource) × (slice_get p.resources r ≡ Some resource)
  KeyFits (Shared a) = a < length p.shared
  KeyFits (Plain s) = Unit {0}
  KeyFits (Pointer s to) = Unit {0}
  KeyFits (Number n) = Unit {0}
  KeyFits (Truth b) = Unit {0}
  KeyFits (Input b) = Unit {0}

  abbrev pub KeysFit : List Global → Type 0
  KeysFit [] = Unit {0}
  KeysFit (g ∷ gs) = KeyFits g × KeysFit gs

  join : (a b : List Global) → KeysFit a → KeysFit b → KeysFit (a ++ b)
  join [] b h k = k
  join (g ∷ a) b h k = (h.0, join a b h.1 k)

  pub fit_at : (table : List Global) (k : ℕ) (g : Global) → KeysFit table → slice_get table k ≡ Some g → KeyFits g
  fit_at [] k g h e = absurd (cc)
  fit_at (x ∷ table) zero g h e = subst KeyFits (inj e) h.0
    where
      inj : {A : Type 0} {x y : A} → Some x ≡ Some y → x ≡ y
      inj {x = x} e = ap (from x) e
        where
          from : {A : Type 0} → A → Option A → A
          from default (Some x) = x
          from default None = default
  fit_at (x ∷ table) (suc k) g h e = fit_at table k g h.1 e

  -- ---- what a declaration names

  words_fit : (b : Bool) (r : ℕ) → KeysFit (words_keys p b r)
  words_fit true r = (tt, (tt, (tt, (tt, tt))))
  words_fit false r = (tt, (tt, tt))

  sort_fits : (s : Sort) → KeysFit (sort_keys p s)
  sort_fits sort.Int = (tt, tt)
  sort_fits sort.Bool = (tt, tt)
  sort_fits sort.Triple = (tt, (tt, tt))
  sort_fits sort.Row = (tt, (tt, tt))
  sort_fits (sort.Words r) = words_fit (rowed p r) r
  sort_fits (sort.Block r) = join (words_keys p (rowed p r) r) _ (words_fit (rowed p r) r) (tt, tt)
  sort_fits (sort.Array a) = (tt, (tt, (tt, tt)))

  arrays_fit : (n : ℕ) → n ≤ length p.shared → KeysFit (arrays_keys p n)
  arrays_fit zero few = tt
  arrays_fit (suc a) few =
      join (arrays_keys p a) _ (arrays_fit a (omega (arith, few))) (join (sort_keys p (sort.Array a)) (Pointer storage.Workgroup (sort.Array a) ∷ Shared a ∷ []) (sort_fits (sort.Array a)) (tt, (omega (arith, few), tt)))

  whole_fits : (g : Global) → KeyFits g → KeysFit (whole p g)
  whole_fits (Plain s) h = sort_fits s
  whole_fits (Pointer s to) h = join (sort_keys p to) _ (sort_fits to) (tt, tt)
  whole_fits (Number n) h = (tt, (tt, tt))
  whole_fits (Truth b) h = (tt, (tt, tt))
  whole_fits (Input b) h = join (sort_keys p (input_sort b)) _ (sort_fits (input_sort b)) (tt, (tt, tt))
  whole_fits (Buffer r) h = join (sort_keys p (sort.Block r)) _ (sort_fits (sort.Block r)) (tt, (h, tt))
  whole_fits (Shared a) h = arrays_fit (length p.shared) (omega arith)

  add_fits : (table : List Global) (g : Global) → KeyFits g → KeysFit table → KeysFit (add_key table g)
  add_fits table g h all = by_test (has_key table g)
    where
      by_test : (b : Bool) → KeysFit (if b then table else table ++ g ∷ [])
      by_test true = all
      by_test false = join table (g ∷ []) all (h, tt)

  each_fits : (table gs : List Global) → KeysFit gs → KeysFit table → KeysFit (add_each table gs)
  each_fits table [] h all = all
  each_fits table (g ∷ gs) h all = each_fits (add_key table g) gs h.1 (add_fits table g h.0 all)

  add_whole_fits : (table : List Global) (g : Global) → KeyFits g → KeysFit table → KeysFit (add_whole p table g)
  add_whole_fits table g h all = by_test (has_key table g)
    where
      by_test : (b : Bool) → KeysFit (if b then table else add_each table (whole p g))
      by_test true = all
      by_test false = each_fits table (whole p g) (whole_fits g h) all

  all_fit : (table gs : List Global) → KeysFit gs → KeysFit table → KeysFit (add_all p table gs)
  all_fit table [] h all = all
  all_fit table (g ∷ gs) h all = all_fit (add_whole p table g) gs h.1 (add_whole_fits table g h.0 all)

  -- ---- lines

  zero_fits : (t : Ty) → KeyFits (zero_of t)
  zero_fits ty.Bool = tt
  zero_fits ty.Int = tt

  operand_fits : (a : Operand) → KeysFit (operand_keys a)
  operand_fits (operand.Reg reg t) = (tt, (zero_fits t, tt))
  operand_fits (operand.Int n) = (tt, tt)
  operand_fits (operand.Bool b) = (tt, tt)
  operand_fits (operand.Undef t) = (zero_fits t, tt)

  two_fit : (a b : Operand) → KeysFit (two_keys a b)
  two_fit a b = join (operand_keys a) (operand_keys b) (operand_fits a) (operand_fits b)

  three_fit : (x a b : Operand) → KeysFit (operand_keys x ++ two_keys a b)
  three_fit x a b = join (operand_keys x) (two_keys a b) (operand_fits x) (two_fit a b)

  target_fits : (how : Use) (t : Target) (addr : Addr) → AccessFits p how t addr → KeyFits (target_key t)
  target_fits how (target.Buffer r) addr h = (h.0, h.1)
  target_fits how (target.Shared a) addr h = h.0

  reads_fit : (addr : Addr) → KeysFit (place_reads addr)
  reads_fit (Byte at) = operand_fits at
  reads_fit (Element index at stride) = two_fit at index
  reads_fit (Row index) = operand_fits index
  reads_fit (Index index) = operand_fits index

  numbers_fit : (t : Target) (addr : Addr) (part : ℕ) → KeysFit (place_numbers p t addr part)
  numbers_fit t (Byte at) part = (tt, (tt, (tt, (tt, tt))))
  numbers_fit t (Element index at stride) part = (tt, (tt, (tt, (tt, (tt, (tt, tt))))))
  numbers_fit t (Row index) part = (tt, (tt, (tt, (tt, tt))))
  numbers_fit t (Index index) part = (tt, (tt, tt))

  event_fits : (t : Target) (e : Event) → KeysFit (event_keys t e)
  event_fits t (event.Load to) = (tt, tt)
  event_fits t (event.Store value) = operand_fits value
  event_fits t (event.Atomic to op value) = (tt, (tt, operand_fits value))
  event_fits t (event.Swap old same compare value) = (tt, (tt, (tt, two_fit value compare)))

  place_fits : (t : Target) (addr : Addr) (part : ℕ) → KeyFits (target_key t) → KeysFit (place_keys p t addr part)
  place_fits t addr part h = by_test (is_never addr part)
    where
      by_test : (b : Bool) → KeysFit (if b then [] else target_key t ∷ address_keys p t addr part)
      by_test true = tt
      by_test false = (h, join (place_reads addr) _ (reads_fit addr) (numbers_fit t addr part))

  access_fits : (t : Target) (addr : Addr) (part : ℕ) (e : Event) → KeyFits (target_key t) → KeysFit (access_keys p t addr part e)
  access_fits t addr part e h =
      (tt, (tt, join (event_keys t e) _ (event_fits t e) (place_fits t addr part h)))

  parts_fit : (t : Target) (addr : Addr) (event_of : ℕ → Event) (parts : List ℕ) → KeyFits (target_key t) → KeysFit (parts_keys p t addr event_of parts)
  parts_fit t addr event_of [] h = tt
  parts_fit t addr event_of (part ∷ parts) h =
      join (access_keys p t addr part (event_of part)) _ (access_fits t addr part (event_of part) h) (parts_fit t addr event_of parts h)

  cast_fits : (op : CastOp) → KeysFit (cast_keys op)
  cast_fits Trunc = (tt, (tt, (tt, (tt, tt))))
  cast_fits Zext = (tt, (tt, (tt, tt)))
  cast_fits Sext = (tt, (tt, (tt, tt)))

  line_fits : (line : Instr) → InstrFits p line → KeysFit (line_keys p line)
  line_fits (Bin to op t a b) h = (tt, two_fit a b)
  line_fits (Cmp to op t a b) h = (tt, two_fit a b)
  line_fits (Cast to op a) h = join (cast_keys op) _ (cast_fits op) (operand_fits a)
  line_fits (Select to t x a b) h = (tt, three_fit x a b)
  line_fits (Copy to t a) h = operand_fits a
  line_fits (One to op a) h = (tt, operand_fits a)
  line_fits (Two to op a b) h = (tt, (tt, two_fit a b))
  line_fits (Mad to x a b) h = (tt, three_fit x a b)
  line_fits (Id to op part) h = (tt, (tt, tt))
  line_fits (Size to buffer) h = (tt, ((h.0, h.1), tt))
  line_fits (Load to mask t addr) h =
      parts_fit t addr (load_event to) (parts_of mask) (target_fits Loads t addr h.1)
  line_fits (Store mask t addr x y z w) h =
      parts_fit t addr (store_event x y z w) (parts_of mask) (target_fits Writes t addr h.2)
  line_fits (Atomic to op t addr value) h =
      access_fits t addr 0 (event.Atomic to op value) (target_fits Writes t addr h)
  line_fits (Swap to t addr compare value) h =
      access_fits t addr 0 (swap_event to compare value) (target_fits Writes t addr h)
  line_fits (Barrier sync s uav shared) h = (tt, (tt, (tt, tt)))
  line_fits Nothing h = tt

  lines_fit : (lines : List Instr) → ((k : ℕ) (line : Instr) → slice_get lines k ≡ Some line → InstrFits p line) → KeysFit (lines_keys p lines)
  lines_fit [] h = tt
  lines_fit (line ∷ lines) h =
      join (line_keys p line) _ (line_fits line (h 0 line refl)) (lines_fit lines (λ k x e. h (suc k) x e))

  -- ---- blocks and regions

  entries_fit : (entries : List Entry) → KeysFit (entries_keys entries)
  entries_fit [] = tt
  entries_fit (e ∷ entries) = join (operand_keys e.value) _ (operand_fits e.value) (entries_fit entries)

  phis_fit : (phis : List Phi) → KeysFit (phis_keys phis)
  phis_fit [] = tt
  phis_fit (phi ∷ phis) = join (phi_keys phi) _ (tt, entries_fit phi.entries) (phis_fit phis)

  tested_fits : (o : Option Operand) → KeysFit (tested_keys o)
  tested_fits None = tt
  tested_fits (Some a) = operand_fits a

  blocks_fit : (ks : List ℕ) → KeysFit (numbers_keys ks)
  blocks_fit [] = tt
  blocks_fit (k ∷ ks) = (tt, blocks_fit ks)

  end_fits : (wants : Bool) (term : Term) → KeysFit (end_keys wants term)
  end_fits wants term = join (tested_keys (tested term)) _ (tested_fits (tested term)) (by_test wants)
    where
      by_test : (b : Bool) → KeysFit (if b then numbers_keys (targets term) else [])
      by_test true = blocks_fit (targets term)
      by_test false = tt

  slot_fits : (s : Slot) → KeyFits (slot_start s)
  slot_fits (Next value part true) = tt
  slot_fits (Next value part false) = tt
  slot_fits (Kept value part true) = tt
  slot_fits (Kept value part false) = tt
  slot_fits Want = tt
  slot_fits Pick = tt

  slots_fit : (slots : List Slot) → KeysFit (slots_keys slots)
  slots_fit [] = tt
  slots_fit (s ∷ slots) = (tt, (slot_fits s, slots_fit slots))

  want_fits : (wants : Bool) → KeysFit (want_keys p wants)
  want_fits true = (tt, (tt, (tt, tt)))
  want_fits false = tt

  module _ (sound : Sound p) where
    block_fits : (wants : Bool) (b : ℕ) (o : Option Block) → slice_get p.blocks b ≡ o → KeysFit (block_keys_at p wants o)
    block_fits wants b None e = tt
    block_fits wants b (Some block) e =
        join (phis_keys block.phis) _ (phis_fit block.phis) (join (lines_keys p block.instrs) _ (lines_fit block.instrs (λ k line is. sound.lines b k line (record { block = block; stands = e; line = is }))) (end_fits wants block.term))

    region_fits : (wants : Bool) (x : Region) → KeysFit (region_keys p wants x)
    region_fits wants (region.Leaf b) = block_fits wants b (slice_get p.blocks b) refl
    region_fits wants (region.Then first second target) = (tt, tt)
    region_fits wants (region.Loop body head) = (tt, tt)
    region_fits wants (region.Dispatch arms) = tt
    region_fits wants (region.Arms first arms) = tt

    regions_fit : (wants : Bool) (list : List Region) → KeysFit (regions_keys p wants list)
    regions_fit wants [] = tt
    regions_fit wants (x ∷ list) = join (region_keys p wants x) _ (region_fits wants x) (regions_fit wants list)

    pub table_fits : (list : List Region) (wants : Bool) (slots : List Slot) → KeysFit (table_of p list wants slots)
    table_fits list wants slots =
        all_fit [] (slots_keys slots ++ (want_keys p wants ++ regions_keys p wants list)) (join (slots_keys slots) _ (slots_fit slots) (join (want_keys p wants) _ (want_fits wants) (regions_fit wants list))) tt
