-- What the maker asks of a body, from what the readers promise and from the rules.
use Rattle.std.proofs.Common.{ℕ, ◌≡◌, ◌+◌, ◌-◌, ◌/◌, ◌%◌, ◌^◌, nat_eq, ◌<◌, ◌≤◌, ◌&&◌, inl, inr, refl, sym, ap, ◌∙◌, arith, Bool, true, false, cond, ◌==◌, List, [], ◌∷◌, ◌++◌, map, length, take, get_or, slice_get, Contains, All, Option, Some, None}
use Rattle.std.specs.List.{range_with_len}
use Rattle.std.proofs.lemmas.Bool.{both_ways, cases_lt, and_parts, eqb-true, eq-eqb, le-ltb, ltb-false}
use Rattle.std.proofs.lemmas.List.{get_or_past}
use Rattle.std.proofs.lemmas.List.Elements.{All-cons, All-nil, All-filter, All-map, All-contains}
use Rattle.std.proofs.lemmas.List.Sums.{get_or-le-sum_by}
use Rattle.dx_base.specs.First.{IsSound}
use Rattle.dxil_form.specs.declared.block.Phi.{Phi}
use Rattle.dxil_form.specs.declared.instr.Instr.{Instr}
use Rattle.dxil_form.specs.declared.instr.Instr.TheVariants.{Bin, Cmp, Cast, Select, Copy, One, Two, Mad, Id, Size, Load, Store, Atomic, Swap, Barrier, Nothing}
use Rattle.dxil_form.specs.declared.op.OpKind.{OpKind}
use Rattle.dxil_form.specs.declared.op.OpKind.TheVariants.{Bfrev, Countbits, IMax, IMin, UMax, UMin, IMad, UMad, CreateHandle, CBufferLoad, BufferLoad, BufferStore, AtomicBinOp, AtomicCompareExchange, Barrier as BarrierOp, ThreadId, GroupId, ThreadIdInGroup, FlatId, RawLoad, RawStore}
use Rattle.dxil_form.specs.declared.value.Reg.{Reg}
use Rattle.dxil_form.specs.declared.value.Ty.{Ty}
use Rattle.dxil_form.specs.declared.value.Ty.TheVariants as ty
use Rattle.dxil_form.specs.Registers.{Typed, typed, set_by as sets_of, part_of, parts_of, Spot, At_phi, At_line, Sets}
use Rattle.dxil_form.specs.Sound.{InstrFits, SharedFits}
use Rattle.llvm_bodies.specs.declared.line.Line.{Line}
use Rattle.llvm_values.specs.declared.global.Global.{Global}
use Rattle.llvm_values.specs.declared.global.Global.TheVariants.{Variable, Function, Constant}
use Rattle.profile_lines.specs.Calls.{operand, plain, is_named, opcode, operation, operation_of}
use Rattle.profile_lines.specs.Pool.{Pool, stated}
use Rattle.profile_tables.specs.declared.place.Place.{Place}
use Rattle.profile_tables.specs.EntryBody.{EntryBody}
use Rattle.profile_tables.specs.Places.{place_named, is_shared, is_named_by, variables, words_at}
use Rattle.profile_tables.specs.Read.{IsRead, IsAt}
use Rattle.profile_tables.specs.Resources.{rows_named}
use Rattle.profile_rules.specs.Rules.{Broken}
use Rattle.stated_program.specs.Accesses.{shared}
use Rattle.stated_program.specs.Instructions.{instruction, call_of, called, constant_at, own_ty}
use Rattle.stated_program.specs.Stated.{program_of}
use Rattle.stated_lines.specs.Places.{IsNarrow, IsInModule, is_id}
use Rattle.program_sound.proofs.Blocks.{phi_line, line_line}
use Rattle.program_sound.proofs.CallFits.{call_is_fitting}
use Rattle.program_sound.proofs.Clear.{keeps23}
use Rattle.program_sound.proofs.Codes.{CodeIs, binop, cast, phi, load, extract, compare, select, call, rmw, gep, store, swap, unlisted, code_is, instr2, instr3, instr20, instr26, instr28, instr29, instr34, instr38, instr43, instr44, instr46, instr-other}
use Rattle.program_sound.proofs.Ends.{last_line}
use Rattle.program_sound.proofs.Lists.{filter_contains, map_contains, range_from, take_last}
use Rattle.program_sound.proofs.Once.{in_one, in_two}
use Rattle.program_sound.proofs.PartFits.{part_set}
use Rattle.program_sound.proofs.PlaceFits.{place_shared}
use Rattle.program_sound.proofs.SharedFit.{shared_fits}
use Rattle.program_maker.specs.Blocks.{AreNumbered, AreFit}
use Rattle.program_maker.specs.Marks.{AreMarks}

-- ---- parts of registers

-- the part of the register that an instruction names to set it
abbrev to_part : Instr → ℕ
to_part (Bin to op ty a b) = to.part
to_part (Cmp to op ty a b) = to.part
to_part (Cast to op a) = to.part
to_part (Select to ty test a b) = to.part
to_part (Copy to ty a) = to.part
to_part (One to op a) = to.part
to_part (Two to op a b) = to.part
to_part (Mad to a b c) = to.part
to_part (Id to op part) = to.part
to_part (Size to buffer) = to.part
to_part (Load to mask target addr) = 0
to_part (Store mask target addr x y z w) = 0
to_part (Atomic to op target addr value) = to.part
to_part (Swap to target addr first value) = 0
to_part (Barrier sync scope uav words) = 0
to_part Nothing = 0

abbrev IsSmall : Typed Reg → Type 0
IsSmall a = a.item.part ≤ 3

one_small : (to : Reg) (t : Ty) (a : Typed Reg) → to.part ≡ 0 → Contains (typed to t ∷ []) a → IsSmall a
one_small to t a e c = let s = ap (λ (b : Typed Reg). b.item.part) (in_one (typed to t) a c) in omega (arith, e, s)

none_small : (a : Typed Reg) → Contains [] a → IsSmall a
none_small a c = absurd (omega (arith, c.1))

parts_small : (to mask : ℕ) → All IsSmall (map (λ c. typed (part_of to c) ty.Int) (parts_of mask))
parts_small to mask = All-map IsSmall (λ c. typed (part_of to c) ty.Int) (parts_of mask) (All-filter (λ c. nat_eq (mask / 2 ^ c % 2) 1) (λ c. c ≤ 3) (0 ∷ 1 ∷ 2 ∷ 3 ∷ []) four) where
  four : All (λ c. c ≤ 3) (0 ∷ 1 ∷ 2 ∷ 3 ∷ [])
  four = All-cons (λ c. c ≤ 3) 0 (1 ∷ 2 ∷ 3 ∷ []) (omega arith) (All-cons (λ c. c ≤ 3) 1 (2 ∷ 3 ∷ []) (omega arith) (All-cons (λ c. c ≤ 3) 2 (3 ∷ []) (omega arith) (All-cons (λ c. c ≤ 3) 3 [] (omega arith) (All-nil (λ c. c ≤ 3)))))

set_small : (instr : Instr) (a : Typed Reg) → to_part instr ≡ 0 → Contains (sets_of instr) a → IsSmall a
set_small (Bin to op ty a b) r e c = one_small to ty r e c
set_small (Cmp to op ty a b) r e c = one_small to _ r e c
set_small (Cast to op a) r e c = one_small to _ r e c
set_small (Select to ty test a b) r e c = one_small to ty r e c
set_small (Copy to ty a) r e c = one_small to ty r e c
set_small (One to op a) r e c = one_small to _ r e c
set_small (Two to op a b) r e c = one_small to _ r e c
set_small (Mad to a b d) r e c = one_small to _ r e c
set_small (Id to op part) r e c = one_small to _ r e c
set_small (Size to buffer) r e c = one_small to _ r e c
set_small (Load to mask target addr) r e c = All-contains IsSmall (map (λ c. typed (part_of to c) ty.Int) (parts_of mask)) r (parts_small to mask) c
set_small (Store mask target addr x y z w) r e c = none_small r c
set_small (Atomic to op target addr value) r e c = one_small to _ r e c
set_small (Swap to target addr first value) r e c = elim (in_two _ _ r c) [
  | inl s ↦ let t = ap (λ (b : Typed Reg). b.item.part) s in omega (arith, t)
  | inr s ↦ let t = ap (λ (b : Typed Reg). b.item.part) s in omega (arith, t)
]
set_small (Barrier sync scope uav words) r e c = none_small r c
set_small Nothing r e c = none_small r c

call_part : (x : EntryBody) (line : Line) (op : OpKind) → to_part (call_of x line op) ≡ 0
call_part x line Bfrev = refl
call_part x line Countbits = refl
call_part x line IMax = refl
call_part x line IMin = refl
call_part x line UMax = refl
call_part x line UMin = refl
call_part x line IMad = refl
call_part x line UMad = refl
call_part x line CreateHandle = refl
call_part x line CBufferLoad = refl
call_part x line BufferLoad = refl
call_part x line BufferStore = refl
call_part x line AtomicBinOp = refl
call_part x line AtomicCompareExchange = refl
call_part x line BarrierOp = refl
call_part x line ThreadId = refl
call_part x line GroupId = refl
call_part x line ThreadIdInGroup = refl
call_part x line FlatId = refl
call_part x line RawLoad = refl
call_part x line RawStore = refl

called_part : (x : EntryBody) (line : Line) (o : Option OpKind) → to_part (called x line o) ≡ 0
called_part x line None = refl
called_part x line (Some op) = call_part x line op

line_part : (x : EntryBody) (line : Line) → (line.code == 16) ≡ false → to_part (instruction x line) ≡ 0
line_part x line np = go (code_is line.code) where
  go : CodeIs line.code → to_part (instruction x line) ≡ 0
  go (binop c) = ap to_part (instr2 x line c)
  go (cast c) = ap to_part (instr3 x line c)
  go (phi c) = absurd (both_ways _ np (eq-eqb line.code 16 c))
  go (load c) = ap to_part (instr20 x line c)
  go (extract c) = ap to_part (instr26 x line c)
  go (compare c) = ap to_part (instr28 x line c)
  go (select c) = ap to_part (instr29 x line c)
  go (call c) = ap to_part (instr34 x line c) ∙ called_part x line (operation x.pool line)
  go (rmw c) = ap to_part (instr38 x line c)
  go (gep c) = ap to_part (instr43 x line c)
  go (store c) = ap to_part (instr44 x line c)
  go (swap c) = ap to_part (instr46 x line c)
  go (unlisted n) = ap to_part (instr-other x line n)

sets_small : (x : EntryBody) (counts : List ℕ) (b : ℕ) (spot : Spot) (reg : Reg) (t : Ty) → Sets (program_of x counts) b spot reg t → reg.part ≤ 3
sets_small x counts b (At_phi n) reg t s =
    let l = phi_line x counts b n s.sets.0 (record { block = s.block; stands = s.stands; line = s.sets.1 }) in
    let e = ap (λ (p : Phi). p.to.part) l.phi_is ∙ ap (λ (r : Reg). r.part) s.sets.2 in
    omega (arith, e)
sets_small x counts b (At_line n) reg t s =
    let l = line_line x counts b n s.sets.0 (record { block = s.block; stands = s.stands; line = s.sets.1 }) in
    set_small s.sets.0 (typed reg t) (sym (ap to_part l.instr_is) ∙ line_part x l.line l.no_phi) s.sets.2

-- ---- calls

chosen : {X : Type 0} (b : Bool) (o : Option X) (y : X) → cond b o None ≡ Some y → b ≡ true
chosen true o y e = refl
chosen false o y e = cc

call_code : (x : Pool) (line : Line) (op : OpKind) → operation x line ≡ Some op → line.code ≡ 34
unfolding operation
call_code x line op e = eqb-true line.code 34 (and_parts (line.code == 34) (is_named x line) (chosen (line.code == 34 && is_named x line) (operation_of (opcode x line)) op e)).0

component_fits : (x : EntryBody) (counts : List ℕ) (line : Line) (op : OpKind) → is_id op ≡ true → InstrFits (program_of x counts) (call_of x line op) → constant_at x line 1 32 < 256
component_fits x counts line ThreadId e f = omega (arith, f)
component_fits x counts line GroupId e f = omega (arith, f)
component_fits x counts line ThreadIdInGroup e f = omega (arith, f)
component_fits x counts line other e f = cc

-- ---- places

module _ (x : EntryBody) (counts : List ℕ) (read : IsRead x counts) (sound : IsSound (Broken x)) where
  constant_not_shared : (i : ℕ) (o : Option Global) → slice_get x.pool.constants i ≡ o → is_shared x.pool o ≡ false
  constant_not_shared i None e = refl
  constant_not_shared i (Some (Variable ty space init bit)) e = let z : false ≡ true = read.constants i (Variable ty space init bit) e in cc
  constant_not_shared i (Some (Function ty body name bit)) e = refl
  constant_not_shared i (Some (Constant ty kind bit)) e = refl

  shared_below : (v : ℕ) → is_shared x.pool (stated x.pool v) ≡ true → v < length x.pool.globals
  shared_below v e = elim (cases_lt v (length x.pool.globals)) [
    | inl l ↦ l
    | inr l ↦
        let s : stated x.pool v ≡ slice_get x.pool.constants (v - length x.pool.globals) = ap (λ b. cond b (slice_get x.pool.globals v) (slice_get x.pool.constants (v - length x.pool.globals))) (le-ltb v (length x.pool.globals) l) in
        absurd (both_ways _ (ap (is_shared x.pool) s ∙ constant_not_shared (v - length x.pool.globals) _ refl) e)
  ]

  place_inside : (i : ℕ) (line : Line) → IsAt x i line → (o : Option Place) → place_named x line ≡ o → IsInModule x o
  place_inside i line at None e = tt
  place_inside i line at (Some place) e = shared_below place.variable (place_shared x sound i line place at e)

  -- ---- the whole

  pub are_numbered : AreNumbered x
  are_numbered = record { block = read.block; blocks = read.blocks }

  line_narrow : (i : ℕ) (line : Line) → IsAt x i line → IsNarrow x line
  line_narrow i line at = record {
    part = λ c. let s = part_set x counts read sound i line at c in let l = sets_small x counts s.0 s.1 (part_of (operand line 0) (plain line 0)) (own_ty x line) s.2 in omega (arith, l);
    component = λ op e f. component_fits x counts line op f (call_is_fitting x counts read sound i line at (call_code x.pool line op e) op e).fits;
  }

  pub are_fit : AreFit x
  are_fit = record { narrow = line_narrow; inside = λ i line at. place_inside i line at (place_named x line) refl }

  pub few_rows : rows_named x x.lines ≤ 1024
  few_rows =
      let l = last_line x counts read in
      let k = ltb-false _ _ (keeps23 x sound l.i l.line l.at) in
      let same : rows_named x (take l.i x.lines ++ l.line ∷ []) ≡ rows_named x x.lines = ap (rows_named x) (take_last x.lines l.i l.line l.at l.is_last) in
      omega (arith, k, same)

  words_few : SharedFits (shared x)
  unfolding program_of
  words_few = shared_fits x counts read sound

  pub words_small : (marks : List Bool) → AreMarks (length x.pool.globals) (is_named_by x x.lines) marks → (v : ℕ) → get_or marks v false ≡ true → words_at x.pool v < 2 ^ 32
  words_small marks a v e = elim (cases_lt v (length x.pool.globals)) [
    | inr past ↦ absurd (both_ways (get_or marks v false) (get_or_past marks v false (omega (arith, past, a.same_length))) e)
    | inl l ↦
        let z : 0 + v ≡ v = omega arith in
        let c = map_contains (words_at x.pool) (variables x) v (filter_contains (is_named_by x x.lines) (range_with_len 0 (length x.pool.globals)) v v (range_from 0 (length x.pool.globals) v l ∙ ap Some z) (sym (a.each v l) ∙ e)) in
        omega (arith, c.2, get_or-le-sum_by (λ n. n) (shared x) c.0 (words_at x.pool v) c.1, words_few.most)
  ]

  pub globals_few : x.values < 2 ^ 32 → length x.pool.globals < 2 ^ 32
  globals_few l = omega (arith, l, read.values)
