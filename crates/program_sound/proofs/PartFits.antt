-- The part that an EXTRACTVAL takes is set by the line that gives the value, with the type of the part.
use Rattle.std.proofs.Common.{ℕ, zero, suc, ◌≡◌, ◌<◌, ◌≤◌, inl, inr, refl, sym, subst, ap, ◌∙◌, arith, Bool, true, false, cond, ◌==◌, List, length, get_or, Contains, unwrap_or, nat_le, Option, Some, None, is_some}
use Rattle.std.proofs.lemmas.Bool.{both_ways, and_parts, and_from, and_cases, or_parts, cases_Bool, cases_lt, eqb-true, eq-eqb, leb-true, lt-ltb, le-ltb, not-false}
use Rattle.dx_base.specs.First.{IsSound}
use Rattle.dxil_form.specs.declared.instr.Addr.{Addr}
use Rattle.dxil_form.specs.declared.instr.Instr.TheVariants.{Swap}
use Rattle.dxil_form.specs.declared.instr.Target.{Target}
use Rattle.dxil_form.specs.declared.value.Operand.{Operand}
use Rattle.dxil_form.specs.declared.op.OpKind.{OpKind}
use Rattle.dxil_form.specs.declared.op.OpKind.TheVariants.{Bfrev, Countbits, IMax, IMin, UMax, UMin, IMad, UMad, CreateHandle, CBufferLoad, BufferLoad, BufferStore, AtomicBinOp, AtomicCompareExchange, Barrier, ThreadId, GroupId, ThreadIdInGroup, FlatId, RawLoad, RawStore}
use Rattle.dxil_form.specs.declared.value.Ty.TheVariants as ty
use Rattle.dxil_form.specs.Registers.{typed, set_by as sets_of, part_of, parts_of}
use Rattle.llvm_bodies.specs.declared.line.Line.{Line}
use Rattle.llvm_values.specs.declared.global.Global.{Global}
use Rattle.llvm_values.specs.declared.global.Global.TheVariants.{Variable, Function, Constant}
use Rattle.llvm_values.specs.declared.global.ConstKind.TheVariants.{Null, Undef, Integer, Gep, Other as OtherConstant}
use Rattle.profile_lines.specs.Calls.{operand, plain, operation, outcome}
use Rattle.profile_lines.specs.Pool.{Pool, stated}
use Rattle.profile_lines.specs.Setters.{setter_in}
use Rattle.profile_lines.specs.Values.{known_of, kind_in, constant_type, is_variable, members, member, source_type, given_type, call_type, kind_of_call, kind_of_outcome, unknown}
use Rattle.profile_lines.specs.declared.call.Outcome.{Outcome}
use Rattle.profile_lines.specs.declared.call.Outcome.TheVariants as gives
use Rattle.profile_lines.specs.declared.known.Known.{Known}
use Rattle.profile_lines.specs.declared.known.ValueKind.{ValueKind}
use Rattle.profile_lines.specs.declared.known.ValueKind.TheVariants.{Int, Bool as BoolKind, Handle, Parts, Place, Other}
use Rattle.profile_lines.specs.declared.known.ValueType.{ValueType}
use Rattle.profile_lines.specs.declared.known.ValueType.TheVariants.{Exchanged}
use Rattle.profile_tables.specs.EntryBody.{EntryBody, kind_at, setter}
use Rattle.profile_tables.specs.Kinds.{ty_of}
use Rattle.profile_tables.specs.Parts.{mask_of, mask_in, taken_of, takes}
use Rattle.profile_tables.specs.Places.{place_named}
use Rattle.profile_tables.specs.Read.{IsRead, IsAt, gives_value}
use Rattle.profile_rules.specs.Asked.{has_parts, is_result, type_behind}
use Rattle.profile_rules.specs.Rules.{Broken, has_part, gives_part}
use Rattle.stated_program.specs.Accesses.{array, index}
use Rattle.stated_program.specs.Instructions.{at, call_of, called, number_of, own_ty}
use Rattle.program_sound.proofs.Lists.{any_from, map_contains, count_before}
use Rattle.program_sound.proofs.Clear.{keeps22}
use Rattle.program_sound.proofs.Codes.{type26, type34, type46, kind34, kind43, kind-else, asked26, instr34, instr46}
use Rattle.program_sound.proofs.Known.{known_before, IsGivenBy, known_is, known_operand, before_length}
use Rattle.program_sound.proofs.ValueKinds.{same_kind, type_kind, IsTypeKind, int_type, bool_type, no_type, before, by_line, none, value_is}
use Rattle.program_sound.proofs.Plain.{asks, call_fits, type_of, kind_of_line, kind_by_type}
use Rattle.program_sound.proofs.ValueSets.{HasSpot, line_sets}
use Rattle.program_sound.proofs.Typed.{setter_is}
use Rattle.program_sound.proofs.Once.{gives_number}
use Rattle.program_sound.proofs.PartSets.{mask_bit, taken_at, first_member, call_part}

-- ---- kinds that are parts

type_no_parts : (x : Pool) (t : ValueType) → kind_in x t ≡ Parts → ⊥
type_no_parts x t e = go (kind_in x t) (type_kind x t) e where
  go : (k : ValueKind) → IsTypeKind k → k ≡ Parts → ⊥
  go Int int_type f = cc
  go BoolKind bool_type f = cc
  go Other no_type f = cc
  go Handle t f = elim t [ ]
  go Parts t f = elim t [ ]
  go Place t f = elim t [ ]

place_or_other : (b : Bool) → cond b Place Other ≡ Parts → ⊥
place_or_other true e = cc
place_or_other false e = cc

place_or_type : (x : Pool) (t : ValueType) (b : Bool) → cond b Place (kind_in x t) ≡ Parts → ⊥
place_or_type x t true e = cc
place_or_type x t false e = type_no_parts x t e

stated_no_parts : (x : Pool) (g : Global) → (known_of x g).kind ≡ Parts → ⊥
stated_no_parts x (Variable ty space init bit) e = cc
stated_no_parts x (Function ty body name bit) e = cc
stated_no_parts x (Constant ty Null bit) e = type_no_parts x (constant_type ty) e
stated_no_parts x (Constant ty Undef bit) e = type_no_parts x (constant_type ty) e
stated_no_parts x (Constant ty (Integer n) bit) e = type_no_parts x (constant_type ty) e
stated_no_parts x (Constant ty OtherConstant bit) e = cc
stated_no_parts x (Constant ty (Gep source args) bit) e = place_or_other (is_variable (stated x (get_or args 0 (0, 0)).1)) e

outcome_parts : (o : Outcome) → kind_of_outcome o ≡ Parts → o ≡ gives.Parts
outcome_parts gives.Parts e = refl
outcome_parts gives.Number e = cc
outcome_parts gives.Handle e = cc
outcome_parts gives.Nothing e = cc

-- a load of parts
pub data IsLoad : OpKind → Type 0 where
  row_load : IsLoad CBufferLoad
  typed_load : IsLoad BufferLoad
  raw_load : IsLoad RawLoad

pub load_of_parts : (op : OpKind) → outcome op ≡ gives.Parts → IsLoad op
load_of_parts CBufferLoad e = row_load
load_of_parts BufferLoad e = typed_load
load_of_parts RawLoad e = raw_load
load_of_parts Bfrev e = cc
load_of_parts Countbits e = cc
load_of_parts IMax e = cc
load_of_parts IMin e = cc
load_of_parts UMax e = cc
load_of_parts UMin e = cc
load_of_parts IMad e = cc
load_of_parts UMad e = cc
load_of_parts CreateHandle e = cc
load_of_parts BufferStore e = cc
load_of_parts AtomicBinOp e = cc
load_of_parts AtomicCompareExchange e = cc
load_of_parts Barrier e = cc
load_of_parts ThreadId e = cc
load_of_parts GroupId e = cc
load_of_parts ThreadIdInGroup e = cc
load_of_parts FlatId e = cc
load_of_parts RawStore e = cc

load_sets : (x : EntryBody) (line : Line) (n : ℕ) {op : OpKind} → IsLoad op → Contains (parts_of (mask_of x (number_of line))) n → Contains (sets_of (call_of x line op)) (typed (part_of (number_of line) n) ty.Int)
load_sets x line n row_load c = map_contains (λ k. typed (part_of (number_of line) k) ty.Int) (parts_of (mask_of x (number_of line))) n c
load_sets x line n typed_load c = map_contains (λ k. typed (part_of (number_of line) k) ty.Int) (parts_of (mask_of x (number_of line))) n c
load_sets x line n raw_load c = map_contains (λ k. typed (part_of (number_of line) k) ty.Int) (parts_of (mask_of x (number_of line))) n c

load_part : (x : Pool) (line : Line) (n : ℕ) {op : OpKind} → IsLoad op → gives_part x line n (Some op) ≡ true → n ≤ 3
load_part x line n row_load e = leb-true _ _ e
load_part x line n typed_load e = leb-true _ _ e
load_part x line n raw_load e = leb-true _ _ (and_parts (nat_le n 3) _ e).0

swap_sets : (x : Pool) (to n : ℕ) (target : Target) (addr : Addr) (a b : Operand) → n ≤ 1 → Contains (sets_of (Swap to target addr a b)) (typed (part_of to n) (ty_of (kind_in x (member x Exchanged n))))
swap_sets x to zero target addr a b l = (0, omega arith, refl)
swap_sets x to (suc zero) target addr a b l = (1, omega arith, refl)
swap_sets x to (suc (suc n)) target addr a b l = absurd (omega arith)

module _ (x : EntryBody) (counts : List ℕ) (read : IsRead x counts) (sound : IsSound (Broken x)) (i : ℕ) (line : Line) (here : IsAt x i line) (c : line.code ≡ 26) where
  extract_by : IsGivenBy x (number_of line) i line
  extract_by = record { at = here; value = gives_number x counts read sound i line here (rw c refl) }

  parts_rule : (length line.plain ≡ 1) × (has_part x (plain line 0) (setter x (operand line 0)) ≡ true)
  parts_rule = elim (and_cases (line.code == 26) _ (keeps22 x sound i line here)) [
    | inl f ↦ absurd (both_ways _ f (eq-eqb line.code 26 c))
    | inr f ↦ let o = or_parts _ _ f in (eqb-true _ _ (not-false _ o.0), not-false _ o.1)
  ]

  -- the line that gives the value of which a part is taken
  module _ (j : ℕ) (from : Line) (by : IsGivenBy x (operand line 0) j from) where
    source_is : (G : ValueType) → type_of x counts read sound j from ≡ G → given_type x.pool (Some from) ≡ G → source_type x.pool x.lines x.values (known_before x i) line ≡ G
    source_is G e f = elim (cases_lt (operand line 0) (number_of line)) [
      | inl l ↦
          ap (λ b. cond b (get_or (known_before x i) (operand line 0) unknown).ty (given_type x.pool (setter_in x.lines x.values (operand line 0)))) (lt-ltb _ _ (omega (arith, before_length x counts read (number_of line) i line extract_by)))
          ∙ ap (λ (k : Known). k.ty) (known_operand x counts read (number_of line) i (operand line 0) line extract_by l) ∙ ap (λ (k : Known). k.ty) (known_is x counts read (operand line 0) j from by) ∙ e
      | inr l ↦
          ap (λ b. cond b (get_or (known_before x i) (operand line 0) unknown).ty (given_type x.pool (setter_in x.lines x.values (operand line 0)))) (le-ltb _ _ (omega (arith, before_length x counts read (number_of line) i line extract_by)))
          ∙ ap (given_type x.pool) (setter_is x counts read (operand line 0) j from by) ∙ f
    ]

    part_kind_is : (G : ValueType) → type_of x counts read sound j from ≡ G → given_type x.pool (Some from) ≡ G → kind_at x (number_of line) ≡ kind_in x.pool (member x.pool G (plain line 0))
    part_kind_is G e f = kind_by_type x counts read sound (number_of line) i line extract_by (rw c refl) (rw c refl) (rw c refl)
        ∙ ap (kind_in x.pool) (type26 x.pool x.lines x.values (known_before x i) line c ∙ ap (λ t. members x.pool t line.plain) (source_is G e f) ∙ first_member x.pool G line.plain parts_rule.0)

    from_number : number_of from ≡ operand line 0
    from_number = ap (λ o. unwrap_or o 0) by.value

    has_its_part : has_part x (plain line 0) (Some from) ≡ true
    has_its_part = ap (has_part x (plain line 0)) (sym (setter_is x counts read (operand line 0) j from by)) ∙ parts_rule.1

    by_swap : from.code ≡ 46 → HasSpot x counts (part_of (operand line 0) (plain line 0)) (own_ty x line)
    by_swap d =
        let k = part_kind_is Exchanged (type46 x.pool x.lines x.values (known_before x j) from d) (rw d refl) in
        let low : plain line 0 ≤ 1 = leb-true _ _ (sym (ap (λ b. cond b (nat_le (plain line 0) 1) (gives_part x.pool from (plain line 0) (operation x.pool from))) (eq-eqb from.code 46 d)) ∙ has_its_part) in
        let sets = swap_sets x.pool (number_of from) (plain line 0) (array x (place_named x from)) (index x (place_named x from)) (at x from 1) (at x from 2) low in
        let spot = line_sets x counts read sound j from (part_of (number_of from) (plain line 0)) (ty_of (kind_in x.pool (member x.pool Exchanged (plain line 0)))) by.at (rw d refl) (rw d refl)
        (subst (λ q. Contains (sets_of q) (typed (part_of (number_of from) (plain line 0)) (ty_of (kind_in x.pool (member x.pool Exchanged (plain line 0)))))) (sym (instr46 x from d)) sets) in
        subst (λ t. HasSpot x counts (part_of (operand line 0) (plain line 0)) t) (ap ty_of (sym k)) (subst (λ m. HasSpot x counts (part_of m (plain line 0)) (ty_of (kind_in x.pool (member x.pool Exchanged (plain line 0))))) from_number spot)

    part_taken_here : plain line 0 ≤ 3 → Contains (parts_of (mask_of x (operand line 0))) (plain line 0)
    unfolding mask_of
    part_taken_here l =
        let within : operand line 0 < x.values = omega (arith, read.numbered j (operand line 0) from by.at by.value, read.values, count_before gives_value x.lines j from by.at (ap is_some by.value)) in
        let takes_here : takes (operand line 0) (plain line 0) line ≡ true = and_from _ _ (and_from _ _ (and_from _ _ (eq-eqb _ _ c) (eq-eqb (operand line 0) (operand line 0) refl)) (eq-eqb _ _ parts_rule.0)) (eq-eqb (plain line 0) (plain line 0) refl) in
        let taken = any_from (takes (operand line 0) (plain line 0)) x.lines i line here takes_here in
        subst (λ b. Contains (parts_of (cond b (mask_in (taken_of x.lines (operand line 0))) 0)) (plain line 0)) (sym (lt-ltb _ _ within)) (mask_bit (taken_of x.lines (operand line 0)) (plain line 0) l (taken_at x.lines (operand line 0) (plain line 0) l taken))

    by_call : from.code ≡ 34 → (op : OpKind) → operation x.pool from ≡ Some op → outcome op ≡ gives.Parts → HasSpot x counts (part_of (operand line 0) (plain line 0)) (own_ty x line)
    by_call d op e o =
        let k = part_kind_is (call_type x.pool from) (type34 x.pool x.lines x.values (known_before x j) from d) (rw d refl) in
        let no46 : (from.code == 46) ≡ false = rw d refl in
        let given : gives_part x.pool from (plain line 0) (Some op) ≡ true = sym (ap (gives_part x.pool from (plain line 0)) e)
        ∙ sym (ap (λ b. cond b (nat_le (plain line 0) 1) (gives_part x.pool from (plain line 0) (operation x.pool from))) no46) ∙ has_its_part in
        let low : plain line 0 ≤ 3 = load_part x.pool from (plain line 0) (load_of_parts op o) given in
        let parts : has_parts x.pool (type_behind x.pool (call_type x.pool from)) ≡ true = sym (ap (λ q. is_result x.pool q (type_behind x.pool (call_type x.pool from))) o) ∙ (and_parts _ _ (call_fits x counts read sound j from op by.at d e)).1 in
        let int : kind_at x (number_of line) ≡ Int = k ∙ call_part x.pool (call_type x.pool from) (plain line 0) parts low in
        let mask : Contains (parts_of (mask_of x (number_of from))) (plain line 0) = subst (λ m. Contains (parts_of (mask_of x m)) (plain line 0)) (sym from_number) (part_taken_here low) in
        let spot = line_sets x counts read sound j from (part_of (number_of from) (plain line 0)) ty.Int by.at (rw d refl) (rw d refl)
        (subst (λ q. Contains (sets_of q) (typed (part_of (number_of from) (plain line 0)) ty.Int)) (sym (instr34 x from d ∙ ap (called x from) e)) (load_sets x from (plain line 0) (load_of_parts op o) mask)) in
        subst (λ t. HasSpot x counts (part_of (operand line 0) (plain line 0)) t) (ap ty_of (sym int)) (subst (λ m. HasSpot x counts (part_of m (plain line 0)) ty.Int) from_number spot)

    by_operation : from.code ≡ 34 → (o : Option OpKind) → operation x.pool from ≡ o → kind_of_call o ≡ Parts → HasSpot x counts (part_of (operand line 0) (plain line 0)) (own_ty x line)
    by_operation d None e k = cc
    by_operation d (Some op) e k = by_call d op e (outcome_parts (outcome op) k)

  pub part_set : HasSpot x counts (part_of (operand line 0) (plain line 0)) (own_ty x line)
  part_set = elim (value_is x counts read (operand line 0)) [
    | before l s ↦ absurd (stated_no_parts x.pool s.value (ap (λ (k : Known). k.kind) (sym s.known_is) ∙ parts))
    | none e ↦ let z : Other ≡ Parts = sym e ∙ parts in cc
    | by_line l s ↦
        let k = sym (kind_of_line x counts read sound (operand line 0) s.i s.line s.by) ∙ parts in
        let T = type_of x counts read sound s.i s.line in
        elim (cases_Bool (s.line.code == 34)) [
          | inl a ↦ let d = eqb-true s.line.code 34 a in by_operation s.i s.line s.by d (operation x.pool s.line) refl (sym (kind34 x.pool T s.line d) ∙ k)
          | inr na ↦ elim (cases_Bool (s.line.code == 46)) [
            | inl b ↦ by_swap s.i s.line s.by (eqb-true s.line.code 46 b)
            | inr nb ↦ elim (cases_Bool (s.line.code == 43)) [
              | inl d ↦ absurd (place_or_type x.pool T (is_variable (stated x.pool (operand s.line 0))) (sym (kind43 x.pool T s.line (eqb-true s.line.code 43 d)) ∙ k))
              | inr nd ↦ absurd (type_no_parts x.pool T (sym (kind-else x.pool T s.line na nd nb) ∙ k))
            ]
          ]
        ]
  ] where
    parts : kind_at x (operand line 0) ≡ Parts
    parts = same_kind (kind_at x (operand line 0)) Parts (sym (asked26 x line c) ∙ asks x counts read sound i line here)
