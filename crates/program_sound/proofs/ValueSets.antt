-- The line that gives a value sets its register, with the type of its kind.
use Rattle.std.proofs.Common.{ℕ, ◌≡◌, ◌<◌, ◌≤◌, ◌⊎◌, inl, inr, refl, sym, subst, ap, ap₂, ◌∙◌, arith, Bool, true, false, cond, ◌||◌, ◌==◌, List, [], ◌∷◌, get_or, slice_get, Contains, unwrap_or, Option, Some, None}
use Rattle.std.proofs.lemmas.Bool.{both_ways, and_parts, and_cases, or_parts, or_cases, cases_lt, eqb-true, eq-eqb, lt-ltb, le-ltb, not-false}
use Rattle.dx_base.specs.First.{IsSound}
use Rattle.dxil_form.specs.declared.op.OpKind.{OpKind}
use Rattle.dxil_form.specs.declared.op.OpKind.TheVariants.{Bfrev, Countbits, IMax, IMin, UMax, UMin, IMad, UMad, CreateHandle, CBufferLoad, BufferLoad, BufferStore, AtomicBinOp, AtomicCompareExchange, Barrier, ThreadId, GroupId, ThreadIdInGroup, FlatId, RawLoad, RawStore}
use Rattle.dxil_form.specs.declared.value.Reg.{Reg}
use Rattle.dxil_form.specs.declared.value.Ty.{Ty}
use Rattle.dxil_form.specs.declared.value.Ty.TheVariants as ty
use Rattle.dxil_form.specs.Registers.{typed, set_by as sets_of, cast_to, Spot, At_phi, At_line, Sets}
use Rattle.llvm_types.specs.declared.kind.LlvmType.{LlvmType}
use Rattle.llvm_types.specs.declared.kind.LlvmType.TheVariants as types
use Rattle.llvm_bodies.specs.Bodies.{is_terminator}
use Rattle.llvm_bodies.specs.declared.line.Line.{Line}
use Rattle.profile_lines.specs.Calls.{operand, carried, plain, operation, outcome}
use Rattle.profile_lines.specs.Pool.{Pool}
use Rattle.profile_lines.specs.Values.{kind_in, kind_of_call, kind_of_outcome, unknown, operand_type, numbered, compared, compared_in, atomic_type}
use Rattle.profile_lines.specs.declared.call.Outcome.{Outcome}
use Rattle.profile_lines.specs.declared.call.Outcome.TheVariants as gives
use Rattle.profile_lines.specs.declared.known.Known.{Known}
use Rattle.profile_lines.specs.declared.known.ValueKind.{ValueKind}
use Rattle.profile_lines.specs.declared.known.ValueKind.TheVariants.{Int, Bool as BoolKind, Handle, Parts, Place, Other}
use Rattle.profile_lines.specs.declared.known.ValueType.{ValueType}
use Rattle.profile_lines.specs.declared.known.ValueType.TheVariants.{Numbered, Word}
use Rattle.profile_tables.specs.EntryBody.{EntryBody, kind_at}
use Rattle.profile_tables.specs.Kinds.{is_plain, ty_of}
use Rattle.profile_tables.specs.Operands.{register}
use Rattle.profile_tables.specs.Read.{IsRead, IsAt}
use Rattle.profile_rules.specs.Asked.{kind_stated, is_of_kind}
use Rattle.profile_rules.specs.Rules.{Broken, gives_word}
use Rattle.stated_program.specs.Instructions.{instruction, set_by, call_of, called, cast_of, phi_at, number_of, ty_at, own_ty}
use Rattle.stated_program.specs.Stated.{program_of}
use Rattle.program_sound.proofs.Clear.{keeps3, keeps12}
use Rattle.program_sound.proofs.Ends.{phi_there, line_there}
use Rattle.program_sound.proofs.Codes.{CodeIs, binop, cast, phi, load, extract, compare, select, call, rmw, gep, store, swap, unlisted, code_is, type2, type3, type28, type29, type38, type44, type-other, kind34, kind43, kind46, asked2, asked29, asked38, asked43, instr2, instr3, instr20, instr26, instr28, instr29, instr34, instr38, instr43, suits2, suits29}
use Rattle.program_sound.proofs.Known.{known_before, IsGivenBy, known_operand, before_length}
use Rattle.program_sound.proofs.ValueKinds.{same_kind, type_kind, IsTypeKind, int_type, bool_type, no_type}
use Rattle.program_sound.proofs.Plain.{asks, type_of, kind_of_line, kind_by_type, plain_type, alike_kind}

-- a kind whose values have a register
abbrev pub has_register : ValueKind → Bool
has_register Int = true
has_register BoolKind = true
has_register Place = true
has_register rest = false

-- some spot of the program sets a register with a type
abbrev pub HasSpot : EntryBody → List ℕ → Reg → Ty → Type 0
HasSpot x counts reg t = (b : ℕ) × (spot : Spot) × Sets (program_of x counts) b spot reg t

pub no_register : (k : ValueKind) → has_register k ≡ true → k ≡ Other → ⊥
no_register k e f = let g : has_register Other ≡ true = subst (λ j. has_register j ≡ true) f e in cc

-- the kind of a type has a register only where it is i32 or i1
type_plain : (x : Pool) (t : ValueType) (k : ValueKind) → k ≡ kind_in x t → has_register k ≡ true → is_plain k ≡ true
type_plain x t k e r = ap is_plain e ∙ go (kind_in x t) (type_kind x t) (ap has_register (sym e) ∙ r) where
  go : (j : ValueKind) → IsTypeKind j → has_register j ≡ true → is_plain j ≡ true
  go Int int_type h = refl
  go BoolKind bool_type h = refl
  go Other no_type h = cc
  go Handle t h = elim t [ ]
  go Parts t h = elim t [ ]
  go Place t h = elim t [ ]

compared_in_kind : (x : Pool) (o : Option LlvmType) → (kind_in x (compared_in o) ≡ BoolKind) ⊎ (kind_in x (compared_in o) ≡ Other)
compared_in_kind x None = inl refl
compared_in_kind x (Some (types.Vector count of)) = inr refl
compared_in_kind x (Some scalar) = inl refl

compared_kind : (x : Pool) (t : ValueType) → (kind_in x (compared x t) ≡ BoolKind) ⊎ (kind_in x (compared x t) ≡ Other)
compared_kind x (Numbered ty) = compared_in_kind x (slice_get x.types ty)
compared_kind x t = inl refl

pub stated_kind : (x : EntryBody) (o : Option ℕ) → kind_in x.pool (numbered o) ≡ kind_stated x o
stated_kind x None = refl
stated_kind x (Some ty) = refl

-- an operation that gives a number sets the register of its call
call_contains : (x : EntryBody) (line : Line) (op : OpKind) → outcome op ≡ gives.Number → Contains (sets_of (call_of x line op)) (typed (set_by line) ty.Int)
call_contains x line Bfrev e = (0, omega arith, refl)
call_contains x line Countbits e = (0, omega arith, refl)
call_contains x line IMax e = (0, omega arith, refl)
call_contains x line IMin e = (0, omega arith, refl)
call_contains x line UMax e = (0, omega arith, refl)
call_contains x line UMin e = (0, omega arith, refl)
call_contains x line IMad e = (0, omega arith, refl)
call_contains x line UMad e = (0, omega arith, refl)
call_contains x line CreateHandle e = cc
call_contains x line CBufferLoad e = cc
call_contains x line BufferLoad e = cc
call_contains x line BufferStore e = cc
call_contains x line AtomicBinOp e = (0, omega arith, refl)
call_contains x line AtomicCompareExchange e = (0, omega arith, refl)
call_contains x line Barrier e = cc
call_contains x line ThreadId e = (0, omega arith, refl)
call_contains x line GroupId e = (0, omega arith, refl)
call_contains x line ThreadIdInGroup e = (0, omega arith, refl)
call_contains x line FlatId e = (0, omega arith, refl)
call_contains x line RawLoad e = cc
call_contains x line RawStore e = cc

module _ (x : EntryBody) (counts : List ℕ) (read : IsRead x counts) (sound : IsSound (Broken x)) where
  pub line_sets : (i : ℕ) (line : Line) (reg : Reg) (t : Ty) → IsAt x i line → (line.code == 16) ≡ false → is_terminator line.code ≡ false → Contains (sets_of (instruction x line)) (typed reg t) → HasSpot x counts reg t
  line_sets i line reg t at c e k = let l = line_there x counts read i line at c e in (line.block, At_line _, record { block = l.block; stands = l.stands; sets = (instruction x line, l.line, k) })

  module _ (v i : ℕ) (line : Line) (g : IsGivenBy x v i line) where
    pub number_is : number_of line ≡ v
    number_is = ap (λ o. unwrap_or o 0) g.value

    pub set_by_is : set_by line ≡ register v
    set_by_is = ap register number_is

    -- a line that sets its register alone
    one : (t u : Ty) → (line.code == 16) ≡ false → is_terminator line.code ≡ false → sets_of (instruction x line) ≡ typed (set_by line) t ∷ [] → t ≡ u → HasSpot x counts (register v) u
    one t u c e s f =
        let k : Contains (typed (set_by line) t ∷ []) (typed (register v) u) = (0, omega arith, ap₂ typed set_by_is f) in
        line_sets i line (register v) u g.at c e (subst (λ ss. Contains ss (typed (register v) u)) (sym s) k)

    phi_sets : line.code ≡ 16 → HasSpot x counts (register v) (ty_of (kind_at x v))
    phi_sets c = let p = phi_there x counts read i line g.at c in (line.block, At_phi _, record { block = p.block; stands = p.stands; sets = (phi_at x line, p.line, set_by_is, ap (λ n. ty_of (kind_at x n)) number_is) })

    -- the cast of a CAST gives the type that it states
    cast_type : line.code ≡ 3 → ty_of (kind_stated x (carried line 1)) ≡ cast_to (cast_of (plain line 0))
    cast_type c = elim (and_cases (line.code == 3) _ (keeps3 x sound i line g.at)) [
      | inl f ↦ absurd (both_ways _ f (eq-eqb line.code 3 c))
      | inr f ↦ elim (or_cases _ _ (not-false _ f)) [
        | inl n ↦
            let p = and_parts _ _ n in
            let k : kind_stated x (carried line 1) ≡ BoolKind = same_kind _ _ p.1 in
            let z : plain line 0 ≡ 0 = eqb-true _ _ (and_parts (plain line 0 == 0) (is_of_kind x line 0 Int) p.0).0 in
            ap ty_of k ∙ ap (λ n. cast_to (cast_of n)) (sym z)
        | inr n ↦
            let p = and_parts _ _ n in
            let k : kind_stated x (carried line 1) ≡ Int = same_kind _ _ p.1 in
            ap ty_of k ∙ elim (or_cases (plain line 0 == 1) (plain line 0 == 2) (and_parts (plain line 0 == 1 || plain line 0 == 2) (is_of_kind x line 0 BoolKind) p.0).0) [
              | inl a ↦ let z : plain line 0 ≡ 1 = eqb-true _ _ a in ap (λ n. cast_to (cast_of n)) (sym z)
              | inr a ↦ let z : plain line 0 ≡ 2 = eqb-true _ _ a in ap (λ n. cast_to (cast_of n)) (sym z)
            ]
      ]
    ]

    load_kind : line.code ≡ 20 → kind_at x v ≡ Int
    load_kind c = elim (and_cases (line.code == 20) _ (or_parts _ _ (keeps12 x sound i line g.at)).0) [
      | inl f ↦ absurd (both_ways _ f (eq-eqb line.code 20 c))
      | inr f ↦ same_kind _ _ (sym (ap (gives_word x) g.value) ∙ not-false _ f)
    ]

    rmw_kind : line.code ≡ 38 → kind_at x v ≡ Int
    rmw_kind c = kind_by_type x counts read sound v i line g (rw c refl) (rw c refl) (rw c refl) ∙ ap (kind_in x.pool) (type38 x.pool x.lines x.values (known_before x i) line c) ∙ atomic (cases_lt (operand line 1) v) where
      stored : kind_at x (operand line 1) ≡ Int
      stored = same_kind (kind_at x (operand line 1)) Int (and_parts (is_of_kind x line 0 Place) (is_of_kind x line 1 Int) (sym (asked38 x line c) ∙ asks x counts read sound i line g.at)).1

      atomic : (operand line 1 < v) ⊎ (v ≤ operand line 1) → kind_in x.pool (atomic_type x.pool x.lines x.values (known_before x i) line) ≡ Int
      atomic (inl l) =
          ap (λ b. kind_in x.pool (cond b (get_or (known_before x i) (operand line 1) unknown).ty Word)) (lt-ltb _ _ (omega (arith, before_length x counts read v i line g)))
          ∙ ap (λ (n : Known). kind_in x.pool n.ty) (known_operand x counts read v i (operand line 1) line g l) ∙ plain_type x counts read sound (operand line 1) (ap is_plain stored) ∙ stored
      atomic (inr l) = ap (λ b. kind_in x.pool (cond b (get_or (known_before x i) (operand line 1) unknown).ty Word)) (le-ltb _ _ (omega (arith, before_length x counts read v i line g)))

    call_sets : line.code ≡ 34 → (o : Option OpKind) → operation x.pool line ≡ o → kind_at x v ≡ kind_of_call o → has_register (kind_at x v) ≡ true → HasSpot x counts (register v) (ty_of (kind_at x v))
    call_sets c None e k r = absurd (no_register _ r k)
    call_sets c (Some op) e k r = go (outcome op) refl k where
      go : (o : Outcome) → outcome op ≡ o → kind_at x v ≡ kind_of_outcome o → HasSpot x counts (register v) (ty_of (kind_at x v))
      go gives.Number f h =
          let s = line_sets i line (set_by line) ty.Int g.at (rw c refl) (rw c refl) (subst (λ j. Contains (sets_of j) (typed (set_by line) ty.Int)) (sym (instr34 x line c ∙ ap (called x line) e)) (call_contains x line op f)) in
          subst (λ t. HasSpot x counts (register v) t) (sym (ap ty_of h)) (subst (λ q. HasSpot x counts q ty.Int) set_by_is s)
      go gives.Handle f h = let z : has_register Handle ≡ true = subst (λ j. has_register j ≡ true) h r in cc
      go gives.Parts f h = let z : has_register Parts ≡ true = subst (λ j. has_register j ≡ true) h r in cc
      go gives.Nothing f h = absurd (no_register _ r h)

    pub value_sets : has_register (kind_at x v) ≡ true → HasSpot x counts (register v) (ty_of (kind_at x v))
    value_sets r = go (code_is line.code) where
      typed_kind : (line.code == 34) ≡ false → (line.code == 43) ≡ false → (line.code == 46) ≡ false → (kind_at x v ≡ kind_in x.pool (type_of x counts read sound i line)) × (is_plain (kind_at x v) ≡ true)
      typed_kind a b c = let k = kind_by_type x counts read sound v i line g a b c in (k, type_plain x.pool (type_of x counts read sound i line) (kind_at x v) k r)

      go : CodeIs line.code → HasSpot x counts (register v) (ty_of (kind_at x v))
      go (binop c) =
          let k = typed_kind (rw c refl) (rw c refl) (rw c refl) in
          let p = and_parts _ _ (sym (asked2 x line c) ∙ asks x counts read sound i line g.at) in
          let same = alike_kind x counts read sound v i line g (suits2 line c) (k.0 ∙ ap (kind_in x.pool) (type2 x.pool x.lines x.values (known_before x i) line c)) p.0 k.1 in
          one (ty_at x line 0) (ty_of (kind_at x v)) (rw c refl) (rw c refl) (ap sets_of (instr2 x line c)) (ap ty_of (sym same))
      go (cast c) =
          let k = typed_kind (rw c refl) (rw c refl) (rw c refl) in
          one (cast_to (cast_of (plain line 0))) (ty_of (kind_at x v)) (rw c refl) (rw c refl) (ap sets_of (instr3 x line c))
          (sym (ap ty_of (k.0 ∙ ap (kind_in x.pool) (type3 x.pool x.lines x.values (known_before x i) line c) ∙ stated_kind x (carried line 1)) ∙ cast_type c))
      go (phi c) = phi_sets c
      go (load c) = one ty.Int (ty_of (kind_at x v)) (rw c refl) (rw c refl) (ap sets_of (instr20 x line c)) (ap ty_of (sym (load_kind c)))
      go (extract c) = one (own_ty x line) (ty_of (kind_at x v)) (rw c refl) (rw c refl) (ap sets_of (instr26 x line c)) (ap (λ n. ty_of (kind_at x n)) number_is)
      go (compare c) =
          let k = typed_kind (rw c refl) (rw c refl) (rw c refl) in
          let e = k.0 ∙ ap (kind_in x.pool) (type28 x.pool x.lines x.values (known_before x i) line c) in
          elim (compared_kind x.pool (operand_type (known_before x i) line 0)) [
            | inl f ↦ one ty.Bool (ty_of (kind_at x v)) (rw c refl) (rw c refl) (ap sets_of (instr28 x line c)) (ap ty_of (sym (e ∙ f)))
            | inr f ↦ absurd (no_register _ r (e ∙ f))
          ]
      go (select c) =
          let k = typed_kind (rw c refl) (rw c refl) (rw c refl) in
          let p = and_parts _ _ (and_parts _ _ (sym (asked29 x line c) ∙ asks x counts read sound i line g.at)).0 in
          let same = alike_kind x counts read sound v i line g (suits29 line c) (k.0 ∙ ap (kind_in x.pool) (type29 x.pool x.lines x.values (known_before x i) line c)) p.0 k.1 in
          one (ty_at x line 0) (ty_of (kind_at x v)) (rw c refl) (rw c refl) (ap sets_of (instr29 x line c)) (ap ty_of (sym same))
      go (call c) = call_sets c (operation x.pool line) refl (kind_of_line x counts read sound v i line g ∙ kind34 x.pool (type_of x counts read sound i line) line c) r
      go (rmw c) = one ty.Int (ty_of (kind_at x v)) (rw c refl) (rw c refl) (ap sets_of (instr38 x line c)) (ap ty_of (sym (rmw_kind c)))
      go (gep c) =
          let e = sym (asked43 x line c) ∙ asks x counts read sound i line g.at in
          let k : kind_at x v ≡ Place = kind_of_line x counts read sound v i line g ∙ kind43 x.pool (type_of x counts read sound i line) line c ∙ ap (λ b. cond b Place (kind_in x.pool (type_of x counts read sound i line))) e in
          one ty.Int (ty_of (kind_at x v)) (rw c refl) (rw c refl) (ap sets_of (instr43 x line c)) (ap ty_of (sym k))
      go (store c) = absurd (no_register _ r ((typed_kind (rw c refl) (rw c refl) (rw c refl)).0 ∙ ap (kind_in x.pool) (type44 x.pool x.lines x.values (known_before x i) line c)))
      go (swap c) = let h = kind_of_line x counts read sound v i line g ∙ kind46 x.pool (type_of x counts read sound i line) line c in let z : has_register Parts ≡ true = subst (λ j. has_register j ≡ true) h r in cc
      go (unlisted n) = absurd (no_register _ r ((typed_kind n.no34 n.no43 n.no46).0 ∙ ap (kind_in x.pool) (type-other x.pool x.lines x.values (known_before x i) line n)))
