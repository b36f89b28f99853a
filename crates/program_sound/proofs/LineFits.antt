-- What a line states fits: ranges, accesses, and the types of operands.
use Rattle.std.proofs.Common.{ℕ, ◌≡◌, ◌≢◌, ◌≤◌, inl, inr, refl, sym, subst, ap, ◌∙◌, arith, Bool, true, false, ◌&&◌, ◌||◌, ◌==◌, nat_lt, List, [], ◌∷◌, Option, Some, None}
use Rattle.std.proofs.lemmas.Bool.{both_ways, and_parts, and_cases, or_parts, or_cases, cases_eq, eqb-true, eq-eqb, ltb-false, not-false}
use Rattle.dx_base.specs.First.{IsSound}
use Rattle.dxil_form.specs.declared.instr.Instr.{Instr}
use Rattle.dxil_form.specs.declared.instr.Instr.TheVariants.{Load}
use Rattle.dxil_form.specs.declared.instr.Target.{Target}
use Rattle.dxil_form.specs.declared.instr.Addr.{Addr}
use Rattle.dxil_form.specs.declared.op.OpKind.{OpKind}
use Rattle.dxil_form.specs.declared.op.OpKind.TheVariants.{Bfrev, Countbits, IMax, IMin, UMax, UMin, IMad, UMad, CreateHandle, CBufferLoad, BufferLoad, BufferStore, AtomicBinOp, AtomicCompareExchange, Barrier, ThreadId, GroupId, ThreadIdInGroup, FlatId, RawLoad, RawStore}
use Rattle.dxil_form.specs.declared.value.Ty.TheVariants as ty
use Rattle.dxil_form.specs.Registers.{in_address, operands_of, cast_from}
use Rattle.dxil_form.specs.Sound.{HasType, Loads, Writes, InstrFits, BinFits, CmpFits}
use Rattle.llvm_bodies.specs.declared.line.Line.{Line}
use Rattle.profile_lines.specs.Calls.{operand as number_at, carried, plain, operation, outcome}
use Rattle.profile_lines.specs.Values.{kind_of_call, kind_of_outcome}
use Rattle.profile_lines.specs.declared.call.Outcome.TheVariants as gives
use Rattle.profile_lines.specs.declared.known.ValueKind.{ValueKind}
use Rattle.profile_lines.specs.declared.known.ValueKind.TheVariants.{Int, Bool as BoolKind, Handle, Parts, Place, Other}
use Rattle.profile_tables.specs.EntryBody.{EntryBody, kind_at}
use Rattle.profile_tables.specs.Kinds.{is_kind, is_plain, ty_of}
use Rattle.profile_tables.specs.Places.{place_named}
use Rattle.profile_tables.specs.Read.{IsRead, IsAt}
use Rattle.profile_rules.specs.Asked.{are_asked, is_of_kind, is_plain_at, are_alike, kind_stated}
use Rattle.profile_rules.specs.Rules.{Broken, narrows, widens}
use Rattle.stated_program.specs.Accesses.{index}
use Rattle.stated_program.specs.Instructions.{at, call_of, called, number_of, instruction, bin_of, cmp_of, cast_of, ty_at, no_value}
use Rattle.stated_program.specs.Stated.{program_of}
use Rattle.program_sound.proofs.Clear.{keeps2, keeps3, keeps4}
use Rattle.program_sound.proofs.Codes.{CodeIs, binop, cast, phi, load, extract, compare, select, call, rmw, gep, store, swap, unlisted, code_is, asked2, asked20, asked28, asked29, asked38, asked44, asked46, kind34, place20, place38, place44, place46, instr2, instr3, instr20, instr26, instr28, instr29, instr34, instr38, instr43, instr44, instr46, instr-other}
use Rattle.program_sound.proofs.Known.{IsGivenBy, given_once}
use Rattle.program_sound.proofs.Ends.{same_line}
use Rattle.program_sound.proofs.ValueKinds.{same_kind}
use Rattle.program_sound.proofs.Plain.{asks, type_of, kind_of_line}
use Rattle.program_sound.proofs.ValueSets.{has_register}
use Rattle.program_sound.proofs.Typed.{operand_typed, kind_typed}
use Rattle.program_sound.proofs.Once.{gives_number, call_number, gives_result}
use Rattle.program_sound.proofs.PlaceFits.{IsGep, gep_index}
use Rattle.program_sound.proofs.Access.{AreTyped, numbers_append, IsInt, OwnAddress, shared_access}
use Rattle.program_sound.proofs.CallFits.{OwnValue, call_is_fitting}
use Rattle.program_sound.proofs.PartFits.{part_set}

-- ---- operations

bin_fits : (n : ℕ) (k : ValueKind) → (nat_lt 12 n || (nat_lt n 10 && is_kind k BoolKind)) ≡ false → BinFits (bin_of n) (ty_of k)
bin_fits n Int e = tt
bin_fits n Handle e = tt
bin_fits n Parts e = tt
bin_fits n Place e = tt
bin_fits n Other e = tt
bin_fits n BoolKind e =
    let o = or_parts (nat_lt 12 n) (nat_lt n 10 && true) e in
    let most : n ≤ 12 = ltb-false 12 n o.0 in
    let least : 10 ≤ n = elim (and_cases (nat_lt n 10) true o.1) [ inl f ↦ ltb-false n 10 f | inr f ↦ cc ] in
    elim (cases_eq n 10) [
      | inl f ↦ subst (λ m. BinFits (bin_of m) ty.Bool) (sym f) (inl refl)
      | inr f ↦ elim (cases_eq n 11) [
        | inl g ↦ subst (λ m. BinFits (bin_of m) ty.Bool) (sym g) (inr (inl refl))
        | inr g ↦ let h : n ≡ 12 = omega (arith, most, least, f, g) in subst (λ m. BinFits (bin_of m) ty.Bool) (sym h) (inr (inr refl))
      ]
    ]

cmp_fits : (n : ℕ) (k : ValueKind) → (nat_lt n 32 || nat_lt 41 n || (nat_lt 33 n && is_kind k BoolKind)) ≡ false → CmpFits (cmp_of n) (ty_of k)
cmp_fits n Int e = tt
cmp_fits n Handle e = tt
cmp_fits n Parts e = tt
cmp_fits n Place e = tt
cmp_fits n Other e = tt
cmp_fits n BoolKind e =
    let o = or_parts (nat_lt n 32 || nat_lt 41 n) (nat_lt 33 n && true) e in
    let least : 32 ≤ n = ltb-false n 32 (or_parts (nat_lt n 32) (nat_lt 41 n) o.0).0 in
    let most : n ≤ 33 = elim (and_cases (nat_lt 33 n) true o.1) [ inl f ↦ ltb-false 33 n f | inr f ↦ cc ] in
    elim (cases_eq n 32) [
      | inl f ↦ subst (λ m. CmpFits (cmp_of m) ty.Bool) (sym f) (inl refl)
      | inr f ↦ let h : n ≡ 33 = omega (arith, most, least, f) in subst (λ m. CmpFits (cmp_of m) ty.Bool) (sym h) (inr refl)
    ]

pub plain_register : (k : ValueKind) → is_plain k ≡ true → has_register k ≡ true
plain_register Int e = refl
plain_register BoolKind e = refl
plain_register Handle e = cc
plain_register Parts e = cc
plain_register Place e = cc
plain_register Other e = cc

-- ---- a load's own value

abbrev pub OwnTo : Instr → Type 0
OwnTo (Load to mask target addr) = OwnAddress (λ v. v ≢ to) addr
OwnTo rest = Unit {0}

keep_own : (Own : ℕ → Type 0) (instr : Instr) → OwnValue Own instr → ((to mask : ℕ) (target : Target) (addr : Addr) → instr ≡ Load to mask target addr → (v : ℕ) → Own v → v ≢ to) → OwnTo instr
keep_own Own (Load to mask target addr) o h = λ reg t c. h to mask target addr refl reg.value (o reg t c)
keep_own Own rest o h = tt

abbrev load_to : Instr → ℕ
load_to (Load to mask target addr) = to
load_to rest = 0

abbrev is_load : Instr → Bool
is_load (Load to mask target addr) = true
is_load rest = false

call_loads : (x : EntryBody) (line : Line) (op : OpKind) → is_load (call_of x line op) ≡ true → (outcome op ≡ gives.Parts) × (number_of line ≡ load_to (call_of x line op))
call_loads x line Bfrev e = cc
call_loads x line Countbits e = cc
call_loads x line IMax e = cc
call_loads x line IMin e = cc
call_loads x line UMax e = cc
call_loads x line UMin e = cc
call_loads x line IMad e = cc
call_loads x line UMad e = cc
call_loads x line CreateHandle e = cc
call_loads x line CBufferLoad e = (refl, refl)
call_loads x line BufferLoad e = (refl, refl)
call_loads x line BufferStore e = cc
call_loads x line AtomicBinOp e = cc
call_loads x line AtomicCompareExchange e = cc
call_loads x line Barrier e = cc
call_loads x line ThreadId e = cc
call_loads x line GroupId e = cc
call_loads x line ThreadIdInGroup e = cc
call_loads x line FlatId e = cc
call_loads x line RawLoad e = (refl, refl)
call_loads x line RawStore e = cc

-- ---- lines

pub record IsLineFit (x : EntryBody) (counts : List ℕ) (instr : Instr) : Type 0 where
  pub fits : InstrFits (program_of x counts) instr
  pub typed : AreTyped x counts (operands_of instr)
  pub own : OwnTo instr

module _ (x : EntryBody) (counts : List ℕ) (read : IsRead x counts) (sound : IsSound (Broken x)) (i : ℕ) (line : Line) (here : IsAt x i line) where
  call_fit : line.code ≡ 34 → (op : OpKind) → operation x.pool line ≡ Some op → IsLineFit x counts (call_of x line op)
  call_fit c op e = let a = call_is_fitting x counts read sound i line here c op e in record { fits = a.fits; typed = a.typed; own = keep_own (IsInt x) (call_of x line op) a.own other } where
    other : (to mask : ℕ) (target : Target) (addr : Addr) → call_of x line op ≡ Load to mask target addr → (v : ℕ) → IsInt x v → v ≢ to
    other to mask target addr f v int same =
        let l = call_loads x line op (ap is_load f) in
        let g : IsGivenBy x (number_of line) i line = record { at = here; value = call_number x counts read sound i line op here c e (ap gives_result l.0) } in
        let parts : kind_at x (number_of line) ≡ Parts = kind_of_line x counts read sound (number_of line) i line g ∙ kind34 x.pool (type_of x counts read sound i line) line c ∙ ap kind_of_call e ∙ ap kind_of_outcome l.0 in
        let one : number_of line ≡ v = l.1 ∙ ap load_to f ∙ sym same in
        let z : Parts ≡ Int = sym parts ∙ ap (kind_at x) one ∙ int in
        cc

  called_fit : line.code ≡ 34 → (o : Option OpKind) → operation x.pool line ≡ o → IsLineFit x counts (called x line o)
  called_fit c None e = record { fits = tt; typed = tt; own = tt }
  called_fit c (Some op) e = call_fit c op e

  -- two operands of one kind, i32 or i1
  alike_typed : are_alike x line ≡ true → HasType (program_of x counts) (at x line 0) (ty_at x line 0) × HasType (program_of x counts) (at x line 1) (ty_at x line 0)
  alike_typed e =
      let p = and_parts (is_plain_at x line 0) (is_kind (kind_at x (number_at line 0)) (kind_at x (number_at line 1))) e in
      let r = plain_register (kind_at x (number_at line 0)) p.0 in
      (operand_typed x counts read sound (number_at line 0) r, kind_typed x counts read sound (number_at line 1) (kind_at x (number_at line 0)) (sym (same_kind _ _ p.1)) r)

  of_kind : (place : ℕ) (k : ValueKind) → is_of_kind x line place k ≡ true → has_register k ≡ true → HasType (program_of x counts) (at x line place) (ty_of k)
  of_kind place k e r = kind_typed x counts read sound (number_at line place) k (same_kind _ _ e) r

  cast_typed : line.code ≡ 3 → HasType (program_of x counts) (at x line 0) (cast_from (cast_of (plain line 0)))
  cast_typed c = elim (and_cases (line.code == 3) _ (keeps3 x sound i line here)) [
    | inl f ↦ absurd (both_ways _ f (eq-eqb line.code 3 c))
    | inr f ↦ elim (or_cases (narrows x line) (widens x line) (not-false _ f)) [
      | inl n ↦
          let p = and_parts (plain line 0 == 0) (is_of_kind x line 0 Int) (and_parts (plain line 0 == 0 && is_of_kind x line 0 Int) (is_kind (kind_stated x (carried line 1)) BoolKind) n).0 in
          subst (λ m. HasType (program_of x counts) (at x line 0) (cast_from (cast_of m))) (sym (eqb-true (plain line 0) 0 p.0)) (of_kind 0 Int p.1 refl)
      | inr n ↦
          let p = and_parts (plain line 0 == 1 || plain line 0 == 2) (is_of_kind x line 0 BoolKind) (and_parts ((plain line 0 == 1 || plain line 0 == 2) && is_of_kind x line 0 BoolKind) (is_kind (kind_stated x (carried line 1)) Int) n).0 in
          elim (or_cases (plain line 0 == 1) (plain line 0 == 2) p.0) [
            | inl a ↦ subst (λ m. HasType (program_of x counts) (at x line 0) (cast_from (cast_of m))) (sym (eqb-true (plain line 0) 1 a)) (of_kind 0 BoolKind p.1 refl)
            | inr a ↦ subst (λ m. HasType (program_of x counts) (at x line 0) (cast_from (cast_of m))) (sym (eqb-true (plain line 0) 2 a)) (of_kind 0 BoolKind p.1 refl)
          ]
    ]
  ]

  gep_typed : line.code ≡ 43 → HasType (program_of x counts) (at x line 2) ty.Int
  gep_typed c = kind_typed x counts read sound (number_at line 2) Int (gep_index x counts read sound i line here c) refl

  load_own : line.code ≡ 20 → (v : ℕ) → IsGep x v → v ≢ number_of line
  load_own c v g same =
      let own : IsGivenBy x (number_of line) i line = record { at = here; value = gives_number x counts read sound i line here (rw c refl) } in
      let by : IsGivenBy x (number_of line) g.i g.line = subst (λ n. IsGivenBy x n g.i g.line) same g.by in
      let one : g.line ≡ line = same_line x counts read g.i i g.line line by.at here (given_once x counts read (number_of line) g.i i g.line line by own) in
      let z : 43 ≡ line.code = sym g.code ∙ ap (λ (l : Line). l.code) one in
      absurd (omega (arith, z, c))

  asked : are_asked x line ≡ true
  asked = asks x counts read sound i line here

  pub line_is_fit : (line.code == 16) ≡ false → IsLineFit x counts (instruction x line)
  line_is_fit np = go (code_is line.code) where
    go : CodeIs line.code → IsLineFit x counts (instruction x line)
    go (binop c) =
        let a = alike_typed (sym (asked2 x line c) ∙ asked) in
        let f : BinFits (bin_of (plain line 0)) (ty_at x line 0) = elim (and_cases (line.code == 2) _ (keeps2 x sound i line here)) [ inl n ↦ absurd (both_ways _ n (eq-eqb line.code 2 c)) | inr m ↦ bin_fits (plain line 0) (kind_at x (number_at line 0)) m ] in
        subst (IsLineFit x counts) (sym (instr2 x line c)) (record { fits = f; typed = (a.0, (a.1, tt)); own = tt })
    go (cast c) = subst (IsLineFit x counts) (sym (instr3 x line c)) (record { fits = tt; typed = (cast_typed c, tt); own = tt })
    go (phi c) = absurd (both_ways _ np (eq-eqb line.code 16 c))
    go (load c) =
        let a = shared_access x counts read sound Loads i line here (place20 x line c) (same_kind _ _ (sym (asked20 x line c) ∙ asked)) in
        subst (IsLineFit x counts) (sym (instr20 x line c)) (record { fits = (omega arith, a.fits); typed = a.typed; own = λ reg t k. load_own c reg.value (a.own reg t k) })
    go (extract c) = subst (IsLineFit x counts) (sym (instr26 x line c)) (record { fits = tt; typed = ((refl, part_set x counts read sound i line here c), tt); own = tt })
    go (compare c) =
        let a = alike_typed (sym (asked28 x line c) ∙ asked) in
        let f : CmpFits (cmp_of (plain line 0)) (ty_at x line 0) = elim (and_cases (line.code == 28) _ (keeps4 x sound i line here)) [ inl n ↦ absurd (both_ways _ n (eq-eqb line.code 28 c)) | inr m ↦ cmp_fits (plain line 0) (kind_at x (number_at line 0)) m ] in
        subst (IsLineFit x counts) (sym (instr28 x line c)) (record { fits = f; typed = (a.0, (a.1, tt)); own = tt })
    go (select c) =
        let p = and_parts (are_alike x line) (is_of_kind x line 2 BoolKind) (sym (asked29 x line c) ∙ asked) in
        let a = alike_typed p.0 in
        subst (IsLineFit x counts) (sym (instr29 x line c)) (record { fits = tt; typed = (of_kind 2 BoolKind p.1 refl, (a.0, (a.1, tt))); own = tt })
    go (call c) = subst (IsLineFit x counts) (sym (instr34 x line c)) (called_fit c (operation x.pool line) refl)
    go (rmw c) =
        let p = and_parts (is_of_kind x line 0 Place) (is_of_kind x line 1 Int) (sym (asked38 x line c) ∙ asked) in
        let a = shared_access x counts read sound Writes i line here (place38 x line c) (same_kind _ _ p.0) in
        subst (IsLineFit x counts) (sym (instr38 x line c)) (record { fits = a.fits; typed = numbers_append x counts (in_address (index x (place_named x line))) (at x line 1 ∷ []) a.typed (of_kind 1 Int p.1 refl, tt); own = tt })
    go (gep c) = subst (IsLineFit x counts) (sym (instr43 x line c)) (record { fits = tt; typed = (gep_typed c, tt); own = tt })
    go (store c) =
        let p = and_parts (is_of_kind x line 0 Place) (is_of_kind x line 1 Int) (sym (asked44 x line c) ∙ asked) in
        let a = shared_access x counts read sound Writes i line here (place44 x line c) (same_kind _ _ p.0) in
        subst (IsLineFit x counts) (sym (instr44 x line c)) (record {
          fits = (omega arith, omega arith, a.fits);
          typed = numbers_append x counts (in_address (index x (place_named x line))) (at x line 1 ∷ no_value ∷ no_value ∷ no_value ∷ []) a.typed (of_kind 1 Int p.1 refl, (refl, (refl, (refl, tt))));
          own = tt;
        })
    go (swap c) =
        let p = and_parts (is_of_kind x line 0 Place && is_of_kind x line 1 Int) (is_of_kind x line 2 Int) (sym (asked46 x line c) ∙ asked) in
        let q = and_parts (is_of_kind x line 0 Place) (is_of_kind x line 1 Int) p.0 in
        let a = shared_access x counts read sound Writes i line here (place46 x line c) (same_kind _ _ q.0) in
        subst (IsLineFit x counts) (sym (instr46 x line c)) (record { fits = a.fits; typed = numbers_append x counts (in_address (index x (place_named x line))) (at x line 1 ∷ at x line 2 ∷ []) a.typed (of_kind 1 Int q.1 refl, (of_kind 2 Int p.1 refl, tt)); own = tt })
    go (unlisted n) = subst (IsLineFit x counts) (sym (instr-other x line n)) (record { fits = tt; typed = tt; own = tt })
