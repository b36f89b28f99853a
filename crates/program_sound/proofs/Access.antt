-- The accesses of lines: their targets are in the program's lists, and their addresses have the form and the types that they take.
use Rattle.std.proofs.Common.{ℕ, zero, suc, ◌≡◌, inl, inr, refl, sym, subst, ap, ◌∙◌, arith, Bool, true, false, cond, ◌==◌, List, [], ◌∷◌, ◌++◌, slice_get, Contains, Option, Some, None}
use Rattle.std.proofs.lemmas.Bool.{both_ways, eqb-true, eq-eqb, not-false}
use Rattle.std.proofs.lemmas.Option.{same_Some}
use Rattle.dx_base.specs.First.{IsSound}
use Rattle.dxil_form.specs.declared.instr.Addr.{Addr}
use Rattle.dxil_form.specs.declared.instr.Target.{Target}
use Rattle.dxil_form.specs.declared.op.OpKind.{OpKind}
use Rattle.dxil_form.specs.declared.program.Class.{Class}
use Rattle.dxil_form.specs.declared.program.Class.TheVariants.{Srv, Uav, Cbv}
use Rattle.dxil_form.specs.declared.program.Kind.{Kind}
use Rattle.dxil_form.specs.declared.program.Kind.TheVariants.{Raw, Structured, Constant}
use Rattle.dxil_form.specs.declared.program.Resource.{Resource}
use Rattle.dxil_form.specs.declared.value.Operand.{Operand}
use Rattle.dxil_form.specs.declared.value.Operand.TheVariants as operand
use Rattle.dxil_form.specs.declared.value.Reg.{Reg}
use Rattle.dxil_form.specs.declared.value.Ty.{Ty}
use Rattle.dxil_form.specs.declared.value.Ty.TheVariants as ty
use Rattle.dxil_form.specs.Registers.{Typed, in_address, numbers}
use Rattle.dxil_form.specs.Sound.{HasType, Use, Loads, Writes, ClassFits, AddrFits, AccessFits, IsBuffer}
use Rattle.llvm_bodies.specs.declared.line.Line.{Line}
use Rattle.llvm_facts.specs.declared.facts.Row.{Row}
use Rattle.llvm_values.specs.declared.global.Global.{Global}
use Rattle.profile_lines.specs.Calls.{operand as number_at, argument, operation}
use Rattle.profile_lines.specs.Pool.{stated}
use Rattle.profile_lines.specs.declared.known.ValueKind.TheVariants.{Int, Place as PlaceKind}
use Rattle.profile_tables.specs.declared.place.Place.{Place}
use Rattle.profile_tables.specs.EntryBody.{EntryBody, kind_at, setter}
use Rattle.profile_tables.specs.Kinds.{ty_of}
use Rattle.profile_tables.specs.Operands.{operand_of, operand_by}
use Rattle.profile_tables.specs.Places.{place_named, place_of}
use Rattle.profile_tables.specs.Resources.{class_number, row_set, row_by, row_at, handle_row, names_row, is_row, is_row_named}
use Rattle.profile_tables.specs.Read.{IsRead, IsAt}
use Rattle.profile_rules.specs.Rules.{Broken, is_unsound, suits_row, is_buffer, is_cbv, is_loadable, is_writable}
use Rattle.stated_program.specs.Accesses.{resource_of, kind_of, rank, buffer, address, address_in, array, index}
use Rattle.stated_program.specs.Stated.{program_of}
use Rattle.program_sound.proofs.Lists.{any_from}
use Rattle.program_sound.proofs.Clear.{keeps10, keeps21}
use Rattle.program_sound.proofs.Once.{in_one, in_two}
use Rattle.program_sound.proofs.Rows.{resource_there}
use Rattle.program_sound.proofs.Typed.{setter_by, kind_typed}
use Rattle.program_sound.proofs.PlaceFits.{IsGep, IsIndexed, place_there, value_of, is_reg, stated_no_reg}
use Rattle.program_sound.proofs.SharedFit.{place_within}

-- ---- lists of operands

-- each operand has the type that its place takes
abbrev pub AreTyped : EntryBody → List ℕ → List (Typed Operand) → Type 0
AreTyped x counts [] = Unit {0}
AreTyped x counts (a ∷ rest) = HasType (program_of x counts) a.item a.ty × AreTyped x counts rest

pub typed_at : (x : EntryBody) (counts : List ℕ) (all : List (Typed Operand)) (k : ℕ) (a : Typed Operand) → AreTyped x counts all → slice_get all k ≡ Some a → HasType (program_of x counts) a.item a.ty
typed_at x counts [] k a h e = cc
typed_at x counts (b ∷ all) zero a h e = subst (λ (c : Typed Operand). HasType (program_of x counts) c.item c.ty) (same_Some b a e) h.0
typed_at x counts (b ∷ all) (suc k) a h e = typed_at x counts all k a h.1 e

pub numbers_append : (x : EntryBody) (counts : List ℕ) (first second : List Operand) → AreTyped x counts (numbers first) → AreTyped x counts (numbers second) → AreTyped x counts (numbers (first ++ second))
numbers_append x counts [] second h k = k
numbers_append x counts (a ∷ first) second h k = (h.0, numbers_append x counts first second h.1 k)

-- ---- what an address names

-- the registers of an address are those of such values
abbrev pub OwnAddress : (ℕ → Type 0) → Addr → Type 0
OwnAddress Own addr = (reg : Reg) (t : Ty) → Contains (in_address addr) (operand.Reg reg t) → Own reg.value

pub record IsAccess (x : EntryBody) (counts : List ℕ) (Own : ℕ → Type 0) (use_as : Use) (target : Target) (addr : Addr) : Type 0 where
  pub fits : AccessFits (program_of x counts) use_as target addr
  pub typed : AreTyped x counts (numbers (in_address addr))
  pub own : OwnAddress Own addr

abbrev pub IsInt : EntryBody → ℕ → Type 0
IsInt x v = kind_at x v ≡ Int

pub operand_value : (x : EntryBody) (v : ℕ) (reg : Reg) (t : Ty) → operand_of x v ≡ operand.Reg reg t → v ≡ reg.value
unfolding operand_of
operand_value x v reg t e = go (stated x.pool v) refl where
  go : (o : Option Global) → stated x.pool v ≡ o → v ≡ reg.value
  go None f = ap value_of (ap (operand_by v (ty_of (kind_at x v))) (sym f) ∙ e)
  go (Some g) f = absurd (both_ways _ (stated_no_reg v (ty_of (kind_at x v)) g) (ap is_reg (ap (operand_by v (ty_of (kind_at x v))) (sym f) ∙ e)))

-- ---- addresses by the layout of a row

addr_fits : (use_as : Use) (kind : Kind) (a b : Operand) (resource : Resource) → resource.kind ≡ kind → IsBuffer kind → ClassFits use_as resource.class → AddrFits use_as (address_in kind a b) resource
addr_fits use_as Raw a b resource e i c = (e, c)
addr_fits use_as (Structured stride) a b resource e i c = (e, c)
addr_fits use_as (Constant rows) a b resource e i c = absurd i

kind_branch : (b : Bool) (n : ℕ) → IsBuffer (cond b Raw (Structured n))
kind_branch true n = tt
kind_branch false n = tt

buffer_kind : (row : Row) (c : Class) → row.class ≡ c → is_buffer c ≡ true → IsBuffer (kind_of row)
buffer_kind row Srv e f = rw e (kind_branch (row.kind == 11) row.size)
buffer_kind row Uav e f = rw e (kind_branch (row.kind == 11) row.size)
buffer_kind row Cbv e f = cc

-- where a row is a constant buffer, an address is its first coordinate
row_addr_fits : (row : Row) (a b : Operand) → row.class ≡ Cbv → AddrFits Loads (address_in (kind_of row) a b) (resource_of row)
row_addr_fits row a b e = rw e refl

row_operands : (row : Row) (a b : Operand) → row.class ≡ Cbv → in_address (address_in (kind_of row) a b) ≡ a ∷ []
row_operands row a b e = rw e refl

address_typed : (x : EntryBody) (counts : List ℕ) (kind : Kind) (a b : Operand) → HasType (program_of x counts) a ty.Int → HasType (program_of x counts) b ty.Int → AreTyped x counts (numbers (in_address (address_in kind a b)))
address_typed x counts Raw a b h k = (h, tt)
address_typed x counts (Structured stride) a b h k = (h, (k, tt))
address_typed x counts (Constant rows) a b h k = (h, tt)

operand_own : (x : EntryBody) (v : ℕ) (reg : Reg) (t : Ty) → IsInt x v → operand_of x v ≡ operand.Reg reg t → IsInt x reg.value
operand_own x v reg t k e = subst (IsInt x) (operand_value x v reg t e) k

address_own : (x : EntryBody) (kind : Kind) (u v : ℕ) → IsInt x u → IsInt x v → OwnAddress (IsInt x) (address_in kind (operand_of x u) (operand_of x v))
address_own x Raw u v h k reg t c = operand_own x u reg t h (in_one _ _ c)
address_own x (Constant rows) u v h k reg t c = operand_own x u reg t h (in_one _ _ c)
address_own x (Structured stride) u v h k reg t c = elim (in_two _ _ _ c) [ inl e ↦ operand_own x u reg t h e | inr e ↦ operand_own x v reg t k e ]

-- ---- rows by class

loadable_row : (o : Option Row) → is_loadable o ≡ true → (row : Row) × (o ≡ Some row) × (is_buffer row.class ≡ true)
loadable_row None e = cc
loadable_row (Some row) e = (row, refl, e)

writable_row : (o : Option Row) → is_writable o ≡ true → (row : Row) × (o ≡ Some row) × (class_number row.class ≡ 1)
writable_row None e = cc
writable_row (Some row) e = (row, refl, eqb-true _ _ e)

cbv_row : (o : Option Row) → is_cbv o ≡ true → (row : Row) × (o ≡ Some row) × (class_number row.class ≡ 2)
cbv_row None e = cc
cbv_row (Some row) e = (row, refl, eqb-true _ _ e)

is_uav : (c : Class) → class_number c ≡ 1 → c ≡ Uav
is_uav Uav e = refl
is_uav Srv e = absurd (omega (arith, e))
is_uav Cbv e = absurd (omega (arith, e))

is_cbv_class : (c : Class) → class_number c ≡ 2 → c ≡ Cbv
is_cbv_class Cbv e = refl
is_cbv_class Srv e = absurd (omega (arith, e))
is_cbv_class Uav e = absurd (omega (arith, e))

loads_class : (c : Class) → is_buffer c ≡ true → ClassFits Loads c
loads_class Srv e = inl refl
loads_class Uav e = inr refl
loads_class Cbv e = cc

-- ---- groupshared places

pub record IsNamed (x : EntryBody) (counts : List ℕ) (line : Line) : Type 0 where
  pub place : Place
  pub named : place_named x line ≡ Some place
  pub indexed : IsIndexed x counts place

module _ (x : EntryBody) (counts : List ℕ) (read : IsRead x counts) (sound : IsSound (Broken x)) where
  pub place_is_named : (i : ℕ) (line : Line) → IsAt x i line → place_named x line ≡ place_of x (number_at line 0) → kind_at x (number_at line 0) ≡ PlaceKind → IsNamed x counts line
  place_is_named i line at e k =
      let p = place_there x counts read sound (number_at line 0) k in
      let named : place_named x line ≡ Some p.place = e ∙ p.is_place in
      record { place = p.place; named = named; indexed = p.indexed (not-false _ (sym (ap is_unsound named) ∙ keeps10 x sound i line at)) }

  pub shared_access : (use_as : Use) (i : ℕ) (line : Line) → IsAt x i line → place_named x line ≡ place_of x (number_at line 0) → kind_at x (number_at line 0) ≡ PlaceKind
      → IsAccess x counts (IsGep x) use_as (array x (place_named x line)) (index x (place_named x line))
  shared_access use_as i line at e k =
      let n = place_is_named i line at e k in
      let access : IsAccess x counts (IsGep x) use_as (array x (Some n.place)) (index x (Some n.place)) = record {
        fits = (place_within x counts read sound i line n.place at n.named, tt);
        typed = (n.indexed.typed, tt);
        own = λ reg t c. n.indexed.own reg t (in_one _ _ c);
      } in
      subst (λ o. IsAccess x counts (IsGep x) use_as (array x o) (index x o)) (sym n.named) access

  -- ---- buffers

  pub record IsHandled (line : Line) : Type 0 where
    pub r : ℕ
    pub row : Row
    pub handle : handle_row x line ≡ Some r
    pub at : slice_get x.rows r ≡ Some row
    pub named : is_row_named x x.lines r ≡ true

  set_named : (o : Option Line) (v r : ℕ) → setter x v ≡ o → row_set x o ≡ Some r → is_row_named x x.lines r ≡ true
  set_named None v r e f = cc
  set_named (Some l) v r e f = let s = setter_by x v l e in any_from (names_row x r) x.lines s.i l s.by.at (ap (is_row r) f ∙ eq-eqb r r refl)

  by_named : (o : Option ℕ) (r : ℕ) → row_by x o ≡ Some r → is_row_named x x.lines r ≡ true
  by_named None r e = cc
  by_named (Some v) r e = set_named (setter x v) v r refl e

  pub handled : (line : Line) (row : Row) → row_at x (handle_row x line) ≡ Some row → (h : IsHandled line) × (h.row ≡ row)
  handled line row e = go (handle_row x line) refl e where
    go : (o : Option ℕ) → handle_row x line ≡ o → row_at x o ≡ Some row → (h : IsHandled line) × (h.row ≡ row)
    go None f g = cc
    go (Some r) f g = (record { r = r; row = row; handle = f; at = g; named = by_named (argument line 1) r f }, refl)

  pub suited_row : (i : ℕ) (line : Line) (op : OpKind) → IsAt x i line → operation x.pool line ≡ Some op → suits_row (Some op) (row_at x (handle_row x line)) ≡ true
  suited_row i line op at e = sym (ap (λ o. suits_row o (row_at x (handle_row x line))) e) ∙ not-false _ (keeps21 x sound i line at)

  -- the access of a call that names a handle, by the values of its two coordinates
  module _ (line : Line) (u v : ℕ) (int : IsInt x u) where
    abbrev pub BufferAccess : Use → Type 0
    BufferAccess use_as = IsAccess x counts (IsInt x) use_as (buffer x (handle_row x line)) (address (row_at x (handle_row x line)) (operand_of x u) (operand_of x v))

    with_row : (use_as : Use) (h : IsHandled line) → AddrFits use_as (address_in (kind_of h.row) (operand_of x u) (operand_of x v)) (resource_of h.row)
        → AreTyped x counts (numbers (in_address (address_in (kind_of h.row) (operand_of x u) (operand_of x v)))) → OwnAddress (IsInt x) (address_in (kind_of h.row) (operand_of x u) (operand_of x v)) → BufferAccess use_as
    unfolding program_of
    with_row use_as h f t o =
        let there : slice_get (program_of x counts).resources (rank x h.r) ≡ Some (resource_of h.row) = resource_there x counts read h.r h.row h.named h.at in
        let access : IsAccess x counts (IsInt x) use_as (buffer x (Some h.r)) (address (Some h.row) (operand_of x u) (operand_of x v)) = record { fits = (resource_of h.row, there, f); typed = t; own = o } in
        let at_row : IsAccess x counts (IsInt x) use_as (buffer x (Some h.r)) (address (row_at x (Some h.r)) (operand_of x u) (operand_of x v)) =
        subst (λ q. IsAccess x counts (IsInt x) use_as (buffer x (Some h.r)) (address q (operand_of x u) (operand_of x v))) (sym h.at) access in
        subst (λ q. IsAccess x counts (IsInt x) use_as (buffer x q) (address (row_at x q) (operand_of x u) (operand_of x v))) (sym h.handle) at_row

    with_buffer : (use_as : Use) (row : Row) → row_at x (handle_row x line) ≡ Some row → IsInt x v → is_buffer row.class ≡ true → ClassFits use_as row.class → BufferAccess use_as
    with_buffer use_as row e other b c =
        let h = handled line row e in
        let t = kind_typed x counts read sound u Int int refl in
        let s = kind_typed x counts read sound v Int other refl in
        with_row use_as h.0
        (addr_fits use_as (kind_of h.0.row) (operand_of x u) (operand_of x v) (resource_of h.0.row) refl
        (buffer_kind h.0.row h.0.row.class refl (ap (λ (r : Row). is_buffer r.class) h.1 ∙ b)) (subst (λ (r : Row). ClassFits use_as r.class) (sym h.1) c))
        (address_typed x counts (kind_of h.0.row) (operand_of x u) (operand_of x v) t s) (address_own x (kind_of h.0.row) u v int other)

    pub loads_buffer : IsInt x v → is_loadable (row_at x (handle_row x line)) ≡ true → BufferAccess Loads
    loads_buffer other e = let r = loadable_row (row_at x (handle_row x line)) e in with_buffer Loads r.0 r.1 other r.2 (loads_class r.0.class r.2)

    pub writes_buffer : IsInt x v → is_writable (row_at x (handle_row x line)) ≡ true → BufferAccess Writes
    writes_buffer other e =
        let r = writable_row (row_at x (handle_row x line)) e in
        let c : r.0.class ≡ Uav = is_uav r.0.class r.2 in
        with_buffer Writes r.0 r.1 other (ap is_buffer c) c

    pub loads_row : is_cbv (row_at x (handle_row x line)) ≡ true → BufferAccess Loads
    loads_row e =
        let r = cbv_row (row_at x (handle_row x line)) e in
        let h = handled line r.0 r.1 in
        let c : h.0.row.class ≡ Cbv = is_cbv_class h.0.row.class (ap (λ (q : Row). class_number q.class) h.1 ∙ r.2) in
        let only = row_operands h.0.row (operand_of x u) (operand_of x v) c in
        let t : AreTyped x counts (numbers (operand_of x u ∷ [])) = (kind_typed x counts read sound u Int int refl, tt) in
        with_row Loads h.0 (row_addr_fits h.0.row (operand_of x u) (operand_of x v) c)
        (subst (λ (q : List Operand). AreTyped x counts (numbers q)) (sym only) t)
        (λ reg t k. operand_own x u reg t int (in_one _ _ (subst (λ q. Contains q (operand.Reg reg t)) only k)))
