-- A place that a line names is in a groupshared variable, and its index is an i32.
use Rattle.std.proofs.Common.{ℕ, ◌≡◌, ◌≤◌, inl, inr, refl, sym, subst, ap, ◌∙◌, Bool, true, false, cond, ◌&&◌, ◌==◌, List, Option, Some, None, is_some}
use Rattle.std.proofs.lemmas.Bool.{both_ways, and_parts, cases_Bool, eqb-true, eq-eqb, not-false, false≢true}
use Rattle.std.proofs.lemmas.Option.{same_Some, cond_some}
use Rattle.dx_base.specs.First.{IsSound}
use Rattle.dxil_form.specs.declared.value.Operand.{Operand}
use Rattle.dxil_form.specs.declared.value.Operand.TheVariants as operand
use Rattle.dxil_form.specs.declared.value.Reg.{Reg}
use Rattle.dxil_form.specs.declared.value.Ty.{Ty}
use Rattle.dxil_form.specs.declared.value.Ty.TheVariants as ty
use Rattle.dxil_form.specs.Sound.{HasType}
use Rattle.llvm_bodies.specs.declared.line.Line.{Line}
use Rattle.llvm_values.specs.declared.global.Global.{Global}
use Rattle.llvm_values.specs.declared.global.Global.TheVariants.{Variable, Function, Constant}
use Rattle.llvm_values.specs.declared.global.ConstKind.TheVariants.{Null, Undef, Integer, Gep, Other as OtherConstant}
use Rattle.dxil_form.specs.declared.op.OpKind.{OpKind}
use Rattle.profile_lines.specs.Calls.{operand as number_at, operation, outcome}
use Rattle.profile_lines.specs.declared.call.Outcome.{Outcome}
use Rattle.profile_lines.specs.declared.call.Outcome.TheVariants as gives
use Rattle.profile_lines.specs.Pool.{Pool, stated, is_zero}
use Rattle.profile_lines.specs.Values.{known_of, is_variable, kind_in, constant_type, kind_of_call, kind_of_outcome}
use Rattle.profile_lines.specs.declared.known.Known.{Known}
use Rattle.profile_lines.specs.declared.known.ValueKind.{ValueKind}
use Rattle.profile_lines.specs.declared.known.ValueKind.TheVariants.{Int, Bool as BoolKind, Handle, Parts, Place as PlaceKind, Other}
use Rattle.profile_lines.specs.declared.known.ValueType.{ValueType}
use Rattle.profile_tables.specs.declared.place.Place.{Place}
use Rattle.profile_tables.specs.EntryBody.{EntryBody, kind_at, setter}
use Rattle.profile_tables.specs.Kinds.{is_kind, ty_of}
use Rattle.profile_tables.specs.Operands.{operand_of, operand_by}
use Rattle.profile_tables.specs.Places.{is_shared, is_sound, has_source, type_of_variable, place_at, place_made, place_set, place_by, place_of, place_named, constant_place_at, argument_of, accesses}
use Rattle.profile_tables.specs.Read.{IsRead, IsAt, first_value}
use Rattle.profile_rules.specs.Rules.{Broken, is_unsound}
use Rattle.stated_program.specs.Accesses.{index_operand}
use Rattle.stated_program.specs.Stated.{program_of}
use Rattle.program_sound.proofs.Clear.{keeps10}
use Rattle.program_sound.proofs.Codes.{asked43, place43, kind34, kind46, kind-else}
use Rattle.program_sound.proofs.Known.{IsGivenBy}
use Rattle.program_sound.proofs.ValueKinds.{same_kind, type_kind, IsTypeKind, int_type, bool_type, no_type, before, by_line, none, value_is}
use Rattle.program_sound.proofs.Plain.{asks, type_of, kind_of_line}
use Rattle.program_sound.proofs.Typed.{setter_is, stated_none, kind_typed}

-- ---- places that are sound

sound_parts : (x : EntryBody) (v n : ℕ) (source : Option ℕ) (first second : ℕ) → is_sound x v source n first second ≡ true → (is_shared x.pool (stated x.pool v) ≡ true) × (kind_at x second ≡ Int)
sound_parts x v n source first second e =
    let p = and_parts (is_shared x.pool (stated x.pool v) && has_source x.pool.types (type_of_variable (stated x.pool v)) source && n == 2 && is_zero x.pool first) (is_kind (kind_at x second) Int) e in
    let q = and_parts (is_shared x.pool (stated x.pool v) && has_source x.pool.types (type_of_variable (stated x.pool v)) source && n == 2) (is_zero x.pool first) p.0 in
    let r = and_parts (is_shared x.pool (stated x.pool v) && has_source x.pool.types (type_of_variable (stated x.pool v)) source) (n == 2) q.0 in
    ((and_parts (is_shared x.pool (stated x.pool v)) _ r.0).0, same_kind (kind_at x second) Int p.1)

-- where the place is sound, its variable is
abbrev SharedWhereSound : EntryBody → Place → Type 0
SharedWhereSound x place = place.sound ≡ true → is_shared x.pool (stated x.pool place.variable) ≡ true

made_shared : (x : EntryBody) (line : Line) (place : Place) → place_made x line ≡ Some place → SharedWhereSound x place
made_shared x line place e = let c = cond_some (is_variable (stated x.pool (number_at line 0))) (place_at x line) place e in subst (SharedWhereSound x) c.1 (λ s. (sound_parts x _ _ _ _ _ s).0)

set_shared : (x : EntryBody) (o : Option Line) (place : Place) → place_set x o ≡ Some place → SharedWhereSound x place
set_shared x None place e = cc
set_shared x (Some line) place e = go (line.code == 43) e where
  go : (b : Bool) → cond b (place_made x line) None ≡ Some place → SharedWhereSound x place
  go true f = made_shared x line place f
  go false f = cc

by_shared : (x : EntryBody) (v : ℕ) (o : Option Global) (place : Place) → place_by x v o ≡ Some place → SharedWhereSound x place
by_shared x v None place e = set_shared x (setter x v) place e
by_shared x v (Some (Variable ty space init bit)) place e = subst (SharedWhereSound x) (same_Some _ place e) (λ s. s)
by_shared x v (Some (Function ty body name bit)) place e = cc
by_shared x v (Some (Constant ty Null bit)) place e = cc
by_shared x v (Some (Constant ty Undef bit)) place e = cc
by_shared x v (Some (Constant ty (Integer n) bit)) place e = cc
by_shared x v (Some (Constant ty OtherConstant bit)) place e = cc
by_shared x v (Some (Constant ty (Gep source args) bit)) place e =
    let c = cond_some (is_variable (stated x.pool (argument_of args 0))) (constant_place_at x source args) place e in
    subst (SharedWhereSound x) c.1 (λ s. (sound_parts x _ _ _ _ _ (and_parts _ _ s).1).0)

named_shared : (x : EntryBody) (line : Line) (place : Place) → place_named x line ≡ Some place → SharedWhereSound x place
unfolding place_named place_of
named_shared x line place e = go (line.code == 43) (accesses line.code) e where
  go : (a b : Bool) → cond a (place_made x line) (cond b (place_by x (number_at line 0) (stated x.pool (number_at line 0))) None) ≡ Some place → SharedWhereSound x place
  go true b f = made_shared x line place f
  go false true f = by_shared x (number_at line 0) (stated x.pool (number_at line 0)) place f
  go false false f = cc

pub place_shared : (x : EntryBody) (sound : IsSound (Broken x)) (i : ℕ) (line : Line) (place : Place) → IsAt x i line → place_named x line ≡ Some place → is_shared x.pool (stated x.pool place.variable) ≡ true
place_shared x sound i line place at e = named_shared x line place e (not-false _ (sym (ap is_unsound e) ∙ keeps10 x sound i line at))

-- ---- the index of a place

-- the register of an index is that of a GEP
pub record IsGep (x : EntryBody) (v : ℕ) : Type 0 where
  pub i : ℕ
  pub line : Line
  pub by : IsGivenBy x v i line
  pub code : line.code ≡ 43

pub record IsIndexed (x : EntryBody) (counts : List ℕ) (place : Place) : Type 0 where
  pub typed : HasType (program_of x counts) (index_operand x place.index) ty.Int
  pub own : (reg : Reg) (t : Ty) → index_operand x place.index ≡ operand.Reg reg t → IsGep x reg.value

abbrev IndexedWhereSound : EntryBody → List ℕ → Place → Type 0
IndexedWhereSound x counts place = place.sound ≡ true → IsIndexed x counts place

abbrev pub value_of : Operand → ℕ
value_of (operand.Reg reg t) = reg.value
value_of rest = 0

abbrev pub is_reg : Operand → Bool
is_reg (operand.Reg reg t) = true
is_reg rest = false

pub stated_no_reg : (v : ℕ) (t : Ty) (g : Global) → is_reg (operand_by v t (Some g)) ≡ false
stated_no_reg v t (Variable ty space init bit) = refl
stated_no_reg v t (Function ty body name bit) = refl
stated_no_reg v ty.Int (Constant ty Null bit) = refl
stated_no_reg v ty.Bool (Constant ty Null bit) = refl
stated_no_reg v t (Constant ty Undef bit) = refl
stated_no_reg v ty.Int (Constant ty (Integer n) bit) = refl
stated_no_reg v ty.Bool (Constant ty (Integer n) bit) = refl
stated_no_reg v t (Constant ty (Gep source args) bit) = refl
stated_no_reg v t (Constant ty OtherConstant bit) = refl

-- a place that a value is, with an index of type i32 where it is sound
pub record IsPlaceOf (x : EntryBody) (counts : List ℕ) (v : ℕ) : Type 0 where
  pub place : Place
  pub is_place : place_of x v ≡ Some place
  pub indexed : place.sound ≡ true → IsIndexed x counts place

type_no_place : (x : Pool) (t : ValueType) → kind_in x t ≡ PlaceKind → ⊥
type_no_place x t e = go (kind_in x t) (type_kind x t) e where
  go : (k : ValueKind) → IsTypeKind k → k ≡ PlaceKind → ⊥
  go Int int_type f = cc
  go BoolKind bool_type f = cc
  go Other no_type f = cc
  go Handle t f = elim t [ ]
  go Parts t f = elim t [ ]
  go PlaceKind t f = elim t [ ]

outcome_no_place : (o : Outcome) → kind_of_outcome o ≡ PlaceKind → ⊥
outcome_no_place gives.Number e = cc
outcome_no_place gives.Handle e = cc
outcome_no_place gives.Parts e = cc
outcome_no_place gives.Nothing e = cc

call_no_place : (o : Option OpKind) → kind_of_call o ≡ PlaceKind → ⊥
call_no_place None e = cc
call_no_place (Some op) e = outcome_no_place (outcome op) e

module _ (x : EntryBody) (counts : List ℕ) (read : IsRead x counts) (sound : IsSound (Broken x)) where
  operand_no_reg : (v : ℕ) (reg : Reg) (t : Ty) → is_some (stated x.pool v) ≡ true → operand_of x v ≡ operand.Reg reg t → ⊥
  unfolding operand_of
  operand_no_reg v reg t s e = go (stated x.pool v) refl s where
    go : (o : Option Global) → stated x.pool v ≡ o → is_some o ≡ true → ⊥
    go None f h = cc
    go (Some g) f h = both_ways _ (stated_no_reg v (ty_of (kind_at x v)) g) (ap is_reg (ap (operand_by v (ty_of (kind_at x v))) (sym f) ∙ e))

  operand_own : (v i : ℕ) (line : Line) (reg : Reg) (t : Ty) → IsGivenBy x v i line → first_value x ≤ v → line.code ≡ 43 → operand_of x v ≡ operand.Reg reg t → IsGep x reg.value
  unfolding operand_of
  operand_own v i line reg t g l c e =
      let same : v ≡ reg.value = ap value_of (ap (operand_by v (ty_of (kind_at x v))) (sym (stated_none x counts read v l)) ∙ e) in
      record { i = i; line = line; by = subst (λ n. IsGivenBy x n i line) same g; code = c }

  stated_place : (v : ℕ) (g : Global) → stated x.pool v ≡ Some g → (known_of x.pool g).kind ≡ PlaceKind → IsPlaceOf x counts v
  unfolding place_of
  stated_place v (Variable ty space init bit) s k = record {
    place = record { variable = v; index = None; sound = is_shared x.pool (stated x.pool v) };
    is_place = ap (place_by x v) s;
    indexed = λ f. record { typed = refl; own = λ reg t e. absurd (false≢true (ap is_reg e)) };
  }
  stated_place v (Function ty body name bit) s k = cc
  stated_place v (Constant ty Null bit) s k = absurd (type_no_place x.pool (constant_type ty) k)
  stated_place v (Constant ty Undef bit) s k = absurd (type_no_place x.pool (constant_type ty) k)
  stated_place v (Constant ty (Integer n) bit) s k = absurd (type_no_place x.pool (constant_type ty) k)
  stated_place v (Constant ty OtherConstant bit) s k = cc
  stated_place v (Constant ty (Gep source args) bit) s k = record {
    place = constant_place_at x source args;
    is_place = ap (place_by x v) s ∙ ap (λ b. cond b (Some (constant_place_at x source args)) None) (based (is_variable (stated x.pool (argument_of args 0))) k);
    indexed = λ f. let p = and_parts _ _ f in record {
      typed = kind_typed x counts read sound (argument_of args 2) Int (sound_parts x _ _ _ _ _ p.1).1 refl;
      own = λ reg t e. absurd (operand_no_reg (argument_of args 2) reg t p.0 e);
    };
  } where
    based : (b : Bool) → cond b PlaceKind Other ≡ PlaceKind → b ≡ true
    based true e = refl
    based false e = cc

  line_place : (v i : ℕ) (line : Line) → IsGivenBy x v i line → first_value x ≤ v → kind_at x v ≡ PlaceKind → line.code ≡ 43 → IsPlaceOf x counts v
  unfolding place_of
  line_place v i line g l k c =
      let variable = sym (asked43 x line c) ∙ asks x counts read sound i line g.at in
      let own : index_operand x line.value ≡ operand_of x v = ap (index_operand x) g.value in
      record {
        place = place_at x line;
        is_place = ap (place_by x v) (stated_none x counts read v l) ∙ ap (place_set x) (setter_is x counts read v i line g)
            ∙ ap (λ b. cond b (place_made x line) None) (eq-eqb line.code 43 c) ∙ ap (λ b. cond b (Some (place_at x line)) None) variable;
        indexed = λ f. record {
          typed = subst (λ o. HasType (program_of x counts) o ty.Int) (sym own) (kind_typed x counts read sound v PlaceKind k refl);
          own = λ reg t e. operand_own v i line reg t g l c (sym own ∙ e);
        };
      }

  line_gep : (v i : ℕ) (line : Line) → IsGivenBy x v i line → kind_at x v ≡ PlaceKind → line.code ≡ 43
  line_gep v i line g k = elim (cases_Bool (line.code == 43)) [
    | inl a ↦ eqb-true line.code 43 a
    | inr na ↦ absurd (elim (cases_Bool (line.code == 34)) [
      | inl b ↦ call_no_place (operation x.pool line) (sym (kind34 x.pool (type_of x counts read sound i line) line (eqb-true line.code 34 b)) ∙ sym (kind_of_line x counts read sound v i line g) ∙ k)
      | inr nb ↦ elim (cases_Bool (line.code == 46)) [
        | inl c ↦ let z : Parts ≡ PlaceKind = sym (kind46 x.pool (type_of x counts read sound i line) line (eqb-true line.code 46 c)) ∙ sym (kind_of_line x counts read sound v i line g) ∙ k in cc
        | inr nc ↦ type_no_place x.pool (type_of x counts read sound i line) (sym (kind-else x.pool (type_of x counts read sound i line) line nb na nc) ∙ sym (kind_of_line x counts read sound v i line g) ∙ k)
      ]
    ])
  ]

  pub place_there : (v : ℕ) → kind_at x v ≡ PlaceKind → IsPlaceOf x counts v
  place_there v k = elim (value_is x counts read v) [
    | before l s ↦ stated_place v s.value s.stated_is (ap (λ (n : Known). n.kind) (sym s.known_is) ∙ k)
    | by_line l s ↦ line_place v s.i s.line s.by l k (line_gep v s.i s.line s.by k)
    | none e ↦ let z : Other ≡ PlaceKind = sym e ∙ k in cc
  ]

  pub gep_index : (i : ℕ) (line : Line) → IsAt x i line → line.code ≡ 43 → kind_at x (number_at line 2) ≡ Int
  gep_index i line at c =
      let variable = sym (asked43 x line c) ∙ asks x counts read sound i line at in
      let named : place_named x line ≡ Some (place_at x line) = place43 x line c ∙ ap (λ b. cond b (Some (place_at x line)) None) variable in
      (sound_parts x _ _ _ _ _ (not-false _ (sym (ap is_unsound named) ∙ keeps10 x sound i line at))).1
