-- Operands have the types of their kinds.
use Rattle.std.proofs.Common.{ℕ, ◌≡◌, ◌+◌, ◌-◌, ◌<◌, ◌≤◌, inl, inr, refl, sym, subst, ap, ◌∙◌, arith, true, cond, List, length, slice_get, Option, Some, None, find, is_some}
use Rattle.std.proofs.lemmas.Bool.{eqb-true, eq-eqb, lt-ltb, le-ltb, cases_lt}
use Rattle.std.proofs.lemmas.Option.{none-some, slice_get_past}
use Rattle.dx_base.specs.First.{IsSound}
use Rattle.dxil_form.specs.declared.value.Ty.{Ty}
use Rattle.dxil_form.specs.declared.value.Ty.TheVariants as ty
use Rattle.dxil_form.specs.Sound.{HasType}
use Rattle.llvm_bodies.specs.declared.line.Line.{Line}
use Rattle.llvm_values.specs.declared.global.Global.{Global}
use Rattle.llvm_values.specs.declared.global.Global.TheVariants.{Variable, Function, Constant}
use Rattle.llvm_values.specs.declared.global.ConstKind.TheVariants.{Null, Undef, Integer, Gep, Other as OtherConstant}
use Rattle.profile_lines.specs.Pool.{Pool, stated}
use Rattle.profile_lines.specs.Setters.{setter_in, sets, is_value}
use Rattle.profile_lines.specs.declared.known.ValueKind.{ValueKind}
use Rattle.profile_tables.specs.EntryBody.{EntryBody, kind_at, setter}
use Rattle.profile_tables.specs.Kinds.{ty_of}
use Rattle.profile_tables.specs.Operands.{operand_of, operand_by}
use Rattle.profile_tables.specs.Read.{IsRead, first_value, gives_value}
use Rattle.profile_rules.specs.Rules.{Broken}
use Rattle.stated_program.specs.Stated.{program_of}
use Rattle.program_sound.proofs.Lists.{find_at, find_from, count_before}
use Rattle.program_sound.proofs.Known.{IsGivenBy, given_once}
use Rattle.program_sound.proofs.Ends.{same_line}
use Rattle.program_sound.proofs.ValueKinds.{before, by_line, none, value_is}
use Rattle.program_sound.proofs.ValueSets.{has_register, value_sets, no_register}

-- ---- setters

pub record SetterIs (x : EntryBody) (v : ℕ) (line : Line) : Type 0 where
  pub i : ℕ
  pub by : IsGivenBy x v i line

is_value_some : (v : ℕ) (o : Option ℕ) → is_value v o ≡ true → o ≡ Some v
is_value_some v None e = cc
is_value_some v (Some n) e = ap Some (eqb-true n v e)

pub setter_by : (x : EntryBody) (v : ℕ) (line : Line) → setter x v ≡ Some line → SetterIs x v line
unfolding setter_in
setter_by x v line e = elim (cases_lt v x.values) [
  | inl l ↦
      let f = find_at (sets v) x.lines line (sym (ap (λ b. cond b (find (sets v) x.lines) None) (lt-ltb v x.values l)) ∙ e) in
      record { i = f.i; by = record { at = f.at ∙ ap Some f.holds.0; value = is_value_some v line.value f.holds.1 } }
  | inr l ↦ absurd (none-some line (sym (ap (λ b. cond b (find (sets v) x.lines) None) (le-ltb v x.values l)) ∙ e))
]

stated_none_at : (x : Pool) (v : ℕ) → length x.globals + length x.constants ≤ v → stated x v ≡ None
stated_none_at x v l = ap (λ b. cond b (slice_get x.globals v) (slice_get x.constants (v - length x.globals))) (le-ltb v (length x.globals) (omega arith)) ∙ slice_get_past x.constants (v - length x.globals) (omega arith)

module _ (x : EntryBody) (counts : List ℕ) (read : IsRead x counts) where
  pub setter_is : (v i : ℕ) (line : Line) → IsGivenBy x v i line → setter x v ≡ Some line
  unfolding setter_in
  setter_is v i line g =
      let l : v < x.values = omega (arith, read.numbered i v line g.at g.value, read.values, count_before gives_value x.lines i line g.at (ap is_some g.value)) in
      let f = find_from (sets v) x.lines i line g.at (ap (is_value v) g.value ∙ eq-eqb v v refl) in
      let h = find_at (sets v) x.lines f.0 f.1 in
      let by : IsGivenBy x v h.i f.0 = record { at = h.at ∙ ap Some h.holds.0; value = is_value_some v f.0.value h.holds.1 } in
      let same : f.0 ≡ line = same_line x counts read h.i i f.0 line by.at g.at (given_once x counts read v h.i i f.0 line by g) in
      ap (λ b. cond b (find (sets v) x.lines) None) (lt-ltb v x.values l) ∙ f.1 ∙ ap Some same

  pub stated_none : (v : ℕ) → first_value x ≤ v → stated x.pool v ≡ None
  stated_none v l = stated_none_at x.pool v l

  pub given_unstated : (v i : ℕ) (line : Line) → IsGivenBy x v i line → stated x.pool v ≡ None
  given_unstated v i line g = stated_none v (omega (arith, read.numbered i v line g.at g.value))

  -- what is stated is a constant or undefined, of the type that is asked
  stated_typed : (v : ℕ) (t : Ty) (g : Global) → HasType (program_of x counts) (operand_by v t (Some g)) t
  stated_typed v t (Variable ty space init bit) = refl
  stated_typed v t (Function ty body name bit) = refl
  stated_typed v ty.Int (Constant ty Null bit) = refl
  stated_typed v ty.Bool (Constant ty Null bit) = refl
  stated_typed v t (Constant ty Undef bit) = refl
  stated_typed v ty.Int (Constant ty (Integer n) bit) = refl
  stated_typed v ty.Bool (Constant ty (Integer n) bit) = refl
  stated_typed v t (Constant ty (Gep source args) bit) = refl
  stated_typed v t (Constant ty OtherConstant bit) = refl

  pub operand_typed : IsSound (Broken x) → (v : ℕ) → has_register (kind_at x v) ≡ true → HasType (program_of x counts) (operand_of x v) (ty_of (kind_at x v))
  unfolding operand_of
  operand_typed sound v r = elim (value_is x counts read v) [
    | before l s ↦ subst (λ o. HasType (program_of x counts) (operand_by v (ty_of (kind_at x v)) o) (ty_of (kind_at x v))) (sym s.stated_is) (stated_typed v (ty_of (kind_at x v)) s.value)
    | by_line l s ↦
        let set : HasType (program_of x counts) (operand_by v (ty_of (kind_at x v)) None) (ty_of (kind_at x v)) = (refl, value_sets x counts read sound v s.i s.line s.by r) in
        subst (λ o. HasType (program_of x counts) (operand_by v (ty_of (kind_at x v)) o) (ty_of (kind_at x v))) (sym (stated_none v l)) set
    | none e ↦ absurd (no_register (kind_at x v) r e)
  ]

  pub kind_typed : IsSound (Broken x) → (v : ℕ) (k : ValueKind) → kind_at x v ≡ k → has_register k ≡ true → HasType (program_of x counts) (operand_of x v) (ty_of k)
  kind_typed sound v k e r = subst (λ t. HasType (program_of x counts) (operand_of x v) t) (ap ty_of e) (operand_typed sound v (ap has_register e ∙ r))
