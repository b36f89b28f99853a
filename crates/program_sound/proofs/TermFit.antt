-- The ends of blocks and the entries of phis have the types that their places take, and the cases of a switch differ.
use Rattle.std.proofs.Common.{ℕ, zero, suc, ◌≡◌, ◌<◌, inl, inr, refl, sym, subst, ap, ◌∙◌, arith, Bool, true, false, cond, not, ◌||◌, ◌==◌, List, [], ◌∷◌, map, length, slice_get, Option, Some, None, is_some, unwrap_or}
use Rattle.std.specs.List.{list_any, list_all}
use Rattle.std.proofs.lemmas.Bool.{both_ways, and_cases, or_parts, or_cases, cases_order, eqb-true, eq-eqb, not-false, not-true}
use Rattle.std.proofs.lemmas.Option.{same_Some}
use Rattle.dx_base.specs.First.{IsSound}
use Rattle.dxil_form.specs.declared.block.Entry.{Entry}
use Rattle.dxil_form.specs.declared.block.Phi.{Phi}
use Rattle.dxil_form.specs.declared.block.Term.{Term}
use Rattle.dxil_form.specs.declared.block.Term.TheVariants.{Ret, Unreachable, Go, If, Switch}
use Rattle.dxil_form.specs.declared.value.Operand.{Operand}
use Rattle.dxil_form.specs.Registers.{Typed, term_operands}
use Rattle.dxil_form.specs.Sound.{HasType, PhiAt, EndAt, TermFits}
use Rattle.llvm_bodies.specs.declared.line.Line.{Line}
use Rattle.profile_lines.specs.Calls.{operand as number_at, carried}
use Rattle.profile_lines.specs.Pool.{constant}
use Rattle.profile_lines.specs.Values.{kind_in}
use Rattle.profile_lines.specs.declared.known.ValueKind.TheVariants.{Int, Bool as BoolKind}
use Rattle.profile_tables.specs.EntryBody.{EntryBody, kind_at}
use Rattle.profile_tables.specs.Kinds.{is_kind, ty_of}
use Rattle.profile_tables.specs.Operands.{operand_of}
use Rattle.profile_tables.specs.Parts.{cases_of, entries_of}
use Rattle.profile_tables.specs.Read.{IsRead, IsAt}
use Rattle.profile_rules.specs.Asked.{is_of_kind, phi_kind}
use Rattle.profile_rules.specs.Rules.{Broken, is_case, is_number, have_equals}
use Rattle.stated_program.specs.Instructions.{at, case_of, branch_of, end_of, entry_of, number_of, phi_at}
use Rattle.stated_program.specs.Stated.{program_of}
use Rattle.program_sound.proofs.Lists.{all_at, none_at, map_at}
use Rattle.program_sound.proofs.Clear.{keeps7}
use Rattle.program_sound.proofs.Blocks.{phi_line, end_line}
use Rattle.program_sound.proofs.Branching.{phi_keeps}
use Rattle.program_sound.proofs.Codes.{asked11, asked12, asked16, type16}
use Rattle.program_sound.proofs.Known.{known_before, IsGivenBy}
use Rattle.program_sound.proofs.ValueKinds.{same_kind}
use Rattle.program_sound.proofs.Plain.{asks, kind_by_type}
use Rattle.program_sound.proofs.ValueSets.{stated_kind}
use Rattle.program_sound.proofs.Typed.{kind_typed}
use Rattle.program_sound.proofs.Once.{gives_number}
use Rattle.program_sound.proofs.Access.{AreTyped, typed_at}
use Rattle.program_sound.proofs.LineFits.{plain_register}

-- ---- cases

module _ (x : EntryBody) where
  later_differs : (cs : List (ℕ × ℕ)) (j k : ℕ) (a : ℕ × ℕ) (b : ℕ × ℕ) → have_equals x.pool cs ≡ false → j < k → slice_get cs j ≡ Some a → slice_get cs k ≡ Some b → is_case x.pool (constant x.pool 32 a.0) b ≡ false
  later_differs [] j k a b e l g h = cc
  later_differs (c ∷ cs) j zero a b e l g h = absurd (omega arith)
  later_differs (c ∷ cs) zero (suc k) a b e l g h =
      let o = or_parts (list_any (is_case x.pool (constant x.pool 32 c.0)) cs) (have_equals x.pool cs) e in
      ap (λ (d : ℕ × ℕ). is_case x.pool (constant x.pool 32 d.0) b) (sym (same_Some c a g)) ∙ none_at (is_case x.pool (constant x.pool 32 c.0)) cs k b o.0 h
  later_differs (c ∷ cs) (suc j) (suc k) a b e l g h = later_differs cs j k a b (or_parts (list_any (is_case x.pool (constant x.pool 32 c.0)) cs) (have_equals x.pool cs) e).1 (omega arith) g h

  equal_case : (o p : Option ℕ) → is_some o ≡ true → is_some p ≡ true → unwrap_or o 0 ≡ unwrap_or p 0 → o ≡ p
  equal_case None p e f g = cc
  equal_case (Some n) None e f g = cc
  equal_case (Some n) (Some m) e f g = ap Some g

  same_case : (o : Option ℕ) (b : ℕ × ℕ) → is_some o ≡ true → o ≡ constant x.pool 32 b.0 → is_case x.pool o b ≡ true
  same_case None b e f = cc
  same_case (Some n) b e f = ap (is_number n) (sym f) ∙ eq-eqb n n refl

  cases_differ : (cs : List (ℕ × ℕ)) → list_any (λ c. not (is_some (constant x.pool 32 c.0))) cs ≡ false → have_equals x.pool cs ≡ false
      → (j k : ℕ) (d : ℕ × ℕ) (e : ℕ × ℕ) → slice_get (map (case_of x) cs) j ≡ Some d → slice_get (map (case_of x) cs) k ≡ Some e → d.0 ≡ e.0 → j ≡ k
  cases_differ cs none unequal j k d e g h same =
      let a = map_at (case_of x) cs j d g in
      let b = map_at (case_of x) cs k e h in
      let m = not-false _ (none_at (λ c. not (is_some (constant x.pool 32 c.0))) cs j a.0 none a.1) in
      let n = not-false _ (none_at (λ c. not (is_some (constant x.pool 32 c.0))) cs k b.0 none b.1) in
      let value : ℕ × ℕ → ℕ = λ p. p.0 in
      let one : constant x.pool 32 a.0.0 ≡ constant x.pool 32 b.0.0 = equal_case _ _ m n (ap value a.2 ∙ same ∙ sym (ap value b.2)) in
      elim (cases_order j k) [
        | inl s ↦ s
        | inr (inl l) ↦ absurd (both_ways _ (later_differs cs j k a.0 b.0 unequal l a.1 b.1) (same_case (constant x.pool 32 a.0.0) b.0 m one))
        | inr (inr l) ↦ absurd (both_ways _ (later_differs cs k j b.0 a.0 unequal l b.1 a.1) (same_case (constant x.pool 32 b.0.0) a.0 n (sym one)))
      ]

-- ---- ends and phis

pub record IsTermFit (x : EntryBody) (counts : List ℕ) (term : Term) : Type 0 where
  pub typed : AreTyped x counts (term_operands term)
  pub fits : TermFits term

module _ (x : EntryBody) (counts : List ℕ) (read : IsRead x counts) (sound : IsSound (Broken x)) where
  end_is_fit : (i : ℕ) (line : Line) → IsAt x i line → IsTermFit x counts (end_of x line)
  unfolding end_of
  end_is_fit i line here = go (line.code == 10) (line.code == 11) (line.code == 12) refl refl where
    branch : line.code ≡ 11 → (b : Bool) → (b || is_of_kind x line 2 BoolKind) ≡ true → IsTermFit x counts (cond b (Go (number_at line 0)) (If (at x line 2) (number_at line 0) (number_at line 1)))
    branch c true e = record { typed = tt; fits = tt }
    branch c false e = record { typed = (kind_typed x counts read sound (number_at line 2) BoolKind (same_kind _ _ e) refl, tt); fits = tt }

    switch : line.code ≡ 12 → IsTermFit x counts (Switch (at x line 0) (number_at line 1) (map (case_of x) (cases_of line)))
    switch c = elim (and_cases (line.code == 12) _ (keeps7 x sound i line here)) [
      | inl f ↦ absurd (both_ways _ f (eq-eqb line.code 12 c))
      | inr f ↦
          let o = or_parts _ _ f in
          let p = or_parts _ _ o.0 in
          record {
            typed = (kind_typed x counts read sound (number_at line 0) Int (same_kind _ _ (sym (asked12 x line c) ∙ asks x counts read sound i line here)) refl, tt);
            fits = cases_differ x (cases_of line) p.1 o.1;
          }
    ]

    go : (a b c : Bool) → (line.code == 11) ≡ b → (line.code == 12) ≡ c → IsTermFit x counts (cond a Ret (cond b (branch_of x line) (cond c (Switch (at x line 0) (number_at line 1) (map (case_of x) (cases_of line))) Unreachable)))
    go true b c e f = record { typed = tt; fits = tt }
    go false true c e f = let d = eqb-true line.code 11 e in branch d (length line.numbers == 1) (sym (asked11 x line d) ∙ asks x counts read sound i line here)
    go false false true e f = switch (eqb-true line.code 12 f)
    go false false false e f = record { typed = tt; fits = tt }

  ended : (b : ℕ) (term : Term) → EndAt (program_of x counts) b term → IsTermFit x counts term
  ended b term e = elim (end_line x counts b term e) [
    | inl u ↦ let f : IsTermFit x counts Unreachable = record { typed = tt; fits = tt } in subst (IsTermFit x counts) (sym u) f
    | inr s ↦ subst (IsTermFit x counts) s.term_is (end_is_fit s.i s.line s.at)
  ]

  pub end_types : (b k : ℕ) (term : Term) (a : Typed Operand) → EndAt (program_of x counts) b term → slice_get (term_operands term) k ≡ Some a → HasType (program_of x counts) a.item a.ty
  end_types b k term a e f = typed_at x counts (term_operands term) k a (ended b term e).typed f

  pub ends_fit : (b : ℕ) (term : Term) → EndAt (program_of x counts) b term → TermFits term
  ends_fit b term e = (ended b term e).fits

  entry_typed : (i k : ℕ) (line : Line) (e : Entry) → IsAt x i line → line.code ≡ 16 → slice_get (map (entry_of x) (entries_of line)) k ≡ Some e → HasType (program_of x counts) e.value (phi_at x line).ty
  entry_typed i k line e here c f =
      let m = map_at (entry_of x) (entries_of line) k e f in
      let p = (phi_keeps x counts read sound i line here c).plain in
      let all : list_all (λ q. is_kind (kind_at x q.0) (phi_kind x line)) (entries_of line) ≡ true = elim (or_cases _ _ (sym (asked16 x line c) ∙ asks x counts read sound i line here)) [ inl n ↦ absurd (both_ways _ (not-true _ n) p) | inr t ↦ t ] in
      let k : kind_at x m.0.0 ≡ phi_kind x line = same_kind _ _ (all_at (λ q. is_kind (kind_at x q.0) (phi_kind x line)) (entries_of line) k m.0 all m.1) in
      let g : IsGivenBy x (number_of line) i line = record { at = here; value = gives_number x counts read sound i line here (rw c refl) } in
      let own : kind_at x (number_of line) ≡ phi_kind x line = kind_by_type x counts read sound (number_of line) i line g (rw c refl) (rw c refl) (rw c refl)
      ∙ ap (kind_in x.pool) (type16 x.pool x.lines x.values (known_before x i) line c) ∙ stated_kind x (carried line 0) in
      let typed = kind_typed x counts read sound m.0.0 (phi_kind x line) k (plain_register (phi_kind x line) p) in
      subst (λ (o : Entry). HasType (program_of x counts) o.value (ty_of (kind_at x (number_of line)))) m.2 (subst (λ t. HasType (program_of x counts) (operand_of x m.0.0) (ty_of t)) (sym own) typed)

  pub entry_types : (b n k : ℕ) (phi : Phi) (e : Entry) → PhiAt (program_of x counts) b n phi → slice_get phi.entries k ≡ Some e → HasType (program_of x counts) e.value phi.ty
  entry_types b n k phi e p f =
      let l = phi_line x counts b n phi p in
      subst (λ (q : Phi). HasType (program_of x counts) e.value q.ty) l.phi_is (entry_typed l.i k l.line e l.at l.code (ap (λ (q : Phi). slice_get q.entries k) l.phi_is ∙ f))
