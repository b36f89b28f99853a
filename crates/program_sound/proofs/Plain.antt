-- A value whose kind is i32 or i1 has a type of that kind, and so have the operands of a line that agree with its value.
use Rattle.std.proofs.Common.{ℕ, ◌≡◌, ◌<◌, ◌≤◌, inl, inr, refl, sym, subst, ap, ap₂, ◌∙◌, arith, Bool, true, false, cond, not, ◌==◌, nat_lt, List, length, get_or, Option, Some, None, find, filter, option_map}
use Rattle.std.specs.List.{list_all}
use Rattle.std.proofs.lemmas.Bool.{both_ways, and_parts, and_cases, or_parts, cases_Bool, cases_lt, eqb-true, eq-eqb, lt-ltb, le-ltb, not-false}
use Rattle.std.proofs.lemmas.List.{get_or_past}
use Rattle.std.proofs.lemmas.Option.{same_Some}
use Rattle.dx_base.specs.First.{IsSound}
use Rattle.dxil_form.specs.declared.op.OpKind.{OpKind}
use Rattle.llvm_bodies.specs.declared.line.Line.{Line}
use Rattle.llvm_values.specs.declared.global.Global.{Global}
use Rattle.llvm_values.specs.declared.global.Global.TheVariants.{Variable, Function, Constant}
use Rattle.llvm_values.specs.declared.global.ConstKind.TheVariants.{Null, Undef, Integer, Gep, Other as OtherConstant}
use Rattle.profile_lines.specs.Calls.{operand, carried, operation, outcome}
use Rattle.profile_lines.specs.Pool.{Pool, stated}
use Rattle.profile_lines.specs.Values.{known_of, line_type, line_kind, kind_in, kind_by, kind_of_call, kind_of_outcome, call_type, is_variable, unknown, operand_type, numbered}
use Rattle.profile_lines.specs.declared.call.Outcome.{Outcome}
use Rattle.profile_lines.specs.declared.call.Outcome.TheVariants as gives
use Rattle.profile_lines.specs.declared.known.Known.{Known}
use Rattle.profile_lines.specs.declared.known.ValueKind.{ValueKind}
use Rattle.profile_lines.specs.declared.known.ValueKind.TheVariants.{Parts, Place, Other}
use Rattle.profile_lines.specs.declared.known.ValueType.{ValueType}
use Rattle.profile_tables.specs.EntryBody.{EntryBody, kind_at}
use Rattle.profile_tables.specs.Kinds.{is_kind, is_plain}
use Rattle.profile_tables.specs.Read.{IsRead, IsAt}
use Rattle.profile_rules.specs.Asked.{are_asked, do_types_suit, suits, stands_for, fits, is_result, type_behind}
use Rattle.profile_rules.specs.Rules.{Broken, is_misfit, is_call}
use Rattle.program_sound.proofs.Lists.{find_at, all_filtered}
use Rattle.program_sound.proofs.Clear.{keeps1, keeps16}
use Rattle.program_sound.proofs.Codes.{type34, kind34, kind43, kind46, kind-else}
use Rattle.program_sound.proofs.Known.{known_at, known_before, IsGivenBy, known_is, known_operand, before_length}
use Rattle.program_sound.proofs.ValueKinds.{same_kind, number_kind, before, by_line, none, value_is}

not_plain : (k : ValueKind) → is_plain k ≡ true → k ≡ Other → ⊥
not_plain k e f = let g : is_plain Other ≡ true = subst (λ j. is_plain j ≡ true) f e in cc

stated_plain : (x : Pool) (g : Global) → is_plain (known_of x g).kind ≡ true → kind_in x (known_of x g).ty ≡ (known_of x g).kind
stated_plain x (Variable ty space init bit) e = cc
stated_plain x (Function ty body name bit) e = cc
stated_plain x (Constant ty Null bit) e = refl
stated_plain x (Constant ty Undef bit) e = refl
stated_plain x (Constant ty (Integer n) bit) e = refl
stated_plain x (Constant ty OtherConstant bit) e = cc
stated_plain x (Constant ty (Gep source args) bit) e = absurd (go (is_variable (stated x (get_or args 0 (0, 0)).1)) e) where
  go : (b : Bool) → is_plain (cond b Place Other) ≡ true → ⊥
  go true f = cc
  go false f = cc

module _ (x : EntryBody) (counts : List ℕ) (read : IsRead x counts) (sound : IsSound (Broken x)) where
  pub asks : (i : ℕ) (line : Line) → IsAt x i line → are_asked x line ≡ true
  asks i line at = not-false _ (or_parts _ _ (keeps1 x sound i line at)).1

  pub suited : (i : ℕ) (line : Line) → IsAt x i line → do_types_suit x line ≡ true
  suited i line at = not-false _ (or_parts _ _ (or_parts _ _ (keeps1 x sound i line at)).0).1

  -- a call of an operation fits it
  pub call_fits : (i : ℕ) (line : Line) (op : OpKind) → IsAt x i line → line.code ≡ 34 → operation x.pool line ≡ Some op → fits x.pool line op ≡ true
  call_fits i line op at c e = elim (and_cases (is_call line) _ (keeps16 x sound i line at)) [
    | inl f ↦ absurd (both_ways _ f (eq-eqb line.code 34 c))
    | inr f ↦ not-false _ (sym (ap (is_misfit x.pool line) e) ∙ f)
  ]

  call_plain : (i : ℕ) (line : Line) → IsAt x i line → line.code ≡ 34 → (o : Option OpKind) → operation x.pool line ≡ o → is_plain (kind_of_call o) ≡ true → kind_in x.pool (call_type x.pool line) ≡ kind_of_call o
  call_plain i line at c None e p = cc
  call_plain i line at c (Some op) e p = go (outcome op) p (and_parts _ _ (call_fits i line op at c e)).1 where
    go : (o : Outcome) → is_plain (kind_of_outcome o) ≡ true → is_result x.pool o (type_behind x.pool (call_type x.pool line)) ≡ true → kind_in x.pool (call_type x.pool line) ≡ kind_of_outcome o
    go gives.Number q r = number_kind x.pool (call_type x.pool line) r
    go gives.Handle q r = cc
    go gives.Parts q r = cc
    go gives.Nothing q r = cc

  -- the type of a line's value
  abbrev pub type_of : ℕ → Line → ValueType
  type_of i line = line_type x.pool x.lines x.values (known_before x i) line

  pub kind_of_line : (v i : ℕ) (line : Line) → IsGivenBy x v i line → kind_at x v ≡ line_kind x.pool (type_of i line) line
  kind_of_line v i line g = ap (λ (k : Known). k.kind) (known_is x counts read v i line g)

  pub kind_by_type : (v i : ℕ) (line : Line) → IsGivenBy x v i line → (line.code == 34) ≡ false → (line.code == 43) ≡ false → (line.code == 46) ≡ false → kind_at x v ≡ kind_in x.pool (type_of i line)
  kind_by_type v i line g a b c = kind_of_line v i line g ∙ kind-else x.pool (type_of i line) line a b c

  line_plain : (v i : ℕ) (line : Line) → IsGivenBy x v i line → is_plain (kind_at x v) ≡ true → kind_in x.pool (type_of i line) ≡ line_kind x.pool (type_of i line) line
  line_plain v i line g p = elim (cases_Bool (line.code == 34)) [
    | inl a ↦
        let c = eqb-true line.code 34 a in
        let q : is_plain (kind_of_call (operation x.pool line)) ≡ true = sym (ap is_plain (kind_of_line v i line g ∙ kind34 x.pool (type_of i line) line c)) ∙ p in
        ap (kind_in x.pool) (type34 x.pool x.lines x.values (known_before x i) line c) ∙ call_plain i line g.at c (operation x.pool line) refl q ∙ sym (kind34 x.pool (type_of i line) line c)
    | inr na ↦ elim (cases_Bool (line.code == 43)) [
      | inl a ↦
          let c = eqb-true line.code 43 a in
          let q = sym (ap is_plain (kind_of_line v i line g ∙ kind43 x.pool (type_of i line) line c)) ∙ p in
          go (is_variable (stated x.pool (operand line 0))) q ∙ sym (kind43 x.pool (type_of i line) line c)
      | inr nb ↦ elim (cases_Bool (line.code == 46)) [
        | inl a ↦ let q : is_plain Parts ≡ true = sym (ap is_plain (kind_of_line v i line g ∙ kind46 x.pool (type_of i line) line (eqb-true line.code 46 a))) ∙ p in cc
        | inr nc ↦ sym (kind-else x.pool (type_of i line) line na nb nc)
      ]
    ]
  ] where
    go : (b : Bool) → is_plain (cond b Place (kind_in x.pool (type_of i line))) ≡ true → kind_in x.pool (type_of i line) ≡ cond b Place (kind_in x.pool (type_of i line))
    go true q = cc
    go false q = refl

  pub plain_type : (v : ℕ) → is_plain (kind_at x v) ≡ true → kind_in x.pool (known_at x v).ty ≡ kind_at x v
  plain_type v p = elim (value_is x counts read v) [
    | before l s ↦
        ap (λ (k : Known). kind_in x.pool k.ty) s.known_is ∙ stated_plain x.pool s.value (ap is_plain (ap (λ (k : Known). k.kind) (sym s.known_is)) ∙ p) ∙ ap (λ (k : Known). k.kind) (sym s.known_is)
    | by_line l s ↦
        ap (λ (k : Known). kind_in x.pool k.ty) (known_is x counts read v s.i s.line s.by) ∙ line_plain v s.i s.line s.by p ∙ sym (kind_of_line v s.i s.line s.by)
    | none e ↦ absurd (not_plain (kind_at x v) p e)
  ]

  -- ---- the operand that gives a line's value its type

  carried_suits : (i : ℕ) (line : Line) (ty : ℕ) → IsAt x i line → stands_for line ≡ filter (λ p. nat_lt p.0 (length line.numbers)) line.types → 0 < length line.numbers → (o : Option (ℕ × ℕ)) → find (λ p. p.0 == 0) line.types ≡ o
      → option_map (λ p. p.1) o ≡ Some ty → suits (kind_at x (operand line 0)) (kind_by x.pool ty) ≡ true
  carried_suits i line ty at s l None e f = cc
  carried_suits i line ty at s l (Some p) e f =
      let g = find_at (λ q. q.0 == 0) line.types p e in
      let zero_place : p.0 ≡ 0 = eqb-true _ _ g.holds.1 in
      let test : ℕ × ℕ → Bool = λ q. suits (kind_at x (operand line q.0)) (kind_by x.pool q.1) in
      let t : test p ≡ true = all_filtered test (λ q. nat_lt q.0 (length line.numbers)) line.types g.i p (sym (ap (list_all test) s) ∙ suited i line at) (g.at ∙ ap Some g.holds.0) (lt-ltb _ _ (omega (arith, zero_place))) in
      ap₂ (λ n t. suits (kind_at x (operand line n)) (kind_by x.pool t)) (sym zero_place) (sym (same_Some p.1 ty f)) ∙ t

  pub alike_kind : (v i : ℕ) (line : Line) → IsGivenBy x v i line → stands_for line ≡ filter (λ p. nat_lt p.0 (length line.numbers)) line.types → kind_at x v ≡ kind_in x.pool (operand_type (known_before x i) line 0)
      → is_plain (kind_at x (operand line 0)) ≡ true → is_plain (kind_at x v) ≡ true → kind_at x v ≡ kind_at x (operand line 0)
  alike_kind v i line g s k p q = elim (cases_lt (operand line 0) v) [
    | inl l ↦
        let e : operand_type (known_before x i) line 0 ≡ (known_at x (operand line 0)).ty = ap (λ b. cond b (get_or (known_before x i) (operand line 0) unknown).ty (numbered (carried line 0))) (lt-ltb _ _ (omega (arith, before_length x counts read v i line g)))
        ∙ ap (λ (n : Known). n.ty) (known_operand x counts read v i (operand line 0) line g l) in
        k ∙ ap (kind_in x.pool) e ∙ plain_type (operand line 0) p
    | inr l ↦
        let e : operand_type (known_before x i) line 0 ≡ numbered (carried line 0) = ap (λ b. cond b (get_or (known_before x i) (operand line 0) unknown).ty (numbered (carried line 0))) (le-ltb _ _ (omega (arith, before_length x counts read v i line g))) in
        go (carried line 0) refl (k ∙ ap (kind_in x.pool) e) l
  ] where
    stated_kind : (ty : ℕ) → suits (kind_at x (operand line 0)) (kind_by x.pool ty) ≡ true → kind_at x (operand line 0) ≡ kind_by x.pool ty
    stated_kind ty e = same_kind _ _ (sym (ap (λ b. cond b (is_kind (kind_at x (operand line 0)) (kind_by x.pool ty)) (not (is_plain (kind_by x.pool ty)))) p) ∙ e)

    go : (o : Option ℕ) → carried line 0 ≡ o → kind_at x v ≡ kind_in x.pool (numbered o) → v ≤ operand line 0 → kind_at x v ≡ kind_at x (operand line 0)
    go None e h l = absurd (not_plain (kind_at x v) q h)
    go (Some ty) e h l = elim (cases_lt 0 (length line.numbers)) [
      | inl m ↦ h ∙ sym (stated_kind ty (carried_suits i line ty g.at s m (find (λ p. p.0 == 0) line.types) refl e))
      | inr m ↦
          let z : operand line 0 ≡ 0 = get_or_past line.numbers 0 0 m in
          let same : v ≡ operand line 0 = omega (arith, z, l) in
          ap (kind_at x) same
    ]
