-- Which lines give a value: all but calls of no result and the instructions that never do.
use Rattle.std.proofs.Common.{ℕ, ◌≡◌, ◌⊎◌, ◌<◌, ◌≤◌, ◌-◌, inl, inr, refl, sym, subst, ◌∙◌, ap, arith, List, [], ◌∷◌, ◌++◌, length, map, get_or, slice_get, Option, Some, None, is_some, option_map, find, Bool, true, false, not, nat_lt, if◌then◌else◌, ◌==◌, ◌&&◌, ◌||◌}
use Rattle.std.proofs.lemmas.Bool.{cases_lt, both_ways, lt-ltb, eqb-true}
use Rattle.std.proofs.lemmas.List.{get_or_past, get_or-map, length-map}
use Rattle.std.proofs.lemmas.Option.{slice_get-get_or, slice_get_past}
use Rattle.llvm_types.specs.declared.kind.LlvmType.{LlvmType}
use Rattle.llvm_types.specs.declared.kind.LlvmType.TheVariants as types
use Rattle.llvm_items.specs.Sites.{code_of, fields_of}
use Rattle.llvm_layout.specs.Table.{states, rows_of}
use Rattle.llvm_layout.specs.Reads.{HasLayout, back}
use Rattle.llvm_layout.specs.declared.letter.Around.{Around}
use Rattle.llvm_values.specs.declared.global.Global.{Global}
use Rattle.llvm_values.specs.declared.global.Global.TheVariants.{Variable, Function, Constant}
use Rattle.llvm_values.specs.declared.global.ConstKind.TheVariants.{Other}
use Rattle.llvm_bodies.specs.Bodies.{known, around_of, has_value, gives, called, typed, callee_of, signature_of as signature_by, no_function}
use Rattle.llvm_bodies.specs.Rules.{is_bad_call, m9}
use Rattle.llvm_bodies.specs.declared.facts.Signature.{Signature}
use Rattle.llvm_bodies.specs.declared.facts.ModuleFacts.{ModuleFacts}
use Rattle.llvm_bodies.specs.declared.line.Line.{Line}
use Rattle.llvm_records.specs.Facts.{facts_of, signature_of, called_by, is_void as is_void_type}
use Rattle.profile_lines.specs.Pool.{Pool, stated}
use Rattle.profile_lines.specs.Calls.{operand, carried}
use Rattle.profile_lines.specs.Values.{call_type, result_by, result_in, first_some, function_type}
use Rattle.profile_tables.specs.Read.{should_give, gives_value, is_void, is_void_in}
use Rattle.entry_read.proofs.Layouts.{call_plain, call_stated}
use Rattle.entry_read.proofs.Lines.{Placed, unsaid}

module _ (all : List LlvmType) (globals : List Global) (constants : List Global) where
  abbrev m : ModuleFacts
  m = facts_of all globals

  abbrev pool : Pool
  pool = record { types = all; globals = globals; constants = constants }

  void_same : (o : Option LlvmType) → is_void_type o ≡ is_void_in o
  void_same None = refl
  void_same (Some types.Void) = refl
  void_same (Some types.Float) = refl
  void_same (Some types.Double) = refl
  void_same (Some types.Half) = refl
  void_same (Some types.Label) = refl
  void_same (Some types.Opaque) = refl
  void_same (Some types.Metadata) = refl
  void_same (Some (types.Integer width)) = refl
  void_same (Some (types.Pointer to space)) = refl
  void_same (Some (types.Array count of)) = refl
  void_same (Some (types.Vector count of)) = refl
  void_same (Some (types.Struct fields)) = refl
  void_same (Some (types.Function vararg ret params)) = refl

  -- the signature of a type tells whether the result of a call of it is void
  result_same : (o : Option LlvmType) → (signature_of all o).is_void ≡ is_void pool (result_in o)
  result_same None = refl
  result_same (Some types.Void) = refl
  result_same (Some types.Float) = refl
  result_same (Some types.Double) = refl
  result_same (Some types.Half) = refl
  result_same (Some types.Label) = refl
  result_same (Some types.Opaque) = refl
  result_same (Some types.Metadata) = refl
  result_same (Some (types.Integer width)) = refl
  result_same (Some (types.Pointer to space)) = refl
  result_same (Some (types.Array count of)) = refl
  result_same (Some (types.Vector count of)) = refl
  result_same (Some (types.Struct fields)) = refl
  result_same (Some (types.Function vararg ret params)) = void_same (slice_get all ret)

  typed_is : (n : ℕ) → typed m n ≡ signature_of all (slice_get all n)
  typed_is n = elim (cases_lt n (length all)) [
    | inl h ↦ get_or-map (λ t. signature_of all (Some t)) all n types.Void no_function h ∙ ap (signature_of all) (sym (slice_get-get_or all n types.Void h))
    | inr h ↦ get_or_past (map (λ t. signature_of all (Some t)) all) n no_function (omega (arith, h, length-map all (λ t. signature_of all (Some t)))) ∙ ap (signature_of all) (sym (slice_get_past all n h))
  ]

  -- a value that is called is a function of the module
  record IsCallee (v : ℕ) : Type 0 where
    ty : ℕ
    body : Option ℕ
    name : List ℕ
    bit : ℕ
    below : v < length globals
    at : slice_get globals v ≡ Some (Function ty body name bit)

  by_value : (v : ℕ) (g : Global) → v < length globals → slice_get globals v ≡ Some g → (called_by all g).is_function ≡ true → IsCallee v
  by_value v (Function ty body name bit) h at e = record { ty = ty; body = body; name = name; bit = bit; below = h; at = at }
  by_value v (Variable ty space init bit) h at e = cc
  by_value v (Constant ty kind bit) h at e = cc

  callee_is : (v : ℕ) → (called m v).is_function ≡ true → IsCallee v
  callee_is v e = elim (cases_lt v (length globals)) [
    | inl h ↦ by_value v (get_or globals v (Constant None Other 0)) h (slice_get-get_or globals v (Constant None Other 0) h)
        (ap (λ (s : Signature). s.is_function) (sym (get_or-map (called_by all) globals v (Constant None Other 0) no_function h)) ∙ e)
    | inr h ↦ absurd (both_ways (called m v).is_function (ap (λ (s : Signature). s.is_function) (get_or_past (map (called_by all) globals) v no_function (omega (arith, h, length-map globals (called_by all))))) e)
  ]

  abbrev called_by_some : Option Global → Signature
  called_by_some None = no_function
  called_by_some (Some g) = called_by all g

  called_is : (v : ℕ) (c : IsCallee v) → (called m v).is_void ≡ (signature_of all (slice_get all c.ty)).is_void
  called_is v c =
      ap (λ (s : Signature). s.is_void) (get_or-map (called_by all) globals v (Constant None Other 0) no_function c.below)
      ∙ ap (λ (o : Option Global). (called_by_some o).is_void) (sym (slice_get-get_or globals v (Constant None Other 0) c.below) ∙ c.at)

  -- ---- a call

  first_of : (a b c : Bool) → (not a || b || c) ≡ false → a ≡ true
  first_of true b c e = refl
  first_of false b c e = cc

  module _ (x : Around) (fields : List ℕ) (line : Line) (enough : length globals ≤ x.now) (layout : HasLayout x (rows_of 34 fields) fields (record { numbers = line.numbers; types = line.types; plain = line.plain })) where
    of_callee : (v : ℕ) → (called m v).is_function ≡ true → operand line 0 ≡ v → carried line 0 ≡ None → (called m v).is_void ≡ is_void pool (call_type pool line)
    of_callee v f o n =
        let c = callee_is v f in
        let place : stated pool v ≡ Some (Function c.ty c.body c.name c.bit) = ap (λ b. if b then slice_get globals v else slice_get constants (v - length globals)) (lt-ltb v (length globals) c.below) ∙ c.at in
        called_is v c ∙ result_same (slice_get all c.ty)
        ∙ sym (ap (λ (ty : Option ℕ). is_void pool (result_by pool (first_some ty (function_type (stated pool (operand line 0)))))) n
        ∙ ap (λ k. is_void pool (result_by pool (function_type (stated pool k)))) o
        ∙ ap (λ (g : Option Global). is_void pool (result_by pool (function_type g))) place)

    of_type : (t : ℕ) → carried line 0 ≡ Some t → (typed m t).is_void ≡ is_void pool (call_type pool line)
    of_type t c =
        ap (λ (s : Signature). s.is_void) (typed_is t) ∙ result_same (slice_get all t)
        ∙ sym (ap (λ (ty : Option ℕ). is_void pool (result_by pool (first_some ty (function_type (stated pool (operand line 0)))))) c)

    plain_void : states fields ≡ false → (called m (back x.now (get_or fields 2 0))).is_function ≡ true → (called m (back x.now (get_or fields 2 0))).is_void ≡ is_void pool (call_type pool line)
    plain_void s f =
        let v = back x.now (get_or fields 2 0) in
        let k = call_plain x fields (record { numbers = line.numbers; types = line.types; plain = line.plain }) s layout in
        of_callee v f (ap (λ ns. get_or ns 0 0) k.numbers) (none_carried v f k.types) where
          none_carried : (v : ℕ) → (called m v).is_function ≡ true → (line.types ≡ []) ⊎ ((nat_lt v x.now ≡ false) × ((t : ℕ) × (line.types ≡ [] ++ (0, t) ∷ []))) → carried line 0 ≡ None
          none_carried v f (inl e) = ap (λ ts. option_map (λ (p : ℕ × ℕ). p.1) (find (λ (p : ℕ × ℕ). p.0 == 0) ts)) e
          none_carried v f (inr e) = absurd (both_ways (nat_lt v x.now) e.0 (lt-ltb v x.now (let c = callee_is v f in let b = c.below in omega (arith, b, enough))))

    stated_void : states fields ≡ true → (typed m (get_or fields 2 0)).is_void ≡ is_void pool (call_type pool line)
    stated_void s =
        let k = call_stated x fields (record { numbers = line.numbers; types = line.types; plain = line.plain }) s layout in
        of_type (get_or fields 2 0) (some_carried k.types) where
          some_carried : (line.types ≡ (0, get_or fields 2 0) ∷ []) ⊎ ((nat_lt (back x.now (get_or fields 3 0)) x.now ≡ false) × ((t : ℕ) × (line.types ≡ ((0, get_or fields 2 0) ∷ []) ++ (0, t) ∷ []))) → carried line 0 ≡ Some (get_or fields 2 0)
          some_carried (inl e) = ap (λ ts. option_map (λ (p : ℕ × ℕ). p.1) (find (λ (p : ℕ × ℕ). p.0 == 0) ts)) e
          some_carried (inr e) = ap (λ ts. option_map (λ (p : ℕ × ℕ). p.1) (find (λ (p : ℕ × ℕ). p.0 == 0) ts)) e.1.1

    call_void : (not (called m (callee_of m x.now fields)).is_function || not (signature_by m x.now fields).is_function || (signature_by m x.now fields).vararg) ≡ false
        → (signature_by m x.now fields).is_void ≡ is_void pool (call_type pool line)
    call_void good = by (states fields) refl where
      by : (b : Bool) → states fields ≡ b → (signature_by m x.now fields).is_void ≡ is_void pool (call_type pool line)
      by true e = ap (λ (b : Bool). (if b then typed m (get_or fields 2 0) else called m (callee_of m x.now fields)).is_void) e ∙ stated_void e
      by false e =
          let at : callee_of m x.now fields ≡ back x.now (get_or fields 2 0) = ap (λ (b : Bool). back x.now (get_or fields (if b then 3 else 2) 0)) e in
          let f = first_of (called m (callee_of m x.now fields)).is_function (not (signature_by m x.now fields).is_function) (signature_by m x.now fields).vararg good in
          ap (λ (b : Bool). (if b then typed m (get_or fields 2 0) else called m (callee_of m x.now fields)).is_void) e ∙ ap (λ v. (called m v).is_void) at
          ∙ plain_void e (sym (ap (λ v. (called m v).is_function) at) ∙ f)

  -- ---- a line

  is_chosen : (b : Bool) (n : ℕ) → is_some (if b then Some n else None) ≡ b
  is_chosen true n = refl
  is_chosen false n = refl

  pub given : (fs : List ℕ) (line : Line) (w : Placed m fs line) → length globals ≤ (known m fs w.front).now → gives_value line ≡ should_give pool line
  given fs line w enough =
      ap (λ (o : Option ℕ). is_some o) w.is.value ∙ is_chosen (gives m (known m fs w.front).now (code_of w.place.item) (fields_of fs w.place.item)) (known m fs w.front).now
      ∙ ap (λ b. has_value (code_of w.place.item) && not b) (gate (code_of w.place.item == 34) refl)
      ∙ ap (λ c. has_value c && not (c == 34 && is_void pool (call_type pool line))) (sym w.is.code) where
        ninth : m9 m (known m fs w.front) (code_of w.place.item) (fields_of fs w.place.item) ≡ false
        ninth = unsaid m fs w.front w.place w.clear w.here (Some (record { numbers = line.numbers; types = line.types; plain = line.plain })) w.is.parts 8 (m9 m (known m fs w.front) (code_of w.place.item) (fields_of fs w.place.item)) refl

        gate : (b : Bool) → (code_of w.place.item == 34) ≡ b
            → (code_of w.place.item == 34 && (signature_by m (known m fs w.front).now (fields_of fs w.place.item)).is_void) ≡ (code_of w.place.item == 34 && is_void pool (call_type pool line))
        gate false e = ap (λ b. b && (signature_by m (known m fs w.front).now (fields_of fs w.place.item)).is_void) e ∙ sym (ap (λ b. b && is_void pool (call_type pool line)) e)
        gate true e = ap (λ b. code_of w.place.item == 34 && b)
            (call_void (around_of m fs (known m fs w.front)) (fields_of fs w.place.item) line enough
            (subst (λ (k : ℕ). HasLayout (around_of m fs (known m fs w.front)) (rows_of k (fields_of fs w.place.item)) (fields_of fs w.place.item) (record { numbers = line.numbers; types = line.types; plain = line.plain })) (eqb-true (code_of w.place.item) 34 e) w.is.parts)
            (sym (ap (λ b. b && is_bad_call m (known m fs w.front) (code_of w.place.item) (fields_of fs w.place.item)) e) ∙ ninth))
