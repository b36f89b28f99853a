-- Which keys are declared by the same words.
use Rattle.std.proofs.Common.{◌≡◌, ◌⊎◌, inl, inr, ℕ, Bool, true, false, List, [], ◌∷◌, refl, sym, ap, ◌∙◌, arith}
use Rattle.std.specs.Prelude.{slice_get, drop, ◌==◌, ◌||◌}
use Rattle.dxil_form.specs.declared.program.Program.{Program}
use Rattle.dxil_form.specs.declared.region.Region.{Region}
use Rattle.id_rules.specs.Again.{is_single}
use Rattle.spirv_code.specs.declared.key.Sort.{Sort}
use Rattle.spirv_code.specs.declared.key.Sort.TheVariants as sort
use Rattle.spirv_code.specs.declared.key.Storage.{Storage}
use Rattle.spirv_code.specs.declared.key.Storage.TheVariants as storage
use Rattle.spirv_code.specs.declared.key.Global.{Global}
use Rattle.spirv_code.specs.declared.key.Global.TheVariants.{Plain, Pointer, Number, Truth, Input, Buffer, Shared}
use Rattle.spirv_code.specs.Keys.{storage_class, index_of, has_key}
use Rattle.spirv_code.specs.Plans.{Plan, global_id}
use Rattle.spirv_code.specs.Frame.{rowed, words_declaration, declaration}
use Rattle.frame_facts.specs.Serves.{Serves}
use Rattle.line_runs.proofs.Tests.{true_false}
use Rattle.frame_facts.proofs.Searches.{inj}
use Rattle.frame_facts.proofs.Tables.{key_stands}

-- ---- storage classes

storage_told : (s t : Storage) → storage_class s ≡ storage_class t → s ≡ t
storage_told storage.Input storage.Input e = refl
storage_told storage.Input storage.Uniform e = absurd (cc)
storage_told storage.Input storage.Workgroup e = absurd (cc)
storage_told storage.Input storage.Function e = absurd (cc)
storage_told storage.Input storage.StorageBuffer e = absurd (cc)
storage_told storage.Uniform storage.Input e = absurd (cc)
storage_told storage.Uniform storage.Uniform e = refl
storage_told storage.Uniform storage.Workgroup e = absurd (cc)
storage_told storage.Uniform storage.Function e = absurd (cc)
storage_told storage.Uniform storage.StorageBuffer e = absurd (cc)
storage_told storage.Workgroup storage.Input e = absurd (cc)
storage_told storage.Workgroup storage.Uniform e = absurd (cc)
storage_told storage.Workgroup storage.Workgroup e = refl
storage_told storage.Workgroup storage.Function e = absurd (cc)
storage_told storage.Workgroup storage.StorageBuffer e = absurd (cc)
storage_told storage.Function storage.Input e = absurd (cc)
storage_told storage.Function storage.Uniform e = absurd (cc)
storage_told storage.Function storage.Workgroup e = absurd (cc)
storage_told storage.Function storage.Function e = refl
storage_told storage.Function storage.StorageBuffer e = absurd (cc)
storage_told storage.StorageBuffer storage.Input e = absurd (cc)
storage_told storage.StorageBuffer storage.Uniform e = absurd (cc)
storage_told storage.StorageBuffer storage.Workgroup e = absurd (cc)
storage_told storage.StorageBuffer storage.Function e = absurd (cc)
storage_told storage.StorageBuffer storage.StorageBuffer e = refl

-- ---- keys by the opcode of their declaration

-- the type void or that of the function
abbrev pub is_frame : ℕ → Bool
is_frame n = n == 19 || n == 33

module _ (p : Program) (key : Global → ℕ) where
  int_only_words : (r id : ℕ) (b : Bool) → ((words_declaration p key id b r).opcode == 21) ≡ true → ⊥
  int_only_words r id true e = true_false (sym e)
  int_only_words r id false e = true_false (sym e)

  int_only : (id : ℕ) (h : Global) → ((declaration p key id h).opcode == 21) ≡ true → h ≡ Plain sort.Int
  int_only id (Plain sort.Int) e = refl
  int_only id (Plain sort.Bool) e = absurd (true_false (sym e))
  int_only id (Plain sort.Triple) e = absurd (true_false (sym e))
  int_only id (Plain sort.Row) e = absurd (true_false (sym e))
  int_only id (Plain (sort.Words r)) e = absurd (int_only_words r id (rowed p r) e)
  int_only id (Plain (sort.Block r)) e = absurd (true_false (sym e))
  int_only id (Plain (sort.Array a)) e = absurd (true_false (sym e))
  int_only id (Pointer s to) e = absurd (true_false (sym e))
  int_only id (Number m) e = absurd (true_false (sym e))
  int_only id (Truth true) e = absurd (true_false (sym e))
  int_only id (Truth false) e = absurd (true_false (sym e))
  int_only id (Input b) e = absurd (true_false (sym e))
  int_only id (Buffer r) e = absurd (true_false (sym e))
  int_only id (Shared a) e = absurd (true_false (sym e))

  bool_only_words : (r id : ℕ) (b : Bool) → ((words_declaration p key id b r).opcode == 20) ≡ true → ⊥
  bool_only_words r id true e = true_false (sym e)
  bool_only_words r id false e = true_false (sym e)

  bool_only : (id : ℕ) (h : Global) → ((declaration p key id h).opcode == 20) ≡ true → h ≡ Plain sort.Bool
  bool_only id (Plain sort.Int) e = absurd (true_false (sym e))
  bool_only id (Plain sort.Bool) e = refl
  bool_only id (Plain sort.Triple) e = absurd (true_false (sym e))
  bool_only id (Plain sort.Row) e = absurd (true_false (sym e))
  bool_only id (Plain (sort.Words r)) e = absurd (bool_only_words r id (rowed p r) e)
  bool_only id (Plain (sort.Block r)) e = absurd (true_false (sym e))
  bool_only id (Plain (sort.Array a)) e = absurd (true_false (sym e))
  bool_only id (Pointer s to) e = absurd (true_false (sym e))
  bool_only id (Number m) e = absurd (true_false (sym e))
  bool_only id (Truth true) e = absurd (true_false (sym e))
  bool_only id (Truth false) e = absurd (true_false (sym e))
  bool_only id (Input b) e = absurd (true_false (sym e))
  bool_only id (Buffer r) e = absurd (true_false (sym e))
  bool_only id (Shared a) e = absurd (true_false (sym e))

  vector_only_words : (r id : ℕ) (b : Bool) → ((words_declaration p key id b r).opcode == 23) ≡ true → ⊥
  vector_only_words r id true e = true_false (sym e)
  vector_only_words r id false e = true_false (sym e)

  vector_only : (id : ℕ) (h : Global) → ((declaration p key id h).opcode == 23) ≡ true → (h ≡ Plain sort.Triple) ⊎ (h ≡ Plain sort.Row)
  vector_only id (Plain sort.Int) e = absurd (true_false (sym e))
  vector_only id (Plain sort.Bool) e = absurd (true_false (sym e))
  vector_only id (Plain sort.Triple) e = inl refl
  vector_only id (Plain sort.Row) e = inr refl
  vector_only id (Plain (sort.Words r)) e = absurd (vector_only_words r id (rowed p r) e)
  vector_only id (Plain (sort.Block r)) e = absurd (true_false (sym e))
  vector_only id (Plain (sort.Array a)) e = absurd (true_false (sym e))
  vector_only id (Pointer s to) e = absurd (true_false (sym e))
  vector_only id (Number m) e = absurd (true_false (sym e))
  vector_only id (Truth true) e = absurd (true_false (sym e))
  vector_only id (Truth false) e = absurd (true_false (sym e))
  vector_only id (Input b) e = absurd (true_false (sym e))
  vector_only id (Buffer r) e = absurd (true_false (sym e))
  vector_only id (Shared a) e = absurd (true_false (sym e))

  pointer_only_words : (r id : ℕ) (b : Bool) → ((words_declaration p key id b r).opcode == 32) ≡ true → ⊥
  pointer_only_words r id true e = true_false (sym e)
  pointer_only_words r id false e = true_false (sym e)

  pointer_only : (id : ℕ) (h : Global) → ((declaration p key id h).opcode == 32) ≡ true → (s : Storage) × (to : Sort) × (h ≡ Pointer s to)
  pointer_only id (Plain sort.Int) e = absurd (true_false (sym e))
  pointer_only id (Plain sort.Bool) e = absurd (true_false (sym e))
  pointer_only id (Plain sort.Triple) e = absurd (true_false (sym e))
  pointer_only id (Plain sort.Row) e = absurd (true_false (sym e))
  pointer_only id (Plain (sort.Words r)) e = absurd (pointer_only_words r id (rowed p r) e)
  pointer_only id (Plain (sort.Block r)) e = absurd (true_false (sym e))
  pointer_only id (Plain (sort.Array a)) e = absurd (true_false (sym e))
  pointer_only id (Pointer s to) e = (s, to, refl)
  pointer_only id (Number m) e = absurd (true_false (sym e))
  pointer_only id (Truth true) e = absurd (true_false (sym e))
  pointer_only id (Truth false) e = absurd (true_false (sym e))
  pointer_only id (Input b) e = absurd (true_false (sym e))
  pointer_only id (Buffer r) e = absurd (true_false (sym e))
  pointer_only id (Shared a) e = absurd (true_false (sym e))

  -- ---- and no key is declared as what the frame has besides

  frame_words : (r id : ℕ) (b : Bool) → is_frame (words_declaration p key id b r).opcode ≡ true → ⊥
  frame_words r id true e = true_false (sym e)
  frame_words r id false e = true_false (sym e)

  pub no_frame : (id : ℕ) (h : Global) → is_frame (declaration p key id h).opcode ≡ true → ⊥
  no_frame id (Plain sort.Int) e = true_false (sym e)
  no_frame id (Plain sort.Bool) e = true_false (sym e)
  no_frame id (Plain sort.Triple) e = true_false (sym e)
  no_frame id (Plain sort.Row) e = true_false (sym e)
  no_frame id (Plain (sort.Words r)) e = frame_words r id (rowed p r) e
  no_frame id (Plain (sort.Block r)) e = true_false (sym e)
  no_frame id (Plain (sort.Array a)) e = true_false (sym e)
  no_frame id (Pointer s to) e = true_false (sym e)
  no_frame id (Number m) e = true_false (sym e)
  no_frame id (Truth true) e = true_false (sym e)
  no_frame id (Truth false) e = true_false (sym e)
  no_frame id (Input b) e = true_false (sym e)
  no_frame id (Buffer r) e = true_false (sym e)
  no_frame id (Shared a) e = true_false (sym e)

-- ---- keys that are declared by the same words

module _ (p : Program) (list : List Region) (plan : Plan) (serves : Serves p list plan) where
  abbrev ids : Global → ℕ
  ids = global_id plan

  abbrev Has : Global → Type 0
  Has g = has_key plan.table g ≡ true

  ids_told : (g h : Global) → Has g → Has h → ids g ≡ ids h → g ≡ h
  ids_told g h has also e =
      let same : index_of plan.table g ≡ index_of plan.table h = omega (arith, e) in
      inj (sym (key_stands plan.table g has) ∙ ap (slice_get plan.table) same ∙ key_stands plan.table h also)

  single_words : (r id : ℕ) (b : Bool) → is_single (words_declaration p ids id b r).opcode ≡ true → ⊥
  single_words r id true e = true_false (sym e)
  single_words r id false e = true_false (sym e)

  same_opcode : (n m : ℕ) → n ≡ m → (n == m) ≡ true
  same_opcode n m e = grind arith

  -- the first two of a list's members
  first_two : (a b c d : ℕ) → (a ∷ b ∷ []) ≡ (c ∷ d ∷ []) → (a ≡ c) × (b ≡ d)
  first_two a b c d e = (cc, cc)

  pub same_key : (a b : ℕ) (g h : Global) → Has g → Has h → is_single (declaration p ids a g).opcode ≡ true → (declaration p ids b h).opcode ≡ (declaration p ids a g).opcode → drop 1 (declaration p ids b h).operands ≡ drop 1 (declaration p ids a g).operands → h ≡ g
  same_key a b (Plain sort.Int) h has also single o d = int_only p ids b h (same_opcode (declaration p ids b h).opcode 21 o)
  same_key a b (Plain sort.Bool) h has also single o d = bool_only p ids b h (same_opcode (declaration p ids b h).opcode 20 o)
  same_key a b (Plain sort.Triple) h has also single o d = by_kind (vector_only p ids b h (same_opcode (declaration p ids b h).opcode 23 o))
    where
      by_kind : (h ≡ Plain sort.Triple) ⊎ (h ≡ Plain sort.Row) → h ≡ Plain sort.Triple
      by_kind (inl e) = e
      by_kind (inr e) = absurd (let clash = sym d ∙ ap (λ g. drop 1 (declaration p ids b g).operands) e in cc)
  same_key a b (Plain sort.Row) h has also single o d = by_kind (vector_only p ids b h (same_opcode (declaration p ids b h).opcode 23 o))
    where
      by_kind : (h ≡ Plain sort.Triple) ⊎ (h ≡ Plain sort.Row) → h ≡ Plain sort.Row
      by_kind (inl e) = absurd (let clash = sym d ∙ ap (λ g. drop 1 (declaration p ids b g).operands) e in cc)
      by_kind (inr e) = e
  same_key a b (Plain (sort.Words r)) h has also single o d = absurd (single_words r a (rowed p r) single)
  same_key a b (Plain (sort.Block r)) h has also single o d = absurd (true_false (sym single))
  same_key a b (Plain (sort.Array k)) h has also single o d = absurd (true_false (sym single))
  same_key a b (Pointer s to) h has also single o d =
      let (t, other, is) = pointer_only p ids b h (same_opcode (declaration p ids b h).opcode 32 o) in
      let known : Has (Pointer t other) = ap (has_key plan.table) (sym is) ∙ also in
      let two = first_two _ _ _ _ (sym (ap (λ g. drop 1 (declaration p ids b g).operands) is) ∙ d) in
      let class : t ≡ s = storage_told t s two.0 in
      let pointee : Plain other ≡ Plain to = ids_told (Plain other) (Plain to) (serves.closed (Pointer t other) known).0 (serves.closed (Pointer s to) has).0 two.1 in
      is ∙ ap (λ c. Pointer c other) class ∙ ap (Pointer s) (sort_same other to pointee)
    where
      sort_same : (x y : Sort) → Plain x ≡ Plain y → x ≡ y
      sort_same x y e = cc
  same_key a b (Number n) h has also single o d = absurd (true_false (sym single))
  same_key a b (Truth true) h has also single o d = absurd (true_false (sym single))
  same_key a b (Truth false) h has also single o d = absurd (true_false (sym single))
  same_key a b (Input k) h has also single o d = absurd (true_false (sym single))
  same_key a b (Buffer r) h has also single o d = absurd (true_false (sym single))
  same_key a b (Shared k) h has also single o d = absurd (true_false (sym single))
