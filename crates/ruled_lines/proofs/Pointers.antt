-- The chain to the word of a part keeps the rules, and gives a pointer to an integer, which may be written where its target may.
use Rattle.std.proofs.Common.{◌≡◌, ℕ, zero, suc, Bool, true, false, List, [], ◌∷◌, Some, None, refl, sym, ap, ◌∙◌, subst, arith}
use Rattle.std.specs.Prelude.{slice_get, nat_eq, option_and_then, if◌then◌else◌}
use Rattle.dxil_form.specs.declared.program.Class.TheVariants.{Srv, Uav}
use Rattle.dxil_form.specs.declared.program.Resource.{Resource}
use Rattle.dxil_form.specs.declared.instr.Addr.{Addr}
use Rattle.dxil_form.specs.declared.instr.Addr.TheVariants.{Byte, Element, Row, Index}
use Rattle.dxil_form.specs.declared.instr.Target.{Target}
use Rattle.dxil_form.specs.declared.instr.Target.TheVariants as target
use Rattle.spv_form.specs.declared.module.Inst.{Inst}
use Rattle.spv_ids.specs.Roles.{operand}
use Rattle.spv_ids.specs.Ids.{definition}
use Rattle.type_rules.specs.Values.{pointer_type, pointer_of}
use Rattle.decoration_rules.specs.ReadOnly.{IsReadOnly, variable, chain}
use Rattle.spirv_code.specs.declared.key.Sort.TheVariants as sort
use Rattle.spirv_code.specs.declared.key.Storage.{Storage}
use Rattle.spirv_code.specs.declared.key.Storage.TheVariants as storage
use Rattle.spirv_code.specs.declared.key.Global.{Global}
use Rattle.spirv_code.specs.declared.key.Global.TheVariants.{Plain, Pointer, Buffer, Shared}
use Rattle.spirv_code.specs.Keys.{storage_class}
use Rattle.spirv_code.specs.Plans.{Context, inst, int_id}
use Rattle.spirv_code.specs.Needed.{word_pointer, target_key}
use Rattle.spirv_code.specs.Accesses.{target_id}
use Rattle.spirv_code.specs.Frame.{rowed, buffer_storage, declaration, words_needs}
use Rattle.line_runs.specs.Held.{Setting, Uses}
use Rattle.line_runs.proofs.Tests.{some_inj}
use Rattle.frame_facts.specs.Serves.{AreKeys}
use Rattle.ruled_lines.specs.Kept.{StandsAhead}
use Rattle.ruled_lines.proofs.Facts.{key_is}
use Rattle.ruled_lines.proofs.Stores.{defined_by}
use Rattle.ruled_lines.proofs.Globals.{buffer_pointer, words_used}

-- the memory that an address is in
abbrev pub storage_of : Addr → Storage
storage_of (Byte at) = storage.StorageBuffer
storage_of (Element index at stride) = storage.StorageBuffer
storage_of (Row index) = storage.Uniform
storage_of (Index index) = storage.Workgroup

-- a target that may be written: a buffer of that class, or a groupshared array
abbrev pub IsWritable : Setting → Target → Type 0
IsWritable s (target.Buffer r) =
    (resource : Resource) × (slice_get s.program.resources r ≡ Some resource) × (resource.class ≡ Uav)
IsWritable s (target.Shared a) = Unit {0}

module _ (s : Setting) (low : ℕ) (ahead : StandsAhead s low) where
  abbrev insts : List Inst
  insts = s.made.insts

  abbrev c : Context
  c = s.context

  pub pointer_is : (st : Storage) → Uses s (word_pointer st) → pointer_type insts (c.key (word_pointer st)) ≡ Some (inst 32 (c.key (word_pointer st) ∷ storage_class st ∷ int_id c ∷ []))
  unfolding pointer_type
  pointer_is st uses =
      ap (option_and_then (λ (x : Inst). if nat_eq x.opcode 32 then Some x else None)) (key_is s low ahead (word_pointer st) uses)

  pub buffer_at : (r : ℕ) (rows : Bool) → rowed s.program r ≡ rows → Uses s (Buffer r) → pointer_of insts (c.key (Buffer r)) ≡ Some (inst 32 (c.key (Pointer (buffer_storage rows) (sort.Block r)) ∷ storage_class (buffer_storage rows) ∷ c.key (Plain (sort.Block r)) ∷ []))
  buffer_at r rows is uses =
      subst (λ b. pointer_of insts (c.key (Buffer r)) ≡ Some (inst 32 (c.key (Pointer (buffer_storage b) (sort.Block r)) ∷ storage_class (buffer_storage b) ∷ c.key (Plain (sort.Block r)) ∷ []))) is (buffer_pointer s low ahead r uses)

  pub row_used : (r : ℕ) → rowed s.program r ≡ true → Uses s (Buffer r) → Uses s (Plain sort.Row)
  row_used r is uses =
      let named = ahead.closed (Plain (sort.Words r)) (words_used s low ahead r uses) in
      by_rows (rowed s.program r) is named
    where
      by_rows : (b : Bool) → b ≡ true → AreKeys s.table (words_needs s.program b r) → Uses s (Plain sort.Row)
      by_rows true e h = h.0
      by_rows false e h = absurd (cc)

  pub array_pointer : (a : ℕ) → Uses s (Shared a) → Uses s (Pointer storage.Workgroup (sort.Array a))
  array_pointer zero uses = (ahead.closed (Shared zero) uses).0
  array_pointer (suc a) uses = (ahead.closed (Shared (suc a)) uses).0

  -- ---- what is written

  -- the variable of a target that may be written is not read only
  target_writable : (t : Target) → Uses s (target_key t) → IsWritable s t → IsReadOnly insts (target_id c t) → ⊥
  target_writable t uses can read_only = by_cause t uses can (target_id c t) refl read_only
    where
      definition_at : (t : Target) → Uses s (target_key t) → (id : ℕ) → target_id c t ≡ id → definition insts id ≡ Some (declaration s.program c.key id (target_key t))
      definition_at (target.Buffer r) uses id same =
          subst (λ n. definition insts n ≡ Some (declaration s.program c.key n (Buffer r))) same (key_is s low ahead (Buffer r) uses)
      definition_at (target.Shared a) uses id same =
          subst (λ n. definition insts n ≡ Some (declaration s.program c.key n (Shared a))) same (key_is s low ahead (Shared a) uses)

      opcode_is : (t : Target) (id : ℕ) → (declaration s.program c.key id (target_key t)).opcode ≡ 59
      opcode_is (target.Buffer r) id = refl
      opcode_is (target.Shared a) id = refl

      buffer_of : Global → ℕ
      buffer_of (Buffer r) = r
      buffer_of _ = 0

      same_id : (t : Target) → c.key (target_key t) ≡ target_id c t
      same_id (target.Buffer r) = refl
      same_id (target.Shared a) = refl

      by_variable : (t : Target) → IsWritable s t → (r : ℕ) (resource : Resource) → slice_get s.program.resources r ≡ Some resource → resource.class ≡ Srv → target_key t ≡ Buffer r → ⊥
      by_variable (target.Buffer q) can r resource is class same =
          let one : q ≡ r = ap buffer_of same in
          let there : slice_get s.program.resources r ≡ Some can.0 = ap (slice_get s.program.resources) (sym one) ∙ can.1 in
          let equal : can.0 ≡ resource = some_inj (sym there ∙ is) in
          let clash : Uav ≡ Srv = sym can.2 ∙ (ap (λ (x : Resource). x.class) equal ∙ class) in
          absurd (cc)
      by_variable (target.Shared a) can r resource is class same = absurd (cc)

      by_cause : (t : Target) → Uses s (target_key t) → IsWritable s t → (id : ℕ) → target_id c t ≡ id → IsReadOnly insts id → ⊥
      by_cause t uses can id same (variable v i x d opcode mark) =
          let b = ahead.marks v mark in
          by_variable t can b.r b.resource b.is b.class (b.only (target_key t) uses (same_id t ∙ same))
      by_cause t uses can id same (chain q i j x d opcode base before more) =
          let is = some_inj (sym (definition_at t uses q same) ∙ defined_by insts q i x d) in
          let clash : 59 ≡ 65 = sym (opcode_is t q) ∙ (ap (λ (y : Inst). y.opcode) is ∙ opcode) in
          omega (arith, clash)

  -- nor is a chain to it
  pub chain_writable : (t : Target) (id type : ℕ) (indices : List ℕ) → definition insts id ≡ Some (inst 65 (type ∷ id ∷ target_id c t ∷ indices)) → Uses s (target_key t) → IsWritable s t → IsReadOnly insts id → ⊥
  chain_writable t id type indices is uses can (variable v i x d opcode mark) =
      let same = some_inj (sym is ∙ defined_by insts v i x d) in
      let clash : 65 ≡ 59 = ap (λ (y : Inst). y.opcode) same ∙ opcode in
      omega (arith, clash)
  chain_writable t id type indices is uses can (chain q i j x d opcode base before more) =
      let same = some_inj (sym is ∙ defined_by insts q i x d) in
      target_writable t uses can (subst (λ (y : Inst). IsReadOnly insts (operand y 2)) (sym same) more)
