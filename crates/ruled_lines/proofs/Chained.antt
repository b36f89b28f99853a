-- The code up to the pointer to the word of a part keeps the rules.
use Rattle.std.proofs.Common.{◌≡◌, ℕ, ◌+◌, ◌≤◌, true, false, List, [], ◌∷◌, ◌++◌, length, Some, refl, sym, ap, ◌∙◌, subst, arith}
use Rattle.dxil_form.specs.declared.program.Kind.TheVariants as kind
use Rattle.dxil_form.specs.declared.instr.Addr.{Addr}
use Rattle.dxil_form.specs.declared.instr.Addr.TheVariants.{Byte, Element, Row, Index}
use Rattle.dxil_form.specs.declared.instr.Target.{Target}
use Rattle.dxil_form.specs.declared.instr.Target.TheVariants as target
use Rattle.spv_form.specs.declared.module.Inst.{Inst}
use Rattle.spv_form.specs.declared.shape.Shape.TheVariants.{Plain}
use Rattle.spv_form.specs.Shapes.{shape_of}
use Rattle.decoration_rules.specs.ReadOnly.{IsReadOnly}
use Rattle.spirv_code.specs.declared.key.Sort.TheVariants as sort
use Rattle.spirv_code.specs.declared.key.Storage.TheVariants as storage
use Rattle.spirv_code.specs.declared.key.Global.TheVariants.{Plain as PlainKey, Pointer, Number, Buffer, Shared}
use Rattle.spirv_code.specs.Keys.{storage_class}
use Rattle.spirv_code.specs.Plans.{Context, inst, result, number, int_id}
use Rattle.spirv_code.specs.Reads.{Env}
use Rattle.spirv_code.specs.Needed.{place_reads, word_pointer, target_key}
use Rattle.spirv_code.specs.Accesses.{word_size, word_code, word_id, pointer_id, target_id, chain_indices, chain_size, chain_id, chain_code}
use Rattle.spirv_code.specs.Frame.{rowed}
use Rattle.line_runs.specs.Held.{Setting, Has, Uses}
use Rattle.line_runs.proofs.Tests.{none_some}
use Rattle.line_runs.proofs.Pieces.{has_front, has_back}
use Rattle.access_runs.specs.Parts.{AddrReady}
use Rattle.access_runs.proofs.Chains.{word_length}
use Rattle.ruled_ids.proofs.Seats.{made}
use Rattle.ruled_lines.specs.Kept.{KeepsRules, IsValueAt, KnownAt, AreUsed, StandsAhead}
use Rattle.ruled_lines.proofs.Values.{definition_is, value_reached, typed_reach}
use Rattle.ruled_lines.proofs.Facts.{key_reached}
use Rattle.ruled_lines.proofs.Going.{kept_behind}
use Rattle.ruled_lines.proofs.Globals.{shared_pointer}
use Rattle.ruled_lines.proofs.Chains.{fits_chain, words_lead, rows_lead, array_leads}
use Rattle.ruled_lines.proofs.Straight.{step}
use Rattle.ruled_lines.proofs.Words.{Gives, word_gives}
use Rattle.ruled_lines.proofs.Tests.{rowed_by}
use Rattle.ruled_lines.proofs.Pointers.{storage_of, IsWritable, pointer_is, buffer_at, row_used, array_pointer, chain_writable}

chain_shape : shape_of 65 ≡ Some (Plain true true 0 65535 0)
unfolding shape_of
chain_shape = refl

-- a target that is used so is declared
pub target_used : (s : Setting) (t : Target) (addr : Addr) (part : ℕ) → AddrReady s t addr part → Uses s (target_key t)
target_used s (target.Buffer r) (Byte at) part ready = ready.1
target_used s (target.Buffer r) (Element index at stride) part ready = ready.1
target_used s (target.Buffer r) (Row index) part ready = ready.1
target_used s (target.Buffer r) (Index index) part ready = absurd ready
target_used s (target.Shared a) (Byte at) part ready = absurd ready
target_used s (target.Shared a) (Element index at stride) part ready = absurd ready
target_used s (target.Shared a) (Row index) part ready = absurd ready
target_used s (target.Shared a) (Index index) part ready = ready.0

module _ (s : Setting) (low : ℕ) (ahead : StandsAhead s low) (int : Uses s (PlainKey sort.Int)) where
  abbrev insts : List Inst
  insts = s.made.insts

  abbrev c : Context
  c = s.context

  -- to a word of a raw or structured buffer
  words_chain : (q r w : ℕ) → rowed s.program r ≡ false → Uses s (Buffer r) → Uses s (Number 0) → Uses s (word_pointer storage.StorageBuffer) → low ≤ q → IsValueAt insts q w (int_id c) → KeepsRules insts q (inst 65 (c.key (word_pointer storage.StorageBuffer) ∷ result c q ∷ c.key (Buffer r) ∷ number c 0 ∷ w ∷ []))
  words_chain q r w plain uses none pointer behind value =
      let type : ℕ = c.key (word_pointer storage.StorageBuffer) in
      let base : ℕ = c.key (Buffer r) in
      let y : Inst = inst 65 (type ∷ result c q ∷ base ∷ number c 0 ∷ w ∷ []) in
      record {
        in_reach = typed_reach insts ahead.once q 65 type (result c q) (base ∷ number c 0 ∷ w ∷ []) 0 65535 chain_shape (key_reached s low ahead q y (word_pointer storage.StorageBuffer) pointer behind) (key_reached s low ahead q y (Buffer r) uses behind, (key_reached s low ahead q y (Number 0) none behind, (value_reached insts ahead.once q y w (int_id c) value, tt)));
        fitting = fits_chain insts type (result c q) base (storage_class storage.StorageBuffer) (int_id c) (c.key (Pointer storage.StorageBuffer (sort.Block r))) (c.key (PlainKey (sort.Block r))) (number c 0 ∷ w ∷ []) (pointer_is s low ahead storage.StorageBuffer pointer) (buffer_at s low ahead r false plain uses) (words_lead s low ahead r q w plain uses none value);
        writable = λ pointer e read_only. none_some e;
      }

  -- to a component of a row of a constant buffer
  rows_chain : (q r w part : ℕ) → rowed s.program r ≡ true → Uses s (Buffer r) → Uses s (Number 0) → Uses s (Number part) → Uses s (word_pointer storage.Uniform) → low ≤ q → IsValueAt insts q w (int_id c) → KeepsRules insts q (inst 65 (c.key (word_pointer storage.Uniform) ∷ result c q ∷ c.key (Buffer r) ∷ number c 0 ∷ w ∷ number c part ∷ []))
  rows_chain q r w part rows uses none component pointer behind value =
      let type : ℕ = c.key (word_pointer storage.Uniform) in
      let base : ℕ = c.key (Buffer r) in
      let y : Inst = inst 65 (type ∷ result c q ∷ base ∷ number c 0 ∷ w ∷ number c part ∷ []) in
      record {
        in_reach = typed_reach insts ahead.once q 65 type (result c q) (base ∷ number c 0 ∷ w ∷ number c part ∷ []) 0 65535 chain_shape (key_reached s low ahead q y (word_pointer storage.Uniform) pointer behind) (key_reached s low ahead q y (Buffer r) uses behind, (key_reached s low ahead q y (Number 0) none behind, (value_reached insts ahead.once q y w (int_id c) value, (key_reached s low ahead q y (Number part) component behind, tt))));
        fitting = fits_chain insts type (result c q) base (storage_class storage.Uniform) (int_id c) (c.key (Pointer storage.Uniform (sort.Block r))) (c.key (PlainKey (sort.Block r))) (number c 0 ∷ w ∷ number c part ∷ []) (pointer_is s low ahead storage.Uniform pointer) (buffer_at s low ahead r true rows uses) (rows_lead s low ahead r q w part behind rows uses (row_used s low ahead r rows uses) none component value);
        writable = λ pointer e read_only. none_some e;
      }

  -- to a word of a groupshared array
  array_chain : (q a w : ℕ) → Uses s (Shared a) → Uses s (word_pointer storage.Workgroup) → low ≤ q → IsValueAt insts q w (int_id c) → KeepsRules insts q (inst 65 (c.key (word_pointer storage.Workgroup) ∷ result c q ∷ c.key (Shared a) ∷ w ∷ []))
  array_chain q a w uses pointer behind value =
      let type : ℕ = c.key (word_pointer storage.Workgroup) in
      let base : ℕ = c.key (Shared a) in
      let y : Inst = inst 65 (type ∷ result c q ∷ base ∷ w ∷ []) in
      let own = array_pointer s low ahead a uses in
      let array = (ahead.closed (Pointer storage.Workgroup (sort.Array a)) own).0 in
      record {
        in_reach = typed_reach insts ahead.once q 65 type (result c q) (base ∷ w ∷ []) 0 65535 chain_shape (key_reached s low ahead q y (word_pointer storage.Workgroup) pointer behind) (key_reached s low ahead q y (Shared a) uses behind, (value_reached insts ahead.once q y w (int_id c) value, tt));
        fitting = fits_chain insts type (result c q) base (storage_class storage.Workgroup) (int_id c) (c.key (Pointer storage.Workgroup (sort.Array a))) (c.key (PlainKey (sort.Array a))) (w ∷ []) (pointer_is s low ahead storage.Workgroup pointer) (shared_pointer s low ahead a uses own) (array_leads s low ahead a q w array int value);
        writable = λ pointer e read_only. none_some e;
      }

  chain_rules : (q w : ℕ) (t : Target) (addr : Addr) (part : ℕ) → AddrReady s t addr part → Uses s (word_pointer (storage_of addr)) → low ≤ q → IsValueAt insts q w (int_id c) → KeepsRules insts q (inst 65 (c.key (word_pointer (storage_of addr)) ∷ result c q ∷ target_id c t ∷ chain_indices c addr w part))
  chain_rules q w (target.Buffer r) (Byte at) part ready pointer behind value = words_chain q r w (rowed_by s r ready.0.0 kind.Raw ready.0.1 ready.0.2) ready.1 ready.4 pointer behind value
  chain_rules q w (target.Buffer r) (Element index at stride) part ready pointer behind value =
      words_chain q r w (rowed_by s r ready.0.0 (kind.Structured stride) ready.0.1 ready.0.2) ready.1 ready.5 pointer behind value
  chain_rules q w (target.Buffer r) (Row index) part ready pointer behind value =
      rows_chain q r w part (rowed_by s r ready.0.0 (kind.Constant ready.0.1) ready.0.2 ready.0.3) ready.1 ready.4 ready.5 pointer behind value
  chain_rules q w (target.Buffer r) (Index index) part ready pointer behind value = absurd ready
  chain_rules q w (target.Shared a) (Byte at) part ready pointer behind value = absurd ready
  chain_rules q w (target.Shared a) (Element index at stride) part ready pointer behind value = absurd ready
  chain_rules q w (target.Shared a) (Row index) part ready pointer behind value = absurd ready
  chain_rules q w (target.Shared a) (Index index) part ready pointer behind value = array_chain q a w ready.0 pointer behind value

  pointer_same : (addr : Addr) → c.key (word_pointer (storage_of addr)) ≡ pointer_id c addr
  pointer_same (Byte at) = refl
  pointer_same (Element index at stride) = refl
  pointer_same (Row index) = refl
  pointer_same (Index index) = refl

  -- the code of a pointer, and that it may be written where its target may
  pub record Chained (env : Env) (place : ℕ) (t : Target) (addr : Addr) (part : ℕ) : Type 0 where
    pub gives : Gives s place (place + chain_size c env addr part) (chain_code c env place t addr part) (chain_id c env place addr part) (c.key (word_pointer (storage_of addr)))
    pub safe : IsWritable s t → IsReadOnly insts (chain_id c env place addr part) → ⊥

  pub chain_gives : (env : Env) (place : ℕ) (t : Target) (addr : Addr) (part : ℕ) → low ≤ place → AddrReady s t addr part → AreUsed s (place_reads addr) → Uses s (word_pointer (storage_of addr)) → KnownAt s env place → Has s.made place (chain_code c env place t addr part) → Chained env place t addr part
  chain_gives env place t addr part behind ready used pointer known has =
      let q : ℕ = place + word_size c env addr part in
      let front : List Inst = word_code c env place addr part in
      let w : ℕ = word_id c env place addr part in
      let type : ℕ = c.key (word_pointer (storage_of addr)) in
      let indices : List ℕ = chain_indices c addr w part in
      let y : Inst = inst 65 (type ∷ result c q ∷ target_id c t ∷ indices) in
      let same : inst 65 (pointer_id c addr ∷ result c q ∷ target_id c t ∷ indices) ≡ y = ap (λ n. inst 65 (n ∷ result c q ∷ target_id c t ∷ indices)) (sym (pointer_same addr)) in
      let has' = subst (λ i. Has s.made place (front ++ (i ∷ []))) same has in
      let size : place + length front ≡ q = ap (λ n. place + n) (word_length c env place addr part) in
      let has_q = subst (λ n. Has s.made n (y ∷ [])) size (has_back s.made place front (y ∷ []) has') in
      let later : low ≤ q = omega (arith, behind) in
      let g = word_gives s low ahead int env place t addr part behind ready used known (has_front s.made place front (y ∷ []) has') in
      let x = step s low ahead q (place + (word_size c env addr part + 1)) 65 type (target_id c t ∷ indices) 0 65535 0 [] (omega arith) chain_shape refl (chain_rules q w t addr part ready pointer later g.value) has_q in
      let is = definition_is insts ahead.once q (result c q) y has_q.0 (made 65 type (result c q) (target_id c t ∷ indices) 0 65535 0 chain_shape) in
      record {
        gives = subst (λ i. Gives s place (place + chain_size c env addr part) (front ++ (i ∷ [])) (result c q) type) (sym same) (record { kept = kept_behind insts place q front (y ∷ []) size g.kept (x.kept, tt); value = x.value; block = g.block ∙ x.block });
        safe = λ can. chain_writable s low ahead t (result c q) type indices is (target_used s t addr part ready) can;
      }
