-- How much the code of a block takes up to its branch. What it leaves for the phis of the next blocks is told by their entries.
use Rattle.std.proofs.Common.{◌≡◌, ℕ, zero, suc, ◌+◌, ◌-◌, ◌≤◌, Bool, true, false, List, [], ◌∷◌, length, Option, Some, None, refl, sym, ap, ◌∙◌, subst, arith, inl, inr}
use Rattle.std.specs.Prelude.{◌⊎◌, slice_get, nat_eq, if◌then◌else◌}
use Rattle.dxil_form.specs.declared.value.Ty.{Ty}
use Rattle.dxil_form.specs.declared.value.Operand.{Operand}
use Rattle.dxil_form.specs.declared.instr.Instr.{Instr}
use Rattle.dxil_form.specs.declared.block.Entry.{Entry}
use Rattle.dxil_form.specs.declared.block.Phi.{Phi}
use Rattle.dxil_form.specs.declared.block.Block.{Block}
use Rattle.dxil_form.specs.declared.program.Program.{Program}
use Rattle.dxil_form.specs.Branches.{targets}
use Rattle.dxil_form.specs.Registers.{set_by}
use Rattle.spv_form.specs.declared.module.Inst.{Inst}
use Rattle.spirv_code.specs.declared.key.Global.{Global}
use Rattle.spirv_code.specs.Plans.{Context, inst, coming, variable}
use Rattle.spirv_code.specs.Reads.{Env, no_register, read_size, read_code, read_id}
use Rattle.spirv_code.specs.Lines.{line_code, line_env, lines_code}
use Rattle.spirv_code.specs.Leaves.{phi_code, group_code, group_env, entry_operand, leave_code, edge_code, edges_code, phis_of, next_blocks, block_env, inner_code, block_code}
use Rattle.spirv_code.specs.Needed.{operand_keys, line_keys, lines_keys, entries_keys, phi_keys, phis_keys}
use Rattle.frame_facts.proofs.Searches.{get_below}
use Rattle.line_runs.proofs.Tests.{nat_eq-refl}
use Rattle.plan_ready.proofs.Among.{Among}
use Rattle.module_sizes.specs.Sizes.{Measure, amount, size}
use Rattle.module_sizes.proofs.Totals.{total, total_within, times, places, among_places, total_places, Apart}
use Rattle.module_sizes.proofs.Apart.{numbers_tell, different_apart}
use Rattle.module_sizes.proofs.Common.{AreSmall}
use Rattle.module_sizes.proofs.Reading.{size_append, room, keys, keys_append, sort_named, read_fits}
use Rattle.module_sizes.proofs.Lines.{line_most, variable_most, LineSmall, line_fits}

-- ---- what a block takes

abbrev pub phi_most : Measure → ℕ
phi_most m = amount m 3 + amount m 2

abbrev pub set_most : Measure → Instr → ℕ
set_most m line = total (variable_most m) (set_by line)

-- the code and the keys of a line
abbrev pub line_room : Measure → Instr → ℕ
line_room m line = line_most m - set_most m line

abbrev pub inner_most : Measure → Block → ℕ
inner_most m block = times (length block.phis) (phi_most m) + total (line_room m) block.instrs

-- the variables of a block's registers: two for each phi
abbrev pub kept_most : Measure → Block → ℕ
kept_most m block = times (length block.phis) (amount m 4 + amount m 4) + total (set_most m) block.instrs

-- ---- what is left for a phi by block b

abbrev pub leave_most : Measure → Operand → ℕ
leave_most m a = amount m 2 + room m a

abbrev pub share : Measure → ℕ → Entry → ℕ
share m b e = if nat_eq e.from b then leave_most m e.value else 0

abbrev pub shares : Measure → ℕ → List Phi → ℕ
shares m b phis = total (λ phi. total (share m b) phi.entries) phis

abbrev pub given : Measure → List Block → ℕ → ℕ
given m blocks b = total (λ block. shares m b block.phis) blocks

-- each of the phis has an entry of block b
abbrev pub HaveEntries : ℕ → List Phi → Type 0
HaveEntries b phis = (phi : Phi) → Among phi phis → (k : ℕ) × (e : Entry) × (slice_get phi.entries k ≡ Some e) × (e.from ≡ b)

first_share : (m : Measure) (b : ℕ) (t : Ty) (entries : List Entry) (k : ℕ) (e : Entry) → slice_get entries k ≡ Some e → e.from ≡ b → leave_most m (entry_operand b t entries) ≤ total (share m b) entries
first_share m b t [] k e at is = absurd (cc)
first_share m b t (x ∷ entries) k e at is = by_test (λ j at. first_share m b t entries j e at is) (nat_eq x.from b) refl k at
  where
    by_test : ((j : ℕ) → slice_get entries j ≡ Some e → leave_most m (entry_operand b t entries) ≤ total (share m b) entries) → (q : Bool) → nat_eq x.from b ≡ q → (k : ℕ) → slice_get (x ∷ entries) k ≡ Some e → leave_most m (if q then x.value else entry_operand b t entries) ≤ (if q then leave_most m x.value else 0) + total (share m b) entries
    by_test rest true f k at = omega arith
    by_test rest false f (suc k) at =
        let ih = rest k at in
        omega (arith, ih)
    by_test rest false f zero at =
        let same : nat_eq x.from b ≡ true = subst (λ n. nat_eq n b ≡ true) (sym (ap (λ o. from_of o) at ∙ is)) (nat_eq-refl b) in
        absurd (let clash : true ≡ false = sym same ∙ f in cc)
      where
        from_of : Option Entry → ℕ
        from_of None = 0
        from_of (Some y) = y.from

module _ (m : Measure) (c : Context) where
  edge_fits : (env : Env) (place b : ℕ) (phis : List Phi) → HaveEntries b phis → size m (edge_code c env place b phis) ≤ shares m b phis
  edge_fits env place b [] have = omega arith
  edge_fits env place b (phi ∷ phis) have =
      let a : Operand = entry_operand b phi.ty phi.entries in
      let n : ℕ = read_size c env a in
      let here = have phi (inl refl) in
      let both = size_append m (leave_code c env place phi a) (edge_code c env (place + (n + 1)) b phis) in
      let one = size_append m (read_code c env place a) (inst 62 (variable c (coming phi.to phi.ty) ∷ read_id c env place a ∷ []) ∷ []) in
      let read = read_fits m c env place a in
      let first = first_share m b phi.ty phi.entries here.0 here.1 here.2 here.3 in
      let rest = edge_fits env (place + (n + 1)) b phis (λ x among. have x (inr among)) in
      omega (arith, both, one, read, first, rest)

  edges_fit : (env : Env) (place b : ℕ) (ks : List ℕ) → ((k : ℕ) → Among k ks → HaveEntries b (phis_of (slice_get c.blocks k))) → size m (edges_code c env place b ks) ≤ total (λ k. shares m b (phis_of (slice_get c.blocks k))) ks
  edges_fit env place b [] have = omega arith
  edges_fit env place b (k ∷ ks) have =
      let code : List Inst = edge_code c env place b (phis_of (slice_get c.blocks k)) in
      let both = size_append m code (edges_code c env (place + length code) b ks) in
      let one = edge_fits env place b (phis_of (slice_get c.blocks k)) (have k (inl refl)) in
      let rest = edges_fit env (place + length code) b ks (λ x among. have x (inr among)) in
      omega (arith, both, one, rest)

  -- the next blocks are different, so no phi is counted twice
  pub edges_given : (env : Env) (place b : ℕ) (ks : List ℕ) → Apart ks → ((k : ℕ) → Among k ks → HaveEntries b (phis_of (slice_get c.blocks k))) → size m (edges_code c env place b ks) ≤ given m c.blocks b
  edges_given env place b ks apart have =
      let f : ℕ → ℕ = λ k. shares m b (phis_of (slice_get c.blocks k)) in
      let code = edges_fit env place b ks have in
      let within = total_within nat_eq numbers_tell (places 0 c.blocks) ks f apart (λ k among. there k) in
      let all = total_places f (λ block. shares m b block.phis) 0 c.blocks (λ j x e. at j x e) in
      omega (arith, code, within, all)
    where
      there : (k : ℕ) → (shares m b (phis_of (slice_get c.blocks k)) ≡ 0) ⊎ Among k (places 0 c.blocks)
      there k = by_block (slice_get c.blocks k) refl
        where
          by_block : (o : Option Block) → slice_get c.blocks k ≡ o → (shares m b (phis_of o) ≡ 0) ⊎ Among k (places 0 c.blocks)
          by_block None e = inl refl
          by_block (Some block) e =
              let same : 0 + k ≡ k = omega arith in
              inr (subst (λ n. Among n (places 0 c.blocks)) same (among_places 0 k c.blocks (get_below c.blocks k block e)))

      at : (j : ℕ) (x : Block) → slice_get c.blocks j ≡ Some x → shares m b (phis_of (slice_get c.blocks (0 + j))) ≤ shares m b x.phis
      at j x e =
          let same : 0 + j ≡ j = omega arith in
          let value : shares m b (phis_of (slice_get c.blocks (0 + j))) ≡ shares m b x.phis = ap (λ n. shares m b (phis_of (slice_get c.blocks n))) same ∙ ap (λ o. shares m b (phis_of o)) e in
          omega (arith, value)

  group_fits : (place : ℕ) (phis : List Phi) → size m (group_code c place phis) ≤ times (length phis) (phi_most m)
  group_fits place [] = omega arith
  group_fits place (phi ∷ phis) =
      let both = size_append m (phi_code c place phi) (group_code c (place + 2) phis) in
      let rest = group_fits (place + 2) phis in
      omega (arith, both, rest)

module _ (p : Program) (m : Measure) (small : AreSmall p) (c : Context) where
  abbrev named_by : List Global → ℕ
  named_by gs = keys p m small gs

  lines_fit : (env : Env) (place : ℕ) (lines : List Instr) → ((line : Instr) → Among line lines → LineSmall p line) → size m (lines_code c env place lines) + named_by (lines_keys p lines) ≤ total (line_room m) lines
  lines_fit env place [] h = omega arith
  lines_fit env place (line ∷ lines) h =
      let code : List Inst = line_code c env place line in
      let both = size_append m code (lines_code c (line_env c env place line) (place + length code) lines) in
      let split = keys_append p m small (line_keys p line) (lines_keys p lines) in
      let one = line_fits p m small c env place line (h line (inl refl)) in
      let rest = lines_fit (line_env c env place line) (place + length code) lines (λ x among. h x (inr among)) in
      omega (arith, both, split, one, rest)

  -- what the entries of phis name
  abbrev pub entries_named : List Phi → ℕ
  entries_named phis = total (λ phi. total (λ e. named_by (operand_keys e.value)) phi.entries) phis

  entries_split : (entries : List Entry) → named_by (entries_keys entries) ≡ total (λ e. named_by (operand_keys e.value)) entries
  entries_split [] = refl
  entries_split (e ∷ entries) =
      keys_append p m small (operand_keys e.value) (entries_keys entries) ∙ ap (λ n. named_by (operand_keys e.value) + n) (entries_split entries)

  phis_split : (phis : List Phi) → named_by (phis_keys phis) ≡ entries_named phis
  phis_split [] = refl
  phis_split (phi ∷ phis) =
      let both = keys_append p m small (phi_keys phi) (phis_keys phis) in
      let sort = sort_named p m small phi.ty in
      let here = entries_split phi.entries in
      let rest = phis_split phis in
      let e : named_by (phis_keys (phi ∷ phis)) ≡ total (λ e. named_by (operand_keys e.value)) phi.entries + entries_named phis = omega (arith, both, sort, here, rest) in
      e

  -- the code of a block, and what its phis and lines name
  pub block_fits : (place b : ℕ) (block : Block) → ((line : Instr) → Among line block.instrs → LineSmall p line) → ((k : ℕ) → Among k (next_blocks block.term) → HaveEntries b (phis_of (slice_get c.blocks k))) → size m (block_code c place b block) + (named_by (phis_keys block.phis) + named_by (lines_keys p block.instrs)) ≤ inner_most m block + (given m c.blocks b + entries_named block.phis)
  block_fits place b block small_lines have =
      let front : List Inst = group_code c place block.phis in
      let lines : List Inst = lines_code c (group_env c no_register place block.phis) (place + length front) block.instrs in
      let code : List Inst = inner_code c place block in
      let edges : List Inst = edges_code c (block_env c place block) (place + length code) b (next_blocks block.term) in
      let both = size_append m code edges in
      let inner = size_append m front lines in
      let one = group_fits m c place block.phis in
      let two = lines_fit (group_env c no_register place block.phis) (place + length front) block.instrs small_lines in
      let three = edges_given m c (block_env c place block) (place + length code) b (next_blocks block.term) (different_apart (targets block.term)) have in
      let four = phis_split block.phis in
      omega (arith, both, inner, one, two, three, four)
