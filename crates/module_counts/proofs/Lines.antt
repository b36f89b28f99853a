-- The code of a block up to its branch has no OpLoopMerge and no OpSwitch.
use Rattle.std.proofs.Common.{◌≡◌, ℕ, ◌+◌, ◌<◌, Bool, true, false, not, ne_eqb, List, [], ◌∷◌, ◌++◌, length, refl, ap, ◌∙◌, arith}
use Rattle.std.specs.Prelude.{◌==◌, ◌&&◌, slice_get, if◌then◌else◌}
use Rattle.dxil_form.specs.declared.value.Ty.TheVariants as ty
use Rattle.dxil_form.specs.declared.value.Operand.{Operand}
use Rattle.dxil_form.specs.declared.instr.Addr.{Addr}
use Rattle.dxil_form.specs.declared.instr.Target.{Target}
use Rattle.dxil_form.specs.declared.instr.Instr.{Instr}
use Rattle.dxil_form.specs.declared.instr.Instr.TheVariants as instr
use Rattle.dxil_form.specs.declared.block.Phi.{Phi}
use Rattle.dxil_form.specs.declared.block.Block.{Block}
use Rattle.dxil_form.specs.Registers.{parts_of}
use Rattle.spv_form.specs.declared.module.Inst.{Inst}
use Rattle.spirv_code.specs.declared.event.Event.{Event}
use Rattle.spirv_code.specs.declared.event.Event.TheVariants as event
use Rattle.spirv_code.specs.Plans.{Context, result}
use Rattle.spirv_code.specs.Reads.{Env, no_register, read_size, read_code, read_id, two_size, two_code, three_size, three_code}
use Rattle.spirv_code.specs.Accesses.{chain_size, chain_code, chain_id, test_size, test_code, test_id, is_never, event_code, zeros_code, other_code, other_at, meet_at, guard_code, part_code, part_env}
use Rattle.spirv_code.specs.Lines.{load_event, store_event, swap_event, parts_code, line_code, line_env, lines_code}
use Rattle.spirv_code.specs.Leaves.{group_code, group_env, leave_code, edge_code, edges_code, entry_operand, phis_of, next_blocks, inner_code, block_code, block_env}
use Rattle.module_structure.proofs.Inner.{inner_append, read_low, two_low, three_low, keep_low, bin_low, cmp_low, one_low, extreme_low, chain_low, test_low, event_low, zeros_low, cast_low, id_low, barrier_low}
use Rattle.written_rows.specs.Code.{AreInner}

-- opcodes but those two
abbrev pub is_other : ℕ → Bool
is_other opcode = not (opcode == 246) && not (opcode == 251)

abbrev pub AreOthers : List Inst → Type 0
AreOthers [] = Unit {0}
AreOthers (x ∷ xs) = (is_other x.opcode ≡ true) × AreOthers xs

pub others_append : (xs ys : List Inst) → AreOthers xs → AreOthers ys → AreOthers (xs ++ ys)
others_append [] ys h k = k
others_append (x ∷ xs) ys h k = (h.0, others_append xs ys h.1 k)

low_other : (n : ℕ) → n < 246 → is_other n ≡ true
low_other n low =
    ap (λ b. not b && not (n == 251)) (ne_eqb n 246 (λ e. absurd (omega (arith, e, low)))) ∙ ap (λ b. not b) (ne_eqb n 251 (λ e. absurd (omega (arith, e, low))))

pub inner_others : (xs : List Inst) → AreInner xs → AreOthers xs
inner_others [] h = tt
inner_others (x ∷ xs) h = (low_other x.opcode h.0, inner_others xs h.1)

module _ (c : Context) where
  -- ---- range tests

  outside_others : (label meet : ℕ) (e : Event) → AreOthers (other_code c label meet e)
  outside_others label meet (event.Load to) =
      (refl, others_append (zeros_code c (event.Load to)) _ (inner_others (zeros_code c (event.Load to)) (zeros_low c (event.Load to))) (refl, tt))
  outside_others label meet (event.Store value) = tt
  outside_others label meet (event.Atomic to op value) =
      (refl, others_append (zeros_code c (event.Atomic to op value)) _ (inner_others (zeros_code c (event.Atomic to op value)) (zeros_low c (event.Atomic to op value))) (refl, tt))
  outside_others label meet (event.Swap old same compare value) =
      (refl, others_append (zeros_code c (event.Swap old same compare value)) _ (inner_others (zeros_code c (event.Swap old same compare value)) (zeros_low c (event.Swap old same compare value))) (refl, tt))

  guard_others : (env : Env) (place test : ℕ) (t : Target) (addr : Addr) (part : ℕ) (e : Event) → AreOthers (guard_code c env place test t addr part e)
  guard_others env place test t addr part e =
      let p = place + 3 in
      let chain = chain_code c env p t addr part in
      let acting = event_code c env (p + chain_size c env addr part) (chain_id c env p addr part) t e in
      let other = other_code c (result c (place + other_at c env addr part e)) (result c (place + meet_at c env addr part e)) e in
      (refl, (refl, (refl, others_append chain _ (inner_others chain (chain_low c env p t addr part)) (others_append acting _ (inner_others acting (event_low c env (p + chain_size c env addr part) (chain_id c env p addr part) t e)) (refl, others_append other _ (outside_others (result c (place + other_at c env addr part e)) (result c (place + meet_at c env addr part e)) e) (refl, tt))))))

  part_others : (env : Env) (place : ℕ) (t : Target) (addr : Addr) (part : ℕ) (e : Event) → AreOthers (part_code c env place t addr part e)
  part_others env place t addr part e = by_test (is_never addr part)
    where
      by_test : (b : Bool) → AreOthers (if b then zeros_code c e else (test_code c env place t addr part ++ guard_code c no_register (place + test_size c env addr part) (test_id c env place addr part) t addr part e))
      by_test true = inner_others (zeros_code c e) (zeros_low c e)
      by_test false =
          let guard = guard_code c no_register (place + test_size c env addr part) (test_id c env place addr part) t addr part e in
          others_append (test_code c env place t addr part) guard (inner_others (test_code c env place t addr part) (test_low c env place t addr part)) (guard_others no_register (place + test_size c env addr part) (test_id c env place addr part) t addr part e)

  parts_others : (env : Env) (place : ℕ) (t : Target) (addr : Addr) (event_of : ℕ → Event) (parts : List ℕ) → AreOthers (parts_code c env place t addr event_of parts)
  parts_others env place t addr event_of [] = inner_others [] tt
  parts_others env place t addr event_of (part ∷ parts) =
      let first = part_code c env place t addr part (event_of part) in
      let next = part_env c env addr part (event_of part) in
      others_append first (parts_code c next (place + length first) t addr event_of parts) (part_others env place t addr part (event_of part)) (parts_others next (place + length first) t addr event_of parts)

  -- ---- lines

  line_others : (env : Env) (place : ℕ) (line : Instr) → AreOthers (line_code c env place line)
  line_others env place (instr.Bin to op t a b) =
      inner_others _ (inner_append (two_code c env place a b) _ (two_low c env place a b) (bin_low op t, keep_low c to t (result c (place + two_size c env a b))))
  line_others env place (instr.Cmp to op t a b) =
      inner_others _ (inner_append (two_code c env place a b) _ (two_low c env place a b) (cmp_low op t, keep_low c to ty.Bool (result c (place + two_size c env a b))))
  line_others env place (instr.Cast to op a) =
      inner_others _ (inner_append (read_code c env place a) _ (read_low c env place a) (cast_low c (place + read_size c env a) to op (read_id c env place a)))
  line_others env place (instr.Select to t x a b) =
      inner_others _ (inner_append (three_code c env place x a b) _ (three_low c env place x a b) (omega arith, keep_low c to t (result c (place + three_size c env x a b))))
  line_others env place (instr.Copy to t a) =
      inner_others _ (inner_append (read_code c env place a) _ (read_low c env place a) (keep_low c to t (read_id c env place a)))
  line_others env place (instr.One to op a) =
      inner_others _ (inner_append (read_code c env place a) _ (read_low c env place a) (one_low op, keep_low c to ty.Int (result c (place + read_size c env a))))
  line_others env place (instr.Two to op a b) =
      inner_others _ (inner_append (two_code c env place a b) _ (two_low c env place a b) (extreme_low op, (omega arith, keep_low c to ty.Int (result c (place + (two_size c env a b + 1))))))
  line_others env place (instr.Mad to x a b) =
      inner_others _ (inner_append (three_code c env place x a b) _ (three_low c env place x a b) (omega arith, (omega arith, keep_low c to ty.Int (result c (place + (three_size c env x a b + 1))))))
  line_others env place (instr.Id to op part) = inner_others _ (id_low c place to op part)
  line_others env place (instr.Size to buffer) =
      inner_others (line_code c env place (instr.Size to buffer)) (omega arith, keep_low c to ty.Int (result c place))
  line_others env place (instr.Load to mask t addr) = parts_others env place t addr (load_event to) (parts_of mask)
  line_others env place (instr.Store mask t addr x y z w) = parts_others env place t addr (store_event x y z w) (parts_of mask)
  line_others env place (instr.Atomic to op t addr value) = part_others env place t addr 0 (event.Atomic to op value)
  line_others env place (instr.Swap to t addr compare value) = part_others env place t addr 0 (swap_event to compare value)
  line_others env place (instr.Barrier sync s uav shared) = inner_others _ (barrier_low c sync s uav shared)
  line_others env place instr.Nothing = inner_others [] tt

  lines_others : (env : Env) (place : ℕ) (lines : List Instr) → AreOthers (lines_code c env place lines)
  lines_others env place [] = inner_others [] tt
  lines_others env place (line ∷ lines) =
      let first = line_code c env place line in
      others_append first (lines_code c (line_env c env place line) (place + length first) lines) (line_others env place line) (lines_others (line_env c env place line) (place + length first) lines)

  -- ---- a block

  group_low : (place : ℕ) (phis : List Phi) → AreInner (group_code c place phis)
  group_low place [] = tt
  group_low place (phi ∷ phis) = (omega arith, (omega arith, group_low (place + 2) phis))

  edge_low : (env : Env) (place from : ℕ) (phis : List Phi) → AreInner (edge_code c env place from phis)
  edge_low env place from [] = tt
  edge_low env place from (phi ∷ phis) =
      let a : Operand = entry_operand from phi.ty phi.entries in
      inner_append (leave_code c env place phi a) _ (inner_append (read_code c env place a) _ (read_low c env place a) (omega arith, tt)) (edge_low env (place + (read_size c env a + 1)) from phis)

  edges_low : (env : Env) (place from : ℕ) (ks : List ℕ) → AreInner (edges_code c env place from ks)
  edges_low env place from [] = tt
  edges_low env place from (k ∷ ks) =
      let phis : List Phi = phis_of (slice_get c.blocks k) in
      inner_append (edge_code c env place from phis) _ (edge_low env place from phis) (edges_low env (place + length (edge_code c env place from phis)) from ks)

  pub block_others : (place from : ℕ) (block : Block) → AreOthers (block_code c place from block)
  block_others place from block =
      let group = group_code c place block.phis in
      let env = group_env c no_register place block.phis in
      let lines = lines_code c env (place + length group) block.instrs in
      let inner = inner_code c place block in
      let edges = edges_code c (block_env c place block) (place + length inner) from (next_blocks block.term) in
      others_append inner edges (others_append group lines (inner_others group (group_low place block.phis)) (lines_others env (place + length group) block.instrs)) (inner_others edges (edges_low (block_env c place block) (place + length inner) from (next_blocks block.term)))
