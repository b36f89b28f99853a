-- The code of a block up to its branch: lines, and the range tests among them.
use Rattle.std.proofs.Common.{◌≡◌, ℕ, suc, ◌+◌, Bool, true, false, List, [], ◌∷◌, ◌++◌, length, append_assoc, refl, sym, ap, ◌∙◌, subst, arith}
use Rattle.std.specs.Prelude.{slice_get, if◌then◌else◌}
use Rattle.dxil_form.specs.declared.value.Ty.TheVariants as ty
use Rattle.dxil_form.specs.declared.value.Operand.{Operand}
use Rattle.dxil_form.specs.declared.instr.Addr.{Addr}
use Rattle.dxil_form.specs.declared.instr.Target.{Target}
use Rattle.dxil_form.specs.declared.instr.Instr.{Instr}
use Rattle.dxil_form.specs.declared.instr.Instr.TheVariants as instr
use Rattle.dxil_form.specs.declared.block.Phi.{Phi}
use Rattle.dxil_form.specs.declared.block.Block.{Block}
use Rattle.dxil_form.specs.Registers.{parts_of}
use Rattle.spv_form.specs.declared.module.Inst.{Inst}
use Rattle.spirv_code.specs.declared.event.Event.{Event}
use Rattle.spirv_code.specs.declared.event.Event.TheVariants as event
use Rattle.spirv_code.specs.Plans.{Context, result}
use Rattle.spirv_code.specs.Reads.{Env, no_register, read_size, read_code, read_id, two_size, two_code, three_size, three_code}
use Rattle.spirv_code.specs.Accesses.{chain_size, chain_code, chain_id, test_size, test_code, test_id, is_never, event_code, zeros_code, other_code, other_at, meet_at, guarded_code, guard_code, part_code, part_env}
use Rattle.spirv_code.specs.Lines.{load_event, store_event, swap_event, parts_code, line_code, line_env, lines_code}
use Rattle.spirv_code.specs.Leaves.{group_code, group_env, leave_code, edge_code, edges_code, entry_operand, phis_of, next_blocks, inner_code, block_code, block_env}
use Rattle.written_rows.specs.Code.{label_inst, branch_inst, selection_inst, fork_inst, AreInner}
use Rattle.module_structure.proofs.Inner.{inner_append, read_low, two_low, three_low, keep_low, bin_low, cmp_low, one_low, extreme_low, chain_low, test_low, event_low, zeros_low, cast_low, id_low, barrier_low}
use Rattle.module_structure.proofs.Tails.{Tail, inner_tail, tail_then, row_of, one_way, two_ways}

module _ (c : Context) (d : ℕ) where
  -- ---- range tests

  -- behind the label of the access
  two_tail : (env : Env) (place test : ℕ) (t : Target) (addr : Addr) (part : ℕ) (e : Event) (there outside meet : ℕ) (zeros : List Inst) → AreInner zeros → other_code c outside meet e ≡ label_inst outside ∷ (zeros ++ (branch_inst meet ∷ [])) → Tail (suc d) (selection_inst meet ∷ fork_inst test there outside ∷ label_inst there ∷ guarded_code c env place t addr part e outside meet)
  two_tail env place test t addr part e there outside meet zeros low is =
      let chain = chain_code c env place t addr part in
      let acting = event_code c env (place + chain_size c env addr part) (chain_id c env place addr part) t e in
      let rest : List Inst = branch_inst meet ∷ label_inst outside ∷ ((zeros ++ (branch_inst meet ∷ [])) ++ (label_inst meet ∷ [])) in
      let whole : (chain ++ acting) ++ rest ≡ chain ++ (acting ++ (branch_inst meet ∷ (other_code c outside meet e ++ (label_inst meet ∷ [])))) = append_assoc chain acting rest ∙ ap (λ os. chain ++ (acting ++ (branch_inst meet ∷ (os ++ (label_inst meet ∷ []))))) (sym is) in
      subst (λ is. Tail (suc d) (selection_inst meet ∷ fork_inst test there outside ∷ label_inst there ∷ is)) whole (two_ways d meet test there outside (chain ++ acting) zeros (inner_append chain acting (chain_low c env place t addr part) (event_low c env (place + chain_size c env addr part) (chain_id c env place addr part) t e)) low)

  one_tail : (env : Env) (place test : ℕ) (t : Target) (addr : Addr) (part : ℕ) (value : Operand) (there outside meet : ℕ) → outside ≡ meet → Tail (suc d) (selection_inst meet ∷ fork_inst test there outside ∷ label_inst there ∷ guarded_code c env place t addr part (event.Store value) outside meet)
  one_tail env place test t addr part value there outside meet same =
      let e : Event = event.Store value in
      let chain = chain_code c env place t addr part in
      let acting = event_code c env (place + chain_size c env addr part) (chain_id c env place addr part) t e in
      let rest : List Inst = branch_inst meet ∷ label_inst meet ∷ [] in
      subst (λ is. Tail (suc d) (selection_inst meet ∷ fork_inst test there outside ∷ label_inst there ∷ is)) (append_assoc chain acting rest) (one_way d false meet test there outside (chain ++ acting) same (row_of d there (chain ++ acting) (inner_tail d (chain ++ acting) (inner_append chain acting (chain_low c env place t addr part) (event_low c env (place + chain_size c env addr part) (chain_id c env place addr part) t e)))))

  guard_tail : (env : Env) (place test : ℕ) (t : Target) (addr : Addr) (part : ℕ) (e : Event) → Tail (suc d) (guard_code c env place test t addr part e)
  guard_tail env place test t addr part (event.Load to) =
      let e : Event = event.Load to in
      two_tail env (place + 3) test t addr part e (result c (place + 2)) (result c (place + other_at c env addr part e)) (result c (place + meet_at c env addr part e)) (zeros_code c e) (zeros_low c e) refl
  guard_tail env place test t addr part (event.Store value) =
      let e : Event = event.Store value in
      one_tail env (place + 3) test t addr part value (result c (place + 2)) (result c (place + other_at c env addr part e)) (result c (place + meet_at c env addr part e)) (omega arith)
  guard_tail env place test t addr part (event.Atomic to op value) =
      let e : Event = event.Atomic to op value in
      two_tail env (place + 3) test t addr part e (result c (place + 2)) (result c (place + other_at c env addr part e)) (result c (place + meet_at c env addr part e)) (zeros_code c e) (zeros_low c e) refl
  guard_tail env place test t addr part (event.Swap old same compare value) =
      let e : Event = event.Swap old same compare value in
      two_tail env (place + 3) test t addr part e (result c (place + 2)) (result c (place + other_at c env addr part e)) (result c (place + meet_at c env addr part e)) (zeros_code c e) (zeros_low c e) refl

  part_tail : (env : Env) (place : ℕ) (t : Target) (addr : Addr) (part : ℕ) (e : Event) → Tail (suc d) (part_code c env place t addr part e)
  part_tail env place t addr part e = by_test (is_never addr part)
    where
      by_test : (b : Bool) → Tail (suc d) (if b then zeros_code c e else (test_code c env place t addr part ++ guard_code c no_register (place + test_size c env addr part) (test_id c env place addr part) t addr part e))
      by_test true = inner_tail (suc d) (zeros_code c e) (zeros_low c e)
      by_test false =
          let guard = guard_code c no_register (place + test_size c env addr part) (test_id c env place addr part) t addr part e in
          tail_then (suc d) (test_code c env place t addr part) guard (inner_tail (suc d) (test_code c env place t addr part) (test_low c env place t addr part)) (guard_tail no_register (place + test_size c env addr part) (test_id c env place addr part) t addr part e)

  parts_tail : (env : Env) (place : ℕ) (t : Target) (addr : Addr) (event_of : ℕ → Event) (parts : List ℕ) → Tail (suc d) (parts_code c env place t addr event_of parts)
  parts_tail env place t addr event_of [] = inner_tail (suc d) [] tt
  parts_tail env place t addr event_of (part ∷ parts) =
      let first = part_code c env place t addr part (event_of part) in
      let next = part_env c env addr part (event_of part) in
      tail_then (suc d) first (parts_code c next (place + length first) t addr event_of parts) (part_tail env place t addr part (event_of part)) (parts_tail next (place + length first) t addr event_of parts)

  -- ---- lines

  line_tail : (env : Env) (place : ℕ) (line : Instr) → Tail (suc d) (line_code c env place line)
  line_tail env place (instr.Bin to op t a b) =
      inner_tail (suc d) _ (inner_append (two_code c env place a b) _ (two_low c env place a b) (bin_low op t, keep_low c to t (result c (place + two_size c env a b))))
  line_tail env place (instr.Cmp to op t a b) =
      inner_tail (suc d) _ (inner_append (two_code c env place a b) _ (two_low c env place a b) (cmp_low op t, keep_low c to ty.Bool (result c (place + two_size c env a b))))
  line_tail env place (instr.Cast to op a) =
      inner_tail (suc d) _ (inner_append (read_code c env place a) _ (read_low c env place a) (cast_low c (place + read_size c env a) to op (read_id c env place a)))
  line_tail env place (instr.Select to t x a b) =
      inner_tail (suc d) _ (inner_append (three_code c env place x a b) _ (three_low c env place x a b) (omega arith, keep_low c to t (result c (place + three_size c env x a b))))
  line_tail env place (instr.Copy to t a) =
      inner_tail (suc d) _ (inner_append (read_code c env place a) _ (read_low c env place a) (keep_low c to t (read_id c env place a)))
  line_tail env place (instr.One to op a) =
      inner_tail (suc d) _ (inner_append (read_code c env place a) _ (read_low c env place a) (one_low op, keep_low c to ty.Int (result c (place + read_size c env a))))
  line_tail env place (instr.Two to op a b) =
      inner_tail (suc d) _ (inner_append (two_code c env place a b) _ (two_low c env place a b) (extreme_low op, (omega arith, keep_low c to ty.Int (result c (place + (two_size c env a b + 1))))))
  line_tail env place (instr.Mad to x a b) =
      inner_tail (suc d) _ (inner_append (three_code c env place x a b) _ (three_low c env place x a b) (omega arith, (omega arith, keep_low c to ty.Int (result c (place + (three_size c env x a b + 1))))))
  line_tail env place (instr.Id to op part) = inner_tail (suc d) _ (id_low c place to op part)
  line_tail env place (instr.Size to buffer) =
      inner_tail (suc d) (line_code c env place (instr.Size to buffer)) (omega arith, keep_low c to ty.Int (result c place))
  line_tail env place (instr.Load to mask t addr) = parts_tail env place t addr (load_event to) (parts_of mask)
  line_tail env place (instr.Store mask t addr x y z w) = parts_tail env place t addr (store_event x y z w) (parts_of mask)
  line_tail env place (instr.Atomic to op t addr value) = part_tail env place t addr 0 (event.Atomic to op value)
  line_tail env place (instr.Swap to t addr compare value) = part_tail env place t addr 0 (swap_event to compare value)
  line_tail env place (instr.Barrier sync s uav shared) = inner_tail (suc d) _ (barrier_low c sync s uav shared)
  line_tail env place instr.Nothing = inner_tail (suc d) [] tt

  lines_tail : (env : Env) (place : ℕ) (lines : List Instr) → Tail (suc d) (lines_code c env place lines)
  lines_tail env place [] = inner_tail (suc d) [] tt
  lines_tail env place (line ∷ lines) =
      let first = line_code c env place line in
      tail_then (suc d) first (lines_code c (line_env c env place line) (place + length first) lines) (line_tail env place line) (lines_tail (line_env c env place line) (place + length first) lines)

  -- ---- a block

  group_low : (place : ℕ) (phis : List Phi) → AreInner (group_code c place phis)
  group_low place [] = tt
  group_low place (phi ∷ phis) = (omega arith, (omega arith, group_low (place + 2) phis))

  edge_low : (env : Env) (place from : ℕ) (phis : List Phi) → AreInner (edge_code c env place from phis)
  edge_low env place from [] = tt
  edge_low env place from (phi ∷ phis) =
      let a : Operand = entry_operand from phi.ty phi.entries in
      inner_append (leave_code c env place phi a) _ (inner_append (read_code c env place a) _ (read_low c env place a) (omega arith, tt)) (edge_low env (place + (read_size c env a + 1)) from phis)

  edges_low : (env : Env) (place from : ℕ) (ks : List ℕ) → AreInner (edges_code c env place from ks)
  edges_low env place from [] = tt
  edges_low env place from (k ∷ ks) =
      let phis : List Phi = phis_of (slice_get c.blocks k) in
      inner_append (edge_code c env place from phis) _ (edge_low env place from phis) (edges_low env (place + length (edge_code c env place from phis)) from ks)

  pub block_tail : (place from : ℕ) (block : Block) → Tail (suc d) (block_code c place from block)
  block_tail place from block =
      let group = group_code c place block.phis in
      let env = group_env c no_register place block.phis in
      let lines = lines_code c env (place + length group) block.instrs in
      let inner = inner_code c place block in
      let edges = edges_code c (block_env c place block) (place + length inner) from (next_blocks block.term) in
      tail_then (suc d) inner edges (tail_then (suc d) group lines (inner_tail (suc d) group (group_low place block.phis)) (lines_tail env (place + length group) block.instrs)) (inner_tail (suc d) edges (edges_low (block_env c place block) (place + length inner) from (next_blocks block.term)))
