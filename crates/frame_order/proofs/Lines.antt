-- The code of a block up to its branch stays in its block, or goes on to the next blocks of range tests.
use Rattle.std.proofs.Common.{ℕ, ◌+◌, Bool, true, false, List, [], ◌∷◌, ◌++◌, length, refl}
use Rattle.std.specs.Prelude.{slice_get, if◌then◌else◌}
use Rattle.dxil_form.specs.declared.value.Ty.TheVariants as ty
use Rattle.dxil_form.specs.declared.value.Operand.{Operand}
use Rattle.dxil_form.specs.declared.instr.Addr.{Addr}
use Rattle.dxil_form.specs.declared.instr.Target.{Target}
use Rattle.dxil_form.specs.declared.instr.Instr.{Instr}
use Rattle.dxil_form.specs.declared.instr.Instr.TheVariants as instr
use Rattle.dxil_form.specs.declared.block.Phi.{Phi}
use Rattle.dxil_form.specs.declared.block.Block.{Block}
use Rattle.dxil_form.specs.Registers.{parts_of}
use Rattle.spv_form.specs.declared.module.Inst.{Inst}
use Rattle.spirv_code.specs.declared.event.Event.{Event}
use Rattle.spirv_code.specs.declared.event.Event.TheVariants as event
use Rattle.spirv_code.specs.Plans.{Context, result}
use Rattle.spirv_code.specs.Reads.{Env, no_register, read_size, read_code, read_id, two_size, two_code, three_size, three_code}
use Rattle.spirv_code.specs.Accesses.{chain_size, chain_code, chain_id, test_size, test_code, test_id, is_never, event_code, zeros_code, zeros_block, other_code, other_at, meet_at, guard_code, part_code, part_env}
use Rattle.spirv_code.specs.Lines.{load_event, store_event, swap_event, parts_code, line_code, line_env, lines_code}
use Rattle.spirv_code.specs.Leaves.{group_code, group_env, leave_code, edge_code, edges_code, entry_operand, phis_of, next_blocks, inner_code, block_code, block_env}
use Rattle.frame_order.proofs.Leads.{AreInside, inside_append, Leads, ends, inside, closes, opens, leads_append, inside_leads, inside_then, branch_few, fork_few}
use Rattle.frame_order.proofs.Inside.{read_inside, two_inside, three_inside, keep_inside, bin_inside, cmp_inside, one_inside, extreme_inside, chain_inside, test_inside, event_inside, zeros_inside, cast_inside, id_inside, barrier_inside}

module _ (c : Context) where
  -- ---- range tests

  -- the block for what is out of range, and none of a store
  zeros_leads : (label meet : ℕ) (xs : List Inst) → AreInside xs → Leads false (zeros_block label meet xs) false
  zeros_leads label meet xs h = opens (inside_then xs _ h (closes refl (branch_few (meet ∷ [])) ends))

  outside_leads : (label meet : ℕ) (e : Event) → Leads false (other_code c label meet e) false
  outside_leads label meet (event.Load to) = zeros_leads label meet _ (zeros_inside c (event.Load to))
  outside_leads label meet (event.Store value) = ends
  outside_leads label meet (event.Atomic to op value) = zeros_leads label meet _ (zeros_inside c (event.Atomic to op value))
  outside_leads label meet (event.Swap old same compare value) = zeros_leads label meet _ (zeros_inside c (event.Swap old same compare value))

  guard_leads : (env : Env) (place test : ℕ) (t : Target) (addr : Addr) (part : ℕ) (e : Event) → Leads true (guard_code c env place test t addr part e) true
  guard_leads env place test t addr part e =
      let p = place + 3 in
      let chain = chain_code c env p t addr part in
      let acting = event_code c env (p + chain_size c env addr part) (chain_id c env p addr part) t e in
      let outside = result c (place + other_at c env addr part e) in
      let meet = result c (place + meet_at c env addr part e) in
      inside refl (closes refl (fork_few _) (opens (inside_then chain _ (chain_inside c env p t addr part) (inside_then acting _ (event_inside c env (p + chain_size c env addr part) (chain_id c env p addr part) t e) (closes refl (branch_few _) (leads_append (other_code c outside meet e) _ (outside_leads outside meet e) (opens ends)))))))

  part_leads : (env : Env) (place : ℕ) (t : Target) (addr : Addr) (part : ℕ) (e : Event) → Leads true (part_code c env place t addr part e) true
  part_leads env place t addr part e = by_test (is_never addr part)
    where
      by_test : (b : Bool) → Leads true (if b then zeros_code c e else (test_code c env place t addr part ++ guard_code c no_register (place + test_size c env addr part) (test_id c env place addr part) t addr part e)) true
      by_test true = inside_leads (zeros_code c e) (zeros_inside c e)
      by_test false =
          let guard = guard_code c no_register (place + test_size c env addr part) (test_id c env place addr part) t addr part e in
          leads_append (test_code c env place t addr part) guard (inside_leads (test_code c env place t addr part) (test_inside c env place t addr part)) (guard_leads no_register (place + test_size c env addr part) (test_id c env place addr part) t addr part e)

  parts_leads : (env : Env) (place : ℕ) (t : Target) (addr : Addr) (event_of : ℕ → Event) (parts : List ℕ) → Leads true (parts_code c env place t addr event_of parts) true
  parts_leads env place t addr event_of [] = inside_leads [] tt
  parts_leads env place t addr event_of (part ∷ parts) =
      let first = part_code c env place t addr part (event_of part) in
      let next = part_env c env addr part (event_of part) in
      leads_append first (parts_code c next (place + length first) t addr event_of parts) (part_leads env place t addr part (event_of part)) (parts_leads next (place + length first) t addr event_of parts)

  -- ---- lines

  line_leads : (env : Env) (place : ℕ) (line : Instr) → Leads true (line_code c env place line) true
  line_leads env place (instr.Bin to op t a b) =
      inside_leads _ (inside_append (two_code c env place a b) _ (two_inside c env place a b) (bin_inside op t, keep_inside c to t (result c (place + two_size c env a b))))
  line_leads env place (instr.Cmp to op t a b) =
      inside_leads _ (inside_append (two_code c env place a b) _ (two_inside c env place a b) (cmp_inside op t, keep_inside c to ty.Bool (result c (place + two_size c env a b))))
  line_leads env place (instr.Cast to op a) =
      inside_leads _ (inside_append (read_code c env place a) _ (read_inside c env place a) (cast_inside c (place + read_size c env a) to op (read_id c env place a)))
  line_leads env place (instr.Select to t x a b) =
      inside_leads _ (inside_append (three_code c env place x a b) _ (three_inside c env place x a b) (refl, keep_inside c to t (result c (place + three_size c env x a b))))
  line_leads env place (instr.Copy to t a) =
      inside_leads _ (inside_append (read_code c env place a) _ (read_inside c env place a) (keep_inside c to t (read_id c env place a)))
  line_leads env place (instr.One to op a) =
      inside_leads _ (inside_append (read_code c env place a) _ (read_inside c env place a) (one_inside op, keep_inside c to ty.Int (result c (place + read_size c env a))))
  line_leads env place (instr.Two to op a b) =
      inside_leads _ (inside_append (two_code c env place a b) _ (two_inside c env place a b) (extreme_inside op, (refl, keep_inside c to ty.Int (result c (place + (two_size c env a b + 1))))))
  line_leads env place (instr.Mad to x a b) =
      inside_leads _ (inside_append (three_code c env place x a b) _ (three_inside c env place x a b) (refl, (refl, keep_inside c to ty.Int (result c (place + (three_size c env x a b + 1))))))
  line_leads env place (instr.Id to op part) = inside_leads _ (id_inside c place to op part)
  line_leads env place (instr.Size to buffer) =
      inside_leads (line_code c env place (instr.Size to buffer)) (refl, keep_inside c to ty.Int (result c place))
  line_leads env place (instr.Load to mask t addr) = parts_leads env place t addr (load_event to) (parts_of mask)
  line_leads env place (instr.Store mask t addr x y z w) = parts_leads env place t addr (store_event x y z w) (parts_of mask)
  line_leads env place (instr.Atomic to op t addr value) = part_leads env place t addr 0 (event.Atomic to op value)
  line_leads env place (instr.Swap to t addr compare value) = part_leads env place t addr 0 (swap_event to compare value)
  line_leads env place (instr.Barrier sync s uav shared) = inside_leads _ (barrier_inside c sync s uav shared)
  line_leads env place instr.Nothing = inside_leads [] tt

  lines_leads : (env : Env) (place : ℕ) (lines : List Instr) → Leads true (lines_code c env place lines) true
  lines_leads env place [] = inside_leads [] tt
  lines_leads env place (line ∷ lines) =
      let first = line_code c env place line in
      leads_append first (lines_code c (line_env c env place line) (place + length first) lines) (line_leads env place line) (lines_leads (line_env c env place line) (place + length first) lines)

  -- ---- a block

  group_inside : (place : ℕ) (phis : List Phi) → AreInside (group_code c place phis)
  group_inside place [] = tt
  group_inside place (phi ∷ phis) = (refl, (refl, group_inside (place + 2) phis))

  edge_inside : (env : Env) (place from : ℕ) (phis : List Phi) → AreInside (edge_code c env place from phis)
  edge_inside env place from [] = tt
  edge_inside env place from (phi ∷ phis) =
      let a : Operand = entry_operand from phi.ty phi.entries in
      inside_append (leave_code c env place phi a) _ (inside_append (read_code c env place a) _ (read_inside c env place a) (refl, tt)) (edge_inside env (place + (read_size c env a + 1)) from phis)

  edges_inside : (env : Env) (place from : ℕ) (ks : List ℕ) → AreInside (edges_code c env place from ks)
  edges_inside env place from [] = tt
  edges_inside env place from (k ∷ ks) =
      let phis : List Phi = phis_of (slice_get c.blocks k) in
      inside_append (edge_code c env place from phis) _ (edge_inside env place from phis) (edges_inside env (place + length (edge_code c env place from phis)) from ks)

  pub block_leads : (place from : ℕ) (block : Block) → Leads true (block_code c place from block) true
  block_leads place from block =
      let group = group_code c place block.phis in
      let env = group_env c no_register place block.phis in
      let lines = lines_code c env (place + length group) block.instrs in
      let inner = inner_code c place block in
      let edges = edges_code c (block_env c place block) (place + length inner) from (next_blocks block.term) in
      leads_append inner edges (leads_append group lines (inside_leads group (group_inside place block.phis)) (lines_leads env (place + length group) block.instrs)) (inside_leads edges (edges_inside (block_env c place block) (place + length inner) from (next_blocks block.term)))
