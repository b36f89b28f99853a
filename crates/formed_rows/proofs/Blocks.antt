-- A block up to its branch is formed.
use Rattle.std.proofs.Common.{◌≡◌, ℕ, ◌+◌, List, [], ◌∷◌, length, length-append, refl, arith}
use Rattle.std.specs.Prelude.{slice_get}
use Rattle.dxil_form.specs.declared.value.Operand.{Operand}
use Rattle.dxil_form.specs.declared.block.Phi.{Phi}
use Rattle.dxil_form.specs.declared.block.Block.{Block}
use Rattle.spirv_code.specs.Plans.{Context, inst, result, kept, coming, variable}
use Rattle.spirv_code.specs.Reads.{Env, no_register, with_id, read_size, read_code, read_id}
use Rattle.spirv_code.specs.Lines.{lines_code}
use Rattle.spirv_code.specs.Leaves.{phi_code, group_code, group_env, entry_operand, leave_code, edge_code, phis_of, edges_code, next_blocks, block_env, inner_code, block_code}
use Rattle.line_runs.proofs.Reading.{read_length}
use Rattle.line_runs.proofs.Tests.{none_some}
use Rattle.formed_lines.specs.Formed.{KeysBelow, SlotsBelow, Upto, KnownBelow}
use Rattle.formed_lines.proofs.Lists.{AreFormed, CodeOk, join, up, with_known, upto_front, upto_back}
use Rattle.formed_lines.proofs.Shapes.{load_formed, store_formed}
use Rattle.formed_lines.proofs.Operands.{read_formed, read_ok}
use Rattle.formed_lines.proofs.Whole.{lines_ok}
use Rattle.formed_rows.proofs.Pieces.{Forms, behind, IsThere}

-- both variables of each phi are there
abbrev pub PhisBelow : ℕ → Context → List Phi → Type 0
PhisBelow b c [] = Unit {0}
PhisBelow b c (phi ∷ phis) =
    IsThere b c (coming phi.to phi.ty) × IsThere b c (kept phi.to phi.ty) × PhisBelow b c phis

none_known : (b : ℕ) → KnownBelow b no_register
unfolding no_register
none_known b reg id e = absurd (none_some e)

leave_length : (c : Context) (env : Env) (place : ℕ) (phi : Phi) (a : Operand) → length (leave_code c env place phi a) ≡ read_size c env a + 1
leave_length c env place phi a =
    let long = length-append (read_code c env place a) (inst 62 (variable c (coming phi.to phi.ty) ∷ read_id c env place a ∷ []) ∷ []) in
    let read = read_length c env place a in
    omega (arith, long, read)

module _ (b : ℕ) (c : Context) (keys : KeysBelow b c) (slots : SlotsBelow b c) where
  group_ok : (phis : List Phi) (env : Env) (place : ℕ) → PhisBelow b c phis → KnownBelow b env → Upto b c (place + length (group_code c place phis)) → CodeOk b (group_code c place phis) (group_env c env place phis)
  group_ok [] env place h known upto = record { formed = tt; known = known }
  group_ok (phi ∷ phis) env place h known upto =
      let own = upto place (omega arith) in
      let rest = group_ok phis (with_id phi.to (result c place) env) (place + 2) h.2 (with_known b phi.to (result c place) env own known) (upto_back b c place 2 (phi_code c place phi) (group_code c (place + 2) phis) refl upto) in
      record { formed = (load_formed b _ _ _ (keys _) own h.0, (store_formed b _ _ h.1 own, rest.formed)); known = rest.known }

  leave_formed : (env : Env) (place : ℕ) (phi : Phi) (a : Operand) → KnownBelow b env → IsThere b c (coming phi.to phi.ty) → Upto b c (place + (read_size c env a + 1)) → AreFormed b (leave_code c env place phi a)
  leave_formed env place phi a known there upto =
      let before = up b c (place + read_size c env a) _ (omega arith) upto in
      join b (read_code c env place a) _ (read_formed b c keys slots env place a before) (store_formed b _ _ there (read_ok b c keys slots env place a known before), tt)

  edge_formed : (env : Env) (from : ℕ) (phis : List Phi) (place : ℕ) → KnownBelow b env → PhisBelow b c phis → Forms b c place (edge_code c env place from phis)
  edge_formed env from [] place known h upto = tt
  edge_formed env from (phi ∷ phis) place known h upto =
      let a : Operand = entry_operand from phi.ty phi.entries in
      let n : ℕ = read_size c env a + 1 in
      let front = leave_code c env place phi a in
      let back = edge_code c env (place + n) from phis in
      let size = leave_length c env place phi a in
      join b front back (leave_formed env place phi a known h.0 (upto_front b c place n front back size upto)) (edge_formed env from phis (place + n) known h.2 (upto_back b c place n front back size upto))

  module _ (all : (k : ℕ) → PhisBelow b c (phis_of (slice_get c.blocks k))) where
    edges_formed : (env : Env) (from : ℕ) (ks : List ℕ) (place : ℕ) → KnownBelow b env → Forms b c place (edges_code c env place from ks)
    edges_formed env from [] place known upto = tt
    edges_formed env from (k ∷ ks) place known upto =
        let front = edge_code c env place from (phis_of (slice_get c.blocks k)) in
        behind b c place front (edges_code c env (place + length front) from ks) (edge_formed env from (phis_of (slice_get c.blocks k)) place known (all k)) (edges_formed env from ks (place + length front) known) upto

    inner_ok : (place : ℕ) (block : Block) → PhisBelow b c block.phis → Upto b c (place + length (inner_code c place block)) → CodeOk b (inner_code c place block) (block_env c place block)
    inner_ok place block h upto =
        let group = group_code c place block.phis in
        let env : Env = group_env c no_register place block.phis in
        let lines = lines_code c env (place + length group) block.instrs in
        let first = group_ok block.phis no_register place h (none_known b) (upto_front b c place (length group) group lines refl upto) in
        let rest = lines_ok b c keys slots block.instrs env (place + length group) first.known (upto_back b c place (length group) group lines refl upto) in
        record { formed = join b group lines first.formed rest.formed; known = rest.known }

    pub block_ok : (place from : ℕ) (block : Block) → PhisBelow b c block.phis → Upto b c (place + length (block_code c place from block)) → CodeOk b (block_code c place from block) (block_env c place block)
    block_ok place from block h upto =
        let front = inner_code c place block in
        let back = edges_code c (block_env c place block) (place + length front) from (next_blocks block.term) in
        let inner = inner_ok place block h (upto_front b c place (length front) front back refl upto) in
        let edges = edges_formed (block_env c place block) from (next_blocks block.term) (place + length front) inner.known (upto_back b c place (length front) front back refl upto) in
        record { formed = join b front back inner.formed edges; known = inner.known }
