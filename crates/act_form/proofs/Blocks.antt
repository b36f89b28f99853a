-- What the code of a block does up to its branch: what its lines ask.
use Rattle.std.proofs.Common.{◌≡◌, ℕ, suc, ◌+◌, ◌≤◌, true, List, [], ◌∷◌, length, Some, refl, sym, ◌∙◌, subst, arith, inl, inr, append-nil}
use Rattle.std.specs.Prelude.{slice_get}
use Rattle.std.specs.List.{flat_map}
use Rattle.dxil_form.specs.declared.value.Operand.{Operand}
use Rattle.dxil_form.specs.declared.block.Phi.{Phi}
use Rattle.dxil_form.specs.declared.block.Block.{Block}
use Rattle.dxil_form.specs.Graphs.{In}
use Rattle.spv_form.specs.declared.module.Inst.{Inst}
use Rattle.spirv_code.specs.declared.key.Slot.{Slot}
use Rattle.spirv_code.specs.Plans.{inst, kept, coming, variable, id_or_0}
use Rattle.spirv_code.specs.Reads.{Env, no_register, read_size, read_code}
use Rattle.spirv_code.specs.Lines.{lines_code}
use Rattle.spirv_code.specs.Leaves.{group_code, group_env, entry_operand, leave_code, edge_code, phis_of, edges_code, next_blocks, block_env, inner_code, block_code}
use Rattle.line_runs.specs.Held.{Setting}
use Rattle.leaf_runs.specs.BlockReady.{HasVariable, PhiReady, BlockReady}
use Rattle.act_form.specs.Acts.{is_own, line_acts}
use Rattle.act_form.proofs.Pieces.{Knows, acts, joined, behind, on_load, on_store, read_none}
use Rattle.act_form.proofs.Lines.{lines_give}

module _ (s : Setting) (low : ℕ) (knows : Knows s low) where
  own_variable : (slot : Slot) → HasVariable s slot → is_own s.made (Some (variable s.context slot)) ≡ true
  own_variable slot h = subst (λ o. is_own s.made (Some (id_or_0 o)) ≡ true) (sym h.1) (knows.locals slot h.0 h.1)

  group_none : (phis : List Phi) (place : ℕ) → ((n : ℕ) (phi : Phi) → slice_get phis n ≡ Some phi → PhiReady s phi) → acts s (group_code s.context place phis) ≡ []
  group_none [] place h = refl
  group_none (phi ∷ phis) place h =
      let here = h 0 phi refl in
      let rest = group_code s.context (place + 2) phis in
      on_load s _ (inst 62 (variable s.context (kept phi.to phi.ty) ∷ 0 ∷ []) ∷ rest) (own_variable _ here.next) ∙ on_store s _ rest (own_variable _ here.own) ∙ group_none phis (place + 2) (λ n x e. h (suc n) x e)

  leave_none : (env : Env) (place : ℕ) (phi : Phi) (a : Operand) → HasVariable s (coming phi.to phi.ty) → acts s (leave_code s.context env place phi a) ≡ []
  leave_none env place phi a there =
      behind s (read_code s.context env place a) _ [] (read_none s low knows env place a) (on_store s _ [] (own_variable _ there))

  edge_none : (env : Env) (from : ℕ) (phis : List Phi) (place : ℕ) → ((n : ℕ) (phi : Phi) → slice_get phis n ≡ Some phi → HasVariable s (coming phi.to phi.ty)) → acts s (edge_code s.context env place from phis) ≡ []
  edge_none env from [] place h = refl
  edge_none env from (phi ∷ phis) place h =
      let a : Operand = entry_operand from phi.ty phi.entries in
      behind s (leave_code s.context env place phi a) _ [] (leave_none env place phi a (h 0 phi refl)) (edge_none env from phis (place + (read_size s.context env a + 1)) (λ n x e. h (suc n) x e))

  edges_none : (env : Env) (from : ℕ) (ks : List ℕ) (place : ℕ) → ((k n : ℕ) (phi : Phi) → In k ks → slice_get (phis_of (slice_get s.context.blocks k)) n ≡ Some phi → HasVariable s (coming phi.to phi.ty)) → acts s (edges_code s.context env place from ks) ≡ []
  edges_none env from [] place h = refl
  edges_none env from (k ∷ ks) place h =
      let phis = phis_of (slice_get s.context.blocks k) in
      let front = edge_code s.context env place from phis in
      behind s front (edges_code s.context env (place + length front) from ks) [] (edge_none env from phis place (λ n phi e. h k n phi (inl refl) e)) (edges_none env from ks (place + length front) (λ j n phi among e. h j n phi (inr among) e))

  pub block_gives : (b place : ℕ) (block : Block) → low ≤ place → BlockReady s b block place → acts s (block_code s.context place b block) ≡ flat_map line_acts block.instrs
  block_gives b place block there ready =
      joined s inner edges (flat_map line_acts block.instrs) [] (behind s group lines (flat_map line_acts block.instrs) (group_none block.phis place ready.phis) (lines_give s low knows block.instrs env (place + length group) (omega (arith, there)) ready.lines)) (edges_none known b (next_blocks block.term) (place + length inner) (λ k n phi among e. (ready.nexts k n phi among e).next)) ∙ append-nil (flat_map line_acts block.instrs)
    where
      env : Env
      env = group_env s.context no_register place block.phis

      known : Env
      known = block_env s.context place block

      group : List Inst
      group = group_code s.context place block.phis

      lines : List Inst
      lines = lines_code s.context env (place + length group) block.instrs

      inner : List Inst
      inner = inner_code s.context place block

      edges : List Inst
      edges = edges_code s.context known (place + length inner) b (next_blocks block.term)
