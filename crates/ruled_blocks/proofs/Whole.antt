-- The code of a block keeps the rules.
use Rattle.std.proofs.Common.{ℕ, ◌+◌, List, length, arith}
use Rattle.spv_form.specs.declared.module.Inst.{Inst}
use Rattle.spirv_code.specs.Plans.{Context}
use Rattle.spirv_code.specs.Reads.{Env, no_register}
use Rattle.spirv_code.specs.Lines.{lines_code}
use Rattle.spirv_code.specs.Leaves.{group_code, group_env, inner_code, edges_code, next_blocks, block_env}
use Rattle.line_runs.proofs.Pieces.{has_front, has_back}
use Rattle.ruled_lines.proofs.Events.{none_known}
use Rattle.ruled_lines.proofs.Whole.{lines_keep_rules}
use Rattle.ruled_lines.proofs.Zeros.{goes_on}
use Rattle.ruled_blocks.specs.Laws.{BlocksKeepRules}
use Rattle.ruled_blocks.proofs.Phis.{group_goes}
use Rattle.ruled_blocks.proofs.Edges.{edges_go}

pub blocks_keep_rules : BlocksKeepRules
blocks_keep_rules s low ahead b block place behind used fits ready has =
    let c : Context = s.context in
    let group : List Inst = group_code c place block.phis in
    let first : Env = group_env c no_register place block.phis in
    let p : ℕ = place + length group in
    let lines : List Inst = lines_code c first p block.instrs in
    let inner : List Inst = inner_code c place block in
    let env : Env = block_env c place block in
    let q : ℕ = place + length inner in
    let edges : List Inst = edges_code c env q b (next_blocks block.term) in
    let inside = has_front s.made place inner edges has in
    let g = group_goes s low ahead block.phis no_register place behind ready.phis (none_known s place) (has_front s.made place group lines inside) in
    let l = lines_keep_rules s low ahead block.instrs first p (omega (arith, behind)) used fits ready.lines (has_back s.made place group lines inside) g.known in
    let front = goes_on s place group lines env g.kept (record { kept = l.0; known = l.1 }) in
    let all = goes_on s place inner edges env front.kept (edges_go s low ahead env (next_blocks block.term) q b (omega (arith, behind)) ready.nexts front.known (has_back s.made place inner edges has)) in
    (all.kept, all.known)
