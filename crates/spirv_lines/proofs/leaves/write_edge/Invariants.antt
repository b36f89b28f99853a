use Rattle.std.proofs.Common.{◌≡◌, ◌++◌, drop, length}
use Rattle.spirv_code.specs.Leaves.{edge_code}
use Rattle.spirv_table.specs.Known.{env_of}
use Rattle.spirv_emit.specs.Scenes.{context_in}
use Rattle.spirv_lines.proofs.leaves.write_edge.Given as goal

abbrev pub invariant-loop-n : goal.invariant-loop-n
invariant-loop-n l =
    l.code ++ edge_code (context_in l.s) (env_of l.known) (length l.code) l.from (drop l.n l.block.phis) ≡ l.initial.code ++ edge_code (context_in l.s) (env_of l.known) (length l.initial.code) l.from l.block.phis
