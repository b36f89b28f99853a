use Rattle.std.proofs.Common.{◌≡◌, ◌++◌, drop, length}
use Rattle.spirv_code.specs.Leaves.{edges_code}
use Rattle.spirv_table.specs.Known.{env_of}
use Rattle.spirv_emit.specs.Scenes.{context_in}
use Rattle.spirv_lines.proofs.leaves.write_edges.Given as goal

abbrev pub invariant-loop-k : goal.invariant-loop-k
invariant-loop-k l =
    l.code ++ edges_code (context_in l.s) (env_of l.known) (length l.code) l.from (drop l.k-index l.targets) ≡ l.initial.code ++ edges_code (context_in l.s) (env_of l.known) (length l.initial.code) l.from l.targets
