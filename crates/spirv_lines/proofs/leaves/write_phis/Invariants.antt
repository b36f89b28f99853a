use Rattle.std.proofs.Common.{◌≡◌, ◌++◌, drop, length}
use Rattle.spirv_code.specs.Leaves.{group_code, group_env}
use Rattle.spirv_table.specs.Known.{env_of}
use Rattle.spirv_emit.specs.Scenes.{context_in}
use Rattle.spirv_lines.proofs.leaves.write_phis.Given as goal

abbrev pub invariant-loop-each : goal.invariant-loop-each
invariant-loop-each l =
    (l.code ++ group_code (context_in l.s) (length l.code) (drop l.each-index l.phis) ≡ l.initial.code ++ group_code (context_in l.s) (length l.initial.code) l.phis)
    × (group_env (context_in l.s) (env_of l.known) (length l.code) (drop l.each-index l.phis) ≡ group_env (context_in l.s) (env_of l.initial.known) (length l.initial.code) l.phis)
