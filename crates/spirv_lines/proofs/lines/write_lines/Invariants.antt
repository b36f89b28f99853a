use Rattle.std.proofs.Common.{◌≡◌, ◌++◌, drop, length}
use Rattle.spirv_code.specs.Lines.{lines_code, lines_env}
use Rattle.spirv_table.specs.Known.{env_of}
use Rattle.spirv_emit.specs.Scenes.{context_in}
use Rattle.spirv_lines.proofs.lines.write_lines.Given as goal

abbrev pub invariant-loop-instr : goal.invariant-loop-instr
invariant-loop-instr l =
    (l.code ++ lines_code (context_in l.s) (env_of l.known) (length l.code) (drop l.instr-index l.instrs) ≡ l.initial.code ++ lines_code (context_in l.s) (env_of l.initial.known) (length l.initial.code) l.instrs)
    × (lines_env (context_in l.s) (env_of l.known) (length l.code) (drop l.instr-index l.instrs) ≡ lines_env (context_in l.s) (env_of l.initial.known) (length l.initial.code) l.instrs)
