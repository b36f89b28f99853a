use Rattle.std.proofs.Common.{◌≡◌, ◌++◌, drop, length}
use Rattle.spirv_code.specs.Exits.{setters_code}
use Rattle.spirv_emit.specs.Scenes.{context_in}
use Rattle.spirv_regions.proofs.choices.setters.Given as goal

abbrev pub invariant-loop-k : goal.invariant-loop-k
invariant-loop-k l =
    l.code ++ setters_code (context_in l.s) (length l.code) l.meet (drop l.k-index l.blocks) ≡ l.initial.code ++ setters_code (context_in l.s) (length l.initial.code) l.meet l.blocks
