-- The structure rules that a module breaks.
use Rattle.std.specs.Prelude.{ℕ}
use Rattle.spv_form.specs.declared.module.Module.{Module}
use Rattle.flow_rules.specs.Rules.{Broken as BrokenFlow}
use Rattle.flow_blocks.specs.Numbered.{blocks_of}

-- A structure rule is broken at a word of the module.
abbrev pub Broken : Module → ℕ → ℕ → Type 0
Broken m rule word = BrokenFlow (blocks_of m.insts) rule word
