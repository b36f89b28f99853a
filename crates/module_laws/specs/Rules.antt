-- The rules of a module that its instructions and its blocks keep.
use Rattle.dx_base.specs.First.{IsSound}
use Rattle.spv_form.specs.declared.module.Module.{Module}
use Rattle.flow_rules.specs.Rules as flow
use Rattle.flow_blocks.specs.Numbered.{blocks_of}
use Rattle.module_rules.specs.Rules.{Broken}

pub record KeepsRules (m : Module) : Type 0 where
  -- its instructions break none of the rules V1 to V15
  pub rules : IsSound (Broken m)
  -- and its blocks none of the structure rules S1 to S12
  pub structure : IsSound (flow.Broken (blocks_of m.insts))
