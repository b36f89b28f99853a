-- What a module owes a program, its regions and its plan, so that it does the same.
use Rattle.std.specs.Prelude.{◌≡◌, ℕ, ◌+◌, ◌<◌, false, List, Some, slice_get}
use Rattle.dxil_form.specs.declared.value.Ty.{Ty}
use Rattle.dxil_form.specs.declared.value.Ty.TheVariants as ty
use Rattle.dxil_form.specs.declared.program.Program.{Program}
use Rattle.dxil_form.specs.declared.region.Region.{Region}
use Rattle.dxil_form.specs.Sound.{Sound}
use Rattle.dxil_form.specs.Wired.{Wired}
use Rattle.spv_form.specs.declared.module.Module.{Module}
use Rattle.dxil_meaning.specs.Source.{Launch}
use Rattle.spirv_meaning.specs.Bindings.{Bindings}
use Rattle.spirv_meaning.specs.Target.{Value, Word, Truth, first_of, initial}
use Rattle.spirv_meaning.specs.Same.{Same}
use Rattle.spirv_code.specs.declared.key.Slot.{Slot}
use Rattle.spirv_code.specs.Plans.{Plan, inst, context_of, first_label}
use Rattle.spirv_code.specs.Needed.{table_of}
use Rattle.spirv_code.specs.Exits.{label_inst, branch_inst}
use Rattle.spirv_code.specs.Further.{wants}
use Rattle.spirv_code.specs.Trees.{label_at, root_of}
use Rattle.line_runs.specs.Held.{Setting}
use Rattle.line_runs.specs.Declared.{Declares, held_type}
use Rattle.line_runs.specs.Exits.{Variables}
use Rattle.leaf_runs.specs.Laws.{setting_of}
use Rattle.plan_ready.specs.Planned.{HasVariables}
use Rattle.region_runs.specs.Standing.{HasRegions}

-- How the function begins whose root has its label at `head`: the label is the function's first one, where the root begins with a leaf. Else a block of its own stands before it, which has the variables of the function and branches to the root.
pub data Opens (s : Setting) (list : List Region) (head : ℕ) : Type 0 where
  with_root : (operands : List ℕ) → slice_get s.made.insts (first_of 54 s.made.insts) ≡ Some (inst 54 operands) → head ≡ first_of 54 s.made.insts + 1 → Opens s list head
  before_root : (operands : List ℕ) (r last : ℕ) → slice_get s.made.insts (first_of 54 s.made.insts) ≡ Some (inst 54 operands) → slice_get s.made.insts (first_of 54 s.made.insts + 1) ≡ Some (label_inst (first_label r)) → first_of 54 s.made.insts + 1 < last → Variables s (first_of 54 s.made.insts + 1) last → slice_get s.made.insts last ≡ Some (branch_inst (label_at (root_of list))) → head ≡ last + 1 → Opens s list head

-- zero or false
abbrev pub zero_value : Ty → Value
zero_value ty.Int = Word 0
zero_value ty.Bool = Truth false

-- each variable of the function begins with zero or false
abbrev pub BeginsWithZeros : Setting → Type 0
BeginsWithZeros s =
    (slot : Slot) (id : ℕ) → s.context.slot slot ≡ Some id → initial s.made id ≡ Some (zero_value (held_type slot))

-- the module declares what its code names, and its function has the code of the regions
pub record ModuleStands (s : Setting) (list : List Region) : Type 0 where
  pub declares : Declares s
  pub head : ℕ
  pub place : ℕ
  pub regions : HasRegions s list head place
  pub opens : Opens s list head
  pub zeros : BeginsWithZeros s

-- A sound program, whose regions are wired, and a module that stands so by a plan with the program's variables and table do the same.
abbrev pub SameByPlan : Type 0
SameByPlan =
    (p : Program) (list : List Region) (plan : Plan) (m : Module) (at : Bindings) → Sound p → Wired p list → HasVariables p plan.slots → plan.table ≡ table_of p list (wants p list) plan.slots → ((l : Launch) → ModuleStands (setting_of p m at (context_of p plan) plan.table l) list) → Same p at m
