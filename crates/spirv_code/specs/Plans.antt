-- The ids of a module, as a function of how many regions there are and of what the module declares.
--
-- 1 is the function, 2 the type void, 3 the type of the function. Then come eight labels for each region, the variables of the function and what the table declares. The result or the label that the instruction at a place of the body has is counted from where the variables begin: an instruction for each variable and each declaration stands before the body, so that none of them has its id.
use Rattle.std.specs.Prelude.{ℕ, ◌+◌, ◌*◌, Bool, true, false, List, length, Option, Some, None, slice_get, slice_index}
use Rattle.dxil_form.specs.declared.value.Ty.{Ty}
use Rattle.dxil_form.specs.declared.value.Ty.TheVariants as ty
use Rattle.dxil_form.specs.declared.value.Reg.{Reg}
use Rattle.dxil_form.specs.declared.instr.Target.{Target}
use Rattle.dxil_form.specs.declared.instr.Target.TheVariants as target
use Rattle.dxil_form.specs.declared.block.Block.{Block}
use Rattle.dxil_form.specs.declared.program.Kind.{Kind}
use Rattle.dxil_form.specs.declared.program.Kind.TheVariants as kind
use Rattle.dxil_form.specs.declared.program.Resource.{Resource}
use Rattle.dxil_form.specs.declared.program.Program.{Program}
use Rattle.spv_form.specs.declared.module.Inst.{Inst}
use Rattle.spirv_code.specs.declared.key.Sort.{Sort}
use Rattle.spirv_code.specs.declared.key.Sort.TheVariants as sort
use Rattle.spirv_code.specs.declared.key.Global.{Global}
use Rattle.spirv_code.specs.declared.key.Global.TheVariants.{Plain, Number, Truth}
use Rattle.spirv_code.specs.declared.key.Slot.{Slot}
use Rattle.spirv_code.specs.declared.key.Slot.TheVariants.{Next, Kept}
use Rattle.spirv_code.specs.Keys.{index_of, place_from}

-- what the ids depend on: how many regions there are, the variables of the function, and what is declared outside it
pub record Plan : Type 0 where
  pub regions : ℕ
  pub slots : List Slot
  pub table : List Global

-- ---- labels of the region at a place of the list

abbrev pub label : (place kind : ℕ) → ℕ
label place kind = 4 + 8 * place + kind

-- where a leaf begins
abbrev pub site_label : ℕ → ℕ
site_label place = label place 0

-- the header of a loop
abbrev pub header_label : ℕ → ℕ
header_label place = label place 1

-- the block of a dispatch that selects
abbrev pub body_label : ℕ → ℕ
body_label place = label place 2

abbrev pub continue_label : ℕ → ℕ
continue_label place = label place 3

abbrev pub merge_label : ℕ → ℕ
merge_label place = label place 4

-- where the ways of a leaf's branch meet, or those of a dispatch
abbrev pub chosen_label : ℕ → ℕ
chosen_label place = label place 5

-- behind a region that runs only where its block is wanted
abbrev pub passed_label : ℕ → ℕ
passed_label place = label place 6

-- the first block of a function whose root does not begin with a leaf
abbrev pub first_label : ℕ → ℕ
first_label place = label place 7

-- ---- all other ids

abbrev pub slots_from : Plan → ℕ
slots_from plan = 4 + 8 * plan.regions

abbrev pub table_from : Plan → ℕ
table_from plan = slots_from plan + length plan.slots

abbrev pub results_from : Plan → ℕ
results_from plan = slots_from plan

abbrev pub global_id : Plan → Global → ℕ
global_id plan g = table_from plan + index_of plan.table g

abbrev pub slot_id : Plan → Slot → Option ℕ
slot_id plan s = place_from (slots_from plan) plan.slots s

-- ---- what the code of a program needs to know

pub record Context : Type 0 where
  -- the blocks of the program
  pub blocks : List Block
  -- the rows of a constant buffer, or the words of a groupshared array
  pub limit : Target → ℕ
  -- the id of what is declared
  pub key : Global → ℕ
  -- the id of a variable of the function, if it is there
  pub slot : Slot → Option ℕ
  -- the id of a result at place 0
  pub first : ℕ

abbrev pub rows_of : Option Resource → ℕ
rows_of None = 0
rows_of (Some resource) = rows_in resource.kind
  where
    rows_in : Kind → ℕ
    rows_in kind.Raw = 0
    rows_in (kind.Structured stride) = 0
    rows_in (kind.Constant rows) = rows

abbrev pub limit_of : Program → Target → ℕ
limit_of p (target.Buffer r) = rows_of (slice_get p.resources r)
limit_of p (target.Shared a) = slice_index p.shared a

abbrev pub context_of : Program → Plan → Context
context_of p plan =
    record {
      blocks = p.blocks;
      limit = limit_of p;
      key = global_id plan;
      slot = slot_id plan;
      first = results_from plan;
    }

abbrev pub inst : ℕ → List ℕ → Inst
inst opcode operands = record { opcode = opcode; operands = operands }

-- the id of the result, or of the label, at a place
abbrev pub result : Context → ℕ → ℕ
result c place = c.first + place

abbrev pub number : Context → ℕ → ℕ
number c n = c.key (Number n)

abbrev pub is_truth : Ty → Bool
is_truth ty.Bool = true
is_truth ty.Int = false

abbrev pub sort_of : Ty → Sort
sort_of ty.Bool = sort.Bool
sort_of ty.Int = sort.Int

abbrev pub zero_of : Ty → Global
zero_of ty.Bool = Truth false
zero_of ty.Int = Number 0

abbrev pub type_id : Context → Ty → ℕ
type_id c t = c.key (Plain (sort_of t))

abbrev pub zero_id : Context → Ty → ℕ
zero_id c t = c.key (zero_of t)

abbrev pub int_id : Context → ℕ
int_id c = c.key (Plain sort.Int)

abbrev pub bool_id : Context → ℕ
bool_id c = c.key (Plain sort.Bool)

-- the variables of a register
abbrev pub kept : Reg → Ty → Slot
kept reg t = Kept reg.value reg.part (is_truth t)

abbrev pub coming : Reg → Ty → Slot
coming reg t = Next reg.value reg.part (is_truth t)

-- the id of a variable, or 0, which no instruction has, where it is not there
abbrev pub id_or_0 : Option ℕ → ℕ
id_or_0 None = 0
id_or_0 (Some id) = id

abbrev pub variable : Context → Slot → ℕ
variable c s = id_or_0 (c.slot s)
