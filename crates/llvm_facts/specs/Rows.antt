-- The rows of resources, which the fourth field of the entry node lists.
use Rattle.std.specs.Prelude.{ℕ, ◌≡◌, ◌==◌, ◌&&◌, ◌||◌, ◌-◌, ◌⊎◌, List, length, get_or, map, Bool, true, false, not, nat_le, Option, Some, None, is_some, unwrap_or, if◌then◌else◌}
use Rattle.std.specs.List.{list_all, list_any}
use Rattle.dxil_form.specs.declared.program.Class.{Class}
use Rattle.dxil_form.specs.declared.program.Class.TheVariants.{Srv, Uav, Cbv}
use Rattle.llvm_facts.specs.Module.{Module}
use Rattle.llvm_facts.specs.Faults.{IsFault}
use Rattle.llvm_facts.specs.Values.{node_at, fields_of, i32_at, i1_at, bit_of}
use Rattle.llvm_facts.specs.Tags.{says, tagged}
use Rattle.llvm_facts.specs.Entry.{fields_at, number_at}
use Rattle.llvm_facts.specs.declared.facts.Row.{Row}

-- how many fields a row has at least
abbrev pub least_fields : Class → ℕ
least_fields Srv = 9
least_fields Uav = 11
least_fields Cbv = 8

abbrev pub is_uav : Class → Bool
is_uav Srv = false
is_uav Uav = true
is_uav Cbv = false

abbrev pub is_cbv : Class → Bool
is_cbv Srv = false
is_cbv Uav = false
is_cbv Cbv = true

-- the place of the tags in a row
abbrev pub tags_place : Class → ℕ
tags_place Srv = 8
tags_place Uav = 10
tags_place Cbv = 7

-- The stride of a structured buffer: the `i32` constant at tag 1 of its tags.
abbrev pub stride_of : Module → Option (List ℕ) → Option ℕ
stride_of m None = None
stride_of m (Some fields) = i32_at m (tagged m 1 fields)

abbrev pub stride_at : Module → ℕ → Option ℕ
stride_at m field = stride_of m (node_at m field)

-- the strides of all numbered records
abbrev pub strides : Module → List (Option ℕ)
strides m = map (λ item. stride_of m (fields_of (Some item))) m.items

-- the kind of an SRV or UAV is that of a structured buffer
abbrev pub is_structured : Module → Class → List ℕ → Bool
is_structured m class fields = not (is_cbv class) && says 12 (i32_at m (get_or fields 6 0))

abbrev pub row_stride : Module → Class → List ℕ → Option ℕ
row_stride m class fields = stride_at m (get_or fields (tags_place class) 0)

-- id, space, lower bound, range size, and the kind or the size in bytes are `i32` constants
abbrev pub has_numbers : Module → List ℕ → Bool
has_numbers m fields =
    is_some (i32_at m (get_or fields 0 0))
    && is_some (i32_at m (get_or fields 3 0))
    && is_some (i32_at m (get_or fields 4 0))
    && is_some (i32_at m (get_or fields 5 0))
    && is_some (i32_at m (get_or fields 6 0))

-- a row has its fields; whether a UAV is ordered is an `i1` constant
abbrev pub is_formed : Module → Class → List ℕ → Bool
is_formed m class fields =
    nat_le (least_fields class) (length fields)
    && has_numbers m fields
    && (not (is_uav class) || is_some (i1_at m (get_or fields 9 0)))
    && (not (is_structured m class fields) || is_some (row_stride m class fields))

-- the id of a row
abbrev pub id_of : Module → Option (List ℕ) → Option ℕ
id_of m None = None
id_of m (Some fields) = i32_at m (get_or fields 0 0)

-- one of these rows has the id
abbrev pub has_id : Module → List ℕ → ℕ → Bool
has_id m rows id = list_any (λ row. says id (id_of m (node_at m row))) rows

abbrev pub is_taken : (ℕ → Bool) → Option ℕ → Bool
is_taken taken None = false
is_taken taken (Some id) = taken id

-- a row is no node, is not formed, or its id is taken
abbrev pub is_faulty : Module → Class → (ℕ → Bool) → Option (List ℕ) → Bool
is_faulty m class taken None = true
is_faulty m class taken (Some fields) = not (is_formed m class fields) || is_taken taken (i32_at m (get_or fields 0 0))

-- a row of a list is at fault, behind these rows of it
abbrev pub is_at_fault : Module → Class → List ℕ → ℕ → Bool
is_at_fault m class before row = is_faulty m class (has_id m before) (node_at m row)

-- the bit of a row's record, or of the entry node's where the row is null
abbrev pub row_bit : Module → ℕ → ℕ → ℕ
row_bit m bit row = if row == 0 then bit else bit_of m (row - 1)

unfoldable pub is_list : Module → ℕ → Bool
is_list m field = field == 0 || is_some (node_at m field)

abbrev pub are_lists : Module → Option (List ℕ) → Bool
are_lists m None = false
are_lists m (Some fields) = length fields == 4 && list_all (is_list m) fields

-- the fourth field is null or a node of four fields that are null or nodes
abbrev pub has_lists : Module → List ℕ → Bool
has_lists m entry = get_or entry 3 0 == 0 || are_lists m (node_at m (get_or entry 3 0))

-- the rows of a list: the SRVs are the first, the UAVs the second and the constant buffers the third
abbrev pub rows_at : Module → List ℕ → ℕ → List ℕ
rows_at m entry which = fields_at m (get_or (fields_at m (get_or entry 3 0)) which 0)

abbrev pub IsRowFault : Module → ℕ → Class → List ℕ → ℕ → Type 0
IsRowFault m bit class rows at = IsFault (row_bit m bit) (is_at_fault m class) rows at

-- The fourth field is at fault, or a row of one of its first three lists is.
abbrev pub IsListFault : Module → List ℕ → ℕ → ℕ → Type 0
IsListFault m entry bit at =
    ((has_lists m entry ≡ false) × (at ≡ bit))
    ⊎ (IsRowFault m bit Srv (rows_at m entry 0) at
    ⊎ (IsRowFault m bit Uav (rows_at m entry 1) at
    ⊎ IsRowFault m bit Cbv (rows_at m entry 2) at))

abbrev pub size_of : Module → Class → List ℕ → ℕ
size_of m class fields =
    if is_cbv class then number_at m (get_or fields 6 0)
    else if is_structured m class fields then unwrap_or (row_stride m class fields) 0
    else 0

-- what a row states
unfoldable pub row_of : Module → Class → List ℕ → Row
row_of m class fields = record {
  class = class;
  id = number_at m (get_or fields 0 0);
  space = number_at m (get_or fields 3 0);
  lower = number_at m (get_or fields 4 0);
  range = number_at m (get_or fields 5 0);
  kind = if is_cbv class then 13 else number_at m (get_or fields 6 0);
  size = size_of m class fields;
  ordered = is_uav class && says 1 (i1_at m (get_or fields 9 0));
}

abbrev pub rows_of : Module → Class → List ℕ → List Row
rows_of m class rows = map (λ row. row_of m class (fields_at m row)) rows
