-- What a field of a node names. The ids of a node stand plus one, with 0 for null; a field that is missing reads as 0.
use Rattle.std.specs.Prelude.{ℕ, ◌==◌, ◌&&◌, not, length, ◌%◌, ◌^◌, ◌-◌, List, slice_get, get_or, Bool, true, false, Option, Some, None, if◌then◌else◌}
use Rattle.std.specs.Int.{cast_unsigned, w64}
use Rattle.llvm_nodes.specs.declared.item.MetaItem.{MetaItem}
use Rattle.llvm_nodes.specs.declared.item.MetaItem.TheVariants.{Text, Value, Node}
use Rattle.llvm_types.specs.declared.kind.LlvmType.{LlvmType}
use Rattle.llvm_types.specs.declared.kind.LlvmType.TheVariants as types
use Rattle.llvm_values.specs.declared.global.Global.{Global}
use Rattle.llvm_values.specs.declared.global.Global.TheVariants.{Variable, Function, Constant}
use Rattle.llvm_values.specs.declared.global.ConstKind.{ConstKind}
use Rattle.llvm_values.specs.declared.global.ConstKind.TheVariants.{Null, Undef, Integer, Gep, Other}
use Rattle.llvm_facts.specs.Module.{Module}
use Rattle.llvm_facts.specs.declared.lookup.Whole.{Whole}

-- the record that a field names
abbrev pub item_at : Module → ℕ → Option MetaItem
item_at m field = if field == 0 then None else slice_get m.items (field - 1)

-- the bit of the record with a number
abbrev pub bit_of : Module → ℕ → ℕ
bit_of m id = get_or m.bits id 0

-- the fields of a record that is a node
abbrev pub fields_of : Option MetaItem → Option (List ℕ)
fields_of None = None
fields_of (Some (Text text)) = None
fields_of (Some (Value ty value)) = None
fields_of (Some (Node ids)) = Some ids

abbrev pub text_of : Option MetaItem → Option (List ℕ)
text_of None = None
text_of (Some (Text text)) = Some text
text_of (Some (Value ty value)) = None
text_of (Some (Node ids)) = None

-- the value of the module that a record names
abbrev pub value_of : Module → Option MetaItem → Option Global
value_of m None = None
value_of m (Some (Text text)) = None
value_of m (Some (Value ty value)) = slice_get m.values value
value_of m (Some (Node ids)) = None

-- the fields of the node with a number, and of the node that a field names
abbrev pub node_by : Module → ℕ → Option (List ℕ)
node_by m id = fields_of (slice_get m.items id)

abbrev pub node_at : Module → ℕ → Option (List ℕ)
node_at m field = fields_of (item_at m field)

abbrev pub text_at : Module → ℕ → Option (List ℕ)
text_at m field = text_of (item_at m field)

-- the width of an integer type
abbrev pub width_of : Option LlvmType → Option ℕ
width_of None = None
width_of (Some types.Void) = None
width_of (Some types.Float) = None
width_of (Some types.Double) = None
width_of (Some types.Half) = None
width_of (Some types.Label) = None
width_of (Some types.Opaque) = None
width_of (Some types.Metadata) = None
width_of (Some (types.Integer width)) = Some width
width_of (Some (types.Pointer to space)) = None
width_of (Some (types.Array count of)) = None
width_of (Some (types.Vector count of)) = None
width_of (Some (types.Struct fields)) = None
width_of (Some (types.Function vararg ret params)) = None

-- A constant before any SETTYPE is of 32 bits.
abbrev pub width_by : Module → Option ℕ → Option ℕ
width_by m None = Some 32
width_by m (Some ty) = width_of (slice_get m.types ty)

-- The 64 bits of an INTEGER, which is a signed number; a NULL is 0.
abbrev pub bits_of : ConstKind → Option ℕ
bits_of Null = Some 0
bits_of Undef = None
bits_of (Integer number) = Some (cast_unsigned w64 number)
bits_of (Gep source args) = None
bits_of Other = None

-- A constant of an integer type counts modulo 2 to its width. Of a type wider than 64 bits these are the low 64 bits, which serve where only small numbers
-- are asked for.
abbrev pub counted : Option ℕ → Option ℕ → Option Whole
counted None bits = None
counted (Some width) None = None
counted (Some width) (Some bits) = Some (record { width = width; number = bits % 2 ^ width })

abbrev pub constant_of : Module → Option Global → Option Whole
constant_of m None = None
constant_of m (Some (Variable ty space init bit)) = None
constant_of m (Some (Function ty body name bit)) = None
constant_of m (Some (Constant ty kind bit)) = counted (width_by m ty) (bits_of kind)

-- the constant of an integer type that a field names
unfoldable pub constant_at : Module → ℕ → Option Whole
constant_at m field = constant_of m (value_of m (item_at m field))

-- the number of a constant of so many bits
abbrev pub of_width : ℕ → Option Whole → Option ℕ
of_width width None = None
of_width width (Some constant) = if constant.width == width then Some constant.number else None

abbrev pub i32_at : Module → ℕ → Option ℕ
i32_at m field = of_width 32 (constant_at m field)

abbrev pub i1_at : Module → ℕ → Option ℕ
i1_at m field = of_width 1 (constant_at m field)

-- `void ()`
abbrev pub is_void : Option LlvmType → Bool
is_void None = false
is_void (Some types.Void) = true
is_void (Some types.Float) = false
is_void (Some types.Double) = false
is_void (Some types.Half) = false
is_void (Some types.Label) = false
is_void (Some types.Opaque) = false
is_void (Some types.Metadata) = false
is_void (Some (types.Integer width)) = false
is_void (Some (types.Pointer to space)) = false
is_void (Some (types.Array count of)) = false
is_void (Some (types.Vector count of)) = false
is_void (Some (types.Struct fields)) = false
is_void (Some (types.Function vararg ret params)) = false

abbrev pub takes_nothing : Module → Option LlvmType → Bool
takes_nothing m None = false
takes_nothing m (Some types.Void) = false
takes_nothing m (Some types.Float) = false
takes_nothing m (Some types.Double) = false
takes_nothing m (Some types.Half) = false
takes_nothing m (Some types.Label) = false
takes_nothing m (Some types.Opaque) = false
takes_nothing m (Some types.Metadata) = false
takes_nothing m (Some (types.Integer width)) = false
takes_nothing m (Some (types.Pointer to space)) = false
takes_nothing m (Some (types.Array count of)) = false
takes_nothing m (Some (types.Vector count of)) = false
takes_nothing m (Some (types.Struct fields)) = false
takes_nothing m (Some (types.Function vararg ret params)) = not vararg && length params == 0 && is_void (slice_get m.types ret)

-- the number of the body of a function of the type `void ()`, if it has one
abbrev pub body_of : Module → Option Global → Option ℕ
body_of m None = None
body_of m (Some (Variable ty space init bit)) = None
body_of m (Some (Function ty body name bit)) = if takes_nothing m (slice_get m.types ty) then body else None
body_of m (Some (Constant ty kind bit)) = None

unfoldable pub body_at : Module → ℕ → Option ℕ
body_at m field = body_of m (value_of m (item_at m field))
