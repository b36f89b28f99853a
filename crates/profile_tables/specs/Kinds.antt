-- Tests on kinds.
use Rattle.std.specs.Prelude.{Bool, true, false}
use Rattle.dxil_form.specs.declared.value.Ty.{Ty}
use Rattle.dxil_form.specs.declared.value.Ty.TheVariants as ty
use Rattle.profile_lines.specs.declared.known.ValueKind.{ValueKind}
use Rattle.profile_lines.specs.declared.known.ValueKind.TheVariants.{Int, Bool as BoolKind, Handle, Parts, Place, Other}

abbrev pub is_kind : ValueKind → ValueKind → Bool
is_kind Int Int = true
is_kind BoolKind BoolKind = true
is_kind Handle Handle = true
is_kind Parts Parts = true
is_kind Place Place = true
is_kind Other Other = true
is_kind a b = false

-- i32 or i1
abbrev pub is_plain : ValueKind → Bool
is_plain Int = true
is_plain BoolKind = true
is_plain Handle = false
is_plain Parts = false
is_plain Place = false
is_plain Other = false

-- the type of a computed value of a kind; only i32 and i1 are such kinds, and the index of a place is an i32
abbrev pub ty_of : ValueKind → Ty
ty_of Int = ty.Int
ty_of BoolKind = ty.Bool
ty_of Handle = ty.Int
ty_of Parts = ty.Int
ty_of Place = ty.Int
ty_of Other = ty.Int
