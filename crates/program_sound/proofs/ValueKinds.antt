-- The kinds of values: a value that is an i32 or an i1 has that type.
use Rattle.std.proofs.Common.{ℕ, ◌≡◌, ◌-◌, ◌<◌, ◌≤◌, inl, inr, refl, ap, ◌∙◌, arith, Bool, true, false, cond, ◌==◌, List, map, length, slice_get, Option, Some, None}
use Rattle.std.proofs.lemmas.Bool.{cases_lt, lt-ltb, le-ltb}
use Rattle.std.proofs.lemmas.List.{length-map, get_or_append_left, get_or-append_right}
use Rattle.std.proofs.lemmas.Option.{get_or_from_slice_get}
use Rattle.llvm_types.specs.declared.kind.LlvmType.{LlvmType}
use Rattle.llvm_types.specs.declared.kind.LlvmType.TheVariants as types
use Rattle.llvm_values.specs.declared.global.Global.{Global}
use Rattle.profile_lines.specs.Pool.{Pool, stated}
use Rattle.profile_lines.specs.Values.{known_of, kind_in, kind_of_type, kind_of_width, unknown}
use Rattle.profile_lines.specs.declared.known.Known.{Known}
use Rattle.profile_lines.specs.declared.known.ValueKind.{ValueKind}
use Rattle.profile_lines.specs.declared.known.ValueKind.TheVariants.{Int, Bool as BoolKind, Handle, Parts, Place, Other}
use Rattle.profile_lines.specs.declared.known.ValueType.{ValueType}
use Rattle.profile_lines.specs.declared.known.ValueType.TheVariants.{Numbered, Word, Flag, Pointer, Exchanged, Unknown}
use Rattle.profile_tables.specs.EntryBody.{EntryBody, kind_at}
use Rattle.profile_tables.specs.Kinds.{is_kind}
use Rattle.profile_tables.specs.Places.{is_i32}
use Rattle.profile_tables.specs.Read.{IsRead, first_value}
use Rattle.profile_rules.specs.Asked.{type_behind}
use Rattle.program_sound.proofs.Lists.{get_at, map_from}
use Rattle.program_sound.proofs.Known.{known_at, HasSetter, known_stated, known_past, setter_there}

-- ---- kinds

pub same_kind : (a b : ValueKind) → is_kind a b ≡ true → a ≡ b
same_kind Int Int e = refl
same_kind BoolKind BoolKind e = refl
same_kind Handle Handle e = refl
same_kind Parts Parts e = refl
same_kind Place Place e = refl
same_kind Other Other e = refl
same_kind Int BoolKind e = cc
same_kind Int Handle e = cc
same_kind Int Parts e = cc
same_kind Int Place e = cc
same_kind Int Other e = cc
same_kind BoolKind Int e = cc
same_kind BoolKind Handle e = cc
same_kind BoolKind Parts e = cc
same_kind BoolKind Place e = cc
same_kind BoolKind Other e = cc
same_kind Handle Int e = cc
same_kind Handle BoolKind e = cc
same_kind Handle Parts e = cc
same_kind Handle Place e = cc
same_kind Handle Other e = cc
same_kind Parts Int e = cc
same_kind Parts BoolKind e = cc
same_kind Parts Handle e = cc
same_kind Parts Place e = cc
same_kind Parts Other e = cc
same_kind Place Int e = cc
same_kind Place BoolKind e = cc
same_kind Place Handle e = cc
same_kind Place Parts e = cc
same_kind Place Other e = cc
same_kind Other Int e = cc
same_kind Other BoolKind e = cc
same_kind Other Handle e = cc
same_kind Other Parts e = cc
same_kind Other Place e = cc

-- a type is an i32, an i1 or another
pub data IsTypeKind : ValueKind → Type 0 where
  int_type : IsTypeKind Int
  bool_type : IsTypeKind BoolKind
  no_type : IsTypeKind Other

width_kind : (w : ℕ) → IsTypeKind (kind_of_width w)
width_kind w = go (w == 32) (w == 1) where
  go : (a b : Bool) → IsTypeKind (cond a Int (cond b BoolKind Other))
  go true b = int_type
  go false true = bool_type
  go false false = no_type

of_type_kind : (o : Option LlvmType) → IsTypeKind (kind_of_type o)
of_type_kind None = no_type
of_type_kind (Some (types.Integer w)) = width_kind w
of_type_kind (Some other_type) = no_type

pub type_kind : (x : Pool) (t : ValueType) → IsTypeKind (kind_in x t)
type_kind x (Numbered ty) = of_type_kind (slice_get x.types ty)
type_kind x Word = int_type
type_kind x Flag = bool_type
type_kind x (Pointer ty) = no_type
type_kind x Exchanged = no_type
type_kind x Unknown = no_type

pub i32_kind : (o : Option LlvmType) → is_i32 o ≡ true → kind_of_type o ≡ Int
i32_kind None e = cc
i32_kind (Some (types.Integer w)) e = ap (λ b. cond b Int (cond (w == 1) BoolKind Other)) e
i32_kind (Some other_type) e = cc

pub number_kind : (x : Pool) (t : ValueType) → is_i32 (type_behind x t) ≡ true → kind_in x t ≡ Int
number_kind x (Numbered ty) e = i32_kind (slice_get x.types ty) e
number_kind x Word e = cc
number_kind x Flag e = cc
number_kind x (Pointer ty) e = cc
number_kind x Exchanged e = cc
number_kind x Unknown e = cc

-- ---- values that stand before the instructions

-- a stated value, and what is known of it
pub record IsStated (x : EntryBody) (v : ℕ) : Type 0 where
  pub value : Global
  pub stated_is : stated x.pool v ≡ Some value
  pub known_is : known_at x v ≡ known_of x.pool value

module _ (x : EntryBody) (counts : List ℕ) (read : IsRead x counts) where
  pub stated_there : (v : ℕ) → v < first_value x → IsStated x v
  stated_there v l = elim (cases_lt v (length x.pool.globals)) [
    | inl g ↦
        let t = get_at x.pool.globals v g in
        record {
          value = t.0;
          stated_is = ap (λ b. cond b (slice_get x.pool.globals v) (slice_get x.pool.constants (v - length x.pool.globals))) (lt-ltb v (length x.pool.globals) g) ∙ t.1;
          known_is = known_stated x counts read v l
              ∙ get_or_append_left (map (known_of x.pool) x.pool.globals) (map (known_of x.pool) x.pool.constants) unknown v (omega (arith, length-map x.pool.globals (known_of x.pool)))
              ∙ get_or_from_slice_get (map (known_of x.pool) x.pool.globals) v (known_of x.pool t.0) unknown (map_from (known_of x.pool) x.pool.globals v t.0 t.1);
        }
    | inr g ↦
        let t = get_at x.pool.constants (v - length x.pool.globals) (omega arith) in
        record {
          value = t.0;
          stated_is = ap (λ b. cond b (slice_get x.pool.globals v) (slice_get x.pool.constants (v - length x.pool.globals))) (le-ltb v (length x.pool.globals) g) ∙ t.1;
          known_is = known_stated x counts read v l
              ∙ get_or-append_right (map (known_of x.pool) x.pool.globals) (map (known_of x.pool) x.pool.constants) (length x.pool.globals) v unknown (length-map x.pool.globals (known_of x.pool)) g
              ∙ get_or_from_slice_get (map (known_of x.pool) x.pool.constants) (v - length x.pool.globals) (known_of x.pool t.0) unknown (map_from (known_of x.pool) x.pool.constants (v - length x.pool.globals) t.0 t.1);
        }
  ]

  -- a value is stated, is given by a line, or is none
  pub data ValueIs (v : ℕ) : Type 0 where
    before : v < first_value x → IsStated x v → ValueIs v
    by_line : first_value x ≤ v → HasSetter x v → ValueIs v
    none : kind_at x v ≡ Other → ValueIs v

  pub value_is : (v : ℕ) → ValueIs v
  value_is v = elim (cases_lt v (first_value x)) [
    | inl l ↦ before l (stated_there v l)
    | inr g ↦ elim (cases_lt v x.values) [
      | inl l ↦ by_line g (setter_there x counts read v g l)
      | inr p ↦ none (ap (λ (k : Known). k.kind) (known_past x counts read v p))
    ]
  ]
