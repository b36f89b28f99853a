-- What a search for one place has found.
use Rattle.std.specs.Prelude.{◌≡◌, ◌≢◌, ◌<◌, ℕ, nat_eq, if◌then◌else◌, List, Option, Some, None, slice_get}
use Rattle.spv_form.specs.declared.module.Inst.{Inst}
use Rattle.spirv_meaning.specs.declared.site.Sought.{Sought}
use Rattle.spirv_meaning.specs.declared.site.Sought.TheVariants.{Nowhere, At, Several}
use Rattle.spirv_meaning.specs.Names.{label_of, named_by}

-- a place is not sought, it is the one that is, or it is one of several
abbrev pub Describes : (ℕ → Type 0) → Sought → Type 0
Describes P Nowhere = (at : ℕ) → P at → ⊥
Describes P (At a) = P a × ((b : ℕ) → P b → b ≡ a)
Describes P Several = (a : ℕ) × (b : ℕ) × P a × P b × (a ≢ b)

-- what two searches have found together
abbrev pub joined : Sought → Sought → Sought
joined Nowhere y = y
joined (At a) Nowhere = At a
joined (At a) (At b) = if nat_eq a b then At a else Several
joined (At a) Several = Several
joined Several y = Several

-- a label of this id stands at the place, which is below n
abbrev pub LabelBelow : List Inst → ℕ → ℕ → ℕ → Type 0
LabelBelow insts id n at = (at < n) × ((inst : Inst) × (slice_get insts at ≡ Some inst) × (label_of inst ≡ Some id))

-- a label stands at the place whose id an OpName below n gives this name
abbrev pub NamedBelow : List Inst → List ℕ → ℕ → ℕ → Type 0
NamedBelow insts name n at =
    (j : ℕ) × (j < n) × ((inst : Inst) × (id : ℕ) × (slice_get insts j ≡ Some inst) × (named_by name inst ≡ Some id) × ((label : Inst) × (slice_get insts at ≡ Some label) × (label_of label ≡ Some id)))

abbrev pub found : Sought → Option ℕ
found Nowhere = None
found (At a) = Some a
found Several = None
