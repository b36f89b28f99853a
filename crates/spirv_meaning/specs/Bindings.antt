-- By which descriptor set and binding a module names each resource.
use Rattle.std.specs.Prelude.{◌≡◌, ℕ, suc, ◌+◌, ◌*◌, ◌^◌, ◌<◌, ◌&&◌, nat_eq, if◌then◌else◌, List, [], ◌∷◌, map, length, Option, Some, None, slice_get}
use Rattle.dxil_form.specs.declared.program.Class.{Class}
use Rattle.dxil_form.specs.declared.program.Class.TheVariants.{Srv, Uav, Cbv}
use Rattle.dxil_form.specs.declared.program.Resource.{Resource}
use Rattle.dxil_form.specs.declared.program.Program.{Program}

-- the set and the binding of each resource, in the order of the program's resources
abbrev pub Bindings : Type 0
Bindings = List (ℕ × ℕ)

-- the resource that has this set and binding, counted from r: the first one, should there be several
abbrev pub resource_at : Bindings → (set binding r : ℕ) → Option ℕ
resource_at [] set binding r = None
resource_at (pair ∷ pairs) set binding r =
    if nat_eq pair.0 set && nat_eq pair.1 binding then Some r else resource_at pairs set binding (suc r)

-- each resource has a set and a binding, and no two resources have the same
pub record AreApart (p : Program) (at : Bindings) : Type 0 where
  pub one_each : length at ≡ length p.resources
  pub apart : (r s : ℕ) (pair : ℕ × ℕ) → slice_get at r ≡ Some pair → slice_get at s ≡ Some pair → r ≡ s

-- the class in the number of a binding
abbrev pub class_number : Class → ℕ
class_number Srv = 0
class_number Uav = 1
class_number Cbv = 2

-- the bindings by a formula: the set is the register space, and the binding is three times the lower bound and the number of the class
abbrev pub plain_binding : Resource → ℕ × ℕ
plain_binding resource = (resource.space, 3 * resource.lower + class_number resource.class)

abbrev pub plain_bindings : Program → Bindings
plain_bindings p = map plain_binding p.resources

-- each binding by the formula fits in 32 bits, as each register space does
abbrev pub ArePlainWords : Program → Type 0
ArePlainWords p =
    (r : ℕ) (resource : Resource) → slice_get p.resources r ≡ Some resource → (plain_binding resource).1 < 2 ^ 32
