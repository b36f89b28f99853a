-- The bindings by the formula give no two resources of a program the same set and binding.
use Rattle.std.proofs.Common.{◌≡◌, ℕ, ◌+◌, ◌*◌, ◌≤◌, length, Option, Some, None, option_map, slice_get, refl, sym, ap, ◌∙◌, arith}
use Rattle.std.proofs.lemmas.Option.{slice_get-map}
use Rattle.std.proofs.lemmas.List.{length-map}
use Rattle.dxil_form.specs.declared.program.Class.{Class}
use Rattle.dxil_form.specs.declared.program.Class.TheVariants.{Srv, Uav, Cbv}
use Rattle.dxil_form.specs.declared.program.Resource.{Resource}
use Rattle.dxil_form.specs.declared.program.Program.{Program}
use Rattle.dxil_form.specs.Sound.{Sound}
use Rattle.spirv_meaning.specs.Bindings.{class_number, plain_binding, plain_bindings, ArePlainWords}

few_classes : (class : Class) → class_number class ≤ 2
few_classes Srv = omega arith
few_classes Uav = omega arith
few_classes Cbv = omega arith

same_class : (a b : Class) → class_number a ≡ class_number b → a ≡ b
same_class Srv Srv e = refl
same_class Srv Uav e = absurd (omega arith)
same_class Srv Cbv e = absurd (omega arith)
same_class Uav Srv e = absurd (omega arith)
same_class Uav Uav e = refl
same_class Uav Cbv e = absurd (omega arith)
same_class Cbv Srv e = absurd (omega arith)
same_class Cbv Uav e = absurd (omega arith)
same_class Cbv Cbv e = refl

-- the resource whose pair this is
pub record Of (p : Program) (r : ℕ) (pair : ℕ × ℕ) : Type 0 where
  pub resource : Resource
  pub stands : slice_get p.resources r ≡ Some resource
  pub set : resource.space ≡ pair.0
  pub binding : 3 * resource.lower + class_number resource.class ≡ pair.1

pub of_pair : (p : Program) (r : ℕ) (pair : ℕ × ℕ) → slice_get (plain_bindings p) r ≡ Some pair → Of p r pair
of_pair p r pair e =
    by_get (slice_get p.resources r) refl (sym (slice_get-map plain_binding p.resources r) ∙ e)
  where
    by_get : (o : Option Resource) → slice_get p.resources r ≡ o → option_map plain_binding o ≡ Some pair → Of p r pair
    by_get None is e = absurd (cc)
    by_get (Some resource) is e =
        let same : plain_binding resource ≡ pair = cc in
        record { resource = resource; stands = is; set = ap (λ pair. pair.0) same; binding = ap (λ pair. pair.1) same }

pub one_each : (p : Program) → length (plain_bindings p) ≡ length p.resources
one_each p = length-map p.resources plain_binding

pub words : (p : Program) → Sound p → ArePlainWords p
words p sound r resource stands =
    let low = (sound.resources r resource stands).lower in
    let few = few_classes resource.class in
    omega arith

pub apart : (p : Program) → Sound p → (r s : ℕ) (pair : ℕ × ℕ) → slice_get (plain_bindings p) r ≡ Some pair → slice_get (plain_bindings p) s ≡ Some pair → r ≡ s
apart p sound r s pair e f =
    let a = of_pair p r pair e in
    let b = of_pair p s pair f in
    let few = few_classes a.resource.class in
    let few' = few_classes b.resource.class in
    let same : 3 * a.resource.lower + class_number a.resource.class ≡ 3 * b.resource.lower + class_number b.resource.class = a.binding ∙ sym b.binding in
    sound.apart r s a.resource b.resource a.stands b.stands (record { class = same_class a.resource.class b.resource.class (omega arith); space = a.set ∙ sym b.set; lower = omega arith })
