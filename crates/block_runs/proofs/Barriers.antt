-- A barrier asks for the same in both machines.
use Rattle.std.proofs.Common.{◌≡◌, Bool, true, false, Some, refl, sym, subst}
use Rattle.std.specs.Prelude.{◌||◌, if◌then◌else◌}
use Rattle.dxil_form.specs.declared.instr.Scope.{Scope}
use Rattle.dxil_form.specs.declared.instr.Scope.TheVariants.{Nobody, Group, Device}
use Rattle.dxil_form.specs.Sound.{IsBarrier, mode_bit}
use Rattle.dxil_meaning.specs.Launches.{Acts}
use Rattle.dxil_meaning.specs.Launches as launch
use Rattle.spirv_meaning.specs.Target.{State, barrier_step, next}
use Rattle.spirv_code.specs.Lines.{barrier_scope, barrier_semantics}

-- the fields that go together
data Fields : Scope → Bool → Bool → Type 0 where
  none : Fields Nobody false false
  group_both : Fields Group true true
  group_uav : Fields Group true false
  group_shared : Fields Group false true
  device_both : Fields Device true true
  device_uav : Fields Device true false

fields_of : (b1 b2 b3 : Bool) → Fields (if b1 then Device else (if b2 || b3 then Group else Nobody)) (b1 || b2) b3
fields_of true b2 true = device_both
fields_of true b2 false = device_uav
fields_of false true true = group_both
fields_of false true false = group_uav
fields_of false false true = group_shared
fields_of false false false = none

gives : (sync : Bool) (scope : Scope) (uav shared : Bool) (t : State) → Fields scope uav shared → barrier_step sync (Some (barrier_scope scope)) (Some (barrier_semantics uav shared)) t ≡ Acts (launch.Barrier sync scope uav shared) (λ answer. next t)
gives sync _ _ _ t none = refl
gives sync _ _ _ t group_both = refl
gives sync _ _ _ t group_uav = refl
gives sync _ _ _ t group_shared = refl
gives sync _ _ _ t device_both = refl
gives sync _ _ _ t device_uav = refl

pub barrier_gives : (sync : Bool) (scope : Scope) (uav shared : Bool) (t : State) → IsBarrier sync scope uav shared → barrier_step sync (Some (barrier_scope scope)) (Some (barrier_semantics uav shared)) t ≡ Acts (launch.Barrier sync scope uav shared) (λ answer. next t)
barrier_gives sync scope uav shared t is =
    let fields = fields_of (mode_bit is.mode 1) (mode_bit is.mode 2) (mode_bit is.mode 3) in
    gives sync scope uav shared t (subst (λ x. Fields x uav shared) (sym is.scope_is) (subst (λ x. Fields (if mode_bit is.mode 1 then Device else (if mode_bit is.mode 2 || mode_bit is.mode 3 then Group else Nobody)) x shared) (sym is.uav_is) (subst (λ x. Fields (if mode_bit is.mode 1 then Device else (if mode_bit is.mode 2 || mode_bit is.mode 3 then Group else Nobody)) (mode_bit is.mode 1 || mode_bit is.mode 2) x) (sym is.shared_is) fields)))
