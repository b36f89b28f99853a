use Rattle.std.proofs.Common.{◌≡◌, ◌∷◌, [], ◌/◌, ◌%◌, ◌^◌, nat_eq, filter, drop, map}
use Rattle.dxil_form.specs.Registers.{part_of}
use Rattle.dxil_form.specs.declared.value.Ty.TheVariants as ty
use Rattle.spirv_code.specs.Plans.{kept}
use Rattle.spirv_code.specs.Further.{add_slots}
use Rattle.spirv_lower.proofs.variables.add_parts.Given as goal

abbrev pub invariant-loop-c : goal.invariant-loop-c
invariant-loop-c l =
    add_slots l.slots.keys (map (λ c. kept (part_of l.value c) ty.Int) (filter (λ c. nat_eq (l.mask / 2 ^ c % 2) 1) (drop l.c-index (0 ∷ 1 ∷ 2 ∷ 3 ∷ [])))) ≡ add_slots l.initial.slots.keys (map (λ c. kept (part_of l.value c) ty.Int) (filter (λ c. nat_eq (l.mask / 2 ^ c % 2) 1) (0 ∷ 1 ∷ 2 ∷ 3 ∷ [])))
