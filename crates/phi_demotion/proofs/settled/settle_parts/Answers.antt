use Rattle.std.proofs.Common.{ℕ, ◌≡◌, ◌/◌, ◌%◌, ◌^◌, ◌||◌, nat_eq, map}
use Rattle.std.specs.BTreeSet as tree
use Rattle.dxil_form.specs.declared.value.Ty.TheVariants.{Int}
use Rattle.dxil_form.specs.Registers.{typed, part_of, parts_of}
use Rattle.phi_demotion.specs.Reads.{key_cmp, has_key}
use Rattle.phi_demotion.proofs.Parts.{on_ok_then, parts_all}
use Rattle.phi_demotion.proofs.settled.settle_parts.Goals as goal

pub returns : goal.returns
returns c =
    on_ok_then {Q = (q : ℕ × ℕ) → tree.contains key_cmp c.settle_part-4.new.settled q ≡ (tree.contains key_cmp c.args.settled.now q || has_key (map (λ k. typed (part_of c.args.value k) Int) (parts_of c.args.mask)) q)} c.settle_part-4.result c.settle_part-4.ensures
    (λ last q. parts_all c.args.value q (λ k. nat_eq (c.args.mask / 2 ^ k % 2) 1) _ _ _ _ _ (c.in_ok-settle_part.ensures q) (c.in_ok-settle_part-2.ensures q) (c.in_ok-settle_part-3.ensures q) (last q))
