use Rattle.std.proofs.Common.{◌≡◌, ℕ, ◌<◌, ◌/◌, ◌%◌, ◌^◌, Bool, List, [], ◌∷◌, length, get_or, nat_eq, sym, ap, subst, ◌∙◌}
use Rattle.spirv_code.specs.Lines.{load_event}
use Rattle.spirv_keys.proofs.Parts.{part_added, part_passed}
use Rattle.spirv_keys.proofs.accesses.add_load.Goals as goal
use Rattle.spirv_keys.proofs.accesses.add_load.Goals.{then-has_part+in_ok-add_access, else-has_part}

pub loop-c-preserved : goal.loop-c-preserved
loop-c-preserved c =
    let p = c.args.p.now in
    let event_of = load_event c.args.to in
    let test : ℕ → Bool = λ k. nat_eq (c.args.mask / 2 ^ k % 2) 1 in
    let parts : List ℕ = 0 ∷ 1 ∷ 2 ∷ 3 ∷ [] in
    let i = c.loop-c.c-index in
    let x = get_or c.as_slice-c-items.result.now i 0 in
    let within : i < length parts = subst (λ (o : List ℕ). i < length o) c.as_slice-c-items.ensures c.loop-c-test.true in
    let is : x ≡ get_or parts i 0 = ap (λ (o : List ℕ). get_or o i 0) c.as_slice-c-items.ensures in
    elim c.if-has_part.branch [ then-has_part+in_ok-add_access b ↦ let same : c.if-has_part.table.keys ≡ b.add_access.new.table.keys = rw b.table-is in part_added p c.args.target c.args.addr event_of test parts i x c.loop-c.table.keys c.if-has_part.table.keys _ within is (sym c.has_part.ensures ∙ b.if-has_part.true) (same ∙ b.in_ok-add_access.ensures) c.loop-c.invariant | else-has_part b ↦ let same : c.if-has_part.table.keys ≡ c.loop-c.table.keys = rw b.table-is in part_passed p c.args.target c.args.addr event_of test parts i x c.loop-c.table.keys c.if-has_part.table.keys _ within is (sym c.has_part.ensures ∙ b.if-has_part.false) same c.loop-c.invariant ]
