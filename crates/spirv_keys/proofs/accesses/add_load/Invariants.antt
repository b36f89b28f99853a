use Rattle.std.proofs.Common.{◌≡◌, ◌∷◌, [], ◌/◌, ◌%◌, ◌^◌, nat_eq, filter, drop}
use Rattle.spirv_code.specs.Lines.{load_event}
use Rattle.spirv_code.specs.Needed.{add_all, parts_keys}
use Rattle.spirv_keys.proofs.accesses.add_load.Given as goal

abbrev pub invariant-loop-c : goal.invariant-loop-c
invariant-loop-c l =
    add_all l.p l.table.keys (parts_keys l.p l.target l.addr (load_event l.to) (filter (λ c. nat_eq (l.mask / 2 ^ c % 2) 1) (drop l.c-index (0 ∷ 1 ∷ 2 ∷ 3 ∷ [])))) ≡ add_all l.p l.initial.table.keys (parts_keys l.p l.target l.addr (load_event l.to) (filter (λ c. nat_eq (l.mask / 2 ^ c % 2) 1) (0 ∷ 1 ∷ 2 ∷ 3 ∷ [])))
