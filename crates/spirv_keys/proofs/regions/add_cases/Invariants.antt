use Rattle.std.proofs.Common.{◌≡◌, drop, map}
use Rattle.spirv_code.specs.Needed.{add_all, numbers_keys}
use Rattle.spirv_keys.proofs.regions.add_cases.Given as goal

abbrev pub invariant-loop-case : goal.invariant-loop-case
invariant-loop-case l =
    add_all l.p l.table.keys (numbers_keys (map (λ c. c.1) (drop l.case-index l.cases))) ≡ add_all l.p l.initial.table.keys (numbers_keys (map (λ c. c.1) l.cases))
