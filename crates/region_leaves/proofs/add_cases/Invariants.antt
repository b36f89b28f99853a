use Rattle.std.proofs.Common.{◌≡◌, ℕ, ◌++◌, take, map}
use Rattle.region_leaves.specs.Edges.{edges_to}
use Rattle.region_leaves.proofs.add_cases.Given as goal

abbrev pub invariant-loop-case : goal.invariant-loop-case
invariant-loop-case l = l.edges.items ≡ l.fn.edges.items ++ edges_to l.from (map (λ (c : ℕ × ℕ). c.1) (take l.case-index l.cases))
