use Rattle.std.proofs.Common.{◌≡◌, ◌≤◌, [], drop, length, nat_eq}
use Rattle.indexmap.specs.IndexMap.{get}
use Rattle.spirv_code.specs.Leaves.{add_new}
use Rattle.spirv_code.specs.Exits.{unarmed}
use Rattle.spirv_regions.proofs.ways.loose_blocks.Given as goal

abbrev pub invariant-loop-k : goal.invariant-loop-k
invariant-loop-k l =
    (add_new l.loose.keys (unarmed (get nat_eq l.labels) (drop l.k-index l.blocks)) ≡ add_new [] (unarmed (get nat_eq l.labels) l.blocks))
    × (length l.loose.keys ≤ l.k-index)
