use Rattle.std.proofs.Common.{◌≡◌, ◌++◌, drop, nat_eq}
use Rattle.indexmap.specs.IndexMap.{get}
use Rattle.spirv_code.specs.Exits.{pairs, way_label}
use Rattle.spirv_regions.proofs.choices.push_pairs.Given as goal

abbrev pub invariant-loop-arm : goal.invariant-loop-arm
invariant-loop-arm l =
    l.operands ++ pairs (way_label (get nat_eq l.ways.labels.now) l.ways.first l.ways.loose.now.keys) (drop l.arm-index l.cases) ≡ l.initial.operands ++ pairs (way_label (get nat_eq l.ways.labels.now) l.ways.first l.ways.loose.now.keys) l.cases
