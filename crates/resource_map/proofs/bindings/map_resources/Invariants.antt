use Rattle.std.proofs.Common.{◌≡◌, length, map, take}
use Rattle.spirv_meaning.specs.Bindings.{plain_binding}
use Rattle.resource_map.specs.Pairs.{IsNumbered, pair_of}
use Rattle.resource_map.proofs.bindings.map_resources.Given as goal

abbrev pub invariant-loop-resource : goal.invariant-loop-resource
invariant-loop-resource l = record {
  counted : length l.bindings ≡ l.resource;
  numbered : IsNumbered l.bindings;
  plain : map pair_of l.bindings ≡ map plain_binding (take l.resource l.p.resources);
}
