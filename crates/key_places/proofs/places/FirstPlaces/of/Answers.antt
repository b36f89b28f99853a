use Rattle.std.proofs.Common.{◌∙◌}
use Rattle.key_places.proofs.Searching.{map_has}
use Rattle.key_places.proofs.Sorting.{keys_rise, sort_keeps}
use Rattle.key_places.proofs.places.FirstPlaces.of.Goals as goal

pub invariant_of-result : goal.invariant_of-result
invariant_of-result c = keys_rise c.sort_unstable.new.self.items c.sort_unstable.ensures.sorted

pub returns : goal.returns
returns c = λ key.
    map_has c.sort_unstable.new.self.items key
    ∙ sort_keeps c.args.pairs.items c.sort_unstable.new.self.items key c.requires c.sort_unstable.ensures.permutation c.sort_unstable.ensures.sorted
