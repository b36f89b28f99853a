use Rattle.std.proofs.Common.{◌∙◌, sym}
use Rattle.spirv_regions.proofs.Places.{place_some, place_none}
use Rattle.spirv_regions.proofs.choices.place_in.Goals as goal

pub returns-in-Some-clause-place : goal.returns-in-Some-clause-place
returns-in-Some-clause-place c =
    place_some c.args.blocks.now.keys c.args.k c.in-Some.at (sym c.get_index_of.ensures.index ∙ c.in-Some.is)

pub returns-in-None-clause-place : goal.returns-in-None-clause-place
returns-in-None-clause-place c =
    c.len.ensures.len ∙ place_none c.args.blocks.now.keys c.args.k (sym c.get_index_of.ensures.index ∙ c.in-None.is)
