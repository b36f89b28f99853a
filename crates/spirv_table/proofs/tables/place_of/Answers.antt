use Rattle.std.proofs.Common.{◌∙◌, sym}
use Rattle.spirv_table.proofs.Keys.{place_some, place_none}
use Rattle.spirv_table.proofs.tables.place_of.Goals as goal

pub returns-in-Some-clause-place : goal.returns-in-Some-clause-place
returns-in-Some-clause-place c =
    place_some c.args.table.now.keys c.args.key c.in-Some.at (sym c.get_index_of.ensures.index ∙ c.in-Some.is)

pub returns-in-None-clause-place : goal.returns-in-None-clause-place
returns-in-None-clause-place c =
    c.len.ensures.len ∙ place_none c.args.table.now.keys c.args.key (sym c.get_index_of.ensures.index ∙ c.in-None.is)
