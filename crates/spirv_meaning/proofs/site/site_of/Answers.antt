use Rattle.std.proofs.Common.{arith, ◌∙◌}
use Rattle.spirv_meaning.proofs.Searching.{site_found}
use Rattle.spirv_meaning.proofs.Texts.{rest_is}
use Rattle.spirv_meaning.proofs.site.site_of.Goals as goal

pub returns : goal.returns
returns c =
    let text = c.write_name-from.new.text in
    let name = rest_is text 11 c.write_name-from.result c.write_name-from.array_long ∙ c.write_name-from.ensures.name in
    c.place.ensures ∙ site_found c.args.m.now c.args.k c.as_slice.result.now _ c.labels_named.result c.as_slice.ensures name (omega arith) c.labels_named.ensures
