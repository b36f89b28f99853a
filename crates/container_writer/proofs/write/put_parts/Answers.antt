use Rattle.std.proofs.Common.{◌≡◌, ◌∙◌, ap, arith, List, Some}
use Rattle.std.specs.Prelude.{slice_get}
use Rattle.std.proofs.lemmas.Option.{slice_get_within}
use Rattle.container_writer.specs.declared.part.NewPart.{NewPart}
use Rattle.container_writer.proofs.Parts.{parts_more}
use Rattle.container_writer.proofs.write.put_parts.Goals as goal

pub loop-part-preserved : goal.loop-part-preserved
loop-part-preserved c = parts_more _ _ _ _ _ c.part-item.result c.loop-part-test.true c.part-item.is c.in_ok-put_part.ensures.name c.in_ok-put_part.ensures.bytes c.loop-part.invariant

pub returns-clause-names : goal.returns-clause-names
returns-clause-names c i part there =
    let items : slice_get c.as_slice-part-items.result.now i ≡ Some part = ap (λ (l : List NewPart). slice_get l i) c.as_slice-part-items.ensures ∙ there in
    c.loop-part.invariant.1 i part (omega (arith, c.loop-part-test.false, slice_get_within c.as_slice-part-items.result.now i part items)) items
