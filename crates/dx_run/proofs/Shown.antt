-- There is one text of a file's lines.
use Rattle.std.proofs.Common.{ℕ, ◌≡◌, ◌∙◌, sym, ap, List}
use Rattle.dxbc_container.specs.declared.part.Parts.{Parts}
use Rattle.bitstream_spelling.specs.declared.item.Item.{Item}
use Rattle.dx_file.proofs.Answering.{content_unique}
use Rattle.dx_show.specs.Lines.{lines}
use Rattle.dx_show.specs.Showing.{IsShown}

pub shown_unique : (bytes text other : List ℕ) → IsShown bytes text → IsShown bytes other → text ≡ other
shown_unique bytes text other a b =
    let same = content_unique bytes a.parts b.parts a.is b.is a.fs b.fs a.content b.content in
    a.text_is ∙ ap (λ (p : Parts). lines p.list a.is) same.0 ∙ ap (λ (is : List Item). lines b.parts.list is) same.1 ∙ sym b.text_is
