-- Steps where each block has at most one edge into it.
use Rattle.std.specs.Prelude.{ℕ}
use Rattle.dxil_form.specs.declared.program.Program.{Program}
use Rattle.flow_graph.specs.Shapes.{plain}
use Rattle.region_builder.specs.declared.partial.Partial.{Partial}
use Rattle.region_builder.specs.declared.builder.Builder.{Builder}
use Rattle.region_builder.specs.Bare.{IsTree, Bare, BareFrom}
use Rattle.region_builder.specs.Built.{BuiltBy}

-- the nodes of rank r from i on and below j have been visited
abbrev pub Advances : Builder → Builder → ℕ → ℕ → ℕ → Type 0
Advances old new r i j =
    (p : Program) (first : Partial) → BuiltBy p first old → IsTree (plain first.graph) → BareFrom (plain first.graph) old r i → BareFrom (plain first.graph) new r j

abbrev pub StaysBare : Builder → Builder → Type 0
StaysBare old new = (p : Program) (first : Partial) → BuiltBy p first old → IsTree (plain first.graph) → Bare (plain first.graph) old → Bare (plain first.graph) new
