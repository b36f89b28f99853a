-- What ties the rewriting to the regions and the graph that it began with.
use Rattle.std.specs.Prelude.{◌≡◌, ◌↔◌, ℕ, List, length, map, Option, Some, slice_get}
use Rattle.dxil_form.specs.declared.program.Program.{Program}
use Rattle.dxil_form.specs.declared.region.Region.{Region}
use Rattle.dxil_form.specs.Graphs.{Graph, Crossed, SolePred}
use Rattle.flow_graph.specs.Shapes.{plain}
use Rattle.head_table.specs.declared.table.HeadTable.{HeadTable}
use Rattle.head_table.specs.Table.{over}
use Rattle.region_builder.specs.declared.partial.Partial.{Partial}
use Rattle.region_builder.specs.Started.{IsNodeGraph}
use Rattle.region_builder.specs.Headed.{Headed, ArmsFrom}

pub record Traced (p : Program) (first : Partial) (list : List Region) (blocks places : List ℕ) (g : Graph) (firsts : List (Option ℕ)) (heads : HeadTable) : Type 0 where
  pub blocks_are : blocks ≡ map (λ root. root.0) first.roots
  pub nodes : IsNodeGraph p blocks (plain first.graph)
  pub rings : Crossed g ↔ Crossed (plain first.graph)
  -- each node's sole predecessor at first, if it had one
  pub firsts_count : length firsts ≡ length blocks
  pub sole : (i j : ℕ) → slice_get firsts j ≡ Some (Some i) → SolePred (plain first.graph) i j
  pub arms : ArmsFrom (plain first.graph) list blocks
  pub heads_count : heads.count ≡ length blocks
  pub headed : (Crossed (plain first.graph) → ⊥) → Headed (plain first.graph) list blocks places g (over heads)
