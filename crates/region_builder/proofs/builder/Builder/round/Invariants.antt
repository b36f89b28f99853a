use Rattle.std.proofs.Common.{◌≡◌, ◌+◌, ◌-◌, ◌≤◌, true, false, ℕ}
use Rattle.std.specs.List.{slice_index}
use Rattle.dxil_form.specs.declared.program.Program.{Program}
use Rattle.flow_graph.specs.Shapes.{plain}
use Rattle.head_table.specs.Table.{over}
use Rattle.region_builder.specs.declared.partial.Partial.{Partial}
use Rattle.region_builder.specs.Settled.{IsSettledBy}
use Rattle.region_builder.specs.Bare.{IsTree, Bare, BareAbove}
use Rattle.region_builder.specs.Built.{BuiltBy, Went}
use Rattle.region_builder.proofs.builder.Builder.round.Given as goal

abbrev pub invariant-loop-seen : goal.invariant-loop-seen
invariant-loop-seen l = record {
  went : Went l.fn.self l.self l.changed;
  settled : l.changed ≡ false → (a : ℕ) → l.most + 1 - l.seen ≤ slice_index l.fn.self.ranks.items a → (plain l.fn.self.graph).live a ≡ true → IsSettledBy (over l.fn.self.heads) (plain l.fn.self.graph) a;
  bare : (p : Program) (first : Partial) → BuiltBy p first l.fn.self → IsTree (plain first.graph) → Bare (plain first.graph) l.fn.self → BareAbove (plain first.graph) l.self (l.most + 1 - l.seen);
}
