use Rattle.std.proofs.Common.{◌≡◌, false, ℕ}
use Rattle.head_table.specs.Table.{over}
use Rattle.region_builder.specs.Advancing.{StaysBare}
use Rattle.region_builder.specs.Built.{Keeps, SameRings, size}
use Rattle.region_builder.proofs.builder.Builder.reduce.Given as goal

abbrev pub invariant-loop : goal.invariant-loop
invariant-loop l = record { keeps : Keeps l.fn.self l.self; rings : SameRings l.fn.self.graph l.self.graph; fewer : (h b : ℕ) → over l.fn.self.heads h b ≡ false → over l.self.heads h b ≡ false; bare : StaysBare l.fn.self l.self }

abbrev pub decreases-loop : goal.decreases-loop
decreases-loop l = size l.self.graph
