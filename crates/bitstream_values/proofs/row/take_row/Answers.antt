use Rattle.bitstream_values.proofs.Taking.{none_taken, taken_more, no_row, taken_within, adds_large}
use Rattle.bitstream_values.proofs.row.take_row.Goals as goal
use Rattle.bitstream_values.proofs.row.take_row.Goals.{in-Small+in-Ok, in-Large}

pub loop-taken-init : goal.loop-taken-init
loop-taken-init c = none_taken _ _ _ _ _ c.requires.within

pub take_value-requires-clause-within : goal.take_value-requires-clause-within
take_value-requires-clause-within c = taken_within _ _ _ _ _ _ _ _ _ c.loop-taken.invariant

pub returns-in-Short : goal.returns-in-Short
returns-in-Short c = no_row _ _ _ _ _ _ _ _ _ _ c.loop-taken.invariant c.loop-taken-test.true c.in-Short.ensures

pub loop-taken-preserved : goal.loop-taken-preserved
loop-taken-preserved c =
    elim c.match-take_value.branch [
      | in-Small+in-Ok w ↦
          let h = w.in-Small.ensures in
          rw (w.fields-is, w.now-is) (taken_more _ c.loop-taken.cursor _ _ _ _ _ c.loop-taken.now _ _ c.loop-taken.fields _ _ _ c.loop-taken.invariant h.1 h.2 h.3 w.in-Ok.ensures)
      | in-Large w ↦
          let h = w.in-Large.ensures in
          rw (w.fields-is, w.now-is) (taken_more _ c.loop-taken.cursor _ _ _ _ _ c.loop-taken.now _ _ c.loop-taken.fields _ _ _ c.loop-taken.invariant h.2 h.3 h.4 (adds_large _ _ _ _ h.5))
    ]
