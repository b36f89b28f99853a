use Rattle.dx_outside.proofs.memory.MemoryFiles.is_failing_call.Goals as goal

pub returns-clause-answer : goal.returns-clause-answer
returns-clause-answer c = rw (← c.self.view_is) (rw c.as_slice.ensures.value at c.is_listed-fails.ensures)
