use Rattle.llvm_records.proofs.FirstOfBoth.{sound_both, of_answers, of_bodies_fault}
use Rattle.llvm_records.proofs.FewLaws.{same_values}
use Rattle.llvm_records.proofs.read.read_module_records.Goals as goal

pub returns-in-Ok-bodies : goal.returns-in-Ok-bodies
returns-in-Ok-bodies c =
    (record { globals = same_values c.args.items.now.list c.args.items.now.fields c.args.types.now.list c.in-Ok.globals c.requires.types c.in-Ok.ensures.exact; bodies = c.in-Ok-bodies.ensures.0 }, sound_both c.args.items.now.list c.args.items.now.fields c.in-Ok-check_values.ensures c.in-Ok-bodies.ensures.1)

pub returns-in-Err-bodies : goal.returns-in-Err-bodies
returns-in-Err-bodies c = of_bodies_fault c.args.items.now.list c.args.items.now.fields c.in-Err-bodies.fault c.in-Ok-check_values.ensures c.in-Err-bodies.ensures

pub returns-in-Err : goal.returns-in-Err
returns-in-Err c = rw c.first_fault.ensures (of_answers c.args.items.now.list c.args.items.now.fields c.in-Err.values c.bodies_behind-bodies.result c.in-Err.ensures c.bodies_behind-bodies.ensures)
