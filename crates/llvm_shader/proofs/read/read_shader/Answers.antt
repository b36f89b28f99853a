use Rattle.llvm_shader.proofs.Answering.{types_refused, records_refused}
use Rattle.llvm_shader.proofs.read.read_shader.Goals as goal

pub returns-in-Err : goal.returns-in-Err
returns-in-Err c = types_refused c.args.items.now.list c.args.items.now.fields c.in-Err.fault c.in-Err.ensures

pub returns-in-Err-read_module_records : goal.returns-in-Err-read_module_records
returns-in-Err-read_module_records c = records_refused c.args.items.now.list c.args.items.now.fields c.in-Err-read_module_records.fault c.in-Ok.ensures.1 c.in-Err-read_module_records.ensures
