use Rattle.std.proofs.Common.{arith}
use Rattle.llvm_metadata.proofs.Counts.{few_types, few_values}
use Rattle.llvm_metadata.proofs.read.read_metadata.Goals as goal

pub overflow_cast-type_count : goal.overflow_cast-type_count
overflow_cast-type_count c = omega (arith, c.len-type_count.ensures, few_types c.args.items.now.list c.args.items.now.fields c.args.types.now.list c.requires.framed c.requires.types)

pub overflow_cast-value_count : goal.overflow_cast-value_count
overflow_cast-value_count c = omega (arith, c.len-value_count.ensures, few_values c.args.items.now.list c.args.items.now.fields c.args.types.now.list c.args.records.now.globals c.requires.framed c.requires.types c.requires.globals)
