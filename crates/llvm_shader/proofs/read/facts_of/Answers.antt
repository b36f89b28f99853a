use Rattle.std.proofs.Common.{ap, length}
use Rattle.llvm_shader.proofs.Answering.{metadata_refused, facts_told, same_values}
use Rattle.llvm_shader.proofs.read.facts_of.Goals as goal

pub returns-in-Ok : goal.returns-in-Ok
returns-in-Ok c =
    facts_told c.args.items.now.list c.args.items.now.fields _ _ c.args.types.now.list c.args.records.now.globals c.in-Ok.meta c.shader_facts.result c.requires.types c.requires.globals
    (ap length c.requires.types) (ap length (same_values c.args.items.now.list c.args.items.now.fields c.args.types.now.list c.args.records.now.globals c.requires.types c.requires.globals))
    c.requires.sound_types c.requires.sound_records c.in-Ok.ensures c.shader_facts.ensures

pub returns-in-Err : goal.returns-in-Err
returns-in-Err c =
    metadata_refused c.args.items.now.list c.args.items.now.fields _ _ c.in-Err.fault
    (ap length c.requires.types) (ap length (same_values c.args.items.now.list c.args.items.now.fields c.args.types.now.list c.args.records.now.globals c.requires.types c.requires.globals))
    c.requires.sound_types c.requires.sound_records c.in-Err.ensures
