use Rattle.llvm_bodies.proofs.read.keep.Goals as goal

pub returns-then-is_constant : goal.returns-then-is_constant
returns-then-is_constant c = c.keep_constant.ensures c.args.facts.now
