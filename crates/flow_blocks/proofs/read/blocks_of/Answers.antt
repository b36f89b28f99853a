use Rattle.std.proofs.Common.{◌≡◌, ◌<◌, ◌^◌, refl, ap, arith, length, List}
use Rattle.spv_form.specs.declared.module.Inst.{Inst}
use Rattle.flow_rules.specs.Blocks.{BasicBlock}
use Rattle.flow_rules.specs.Rules.{IsNumbered, AreInOrder}
use Rattle.flow_blocks.specs.Blocks.{labeled_blocks}
use Rattle.flow_blocks.specs.Numbered.{blocks_of}
use Rattle.flow_blocks.specs.Passes.{number_in}
use Rattle.flow_blocks.proofs.FewBlocks.{few}
use Rattle.flow_blocks.proofs.Made.{made, few_made}
use Rattle.flow_blocks.proofs.Numbered.{are_numbered, in_order}
use Rattle.flow_blocks.proofs.Rising.{blocks_in_order}
use Rattle.flow_blocks.proofs.read.blocks_of.Goals as goal

pub of-requires : goal.of-requires
of-requires c = omega (arith, few c.args.insts.now c.requires, ap (λ (xs : List Inst). length xs) c.as_slice-insts.ensures)

pub returns-clause-exact : goal.returns-clause-exact
returns-clause-exact c =
    made (λ (blocks : List BasicBlock). blocks ≡ blocks_of c.args.insts.now) c.numbered_blocks.result c.args.insts.now c.as_slice-insts.result.now (number_in c.in_ok-labels.labels)
    c.as_slice-insts.ensures c.in_ok-labels.ensures.numbers c.numbered_blocks.ensures refl

pub returns-clause-small : goal.returns-clause-small
returns-clause-small c =
    made (λ (blocks : List BasicBlock). length blocks < 2 ^ 32) c.numbered_blocks.result c.args.insts.now c.as_slice-insts.result.now (number_in c.in_ok-labels.labels)
    c.as_slice-insts.ensures c.in_ok-labels.ensures.numbers c.numbered_blocks.ensures (few_made c.args.insts.now c.requires)

pub returns-clause-numbered : goal.returns-clause-numbered
returns-clause-numbered c =
    made IsNumbered c.numbered_blocks.result c.args.insts.now c.as_slice-insts.result.now (number_in c.in_ok-labels.labels)
    c.as_slice-insts.ensures c.in_ok-labels.ensures.numbers c.numbered_blocks.ensures (are_numbered (labeled_blocks c.args.insts.now))

pub returns-clause-order : goal.returns-clause-order
returns-clause-order c =
    made AreInOrder c.numbered_blocks.result c.args.insts.now c.as_slice-insts.result.now (number_in c.in_ok-labels.labels)
    c.as_slice-insts.ensures c.in_ok-labels.ensures.numbers c.numbered_blocks.ensures (in_order (labeled_blocks c.args.insts.now) (blocks_in_order c.args.insts.now))
