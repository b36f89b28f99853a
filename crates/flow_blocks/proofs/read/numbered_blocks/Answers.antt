use Rattle.std.proofs.Common.{ℕ, ◌++◌, ◌∙◌, refl, sym, ap, arith, Option}
use Rattle.std.proofs.lemmas.Grind.{common_steps}
use Rattle.std.specs.Option.{option_map}
use Rattle.spv_form.specs.Words.{size_of, start_of}
use Rattle.flow_blocks.specs.declared.read.OpenBlock.{OpenBlock}
use Rattle.flow_blocks.specs.Blocks.{Open, blocks_from}
use Rattle.flow_blocks.specs.Numbered.{each_numbered}
use Rattle.flow_blocks.specs.Passes.{number_in, open_numbered, block_after, block_ended_at}
use Rattle.flow_blocks.proofs.Passing.{open_passed, blocks_passed}
use Rattle.flow_blocks.proofs.Steps.{open_from, open_to, blocks_to, open_more, blocks_more, blocks_all, start_more, start_within}
use Rattle.flow_blocks.proofs.read.numbered_blocks.Goals as goal

pub loop-at-init : goal.loop-at-init
unfolding open_from blocks_from
loop-at-init c = (refl, refl, grind (arith, common_steps))

pub overflow_add-word-in-loop-at : goal.overflow_add-word-in-loop-at
overflow_add-word-in-loop-at c =
    let insts = c.args.insts.now in
    let x = c.index-insts-at.result in
    omega (arith, start_within insts c.loop-at.at x c.loop-at-test.true, ap size_of c.index-insts-at.is, c.loop-at.invariant.0)

pub loop-at-preserved : goal.loop-at-preserved
loop-at-preserved c =
    let number = number_in c.args.labels.now in
    let insts = c.args.insts.now in
    let at = c.loop-at.at in
    let x = c.index-insts-at.result in
    let word = start_of insts at in
    let before = open_to insts at in
    let is = c.index-insts-at.is in
    let inside = c.loop-at-test.true in
    let step = c.in_ok-current.ensures in (
      omega (arith, start_more insts at x inside, ap size_of is, c.loop-at.invariant.0),
      step.next ∙ ap (λ (o : Option OpenBlock). block_after number o c.loop-at.word x) c.loop-at.invariant.1
          ∙ ap (λ (w : ℕ). block_after number (option_map (open_numbered number) before) w x) c.loop-at.invariant.0 ∙ open_passed number before word x
          ∙ sym (ap (λ (o : Option Open). option_map (open_numbered number) o) (open_more insts at x inside is)),
      blocks_passed number c.loop-at.blocks.items c.step.new.blocks.items (blocks_to insts at) before word x c.loop-at.invariant.2
          (step.blocks ∙ ap (λ (o : Option OpenBlock). c.loop-at.blocks.items ++ block_ended_at number o c.loop-at.word x) c.loop-at.invariant.1
          ∙ ap (λ (w : ℕ). c.loop-at.blocks.items ++ block_ended_at number (option_map (open_numbered number) before) w x) c.loop-at.invariant.0)
          ∙ sym (ap (each_numbered number) (blocks_more insts at x inside is)),
    )

pub returns : goal.returns
returns c =
    let number = number_in c.args.labels.now in
    c.loop-at.invariant.2 ∙ ap (each_numbered number) (blocks_all c.args.insts.now c.loop-at.at c.loop-at-test.false)
