use Rattle.std.proofs.Common.{ℕ, ◌≡◌, ◌∙◌, refl, sym, ap, subst, arith, length-take-le, take, ◌++◌, List, [], Option, None}
use Rattle.std.proofs.lemmas.Grind.{common_steps}
use Rattle.std.specs.Option.{unwrap_or}
use Rattle.spv_form.specs.Words.{start_of}
use Rattle.flow_blocks.specs.Blocks.{Labeled, blocks_from, ended_at}
use Rattle.flow_blocks.specs.Passes.{with_block, label_after, label_ended}
use Rattle.flow_blocks.proofs.FewBlocks.{no_more}
use Rattle.flow_blocks.proofs.Steps.{open_from, open_to, blocks_to, open_more, blocks_more, blocks_all}
use Rattle.flow_blocks.proofs.TableLaws.{AreFirst, label_of, label_more, first_more, first_none}
use Rattle.flow_blocks.proofs.labels.Labels.of.Goals as goal

pub loop-inst-init : goal.loop-inst-init
unfolding open_from blocks_from
loop-inst-init c =
    let none : c.in_ok-blocks.blocks.items ≡ [] = grind (arith, common_steps) in
    (refl, subst (λ (pairs : List (ℕ × ℕ)). AreFirst pairs []) (sym none) first_none)

pub push_block-requires : goal.push_block-requires
push_block-requires c =
    let insts = c.args.insts.now in
    let at = c.loop-inst.inst-index in
    omega (arith, c.loop-inst.invariant.1.counted, no_more None 5 (take at insts), length-take-le at insts (omega arith))

pub loop-inst-preserved : goal.loop-inst-preserved
loop-inst-preserved c =
    let insts = c.args.insts.now in
    let at = c.loop-inst.inst-index in
    let x = c.inst-item.result in
    let word = start_of insts at in
    let before = open_to insts at in
    let old = c.loop-inst.blocks.items in
    let more : c.push_block.new.blocks.items ≡ with_block old (label_ended (label_of before) x) =
    c.in_ok-push_block.ensures ∙ ap (with_block old) c.ended_label.ensures ∙ ap (λ (o : Option ℕ). with_block old (label_ended o x)) c.loop-inst.invariant.0 in (
      c.label_behind-current.ensures ∙ ap (λ (o : Option ℕ). label_after o x) c.loop-inst.invariant.0 ∙ label_more before word x ∙ sym (ap label_of (open_more insts at x c.loop-inst-test.true c.inst-item.is)),
      subst (λ (ls : List Labeled). AreFirst c.push_block.new.blocks.items ls) (sym (blocks_more insts at x c.loop-inst-test.true c.inst-item.is))
          (subst (λ (pairs : List (ℕ × ℕ)). AreFirst pairs (blocks_to insts at ++ ended_at before word x)) (sym more) (first_more old (blocks_to insts at) before word x c.loop-inst.invariant.1)),
    )

pub of-requires : goal.of-requires
of-requires c = c.loop-inst.invariant.1.placed.ordered

whole : (c : goal.After-of) → AreFirst c.loop-inst.blocks.items (blocks_from None 5 c.args.insts.now)
whole c = subst (λ (ls : List Labeled). AreFirst c.loop-inst.blocks.items ls) (blocks_all c.args.insts.now c.loop-inst.inst-index c.loop-inst-test.false) c.loop-inst.invariant.1

pub returns-clause-numbers : goal.returns-clause-numbers
returns-clause-numbers c = λ id. ap (λ (o : Option ℕ). unwrap_or o 0) (c.of.ensures id ∙ (whole c).first id)

pub returns-clause-count : goal.returns-clause-count
returns-clause-count c = omega (arith, (whole c).counted)
