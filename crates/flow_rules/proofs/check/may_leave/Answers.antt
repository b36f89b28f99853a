use Rattle.std.proofs.Common.{arith, ℕ, subst, sym}
use Rattle.flow_rules.specs.Lists.{SpanOf, LastOver, LoopOf, SwitchOf}
use Rattle.flow_rules.proofs.Deciding.{true_tells, false_tells}
use Rattle.flow_rules.proofs.Ends.{may_by_loop, may_not, may_tell, loop_within, switch_within}
use Rattle.flow_rules.proofs.check.may_leave.Goals as goal

pub leaves_loop-requires : goal.leaves_loop-requires
leaves_loop-requires c =
    let z = c.requires.tables.loops.each c.args.p c.requires.within in
    omega (arith, c.at-inner.ensures, loop_within c.args.blocks.now c.args.p _ c.requires.within z)

pub returns-then-leaves_loop : goal.returns-then-leaves_loop
returns-then-leaves_loop c =
    let loops = subst (λ (v : ℕ). LastOver (SpanOf (LoopOf c.args.blocks.now)) 0 c.args.p v) (sym c.at-inner.ensures) (c.requires.tables.loops.each c.args.p c.requires.within) in
    let switches = c.requires.tables.switches.each c.args.p c.requires.within in
    may_by_loop c.args.blocks.now c.args.p c.args.q c.at-inner.result _ c.requires.ahead loops switches (true_tells _ c.leaves_loop.result c.leaves_loop.ensures c.if-leaves_loop.true)

pub returns-then-switch-inner : goal.returns-then-switch-inner
returns-then-switch-inner c =
    let loops = subst (λ (v : ℕ). LastOver (SpanOf (LoopOf c.args.blocks.now)) 0 c.args.p v) (sym c.at-inner.ensures) (c.requires.tables.loops.each c.args.p c.requires.within) in
    let switches = subst (λ (v : ℕ). LastOver (SpanOf (SwitchOf c.args.blocks.now)) 0 c.args.p v) (sym c.at-switch.ensures) (c.requires.tables.switches.each c.args.p c.requires.within) in
    may_not c.args.blocks.now c.args.p c.args.q c.at-inner.result c.at-switch.result c.requires.ahead loops switches
    (false_tells _ c.leaves_loop.result c.leaves_loop.ensures c.if-leaves_loop.false) (λ near x. (let far = c.if-switch-inner.true in omega arith))

pub leaves_switch-requires : goal.leaves_switch-requires
leaves_switch-requires c =
    let z = c.requires.tables.switches.each c.args.p c.requires.within in
    omega (arith, c.at-switch.ensures, switch_within c.args.blocks.now c.args.p _ c.requires.within z)

pub returns : goal.returns
returns c =
    let loops = subst (λ (v : ℕ). LastOver (SpanOf (LoopOf c.args.blocks.now)) 0 c.args.p v) (sym c.at-inner.ensures) (c.requires.tables.loops.each c.args.p c.requires.within) in
    let switches = subst (λ (v : ℕ). LastOver (SpanOf (SwitchOf c.args.blocks.now)) 0 c.args.p v) (sym c.at-switch.ensures) (c.requires.tables.switches.each c.args.p c.requires.within) in
    may_tell c.args.blocks.now c.args.p c.args.q c.at-inner.result c.at-switch.result c.requires.ahead loops switches c.leaves_switch.result
    (false_tells _ c.leaves_loop.result c.leaves_loop.ensures c.if-leaves_loop.false) c.if-switch-inner.false c.leaves_switch.ensures
