use Rattle.std.proofs.Common.{refl}
use Rattle.resource_map.proofs.Pushed.{ends, is_low, turn}
use Rattle.resource_map.proofs.bindings.map_resources.Goals as goal

pub plain_binding-set-requires : goal.plain_binding-set-requires
plain_binding-set-requires c =
    is_low c.args.p.now c.requires c.as_slice-named-items.result.now c.as_slice-named-items.ensures c.loop-resource.resource _ c.loop-resource-test.true

pub loop-resource-preserved : goal.loop-resource-preserved
loop-resource-preserved c =
    turn c.loop-resource.bindings _ c.push.new.self c.args.p.now.resources c.as_slice-named-items.result.now c.loop-resource.resource _ c.as_slice-named-items.ensures c.loop-resource.invariant.counted c.loop-resource.invariant.numbered c.loop-resource.invariant.plain c.loop-resource-test.true refl c.plain_binding-set.ensures c.push.result c.is_err.result c.is_err.ensures.value c.if-is_err.false c.push.ensures.ok

pub returns : goal.returns
returns c =
    ends c.args.p.now c.loop-resource.bindings c.as_slice-named-items.result.now c.loop-resource.resource c.as_slice-named-items.ensures c.loop-resource-test.false c.loop-resource.invariant.numbered c.loop-resource.invariant.plain c.plain_bindings_fit.ensures.apart
