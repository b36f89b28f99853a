use Rattle.std.proofs.Common.{◌≡◌, ◌+◌, suc, ap, sym, ◌∙◌, arith}
use Rattle.spirv_code.specs.Needed.{add_each, array_keys, arrays_keys}
use Rattle.spirv_keys.proofs.Adding.{add_each_more}
use Rattle.spirv_keys.proofs.table.add_arrays.Goals as goal

pub loop-a-preserved : goal.loop-a-preserved
loop-a-preserved c =
    let p = c.args.p.now in
    let first = c.args.table.now.keys in
    let next : suc c.loop-a.a ≡ c.loop-a.a + 1 = omega arith in
    c.in_ok-add_array.ensures
    ∙ ap (λ t. add_each t (array_keys p c.loop-a.a)) c.loop-a.invariant
    ∙ sym (add_each_more first (arrays_keys p c.loop-a.a) (array_keys p c.loop-a.a))
    ∙ ap (λ n. add_each first (arrays_keys p n)) next
