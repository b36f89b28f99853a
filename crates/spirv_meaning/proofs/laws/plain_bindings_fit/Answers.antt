use Rattle.spirv_meaning.proofs.BindingsFit.{one_each, words, apart}
use Rattle.spirv_meaning.proofs.laws.plain_bindings_fit.Goals as goal

pub returns : goal.returns
returns c =
    let p = c.args.p.now in
    record { apart = record { one_each = one_each p; apart = apart p c.requires }; words = words p c.requires }
