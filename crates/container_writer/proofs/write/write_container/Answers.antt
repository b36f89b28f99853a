use Rattle.std.proofs.Common.{ℕ, ◌+◌, ap}
use Rattle.container_writer.proofs.Written.{written, container_is}
use Rattle.container_writer.proofs.write.write_container.Goals as goal

pub returns : goal.returns
returns c =
    let is = container_is c.args.minor c.args.others.now c.args.bitcode.now _ _ _ _ _ _ _ _ c.new-bytes.ensures c.in_ok-put_fixed.ensures c.in_ok-places.ensures.size (ap (λ (n : ℕ). n + 1) c.len.ensures) c.in_ok-put_table.ensures
    (c.in_ok-places.ensures.places c.args.minor) c.in_ok-put_parts.ensures.bytes c.in_ok-put_shader.ensures in
    written c.args.minor c.args.others.now c.args.bitcode.now _ is c.requires.minor c.in_ok-put_parts.ensures.names c.requires.names c.requires.small
