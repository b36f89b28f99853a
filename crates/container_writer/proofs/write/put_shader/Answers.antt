use Rattle.std.proofs.Common.{ℕ, arith, ◌≡◌, ◌+◌, ◌++◌, ◌∙◌, ap, length, List}
use Rattle.container_writer.specs.Laying.{word, shader_head, part_bytes}
use Rattle.container_writer.proofs.Parts.{length-shader, four_pieces, on_ok}
use Rattle.container_writer.proofs.write.put_shader.Goals as goal

pub returns : goal.returns
unfolding part_bytes
returns c =
    let size : 24 + c.len-size.result ≡ length (shader_head c.args.minor (length c.args.bitcode.now) ++ c.args.bitcode.now) = omega (arith, c.len-size.ensures, length-shader c.args.minor c.args.bitcode.now) in
    let number = c.in_ok-put_number.ensures ∙ ap (λ (n : ℕ). c.put.new.to ++ word n) size in
    let head = c.in_ok-put_shader_head.ensures ∙ ap (λ (n : ℕ). c.put_number.new.to ++ shader_head c.args.minor n) c.len-size.ensures in
    on_ok c.put-2.result (λ e. four_pieces _ _ _ _ _ _ _ _ _ c.in_ok-put.ensures number head (e ∙ ap (λ (l : List ℕ). c.put_shader_head.new.to ++ l) c.as_slice.ensures)) c.put-2.ensures
