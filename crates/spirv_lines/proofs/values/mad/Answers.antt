use Rattle.std.proofs.Common.{◌≡◌, ℕ, ◌++◌, ◌∷◌, ◌+◌, [], length, ap, ◌∙◌, arith, length-append}
use Rattle.std.proofs.lemmas.Result.{on_ok_weaker}
use Rattle.dxil_form.specs.declared.value.Ty.TheVariants.{Int}
use Rattle.spirv_code.proofs.Follows.{one_more}
use Rattle.spirv_code.specs.Accesses.{int_inst}
use Rattle.spirv_code.specs.Lines.{value_code}
use Rattle.spirv_code.specs.Plans.{result}
use Rattle.spirv_code.specs.Reads.{read_id, read_size, second_id, three_code, three_size}
use Rattle.spirv_table.specs.Known.{env_of}
use Rattle.spirv_emit.specs.Scenes.{context_in}
use Rattle.spirv_lines.proofs.values.mad.Goals as goal

pub returns-clause-code : goal.returns-clause-code
returns-clause-code c =
    let ctx = context_in c.args.s.now in
    let env = env_of c.args.known.now in
    let place = length c.args.code.now in
    let three = three_size ctx env c.args.x c.args.a c.args.b in
    let a = read_id ctx env (place + read_size ctx env c.args.x) c.args.a in
    let b = second_id ctx env (place + read_size ctx env c.args.x) c.args.a c.args.b in
    let x = read_id ctx env place c.args.x in
    let long : length c.int_of_two.new.code ≡ place + (three + 1) = omega (arith, ap length c.in_ok-product.ensures.code, length-append c.read_three.new.code (int_inst ctx (length c.read_three.new.code) 132 (c.in_ok-x.x ∷ c.in_ok-x.first ∷ []) ∷ []), c.in_ok-x.ensures.size) in
    on_ok_weaker c.value_of_two.result (λ e.
    e
    ∙ ap (λ n. c.int_of_two.new.code ++ value_code ctx n c.args.to Int 128 (c.in_ok-product.product ∷ c.in_ok-x.second ∷ [])) long
    ∙ one_more c.args.code.now c.read_three.new.code c.int_of_two.new.code (three_code ctx env place c.args.x c.args.a c.args.b) _ _ c.in_ok-x.ensures.code c.in_ok-product.ensures.code
    ∙ ap (λ (r : ℕ). c.args.code.now ++ (three_code ctx env place c.args.x c.args.a c.args.b ++ (int_inst ctx (length c.read_three.new.code) 132 (c.in_ok-x.x ∷ c.in_ok-x.first ∷ []) ∷ value_code ctx (place + (three + 1)) c.args.to Int 128 (r ∷ c.in_ok-x.second ∷ [])))) c.in_ok-product.ensures.id
    ∙ ap (λ (n : ℕ). c.args.code.now ++ (three_code ctx env place c.args.x c.args.a c.args.b ++ (int_inst ctx n 132 (c.in_ok-x.x ∷ c.in_ok-x.first ∷ []) ∷ value_code ctx (place + (three + 1)) c.args.to Int 128 (result ctx n ∷ c.in_ok-x.second ∷ [])))) c.in_ok-x.ensures.size
    ∙ ap (λ (i : ℕ). c.args.code.now ++ (three_code ctx env place c.args.x c.args.a c.args.b ++ (int_inst ctx (place + three) 132 (i ∷ c.in_ok-x.first ∷ []) ∷ value_code ctx (place + (three + 1)) c.args.to Int 128 (result ctx (place + three) ∷ c.in_ok-x.second ∷ [])))) c.in_ok-x.ensures.first
    ∙ ap (λ (i : ℕ). c.args.code.now ++ (three_code ctx env place c.args.x c.args.a c.args.b ++ (int_inst ctx (place + three) 132 (x ∷ i ∷ []) ∷ value_code ctx (place + (three + 1)) c.args.to Int 128 (result ctx (place + three) ∷ c.in_ok-x.second ∷ [])))) c.in_ok-x.ensures.second
    ∙ ap (λ (i : ℕ). c.args.code.now ++ (three_code ctx env place c.args.x c.args.a c.args.b ++ (int_inst ctx (place + three) 132 (x ∷ a ∷ []) ∷ value_code ctx (place + (three + 1)) c.args.to Int 128 (result ctx (place + three) ∷ i ∷ [])))) c.in_ok-x.ensures.third) c.value_of_two.ensures.code
