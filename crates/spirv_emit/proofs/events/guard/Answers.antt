use Rattle.std.proofs.Common.{◌≡◌, ℕ, ◌∙◌, ap, ◌++◌, ◌∷◌, [], ◌+◌, length, arith}
use Rattle.std.proofs.lemmas.Result.{on_ok_weaker}
use Rattle.spirv_code.specs.Accesses.{guarded_code, other_at}
use Rattle.spirv_code.specs.Plans.{Context, inst, result}
use Rattle.spirv_code.specs.Reads.{Env}
use Rattle.spirv_table.specs.Known.{env_of}
use Rattle.spirv_emit.specs.Scenes.{context_in}
use Rattle.spirv_emit.proofs.Lists.{three_more, three_longer}
use Rattle.spirv_emit.proofs.events.guard.Goals as goal

pub returns : goal.returns
returns c =
    let ctx : Context = context_in c.args.s.now in
    let env : Env = env_of c.args.known.now in
    let place : ℕ = length c.args.code.now in
    let long = three_longer c.args.code.now c.push.new.self c.push-2.new.self c.push-3.new.self _ _ _ c.in_ok-push.ensures c.in_ok-push-2.ensures c.in_ok-push-3.ensures in
    let inside : c.next-inside.result + 2 ≡ result ctx (place + 2) = omega (arith, c.next-inside.ensures.id) in
    on_ok_weaker c.guarded.result (λ e.
    e ∙ ap (λ n. c.push-3.new.self ++ guarded_code ctx env n c.args.target c.args.addr c.args.part c.args.event c.outside_label-outside.result c.meet_label-meet.result) long
    ∙ three_more c.args.code.now c.push.new.self c.push-2.new.self c.push-3.new.self _ _ _ _ c.in_ok-push.ensures c.in_ok-push-2.ensures c.in_ok-push-3.ensures
    ∙ ap (λ i. c.args.code.now ++ (inst 247 (c.meet_label-meet.result ∷ 0 ∷ []) ∷ inst 250 (c.args.test ∷ i ∷ c.outside_label-outside.result ∷ []) ∷ inst 248 (i ∷ []) ∷ guarded_code ctx env (place + 3) c.args.target c.args.addr c.args.part c.args.event c.outside_label-outside.result c.meet_label-meet.result)) inside
    ∙ ap (λ o. c.args.code.now ++ (inst 247 (c.meet_label-meet.result ∷ 0 ∷ []) ∷ inst 250 (c.args.test ∷ result ctx (place + 2) ∷ o ∷ []) ∷ inst 248 (result ctx (place + 2) ∷ []) ∷ guarded_code ctx env (place + 3) c.args.target c.args.addr c.args.part c.args.event o c.meet_label-meet.result)) c.outside_label-outside.ensures.label
    ∙ ap (λ m. c.args.code.now ++ (inst 247 (m ∷ 0 ∷ []) ∷ inst 250 (c.args.test ∷ result ctx (place + 2) ∷ result ctx (place + other_at ctx env c.args.addr c.args.part c.args.event) ∷ []) ∷ inst 248 (result ctx (place + 2) ∷ []) ∷ guarded_code ctx env (place + 3) c.args.target c.args.addr c.args.part c.args.event (result ctx (place + other_at ctx env c.args.addr c.args.part c.args.event)) m)) c.meet_label-meet.ensures) c.guarded.ensures
