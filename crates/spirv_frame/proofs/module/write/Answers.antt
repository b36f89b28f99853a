use Rattle.std.proofs.Common.{◌≡◌, ℕ, ◌++◌, List, length, map, ap, ◌∙◌, append_assoc}
use Rattle.spv_form.specs.declared.module.Inst.{Inst}
use Rattle.spv_form.specs.declared.module.Module.{Module}
use Rattle.resource_map.specs.Pairs.{pair_of}
use Rattle.spirv_code.specs.Frame.{body_code, bound_of, closing, frame, insts_of}
use Rattle.spirv_code.specs.Trees.{root_of}
use Rattle.spirv_table.specs.Tables.{plan_of}
use Rattle.spirv_frame.proofs.module.write.Goals as goal

pub returns : goal.returns
returns c =
    let p = c.args.s.now.program.now in
    let at = map pair_of c.args.bindings.now in
    let v = c.args.version in
    let plan = plan_of c.args.s.now.tables.now in
    let root = root_of c.args.list.now in
    let front = frame p c.args.list.now at v plan in
    let framed : c.write_frame.new.code ≡ front = c.in_ok-write_frame.ensures ∙ ap (λ o. o ++ front) c.new-code.ensures in
    let bodied : c.write_body.new.code ≡ front ++ body_code p plan root (length front) = c.in_ok-write_body.ensures ∙ ap (λ o. o ++ body_code p plan root (length o)) framed in
    let closed : c.close.new.code ≡ insts_of p c.args.list.now at v plan = c.in_ok-close.ensures ∙ ap (λ o. o ++ closing) bodied ∙ append_assoc front (body_code p plan root (length front)) closing in
    let bound : c.bound-bound.result ≡ bound_of plan (length (insts_of p c.args.list.now at v plan)) = c.bound-bound.ensures ∙ ap (bound_of plan) (c.len.ensures.len ∙ ap length closed) in
    let made : ℕ → List Inst → Module = λ b xs. record { version = v; bound = b; insts = xs } in
    ap (λ b. made b c.into_list.result) bound ∙ ap (made (bound_of plan (length (insts_of p c.args.list.now at v plan)))) (c.into_list.ensures ∙ closed)
