use Rattle.std.proofs.Common.{◌++◌, length, ap, sym, ◌∙◌}
use Rattle.std.proofs.lemmas.Result.{on_ok_weaker}
use Rattle.dxil_form.specs.declared.value.Ty.TheVariants as ty
use Rattle.dxil_form.specs.declared.instr.Instr.{Instr}
use Rattle.spirv_code.specs.Lines.{bin_code, line_code}
use Rattle.spirv_table.specs.Known.{env_of}
use Rattle.spirv_emit.specs.Scenes.{context_in}
use Rattle.spirv_lines.proofs.lines.line.Goals as goal

pub returns-in_ok-id-in-Bin-clause-code : goal.returns-in_ok-id-in-Bin-clause-code
returns-in_ok-id-in-Bin-clause-code c =
    let ctx = context_in c.args.s.now in
    let env = env_of c.args.known.now in
    let place = length c.args.code.now in
    on_ok_weaker c.set.result (λ _.
    c.in_ok-id-in-Bin.ensures.code
    ∙ ap (λ o. c.args.code.now ++ bin_code ctx env place c.in-Bin.to c.in-Bin.ty o c.in-Bin.a c.in-Bin.b) c.bin_opcode.ensures
    ∙ ap (λ (l : Instr). c.args.code.now ++ line_code ctx env place l) (sym c.in-Bin.is)) c.set.ensures

pub returns-in_ok-id-in-Cmp-clause-code : goal.returns-in_ok-id-in-Cmp-clause-code
returns-in_ok-id-in-Cmp-clause-code c =
    let ctx = context_in c.args.s.now in
    let env = env_of c.args.known.now in
    let place = length c.args.code.now in
    on_ok_weaker c.set-in-Cmp.result (λ _.
    c.in_ok-id-in-Cmp.ensures.code
    ∙ ap (λ o. c.args.code.now ++ bin_code ctx env place c.in-Cmp.to ty.Bool o c.in-Cmp.a c.in-Cmp.b) c.cmp_opcode.ensures
    ∙ ap (λ (l : Instr). c.args.code.now ++ line_code ctx env place l) (sym c.in-Cmp.is)) c.set-in-Cmp.ensures

pub returns-in_ok-id-in-Select-clause-code : goal.returns-in_ok-id-in-Select-clause-code
returns-in_ok-id-in-Select-clause-code c =
    let ctx = context_in c.args.s.now in
    let env = env_of c.args.known.now in
    let place = length c.args.code.now in
    on_ok_weaker c.set-in-Select.result (λ _.
    c.in_ok-id-in-Select.ensures.code
    ∙ ap (λ (l : Instr). c.args.code.now ++ line_code ctx env place l) (sym c.in-Select.is)) c.set-in-Select.ensures

pub returns-in_ok-id-in-Two-clause-code : goal.returns-in_ok-id-in-Two-clause-code
returns-in_ok-id-in-Two-clause-code c =
    let ctx = context_in c.args.s.now in
    let env = env_of c.args.known.now in
    let place = length c.args.code.now in
    on_ok_weaker c.set-in-Two.result (λ _.
    c.in_ok-id-in-Two.ensures.code
    ∙ ap (λ (l : Instr). c.args.code.now ++ line_code ctx env place l) (sym c.in-Two.is)) c.set-in-Two.ensures

pub returns-in_ok-id-in-Mad-clause-code : goal.returns-in_ok-id-in-Mad-clause-code
returns-in_ok-id-in-Mad-clause-code c =
    let ctx = context_in c.args.s.now in
    let env = env_of c.args.known.now in
    let place = length c.args.code.now in
    on_ok_weaker c.set-in-Mad.result (λ _.
    c.in_ok-id-in-Mad.ensures.code
    ∙ ap (λ (l : Instr). c.args.code.now ++ line_code ctx env place l) (sym c.in-Mad.is)) c.set-in-Mad.ensures

pub returns-in-Atomic-clause-code : goal.returns-in-Atomic-clause-code
returns-in-Atomic-clause-code c =
    on_ok_weaker c.write_part.result (λ e.
    e ∙ ap (λ (l : Instr). c.args.code.now ++ line_code (context_in c.args.s.now) (env_of c.args.known.now) (length c.args.code.now) l) (sym c.in-Atomic.is)) c.write_part.ensures.code

pub returns-in-Swap-clause-code : goal.returns-in-Swap-clause-code
returns-in-Swap-clause-code c =
    on_ok_weaker c.write_part-in-Swap.result (λ e.
    e ∙ ap (λ (l : Instr). c.args.code.now ++ line_code (context_in c.args.s.now) (env_of c.args.known.now) (length c.args.code.now) l) (sym c.in-Swap.is)) c.write_part-in-Swap.ensures.code
