use Rattle.std.proofs.Common.{refl}
use Rattle.dxil_form.specs.declared.value.Ty.TheVariants as ty
use Rattle.dxil_form.specs.declared.value.Reg.{Reg}
use Rattle.dxil_form.specs.declared.value.Operand.TheVariants as operand
use Rattle.dxil_form.specs.declared.instr.BinOp.TheVariants as bin
use Rattle.dxil_form.specs.declared.instr.Instr.{Instr}
use Rattle.dxil_form.specs.declared.instr.Instr.TheVariants.{Bin}
use Rattle.spirv_code.specs.Needed.{line_keys, lines_keys}
use Rattle.spirv_keys.proofs.Adding.{next_at}
use Rattle.spirv_keys.proofs.lines.add_lines.Goals as goal

pub loop-line-preserved : goal.loop-line-preserved
loop-line-preserved c =
    let reg : Reg = record { value = 0; part = 0 } in
    let none : Instr = Bin reg bin.Add ty.Bool (operand.Reg reg ty.Bool) (operand.Reg reg ty.Bool) in
    next_at c.args.p.now (lines_keys c.args.p.now) (line_keys c.args.p.now) c.args.lines.now c.loop-line.line-index none c.loop-line.table.keys c.add_line.new.table.keys _ (λ y ys. refl) c.loop-line-test.true c.in_ok-add_line.ensures c.loop-line.invariant
