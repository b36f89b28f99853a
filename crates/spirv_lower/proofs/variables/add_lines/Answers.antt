use Rattle.dxil_form.specs.declared.value.Ty.TheVariants as ty
use Rattle.dxil_form.specs.declared.value.Reg.{Reg}
use Rattle.dxil_form.specs.declared.value.Operand.TheVariants as operand
use Rattle.dxil_form.specs.declared.instr.BinOp.TheVariants as bin
use Rattle.dxil_form.specs.declared.instr.Instr.{Instr}
use Rattle.dxil_form.specs.declared.instr.Instr.TheVariants.{Bin}
use Rattle.spirv_lower.proofs.Adding.{behind_next, lines_next}
use Rattle.spirv_lower.proofs.variables.add_lines.Goals as goal

pub loop-line-preserved : goal.loop-line-preserved
loop-line-preserved c =
    let reg : Reg = record { value = 0; part = 0 } in
    let none : Instr = Bin reg bin.Add ty.Bool (operand.Reg reg ty.Bool) (operand.Reg reg ty.Bool) in
    let lines = c.args.lines.now in
    let i = c.loop-line.line-index in (
      lines_next lines i none c.loop-line.behind c.is_behind-behind.result c.loop-line.slots.keys c.add_line.new.slots.keys _ c.loop-line-test.true c.in_ok-add_line.ensures c.is_behind-behind.ensures c.loop-line.invariant.0,
      behind_next lines i none c.loop-line.behind c.is_behind-behind.result _ c.loop-line-test.true c.is_behind-behind.ensures c.loop-line.invariant.1,
    )
