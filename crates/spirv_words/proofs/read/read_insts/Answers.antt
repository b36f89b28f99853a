use Rattle.std.proofs.Common.{◌≡◌, ◌+◌, ◌++◌, ◌∷◌, [], arith, sym, ap}
use Rattle.std.proofs.lemmas.Result.{err_from_is_err_and}
use Rattle.spv_form.specs.Words.{size_of}
use Rattle.spirv_words.proofs.ModuleLaws.{insts_fault, read_more, start_more, within_more, on_ok}
use Rattle.spirv_words.proofs.read.read_insts.Goals as goal

pub returns-in_err-inst : goal.returns-in_err-inst
returns-in_err-inst c =
    let p = err_from_is_err_and c.from_residual.result c.from_residual.ensures.1 in
    rw (p.1, p.2)
    (insts_fault c.args.words.now c.args.header.bound c.loop-at.insts c.loop-at.invariant.read c.args.header.version c.requires.header c.loop-at.at c.in_err-inst.field-0.0 c.loop-at.invariant.place (omega (arith, c.loop-at-test.true, c.len.ensures)) c.in_err-inst.ensures)

pub loop-at-preserved : goal.loop-at-preserved
loop-at-preserved c =
    let pushed : c.push.new.self ≡ c.loop-at.insts ++ c.in_ok-inst.inst ∷ [] = on_ok c.push.result (sym c.if-is_err.ensures.value) c.push.ensures.ok in
    let size : c.loop-at.at + (1 + c.len-in-loop-at.result) ≡ c.loop-at.at + size_of c.in_ok-inst.inst = ap (λ n. c.loop-at.at + (1 + n)) c.len-in-loop-at.ensures in
    rw (pushed, size)
    (record {
      read = read_more c.args.words.now c.args.header.bound c.loop-at.insts c.in_ok-inst.inst c.loop-at.invariant.read c.loop-at.at c.loop-at.invariant.place c.in_ok-inst.ensures.0 c.in_ok-inst.ensures.1;
      place = start_more c.args.words.now c.args.header.bound c.loop-at.insts c.in_ok-inst.inst c.loop-at.invariant.read c.loop-at.at c.loop-at.invariant.place c.in_ok-inst.ensures.0 c.in_ok-inst.ensures.1;
      within = within_more c.args.words.now c.args.header.bound c.loop-at.insts c.in_ok-inst.inst c.loop-at.invariant.read c.loop-at.at c.loop-at.invariant.place c.in_ok-inst.ensures.0 c.in_ok-inst.ensures.1;
    })
