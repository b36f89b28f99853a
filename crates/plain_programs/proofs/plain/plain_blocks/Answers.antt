use Rattle.std.proofs.Common.{List, [], ◌∷◌, length, length-append, ap, subst, sym, arith}
use Rattle.dxil_form.specs.declared.block.Block.{Block}
use Rattle.dxil_form.specs.Sound.{cases_of}
use Rattle.plain_programs.specs.Plain.{ArePlain}
use Rattle.plain_programs.proofs.PlainSound.{none_plain, plain_on, cases_on}
use Rattle.plain_programs.proofs.plain.plain_blocks.Goals as goal

pub loop-i-init : goal.loop-i-init
loop-i-init c = record {
  len = ap (λ (l : List Block). length l) c.new-blocks.ensures;
  plain = (let P : List Block → Type 0 = λ l. ArePlain c.args.count l in subst P (sym c.new-blocks.ensures) (none_plain c.args.count));
  cases = (let e = ap (λ (l : List Block). cases_of l) c.new-blocks.ensures in omega arith);
}

pub loop-i-preserved : goal.loop-i-preserved
loop-i-preserved c =
    let P : List Block → Type 0 = λ l. ArePlain c.args.count l in
    let e = ap (λ (l : List Block). length l) c.in_ok-add_block.ensures in
    let f = ap (λ (l : List Block). cases_of l) c.in_ok-add_block.ensures in
    let n = length-append c.loop-i.blocks (c.in_ok-block.block ∷ []) in
    let k = cases_on c.loop-i.blocks c.in_ok-block.block in
    let m = c.loop-i.invariant.len in
    let i = c.loop-i.invariant.cases in
    let q = c.in_ok-block.ensures.cases in
    record {
      len = omega arith;
      plain = subst P (sym c.in_ok-add_block.ensures) (plain_on c.args.count c.loop-i.blocks c.in_ok-block.block c.loop-i.invariant.plain c.in_ok-block.ensures.plain);
      cases = omega arith;
    }
