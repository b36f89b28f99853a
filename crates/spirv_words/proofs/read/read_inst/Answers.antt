use Rattle.std.proofs.Common.{◌≡◌, true, false, arith, refl, sym, ◌∙◌, subst, Some, None}
use Rattle.spv_form.specs.Operands.{fits, string_ends}
use Rattle.spirv_words.specs.Reading.{IdAnswer}
use Rattle.spirv_words.proofs.InstLaws.{code_empty, code_long, code_opcode, code_count, code_string, code_id, code_inst}
use Rattle.spirv_words.proofs.read.read_inst.Goals as goal

pub returns-then-size-eq0 : goal.returns-then-size-eq0
returns-then-size-eq0 c = rw c.refused.ensures (refl, code_empty c.args.words.now c.args.bound c.args.at c.at-first.result c.at-first.ensures c.requires.within c.if-size-eq0.true)

pub returns-then-size-len : goal.returns-then-size-len
returns-then-size-len c =
    rw c.refused-then-size-len.ensures (refl, code_long c.args.words.now c.args.bound c.args.at c.at-first.result c.at-first.ensures c.requires.within (omega (arith, c.if-size-len.true, c.len.ensures)))

pub returns-in_default : goal.returns-in_default
returns-in_default c =
    rw c.refused-in_default.ensures
    (refl, code_opcode c.args.words.now c.args.bound c.args.at c.at-first.result c.at-first.ensures c.requires.within c.if-size-eq0.false (omega (arith, c.if-size-len.false, c.len.ensures)) (sym c.shape_of.ensures ∙ c.in_default.is))

pub returns-then-not-fits : goal.returns-then-not-fits
returns-then-not-fits c =
    let bad : fits c.in-Some.shape c.in-Ok.operands ≡ false = subst (λ xs. fits c.in-Some.shape xs ≡ false) c.as_slice.ensures (sym c.fits.ensures ∙ c.if-not-fits.true) in
    rw c.refused-then-not-fits.ensures (
      refl,
      code_count c.args.words.now c.args.bound c.args.at c.at-first.result c.at-first.ensures c.requires.within c.if-size-eq0.false (omega (arith, c.if-size-len.false, c.len.ensures)) c.in-Some.shape (sym c.shape_of.ensures ∙ c.in-Some.is)
          c.in-Ok.operands c.in-Ok.ensures bad,
    )

pub returns-then-not-string_ends : goal.returns-then-not-string_ends
returns-then-not-string_ends c =
    let good : fits c.in-Some.shape c.in-Ok.operands ≡ true = subst (λ xs. fits c.in-Some.shape xs ≡ true) c.as_slice.ensures (sym c.fits.ensures ∙ c.if-not-fits.false) in
    let bad : string_ends c.in-Some.shape c.in-Ok.operands ≡ false = subst (λ xs. string_ends c.in-Some.shape xs ≡ false) c.as_slice-2.ensures (sym c.string_ends.ensures ∙ c.if-not-string_ends.true) in
    rw c.refused-then-not-string_ends.ensures (
      refl,
      code_string c.args.words.now c.args.bound c.args.at c.at-first.result c.at-first.ensures c.requires.within c.if-size-eq0.false (omega (arith, c.if-size-len.false, c.len.ensures)) c.in-Some.shape (sym c.shape_of.ensures ∙ c.in-Some.is)
          c.in-Ok.operands c.in-Ok.ensures good bad,
    )

pub returns-in-Some-bad_id : goal.returns-in-Some-bad_id
returns-in-Some-bad_id c =
    let good : fits c.in-Some.shape c.in-Ok.operands ≡ true = subst (λ xs. fits c.in-Some.shape xs ≡ true) c.as_slice.ensures (sym c.fits.ensures ∙ c.if-not-fits.false) in
    let text : string_ends c.in-Some.shape c.in-Ok.operands ≡ true = subst (λ xs. string_ends c.in-Some.shape xs ≡ true) c.as_slice-2.ensures (sym c.string_ends.ensures ∙ c.if-not-string_ends.false) in
    rw c.refused-in-Some-bad_id.ensures (
      refl,
      code_id c.args.words.now c.args.bound c.args.at c.at-first.result c.at-first.ensures c.requires.within c.if-size-eq0.false (omega (arith, c.if-size-len.false, c.len.ensures)) c.in-Some.shape (sym c.shape_of.ensures ∙ c.in-Some.is)
          c.in-Ok.operands c.in-Ok.ensures good text c.in-Some-bad_id.field-0 (subst (λ xs. IdAnswer (Some c.in-Some-bad_id.field-0) c.args.bound c.in-Some.shape xs) c.as_slice-3.ensures c.in-Some-bad_id.ensures),
    )

pub returns-in-None : goal.returns-in-None
returns-in-None c =
    let good : fits c.in-Some.shape c.in-Ok.operands ≡ true = subst (λ xs. fits c.in-Some.shape xs ≡ true) c.as_slice.ensures (sym c.fits.ensures ∙ c.if-not-fits.false) in
    let text : string_ends c.in-Some.shape c.in-Ok.operands ≡ true = subst (λ xs. string_ends c.in-Some.shape xs ≡ true) c.as_slice-2.ensures (sym c.string_ends.ensures ∙ c.if-not-string_ends.false) in
    code_inst c.args.words.now c.args.bound c.args.at c.at-first.result c.at-first.ensures c.requires.within c.if-size-eq0.false (omega (arith, c.if-size-len.false, c.len.ensures)) c.in-Some.shape (sym c.shape_of.ensures ∙ c.in-Some.is)
    c.in-Ok.operands c.in-Ok.ensures good text c.at-first.type_inv (subst (λ xs. IdAnswer None c.args.bound c.in-Some.shape xs) c.as_slice-3.ensures c.in-None.ensures)
