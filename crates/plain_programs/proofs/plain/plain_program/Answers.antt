use Rattle.std.proofs.Common.{◌≡◌, ◌≤◌, ℕ, List, length, Option, refl, sym, subst, arith}
use Rattle.std.specs.Option.{IfSome}
use Rattle.std.proofs.lemmas.Bool.{eqb-false}
use Rattle.dxil_form.specs.declared.block.Block.{Block}
use Rattle.dxil_form.specs.Sound.{cases_of}
use Rattle.plain_programs.specs.Plain.{ArePlain}
use Rattle.plain_programs.proofs.PlainSound.{sound_of}
use Rattle.plain_programs.proofs.plain.plain_program.Goals as goal

pub returns-clause-sound : goal.returns-clause-sound
returns-clause-sound c =
    let P : Option (List Block) → Type 0 = λ o. IfSome o (λ list. length list ≡ length c.args.targets.now) in
    let Q : Option (List Block) → Type 0 = λ o. IfSome o (λ list. ArePlain (length c.args.targets.now) list) in
    let R : Option (List Block) → Type 0 = λ o. IfSome o (λ list. cases_of list ≤ 65536) in
    let n : length c.in-Some.blocks ≡ length c.args.targets.now = subst P c.in-Some.is c.in_ok-plain_blocks.ensures.len in
    let plain = subst Q c.in-Some.is c.in_ok-plain_blocks.ensures.plain in
    let few = subst R c.in-Some.is c.in_ok-plain_blocks.ensures.few in
    let S : ℕ → Type 0 = λ z. ArePlain z c.in-Some.blocks in
    let e = eqb-false (length c.args.targets.now) 0 (sym c.if-is_empty.ensures) in
    let m = c.if-targets-gt8192.false in
    sound_of c.in-Some.blocks (omega arith) (omega arith) few (subst S (sym n) plain) _ _ _ refl c.new.ensures c.new-2.ensures
