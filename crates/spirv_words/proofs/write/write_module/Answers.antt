use Rattle.std.proofs.Common.{◌≡◌, ◌<◌, ◌^◌, ◌∷◌, ◌++◌, [], ℕ, List, ap, arith, refl, subst, sym, ◌∙◌, take}
use Rattle.std.specs.List.{flat_map}
use Rattle.std.proofs.lemmas.List.{take_all}
use Rattle.std.proofs.lemmas.List.Elements.{All-append}
use Rattle.std.proofs.lemmas.Grind.{common_steps}
use Rattle.spv_form.specs.declared.module.Inst.{Inst}
use Rattle.spv_form.specs.declared.module.Module.{Module}
use Rattle.spv_form.specs.Words.{magic, IsLayout}
use Rattle.spv_form.specs.Versions.{version_word}
use Rattle.spirv_words.specs.Written.{inst_words, module_words, AreWords}
use Rattle.spirv_words.proofs.WrittenLaws.{layout_of}
use Rattle.spirv_words.proofs.RoundTrip.{sound_of_layout}
use Rattle.spirv_words.proofs.write.write_module.Goals as goal
use Rattle.spirv_words.proofs.write.write_module.Goals.{After-loop-inst}

header : Module → List ℕ
header m = magic ∷ version_word m.version ∷ 0 ∷ m.bound ∷ 0 ∷ []

written : (c : After-loop-inst) → c.loop-inst.words ≡ module_words c.args.m.now
unfolding header
written c =
    let made : c.new-words.result ++ magic ∷ c.word.result ∷ 0 ∷ c.args.m.now.bound ∷ 0 ∷ [] ≡ header c.args.m.now = rw (c.new-words.ensures, c.word.ensures) refl in
    let begun : c.append.new.words ≡ header c.args.m.now = c.in_ok-append.ensures.added ∙ made in
    let all : take c.loop-inst.inst-index c.as_slice-inst-items.result.now ≡ c.args.m.now.insts = take_all c.loop-inst.inst-index c.as_slice-inst-items.result.now c.loop-inst-test.false ∙ c.as_slice-inst-items.ensures in
    c.loop-inst.invariant.written ∙ ap (λ ws. ws ++ flat_map inst_words (take c.loop-inst.inst-index c.as_slice-inst-items.result.now)) begun ∙ ap (λ (xs : List Inst). header c.args.m.now ++ flat_map inst_words xs) all

laid-out : (c : After-loop-inst) → IsLayout c.loop-inst.words c.args.m.now
laid-out c = subst (λ ws. IsLayout ws c.args.m.now) (sym (written c)) (layout_of c.args.m.now)

pub returns-clause-exact : goal.returns-clause-exact
returns-clause-exact c = written c

pub returns-clause-module : goal.returns-clause-module
returns-clause-module c = record { layout = laid-out c; sound = sound_of_layout c.loop-inst.words c.args.m.now (laid-out c) c.requires }

pub loop-inst-preserved : goal.loop-inst-preserved
loop-inst-preserved c = record {
  written = grind (arith, common_steps);
  small = subst AreWords (sym c.in_ok-write_inst.ensures.added) (All-append (λ w. w < 2 ^ 32) c.loop-inst.words (inst_words c.inst-item.result) c.loop-inst.invariant.small c.in_ok-write_inst.ensures.words);
}
