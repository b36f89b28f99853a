use Rattle.std.proofs.Common.{◌≡◌, ◌++◌, take}
use Rattle.std.specs.List.{flat_map}
use Rattle.spirv_words.specs.Written.{inst_words, AreWords}
use Rattle.spirv_words.proofs.write.write_module.Given as goal

abbrev pub invariant-loop-inst : goal.invariant-loop-inst
invariant-loop-inst l = record {
  written : l.words ≡ l.initial.words ++ flat_map inst_words (take l.inst-index l.inst-items);
  small : AreWords l.words;
}
