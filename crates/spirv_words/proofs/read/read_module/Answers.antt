use Rattle.std.proofs.Common.{◌%◌, length, Err, arith, subst}
use Rattle.spv_form.specs.WordRules.{Broken}
use Rattle.spirv_words.specs.FileWords.{words_of}
use Rattle.spirv_words.specs.Reading.{ReadAnswer, WordsAnswer}
use Rattle.spirv_words.proofs.FileWordLaws.{length-words_of}
use Rattle.spirv_words.proofs.HeaderLaws.{first_is_cut}
use Rattle.spirv_words.proofs.RoundTrip.{reads_back, read_of_words}
use Rattle.spirv_words.proofs.read.read_module.Goals as goal
use Rattle.spirv_words.proofs.read.read_module.Goals.{After-refused}

cut : (c : After-refused) → ReadAnswer (Err c.refused.result) c.args.bytes.now
cut c = rw c.refused.ensures (first_is_cut (words_of c.args.bytes.now) (length c.args.bytes.now % 4) (Broken.bytes_left_over c.if-bytes-ne0.true))

pub returns-then-bytes-ne0-clause-exact : goal.returns-then-bytes-ne0-clause-exact
returns-then-bytes-ne0-clause-exact c = cut c

pub returns-then-bytes-ne0-clause-round_trip : goal.returns-then-bytes-ne0-clause-round_trip
returns-then-bytes-ne0-clause-round_trip c = reads_back (Err c.refused.result) c.args.bytes.now (cut c)

pub read_words-requires : goal.read_words-requires
read_words-requires c = rw c.new-words.ensures (omega (arith, length-words_of c.args.bytes.now, c.requires))

pub returns-clause-round_trip : goal.returns-clause-round_trip
returns-clause-round_trip c =
    reads_back c.read_words.result c.args.bytes.now (read_of_words c.read_words.result c.args.bytes.now c.if-bytes-ne0.false (subst (WordsAnswer c.read_words.result) c.new-words.ensures c.read_words.ensures))
