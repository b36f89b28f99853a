-- What is translated is accepted.
use Rattle.std.specs.Prelude.{ℕ, List}
use Rattle.dx_base.specs.WordBytes.{bytes_of_words}
use Rattle.dxil_form.specs.declared.program.Program.{Program}
use Rattle.spv_form.specs.declared.module.Version.{Version}
use Rattle.spirv_words.specs.Written.{AreWords}
use Rattle.spirv_file.specs.Checking.{IsAccepted}
use Rattle.program_words.specs.Words.{IsWordsOf}

-- A file of the words that a program may be translated into, at either version, is accepted: it holds a module, which breaks no rule W, V or S.
abbrev pub WordsAreAccepted : Type 0
WordsAreAccepted =
    (p : Program) (version : Version) (words : List ℕ) → AreWords words → IsWordsOf p version words → IsAccepted (bytes_of_words words)
