-- What reading a whole file answers.
use Rattle.std.specs.Prelude.{◌≤◌, ◌<◌, ◌^◌, ℕ, List, Option, length}
use Rattle.dx_outside.specs.Outside.{Store, Holds, Stood}
use Rattle.dx_outside.specs.declared.read.Whole.{Whole}
use Rattle.dx_outside.specs.declared.read.Whole.TheVariants.{Read, TooLong, Failed, OutOfMemory}

-- more bytes than are read of a file
abbrev pub IsLong : List ℕ → Type 0
IsLong bytes = 2 ^ 26 < length bytes

-- `Read` has all bytes of the file, at most 2 ^ 26 of them; `TooLong` says that it has more.
abbrev pub WholeAnswer : Option Store → List ℕ → Whole → Type 0
WholeAnswer files name (Read bytes) = (length bytes ≤ 2 ^ 26) × Stood files name bytes
WholeAnswer files name TooLong = Holds files name IsLong
WholeAnswer files name Failed = Unit {0}
WholeAnswer files name OutOfMemory = Unit {0}
