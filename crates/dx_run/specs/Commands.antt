-- The forms of the command line.
use Rattle.std.specs.Prelude.{ℕ, List, [], ◌∷◌, Option, Some, None, codes, if◌then◌else◌}
use Rattle.std.specs.Str.{bytes_eq}
use Rattle.spv_form.specs.declared.module.Version.{Version}
use Rattle.spv_form.specs.declared.module.Version.TheVariants.{V13, V16}

-- What the words ask: `translate IN OUT` or `translate-13 IN OUT`, which translate to a module of version 1.6 or 1.3, `show IN`, `check IN`, or nothing that is known. A name is the bytes of its word.
pub data Command : Type 0 where
  translate : Version → List ℕ → List ℕ → Command
  show : List ℕ → Command
  check : List ℕ → Command
  unknown : Command

-- the form of the command line
abbrev pub command_of : List (List ℕ) → Command
command_of (name ∷ from ∷ []) = if bytes_eq name (codes "show") then show from else if bytes_eq name (codes "check") then check from else unknown
command_of (name ∷ from ∷ to ∷ []) = if bytes_eq name (codes "translate") then translate V16 from to else if bytes_eq name (codes "translate-13") then translate V13 from to else unknown
command_of words = unknown

-- the name of IN, the file that is read
abbrev pub source : Command → Option (List ℕ)
source (translate version from to) = Some from
source (show from) = Some from
source (check from) = Some from
source unknown = None

-- the name of OUT, the file that is written
abbrev pub target : Command → Option (List ℕ)
target (translate version from to) = Some to
target (show from) = None
target (check from) = None
target unknown = None
