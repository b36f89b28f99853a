-- A module states at most one shader, and has at most one first refusal, and not both.
use Rattle.std.specs.Prelude.{ℕ, ◌≡◌, List}
use Rattle.bitstream_spelling.specs.declared.item.Item.{Item}
use Rattle.dx_base.specs.declared.fault.Fault.{Fault}
use Rattle.llvm_shader.specs.Shader.{IsShader, AreSound, IsFirstRefusal}
use Rattle.llvm_shader.specs.declared.read.Shader.{Shader}

abbrev pub OneShader : Type 0
OneShader = (is : List Item) (fs : List ℕ) (one other : Shader) → IsShader is fs one → IsShader is fs other → one ≡ other

abbrev pub OneRefusal : Type 0
OneRefusal = (is : List Item) (fs : List ℕ) (one other : Fault) → IsFirstRefusal is fs one → IsFirstRefusal is fs other → one ≡ other

abbrev pub SoundHasNoRefusal : Type 0
SoundHasNoRefusal = (is : List Item) (fs : List ℕ) (fault : Fault) → AreSound is fs → IsFirstRefusal is fs fault → ⊥
