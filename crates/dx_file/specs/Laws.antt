-- A file has at most one answer: one content, or one first refusal.
use Rattle.std.specs.Prelude.{ℕ, ◌≡◌, List}
use Rattle.dxbc_container.specs.declared.part.Parts.{Parts}
use Rattle.bitstream_spelling.specs.declared.item.Item.{Item}
use Rattle.dx_file.specs.Layers.{Refusal, IsContent, IsFirstRefusal}

abbrev pub OneContent : Type 0
OneContent = (bytes : List ℕ) (parts others : Parts) (is js : List Item) (fs gs : List ℕ) → IsContent bytes parts is fs → IsContent bytes others js gs → (parts ≡ others) × (is ≡ js) × (fs ≡ gs)

abbrev pub OneRefusal : Type 0
OneRefusal = (bytes : List ℕ) (one other : Refusal) → IsFirstRefusal bytes one → IsFirstRefusal bytes other → one ≡ other

abbrev pub ContentHasNoRefusal : Type 0
ContentHasNoRefusal = (bytes : List ℕ) (parts : Parts) (is : List Item) (fs : List ℕ) (refusal : Refusal) → IsContent bytes parts is fs → IsFirstRefusal bytes refusal → ⊥
