-- What the address and the range test of a part of an element name besides its operands.
use Rattle.std.specs.Prelude.{ℕ, ◌+◌, ◌-◌, ◌*◌, ◌/◌, List, [], ◌∷◌}
use Rattle.spirv_code.specs.declared.key.Storage.TheVariants as storage
use Rattle.spirv_code.specs.declared.key.Global.{Global}
use Rattle.spirv_code.specs.declared.key.Global.TheVariants.{Number}
use Rattle.spirv_code.specs.Needed.{word_pointer}

abbrev pub element_numbers : (stride part : ℕ) → List Global
element_numbers stride part =
    Number 2 ∷ Number 0 ∷ Number part ∷ Number (stride / 4) ∷ Number (stride - (4 + 4 * part)) ∷ word_pointer storage.StorageBuffer ∷ []
