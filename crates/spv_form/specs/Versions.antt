-- The versions of a module, and the word of the header that states each (SPIR-V 1.6, section 2.3: 0, then the major and the minor number, then 0).
use Rattle.std.specs.Prelude.{ℕ, ◌≡◌, Option, Some, None}
use Rattle.spv_form.specs.declared.module.Version.{Version}
use Rattle.spv_form.specs.declared.module.Version.TheVariants.{V13, V16}

abbrev pub version_word : Version → ℕ
version_word V13 = 0x0001_0300
version_word V16 = 0x0001_0600

-- the version that the word states; none exactly where it states neither
abbrev pub IsVersionOf : Option Version → ℕ → Type 0
IsVersionOf (Some v) word = word ≡ version_word v
IsVersionOf None word = (word ≡ 0x0001_0600 → ⊥) × (word ≡ 0x0001_0300 → ⊥)
