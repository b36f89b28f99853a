-- The rules of the container, C1 to C9: which of them is broken, at which bit. Where several are, the one of least bit counts, and at one bit the one of
-- least number.
use Rattle.std.specs.Prelude.{ℕ, ◌≡◌, ◌+◌, ◌*◌, ◌<◌, List, length, codes}
use Rattle.dxbc_container.specs.Layout.{IsProgram, IsDxilVersion, characters, version, size, entry, count, table_end, header, data_size, IsPlaced, IsNamedDxil, program_version, dxil_version, bitcode_offset, bitcode_size}

module _ (bytes : List ℕ) where
  -- The fixed bytes. C1: there are fewer than 32 bytes, or the first four are not DXBC. C2: the version is not 1.0. C3: the container's size is
  -- below 32 or above the length. C4: the offset table passes the container.
  pub data BreaksFixed : ℕ → ℕ → Type 0 where
    c1_short : length bytes < 32 → BreaksFixed 1 0
    c1_magic : (characters bytes 0 ≡ codes "DXBC" → ⊥) → BreaksFixed 1 0
    c2 : (version bytes ≡ 1 → ⊥) → BreaksFixed 2 160
    c3_low : size bytes < 32 → BreaksFixed 3 192
    c3_high : length bytes < size bytes → BreaksFixed 3 192
    c4_table : size bytes < table_end bytes → BreaksFixed 4 224

  -- Entry i of the offset table. C4: the offset lies before the table's end, or the header's eight bytes pass the container. C7: the part is named
  -- DXIL, and so is one of an earlier entry.
  pub data BreaksEntry (i : ℕ) : ℕ → ℕ → Type 0 where
    c4_offset : (IsPlaced bytes (header bytes i) → ⊥) → BreaksEntry i 4 (8 * entry i)
    c7 : (j : ℕ) → j < i → IsNamedDxil bytes (header bytes j) → IsNamedDxil bytes (header bytes i) → BreaksEntry i 7 (8 * entry i)

  -- C5: the data of the part whose header stands at a byte pass the container
  pub record IsLong (at : ℕ) : Type 0 where
    pub long : size bytes < at + 8 + data_size bytes at

  -- The data of a DXIL part whose header stands at a byte. C8: they have fewer than 24 bytes, or a number is wrong, of which the first has the least
  -- bit. C9: the bitcode passes the part's data.
  pub data BreaksShader (at : ℕ) : ℕ → ℕ → Type 0 where
    c8_short : data_size bytes at < 24 → BreaksShader at 8 (8 * (at + 4))
    c8_program : (IsProgram (program_version bytes at) → ⊥) → BreaksShader at 8 (8 * (at + 8))
    c8_magic : (characters bytes (at + 16) ≡ codes "DXIL" → ⊥) → BreaksShader at 8 (8 * (at + 16))
    c8_dxil : (IsDxilVersion (dxil_version bytes at) → ⊥) → BreaksShader at 8 (8 * (at + 20))
    c9 : data_size bytes at < 8 + bitcode_offset bytes at + bitcode_size bytes at → BreaksShader at 9 (8 * (at + 24))

  -- C6: no part is named DXIL. C5, C8 and C9 are asked of the parts at offsets that C4 allows.
  pub data IsBroken : ℕ → ℕ → Type 0 where
    by_fixed : {rule bit : ℕ} → BreaksFixed rule bit → IsBroken rule bit
    by_entry : {rule bit : ℕ} (i : ℕ) → i < count bytes → BreaksEntry i rule bit → IsBroken rule bit
    c6 : ((i : ℕ) → i < count bytes → IsNamedDxil bytes (header bytes i) → ⊥) → IsBroken 6 (8 * table_end bytes)
    c5 : (i : ℕ) → i < count bytes → IsPlaced bytes (header bytes i) → IsLong (header bytes i) → IsBroken 5 (8 * (header bytes i + 4))
    by_shader : {rule bit : ℕ} (i : ℕ) → i < count bytes → IsPlaced bytes (header bytes i) → IsNamedDxil bytes (header bytes i) → BreaksShader (header bytes i) rule bit → IsBroken rule bit
