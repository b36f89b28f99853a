-- The first broken rule of a container, by the zone of its place: the fixed bytes, the entries of the table, the table's end, the parts.
use Rattle.std.proofs.Common.{ℕ, ◌≡◌, ◌+◌, ◌*◌, ◌<◌, ◌≤◌, ◌⊎◌, inl, inr, refl, sym, ◌∙◌, subst, arith, List, length, Option, Some, None}
use Rattle.std.specs.Prelude.{codes}
use Rattle.std.proofs.lemmas.Bool.{cases_lt}
use Rattle.dx_base.specs.First.{IsFirst, IsSound}
use Rattle.dxbc_container.specs.Layout.{IsProgram, IsDxilVersion, characters, version, size, entry, count, table_end, header, data_size, IsPlaced, IsNamedDxil, IsShader, program_version, dxil_version, bitcode_offset, bitcode_size}
use Rattle.dxbc_container.specs.Rules.{BreaksFixed, c1_short, c1_magic, c2, c3_low, c3_high, c4_table, BreaksEntry, c4_offset, c7, IsLong, BreaksShader, c8_short, c8_program, c8_magic, c8_dxil, c9, IsBroken, by_fixed, by_entry, c6, c5, by_shader}
use Rattle.dxbc_container.specs.Reading.{IsFixedSound, NotPlaced, NoneNamed, OneNamed, NamedAnswer, NoneLong, LeastLong}

-- not before a place and a rule of one layer
abbrev pub IsAfter : ℕ → ℕ → ℕ → ℕ → Type 0
IsAfter rule bit other at = (bit < at) ⊎ ((bit ≡ at) × (rule ≤ other))

module _ (bytes : List ℕ) where
  entry_rank : (i rule bit : ℕ) → BreaksEntry bytes i rule bit → (bit ≡ 8 * entry i) × (4 ≤ rule)
  entry_rank i rule bit (c4_offset h) = (refl, omega arith)
  entry_rank i rule bit (c7 j h a b) = (refl, omega arith)

  pub shader_rank : (at rule bit : ℕ) → BreaksShader bytes at rule bit → (8 * (at + 4) ≤ bit) × (8 ≤ rule)
  shader_rank at rule bit (c8_short h) = (omega arith, omega arith)
  shader_rank at rule bit (c8_program h) = (omega arith, omega arith)
  shader_rank at rule bit (c8_magic h) = (omega arith, omega arith)
  shader_rank at rule bit (c8_dxil h) = (omega arith, omega arith)
  shader_rank at rule bit (c9 h) = (omega arith, omega arith)

  -- the fixed bytes come before all others
  least_fixed : (rule bit : ℕ) → bit ≤ 224 → BreaksFixed bytes rule bit → ((r b : ℕ) → BreaksFixed bytes r b → IsAfter rule bit r b) → IsFirst (IsBroken bytes) rule bit
  least_fixed rule bit low here h = record { broken = by_fixed here; least = cases } where
    cases : (r b : ℕ) → IsBroken bytes r b → IsAfter rule bit r b
    cases r b (by_fixed f) = h r b f
    cases r b (by_entry i below e) = inl (omega (arith, (entry_rank i r b e).0))
    cases r b (c6 none) = inl (omega arith)
    cases r b (c5 i below placed long) = inl (omega (arith, placed.behind))
    cases r b (by_shader i below placed named s) = inl (omega (arith, placed.behind, (shader_rank (header bytes i) r b s).0))

  after_c1 : (r b : ℕ) → BreaksFixed bytes r b → IsAfter 1 0 r b
  after_c1 r b (c1_short h) = inr (refl, omega arith)
  after_c1 r b (c1_magic h) = inr (refl, omega arith)
  after_c1 r b (c2 h) = inl (omega arith)
  after_c1 r b (c3_low h) = inl (omega arith)
  after_c1 r b (c3_high h) = inl (omega arith)
  after_c1 r b (c4_table h) = inl (omega arith)

  pub first_c1_short : length bytes < 32 → IsFirst (IsBroken bytes) 1 0
  first_c1_short h = least_fixed 1 0 (omega arith) (c1_short h) after_c1

  pub first_c1_magic : (characters bytes 0 ≡ codes "DXBC" → ⊥) → IsFirst (IsBroken bytes) 1 0
  first_c1_magic h = least_fixed 1 0 (omega arith) (c1_magic h) after_c1

  module _ (long : 32 ≤ length bytes) (magic : characters bytes 0 ≡ codes "DXBC") where
    after_c2 : (r b : ℕ) → BreaksFixed bytes r b → IsAfter 2 160 r b
    after_c2 r b (c1_short h) = absurd (omega arith)
    after_c2 r b (c1_magic h) = absurd (h magic)
    after_c2 r b (c2 h) = inr (refl, omega arith)
    after_c2 r b (c3_low h) = inl (omega arith)
    after_c2 r b (c3_high h) = inl (omega arith)
    after_c2 r b (c4_table h) = inl (omega arith)

    pub first_c2 : (version bytes ≡ 1 → ⊥) → IsFirst (IsBroken bytes) 2 160
    first_c2 h = least_fixed 2 160 (omega arith) (c2 h) after_c2

    module _ (is : version bytes ≡ 1) where
      after_c3 : (r b : ℕ) → BreaksFixed bytes r b → IsAfter 3 192 r b
      after_c3 r b (c1_short h) = absurd (omega arith)
      after_c3 r b (c1_magic h) = absurd (h magic)
      after_c3 r b (c2 h) = absurd (h is)
      after_c3 r b (c3_low h) = inr (refl, omega arith)
      after_c3 r b (c3_high h) = inr (refl, omega arith)
      after_c3 r b (c4_table h) = inl (omega arith)

      pub first_c3_low : size bytes < 32 → IsFirst (IsBroken bytes) 3 192
      first_c3_low h = least_fixed 3 192 (omega arith) (c3_low h) after_c3

      pub first_c3_high : length bytes < size bytes → IsFirst (IsBroken bytes) 3 192
      first_c3_high h = least_fixed 3 192 (omega arith) (c3_high h) after_c3

      after_c4 : 32 ≤ size bytes → size bytes ≤ length bytes → (r b : ℕ) → BreaksFixed bytes r b → IsAfter 4 224 r b
      after_c4 low high r b (c1_short h) = absurd (omega arith)
      after_c4 low high r b (c1_magic h) = absurd (h magic)
      after_c4 low high r b (c2 h) = absurd (h is)
      after_c4 low high r b (c3_low h) = absurd (omega arith)
      after_c4 low high r b (c3_high h) = absurd (omega arith)
      after_c4 low high r b (c4_table h) = inr (refl, omega arith)

      pub first_c4_table : 32 ≤ size bytes → size bytes ≤ length bytes → size bytes < table_end bytes → IsFirst (IsBroken bytes) 4 224
      first_c4_table low high h = least_fixed 4 224 (omega arith) (c4_table h) (after_c4 low high)

  fixed_none : IsFixedSound bytes → (r b : ℕ) → BreaksFixed bytes r b → ⊥
  fixed_none f r b (c1_short h) = omega (arith, f.long)
  fixed_none f r b (c1_magic h) = h f.magic
  fixed_none f r b (c2 h) = h f.version_is
  fixed_none f r b (c3_low h) = omega (arith, f.size_low)
  fixed_none f r b (c3_high h) = omega (arith, f.size_high)
  fixed_none f r b (c4_table h) = omega (arith, f.table)

  pub one_named : (i j k : ℕ) (d : Option ℕ) → NamedAnswer d bytes i → j < i → k < i → IsNamedDxil bytes (header bytes j) → IsNamedDxil bytes (header bytes k) → j ≡ k
  one_named i j k None h a b x y = absurd (h.none j a x)
  one_named i j k (Some d) h a b x y = h.only j a x ∙ sym (h.only k b y)

  -- the first entries of the table break no rule
  module _ (n : ℕ) (fixed : IsFixedSound bytes) (placed : (k : ℕ) → k < n → IsPlaced bytes (header bytes k)) (d : Option ℕ) (named : NamedAnswer d bytes n) where
    entry_none : (k r b : ℕ) → k < n → BreaksEntry bytes k r b → ⊥
    entry_none k r b below (c4_offset h) = h (placed k below)
    entry_none k r b below (c7 j h x y) = omega (arith, one_named n j k d named (omega arith) below x y)

    least_entry : (rule : ℕ) → n < count bytes → BreaksEntry bytes n rule (8 * entry n) → ((r b : ℕ) → BreaksEntry bytes n r b → rule ≤ r) → IsFirst (IsBroken bytes) rule (8 * entry n)
    least_entry rule below here h = record { broken = by_entry n below here; least = cases } where
      at_entry : (i r b : ℕ) → BreaksEntry bytes i r b → (i < n) ⊎ (n ≤ i) → IsAfter rule (8 * entry n) r b
      at_entry i r b e (inl before) = absurd (entry_none i r b before e)
      at_entry i r b e (inr after) = elim (cases_lt n i) [
        | inl later ↦ inl (omega (arith, (entry_rank i r b e).0))
        | inr upto ↦
            let same : i ≡ n = omega arith in
            inr (omega (arith, (entry_rank i r b e).0), h r b (subst (λ (k : ℕ). BreaksEntry bytes k r b) same e))
      ]

      cases : (r b : ℕ) → IsBroken bytes r b → IsAfter rule (8 * entry n) r b
      cases r b (by_fixed f) = absurd (fixed_none fixed r b f)
      cases r b (by_entry i low e) = at_entry i r b e (cases_lt i n)
      cases r b (c6 none) = inl (omega arith)
      cases r b (c5 i low p long) = inl (omega (arith, p.behind))
      cases r b (by_shader i low p named s) = inl (omega (arith, p.behind, (shader_rank (header bytes i) r b s).0))

    after_c4_offset : (r b : ℕ) → BreaksEntry bytes n r b → 4 ≤ r
    after_c4_offset r b e = (entry_rank n r b e).1

    pub first_c4_offset : n < count bytes → NotPlaced bytes n → IsFirst (IsBroken bytes) 4 (8 * entry n)
    first_c4_offset below h = least_entry 4 below (c4_offset h.none) after_c4_offset

    after_c7 : IsPlaced bytes (header bytes n) → (r b : ℕ) → BreaksEntry bytes n r b → 7 ≤ r
    after_c7 p r b (c4_offset h) = absurd (h p)
    after_c7 p r b (c7 j h x y) = omega arith

    pub first_c7 : (j : ℕ) → n < count bytes → IsPlaced bytes (header bytes n) → j < n → IsNamedDxil bytes (header bytes j) → IsNamedDxil bytes (header bytes n) → IsFirst (IsBroken bytes) 7 (8 * entry n)
    first_c7 j below p before x y = least_entry 7 below (c7 j before x y) (after_c7 p)

  -- the whole table breaks no rule
  module _ (fixed : IsFixedSound bytes) (placed : (k : ℕ) → k < count bytes → IsPlaced bytes (header bytes k)) where
    pub first_c6 : NoneNamed bytes (count bytes) → IsFirst (IsBroken bytes) 6 (8 * table_end bytes)
    first_c6 none = record { broken = c6 none.none; least = cases } where
      cases : (r b : ℕ) → IsBroken bytes r b → IsAfter 6 (8 * table_end bytes) r b
      cases r b (by_fixed f) = absurd (fixed_none fixed r b f)
      cases r b (by_entry i low e) = absurd (entry_none (count bytes) fixed placed None none i r b low e)
      cases r b (c6 h) = inr (refl, omega arith)
      cases r b (c5 i low p long) = inl (omega (arith, p.behind))
      cases r b (by_shader i low p named s) = absurd (none.none i low named)

    module _ (index : ℕ) (one : OneNamed bytes (count bytes) index) where
      least_part : (rule bit : ℕ) → IsBroken bytes rule bit → ((k : ℕ) → k < count bytes → IsLong bytes (header bytes k) → IsAfter rule bit 5 (8 * (header bytes k + 4)))
          → ((r b : ℕ) → BreaksShader bytes (header bytes index) r b → IsAfter rule bit r b) → IsFirst (IsBroken bytes) rule bit
      least_part rule bit here long shader = record { broken = here; least = cases } where
        cases : (r b : ℕ) → IsBroken bytes r b → IsAfter rule bit r b
        cases r b (by_fixed f) = absurd (fixed_none fixed r b f)
        cases r b (by_entry i low e) = absurd (entry_none (count bytes) fixed placed (Some index) one i r b low e)
        cases r b (c6 h) = absurd (h index one.below one.named)
        cases r b (c5 i low p l) = long i low l
        cases r b (by_shader i low p named s) = shader r b (subst (λ (k : ℕ). BreaksShader bytes (header bytes k) r b) (one.only i low named) s)

      -- a part passes the container, and what the DXIL part breaks is not before it
      pub first_c5 : (bit : ℕ) → LeastLong bytes (count bytes) bit → ((r b : ℕ) → BreaksShader bytes (header bytes index) r b → bit ≤ b) → IsFirst (IsBroken bytes) 5 bit
      first_c5 bit l h = least_part 5 bit (subst (λ (b : ℕ). IsBroken bytes 5 b) (sym l.is) (c5 l.index l.below (placed l.index l.below) l.long)) (λ k low x. at_least (l.least k low x) 5 (omega arith))
          (λ r b s. at_least (h r b s) r (omega (arith, (shader_rank (header bytes index) r b s).1))) where
            at_least : {b : ℕ} → bit ≤ b → (r : ℕ) → 5 ≤ r → IsAfter 5 bit r b
            at_least {b} le r up = elim (cases_lt bit b) [ inl lt ↦ inl lt | inr ge ↦ inr (omega arith, up) ]

      -- the DXIL part breaks a rule, and each part that passes the container has a later bit
      pub first_shader : (rule bit : ℕ) → IsFirst (BreaksShader bytes (header bytes index)) rule bit → ((k : ℕ) → k < count bytes → IsLong bytes (header bytes k) → bit < 8 * (header bytes k + 4)) → IsFirst (IsBroken bytes) rule bit
      first_shader rule bit f h = least_part rule bit (by_shader index one.below (placed index one.below) one.named f.broken) (λ k low x. inl (h k low x)) f.least

    pub sound : (index : ℕ) → OneNamed bytes (count bytes) index → NoneLong bytes (count bytes) → ((r b : ℕ) → BreaksShader bytes (header bytes index) r b → ⊥) → IsSound (IsBroken bytes)
    sound index one none shader = record { none = cases } where
      cases : (r b : ℕ) → IsBroken bytes r b → ⊥
      cases r b (by_fixed f) = fixed_none fixed r b f
      cases r b (by_entry i low e) = entry_none (count bytes) fixed placed (Some index) one i r b low e
      cases r b (c6 h) = h index one.below one.named
      cases r b (c5 i low p l) = none.none i low l
      cases r b (by_shader i low p named s) = shader r b (subst (λ (k : ℕ). BreaksShader bytes (header bytes k) r b) (one.only i low named) s)

  -- what the data of a sound DXIL part break
  pub shader_none : (at : ℕ) → IsShader bytes at → (r b : ℕ) → BreaksShader bytes at r b → ⊥
  shader_none at s r b (c8_short h) = omega (arith, s.long)
  shader_none at s r b (c8_program h) = h s.program
  shader_none at s r b (c8_magic h) = h s.magic
  shader_none at s r b (c8_dxil h) = h s.dxil
  shader_none at s r b (c9 h) = omega (arith, s.within)

  -- the first rule that the data of a DXIL part break
  module _ (at : ℕ) where
    pub first_c8_short : data_size bytes at < 24 → IsFirst (BreaksShader bytes at) 8 (8 * (at + 4))
    first_c8_short h = record { broken = c8_short h; least = cases } where
      cases : (r b : ℕ) → BreaksShader bytes at r b → IsAfter 8 (8 * (at + 4)) r b
      cases r b (c8_short x) = inr (refl, omega arith)
      cases r b (c8_program x) = inl (omega arith)
      cases r b (c8_magic x) = inl (omega arith)
      cases r b (c8_dxil x) = inl (omega arith)
      cases r b (c9 x) = inl (omega arith)

    module _ (long : 24 ≤ data_size bytes at) where
      pub first_c8_program : (IsProgram (program_version bytes at) → ⊥) → IsFirst (BreaksShader bytes at) 8 (8 * (at + 8))
      first_c8_program h = record { broken = c8_program h; least = cases } where
        cases : (r b : ℕ) → BreaksShader bytes at r b → IsAfter 8 (8 * (at + 8)) r b
        cases r b (c8_short x) = absurd (omega arith)
        cases r b (c8_program x) = inr (refl, omega arith)
        cases r b (c8_magic x) = inl (omega arith)
        cases r b (c8_dxil x) = inl (omega arith)
        cases r b (c9 x) = inl (omega arith)

      module _ (program : IsProgram (program_version bytes at)) where
        pub first_c8_magic : (characters bytes (at + 16) ≡ codes "DXIL" → ⊥) → IsFirst (BreaksShader bytes at) 8 (8 * (at + 16))
        first_c8_magic h = record { broken = c8_magic h; least = cases } where
          cases : (r b : ℕ) → BreaksShader bytes at r b → IsAfter 8 (8 * (at + 16)) r b
          cases r b (c8_short x) = absurd (omega arith)
          cases r b (c8_program x) = absurd (x program)
          cases r b (c8_magic x) = inr (refl, omega arith)
          cases r b (c8_dxil x) = inl (omega arith)
          cases r b (c9 x) = inl (omega arith)

        module _ (magic : characters bytes (at + 16) ≡ codes "DXIL") where
          pub first_c8_dxil : (IsDxilVersion (dxil_version bytes at) → ⊥) → IsFirst (BreaksShader bytes at) 8 (8 * (at + 20))
          first_c8_dxil h = record { broken = c8_dxil h; least = cases } where
            cases : (r b : ℕ) → BreaksShader bytes at r b → IsAfter 8 (8 * (at + 20)) r b
            cases r b (c8_short x) = absurd (omega arith)
            cases r b (c8_program x) = absurd (x program)
            cases r b (c8_magic x) = absurd (x magic)
            cases r b (c8_dxil x) = inr (refl, omega arith)
            cases r b (c9 x) = inl (omega arith)

          pub first_c9 : IsDxilVersion (dxil_version bytes at) → data_size bytes at < 8 + bitcode_offset bytes at + bitcode_size bytes at → IsFirst (BreaksShader bytes at) 9 (8 * (at + 24))
          first_c9 dxil h = record { broken = c9 h; least = cases } where
            cases : (r b : ℕ) → BreaksShader bytes at r b → IsAfter 9 (8 * (at + 24)) r b
            cases r b (c8_short x) = absurd (omega arith)
            cases r b (c8_program x) = absurd (x program)
            cases r b (c8_magic x) = absurd (x magic)
            cases r b (c8_dxil x) = absurd (x dxil)
            cases r b (c9 x) = inr (refl, omega arith)
