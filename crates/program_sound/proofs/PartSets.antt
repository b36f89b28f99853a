-- The part that an EXTRACTVAL takes is set by the line that gives the value, with the type of the part.
use Rattle.std.proofs.Common.{ℕ, zero, suc, ◌≡◌, ◌+◌, ◌*◌, ◌/◌, ◌%◌, ◌^◌, ◌≤◌, refl, ap, ◌∙◌, arith, Bool, true, false, ◌&&◌, nat_eq, List, [], ◌∷◌, length, get_or, slice_get, Contains, Option, Some, None}
use Rattle.std.specs.List.{list_any}
use Rattle.std.proofs.lemmas.Bool.{and_parts, eq-eqb}
use Rattle.dxil_form.specs.Registers.{parts_of}
use Rattle.llvm_types.specs.declared.kind.LlvmType.{LlvmType}
use Rattle.llvm_types.specs.declared.kind.LlvmType.TheVariants as types
use Rattle.llvm_bodies.specs.declared.line.Line.{Line}
use Rattle.profile_lines.specs.Pool.{Pool}
use Rattle.profile_lines.specs.Values.{kind_in, members, member, member_in, numbered}
use Rattle.profile_lines.specs.declared.known.ValueKind.TheVariants.{Int}
use Rattle.profile_lines.specs.declared.known.ValueType.{ValueType}
use Rattle.profile_lines.specs.declared.known.ValueType.TheVariants.{Numbered}
use Rattle.profile_tables.specs.declared.masks.Taken.{Taken}
use Rattle.profile_tables.specs.Parts.{mask_in, taken_of, takes, bit_if}
use Rattle.profile_rules.specs.Asked.{has_parts, is_word, type_behind}
use Rattle.program_sound.proofs.Lists.{filter_contains}
use Rattle.program_sound.proofs.ValueKinds.{i32_kind}

-- ---- the parts of a mask

bit_is : (a : Bool) (n : ℕ) → bit_if a n ≡ n * bit_if a 1
bit_is true n = omega arith
bit_is false n = omega arith

bit_low : (a : Bool) → bit_if a 1 ≤ 1
bit_low true = omega arith
bit_low false = omega arith

one_bit : (a : Bool) (n : ℕ) → a ≡ true → n ≡ bit_if a 1 → nat_eq n 1 ≡ true
one_bit a n e f = eq-eqb n 1 (f ∙ ap (λ b. bit_if b 1) e)

abbrev pub nth_taken : Taken → ℕ → Bool
nth_taken t zero = t.x
nth_taken t (suc zero) = t.y
nth_taken t (suc (suc zero)) = t.z
nth_taken t (suc (suc (suc n))) = t.w

pub mask_bit : (t : Taken) (n : ℕ) → n ≤ 3 → nth_taken t n ≡ true → Contains (parts_of (mask_in t)) n
mask_bit t n l e = go n l e where
  bits : (mask_in t ≡ bit_if t.x 1 + 2 * bit_if t.y 1 + 4 * bit_if t.z 1 + 8 * bit_if t.w 1)
  bits = omega (arith, bit_is t.y 2, bit_is t.z 4, bit_is t.w 8)

  go : (k : ℕ) → k ≤ 3 → nth_taken t k ≡ true → Contains (parts_of (mask_in t)) k
  go zero h f = filter_contains (λ c. nat_eq (mask_in t / 2 ^ c % 2) 1) (0 ∷ 1 ∷ 2 ∷ 3 ∷ []) 0 0 refl (one_bit t.x _ f (omega (arith, bits, bit_low t.x, bit_low t.y, bit_low t.z, bit_low t.w)))
  go (suc zero) h f = filter_contains (λ c. nat_eq (mask_in t / 2 ^ c % 2) 1) (0 ∷ 1 ∷ 2 ∷ 3 ∷ []) 1 1 refl (one_bit t.y _ f (omega (arith, bits, bit_low t.x, bit_low t.y, bit_low t.z, bit_low t.w)))
  go (suc (suc zero)) h f = filter_contains (λ c. nat_eq (mask_in t / 2 ^ c % 2) 1) (0 ∷ 1 ∷ 2 ∷ 3 ∷ []) 2 2 refl (one_bit t.z _ f (omega (arith, bits, bit_low t.x, bit_low t.y, bit_low t.z, bit_low t.w)))
  go (suc (suc (suc zero))) h f = filter_contains (λ c. nat_eq (mask_in t / 2 ^ c % 2) 1) (0 ∷ 1 ∷ 2 ∷ 3 ∷ []) 3 3 refl (one_bit t.w _ f (omega (arith, bits, bit_low t.x, bit_low t.y, bit_low t.z, bit_low t.w)))
  go (suc (suc (suc (suc k)))) h f = absurd (omega arith)

pub taken_at : (lines : List Line) (v n : ℕ) → n ≤ 3 → list_any (takes v n) lines ≡ true → nth_taken (taken_of lines v) n ≡ true
taken_at lines v zero l e = e
taken_at lines v (suc zero) l e = e
taken_at lines v (suc (suc zero)) l e = e
taken_at lines v (suc (suc (suc zero))) l e = e
taken_at lines v (suc (suc (suc (suc n)))) l e = absurd (omega arith)

-- ---- the types of parts

pub first_member : (x : Pool) (t : ValueType) (ns : List ℕ) → length ns ≡ 1 → members x t ns ≡ member x t (get_or ns 0 0)
first_member x t [] e = absurd (omega (arith, e))
first_member x t (n ∷ []) e = refl
first_member x t (n ∷ m ∷ ns) e = absurd (omega (arith, e))

word_kind : (x : Pool) (o : Option ℕ) → is_word x o ≡ true → kind_in x (numbered o) ≡ Int
word_kind x None e = cc
word_kind x (Some ty) e = i32_kind (slice_get x.types ty) e

part_kind : (x : Pool) (o : Option LlvmType) (n : ℕ) → has_parts x o ≡ true → n ≤ 3 → kind_in x (member_in o n) ≡ Int
part_kind x None n e l = cc
part_kind x (Some (types.Struct fields)) n e l = go n l where
  third : (is_word x (slice_get fields 0) && is_word x (slice_get fields 1) && is_word x (slice_get fields 2) ≡ true) × (is_word x (slice_get fields 3) ≡ true)
  third = and_parts (is_word x (slice_get fields 0) && is_word x (slice_get fields 1) && is_word x (slice_get fields 2)) (is_word x (slice_get fields 3)) e

  second : (is_word x (slice_get fields 0) && is_word x (slice_get fields 1) ≡ true) × (is_word x (slice_get fields 2) ≡ true)
  second = and_parts (is_word x (slice_get fields 0) && is_word x (slice_get fields 1)) (is_word x (slice_get fields 2)) third.0

  first : (is_word x (slice_get fields 0) ≡ true) × (is_word x (slice_get fields 1) ≡ true)
  first = and_parts (is_word x (slice_get fields 0)) (is_word x (slice_get fields 1)) second.0

  go : (k : ℕ) → k ≤ 3 → kind_in x (numbered (slice_get fields k)) ≡ Int
  go zero h = word_kind x (slice_get fields 0) first.0
  go (suc zero) h = word_kind x (slice_get fields 1) first.1
  go (suc (suc zero)) h = word_kind x (slice_get fields 2) second.1
  go (suc (suc (suc zero))) h = word_kind x (slice_get fields 3) third.1
  go (suc (suc (suc (suc k)))) h = absurd (omega arith)
part_kind x (Some rest) n e l = cc

pub call_part : (x : Pool) (t : ValueType) (n : ℕ) → has_parts x (type_behind x t) ≡ true → n ≤ 3 → kind_in x (member x t n) ≡ Int
call_part x (Numbered ty) n e l = part_kind x (slice_get x.types ty) n e l
call_part x t n e l = cc
