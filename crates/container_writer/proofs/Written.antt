-- The bytes of a container carry its parts.
use Rattle.std.proofs.Common.{ℕ, ◌≡◌, ◌+◌, ◌/◌, ◌^◌, ◌<◌, ◌≤◌, inl, inr, refl, sym, ◌∙◌, ap, subst, arith, List, [], ◌∷◌, ◌++◌, length, take, length-append, append-nil, Some}
use Rattle.std.specs.Prelude.{slice_get, codes}
use Rattle.std.specs.List.{flat_map, sum_by}
use Rattle.std.proofs.lemmas.Option.{slice_get_cases, slice_get_within}
use Rattle.std.proofs.lemmas.List.{take-append-le}
use Rattle.std.proofs.lemmas.List.Concat.{flat_map-cons}
use Rattle.std.proofs.lemmas.Grind.{flat_map-append}
use Rattle.std.proofs.lemmas.List.Sums.{sum_by-cons, sum_by-append}
use Rattle.dxbc_container.specs.declared.part.Part.{Part}
use Rattle.dxbc_container.specs.declared.part.Parts.{Parts}
use Rattle.dxbc_container.specs.Layout.{entry, header, count, number, characters, IsNamedDxil, IsPart, IsShader, Carries, bitcode_offset, bitcode_size}
use Rattle.container_writer.specs.declared.part.NewPart.{NewPart}
use Rattle.container_writer.specs.Writing.{room, container_size, IsCopy, IsWritten}
use Rattle.container_writer.specs.Laying.{word, part_bytes, places_from, shader_head, shader_part, fixed, all_parts, container}
use Rattle.container_writer.proofs.Stands.{Stands, stands_left, stands_right, stands_at, holds_of, characters_of, number_of, length-word}
use Rattle.container_writer.proofs.Parts.{length-head, length-shader, parts_from, length-parts, told, told_only, get_left, get_last, get_cases, AreNamed, four_pieces}
use Rattle.container_writer.proofs.Laid.{IsLaid, length-bytes, magic_is, digest_is, version_is, size_is, count_is, name_is, data_is, content_there, is_part, is_copy}

-- the container that is written
module _ (minor : ℕ) (others : List NewPart) (bitcode bytes : List ℕ) (is : bytes ≡ container minor others bitcode) (latest : minor ≤ 2) (named : AreNamed others)
    (names : (i : ℕ) (p : NewPart) → slice_get others i ≡ Some p → p.name ≡ codes "DXIL" → ⊥) (small : container_size others bitcode ≤ 2 ^ 26) where
  count_all : length (all_parts minor others bitcode) ≡ length others + 1
  count_all = length-append others (shader_part minor bitcode ∷ [])

  all_named : AreNamed (all_parts minor others bitcode)
  all_named i p e = elim (get_cases others (shader_part minor bitcode) p i e) [ inl a ↦ named i p a | inr b ↦ ap (λ (q : NewPart). length q.name) (sym b.1) ]

  rooms : sum_by room (all_parts minor others bitcode) ≡ sum_by room others + (32 + length bitcode)
  rooms = omega (arith, sum_by-append room others (shader_part minor bitcode ∷ []), sum_by-cons room (shader_part minor bitcode) [], length-shader minor bitcode)

  pub laid : IsLaid bytes (container_size others bitcode) (all_parts minor others bitcode)
  laid = record {
    named = all_named;
    laid = is ∙ ap (λ (n : ℕ). fixed (container_size others bitcode) n ++ (flat_map word (places_from (entry n) (all_parts minor others bitcode)) ++ flat_map part_bytes (all_parts minor others bitcode))) (sym count_all);
    long = omega (arith, count_all, rooms);
    small = omega (arith, small);
  }

  shader_there : slice_get (all_parts minor others bitcode) (length others) ≡ Some (shader_part minor bitcode)
  shader_there = get_last others (shader_part minor bitcode)

  h : ℕ
  h = header bytes (length others)

  head_there : Stands bytes (h + 8) (shader_head minor (length bitcode) ++ bitcode)
  unfolding h
  head_there = content_there laid (length others) (shader_part minor bitcode) shader_there

  head_only : Stands bytes (h + 8) (word (0x00050060 + minor) ++ (word ((length bitcode + 27) / 4) ++ (codes "DXIL" ++ (word (0x100 + minor) ++ (word 16 ++ word (length bitcode))))))
  unfolding shader_head
  head_only = stands_left bytes (h + 8) (shader_head minor (length bitcode)) bitcode head_there

  behind : (at n : ℕ) (rest : List ℕ) → Stands bytes at (word n ++ rest) → Stands bytes (at + 4) rest
  behind at n rest s = stands_at bytes rest (at + length (word n)) (at + 4) (omega (arith, length-word n)) (stands_right bytes at (word n) rest s)

  behind_words : Stands bytes (h + 16) (codes "DXIL" ++ (word (0x100 + minor) ++ (word 16 ++ word (length bitcode))))
  behind_words = stands_at bytes (codes "DXIL" ++ (word (0x100 + minor) ++ (word 16 ++ word (length bitcode)))) (h + 8 + 4 + 4) (h + 16) (omega arith)
      (behind (h + 8 + 4) ((length bitcode + 27) / 4) (codes "DXIL" ++ (word (0x100 + minor) ++ (word 16 ++ word (length bitcode)))) (behind (h + 8) (0x00050060 + minor) (word ((length bitcode + 27) / 4) ++ (codes "DXIL" ++ (word (0x100 + minor) ++ (word 16 ++ word (length bitcode))))) head_only))

  behind_dxil : Stands bytes (h + 20) (word (0x100 + minor) ++ (word 16 ++ word (length bitcode)))
  behind_dxil = stands_at bytes (word (0x100 + minor) ++ (word 16 ++ word (length bitcode))) (h + 16 + 4) (h + 20) (omega arith) (stands_right bytes (h + 16) (codes "DXIL") (word (0x100 + minor) ++ (word 16 ++ word (length bitcode))) behind_words)

  behind_dxil_version : Stands bytes (h + 24) (word 16 ++ word (length bitcode))
  behind_dxil_version = stands_at bytes (word 16 ++ word (length bitcode)) (h + 20 + 4) (h + 24) (omega arith) (behind (h + 20) (0x100 + minor) (word 16 ++ word (length bitcode)) behind_dxil)

  size_there : Stands bytes (h + 28) (word (length bitcode))
  size_there = stands_at bytes (word (length bitcode)) (h + 24 + 4) (h + 28) (omega arith) (behind (h + 24) 16 (word (length bitcode)) behind_dxil_version)

  bitcode_there : Stands bytes (h + 32) bitcode
  bitcode_there = stands_at bytes bitcode (h + 8 + length (shader_head minor (length bitcode))) (h + 32) (omega (arith, length-head minor (length bitcode))) (stands_right bytes (h + 8) (shader_head minor (length bitcode)) bitcode head_there)

  program_is : number bytes (h + 8) ≡ 0x00050060 + minor
  program_is = number_of bytes (h + 8) (0x00050060 + minor) (omega (arith, latest)) (stands_left bytes (h + 8) (word (0x00050060 + minor)) (word ((length bitcode + 27) / 4) ++ (codes "DXIL" ++ (word (0x100 + minor) ++ (word 16 ++ word (length bitcode))))) head_only)

  shader_magic : characters bytes (h + 16) ≡ codes "DXIL"
  shader_magic = characters_of bytes (h + 16) (codes "DXIL") (stands_left bytes (h + 16) (codes "DXIL") (word (0x100 + minor) ++ (word 16 ++ word (length bitcode))) behind_words) refl

  dxil_is : number bytes (h + 20) ≡ 0x100 + minor
  dxil_is = number_of bytes (h + 20) (0x100 + minor) (omega (arith, latest)) (stands_left bytes (h + 20) (word (0x100 + minor)) (word 16 ++ word (length bitcode)) behind_dxil)

  offset_is : number bytes (h + 24) ≡ 16
  offset_is = number_of bytes (h + 24) 16 (omega arith) (stands_left bytes (h + 24) (word 16) (word (length bitcode)) behind_dxil_version)

  bitcode_long : number bytes (h + 28) ≡ length bitcode
  bitcode_long = number_of bytes (h + 28) (length bitcode) (omega (arith, small)) size_there

  data_long : number bytes (h + 4) ≡ 24 + length bitcode
  unfolding h
  data_long = data_is laid (length others) (shader_part minor bitcode) shader_there ∙ length-shader minor bitcode

  is_shader : IsShader bytes h
  is_shader = record {
    long = omega (arith, data_long);
    program = (omega (arith, program_is), omega (arith, program_is, latest));
    magic = shader_magic;
    dxil = (omega (arith, dxil_is), omega (arith, dxil_is, latest));
    within = omega (arith, offset_is, bitcode_long, data_long);
  }

  list : List Part
  list = parts_from (entry (length (all_parts minor others bitcode))) (all_parts minor others bitcode)

  sum_others : (i : ℕ) → i ≤ length others → sum_by room (take i (all_parts minor others bitcode)) ≡ sum_by room (take i others)
  sum_others i low = ap (sum_by room) (take-append-le i others (shader_part minor bitcode ∷ []) low)

  part_is : (i : ℕ) (q : Part) → slice_get list i ≡ Some q → IsPart bytes i q
  unfolding list
  part_is i q e =
      let x = told_only (entry (length (all_parts minor others bitcode))) (all_parts minor others bitcode) i q e in
      subst (λ (r : Part). IsPart bytes i r) x.2 (is_part laid i x.0 x.1)

  only_is : (i : ℕ) → i < count bytes → IsNamedDxil bytes (header bytes i) → i ≡ length others
  only_is i low d = elim (slice_get_cases (all_parts minor others bitcode) i).1 [
    | inl x ↦ elim (get_cases others (shader_part minor bitcode) x.0 i x.2) [
      | inl a ↦ absurd (names i x.0 a (sym (name_is laid i x.0 x.2) ∙ d.name))
      | inr b ↦ b.0
    ]
    | inr y ↦ absurd (omega (arith, y.0, low, count_is laid))
  ]

  place_is : (i : ℕ) (q : Part) → slice_get list i ≡ Some q → q.at ≡ entry (length others + 1) + sum_by room (take i others)
  unfolding list
  place_is i q e =
      let x = told_only (entry (length (all_parts minor others bitcode))) (all_parts minor others bitcode) i q e in
      omega (arith, ap (λ (r : Part). r.at) x.2, count_all, sum_others i (omega (arith, slice_get_within (all_parts minor others bitcode) i x.0 x.1, count_all)))

  copy_of : (i : ℕ) (p : NewPart) → slice_get others i ≡ Some p → (q : Part) × (slice_get list i ≡ Some q) × IsCopy bytes q p
  unfolding list
  copy_of i p e =
      let there : slice_get (all_parts minor others bitcode) i ≡ Some p = get_left others (shader_part minor bitcode ∷ []) i p e in (
        record { name = p.name; at = entry (length (all_parts minor others bitcode)) + sum_by room (take i (all_parts minor others bitcode)); size = length p.content },
        told (entry (length (all_parts minor others bitcode))) (all_parts minor others bitcode) i p there,
        is_copy laid i p there,
      )

  count_list : length list ≡ length others + 1
  unfolding list
  count_list = length-parts (entry (length (all_parts minor others bitcode))) (all_parts minor others bitcode) ∙ count_all

  parts : Parts
  parts = record { list = list; dxil = length others; from = h + 16 + bitcode_offset bytes h; to = h + 16 + bitcode_offset bytes h + bitcode_size bytes h }

  h_is : h ≡ header bytes (length others)
  unfolding h
  h_is = refl

  carried : Carries bytes (record { list = list; dxil = length others; from = h + 16 + bitcode_offset bytes h; to = h + 16 + bitcode_offset bytes h + bitcode_size bytes h })
  unfolding h
  carried = record {
    long = omega (arith, length-bytes laid);
    magic = magic_is laid;
    version_is = version_is laid;
    size_low = omega (arith, size_is laid);
    size_high = omega (arith, size_is laid, length-bytes laid);
    table = omega (arith, size_is laid, count_is laid, count_all);
    counted = omega (arith, count_list, count_is laid, count_all);
    each = part_is;
    dxil_below = omega (arith, count_is laid, count_all);
    dxil_named = record { name = name_is laid (length others) (shader_part minor bitcode) shader_there };
    only = only_is;
    shader = is_shader;
    from_is = refl;
    to_is = refl;
  }

  pub written : IsWritten minor others bitcode bytes
  unfolding h
  written = record {
    parts = record { list = list; dxil = length others; from = h + 16 + bitcode_offset bytes h; to = h + 16 + bitcode_offset bytes h + bitcode_size bytes h };
    carries = carried;
    counted = count_list;
    long = length-bytes laid;
    size_is = size_is laid ∙ sym (length-bytes laid);
    digest = digest_is laid;
    each = copy_of;
    places = place_is;
    last = refl;
    program = program_is;
    dxil = dxil_is;
    offset = offset_is;
    bitcode_long = bitcode_long;
    bitcode_is = holds_of bytes (h + 16 + bitcode_offset bytes h) bitcode (stands_at bytes bitcode (h + 32) (h + 16 + bitcode_offset bytes h) (omega (arith, offset_is)) bitcode_there);
  }

-- the pieces in the order in which they are written
pub container_is : (minor : ℕ) (others : List NewPart) (bitcode first a b c final places : List ℕ) (whole n : ℕ) → first ≡ [] → a ≡ first ++ fixed whole n → whole ≡ container_size others bitcode → n ≡ length others + 1 → b ≡ a ++ flat_map word places
    → places ≡ places_from (entry (length others + 1)) (all_parts minor others bitcode) → c ≡ b ++ flat_map part_bytes others → final ≡ c ++ part_bytes (shader_part minor bitcode) → final ≡ container minor others bitcode
container_is minor others bitcode first a b c final places whole n none begin is_whole is_n table is_places parts last =
    let one : flat_map part_bytes (shader_part minor bitcode ∷ []) ≡ part_bytes (shader_part minor bitcode) = flat_map-cons part_bytes (shader_part minor bitcode) [] ∙ append-nil (part_bytes (shader_part minor bitcode)) in
    let all : flat_map part_bytes others ++ part_bytes (shader_part minor bitcode) ≡ flat_map part_bytes (all_parts minor others bitcode) =
    ap (λ l. flat_map part_bytes others ++ l) (sym one) ∙ sym (flat_map-append part_bytes others (shader_part minor bitcode ∷ [])) in
    let laid = four_pieces first a b c final (fixed whole n) (flat_map word places) (flat_map part_bytes others) (part_bytes (shader_part minor bitcode)) begin table parts last in
    laid
    ∙ ap (λ l. l ++ (fixed whole n ++ (flat_map word places ++ (flat_map part_bytes others ++ part_bytes (shader_part minor bitcode))))) none
    ∙ ap (λ l. fixed whole n ++ (flat_map word places ++ l)) all
    ∙ ap (λ l. fixed whole n ++ (flat_map word l ++ flat_map part_bytes (all_parts minor others bitcode))) is_places
    ∙ ap (λ (m : ℕ). fixed m n ++ (flat_map word (places_from (entry (length others + 1)) (all_parts minor others bitcode)) ++ flat_map part_bytes (all_parts minor others bitcode))) is_whole
    ∙ ap (λ (m : ℕ). fixed (container_size others bitcode) m ++ (flat_map word (places_from (entry (length others + 1)) (all_parts minor others bitcode)) ++ flat_map part_bytes (all_parts minor others bitcode))) is_n
