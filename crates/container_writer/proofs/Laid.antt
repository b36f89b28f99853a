-- What stands in a container of any parts.
use Rattle.std.proofs.Common.{ℕ, ◌≡◌, ◌+◌, ◌*◌, ◌^◌, ◌<◌, ◌≤◌, refl, sym, ap, subst, arith, List, ◌++◌, length, take, length-append, Some}
use Rattle.std.specs.Prelude.{slice_get, codes, replicate}
use Rattle.std.specs.List.{flat_map, sum_by}
use Rattle.std.proofs.lemmas.Option.{slice_get_within, get_or_from_slice_get}
use Rattle.std.proofs.lemmas.List.{length-take-le}
use Rattle.std.proofs.lemmas.List.Sums.{sum_by-take-le, sum_by_more_le}
use Rattle.dxbc_container.specs.Layout.{entry, header, size, count, number, characters, data_size, IsPlaced, IsPart}
use Rattle.container_writer.specs.declared.part.NewPart.{NewPart}
use Rattle.container_writer.specs.Writing.{room, Holds, IsCopy}
use Rattle.container_writer.specs.Laying.{word, part_bytes, places_from, fixed}
use Rattle.container_writer.proofs.Places.{length-places}
use Rattle.container_writer.proofs.Stands.{Stands, stands_all, stands_left, stands_right, stands_at, stands_of, holds_of, characters_of, number_of, length-word, length-words}
use Rattle.container_writer.proofs.Parts.{length-fixed, place_of, AreNamed, length-part_bytes, named_take}

-- a container of any parts
pub record IsLaid (bytes : List ℕ) (whole : ℕ) (all : List NewPart) : Type 0 where
  pub named : AreNamed all
  pub laid : bytes ≡ fixed whole (length all) ++ (flat_map word (places_from (entry (length all)) all) ++ flat_map part_bytes all)
  pub long : entry (length all) + sum_by room all ≡ whole
  pub small : whole < 2 ^ 32

module _ {bytes : List ℕ} {whole : ℕ} {all : List NewPart} (l : IsLaid bytes whole all) where
  fixed_there : Stands bytes 0 (fixed whole (length all))
  fixed_there = stands_left bytes 0 (fixed whole (length all)) (flat_map word (places_from (entry (length all)) all) ++ flat_map part_bytes all) (subst (λ xs. Stands bytes 0 xs) l.laid (stands_all bytes))

  behind_fixed : Stands bytes 32 (flat_map word (places_from (entry (length all)) all) ++ flat_map part_bytes all)
  behind_fixed =
      stands_at bytes (flat_map word (places_from (entry (length all)) all) ++ flat_map part_bytes all) (0 + length (fixed whole (length all))) 32 (omega (arith, length-fixed whole (length all)))
      (stands_right bytes 0 (fixed whole (length all)) (flat_map word (places_from (entry (length all)) all) ++ flat_map part_bytes all) (subst (λ xs. Stands bytes 0 xs) l.laid (stands_all bytes)))

  table_there : Stands bytes 32 (flat_map word (places_from (entry (length all)) all))
  table_there = stands_left bytes 32 (flat_map word (places_from (entry (length all)) all)) (flat_map part_bytes all) behind_fixed

  length-table : length (flat_map word (places_from (entry (length all)) all)) ≡ 4 * length all
  length-table = omega (arith, length-words (places_from (entry (length all)) all), length-places (entry (length all)) all)

  parts_there : Stands bytes (entry (length all)) (flat_map part_bytes all)
  parts_there = stands_at bytes (flat_map part_bytes all) (32 + length (flat_map word (places_from (entry (length all)) all))) (entry (length all)) (omega (arith, length-table))
      (stands_right bytes 32 (flat_map word (places_from (entry (length all)) all)) (flat_map part_bytes all) behind_fixed)

  pub length-bytes : length bytes ≡ whole
  length-bytes = omega (
    arith,
    ap length l.laid,
    length-append (fixed whole (length all)) (flat_map word (places_from (entry (length all)) all) ++ flat_map part_bytes all),
    length-append (flat_map word (places_from (entry (length all)) all)) (flat_map part_bytes all),
    length-part_bytes all l.named,
    length-fixed whole (length all),
    length-table,
    l.long,
  )

  -- the fixed bytes
  pub magic_is : characters bytes 0 ≡ codes "DXBC"
  magic_is = characters_of bytes 0 (codes "DXBC") (stands_left bytes 0 (codes "DXBC") (replicate 16 0 ++ (word 1 ++ (word whole ++ word (length all)))) (unfold fixed in fixed_there)) refl

  behind_magic : Stands bytes 4 (replicate 16 0 ++ (word 1 ++ (word whole ++ word (length all))))
  behind_magic = stands_right bytes 0 (codes "DXBC") (replicate 16 0 ++ (word 1 ++ (word whole ++ word (length all)))) (unfold fixed in fixed_there)

  pub digest_is : Holds bytes 4 (replicate 16 0)
  digest_is = holds_of bytes 4 (replicate 16 0) (stands_left bytes 4 (replicate 16 0) (word 1 ++ (word whole ++ word (length all))) behind_magic)

  behind_digest : Stands bytes 20 (word 1 ++ (word whole ++ word (length all)))
  behind_digest = stands_right bytes 4 (replicate 16 0) (word 1 ++ (word whole ++ word (length all))) behind_magic

  pub version_is : number bytes 20 ≡ 1
  version_is = number_of bytes 20 1 (omega arith) (stands_left bytes 20 (word 1) (word whole ++ word (length all)) behind_digest)

  behind_version : Stands bytes 24 (word whole ++ word (length all))
  behind_version = stands_at bytes (word whole ++ word (length all)) (20 + length (word 1)) 24 (omega (arith, length-word 1)) (stands_right bytes 20 (word 1) (word whole ++ word (length all)) behind_digest)

  pub size_is : size bytes ≡ whole
  size_is = number_of bytes 24 whole l.small (stands_left bytes 24 (word whole) (word (length all)) behind_version)

  pub count_is : count bytes ≡ length all
  count_is =
      number_of bytes 28 (length all) (omega (arith, l.long, l.small)) (stands_at bytes (word (length all)) (24 + length (word whole)) 28 (omega (arith, length-word whole)) (stands_right bytes 24 (word whole) (word (length all)) behind_version))

  -- part i
  module _ (i : ℕ) (p : NewPart) (there : slice_get all i ≡ Some p) where
    low : i < length all
    low = slice_get_within all i p there

    pub header_is : header bytes i ≡ entry (length all) + sum_by room (take i all)
    header_is = number_of bytes (entry i) (entry (length all) + sum_by room (take i all)) (omega (arith, sum_by-take-le room all i, l.long, l.small))
        (stands_at bytes (word (entry (length all) + sum_by room (take i all))) (32 + length (flat_map word (take i (places_from (entry (length all)) all)))) (entry i)
        (omega (arith, length-words (take i (places_from (entry (length all)) all)), length-take-le i (places_from (entry (length all)) all) (omega (arith, length-places (entry (length all)) all, low))))
        (stands_of word bytes 32 (places_from (entry (length all)) all) i (entry (length all) + sum_by room (take i all)) table_there (place_of (entry (length all)) all i p there)))

    part_there : Stands bytes (header bytes i) (part_bytes p)
    part_there = stands_at bytes (part_bytes p) (entry (length all) + length (flat_map part_bytes (take i all))) (header bytes i) (omega (arith, length-part_bytes (take i all) (named_take all i l.named), header_is))
        (stands_of part_bytes bytes (entry (length all)) all i p parts_there there)

    name_there : Stands bytes (header bytes i) p.name
    name_there = stands_left bytes (header bytes i) p.name (word (length p.content) ++ p.content) (unfold part_bytes in part_there)

    pub name_is : characters bytes (header bytes i) ≡ p.name
    name_is = characters_of bytes (header bytes i) p.name name_there (l.named i p there)

    behind_name : Stands bytes (header bytes i + 4) (word (length p.content) ++ p.content)
    behind_name =
        stands_at bytes (word (length p.content) ++ p.content) (header bytes i + length p.name) (header bytes i + 4) (omega (arith, l.named i p there))
        (stands_right bytes (header bytes i) p.name (word (length p.content) ++ p.content) (unfold part_bytes in part_there))

    room_of : sum_by room (take i all) + room p ≤ sum_by room all
    room_of = omega (arith, ap room (get_or_from_slice_get all i p p there), sum_by_more_le room all i p low)

    pub data_is : data_size bytes (header bytes i) ≡ length p.content
    data_is = number_of bytes (header bytes i + 4) (length p.content) (omega (arith, room_of, l.long, l.small)) (stands_left bytes (header bytes i + 4) (word (length p.content)) p.content behind_name)

    pub content_there : Stands bytes (header bytes i + 8) p.content
    content_there =
        stands_at bytes p.content (header bytes i + 4 + length (word (length p.content))) (header bytes i + 8) (omega (arith, length-word (length p.content)))
        (stands_right bytes (header bytes i + 4) (word (length p.content)) p.content behind_name)

    pub placed_is : IsPlaced bytes (header bytes i)
    placed_is = record { behind = omega (arith, header_is, count_is); within = omega (arith, header_is, room_of, l.long, size_is) }

    pub is_part : IsPart bytes i (record { name = p.name; at = entry (length all) + sum_by room (take i all); size = length p.content })
    is_part = record { placed = placed_is; at = sym header_is; name = sym name_is; size_is = sym data_is; within = omega (arith, header_is, data_is, room_of, l.long, size_is) }

    pub is_copy : IsCopy bytes (record { name = p.name; at = entry (length all) + sum_by room (take i all); size = length p.content }) p
    is_copy = record { name = refl; size_is = refl; content = holds_of bytes (entry (length all) + sum_by room (take i all) + 8) p.content (stands_at bytes p.content (header bytes i + 8) (entry (length all) + sum_by room (take i all) + 8) (ap (λ (n : ℕ). n + 8) header_is) content_there) }
