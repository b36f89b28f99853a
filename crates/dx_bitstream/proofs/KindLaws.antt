-- Kinds of blocks and their ids.
use Rattle.std.proofs.Common.{ap, refl, sym, ◌∙◌, subst, ℕ, ◌≡◌, ◌≤◌, ◌^◌, arith, Some, None, Option, Bool, true, false, ◌&&◌, if◌then◌else◌}
use Rattle.std.specs.Prelude.{eqb}
use Rattle.std.proofs.lemmas.Bool.Decides.{nat_tests}
use Rattle.bitstream_spelling.specs.Spelling.{reads}
use Rattle.bitstream_values.specs.declared.number.Seen.{Seen}
use Rattle.bitstream_values.specs.declared.number.Seen.TheVariants.{Small}
use Rattle.dx_bitstream.specs.Kinds.{number, id_of, NoKind, IsPassed}
use Rattle.dx_bitstream.specs.declared.kind.BlockKind.{BlockKind}
use Rattle.dx_bitstream.specs.declared.kind.BlockKind.TheVariants.{BlockInfo, Module, Constants, Function, SymbolTable, Metadata, Types}

not_eqb : (id n : ℕ) → (n ≡ id → ⊥) → eqb id n ≡ false
not_eqb id n h = grind (arith, nat_tests)

-- an id that no kind has is read nowhere
pub read_nowhere : (id : ℕ) → NoKind id → (o : Option ℕ) → reads o id ≡ false
read_nowhere id h o =
    let zero_id = not_eqb id 0 (h.none BlockInfo) in
    let module_id = not_eqb id 8 (h.none Module) in
    let constants_id = not_eqb id 11 (h.none Constants) in
    let function_id = not_eqb id 12 (h.none Function) in
    let symbols_id = not_eqb id 14 (h.none SymbolTable) in
    let metadata_id = not_eqb id 15 (h.none Metadata) in
    let types_id = not_eqb id 17 (h.none Types) in
    cases o zero_id module_id constants_id function_id symbols_id metadata_id types_id where
      and_false : (b : Bool) → (b && false) ≡ false
      and_false true = refl
      and_false false = refl

      cases : (q : Option ℕ) → eqb id 0 ≡ false → eqb id 8 ≡ false → eqb id 11 ≡ false → eqb id 12 ≡ false → eqb id 14 ≡ false → eqb id 15 ≡ false → eqb id 17 ≡ false → reads q id ≡ false
      cases None a b c d e f g = rw (a, b) refl
      cases (Some outer) a b c d e f g = rw (a, c, d, e, f, g, and_false (eqb outer 8), and_false (eqb outer 12)) refl

-- an id of 2 ^ 64 or more is read nowhere
pub large_nowhere : (id : ℕ) → 2 ^ 64 ≤ id → (o : Option ℕ) → reads o id ≡ false
large_nowhere id h o = read_nowhere id (record { none = no_kind }) o where
  no_kind : (kind : BlockKind) → number kind ≡ id → ⊥
  no_kind BlockInfo e = absurd (omega (arith, h, e))
  no_kind Module e = absurd (omega (arith, h, e))
  no_kind Constants e = absurd (omega (arith, h, e))
  no_kind Function e = absurd (omega (arith, h, e))
  no_kind SymbolTable e = absurd (omega (arith, h, e))
  no_kind Metadata e = absurd (omega (arith, h, e))
  no_kind Types e = absurd (omega (arith, h, e))

-- kinds of one id are one kind
pub same_kind : (a b : BlockKind) → number a ≡ number b → a ≡ b
same_kind a b h = to_kind_of a b (ap kind_at h) where
  kind_at : ℕ → BlockKind
  kind_at n =
      if eqb n 0 then BlockInfo
      else if eqb n 8 then Module
      else if eqb n 11 then Constants
      else if eqb n 12 then Function
      else if eqb n 14 then SymbolTable
      else if eqb n 15 then Metadata
      else Types

  back : (k : BlockKind) → kind_at (number k) ≡ k
  back BlockInfo = refl
  back Module = refl
  back Constants = refl
  back Function = refl
  back SymbolTable = refl
  back Metadata = refl
  back Types = refl

  to_kind_of : (k l : BlockKind) → kind_at (number k) ≡ kind_at (number l) → k ≡ l
  to_kind_of k l e = sym (back k) ∙ e ∙ back l

pub passed_small : (outer : Option BlockKind) (seen : Seen) (n : ℕ) → seen ≡ Small n → NoKind n → IsPassed outer seen
passed_small outer seen n e h = subst (λ (s : Seen). IsPassed outer s) (sym e) (record { passed = λ id s. subst (λ (i : ℕ). reads (id_of outer) i ≡ false) s.0 (read_nowhere n h (id_of outer)) })
