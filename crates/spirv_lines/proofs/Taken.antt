-- What the map of entries answers is the operand of the first entry.
use Rattle.std.proofs.Common.{◌≡◌, ℕ, ◌<◌, ◌^◌, Bool, true, false, if◌then◌else◌, List, [], ◌∷◌, length, get_or, Option, Some, None, refl, sym, ap, ◌∙◌, nat_eq, subst, unwrap_or}
use Rattle.std.specs.Prelude.{slice_get, All}
use Rattle.std.proofs.lemmas.List.Elements.{All-get_or}
use Rattle.std.proofs.lemmas.Option.{slice_get-get_or, slice_get_within, get_or_from_slice_get}
use Rattle.dxil_form.specs.declared.value.Ty.{Ty}
use Rattle.dxil_form.specs.declared.value.Operand.{Operand}
use Rattle.dxil_form.specs.declared.value.Operand.TheVariants as operand
use Rattle.dxil_form.specs.declared.block.Entry.{Entry}
use Rattle.dxil_form.specs.declared.block.Phi.{Phi}
use Rattle.dxil_form.specs.declared.block.Block.{Block}
use Rattle.phi_entries.specs.declared.entries.Entries.{Entries}
use Rattle.phi_entries.specs.Entries.{AreEntries, ArePlaces, entry_at, entry_in, entry_of, first_entry}
use Rattle.spirv_code.specs.Leaves.{entry_operand}
use Rattle.spirv_lines.specs.Entered.{phi_at}

first_is : (from : ℕ) (t : Ty) (es : List Entry) → unwrap_or (first_entry from es) (operand.Undef t) ≡ entry_operand from t es
first_is from t [] = refl
first_is from t (e ∷ es) = by_test (nat_eq e.from from) (first_is from t es)
  where
    by_test : (b : Bool) → unwrap_or (first_entry from es) (operand.Undef t) ≡ entry_operand from t es → unwrap_or (if b then Some e.value else first_entry from es) (operand.Undef t) ≡ (if b then e.value else entry_operand from t es)
    by_test true rest = refl
    by_test false rest = rest

entry_is : (block : Option Block) (n from : ℕ) → entry_at block n from ≡ entry_in from (phi_at block n)
entry_is None n from = refl
entry_is (Some block) n from = refl

pub taken : (blocks : List Block) (entries : Entries) (k n from : ℕ) (phi : Phi) (found : Option Operand) → AreEntries blocks entries → phi_at (slice_get blocks k) n ≡ Some phi → found ≡ entry_of entries k n from → unwrap_or found (operand.Undef phi.ty) ≡ entry_operand from phi.ty phi.entries
taken blocks entries k n from phi found are stands is =
    ap (λ o. unwrap_or o (operand.Undef phi.ty)) (is ∙ are k n from ∙ entry_is (slice_get blocks k) n from ∙ ap (entry_in from) stands)
    ∙ first_is from phi.ty phi.entries

-- a phi of a block that stands in the program
pub stands_at : (blocks : List Block) (k n : ℕ) (block : Block) (d : Phi) → slice_get blocks k ≡ Some block → n < length block.phis → phi_at (slice_get blocks k) n ≡ Some (get_or block.phis n d)
stands_at blocks k n block d stands within =
    ap (λ o. phi_at o n) stands ∙ slice_get-get_or block.phis n d within

pub few_phis : (blocks : List Block) (k : ℕ) (block : Block) → ArePlaces blocks → slice_get blocks k ≡ Some block → length block.phis < 2 ^ 32
few_phis blocks k block places stands =
    let at = All-get_or (λ (b : Block). length b.phis < 2 ^ 32) blocks k block (slice_get_within {A = Block} blocks k block stands) places.phis_fit in
    subst (λ (b : Block). length b.phis < 2 ^ 32) (get_or_from_slice_get blocks k block block stands) at
