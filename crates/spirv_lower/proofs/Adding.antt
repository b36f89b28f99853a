-- Variables that are added one list after another, and the equality that a set of them uses.
use Rattle.std.proofs.Common.{◌≡◌, ℕ, ◌+◌, ◌<◌, Bool, List, [], ◌∷◌, ◌++◌, length, drop, get_or, refl, sym, ap, ◌∙◌, if◌then◌else◌}
use Rattle.std.specs.List.{flat_map, list_any}
use Rattle.std.proofs.lemmas.List.{at_drop_more}
use Rattle.dxil_form.specs.declared.instr.Instr.{Instr}
use Rattle.std.specs.Prelude.{◌||◌}
use Rattle.spirv_code.specs.contracts.key.SlotPartialEq.TheImpl as impl
use Rattle.spirv_code.specs.declared.key.Slot.{Slot}
use Rattle.spirv_code.specs.Keys.{same_slot}
use Rattle.spirv_code.specs.Further.{add_slot, add_slots, behind_lines, has_slot, is_access, line_slots, lines_slots}
use Rattle.spirv_table.proofs.Keys.{same_slots}

any_same : (slots : List Slot) (s : Slot) → list_any (impl.eq-value.it s) slots ≡ has_slot slots s
any_same [] s = refl
any_same (r ∷ slots) s =
    ap (λ b. b || list_any (impl.eq-value.it s) slots) (same_slots s r) ∙ ap (λ b. same_slot s r || b) (any_same slots s)

pub add_same : (slots : List Slot) (s : Slot) → (if list_any (impl.eq-value.it s) slots then slots else slots ++ s ∷ []) ≡ add_slots slots (s ∷ [])
add_same slots s = ap (λ b. if b then slots else slots ++ s ∷ []) (any_same slots s)

pub add_slots_more : (slots xs ys : List Slot) → add_slots slots (xs ++ ys) ≡ add_slots (add_slots slots xs) ys
add_slots_more slots [] ys = refl
add_slots_more slots (x ∷ xs) ys = add_slots_more (add_slot slots x) xs ys

-- one more item of a list whose variables are added in turn
pub slots_next : {X : Type 0} (f : X → List Slot) (xs : List X) (i : ℕ) (x : X) (old new all : List Slot) → i < length xs → x ≡ get_or xs i x → new ≡ add_slots old (f x) → add_slots old (flat_map f (drop i xs)) ≡ all → add_slots new (flat_map f (drop (i + 1) xs)) ≡ all
slots_next f xs i x old new all within is added before =
    let rest = flat_map f (drop (i + 1) xs) in
    ap (λ o. add_slots o rest) (added ∙ ap (λ y. add_slots old (f y)) is)
    ∙ sym (add_slots_more old (f (get_or xs i x)) rest)
    ∙ sym (at_drop_more (λ ys. add_slots old (flat_map f ys)) xs i x within)
    ∙ before

-- one more instruction, which stands behind an access or not
pub lines_next : (lines : List Instr) (i : ℕ) (d : Instr) (b c : Bool) (old new all : List Slot) → i < length lines → new ≡ add_slots old (line_slots b (get_or lines i d)) → c ≡ (is_access (get_or lines i d) || b) → add_slots old (lines_slots b (drop i lines)) ≡ all → add_slots new (lines_slots c (drop (i + 1) lines)) ≡ all
lines_next lines i d b c old new all within added is before =
    let x = get_or lines i d in
    let rest = drop (i + 1) lines in
    ap (λ o. add_slots o (lines_slots c rest)) added
    ∙ ap (λ k. add_slots (add_slots old (line_slots b x)) (lines_slots k rest)) is
    ∙ sym (add_slots_more old (line_slots b x) (lines_slots (is_access x || b) rest))
    ∙ sym (at_drop_more (λ ys. add_slots old (lines_slots b ys)) lines i d within)
    ∙ before

pub behind_next : (lines : List Instr) (i : ℕ) (d : Instr) (b c all : Bool) → i < length lines → c ≡ (is_access (get_or lines i d) || b) → behind_lines b (drop i lines) ≡ all → behind_lines c (drop (i + 1) lines) ≡ all
behind_next lines i d b c all within is before =
    ap (λ k. behind_lines k (drop (i + 1) lines)) is ∙ sym (at_drop_more (behind_lines b) lines i d within) ∙ before
