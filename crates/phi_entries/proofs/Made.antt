-- Entries that are noted one after another, of which the first counts.
use Rattle.std.proofs.Common.{◌≡◌, ℕ, ◌+◌, ◌<◌, ◌≤◌, Bool, true, false, ◌&&◌, if◌then◌else◌, List, length, drop, get_or, Option, Some, None, refl, sym, ap, ◌∙◌, nat_eq, nat_lt, arith, eqb-true}
use Rattle.std.specs.Option.{option_or}
use Rattle.std.specs.Prelude.{slice_get, ◌||◌}
use Rattle.std.proofs.lemmas.Bool.Decides.{nat_tests}
use Rattle.std.proofs.lemmas.List.{at_drop_more}
use Rattle.std.proofs.lemmas.Bool.{ltb-false}
use Rattle.std.proofs.lemmas.Option.{slice_get_past}
use Rattle.dxil_form.specs.declared.value.Operand.{Operand}
use Rattle.dxil_form.specs.declared.block.Entry.{Entry}
use Rattle.dxil_form.specs.declared.block.Phi.{Phi}
use Rattle.dxil_form.specs.declared.block.Block.{Block}
use Rattle.phi_entries.specs.Entries.{edge_for, entry_at, entry_in, first_entry, is_edge}

-- ---- the entries of one phi: `same` tells whether it is the phi that is asked for

-- one more entry: what stood before counts, then this one, then the rest
more_entries : (x : Option Operand) (same is : Bool) (value : Operand) (rest : Option Operand) → option_or (option_or x (if same && is then Some value else None)) (if same then rest else None) ≡ option_or x (if same then (if is then Some value else rest) else None)
more_entries None true true value rest = refl
more_entries None true false value rest = refl
more_entries None false is value rest = refl
more_entries (Some y) true true value rest = refl
more_entries (Some y) true false value rest = refl
more_entries (Some y) false is value rest = refl

and_assoc : (a b c : Bool) → (a && (b && c)) ≡ ((a && b) && c)
and_assoc true b c = refl
and_assoc false b c = refl

pub same_numbers : (a b : ℕ) → nat_eq a b ≡ nat_eq b a
same_numbers a b = grind (arith, nat_tests)

-- the step of the loop over a phi's entries
pub entries_next : (old new first : Option Operand) (block phi k n from : ℕ) (entries : List Entry) (i : ℕ) (d : Entry) → i < length entries → new ≡ option_or old (if is_edge (edge_for block phi (get_or entries i d).from) k n from then Some (get_or entries i d).value else None) → option_or old (if nat_eq k block && nat_eq n phi then first_entry from (drop i entries) else None) ≡ first → option_or new (if nat_eq k block && nat_eq n phi then first_entry from (drop (i + 1) entries) else None) ≡ first
entries_next old new first block phi k n from entries i d within added before =
    let same = nat_eq k block && nat_eq n phi in
    let entry = get_or entries i d in
    let rest = first_entry from (drop (i + 1) entries) in
    ap (λ o. option_or o (if same then rest else None)) added
    ∙ ap (λ b. option_or (option_or old (if b then Some entry.value else None)) (if same then rest else None)) (and_assoc (nat_eq k block) (nat_eq n phi) (nat_eq from entry.from))
    ∙ more_entries old same (nat_eq from entry.from) entry.value rest
    ∙ ap (λ b. option_or old (if same then (if b then Some entry.value else rest) else None)) (same_numbers from entry.from)
    ∙ sym (at_drop_more (λ xs. option_or old (if same then first_entry from xs else None)) entries i d within)
    ∙ before

-- ---- the phis of one block, up to a place

pub none_last : (x : Option Operand) → option_or x None ≡ x
none_last None = refl
none_last (Some y) = refl

twice : (x y : Option Operand) → option_or (option_or x y) y ≡ option_or x y
twice None None = refl
twice None (Some b) = refl
twice (Some a) y = refl

below_next : (n i : ℕ) → (nat_lt n i || nat_eq n i) ≡ nat_lt n (i + 1)
below_next n i = grind (arith, nat_tests)

one_phi_more : (first : Option Operand) (same below here : Bool) (asked taken : Option Operand) → (here ≡ true → taken ≡ asked) → option_or (option_or first (if same then (if below then asked else None) else None)) (if same && here then taken else None) ≡ option_or first (if same then (if below || here then asked else None) else None)
one_phi_more first false below here asked taken is = none_last (option_or first None)
one_phi_more first true true true asked taken is =
    ap (option_or (option_or first asked)) (is refl) ∙ twice first asked
one_phi_more first true true false asked taken is = none_last (option_or first asked)
one_phi_more first true false true asked taken is =
    ap (λ x. option_or x taken) (none_last first) ∙ ap (option_or first) (is refl)
one_phi_more first true false false asked taken is = none_last (option_or first None)

-- the step of the loop over a block's phis
pub phis_next : (first old new : Option Operand) (same : Bool) (phis : List Phi) (i n from : ℕ) (phi : Phi) → slice_get phis i ≡ Some phi → old ≡ option_or first (if same then (if nat_lt n i then entry_in from (slice_get phis n) else None) else None) → new ≡ option_or old (if same && nat_eq n i then first_entry from phi.entries else None) → new ≡ option_or first (if same then (if nat_lt n (i + 1) then entry_in from (slice_get phis n) else None) else None)
phis_next first old new same phis i n from phi stands before added =
    added
    ∙ ap (λ x. option_or x (if same && nat_eq n i then first_entry from phi.entries else None)) before
    ∙ one_phi_more first same (nat_lt n i) (nat_eq n i) (entry_in from (slice_get phis n)) (first_entry from phi.entries) asked_here
    ∙ ap (λ b. option_or first (if same then (if b then entry_in from (slice_get phis n) else None) else None)) (below_next n i)
  where
    asked_here : nat_eq n i ≡ true → first_entry from phi.entries ≡ entry_in from (slice_get phis n)
    asked_here e = ap (entry_in from) (sym (ap (slice_get phis) (eqb-true n i e) ∙ stands))

-- ---- the blocks, up to a place

pub blocks_next : (old new : Option Operand) (blocks : List Block) (i k n from : ℕ) (block : Block) → slice_get blocks i ≡ Some block → old ≡ (if nat_lt k i then entry_at (slice_get blocks k) n from else None) → new ≡ option_or old (if nat_eq k i then entry_in from (slice_get block.phis n) else None) → new ≡ (if nat_lt k (i + 1) then entry_at (slice_get blocks k) n from else None)
blocks_next old new blocks i k n from block stands before added =
    added
    ∙ ap (λ x. option_or x (if nat_eq k i then entry_in from (slice_get block.phis n) else None)) before
    ∙ one_phi_more None true (nat_lt k i) (nat_eq k i) (entry_at (slice_get blocks k) n from) (entry_in from (slice_get block.phis n)) asked_here
    ∙ ap (λ b. if b then entry_at (slice_get blocks k) n from else None) (below_next k i)
  where
    asked_here : nat_eq k i ≡ true → entry_in from (slice_get block.phis n) ≡ entry_at (slice_get blocks k) n from
    asked_here e = ap (λ o. entry_at o n from) (sym (ap (slice_get blocks) (eqb-true k i e) ∙ stands))

-- ---- at the end of the loops

pub all_phis : (phis : List Phi) (i n from : ℕ) → length phis ≤ i → (if nat_lt n i then entry_in from (slice_get phis n) else None) ≡ entry_in from (slice_get phis n)
all_phis phis i n from all = by_test (nat_lt n i) refl
  where
    by_test : (b : Bool) → nat_lt n i ≡ b → (if b then entry_in from (slice_get phis n) else None) ≡ entry_in from (slice_get phis n)
    by_test true e = refl
    by_test false e = ap (entry_in from) (sym (slice_get_past {X = Phi} phis n (omega (arith, all, ltb-false n i e))))

pub all_blocks : (blocks : List Block) (i k n from : ℕ) → length blocks ≤ i → (if nat_lt k i then entry_at (slice_get blocks k) n from else None) ≡ entry_at (slice_get blocks k) n from
all_blocks blocks i k n from all = by_test (nat_lt k i) refl
  where
    by_test : (b : Bool) → nat_lt k i ≡ b → (if b then entry_at (slice_get blocks k) n from else None) ≡ entry_at (slice_get blocks k) n from
    by_test true e = refl
    by_test false e = ap (λ o. entry_at o n from) (sym (slice_get_past {X = Block} blocks k (omega (arith, all, ltb-false k i e))))
