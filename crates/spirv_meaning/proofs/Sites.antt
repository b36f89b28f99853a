-- The blocks whose site a label is are listed at the label, and stand below the bound.
use Rattle.std.proofs.Common.{◌≡◌, ◌⊎◌, ℕ, zero, suc, ◌^◌, ◌<◌, Bool, true, false, List, [], ◌∷◌, ◌++◌, drop, Some, None, refl, sym, ap, subst, ◌∙◌, inl, inr, ⊎_elim, arith, ltb-true}
use Rattle.std.specs.Prelude.{nat_eq, nat_lt, slice_get, if◌then◌else◌}
use Rattle.std.specs.List.{list_any}
use Rattle.dxil_form.specs.Graphs.{In}
use Rattle.spv_form.specs.declared.module.Inst.{Inst}
use Rattle.spv_form.specs.declared.module.Module.{Module}
use Rattle.spirv_meaning.specs.Names.{label_of, named_by, named_in, same_words, is_some_at, is_label_of, only_place, block_name, site, those_below, number_in, above_names}
use Rattle.spirv_meaning.specs.Laws.{SitesAreBelow, SitesBegin, SitesRise, IsRising}
use Rattle.spirv_meaning.proofs.Numbers.{name_tells}
use Rattle.spirv_meaning.proofs.Searching.{some_passes, is_named_of, is_at, at_is, words_same_of, some_same}

-- the one instruction that passes stands there
only_some : (test : Inst → Bool) (n : ℕ) (insts : List Inst) (at : ℕ) → only_place test n insts ≡ Some at → (j : ℕ) × ((inst : Inst) × (slice_get insts j ≡ Some inst) × (test inst ≡ true))
only_some test n [] at e = absurd (cc)
only_some test n (i ∷ is) at e = by_test (λ e. only_some test (suc n) is at e) (test i) refl e
  where
    by_test : (only_place test (suc n) is ≡ Some at → (j : ℕ) × ((inst : Inst) × (slice_get is j ≡ Some inst) × (test inst ≡ true))) → (t : Bool) → test i ≡ t → (if t then (if list_any test is then None else Some n) else only_place test (suc n) is) ≡ Some at → (j : ℕ) × ((inst : Inst) × (slice_get (i ∷ is) j ≡ Some inst) × (test inst ≡ true))
    by_test again true p e = (0, (i, refl, p))
    by_test again false p e = let rest = again e in (suc rest.0, rest.1)

site_some : (m : Module) (k at : ℕ) → site m k ≡ Some at → (k < 2 ^ 32) × (only_place (is_label_of m k) 0 m.insts ≡ Some at)
site_some m k at e = by_test (nat_lt k (2 ^ 32)) refl e
  where
    by_test : (t : Bool) → nat_lt k (2 ^ 32) ≡ t → (if t then only_place (is_label_of m k) 0 m.insts else None) ≡ Some at → (k < 2 ^ 32) × (only_place (is_label_of m k) 0 m.insts ≡ Some at)
    by_test true p e = (ltb-true k (2 ^ 32) p, e)
    by_test false p e = absurd (cc)

-- an instruction that gives a name is an OpName, and its words spell the name
spelled : (name : List ℕ) (inst : Inst) (id : ℕ) → named_by name inst ≡ Some id → (nat_eq inst.opcode 5 ≡ true) × (drop 1 inst.operands ≡ name)
spelled name inst id e = by_test (nat_eq inst.opcode 5) refl e
  where
    in_words : (operands : List ℕ) → named_in name operands ≡ Some id → drop 1 operands ≡ name
    in_words [] e = absurd (cc)
    in_words (x ∷ text) e = by_words (same_words text name) refl e
      where
        by_words : (t : Bool) → same_words text name ≡ t → (if t then Some x else None) ≡ Some id → drop 1 (x ∷ text) ≡ name
        by_words true p e = words_same_of text name p
        by_words false p e = absurd (cc)

    by_test : (t : Bool) → nat_eq inst.opcode 5 ≡ t → (if t then named_in name inst.operands else None) ≡ Some id → (nat_eq inst.opcode 5 ≡ true) × (drop 1 inst.operands ≡ name)
    by_test true p e = (p, in_words inst.operands e)
    by_test false p e = absurd (cc)

above : (insts : List Inst) (j : ℕ) (inst : Inst) → slice_get insts j ≡ Some inst → nat_eq inst.opcode 5 ≡ true → number_in (drop 1 inst.operands) 0 < above_names insts
above [] j inst stands five = absurd (cc)
above (i ∷ is) zero inst stands five =
    let same : i ≡ inst = some_same i inst stands in
    let here : (if nat_eq i.opcode 5 then suc (number_in (drop 1 i.operands) 0) else 0) ≡ suc (number_in (drop 1 inst.operands) 0) = ap (λ (x : Inst). if nat_eq x.opcode 5 then suc (number_in (drop 1 x.operands) 0) else 0) same ∙ ap (λ b. if b then suc (number_in (drop 1 inst.operands) 0) else 0) five in
    omega (arith, here)
above (i ∷ is) (suc j) inst stands five = let rest = above is j inst stands five in omega (arith, rest)

pub sites_are_below : SitesAreBelow
sites_are_below m k at e =
    let one = site_some m k at e in
    let label = only_some (is_label_of m k) 0 m.insts at one.1 in
    let named = is_named_of m.insts (block_name k) (label_of label.1.0) label.1.2 in
    let by = some_passes (λ inst. is_some_at (named_by (block_name k) inst) named.0) m.insts named.2 in
    let text = spelled (block_name k) by.1.0 named.0 (is_at (named_by (block_name k) by.1.0) named.0 by.1.2) in
    let number : number_in (drop 1 by.1.0.operands) 0 ≡ k = ap (λ ws. number_in ws 0) text.1 ∙ name_tells k one.0 in
    subst (λ n. n < above_names m.insts) number (above m.insts by.0 by.1.0 by.1.1 text.0)

in_either : (x : ℕ) (a b : List ℕ) → In x (a ++ b) → In x a ⊎ In x b
in_either x [] b h = inr h
in_either x (y ∷ a) b h = ⊎_elim (λ e. inl (inl e)) (λ h. ⊎_elim (λ p. inl (inr p)) (λ q. inr q) (in_either x a b h)) h

in_front : (x : ℕ) (a b : List ℕ) → In x a → In x (a ++ b)
in_front x [] b h = absurd h
in_front x (y ∷ a) b h = ⊎_elim (λ e. inl e) (λ h. inr (in_front x a b h)) h

in_back : (x : ℕ) (a b : List ℕ) → In x b → In x (a ++ b)
in_back x [] b h = h
in_back x (y ∷ a) b h = inr (in_back x a b h)

-- those below n that pass are listed
is_listed : (n : ℕ) (test : ℕ → Bool) (k : ℕ) → k < n → test k ≡ true → In k (those_below n test)
is_listed zero test k h e = absurd (omega arith)
is_listed (suc n) test k h e = by_order (λ less. is_listed n test k less e) (last_or k n h)
  where
    last_or : (k n : ℕ) → k < suc n → (k < n) ⊎ (k ≡ n)
    last_or k n h = grind arith

    by_order : (k < n → In k (those_below n test)) → (k < n) ⊎ (k ≡ n) → In k (those_below n test ++ (if test n then n ∷ [] else []))
    by_order again (inl less) = in_front k (those_below n test) _ (again less)
    by_order again (inr same) =
        let here : (if test n then n ∷ [] else []) ≡ n ∷ [] = ap (λ b. if b then n ∷ [] else []) (ap test (sym same) ∙ e) in
        in_back k (those_below n test) _ (subst (In k) (sym here) (inl same))

-- what is listed is below n and passes
listed_is : (n : ℕ) (test : ℕ → Bool) (k : ℕ) → In k (those_below n test) → (k < n) × (test k ≡ true)
listed_is zero test k h = absurd h
listed_is (suc n) test k h = by_part (λ h. listed_is n test k h) (in_either k (those_below n test) (if test n then n ∷ [] else []) h)
  where
    last : (t : Bool) → test n ≡ t → In k (if t then n ∷ [] else []) → (k < suc n) × (test k ≡ true)
    last true e h = ⊎_elim (λ same. (omega (arith, same), ap test same ∙ e)) (λ none. absurd none) h
    last false e h = absurd h

    by_part : (In k (those_below n test) → (k < n) × (test k ≡ true)) → In k (those_below n test) ⊎ In k (if test n then n ∷ [] else []) → (k < suc n) × (test k ≡ true)
    by_part again (inl h) = let rest = again h in let less : k < n = rest.0 in (omega (arith, less), rest.1)
    by_part again (inr h) = last (test n) refl h

pub sites_begin : SitesBegin
sites_begin m place k =
    (λ h. is_at (site m k) place (listed_is (above_names m.insts) (λ k. is_some_at (site m k) place) k h).1, λ e. is_listed (above_names m.insts) (λ k. is_some_at (site m k) place) k (sites_are_below m k place e) (at_is (site m k) place e))

-- a rising list stays so with a greater number at its end
rises_on : (a : List ℕ) (n : ℕ) → IsRising a → ((x : ℕ) → In x a → x < n) → IsRising (a ++ (n ∷ []))
rises_on [] n rises below = (λ y h. absurd h, tt)
rises_on (x ∷ a) n rises below =
    (λ y h. ⊎_elim (λ p. rises.0 y p) (λ q. ⊎_elim (λ e. subst (λ z. x < z) (sym e) (below x (inl refl))) (λ none. absurd none) q) (in_either y a (n ∷ []) h), rises_on a n rises.1 (λ y h. below y (inr h)))

append_none : (a : List ℕ) → a ++ [] ≡ a
append_none [] = refl
append_none (x ∷ a) = ap (λ ys. x ∷ ys) (append_none a)

those_rise : (n : ℕ) (test : ℕ → Bool) → IsRising (those_below n test)
those_rise zero test = tt
those_rise (suc n) test = by_test (those_rise n test) (test n)
  where
    by_test : IsRising (those_below n test) → (t : Bool) → IsRising (those_below n test ++ (if t then n ∷ [] else []))
    by_test rises true = rises_on (those_below n test) n rises (λ x h. (listed_is n test x h).0)
    by_test rises false = subst IsRising (sym (append_none (those_below n test))) rises

pub sites_rise : SitesRise
sites_rise m place = those_rise (above_names m.insts) (λ k. is_some_at (site m k) place)
