-- The least rule that an instruction breaks, asked rule by rule.
use Rattle.std.proofs.Common.{ℕ, ◌≡◌, ◌+◌, ◌<◌, ◌≤◌, ◌⊎◌, inl, inr, IsTrue, ◌↔◌, refl, sym, ap, subst, ◌∙◌, arith, List, length, get_or, slice_get, Option, Some, None, Bool, true, false, eqb}
use Rattle.std.proofs.lemmas.Bool.{cases_lt, eqb-true, eq-eqb}
use Rattle.std.proofs.lemmas.Option.{slice_get_within, slice_get-get_or, same_Some}
use Rattle.spv_form.specs.declared.module.Inst.{Inst}
use Rattle.spv_form.specs.declared.module.Version.{Version}
use Rattle.spv_ids.specs.Places.{is_there}
use Rattle.order_rules.specs.Order.{OutOfOrder, IsThePlace}
use Rattle.order_rules.specs.Once.{is_wrong_once, is_placed, has, has_four}
use Rattle.order_rules.specs.Merges.{MakesCrowded}
use Rattle.id_rules.specs.Uses.{is_defined_again, Misuses}
use Rattle.id_rules.specs.Again.{IsDeclaredAgain, AreFormed}
use Rattle.type_rules.specs.Types.{is_listed}
use Rattle.type_rules.specs.Fits.{fits}
use Rattle.decoration_rules.specs.Variables.{is_sound}
use Rattle.module_rules.specs.Entry.{is_wrong_interface, is_wrong_entry, is_wrong_size, has_many_pairs}
use Rattle.module_rules.specs.Rules.{Breaks, Misses}
use Rattle.module_rules.specs.Answers.{IsUnbroken, Finds, FindsMissing, Writes, IsWriteAnswer}

-- ---- tests
pub not_both : (b : Bool) → b ≡ false → b ≡ true → ⊥
not_both b e f = cc

pub the_place : (Holds : ℕ → Type 0) (o : Option ℕ) (at : ℕ) → IsThePlace Holds o → is_there at o ≡ true → Holds at
the_place Holds None at p e = absurd cc
the_place Holds (Some j) at p e = p.holds at (ap Some (eqb-true j at e))

pub not_the_place : (Holds : ℕ → Type 0) (o : Option ℕ) (at : ℕ) → IsThePlace Holds o → is_there at o ≡ false → Holds at → ⊥
not_the_place Holds o at p e h = not_both (is_there at o) e (ap (is_there at) (p.only at h) ∙ eq-eqb at at refl)

pub not_iff : (b : Bool) (P : Type 0) → IsTrue b ↔ P → b ≡ false → P → ⊥
not_iff b P d e p = not_both b e (d.1 p)

-- ---- what a broken rule says
abbrev either : Bool → Type 0 → Type 0 → Type 0
either true A B = A
either false A B = B

module _ (version : Version) (insts : List Inst) (at : ℕ) (x : Inst) where
  abbrev pub Said : ℕ → Type 0
  Said n =
      either (eqb n 1) (OutOfOrder insts at)
      (either (eqb n 2) (is_wrong_once insts at x ≡ true)
      (either (eqb n 3) (is_defined_again insts at x ≡ true)
      (either (eqb n 4) (Misuses insts at x)
      (either (eqb n 5) (is_listed insts x ≡ false)
      (either (eqb n 6) (fits insts x ≡ false)
      (either (eqb n 7) (IsDeclaredAgain insts at x)
      (either (eqb n 8) ((is_sound insts x ≡ false) ⊎ Writes insts x)
      (either (eqb n 9) (is_wrong_interface version insts x ≡ true)
      (either (eqb n 10) (is_wrong_entry insts x ≡ true)
      (either (eqb n 11) (is_placed insts at x ≡ false)
      (either (eqb n 12) (is_wrong_size x ≡ true)
      (either (eqb n 14) (MakesCrowded insts at)
      (either (eqb n 15) (has_many_pairs x ≡ true) ⊥)))))))))))))

  said : (rule : ℕ) → Breaks version insts at x rule → Said rule
  said rule (Breaks.out_of_order h) = h
  said rule (Breaks.wrong_once h) = h
  said rule (Breaks.defined_again h) = h
  said rule (Breaks.misuses h) = h
  said rule (Breaks.unlisted h) = h
  said rule (Breaks.unfitting h) = h
  said rule (Breaks.declared_again h) = h
  said rule (Breaks.unsound h) = inl h
  said rule (Breaks.writes p w r) = inr (record { pointer = p; written = w; read_only = r })
  said rule (Breaks.wrong_interface h) = h
  said rule (Breaks.wrong_entry h) = h
  said rule (Breaks.misplaced h) = h
  said rule (Breaks.wrong_size h) = h
  said rule (Breaks.crowds h) = h
  said rule (Breaks.many_pairs h) = h

  -- the rules are numbered from 1 to 15
  pub numbered : (rule : ℕ) → Breaks version insts at x rule → (1 ≤ rule) × (rule < 16)
  numbered rule (Breaks.out_of_order h) = (omega arith, omega arith)
  numbered rule (Breaks.wrong_once h) = (omega arith, omega arith)
  numbered rule (Breaks.defined_again h) = (omega arith, omega arith)
  numbered rule (Breaks.misuses h) = (omega arith, omega arith)
  numbered rule (Breaks.unlisted h) = (omega arith, omega arith)
  numbered rule (Breaks.unfitting h) = (omega arith, omega arith)
  numbered rule (Breaks.declared_again h) = (omega arith, omega arith)
  numbered rule (Breaks.unsound h) = (omega arith, omega arith)
  numbered rule (Breaks.writes p w r) = (omega arith, omega arith)
  numbered rule (Breaks.wrong_interface h) = (omega arith, omega arith)
  numbered rule (Breaks.wrong_entry h) = (omega arith, omega arith)
  numbered rule (Breaks.misplaced h) = (omega arith, omega arith)
  numbered rule (Breaks.wrong_size h) = (omega arith, omega arith)
  numbered rule (Breaks.crowds h) = (omega arith, omega arith)
  numbered rule (Breaks.many_pairs h) = (omega arith, omega arith)

  pub unbroken_none : (low : ℕ) → IsUnbroken version insts at x low low
  unbroken_none low = record { none = λ rule l h b. absurd (omega arith) }

  pub unbroken_more : (low n : ℕ) → IsUnbroken version insts at x low n → (Said n → ⊥) → IsUnbroken version insts at x low (n + 1)
  unbroken_more low n u not_said = record { none = cases } where
    cases : (rule : ℕ) → low ≤ rule → rule < n + 1 → Breaks version insts at x rule → ⊥
    cases rule l h b = elim (cases_lt rule n) [
      | inl below ↦ u.none rule l below b
      | inr above ↦ let same : rule ≡ n = omega arith in not_said (subst Said same (said rule b))
    ]

  pub found : (low high rule : ℕ) → Breaks version insts at x rule → low ≤ rule → rule < high → IsUnbroken version insts at x low rule → Finds version insts at x low high (Some rule)
  found low high rule b l h u = (b, l, h, u)

  -- the rules from `low` on, and then those from `middle` on
  pub unbroken_both : (low middle high : ℕ) → IsUnbroken version insts at x low middle → IsUnbroken version insts at x middle high → IsUnbroken version insts at x low high
  unbroken_both low middle high u v = record { none = λ rule l h b. elim (cases_lt rule middle) [ inl below ↦ u.none rule l below b | inr above ↦ v.none rule above h b ] }

-- ---- the instructions of a module
pub formed_at : (insts : List Inst) (at : ℕ) (x : Inst) → AreFormed insts → slice_get insts at ≡ Some x → length x.operands < 65535
formed_at insts at x f there =
    let within = slice_get_within insts at x there in
    let same : get_or insts at x ≡ x = same_Some (get_or insts at x) x (sym (slice_get-get_or insts at x within) ∙ there) in
    subst (λ (y : Inst). length y.operands < 65535) same (f.all at x within).short

-- ---- what is missing
pub miss_1 : (insts : List Inst) → has insts 56 ≡ false → FindsMissing insts (Some 1)
miss_1 insts e = (Misses.no_end e, least) where
  least : (other : ℕ) → Misses insts other → 1 ≤ other
  least other (Misses.no_end h) = omega arith
  least other (Misses.no_once h) = omega arith
  least other (Misses.no_block h) = omega arith

pub miss_2 : (insts : List Inst) → has insts 56 ≡ true → has_four insts ≡ false → FindsMissing insts (Some 2)
miss_2 insts e f = (Misses.no_once f, least) where
  least : (other : ℕ) → Misses insts other → 2 ≤ other
  least other (Misses.no_end h) = absurd (not_both (has insts 56) h e)
  least other (Misses.no_once h) = omega arith
  least other (Misses.no_block h) = omega arith

pub miss_10 : (insts : List Inst) → has insts 56 ≡ true → has_four insts ≡ true → has insts 248 ≡ false → FindsMissing insts (Some 10)
miss_10 insts e f g = (Misses.no_block g, least) where
  least : (other : ℕ) → Misses insts other → 10 ≤ other
  least other (Misses.no_end h) = absurd (not_both (has insts 56) h e)
  least other (Misses.no_once h) = absurd (not_both (has_four insts) h f)
  least other (Misses.no_block h) = omega arith

pub miss_none : (insts : List Inst) → has insts 56 ≡ true → has_four insts ≡ true → has insts 248 ≡ true → FindsMissing insts None
miss_none insts e f g = none where
  none : (rule : ℕ) → Misses insts rule → ⊥
  none rule (Misses.no_end h) = not_both (has insts 56) h e
  none rule (Misses.no_once h) = not_both (has_four insts) h f
  none rule (Misses.no_block h) = not_both (has insts 248) h g

-- ---- rule by rule
module _ (version : Version) (insts : List Inst) (at : ℕ) (x : Inst) where
  pub past_1 : (o : Option ℕ) → IsThePlace (OutOfOrder insts) o → is_there at o ≡ false → IsUnbroken version insts at x 1 2
  past_1 o p e = unbroken_more version insts at x 1 1 (unbroken_none version insts at x 1) (not_the_place (OutOfOrder insts) o at p e)

  pub past_2 : IsUnbroken version insts at x 1 2 → is_wrong_once insts at x ≡ false → IsUnbroken version insts at x 1 3
  past_2 u e = unbroken_more version insts at x 1 2 u (not_both (is_wrong_once insts at x) e)

  pub past_3 : IsUnbroken version insts at x 1 3 → is_defined_again insts at x ≡ false → IsUnbroken version insts at x 1 4
  past_3 u e = unbroken_more version insts at x 1 3 u (not_both (is_defined_again insts at x) e)

  pub past_4 : (b : Bool) → IsUnbroken version insts at x 1 4 → IsTrue b ↔ Misuses insts at x → b ≡ false → IsUnbroken version insts at x 1 5
  past_4 b u d e = unbroken_more version insts at x 1 4 u (not_iff b (Misuses insts at x) d e)

  pub past_5 : is_listed insts x ≡ true → IsUnbroken version insts at x 5 6
  past_5 e = unbroken_more version insts at x 5 5 (unbroken_none version insts at x 5) (λ f. not_both (is_listed insts x) f e)

  pub past_6 : IsUnbroken version insts at x 5 6 → fits insts x ≡ true → IsUnbroken version insts at x 5 7
  past_6 u e = unbroken_more version insts at x 5 6 u (λ f. not_both (fits insts x) f e)

  pub past_7 : (b : Bool) → IsUnbroken version insts at x 5 7 → IsTrue b ↔ IsDeclaredAgain insts at x → b ≡ false → IsUnbroken version insts at x 5 8
  past_7 b u d e = unbroken_more version insts at x 5 7 u (not_iff b (IsDeclaredAgain insts at x) d e)

  pub past_8 : is_sound insts x ≡ true → IsWriteAnswer false insts x → IsUnbroken version insts at x 8 9
  past_8 e w = unbroken_more version insts at x 8 8 (unbroken_none version insts at x 8) cases where
    cases : (is_sound insts x ≡ false) ⊎ Writes insts x → ⊥
    cases (inl f) = not_both (is_sound insts x) f e
    cases (inr f) = w f

  pub past_9 : IsUnbroken version insts at x 8 9 → is_wrong_interface version insts x ≡ false → IsUnbroken version insts at x 8 10
  past_9 u e = unbroken_more version insts at x 8 9 u (not_both (is_wrong_interface version insts x) e)

  pub past_10 : IsUnbroken version insts at x 8 10 → is_wrong_entry insts x ≡ false → IsUnbroken version insts at x 8 11
  past_10 u e = unbroken_more version insts at x 8 10 u (not_both (is_wrong_entry insts x) e)

  pub past_11 : is_placed insts at x ≡ true → IsUnbroken version insts at x 11 12
  past_11 e = unbroken_more version insts at x 11 11 (unbroken_none version insts at x 11) (λ f. not_both (is_placed insts at x) f e)

  pub past_12 : IsUnbroken version insts at x 11 12 → is_wrong_size x ≡ false → IsUnbroken version insts at x 11 14
  past_12 u e = unbroken_more version insts at x 11 13 (unbroken_more version insts at x 11 12 u (not_both (is_wrong_size x) e)) (λ f. f)

  pub past_14 : (o : Option ℕ) → IsUnbroken version insts at x 11 14 → IsThePlace (MakesCrowded insts) o → is_there at o ≡ false → IsUnbroken version insts at x 11 15
  past_14 o u p e = unbroken_more version insts at x 11 14 u (not_the_place (MakesCrowded insts) o at p e)

  pub past_15 : IsUnbroken version insts at x 11 15 → has_many_pairs x ≡ false → IsUnbroken version insts at x 11 16
  past_15 u e = unbroken_more version insts at x 11 15 u (not_both (has_many_pairs x) e)

  pub broken_8 : IsWriteAnswer true insts x → Breaks version insts at x 8
  broken_8 w = Breaks.writes w.pointer w.written w.read_only
