-- How far the rules were asked, and what was found.
use Rattle.std.proofs.Common.{ℕ, ◌≡◌, ◌∙◌, ◌+◌, ◌-◌, ◌<◌, ◌≤◌, ◌||◌, refl, ap, sym, subst, arith, List, [], ◌∷◌, ◌++◌, length, take, drop, get_or, slice_get, Bool, true, false, if◌then◌else◌, Option, Some, Err, take_all}
use Rattle.std.proofs.lemmas.List.{take_more, length-take, length-drop}
use Rattle.std.proofs.lemmas.List.Folds.{list_any-append}
use Rattle.std.proofs.lemmas.Option.{slice_get-get_or}
use Rattle.std.specs.List.{list_any}
use Rattle.dx_base.specs.First.{IsFirst, IsSound, IsClear}
use Rattle.dx_base.specs.Sentences.{first_that_holds, Stated}
use Rattle.dx_base.proofs.FirstLaws.{clear_none, clear_more, first_here, sound_of}
use Rattle.dx_base.proofs.SentenceLaws.{least_stated, none_stated}
use Rattle.dx_base.specs.declared.fault.Fault.{Fault}
use Rattle.dx_base.specs.declared.fault.Fault.TheVariants.{Refused, Limit, OutOfMemory}
use Rattle.dx_base.specs.declared.fault.Rule.TheVariants.{C, B, Y, M, N, P}
use Rattle.bitstream_spelling.specs.Framed.{IsFramed, bit_of, open_after, open_behind}
use Rattle.bitstream_spelling.specs.declared.item.Item.{Item}
use Rattle.llvm_items.specs.Sites.{Site, sites, enters, bit_at}
use Rattle.llvm_items.proofs.SiteLaws.{take-sites, site-at, length-sites, sites-rise, site_of, sites_more, open_more}
use Rattle.llvm_types.specs.Types.{types_of}
use Rattle.llvm_types.specs.declared.kind.LlvmType.{LlvmType}
use Rattle.llvm_values.specs.declared.rule.State.{State}
use Rattle.llvm_values.specs.declared.check.RuleReader.{RuleReader}
use Rattle.llvm_values.specs.Values.{since}
use Rattle.llvm_values.specs.Rules.{Broken, is_instruction, is_version, sentences, state_behind, tests}
use Rattle.llvm_values.specs.Reading.{IsPassed, RulesAnswer, StepAnswer, rule_at, state_after}
use Rattle.llvm_values.proofs.Listing.{since_more, type_more}

or_false : (b : Bool) → (b || false) ≡ b
or_false true = refl
or_false false = refl

any_more : (p : Site → Bool) (xs : List Site) (s : Site) → list_any p (xs ++ s ∷ []) ≡ (list_any p xs || p s)
any_more p xs s = list_any-append p xs (s ∷ []) ∙ ap (λ (b : Bool). list_any p xs || b) (or_false (p s))

instructed_more : (xs : List Site) (s : Site) → list_any is_instruction (since (enters 12) (xs ++ s ∷ [])) ≡ (if enters 12 s then false else (list_any is_instruction (since (enters 12) xs) || is_instruction s))
instructed_more xs s = ap (list_any is_instruction) (since_more (enters 12) xs s (enters 12 s) refl) ∙ by_cases (enters 12 s) where
  by_cases : (b : Bool) → list_any is_instruction (if b then [] else since (enters 12) xs ++ s ∷ []) ≡ (if b then false else (list_any is_instruction (since (enters 12) xs) || is_instruction s))
  by_cases true = refl
  by_cases false = any_more is_instruction (since (enters 12) xs) s

abbrev state_of : Bool → Bool → Bool → Option ℕ → State
state_of versioned bodied instructed ty = record { versioned = versioned; bodied = bodied; instructed = instructed; ty = ty }

state_same : (a p b q c r : Bool) (d s : Option ℕ) → a ≡ p → b ≡ q → c ≡ r → d ≡ s → state_of a b c d ≡ state_of p q r s
state_same a p b q c r d s e f g h = ap (λ (z : Bool). state_of z b c d) e ∙ ap (λ (z : Bool). state_of p z c d) f ∙ ap (λ (z : Bool). state_of p q z d) g ∙ ap (λ (z : Option ℕ). state_of p q r z) h

state_more : (fs : List ℕ) (xs : List Site) (s : Site) → state_behind fs (xs ++ s ∷ []) ≡ state_after fs (state_behind fs xs) s
state_more fs xs s = state_same _ _ _ _ _ _ _ _ (any_more is_version xs s) (any_more (enters 12) xs s) (instructed_more xs s) (type_more fs xs s)

-- the sentences of the whole list
abbrev pub Breaks : List Item → List ℕ → List Site → Site → ℕ → Type 0
Breaks list fs = Stated (sentences list fs (types_of list fs))

-- a part that goes up to the end is the whole rest
pub rest_whole : (list : List Item) (at : ℕ) → take (length list - at) (drop at list) ≡ drop at list
rest_whole list at = take_all (length list - at) (drop at list) (omega (arith, length-drop at list))

-- how far the rules were asked: nothing is broken there
pub record IsChecking (list : List Item) (fs : List ℕ) (index : ℕ) (r : RuleReader) : Type 0 where
  pub open_is : r.around ≡ open_behind [] (take index list)
  pub state_is : r.state ≡ state_behind fs (sites (take index list))
  pub clear : IsClear bit_at (Breaks list fs) (sites list) index

pub checking_first : (list : List Item) (fs : List ℕ) (r : RuleReader) → r.around ≡ [] → r.state ≡ state_behind fs [] → IsChecking list fs 0 r
checking_first list fs r p s = record { open_is = p; state_is = s; clear = clear_none bit_at (Breaks list fs) (sites list) }

module _ (list : List Item) (fs : List ℕ) (types : List LlvmType) (index : ℕ) (r : RuleReader) (d : Item) (i : IsChecking list fs index r) (h : index < length list) (t : types ≡ types_of list fs) (behind : List Item) (w : behind ≡ drop (index + 1) list) where
  stands : slice_get (sites list) index ≡ Some (site_of (take index list) (get_or list index d))
  stands = site-at [] index list (get_or list index d) (slice_get-get_or list index d h)

  -- the reader's tests are the sentences at the place
  same : rule_at r fs types behind (get_or list index d) ≡ first_that_holds (sentences list fs (types_of list fs) (take index (sites list)) (site_of (take index list) (get_or list index d)))
  same =
      let x = get_or list index d in
      let before = take index (sites list) in
      let count : index ≡ length before = omega (arith, length-take index (sites list), length-sites [] list) in
      ap (λ (is : List Item). rule_at r fs types is x) w
      ∙ ap (λ (ts : List LlvmType). rule_at r fs ts (drop (index + 1) list) x) t
      ∙ ap (λ (z : State). first_that_holds (tests fs (types_of list fs) z (drop (index + 1) list) (record { around = r.around; item = x }))) i.state_is
      ∙ ap (λ (q : List ℕ). first_that_holds (tests fs (types_of list fs) (state_behind fs (sites (take index list))) (drop (index + 1) list) (record { around = q; item = x }))) i.open_is
      ∙ ap (λ (b : List Site). first_that_holds (tests fs (types_of list fs) (state_behind fs b) (drop (index + 1) list) (site_of (take index list) x))) (sym (take-sites [] index list))
      ∙ ap (λ (n : ℕ). first_that_holds (tests fs (types_of list fs) (state_behind fs before) (drop (n + 1) list) (site_of (take index list) x))) count

  pub checking_more : (new : RuleReader) → rule_at r fs types behind (get_or list index d) ≡ 0 → IsPassed r new fs (get_or list index d) → IsChecking list fs (index + 1) new
  checking_more new e n =
      let x = get_or list index d in
      let front = take index list in
      let cut : take (index + 1) list ≡ front ++ x ∷ [] = take_more list index d h in
      record {
        open_is = n.around ∙ ap (λ q. open_after q x) i.open_is ∙ sym (open_more front x) ∙ ap (open_behind []) (sym cut);
        state_is = n.state ∙ ap (λ q. state_after fs r.state (record { around = q; item = x })) i.open_is ∙ ap (λ (z : State). state_after fs z (site_of front x)) i.state_is
            ∙ sym (state_more fs (sites front) (site_of front x)) ∙ ap (state_behind fs) (sym (sites_more front x)) ∙ ap (λ (is : List Item). state_behind fs (sites is)) (sym cut);
        clear = clear_more bit_at (Breaks list fs) (sites list) index (site_of front x) i.clear stands
            (none_stated (sentences list fs (types_of list fs)) (take index (sites list)) (site_of front x) (sym same ∙ e));
      }

  checking_stops : (rule bit : ℕ) → IsFramed list fs → rule_at r fs types behind (get_or list index d) ≡ rule → 0 < rule → bit ≡ bit_of (get_or list index d) → IsFirst (Broken list fs) rule bit
  checking_stops rule bit f e g b =
      let least = least_stated (sentences list fs (types_of list fs)) (take index (sites list)) (site_of (take index list) (get_or list index d)) rule (sym e ∙ same) g in
      let first = first_here bit_at (Breaks list fs) (sites list) index (site_of (take index list) (get_or list index d)) rule (sites-rise (Breaks list fs) list fs f) i.clear stands least in
      subst (λ (z : ℕ). IsFirst (Broken list fs) rule z) (sym b) first

  -- a fault of the reader at an item is the answer for the whole list
  pub fault_stops : (new : RuleReader) (fault : Fault) → IsFramed list fs → StepAnswer (Err fault) r new fs types behind (get_or list index d) → RulesAnswer (Err fault) list fs
  fault_stops new (Refused (C rule) bit) f a = a
  fault_stops new (Refused (B rule) bit) f a = a
  fault_stops new (Refused (Y rule) bit) f a = a
  fault_stops new (Refused (M rule) bit) f a = checking_stops rule bit f a.0 a.1 a.2
  fault_stops new (Refused (N rule) bit) f a = a
  fault_stops new (Refused (P rule) bit) f a = a
  fault_stops new (Limit which bit) f a = a
  fault_stops new OutOfMemory f a = a

pub checking_ends : (list : List Item) (fs : List ℕ) (index : ℕ) (r : RuleReader) → IsChecking list fs index r → length list ≤ index → index ≤ length list → IsSound (Broken list fs)
checking_ends list fs index r i h k =
    let n : index ≡ length (sites list) = omega (arith, length-sites [] list) in
    sound_of bit_at (Breaks list fs) (sites list) (subst (λ (z : ℕ). IsClear bit_at (Breaks list fs) (sites list) z) n i.clear)
