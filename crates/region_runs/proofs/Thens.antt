-- The parts of a region that goes on with another one where its target is wanted.
use Rattle.std.proofs.Common.{◌≡◌, ◌≢◌, ℕ, suc, ◌+◌, ◌<◌, Bool, true, false, refl, sym, ap, ◌∙◌, subst, arith}
use Rattle.std.specs.Prelude.{nat_eq}
use Rattle.dxil_form.specs.declared.region.Region.TheVariants as region
use Rattle.dxil_form.specs.Walks.{EnteredBy}
use Rattle.dxil_form.specs.Wired.{MayWant}
use Rattle.dxil_form.specs.Wired.MayWant.{first_wants, second_wants}
use Rattle.spirv_meaning.specs.Target.{State}
use Rattle.spirv_code.specs.declared.key.Global.TheVariants as global
use Rattle.spirv_code.specs.Trees.{Then}
use Rattle.spirv_code.specs.Further.{wants}
use Rattle.line_runs.specs.Held.{Uses}
use Rattle.line_runs.specs.Exits.{ArrivesAt, Returns}
use Rattle.line_runs.proofs.Tests.{true_false, nat_eq-eq, nat_eq-refl}
use Rattle.region_runs.specs.Standing.{HasWant}
use Rattle.region_runs.proofs.Ways.{Scene, then_comes, comes_arrives, then_arrives, then_returns}
use Rattle.region_runs.proofs.Steps.{at_label}
use Rattle.region_runs.proofs.Wanting.{Wanting}
use Rattle.region_runs.proofs.Codes.{Stands, ThenParts, then_parts}
use Rattle.region_runs.proofs.Entries.{Is, tree, then_tree, part_below, within_root, no_dispatch, passing_wants, entered_below}
use Rattle.region_runs.proofs.Descent.{descend}
use Rattle.region_runs.proofs.Placed.{span, nothing, After, Placed, still, wanting, differ, after_by, when_past, when_in, when_out}

module _ (e : Scene) (r first second target head place : ℕ) (is : Is e r (region.Then first second target)) (placed : Placed e r head place) where
  abbrev mid : ℕ
  mid = place + span e place (tree e first)

  abbrev end : ℕ
  end = mid + 5 + span e (mid + 5) (tree e second) + 2

  whole : Stands e (Then r (tree e first) (tree e second) target) head place
  whole = subst (λ x. Stands e x head place) (then_tree e r first second target is) placed.stands

  pieces : ThenParts e place r target (tree e first) (tree e second)
  pieces = then_parts e place r target (tree e first) (tree e second) whole.code

  behind : After e r end
  behind =
      subst (After e r) (ap (λ x. place + span e place x) (then_tree e r first second target is) ∙ pieces.ends) placed.after

  there : wants e.s.program e.list ≡ true
  there = passing_wants e r (region.Then first second target) is refl

  uses : Uses e.s (global.Number target)
  uses = e.has.then_numbers r first second target is

  second_under : second < e.wired.root
  second_under =
      let less = part_below e r 1 second (region.Then first second target) is refl in
      let in_root = within_root e r (region.Then first second target) is in
      omega (arith, less, in_root)

  -- behind the first part, where block k is wanted
  first_arrives : (k : ℕ) → MayWant e.s.program e.list first k → (t : State) → t.at ≡ mid → Wanting e k t → ArrivesAt e.s e.i t k
  first_arrives k may t at h = by_test (nat_eq k target) refl
    where
      by_test : (b : Bool) → nat_eq k target ≡ b → ArrivesAt e.s e.i t k
      by_test true same =
          let goes = when_in e mid target k (tree e second) t pieces.second_parts at h uses same in
          let enters = subst (λ x. EnteredBy e.list second x) (sym (nat_eq-eq k target same)) (e.wired.second r first second target is) in
          let comes = descend e (suc second) second k (mid + 4) (mid + 5) (at_label (mid + 4) t) (omega arith) enters pieces.second_parts.stands refl (λ id. refl) (λ arms d. absurd (no_dispatch e second arms second_under d)) in
          comes_arrives e t k (then_comes e t (at_label (mid + 4) t) k goes (λ id. refl) comes)
      by_test false other =
          let goes = when_past e mid target k (tree e second) t pieces.second_parts at h uses other in
          let apart : k ≢ target = λ same. true_false (sym (subst (λ x. nat_eq k x ≡ true) same (nat_eq-refl k)) ∙ other) in
          then_arrives e t (at_label end t) k goes (λ id no_passer. refl) ((behind.onward k (first_wants is may apart)).arrives (at_label end t) refl (still e k end t h))

  first_ends : (t : State) → t.at ≡ mid → HasWant e.s t (nothing e) → Returns e.s e.i t
  first_ends t at want =
      let below = entered_below e (suc second) second target (omega arith) (e.wired.second r first second target is) in
      let other = differ (nothing e) target (λ same. omega (arith, below, same)) in
      let goes = when_past e mid target (nothing e) (tree e second) t pieces.second_parts at (wanting e (nothing e) t there want) uses other in
      then_returns e t (at_label end t) goes (behind.ends (at_label end t) refl want)

  pub then_first : Placed e first head place
  then_first =
      record {
        stands = record { label = whole.label; ahead = whole.ahead; between = whole.between; code = pieces.code };
        after = record { onward = λ k may. record { is_wanted = there; arrives = first_arrives k may }; ends = first_ends };
      }

  pub then_second : Placed e second (place + span e place (tree e first) + 4) (place + span e place (tree e first) + 5)
  then_second =
      record {
        stands = pieces.second_parts.stands;
        after = after_by e r second (mid + 5 + span e (mid + 5) (tree e second)) end (λ k may. second_wants is may) (λ t at. when_out e mid target (tree e second) t pieces.second_parts at) behind;
      }
