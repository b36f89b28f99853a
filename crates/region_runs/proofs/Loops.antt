-- The body of a loop.
use Rattle.std.proofs.Common.{◌≡◌, ◌≢◌, ℕ, suc, ◌+◌, ◌≤◌, Bool, true, false, refl, sym, ap, ◌∙◌, subst, arith}
use Rattle.std.specs.Prelude.{nat_eq, if◌then◌else◌}
use Rattle.dxil_form.specs.declared.region.Region.TheVariants as region
use Rattle.dxil_form.specs.Walks.{EnteredBy}
use Rattle.dxil_form.specs.Walks.EnteredBy.{by_head}
use Rattle.dxil_form.specs.Wired.{MayWant}
use Rattle.dxil_form.specs.Wired.MayWant.{body_wants}
use Rattle.spirv_meaning.specs.Target.{State}
use Rattle.spirv_code.specs.declared.key.Global.TheVariants as global
use Rattle.spirv_code.specs.Plans.{header_label, merge_label}
use Rattle.spirv_code.specs.Exits.{label_inst}
use Rattle.spirv_code.specs.Trees.{Loop}
use Rattle.spirv_code.specs.Further.{wants}
use Rattle.spirv_code.specs.Rows.{footer_code}
use Rattle.line_runs.specs.Held.{Has, Uses}
use Rattle.line_runs.specs.Exits.{ArrivesAt, Returns}
use Rattle.line_runs.proofs.Tests.{true_false, nat_eq-eq, nat_eq-refl}
use Rattle.region_runs.specs.Standing.{HasWant}
use Rattle.region_runs.proofs.Ways.{Scene, Label, Runs, size, at_below, Forth, forth_one, forth_on, arrives_in, then_arrives, then_returns}
use Rattle.region_runs.proofs.Steps.{at_label, pass_label, forth_to}
use Rattle.region_runs.proofs.Wanting.{Wanting, footer_goes}
use Rattle.region_runs.proofs.Codes.{Stands, LoopParts, loop_parts}
use Rattle.region_runs.proofs.Entries.{Is, tree, loop_tree, passing_wants, entered_below, same_region}
use Rattle.region_runs.proofs.Descent.{descend}
use Rattle.region_runs.proofs.Placed.{span, nothing, After, Placed, still, wanting, differ}

-- ---- behind a body, and behind the arms of a dispatch: the test of the continue target

-- to the merge block and past its label
pub footer_leaves : (e : Scene) (region place k w there other : ℕ) (t : State) → t.at ≡ place → Has e.s.made place (footer_code e.s.context region place k there other) → Wanting e w t → Uses e.s (global.Number k) → (if nat_eq w k then there else other) ≡ merge_label region → Forth e t (at_label (place + 6) t)
footer_leaves e region place k w there other t at has h uses leaves =
    let q : ℕ = place + 1 + 1 + 1 + 1 + 1 in
    let label = has.1.1.1.1.1.0 in
    let none = e.has.others region 3 (place + 1) (omega arith) (omega arith) has.1.0 in
    let runs = footer_goes e region place k w there other q t at has h uses none (subst (λ l. Label e q l) (sym leaves) label) in
    let first : Forth e t (at_label q t) = record { n = 5; few = omega (arith, at); leads = runs } in
    let second = forth_one e (at_label q t) (at_label (suc q) t) (omega arith) (pass_label e q (merge_label region) (at_label q t) refl label (e.has.others region 4 q (omega arith) (omega arith) label)) in
    forth_to e (suc q) (place + 6) t t (omega arith) (forth_on e t (at_label q t) (at_label (suc q) t) first second)

-- back to the header
pub footer_repeats : (e : Scene) (region place k w there other q : ℕ) (t : State) → t.at ≡ place → Has e.s.made place (footer_code e.s.context region place k there other) → Wanting e w t → Uses e.s (global.Number k) → (if nat_eq w k then there else other) ≡ header_label region → Label e q (header_label region) → Runs e 5 t (at_label q t)
footer_repeats e region place k w there other q t at has h uses repeats label =
    let none = e.has.others region 3 (place + 1) (omega arith) (omega arith) has.1.0 in
    footer_goes e region place k w there other q t at has h uses none (subst (λ l. Label e q l) (sym repeats) label)

pub footer_room : (e : Scene) (region place k there other : ℕ) → Has e.s.made place (footer_code e.s.context region place k there other) → 5 + place ≤ size e
footer_room e region place k there other has =
    let below = at_below e (place + 1 + 1 + 1 + 1 + 1) (label_inst (merge_label region)) has.1.1.1.1.1.0 in
    omega (arith, below)

-- ---- the body

module _ (e : Scene) (r body h head place : ℕ) (is : Is e r (region.Loop body h)) (placed : Placed e r head place) where
  abbrev mid : ℕ
  mid = place + 3 + span e (place + 3) (tree e body)

  whole : Stands e (Loop r (tree e body) h) head place
  whole = subst (λ x. Stands e x head place) (loop_tree e r body h is) placed.stands

  pieces : LoopParts e place r h (tree e body)
  pieces = loop_parts e place r h (tree e body) whole.code

  behind : After e r (mid + 6)
  behind =
      subst (After e r) (ap (λ x. place + span e place x) (loop_tree e r body h is) ∙ pieces.ends) placed.after

  there : wants e.s.program e.list ≡ true
  there = passing_wants e r (region.Loop body h) is refl

  uses : Uses e.s (global.Number h)
  uses = e.has.loop_numbers r body h is

  body_arrives : (k : ℕ) → MayWant e.s.program e.list body k → (t : State) → t.at ≡ mid → Wanting e k t → ArrivesAt e.s e.i t k
  body_arrives k may t at w = by_test (nat_eq k h) refl
    where
      by_test : (b : Bool) → nat_eq k h ≡ b → ArrivesAt e.s e.i t k
      by_test true same =
          let goes = footer_repeats e r mid h k (header_label r) (merge_label r) head t at pieces.footer w uses (ap (λ b. if b then header_label r else merge_label r) same) whole.label in
          let enters = subst (λ x. EnteredBy e.list r x) (sym (nat_eq-eq k h same)) (by_head is) in
          let comes = descend e (suc r) r k head place (at_label head t) (omega arith) enters placed.stands refl (λ id. refl) (λ arms d. absurd (cc (same_region e r (region.Dispatch arms) (region.Loop body h) d is))) in
          let room = footer_room e r mid h (header_label r) (merge_label r) pieces.footer in
          arrives_in e 5 t (at_label head t) k goes (omega (arith, at, room)) (λ id other. refl) comes
      by_test false other =
          let goes = footer_leaves e r mid h k (header_label r) (merge_label r) t at pieces.footer w uses (ap (λ b. if b then header_label r else merge_label r) other) in
          let apart : k ≢ h = λ same. true_false (sym (subst (λ x. nat_eq k x ≡ true) same (nat_eq-refl k)) ∙ other) in
          then_arrives e t (at_label (mid + 6) t) k goes (λ id passer. refl) ((behind.onward k (body_wants is may apart)).arrives (at_label (mid + 6) t) refl (still e k (mid + 6) t w))

  body_ends : (t : State) → t.at ≡ mid → HasWant e.s t (nothing e) → Returns e.s e.i t
  body_ends t at want =
      let below = entered_below e (suc r) r h (omega arith) (by_head is) in
      let other = differ (nothing e) h (λ same. omega (arith, below, same)) in
      let goes = footer_leaves e r mid h (nothing e) (header_label r) (merge_label r) t at pieces.footer (wanting e (nothing e) t there want) uses (ap (λ b. if b then header_label r else merge_label r) other) in
      then_returns e t (at_label (mid + 6) t) goes (behind.ends (at_label (mid + 6) t) refl want)

  pub loop_body : Placed e body (place + 2) (place + 3)
  loop_body =
      record {
        stands = pieces.stands;
        after = record { onward = λ k may. record { is_wanted = there; arrives = body_arrives k may }; ends = body_ends };
      }
