-- One more entry of the map, unless the edge has one.
use Rattle.std.proofs.Common.{◌≡◌, ℕ, Bool, true, false, ◌&&◌, if◌then◌else◌, List, Some, None, refl, sym, ap, ◌∙◌, nat_eq, eqb-true}
use Rattle.std.specs.Map.{lookup}
use Rattle.std.specs.Option.{option_or}
use Rattle.std.proofs.lemmas.Bool.{and_parts}
use Rattle.dxil_form.specs.declared.value.Operand.{Operand}
use Rattle.phi_entries.specs.contracts.entries.EdgePartialEq.TheImpl as impl
use Rattle.phi_entries.specs.declared.entries.Edge.{Edge}
use Rattle.phi_entries.specs.Entries.{edge_for, found, is_edge}
use Rattle.phi_entries.proofs.Found.{first_row}
use Rattle.phi_entries.proofs.Made.{none_last, same_numbers}

module _ (rows : List (Edge × Operand)) (edge : Edge) (k n from : ℕ) where
  at_edge : is_edge edge k n from ≡ true → found rows k n from ≡ lookup (impl.eq-value.it edge) rows
  at_edge e =
      let one = and_parts (nat_eq k edge.block) (nat_eq n edge.phi && nat_eq from edge.from) e in
      let two = and_parts (nat_eq n edge.phi) (nat_eq from edge.from) one.1 in
      ap (λ a. found rows a n from) (eqb-true k edge.block one.0)
      ∙ ap (λ a. found rows edge.block a from) (eqb-true n edge.phi two.0)
      ∙ ap (found rows edge.block edge.phi) (eqb-true from edge.from two.1)
      ∙ sym (first_row rows edge.block edge.phi edge.from)

  pub stays : (value v : Operand) → lookup (impl.eq-value.it edge) rows ≡ Some v → found rows k n from ≡ option_or (found rows k n from) (if is_edge edge k n from then Some value else None)
  stays value v is = by_test (is_edge edge k n from) refl
    where
      by_test : (b : Bool) → is_edge edge k n from ≡ b → found rows k n from ≡ option_or (found rows k n from) (if b then Some value else None)
      by_test true e =
          let same = at_edge e ∙ is in
          same ∙ ap (λ x. option_or x (Some value)) (sym same)
      by_test false e = sym (none_last (found rows k n from))

  flip : impl.eq-value.it edge (edge_for k n from) ≡ is_edge edge k n from
  flip =
      ap (λ a. a && (nat_eq edge.phi n && nat_eq edge.from from)) (same_numbers edge.block k)
      ∙ ap (λ a. nat_eq k edge.block && (a && nat_eq edge.from from)) (same_numbers edge.phi n)
      ∙ ap (λ a. nat_eq k edge.block && (nat_eq n edge.phi && a)) (same_numbers edge.from from)

  pub added : (new : List (Edge × Operand)) (value : Operand) → lookup (impl.eq-value.it edge) rows ≡ None → lookup (impl.eq-value.it (edge_for k n from)) new ≡ (if impl.eq-value.it edge (edge_for k n from) then Some value else lookup (impl.eq-value.it (edge_for k n from)) rows) → found new k n from ≡ option_or (found rows k n from) (if is_edge edge k n from then Some value else None)
  added new value none updated =
      sym (first_row new k n from)
      ∙ updated
      ∙ ap (λ b. if b then Some value else lookup (impl.eq-value.it (edge_for k n from)) rows) flip
      ∙ ap (λ o. if is_edge edge k n from then Some value else o) (first_row rows k n from)
      ∙ by_test (is_edge edge k n from) refl
    where
      by_test : (b : Bool) → is_edge edge k n from ≡ b → (if b then Some value else found rows k n from) ≡ option_or (found rows k n from) (if b then Some value else None)
      by_test true e = ap (λ x. option_or x (Some value)) (sym (at_edge e ∙ none))
      by_test false e = sym (none_last (found rows k n from))
