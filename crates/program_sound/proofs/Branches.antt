-- The branches of the program are those of the body's lines.
use Rattle.std.proofs.Common.{ℕ, ◌≡◌, ◌⊎◌, inl, inr, refl, sym, subst, ap, ap₂, ◌∙◌, Bool, true, false, cond, ◌||◌, ◌==◌, List, [], ◌∷◌, map, length, slice_get, Option, Some, None}
use Rattle.std.proofs.lemmas.Bool.{both_ways, cases_Bool, eqb-true, eq-eqb, ne_eqb}
use Rattle.dxil_form.specs.declared.block.Block.{Block}
use Rattle.dxil_form.specs.declared.block.Term.{Term}
use Rattle.dxil_form.specs.declared.block.Term.TheVariants.{Ret, Unreachable, Go, If, Switch}
use Rattle.dxil_form.specs.Branches.{targets, targets_in, has, branches}
use Rattle.llvm_bodies.specs.Bodies.{is_terminator}
use Rattle.llvm_bodies.specs.declared.line.Line.{Line}
use Rattle.profile_lines.specs.Calls.{operand}
use Rattle.profile_tables.specs.EntryBody.{EntryBody}
use Rattle.profile_tables.specs.Parts.{has_target, goes_to, cases_of}
use Rattle.profile_tables.specs.Read.{IsRead, IsAt}
use Rattle.stated_program.specs.Instructions.{end_of, case_of, branch_of, at}
use Rattle.stated_program.specs.Stated.{program_of}
use Rattle.program_sound.proofs.Blocks.{IsEnd, end_line}
use Rattle.program_sound.proofs.Ends.{end_there}

eqb-flip : (k n : ℕ) → (k == n) ≡ (n == k)
eqb-flip k n = elim (cases_Bool (n == k)) [
  | inl t ↦ eq-eqb k n (sym (eqb-true n k t)) ∙ sym t
  | inr f ↦ ne_eqb k n (λ e. both_ways _ f (eq-eqb n k (sym e))) ∙ sym f
]

other_code : (c m n : ℕ) → (c == m) ≡ true → (m ≡ n → ⊥) → (c == n) ≡ false
other_code c m n e d = ne_eqb c n (λ f. d (sym (eqb-true c m e) ∙ f))

or-false : (b : Bool) → (b || false) ≡ b
or-false true = refl
or-false false = refl

module _ (x : EntryBody) (k : ℕ) where
  cases_go : (cs : List (ℕ × ℕ)) → has k (map (λ c. c.1) (map (case_of x) cs)) ≡ goes_to k cs
  cases_go [] = refl
  cases_go (c ∷ cs) = ap₂ (λ a b. a || b) (eqb-flip k c.1) (cases_go cs)

  branch_goes : (line : Line) (b : Bool) → has k (targets (cond b (Go (operand line 0)) (If (at x line 2) (operand line 0) (operand line 1)))) ≡ cond b (operand line 0 == k) (operand line 0 == k || operand line 1 == k)
  branch_goes line true = or-false _ ∙ eqb-flip k (operand line 0)
  branch_goes line false = ap₂ (λ a b. a || b) (eqb-flip k (operand line 0)) (or-false _ ∙ eqb-flip k (operand line 1))

  abbrev switch_of : Line → Term
  switch_of line = Switch (at x line 0) (operand line 1) (map (case_of x) (cases_of line))

  abbrev branches_to : Line → Bool
  branches_to line = cond (length line.numbers == 1) (operand line 0 == k) (operand line 0 == k || operand line 1 == k)

  -- a block has the targets of its last line
  pub targets_are : (line : Line) → has k (targets (end_of x line)) ≡ has_target k line
  unfolding end_of
  targets_are line = go (line.code == 10) (line.code == 11) (line.code == 12) refl refl refl where
    go : (a b c : Bool) → (line.code == 10) ≡ a → (line.code == 11) ≡ b → (line.code == 12) ≡ c
        → has k (targets (cond a Ret (cond b (branch_of x line) (cond c (switch_of line) Unreachable)))) ≡ cond b (branches_to line) (cond c (operand line 1 == k || goes_to k (cases_of line)) false)
    go true true c e f g = absurd (both_ways _ (other_code line.code 10 11 e (λ h. cc)) f)
    go true false true e f g = absurd (both_ways _ (other_code line.code 10 12 e (λ h. cc)) g)
    go true false false e f g = refl
    go false true c e f g = branch_goes line (length line.numbers == 1)
    go false false true e f g = ap₂ (λ a b. a || b) (eqb-flip k (operand line 1)) (cases_go (cases_of line))
    go false false false e f g = refl

  target_ends : (line : Line) → has_target k line ≡ true → is_terminator line.code ≡ true
  target_ends line h = go (line.code == 10) (line.code == 11) (line.code == 12) (branches_to line) (operand line 1 == k || goes_to k (cases_of line)) h where
    go : (a b c p q : Bool) → cond b p (cond c q false) ≡ true → cond a true (cond b true (cond c true (cond (line.code == 15) true false))) ≡ true
    go true b c p q e = refl
    go false true c p q e = refl
    go false false true p q e = refl
    go false false false p q e = cc

-- a line of block b that may go to block k
pub record Goes (x : EntryBody) (b k : ℕ) : Type 0 where
  pub i : ℕ
  pub line : Line
  pub at : IsAt x i line
  pub block : line.block ≡ b
  pub target : has_target k line ≡ true

module _ (x : EntryBody) (counts : List ℕ) where
  pub branch_line : (b k : ℕ) → branches (program_of x counts) b k ≡ true → Goes x b k
  branch_line b k e = go (slice_get (program_of x counts).blocks b) refl e where
    by_end : (term : Term) → has k (targets term) ≡ true → (term ≡ Unreachable) ⊎ IsEnd x b term → Goes x b k
    by_end term h (inl u) = let g : has k (targets Unreachable) ≡ true = subst (λ t. has k (targets t) ≡ true) u h in cc
    by_end term h (inr s) = record { i = s.i; line = s.line; at = s.at; block = s.block; target = sym (targets_are x k s.line) ∙ ap (λ t. has k (targets t)) s.term_is ∙ h }

    go : (o : Option Block) → slice_get (program_of x counts).blocks b ≡ o → has k (targets_in o) ≡ true → Goes x b k
    go None f h = cc
    go (Some block) f h = by_end block.term h (end_line x counts b block.term (record { block = block; stands = f; ends = refl }))

  pub branch_there : IsRead x counts → (i k : ℕ) (line : Line) → IsAt x i line → has_target k line ≡ true → branches (program_of x counts) line.block k ≡ true
  branch_there read i k line at t =
      let e = end_there x counts read i line at (target_ends x k line t) in
      ap (λ o. has k (targets_in o)) e.stands ∙ ap (λ o. has k (targets o)) e.ends ∙ targets_are x k line ∙ t
