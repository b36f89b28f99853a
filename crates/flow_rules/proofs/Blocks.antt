-- What a block determines.
use Rattle.std.proofs.Common.{ℕ, zero, suc, [], ◌∷◌, get_or, ◌≡◌, ◌<◌, inl, inr, sym, ap, ◌∙◌, arith, List, length, slice_get, Some}
use Rattle.std.proofs.lemmas.Bool.{cases_lt}
use Rattle.std.proofs.lemmas.Option.{slice_get_within}
use Rattle.flow_rules.specs.Blocks.{BasicBlock}
use Rattle.flow_rules.specs.declared.block.Merge.{Merge}
use Rattle.flow_rules.specs.declared.block.MergeKind.TheVariants.{Loop}
use Rattle.flow_rules.specs.Flow.{At, Header, Loops}

pub data Compared (a b : ℕ) : Type 0 where
  is_less : a < b → Compared a b
  is_same : a ≡ b → Compared a b
  is_more : b < a → Compared a b

pub compared : (a b : ℕ) → Compared a b
compared a b = elim (cases_lt a b) [
  | inl h ↦ is_less h
  | inr h ↦ elim (cases_lt b a) [ inl g ↦ is_more g | inr g ↦ is_same (omega arith) ]
]

pub some_same : {A : Type 0} (a b : A) → Some a ≡ Some b → a ≡ b
some_same a b e = cc

pub loop_same : (c d : ℕ) → Loop c ≡ Loop d → c ≡ d
loop_same c d e = cc

get_at : {X : Type 0} (xs : List X) (p : ℕ) (x : X) → p < length xs → x ≡ get_or xs p x → slice_get xs p ≡ Some x
get_at [] p x h e = absurd (omega arith)
get_at (y ∷ ys) zero x h e = ap Some (sym e)
get_at (y ∷ ys) (suc p) x h e = get_at ys p x (omega arith) e

pub at_index : (bs : List BasicBlock) (p : ℕ) (b : BasicBlock) → p < length bs → b ≡ get_or bs p b → At bs p b
at_index bs p b h e = get_at bs p b h e

module _ (bs : List BasicBlock) where
  pub at_same : (p : ℕ) (b d : BasicBlock) → At bs p b → At bs p d → b ≡ d
  at_same p b d h k = some_same b d (sym h ∙ k)

  pub at_below : (p : ℕ) (b : BasicBlock) → At bs p b → p < length bs
  at_below p b h = slice_get_within bs p b h

  pub header_same : (p : ℕ) (f g : Merge) → Header bs p f → Header bs p g → f ≡ g
  header_same p f g h k =
      let one = at_same p h.block k.block h.at k.at in
      some_same f g (sym h.merge ∙ ap (λ (b : BasicBlock). b.merge) one ∙ k.merge)

  pub loops_same : (p : ℕ) (f g : Merge) (c d : ℕ) → Loops bs p f c → Loops bs p g d → c ≡ d
  loops_same p f g c d h k = loop_same c d (sym h.kind ∙ ap (λ (m : Merge). m.kind) (header_same p f g h.header k.header) ∙ k.kind)

  pub merge_same : (p : ℕ) (f g : Merge) → Header bs p f → Header bs p g → f.merge_block ≡ g.merge_block
  merge_same p f g h k = ap (λ (m : Merge). m.merge_block) (header_same p f g h k)
