-- The word of a block is that of its label.
use Rattle.std.proofs.Common.{◌≡◌, ◌⊎◌, inl, inr, ℕ, zero, suc, ◌+◌, Bool, true, false, List, [], ◌∷◌, ◌++◌, take, Option, Some, None, refl, sym, ap, ◌∙◌, arith}
use Rattle.std.proofs.lemmas.List.Sums.{sum_by-cons}
use Rattle.std.specs.Prelude.{slice_get, ◌==◌, if◌then◌else◌}
use Rattle.std.specs.List.{sum_by}
use Rattle.spv_form.specs.declared.module.Inst.{Inst}
use Rattle.spv_form.specs.Words.{size_of, start_of}
use Rattle.flow_rules.specs.declared.block.Terminator.{Terminator}
use Rattle.flow_blocks.specs.Blocks.{Labeled, Open, operand, terminator_of, merge_of, targets_of, with_merge, inner_after, ended}
use Rattle.written_rows.proofs.Steps.{blocks, word_at}

-- where the label of a block stands
pub record Located (w : ℕ) (xs : List Inst) (d : Labeled) : Type 0 where
  pub place : ℕ
  pub label : Inst
  pub there : slice_get xs place ≡ Some label
  pub is_label : (label.opcode == 248) ≡ true
  pub id_is : operand label 0 ≡ d.label
  pub word_is : d.block.word ≡ word_at w (take place xs)

-- or it is the block that was open
abbrev WasOpen : Option Open → Labeled → Type 0
WasOpen None d = ⊥
WasOpen (Some o) d = (o.label ≡ d.label) × (o.word ≡ d.block.word)

further : (w : ℕ) (x : Inst) (xs : List Inst) (d : Labeled) → Located (w + size_of x) xs d → Located w (x ∷ xs) d
further w x xs d l =
    record { place = suc l.place; label = l.label; there = l.there; is_label = l.is_label; id_is = l.id_is; word_is = l.word_is }

module _ (x : Inst) (xs : List Inst) (w : ℕ) (d : Labeled) (again : (o : Option Open) (j : ℕ) → slice_get (blocks o (w + size_of x) xs) j ≡ Some d → WasOpen o d ⊎ Located (w + size_of x) xs d) where
  inj : {A : Type 0} {a b : A} → Some a ≡ Some b → a ≡ b
  inj e = cc

  none_open : WasOpen None d ⊎ Located (w + size_of x) xs d → Located w (x ∷ xs) d
  none_open (inl n) = absurd n
  none_open (inr l) = further w x xs d l

  same_open : (o : Open) (p : Open) → o.label ≡ p.label → o.word ≡ p.word → WasOpen (Some p) d ⊎ Located (w + size_of x) xs d → WasOpen (Some o) d ⊎ Located w (x ∷ xs) d
  same_open o p e f (inl h) = inl (e ∙ h.0, f ∙ h.1)
  same_open o p e f (inr l) = inr (further w x xs d l)

  closing : (o : Open) (t : Terminator) (i : ℕ) → slice_get (ended (Some o) (Some t) w (targets_of x) ++ blocks None (w + size_of x) xs) i ≡ Some d → WasOpen (Some o) d ⊎ Located w (x ∷ xs) d
  closing o t zero e =
      let same = inj e in
      inl (ap (λ (b : Labeled). b.label) same, ap (λ (b : Labeled). b.block.word) same)
  closing o t (suc i) e = inr (none_open (again None i e))

  by_open : (o : Option Open) (t : Option Terminator) (i : ℕ) → slice_get (ended o t w (targets_of x) ++ blocks (inner_after o t (merge_of x w)) (w + size_of x) xs) i ≡ Some d → WasOpen o d ⊎ Located w (x ∷ xs) d
  by_open None None i e = inr (none_open (again None i e))
  by_open None (Some t) i e = inr (none_open (again None i e))
  by_open (Some o) None i e = same_open o (record { label = o.label; word = o.word; strays = with_merge o.strays o.merge; merge = merge_of x w }) refl refl (again (inner_after (Some o) None (merge_of x w)) i e)
  by_open (Some o) (Some t) i e = closing o t i e

  pub by_label : (b : Bool) (o : Option Open) → (x.opcode == 248) ≡ b → (i : ℕ) → slice_get ((if b then [] else ended o (terminator_of x) w (targets_of x)) ++ blocks (if b then Some (record { label = operand x 0; word = w; strays = []; merge = None }) else inner_after o (terminator_of x) (merge_of x w)) (w + size_of x) xs) i ≡ Some d → WasOpen o d ⊎ Located w (x ∷ xs) d
  by_label true o is i e =
      elim (again (Some (record { label = operand x 0; word = w; strays = []; merge = None })) i e) [
        | inl h ↦ inr (record { place = 0; label = x; there = refl; is_label = is; id_is = h.0; word_is = sym h.1 })
        | inr l ↦ inr (further w x xs d l)
      ]
  by_label false o is i e = by_open o (terminator_of x) i e

pub located : (o : Option Open) (w : ℕ) (xs : List Inst) (i : ℕ) (d : Labeled) → slice_get (blocks o w xs) i ≡ Some d → WasOpen o d ⊎ Located w xs d
located o w [] i d e = absurd (cc)
located o w (x ∷ xs) i d e =
    by_label x xs w d (λ p j f. located p (w + size_of x) xs j d f) (x.opcode == 248) o refl i e

-- the word at which an instruction starts
word_sum : (w : ℕ) (xs : List Inst) → word_at w xs ≡ w + sum_by size_of xs
word_sum w [] = plus_none w
  where
    plus_none : (w : ℕ) → w ≡ w + 0
    plus_none w = omega arith
word_sum w (x ∷ xs) =
    let rest = word_sum (w + size_of x) xs in
    let sum = sum_by-cons size_of x xs in
    omega (arith, rest, sum)

pub starts : (xs : List Inst) (i : ℕ) → word_at 5 (take i xs) ≡ start_of xs i
starts xs i = word_sum 5 (take i xs)
