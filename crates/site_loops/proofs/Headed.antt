-- The headers of loops among instructions: the label before an OpLoopMerge, and where the instruction behind it branches to.
use Rattle.std.proofs.Common.{◌≡◌, ℕ, zero, suc, ◌+◌, ◌<◌, ◌≤◌, Bool, true, false, ne_eqb, List, [], ◌∷◌, ◌++◌, Option, Some, None, refl, sym, ap, ◌∙◌, subst, arith}
use Rattle.std.specs.Prelude.{slice_get, ◌==◌, if◌then◌else◌}
use Rattle.spv_form.specs.declared.module.Inst.{Inst}
use Rattle.spv_form.specs.Words.{size_of}
use Rattle.flow_rules.specs.declared.block.Merge.{Merge}
use Rattle.flow_rules.specs.declared.block.MergeKind.{MergeKind}
use Rattle.flow_rules.specs.declared.block.MergeKind.TheVariants.{Selection, Loop}
use Rattle.flow_rules.specs.declared.block.Terminator.{Terminator}
use Rattle.flow_blocks.specs.Blocks.{Labeled, Open, operand, terminator_of, merge_of, targets_of, inner_after, ended}
use Rattle.written_rows.specs.Code.{AreInner}
use Rattle.written_rows.proofs.Steps.{blocks}
use Rattle.site_loops.proofs.Calm.{AreCalm}

abbrev pub OneOf : Bool → Type 0 → Type 0 → Type 0
OneOf true A B = A
OneOf false A B = B

module _ (G : ℕ → List ℕ → Type 0) where
  -- an instruction follows, which branches from the label so
  abbrev pub Onward : ℕ → List Inst → Type 0
  Onward l [] = ⊥
  Onward l (x ∷ xs) = G l (targets_of x)

  -- it does so behind each OpLoopMerge, whose block has the label l or one among the instructions
  abbrev pub Headed : ℕ → List Inst → Type 0
  Headed l [] = Unit {0}
  Headed l (x ∷ xs) = OneOf (x.opcode == 248) (Headed (operand x 0) xs) (OneOf (x.opcode == 246) (Onward l xs) (Unit {0}) × Headed l xs)

  -- whatever label stands before
  abbrev pub IsFree : List Inst → Type 0
  IsFree xs = (l : ℕ) → Headed l xs

  onward_append : (l : ℕ) (xs ys : List Inst) → Onward l xs → Onward l (xs ++ ys)
  onward_append l [] ys h = absurd h
  onward_append l (x ∷ xs) ys h = h

  pub headed_append : (l : ℕ) (xs ys : List Inst) → Headed l xs → IsFree ys → Headed l (xs ++ ys)
  headed_append l [] ys h free = free l
  headed_append l (x ∷ xs) ys h free =
      by_label (λ g. headed_append (operand x 0) xs ys g free) (λ g. headed_append l xs ys g free) (x.opcode == 248) h
    where
      by_loop : (b : Bool) → OneOf b (Onward l xs) (Unit {0}) → OneOf b (Onward l (xs ++ ys)) (Unit {0})
      by_loop true h = onward_append l xs ys h
      by_loop false h = tt

      by_label : (Headed (operand x 0) xs → Headed (operand x 0) (xs ++ ys)) → (Headed l xs → Headed l (xs ++ ys)) → (b : Bool) → OneOf b (Headed (operand x 0) xs) (OneOf (x.opcode == 246) (Onward l xs) (Unit {0}) × Headed l xs) → OneOf b (Headed (operand x 0) (xs ++ ys)) (OneOf (x.opcode == 246) (Onward l (xs ++ ys)) (Unit {0}) × Headed l (xs ++ ys))
      by_label other same true h = other h
      by_label other same false h = (by_loop (x.opcode == 246) h.0, same h.1)

  not_one : (A B : Type 0) (b : Bool) → b ≡ false → B → OneOf b A B
  not_one A B b e h = subst (λ (c : Bool). OneOf c A B) (sym e) h

  pub calm_free : (xs : List Inst) → AreCalm xs → IsFree xs
  calm_free [] h l = tt
  calm_free (x ∷ xs) h l =
      by_label (calm_free xs h.1 (operand x 0)) (calm_free xs h.1 l) (x.opcode == 248)
    where
      by_label : Headed (operand x 0) xs → Headed l xs → (b : Bool) → OneOf b (Headed (operand x 0) xs) (OneOf (x.opcode == 246) (Onward l xs) (Unit {0}) × Headed l xs)
      by_label other same true = other
      by_label other same false = (not_one (Onward l xs) (Unit {0}) (x.opcode == 246) h.0 tt, same)

  -- instructions without labels and merge instructions before others
  pub inner_headed : (l : ℕ) (xs ys : List Inst) → AreInner xs → Headed l ys → Headed l (xs ++ ys)
  inner_headed l [] ys h k = k
  inner_headed l (x ∷ xs) ys h k =
      not_one _ _ (x.opcode == 248) (low_not x.opcode 248 h.0 (omega arith)) (not_one _ _ (x.opcode == 246) (low_not x.opcode 246 h.0 (omega arith)) tt, inner_headed l xs ys h.1 k)
    where
      low_not : (n m : ℕ) → n < 246 → 246 ≤ m → (n == m) ≡ false
      low_not n m low high = ne_eqb n m (λ e. absurd (omega (arith, e, low, high)))

-- ---- blocks whose merge instruction is a loop's

abbrev pub IsLoopMerge : Option Merge → Type 0
IsLoopMerge o = (g : Merge) × (c : ℕ) × (o ≡ Some g) × (g.kind ≡ Loop c)

no_loop_none : IsLoopMerge None → ⊥
no_loop_none (g, c, e, f) = absurd (let never : None ≡ Some g = e in cc)

-- no loop's merge instruction
not_loop : (x : Inst) (w : ℕ) → (x.opcode == 246) ≡ false → IsLoopMerge (merge_of x w) → ⊥
not_loop x w other loop =
    by_select (x.opcode == 247) (subst (λ (b : Bool). IsLoopMerge (if b then Some (record { word = w; kind = Loop (operand x 1); merge_block = operand x 0 }) else (if x.opcode == 247 then Some (record { word = w; kind = Selection; merge_block = operand x 0 }) else None))) other loop)
  where
    kind_of : Option Merge → MergeKind
    kind_of None = Selection
    kind_of (Some g) = g.kind

    by_select : (b : Bool) → IsLoopMerge (if b then Some (record { word = w; kind = Selection; merge_block = operand x 0 }) else None) → ⊥
    by_select true (g, c, e, f) = absurd (let never : Selection ≡ Loop c = ap kind_of e ∙ f in cc)
    by_select false loop = no_loop_none loop

module _ (G : ℕ → List ℕ → Type 0) where
  -- the open block has the label l, and goes onward so where it has a loop's merge instruction
  abbrev IsKnown : Option Open → ℕ → List Inst → Type 0
  IsKnown None l xs = Unit {0}
  IsKnown (Some o) l xs = (o.label ≡ l) × (IsLoopMerge o.merge → Onward G l xs)

  module _ (x : Inst) (xs : List Inst) (w l : ℕ) (d : Labeled) (loop : IsLoopMerge d.block.merge) (again : (k : ℕ) (o : Option Open) → IsKnown o k xs → Headed G k xs → (j : ℕ) → slice_get (blocks o (w + size_of x) xs) j ≡ Some d → G d.label d.block.targets) where
    abbrev Rest : Type 0
    Rest = OneOf (x.opcode == 246) (Onward G l xs) (Unit {0}) × Headed G l xs

    inj : {A : Type 0} {a b : A} → Some a ≡ Some b → a ≡ b
    inj e = cc

    -- the block that a terminator ends
    closing : (o : Open) (t : Terminator) → IsKnown (Some o) l (x ∷ xs) → Rest → (i : ℕ) → slice_get (ended (Some o) (Some t) w (targets_of x) ++ blocks None (w + size_of x) xs) i ≡ Some d → G d.label d.block.targets
    closing o t known rest zero e =
        let same = inj e in
        let merge : IsLoopMerge o.merge = subst (λ (b : Labeled). IsLoopMerge b.block.merge) (sym same) loop in
        let here : G o.label (targets_of x) = subst (λ k. G k (targets_of x)) (sym known.0) (known.1 merge) in
        subst (λ (b : Labeled). G b.label b.block.targets) same here
    closing o t known rest (suc i) e = again l None tt rest.1 i e

    -- the open block has one more instruction
    inner : (o : Open) → IsKnown (Some o) l (x ∷ xs) → Rest → (i : ℕ) → slice_get (blocks (inner_after (Some o) None (merge_of x w)) (w + size_of x) xs) i ≡ Some d → G d.label d.block.targets
    inner o known rest i e =
        again l (inner_after (Some o) None (merge_of x w)) (known.0, λ m. by_loop (x.opcode == 246) refl rest.0 m) rest.1 i e
      where
        by_loop : (b : Bool) → (x.opcode == 246) ≡ b → OneOf b (Onward G l xs) (Unit {0}) → IsLoopMerge (merge_of x w) → Onward G l xs
        by_loop true is h m = h
        by_loop false is h m = absurd (not_loop x w is m)

    by_open : (o : Option Open) → IsKnown o l (x ∷ xs) → Rest → (t : Option Terminator) → (i : ℕ) → slice_get (ended o t w (targets_of x) ++ blocks (inner_after o t (merge_of x w)) (w + size_of x) xs) i ≡ Some d → G d.label d.block.targets
    by_open None known rest None i e = again l None tt rest.1 i e
    by_open None known rest (Some t) i e = again l None tt rest.1 i e
    by_open (Some o) known rest None i e = inner o known rest i e
    by_open (Some o) known rest (Some t) i e = closing o t known rest i e

    pub by_label : (b : Bool) (o : Option Open) → IsKnown o l (x ∷ xs) → OneOf b (Headed G (operand x 0) xs) Rest → (i : ℕ) → slice_get ((if b then [] else ended o (terminator_of x) w (targets_of x)) ++ blocks (if b then Some (record { label = operand x 0; word = w; strays = []; merge = None }) else inner_after o (terminator_of x) (merge_of x w)) (w + size_of x) xs) i ≡ Some d → G d.label d.block.targets
    by_label true o known h i e =
        again (operand x 0) (Some (record { label = operand x 0; word = w; strays = []; merge = None })) (refl, λ m. absurd (no_loop_none m)) h i e
    by_label false o known h i e = by_open o known h (terminator_of x) i e

  pub looped : (l : ℕ) (o : Option Open) (w : ℕ) (xs : List Inst) → IsKnown o l xs → Headed G l xs → (i : ℕ) (d : Labeled) → slice_get (blocks o w xs) i ≡ Some d → IsLoopMerge d.block.merge → G d.label d.block.targets
  looped l o w [] known h i d e loop = absurd (cc)
  looped l o w (x ∷ xs) known h i d e loop =
      by_label x xs w l d loop (λ k p t g j f. looped k p (w + size_of x) xs t g j d f loop) (x.opcode == 248) o known h i e
