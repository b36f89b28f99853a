-- Blocks with numbers in place of labels name blocks of the list, and their words rise as before.
use Rattle.std.proofs.Common.{ℕ, ◌≡◌, ◌<◌, refl, sym, ap, ◌∙◌, subst, arith, List, length, slice_get, map, position, Contains, Option, Some, None}
use Rattle.std.proofs.lemmas.List.{length-map}
use Rattle.std.proofs.lemmas.List.Quantifiers.{position-Some}
use Rattle.std.proofs.lemmas.Option.{slice_get-map, slice_get-get_or, slice_get_within, get_or_from_slice_get}
use Rattle.std.specs.Option.{option_map, unwrap_or}
use Rattle.flow_rules.specs.Blocks.{BasicBlock}
use Rattle.flow_rules.specs.declared.block.Merge.{Merge}
use Rattle.flow_rules.specs.declared.block.MergeKind.{MergeKind}
use Rattle.flow_rules.specs.declared.block.MergeKind.TheVariants.{Selection, Loop}
use Rattle.flow_rules.specs.Flow.{At, StructuralEdge, by_branch, by_merge, by_continue}
use Rattle.flow_rules.specs.Rules.{IsNumbered, AreInOrder}
use Rattle.flow_blocks.specs.Blocks.{Labeled, block_of}
use Rattle.flow_blocks.specs.Numbered.{has_label, number_of, numbered_kind, numbered_merge, numbered_block, numbered}

none_some : {A : Type 0} (x : A) → None ≡ Some x → ⊥
none_some x e = cc

some_inj : {A : Type 0} (x y : A) → Some x ≡ Some y → x ≡ y
some_inj x y e = cc

-- what an element of a mapped list, or of a mapped option, comes from
pub record Source {A B : Type 0} (f : A → B) (o : Option A) (y : B) : Type 0 where
  pub x : A
  pub there : o ≡ Some x
  pub is : f x ≡ y

source : {A B : Type 0} (f : A → B) (o : Option A) (y : B) → option_map f o ≡ Some y → Source f o y
source f None y e = absurd (none_some y e)
source f (Some x) y e = record { x = x; there = refl; is = some_inj (f x) y e }

source_at : {A B : Type 0} (f : A → B) (xs : List A) (i : ℕ) (y : B) → slice_get (map f xs) i ≡ Some y → Source f (slice_get xs i) y
source_at f xs i y e = source f (slice_get xs i) y (sym (slice_get-map f xs i) ∙ e)

get_contains : {A : Type 0} (xs : List A) (i : ℕ) (x : A) → slice_get xs i ≡ Some x → Contains xs x
get_contains xs i x e = (i, slice_get_within xs i x e, get_or_from_slice_get xs i x x e)

contains_get : {A : Type 0} (xs : List A) (x : A) (c : Contains xs x) → slice_get xs c.0 ≡ Some x
contains_get xs x c = slice_get-get_or xs c.0 x c.1 ∙ ap (λ y. Some y) c.2

-- ---- numbers are below the count
small_or : (ls : List Labeled) (o : Option ℕ) → 0 < length ls → ((k : ℕ) → o ≡ Some k → k < length ls) → unwrap_or o 0 < length ls
small_or ls None some h = some
small_or ls (Some k) some h = h k refl

number_small : (ls : List Labeled) (id : ℕ) (d : Labeled) → 0 < length ls → number_of ls id < length ls
number_small ls id d some = small_or ls (position (has_label id) ls) some (λ k e. (position-Some (has_label id) ls k d e).0)

module _ (ls : List Labeled) where
  pub length_is : length (numbered ls) ≡ length ls
  length_is = length-map ls (λ (l : Labeled). numbered_block (number_of ls) l.block)

  -- the labeled block under a numbered one
  under : (p : ℕ) (b : BasicBlock) → At (numbered ls) p b → Source (λ (l : Labeled). numbered_block (number_of ls) l.block) (slice_get ls p) b
  under p b at = source_at (λ (l : Labeled). numbered_block (number_of ls) l.block) ls p b at

  before : (p : ℕ) (l : Labeled) → slice_get ls p ≡ Some l → At (map block_of ls) p l.block
  before p l e = slice_get-map block_of ls p ∙ ap (λ (o : Option Labeled). option_map block_of o) e

  named_small : (p id : ℕ) (l : Labeled) → slice_get ls p ≡ Some l → number_of ls id < length (numbered ls)
  named_small p id l e = let h = slice_get_within ls p l e in omega (arith, number_small ls id l (omega (arith, h)), length_is)

  loop_number : (k : MergeKind) (q : ℕ) → numbered_kind (number_of ls) k ≡ Loop q → (c : ℕ) × (number_of ls c ≡ q)
  loop_number Selection q e = absurd (no_loop e) where
    no_loop : Selection ≡ Loop q → ⊥
    no_loop h = cc
  loop_number (Loop c) q e = (c, loop_inj e) where
    loop_inj : Loop (number_of ls c) ≡ Loop q → number_of ls c ≡ q
    loop_inj h = cc

  edge_small : (p q : ℕ) → StructuralEdge (numbered ls) p q → q < length (numbered ls)
  edge_small p q (by_branch e) =
      let u = under p e.block e.at in
      let c : Contains (map (number_of ls) u.x.block.targets) q = subst (λ (b : BasicBlock). Contains b.targets q) (sym u.is) e.target in
      let s = source_at (number_of ls) u.x.block.targets c.0 q (contains_get (map (number_of ls) u.x.block.targets) q c) in
      subst (λ (n : ℕ). n < length (numbered ls)) s.is (named_small p s.x u.x u.there)
  edge_small p q (by_merge g h e) =
      let u = under p h.block h.at in
      let s = source (numbered_merge (number_of ls)) u.x.block.merge g (ap (λ (b : BasicBlock). b.merge) u.is ∙ h.merge) in
      subst (λ (n : ℕ). n < length (numbered ls)) (ap (λ (m : Merge). m.merge_block) s.is ∙ e) (named_small p s.x.merge_block u.x u.there)
  edge_small p q (by_continue g l) =
      let u = under p l.header.block l.header.at in
      let s = source (numbered_merge (number_of ls)) u.x.block.merge g (ap (λ (b : BasicBlock). b.merge) u.is ∙ l.header.merge) in
      let c = loop_number s.x.kind q (ap (λ (m : Merge). m.kind) s.is ∙ l.kind) in
      subst (λ (n : ℕ). n < length (numbered ls)) c.1 (named_small p c.0 u.x u.there)

  pub are_numbered : IsNumbered (numbered ls)
  are_numbered = record { targets = edge_small }

  -- ---- words
  stray_under : (l : Labeled) (b : BasicBlock) (f : Merge) → numbered_block (number_of ls) l.block ≡ b → Contains b.strays f → (x : Merge) × Contains l.block.strays x × (x.word ≡ f.word)
  stray_under l b f is c =
      let d : Contains (map (numbered_merge (number_of ls)) l.block.strays) f = subst (λ (o : BasicBlock). Contains o.strays f) (sym is) c in
      let s = source_at (numbered_merge (number_of ls)) l.block.strays d.0 f (contains_get (map (numbered_merge (number_of ls)) l.block.strays) f d) in
      (s.x, get_contains l.block.strays d.0 s.x s.there, ap (λ (m : Merge). m.word) s.is)

  stray_at : (l : Labeled) (b : BasicBlock) (i : ℕ) (f : Merge) → numbered_block (number_of ls) l.block ≡ b → slice_get b.strays i ≡ Some f → Source (numbered_merge (number_of ls)) (slice_get l.block.strays i) f
  stray_at l b i f is e = source_at (numbered_merge (number_of ls)) l.block.strays i f (ap (λ (o : BasicBlock). slice_get o.strays i) is ∙ e)

  merge_under : (l : Labeled) (b : BasicBlock) (g : Merge) → numbered_block (number_of ls) l.block ≡ b → b.merge ≡ Some g → Source (numbered_merge (number_of ls)) l.block.merge g
  merge_under l b g is e = source (numbered_merge (number_of ls)) l.block.merge g (ap (λ (o : BasicBlock). o.merge) is ∙ e)

  pub in_order : AreInOrder (map block_of ls) → AreInOrder (numbered ls)
  in_order o = record {
    strays_behind = λ p b f at c.
        let u = under p b at in let x = stray_under u.x b f u.is c in
        let w = ap (λ (y : BasicBlock). y.word) u.is in omega (arith, o.strays_behind p u.x.block x.0 (before p u.x u.there) x.1, w, x.2);
    strays_before = λ p b f at c.
        let u = under p b at in let x = stray_under u.x b f u.is c in
        let w = ap (λ (y : BasicBlock). y.end_word) u.is in omega (arith, o.strays_before p u.x.block x.0 (before p u.x u.there) x.1, w, x.2);
    strays_rise = λ p b i j f g at e h less.
        let u = under p b at in let x = stray_at u.x b i f u.is e in let y = stray_at u.x b j g u.is h in
        let v = ap (λ (m : Merge). m.word) x.is in let w = ap (λ (m : Merge). m.word) y.is in
        omega (arith, o.strays_rise p u.x.block i j x.x y.x (before p u.x u.there) x.there y.there less, v, w);
    strays_first = λ p b f g at c e.
        let u = under p b at in let x = stray_under u.x b f u.is c in let y = merge_under u.x b g u.is e in
        let w = ap (λ (m : Merge). m.word) y.is in omega (arith, o.strays_first p u.x.block x.0 y.x (before p u.x u.there) x.1 y.there, x.2, w);
    merge_behind = λ p b g at e.
        let u = under p b at in let y = merge_under u.x b g u.is e in
        let v = ap (λ (z : BasicBlock). z.word) u.is in let w = ap (λ (m : Merge). m.word) y.is in omega (arith, o.merge_behind p u.x.block y.x (before p u.x u.there) y.there, v, w);
    merge_before = λ p b g at e.
        let u = under p b at in let y = merge_under u.x b g u.is e in
        let v = ap (λ (z : BasicBlock). z.end_word) u.is in let w = ap (λ (m : Merge). m.word) y.is in omega (arith, o.merge_before p u.x.block y.x (before p u.x u.there) y.there, v, w);
    label_before = λ p b at.
        let u = under p b at in let v = ap (λ (z : BasicBlock). z.word) u.is in let w = ap (λ (z : BasicBlock). z.end_word) u.is in omega (arith, o.label_before p u.x.block (before p u.x u.there), v, w);
    blocks_rise = λ p q b d at e less.
        let u = under p b at in let t = under q d e in
        let v = ap (λ (z : BasicBlock). z.end_word) u.is in let w = ap (λ (z : BasicBlock). z.word) t.is in
        omega (arith, o.blocks_rise p q u.x.block t.x.block (before p u.x u.there) (before q t.x t.there) less, v, w);
  }
