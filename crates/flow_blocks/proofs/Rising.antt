-- The words of the blocks rise.
use Rattle.std.proofs.Common.{ℕ, zero, suc, ◌≡◌, ◌<◌, ◌≤◌, ◌+◌, ◌++◌, ◌∷◌, [], ◌⊎◌, inl, inr, refl, sym, ap, subst, ◌∙◌, arith, List, length, map, slice_get, Option, Some, None, Bool, true, false, if◌then◌else◌, ◌==◌}
use Rattle.std.proofs.lemmas.Option.{slice_get_within, get_or_from_slice_get}
use Rattle.std.specs.List.{Contains}
use Rattle.std.proofs.lemmas.List.Elements.{Contains-push_cases}
use Rattle.spv_form.specs.declared.module.Inst.{Inst}
use Rattle.spv_form.specs.Words.{size_of}
use Rattle.flow_rules.specs.Blocks.{BasicBlock}
use Rattle.flow_rules.specs.declared.block.Merge.{Merge}
use Rattle.flow_rules.specs.declared.block.MergeKind.{MergeKind}
use Rattle.flow_rules.specs.declared.block.MergeKind.TheVariants.{Selection, Loop}
use Rattle.flow_rules.specs.declared.block.Terminator.{Terminator}
use Rattle.flow_rules.specs.Flow.{At}
use Rattle.flow_rules.specs.Rules.{AreInOrder}
use Rattle.flow_blocks.specs.Blocks.{Open, operand, terminator_of, merge_of, targets_of, with_merge, inner_after, ended, blocks_from, labeled_blocks, block_of}

-- merge instructions between two words, in order
record AreBetween (low : ℕ) (fs : List Merge) (high : ℕ) : Type 0 where
  behind : (f : Merge) → Contains fs f → low < f.word
  before : (f : Merge) → Contains fs f → f.word < high
  rise : (i j : ℕ) (f g : Merge) → slice_get fs i ≡ Some f → slice_get fs j ≡ Some g → i < j → f.word < g.word

-- the merge instructions of a block that begins at a word, of which the last may stand apart
record AreMerges (low : ℕ) (fs : List Merge) (last : Option Merge) (high : ℕ) : Type 0 where
  strays : AreBetween low fs high
  behind : (g : Merge) → last ≡ Some g → low < g.word
  before : (g : Merge) → last ≡ Some g → g.word < high
  first : (f g : Merge) → Contains fs f → last ≡ Some g → f.word < g.word

record IsFine (low : ℕ) (b : BasicBlock) : Type 0 where
  from : low ≤ b.word
  to : b.word < b.end_word
  merges : AreMerges b.word b.strays b.merge b.end_word

Chain : ℕ → List BasicBlock → Type 0
Chain low [] = Unit {0}
Chain low (b ∷ bs) = IsFine low b × Chain (b.end_word + 1) bs

fine_at : (low : ℕ) (bs : List BasicBlock) (p : ℕ) (b : BasicBlock) → Chain low bs → At bs p b → IsFine low b
unfolding Chain
fine_at low [] p b c at = absurd (let w = slice_get_within [] p b at in omega arith)
fine_at low (x ∷ xs) zero b c at = subst (λ (y : BasicBlock). IsFine low y) (some_same x b at) c.0 where
  some_same : (a b : BasicBlock) → Some a ≡ Some b → a ≡ b
  some_same a b e = cc
fine_at low (x ∷ xs) (suc p) b c at =
    let rest = fine_at (x.end_word + 1) xs p b c.1 at in
    let from = c.0.from in let to = c.0.to in let later = rest.from in
    record { from = omega arith; to = rest.to; merges = rest.merges }

rises : (low : ℕ) (bs : List BasicBlock) (p q : ℕ) (b d : BasicBlock) → Chain low bs → At bs p b → At bs q d → p < q → b.end_word < d.word
unfolding Chain
rises low [] p q b d c b_at d_at h = absurd (let w = slice_get_within [] p b b_at in omega arith)
rises low (x ∷ xs) zero zero b d c b_at d_at h = absurd (omega arith)
rises low (x ∷ xs) zero (suc q) b d c b_at d_at h =
    let later = (fine_at (x.end_word + 1) xs q d c.1 d_at).from in
    let same : x.end_word ≡ b.end_word = ap (λ (y : BasicBlock). y.end_word) (some_same x b b_at) in
    omega arith where
      some_same : (a b : BasicBlock) → Some a ≡ Some b → a ≡ b
      some_same a b e = cc
rises low (x ∷ xs) (suc p) zero b d c b_at d_at h = absurd (omega arith)
rises low (x ∷ xs) (suc p) (suc q) b d c b_at d_at h = rises (x.end_word + 1) xs p q b d c.1 b_at d_at (omega arith)

in_order : (low : ℕ) (bs : List BasicBlock) → Chain low bs → AreInOrder bs
in_order low bs c = record {
  strays_behind = λ p b f at h. (fine_at low bs p b c at).merges.strays.behind f h;
  strays_before = λ p b f at h. (fine_at low bs p b c at).merges.strays.before f h;
  strays_rise = λ p b i j f g at k l h. (fine_at low bs p b c at).merges.strays.rise i j f g k l h;
  strays_first = λ p b f g at h m. (fine_at low bs p b c at).merges.first f g h m;
  merge_behind = λ p b g at m. (fine_at low bs p b c at).merges.behind g m;
  merge_before = λ p b g at m. (fine_at low bs p b c at).merges.before g m;
  label_before = λ p b at. (fine_at low bs p b c at).to;
  blocks_rise = λ p q b d k l h. rises low bs p q b d c k l h;
}

-- a block without a terminator, in front of a word
OpenFine : Option Open → ℕ → ℕ → Type 0
OpenFine None low word = low ≤ word
OpenFine (Some o) low word = (low ≤ o.word) × (o.word < word) × AreMerges o.word o.strays o.merge word

none_at : (fs : List Merge) (f : Merge) → fs ≡ [] → Contains fs f → ⊥
none_at fs f e (k, below, is) = (let l = ap (λ (x : List Merge). length x) e in omega arith)

no_merges : (low high : ℕ) → AreMerges low [] None high
no_merges low high = record {
  strays = record {
    behind = λ f h. absurd (none_at [] f refl h);
    before = λ f h. absurd (none_at [] f refl h);
    rise = λ i j f g a b h. absurd (let w = slice_get_within [] i f a in omega arith);
  };
  behind = λ g e. cc;
  before = λ g e. cc;
  first = λ f g h e. cc;
}

wider : (low : ℕ) (fs : List Merge) (last : Option Merge) (high more : ℕ) → high ≤ more → AreMerges low fs last high → AreMerges low fs last more
wider low fs last high more h m = record {
  strays = record { behind = m.strays.behind; before = λ f c. (let b = m.strays.before f c in omega arith); rise = m.strays.rise };
  behind = m.behind;
  before = λ g e. (let b = m.before g e in omega arith);
  first = m.first;
}

get_cases : (fs : List Merge) (g f : Merge) (i : ℕ) → slice_get (fs ++ g ∷ []) i ≡ Some f → (slice_get fs i ≡ Some f) ⊎ ((i ≡ length fs) × (g ≡ f))
get_cases [] g f zero e = inr (refl, some_same g f e) where
  some_same : (a b : Merge) → Some a ≡ Some b → a ≡ b
  some_same a b e = cc
get_cases [] g f (suc i) e = absurd (let w = slice_get_within (g ∷ []) (suc i) f e in omega arith)
get_cases (x ∷ xs) g f zero e = inl e
get_cases (x ∷ xs) g f (suc i) e = elim (get_cases xs g f i e) [ inl h ↦ inl h | inr (a, b) ↦ inr (omega arith, b) ]

get_contains : (fs : List Merge) (i : ℕ) (f : Merge) → slice_get fs i ≡ Some f → Contains fs f
get_contains fs i f e = (i, slice_get_within fs i f e, get_or_from_slice_get fs i f f e)

-- the last one joins the others
joined : (low : ℕ) (fs : List Merge) (last : Option Merge) (high : ℕ) → AreMerges low fs last high → AreBetween low (with_merge fs last) high
joined low fs None high m = m.strays
joined low fs (Some g) high m = record {
  behind = λ f h. elim (Contains-push_cases fs g f h) [ inl k ↦ m.strays.behind f k | inr e ↦ (let b = m.behind g refl in let w = ap (λ (x : Merge). x.word) e in omega arith) ];
  before = λ f h. elim (Contains-push_cases fs g f h) [ inl k ↦ m.strays.before f k | inr e ↦ (let b = m.before g refl in let w = ap (λ (x : Merge). x.word) e in omega arith) ];
  rise = λ i j f h a b order. elim (get_cases fs g f i a) [
    | inr (at, e) ↦ absurd (elim (get_cases fs g h j b) [ inl k ↦ (let w = slice_get_within fs j h k in omega arith) | inr (c, d) ↦ omega arith ])
    | inl k ↦ elim (get_cases fs g h j b) [
      | inl l ↦ m.strays.rise i j f h k l order
      | inr (c, d) ↦ (let w = ap (λ (x : Merge). x.word) d in let first = m.first f g (get_contains fs i f k) refl in omega arith)
    ]
  ];
}

merge_word : (x : Inst) (word : ℕ) (g : Merge) → merge_of x word ≡ Some g → g.word ≡ word
merge_word x word g e = go (x.opcode == 246) (x.opcode == 247) (Loop (operand x 1)) Selection e where
  some_word : (a : Merge) → a.word ≡ word → Some a ≡ Some g → g.word ≡ word
  some_word a is s = (let w : a ≡ g = cc in sym (ap (λ (m : Merge). m.word) w) ∙ is)

  go : (s t : Bool) (k l : MergeKind) → (if s then Some (record { word = word; kind = k; merge_block = operand x 0 }) else if t then Some (record { word = word; kind = l; merge_block = operand x 0 }) else None) ≡ Some g → g.word ≡ word
  go true t k l s = some_word _ refl s
  go false true k l s = some_word _ refl s
  go false false k l s = cc

open_low : (before : Option Open) (low word : ℕ) → OpenFine before low word → low ≤ word
unfolding OpenFine
open_low None low word f = f
open_low (Some o) low word (a, b, m) = omega arith

inner_merges : (x : Inst) (word : ℕ) (o : Open) → AreMerges o.word o.strays o.merge word → o.word < word → AreMerges o.word (with_merge o.strays o.merge) (merge_of x word) (word + size_of x)
inner_merges x word o m b =
    let all = joined o.word o.strays o.merge word m in
    record {
      strays = record { behind = all.behind; before = λ f c. (let k = all.before f c in omega arith); rise = all.rise };
      behind = λ g e. (let w = merge_word x word g e in omega arith);
      before = λ g e. (let w = merge_word x word g e in omega arith);
      first = λ f g c e. (let k = all.before f c in let w = merge_word x word g e in omega arith);
    }

Rest : Inst → List Inst → ℕ → Type 0
Rest x xs word = (b : Option Open) (from : ℕ) → OpenFine b from (word + size_of x) → Chain from (map block_of (blocks_from b (word + size_of x) xs))

chain_step : (x : Inst) (xs : List Inst) (low word : ℕ) → Rest x xs word → (is_label : Bool) (b : Option Open) (t : Option Terminator) → OpenFine b low word
    → Chain low (map block_of ((if is_label then [] else ended b t word (targets_of x)) ++ blocks_from (if is_label then Some (record { label = operand x 0; word = word; strays = []; merge = None }) else inner_after b t (merge_of x word)) (word + size_of x) xs))
unfolding Chain OpenFine Rest
chain_step x xs low word rest true b t f = rest (Some (record { label = operand x 0; word = word; strays = []; merge = None })) low (open_low b low word f, omega arith, no_merges word (word + size_of x))
chain_step x xs low word rest false None t f = rest None low (let h = open_low None low word f in omega arith)
chain_step x xs low word rest false (Some o) None (a, b, m) = rest (Some (record { label = o.label; word = o.word; strays = with_merge o.strays o.merge; merge = merge_of x word })) low (a, omega arith, inner_merges x word o m b)
chain_step x xs low word rest false (Some o) (Some t) (a, b, m) = (record { from = a; to = b; merges = m }, rest None (word + 1) (omega arith))

blocks_chain : (xs : List Inst) (before : Option Open) (low word : ℕ) → OpenFine before low word → Chain low (map block_of (blocks_from before word xs))
unfolding blocks_from Chain OpenFine Rest
blocks_chain [] before low word fine = tt
blocks_chain (x ∷ xs) before low word fine = chain_step x xs low word (λ b from f. blocks_chain xs b from (word + size_of x) f) (x.opcode == 248) before (terminator_of x) fine

-- The blocks that the instructions make are in order.
pub blocks_in_order : (insts : List Inst) → AreInOrder (map block_of (labeled_blocks insts))
unfolding OpenFine
blocks_in_order insts = in_order 5 (map block_of (labeled_blocks insts)) (blocks_chain insts None 5 5 (omega arith))
