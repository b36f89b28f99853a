-- What a list of labels and numbers has after one block more.
use Rattle.std.proofs.Common.{ℕ, ◌≡◌, refl, sym, ap, subst, ◌∙◌, arith, List, [], ◌∷◌, ◌++◌, length, Option, Some, None, Bool, true, false, cond, not, ◌==◌, if◌then◌else◌}
use Rattle.std.proofs.lemmas.Grind.{common_steps}
use Rattle.std.proofs.lemmas.List.{length_push}
use Rattle.std.proofs.lemmas.List.Sums.{prefix_len-le-length}
use Rattle.std.proofs.lemmas.List.Folds.{position_or_len_push}
use Rattle.std.specs.List.{position}
use Rattle.std.specs.Option.{option_or, option_map, is_some}
use Rattle.key_places.specs.Places.{first_place}
use Rattle.key_places.proofs.PlaceLaws.{ArePlaced, placed_none, placed_push, first_place-push}
use Rattle.spv_form.specs.declared.module.Inst.{Inst}
use Rattle.flow_rules.specs.declared.block.Merge.{Merge}
use Rattle.flow_rules.specs.declared.block.Terminator.{Terminator}
use Rattle.flow_blocks.specs.Blocks.{Labeled, Open, open_after, ended_at, terminator_of, merge_of, targets_of, operand, inner_after, ended}
use Rattle.flow_blocks.specs.Numbered.{has_label}
use Rattle.flow_blocks.specs.Passes.{with_block, label_after, label_ended}

position_push : {X : Type 0} (p : X → Bool) (xs : List X) (y : X) → position p (xs ++ y ∷ []) ≡ option_or (position p xs) (cond (p y) (Some (length xs)) None)
position_push p xs y = grind (arith, common_steps, position_or_len_push p xs y, length_push xs y, prefix_len-le-length (λ x. not (p x)) xs)

-- the pairs have the number of the first block of each label
pub record AreFirst (pairs : List (ℕ × ℕ)) (ls : List Labeled) : Type 0 where
  pub first : (id : ℕ) → first_place pairs id ≡ position (has_label id) ls
  pub counted : length pairs ≡ length ls
  pub placed : ArePlaced pairs (length pairs)

pub first_none : AreFirst [] []
first_none = record { first = λ id. refl; counted = refl; placed = placed_none 0 }

next : (pairs : List (ℕ × ℕ)) (ls : List Labeled) (l : Labeled) → AreFirst pairs ls → AreFirst (with_block pairs (Some l.label)) (ls ++ l ∷ [])
next pairs ls l f =
    let grown = length_push pairs (l.label, length pairs) in record {
      first = λ id.
          first_place-push pairs l.label (length pairs) id ∙ ap (λ (o : Option ℕ). option_or o (if has_label id l then Some (length pairs) else None)) (f.first id)
          ∙ ap (λ (k : ℕ). option_or (position (has_label id) ls) (if has_label id l then Some k else None)) f.counted ∙ sym (position_push (has_label id) ls l);
      counted = omega (arith, grown, f.counted, length_push ls l);
      placed = subst (λ (n : ℕ). ArePlaced (with_block pairs (Some l.label)) n) (sym grown) (placed_push pairs l.label (length pairs) f.placed);
    }

same : (pairs : List (ℕ × ℕ)) (ls : List Labeled) → AreFirst pairs ls → AreFirst pairs (ls ++ [])
same pairs ls f = subst (λ (xs : List Labeled). AreFirst pairs xs) (sym (append_none ls)) f where
  append_none : (l : List Labeled) → l ++ [] ≡ l
  append_none [] = refl
  append_none (x ∷ l) = ap (λ (m : List Labeled). x ∷ m) (append_none l)

abbrev pub label_of : Option Open → Option ℕ
label_of o = option_map (λ (b : Open). b.label) o

pub label_more : (o : Option Open) (word : ℕ) (x : Inst) → label_after (label_of o) x ≡ label_of (open_after o word x)
label_more o word x = go (x.opcode == 248) (terminator_of x) (merge_of x word) o where
  go : (is_label : Bool) (t : Option Terminator) (m : Option Merge) (o : Option Open)
      → (if is_label then Some (operand x 0) else if is_some t then None else label_of o) ≡ label_of (if is_label then Some (record { label = operand x 0; word = word; strays = []; merge = None }) else inner_after o t m)
  go true t m o = refl
  go false (Some t) m None = refl
  go false (Some t) m (Some o) = refl
  go false None m None = refl
  go false None m (Some o) = refl

pub first_more : (pairs : List (ℕ × ℕ)) (ls : List Labeled) (o : Option Open) (word : ℕ) (x : Inst) → AreFirst pairs ls → AreFirst (with_block pairs (label_ended (label_of o) x)) (ls ++ ended_at o word x)
first_more pairs ls o word x f = go (x.opcode == 248) (terminator_of x) o where
  go : (is_label : Bool) (t : Option Terminator) (o : Option Open)
      → AreFirst (with_block pairs (if is_label then None else if is_some t then label_of o else None)) (ls ++ (if is_label then [] else ended o t word (targets_of x)))
  go true t o = same pairs ls f
  go false (Some t) None = same pairs ls f
  go false (Some t) (Some o) = next pairs ls (record { label = o.label; block = record { word = o.word; strays = o.strays; merge = o.merge; terminator = t; end_word = word; targets = targets_of x } }) f
  go false None None = same pairs ls f
  go false None (Some o) = same pairs ls f
