-- What pairs of ids and places say of first definitions after one instruction more.
use Rattle.std.proofs.Common.{ℕ, ◌≡◌, ◌+◌, ◌<◌, refl, sym, ap, subst, ◌∙◌, arith, List, [], ◌∷◌, ◌++◌, length, take, get_or, Option, Some, None, Bool, false, cond, eqb, not}
use Rattle.std.proofs.lemmas.Grind.{common_steps}
use Rattle.std.proofs.lemmas.List.{append-nil, take_more, length_push}
use Rattle.std.proofs.lemmas.List.Sums.{prefix_len-le-length}
use Rattle.std.proofs.lemmas.List.Folds.{position_or_len_push}
use Rattle.std.specs.List.{position}
use Rattle.std.specs.Option.{option_map, option_or, option_to_list}
use Rattle.key_places.specs.Places.{first_place}
use Rattle.key_places.proofs.PlaceLaws.{ArePlaced, placed_later, placed_push, first_place-push}
use Rattle.spv_form.specs.declared.module.Inst.{Inst}
use Rattle.spv_ids.specs.Roles.{defines, result_of}
use Rattle.spv_ids.specs.Ids.{definer, defined_at}

pub position_push : {X : Type 0} (p : X → Bool) (xs : List X) (y : X) → position p (xs ++ y ∷ []) ≡ option_or (position p xs) (cond (p y) (Some (length xs)) None)
position_push p xs y = grind (arith, common_steps, position_or_len_push p xs y, length_push xs y, prefix_len-le-length (λ x. not (p x)) xs)

pub defines_none : (x : Inst) (q : ℕ) → result_of x ≡ None → defines q x ≡ false
unfolding defines
defines_none x q e = rw e refl

pub defines_is : (x : Inst) (id q : ℕ) → result_of x ≡ Some id → defines q x ≡ eqb id q
unfolding defines
defines_is x id q e = rw e refl

or_none : (o : Option ℕ) → o ≡ option_or o None
or_none None = refl
or_none (Some k) = refl

-- the definer among the instructions as far as this one
definer_more : (insts : List Inst) (at : ℕ) (x : Inst) (q : ℕ) → at < length insts → x ≡ get_or insts at x → definer (take (at + 1) insts) q ≡ option_or (definer (take at insts) q) (cond (defines q x) (Some at) None)
definer_more insts at x q h is =
    let cut : take (at + 1) insts ≡ take at insts ++ x ∷ [] = take_more insts at x h ∙ ap (λ y. take at insts ++ y ∷ []) (sym is) in
    ap (position (defines q)) cut ∙ position_push (defines q) (take at insts) x ∙ ap (λ n. option_or (position (defines q) (take at insts)) (cond (defines q x) (Some n) None)) (size at insts h) where
      size : (n : ℕ) (xs : List Inst) → n < length xs → length (take n xs) ≡ n
      size n xs l = grind (arith, common_steps)

-- the pairs of the instructions before a place
pub record AreDefinedBefore (insts : List Inst) (at : ℕ) (pairs : List (ℕ × ℕ)) : Type 0 where
  pub placed : ArePlaced pairs at
  pub first : (id : ℕ) → first_place pairs id ≡ definer (take at insts) id

pub defined_more : (insts : List Inst) (at : ℕ) (x : Inst) (old new : List (ℕ × ℕ)) → AreDefinedBefore insts at old → at < length insts → x ≡ get_or insts at x → new ≡ old ++ defined_at at x → AreDefinedBefore insts (at + 1) new
defined_more insts at x old new so_far h is grown = subst (AreDefinedBefore insts (at + 1)) (sym grown) (each (result_of x) refl) where
  each : (r : Option ℕ) → result_of x ≡ r → AreDefinedBefore insts (at + 1) (old ++ option_to_list (option_map (λ id. (id, at)) r))
  each None none = rw (append-nil old) (record {
    placed = placed_later old at (at + 1) (omega arith) so_far.placed;
    first = λ q. so_far.first q ∙ or_none (definer (take at insts) q) ∙ ap (λ b. option_or (definer (take at insts) q) (cond b (Some at) None)) (sym (defines_none x q none)) ∙ sym (definer_more insts at x q h is);
  })
  each (Some id) some = record {
    placed = placed_push old id at so_far.placed;
    first = λ q.
        first_place-push old id at q ∙ ap (λ o. option_or o (cond (eqb id q) (Some at) None)) (so_far.first q)
        ∙ ap (λ b. option_or (definer (take at insts) q) (cond b (Some at) None)) (sym (defines_is x id q some)) ∙ sym (definer_more insts at x q h is);
  }
