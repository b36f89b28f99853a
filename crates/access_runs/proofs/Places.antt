-- The place of memory that a pointer to a buffer or a groupshared array names.
use Rattle.std.proofs.Common.{◌≡◌, ℕ, ◌+◌, ◌*◌, ◌<◌, true, false, [], ◌∷◌, Option, Some, None, refl, ap, ◌∙◌, arith}
use Rattle.std.specs.Prelude.{nat_eq, nat_lt, slice_index, option_map}
use Rattle.std.proofs.lemmas.Bool.Decides.{nat_tests}
use Rattle.dxil_meaning.specs.Launches as launch
use Rattle.dxil_meaning.specs.Launches.{Place}
use Rattle.spirv_meaning.specs.Target.{storage, is_class, place_of, in_buffer, buffer_word, if_below, over_vectors, buffer_of, shared_number, shared_size}
use Rattle.spirv_meaning.specs.Names.{is_some_at}
use Rattle.line_runs.specs.Held.{Setting}
use Rattle.line_runs.proofs.Tests.{if_true, if_false, nat_eq-eq}

pub other_class : (s : Setting) (id a b : ℕ) → nat_eq a b ≡ false → is_class s.made id a ≡ true → is_class s.made id b ≡ false
other_class s id a b differ e = by_storage (storage s.made id) e
  where
    by_storage : (o : Option ℕ) → is_some_at o a ≡ true → is_some_at o b ≡ false
    by_storage (Some n) e = ap (λ k. nat_eq k b) (nat_eq-eq n a e) ∙ differ
    by_storage None e = refl

below : (word size : ℕ) → word < size → if_below word size ≡ Some word
below word size le = if_true (nat_lt word size) (let e : nat_lt word size ≡ true = grind (arith, nat_tests) in e) (Some word) None

pub word_place : (s : Setting) (r id w : ℕ) → is_class s.made id 12 ≡ true → over_vectors s.made id ≡ false → buffer_of s.made s.bindings id ≡ Some r → w < slice_index s.launch.sizes r → place_of s.made s.bindings s.launch id (0 ∷ w ∷ []) ≡ Some (launch.Buffer r w)
word_place s r id w class vectors stands le =
    if_true (is_some_at (storage s.made id) 12) class _ _ ∙ if_false (over_vectors s.made id) vectors _ _ ∙ ap (λ o. in_buffer s.launch o (Some w)) stands ∙ ap (option_map (launch.Buffer r)) (below w (slice_index s.launch.sizes r) le)

pub row_place : (s : Setting) (r id k c : ℕ) → c < 4 → is_class s.made id 2 ≡ true → over_vectors s.made id ≡ true → buffer_of s.made s.bindings id ≡ Some r → 4 * k + c < slice_index s.launch.sizes r → place_of s.made s.bindings s.launch id (0 ∷ k ∷ c ∷ []) ≡ Some (launch.Buffer r (4 * k + c))
row_place s r id k c few class vectors stands le =
    let component : nat_lt c 4 ≡ true = grind (arith, nat_tests) in
    let word : buffer_word (over_vectors s.made id) (0 ∷ k ∷ c ∷ []) ≡ Some (4 * k + c) = ap (λ b. buffer_word b (0 ∷ k ∷ c ∷ [])) vectors ∙ if_true (nat_lt c 4) component (Some (4 * k + c)) None in
    if_false (is_some_at (storage s.made id) 12) (other_class s id 2 12 refl class) _ _ ∙ if_true (is_some_at (storage s.made id) 2) class _ _ ∙ ap (λ o. in_buffer s.launch o (buffer_word (over_vectors s.made id) (0 ∷ k ∷ c ∷ []))) stands ∙ ap (λ o. in_buffer s.launch (Some r) o) word ∙ ap (option_map (launch.Buffer r)) (below (4 * k + c) (slice_index s.launch.sizes r) le)

pub shared_place : (s : Setting) (a id w : ℕ) → is_class s.made id 4 ≡ true → shared_number s.made.insts id 0 ≡ Some a → w < shared_size s.made id → place_of s.made s.bindings s.launch id (w ∷ []) ≡ Some (launch.Shared a w)
shared_place s a id w class number le =
    rw number (if_false (is_some_at (storage s.made id) 12) (other_class s id 4 12 refl class) _ _ ∙ if_false (is_some_at (storage s.made id) 2) (other_class s id 4 2 refl class) _ _ ∙ if_true (is_some_at (storage s.made id) 4) class _ _ ∙ ap (option_map (launch.Shared a)) (below w (shared_size s.made id) le))
