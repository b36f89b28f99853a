-- Counts of the sites of the first items of a list.
use Rattle.std.proofs.Common.{ℕ, ◌≡◌, ◌∙◌, ◌+◌, ◌<◌, ◌≤◌, ap, sym, arith, List, [], ◌∷◌, ◌++◌, length, take, get_or, Bool, true, false, if◌then◌else◌, take_all}
use Rattle.std.proofs.lemmas.List.{take_more}
use Rattle.std.proofs.lemmas.List.Sums.{sum_by-append, length-filter}
use Rattle.std.specs.List.{count_by, filter}
use Rattle.bitstream_spelling.specs.Framed.{open_after, open_behind}
use Rattle.bitstream_spelling.specs.declared.item.Item.{Item}
use Rattle.llvm_items.specs.Sites.{Site, sites}
use Rattle.llvm_items.proofs.SiteLaws.{site_of, sites_more, open_more}

one_more : (n : ℕ) (b : Bool) → n + (0 + (if b then 1 else 0)) ≡ (if b then n + 1 else n)
one_more n true = omega arith
one_more n false = omega arith

pub count_more : {X : Type 0} (p : X → Bool) (xs : List X) (x : X) → count_by p (xs ++ x ∷ []) ≡ (if p x then count_by p xs + 1 else count_by p xs)
count_more p xs x = sum_by-append (λ y. if p y then 1 else 0) xs (x ∷ []) ∙ one_more (count_by p xs) (p x)

pub record IsCounting (p : Site → Bool) (list : List Item) (index : ℕ) (around : List ℕ) (count : ℕ) : Type 0 where
  pub open_is : around ≡ open_behind [] (take index list)
  pub count_is : count ≡ count_by p (sites (take index list))
  pub small : count ≤ index

no_more : (n : ℕ) (b : Bool) → (if b then n + 1 else n) ≤ n + 1
no_more n true = omega arith
no_more n false = omega arith

pub counting_more : (p : Site → Bool) (list : List Item) (index : ℕ) (around : List ℕ) (count : ℕ) (d : Item) (now : ℕ) (next : List ℕ) (test : Bool) → IsCounting p list index around count → index < length list
    → now ≡ (if test then count + 1 else count) → test ≡ p (record { around = around; item = get_or list index d }) → next ≡ open_after around (get_or list index d) → IsCounting p list (index + 1) next now
counting_more p list index around count d now next test c h n t e =
    let x = get_or list index d in
    let front = take index list in
    let cut : take (index + 1) list ≡ front ++ x ∷ [] = take_more list index d h in
    let here : test ≡ p (site_of front x) = t ∙ ap (λ q. p (record { around = q; item = x })) c.open_is in
    record {
      open_is = e ∙ ap (λ q. open_after q x) c.open_is ∙ sym (open_more front x) ∙ ap (open_behind []) (sym cut);
      count_is = n ∙ ap (λ (b : Bool). if b then count + 1 else count) here ∙ ap (λ k. if p (site_of front x) then k + 1 else k) c.count_is
          ∙ sym (count_more p (sites front) (site_of front x)) ∙ ap (count_by p) (sym (sites_more front x)) ∙ ap (λ (is : List Item). count_by p (sites is)) (sym cut);
      small = omega (arith, c.small, n, no_more count test);
    }

pub counting_ends : (p : Site → Bool) (list : List Item) (index : ℕ) (around : List ℕ) (count : ℕ) → IsCounting p list index around count → length list ≤ index → count ≡ count_by p (sites list)
counting_ends p list index around count c h = c.count_is ∙ ap (λ (is : List Item). count_by p (sites is)) (take_all index list h)

pub counting_listed : (p : Site → Bool) (list : List Item) (index : ℕ) (around : List ℕ) (count : ℕ) → IsCounting p list index around count → length list ≤ index → count ≡ length (filter p (sites list))
counting_listed p list index around count c h = counting_ends p list index around count c h ∙ sym (length-filter p (sites list))
