-- Sites of the first items of a list, and of one item more.
use Rattle.std.proofs.Common.{ℕ, ◌≡◌, refl, ap, List, [], ◌∷◌, ◌++◌, length, take, slice_get, Some, None, zero, suc}
use Rattle.dx_base.specs.First.{Rises}
use Rattle.bitstream_spelling.specs.Framed.{open_after, open_behind, IsFramed}
use Rattle.bitstream_spelling.specs.declared.item.Item.{Item}
use Rattle.llvm_items.specs.Sites.{Site, sites, sites_from, bit_at}

none_some : {A : Type 0} (x : A) → None ≡ Some x → ⊥
none_some x e = cc

some_inj : {A : Type 0} (x y : A) → Some x ≡ Some y → x ≡ y
some_inj x y e = cc

pub sites-append : (p : List ℕ) (xs ys : List Item) → sites_from p (xs ++ ys) ≡ sites_from p xs ++ sites_from (open_behind p xs) ys
sites-append p [] ys = refl
sites-append p (x ∷ xs) ys = ap (λ ss. record { around = p; item = x } ∷ ss) (sites-append (open_after p x) xs ys)

pub behind-append : (p : List ℕ) (xs ys : List Item) → open_behind p (xs ++ ys) ≡ open_behind (open_behind p xs) ys
behind-append p [] ys = refl
behind-append p (x ∷ xs) ys = behind-append (open_after p x) xs ys

pub take-sites : (p : List ℕ) (i : ℕ) (xs : List Item) → take i (sites_from p xs) ≡ sites_from p (take i xs)
take-sites p zero xs = refl
take-sites p (suc i) [] = refl
take-sites p (suc i) (x ∷ xs) = ap (λ ss. record { around = p; item = x } ∷ ss) (take-sites (open_after p x) i xs)

pub site-at : (p : List ℕ) (i : ℕ) (xs : List Item) (x : Item) → slice_get xs i ≡ Some x → slice_get (sites_from p xs) i ≡ Some (record { around = open_behind p (take i xs); item = x })
site-at p i [] x e = absurd (none_some x e)
site-at p zero (y ∷ xs) x e = ap (λ z. Some (record { around = p; item = z })) (some_inj y x e)
site-at p (suc i) (y ∷ xs) x e = site-at (open_after p y) i xs x e

pub length-sites : (p : List ℕ) (xs : List Item) → length (sites_from p xs) ≡ length xs
length-sites p [] = refl
length-sites p (x ∷ xs) = ap (λ n. suc n) (length-sites (open_after p x) xs)

pub site-item : (p : List ℕ) (i : ℕ) (xs : List Item) (s : Site) → slice_get (sites_from p xs) i ≡ Some s → slice_get xs i ≡ Some s.item
site-item p i [] s e = absurd (none_some s e)
site-item p zero (x ∷ xs) s e = ap (λ (z : Site). Some z.item) (some_inj (record { around = p; item = x }) s e)
site-item p (suc i) (x ∷ xs) s e = site-item (open_after p x) i xs s e

-- the site of an item behind these items
abbrev pub site_of : List Item → Item → Site
site_of is x = record { around = open_behind [] is; item = x }

pub sites_more : (is : List Item) (x : Item) → sites (is ++ x ∷ []) ≡ sites is ++ site_of is x ∷ []
sites_more is x = sites-append [] is (x ∷ [])

pub open_more : (is : List Item) (x : Item) → open_behind [] (is ++ x ∷ []) ≡ open_after (open_behind [] is) x
open_more is x = behind-append [] is (x ∷ [])

-- the bits of the sites rise, whatever the rules of a layer are
pub sites-rise : (Breaks : List Site → Site → ℕ → Type 0) (is : List Item) (fs : List ℕ) → IsFramed is fs → Rises bit_at Breaks (sites is)
sites-rise Breaks is fs f = record { rises = λ i j s t h a b. f.rises i j s.item t.item h (site-item [] i is s a) (site-item [] j is t b) }
