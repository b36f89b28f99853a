-- What the reader of the values has read of the first items.
use Rattle.std.proofs.Common.{ℕ, ◌≡◌, ◌∙◌, ◌+◌, ◌^◌, ◌<◌, ◌≤◌, ◌||◌, refl, ap, sym, arith, List, [], ◌∷◌, ◌++◌, length, take, get_or, reverse, Bool, true, false, if◌then◌else◌, Option, Some, None, take_all, append-nil}
use Rattle.std.proofs.lemmas.List.{take_more, length-take, reverse-append, append_assoc}
use Rattle.std.proofs.lemmas.List.Folds.{list_any-append}
use Rattle.std.proofs.lemmas.List.Sums.{sum_by-append, sum_by_more_le, count_by-le-length}
use Rattle.std.proofs.lemmas.Option.{slice_get-get_or}
use Rattle.std.specs.List.{list_any, count_by, find}
use Rattle.std.specs.Option.{option_map}
use Rattle.bitstream_spelling.specs.Framed.{IsFramed, open_after, open_behind}
use Rattle.bitstream_spelling.specs.declared.item.Item.{Item}
use Rattle.llvm_items.specs.Sites.{Site, sites}
use Rattle.llvm_items.proofs.SiteLaws.{length-sites, take-sites, site-at, site_of, sites_more, open_more}
use Rattle.llvm_types.specs.declared.kind.LlvmType.{LlvmType}
use Rattle.llvm_values.specs.declared.global.Global.{Global}
use Rattle.llvm_values.specs.declared.list.ListReader.{ListReader}
use Rattle.llvm_values.specs.Values.{since, sets_type, enters_constants, type_set, type_behind, type_after, has_body, takes_value, value_stated, value_of, values_from, values_of, value_count, name_in, symbol_of}
use Rattle.llvm_values.specs.Reading.{IsTable, IsNext, list_after}
use Rattle.llvm_items.proofs.Counts.{count_more}

-- ---- what stands since a place

passes_here : {X : Type 0} (xs : List X) (a b : Bool) → (if a || (b || true) then [] else xs) ≡ []
passes_here xs true b = refl
passes_here xs false true = refl
passes_here xs false false = refl

since_passed : (p : Site → Bool) (xs : List Site) (s : Site) → p s ≡ true → since p (xs ++ s ∷ []) ≡ []
since_passed p [] s e = rw e refl
since_passed p (x ∷ xs) s e =
    ap (λ (b : Bool). if p x || b then since p (xs ++ s ∷ []) else x ∷ since p (xs ++ s ∷ [])) (list_any-append p xs (s ∷ []) ∙ ap (λ (b : Bool). list_any p xs || (b || false)) e)
    ∙ ap (λ (zs : List Site). if p x || (list_any p xs || true) then zs else x ∷ zs) (since_passed p xs s e)
    ∙ passes_here (x ∷ []) (p x) (list_any p xs)

kept_here : (a b : Bool) (x s : Site) (zs : List Site) → (if a || (b || false) then zs ++ s ∷ [] else x ∷ (zs ++ s ∷ [])) ≡ (if a || b then zs else x ∷ zs) ++ s ∷ []
kept_here true b x s zs = refl
kept_here false true x s zs = refl
kept_here false false x s zs = refl

since_kept : (p : Site → Bool) (xs : List Site) (s : Site) → p s ≡ false → since p (xs ++ s ∷ []) ≡ since p xs ++ s ∷ []
since_kept p [] s e = rw e refl
since_kept p (x ∷ xs) s e =
    ap (λ (b : Bool). if p x || b then since p (xs ++ s ∷ []) else x ∷ since p (xs ++ s ∷ [])) (list_any-append p xs (s ∷ []) ∙ ap (λ (b : Bool). list_any p xs || (b || false)) e)
    ∙ ap (λ (zs : List Site). if p x || (list_any p xs || false) then zs else x ∷ zs) (since_kept p xs s e)
    ∙ kept_here (p x) (list_any p xs) x s (since p xs)

pub since_more : (p : Site → Bool) (xs : List Site) (s : Site) (b : Bool) → p s ≡ b → since p (xs ++ s ∷ []) ≡ (if b then [] else since p xs ++ s ∷ [])
since_more p xs s true e = since_passed p xs s e
since_more p xs s false e = since_kept p xs s e

-- ---- the type of the constants

last_more : (fs : List ℕ) (xs : List Site) (s : Site) (b : Bool) → sets_type s ≡ b → option_map (type_set fs) (find sets_type (reverse (xs ++ s ∷ []))) ≡ (if b then Some (type_set fs s) else option_map (type_set fs) (find sets_type (reverse xs)))
last_more fs xs s b e = ap (λ (ys : List Site). option_map (type_set fs) (find sets_type ys)) (reverse-append xs (s ∷ [])) ∙ found b e where
  found : (c : Bool) → sets_type s ≡ c → option_map (type_set fs) (find sets_type (s ∷ reverse xs)) ≡ (if c then Some (type_set fs s) else option_map (type_set fs) (find sets_type (reverse xs)))
  found true g = ap (λ (t : Bool). option_map (type_set fs) (if t then Some s else find sets_type (reverse xs))) g
  found false g = ap (λ (t : Bool). option_map (type_set fs) (if t then Some s else find sets_type (reverse xs))) g

pub type_more : (fs : List ℕ) (xs : List Site) (s : Site) → type_behind fs (xs ++ s ∷ []) ≡ type_after fs (type_behind fs xs) s
type_more fs xs s = ap (λ (ys : List Site). option_map (type_set fs) (find sets_type (reverse ys))) (since_more enters_constants xs s (enters_constants s) refl) ∙ by_cases (enters_constants s) where
  by_cases : (a : Bool) → option_map (type_set fs) (find sets_type (reverse (if a then [] else since enters_constants xs ++ s ∷ []))) ≡ (if a then None else if sets_type s then Some (type_set fs s) else type_behind fs xs)
  by_cases true = refl
  by_cases false = last_more fs (since enters_constants xs) s (sets_type s) refl

-- ---- the values

value_last : (b : Bool) (x : Global) → (if b then x ∷ [] else []) ++ [] ≡ (if b then x ∷ [] else [])
value_last b x = append-nil (if b then x ∷ [] else [])

pub values_more : (is : List Item) (fs : List ℕ) (types : List LlvmType) (before xs : List Site) (s : Site) → values_from is fs types before (xs ++ s ∷ []) ≡ values_from is fs types before xs ++ (if takes_value s then value_of is fs types (before ++ xs) s ∷ [] else [])
values_more is fs types before [] s = value_last (takes_value s) (value_of is fs types before s) ∙ ap (λ (b : List Site). if takes_value s then value_of is fs types b s ∷ [] else []) (sym (append-nil before))
values_more is fs types before (x ∷ xs) s =
    let first : List Global = (if takes_value x then value_of is fs types before x ∷ [] else []) in
    ap (λ (vs : List Global). first ++ vs) (values_more is fs types (before ++ x ∷ []) xs s)
    ∙ ap (λ (b : List Site). first ++ (values_from is fs types (before ++ x ∷ []) xs ++ (if takes_value s then value_of is fs types b s ∷ [] else []))) (append_assoc before (x ∷ []) xs)
    ∙ sym (append_assoc first (values_from is fs types (before ++ x ∷ []) xs) (if takes_value s then value_of is fs types (before ++ x ∷ xs) s ∷ [] else []))

one_longer : (b : Bool) (v : Global) (vs : List Global) (n : ℕ) → length vs ≡ n → length ((if b then v ∷ [] else []) ++ vs) ≡ (0 + (if b then 1 else 0)) + n
one_longer true v vs n e = omega (arith, e)
one_longer false v vs n e = omega (arith, e)

pub values_length : (is : List Item) (fs : List ℕ) (types : List LlvmType) (before xs : List Site) → length (values_from is fs types before xs) ≡ count_by takes_value xs
values_length is fs types before [] = refl
values_length is fs types before (x ∷ xs) =
    one_longer (takes_value x) (value_of is fs types before x) (values_from is fs types (before ++ x ∷ []) xs) (count_by takes_value xs) (values_length is fs types (before ++ x ∷ []) xs)
    ∙ sym (sum_by-append (λ (y : Site). if takes_value y then 1 else 0) (x ∷ []) xs)

abbrev one_if : Bool → ℕ
one_if b = if b then 1 else 0

some_inj : (x y : Site) → Some x ≡ Some y → x ≡ y
some_inj x y e = cc

-- a value's number is below the count of all
number_within : (list : List Item) (index : ℕ) (d : Item) → index < length list → takes_value (site_of (take index list) (get_or list index d)) ≡ true → count_by takes_value (sites (take index list)) < value_count list
number_within list index d h e =
    let s = site_of (take index list) (get_or list index d) in
    let within : index < length (sites list) = omega (arith, length-sites [] list) in
    let found : get_or (sites list) index s ≡ s = some_inj (get_or (sites list) index s) s (sym (slice_get-get_or (sites list) index s within) ∙ site-at [] index list (get_or list index d) (slice_get-get_or list index d h)) in
    let counts : one_if (takes_value (get_or (sites list) index s)) ≡ one_if true = ap (λ (z : Site). one_if (takes_value z)) found ∙ ap one_if e in
    let front : count_by takes_value (take index (sites list)) ≡ count_by takes_value (sites (take index list)) = ap (count_by takes_value) (take-sites [] index list) in
    omega (arith, sum_by_more_le (λ (z : Site). one_if (takes_value z)) (sites list) index s within, counts, front)

-- ---- the reader

pub record IsListing (list : List Item) (fs : List ℕ) (types : List LlvmType) (index : ℕ) (r : ListReader) : Type 0 where
  pub open_is : r.around ≡ open_behind [] (take index list)
  pub ty_is : r.ty ≡ type_behind fs (sites (take index list))
  pub bodies_is : r.bodies ≡ count_by (has_body fs) (sites (take index list))
  pub list_is : r.list ≡ values_from list fs types [] (sites (take index list))

pub listing_few : (list : List Item) (fs : List ℕ) (types : List LlvmType) (index : ℕ) (r : ListReader) → IsFramed list fs → IsListing list fs types index r → index < length list → r.bodies + 1 < 2 ^ 32
listing_few list fs types index r f c h =
    omega (arith, c.bodies_is, count_by-le-length (has_body fs) (sites (take index list)), length-sites [] (take index list), length-take index list, f.few_items)

module _ (list : List Item) (fs : List ℕ) (types : List LlvmType) (table : List (Option Item)) (index : ℕ) (old : ListReader) (d : Item) (t : IsTable list fs table) (w : length table ≡ value_count list) (c : IsListing list fs types index old) (h : index < length list) where
  kept : (b : Bool) → takes_value (site_of (take index list) (get_or list index d)) ≡ b
      → (if b then old.list ++ value_stated fs types old.ty old.bodies (name_in fs (get_or table (length old.list) None)) (site_of (take index list) (get_or list index d)) ∷ [] else old.list)
      ≡ values_from list fs types [] (sites (take index list)) ++ (if b then value_of list fs types (sites (take index list)) (site_of (take index list) (get_or list index d)) ∷ [] else [])
  kept false e = c.list_is ∙ sym (append-nil (values_from list fs types [] (sites (take index list))))
  kept true e =
      let ss = sites (take index list) in
      let s = site_of (take index list) (get_or list index d) in
      let vs = values_from list fs types [] ss in
      let number : length old.list ≡ count_by takes_value ss = ap length c.list_is ∙ values_length list fs types [] ss in
      let within : count_by takes_value ss < length table = omega (arith, number_within list index d h e, w) in
      let symbol : get_or table (length old.list) None ≡ symbol_of fs (sites list) (count_by takes_value ss) = ap (λ (k : ℕ). get_or table k None) number ∙ t.at (count_by takes_value ss) within in
      ap (λ (l : List Global). l ++ value_stated fs types old.ty old.bodies (name_in fs (get_or table (length old.list) None)) s ∷ []) c.list_is
      ∙ ap (λ (ty : Option ℕ). vs ++ value_stated fs types ty old.bodies (name_in fs (get_or table (length old.list) None)) s ∷ []) c.ty_is
      ∙ ap (λ (n : ℕ). vs ++ value_stated fs types (type_behind fs ss) n (name_in fs (get_or table (length old.list) None)) s ∷ []) c.bodies_is
      ∙ ap (λ (o : Option Item). vs ++ value_stated fs types (type_behind fs ss) (count_by (has_body fs) ss) (name_in fs o) s ∷ []) symbol

  pub listing_more : (new : ListReader) → IsNext old new fs types table (get_or list index d) → IsListing list fs types (index + 1) new
  listing_more new n =
      let x = get_or list index d in
      let front = take index list in
      let cut : take (index + 1) list ≡ front ++ x ∷ [] = take_more list index d h in
      record {
        open_is = n.around ∙ ap (λ q. open_after q x) c.open_is ∙ sym (open_more front x) ∙ ap (open_behind []) (sym cut);
        ty_is = n.ty ∙ ap (λ q. type_after fs old.ty (record { around = q; item = x })) c.open_is ∙ ap (λ (ty : Option ℕ). type_after fs ty (site_of front x)) c.ty_is
            ∙ sym (type_more fs (sites front) (site_of front x)) ∙ ap (type_behind fs) (sym (sites_more front x)) ∙ ap (λ (is : List Item). type_behind fs (sites is)) (sym cut);
        bodies_is = n.bodies ∙ ap (λ q. if has_body fs (record { around = q; item = x }) then old.bodies + 1 else old.bodies) c.open_is ∙ ap (λ (k : ℕ). if has_body fs (site_of front x) then k + 1 else k) c.bodies_is
            ∙ sym (count_more (has_body fs) (sites front) (site_of front x)) ∙ ap (count_by (has_body fs)) (sym (sites_more front x)) ∙ ap (λ (is : List Item). count_by (has_body fs) (sites is)) (sym cut);
        list_is = n.list ∙ ap (λ q. list_after fs types table old (record { around = q; item = x })) c.open_is ∙ kept (takes_value (site_of front x)) refl
            ∙ sym (values_more list fs types [] (sites front) (site_of front x)) ∙ ap (values_from list fs types []) (sym (sites_more front x)) ∙ ap (λ (is : List Item). values_from list fs types [] (sites is)) (sym cut);
      }

pub listing_ends : (list : List Item) (fs : List ℕ) (types : List LlvmType) (index : ℕ) (r : ListReader) (values : List Global) → IsListing list fs types index r → length list ≤ index → values ≡ r.list → values ≡ values_of list fs types
listing_ends list fs types index r values c h e = e ∙ c.list_is ∙ ap (λ (is : List Item). values_from list fs types [] (sites is)) (take_all index list h)

-- how many values there are
pub values_whole : (is : List Item) (fs : List ℕ) (types : List LlvmType) (values : List Global) → values ≡ values_of is fs types → length values ≡ value_count is
values_whole is fs types values e = ap length e ∙ values_length is fs types [] (sites is)

pub values_few : (is : List Item) (fs : List ℕ) (types : List LlvmType) (values : List Global) → IsFramed is fs → values ≡ values_of is fs types → length values < 2 ^ 32
values_few is fs types values f e = omega (arith, values_whole is fs types values e, count_by-le-length takes_value (sites is), length-sites [] is, f.few_items)
