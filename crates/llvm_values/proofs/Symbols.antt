-- What the table of first symbols holds after one more item.
use Rattle.std.proofs.Common.{ℕ, ◌≡◌, ◌∙◌, ◌+◌, ◌<◌, ◌≤◌, refl, ap, sym, subst, arith, List, [], ◌∷◌, ◌++◌, length, take, get_or, Bool, true, false, if◌then◌else◌, Option, Some, None, inl, inr, take_all}
use Rattle.std.proofs.lemmas.Bool.{cases_lt}
use Rattle.std.proofs.lemmas.List.{take_more}
use Rattle.std.proofs.lemmas.List.Folds.{find-append}
use Rattle.std.proofs.lemmas.Option.{slice_get-get_or}
use Rattle.std.specs.List.{find}
use Rattle.std.specs.Option.{option_map, option_or}
use Rattle.bitstream_spelling.specs.Framed.{IsFramed, LiesIn, open_after, open_behind}
use Rattle.bitstream_spelling.specs.declared.item.Item.{Item}
use Rattle.llvm_items.proofs.SiteLaws.{site_of, sites_more, open_more}
use Rattle.llvm_items.specs.Sites.{Site, sites}
use Rattle.llvm_values.specs.Values.{names, symbol_of}
use Rattle.llvm_values.specs.Reading.{IsTable, IsNoted, LiesIfAny}

either : (a : Option Site) (s : Site) (b : Bool) → option_map (λ (z : Site). z.item) (option_or a (if b then Some s else None)) ≡ option_or (option_map (λ (z : Site). z.item) a) (if b then Some s.item else None)
either (Some z) s b = refl
either None s true = refl
either None s false = refl

symbol_more : (fs : List ℕ) (is : List Item) (x : Item) (k : ℕ) → symbol_of fs (sites (is ++ x ∷ [])) k ≡ option_or (symbol_of fs (sites is) k) (if names fs k (site_of is x) then Some x else None)
symbol_more fs is x k =
    ap (λ (ss : List Site). symbol_of fs ss k) (sites_more is x)
    ∙ ap (option_map (λ (z : Site). z.item)) (find-append (names fs k) (sites is) (site_of is x ∷ []))
    ∙ either (find (names fs k) (sites is)) (site_of is x) (names fs k (site_of is x))

-- the first symbols so far
pub record IsNoting (list : List Item) (fs : List ℕ) (index : ℕ) (around : List ℕ) (table : List (Option Item)) : Type 0 where
  pub open_is : around ≡ open_behind [] (take index list)
  pub at : (k : ℕ) → k < length table → get_or table k None ≡ symbol_of fs (sites (take index list)) k
  pub lie : (k : ℕ) → LiesIfAny fs (get_or table k None)

pub noting_first : (list : List Item) (fs around : List ℕ) (table : List (Option Item)) → around ≡ [] → ((k : ℕ) → get_or table k None ≡ None) → IsNoting list fs 0 around table
noting_first list fs around table p e = record { open_is = p; at = λ k h. e k; lie = λ k. subst (LiesIfAny fs) (sym (e k)) tt }

lies_either : (fs : List ℕ) (old : Option Item) (x : Item) (b : Bool) → LiesIfAny fs old → LiesIn fs x → LiesIfAny fs (option_or old (if b then Some x else None))
lies_either fs (Some y) x b h l = h
lies_either fs None x true h l = l
lies_either fs None x false h l = tt

pub noting_more : (list : List Item) (fs : List ℕ) (index : ℕ) (around next : List ℕ) (old new : List (Option Item)) (d : Item) → IsFramed list fs → IsNoting list fs index around old → index < length list → length new ≡ length old
    → IsNoted fs old new (record { around = around; item = get_or list index d }) → next ≡ open_after around (get_or list index d) → IsNoting list fs (index + 1) next new
noting_more list fs index around next old new d f c h l n p =
    let x = get_or list index d in
    let front = take index list in
    let cut : take (index + 1) list ≡ front ++ x ∷ [] = take_more list index d h in
    let lies : LiesIn fs x = f.lies index x (slice_get-get_or list index d h) in
    let shown : (k : ℕ) → k < length old → get_or new k None ≡ option_or (get_or old k None) (if names fs k (site_of front x) then Some x else None)
    = λ k e. n.at k e ∙ ap (λ q. option_or (get_or old k None) (if names fs k (record { around = q; item = x }) then Some x else None)) c.open_is in
    record {
      open_is = p ∙ ap (λ q. open_after q x) c.open_is ∙ sym (open_more front x) ∙ ap (open_behind []) (sym cut);
      at = λ k e.
          let within : k < length old = omega arith in
          shown k within ∙ ap (λ (o : Option Item). option_or o (if names fs k (site_of front x) then Some x else None)) (c.at k within) ∙ sym (symbol_more fs front x k) ∙ ap (λ (is : List Item). symbol_of fs (sites is) k) (sym cut);
      lie = λ k. elim (cases_lt k (length old)) [
        | inl within ↦ subst (LiesIfAny fs) (sym (shown k within)) (lies_either fs (get_or old k None) x (names fs k (site_of front x)) (c.lie k) lies)
        | inr past ↦ subst (LiesIfAny fs) (sym (n.past k past)) tt
      ];
    }

pub noting_ends : (list : List Item) (fs : List ℕ) (index : ℕ) (around : List ℕ) (table : List (Option Item)) → IsNoting list fs index around table → length list ≤ index → IsTable list fs table
noting_ends list fs index around table c h =
    let whole : take index list ≡ list = take_all index list h in
    record { at = λ k e. c.at k e ∙ ap (λ (is : List Item). symbol_of fs (sites is) k) whole; lie = c.lie }
