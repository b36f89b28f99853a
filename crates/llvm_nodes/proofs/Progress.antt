-- What the reader has after one more item.
use Rattle.std.proofs.Common.{ℕ, ◌≡◌, ◌+◌, ◌<◌, ◌≤◌, refl, sym, ap, ◌∙◌, subst, arith, List, [], ◌∷◌, ◌++◌, length, take, drop, get_or, slice_get, map, Some, None, Option, Bool, true, false, Err, is_some, if◌then◌else◌, append-nil, append_assoc, length-take, length-drop, ◌-◌, take_all}
use Rattle.std.proofs.lemmas.List.{take_more, map-append}
use Rattle.std.proofs.lemmas.List.Elements.{filter-append}
use Rattle.std.proofs.lemmas.Option.{slice_get-get_or}
use Rattle.std.specs.List.{filter}
use Rattle.dx_base.specs.First.{IsFirst, IsSound, IsClear}
use Rattle.dx_base.specs.Sentences.{first_that_holds, Stated}
use Rattle.dx_base.proofs.FirstLaws.{clear_none, clear_more, first_here, sound_of}
use Rattle.dx_base.proofs.SentenceLaws.{least_stated, none_stated}
use Rattle.bitstream_spelling.specs.Framed.{IsFramed, bit_of, open_after}
use Rattle.bitstream_spelling.specs.declared.item.Item.{Item}
use Rattle.llvm_items.specs.Sites.{Site, sites, code_of, fields_of, bit_at}
use Rattle.llvm_items.proofs.SiteLaws.{take-sites, site-at, length-sites, sites-rise, site_of, sites_more, open_more}
use Rattle.llvm_nodes.specs.Metadata.{is_numbered, numbered, items_of, bits_of, item_of, is_named, named_at, named_from, named_of, name_after, name_behind, end_from, IsMeta}
use Rattle.llvm_nodes.specs.Reading.{HasRead, items_after, bits_after, named_after, end_after, IsNext, rule_at, StepAnswer, MetaAnswer}
use Rattle.llvm_nodes.specs.Rules.{Broken, sentences, tests}
use Rattle.llvm_nodes.specs.declared.read.Reader.{Reader}
use Rattle.llvm_nodes.specs.declared.table.Counts.{Counts}
use Rattle.llvm_nodes.specs.declared.item.Meta.{Meta}
use Rattle.llvm_nodes.specs.declared.item.Named.{Named}
use Rattle.dx_base.specs.declared.fault.Fault.{Fault}
use Rattle.dx_base.specs.declared.fault.Fault.TheVariants.{Refused, Limit, OutOfMemory}
use Rattle.dx_base.specs.declared.fault.Rule.TheVariants.{C, B, Y, M, N, P}

numbered_more : (is : List Item) (x : Item) → numbered (is ++ x ∷ []) ≡ numbered is ++ (if is_numbered (site_of is x) then site_of is x ∷ [] else [])
numbered_more is x = ap (filter is_numbered) (sites_more is x) ∙ filter-append is_numbered (sites is) (site_of is x ∷ [])

-- a function of each of the numbered records, and of one more where it is one
map_if : {A : Type 0} (f : Site → A) (xs : List Site) (s : Site) (b : Bool) → map f (xs ++ (if b then s ∷ [] else [])) ≡ (if b then map f xs ++ f s ∷ [] else map f xs)
map_if f xs s true = map-append f xs (s ∷ [])
map_if f xs s false = ap (map f) (append-nil xs)

items_more : (fs : List ℕ) (is : List Item) (x : Item) → items_of (is ++ x ∷ []) fs ≡ items_after fs (items_of is fs) (site_of is x)
items_more fs is x =
    ap (map (λ z. item_of (code_of z.item) (fields_of fs z.item))) (numbered_more is x)
    ∙ map_if (λ z. item_of (code_of z.item) (fields_of fs z.item)) (numbered is) (site_of is x) (is_numbered (site_of is x))

bits_more : (is : List Item) (x : Item) → bits_of (is ++ x ∷ []) ≡ bits_after (bits_of is) (site_of is x)
bits_more is x = ap (map bit_at) (numbered_more is x) ∙ map_if bit_at (numbered is) (site_of is x) (is_numbered (site_of is x))

name-append : (fs : List ℕ) (name : Option (List ℕ)) (ss : List Site) (s : Site) → name_behind fs name (ss ++ s ∷ []) ≡ name_after fs (name_behind fs name ss) s
name-append fs name [] s = refl
name-append fs name (x ∷ ss) s = name-append fs (name_after fs name x) ss s

name_more : (fs : List ℕ) (is : List Item) (x : Item) → name_behind fs None (sites (is ++ x ∷ [])) ≡ name_after fs (name_behind fs None (sites is)) (site_of is x)
name_more fs is x = ap (name_behind fs None) (sites_more is x) ∙ name-append fs None (sites is) (site_of is x)

-- the named node of a site, if it is one
abbrev here_named : List ℕ → Option (List ℕ) → Site → List Named
here_named fs name s = if is_named s then named_at fs name s ∷ [] else []

named-append : (fs : List ℕ) (name : Option (List ℕ)) (ss : List Site) (s : Site) → named_from fs name (ss ++ s ∷ []) ≡ named_from fs name ss ++ here_named fs (name_behind fs name ss) s
named-append fs name [] s = append-nil (here_named fs name s)
named-append fs name (x ∷ ss) s =
    ap (λ l. here_named fs name x ++ l) (named-append fs (name_after fs name x) ss s)
    ∙ sym (append_assoc (here_named fs name x) (named_from fs (name_after fs name x) ss) (here_named fs (name_behind fs (name_after fs name x) ss) s))

append_if : {A : Type 0} (xs : List A) (x : A) (b : Bool) → xs ++ (if b then x ∷ [] else []) ≡ (if b then xs ++ x ∷ [] else xs)
append_if xs x true = refl
append_if xs x false = append-nil xs

named_more : (fs : List ℕ) (is : List Item) (x : Item) → named_of (is ++ x ∷ []) fs ≡ named_after fs (name_behind fs None (sites is)) (named_of is fs) (site_of is x)
named_more fs is x =
    ap (named_from fs None) (sites_more is x)
    ∙ named-append fs None (sites is) (site_of is x)
    ∙ append_if (named_of is fs) (named_at fs (name_behind fs None (sites is)) (site_of is x)) (is_named (site_of is x))

end-append : (bit : ℕ) (ss : List Site) (s : Site) → end_from bit (ss ++ s ∷ []) ≡ end_after (end_from bit ss) s
end-append bit [] s = refl
end-append bit (x ∷ ss) s = end-append (end_after bit x) ss s

end_more : (is : List Item) (x : Item) → end_from 0 (sites (is ++ x ∷ [])) ≡ end_after (end_from 0 (sites is)) (site_of is x)
end_more is x = ap (end_from 0) (sites_more is x) ∙ end-append 0 (sites is) (site_of is x)

has_more : (list : List Item) (fs : List ℕ) (index : ℕ) (old new : Reader) (d : Item) → HasRead (take index list) fs old → index < length list → IsNext old new fs (get_or list index d) → HasRead (take (index + 1) list) fs new
has_more list fs index old new d c h n =
    let x = get_or list index d in
    let front = take index list in
    let s = site_of front x in
    let cut : take (index + 1) list ≡ front ++ x ∷ [] = take_more list index d h in
    subst (λ (l : List Item). HasRead l fs new) (sym cut) (record {
      open_is = n.around ∙ ap (λ q. open_after q x) c.open_is ∙ sym (open_more front x);
      name_is = n.name ∙ ap (λ q. name_after fs old.name (record { around = q; item = x })) c.open_is ∙ ap (λ m. name_after fs m s) c.name_is ∙ sym (name_more fs front x);
      list_is = n.list ∙ ap (λ q. items_after fs old.list (record { around = q; item = x })) c.open_is ∙ ap (λ l. items_after fs l s) c.list_is ∙ sym (items_more fs front x);
      bits_is = n.bits ∙ ap (λ q. bits_after old.bits (record { around = q; item = x })) c.open_is ∙ ap (λ l. bits_after l s) c.bits_is ∙ sym (bits_more front x);
      named_is = n.named ∙ ap (λ q. named_after fs old.name old.named (record { around = q; item = x })) c.open_is ∙ ap (λ m. named_after fs m old.named s) c.name_is
          ∙ ap (λ l. named_after fs (name_behind fs None (sites front)) l s) c.named_is ∙ sym (named_more fs front x);
      end_is = n.end ∙ ap (λ q. end_after old.end (record { around = q; item = x })) c.open_is ∙ ap (λ e. end_after e s) c.end_is ∙ sym (end_more front x);
    })

-- the sentences of the whole list
abbrev pub Breaks : List Item → List ℕ → ℕ → ℕ → List Site → Site → ℕ → Type 0
Breaks list fs types values = Stated (sentences list fs types values)

-- the reading so far: what was read, and that nothing is broken
pub record IsReading (list : List Item) (fs : List ℕ) (types values index : ℕ) (r : Reader) : Type 0 where
  pub has : HasRead (take index list) fs r
  pub clear : IsClear bit_at (Breaks list fs types values) (sites list) index

pub reading_first : (list : List Item) (fs : List ℕ) (types values : ℕ) (r : Reader) → r.around ≡ [] → r.name ≡ None → r.list ≡ [] → r.bits ≡ [] → r.named ≡ [] → r.end ≡ 0 → IsReading list fs types values 0 r
reading_first list fs types values r p m l b n e = record {
  has = record { open_is = p; name_is = m; list_is = l; bits_is = b; named_is = n; end_is = e };
  clear = clear_none bit_at (Breaks list fs types values) (sites list);
}

module _ (list : List Item) (fs : List ℕ) (types values index : ℕ) (counts : Counts) (r : Reader) (d : Item) (behind : List Item) (i : IsReading list fs types values index r) (h : index < length list)
    (c : counts.records ≡ length (numbered list)) (ct : counts.types ≡ types) (cv : counts.values ≡ values) (cb : behind ≡ drop (index + 1) list) where
  -- the reader's tests are the sentences at the place
  same : rule_at r fs counts behind (get_or list index d) ≡ first_that_holds (sentences list fs types values (take index (sites list)) (site_of (take index list) (get_or list index d)))
  same =
      let x = get_or list index d in
      let n : length (take index (sites list)) ≡ index = ap length (take-sites [] index list) ∙ length-sites [] (take index list) ∙ omega (arith, length-take index list, h) in
      ap (λ k. first_that_holds (tests fs k counts.types counts.values (is_some r.name) behind (record { around = r.around; item = x }))) c
      ∙ ap (λ k. first_that_holds (tests fs (length (numbered list)) k counts.values (is_some r.name) behind (record { around = r.around; item = x }))) ct
      ∙ ap (λ k. first_that_holds (tests fs (length (numbered list)) types k (is_some r.name) behind (record { around = r.around; item = x }))) cv
      ∙ ap (λ b. first_that_holds (tests fs (length (numbered list)) types values (is_some r.name) b (record { around = r.around; item = x }))) (cb ∙ ap (λ k. drop (k + 1) list) (sym n))
      ∙ ap (λ m. first_that_holds (tests fs (length (numbered list)) types values (is_some m) (drop (length (take index (sites list)) + 1) list) (record { around = r.around; item = x }))) i.has.name_is
      ∙ ap (λ p. first_that_holds (tests fs (length (numbered list)) types values (is_some (name_behind fs None (sites (take index list)))) (drop (length (take index (sites list)) + 1) list) (record { around = p; item = x }))) i.has.open_is
      ∙ ap (λ b. first_that_holds (tests fs (length (numbered list)) types values (is_some (name_behind fs None b)) (drop (length (take index (sites list)) + 1) list) (site_of (take index list) x))) (sym (take-sites [] index list))

  stands : slice_get (sites list) index ≡ Some (site_of (take index list) (get_or list index d))
  stands = site-at [] index list (get_or list index d) (slice_get-get_or list index d h)

  pub reading_more : (new : Reader) → rule_at r fs counts behind (get_or list index d) ≡ 0 → IsNext r new fs (get_or list index d) → IsReading list fs types values (index + 1) new
  reading_more new e n = record {
    has = has_more list fs index r new d i.has h n;
    clear = clear_more bit_at (Breaks list fs types values) (sites list) index (site_of (take index list) (get_or list index d)) i.clear stands
        (none_stated (sentences list fs types values) (take index (sites list)) (site_of (take index list) (get_or list index d)) (sym same ∙ e));
  }

  pub reading_stops : (rule bit : ℕ) → IsFramed list fs → rule_at r fs counts behind (get_or list index d) ≡ rule → 0 < rule → bit ≡ bit_of (get_or list index d) → IsFirst (Broken list fs types values) rule bit
  reading_stops rule bit f e g b =
      let least = least_stated (sentences list fs types values) (take index (sites list)) (site_of (take index list) (get_or list index d)) rule (sym e ∙ same) g in
      let first = first_here bit_at (Breaks list fs types values) (sites list) index (site_of (take index list) (get_or list index d)) rule (sites-rise (Breaks list fs types values) list fs f) i.clear stands least in
      subst (λ (z : ℕ). IsFirst (Broken list fs types values) rule z) (sym b) first

  -- a fault of the reader at an item is the answer for the whole list
  pub fault_stops : (new : Reader) (fault : Fault) → IsFramed list fs → StepAnswer (Err fault) r new fs counts behind (get_or list index d) → MetaAnswer (Err fault) list fs types values
  fault_stops new (Refused (C rule) bit) f a = a
  fault_stops new (Refused (B rule) bit) f a = a
  fault_stops new (Refused (Y rule) bit) f a = a
  fault_stops new (Refused (M rule) bit) f a = a
  fault_stops new (Refused (N rule) bit) f a = reading_stops rule bit f a.0 a.1 a.2
  fault_stops new (Refused (P rule) bit) f a = a
  fault_stops new (Limit which bit) f a = a
  fault_stops new OutOfMemory f a = a

pub reading_ends : (list : List Item) (fs : List ℕ) (types values index : ℕ) (r : Reader) (meta : Meta) → IsReading list fs types values index r → length list ≤ index → index ≤ length list
    → meta.list ≡ r.list → meta.bits ≡ r.bits → meta.named ≡ r.named → meta.end ≡ r.end → IsMeta meta list fs × IsSound (Broken list fs types values)
reading_ends list fs types values index r meta i h k el eb en ee =
    let whole : take index list ≡ list = take_all index list h in
    let n : index ≡ length (sites list) = omega (arith, length-sites [] list) in (
      record {
        list = el ∙ i.has.list_is ∙ ap (λ l. items_of l fs) whole;
        bits = eb ∙ i.has.bits_is ∙ ap bits_of whole;
        named = en ∙ i.has.named_is ∙ ap (λ l. named_of l fs) whole;
        end = ee ∙ i.has.end_is ∙ ap (λ l. end_from 0 (sites l)) whole;
      },
      sound_of bit_at (Breaks list fs types values) (sites list) (subst (λ (z : ℕ). IsClear bit_at (Breaks list fs types values) (sites list) z) n i.clear),
    )

pub behind_all : (list : List Item) (from : ℕ) → take (length list - from) (drop from list) ≡ drop from list
behind_all list from = take_all (length list - from) (drop from list) (omega (arith, length-drop from list))
