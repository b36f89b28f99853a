-- The items that spell the bits of a bitstream are framed.
use Rattle.std.proofs.Common.{ap, refl, sym, ◌∙◌, subst, ℕ, zero, suc, ◌≡◌, ◌+◌, ◌*◌, ◌<◌, ◌≤◌, ◌^◌, ◌⊎◌, inl, inr, List, [], ◌∷◌, ◌++◌, length, take, slice_get, arith, length-append, append-nil, Option, Some, None, Bool, true, false, IsTrue, if◌then◌else◌, ◌&&◌, ◌||◌}
use Rattle.std.specs.Prelude.{eqb}
use Rattle.std.proofs.lemmas.List.{take-append-le}
use Rattle.std.proofs.lemmas.List.Sums.{sum_by-append}
use Rattle.std.proofs.lemmas.Bool.{cases_lt}
use Rattle.std.proofs.lemmas.Bool.Decides.{nat_tests}
use Rattle.std.proofs.lemmas.Option.{slice_get_within}
use Rattle.std.proofs.Math.Seq.{take-append_seam}
use Rattle.dx_base.proofs.VbrLaws.{vbr_takes}
use Rattle.bitstream_spelling.specs.Layout.{Shape, closes, enters, defines, plain, by, unknown, Abbreviation}
use Rattle.bitstream_spelling.specs.Spelling.{Block, Place, Lays, next, item, fields, reads, ends_all, rest_of, first_of_all, left, entered, defined, naming, names}
use Rattle.bitstream_spelling.specs.declared.operand.Operand.TheVariants.{Vbr}
use Rattle.bitstream_spelling.specs.Rules.{IsFine, IsInside, IsFront, begins, goes_on, IsWhole, records, is_record}
use Rattle.bitstream_spelling.specs.Framed.{bit_of, LiesIn, open_after, open_behind, innermost, IsInBlock, StandsIn, IsModule, IsFramed}
use Rattle.bitstream_spelling.specs.declared.item.Item.{Item}
use Rattle.bitstream_spelling.specs.declared.item.Item.TheVariants.{Enter, Record, Skip, End}
use Rattle.bitstream_spelling.proofs.Forward.{above, row_forward, spelled_forward, all_written_forward}

-- an entry of a list with one more at its end is one of the list, or that one
last_or_before : {X : Type 0} (xs : List X) (y : X) (i : ℕ) (z : X) → slice_get (xs ++ y ∷ []) i ≡ Some z → ((i < length xs) × (slice_get xs i ≡ Some z)) ⊎ ((i ≡ length xs) × (z ≡ y))
last_or_before [] y zero z e = inr (refl, cc)
last_or_before [] y (suc i) z e = absurd (cc)
last_or_before (x ∷ xs) y zero z e = inl (omega arith, e)
last_or_before (x ∷ xs) y (suc i) z e = elim (last_or_before xs y i z e) [ inl h ↦ inl (omega (arith, h.0), h.1) | inr h ↦ inr (omega (arith, h.0), h.1) ]

open_behind-append : (ids : List ℕ) (is : List Item) (x : Item) → open_behind ids (is ++ x ∷ []) ≡ open_after (open_behind ids is) x
open_behind-append ids [] x = refl
open_behind-append ids (i ∷ is) x = open_behind-append (open_after ids i) is x

take_whole : (is : List Item) (new : Item) (i : ℕ) → i ≡ length is → take i (is ++ new ∷ []) ≡ is
take_whole is new i e = ap (λ (k : ℕ). take k (is ++ new ∷ [])) e ∙ take-append_seam is (new ∷ [])

lies_on : (fs row : List ℕ) (x : Item) → LiesIn fs x → LiesIn (fs ++ row) x
lies_on fs row (Enter id width bit) h = tt
lies_on fs row (Record code first count bit) h = omega (arith, length-append fs row, h)
lies_on fs row (Skip id words bit) h = tt
lies_on fs row (End bit) h = tt

-- items before a bit, each where it may stand
record AreFramed (at : ℕ) (is : List Item) (fs : List ℕ) : Type 0 where
  stands : (i : ℕ) (x : Item) → slice_get is i ≡ Some x → StandsIn (open_behind [] (take i is)) x
  lies : (i : ℕ) (x : Item) → slice_get is i ≡ Some x → LiesIn fs x
  rises : (i j : ℕ) (x y : Item) → i < j → slice_get is i ≡ Some x → slice_get is j ≡ Some y → bit_of x < bit_of y
  before : (i : ℕ) (x : Item) → slice_get is i ≡ Some x → bit_of x < at

none_framed : (at : ℕ) → AreFramed at [] []
none_framed at = record { stands = λ i x e. absurd (cc); lies = λ i x e. absurd (cc); rises = λ i j x y h e f. absurd (cc); before = λ i x e. absurd (cc) }

framed_on : (at after : ℕ) (is : List Item) (fs : List ℕ) → at ≤ after → AreFramed at is fs → AreFramed after is fs
framed_on at after is fs up a = record { stands = a.stands; lies = a.lies; rises = a.rises; before = λ i x e. omega (arith, a.before i x e, up) }

module _ (at after : ℕ) (is : List Item) (fs row : List ℕ) (new : Item) (a : AreFramed at is fs) (stands : StandsIn (open_behind [] is) new) (lies : LiesIn (fs ++ row) new) (bit : bit_of new ≡ at) (up : at < after) where
  stands_more : (i : ℕ) (x : Item) → slice_get (is ++ new ∷ []) i ≡ Some x → StandsIn (open_behind [] (take i (is ++ new ∷ []))) x
  stands_more i x e = elim (last_or_before is new i x e) [
    | inl h ↦ subst (λ (js : List Item). StandsIn (open_behind [] js) x) (sym (take-append-le i is (new ∷ []) (omega (arith, h.0)))) (a.stands i x h.1)
    | inr h ↦ subst (λ (js : List Item). StandsIn (open_behind [] js) x) (sym (take_whole is new i h.0)) (subst (λ (y : Item). StandsIn (open_behind [] is) y) (sym h.1) stands)
  ]

  lies_more : (i : ℕ) (x : Item) → slice_get (is ++ new ∷ []) i ≡ Some x → LiesIn (fs ++ row) x
  lies_more i x e = elim (last_or_before is new i x e) [
    | inl h ↦ lies_on fs row x (a.lies i x h.1)
    | inr h ↦ subst (λ (y : Item). LiesIn (fs ++ row) y) (sym h.1) lies
  ]

  before_more : (i : ℕ) (x : Item) → slice_get (is ++ new ∷ []) i ≡ Some x → bit_of x < after
  before_more i x e = elim (last_or_before is new i x e) [
    | inl h ↦ omega (arith, a.before i x h.1, up)
    | inr h ↦ omega (arith, ap bit_of h.1, bit, up)
  ]

  rises_more : (i j : ℕ) (x y : Item) → i < j → slice_get (is ++ new ∷ []) i ≡ Some x → slice_get (is ++ new ∷ []) j ≡ Some y → bit_of x < bit_of y
  rises_more i j x y l e f = elim (last_or_before is new j y f) [
    | inl h ↦ elim (last_or_before is new i x e) [ inl g ↦ a.rises i j x y l g.1 h.1 | inr g ↦ absurd (omega (arith, h.0, g.0)) ]
    | inr h ↦ elim (last_or_before is new i x e) [ inl g ↦ omega (arith, a.before i x g.1, ap bit_of h.1, bit) | inr g ↦ absurd (omega (arith, h.0, g.0)) ]
  ]

  framed_more : AreFramed after (is ++ new ∷ []) (fs ++ row)
  framed_more = record { stands = stands_more; lies = lies_more; rises = rises_more; before = before_more }

-- The top has no id, and the other blocks have ids; an abbreviation id takes bits.
abbrev IsChain : Block → List Block → Type 0
IsChain b [] = (b.id ≡ None) × (2 ≤ b.width)
IsChain b (c ∷ cs) = (2 ≤ b.width) × ((b.id ≡ None → ⊥) × IsChain c cs)

-- the ids of the blocks that are open
abbrev ids_of : Option ℕ → List Block → List ℕ
ids_of None bs = []
ids_of (Some id) [] = id ∷ []
ids_of (Some id) (b ∷ bs) = id ∷ ids_of b.id bs

-- the id of the outermost block
abbrev outermost : List ℕ → Option ℕ
outermost [] = None
outermost (id ∷ []) = Some id
outermost (id ∷ other ∷ ids) = outermost (other ∷ ids)

wide_of : (b : Block) (bs : List Block) → IsChain b bs → 2 ≤ b.width
wide_of b [] c = c.1
wide_of b (d ∷ ds) c = c.0

innermost_of : (o : Option ℕ) (bs : List Block) → innermost (ids_of o bs) ≡ o
innermost_of None bs = refl
innermost_of (Some id) [] = refl
innermost_of (Some id) (b ∷ bs) = refl

open_of : (b : Block) (bs : List Block) → IsChain b bs → IsInside bs → IsInBlock (ids_of b.id bs)
open_of b [] c h = absurd h
open_of b (d ∷ ds) c h = some b.id (c.1.0) where
  some : (o : Option ℕ) → (o ≡ None → ⊥) → IsInBlock (ids_of o (d ∷ ds))
  some None n = absurd (n refl)
  some (Some id) n = tt

-- the ids of the blocks around a block
ids_around : (b c : Block) (cs : List Block) → (b.id ≡ None → ⊥) → (id : ℕ) × (b.id ≡ Some id) × (ids_of b.id (c ∷ cs) ≡ id ∷ ids_of c.id cs)
ids_around b c cs n = some b.id n where
  some : (o : Option ℕ) → (o ≡ None → ⊥) → (id : ℕ) × (o ≡ Some id) × (ids_of o (c ∷ cs) ≡ id ∷ ids_of c.id cs)
  some None h = absurd (h refl)
  some (Some id) h = (id, refl, refl)

no_ids : (b : Block) → IsChain b [] → ids_of b.id [] ≡ []
no_ids b c = ap (λ (o : Option ℕ). ids_of o []) c.0

naming_same : (b : Block) (values : List ℕ) → ((naming b values).id ≡ b.id) × ((naming b values).width ≡ b.width)
naming_same b [] = (refl, refl)
naming_same b (code ∷ []) = (refl, refl)
naming_same b (code ∷ id ∷ rest) = elim (names b.id code) as (λ t. ((if t then record b { named = Some id } else b).id ≡ b.id) × ((if t then record b { named = Some id } else b).width ≡ b.width)) [
  | true ↦ (refl, refl)
  | false ↦ (refl, refl)
]

chain_like : (b c : Block) (bs : List Block) → b.id ≡ c.id → b.width ≡ c.width → IsChain c bs → IsChain b bs
chain_like b c [] e w h = (e ∙ h.0, omega (arith, w, h.1))
chain_like b c (d ∷ ds) e w h = (omega (arith, w, h.0), (λ n. h.1.0 (sym e ∙ n), h.1.1))

-- a block 8 is read at the top alone
two_tests : (a b : Bool) → ((a && false) || (b && false)) ≡ true → ⊥
two_tests true true e = cc
two_tests true false e = cc
two_tests false true e = cc
two_tests false false e = cc

not_in_block : (ids : List ℕ) → IsInBlock ids → IsTrue (reads (innermost ids) 8) → ⊥
not_in_block [] h r = h
not_in_block (id ∷ ids) h r = two_tests (eqb id 8) (eqb id 12) r

-- no block 8 is entered
record NoModule (is : List Item) : Type 0 where
  none : (i w b : ℕ) → slice_get is i ≡ Some (Enter 8 w b) → ⊥

no_module_more : (is : List Item) (new : Item) → NoModule is → ((w b : ℕ) → new ≡ Enter 8 w b → ⊥) → NoModule (is ++ new ∷ [])
no_module_more is new n other = record { none = λ i w b e. elim (last_or_before is new i (Enter 8 w b) e) [ inl h ↦ n.none i w b h.1 | inr h ↦ other w b (sym h.1) ] }

-- the module block begins with a new item
module_begins : (is : List Item) (width bit : ℕ) → NoModule is → open_behind [] is ≡ [] → IsModule (is ++ Enter 8 width bit ∷ []) (length is)
module_begins is width bit n e = record {
  width = width;
  bit = bit;
  enters = last is;
  outside = ap (λ (js : List Item). open_behind [] js) (take_whole is (Enter 8 width bit) (length is) refl) ∙ e;
  inside = λ i low high. absurd (omega (arith, low, high, length-append is (Enter 8 width bit ∷ [])));
  one = λ i w b g. elim (last_or_before is (Enter 8 width bit) i (Enter 8 w b) g) [ inl h ↦ absurd (n.none i w b h.1) | inr h ↦ h.0 ];
} where
  last : (js : List Item) → slice_get (js ++ Enter 8 width bit ∷ []) (length js) ≡ Some (Enter 8 width bit)
  last [] = refl
  last (j ∷ js) = last js

get_kept : (is : List Item) (new x : Item) (i : ℕ) → slice_get is i ≡ Some x → slice_get (is ++ new ∷ []) i ≡ Some x
get_kept [] new x i e = absurd (cc)
get_kept (j ∷ js) new x zero e = e
get_kept (j ∷ js) new x (suc i) e = get_kept js new x i e

-- and goes on with items in it
module_more : (is : List Item) (new : Item) (at : ℕ) → IsModule is at → IsInBlock (open_behind [] is) → ((w b : ℕ) → new ≡ Enter 8 w b → ⊥) → IsModule (is ++ new ∷ []) at
module_more is new at m opened other =
    let low : at < length is = slice_get_within is at (Enter 8 m.width m.bit) m.enters in
    record {
      width = m.width;
      bit = m.bit;
      enters = get_kept is new (Enter 8 m.width m.bit) at m.enters;
      outside = ap (λ (js : List Item). open_behind [] js) (take-append-le at is (new ∷ []) (omega (arith, low))) ∙ m.outside;
      inside = λ i h l. elim (cases_lt i (length is)) [
        | inl below ↦ subst (λ (js : List Item). IsInBlock (open_behind [] js)) (sym (take-append-le i is (new ∷ []) (omega (arith, below)))) (m.inside i h below)
        | inr over ↦ subst (λ (js : List Item). IsInBlock (open_behind [] js)) (sym (take_whole is new i (omega (arith, l, over, length-append is (new ∷ []))))) opened
      ];
      one = λ i w b g. elim (last_or_before is new i (Enter 8 w b) g) [ inl h ↦ m.one i w b h.1 | inr h ↦ absurd (other w b (sym h.1)) ];
    }

-- Before the module block, or in it or behind its end.
abbrev Stage : Bool → List ℕ → List Item → Type 0
Stage over ids is = ((over ≡ false) × (outermost ids ≡ Some 8 → ⊥) × NoModule is) ⊎ (((over ≡ true) ⊎ (outermost ids ≡ Some 8)) × ((at : ℕ) × IsModule is at))

in_outermost : (ids : List ℕ) → outermost ids ≡ Some 8 → IsInBlock ids
in_outermost [] e = absurd (cc)
in_outermost (id ∷ ids) e = tt

-- an item that opens and closes nothing
stage_more : (over : Bool) (ids : List ℕ) (is : List Item) (new : Item) → over ≡ false → open_behind [] is ≡ ids → ((w b : ℕ) → new ≡ Enter 8 w b → ⊥) → Stage over ids is → Stage false ids (is ++ new ∷ [])
stage_more over ids is new going e other (inl a) = inl (refl, a.1, no_module_more is new a.2 other)
stage_more over ids is new going e other (inr (inl o, m)) = absurd (cc)
stage_more over ids is new going e other (inr (inr o, m)) = inr (inr o, (m.0, module_more is new m.0 m.1 (subst IsInBlock (sym e) (in_outermost ids o)) other))

eqb_is : (a b : ℕ) → eqb a b ≡ true → a ≡ b
eqb_is a b e = grind (arith, nat_tests)

eqb_of : (a b : ℕ) → a ≡ b → eqb a b ≡ true
eqb_of a b e = grind (arith, nat_tests)

-- the end of a block at the top
close_top : (id : ℕ) (is : List Item) (bit : ℕ) → open_behind [] is ≡ id ∷ [] → Stage false (id ∷ []) is → Stage (eqb id 8) [] (is ++ End bit ∷ [])
close_top id is bit e (inl a) = before (eqb id 8) (λ t. a.1 (ap Some (eqb_is id 8 t))) where
  before : (t : Bool) → (t ≡ true → ⊥) → Stage t [] (is ++ End bit ∷ [])
  before true h = absurd (h refl)
  before false h = inl (refl, (λ o. absurd (cc)), no_module_more is (End bit) a.2 (λ w b x. absurd (cc)))
close_top id is bit e (inr (inl o, m)) = absurd (cc)
close_top id is bit e (inr (inr o, m)) =
    let eight : id ≡ 8 = cc in
    inr (inl (eqb_of id 8 eight), (m.0, module_more is (End bit) m.0 m.1 (subst IsInBlock (sym e) tt) (λ w b x. absurd (cc))))

close_stage : (o : Option ℕ) (id : ℕ) (b : Block) (bs : List Block) (is : List Item) (bit : ℕ) → o ≡ Some id → IsChain b bs → open_behind [] is ≡ id ∷ ids_of b.id bs → Stage false (id ∷ ids_of b.id bs) is
    → Stage (ends_all o bs) (ids_of b.id bs) (is ++ End bit ∷ [])
close_stage o id b [] is bit s chain e g =
    let none = no_ids b chain in
    subst (λ (q : Option ℕ). Stage (ends_all q []) (ids_of b.id []) (is ++ End bit ∷ [])) (sym s)
    (subst (λ (ids : List ℕ). Stage (eqb id 8) ids (is ++ End bit ∷ [])) (sym none) (close_top id is bit (e ∙ ap (λ (ids : List ℕ). id ∷ ids) none) (subst (λ (ids : List ℕ). Stage false (id ∷ ids) is) none g)))
close_stage o id b (c ∷ cs) is bit s chain e g =
    let x = ids_around b c cs chain.1.0 in
    let inner : Stage false (x.0 ∷ ids_of c.id cs) (is ++ End bit ∷ []) =
    stage_more false (id ∷ x.0 ∷ ids_of c.id cs) is (End bit) refl (e ∙ ap (λ (ids : List ℕ). id ∷ ids) x.2) (λ w n y. absurd (cc)) (subst (λ (ids : List ℕ). Stage false (id ∷ ids) is) x.2 g) in
    subst (λ (q : Option ℕ). Stage (ends_all q (c ∷ cs)) (ids_of b.id (c ∷ cs)) (is ++ End bit ∷ [])) (sym s) (subst (λ (ids : List ℕ). Stage false ids (is ++ End bit ∷ [])) (sym x.2) inner)

-- the entry of a block
enter_stage : (ids : List ℕ) (id width bit : ℕ) (is : List Item) → open_behind [] is ≡ ids → IsTrue (reads (innermost ids) id) → Stage false ids is → Stage false (id ∷ ids) (is ++ Enter id width bit ∷ [])
enter_stage [] id width bit is e read (inl a) = at_top (eqb id 8) (eqb_is id 8) (eqb_of id 8) where
  at_top : (t : Bool) → (t ≡ true → id ≡ 8) → (id ≡ 8 → t ≡ true) → Stage false (id ∷ []) (is ++ Enter id width bit ∷ [])
  at_top true eight h =
      let same = eight refl in
      inr (inr (ap Some same), (length is, subst (λ (n : ℕ). IsModule (is ++ Enter n width bit ∷ []) (length is)) (sym same) (module_begins is width bit a.2 e)))
  at_top false eight h = inl (refl, (λ o. let same : id ≡ 8 = cc in let t : false ≡ true = h same in absurd (cc)), no_module_more is (Enter id width bit) a.2 (λ w b x. let same : id ≡ 8 = cc in let t : false ≡ true = h same in absurd (cc)))
enter_stage [] id width bit is e read (inr (inl o, m)) = absurd (cc)
enter_stage [] id width bit is e read (inr (inr o, m)) = absurd (cc)
enter_stage (x ∷ xs) id width bit is e read g =
    stage_more false (x ∷ xs) is (Enter id width bit) refl e (λ w b y. let same : id ≡ 8 = cc in not_in_block (x ∷ xs) tt (subst (λ (n : ℕ). IsTrue (reads (Some x) n)) same read)) g

none_around : (o : Option ℕ) (bs : List Block) → ends_all o bs ≡ true → bs ≡ []
none_around o [] h = refl
none_around None (b ∷ bs) h = absurd (cc)
none_around (Some id) (b ∷ bs) h = absurd (cc)

module _ (bytes : List ℕ) (start end : ℕ) where
  -- What is true of the items behind a front. An entry takes 44 bits, as much as a block's entry and end count, and a record counts nothing.
  record IsFramedFront (p : Place) (is : List Item) (fs : List ℕ) : Type 0 where
    chain : IsChain p.here p.around
    ids : open_behind [] is ≡ ids_of p.here.id p.around
    framed : AreFramed p.at is fs
    room : start + 22 * (length is + length p.around) ≤ p.at + 22 * records is
    within : p.at ≤ end
    last : p.over ≡ true → p.around ≡ []
    stage : Stage p.over (ids_of p.here.id p.around) is

  -- one more item is counted
  longer : (is : List Item) (x : Item) → (length (is ++ x ∷ []) ≡ length is + 1) × (records (is ++ x ∷ []) ≡ records is + is_record x)
  longer is x = (omega (arith, length-append is (x ∷ [])), omega (arith, sum_by-append is_record is (x ∷ [])))

  close_framed : (p : Place) (is : List Item) (fs : List ℕ) (after : ℕ) (around : List Block) → p.around ≡ around → IsInside around → p.over ≡ false → IsFramedFront p is fs → p.at < after → after ≤ end
      → IsFramedFront (left p after around) (is ++ End p.at ∷ []) (fs ++ [])
  close_framed p is fs after [] e h going f up within = absurd h
  close_framed p is fs after (b ∷ bs) e h going f up within =
      let chain : IsChain p.here (b ∷ bs) = subst (λ (xs : List Block). IsChain p.here xs) e f.chain in
      let x = ids_around p.here b bs chain.1.0 in
      let ids : open_behind [] is ≡ x.0 ∷ ids_of b.id bs = f.ids ∙ ap (λ (xs : List Block). ids_of p.here.id xs) e ∙ x.2 in
      let stage : Stage false (x.0 ∷ ids_of b.id bs) is = subst (λ (ys : List ℕ). Stage false ys is) (ap (λ (xs : List Block). ids_of p.here.id xs) e ∙ x.2) (subst (λ (o : Bool). Stage o (ids_of p.here.id p.around) is) going f.stage) in
      let n = longer is (End p.at) in
      record {
        chain = chain.1.1;
        ids = open_behind-append [] is (End p.at) ∙ ap rest_of ids;
        framed = framed_more p.at after is fs [] (End p.at) f.framed (subst IsInBlock (sym ids) tt) tt refl up;
        room = omega (arith, f.room, up, n.0, n.1, ap length e);
        within = within;
        last = none_around p.here.id bs;
        stage = close_stage p.here.id x.0 b bs is p.at x.1 chain.1.1 ids stage;
      }

  enter_framed : (p : Place) (is : List Item) (fs : List ℕ) (id width words after : ℕ) → IsTrue (reads p.here.id id) → 2 ≤ width → p.over ≡ false → IsFramedFront p is fs → p.at + 44 ≤ after → after ≤ end
      → IsFramedFront (entered p id width words after) (is ++ Enter id width p.at ∷ []) (fs ++ [])
  enter_framed p is fs id width words after read low going f up within =
      let inner : innermost (ids_of p.here.id p.around) ≡ p.here.id = innermost_of p.here.id p.around in
      let read_ids : IsTrue (reads (innermost (ids_of p.here.id p.around)) id) = subst (λ (o : Option ℕ). IsTrue (reads o id)) (sym inner) read in
      let stage : Stage false (ids_of p.here.id p.around) is = subst (λ (o : Bool). Stage o (ids_of p.here.id p.around) is) going f.stage in
      let n = longer is (Enter id width p.at) in
      record {
        chain = (low, (λ e. absurd (cc), f.chain));
        ids = open_behind-append [] is (Enter id width p.at) ∙ ap (λ (xs : List ℕ). id ∷ xs) f.ids;
        framed = framed_more p.at after is fs [] (Enter id width p.at) f.framed (subst (λ (xs : List ℕ). IsTrue (reads (innermost xs) id)) (sym f.ids) read_ids) tt refl (omega (arith, up));
        room = omega (arith, f.room, up, n.0, n.1);
        within = within;
        last = λ o. let off : p.over ≡ true = o in absurd (cc);
        stage = subst (λ (o : Bool). Stage o (id ∷ ids_of p.here.id p.around) (is ++ Enter id width p.at ∷ [])) (sym going) (enter_stage (ids_of p.here.id p.around) id width p.at is f.ids read_ids stage);
      }

  -- an item that opens and closes nothing, and leaves the blocks with the same ids and widths
  keep_framed : (p q : Place) (is : List Item) (fs row : List ℕ) (new : Item) → q.around ≡ p.around → q.here.id ≡ p.here.id → q.here.width ≡ p.here.width → q.over ≡ false → p.over ≡ false → IsFramedFront p is fs → p.at < q.at → q.at ≤ end
      → ((ids : List ℕ) → open_after ids new ≡ ids) → StandsIn (open_behind [] is) new → LiesIn (fs ++ row) new → bit_of new ≡ p.at → ((w b : ℕ) → new ≡ Enter 8 w b → ⊥) → p.at + 22 ≤ q.at + 22 * is_record new
      → IsFramedFront q (is ++ new ∷ []) (fs ++ row)
  keep_framed p q is fs row new around same_id same_width over going f up within nothing stands lies bit other room =
      let n = longer is new in
      let ids : ids_of p.here.id p.around ≡ ids_of q.here.id q.around = ap (λ (o : Option ℕ). ids_of o p.around) (sym same_id) ∙ ap (λ (xs : List Block). ids_of q.here.id xs) (sym around) in
      let stage : Stage false (ids_of p.here.id p.around) (is ++ new ∷ []) = stage_more p.over (ids_of p.here.id p.around) is new going f.ids other f.stage in
      record {
        chain = subst (λ (xs : List Block). IsChain q.here xs) (sym around) (chain_like q.here p.here p.around same_id same_width f.chain);
        ids = open_behind-append [] is new ∙ nothing (open_behind [] is) ∙ f.ids ∙ ids;
        framed = framed_more p.at q.at is fs row new f.framed stands lies bit up;
        room = omega (arith, f.room, room, n.0, n.1, ap length around);
        within = within;
        last = λ o. let off : q.over ≡ true = o in absurd (cc);
        stage = subst (λ (o : Bool). Stage o (ids_of q.here.id q.around) (is ++ new ∷ [])) (sym over) (subst (λ (xs : List ℕ). Stage false xs (is ++ new ∷ [])) ids stage);
      }

  record_framed : (p : Place) (is : List Item) (fs : List ℕ) (values : List ℕ) (code : ℕ) (row : List ℕ) (after : ℕ) → IsInside p.around → p.over ≡ false → IsFramedFront p is fs → p.at < after → after ≤ end
      → IsFramedFront (record p { at = after; here = naming p.here values }) (is ++ Record code (length fs) (length row) p.at ∷ []) (fs ++ row)
  record_framed p is fs values code row after inside going f up within =
      let stands : IsInBlock (open_behind [] is) = subst IsInBlock (sym f.ids) (open_of p.here p.around f.chain inside) in
      let same = naming_same p.here values in
      keep_framed p (record p { at = after; here = naming p.here values }) is fs row (Record code (length fs) (length row) p.at) refl same.0 same.1 going going f up within (λ ids. refl) stands (omega (arith, length-append fs row)) refl (λ w b e. absurd (cc))
      (omega (arith, up))

  skip_framed : (p : Place) (is : List Item) (fs : List ℕ) (id words after : ℕ) → reads p.here.id id ≡ false → p.over ≡ false → IsFramedFront p is fs → p.at + 22 ≤ after → after ≤ end
      → IsFramedFront (record p { at = after }) (is ++ Skip id words p.at ∷ []) (fs ++ [])
  skip_framed p is fs id words after read going f up within =
      let inner : innermost (open_behind [] is) ≡ p.here.id = ap innermost f.ids ∙ innermost_of p.here.id p.around in
      keep_framed p (record p { at = after }) is fs [] (Skip id words p.at) refl refl refl going going f (omega (arith, up)) within (λ ids. refl) (subst (λ (o : Option ℕ). reads o id ≡ false) (sym inner) read) tt refl (λ w b e. absurd (cc)) (omega (arith, up))

  defined_framed : (p : Place) (is : List Item) (fs : List ℕ) (ops : Abbreviation) (after : ℕ) → IsFramedFront p is fs → p.at ≤ after → after ≤ end → IsFramedFront (defined p ops after) is fs
  defined_framed p is fs ops after f up within = named p.here.named where
    named : (o : Option ℕ) → IsFramedFront (elim o as (λ _. Place) [
      | Some id ↦ record p { at = after; given = p.given ++ (id, ops) ∷ []; operands = p.operands + length ops }
      | None ↦ record p { at = after; here = record p.here { forms = p.here.forms ++ ops ∷ [] }; operands = p.operands + length ops }
    ]) is fs
    named (Some id) = record { chain = f.chain; ids = f.ids; framed = framed_on p.at after is fs up f.framed; room = omega (arith, f.room, up); within = within; last = f.last; stage = f.stage }
    named None = record { chain = chain_like (record p.here { forms = p.here.forms ++ ops ∷ [] }) p.here p.around refl refl f.chain; ids = f.ids; framed = framed_on p.at after is fs up f.framed; room = omega (arith, f.room, up); within = within; last = f.last; stage = f.stage }

  entry_framed : (p : Place) (is : List Item) (fs : List ℕ) (id width words after : ℕ) (b : Bool) → reads p.here.id id ≡ b → (IsTrue (reads p.here.id id) → (2 ≤ width) × (width ≤ 32)) → p.over ≡ false → IsFramedFront p is fs → p.at + 44 ≤ after
      → (if b then after else after + 32 * words) ≤ end
      → IsFramedFront (if b then entered p id width words after else record p { at = after + 32 * words }) (is ++ (if b then Enter id width p.at ∷ [] else Skip id words p.at ∷ [])) (fs ++ [])
  entry_framed p is fs id width words after true read sound going f up within = enter_framed p is fs id width words after read (sound read).0 going f up within
  entry_framed p is fs id width words after false read sound going f up within = skip_framed p is fs id words (after + 32 * words) read going f (omega (arith, up)) within

  next_framed : (p : Place) (is : List Item) (fs : List ℕ) (shape : Shape) (after : ℕ) → p.over ≡ false → IsFramedFront p is fs → Lays bytes start p shape after → IsFine end p shape after
      → IsFramedFront (next p shape after) (is ++ item p shape (length fs)) (fs ++ fields shape)
  next_framed p is fs closes after going f l fine =
      let wide : 2 ≤ p.here.width = wide_of p.here p.around f.chain in
      close_framed p is fs after p.around refl fine.b8 going f (omega (arith, wide, l.1, above start (p.at + p.here.width))) fine.b2
  next_framed p is fs (enters id width words) after going f l fine =
      let wide : 2 ≤ p.here.width = wide_of p.here p.around f.chain in
      let e = l.1 in
      let up : p.at + 44 ≤ after = omega (arith, wide, vbr_takes bytes 8 (p.at + p.here.width) id e.next e.is_id, vbr_takes bytes 4 e.next width e.ends e.is_width, above start e.ends, e.is_after) in
      entry_framed p is fs id width words after (reads p.here.id id) refl fine.b8 going f up fine.b2
  next_framed p is fs (plain code row) after going f l fine =
      let wide : 2 ≤ p.here.width = wide_of p.here p.around f.chain in
      let q = l.1 in
      let up : p.at < after = omega (
        arith,
        wide,
        vbr_takes bytes 6 (p.at + p.here.width) code q.next q.is_code,
        vbr_takes bytes 6 q.next (length row) q.last q.is_count,
        row_forward bytes start (Vbr 6) q.last row after q.are_fields,
      ) in
      record_framed p is fs (code ∷ row) code row after fine.b8 going f up fine.b2
  next_framed p is fs (by k values) after going f l fine =
      let wide : 2 ≤ p.here.width = wide_of p.here p.around f.chain in
      let up : p.at < after = omega (arith, wide, spelled_forward bytes start l.1.0 (p.at + p.here.width) values after l.1.2) in
      record_framed p is fs values (first_of_all values) (rest_of values) after fine.b8 going f up fine.b2
  next_framed p is fs (defines ops) after going f l fine =
      let up : p.at ≤ after = omega (arith, vbr_takes bytes 5 (p.at + p.here.width) (length ops) l.0 l.2, all_written_forward bytes start l.0 ops after l.3) in
      subst (λ (js : List Item). IsFramedFront (defined p ops after) js (fs ++ [])) (sym (append-nil is)) (subst (λ (gs : List ℕ). IsFramedFront (defined p ops after) is gs) (sym (append-nil fs)) (defined_framed p is fs ops after f up fine.b2))
  next_framed p is fs (unknown k) after going f l fine = absurd fine.b3

  front_framed : {p : Place} {is : List Item} {fs : List ℕ} → IsFront bytes start end p is fs → IsFramedFront p is fs
  front_framed (begins m) = record { chain = (refl, omega arith); ids = refl; framed = none_framed (start + 32); room = omega arith; within = m.0; last = λ o. refl; stage = inl (refl, (λ e. absurd (cc)), record { none = λ i w b e. absurd (cc) }) }
  front_framed (goes_on f g l k) = next_framed _ _ _ _ _ g (front_framed f) l k

  module_at : (over : Bool) (is : List Item) → over ≡ true → Stage over [] is → (at : ℕ) × IsModule is at
  module_at over is o (inl a) = let off : over ≡ false = a.0 in absurd (cc)
  module_at over is o (inr m) = m.1

  pub whole_framed : (is : List Item) (fs : List ℕ) → end ≤ 2 ^ 35 → IsWhole bytes start end is fs → IsFramed is fs
  whole_framed is fs small r =
      let f = front_framed r.front in
      let top : r.place.around ≡ [] = f.last r.over in
      let chain : IsChain r.place.here [] = subst (λ (xs : List Block). IsChain r.place.here xs) top f.chain in
      let none : ids_of r.place.here.id r.place.around ≡ [] = ap (λ (xs : List Block). ids_of r.place.here.id xs) top ∙ no_ids r.place.here chain in
      let m = module_at r.place.over is r.over (subst (λ (ids : List ℕ). Stage r.place.over ids is) none f.stage) in
      record {
        stands = f.framed.stands;
        ends = f.ids ∙ none;
        at = m.0;
        module_block = m.1;
        lies = f.framed.lies;
        rises = f.framed.rises;
        few_items = omega (arith, f.room, f.within, small, r.few.records_few);
        few_records = r.few.records_few;
        few_fields = omega (arith, r.few.fields_few);
      }
