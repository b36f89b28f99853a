-- What BLOCKINFO gives to blocks.
use Rattle.std.proofs.Common.{ap, refl, sym, ◌∙◌, subst, ℕ, ◌≡◌, ◌+◌, List, [], ◌∷◌, ◌++◌, length, take, map, filter, arith, append-nil, length-append, append_assoc, Bool, true, false, if◌then◌else◌, Some, None, Option}
use Rattle.std.specs.Prelude.{eqb}
use Rattle.std.proofs.lemmas.Bool.Decides.{nat_tests}
use Rattle.std.proofs.lemmas.List.{take-append-le, map-append}
use Rattle.std.proofs.lemmas.List.Elements.{filter-append}
use Rattle.bitstream_spelling.specs.Layout.{Abbreviation}
use Rattle.bitstream_spelling.specs.Spelling.{Block, Place, given_to, defined}
use Rattle.dx_bitstream.specs.Given.{given_of, IsGivenTo}
use Rattle.dx_bitstream.specs.Kinds.{number, NoKind}
use Rattle.dx_bitstream.specs.Places.{given_in, IsBlockOf, AreBlocksOf, IsGivenOf, IsPlaceOf}
use Rattle.dx_bitstream.specs.Defining.{IsFiled}
use Rattle.dx_bitstream.specs.declared.info.Info.{Info}
use Rattle.dx_bitstream.specs.declared.kind.BlockKind.{BlockKind}
use Rattle.dx_bitstream.specs.declared.reader.Open.{Open}
use Rattle.dx_bitstream.proofs.KindLaws.{same_kind}

eqb_is : (a b : ℕ) → eqb a b ≡ true → a ≡ b
eqb_is a b e = grind (arith, nat_tests)

eqb_of : (a b : ℕ) → a ≡ b → eqb a b ≡ true
eqb_of a b e = grind (arith, nat_tests)

eqb_not : (a b : ℕ) → eqb a b ≡ false → a ≡ b → ⊥
eqb_not a b e h = let t : eqb a b ≡ true = eqb_of a b h in absurd (cc)

-- what one more definition gives to an id
given_more : (n : ℕ) (given : List (ℕ × Abbreviation)) (id : ℕ) (ops : Abbreviation) → given_to n (given ++ (id, ops) ∷ []) ≡ given_to n given ++ (if eqb id n then ops ∷ [] else [])
given_more n given id ops =
    ap (λ (xs : List (ℕ × Abbreviation)). map (λ g. g.1) xs) (filter-append (λ (g : ℕ × Abbreviation). eqb g.0 n) given ((id, ops) ∷ []))
    ∙ map-append (λ (g : ℕ × Abbreviation). g.1) (filter (λ (g : ℕ × Abbreviation). eqb g.0 n) given) (filter (λ (g : ℕ × Abbreviation). eqb g.0 n) ((id, ops) ∷ []))
    ∙ ap (λ (xs : List Abbreviation). given_to n given ++ xs) (one (eqb id n) refl) where
      one : (b : Bool) → eqb id n ≡ b → map (λ (g : ℕ × Abbreviation). g.1) (filter (λ (g : ℕ × Abbreviation). eqb g.0 n) ((id, ops) ∷ [])) ≡ (if eqb id n then ops ∷ [] else [])
      one true e = rw e refl
      one false e = rw e refl

given_same : (n : ℕ) (given : List (ℕ × Abbreviation)) (id : ℕ) (ops : Abbreviation) → eqb id n ≡ true → given_to n (given ++ (id, ops) ∷ []) ≡ given_to n given ++ ops ∷ []
given_same n given id ops e = given_more n given id ops ∙ ap (λ (b : Bool). given_to n given ++ (if b then ops ∷ [] else [])) e

given_other : (n : ℕ) (given : List (ℕ × Abbreviation)) (id : ℕ) (ops : Abbreviation) → eqb id n ≡ false → given_to n (given ++ (id, ops) ∷ []) ≡ given_to n given
given_other n given id ops e = given_more n given id ops ∙ ap (λ (b : Bool). given_to n given ++ (if b then ops ∷ [] else [])) e ∙ append-nil (given_to n given)

module _ (g new : Info) (kind : BlockKind) (ops : Abbreviation) (t : IsGivenTo g new kind ops) where
  -- what was given stays in front
  grown : (k : BlockKind) → (rest : List Abbreviation) × (given_of new k ≡ given_of g k ++ rest)
  grown k = by_test (eqb (number k) (number kind)) refl where
    by_test : (b : Bool) → eqb (number k) (number kind) ≡ b → (rest : List Abbreviation) × (given_of new k ≡ given_of g k ++ rest)
    by_test true e = let same = same_kind k kind (eqb_is (number k) (number kind) e) in (ops ∷ [], subst (λ (j : BlockKind). given_of new j ≡ given_of g j ++ ops ∷ []) (sym same) t.more)
    by_test false e = ([], t.others k (λ h. eqb_not (number k) (number kind) e (ap number h)) ∙ sym (append-nil (given_of g k)))

  grown_in : (o : Option BlockKind) → (rest : List Abbreviation) × (given_in new o ≡ given_in g o ++ rest)
  grown_in None = ([], refl)
  grown_in (Some k) = grown k

  block_grown : (o : Open) (b : Block) → IsBlockOf g o b → IsBlockOf new o b
  block_grown o b i =
      let more = grown_in o.kind in
      record {
        id = i.id;
        width = i.width;
        enough = omega (arith, i.enough, ap length more.1, length-append (given_in g o.kind) more.0);
        forms = i.forms ∙ ap (λ (xs : List Abbreviation). xs ++ o.own) (sym (ap (λ (xs : List Abbreviation). take o.given xs) more.1 ∙ take-append-le o.given (given_in g o.kind) more.0 i.enough));
        named = i.named;
        words = i.words;
        bit = i.bit;
        content = i.content;
        low = i.low;
        high = i.high;
        room = i.room;
      }

  blocks_grown : (os : List Open) (bs : List Block) → AreBlocksOf g os bs → AreBlocksOf new os bs
  blocks_grown [] [] h = tt
  blocks_grown [] (b ∷ bs) h = absurd h
  blocks_grown (o ∷ os) [] h = absurd h
  blocks_grown (o ∷ os) (b ∷ bs) h = (block_grown o b h.0, blocks_grown os bs h.1)

  given_grown : (given : List (ℕ × Abbreviation)) → IsGivenOf g given → IsGivenOf new (given ++ (number kind, ops) ∷ [])
  given_grown given i = record { is = at_kind } where
    at_kind : (k : BlockKind) → given_of new k ≡ given_to (number k) (given ++ (number kind, ops) ∷ [])
    at_kind k = by_test (eqb (number kind) (number k)) refl where
      by_test : (b : Bool) → eqb (number kind) (number k) ≡ b → given_of new k ≡ given_to (number k) (given ++ (number kind, ops) ∷ [])
      by_test true e =
          let same = same_kind kind k (eqb_is (number kind) (number k) e) in
          subst (λ (j : BlockKind). given_of new j ≡ given_of g j ++ ops ∷ []) same t.more ∙ ap (λ (xs : List Abbreviation). xs ++ ops ∷ []) (i.is k) ∙ sym (given_same (number k) given (number kind) ops e)
      by_test false e = t.others k (λ h. eqb_not (number kind) (number k) e (ap number (sym h))) ∙ i.is k ∙ sym (given_other (number k) given (number kind) ops e)

-- an abbreviation for a block that is read nowhere changes nothing
given_nowhere : (g : Info) (given : List (ℕ × Abbreviation)) (id : ℕ) (ops : Abbreviation) → NoKind id → IsGivenOf g given → IsGivenOf g (given ++ (id, ops) ∷ [])
given_nowhere g given id ops n i = record { is = λ k. i.is k ∙ sym (given_other (number k) given id ops (other k (eqb id (number k)) refl)) } where
  other : (k : BlockKind) (b : Bool) → eqb id (number k) ≡ b → b ≡ false
  other k true e = absurd (n.none k (sym (eqb_is id (number k) e)))
  other k false e = refl

-- where the definition of a place belongs
abbrev with_named : Place → Abbreviation → ℕ → Option ℕ → Place
with_named p ops after o = elim o as (λ _. Place) [
  | Some id ↦ record p { at = after; given = p.given ++ (id, ops) ∷ []; operands = p.operands + length ops }
  | None ↦ record p { at = after; here = record p.here { forms = p.here.forms ++ ops ∷ [] }; operands = p.operands + length ops }
]

defined_given : (p : Place) (ops : Abbreviation) (after id : ℕ) → p.here.named ≡ Some id → defined p ops after ≡ record p { at = after; given = p.given ++ (id, ops) ∷ []; operands = p.operands + length ops }
defined_given p ops after id e = ap (with_named p ops after) e

defined_own : (p : Place) (ops : Abbreviation) (after : ℕ) → p.here.named ≡ None → defined p ops after ≡ record p { at = after; here = record p.here { forms = p.here.forms ++ ops ∷ [] }; operands = p.operands + length ops }
defined_own p ops after e = ap (with_named p ops after) e

pub defined_same : (p : Place) (ops : Abbreviation) (after : ℕ) → ((defined p ops after).at ≡ after) × ((defined p ops after).operands ≡ p.operands + length ops) × ((defined p ops after).over ≡ p.over)
defined_same p ops after = cases p.here.named where
  cases : (o : Option ℕ) → ((with_named p ops after o).at ≡ after) × ((with_named p ops after o).operands ≡ p.operands + length ops) × ((with_named p ops after o).over ≡ p.over)
  cases None = (refl, refl, refl)
  cases (Some id) = (refl, refl, refl)

pub filed_given : (g new : Info) (o : Open) (ops : Abbreviation) (kind : BlockKind) (id : ℕ) → o.named ≡ Some id → number kind ≡ id → IsGivenTo g new kind ops → IsFiled g o ops new o
filed_given g new o ops kind id e k t = record { width = refl; content = refl; filed = filed } where
  filed : (p : Place) (os : List Open) (after : ℕ) → IsPlaceOf g o os p → IsPlaceOf new o os (defined p ops after)
  filed p os after i = subst (λ (q : Place). IsPlaceOf new o os q) (sym (defined_given p ops after id (i.here.named ∙ e))) (record {
    here = block_grown g new kind ops t o p.here i.here;
    around = blocks_grown g new kind ops t os p.around i.around;
    given = subst (λ (n : ℕ). IsGivenOf new (p.given ++ (n, ops) ∷ [])) k (given_grown g new kind ops t p.given i.given);
  })

pub filed_nowhere : (g : Info) (o : Open) (ops : Abbreviation) (id : ℕ) → o.named ≡ Some id → NoKind id → IsFiled g o ops g o
filed_nowhere g o ops id e n = record { width = refl; content = refl; filed = filed } where
  filed : (p : Place) (os : List Open) (after : ℕ) → IsPlaceOf g o os p → IsPlaceOf g o os (defined p ops after)
  filed p os after i = subst (λ (q : Place). IsPlaceOf g o os q) (sym (defined_given p ops after id (i.here.named ∙ e))) (record { here = i.here; around = i.around; given = given_nowhere g p.given id ops n i.given })

pub filed_own : (g : Info) (o new : Open) (ops : Abbreviation) → o.named ≡ None → new ≡ record o { own = o.own ++ ops ∷ [] } → IsFiled g o ops g new
filed_own g o new ops e s = record { width = ap (λ (x : Open). x.width) s; content = ap (λ (x : Open). x.content) s; filed = filed } where
  filed : (p : Place) (os : List Open) (after : ℕ) → IsPlaceOf g o os p → IsPlaceOf g new os (defined p ops after)
  filed p os after i = subst (λ (q : Place). IsPlaceOf g new os q) (sym (defined_own p ops after (i.here.named ∙ e))) (subst (λ (x : Open). IsPlaceOf g x os (record p { at = after; here = record p.here { forms = p.here.forms ++ ops ∷ [] }; operands = p.operands + length ops })) (sym s) (record {
    here = record {
      id = i.here.id;
      width = i.here.width;
      enough = i.here.enough;
      forms = ap (λ (xs : List Abbreviation). xs ++ ops ∷ []) i.here.forms ∙ append_assoc (take o.given (given_in g o.kind)) o.own (ops ∷ []);
      named = i.here.named;
      words = i.here.words;
      bit = i.here.bit;
      content = i.here.content;
      low = i.here.low;
      high = i.here.high;
      room = i.here.room;
    };
    around = i.around;
    given = i.given;
  }))
