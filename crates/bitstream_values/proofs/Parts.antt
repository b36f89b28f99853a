-- The values of a record, operand by operand.
use Rattle.std.proofs.Common.{get_or, drop, inl, inr, ap, refl, sym, ◌∙◌, subst, ℕ, suc, ◌≡◌, ◌+◌, ◌<◌, ◌≤◌, List, [], ◌∷◌, ◌++◌, length, arith, append_assoc, Result, Ok, Err}
use Rattle.std.proofs.Math.Seq.{drop-cons}
use Rattle.std.proofs.Math.ListN.{drop_of_length-le}
use Rattle.std.proofs.lemmas.Bool.{cases_lt}
use Rattle.dx_base.specs.Cursor.{Cursor, moved}
use Rattle.bitstream_spelling.specs.Layout.{Abbreviation, IsValue, AreSpelled}
use Rattle.bitstream_spelling.specs.Rules.{IsScalar, IsPlainOperand, AreSound, counted}
use Rattle.bitstream_spelling.specs.declared.operand.Operand.{Operand}
use Rattle.bitstream_spelling.specs.declared.operand.Operand.TheVariants.{Literal, Fixed, Vbr, Array, Char6, Blob, Faulty}
use Rattle.bitstream_spelling.proofs.Unique.{value_unique}
use Rattle.bitstream_spelling.proofs.Forward.{spelled_forward}
use Rattle.bitstream_values.specs.Numbers.{NoValue, ValueAnswer}
use Rattle.bitstream_values.specs.Rows.{Adds, IsSpelled, NoneSpelled, SpelledAnswer, IsOne, OneAnswer, AddAnswer, IsPart}
use Rattle.bitstream_values.specs.declared.number.Seen.TheVariants.{Small, Large}
use Rattle.bitstream_values.specs.declared.row.Row.{Row}
use Rattle.bitstream_values.specs.declared.row.Row.TheVariants.{Wide}
use Rattle.bitstream_values.specs.declared.row.Stop.{Stop}
use Rattle.bitstream_values.specs.declared.row.Stop.TheVariants.{Ends, OutOfMemory}
use Rattle.bitstream_values.proofs.Taking.{adds_nothing, adds_more, adds_large}

-- what follows an array, a blob or another operand
pub sound_array : (rest : Abbreviation) → AreSound (Array ∷ rest) → (e : Operand) × (rest ≡ e ∷ []) × IsScalar e
sound_array [] h = absurd h.0
sound_array (e ∷ []) h = (e, refl, h)
sound_array (e ∷ x ∷ xs) h = absurd h.0

pub sound_blob : (rest : Abbreviation) → AreSound (Blob ∷ rest) → rest ≡ []
sound_blob [] h = refl
sound_blob (x ∷ xs) h = absurd h.0

pub sound_plain : (op : Operand) (rest : Abbreviation) → (op ≡ Array → ⊥) → (op ≡ Blob → ⊥) → AreSound (op ∷ rest) → IsPlainOperand op × AreSound rest
sound_plain (Literal n) rest a b h = h
sound_plain (Fixed n) rest a b h = h
sound_plain (Vbr n) rest a b h = h
sound_plain Char6 rest a b h = h
sound_plain Faulty rest a b h = h
sound_plain Array rest a b h = absurd (a refl)
sound_plain Blob rest a b h = absurd (b refl)

module _ (bytes : List ℕ) (start : ℕ) where
  pub spelled_cons : (op : Operand) (ops : Abbreviation) → IsPlainOperand op → (i v next : ℕ) (more : List ℕ) (after : ℕ) → IsValue bytes start op i v next → AreSpelled bytes start ops next more after → AreSpelled bytes start (op ∷ ops) i (v ∷ more) after
  spelled_cons (Literal n) ops p i v next more after a b = (v, next, more, a, b, refl)
  spelled_cons (Fixed n) ops p i v next more after a b = (v, next, more, a, b, refl)
  spelled_cons (Vbr n) ops p i v next more after a b = (v, next, more, a, b, refl)
  spelled_cons Char6 ops p i v next more after a b = (v, next, more, a, b, refl)
  spelled_cons Array ops p i v next more after a b = absurd p
  spelled_cons Blob ops p i v next more after a b = absurd p
  spelled_cons Faulty ops p i v next more after a b = absurd p

  pub spelled_uncons : (op : Operand) (ops : Abbreviation) → IsPlainOperand op → (i : ℕ) (all : List ℕ) (after : ℕ) → AreSpelled bytes start (op ∷ ops) i all after
      → (v next : ℕ) × (more : List ℕ) × IsValue bytes start op i v next × AreSpelled bytes start ops next more after × (all ≡ v ∷ more)
  spelled_uncons (Literal n) ops p i all after h = h
  spelled_uncons (Fixed n) ops p i all after h = h
  spelled_uncons (Vbr n) ops p i all after h = h
  spelled_uncons Char6 ops p i all after h = h
  spelled_uncons Array ops p i all after h = absurd p
  spelled_uncons Blob ops p i all after h = absurd p
  spelled_uncons Faulty ops p i all after h = absurd p

pub counted_cons : (op : Operand) (ops : Abbreviation) → IsPlainOperand op → (v : ℕ) (more : List ℕ) → counted (op ∷ ops) (v ∷ more) ≡ counted ops more
counted_cons (Literal n) ops p v more = refl
counted_cons (Fixed n) ops p v more = refl
counted_cons (Vbr n) ops p v more = refl
counted_cons Char6 ops p v more = refl
counted_cons Array ops p v more = absurd p
counted_cons Blob ops p v more = absurd p
counted_cons Faulty ops p v more = absurd p

-- one value
pub one_of : (r : Result Row Stop) (old new : Cursor) (op : Operand) (n most : ℕ) (row : Row) (fields new_fields : List ℕ) → ValueAnswer (Small n) old new op → AddAnswer r most row fields new_fields n → OneAnswer r old new op most row fields new_fields
one_of (Ok new_row) old new op n most row fields new_fields v a =
    let place : new.place ≡ v.0 = ap (λ (c : Cursor). c.place) v.3 in
    record {
      value = n;
      is = subst (λ p. IsValue old.bytes old.start op old.place n p) (sym place) v.1;
      adds = a;
      moves = v.3 ∙ ap (λ p. moved old p) (sym place);
      within = omega (arith, place, v.2);
    }
one_of (Err Ends) old new op n most row fields new_fields v a = absurd a
one_of (Err OutOfMemory) old new op n most row fields new_fields v a = tt

pub one_large : (old new : Cursor) (op : Operand) (most : ℕ) (row : Row) (fields : List ℕ) → ValueAnswer Large old new op → IsOne old new op most row Wide fields fields
one_large old new op most row fields v =
    let place : new.place ≡ v.0 = ap (λ (c : Cursor). c.place) v.4 in
    record {
      value = v.1;
      is = subst (λ p. IsValue old.bytes old.start op old.place v.1 p) (sym place) v.2;
      adds = adds_large most row fields v.1 v.5;
      moves = v.4 ∙ ap (λ p. moved old p) (sym place);
      within = omega (arith, place, v.3);
    }

pub part_first : (c : Cursor) (ops : Abbreviation) (most : ℕ) (row : Row) (fields : List ℕ) → AreSound ops → c.place ≤ c.end → IsPart c c ops ops most row row fields fields
part_first c ops most row fields sound h = record {
  values = [];
  joins = λ more after s. s;
  splits = λ all after s. (all, refl, s);
  counts = λ more. refl;
  sound = sound;
  adds = adds_nothing most row fields;
  moves = refl;
  within = h;
}

pub part_more : (old mid new : Cursor) (ops : Abbreviation) (op : Operand) (rest : Abbreviation) (most : ℕ) (row mid_row new_row : Row) (fields mid_fields new_fields : List ℕ) → IsPart old mid ops (op ∷ rest) most row mid_row fields mid_fields
    → IsPlainOperand op → AreSound rest → IsOne mid new op most mid_row new_row mid_fields new_fields → IsPart old new ops rest most row new_row fields new_fields
part_more old mid new ops op rest most row mid_row new_row fields mid_fields new_fields p plain sound o = record {
  values = p.values ++ o.value ∷ [];
  joins = λ more after s.
      let here : AreSpelled mid.bytes mid.start rest new.place more after = subst (λ (c : Cursor). AreSpelled c.bytes c.start rest new.place more after) o.moves s in
      let whole = p.joins (o.value ∷ more) after (spelled_cons mid.bytes mid.start op rest plain mid.place o.value new.place more after o.is here) in
      subst (λ vs. AreSpelled old.bytes old.start ops old.place vs after) (sym (append_assoc p.values (o.value ∷ []) more)) whole;
  splits = λ all after s.
      let x = p.splits all after s in
      let y = spelled_uncons mid.bytes mid.start op rest plain mid.place x.0 after x.2 in
      let u = value_unique mid.bytes mid.start op mid.place y.0 o.value y.1 new.place y.3 o.is in
      let here : AreSpelled mid.bytes mid.start rest new.place y.2 after = subst (λ n. AreSpelled mid.bytes mid.start rest n y.2 after) u.1 y.4 in
      let same : x.0 ≡ o.value ∷ y.2 = y.5 ∙ ap (λ v. v ∷ y.2) u.0 in (
        y.2,
        x.1 ∙ ap (λ vs. p.values ++ vs) same ∙ sym (append_assoc p.values (o.value ∷ []) y.2),
        subst (λ (c : Cursor). AreSpelled c.bytes c.start rest new.place y.2 after) (sym o.moves) here,
      );
  counts = λ more. ap (λ vs. counted ops vs) (append_assoc p.values (o.value ∷ []) more) ∙ p.counts (o.value ∷ more) ∙ counted_cons op rest plain o.value more;
  sound = sound;
  adds = adds_more most row mid_row new_row fields mid_fields new_fields p.values (o.value ∷ []) 0 p.adds o.adds;
  moves = o.moves ∙ ap (λ (c : Cursor). moved c new.place) p.moves;
  within = omega (arith, o.within, ap (λ (c : Cursor). c.end) p.moves);
}

-- where the next value passes the end, so do all
pub no_part : (old mid : Cursor) (ops : Abbreviation) (op : Operand) (rest : Abbreviation) (most : ℕ) (row mid_row : Row) (fields mid_fields : List ℕ) → IsPart old mid ops (op ∷ rest) most row mid_row fields mid_fields → IsPlainOperand op → NoValue mid op
    → NoneSpelled old ops
no_part old mid ops op rest most row mid_row fields mid_fields p plain h = record {
  none = λ values after s.
      let x = p.splits values after s in
      let y = spelled_uncons mid.bytes mid.start op rest plain mid.place x.0 after x.2 in
      omega (arith, h.none y.0 y.1 y.3, spelled_forward mid.bytes mid.start rest y.1 y.2 after y.4, ap (λ (c : Cursor). c.end) p.moves);
}

-- the rest of the operands is taken at once
pub part_last : (r : Result Row Stop) (old mid new : Cursor) (ops rest : Abbreviation) (most : ℕ) (row mid_row : Row) (fields mid_fields new_fields : List ℕ) → IsPart old mid ops rest most row mid_row fields mid_fields
    → SpelledAnswer r mid new rest most mid_row mid_fields new_fields → SpelledAnswer r old new ops most row fields new_fields
part_last (Ok new_row) old mid new ops rest most row mid_row fields mid_fields new_fields p s = record {
  values = p.values ++ s.values;
  lays = p.joins s.values new.place s.lays;
  adds = subst (λ n. Adds most row new_row fields new_fields (p.values ++ s.values) n) (sym (p.counts s.values)) (adds_more most row mid_row new_row fields mid_fields new_fields p.values s.values (counted rest s.values) p.adds s.adds);
  moves = s.moves ∙ ap (λ (c : Cursor). moved c new.place) p.moves;
  within = omega (arith, s.within, ap (λ (c : Cursor). c.end) p.moves);
}
part_last (Err Ends) old mid new ops rest most row mid_row fields mid_fields new_fields p s = record {
  none = λ values after x. let y = p.splits values after x in omega (arith, s.none y.0 after y.2, ap (λ (c : Cursor). c.end) p.moves);
}
part_last (Err OutOfMemory) old mid new ops rest most row mid_row fields mid_fields new_fields p s = tt

pub part_whole : (old mid : Cursor) (ops rest : Abbreviation) (most : ℕ) (row mid_row : Row) (fields mid_fields : List ℕ) → rest ≡ [] → IsPart old mid ops rest most row mid_row fields mid_fields → IsSpelled old mid ops most row mid_row fields mid_fields
part_whole old mid ops rest most row mid_row fields mid_fields e p =
    let q : IsPart old mid ops [] most row mid_row fields mid_fields = subst (λ (r : Abbreviation). IsPart old mid ops r most row mid_row fields mid_fields) e p in
    part_last (Ok mid_row) old mid mid ops [] most row mid_row fields mid_fields mid_fields q
    (record { values = []; lays = (refl, refl); adds = adds_nothing most mid_row mid_fields; moves = refl; within = omega (arith, q.within, ap (λ (c : Cursor). c.end) q.moves) })

pub part_within : (old mid : Cursor) (ops rest : Abbreviation) (most : ℕ) (row mid_row : Row) (fields mid_fields : List ℕ) → IsPart old mid ops rest most row mid_row fields mid_fields → (mid.place ≤ mid.end) × (mid.end ≡ old.end)
part_within old mid ops rest most row mid_row fields mid_fields p = (omega (arith, p.within, ap (λ (c : Cursor). c.end) p.moves), ap (λ (c : Cursor). c.end) p.moves)

-- The rest of the operands from a place on.
tail_at : (ops : Abbreviation) (i : ℕ) (op : Operand) → i < length ops → get_or ops i (Literal 0) ≡ op → drop i ops ≡ op ∷ drop (i + 1) ops
tail_at ops i op low e =
    let one : suc i ≡ i + 1 = omega arith in
    drop-cons ops i (Literal 0) low ∙ ap (λ o. o ∷ drop (suc i) ops) e ∙ ap (λ k. op ∷ drop k ops) one

only_at : (ops : Abbreviation) (i : ℕ) (e : Operand) → drop i ops ≡ e ∷ [] → get_or ops i (Literal 0) ≡ e
only_at ops i e h = elim (cases_lt i (length ops)) [
  | inl low ↦ let c : get_or ops i (Literal 0) ∷ drop (suc i) ops ≡ e ∷ [] = sym (drop-cons ops i (Literal 0) low) ∙ h in cc
  | inr high ↦ let none : [] ≡ e ∷ [] = sym (drop_of_length-le ops high) ∙ h in absurd (cc)
]

pub part_array : (r : Result Row Stop) (old mid new : Cursor) (ops : Abbreviation) (i most : ℕ) (row mid_row : Row) (fields mid_fields new_fields : List ℕ) → IsPart old mid ops (drop i ops) most row mid_row fields mid_fields → i < length ops
    → get_or ops i (Literal 0) ≡ Array → SpelledAnswer r mid new (Array ∷ get_or ops (i + 1) (Literal 0) ∷ []) most mid_row mid_fields new_fields → SpelledAnswer r old new ops most row fields new_fields
part_array r old mid new ops i most row mid_row fields mid_fields new_fields p low is s =
    let tail = tail_at ops i Array low is in
    let x = sound_array (drop (i + 1) ops) (subst AreSound tail p.sound) in
    let element : get_or ops (i + 1) (Literal 0) ≡ x.0 = only_at ops (i + 1) x.0 x.1 in
    let rest : drop i ops ≡ Array ∷ get_or ops (i + 1) (Literal 0) ∷ [] = tail ∙ ap (λ (t : Abbreviation). Array ∷ t) (x.1 ∙ ap (λ (o : Operand). o ∷ []) (sym element)) in
    part_last r old mid new ops (drop i ops) most row mid_row fields mid_fields new_fields p (subst (λ (t : Abbreviation). SpelledAnswer r mid new t most mid_row mid_fields new_fields) (sym rest) s)

pub part_blob : (r : Result Row Stop) (old mid new : Cursor) (ops : Abbreviation) (i most : ℕ) (row mid_row : Row) (fields mid_fields new_fields : List ℕ) → IsPart old mid ops (drop i ops) most row mid_row fields mid_fields → i < length ops
    → get_or ops i (Literal 0) ≡ Blob → SpelledAnswer r mid new (Blob ∷ []) most mid_row mid_fields new_fields → SpelledAnswer r old new ops most row fields new_fields
part_blob r old mid new ops i most row mid_row fields mid_fields new_fields p low is s =
    let tail = tail_at ops i Blob low is in
    let rest : drop i ops ≡ Blob ∷ [] = tail ∙ ap (λ (t : Abbreviation). Blob ∷ t) (sound_blob (drop (i + 1) ops) (subst AreSound tail p.sound)) in
    part_last r old mid new ops (drop i ops) most row mid_row fields mid_fields new_fields p (subst (λ (t : Abbreviation). SpelledAnswer r mid new t most mid_row mid_fields new_fields) (sym rest) s)

-- an operand of one value
module _ (old mid new : Cursor) (ops : Abbreviation) (i : ℕ) (op : Operand) (most : ℕ) (row mid_row : Row) (fields mid_fields : List ℕ) (p : IsPart old mid ops (drop i ops) most row mid_row fields mid_fields) (low : i < length ops)
    (is : get_or ops i (Literal 0) ≡ op) (array : get_or ops i (Literal 0) ≡ Array → ⊥) (blob : get_or ops i (Literal 0) ≡ Blob → ⊥) where
  here : IsPart old mid ops (op ∷ drop (i + 1) ops) most row mid_row fields mid_fields
  here = subst (λ (t : Abbreviation). IsPart old mid ops t most row mid_row fields mid_fields) (tail_at ops i op low is) p

  both : IsPlainOperand op × AreSound (drop (i + 1) ops)
  both = sound_plain op (drop (i + 1) ops) (λ e. array (is ∙ e)) (λ e. blob (is ∙ e)) here.sound

  pub part_plain : IsPlainOperand op
  part_plain = both.0

  pub part_one : (new_row : Row) (new_fields : List ℕ) → IsOne mid new op most mid_row new_row mid_fields new_fields → IsPart old new ops (drop (i + 1) ops) most row new_row fields new_fields
  part_one new_row new_fields o = part_more old mid new ops op (drop (i + 1) ops) most row mid_row new_row fields mid_fields new_fields here both.0 both.1 o

  pub part_failed : (stop : Stop) (new_fields : List ℕ) → OneAnswer (Err stop) mid new op most mid_row mid_fields new_fields → SpelledAnswer (Err stop) old new ops most row fields new_fields
  part_failed Ends new_fields h = no_part old mid ops op (drop (i + 1) ops) most row mid_row fields mid_fields here both.0 h
  part_failed OutOfMemory new_fields h = tt

pub part_end : (old mid : Cursor) (ops : Abbreviation) (i most : ℕ) (row mid_row : Row) (fields mid_fields : List ℕ) → length ops ≤ i → IsPart old mid ops (drop i ops) most row mid_row fields mid_fields → IsSpelled old mid ops most row mid_row fields mid_fields
part_end old mid ops i most row mid_row fields mid_fields h p = part_whole old mid ops (drop i ops) most row mid_row fields mid_fields (drop_of_length-le ops h) p
