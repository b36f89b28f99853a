-- Records that are read to their end.
use Rattle.std.proofs.Common.{ap, refl, sym, ◌∙◌, subst, ℕ, zero, suc, ◌≡◌, ◌<◌, ◌≤◌, ◌^◌, inr, List, [], ◌∷◌, length, arith, append-nil, get_or, drop, Result, Ok, Err}
use Rattle.dx_base.specs.Bits.{IsVbr}
use Rattle.dx_base.specs.Cursor.{Cursor, moved, NoVbr}
use Rattle.dx_base.proofs.VbrLaws.{vbr_unique, vbr_takes}
use Rattle.bitstream_spelling.specs.Layout.{Abbreviation, IsValue, AreValues, AreCounted, AreSpelled}
use Rattle.bitstream_spelling.specs.Rules.{IsSound, IsPlainOperand, IsScalar, counted}
use Rattle.bitstream_spelling.specs.declared.operand.Operand.{Operand}
use Rattle.bitstream_spelling.specs.declared.operand.Operand.TheVariants.{Literal, Vbr}
use Rattle.bitstream_spelling.proofs.Unique.{value_unique}
use Rattle.bitstream_spelling.proofs.Forward.{row_forward, spelled_forward}
use Rattle.bitstream_values.specs.Numbers.{SeenAnswer, NoValue, ValueAnswer}
use Rattle.bitstream_values.specs.Rows.{IsRow, Adds, RowAnswer, IsSpelled, NoneSpelled, SpelledAnswer, TakesNothing}
use Rattle.bitstream_values.specs.Records.{IsCoded, IsRecord, RecordAnswer, AreFields, NoFields, FieldsAnswer, IsPlainRecord, NoPlain, PlainAnswer}
use Rattle.bitstream_values.specs.declared.number.Seen.TheVariants.{Small, Large}
use Rattle.bitstream_values.specs.declared.row.Row.{Row}
use Rattle.bitstream_values.specs.declared.row.Row.TheVariants.{Taken, Wide, Many}
use Rattle.bitstream_values.specs.declared.row.Stop.{Stop}
use Rattle.bitstream_values.specs.declared.row.Stop.TheVariants.{Ends, OutOfMemory}
use Rattle.bitstream_values.proofs.Arrays.{small_cons, row_long, adds_counted}
use Rattle.bitstream_values.proofs.Parts.{spelled_cons, spelled_uncons, counted_cons}

-- a small code before the fields
coded_small : (row : Row) (most : ℕ) (fields new_fields rest : List ℕ) (v n : ℕ) → v < 2 ^ 64 → length fields ≤ most → Adds most Taken row fields new_fields rest n → IsCoded row v most fields new_fields (v ∷ rest) n
coded_small row most fields new_fields rest v n h few a = cases row (a.adds fields [] ((λ k d low. absurd (omega arith)), omega arith, sym (append-nil fields), few)) where
  cases : (r : Row) → IsRow r most fields new_fields rest n → IsCoded r v most fields new_fields (v ∷ rest) n
  cases Taken x = (refl, small_cons v rest h x.0, x.1, x.2, x.3)
  cases Many x = (refl, small_cons v rest h x.0, x.1, x.2)
  cases Wide x = λ all small. x (λ k d low. all (suc k) d (omega (arith, low))) small

coded_large : (most : ℕ) (fields new_fields rest : List ℕ) (v n : ℕ) → 2 ^ 64 ≤ v → IsCoded Wide 0 most fields new_fields (v ∷ rest) n
coded_large most fields new_fields rest v n h = λ all small. absurd (omega (arith, h, all zero 0 (omega arith)))

-- records by an abbreviation
module _ (old mid new : Cursor) (op : Operand) (ops : Abbreviation) (plain : IsPlainOperand op) (v after most : ℕ) (is : IsValue old.bytes old.start op old.place v after) (moves : mid ≡ moved old after) where
  record_made : (row mid_row new_row : Row) (code : ℕ) (fields new_fields : List ℕ) (s : IsSpelled mid new ops most mid_row new_row fields new_fields) → IsCoded row code most fields new_fields (v ∷ s.values) (counted ops s.values)
      → IsRecord old new (op ∷ ops) most (record { code = code; row = row }) fields new_fields
  record_made row mid_row new_row code fields new_fields s coded =
      let rest : AreSpelled old.bytes old.start ops after s.values new.place = subst (λ (c : Cursor). AreSpelled c.bytes c.start ops c.place s.values new.place) moves s.lays in
      record {
        values = v ∷ s.values;
        lays = spelled_cons old.bytes old.start op ops plain old.place v after s.values new.place is rest;
        is = subst (λ n. IsCoded row code most fields new_fields (v ∷ s.values) n) (sym (counted_cons op ops plain v s.values)) coded;
        moves = s.moves ∙ ap (λ (c : Cursor). moved c new.place) moves;
        within = omega (arith, s.within, ap (λ (c : Cursor). c.end) moves);
      }

  record_failed : (stop : Stop) (mid_row : Row) (fields new_fields : List ℕ) → SpelledAnswer (Err stop) mid new ops most mid_row fields new_fields → RecordAnswer (Err stop) old new (op ∷ ops) most fields new_fields
  record_failed Ends mid_row fields new_fields h = record {
    none = λ values ends s.
        let y = spelled_uncons old.bytes old.start op ops plain old.place values ends s in
        let u = value_unique old.bytes old.start op old.place y.0 v y.1 after y.3 is in
        let here : AreSpelled old.bytes old.start ops after y.2 ends = subst (λ n. AreSpelled old.bytes old.start ops n y.2 ends) u.1 y.4 in
        let there : AreSpelled mid.bytes mid.start ops mid.place y.2 ends = subst (λ (c : Cursor). AreSpelled c.bytes c.start ops c.place y.2 ends) (sym moves) here in
        omega (arith, h.none y.2 ends there, ap (λ (c : Cursor). c.end) moves);
  }
  record_failed OutOfMemory mid_row fields new_fields h = tt

pub record_small : (old mid new : Cursor) (ops : Abbreviation) (v most : ℕ) (row : Row) (fields new_fields : List ℕ) → IsSound ops → length fields ≤ most → ValueAnswer (Small v) old mid (get_or ops 0 (Literal 0))
    → IsSpelled mid new (drop 1 ops) most Taken row fields new_fields → IsRecord old new ops most (record { code = v; row = row }) fields new_fields
record_small old mid new [] v most row fields new_fields sound few a s = absurd sound
record_small old mid new (op ∷ ops) v most row fields new_fields sound few a s =
    record_made old mid new op ops sound.0 v a.0 most a.1 a.3 row Taken row v fields new_fields s (coded_small row most fields new_fields s.values v (counted ops s.values) a.4 few s.adds)

pub record_large : (old mid new : Cursor) (ops : Abbreviation) (most : ℕ) (row : Row) (fields new_fields : List ℕ) → IsSound ops → ValueAnswer Large old mid (get_or ops 0 (Literal 0)) → IsSpelled mid new (drop 1 ops) most Wide row fields new_fields
    → IsRecord old new ops most (record { code = 0; row = Wide }) fields new_fields
record_large old mid new [] most row fields new_fields sound a s = absurd sound
record_large old mid new (op ∷ ops) most row fields new_fields sound a s =
    record_made old mid new op ops sound.0 a.1 a.0 most a.2 a.4 Wide Wide row 0 fields new_fields s (coded_large most fields new_fields s.values a.1 (counted ops s.values) a.5)

pub record_small_failed : (old mid new : Cursor) (ops : Abbreviation) (v most : ℕ) (stop : Stop) (row : Row) (fields new_fields : List ℕ) → IsSound ops → ValueAnswer (Small v) old mid (get_or ops 0 (Literal 0))
    → SpelledAnswer (Err stop) mid new (drop 1 ops) most row fields new_fields → RecordAnswer (Err stop) old new ops most fields new_fields
record_small_failed old mid new [] v most stop row fields new_fields sound a h = absurd sound
record_small_failed old mid new (op ∷ ops) v most stop row fields new_fields sound a h = record_failed old mid new op ops sound.0 v a.0 most a.1 a.3 stop row fields new_fields h

pub record_large_failed : (old mid new : Cursor) (ops : Abbreviation) (most : ℕ) (stop : Stop) (row : Row) (fields new_fields : List ℕ) → IsSound ops → ValueAnswer Large old mid (get_or ops 0 (Literal 0))
    → SpelledAnswer (Err stop) mid new (drop 1 ops) most row fields new_fields → RecordAnswer (Err stop) old new ops most fields new_fields
record_large_failed old mid new [] most stop row fields new_fields sound a h = absurd sound
record_large_failed old mid new (op ∷ ops) most stop row fields new_fields sound a h = record_failed old mid new op ops sound.0 a.1 a.0 most a.2 a.4 stop row fields new_fields h

pub record_short : (old : Cursor) (ops : Abbreviation) → IsSound ops → NoValue old (get_or ops 0 (Literal 0)) → NoneSpelled old ops
record_short old [] sound h = absurd sound
record_short old (op ∷ ops) sound h = record {
  none = λ values ends s.
      let y = spelled_uncons old.bytes old.start op ops sound.0 old.place values ends s in
      omega (arith, h.none y.0 y.1 y.3, spelled_forward old.bytes old.start ops y.1 y.2 ends y.4);
}

-- counted fields
pub fields_row : (r : Result Row Stop) (old mid new : Cursor) (count most : ℕ) (row : Row) (fields new_fields : List ℕ) → SeenAnswer (Small count) old mid 6 → RowAnswer r mid new (Vbr 6) count most row fields new_fields → FieldsAnswer r old new most row fields new_fields
fields_row (Ok new_row) old mid new count most row fields new_fields s t =
    let lays : AreValues old.bytes old.start (Vbr 6) s.0 t.values new.place = subst (λ (c : Cursor). AreValues c.bytes c.start (Vbr 6) c.place t.values new.place) s.3 t.lays in
    record {
      values = t.values;
      lays = (s.0, subst (λ n. IsVbr old.bytes 6 old.place n s.0) (sym t.counted) s.1, lays);
      adds = adds_counted most row new_row fields new_fields t.values (length t.values) (omega (arith, t.counted, s.4)) t.adds;
      moves = rw (t.moves, s.3) refl;
      within = omega (arith, t.within, ap (λ (c : Cursor). c.end) s.3);
    }
fields_row (Err Ends) old mid new count most row fields new_fields s t = record {
  none = λ values after lays.
      let u = vbr_unique old.bytes 6 old.place (length values) count lays.0 s.0 lays.1 s.1 in
      let here : AreValues old.bytes old.start (Vbr 6) s.0 values after = subst (λ p. AreValues old.bytes old.start (Vbr 6) p values after) u.1 lays.2 in
      let there : AreValues mid.bytes mid.start (Vbr 6) mid.place values after = subst (λ (c : Cursor). AreValues c.bytes c.start (Vbr 6) c.place values after) (sym s.3) here in
      omega (arith, t.none values after there u.0, ap (λ (c : Cursor). c.end) s.3);
}
fields_row (Err OutOfMemory) old mid new count most row fields new_fields s t = tt

not_free : TakesNothing (Vbr 6) → ⊥
not_free e = omega (arith, e)

six : IsScalar (Vbr 6)
six = inr (omega arith, omega arith)

pub no_large_fields : (old new : Cursor) → old.end < 2 ^ 64 → SeenAnswer Large old new 6 → NoFields old
no_large_fields old new end s = record {
  none = λ values after lays.
      let u = vbr_unique old.bytes 6 old.place (length values) s.1 lays.0 s.0 lays.1 s.2 in
      omega (arith, u.0, s.5, row_long old.bytes old.start (Vbr 6) six not_free lays.0 values after lays.2);
}

pub no_fields : (old : Cursor) → NoVbr old.bytes old.end old.place 6 → NoFields old
no_fields old h = record { none = λ values after lays. omega (arith, h.none (length values) lays.0 lays.1, row_forward old.bytes old.start (Vbr 6) lays.0 values after lays.2) }

-- records without an abbreviation
module _ (old mid new : Cursor) (v after most : ℕ) (is : IsVbr old.bytes 6 old.place v after) (moves : mid ≡ moved old after) where
  plain_made : (row mid_row new_row : Row) (code : ℕ) (fields new_fields : List ℕ) (s : AreFields mid new most mid_row new_row fields new_fields) → IsCoded row code most fields new_fields (v ∷ s.values) (length s.values)
      → IsPlainRecord old new most (record { code = code; row = row }) fields new_fields
  plain_made row mid_row new_row code fields new_fields s coded =
      let rest : AreCounted old.bytes old.start (Vbr 6) after s.values new.place = subst (λ (c : Cursor). AreCounted c.bytes c.start (Vbr 6) c.place s.values new.place) moves s.lays in
      record {
        code = v;
        row = s.values;
        lays = record { next = after; last = rest.0; is_code = is; is_count = rest.1; are_fields = rest.2 };
        is = coded;
        moves = s.moves ∙ ap (λ (c : Cursor). moved c new.place) moves;
        within = omega (arith, s.within, ap (λ (c : Cursor). c.end) moves);
      }

  plain_failed : (stop : Stop) (mid_row : Row) (fields new_fields : List ℕ) → FieldsAnswer (Err stop) mid new most mid_row fields new_fields → PlainAnswer (Err stop) old new most fields new_fields
  plain_failed Ends mid_row fields new_fields h = record {
    none = λ code row ends s.
        let u = vbr_unique old.bytes 6 old.place code v s.next after s.is_code is in
        let here : AreCounted old.bytes old.start (Vbr 6) after row ends = subst (λ n. AreCounted old.bytes old.start (Vbr 6) n row ends) u.1 (s.last, s.is_count, s.are_fields) in
        let there : AreCounted mid.bytes mid.start (Vbr 6) mid.place row ends = subst (λ (c : Cursor). AreCounted c.bytes c.start (Vbr 6) c.place row ends) (sym moves) here in
        omega (arith, h.none row ends there, ap (λ (c : Cursor). c.end) moves);
  }
  plain_failed OutOfMemory mid_row fields new_fields h = tt

pub plain_small : (old mid new : Cursor) (v most : ℕ) (row : Row) (fields new_fields : List ℕ) → length fields ≤ most → SeenAnswer (Small v) old mid 6 → AreFields mid new most Taken row fields new_fields → IsPlainRecord old new most (record { code = v; row = row }) fields new_fields
plain_small old mid new v most row fields new_fields few a s = plain_made old mid new v a.0 most a.1 a.3 row Taken row v fields new_fields s (coded_small row most fields new_fields s.values v (length s.values) a.4 few s.adds)

pub plain_large : (old mid new : Cursor) (most : ℕ) (row : Row) (fields new_fields : List ℕ) → SeenAnswer Large old mid 6 → AreFields mid new most Wide row fields new_fields → IsPlainRecord old new most (record { code = 0; row = Wide }) fields new_fields
plain_large old mid new most row fields new_fields a s = plain_made old mid new a.1 a.0 most a.2 a.4 Wide Wide row 0 fields new_fields s (coded_large most fields new_fields s.values a.1 (length s.values) a.5)

pub plain_small_failed : (old mid new : Cursor) (v most : ℕ) (stop : Stop) (row : Row) (fields new_fields : List ℕ) → SeenAnswer (Small v) old mid 6 → FieldsAnswer (Err stop) mid new most row fields new_fields → PlainAnswer (Err stop) old new most fields new_fields
plain_small_failed old mid new v most stop row fields new_fields a h = plain_failed old mid new v a.0 most a.1 a.3 stop row fields new_fields h

pub plain_large_failed : (old mid new : Cursor) (most : ℕ) (stop : Stop) (row : Row) (fields new_fields : List ℕ) → SeenAnswer Large old mid 6 → FieldsAnswer (Err stop) mid new most row fields new_fields → PlainAnswer (Err stop) old new most fields new_fields
plain_large_failed old mid new most stop row fields new_fields a h = plain_failed old mid new a.1 a.0 most a.2 a.4 stop row fields new_fields h

pub plain_short : (old : Cursor) → NoVbr old.bytes old.end old.place 6 → NoPlain old
plain_short old h = record {
  none = λ code row ends s. omega (arith, h.none code s.next s.is_code, vbr_takes old.bytes 6 s.next (length row) s.last s.is_count, row_forward old.bytes old.start (Vbr 6) s.last row ends s.are_fields);
}
