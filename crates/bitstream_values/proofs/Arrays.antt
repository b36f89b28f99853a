-- Arrays and blobs that are read to their end.
use Rattle.std.proofs.Common.{ap, refl, sym, ◌∙◌, subst, ℕ, zero, suc, ◌≡◌, ◌+◌, ◌<◌, ◌≤◌, ◌^◌, ◌↔◌, List, [], ◌∷◌, ◌++◌, length, arith, length-append, Bool, true, false, IsTrue, get_or, All, Result, Ok, Err}
use Rattle.std.proofs.lemmas.List.Elements.{All-append}
use Rattle.dx_base.specs.Bits.{num, IsVbr}
use Rattle.dx_base.specs.Cursor.{Cursor, moved, NoVbr, aligned as cursor_aligned}
use Rattle.dx_base.proofs.VbrLaws.{vbr_unique, vbr_takes}
use Rattle.bitstream_spelling.specs.Layout.{aligned, IsValue, AreValues}
use Rattle.bitstream_spelling.specs.Rules.{IsScalar}
use Rattle.bitstream_spelling.specs.declared.operand.Operand.{Operand}
use Rattle.bitstream_spelling.specs.declared.operand.Operand.TheVariants.{Literal, Fixed, Vbr, Array, Char6, Blob, Faulty}
use Rattle.bitstream_spelling.proofs.Unique.{row_unique}
use Rattle.bitstream_spelling.proofs.Forward.{row_forward, above}
use Rattle.bitstream_values.specs.Numbers.{SeenAnswer}
use Rattle.bitstream_values.specs.Rows.{IsRow, Adds, IsTaken, NoRow, RowAnswer, IsSpelled, NoneSpelled, SpelledAnswer, TakesNothing, too_many_of, NoBytes, BytesAnswer}
use Rattle.bitstream_values.specs.declared.number.Seen.TheVariants.{Small, Large}
use Rattle.bitstream_values.specs.declared.row.Row.{Row}
use Rattle.bitstream_values.specs.declared.row.Row.TheVariants.{Taken, Wide, Many}
use Rattle.bitstream_values.specs.declared.row.Stop.{Stop}
use Rattle.bitstream_values.specs.declared.row.Stop.TheVariants.{Ends, OutOfMemory}

-- so many zeros
zeros : ℕ → List ℕ
zeros zero = []
zeros (suc n) = 0 ∷ zeros n

zeros_length : (n : ℕ) → length (zeros n) ≡ n
unfolding zeros
zeros_length zero = refl
zeros_length (suc n) = ap suc (zeros_length n)

pub small_cons : (x : ℕ) (xs : List ℕ) → x < 2 ^ 64 → All (λ v. v < 2 ^ 64) xs → All (λ v. v < 2 ^ 64) (x ∷ xs)
small_cons x xs h all = each where
  each : (k : ℕ) (d : ℕ) → k < length (x ∷ xs) → get_or (x ∷ xs) k d < 2 ^ 64
  each zero d low = h
  each (suc k) d low = all k d (omega (arith, low))

zeros_small : (n : ℕ) → All (λ v. v < 2 ^ 64) (zeros n)
unfolding zeros
zeros_small zero = λ k d h. absurd (omega arith)
zeros_small (suc n) = small_cons 0 (zeros n) (omega arith) (zeros_small n)

all_before : (xs ys : List ℕ) → All (λ v. v < 2 ^ 64) (xs ++ ys) → All (λ v. v < 2 ^ 64) xs
all_before [] ys h = λ k d low. absurd (omega arith)
all_before (x ∷ xs) ys h = small_cons x xs (h zero 0 (omega arith)) (all_before xs ys (λ j e l. h (suc j) e (omega (arith, l))))

module _ (bytes : List ℕ) (start : ℕ) where
  zero_value : (op : Operand) → TakesNothing op → (i : ℕ) → IsValue bytes start op i 0 i
  zero_value (Fixed zero) h i = (unfold num in refl, omega arith)
  zero_value (Fixed (suc w)) h i = absurd (omega (arith, h))
  zero_value (Vbr zero) h i = (refl, refl)
  zero_value (Vbr (suc w)) h i = absurd (omega (arith, h))
  zero_value (Literal n) h i = absurd h
  zero_value Array h i = absurd h
  zero_value Char6 h i = absurd h
  zero_value Blob h i = absurd h
  zero_value Faulty h i = absurd h

  zeros_lay : (op : Operand) → TakesNothing op → (i n : ℕ) → AreValues bytes start op i (zeros n) i
  unfolding zeros
  zeros_lay op h i zero = refl
  zeros_lay op h i (suc n) = (i, zero_value op h i, zeros_lay op h i n)

  value_long : (op : Operand) → IsScalar op → (TakesNothing op → ⊥) → (i v j : ℕ) → IsValue bytes start op i v j → i + 1 ≤ j
  value_long (Literal n) s h i v j x = absurd s
  value_long (Fixed zero) s h i v j x = absurd (h refl)
  value_long (Fixed (suc w)) s h i v j x = omega (arith, x.1)
  value_long (Vbr zero) s h i v j x = absurd (h refl)
  value_long (Vbr (suc w)) s h i v j x = omega (arith, vbr_takes bytes (suc w) i v j x)
  value_long Char6 s h i v j x = omega (arith, x.1)
  value_long Array s h i v j x = absurd s
  value_long Blob s h i v j x = absurd s
  value_long Faulty s h i v j x = absurd s

  pub row_long : (op : Operand) → IsScalar op → (TakesNothing op → ⊥) → (i : ℕ) (vs : List ℕ) (j : ℕ) → AreValues bytes start op i vs j → i + length vs ≤ j
  row_long op s h i [] j x = omega (arith, x)
  row_long op s h i (v ∷ vs) j x = omega (arith, value_long op s h i v x.0 x.1, row_long op s h x.0 vs j x.2)

-- the count of an array or blob is told
recount : (row : Row) (most : ℕ) (before after values : List ℕ) (n : ℕ) → n < 2 ^ 64 → IsRow row most before after values 0 → IsRow row most before after values n
recount Taken most before after values n h x = (x.0, h, x.2, x.3)
recount Many most before after values n h x = (x.0, h, x.2)
recount Wide most before after values n h x = λ all small. x all (omega arith)

pub adds_counted : (most : ℕ) (row new : Row) (fields new_fields values : List ℕ) (n : ℕ) → n < 2 ^ 64 → Adds most row new fields new_fields values 0 → Adds most row new fields new_fields values n
adds_counted most row new fields new_fields values n h a = record { adds = λ before earlier x. recount new most before new_fields (earlier ++ values) n h (a.adds before earlier x) }

-- many zeros are added
zeros_row : (row : Row) (most : ℕ) (before after earlier : List ℕ) (n : ℕ) → most < n → n < 2 ^ 64 → IsRow row most before after earlier 0 → IsRow (too_many_of row) most before after (earlier ++ zeros n) n
zeros_row Taken most before after earlier n h small x =
    (All-append (λ v. v < 2 ^ 64) earlier (zeros n) x.0 (zeros_small n), small, omega (arith, length-append before (earlier ++ zeros n), length-append earlier (zeros n), zeros_length n))
zeros_row Many most before after earlier n h small x =
    (All-append (λ v. v < 2 ^ 64) earlier (zeros n) x.0 (zeros_small n), small, omega (arith, length-append before (earlier ++ zeros n), length-append earlier (zeros n), zeros_length n))
zeros_row Wide most before after earlier n h small x = λ all counted. x (all_before earlier (zeros n) all) (omega arith)

pub many_zeros : (old new : Cursor) (op : Operand) (count most : ℕ) (row : Row) (fields : List ℕ) → TakesNothing op → SeenAnswer (Small count) old new 6 → most < count → IsSpelled old new (Array ∷ op ∷ []) most row (too_many_of row) fields fields
many_zeros old new op count most row fields free s h =
    let long = zeros_length count in
    let place : new.place ≡ s.0 = ap (λ (c : Cursor). c.place) s.3 in
    record {
      values = zeros count;
      lays = (s.0, subst (λ n. IsVbr old.bytes 6 old.place n s.0) (sym long) s.1, subst (λ p. AreValues old.bytes old.start op s.0 (zeros count) p) (sym place) (zeros_lay old.bytes old.start op free s.0 count));
      adds = record { adds = λ before earlier x. subst (λ n. IsRow (too_many_of row) most before fields (earlier ++ zeros count) n) (sym long) (zeros_row row most before fields earlier count h s.4 x) };
      moves = s.3 ∙ ap (λ p. moved old p) (sym place);
      within = omega (arith, place, s.2);
    }

pub wide_zeros : (old new : Cursor) (op : Operand) (most : ℕ) (row : Row) (fields : List ℕ) → TakesNothing op → SeenAnswer Large old new 6 → IsSpelled old new (Array ∷ op ∷ []) most row Wide fields fields
wide_zeros old new op most row fields free s =
    let long = zeros_length s.1 in
    let place : new.place ≡ s.0 = ap (λ (c : Cursor). c.place) s.4 in
    record {
      values = zeros s.1;
      lays = (s.0, subst (λ n. IsVbr old.bytes 6 old.place n s.0) (sym long) s.2, subst (λ p. AreValues old.bytes old.start op s.0 (zeros s.1) p) (sym place) (zeros_lay old.bytes old.start op free s.0 s.1));
      adds = record { adds = λ before earlier x all small. absurd (omega (arith, small, long, s.5)) };
      moves = s.4 ∙ ap (λ p. moved old p) (sym place);
      within = omega (arith, place, s.3);
    }

-- an array whose count is read
pub array_row : (r : Result Row Stop) (old mid new : Cursor) (op : Operand) (count most : ℕ) (row : Row) (fields new_fields : List ℕ) → SeenAnswer (Small count) old mid 6 → RowAnswer r mid new op count most row fields new_fields
    → SpelledAnswer r old new (Array ∷ op ∷ []) most row fields new_fields
array_row (Ok new_row) old mid new op count most row fields new_fields s t =
    let lays : AreValues old.bytes old.start op s.0 t.values new.place = subst (λ (c : Cursor). AreValues c.bytes c.start op c.place t.values new.place) s.3 t.lays in
    record {
      values = t.values;
      lays = (s.0, subst (λ n. IsVbr old.bytes 6 old.place n s.0) (sym t.counted) s.1, lays);
      adds = adds_counted most row new_row fields new_fields t.values (length t.values) (omega (arith, t.counted, s.4)) t.adds;
      moves = rw (t.moves, s.3) refl;
      within = omega (arith, t.within, ap (λ (c : Cursor). c.end) s.3);
    }
array_row (Err Ends) old mid new op count most row fields new_fields s t = record {
  none = λ values after lays.
      let u = vbr_unique old.bytes 6 old.place (length values) count lays.0 s.0 lays.1 s.1 in
      let here : AreValues old.bytes old.start op s.0 values after = subst (λ p. AreValues old.bytes old.start op p values after) u.1 lays.2 in
      let there : AreValues mid.bytes mid.start op mid.place values after = subst (λ (c : Cursor). AreValues c.bytes c.start op c.place values after) (sym s.3) here in
      omega (arith, t.none values after there u.0, ap (λ (c : Cursor). c.end) s.3);
}
array_row (Err OutOfMemory) old mid new op count most row fields new_fields s t = tt

pub no_large_array : (old new : Cursor) (op : Operand) → IsScalar op → (TakesNothing op → ⊥) → old.end < 2 ^ 64 → SeenAnswer Large old new 6 → NoneSpelled old (Array ∷ op ∷ [])
no_large_array old new op scalar bits end s = record {
  none = λ values after lays.
      let u = vbr_unique old.bytes 6 old.place (length values) s.1 lays.0 s.0 lays.1 s.2 in
      omega (arith, u.0, s.5, row_long old.bytes old.start op scalar bits lays.0 values after lays.2);
}

pub no_count : (old : Cursor) (op : Operand) → NoVbr old.bytes old.end old.place 6 → NoneSpelled old (Array ∷ op ∷ [])
no_count old op s = record { none = λ values after lays. omega (arith, s.none (length values) lays.0 lays.1, row_forward old.bytes old.start op lays.0 values after lays.2) }

-- blobs
pub no_blob_count : (old : Cursor) → NoVbr old.bytes old.end old.place 6 → NoneSpelled old (Blob ∷ [])
no_blob_count old s = record {
  none = λ values after l.
      omega (arith, s.none (length values) l.0 l.2, above old.start l.0, row_forward old.bytes old.start (Fixed 8) (aligned old.start l.0) values l.1 l.3, above old.start l.1, l.4);
}

pub no_large_blob : (old new : Cursor) → old.end < 2 ^ 64 → SeenAnswer Large old new 6 → NoneSpelled old (Blob ∷ [])
no_large_blob old new end s = record {
  none = λ values after l.
      let u = vbr_unique old.bytes 6 old.place (length values) s.1 l.0 s.0 l.2 s.2 in
      omega (arith, u.0, s.5, row_long old.bytes old.start (Fixed 8) (omega arith) (λ e. absurd (omega (arith, e))) (aligned old.start l.0) values l.1 l.3, above old.start l.1, l.4);
}

pub blob_bytes : (r : Result Row Stop) (old mid new : Cursor) (count most : ℕ) (row : Row) (fields new_fields : List ℕ) → SeenAnswer (Small count) old mid 6 → BytesAnswer r mid new count most row fields new_fields
    → SpelledAnswer r old new (Blob ∷ []) most row fields new_fields
blob_bytes (Ok new_row) old mid new count most row fields new_fields s t =
    let lays : AreValues old.bytes old.start (Fixed 8) (aligned old.start s.0) t.values t.ends = subst (λ (c : Cursor). AreValues c.bytes c.start (Fixed 8) (aligned c.start c.place) t.values t.ends) s.3 t.lays in
    let place : new.place ≡ aligned old.start t.ends = subst (λ (c : Cursor). new.place ≡ aligned c.start t.ends) s.3 t.place in
    record {
      values = t.values;
      lays = (s.0, t.ends, subst (λ n. IsVbr old.bytes 6 old.place n s.0) (sym t.counted) s.1, lays, place);
      adds = adds_counted most row new_row fields new_fields t.values (length t.values) (omega (arith, t.counted, s.4)) t.adds;
      moves = rw (t.moves, s.3) refl;
      within = omega (arith, t.within, ap (λ (c : Cursor). c.end) s.3);
    }
blob_bytes (Err Ends) old mid new count most row fields new_fields s t = record {
  none = λ values after l.
      let u = vbr_unique old.bytes 6 old.place (length values) count l.0 s.0 l.2 s.1 in
      let here : AreValues old.bytes old.start (Fixed 8) (aligned old.start s.0) values l.1 = subst (λ p. AreValues old.bytes old.start (Fixed 8) (aligned old.start p) values l.1) u.1 l.3 in
      let there : AreValues mid.bytes mid.start (Fixed 8) (aligned mid.start mid.place) values l.1 = subst (λ (c : Cursor). AreValues c.bytes c.start (Fixed 8) (aligned c.start c.place) values l.1) (sym s.3) here in
      let short : mid.end < aligned mid.start l.1 = t.none values l.1 there u.0 in
      subst (λ (c : Cursor). c.end < aligned c.start l.1 → old.end < after) (sym s.3) (λ x. omega (arith, x, l.4)) short;
}
blob_bytes (Err OutOfMemory) old mid new count most row fields new_fields s t = tt

-- bytes between alignments
pub no_bytes_before : (old : Cursor) (count : ℕ) → old.end < cursor_aligned old → NoBytes old count
no_bytes_before old count h = record { none = λ values ends l n. omega (arith, h, row_forward old.bytes old.start (Fixed 8) (aligned old.start old.place) values ends l, above old.start ends) }

bytes_of_row : (old mid : Cursor) (values : List ℕ) (ends : ℕ) → mid ≡ moved old (cursor_aligned old) → AreValues mid.bytes mid.start (Fixed 8) mid.place values ends → AreValues old.bytes old.start (Fixed 8) (aligned old.start old.place) values ends
bytes_of_row old mid values ends e l = subst (λ (c : Cursor). AreValues c.bytes c.start (Fixed 8) c.place values ends) e l

row_of_bytes : (old mid : Cursor) (values : List ℕ) (ends : ℕ) → mid ≡ moved old (cursor_aligned old) → AreValues old.bytes old.start (Fixed 8) (aligned old.start old.place) values ends → AreValues mid.bytes mid.start (Fixed 8) mid.place values ends
row_of_bytes old mid values ends e l = subst (λ (c : Cursor). AreValues c.bytes c.start (Fixed 8) c.place values ends) (sym e) l

pub no_bytes_row : (old mid : Cursor) (count : ℕ) → mid ≡ moved old (cursor_aligned old) → NoRow mid (Fixed 8) count → NoBytes old count
no_bytes_row old mid count e h = record { none = λ values ends l n. omega (arith, h.none values ends (row_of_bytes old mid values ends e l) n, ap (λ (c : Cursor). c.end) e, above old.start ends) }

pub bytes_failed : (old mid new : Cursor) (stop : Stop) (count most : ℕ) (row : Row) (fields new_fields : List ℕ) → mid ≡ moved old (cursor_aligned old) → RowAnswer (Err stop) mid new (Fixed 8) count most row fields new_fields → BytesAnswer (Err stop) old new count most row fields new_fields
bytes_failed old mid new Ends count most row fields new_fields e h = no_bytes_row old mid count e h
bytes_failed old mid new OutOfMemory count most row fields new_fields e h = tt

pub no_bytes_after : (old mid new : Cursor) (count most : ℕ) (row new_row : Row) (fields new_fields : List ℕ) → mid ≡ moved old (cursor_aligned old) → IsTaken mid new (Fixed 8) count most row new_row fields new_fields → new.end < cursor_aligned new → NoBytes old count
no_bytes_after old mid new count most row new_row fields new_fields e t h = record {
  none = λ values ends l n.
      let u = row_unique old.bytes old.start (Fixed 8) (aligned old.start old.place) values t.values ends new.place l (bytes_of_row old mid t.values new.place e t.lays) (n ∙ sym t.counted) in
      let place : ends ≡ new.place = u.1 in
      let start : new.start ≡ old.start = ap (λ (c : Cursor). c.start) t.moves ∙ ap (λ (c : Cursor). c.start) e in
      let end : new.end ≡ old.end = ap (λ (c : Cursor). c.end) t.moves ∙ ap (λ (c : Cursor). c.end) e in
      let same : cursor_aligned new ≡ aligned old.start ends = ap (λ s. aligned s new.place) start ∙ ap (λ p. aligned old.start p) (sym place) in
      subst (λ x. old.end < x) same (subst (λ x. x < cursor_aligned new) end h);
}

-- a test that is false
pub not_so : {A : Type 0} (b : Bool) → b ≡ false → (IsTrue b ↔ A) → A → ⊥
not_so b e h a = let t : b ≡ true = h.1 a in absurd (cc)
