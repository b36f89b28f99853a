-- Numbers, values and rows that are read to their end.
use Rattle.std.proofs.Common.{ap, refl, sym, ◌∙◌, subst, ℕ, zero, suc, ◌≡◌, ◌+◌, ◌<◌, ◌≤◌, ◌^◌, inl, inr, List, [], ◌∷◌, ◌++◌, length, arith, length-append, append_assoc, append-nil, Option, Some, None}
use Rattle.std.proofs.Math.Seq.{get_or-append_seam}
use Rattle.dx_base.specs.Bits.{IsVbr}
use Rattle.dx_base.specs.Cursor.{Cursor, moved, NoVbr, VbrAnswer, PassAnswer}
use Rattle.dx_base.specs.declared.bits.Vbr.TheVariants as vbrs
use Rattle.dx_base.proofs.VbrLaws.{vbr_unique}
use Rattle.bitstream_spelling.specs.Layout.{IsValue, AreValues}
use Rattle.bitstream_spelling.specs.Rules.{IsScalar}
use Rattle.bitstream_spelling.specs.declared.operand.Operand.{Operand}
use Rattle.bitstream_spelling.specs.declared.operand.Operand.TheVariants.{Literal, Vbr}
use Rattle.bitstream_spelling.proofs.Unique.{value_unique}
use Rattle.bitstream_spelling.proofs.Forward.{row_forward}
use Rattle.bitstream_values.specs.Numbers.{SeenAnswer, NoValue, ValueAnswer}
use Rattle.bitstream_values.specs.Rows.{IsRow, Adds, IsTaken, NoRow}
use Rattle.bitstream_values.specs.declared.number.Seen.{Seen}
use Rattle.bitstream_values.specs.declared.number.Seen.TheVariants.{Small, Large, Short}
use Rattle.bitstream_values.specs.declared.row.Row.{Row}
use Rattle.bitstream_values.specs.declared.row.Row.TheVariants.{Wide}

pub wide_seen : (old mid new : Cursor) (w : ℕ) (r : Option (Unit {0})) → VbrAnswer vbrs.Wide old mid w → PassAnswer r mid new w → SeenAnswer Large old new w
wide_seen old mid new w (Some _) v p =
    let e : mid ≡ old = v.5 in
    let n : IsVbr old.bytes w old.place p.0 p.1 = subst (λ (c : Cursor). IsVbr c.bytes w c.place p.0 p.1) e p.2 in
    let u = vbr_unique old.bytes w old.place v.0 p.0 v.1 p.1 v.2 n in
    (p.1, p.0, n, subst (λ (c : Cursor). p.1 ≤ c.end) e p.3, p.4 ∙ ap (λ c. moved c p.1) e, omega (arith, v.4, u.0))
wide_seen old mid new w None v p =
    let e : mid ≡ old = v.5 in
    let none : NoVbr old.bytes old.end old.place w = subst (λ (c : Cursor). NoVbr c.bytes c.end c.place w) e p.0 in
    absurd (omega (arith, v.3, none.none v.0 v.1 v.2))

-- a value that takes no bits
pub literal_value : (old new : Cursor) (op : Operand) (n v : ℕ) → op ≡ Literal n → v ≡ n → v < 2 ^ 64 → old.place ≤ old.end → new ≡ old → ValueAnswer (Small v) old new op
literal_value old new op n v is same small within e = subst (λ (o : Operand). ValueAnswer (Small v) old new o) (sym is) (old.place, (same, refl), within, e, small)

pub zero_value : (old new : Cursor) (op : Operand) (w : ℕ) → op ≡ Vbr w → w ≡ 0 → old.place ≤ old.end → new ≡ old → ValueAnswer (Small 0) old new op
zero_value old new op w is none within e = subst (λ (o : Operand). ValueAnswer (Small 0) old new o) (sym (is ∙ ap Vbr none)) (old.place, (refl, refl), within, e, omega arith)

-- a number in chunks
chunks_value : (s : Seen) (old new : Cursor) (w : ℕ) → 2 ≤ w → SeenAnswer s old new w → ValueAnswer s old new (Vbr w)
chunks_value s old new zero low h = absurd (omega arith)
chunks_value (Small n) old new (suc w) low h = h
chunks_value Large old new (suc w) low h = h
chunks_value Short old new (suc w) low h = record { none = h.none }

pub vbr_value : (s : Seen) (old new : Cursor) (op : Operand) (w : ℕ) → op ≡ Vbr w → 2 ≤ w → SeenAnswer s old new w → ValueAnswer s old new op
vbr_value s old new op w is low h = subst (λ (o : Operand). ValueAnswer s old new o) (sym is) (chunks_value s old new w low h)

module _ (bytes : List ℕ) (start : ℕ) (op : Operand) where
  pub values_push : (i : ℕ) (vs : List ℕ) (j v k : ℕ) → AreValues bytes start op i vs j → IsValue bytes start op j v k → AreValues bytes start op i (vs ++ v ∷ []) k
  values_push i [] j v k a b = (k, subst (λ x. IsValue bytes start op x v k) a b, refl)
  values_push i (w ∷ ws) j v k a b = (a.0, a.1, values_push a.0 ws j v k a.2 b)

  pub values_split : (i : ℕ) (vs : List ℕ) (j : ℕ) (ws : List ℕ) (k : ℕ) → AreValues bytes start op i vs j → AreValues bytes start op i ws k → length vs ≤ length ws
      → (rest : List ℕ) × (ws ≡ vs ++ rest) × AreValues bytes start op j rest k
  values_split i [] j ws k a b h = (ws, refl, subst (λ x. AreValues bytes start op x ws k) (sym a) b)
  values_split i (v ∷ vs) j [] k a b h = absurd (omega arith)
  values_split i (v ∷ vs) j (w ∷ ws) k a b h =
      let u = value_unique bytes start op i v w a.0 b.0 a.1 b.1 in
      let s = values_split a.0 vs j ws k a.2 (subst (λ x. AreValues bytes start op x ws k) (sym u.1) b.2) (omega arith) in
      (s.0, cc (u.0, s.1), s.2)

-- nothing was added
pub adds_nothing : (most : ℕ) (row : Row) (fields : List ℕ) → Adds most row row fields fields [] 0
adds_nothing most row fields = record { adds = λ before earlier h. subst (λ (vs : List ℕ). IsRow row most before fields vs 0) (sym (append-nil earlier)) h }

-- more was added
pub adds_more : (most : ℕ) (row mid new : Row) (fields mid_fields new_fields values more : List ℕ) (n : ℕ) → Adds most row mid fields mid_fields values 0 → Adds most mid new mid_fields new_fields more n → Adds most row new fields new_fields (values ++ more) n
adds_more most row mid new fields mid_fields new_fields values more n a b = record {
  adds = λ before earlier h. subst (λ (vs : List ℕ). IsRow new most before new_fields vs n) (append_assoc earlier values more) (b.adds before (earlier ++ values) (a.adds before earlier h));
}

-- a number of 2 ^ 64 or more
large_row : (row : Row) (most : ℕ) (before after values : List ℕ) (v : ℕ) → 2 ^ 64 ≤ v → IsRow Wide most before after (values ++ v ∷ []) 0
large_row row most before after values v h = λ all small. absurd (omega (arith, h, all (length values) 0 (omega (arith, length-append values (v ∷ []))), get_or-append_seam values v [] 0))

pub adds_large : (most : ℕ) (row : Row) (fields : List ℕ) (v : ℕ) → 2 ^ 64 ≤ v → Adds most row Wide fields fields (v ∷ []) 0
adds_large most row fields v h = record { adds = λ before earlier x. large_row row most before fields earlier v h }

pub none_taken : (c : Cursor) (op : Operand) (most : ℕ) (row : Row) (fields : List ℕ) → c.place ≤ c.end → IsTaken c c op 0 most row row fields fields
none_taken c op most row fields h = record { values = []; lays = refl; counted = refl; adds = adds_nothing most row fields; moves = refl; within = h }

pub taken_more : (old mid new : Cursor) (op : Operand) (count most : ℕ) (row mid_row new_row : Row) (fields mid_fields new_fields : List ℕ) (v after : ℕ) → IsTaken old mid op count most row mid_row fields mid_fields
    → IsValue mid.bytes mid.start op mid.place v after → after ≤ mid.end → new ≡ moved mid after → Adds most mid_row new_row mid_fields new_fields (v ∷ []) 0 → IsTaken old new op (count + 1) most row new_row fields new_fields
taken_more old mid new op count most row mid_row new_row fields mid_fields new_fields v after t is within moves adds =
    let same : IsValue old.bytes old.start op mid.place v after = subst (λ (c : Cursor). IsValue c.bytes c.start op mid.place v after) t.moves is in
    record {
      values = t.values ++ v ∷ [];
      lays = rw moves (values_push old.bytes old.start op old.place t.values mid.place v after t.lays same);
      counted = omega (arith, t.counted, length-append t.values (v ∷ []));
      adds = adds_more most row mid_row new_row fields mid_fields new_fields t.values (v ∷ []) 0 t.adds adds;
      moves = rw (moves, t.moves) refl;
      within = rw moves (subst (λ e. after ≤ e) (ap (λ (c : Cursor). c.end) t.moves) within);
    }

-- where the next value passes the end, so does the row
pub no_row : (old mid : Cursor) (op : Operand) (taken count most : ℕ) (row mid_row : Row) (fields mid_fields : List ℕ) → IsTaken old mid op taken most row mid_row fields mid_fields → taken < count → NoValue mid op → NoRow old op count
no_row old mid op taken count most row mid_row fields mid_fields t more h = record {
  none = λ values ends lays counted.
      let s = values_split old.bytes old.start op old.place t.values mid.place values ends t.lays lays (omega (arith, t.counted)) in
      missing s.0 values ends s.1 s.2 counted;
} where
  missing : (rest : List ℕ) (values : List ℕ) (ends : ℕ) → values ≡ t.values ++ rest → AreValues old.bytes old.start op mid.place rest ends → length values ≡ count → old.end < ends
  missing [] values ends e lays counted = absurd (omega (arith, ap length e, length-append t.values [], t.counted))
  missing (v ∷ vs) values ends e lays counted =
      let value : IsValue mid.bytes mid.start op mid.place v lays.0 = subst (λ (c : Cursor). IsValue c.bytes c.start op mid.place v lays.0) (sym t.moves) lays.1 in
      let forward : lays.0 ≤ ends = row_forward old.bytes old.start op lays.0 vs ends lays.2 in
      let same : mid.end ≡ old.end = ap (λ (c : Cursor). c.end) t.moves in
      omega (arith, h.none v lays.0 value)

pub taken_within : (old mid : Cursor) (op : Operand) (taken most : ℕ) (row mid_row : Row) (fields mid_fields : List ℕ) → IsTaken old mid op taken most row mid_row fields mid_fields → mid.place ≤ mid.end
taken_within old mid op taken most row mid_row fields mid_fields t = omega (arith, t.within, ap (λ (c : Cursor). c.end) t.moves)

pub chunk_width : (w : ℕ) → IsScalar (Vbr w) → (w ≡ 0 → ⊥) → 2 ≤ w
chunk_width w (inl e) h = absurd (h e)
chunk_width w (inr l) h = l.0
