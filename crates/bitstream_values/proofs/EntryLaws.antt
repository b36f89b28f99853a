-- Entries that are read to their end.
use Rattle.std.proofs.Common.{ap, refl, sym, ◌∙◌, subst, ℕ, ◌≡◌, ◌+◌, ◌<◌, ◌≤◌, ◌↔◌, List, arith, Some, Bool, true, false, IsTrue}
use Rattle.dx_base.specs.Bits.{num, IsVbr}
use Rattle.dx_base.specs.Cursor.{Cursor, moved, NoVbr, FixedAnswer, aligned as cursor_aligned}
use Rattle.dx_base.proofs.VbrLaws.{vbr_unique, vbr_takes}
use Rattle.bitstream_spelling.specs.Layout.{aligned}
use Rattle.bitstream_spelling.specs.Spelling.{IsEntry}
use Rattle.bitstream_spelling.proofs.Forward.{above}
use Rattle.bitstream_values.specs.Numbers.{SeenAnswer}
use Rattle.bitstream_values.specs.Entries.{IsSeen, IsTaken, NoEntry}
use Rattle.bitstream_values.specs.declared.number.Seen.{Seen}
use Rattle.bitstream_values.specs.declared.number.Seen.TheVariants.{Small, Large, Short}

-- a number that does not pass the end
pub record IsThere (s : Seen) (old new : Cursor) (w : ℕ) : Type 0 where
  pub value : ℕ
  pub after : ℕ
  pub seen : IsSeen s value
  pub is : IsVbr old.bytes w old.place value after
  pub within : after ≤ old.end
  pub moves : new ≡ moved old after

there : (s : Seen) (old new : Cursor) (w : ℕ) → (s ≡ Short → ⊥) → SeenAnswer s old new w → IsThere s old new w
there (Small n) old new w h a = record { value = n; after = a.0; seen = (refl, a.4); is = a.1; within = a.2; moves = a.3 }
there Large old new w h a = record { value = a.1; after = a.0; seen = a.5; is = a.2; within = a.3; moves = a.4 }
there Short old new w h a = absurd (h refl)

short : (s : Seen) (old new : Cursor) (w : ℕ) → s ≡ Short → SeenAnswer s old new w → NoVbr old.bytes old.end old.place w
short s old new w e a = subst (λ (x : Seen). SeenAnswer x old new w) e a

pub not_short : (b : Bool) (s : Seen) (old new : Cursor) (w : ℕ) → b ≡ false → (IsTrue b ↔ (s ≡ Short)) → SeenAnswer s old new w → IsThere s old new w
not_short b s old new w e t a = there s old new w (λ x. let y : b ≡ true = t.1 x in absurd (cc)) a

pub no_id : (b : Bool) (s : Seen) (old new : Cursor) → b ≡ true → (IsTrue b ↔ (s ≡ Short)) → SeenAnswer s old new 8 → NoEntry old
no_id b s old new e t a = record {
  none = λ id width words after l. omega (arith, (short s old new 8 (t.0 e) a).none id l.next l.is_id, vbr_takes old.bytes 4 l.next width l.ends l.is_width, above old.start l.ends, l.is_after);
}

module _ (id : Seen) (old mid : Cursor) (i : IsThere id old mid 8) where
  same_next : (n width words after : ℕ) (l : IsEntry old.bytes old.start old.place n width words after) → IsVbr mid.bytes 4 mid.place width l.ends
  same_next n width words after l =
      let u = vbr_unique old.bytes 8 old.place n i.value l.next i.after l.is_id i.is in
      subst (λ (c : Cursor). IsVbr c.bytes 4 c.place width l.ends) (sym i.moves) (subst (λ x. IsVbr old.bytes 4 x width l.ends) u.1 l.is_width)

  pub no_width : (b : Bool) (s : Seen) (new : Cursor) → b ≡ true → (IsTrue b ↔ (s ≡ Short)) → SeenAnswer s mid new 4 → NoEntry old
  no_width b s new e t a = record {
    none = λ n width words after l. omega (arith, (short s mid new 4 (t.0 e) a).none width l.ends (same_next n width words after l), above old.start l.ends, l.is_after, ap (λ (c : Cursor). c.end) i.moves);
  }

  module _ (width : Seen) (new : Cursor) (w : IsThere width mid new 4) where
    start_kept : new.start ≡ old.start
    start_kept = ap (λ (c : Cursor). c.start) w.moves ∙ ap (λ (c : Cursor). c.start) i.moves

    end_kept : new.end ≡ old.end
    end_kept = ap (λ (c : Cursor). c.end) w.moves ∙ ap (λ (c : Cursor). c.end) i.moves

    same_ends : (n v words after : ℕ) (l : IsEntry old.bytes old.start old.place n v words after) → l.ends ≡ new.place
    same_ends n v words after l = (vbr_unique mid.bytes 4 mid.place v w.value l.ends w.after (same_next n v words after l) w.is).1 ∙ sym (ap (λ (c : Cursor). c.place) w.moves)

    aligned_kept : cursor_aligned new ≡ aligned old.start new.place
    aligned_kept = ap (λ s. aligned s new.place) start_kept

    pub no_align : new.end < cursor_aligned new → NoEntry old
    no_align h = record {
      none = λ n v words after l. omega (arith, h, l.is_after, ap (aligned old.start) (same_ends n v words after l), aligned_kept, end_kept);
    }

    module _ (last : Cursor) (moves : last ≡ moved new (cursor_aligned new)) where
      pub no_words : last.end < last.place + 32 → NoEntry old
      no_words h = record {
        none = λ n v words after l.
            omega (arith, h, l.is_after, ap (aligned old.start) (same_ends n v words after l), aligned_kept, end_kept, ap (λ (c : Cursor). c.end) moves, ap (λ (c : Cursor). c.place) moves);
      }

      pub entry_taken : (words : ℕ) (behind : Cursor) → FixedAnswer (Some words) last behind 32 → IsTaken old behind (record { id = id; width = width; words = words })
      entry_taken words behind f =
          let place : last.place ≡ aligned old.start new.place = ap (λ (c : Cursor). c.place) moves ∙ aligned_kept in
          let bytes : last.bytes ≡ old.bytes = ap (λ (c : Cursor). c.bytes) moves ∙ ap (λ (c : Cursor). c.bytes) w.moves ∙ ap (λ (c : Cursor). c.bytes) i.moves in
          let next : behind.place ≡ last.place + 32 = ap (λ (c : Cursor). c.place) f.2 in
          let after_id : mid.place ≡ i.after = ap (λ (c : Cursor). c.place) i.moves in
          let after_width : new.place ≡ w.after = ap (λ (c : Cursor). c.place) w.moves in
          let width_is : IsVbr old.bytes 4 i.after w.value w.after = subst (λ (c : Cursor). IsVbr c.bytes 4 c.place w.value w.after) i.moves w.is in
          record {
            id = i.value;
            width = w.value;
            seen_id = i.seen;
            seen_width = w.seen;
            lays = record {
              next = i.after;
              ends = w.after;
              is_id = i.is;
              is_width = width_is;
              is_words = f.1 ∙ ap (λ (b : List ℕ). num b last.place 32) bytes ∙ ap (λ p. num old.bytes p 32) (place ∙ ap (aligned old.start) after_width);
              is_after = next ∙ ap (λ p. p + 32) (place ∙ ap (aligned old.start) after_width);
            };
            moves = rw (f.2, moves, w.moves, i.moves) refl;
            within = omega (arith, f.0, next, ap (λ (c : Cursor). c.end) moves, end_kept);
          }
