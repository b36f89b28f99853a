-- Operands of definitions that are read to their end.
use Rattle.std.proofs.Common.{ap, refl, sym, ◌∙◌, subst, ℕ, zero, suc, ◌≡◌, ◌+◌, ◌<◌, ◌≤◌, ◌⊎◌, inl, inr, arith, Option, Some, false}
use Rattle.std.proofs.lemmas.Bool.Decides.{nat_tests}
use Rattle.dx_base.specs.Bits.{num, IsVbr}
use Rattle.dx_base.specs.Cursor.{Cursor, moved, NoVbr, FixedAnswer}
use Rattle.dx_base.proofs.VbrLaws.{vbr_takes}
use Rattle.bitstream_spelling.specs.Layout.{IsWritten}
use Rattle.bitstream_spelling.specs.Rules.{IsSmallOperand}
use Rattle.bitstream_spelling.specs.declared.operand.Operand.{Operand}
use Rattle.bitstream_spelling.specs.declared.operand.Operand.TheVariants.{Literal, Fixed, Vbr, Array, Char6, Blob, Faulty}
use Rattle.bitstream_values.specs.Numbers.{SeenAnswer}
use Rattle.bitstream_values.specs.Definitions.{made, encoded, IsOperand, NoOperand, GivenAnswer}
use Rattle.bitstream_values.specs.declared.definition.Given.{Given}
use Rattle.bitstream_values.specs.declared.number.Seen.{Seen}
use Rattle.bitstream_values.specs.declared.number.Seen.TheVariants.{Small, Large, Short}

-- an operand takes at least four bits
written_long : (c : Cursor) (op : Operand) (after : ℕ) → IsWritten c.bytes c.start c.place op after → c.place + 4 ≤ after
written_long c (Literal n) after l = omega (arith, vbr_takes c.bytes 8 (c.place + 1) n after l.1)
written_long c (Fixed w) after l = omega (arith, vbr_takes c.bytes 5 (c.place + 4) w after l.2)
written_long c (Vbr w) after l = omega (arith, vbr_takes c.bytes 5 (c.place + 4) w after l.2)
written_long c Array after l = omega (arith, l.2)
written_long c Char6 after l = omega (arith, l.2)
written_long c Blob after l = omega (arith, l.2)
written_long c Faulty after l = omega (arith, l.2)

other_encoding : (n : ℕ) → 6 ≤ n → encoded n ≡ Faulty
other_encoding n h = grind (arith, nat_tests)

pub no_bit : (c : Cursor) → c.end < c.place + 1 → NoOperand c
no_bit c h = record { none = λ op after l. omega (arith, h, written_long c op after l) }

module _ (old mid : Cursor) (bit : ℕ) (b : FixedAnswer (Some bit) old mid 1) where
  -- a literal
  literal_none : bit ≡ 1 → NoVbr old.bytes old.end (old.place + 1) 8 → (op : Operand) (after : ℕ) → IsWritten old.bytes old.start old.place op after → old.end < after
  literal_none e h (Literal n) after l = h.none n after l.1
  literal_none e h (Fixed w) after l = absurd (omega (arith, e, b.1, l.0))
  literal_none e h (Vbr w) after l = absurd (omega (arith, e, b.1, l.0))
  literal_none e h Array after l = absurd (omega (arith, e, b.1, l.0))
  literal_none e h Char6 after l = absurd (omega (arith, e, b.1, l.0))
  literal_none e h Blob after l = absurd (omega (arith, e, b.1, l.0))
  literal_none e h Faulty after l = absurd (omega (arith, e, b.1, l.0))

  pub literal_taken : (s : Seen) (new : Cursor) → bit ≡ 1 → SeenAnswer s mid new 8 → GivenAnswer (made Literal s) old new
  literal_taken (Small v) new e a =
      let place : new.place ≡ a.0 = ap (λ (c : Cursor). c.place) a.3 in
      let here : IsVbr old.bytes 8 (old.place + 1) v a.0 = subst (λ (c : Cursor). IsVbr c.bytes 8 c.place v a.0) b.2 a.1 in
      record {
        operand = Literal v;
        lays = (omega (arith, e, b.1), subst (λ p. IsVbr old.bytes 8 (old.place + 1) v p) (sym place) here);
        is = (refl, a.4);
        moves = rw (a.3, b.2) refl;
        within = omega (arith, place, a.2, ap (λ (c : Cursor). c.end) b.2);
      }
  literal_taken Large new e a =
      let place : new.place ≡ a.0 = ap (λ (c : Cursor). c.place) a.4 in
      let here : IsVbr old.bytes 8 (old.place + 1) a.1 a.0 = subst (λ (c : Cursor). IsVbr c.bytes 8 c.place a.1 a.0) b.2 a.2 in
      record {
        operand = Literal a.1;
        lays = (omega (arith, e, b.1), subst (λ p. IsVbr old.bytes 8 (old.place + 1) a.1 p) (sym place) here);
        is = (a.1, refl, a.5, refl);
        moves = rw (a.4, b.2) refl;
        within = omega (arith, place, a.3, ap (λ (c : Cursor). c.end) b.2);
      }
  literal_taken Short new e a = record { none = literal_none e (subst (λ (c : Cursor). NoVbr c.bytes c.end c.place 8) b.2 a) }

  module _ (zero_bit : num old.bytes old.place 1 ≡ 0) where
    pub no_encoding : mid.end < mid.place + 3 → NoOperand old
    no_encoding h = record { none = λ op after l. omega (arith, h, written_long old op after l, ap (λ (c : Cursor). c.end) b.2, ap (λ (c : Cursor). c.place) b.2) }

    module _ (low : Cursor) (encoding : ℕ) (t : FixedAnswer (Some encoding) mid low 3) where
      code : num old.bytes (old.place + 1) 3 ≡ encoding
      code = sym (subst (λ (c : Cursor). encoding ≡ num c.bytes c.place 3) b.2 t.1)

      place_is : low ≡ moved old (old.place + 4)
      place_is =
          let three : low ≡ moved old (old.place + 1 + 3) = subst (λ (c : Cursor). low ≡ moved c (c.place + 3)) b.2 t.2 in
          let four : old.place + 1 + 3 ≡ old.place + 4 = omega arith in
          three ∙ ap (λ p. moved old p) four

      fixed_none : encoding ≡ 1 → NoVbr old.bytes old.end (old.place + 4) 5 → (op : Operand) (after : ℕ) → IsWritten old.bytes old.start old.place op after → old.end < after
      fixed_none e h (Literal n) after l = absurd (omega (arith, zero_bit, l.0))
      fixed_none e h (Fixed w) after l = h.none w after l.2
      fixed_none e h (Vbr w) after l = absurd (omega (arith, e, code, l.1))
      fixed_none e h Array after l = absurd (omega (arith, e, code, l.1))
      fixed_none e h Char6 after l = absurd (omega (arith, e, code, l.1))
      fixed_none e h Blob after l = absurd (omega (arith, e, code, l.1))
      fixed_none e h Faulty after l = elim l.1 [ inl x ↦ absurd (omega (arith, e, code, x)) | inr x ↦ absurd (omega (arith, e, code, x)) ]

      vbr_none : encoding ≡ 2 → NoVbr old.bytes old.end (old.place + 4) 5 → (op : Operand) (after : ℕ) → IsWritten old.bytes old.start old.place op after → old.end < after
      vbr_none e h (Literal n) after l = absurd (omega (arith, zero_bit, l.0))
      vbr_none e h (Fixed w) after l = absurd (omega (arith, e, code, l.1))
      vbr_none e h (Vbr w) after l = h.none w after l.2
      vbr_none e h Array after l = absurd (omega (arith, e, code, l.1))
      vbr_none e h Char6 after l = absurd (omega (arith, e, code, l.1))
      vbr_none e h Blob after l = absurd (omega (arith, e, code, l.1))
      vbr_none e h Faulty after l = elim l.1 [ inl x ↦ absurd (omega (arith, e, code, x)) | inr x ↦ absurd (omega (arith, e, code, x)) ]

      pub fixed_taken : (s : Seen) (new : Cursor) → encoding ≡ 1 → SeenAnswer s low new 5 → GivenAnswer (made Fixed s) old new
      fixed_taken (Small v) new e a =
          let place : new.place ≡ a.0 = ap (λ (c : Cursor). c.place) a.3 in
          let here : IsVbr old.bytes 5 (old.place + 4) v a.0 = subst (λ (c : Cursor). IsVbr c.bytes 5 c.place v a.0) place_is a.1 in
          record {
            operand = Fixed v;
            lays = (zero_bit, code ∙ e, subst (λ p. IsVbr old.bytes 5 (old.place + 4) v p) (sym place) here);
            is = (refl, a.4);
            moves = rw (a.3, place_is) refl;
            within = omega (arith, place, a.2, ap (λ (c : Cursor). c.end) place_is);
          }
      fixed_taken Large new e a =
          let place : new.place ≡ a.0 = ap (λ (c : Cursor). c.place) a.4 in
          let here : IsVbr old.bytes 5 (old.place + 4) a.1 a.0 = subst (λ (c : Cursor). IsVbr c.bytes 5 c.place a.1 a.0) place_is a.2 in
          record {
            operand = Fixed a.1;
            lays = (zero_bit, code ∙ e, subst (λ p. IsVbr old.bytes 5 (old.place + 4) a.1 p) (sym place) here);
            is = (a.1, refl, a.5, refl);
            moves = rw (a.4, place_is) refl;
            within = omega (arith, place, a.3, ap (λ (c : Cursor). c.end) place_is);
          }
      fixed_taken Short new e a = record { none = fixed_none e (subst (λ (c : Cursor). NoVbr c.bytes c.end c.place 5) place_is a) }

      pub vbr_taken : (s : Seen) (new : Cursor) → encoding ≡ 2 → SeenAnswer s low new 5 → GivenAnswer (made Vbr s) old new
      vbr_taken (Small v) new e a =
          let place : new.place ≡ a.0 = ap (λ (c : Cursor). c.place) a.3 in
          let here : IsVbr old.bytes 5 (old.place + 4) v a.0 = subst (λ (c : Cursor). IsVbr c.bytes 5 c.place v a.0) place_is a.1 in
          record {
            operand = Vbr v;
            lays = (zero_bit, code ∙ e, subst (λ p. IsVbr old.bytes 5 (old.place + 4) v p) (sym place) here);
            is = (refl, a.4);
            moves = rw (a.3, place_is) refl;
            within = omega (arith, place, a.2, ap (λ (c : Cursor). c.end) place_is);
          }
      vbr_taken Large new e a =
          let place : new.place ≡ a.0 = ap (λ (c : Cursor). c.place) a.4 in
          let here : IsVbr old.bytes 5 (old.place + 4) a.1 a.0 = subst (λ (c : Cursor). IsVbr c.bytes 5 c.place a.1 a.0) place_is a.2 in
          record {
            operand = Vbr a.1;
            lays = (zero_bit, code ∙ e, subst (λ p. IsVbr old.bytes 5 (old.place + 4) a.1 p) (sym place) here);
            is = (a.1, refl, a.5, refl);
            moves = rw (a.4, place_is) refl;
            within = omega (arith, place, a.3, ap (λ (c : Cursor). c.end) place_is);
          }
      vbr_taken Short new e a = record { none = vbr_none e (subst (λ (c : Cursor). NoVbr c.bytes c.end c.place 5) place_is a) }

      kept : (op : Operand) → IsWritten old.bytes old.start old.place op (old.place + 4) → (op ≡ Array) ⊎ ((op ≡ Char6) ⊎ ((op ≡ Blob) ⊎ (op ≡ Faulty))) → IsOperand old low (record { operand = op; wide = false })
      kept op l which =
          let place : low.place ≡ old.place + 4 = ap (λ (c : Cursor). c.place) place_is in
          record {
            operand = op;
            lays = subst (λ p. IsWritten old.bytes old.start old.place op p) (sym place) l;
            is = (refl, small op which);
            moves = rw place_is refl;
            within = omega (arith, t.0, ap (λ (c : Cursor). c.end) b.2, ap (λ (c : Cursor). c.place) b.2, place);
          } where
            small : (o : Operand) → (o ≡ Array) ⊎ ((o ≡ Char6) ⊎ ((o ≡ Blob) ⊎ (o ≡ Faulty))) → IsSmallOperand o
            small (Literal n) (inl e) = absurd (cc)
            small (Literal n) (inr (inl e)) = absurd (cc)
            small (Literal n) (inr (inr (inl e))) = absurd (cc)
            small (Literal n) (inr (inr (inr e))) = absurd (cc)
            small (Fixed n) (inl e) = absurd (cc)
            small (Fixed n) (inr (inl e)) = absurd (cc)
            small (Fixed n) (inr (inr (inl e))) = absurd (cc)
            small (Fixed n) (inr (inr (inr e))) = absurd (cc)
            small (Vbr n) (inl e) = absurd (cc)
            small (Vbr n) (inr (inl e)) = absurd (cc)
            small (Vbr n) (inr (inr (inl e))) = absurd (cc)
            small (Vbr n) (inr (inr (inr e))) = absurd (cc)
            small Array w = tt
            small Char6 w = tt
            small Blob w = tt
            small Faulty w = tt

      pub other_taken : (op : Operand) → op ≡ encoded encoding → (encoding ≡ 1 → ⊥) → (encoding ≡ 2 → ⊥) → encoding < 8 → IsOperand old low (record { operand = op; wide = false })
      other_taken op e a c h = subst (λ (o : Operand). IsOperand old low (record { operand = o; wide = false })) (sym e) (by_code encoding refl) where
        by_code : (n : ℕ) → n ≡ encoding → IsOperand old low (record { operand = encoded n; wide = false })
        by_code zero q = kept Faulty (zero_bit, inl (code ∙ sym q), refl) (inr (inr (inr refl)))
        by_code (suc zero) q = absurd (a (sym q))
        by_code (suc (suc zero)) q = absurd (c (sym q))
        by_code (suc (suc (suc zero))) q = kept Array (zero_bit, code ∙ sym q, refl) (inl refl)
        by_code (suc (suc (suc (suc zero)))) q = kept Char6 (zero_bit, code ∙ sym q, refl) (inr (inl refl))
        by_code (suc (suc (suc (suc (suc zero))))) q = kept Blob (zero_bit, code ∙ sym q, refl) (inr (inr (inl refl)))
        by_code (suc (suc (suc (suc (suc (suc n)))))) q =
            subst (λ (o : Operand). IsOperand old low (record { operand = o; wide = false })) (sym (other_encoding (suc (suc (suc (suc (suc (suc n)))))) (omega arith))) (kept Faulty (zero_bit, inr (omega (arith, code, q)), refl) (inr (inr (inr refl))))

pub to_given : (o p : Option Given) (old new : Cursor) → o ≡ p → GivenAnswer p old new → GivenAnswer o old new
to_given o p old new e h = subst (λ (x : Option Given). GivenAnswer x old new) (sym e) h

-- a bit that is not 1
pub bit_clear : (bit n : ℕ) → bit ≡ n → bit < 2 → (bit ≡ 1 → ⊥) → n ≡ 0
bit_clear zero n e h k = sym e
bit_clear (suc zero) n e h k = absurd (k refl)
bit_clear (suc (suc b)) n e h k = absurd (omega arith)
