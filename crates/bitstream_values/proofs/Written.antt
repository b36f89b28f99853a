-- The operands of a definition, one by one.
use Rattle.std.proofs.Common.{ap, refl, sym, ◌∙◌, subst, ℕ, zero, suc, ◌≡◌, ◌+◌, ◌<◌, ◌≤◌, ◌^◌, ◌⊎◌, ◌↔◌, inl, inr, List, [], ◌∷◌, ◌++◌, length, arith, length-append, Bool, true, false, IsTrue, All, Result, Ok, Err}
use Rattle.std.proofs.lemmas.List.Elements.{All-push}
use Rattle.dx_base.specs.Bits.{IsVbr}
use Rattle.dx_base.specs.Cursor.{Cursor, moved, NoVbr}
use Rattle.dx_base.proofs.VbrLaws.{vbr_unique, vbr_takes}
use Rattle.bitstream_values.specs.Numbers.{SeenAnswer}
use Rattle.bitstream_values.specs.declared.number.Seen.TheVariants.{Small, Large}
use Rattle.bitstream_values.specs.declared.definition.Definition.{Definition}
use Rattle.bitstream_values.specs.declared.row.Stop.{Stop}
use Rattle.bitstream_values.specs.declared.row.Stop.TheVariants.{Ends, OutOfMemory}
use Rattle.bitstream_spelling.specs.Layout.{Abbreviation, IsWritten, AreWritten}
use Rattle.bitstream_spelling.specs.Rules.{IsSmallOperand, IsScalar}
use Rattle.bitstream_spelling.specs.declared.operand.Operand.{Operand}
use Rattle.bitstream_spelling.specs.declared.operand.Operand.TheVariants as op
use Rattle.bitstream_spelling.proofs.Unique.{written_unique}
use Rattle.bitstream_spelling.proofs.Forward.{all_written_forward}
use Rattle.bitstream_values.specs.Definitions.{IsWide, IsGiven, IsOperand, NoOperand}
use Rattle.bitstream_values.specs.Forms.{MayFollow, IsStep}
use Rattle.bitstream_values.specs.Operands.{IsKept, AreSmall, AreOperands, NoOperands, OperandsAnswer, NoDefinition, DefinitionAnswer}
use Rattle.bitstream_values.specs.declared.definition.Given.{Given}
use Rattle.bitstream_values.specs.declared.form.Form.{Form}
use Rattle.bitstream_values.specs.declared.form.Form.TheVariants.{Empty, Plain, Array, Closed, Faulty}
use Rattle.bitstream_values.proofs.FormLaws.{no_operands, one_more}

-- An operand with a wide number may stand where the kept one may.
literal_follow : (form : Form) (v n : ℕ) (ops : Abbreviation) → MayFollow form (op.Literal v ∷ ops) → MayFollow form (op.Literal n ∷ ops)
literal_follow Empty v n ops h = h
literal_follow Plain v n ops h = h
literal_follow Array v n [] h = h
literal_follow Array v n (x ∷ xs) h = h
literal_follow Closed v n ops h = h
literal_follow Faulty v n ops h = h

fixed_never : (form : Form) (n : ℕ) (ops : Abbreviation) → 64 < n → MayFollow form (op.Fixed n ∷ ops) → ⊥
fixed_never Empty n ops h x = omega (arith, x.0)
fixed_never Plain n ops h x = omega (arith, x.0)
fixed_never Array n [] h x = omega (arith, x)
fixed_never Array n (y ∷ ys) h x = x
fixed_never Closed n ops h x = x
fixed_never Faulty n ops h x = x

wide_width : (n : ℕ) → 64 < n → IsScalar (op.Vbr n) → ⊥
wide_width n h (inl e) = omega (arith, e)
wide_width n h (inr x) = omega (arith, x.1)

vbr_never : (form : Form) (n : ℕ) (ops : Abbreviation) → 64 < n → MayFollow form (op.Vbr n ∷ ops) → ⊥
vbr_never Empty n ops h x = wide_width n h x.0
vbr_never Plain n ops h x = wide_width n h x.0
vbr_never Array n [] h x = wide_width n h x
vbr_never Array n (y ∷ ys) h x = x
vbr_never Closed n ops h x = x
vbr_never Faulty n ops h x = x

wide_step : (form new_form : Form) (kept o : Operand) → IsWide kept o → IsStep form kept new_form → IsStep form o new_form
wide_step form new_form (op.Literal v) o w s = subst (λ (x : Operand). IsStep form x new_form) (sym w.1) (record {
  follows = λ ops h. s.follows ops (literal_follow form w.0 v ops h);
  followed = λ ops h. literal_follow form v w.0 ops (s.followed ops h);
})
wide_step form new_form (op.Fixed v) o w s = subst (λ (x : Operand). IsStep form x new_form) (sym w.1) (record {
  follows = λ ops h. absurd (fixed_never form w.0 ops (omega (arith, w.2)) h);
  followed = λ ops h. absurd (fixed_never form v ops (omega (arith, w.3)) (s.followed ops h));
})
wide_step form new_form (op.Vbr v) o w s = subst (λ (x : Operand). IsStep form x new_form) (sym w.1) (record {
  follows = λ ops h. absurd (vbr_never form w.0 ops (omega (arith, w.2)) h);
  followed = λ ops h. absurd (vbr_never form v ops (omega (arith, w.3)) (s.followed ops h));
})
wide_step form new_form op.Array o w s = absurd w
wide_step form new_form op.Char6 o w s = absurd w
wide_step form new_form op.Blob o w s = absurd w
wide_step form new_form op.Faulty o w s = absurd w

given_step : (form new_form : Form) (kept o : Operand) (wide : Bool) → IsGiven kept wide o → IsStep form kept new_form → IsStep form o new_form
given_step form new_form kept o false g s = subst (λ (x : Operand). IsStep form x new_form) g.0 s
given_step form new_form kept o true g s = wide_step form new_form kept o g s

wide_not_small : (kept o : Operand) → IsWide kept o → IsSmallOperand o → ⊥
wide_not_small (op.Literal v) o w h = let x : IsSmallOperand (op.Literal w.0) = subst IsSmallOperand w.1 h in omega (arith, x, w.2)
wide_not_small (op.Fixed v) o w h = let x : IsSmallOperand (op.Fixed w.0) = subst IsSmallOperand w.1 h in omega (arith, x, w.2)
wide_not_small (op.Vbr v) o w h = let x : IsSmallOperand (op.Vbr w.0) = subst IsSmallOperand w.1 h in omega (arith, x, w.2)
wide_not_small op.Array o w h = w
wide_not_small op.Char6 o w h = w
wide_not_small op.Blob o w h = w
wide_not_small op.Faulty o w h = w

module _ (bytes : List ℕ) (start : ℕ) where
  written_push : (i : ℕ) (ops : Abbreviation) (j : ℕ) (o : Operand) (k : ℕ) → AreWritten bytes start i ops j → IsWritten bytes start j o k → AreWritten bytes start i (ops ++ o ∷ []) k
  written_push i [] j o k a b = (k, subst (λ x. IsWritten bytes start x o k) a b, refl)
  written_push i (p ∷ ps) j o k a b = (a.0, a.1, written_push a.0 ps j o k a.2 b)

  written_split : (i : ℕ) (ops : Abbreviation) (j : ℕ) (more : Abbreviation) (k : ℕ) → AreWritten bytes start i ops j → AreWritten bytes start i more k → length ops ≤ length more → (rest : Abbreviation) × (more ≡ ops ++ rest) × AreWritten bytes start j rest k
  written_split i [] j more k a b h = (more, refl, subst (λ x. AreWritten bytes start x more k) (sym a) b)
  written_split i (p ∷ ps) j [] k a b h = absurd (omega arith)
  written_split i (p ∷ ps) j (q ∷ qs) k a b h =
      let u = written_unique bytes start i p q a.0 b.0 a.1 b.1 in
      let s = written_split a.0 ps j qs k a.2 (subst (λ x. AreWritten bytes start x qs k) (sym u.1) b.2) (omega arith) in
      (s.0, ap (λ o. o ∷ qs) (sym u.0) ∙ ap (λ (t : Abbreviation). p ∷ t) s.1, s.2)

all_last : (ops : Abbreviation) (o : Operand) → All IsSmallOperand (ops ++ o ∷ []) → IsSmallOperand o
all_last [] o h = h zero o (omega arith)
all_last (p ∷ ps) o h = all_last ps o (λ k d low. h (suc k) d (omega (arith, low)))

all_front : (ops : Abbreviation) (o : Operand) → All IsSmallOperand (ops ++ o ∷ []) → All IsSmallOperand ops
all_front [] o h = λ k d low. absurd (omega arith)
all_front (p ∷ ps) o h = cons p ps (h zero p (omega arith)) (all_front ps o (λ k d low. h (suc k) d (omega (arith, low)))) where
  cons : (x : Operand) (xs : Abbreviation) → IsSmallOperand x → All IsSmallOperand xs → All IsSmallOperand (x ∷ xs)
  cons x xs a b zero d low = a
  cons x xs a b (suc k) d low = b k d (omega (arith, low))

small_more : (wide given new_wide : Bool) (ops : Abbreviation) (kept o : Operand) → (IsTrue new_wide ↔ ((wide ≡ true) ⊎ (given ≡ true))) → AreSmall wide ops → IsGiven kept given o → AreSmall new_wide (ops ++ o ∷ [])
small_more false false false ops kept o e s g = All-push IsSmallOperand ops o s g.1
small_more false false true ops kept o e s g = elim (e.0 refl) [ inl x ↦ absurd (cc) | inr x ↦ absurd (cc) ]
small_more true given true ops kept o e s g = λ all. s (all_front ops o all)
small_more true given false ops kept o e s g = let x : false ≡ true = e.1 (inl refl) in absurd (cc)
small_more false true true ops kept o e s g = λ all. wide_not_small kept o g (all_last ops o all)
small_more false true false ops kept o e s g = let x : false ≡ true = e.1 (inr refl) in absurd (cc)

not_wide : (wide given new_wide : Bool) → (IsTrue new_wide ↔ ((wide ≡ true) ⊎ (given ≡ true))) → new_wide ≡ false → (wide ≡ false) × (given ≡ false)
not_wide false false new_wide e h = (refl, refl)
not_wide true given new_wide e h = let x : new_wide ≡ true = e.1 (inl refl) in absurd (cc)
not_wide false true new_wide e h = let x : new_wide ≡ true = e.1 (inr refl) in absurd (cc)

given_same : (kept o : Operand) (wide : Bool) → wide ≡ false → IsGiven kept wide o → kept ≡ o
given_same kept o false e g = g.0
given_same kept o true e g = absurd (cc)

pub none_read : (c : Cursor) (most : ℕ) (list : Abbreviation) → list ≡ [] → c.place ≤ c.end → AreOperands c c 0 most list false Empty
none_read c most list e h = record { ops = []; lays = refl; counted = refl; is = no_operands; small = λ k d low. absurd (omega arith); same = λ w n. e; moves = refl; within = h }

pub one_read : (old mid new : Cursor) (count most : ℕ) (kept new_kept : Abbreviation) (wide new_wide : Bool) (form new_form : Form) (given : Given) → AreOperands old mid count most kept wide form → IsOperand mid new given
    → (IsTrue new_wide ↔ ((wide ≡ true) ⊎ (given.wide ≡ true))) → IsStep form given.operand new_form → IsKept kept new_kept given.operand count most → AreOperands old new (count + 1) most new_kept new_wide new_form
one_read old mid new count most kept new_kept wide new_wide form new_form given t o either step keep =
    let here : IsWritten old.bytes old.start mid.place o.operand new.place = subst (λ (c : Cursor). IsWritten c.bytes c.start mid.place o.operand new.place) t.moves o.lays in
    record {
      ops = t.ops ++ o.operand ∷ [];
      lays = written_push old.bytes old.start old.place t.ops mid.place o.operand new.place t.lays here;
      counted = omega (arith, t.counted, length-append t.ops (o.operand ∷ []));
      is = one_more form new_form t.ops o.operand t.is (given_step form new_form given.operand o.operand given.wide o.is step);
      small = small_more wide given.wide new_wide t.ops given.operand o.operand either t.small o.is;
      same = λ w n.
          let both = not_wide wide given.wide new_wide either w in
          keep.kept (omega arith) ∙ ap (λ (l : Abbreviation). l ++ given.operand ∷ []) (t.same both.0 (omega arith)) ∙ ap (λ (x : Operand). t.ops ++ x ∷ []) (given_same given.operand o.operand given.wide both.1 o.is);
      moves = o.moves ∙ ap (λ (c : Cursor). moved c new.place) t.moves;
      within = omega (arith, o.within, ap (λ (c : Cursor). c.end) t.moves);
    }

pub none_more : (old mid : Cursor) (taken count most : ℕ) (kept : Abbreviation) (wide : Bool) (form : Form) → AreOperands old mid taken most kept wide form → taken < count → NoOperand mid → NoOperands old count
none_more old mid taken count most kept wide form t more h = record {
  none = λ ops after l n.
      let s = written_split old.bytes old.start old.place t.ops mid.place ops after t.lays l (omega (arith, t.counted)) in
      missing s.0 ops after s.1 s.2 n;
} where
  missing : (rest ops : Abbreviation) (after : ℕ) → ops ≡ t.ops ++ rest → AreWritten old.bytes old.start mid.place rest after → length ops ≡ count → old.end < after
  missing [] ops after e l n = absurd (omega (arith, ap length e, length-append t.ops [], t.counted))
  missing (o ∷ os) ops after e l n =
      let here : IsWritten mid.bytes mid.start mid.place o l.0 = subst (λ (c : Cursor). IsWritten c.bytes c.start mid.place o l.0) (sym t.moves) l.1 in
      omega (arith, h.none o l.0 here, all_written_forward old.bytes old.start l.0 os after l.2, ap (λ (c : Cursor). c.end) t.moves)

-- definitions
written_takes : (bytes : List ℕ) (start i : ℕ) (o : Operand) (j : ℕ) → IsWritten bytes start i o j → i + 1 ≤ j
written_takes bytes start i (op.Literal n) j l = omega (arith, vbr_takes bytes 8 (i + 1) n j l.1)
written_takes bytes start i (op.Fixed w) j l = omega (arith, vbr_takes bytes 5 (i + 4) w j l.2)
written_takes bytes start i (op.Vbr w) j l = omega (arith, vbr_takes bytes 5 (i + 4) w j l.2)
written_takes bytes start i op.Array j l = omega (arith, l.2)
written_takes bytes start i op.Char6 j l = omega (arith, l.2)
written_takes bytes start i op.Blob j l = omega (arith, l.2)
written_takes bytes start i op.Faulty j l = omega (arith, l.2)

pub written_many : (bytes : List ℕ) (start i : ℕ) (ops : Abbreviation) (j : ℕ) → AreWritten bytes start i ops j → i + length ops ≤ j
written_many bytes start i [] j l = omega (arith, l)
written_many bytes start i (o ∷ os) j l = omega (arith, written_takes bytes start i o l.0 l.1, written_many bytes start l.0 os j l.2)

pub large_definition : (old new : Cursor) → old.end < 2 ^ 64 → SeenAnswer Large old new 5 → NoDefinition old
large_definition old new end s = record {
  none = λ ops next after c l.
      let u = vbr_unique old.bytes 5 old.place (length ops) s.1 next s.0 c s.2 in
      omega (arith, u.0, s.5, written_many old.bytes old.start next ops after l);
}

pub short_definition : (old : Cursor) → NoVbr old.bytes old.end old.place 5 → NoDefinition old
short_definition old h = record { none = λ ops next after c l. omega (arith, h.none (length ops) next c, all_written_forward old.bytes old.start next ops after l) }

pub definition_of : (r : Result Definition Stop) (old mid new : Cursor) (count most : ℕ) → SeenAnswer (Small count) old mid 5 → OperandsAnswer r mid new count most → DefinitionAnswer r old new most
definition_of (Ok d) old mid new count most s a =
    let t = a.0 in
    record {
      ops = t.ops;
      next = s.0;
      is_count = subst (λ n. IsVbr old.bytes 5 old.place n s.0) (sym t.counted) s.1;
      lays = subst (λ (c : Cursor). AreWritten c.bytes c.start c.place t.ops new.place) s.3 t.lays;
      counted = t.counted ∙ sym a.1;
      is = t.is;
      small = t.small;
      same = λ w n. t.same w (omega (arith, n, a.1));
      moves = t.moves ∙ ap (λ (c : Cursor). moved c new.place) s.3;
      within = omega (arith, t.within, ap (λ (c : Cursor). c.end) s.3);
    }
definition_of (Err Ends) old mid new count most s a = record {
  none = λ ops next after c l.
      let u = vbr_unique old.bytes 5 old.place (length ops) count next s.0 c s.1 in
      let here : AreWritten old.bytes old.start s.0 ops after = subst (λ p. AreWritten old.bytes old.start p ops after) u.1 l in
      let there : AreWritten mid.bytes mid.start mid.place ops after = subst (λ (c : Cursor). AreWritten c.bytes c.start c.place ops after) (sym s.3) here in
      omega (arith, a.none ops after there u.0, ap (λ (c : Cursor). c.end) s.3);
}
definition_of (Err OutOfMemory) old mid new count most s a = tt
