-- One thing stands at a place.
use Rattle.std.proofs.Common.{ap, refl, sym, ◌∙◌, subst, zero, suc, ℕ, ◌≡◌, ◌+◌, ◌≤◌, ◌⊎◌, inl, inr, List, [], ◌∷◌, length, arith, Option, Some, None}
use Rattle.dx_base.specs.Bits.{num, IsVbr}
use Rattle.dx_base.proofs.VbrLaws.{vbr_unique}
use Rattle.std.specs.Prelude.{slice_get}
use Rattle.bitstream_spelling.specs.Layout.{Abbreviation, Shape, closes, enters, defines, plain, by, unknown, aligned, IsValue, AreValues, AreCounted, AreSpelled, IsPlain, IsWritten, AreWritten}
use Rattle.bitstream_spelling.specs.declared.operand.Operand.{Operand}
use Rattle.bitstream_spelling.specs.declared.operand.Operand.TheVariants.{Literal, Fixed, Vbr, Array, Char6, Blob, Faulty}
use Rattle.bitstream_spelling.specs.Spelling.{Place, Lays, IsEntry}

not_faulty : (e n : ℕ) → (e ≡ 0) ⊎ (6 ≤ e) → 1 ≤ n → n ≤ 5 → e ≡ n → ⊥
not_faulty e n (inl a) l h x = omega arith
not_faulty e n (inr a) l h x = omega arith

module _ (bytes : List ℕ) (start : ℕ) where
  pub value_unique : (op : Operand) (i v w j k : ℕ) → IsValue bytes start op i v j → IsValue bytes start op i w k → (v ≡ w) × (j ≡ k)
  value_unique (Literal n) i v w j k a b = (a.0 ∙ sym b.0, a.1 ∙ sym b.1)
  value_unique (Fixed n) i v w j k a b = (a.0 ∙ sym b.0, a.1 ∙ sym b.1)
  value_unique (Vbr zero) i v w j k a b = (a.0 ∙ sym b.0, a.1 ∙ sym b.1)
  value_unique (Vbr (suc n)) i v w j k a b = vbr_unique bytes (suc n) i v w j k a b
  value_unique Char6 i v w j k a b = (a.0 ∙ sym b.0, a.1 ∙ sym b.1)
  value_unique Array i v w j k a b = absurd a
  value_unique Blob i v w j k a b = absurd a
  value_unique Faulty i v w j k a b = absurd a

  pub row_unique : (op : Operand) (i : ℕ) (xs ys : List ℕ) (j k : ℕ) → AreValues bytes start op i xs j → AreValues bytes start op i ys k → length xs ≡ length ys → (xs ≡ ys) × (j ≡ k)
  row_unique op i [] [] j k a b h = (refl, a ∙ sym b)
  row_unique op i [] (y ∷ ys) j k a b h = absurd (omega arith)
  row_unique op i (x ∷ xs) [] j k a b h = absurd (omega arith)
  row_unique op i (x ∷ xs) (y ∷ ys) j k a b h =
      let u = value_unique op i x y a.0 b.0 a.1 b.1 in
      let r = row_unique op b.0 xs ys j k (subst (λ n. AreValues bytes start op n xs j) u.1 a.2) b.2 (omega arith) in
      (cc (u.0, r.0), r.1)

  pub counted_unique : (op : Operand) (i : ℕ) (xs ys : List ℕ) (j k : ℕ) → AreCounted bytes start op i xs j → AreCounted bytes start op i ys k → (xs ≡ ys) × (j ≡ k)
  counted_unique op i xs ys j k a b =
      let u = vbr_unique bytes 6 i (length xs) (length ys) a.0 b.0 a.1 b.1 in
      row_unique op b.0 xs ys j k (subst (λ n. AreValues bytes start op n xs j) u.1 a.2) b.2 u.0

  pub spelled_unique : (ops : Abbreviation) (i : ℕ) (xs ys : List ℕ) (j k : ℕ) → AreSpelled bytes start ops i xs j → AreSpelled bytes start ops i ys k → (xs ≡ ys) × (j ≡ k)
  spelled_unique [] i xs ys j k a b = (a.0 ∙ sym b.0, a.1 ∙ sym b.1)
  spelled_unique (Array ∷ element ∷ _) i xs ys j k a b = counted_unique element i xs ys j k a b
  spelled_unique (Blob ∷ _) i xs ys j k a b =
      let u = vbr_unique bytes 6 i (length xs) (length ys) a.0 b.0 a.2 b.2 in
      let r = row_unique (Fixed 8) (aligned start b.0) xs ys a.1 b.1 (subst (λ n. AreValues bytes start (Fixed 8) (aligned start n) xs a.1) u.1 a.3) b.3 u.0 in
      (r.0, a.4 ∙ ap (aligned start) r.1 ∙ sym b.4)
  spelled_unique (op ∷ ops) i xs ys j k a b =
      let u = value_unique op i a.0 b.0 a.1 b.1 a.3 b.3 in
      let r = spelled_unique ops b.1 a.2 b.2 j k (subst (λ n. AreSpelled bytes start ops n a.2 j) u.1 a.4) b.4 in
      (a.5 ∙ cc (u.0, r.0) ∙ sym b.5, r.1)

  pub written_unique : (i : ℕ) (a b : Operand) (j k : ℕ) → IsWritten bytes start i a j → IsWritten bytes start i b k → (a ≡ b) × (j ≡ k)
  written_unique i (Literal n) (Literal o) j k l m = let u = vbr_unique bytes 8 (i + 1) n o j k l.1 m.1 in (ap Literal u.0, u.1)
  written_unique i (Literal n) (Fixed w) j k l m = absurd (omega (arith, l.0, m.0))
  written_unique i (Literal n) (Vbr w) j k l m = absurd (omega (arith, l.0, m.0))
  written_unique i (Literal n) Array j k l m = absurd (omega (arith, l.0, m.0))
  written_unique i (Literal n) Char6 j k l m = absurd (omega (arith, l.0, m.0))
  written_unique i (Literal n) Blob j k l m = absurd (omega (arith, l.0, m.0))
  written_unique i (Literal n) Faulty j k l m = absurd (omega (arith, l.0, m.0))
  written_unique i (Fixed v) (Literal o) j k l m = absurd (omega (arith, l.0, m.0))
  written_unique i (Fixed v) (Fixed w) j k l m = let u = vbr_unique bytes 5 (i + 4) v w j k l.2 m.2 in (ap Fixed u.0, u.1)
  written_unique i (Fixed v) (Vbr w) j k l m = absurd (omega (arith, l.1, m.1))
  written_unique i (Fixed v) Array j k l m = absurd (omega (arith, l.1, m.1))
  written_unique i (Fixed v) Char6 j k l m = absurd (omega (arith, l.1, m.1))
  written_unique i (Fixed v) Blob j k l m = absurd (omega (arith, l.1, m.1))
  written_unique i (Fixed v) Faulty j k l m = absurd (not_faulty (num bytes (i + 1) 3) 1 m.1 (omega arith) (omega arith) l.1)
  written_unique i (Vbr v) (Literal o) j k l m = absurd (omega (arith, l.0, m.0))
  written_unique i (Vbr v) (Fixed w) j k l m = absurd (omega (arith, l.1, m.1))
  written_unique i (Vbr v) (Vbr w) j k l m = let u = vbr_unique bytes 5 (i + 4) v w j k l.2 m.2 in (ap Vbr u.0, u.1)
  written_unique i (Vbr v) Array j k l m = absurd (omega (arith, l.1, m.1))
  written_unique i (Vbr v) Char6 j k l m = absurd (omega (arith, l.1, m.1))
  written_unique i (Vbr v) Blob j k l m = absurd (omega (arith, l.1, m.1))
  written_unique i (Vbr v) Faulty j k l m = absurd (not_faulty (num bytes (i + 1) 3) 2 m.1 (omega arith) (omega arith) l.1)
  written_unique i Array (Literal o) j k l m = absurd (omega (arith, l.0, m.0))
  written_unique i Array (Fixed w) j k l m = absurd (omega (arith, l.1, m.1))
  written_unique i Array (Vbr w) j k l m = absurd (omega (arith, l.1, m.1))
  written_unique i Array Array j k l m = (refl, l.2 ∙ sym m.2)
  written_unique i Array Char6 j k l m = absurd (omega (arith, l.1, m.1))
  written_unique i Array Blob j k l m = absurd (omega (arith, l.1, m.1))
  written_unique i Array Faulty j k l m = absurd (not_faulty (num bytes (i + 1) 3) 3 m.1 (omega arith) (omega arith) l.1)
  written_unique i Char6 (Literal o) j k l m = absurd (omega (arith, l.0, m.0))
  written_unique i Char6 (Fixed w) j k l m = absurd (omega (arith, l.1, m.1))
  written_unique i Char6 (Vbr w) j k l m = absurd (omega (arith, l.1, m.1))
  written_unique i Char6 Array j k l m = absurd (omega (arith, l.1, m.1))
  written_unique i Char6 Char6 j k l m = (refl, l.2 ∙ sym m.2)
  written_unique i Char6 Blob j k l m = absurd (omega (arith, l.1, m.1))
  written_unique i Char6 Faulty j k l m = absurd (not_faulty (num bytes (i + 1) 3) 4 m.1 (omega arith) (omega arith) l.1)
  written_unique i Blob (Literal o) j k l m = absurd (omega (arith, l.0, m.0))
  written_unique i Blob (Fixed w) j k l m = absurd (omega (arith, l.1, m.1))
  written_unique i Blob (Vbr w) j k l m = absurd (omega (arith, l.1, m.1))
  written_unique i Blob Array j k l m = absurd (omega (arith, l.1, m.1))
  written_unique i Blob Char6 j k l m = absurd (omega (arith, l.1, m.1))
  written_unique i Blob Blob j k l m = (refl, l.2 ∙ sym m.2)
  written_unique i Blob Faulty j k l m = absurd (not_faulty (num bytes (i + 1) 3) 5 m.1 (omega arith) (omega arith) l.1)
  written_unique i Faulty (Literal o) j k l m = absurd (omega (arith, l.0, m.0))
  written_unique i Faulty (Fixed w) j k l m = absurd (not_faulty (num bytes (i + 1) 3) 1 l.1 (omega arith) (omega arith) m.1)
  written_unique i Faulty (Vbr w) j k l m = absurd (not_faulty (num bytes (i + 1) 3) 2 l.1 (omega arith) (omega arith) m.1)
  written_unique i Faulty Array j k l m = absurd (not_faulty (num bytes (i + 1) 3) 3 l.1 (omega arith) (omega arith) m.1)
  written_unique i Faulty Char6 j k l m = absurd (not_faulty (num bytes (i + 1) 3) 4 l.1 (omega arith) (omega arith) m.1)
  written_unique i Faulty Blob j k l m = absurd (not_faulty (num bytes (i + 1) 3) 5 l.1 (omega arith) (omega arith) m.1)
  written_unique i Faulty Faulty j k l m = (refl, l.2 ∙ sym m.2)

  pub all_written_unique : (i : ℕ) (xs ys : Abbreviation) (j k : ℕ) → AreWritten bytes start i xs j → AreWritten bytes start i ys k → length xs ≡ length ys → (xs ≡ ys) × (j ≡ k)
  all_written_unique i [] [] j k a b h = (refl, a ∙ sym b)
  all_written_unique i [] (y ∷ ys) j k a b h = absurd (omega arith)
  all_written_unique i (x ∷ xs) [] j k a b h = absurd (omega arith)
  all_written_unique i (x ∷ xs) (y ∷ ys) j k a b h =
      let u = written_unique i x y a.0 b.0 a.1 b.1 in
      let r = all_written_unique b.0 xs ys j k (subst (λ n. AreWritten bytes start n xs j) u.1 a.2) b.2 (omega arith) in
      (cc (u.0, r.0), r.1)

  pub entry_unique : (i id width words after id2 width2 words2 after2 : ℕ) → IsEntry bytes start i id width words after → IsEntry bytes start i id2 width2 words2 after2
      → (id ≡ id2) × (width ≡ width2) × (words ≡ words2) × (after ≡ after2)
  entry_unique i id width words after id2 width2 words2 after2 a b =
      let u = vbr_unique bytes 8 i id id2 a.next b.next a.is_id b.is_id in
      let w = vbr_unique bytes 4 b.next width width2 a.ends b.ends (subst (λ x. IsVbr bytes 4 x width a.ends) u.1 a.is_width) b.is_width in
      (u.0, w.0, a.is_words ∙ ap (λ e. num bytes (aligned start e) 32) w.1 ∙ sym b.is_words, a.is_after ∙ ap (λ e. aligned start e + 32) w.1 ∙ sym b.is_after)

  pub plain_unique : (i code code2 : ℕ) (row row2 : List ℕ) (after after2 : ℕ) → IsPlain bytes start i code row after → IsPlain bytes start i code2 row2 after2 → (code ≡ code2) × (row ≡ row2) × (after ≡ after2)
  plain_unique i code code2 row row2 after after2 a b =
      let u = vbr_unique bytes 6 i code code2 a.next b.next a.is_code b.is_code in
      let n = vbr_unique bytes 6 b.next (length row) (length row2) a.last b.last (subst (λ x. IsVbr bytes 6 x (length row) a.last) u.1 a.is_count) b.is_count in
      let v = row_unique (Vbr 6) b.last row row2 after after2 (subst (λ x. AreValues bytes start (Vbr 6) x row after) n.1 a.are_fields) b.are_fields n.0 in
      (u.0, v.0, v.1)

  same_id : (w n x u : ℕ) → n ≡ 4 + x → n ≡ 4 + u → x ≡ u
  same_id w n x u a b = omega arith

  some_same : (x y : Abbreviation) (o : Option Abbreviation) → o ≡ Some x → o ≡ Some y → x ≡ y
  some_same x y o a b = cc

  by_unique : (p : Place) (x : ℕ) (y : List ℕ) (i u : ℕ) (v : List ℕ) (j : ℕ) → Lays bytes start p (by x y) i → Lays bytes start p (by u v) j → (by x y ≡ by u v) × (i ≡ j)
  by_unique p x y i u v j l m =
      let k = same_id p.here.width (num bytes p.at p.here.width) x u l.0 m.0 in
      let f = some_same l.1.0 m.1.0 (slice_get p.here.forms u) (subst (λ n. slice_get p.here.forms n ≡ Some l.1.0) k l.1.1) m.1.1 in
      let e = spelled_unique m.1.0 (p.at + p.here.width) y v i j (subst (λ o. AreSpelled bytes start o (p.at + p.here.width) y i) f l.1.2) m.1.2 in
      (cc (k, e.0), e.1)

  no_form : (p : Place) (x : ℕ) (y : List ℕ) (i u : ℕ) → Lays bytes start p (by x y) i → num bytes p.at p.here.width ≡ 4 + u → slice_get p.here.forms u ≡ None → ⊥
  no_form p x y i u l a b =
      let k = same_id p.here.width (num bytes p.at p.here.width) x u l.0 a in
      let s : slice_get p.here.forms u ≡ Some l.1.0 = subst (λ n. slice_get p.here.forms n ≡ Some l.1.0) k l.1.1 in
      absurd (cc)

  -- one thing stands at a place
  pub lays_unique : (p : Place) (a : Shape) (i : ℕ) (b : Shape) (j : ℕ) → Lays bytes start p a i → Lays bytes start p b j → (a ≡ b) × (i ≡ j)
  lays_unique p closes i closes j l m = (refl, l.1 ∙ sym m.1)
  lays_unique p closes i (enters u v w) j l m = absurd (omega (arith, l.0, m.0))
  lays_unique p closes i (defines u) j l m = absurd (omega (arith, l.0, m.1))
  lays_unique p closes i (plain u v) j l m = absurd (omega (arith, l.0, m.0))
  lays_unique p closes i (by u v) j l m = absurd (omega (arith, l.0, m.0))
  lays_unique p closes i (unknown u) j l m = absurd (omega (arith, l.0, m.0))
  lays_unique p (enters x y z) i closes j l m = absurd (omega (arith, l.0, m.0))
  lays_unique p (enters x y z) i (enters u v w) j l m = let e = entry_unique (p.at + p.here.width) x y z i u v w j l.1 m.1 in (cc (e.0, e.1, e.2), e.3)
  lays_unique p (enters x y z) i (defines u) j l m = absurd (omega (arith, l.0, m.1))
  lays_unique p (enters x y z) i (plain u v) j l m = absurd (omega (arith, l.0, m.0))
  lays_unique p (enters x y z) i (by u v) j l m = absurd (omega (arith, l.0, m.0))
  lays_unique p (enters x y z) i (unknown u) j l m = absurd (omega (arith, l.0, m.0))
  lays_unique p (defines x) i closes j l m = absurd (omega (arith, l.1, m.0))
  lays_unique p (defines x) i (enters u v w) j l m = absurd (omega (arith, l.1, m.0))
  lays_unique p (defines x) i (defines u) j l m = let c = vbr_unique bytes 5 (p.at + p.here.width) (length x) (length u) l.0 m.0 l.2 m.2 in let e = all_written_unique m.0 x u i j (subst (λ n. AreWritten bytes start n x i) c.1 l.3) m.3 c.0 in (ap defines e.0, e.1)
  lays_unique p (defines x) i (plain u v) j l m = absurd (omega (arith, l.1, m.0))
  lays_unique p (defines x) i (by u v) j l m = absurd (omega (arith, l.1, m.0))
  lays_unique p (defines x) i (unknown u) j l m = absurd (omega (arith, l.1, m.0))
  lays_unique p (plain x y) i closes j l m = absurd (omega (arith, l.0, m.0))
  lays_unique p (plain x y) i (enters u v w) j l m = absurd (omega (arith, l.0, m.0))
  lays_unique p (plain x y) i (defines u) j l m = absurd (omega (arith, l.0, m.1))
  lays_unique p (plain x y) i (plain u v) j l m = let e = plain_unique (p.at + p.here.width) x u y v i j l.1 m.1 in (cc (e.0, e.1), e.2)
  lays_unique p (plain x y) i (by u v) j l m = absurd (omega (arith, l.0, m.0))
  lays_unique p (plain x y) i (unknown u) j l m = absurd (omega (arith, l.0, m.0))
  lays_unique p (by x y) i closes j l m = absurd (omega (arith, l.0, m.0))
  lays_unique p (by x y) i (enters u v w) j l m = absurd (omega (arith, l.0, m.0))
  lays_unique p (by x y) i (defines u) j l m = absurd (omega (arith, l.0, m.1))
  lays_unique p (by x y) i (plain u v) j l m = absurd (omega (arith, l.0, m.0))
  lays_unique p (by x y) i (by u v) j l m = by_unique p x y i u v j l m
  lays_unique p (by x y) i (unknown u) j l m = absurd (no_form p x y i u l m.0 m.1)
  lays_unique p (unknown x) i closes j l m = absurd (omega (arith, l.0, m.0))
  lays_unique p (unknown x) i (enters u v w) j l m = absurd (omega (arith, l.0, m.0))
  lays_unique p (unknown x) i (defines u) j l m = absurd (omega (arith, l.0, m.1))
  lays_unique p (unknown x) i (plain u v) j l m = absurd (omega (arith, l.0, m.0))
  lays_unique p (unknown x) i (by u v) j l m = absurd (no_form p u v j x m l.0 l.1)
  lays_unique p (unknown x) i (unknown u) j l m = (ap unknown (same_id p.here.width (num bytes p.at p.here.width) x u l.0 m.0), l.2 ∙ sym m.2)
