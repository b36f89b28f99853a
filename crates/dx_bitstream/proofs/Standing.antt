-- What passes the end at a place, by its abbreviation id.
use Rattle.std.proofs.Common.{ap, ◌∙◌, subst, ℕ, ◌≡◌, ◌+◌, ◌*◌, ◌<◌, ◌≤◌, List, length, arith, Some, None, Option, Bool, true, false, if◌then◌else◌}
use Rattle.std.specs.Prelude.{slice_get}
use Rattle.dx_base.specs.Bits.{num, IsVbr}
use Rattle.dx_base.proofs.VbrLaws.{vbr_takes}
use Rattle.bitstream_spelling.specs.declared.operand.Operand.TheVariants.{Vbr}
use Rattle.bitstream_spelling.specs.Layout.{Abbreviation, Shape, closes, enters, defines, plain, by, unknown, aligned, AreSpelled, AreWritten, IsPlain}
use Rattle.bitstream_spelling.specs.Spelling.{Place, Lays, IsEntry, reach, reads}
use Rattle.bitstream_spelling.specs.Rules.{Within, PassesEnd}
use Rattle.bitstream_spelling.proofs.Forward.{above, row_forward, spelled_forward, all_written_forward}

no_some : {X : Type 0} (x : X) (o : Option X) → o ≡ Some x → o ≡ None → ⊥
no_some x None e f = absurd (cc)
no_some x (Some y) e f = absurd (cc)

same_some : {X : Type 0} (x y : X) (o : Option X) → o ≡ Some x → o ≡ Some y → x ≡ y
same_some x y None e f = absurd (cc)
same_some x y (Some z) e f = cc

module _ (bytes : List ℕ) (start : ℕ) where
  pub entry_forward : (i id width words after : ℕ) → IsEntry bytes start i id width words after → i + 32 ≤ after
  entry_forward i id width words after e = omega (arith, vbr_takes bytes 8 i id e.next e.is_id, vbr_takes bytes 4 e.next width e.ends e.is_width, above start e.ends, e.is_after)

  pub plain_forward : (i code : ℕ) (row : List ℕ) (after : ℕ) → IsPlain bytes start i code row after → i ≤ after
  plain_forward i code row after p = omega (arith, vbr_takes bytes 6 i code p.next p.is_code, vbr_takes bytes 6 p.next (length row) p.last p.is_count, row_forward bytes start (Vbr 6) p.last row after p.are_fields)

reach_above : (p : Place) (id width words after : ℕ) → after ≤ reach p (enters id width words) after
reach_above p id width words after = branch (reads p.here.id id) where
  branch : (b : Bool) → after ≤ (if b then after else after + 32 * words)
  branch true = omega arith
  branch false = omega arith

module _ (bytes : List ℕ) (start end : ℕ) (p : Place) where
  pub no_id : end < p.at + p.here.width → PassesEnd bytes start end p
  no_id h = record { none = cases } where
    cases : (shape : Shape) (after : ℕ) → Lays bytes start p shape after → Within end p shape after → ⊥
    cases closes after l w = absurd (omega (arith, h, l.1, above start (p.at + p.here.width), w))
    cases (enters id width words) after l w = absurd (omega (arith, h, entry_forward bytes start (p.at + p.here.width) id width words after l.1, reach_above p id width words after, w))
    cases (defines ops) after l w = absurd (omega (arith, h, vbr_takes bytes 5 (p.at + p.here.width) (length ops) l.0 l.2, all_written_forward bytes start l.0 ops after l.3, w))
    cases (plain code row) after l w = absurd (omega (arith, h, plain_forward bytes start (p.at + p.here.width) code row after l.1, w))
    cases (by k values) after l w = absurd (omega (arith, h, spelled_forward bytes start l.1.0 (p.at + p.here.width) values after l.1.2, w))
    cases (unknown k) after l w = absurd (omega (arith, h, l.2, w))

  pub no_end : num bytes p.at p.here.width ≡ 0 → end < aligned start (p.at + p.here.width) → PassesEnd bytes start end p
  no_end i h = record { none = cases } where
    cases : (shape : Shape) (after : ℕ) → Lays bytes start p shape after → Within end p shape after → ⊥
    cases closes after l w = absurd (omega (arith, h, l.1, w))
    cases (enters id width words) after l w = absurd (omega (arith, i, l.0))
    cases (defines ops) after l w = absurd (omega (arith, i, l.1))
    cases (plain code row) after l w = absurd (omega (arith, i, l.0))
    cases (by k values) after l w = absurd (omega (arith, i, l.0))
    cases (unknown k) after l w = absurd (omega (arith, i, l.0))

  pub no_entry : num bytes p.at p.here.width ≡ 1 → ((id width words after : ℕ) → IsEntry bytes start (p.at + p.here.width) id width words after → reach p (enters id width words) after ≤ end → ⊥) → PassesEnd bytes start end p
  no_entry i h = record { none = cases } where
    cases : (shape : Shape) (after : ℕ) → Lays bytes start p shape after → Within end p shape after → ⊥
    cases closes after l w = absurd (omega (arith, i, l.0))
    cases (enters id width words) after l w = h id width words after l.1 w
    cases (defines ops) after l w = absurd (omega (arith, i, l.1))
    cases (plain code row) after l w = absurd (omega (arith, i, l.0))
    cases (by k values) after l w = absurd (omega (arith, i, l.0))
    cases (unknown k) after l w = absurd (omega (arith, i, l.0))

  -- no entry at all
  pub no_entry_at : num bytes p.at p.here.width ≡ 1 → ((id width words after : ℕ) → IsEntry bytes start (p.at + p.here.width) id width words after → end < after) → PassesEnd bytes start end p
  no_entry_at i h = no_entry i (λ id width words after e w. absurd (omega (arith, h id width words after e, reach_above p id width words after, w)))

  pub no_definition : num bytes p.at p.here.width ≡ 2 → ((ops : Abbreviation) (next after : ℕ) → IsVbr bytes 5 (p.at + p.here.width) (length ops) next → AreWritten bytes start next ops after → end < after) → PassesEnd bytes start end p
  no_definition i h = record { none = cases } where
    cases : (shape : Shape) (after : ℕ) → Lays bytes start p shape after → Within end p shape after → ⊥
    cases closes after l w = absurd (omega (arith, i, l.0))
    cases (enters id width words) after l w = absurd (omega (arith, i, l.0))
    cases (defines ops) after l w = absurd (omega (arith, h ops l.0 after l.2 l.3, w))
    cases (plain code row) after l w = absurd (omega (arith, i, l.0))
    cases (by k values) after l w = absurd (omega (arith, i, l.0))
    cases (unknown k) after l w = absurd (omega (arith, i, l.0))

  pub no_plain : num bytes p.at p.here.width ≡ 3 → ((code : ℕ) (row : List ℕ) (after : ℕ) → IsPlain bytes start (p.at + p.here.width) code row after → end < after) → PassesEnd bytes start end p
  no_plain i h = record { none = cases } where
    cases : (shape : Shape) (after : ℕ) → Lays bytes start p shape after → Within end p shape after → ⊥
    cases closes after l w = absurd (omega (arith, i, l.0))
    cases (enters id width words) after l w = absurd (omega (arith, i, l.0))
    cases (defines ops) after l w = absurd (omega (arith, i, l.1))
    cases (plain code row) after l w = absurd (omega (arith, h code row after l.1, w))
    cases (by k values) after l w = absurd (omega (arith, i, l.0))
    cases (unknown k) after l w = absurd (omega (arith, i, l.0))

  pub no_spelled : (k : ℕ) (form : Abbreviation) → num bytes p.at p.here.width ≡ 4 + k → slice_get p.here.forms k ≡ Some form
      → ((values : List ℕ) (after : ℕ) → AreSpelled bytes start form (p.at + p.here.width) values after → end < after) → PassesEnd bytes start end p
  no_spelled k form i f h = record { none = cases } where
    same_k : (j : ℕ) → num bytes p.at p.here.width ≡ 4 + j → k ≡ j
    same_k j e = omega (arith, i, e)

    cases : (shape : Shape) (after : ℕ) → Lays bytes start p shape after → Within end p shape after → ⊥
    cases closes after l w = absurd (omega (arith, i, l.0))
    cases (enters id width words) after l w = absurd (omega (arith, i, l.0))
    cases (defines ops) after l w = absurd (omega (arith, i, l.1))
    cases (plain code row) after l w = absurd (omega (arith, i, l.0))
    cases (by j values) after l w =
        let e : slice_get p.here.forms k ≡ Some l.1.0 = ap (λ (n : ℕ). slice_get p.here.forms n) (same_k j l.0) ∙ l.1.1 in
        let same : l.1.0 ≡ form = same_some l.1.0 form (slice_get p.here.forms k) e f in
        absurd (omega (arith, h values after (subst (λ (x : Abbreviation). AreSpelled bytes start x (p.at + p.here.width) values after) same l.1.2), w))
    cases (unknown j) after l w = no_some form (slice_get p.here.forms k) f (ap (λ (n : ℕ). slice_get p.here.forms n) (same_k j l.0) ∙ l.1)
