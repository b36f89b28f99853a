-- A reader and the place that it has come to.
use Rattle.std.proofs.Common.{ap, refl, sym, ◌∙◌, subst, ℕ, ◌≡◌, ◌+◌, List, [], ◌∷◌, ◌++◌, arith, append-nil, Bool, true, false, IsTrue, ◌↔◌, Result, Ok, Err}
use Rattle.std.specs.Result.{is_err, OnOk}
use Rattle.std.proofs.lemmas.List.Sums.{sum_by-append}
use Rattle.dx_base.specs.Bits.{num}
use Rattle.dx_base.specs.Cursor.{Cursor, moved}
use Rattle.dx_base.specs.declared.fault.Fault.{Fault}
use Rattle.dx_base.specs.declared.fault.Fault.TheVariants.{Refused, Limit, OutOfMemory}
use Rattle.dx_base.specs.declared.fault.Rule.TheVariants.{B, C, Y, M, N, P}
use Rattle.dx_base.specs.declared.fault.Which.TheVariants as which
use Rattle.bitstream_spelling.specs.Spelling.{Block, Place}
use Rattle.bitstream_spelling.specs.Rules.{IsInside, records, is_record}
use Rattle.bitstream_spelling.specs.declared.item.Item.{Item}
use Rattle.dx_bitstream.specs.Places.{IsBlockOf, AreBlocksOf, IsAt}
use Rattle.dx_bitstream.specs.Steps.{HaltAnswer, IsStepped, NoStep, StepAnswer}
use Rattle.dx_bitstream.specs.declared.info.Info.{Info}
use Rattle.dx_bitstream.specs.declared.reader.Open.{Open}
use Rattle.dx_bitstream.specs.declared.reader.Reader.{Reader}

pub not_true : (b : Bool) → (IsTrue b → ⊥) → b ≡ false
not_true true h = absurd (h refl)
not_true false h = refl

pub untrue : {A : Type 0} (b : Bool) → b ≡ false → (IsTrue b ↔ A) → A → ⊥
untrue b e h a = let t : b ≡ true = h.1 a in absurd (cc)

pub true_of : {A : Type 0} (b : Bool) → b ≡ true → (IsTrue b ↔ A) → A
true_of b e h = h.0 e

-- what holds where a call is Ok
pub where_ok : {E P : Type 0} (r : Result (Unit {0}) E) (b : Bool) → b ≡ is_err r → b ≡ false → OnOk r P → P
where_ok (Ok x) b e f h = h
where_ok (Err x) b e f h = absurd (cc)

pub on_ok_map : {E P Q : Type 0} (r : Result (Unit {0}) E) → (P → Q) → OnOk r P → OnOk r Q
on_ok_map (Ok x) f h = f h
on_ok_map (Err x) f h = h

pub records_more : (is : List Item) (x : Item) → records (is ++ x ∷ []) ≡ records is + is_record x
records_more is x = omega (arith, sum_by-append is_record is (x ∷ []))

pub records_none : (is : List Item) → records (is ++ []) ≡ records is
records_none is = ap records (append-nil is)

-- the blocks around
pub no_blocks : (g : Info) (os : List Open) (bs : List Block) → AreBlocksOf g os bs → os ≡ [] → bs ≡ []
no_blocks g [] [] h e = refl
no_blocks g [] (b ∷ bs) h e = absurd h
no_blocks g (o ∷ os) bs h e = absurd (cc)

pub no_opens : (g : Info) (os : List Open) (bs : List Block) → AreBlocksOf g os bs → bs ≡ [] → os ≡ []
no_opens g [] bs h e = refl
no_opens g (o ∷ os) [] h e = absurd h
no_opens g (o ∷ os) (b ∷ bs) h e = absurd (cc)

pub record AreMore (g : Info) (o : Open) (os : List Open) (bs : List Block) : Type 0 where
  pub block : Block
  pub rest : List Block
  pub is : bs ≡ block ∷ rest
  pub first : IsBlockOf g o block
  pub others : AreBlocksOf g os rest

more_of : (g : Info) (o : Open) (os : List Open) (bs : List Block) → AreBlocksOf g (o ∷ os) bs → AreMore g o os bs
more_of g o os [] h = absurd h
more_of g o os (b ∷ bs) h = record { block = b; rest = bs; is = refl; first = h.0; others = h.1 }

pub more_blocks : (g : Info) (o : Open) (os all : List Open) (bs : List Block) → all ≡ o ∷ os → AreBlocksOf g all bs → AreMore g o os bs
more_blocks g o os all bs e h = more_of g o os bs (subst (λ (xs : List Open). AreBlocksOf g xs bs) e h)

pub inside_more : (bs : List Block) (b : Block) (rest : List Block) → bs ≡ b ∷ rest → IsInside bs
inside_more bs b rest e = subst IsInside (sym e) tt

pub not_inside : (bs : List Block) → bs ≡ [] → IsInside bs → ⊥
not_inside bs e h = subst IsInside e h

-- no block is around, by a test
pub none_around : (r : Reader) (p : Place) (bit : ℕ) → IsAt r p bit → r.around ≡ [] → IsInside p.around → ⊥
none_around r p bit a e h = not_inside p.around (no_blocks r.info r.around p.around a.is.around e) h

some_around : (g : Info) (os : List Open) (bs : List Block) → AreBlocksOf g os bs → (os ≡ [] → ⊥) → IsInside bs
some_around g [] bs h n = absurd (n refl)
some_around g (o ∷ os) [] h n = absurd h
some_around g (o ∷ os) (b ∷ bs) h n = tt

pub is_inside : (r : Reader) (p : Place) (bit : ℕ) → IsAt r p bit → (r.around ≡ [] → ⊥) → IsInside p.around
is_inside r p bit a n = some_around r.info r.around p.around a.is.around n

module _ (r : Reader) (p : Place) (bit : ℕ) (a : IsAt r p bit) where
  pub at_id : (n : ℕ) → num r.cursor.bytes bit r.here.width ≡ n → num r.cursor.bytes p.at p.here.width ≡ n
  at_id n e = ap (λ (w : ℕ). num r.cursor.bytes p.at w) a.is.here.width ∙ ap (λ (i : ℕ). num r.cursor.bytes i r.here.width) a.at ∙ e

  pub at_place : bit + r.here.width ≡ p.at + p.here.width
  at_place = omega (arith, a.at, a.is.here.width)

-- a step of a reader that has moved
module _ (old : Reader) (c : Cursor) (bit : ℕ) where
  abbrev mid : Reader
  mid = record old { cursor = moved old.cursor c.place }

  at_mid : (p : Place) → IsAt old p bit → IsAt mid p bit
  at_mid p a = record { is = a.is; at = a.at; operands = a.operands; count = a.count }

  pub halt_mid : (fault : Fault) (p : Place) → HaltAnswer fault mid p → HaltAnswer fault old p
  halt_mid (Refused (B n) b) p h = h
  halt_mid (Refused (C n) b) p h = h
  halt_mid (Refused (Y n) b) p h = h
  halt_mid (Refused (M n) b) p h = h
  halt_mid (Refused (N n) b) p h = h
  halt_mid (Refused (P n) b) p h = h
  halt_mid (Limit which.Records b) p h = h
  halt_mid (Limit which.Fields b) p h = h
  halt_mid (Limit which.File b) p h = h
  halt_mid (Limit which.Blocks b) p h = h
  halt_mid (Limit which.Instructions b) p h = h
  halt_mid (Limit which.Cases b) p h = h
  halt_mid (Limit which.PhiEntries b) p h = h
  halt_mid (Limit which.Resources b) p h = h
  halt_mid OutOfMemory p h = tt

  none_mid : (fault : Fault) → NoStep mid bit fault → NoStep old bit fault
  none_mid fault h = record { halts = λ p a g. halt_mid fault p (h.halts p (at_mid p a) g) }

  step_mid : (new : Reader) (over : Bool) → IsStepped mid bit new over → IsStepped old bit new over
  step_mid new over s = record {
    same = record { bytes = s.same.bytes; start = s.same.start; end = s.same.end };
    forward = s.forward;
    within = s.within;
    steps = λ p a g. let t = s.steps p (at_mid p a) g in record { shape = t.shape; after = t.after; lays = t.lays; fine = t.fine; at = t.at; ends = t.ends; list = t.list; fields = t.fields; steady = t.steady };
  }

  answer_mid : (result : Result Bool Fault) (new : Reader) → StepAnswer result mid bit new → StepAnswer result old bit new
  answer_mid (Ok over) new h = step_mid new over h
  answer_mid (Err (Refused rule b)) new h = none_mid (Refused rule b) h
  answer_mid (Err (Limit which b)) new h = none_mid (Limit which b) h
  answer_mid (Err OutOfMemory) new h = tt

  pub step_moved : (result : Result Bool Fault) (new : Reader) → c ≡ moved old.cursor c.place → StepAnswer result (record old { cursor = c }) bit new → StepAnswer result old bit new
  step_moved result new e h = answer_mid result new (subst (λ (x : Cursor). StepAnswer result (record old { cursor = x }) bit new) e h)
