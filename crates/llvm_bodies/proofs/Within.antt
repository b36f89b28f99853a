-- The counters stay small: none goes up but with an item, and most but with a record.
use Rattle.std.proofs.Common.{ℕ, ◌≡◌, ◌+◌, ◌*◌, ◌/◌, ◌-◌, ◌<◌, ◌≤◌, ◌^◌, ◌==◌, refl, arith, List, [], ◌∷◌, length, drop, get_or, Bool, true, false, if◌then◌else◌, inl, inr, zero, suc, length-take, length-drop}
use Rattle.std.proofs.lemmas.Bool.{cases_lt}
use Rattle.std.proofs.lemmas.List.Elements.{All-get_or}
use Rattle.bitstream_spelling.specs.Rules.{is_record}
use Rattle.bitstream_spelling.specs.declared.item.Item.{Item}
use Rattle.bitstream_spelling.specs.declared.item.Item.TheVariants.{Enter, Record, Skip, End}
use Rattle.llvm_items.specs.Sites.{Site, enters, is_record_of, fields_of}
use Rattle.llvm_bodies.specs.Bodies.{known, is_terminator, is_instruction, is_constant, gives}
use Rattle.llvm_bodies.specs.Reading.{AreFew, HasRoom, after, begun_at, record_after, constant_after}
use Rattle.llvm_bodies.specs.declared.facts.ModuleFacts.{ModuleFacts}
use Rattle.llvm_bodies.specs.declared.progress.Progress.{Progress}

-- behind so many items, so many of them records
pub record IsWithin (p : Progress) (items records : ℕ) : Type 0 where
  pub begun : p.bodies ≤ items
  pub number : p.now ≤ 2 ^ 31 + 2 ^ 30 + records
  pub ended : p.block ≤ records
  pub instructed : p.instructions ≤ records
  pub switched : p.cases ≤ records * 2 ^ 24
  pub joined : p.entries ≤ records * 2 ^ 24

if_le : (b : Bool) (x y z : ℕ) → x ≤ z → y ≤ z → (if b then x else y) ≤ z
if_le true x y z g h = g
if_le false x y z g h = h

pub fields_few : (fs : List ℕ) (x : Item) (n : ℕ) → length fs ≤ n → length (fields_of fs x) ≤ n
fields_few fs (Record code first count bit) n h = omega (arith, length-take count (drop first fs), length-drop first fs)
fields_few fs (Enter id width bit) n h = omega arith
fields_few fs (Skip id words bit) n h = omega arith
fields_few fs (End bit) n h = omega arith

past : (xs : List ℕ) (i : ℕ) → length xs ≤ i → get_or xs i 0 ≡ 0
past [] i h = refl
past (x ∷ xs) zero h = absurd (omega arith)
past (x ∷ xs) (suc i) h = past xs i (omega arith)

few_arguments : (m : ModuleFacts) → AreFew m → (i : ℕ) → get_or m.arguments i 0 ≤ 2 ^ 30
few_arguments m few i = elim (cases_lt i (length m.arguments)) [
  | inl h ↦ All-get_or (λ a. a ≤ 2 ^ 30) m.arguments i 0 h few.arguments
  | inr h ↦ omega (arith, past m.arguments i h)
]

pub within_first : (m : ModuleFacts) → AreFew m → (fs : List ℕ) → IsWithin (known m fs []) 0 0
within_first m few fs = record { begun = omega arith; number = omega (arith, few.values, few_arguments m few 0); ended = omega arith; instructed = omega arith; switched = omega arith; joined = omega arith }

module _ (m : ModuleFacts) (few : AreFew m) (p : Progress) (n k : ℕ) (w : IsWithin p n k) where
  at_record : (code : ℕ) (fields : List ℕ) → length fields ≤ 2 ^ 24 → IsWithin (record_after m p code fields) (n + 1) (k + 1)
  at_record code fields h = record {
    begun = omega (arith, w.begun);
    number = if_le (gives m p.now code fields) _ _ _ (omega (arith, w.number)) (omega (arith, w.number));
    ended = if_le (is_terminator code) _ _ _ (omega (arith, w.ended)) (omega (arith, w.ended));
    instructed = if_le (is_instruction code) _ _ _ (omega (arith, w.instructed)) (omega (arith, w.instructed));
    switched = omega (arith, w.switched, if_le (code == 12) ((length fields - 3) / 2) 0 (2 ^ 24) (omega arith) (omega arith));
    joined = omega (arith, w.joined, if_le (code == 16) ((length fields - 1) / 2) 0 (2 ^ 24) (omega arith) (omega arith));
  }

  later : (q : ℕ) → q ≤ 1 → IsWithin p (n + 1) (k + q)
  later q h = record { begun = omega (arith, w.begun); number = omega (arith, w.number); ended = omega (arith, w.ended); instructed = omega (arith, w.instructed); switched = omega (arith, w.switched); joined = omega (arith, w.joined) }

  at_constant : IsWithin (constant_after p) (n + 1) (k + 1)
  at_constant = record { begun = omega (arith, w.begun); number = omega (arith, w.number); ended = omega (arith, w.ended); instructed = omega (arith, w.instructed); switched = omega (arith, w.switched); joined = omega (arith, w.joined) }

  at_entry : (bit : ℕ) → IsWithin (begun_at m p bit) (n + 1) (k + 0)
  at_entry bit = record { begun = omega (arith, w.begun); number = omega (arith, few.values, few_arguments m few p.bodies); ended = omega arith; instructed = omega arith; switched = omega arith; joined = omega arith }

  either : (b c : Bool) (q r : Progress) (j : ℕ) → IsWithin q (n + 1) j → IsWithin r (n + 1) j → IsWithin p (n + 1) j → IsWithin (if b then q else if c then r else p) (n + 1) j
  either true c q r j f g h = f
  either false true q r j f g h = g
  either false false q r j f g h = h

  at_if : (b : Bool) (q : Progress) (j : ℕ) → IsWithin q (n + 1) j → IsWithin p (n + 1) j → IsWithin (if b then q else p) (n + 1) j
  at_if true q j f g = f
  at_if false q j f g = g

  pub within_more : (fs : List ℕ) (around : List ℕ) (x : Item) → length (fields_of fs x) ≤ 2 ^ 24 → IsWithin (after m fs p (record { around = around; item = x })) (n + 1) (k + is_record x)
  within_more fs around (Record code first count bit) h =
      let s : Site = record { around = around; item = Record code first count bit } in
      either (is_record_of 12 s) (is_constant s) _ _ (k + 1) (at_record code (fields_of fs (Record code first count bit)) h) at_constant (later 1 (omega arith))
  within_more fs around (Enter id width bit) h = at_if (enters 12 (record { around = around; item = Enter id width bit })) _ (k + 0) (at_entry bit) (later 0 (omega arith))
  within_more fs around (Skip id words bit) h = later 0 (omega arith)
  within_more fs around (End bit) h = later 0 (omega arith)

pub within_room : (p : Progress) (n k : ℕ) → IsWithin p n k → n + 1 < 2 ^ 32 → k ≤ 2 ^ 22 → HasRoom p
within_room p n k w h g = record { bodies = omega (arith, w.begun); now = omega (arith, w.number); block = omega (arith, w.ended); instructions = omega (arith, w.instructed); cases = omega (arith, w.switched); entries = omega (arith, w.joined) }
