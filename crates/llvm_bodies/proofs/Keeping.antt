-- What is kept of an item.
use Rattle.std.proofs.Common.{ℕ, ◌≡◌, ◌≤◌, refl, sym, ap, ◌∙◌, subst, arith, List, [], ◌∷◌, ◌++◌, length, get_or, Bool, true, false, not, ◌==◌, ◌&&◌, if◌then◌else◌, Result, Ok, Err, Option, Some, None, OnOk}
use Rattle.std.proofs.lemmas.Bool.{eqb-true, eqb-false}
use Rattle.dx_base.specs.declared.fault.Fault.{Fault}
use Rattle.dx_base.specs.declared.fault.OutOfMemory.{OutOfMemory}
use Rattle.bitstream_spelling.specs.declared.item.Item.{Item}
use Rattle.bitstream_spelling.specs.declared.item.Item.TheVariants.{Enter, Record, Skip, End}
use Rattle.bitstream_spelling.specs.Framed.{bit_of}
use Rattle.llvm_layout.specs.Table.{rows_of}
use Rattle.llvm_layout.specs.Reads.{HasLayout}
use Rattle.llvm_layout.specs.declared.letter.Parts.{Parts}
use Rattle.llvm_items.specs.Sites.{is_record, is_record_of, is_within, is_inside, code_of, fields_of}
use Rattle.llvm_values.specs.Values.{constant_of}
use Rattle.llvm_values.specs.declared.global.Global.{Global}
use Rattle.llvm_bodies.specs.Bodies.{IsLineAt, is_constant, is_line, is_instruction, value_of, around_of}
use Rattle.llvm_bodies.specs.Reading.{Tells, fault_of, IsPushed, IsNumbered, IsKept, LinesNext, SaysHere, here}
use Rattle.llvm_bodies.specs.declared.facts.ModuleFacts.{ModuleFacts}
use Rattle.llvm_bodies.specs.declared.line.Line.{Line}
use Rattle.llvm_bodies.specs.declared.read.Reader.{Reader}

-- a fault of a rule's number tells what holds of the number
pub tells_of : (P : ℕ → ℕ → Type 0) (rule bit : ℕ) → rule ≤ 15 → P rule bit → Tells P (fault_of rule bit)
tells_of P rule bit few h =
    either (rule == 12) _ _ (λ e. subst (λ k. P k bit) (eqb-true rule 12 e) h) (λ a.
    either (rule == 13) _ _ (λ e. subst (λ k. P k bit) (eqb-true rule 13 e) h) (λ b.
    either (rule == 14) _ _ (λ e. subst (λ k. P k bit) (eqb-true rule 14 e) h) (λ c.
    either (rule == 15) _ _ (λ e. subst (λ k. P k bit) (eqb-true rule 15 e) h) (λ d.
    (omega (arith, eqb-false rule 12 a, eqb-false rule 13 b, eqb-false rule 14 c, eqb-false rule 15 d), h))))) where
      either : (b : Bool) (x y : Fault) → (b ≡ true → Tells P x) → (b ≡ false → Tells P y) → Tells P (if b then x else y)
      either true x y f g = f refl
      either false x y f g = g refl

next_line : (b : Bool) (P : Line → Type 0) (old new : List Line) (line : Line) → b ≡ true → new ≡ old ++ line ∷ [] → P line → LinesNext false b P old new
next_line true P old new line e h g = (line, h, g)
next_line false P old new line e h g = absurd (cc)

and_left : (a b : Bool) → (a && b) ≡ true → a ≡ true
and_left true b e = refl
and_left false b e = absurd (cc)

some_inj : {A : Type 0} (x y : A) → Some x ≡ Some y → x ≡ y
some_inj x y e = cc

-- a record of a body is none of a block of constants
not_inside : (around : List ℕ) → is_within 12 around ≡ true → is_inside 12 11 around ≡ false
not_inside around e =
    let two = eqb-true (length around) 2 (and_left (length around == 2) _ (and_left (length around == 2 && get_or around 0 0 == 12) _ e)) in
    ap (λ n. n == 3 && get_or around 0 0 == 11 && get_or around 1 0 == 12 && get_or around 2 0 == 8) two

and_right : (a b : Bool) → (a && b) ≡ true → b ≡ true
and_right true b e = e
and_right false b e = absurd (cc)

line_no_constant : (around : List ℕ) (x : Item) → is_line (record { around = around; item = x }) ≡ true → is_constant (record { around = around; item = x }) ≡ false
line_no_constant around x e =
    ap (λ b. is_record x && b && not (code_of x == 1)) (not_inside around (and_right (is_record x) (is_within 12 around) (and_left (is_record x && is_within 12 around) (is_instruction (code_of x)) e)))
    ∙ ap (λ b. b && not (code_of x == 1)) (and_false (is_record x)) where
      and_false : (b : Bool) → (b && false) ≡ false
      and_false true = refl
      and_false false = refl

unchosen : {A : Type 0} (b : Bool) (u v : A) → b ≡ false → v ≡ (if b then u else v)
unchosen true u v e = absurd (cc)
unchosen false u v e = refl

chosen : {A : Type 0} (b : Bool) (u v : A) → b ≡ true → u ≡ (if b then u else v)
chosen true u v e = refl
chosen false u v e = absurd (cc)

no_line : (b : Bool) (P : Line → Type 0) (old new : List Line) → b ≡ false → new ≡ old → LinesNext false b P old new
no_line true P old new e h = absurd (cc)
no_line false P old new e h = h

module _ (m : ModuleFacts) (fs : List ℕ) (old : Reader) where
  line_at : (item : Item) (line : Line) (parts : Parts) → HasLayout (around_of m fs old.known) (rows_of (code_of item) (fields_of fs item)) (fields_of fs item) parts
      → line ≡ record { bit = bit_of item; block = old.known.block; value = value_of m old.known.now (code_of item) (fields_of fs item); code = code_of item; numbers = parts.numbers; types = parts.types; plain = parts.plain }
      → IsLineAt m fs old.known (here old item) line
  line_at item line parts h e = subst (λ (l : Line). IsLineAt m fs old.known (here old item) l) (sym e) (record { bit = refl; block = refl; value = refl; code = refl; parts = h })

  said : (item : Item) (o : Option Parts) (parts : Parts) → o ≡ Some parts → is_record_of 12 (here old item) ≡ true → SaysHere m fs old item o → HasLayout (around_of m fs old.known) (rows_of (code_of item) (fields_of fs item)) (fields_of fs item) parts
  said item None parts e r h = absurd (cc)
  said item (Some q) parts e r h = subst (λ (z : Parts). HasLayout (around_of m fs old.known) (rows_of (code_of item) (fields_of fs item)) (fields_of fs item) z) (some_inj q parts e) (h r)

  kept : (new : Reader) (code first count bit : ℕ) (line : Line) (r : Result (Unit {0}) OutOfMemory) → is_line (here old (Record code first count bit)) ≡ true
      → IsLineAt m fs old.known (here old (Record code first count bit)) line → OnOk r (IsPushed old new line) → OnOk r (IsKept m fs old new (Record code first count bit))
  kept new code first count bit line (Err x) h g p = p
  kept new code first count bit line (Ok u) h g p = record {
    lines = next_line (is_line (here old (Record code first count bit))) (IsLineAt m fs old.known (here old (Record code first count bit))) old.lines new.lines line h p.lines g;
    bodies = p.bodies;
    constants = p.constants ∙ unchosen (is_constant (here old (Record code first count bit))) _ _ (line_no_constant old.around (Record code first count bit) h);
    ty = p.ty;
    around = p.around;
    known = p.known;
  }

  at_item : (new : Reader) (item : Item) (line : Line) (r : Result (Unit {0}) OutOfMemory) → is_line (here old item) ≡ true → IsLineAt m fs old.known (here old item) line → OnOk r (IsPushed old new line) → OnOk r (IsKept m fs old new item)
  at_item new (Record c f n b) line r h g p = kept new c f n b line r h g p
  at_item new (Enter i w b) line r h g p = absurd (cc)
  at_item new (Skip i w b) line r h g p = absurd (cc)
  at_item new (End b) line r h g p = absurd (cc)

  -- an instruction is kept
  pub kept_line : (new : Reader) (item : Item) (code bit : ℕ) (line : Line) (fields : List ℕ) (o : Option Parts) (parts : Parts) (r : Result (Unit {0}) OutOfMemory)
      → is_line (here old item) ≡ true → bit ≡ bit_of item → code ≡ code_of item → fields ≡ fields_of fs item → o ≡ Some parts → SaysHere m fs old item o
      → line ≡ record { bit = bit; block = old.known.block; value = value_of m old.known.now code fields; code = code; numbers = parts.numbers; types = parts.types; plain = parts.plain }
      → OnOk r (IsPushed old new line) → OnOk r (IsKept m fs old new item)
  kept_line new item code bit line fields o parts r h same named f s says l p =
      let is = line_at item line parts (said item o parts s (and_left (is_record_of 12 (here old item)) (is_instruction (code_of item)) h) says)
      (l ∙ ap (λ b. record { bit = b; block = old.known.block; value = value_of m old.known.now code fields; code = code; numbers = parts.numbers; types = parts.types; plain = parts.plain }) same
      ∙ ap (λ g. record { bit = bit_of item; block = old.known.block; value = value_of m old.known.now code g; code = code; numbers = parts.numbers; types = parts.types; plain = parts.plain }) f
      ∙ ap (λ c. record { bit = bit_of item; block = old.known.block; value = value_of m old.known.now c (fields_of fs item); code = c; numbers = parts.numbers; types = parts.types; plain = parts.plain }) named) in
      at_item new item line r h is p

  numbered : (new : Reader) (item : Item) (constant : Global) (r : Result (Unit {0}) OutOfMemory) → is_constant (here old item) ≡ true → is_line (here old item) ≡ false → constant ≡ constant_of old.ty (code_of item) (fields_of fs item) (bit_of item)
      → OnOk r (IsNumbered old new constant) → OnOk r (IsKept m fs old new item)
  numbered new (Enter i w b) constant r h g e p = absurd (cc)
  numbered new (Skip i w b) constant r h g e p = absurd (cc)
  numbered new (End b) constant r h g e p = absurd (cc)
  numbered new (Record c f n b) constant (Err x) h g e p = p
  numbered new (Record c f n b) constant (Ok u) h g e p = record {
    lines = no_line (is_line (here old (Record c f n b))) _ old.lines new.lines g p.lines;
    bodies = p.bodies;
    constants = p.constants ∙ ap (λ (z : Global). old.constants ++ z ∷ []) e ∙ chosen (is_constant (here old (Record c f n b))) _ _ h;
    ty = p.ty;
    around = p.around;
    known = p.known;
  }

  -- a constant is kept
  pub kept_constant : (new : Reader) (item : Item) (code bit : ℕ) (constant : Global) (fields : List ℕ) (r : Result (Unit {0}) OutOfMemory) → is_constant (here old item) ≡ true → is_line (here old item) ≡ false
      → bit ≡ bit_of item → code ≡ code_of item → fields ≡ fields_of fs item → constant ≡ constant_of old.ty code fields bit → OnOk r (IsNumbered old new constant) → OnOk r (IsKept m fs old new item)
  kept_constant new item code bit constant fields r h g same named f e p =
      numbered new item constant r h g (e ∙ ap (λ b. constant_of old.ty code fields b) same ∙ ap (λ c. constant_of old.ty c fields (bit_of item)) named ∙ ap (λ l. constant_of old.ty (code_of item) l (bit_of item)) f) p
