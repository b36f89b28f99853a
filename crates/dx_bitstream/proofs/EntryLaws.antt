-- The entry of a block.
use Rattle.std.proofs.Common.{ap, refl, sym, ◌∙◌, subst, ℕ, ◌≡◌, ◌+◌, ◌*◌, ◌<◌, ◌≤◌, ◌^◌, List, [], ◌∷◌, ◌++◌, length, take, arith, append-nil, Bool, true, false, if◌then◌else◌, Some, None, Option}
use Rattle.dx_base.specs.Cursor.{Cursor, moved}
use Rattle.bitstream_spelling.specs.Layout.{Shape, enters}
use Rattle.bitstream_spelling.specs.Spelling.{Place, IsEntry, Lays, reach, reads, next, entered, item, given_to}
use Rattle.bitstream_spelling.specs.Rules.{b7, b8, records, Within}
use Rattle.bitstream_spelling.specs.declared.item.Item.{Item}
use Rattle.bitstream_spelling.specs.declared.item.Item.TheVariants.{Enter, Skip}
use Rattle.bitstream_spelling.proofs.Unique.{entry_unique}
use Rattle.bitstream_values.specs.Entries.{IsSeen, NoEntry}
use Rattle.bitstream_values.specs.declared.entry.Entry.{Entry}
use Rattle.bitstream_values.specs.declared.number.Seen.{Seen}
use Rattle.bitstream_values.specs.declared.number.Seen.TheVariants.{Small, Large, Short}
use Rattle.dx_bitstream.specs.Entering.{IsEntryAt, NoSmall}
use Rattle.dx_bitstream.specs.Given.{given_of}
use Rattle.dx_bitstream.specs.Kinds.{number, id_of, IsReadKind, IsPassed}
use Rattle.dx_bitstream.specs.Places.{IsBlockOf, IsAt, IsSteady, IsAfterId}
use Rattle.dx_bitstream.specs.Steps.{IsStep, IsStepped}
use Rattle.dx_bitstream.specs.declared.kind.BlockKind.{BlockKind}
use Rattle.dx_bitstream.specs.declared.kind.BlockKind.TheVariants.{BlockInfo, Module, Constants, Function, SymbolTable, Metadata, Types}
use Rattle.dx_bitstream.specs.declared.reader.Reader.{Reader}
use Rattle.dx_bitstream.proofs.Halting.{AllHalt, at_bit, at_end, halts_by}
use Rattle.dx_bitstream.proofs.PlaceLaws.{records_more, at_id, at_place}
use Rattle.dx_bitstream.proofs.Standing.{no_entry, no_entry_at, entry_forward}

large_of : (seen : Seen) (n : ℕ) → NoSmall seen → IsSeen seen n → 2 ^ 64 ≤ n
large_of (Small v) n h s = absurd (h.none v refl)
large_of Large n h s = s
large_of Short n h s = absurd s

small_is : (seen : Seen) (v n : ℕ) → seen ≡ Small v → IsSeen seen n → (v ≡ n) × (n < 2 ^ 64)
small_is seen v n e s = subst (λ (x : Seen). IsSeen x n) e s

small_number : (kind : BlockKind) → number kind < 2 ^ 64
small_number BlockInfo = omega arith
small_number Module = omega arith
small_number Constants = omega arith
small_number Function = omega arith
small_number SymbolTable = omega arith
small_number Metadata = omega arith
small_number Types = omega arith

take_all : {X : Type 0} (xs : List X) → take (length xs) xs ≡ xs
take_all [] = refl
take_all (x ∷ xs) = ap (λ ys. x ∷ ys) (take_all xs)

reach_read : (p : Place) (id width words after : ℕ) → reads p.here.id id ≡ true → reach p (enters id width words) after ≡ after
reach_read p id width words after e = ap (λ (b : Bool). if b then after else after + 32 * words) e

reach_passed : (p : Place) (id width words after : ℕ) → reads p.here.id id ≡ false → reach p (enters id width words) after ≡ after + 32 * words
reach_passed p id width words after e = ap (λ (b : Bool). if b then after else after + 32 * words) e

reach_same : (p : Place) (id width words after id2 width2 words2 after2 : ℕ) → id ≡ id2 → words ≡ words2 → after ≡ after2 → reach p (enters id width words) after ≡ reach p (enters id2 width2 words2) after2
reach_same p id width words after id2 width2 words2 after2 a b c = rw (a, b, c) refl

next_read : (p : Place) (id width words after : ℕ) → reads p.here.id id ≡ true → next p (enters id width words) after ≡ entered p id width words after
next_read p id width words after e = ap (λ (b : Bool). if b then entered p id width words after else record p { at = after + 32 * words }) e

next_passed : (p : Place) (id width words after : ℕ) → reads p.here.id id ≡ false → next p (enters id width words) after ≡ record p { at = after + 32 * words }
next_passed p id width words after e = ap (λ (b : Bool). if b then entered p id width words after else record p { at = after + 32 * words }) e

item_read : (p : Place) (id width words before : ℕ) → reads p.here.id id ≡ true → item p (enters id width words) before ≡ Enter id width p.at ∷ []
item_read p id width words before e = ap (λ (b : Bool). if b then Enter id width p.at ∷ [] else Skip id words p.at ∷ []) e

item_passed : (p : Place) (id width words before : ℕ) → reads p.here.id id ≡ false → item p (enters id width words) before ≡ Skip id words p.at ∷ []
item_passed p id width words before e = ap (λ (b : Bool). if b then Enter id width p.at ∷ [] else Skip id words p.at ∷ []) e

within_of : (p : Place) (shape : Shape) (after end n : ℕ) → reach p shape after ≡ n → n ≤ end → Within end p shape after
within_of p shape after end n e h = subst (λ (x : ℕ). x ≤ end) (sym e) h

pub block_short : (r : Reader) (bit : ℕ) → IsAfterId r bit 1 → NoEntry r.cursor → AllHalt r bit 2 bit
block_short r bit i h = at_end r bit (λ p a. no_entry_at r.cursor.bytes r.cursor.start r.cursor.end p (at_id r p bit a 1 i.is)
    (λ id width words after e. h.none id width words after (subst (λ (x : ℕ). IsEntry r.cursor.bytes r.cursor.start x id width words after) (sym (i.place ∙ at_place r p bit a)) e)))

module _ (r : Reader) (bit : ℕ) (e : Entry) (t : IsEntryAt r bit e) (s : IsSteady r) where
  entry_lays : (p : Place) → IsAt r p bit → Lays r.cursor.bytes r.cursor.start p (enters t.id t.width e.words) r.cursor.place
  entry_lays p a = (at_id r p bit a 1 t.is, subst (λ (x : ℕ). IsEntry r.cursor.bytes r.cursor.start x t.id t.width e.words r.cursor.place) (at_place r p bit a) t.lays)

  forward : bit < r.cursor.place
  forward = omega (arith, entry_forward r.cursor.bytes r.cursor.start (bit + r.here.width) t.id t.width e.words r.cursor.place t.lays)

  module _ (kind : BlockKind) (k : IsReadKind r.here.kind e.id kind) where
    read_here : (p : Place) → IsAt r p bit → reads p.here.id t.id ≡ true
    read_here p a = ap (λ (o : Option ℕ). reads o t.id) a.is.here.id ∙ ap (λ (n : ℕ). reads (id_of r.here.kind) n) (sym (k.is t.id t.seen_id)) ∙ k.read

    small_id : t.id < 2 ^ 64
    small_id = omega (arith, small_number kind, k.is t.id t.seen_id)

    read_within : (p : Place) → IsAt r p bit → Within r.cursor.end p (enters t.id t.width e.words) r.cursor.place
    read_within p a = within_of p (enters t.id t.width e.words) r.cursor.place r.cursor.end r.cursor.place (reach_read p t.id t.width e.words r.cursor.place (read_here p a)) s.within

    pub open_wide : NoSmall e.width → AllHalt r bit 7 bit
    open_wide n = at_bit r bit 7 (λ p a.
        halts_by r.cursor.bytes r.cursor.start r.cursor.end p r.list r.fields (enters t.id t.width e.words) r.cursor.place 7 (entry_lays p a) (read_within p a) (b7 (λ x. absurd (omega (arith, x.1, large_of e.width t.width n t.seen_width)))) (record {
          known = λ h. tt;
          sound = λ h. tt;
          stated = tt;
          named = λ h. tt;
          small = λ h. absurd (omega (arith, h));
          right = λ h. absurd (omega (arith, h));
          few = λ h. absurd (omega (arith, h));
        }) (omega arith))

    pub open_narrow : (v : ℕ) → e.width ≡ Small v → ((2 ≤ v) × (v ≤ 32) → ⊥) → AllHalt r bit 8 bit
    open_narrow v f n =
        let w = small_is e.width v t.width f t.seen_width in
        at_bit r bit 8 (λ p a.
        halts_by r.cursor.bytes r.cursor.start r.cursor.end p r.list r.fields (enters t.id t.width e.words) r.cursor.place 8 (entry_lays p a) (read_within p a)
        (b8 (λ x. let y = x (read_here p a) in n (omega (arith, y.0, w.0), omega (arith, y.1, w.0)))) (record {
          known = λ h. tt;
          sound = λ h. tt;
          stated = tt;
          named = λ h. tt;
          small = λ h. (small_id, w.1);
          right = λ h. absurd (omega (arith, h));
          few = λ h. absurd (omega (arith, h));
        }) (omega arith))

    pub open_step : (new : Reader) (v content : ℕ) → e.width ≡ Small v → (2 ≤ v) × (v ≤ 32) → content ≡ r.cursor.place → new.cursor ≡ r.cursor
        → new.here ≡ record { kind = Some kind; width = v; given = length (given_of r.info kind); own = []; named = None; words = e.words; bit = bit; content = content } → new.around ≡ r.here ∷ r.around → new.info ≡ r.info
        → new.operands ≡ r.operands → new.records ≡ r.records → new.list ≡ r.list ++ Enter (number kind) v bit ∷ [] → new.fields ≡ r.fields → IsStepped r bit new false
    open_step new v content f low at_content cursor here around info operands count list fields = record {
      same = record { bytes = ap (λ (c : Cursor). c.bytes) cursor; start = ap (λ (c : Cursor). c.start) cursor; end = ap (λ (c : Cursor). c.end) cursor };
      forward = rw cursor forward;
      within = rw cursor s.within;
      steps = λ p a g. stepped p a g;
    } where
      w : (v ≡ t.width) × (t.width < 2 ^ 64)
      w = small_is e.width v t.width f t.seen_width

      same_id : number kind ≡ t.id
      same_id = k.is t.id t.seen_id

      room : content < 2 ^ 60
      room = omega (arith, at_content, s.within, s.end)

      stepped : (p : Place) → IsAt r p bit → p.over ≡ false → IsStep r p new false
      stepped p a g = record {
        shape = enters t.id t.width e.words;
        after = r.cursor.place;
        lays = entry_lays p a;
        fine = record { b2 = read_within p a; b3 = tt; b4 = tt; b5 = tt; b6 = tt; b7 = (small_id, w.1); b8 = λ _. (omega (arith, low.0, w.0), omega (arith, low.1, w.0)) };
        at = subst (λ (q : Place). IsAt new q new.cursor.place) (sym (next_read p t.id t.width e.words r.cursor.place (read_here p a))) placed;
        ends = ap (λ (q : Place). q.over) (next_read p t.id t.width e.words r.cursor.place (read_here p a)) ∙ g;
        list = list ∙ ap (λ (xs : List Item). r.list ++ xs) (items ∙ sym (item_read p t.id t.width e.words (length r.fields) (read_here p a)));
        fields = fields ∙ sym (append-nil r.fields);
        steady = record {
          within = rw cursor s.within;
          end = rw cursor s.end;
          low = rw here low.0;
          high = rw here low.1;
          room = rw here room;
          few_records = rw count s.few_records;
          few_fields = rw (fields, operands) s.few_fields;
        };
      } where
        items : Enter (number kind) v bit ∷ [] ≡ Enter t.id t.width p.at ∷ []
        items = rw (same_id, w.0, a.at) refl

        forms : given_to t.id p.given ≡ take (length (given_of r.info kind)) (given_of r.info kind) ++ []
        forms = ap (λ (n : ℕ). given_to n p.given) (sym same_id) ∙ sym (a.is.given.is kind) ∙ sym (take_all (given_of r.info kind)) ∙ sym (append-nil (take (length (given_of r.info kind)) (given_of r.info kind)))

        block : IsBlockOf r.info (record { kind = Some kind; width = v; given = length (given_of r.info kind); own = []; named = None; words = e.words; bit = bit; content = content })
            (record { id = Some t.id; width = t.width; forms = given_to t.id p.given; named = None; words = e.words; bit = p.at; content = r.cursor.place })
        block = record {
          id = ap Some (sym same_id);
          width = sym w.0;
          enough = omega arith;
          forms = forms;
          named = refl;
          words = refl;
          bit = a.at;
          content = sym at_content;
          low = low.0;
          high = low.1;
          room = room;
        }

        placed : IsAt new (entered p t.id t.width e.words r.cursor.place) new.cursor.place
        placed = record {
          is = record { here = rw (info, here) block; around = rw (info, around) (a.is.here, a.is.around); given = rw info a.is.given };
          at = sym (ap (λ (c : Cursor). c.place) cursor);
          operands = rw operands a.operands;
          count = omega (arith, ap (λ (js : List Item). records js) list, records_more r.list (Enter (number kind) v bit), a.count, count);
        }

  module _ (k : IsPassed r.here.kind e.id) where
    passed_here : (p : Place) → IsAt r p bit → reads p.here.id t.id ≡ false
    passed_here p a = ap (λ (o : Option ℕ). reads o t.id) a.is.here.id ∙ k.passed t.id t.seen_id

    pub pass_short : r.cursor.end < r.cursor.place + 32 * e.words → AllHalt r bit 2 bit
    pass_short h = at_end r bit (λ p a. no_entry r.cursor.bytes r.cursor.start r.cursor.end p (at_id r p bit a 1 t.is) (λ id width words after x w.
        let u = entry_unique r.cursor.bytes r.cursor.start (p.at + p.here.width) id width words after t.id t.width e.words r.cursor.place x (entry_lays p a).1 in
        let same : reach p (enters id width words) after ≡ reach p (enters t.id t.width e.words) r.cursor.place = reach_same p id width words after t.id t.width e.words r.cursor.place u.0 u.2 u.3 in
        absurd (omega (arith, h, w, same, reach_passed p t.id t.width e.words r.cursor.place (passed_here p a)))))

    module _ (w : r.cursor.place + 32 * e.words ≤ r.cursor.end) where
      passed_within : (p : Place) → IsAt r p bit → Within r.cursor.end p (enters t.id t.width e.words) r.cursor.place
      passed_within p a = within_of p (enters t.id t.width e.words) r.cursor.place r.cursor.end (r.cursor.place + 32 * e.words) (reach_passed p t.id t.width e.words r.cursor.place (passed_here p a)) w

      pass_large : ((t.id < 2 ^ 64) × (t.width < 2 ^ 64) → ⊥) → AllHalt r bit 7 bit
      pass_large n = at_bit r bit 7 (λ p a. halts_by r.cursor.bytes r.cursor.start r.cursor.end p r.list r.fields (enters t.id t.width e.words) r.cursor.place 7 (entry_lays p a) (passed_within p a) (b7 n) (record {
        known = λ h. tt;
        sound = λ h. tt;
        stated = tt;
        named = λ h. tt;
        small = λ h. absurd (omega (arith, h));
        right = λ h. absurd (omega (arith, h));
        few = λ h. absurd (omega (arith, h));
      }) (omega arith))

      pub pass_wide_id : NoSmall e.id → AllHalt r bit 7 bit
      pass_wide_id n = pass_large (λ x. absurd (omega (arith, x.0, large_of e.id t.id n t.seen_id)))

      pub pass_wide : NoSmall e.width → AllHalt r bit 7 bit
      pass_wide n = pass_large (λ x. absurd (omega (arith, x.1, large_of e.width t.width n t.seen_width)))

      pub pass_step : (new : Reader) (id width : ℕ) → e.id ≡ Small id → e.width ≡ Small width → new.cursor ≡ moved r.cursor (r.cursor.place + 32 * e.words) → new.here ≡ r.here → new.around ≡ r.around → new.info ≡ r.info
          → new.operands ≡ r.operands → new.records ≡ r.records → new.list ≡ r.list ++ Skip id e.words bit ∷ [] → new.fields ≡ r.fields → IsStepped r bit new false
      pass_step new id width f h cursor here around info operands count list fields = record {
        same = record { bytes = ap (λ (c : Cursor). c.bytes) cursor; start = ap (λ (c : Cursor). c.start) cursor; end = ap (λ (c : Cursor). c.end) cursor };
        forward = rw cursor (omega (arith, forward));
        within = rw cursor w;
        steps = λ p a g. stepped p a g;
      } where
        is_id : (id ≡ t.id) × (t.id < 2 ^ 64)
        is_id = small_is e.id id t.id f t.seen_id

        is_width : (width ≡ t.width) × (t.width < 2 ^ 64)
        is_width = small_is e.width width t.width h t.seen_width

        stepped : (p : Place) → IsAt r p bit → p.over ≡ false → IsStep r p new false
        stepped p a g = record {
          shape = enters t.id t.width e.words;
          after = r.cursor.place;
          lays = entry_lays p a;
          fine = record { b2 = passed_within p a; b3 = tt; b4 = tt; b5 = tt; b6 = tt; b7 = (is_id.1, is_width.1); b8 = λ x. absurd (not_both (passed_here p a) x) };
          at = subst (λ (q : Place). IsAt new q new.cursor.place) (sym (next_passed p t.id t.width e.words r.cursor.place (passed_here p a))) placed;
          ends = ap (λ (q : Place). q.over) (next_passed p t.id t.width e.words r.cursor.place (passed_here p a)) ∙ g;
          list = list ∙ ap (λ (xs : List Item). r.list ++ xs) (items ∙ sym (item_passed p t.id t.width e.words (length r.fields) (passed_here p a)));
          fields = fields ∙ sym (append-nil r.fields);
          steady = record {
            within = rw cursor w;
            end = rw cursor s.end;
            low = rw here s.low;
            high = rw here s.high;
            room = rw here s.room;
            few_records = rw count s.few_records;
            few_fields = rw (fields, operands) s.few_fields;
          };
        } where
          not_both : {b : Bool} → b ≡ false → b ≡ true → ⊥
          not_both x y = cc

          items : Skip id e.words bit ∷ [] ≡ Skip t.id e.words p.at ∷ []
          items = rw (is_id.0, a.at) refl

          placed : IsAt new (record p { at = r.cursor.place + 32 * e.words }) new.cursor.place
          placed = record {
            is = record { here = rw (info, here) a.is.here; around = rw (info, around) a.is.around; given = rw info a.is.given };
            at = sym (ap (λ (c : Cursor). c.place) cursor);
            operands = rw operands a.operands;
            count = omega (arith, ap (λ (js : List Item). records js) list, records_more r.list (Skip id e.words bit), a.count, count);
          }
