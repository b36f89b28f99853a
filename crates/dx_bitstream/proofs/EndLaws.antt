-- The end of a block.
use Rattle.std.proofs.Common.{ap, refl, sym, ◌∙◌, subst, ℕ, ◌≡◌, ◌+◌, ◌*◌, ◌<◌, ◌≤◌, List, [], ◌∷◌, ◌++◌, length, arith, append-nil, Bool, false, IsTrue, ◌↔◌, Some, None, Option}
use Rattle.std.specs.Prelude.{eqb}
use Rattle.dx_base.specs.Cursor.{Cursor, moved, aligned as aligned_cursor}
use Rattle.bitstream_spelling.specs.Layout.{closes, aligned}
use Rattle.bitstream_spelling.specs.Spelling.{Block, Place, Lays, left, ends_all}
use Rattle.bitstream_spelling.specs.Rules.{Breaks, b3, b4, b5, b6, b7, b8, too_many_records, too_many_fields, IsInside, records}
use Rattle.bitstream_spelling.specs.declared.item.Item.{Item}
use Rattle.bitstream_spelling.specs.declared.item.Item.TheVariants.{End}
use Rattle.bitstream_spelling.proofs.Forward.{above}
use Rattle.dx_bitstream.specs.Kinds.{number, id_of}
use Rattle.dx_bitstream.specs.Places.{AreBlocksOf, IsAt, IsSteady, IsAfterId}
use Rattle.dx_bitstream.specs.Steps.{Halts, least, IsStep, IsStepped}
use Rattle.dx_bitstream.specs.declared.info.Info.{Info}
use Rattle.dx_bitstream.specs.declared.kind.BlockKind.{BlockKind}
use Rattle.dx_bitstream.specs.declared.kind.BlockKind.TheVariants.{BlockInfo, Module, Constants, Function, SymbolTable, Metadata, Types}
use Rattle.dx_bitstream.specs.declared.reader.Open.{Open}
use Rattle.dx_bitstream.specs.declared.reader.Reader.{Reader}
use Rattle.dx_bitstream.proofs.Halting.{AllHalt, at_bit, at_end, halts_by}
use Rattle.dx_bitstream.proofs.PlaceLaws.{not_true, records_more, no_blocks, no_opens, AreMore, more_blocks, inside_more, none_around, at_id, at_place}
use Rattle.dx_bitstream.proofs.Standing.{no_end}

module _ (g : Info) where
  ends_over : (kind : Option BlockKind) (os : List Open) (bs : List Block) (over : Bool) → AreBlocksOf g os bs → (IsTrue over ↔ ((kind ≡ Some Module) × (os ≡ []))) → ends_all (id_of kind) bs ≡ over
  ends_over None os bs over h i = sym (not_true over (λ t. let e = (i.0 t).0 in absurd (cc)))
  ends_over (Some k) os (b ∷ bs) over h i = sym (not_true over (λ t. let e = no_blocks g os (b ∷ bs) h (i.0 t).1 in absurd (cc)))
  ends_over (Some k) os [] over h i = of_kind k (no_opens g os [] h refl) i where
    other : (k : BlockKind) → (Some k ≡ Some Module → ⊥) → (IsTrue over ↔ ((Some k ≡ Some Module) × (os ≡ []))) → false ≡ over
    other k n i = sym (not_true over (λ t. n ((i.0 t).0)))

    of_kind : (k : BlockKind) → os ≡ [] → (IsTrue over ↔ ((Some k ≡ Some Module) × (os ≡ []))) → eqb (number k) 8 ≡ over
    of_kind Module e i = sym (i.1 (refl, e))
    of_kind BlockInfo e i = other BlockInfo (λ x. cc) i
    of_kind Constants e i = other Constants (λ x. cc) i
    of_kind Function e i = other Function (λ x. cc) i
    of_kind SymbolTable e i = other SymbolTable (λ x. cc) i
    of_kind Metadata e i = other Metadata (λ x. cc) i
    of_kind Types e i = other Types (λ x. cc) i

module _ (r : Reader) (bit : ℕ) (i : IsAfterId r bit 0) (s : IsSteady r) where
  end_lays : (p : Place) → IsAt r p bit → Lays r.cursor.bytes r.cursor.start p closes (aligned_cursor r.cursor)
  end_lays p a = (at_id r p bit a 0 i.is, ap (aligned r.cursor.start) (i.place ∙ at_place r p bit a))

  pub end_short : r.cursor.end < aligned_cursor r.cursor → AllHalt r bit 2 bit
  end_short h = at_end r bit (λ p a. no_end r.cursor.bytes r.cursor.start r.cursor.end p (at_id r p bit a 0 i.is) (subst (λ (x : ℕ). r.cursor.end < aligned r.cursor.start x) (i.place ∙ at_place r p bit a) h))

  pub end_top : aligned_cursor r.cursor ≤ r.cursor.end → r.around ≡ [] → AllHalt r bit 8 bit
  end_top w e = at_bit r bit 8 (λ p a. halts_by r.cursor.bytes r.cursor.start r.cursor.end p r.list r.fields closes (aligned_cursor r.cursor) 8 (end_lays p a) w (b8 (none_around r p bit a e)) (record {
    known = λ h. tt;
    sound = λ h. tt;
    stated = λ x. absurd (none_around r p bit a e x);
    named = λ h. tt;
    small = λ h. tt;
    right = λ h. absurd (omega (arith, h));
    few = λ h. absurd (omega (arith, h));
  }) (omega arith))

  pub end_length : (o : Open) (os : List Open) → aligned_cursor r.cursor ≤ r.cursor.end → r.around ≡ o ∷ os → (aligned_cursor r.cursor ≡ r.here.content + 32 * r.here.words → ⊥) → AllHalt r bit 5 r.here.bit
  end_length o os w e n = record { halt = λ p a g. subst (λ (b : ℕ). Halts r.cursor.bytes r.cursor.start r.cursor.end p r.list r.fields 5 b) a.is.here.bit (at_block p a) } where
    at_block : (p : Place) → IsAt r p bit → Halts r.cursor.bytes r.cursor.start r.cursor.end p r.list r.fields 5 p.here.bit
    at_block p a = least (record { shape = closes; after = aligned_cursor r.cursor; lays = end_lays p a; within = w; breaks = b5 wrong; least = only }) where
      inside : IsInside p.around
      inside = let m = more_blocks r.info o os r.around p.around e a.is.around in inside_more p.around m.block m.rest m.is

      wrong : (IsInside p.around → aligned_cursor r.cursor ≡ p.here.content + 32 * p.here.words) → ⊥
      wrong h = n (omega (arith, h inside, a.is.here.content, a.is.here.words))

      only : (other at : ℕ) → Breaks p r.list r.fields closes (aligned_cursor r.cursor) other at → (p.here.bit ≡ at) × (5 ≤ other)
      only _ _ (b3 x) = absurd (x tt)
      only _ _ (b4 x) = absurd (x tt)
      only _ _ (b5 x) = (refl, omega arith)
      only _ _ (b6 x) = absurd (x tt)
      only _ _ (b7 x) = absurd (x tt)
      only _ _ (b8 x) = absurd (x inside)
      only _ _ (too_many_records x) = absurd (omega (arith, x, records_more r.list (End p.at), a.count, s.few_records))
      only _ _ (too_many_fields x) = absurd (omega (arith, x, ap length (append-nil r.fields), a.operands, s.few_fields))

  -- the reader left a block
  pub end_step : (new : Reader) (outer : Open) (over : Bool) → aligned_cursor r.cursor ≤ r.cursor.end → r.around ≡ outer ∷ new.around → aligned_cursor r.cursor ≡ r.here.content + 32 * r.here.words
      → (IsTrue over ↔ ((r.here.kind ≡ Some Module) × (new.around ≡ []))) → new.cursor ≡ moved r.cursor (aligned_cursor r.cursor) → new.here ≡ outer → new.info ≡ r.info → new.operands ≡ r.operands → new.records ≡ r.records
      → new.list ≡ r.list ++ End bit ∷ [] → new.fields ≡ r.fields → IsStepped r bit new over
  end_step new outer over w around full last cursor here info operands count list fields = record {
    same = record { bytes = ap (λ (c : Cursor). c.bytes) cursor; start = ap (λ (c : Cursor). c.start) cursor; end = ap (λ (c : Cursor). c.end) cursor };
    forward = rw cursor (omega (arith, above r.cursor.start r.cursor.place, i.place, s.low));
    within = rw cursor w;
    steps = λ p a g. stepped p a;
  } where
    stepped : (p : Place) → IsAt r p bit → IsStep r p new over
    stepped p a = record {
      shape = closes;
      after = aligned_cursor r.cursor;
      lays = end_lays p a;
      fine = record { b2 = w; b3 = tt; b4 = tt; b5 = λ x. omega (arith, full, a.is.here.content, a.is.here.words); b6 = tt; b7 = tt; b8 = inside_more p.around m.block m.rest m.is };
      at = subst (λ (bs : List Block). IsAt new (left p (aligned_cursor r.cursor) bs) new.cursor.place) (sym m.is) placed;
      ends = subst (λ (bs : List Block). (left p (aligned_cursor r.cursor) bs).over ≡ over) (sym m.is) (ap (λ (o : Option ℕ). ends_all o m.rest) a.is.here.id ∙ ends_over r.info r.here.kind new.around m.rest over m.others last);
      list = list ∙ ap (λ (b : ℕ). r.list ++ End b ∷ []) (sym a.at);
      fields = fields ∙ sym (append-nil r.fields);
      steady = record {
        within = rw cursor w;
        end = rw cursor s.end;
        low = rw here m.first.low;
        high = rw here m.first.high;
        room = rw here m.first.room;
        few_records = rw count s.few_records;
        few_fields = rw (fields, operands) s.few_fields;
      };
    } where
      m : AreMore r.info outer new.around p.around
      m = more_blocks r.info outer new.around r.around p.around around a.is.around

      placed : IsAt new (left p (aligned_cursor r.cursor) (m.block ∷ m.rest)) new.cursor.place
      placed = record {
        is = record { here = rw (info, here) m.first; around = rw info m.others; given = rw info a.is.given };
        at = rw cursor refl;
        operands = rw operands a.operands;
        count = omega (arith, ap (λ (js : List Item). records js) list, records_more r.list (End bit), a.count, count);
      }
