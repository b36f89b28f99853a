-- The definition of an abbreviation.
use Rattle.std.proofs.Common.{ap, refl, sym, ◌∙◌, subst, ℕ, ◌≡◌, ◌+◌, ◌<◌, ◌≤◌, ◌^◌, List, [], ◌++◌, length, arith, append-nil, All, Bool, true, false, Some, None, Option}
use Rattle.std.specs.Prelude.{IsSome}
use Rattle.dx_base.specs.Bits.{IsVbr}
use Rattle.dx_base.specs.Cursor.{Cursor}
use Rattle.dx_base.proofs.VbrLaws.{vbr_takes}
use Rattle.bitstream_spelling.specs.Layout.{defines, Abbreviation}
use Rattle.bitstream_spelling.specs.Spelling.{Place, Lays, defined}
use Rattle.bitstream_spelling.specs.Rules.{b4, b6, b7, b8, too_many_fields, IsSound, IsNamed, IsSmall, IsSmallOperand, records}
use Rattle.bitstream_spelling.specs.declared.item.Item.{Item}
use Rattle.bitstream_spelling.proofs.Forward.{all_written_forward}
use Rattle.bitstream_values.specs.Forms.{Ends}
use Rattle.bitstream_values.specs.Operands.{AreSmall, NoDefinition}
use Rattle.bitstream_values.specs.declared.definition.Definition.{Definition}
use Rattle.bitstream_values.proofs.FormLaws.{sound_form}
use Rattle.bitstream_values.proofs.Written.{written_many}
use Rattle.dx_bitstream.specs.Defining.{IsDefinitionAt, IsFiled, room_of}
use Rattle.dx_bitstream.specs.Kinds.{id_of}
use Rattle.dx_bitstream.specs.Places.{IsPlaceOf, IsAt, IsSteady, IsAfterId}
use Rattle.dx_bitstream.specs.Steps.{IsStep, IsStepped}
use Rattle.dx_bitstream.specs.declared.kind.BlockKind.{BlockKind}
use Rattle.dx_bitstream.specs.declared.kind.BlockKind.TheVariants.{BlockInfo, Module, Constants, Function, SymbolTable, Metadata, Types}
use Rattle.dx_bitstream.specs.declared.reader.Open.{Open}
use Rattle.dx_bitstream.specs.declared.reader.Reader.{Reader}
use Rattle.dx_bitstream.proofs.Halting.{AllHalt, at_bit, at_end, halts_by}
use Rattle.dx_bitstream.proofs.InfoLaws.{defined_same}
use Rattle.dx_bitstream.proofs.PlaceLaws.{records_none, none_around, is_inside, at_id, at_place}
use Rattle.dx_bitstream.proofs.Standing.{no_definition}

-- only BLOCKINFO has the id 0
pub info_kind : (o : Option BlockKind) → id_of o ≡ Some 0 → o ≡ Some BlockInfo
info_kind None e = absurd (cc)
info_kind (Some BlockInfo) e = refl
info_kind (Some Module) e = absurd (cc)
info_kind (Some Constants) e = absurd (cc)
info_kind (Some Function) e = absurd (cc)
info_kind (Some SymbolTable) e = absurd (cc)
info_kind (Some Metadata) e = absurd (cc)
info_kind (Some Types) e = absurd (cc)

pub definition_short : (r : Reader) (bit : ℕ) → IsAfterId r bit 2 → NoDefinition r.cursor → AllHalt r bit 2 bit
definition_short r bit i h = at_end r bit (λ p a. no_definition r.cursor.bytes r.cursor.start r.cursor.end p (at_id r p bit a 2 i.is)
    (λ ops next after v w. h.none ops next after (subst (λ (x : ℕ). IsVbr r.cursor.bytes 5 x (length ops) next) (sym (i.place ∙ at_place r p bit a)) v) w))

some_of : {X : Type 0} (o : Option X) → (o ≡ None → ⊥) → IsSome o
some_of None h = absurd (h refl)
some_of (Some x) h = refl

none_of : {X : Type 0} (o : Option X) → o ≡ None → IsSome o → ⊥
none_of None e h = absurd (cc)
none_of (Some x) e h = absurd (cc)

module _ (r : Reader) (bit : ℕ) (d : Definition) (t : IsDefinitionAt r bit d) (s : IsSteady r) where
  def_lays : (p : Place) → IsAt r p bit → Lays r.cursor.bytes r.cursor.start p (defines t.ops) r.cursor.place
  def_lays p a = (t.next, at_id r p bit a 2 t.is, subst (λ (x : ℕ). IsVbr r.cursor.bytes 5 x (length t.ops) t.next) (at_place r p bit a) t.is_count, t.lays)

  pub def_faulty : (Ends d.form → ⊥) → AllHalt r bit 4 bit
  def_faulty n = at_bit r bit 4 (λ p a. halts_by r.cursor.bytes r.cursor.start r.cursor.end p r.list r.fields (defines t.ops) r.cursor.place 4 (def_lays p a) s.within (b4 (λ x. n ((sound_form d.form t.ops t.form).0 x))) (record {
    known = λ h. tt;
    sound = λ h. absurd (omega (arith, h));
    stated = tt;
    named = λ h. absurd (omega (arith, h));
    small = λ h. absurd (omega (arith, h));
    right = λ h. absurd (omega (arith, h));
    few = λ h. absurd (omega (arith, h));
  }) (omega arith))

  module _ (e : Ends d.form) where
    sound : IsSound t.ops
    sound = (sound_form d.form t.ops t.form).1 e

    pub def_unnamed : (r.here.kind ≡ Some BlockInfo) × (r.here.named ≡ None) → AllHalt r bit 6 bit
    def_unnamed n = at_bit r bit 6 (λ p a.
        halts_by r.cursor.bytes r.cursor.start r.cursor.end p r.list r.fields (defines t.ops) r.cursor.place 6 (def_lays p a) s.within (b6 (λ x. none_of p.here.named (a.is.here.named ∙ n.1) (x (a.is.here.id ∙ ap id_of n.0)))) (record {
          known = λ h. tt;
          sound = λ h. sound;
          stated = tt;
          named = λ h. absurd (omega (arith, h));
          small = λ h. absurd (omega (arith, h));
          right = λ h. absurd (omega (arith, h));
          few = λ h. absurd (omega (arith, h));
        }) (omega arith))

    module _ (n : (r.here.kind ≡ Some BlockInfo) × (r.here.named ≡ None) → ⊥) where
      named : (p : Place) → IsAt r p bit → IsNamed p (defines t.ops)
      named p a = λ i. some_of p.here.named (λ h. n (info_kind r.here.kind (sym a.is.here.id ∙ i), sym a.is.here.named ∙ h))

      pub def_wide : d.wide ≡ true → AllHalt r bit 7 bit
      def_wide w =
          let wide : All IsSmallOperand t.ops → ⊥ = subst (λ (b : Bool). AreSmall b t.ops) w t.small in
          at_bit r bit 7 (λ p a. halts_by r.cursor.bytes r.cursor.start r.cursor.end p r.list r.fields (defines t.ops) r.cursor.place 7 (def_lays p a) s.within (b7 (λ x. wide x.1)) (record {
            known = λ h. tt;
            sound = λ h. sound;
            stated = tt;
            named = λ h. named p a;
            small = λ h. absurd (omega (arith, h));
            right = λ h. absurd (omega (arith, h));
            few = λ h. absurd (omega (arith, h));
          }) (omega arith))

      module _ (w : d.wide ≡ false) where
        small : (p : Place) → IsSmall p (defines t.ops)
        small p = (omega (arith, written_many r.cursor.bytes r.cursor.start t.next t.ops r.cursor.place t.lays, s.within, s.end), subst (λ (b : Bool). AreSmall b t.ops) w t.small)

        pub def_top : r.around ≡ [] → AllHalt r bit 8 bit
        def_top x = at_bit r bit 8 (λ p a. halts_by r.cursor.bytes r.cursor.start r.cursor.end p r.list r.fields (defines t.ops) r.cursor.place 8 (def_lays p a) s.within (b8 (none_around r p bit a x)) (record {
          known = λ h. tt;
          sound = λ h. sound;
          stated = tt;
          named = λ h. named p a;
          small = λ h. small p;
          right = λ h. absurd (omega (arith, h));
          few = λ h. absurd (omega (arith, h));
        }) (omega arith))

        few_records : (p : Place) → IsAt r p bit → records (r.list ++ []) ≤ 2 ^ 22
        few_records p a = omega (arith, records_none r.list, a.count, s.few_records)

        pub def_many : (r.around ≡ [] → ⊥) → room_of r < d.count → AllHalt r bit 10 bit
        def_many x m = at_bit r bit 10 (λ p a. halts_by r.cursor.bytes r.cursor.start r.cursor.end p r.list r.fields (defines t.ops) r.cursor.place 10 (def_lays p a) s.within
            (too_many_fields (omega (arith, m, t.counted, ap length (append-nil r.fields), a.operands, s.few_fields))) (record {
              known = λ h. tt;
              sound = λ h. sound;
              stated = tt;
              named = λ h. named p a;
              small = λ h. small p;
              right = λ h. is_inside r p bit a x;
              few = λ h. few_records p a;
            }) (omega arith))

        pub def_step : (new : Reader) (kept : Abbreviation) → (r.around ≡ [] → ⊥) → (room_of r < d.count → ⊥) → kept ≡ d.operands → IsFiled r.info r.here kept new.info new.here → new.around ≡ r.around → new.cursor ≡ r.cursor
            → new.operands ≡ r.operands + d.count → new.records ≡ r.records → new.list ≡ r.list → new.fields ≡ r.fields → IsStepped r bit new false
        def_step new kept x m is_kept filed around cursor operands count list fields = record {
          same = record { bytes = ap (λ (c : Cursor). c.bytes) cursor; start = ap (λ (c : Cursor). c.start) cursor; end = ap (λ (c : Cursor). c.end) cursor };
          forward = rw cursor (omega (arith, s.low, vbr_takes r.cursor.bytes 5 (bit + r.here.width) (length t.ops) t.next t.is_count, all_written_forward r.cursor.bytes r.cursor.start t.next t.ops r.cursor.place t.lays));
          within = rw cursor s.within;
          steps = λ p a g. stepped p a g;
        } where
          room : d.count ≤ room_of r
          room = omega (arith, m)

          same_ops : kept ≡ t.ops
          same_ops = is_kept ∙ t.same w room

          stepped : (p : Place) → IsAt r p bit → p.over ≡ false → IsStep r p new false
          stepped p a g = record {
            shape = defines t.ops;
            after = r.cursor.place;
            lays = def_lays p a;
            fine = record { b2 = s.within; b3 = tt; b4 = sound; b5 = tt; b6 = named p a; b7 = small p; b8 = is_inside r p bit a x };
            at = record {
              is = subst (λ (os : List Open). IsPlaceOf new.info new.here os (defined p t.ops r.cursor.place)) (sym around)
                  (subst (λ (ops : Abbreviation). IsPlaceOf new.info new.here r.around (defined p ops r.cursor.place)) same_ops (filed.filed p r.around r.cursor.place a.is));
              at = (defined_same p t.ops r.cursor.place).0 ∙ sym (ap (λ (c : Cursor). c.place) cursor);
              operands = omega (arith, (defined_same p t.ops r.cursor.place).1, a.operands, operands, t.counted);
              count = ap (λ (js : List Item). records js) list ∙ a.count ∙ sym count;
            };
            ends = (defined_same p t.ops r.cursor.place).2 ∙ g;
            list = list ∙ sym (append-nil r.list);
            fields = fields ∙ sym (append-nil r.fields);
            steady = record {
              within = rw cursor s.within;
              end = rw cursor s.end;
              low = omega (arith, filed.width, s.low);
              high = omega (arith, filed.width, s.high);
              room = omega (arith, filed.content, s.room);
              few_records = rw count s.few_records;
              few_fields = omega (arith, ap length fields, operands, s.few_fields, room);
            };
          }
