-- Records.
use Rattle.std.proofs.Common.{ap, refl, sym, ◌∙◌, subst, ℕ, zero, suc, ◌≡◌, ◌+◌, ◌-◌, ◌<◌, ◌≤◌, ◌^◌, List, [], ◌∷◌, ◌++◌, length, drop, arith, length-append, All, false, Some, None, Option}
use Rattle.std.specs.Prelude.{slice_get}
use Rattle.std.proofs.Math.Seq.{drop-append_seam}
use Rattle.dx_base.specs.Cursor.{Cursor}
use Rattle.bitstream_spelling.specs.declared.operand.Operand.TheVariants.{Literal, Fixed, Vbr, Array, Char6, Blob, Faulty}
use Rattle.bitstream_spelling.specs.Layout.{plain, by, unknown, Abbreviation, IsPlain, AreSpelled}
use Rattle.bitstream_spelling.specs.Spelling.{Place, naming, first_of_all, rest_of}
use Rattle.bitstream_spelling.specs.Rules.{Breaks, b3, b6, b7, b8, too_many_records, too_many_fields, IsInside, IsSound, IsNamed, IsSmall, Within, records, counted}
use Rattle.bitstream_spelling.specs.declared.item.Item.{Item}
use Rattle.bitstream_spelling.specs.declared.item.Item.TheVariants.{Record}
use Rattle.bitstream_spelling.proofs.Forward.{spelled_forward}
use Rattle.bitstream_values.specs.Records.{IsCoded, IsRecord, IsPlainRecord, NoPlain}
use Rattle.bitstream_values.specs.Rows.{NoneSpelled}
use Rattle.bitstream_values.specs.declared.record.Coded.{Coded}
use Rattle.bitstream_values.specs.declared.row.Row.{Row}
use Rattle.bitstream_values.specs.declared.row.Row.TheVariants.{Taken, Wide, Many}
use Rattle.bitstream_values.proofs.Arrays.{small_cons}
use Rattle.bitstream_values.proofs.Parts.{spelled_uncons}
use Rattle.dx_bitstream.specs.Kinds.{id_of}
use Rattle.dx_bitstream.specs.Naming.{IsNaming}
use Rattle.dx_bitstream.specs.Places.{IsBlockOf, IsAt, IsSteady, IsAfterId, FindAnswer}
use Rattle.dx_bitstream.specs.Steps.{Halts, IsStep, IsStepped, IsRecordOf, IsRecordAt, IsRecordTaken}
use Rattle.dx_bitstream.specs.declared.kind.BlockKind.TheVariants.{BlockInfo}
use Rattle.dx_bitstream.specs.declared.reader.Open.{Open}
use Rattle.dx_bitstream.specs.declared.reader.Reader.{Reader}
use Rattle.dx_bitstream.proofs.DefinitionLaws.{info_kind}
use Rattle.dx_bitstream.proofs.Halting.{AllHalt, at_bit, at_end, halts_by}
use Rattle.dx_bitstream.proofs.PlaceLaws.{records_more, none_around, is_inside, at_id, at_place}
use Rattle.dx_bitstream.proofs.Standing.{no_plain, no_spelled, plain_forward}

small_rest : (v : ℕ) (vs : List ℕ) → All (λ x. x < 2 ^ 64) (v ∷ vs) → All (λ x. x < 2 ^ 64) vs
small_rest v vs all = λ k d low. all (suc k) d (omega (arith, low))

shorter : (vs : List ℕ) → length (rest_of vs) ≤ length vs
shorter [] = omega arith
shorter (v ∷ vs) = omega arith

counted_few : (ops : Abbreviation) (values : List ℕ) → counted ops values ≤ length values
counted_few [] values = omega arith
counted_few (Array ∷ ops) values = omega arith
counted_few (Blob ∷ ops) values = omega arith
counted_few (Literal n ∷ ops) values = omega (arith, counted_few ops (rest_of values), shorter values)
counted_few (Fixed n ∷ ops) values = omega (arith, counted_few ops (rest_of values), shorter values)
counted_few (Vbr n ∷ ops) values = omega (arith, counted_few ops (rest_of values), shorter values)
counted_few (Char6 ∷ ops) values = omega (arith, counted_few ops (rest_of values), shorter values)
counted_few (Faulty ∷ ops) values = omega (arith, counted_few ops (rest_of values), shorter values)

same_some : {X : Type 0} (x y : X) (o : Option X) → o ≡ Some x → o ≡ Some y → x ≡ y
same_some x y None e f = absurd (cc)
same_some x y (Some z) e f = cc

-- a record without an abbreviation
record_plain : (p : Place) (code : ℕ) (row : List ℕ) → IsRecordOf p (plain code row) (code ∷ row) (length row)
record_plain p code row = record {
  known = tt;
  sound = tt;
  stated = λ after. tt;
  reached = λ after. refl;
  named = λ h i c r. h i (rw (c, r) refl);
  unnamed = λ n i e. n i (ap first_of_all e) (ap rest_of e);
  small = λ all few. (all zero 0 (omega arith), few, small_rest code row all);
  all_small = λ x. (small_cons code row x.0 x.2, x.1);
  right = λ x. x;
  inside = λ x. x;
  is_item = λ before. refl;
  is_next = λ after. refl;
  are_fields = refl;
  no_operands = refl;
  some = λ c r e f. rw (← e, ← f) refl;
  few = omega arith;
}

-- a record by an abbreviation
record_by : (p : Place) (k : ℕ) (form : Abbreviation) (v : ℕ) (vs : List ℕ) → slice_get p.here.forms k ≡ Some form → IsRecordOf p (by k (v ∷ vs)) (v ∷ vs) (counted form (v ∷ vs))
record_by p k form v vs f = record {
  known = tt;
  sound = tt;
  stated = λ after. tt;
  reached = λ after. refl;
  named = λ h. h;
  unnamed = λ n. n;
  small = λ all few. (all, λ other e. subst (λ (x : Abbreviation). counted x (v ∷ vs) < 2 ^ 64) (same_some form other (slice_get p.here.forms k) f e) few);
  all_small = λ x. (x.0, x.1 form f);
  right = λ x. x;
  inside = λ x. x;
  is_item = λ before. refl;
  is_next = λ after. refl;
  are_fields = refl;
  no_operands = refl;
  some = λ c r e g. rw (← e, ← g) refl;
  few = counted_few form (v ∷ vs);
}

-- an abbreviation that is sound spells some value
record Starts (form : Abbreviation) (values : List ℕ) : Type 0 where
  first : ℕ
  rest : List ℕ
  is : values ≡ first ∷ rest

starts : (bytes : List ℕ) (start : ℕ) (form : Abbreviation) (i : ℕ) (values : List ℕ) (after : ℕ) → IsSound form → AreSpelled bytes start form i values after → Starts form values
starts bytes start [] i values after s h = absurd s
starts bytes start (op ∷ ops) i values after s h = let u = spelled_uncons bytes start op ops s.0 i values after h in record { first = u.0; rest = u.2; is = u.5 }

-- taken values grow the fields
grown : (coded : Coded) (most : ℕ) (fields new_fields values : List ℕ) (count : ℕ) → IsCoded coded.row coded.code most fields new_fields values count → coded.row ≡ Taken → (length fields ≤ length new_fields) × (length new_fields ≤ most)
grown coded most fields new_fields values count c e =
    let t = subst (λ (r : Row). IsCoded r coded.code most fields new_fields values count) e c in
    (omega (arith, ap length t.3, length-append fields (rest_of values)), t.4)

module _ (r : Reader) (bit : ℕ) (s : IsSteady r) where
  pub plain_short : IsAfterId r bit 3 → NoPlain r.cursor → AllHalt r bit 2 bit
  plain_short i h = at_end r bit (λ p a. no_plain r.cursor.bytes r.cursor.start r.cursor.end p (at_id r p bit a 3 i.is)
      (λ code row after x. h.none code row after (subst (λ (n : ℕ). IsPlain r.cursor.bytes r.cursor.start n code row after) (sym (i.place ∙ at_place r p bit a)) x)))

  pub plain_taken : (c : Cursor) (fields : List ℕ) (coded : Coded) → IsAfterId r bit 3 → IsPlainRecord r.cursor c (2 ^ 24 - r.operands) coded r.fields fields → IsRecordTaken r bit (record r { cursor = c; fields = fields }) coded
  plain_taken c fields coded i x = record {
    same = record { bytes = ap (λ (d : Cursor). d.bytes) x.moves; start = ap (λ (d : Cursor). d.start) x.moves; end = ap (λ (d : Cursor). d.end) x.moves };
    forward = omega (arith, s.low, i.place, plain_forward r.cursor.bytes r.cursor.start r.cursor.place x.code x.row c.place x.lays);
    within = omega (arith, x.within, ap (λ (d : Cursor). d.end) x.moves);
    here = refl;
    around = refl;
    info = refl;
    operands = refl;
    records = refl;
    list = refl;
    grows = λ e. let g = grown coded (2 ^ 24 - r.operands) r.fields fields (x.code ∷ x.row) (length x.row) x.is e in (g.0, omega (arith, g.1, s.few_fields));
    stands = λ p a. record {
      shape = plain x.code x.row;
      values = x.code ∷ x.row;
      count = length x.row;
      lays = (at_id r p bit a 3 i.is, subst (λ (n : ℕ). IsPlain r.cursor.bytes r.cursor.start n x.code x.row c.place) (i.place ∙ at_place r p bit a) x.lays);
      is = record_plain p x.code x.row;
      coded_is = x.is;
    };
  }

  module _ (k : ℕ) (i : IsAfterId r bit (4 + k)) where
    pub unknown_form : FindAnswer None r.info r.here k → AllHalt r bit 3 bit
    unknown_form f = at_bit r bit 3 (λ p a. halts_by r.cursor.bytes r.cursor.start r.cursor.end p r.list r.fields (unknown k) (p.at + p.here.width) 3 (at_id r p bit a (4 + k) i.is, f.finds p.here a.is.here, refl)
        (omega (arith, s.within, i.place, at_place r p bit a)) (b3 (λ x. x)) (record {
          known = λ h. absurd (omega (arith, h));
          sound = λ h. absurd (omega (arith, h));
          stated = tt;
          named = λ h. absurd (omega (arith, h));
          small = λ h. absurd (omega (arith, h));
          right = λ h. absurd (omega (arith, h));
          few = λ h. absurd (omega (arith, h));
        }) (omega arith))

    module _ (form : Abbreviation) (f : FindAnswer (Some form) r.info r.here k) where
      pub form_short : NoneSpelled r.cursor form → AllHalt r bit 2 bit
      form_short h = at_end r bit (λ p a. no_spelled r.cursor.bytes r.cursor.start r.cursor.end p k form (at_id r p bit a (4 + k) i.is) (f.finds p.here a.is.here)
          (λ values after x. h.none values after (subst (λ (n : ℕ). AreSpelled r.cursor.bytes r.cursor.start form n values after) (sym (i.place ∙ at_place r p bit a)) x)))

      pub form_taken : (c : Cursor) (fields : List ℕ) (coded : Coded) → IsSound form → IsRecord r.cursor c form (2 ^ 24 - r.operands) coded r.fields fields → IsRecordTaken r bit (record r { cursor = c; fields = fields }) coded
      form_taken c fields coded sound x = record {
        same = record { bytes = ap (λ (d : Cursor). d.bytes) x.moves; start = ap (λ (d : Cursor). d.start) x.moves; end = ap (λ (d : Cursor). d.end) x.moves };
        forward = omega (arith, s.low, i.place, spelled_forward r.cursor.bytes r.cursor.start form r.cursor.place x.values c.place x.lays);
        within = omega (arith, x.within, ap (λ (d : Cursor). d.end) x.moves);
        here = refl;
        around = refl;
        info = refl;
        operands = refl;
        records = refl;
        list = refl;
        grows = λ e. let g = grown coded (2 ^ 24 - r.operands) r.fields fields x.values (counted form x.values) x.is e in (g.0, omega (arith, g.1, s.few_fields));
        stands = λ p a. record {
          shape = by k x.values;
          values = x.values;
          count = counted form x.values;
          lays = (at_id r p bit a (4 + k) i.is, (form, f.finds p.here a.is.here, subst (λ (n : ℕ). AreSpelled r.cursor.bytes r.cursor.start form n x.values c.place) (i.place ∙ at_place r p bit a) x.lays));
          is = subst (λ (vs : List ℕ). IsRecordOf p (by k vs) vs (counted form vs)) (sym first.is) (record_by p k form first.first first.rest (f.finds p.here a.is.here));
          coded_is = x.is;
        };
      } where
        first : Starts form x.values
        first = starts r.cursor.bytes r.cursor.start form r.cursor.place x.values c.place sound x.lays

-- a record that was taken
module _ (r mid : Reader) (bit : ℕ) (coded : Coded) (s : IsSteady r) (t : IsRecordTaken r bit mid coded) where
  within_end : (p : Place) (a : IsAt r p bit) (x : IsRecordAt r p mid coded) → Within r.cursor.end p x.shape mid.cursor.place
  within_end p a x = subst (λ (n : ℕ). n ≤ r.cursor.end) (sym (x.is.reached mid.cursor.place)) (omega (arith, t.within, t.same.end))

  rec_halts : (n : ℕ) (p : Place) (a : IsAt r p bit) (x : IsRecordAt r p mid coded) → Breaks p r.list r.fields x.shape mid.cursor.place n p.at → (6 < n → IsNamed p x.shape) → (7 < n → IsSmall p x.shape) → (8 < n → IsInside p.around)
      → (9 < n → r.records < 2 ^ 22) → n ≤ 10 → Halts r.cursor.bytes r.cursor.start r.cursor.end p r.list r.fields n p.at
  rec_halts n p a x breaks named small inside few l = halts_by r.cursor.bytes r.cursor.start r.cursor.end p r.list r.fields x.shape mid.cursor.place n x.lays (within_end p a x) breaks (record {
    known = λ h. x.is.known;
    sound = λ h. x.is.sound;
    stated = x.is.stated mid.cursor.place;
    named = named;
    small = small;
    right = λ h. x.is.right (inside h);
    few = λ h. subst (λ (js : List Item). records (r.list ++ js) ≤ 2 ^ 22) (sym (x.is.is_item (length r.fields)))
        (omega (arith, records_more r.list (Record (first_of_all x.values) (length r.fields) (length (rest_of x.values)) p.at), a.count, few h));
  }) l

  -- too many records
  breaks_records : (p : Place) (a : IsAt r p bit) (x : IsRecordAt r p mid coded) → 2 ^ 22 ≤ r.records → Breaks p r.list r.fields x.shape mid.cursor.place 9 p.at
  breaks_records p a x h = too_many_records (subst (λ (js : List Item). 2 ^ 22 < records (r.list ++ js)) (sym (x.is.is_item (length r.fields)))
      (omega (arith, records_more r.list (Record (first_of_all x.values) (length r.fields) (length (rest_of x.values)) p.at), a.count, h)))

  around_here : (mid.around ≡ [] → ⊥) → r.around ≡ [] → ⊥
  around_here n e = n (t.around ∙ e)

  -- where a number is wide
  pub rec_wide : coded.row ≡ Wide → AllHalt r bit 7 bit
  rec_wide e = at_bit r bit 7 (λ p a. at_place_of p a (t.stands p a)) where
    at_place_of : (p : Place) (a : IsAt r p bit) (x : IsRecordAt r p mid coded) → Halts r.cursor.bytes r.cursor.start r.cursor.end p r.list r.fields 7 p.at
    at_place_of p a x = rec_halts 7 p a x (b7 (λ y. let z = x.is.all_small y in wide z.0 z.1)) (λ h. x.is.named (λ i v. wide (subst (λ (vs : List ℕ). All (λ n. n < 2 ^ 64) vs) (sym v) one_small) (omega (arith, x.is.few, ap length v)))) (λ h. absurd (omega (arith, h)))
        (λ h. absurd (omega (arith, h))) (λ h. absurd (omega (arith, h))) (omega arith) where
          wide : All (λ v. v < 2 ^ 64) x.values → x.count < 2 ^ 64 → ⊥
          wide = subst (λ (w : Row). IsCoded w coded.code (2 ^ 24 - r.operands) r.fields mid.fields x.values x.count) e x.coded_is

          one_small : All (λ (n : ℕ). n < 2 ^ 64) (1 ∷ [])
          one_small = small_cons 1 [] (omega arith) (λ k d low. absurd (omega arith))

  module _ (e : coded.row ≡ Many) where
    many_of : (p : Place) (x : IsRecordAt r p mid coded) → IsCoded Many coded.code (2 ^ 24 - r.operands) r.fields mid.fields x.values x.count
    many_of p x = subst (λ (w : Row). IsCoded w coded.code (2 ^ 24 - r.operands) r.fields mid.fields x.values x.count) e x.coded_is

    many_named : (p : Place) (x : IsRecordAt r p mid coded) → IsNamed p x.shape
    many_named p x = x.is.named (λ i v. absurd (omega (arith, (many_of p x).3, length-append r.fields (rest_of x.values), ap (λ (vs : List ℕ). length (rest_of vs)) v, s.few_fields)))

    many_small : (p : Place) (x : IsRecordAt r p mid coded) → IsSmall p x.shape
    many_small p x = x.is.small (many_of p x).1 (many_of p x).2

    pub many_top : mid.around ≡ [] → AllHalt r bit 8 bit
    many_top n = at_bit r bit 8 (λ p a. let x = t.stands p a in
        rec_halts 8 p a x (b8 (λ y. none_around r p bit a (sym t.around ∙ n) (x.is.inside y))) (λ h. many_named p x) (λ h. many_small p x) (λ h. absurd (omega (arith, h))) (λ h. absurd (omega (arith, h))) (omega arith))

    pub many_records : (mid.around ≡ [] → ⊥) → 2 ^ 22 ≤ mid.records → AllHalt r bit 9 bit
    many_records n h = at_bit r bit 9 (λ p a. let x = t.stands p a in
        rec_halts 9 p a x (breaks_records p a x (omega (arith, h, t.records))) (λ h. many_named p x) (λ h. many_small p x) (λ h. is_inside r p bit a (around_here n)) (λ h. absurd (omega (arith, h))) (omega arith))

    pub many_fields : (mid.around ≡ [] → ⊥) → mid.records < 2 ^ 22 → AllHalt r bit 10 bit
    many_fields n h = at_bit r bit 10 (λ p a. let x = t.stands p a in
        rec_halts 10 p a x (too_many_fields (omega (arith, (many_of p x).3, ap (λ (fs : List ℕ). length (r.fields ++ fs)) x.is.are_fields, a.operands, x.is.no_operands))) (λ h. many_named p x) (λ h. many_small p x) (λ h. is_inside r p bit a (around_here n))
        (λ g. omega (arith, h, t.records)) (omega arith))

  module _ (e : coded.row ≡ Taken) where
    taken_of : (p : Place) (x : IsRecordAt r p mid coded) → IsCoded Taken coded.code (2 ^ 24 - r.operands) r.fields mid.fields x.values x.count
    taken_of p x = subst (λ (w : Row). IsCoded w coded.code (2 ^ 24 - r.operands) r.fields mid.fields x.values x.count) e x.coded_is

    length_of : (p : Place) (x : IsRecordAt r p mid coded) → length mid.fields ≡ length r.fields + length (rest_of x.values)
    length_of p x = omega (arith, ap length (taken_of p x).3, length-append r.fields (rest_of x.values))

    values_are : (p : Place) (x : IsRecordAt r p mid coded) → x.values ≡ coded.code ∷ rest_of x.values
    values_are p x = x.is.some coded.code (rest_of x.values) (taken_of p x).0 refl

    taken_small : (p : Place) (x : IsRecordAt r p mid coded) → IsSmall p x.shape
    taken_small p x = x.is.small (taken_of p x).1 (taken_of p x).2

    none_left : (vs : List ℕ) → length vs ≡ 0 → vs ≡ []
    none_left [] h = refl
    none_left (v ∷ vs) h = absurd (omega (arith, h))

    module _ (count : ℕ) (is_count : count ≡ length mid.fields - length r.fields) where
      pub rec_nameless : (mid.here.kind ≡ Some BlockInfo) × (coded.code ≡ 1) × (count ≡ 0) → AllHalt r bit 6 bit
      rec_nameless n = at_bit r bit 6 (λ p a. let x = t.stands p a in
          let empty : rest_of x.values ≡ [] = none_left (rest_of x.values) (omega (arith, n.2, is_count, length_of p x)) in
          let info : p.here.id ≡ Some 0 = a.is.here.id ∙ ap (λ (o : Open). id_of o.kind) (sym t.here) ∙ ap id_of n.0 in
          rec_halts 6 p a x (b6 (λ y. x.is.unnamed y info (x.is.some 1 [] ((taken_of p x).0 ∙ n.1) empty))) (λ h. absurd (omega (arith, h))) (λ h. absurd (omega (arith, h))) (λ h. absurd (omega (arith, h))) (λ h. absurd (omega (arith, h))) (omega arith))

      module _ (n : (mid.here.kind ≡ Some BlockInfo) × (coded.code ≡ 1) × (count ≡ 0) → ⊥) where
        taken_named : (p : Place) (a : IsAt r p bit) (x : IsRecordAt r p mid coded) → IsNamed p x.shape
        taken_named p a x = x.is.named (λ i v.
            n (ap (λ (o : Open). o.kind) t.here ∙ info_kind r.here.kind (sym a.is.here.id ∙ i), sym (taken_of p x).0 ∙ ap first_of_all v, omega (arith, is_count, length_of p x, ap (λ (vs : List ℕ). length (rest_of vs)) v)))

        pub rec_top : mid.around ≡ [] → AllHalt r bit 8 bit
        rec_top o = at_bit r bit 8 (λ p a. let x = t.stands p a in
            rec_halts 8 p a x (b8 (λ y. none_around r p bit a (sym t.around ∙ o) (x.is.inside y))) (λ h. taken_named p a x) (λ h. taken_small p x) (λ h. absurd (omega (arith, h))) (λ h. absurd (omega (arith, h))) (omega arith))

        pub rec_records : (mid.around ≡ [] → ⊥) → 2 ^ 22 ≤ mid.records → AllHalt r bit 9 bit
        rec_records o h = at_bit r bit 9 (λ p a. let x = t.stands p a in
            rec_halts 9 p a x (breaks_records p a x (omega (arith, h, t.records))) (λ h. taken_named p a x) (λ h. taken_small p x) (λ h. is_inside r p bit a (around_here o)) (λ h. absurd (omega (arith, h))) (omega arith))

        pub rec_step : (new : Reader) → (mid.around ≡ [] → ⊥) → mid.records < 2 ^ 22 → IsNaming mid.here new.here coded.code (drop (length r.fields) mid.fields) → new.cursor ≡ mid.cursor → new.around ≡ mid.around → new.info ≡ mid.info
            → new.operands ≡ mid.operands → new.records ≡ mid.records + 1 → new.list ≡ mid.list ++ Record coded.code (length r.fields) count bit ∷ [] → new.fields ≡ mid.fields → IsStepped r bit new false
        rec_step new o few name cursor around info operands more list fields = record {
          same = record {
            bytes = ap (λ (c : Cursor). c.bytes) cursor ∙ t.same.bytes;
            start = ap (λ (c : Cursor). c.start) cursor ∙ t.same.start;
            end = ap (λ (c : Cursor). c.end) cursor ∙ t.same.end;
          };
          forward = rw cursor t.forward;
          within = rw cursor t.within;
          steps = λ p a g. stepped p a g (t.stands p a);
        } where
          stepped : (p : Place) (a : IsAt r p bit) → p.over ≡ false → (x : IsRecordAt r p mid coded) → IsStep r p new false
          stepped p a g x = record {
            shape = x.shape;
            after = mid.cursor.place;
            lays = x.lays;
            fine = record {
              b2 = within_end p a x;
              b3 = x.is.known;
              b4 = x.is.sound;
              b5 = x.is.stated mid.cursor.place;
              b6 = taken_named p a x;
              b7 = taken_small p x;
              b8 = x.is.right (is_inside r p bit a (around_here o));
            };
            at = subst (λ (q : Place). IsAt new q new.cursor.place) (sym (x.is.is_next mid.cursor.place)) placed;
            ends = ap (λ (q : Place). q.over) (x.is.is_next mid.cursor.place) ∙ g;
            list = list ∙ ap (λ (js : List Item). js ++ Record coded.code (length r.fields) count bit ∷ []) t.list ∙ ap (λ (js : List Item). r.list ++ js) (one_item ∙ sym (x.is.is_item (length r.fields)));
            fields = fields ∙ (taken_of p x).3 ∙ ap (λ (fs : List ℕ). r.fields ++ fs) (sym x.is.are_fields);
            steady = record {
              within = rw cursor t.within;
              end = omega (arith, ap (λ (c : Cursor). c.end) cursor, t.same.end, s.end);
              low = omega (arith, name.width, ap (λ (h : Open). h.width) t.here, s.low);
              high = omega (arith, name.width, ap (λ (h : Open). h.width) t.here, s.high);
              room = omega (arith, name.content, ap (λ (h : Open). h.content) t.here, s.room);
              few_records = omega (arith, more, few);
              few_fields = omega (arith, ap length fields, operands, t.operands, (t.grows e).1);
            };
          } where
            rest : List ℕ
            rest = rest_of x.values

            one_item : Record coded.code (length r.fields) count bit ∷ [] ≡ Record (first_of_all x.values) (length r.fields) (length (rest_of x.values)) p.at ∷ []
            one_item =
                let counts : count ≡ length (rest_of x.values) = omega (arith, is_count, length_of p x) in
                rw ((taken_of p x).0, counts, a.at) refl

            row : drop (length r.fields) mid.fields ≡ rest_of x.values
            row = ap (λ (fs : List ℕ). drop (length r.fields) fs) (taken_of p x).3 ∙ drop-append_seam r.fields (rest_of x.values)

            block : IsBlockOf new.info new.here (naming p.here x.values)
            block = subst (λ (vs : List ℕ). IsBlockOf new.info new.here (naming p.here vs)) (sym (values_are p x))
                (subst (λ (vs : List ℕ). IsBlockOf new.info new.here (naming p.here (coded.code ∷ vs))) row
                (name.names new.info p.here (rw (info, t.info, t.here) a.is.here)))

            placed : IsAt new (record p { at = mid.cursor.place; here = naming p.here x.values }) new.cursor.place
            placed = record {
              is = record { here = block; around = rw (info, t.info, around, t.around) a.is.around; given = rw (info, t.info) a.is.given };
              at = sym (ap (λ (c : Cursor). c.place) cursor);
              operands = a.operands ∙ sym (operands ∙ t.operands);
              count = omega (arith, ap (λ (js : List Item). records js) list, ap (λ (js : List Item). records js) t.list, records_more mid.list (Record coded.code (length r.fields) count bit), a.count, more, t.records);
            }
