-- A reader behind the items that it has read.
use Rattle.std.proofs.Common.{ap, refl, sym, ◌∙◌, subst, ℕ, ◌≡◌, ◌+◌, ◌<◌, ◌≤◌, ◌^◌, List, [], ◌++◌, length, arith, Bool, true, false, IsTrue, ◌↔◌, None, Ok, Err}
use Rattle.dx_base.specs.Cursor.{Cursor, moved}
use Rattle.dx_base.specs.declared.fault.Fault.{Fault}
use Rattle.dx_base.specs.declared.fault.Fault.TheVariants.{Refused, Limit, OutOfMemory}
use Rattle.dx_base.specs.declared.fault.Rule.TheVariants.{B}
use Rattle.bitstream_spelling.specs.Spelling.{Place, next, item}
use Rattle.bitstream_spelling.specs.Rules.{beginning, HasMagic, IsFront, begins, goes_on, IsWhole, AreWithin}
use Rattle.bitstream_spelling.specs.Framed.{IsFramed}
use Rattle.bitstream_spelling.specs.declared.item.Item.{Item}
use Rattle.bitstream_spelling.proofs.Fronts.{whole_sound, whole_unique}
use Rattle.bitstream_spelling.proofs.FramedLaws.{whole_framed}
use Rattle.dx_bitstream.specs.Answers.{ItemsAnswer, IsOnly}
use Rattle.dx_bitstream.specs.Given.{given_of}
use Rattle.dx_bitstream.specs.Steps.{HaltAnswer, IsSameRead, IsStep, IsStepped, StepAnswer, IsAtFront, WholeAnswer}
use Rattle.dx_bitstream.specs.declared.kind.BlockKind.{BlockKind}
use Rattle.dx_bitstream.specs.declared.reader.Reader.{Reader}
use Rattle.dx_bitstream.proofs.Halting.{AllHalt, at_end, fault_first, no_magic_first}
use Rattle.dx_bitstream.proofs.PlaceLaws.{untrue}
use Rattle.dx_bitstream.proofs.Standing.{no_id}

pub id_short : (r : Reader) (bit : ℕ) → bit ≡ r.cursor.place → r.cursor.end < r.cursor.place + r.here.width → AllHalt r r.cursor.place 2 bit
id_short r bit e h = subst (λ (b : ℕ). AllHalt r r.cursor.place 2 b) (sym e) (at_end r r.cursor.place (λ p a. no_id r.cursor.bytes r.cursor.start r.cursor.end p (omega (arith, h, a.at, a.is.here.width))))

front_same : (bytes bytes2 : List ℕ) (start start2 end end2 : ℕ) (p : Place) (js : List Item) (gs : List ℕ) → bytes2 ≡ bytes → start2 ≡ start → end2 ≡ end → IsFront bytes start end p js gs → IsFront bytes2 start2 end2 p js gs
front_same bytes bytes2 start start2 end end2 p js gs a b c f = rw (a, b, c) f

pub to_over : (old new : Reader) (bit : ℕ) (b c : Bool) → b ≡ c → IsStepped old bit new b → IsStepped old bit new c
to_over old new bit b c e s = subst (λ x. IsStepped old bit new x) e s

module _ (old new : Reader) (f : IsAtFront old) (over : Bool) (s : IsStepped old old.cursor.place new over) where
  step_of : IsStep old f.place new over
  step_of = s.steps f.place f.at f.front.going

  few_of : AreWithin (next f.place step_of.shape step_of.after) new.list new.fields
  few_of = record { records_few = omega (arith, step_of.at.count, step_of.steady.few_records); fields_few = omega (arith, step_of.at.operands, step_of.steady.few_fields) }

  front_of : IsFront old.cursor.bytes old.cursor.start old.cursor.end (next f.place step_of.shape step_of.after) new.list new.fields
  front_of =
      let one = goes_on f.front.front f.front.going step_of.lays step_of.fine in
      subst (λ (js : List Item). IsFront old.cursor.bytes old.cursor.start old.cursor.end (next f.place step_of.shape step_of.after) js new.fields) (sym step_of.list)
      (subst (λ (gs : List ℕ). IsFront old.cursor.bytes old.cursor.start old.cursor.end (next f.place step_of.shape step_of.after) (old.list ++ item f.place step_of.shape (length old.fields)) gs) (sym step_of.fields) one)

pub come_on : (old new : Reader) → IsAtFront old → IsStepped old old.cursor.place new false → IsAtFront new
come_on old new f s =
    let t = step_of old new f false s in
    record {
      place = next f.place t.shape t.after;
      at = t.at;
      front = record { front = front_same _ _ _ _ _ _ _ _ _ s.same.bytes s.same.start s.same.end (front_of old new f false s); going = t.ends; few = few_of old new f false s };
      steady = t.steady;
    }

pub come_whole : (old new : Reader) → IsAtFront old → IsStepped old old.cursor.place new true → IsWhole old.cursor.bytes old.cursor.start old.cursor.end new.list new.fields
come_whole old new f s =
    let t = step_of old new f true s in
    record { place = next f.place t.shape t.after; front = front_of old new f true s; over = t.ends; few = few_of old new f true s }

pub same_read : (old mid new : Reader) (bit : ℕ) (over : Bool) → IsSameRead old mid → IsStepped mid bit new over → IsSameRead old new
same_read old mid new bit over a s = record { bytes = s.same.bytes ∙ a.bytes; start = s.same.start ∙ a.start; end = s.same.end ∙ a.end }

pub whole_moved : (old mid : Reader) (list : List Item) (fs : List ℕ) → IsSameRead old mid → IsWhole mid.cursor.bytes mid.cursor.start mid.cursor.end list fs → IsWhole old.cursor.bytes old.cursor.start old.cursor.end list fs
whole_moved old mid list fs a r = rw (← a.bytes, ← a.start, ← a.end) r

halts_at : (mid new : Reader) (f : IsAtFront mid) (fault : Fault) → StepAnswer (Err fault) mid mid.cursor.place new → HaltAnswer fault mid f.place
halts_at mid new f (Refused rule bit) h = h.halts f.place f.at f.front.going
halts_at mid new f (Limit which bit) h = h.halts f.place f.at f.front.going
halts_at mid new f OutOfMemory h = tt

pub all_failed : (old mid new last : Reader) (fault : Fault) → IsSameRead old mid → IsAtFront mid → StepAnswer (Err fault) mid mid.cursor.place new → WholeAnswer (Err fault) old last
all_failed old mid new last fault a f h =
    let x : ItemsAnswer (Err fault) mid.cursor.bytes mid.cursor.start mid.cursor.end = fault_first mid f.place fault f.front (halts_at mid new f fault h) in
    rw (← a.bytes, ← a.start, ← a.end) x

-- where the reading begins
pub come_first : (r : Reader) (bytes : List ℕ) (start end : ℕ) → r.cursor ≡ record { bytes = bytes; start = start; place = start + 32; end = end }
    → r.here ≡ record { kind = None; width = 2; given = 0; own = []; named = None; words = 0; bit = start; content = start } → r.around ≡ [] → ((kind : BlockKind) → given_of r.info kind ≡ []) → r.operands ≡ 0 → r.records ≡ 0
    → r.list ≡ [] → r.fields ≡ [] → HasMagic bytes start end → end < 2 ^ 60 → IsAtFront r
come_first r bytes start end cursor here around given operands count list fields magic room = record {
  place = beginning bytes start end;
  at = record {
    is = record {
      here = rw here (record {
        id = refl;
        width = refl;
        enough = omega arith;
        forms = refl;
        named = refl;
        words = refl;
        bit = refl;
        content = refl;
        low = omega arith;
        high = omega arith;
        room = omega (arith, magic.0, room);
      });
      around = rw around tt;
      given = record { is = given };
    };
    at = sym (ap (λ (c : Cursor). c.place) cursor);
    operands = sym operands;
    count = rw (list, count) refl;
  };
  front = record {
    front = rw (cursor, list, fields) (begins magic);
    going = refl;
    few = record { records_few = rw list (omega arith); fields_few = rw fields (omega arith) };
  };
  steady = record {
    within = rw cursor magic.0;
    end = rw cursor room;
    low = rw here (omega arith);
    high = rw here (omega arith);
    room = rw here (omega (arith, magic.0, room));
    few_records = rw count (omega arith);
    few_fields = rw (fields, operands) (omega arith);
  };
}

module _ (c : Cursor) (bytes : List ℕ) (start place end : ℕ) (e : c ≡ record { bytes = bytes; start = start; place = place; end = end }) where
  whole_here : (list : List Item) (fs : List ℕ) → IsWhole c.bytes c.start c.end list fs → IsWhole bytes start end list fs
  whole_here list fs r = subst (λ (x : Cursor). IsWhole x.bytes x.start x.end list fs) e r

  pub exact_here : (list : List Item) (fs : List ℕ) → IsWhole c.bytes c.start c.end list fs → ItemsAnswer (Ok (record { list = list; fields = fs })) bytes start end
  exact_here list fs r = let w = whole_here list fs r in (w, whole_sound bytes start end list fs w)

  pub only_here : (list : List Item) (fs : List ℕ) → IsWhole c.bytes c.start c.end list fs → IsOnly bytes start end (record { list = list; fields = fs })
  only_here list fs r = record { only = λ js gs w. whole_unique bytes start end js list gs fs w (whole_here list fs r) }

  pub framed_here : (list : List Item) (fs : List ℕ) → end ≤ 2 ^ 35 → IsWhole c.bytes c.start c.end list fs → IsFramed list fs
  framed_here list fs l r = whole_framed bytes start end list fs l (whole_here list fs r)

  pub fault_here : (fault : Fault) → ItemsAnswer (Err fault) c.bytes c.start c.end → ItemsAnswer (Err fault) bytes start end
  fault_here fault r = subst (λ (x : Cursor). ItemsAnswer (Err fault) x.bytes x.start x.end) e r

pub magic_missing : (fault : Fault) (c : Cursor) (bytes : List ℕ) (start end : ℕ) (b : Bool) → c ≡ record { bytes = bytes; start = start; place = start; end = end } → b ≡ false → (IsTrue b ↔ HasMagic c.bytes c.place c.end)
    → fault ≡ Refused (B 1) start → ItemsAnswer (Err fault) bytes start end
magic_missing fault c bytes start end b e f t x =
    subst (λ (y : Fault). ItemsAnswer (Err y) bytes start end) (sym x) (no_magic_first bytes start end (λ m. untrue b f t (subst (λ (x : Cursor). HasMagic x.bytes x.place x.end) (sym e) m)))

pub behind_of : (c new : Cursor) (bytes : List ℕ) (start end : ℕ) (b : Bool) → c ≡ record { bytes = bytes; start = start; place = start; end = end } → b ≡ true → (IsTrue b → new ≡ moved c (c.place + 32))
    → new ≡ record { bytes = bytes; start = start; place = start + 32; end = end }
behind_of c new bytes start end b e t h = h t ∙ ap (λ (x : Cursor). moved x (x.place + 32)) e

pub magic_of : (c : Cursor) (bytes : List ℕ) (start end : ℕ) (b : Bool) → c ≡ record { bytes = bytes; start = start; place = start; end = end } → b ≡ true → (IsTrue b ↔ HasMagic c.bytes c.place c.end) → HasMagic bytes start end
magic_of c bytes start end b e t h = subst (λ (x : Cursor). HasMagic x.bytes x.place x.end) e (h.0 t)
