-- The parts that were read one by one, and what they make together.
use Rattle.std.proofs.Common.{ℕ, ◌≡◌, ◌+◌, ◌*◌, ◌^◌, ◌<◌, ◌≤◌, ◌⊎◌, ◌↔◌, inl, inr, refl, sym, ◌∙◌, ap, subst, arith, List, [], ◌∷◌, ◌++◌, length, length-append, zero, suc, Option, Some, None, Bool, true, false, IsTrue, if◌then◌else◌, Result, Ok, Err, get_or}
use Rattle.std.specs.Prelude.{codes, slice_get, nat_lt, IsSome, IfOk}
use Rattle.std.proofs.lemmas.Bool.{cases_lt, ltb-true}
use Rattle.std.proofs.lemmas.List.{same_lists}
use Rattle.std.proofs.lemmas.Option.{slice_get_cases, slice_get_within, slice_get-get_or}
use Rattle.dx_base.proofs.BitLaws.{num-lt}
use Rattle.dx_base.specs.First.{IsFirst, IsSound}
use Rattle.dx_base.specs.declared.fault.Fault.{Fault}
use Rattle.dx_base.specs.declared.fault.Fault.TheVariants.{Refused, Limit, OutOfMemory}
use Rattle.dx_base.specs.declared.fault.Rule.TheVariants.{C, B, Y, M, N, P}
use Rattle.dxbc_container.specs.declared.part.Part.{Part}
use Rattle.dxbc_container.specs.declared.part.Parts.{Parts}
use Rattle.dxbc_container.specs.declared.read.Table.{Table}
use Rattle.dxbc_container.specs.declared.read.Broken.{Broken}
use Rattle.dxbc_container.specs.Layout.{characters, size, entry, count, table_end, header, data_size, IsPlaced, IsNamedDxil, IsPart, IsShader, Carries, bitcode_offset, bitcode_size}
use Rattle.dxbc_container.specs.Rules.{IsLong, BreaksShader, IsBroken}
use Rattle.dxbc_container.specs.Reading.{FaultAnswer, ContainerAnswer, IsFixedSound, IsHeader, NoneNamed, OneNamed, NamedAnswer, NoneLong, LeastLong, LongAnswer, AreParts, lesser, long_with, ShaderAnswer, earlier, PartsAnswer, LiesIn}
use Rattle.dxbc_container.proofs.Firsts.{first_c5, first_shader, first_c6, first_c7, sound, shader_none, shader_rank}

pub refused_is : (bytes : List ℕ) (f : Fault) (n bit : ℕ) → f ≡ Refused (C n) bit → IsFirst (IsBroken bytes) n bit → FaultAnswer f bytes
refused_is bytes f n bit e h = subst (λ (x : Fault). FaultAnswer x bytes) (sym e) h

pub shader_is : (bytes : List ℕ) (at : ℕ) (o : Option Broken) (n bit : ℕ) → o ≡ Some (record { rule = n; bit = bit }) → IsFirst (BreaksShader bytes at) n bit → ShaderAnswer o bytes at
shader_is bytes at o n bit e h = subst (λ (x : Option Broken). ShaderAnswer x bytes at) (sym e) h

-- a test of a value that is known by another name
pub not_at : {A : Type 0} (Says : A → Type 0) (b : Bool) (v w : A) → b ≡ false → (IsTrue b ↔ Says v) → v ≡ w → Says w → ⊥
not_at Says b v w e h same p = let t : b ≡ true = h.1 (subst Says (sym same) p) in absurd (cc)

pub so_at : {A : Type 0} (Says : A → Type 0) (b : Bool) (v w : A) → b ≡ true → (IsTrue b ↔ Says v) → v ≡ w → Says w
so_at Says b v w e h same = subst Says same (h.0 e)

-- a test that is false
pub not_so : {A : Type 0} (b : Bool) → b ≡ false → (IsTrue b ↔ A) → A → ⊥
not_so b e h a = let t : b ≡ true = h.1 a in absurd (cc)

module _ (bytes : List ℕ) where
  pub header_small : (i : ℕ) → header bytes i < 2 ^ 32
  header_small i = num-lt bytes (8 * entry i) 32

  at_last : {A : Type 0} (k i : ℕ) → k < i + 1 → (k < i → A) → (k ≡ i → A) → A
  at_last k i h f g = elim (cases_lt k i) [ inl a ↦ f a | inr b ↦ g (omega arith) ]

  named_at : (k i : ℕ) → k ≡ i → IsNamedDxil bytes (header bytes k) → IsNamedDxil bytes (header bytes i)
  named_at k i e = subst (λ (j : ℕ). IsNamedDxil bytes (header bytes k) → IsNamedDxil bytes (header bytes j)) e (λ x. x)

  long_at : (k i : ℕ) → k ≡ i → IsLong bytes (header bytes k) → IsLong bytes (header bytes i)
  long_at k i e = subst (λ (j : ℕ). IsLong bytes (header bytes k) → IsLong bytes (header bytes j)) e (λ x. x)

  -- part i is named DXIL or not
  named_step : (i : ℕ) (before : Option ℕ) (b : Bool) → NamedAnswer before bytes i → (b ≡ true → IsNamedDxil bytes (header bytes i)) → (b ≡ false → IsNamedDxil bytes (header bytes i) → ⊥) → ((b ≡ true) × IsSome before → ⊥)
      → NamedAnswer (if b then Some i else before) bytes (i + 1)
  named_step i None false h is_so isnt two = record { none = λ k low x. at_last k i low (λ a. h.none k a x) (λ e. isnt refl (named_at k i e x)) }
  named_step i (Some d) false h is_so isnt two = record {
    below = omega (arith, h.below);
    named = h.named;
    only = λ k low x. at_last k i low (λ a. h.only k a x) (λ e. absurd (isnt refl (named_at k i e x)));
  }
  named_step i None true h is_so isnt two = record {
    below = omega arith;
    named = is_so refl;
    only = λ k low x. at_last k i low (λ a. absurd (h.none k a x)) (λ e. e);
  }
  named_step i (Some d) true h is_so isnt two = absurd (two (refl, refl))

  pub named_more : (i : ℕ) (before : Option ℕ) (b : Bool) (name : List ℕ) → NamedAnswer before bytes i → name ≡ characters bytes (header bytes i) → (IsTrue b ↔ (name ≡ codes "DXIL")) → ((b ≡ true) × IsSome before → ⊥)
      → NamedAnswer (if b then Some i else before) bytes (i + 1)
  named_more i before b name h e t two = named_step i before b h (λ y. record { name = sym e ∙ t.0 y }) (λ y x. not_so b y t (e ∙ x.name)) two

  -- the data of part i pass the container or do not
  long_step : (i : ℕ) (before : Option ℕ) (b : Bool) → LongAnswer before bytes i → (b ≡ true → IsLong bytes (header bytes i)) → (b ≡ false → IsLong bytes (header bytes i) → ⊥)
      → LongAnswer (if b then Some (lesser before (8 * (header bytes i + 4))) else before) bytes (i + 1)
  long_step i None false h is_so isnt = record { none = λ k low x. at_last k i low (λ a. h.none k a x) (λ e. isnt refl (long_at k i e x)) }
  long_step i (Some m) false h is_so isnt = record {
    index = h.index;
    below = omega (arith, h.below);
    long = h.long;
    is = h.is;
    least = λ k low x. at_last k i low (λ a. h.least k a x) (λ e. absurd (isnt refl (long_at k i e x)));
  }
  long_step i None true h is_so isnt = record {
    index = i;
    below = omega arith;
    long = is_so refl;
    is = refl;
    least = λ k low x. at_last k i low (λ a. absurd (h.none k a x)) (λ e. let same : header bytes k ≡ header bytes i = ap (λ j. header bytes j) e in omega arith);
  }
  long_step i (Some m) true h is_so isnt = pick (nat_lt m (8 * (header bytes i + 4))) (λ e. ltb-true m (8 * (header bytes i + 4)) e) (λ e. not_below m (8 * (header bytes i + 4)) e) where
    not_below : (m n : ℕ) → nat_lt m n ≡ false → n ≤ m
    not_below m n e = grind (arith)

    pick : (t : Bool) → (t ≡ true → m < 8 * (header bytes i + 4)) → (t ≡ false → 8 * (header bytes i + 4) ≤ m) → LeastLong bytes (i + 1) (if t then m else 8 * (header bytes i + 4))
    pick true lt ge = record {
      index = h.index;
      below = omega (arith, h.below);
      long = h.long;
      is = h.is;
      least = λ k low x. at_last k i low (λ a. h.least k a x) (λ e. let same : header bytes k ≡ header bytes i = ap (λ j. header bytes j) e in omega (arith, lt refl));
    }
    pick false lt ge = record {
      index = i;
      below = omega arith;
      long = is_so refl;
      is = refl;
      least = λ k low x. at_last k i low (λ a. omega (arith, h.least k a x, ge refl)) (λ e. let same : header bytes k ≡ header bytes i = ap (λ j. header bytes j) e in omega arith);
    }

  test_long : (c n : ℕ) → (nat_lt c n ≡ true → c < n) × (nat_lt c n ≡ false → n ≤ c)
  test_long c n = (λ e. ltb-true c n e, λ e. grind (arith))

  pub long_more : (i : ℕ) (before : Option ℕ) (part : Part) (container : ℕ) → container ≡ size bytes → IsHeader bytes i part → LongAnswer before bytes i → LongAnswer (long_with before part container) bytes (i + 1)
  long_more i before part container e p h =
      let t = test_long container (part.at + 8 + part.size) in
      let s = long_step i before (nat_lt container (part.at + 8 + part.size)) h (λ y. record { long = omega (arith, t.0 y, p.at, p.size_is) }) (λ y x. omega (arith, t.1 y, p.at, p.size_is, x.long)) in
      subst (λ (a : ℕ). LongAnswer (if nat_lt container (part.at + 8 + part.size) then Some (lesser before (8 * (a + 4))) else before) bytes (i + 1)) (sym p.at) s

  pub to_named : (i : ℕ) (a b : Option ℕ) → a ≡ b → NamedAnswer b bytes i → NamedAnswer a bytes i
  to_named i a b e h = subst (λ (x : Option ℕ). NamedAnswer x bytes i) (sym e) h

  pub to_long : (i : ℕ) (a b : Option ℕ) → a ≡ b → LongAnswer b bytes i → LongAnswer a bytes i
  to_long i a b e h = subst (λ (x : Option ℕ). LongAnswer x bytes i) (sym e) h

  get_last : (xs : List Part) (p q : Part) (k : ℕ) → slice_get (xs ++ p ∷ []) k ≡ Some q → (slice_get xs k ≡ Some q) ⊎ ((k ≡ length xs) × (q ≡ p))
  get_last [] p q zero e = inr (refl, cc)
  get_last [] p q (suc k) e = absurd (cc)
  get_last (x ∷ xs) p q zero e = inl e
  get_last (x ∷ xs) p q (suc k) e = elim (get_last xs p q k e) [ inl a ↦ inl a | inr b ↦ inr (ap suc b.0, b.1) ]

  pub table_more : (i : ℕ) (old new : Table) (part : Part) → AreParts bytes i old → IsPlaced bytes (header bytes i) → IsHeader bytes i part → new.list ≡ old.list ++ part ∷ [] → NamedAnswer new.dxil bytes (i + 1) → LongAnswer new.long bytes (i + 1)
      → AreParts bytes (i + 1) new
  table_more i old new part t placed head e named long = record {
    counted = omega (arith, ap length e, length-append old.list (part ∷ []), t.counted);
    each = λ k q g. elim (get_last old.list part q k (sym (ap (λ (xs : List Part). slice_get xs k) e) ∙ g)) [
      | inl a ↦ t.each k q a
      | inr b ↦ let same : i ≡ k = omega (arith, b.0, t.counted) in subst (λ (j : ℕ). IsHeader bytes j q) same (subst (λ (x : Part). IsHeader bytes i x) (sym b.1) head)
    ];
    placed = λ k low. at_last k i low (λ a. t.placed k a) (λ same. subst (λ (j : ℕ). IsPlaced bytes (header bytes j)) (sym same) placed);
    named = named;
    long = long;
  }

  pub no_parts : (list : List Part) → list ≡ [] → AreParts bytes 0 (record { list = list; dxil = None; long = None })
  no_parts list e = record {
    counted = ap length e;
    each = λ k q g. absurd (omega (arith, slice_get_within list k q g, ap length e));
    placed = λ k low. absurd (omega arith);
    named = record { none = λ k low x. omega arith };
    long = record { none = λ k low x. omega arith };
  }

  -- a second part is named DXIL
  pub second : (n : ℕ) (before : Option ℕ) → IsFixedSound bytes → ((k : ℕ) → k < n → IsPlaced bytes (header bytes k)) → NamedAnswer before bytes n → n < count bytes → IsPlaced bytes (header bytes n)
      → (name : List ℕ) → name ≡ characters bytes (header bytes n) → name ≡ codes "DXIL" → IsSome before → IsFirst (IsBroken bytes) 7 (8 * entry n)
  second n None fixed placed named below p name e is some = absurd (cc)
  second n (Some d) fixed placed named below p name e is some = first_c7 bytes n fixed placed (Some d) named d below p named.below named.named (record { name = sym e ∙ is })

  module _ (fixed : IsFixedSound bytes) (placed : (k : ℕ) → k < count bytes → IsPlaced bytes (header bytes k)) (index : ℕ) (one : OneNamed bytes (count bytes) index) where
    not_early : (shader : Option Broken) → ShaderAnswer shader bytes (header bytes index) → (bit : ℕ) → LeastLong bytes (count bytes) bit → ((b : Broken) → shader ≡ Some b → bit ≤ b.bit)
        → (r b : ℕ) → BreaksShader bytes (header bytes index) r b → bit ≤ b
    not_early None (inl x) bit l h r b s = omega (arith, l.least index one.below x, (shader_rank bytes (header bytes index) r b s).0)
    not_early None (inr x) bit l h r b s = absurd (shader_none bytes (header bytes index) x r b s)
    not_early (Some f) x bit l h r b s = elim (x.least r b s) [ inl later ↦ omega (arith, h f refl) | inr same ↦ omega (arith, h f refl, same.0) ]

    pub failed : (long : Option ℕ) (shader : Option Broken) (f : Broken) → LongAnswer long bytes (count bytes) → ShaderAnswer shader bytes (header bytes index) → earlier long shader ≡ Some f → IsFirst (IsBroken bytes) f.rule f.bit
    failed None None f l s e = absurd (cc)
    failed None (Some g) f l s e =
        let same : g ≡ f = cc in
        subst (λ (x : Broken). IsFirst (IsBroken bytes) x.rule x.bit) same (first_shader bytes fixed placed index one g.rule g.bit s (λ k low x. absurd (l.none k low x)))
    failed (Some bit) None f l s e =
        let p : Some (record { rule = 5; bit = bit }) ≡ Some f = e in
        let same : record { rule = 5; bit = bit } ≡ f = cc in
        subst (λ (x : Broken). IsFirst (IsBroken bytes) x.rule x.bit) same (first_c5 bytes fixed placed index one bit l (not_early None s bit l (λ b q. absurd (cc))))
    failed (Some bit) (Some g) f l s e = pick (nat_lt g.bit bit) (λ y. ltb-true g.bit bit y) (test_long g.bit bit).1 e where
      pick : (b : Bool) → (b ≡ true → g.bit < bit) → (b ≡ false → bit ≤ g.bit) → (if b then Some g else Some (record { rule = 5; bit = bit })) ≡ Some f → IsFirst (IsBroken bytes) f.rule f.bit
      pick true lt ge q =
          let same : g ≡ f = cc in
          subst (λ (x : Broken). IsFirst (IsBroken bytes) x.rule x.bit) same (first_shader bytes fixed placed index one g.rule g.bit s (λ k low x. omega (arith, l.least k low x, lt refl)))
      pick false lt ge q =
          let same : record { rule = 5; bit = bit } ≡ f = cc in
          subst (λ (x : Broken). IsFirst (IsBroken bytes) x.rule x.bit) same
          (first_c5 bytes fixed placed index one bit l (not_early (Some g) s bit l (λ b y. let one : g ≡ b = cc in subst (λ (z : Broken). bit ≤ z.bit) one (ge refl))))

    pub whole : (long : Option ℕ) (shader : Option Broken) → LongAnswer long bytes (count bytes) → ShaderAnswer shader bytes (header bytes index) → earlier long shader ≡ None → NoneLong bytes (count bytes) × IsShader bytes (header bytes index)
    whole None None l (inl x) e = absurd (l.none index one.below x)
    whole None None l (inr x) e = (l, x)
    whole None (Some g) l s e = absurd (cc)
    whole (Some bit) None l s e = let p : Some (record { rule = 5; bit = bit }) ≡ None = e in absurd (cc)
    whole (Some bit) (Some g) l s e = pick (nat_lt g.bit bit) e where
      pick : {A : Type 0} (b : Bool) → (if b then Some g else Some (record { rule = 5; bit = bit })) ≡ None → A
      pick true q = absurd (cc)
      pick false q = absurd (cc)

  -- no part is named DXIL
  pub no_dxil : (t : Table) (f : Fault) (k : ℕ) → IsFixedSound bytes → AreParts bytes (count bytes) t → t.dxil ≡ None → k ≡ count bytes → f ≡ Refused (C 6) (8 * (32 + 4 * k)) → FaultAnswer f bytes
  no_dxil t f k fixed parts is same e =
      let none : NoneNamed bytes (count bytes) = subst (λ (d : Option ℕ). NamedAnswer d bytes (count bytes)) is parts.named in
      refused_is bytes f 6 (8 * table_end bytes) (e ∙ ap (λ (n : ℕ). Refused (C 6) (8 * (32 + 4 * n))) same) (first_c6 bytes fixed parts.placed none)

  -- the table and what its DXIL part answers
  module _ (t : Table) (index : ℕ) (part : Part) (shader : Option Broken) (fixed : IsFixedSound bytes) (parts : AreParts bytes (count bytes) t) (is : t.dxil ≡ Some index) (found : slice_get t.list index ≡ Some part)
      (answer : ShaderAnswer shader bytes part.at) where
    one : OneNamed bytes (count bytes) index
    one = subst (λ (d : Option ℕ). NamedAnswer d bytes (count bytes)) is parts.named

    head : part.at ≡ header bytes index
    head = (parts.each index part found).at

    there : ShaderAnswer shader bytes (header bytes index)
    there = subst (λ (at : ℕ). ShaderAnswer shader bytes at) head answer

    pub parts_failed : (f : Broken) → Some f ≡ earlier t.long shader → IsFirst (IsBroken bytes) f.rule f.bit
    parts_failed f e = failed fixed parts.placed index one t.long shader f parts.long there (sym e)

    module _ (e : None ≡ earlier t.long shader) where
      sane : NoneLong bytes (count bytes) × IsShader bytes (header bytes index)
      sane = whole fixed parts.placed index one t.long shader parts.long there (sym e)

      data_within : (i : ℕ) → i < count bytes → header bytes i + 8 + data_size bytes (header bytes i) ≤ size bytes
      data_within i low = elim (cases_lt (size bytes) (header bytes i + 8 + data_size bytes (header bytes i))) [ inl x ↦ absurd (sane.0.none i low (record { long = x })) | inr y ↦ y ]

      pub whole_shader : IsShader bytes part.at × part.at + 32 ≤ length bytes
      whole_shader = (subst (λ (at : ℕ). IsShader bytes at) (sym head) sane.1, omega (arith, head, data_within index one.below, sane.1.long, fixed.size_high))

      pub carried : (from to : ℕ) → from ≡ part.at + 16 + bitcode_offset bytes part.at → to ≡ from + bitcode_size bytes part.at → Carries bytes (record { list = t.list; dxil = index; from = from; to = to })
      carried from to a b = record {
        long = fixed.long;
        magic = fixed.magic;
        version_is = fixed.version_is;
        size_low = fixed.size_low;
        size_high = fixed.size_high;
        table = fixed.table;
        counted = parts.counted;
        each = λ i p g. let h = parts.each i p g in let low : i < count bytes = omega (arith, slice_get_within t.list i p g, parts.counted) in
            record { placed = parts.placed i low; at = h.at; name = h.name; size_is = h.size_is; within = data_within i low };
        dxil_below = one.below;
        dxil_named = one.named;
        only = one.only;
        shader = sane.1;
        from_is = a ∙ ap (λ (at : ℕ). at + 16 + bitcode_offset bytes at) head;
        to_is = b ∙ ap (λ (at : ℕ). from + bitcode_size bytes at) head;
      }

  -- where parts are carried, no rule is broken
  module _ (ps : Parts) (w : Carries bytes ps) where
    part_there : (i : ℕ) → i < count bytes → (p : Part) × IsPart bytes i p
    part_there i low = elim (slice_get_cases ps.list i).1 [
      | inl x ↦ (x.0, w.each i x.0 x.2)
      | inr y ↦ absurd (omega (arith, y.0, w.counted))
    ]

    fixed_of : IsFixedSound bytes
    fixed_of = record { long = w.long; magic = w.magic; version_is = w.version_is; size_low = w.size_low; size_high = w.size_high; table = w.table }

    pub sound_of : IsSound (IsBroken bytes)
    sound_of = sound bytes fixed_of (λ k low. (part_there k low).1.placed) ps.dxil (record { below = w.dxil_below; named = w.dxil_named; only = w.only })
        (record { none = λ k low x. omega (arith, (part_there k low).1.within, x.long) }) (shader_none bytes (header bytes ps.dxil) w.shader)

    same_part : (i : ℕ) (p q : Part) → IsPart bytes i p → IsPart bytes i q → p ≡ q
    same_part i p q a b =
        let name : List ℕ → Part = λ x. record { name = x; at = p.at; size = p.size } in
        let at : ℕ → Part = λ x. record { name = q.name; at = x; size = p.size } in
        let long : ℕ → Part = λ x. record { name = q.name; at = q.at; size = x } in
        ap name (a.name ∙ sym b.name) ∙ ap at (a.at ∙ sym b.at) ∙ ap long (a.size_is ∙ sym b.size_is)

    same_parts : (qs : Parts) → qs.list ≡ ps.list → qs.dxil ≡ ps.dxil → qs.from ≡ ps.from → qs.to ≡ ps.to → qs ≡ ps
    same_parts qs a b c d =
        let list : List Part → Parts = λ x. record { list = x; dxil = qs.dxil; from = qs.from; to = qs.to } in
        let dxil : ℕ → Parts = λ x. record { list = ps.list; dxil = x; from = qs.from; to = qs.to } in
        let from : ℕ → Parts = λ x. record { list = ps.list; dxil = ps.dxil; from = x; to = qs.to } in
        let to : ℕ → Parts = λ x. record { list = ps.list; dxil = ps.dxil; from = ps.from; to = x } in
        ap list a ∙ ap dxil b ∙ ap from c ∙ ap to d

    pub only_of : (qs : Parts) → Carries bytes qs → qs ≡ ps
    only_of qs v =
        let index : qs.dxil ≡ ps.dxil = w.only qs.dxil v.dxil_below v.dxil_named in
        let from : qs.from ≡ ps.from = v.from_is ∙ ap (λ (i : ℕ). header bytes i + 16 + bitcode_offset bytes (header bytes i)) index ∙ sym w.from_is in
        let to : qs.to ≡ ps.to = v.to_is ∙ ap (λ (i : ℕ). qs.from + bitcode_size bytes (header bytes i)) index ∙ ap (λ (f : ℕ). f + bitcode_size bytes (header bytes ps.dxil)) from ∙ sym w.to_is in
        let list : qs.list ≡ ps.list = same_lists qs.list ps.list (v.counted ∙ sym w.counted) (λ k d low.
        let there : k < length ps.list = omega (arith, v.counted, w.counted) in
        same_part k (get_or qs.list k d) (get_or ps.list k d) (v.each k _ (slice_get-get_or qs.list k d low)) (w.each k _ (slice_get-get_or ps.list k d there))) in
        same_parts qs list index from to

  pub lies_in : (r : Result Parts Fault) → PartsAnswer r bytes → IfOk r (λ ps. LiesIn bytes ps)
  lies_in (Ok ps) w =
      let p = (part_there ps w ps.dxil w.dxil_below).1 in
      record { order = omega (arith, w.to_is); within = omega (arith, w.to_is, w.from_is, w.shader.within, p.within, w.size_high); small = omega (arith, w.to_is, w.from_is, w.shader.within, p.within, num-lt bytes (8 * 24) 32) }
  lies_in (Err f) h = tt

  pub container_failed : (f : Fault) → FaultAnswer f bytes → ContainerAnswer (Err f) bytes
  container_failed (Refused (C n) bit) h = (h, record { none = λ ps w. (sound_of ps w).none n bit h.broken })
  container_failed (Refused (B n) bit) h = absurd h
  container_failed (Refused (Y n) bit) h = absurd h
  container_failed (Refused (M n) bit) h = absurd h
  container_failed (Refused (N n) bit) h = absurd h
  container_failed (Refused (P n) bit) h = absurd h
  container_failed (Limit which bit) h = absurd h
  container_failed OutOfMemory h = tt

  pub container_of : (r : Result Parts Fault) → PartsAnswer r bytes → ContainerAnswer r bytes
  container_of (Ok ps) w = (w, record { only = only_of ps w }, sound_of ps w)
  container_of (Err f) h = container_failed f h
