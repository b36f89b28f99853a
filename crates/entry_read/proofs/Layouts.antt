-- What the layouts of branches, phis and calls say of a record's fields.
use Rattle.std.proofs.Common.{ℕ, zero, suc, ◌≡◌, ◌⊎◌, ◌<◌, ◌+◌, ◌*◌, ◌%◌, ◌^◌, inl, inr, refl, sym, subst, ◌∙◌, ap, arith, List, [], ◌∷◌, ◌++◌, length, get_or, slice_get, Option, Some, None, Bool, true, false, nat_lt, if◌then◌else◌, ◌==◌, append-nil, append_assoc}
use Rattle.std.proofs.lemmas.Bool.{ltb-true, or_cases, eqb-true, eqb-false}
use Rattle.std.proofs.lemmas.Option.{cond_some, get_or_from_slice_get, slice_get-get_or}
use Rattle.llvm_layout.specs.Table.{Row, once, then_many, forms, call_forms, rows_of, states}
use Rattle.llvm_layout.specs.Reads.{says, says_field, says_forward, ◌>>=◌, walk, number, carried, plain_field, nothing, Repeats, ends, more, Fits, HasLayout, back, signed_back}
use Rattle.llvm_layout.specs.declared.letter.Letter.{Letter}
use Rattle.llvm_layout.specs.declared.letter.Letter.TheVariants.{Typed, Back, Signed, Absolute, TypeNumber, BlockNumber, Plain}
use Rattle.llvm_layout.specs.declared.letter.Parts.{Parts}
use Rattle.llvm_layout.specs.declared.letter.Around.{Around}
use Rattle.llvm_bodies.specs.Rules.{Says}
use Rattle.profile_tables.specs.Parts.{pairs_of, goes_to}

none_some : {A : Type 0} {B : Type 0} (z : A) → None ≡ Some z → B
none_some z e = cc

some_inj : {A : Type 0} (a b : A) → Some a ≡ Some b → a ≡ b
some_inj a b e = cc

bound : {A B : Type 0} (o : Option A) (f : A → Option B) (y : B) → (o >>= f) ≡ Some y → (a : A) × (o ≡ Some a) × (f a ≡ Some y)
bound None f y e = none_some y e
bound (Some a) f y e = (a, refl, e)

-- a letter adds one operand, and takes one field
pub record Adds (p : Parts) (at : ℕ) (z : Parts × ℕ) (v : ℕ) : Type 0 where
  pub numbers : z.0.numbers ≡ p.numbers ++ v ∷ []
  pub types : z.0.types ≡ p.types
  pub place : z.1 ≡ at + 1

added : (p : Parts) (at v : ℕ) (z : Parts × ℕ) → (number p v, at + 1) ≡ z → Adds p at z v
added p at v z e = record { numbers = ap (λ (y : Parts × ℕ). y.0.numbers) (sym e); types = ap (λ (y : Parts × ℕ). y.0.types) (sym e); place = ap (λ (y : Parts × ℕ). y.1) (sym e) }

-- pairs of an operand and a block
pub data Goes (n : ℕ) : List ℕ → Type 0 where
  goes_none : Goes n []
  goes_more : {a b : ℕ} {rest : List ℕ} → b < n → Goes n rest → Goes n (a ∷ b ∷ rest)

module _ (x : Around) (fields : List ℕ) where
  pub block_said : (p : Parts) (at : ℕ) (z : Parts × ℕ) → says x BlockNumber p fields at ≡ Some z → (n : ℕ) × (n < x.blocks) × Adds p at z n
  unfolding says
  block_said p at z e =
      let b = bound (slice_get fields at) (says_field x BlockNumber p fields at) z e in
      let c = cond_some (nat_lt b.0 x.blocks) (number p b.0, at + 1) z b.2 in
      (b.0, ltb-true b.0 x.blocks c.0, added p at b.0 z c.1)

  pub absolute_said : (p : Parts) (at : ℕ) (z : Parts × ℕ) → says x Absolute p fields at ≡ Some z → (n : ℕ) × Adds p at z n
  unfolding says
  absolute_said p at z e = let b = bound (slice_get fields at) (says_field x Absolute p fields at) z e in (b.0 % 2 ^ 32, added p at (b.0 % 2 ^ 32) z (some_inj (number p (b.0 % 2 ^ 32), at + 1) z b.2))

  pub signed_said : (p : Parts) (at : ℕ) (z : Parts × ℕ) → says x Signed p fields at ≡ Some z → (n : ℕ) × Adds p at z n
  unfolding says
  signed_said p at z e = let b = bound (slice_get fields at) (says_field x Signed p fields at) z e in (signed_back x.now b.0, added p at (signed_back x.now b.0) z (some_inj (number p (signed_back x.now b.0), at + 1) z b.2))

  pub back_said : (p : Parts) (at : ℕ) (z : Parts × ℕ) → says x Back p fields at ≡ Some z → (n : ℕ) × Adds p at z n
  unfolding says
  back_said p at z e = let b = bound (slice_get fields at) (says_field x Back p fields at) z e in (back x.now b.0, added p at (back x.now b.0) z (some_inj (number p (back x.now b.0), at + 1) z b.2))

  -- a type number is carried
  pub record Carries (p : Parts) (at : ℕ) (z : Parts × ℕ) (t : ℕ) : Type 0 where
    pub numbers : z.0.numbers ≡ p.numbers
    pub types : z.0.types ≡ p.types ++ (length p.numbers, t) ∷ []
    pub place : z.1 ≡ at + 1
    pub field : slice_get fields at ≡ Some t

  pub type_said : (p : Parts) (at : ℕ) (z : Parts × ℕ) → says x TypeNumber p fields at ≡ Some z → (t : ℕ) × Carries p at z t
  unfolding says
  type_said p at z e =
      let b = bound (slice_get fields at) (says_field x TypeNumber p fields at) z e in
      let c = cond_some (nat_lt b.0 x.types) (carried p b.0, at + 1) z b.2 in
      (b.0, record { numbers = ap (λ (y : Parts × ℕ). y.0.numbers) (sym c.1); types = ap (λ (y : Parts × ℕ). y.0.types) (sym c.1); place = ap (λ (y : Parts × ℕ). y.1) (sym c.1); field = b.1 })

  -- a plain field is none of the operands
  pub record Passes (p : Parts) (at : ℕ) (z : Parts × ℕ) : Type 0 where
    pub numbers : z.0.numbers ≡ p.numbers
    pub types : z.0.types ≡ p.types
    pub place : z.1 ≡ at + 1

  pub plain_said : (p : Parts) (at : ℕ) (z : Parts × ℕ) → says x Plain p fields at ≡ Some z → Passes p at z
  unfolding says
  plain_said p at z e =
      let b = bound (slice_get fields at) (says_field x Plain p fields at) z e in
      let c = some_inj (plain_field p b.0, at + 1) z b.2 in
      record { numbers = ap (λ (y : Parts × ℕ). y.0.numbers) (sym c); types = ap (λ (y : Parts × ℕ). y.0.types) (sym c); place = ap (λ (y : Parts × ℕ). y.1) (sym c) }

  -- an operand with a type behind it, where it is not below the current number
  pub record Names (p : Parts) (at : ℕ) (z : Parts × ℕ) (f : ℕ) : Type 0 where
    pub numbers : z.0.numbers ≡ p.numbers ++ back x.now f ∷ []
    pub types : (z.0.types ≡ p.types) ⊎ ((nat_lt (back x.now f) x.now ≡ false) × ((t : ℕ) × (z.0.types ≡ p.types ++ (length p.numbers, t) ∷ [])))
    pub field : slice_get fields at ≡ Some f

  named : (b : Bool) (p : Parts) (at f : ℕ) (z : Parts × ℕ) → slice_get fields at ≡ Some f → nat_lt (back x.now f) x.now ≡ b
      → (if b then Some (number p (back x.now f), at + 1) else says_forward x p fields (at + 1) (back x.now f)) ≡ Some z → Names p at z f
  unfolding says_forward
  named true p at f z g t e = let c = some_inj (number p (back x.now f), at + 1) z e in record { numbers = ap (λ (y : Parts × ℕ). y.0.numbers) (sym c); types = inl (ap (λ (y : Parts × ℕ). y.0.types) (sym c)); field = g }
  named false p at f z g t e =
      let b = bound (slice_get fields (at + 1)) (λ ty. if nat_lt ty x.types then Some (number (carried p ty) (back x.now f), at + 1 + 1) else None) z e in
      let c = cond_some (nat_lt b.0 x.types) (number (carried p b.0) (back x.now f), at + 1 + 1) z b.2 in
      record { numbers = ap (λ (y : Parts × ℕ). y.0.numbers) (sym c.1); types = inr (t, (b.0, ap (λ (y : Parts × ℕ). y.0.types) (sym c.1))); field = g }

  pub typed_said : (p : Parts) (at : ℕ) (z : Parts × ℕ) → says x Typed p fields at ≡ Some z → (f : ℕ) × Names p at z f
  unfolding says
  typed_said p at z e = let b = bound (slice_get fields at) (says_field x Typed p fields at) z e in (b.0, named (nat_lt (back x.now b.0) x.now) p at b.0 z b.1 refl b.2)

  -- ---- rows

  next : (l : Letter) (ls : List Letter) (p : Parts) (at : ℕ) (z : Parts × ℕ) → walk x (l ∷ ls) p fields at ≡ Some z → (q : Parts × ℕ) × (says x l p fields at ≡ Some q) × (walk x ls q.0 fields q.1 ≡ Some z)
  next l ls p at z e = bound (says x l p fields at) (λ q. walk x ls q.0 fields q.1) z e

  last : (p : Parts) (at : ℕ) (z : Parts × ℕ) → walk x [] p fields at ≡ Some z → (p, at) ≡ z
  last p at z e = some_inj (p, at) z e

  nothing_more : (p : Parts) (at : ℕ) (r : Parts) → Repeats x [] fields p at r → p ≡ r
  nothing_more p at r (ends e) = refl
  nothing_more p at r (more {q = q} {to = to} g w rest) = ap (λ (y : Parts × ℕ). y.0) (some_inj (p, at) (q, to) w) ∙ nothing_more q to r rest

  pub record PairTail (p : Parts) (at : ℕ) (r : Parts) : Type 0 where
    pub tail : List ℕ
    pub numbers : r.numbers ≡ p.numbers ++ tail
    pub goes : Goes x.blocks tail
    pub long : at + length tail ≡ length fields

  pairs_said : (l : Letter) → ((p : Parts) (at : ℕ) (z : Parts × ℕ) → says x l p fields at ≡ Some z → (n : ℕ) × Adds p at z n) → (p : Parts) (at : ℕ) (r : Parts) → Repeats x (l ∷ BlockNumber ∷ []) fields p at r → PairTail p at r
  pairs_said l one p at r (ends e) = record { tail = []; numbers = sym (append-nil p.numbers); goes = goes_none; long = omega (arith, e) }
  pairs_said l one p at r (more {q = q} {to = to} g w rest) =
      let s = next l (BlockNumber ∷ []) p at (q, to) w in
      let a = one p at s.0 s.1 in
      let t = next BlockNumber [] s.0.0 s.0.1 (q, to) s.2 in
      let b = block_said s.0.0 s.0.1 t.0 t.1 in
      let u = last t.0.0 t.0.1 (q, to) t.2 in
      let m = pairs_said l one q to r rest in
      let first : q.numbers ≡ (p.numbers ++ a.0 ∷ []) ++ b.0 ∷ [] = sym (ap (λ (y : Parts × ℕ). y.0.numbers) u) ∙ b.2.numbers ∙ ap (λ (ns : List ℕ). ns ++ b.0 ∷ []) a.1.numbers in
      let place : to ≡ t.0.1 = sym (ap (λ (y : Parts × ℕ). y.1) u) in
      record {
        tail = a.0 ∷ b.0 ∷ m.tail;
        numbers = m.numbers ∙ ap (λ (ns : List ℕ). ns ++ m.tail) (first ∙ append_assoc p.numbers (a.0 ∷ []) (b.0 ∷ [])) ∙ append_assoc p.numbers (a.0 ∷ b.0 ∷ []) m.tail;
        goes = goes_more b.1 m.goes;
        long = omega (arith, m.long, place, a.1.place, b.2.place);
      }

  -- BR
  pub record IsJump (numbers : List ℕ) : Type 0 where
    pub to : ℕ
    pub is : numbers ≡ to ∷ []
    pub below : to < x.blocks

  pub record IsFork (numbers : List ℕ) : Type 0 where
    pub yes : ℕ
    pub no : ℕ
    pub if_ : ℕ
    pub is : numbers ≡ yes ∷ no ∷ if_ ∷ []
    pub yes_below : yes < x.blocks
    pub no_below : no < x.blocks

  jump_said : (parts : Parts) → Fits x (once (BlockNumber ∷ [])) fields parts → IsJump parts.numbers
  jump_said parts f =
      let s = next BlockNumber [] nothing 0 (f.middle, f.place) f.head in
      let a = block_said nothing 0 s.0 s.1 in
      let u = last s.0.0 s.0.1 (f.middle, f.place) s.2 in
      let same = nothing_more f.middle f.place parts f.rest in
      record { to = a.0; is = sym (ap (λ (y : Parts). y.numbers) same) ∙ sym (ap (λ (y : Parts × ℕ). y.0.numbers) u) ∙ a.2.numbers; below = a.1 }

  fork_said : (parts : Parts) → Fits x (once (BlockNumber ∷ BlockNumber ∷ Back ∷ [])) fields parts → IsFork parts.numbers
  fork_said parts f =
      let s = next BlockNumber (BlockNumber ∷ Back ∷ []) nothing 0 (f.middle, f.place) f.head in
      let a = block_said nothing 0 s.0 s.1 in
      let t = next BlockNumber (Back ∷ []) s.0.0 s.0.1 (f.middle, f.place) s.2 in
      let b = block_said s.0.0 s.0.1 t.0 t.1 in
      let v = next Back [] t.0.0 t.0.1 (f.middle, f.place) t.2 in
      let c = back_said t.0.0 t.0.1 v.0 v.1 in
      let u = last v.0.0 v.0.1 (f.middle, f.place) v.2 in
      let same = nothing_more f.middle f.place parts f.rest in
      record {
        yes = a.0;
        no = b.0;
        if_ = c.0;
        is = sym (ap (λ (y : Parts). y.numbers) same) ∙ sym (ap (λ (y : Parts × ℕ). y.0.numbers) u) ∙ c.1.numbers ∙ ap (λ (ns : List ℕ). ns ++ c.0 ∷ []) (b.2.numbers ∙ ap (λ (ns : List ℕ). ns ++ b.0 ∷ []) a.2.numbers);
        yes_below = a.1;
        no_below = b.1;
      }

  row_is : (a b : Row) (parts : Parts) → Some a ≡ Some b → Fits x b fields parts → Fits x a fields parts
  row_is a b parts e f = subst (λ (r : Row). Fits x r fields parts) (sym (some_inj a b e)) f

  pub branch_said : (parts : Parts) → HasLayout x (rows_of 11 fields) fields parts → IsJump parts.numbers ⊎ IsFork parts.numbers
  branch_said parts h = go h.which h.row h.stands h.fits where
    go : (i : ℕ) (row : Row) → slice_get (forms 11) i ≡ Some row → Fits x row fields parts → IsJump parts.numbers ⊎ IsFork parts.numbers
    go zero row e f = inl (jump_said parts (row_is (once (BlockNumber ∷ [])) row parts e f))
    go (suc zero) row e f = inr (fork_said parts (row_is (once (BlockNumber ∷ BlockNumber ∷ Back ∷ [])) row parts e f))
    go (suc (suc i)) row e f = none_some row e

  -- SWITCH
  pub record IsSwitch (numbers : List ℕ) : Type 0 where
    pub value : ℕ
    pub to : ℕ
    pub tail : List ℕ
    pub is : numbers ≡ value ∷ to ∷ tail
    pub below : to < x.blocks
    pub goes : Goes x.blocks tail
    pub long : 3 + length tail ≡ length fields

  switch_fits : (parts : Parts) → Fits x (then_many (TypeNumber ∷ Back ∷ BlockNumber ∷ []) (Absolute ∷ BlockNumber ∷ [])) fields parts → IsSwitch parts.numbers
  switch_fits parts f =
      let s = next TypeNumber (Back ∷ BlockNumber ∷ []) nothing 0 (f.middle, f.place) f.head in
      let a = type_said nothing 0 s.0 s.1 in
      let t = next Back (BlockNumber ∷ []) s.0.0 s.0.1 (f.middle, f.place) s.2 in
      let b = back_said s.0.0 s.0.1 t.0 t.1 in
      let v = next BlockNumber [] t.0.0 t.0.1 (f.middle, f.place) t.2 in
      let c = block_said t.0.0 t.0.1 v.0 v.1 in
      let u = last v.0.0 v.0.1 (f.middle, f.place) v.2 in
      let m = pairs_said Absolute absolute_said f.middle f.place parts f.rest in
      let place : f.place ≡ v.0.1 = sym (ap (λ (y : Parts × ℕ). y.1) u) in
      record {
        value = b.0;
        to = c.0;
        tail = m.tail;
        is = m.numbers ∙ ap (λ (ns : List ℕ). ns ++ m.tail) (sym (ap (λ (y : Parts × ℕ). y.0.numbers) u) ∙ c.2.numbers ∙ ap (λ (ns : List ℕ). ns ++ c.0 ∷ []) (b.1.numbers ∙ ap (λ (ns : List ℕ). ns ++ b.0 ∷ []) a.1.numbers));
        below = c.1;
        goes = m.goes;
        long = omega (arith, m.long, place, a.1.place, b.1.place, c.2.place);
      }

  pub switch_said : (parts : Parts) → HasLayout x (rows_of 12 fields) fields parts → IsSwitch parts.numbers
  switch_said parts h = go h.which h.row h.stands h.fits where
    go : (i : ℕ) (row : Row) → slice_get (forms 12) i ≡ Some row → Fits x row fields parts → IsSwitch parts.numbers
    go zero row e f = switch_fits parts (row_is (then_many (TypeNumber ∷ Back ∷ BlockNumber ∷ []) (Absolute ∷ BlockNumber ∷ [])) row parts e f)
    go (suc i) row e f = none_some row e

  -- PHI
  pub record IsJoin (numbers : List ℕ) : Type 0 where
    pub goes : Goes x.blocks numbers
    pub long : 1 + length numbers ≡ length fields

  phi_fits : (parts : Parts) → Fits x (then_many (TypeNumber ∷ []) (Signed ∷ BlockNumber ∷ [])) fields parts → IsJoin parts.numbers
  phi_fits parts f =
      let s = next TypeNumber [] nothing 0 (f.middle, f.place) f.head in
      let a = type_said nothing 0 s.0 s.1 in
      let u = last s.0.0 s.0.1 (f.middle, f.place) s.2 in
      let m = pairs_said Signed signed_said f.middle f.place parts f.rest in
      let place : f.place ≡ s.0.1 = sym (ap (λ (y : Parts × ℕ). y.1) u) in
      let all : parts.numbers ≡ m.tail = m.numbers ∙ ap (λ (ns : List ℕ). ns ++ m.tail) (sym (ap (λ (y : Parts × ℕ). y.0.numbers) u) ∙ a.1.numbers) in
      record { goes = subst (Goes x.blocks) (sym all) m.goes; long = omega (arith, m.long, place, a.1.place, ap length all) }

  pub phi_said : (parts : Parts) → HasLayout x (rows_of 16 fields) fields parts → IsJoin parts.numbers
  phi_said parts h = go h.which h.row h.stands h.fits where
    go : (i : ℕ) (row : Row) → slice_get (forms 16) i ≡ Some row → Fits x row fields parts → IsJoin parts.numbers
    go zero row e f = phi_fits parts (row_is (then_many (TypeNumber ∷ []) (Signed ∷ BlockNumber ∷ [])) row parts e f)
    go (suc i) row e f = none_some row e

  -- CALL
  behind : (p : Parts) (at : ℕ) (r : Parts) → Repeats x (Back ∷ []) fields p at r → ((tail : List ℕ) × (r.numbers ≡ p.numbers ++ tail)) × (r.types ≡ p.types)
  behind p at r (ends e) = (([], sym (append-nil p.numbers)), refl)
  behind p at r (more {q = q} {to = to} g w rest) =
      let s = next Back [] p at (q, to) w in
      let a = back_said p at s.0 s.1 in
      let u = last s.0.0 s.0.1 (q, to) s.2 in
      let m = behind q to r rest in
      ((a.0 ∷ m.0.0, m.0.1 ∙ ap (λ (ns : List ℕ). ns ++ m.0.0) (sym (ap (λ (y : Parts × ℕ). y.0.numbers) u) ∙ a.1.numbers) ∙ append_assoc p.numbers (a.0 ∷ []) m.0.0), m.1 ∙ sym (ap (λ (y : Parts × ℕ). y.0.types) u) ∙ a.1.types)

  -- it names its callee first, by the field at this place, and carries these types before one that stands behind the callee
  pub record IsCall (at : ℕ) (first : List (ℕ × ℕ)) (parts : Parts) : Type 0 where
    pub tail : List ℕ
    pub numbers : parts.numbers ≡ back x.now (get_or fields at 0) ∷ tail
    pub types : (parts.types ≡ first) ⊎ ((nat_lt (back x.now (get_or fields at 0)) x.now ≡ false) × ((t : ℕ) × (parts.types ≡ first ++ (0, t) ∷ [])))

  moved : (z : Parts × ℕ) (parts : Parts) (at f : ℕ) (first : List (ℕ × ℕ)) (tail : List ℕ) → slice_get fields at ≡ Some f → z.0.numbers ≡ back x.now f ∷ [] → parts.numbers ≡ z.0.numbers ++ tail → parts.types ≡ z.0.types
      → (z.0.types ≡ first) ⊎ ((nat_lt (back x.now f) x.now ≡ false) × ((t : ℕ) × (z.0.types ≡ first ++ (0, t) ∷ []))) → IsCall at first parts
  moved z parts at f first tail g n m t o =
      let is : f ≡ get_or fields at 0 = sym (get_or_from_slice_get fields at f 0 g) in
      record {
        tail = tail;
        numbers = m ∙ ap (λ (ns : List ℕ). ns ++ tail) n ∙ ap (λ (k : ℕ). back x.now k ∷ tail) is;
        types = either o;
      } where
        either : (z.0.types ≡ first) ⊎ ((nat_lt (back x.now f) x.now ≡ false) × ((t : ℕ) × (z.0.types ≡ first ++ (0, t) ∷ [])))
            → (parts.types ≡ first) ⊎ ((nat_lt (back x.now (get_or fields at 0)) x.now ≡ false) × ((t : ℕ) × (parts.types ≡ first ++ (0, t) ∷ [])))
        either (inl e) = inl (t ∙ e)
        either (inr e) = inr (ap (λ (k : ℕ). nat_lt (back x.now k) x.now) (get_or_from_slice_get fields at f 0 g) ∙ e.0, (e.1.0, t ∙ e.1.1))

  plain_call : (parts : Parts) → Fits x (then_many (Plain ∷ Plain ∷ Typed ∷ []) (Back ∷ [])) fields parts → IsCall 2 [] parts
  plain_call parts f =
      let s = next Plain (Plain ∷ Typed ∷ []) nothing 0 (f.middle, f.place) f.head in
      let a = plain_said nothing 0 s.0 s.1 in
      let t = next Plain (Typed ∷ []) s.0.0 s.0.1 (f.middle, f.place) s.2 in
      let b = plain_said s.0.0 s.0.1 t.0 t.1 in
      let v = next Typed [] t.0.0 t.0.1 (f.middle, f.place) t.2 in
      let c = typed_said t.0.0 t.0.1 v.0 v.1 in
      let u = last v.0.0 v.0.1 (f.middle, f.place) v.2 in
      let m = behind f.middle f.place parts f.rest in
      let none : t.0.0.numbers ≡ [] = b.numbers ∙ a.numbers in
      let here : t.0.1 ≡ 2 = omega (arith, b.place, a.place) in
      moved v.0 parts 2 c.0 [] m.0.0 (subst (λ (k : ℕ). slice_get fields k ≡ Some c.0) here c.1.field) (c.1.numbers ∙ ap (λ (ns : List ℕ). ns ++ back x.now c.0 ∷ []) none)
      (m.0.1 ∙ ap (λ (ns : List ℕ). ns ++ m.0.0) (sym (ap (λ (y : Parts × ℕ). y.0.numbers) u))) (m.1 ∙ sym (ap (λ (y : Parts × ℕ). y.0.types) u))
      (carries t.0.0 v.0.0.types (nat_lt (back x.now c.0) x.now) none (b.types ∙ a.types) c.1.types) where
        carries : (p : Parts) (types : List (ℕ × ℕ)) (w : Bool) → p.numbers ≡ [] → p.types ≡ [] → (types ≡ p.types) ⊎ ((w ≡ false) × ((t : ℕ) × (types ≡ p.types ++ (length p.numbers, t) ∷ [])))
            → (types ≡ []) ⊎ ((w ≡ false) × ((t : ℕ) × (types ≡ [] ++ (0, t) ∷ [])))
        carries p types w n e (inl h) = inl (h ∙ e)
        carries p types w n e (inr h) = inr (h.0, (h.1.0, h.1.1 ∙ ap (λ (ts : List (ℕ × ℕ)). ts ++ (length p.numbers, h.1.0) ∷ []) e ∙ ap (λ (ns : List ℕ). (length ns, h.1.0) ∷ []) n))

  stated_call : (parts : Parts) → Fits x (then_many (Plain ∷ Plain ∷ TypeNumber ∷ Typed ∷ []) (Back ∷ [])) fields parts → IsCall 3 ((0, get_or fields 2 0) ∷ []) parts
  stated_call parts f =
      let s = next Plain (Plain ∷ TypeNumber ∷ Typed ∷ []) nothing 0 (f.middle, f.place) f.head in
      let a = plain_said nothing 0 s.0 s.1 in
      let t = next Plain (TypeNumber ∷ Typed ∷ []) s.0.0 s.0.1 (f.middle, f.place) s.2 in
      let b = plain_said s.0.0 s.0.1 t.0 t.1 in
      let w = next TypeNumber (Typed ∷ []) t.0.0 t.0.1 (f.middle, f.place) t.2 in
      let d = type_said t.0.0 t.0.1 w.0 w.1 in
      let v = next Typed [] w.0.0 w.0.1 (f.middle, f.place) w.2 in
      let c = typed_said w.0.0 w.0.1 v.0 v.1 in
      let u = last v.0.0 v.0.1 (f.middle, f.place) v.2 in
      let m = behind f.middle f.place parts f.rest in
      let none : t.0.0.numbers ≡ [] = b.numbers ∙ a.numbers in
      let also : w.0.0.numbers ≡ [] = d.1.numbers ∙ none in
      let two : t.0.1 ≡ 2 = omega (arith, b.place, a.place) in
      let three : w.0.1 ≡ 3 = omega (arith, d.1.place, two) in
      let ty : d.0 ≡ get_or fields 2 0 = sym (get_or_from_slice_get fields 2 d.0 0 (subst (λ (k : ℕ). slice_get fields k ≡ Some d.0) two d.1.field)) in
      let first : w.0.0.types ≡ (0, get_or fields 2 0) ∷ [] = d.1.types ∙ ap (λ (ts : List (ℕ × ℕ)). ts ++ (length t.0.0.numbers, d.0) ∷ []) (b.types ∙ a.types) ∙ ap (λ (ns : List ℕ). (length ns, d.0) ∷ []) none ∙ ap (λ (k : ℕ). (0, k) ∷ []) ty in
      moved v.0 parts 3 c.0 ((0, get_or fields 2 0) ∷ []) m.0.0 (subst (λ (k : ℕ). slice_get fields k ≡ Some c.0) three c.1.field) (c.1.numbers ∙ ap (λ (ns : List ℕ). ns ++ back x.now c.0 ∷ []) also)
      (m.0.1 ∙ ap (λ (ns : List ℕ). ns ++ m.0.0) (sym (ap (λ (y : Parts × ℕ). y.0.numbers) u))) (m.1 ∙ sym (ap (λ (y : Parts × ℕ). y.0.types) u))
      (carries w.0.0 v.0.0.types (nat_lt (back x.now c.0) x.now) also first c.1.types) where
        carries : (p : Parts) (types : List (ℕ × ℕ)) (w : Bool) → p.numbers ≡ [] → p.types ≡ (0, get_or fields 2 0) ∷ [] → (types ≡ p.types) ⊎ ((w ≡ false) × ((t : ℕ) × (types ≡ p.types ++ (length p.numbers, t) ∷ [])))
            → (types ≡ (0, get_or fields 2 0) ∷ []) ⊎ ((w ≡ false) × ((t : ℕ) × (types ≡ ((0, get_or fields 2 0) ∷ []) ++ (0, t) ∷ [])))
        carries p types w n e (inl h) = inl (h ∙ e)
        carries p types w n e (inr h) = inr (h.0, (h.1.0, h.1.1 ∙ ap (λ (ts : List (ℕ × ℕ)). ts ++ (length p.numbers, h.1.0) ∷ []) e ∙ ap (λ (ns : List ℕ). ((0, get_or fields 2 0) ∷ []) ++ (length ns, h.1.0) ∷ []) n))

  pub call_plain : (parts : Parts) → states fields ≡ false → HasLayout x (rows_of 34 fields) fields parts → IsCall 2 [] parts
  call_plain parts s h = go h.which h.row (ap (λ (b : Bool). slice_get (call_forms b) h.which) (sym s) ∙ h.stands) h.fits where
    go : (i : ℕ) (row : Row) → slice_get (call_forms false) i ≡ Some row → Fits x row fields parts → IsCall 2 [] parts
    go zero row e f = plain_call parts (row_is (then_many (Plain ∷ Plain ∷ Typed ∷ []) (Back ∷ [])) row parts e f)
    go (suc i) row e f = none_some row e

  pub call_stated : (parts : Parts) → states fields ≡ true → HasLayout x (rows_of 34 fields) fields parts → IsCall 3 ((0, get_or fields 2 0) ∷ []) parts
  call_stated parts s h = go h.which h.row (ap (λ (b : Bool). slice_get (call_forms b) h.which) (sym s) ∙ h.stands) h.fits where
    go : (i : ℕ) (row : Row) → slice_get (call_forms true) i ≡ Some row → Fits x row fields parts → IsCall 3 ((0, get_or fields 2 0) ∷ []) parts
    go zero row e f = stated_call parts (row_is (then_many (Plain ∷ Plain ∷ TypeNumber ∷ Typed ∷ []) (Back ∷ [])) row parts e f)
    go (suc i) row e f = none_some row e

  -- ---- records that are no instructions

  ends_there : (p : Parts) (at : ℕ) (r : Parts) → Repeats x [] fields p at r → at ≡ length fields
  ends_there p at r (ends e) = e
  ends_there p at r (more {q = q} {to = to} g w rest) = ap (λ (y : Parts × ℕ). y.1) (some_inj (p, at) (q, to) w) ∙ ends_there q to r rest

  -- DECLAREBLOCKS has one field
  declare_fits : (parts : Parts) → Fits x (once (Plain ∷ [])) fields parts → length fields ≡ 1
  declare_fits parts f =
      let s = next Plain [] nothing 0 (f.middle, f.place) f.head in
      let a = plain_said nothing 0 s.0 s.1 in
      let u = last s.0.0 s.0.1 (f.middle, f.place) s.2 in
      let place : f.place ≡ s.0.1 = sym (ap (λ (y : Parts × ℕ). y.1) u) in
      omega (arith, ends_there f.middle f.place parts f.rest, place, a.place)

  declare_said : (parts : Parts) → HasLayout x (rows_of 1 fields) fields parts → length fields ≡ 1
  declare_said parts h = go h.which h.row h.stands h.fits where
    go : (i : ℕ) (row : Row) → slice_get (forms 1) i ≡ Some row → Fits x row fields parts → length fields ≡ 1
    go zero row e f = declare_fits parts (row_is (once (Plain ∷ [])) row parts e f)
    go (suc i) row e f = none_some row e

  plain_walk : (q : Parts) (at : ℕ) → at < length fields → walk x (Plain ∷ []) q fields at ≡ Some (plain_field q (get_or fields at 0), at + 1)
  unfolding says
  plain_walk q at h = ap (λ (o : Option ℕ). (o >>= says_field x Plain q fields at) >>= λ z. walk x [] z.0 fields z.1) (slice_get-get_or fields at 0 h)

  declare_is : length fields ≡ 1 → HasLayout x (rows_of 1 fields) fields (plain_field nothing (get_or fields 0 0))
  declare_is e = record {
    which = 0;
    row = once (Plain ∷ []);
    stands = refl;
    fits = record { middle = plain_field nothing (get_or fields 0 0); place = 1; head = plain_walk nothing 0 (omega (arith, e)); rest = ends (sym e) };
  }

  plains : (n : ℕ) (q : Parts) (at : ℕ) → at + n ≡ length fields → (r : Parts) × Repeats x (Plain ∷ []) fields q at r
  plains zero q at e = (q, ends (omega (arith, e)))
  plains (suc n) q at e = let r = plains n (plain_field q (get_or fields at 0)) (at + 1) (omega (arith, e)) in (r.0, more (omega (arith, e)) (plain_walk q at (omega (arith, e))) r.1)

  debug_is : (r : Parts) × Fits x (then_many [] (Plain ∷ [])) fields r
  debug_is = let r = plains (length fields) nothing 0 (omega arith) in (r.0, record { middle = nothing; place = 0; head = refl; rest = r.1 })

  declared : (b : Bool) → (length fields == 1) ≡ b → (o : Option Parts) × Says x 1 fields o
  declared true e = (Some (plain_field nothing (get_or fields 0 0)), declare_is (eqb-true (length fields) 1 e))
  declared false e = (None, record { none = λ parts h. eqb-false (length fields) 1 e (declare_said parts h) })

  -- DECLAREBLOCKS and the two of debug places have a reading or none
  pub quiet_said : (code : ℕ) → (code ≡ 1) ⊎ ((code ≡ 33) ⊎ (code ≡ 35)) → (o : Option Parts) × Says x code fields o
  quiet_said code (inl e) = subst (λ (k : ℕ). (o : Option Parts) × Says x k fields o) (sym e) (declared (length fields == 1) refl)
  quiet_said code (inr (inl e)) = subst (λ (k : ℕ). (o : Option Parts) × Says x k fields o) (sym e) (Some debug_is.0, record { which = 0; row = then_many [] (Plain ∷ []); stands = refl; fits = debug_is.1 })
  quiet_said code (inr (inr e)) = subst (λ (k : ℕ). (o : Option Parts) × Says x k fields o) (sym e) (Some debug_is.0, record { which = 0; row = then_many [] (Plain ∷ []); stands = refl; fits = debug_is.1 })

-- ---- pairs

pub goes_below : (n k : ℕ) (ns : List ℕ) → Goes n ns → goes_to k (pairs_of ns) ≡ true → k < n
goes_below n k [] goes_none e = cc
goes_below n k (a ∷ []) x e = elim x [ ]
goes_below n k (a ∷ b ∷ rest) (goes_more h g) e = elim (or_cases (b == k) (goes_to k (pairs_of rest)) e) [
  | inl same ↦ omega (arith, eqb-true b k same, h)
  | inr other ↦ goes_below n k rest g other
]

pub goes_twice : (n : ℕ) (ns : List ℕ) → Goes n ns → 2 * length (pairs_of ns) ≡ length ns
goes_twice n [] goes_none = refl
goes_twice n (a ∷ []) x = elim x [ ]
goes_twice n (a ∷ b ∷ rest) (goes_more h g) = let r = goes_twice n rest g in omega (arith, r)
