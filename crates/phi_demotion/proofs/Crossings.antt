-- What the scan of a program reads is what crosses.
use Rattle.std.proofs.Common.{◌≡◌, ℕ, zero, suc, ◌+◌, ◌<◌, Bool, true, false, ◌||◌, if◌then◌else◌, ◌⊎◌, inl, inr, List, [], ◌∷◌, ◌++◌, length, map, take, get_or, Option, Some, None, refl, ap, sym, ◌∙◌, subst, arith, append_assoc}
use Rattle.std.specs.Prelude.{slice_get, Contains, nat_eq}
use Rattle.std.specs.List.{flat_map, list_any}
use Rattle.std.proofs.lemmas.List.{append-nil}
use Rattle.std.proofs.lemmas.List.Folds.{list_any-append}
use Rattle.dxil_form.specs.declared.value.Ty.{Ty}
use Rattle.dxil_form.specs.declared.value.Reg.{Reg}
use Rattle.dxil_form.specs.declared.value.Operand.{Operand}
use Rattle.dxil_form.specs.declared.value.Operand.TheVariants as operand
use Rattle.dxil_form.specs.declared.instr.Instr.{Instr}
use Rattle.dxil_form.specs.declared.block.Entry.{Entry}
use Rattle.dxil_form.specs.declared.block.Phi.{Phi}
use Rattle.dxil_form.specs.declared.block.Block.{Block}
use Rattle.dxil_form.specs.declared.program.Program.{Program}
use Rattle.dxil_form.specs.Registers.{Typed, typed, Spot, At_phi, At_line, SetsAt, Sets, Crosses, by_entry, by_line, by_end, reads, set_by, term_operands, operands_of, in_address, parts_of, pick, unless_empty, numbers}
use Rattle.dxil_form.specs.Sound.{Sound, HasType, LineAt, PhiAt, EndAt}
use Rattle.dxil_form.specs.declared.instr.Instr.TheVariants.{Bin, Cmp, Cast, Select, Copy, One, Two, Mad, Id, Size, Load, Store, Atomic, Swap, Barrier, Nothing}
use Rattle.phi_demotion.specs.Reads.{key_of, is_key, has_key, unset, named, entry_reads, phi_reads, line_reads, settled, end_reads, block_reads, program_reads}
use Rattle.phi_demotion.proofs.Keys.{same_key, own_key}
use Rattle.phi_demotion.proofs.Members.{In, here, there, Place, get_in, in_get, in_contains, contains_in, in_left, in_right, in_split, none_in, From, in_flat, flat_in, in_map, Made, map_in, Passes, any_passes, passes_any}

-- ---- one operand

-- the operand names this register with this type, and the test fails for it
pub record Names (has : ℕ × ℕ → Bool) (a : Operand) (reg : Reg) (ty : Ty) : Type 0 where
  pub is : a ≡ operand.Reg reg ty
  pub free : has (key_of reg) ≡ false

single : {X : Type 0} (x y : X) → In x (y ∷ []) → x ≡ y
single x y i = elim (get_single i) [ inl e ↦ e | inr n ↦ absurd (none_in x n) ]
  where
    get_single : In x (y ∷ []) → (x ≡ y) ⊎ In x []
    get_single i = let p = get_in i in by_place p.at p.is
      where
        by_place : (k : ℕ) → slice_get (y ∷ []) k ≡ Some x → (x ≡ y) ⊎ In x []
        by_place zero e = inl (cc)
        by_place (suc k) e = absurd (cc)

unset_names : (has : ℕ × ℕ → Bool) (a : Operand) (reg : Reg) (ty : Ty) → In {X = Reg × Ty} (reg, ty) (unset has a) → Names has a reg ty
unset_names has (operand.Reg r t) reg ty i = by_test (has (key_of r)) refl i
  where
    by_test : (b : Bool) → has (key_of r) ≡ b → In {X = Reg × Ty} (reg, ty) (if b then [] else (r, t) ∷ []) → Names has (operand.Reg r t) reg ty
    by_test true is i = absurd (none_in {X = Reg × Ty} (reg, ty) i)
    by_test false is i =
        let same = single {X = Reg × Ty} (reg, ty) (r, t) i in
        let one : reg ≡ r = ap (λ (x : Reg × Ty). x.0) same in
        let two : ty ≡ t = ap (λ (x : Reg × Ty). x.1) same in
        record { is = ap (λ (z : Reg). operand.Reg z t) (sym one) ∙ ap (λ (z : Ty). operand.Reg reg z) (sym two); free = ap (λ (z : Reg). has (key_of z)) one ∙ is }
unset_names has (operand.Int n) reg ty i = absurd (none_in {X = Reg × Ty} (reg, ty) i)
unset_names has (operand.Bool b) reg ty i = absurd (none_in {X = Reg × Ty} (reg, ty) i)
unset_names has (operand.Undef t) reg ty i = absurd (none_in {X = Reg × Ty} (reg, ty) i)

names_unset : (has : ℕ × ℕ → Bool) (reg : Reg) (ty : Ty) → has (key_of reg) ≡ false → In {X = Reg × Ty} (reg, ty) (unset has (operand.Reg reg ty))
names_unset has reg ty free =
    subst (λ (b : Bool). In {X = Reg × Ty} (reg, ty) (if b then [] else (reg, ty) ∷ [])) (sym free) here

named_is : (a : Operand) (reg : Reg) (ty : Ty) → In {X = Reg × Ty} (reg, ty) (named a) → a ≡ operand.Reg reg ty
named_is (operand.Reg r t) reg ty i =
    let same = single {X = Reg × Ty} (reg, ty) (r, t) i in
    ap (λ (x : Reg × Ty). operand.Reg x.0 x.1) (sym same)
named_is (operand.Int n) reg ty i = absurd (none_in {X = Reg × Ty} (reg, ty) i)
named_is (operand.Bool b) reg ty i = absurd (none_in {X = Reg × Ty} (reg, ty) i)
named_is (operand.Undef t) reg ty i = absurd (none_in {X = Reg × Ty} (reg, ty) i)

-- ---- registers that instructions set

pub key_reg : (r s : Reg) → key_of r ≡ key_of s → r ≡ s
key_reg r s e =
    let one : r.value ≡ s.value = ap (λ (k : ℕ × ℕ). k.0) e in
    let two : r.part ≡ s.part = ap (λ (k : ℕ × ℕ). k.1) e in
    let whole : (v w c d : ℕ) → v ≡ w → c ≡ d → ◌≡◌ {A = Reg} (record { value = v; part = c }) (record { value = w; part = d }) = λ v w c d p q. ap (λ (n : ℕ). record { value = n; part = c }) p ∙ ap (λ (n : ℕ). record { value = w; part = n }) q in
    whole r.value s.value r.part s.part one two

-- an instruction that sets the register
pub record Setter (instrs : List Instr) (reg : Reg) : Type 0 where
  pub at : ℕ
  pub instr : Instr
  pub ty : Ty
  pub stands : slice_get instrs at ≡ Some instr
  pub sets : In (typed reg ty) (set_by instr)

key_setter : (instrs : List Instr) (reg : Reg) → has_key (settled instrs) (key_of reg) ≡ true → Setter instrs reg
key_setter instrs reg e =
    let w = any_passes (λ (r : Typed Reg). is_key (key_of r.item) (key_of reg)) (settled instrs) e in
    let r : Reg = w.element.item in
    let same : r ≡ reg = key_reg r reg (same_key (key_of r) (key_of reg) w.passes) in
    let f = in_flat set_by instrs w.element (in_get (settled instrs) w.at w.element w.stands) in
    let P : Reg → Type 0 = λ z. In (typed z w.element.ty) (set_by f.element) in
    let member : P r = f.member in
    record { at = f.at; instr = f.element; ty = w.element.ty; stands = f.stands; sets = subst P same member }

setter_key : (instrs : List Instr) (reg : Reg) → Setter instrs reg → has_key (settled instrs) (key_of reg) ≡ true
setter_key instrs reg s =
    let p = get_in (flat_in set_by instrs s.at s.instr (typed reg s.ty) s.stands s.sets) in
    passes_any (λ (r : Typed Reg). is_key (key_of r.item) (key_of reg)) (settled instrs) p.at (typed reg s.ty) p.is (own_key (key_of reg))

pub not_true : (b : Bool) → (b ≡ true → ⊥) → b ≡ false
not_true true h = absurd (h refl)
not_true false h = refl

both_false : (a b : Bool) → (a || b) ≡ false → (a ≡ false) × (b ≡ false)
both_false true b e = absurd (cc)
both_false false b e = (refl, e)

-- ---- instructions

-- an instruction reads the register, and no register of these and no earlier instruction sets it
pub record ReadsAt (done : List (Typed Reg)) (instrs : List Instr) (reg : Reg) (ty : Ty) : Type 0 where
  pub at : ℕ
  pub instr : Instr
  pub stands : slice_get instrs at ≡ Some instr
  pub reads : In (operand.Reg reg ty) (reads instr)
  pub free : has_key (done ++ settled (take at instrs)) (key_of reg) ≡ false

pub line_is : (done : List (Typed Reg)) (instrs : List Instr) (reg : Reg) (ty : Ty) → In {X = Reg × Ty} (reg, ty) (line_reads done instrs) → ReadsAt done instrs reg ty
line_is done [] reg ty i = absurd (none_in {X = Reg × Ty} (reg, ty) i)
line_is done (instr ∷ instrs) reg ty i =
    elim (in_split {X = Reg × Ty} (reg, ty) (flat_map (unset (has_key done)) (reads instr)) (line_reads (done ++ set_by instr) instrs) i) [
      | inl l ↦ (
          let w = in_flat (unset (has_key done)) (reads instr) (reg, ty) l in
          let n = unset_names (has_key done) w.element reg ty w.member in
          record {
            at = 0;
            instr = instr;
            stands = refl;
            reads = subst (λ (a : Operand). In a (reads instr)) n.is (in_get (reads instr) w.at w.element w.stands);
            free = ap (λ (xs : List (Typed Reg)). has_key xs (key_of reg)) (append-nil done) ∙ n.free;
          })
      | inr r ↦ (
          let w = line_is (done ++ set_by instr) instrs reg ty r in
          record {
            at = suc w.at;
            instr = w.instr;
            stands = w.stands;
            reads = w.reads;
            free = ap (λ (xs : List (Typed Reg)). has_key xs (key_of reg)) (sym (append_assoc done (set_by instr) (settled (take w.at instrs)))) ∙ w.free;
          })
    ]

pub is_line : (done : List (Typed Reg)) (instrs : List Instr) (k : ℕ) (instr : Instr) (reg : Reg) (ty : Ty) → slice_get instrs k ≡ Some instr → In (operand.Reg reg ty) (reads instr) → has_key (done ++ settled (take k instrs)) (key_of reg) ≡ false → In {X = Reg × Ty} (reg, ty) (line_reads done instrs)
is_line done [] k instr reg ty e i free = absurd (cc)
is_line done (x ∷ instrs) zero instr reg ty e i free =
    let same : x ≡ instr = cc in
    let p = get_in (subst (λ (z : Instr). In (operand.Reg reg ty) (reads z)) (sym same) i) in
    let none : has_key done (key_of reg) ≡ false = ap (λ (xs : List (Typed Reg)). has_key xs (key_of reg)) (sym (append-nil done)) ∙ free in
    in_left {X = Reg × Ty} (line_reads (done ++ set_by x) instrs) (flat_in (unset (has_key done)) (reads x) p.at (operand.Reg reg ty) (reg, ty) p.is (names_unset (has_key done) reg ty none))
is_line done (x ∷ instrs) (suc k) instr reg ty e i free =
    in_right {X = Reg × Ty} (flat_map (unset (has_key done)) (reads x))
    (is_line (done ++ set_by x) instrs k instr reg ty e i (ap (λ (xs : List (Typed Reg)). has_key xs (key_of reg)) (append_assoc done (set_by x) (settled (take k instrs))) ∙ free))

-- ---- places of a list and of its first part

take_below : {X : Type 0} (xs : List X) (n k : ℕ) (x : X) → slice_get (take n xs) k ≡ Some x → (k < n) × (slice_get xs k ≡ Some x)
take_below [] zero k x e = absurd (cc)
take_below [] (suc n) k x e = absurd (cc)
take_below (y ∷ xs) zero k x e = absurd (cc)
take_below (y ∷ xs) (suc n) zero x e = (omega arith, e)
take_below (y ∷ xs) (suc n) (suc k) x e = let w = take_below xs n k x e in (omega (arith, w.0), w.1)

below_take : {X : Type 0} (xs : List X) (n k : ℕ) (x : X) → k < n → slice_get xs k ≡ Some x → slice_get (take n xs) k ≡ Some x
below_take [] n k x lt e = absurd (cc)
below_take (y ∷ xs) zero k x lt e = absurd (omega arith)
below_take (y ∷ xs) (suc n) zero x lt e = e
below_take (y ∷ xs) (suc n) (suc k) x lt e = below_take xs n k x (omega arith) e

-- ---- the program

-- a place of a list of blocks
pub crosses_is : (p : Program) (reg : Reg) (ty : Ty) → In {X = Reg × Ty} (reg, ty) (program_reads p.blocks) → Crosses p reg
crosses_is p reg ty i =
    let w = in_flat block_reads p.blocks (reg, ty) i in
    let block : Block = w.element in
    elim (in_split {X = Reg × Ty} (reg, ty) (phi_reads block.phis ++ line_reads [] block.instrs) (end_reads block) w.member) [
      | inr end ↦ (
          let f = in_flat (unset (has_key (settled block.instrs))) (map (λ (a : Typed Operand). a.item) (term_operands block.term)) (reg, ty) end in
          let n = unset_names (has_key (settled block.instrs)) f.element reg ty f.member in
          let m = map_in (λ (a : Typed Operand). a.item) (term_operands block.term) f.element (in_get (map (λ (a : Typed Operand). a.item) (term_operands block.term)) f.at f.element f.stands) in
          let same : m.element.item ≡ operand.Reg reg ty = m.same ∙ n.is in
          let member : In m.element (term_operands block.term) = in_get (term_operands block.term) m.at m.element m.stands in
          let named : In (typed (operand.Reg reg ty) m.element.ty) (term_operands block.term) = subst (λ (a : Operand). In (typed a m.element.ty) (term_operands block.term)) same member in
          by_end w.at block m.element.ty ty w.stands (contains_in (term_operands block.term) (typed (operand.Reg reg ty) m.element.ty) named) (λ k t s.
          let yes = setter_key block.instrs reg (record { at = k; instr = s.0; ty = t; stands = s.1; sets = in_contains (set_by s.0) (typed reg t) s.2 }) in
          let no = n.free in
          cc))
      | inl first ↦ elim (in_split {X = Reg × Ty} (reg, ty) (phi_reads block.phis) (line_reads [] block.instrs) first) [
        | inl phis ↦ (
            let f = in_flat (λ (phi : Phi). entry_reads phi.entries) block.phis (reg, ty) phis in
            let g = in_flat (λ (e : Entry). named e.value) f.element.entries (reg, ty) f.member in
            by_entry w.at f.at g.at block f.element g.element ty w.stands f.stands g.stands (named_is g.element.value reg ty g.member))
        | inr lines ↦ (
            let r = line_is [] block.instrs reg ty lines in
            by_line w.at r.at block r.instr ty w.stands r.stands (contains_in (reads r.instr) (operand.Reg reg ty) r.reads) (λ k t lt s.
            let yes = setter_key (take r.at block.instrs) reg (record { at = k; instr = s.0; ty = t; stands = below_take block.instrs r.at k s.0 lt s.1; sets = in_contains (set_by s.0) (typed reg t) s.2 }) in
            let no = r.free in
            cc))
      ]
    ]

-- the type with which a register that crosses is read
pub record ReadWith (p : Program) (reg : Reg) : Type 0 where
  pub ty : Ty
  pub member : In {X = Reg × Ty} (reg, ty) (program_reads p.blocks)

pub is_crosses : (p : Program) (reg : Reg) → Crosses p reg → ReadWith p reg
is_crosses p reg (by_entry b n k block phi entry ty stands stands' stands'' is) =
    let one : In {X = Reg × Ty} (reg, ty) (named entry.value) = subst (λ (a : Operand). In {X = Reg × Ty} (reg, ty) (named a)) (sym is) here in
    let two = flat_in (λ (e : Entry). named e.value) phi.entries k entry (reg, ty) stands'' one in
    let three = flat_in (λ (phi : Phi). entry_reads phi.entries) block.phis n phi (reg, ty) stands' two in
    record { ty = ty; member = flat_in block_reads p.blocks b block (reg, ty) stands (in_left (end_reads block) (in_left (line_reads [] block.instrs) three)) }
is_crosses p reg (by_line b n block instr ty stands stands' contains none) =
    let free : has_key (settled (take n block.instrs)) (key_of reg) ≡ false = not_true (has_key (settled (take n block.instrs)) (key_of reg)) (λ e. (
    let s = key_setter (take n block.instrs) reg e in
    let below = take_below block.instrs n s.at s.instr s.stands in
    none s.at s.ty below.0 (s.instr, below.1, contains_in (set_by s.instr) (typed reg s.ty) s.sets))) in
    let one = is_line [] block.instrs n instr reg ty stands' (in_contains (reads instr) (operand.Reg reg ty) contains) free in
    record { ty = ty; member = flat_in block_reads p.blocks b block (reg, ty) stands (in_left (end_reads block) (in_right (phi_reads block.phis) one)) }
is_crosses p reg (by_end b block t ty stands contains none) =
    let free : has_key (settled block.instrs) (key_of reg) ≡ false = not_true (has_key (settled block.instrs) (key_of reg)) (λ e. (
    let s = key_setter block.instrs reg e in
    none s.at s.ty (s.instr, s.stands, contains_in (set_by s.instr) (typed reg s.ty) s.sets))) in
    let p' = get_in (in_contains (term_operands block.term) (typed (operand.Reg reg ty) t) contains) in
    let q = get_in (in_map (λ (a : Typed Operand). a.item) (term_operands block.term) p'.at (typed (operand.Reg reg ty) t) p'.is) in
    let one = flat_in (unset (has_key (settled block.instrs))) (map (λ (a : Typed Operand). a.item) (term_operands block.term)) q.at (operand.Reg reg ty) (reg, ty) q.is (names_unset (has_key (settled block.instrs)) reg ty free) in
    record { ty = ty; member = flat_in block_reads p.blocks b block (reg, ty) stands (in_right (phi_reads block.phis ++ line_reads [] block.instrs) one) }

-- ---- the types with which registers are read

-- the place that sets a register with a type
abbrev pub TypedRead : Program → Reg → Ty → Type 0
TypedRead p reg ty = (b : ℕ) × (spot : Spot) × Sets p b spot reg ty

in_picked : (c : ℕ) (x y z w : Operand) → In (pick c x y z w) (x ∷ y ∷ z ∷ w ∷ [])
in_picked c x y z w = first (nat_eq c 0) (nat_eq c 1) (nat_eq c 2)
  where
    first : (i j k : Bool) → In (if i then x else (if j then y else (if k then z else w))) (x ∷ y ∷ z ∷ w ∷ [])
    first true j k = here
    first false true k = there here
    first false false true = there (there here)
    first false false false = there (there (there here))

in_unless : (parts : List ℕ) (operands : List Operand) (a : Operand) → In a (unless_empty parts operands) → In a operands
in_unless [] operands a i = absurd (none_in a i)
in_unless (c ∷ cs) operands a i = i

numbers_of : (operands : List Operand) → map (λ (a : Typed Operand). a.item) (numbers operands) ≡ operands
numbers_of [] = refl
numbers_of (a ∷ operands) = ap (λ xs. a ∷ xs) (numbers_of operands)

-- what an instruction may read is among its operands
in_operands : (instr : Instr) (a : Operand) → In a (reads instr) → In a (map (λ (a : Typed Operand). a.item) (operands_of instr))
in_operands (Bin to op ty a b) x i = i
in_operands (Cmp to op ty a b) x i = i
in_operands (Cast to op a) x i = i
in_operands (Select to ty cond a b) x i = i
in_operands (Copy to ty a) x i = i
in_operands (One to op a) x i = i
in_operands (Two to op a b) x i = i
in_operands (Mad to a b c) x i = i
in_operands (Id to op part) x i = i
in_operands (Size to buffer) x i = i
in_operands (Load to mask target addr) x i =
    subst (λ (xs : List Operand). In x xs) (sym (numbers_of (in_address addr))) (in_unless (parts_of mask) (in_address addr) x i)
in_operands (Store mask target addr x y z w) a i =
    subst (λ (xs : List Operand). In a xs) (sym (numbers_of (in_address addr ++ (x ∷ y ∷ z ∷ w ∷ []))))
    (elim (in_split a (in_address addr) (map (λ c. pick c x y z w) (parts_of mask)) i) [
      | inl l ↦ in_left (x ∷ y ∷ z ∷ w ∷ []) l
      | inr r ↦ (
          let m = map_in (λ c. pick c x y z w) (parts_of mask) a r in
          in_right (in_address addr) (subst (λ (v : Operand). In v (x ∷ y ∷ z ∷ w ∷ [])) m.same (in_picked m.element x y z w)))
    ])
in_operands (Atomic to op target addr value) x i = i
in_operands (Swap to target addr compare value) x i = i
in_operands (Barrier sync scope uav shared) x i = i
in_operands Nothing x i = i

typed_operand : (p : Program) (reg : Reg) (ty t : Ty) (a : Operand) → a ≡ operand.Reg reg ty → HasType p a t → TypedRead p reg ty
typed_operand p reg ty t a e h = (subst (λ (a : Operand). HasType p a t) e h).1

pub typed_read : (p : Program) → Sound p → (reg : Reg) (ty : Ty) → In {X = Reg × Ty} (reg, ty) (program_reads p.blocks) → TypedRead p reg ty
typed_read p sound reg ty i =
    let w = in_flat block_reads p.blocks (reg, ty) i in
    let block : Block = w.element in
    elim (in_split {X = Reg × Ty} (reg, ty) (phi_reads block.phis ++ line_reads [] block.instrs) (end_reads block) w.member) [
      | inr end ↦ (
          let f = in_flat (unset (has_key (settled block.instrs))) (map (λ (a : Typed Operand). a.item) (term_operands block.term)) (reg, ty) end in
          let n = unset_names (has_key (settled block.instrs)) f.element reg ty f.member in
          let m = map_in (λ (a : Typed Operand). a.item) (term_operands block.term) f.element (in_get (map (λ (a : Typed Operand). a.item) (term_operands block.term)) f.at f.element f.stands) in
          typed_operand p reg ty m.element.ty m.element.item (m.same ∙ n.is) (sound.end_types w.at m.at block.term m.element (record { block = block; stands = w.stands; ends = refl }) m.stands))
      | inl first ↦ elim (in_split {X = Reg × Ty} (reg, ty) (phi_reads block.phis) (line_reads [] block.instrs) first) [
        | inl phis ↦ (
            let f = in_flat (λ (phi : Phi). entry_reads phi.entries) block.phis (reg, ty) phis in
            let g = in_flat (λ (e : Entry). named e.value) f.element.entries (reg, ty) f.member in
            typed_operand p reg ty f.element.ty g.element.value (named_is g.element.value reg ty g.member) (sound.entry_types w.at f.at g.at f.element g.element (record { block = block; stands = w.stands; line = f.stands }) g.stands))
        | inr lines ↦ (
            let r = line_is [] block.instrs reg ty lines in
            let q = in_operands r.instr (operand.Reg reg ty) r.reads in
            let m = map_in (λ (a : Typed Operand). a.item) (operands_of r.instr) (operand.Reg reg ty) q in
            typed_operand p reg ty m.element.ty m.element.item m.same (sound.line_types w.at r.at m.at r.instr m.element (record { block = block; stands = w.stands; line = r.stands }) m.stands))
      ]
    ]
