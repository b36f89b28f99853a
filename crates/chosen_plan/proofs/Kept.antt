-- The variables that range tests ask for are those of registers that some block sets.
use Rattle.std.proofs.Common.{◌≡◌, ℕ, Bool, true, false, List, [], ◌∷◌, ◌++◌, Some, refl, sym, ap, ◌∙◌, subst, inl, inr, ⊎_elim}
use Rattle.std.specs.Prelude.{◌||◌, map, slice_get, if◌then◌else◌}
use Rattle.dxil_form.specs.declared.value.Ty.{Ty}
use Rattle.dxil_form.specs.declared.value.Ty.TheVariants as ty
use Rattle.dxil_form.specs.declared.value.Reg.{Reg}
use Rattle.dxil_form.specs.declared.value.Operand.{Operand}
use Rattle.dxil_form.specs.declared.value.Operand.TheVariants as operand
use Rattle.dxil_form.specs.declared.instr.Instr.{Instr}
use Rattle.dxil_form.specs.declared.instr.Instr.TheVariants.{Bin, Cmp, Cast, Select, Copy, One, Two, Mad, Id, Size, Load, Store, Atomic, Swap, Barrier, Nothing}
use Rattle.dxil_form.specs.declared.block.Block.{Block}
use Rattle.dxil_form.specs.declared.program.Program.{Program}
use Rattle.dxil_form.specs.Registers.{Typed, Spot, At_line, Sets, typed, set_by, part_of, parts_of, pick, numbers, in_address, operands_of, term_operands, reads, unless_empty}
use Rattle.dxil_form.specs.Sound.{Sound, HasType, LineAt}
use Rattle.spirv_code.specs.declared.key.Slot.{Slot}
use Rattle.spirv_code.specs.Plans.{kept}
use Rattle.spirv_code.specs.Further.{is_access, access_sets, named, named_all, line_slots, lines_slots, behind_lines, end_slots, block_slots, further_slots}
use Rattle.plan_ready.proofs.Among.{Among, among_front, among_back, among_map, among_contains}
use Rattle.plan_ready.proofs.Lines.{number_at, picked}
use Rattle.chosen_plan.proofs.Members.{among_either, among_get, flat_among, map_among}

-- the variable is that of a register that is set with its type
pub record IsKept (p : Program) (slot : Slot) : Type 0 where
  pub reg : Reg
  pub type : Ty
  pub is : slot ≡ kept reg type
  pub set : (b : ℕ) × (spot : Spot) × Sets p b spot reg type

-- some type that the operand has
abbrev HasSome : Program → Operand → Type 0
HasSome p a = (type : Ty) × HasType p a type

named_kept : (p : Program) (operands : List Operand) (slot : Slot) → ((a : Operand) → Among a operands → HasSome p a) → Among slot (named_all operands) → IsKept p slot
named_kept p operands slot has h =
    let m = flat_among named operands slot h in
    by_operand m.x (has m.x m.among) m.made
  where
    by_operand : (a : Operand) → HasSome p a → Among slot (named a) → IsKept p slot
    by_operand (operand.Reg reg type) t (inl e) = record { reg = reg; type = type; is = e; set = t.1.1 }
    by_operand (operand.Reg reg type) t (inr none) = absurd none
    by_operand (operand.Int n) t h = absurd h
    by_operand (operand.Bool b) t h = absurd h
    by_operand (operand.Undef type) t h = absurd h

unless_among : (parts : List ℕ) (operands : List Operand) (a : Operand) → Among a (unless_empty parts operands) → Among a operands
unless_among [] operands a h = absurd h
unless_among (c ∷ parts) operands a h = h

module _ (p : Program) (sound : Sound p) (b : ℕ) (block : Block) (stands : slice_get p.blocks b ≡ Some block) where
  line_at : (n : ℕ) (instr : Instr) → slice_get block.instrs n ≡ Some instr → LineAt p b n instr
  line_at n instr at = record { block = block; stands = stands; line = at }

  number_typed : (n : ℕ) (instr : Instr) (operands : List Operand) (a : Operand) → slice_get block.instrs n ≡ Some instr → operands_of instr ≡ numbers operands → Among a operands → HasSome p a
  number_typed n instr operands a at are h =
      let k = number_at operands a h in
      (ty.Int, sound.line_types b n k.0 instr (typed a ty.Int) (line_at n instr at) (ap (λ xs. slice_get xs k.0) are ∙ k.1))

  item_typed : (n : ℕ) (instr : Instr) (a : Operand) → slice_get block.instrs n ≡ Some instr → Among a (map (λ x. x.item) (operands_of instr)) → HasSome p a
  item_typed n instr a at h =
      let m = map_among (λ (x : Typed Operand). x.item) (operands_of instr) a h in
      let k = among_get m.x (operands_of instr) m.among in
      (m.x.ty, subst (λ y. HasType p y m.x.ty) (sym m.is) (sound.line_types b n k.0 instr m.x (line_at n instr at) k.1))

  read_typed : (n : ℕ) (instr : Instr) (a : Operand) → slice_get block.instrs n ≡ Some instr → Among a (reads instr) → HasSome p a
  read_typed n (Load to mask t addr) a at h =
      number_typed n (Load to mask t addr) (in_address addr) a at refl (unless_among (parts_of mask) (in_address addr) a h)
  read_typed n (Store mask t addr x y z w) a at h =
      number_typed n (Store mask t addr x y z w) (in_address addr ++ (x ∷ y ∷ z ∷ w ∷ [])) a at refl (⊎_elim (λ front. among_front a (in_address addr) (x ∷ y ∷ z ∷ w ∷ []) front) (λ back. among_back a (in_address addr) (x ∷ y ∷ z ∷ w ∷ []) (value_among back)) (among_either a (in_address addr) (map (λ c. pick c x y z w) (parts_of mask)) h))
    where
      value_among : Among a (map (λ c. pick c x y z w) (parts_of mask)) → Among a (x ∷ y ∷ z ∷ w ∷ [])
      value_among back =
          let m = map_among (λ c. pick c x y z w) (parts_of mask) a back in
          subst (λ v. Among v (x ∷ y ∷ z ∷ w ∷ [])) (sym m.is) (picked m.x x y z w)
  read_typed n (Bin to op t x y) a at h = item_typed n (Bin to op t x y) a at h
  read_typed n (Cmp to op t x y) a at h = item_typed n (Cmp to op t x y) a at h
  read_typed n (Cast to op x) a at h = item_typed n (Cast to op x) a at h
  read_typed n (Select to t c x y) a at h = item_typed n (Select to t c x y) a at h
  read_typed n (Copy to t x) a at h = item_typed n (Copy to t x) a at h
  read_typed n (One to op x) a at h = item_typed n (One to op x) a at h
  read_typed n (Two to op x y) a at h = item_typed n (Two to op x y) a at h
  read_typed n (Mad to x y z) a at h = item_typed n (Mad to x y z) a at h
  read_typed n (Id to op part) a at h = absurd h
  read_typed n (Size to buffer) a at h = absurd h
  read_typed n (Atomic to op t addr value) a at h = item_typed n (Atomic to op t addr value) a at h
  read_typed n (Swap to t addr compare value) a at h = item_typed n (Swap to t addr compare value) a at h
  read_typed n (Barrier sync scope uav shared) a at h = absurd h
  read_typed n Nothing a at h = absurd h

  -- ---- what an access sets

  set_kept : (n : ℕ) (instr : Instr) (slot : Slot) (reg : Reg) (type : Ty) → slice_get block.instrs n ≡ Some instr → Among (typed reg type) (set_by instr) → slot ≡ kept reg type → IsKept p slot
  set_kept n instr slot reg type at among is =
      record { reg = reg; type = type; is = is; set = (b, At_line n, record { block = block; stands = stands; sets = (instr, at, among_contains (typed reg type) (set_by instr) among) }) }

  access_kept : (n : ℕ) (instr : Instr) (slot : Slot) → slice_get block.instrs n ≡ Some instr → Among slot (access_sets instr) → IsKept p slot
  access_kept n (Load to mask t addr) slot at h =
      let m = map_among (λ c. kept (part_of to c) ty.Int) (parts_of mask) slot h in
      set_kept n (Load to mask t addr) slot (part_of to m.x) ty.Int at (among_map (λ c. typed (part_of to c) ty.Int) m.x (parts_of mask) m.among) m.is
  access_kept n (Atomic to op t addr value) slot at (inl e) = set_kept n (Atomic to op t addr value) slot to ty.Int at (inl refl) e
  access_kept n (Atomic to op t addr value) slot at (inr none) = absurd none
  access_kept n (Swap to t addr compare value) slot at (inl e) =
      set_kept n (Swap to t addr compare value) slot (part_of to 0) ty.Int at (inl refl) e
  access_kept n (Swap to t addr compare value) slot at (inr (inl e)) =
      set_kept n (Swap to t addr compare value) slot (part_of to 1) ty.Bool at (inr (inl refl)) e
  access_kept n (Swap to t addr compare value) slot at (inr (inr none)) = absurd none
  access_kept n (Bin to op t x y) slot at h = absurd h
  access_kept n (Cmp to op t x y) slot at h = absurd h
  access_kept n (Cast to op x) slot at h = absurd h
  access_kept n (Select to t c x y) slot at h = absurd h
  access_kept n (Copy to t x) slot at h = absurd h
  access_kept n (One to op x) slot at h = absurd h
  access_kept n (Two to op x y) slot at h = absurd h
  access_kept n (Mad to x y z) slot at h = absurd h
  access_kept n (Id to op part) slot at h = absurd h
  access_kept n (Size to buffer) slot at h = absurd h
  access_kept n (Store mask t addr x y z w) slot at h = absurd h
  access_kept n (Barrier sync scope uav shared) slot at h = absurd h
  access_kept n Nothing slot at h = absurd h

  -- ---- lines

  line_kept : (n : ℕ) (behind : Bool) (instr : Instr) (slot : Slot) → slice_get block.instrs n ≡ Some instr → Among slot (line_slots behind instr) → IsKept p slot
  line_kept n behind instr slot at h =
      ⊎_elim (access_kept n instr slot at) (read_back (is_access instr || behind)) (among_either slot (access_sets instr) _ h)
    where
      read_back : (c : Bool) → Among slot (if c then named_all (reads instr) else []) → IsKept p slot
      read_back true h = named_kept p (reads instr) slot (λ a read. read_typed n instr a at read) h
      read_back false h = absurd h

  lines_kept : (lines : List Instr) (behind : Bool) (slot : Slot) → ((line : Instr) → Among line lines → Among line block.instrs) → Among slot (lines_slots behind lines) → IsKept p slot
  lines_kept [] behind slot all h = absurd h
  lines_kept (line ∷ lines) behind slot all h =
      ⊎_elim (λ here. (let n = among_get line block.instrs (all line (inl refl)) in line_kept n.0 behind line slot n.1 here)) (λ rest. lines_kept lines (is_access line || behind) slot (λ x h. all x (inr h)) rest) (among_either slot (line_slots behind line) (lines_slots (is_access line || behind) lines) h)

  end_kept : (c : Bool) (slot : Slot) → Among slot (end_slots c block.term) → IsKept p slot
  end_kept false slot h = absurd h
  end_kept true slot h = named_kept p (map (λ a. a.item) (term_operands block.term)) slot tested h
    where
      tested : (a : Operand) → Among a (map (λ x. x.item) (term_operands block.term)) → HasSome p a
      tested a h =
          let m = map_among (λ (x : Typed Operand). x.item) (term_operands block.term) a h in
          let k = among_get m.x (term_operands block.term) m.among in
          (m.x.ty, subst (λ y. HasType p y m.x.ty) (sym m.is) (sound.end_types b k.0 block.term m.x (record { block = block; stands = stands; ends = refl }) k.1))

  block_kept : (slot : Slot) → Among slot (block_slots block) → IsKept p slot
  block_kept slot h =
      ⊎_elim (lines_kept block.instrs false slot (λ line h. h)) (end_kept (behind_lines false block.instrs) slot) (among_either slot (lines_slots false block.instrs) (end_slots (behind_lines false block.instrs) block.term) h)

pub further_kept : (p : Program) → Sound p → (slot : Slot) → Among slot (further_slots p.blocks) → IsKept p slot
further_kept p sound slot h =
    let m = flat_among block_slots p.blocks slot h in
    let b = among_get m.x p.blocks m.among in
    block_kept p sound b.0 m.x b.1 slot m.made
