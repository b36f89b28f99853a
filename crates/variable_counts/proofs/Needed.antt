-- The variables that range tests ask for are those of registers that cross or stand at accesses.
use Rattle.std.proofs.Common.{◌≡◌, ℕ, suc, ◌+◌, ◌<◌, Bool, true, false, List, [], ◌∷◌, Some, refl, sym, subst, arith, inl, inr, ⊎_elim}
use Rattle.std.proofs.lemmas.Bool.{cases_eq}
use Rattle.std.specs.Prelude.{◌⊎◌, ◌||◌, map, slice_get, if◌then◌else◌}
use Rattle.dxil_form.specs.declared.value.Ty.{Ty}
use Rattle.dxil_form.specs.declared.value.Ty.TheVariants as ty
use Rattle.dxil_form.specs.declared.value.Reg.{Reg}
use Rattle.dxil_form.specs.declared.value.Operand.{Operand}
use Rattle.dxil_form.specs.declared.value.Operand.TheVariants as operand
use Rattle.dxil_form.specs.declared.instr.Instr.{Instr}
use Rattle.dxil_form.specs.declared.instr.Instr.TheVariants.{Bin, Cmp, Cast, Select, Copy, One, Two, Mad, Id, Size, Load, Store, Atomic, Swap, Barrier, Nothing}
use Rattle.dxil_form.specs.declared.block.Block.{Block}
use Rattle.dxil_form.specs.declared.program.Program.{Program}
use Rattle.dxil_form.specs.Registers.{Typed, At_phi, At_line, Sets, SetsAt, by_line, by_end, typed, set_by, part_of, parts_of, term_operands, reads}
use Rattle.dxil_form.specs.Sound.{Sound, LineAt}
use Rattle.spirv_code.specs.declared.key.Slot.{Slot}
use Rattle.spirv_code.specs.declared.key.Slot.TheVariants.{Next, Kept, Want, Pick}
use Rattle.spirv_code.specs.Plans.{kept}
use Rattle.spirv_code.specs.Further.{is_access, access_sets, named, named_all, line_slots, lines_slots, behind_lines, end_slots, block_slots, further_slots}
use Rattle.plan_ready.proofs.Among.{Among, among_map, among_contains}
use Rattle.chosen_plan.proofs.Members.{among_either, among_get, flat_among, map_among}
use Rattle.chosen_plan.proofs.Kept.{IsKept, further_kept}
use Rattle.variable_counts.specs.Held.{IsAccess, AccessAt, IsNeeded, crosses, set_by_access, read_by_access, read_behind, read_at_end}

-- the register of a variable
abbrev pub reg_of : Slot → Reg
reg_of (Next value part truth) = part_of value part
reg_of (Kept value part truth) = part_of value part
reg_of Want = part_of 0 0
reg_of Pick = part_of 0 0

abbrev pub NoPhi : Program → Reg → Type 0
NoPhi p reg = (b n : ℕ) (type : Ty) → Sets p b (At_phi n) reg type → ⊥

-- an operand that names the register
operand_named : (operands : List Operand) (slot : Slot) → Among slot (named_all operands) → (type : Ty) × Among (operand.Reg (reg_of slot) type) operands
operand_named operands slot h =
    let m = flat_among named operands slot h in
    by_operand m.x m.among m.made
  where
    by_operand : (a : Operand) → Among a operands → Among slot (named a) → (type : Ty) × Among (operand.Reg (reg_of slot) type) operands
    by_operand (operand.Reg reg type) among (inl e) =
        (type, subst (λ s. Among (operand.Reg (reg_of s) type) operands) (sym e) among)
    by_operand (operand.Reg reg type) among (inr none) = absurd none
    by_operand (operand.Int n) among h = absurd h
    by_operand (operand.Bool b) among h = absurd h
    by_operand (operand.Undef type) among h = absurd h

access_told : (line : Instr) → is_access line ≡ true → IsAccess line
access_told (Load to mask t addr) e = tt
access_told (Store mask t addr x y z w) e = tt
access_told (Atomic to op t addr value) e = tt
access_told (Swap to t addr compare value) e = tt
access_told (Bin to op t x y) e = absurd (cc)
access_told (Cmp to op t x y) e = absurd (cc)
access_told (Cast to op x) e = absurd (cc)
access_told (Select to t c x y) e = absurd (cc)
access_told (Copy to t x) e = absurd (cc)
access_told (One to op x) e = absurd (cc)
access_told (Two to op x y) e = absurd (cc)
access_told (Mad to x y z) e = absurd (cc)
access_told (Id to op part) e = absurd (cc)
access_told (Size to buffer) e = absurd (cc)
access_told (Barrier sync scope uav shared) e = absurd (cc)
access_told Nothing e = absurd (cc)

-- the register that an access sets
access_set : (line : Instr) (slot : Slot) → Among slot (access_sets line) → IsAccess line × ((type : Ty) × Among (typed (reg_of slot) type) (set_by line))
access_set (Load to mask t addr) slot h =
    let m = map_among (λ c. kept (part_of to c) ty.Int) (parts_of mask) slot h in
    (tt, (ty.Int, subst (λ s. Among (typed (reg_of s) ty.Int) (set_by (Load to mask t addr))) (sym m.is) (among_map (λ c. typed (part_of to c) ty.Int) m.x (parts_of mask) m.among)))
access_set (Atomic to op t addr value) slot (inl e) =
    (tt, (ty.Int, subst (λ s. Among (typed (reg_of s) ty.Int) (typed to ty.Int ∷ [])) (sym e) (inl refl)))
access_set (Atomic to op t addr value) slot (inr none) = absurd none
access_set (Swap to t addr compare value) slot (inl e) =
    (tt, (ty.Int, subst (λ s. Among (typed (reg_of s) ty.Int) (set_by (Swap to t addr compare value))) (sym e) (inl refl)))
access_set (Swap to t addr compare value) slot (inr (inl e)) =
    (tt, (ty.Bool, subst (λ s. Among (typed (reg_of s) ty.Bool) (set_by (Swap to t addr compare value))) (sym e) (inr (inl refl))))
access_set (Swap to t addr compare value) slot (inr (inr none)) = absurd none
access_set (Store mask t addr x y z w) slot h = absurd h
access_set (Bin to op t x y) slot h = absurd h
access_set (Cmp to op t x y) slot h = absurd h
access_set (Cast to op x) slot h = absurd h
access_set (Select to t c x y) slot h = absurd h
access_set (Copy to t x) slot h = absurd h
access_set (One to op x) slot h = absurd h
access_set (Two to op x y) slot h = absurd h
access_set (Mad to x y z) slot h = absurd h
access_set (Id to op part) slot h = absurd h
access_set (Size to buffer) slot h = absurd h
access_set (Barrier sync scope uav shared) slot h = absurd h
access_set Nothing slot h = absurd h

module _ (p : Program) (sound : Sound p) (b : ℕ) (block : Block) (stands : slice_get p.blocks b ≡ Some block) (slot : Slot) (held : IsKept p slot) (no_phi : NoPhi p (reg_of slot)) where
  abbrev reg : Reg
  reg = reg_of slot

  line_at : (n : ℕ) (instr : Instr) → slice_get block.instrs n ≡ Some instr → LineAt p b n instr
  line_at n instr at = record { block = block; stands = stands; line = at }

  -- where the register is set
  set_at : Sets p held.set.0 held.set.1 reg held.type
  set_at = subst (λ s. Sets p held.set.0 held.set.1 (reg_of s) held.type) (sym held.is) held.set.2

  -- a register that another block sets is not set here
  far : (held.set.0 ≡ b → ⊥) → (k : ℕ) (type : Ty) → SetsAt block (At_line k) reg type → ⊥
  far apart k type sets =
      apart (sound.set_once held.set.0 b held.set.1 (At_line k) reg held.type type set_at (record { block = block; stands = stands; sets = sets })).0

  same_or_far : (held.set.0 ≡ b) ⊎ (held.set.0 ≡ b → ⊥)
  same_or_far = cases_eq held.set.0 b

  here : held.set.0 ≡ b → Sets p b held.set.1 reg held.type
  here e = subst (λ a. Sets p a held.set.1 reg held.type) e set_at

  -- an access stands before line n
  abbrev HasAccess : ℕ → Type 0
  HasAccess n = (m : ℕ) × (m < n) × AccessAt p b m

  line_needed : (n : ℕ) (instr : Instr) (behind : Bool) → slice_get block.instrs n ≡ Some instr → (behind ≡ true → HasAccess n) → Among slot (line_slots behind instr) → IsNeeded p reg
  line_needed n instr behind at before h = ⊎_elim by_set by_read (among_either slot (access_sets instr) _ h)
    where
      by_set : Among slot (access_sets instr) → IsNeeded p reg
      by_set h =
          let set = access_set instr slot h in
          set_by_access b n instr set.1.0 (line_at n instr at) set.0 (among_contains (typed reg set.1.0) (set_by instr) set.1.1)

      read_later : HasAccess n → Among slot (named_all (reads instr)) → IsNeeded p reg
      read_later access h =
          let named = operand_named (reads instr) slot h in
          let there = among_contains (operand.Reg reg named.0) (reads instr) named.1 in
          ⊎_elim (λ e. read_behind b access.0 n instr held.set.1 held.type named.0 (here e) access.2 access.1 (line_at n instr at) there) (λ apart. crosses (record { crosses = by_line b n block instr named.0 stands at there (λ k type less sets. far apart k type sets); no_phi = no_phi })) same_or_far

      read_there : is_access instr ≡ true → Among slot (named_all (reads instr)) → IsNeeded p reg
      read_there e h =
          let named = operand_named (reads instr) slot h in
          read_by_access b n instr named.0 (line_at n instr at) (access_told instr e) (among_contains (operand.Reg reg named.0) (reads instr) named.1)

      by_tests : (c d : Bool) → (c ≡ true → is_access instr ≡ true) → (d ≡ true → HasAccess n) → Among slot (if c || d then named_all (reads instr) else []) → IsNeeded p reg
      by_tests true d access before h = read_there (access refl) h
      by_tests false true access before h = read_later (before refl) h
      by_tests false false access before h = absurd h

      by_read : Among slot (if is_access instr || behind then named_all (reads instr) else []) → IsNeeded p reg
      by_read h = by_tests (is_access instr) behind (λ e. e) before h

  -- an access stands before the next line
  next_access : (n : ℕ) (instr : Instr) (behind : Bool) → slice_get block.instrs n ≡ Some instr → (behind ≡ true → HasAccess n) → (is_access instr || behind) ≡ true → HasAccess (suc n)
  next_access n instr behind at before = by_tests (is_access instr) behind (λ e. e) before
    where
      by_tests : (c d : Bool) → (c ≡ true → is_access instr ≡ true) → (d ≡ true → HasAccess n) → (c || d) ≡ true → HasAccess (suc n)
      by_tests true d access before e =
          (n, omega arith, record { instr = instr; line = line_at n instr at; access = access_told instr (access refl) })
      by_tests false true access before e =
          let early = before refl in
          let less : early.0 < n = early.1 in
          (early.0, omega (arith, less), early.2)
      by_tests false false access before e = absurd (cc)

  -- the lines from n on
  abbrev AreFrom : ℕ → List Instr → Type 0
  AreFrom n lines =
      (k : ℕ) (x : Instr) → slice_get lines k ≡ Some x → slice_get block.instrs (n + k) ≡ Some x

  first_from : (n : ℕ) (line : Instr) (lines : List Instr) → AreFrom n (line ∷ lines) → slice_get block.instrs n ≡ Some line
  first_from n line lines from =
      let same : n + 0 ≡ n = omega arith in
      subst (λ k. slice_get block.instrs k ≡ Some line) same (from 0 line refl)

  rest_from : (n : ℕ) (line : Instr) (lines : List Instr) → AreFrom n (line ∷ lines) → AreFrom (suc n) lines
  rest_from n line lines from k x e =
      let same : n + suc k ≡ suc n + k = omega arith in
      subst (λ j. slice_get block.instrs j ≡ Some x) same (from (suc k) x e)

  lines_needed : (lines : List Instr) (n : ℕ) (behind : Bool) → AreFrom n lines → (behind ≡ true → HasAccess n) → Among slot (lines_slots behind lines) → IsNeeded p reg
  lines_needed [] n behind from before h = absurd h
  lines_needed (line ∷ lines) n behind from before h =
      ⊎_elim (λ now. line_needed n line behind (first_from n line lines from) before now) (λ later. lines_needed lines (suc n) (is_access line || behind) (rest_from n line lines from) (next_access n line behind (first_from n line lines from) before) later) (among_either slot (line_slots behind line) (lines_slots (is_access line || behind) lines) h)

  last_access : (lines : List Instr) (n : ℕ) (behind : Bool) → AreFrom n lines → (behind ≡ true → HasAccess n) → behind_lines behind lines ≡ true → (m : ℕ) × AccessAt p b m
  last_access [] n behind from before e = (let access = before e in (access.0, access.2))
  last_access (line ∷ lines) n behind from before e =
      last_access lines (suc n) (is_access line || behind) (rest_from n line lines from) (next_access n line behind (first_from n line lines from) before) e

  all_from : AreFrom 0 block.instrs
  all_from k x e =
      let same : k ≡ 0 + k = omega arith in
      subst (λ j. slice_get block.instrs j ≡ Some x) same e

  end_needed : (m : ℕ) → AccessAt p b m → Among slot (named_all (map (λ a. a.item) (term_operands block.term))) → IsNeeded p reg
  end_needed m access h =
      let named = operand_named (map (λ a. a.item) (term_operands block.term)) slot h in
      let from = map_among (λ (x : Typed Operand). x.item) (term_operands block.term) (operand.Reg reg named.0) named.1 in
      let tested : Among (typed (operand.Reg reg named.0) from.x.ty) (term_operands block.term) = subst (λ a. Among (typed a from.x.ty) (term_operands block.term)) (sym from.is) from.among in
      let there = among_contains (typed (operand.Reg reg named.0) from.x.ty) (term_operands block.term) tested in
      ⊎_elim (λ e. read_at_end b m block.term held.set.1 held.type from.x.ty named.0 (here e) access (record { block = block; stands = stands; ends = refl }) there) (λ apart. crosses (record { crosses = by_end b block from.x.ty named.0 stands there (λ k type sets. far apart k type sets); no_phi = no_phi })) same_or_far

  block_needed : Among slot (block_slots block) → IsNeeded p reg
  block_needed h =
      ⊎_elim (λ line. lines_needed block.instrs 0 false all_from (λ e. absurd (cc)) line) (λ end. by_test (behind_lines false block.instrs) refl end) (among_either slot (lines_slots false block.instrs) (end_slots (behind_lines false block.instrs) block.term) h)
    where
      by_test : (c : Bool) → behind_lines false block.instrs ≡ c → Among slot (end_slots c block.term) → IsNeeded p reg
      by_test false e h = absurd h
      by_test true e h =
          let access = last_access block.instrs 0 false all_from (λ f. absurd (cc)) e in
          end_needed access.0 access.1 h

pub further_needed : (p : Program) → Sound p → (slot : Slot) → NoPhi p (reg_of slot) → Among slot (further_slots p.blocks) → IsNeeded p (reg_of slot)
further_needed p sound slot no_phi h =
    let m = flat_among block_slots p.blocks slot h in
    let b = among_get m.x p.blocks m.among in
    block_needed p sound b.0 m.x b.1 slot (further_kept p sound slot h) no_phi m.made
