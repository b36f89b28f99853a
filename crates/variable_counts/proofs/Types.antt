-- A register has one type where it is set.
use Rattle.std.proofs.Common.{◌≡◌, ℕ, [], ◌∷◌, sym, ap, ◌∙◌, subst, arith, inl, inr}
use Rattle.std.specs.Prelude.{slice_get}
use Rattle.dxil_form.specs.declared.value.Ty.{Ty}
use Rattle.dxil_form.specs.declared.value.Ty.TheVariants as ty
use Rattle.dxil_form.specs.declared.value.Reg.{Reg}
use Rattle.dxil_form.specs.declared.instr.Instr.{Instr}
use Rattle.dxil_form.specs.declared.instr.Instr.TheVariants.{Bin, Cmp, Cast, Select, Copy, One, Two, Mad, Id, Size, Load, Store, Atomic, Swap, Barrier, Nothing}
use Rattle.dxil_form.specs.declared.block.Phi.{Phi}
use Rattle.dxil_form.specs.declared.block.Block.{Block}
use Rattle.dxil_form.specs.declared.program.Program.{Program}
use Rattle.dxil_form.specs.Registers.{Typed, Spot, At_phi, At_line, Sets, typed, set_by, part_of, parts_of, cast_to}
use Rattle.dxil_form.specs.Sound.{Sound}
use Rattle.line_runs.proofs.Tests.{some_inj}
use Rattle.plan_ready.proofs.Among.{Among, contains_among}
use Rattle.plan_ready.proofs.Lines.{one_type, loaded_type}

item_part : (reg : Reg) (to part : ℕ) (t u : Ty) → typed reg t ≡ typed (part_of to part) u → reg.part ≡ part
item_part reg to part t u e = ap (λ (x : Typed Reg). x.item.part) e

swapped_types : (to : ℕ) (reg : Reg) (t u : Ty) → Among (typed reg t) (typed (part_of to 0) ty.Int ∷ typed (part_of to 1) ty.Bool ∷ []) → Among (typed reg u) (typed (part_of to 0) ty.Int ∷ typed (part_of to 1) ty.Bool ∷ []) → t ≡ u
swapped_types to reg t u (inl e) (inl f) = ap (λ (x : Typed Reg). x.ty) e ∙ sym (ap (λ (x : Typed Reg). x.ty) f)
swapped_types to reg t u (inl e) (inr (inl f)) =
    let first : reg.part ≡ 0 = item_part reg to 0 t ty.Int e in
    let second : reg.part ≡ 1 = item_part reg to 1 u ty.Bool f in
    absurd (omega (arith, first, second))
swapped_types to reg t u (inr (inl e)) (inl f) =
    let second : reg.part ≡ 1 = item_part reg to 1 t ty.Bool e in
    let first : reg.part ≡ 0 = item_part reg to 0 u ty.Int f in
    absurd (omega (arith, first, second))
swapped_types to reg t u (inr (inl e)) (inr (inl f)) = ap (λ (x : Typed Reg). x.ty) e ∙ sym (ap (λ (x : Typed Reg). x.ty) f)
swapped_types to reg t u (inr (inr none)) k = absurd none
swapped_types to reg t u (inl e) (inr (inr none)) = absurd none
swapped_types to reg t u (inr (inl e)) (inr (inr none)) = absurd none

same_types : (reg to : Reg) (type t u : Ty) → Among (typed reg t) (typed to type ∷ []) → Among (typed reg u) (typed to type ∷ []) → t ≡ u
same_types reg to type t u h k = one_type reg to type t h ∙ sym (one_type reg to type u k)

line_types : (instr : Instr) (reg : Reg) (t u : Ty) → Among (typed reg t) (set_by instr) → Among (typed reg u) (set_by instr) → t ≡ u
line_types (Bin to op type a b) reg t u h k = same_types reg to type t u h k
line_types (Cmp to op type a b) reg t u h k = same_types reg to ty.Bool t u h k
line_types (Cast to op a) reg t u h k = same_types reg to (cast_to op) t u h k
line_types (Select to type c a b) reg t u h k = same_types reg to type t u h k
line_types (Copy to type a) reg t u h k = same_types reg to type t u h k
line_types (One to op a) reg t u h k = same_types reg to ty.Int t u h k
line_types (Two to op a b) reg t u h k = same_types reg to ty.Int t u h k
line_types (Mad to a b c) reg t u h k = same_types reg to ty.Int t u h k
line_types (Id to op part) reg t u h k = same_types reg to ty.Int t u h k
line_types (Size to buffer) reg t u h k = same_types reg to ty.Int t u h k
line_types (Load to mask target addr) reg t u h k =
    loaded_type reg to (parts_of mask) t h ∙ sym (loaded_type reg to (parts_of mask) u k)
line_types (Atomic to op target addr value) reg t u h k = same_types reg to ty.Int t u h k
line_types (Swap to target addr compare value) reg t u h k = swapped_types to reg t u h k
line_types (Store mask target addr x y z w) reg t u h k = absurd h
line_types (Barrier sync scope uav shared) reg t u h k = absurd h
line_types Nothing reg t u h k = absurd h

pub set_types : (p : Program) → Sound p → (a b : ℕ) (x y : Spot) (reg : Reg) (t u : Ty) → Sets p a x reg t → Sets p b y reg u → t ≡ u
set_types p sound a b (At_phi m) (At_phi n) reg t u f g =
    let same = sound.set_once a b (At_phi m) (At_phi n) reg t u f g in
    let spot : At_phi m ≡ At_phi n = same.1 in
    let m_is : m ≡ n = cc in
    let block_is : f.block ≡ g.block = some_inj (sym f.stands ∙ ap (slice_get p.blocks) same.0 ∙ g.stands) in
    let phi_is : f.sets.0 ≡ g.sets.0 = some_inj (sym f.sets.1 ∙ ap (λ (c : Block). slice_get c.phis m) block_is ∙ ap (slice_get g.block.phis) m_is ∙ g.sets.1) in
    sym f.sets.3 ∙ ap (λ (c : Phi). c.ty) phi_is ∙ g.sets.3
set_types p sound a b (At_line m) (At_line n) reg t u f g =
    let same = sound.set_once a b (At_line m) (At_line n) reg t u f g in
    let spot : At_line m ≡ At_line n = same.1 in
    let m_is : m ≡ n = cc in
    let block_is : f.block ≡ g.block = some_inj (sym f.stands ∙ ap (slice_get p.blocks) same.0 ∙ g.stands) in
    let line_is : f.sets.0 ≡ g.sets.0 = some_inj (sym f.sets.1 ∙ ap (λ (c : Block). slice_get c.instrs m) block_is ∙ ap (slice_get g.block.instrs) m_is ∙ g.sets.1) in
    line_types g.sets.0 reg t u (subst (λ (x : Instr). Among (typed reg t) (set_by x)) line_is (contains_among (typed reg t) (set_by f.sets.0) f.sets.2)) (contains_among (typed reg u) (set_by g.sets.0) g.sets.2)
set_types p sound a b (At_phi m) (At_line n) reg t u f g =
    let same = sound.set_once a b (At_phi m) (At_line n) reg t u f g in
    let spot : At_phi m ≡ At_line n = same.1 in
    absurd (cc)
set_types p sound a b (At_line m) (At_phi n) reg t u f g =
    let same = sound.set_once a b (At_line m) (At_phi n) reg t u f g in
    let spot : At_line m ≡ At_phi n = same.1 in
    absurd (cc)
