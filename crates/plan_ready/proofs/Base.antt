-- What the plan of a program has, seen from the setting of its module: variables and declarations.
use Rattle.std.proofs.Common.{◌≡◌, ℕ, suc, Bool, true, false, List, [], ◌∷◌, Option, Some, None, refl, ap, ◌∙◌, subst, inl, inr}
use Rattle.std.specs.Prelude.{◌||◌, ◌&&◌, nat_eq, slice_get, if◌then◌else◌}
use Rattle.dxil_form.specs.declared.value.Ty.{Ty}
use Rattle.dxil_form.specs.declared.value.Reg.{Reg}
use Rattle.dxil_form.specs.declared.instr.Target.{Target}
use Rattle.dxil_form.specs.declared.instr.Target.TheVariants as target
use Rattle.dxil_form.specs.declared.block.Phi.{Phi}
use Rattle.dxil_form.specs.declared.block.Block.{Block}
use Rattle.dxil_form.specs.declared.program.Kind.{Kind}
use Rattle.dxil_form.specs.declared.program.Kind.TheVariants as kind
use Rattle.dxil_form.specs.declared.program.Resource.{Resource}
use Rattle.dxil_form.specs.declared.program.Program.{Program}
use Rattle.dxil_form.specs.declared.region.Region.{Region}
use Rattle.dxil_form.specs.Branches.{declared_graph}
use Rattle.dxil_form.specs.Graphs.{Reached}
use Rattle.dxil_form.specs.Registers.{Spot, Sets, IsCrossing}
use Rattle.dxil_form.specs.Sound.{Sound, PhiAt}
use Rattle.dxil_form.specs.Wired.{Wired}
use Rattle.spv_form.specs.declared.module.Module.{Module}
use Rattle.dxil_meaning.specs.Source.{Launch, rows_in}
use Rattle.dxil_meaning.specs.Source as source
use Rattle.spirv_meaning.specs.Bindings.{Bindings}
use Rattle.spirv_code.specs.declared.key.Global.{Global}
use Rattle.spirv_code.specs.declared.key.Slot.{Slot}
use Rattle.spirv_code.specs.declared.key.Slot.TheVariants.{Next, Kept, Want, Pick}
use Rattle.spirv_code.specs.Keys.{same_slot, same_truth, has_key, place_from}
use Rattle.spirv_code.specs.Plans.{Plan, context_of, kept, coming, slots_from, rows_of, limit_of}
use Rattle.spirv_code.specs.Needed.{block_keys, table_of}
use Rattle.spirv_code.specs.Further.{block_slots, further_slots, has_slot}
use Rattle.line_runs.specs.Held.{Setting, Uses}
use Rattle.line_runs.proofs.Tests.{nat_eq-refl}
use Rattle.access_runs.specs.Parts.{LimitIs}
use Rattle.leaf_runs.specs.BlockReady.{HasVariable}
use Rattle.leaf_runs.specs.Laws.{setting_of}
use Rattle.plan_ready.specs.Planned.{HasVariables}
use Rattle.plan_ready.proofs.Among.{Among, among_at, among_flat, or_left, or_right, both}
use Rattle.frame_facts.proofs.Tabled.{IsKnown, truth_self}
use Rattle.plan_ready.proofs.Tables.{table_has}

-- what is there for the code of a program's blocks
pub record Base (s : Setting) : Type 0 where
  pub sound : Sound s.program
  pub blocks : s.context.blocks ≡ s.program.blocks
  pub limit : (t : Target) → LimitIs s t
  pub limit_is : (t : Target) → s.context.limit t ≡ limit_of s.program t
  pub next : (b n : ℕ) (phi : Phi) → PhiAt s.program b n phi → HasVariable s (coming phi.to phi.ty)
  pub own : (b n : ℕ) (phi : Phi) → PhiAt s.program b n phi → HasVariable s (kept phi.to phi.ty)
  pub crossing : (b : ℕ) (spot : Spot) (reg : Reg) (type : Ty) → IsCrossing s.program reg → Sets s.program b spot reg type → HasVariable s (kept reg type)
  pub further : (b : ℕ) (block : Block) (slot : Slot) → slice_get s.program.blocks b ≡ Some block → Among slot (block_slots block) → HasVariable s slot
  pub wants : Bool
  pub keys : (b : ℕ) (block : Block) (g : Global) → Reached (declared_graph s.program) b → slice_get s.program.blocks b ≡ Some block → Among g (block_keys s.program wants block) → IsKnown s.program g → Uses s g

-- ---- variables

pub slot_self : (s : Slot) → same_slot s s ≡ true
slot_self (Next v p t) = both (nat_eq v v) (nat_eq p p && same_truth t t) (nat_eq-refl v) (both (nat_eq p p) (same_truth t t) (nat_eq-refl p) (truth_self t))
slot_self (Kept v p t) = both (nat_eq v v) (nat_eq p p && same_truth t t) (nat_eq-refl v) (both (nat_eq p p) (same_truth t t) (nat_eq-refl p) (truth_self t))
slot_self Want = refl
slot_self Pick = refl

pub among_has : (slots : List Slot) (s : Slot) → Among s slots → has_slot slots s ≡ true
among_has [] s h = absurd h
among_has (x ∷ slots) s (inl e) =
    or_left (same_slot s x) (has_slot slots s) (subst (λ y. same_slot s y ≡ true) e (slot_self s))
among_has (x ∷ slots) s (inr h) = or_right (same_slot s x) (has_slot slots s) (among_has slots s h)

pub has_place : (n : ℕ) (slots : List Slot) (s : Slot) → has_slot slots s ≡ true → (id : ℕ) × (place_from n slots s ≡ Some id)
has_place n [] s e = absurd (cc)
has_place n (x ∷ slots) s e = by_test (same_slot s x) (has_place (suc n) slots s) e
  where
    by_test : (b : Bool) → (has_slot slots s ≡ true → (id : ℕ) × (place_from (suc n) slots s ≡ Some id)) → (b || has_slot slots s) ≡ true → (id : ℕ) × ((if b then Some n else place_from (suc n) slots s) ≡ Some id)
    by_test true rest e = (n, refl)
    by_test false rest e = rest e

-- ---- the limit of a range test

rows_same : (o : Option Resource) → rows_of o ≡ rows_in o
rows_same None = refl
rows_same (Some resource) = by_kind resource.kind
  where
    by_kind : (k : Kind) → rows_of (Some (record resource { kind = k })) ≡ source.rows_of k
    by_kind kind.Raw = refl
    by_kind (kind.Structured stride) = refl
    by_kind (kind.Constant rows) = refl

limit_same : (p : Program) (plan : Plan) (m : Module) (at : Bindings) (l : Launch) (t : Target) → LimitIs (setting_of p m at (context_of p plan) plan.table l) t
limit_same p plan m at l (target.Buffer r) = rows_same (slice_get p.resources r)
limit_same p plan m at l (target.Shared a) = refl

pub base_of : (p : Program) (list : List Region) (wants : Bool) (plan : Plan) → Sound p → Wired p list → HasVariables p plan.slots → plan.table ≡ table_of p list wants plan.slots → (m : Module) (at : Bindings) (l : Launch) → Base (setting_of p m at (context_of p plan) plan.table l)
base_of p list wants plan sound wired has table m at l =
    record {
      sound = sound;
      blocks = refl;
      limit = limit_same p plan m at l;
      limit_is = λ t. refl;
      next = λ b n phi at. has_place (slots_from plan) plan.slots (coming phi.to phi.ty) (has.next b n phi at);
      own = λ b n phi at. has_place (slots_from plan) plan.slots (kept phi.to phi.ty) (has.own b n phi at);
      crossing = λ b spot reg type crosses sets. has_place (slots_from plan) plan.slots (kept reg type) (has.crossing b spot reg type crosses sets);
      further = λ b block slot stands among. has_place (slots_from plan) plan.slots slot (has.further slot (among_has (further_slots p.blocks) slot (among_flat block_slots block slot p.blocks (among_at block p.blocks b stands) among)));
      wants = wants;
      keys = λ b block g reached stands among d. (let leaf = wired.leaf b reached in
          ap (λ t. has_key t g) table ∙ table_has p list wants plan.slots leaf.0 b block g leaf.1 stands among d);
    }
