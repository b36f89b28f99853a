-- Operands of a block's lines can be read.
use Rattle.std.proofs.Common.{◌≡◌, ◌≢◌, ℕ, ◌<◌, Bool, true, false, List, Some, None, refl, sym, ap, ◌∙◌, subst, inl}
use Rattle.std.specs.Prelude.{slice_get}
use Rattle.dxil_form.specs.declared.value.Ty.{Ty}
use Rattle.dxil_form.specs.declared.value.Ty.TheVariants as ty
use Rattle.dxil_form.specs.declared.value.Reg.{Reg}
use Rattle.dxil_form.specs.declared.value.Operand.{Operand}
use Rattle.dxil_form.specs.declared.value.Operand.TheVariants as operand
use Rattle.dxil_form.specs.declared.instr.Instr.{Instr}
use Rattle.dxil_form.specs.declared.block.Phi.{Phi}
use Rattle.dxil_form.specs.declared.block.Block.{Block}
use Rattle.dxil_form.specs.Registers.{Typed, Spot, At_phi, At_line, SetsAt, Sets, Crosses, IsCrossing, by_line, set_by, typed}
use Rattle.dxil_form.specs.Registers as registers
use Rattle.dxil_form.specs.Sound.{HasType}
use Rattle.spirv_code.specs.declared.key.Global.{Global}
use Rattle.spirv_code.specs.declared.key.Global.TheVariants as global
use Rattle.spirv_code.specs.declared.key.Slot.{Slot}
use Rattle.spirv_code.specs.Plans.{kept}
use Rattle.spirv_code.specs.Reads.{Env}
use Rattle.spirv_code.specs.Needed.{operand_keys}
use Rattle.spirv_code.specs.Further.{named, named_all}
use Rattle.line_runs.specs.Held.{Setting, Uses}
use Rattle.line_runs.specs.Ready.{NeedsOf, CanRead, IsSet}
use Rattle.line_runs.proofs.Tests.{none_some, some_inj}
use Rattle.leaf_runs.specs.BlockReady.{HasVariable}
use Rattle.plan_ready.proofs.Among.{Among, among_flat, contains_among, among_contains}
use Rattle.frame_facts.proofs.Tabled.{IsKnown}
use Rattle.plan_ready.proofs.Base.{Base}

-- these keys are declared
abbrev pub AllUsed : Setting → List Global → Type 0
AllUsed s gs = (g : Global) → Among g gs → IsKnown s.program g → Uses s g

pub needs_of : (s : Setting) (a : Operand) → AllUsed s (operand_keys a) → NeedsOf s a
needs_of s (operand.Reg reg type) used = tt
needs_of s (operand.Int n) used = used (global.Number n) (inl refl) tt
needs_of s (operand.Bool b) used = used (global.Truth b) (inl refl) tt
needs_of s (operand.Undef ty.Int) used = used (global.Number 0) (inl refl) tt
needs_of s (operand.Undef ty.Bool) used = used (global.Truth false) (inl refl) tt

-- a variable serves wherever it is read
pub can_by_slot : (s : Setting) (env : Env) (a : Operand) → ((reg : Reg) (type : Ty) → a ≡ operand.Reg reg type → HasVariable s (kept reg type)) → CanRead s env a
can_by_slot s env (operand.Reg reg type) has =
    λ unknown none. (let v = has reg type refl in
    none_some (sym none ∙ v.1))
can_by_slot s env (operand.Int n) has = tt
can_by_slot s env (operand.Bool b) has = tt
can_by_slot s env (operand.Undef type) has = tt

-- a register that is read among operands is named by them
pub named_among : (operands : List Operand) (reg : Reg) (type : Ty) → Among (operand.Reg reg type) operands → Among (kept reg type) (named_all operands)
named_among operands reg type h = among_flat named (operand.Reg reg type) (kept reg type) operands h (inl refl)

module _ (s : Setting) (base : Base s) (b : ℕ) (block : Block) (stands : slice_get s.program.blocks b ≡ Some block) where
  -- the registers that lines before n have set are known, unless an access stands before n
  abbrev pub Known : Env → ℕ → Bool → Type 0
  Known env n behind =
      behind ≡ false → (k : ℕ) (reg : Reg) (type : Ty) → k < n → SetsAt block (At_line k) reg type → env reg ≢ None

  -- a register that a phi sets has its variable, and so has one that crosses
  pub variable_of : (reg : Reg) (type : Ty) → HasType s.program (operand.Reg reg type) type → Crosses s.program reg → HasVariable s (kept reg type)
  variable_of reg type of crosses = by_spot of.1.0 of.1.1 of.1.2
    where
      by_spot : (c : ℕ) (spot : Spot) → Sets s.program c spot reg type → HasVariable s (kept reg type)
      by_spot c (At_phi m) sets =
          let phi : Phi = sets.sets.0 in
          let own = base.own c m phi (record { block = sets.block; stands = sets.stands; line = sets.sets.1 }) in
          subst (λ t. HasVariable s (kept reg t)) sets.sets.3 (subst (λ r. HasVariable s (kept r phi.ty)) sets.sets.2 own)
      by_spot c (At_line m) sets =
          base.crossing c (At_line m) reg type (record {
            crosses = crosses;
            no_phi = λ c' m' u other. (let same = base.sound.set_once c c' (At_line m) (At_phi m') reg type u sets other in
                line_phi m m' same.1);
          }) sets
        where
          line_phi : (m m' : ℕ) → At_line m ≡ At_phi m' → ⊥
          line_phi m m' e = absurd (cc)

  -- the line's register is known, or has its variable
  pub can_line : (env : Env) (n : ℕ) (behind : Bool) (instr : Instr) (a : Operand) (type : Ty) → Known env n behind → (behind ≡ true → (slot : Slot) → Among slot (named_all (registers.reads instr)) → HasVariable s slot) → slice_get block.instrs n ≡ Some instr → HasType s.program a type → Among a (registers.reads instr) → CanRead s env a
  can_line env n behind instr (operand.Int m) type known further at of among = tt
  can_line env n behind instr (operand.Bool m) type known further at of among = tt
  can_line env n behind instr (operand.Undef t) type known further at of among = tt
  can_line env n behind instr (operand.Reg reg own) type known further at of among = λ unknown none. by_behind unknown none behind refl
    where
      by_behind : env reg ≡ None → s.context.slot (kept reg own) ≡ None → (c : Bool) → behind ≡ c → ⊥
      by_behind unknown none true e =
          let v = further e (kept reg own) (named_among (registers.reads instr) reg own among) in
          none_some (sym none ∙ v.1)
      by_behind unknown none false e =
          let v = variable_of reg own (refl, of.1) (by_line b n block instr own stands at (among_contains (operand.Reg reg own) (registers.reads instr) among) (λ k t lt sets. known e k reg t lt sets unknown)) in
          none_some (sym none ∙ v.1)

  -- ---- what a line sets

  sets_once : (n : ℕ) (instr : Instr) (reg : Reg) (type : Ty) → slice_get block.instrs n ≡ Some instr → Among (typed reg type) (set_by instr) → ((u : Ty) → Among (typed reg u) (set_by instr) → u ≡ type) → (c : ℕ) (spot : Spot) (u : Ty) → Sets s.program c spot reg u → u ≡ type
  sets_once n instr reg type at among one c (At_phi m) u sets =
      let here : Sets s.program b (At_line n) reg type = record { block = block; stands = stands; sets = (instr, at, among_contains (typed reg type) (set_by instr) among) } in
      let same = base.sound.set_once c b (At_phi m) (At_line n) reg u type sets here in
      absurd (phi_line m n same.1)
    where
      phi_line : (m n : ℕ) → At_phi m ≡ At_line n → ⊥
      phi_line m n e = absurd (cc)
  sets_once n instr reg type at among one c (At_line m) u sets =
      let here : Sets s.program b (At_line n) reg type = record { block = block; stands = stands; sets = (instr, at, among_contains (typed reg type) (set_by instr) among) } in
      let same = base.sound.set_once c b (At_line m) (At_line n) reg u type sets here in
      let line : At_line m ≡ At_line n = same.1 in
      let m_is : m ≡ n = cc in
      let block_is : sets.block ≡ block = some_inj (sym sets.stands ∙ ap (slice_get s.program.blocks) same.0 ∙ stands) in
      let instr_is : sets.sets.0 ≡ instr = some_inj (sym sets.sets.1 ∙ ap (λ (x : Block). slice_get x.instrs m) block_is ∙ ap (slice_get block.instrs) m_is ∙ at) in
      one u (subst (λ (x : Instr). Among (typed reg u) (set_by x)) instr_is (contains_among (typed reg u) (set_by sets.sets.0) sets.sets.2))

  pub set_ready : (n : ℕ) (instr : Instr) (reg : Reg) (type : Ty) → slice_get block.instrs n ≡ Some instr → Among (typed reg type) (set_by instr) → ((u : Ty) → Among (typed reg u) (set_by instr) → u ≡ type) → IsSet s reg type
  set_ready n instr reg type at among one = record { one = sets_once n instr reg type at among one }
