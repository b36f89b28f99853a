-- What is known behind each line, and that all lines of a block are ready.
use Rattle.std.proofs.Common.{◌≡◌, ◌≢◌, ℕ, suc, ◌+◌, ◌<◌, Bool, true, false, List, [], ◌∷◌, length, drop, Some, None, refl, sym, ap, ◌∙◌, subst, arith, inl, inr, ⊎_elim}
use Rattle.std.specs.Prelude.{◌⊎◌, ◌||◌, slice_get}
use Rattle.dxil_form.specs.declared.value.Ty.{Ty}
use Rattle.dxil_form.specs.declared.value.Ty.TheVariants as ty
use Rattle.dxil_form.specs.declared.value.Reg.{Reg}
use Rattle.dxil_form.specs.declared.instr.Instr.{Instr}
use Rattle.dxil_form.specs.declared.instr.Instr.TheVariants.{Bin, Cmp, Cast, Select, Copy, One, Two, Mad, Id, Size, Load, Store, Atomic, Swap, Barrier, Nothing}
use Rattle.dxil_form.specs.declared.block.Block.{Block}
use Rattle.dxil_form.specs.Registers.{Typed, set_by, typed, cast_to}
use Rattle.spirv_code.specs.declared.key.Global.{Global}
use Rattle.spirv_code.specs.declared.key.Slot.{Slot}
use Rattle.spirv_code.specs.Reads.{Env, with_id, same_reg}
use Rattle.spirv_code.specs.Lines.{line_code, line_env, lines_env}
use Rattle.spirv_code.specs.Needed.{line_keys, lines_keys}
use Rattle.spirv_code.specs.Further.{is_access, line_slots, lines_slots, behind_lines}
use Rattle.line_runs.specs.Held.{Setting}
use Rattle.line_runs.proofs.Tests.{none_some, some_inj, env_here, env_there, told}
use Rattle.block_runs.specs.Inside.{StepsReady}
use Rattle.block_runs.proofs.Sources.{drop_first, drop_next}
use Rattle.leaf_runs.specs.BlockReady.{HasVariable}
use Rattle.plan_ready.proofs.Among.{Among, among_front, among_back, contains_among}
use Rattle.plan_ready.proofs.Base.{Base}
use Rattle.plan_ready.proofs.Operands.{AllUsed, Known}
use Rattle.plan_ready.proofs.Lines.{step_ready}

-- a register that is set, or was known, is known
with_known : (to : Reg) (id : ℕ) (env : Env) (reg : Reg) → (reg ≡ to) ⊎ (env reg ≢ None) → with_id to id env reg ≢ None
with_known to id env reg h none = ⊎_elim same other (told to reg)
  where
    same : to ≡ reg → ⊥
    same e = none_some (sym none ∙ subst (λ r. with_id to id env r ≡ Some id) e (env_here to id env))

    other : same_reg to reg ≡ false → ⊥
    other differs =
        let before : env reg ≡ None = sym (env_there to id env reg differs) ∙ none in
        ⊎_elim (λ e. none_some (sym none ∙ subst (λ r. with_id to id env r ≡ Some id) (sym e) (env_here to id env))) (λ known. known before) h

set_one : (reg to : Reg) (type u : Ty) → Among (typed reg u) (typed to type ∷ []) → reg ≡ to
set_one reg to type u (inl e) = ap (λ (t : Typed Reg). t.item) e
set_one reg to type u (inr none) = absurd none

module _ (s : Setting) (base : Base s) (b : ℕ) (block : Block) (stands : slice_get s.program.blocks b ≡ Some block) where
  known_by : (env env' : Env) (n : ℕ) (behind : Bool) (instr : Instr) → ((reg : Reg) → env reg ≢ None → env' reg ≢ None) → ((reg : Reg) (type : Ty) → Among (typed reg type) (set_by instr) → env' reg ≢ None) → Known s base b block stands env n behind → slice_get block.instrs n ≡ Some instr → Known s base b block stands env' (suc n) behind
  known_by env env' n behind instr stays new known at e k reg type lt sets = ⊎_elim earlier here (by_order k n lt)
    where
      by_order : (k n : ℕ) → k < suc n → (k < n) ⊎ (k ≡ n)
      by_order k n lt = grind arith

      earlier : k < n → env' reg ≢ None
      earlier lt = stays reg (known e k reg type lt sets)

      here : k ≡ n → env' reg ≢ None
      here same =
          let line : sets.0 ≡ instr = some_inj (sym sets.1 ∙ ap (slice_get block.instrs) same ∙ at) in
          new reg type (subst (λ (x : Instr). Among (typed reg type) (set_by x)) line (contains_among (typed reg type) (set_by sets.0) sets.2))

  -- a line that sets one register
  known_one : (env : Env) (n : ℕ) (behind : Bool) (instr : Instr) (to : Reg) (type : Ty) (id : ℕ) → set_by instr ≡ typed to type ∷ [] → Known s base b block stands env n behind → slice_get block.instrs n ≡ Some instr → Known s base b block stands (with_id to id env) (suc n) behind
  known_one env n behind instr to type id is known at =
      known_by env (with_id to id env) n behind instr (λ reg before. with_known to id env reg (inr before)) (λ reg u h. with_known to id env reg (inl (set_one reg to type u (subst (λ xs. Among (typed reg u) xs) is h)))) known at

  -- nothing is asked of what is known behind an access
  known_behind : (env : Env) (n : ℕ) → Known s base b block stands env n true
  known_behind env n e = absurd (cc)

  known_next : (env : Env) (n place : ℕ) (behind : Bool) (instr : Instr) → Known s base b block stands env n behind → slice_get block.instrs n ≡ Some instr → Known s base b block stands (line_env s.context env place instr) (suc n) (is_access instr || behind)
  known_next env n place behind (Bin to op t a c) known at = known_one env n behind (Bin to op t a c) to t _ refl known at
  known_next env n place behind (Cmp to op t a c) known at = known_one env n behind (Cmp to op t a c) to ty.Bool _ refl known at
  known_next env n place behind (Cast to op a) known at = known_one env n behind (Cast to op a) to (cast_to op) _ refl known at
  known_next env n place behind (Select to t x a c) known at = known_one env n behind (Select to t x a c) to t _ refl known at
  known_next env n place behind (Copy to t a) known at = known_one env n behind (Copy to t a) to t _ refl known at
  known_next env n place behind (One to op a) known at = known_one env n behind (One to op a) to ty.Int _ refl known at
  known_next env n place behind (Two to op a c) known at = known_one env n behind (Two to op a c) to ty.Int _ refl known at
  known_next env n place behind (Mad to x a c) known at = known_one env n behind (Mad to x a c) to ty.Int _ refl known at
  known_next env n place behind (Id to op part) known at = known_one env n behind (Id to op part) to ty.Int _ refl known at
  known_next env n place behind (Size to buffer) known at = known_one env n behind (Size to buffer) to ty.Int _ refl known at
  known_next env n place behind (Load to mask t addr) known at = known_behind _ (suc n)
  known_next env n place behind (Store mask t addr x y z w) known at = known_behind _ (suc n)
  known_next env n place behind (Atomic to op t addr value) known at = known_behind _ (suc n)
  known_next env n place behind (Swap to t addr compare value) known at = known_behind _ (suc n)
  known_next env n place behind (Barrier sync scope uav shared) known at =
      known_by env env n behind (Barrier sync scope uav shared) (λ reg before. before) (λ reg u h. absurd h) known at
  known_next env n place behind Nothing known at =
      known_by env env n behind Nothing (λ reg before. before) (λ reg u h. absurd h) known at

  -- the lines from n on are ready, and what they set is known behind them
  pub record Followed (env : Env) (n place : ℕ) (behind : Bool) (lines : List Instr) : Type 0 where
    pub steps : StepsReady s env place lines
    pub known : Known s base b block stands (lines_env s.context env place lines) (n + length lines) (behind_lines behind lines)

  pub follow : (lines : List Instr) (env : Env) (n place : ℕ) (behind : Bool) → drop n block.instrs ≡ lines → Known s base b block stands env n behind → ((slot : Slot) → Among slot (lines_slots behind lines) → HasVariable s slot) → AllUsed s (lines_keys s.program lines) → Followed env n place behind lines
  follow [] env n place behind left known asked used =
      let e : n ≡ n + 0 = omega arith in
      record { steps = tt; known = subst (λ k. Known s base b block stands env k behind) e known }
  follow (line ∷ lines) env n place behind left known asked used =
      let at = drop_first block.instrs n line lines left in
      let front : List Global = line_keys s.program line in
      let back : List Global = lines_keys s.program lines in
      let behind' : Bool = is_access line || behind in
      let step = step_ready s base b block stands env n behind line (record {
        known = known;
        asked = λ slot h. asked slot (among_front slot (line_slots behind line) (lines_slots behind' lines) h);
        at = at;
        used = λ g h d. used g (among_front g front back h) d;
      }) in
      let rest = follow lines (line_env s.context env place line) (suc n) (place + length (line_code s.context env place line)) behind' (drop_next block.instrs n line lines left) (known_next env n place behind line known at) (λ slot h. asked slot (among_back slot (line_slots behind line) (lines_slots behind' lines) h)) (λ g h d. used g (among_back g front back h) d) in
      let e : suc n + length lines ≡ n + length (line ∷ lines) = omega arith in
      record {
        steps = (step, rest.steps);
        known = subst (λ k. Known s base b block stands (lines_env s.context env place (line ∷ lines)) k (behind_lines behind (line ∷ lines))) e rest.known;
      }
