-- What the code of the lines of a block does: what each line asks, in their order.
use Rattle.std.proofs.Common.{◌≡◌, ℕ, ◌+◌, ◌≤◌, Bool, true, false, List, [], ◌∷◌, ◌++◌, length, Option, refl, ap, ◌∙◌, arith, append-nil}
use Rattle.std.specs.List.{flat_map}
use Rattle.dxil_form.specs.declared.value.Ty.{Ty}
use Rattle.dxil_form.specs.declared.value.Ty.TheVariants as ty
use Rattle.dxil_form.specs.declared.value.Reg.{Reg}
use Rattle.dxil_form.specs.declared.value.Operand.{Operand}
use Rattle.dxil_form.specs.declared.instr.BinOp.{BinOp}
use Rattle.dxil_form.specs.declared.instr.BinOp.TheVariants as bin
use Rattle.dxil_form.specs.declared.instr.CmpOp.{CmpOp}
use Rattle.dxil_form.specs.declared.instr.CmpOp.TheVariants as cmp
use Rattle.dxil_form.specs.declared.instr.CastOp.{CastOp}
use Rattle.dxil_form.specs.declared.instr.CastOp.TheVariants as cast
use Rattle.dxil_form.specs.declared.instr.OneOp.{OneOp}
use Rattle.dxil_form.specs.declared.instr.OneOp.TheVariants as one
use Rattle.dxil_form.specs.declared.instr.TwoOp.{TwoOp}
use Rattle.dxil_form.specs.declared.instr.TwoOp.TheVariants as two
use Rattle.dxil_form.specs.declared.instr.IdOp.{IdOp}
use Rattle.dxil_form.specs.declared.instr.IdOp.TheVariants as thread
use Rattle.dxil_form.specs.declared.instr.Scope.{Scope}
use Rattle.dxil_form.specs.declared.instr.Scope.TheVariants as scope
use Rattle.dxil_form.specs.declared.instr.Instr.{Instr}
use Rattle.dxil_form.specs.declared.instr.Instr.TheVariants.{Bin, Cmp, Cast, Select, Copy, One, Two, Mad, Id, Size, Load, Store, Atomic, Swap, Barrier, Nothing}
use Rattle.dxil_form.specs.Registers.{parts_of}
use Rattle.spv_form.specs.declared.module.Module.{Module}
use Rattle.spirv_meaning.specs.Target.{Value, fixed}
use Rattle.spirv_code.specs.declared.key.BuiltIn.{BuiltIn}
use Rattle.spirv_code.specs.declared.key.Global.TheVariants as global
use Rattle.spirv_code.specs.declared.event.Event.TheVariants as event
use Rattle.spirv_code.specs.Plans.{result, number, type_id, bool_id}
use Rattle.spirv_code.specs.Reads.{Env, read_size, read_code, read_id, two_size, two_code, second_id, three_size, three_code, keep_code}
use Rattle.spirv_code.specs.Lines.{bin_opcode, cmp_opcode, one_opcode, two_opcode, value_code, cast_tail, component_code, id_code, built_in_of, barrier_scope, barrier_semantics as semantics_number, barrier_code, load_event, store_event, swap_event, line_code, line_env, lines_code}
use Rattle.line_runs.specs.Held.{Setting, Uses}
use Rattle.block_runs.specs.Inside.{BarrierReady, StepReady, StepsReady}
use Rattle.act_form.specs.Acts.{Act, Syncs, Orders, memory_scope, barrier_semantics, word, act_of, bin_acts, one_acts, line_acts}
use Rattle.act_form.proofs.Pieces.{Knows, is_silent, acts, joined, behind, on_silent, on_load, read_none, two_none, three_none, keep_none}
use Rattle.act_form.proofs.Accesses.{part_gives, parts_gives}

-- ---- opcodes of values

bin_is : (m : Module) (op : BinOp) (t : Ty) (operands : List ℕ) → act_of m (bin_opcode op t) operands ≡ bin_acts op
bin_is m bin.Add t operands = refl
bin_is m bin.Sub t operands = refl
bin_is m bin.Mul t operands = refl
bin_is m bin.UDiv t operands = refl
bin_is m bin.SDiv t operands = refl
bin_is m bin.URem t operands = refl
bin_is m bin.SRem t operands = refl
bin_is m bin.Shl t operands = refl
bin_is m bin.LShr t operands = refl
bin_is m bin.AShr t operands = refl
bin_is m bin.And ty.Int operands = refl
bin_is m bin.And ty.Bool operands = refl
bin_is m bin.Or ty.Int operands = refl
bin_is m bin.Or ty.Bool operands = refl
bin_is m bin.Xor ty.Int operands = refl
bin_is m bin.Xor ty.Bool operands = refl

cmp_silent : (op : CmpOp) (t : Ty) → is_silent (cmp_opcode op t) ≡ true
cmp_silent cmp.Eq ty.Int = refl
cmp_silent cmp.Eq ty.Bool = refl
cmp_silent cmp.Ne ty.Int = refl
cmp_silent cmp.Ne ty.Bool = refl
cmp_silent cmp.UGt t = refl
cmp_silent cmp.UGe t = refl
cmp_silent cmp.ULt t = refl
cmp_silent cmp.ULe t = refl
cmp_silent cmp.SGt t = refl
cmp_silent cmp.SGe t = refl
cmp_silent cmp.SLt t = refl
cmp_silent cmp.SLe t = refl

one_is : (m : Module) (op : OneOp) (operands : List ℕ) → act_of m (one_opcode op) operands ≡ one_acts op
one_is m one.Bfrev operands = refl
one_is m one.Countbits operands = refl

two_silent : (op : TwoOp) → is_silent (two_opcode op) ≡ true
two_silent two.IMax = refl
two_silent two.IMin = refl
two_silent two.UMax = refl
two_silent two.UMin = refl

-- ---- the words of a barrier

scope_same : (x : Scope) → barrier_scope x ≡ memory_scope x
scope_same scope.Device = refl
scope_same scope.Group = refl
scope_same scope.Nobody = refl

semantics_same : (uav shared : Bool) → semantics_number uav shared ≡ barrier_semantics uav shared
semantics_same true true = refl
semantics_same true false = refl
semantics_same false true = refl
semantics_same false false = refl

module _ (s : Setting) (low : ℕ) (knows : Knows s low) where
  -- ---- lines without an event

  value_none : (place : ℕ) (to : Reg) (t : Ty) (opcode : ℕ) (operands : List ℕ) → is_silent opcode ≡ true → acts s (value_code s.context place to t opcode operands) ≡ []
  value_none place to t opcode operands silent =
      on_silent s opcode (type_id s.context t ∷ result s.context place ∷ operands) (keep_code s.context to t (result s.context place)) silent ∙ keep_none s low knows to t (result s.context place)

  cmp_none : (env : Env) (place : ℕ) (to : Reg) (opcode : ℕ) (a b : Operand) → is_silent opcode ≡ true → acts s (two_code s.context env place a b ++ value_code s.context (place + two_size s.context env a b) to ty.Bool opcode (read_id s.context env place a ∷ second_id s.context env place a b ∷ [])) ≡ []
  cmp_none env place to opcode a b silent =
      behind s (two_code s.context env place a b) _ [] (two_none s low knows env place a b) (value_none (place + two_size s.context env a b) to ty.Bool opcode (read_id s.context env place a ∷ second_id s.context env place a b ∷ []) silent)

  -- an operation, which does this
  value_gives : (place : ℕ) (to : Reg) (t : Ty) (opcode : ℕ) (operands : List ℕ) (x : List Act) → ((all : List ℕ) → act_of s.made opcode all ≡ x) → acts s (value_code s.context place to t opcode operands) ≡ x
  value_gives place to t opcode operands x is =
      ap (λ xs. xs ++ acts s (keep_code s.context to t (result s.context place))) (is (type_id s.context t ∷ result s.context place ∷ operands)) ∙ ap (λ ys. x ++ ys) (keep_none s low knows to t (result s.context place)) ∙ append-nil x

  cast_none : (place : ℕ) (to : Reg) (op : CastOp) (id : ℕ) → acts s (cast_tail s.context place to op id) ≡ []
  cast_none place to cast.Trunc id = keep_none s low knows to ty.Bool (result s.context (place + 1))
  cast_none place to cast.Zext id = keep_none s low knows to ty.Int (result s.context place)
  cast_none place to cast.Sext id = keep_none s low knows to ty.Int (result s.context place)

  component_none : (place : ℕ) (to : Reg) (b : BuiltIn) (part : ℕ) → Uses s (global.Input b) → acts s (component_code s.context place to b part) ≡ []
  component_none place to b part uses = on_load s _ (keep_code s.context to ty.Int (result s.context (place + 1))) (knows.inputs b uses) ∙ keep_none s low knows to ty.Int (result s.context (place + 1))

  id_none : (place : ℕ) (to : Reg) (op : IdOp) (part : ℕ) → Uses s (global.Input (built_in_of op)) → acts s (id_code s.context place to op part) ≡ []
  id_none place to thread.Thread part uses = component_none place to _ part uses
  id_none place to thread.Group part uses = component_none place to _ part uses
  id_none place to thread.InGroup part uses = component_none place to _ part uses
  id_none place to thread.Flat part uses = on_load s _ (keep_code s.context to ty.Int (result s.context place)) (knows.inputs _ uses) ∙ keep_none s low knows to ty.Int (result s.context place)

  -- ---- barriers

  abbrev of_number : ℕ → Option Value
  of_number n = fixed s.made (number s.context n)

  barrier_gives : (sync : Bool) (x : Scope) (uav shared : Bool) → BarrierReady s sync x uav shared → acts s (barrier_code s.context sync x uav shared) ≡ line_acts (Barrier sync x uav shared)
  barrier_gives true x uav shared ready =
      ap (λ o. Syncs o (of_number (barrier_scope x)) (of_number (semantics_number uav shared)) ∷ []) (knows.numbers 2 (ready.group refl)) ∙ ap (λ o. Syncs (word 2) o (of_number (semantics_number uav shared)) ∷ []) (knows.numbers (barrier_scope x) ready.scope_uses ∙ ap word (scope_same x)) ∙ ap (λ o. Syncs (word 2) (word (memory_scope x)) o ∷ []) (knows.numbers (semantics_number uav shared) ready.semantics ∙ ap word (semantics_same uav shared))
  barrier_gives false x uav shared ready =
      ap (λ o. Orders o (of_number (semantics_number uav shared)) ∷ []) (knows.numbers (barrier_scope x) ready.scope_uses ∙ ap word (scope_same x)) ∙ ap (λ o. Orders (word (memory_scope x)) o ∷ []) (knows.numbers (semantics_number uav shared) ready.semantics ∙ ap word (semantics_same uav shared))

  -- ---- lines

  line_gives : (line : Instr) (env : Env) (place : ℕ) → low ≤ place → StepReady s env line → acts s (line_code s.context env place line) ≡ line_acts line
  line_gives (Bin to op t a b) env place there ready =
      behind s (two_code s.context env place a b) _ (bin_acts op) (two_none s low knows env place a b) (value_gives (place + two_size s.context env a b) to t (bin_opcode op t) (read_id s.context env place a ∷ second_id s.context env place a b ∷ []) (bin_acts op) (bin_is s.made op t))
  line_gives (Cmp to op t a b) env place there ready = cmp_none env place to (cmp_opcode op t) a b (cmp_silent op t)
  line_gives (Cast to op a) env place there ready =
      behind s (read_code s.context env place a) _ [] (read_none s low knows env place a) (cast_none (place + read_size s.context env a) to op (read_id s.context env place a))
  line_gives (Select to t x a b) env place there ready =
      behind s (three_code s.context env place x a b) _ [] (three_none s low knows env place x a b) (keep_none s low knows to t (result s.context (place + three_size s.context env x a b)))
  line_gives (Copy to t a) env place there ready =
      behind s (read_code s.context env place a) _ [] (read_none s low knows env place a) (keep_none s low knows to t (read_id s.context env place a))
  line_gives (One to op a) env place there ready =
      behind s (read_code s.context env place a) _ (one_acts op) (read_none s low knows env place a) (value_gives (place + read_size s.context env a) to ty.Int (one_opcode op) (read_id s.context env place a ∷ []) (one_acts op) (one_is s.made op))
  line_gives (Two to op a b) env place there ready =
      behind s (two_code s.context env place a b) _ [] (two_none s low knows env place a b) (on_silent s (two_opcode op) compared (keep_code s.context to ty.Int (result s.context (place + (two_size s.context env a b + 1)))) (two_silent op) ∙ keep_none s low knows to ty.Int (result s.context (place + (two_size s.context env a b + 1))))
    where
      compared : List ℕ
      compared =
          bool_id s.context ∷ result s.context (place + two_size s.context env a b) ∷ read_id s.context env place a ∷ second_id s.context env place a b ∷ []
  line_gives (Mad to x a b) env place there ready =
      behind s (three_code s.context env place x a b) _ [] (three_none s low knows env place x a b) (keep_none s low knows to ty.Int (result s.context (place + (three_size s.context env x a b + 1))))
  line_gives (Id to op part) env place there ready = id_none place to op part ready.0
  line_gives (Size to buffer) env place there ready = keep_none s low knows to ty.Int (result s.context place)
  line_gives (Load to mask t addr) env place there ready = parts_gives s low knows t addr (load_event to) (parts_of mask) env place there ready.0
  line_gives (Store mask t addr x y z w) env place there ready =
      parts_gives s low knows t addr (store_event x y z w) (parts_of mask) env place there ready.0
  line_gives (Atomic to op t addr value) env place there ready =
      part_gives s low knows env place t addr 0 (event.Atomic to op value) there ready
  line_gives (Swap to t addr compare value) env place there ready =
      part_gives s low knows env place t addr 0 (swap_event to compare value) there ready
  line_gives (Barrier sync x uav shared) env place there ready = barrier_gives sync x uav shared ready
  line_gives Nothing env place there ready = refl

  pub lines_give : (lines : List Instr) (env : Env) (place : ℕ) → low ≤ place → StepsReady s env place lines → acts s (lines_code s.context env place lines) ≡ flat_map line_acts lines
  lines_give [] env place there ready = refl
  lines_give (line ∷ lines) env place there ready =
      let front = line_code s.context env place line in
      joined s front (lines_code s.context (line_env s.context env place line) (place + length front) lines) (line_acts line) _ (line_gives line env place there ready.0) (lines_give lines (line_env s.context env place line) (place + length front) (omega (arith, there)) ready.1)
