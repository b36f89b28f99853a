-- The lines of a block keep the rules.
use Rattle.std.proofs.Common.{◌≡◌, ℕ, suc, ◌+◌, ◌≤◌, Bool, true, false, List, [], ◌∷◌, length, Some, refl, arith}
use Rattle.std.specs.Prelude.{slice_get}
use Rattle.dxil_form.specs.declared.instr.Addr.{Addr}
use Rattle.dxil_form.specs.declared.instr.Addr.TheVariants.{Byte, Element, Row, Index}
use Rattle.dxil_form.specs.declared.instr.Scope.{Scope}
use Rattle.dxil_form.specs.declared.instr.Target.{Target}
use Rattle.dxil_form.specs.declared.instr.Target.TheVariants as target
use Rattle.dxil_form.specs.declared.instr.Instr.{Instr}
use Rattle.dxil_form.specs.declared.instr.Instr.TheVariants.{Bin, Cmp, Cast, Select, Copy, One, Two, Mad, Id, Size, Load, Store, Atomic, Swap, Barrier, Nothing}
use Rattle.dxil_form.specs.Registers.{parts_of}
use Rattle.dxil_form.specs.Sound.{Writes, InstrFits, AccessFits}
use Rattle.spv_form.specs.declared.module.Inst.{Inst}
use Rattle.spirv_code.specs.declared.key.Sort.TheVariants as sort
use Rattle.spirv_code.specs.declared.key.Global.{Global}
use Rattle.spirv_code.specs.declared.key.Global.TheVariants.{Plain as PlainKey, Input}
use Rattle.spirv_code.specs.declared.event.Event.TheVariants as event
use Rattle.spirv_code.specs.Plans.{Context, inst, number}
use Rattle.spirv_code.specs.Reads.{Env}
use Rattle.spirv_code.specs.Needed.{line_keys, lines_keys}
use Rattle.spirv_code.specs.Lines.{built_in_of, barrier_scope, barrier_semantics, barrier_code, load_event, store_event, swap_event, line_code, line_env, lines_code, lines_env}
use Rattle.line_runs.specs.Held.{Setting, Has}
use Rattle.line_runs.proofs.Pieces.{has_front, has_back}
use Rattle.block_runs.specs.Inside.{BarrierReady, StepReady, StepsReady}
use Rattle.ruled_lines.specs.Kept.{KnownAt, AreUsed, StandsAhead}
use Rattle.ruled_lines.specs.Laws.{LinesKeepRules}
use Rattle.ruled_lines.proofs.Readings.{block_next, known_later}
use Rattle.ruled_lines.proofs.Going.{Goes}
use Rattle.ruled_lines.proofs.Lines.{front_used, back_used, bin_goes, cmp_goes}
use Rattle.ruled_lines.proofs.Choices.{one_goes, select_goes}
use Rattle.ruled_lines.proofs.Longer.{cast_goes, extreme_goes, mad_goes}
use Rattle.ruled_lines.proofs.Named.{barrier_kept}
use Rattle.ruled_lines.proofs.Pointers.{IsWritable}
use Rattle.ruled_lines.proofs.Zeros.{goes_on, stays}
use Rattle.ruled_lines.proofs.Inputs.{copy_goes, size_goes, id_goes}
use Rattle.ruled_lines.proofs.Parts.{part_goes, parts_go}

-- a target that is written may be
writes_fit : (s : Setting) (t : Target) (addr : Addr) → AccessFits s.program Writes t addr → IsWritable s t
writes_fit s (target.Buffer r) (Byte at) fit = (fit.0, fit.1, fit.2.1)
writes_fit s (target.Buffer r) (Element index at stride) fit = (fit.0, fit.1, fit.2.1)
writes_fit s (target.Buffer r) (Row index) fit = absurd fit.2
writes_fit s (target.Buffer r) (Index index) fit = absurd fit.2
writes_fit s (target.Shared a) addr fit = tt

module _ (s : Setting) (low : ℕ) (ahead : StandsAhead s low) where
  abbrev c : Context
  c = s.context

  barrier_goes : (env : Env) (place : ℕ) (sync : Bool) (x : Scope) (uav shared : Bool) → low ≤ place → BarrierReady s sync x uav shared → KnownAt s env place → Has s.made place (barrier_code c sync x uav shared) → Goes s place (barrier_code c sync x uav shared) env
  barrier_goes env place true x uav shared behind ready known has =
      let y : Inst = inst 224 (number c 2 ∷ number c (barrier_scope x) ∷ number c (barrier_semantics uav shared) ∷ []) in
      record { kept = barrier_kept s low ahead place true x uav shared behind ready; known = known_later s env place (place + 1) (omega arith) (block_next s.made.insts place y has.0 refl) known }
  barrier_goes env place false x uav shared behind ready known has =
      let y : Inst = inst 225 (number c (barrier_scope x) ∷ number c (barrier_semantics uav shared) ∷ []) in
      record { kept = barrier_kept s low ahead place false x uav shared behind ready; known = known_later s env place (place + 1) (omega arith) (block_next s.made.insts place y has.0 refl) known }

  line_goes : (env : Env) (place : ℕ) (line : Instr) → low ≤ place → InstrFits s.program line → AreUsed s (line_keys s.program line) → StepReady s env line → KnownAt s env place → Has s.made place (line_code c env place line) → Goes s place (line_code c env place line) (line_env c env place line)
  line_goes env place (Bin to op t a b) behind fit used ready known has =
      bin_goes s low ahead env place to op t a b behind fit used ready.0 ready.1 ready.2 known has
  line_goes env place (Cmp to op t a b) behind fit used ready known has =
      cmp_goes s low ahead env place to op t a b behind fit used ready.0 ready.1 ready.2 known has
  line_goes env place (Cast to op a) behind fit used ready known has =
      cast_goes s low ahead env place to op a behind used ready.0 ready.1 ready.2 known has
  line_goes env place (Select to t x a b) behind fit used ready known has =
      select_goes s low ahead env place to t x a b behind used ready.0 ready.1 ready.2 ready.3 known has
  line_goes env place (Copy to t a) behind fit used ready known has =
      copy_goes s low ahead env place to t a behind used ready.0 ready.1 known has
  line_goes env place (One to op a) behind fit used ready known has =
      one_goes s low ahead env place to op a behind used ready.0 ready.1 known has
  line_goes env place (Two to op a b) behind fit used ready known has =
      extreme_goes s low ahead env place to op a b behind used ready.0 ready.1 ready.2 known has
  line_goes env place (Mad to x a b) behind fit used ready known has =
      mad_goes s low ahead env place to x a b behind used ready.0 ready.1 ready.2 ready.3 known has
  line_goes env place (Id to op part) behind fit used ready known has =
      id_goes s low ahead env place to op part behind fit (used (PlainKey sort.Int) (0, omega arith, refl) tt) (used (Input (built_in_of op)) (1, omega arith, refl) tt) ready.2 known has
  line_goes env place (Size to r) behind fit used ready known has =
      size_goes s low ahead env place r to fit.0 behind fit.1 fit.2 ready.0 (used (PlainKey sort.Int) (0, omega arith, refl) tt) ready.2 known has
  line_goes env place (Load to mask t addr) behind fit used ready known has =
      parts_go s low ahead t addr (load_event to) (parts_of mask) env place behind ready.0 (λ part. tt) used known has
  line_goes env place (Store mask t addr x y z w) behind fit used ready known has =
      parts_go s low ahead t addr (store_event x y z w) (parts_of mask) env place behind ready.0 (λ part. writes_fit s t addr fit.2) used known has
  line_goes env place (Atomic to op t addr value) behind fit used ready known has =
      part_goes s low ahead env place t addr 0 (event.Atomic to op value) behind ready (writes_fit s t addr fit) used known has
  line_goes env place (Swap to t addr compare value) behind fit used ready known has =
      part_goes s low ahead env place t addr 0 (swap_event to compare value) behind ready (writes_fit s t addr fit) used known has
  line_goes env place (Barrier sync x uav shared) behind fit used ready known has =
      barrier_goes env place sync x uav shared behind ready known has
  line_goes env place Nothing behind fit used ready known has = stays s place env known

  pub lines_go : (lines : List Instr) (env : Env) (place : ℕ) → low ≤ place → AreUsed s (lines_keys s.program lines) → ((n : ℕ) (line : Instr) → slice_get lines n ≡ Some line → InstrFits s.program line) → StepsReady s env place lines → Has s.made place (lines_code c env place lines) → KnownAt s env place → Goes s place (lines_code c env place lines) (lines_env c env place lines)
  lines_go [] env place behind used fits ready has known = stays s place env known
  lines_go (line ∷ lines) env place behind used fits ready has known =
      let front : List Inst = line_code c env place line in
      let q : ℕ = place + length front in
      let env' : Env = line_env c env place line in
      let back : List Inst = lines_code c env' q lines in
      let keys : List Global = line_keys s.program line in
      let more : List Global = lines_keys s.program lines in
      let one = line_goes env place line behind (fits 0 line refl) (front_used s keys more used) ready.0 known (has_front s.made place front back has) in
      goes_on s place front back (lines_env c env' q lines) one.kept (lines_go lines env' q (omega (arith, behind)) (back_used s keys more used) (λ n. fits (suc n)) ready.1 (has_back s.made place front back has) one.known)

pub lines_keep_rules : LinesKeepRules
lines_keep_rules s low ahead lines env place behind used fits ready has known =
    let g = lines_go s low ahead lines env place behind used fits ready has known in
    (g.kept, g.known)
