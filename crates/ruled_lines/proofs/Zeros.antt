-- The code of a part that is out of range keeps the rules: zeros are kept.
use Rattle.std.proofs.Common.{◌≡◌, ℕ, ◌+◌, ◌≤◌, false, List, [], ◌++◌, length, length-append, subst, arith}
use Rattle.dxil_form.specs.declared.value.Ty.{Ty}
use Rattle.dxil_form.specs.declared.value.Ty.TheVariants as ty
use Rattle.dxil_form.specs.declared.value.Reg.{Reg}
use Rattle.spv_form.specs.declared.module.Inst.{Inst}
use Rattle.spirv_code.specs.declared.event.Event.{Event}
use Rattle.spirv_code.specs.declared.event.Event.TheVariants.{Load, Store, Atomic, Swap}
use Rattle.spirv_code.specs.Plans.{Context, type_id, zero_id, kept}
use Rattle.spirv_code.specs.Reads.{Env, with_id, keep_code}
use Rattle.spirv_code.specs.Accesses.{zeros_code, zeros_env}
use Rattle.line_runs.specs.Held.{Setting, Has}
use Rattle.line_runs.specs.Ready.{IsSet}
use Rattle.line_runs.proofs.Pieces.{has_front, has_back}
use Rattle.access_runs.specs.Parts.{ZerosReady}
use Rattle.ruled_lines.specs.Kept.{AreKept, IsValueAt, KnownAt, StandsAhead}
use Rattle.ruled_lines.proofs.Facts.{number_value, truth_value}
use Rattle.ruled_lines.proofs.Readings.{value_later, known_later}
use Rattle.ruled_lines.proofs.Stores.{keep_kept}
use Rattle.ruled_lines.proofs.Going.{Goes, kept_append, with_known, stored_block}

-- code behind code that keeps the rules
pub goes_on : (s : Setting) (place : ℕ) (a b : List Inst) (env : Env) → AreKept s.made.insts place a → Goes s (place + length a) b env → Goes s place (a ++ b) env
goes_on s place a b env h g =
    let long = length-append a b in
    let e : place + length a + length b ≡ place + length (a ++ b) = omega (arith, long) in
    record { kept = kept_append s.made.insts place a b h g.kept; known = subst (KnownAt s env) e g.known }

-- no code
pub stays : (s : Setting) (place : ℕ) (env : Env) → KnownAt s env place → Goes s place [] env
stays s place env known =
    let e : place ≡ place + 0 = omega arith in
    record { kept = tt; known = subst (KnownAt s env) e known }

module _ (s : Setting) (low : ℕ) (ahead : StandsAhead s low) where
  abbrev c : Context
  c = s.context

  -- a register takes a value
  pub keeps : (env : Env) (at id : ℕ) (to : Reg) (t : Ty) → low ≤ at → IsSet s to t → IsValueAt s.made.insts at id (type_id c t) → KnownAt s env at → Has s.made at (keep_code c to t id) → Goes s at (keep_code c to t id) (with_id to id env)
  keeps env at id to t behind set value known has =
      let end : ℕ = at + length (keep_code c to t id) in
      let more : at ≤ end = omega arith in
      let one = stored_block s low ahead at id (c.slot (kept to t)) has in
      record {
        kept = keep_kept s low ahead at id to t value behind;
        known = with_known s env end id to t (known_later s env at end more one known) set (value_later s.made.insts at end id (type_id c t) more one value);
      }

  pub zeros_goes : (event : Event) (env : Env) (at : ℕ) → low ≤ at → ZerosReady s event → KnownAt s env at → Has s.made at (zeros_code c event) → Goes s at (zeros_code c event) (zeros_env c event env)
  zeros_goes (Load to) env at behind ready known has =
      keeps env at (zero_id c ty.Int) to ty.Int behind ready.0 (number_value s low ahead at 0 ready.1 behind) known has
  zeros_goes (Store value) env at behind ready known has = stays s at env known
  zeros_goes (Atomic to op value) env at behind ready known has =
      keeps env at (zero_id c ty.Int) to ty.Int behind ready.0 (number_value s low ahead at 0 ready.1 behind) known has
  zeros_goes (Swap old same compare value) env at behind ready known has =
      let a : List Inst = keep_code c old ty.Int (zero_id c ty.Int) in
      let b : List Inst = keep_code c same ty.Bool (zero_id c ty.Bool) in
      let q : ℕ = at + length a in
      let later : low ≤ q = omega (arith, behind) in
      let g = keeps env at (zero_id c ty.Int) old ty.Int behind ready.0 (number_value s low ahead at 0 ready.2 behind) known (has_front s.made at a b has) in
      goes_on s at a b (with_id same (zero_id c ty.Bool) (with_id old (zero_id c ty.Int) env)) g.kept (keeps (with_id old (zero_id c ty.Int) env) q (zero_id c ty.Bool) same ty.Bool later ready.1 (truth_value s low ahead q false ready.3 later) g.known (has_back s.made at a b has))
