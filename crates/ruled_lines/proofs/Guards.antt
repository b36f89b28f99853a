-- The selection around the event of a part keeps the rules.
use Rattle.std.proofs.Common.{◌≡◌, ℕ, ◌+◌, ◌≤◌, false, List, [], ◌∷◌, ◌++◌, length, refl, sym, ap, subst, arith}
use Rattle.dxil_form.specs.declared.instr.Addr.{Addr}
use Rattle.dxil_form.specs.declared.instr.Target.{Target}
use Rattle.spv_form.specs.declared.module.Inst.{Inst}
use Rattle.decoration_rules.specs.ReadOnly.{IsReadOnly}
use Rattle.spirv_code.specs.declared.key.Sort.TheVariants as sort
use Rattle.spirv_code.specs.declared.key.Storage.{Storage}
use Rattle.spirv_code.specs.declared.key.Global.TheVariants.{Plain as PlainKey, Number, Truth}
use Rattle.spirv_code.specs.declared.event.Event.{Event}
use Rattle.spirv_code.specs.declared.event.Event.TheVariants.{Load, Store, Atomic, Swap}
use Rattle.spirv_code.specs.Plans.{Context, inst, result, bool_id}
use Rattle.spirv_code.specs.Reads.{no_register}
use Rattle.spirv_code.specs.Needed.{operand_keys, two_keys, place_reads, word_pointer, event_keys}
use Rattle.spirv_code.specs.Accesses.{scope_of, chain_code, chain_size, chain_id, event_code, event_size, zeros_code, zeros_block, other_code, other_size, other_at, meet_at, guarded_code, guard_code}
use Rattle.line_runs.specs.Held.{Setting, Has, Uses}
use Rattle.line_runs.proofs.Pieces.{has_front, has_back}
use Rattle.access_runs.specs.Parts.{AddrReady, EventReady, ZerosReady}
use Rattle.access_runs.proofs.Stepping.{has_at}
use Rattle.access_runs.proofs.Missing.{chain_length, event_length, other_length}
use Rattle.ruled_lines.specs.Kept.{AreKept, IsValueAt, AreUsed, StandsAhead}
use Rattle.ruled_lines.proofs.Readings.{block_next, value_later}
use Rattle.ruled_lines.proofs.Going.{kept_at, kept_append, kept_behind}
use Rattle.ruled_lines.proofs.Lines.{back_used}
use Rattle.ruled_lines.proofs.Straight.{cons_kept}
use Rattle.ruled_lines.proofs.Pointers.{storage_of, IsWritable}
use Rattle.ruled_lines.proofs.Chained.{chain_gives}
use Rattle.ruled_lines.proofs.Events.{none_known, load_event, store_event, atomic_event, swap_event}
use Rattle.ruled_lines.proofs.Zeros.{zeros_goes}
use Rattle.ruled_lines.proofs.Jumps.{LabelAt, label_rules, branch_rules, merge_rules, fork_rules}

-- what an event writes may be written
abbrev pub MayDo : Setting → Target → Event → Type 0
MayDo s t (Load to) = Unit {0}
MayDo s t (Store value) = IsWritable s t
MayDo s t (Atomic to op value) = IsWritable s t
MayDo s t (Swap old same compare value) = IsWritable s t

module _ (s : Setting) (low : ℕ) (ahead : StandsAhead s low) (int : Uses s (PlainKey sort.Int)) (bool : Uses s (PlainKey sort.Bool)) where
  abbrev insts : List Inst
  insts = s.made.insts

  abbrev c : Context
  c = s.context

  -- behind a pointer
  event_kept : (st : Storage) (pointed : Uses s (word_pointer st)) (at pointer : ℕ) (t : Target) (event : Event) → low ≤ at → EventReady s t event → AreUsed s (event_keys t event) → (IsWritable s t → IsReadOnly insts pointer → ⊥) → MayDo s t event → IsValueAt insts at pointer (c.key (word_pointer st)) → Has s.made at (event_code c no_register at pointer t event) → AreKept insts at (event_code c no_register at pointer t event)
  event_kept st pointed at pointer t (Load to) behind ready used safe may value has =
      load_event s low ahead int bool st pointed at pointer to behind value has
  event_kept st pointed at pointer t (Store v) behind ready used safe may value has =
      store_event s low ahead int bool st pointed at pointer v behind ready used value (safe may) has
  event_kept st pointed at pointer t (Atomic to op v) behind ready used safe may value has =
      atomic_event s low ahead int bool st pointed at pointer (scope_of t) to op v behind ready.0 ready.1 ready.2 (back_used s (Number (scope_of t) ∷ Number 0 ∷ []) (operand_keys v) used) value (safe may) has
  event_kept st pointed at pointer t (Swap old same compare v) behind ready used safe may value has =
      swap_event s low ahead int bool st pointed at pointer (scope_of t) t old same v compare behind ready.1 ready.0 refl ready.2 ready.3 (back_used s (Number (scope_of t) ∷ Number 0 ∷ Truth false ∷ []) (two_keys v compare) used) value (safe may) has

  -- ---- the other block

  zeros_kept : (at meet : ℕ) (event : Event) → low ≤ at → ZerosReady s event → LabelAt insts meet (result c meet) → Has s.made at (zeros_block (result c at) (result c meet) (zeros_code c event)) → AreKept insts at (zeros_block (result c at) (result c meet) (zeros_code c event))
  zeros_kept at meet event behind ready there has =
      let zeros : List Inst = zeros_code c event in
      let last : List Inst = inst 249 (result c meet ∷ []) ∷ [] in
      let g = zeros_goes s low ahead event no_register (at + 1) (omega (arith, behind)) ready (none_known s (at + 1)) (has_front s.made (at + 1) zeros last has.1) in
      (label_rules insts at (result c at), kept_append insts (at + 1) zeros last g.kept (branch_rules s low ahead (at + 1 + length zeros) meet (result c meet) there, tt))

  -- it keeps the rules, and its label stands there, or where all meet
  record Other (at meet : ℕ) (event : Event) : Type 0 where
    kept : AreKept insts at (other_code c (result c at) (result c meet) event)
    there : (place : ℕ) × LabelAt insts place (result c at)

  other_is : (at meet : ℕ) (event : Event) → low ≤ at → at + other_size c event ≡ meet → ZerosReady s event → LabelAt insts meet (result c meet) → Has s.made at (other_code c (result c at) (result c meet) event) → Other at meet event
  other_is at meet (Load to) behind size ready there has = record { kept = zeros_kept at meet (Load to) behind ready there has; there = (at, has.0) }
  other_is at meet (Store value) behind size ready there has =
      let e : meet ≡ at = omega (arith, size) in
      record { kept = tt; there = (meet, subst (λ n. LabelAt insts meet (result c n)) e there) }
  other_is at meet (Atomic to op value) behind size ready there has =
      record { kept = zeros_kept at meet (Atomic to op value) behind ready there has; there = (at, has.0) }
  other_is at meet (Swap old same compare value) behind size ready there has =
      record { kept = zeros_kept at meet (Swap old same compare value) behind ready there has; there = (at, has.0) }

  -- ---- where the pieces stand

  record Laid (t : Target) (addr : Addr) (part : ℕ) (event : Event) (P : ℕ) : Type 0 where
    chains : Has s.made (P + 3) (chain_code c no_register (P + 3) t addr part)
    events : Has s.made (P + 3 + chain_size c no_register addr part) (event_code c no_register (P + 3 + chain_size c no_register addr part) (chain_id c no_register (P + 3) addr part) t event)
    other : Has s.made (P + other_at c no_register addr part event) (other_code c (result c (P + other_at c no_register addr part event)) (result c (P + meet_at c no_register addr part event)) event)
    meet : LabelAt insts (P + meet_at c no_register addr part event) (result c (P + meet_at c no_register addr part event))

  lay : (t : Target) (addr : Addr) (part : ℕ) (event : Event) (P : ℕ) → Has s.made (P + 3) (guarded_code c no_register (P + 3) t addr part event (result c (P + other_at c no_register addr part event)) (result c (P + meet_at c no_register addr part event))) → Laid t addr part event P
  lay t addr part event P guarded =
      let Q : ℕ = P + 3 in
      let E : ℕ = Q + chain_size c no_register addr part in
      let J : ℕ = Q + event_size c no_register addr part event in
      let O : ℕ = P + other_at c no_register addr part event in
      let M : ℕ = P + meet_at c no_register addr part event in
      let chain : List Inst = chain_code c no_register Q t addr part in
      let events : List Inst = event_code c no_register E (chain_id c no_register Q addr part) t event in
      let others : List Inst = other_code c (result c O) (result c M) event in
      let last : List Inst = inst 248 (result c M ∷ []) ∷ [] in
      let tail2 : List Inst = inst 249 (result c M ∷ []) ∷ (others ++ last) in
      let event_is = event_length c no_register E (chain_id c no_register Q addr part) t event in
      let other_is = other_length c (result c O) (result c M) event in
      let at1 = has_at s.made (Q + length chain) E (events ++ tail2) (ap (λ n. Q + n) (chain_length c no_register Q t addr part)) (has_back s.made Q chain (events ++ tail2) guarded) in
      let j : E + length events ≡ J = omega (arith, event_is) in
      let at2 = has_at s.made (E + length events) J tail2 j (has_back s.made E events tail2 at1) in
      let o : J + 1 ≡ O = omega arith in
      let at3 = has_at s.made (J + 1) O (others ++ last) o at2.1 in
      let m : O + length others ≡ M = omega (arith, other_is) in
      let at4 = has_at s.made (O + length others) M last m (has_back s.made O others last at3) in
      record {
        chains = has_front s.made Q chain (events ++ tail2) guarded;
        events = has_front s.made E events tail2 at1;
        other = has_front s.made O others last at3;
        meet = at4.0;
      }

  -- ---- the selection

  pub guard_kept : (P test : ℕ) (t : Target) (addr : Addr) (part : ℕ) (event : Event) → low ≤ P → AddrReady s t addr part → EventReady s t event → ZerosReady s event → MayDo s t event → AreUsed s (place_reads addr) → Uses s (word_pointer (storage_of addr)) → AreUsed s (event_keys t event) → IsValueAt insts P test (bool_id c) → Has s.made P (guard_code c no_register P test t addr part event) → AreKept insts P (guard_code c no_register P test t addr part event)
  guard_kept P test t addr part event behind ready operands zeros may used pointed used_event value has =
      let Q : ℕ = P + 3 in
      let E : ℕ = Q + chain_size c no_register addr part in
      let J : ℕ = Q + event_size c no_register addr part event in
      let O : ℕ = P + other_at c no_register addr part event in
      let M : ℕ = P + meet_at c no_register addr part event in
      let pointer : ℕ = chain_id c no_register Q addr part in
      let meet : Inst = inst 248 (result c M ∷ []) in
      let leave : Inst = inst 249 (result c M ∷ []) in
      let chain : List Inst = chain_code c no_register Q t addr part in
      let events : List Inst = event_code c no_register E pointer t event in
      let others : List Inst = other_code c (result c O) (result c M) event in
      let tail2 : List Inst = leave ∷ (others ++ (meet ∷ [])) in
      let e3 : P + 1 + 1 + 1 ≡ Q = omega arith in
      let laid = lay t addr part event P (has_at s.made (P + 1 + 1 + 1) Q (chain ++ (events ++ tail2)) e3 has.1.1.1) in
      let behind_q : low ≤ Q = omega (arith, behind) in
      let behind_e : low ≤ E = omega (arith, behind) in
      let behind_o : low ≤ O = omega (arith, behind) in
      let event_is = event_length c no_register E pointer t event in
      let other_long = other_length c (result c O) (result c M) event in
      let size : O + other_size c event ≡ M = omega arith in
      let chained = chain_gives s low ahead int no_register Q t addr part behind_q ready used pointed (none_known s Q) laid.chains in
      let acted = event_kept (storage_of addr) pointed E pointer t event behind_e operands used_event chained.safe may chained.gives.value laid.events in
      let other = other_is O M event behind_o size zeros laid.meet laid.other in
      let k3 = kept_behind insts O M others (meet ∷ []) (omega (arith, other_long)) other.kept (label_rules insts M (result c M), tt) in
      let k2 = cons_kept insts J O leave (others ++ (meet ∷ [])) (omega arith) (branch_rules s low ahead J M (result c M) laid.meet) k3 in
      let k1 = kept_behind insts E J events tail2 (omega (arith, event_is)) acted k2 in
      let k0 = kept_behind insts Q E chain (events ++ tail2) (ap (λ n. Q + n) (chain_length c no_register Q t addr part)) chained.gives.kept k1 in
      let test_there = value_later insts P (P + 1) test (bool_id c) (omega arith) (block_next insts P (inst 247 (result c M ∷ 0 ∷ [])) has.0 refl) value in
      (merge_rules s low ahead P M (result c M) laid.meet, (fork_rules s low ahead (P + 1) test (P + 1 + 1) (result c (P + 2)) other.there.0 (result c O) bool test_there has.1.1.0 other.there.1, (label_rules insts (P + 1 + 1) (result c (P + 2)), kept_at insts (chain ++ (events ++ tail2)) Q (P + 1 + 1 + 1) (sym e3) k0)))
