-- The parts of an access keep the rules.
use Rattle.std.proofs.Common.{◌≡◌, ℕ, ◌+◌, ◌≤◌, Bool, true, false, List, [], ◌∷◌, ◌++◌, length, refl, ap, subst, arith}
use Rattle.std.specs.Prelude.{if◌then◌else◌}
use Rattle.dxil_form.specs.declared.instr.Addr.{Addr}
use Rattle.dxil_form.specs.declared.instr.Addr.TheVariants.{Byte, Element, Row, Index}
use Rattle.dxil_form.specs.declared.instr.Target.{Target}
use Rattle.spv_form.specs.declared.module.Inst.{Inst}
use Rattle.spirv_code.specs.declared.key.Global.{Global}
use Rattle.spirv_code.specs.declared.event.Event.{Event}
use Rattle.spirv_code.specs.Plans.{Context}
use Rattle.spirv_code.specs.Reads.{Env, no_register}
use Rattle.spirv_code.specs.Needed.{int, bool, place_reads, place_numbers, word_pointer, target_key, address_keys, event_keys, place_keys, access_keys, parts_keys}
use Rattle.spirv_code.specs.Accesses.{is_never, test_code, test_size, test_id, guard_code, zeros_code, zeros_env, part_code, part_env}
use Rattle.spirv_code.specs.Lines.{parts_code, parts_env}
use Rattle.line_runs.specs.Held.{Setting, Has, Uses}
use Rattle.line_runs.proofs.Pieces.{has_front, has_back}
use Rattle.access_runs.specs.Parts.{ZerosReady, AccessReady, PartReady}
use Rattle.access_runs.proofs.Missing.{test_length}
use Rattle.block_runs.specs.Inside.{PartsReady}
use Rattle.ruled_lines.specs.Kept.{AreKept, KnownAt, AreUsed, StandsAhead}
use Rattle.ruled_lines.proofs.Going.{Goes, kept_behind}
use Rattle.ruled_lines.proofs.Lines.{front_used, back_used}
use Rattle.ruled_lines.proofs.Tests.{test_gives}
use Rattle.ruled_lines.proofs.Pointers.{storage_of}
use Rattle.ruled_lines.proofs.Events.{none_known}
use Rattle.ruled_lines.proofs.Zeros.{goes_on, stays, zeros_goes}
use Rattle.ruled_lines.proofs.Guards.{MayDo, guard_kept}

-- the pointer of an address is among what it names
pointer_used : (s : Setting) (t : Target) (addr : Addr) (part : ℕ) → AreUsed s (place_numbers s.program t addr part) → Uses s (word_pointer (storage_of addr))
pointer_used s t (Byte at) part used = used (word_pointer (storage_of (Byte at))) (3, omega arith, refl) tt
pointer_used s t (Element index at stride) part used = used (word_pointer (storage_of (Element index at stride))) (5, omega arith, refl) tt
pointer_used s t (Row index) part used = used (word_pointer (storage_of (Row index))) (3, omega arith, refl) tt
pointer_used s t (Index index) part used = used (word_pointer (storage_of (Index index))) (1, omega arith, refl) tt

module _ (s : Setting) (low : ℕ) (ahead : StandsAhead s low) where
  abbrev c : Context
  c = s.context

  abbrev tried : Env → ℕ → Target → Addr → ℕ → Event → List Inst
  tried env place t addr part event =
      test_code c env place t addr part ++ guard_code c no_register (place + test_size c env addr part) (test_id c env place addr part) t addr part event

  -- a part that is in range somewhere
  tried_kept : (env : Env) (place : ℕ) (t : Target) (addr : Addr) (part : ℕ) (event : Event) → low ≤ place → AccessReady s t addr part event → ZerosReady s event → MayDo s t event → Uses s int → Uses s bool → AreUsed s (event_keys t event) → AreUsed s (target_key t ∷ address_keys s.program t addr part) → KnownAt s env place → Has s.made place (tried env place t addr part event) → AreKept s.made.insts place (tried env place t addr part event)
  tried_kept env place t addr part event behind ready zeros may int_used bool_used used_event used known has =
      let P : ℕ = place + test_size c env addr part in
      let test : ℕ = test_id c env place addr part in
      let front : List Inst = test_code c env place t addr part in
      let back : List Inst = guard_code c no_register P test t addr part event in
      let size : place + length front ≡ P = ap (λ n. place + n) (test_length c env place t addr part) in
      let named = back_used s (target_key t ∷ []) (address_keys s.program t addr part) used in
      let reads = front_used s (place_reads addr) (place_numbers s.program t addr part) named in
      let pointed = pointer_used s t addr part (back_used s (place_reads addr) (place_numbers s.program t addr part) named) in
      let g = test_gives s low ahead int_used bool_used env place t addr part behind ready.address reads known (has_front s.made place front back has) in
      let has_guard = subst (λ n. Has s.made n back) size (has_back s.made place front back has) in
      kept_behind s.made.insts place P front back size g.kept (guard_kept s low ahead int_used bool_used P test t addr part event (omega (arith, behind)) ready.address ready.operands zeros may reads pointed used_event g.value has_guard)

  pub part_goes : (env : Env) (place : ℕ) (t : Target) (addr : Addr) (part : ℕ) (event : Event) → low ≤ place → PartReady s t addr part event → MayDo s t event → AreUsed s (access_keys s.program t addr part event) → KnownAt s env place → Has s.made place (part_code c env place t addr part event) → Goes s place (part_code c env place t addr part event) (part_env c env addr part event)
  part_goes env place t addr part event behind ready may used known has =
      by_test (is_never addr part) ready.access (back_used s (event_keys t event) (place_keys s.program t addr part) behind_types) has
    where
      behind_types : AreUsed s (event_keys t event ++ place_keys s.program t addr part)
      behind_types = back_used s (int ∷ bool ∷ []) (event_keys t event ++ place_keys s.program t addr part) used

      by_test : (x : Bool) → (x ≡ false → AccessReady s t addr part event) → AreUsed s (if x then [] else target_key t ∷ address_keys s.program t addr part) → Has s.made place (if x then zeros_code c event else tried env place t addr part event) → Goes s place (if x then zeros_code c event else tried env place t addr part event) (if x then zeros_env c event env else no_register)
      by_test true access named has = zeros_goes s low ahead event env place behind ready.zeros known has
      by_test false access named has =
          record {
            kept = tried_kept env place t addr part event behind (access refl) ready.zeros may (used int (0, omega arith, refl) tt) (used bool (1, omega arith, refl) tt) (front_used s (event_keys t event) (place_keys s.program t addr part) behind_types) named known has;
            known = none_known s (place + length (tried env place t addr part event));
          }

  pub parts_go : (t : Target) (addr : Addr) (event_of : ℕ → Event) (parts : List ℕ) (env : Env) (place : ℕ) → low ≤ place → PartsReady s t addr event_of parts → ((part : ℕ) → MayDo s t (event_of part)) → AreUsed s (parts_keys s.program t addr event_of parts) → KnownAt s env place → Has s.made place (parts_code c env place t addr event_of parts) → Goes s place (parts_code c env place t addr event_of parts) (parts_env c env addr event_of parts)
  parts_go t addr event_of [] env place behind ready may used known has = stays s place env known
  parts_go t addr event_of (part ∷ parts) env place behind ready may used known has =
      let event : Event = event_of part in
      let env' : Env = part_env c env addr part event in
      let front : List Inst = part_code c env place t addr part event in
      let q : ℕ = place + length front in
      let back : List Inst = parts_code c env' q t addr event_of parts in
      let keys : List Global = access_keys s.program t addr part event in
      let more : List Global = parts_keys s.program t addr event_of parts in
      let one = part_goes env place t addr part event behind ready.0 (may part) (front_used s keys more used) known (has_front s.made place front back has) in
      goes_on s place front back (parts_env c env' addr event_of parts) one.kept (parts_go t addr event_of parts env' q (omega (arith, behind)) ready.1 may (back_used s keys more used) one.known (has_back s.made place front back has))
