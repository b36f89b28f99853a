-- The code of a part from its test to the label where both ways meet.
use Rattle.std.proofs.Common.{◌≡◌, ℕ, ◌+◌, ◌*◌, ◌/◌, ◌≤◌, Bool, true, false, List, Some, None, refl, sym, ap, ◌∙◌, subst, arith}
use Rattle.std.specs.Prelude.{nat_lt, nat_le, ◌&&◌}
use Rattle.std.proofs.lemmas.Bool.Decides.{nat_tests}
use Rattle.dxil_form.specs.declared.instr.Addr.{Addr}
use Rattle.dxil_form.specs.declared.instr.Addr.TheVariants.{Byte, Element, Row, Index}
use Rattle.dxil_form.specs.declared.instr.Target.{Target}
use Rattle.dxil_form.specs.declared.instr.Target.TheVariants as target
use Rattle.dxil_form.specs.Sound.{Sound}
use Rattle.spv_form.specs.declared.module.Inst.{Inst}
use Rattle.dxil_meaning.specs.Fits.{Fits}
use Rattle.dxil_meaning.specs.Launches.{Ask, Acts}
use Rattle.dxil_meaning.specs.Launches as launch
use Rattle.dxil_meaning.specs.Source.{Registers, Words, address, number_of, words_of, if_in, place_of}
use Rattle.spirv_meaning.specs.Target.{State}
use Rattle.spirv_code.specs.declared.event.Event.{Event}
use Rattle.spirv_code.specs.declared.event.Event.TheVariants.{Load, Store, Atomic, Swap}
use Rattle.spirv_code.specs.Reads.{Env, no_register}
use Rattle.spirv_code.specs.Accesses.{is_never, test_code, event_code}
use Rattle.line_runs.specs.Held.{Setting, Held, Has}
use Rattle.line_runs.specs.Declared.{Declares}
use Rattle.line_runs.proofs.Tests.{none_some, some_inj, true_false}
use Rattle.line_runs.proofs.Whole.{map_some, both_some}
use Rattle.access_runs.specs.Parts.{AddrReady, EventReady, ZerosReady, LimitIs, asked}
use Rattle.access_runs.proofs.Addressing.{element_at}
use Rattle.access_runs.proofs.Locating.{Located, byte_located, element_located, row_located, index_located}
use Rattle.access_runs.proofs.Events.{Points, Asks, load_asks, store_asks, atomic_asks, swap_asks}

-- ---- whether the word is in range

pub if_in_none : (b : Bool) (w : ℕ) → if_in b w ≡ None → b ≡ false
if_in_none false w e = refl
if_in_none true w e = absurd (none_some (sym e))

pub if_in_some : (b : Bool) (w v : ℕ) → if_in b w ≡ Some v → (b ≡ true) × (w ≡ v)
if_in_some true w v e = (refl, some_inj e)
if_in_some false w v e = absurd (none_some e)

-- a part for which an element has no room is out of range
pub never_none : (s : Setting) (regs : Registers) (t : Target) (addr : Addr) (part : ℕ) (words : Words) → address s.program s.launch regs t addr ≡ Some words → is_never addr part ≡ true → words part ≡ None
never_none s regs t (Byte at) part words e never = absurd (true_false (sym never))
never_none s regs t (Row index) part words e never = absurd (true_false (sym never))
never_none s regs t (Index index) part words e never = absurd (true_false (sym never))
never_none s regs t (Element index at stride) part words e never =
    let a = element_at s.program s.launch regs t index at stride words e in
    let none : nat_le (a.n + 4 * part + 4) stride ≡ false = no_room a.n stride part never in
    a.words_are part ∙ ap (λ b. if_in (b && nat_lt a.k (words_of s.program s.launch t / (stride / 4))) ((a.k * stride + a.n) / 4 + part)) none
  where
    no_room : (n stride part : ℕ) → nat_lt stride (4 + 4 * part) ≡ true → nat_le (n + 4 * part + 4) stride ≡ false
    no_room n stride part e = grind (arith, nat_tests)

pub locate : (s : Setting) → Declares s → Sound s.program → Fits s.program s.launch → (i : ℕ) (t : Target) (addr : Addr) (part : ℕ) (env : Env) (place : ℕ) (regs : Registers) (words : Words) (state : State) → part ≤ 3 → LimitIs s t → AddrReady s t addr part → is_never addr part ≡ false → address s.program s.launch regs t addr ≡ Some words → Held s env place regs state → Has s.made place (test_code s.context env place t addr part) → Located s i env place regs state t addr part words
locate s d sound fits i (target.Buffer r) (Byte at) part env place regs words state few limit ready room e h has =
    byte_located s d fits i env place regs state r at part words few ready e h has
locate s d sound fits i (target.Buffer r) (Element index at stride) part env place regs words state few limit ready room e h has =
    element_located s d sound fits i env place regs state r index at stride part words few room ready e h has
locate s d sound fits i (target.Buffer r) (Row index) part env place regs words state few limit ready room e h has =
    row_located s d fits i env place regs state r index part words few limit ready e h has
locate s d sound fits i (target.Shared a) (Index index) part env place regs words state few limit ready room e h has =
    index_located s d i env place regs state a index part words limit ready e h has
locate s d sound fits i (target.Buffer r) (Index index) part env place regs words state few limit ready room e h has = absurd ready
locate s d sound fits i (target.Shared a) (Byte at) part env place regs words state few limit ready room e h has = absurd ready
locate s d sound fits i (target.Shared a) (Element index at stride) part env place regs words state few limit ready room e h has = absurd ready
locate s d sound fits i (target.Shared a) (Row index) part env place regs words state few limit ready room e h has = absurd ready

-- ---- the event

-- what the event asks, with no register known, and what comes of the answer
pub record Asking (s : Setting) (i : ℕ) (code : List Inst) (event : Event) (ask : Ask) (place : ℕ) (regs : Registers) (t : State) : Type 0 where
  pub env : ℕ → Env
  pub asks : Asks s i code event ask env place regs t

pub ask_event : (s : Setting) → Declares s → (i : ℕ) (t : Target) (word : ℕ) (event : Event) (ask : Ask) (place pointer : ℕ) (regs : Registers) (state : State) → EventReady s t event → ZerosReady s event → asked event (place_of t word) regs ≡ Some ask → Points s state pointer (place_of t word) → Held s no_register place regs state → Has s.made place (event_code s.context no_register place pointer t event) → Asking s i (event_code s.context no_register place pointer t event) event ask place regs state
ask_event s d i t word (Load to) ask place pointer regs state ready sets e p h has =
    subst (λ a. Asking s i (event_code s.context no_register place pointer t (Load to)) (Load to) a place regs state) (some_inj e) (record { env = _; asks = load_asks s d ready i no_register place pointer regs state to (place_of t word) sets.0 p h has })
ask_event s d i t word (Store value) ask place pointer regs state ready sets e p h has =
    let v = map_some (launch.Store (place_of t word)) (number_of regs value) ask e in
    subst (λ a. Asking s i (event_code s.context no_register place pointer t (Store value)) (Store value) a place regs state) v.2 (record { env = _; asks = store_asks s d i no_register place pointer regs state value v.0 (place_of t word) ready v.1 p h has })
ask_event s d i t word (Atomic to op value) ask place pointer regs state ready sets e p h has =
    let v = map_some (launch.Atomic (place_of t word) op) (number_of regs value) ask e in
    subst (λ a. Asking s i (event_code s.context no_register place pointer t (Atomic to op value)) (Atomic to op value) a place regs state) v.2 (record { env = _; asks = atomic_asks s d i no_register place pointer regs state t word to op value v.0 ready.2 ready.1 sets.0 ready.0 v.1 p h has })
ask_event s d i t word (Swap old same compare value) ask place pointer regs state ready sets e p h has =
    let v = both_some (λ c x. Some (launch.Swap (place_of t word) c x)) (number_of regs compare) (number_of regs value) ask e in
    subst (λ a. Asking s i (event_code s.context no_register place pointer t (Swap old same compare value)) (Swap old same compare value) a place regs state) (some_inj v.4) (record { env = _; asks = swap_asks s d i no_register place pointer regs state t word old same compare value v.0 v.1 ready.3 ready.2 sets.0 sets.1 ready.0 ready.1 v.2 v.3 p h has })
