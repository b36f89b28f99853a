-- Launches and runs: many invocations over one memory, by a schedule. Both machines are run by these words.
use Rattle.std.specs.Prelude.{ℕ, zero, suc, ◌+◌, ◌*◌, ◌/◌, Bool, true, false, ◌&&◌, ◌||◌, not, List, [], ◌∷◌, Option, Some, None, nat_eq, nat_lt, if◌then◌else◌}
use Rattle.dxil_form.specs.declared.instr.AtomicOp.{AtomicOp}
use Rattle.dxil_form.specs.declared.instr.Scope.{Scope}
use Rattle.dxil_meaning.specs.Arithmetic.{atomic}

-- one word of memory: of a resource, or of a groupshared array of the invocation's own group
pub data Place : Type 0 where
  Buffer : (resource word : ℕ) → Place
  Shared : (array word : ℕ) → Place

-- what an invocation asks of the memory, or of its group
pub data Ask : Type 0 where
  Load : Place → Ask
  Store : Place → (value : ℕ) → Ask
  Atomic : Place → AtomicOp → (value : ℕ) → Ask
  Swap : Place → (compare value : ℕ) → Ask
  Barrier : (sync : Bool) → Scope → (uav shared : Bool) → Ask
  End : Ask

-- one step of an invocation: it is wrong, which makes the run undefined, it goes on quietly and begins these blocks, or it makes an event and goes on with the memory's answer
pub data Step (S : Type 0) : Type 0 where
  Wrong : Step S
  Quiet : (begun : List ℕ) → S → Step S
  Acts : Ask → (ℕ → S) → Step S

-- a machine: where each invocation starts, the blocks that its first entry begins before any step, and its steps, by the invocation's number
pub record Machine (S : Type 0) : Type 0 where
  pub start : S
  pub first : List ℕ
  pub step : ℕ → S → Step S

-- where a barrier stands: the last block of the walk, and how many barriers were made since it began
pub record Site : Type 0 where
  pub block : ℕ
  pub nth : ℕ

-- an invocation has not been named yet, is under way, waits at a barrier, or has ended
pub data Mode : Type 0 where
  New : Mode
  Going : Mode
  Waiting : Site → Mode
  Ended : Mode

-- the blocks begun, the newest first, and the barriers made since the newest began
pub record Walk : Type 0 where
  pub blocks : List ℕ
  pub barriers : ℕ

-- the words of each resource, and of each groupshared array of each group
pub record Memory : Type 0 where
  pub buffers : ℕ → ℕ → ℕ
  pub shared : ℕ → ℕ → ℕ → ℕ

-- what can be told of a launch without looking into a machine: the memory, and each invocation's walk and mode
pub record Seen : Type 0 where
  pub memory : Memory
  pub walks : ℕ → Walk
  pub modes : ℕ → Mode

pub record World (S : Type 0) : Type 0 where
  pub seen : Seen
  pub at : ℕ → S

-- an event: what was asked, what the memory answered, and the site of a barrier
pub record Event : Type 0 where
  pub asked : Ask
  pub answer : ℕ
  pub site : Option Site

-- how far something came within a number of steps
pub data Outcome (A : Type 0) : Type 0 where
  Undefined : Outcome A
  Busy : Outcome A
  Complete : A → Outcome A

abbrev pub and_then : {A B : Type 0} → Outcome A → (A → Outcome B) → Outcome B
and_then Undefined go = Undefined
and_then Busy go = Busy
and_then (Complete a) go = go a

-- blocks begin, one after the other
abbrev pub begin : List ℕ → Walk → Walk
begin [] walk = walk
begin (b ∷ bs) walk = begin bs (record { blocks = b ∷ walk.blocks; barriers = 0 })

-- what an invocation asks, how it goes on with the answer, and its walk so far
pub record Asking (S : Type 0) : Type 0 where
  pub ask : Ask
  pub next : ℕ → S
  pub walk : Walk

abbrev pub on_step : {S : Type 0} → (S → Walk → Outcome (Asking S)) → Step S → Walk → Outcome (Asking S)
on_step next Wrong walk = Undefined
on_step next (Quiet begun s) walk = next s (begin begun walk)
on_step next (Acts ask k) walk = Complete (record { ask = ask; next = k; walk = walk })

-- from where invocation i stands to its next event, within n steps
abbrev pub reach : {S : Type 0} → Machine S → ℕ → ℕ → S → Walk → Outcome (Asking S)
reach m i zero s walk = Busy
reach m i (suc n) s walk = on_step (reach m i n) (m.step i s) walk

-- The rules of a launch.

-- how many groups there are, and how many invocations each has
pub record Shape : Type 0 where
  pub groups : ℕ
  pub size : ℕ

-- the test holds of a number below n
abbrev pub some_below : ℕ → (ℕ → Bool) → Bool
some_below zero test = false
some_below (suc n) test = test n || some_below n test

-- the group of an invocation: invocation f of group g has the number g * size + f
abbrev pub group_of : Shape → ℕ → ℕ
group_of shape i = i / shape.size

abbrev pub some_member : Shape → ℕ → (ℕ → Mode) → (Mode → Bool) → Bool
some_member shape group modes test = some_below shape.size (λ f. test (modes (group * shape.size + f)))

abbrev pub waits : Mode → Bool
waits (Waiting site) = true
waits _ = false

-- it waits at another site, or has ended
abbrev pub is_elsewhere : Site → Mode → Bool
is_elsewhere site (Waiting other) = not (nat_eq other.block site.block && nat_eq other.nth site.nth)
is_elsewhere site Ended = true
is_elsewhere site _ = false

abbrev pub waits_at : Site → Mode → Bool
waits_at site (Waiting other) = nat_eq other.block site.block && nat_eq other.nth site.nth
waits_at site _ = false

-- the function with another value at one place
abbrev pub with_at : {A : Type 0} → ℕ → A → (ℕ → A) → ℕ → A
with_at i a f j = if nat_eq j i then a else f j

-- who waits goes on
abbrev pub let_go : Mode → Mode
let_go (Waiting site) = Going
let_go New = New
let_go Going = Going
let_go Ended = Ended

-- a group goes on where each of its invocations waits at the site
abbrev pub released : Shape → ℕ → Site → (ℕ → Mode) → ℕ → Mode
released shape group site modes j =
    if some_member shape group modes (λ mode. not (waits_at site mode)) then modes j
    else (if nat_eq (group_of shape j) group then let_go (modes j) else modes j)

abbrev pub read : ℕ → Place → Memory → ℕ
read group (Buffer r word) memory = memory.buffers r word
read group (Shared a word) memory = memory.shared group a word

abbrev pub write : ℕ → Place → ℕ → Memory → Memory
write group (Buffer r word) v memory =
    record { buffers = with_at r (with_at word v (memory.buffers r)) memory.buffers; shared = memory.shared }
write group (Shared a word) v memory =
    record {
      buffers = memory.buffers;
      shared = with_at group (with_at a (with_at word v (memory.shared group a)) (memory.shared group)) memory.shared;
    }

-- what the memory answers, and the memory after it
abbrev pub answer_of : ℕ → Ask → Memory → ℕ
answer_of group (Load p) memory = read group p memory
answer_of group (Store p v) memory = 0
answer_of group (Atomic p op v) memory = read group p memory
answer_of group (Swap p c v) memory = read group p memory
answer_of group (Barrier sync scope uav shared) memory = 0
answer_of group End memory = 0

abbrev pub memory_after : ℕ → Ask → Memory → Memory
memory_after group (Load p) memory = memory
memory_after group (Store p v) memory = write group p v memory
memory_after group (Atomic p op v) memory = write group p (atomic op (read group p memory) v) memory
memory_after group (Swap p c v) memory =
    if nat_eq (read group p memory) c then write group p v memory else memory
memory_after group (Barrier sync scope uav shared) memory = memory
memory_after group End memory = memory

-- an event that was made, and what is seen after it
pub record Made : Type 0 where
  pub event : Event
  pub seen : Seen

-- the invocation goes on at once
abbrev pub goes_on : ℕ → Option Site → Ask → Walk → ℕ → Memory → Seen → Made
goes_on i site ask walk answer memory seen =
    record {
      event = record { asked = ask; answer = answer; site = site };
      seen = record { memory = memory; walks = with_at i walk seen.walks; modes = with_at i Going seen.modes };
    }

-- the walk after a barrier
abbrev pub past_barrier : Walk → Walk
past_barrier walk = record { blocks = walk.blocks; barriers = suc walk.barriers }

-- a barrier with sync at this site
abbrev pub syncs : Shape → ℕ → Site → Ask → Walk → Seen → Outcome Made
syncs shape i site ask walk seen =
    if some_member shape (group_of shape i) seen.modes (is_elsewhere site) then Undefined
    else
    Complete (record {
      event = record { asked = ask; answer = 0; site = Some site };
      seen = record {
        memory = seen.memory;
        walks = with_at i (past_barrier walk) seen.walks;
        modes = released shape (group_of shape i) site (with_at i (Waiting site) seen.modes);
      };
    })

-- a barrier has no site before the walk has a block
abbrev pub on_barrier : Shape → ℕ → Bool → Ask → Walk → List ℕ → Seen → Outcome Made
on_barrier shape i sync ask walk [] seen = Undefined
on_barrier shape i true ask walk (b ∷ bs) seen =
    syncs shape i (record { block = b; nth = walk.barriers }) ask walk seen
on_barrier shape i false ask walk (b ∷ bs) seen =
    Complete (goes_on i (Some (record { block = b; nth = walk.barriers })) ask (past_barrier walk) 0 seen.memory seen)

-- an end while an invocation of the group waits is undefined
abbrev pub on_end : Shape → ℕ → Walk → Seen → Outcome Made
on_end shape i walk seen =
    if some_member shape (group_of shape i) seen.modes waits then Undefined
    else
    Complete (record {
      event = record { asked = End; answer = 0; site = None };
      seen = record {
        memory = seen.memory;
        walks = with_at i walk seen.walks;
        modes = with_at i Ended seen.modes;
      };
    })

-- an access of the one memory, at once
abbrev pub on_access : Shape → ℕ → Ask → Walk → Seen → Outcome Made
on_access shape i ask walk seen =
    Complete (goes_on i None ask walk (answer_of (group_of shape i) ask seen.memory) (memory_after (group_of shape i) ask seen.memory) seen)

abbrev pub settle : Shape → ℕ → Ask → Walk → Seen → Outcome Made
settle shape i (Load p) walk seen = on_access shape i (Load p) walk seen
settle shape i (Store p v) walk seen = on_access shape i (Store p v) walk seen
settle shape i (Atomic p op v) walk seen = on_access shape i (Atomic p op v) walk seen
settle shape i (Swap p c v) walk seen = on_access shape i (Swap p c v) walk seen
settle shape i (Barrier sync scope uav shared) walk seen =
    on_barrier shape i sync (Barrier sync scope uav shared) walk walk.blocks seen
settle shape i End walk seen = on_end shape i walk seen

-- one entry of a schedule: the event that it made, if it made one, and the world after it
pub record Turn (S : Type 0) : Type 0 where
  pub event : Option Event
  pub world : World S

abbrev pub goes : {S : Type 0} → Machine S → Shape → ℕ → ℕ → Walk → World S → Outcome (Turn S)
goes m shape n i walk w =
    and_then (reach m i n (w.at i) walk) λ asking.
    and_then (settle shape i asking.ask asking.walk w.seen) λ made.
    Complete (record {
      event = Some made.event;
      world = record { seen = made.seen; at = with_at i (asking.next made.event.answer) w.at };
    })

abbrev pub turn_in : {S : Type 0} → Machine S → Shape → ℕ → ℕ → World S → Mode → Outcome (Turn S)
turn_in m shape n i w New = goes m shape n i (begin m.first (w.seen.walks i)) w
turn_in m shape n i w Going = goes m shape n i (w.seen.walks i) w
turn_in m shape n i w (Waiting site) = Complete (record { event = None; world = w })
turn_in m shape n i w Ended = Complete (record { event = None; world = w })

-- an entry within n steps. An entry that names a waiting or ended invocation, or none of the launch, changes nothing
abbrev pub turn : {S : Type 0} → Machine S → Shape → ℕ → ℕ → World S → Outcome (Turn S)
turn m shape n i w =
    if nat_lt i (shape.groups * shape.size) then turn_in m shape n i w (w.seen.modes i)
    else Complete (record { event = None; world = w })

-- a whole run: what each entry made, and the world at the end
pub record Ran (S : Type 0) : Type 0 where
  pub events : List (Option Event)
  pub world : World S

abbrev pub run : {S : Type 0} → Machine S → Shape → ℕ → List ℕ → World S → Outcome (Ran S)
run m shape n [] w = Complete (record { events = []; world = w })
run m shape n (i ∷ schedule) w =
    and_then (turn m shape n i w) λ turned.
    and_then (run m shape n schedule turned.world) λ ran.
    Complete (record { events = turned.event ∷ ran.events; world = ran.world })

-- the world before the first entry
abbrev pub at_first : {S : Type 0} → Machine S → Memory → World S
at_first m memory =
    record {
      seen = record { memory = memory; walks = λ i. record { blocks = []; barriers = 0 }; modes = λ i. New };
      at = λ i. m.start;
    }
