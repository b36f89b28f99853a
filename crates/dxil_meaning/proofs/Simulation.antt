-- Two machines that match from event to event, and from block to block, have the same runs.
use Rattle.std.proofs.Common.{◌≡◌, ℕ, zero, suc, ◌+◌, ◌-◌, ◌*◌, ◌<◌, ◌≤◌, Bool, true, false, List, [], ◌∷◌, ◌++◌, Option, Some, None, refl, sym, ap, ◌∙◌, subst, ⊎_elim, inl, inr, arith, eqb→eq}
use Rattle.std.specs.Prelude.{◌⊎◌, T, not, nat_eq, nat_lt, if◌then◌else◌}
use Rattle.dxil_form.specs.declared.instr.Scope.{Scope}
use Rattle.dxil_meaning.specs.Steps.{Leads, Unless_end, Matched, is_wrong, acts, begins, Starting}
use Rattle.dxil_meaning.specs.Launches.{Memory, on_access, on_barrier, on_end, some_member, group_of, is_elsewhere, waits_at, waits, past_barrier, Ask, Load, Store, Atomic, Swap, Barrier, End, Step, Wrong, Quiet, Acts, Machine, Site, Mode, New, Going, Waiting, Ended, Walk, Seen, World, Event, Outcome, Undefined, Busy, Complete, and_then, begin, Asking, on_step, reach, Shape, with_at, settle, Made, Turn, turn_in, turn, Ran, run, at_first, released, let_go}

-- what is not over yet is busy, and stays as it is with more steps
stays_on : {S : Type 0} (small large : S → Walk → Outcome (Asking S)) → ((s : S) (walk : Walk) → (small s walk ≡ Busy) ⊎ (large s walk ≡ small s walk)) → (step : Step S) (walk : Walk) → (on_step small step walk ≡ Busy) ⊎ (on_step large step walk ≡ on_step small step walk)
stays_on small large h Wrong walk = inr refl
stays_on small large h (Quiet begun s) walk = h s (begin begun walk)
stays_on small large h (Acts ask k) walk = inr refl

stays : {S : Type 0} (m : Machine S) (i n more : ℕ) → n ≤ more → (s : S) (walk : Walk) → (reach m i n s walk ≡ Busy) ⊎ (reach m i more s walk ≡ reach m i n s walk)
stays m i zero more le s walk = inl refl
stays m i (suc n) zero le s walk = absurd (omega arith)
stays m i (suc n) (suc more) le s walk =
    stays_on (reach m i n) (reach m i more) (stays m i n more (omega arith)) (m.step i s) walk

not_busy_complete : {A : Type 0} {a : A} → Busy ≡ Complete a → ⊥
not_busy_complete e = grind arith

not_undefined_complete : {A : Type 0} {a : A} → Undefined ≡ Complete a → ⊥
not_undefined_complete e = grind arith

pub complete_inj : {A : Type 0} {x y : A} → Complete x ≡ Complete y → x ≡ y
complete_inj {x = x} e = ap (value_of x) e
  where
    value_of : {A : Type 0} → A → Outcome A → A
    value_of default (Complete a) = a
    value_of default _ = default

pub stays_complete : {S : Type 0} (m : Machine S) (i n more : ℕ) → n ≤ more → (s : S) (walk : Walk) (asking : Asking S) → reach m i n s walk ≡ Complete asking → reach m i more s walk ≡ Complete asking
stays_complete m i n more le s walk asking e =
    ⊎_elim (λ b. absurd (not_busy_complete (sym b ∙ e))) (λ same. same ∙ e) (stays m i n more le s walk)

pub stays_undefined : {S : Type 0} (m : Machine S) (i n more : ℕ) → n ≤ more → (s : S) (walk : Walk) → reach m i n s walk ≡ Undefined → reach m i more s walk ≡ Undefined
stays_undefined m i n more le s walk e =
    ⊎_elim (λ b. absurd (not_busy_undefined (sym b ∙ e))) (λ same. same ∙ e) (stays m i n more le s walk)
  where
    not_busy_undefined : {A : Type 0} → ◌≡◌ {A = Outcome A} Busy Undefined → ⊥
    not_busy_undefined e = grind arith

pub leads_none : {S : Type 0} (m : Machine S) (i : ℕ) (s : S) → Leads m i 0 s [] s
leads_none m i s n k e walk = let same : n ≡ k = omega arith in ap (λ x. reach m i x s walk) same

pub leads_step : {S : Type 0} (m : Machine S) (i : ℕ) (s : S) (begun : List ℕ) (s' : S) → m.step i s ≡ Quiet begun s' → Leads m i 1 s begun s'
leads_step m i s begun s' is zero k e walk = absurd (omega arith)
leads_step m i s begun s' is (suc n) k e walk =
    let same : n ≡ k = omega arith in
    ap (λ step. on_step (reach m i n) step walk) is ∙ ap (λ x. reach m i x s' (begin begun walk)) same

pub begin_append : (a b : List ℕ) (walk : Walk) → begin (a ++ b) walk ≡ begin b (begin a walk)
begin_append [] b walk = refl
begin_append (x ∷ a) b walk = begin_append a b (record { blocks = x ∷ walk.blocks; barriers = 0 })

pub leads_on : {S : Type 0} (m : Machine S) (i j j' : ℕ) (s s' s'' : S) (a b : List ℕ) → Leads m i j s a s' → Leads m i j' s' b s'' → Leads m i (j + j') s (a ++ b) s''
leads_on m i j j' s s' s'' a b first second n k e walk =
    first n (j' + k) (omega arith) walk ∙ second (j' + k) k refl (begin a walk) ∙ sym (ap (reach m i k s'') (begin_append a b walk))

-- K steps for each of n steps: one of them at least, and for each of those that are left
pub one_turn : (K n : ℕ) → 0 < n → K ≤ K * n
one_turn K zero h = absurd (omega arith)
one_turn K (suc n) h = omega arith

pub more_turns : (K j rest n : ℕ) → n ≡ suc j + rest → K + K * rest ≤ K * n
more_turns K j rest n e =
    let products : K * (suc j + rest) ≡ K * j + K + K * rest = omega arith in
    subst (λ x. K + K * rest ≤ K * x) (sym e) (omega (arith, products))

nat_eq-eq : (m n : ℕ) → nat_eq m n ≡ true → m ≡ n
nat_eq-eq m n e = eqb→eq m n (subst (λ b. T b) (sym e) tt)

le_total : (m n : ℕ) → (m ≤ n) ⊎ (n ≤ m)
le_total m n = grind arith

-- who makes an event within n steps, and begins blocks in j steps before it, has the others left
pub later : {S : Type 0} (m : Machine S) (i j n : ℕ) (s s' : S) (begun : List ℕ) → Leads m i j s begun s' → (walk : Walk) (asking : Asking S) → reach m i n s walk ≡ Complete asking → (rest : ℕ) × (n ≡ j + rest) × (reach m i rest s' (begin begun walk) ≡ Complete asking)
later m i j n s s' begun leads walk asking e = by_order (le_total j n)
  where
    by_order : (j ≤ n) ⊎ (n ≤ j) → (rest : ℕ) × (n ≡ j + rest) × (reach m i rest s' (begin begun walk) ≡ Complete asking)
    by_order (inl le) =
        let total : n ≡ j + (n - j) = omega arith in
        (n - j, total, sym (leads n (n - j) total walk) ∙ e)
    by_order (inr le) =
        let total : j ≡ j + 0 = omega arith in
        absurd (not_busy_complete (sym (leads j 0 total walk) ∙ stays_complete m i n j le s walk asking e))

-- what an entry makes of an event that was settled, and of an outcome of `reach`
abbrev after_settle : {X : Type 0} → ℕ → (ℕ → X) → (ℕ → X) → Outcome Made → Outcome (Turn X)
after_settle i f next o =
    and_then o λ made.
    Complete (record {
      event = Some made.event;
      world = record { seen = made.seen; at = with_at i (next made.event.answer) f };
    })

abbrev after_reach : {X : Type 0} → Shape → ℕ → Seen → (ℕ → X) → Outcome (Asking X) → Outcome (Turn X)
after_reach shape i seen f o =
    and_then o (λ asking. after_settle i f asking.next (settle shape i asking.ask asking.walk seen))

-- what a run makes of its first entry, and of the others
abbrev after_run : {X : Type 0} → Option Event → Ran X → Outcome (Ran X)
after_run event ran = Complete (record { events = event ∷ ran.events; world = ran.world })

abbrev after_turn : {X : Type 0} → (World X → Outcome (Ran X)) → Turn X → Outcome (Ran X)
after_turn rest turned = and_then (rest turned.world) (after_run turned.event)

and_then_complete : {A B : Type 0} (o : Outcome A) (go : A → Outcome B) (b : B) → and_then o go ≡ Complete b → (x : A) × (o ≡ Complete x) × (go x ≡ Complete b)
and_then_complete Undefined go b e = absurd (not_undefined_complete e)
and_then_complete Busy go b e = absurd (not_busy_complete e)
and_then_complete (Complete x) go b e = (x, refl, e)

at_answer : {S T : Type 0} (ask : Ask) (r : S → T → Type 0) (f : ℕ → S) (g : ℕ → T) (v : ℕ) → Unless_end ask ((v : ℕ) → r (f v) (g v)) → Unless_end ask (r (f v) (g v))
at_answer (Load p) r f g v h = h v
at_answer (Store p x) r f g v h = h v
at_answer (Atomic p op x) r f g v h = h v
at_answer (Swap p c x) r f g v h = h v
at_answer (Barrier sync scope uav shared) r f g v h = h v
at_answer End r f g v h = tt

-- What two machines owe each other. R holds of two invocations that match: after an event, or at the beginning of a block.
module _ (S T : Type 0) (a : Machine S) (b : Machine T) (R : ℕ → S → T → Type 0) (L K : ℕ) where
  -- the other machine asks the same after the same blocks, and goes on to a match
  pub record Found (i : ℕ) (asking : Asking S) (o : Outcome (Asking T)) : Type 0 where
    pub next : ℕ → T
    pub is : o ≡ Complete (record { ask = asking.ask; next = next; walk = asking.walk })
    pub after : Unless_end asking.ask ((v : ℕ) → R i (asking.next v) (next v))

  -- the same, seen from the target
  pub record Found_back (i : ℕ) (o : Outcome (Asking S)) (asking : Asking T) : Type 0 where
    pub next : ℕ → S
    pub is : o ≡ Complete (record { ask = asking.ask; next = next; walk = asking.walk })
    pub after : Unless_end asking.ask ((v : ℕ) → R i (next v) (asking.next v))

  -- what matches of two invocations, by the mode that they share
  abbrev pub At : Mode → ℕ → S → T → Type 0
  At New i s t = (s ≡ a.start) × (t ≡ b.start)
  At Going i s t = R i s t
  At (Waiting site) i s t = R i s t
  At Ended i s t = Unit {0}

  let_go_at : (mode : Mode) (i : ℕ) (s : S) (t : T) → At mode i s t → At (let_go mode) i s t
  let_go_at New i s t h = h
  let_go_at Going i s t h = h
  let_go_at (Waiting site) i s t h = h
  let_go_at Ended i s t h = h

  -- an event sets its own invocation's mode, and may let others go on
  record Settles (i : ℕ) (ask : Ask) (seen made : Seen) : Type 0 where
    own : Mode
    fits : (s : S) (t : T) → Unless_end ask (R i s t) → At own i s t
    each : (j : ℕ) → (made.modes j ≡ with_at i own seen.modes j) ⊎ (made.modes j ≡ let_go (with_at i own seen.modes j))

  settles_access : (shape : Shape) (i : ℕ) (ask : Ask) (walk : Walk) (seen : Seen) (made : Made) → ((s : S) (t : T) → Unless_end ask (R i s t) → R i s t) → on_access shape i ask walk seen ≡ Complete made → Settles i ask seen made.seen
  settles_access shape i ask walk seen made fits e =
      subst (λ x. Settles i ask seen x.seen) (complete_inj e) (record { own = Going; fits = fits; each = λ j. inl refl })

  released_each : (shape : Shape) (group : ℕ) (site : Site) (modes : ℕ → Mode) (j : ℕ) → (released shape group site modes j ≡ modes j) ⊎ (released shape group site modes j ≡ let_go (modes j))
  released_each shape group site modes j =
      cases (some_member shape group modes (λ mode. not (waits_at site mode))) (nat_eq (group_of shape j) group)
    where
      cases : (c d : Bool) → ((if c then modes j else (if d then let_go (modes j) else modes j)) ≡ modes j) ⊎ ((if c then modes j else (if d then let_go (modes j) else modes j)) ≡ let_go (modes j))
      cases true d = inl refl
      cases false true = inr refl
      cases false false = inl refl

  settles_barrier : (shape : Shape) (i : ℕ) (sync : Bool) (scope : Scope) (uav shared : Bool) (walk : Walk) (blocks : List ℕ) (seen : Seen) (made : Made) → on_barrier shape i sync (Barrier sync scope uav shared) walk blocks seen ≡ Complete made → Settles i (Barrier sync scope uav shared) seen made.seen
  settles_barrier shape i sync scope uav shared walk [] seen made e = absurd (not_undefined_complete e)
  settles_barrier shape i false scope uav shared walk (b ∷ bs) seen made e =
      subst (λ x. Settles i (Barrier false scope uav shared) seen x.seen) (complete_inj e) (record { own = Going; fits = λ s t h. h; each = λ j. inl refl })
  settles_barrier shape i true scope uav shared walk (block ∷ bs) seen made e =
      by_test (some_member shape (group_of shape i) seen.modes (is_elsewhere site)) e
    where
      site : Site
      site = record { block = block; nth = walk.barriers }

      after : Made
      after = record {
        event = record { asked = Barrier true scope uav shared; answer = 0; site = Some site };
        seen = record {
          memory = seen.memory;
          walks = with_at i (past_barrier walk) seen.walks;
          modes = released shape (group_of shape i) site (with_at i (Waiting site) seen.modes);
        };
      }

      by_test : (c : Bool) → (if c then Undefined else Complete after) ≡ Complete made → Settles i (Barrier true scope uav shared) seen made.seen
      by_test true e = absurd (not_undefined_complete e)
      by_test false e =
          subst (λ x. Settles i (Barrier true scope uav shared) seen x.seen) (complete_inj e) (record { own = Waiting site; fits = λ s t h. h; each = λ j. released_each shape (group_of shape i) site (with_at i (Waiting site) seen.modes) j })

  settles_end : (shape : Shape) (i : ℕ) (walk : Walk) (seen : Seen) (made : Made) → on_end shape i walk seen ≡ Complete made → Settles i End seen made.seen
  settles_end shape i walk seen made e = by_test (some_member shape (group_of shape i) seen.modes waits) e
    where
      after : Made
      after = record {
        event = record { asked = End; answer = 0; site = None };
        seen = record { memory = seen.memory; walks = with_at i walk seen.walks; modes = with_at i Ended seen.modes };
      }

      by_test : (c : Bool) → (if c then Undefined else Complete after) ≡ Complete made → Settles i End seen made.seen
      by_test true e = absurd (not_undefined_complete e)
      by_test false e =
          subst (λ x. Settles i End seen x.seen) (complete_inj e) (record { own = Ended; fits = λ s t h. tt; each = λ j. inl refl })

  settles : (shape : Shape) (i : ℕ) (ask : Ask) (walk : Walk) (seen : Seen) (made : Made) → settle shape i ask walk seen ≡ Complete made → Settles i ask seen made.seen
  settles shape i (Load p) walk seen made e = settles_access shape i (Load p) walk seen made (λ s t h. h) e
  settles shape i (Store p v) walk seen made e = settles_access shape i (Store p v) walk seen made (λ s t h. h) e
  settles shape i (Atomic p op v) walk seen made e = settles_access shape i (Atomic p op v) walk seen made (λ s t h. h) e
  settles shape i (Swap p c v) walk seen made e = settles_access shape i (Swap p c v) walk seen made (λ s t h. h) e
  settles shape i (Barrier sync scope uav shared) walk seen made e =
      settles_barrier shape i sync scope uav shared walk walk.blocks seen made e
  settles shape i End walk seen made e = settles_end shape i walk seen made e

  -- all invocations match
  abbrev pub All_at : Seen → (ℕ → S) → (ℕ → T) → Type 0
  All_at seen f g = (j : ℕ) → At (seen.modes j) j (f j) (g j)

  own_at : (i j : ℕ) (own : Mode) (modes : ℕ → Mode) (s : S) (t : T) (f : ℕ → S) (g : ℕ → T) → At own i s t → At (modes j) j (f j) (g j) → At (with_at i own modes j) j (with_at i s f j) (with_at i t g j)
  own_at i j own modes s t f g h k = by_test (nat_eq j i) refl
    where
      by_test : (c : Bool) → nat_eq j i ≡ c → At (if c then own else modes j) j (if c then s else f j) (if c then t else g j)
      by_test true e = subst (λ x. At own x s t) (sym (nat_eq-eq j i e)) h
      by_test false e = k

  after_settling : (i : ℕ) (ask : Ask) (seen made : Seen) (s : S) (t : T) (f : ℕ → S) (g : ℕ → T) → Settles i ask seen made → Unless_end ask (R i s t) → All_at seen f g → All_at made (with_at i s f) (with_at i t g)
  after_settling i ask seen made s t f g h r each j =
      let here = own_at i j h.own seen.modes s t f g (h.fits s t r) (each j) in
      ⊎_elim (λ e. subst (λ m. At m j (with_at i s f j) (with_at i t g j)) (sym e) here) (λ e. subst (λ m. At m j (with_at i s f j) (with_at i t g j)) (sym e) (let_go_at (with_at i h.own seen.modes j) j (with_at i s f j) (with_at i t g j) here)) (h.each j)

  module _ (matched : (i : ℕ) (s : S) (t : T) → R i s t → Matched S T a b R L K i s t) where
    forward_case : (i n : ℕ) (s : S) (t : T) → ((n' : ℕ) → n' < n → (s : S) (t : T) → R i s t → (walk : Walk) (asking : Asking S) → reach a i n' s walk ≡ Complete asking → Found i asking (reach b i (K * n') t walk)) → Matched S T a b R L K i s t → (walk : Walk) (asking : Asking S) → reach a i n s walk ≡ Complete asking → 0 < n → Found i asking (reach b i (K * n) t walk)
    forward_case i n s t ih (is_wrong j s' few leads wrong) walk asking e some =
        let long = stays_complete a i n (n + suc j) (omega arith) s walk asking e in
        let here = leads (n + suc j) (suc n) (omega arith) walk ∙ ap (λ step. on_step (reach a i n) step walk) wrong in
        absurd (not_undefined_complete (sym here ∙ long))
    forward_case i n s t ih (acts j k s' t' ask f g few few' leads is leads' is' after) walk asking e some =
        let long = stays_complete a i n (n + suc j) (omega arith) s walk asking e in
        let here = leads (n + suc j) (suc n) (omega arith) walk ∙ ap (λ step. on_step (reach a i n) step walk) is in
        let same = complete_inj (sym here ∙ long) in
        let there = leads' (suc k) 1 (omega arith) walk ∙ ap (λ step. on_step (reach b i 0) step walk) is' in
        let end = stays_complete b i (suc k) (K * n) (omega (arith, one_turn K n some)) t walk _ there in
        subst (λ x. Found i x (reach b i (K * n) t walk)) same (record { next = g; is = end; after = after })
    forward_case i n s t ih (begins j k s' t' begun few few' leads leads' r) walk asking e some =
        let walk' = begin begun walk in
        let rest = later a i (suc j) n s s' begun leads walk asking e in
        let found = ih rest.0 (omega (arith, rest.1)) s' t' r walk' asking rest.2 in
        let there = leads' (suc k + K * rest.0) (K * rest.0) refl walk ∙ found.is in
        let end = stays_complete b i (suc k + K * rest.0) (K * n) (omega (arith, more_turns K j rest.0 n rest.1)) t walk _ there in
        record { next = found.next; is = end; after = found.after }

    forward : (fuel i n : ℕ) → n ≤ fuel → (s : S) (t : T) → R i s t → (walk : Walk) (asking : Asking S) → reach a i n s walk ≡ Complete asking → Found i asking (reach b i (K * n) t walk)
    forward fuel i zero le s t r walk asking e = absurd (not_busy_complete e)
    forward zero i (suc n) le s t r walk asking e = absurd (omega arith)
    forward (suc fuel) i (suc n) le s t r walk asking e =
        forward_case i (suc n) s t (λ n' less s t r walk asking e. forward fuel i n' (omega arith) s t r walk asking e) (matched i s t r) walk asking e (omega arith)

    -- the source may meet a wrong step instead
    backward_case : (i n : ℕ) (s : S) (t : T) → ((n' : ℕ) → n' < n → (s : S) (t : T) → R i s t → (walk : Walk) (asking : Asking T) → reach b i n' t walk ≡ Complete asking → (reach a i (L * n') s walk ≡ Undefined) ⊎ Found_back i (reach a i (L * n') s walk) asking) → Matched S T a b R L K i s t → (walk : Walk) (asking : Asking T) → reach b i n t walk ≡ Complete asking → 0 < n → (reach a i (L * n) s walk ≡ Undefined) ⊎ Found_back i (reach a i (L * n) s walk) asking
    backward_case i n s t ih (is_wrong j s' few leads wrong) walk asking e some =
        let here = leads (suc j) 1 (omega arith) walk ∙ ap (λ step. on_step (reach a i 0) step walk) wrong in
        inl (stays_undefined a i (suc j) (L * n) (omega (arith, one_turn L n some)) s walk here)
    backward_case i n s t ih (acts j k s' t' ask f g few few' leads is leads' is' after) walk asking e some =
        let long = stays_complete b i n (n + suc k) (omega arith) t walk asking e in
        let there = leads' (n + suc k) (suc n) (omega arith) walk ∙ ap (λ step. on_step (reach b i n) step walk) is' in
        let same = complete_inj (sym there ∙ long) in
        let here = leads (suc j) 1 (omega arith) walk ∙ ap (λ step. on_step (reach a i 0) step walk) is in
        let end = stays_complete a i (suc j) (L * n) (omega (arith, one_turn L n some)) s walk _ here in
        inr (subst (λ x. Found_back i (reach a i (L * n) s walk) x) same (record { next = f; is = end; after = after }))
    backward_case i n s t ih (begins j k s' t' begun few few' leads leads' r) walk asking e some =
        let rest = later b i (suc k) n t t' begun leads' walk asking e in
        let found = ih rest.0 (omega (arith, rest.1)) s' t' r (begin begun walk) asking rest.2 in
        let here = leads (suc j + L * rest.0) (L * rest.0) refl walk in
        let room : suc j + L * rest.0 ≤ L * n = omega (arith, more_turns L k rest.0 n rest.1) in
        ⊎_elim (λ u. inl (stays_undefined a i (suc j + L * rest.0) (L * n) room s walk (here ∙ u))) (λ h. inr (record { next = h.next; is = stays_complete a i (suc j + L * rest.0) (L * n) room s walk _ (here ∙ h.is); after = h.after })) found

    backward : (fuel i n : ℕ) → n ≤ fuel → (s : S) (t : T) → R i s t → (walk : Walk) (asking : Asking T) → reach b i n t walk ≡ Complete asking → (reach a i (L * n) s walk ≡ Undefined) ⊎ Found_back i (reach a i (L * n) s walk) asking
    backward fuel i zero le s t r walk asking e = absurd (not_busy_complete e)
    backward zero i (suc n) le s t r walk asking e = absurd (omega arith)
    backward (suc fuel) i (suc n) le s t r walk asking e =
        backward_case i (suc n) s t (λ n' less s t r walk asking e. backward fuel i n' (omega arith) s t r walk asking e) (matched i s t r) walk asking e (omega arith)

    module _ (starting : (i : ℕ) → Starting S T a b R L K i) where
      -- one entry of an invocation that was not named yet
      forward_new : (i n : ℕ) (walk : Walk) (asking : Asking S) → reach a i n a.start (begin a.first walk) ≡ Complete asking → Found i asking (reach b i (K * (n + 1)) b.start (begin b.first walk))
      forward_new i n walk asking e =
          let st = starting i in
          let found = forward n i n (omega arith) a.start st.t' st.matches (begin a.first walk) asking e in
          let there = st.leads (suc st.k + K * n) (K * n) refl walk ∙ found.is in
          let room : suc st.k + K * n ≤ K * (n + 1) = omega (arith, st.few, more_turns K 0 n (n + 1) (omega arith)) in
          let end = stays_complete b i (suc st.k + K * n) (K * (n + 1)) room b.start walk _ there in
          let first : begin b.first walk ≡ walk = ap (λ l. begin l walk) st.none_first in
          record { next = found.next; is = ap (reach b i (K * (n + 1)) b.start) first ∙ end; after = found.after }

      backward_new : (i n : ℕ) (walk : Walk) (asking : Asking T) → reach b i n b.start (begin b.first walk) ≡ Complete asking → (reach a i (L * (n + 1)) a.start (begin a.first walk) ≡ Undefined) ⊎ Found_back i (reach a i (L * (n + 1)) a.start (begin a.first walk)) asking
      backward_new i n walk asking e =
          let st = starting i in
          let first : begin b.first walk ≡ walk = ap (λ l. begin l walk) st.none_first in
          let rest = later b i (suc st.k) n b.start st.t' a.first st.leads walk asking (sym (ap (reach b i n b.start) first) ∙ e) in
          let found = backward rest.0 i rest.0 (omega arith) a.start st.t' st.matches (begin a.first walk) asking rest.2 in
          let room : L * rest.0 ≤ L * (n + 1) = omega (arith, more_turns L st.k rest.0 n rest.1, more_turns L 0 n (n + 1) (omega arith)) in
          ⊎_elim (λ u. inl (stays_undefined a i (L * rest.0) (L * (n + 1)) room a.start (begin a.first walk) u)) (λ h. inr (record { next = h.next; is = stays_complete a i (L * rest.0) (L * (n + 1)) room a.start (begin a.first walk) _ h.is; after = h.after })) found

      forward_going : (i n : ℕ) (s : S) (t : T) → R i s t → (walk : Walk) (asking : Asking S) → reach a i n s walk ≡ Complete asking → Found i asking (reach b i (K * (n + 1)) t walk)
      forward_going i n s t r walk asking e =
          let found = forward n i n (omega arith) s t r walk asking e in
          let room : K * n ≤ K * (n + 1) = omega (arith, more_turns K 0 n (n + 1) (omega arith)) in
          record { next = found.next; is = stays_complete b i (K * n) (K * (n + 1)) room t walk _ found.is; after = found.after }

      backward_going : (i n : ℕ) (s : S) (t : T) → R i s t → (walk : Walk) (asking : Asking T) → reach b i n t walk ≡ Complete asking → (reach a i (L * (n + 1)) s walk ≡ Undefined) ⊎ Found_back i (reach a i (L * (n + 1)) s walk) asking
      backward_going i n s t r walk asking e =
          let found = backward n i n (omega arith) s t r walk asking e in
          let room : L * n ≤ L * (n + 1) = omega (arith, more_turns L 0 n (n + 1) (omega arith)) in
          ⊎_elim (λ u. inl (stays_undefined a i (L * n) (L * (n + 1)) room s walk u)) (λ h. inr (record { next = h.next; is = stays_complete a i (L * n) (L * (n + 1)) room s walk _ h.is; after = h.after })) found

      -- both runs are complete so far: the same events, the same memory, walks and modes, and all invocations match
      pub record Both_turns (x : Outcome (Turn S)) (y : Outcome (Turn T)) : Type 0 where
        pub event : Option Event
        pub seen : Seen
        pub f : ℕ → S
        pub g : ℕ → T
        pub left : x ≡ Complete (record { event = event; world = record { seen = seen; at = f } })
        pub right : y ≡ Complete (record { event = event; world = record { seen = seen; at = g } })
        pub alike : All_at seen f g

      settled_both : (shape : Shape) (i : ℕ) (ask : Ask) (walk : Walk) (seen : Seen) (f : ℕ → S) (g : ℕ → T) (next : ℕ → S) (next' : ℕ → T) → Unless_end ask ((v : ℕ) → R i (next v) (next' v)) → All_at seen f g → (ta : Turn S) → after_settle i f next (settle shape i ask walk seen) ≡ Complete ta → Both_turns (after_settle i f next (settle shape i ask walk seen)) (after_settle i g next' (settle shape i ask walk seen))
      settled_both shape i ask walk seen f g next next' r each ta e = by_outcome (settle shape i ask walk seen) refl e
        where
          by_outcome : (o : Outcome Made) → settle shape i ask walk seen ≡ o → after_settle i f next o ≡ Complete ta → Both_turns (after_settle i f next o) (after_settle i g next' o)
          by_outcome Undefined is e = absurd (not_undefined_complete e)
          by_outcome Busy is e = absurd (not_busy_complete e)
          by_outcome (Complete made) is e =
              record {
                event = Some made.event;
                seen = made.seen;
                f = with_at i (next made.event.answer) f;
                g = with_at i (next' made.event.answer) g;
                left = refl;
                right = refl;
                alike = after_settling i ask seen made.seen (next made.event.answer) (next' made.event.answer) f g (settles shape i ask walk seen made is) (at_answer ask (R i) next next' made.event.answer r) each;
              }

      reached_both : (shape : Shape) (i : ℕ) (seen : Seen) (f : ℕ → S) (g : ℕ → T) → All_at seen f g → (x : Outcome (Asking S)) (y : Outcome (Asking T)) → ((asking : Asking S) → x ≡ Complete asking → Found i asking y) → (ta : Turn S) → after_reach shape i seen f x ≡ Complete ta → Both_turns (after_reach shape i seen f x) (after_reach shape i seen g y)
      reached_both shape i seen f g each Undefined y h ta e = absurd (not_undefined_complete e)
      reached_both shape i seen f g each Busy y h ta e = absurd (not_busy_complete e)
      reached_both shape i seen f g each (Complete asking) y h ta e =
          let found = h asking refl in
          let both = settled_both shape i asking.ask asking.walk seen f g asking.next found.next found.after each ta e in
          subst (λ y. Both_turns (after_reach shape i seen f (Complete asking)) (after_reach shape i seen g y)) (sym found.is) both

      turn_forward_in : (shape : Shape) (n i : ℕ) (seen : Seen) (f : ℕ → S) (g : ℕ → T) → All_at seen f g → (mode : Mode) → At mode i (f i) (g i) → (ta : Turn S) → turn_in a shape n i (record { seen = seen; at = f }) mode ≡ Complete ta → Both_turns (turn_in a shape n i (record { seen = seen; at = f }) mode) (turn_in b shape (K * (n + 1)) i (record { seen = seen; at = g }) mode)
      turn_forward_in shape n i seen f g each New h ta e =
          reached_both shape i seen f g each (reach a i n (f i) (begin a.first (seen.walks i))) (reach b i (K * (n + 1)) (g i) (begin b.first (seen.walks i))) (λ asking is. subst (λ t. Found i asking (reach b i (K * (n + 1)) t (begin b.first (seen.walks i)))) (sym h.1) (forward_new i n (seen.walks i) asking (sym (ap (λ s. reach a i n s (begin a.first (seen.walks i))) h.0) ∙ is))) ta e
      turn_forward_in shape n i seen f g each Going h ta e =
          reached_both shape i seen f g each (reach a i n (f i) (seen.walks i)) (reach b i (K * (n + 1)) (g i) (seen.walks i)) (forward_going i n (f i) (g i) h (seen.walks i)) ta e
      turn_forward_in shape n i seen f g each (Waiting site) h ta e =
          record { event = None; seen = seen; f = f; g = g; left = refl; right = refl; alike = each }
      turn_forward_in shape n i seen f g each Ended h ta e =
          record { event = None; seen = seen; f = f; g = g; left = refl; right = refl; alike = each }

      turn_forward : (shape : Shape) (n i : ℕ) (seen : Seen) (f : ℕ → S) (g : ℕ → T) → All_at seen f g → (ta : Turn S) → turn a shape n i (record { seen = seen; at = f }) ≡ Complete ta → Both_turns (turn a shape n i (record { seen = seen; at = f })) (turn b shape (K * (n + 1)) i (record { seen = seen; at = g }))
      turn_forward shape n i seen f g each ta e = by_test (nat_lt i (shape.groups * shape.size)) e
        where
          by_test : (c : Bool) → (if c then turn_in a shape n i (record { seen = seen; at = f }) (seen.modes i) else Complete (record { event = None; world = record { seen = seen; at = f } })) ≡ Complete ta → Both_turns (if c then turn_in a shape n i (record { seen = seen; at = f }) (seen.modes i) else Complete (record { event = None; world = record { seen = seen; at = f } })) (if c then turn_in b shape (K * (n + 1)) i (record { seen = seen; at = g }) (seen.modes i) else Complete (record { event = None; world = record { seen = seen; at = g } }))
          by_test true e = turn_forward_in shape n i seen f g each (seen.modes i) (each i) ta e
          by_test false e = record { event = None; seen = seen; f = f; g = g; left = refl; right = refl; alike = each }

      -- both runs are complete: the same events, the same memory, walks and modes
      pub record Both_runs (x : Outcome (Ran S)) (y : Outcome (Ran T)) : Type 0 where
        pub events : List (Option Event)
        pub seen : Seen
        pub f : ℕ → S
        pub g : ℕ → T
        pub left : x ≡ Complete (record { events = events; world = record { seen = seen; at = f } })
        pub right : y ≡ Complete (record { events = events; world = record { seen = seen; at = g } })

      run_forward : (shape : Shape) (n : ℕ) (schedule : List ℕ) (seen : Seen) (f : ℕ → S) (g : ℕ → T) → All_at seen f g → (ran : Ran S) → run a shape n schedule (record { seen = seen; at = f }) ≡ Complete ran → Both_runs (run a shape n schedule (record { seen = seen; at = f })) (run b shape (K * (n + 1)) schedule (record { seen = seen; at = g }))
      run_forward shape n [] seen f g each ran e =
          record { events = []; seen = seen; f = f; g = g; left = refl; right = refl }
      run_forward shape n (i ∷ schedule) seen f g each ran e =
          let first = and_then_complete (turn a shape n i (record { seen = seen; at = f })) (after_turn (run a shape n schedule)) ran e in
          let both = turn_forward shape n i seen f g each first.0 first.1 in
          let same : first.0 ≡ record { event = both.event; world = record { seen = both.seen; at = both.f } } = complete_inj (sym first.1 ∙ both.left) in
          let going = subst (λ t. after_turn (run a shape n schedule) t ≡ Complete ran) same first.2 in
          let second = and_then_complete (run a shape n schedule (record { seen = both.seen; at = both.f })) (after_run both.event) ran going in
          let rest = run_forward shape n schedule both.seen both.f both.g both.alike second.0 second.1 in
          record {
            events = both.event ∷ rest.events;
            seen = rest.seen;
            f = rest.f;
            g = rest.g;
            left = ap (λ o. and_then o (after_turn (run a shape n schedule))) both.left ∙ ap (λ o. and_then o (after_run both.event)) rest.left;
            right = ap (λ o. and_then o (after_turn (run b shape (K * (n + 1)) schedule))) both.right ∙ ap (λ o. and_then o (after_run both.event)) rest.right;
          }

      settled_back : (shape : Shape) (i : ℕ) (ask : Ask) (walk : Walk) (seen : Seen) (f : ℕ → S) (g : ℕ → T) (next : ℕ → S) (next' : ℕ → T) → Unless_end ask ((v : ℕ) → R i (next v) (next' v)) → All_at seen f g → (tb : Turn T) → after_settle i g next' (settle shape i ask walk seen) ≡ Complete tb → Both_turns (after_settle i f next (settle shape i ask walk seen)) (after_settle i g next' (settle shape i ask walk seen))
      settled_back shape i ask walk seen f g next next' r each tb e = by_outcome (settle shape i ask walk seen) refl e
        where
          by_outcome : (o : Outcome Made) → settle shape i ask walk seen ≡ o → after_settle i g next' o ≡ Complete tb → Both_turns (after_settle i f next o) (after_settle i g next' o)
          by_outcome Undefined is e = absurd (not_undefined_complete e)
          by_outcome Busy is e = absurd (not_busy_complete e)
          by_outcome (Complete made) is e =
              record {
                event = Some made.event;
                seen = made.seen;
                f = with_at i (next made.event.answer) f;
                g = with_at i (next' made.event.answer) g;
                left = refl;
                right = refl;
                alike = after_settling i ask seen made.seen (next made.event.answer) (next' made.event.answer) f g (settles shape i ask walk seen made is) (at_answer ask (R i) next next' made.event.answer r) each;
              }

      reached_back : (shape : Shape) (i : ℕ) (seen : Seen) (f : ℕ → S) (g : ℕ → T) → All_at seen f g → (x : Outcome (Asking S)) (y : Outcome (Asking T)) → ((asking : Asking T) → y ≡ Complete asking → (x ≡ Undefined) ⊎ Found_back i x asking) → (tb : Turn T) → after_reach shape i seen g y ≡ Complete tb → (after_reach shape i seen f x ≡ Undefined) ⊎ Both_turns (after_reach shape i seen f x) (after_reach shape i seen g y)
      reached_back shape i seen f g each x Undefined h tb e = absurd (not_undefined_complete e)
      reached_back shape i seen f g each x Busy h tb e = absurd (not_busy_complete e)
      reached_back shape i seen f g each x (Complete asking) h tb e =
          ⊎_elim (λ u. inl (ap (after_reach shape i seen f) u)) (λ found. inr (subst (λ x. Both_turns (after_reach shape i seen f x) (after_reach shape i seen g (Complete asking))) (sym found.is) (settled_back shape i asking.ask asking.walk seen f g found.next asking.next found.after each tb e))) (h asking refl)

      turn_back_in : (shape : Shape) (n i : ℕ) (seen : Seen) (f : ℕ → S) (g : ℕ → T) → All_at seen f g → (mode : Mode) → At mode i (f i) (g i) → (tb : Turn T) → turn_in b shape n i (record { seen = seen; at = g }) mode ≡ Complete tb → (turn_in a shape (L * (n + 1)) i (record { seen = seen; at = f }) mode ≡ Undefined) ⊎ Both_turns (turn_in a shape (L * (n + 1)) i (record { seen = seen; at = f }) mode) (turn_in b shape n i (record { seen = seen; at = g }) mode)
      turn_back_in shape n i seen f g each New h tb e =
          reached_back shape i seen f g each (reach a i (L * (n + 1)) (f i) (begin a.first (seen.walks i))) (reach b i n (g i) (begin b.first (seen.walks i))) (λ asking is. subst (λ s. (reach a i (L * (n + 1)) s (begin a.first (seen.walks i)) ≡ Undefined) ⊎ Found_back i (reach a i (L * (n + 1)) s (begin a.first (seen.walks i))) asking) (sym h.0) (backward_new i n (seen.walks i) asking (sym (ap (λ t. reach b i n t (begin b.first (seen.walks i))) h.1) ∙ is))) tb e
      turn_back_in shape n i seen f g each Going h tb e =
          reached_back shape i seen f g each (reach a i (L * (n + 1)) (f i) (seen.walks i)) (reach b i n (g i) (seen.walks i)) (backward_going i n (f i) (g i) h (seen.walks i)) tb e
      turn_back_in shape n i seen f g each (Waiting site) h tb e =
          inr (record { event = None; seen = seen; f = f; g = g; left = refl; right = refl; alike = each })
      turn_back_in shape n i seen f g each Ended h tb e =
          inr (record { event = None; seen = seen; f = f; g = g; left = refl; right = refl; alike = each })

      turn_back : (shape : Shape) (n i : ℕ) (seen : Seen) (f : ℕ → S) (g : ℕ → T) → All_at seen f g → (tb : Turn T) → turn b shape n i (record { seen = seen; at = g }) ≡ Complete tb → (turn a shape (L * (n + 1)) i (record { seen = seen; at = f }) ≡ Undefined) ⊎ Both_turns (turn a shape (L * (n + 1)) i (record { seen = seen; at = f })) (turn b shape n i (record { seen = seen; at = g }))
      turn_back shape n i seen f g each tb e = by_test (nat_lt i (shape.groups * shape.size)) e
        where
          turn_a : Bool → Outcome (Turn S)
          turn_a c = if c then turn_in a shape (L * (n + 1)) i (record { seen = seen; at = f }) (seen.modes i) else Complete (record { event = None; world = record { seen = seen; at = f } })

          turn_b : Bool → Outcome (Turn T)
          turn_b c = if c then turn_in b shape n i (record { seen = seen; at = g }) (seen.modes i) else Complete (record { event = None; world = record { seen = seen; at = g } })

          by_test : (c : Bool) → turn_b c ≡ Complete tb → (turn_a c ≡ Undefined) ⊎ Both_turns (turn_a c) (turn_b c)
          by_test true e = turn_back_in shape n i seen f g each (seen.modes i) (each i) tb e
          by_test false e = inr (record { event = None; seen = seen; f = f; g = g; left = refl; right = refl; alike = each })

      -- the claim on a schedule, from the target to the source
      abbrev pub Back : Shape → ℕ → List ℕ → Type 0
      Back shape n schedule =
          (seen : Seen) (f : ℕ → S) (g : ℕ → T) → All_at seen f g → (ran : Ran T) → run b shape n schedule (record { seen = seen; at = g }) ≡ Complete ran → (run a shape (L * (n + 1)) schedule (record { seen = seen; at = f }) ≡ Undefined) ⊎ Both_runs (run a shape (L * (n + 1)) schedule (record { seen = seen; at = f })) (run b shape n schedule (record { seen = seen; at = g }))

      back_step : (shape : Shape) (n i : ℕ) (schedule : List ℕ) → Back shape n schedule → (seen : Seen) (f : ℕ → S) (g : ℕ → T) (ran : Ran T) (tb : Turn T) → turn b shape n i (record { seen = seen; at = g }) ≡ Complete tb → after_turn (run b shape n schedule) tb ≡ Complete ran → Both_turns (turn a shape (L * (n + 1)) i (record { seen = seen; at = f })) (turn b shape n i (record { seen = seen; at = g })) → (run a shape (L * (n + 1)) (i ∷ schedule) (record { seen = seen; at = f }) ≡ Undefined) ⊎ Both_runs (run a shape (L * (n + 1)) (i ∷ schedule) (record { seen = seen; at = f })) (run b shape n (i ∷ schedule) (record { seen = seen; at = g }))
      back_step shape n i schedule ih seen f g ran tb is e both =
          let same : tb ≡ record { event = both.event; world = record { seen = both.seen; at = both.g } } = complete_inj (sym is ∙ both.right) in
          let going = subst (λ t. after_turn (run b shape n schedule) t ≡ Complete ran) same e in
          let second = and_then_complete (run b shape n schedule (record { seen = both.seen; at = both.g })) (after_run both.event) ran going in
          let start = ap (λ o. and_then o (after_turn (run a shape (L * (n + 1)) schedule))) both.left in
          let start' = ap (λ o. and_then o (after_turn (run b shape n schedule))) both.right in
          ⊎_elim (λ u. inl (start ∙ ap (λ o. and_then o (after_run both.event)) u)) (λ rest. inr (record { events = both.event ∷ rest.events; seen = rest.seen; f = rest.f; g = rest.g; left = start ∙ ap (λ o. and_then o (after_run both.event)) rest.left; right = start' ∙ ap (λ o. and_then o (after_run both.event)) rest.right })) (ih both.seen both.f both.g both.alike second.0 second.1)

      run_back : (shape : Shape) (n : ℕ) (schedule : List ℕ) → Back shape n schedule
      run_back shape n [] seen f g each ran e =
          inr (record { events = []; seen = seen; f = f; g = g; left = refl; right = refl })
      run_back shape n (i ∷ schedule) seen f g each ran e =
          let first = and_then_complete (turn b shape n i (record { seen = seen; at = g })) (after_turn (run b shape n schedule)) ran e in
          ⊎_elim (λ u. inl (ap (λ o. and_then o (after_turn (run a shape (L * (n + 1)) schedule))) u)) (back_step shape n i schedule (run_back shape n schedule) seen f g ran first.0 first.1 first.2) (turn_back shape n i seen f g each first.0 first.1)

      -- the theorem: both halves, from the start of a launch
      pub forward_runs : (shape : Shape) (memory : Memory) (schedule : List ℕ) (n : ℕ) (ran : Ran S) → run a shape n schedule (at_first a memory) ≡ Complete ran → Both_runs (run a shape n schedule (at_first a memory)) (run b shape (K * (n + 1)) schedule (at_first b memory))
      forward_runs shape memory schedule n ran e =
          run_forward shape n schedule (at_first a memory).seen (at_first a memory).at (at_first b memory).at (λ j. (refl, refl)) ran e

      pub backward_runs : (shape : Shape) (memory : Memory) (schedule : List ℕ) (n : ℕ) (ran : Ran T) → run b shape n schedule (at_first b memory) ≡ Complete ran → (run a shape (L * (n + 1)) schedule (at_first a memory) ≡ Undefined) ⊎ Both_runs (run a shape (L * (n + 1)) schedule (at_first a memory)) (run b shape n schedule (at_first b memory))
      backward_runs shape memory schedule n ran e =
          run_back shape n schedule (at_first a memory).seen (at_first a memory).at (at_first b memory).at (λ j. (refl, refl)) ran e
