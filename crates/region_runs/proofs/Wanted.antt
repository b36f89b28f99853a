-- Arms that each run only where their block is wanted.
use Rattle.std.proofs.Common.{◌≡◌, ◌⊎◌, ℕ, suc, ◌+◌, ◌<◌, Bool, true, false, List, length, refl, sym, ◌∙◌, subst, arith, inl, inr}
use Rattle.std.specs.Prelude.{nat_eq}
use Rattle.dxil_form.specs.Walks.{EnteredBy}
use Rattle.spv_form.specs.declared.module.Inst.{Inst}
use Rattle.spirv_meaning.specs.Target.{State}
use Rattle.spirv_code.specs.declared.key.Global.TheVariants as global
use Rattle.spirv_code.specs.Trees.{Tree, Arms, No_arm, Arm}
use Rattle.spirv_code.specs.Rows.{when_code, row_code, wanted_arms}
use Rattle.line_runs.specs.Held.{Has, Uses}
use Rattle.line_runs.proofs.Tests.{true_false, nat_eq-eq, nat_eq-refl}
use Rattle.line_runs.proofs.Pieces.{has_front}
use Rattle.region_runs.proofs.Ways.{Scene, Forth, forth_on, forth_none, Comes, then_comes}
use Rattle.region_runs.proofs.Steps.{at_label}
use Rattle.region_runs.proofs.Wanting.{Wanting}
use Rattle.region_runs.proofs.Members.{Among}
use Rattle.region_runs.proofs.Codes.{Stands, WhenParts, when_parts, followed_at, followed_length}
use Rattle.region_runs.proofs.Entries.{tree, no_dispatch}
use Rattle.region_runs.proofs.Descent.{descend}
use Rattle.region_runs.proofs.Placed.{span, still, when_past, when_in}

-- an arm, and the arms behind it
pub record WantedIn (e : Scene) (k from to : ℕ) (arms : Arms) (x : Tree) : Type 0 where
  pub at : ℕ
  pub parts : WhenParts e at k x
  pub rest : Arms
  pub rest_code : Has e.s.made (at + 5 + span e (at + 5) x + 2) (wanted_arms e.s.context (at + 5 + span e (at + 5) x + 2) rest)
  pub ends : at + 5 + span e (at + 5) x + 2 + length (wanted_arms e.s.context (at + 5 + span e (at + 5) x + 2) rest) ≡ to
  pub among : (j : ℕ) (y : Tree) → Among rest j y → Among arms j y

-- the first of the arms, and the others
pub record FirstIn (e : Scene) (place target : ℕ) (other : Tree) (arms : Arms) : Type 0 where
  pub parts : WhenParts e place target other
  pub rest_code : Has e.s.made (place + 5 + span e (place + 5) other + 2) (wanted_arms e.s.context (place + 5 + span e (place + 5) other + 2) arms)
  pub ends : place + length (wanted_arms e.s.context place (Arm target other arms)) ≡ place + 5 + span e (place + 5) other + 2 + length (wanted_arms e.s.context (place + 5 + span e (place + 5) other + 2) arms)

pub first_in : (e : Scene) (place target : ℕ) (other : Tree) (arms : Arms) → Has e.s.made place (wanted_arms e.s.context place (Arm target other arms)) → FirstIn e place target other arms
first_in e place target other arms has =
    let c = e.s.context in
    let front : List Inst = when_code c place target other (λ q. row_code c q other) in
    let rest : ℕ → List Inst = λ p. wanted_arms c p arms in
    let parts = when_parts e place target other (has_front e.s.made place front (rest (place + length front)) has) in
    record {
      parts = parts;
      rest_code = followed_at e place (place + 5 + span e (place + 5) other + 2) front rest parts.ends has;
      ends = followed_length place (place + 5 + span e (place + 5) other + 2) front rest parts.ends;
    }

pub wanted_in : (e : Scene) (arms : Arms) (place k : ℕ) (x : Tree) → Among arms k x → Has e.s.made place (wanted_arms e.s.context place arms) → WantedIn e k place (place + length (wanted_arms e.s.context place arms)) arms x
wanted_in e No_arm place k x a has = absurd a
wanted_in e (Arm target other arms) place k x (inl same) has =
    let first = first_in e place target other arms has in
    let mine : WantedIn e target place (place + length (wanted_arms e.s.context place (Arm target other arms))) (Arm target other arms) other = record { at = place; parts = first.parts; rest = arms; rest_code = first.rest_code; ends = sym first.ends; among = λ j y a. inr a } in
    subst (λ y. WantedIn e k place (place + length (wanted_arms e.s.context place (Arm target other arms))) (Arm target other arms) y) same.1 (subst (λ n. WantedIn e n place (place + length (wanted_arms e.s.context place (Arm target other arms))) (Arm target other arms) other) same.0 mine)
wanted_in e (Arm target other arms) place k x (inr a) has =
    let first = first_in e place target other arms has in
    let next : ℕ = place + 5 + span e (place + 5) other + 2 in
    let rest = wanted_in e arms next k x a first.rest_code in
    record {
      at = rest.at;
      parts = rest.parts;
      rest = rest.rest;
      rest_code = rest.rest_code;
      ends = rest.ends ∙ sym first.ends;
      among = λ j y b. inr (rest.among j y b);
    }

-- what is known of each of the arms
pub record IsArm (e : Scene) (j : ℕ) (x : Tree) : Type 0 where
  pub region : ℕ
  pub is : tree e region ≡ x
  pub enters : EnteredBy e.list region j
  pub below : region < e.wired.root
  pub uses : Uses e.s (global.Number j)

-- past all arms
pub record PassedAll (e : Scene) (to : ℕ) (t : State) : Type 0 where
  pub t' : State
  pub at : t'.at ≡ to
  pub forth : Forth e t t'
  pub locals : (id : ℕ) → t'.locals id ≡ t.locals id

-- the tests of arms lead to the site of the block that is wanted, if one of them runs for it, and else past them
abbrev pub Tested : Scene → Arms → (w to : ℕ) → State → Type 0
Tested e arms w to t =
    ((x : Tree) × Among arms w x × Comes e t w) ⊎ (((x : Tree) → Among arms w x → ⊥) × PassedAll e to t)

pub tests_arms : (e : Scene) (arms : Arms) (place w : ℕ) (t : State) → Has e.s.made place (wanted_arms e.s.context place arms) → ((j : ℕ) (x : Tree) → Among arms j x → IsArm e j x) → t.at ≡ place → Wanting e w t → Tested e arms w (place + length (wanted_arms e.s.context place arms)) t
tests_arms e No_arm place w t has all at h =
    let same : t.at ≡ place + 0 = omega (arith, at) in
    inr (λ x a. a, record { t' = t; at = same; forth = forth_none e t; locals = λ id. refl })
tests_arms e (Arm target other arms) place w t has all at h =
    by_test (nat_eq w target) refl (λ t1 at1 h1. tests_arms e arms (place + 5 + span e (place + 5) other + 2) w t1 (first_in e place target other arms has).rest_code (λ j x a. all j x (inr a)) at1 h1)
  where
    first : FirstIn e place target other arms
    first = first_in e place target other arms has

    mine : IsArm e target other
    mine = all target other (inl (refl, refl))

    next : ℕ
    next = place + 5 + span e (place + 5) other + 2

    t1 : State
    t1 = at_label (place + 5 + span e (place + 5) other + 2) t

    runs : nat_eq w target ≡ true → Comes e t w
    runs same =
        let goes = when_in e place target w other t first.parts at h mine.uses same in
        let stands = subst (λ y. Stands e y (place + 4) (place + 5)) (sym mine.is) first.parts.stands in
        let enters = subst (λ n. EnteredBy e.list mine.region n) (sym (nat_eq-eq w target same)) mine.enters in
        let rest = descend e (suc mine.region) mine.region w (place + 4) (place + 5) (at_label (place + 4) t) (omega arith) enters stands refl (λ id. refl) (λ choices d. absurd (no_dispatch e mine.region choices mine.below d)) in
        then_comes e t (at_label (place + 4) t) w goes (λ id. refl) rest

    goes_on : nat_eq w target ≡ false → Forth e t (at_label (place + 5 + span e (place + 5) other + 2) t)
    goes_on differs = when_past e place target w other t first.parts at h mine.uses differs

    neither : nat_eq w target ≡ false → ((x : Tree) → Among arms w x → ⊥) → (x : Tree) → Among (Arm target other arms) w x → ⊥
    neither differs none x (inl same) =
        true_false (sym (subst (λ n. nat_eq w n ≡ true) (sym same.0) (nat_eq-refl w)) ∙ differs)
    neither differs none x (inr a) = none x a

    rest_of : nat_eq w target ≡ false → Tested e arms w (place + 5 + span e (place + 5) other + 2 + length (wanted_arms e.s.context (place + 5 + span e (place + 5) other + 2) arms)) (at_label (place + 5 + span e (place + 5) other + 2) t) → Tested e (Arm target other arms) w (place + length (wanted_arms e.s.context place (Arm target other arms))) t
    rest_of differs (inl found) =
        inl (found.0, inr found.1, then_comes e t (at_label (place + 5 + span e (place + 5) other + 2) t) w (goes_on differs) (λ id. refl) found.2)
    rest_of differs (inr passed) =
        let p = passed.1 in
        inr (neither differs passed.0, record { t' = p.t'; at = p.at ∙ sym first.ends; forth = forth_on e t (at_label (place + 5 + span e (place + 5) other + 2) t) p.t' (goes_on differs) p.forth; locals = p.locals })

    by_test : (b : Bool) → nat_eq w target ≡ b → ((t1 : State) → t1.at ≡ place + 5 + span e (place + 5) other + 2 → Wanting e w t1 → Tested e arms w (place + 5 + span e (place + 5) other + 2 + length (wanted_arms e.s.context (place + 5 + span e (place + 5) other + 2) arms)) t1) → Tested e (Arm target other arms) w (place + length (wanted_arms e.s.context place (Arm target other arms))) t
    by_test true same rest = inl (other, inl (sym (nat_eq-eq w target same), refl), runs same)
    by_test false differs rest =
        rest_of differs (rest (at_label (place + 5 + span e (place + 5) other + 2) t) refl (still e w (place + 5 + span e (place + 5) other + 2) t h))
