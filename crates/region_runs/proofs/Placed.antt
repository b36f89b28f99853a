-- A region in its place: its code, and where the ways lead behind it.
use Rattle.std.proofs.Common.{◌≡◌, ◌≢◌, ℕ, suc, ◌+◌, ◌-◌, ◌*◌, ◌≤◌, Bool, true, false, [], length, refl, sym, subst, arith}
use Rattle.std.specs.Prelude.{nat_eq, if◌then◌else◌}
use Rattle.dxil_form.specs.Wired.{MayWant}
use Rattle.dxil_meaning.proofs.Simulation.{leads_none}
use Rattle.spirv_meaning.specs.Target.{State}
use Rattle.spirv_code.specs.declared.key.Global.TheVariants as global
use Rattle.spirv_code.specs.Plans.{inst, passed_label}
use Rattle.spirv_code.specs.Trees.{Tree, label_at, place_of, tree_at}
use Rattle.spirv_code.specs.Rows.{row_code}
use Rattle.spirv_code.specs.Further.{wants}
use Rattle.line_runs.specs.Held.{Has, Uses, machine}
use Rattle.line_runs.specs.Exits.{ArrivesAt, Returns}
use Rattle.line_runs.proofs.Tests.{nat_eq-eq}
use Rattle.region_runs.specs.Standing.{HasWant}
use Rattle.region_runs.proofs.Ways.{Scene, At, Label, size, at_below, Forth, forth_one, forth_on, then_arrives, then_returns}
use Rattle.region_runs.proofs.Steps.{at_label, pass_label, forth_to, onwards_past}
use Rattle.region_runs.proofs.Wanting.{Wanting, when_goes}
use Rattle.region_runs.proofs.Codes.{Stands, WhenParts}
use Rattle.region_runs.proofs.Entries.{tree}

-- how many instructions the code of a tree has
abbrev pub span : Scene → ℕ → Tree → ℕ
span e place x = length (row_code e.s.context place x)

-- the number for no block
abbrev pub nothing : Scene → ℕ
nothing e = length e.s.program.blocks

-- where block k is wanted there, it comes to the site of k
pub record Onward (e : Scene) (k to : ℕ) : Type 0 where
  pub is_wanted : wants e.s.program e.list ≡ true
  pub arrives : (t : State) → t.at ≡ to → Wanting e k t → ArrivesAt e.s e.i t k

-- what follows the end of a region
pub record After (e : Scene) (r to : ℕ) : Type 0 where
  pub onward : (k : ℕ) → MayWant e.s.program e.list r k → Onward e k to
  pub ends : (t : State) → t.at ≡ to → HasWant e.s t (nothing e) → Returns e.s e.i t

pub record Placed (e : Scene) (r head place : ℕ) : Type 0 where
  pub stands : Stands e (tree e r) head place
  pub after : After e r (place + span e place (tree e r))

pub still : (e : Scene) (w q : ℕ) (t : State) → Wanting e w t → Wanting e w (at_label q t)
still e w q t h = record { id = h.id; slot = h.slot; holds = h.holds }

-- what is wanted, where the variable is there
pub wanting : (e : Scene) (w : ℕ) (t : State) → wants e.s.program e.list ≡ true → HasWant e.s t w → Wanting e w t
wanting e w t there want =
    let id = e.has.want there in
    record { id = id.0; slot = id.1; holds = want id.0 id.1 }

pub differ : (a b : ℕ) → a ≢ b → nat_eq a b ≡ false
differ a b apart = by_test (nat_eq a b) refl
  where
    by_test : (x : Bool) → nat_eq a b ≡ x → x ≡ false
    by_test true e = absurd (apart (nat_eq-eq a b e))
    by_test false e = refl

-- a part whose end leads to the end of its region, or to another place behind which its ways are known
pub after_by : (e : Scene) (r s to to' : ℕ) → ((k : ℕ) → MayWant e.s.program e.list s k → MayWant e.s.program e.list r k) → ((t : State) → t.at ≡ to → Forth e t (at_label to' t)) → After e r to' → After e s to
after_by e r s to to' may goes after =
    record {
      onward = λ k wants_k. record {
        is_wanted = (after.onward k (may k wants_k)).is_wanted;
        arrives = λ t at w. then_arrives e t (at_label to' t) k (goes t at) (λ id other. refl) ((after.onward k (may k wants_k)).arrives (at_label to' t) refl (still e k to' t w));
      };
      ends = λ t at want. then_returns e t (at_label to' t) (goes t at) (after.ends (at_label to' t) refl want);
    }

-- ---- a region that runs only where its block is wanted

-- where another block is wanted
pub when_past : (e : Scene) (place k w : ℕ) (x : Tree) (t : State) → WhenParts e place k x → t.at ≡ place → Wanting e w t → Uses e.s (global.Number k) → nat_eq w k ≡ false → Forth e t (at_label (place + 5 + span e (place + 5) x + 2) t)
when_past e place k w x t parts at h uses other =
    let q : ℕ = place + 5 + span e (place + 5) x + 1 in
    let label = parts.out.1.0 in
    let first = when_goes e place k w (label_at x) (place_of x) q t at parts.head h uses (omega arith) (subst (λ b. Label e q (if b then label_at x else passed_label (place_of x))) (sym other) label) in
    let second = forth_one e (at_label q t) (at_label (suc q) t) (omega arith) (pass_label e q (passed_label (place_of x)) (at_label q t) refl label (e.has.others (place_of x) 6 q (omega arith) (omega arith) label)) in
    forth_to e (suc q) (place + 5 + span e (place + 5) x + 2) t t (omega arith) (forth_on e t (at_label q t) (at_label (suc q) t) first second)

-- where its block is wanted
pub when_in : (e : Scene) (place k w : ℕ) (x : Tree) (t : State) → WhenParts e place k x → t.at ≡ place → Wanting e w t → Uses e.s (global.Number k) → nat_eq w k ≡ true → Forth e t (at_label (place + 4) t)
when_in e place k w x t parts at h uses same =
    when_goes e place k w (label_at x) (place_of x) (place + 4) t at parts.head h uses (omega arith) (subst (λ b. Label e (place + 4) (if b then label_at x else passed_label (place_of x))) (sym same) parts.stands.label)

-- from its end
pub when_out : (e : Scene) (place k : ℕ) (x : Tree) (t : State) → WhenParts e place k x → t.at ≡ place + 5 + span e (place + 5) x → Forth e t (at_label (place + 5 + span e (place + 5) x + 2) t)
when_out e place k x t parts at =
    let q : ℕ = place + 5 + span e (place + 5) x in
    onwards_past e q (passed_label (place_of x)) t at parts.out (e.has.others (place_of x) 6 (q + 1) (omega arith) (omega arith) parts.out.1.0)

-- ---- the root

pub root_placed : (e : Scene) → Placed e e.wired.root e.head e.place
root_placed e =
    let last = e.wired.last in
    let same : length e.list - 1 ≡ e.wired.root = omega (arith, last) in
    let returns = subst (λ r. At e (e.place + span e e.place (tree_at e.list r)) (inst 253 [])) same e.has.returns in
    record {
      stands = record {
        label = subst (λ r. Label e e.head (label_at (tree_at e.list r))) same e.has.begins;
        ahead = e.has.ahead;
        between = e.has.between;
        code = subst (λ r. Has e.s.made e.place (row_code e.s.context e.place (tree_at e.list r))) same e.has.code;
      };
      after = record {
        onward = λ k may. absurd (e.wired.over k may);
        ends = λ t at want. record {
          n = 0;
          few = room t at returns;
          t' = t;
          leads = leads_none (machine e.s) e.i t;
          is = subst (λ p. At e p (inst 253 [])) (sym at) returns;
        };
      };
    }
  where
    room : (t : State) → t.at ≡ e.place + span e e.place (tree e e.wired.root) → At e (e.place + span e e.place (tree e e.wired.root)) (inst 253 []) → 0 + t.at ≤ 2 * size e
    room t at returns =
        let below = at_below e (e.place + span e e.place (tree e e.wired.root)) (inst 253 []) returns in
        omega (arith, at, below)
