-- Ways through a module: forwards from place to place, to a site, and to the return.
use Rattle.std.proofs.Common.{◌≡◌, ℕ, zero, suc, ◌+◌, ◌≤◌, ◌<◌, Bool, true, false, List, [], ◌∷◌, length, Option, Some, None, refl, sym, ap, ◌∙◌, arith}
use Rattle.std.specs.Prelude.{slice_get, if◌then◌else◌}
use Rattle.dxil_form.specs.declared.region.Region.{Region}
use Rattle.dxil_form.specs.Sound.{Sound}
use Rattle.dxil_form.specs.Wired.{Wired}
use Rattle.spv_form.specs.declared.module.Inst.{Inst}
use Rattle.dxil_meaning.specs.Steps.{Leads}
use Rattle.dxil_meaning.proofs.Simulation.{leads_none, leads_on}
use Rattle.spirv_meaning.specs.Names.{label_of, is_some_at}
use Rattle.spirv_meaning.specs.Target as spv
use Rattle.spirv_meaning.specs.Target.{State}
use Rattle.spirv_code.specs.Exits.{label_inst}
use Rattle.line_runs.specs.Held.{Setting, machine}
use Rattle.line_runs.specs.Declared.{Declares}
use Rattle.line_runs.specs.Exits.{Keeps, IsSite, ArrivesAt, Returns}
use Rattle.line_runs.proofs.Tests.{none_some, some_inj, true_false, nat_eq-eq, nat_eq-refl, if_true}
use Rattle.region_runs.specs.Standing.{HasRegions}

-- a module that has the regions of a sound program, and one of its invocations
pub record Scene : Type 0 where
  pub s : Setting
  pub declares : Declares s
  pub sound : Sound s.program
  pub list : List Region
  pub wired : Wired s.program list
  pub head : ℕ
  pub place : ℕ
  pub has : HasRegions s list head place
  pub i : ℕ

-- the instruction stands at the place
abbrev pub At : Scene → ℕ → Inst → Type 0
At e place x = slice_get e.s.made.insts place ≡ Some x

abbrev pub Label : Scene → ℕ → ℕ → Type 0
Label e place id = At e place (label_inst id)

abbrev pub Runs : Scene → ℕ → State → State → Type 0
Runs e n t t' = Leads (machine e.s) e.i n t [] t'

abbrev pub NoResults : State → Type 0
NoResults t = (id : ℕ) → t.results id ≡ None

abbrev pub size : Scene → ℕ
size e = length e.s.made.insts

-- ---- places of a list

pub get_below : {A : Type 0} (xs : List A) (n : ℕ) (x : A) → slice_get xs n ≡ Some x → n < length xs
get_below [] n x e = absurd (none_some e)
get_below (y ∷ ys) zero x e = omega arith
get_below (y ∷ ys) (suc n) x e = let less : n < length ys = get_below ys n x e in omega (arith, less)

pub at_below : (e : Scene) (place : ℕ) (x : Inst) → At e place x → place < size e
at_below e place x here = get_below e.s.made.insts place x here

-- ---- labels

some_at : (o : Option ℕ) (id : ℕ) → is_some_at o id ≡ true → o ≡ Some id
some_at None id e = absurd (true_false (sym e))
some_at (Some x) id e = ap Some (nat_eq-eq x id e)

-- the label that stands once is found
find_label : (insts : List Inst) (id n q : ℕ) (x : Inst) → slice_get insts q ≡ Some x → label_of x ≡ Some id → ((p : ℕ) (y : Inst) → slice_get insts p ≡ Some y → label_of y ≡ Some id → p ≡ q) → spv.label_at insts id n ≡ Some (n + q)
find_label [] id n q x here is once = absurd (none_some here)
find_label (y ∷ insts) id n zero x here is once =
    let found : is_some_at (label_of y) id ≡ true = ap (λ z. is_some_at (label_of z) id) (some_inj here) ∙ ap (λ o. is_some_at o id) is ∙ nat_eq-refl id in
    let same : n ≡ n + 0 = omega arith in
    if_true (is_some_at (label_of y) id) found (Some n) (spv.label_at insts id (suc n)) ∙ ap Some same
find_label (y ∷ insts) id n (suc q) x here is once =
    let same : suc n + q ≡ n + suc q = omega arith in
    by_test (is_some_at (label_of y) id) refl (find_label insts id (suc n) q x here is (λ p z at l. below p (once (suc p) z at l)) ∙ ap Some same)
  where
    below : (p : ℕ) → suc p ≡ suc q → p ≡ q
    below p e = omega (arith, e)

    by_test : (b : Bool) → is_some_at (label_of y) id ≡ b → spv.label_at insts id (suc n) ≡ Some (n + suc q) → (if b then Some n else spv.label_at insts id (suc n)) ≡ Some (n + suc q)
    by_test true e rest =
        let early : 0 ≡ suc q = once 0 y refl (some_at (label_of y) id e) in
        absurd (omega (arith, early))
    by_test false e rest = rest

pub label_found : (e : Scene) (q id : ℕ) → Label e q id → spv.label_at e.s.made.insts id 0 ≡ Some q
label_found e q id here =
    let same : 0 + q ≡ q = omega arith in
    find_label e.s.made.insts id 0 q (label_inst id) here refl (λ p y at l. e.has.once p q id y (label_inst id) at here l refl) ∙ ap Some same

-- ---- forwards

-- in quiet steps, of which each goes on by a place at least
pub record Forth (e : Scene) (t t' : State) : Type 0 where
  pub n : ℕ
  pub few : n + t.at ≤ t'.at
  pub leads : Runs e n t t'

pub forth_one : (e : Scene) (t t' : State) → t.at < t'.at → Runs e 1 t t' → Forth e t t'
forth_one e t t' ahead leads = record { n = 1; few = omega (arith, ahead); leads = leads }

pub forth_on : (e : Scene) (t t' t'' : State) → Forth e t t' → Forth e t' t'' → Forth e t t''
forth_on e t t' t'' a b =
    record {
      n = a.n + b.n;
      few = omega (arith, a.few, b.few);
      leads = leads_on (machine e.s) e.i a.n b.n t t' t'' [] [] a.leads b.leads;
    }

pub forth_none : (e : Scene) (t : State) → Forth e t t
forth_none e t = record { n = 0; few = omega arith; leads = leads_none (machine e.s) e.i t }

-- ---- to a site

-- forwards to the site of block k, where all variables are as before
pub record Comes (e : Scene) (t : State) (k : ℕ) : Type 0 where
  pub site : ℕ
  pub is : IsSite e.s k site
  pub n : ℕ
  pub t' : State
  pub few : n + t.at ≤ site
  pub leads : Runs e n t t'
  pub at : t'.at ≡ site
  pub results : NoResults t'
  pub locals : (id : ℕ) → t'.locals id ≡ t.locals id

pub then_comes : (e : Scene) (t t' : State) (k : ℕ) → Forth e t t' → ((id : ℕ) → t'.locals id ≡ t.locals id) → Comes e t' k → Comes e t k
then_comes e t t' k a same b =
    record {
      site = b.site;
      is = b.is;
      n = a.n + b.n;
      t' = b.t';
      few = omega (arith, a.few, b.few);
      leads = leads_on (machine e.s) e.i a.n b.n t t' b.t' [] [] a.leads b.leads;
      at = b.at;
      results = b.results;
      locals = λ id. b.locals id ∙ same id;
    }

-- some steps to a state from which it comes to the site
pub arrives_in : (e : Scene) (n : ℕ) (t t' : State) (k : ℕ) → Runs e n t t' → n + t.at ≤ size e → Keeps e.s t t' → Comes e t' k → ArrivesAt e.s e.i t k
arrives_in e n t t' k leads few keeps b =
    let below = at_below e b.site (label_inst b.is.label.0) b.is.label.1 in (
      b.site,
      b.is,
      record {
        n = n + b.n;
        few = omega (arith, few, b.few, below);
        t' = b.t';
        leads = leads_on (machine e.s) e.i n b.n t t' b.t' [] [] leads b.leads;
        at = b.at;
        results = b.results;
        keeps = λ id other. b.locals id ∙ keeps id other;
      },
    )

pub comes_arrives : (e : Scene) (t : State) (k : ℕ) → Comes e t k → ArrivesAt e.s e.i t k
comes_arrives e t k b =
    let below = at_below e b.site (label_inst b.is.label.0) b.is.label.1 in (
      b.site,
      b.is,
      record {
        n = b.n;
        few = omega (arith, b.few, below);
        t' = b.t';
        leads = b.leads;
        at = b.at;
        results = b.results;
        keeps = λ id other. b.locals id;
      },
    )

pub then_arrives : (e : Scene) (t t' : State) (k : ℕ) → Forth e t t' → Keeps e.s t t' → ArrivesAt e.s e.i t' k → ArrivesAt e.s e.i t k
then_arrives e t t' k a keeps b =
    let c = b.2 in (
      b.0,
      b.1,
      record {
        n = a.n + c.n;
        few = omega (arith, a.few, c.few);
        t' = c.t';
        leads = leads_on (machine e.s) e.i a.n c.n t t' c.t' [] [] a.leads c.leads;
        at = c.at;
        results = c.results;
        keeps = λ id other. c.keeps id other ∙ keeps id other;
      },
    )

pub then_returns : (e : Scene) (t t' : State) → Forth e t t' → Returns e.s e.i t' → Returns e.s e.i t
then_returns e t t' a b =
    record {
      n = a.n + b.n;
      few = omega (arith, a.few, b.few);
      t' = b.t';
      leads = leads_on (machine e.s) e.i a.n b.n t t' b.t' [] [] a.leads b.leads;
      is = b.is;
    }
