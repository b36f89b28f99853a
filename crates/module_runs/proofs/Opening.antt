-- From the first instruction of the function to the site of block 0.
use Rattle.std.proofs.Common.{◌≡◌, ℕ, suc, ◌+◌, ◌<◌, List, [], None, refl, ◌∙◌, arith}
use Rattle.dxil_form.specs.declared.value.Ty.{Ty}
use Rattle.dxil_form.specs.declared.value.Ty.TheVariants as ty
use Rattle.dxil_form.specs.declared.region.Region.{Region}
use Rattle.dxil_form.specs.Sound.{Sound}
use Rattle.dxil_form.specs.Wired.{Wired}
use Rattle.spirv_meaning.specs.Names.{begun_at}
use Rattle.spirv_meaning.specs.Target.{State, first_of, next}
use Rattle.spirv_code.specs.declared.key.Slot.TheVariants.{Want}
use Rattle.spirv_code.specs.Plans.{first_label}
use Rattle.spirv_code.specs.Trees.{label_at, root_of}
use Rattle.line_runs.specs.Held.{Setting, IsOf, machine}
use Rattle.line_runs.specs.Declared.{held_type}
use Rattle.line_runs.specs.Exits.{ArrivesAt}
use Rattle.region_runs.specs.Standing.{HasWant}
use Rattle.region_runs.proofs.Ways.{Scene, Forth, forth_one, forth_on, then_arrives}
use Rattle.region_runs.proofs.Steps.{at_label, moved, pass, pass_label, jump, pass_to}
use Rattle.region_runs.proofs.Whole.{regions_stand}
use Rattle.leaf_runs.specs.Laws.{BeginsAt}
use Rattle.module_runs.specs.Stands.{Opens, with_root, before_root, zero_value, ModuleStands}

abbrev pub scene_of : (s : Setting) → Sound s.program → (list : List Region) → Wired s.program list → ModuleStands s list → ℕ → Scene
scene_of s sound list wired m i =
    record {
      s = s;
      declares = m.declares;
      sound = sound;
      list = list;
      wired = wired;
      head = m.head;
      place = m.place;
      has = m.regions;
      i = i;
    }

-- the function's first instruction, from which the machine starts
abbrev start : Scene → ℕ
start e = first_of 54 e.s.made.insts

-- from the start to the label of the root, forwards
record ToRoot (e : Scene) : Type 0 where
  t' : State
  at : t'.at ≡ e.head
  forth : Forth e (machine e.s).start t'
  results : (id : ℕ) → t'.results id ≡ None
  locals : (id : ℕ) → t'.locals id ≡ (machine e.s).start.locals id

to_root : (e : Scene) → Opens e.s e.list e.head → ToRoot e
to_root e (with_root operands function is) =
    let t0 : State = (machine e.s).start in
    let first = forth_one e t0 (next t0) (omega arith) (pass e (start e) 54 operands t0 refl function refl) in
    let at : suc (start e) ≡ e.head = omega (arith, is) in
    record { t' = next t0; at = at; forth = first; results = λ id. refl; locals = λ id. refl }
to_root e (before_root operands r last function label ahead between branch is) =
    let t0 : State = (machine e.s).start in
    let q : ℕ = start e + 1 in
    let first = forth_one e t0 (next t0) (omega arith) (pass e (start e) 54 operands t0 refl function refl) in
    let at_q : suc (start e) ≡ q = omega arith in
    let none : begun_at e.s.made q ≡ [] = e.has.others r 7 q (omega arith) (omega arith) label in
    let second = forth_one e (next t0) (next (next t0)) (omega arith) (pass_label e q (first_label r) (next t0) at_q label none) in
    let behind : suc (suc (start e)) ≡ suc q = omega arith in
    let third = pass_to e q last (next (next t0)) behind ahead between in
    let t3 : State = moved last (next (next t0)) in
    let t4 : State = at_label e.head t3 in
    let beyond : last < e.head = omega (arith, is) in
    let fourth = forth_one e t3 t4 beyond (jump e last e.head (label_at (root_of e.list)) t3 refl branch e.has.begins) in
    record {
      t' = t4;
      at = refl;
      forth = forth_on e t0 t3 t4 (forth_on e t0 (next (next t0)) t3 (forth_on e t0 (next t0) (next (next t0)) first second) third) fourth;
      results = λ id. refl;
      locals = λ id. refl;
    }

zero_of_type : (type : Ty) → IsOf type (zero_value type)
zero_of_type ty.Int = tt
zero_of_type ty.Bool = tt

-- the variables begin with values of their types, and the machine comes to the site of block 0
pub begins_at : (s : Setting) → Sound s.program → (list : List Region) → Wired s.program list → ModuleStands s list → BeginsAt s
begins_at s sound list wired m =
    record { variables = λ slot id is. (zero_value (held_type slot), m.zeros slot id is, zero_of_type (held_type slot)); arrives = arrives }
  where
    arrives : (i : ℕ) → ArrivesAt s i (machine s).start 0
    arrives i =
        let e = scene_of s sound list wired m i in
        let way = to_root e m.opens in
        let stands = regions_stand s m.declares sound list wired m.head m.place m.regions i in
        let want : HasWant s way.t' 0 = λ id is. way.locals id ∙ m.zeros Want id is in
        then_arrives e (machine s).start way.t' 0 way.forth (λ id others. way.locals id) (stands.begins way.t' way.at way.results want)
