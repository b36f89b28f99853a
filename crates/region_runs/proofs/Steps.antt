-- Single steps: labels, branches, tests and stores.
use Rattle.std.proofs.Common.{◌≡◌, ℕ, zero, suc, ◌+◌, ◌-◌, ◌≤◌, ◌<◌, Bool, List, [], ◌∷◌, Some, None, refl, ap, ◌∙◌, subst, arith}
use Rattle.std.specs.Prelude.{if◌then◌else◌}
use Rattle.spv_form.specs.declared.module.Inst.{Inst}
use Rattle.dxil_meaning.specs.Launches.{Quiet}
use Rattle.spirv_meaning.specs.Names.{begun_at}
use Rattle.spirv_meaning.specs.Target as spv
use Rattle.spirv_meaning.specs.Target.{Word, Truth, Value, State, Passes, Label_begins, Branches, Branches_if, Switches, kind_of, given, as_truth, as_word, value_of, next}
use Rattle.spirv_code.specs.Plans.{inst}
use Rattle.spirv_code.specs.Exits.{branch_inst}
use Rattle.spirv_code.specs.Rows.{onwards}
use Rattle.line_runs.specs.Held.{Has}
use Rattle.line_runs.specs.Exits.{Variables}
use Rattle.line_runs.proofs.Pieces.{leads_one}
use Rattle.region_runs.proofs.Ways.{Scene, At, Label, Runs, label_found, Forth, forth_one, forth_on, forth_none}

-- the state at a place that was branched to
abbrev pub at_label : ℕ → State → State
at_label q t = record { at = q; results = λ id. None; locals = t.locals }

-- the same at another place
abbrev pub moved : ℕ → State → State
moved q t = record { at = q; results = t.results; locals = t.locals }

pub inst_there : (e : Scene) (p q : ℕ) (x : Inst) → p ≡ q → At e p x → At e q x
inst_there e p q x same here = subst (λ n. At e n x) same here

-- ---- branches

branch_gives : (e : Scene) (q id : ℕ) (t : State) → Label e q id → spv.branch e.s.made id t ≡ Quiet [] (at_label q t)
branch_gives e q id t there =
    ap (λ o. given o λ at. Quiet [] (record { at = at; results = λ id. None; locals = t.locals })) (label_found e q id there)

pub jump : (e : Scene) (place q id : ℕ) (t : State) → t.at ≡ place → At e place (branch_inst id) → Label e q id → Runs e 1 t (at_label q t)
jump e place q id t at here there =
    leads_one e.s e.i t (at_label q t) place 249 (id ∷ []) Branches at here refl (branch_gives e q id t there)

-- to one of two labels
pub fork : (e : Scene) (place test there other q : ℕ) (t : State) (b : Bool) → t.at ≡ place → At e place (inst 250 (test ∷ there ∷ other ∷ [])) → value_of e.s.made t test ≡ Some (Truth b) → Label e q (if b then there else other) → Runs e 1 t (at_label q t)
fork e place test there other q t b at here is label =
    leads_one e.s e.i t (at_label q t) place 250 (test ∷ there ∷ other ∷ []) Branches_if at here refl (ap (λ o. given (as_truth o) λ b'. spv.branch e.s.made (if b' then there else other) t) is ∙ branch_gives e q (if b then there else other) t label)

-- to the label of a case
pub switch : (e : Scene) (place value default q : ℕ) (cases : List ℕ) (t : State) (n : ℕ) → t.at ≡ place → At e place (inst 251 (value ∷ default ∷ cases)) → value_of e.s.made t value ≡ Some (Word n) → Label e q (spv.case_of n cases default) → Runs e 1 t (at_label q t)
switch e place value default q cases t n at here is label =
    leads_one e.s e.i t (at_label q t) place 251 (value ∷ default ∷ cases) Switches at here refl (ap (λ o. given (as_word o) λ x. spv.branch e.s.made (spv.case_of x cases default) t) is ∙ branch_gives e q (spv.case_of n cases default) t label)

-- ---- what is passed

pub pass : (e : Scene) (place opcode : ℕ) (operands : List ℕ) (t : State) → t.at ≡ place → At e place (inst opcode operands) → kind_of opcode ≡ Some Passes → Runs e 1 t (next t)
pass e place opcode operands t at here is =
    leads_one e.s e.i t (next t) place opcode operands Passes at here is refl

-- a label that begins no block
pub pass_label : (e : Scene) (q id : ℕ) (t : State) → t.at ≡ q → Label e q id → begun_at e.s.made q ≡ [] → Runs e 1 t (next t)
pass_label e q id t at here none =
    leads_one e.s e.i t (next t) q 248 (id ∷ []) Label_begins at here refl (ap (λ p. Quiet (begun_at e.s.made p) (next t)) at ∙ ap (λ b. Quiet b (next t)) none)

pub forth_to : (e : Scene) (p q : ℕ) (t t' : State) → p ≡ q → Forth e t (at_label p t') → Forth e t (at_label q t')
forth_to e p q t t' same a = subst (λ n. Forth e t (at_label n t')) same a

-- to a label that begins no block, and past it
pub jump_past : (e : Scene) (place q id : ℕ) (t : State) → t.at ≡ place → place < q → At e place (branch_inst id) → Label e q id → begun_at e.s.made q ≡ [] → Forth e t (at_label (q + 1) t)
jump_past e place q id t at ahead here there none =
    let first = forth_one e t (at_label q t) (omega (arith, at, ahead)) (jump e place q id t at here there) in
    let second = forth_one e (at_label q t) (at_label (suc q) t) (omega arith) (pass_label e q id (at_label q t) refl there none) in
    forth_to e (suc q) (q + 1) t t (omega arith) (forth_on e t (at_label q t) (at_label (suc q) t) first second)

pub onwards_past : (e : Scene) (place id : ℕ) (t : State) → t.at ≡ place → Has e.s.made place (onwards id) → begun_at e.s.made (place + 1) ≡ [] → Forth e t (at_label (place + 2) t)
onwards_past e place id t at has none =
    forth_to e (place + 1 + 1) (place + 2) t t (omega arith) (jump_past e place (place + 1) id t at (omega arith) has.0 has.1.0 none)

-- n variables of the function
pass_variables : (e : Scene) (n p q : ℕ) (t : State) → q ≡ p + n → t.at ≡ p → ((m : ℕ) → p ≤ m → m < q → (operands : List ℕ) × At e m (inst 59 operands)) → Forth e t (moved q t)
pass_variables e zero p q t same at all =
    let here : t.at ≡ q = omega (arith, same, at) in
    subst (λ m. Forth e t (moved m t)) here (forth_none e t)
pass_variables e (suc n) p q t same at all =
    let x = all p (omega arith) (omega (arith, same)) in
    let first = forth_one e t (next t) (omega arith) (pass e p 59 x.0 t at x.1 refl) in
    let rest = pass_variables e n (suc p) q (next t) (omega (arith, same)) (omega (arith, at)) (λ m from below. all m (omega (arith, from)) below) in
    forth_on e t (next t) (moved q t) first rest

-- behind a label at which the variables of the function may stand
pub pass_to : (e : Scene) (from to : ℕ) (t : State) → t.at ≡ suc from → from < to → Variables e.s from to → Forth e t (moved to t)
pass_to e from to t at ahead between =
    pass_variables e (to - suc from) (suc from) to t (omega (arith, ahead)) at (λ m le less. between m (omega (arith, le)) less)
