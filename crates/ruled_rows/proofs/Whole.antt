-- The code of the regions of a module keeps the rules.
use Rattle.std.proofs.Common.{◌≡◌, ◌⊎◌, ℕ, zero, suc, ◌+◌, ◌-◌, ◌<◌, ◌≤◌, Bool, true, false, List, [], ◌∷◌, ◌++◌, length, Some, refl, sym, ap, ◌∙◌, subst, arith, ⊎_elim}
use Rattle.std.specs.Prelude.{slice_get, if◌then◌else◌}
use Rattle.dxil_form.specs.declared.program.Program.{Program}
use Rattle.dxil_form.specs.declared.region.Region.{Region}
use Rattle.dxil_form.specs.Sound.{Sound}
use Rattle.dxil_form.specs.Wired.{Wired}
use Rattle.spv_form.specs.declared.module.Inst.{Inst}
use Rattle.spv_form.specs.declared.module.Module.{Module}
use Rattle.spv_form.specs.declared.module.Version.{Version}
use Rattle.dxil_meaning.specs.Source.{Launch}
use Rattle.spirv_meaning.specs.Bindings.{Bindings}
use Rattle.spirv_code.specs.Plans.{Plan, Context, first_label, context_of}
use Rattle.spirv_code.specs.Leaves.{followed}
use Rattle.spirv_code.specs.Trees.{Tree, label_at, begins_plainly, place_of, root_of}
use Rattle.spirv_code.specs.Rows.{onwards, row_code}
use Rattle.spirv_code.specs.Frame.{opening_label, frame, body_code, closing, insts_of}
use Rattle.line_runs.specs.Held.{Setting, Has}
use Rattle.line_runs.proofs.Pieces.{has_front, has_back}
use Rattle.frame_facts.specs.Facts.{setting_of}
use Rattle.frame_facts.proofs.Searches.{get_past, inj}
use Rattle.frame_facts.proofs.Spread.{from_function}
use Rattle.chosen_plan.specs.IsPlan.{IsPlan}
use Rattle.ruled_lines.specs.Kept.{KeepsRules, AreKept, StandsAhead}
use Rattle.ruled_lines.proofs.Going.{kept_append}
use Rattle.ruled_frame.proofs.Early.{early, insts_are}
use Rattle.ruled_frame.proofs.Whole.{modules_stand_ahead}
use Rattle.ruled_exits.specs.Exits.{Stands}
use Rattle.ruled_exits.proofs.Loops.{return_rules, function_end_rules}
use Rattle.ruled_rows.specs.Laws.{RowsKeepRules, ModulesKeepIds}
use Rattle.ruled_rows.proofs.Pieces.{Keeps, onwards_kept}
use Rattle.ruled_rows.proofs.Rows.{row_kept}
use Rattle.ruled_rows.proofs.Wiring.{root_ready}

-- ---- lists

-- code stands where each of its instructions does
has_each : (m : Module) (place : ℕ) (code : List Inst) → ((k : ℕ) (x : Inst) → slice_get code k ≡ Some x → slice_get m.insts (place + k) ≡ Some x) → Has m place code
has_each m place [] each = tt
has_each m place (x ∷ code) each =
    let here : place + 0 ≡ place = omega arith in
    (subst (λ n. slice_get m.insts n ≡ Some x) here (each 0 x refl), has_each m (place + 1) code (λ k y at. (let e : place + suc k ≡ place + 1 + k = omega arith in subst (λ n. slice_get m.insts n ≡ Some y) e (each (suc k) y at))))

kept_get : (insts : List Inst) (place : ℕ) (code : List Inst) (k : ℕ) (x : Inst) → AreKept insts place code → slice_get code k ≡ Some x → KeepsRules insts (place + k) x
kept_get insts place [] k x h e = absurd (cc)
kept_get insts place (y ∷ code) zero x h e =
    let same : place ≡ place + 0 = omega arith in
    subst (λ n. KeepsRules insts n x) same (subst (KeepsRules insts place) (inj e) h.0)
kept_get insts place (y ∷ code) (suc k) x h e =
    let same : place + 1 + k ≡ place + suc k = omega arith in
    subst (λ n. KeepsRules insts n x) same (kept_get insts (place + 1) code k x h.1 e)

-- ---- a module

module _ (p : Program) (list : List Region) (at : Bindings) (v : Version) (plan : Plan) (sound : Sound p) (wired : Wired p list) (is : IsPlan p list plan) where
  -- the rules speak of no launch
  abbrev launch : Launch
  launch = record { groups = []; sizes = [] }

  abbrev s : Setting
  s = setting_of p list at v plan launch

  abbrev insts : List Inst
  insts = insts_of p list at v plan

  abbrev low : ℕ
  low = length (frame p list at v plan)

  abbrev tree : Tree
  tree = root_of list

  abbrev c : Context
  c = context_of p plan

  abbrev body : List Inst
  body = body_code p plan tree low

  ahead : StandsAhead s low
  ahead = modules_stand_ahead p list at v plan launch wired is.serves

  opening_stands : Stands insts (opening_label tree)
  opening_stands =
      let place : ℕ = length (early p list at v plan) + 1 in
      (place, ap (λ xs. slice_get xs place) (insts_are p list at v plan) ∙ get_past (early p list at v plan) (from_function p list at v plan) 1)

  -- the code of the regions, or the way to it from the first label
  body_keeps : (t : Bool) → begins_plainly tree ≡ t → Keeps s low (if t then row_code c low tree else followed low (onwards (label_at tree)) (λ q. row_code c q tree))
  body_keeps true plainly has =
      let first : opening_label tree ≡ label_at tree = ap (λ t. if t then label_at tree else first_label (place_of tree)) plainly in
      row_kept s low ahead tree (root_ready p list at v plan launch is sound wired) low (omega arith) (subst (Stands insts) first opening_stands) has
  body_keeps false other has =
      let front : List Inst = onwards (label_at tree) in
      let q : ℕ = low + length front in
      let row : List Inst = row_code c q tree in
      kept_append insts low front row (onwards_kept s low ahead low (label_at tree) (has_front s.made low front row has)) (row_kept s low ahead tree (root_ready p list at v plan launch is sound wired) q (omega arith) (low + 1, has.1.0) (has_back s.made low front row has))

  behind_frame : (k : ℕ) → slice_get insts (low + k) ≡ slice_get (body ++ closing) k
  behind_frame k = get_past (frame p list at v plan) (body ++ closing) k

  all_kept : AreKept insts low (body ++ closing)
  all_kept =
      let has = has_each s.made low (body ++ closing) (λ k x e. behind_frame k ∙ e) in
      kept_append insts low body closing (body_keeps (begins_plainly tree) refl (has_front s.made low body closing has)) (return_rules insts (low + length body), (function_end_rules insts (low + length body + 1), tt))

  pub behind_kept : (place : ℕ) (x : Inst) → low ≤ place → slice_get insts place ≡ Some x → KeepsRules insts place x
  behind_kept place x later e =
      let k : ℕ = place - low in
      let same : low + k ≡ place = omega (arith, later) in
      subst (λ n. KeepsRules insts n x) same (kept_get insts low (body ++ closing) k x all_kept (sym (behind_frame k) ∙ ap (slice_get insts) same ∙ e))

pub rows_keep_rules : RowsKeepRules
rows_keep_rules p list at v plan sound wired is place x later there =
    behind_kept p list at v plan sound wired is place x later there

order : (a b : ℕ) → (a < b) ⊎ (b ≤ a)
order a b = grind arith

pub modules_keep_ids : ModulesKeepIds
modules_keep_ids p list at v plan sound wired is ahead place x there =
    ⊎_elim (λ before. ahead place x before there) (λ later. behind_kept p list at v plan sound wired is place x later there) (order place (length (frame p list at v plan)))
