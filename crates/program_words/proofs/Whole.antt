-- The words that are written of a program's module.
use Rattle.std.proofs.Common.{◌≡◌, List, ℕ, Result, Ok, Err, IfOk, ap, subst, ◌∙◌}
use Rattle.dx_base.specs.declared.fault.OutOfMemory.{OutOfMemory}
use Rattle.dxil_form.specs.declared.program.Program.{Program}
use Rattle.dxil_form.specs.declared.region.Region.{Region}
use Rattle.spv_form.specs.declared.module.Module.{Module}
use Rattle.spv_form.specs.declared.module.Version.{Version}
use Rattle.spv_form.specs.Formed.{IsFormed}
use Rattle.spv_form.specs.WordRules.{IsModule}
use Rattle.spirv_meaning.specs.Bindings.{Bindings, plain_bindings}
use Rattle.spirv_meaning.specs.Same.{Same}
use Rattle.phi_demotion.specs.declared.slots.Slots.{Slots}
use Rattle.phi_demotion.specs.Slots.{AreSlots}
use Rattle.spirv_words.specs.Written.{module_words}
use Rattle.spirv_code.specs.Frame.{module_of}
use Rattle.chosen_plan.specs.Chosen.{plan_for}
use Rattle.program_regions.specs.Chosen.{AreRegions}
use Rattle.act_counts.specs.Laws.{HasFewActs}
use Rattle.variable_counts.specs.Laws.{HasFewVariables}
use Rattle.module_laws.specs.Rules.{KeepsRules}
use Rattle.module_laws.specs.Loops.{HasLoops}
use Rattle.program_words.specs.Words.{IsWordsOf}
use Rattle.program_words.proofs.Idle.{words_idle}

-- what is known of the module that a program is lowered to over its regions and slots
pub record Lowered (p : Program) (list : List Region) (slots : Slots) (at : Bindings) (version : Version) (m : Module) : Type 0 where
  pub is : m ≡ module_of p list at version (plan_for p list slots)
  pub same : Same p at m
  pub formed : IsFormed m
  pub keeps : KeepsRules m
  pub loops : HasLoops p m
  pub acts : HasFewActs p m
  pub variables : HasFewVariables p m

-- a program with its regions and slots
module _ (p : Program) (list : List Region) (slots : Slots) (version : Version) (regions : AreRegions p list) (are : AreSlots p slots) where
  words_for : (m : Module) → Lowered p list slots (plain_bindings p) version m → (r : Result (List ℕ) OutOfMemory) → IfOk r (λ words. IsModule words m) → IfOk r (λ words. words ≡ module_words m) → IfOk r (λ words. IsWordsOf p version words)
  words_for m lowered (Err e) spelled exact = tt
  words_for m lowered (Ok words) spelled exact = record {
    made = m;
    spelled = spelled;
    formed = lowered.formed;
    states = ap (λ (x : Module). x.version) lowered.is;
    keeps = lowered.keeps;
    same = lowered.same;
    loops = lowered.loops;
    acts = lowered.acts;
    variables = lowered.variables;
    idle = λ idle. exact ∙ ap module_words lowered.is ∙ words_idle p list slots (plain_bindings p) version idle regions are;
  }

  pub words_answer : (at : Bindings) (m : Module) → at ≡ plain_bindings p → Lowered p list slots at version m → (r : Result (List ℕ) OutOfMemory) → IfOk r (λ words. IsModule words m) → IfOk r (λ words. words ≡ module_words m) → IfOk r (λ words. IsWordsOf p version words)
  words_answer at m plain lowered =
      words_for m (subst (λ (x : Bindings). Lowered p list slots x version m) plain lowered)
