-- The empty program and its module match.
use Rattle.std.proofs.Common.{◌≡◌, ℕ, [], ◌∷◌, ap, refl, lit<}
use Rattle.dxil_meaning.specs.Launches.{End}
use Rattle.dxil_meaning.specs.Steps.{Matched, acts, Starting}
use Rattle.dxil_meaning.specs.Source.{Launch, source, State as SourceState}
use Rattle.spirv_meaning.specs.Target.{target, local_size, State as TargetState}
use Rattle.spirv_meaning.specs.Same.{source_steps, target_steps}
use Rattle.spirv_meaning.specs.Empty.{empty_program, empty_module, at_return, BeforeReturn}
use Rattle.dxil_meaning.proofs.Simulation.{leads_none, leads_step, leads_on}

pub local : local_size empty_module.insts ≡ empty_program.local
unfolding empty_program empty_module
local = refl

pub matched : (l : Launch) (i : ℕ) (s : SourceState) (t : TargetState) → BeforeReturn l i s t → Matched SourceState TargetState (source empty_program l) (target empty_module [] l) (BeforeReturn l) (source_steps empty_program) (target_steps empty_module) i s t
unfolding empty_program empty_module
matched l i s t h =
    acts 0 0 s t End (λ answer. (source empty_program l).start) (λ answer. at_return l) (lit< tt) (lit< tt) (leads_none (source empty_program l) i s) (ap ((source empty_program l).step i) h.source_is) (leads_none (target empty_module [] l) i t) (ap ((target empty_module [] l).step i) h.target_is) tt

pub starting : (l : Launch) (i : ℕ) → Starting SourceState TargetState (source empty_program l) (target empty_module [] l) (BeforeReturn l) (source_steps empty_program) (target_steps empty_module) i
unfolding empty_program empty_module
starting l i =
    let m = target empty_module [] l in
    let at_label : TargetState = record { at = 8; results = m.start.results; locals = m.start.locals } in
    let before : TargetState = record { at = 9; results = m.start.results; locals = m.start.locals } in
    record {
      k = 1;
      t' = before;
      few = lit< tt;
      none_first = refl;
      leads = leads_on m i 1 1 m.start at_label before [] (0 ∷ []) (leads_step m i m.start [] at_label refl) (leads_step m i at_label (0 ∷ []) before refl);
      matches = record { source_is = refl; target_is = refl };
    }
