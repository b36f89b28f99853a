-- A program and a module that match from event to event and from block to block do the same.
use Rattle.std.proofs.Common.{◌≡◌, ℕ, ◌+◌, ◌*◌, List, refl, sym, ap, subst, inl, inr, ⊎_elim}
use Rattle.dxil_form.specs.declared.program.Program.{Program}
use Rattle.spv_form.specs.declared.module.Module.{Module}
use Rattle.dxil_meaning.specs.Launches.{Memory, Shape, Outcome, Complete, Ran, run, at_first}
use Rattle.dxil_meaning.specs.Source.{Launch, product, shape_of, source, State as SourceState}
use Rattle.dxil_meaning.specs.Fits.{Fits}
use Rattle.spirv_meaning.specs.Bindings.{Bindings}
use Rattle.spirv_meaning.specs.Target.{target, local_size, State as TargetState}
use Rattle.spirv_meaning.specs.Same.{Same, Agree, target_shape, target_steps, source_steps}
use Rattle.dxil_meaning.specs.Steps.{Matched, Starting}
use Rattle.dxil_meaning.proofs.Simulation.{forward_runs, backward_runs}

-- what is owed of a program and a module in a launch
pub record Matches (p : Program) (at : Bindings) (m : Module) (l : Launch) : Type 1 where
  pub R : ℕ → SourceState → TargetState → Type 0
  pub matched : (i : ℕ) (s : SourceState) (t : TargetState) → R i s t → Matched SourceState TargetState (source p l) (target m at l) R (source_steps p) (target_steps m) i s t
  pub starting : (i : ℕ) → Starting SourceState TargetState (source p l) (target m at l) R (source_steps p) (target_steps m) i

-- the module's run in groups of these sizes
abbrev in_shape : Module → Bindings → Launch → Memory → List ℕ → ℕ → Shape → Outcome (Ran TargetState)
in_shape m at l memory schedule n shape = run (target m at l) shape n schedule (at_first (target m at l) memory)

-- one LocalSize gives one shape
same_shape : (p : Program) (m : Module) (l : Launch) → local_size m.insts ≡ p.local → shape_of p l ≡ target_shape m l
same_shape p m l local =
    ap shape (sym local)
  where
    shape : List ℕ → Shape
    shape local = record { groups = product l.groups; size = product local }

pub same_by : (p : Program) (at : Bindings) (m : Module) → local_size m.insts ≡ p.local → ((l : Launch) → Fits p l → Matches p at m l) → Same p at m
same_by p at m local h =
    record {
      local = local;
      forward = λ l memory fits words schedule n ran e.
          let x = h l fits in
          let both = forward_runs SourceState TargetState (source p l) (target m at l) x.R (source_steps p) (target_steps m) x.matched x.starting (shape_of p l) memory schedule n ran e in
          subst (λ shape. Agree (run (source p l) (shape_of p l) n schedule (at_first (source p l) memory)) (in_shape m at l memory schedule (target_steps m * (n + 1)) shape)) (same_shape p m l local) (record { left = _; right = _; left_is = both.left; right_is = both.right; events = refl; seen = refl });
      backward = λ l memory fits words schedule n ran e.
          let x = h l fits in
          let here = same_shape p m l local in
          let there = subst (λ shape. in_shape m at l memory schedule n shape ≡ Complete ran) (sym here) e in
          ⊎_elim inl (λ both. inr (subst (λ shape. Agree (run (source p l) (shape_of p l) (source_steps p * (n + 1)) schedule (at_first (source p l) memory)) (in_shape m at l memory schedule n shape)) here (record { left = _; right = _; left_is = both.left; right_is = both.right; events = refl; seen = refl }))) (backward_runs SourceState TargetState (source p l) (target m at l) x.R (source_steps p) (target_steps m) x.matched x.starting (shape_of p l) memory schedule n ran there);
    }
