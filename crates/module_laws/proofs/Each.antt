-- A module that keeps each of the rules V1 to V15 breaks none.
use Rattle.std.proofs.Common.{◌≡◌, ℕ, ◌+◌, ◌≤◌, Bool, true, false, Some, sym, ◌∙◌, arith}
use Rattle.std.specs.Prelude.{slice_get, take}
use Rattle.dx_base.specs.First.{IsSound}
use Rattle.spv_form.specs.declared.module.Inst.{Inst}
use Rattle.spv_form.specs.declared.module.Module.{Module}
use Rattle.module_rules.specs.Rules.{Breaks, Misses, Broken}
use Rattle.line_runs.proofs.Tests.{true_false}
use Rattle.order_rules.specs.Merges.{waiting}
use Rattle.ruled_ids.specs.Laws.{DefineOnce}
use Rattle.module_sizes.specs.Sizes.{IsSmall}
use Rattle.frame_order.specs.Laws.{KeepsOrder}
use Rattle.frame_rules.specs.Laws.{KeepsFrame}
use Rattle.frame_apart.specs.Laws.{KeepsTypesApart}
use Rattle.frame_marks.specs.Laws.{KeepsMarks}
use Rattle.ruled_lines.specs.Kept as kept

-- each of them by itself
pub record KeepsEach (m : Module) : Type 0 where
  -- V1, V2, V10's block, V11, V12, V15
  pub ordered : KeepsOrder m.insts
  -- V3
  pub once : DefineOnce m.insts
  -- V4, V6 and V8 of what writes
  pub ids : (at : ℕ) (x : Inst) → slice_get m.insts at ≡ Some x → kept.KeepsRules m.insts at x
  -- V5, V9, V10
  pub framed : KeepsFrame m.version m.insts
  -- V7
  pub apart : KeepsTypesApart m.insts
  -- V8 of variables
  pub marked : KeepsMarks m.insts
  -- V13
  pub small : IsSmall m
  -- V14
  pub shallow : (j : ℕ) → waiting (take j m.insts) ≤ 1023

clash : (b : Bool) → b ≡ true → b ≡ false → ⊥
clash b t f = true_false (sym t ∙ f)

module _ (m : Module) (keeps : KeepsEach m) where
  missed : (rule : ℕ) → Misses m.insts rule → ⊥
  missed rule (Misses.no_end h) = clash _ keeps.ordered.ended h
  missed rule (Misses.no_once h) = clash _ keeps.ordered.four h
  missed rule (Misses.no_block h) = clash _ keeps.ordered.begun h

  broken_at : (rule i : ℕ) (x : Inst) → slice_get m.insts i ≡ Some x → Breaks m.version m.insts i x rule → ⊥
  broken_at rule i x e (Breaks.out_of_order h) = keeps.ordered.ordered i h
  broken_at rule i x e (Breaks.wrong_once h) = clash _ h (keeps.ordered.once i x e)
  broken_at rule i x e (Breaks.defined_again h) = clash _ h (keeps.once.not_again i x e)
  broken_at rule i x e (Breaks.misuses h) = (keeps.ids i x e).in_reach h
  broken_at rule i x e (Breaks.unlisted h) = clash _ (keeps.framed.types i x e) h
  broken_at rule i x e (Breaks.unfitting h) = clash _ (keeps.ids i x e).fitting h
  broken_at rule i x e (Breaks.declared_again h) = keeps.apart i x e h
  broken_at rule i x e (Breaks.unsound h) = clash _ (keeps.marked i x e) h
  broken_at rule i x e (Breaks.writes p h r) = (keeps.ids i x e).writable p h r
  broken_at rule i x e (Breaks.wrong_interface h) = clash _ h (keeps.framed.interfaces i x e)
  broken_at rule i x e (Breaks.wrong_entry h) = clash _ h (keeps.framed.entries i x e)
  broken_at rule i x e (Breaks.misplaced h) = clash _ (keeps.ordered.placed i x e) h
  broken_at rule i x e (Breaks.wrong_size h) = clash _ h (keeps.ordered.sized i x e)
  broken_at rule i x e (Breaks.crowds h) =
      let low = keeps.shallow (i + 1) in
      let over = h.over in
      omega (arith, low, over)
  broken_at rule i x e (Breaks.many_pairs h) = clash _ h (keeps.ordered.paired i x e)

  broken : (rule word : ℕ) → Broken m rule word → ⊥
  broken rule word (Broken.high_bound h) =
      let low = keeps.small.ids in omega (arith, low, h)
  broken rule word (Broken.missing h) = missed rule h
  broken rule word (Broken.instruction i x e b) = broken_at rule i x e b

pub rules_kept : (m : Module) → KeepsEach m → IsSound (Broken m)
rules_kept m keeps = record { none = broken m keeps }
