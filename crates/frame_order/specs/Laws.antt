-- The rules V1, V2, V11, V12 and V15 of a module, and that it has a block (V10), in the words of those rules.
use Rattle.std.specs.Prelude.{◌≡◌, ℕ, true, false, List, Some, slice_get}
use Rattle.dxil_form.specs.declared.program.Program.{Program}
use Rattle.dxil_form.specs.declared.region.Region.{Region}
use Rattle.dxil_form.specs.Sound.{Sound}
use Rattle.dxil_form.specs.Wired.{Wired}
use Rattle.spv_form.specs.declared.module.Inst.{Inst}
use Rattle.spv_form.specs.declared.module.Version.{Version}
use Rattle.order_rules.specs.Order.{OutOfOrder}
use Rattle.order_rules.specs.Once.{is_wrong_once, is_placed, has, has_four}
use Rattle.module_rules.specs.Entry.{is_wrong_size, has_many_pairs}
use Rattle.spirv_meaning.specs.Bindings.{Bindings}
use Rattle.spirv_code.specs.Plans.{Plan}
use Rattle.spirv_code.specs.Frame.{module_of}

pub record KeepsOrder (insts : List Inst) : Type 0 where
  -- V1: each instruction can follow those before it, and the function has an end
  pub ordered : (at : ℕ) → OutOfOrder insts at → ⊥
  pub ended : has insts 56 ≡ true
  -- V2: each of the four that stand exactly once is there, with its numbers
  pub once : (at : ℕ) (x : Inst) → slice_get insts at ≡ Some x → is_wrong_once insts at x ≡ false
  pub four : has_four insts ≡ true
  -- V10: there is a block
  pub begun : has insts 248 ≡ true
  -- V11: variables of the function stand at the head of its first block and have initializers, and others have none
  pub placed : (at : ℕ) (x : Inst) → slice_get insts at ≡ Some x → is_placed insts at x ≡ true
  -- V12: the thread counts are in their bounds
  pub sized : (at : ℕ) (x : Inst) → slice_get insts at ≡ Some x → is_wrong_size x ≡ false
  -- V15: no switch has too many pairs
  pub paired : (at : ℕ) (x : Inst) → slice_get insts at ≡ Some x → has_many_pairs x ≡ false

-- In the module of each sound program, with regions that are wired, by any plan, with any bindings and at each version.
abbrev pub ModulesKeepOrder : Type 0
ModulesKeepOrder =
    (p : Program) (list : List Region) (at : Bindings) (v : Version) (plan : Plan) → Sound p → Wired p list → KeepsOrder (module_of p list at v plan).insts
