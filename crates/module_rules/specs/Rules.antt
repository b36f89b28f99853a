-- The rules V of a module, V1 to V15, each with the word that it is broken at: that of the instruction, or word 5 for something that is missing. For something
-- that stands twice it is the word of the second one.
use Rattle.std.specs.Prelude.{ℕ, ◌≡◌, ◌<◌, true, false, List, slice_get, Some}
use Rattle.spv_form.specs.declared.module.Inst.{Inst}
use Rattle.spv_form.specs.declared.module.Module.{Module}
use Rattle.spv_form.specs.declared.module.Version.{Version}
use Rattle.spv_form.specs.Words.{start_of}
use Rattle.order_rules.specs.Order.{OutOfOrder}
use Rattle.order_rules.specs.Once.{is_wrong_once, is_placed, has, has_four}
use Rattle.order_rules.specs.Merges.{MakesCrowded}
use Rattle.id_rules.specs.Uses.{is_defined_again, Misuses}
use Rattle.id_rules.specs.Again.{IsDeclaredAgain}
use Rattle.type_rules.specs.Types.{is_listed}
use Rattle.type_rules.specs.Fits.{fits}
use Rattle.decoration_rules.specs.Variables.{is_sound}
use Rattle.decoration_rules.specs.ReadOnly.{IsReadOnly, written_by}
use Rattle.module_rules.specs.Entry.{is_wrong_interface, is_wrong_entry, is_wrong_size, has_many_pairs}

-- The rules that an instruction x at a place breaks, in a module of a version.
pub data Breaks (version : Version) (insts : List Inst) (at : ℕ) (x : Inst) : ℕ → Type 0 where
  -- V1: it is the first that can't follow those before it
  out_of_order : OutOfOrder insts at → Breaks version insts at x 1
  -- V2: one of the four that stand exactly once has other numbers, or stands again
  wrong_once : is_wrong_once insts at x ≡ true → Breaks version insts at x 2
  -- V3: its result is defined before it
  defined_again : is_defined_again insts at x ≡ true → Breaks version insts at x 3
  -- V4: it uses an id that is not defined, or whose definition is out of reach
  misuses : Misuses insts at x → Breaks version insts at x 4
  -- V5: it is a type that is not listed
  unlisted : is_listed insts x ≡ false → Breaks version insts at x 5
  -- V6: its operands or its type do not fit
  unfitting : fits insts x ≡ false → Breaks version insts at x 6
  -- V7: it is a type that is declared before it
  declared_again : IsDeclaredAgain insts at x → Breaks version insts at x 7
  -- V8: it is a variable whose decorations are at fault, or it writes NonWritable memory
  unsound : is_sound insts x ≡ false → Breaks version insts at x 8
  writes : (p : ℕ) → written_by x ≡ Some p → IsReadOnly insts p → Breaks version insts at x 8
  -- V9: it is an EntryPoint whose interface does not list each variable exactly once that one of the version lists, or lists another id that it may not
  wrong_interface : is_wrong_interface version insts x ≡ true → Breaks version insts at x 9
  -- V10: it is an EntryPoint whose function is none of type `void ()`
  wrong_entry : is_wrong_entry insts x ≡ true → Breaks version insts at x 10
  -- V11: it is a variable in the wrong place, or without the initializer that it needs, or with one that it may not have
  misplaced : is_placed insts at x ≡ false → Breaks version insts at x 11
  -- V12: it is a LocalSize out of bounds
  wrong_size : is_wrong_size x ≡ true → Breaks version insts at x 12
  -- V14: with it more than 1,023 merge instructions wait for their merge label
  crowds : MakesCrowded insts at → Breaks version insts at x 14
  -- V15: it is a Switch with more than 16,383 pairs
  many_pairs : has_many_pairs x ≡ true → Breaks version insts at x 15

-- The rules that want an instruction that is missing.
pub data Misses (insts : List Inst) : ℕ → Type 0 where
  -- V1: there is no FunctionEnd
  no_end : has insts 56 ≡ false → Misses insts 1
  -- V2: one of the four that stand exactly once is missing
  no_once : has_four insts ≡ false → Misses insts 2
  -- V10: there is no block
  no_block : has insts 248 ≡ false → Misses insts 10

pub data Broken (m : Module) : ℕ → ℕ → Type 0 where
  -- V13: the bound is above 4,194,303
  high_bound : 4194303 < m.bound → Broken m 13 3
  missing : {rule : ℕ} → Misses m.insts rule → Broken m rule 5
  instruction : {rule : ℕ} (i : ℕ) (x : Inst) → slice_get m.insts i ≡ Some x → Breaks m.version m.insts i x rule → Broken m rule (start_of m.insts i)
