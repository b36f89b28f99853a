use Rattle.std.proofs.Common.{ℕ, ◌≡◌, ◌≢◌, ◌≤◌, subst, arith, List, length, slice_get, Contains, Some}
use Rattle.dx_base.specs.First.{IsSound}
use Rattle.dxil_form.specs.declared.instr.Addr.{Addr}
use Rattle.dxil_form.specs.declared.instr.Instr.{Instr}
use Rattle.dxil_form.specs.declared.instr.Instr.TheVariants.{Load}
use Rattle.dxil_form.specs.declared.instr.Target.{Target}
use Rattle.dxil_form.specs.declared.value.Operand.{Operand}
use Rattle.dxil_form.specs.declared.value.Operand.TheVariants as operand
use Rattle.dxil_form.specs.declared.value.Reg.{Reg}
use Rattle.dxil_form.specs.declared.value.Ty.{Ty}
use Rattle.dxil_form.specs.Registers.{Typed, in_address, operands_of}
use Rattle.dxil_form.specs.Sound.{HasType, LineAt, LocalFits, Sound}
use Rattle.profile_tables.specs.EntryBody.{EntryBody}
use Rattle.profile_tables.specs.Read.{IsRead}
use Rattle.profile_rules.specs.Rules.{Broken}
use Rattle.stated_program.specs.Stated.{program_of}
use Rattle.program_sound.proofs.Blocks.{line_line, blocks_length}
use Rattle.program_sound.proofs.Branching.{targets_fit, entries_fit}
use Rattle.program_sound.proofs.Once.{set_once}
use Rattle.program_sound.proofs.Access.{typed_at}
use Rattle.program_sound.proofs.LineFits.{IsLineFit, line_is_fit}
use Rattle.program_sound.proofs.TermFit.{end_types, ends_fit, entry_types}
use Rattle.program_sound.proofs.RowsFit.{resources_fit, resources_apart}
use Rattle.program_sound.proofs.SharedFit.{shared_fits}
use Rattle.program_sound.proofs.Counts.{counts_fit}
use Rattle.program_sound.proofs.program_is_sound.Goals as goal

module _ (x : EntryBody) (counts : List ℕ) (read : IsRead x counts) (sound : IsSound (Broken x)) where
  fit_at : (b n : ℕ) (instr : Instr) → LineAt (program_of x counts) b n instr → IsLineFit x counts instr
  fit_at b n instr l = let s = line_line x counts b n instr l in subst (IsLineFit x counts) s.instr_is (line_is_fit x counts read sound s.i s.line s.at s.no_phi)

  begins : 1 ≤ length (program_of x counts).blocks
  begins = omega (arith, blocks_length x counts, read.begins)

  line_types : (b n k : ℕ) (instr : Instr) (a : Typed Operand) → LineAt (program_of x counts) b n instr → slice_get (operands_of instr) k ≡ Some a → HasType (program_of x counts) a.item a.ty
  line_types b n k instr a l e = typed_at x counts (operands_of instr) k a (fit_at b n instr l).typed e

  own_value : (b n to mask : ℕ) (target : Target) (addr : Addr) (reg : Reg) (ty : Ty) → LineAt (program_of x counts) b n (Load to mask target addr) → Contains (in_address addr) (operand.Reg reg ty) → reg.value ≢ to
  own_value b n to mask target addr reg ty l c = (fit_at b n (Load to mask target addr) l).own reg ty c

  local : LocalFits (program_of x counts).local
  unfolding program_of
  local = read.local

  whole : Sound (program_of x counts)
  whole = record {
    begins = begins;
    set_once = set_once x counts read sound;
    targets = targets_fit x counts read sound;
    entries = entries_fit x counts read sound;
    entry_types = entry_types x counts read sound;
    line_types = line_types;
    end_types = end_types x counts read sound;
    lines = λ b n instr l. (fit_at b n instr l).fits;
    ends = ends_fit x counts read sound;
    own_value = own_value;
    resources = resources_fit x counts read sound;
    apart = resources_apart x counts read sound;
    local = local;
    shared = shared_fits x counts read sound;
    counts = counts_fit x counts read sound;
  }

pub returns : goal.returns
returns c = whole
