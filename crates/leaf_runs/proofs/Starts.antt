-- Where the machines start, and that a program and its module do the same.
use Rattle.std.proofs.Common.{◌≡◌, ℕ, ◌≤◌, ◌<◌, List, [], ◌∷◌, length, Some, None, refl, sym, ap, ◌∙◌, subst, arith}
use Rattle.std.specs.Prelude.{slice_get, get_or}
use Rattle.std.proofs.lemmas.Option.{slice_get-get_or}
use Rattle.dxil_form.specs.declared.value.Ty.{Ty}
use Rattle.dxil_form.specs.declared.value.Ty.TheVariants as ty
use Rattle.dxil_form.specs.declared.value.Reg.{Reg}
use Rattle.dxil_form.specs.declared.block.Entry.{Entry}
use Rattle.dxil_form.specs.declared.block.Phi.{Phi}
use Rattle.dxil_form.specs.declared.block.Block.{Block}
use Rattle.dxil_form.specs.declared.block.Term.TheVariants.{Ret}
use Rattle.dxil_form.specs.Sound.{Sound}
use Rattle.dxil_meaning.specs.Steps.{Starting}
use Rattle.dxil_meaning.specs.Source.{Launch, Registers, State as SourceState, entry_value, source}
use Rattle.spirv_meaning.specs.Target.{State, next}
use Rattle.spirv_meaning.specs.Same.{source_steps, target_steps}
use Rattle.spirv_meaning.proofs.SameByMatching.{same_by}
use Rattle.spirv_code.specs.Plans.{coming, kept}
use Rattle.spirv_code.specs.Reads.{no_register}
use Rattle.line_runs.specs.Held.{Setting, Held, IsOf, machine}
use Rattle.line_runs.specs.Declared.{held_type}
use Rattle.line_runs.specs.Exits.{ArrivesAt}
use Rattle.line_runs.proofs.Tests.{none_some}
use Rattle.leaf_runs.specs.Begun.{Fills}
use Rattle.leaf_runs.specs.Between.{Between, at_begin}
use Rattle.leaf_runs.specs.Laws.{BeginsAt, StartsMatch, SameByLeaves, setting_of}
use Rattle.leaf_runs.proofs.Leaving.{arrived_held, coming_passes, passes}
use Rattle.leaf_runs.proofs.Ends.{placed_at}
use Rattle.leaf_runs.proofs.Whole.{leaves_match}

kept_type : (reg : Reg) (type : Ty) → held_type (kept reg type) ≡ type
kept_type reg ty.Int = refl
kept_type reg ty.Bool = refl

coming_type : (reg : Reg) (type : Ty) → held_type (coming reg type) ≡ type
coming_type reg ty.Int = refl
coming_type reg ty.Bool = refl

abbrev unset : Registers
unset = λ value part. None

-- no register is set at the start
start_held : (s : Setting) → BeginsAt s → Held s no_register (machine s).start.at unset (machine s).start
unfolding no_register
start_held s begins =
    record {
      at = refl;
      known = λ reg id e. absurd (none_some e);
      stored = λ reg type id slot. (let v = begins.variables (kept reg type) id slot in
          (v.0, v.1, subst (λ u. IsOf u v.0) (kept_type reg type) v.2, λ x e. absurd (none_some e)));
      next = λ reg type id slot. (let v = begins.variables (coming reg type) id slot in
          (v.0, v.1, subst (λ u. IsOf u v.0) (coming_type reg type) v.2));
      typed = λ b spot reg type x sets e. absurd (none_some e);
      fresh = λ k le. refl;
    }

-- block 0 has no predecessor, and so its phis have no entry
no_entries : (s : Setting) → Sound s.program → (block : Block) (n : ℕ) (phi : Phi) → slice_get s.program.blocks 0 ≡ Some block → slice_get block.phis n ≡ Some phi → phi.entries ≡ []
no_entries s sound block n phi stands at = by_entries phi.entries refl
  where
    fit : (k : ℕ) (e : Entry) → slice_get phi.entries k ≡ Some e → ⊥
    fit k e is =
        let branch = (sound.entries 0 n phi (record { block = block; stands = stands; line = at })).only k e is in
        let least : 1 ≤ 0 = (sound.targets e.from 0 branch).0 in
        absurd (omega arith)

    by_entries : (entries : List Entry) → phi.entries ≡ entries → phi.entries ≡ []
    by_entries [] e = e
    by_entries (first ∷ entries) e = absurd (fit 0 first (ap (λ es. slice_get es 0) e))

-- so they take nothing
start_fills : (s : Setting) → Sound s.program → BeginsAt s → (block : Block) (n : ℕ) (phi : Phi) → slice_get s.program.blocks 0 ≡ Some block → slice_get block.phis n ≡ Some phi → Fills s unset 0 phi (machine s).start
start_fills s sound begins block n phi stands at id slot =
    let v = begins.variables (coming phi.to phi.ty) id slot in
    let none : entry_value unset 0 phi.entries ≡ None = ap (entry_value unset 0) (no_entries s sound block n phi stands at) in
    (v.0, v.1, subst (λ u. IsOf u v.0) (coming_type phi.to phi.ty) v.2, λ x e. absurd (none_some (sym none ∙ e)))

pub starts_match : StartsMatch
starts_match s d sound stand begins i = from (begins.arrives i)
  where
    first : Block
    first = record { phis = []; instrs = []; term = Ret }

    from : ArrivesAt s i (machine s).start 0 → Starting SourceState State (source s.program s.launch) (machine s) (Between s) (source_steps s.program) (target_steps s.made) i
    from (site, is_site, a) =
        let lt : 0 < length s.program.blocks = omega (arith, sound.begins) in
        let block : Block = get_or s.program.blocks 0 first in
        let stands = slice_get-get_or s.program.blocks 0 first lt in
        let few : a.n < target_steps s.made = omega (arith, a.few) in
        record {
          k = a.n;
          t' = next a.t';
          few = few;
          none_first = refl;
          leads = passes s i 0 site (machine s).start is_site a;
          matches = at_begin 0 block site (placed_at s stand i 0 block site ([], refl) stands is_site) (record {
            block_is = refl;
            spot_is = refl;
            held = arrived_held s d i no_register (machine s).start.at site unset (machine s).start (start_held s begins) a;
            phis = λ n phi at id slot. (let f = start_fills s sound begins block n phi stands at id slot in
                (f.0, a.keeps id (coming_passes s d phi.to phi.ty id slot) ∙ f.1, f.2, f.3));
          });
        }

-- a launch of no group
abbrev no_launch : Launch
no_launch = record { groups = []; sizes = [] }

pub same_by_leaves : SameByLeaves
same_by_leaves p m at c table sound d stand begins =
    same_by p at m (d no_launch).local (λ l fits. record {
      R = Between (setting_of p m at c table l);
      matched = leaves_match (setting_of p m at c table l) (d l) sound fits (stand l fits);
      starting = starts_match (setting_of p m at c table l) (d l) sound (stand l fits) (begins l fits);
    })
