-- Leaves for all reachable blocks, closed, are one dispatch over them.
use Rattle.std.proofs.Common.{◌≡◌, ℕ, List, sym, subst}
use Rattle.dxil_form.specs.declared.program.Program.{Program}
use Rattle.dxil_form.specs.declared.region.Region.{Region}
use Rattle.dxil_form.specs.Sound.{Sound}
use Rattle.dxil_form.specs.Wired.{Wired}
use Rattle.region_laws.specs.Roots.{closed}
use Rattle.region_laws.specs.Paths.{PassesAll}
use Rattle.region_laws.specs.Laws.{NoReturn}
use Rattle.region_laws.proofs.Closing.{closed_is_wired}
use Rattle.region_laws.proofs.Turning.{closed_passes_all}
use Rattle.region_leaves.specs.Leaves.{AreReachable, leaves_of, placed_from}
use Rattle.region_leaves.proofs.Rooted.{leaves_wired, leaves_pass}
use Rattle.dispatch_loop.specs.Whole.{IsOneDispatch}

pub no_return : (p : Program) → Sound p → NoReturn p
no_return p sound b k t = (sound.targets b k t).0

module _ (p : Program) (sound : Sound p) (blocks : List ℕ) (are : AreReachable p blocks) (whole : List Region) (is : whole ≡ closed (leaves_of blocks) (placed_from 0 blocks)) where
  pub one_dispatch : IsOneDispatch p whole
  one_dispatch = record { blocks = blocks; reachable = are; is = is }

  pub dispatch_wired : Wired p whole
  dispatch_wired =
      let P : List Region → Type 0 = λ l. Wired p l in
      subst P (sym is) (closed_is_wired p (leaves_of blocks) (placed_from 0 blocks) (no_return p sound) (leaves_wired p sound blocks are))

  pub dispatch_passes : PassesAll p whole
  dispatch_passes =
      let P : List Region → Type 0 = λ l. PassesAll p l in
      subst P (sym is) (closed_passes_all p (leaves_of blocks) (placed_from 0 blocks) (no_return p sound) (leaves_wired p sound blocks are) (leaves_pass p sound blocks are))
