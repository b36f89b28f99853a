-- Laws of regions that are put together from below.
use Rattle.std.specs.Prelude.{◌≡◌, ℕ, ◌≤◌, true, List}
use Rattle.dxil_form.specs.declared.program.Program.{Program}
use Rattle.dxil_form.specs.declared.region.Region.{Region}
use Rattle.dxil_form.specs.Branches.{branches}
use Rattle.dxil_form.specs.Wired.{Wired}
use Rattle.region_laws.specs.Roots.{WiredRoots, closed}
use Rattle.region_laws.specs.Paths.{RootsPassUpToRoots, PassesAll}

-- no block branches to block 0
abbrev pub NoReturn : Program → Type 0
NoReturn p = (b k : ℕ) → branches p b k ≡ true → 1 ≤ k

-- where the last step is made over all roots, the whole is one tree
abbrev pub ClosedIsWired : Type 0
ClosedIsWired =
    (p : Program) (list : List Region) (roots : List (ℕ × ℕ)) → NoReturn p → WiredRoots p list roots → Wired p (closed list roots)

-- and it passes exactly the paths from block 0
abbrev pub ClosedPassesAll : Type 0
ClosedPassesAll =
    (p : Program) (list : List Region) (roots : List (ℕ × ℕ)) → NoReturn p → WiredRoots p list roots → RootsPassUpToRoots p list roots → PassesAll p (closed list roots)
