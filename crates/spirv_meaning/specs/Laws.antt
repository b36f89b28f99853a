-- Laws of sites.
use Rattle.std.specs.Prelude.{◌≡◌, ◌↔◌, ◌<◌, ℕ, List, [], ◌∷◌, Some}
use Rattle.dxil_form.specs.Graphs.{In}
use Rattle.spv_form.specs.declared.module.Module.{Module}
use Rattle.spirv_meaning.specs.Names.{site, above_names, begun_at}

-- no block from the bound on has a site
abbrev pub SitesAreBelow : Type 0
SitesAreBelow = (m : Module) (k at : ℕ) → site m k ≡ Some at → k < above_names m.insts

-- where a label is passed, exactly those blocks begin whose site it is
abbrev pub SitesBegin : Type 0
SitesBegin = (m : Module) (place k : ℕ) → In k (begun_at m place) ↔ (site m k ≡ Some place)

abbrev pub IsRising : List ℕ → Type 0
IsRising [] = Unit {0}
IsRising (x ∷ xs) = ((y : ℕ) → In y xs → x < y) × IsRising xs

-- and they begin by rising number
abbrev pub SitesRise : Type 0
SitesRise = (m : Module) (place : ℕ) → IsRising (begun_at m place)
