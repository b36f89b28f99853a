-- The labels of a region by their kinds, the arm of a block, and bounds on how many blocks a selection has.
use Rattle.std.specs.Prelude.{ℕ, ◌≤◌, List, [], ◌∷◌, Option, Some, None, nat_eq, if◌then◌else◌}
use Rattle.spirv_code.specs.declared.way.Way.{Way}
use Rattle.spirv_code.specs.declared.way.Way.TheVariants.{Ends, Goes, Chooses, Splits}
use Rattle.spirv_code.specs.Trees.{Tree, Missing, Leaf, Arms}
use Rattle.spirv_regions.specs.declared.labels.Kind.{Kind}
use Rattle.spirv_regions.specs.declared.labels.Kind.TheVariants.{Site, Header, Body, Continue, Merge, Chosen, Passed, First}

-- the number of a label among the eight of its region
abbrev pub kind_number : Kind → ℕ
kind_number Site = 0
kind_number Header = 1
kind_number Body = 2
kind_number Continue = 3
kind_number Merge = 4
kind_number Chosen = 5
kind_number Passed = 6
kind_number First = 7

-- one selection chooses among few blocks
abbrev pub AreFewBlocks : Way → ℕ → Type 0
AreFewBlocks Ends n = Unit {0}
AreFewBlocks (Goes k) n = Unit {0}
AreFewBlocks Chooses n = n ≤ 0x0001_0000
AreFewBlocks Splits n = Unit {0}

-- the place of the first arm that runs for block k; an arm is a block and the place of a region
abbrev pub arm_place : ℕ → List (ℕ × ℕ) → Option ℕ
arm_place k [] = None
arm_place k (arm ∷ arms) = if nat_eq k arm.0 then Some arm.1 else arm_place k arms

-- arms at a leaf, which is given by its place and its block
abbrev pub armed : Option (ℕ × ℕ) → Arms → Tree
armed None arms = Missing
armed (Some leaf) arms = Leaf leaf.0 leaf.1 arms
