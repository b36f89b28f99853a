-- How many switches and loops a module has.
use Rattle.std.specs.Prelude.{◌≡◌, ℕ, ◌≤◌, List, length}
use Rattle.std.specs.List.{sum_by}
use Rattle.dxil_form.specs.declared.program.Program.{Program}
use Rattle.dxil_form.specs.declared.region.Region.{Region}
use Rattle.dxil_form.specs.declared.region.Region.TheVariants as region
use Rattle.dxil_form.specs.Graphs.{Graph, Ring, Crossed}
use Rattle.dxil_form.specs.Branches.{IsBranchGraph}
use Rattle.dxil_form.specs.Wired.{Wired}
use Rattle.spv_form.specs.declared.module.Version.{Version}
use Rattle.region_leaves.specs.Leaves.{AreReachable}
use Rattle.program_regions.specs.Chosen.{AreRegions}
use Rattle.spirv_meaning.specs.Bindings.{Bindings}
use Rattle.spirv_code.specs.Plans.{Plan}
use Rattle.spirv_code.specs.Frame.{module_of}
use Rattle.module_counts.specs.Counts.{how_many, switches_at}

-- a loop and a dispatch have one OpLoopMerge
abbrev pub loops_of : Region → ℕ
loops_of (region.Leaf b) = 0
loops_of (region.Then first second target) = 0
loops_of (region.Loop body head) = 1
loops_of (region.Dispatch arms) = 1
loops_of (region.Arms first arms) = 0

-- a leaf has the switches of its block, and a dispatch one
abbrev pub region_switches : Program → Region → ℕ
region_switches p (region.Leaf b) = switches_at p b
region_switches p (region.Then first second target) = 0
region_switches p (region.Loop body head) = 0
region_switches p (region.Dispatch arms) = 1
region_switches p (region.Arms first arms) = 0

-- OpLoopMerge is 246, OpSwitch is 251 (SPIR-V 1.6, "Control-Flow Instructions").
abbrev pub LoopsAreRegions : Type 0
LoopsAreRegions =
    (p : Program) (list : List Region) (at : Bindings) (v : Version) (plan : Plan) → Wired p list → plan.regions ≡ length list → how_many 246 (module_of p list at v plan).insts ≤ sum_by loops_of list

abbrev pub SwitchesAreTerminators : Type 0
SwitchesAreTerminators =
    (p : Program) (list : List Region) (at : Bindings) (v : Version) (plan : Plan) → Wired p list → plan.regions ≡ length list → how_many 251 (module_of p list at v plan).insts ≤ sum_by (region_switches p) list

-- Where no ring of the branch graph is crossed and at most 400 blocks are reachable, each switch of a reachable block has at most one OpSwitch for each begun 16,383 cases.
abbrev pub FewSwitches : Type 0
FewSwitches =
    (p : Program) (list : List Region) (at : Bindings) (v : Version) (plan : Plan) (blocks : List ℕ) (g : Graph) → AreRegions p list → plan.regions ≡ length list → AreReachable p blocks → length blocks ≤ 400 → IsBranchGraph p g → (Crossed g → ⊥) → how_many 251 (module_of p list at v plan).insts ≤ sum_by (switches_at p) blocks

-- and where there is no ring, there is no loop
abbrev pub NoRingNoLoop : Type 0
NoRingNoLoop =
    (p : Program) (list : List Region) (at : Bindings) (v : Version) (plan : Plan) (blocks : List ℕ) (g : Graph) → AreRegions p list → plan.regions ≡ length list → AreReachable p blocks → length blocks ≤ 400 → IsBranchGraph p g → (Crossed g → ⊥) → ((ring : List ℕ) → Ring g ring → ⊥) → how_many 246 (module_of p list at v plan).insts ≡ 0
