-- What is promised of the module of a program: that it declares what its code names, and which labels stand in it.
use Rattle.std.specs.Prelude.{◌≡◌, ℕ, ◌^◌, ◌<◌, ◌≤◌, List, [], ◌∷◌, length, Some, slice_get}
use Rattle.dxil_form.specs.declared.program.Program.{Program}
use Rattle.dxil_form.specs.declared.region.Region.{Region}
use Rattle.dxil_form.specs.declared.region.Region.TheVariants as region
use Rattle.dxil_form.specs.Wired.{Wired}
use Rattle.spv_form.specs.declared.module.Inst.{Inst}
use Rattle.spv_form.specs.declared.module.Version.{Version}
use Rattle.dxil_meaning.specs.Source.{Launch}
use Rattle.spirv_meaning.specs.Names.{label_of, begun_at}
use Rattle.spirv_meaning.specs.Bindings.{Bindings, AreApart}
use Rattle.spirv_code.specs.Plans.{Plan, context_of, label, site_label}
use Rattle.spirv_code.specs.Exits.{label_inst}
use Rattle.spirv_code.specs.Trees.{root_of}
use Rattle.spirv_code.specs.Frame.{module_of}
use Rattle.line_runs.specs.Held.{Setting}
use Rattle.line_runs.specs.Declared.{Declares}
use Rattle.frame_facts.specs.Inner.{Owns}
use Rattle.frame_facts.specs.Serves.{Serves}

-- a program and its module in a launch
abbrev pub setting_of : Program → List Region → Bindings → Version → Plan → Launch → Setting
setting_of p list at v plan l =
    record { program = p; made = module_of p list at v plan; bindings = at; launch = l; context = context_of p plan; table = plan.table }

-- Constants and variables have the values of their keys, buffers stand for their resources, and labels inside a leaf stand at their places.
abbrev pub ModuleDeclares : Type 0
ModuleDeclares =
    (p : Program) (list : List Region) (at : Bindings) (v : Version) (plan : Plan) (l : Launch) → Serves p list plan → AreApart p at → Owns (λ r. r < length list) (root_of list) → Declares (setting_of p list at v plan l)

-- each label stands once; the site of a leaf begins its block, and no other label of a region begins a block
pub record Labels (p : Program) (list : List Region) (at : Bindings) (v : Version) (plan : Plan) : Type 0 where
  pub once : (j k id : ℕ) (x y : Inst) → slice_get (module_of p list at v plan).insts j ≡ Some x → slice_get (module_of p list at v plan).insts k ≡ Some y → label_of x ≡ Some id → label_of y ≡ Some id → j ≡ k
  pub sites : (r b place : ℕ) → slice_get list r ≡ Some (region.Leaf b) → slice_get (module_of p list at v plan).insts place ≡ Some (label_inst (site_label r)) → begun_at (module_of p list at v plan) place ≡ b ∷ []
  pub others : (r kind place : ℕ) → 1 ≤ kind → kind ≤ 7 → slice_get (module_of p list at v plan).insts place ≡ Some (label_inst (label r kind)) → begun_at (module_of p list at v plan) place ≡ []

-- the labels of the module of a program, where its regions are wired and the blocks are numbered by words
abbrev pub ModuleLabels : Type 0
ModuleLabels =
    (p : Program) (list : List Region) (at : Bindings) (v : Version) (plan : Plan) → Wired p list → plan.regions ≡ length list → ((r b : ℕ) → slice_get list r ≡ Some (region.Leaf b) → b < 2 ^ 32) → Labels p list at v plan
