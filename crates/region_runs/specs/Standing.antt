-- What a module owes the regions of a program, and what its code does then: each block stands behind its site, and from its end the machine comes to the sites of the blocks that it branches to.
use Rattle.std.specs.Prelude.{◌≡◌, ℕ, ◌+◌, ◌≤◌, ◌<◌, true, List, [], ◌∷◌, length, Some, None, slice_get}
use Rattle.dxil_form.specs.declared.block.Block.{Block}
use Rattle.dxil_form.specs.declared.region.Region.{Region}
use Rattle.dxil_form.specs.declared.region.Region.TheVariants as region
use Rattle.dxil_form.specs.Graphs.{Reached}
use Rattle.dxil_form.specs.Branches.{branches, declared_graph}
use Rattle.dxil_form.specs.Sound.{Sound}
use Rattle.dxil_form.specs.Wired.{Wired}
use Rattle.spv_form.specs.declared.module.Inst.{Inst}
use Rattle.spirv_meaning.specs.Names.{label_of, begun_at}
use Rattle.spirv_meaning.specs.Target.{Word, State}
use Rattle.spirv_code.specs.declared.key.Global.TheVariants as global
use Rattle.spirv_code.specs.declared.key.Slot.TheVariants.{Want, Pick}
use Rattle.spirv_code.specs.Plans.{inst, label, site_label}
use Rattle.spirv_code.specs.Exits.{label_inst}
use Rattle.spirv_code.specs.Further.{picks, wants}
use Rattle.spirv_code.specs.Trees.{label_at, root_of}
use Rattle.spirv_code.specs.Rows.{row_code}
use Rattle.line_runs.specs.Held.{Setting, Has, Uses}
use Rattle.line_runs.specs.Declared.{Declares}
use Rattle.line_runs.specs.Exits.{Variables, ArrivesAt, LeafStands}

-- The code of the regions stands at the place, behind the label of the root at `head`.
pub record HasRegions (s : Setting) (list : List Region) (head place : ℕ) : Type 0 where
  -- the blocks that the code is made of are the program's
  pub blocks : s.context.blocks ≡ s.program.blocks
  pub begins : slice_get s.made.insts head ≡ Some (label_inst (label_at (root_of list)))
  pub ahead : head < place
  pub between : Variables s head place
  pub code : Has s.made place (row_code s.context place (root_of list))
  pub returns : slice_get s.made.insts (place + length (row_code s.context place (root_of list))) ≡ Some (inst 253 [])
  -- each label stands once
  pub once : (p q id : ℕ) (x y : Inst) → slice_get s.made.insts p ≡ Some x → slice_get s.made.insts q ≡ Some y → label_of x ≡ Some id → label_of y ≡ Some id → p ≡ q
  -- the site of a leaf begins its block, and the other labels of a region begin none
  pub sites : (r b p : ℕ) → slice_get list r ≡ Some (region.Leaf b) → slice_get s.made.insts p ≡ Some (label_inst (site_label r)) → begun_at s.made p ≡ b ∷ []
  pub others : (r kind p : ℕ) → 1 ≤ kind → kind ≤ 7 → slice_get s.made.insts p ≡ Some (label_inst (label r kind)) → begun_at s.made p ≡ []
  -- there are the variables that the regions need, and no more
  pub want : wants s.program list ≡ true → (id : ℕ) × (s.context.slot Want ≡ Some id)
  pub wanted : (id : ℕ) → s.context.slot Want ≡ Some id → wants s.program list ≡ true
  pub pick : picks s.program list ≡ true → (id : ℕ) × (s.context.slot Pick ≡ Some id)
  -- the numbers of the blocks that may be wanted, and the number for no block
  pub no_number : wants s.program list ≡ true → Uses s (global.Number (length s.program.blocks))
  pub next_numbers : wants s.program list ≡ true → (r b k : ℕ) → slice_get list r ≡ Some (region.Leaf b) → branches s.program b k ≡ true → Uses s (global.Number k)
  pub then_numbers : (r first second target : ℕ) → slice_get list r ≡ Some (region.Then first second target) → Uses s (global.Number target)
  pub loop_numbers : (r body head : ℕ) → slice_get list r ≡ Some (region.Loop body head) → Uses s (global.Number head)

-- the variable has the number of the block that is wanted, if there is one
abbrev pub HasWant : Setting → State → ℕ → Type 0
HasWant s t k = (id : ℕ) → s.context.slot Want ≡ Some id → t.locals id ≡ Some (Word k)

-- Each block that is reached stands behind its site, and the root begins at the site of block 0.
pub record RegionsStand (s : Setting) (list : List Region) (head i : ℕ) : Type 0 where
  pub leaves : (b : ℕ) (block : Block) → Reached (declared_graph s.program) b → slice_get s.program.blocks b ≡ Some block → (site : ℕ) × LeafStands s i b block site
  pub begins : (t : State) → t.at ≡ head → ((id : ℕ) → t.results id ≡ None) → HasWant s t 0 → ArrivesAt s i t 0

-- The code of the regions of every program leads each block to its next blocks.
abbrev pub RegionsRun : Type 0
RegionsRun =
    (s : Setting) → Declares s → Sound s.program → (list : List Region) → Wired s.program list → (head place : ℕ) → HasRegions s list head place → (i : ℕ) → RegionsStand s list head i
