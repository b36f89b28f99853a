-- Small modules, and what their launches do by the definitions.
use Rattle.std.specs.Prelude.{◌≡◌, ℕ, ◌+◌, List, [], ◌∷◌, ◌++◌, Some, None, true, false}
use Rattle.dxil_form.specs.declared.instr.AtomicOp.TheVariants.{UMin, SMin}
use Rattle.dxil_form.specs.declared.instr.Scope.TheVariants.{Nobody, Group, Device}
use Rattle.dxil_form.specs.declared.program.Class.{Class}
use Rattle.dxil_form.specs.declared.program.Class.TheVariants.{Srv, Uav, Cbv}
use Rattle.dxil_form.specs.declared.program.Kind.TheVariants.{Raw}
use Rattle.dxil_form.specs.declared.program.Resource.{Resource}
use Rattle.spv_form.specs.declared.module.Inst.{Inst}
use Rattle.spv_form.specs.declared.module.Module.{Module}
use Rattle.spv_form.specs.declared.module.Version.TheVariants.{V16}
use Rattle.dxil_meaning.specs.Launches as launch
use Rattle.dxil_meaning.specs.Launches.{Event, Outcome, Complete, Ran}
use Rattle.dxil_meaning.specs.Source.{Launch}
use Rattle.dxil_meaning.specs.Rows.{Told, is_undefined, is_busy, is_complete, told, event, event_at, stores, loads, ends, filled, run_of, phi_swap, launch_of}
use Rattle.spirv_meaning.specs.Names.{site}
use Rattle.spirv_meaning.specs.Bindings.{Bindings, plain_bindings}
use Rattle.spirv_meaning.specs.Target.{State}
use Rattle.spirv_meaning.specs.Same.{Same, target_run}
use Rattle.spirv_meaning.specs.Empty.{inst, empty_program, empty_module, lonely_module}

-- the blocks that an invocation began, the newest first
abbrev pub walk_of : {S : Type 0} → ℕ → Outcome (Ran S) → List ℕ
walk_of i (Complete ran) = (ran.world.seen.walks i).blocks
walk_of i _ = []

-- ---- the empty shader

-- a launch of two groups
abbrev pub two_groups : Launch
two_groups = record { groups = 2 ∷ 1 ∷ 1 ∷ []; sizes = [] }

-- its one label is the site of block 0, and no label is that of block 1
abbrev pub LabelIsSite : Type 0
LabelIsSite = (site empty_module 0 ≡ Some 8) × (site empty_module 1 ≡ None)

-- the function, the label and the return are three steps
abbrev pub EmptyShaderEnds : Type 0
EmptyShaderEnds =
    told (target_run empty_module [] two_groups (filled 0) (40 ∷ 40 ∷ []) 3) ≡ is_complete (ends ∷ None ∷ [])

abbrev pub EmptyShaderIsBusy : Type 0
EmptyShaderIsBusy =
    told (target_run empty_module [] two_groups (filled 0) (40 ∷ []) 2) ≡ is_busy

abbrev pub EmptyShaderBeginsBlock : Type 0
EmptyShaderBeginsBlock =
    walk_of 40 (target_run empty_module [] two_groups (filled 0) (40 ∷ []) 3) ≡ 0 ∷ []

-- the groups of a run are those of the module's own LocalSize: where that is 1, 1, 1, two groups have no invocation 40
abbrev pub LocalSizeIsTheModules : Type 0
LocalSizeIsTheModules =
    told (target_run lonely_module [] two_groups (filled 0) (1 ∷ 40 ∷ []) 3) ≡ is_complete (ends ∷ None ∷ [])

-- a module of another LocalSize is not the same as the program
abbrev pub OtherLocalSizeIsNotSame : Type 0
OtherLocalSizeIsNotSame = Same empty_program [] lonely_module → ⊥

-- ---- bindings

abbrev pub resource_of : Class → (space lower : ℕ) → Resource
resource_of class space lower =
    record { class = class; id = 0; space = space; lower = lower; kind = Raw }

-- in space 2 and at lower bound 3 the bindings are 9 of an SRV, 10 of a UAV and 11 of a constant buffer
abbrev pub PlainBindingsAreTheFormula : Type 0
PlainBindingsAreTheFormula =
    plain_bindings (record { local = []; resources = resource_of Srv 2 3 ∷ resource_of Uav 2 3 ∷ resource_of Cbv 2 3 ∷ []; shared = []; blocks = [] }) ≡ (2, 9) ∷ (2, 10) ∷ (2, 11) ∷ []

-- ---- one block over three memories: a raw buffer of 4 words, a constant buffer of two rows, and a groupshared array of 4 words

-- the buffer is the first resource, and the constant buffer the second
abbrev pub in_order : Bindings
in_order = (0, 1) ∷ (0, 2) ∷ []

abbrev pub swapped : Bindings
swapped = (0, 2) ∷ (0, 1) ∷ []

abbrev pub three_groups : Launch
three_groups = record { groups = 3 ∷ 1 ∷ 1 ∷ []; sizes = 4 ∷ 8 ∷ [] }

-- names, decorations, types, constants and variables: 10 is the buffer, 40 the constant buffer, 41 the groupshared array and 42 the group's number; 3x is the constant x, 37 is 0x108, 38 is 0x48, and 50 and 51 are true and false
unfoldable pub declarations : List Inst
declarations =
    inst 16 (1 ∷ 17 ∷ 1 ∷ 1 ∷ 1 ∷ []) ∷
    inst 5 (20 ∷ 0x3062 ∷ []) ∷
    inst 71 (10 ∷ 34 ∷ 0 ∷ []) ∷
    inst 71 (10 ∷ 33 ∷ 1 ∷ []) ∷
    inst 71 (40 ∷ 34 ∷ 0 ∷ []) ∷
    inst 71 (40 ∷ 33 ∷ 2 ∷ []) ∷
    inst 71 (42 ∷ 11 ∷ 26 ∷ []) ∷
    inst 21 (4 ∷ 32 ∷ 0 ∷ []) ∷
    inst 20 (5 ∷ []) ∷
    inst 29 (6 ∷ 4 ∷ []) ∷
    inst 30 (7 ∷ 6 ∷ []) ∷
    inst 32 (8 ∷ 12 ∷ 7 ∷ []) ∷
    inst 59 (8 ∷ 10 ∷ 12 ∷ []) ∷
    inst 43 (4 ∷ 30 ∷ 0 ∷ []) ∷
    inst 43 (4 ∷ 31 ∷ 1 ∷ []) ∷
    inst 43 (4 ∷ 32 ∷ 2 ∷ []) ∷
    inst 43 (4 ∷ 33 ∷ 3 ∷ []) ∷
    inst 43 (4 ∷ 34 ∷ 4 ∷ []) ∷
    inst 43 (4 ∷ 37 ∷ 0x108 ∷ []) ∷
    inst 43 (4 ∷ 38 ∷ 0x48 ∷ []) ∷
    inst 23 (11 ∷ 4 ∷ 4 ∷ []) ∷
    inst 28 (12 ∷ 11 ∷ 32 ∷ []) ∷
    inst 30 (13 ∷ 12 ∷ []) ∷
    inst 32 (14 ∷ 2 ∷ 13 ∷ []) ∷
    inst 59 (14 ∷ 40 ∷ 2 ∷ []) ∷
    inst 28 (16 ∷ 4 ∷ 34 ∷ []) ∷
    inst 32 (17 ∷ 4 ∷ 16 ∷ []) ∷
    inst 59 (17 ∷ 41 ∷ 4 ∷ []) ∷
    inst 23 (18 ∷ 4 ∷ 3 ∷ []) ∷
    inst 32 (19 ∷ 1 ∷ 18 ∷ []) ∷ inst 59 (19 ∷ 42 ∷ 1 ∷ []) ∷ inst 41 (5 ∷ 50 ∷ []) ∷ inst 42 (5 ∷ 51 ∷ []) ∷ []

-- a function of one block with these instructions
unfoldable pub module_of : List Inst → Module
module_of body =
    record {
      version = V16;
      bound = 100;
      insts =
          declarations ++ (inst 54 (2 ∷ 1 ∷ 0 ∷ 3 ∷ []) ∷ inst 248 (20 ∷ []) ∷ body) ++ (inst 253 [] ∷ inst 56 [] ∷ []);
    }

-- how the first entry of invocation 1 goes, in memory that is filled with 9, by these bindings; the body's n-th step is step n + 2
abbrev pub entry_by : Bindings → List Inst → ℕ → Told
entry_by at body n = told (target_run (module_of body) at three_groups (filled 9) (1 ∷ []) (2 + n))

abbrev pub entry_of : List Inst → ℕ → Told
entry_of body n = entry_by in_order body n

-- a pointer to the buffer's word of this constant
abbrev pub word_pointer : ℕ → ℕ → Inst
word_pointer id index = inst 65 (9 ∷ id ∷ 10 ∷ 30 ∷ index ∷ [])

-- the number of the group, loaded whole, is stored to word 0
abbrev pub GroupNumberIsStored : Type 0
GroupNumberIsStored =
    entry_of (inst 61 (18 ∷ 60 ∷ 42 ∷ []) ∷ inst 81 (4 ∷ 61 ∷ 60 ∷ 0 ∷ []) ∷ word_pointer 62 30 ∷ inst 62 (62 ∷ 61 ∷ []) ∷ []) 4 ≡ is_complete (stores 0 1 ∷ [])

-- word 3 is the last one of the buffer
abbrev pub LastWordIsLoaded : Type 0
LastWordIsLoaded =
    entry_of (word_pointer 60 33 ∷ inst 61 (4 ∷ 61 ∷ 60 ∷ []) ∷ []) 2 ≡ is_complete (loads 3 9 ∷ [])

abbrev pub PastTheEndIsUndefined : Type 0
PastTheEndIsUndefined = entry_of (word_pointer 60 34 ∷ inst 61 (4 ∷ 61 ∷ 60 ∷ []) ∷ []) 2 ≡ is_undefined

-- by the other bindings the variable stands for the second resource, and by none for no memory
abbrev pub BindingsNameTheResource : Type 0
BindingsNameTheResource =
    entry_by swapped (word_pointer 60 33 ∷ inst 61 (4 ∷ 61 ∷ 60 ∷ []) ∷ []) 2 ≡ is_complete (event (launch.Load (launch.Buffer 1 3)) 9 ∷ [])

abbrev pub NoBindingIsUndefined : Type 0
NoBindingIsUndefined =
    entry_by ((1, 1) ∷ (0, 2) ∷ []) (word_pointer 60 33 ∷ inst 61 (4 ∷ 61 ∷ 60 ∷ []) ∷ []) 2 ≡ is_undefined

-- component 2 of the second row of a constant buffer is its word 6
abbrev pub RowIsFourWords : Type 0
RowIsFourWords =
    entry_of (inst 65 (15 ∷ 60 ∷ 40 ∷ 30 ∷ 31 ∷ 32 ∷ []) ∷ inst 61 (4 ∷ 61 ∷ 60 ∷ []) ∷ []) 2 ≡ is_complete (event (launch.Load (launch.Buffer 1 6)) 9 ∷ [])

-- an input is only read
abbrev pub StoreToAnInputIsUndefined : Type 0
StoreToAnInputIsUndefined =
    entry_of (inst 65 (4 ∷ 60 ∷ 42 ∷ 30 ∷ []) ∷ inst 62 (60 ∷ 33 ∷ []) ∷ []) 2 ≡ is_undefined

abbrev pub SharedWordIsStored : Type 0
SharedWordIsStored =
    entry_of (inst 65 (18 ∷ 60 ∷ 41 ∷ 32 ∷ []) ∷ inst 62 (60 ∷ 33 ∷ []) ∷ []) 2 ≡ is_complete (event (launch.Store (launch.Shared 0 2) 3) 0 ∷ [])

-- an atomic minimum on the buffer has the scope of the device
abbrev pub AtomicMinimum : Type 0
AtomicMinimum =
    entry_of (word_pointer 60 30 ∷ inst 237 (4 ∷ 61 ∷ 60 ∷ 31 ∷ 30 ∷ 33 ∷ []) ∷ []) 2 ≡ is_complete (event (launch.Atomic (launch.Buffer 0 0) UMin 3) 9 ∷ [])

abbrev pub SignedMinimum : Type 0
SignedMinimum =
    entry_of (word_pointer 60 30 ∷ inst 236 (4 ∷ 61 ∷ 60 ∷ 31 ∷ 30 ∷ 33 ∷ []) ∷ []) 2 ≡ is_complete (event (launch.Atomic (launch.Buffer 0 0) SMin 3) 9 ∷ [])

abbrev pub AtomicOfAnotherScopeIsUndefined : Type 0
AtomicOfAnotherScopeIsUndefined =
    entry_of (word_pointer 60 30 ∷ inst 237 (4 ∷ 61 ∷ 60 ∷ 32 ∷ 30 ∷ 33 ∷ []) ∷ []) 2 ≡ is_undefined

-- a control barrier waits for the group
abbrev pub ControlBarrierSyncs : Type 0
ControlBarrierSyncs =
    entry_of (inst 224 (32 ∷ 32 ∷ 37 ∷ []) ∷ []) 1 ≡ is_complete (event_at (launch.Barrier true Group false true) 0 0 ∷ [])

abbrev pub MemoryBarrierDoesNot : Type 0
MemoryBarrierDoesNot =
    entry_of (inst 225 (31 ∷ 38 ∷ []) ∷ []) 1 ≡ is_complete (event_at (launch.Barrier false Device true false) 0 0 ∷ [])

abbrev pub BarrierOfNobody : Type 0
BarrierOfNobody =
    entry_of (inst 224 (32 ∷ 32 ∷ 30 ∷ []) ∷ []) 1 ≡ is_complete (event_at (launch.Barrier true Nobody false false) 0 0 ∷ [])

-- both arms of a select have values of one kind, the arm that is not chosen too
abbrev pub ArmsOfTwoKindsAreUndefined : Type 0
ArmsOfTwoKindsAreUndefined = entry_of (inst 169 (4 ∷ 60 ∷ 50 ∷ 31 ∷ 51 ∷ []) ∷ []) 2 ≡ is_undefined

abbrev pub ArmWithoutValueIsUndefined : Type 0
ArmWithoutValueIsUndefined = entry_of (inst 169 (4 ∷ 60 ∷ 50 ∷ 31 ∷ 61 ∷ []) ∷ []) 2 ≡ is_undefined

abbrev pub ChosenArmIsStored : Type 0
ChosenArmIsStored =
    entry_of (inst 169 (4 ∷ 60 ∷ 51 ∷ 31 ∷ 33 ∷ []) ∷ word_pointer 61 30 ∷ inst 62 (61 ∷ 60 ∷ []) ∷ []) 3 ≡ is_complete (stores 0 3 ∷ [])

abbrev pub DivisionByZeroIsUndefined : Type 0
DivisionByZeroIsUndefined = entry_of (inst 134 (4 ∷ 60 ∷ 33 ∷ 30 ∷ []) ∷ []) 1 ≡ is_undefined

-- the buffer has four words
abbrev pub LengthIsStored : Type 0
LengthIsStored =
    entry_of (inst 68 (4 ∷ 60 ∷ 10 ∷ 0 ∷ []) ∷ word_pointer 61 30 ∷ inst 62 (61 ∷ 60 ∷ []) ∷ []) 3 ≡ is_complete (stores 0 4 ∷ [])

-- ---- the swap of two phis

-- A module of the program `phi_swap`. The Function variables 70, 71 and 72 hold what a, b and i take next, and 73 and 74 hold a and b for block 2; 20, 21 and 22 are the labels of the blocks 0, 1 and 2.
unfoldable pub swap_module : Module
swap_module =
    record {
      version = V16;
      bound = 100;
      insts =
          inst 5 (21 ∷ 0x3162 ∷ []) ∷
          inst 5 (22 ∷ 0x3262 ∷ []) ∷
          inst 32 (52 ∷ 7 ∷ 4 ∷ []) ∷
          (module_of (inst 59 (52 ∷ 70 ∷ 7 ∷ 30 ∷ []) ∷ inst 59 (52 ∷ 71 ∷ 7 ∷ 30 ∷ []) ∷ inst 59 (52 ∷ 72 ∷ 7 ∷ 30 ∷ []) ∷ inst 59 (52 ∷ 73 ∷ 7 ∷ 30 ∷ []) ∷ inst 59 (52 ∷ 74 ∷ 7 ∷ 30 ∷ []) ∷ inst 62 (70 ∷ 31 ∷ []) ∷ inst 62 (71 ∷ 32 ∷ []) ∷ inst 62 (72 ∷ 30 ∷ []) ∷ inst 249 (21 ∷ []) ∷ inst 248 (21 ∷ []) ∷ inst 61 (4 ∷ 80 ∷ 70 ∷ []) ∷ inst 61 (4 ∷ 81 ∷ 71 ∷ []) ∷ inst 61 (4 ∷ 82 ∷ 72 ∷ []) ∷ inst 62 (73 ∷ 80 ∷ []) ∷ inst 62 (74 ∷ 81 ∷ []) ∷ inst 128 (4 ∷ 83 ∷ 82 ∷ 31 ∷ []) ∷ inst 176 (5 ∷ 84 ∷ 83 ∷ 33 ∷ []) ∷ inst 62 (70 ∷ 81 ∷ []) ∷ inst 62 (71 ∷ 80 ∷ []) ∷ inst 62 (72 ∷ 83 ∷ []) ∷ inst 246 (22 ∷ 21 ∷ 0 ∷ []) ∷ inst 250 (84 ∷ 21 ∷ 22 ∷ []) ∷ inst 248 (22 ∷ []) ∷ word_pointer 85 30 ∷ inst 61 (4 ∷ 86 ∷ 73 ∷ []) ∷ inst 62 (85 ∷ 86 ∷ []) ∷ word_pointer 87 31 ∷ inst 61 (4 ∷ 88 ∷ 74 ∷ []) ∷ inst 62 (87 ∷ 88 ∷ []) ∷ [])).insts;
    }

abbrev pub swap_run : ℕ → Outcome (Ran State)
swap_run n = target_run swap_module in_order three_groups (filled 9) (1 ∷ 1 ∷ 1 ∷ []) n

-- the first entry takes 54 steps to its store, where the program takes 14
abbrev pub SwapStores : Type 0
SwapStores = told (swap_run 54) ≡ is_complete (stores 0 1 ∷ stores 1 2 ∷ ends ∷ [])

abbrev pub SwapIsBusy : Type 0
SwapIsBusy = told (swap_run 53) ≡ is_busy

-- the blocks that it begins are those that the program begins, the newest first
abbrev pub SwapBeginsBlocks : Type 0
SwapBeginsBlocks =
    (walk_of 1 (swap_run 54) ≡ 2 ∷ 1 ∷ 1 ∷ 1 ∷ 0 ∷ []) × (walk_of 0 (run_of phi_swap (launch_of 2) (filled 9) 14 (0 ∷ 0 ∷ 0 ∷ [])) ≡ 2 ∷ 1 ∷ 1 ∷ 1 ∷ 0 ∷ [])
