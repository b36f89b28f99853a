-- Small programs, and the modules that they are lowered to.
use Rattle.std.specs.Prelude.{◌≡◌, false, List, [], ◌∷◌}
use Rattle.dxil_form.specs.declared.value.Ty.TheVariants as ty
use Rattle.dxil_form.specs.declared.value.Operand.TheVariants as operand
use Rattle.dxil_form.specs.declared.instr.BinOp.TheVariants as bin
use Rattle.dxil_form.specs.declared.instr.CmpOp.TheVariants as cmp
use Rattle.dxil_form.specs.declared.instr.IdOp.TheVariants as thread
use Rattle.dxil_form.specs.declared.instr.Target.TheVariants as target
use Rattle.dxil_form.specs.declared.instr.Addr.TheVariants.{Byte}
use Rattle.dxil_form.specs.declared.instr.Instr.TheVariants.{Bin, Cmp, Id, Store}
use Rattle.dxil_form.specs.declared.block.Term.TheVariants as term
use Rattle.dxil_form.specs.declared.program.Class.TheVariants.{Uav}
use Rattle.dxil_form.specs.declared.program.Kind.TheVariants.{Raw}
use Rattle.dxil_form.specs.declared.program.Program.{Program}
use Rattle.dxil_form.specs.declared.region.Region.{Region}
use Rattle.dxil_form.specs.declared.region.Region.TheVariants as region
use Rattle.spv_form.specs.declared.module.Version.TheVariants.{V13, V16}
use Rattle.spirv_code.specs.declared.key.Sort.TheVariants as sort
use Rattle.spirv_code.specs.declared.key.Storage.TheVariants as storage
use Rattle.spirv_code.specs.declared.key.BuiltIn.TheVariants as builtin
use Rattle.spirv_code.specs.declared.key.Global.TheVariants.{Plain, Pointer, Number, Input, Buffer}
use Rattle.spirv_code.specs.declared.key.Slot.TheVariants.{Next, Kept, Want}
use Rattle.spirv_code.specs.Plans.{Plan, inst}
use Rattle.spirv_code.specs.Frame.{insts_of, bound_of}

-- ---- the empty shader, of 8 * 4 * 1 threads

abbrev pub empty_program : Program
empty_program =
    record { «local» = 8 ∷ 4 ∷ 1 ∷ []; resources = []; shared = []; blocks = record { phis = []; instrs = []; term = term.Ret } ∷ [] }

abbrev pub bare_plan : Plan
bare_plan = record { regions = 1; slots = []; table = [] }

-- the 38 words of the module are a header of bound 5 and these instructions
abbrev pub EmptyShader : Type 0
EmptyShader =
    insts_of empty_program (region.Leaf 0 ∷ []) [] V16 bare_plan ≡
    inst 17 (1 ∷ []) ∷
    inst 14 (0 ∷ 1 ∷ []) ∷
    inst 15 (5 ∷ 1 ∷ 0x6E69_616D ∷ 0 ∷ []) ∷
    inst 16 (1 ∷ 17 ∷ 8 ∷ 4 ∷ 1 ∷ []) ∷
    inst 5 (4 ∷ 0x3062 ∷ []) ∷
    inst 19 (2 ∷ []) ∷ inst 33 (3 ∷ 2 ∷ []) ∷ inst 54 (2 ∷ 1 ∷ 0 ∷ 3 ∷ []) ∷ inst 248 (4 ∷ []) ∷ inst 253 [] ∷ inst 56 [] ∷ []

abbrev pub EmptyShaderBound : Type 0
EmptyShaderBound = bound_of bare_plan 11 ≡ 5

-- ---- one block, which stores the number of the invocation in its group at byte 8 of a raw buffer

abbrev pub thread_program : Program
thread_program =
    record { «local» = 8 ∷ 4 ∷ 1 ∷ []; resources = record { class = Uav; id = 0; space = 0; lower = 0; kind = Raw } ∷ []; shared = []; blocks = record { phis = []; instrs = Id (record { value = 7; part = 0 }) thread.Flat 0 ∷ Store 1 (target.Buffer 0) (Byte (operand.Int 8)) (operand.Reg (record { value = 7; part = 0 }) ty.Int) (operand.Undef ty.Int) (operand.Undef ty.Int) (operand.Undef ty.Int) ∷ []; term = term.Ret } ∷ [] }

abbrev pub thread_regions : List Region
thread_regions = region.Leaf 0 ∷ []

abbrev pub thread_plan : Plan
thread_plan =
    record { regions = 1; slots = Kept 7 0 false ∷ []; table = Plain sort.Int ∷ Pointer storage.Function sort.Int ∷ Number 0 ∷ Plain sort.Bool ∷ Pointer storage.Input sort.Int ∷ Input builtin.LocalInvocationIndex ∷ Number 8 ∷ Number 2 ∷ Plain (sort.Words 0) ∷ Plain (sort.Block 0) ∷ Pointer storage.StorageBuffer (sort.Block 0) ∷ Buffer 0 ∷ Pointer storage.StorageBuffer sort.Int ∷ [] }

abbrev pub ThreadNumberIsStored : Type 0
ThreadNumberIsStored =
    insts_of thread_program thread_regions ((0, 1) ∷ []) V16 thread_plan ≡
    inst 17 (1 ∷ []) ∷ inst 14 (0 ∷ 1 ∷ []) ∷ inst 15 (5 ∷ 1 ∷ 1852399981 ∷ 0 ∷ 18 ∷ 24 ∷ []) ∷
    inst 16 (1 ∷ 17 ∷ 8 ∷ 4 ∷ 1 ∷ []) ∷ inst 5 (4 ∷ 12386 ∷ []) ∷ inst 71 (18 ∷ 11 ∷ 29 ∷ []) ∷
    inst 71 (21 ∷ 6 ∷ 4 ∷ []) ∷ inst 71 (22 ∷ 2 ∷ []) ∷ inst 72 (22 ∷ 0 ∷ 35 ∷ 0 ∷ []) ∷
    inst 71 (24 ∷ 34 ∷ 0 ∷ []) ∷ inst 71 (24 ∷ 33 ∷ 1 ∷ []) ∷ inst 19 (2 ∷ []) ∷ inst 33 (3 ∷ 2 ∷ []) ∷
    inst 21 (13 ∷ 32 ∷ 0 ∷ []) ∷ inst 32 (14 ∷ 7 ∷ 13 ∷ []) ∷ inst 43 (13 ∷ 15 ∷ 0 ∷ []) ∷ inst 20 (16 ∷ []) ∷
    inst 32 (17 ∷ 1 ∷ 13 ∷ []) ∷ inst 59 (17 ∷ 18 ∷ 1 ∷ []) ∷ inst 43 (13 ∷ 19 ∷ 8 ∷ []) ∷
    inst 43 (13 ∷ 20 ∷ 2 ∷ []) ∷ inst 29 (21 ∷ 13 ∷ []) ∷ inst 30 (22 ∷ 21 ∷ []) ∷ inst 32 (23 ∷ 12 ∷ 22 ∷ []) ∷
    inst 59 (23 ∷ 24 ∷ 12 ∷ []) ∷ inst 32 (25 ∷ 12 ∷ 13 ∷ []) ∷ inst 54 (2 ∷ 1 ∷ 0 ∷ 3 ∷ []) ∷ inst 248 (4 ∷ []) ∷
    inst 59 (14 ∷ 12 ∷ 7 ∷ 15 ∷ []) ∷ inst 61 (13 ∷ 41 ∷ 18 ∷ []) ∷ inst 62 (12 ∷ 41 ∷ []) ∷
    inst 194 (13 ∷ 43 ∷ 19 ∷ 20 ∷ []) ∷ inst 68 (13 ∷ 44 ∷ 24 ∷ 0 ∷ []) ∷ inst 176 (16 ∷ 45 ∷ 43 ∷ 44 ∷ []) ∷
    inst 247 (54 ∷ 0 ∷ []) ∷ inst 250 (45 ∷ 48 ∷ 54 ∷ []) ∷ inst 248 (48 ∷ []) ∷
    inst 194 (13 ∷ 49 ∷ 19 ∷ 20 ∷ []) ∷ inst 65 (25 ∷ 50 ∷ 24 ∷ 15 ∷ 49 ∷ []) ∷ inst 61 (13 ∷ 51 ∷ 12 ∷ []) ∷
    inst 62 (50 ∷ 51 ∷ []) ∷ inst 249 (54 ∷ []) ∷ inst 248 (54 ∷ []) ∷ inst 253 [] ∷ inst 56 [] ∷ []

-- at version 1.3 the interface has the input alone
abbrev pub ThreadNumberAtVersion13 : Type 0
ThreadNumberAtVersion13 =
    insts_of thread_program thread_regions ((0, 1) ∷ []) V13 thread_plan ≡
    inst 17 (1 ∷ []) ∷ inst 14 (0 ∷ 1 ∷ []) ∷ inst 15 (5 ∷ 1 ∷ 1852399981 ∷ 0 ∷ 18 ∷ []) ∷
    inst 16 (1 ∷ 17 ∷ 8 ∷ 4 ∷ 1 ∷ []) ∷ inst 5 (4 ∷ 12386 ∷ []) ∷ inst 71 (18 ∷ 11 ∷ 29 ∷ []) ∷
    inst 71 (21 ∷ 6 ∷ 4 ∷ []) ∷ inst 71 (22 ∷ 2 ∷ []) ∷ inst 72 (22 ∷ 0 ∷ 35 ∷ 0 ∷ []) ∷
    inst 71 (24 ∷ 34 ∷ 0 ∷ []) ∷ inst 71 (24 ∷ 33 ∷ 1 ∷ []) ∷ inst 19 (2 ∷ []) ∷ inst 33 (3 ∷ 2 ∷ []) ∷
    inst 21 (13 ∷ 32 ∷ 0 ∷ []) ∷ inst 32 (14 ∷ 7 ∷ 13 ∷ []) ∷ inst 43 (13 ∷ 15 ∷ 0 ∷ []) ∷ inst 20 (16 ∷ []) ∷
    inst 32 (17 ∷ 1 ∷ 13 ∷ []) ∷ inst 59 (17 ∷ 18 ∷ 1 ∷ []) ∷ inst 43 (13 ∷ 19 ∷ 8 ∷ []) ∷
    inst 43 (13 ∷ 20 ∷ 2 ∷ []) ∷ inst 29 (21 ∷ 13 ∷ []) ∷ inst 30 (22 ∷ 21 ∷ []) ∷ inst 32 (23 ∷ 12 ∷ 22 ∷ []) ∷
    inst 59 (23 ∷ 24 ∷ 12 ∷ []) ∷ inst 32 (25 ∷ 12 ∷ 13 ∷ []) ∷ inst 54 (2 ∷ 1 ∷ 0 ∷ 3 ∷ []) ∷ inst 248 (4 ∷ []) ∷
    inst 59 (14 ∷ 12 ∷ 7 ∷ 15 ∷ []) ∷ inst 61 (13 ∷ 41 ∷ 18 ∷ []) ∷ inst 62 (12 ∷ 41 ∷ []) ∷
    inst 194 (13 ∷ 43 ∷ 19 ∷ 20 ∷ []) ∷ inst 68 (13 ∷ 44 ∷ 24 ∷ 0 ∷ []) ∷ inst 176 (16 ∷ 45 ∷ 43 ∷ 44 ∷ []) ∷
    inst 247 (54 ∷ 0 ∷ []) ∷ inst 250 (45 ∷ 48 ∷ 54 ∷ []) ∷ inst 248 (48 ∷ []) ∷
    inst 194 (13 ∷ 49 ∷ 19 ∷ 20 ∷ []) ∷ inst 65 (25 ∷ 50 ∷ 24 ∷ 15 ∷ 49 ∷ []) ∷ inst 61 (13 ∷ 51 ∷ 12 ∷ []) ∷
    inst 62 (50 ∷ 51 ∷ []) ∷ inst 249 (54 ∷ []) ∷ inst 248 (54 ∷ []) ∷ inst 253 [] ∷ inst 56 [] ∷ []

-- ---- blocks 1 and 2 are a ring that is left for block 3: block 2 is an arm of block 1, whose phi counts

abbrev pub ring_program : Program
ring_program =
    record { «local» = 1 ∷ 1 ∷ 1 ∷ []; resources = []; shared = []; blocks = record { phis = []; instrs = []; term = term.Go 1 } ∷ record { phis = record { to = (record { value = 4; part = 0 }); ty = ty.Int; entries = record { from = 0; value = operand.Int 0 } ∷ record { from = 2; value = operand.Reg (record { value = 6; part = 0 }) ty.Int } ∷ [] } ∷ []; instrs = Cmp (record { value = 5; part = 0 }) cmp.ULt ty.Int (operand.Reg (record { value = 4; part = 0 }) ty.Int) (operand.Int 3) ∷ []; term = term.If (operand.Reg (record { value = 5; part = 0 }) ty.Bool) 2 3 } ∷ record { phis = []; instrs = Bin (record { value = 6; part = 0 }) bin.Add ty.Int (operand.Reg (record { value = 4; part = 0 }) ty.Int) (operand.Int 1) ∷ []; term = term.Go 1 } ∷ record { phis = []; instrs = []; term = term.Ret } ∷ [] }

abbrev pub ring_regions : List Region
ring_regions = region.Leaf 0 ∷ region.Leaf 1 ∷ region.Leaf 2 ∷ region.Leaf 3 ∷ region.Arms 1 ((2, 2) ∷ []) ∷ region.Loop 4 1 ∷ region.Then 0 5 1 ∷ region.Then 6 3 3 ∷ []

abbrev pub ring_plan : Plan
ring_plan =
    record { regions = 8; slots = Next 4 0 false ∷ Kept 4 0 false ∷ Kept 6 0 false ∷ Want ∷ []; table = Plain sort.Int ∷ Pointer storage.Function sort.Int ∷ Number 0 ∷ Number 1 ∷ Plain sort.Bool ∷ Number 3 ∷ Number 4 ∷ [] }

abbrev pub RingIsLoop : Type 0
RingIsLoop =
    insts_of ring_program ring_regions ([]) V16 ring_plan ≡
    inst 17 (1 ∷ []) ∷ inst 14 (0 ∷ 1 ∷ []) ∷ inst 15 (5 ∷ 1 ∷ 1852399981 ∷ 0 ∷ []) ∷
    inst 16 (1 ∷ 17 ∷ 1 ∷ 1 ∷ 1 ∷ []) ∷ inst 5 (4 ∷ 12386 ∷ []) ∷ inst 5 (12 ∷ 12642 ∷ []) ∷
    inst 5 (20 ∷ 12898 ∷ []) ∷ inst 5 (28 ∷ 13154 ∷ []) ∷ inst 19 (2 ∷ []) ∷ inst 33 (3 ∷ 2 ∷ []) ∷
    inst 21 (72 ∷ 32 ∷ 0 ∷ []) ∷ inst 32 (73 ∷ 7 ∷ 72 ∷ []) ∷ inst 43 (72 ∷ 74 ∷ 0 ∷ []) ∷
    inst 43 (72 ∷ 75 ∷ 1 ∷ []) ∷ inst 20 (76 ∷ []) ∷ inst 43 (72 ∷ 77 ∷ 3 ∷ []) ∷ inst 43 (72 ∷ 78 ∷ 4 ∷ []) ∷
    inst 54 (2 ∷ 1 ∷ 0 ∷ 3 ∷ []) ∷ inst 248 (4 ∷ []) ∷ inst 59 (73 ∷ 68 ∷ 7 ∷ 74 ∷ []) ∷
    inst 59 (73 ∷ 69 ∷ 7 ∷ 74 ∷ []) ∷ inst 59 (73 ∷ 70 ∷ 7 ∷ 74 ∷ []) ∷ inst 59 (73 ∷ 71 ∷ 7 ∷ 74 ∷ []) ∷
    inst 62 (68 ∷ 74 ∷ []) ∷ inst 62 (71 ∷ 75 ∷ []) ∷ inst 61 (72 ∷ 93 ∷ 71 ∷ []) ∷
    inst 170 (76 ∷ 94 ∷ 93 ∷ 75 ∷ []) ∷ inst 247 (50 ∷ 0 ∷ []) ∷ inst 250 (94 ∷ 45 ∷ 50 ∷ []) ∷
    inst 248 (45 ∷ []) ∷ inst 246 (48 ∷ 47 ∷ 0 ∷ []) ∷ inst 249 (12 ∷ []) ∷ inst 248 (12 ∷ []) ∷
    inst 61 (72 ∷ 101 ∷ 68 ∷ []) ∷ inst 62 (69 ∷ 101 ∷ []) ∷ inst 176 (76 ∷ 103 ∷ 101 ∷ 77 ∷ []) ∷
    inst 247 (17 ∷ 0 ∷ []) ∷ inst 250 (103 ∷ 20 ∷ 106 ∷ []) ∷ inst 248 (106 ∷ []) ∷ inst 62 (71 ∷ 77 ∷ []) ∷
    inst 249 (17 ∷ []) ∷ inst 248 (20 ∷ []) ∷ inst 61 (72 ∷ 110 ∷ 69 ∷ []) ∷ inst 128 (72 ∷ 111 ∷ 110 ∷ 75 ∷ []) ∷
    inst 62 (70 ∷ 111 ∷ []) ∷ inst 62 (68 ∷ 111 ∷ []) ∷ inst 62 (71 ∷ 75 ∷ []) ∷ inst 249 (17 ∷ []) ∷
    inst 248 (17 ∷ []) ∷ inst 249 (47 ∷ []) ∷ inst 248 (47 ∷ []) ∷ inst 61 (72 ∷ 119 ∷ 71 ∷ []) ∷
    inst 170 (76 ∷ 120 ∷ 119 ∷ 75 ∷ []) ∷ inst 250 (120 ∷ 45 ∷ 48 ∷ []) ∷ inst 248 (48 ∷ []) ∷ inst 249 (50 ∷ []) ∷
    inst 248 (50 ∷ []) ∷ inst 61 (72 ∷ 125 ∷ 71 ∷ []) ∷ inst 170 (76 ∷ 126 ∷ 125 ∷ 77 ∷ []) ∷
    inst 247 (34 ∷ 0 ∷ []) ∷ inst 250 (126 ∷ 28 ∷ 34 ∷ []) ∷ inst 248 (28 ∷ []) ∷ inst 62 (71 ∷ 78 ∷ []) ∷
    inst 249 (34 ∷ []) ∷ inst 248 (34 ∷ []) ∷ inst 253 [] ∷ inst 56 [] ∷ []
