-- The opcodes of the DXIL operations that a program may call (DXIL.rst, "Operations").
use Rattle.std.specs.Prelude.{ℕ}
use Rattle.dxil_form.specs.declared.op.OpKind.{OpKind}
use Rattle.dxil_form.specs.declared.op.OpKind.TheVariants.{Bfrev, Countbits, IMax, IMin, UMax, UMin, IMad, UMad, CreateHandle, CBufferLoad, BufferLoad, BufferStore, AtomicBinOp, AtomicCompareExchange, Barrier, ThreadId, GroupId, ThreadIdInGroup, FlatId, RawLoad, RawStore}

abbrev pub code_of : OpKind → ℕ
code_of Bfrev = 30
code_of Countbits = 31
code_of IMax = 37
code_of IMin = 38
code_of UMax = 39
code_of UMin = 40
code_of IMad = 48
code_of UMad = 49
code_of CreateHandle = 57
code_of CBufferLoad = 59
code_of BufferLoad = 68
code_of BufferStore = 69
code_of AtomicBinOp = 78
code_of AtomicCompareExchange = 79
code_of Barrier = 80
code_of ThreadId = 93
code_of GroupId = 94
code_of ThreadIdInGroup = 95
code_of FlatId = 96
code_of RawLoad = 139
code_of RawStore = 140
