-- The operation with an opcode.
use Rattle.std.proofs.Common.{ℕ, ◌≡◌, ◌≢◌, ◌==◌, List, [], ◌∷◌, refl, sym, ap, ◌∙◌, Bool, true, false, Some, None}
use Rattle.std.specs.List.{find}
use Rattle.std.proofs.lemmas.Bool.{eqb-true}
use Rattle.dxil_form.specs.Operations.{code_of}
use Rattle.dxil_form.specs.declared.op.OpKind.{OpKind}
use Rattle.dxil_form.specs.declared.op.OpKind.TheVariants.{Bfrev, Countbits, IMax, IMin, UMax, UMin, IMad, UMad, CreateHandle, CBufferLoad, BufferLoad, BufferStore, AtomicBinOp, AtomicCompareExchange, Barrier, ThreadId, GroupId, ThreadIdInGroup, FlatId, RawLoad, RawStore}
use Rattle.profile_lines.specs.Calls.{operations, operation_of}

by_code : (op : OpKind) → operation_of (Some (code_of op)) ≡ Some op
by_code Bfrev = refl
by_code Countbits = refl
by_code IMax = refl
by_code IMin = refl
by_code UMax = refl
by_code UMin = refl
by_code IMad = refl
by_code UMad = refl
by_code CreateHandle = refl
by_code CBufferLoad = refl
by_code BufferLoad = refl
by_code BufferStore = refl
by_code AtomicBinOp = refl
by_code AtomicCompareExchange = refl
by_code Barrier = refl
by_code ThreadId = refl
by_code GroupId = refl
by_code ThreadIdInGroup = refl
by_code FlatId = refl
by_code RawLoad = refl
by_code RawStore = refl

none_has : (code : ℕ) (ops : List OpKind) → ((op : OpKind) → code_of op ≢ code) → find (λ op. code_of op == code) ops ≡ None
none_has code [] h = refl
none_has code (op ∷ ops) h = skip (code_of op == code) refl (none_has code ops h) where
  skip : (b : Bool) → (code_of op == code) ≡ b → find (λ o. code_of o == code) ops ≡ None → find (λ o. code_of o == code) (op ∷ ops) ≡ None
  skip true e rest = absurd (h op (eqb-true (code_of op) code e))
  skip false e rest = rw e rest

pub found : (code : ℕ) (op : OpKind) → code_of op ≡ code → Some op ≡ operation_of (Some code)
found code op e = sym (by_code op) ∙ ap (λ c. operation_of (Some c)) e

pub missing : (code : ℕ) → ((op : OpKind) → code_of op ≢ code) → None ≡ operation_of (Some code)
missing code h = sym (none_has code operations h)
