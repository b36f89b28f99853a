-- What the bodies of a module need to know of its types and values.
use Rattle.std.specs.Prelude.{ℕ, ◌≤◌, ◌^◌, All, List, length, map, slice_get, Option, Some, None, Bool, true, false}
use Rattle.std.specs.List.{filter}
use Rattle.llvm_types.specs.declared.kind.LlvmType.{LlvmType}
use Rattle.llvm_types.specs.declared.kind.LlvmType.TheVariants as types
use Rattle.llvm_values.specs.declared.global.Global.{Global}
use Rattle.llvm_values.specs.declared.global.Global.TheVariants.{Variable, Function, Constant}
use Rattle.llvm_bodies.specs.declared.facts.Signature.{Signature}
use Rattle.llvm_bodies.specs.declared.facts.ModuleFacts.{ModuleFacts}

abbrev pub no_function : Signature
no_function = record { is_function = false; vararg = false; is_void = false; params = 0 }

abbrev pub is_void : Option LlvmType → Bool
is_void (Some types.Void) = true
is_void other = false

-- the signature of a function type; of any other type, none
abbrev pub signature_of : List LlvmType → Option LlvmType → Signature
signature_of all (Some (types.Function vararg ret params)) = record { is_function = true; vararg = vararg; is_void = is_void (slice_get all ret); params = length params }
signature_of all other = no_function

-- the signature of a value, which is a function where a FUNCTION record states it
abbrev pub called_by : List LlvmType → Global → Signature
called_by all (Function ty body name bit) = record (signature_of all (slice_get all ty)) { is_function = true }
called_by all (Variable ty space init bit) = no_function
called_by all (Constant ty kind bit) = no_function

abbrev pub has_body : Global → Bool
has_body (Function ty (Some body) name bit) = true
has_body (Function ty None name bit) = false
has_body (Variable ty space init bit) = false
has_body (Constant ty kind bit) = false

abbrev pub params_of : List LlvmType → Global → ℕ
params_of all value = (called_by all value).params

-- the callees by value number, the types by number, and the arguments of each function with a body
abbrev pub facts_of : List LlvmType → List Global → ModuleFacts
facts_of all values = record {
  callees = map (called_by all) values;
  types = map (λ t. signature_of all (Some t)) all;
  arguments = map (params_of all) (filter has_body values);
}

-- ---- what keeps the counts small

abbrev pub params_in : LlvmType → ℕ
params_in (types.Function vararg ret params) = length params
params_in other = 0

-- no function type has more parameters than a file has fields
abbrev pub HaveFewParams : List LlvmType → Type 0
HaveFewParams all = All (λ t. params_in t ≤ 2 ^ 24) all
