-- A module has fewer than 2^32 types and values.
use Rattle.std.proofs.Common.{ℕ, ◌≡◌, ◌∙◌, ◌<◌, ◌^◌, Some, ap, arith, List, length}
use Rattle.std.proofs.lemmas.List.{length-map}
use Rattle.bitstream_spelling.specs.Framed.{IsFramed}
use Rattle.bitstream_spelling.specs.declared.item.Item.{Item}
use Rattle.llvm_types.specs.Types.{types_of}
use Rattle.llvm_types.specs.declared.kind.LlvmType.{LlvmType}
use Rattle.llvm_values.specs.Values.{values_of}
use Rattle.llvm_values.specs.declared.global.Global.{Global}
use Rattle.llvm_records.specs.Facts.{signature_of, called_by}
use Rattle.llvm_records.proofs.FewLaws.{facts_few}

module _ (is : List Item) (fs : List ℕ) where
  pub few_types : (all : List LlvmType) → IsFramed is fs → all ≡ types_of is fs → length all < 2 ^ 32
  few_types all f e = let few = facts_few is fs f in omega (arith, ap length e, few.types, length-map (types_of is fs) (λ t. signature_of (types_of is fs) (Some t)))

  pub few_values : (all : List LlvmType) (globals : List Global) → IsFramed is fs → all ≡ types_of is fs → globals ≡ values_of is fs all → length globals < 2 ^ 32
  few_values all globals f e g =
      let few = facts_few is fs f in
      omega (arith, ap length (g ∙ ap (values_of is fs) e), few.values, length-map (values_of is fs (types_of is fs)) (called_by (types_of is fs)))
