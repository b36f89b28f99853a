-- A module's lists by number, as the fields of its metadata name them.
use Rattle.std.specs.Prelude.{ℕ, List}
use Rattle.llvm_nodes.specs.declared.item.MetaItem.{MetaItem}
use Rattle.llvm_types.specs.declared.kind.LlvmType.{LlvmType}
use Rattle.llvm_values.specs.declared.global.Global.{Global}

-- the numbered records of the metadata, their bits, and the types and values of the module
pub record Module : Type 0 where
  pub items : List MetaItem
  pub bits : List ℕ
  pub types : List LlvmType
  pub values : List Global
