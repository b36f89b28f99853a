-- The answers of the readers of the layers, as that on the shader.
use Rattle.std.proofs.Common.{ℕ, ◌≡◌, ◌∙◌, ◌≤◌, refl, ap, subst, arith, List, length, Result, Ok, Err}
use Rattle.std.proofs.lemmas.Bool.{ne_eqb}
use Rattle.dx_base.specs.First.{IsSound}
use Rattle.dx_base.specs.declared.fault.Fault.{Fault}
use Rattle.dx_base.specs.declared.fault.Fault.TheVariants.{Refused, Limit, OutOfMemory}
use Rattle.dx_base.specs.declared.fault.Rule.TheVariants.{C, B, Y, M, N, P}
use Rattle.dx_base.specs.declared.fault.Which.TheVariants.{File, Records, Fields, Blocks, Instructions, Cases, PhiEntries, Resources}
use Rattle.bitstream_spelling.specs.declared.item.Item.{Item}
use Rattle.llvm_types.specs.Types.{types_of}
use Rattle.llvm_types.specs.declared.kind.Types.{Types}
use Rattle.llvm_types.specs.declared.kind.LlvmType.{LlvmType}
use Rattle.llvm_values.specs.Values.{values_of}
use Rattle.llvm_values.specs.declared.global.Global.{Global}
use Rattle.llvm_types.specs.Rules.{Broken as BreaksTypes}
use Rattle.llvm_types.specs.Reading.{TypesAnswer}
use Rattle.llvm_bodies.specs.Reading.{fault_of}
use Rattle.llvm_records.specs.declared.read.Records.{Records as AllRecords}
use Rattle.llvm_records.specs.Reading.{RecordsAnswer, AreRecords, Broken as BreaksRecords}
use Rattle.llvm_nodes.specs.Reading.{MetaAnswer}
use Rattle.llvm_nodes.specs.declared.item.Meta.{Meta}
use Rattle.llvm_facts.specs.Facts.{FactsAnswer}
use Rattle.llvm_facts.specs.Rules.{module_of}
use Rattle.llvm_facts.specs.declared.facts.Facts.{Facts}
use Rattle.llvm_shader.specs.Shader.{ShaderAnswer, FactsStand, IsFirstRefusal, of_types, of_records, of_metadata, of_facts, BreaksFacts, module_with}
use Rattle.llvm_shader.proofs.Uniqueness.{meta_unique}

-- a rule by its number up to 11 is one of the module's records
rule_fault : (rule bit : ℕ) → rule ≤ 11 → fault_of rule bit ≡ Refused (M rule) bit
rule_fault rule bit h = rw (ne_eqb rule 12 (λ e. omega (arith, e, h)), ne_eqb rule 13 (λ e. omega (arith, e, h)), ne_eqb rule 14 (λ e. omega (arith, e, h)), ne_eqb rule 15 (λ e. omega (arith, e, h))) refl

module _ (is : List Item) (fs : List ℕ) where
  pub types_refused : (e : Fault) → TypesAnswer (Err e) is fs → ShaderAnswer is fs (Err e)
  types_refused (Refused (Y rule) bit) a = of_types rule bit a
  types_refused (Refused (C n) bit) a = absurd a
  types_refused (Refused (B n) bit) a = absurd a
  types_refused (Refused (M n) bit) a = absurd a
  types_refused (Refused (N n) bit) a = absurd a
  types_refused (Refused (P n) bit) a = absurd a
  types_refused (Limit which bit) a = absurd a
  types_refused OutOfMemory a = tt

  pub records_refused : (e : Fault) → IsSound (BreaksTypes is fs) → RecordsAnswer (Err e) is fs → ShaderAnswer is fs (Err e)
  records_refused (Refused (M rule) bit) s a = subst (IsFirstRefusal is fs) (rule_fault rule bit a.0) (of_records rule bit s a.1)
  records_refused (Refused (C n) bit) s a = absurd a
  records_refused (Refused (B n) bit) s a = absurd a
  records_refused (Refused (Y n) bit) s a = absurd a
  records_refused (Refused (N n) bit) s a = absurd a
  records_refused (Refused (P n) bit) s a = absurd a
  records_refused (Limit Blocks bit) s a = of_records 12 bit s a
  records_refused (Limit Instructions bit) s a = of_records 13 bit s a
  records_refused (Limit Cases bit) s a = of_records 14 bit s a
  records_refused (Limit PhiEntries bit) s a = of_records 15 bit s a
  records_refused (Limit File bit) s a = absurd a
  records_refused (Limit Records bit) s a = absurd a
  records_refused (Limit Fields bit) s a = absurd a
  records_refused (Limit Resources bit) s a = absurd a
  records_refused OutOfMemory s a = tt

  pub metadata_refused : (types values : ℕ) (e : Fault) → types ≡ length (types_of is fs) → values ≡ length (values_of is fs (types_of is fs)) → IsSound (BreaksTypes is fs) → IsSound (BreaksRecords is fs)
      → MetaAnswer (Err e) is fs types values → FactsStand is fs (Err e)
  metadata_refused types values e t v s r a = by_fault e (subst (λ n. MetaAnswer (Err e) is fs n (length (values_of is fs (types_of is fs)))) t (subst (MetaAnswer (Err e) is fs types) v a)) where
    by_fault : (e : Fault) → MetaAnswer (Err e) is fs (length (types_of is fs)) (length (values_of is fs (types_of is fs))) → FactsStand is fs (Err e)
    by_fault (Refused (N rule) bit) a = of_metadata rule bit s r a
    by_fault (Refused (C n) bit) a = absurd a
    by_fault (Refused (B n) bit) a = absurd a
    by_fault (Refused (Y n) bit) a = absurd a
    by_fault (Refused (M n) bit) a = absurd a
    by_fault (Refused (P n) bit) a = absurd a
    by_fault (Limit which bit) a = absurd a
    by_fault OutOfMemory a = tt

  -- what the reader of the facts says of metadata that break nothing
  pub facts_told : (types values : ℕ) (all : List LlvmType) (globals : List Global) (meta : Meta) (result : Result Facts Fault) → all ≡ types_of is fs → globals ≡ values_of is fs all
      → types ≡ length (types_of is fs) → values ≡ length (values_of is fs (types_of is fs)) → IsSound (BreaksTypes is fs) → IsSound (BreaksRecords is fs)
      → MetaAnswer (Ok meta) is fs types values → FactsAnswer result (module_of meta all globals) meta → FactsStand is fs result
  facts_told types values all globals meta result e g t v s r a f = by_answer result (subst (λ m. FactsAnswer result m meta) same f) where
    same : module_of meta all globals ≡ module_with is fs meta
    same = ap (module_of meta all) (g ∙ ap (values_of is fs) e) ∙ ap (λ x. module_of meta x (values_of is fs (types_of is fs))) e

    told : MetaAnswer (Ok meta) is fs (length (types_of is fs)) (length (values_of is fs (types_of is fs)))
    told = subst (λ n. MetaAnswer (Ok meta) is fs n (length (values_of is fs (types_of is fs)))) t (subst (MetaAnswer (Ok meta) is fs types) v a)

    by_answer : (result : Result Facts Fault) → FactsAnswer result (module_with is fs meta) meta → FactsStand is fs result
    by_answer (Ok facts) f = (
      record { meta = meta; is_meta = told.0; are_facts = f.0 },
      record { types = s; records = r; metadata = told.1; facts = λ n i. subst (λ (k : Meta). IsSound (BreaksFacts is fs k)) (meta_unique is fs meta n told.0 i) f.1 },
    )
    by_answer (Err (Refused (N rule) bit)) f = of_facts meta rule bit s r told.1 told.0 f
    by_answer (Err (Refused (C n) bit)) f = absurd f
    by_answer (Err (Refused (B n) bit)) f = absurd f
    by_answer (Err (Refused (Y n) bit)) f = absurd f
    by_answer (Err (Refused (M n) bit)) f = absurd f
    by_answer (Err (Refused (P n) bit)) f = absurd f
    by_answer (Err (Limit which bit)) f = absurd f
    by_answer (Err OutOfMemory) f = tt

  -- the answer on the facts is that on the shader
  pub shader_told : (e : Fault) → FactsStand is fs (Err e) → ShaderAnswer is fs (Err e)
  shader_told (Refused rule bit) a = a
  shader_told (Limit which bit) a = a
  shader_told OutOfMemory a = tt

  pub shader_whole : (types : Types) (records : AllRecords) (facts : Facts) → types.list ≡ types_of is fs → AreRecords is fs records → FactsStand is fs (Ok facts)
      → ShaderAnswer is fs (Ok (record { types = types; records = records; facts = facts }))
  shader_whole types records facts t r f = (record { types = t; records = r; meta = f.0.meta; is_meta = f.0.is_meta; facts = f.0.are_facts }, f.1)

  pub same_values : (all : List LlvmType) (globals : List Global) → all ≡ types_of is fs → globals ≡ values_of is fs all → globals ≡ values_of is fs (types_of is fs)
  same_values all globals e g = g ∙ ap (values_of is fs) e
