-- A file holds at most one module, and its answers are the ones of the readers of its words.
use Rattle.std.proofs.Common.{ℕ, ◌≡◌, ◌%◌, inl, inr, refl, sym, subst, arith, List, length, Result, Ok, Err}
use Rattle.dx_base.proofs.FirstLaws.{first_unique}
use Rattle.dx_base.specs.First.{IsFirst, IsSound}
use Rattle.spv_form.specs.WordRules.{IsModule, Broken as BrokenWords}
use Rattle.spv_form.specs.declared.module.Module.{Module}
use Rattle.spv_form.specs.declared.fault.CheckFault.{CheckFault}
use Rattle.spv_form.specs.declared.fault.CheckFault.TheVariants.{Refused, OutOfMemory}
use Rattle.spv_form.specs.declared.fault.WordRule.{WordRule}
use Rattle.spv_form.specs.declared.fault.WordRule.TheVariants.{W, V, S}
use Rattle.spirv_words.specs.FileWords.{words_of}
use Rattle.spirv_words.specs.Reading.{ReadAnswer}
use Rattle.spirv_words.proofs.RoundTrip.{same_layout}
use Rattle.module_rules.specs.Rules.{Broken as BrokenModule}
use Rattle.structure_rules.specs.Blocks.{Broken as BrokenStructure}
use Rattle.structure_rules.specs.Checking.{CheckAnswer}
use Rattle.spirv_file.specs.Checking.{Holds, IsAccepted, IsFirstRefusal, of_words, of_module, of_structure, FileAnswer}

module _ (bytes : List ℕ) where
  one_module : (m n : Module) → Holds bytes m → Holds bytes n → n ≡ m
  one_module m n h k = same_layout (words_of bytes) n m k.is_module.layout k.formed h.is_module.layout h.formed

  -- where a module is held no rule W is broken
  no_words : (m : Module) (r w : ℕ) → Holds bytes m → IsFirst (BrokenWords (words_of bytes) (length bytes % 4)) r w → ⊥
  no_words m r w h f = h.is_module.sound.none r w (subst (λ n. BrokenWords (words_of bytes) n r w) h.whole f.broken)

  no_module : (m n : Module) (r w : ℕ) → Holds bytes m → Holds bytes n → IsSound (BrokenModule m) → IsFirst (BrokenModule n) r w → ⊥
  no_module m n r w h k s f = s.none r w (subst (λ x. BrokenModule x r w) (one_module m n h k) f.broken)

  no_structure : (m n : Module) (r w : ℕ) → Holds bytes m → Holds bytes n → IsSound (BrokenStructure m) → IsFirst (BrokenStructure n) r w → ⊥
  no_structure m n r w h k s f = s.none r w (subst (λ x. BrokenStructure x r w) (one_module m n h k) f.broken)

  first_module : (m n : Module) (r w s v : ℕ) → Holds bytes m → Holds bytes n → IsFirst (BrokenModule m) r w → IsFirst (BrokenModule n) s v → (r ≡ s) × (w ≡ v)
  first_module m n r w s v h k f g = first_unique (BrokenModule m) r w s v f (subst (λ x. IsFirst (BrokenModule x) s v) (one_module m n h k) g)

  first_structure : (m n : Module) (r w s v : ℕ) → Holds bytes m → Holds bytes n → IsFirst (BrokenStructure m) r w → IsFirst (BrokenStructure n) s v → (r ≡ s) × (w ≡ v)
  first_structure m n r w s v h k f g = first_unique (BrokenStructure m) r w s v f (subst (λ x. IsFirst (BrokenStructure x) s v) (one_module m n h k) g)

  pub refusal_unique : (one other : WordRule) (word at : ℕ) → IsFirstRefusal bytes one word → IsFirstRefusal bytes other at → (one ≡ other) × (word ≡ at)
  refusal_unique one other word at (of_words r w f) (of_words s v g) = let u = first_unique (BrokenWords (words_of bytes) (length bytes % 4)) r w s v f g in (cc (u.0), u.1)
  refusal_unique one other word at (of_words r w f) (of_module n s v k g) = absurd (no_words n r w k f)
  refusal_unique one other word at (of_words r w f) (of_structure n s v k q g) = absurd (no_words n r w k f)
  refusal_unique one other word at (of_module m r w h f) (of_words s v g) = absurd (no_words m s v h g)
  refusal_unique one other word at (of_module m r w h f) (of_module n s v k g) = let u = first_module m n r w s v h k f g in (cc (u.0), u.1)
  refusal_unique one other word at (of_module m r w h f) (of_structure n s v k q g) = absurd (no_module n m r w k h q f)
  refusal_unique one other word at (of_structure m r w h p f) (of_words s v g) = absurd (no_words m s v h g)
  refusal_unique one other word at (of_structure m r w h p f) (of_module n s v k g) = absurd (no_module m n s v h k p g)
  refusal_unique one other word at (of_structure m r w h p f) (of_structure n s v k q g) = let u = first_structure m n r w s v h k f g in (cc (u.0), u.1)

  pub accepted_sound : (rule : WordRule) (word : ℕ) → IsAccepted bytes → IsFirstRefusal bytes rule word → ⊥
  accepted_sound rule word a (of_words r w f) = no_words a.m r w a.holds f
  accepted_sound rule word a (of_module n r w k f) = no_module a.m n r w a.holds k a.rules f
  accepted_sound rule word a (of_structure n r w k q f) = no_structure a.m n r w a.holds k a.structure f

  -- the answers of the two readers
  pub words_refused : (fault : CheckFault) → ReadAnswer (Err fault) bytes → FileAnswer (Err fault) bytes
  words_refused (Refused (W rule) word) a = of_words rule word a
  words_refused (Refused (V rule) word) a = absurd a
  words_refused (Refused (S rule) word) a = absurd a
  words_refused OutOfMemory a = tt

  held : (m : Module) → ReadAnswer (Ok m) bytes → Holds bytes m
  held m a = record { whole = a.0; is_module = a.1; formed = a.2 }

  pub module_checked : (m : Module) (result : Result (Unit {0}) CheckFault) → ReadAnswer (Ok m) bytes → CheckAnswer result m → FileAnswer result bytes
  module_checked m (Ok u) a c = record { m = m; holds = held m a; rules = c.0; structure = c.1 }
  module_checked m (Err (Refused (W rule) word)) a c = absurd c
  module_checked m (Err (Refused (V rule) word)) a c = of_module m rule word (held m a) c
  module_checked m (Err (Refused (S rule) word)) a c = of_structure m rule word (held m a) c.0 c.1
  module_checked m (Err OutOfMemory) a c = tt
