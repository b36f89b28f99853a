-- The verdicts on a file agree: all of them are words, or all are the same refusal.
use Rattle.std.proofs.Common.{ℕ, ◌≡◌, ◌∙◌, ap, subst, List}
use Rattle.dx_base.specs.declared.fault.Fault.TheVariants.{Refused, Limit}
use Rattle.dx_base.specs.declared.fault.Rule.{Rule}
use Rattle.dx_base.specs.declared.fault.Which.{Which}
use Rattle.bitstream_spelling.specs.declared.item.Item.{Item}
use Rattle.dx_base.proofs.FirstLaws.{first_unique}
use Rattle.entry_read.specs.Entry.{entry_body}
use Rattle.profile_rules.specs.Rules.{Broken}
use Rattle.dx_file.specs.Layers.{Refusal, refused, limited}
use Rattle.dx_file.proofs.Answering.{refusal_unique, content_unique, content_sound}
use Rattle.llvm_shader.specs.declared.read.Shader.{Shader}
use Rattle.llvm_shader.proofs.Uniqueness.{shader_unique, refusal_unique as module_refusal_unique, sound_no_refusal}
use Rattle.spv_form.specs.declared.module.Version.{Version}
use Rattle.dx_translate.specs.Verdicts.{Verdict, written, stopped, refusal_by, IsShaderVerdict, by_profile, by_program, IsModuleVerdict, by_rule, by_limit, by_shader, IsVerdict, by_layers, by_module}

-- both are words, or both are the same refusal
pub data Agree : Verdict → Verdict → Type 0 where
  both_written : (w x : List ℕ) → Agree (written w) (written x)
  both_stopped : (r : Refusal) → Agree (stopped r) (stopped r)

stopped_same : (r q : Refusal) → r ≡ q → Agree (stopped r) (stopped q)
stopped_same r q e = subst (λ (s : Refusal). Agree (stopped r) (stopped s)) e (both_stopped r)

same_refused : (r q : Rule) (b c : ℕ) → Refused r b ≡ Refused q c → refused r b ≡ refused q c
same_refused r q b c e = cc

same_limited : (w v : Which) (b c : ℕ) → Limit w b ≡ Limit v c → limited w b ≡ limited v c
same_limited w v b c e = cc

other_faults : (r : Rule) (w : Which) (b c : ℕ) → Refused r b ≡ Limit w c → ⊥
other_faults r w b c e = cc

module _ (version : Version) where
  shader_verdicts_agree : (shader : Shader) (v w : Verdict) → IsShaderVerdict version shader v → IsShaderVerdict version shader w → Agree v w
  shader_verdicts_agree shader v w (by_profile r b f) (by_profile q c g) =
      let e = first_unique (Broken (entry_body shader.types shader.records shader.facts)) r b q c f g in
      stopped_same (refusal_by r b) (refusal_by q c) (ap (λ (n : ℕ). refusal_by n b) e.0 ∙ ap (λ (n : ℕ). refusal_by q n) e.1)
  shader_verdicts_agree shader v w (by_profile r b f) (by_program p words met are) = absurd (met.keeps.none r b f.broken)
  shader_verdicts_agree shader v w (by_program p words met are) (by_profile q c g) = absurd (met.keeps.none q c g.broken)
  shader_verdicts_agree shader v w (by_program p words met are) (by_program q others also were) = both_written words others

  module _ (is : List Item) (fs : List ℕ) where
    module_verdicts_agree : (v w : Verdict) → IsModuleVerdict version is fs v → IsModuleVerdict version is fs w → Agree v w
    module_verdicts_agree v w (by_rule r b a) (by_rule q c d) = stopped_same (refused r b) (refused q c) (same_refused r q b c (module_refusal_unique is fs (Refused r b) (Refused q c) a d))
    module_verdicts_agree v w (by_rule r b a) (by_limit k c d) = absurd (other_faults r k b c (module_refusal_unique is fs (Refused r b) (Limit k c) a d))
    module_verdicts_agree v w (by_rule r b a) (by_shader s u i sound d) = absurd (sound_no_refusal is fs (Refused r b) sound a)
    module_verdicts_agree v w (by_limit k b a) (by_rule q c d) = absurd (other_faults q k c b (module_refusal_unique is fs (Refused q c) (Limit k b) d a))
    module_verdicts_agree v w (by_limit k b a) (by_limit l c d) = stopped_same (limited k b) (limited l c) (same_limited k l b c (module_refusal_unique is fs (Limit k b) (Limit l c) a d))
    module_verdicts_agree v w (by_limit k b a) (by_shader s u i sound d) = absurd (sound_no_refusal is fs (Limit k b) sound a)
    module_verdicts_agree v w (by_shader s u i sound d) (by_rule q c a) = absurd (sound_no_refusal is fs (Refused q c) sound a)
    module_verdicts_agree v w (by_shader s u i sound d) (by_limit k c a) = absurd (sound_no_refusal is fs (Limit k c) sound a)
    module_verdicts_agree v w (by_shader s u i sound d) (by_shader t x j also e) =
        shader_verdicts_agree t v w (subst (λ (k : Shader). IsShaderVerdict version k v) (shader_unique is fs s t i j) d) e

  pub verdicts_agree : (bytes : List ℕ) (v w : Verdict) → IsVerdict version bytes v → IsVerdict version bytes w → Agree v w
  verdicts_agree bytes v w (by_layers r a) (by_layers q b) = stopped_same r q (refusal_unique bytes r q a b)
  verdicts_agree bytes v w (by_layers r a) (by_module parts is fs u c b) = absurd (content_sound bytes parts is fs r c a)
  verdicts_agree bytes v w (by_module parts is fs u c a) (by_layers q b) = absurd (content_sound bytes parts is fs q c b)
  verdicts_agree bytes v w (by_module parts is fs u c a) (by_module others js gs t d b) =
      let same = content_unique bytes parts others is js fs gs c d in
      module_verdicts_agree js gs v w (subst (λ (hs : List ℕ). IsModuleVerdict version js hs v) same.2 (subst (λ (ks : List Item). IsModuleVerdict version ks fs v) same.1 a)) b
