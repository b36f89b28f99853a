-- Which answer is a verdict.
use Rattle.std.proofs.Common.{ℕ, ap, subst, arith, List, Result, Ok, Err, if◌then◌else◌}
use Rattle.std.proofs.lemmas.Bool.{ne_eqb}
use Rattle.dx_base.specs.declared.fault.Fault.{Fault}
use Rattle.dx_base.specs.declared.fault.Fault.TheVariants.{Refused, Limit, OutOfMemory}
use Rattle.dx_base.specs.declared.fault.Rule.TheVariants.{C, B, Y, M, N, P}
use Rattle.dx_base.specs.declared.fault.Which.TheVariants.{File, Records, Fields, Blocks, Instructions, Cases, PhiEntries, Resources}
use Rattle.dxil_form.specs.declared.program.Program.{Program}
use Rattle.dxil_profile.specs.Profile.{ProfileAnswer}
use Rattle.dxbc_container.specs.declared.part.Parts.{Parts}
use Rattle.bitstream_spelling.specs.declared.item.Item.{Item}
use Rattle.dx_file.specs.Layers.{Refusal, refused, limited, IsContent}
use Rattle.dx_file.specs.Reading.{FaultAnswer}
use Rattle.llvm_shader.specs.Shader.{IsShader, AreSound, ShaderAnswer}
use Rattle.llvm_shader.specs.declared.read.Shader.{Shader}
use Rattle.spv_form.specs.declared.module.Version.{Version}
use Rattle.dx_translate.specs.Verdicts.{Verdict, stopped, IsShaderVerdict, by_profile, by_program, IsModuleVerdict, by_rule, by_limit, by_shader, IsVerdict, by_layers, by_module, VerdictAnswer, TranslateAnswer, WordsAnswer}

carried : (F G : Verdict → Type 0) → ((v : Verdict) → F v → G v) → (r : Result (List ℕ) Fault) → VerdictAnswer F r → VerdictAnswer G r
carried F G f (Ok words) p = f _ p
carried F G f (Err (Refused rule bit)) p = f _ p
carried F G f (Err (Limit which bit)) p = f _ p
carried F G f (Err OutOfMemory) p = tt

module _ (version : Version) where
  -- the verdicts on a shader
  module _ (shader : Shader) where
    pub program_verdict : (p : Program) (r : Result (List ℕ) Fault) → ProfileAnswer (Ok p) shader.types shader.records shader.facts → WordsAnswer p version r → VerdictAnswer (IsShaderVerdict version shader) r
    program_verdict p (Ok words) met a = by_program p words met.0 a
    program_verdict p (Err (Refused rule bit)) met a = absurd a
    program_verdict p (Err (Limit which bit)) met a = absurd a
    program_verdict p (Err OutOfMemory) met a = tt

    pub profile_fault : (fault : Fault) → ProfileAnswer (Err fault) shader.types shader.records shader.facts → VerdictAnswer (IsShaderVerdict version shader) (Err fault)
    profile_fault (Refused (P rule) bit) a = subst (λ (q : Refusal). IsShaderVerdict version shader (stopped q)) (ap (λ b. if b then limited Resources bit else refused (P rule) bit) (ne_eqb rule 23 (λ e. omega (arith, e, a.0)))) (by_profile rule bit a.1)
    profile_fault (Refused (C n) bit) a = absurd a
    profile_fault (Refused (B n) bit) a = absurd a
    profile_fault (Refused (Y n) bit) a = absurd a
    profile_fault (Refused (M n) bit) a = absurd a
    profile_fault (Refused (N n) bit) a = absurd a
    profile_fault (Limit Resources bit) a = by_profile 23 bit a
    profile_fault (Limit File bit) a = absurd a
    profile_fault (Limit Records bit) a = absurd a
    profile_fault (Limit Fields bit) a = absurd a
    profile_fault (Limit Blocks bit) a = absurd a
    profile_fault (Limit Instructions bit) a = absurd a
    profile_fault (Limit Cases bit) a = absurd a
    profile_fault (Limit PhiEntries bit) a = absurd a
    profile_fault OutOfMemory a = tt

  -- the verdicts on the items
  module _ (is : List Item) (fs : List ℕ) where
    pub shader_verdict : (shader : Shader) (r : Result (List ℕ) Fault) → IsShader is fs shader × AreSound is fs → VerdictAnswer (IsShaderVerdict version shader) r → VerdictAnswer (IsModuleVerdict version is fs) r
    shader_verdict shader r stated a = carried (IsShaderVerdict version shader) (IsModuleVerdict version is fs) (λ v right. by_shader shader v stated.0 stated.1 right) r a

    pub module_fault : (fault : Fault) → ShaderAnswer is fs (Err fault) → VerdictAnswer (IsModuleVerdict version is fs) (Err fault)
    module_fault (Refused rule bit) a = by_rule rule bit a
    module_fault (Limit which bit) a = by_limit which bit a
    module_fault OutOfMemory a = tt

  -- the verdicts on the file
  module _ (bytes : List ℕ) where
    pub module_verdict : (parts : Parts) (is : List Item) (fs : List ℕ) (r : Result (List ℕ) Fault) → IsContent bytes parts is fs → VerdictAnswer (IsModuleVerdict version is fs) r → TranslateAnswer version r bytes
    module_verdict parts is fs r content a = carried (IsModuleVerdict version is fs) (IsVerdict version bytes) (λ v right. by_module parts is fs v content right) r a

    pub layers_verdict : (fault : Fault) → FaultAnswer fault bytes → TranslateAnswer version (Err fault) bytes
    layers_verdict (Refused rule bit) a = by_layers (refused rule bit) a.first
    layers_verdict (Limit which bit) a = by_layers (limited which bit) a.first
    layers_verdict OutOfMemory a = tt
