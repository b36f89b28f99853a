-- An instruction as a pair of its opcode and its operands.
use Rattle.std.specs.Prelude.{ℕ, List, refl}
use Rattle.std.specs.Coded.{Coded, code_by, coded×, coded_ℕ, coded_list}
use Rattle.spv_form.specs.declared.module.Inst.{Inst}

abbrev pub inst_code : Coded Inst
inst_code =
    code_by (ℕ × List ℕ) (coded× coded_ℕ (coded_list coded_ℕ)) (λ x. (x.opcode, x.operands)) (λ p. record { opcode = p.0; operands = p.1 }) (λ _. refl)
