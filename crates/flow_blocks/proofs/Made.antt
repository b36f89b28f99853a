-- What holds of the numbered blocks of a module holds of the answer's blocks.
use Rattle.std.proofs.Common.{ℕ, ◌≡◌, ◌<◌, ◌^◌, ◌∙◌, sym, ap, subst, arith, List, length, Result, Ok, Err, IfOk, Vec, Global}
use Rattle.spv_form.specs.declared.module.Inst.{Inst}
use Rattle.spv_form.specs.Words.{start_of}
use Rattle.flow_rules.specs.Blocks.{BasicBlock}
use Rattle.flow_blocks.specs.Blocks.{labeled_blocks}
use Rattle.flow_blocks.specs.Numbered.{number_of, each_numbered, blocks_of}
use Rattle.flow_blocks.proofs.FewBlocks.{few_blocks}
use Rattle.flow_blocks.proofs.Numbered.{length_is}
use Rattle.flow_blocks.proofs.Passing.{numbered_same}

pub made : {E : Type 0} (P : List BasicBlock → Type 0) (r : Result (Vec BasicBlock Global) E) (insts xs : List Inst) (number : ℕ → ℕ) → xs ≡ insts → ((id : ℕ) → number id ≡ number_of (labeled_blocks xs) id)
    → IfOk r (λ blocks. blocks.items ≡ each_numbered number (labeled_blocks xs)) → P (blocks_of insts) → IfOk r (λ blocks. P blocks.items)
made P (Ok blocks) insts xs number same agree is holds = subst P (sym (is ∙ numbered_same number (number_of (labeled_blocks xs)) agree (labeled_blocks xs) ∙ ap blocks_of same)) holds
made P (Err e) insts xs number same agree is holds = holds_nothing where
  holds_nothing : IfOk (Err e) (λ (blocks : Vec BasicBlock Global). P blocks.items)
  holds_nothing = _

pub few_made : (insts : List Inst) → start_of insts (length insts) < 2 ^ 32 → length (blocks_of insts) < 2 ^ 32
few_made insts short = omega (arith, few_blocks insts short, length_is (labeled_blocks insts))
