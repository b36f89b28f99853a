use Rattle.std.proofs.Common.{◌≡◌, true, length, nat_lt, sym, ap, ◌∙◌, arith}
use Rattle.std.specs.List.{list_all}
use Rattle.dxil_form.specs.declared.block.Block.{Block}
use Rattle.lower_tests.proofs.Behind.{few_phis}
use Rattle.lower_tests.proofs.counted.are_counted.Goals as goal

pub returns : goal.returns
returns c = λ t.
    let few : list_all (λ (block : Block). nat_lt (length block.phis) 4294967296) c.args.p.now.blocks ≡ true = ap (list_all (λ (block : Block). nat_lt (length block.phis) 4294967296)) (sym c.as_slice.ensures) ∙ sym c.are_few_phis.ensures ∙ c.if-not-are_few_phis.false in
    record {
      words = record { blocks = omega arith; shared = omega arith };
      places = record { blocks_fit = omega arith; phis_fit = few_phis c.args.p.now.blocks few };
      regions = omega arith;
      earlier = c.are_earlier.ensures t;
    }
