use Rattle.std.proofs.Common.{inl, inr, arith}
use Rattle.program_regions.proofs.Counted.{no_longer}
use Rattle.program_regions.proofs.regions_of.Goals as goal
use Rattle.program_regions.proofs.regions_of.Goals.{else-len-gt1-via-then-len-gt1+else-len-le-MOST_NESTED, else-len-gt1-via-else-len-gt1}

pub nested-requires-clause-several : goal.nested-requires-clause-several
nested-requires-clause-several c blocks are =
    let l = no_longer c.args.p.now c.in_ok-blocks.blocks blocks c.in_ok-blocks.ensures are in
    let e = c.len.ensures in
    let t = c.if-len-gt1.true in omega arith

pub nested-requires-clause-few : goal.nested-requires-clause-few
nested-requires-clause-few c blocks are =
    let l = no_longer c.args.p.now blocks c.in_ok-blocks.blocks are c.in_ok-blocks.ensures in
    let e = c.len-then-len-gt1.ensures in
    let t = c.if-len-le-MOST_NESTED.true in omega arith

pub flat-requires-clause-count : goal.flat-requires-clause-count
flat-requires-clause-count c blocks are =
    let l = no_longer c.args.p.now blocks c.in_ok-blocks.blocks are c.in_ok-blocks.ensures in
    let m = no_longer c.args.p.now c.in_ok-blocks.blocks blocks c.in_ok-blocks.ensures are in
    elim c.else-len-gt1.branch [
      | else-len-gt1-via-then-len-gt1+else-len-le-MOST_NESTED w ↦ (let e = w.len-then-len-gt1.ensures in let f = w.if-len-le-MOST_NESTED.false in inr (omega arith))
      | else-len-gt1-via-else-len-gt1 w ↦ (let e = c.len.ensures in let f = w.if-len-gt1.false in inl (omega arith))
    ]
