use Rattle.std.proofs.Common.{◌∙◌, sym, subst}
use Rattle.dxil_form.specs.Graphs.{Graph}
use Rattle.flow_graph.specs.Shapes.{plain}
use Rattle.head_table.specs.declared.table.HeadTable.{HeadTable}
use Rattle.head_table.specs.Table.{over}
use Rattle.region_builder.specs.Settled.{AllSettledBy}
use Rattle.region_builder.proofs.builder.Builder.reduce.Goals as goal

pub loop-preserved : goal.loop-preserved
loop-preserved c =
    let w = c.in_ok-round.ensures.went in
    record {
      keeps = λ p f k. w.keeps p f (c.loop.invariant.keeps p f k);
      rings = record {
        count = w.rings.count ∙ c.loop.invariant.rings.count;
        crossed = (λ k. c.loop.invariant.rings.crossed.0 (w.rings.crossed.0 k), λ k. w.rings.crossed.1 (c.loop.invariant.rings.crossed.1 k));
      };
      fewer = λ h b z. w.fewer h b (c.loop.invariant.fewer h b z);
      bare = λ p f is tree b. c.in_ok-round.ensures.bare p f (c.loop.invariant.keeps p f is) tree (c.loop.invariant.bare p f is tree b);
    }

pub returns-clause-built : goal.returns-clause-built
returns-clause-built c p f k = c.in_ok-round.ensures.went.keeps p f (c.loop.invariant.keeps p f k)

pub returns-clause-rings : goal.returns-clause-rings
returns-clause-rings c =
    let w = c.in_ok-round.ensures.went in
    record {
      count = w.rings.count ∙ c.loop.invariant.rings.count;
      crossed = (λ k. c.loop.invariant.rings.crossed.0 (w.rings.crossed.0 k), λ k. w.rings.crossed.1 (c.loop.invariant.rings.crossed.1 k));
    }

pub returns-clause-fewer : goal.returns-clause-fewer
returns-clause-fewer c h b z = c.in_ok-round.ensures.went.fewer h b (c.loop.invariant.fewer h b z)

pub returns-clause-settled : goal.returns-clause-settled
returns-clause-settled c =
    let w = c.in_ok-round.ensures.went in
    let P : Graph → Type 0 = λ g. AllSettledBy (over c.loop.self.heads) g in
    let Q : HeadTable → Type 0 = λ t. AllSettledBy (over t) (plain c.round.new.self.graph) in
    subst Q (sym (w.told c.if-branch.false)) (subst P (sym (w.same c.if-branch.false)) (c.in_ok-round.ensures.settled c.if-branch.false))

pub returns-clause-bare : goal.returns-clause-bare
returns-clause-bare c p f is tree b = c.in_ok-round.ensures.bare p f (c.loop.invariant.keeps p f is) tree (c.loop.invariant.bare p f is tree b)
