use Rattle.std.proofs.Common.{◌≡◌, ◌+◌, ◌<◌, ◌∙◌, ℕ, true, false, List, length, ◌∷◌, ◌++◌, [], Option, Some, ap, subst, sym, arith}
use Rattle.std.specs.List.{slice_get}
use Rattle.std.proofs.lemmas.Option.{slice_get-get_or, get_or_from_slice_get}
use Rattle.std.proofs.lemmas.Bool.{both_ways}
use Rattle.flow_graph.proofs.Walking.{same_is, other_is}
use Rattle.std.proofs.lemmas.Grind.{common_steps}
use Rattle.region_builder.specs.Children.{AreChildrenBelow}
use Rattle.region_builder.proofs.Finding.{no_children, child_on, children_on}
use Rattle.region_builder.proofs.builder.Builder.children.Goals as goal
use Rattle.region_builder.proofs.builder.Builder.children.Goals.{Joined-else-eq, else-eq-via-then-eq+then-is_child+else-is_err, else-eq-via-then-eq+else-is_child, else-eq-via-else-eq}

pub loop-j-init : goal.loop-j-init
loop-j-init c = record {
  least = omega arith;
  are = (let P : List ℕ → Type 0 = λ l. AreChildrenBelow c.args.self.now c.args.a 1 l in
      subst P (sym c.new-nodes.ensures.items) (no_children c.args.self.now c.args.a));
}

first_is : (c : Joined-else-eq) → c.eq.result ≡ true → slice_get c.args.self.now.firsts.items c.loop-j.j ≡ Some (Some c.args.a)
first_is c t =
    let (p, f, b) = c.requires.built in
    let n = b.traced.firsts_count in
    let l : c.loop-j.j < length c.args.self.now.firsts.items = omega arith in
    slice_get-get_or c.args.self.now.firsts.items c.loop-j.j c.index.result.now l ∙ ap (λ (o : Option ℕ). Some o) (sym c.index.ensures ∙ same_is c.index.result.now c.args.a (sym c.eq.ensures ∙ t))

first_not : (c : Joined-else-eq) → c.eq.result ≡ false → slice_get c.args.self.now.firsts.items c.loop-j.j ≡ Some (Some c.args.a) → ⊥
first_not c f h =
    other_is c.index.result.now c.args.a (sym c.eq.ensures ∙ f) (c.index.ensures ∙ get_or_from_slice_get c.args.self.now.firsts.items c.loop-j.j (Some c.args.a) c.index.result.now h)

pub loop-j-preserved : goal.loop-j-preserved
loop-j-preserved c =
    let P : List ℕ → Type 0 = λ l. AreChildrenBelow c.args.self.now c.args.a (c.loop-j.j + 1) l in
    record {
      least = omega arith;
      are = elim c.else-eq.branch [
        | else-eq-via-then-eq+then-is_child+else-is_err w ↦ (
            let q : c.else-eq.nodes.items ≡ c.loop-j.nodes.items ++ c.loop-j.j ∷ [] = grind (arith, common_steps) in
            subst P (sym q) (child_on c.args.self.now c.args.a c.loop-j.j c.loop-j.nodes.items c.loop-j.invariant.are c.loop-j.invariant.least (w.is_child.ensures.sole w.if-is_child.true) (first_is c w.if-eq.true) (w.is_child.ensures.allowed w.if-is_child.true)))
        | else-eq-via-then-eq+else-is_child w ↦ subst P (sym (ap (λ v. v.items) w.nodes-is)) (children_on c.args.self.now c.args.a c.loop-j.j c.loop-j.nodes.items c.loop-j.invariant.are (λ p f q. both_ways _ w.if-is_child.false (w.is_child.ensures.no p q)))
        | else-eq-via-else-eq w ↦ subst P (sym (ap (λ v. v.items) w.nodes-is)) (children_on c.args.self.now c.args.a c.loop-j.j c.loop-j.nodes.items c.loop-j.invariant.are (λ p f q. first_not c w.if-eq.false f))
      ];
    }

pub returns : goal.returns
returns c =
    let (p, f, b) = c.requires.built in
    let l = b.built.formed.within 0 b.built.formed.entry in
    let n = b.built.count in
    let e : c.loop-j.j ≡ length c.args.self.now.blocks.items = omega (arith, c.loop-j.auto.j-end) in
    let P : ℕ → Type 0 = λ k. AreChildrenBelow c.args.self.now c.args.a k c.loop-j.nodes.items in subst P e c.loop-j.invariant.are
