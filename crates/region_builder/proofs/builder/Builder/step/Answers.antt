use Rattle.std.proofs.Common.{◌≡◌, ◌||◌, Bool, get_or, refl, sym, subst, ap, ◌∙◌}
use Rattle.region_builder.specs.Built.{Went}
use Rattle.flow_graph.specs.Shapes.{plain}
use Rattle.region_builder.proofs.Finding.{kept_built, went_on, settled_by, settled_went, or_false}
use Rattle.region_builder.proofs.Visiting.{stepped}
use Rattle.region_builder.proofs.builder.Builder.step.Goals as goal
use Rattle.region_builder.proofs.builder.Builder.step.Goals.{After-either-3}

pub join_children-requires-2-clause-built : goal.join_children-requires-2-clause-built
join_children-requires-2-clause-built c =
    kept_built c.args.self.now c.repeat.new.self
    (λ p f k. c.in_ok-folded.ensures.went.keeps p f (c.in_ok-joined.ensures.went.keeps p f (c.in_ok-branched.ensures.went.keeps p f k))) c.requires.built

-- what the first two and the last two calls have done
first_two : (c : After-either-3) → Went c.args.self.now c.join_children.new.self (c.in_ok-branched.branched || c.in_ok-joined.joined)
first_two c =
    went_on c.args.self.now c.branch_children.new.self c.join_children.new.self c.in_ok-branched.branched c.in_ok-joined.joined c.in_ok-branched.ensures.went c.in_ok-joined.ensures.went

last_two : (c : After-either-3) → Went c.join_children.new.self c.join_children-2.new.self (c.in_ok-folded.folded || c.in_ok-rest.rest)
last_two c =
    went_on c.join_children.new.self c.repeat.new.self c.join_children-2.new.self c.in_ok-folded.folded c.in_ok-rest.rest c.in_ok-folded.ensures.went c.in_ok-rest.ensures.went

done : (c : After-either-3) → c.either-3.result ≡ ((c.in_ok-branched.branched || c.in_ok-joined.joined) || (c.in_ok-folded.folded || c.in_ok-rest.rest))
done c =
    c.either-3.ensures ∙ ap (λ (d : Bool). d || c.either-2.result) c.either.ensures
    ∙ ap (λ (d : Bool). (c.in_ok-branched.branched || c.in_ok-joined.joined) || d) c.either-2.ensures

pub returns-clause-went : goal.returns-clause-went
returns-clause-went c =
    let P : Bool → Type 0 = λ d. Went c.args.self.now c.join_children-2.new.self d in
    subst P (sym (done c)) (went_on c.args.self.now c.join_children.new.self c.join_children-2.new.self (c.in_ok-branched.branched || c.in_ok-joined.joined)
    (c.in_ok-folded.folded || c.in_ok-rest.rest) (first_two c) (last_two c))

pub returns-clause-settled : goal.returns-clause-settled
returns-clause-settled c f =
    let (x, y) = or_false (c.in_ok-branched.branched || c.in_ok-joined.joined) (c.in_ok-folded.folded || c.in_ok-rest.rest) (sym (done c) ∙ f) in
    let (z, _) = or_false c.in_ok-folded.folded c.in_ok-rest.rest y in
    let P : Bool → Type 0 = λ d. Went c.args.self.now c.join_children.new.self d in
    settled_went c.args.self.now c.join_children.new.self (subst P x (first_two c)) c.args.a
    (λ _. settled_by c.join_children.new.self.heads c.join_children-2.new.self.heads (plain c.join_children.new.self.graph) (plain c.join_children-2.new.self.graph) c.args.a
    (c.in_ok-folded.ensures.may z) ((last_two c).told y) ((last_two c).same y) c.in_ok-rest.ensures.none) c.requires.live

pub returns-clause-bare : goal.returns-clause-bare
returns-clause-bare c p first is tree from =
    stepped p first tree c.args.self.now c.branch_children.new.self c.join_children.new.self c.repeat.new.self c.join_children-2.new.self c.args.a
    (get_or c.args.self.now.ranks.items c.args.a 0) c.in_ok-branched.branched c.in_ok-joined.joined c.in_ok-folded.folded c.in_ok-rest.rest is c.requires.live
    c.in_ok-branched.ensures.went c.in_ok-branched.ensures.branched c.in_ok-branched.ensures.none c.in_ok-joined.ensures.went c.in_ok-joined.ensures.did
    c.in_ok-folded.ensures.went c.in_ok-folded.ensures.did c.in_ok-rest.ensures.went c.in_ok-rest.ensures.did refl from
