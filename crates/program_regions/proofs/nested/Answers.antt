use Rattle.program_regions.proofs.Closed.{closed_nested, closed_answer}
use Rattle.program_regions.proofs.nested.Goals as goal

pub returns : goal.returns
returns c =
    let p = c.args.p.now in
    let started = c.in_ok-partial.ensures in
    let left = c.in_ok-left.left in
    let is = c.in_ok-left.ensures.partial p started in
    closed_answer p left is (closed_nested p left is
    (λ g branch plain. (c.in_ok-left.ensures.single p g started branch).1 plain)
    (λ g branch plain. c.in_ok-left.ensures.loops p g started branch plain)
    (λ g branch tree. c.in_ok-left.ensures.no_then p g started branch tree))
    c.requires.several c.requires.few c.finish.result c.finish.ensures.exact c.finish.ensures.wired c.finish.ensures.passes
