use Rattle.std.proofs.Common.{◌≡◌, ◌<◌, ◌≤◌, true, arith, length, List, Option, None, Some, ℕ, subst}
use Rattle.std.specs.Option.{IfSome, MatchOption}
use Rattle.flow_graph.specs.declared.cells.Cell.{Cell}
use Rattle.flow_graph.specs.Links.{IsLast, IsFrom, leaves}
use Rattle.flow_graph.proofs.cells.above_from.Goals as goal

start : (cells : List Cell) (a c : ℕ) (hint r : Option ℕ) → c < length cells → IfSome hint (λ p. (p < length cells) × (leaves cells a p ≡ true)) → IfSome hint (λ p. c < p)
    → MatchOption hint (IsLast (leaves cells a) (length cells) r) (λ p. IsLast (leaves cells a) p r)
    → (n : ℕ) × (n ≤ length cells) × (c < n) × IsLast (leaves cells a) n r × IsFrom (leaves cells a) (length cells) n hint
start cells a c None r l h k m = (length cells, omega arith, l, m, λ x i j. absurd (omega arith))
start cells a c (Some p) r l (i, t) k m = (p, omega arith, k, m, (omega arith, i, t, λ x v w. absurd (omega arith)))

pub loop-at-init : goal.loop-at-init
loop-at-init c =
    start c.args.cells.now c.args.from c.args.c c.args.hint c.walk_from-at.result c.requires.c c.requires.hint c.requires.above c.walk_from-at.ensures

pub loop-at-preserved : goal.loop-at-preserved
loop-at-preserved c =
    let (n, l, k, last, _) = c.loop-at.invariant in
    let P : Option ℕ → Type 0 = λ o. IsLast (leaves c.args.cells.now c.args.from) n o in
    let h = subst P c.in-Some.is last in (
      c.in-Some.p,
      omega arith,
      c.if-p-c.false,
      c.requires.lists.nexts c.args.from c.in-Some.p (omega arith) h.1,
      (omega arith, omega arith, h.1, λ x i j. absurd (omega arith)),
    )
