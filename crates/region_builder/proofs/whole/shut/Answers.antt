use Rattle.std.proofs.Common.{◌<◌, ℕ, List, length, get_or, ap, subst, sym, ◌∙◌, arith}
use Rattle.flow_graph.specs.Shapes.{plain}
use Rattle.region_builder.specs.Children.{AreRoots}
use Rattle.region_builder.proofs.Leaving.{roots_wired, roots_nodes, roots_want, single_root}
use Rattle.region_builder.proofs.EndWalking.{roots_pass, roots_walk}
use Rattle.region_builder.proofs.Finding.{settled_more}
use Rattle.region_builder.proofs.ByBlocks.{same_crossed, loops_are_heads}
use Rattle.region_builder.proofs.Finishing.{loops_are_rings, arms_are_sole}
use Rattle.region_builder.proofs.whole.shut.Goals as goal
use Rattle.region_builder.proofs.whole.shut.Goals.{In_ok-roots}

pub live_roots-requires-clause-count : goal.live_roots-requires-clause-count
live_roots-requires-clause-count c = let (p, f, b) = c.requires.built in b.built.count ∙ ap (λ (l : List ℕ). length l) (sym c.deref.ensures.value)

pub live_roots-requires-clause-few : goal.live_roots-requires-clause-few
live_roots-requires-clause-few c =
    let (p, f, b) = c.requires.built in
    let f = b.built.few_blocks in
    let e = ap (λ (l : List ℕ). length l) c.deref.ensures.value in omega arith

pub live_roots-requires-clause-places : goal.live_roots-requires-clause-places
live_roots-requires-clause-places c =
    let (p, f, b) = c.requires.built in
    let n = b.built.places_count in
    let e = ap (λ (l : List ℕ). length l) c.deref.ensures.value in
    let f = ap (λ (l : List ℕ). length l) c.deref-2.ensures.value in omega arith

pub live_roots-requires-clause-rising : goal.live_roots-requires-clause-rising
live_roots-requires-clause-rising c =
    let (p, f, b) = c.requires.built in
    let P : List ℕ → Type 0 = λ l. (i j : ℕ) → i < j → j < length l → get_or l i 0 < get_or l j 0 in
    subst P (sym c.deref.ensures.value) b.built.reachable.rising

are : (c : In_ok-roots) → AreRoots (plain c.args.builder.graph) (length c.args.builder.blocks.items) c.args.builder.blocks.items c.args.builder.places.items c.in_ok-roots.roots
are c =
    let P : List ℕ → Type 0 = λ l. AreRoots (plain c.args.builder.graph) (length l) l c.deref-2.result.now c.in_ok-roots.roots in
    let Q : List ℕ → Type 0 = λ l. AreRoots (plain c.args.builder.graph) (length c.args.builder.blocks.items) c.args.builder.blocks.items l c.in_ok-roots.roots in
    subst Q c.deref-2.ensures.value (subst P c.deref.ensures.value c.in_ok-roots.ensures)

pub returns-clause-partial : goal.returns-clause-partial
returns-clause-partial c p f b =
    let r = are (goal.at.returns-clause-partial c).In_ok-roots in
    record {
      sound = b.built.sound;
      blocks = c.args.builder.blocks.items;
      reachable = b.built.reachable;
      wired = roots_wired p c.args.builder.list c.args.builder.blocks.items c.args.builder.places.items (plain c.args.builder.graph) b.built c.in_ok-roots.roots r;
      few = b.built.few_blocks;
      nodes = roots_nodes p c.args.builder.list c.args.builder.blocks.items c.args.builder.places.items (plain c.args.builder.graph) b.built c.in_ok-roots.roots r;
      passes = roots_pass p c.args.builder.list c.args.builder.blocks.items c.args.builder.places.items (plain c.args.builder.graph) b.built b.walked c.requires.settled c.in_ok-roots.roots r;
      walks = roots_walk p c.args.builder.list c.args.builder.blocks.items c.args.builder.places.items (plain c.args.builder.graph) b.built b.walked c.requires.settled c.in_ok-roots.roots r;
      wants = roots_want p c.args.builder.list c.args.builder.blocks.items c.args.builder.places.items (plain c.args.builder.graph) b.built c.in_ok-roots.roots r;
      loops = b.walked.rings;
      arms = arms_are_sole p c.args.builder.list c.args.builder.blocks.items c.args.builder.places.items (plain c.args.builder.graph) b.built f c.args.builder.firsts.items c.args.builder.heads b.traced;
    }

pub returns-clause-single : goal.returns-clause-single
returns-clause-single c p f g b branch =
    let (x, y) = single_root p c.args.builder.list c.args.builder.blocks.items c.args.builder.places.items (plain c.args.builder.graph) b.built c.in_ok-roots.roots
    (are (goal.at.returns-clause-single c).In_ok-roots) c.requires.settled in
    let (up, down) = same_crossed p b.built.sound c.args.builder.blocks.items b.built.reachable b.built.few_blocks (plain f.graph) b.traced.nodes g branch in
    (λ one k. x one (b.traced.rings.1 (down k)), λ never. y (λ k. never (up (b.traced.rings.0 k))))

pub returns-clause-loops : goal.returns-clause-loops
returns-clause-loops c p f g b branch never =
    let (up, _) = same_crossed p b.built.sound c.args.builder.blocks.items b.built.reachable b.built.few_blocks (plain f.graph) b.traced.nodes g branch in
    loops_are_heads p b.built.sound c.args.builder.blocks.items b.built.reachable b.built.few_blocks (plain f.graph) b.traced.nodes g branch c.args.builder.list b.built.regions.reached
    (loops_are_rings p c.args.builder.list c.args.builder.blocks.items c.args.builder.places.items (plain c.args.builder.graph) b.built f c.args.builder.firsts.items c.args.builder.heads b.traced
    (settled_more c.args.builder.heads (plain c.args.builder.graph) c.requires.settled) (λ k. never (up k)))
