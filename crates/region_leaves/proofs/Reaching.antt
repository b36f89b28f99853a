-- The marked blocks are those that paths from block 0 reach.
use Rattle.std.proofs.Common.{◌≡◌, ◌⊎◌, inl, inr, ℕ, ◌<◌, Bool, true, false, List, [], ◌∷◌, length, get_or, set, None, sym, subst, ◌∙◌, arith}
use Rattle.std.proofs.lemmas.Bool.{cases_eq}
use Rattle.std.proofs.lemmas.List.{get_or_default, get_or-set_same, get_or-set_other}
use Rattle.std.specs.List.{Contains}
use Rattle.dxil_form.specs.declared.program.Program.{Program}
use Rattle.dxil_form.specs.Graphs.{Graph, Path, Leads, Reached}
use Rattle.dxil_form.specs.Branches.{declared_graph}
use Rattle.dxil_form.specs.Sound.{Sound}
use Rattle.flow_graph.specs.Given.{given}
use Rattle.flow_graph.specs.Walked.{MarksReached}
use Rattle.region_leaves.specs.Leaves.{AreReachable}
use Rattle.region_leaves.specs.Edges.{AreMarked, MarksFromStart, edges_on}
use Rattle.region_leaves.proofs.Branching.{states_branches}

module _ (p : Program) (sound : Sound p) where
  abbrev stated : Graph
  stated = given (length p.blocks) (edges_on 0 p.blocks)

  to_declared : (a b : ℕ) (before : List ℕ) → Path stated a before b → Path (declared_graph p) a before b
  to_declared a b [] q = q
  to_declared a b (c ∷ before) (e, k) = ((states_branches p.blocks c b).0 e, to_declared a c before k)

  to_stated : (a b : ℕ) (before : List ℕ) → Path (declared_graph p) a before b → Path stated a before b
  to_stated a b [] q = q
  to_stated a b (c ∷ before) (e, k) = ((states_branches p.blocks c b).1 e, to_stated a c before k)

  pub reached_inside : (b : ℕ) → Reached (declared_graph p) b → b < length p.blocks
  reached_inside b ([], q) = let l = sound.begins in omega arith
  reached_inside b (c ∷ before, (e, k)) = (sound.targets c b e).1

  pub reachable_is : (marks : List Bool) (blocks : List ℕ) → MarksFromStart stated marks → AreMarked marks (length p.blocks) blocks → AreReachable p blocks
  reachable_is marks blocks are m = record {
    rising = m.rising;
    all = λ b r. (let (i, l, q) = m.all b (reached_inside b r) ((are b).1 (leads b r)) in (i, l, get_or_default blocks i b 0 l ∙ q));
    only = λ b i. back b ((are b).0 (mark b i));
  }
    where
      leads : (b : ℕ) → Reached (declared_graph p) b → (b ≡ 0) ⊎ Leads stated 0 b None
      leads b ([], q) = inl (sym q)
      leads b (c ∷ before, e) = inr (c, before, to_stated 0 b (c ∷ before) e, tt)

      back : (b : ℕ) → (b ≡ 0) ⊎ Leads stated 0 b None → Reached (declared_graph p) b
      back b (inl q) = ([], sym q)
      back b (inr (c, before, e, _)) = (c ∷ before, to_declared 0 b (c ∷ before) e)

      mark : (b : ℕ) → Contains blocks b → get_or marks b false ≡ true
      mark b (i, l, q) =
          let k : get_or blocks i 0 ≡ b = get_or_default blocks i 0 b l ∙ q in
          let P : ℕ → Type 0 = λ z. get_or marks z false ≡ true in subst P k (m.only i l).1

pub marks_from_start : (g : Graph) (marks : List Bool) → 0 < length marks → MarksReached g 0 None marks → MarksFromStart g (set marks 0 true)
marks_from_start g marks l reach b = elim (cases_eq b 0) [
  | inl q ↦ (
      let P : ℕ → Type 0 = λ z. get_or (set marks 0 true) z false ≡ true in
      (λ t. inl q, λ o. subst P (sym q) (get_or-set_same marks 0 true false l)))
  | inr n ↦ (
      let e : get_or (set marks 0 true) b false ≡ get_or marks b false = get_or-set_other marks 0 b true false n in
      (λ t. inr ((reach b).0 (sym e ∙ t)), λ o. elim o [ inl q ↦ absurd (n q) | inr k ↦ e ∙ (reach b).1 k ]))
]
