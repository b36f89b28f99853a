-- What a list of regions keeps where its roots are closed.
use Rattle.std.proofs.Common.{◌≡◌, inl, inr, ℕ, ◌<◌, ◌≤◌, ltb, List, length, Some, Result, Ok, Err, IfOk, sym, ap, subst, arith}
use Rattle.std.proofs.lemmas.Bool.{cases_Bool, cond-true, cond-false}
use Rattle.std.specs.List.{slice_get}
use Rattle.dxil_form.specs.declared.program.Program.{Program}
use Rattle.dxil_form.specs.declared.region.Region.{Region}
use Rattle.dxil_form.specs.declared.region.Region.TheVariants.{Leaf, Then, Loop, Dispatch, Arms}
use Rattle.dxil_form.specs.Graphs.{Graph, Crossed}
use Rattle.dxil_form.specs.Branches.{IsBranchGraph}
use Rattle.region_laws.specs.Roots.{closed}
use Rattle.region_laws.proofs.Places.{cases_last}
use Rattle.region_laws.proofs.Closing.{places, several}
use Rattle.region_builder.specs.declared.partial.Partial.{Partial}
use Rattle.region_builder.specs.Started.{IsPartial}
use Rattle.region_builder.specs.Loops.{LoopsAreHeads}
use Rattle.region_builder.specs.Bare.{IsTree, NoThen}
use Rattle.dx_base.specs.declared.fault.OutOfMemory.{OutOfMemory}
use Rattle.dxil_form.specs.declared.region.Regions.{Regions}
use Rattle.dxil_form.specs.Wired.{Wired}
use Rattle.region_laws.specs.Paths.{PassesAll}
use Rattle.region_leaves.specs.Leaves.{AreReachable}
use Rattle.program_regions.specs.Chosen.{NoDispatch, AreNested, AreRegions}

module _ (list : List Region) (roots : List (ℕ × ℕ)) where
  -- a region that is no dispatch stood before
  plain_place : (r : ℕ) (x : Region) → ((arms : List ℕ) → Dispatch arms ≡ x → ⊥) → slice_get (closed list roots) r ≡ Some x → slice_get list r ≡ Some x
  plain_place r x other h =
      let At : List Region → Type 0 = λ l. slice_get l r ≡ Some x in
      elim (cases_Bool (ltb 1 (length roots))) [
        | inl t ↦ elim (cases_last list (Dispatch (places roots)) r x (subst At (cond-true (ltb 1 (length roots)) (several list roots) list t) h)) [
          | inl k ↦ k
          | inr (q, o) ↦ absurd (other (places roots) o)
        ]
        | inr f ↦ subst At (cond-false (ltb 1 (length roots)) (several list roots) list f) h
      ]

  single_same : length roots ≡ 1 → closed list roots ≡ list
  single_same e = cond-false (ltb 1 (length roots)) (several list roots) list (ap (ltb 1) e)

pub closed_nested : (p : Program) (left : Partial) → IsPartial p left
    → ((g : Graph) → IsBranchGraph p g → (Crossed g → ⊥) → length left.roots ≡ 1)
    → ((g : Graph) → IsBranchGraph p g → (Crossed g → ⊥) → LoopsAreHeads g left.list)
    → ((g : Graph) → IsBranchGraph p g → IsTree g → NoThen left.list)
    → AreNested p (closed left.list left.roots)
closed_nested p left is single heads bare = record {
  rings = λ r body head h. is.loops r body head (plain_place left.list left.roots r (Loop body head) (λ arms e. cc) h);
  arms = λ r first b k a c arms h g. is.arms r first b k a c arms (plain_place left.list left.roots r (Arms first arms) (λ others e. cc) h) (plain_place left.list left.roots first (Leaf b) (λ others e. cc) g);
  loops = λ g branch plain. subst (λ (l : List Region). LoopsAreHeads g l) (sym (single_same left.list left.roots (single g branch plain))) (heads g branch plain);
  no_dispatch = λ g branch plain. subst (λ (l : List Region). NoDispatch l) (sym (single_same left.list left.roots (single g branch plain))) is.wired.no_dispatch;
  no_then = λ g branch tree r first second target h. bare g branch tree r first second target (plain_place left.list left.roots r (Then first second target) (λ arms e. cc) h);
}

-- what `finish` answers of roots that `build` left
module _ (p : Program) (left : Partial) (is : IsPartial p left) (nested : AreNested p (closed left.list left.roots))
    (several : (blocks : List ℕ) → AreReachable p blocks → 1 < length blocks) (few : (blocks : List ℕ) → AreReachable p blocks → length blocks ≤ 400) where
  pub closed_answer : (r : Result Regions OutOfMemory) → IfOk r (λ regions. regions.list ≡ closed left.list left.roots) → IfOk r (λ regions. (q : Program) → IsPartial q left → Wired q regions.list) → IfOk r (λ regions. (q : Program) → IsPartial q left → PassesAll q regions.list) → IfOk r (λ regions. AreRegions p regions.list)
  closed_answer (Err e) exact wired passes = tt
  closed_answer (Ok regions) exact wired passes = record {
    wired = wired p is;
    passes = passes p is;
    few = λ blocks are l. subst (λ (x : List Region). AreNested p x) (sym exact) nested;
    one = λ blocks are e. absurd (let l = several blocks are in omega arith);
    many = λ blocks are l. absurd (let m = few blocks are in omega arith);
  }
