-- The loops over each leaf of wired regions are those whose heads' rings pass its block.
use Rattle.std.proofs.Common.{◌≡◌, ◌↔◌, inl, inr, ℕ, zero, suc, ◌+◌, ◌-◌, ◌<◌, ◌≤◌, Bool, true, false, eqb, List, [], ◌∷◌, length, Some, refl, sym, ap, ◌∙◌, subst, arith}
use Rattle.std.proofs.lemmas.Bool.{cases_lt}
use Rattle.std.specs.Prelude.{slice_get, map, ◌||◌}
use Rattle.std.specs.List.{list_any, IsDistinct}
use Rattle.dxil_form.specs.declared.program.Program.{Program}
use Rattle.dxil_form.specs.declared.region.Region.{Region}
use Rattle.dxil_form.specs.declared.region.Region.TheVariants as region
use Rattle.dxil_form.specs.Graphs.{Graph, IsHeadOver}
use Rattle.dxil_form.specs.Wired.{parts, IsPart, Wired}
use Rattle.region_builder.specs.Loops.{is_leaf, LoopsAreHeads}
use Rattle.program_regions.specs.Chosen.{NoDispatch}
use Rattle.spirv_code.specs.Trees.{Tree, Leaf, Arms, No_arm, arms_of, with_arms, node, tree_from, root_of}
use Rattle.frame_facts.proofs.Searches.{get_below}
use Rattle.module_nesting.proofs.Counted.{single_leaf}
use Rattle.module_nesting.proofs.Leaves.{apart}
use Rattle.site_loops.proofs.Above.{Above, over, higher, rises, over_leaf, has_leaf}
use Rattle.site_loops.proofs.Spots.{Under, itself, in_arms, in_first, in_second, in_body, UnderArms, this_arm, further}

inj : {A : Type 0} {a b : A} → Some a ≡ Some b → a ≡ b
inj e = cc

same_eqb : (n : ℕ) → eqb n n ≡ true
same_eqb n = grind arith

eqb_same : (n m : ℕ) → eqb n m ≡ true → n ≡ m
eqb_same n m e = grind arith

-- a loop has one more head over its parts than over itself
abbrev rise : Region → List ℕ → List ℕ
rise (region.Leaf b) hs = hs
rise (region.Then first second target) hs = hs
rise (region.Loop body head) hs = head ∷ hs
rise (region.Dispatch arms) hs = hs
rise (region.Arms first arms) hs = hs

still : (x : Region) (hs : List ℕ) (h : ℕ) → list_any (eqb h) hs ≡ true → list_any (eqb h) (rise x hs) ≡ true
still (region.Leaf b) hs h e = e
still (region.Then first second target) hs h e = e
still (region.Loop body head) hs h e = by_test (eqb h head)
  where
    by_test : (t : Bool) → (t || list_any (eqb h) hs) ≡ true
    by_test true = refl
    by_test false = e
still (region.Dispatch arms) hs h e = e
still (region.Arms first arms) hs h e = e

-- ---- a leaf in a part is one in the whole

leaf_alone : (r k place b : ℕ) (gs : List ℕ) (arms : Arms) → Under (Leaf r k No_arm) place b gs → Under (Leaf r k arms) place b gs
leaf_alone r k place b gs arms itself = itself
leaf_alone r k place b gs arms (in_arms u) = elim u [ ]

arm_at : (part : ℕ → Tree) (xs : List (ℕ × ℕ)) (i s place b : ℕ) (gs : List ℕ) → slice_get (map (λ arm. arm.1) xs) i ≡ Some s → Under (part s) place b gs → UnderArms (arms_of part xs) place b gs
arm_at part [] i s place b gs e u = absurd (cc)
arm_at part (x ∷ xs) zero s place b gs e u = this_arm (subst (λ k. Under (part k) place b gs) (sym (inj e)) u)
arm_at part (x ∷ xs) (suc i) s place b gs e u = further (arm_at part xs i s place b gs e u)

module _ (p : Program) (list : List Region) (w : Wired p list) (none : NoDispatch list) where
  part_in : (n r i s : ℕ) (x : Region) → r < suc n → slice_get list r ≡ Some x → slice_get (parts x) i ≡ Some s → (place b : ℕ) (gs : List ℕ) → Under (tree_from n list s) place b gs → Under (node (tree_from n list) r (Some x)) place b (rise x gs)
  part_in n r i s (region.Leaf k) low e at place b gs u = absurd (cc)
  part_in n r zero s (region.Then first second target) low e at place b gs u =
      in_first (subst (λ k. Under (tree_from n list k) place b gs) (sym (inj at)) u)
  part_in n r (suc zero) s (region.Then first second target) low e at place b gs u =
      in_second (subst (λ k. Under (tree_from n list k) place b gs) (sym (inj at)) u)
  part_in n r (suc (suc i)) s (region.Then first second target) low e at place b gs u = absurd (cc)
  part_in n r zero s (region.Loop body head) low e at place b gs u =
      in_body (subst (λ k. Under (tree_from n list k) place b gs) (sym (inj at)) u)
  part_in n r (suc i) s (region.Loop body head) low e at place b gs u = absurd (cc)
  part_in n r i s (region.Dispatch arms) low e at place b gs u = absurd (none r arms e)
  part_in n r i s (region.Arms first xs) low e at place b gs u =
      let source = w.source r first xs e in
      let less = w.later r 0 first (record { region = region.Arms first xs; stands = e; part = refl }) in
      by_place source.0 (single_leaf p list w n first source.0 (omega (arith, low, less)) source.1) i at
    where
      by_place : (k : ℕ) → tree_from n list first ≡ Leaf first k No_arm → (i : ℕ) → slice_get (first ∷ map (λ arm. arm.1) xs) i ≡ Some s → Under (with_arms (tree_from n list first) (arms_of (tree_from n list) xs)) place b gs
      by_place k one zero at =
          let alone : Under (Leaf first k No_arm) place b gs = subst (λ t. Under t place b gs) (ap (tree_from n list) (sym (inj at)) ∙ one) u in
          subst (λ t. Under (with_arms t (arms_of (tree_from n list) xs)) place b gs) (sym one) (leaf_alone first k place b gs (arms_of (tree_from n list) xs) alone)
      by_place k one (suc i) at =
          subst (λ t. Under (with_arms t (arms_of (tree_from n list) xs)) place b gs) (sym one) (in_arms (arm_at (tree_from n list) xs i s place b gs at u))

  -- the heads of the loops over a region, the innermost first
  record Hung (s : ℕ) : Type 0 where
    hs : List ℕ
    size : ℕ
    enough : s < size
    lifted : (place b : ℕ) (gs : List ℕ) → Under (tree_from size list s) place b gs → (us : List ℕ) × Under (root_of list) place b us × (length us ≡ length gs + length hs)
    told : (h : ℕ) → list_any (eqb h) hs ≡ true → (q : ℕ) × (body : ℕ) × (slice_get list q ≡ Some (region.Loop body h)) × Above list s q
    all : (q body h : ℕ) → slice_get list q ≡ Some (region.Loop body h) → Above list s q → list_any (eqb h) hs ≡ true
    once : IsDistinct eqb hs

  root_hung : (s : ℕ) → s ≡ w.root → Hung s
  unfolding IsDistinct
  root_hung s e =
      let last = w.last in
      let same : length list - 1 ≡ s = omega (arith, last, e) in
      record {
        hs = [];
        size = suc (length list - 1);
        enough = omega (arith, same);
        lifted = λ place b gs u. (gs, subst (λ k. Under (tree_from (suc (length list - 1)) list k) place b gs) (sym same) u, omega arith);
        told = λ h t. absurd (let never : false ≡ true = t in cc);
        all = λ q body h at up. (let low = rises p list w s q up in let high = get_below list q (region.Loop body h) at in absurd (omega (arith, low, high, last, e)));
        once = tt;
      }

  module _ (once : (r s body inner head : ℕ) → slice_get list r ≡ Some (region.Loop body head) → slice_get list s ≡ Some (region.Loop inner head) → r ≡ s) where
    part_hung : (r i s : ℕ) → IsPart list r i s → Hung r → Hung s
    unfolding IsDistinct
    part_hung r i s q c =
        by_size c.size c.enough c.lifted
      where
        -- the loops over the part are the region, if it is one, and those over it
        told : (x : Region) → slice_get list r ≡ Some x → (h : ℕ) → list_any (eqb h) (rise x c.hs) ≡ true → (k : ℕ) × (body : ℕ) × (slice_get list k ≡ Some (region.Loop body h)) × Above list s k
        told x e h t = by_region x e t
          where
            old : list_any (eqb h) c.hs ≡ true → (k : ℕ) × (body : ℕ) × (slice_get list k ≡ Some (region.Loop body h)) × Above list s k
            old t =
                let k = c.told h t in
                (k.0, k.1, k.2, higher q k.3)

            by_region : (x : Region) → slice_get list r ≡ Some x → list_any (eqb h) (rise x c.hs) ≡ true → (k : ℕ) × (body : ℕ) × (slice_get list k ≡ Some (region.Loop body h)) × Above list s k
            by_region (region.Leaf b) e t = old t
            by_region (region.Then first second target) e t = old t
            by_region (region.Loop body head) e t = by_test (eqb h head) refl t
              where
                by_test : (b : Bool) → eqb h head ≡ b → (b || list_any (eqb h) c.hs) ≡ true → (k : ℕ) × (inner : ℕ) × (slice_get list k ≡ Some (region.Loop inner h)) × Above list s k
                by_test true same t = (r, body, e ∙ ap (λ n. Some (region.Loop body n)) (sym (eqb_same h head same)), over q)
                by_test false same t = old t
            by_region (region.Dispatch arms) e t = old t
            by_region (region.Arms first arms) e t = old t

        all : (x : Region) → slice_get list r ≡ Some x → (k body h : ℕ) → slice_get list k ≡ Some (region.Loop body h) → Above list s k → list_any (eqb h) (rise x c.hs) ≡ true
        all x e k body h at (over {i = j} part) =
            let one = w.once k r j i s part q in
            let same : x ≡ region.Loop body h = inj (sym e ∙ (ap (slice_get list) (sym one.0) ∙ at)) in
            subst (λ y. list_any (eqb h) (rise y c.hs) ≡ true) (sym same) (ap (λ t. t || list_any (eqb h) c.hs) (same_eqb h))
        all x e k body h at (higher {r = t} {i = j} part up) =
            let one = w.once t r j i s part q in
            still x c.hs h (c.all k body h at (subst (λ z. Above list z k) one.0 up))

        distinct : (x : Region) → slice_get list r ≡ Some x → IsDistinct eqb (rise x c.hs)
        distinct (region.Leaf b) e = c.once
        distinct (region.Then first second target) e = c.once
        distinct (region.Loop body head) e =
            (apart head c.hs (λ t. (let k = c.told head t in let up = rises p list w r k.0 k.3 in let same = once r k.0 body k.1 head e k.2 in omega (arith, up, same))), c.once)
        distinct (region.Dispatch arms) e = c.once
        distinct (region.Arms first arms) e = c.once

        long : (x : Region) (us gs : List ℕ) → length us ≡ length (rise x gs) + length c.hs → length us ≡ length gs + length (rise x c.hs)
        long (region.Leaf b) us gs e = e
        long (region.Then first second target) us gs e = e
        long (region.Loop body head) us gs e = omega (arith, e)
        long (region.Dispatch arms) us gs e = e
        long (region.Arms first arms) us gs e = e

        by_size : (n : ℕ) → r < n → ((place b : ℕ) (gs : List ℕ) → Under (tree_from n list r) place b gs → (us : List ℕ) × Under (root_of list) place b us × (length us ≡ length gs + length c.hs)) → Hung s
        by_size zero low h = absurd (omega (arith, low))
        by_size (suc n) low h =
            let less = w.later r i s q in
            record {
              hs = rise q.region c.hs;
              size = n;
              enough = omega (arith, less, low);
              lifted = λ place b gs u. (let inner = part_in n r i s q.region low q.stands q.part place b gs u in
                  let whole = h place b (rise q.region gs) (subst (λ o. Under (node (tree_from n list) r o) place b (rise q.region gs)) (sym q.stands) inner) in
                  (whole.0, whole.1, long q.region whole.0 gs whole.2));
              told = told q.region q.stands;
              all = all q.region q.stands;
              once = distinct q.region q.stands;
            }

    part_low : (r i s : ℕ) → IsPart list r i s → r ≤ w.root
    part_low r i s q =
        let here = get_below list r q.region q.stands in
        let last = w.last in
        omega (arith, here, last)

    all_hung : (d s : ℕ) → s ≤ w.root → w.root ≤ s + d → Hung s
    all_hung zero s low high = root_hung s (omega (arith, low, high))
    all_hung (suc d) s low high = elim (cases_lt s w.root) [
      | inr ge ↦ root_hung s (omega (arith, low, ge))
      | inl less ↦ (let named = w.named s less in let up = w.later named.0 named.1 s named.2 in let most = part_low named.0 named.1 s named.2 in
          part_hung named.0 named.1 s named.2 (all_hung d named.0 most (omega (arith, up, high))))
    ]

-- the leaf of a block stands under as many loops as heads have rings that pass it
pub record LeafUnder (list : List Region) (g : Graph) (r b : ℕ) : Type 0 where
  pub heads : List ℕ
  pub over_it : List ℕ
  pub under : Under (root_of list) r b over_it
  pub long : length over_it ≡ length heads
  pub are_heads : (h : ℕ) → (list_any (eqb h) heads ≡ true) ↔ IsHeadOver g h b
  pub once : IsDistinct eqb heads

pub leaf_under : (p : Program) (list : List Region) (g : Graph) → Wired p list → NoDispatch list → LoopsAreHeads g list → (r b : ℕ) → slice_get list r ≡ Some (region.Leaf b) → LeafUnder list g r b
leaf_under p list g w none loops r b leaf =
    let here = get_below list r (region.Leaf b) leaf in
    let last = w.last in
    from_hung (all_hung p list w none loops.once w.root r (omega (arith, here, last)) (omega arith))
  where
    alone : (n : ℕ) → r < n → Under (tree_from n list r) r b []
    alone zero low = absurd (omega (arith, low))
    alone (suc n) low = subst (λ o. Under (node (tree_from n list) r o) r b []) (sym leaf) itself

    no_loop : (q body h : ℕ) → slice_get list q ≡ Some (region.Loop body h) → r ≡ q → ⊥
    no_loop q body h e same = never (inj (sym leaf ∙ (ap (slice_get list) same ∙ e)))
      where
        never : region.Leaf b ≡ region.Loop body h → ⊥
        never e = cc

    from_hung : Hung p list w none r → LeafUnder list g r b
    from_hung c =
        let whole = c.lifted r b [] (alone c.size c.enough) in
        record {
          heads = c.hs;
          over_it = whole.0;
          under = whole.1;
          long = (let count = whole.2 in omega (arith, count));
          are_heads = λ h. (
            λ t. (let q = c.told h t in (loops.passes q.0 q.1 h b q.2).0 (has_leaf p list w q.0 r b (is_leaf leaf) q.3)),
            λ o. (let q = loops.made h b o in
                elim (over_leaf p list w q.0 r b leaf ((loops.passes q.0 q.1 h b q.2).1 o)) [
                  | inl same ↦ absurd (no_loop q.0 q.1 h q.2 same)
                  | inr up ↦ c.all q.0 q.1 h q.2 up
                ]),
          );
          once = c.once;
        }
