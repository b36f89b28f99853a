-- Where a label stands among instructions, and how many loops are open there.
use Rattle.std.proofs.Common.{◌≡◌, ◌⊎◌, inl, inr, ℕ, suc, ◌+◌, List, [], ◌∷◌, ◌++◌, length, Some, sym, ap, ◌∙◌}
use Rattle.std.specs.Prelude.{slice_get}
use Rattle.spv_form.specs.declared.module.Inst.{Inst}
use Rattle.spirv_code.specs.Trees.{Tree, Leaf, Then, Loop, Arms, Arm}
use Rattle.written_rows.specs.Code.{label_inst, labels}
use Rattle.written_rows.proofs.Steps.{labels_append, get_front, get_past}
use Rattle.site_loops.proofs.Scan.{after, scan, scan_append, scan_count}

-- ---- the leaves of a tree without a dispatch, each under the heads of the loops over it

mutual
  pub data Under : Tree → (place block : ℕ) → List ℕ → Type 0 where
    itself : {place block : ℕ} {arms : Arms} → Under (Leaf place block arms) place block []
    in_arms : {r k place block : ℕ} {hs : List ℕ} {arms : Arms} → UnderArms arms place block hs → Under (Leaf r k arms) place block hs
    in_first : {r target place block : ℕ} {hs : List ℕ} {first second : Tree} → Under first place block hs → Under (Then r first second target) place block hs
    in_second : {r target place block : ℕ} {hs : List ℕ} {first second : Tree} → Under second place block hs → Under (Then r first second target) place block hs
    in_body : {r head place block : ℕ} {hs : List ℕ} {body : Tree} → Under body place block hs → Under (Loop r body head) place block (head ∷ hs)

  pub data UnderArms : Arms → (place block : ℕ) → List ℕ → Type 0 where
    this_arm : {target place block : ℕ} {hs : List ℕ} {tree : Tree} {arms : Arms} → Under tree place block hs → UnderArms (Arm target tree arms) place block hs
    further : {target place block : ℕ} {hs : List ℕ} {tree : Tree} {arms : Arms} → UnderArms arms place block hs → UnderArms (Arm target tree arms) place block hs

-- ---- a label among instructions, at which so many loops are open

pub record Spot (xs : List Inst) (id d : ℕ) : Type 0 where
  pub place : ℕ
  pub label_is : slice_get (labels xs) place ≡ Some id
  pub loops_are : slice_get (scan [] xs) place ≡ Some d

-- it is the label before them, or among them
abbrev pub Marked : (label : ℕ) → List Inst → (id d : ℕ) → Type 0
Marked label xs id d = ((label ≡ id) × (d ≡ 0)) ⊎ Spot xs id d

pub spot_front : (xs ys : List Inst) (id d : ℕ) → Spot xs id d → Spot (xs ++ ys) id d
spot_front xs ys id d s =
    record {
      place = s.place;
      label_is = ap (λ ls. slice_get ls s.place) (labels_append xs ys) ∙ get_front (labels xs) (labels ys) s.place id s.label_is;
      loops_are = ap (λ ls. slice_get ls s.place) (scan_append [] xs ys) ∙ get_front (scan [] xs) (scan (after [] xs) ys) s.place d s.loops_are;
    }

pub spot_back : (xs ys : List Inst) (id d : ℕ) → after [] xs ≡ [] → Spot ys id d → Spot (xs ++ ys) id d
spot_back xs ys id d closed s =
    record {
      place = length (labels xs) + s.place;
      label_is = ap (λ ls. slice_get ls (length (labels xs) + s.place)) (labels_append xs ys) ∙ get_past (labels xs) (labels ys) s.place ∙ s.label_is;
      loops_are = ap (λ ls. slice_get ls (length (labels xs) + s.place)) (scan_append [] xs ys ∙ ap (λ w. scan [] xs ++ scan w ys) closed) ∙ ap (λ n. slice_get (scan [] xs ++ scan [] ys) (n + s.place)) (sym (scan_count [] xs)) ∙ get_past (scan [] xs) (scan [] ys) s.place ∙ s.loops_are;
    }

-- behind its label
pub spot_label : (label : ℕ) (xs : List Inst) (id d : ℕ) → Marked label xs id d → Spot (label_inst label ∷ xs) id d
spot_label label xs id d (inl m) = record { place = 0; label_is = ap Some m.0; loops_are = ap Some (sym m.1) }
spot_label label xs id d (inr s) = record { place = suc s.place; label_is = s.label_is; loops_are = s.loops_are }
