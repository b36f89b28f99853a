-- Which regions stand over a region.
use Rattle.std.proofs.Common.{◌≡◌, ◌⊎◌, inl, inr, ℕ, ◌<◌, List, Some, sym, subst, arith}
use Rattle.std.specs.Prelude.{slice_get}
use Rattle.dxil_form.specs.declared.program.Program.{Program}
use Rattle.dxil_form.specs.declared.region.Region.{Region}
use Rattle.dxil_form.specs.declared.region.Region.TheVariants as region
use Rattle.dxil_form.specs.Wired.{IsPart, Wired}
use Rattle.region_builder.specs.Loops.{Under, is_leaf, in_part}

-- region s is a part of region q, or of one that q is above
pub data Above (list : List Region) : (s q : ℕ) → Type 0 where
  over : {s q i : ℕ} → IsPart list q i s → Above list s q
  higher : {s r q i : ℕ} → IsPart list r i s → Above list r q → Above list s q

module _ (p : Program) (list : List Region) (w : Wired p list) where
  pub rises : (s q : ℕ) → Above list s q → s < q
  rises s q (over {i = i} part) = w.later q i s part
  rises s q (higher {r = r} {i = i} part up) =
      let one = w.later r i s part in
      let two = rises r q up in
      omega (arith, one, two)

  above_part : (s t q i : ℕ) → Above list s t → IsPart list q i t → Above list s q
  above_part s t q i (over part) up = higher part (over up)
  above_part s t q i (higher {r = r} part more) up = higher part (above_part r t q i more up)

  -- a region with the leaf in it is the leaf or stands over it
  pub over_leaf : (q s b : ℕ) → slice_get list s ≡ Some (region.Leaf b) → Under list q b → (s ≡ q) ⊎ Above list s q
  over_leaf q s b leaf (is_leaf e) = inl (w.leaf_once s q b leaf e)
  over_leaf q s b leaf (in_part {i = i} {s = t} part u) = elim (over_leaf t s b leaf u) [
    | inl same ↦ inr (over (subst (IsPart list q i) (sym same) part))
    | inr up ↦ inr (above_part s t q i up part)
  ]

  pub has_leaf : (q s b : ℕ) → Under list s b → Above list s q → Under list q b
  has_leaf q s b u (over part) = in_part part u
  has_leaf q s b u (higher {r = r} part up) = has_leaf q r b (in_part part u) up
