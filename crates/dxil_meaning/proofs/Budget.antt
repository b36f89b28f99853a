-- Matches with room for more steps, and after some steps.
use Rattle.std.proofs.Common.{◌≡◌, ℕ, suc, ◌+◌, ◌≤◌, [], arith, subst}
use Rattle.dxil_meaning.specs.Launches.{Machine}
use Rattle.dxil_meaning.specs.Steps.{Matched, is_wrong, acts, begins, Leads}
use Rattle.dxil_meaning.proofs.Simulation.{leads_on}

module _ (S T : Type 0) (a : Machine S) (b : Machine T) (R : ℕ → S → T → Type 0) where
  pub with_room : (L K L' K' i : ℕ) (s : S) (t : T) → L ≤ L' → K ≤ K' → Matched S T a b R L K i s t → Matched S T a b R L' K' i s t
  with_room L K L' K' i s t le le' (is_wrong j s' few leads wrong) = is_wrong j s' (omega arith) leads wrong
  with_room L K L' K' i s t le le' (acts j k s' t' ask f g few few' leads is leads' is' after) =
      acts j k s' t' ask f g (omega arith) (omega arith) leads is leads' is' after
  with_room L K L' K' i s t le le' (begins j k s' t' begun few few' leads leads' r) =
      begins j k s' t' begun (omega arith) (omega arith) leads leads' r

  -- the source takes one quiet step, and the target d of them, before they match
  pub prepend : (L K d i : ℕ) (s s1 : S) (t t1 : T) → Leads a i 1 s [] s1 → Leads b i d t [] t1 → Matched S T a b R L K i s1 t1 → Matched S T a b R (suc L) (d + K) i s t
  prepend L K d i s s1 t t1 one some (is_wrong j s' few leads wrong) =
      is_wrong (1 + j) s' (omega arith) (leads_on a i 1 j s s1 s' [] [] one leads) wrong
  prepend L K d i s s1 t t1 one some (acts j k s' t' ask f g few few' leads is leads' is' after) =
      acts (1 + j) (d + k) s' t' ask f g (omega arith) (omega arith) (leads_on a i 1 j s s1 s' [] [] one leads) is (leads_on b i d k t t1 t' [] [] some leads') is' after
  prepend L K d i s s1 t t1 one some (begins j k s' t' begun few few' leads leads' r) =
      let e : 1 + suc j ≡ suc (suc j) = omega arith in
      let e' : d + suc k ≡ suc (d + k) = omega arith in
      begins (suc j) (d + k) s' t' begun (omega arith) (omega arith) (subst (λ n. Leads a i n s begun s') e (leads_on a i 1 (suc j) s s1 s' [] begun one leads)) (subst (λ n. Leads b i n t begun t') e' (leads_on b i d (suc k) t t1 t' [] begun some leads')) r

  -- the target takes d quiet steps before they match, as after an event whose answer it still has to keep
  pub catch_up : (L K d i : ℕ) (s : S) (t t1 : T) → Leads b i d t [] t1 → Matched S T a b R L K i s t1 → Matched S T a b R L (d + K) i s t
  catch_up L K d i s t t1 some (is_wrong j s' few leads wrong) = is_wrong j s' few leads wrong
  catch_up L K d i s t t1 some (acts j k s' t' ask f g few few' leads is leads' is' after) =
      acts j (d + k) s' t' ask f g few (omega arith) leads is (leads_on b i d k t t1 t' [] [] some leads') is' after
  catch_up L K d i s t t1 some (begins j k s' t' begun few few' leads leads' r) =
      let e' : d + suc k ≡ suc (d + k) = omega arith in
      begins j (d + k) s' t' begun few (omega arith) leads (subst (λ n. Leads b i n t begun t') e' (leads_on b i d (suc k) t t1 t' [] begun some leads')) r
