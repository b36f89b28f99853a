-- Which blocks begin at a label.
use Rattle.std.proofs.Common.{◌≡◌, inl, ℕ, suc, ◌+◌, Bool, true, false, List, [], ◌∷◌, Option, Some, None, refl, ap, subst, arith}
use Rattle.std.specs.Prelude.{◌^◌, slice_get, nat_lt, if◌then◌else◌, ◌||◌}
use Rattle.std.specs.List.{list_any}
use Rattle.dxil_form.specs.Graphs.{In}
use Rattle.spv_form.specs.declared.module.Inst.{Inst}
use Rattle.spv_form.specs.declared.module.Module.{Module}
use Rattle.spirv_meaning.specs.Names.{is_some_at, label_of, named_by, is_named, is_label_of, only_place, block_name, site, begun_at}
use Rattle.spirv_meaning.proofs.Sites.{sites_begin}
use Rattle.frame_facts.proofs.Searches.{inj, eq_told}

-- what stands at the one place that passes, counted from n
only_one : (test : Inst → Bool) (n : ℕ) (insts : List Inst) (at : ℕ) → only_place test n insts ≡ Some at → (j : ℕ) × (at ≡ n + j) × ((i : Inst) × (slice_get insts j ≡ Some i) × (test i ≡ true))
only_one test n [] at e = absurd (cc)
only_one test n (i ∷ is) at e = by_test (λ e. only_one test (suc n) is at e) (test i) refl e
  where
    by_any : (b : Bool) → test i ≡ true → (if b then None else Some n) ≡ Some at → (j : ℕ) × (at ≡ n + j) × ((x : Inst) × (slice_get (i ∷ is) j ≡ Some x) × (test x ≡ true))
    by_any true p e = absurd (cc)
    by_any false p e =
        let here : n ≡ at = inj e in
        let same : at ≡ n + 0 = omega (arith, here) in
        (0, same, (i, refl, p))

    by_test : (only_place test (suc n) is ≡ Some at → (j : ℕ) × (at ≡ suc n + j) × ((x : Inst) × (slice_get is j ≡ Some x) × (test x ≡ true))) → (t : Bool) → test i ≡ t → (if t then (if list_any test is then None else Some n) else only_place test (suc n) is) ≡ Some at → (j : ℕ) × (at ≡ n + j) × ((x : Inst) × (slice_get (i ∷ is) j ≡ Some x) × (test x ≡ true))
    by_test again true p e = by_any (list_any test is) p e
    by_test again false p e =
        let rest = again e in
        let same : at ≡ n + suc rest.0 = omega (arith, rest.1) in
        (suc rest.0, same, rest.2)

some_passes : (test : Inst → Bool) (insts : List Inst) → list_any test insts ≡ true → (j : ℕ) × ((i : Inst) × (slice_get insts j ≡ Some i) × (test i ≡ true))
some_passes test [] e = absurd (cc)
some_passes test (i ∷ is) e = by_test (λ e. some_passes test is e) (test i) refl e
  where
    by_test : (list_any test is ≡ true → (j : ℕ) × ((x : Inst) × (slice_get is j ≡ Some x) × (test x ≡ true))) → (t : Bool) → test i ≡ t → (t || list_any test is) ≡ true → (j : ℕ) × ((x : Inst) × (slice_get (i ∷ is) j ≡ Some x) × (test x ≡ true))
    by_test again true p e = (0, (i, refl, p))
    by_test again false p e =
        let rest = again e in
        (suc rest.0, rest.1)

-- the label at the site of a block, and the name that makes it the site
pub record HasSite (m : Module) (k at : ℕ) : Type 0 where
  pub label_there : Inst
  pub id : ℕ
  pub stands : slice_get m.insts at ≡ Some label_there
  pub label_is : label_of label_there ≡ Some id
  pub place : ℕ
  pub name : Inst
  pub named : slice_get m.insts place ≡ Some name
  pub names_it : named_by (block_name k) name ≡ Some id

pub site_has : (m : Module) (k at : ℕ) → site m k ≡ Some at → HasSite m k at
site_has m k at e = by_bound (nat_lt k (2 ^ 32)) e
  where
    is_at : (o : Option ℕ) (id : ℕ) → is_some_at o id ≡ true → o ≡ Some id
    is_at (Some x) id e = ap Some (eq_told x id e)
    is_at None id e = absurd (cc)

    by_label : (x : Inst) → slice_get m.insts at ≡ Some x → (o : Option ℕ) → label_of x ≡ o → is_named m.insts (block_name k) o ≡ true → HasSite m k at
    by_label x stands None is e = absurd (cc)
    by_label x stands (Some id) is e =
        let by = some_passes (λ i. is_some_at (named_by (block_name k) i) id) m.insts e in
        record { label_there = x; id = id; stands = stands; label_is = is; place = by.0; name = by.1.0; named = by.1.1; names_it = is_at (named_by (block_name k) by.1.0) id by.1.2 }

    by_place : only_place (is_label_of m k) 0 m.insts ≡ Some at → HasSite m k at
    by_place f =
        let one = only_one (is_label_of m k) 0 m.insts at f in
        let same : one.0 ≡ at = omega (arith, one.1) in
        by_label one.2.0 (subst (λ j. slice_get m.insts j ≡ Some one.2.0) same one.2.1) (label_of one.2.0) refl one.2.2

    by_bound : (t : Bool) → (if t then only_place (is_label_of m k) 0 m.insts else None) ≡ Some at → HasSite m k at
    by_bound true f = by_place f
    by_bound false f = absurd (cc)

-- a list without members
pub none_in : (xs : List ℕ) → ((k : ℕ) → In k xs → ⊥) → xs ≡ []
none_in [] h = refl
none_in (x ∷ xs) h = absurd (h x (inl refl))

-- no block begins where no name names the label
pub begins_none : (m : Module) (at : ℕ) → ((k : ℕ) → HasSite m k at → ⊥) → begun_at m at ≡ []
begins_none m at h = none_in (begun_at m at) (λ k there. h k (site_has m k at ((sites_begin m at k).0 there)))
