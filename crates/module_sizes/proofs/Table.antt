-- How much the table takes: the keys that a module has once at most, and those that its code names.
use Rattle.std.proofs.Common.{◌≡◌, ℕ, suc, ◌+◌, ◌*◌, ◌<◌, ◌≤◌, Bool, true, false, List, [], ◌∷◌, ◌++◌, length, map, refl, ap, arith, inl, inr}
use Rattle.std.specs.Prelude.{◌⊎◌, nat_eq, nat_le, nat_lt, ◌||◌, if◌then◌else◌}
use Rattle.std.specs.List.{flat_map}
use Rattle.dxil_form.specs.declared.program.Program.{Program}
use Rattle.spirv_code.specs.declared.key.Sort.TheVariants as sort
use Rattle.spirv_code.specs.declared.key.Storage.{Storage}
use Rattle.spirv_code.specs.declared.key.Storage.TheVariants as storage
use Rattle.spirv_code.specs.declared.key.BuiltIn.TheVariants as builtin
use Rattle.spirv_code.specs.declared.key.Global.{Global}
use Rattle.spirv_code.specs.declared.key.Global.TheVariants.{Plain, Pointer, Number, Truth, Input, Buffer, Shared}
use Rattle.spirv_code.specs.Keys.{same_global, has_key, add_key}
use Rattle.spirv_code.specs.Needed.{whole, add_each, add_whole, add_all}
use Rattle.line_runs.proofs.Tests.{nat_eq-eq}
use Rattle.plan_ready.proofs.Among.{Among, among_front, among_back, among_flat, among_map}
use Rattle.module_sizes.specs.Sizes.{Measure, amount}
use Rattle.module_sizes.proofs.Totals.{total, total_append, total_map, total_flat, total_less, total_both, total_within, Apart}
use Rattle.module_sizes.proofs.Apart.{keys_tell, key_apart}
use Rattle.module_sizes.proofs.Below.{below, below_same, among_below}
use Rattle.module_sizes.proofs.Common.{most_number, is_common, weight, cost, named, lt_told}

-- ---- the keys that a module has once at most

abbrev pointers : Storage → List Global
pointers s = Pointer s sort.Int ∷ Pointer s sort.Bool ∷ Pointer s sort.Triple ∷ Pointer s sort.Row ∷ []

abbrev plain_keys : List Global
plain_keys =
    Plain sort.Int ∷ Plain sort.Bool ∷ Plain sort.Triple ∷ Plain sort.Row ∷ Truth true ∷ Truth false ∷
    Input builtin.WorkgroupId ∷ Input builtin.LocalInvocationId ∷ Input builtin.GlobalInvocationId ∷ Input builtin.LocalInvocationIndex ∷ Number 0xFFFF_FFFF ∷ []

abbrev pointer_keys : List Global
pointer_keys =
    pointers storage.Input ++ (pointers storage.Uniform ++ (pointers storage.Workgroup ++ (pointers storage.Function ++ pointers storage.StorageBuffer)))

abbrev resource_keys : ℕ → List Global
resource_keys r =
    Plain (sort.Words r) ∷ Plain (sort.Block r) ∷ Pointer storage.Uniform (sort.Block r) ∷ Pointer storage.StorageBuffer (sort.Block r) ∷ Buffer r ∷ []

abbrev array_keys : ℕ → List Global
array_keys a = Plain (sort.Array a) ∷ Pointer storage.Workgroup (sort.Array a) ∷ Shared a ∷ []

-- with the numbers below n
abbrev common_keys : Program → ℕ → List Global
common_keys p n =
    plain_keys ++ (pointer_keys ++ (map Number (below n) ++ (flat_map resource_keys (below (length p.resources)) ++ flat_map array_keys (below (length p.shared)))))

-- what they take
abbrev pub resource_most : Measure → ℕ
resource_most m = total (weight m) (resource_keys 0)

abbrev pub array_most : Measure → ℕ
array_most m = total (weight m) (array_keys 0)

abbrev pub few_most : Measure → ℕ
few_most m = total (weight m) (plain_keys ++ pointer_keys)

abbrev pub common_most : Program → Measure → ℕ → ℕ
common_most p m n =
    few_most m + (n * amount m 3 + (length p.resources * resource_most m + length p.shared * array_most m))

common_take : (p : Program) (m : Measure) (n : ℕ) → total (weight m) (common_keys p n) ≡ common_most p m n
common_take p m n =
    let rest : List Global = flat_map resource_keys (below (length p.resources)) ++ flat_map array_keys (below (length p.shared)) in
    let one = total_append (weight m) (map Number (below n)) rest in
    let two = total_append (weight m) (flat_map resource_keys (below (length p.resources))) (flat_map array_keys (below (length p.shared))) in
    let numbers = total_map (weight m) Number (below n) in
    let count = below_same (amount m 3) n in
    let resources = total_flat (weight m) resource_keys (below (length p.resources)) in
    let each = below_same (resource_most m) (length p.resources) in
    let arrays = total_flat (weight m) array_keys (below (length p.shared)) in
    let all = below_same (array_most m) (length p.shared) in
    let e : total (weight m) (common_keys p n) ≡ common_most p m n = omega (arith, one, two, numbers, count, resources, each, arrays, all) in
    e

-- ---- they have all such keys

module _ (p : Program) where
  abbrev common : List Global
  common = common_keys p (suc most_number)

  abbrev numbers : List Global
  numbers = map Number (below (suc most_number))

  abbrev of_resources : List Global
  of_resources = flat_map resource_keys (below (length p.resources))

  abbrev of_arrays : List Global
  of_arrays = flat_map array_keys (below (length p.shared))

  in_plain : (g : Global) → Among g plain_keys → Among g common
  in_plain g h = among_front g plain_keys (pointer_keys ++ (numbers ++ (of_resources ++ of_arrays))) h

  behind_plain : (g : Global) → Among g (pointer_keys ++ (numbers ++ (of_resources ++ of_arrays))) → Among g common
  behind_plain g h = among_back g plain_keys (pointer_keys ++ (numbers ++ (of_resources ++ of_arrays))) h

  in_pointers : (g : Global) → Among g pointer_keys → Among g common
  in_pointers g h = behind_plain g (among_front g pointer_keys (numbers ++ (of_resources ++ of_arrays)) h)

  behind_pointers : (g : Global) → Among g (numbers ++ (of_resources ++ of_arrays)) → Among g common
  behind_pointers g h = behind_plain g (among_back g pointer_keys (numbers ++ (of_resources ++ of_arrays)) h)

  in_numbers : (g : Global) → Among g numbers → Among g common
  in_numbers g h = behind_pointers g (among_front g numbers (of_resources ++ of_arrays) h)

  behind_numbers : (g : Global) → Among g (of_resources ++ of_arrays) → Among g common
  behind_numbers g h = behind_pointers g (among_back g numbers (of_resources ++ of_arrays) h)

  in_resource : (r : ℕ) (g : Global) → nat_lt r (length p.resources) ≡ true → Among g (resource_keys r) → Among g common
  in_resource r g e h =
      behind_numbers g (among_front g of_resources of_arrays (among_flat resource_keys r g (below (length p.resources)) (among_below (length p.resources) r (lt_told r (length p.resources) e)) h))

  in_array : (a : ℕ) (g : Global) → nat_lt a (length p.shared) ≡ true → Among g (array_keys a) → Among g common
  in_array a g e h =
      behind_numbers g (among_back g of_resources of_arrays (among_flat array_keys a g (below (length p.shared)) (among_below (length p.shared) a (lt_told a (length p.shared) e)) h))

  abbrev last_pointers : List Global
  last_pointers = pointers storage.Function ++ pointers storage.StorageBuffer

  abbrev late_pointers : List Global
  late_pointers = pointers storage.Workgroup ++ last_pointers

  abbrev more_pointers : List Global
  more_pointers = pointers storage.Uniform ++ late_pointers

  pointer_there : (s : Storage) (g : Global) → Among g (pointers s) → Among g pointer_keys
  pointer_there storage.Input g h = among_front g (pointers storage.Input) more_pointers h
  pointer_there storage.Uniform g h =
      among_back g (pointers storage.Input) more_pointers (among_front g (pointers storage.Uniform) late_pointers h)
  pointer_there storage.Workgroup g h =
      among_back g (pointers storage.Input) more_pointers (among_back g (pointers storage.Uniform) late_pointers (among_front g (pointers storage.Workgroup) last_pointers h))
  pointer_there storage.Function g h =
      among_back g (pointers storage.Input) more_pointers (among_back g (pointers storage.Uniform) late_pointers (among_back g (pointers storage.Workgroup) last_pointers (among_front g (pointers storage.Function) (pointers storage.StorageBuffer) h)))
  pointer_there storage.StorageBuffer g h =
      among_back g (pointers storage.Input) more_pointers (among_back g (pointers storage.Uniform) late_pointers (among_back g (pointers storage.Workgroup) last_pointers (among_back g (pointers storage.Function) (pointers storage.StorageBuffer) h)))

  number_there : (n : ℕ) (b : Bool) → nat_le n most_number ≡ b → (b || nat_eq n 0xFFFF_FFFF) ≡ true → Among (Number n) common
  number_there n true e h =
      in_numbers (Number n) (among_map Number n (below (suc most_number)) (among_below (suc most_number) n (low n e)))
    where
      low : (n : ℕ) → nat_le n most_number ≡ true → n < suc most_number
      low n e = grind arith
  number_there n false e h =
      in_plain (Number n) (inr (inr (inr (inr (inr (inr (inr (inr (inr (inr (inl (ap Number (nat_eq-eq n 0xFFFF_FFFF h)))))))))))))

  common_there : (g : Global) → is_common p g ≡ true → Among g common
  common_there (Plain sort.Int) e = in_plain _ (inl refl)
  common_there (Plain sort.Bool) e = in_plain _ (inr (inl refl))
  common_there (Plain sort.Triple) e = in_plain _ (inr (inr (inl refl)))
  common_there (Plain sort.Row) e = in_plain _ (inr (inr (inr (inl refl))))
  common_there (Plain (sort.Words r)) e = in_resource r _ e (inl refl)
  common_there (Plain (sort.Block r)) e = in_resource r _ e (inr (inl refl))
  common_there (Plain (sort.Array a)) e = in_array a _ e (inl refl)
  common_there (Pointer s sort.Int) e = in_pointers _ (pointer_there s _ (inl refl))
  common_there (Pointer s sort.Bool) e = in_pointers _ (pointer_there s _ (inr (inl refl)))
  common_there (Pointer s sort.Triple) e = in_pointers _ (pointer_there s _ (inr (inr (inl refl))))
  common_there (Pointer s sort.Row) e = in_pointers _ (pointer_there s _ (inr (inr (inr (inl refl)))))
  common_there (Pointer s (sort.Words r)) e = absurd (cc)
  common_there (Pointer storage.Uniform (sort.Block r)) e = in_resource r _ e (inr (inr (inl refl)))
  common_there (Pointer storage.StorageBuffer (sort.Block r)) e = in_resource r _ e (inr (inr (inr (inl refl))))
  common_there (Pointer storage.Input (sort.Block r)) e = absurd (cc)
  common_there (Pointer storage.Workgroup (sort.Block r)) e = absurd (cc)
  common_there (Pointer storage.Function (sort.Block r)) e = absurd (cc)
  common_there (Pointer storage.Workgroup (sort.Array a)) e = in_array a _ e (inr (inl refl))
  common_there (Pointer storage.Input (sort.Array a)) e = absurd (cc)
  common_there (Pointer storage.Uniform (sort.Array a)) e = absurd (cc)
  common_there (Pointer storage.Function (sort.Array a)) e = absurd (cc)
  common_there (Pointer storage.StorageBuffer (sort.Array a)) e = absurd (cc)
  common_there (Number n) e = number_there n (nat_le n most_number) refl e
  common_there (Truth true) e = in_plain _ (inr (inr (inr (inr (inl refl)))))
  common_there (Truth false) e = in_plain _ (inr (inr (inr (inr (inr (inl refl))))))
  common_there (Input builtin.WorkgroupId) e = in_plain _ (inr (inr (inr (inr (inr (inr (inl refl)))))))
  common_there (Input builtin.LocalInvocationId) e = in_plain _ (inr (inr (inr (inr (inr (inr (inr (inl refl))))))))
  common_there (Input builtin.GlobalInvocationId) e = in_plain _ (inr (inr (inr (inr (inr (inr (inr (inr (inl refl)))))))))
  common_there (Input builtin.LocalInvocationIndex) e = in_plain _ (inr (inr (inr (inr (inr (inr (inr (inr (inr (inl refl))))))))))
  common_there (Buffer r) e = in_resource r _ e (inr (inr (inr (inr (inl refl)))))
  common_there (Shared a) e = in_array a _ e (inr (inr (inl refl)))

  -- ---- the table

  module _ (m : Measure) where
    -- what is taken once at most
    abbrev shared_cost : Global → ℕ
    shared_cost g = if is_common p g then weight m g else 0

    parts_of_it : (g : Global) → weight m g ≤ shared_cost g + cost p m g
    parts_of_it g = by_test (is_common p g)
      where
        by_test : (b : Bool) → weight m g ≤ (if b then weight m g else 0) + (if b then 0 else weight m g)
        by_test true = omega arith
        by_test false = omega arith

    shared_low : (g : Global) → shared_cost g ≤ weight m g
    shared_low g = by_test (is_common p g)
      where
        by_test : (b : Bool) → (if b then weight m g else 0) ≤ weight m g
        by_test true = omega arith
        by_test false = omega arith

    shared_there : (g : Global) → (shared_cost g ≡ 0) ⊎ Among g common
    shared_there g = by_test (is_common p g) refl
      where
        by_test : (b : Bool) → is_common p g ≡ b → ((if b then weight m g else 0) ≡ 0) ⊎ Among g common
        by_test true e = inr (common_there g e)
        by_test false e = inl refl

    -- each key stands once
    each_apart : (table gs : List Global) → Apart table → Apart (add_each table gs)
    each_apart table [] apart = apart
    each_apart table (g ∷ gs) apart = each_apart (add_key table g) gs (key_apart table g apart)

    whole_apart : (table : List Global) (g : Global) → Apart table → Apart (add_whole p table g)
    whole_apart table g apart = by_test (has_key table g)
      where
        by_test : (b : Bool) → Apart (if b then table else add_each table (whole p g))
        by_test true = apart
        by_test false = each_apart table (whole p g) apart

    all_apart : (table gs : List Global) → Apart table → Apart (add_all p table gs)
    all_apart table [] apart = apart
    all_apart table (g ∷ gs) apart = all_apart (add_whole p table g) gs (whole_apart table g apart)

    -- and was named
    key_costs : (table : List Global) (g : Global) → total (cost p m) (add_key table g) ≤ total (cost p m) table + cost p m g
    key_costs table g = by_test (has_key table g)
      where
        by_test : (b : Bool) → total (cost p m) (if b then table else table ++ g ∷ []) ≤ total (cost p m) table + cost p m g
        by_test true = omega arith
        by_test false = let both = total_append (cost p m) table (g ∷ []) in omega (arith, both)

    each_costs : (table gs : List Global) → total (cost p m) (add_each table gs) ≤ total (cost p m) table + total (cost p m) gs
    each_costs table [] = omega arith
    each_costs table (g ∷ gs) =
        let one = key_costs table g in
        let rest = each_costs (add_key table g) gs in
        omega (arith, one, rest)

    whole_costs : (table : List Global) (g : Global) → total (cost p m) (add_whole p table g) ≤ total (cost p m) table + named p m g
    whole_costs table g = by_test (has_key table g)
      where
        by_test : (b : Bool) → total (cost p m) (if b then table else add_each table (whole p g)) ≤ total (cost p m) table + named p m g
        by_test true = omega arith
        by_test false = let each = each_costs table (whole p g) in omega (arith, each)

    all_cost : (table gs : List Global) → total (cost p m) (add_all p table gs) ≤ total (cost p m) table + total (named p m) gs
    all_cost table [] = omega arith
    all_cost table (g ∷ gs) =
        let one = whole_costs table g in
        let rest = all_cost (add_whole p table g) gs in
        omega (arith, one, rest)

    pub table_fits : (gs : List Global) → total (weight m) (add_all p [] gs) ≤ common_most p m (suc most_number) + total (named p m) gs
    table_fits gs =
        let table : List Global = add_all p [] gs in
        let split = total_less (weight m) (λ g. shared_cost g + cost p m g) table (λ g among. parts_of_it g) in
        let both = total_both shared_cost (cost p m) table in
        let within = total_within same_global keys_tell common table shared_cost (all_apart [] gs tt) (λ g among. shared_there g) in
        let low = total_less shared_cost (weight m) common (λ g among. shared_low g) in
        let take = common_take p m (suc most_number) in
        let names = all_cost [] gs in
        omega (arith, split, both, within, low, take, names)
