-- A key that a table has stands at its place, and a variable at its own.
use Rattle.std.proofs.Common.{◌≡◌, ℕ, suc, ◌+◌, ◌<◌, Bool, true, false, List, [], ◌∷◌, length, Option, Some, None, refl, sym, ap, ◌∙◌, arith}
use Rattle.std.specs.Prelude.{slice_get, nat_eq, if◌then◌else◌, ◌&&◌, ◌||◌}
use Rattle.spirv_code.specs.declared.key.Sort.{Sort}
use Rattle.spirv_code.specs.declared.key.Sort.TheVariants as sort
use Rattle.spirv_code.specs.declared.key.Storage.{Storage}
use Rattle.spirv_code.specs.declared.key.Storage.TheVariants as storage
use Rattle.spirv_code.specs.declared.key.BuiltIn.{BuiltIn}
use Rattle.spirv_code.specs.declared.key.BuiltIn.TheVariants as builtin
use Rattle.spirv_code.specs.declared.key.Global.{Global}
use Rattle.spirv_code.specs.declared.key.Global.TheVariants.{Plain, Pointer, Number, Truth, Input, Buffer, Shared}
use Rattle.spirv_code.specs.declared.key.Slot.{Slot}
use Rattle.spirv_code.specs.declared.key.Slot.TheVariants.{Next, Kept, Want, Pick}
use Rattle.spirv_code.specs.Keys.{same_truth, same_sort, same_storage, same_built_in, same_global, same_slot, index_of, has_key, place_from}
use Rattle.frame_facts.proofs.Searches.{eq_told, both_so, get_below}

never : {A : Type 0} → false ≡ true → A
never e = absurd (let no_such : false ≡ true = e in grind arith)

truth_told : (a b : Bool) → same_truth a b ≡ true → a ≡ b
truth_told true true e = refl
truth_told true false e = never e
truth_told false true e = never e
truth_told false false e = refl

sort_told : (a b : Sort) → same_sort a b ≡ true → a ≡ b
sort_told sort.Int sort.Int e = refl
sort_told sort.Bool sort.Bool e = refl
sort_told sort.Triple sort.Triple e = refl
sort_told sort.Row sort.Row e = refl
sort_told (sort.Words a) (sort.Words b) e = ap sort.Words (eq_told a b e)
sort_told (sort.Block a) (sort.Block b) e = ap sort.Block (eq_told a b e)
sort_told (sort.Array a) (sort.Array b) e = ap sort.Array (eq_told a b e)
sort_told _ _ e = never e

storage_told : (a b : Storage) → same_storage a b ≡ true → a ≡ b
storage_told storage.Input storage.Input e = refl
storage_told storage.Uniform storage.Uniform e = refl
storage_told storage.Workgroup storage.Workgroup e = refl
storage_told storage.Function storage.Function e = refl
storage_told storage.StorageBuffer storage.StorageBuffer e = refl
storage_told _ _ e = never e

built_in_told : (a b : BuiltIn) → same_built_in a b ≡ true → a ≡ b
built_in_told builtin.WorkgroupId builtin.WorkgroupId e = refl
built_in_told builtin.LocalInvocationId builtin.LocalInvocationId e = refl
built_in_told builtin.GlobalInvocationId builtin.GlobalInvocationId e = refl
built_in_told builtin.LocalInvocationIndex builtin.LocalInvocationIndex e = refl
built_in_told _ _ e = never e

pub global_told : (g h : Global) → same_global g h ≡ true → g ≡ h
global_told (Plain a) (Plain b) e = ap Plain (sort_told a b e)
global_told (Pointer s a) (Pointer t b) e =
    let both = both_so (same_storage s t) (same_sort a b) e in
    ap (λ s. Pointer s a) (storage_told s t both.0) ∙ ap (Pointer t) (sort_told a b both.1)
global_told (Number a) (Number b) e = ap Number (eq_told a b e)
global_told (Truth a) (Truth b) e = ap Truth (truth_told a b e)
global_told (Input a) (Input b) e = ap Input (built_in_told a b e)
global_told (Buffer a) (Buffer b) e = ap Buffer (eq_told a b e)
global_told (Shared a) (Shared b) e = ap Shared (eq_told a b e)
global_told _ _ e = never e

pub slot_told : (r s : Slot) → same_slot r s ≡ true → r ≡ s
slot_told (Next v p t) (Next w q u) e =
    let both = both_so (nat_eq v w) (nat_eq p q && same_truth t u) e in
    let rest = both_so (nat_eq p q) (same_truth t u) both.1 in
    ap (λ v. Next v p t) (eq_told v w both.0) ∙ ap (λ p. Next w p t) (eq_told p q rest.0) ∙ ap (Next w q) (truth_told t u rest.1)
slot_told (Kept v p t) (Kept w q u) e =
    let both = both_so (nat_eq v w) (nat_eq p q && same_truth t u) e in
    let rest = both_so (nat_eq p q) (same_truth t u) both.1 in
    ap (λ v. Kept v p t) (eq_told v w both.0) ∙ ap (λ p. Kept w p t) (eq_told p q rest.0) ∙ ap (Kept w q) (truth_told t u rest.1)
slot_told Want Want e = refl
slot_told Pick Pick e = refl
slot_told _ _ e = never e

-- a key of the table stands at the place that is found
pub key_stands : (table : List Global) (g : Global) → has_key table g ≡ true → slice_get table (index_of table g) ≡ Some g
key_stands [] g e = never e
key_stands (h ∷ table) g e = by_test (same_global g h) refl e (key_stands table g)
  where
    by_test : (b : Bool) → same_global g h ≡ b → (b || has_key table g) ≡ true → (has_key table g ≡ true → slice_get table (index_of table g) ≡ Some g) → slice_get (h ∷ table) (if b then 0 else suc (index_of table g)) ≡ Some g
    by_test true t e ih = ap Some (sym (global_told g h t))
    by_test false t e ih = ih e

pub key_below : (table : List Global) (g : Global) → has_key table g ≡ true → index_of table g < length table
key_below table g e = get_below table (index_of table g) g (key_stands table g e)

-- where a variable stands
pub record SlotStands (n : ℕ) (slots : List Slot) (s : Slot) (id : ℕ) : Type 0 where
  pub k : ℕ
  pub here : slice_get slots k ≡ Some s
  pub is : id ≡ n + k

pub slot_stands : (n : ℕ) (slots : List Slot) (s : Slot) (id : ℕ) → place_from n slots s ≡ Some id → SlotStands n slots s id
slot_stands n [] s id e = absurd (let none : None ≡ Some id = e in grind arith)
slot_stands n (r ∷ slots) s id e = by_test (same_slot s r) refl e (slot_stands (suc n) slots s id)
  where
    from : ℕ → Option ℕ → ℕ
    from default (Some x) = x
    from default None = default

    by_test : (b : Bool) → same_slot s r ≡ b → (if b then Some n else place_from (suc n) slots s) ≡ Some id → (place_from (suc n) slots s ≡ Some id → SlotStands (suc n) slots s id) → SlotStands n (r ∷ slots) s id
    by_test true t e ih =
        let same : n ≡ n + 0 = omega arith in
        record { k = 0; here = ap Some (sym (slot_told s r t)); is = sym (ap (from n) e) ∙ same }
    by_test false t e ih =
        let x = ih e in
        let same : suc n + x.k ≡ n + suc x.k = omega arith in
        record { k = suc x.k; here = x.here; is = x.is ∙ same }
