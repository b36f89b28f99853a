-- The equality that the maps use is that of the definitions, and so are the places that they answer.
use Rattle.std.proofs.Common.{◌≡◌, ℕ, suc, Bool, true, false, List, [], ◌∷◌, ◌++◌, length, Some, None, refl, sym, ap, ◌∙◌, arith, if◌then◌else◌, ◌+◌, ◌≤◌, not, cond, nat_lt, ltb-false}
use Rattle.std.specs.List.{list_any, position, position_or_len}
use Rattle.std.specs.Prelude.{◌||◌, ◌&&◌, option_map}
use Rattle.spirv_code.specs.contracts.key.SortPartialEq.TheImpl as sort_impl
use Rattle.spirv_code.specs.contracts.key.StoragePartialEq.TheImpl as storage_impl
use Rattle.spirv_code.specs.contracts.key.BuiltInPartialEq.TheImpl as builtin_impl
use Rattle.spirv_code.specs.contracts.key.GlobalPartialEq.TheImpl as impl
use Rattle.spirv_code.specs.contracts.key.SlotPartialEq.TheImpl as slot_impl
use Rattle.spirv_code.specs.declared.key.Sort.{Sort}
use Rattle.spirv_code.specs.declared.key.Sort.TheVariants as sort
use Rattle.spirv_code.specs.declared.key.Storage.{Storage}
use Rattle.spirv_code.specs.declared.key.Storage.TheVariants as storage
use Rattle.spirv_code.specs.declared.key.BuiltIn.{BuiltIn}
use Rattle.spirv_code.specs.declared.key.BuiltIn.TheVariants as builtin
use Rattle.spirv_code.specs.declared.key.Global.{Global}
use Rattle.spirv_code.specs.declared.key.Global.TheVariants.{Plain, Pointer, Number, Truth, Input, Buffer, Shared}
use Rattle.spirv_code.specs.declared.key.Slot.{Slot}
use Rattle.spirv_code.specs.declared.key.Slot.TheVariants.{Next, Kept, Want, Pick}
use Rattle.spirv_code.specs.Keys.{same_sort, same_storage, same_built_in, same_global, same_slot, add_key, has_key, index_of, place_from}

same_sorts : (a b : Sort) → sort_impl.eq-value.it a b ≡ same_sort a b
same_sorts sort.Int sort.Int = refl
same_sorts sort.Int sort.Bool = refl
same_sorts sort.Int sort.Triple = refl
same_sorts sort.Int sort.Row = refl
same_sorts sort.Int (sort.Words y) = refl
same_sorts sort.Int (sort.Block y) = refl
same_sorts sort.Int (sort.Array y) = refl
same_sorts sort.Bool sort.Int = refl
same_sorts sort.Bool sort.Bool = refl
same_sorts sort.Bool sort.Triple = refl
same_sorts sort.Bool sort.Row = refl
same_sorts sort.Bool (sort.Words y) = refl
same_sorts sort.Bool (sort.Block y) = refl
same_sorts sort.Bool (sort.Array y) = refl
same_sorts sort.Triple sort.Int = refl
same_sorts sort.Triple sort.Bool = refl
same_sorts sort.Triple sort.Triple = refl
same_sorts sort.Triple sort.Row = refl
same_sorts sort.Triple (sort.Words y) = refl
same_sorts sort.Triple (sort.Block y) = refl
same_sorts sort.Triple (sort.Array y) = refl
same_sorts sort.Row sort.Int = refl
same_sorts sort.Row sort.Bool = refl
same_sorts sort.Row sort.Triple = refl
same_sorts sort.Row sort.Row = refl
same_sorts sort.Row (sort.Words y) = refl
same_sorts sort.Row (sort.Block y) = refl
same_sorts sort.Row (sort.Array y) = refl
same_sorts (sort.Words x) sort.Int = refl
same_sorts (sort.Words x) sort.Bool = refl
same_sorts (sort.Words x) sort.Triple = refl
same_sorts (sort.Words x) sort.Row = refl
same_sorts (sort.Words x) (sort.Words y) = refl
same_sorts (sort.Words x) (sort.Block y) = refl
same_sorts (sort.Words x) (sort.Array y) = refl
same_sorts (sort.Block x) sort.Int = refl
same_sorts (sort.Block x) sort.Bool = refl
same_sorts (sort.Block x) sort.Triple = refl
same_sorts (sort.Block x) sort.Row = refl
same_sorts (sort.Block x) (sort.Words y) = refl
same_sorts (sort.Block x) (sort.Block y) = refl
same_sorts (sort.Block x) (sort.Array y) = refl
same_sorts (sort.Array x) sort.Int = refl
same_sorts (sort.Array x) sort.Bool = refl
same_sorts (sort.Array x) sort.Triple = refl
same_sorts (sort.Array x) sort.Row = refl
same_sorts (sort.Array x) (sort.Words y) = refl
same_sorts (sort.Array x) (sort.Block y) = refl
same_sorts (sort.Array x) (sort.Array y) = refl

same_storages : (a b : Storage) → storage_impl.eq-value.it a b ≡ same_storage a b
same_storages storage.Input storage.Input = refl
same_storages storage.Input storage.Uniform = refl
same_storages storage.Input storage.Workgroup = refl
same_storages storage.Input storage.Function = refl
same_storages storage.Input storage.StorageBuffer = refl
same_storages storage.Uniform storage.Input = refl
same_storages storage.Uniform storage.Uniform = refl
same_storages storage.Uniform storage.Workgroup = refl
same_storages storage.Uniform storage.Function = refl
same_storages storage.Uniform storage.StorageBuffer = refl
same_storages storage.Workgroup storage.Input = refl
same_storages storage.Workgroup storage.Uniform = refl
same_storages storage.Workgroup storage.Workgroup = refl
same_storages storage.Workgroup storage.Function = refl
same_storages storage.Workgroup storage.StorageBuffer = refl
same_storages storage.Function storage.Input = refl
same_storages storage.Function storage.Uniform = refl
same_storages storage.Function storage.Workgroup = refl
same_storages storage.Function storage.Function = refl
same_storages storage.Function storage.StorageBuffer = refl
same_storages storage.StorageBuffer storage.Input = refl
same_storages storage.StorageBuffer storage.Uniform = refl
same_storages storage.StorageBuffer storage.Workgroup = refl
same_storages storage.StorageBuffer storage.Function = refl
same_storages storage.StorageBuffer storage.StorageBuffer = refl

same_built_ins : (a b : BuiltIn) → builtin_impl.eq-value.it a b ≡ same_built_in a b
same_built_ins builtin.WorkgroupId builtin.WorkgroupId = refl
same_built_ins builtin.WorkgroupId builtin.LocalInvocationId = refl
same_built_ins builtin.WorkgroupId builtin.GlobalInvocationId = refl
same_built_ins builtin.WorkgroupId builtin.LocalInvocationIndex = refl
same_built_ins builtin.LocalInvocationId builtin.WorkgroupId = refl
same_built_ins builtin.LocalInvocationId builtin.LocalInvocationId = refl
same_built_ins builtin.LocalInvocationId builtin.GlobalInvocationId = refl
same_built_ins builtin.LocalInvocationId builtin.LocalInvocationIndex = refl
same_built_ins builtin.GlobalInvocationId builtin.WorkgroupId = refl
same_built_ins builtin.GlobalInvocationId builtin.LocalInvocationId = refl
same_built_ins builtin.GlobalInvocationId builtin.GlobalInvocationId = refl
same_built_ins builtin.GlobalInvocationId builtin.LocalInvocationIndex = refl
same_built_ins builtin.LocalInvocationIndex builtin.WorkgroupId = refl
same_built_ins builtin.LocalInvocationIndex builtin.LocalInvocationId = refl
same_built_ins builtin.LocalInvocationIndex builtin.GlobalInvocationId = refl
same_built_ins builtin.LocalInvocationIndex builtin.LocalInvocationIndex = refl

pub same : (g h : Global) → impl.eq-value.it g h ≡ same_global g h
same (Plain a) (Plain b) = same_sorts a b
same (Pointer s a) (Pointer t b) = ap (λ x. x && sort_impl.eq-value.it a b) (same_storages s t) ∙ ap (λ x. same_storage s t && x) (same_sorts a b)
same (Number a) (Number b) = refl
same (Truth true) (Truth true) = refl
same (Truth true) (Truth false) = refl
same (Truth false) (Truth true) = refl
same (Truth false) (Truth false) = refl
same (Input a) (Input b) = same_built_ins a b
same (Buffer a) (Buffer b) = refl
same (Shared a) (Shared b) = refl
same _ _ = refl

pub any_same : (ks : List Global) (g : Global) → list_any (impl.eq-value.it g) ks ≡ has_key ks g
any_same [] g = refl
any_same (h ∷ ks) g = ap (λ b. b || list_any (impl.eq-value.it g) ks) (same g h) ∙ ap (λ b. same_global g h || b) (any_same ks g)

pub add_same : (ks : List Global) (g : Global) → (if list_any (impl.eq-value.it g) ks then ks else ks ++ g ∷ []) ≡ add_key ks g
add_same ks g = ap (λ b. if b then ks else ks ++ g ∷ []) (any_same ks g)

pub first_same : (ks : List Global) (g : Global) → position_or_len (impl.eq-value.it g) ks ≡ index_of ks g
first_same [] g = refl
first_same (h ∷ ks) g =
    by_test (impl.eq-value.it g h) (same_global g h) (same g h) (first_same ks g)
  where
    by_test : (a b : Bool) → a ≡ b → position_or_len (impl.eq-value.it g) ks ≡ index_of ks g → (cond (not a) (1 + position_or_len (impl.eq-value.it g) ks) 0) ≡ (if b then 0 else suc (index_of ks g))
    by_test true true same ih = refl
    by_test false false same ih = let next : 1 + position_or_len (impl.eq-value.it g) ks ≡ suc (index_of ks g) = omega (arith, ih) in next
    by_test true false same ih = absurd (let no : true ≡ false = same in grind arith)
    by_test false true same ih = absurd (let no : false ≡ true = same in grind arith)

inj : {A : Type 0} {x y : A} → Some x ≡ Some y → x ≡ y
inj {A} {x} {y} e = ap (λ o. elim o as (λ _. A) [ None ↦ x | Some z ↦ z ]) e

pub index_bound : (ks : List Global) (g : Global) → index_of ks g ≤ length ks
index_bound [] g = omega arith
index_bound (h ∷ ks) g = by_test (same_global g h) (index_bound ks g)
  where
    by_test : (b : Bool) → index_of ks g ≤ length ks → (if b then 0 else suc (index_of ks g)) ≤ length (h ∷ ks)
    by_test true ih = omega arith
    by_test false ih = omega (arith, ih)

pub place_some : (ks : List Global) (g : Global) (k : ℕ) → position (impl.eq-value.it g) ks ≡ Some k → k ≡ index_of ks g
place_some ks g k e = by_test (nat_lt (position_or_len (impl.eq-value.it g) ks) (length ks)) e
  where
    by_test : (b : Bool) → cond b (Some (position_or_len (impl.eq-value.it g) ks)) None ≡ Some k → k ≡ index_of ks g
    by_test true e = sym (inj e) ∙ first_same ks g
    by_test false e = absurd (let no : None ≡ Some k = e in grind arith)

pub place_none : (ks : List Global) (g : Global) → position (impl.eq-value.it g) ks ≡ None → length ks ≡ index_of ks g
place_none ks g e = by_test (nat_lt (position_or_len (impl.eq-value.it g) ks) (length ks)) refl e
  where
    by_test : (b : Bool) → nat_lt (position_or_len (impl.eq-value.it g) ks) (length ks) ≡ b → cond b (Some (position_or_len (impl.eq-value.it g) ks)) None ≡ None → length ks ≡ index_of ks g
    by_test true t e = absurd (let no : Some (position_or_len (impl.eq-value.it g) ks) ≡ None = e in grind arith)
    by_test false t e =
        let past = ltb-false (position_or_len (impl.eq-value.it g) ks) (length ks) t in
        omega (arith, past, first_same ks g, index_bound ks g)

-- ---- variables of the function

pub same_slots : (r s : Slot) → slot_impl.eq-value.it r s ≡ same_slot r s
same_slots (Next v p true) (Next w q true) = refl
same_slots (Next v p true) (Next w q false) = refl
same_slots (Next v p false) (Next w q true) = refl
same_slots (Next v p false) (Next w q false) = refl
same_slots (Kept v p true) (Kept w q true) = refl
same_slots (Kept v p true) (Kept w q false) = refl
same_slots (Kept v p false) (Kept w q true) = refl
same_slots (Kept v p false) (Kept w q false) = refl
same_slots Want Want = refl
same_slots Pick Pick = refl
same_slots _ _ = refl

-- the place that the map answers, counted from n
pub slot_place : (slots : List Slot) (s : Slot) (n : ℕ) → option_map (λ k. n + k) (position (slot_impl.eq-value.it s) slots) ≡ place_from n slots s
slot_place [] s n = refl
slot_place (r ∷ slots) s n = by_test (slot_impl.eq-value.it s r) (same_slot s r) (same_slots s r) (position_or_len (slot_impl.eq-value.it s) slots) (slot_place slots s (suc n))
  where
    by_rest : (k : ℕ) (b c : Bool) → nat_lt (1 + k) (length (r ∷ slots)) ≡ b → nat_lt k (length slots) ≡ c → option_map (λ j. n + j) (cond b (Some (1 + k)) None) ≡ option_map (λ j. suc n + j) (cond c (Some k) None)
    by_rest k true true e f = ap Some (let next : n + (1 + k) ≡ suc n + k = omega arith in next)
    by_rest k false false e f = refl
    by_rest k true false e f = absurd (grind (arith, e, f))
    by_rest k false true e f = absurd (grind (arith, e, f))

    by_test : (a b : Bool) → a ≡ b → (k : ℕ) → option_map (λ j. suc n + j) (cond (nat_lt k (length slots)) (Some k) None) ≡ place_from (suc n) slots s → option_map (λ j. n + j) (cond (nat_lt (cond (not a) (1 + k) 0) (length (r ∷ slots))) (Some (cond (not a) (1 + k) 0)) None) ≡ (if b then Some n else place_from (suc n) slots s)
    by_test true true e k ih = by_first (nat_lt 0 (length (r ∷ slots))) refl
      where
        by_first : (t : Bool) → nat_lt 0 (length (r ∷ slots)) ≡ t → option_map (λ j. n + j) (cond t (Some 0) None) ≡ Some n
        by_first true e = ap Some (let next : n + 0 ≡ n = omega arith in next)
        by_first false e = absurd (grind (arith, e))
    by_test false false e k ih = by_rest k (nat_lt (1 + k) (length (r ∷ slots))) (nat_lt k (length slots)) refl refl ∙ ih
    by_test true false e k ih = absurd (let no : true ≡ false = e in grind arith)
    by_test false true e k ih = absurd (let no : false ≡ true = e in grind arith)
