-- The interface of an entry point is short, and the entry point is formed.
use Rattle.std.proofs.Common.{◌≡◌, ℕ, zero, suc, ◌+◌, ◌<◌, ◌≤◌, Bool, true, false, List, [], ◌∷◌, length, sum, Option, Some, None, get_or, refl, sym, ap, ◌∙◌, subst, arith, lt-ltb}
use Rattle.std.specs.Prelude.{if◌then◌else◌, ◌&&◌, nat_lt, cond, option_map, slice_get, All}
use Rattle.std.specs.Option.{option_map_or}
use Rattle.std.proofs.lemmas.List.Elements.{All-head, All-tail}
use Rattle.std.proofs.lemmas.List.Sums.{sum_by-cons}
use Rattle.dxil_form.specs.declared.program.Program.{Program}
use Rattle.dxil_form.specs.Sound.{Sound}
use Rattle.spv_form.specs.declared.module.Version.{Version}
use Rattle.spv_form.specs.declared.module.Version.TheVariants.{V13, V16}
use Rattle.spv_form.specs.declared.shape.Shape.TheVariants.{Text}
use Rattle.spv_form.specs.Formed.{IsIdBelow, IsFormedInst}
use Rattle.spv_form.specs.Operands.{has_zero, is_filled, string_last, is_id}
use Rattle.spv_form.specs.Shapes.{shape_of}
use Rattle.spirv_code.specs.declared.key.BuiltIn.TheVariants as builtin
use Rattle.spirv_code.specs.declared.key.Global.{Global}
use Rattle.spirv_code.specs.declared.key.Global.TheVariants.{Plain, Pointer, Number, Truth, Input, Buffer, Shared}
use Rattle.spirv_code.specs.Keys.{same_global}
use Rattle.spirv_code.specs.Plans.{inst}
use Rattle.spirv_code.specs.Frame.{is_listed, interface}
use Rattle.line_runs.proofs.Tests.{some_inj}
use Rattle.frame_facts.proofs.Searches.{eq_same, get_below}
use Rattle.formed_lines.proofs.Shapes.{AllIds}
use Rattle.buffer_form.proofs.Fitting.{KeyFits, KeysFit}
use Rattle.module_formed.proofs.Forms.{AllAt, formed_by, number}
use Rattle.module_formed.proofs.Counting.{Distinct, one_of, counted, AreBelow, few_of_kind}

-- ---- the kinds of keys that are listed

abbrev input_of : Global → Option ℕ
input_of (Input builtin.WorkgroupId) = Some 0
input_of (Input builtin.LocalInvocationId) = Some 1
input_of (Input builtin.GlobalInvocationId) = Some 2
input_of (Input builtin.LocalInvocationIndex) = Some 3
input_of (Plain s) = None
input_of (Pointer s to) = None
input_of (Number n) = None
input_of (Truth b) = None
input_of (Buffer r) = None
input_of (Shared a) = None

abbrev input_key : ℕ → Global
input_key zero = Input builtin.WorkgroupId
input_key (suc zero) = Input builtin.LocalInvocationId
input_key (suc (suc zero)) = Input builtin.GlobalInvocationId
input_key (suc (suc (suc n))) = Input builtin.LocalInvocationIndex

abbrev buffer_of : Global → Option ℕ
buffer_of (Buffer r) = Some r
buffer_of (Plain s) = None
buffer_of (Pointer s to) = None
buffer_of (Number n) = None
buffer_of (Truth b) = None
buffer_of (Input b) = None
buffer_of (Shared a) = None

abbrev shared_of : Global → Option ℕ
shared_of (Shared a) = Some a
shared_of (Plain s) = None
shared_of (Pointer s to) = None
shared_of (Number n) = None
shared_of (Truth b) = None
shared_of (Input b) = None
shared_of (Buffer r) = None

no_number : {A : Type 0} (r : ℕ) → None ≡ Some r → A
no_number r e = absurd (cc)

input_is : (g : Global) (r : ℕ) → input_of g ≡ Some r → g ≡ input_key r
input_is (Input builtin.WorkgroupId) r e = ap input_key (some_inj e)
input_is (Input builtin.LocalInvocationId) r e = ap input_key (some_inj e)
input_is (Input builtin.GlobalInvocationId) r e = ap input_key (some_inj e)
input_is (Input builtin.LocalInvocationIndex) r e = ap input_key (some_inj e)
input_is (Plain s) r e = no_number r e
input_is (Pointer s to) r e = no_number r e
input_is (Number n) r e = no_number r e
input_is (Truth b) r e = no_number r e
input_is (Buffer x) r e = no_number r e
input_is (Shared a) r e = no_number r e

input_self : (r : ℕ) → same_global (input_key r) (input_key r) ≡ true
input_self zero = refl
input_self (suc zero) = refl
input_self (suc (suc zero)) = refl
input_self (suc (suc (suc n))) = refl

input_below : (g : Global) (r : ℕ) → input_of g ≡ Some r → r < 4
input_below (Input builtin.WorkgroupId) r e = omega (arith, some_inj e)
input_below (Input builtin.LocalInvocationId) r e = omega (arith, some_inj e)
input_below (Input builtin.GlobalInvocationId) r e = omega (arith, some_inj e)
input_below (Input builtin.LocalInvocationIndex) r e = omega (arith, some_inj e)
input_below (Plain s) r e = no_number r e
input_below (Pointer s to) r e = no_number r e
input_below (Number n) r e = no_number r e
input_below (Truth b) r e = no_number r e
input_below (Buffer x) r e = no_number r e
input_below (Shared a) r e = no_number r e

buffer_is : (g : Global) (r : ℕ) → buffer_of g ≡ Some r → g ≡ Buffer r
buffer_is (Buffer x) r e = ap Buffer (some_inj e)
buffer_is (Plain s) r e = no_number r e
buffer_is (Pointer s to) r e = no_number r e
buffer_is (Number n) r e = no_number r e
buffer_is (Truth b) r e = no_number r e
buffer_is (Input b) r e = no_number r e
buffer_is (Shared a) r e = no_number r e

shared_is : (g : Global) (r : ℕ) → shared_of g ≡ Some r → g ≡ Shared r
shared_is (Shared x) r e = ap Shared (some_inj e)
shared_is (Plain s) r e = no_number r e
shared_is (Pointer s to) r e = no_number r e
shared_is (Number n) r e = no_number r e
shared_is (Truth b) r e = no_number r e
shared_is (Input b) r e = no_number r e
shared_is (Buffer x) r e = no_number r e

-- ---- how many are listed

-- numbers of which each is at least 1
pub few_items : (xs : List ℕ) → All (λ n. 1 ≤ n) xs → length xs ≤ sum xs
few_items [] h = omega arith
few_items (x ∷ xs) h =
    let first = All-head (λ (n : ℕ). 1 ≤ n) x xs h in
    let rest = few_items xs (All-tail (λ (n : ℕ). 1 ≤ n) x xs h) in
    omega (arith, first, rest, sum_by-cons (λ (y : ℕ). y) x xs)

listed_one : (v : Version) (g : Global) → (if is_listed v g then 1 else 0) ≤ one_of (input_of g) + one_of (buffer_of g) + one_of (shared_of g)
listed_one V13 (Input builtin.WorkgroupId) = omega arith
listed_one V13 (Input builtin.LocalInvocationId) = omega arith
listed_one V13 (Input builtin.GlobalInvocationId) = omega arith
listed_one V13 (Input builtin.LocalInvocationIndex) = omega arith
listed_one V13 (Plain s) = omega arith
listed_one V13 (Pointer s to) = omega arith
listed_one V13 (Number n) = omega arith
listed_one V13 (Truth b) = omega arith
listed_one V13 (Buffer r) = omega arith
listed_one V13 (Shared a) = omega arith
listed_one V16 (Input builtin.WorkgroupId) = omega arith
listed_one V16 (Input builtin.LocalInvocationId) = omega arith
listed_one V16 (Input builtin.GlobalInvocationId) = omega arith
listed_one V16 (Input builtin.LocalInvocationIndex) = omega arith
listed_one V16 (Plain s) = omega arith
listed_one V16 (Pointer s to) = omega arith
listed_one V16 (Number n) = omega arith
listed_one V16 (Truth b) = omega arith
listed_one V16 (Buffer r) = omega arith
listed_one V16 (Shared a) = omega arith

few_listed : (v : Version) (n : ℕ) (table : List Global) → length (interface v n table) ≤ counted input_of table + counted buffer_of table + counted shared_of table
few_listed v n [] = omega arith
few_listed v n (g ∷ table) = by_test (is_listed v g) (listed_one v g) (few_listed v (suc n) table)
  where
    by_test : (t : Bool) → (if t then 1 else 0) ≤ one_of (input_of g) + one_of (buffer_of g) + one_of (shared_of g) → length (interface v (suc n) table) ≤ counted input_of table + counted buffer_of table + counted shared_of table → length (if t then n ∷ interface v (suc n) table else interface v (suc n) table) ≤ (one_of (input_of g) + counted input_of table) + (one_of (buffer_of g) + counted buffer_of table) + (one_of (shared_of g) + counted shared_of table)
    by_test true here rest = omega (arith, here, rest)
    by_test false here rest = omega (arith, rest)

module _ (p : Program) where
  inputs_below : (table : List Global) → AreBelow input_of 4 table
  inputs_below [] = tt
  inputs_below (g ∷ table) = (input_below g, inputs_below table)

  buffer_below : (g : Global) → KeyFits p g → (r : ℕ) → buffer_of g ≡ Some r → r < length p.resources
  buffer_below (Buffer x) h r e = get_below p.resources r h.0 (subst (λ k. slice_get p.resources k ≡ Some h.0) (some_inj e) h.1)
  buffer_below (Plain s) h r e = no_number r e
  buffer_below (Pointer s to) h r e = no_number r e
  buffer_below (Number n) h r e = no_number r e
  buffer_below (Truth b) h r e = no_number r e
  buffer_below (Input b) h r e = no_number r e
  buffer_below (Shared a) h r e = no_number r e

  shared_below : (g : Global) → KeyFits p g → (r : ℕ) → shared_of g ≡ Some r → r < length p.shared
  shared_below (Shared a) h r e = subst (λ k. k < length p.shared) (some_inj e) h
  shared_below (Plain s) h r e = no_number r e
  shared_below (Pointer s to) h r e = no_number r e
  shared_below (Number n) h r e = no_number r e
  shared_below (Truth b) h r e = no_number r e
  shared_below (Input b) h r e = no_number r e
  shared_below (Buffer x) h r e = no_number r e

  buffers_below : (table : List Global) → KeysFit p table → AreBelow buffer_of (length p.resources) table
  buffers_below [] h = tt
  buffers_below (g ∷ table) h = (buffer_below g h.0, buffers_below table h.1)

  arrays_below : (table : List Global) → KeysFit p table → AreBelow shared_of (length p.shared) table
  arrays_below [] h = tt
  arrays_below (g ∷ table) h = (shared_below g h.0, arrays_below table h.1)

  -- 4 inputs, 1,024 buffers, and 8,192 groupshared arrays at most
  pub short_interface : Sound p → (v : Version) (n : ℕ) (table : List Global) → Distinct table → KeysFit p table → length (interface v n table) ≤ 9220
  short_interface sound v n table distinct fits =
      let all = few_listed v n table in
      let inputs = few_of_kind input_of input_key input_is input_self 4 table distinct (inputs_below table) in
      let buffers = few_of_kind buffer_of Buffer buffer_is (λ r. eq_same r) (length p.resources) table distinct (buffers_below table fits) in
      let arrays = few_of_kind shared_of Shared shared_is (λ a. eq_same a) (length p.shared) table distinct (arrays_below table fits) in
      omega (arith, all, inputs, buffers, arrays, sound.counts.resources, few_items p.shared sound.shared.least, sound.shared.most)

-- ---- the ids that are listed

pub interface_ids : (b : ℕ) (v : Version) (n : ℕ) (table : List Global) → ((k : ℕ) → k < length table → IsIdBelow b (n + k)) → AllIds b (interface v n table)
interface_ids b v n [] h = tt
interface_ids b v n (g ∷ table) h =
    by_test (is_listed v g) (interface_ids b v (suc n) table (λ k lt. (let same : n + suc k ≡ suc n + k = omega arith in subst (IsIdBelow b) same (h (suc k) (omega (arith, lt))))))
  where
    by_test : (t : Bool) → AllIds b (interface v (suc n) table) → AllIds b (if t then n ∷ interface v (suc n) table else interface v (suc n) table)
    by_test true rest = (let same : n + 0 ≡ n = omega arith in subst (IsIdBelow b) same (h 0 (omega arith)), rest)
    by_test false rest = rest

ids_from : (b : ℕ) (test : ℕ → Bool) (n : ℕ) (xs : List ℕ) → AllIds b xs → AllAt b test n xs
ids_from b test n [] h = tt
ids_from b test n (x ∷ xs) h = (λ is. h.0, ids_from b test (suc n) xs h.1)

-- GLCompute, the function, `main` and the interface
pub entry_formed : (b x : ℕ) (ids : List ℕ) → IsIdBelow b x → AllIds b ids → length ids ≤ 9220 → IsFormedInst b (inst 15 (5 ∷ x ∷ 0x6E69_616D ∷ 0 ∷ ids))
unfolding shape_of has_zero is_filled
entry_formed b x ids hx all few =
    formed_by b 15 ops (Text 2 true 1) refl (ap (λ t. t && true) (lt-ltb 2 (length ops) (omega arith))) (ap (λ o. option_map_or (λ last. is_filled (get_or ops last 0)) o false) last_is) (omega (arith, few)) (number, (λ is. hx, (letters 2 refl, (letters 3 refl, ids_from b (is_id (Text 2 true 1) ops) 4 ids all))))
  where
    ops : List ℕ
    ops = 5 ∷ x ∷ 0x6E69_616D ∷ 0 ∷ ids

    last_is : string_last ops 2 ≡ Some 3
    last_is =
        ap (λ t. option_map (λ k. 2 + k) (cond t (Some 1) None)) (lt-ltb 1 (length (0x6E69_616D ∷ 0 ∷ ids)) (omega arith))

    -- the words of the name are no ids
    letters : (at : ℕ) → nat_lt 3 at ≡ false → option_map_or (λ place. nat_lt place at) (string_last ops 2) false ≡ true → IsIdBelow b (get_or ops at 0)
    letters at before is =
        number (sym before ∙ ap (λ o. option_map_or (λ place. nat_lt place at) o false) (sym last_is) ∙ is)
