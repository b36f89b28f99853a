-- A file has few records and fields, and so its module has few values, types and arguments.
use Rattle.std.proofs.Common.{ℕ, ◌≡◌, ◌≤◌, ◌^◌, ◌==◌, inl, inr, cond, refl, sym, ap, ◌∙◌, subst, arith, List, [], ◌∷◌, length, take, drop, get_or, slice_get, Some, None, Bool, true, false, if◌then◌else◌, length-take, length-drop, nat_lt}
use Rattle.std.specs.List.{filter, count_by}
use Rattle.std.proofs.lemmas.Bool.{cases_lt}
use Rattle.std.proofs.lemmas.List.{length-map}
use Rattle.std.proofs.lemmas.List.Sums.{length-filter, count_by-le-length, sum_by-cons}
use Rattle.std.proofs.lemmas.List.Elements.{All-map, All-get_or, All-from_get_or}
use Rattle.std.proofs.lemmas.Option.{slice_get-get_or, slice_get_past}
use Rattle.bitstream_spelling.specs.Spelling.{rest_of}
use Rattle.bitstream_spelling.specs.Framed.{IsFramed}
use Rattle.bitstream_spelling.specs.Rules.{records, is_record}
use Rattle.bitstream_spelling.specs.declared.item.Item.{Item}
use Rattle.bitstream_spelling.specs.declared.item.Item.TheVariants.{Enter, Record, Skip, End}
use Rattle.llvm_items.specs.Sites.{Site, sites, sites_from, fields_of, code_of}
use Rattle.llvm_items.proofs.SiteLaws.{length-sites}
use Rattle.llvm_types.specs.Types.{types_of, type_of, type_numbers, stated, numbered, is_numbered}
use Rattle.llvm_types.specs.declared.kind.LlvmType.{LlvmType}
use Rattle.llvm_types.specs.declared.kind.LlvmType.TheVariants as types
use Rattle.llvm_values.specs.Values.{takes_value, values_of, value_count}
use Rattle.llvm_values.specs.declared.global.Global.{Global}
use Rattle.llvm_values.specs.declared.global.Global.TheVariants.{Variable, Function, Constant}
use Rattle.llvm_values.specs.declared.global.ConstKind.TheVariants.{Other}
use Rattle.llvm_values.proofs.Listing.{values_whole}
use Rattle.llvm_bodies.specs.Reading.{AreFew}
use Rattle.llvm_records.specs.Facts.{signature_of, called_by, params_of, has_body, facts_of, params_in, HaveFewParams}
use Rattle.llvm_records.specs.Reading.{facts_in}

-- no more records state values than there are
at_most_one : (b : Bool) → cond b 1 0 ≤ 1
at_most_one true = omega arith
at_most_one false = omega arith

one_more : (is : List Item) (item : Item) (s : Site) (ss : List Site) → cond (takes_value s) 1 0 ≤ is_record item → count_by takes_value ss ≤ records is → count_by takes_value (s ∷ ss) ≤ records (item ∷ is)
one_more is item s ss h more = omega (arith, sum_by-cons (λ x. cond (takes_value x) 1 0) s ss, sum_by-cons is_record item is, h, more)

few_values : (around : List ℕ) (is : List Item) → count_by takes_value (sites_from around is) ≤ records is
few_values around [] = omega arith
few_values around (Enter id width bit ∷ is) = one_more is (Enter id width bit) (record { around = around; item = Enter id width bit }) (sites_from (id ∷ around) is) (omega arith) (few_values (id ∷ around) is)
few_values around (Record code first count bit ∷ is) =
    one_more is (Record code first count bit) (record { around = around; item = Record code first count bit }) (sites_from around is)
    (at_most_one (takes_value (record { around = around; item = Record code first count bit }))) (few_values around is)
few_values around (Skip id words bit ∷ is) = one_more is (Skip id words bit) (record { around = around; item = Skip id words bit }) (sites_from around is) (omega arith) (few_values around is)
few_values around (End bit ∷ is) = one_more is (End bit) (record { around = around; item = End bit }) (sites_from (rest_of around) is) (omega arith) (few_values (rest_of around) is)

-- a record has no more fields than its file
few_fields : (fs : List ℕ) (item : Item) → length (fields_of fs item) ≤ length fs
few_fields fs (Enter id width bit) = omega arith
few_fields fs (Record code first count bit) = omega (arith, length-take count (drop first fs), length-drop first fs)
few_fields fs (Skip id words bit) = omega arith
few_fields fs (End bit) = omega arith

few_dropped : (fields : List ℕ) → length (drop 1 (drop 1 fields)) ≤ length fields
few_dropped fields = omega (arith, length-drop 1 (drop 1 fields), length-drop 1 fields)

params_if : (c : Bool) (one other : LlvmType) (n : ℕ) → params_in one ≤ n → params_in other ≤ n → params_in (if c then one else other) ≤ n
params_if true one other n h k = h
params_if false one other n h k = k

numbers_if : (c : Bool) (one other : List ℕ) (n : ℕ) → length one ≤ n → length other ≤ n → length (if c then one else other) ≤ n
numbers_if true one other n h k = h
numbers_if false one other n h k = k

few_numbers : (code : ℕ) (fields : List ℕ) → length (type_numbers code fields) ≤ length fields
few_numbers code fields =
    let first : length (take 1 fields) ≤ length fields = omega (arith, length-take 1 fields) in
    let second : length (take 1 (drop 1 fields)) ≤ length fields = omega (arith, length-take 1 (drop 1 fields), length-drop 1 fields) in
    let behind : length (drop 1 fields) ≤ length fields = omega (arith, length-drop 1 fields) in
    let none : length {A = ℕ} [] ≤ length fields = omega arith in
    numbers_if (code == 8) _ _ _ first (numbers_if (code == 11) _ _ _ second (numbers_if (code == 12) _ _ _ second (numbers_if (code == 18) _ _ _ behind
    (numbers_if (code == 20) _ _ _ behind (numbers_if (code == 21) _ _ _ behind none)))))

few_stated : (code : ℕ) (fields numbers : List ℕ) → params_in (stated code fields numbers) ≤ length numbers
few_stated code fields numbers =
    let none : 0 ≤ length numbers = omega arith in
    let behind : length (drop 1 numbers) ≤ length numbers = omega (arith, length-drop 1 numbers) in
    params_if (code == 3) types.Float _ _ none (params_if (code == 4) types.Double _ _ none (params_if (code == 5) types.Label _ _ none (params_if (code == 6) types.Opaque _ _ none
    (params_if (code == 7) (types.Integer (get_or fields 0 0)) _ _ none (params_if (code == 8) (types.Pointer (get_or numbers 0 0) (get_or fields 1 0)) _ _ none (params_if (code == 10) types.Half _ _ none
    (params_if (code == 11) (types.Array (get_or fields 0 0) (get_or numbers 0 0)) _ _ none (params_if (code == 12) (types.Vector (get_or fields 0 0) (get_or numbers 0 0)) _ _ none
    (params_if (code == 16) types.Metadata _ _ none (params_if (code == 18) (types.Struct numbers) _ _ none (params_if (code == 20) (types.Struct numbers) _ _ none
    (params_if (code == 21) (types.Function (nat_lt 0 (get_or fields 0 0)) (get_or numbers 0 0) (drop 1 numbers)) types.Void _ behind none))))))))))))

few_in_type : (code : ℕ) (fields : List ℕ) → params_in (type_of code fields) ≤ length fields
unfolding type_of
few_in_type code fields = let one = few_stated code fields (type_numbers code fields) in let two = few_numbers code fields in omega (arith, one, two)

-- the types of a file have few parameters
pub few_params : (is : List Item) (fs : List ℕ) → IsFramed is fs → HaveFewParams (types_of is fs)
few_params is fs f = All-map (λ t. params_in t ≤ 2 ^ 24) (λ (s : Site). type_of (code_of s.item) (fields_of fs s.item)) (numbered is)
    (All-from_get_or (λ (s : Site). params_in (type_of (code_of s.item) (fields_of fs s.item)) ≤ 2 ^ 24) (numbered is) (record { around = []; item = End 0 })
    (λ i h. each (get_or (numbered is) i (record { around = []; item = End 0 })))) where
      each : (s : Site) → params_in (type_of (code_of s.item) (fields_of fs s.item)) ≤ 2 ^ 24
      each s = let one = few_in_type (code_of s.item) (fields_of fs s.item) in let two = few_fields fs s.item in let three = f.few_fields in omega (arith, one, two, three)

signature_few : (all : List LlvmType) → HaveFewParams all → (n : ℕ) → (signature_of all (slice_get all n)).params ≤ 2 ^ 24
signature_few all few n = elim (cases_lt n (length all)) [
  | inl h ↦ subst (λ o. (signature_of all o).params ≤ 2 ^ 24) (sym (slice_get-get_or all n types.Void h)) (of_type (get_or all n types.Void) (All-get_or (λ t. params_in t ≤ 2 ^ 24) all n types.Void h few))
  | inr h ↦ subst (λ o. (signature_of all o).params ≤ 2 ^ 24) (sym (slice_get_past all n h)) (omega arith)
] where
  of_type : (t : LlvmType) → params_in t ≤ 2 ^ 24 → (signature_of all (Some t)).params ≤ 2 ^ 24
  of_type types.Void h = omega arith
  of_type types.Float h = omega arith
  of_type types.Double h = omega arith
  of_type types.Half h = omega arith
  of_type types.Label h = omega arith
  of_type types.Opaque h = omega arith
  of_type types.Metadata h = omega arith
  of_type (types.Integer width) h = omega arith
  of_type (types.Pointer to space) h = omega arith
  of_type (types.Array count of) h = omega arith
  of_type (types.Vector count of) h = omega arith
  of_type (types.Struct fields) h = omega arith
  of_type (types.Function vararg ret params) h = h

called_few : (all : List LlvmType) → HaveFewParams all → (value : Global) → params_of all value ≤ 2 ^ 30
called_few all few (Variable ty space init bit) = omega arith
called_few all few (Function ty body name bit) = let one = signature_few all few ty in omega (arith, one)
called_few all few (Constant ty kind bit) = omega arith

-- what the bodies need to know is of few values, types and arguments
pub facts_few : (is : List Item) (fs : List ℕ) → IsFramed is fs → AreFew (facts_in is fs)
facts_few is fs f =
    let all = types_of is fs in
    let values = values_of is fs all in
    let long : length values ≡ value_count is = values_whole is fs all values refl in
    let records = few_values [] is in
    record {
      values = omega (arith, length-map values (called_by all), long, records, f.few_records);
      types = omega (arith, length-map all (λ t. signature_of all (Some t)), length-map (numbered is) (λ (s : Site). type_of (code_of s.item) (fields_of fs s.item)), length-filter is_numbered (sites is), count_by-le-length is_numbered (sites is), length-sites [] is, f.few_items);
      bodies = omega (arith, length-map (filter has_body values) (params_of all), length-filter has_body values, count_by-le-length has_body values, long, records, f.few_records);
      arguments = All-map (λ a. a ≤ 2 ^ 30) (params_of all) (filter has_body values)
          (All-from_get_or (λ v. params_of all v ≤ 2 ^ 30) (filter has_body values) (Constant None Other 0) (λ i h. called_few all (few_params is fs f) (get_or (filter has_body values) i (Constant None Other 0))));
    }

-- the lists of a file are those of its items
pub same_values : (is : List Item) (fs : List ℕ) (all : List LlvmType) (values : List Global) → all ≡ types_of is fs → values ≡ values_of is fs all → values ≡ values_of is fs (types_of is fs)
same_values is fs all values e f = f ∙ ap (values_of is fs) e

pub same_facts : (is : List Item) (fs : List ℕ) (all : List LlvmType) (values : List Global) → all ≡ types_of is fs → values ≡ values_of is fs all → facts_of all values ≡ facts_in is fs
same_facts is fs all values e f = ap (facts_of all) (same_values is fs all values e f) ∙ ap (λ t. facts_of t (values_of is fs (types_of is fs))) e
