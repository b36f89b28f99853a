-- The least bit at which a row of a list is at fault.
use Rattle.std.proofs.Common.{ℕ, ◌≡◌, ◌<◌, ◌≤◌, ◌+◌, ◌||◌, ◌⊎◌, refl, sym, subst, ◌∙◌, ap, arith, List, [], ◌∷◌, ◌++◌, take, length, get_or, Bool, true, false, not, Option, Some, None, if◌then◌else◌}
use Rattle.std.proofs.lemmas.List.{take_more}
use Rattle.std.proofs.lemmas.List.Folds.{list_any-append}
use Rattle.std.proofs.lemmas.Option.{slice_get-get_or}
use Rattle.dxil_form.specs.declared.program.Class.{Class}
use Rattle.dxil_form.specs.declared.program.Class.TheVariants.{Srv, Uav, Cbv}
use Rattle.llvm_facts.specs.Module.{Module}
use Rattle.llvm_facts.specs.Values.{node_at, i32_at}
use Rattle.llvm_facts.specs.Faults.{IsLeastBit, lesser, least_of}
use Rattle.llvm_facts.specs.Tags.{says}
use Rattle.llvm_facts.specs.Rows.{has_id, id_of, is_taken, is_formed, is_faulty, is_at_fault, row_bit, rows_at, has_lists, IsRowFault, IsListFault}
use Rattle.llvm_facts.proofs.FaultLaws.{IsBelow, below_more, below_all, least_either, least_test}

-- what is known of the rows so far
pub record IsAsking (m : Module) (bit : ℕ) (class : Class) (rows : List ℕ) (index : ℕ) (taken : ℕ → Bool) (least : Option ℕ) : Type 0 where
  pub taken_is : (q : ℕ) → taken q ≡ has_id m (take index rows) q
  pub least_is : IsLeastBit (IsBelow (row_bit m bit) (is_at_fault m class) rows index) least

or_false : (b : Bool) → (b || false) ≡ b
or_false true = refl
or_false false = refl

taken_same : (f g : ℕ → Bool) → ((q : ℕ) → f q ≡ g q) → (id : Option ℕ) → is_taken f id ≡ is_taken g id
taken_same f g e None = refl
taken_same f g e (Some id) = e id

faulty_same : (m : Module) (class : Class) (f g : ℕ → Bool) → ((q : ℕ) → f q ≡ g q) → (fields : Option (List ℕ)) → is_faulty m class f fields ≡ is_faulty m class g fields
faulty_same m class f g e None = refl
faulty_same m class f g e (Some fields) = ap (λ b. not (is_formed m class fields) || b) (taken_same f g e (i32_at m (get_or fields 0 0)))

pub asking_more : (m : Module) (bit : ℕ) (class : Class) (rows : List ℕ) (index : ℕ) (taken : ℕ → Bool) (least : Option ℕ) (next : ℕ → Bool) (fault : Bool) (at : ℕ) (now : Option ℕ)
    → IsAsking m bit class rows index taken least → index < length rows
    → fault ≡ is_faulty m class taken (node_at m (get_or rows index 0))
    → ((q : ℕ) → next q ≡ (taken q || says q (id_of m (node_at m (get_or rows index 0)))))
    → at ≡ row_bit m bit (get_or rows index 0) → now ≡ (if fault then lesser least at else least) → IsAsking m bit class rows (index + 1) next now
asking_more m bit class rows index taken least next fault at now a h f t b n =
    let row = get_or rows index 0 in
    let cut : take (index + 1) rows ≡ take index rows ++ row ∷ [] = take_more rows index 0 h in
    let same : fault ≡ is_at_fault m class (take index rows) row = f ∙ faulty_same m class taken (has_id m (take index rows)) a.taken_is (node_at m row) in
    let test : now ≡ (if is_at_fault m class (take index rows) row then lesser least (row_bit m bit row) else least) =
    n ∙ ap (λ z. if fault then lesser least z else least) b ∙ ap (λ c. if c then lesser least (row_bit m bit row) else least) same in
    record {
      taken_is = λ q. t q ∙ ap (λ c. c || says q (id_of m (node_at m row))) (a.taken_is q)
          ∙ ap (λ c. has_id m (take index rows) q || c) (sym (or_false (says q (id_of m (node_at m row)))))
          ∙ sym (list_any-append (λ r. says q (id_of m (node_at m r))) (take index rows) (row ∷ [])) ∙ ap (λ l. has_id m l q) (sym cut);
      least_is = subst (λ (l : Option ℕ). IsLeastBit (IsBelow (row_bit m bit) (is_at_fault m class) rows (index + 1)) l) (sym test)
          (below_more (row_bit m bit) (is_at_fault m class) rows index row least (slice_get-get_or rows index 0 h) a.least_is (is_at_fault m class (take index rows) row) refl);
    }

pub asking_ends : (m : Module) (bit : ℕ) (class : Class) (rows : List ℕ) (index : ℕ) (taken : ℕ → Bool) (least : Option ℕ) → IsAsking m bit class rows index taken least → length rows ≤ index → index ≤ length rows
    → IsLeastBit (IsRowFault m bit class rows) least
asking_ends m bit class rows index taken least a h k =
    let n : index ≡ length rows = omega arith in
    below_all (row_bit m bit) (is_at_fault m class) rows least (subst (λ (i : ℕ). IsLeastBit (IsBelow (row_bit m bit) (is_at_fault m class) rows i) least) n a.least_is)

-- the least bit of four kinds of fault
pub least_of_four : (P Q R S : ℕ → Type 0) (a b c d x y z : Option ℕ) → IsLeastBit P a → IsLeastBit Q b → IsLeastBit R c → IsLeastBit S d → x ≡ least_of c d → y ≡ least_of b x → z ≡ least_of a y
    → IsLeastBit (λ at. P at ⊎ (Q at ⊎ (R at ⊎ S at))) z
least_of_four P Q R S a b c d x y z p q r s ex ey ez =
    let two : IsLeastBit (λ at. R at ⊎ S at) x = subst (λ (l : Option ℕ). IsLeastBit (λ at. R at ⊎ S at) l) (sym ex) (least_either R S c d r s) in
    let three : IsLeastBit (λ at. Q at ⊎ (R at ⊎ S at)) y = subst (λ (l : Option ℕ). IsLeastBit (λ at. Q at ⊎ (R at ⊎ S at)) l) (sym ey) (least_either Q (λ at. R at ⊎ S at) b x q two) in
    subst (λ (l : Option ℕ). IsLeastBit (λ at. P at ⊎ (Q at ⊎ (R at ⊎ S at))) l) (sym ez) (least_either P (λ at. Q at ⊎ (R at ⊎ S at)) a y p three)

pub list_ends : (m : Module) (entry : List ℕ) (bit : ℕ) (srvs uavs cbvs : List ℕ) (b : Bool) (a s u v x y z : Option ℕ) → b ≡ has_lists m entry → a ≡ (if not b then lesser None bit else None)
    → srvs ≡ rows_at m entry 0 → uavs ≡ rows_at m entry 1 → cbvs ≡ rows_at m entry 2
    → IsLeastBit (IsRowFault m bit Srv srvs) s → IsLeastBit (IsRowFault m bit Uav uavs) u → IsLeastBit (IsRowFault m bit Cbv cbvs) v
    → x ≡ least_of u v → y ≡ least_of s x → z ≡ least_of a y → IsLeastBit (IsListFault m entry bit) z
list_ends m entry bit srvs uavs cbvs b a s u v x y z eb ea es eu ev hs hu hv ex ey ez =
    let test : IsLeastBit (λ at. (has_lists m entry ≡ false) × (at ≡ bit)) a =
    subst (λ (l : Option ℕ). IsLeastBit (λ at. (has_lists m entry ≡ false) × (at ≡ bit)) l) (sym (ea ∙ ap (λ c. if not c then lesser None bit else None) eb)) (least_test (has_lists m entry) bit) in
    least_of_four (λ at. (has_lists m entry ≡ false) × (at ≡ bit)) (IsRowFault m bit Srv (rows_at m entry 0)) (IsRowFault m bit Uav (rows_at m entry 1)) (IsRowFault m bit Cbv (rows_at m entry 2)) a s u v x y z test
    (subst (λ (l : List ℕ). IsLeastBit (IsRowFault m bit Srv l) s) es hs)
    (subst (λ (l : List ℕ). IsLeastBit (IsRowFault m bit Uav l) u) eu hu)
    (subst (λ (l : List ℕ). IsLeastBit (IsRowFault m bit Cbv l) v) ev hv) ex ey ez
