-- The least bit at which a root is at fault.
use Rattle.std.proofs.Common.{ℕ, ◌≡◌, ◌<◌, ◌≤◌, ◌+◌, ◌&&◌, ◌||◌, inl, inr, refl, sym, subst, ◌∙◌, ap, arith, List, [], ◌∷◌, ◌++◌, take, take_all, length, get_or, slice_get, Bool, true, false, not, Option, Some, None, zero, suc, if◌then◌else◌}
use Rattle.std.specs.List.{list_any}
use Rattle.std.proofs.lemmas.List.{take_more}
use Rattle.std.proofs.lemmas.List.Folds.{list_any-append}
use Rattle.std.proofs.lemmas.Option.{slice_get-get_or}
use Rattle.llvm_nodes.specs.declared.item.Named.{Named}
use Rattle.llvm_facts.specs.declared.roots.Root.{Root}
use Rattle.llvm_facts.specs.Module.{Module}
use Rattle.llvm_facts.specs.Faults.{IsFault, IsLeastBit, lesser}
use Rattle.llvm_facts.specs.Roots.{has_name, is_formed, is_at_fault, bit_of_named, IsRootFault}
use Rattle.llvm_facts.proofs.FaultLaws.{IsBelow, below_none, below_more, below_all, least_same}

-- what is known of the named nodes so far
pub record IsAsking (m : Module) (root : Root) (named : List Named) (index : ℕ) (stands : Bool) (least : Option ℕ) : Type 0 where
  pub stands_is : stands ≡ list_any (has_name root) (take index named)
  pub least_is : IsLeastBit (IsBelow bit_of_named (is_at_fault m root) named index) least

pub asking_first : (m : Module) (root : Root) (named : List Named) → IsAsking m root named 0 false None
asking_first m root named = record { stands_is = refl; least_is = below_none bit_of_named (is_at_fault m root) named }

or_false : (b : Bool) → (b || false) ≡ b
or_false true = refl
or_false false = refl

pub asking_more : (m : Module) (root : Root) (named : List Named) (index : ℕ) (stands : Bool) (least : Option ℕ) (x : Named) (now : Option ℕ) (stand : Bool) → IsAsking m root named index stands least → index < length named
    → x ≡ get_or named index x → now ≡ (if has_name root x && (stands || not (is_formed m root x.nodes)) then lesser least x.bit else least) → stand ≡ (stands || has_name root x) → IsAsking m root named (index + 1) stand now
asking_more m root named index stands least x now stand a h o n s =
    let cut : take (index + 1) named ≡ take index named ++ x ∷ [] = take_more named index x h ∙ ap (λ y. take index named ++ y ∷ []) (sym o) in
    let at : slice_get named index ≡ Some x = slice_get-get_or named index x h ∙ ap (λ y. Some y) (sym o) in
    let test : now ≡ (if is_at_fault m root (take index named) x then lesser least x.bit else least) =
    n ∙ ap (λ b. if has_name root x && (b || not (is_formed m root x.nodes)) then lesser least x.bit else least) a.stands_is in
    record {
      stands_is = s ∙ ap (λ b. b || has_name root x) a.stands_is ∙ ap (λ b. list_any (has_name root) (take index named) || b) (sym (or_false (has_name root x)))
          ∙ sym (list_any-append (has_name root) (take index named) (x ∷ [])) ∙ ap (list_any (has_name root)) (sym cut);
      least_is = subst (λ (l : Option ℕ). IsLeastBit (IsBelow bit_of_named (is_at_fault m root) named (index + 1)) l) (sym test)
          (below_more bit_of_named (is_at_fault m root) named index x least at a.least_is (is_at_fault m root (take index named) x) refl);
    }

front : (a b : Bool) → (a && b) ≡ true → a ≡ true
front true b e = refl
front false b e = cc

none_of : {X : Type 0} (p : X → Bool) (xs : List X) (i : ℕ) (x : X) → list_any p xs ≡ false → slice_get xs i ≡ Some x → p x ≡ true → ⊥
none_of p [] i x e s t = cc
none_of p (y ∷ xs) zero x e s t = let o : y ≡ x = cc in let q : p y ≡ true = ap p o ∙ t in let f : (p y || list_any p xs) ≡ false = e in let g : (true || list_any p xs) ≡ false = ap (λ b. b || list_any p xs) (sym q) ∙ f in cc
none_of p (y ∷ xs) (suc i) x e s t = none_of p xs i x (behind (p y) (list_any p xs) e) s t where
  behind : (a b : Bool) → (a || b) ≡ false → b ≡ false
  behind true b f = cc
  behind false b f = f

pub root_ends : (m : Module) (root : Root) (named : List Named) (index end : ℕ) (stands : Bool) (least : Option ℕ) → IsAsking m root named index stands least → length named ≤ index → index ≤ length named
    → IsLeastBit (IsRootFault m root named end) (if stands then least else Some end)
root_ends m root named index end stands least a h k = ends stands (a.stands_is ∙ ap (λ l. list_any (has_name root) l) (take_all index named h)) where
  whole : IsLeastBit (IsFault bit_of_named (is_at_fault m root) named) least
  whole = let n : index ≡ length named = omega arith in
      below_all bit_of_named (is_at_fault m root) named least (subst (λ (i : ℕ). IsLeastBit (IsBelow bit_of_named (is_at_fault m root) named i) least) n a.least_is)

  ends : (b : Bool) → b ≡ list_any (has_name root) named → IsLeastBit (IsRootFault m root named end) (if b then least else Some end)
  ends true e =
      least_same (IsFault bit_of_named (is_at_fault m root) named) (IsRootFault m root named end) (λ at f. inr f)
      (λ at f. elim f [ inl p ↦ (let c : true ≡ false = e ∙ p.0 in cc) | inr g ↦ g ]) least whole
  ends false e = (
    inl (sym e, refl),
    λ at f. elim f [
      | inl p ↦ omega (arith, p.1)
      | inr g ↦ absurd (none_of (has_name root) named g.index g.place (sym e) g.stands (front (has_name root g.place) _ g.holds))
    ],
  )
