-- The blocks that a terminator may go to, and those that a path reaches.
use Rattle.std.proofs.Common.{◌≡◌, ℕ, zero, suc, ◌+◌, ◌≤◌, Bool, true, false, List, [], ◌∷◌, ◌++◌, length, Some, refl, sym, ap, ◌∙◌, subst, arith, inl, inr, ⊎_elim}
use Rattle.std.specs.Prelude.{◌||◌, nat_eq, slice_get, get_or, map, if◌then◌else◌}
use Rattle.std.proofs.lemmas.Option.{slice_get-get_or}
use Rattle.dxil_form.specs.declared.block.Block.{Block}
use Rattle.dxil_form.specs.declared.program.Program.{Program}
use Rattle.dxil_form.specs.Branches.{has, targets, targets_in, branches, declared_graph}
use Rattle.dxil_form.specs.Graphs.{In, Reached}
use Rattle.dxil_form.specs.Sound.{Sound, lines_of}
use Rattle.dxil_meaning.specs.Source.{case_of}
use Rattle.spirv_meaning.proofs.Sites.{sites_begin}
use Rattle.spirv_code.specs.Leaves.{add_new, different}
use Rattle.line_runs.specs.Held.{Setting}
use Rattle.line_runs.specs.Exits.{IsSite}
use Rattle.line_runs.proofs.Tests.{some_inj, nat_eq-eq, nat_eq-refl}

-- ---- different numbers

in_front : (x : ℕ) (a b : List ℕ) → In x a → In x (a ++ b)
in_front x [] b h = absurd h
in_front x (y ∷ a) b h = ⊎_elim (λ e. inl e) (λ h. inr (in_front x a b h)) h

in_back : (x : ℕ) (a b : List ℕ) → In x b → In x (a ++ b)
in_back x [] b h = h
in_back x (y ∷ a) b h = inr (in_back x a b h)

pub has_in : (k : ℕ) (xs : List ℕ) → has k xs ≡ true → In k xs
has_in k [] e = absurd (cc)
has_in k (x ∷ xs) e = by_test (has_in k xs) (nat_eq k x) refl e
  where
    by_test : (has k xs ≡ true → In k xs) → (b : Bool) → nat_eq k x ≡ b → (b || has k xs) ≡ true → In k (x ∷ xs)
    by_test rest true same e = inl (nat_eq-eq k x same)
    by_test rest false differs e = inr (rest e)

pub in_has : (k : ℕ) (xs : List ℕ) → In k xs → has k xs ≡ true
in_has k [] h = absurd h
in_has k (x ∷ xs) (inl e) =
    ap (λ b. b || has k xs) (subst (λ z. nat_eq k z ≡ true) e (nat_eq-refl k))
in_has k (x ∷ xs) (inr h) = by_test (nat_eq k x) (in_has k xs h)
  where
    by_test : (b : Bool) → has k xs ≡ true → (b || has k xs) ≡ true
    by_test true e = refl
    by_test false e = e

seen_stay : (ks seen : List ℕ) (x : ℕ) → In x seen → In x (add_new seen ks)
seen_stay [] seen x h = h
seen_stay (k ∷ ks) seen x h = seen_stay ks (if has k seen then seen else seen ++ k ∷ []) x (by_test (has k seen))
  where
    by_test : (b : Bool) → In x (if b then seen else seen ++ k ∷ [])
    by_test true = h
    by_test false = in_front x seen (k ∷ []) h

new_join : (ks seen : List ℕ) (x : ℕ) → In x ks → In x (add_new seen ks)
new_join [] seen x h = absurd h
new_join (k ∷ ks) seen x (inl e) = seen_stay ks (if has k seen then seen else seen ++ k ∷ []) x (by_test (has k seen) refl)
  where
    by_test : (b : Bool) → has k seen ≡ b → In x (if b then seen else seen ++ k ∷ [])
    by_test true is = subst (λ y. In y seen) (sym e) (has_in k seen is)
    by_test false is = in_back x seen (k ∷ []) (inl e)
new_join (k ∷ ks) seen x (inr h) = new_join ks (if has k seen then seen else seen ++ k ∷ []) x h

pub in_different : (ks : List ℕ) (x : ℕ) → In x ks → In x (different ks)
in_different ks x h = new_join ks [] x h

-- ---- targets

pub either_in : (b : Bool) (x y : ℕ) → In (if b then x else y) (x ∷ y ∷ [])
either_in true x y = inl refl
either_in false x y = inr (inl refl)

pub case_in : (v : ℕ) (cases : List (ℕ × ℕ)) (default : ℕ) → In (case_of v cases default) (default ∷ map (λ c. c.1) cases)
case_in v [] default = inl refl
case_in v (c ∷ cs) default = by_test (nat_eq c.0 v) (case_in v cs default)
  where
    by_test : (b : Bool) → In (case_of v cs default) (default ∷ map (λ c. c.1) cs) → In (if b then c.1 else case_of v cs default) (default ∷ c.1 ∷ map (λ c. c.1) cs)
    by_test true rest = inr (inl refl)
    by_test false rest = ⊎_elim (λ e. inl e) (λ h. inr (inr h)) rest

-- a target of a block that is reached is reached, and is a block
pub record Next_block (p : Program) (k : ℕ) : Type 0 where
  pub block : Block
  pub reached : Reached (declared_graph p) k
  pub stands : slice_get p.blocks k ≡ Some block

pub next_block : (p : Program) → Sound p → (b k : ℕ) (block : Block) → Reached (declared_graph p) b → slice_get p.blocks b ≡ Some block → In k (targets block.term) → Next_block p k
next_block p sound b k block reached stands h =
    let branch : branches p b k ≡ true = ap (λ o. has k (targets_in o)) stands ∙ in_has k (targets block.term) h in
    let lt = (sound.targets b k branch).1 in
    record { block = get_or p.blocks k block; reached = (b ∷ reached.0, (branch, reached.1)); stands = slice_get-get_or p.blocks k block lt }

-- ---- sites and lines

-- a block has one site
pub one_site : (s : Setting) (k p q : ℕ) → IsSite s k p → IsSite s k q → p ≡ q
one_site s k p q a b =
    let here : In k (k ∷ []) = inl refl in
    let at_p = (sites_begin s.made p k).0 (subst (In k) (sym a.begins) here) in
    let at_q = (sites_begin s.made q k).0 (subst (In k) (sym b.begins) here) in
    some_inj (sym at_p ∙ at_q)

-- a block's lines are among those of the program
pub lines_in : (blocks : List Block) (b : ℕ) (block : Block) → slice_get blocks b ≡ Some block → length block.phis + length block.instrs + 1 ≤ lines_of blocks
lines_in [] b block e = absurd (cc)
lines_in (x ∷ blocks) zero block e =
    let same : x ≡ block = some_inj e in
    subst (λ (y : Block). length y.phis + length y.instrs + 1 ≤ lines_of (x ∷ blocks)) same (omega arith)
lines_in (x ∷ blocks) (suc b) block e = let rest = lines_in blocks b block e in omega (arith, rest)
