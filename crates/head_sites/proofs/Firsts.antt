-- Where a block that is no site goes to one block, whose site it is, the first site met from there is that.
use Rattle.std.proofs.Common.{◌≡◌, ℕ, suc, List, [], ◌∷◌, ◌++◌, refl, sym, ◌∙◌, subst, arith}
use Rattle.std.specs.Prelude.{Contains}
use Rattle.spv_form.specs.declared.module.Module.{Module}
use Rattle.flow_rules.specs.Blocks.{BasicBlock}
use Rattle.flow_rules.specs.Flow.{At, Edge}
use Rattle.flow_blocks.specs.Numbered.{blocks_of}
use Rattle.row_laws.proofs.Basics.{at_same, only}
use Rattle.site_loops.specs.Sites.{IsSite}
use Rattle.head_sites.specs.Paths.{Along, MeetsFirst}

head_is : {x y : ℕ} {xs ys : List ℕ} → x ∷ xs ≡ y ∷ ys → x ≡ y
head_is e = cc

tail_is : {x y : ℕ} {xs ys : List ℕ} → x ∷ xs ≡ y ∷ ys → xs ≡ ys
tail_is e = cc

module _ (m : Module) (q f h : ℕ) (b : BasicBlock) (here : At (blocks_of m.insts) q b) (goes : b.targets ≡ f ∷ []) (none : (k : ℕ) → IsSite m k q → ⊥) (site : IsSite m h f) where
  next : (r : ℕ) → Edge (blocks_of m.insts) q r → r ≡ f
  next r e =
      only f r (subst (λ ts. Contains ts r) goes (subst (λ (x : BasicBlock). Contains x.targets r) (at_same (blocks_of m.insts) q e.block b e.at here) e.target))

  -- the first block is in the list
  front : (x : ℕ) (xs : List ℕ) → Contains (x ∷ xs) x
  front x xs = (0, omega arith, refl)

  -- before the first site stands the block q alone
  behind_q : (path : List ℕ) (s : ℕ) → Along (blocks_of m.insts) q path → (before behind : List ℕ) → path ≡ before ++ s ∷ behind → ((k r : ℕ) → IsSite m k r → Contains before r → ⊥) → s ≡ f
  behind_q [] s along [] behind e free = absurd (cc)
  behind_q [] s along (x ∷ before) behind e free = absurd (cc)
  behind_q (r ∷ path) s along [] behind e free = sym (head_is e) ∙ next r along.0
  behind_q (r ∷ path) s along (x ∷ before) behind e free =
      let same : x ≡ f = sym (head_is e) ∙ next r along.0 in
      absurd (free h f site (subst (λ z. Contains (z ∷ before) f) (sym same) (front f before)))

  first_is : (path : List ℕ) (s of : ℕ) → Along (blocks_of m.insts) q path → IsSite m of s → (before behind : List ℕ) → q ∷ path ≡ before ++ s ∷ behind → ((k r : ℕ) → IsSite m k r → Contains before r → ⊥) → s ≡ f
  first_is path s of along is [] behind e free =
      absurd (none of (subst (IsSite m of) (sym (head_is e)) is))
  first_is path s of along is (x ∷ before) behind e free =
      behind_q path s along before behind (tail_is e) (λ k r t c. free k r t (suc c.0, omega (arith, c.1), c.2))

  pub meets : MeetsFirst m q h
  meets = record {
    path = f ∷ [];
    first = f;
    along = (record { block = b; at = here; target = subst (λ ts. Contains ts f) (sym goes) (front f []) }, tt);
    meets = record {
      before = q ∷ [];
      behind = [];
      path_is = refl;
      none_before = λ k r s c. none k (subst (IsSite m k) (only q r c) s);
      of = h;
      site = site;
    };
    always = λ path s along first. subst (IsSite m h) (sym (first_is path s first.of along first.site first.before first.behind first.path_is first.none_before)) site;
  }

  -- and it is no other block's
  pub sole : (k : ℕ) → MeetsFirst m q k → IsSite m k f
  unfolding meets
  sole k other = other.always meets.path meets.first meets.along meets.meets
