-- Paths of branches that keep out of a set behind their first block.
use Rattle.std.proofs.Common.{◌≡◌, ◌≢◌, ◌⊎◌, inl, inr, ℕ, zero, suc, ◌<◌, Bool, true, false, not, eqb, List, [], ◌∷◌, ◌++◌, length, Some, refl, ap, arith, eq-eqb, ne_eqb}
use Rattle.std.proofs.lemmas.Bool.{cases_Bool, or_cases, or_left, or_right, and_parts, and_from, not-true, eqb-true, eqb-false, not_from_false, false≢true}
use Rattle.dxil_form.specs.declared.program.Program.{Program}
use Rattle.dxil_form.specs.Branches.{branches}
use Rattle.region_laws.specs.Roots.{HasRoot}
use Rattle.region_laws.specs.Paths.{Run, enters_root, enters_other}
use Rattle.region_laws.specs.Paths.Run.{one, more}
use Rattle.std.proofs.lemmas.Option.{none-some, some_pair_parts}

module _ (p : Program) where
  pub run_wider : (e f : ℕ → Bool) → ((x : ℕ) → e x ≡ false → f x ≡ false) → {b x : ℕ} {w : List ℕ} → Run p e b w x → Run p f b w x
  run_wider e f k one = one
  run_wider e f k (more d n r) = more d (k _ n) (run_wider e f k r)

  pub run_append : (e : ℕ → Bool) {b c x y : ℕ} {w v : List ℕ} → Run p e b w x → branches p x c ≡ true → e c ≡ false → Run p e c v y → Run p e b (w ++ v) y
  run_append e one d n r = more d n r
  run_append e (more d' n' r') d n r = more d' n' (run_append e r' d n r)

  -- a path that keeps out of f, up to its first visit of e
  pub record Visit (e f : ℕ → Bool) (b x : ℕ) (w : List ℕ) : Type 0 where
    pub before : List ℕ
    pub last : ℕ
    pub at : ℕ
    pub behind : List ℕ
    pub reaches : Run p e b before last
    pub edge : branches p last at ≡ true
    pub passes : e at ≡ true
    pub avoids : f at ≡ false
    pub rest : Run p f at behind x
    pub joined : w ≡ before ++ behind
    pub shorter : length behind < length w

  pub split : (e f : ℕ → Bool) {b x : ℕ} {w : List ℕ} → Run p f b w x → Run p e b w x ⊎ Visit e f b x w
  split e f one = inl one
  split e f {b} {x} (more {c = c} {w = w} d n r) = go (cases_Bool (e c)) (split e f r)
    where
      go : (e c ≡ true) ⊎ (e c ≡ false) → Run p e c w x ⊎ Visit e f c x w → Run p e b (b ∷ w) x ⊎ Visit e f b x (b ∷ w)
      go (inl t) s = inr (record {
        before = b ∷ [];
        last = b;
        at = c;
        behind = w;
        reaches = one;
        edge = d;
        passes = t;
        avoids = n;
        rest = r;
        joined = refl;
        shorter = omega arith;
      })
      go (inr t) (inl k) = inl (more d t k)
      go (inr t) (inr v) = inr (record {
        before = b ∷ v.before;
        last = v.last;
        at = v.at;
        behind = v.behind;
        reaches = more d t v.reaches;
        edge = v.edge;
        passes = v.passes;
        avoids = v.avoids;
        rest = v.rest;
        joined = ap (λ (z : List ℕ). b ∷ z) v.joined;
        shorter = let l = v.shorter in omega arith;
      })

pub has_entry : (roots : List (ℕ × ℕ)) (b : ℕ) → enters_root roots b ≡ true → (r : ℕ) × HasRoot roots b r
has_entry [] b t = absurd (false≢true t)
has_entry ((c, r) ∷ roots) b t = elim (or_cases (eqb c b) (enters_root roots b) t) [
  | inl q ↦ (let o : c ≡ b = eqb-true c b q in (r, (0, ap (λ (y : ℕ). Some (y, r)) o)))
  | inr k ↦ (let (s, (i, h)) = has_entry roots b k in (s, (suc i, h)))
]

pub entry_has : (roots : List (ℕ × ℕ)) (b r : ℕ) → HasRoot roots b r → enters_root roots b ≡ true
entry_has [] b r (i, h) = absurd (none-some (b, r) h)
entry_has (root ∷ roots) b r (zero, h) =
    let q : root.0 ≡ b = (some_pair_parts root.0 b root.1 r h).0 in or_left (eqb root.0 b) (enters_root roots b) (eq-eqb root.0 b q)
entry_has (root ∷ roots) b r (suc i, h) = or_right (eqb root.0 b) (enters_root roots b) (entry_has roots b r (i, h))

pub has_other : (roots : List (ℕ × ℕ)) (b c : ℕ) → enters_other roots b c ≡ true → ((r : ℕ) × HasRoot roots c r) × (c ≢ b)
has_other roots b c t =
    let (e, n) = and_parts (enters_root roots c) (not (eqb c b)) t in
    (has_entry roots c e, eqb-false c b (not-true (eqb c b) n))

pub other_has : (roots : List (ℕ × ℕ)) (b c r : ℕ) → HasRoot roots c r → c ≢ b → enters_other roots b c ≡ true
other_has roots b c r h n = and_from (enters_root roots c) (not (eqb c b)) (entry_has roots c r h) (not_from_false (eqb c b) (ne_eqb c b n))
