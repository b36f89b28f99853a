-- What two machines owe each other, step by step, so that their runs are the same.
use Rattle.std.specs.Prelude.{◌≡◌, ℕ, suc, ◌+◌, ◌<◌, List, []}
use Rattle.dxil_meaning.specs.Launches.{Ask, Load, Store, Atomic, Swap, Barrier, End, Wrong, Acts, Machine, Walk, begin, reach}

-- in exactly j quiet steps, which begin these blocks, the invocation comes from s to s'
abbrev pub Leads : {S : Type 0} → Machine S → ℕ → ℕ → S → List ℕ → S → Type 0
Leads m i j s begun s' = (n k : ℕ) → n ≡ j + k → (walk : Walk) → reach m i n s walk ≡ reach m i k s' (begin begun walk)

-- what is asked of an invocation that goes on: nothing after its end
abbrev pub Unless_end : Ask → Type 0 → Type 0
Unless_end (Load p) X = X
Unless_end (Store p v) X = X
Unless_end (Atomic p op v) X = X
Unless_end (Swap p c v) X = X
Unless_end (Barrier sync scope uav shared) X = X
Unless_end End X = Unit {0}

-- The source a and the target b. R holds of two of their states that match, of an invocation: after an event, or at the beginning of a block. Between two such moments the source makes at most L steps, and the target at most K.
module _ (S T : Type 0) (a : Machine S) (b : Machine T) (R : ℕ → S → T → Type 0) (L K : ℕ) where
  -- from here the source meets a wrong step, or both come to the same event or to the same beginning of blocks, and match again
  pub data Matched (i : ℕ) (s : S) (t : T) : Type 0 where
    is_wrong : (j : ℕ) (s' : S) → j < L → Leads a i j s [] s' → a.step i s' ≡ Wrong → Matched i s t
    acts : (j k : ℕ) (s' : S) (t' : T) (ask : Ask) (f : ℕ → S) (g : ℕ → T) → j < L → k < K → Leads a i j s [] s' → a.step i s' ≡ Acts ask f → Leads b i k t [] t' → b.step i t' ≡ Acts ask g → Unless_end ask ((v : ℕ) → R i (f v) (g v)) → Matched i s t
    begins : (j k : ℕ) (s' : S) (t' : T) (begun : List ℕ) → j < L → k < K → Leads a i (suc j) s begun s' → Leads b i (suc k) t begun t' → R i s' t' → Matched i s t

  -- at the start the source begins its first blocks in no step, and the target in one at least
  pub record Starting (i : ℕ) : Type 0 where
    pub k : ℕ
    pub t' : T
    pub few : k < K
    pub none_first : b.first ≡ []
    pub leads : Leads b i (suc k) b.start a.first t'
    pub matches : R i a.start t'
