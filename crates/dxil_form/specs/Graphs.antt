-- Finite directed graphs with an entry, and the words of control flow over them.
--
-- The branch graph of a program has its reachable blocks as nodes, block 0 as the entry, and an edge from a block to each target of its terminator.
-- A graph tells of each pair of nodes whether an edge joins them, so there are no doubled edges.
use Rattle.std.specs.Prelude.{zero, suc, ◌+◌, cond, ◌≡◌, ◌≢◌, ◌↔◌, ◌⊎◌, ℕ, ◌<◌, Bool, true, not, ◌&&◌, ◌||◌, eqb, List, [], ◌∷◌, Option, Some, None}

-- the nodes are the live numbers, which are below the count; the entry is node 0
pub record Graph : Type 0 where
  pub count : ℕ
  pub live : ℕ → Bool
  pub edge : ℕ → ℕ → Bool

-- the entry is a node, nodes are below the count, and edges join nodes
pub record IsFormed (g : Graph) : Type 0 where
  pub entry : g.live 0 ≡ true
  pub within : (a : ℕ) → g.live a ≡ true → a < g.count
  pub from : (a b : ℕ) → g.edge a b ≡ true → g.live a ≡ true
  pub to : (a b : ℕ) → g.edge a b ≡ true → g.live b ≡ true

-- x stands in the list
abbrev pub In : ℕ → List ℕ → Type 0
In x [] = ⊥
In x (y ∷ ys) = (x ≡ y) ⊎ In x ys

-- a path from a to b, of as many edges as `before` has nodes: `before` lists the nodes of the path ahead of its end b, the nearest to b first
abbrev pub Path : Graph → ℕ → List ℕ → ℕ → Type 0
Path g a [] b = a ≡ b
Path g a (c ∷ before) b = (g.edge c b ≡ true) × Path g a before c

-- none of the nodes is the one that is left out
abbrev pub Avoids : Option ℕ → List ℕ → Type 0
Avoids None nodes = Unit {0}
Avoids (Some x) nodes = In x nodes → ⊥

-- a path of one edge or more leads from a to b, and none of its nodes, both ends included, is the one that is left out
abbrev pub Leads : Graph → ℕ → ℕ → Option ℕ → Type 0
Leads g a b without = (c : ℕ) × (before : List ℕ) × Path g a (c ∷ before) b × Avoids without (b ∷ c ∷ before)

-- some path leads from the entry to b
abbrev pub Reached : Graph → ℕ → Type 0
Reached g b = (before : List ℕ) × Path g 0 before b

-- every node is reached from the entry
abbrev pub AllReached : Graph → Type 0
AllReached g = (b : ℕ) → g.live b ≡ true → Reached g b

-- a ring is a closed walk of one edge or more, listed by its nodes
abbrev pub Ring : Graph → List ℕ → Type 0
Ring g ring = (a : ℕ) × (In a ring) × (Path g a ring a)

-- an entrance of a ring is a node of it at which some path from the entry meets the ring for the first time
abbrev pub Entrance : Graph → List ℕ → ℕ → Type 0
Entrance g ring e =
    In e ring × ((before : List ℕ) × Path g 0 before e × ((x : ℕ) → In x before → In x ring → ⊥))

-- some ring is crossed: it has two different entrances (such a graph is called irreducible)
pub record Crossed (g : Graph) : Type 0 where
  pub ring : List ℕ
  pub closed : Ring g ring
  pub first : ℕ
  pub second : ℕ
  pub enters_first : Entrance g ring first
  pub enters_second : Entrance g ring second
  pub apart : first ≢ second

-- a is the sole predecessor of j: an edge leads from a to j, no edge leads there from elsewhere, and a is another node than j
pub record SolePred (g : Graph) (a j : ℕ) : Type 0 where
  pub edge : g.edge a j ≡ true
  pub other : a ≢ j
  pub sole : (x : ℕ) → g.edge x j ≡ true → x ≡ a

-- the fold of a: the edge from a to itself goes, if it is there, and all else stays
abbrev pub folded : Graph → ℕ → Graph
folded g a = record g { edge = λ x y. g.edge x y && not (eqb x a && eqb y a) }

-- the absorbing of j by a: j and its edges go, each edge from j to a node k becomes one from a to k, and all else stays
abbrev pub absorbed : Graph → ℕ → ℕ → Graph
absorbed g a j = record {
  count = g.count;
  live = λ x. g.live x && not (eqb x j);
  edge = λ x y. not (eqb x j || eqb y j) && (g.edge x y || (eqb x a && g.edge j y));
}

-- h is the head of a ring: its sole entrance
pub record HasHead (g : Graph) (ring : List ℕ) (h : ℕ) : Type 0 where
  pub closed : Ring g ring
  pub enters : Entrance g ring h
  pub sole : (e : ℕ) → Entrance g ring e → e ≡ h

-- h is the head of a ring that passes b
abbrev pub IsHeadOver : Graph → ℕ → ℕ → Type 0
IsHeadOver g h b = (ring : List ℕ) × HasHead g ring h × In b ring

-- how many numbers below n pass the test
abbrev pub count_below : ℕ → (ℕ → Bool) → ℕ
count_below zero p = 0
count_below (suc n) p = count_below n p + cond (p n) 1 0

-- n is the depth of b: the number of heads of rings that pass b, which the test p tells
abbrev pub HasDepth : Graph → ℕ → ℕ → Type 0
HasDepth g b n =
    (p : ℕ → Bool) × ((h : ℕ) → (p h ≡ true) ↔ IsHeadOver g h b) × (n ≡ count_below g.count p)
