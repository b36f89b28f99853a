-- The nodes of blocks, and the edges between them.
use Rattle.std.proofs.Common.{◌≡◌, ◌↔◌, inl, inr, ℕ, zero, suc, ◌+◌, ◌<◌, ◌≤◌, true, eqb, ◌&&◌, List, [], ◌∷◌, ◌++◌, length, get_or, set, take, replicate, Option, Some, None, refl, sym, ap, subst, ◌∙◌, arith, eq-eqb}
use Rattle.std.proofs.lemmas.Bool.{cases_eq, or_cases, or_left, or_right, and_parts, and_from, eqb-true, false≢true}
use Rattle.std.proofs.lemmas.List.{get_or-set_same, get_or-set_other}
use Rattle.std.proofs.lemmas.Option.{none-some, same_Some, slice_get_within, slice_get-get_or, get_or_from_slice_get}
use Rattle.std.specs.List.{slice_get, filter_map}
use Rattle.std.specs.List.{cons_option}
use Rattle.std.specs.Option.{option_to_list}
use Rattle.std.proofs.lemmas.List.{take_more}
use Rattle.std.proofs.lemmas.List.Elements.{filter_map-append}
use Rattle.flow_graph.specs.declared.linked.Edge.{Edge}
use Rattle.flow_graph.specs.Given.{states, edge_at, Within}
use Rattle.region_builder.specs.Nodes.{AreNodes, between, node_edge}

pub no_nodes : (blocks : List ℕ) (nodes : List (Option ℕ)) → ((b : ℕ) → get_or nodes b None ≡ None) → AreNodes blocks 0 nodes
no_nodes blocks nodes none b i = (λ h. absurd (none-some i (sym (none b) ∙ h)), λ h. absurd (omega (arith, h.0)))

abbrev no_node : Option ℕ
no_node = None

none_there : (n b : ℕ) → get_or (replicate n no_node) b None ≡ None
none_there zero b = refl
none_there (suc n) zero = refl
none_there (suc n) (suc b) = none_there n b

pub first_nodes : (blocks : List ℕ) (n : ℕ) (nodes : List (Option ℕ)) → nodes ≡ replicate n None → AreNodes blocks 0 nodes
first_nodes blocks n nodes q = no_nodes blocks nodes (λ b. ap (λ (z : List (Option ℕ)). get_or z b None) q ∙ none_there n b)

pub more_nodes : (blocks : List ℕ) (n : ℕ) (nodes : List (Option ℕ)) → n < length blocks
    → ((i j : ℕ) → i < j → j < length blocks → get_or blocks i 0 < get_or blocks j 0) → get_or blocks n 0 < length nodes
    → AreNodes blocks n nodes → AreNodes blocks (n + 1) (set nodes (get_or blocks n 0) (Some n))
more_nodes blocks n nodes l rising inside are b i = elim (cases_eq b (get_or blocks n 0)) [
  | inl q ↦ (
      let P : ℕ → Type 0 = λ y. get_or (set nodes (get_or blocks n 0) (Some n)) y None ≡ Some n in
      let here : get_or (set nodes (get_or blocks n 0) (Some n)) b None ≡ Some n = subst P (sym q) (get_or-set_same nodes (get_or blocks n 0) (Some n) None inside) in
      let at : slice_get blocks n ≡ Some b = slice_get-get_or blocks n 0 l ∙ ap (λ (y : ℕ). Some y) (sym q) in (
        λ h. (let e : n ≡ i = same_Some n i (sym here ∙ h) in let Q : ℕ → Type 0 = λ y. slice_get blocks y ≡ Some b in (omega arith, subst Q e at)),
        λ h. here ∙ ap (λ (y : ℕ). Some y) (own q h),
      ))
  | inr d ↦ (
      let e : get_or (set nodes (get_or blocks n 0) (Some n)) b None ≡ get_or nodes b None = get_or-set_other nodes (get_or blocks n 0) b (Some n) None d in (
        λ h. (let (m, s) = (are b i).0 (sym e ∙ h) in (omega arith, s)),
        λ h. e ∙ (are b i).1 (below d h, h.1),
      ))
]
  where
    below : (b ≡ get_or blocks n 0 → ⊥) → (i < n + 1) × (slice_get blocks i ≡ Some b) → i < n
    below d (m, s) = elim (cases_eq i n) [
      | inl q ↦ (let e = get_or_from_slice_get blocks i b 0 s in absurd (d (sym e ∙ ap (λ (y : ℕ). get_or blocks y 0) q)))
      | inr o ↦ omega arith
    ]

    own : b ≡ get_or blocks n 0 → (i < n + 1) × (slice_get blocks i ≡ Some b) → n ≡ i
    own q (m, s) = elim (cases_eq n i) [
      | inl e ↦ e
      | inr o ↦ (let e = get_or_from_slice_get blocks i b 0 s in let r = rising i n (omega arith) l in absurd (omega arith))
    ]

-- the edges between nodes are those of the blocks
abbrev Found : List (Option ℕ) → List Edge → ℕ → ℕ → Type 0
Found nodes es i j = (b : ℕ) × (k : ℕ) × (get_or nodes b None ≡ Some i) × (get_or nodes k None ≡ Some j) × (states es b k ≡ true)

found_behind : (nodes : List (Option ℕ)) (e : Edge) (es : List Edge) (i j : ℕ) → Found nodes es i j → Found nodes (e ∷ es) i j
found_behind nodes e es i j (b, k, x, y, z) = (b, k, x, y, or_right (eqb e.from b && eqb e.to k) _ z)

renamed_states : (nodes : List (Option ℕ)) (es : List Edge) (i j : ℕ) → states (filter_map (node_edge nodes) es) i j ≡ true → Found nodes es i j
renamed_states nodes [] i j t = absurd (false≢true t)
renamed_states nodes (e ∷ es) i j t = go (get_or nodes e.from None) (get_or nodes e.to None) refl refl t (renamed_states nodes es i j)
  where
    go : (x y : Option ℕ) → get_or nodes e.from None ≡ x → get_or nodes e.to None ≡ y
        → states (cons_option (between x y) (filter_map (node_edge nodes) es)) i j ≡ true
        → (states (filter_map (node_edge nodes) es) i j ≡ true → Found nodes es i j) → Found nodes (e ∷ es) i j
    go None y p q h rest = found_behind nodes e es i j (rest h)
    go (Some f) None p q h rest = found_behind nodes e es i j (rest h)
    go (Some f) (Some d) p q h rest = elim (or_cases (eqb f i && eqb d j) (states (filter_map (node_edge nodes) es) i j) h) [
      | inl s ↦ (let (u, v) = and_parts (eqb f i) (eqb d j) s in (
        e.from,
        e.to,
        p ∙ ap (λ (z : ℕ). Some z) (eqb-true f i u),
        q ∙ ap (λ (z : ℕ). Some z) (eqb-true d j v),
        or_left _ (states es e.from e.to) (and_from (eqb e.from e.from) (eqb e.to e.to) (eq-eqb e.from e.from refl) (eq-eqb e.to e.to refl)),
      ))
      | inr s ↦ found_behind nodes e es i j (rest s)
    ]

states_renamed : (nodes : List (Option ℕ)) (es : List Edge) (i j b k : ℕ) → get_or nodes b None ≡ Some i → get_or nodes k None ≡ Some j → states es b k ≡ true
    → states (filter_map (node_edge nodes) es) i j ≡ true
states_renamed nodes [] i j b k x y t = absurd (false≢true t)
states_renamed nodes (e ∷ es) i j b k x y t = elim (or_cases (eqb e.from b && eqb e.to k) (states es b k) t) [
  | inl s ↦ (let (u, v) = and_parts (eqb e.from b) (eqb e.to k) s in
      here (get_or nodes e.from None) (get_or nodes e.to None)
      (ap (λ (z : ℕ). get_or nodes z None) (eqb-true e.from b u) ∙ x) (ap (λ (z : ℕ). get_or nodes z None) (eqb-true e.to k v) ∙ y))
  | inr s ↦ behind (get_or nodes e.from None) (get_or nodes e.to None) (states_renamed nodes es i j b k x y s)
]
  where
    here : (p q : Option ℕ) → p ≡ Some i → q ≡ Some j → states (cons_option (between p q) (filter_map (node_edge nodes) es)) i j ≡ true
    here None q u v = absurd (none-some i u)
    here (Some f) None u v = absurd (none-some j v)
    here (Some f) (Some d) u v = or_left _ (states (filter_map (node_edge nodes) es) i j) (and_from (eqb f i) (eqb d j) (eq-eqb f i (same_Some f i u)) (eq-eqb d j (same_Some d j v)))

    behind : (p q : Option ℕ) → states (filter_map (node_edge nodes) es) i j ≡ true → states (cons_option (between p q) (filter_map (node_edge nodes) es)) i j ≡ true
    behind None q h = h
    behind (Some f) None h = h
    behind (Some f) (Some d) h = or_right (eqb f i && eqb d j) _ h

pub renamed_edges : (blocks : List ℕ) (nodes : List (Option ℕ)) (es : List Edge) → AreNodes blocks (length blocks) nodes → (i j : ℕ)
    → (states (filter_map (node_edge nodes) es) i j ≡ true) ↔ ((b : ℕ) × (k : ℕ) × (slice_get blocks i ≡ Some b) × (slice_get blocks j ≡ Some k) × (states es b k ≡ true))
renamed_edges blocks nodes es are i j = (
  λ t. (let (b, k, x, y, z) = renamed_states nodes es i j t in (b, k, ((are b i).0 x).1, ((are k j).0 y).1, z)),
  λ h. (let (b, k, x, y, z) = h in
      states_renamed nodes es i j b k ((are b i).1 (slice_get_within blocks i b x, x)) ((are k j).1 (slice_get_within blocks j k y, y)) z),
)

pub renamed_few : (nodes : List (Option ℕ)) (es : List Edge) → length (filter_map (node_edge nodes) es) ≤ length es
renamed_few nodes [] = omega arith
renamed_few nodes (e ∷ es) = go (node_edge nodes e) (renamed_few nodes es)
  where
    go : (o : Option Edge) → length (filter_map (node_edge nodes) es) ≤ length es → length (cons_option o (filter_map (node_edge nodes) es)) ≤ length (e ∷ es)
    go None h = omega arith
    go (Some x) h = omega arith

stated : (es : List Edge) (i : ℕ) → i < length es → states es (edge_at es i).from (edge_at es i).to ≡ true
stated [] i l = absurd (omega arith)
stated (e ∷ es) zero l = or_left _ (states es e.from e.to) (and_from (eqb e.from e.from) (eqb e.to e.to) (eq-eqb e.from e.from refl) (eq-eqb e.to e.to refl))
stated (e ∷ es) (suc i) l = or_right _ _ (stated es i (omega arith))

pub renamed_within : (blocks : List ℕ) (nodes : List (Option ℕ)) (es : List Edge) → AreNodes blocks (length blocks) nodes → Within (length blocks) (filter_map (node_edge nodes) es)
renamed_within blocks nodes es are i l =
    let renamed = filter_map (node_edge nodes) es in
    let (b, k, x, y, z) = (renamed_edges blocks nodes es are (edge_at renamed i).from (edge_at renamed i).to).0 (stated renamed i l) in
    (slice_get_within blocks (edge_at renamed i).from b x, slice_get_within blocks (edge_at renamed i).to k y)

pub renamed_step : (nodes : List (Option ℕ)) (es : List Edge) (n : ℕ) (d : Edge) → n < length es
    → filter_map (node_edge nodes) (take (n + 1) es) ≡ filter_map (node_edge nodes) (take n es) ++ option_to_list (node_edge nodes (get_or es n d))
renamed_step nodes es n d l =
    ap (filter_map (node_edge nodes)) (take_more es n d l) ∙ filter_map-append (node_edge nodes) (take n es) (get_or es n d ∷ [])
    ∙ ap (λ (z : List Edge). filter_map (node_edge nodes) (take n es) ++ z) (one (node_edge nodes (get_or es n d)))
  where
    one : (o : Option Edge) → cons_option o [] ≡ option_to_list o
    one None = refl
    one (Some x) = refl
