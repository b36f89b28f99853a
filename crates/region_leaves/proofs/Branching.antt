-- The list of all edges states the branches of the blocks.
use Rattle.std.proofs.Common.{◌≡◌, ◌⊎◌, ◌↔◌, inl, inr, ℕ, zero, suc, ◌+◌, ◌*◌, ◌<◌, ◌≤◌, true, eqb, ◌&&◌, List, [], ◌∷◌, ◌++◌, length, get_or, map, take, refl, sym, ap, subst, ◌∙◌, arith, length-append, length-take, append_assoc, append-nil, eq-eqb}
use Rattle.std.proofs.lemmas.Bool.{or_cases, or_left, or_right, and_parts, and_from, eqb-true, false≢true}
use Rattle.std.proofs.lemmas.List.{take_more}
use Rattle.std.specs.List.{slice_get}
use Rattle.dxil_form.specs.declared.block.Block.{Block}
use Rattle.dxil_form.specs.declared.block.Term.{Term}
use Rattle.dxil_form.specs.declared.block.Term.TheVariants.{Ret, Unreachable, Go, If, Switch}
use Rattle.dxil_form.specs.Branches.{targets, targets_in, has}
use Rattle.dxil_form.specs.Sound.{cases_in, cases_of}
use Rattle.flow_graph.specs.declared.linked.Edge.{Edge}
use Rattle.flow_graph.specs.Given.{states, edge_at, Within}
use Rattle.region_leaves.specs.Edges.{edges_to, edges_on}

edges_append : (a : ℕ) (xs ys : List Block) → edges_on a (xs ++ ys) ≡ edges_on a xs ++ edges_on (a + length xs) ys
edges_append a [] ys = let q : a ≡ a + 0 = omega arith in ap (λ (n : ℕ). edges_on n ys) q
edges_append a (x ∷ xs) ys =
    let q : suc a + length xs ≡ a + suc (length xs) = omega arith in
    ap (λ (l : List Edge). edges_to a (targets x.term) ++ l) (edges_append (suc a) xs ys ∙ ap (λ (n : ℕ). edges_on (suc a) xs ++ edges_on n ys) q)
    ∙ sym (append_assoc (edges_to a (targets x.term)) (edges_on (suc a) xs) (edges_on (a + suc (length xs)) ys))

pub edges_step : (xs : List Block) (i : ℕ) (d : Block) → i < length xs → edges_on 0 (take (i + 1) xs) ≡ edges_on 0 (take i xs) ++ edges_to i (targets (get_or xs i d).term)
edges_step xs i d l =
    let n : 0 + length (take i xs) ≡ i = omega (arith, length-take i xs) in
    ap (edges_on 0) (take_more xs i d l) ∙ edges_append 0 (take i xs) (get_or xs i d ∷ [])
    ∙ ap (λ (k : ℕ). edges_on 0 (take i xs) ++ (edges_to k (targets (get_or xs i d).term) ++ [])) n
    ∙ ap (λ (l : List Edge). edges_on 0 (take i xs) ++ l) (append-nil (edges_to i (targets (get_or xs i d).term)))

-- ---- which edges the list states

append_cases : (xs ys : List Edge) (x y : ℕ) → states (xs ++ ys) x y ≡ true → (states xs x y ≡ true) ⊎ (states ys x y ≡ true)
append_cases [] ys x y t = inr t
append_cases (e ∷ es) ys x y t = elim (or_cases (eqb e.from x && eqb e.to y) (states (es ++ ys) x y) t) [
  | inl h ↦ inl (or_left _ (states es x y) h)
  | inr h ↦ elim (append_cases es ys x y h) [ inl k ↦ inl (or_right (eqb e.from x && eqb e.to y) _ k) | inr k ↦ inr k ]
]

append_left : (xs ys : List Edge) (x y : ℕ) → states xs x y ≡ true → states (xs ++ ys) x y ≡ true
append_left [] ys x y t = absurd (false≢true t)
append_left (e ∷ es) ys x y t = elim (or_cases (eqb e.from x && eqb e.to y) (states es x y) t) [
  | inl h ↦ or_left _ (states (es ++ ys) x y) h
  | inr h ↦ or_right (eqb e.from x && eqb e.to y) _ (append_left es ys x y h)
]

append_right : (xs ys : List Edge) (x y : ℕ) → states ys x y ≡ true → states (xs ++ ys) x y ≡ true
append_right [] ys x y t = t
append_right (e ∷ es) ys x y t = or_right (eqb e.from x && eqb e.to y) _ (append_right es ys x y t)

to_states : (a : ℕ) (ks : List ℕ) (x y : ℕ) → states (edges_to a ks) x y ≡ true → (a ≡ x) × (has y ks ≡ true)
to_states a [] x y t = absurd (false≢true t)
to_states a (k ∷ ks) x y t = elim (or_cases (eqb a x && eqb k y) (states (edges_to a ks) x y) t) [
  | inl h ↦ (let (q, o) = and_parts (eqb a x) (eqb k y) h in (eqb-true a x q, or_left _ (has y ks) (eq-eqb y k (sym (eqb-true k y o)))))
  | inr h ↦ (let (q, o) = to_states a ks x y h in (q, or_right (eqb y k) _ o))
]

states_to : (a : ℕ) (ks : List ℕ) (y : ℕ) → has y ks ≡ true → states (edges_to a ks) a y ≡ true
states_to a [] y t = absurd (false≢true t)
states_to a (k ∷ ks) y t = elim (or_cases (eqb y k) (has y ks) t) [
  | inl h ↦ or_left _ (states (edges_to a ks) a y) (and_from (eqb a a) (eqb k y) (eq-eqb a a refl) (eq-eqb k y (sym (eqb-true y k h))))
  | inr h ↦ or_right (eqb a a && eqb k y) _ (states_to a ks y h)
]

on_states : (a : ℕ) (bs : List Block) (x y : ℕ) → states (edges_on a bs) x y ≡ true → (k : ℕ) × (x ≡ a + k) × (has y (targets_in (slice_get bs k)) ≡ true)
on_states a [] x y t = absurd (false≢true t)
on_states a (b ∷ bs) x y t = elim (append_cases (edges_to a (targets b.term)) (edges_on (suc a) bs) x y t) [
  | inl h ↦ (let (q, o) = to_states a (targets b.term) x y h in (0, omega arith, o))
  | inr h ↦ (let (k, q, o) = on_states (suc a) bs x y h in (suc k, omega arith, o))
]

states_on : (a : ℕ) (bs : List Block) (k y : ℕ) → has y (targets_in (slice_get bs k)) ≡ true → states (edges_on a bs) (a + k) y ≡ true
states_on a [] k y t = absurd (false≢true t)
states_on a (b ∷ bs) zero y t =
    let q : a ≡ a + 0 = omega arith in
    let P : ℕ → Type 0 = λ n. states (edges_on a (b ∷ bs)) n y ≡ true in
    subst P q (append_left (edges_to a (targets b.term)) (edges_on (suc a) bs) a y (states_to a (targets b.term) y t))
states_on a (b ∷ bs) (suc k) y t =
    let q : suc a + k ≡ a + suc k = omega arith in
    let P : ℕ → Type 0 = λ n. states (edges_on a (b ∷ bs)) n y ≡ true in
    subst P q (append_right (edges_to a (targets b.term)) (edges_on (suc a) bs) (suc a + k) y (states_on (suc a) bs k y t))

pub states_branches : (bs : List Block) (x y : ℕ) → (states (edges_on 0 bs) x y ≡ true) ↔ (has y (targets_in (slice_get bs x)) ≡ true)
states_branches bs x y = (
  λ t. (let (k, q, o) = on_states 0 bs x y t in
      let e : k ≡ x = omega arith in
      let P : ℕ → Type 0 = λ n. has y (targets_in (slice_get bs n)) ≡ true in subst P e o),
  λ t. (let e : 0 + x ≡ x = omega arith in
      let P : ℕ → Type 0 = λ n. states (edges_on 0 bs) n y ≡ true in subst P e (states_on 0 bs x y t)),
)

stated : (es : List Edge) (i : ℕ) → i < length es → states es (edge_at es i).from (edge_at es i).to ≡ true
stated [] i l = absurd (omega arith)
stated (e ∷ es) zero l = or_left _ (states es e.from e.to) (and_from (eqb e.from e.from) (eqb e.to e.to) (eq-eqb e.from e.from refl) (eq-eqb e.to e.to refl))
stated (e ∷ es) (suc i) l = or_right _ _ (stated es i (omega arith))

pub block_inside : (bs : List Block) (x y : ℕ) → has y (targets_in (slice_get bs x)) ≡ true → x < length bs
block_inside [] x y t = absurd (false≢true t)
block_inside (b ∷ bs) zero y t = omega arith
block_inside (b ∷ bs) (suc x) y t = let l = block_inside bs x y t in omega arith

pub edges_within : (bs : List Block) (n : ℕ) → n ≡ length bs → ((x y : ℕ) → has y (targets_in (slice_get bs x)) ≡ true → y < n) → Within n (edges_on 0 bs)
edges_within bs n q inside i l =
    let es = edges_on 0 bs in
    let t = (states_branches bs (edge_at es i).from (edge_at es i).to).0 (stated es i l) in
    let m = block_inside bs (edge_at es i).from (edge_at es i).to t in
    (omega arith, inside (edge_at es i).from (edge_at es i).to t)

-- ---- how many there are

map_length : (a : ℕ) (ks : List ℕ) → length (edges_to a ks) ≡ length ks
map_length a [] = refl
map_length a (k ∷ ks) = ap suc (map_length a ks)

cases_length : (cs : List (ℕ × ℕ)) → length (map (λ (c : ℕ × ℕ). c.1) cs) ≡ length cs
cases_length [] = refl
cases_length (c ∷ cs) = ap suc (cases_length cs)

few_targets : (t : Term) → length (targets t) ≤ cases_in t + 2
few_targets Ret = omega arith
few_targets Unreachable = omega arith
few_targets (Go k) = omega arith
few_targets (If c y n) = omega arith
few_targets (Switch v d cs) = let e = cases_length cs in omega arith

pub few_edges : (a : ℕ) (bs : List Block) → length (edges_on a bs) ≤ cases_of bs + 2 * length bs
few_edges a [] = omega arith
few_edges a (b ∷ bs) =
    let rest = few_edges (suc a) bs in
    let here = few_targets b.term in
    let e = map_length a (targets b.term) in
    let f = length-append (edges_to a (targets b.term)) (edges_on (suc a) bs) in omega arith
