-- Each label stands once in a module, and the site of each leaf begins its block.
use Rattle.std.proofs.Common.{◌≡◌, inl, inr, ⊎_elim, ℕ, zero, suc, ◌+◌, ◌<◌, ◌≤◌, Bool, true, false, List, [], ◌∷◌, ◌++◌, length, Option, Some, None, refl, sym, ap, ◌∙◌, subst, arith, ltb-true}
use Rattle.std.specs.Prelude.{◌^◌, slice_get, nat_eq, nat_lt, if◌then◌else◌, ◌&&◌, ◌||◌}
use Rattle.std.specs.List.{list_any}
use Rattle.dxil_form.specs.Graphs.{In}
use Rattle.dxil_form.specs.declared.program.Program.{Program}
use Rattle.dxil_form.specs.declared.region.Region.{Region}
use Rattle.dxil_form.specs.declared.region.Region.TheVariants as region
use Rattle.dxil_form.specs.Wired.{Wired}
use Rattle.spv_form.specs.declared.module.Inst.{Inst}
use Rattle.spv_form.specs.declared.module.Module.{Module}
use Rattle.spv_form.specs.declared.module.Version.{Version}
use Rattle.spirv_meaning.specs.Names.{is_some_at, label_of, named_by, same_words, is_named, is_label_of, only_place, block_name, site, number_in, begun_at}
use Rattle.spirv_meaning.specs.Laws.{IsRising}
use Rattle.spirv_meaning.specs.Bindings.{Bindings}
use Rattle.spirv_meaning.proofs.Numbers.{name_tells}
use Rattle.spirv_meaning.proofs.Sites.{sites_begin, sites_rise}
use Rattle.spirv_code.specs.Plans.{Plan, inst, label, site_label, first_label, result, slots_from, table_from, results_from, context_of}
use Rattle.spirv_code.specs.Leaves.{followed}
use Rattle.spirv_code.specs.Exits.{label_inst}
use Rattle.spirv_code.specs.Trees.{label_at, begins_plainly, place_of, root_of}
use Rattle.spirv_code.specs.Rows.{onwards, row_code}
use Rattle.spirv_code.specs.Frame.{name_of, names, head, function_types, opening, opening_label, frame, closing, module_of}
use Rattle.frame_facts.specs.Inner.{Owns}
use Rattle.frame_facts.proofs.Searches.{Each, each_weaker, if_not, if_so, eq_same, eq_told, inj}
use Rattle.frame_facts.proofs.Declarations.{IsQuiet, IsRemark, declarations_quiet, slots_quiet, decorations_remarks}
use Rattle.frame_facts.proofs.InnerRows.{IsLabelOf}
use Rattle.frame_facts.proofs.Spread.{ids, body, ending, decs, decls, variables, names_each, label_below}
use Rattle.frame_facts.proofs.Labels.{Labelled, unlabelled, at_own, in_region, labelled, naming, IsName}
use Rattle.frame_facts.proofs.Sites.{HasSite, site_has, begins_none}
use Rattle.frame_facts.proofs.Counting.{bit, single, count, count_append, count_followed, one_place, times}
use Rattle.frame_facts.proofs.CountingRows.{row_count}
use Rattle.frame_facts.proofs.Wiring.{root_owned, root_once}

-- ---- searches

some_passes : (test : Inst → Bool) (insts : List Inst) → list_any test insts ≡ true → (j : ℕ) × ((i : Inst) × (slice_get insts j ≡ Some i) × (test i ≡ true))
some_passes test [] e = absurd (cc)
some_passes test (i ∷ is) e = by_test (λ e. some_passes test is e) (test i) refl e
  where
    by_test : (list_any test is ≡ true → (j : ℕ) × ((x : Inst) × (slice_get is j ≡ Some x) × (test x ≡ true))) → (t : Bool) → test i ≡ t → (t || list_any test is) ≡ true → (j : ℕ) × ((x : Inst) × (slice_get (i ∷ is) j ≡ Some x) × (test x ≡ true))
    by_test again true p e = (0, (i, refl, p))
    by_test again false p e =
        let rest = again e in
        (suc rest.0, rest.1)

only_at : (test : Inst → Bool) (n : ℕ) (xs : List Inst) (k : ℕ) (i : Inst) → slice_get xs k ≡ Some i → test i ≡ true → ((j : ℕ) (x : Inst) → slice_get xs j ≡ Some x → test x ≡ true → j ≡ k) → only_place test n xs ≡ Some (n + k)
only_at test n [] k i e t h = absurd (cc)
only_at test n (y ∷ ys) zero i e t h =
    let same : n ≡ n + 0 = omega arith in
    if_so (test y) (ap test (inj e) ∙ t) _ _ ∙ by_any (list_any test ys) refl ∙ ap Some same
  where
    by_any : (b : Bool) → list_any test ys ≡ b → (if b then None else Some n) ≡ Some n
    by_any true f =
        let other = some_passes test ys f in
        let clash = h (suc other.0) other.1.0 other.1.1 other.1.2 in
        absurd (omega (arith, clash))
    by_any false f = refl
only_at test n (y ∷ ys) (suc k) i e t h =
    by_test (only_at test (suc n) ys k i e t (λ j x at p. let e = h (suc j) x at p in omega (arith, e))) (test y) refl
  where
    by_test : only_place test (suc n) ys ≡ Some (suc n + k) → (b : Bool) → test y ≡ b → (if b then (if list_any test ys then None else Some n) else only_place test (suc n) ys) ≡ Some (n + suc k)
    by_test again true f =
        let clash = h 0 y refl f in
        absurd (omega (arith, clash))
    by_test again false f =
        let same : suc n + k ≡ n + suc k = omega arith in
        again ∙ ap Some same

any_front : (test : Inst → Bool) (a b : List Inst) → list_any test a ≡ true → list_any test (a ++ b) ≡ true
any_front test [] b e = absurd (cc)
any_front test (i ∷ a) b e = by_test (test i) e (any_front test a b)
  where
    by_test : (t : Bool) → (t || list_any test a) ≡ true → (list_any test a ≡ true → list_any test (a ++ b) ≡ true) → (t || list_any test (a ++ b)) ≡ true
    by_test true e ih = refl
    by_test false e ih = ih e

any_back : (test : Inst → Bool) (a b : List Inst) → list_any test b ≡ true → list_any test (a ++ b) ≡ true
any_back test [] b e = e
any_back test (i ∷ a) b e = or_right (test i) (list_any test (a ++ b)) (any_back test a b e)
  where
    or_right : (x y : Bool) → y ≡ true → (x || y) ≡ true
    or_right true y e = refl
    or_right false y e = e

words_self : (xs : List ℕ) → same_words xs xs ≡ true
words_self [] = refl
words_self (x ∷ xs) = ap (λ b. b && same_words xs xs) (eq_same x) ∙ words_self xs

words_told : (xs ys : List ℕ) → same_words xs ys ≡ true → xs ≡ ys
words_told [] [] e = refl
words_told [] (y ∷ ys) e = absurd (cc)
words_told (x ∷ xs) [] e = absurd (cc)
words_told (x ∷ xs) (y ∷ ys) e = by_test (words_told xs ys) (nat_eq x y) refl e
  where
    by_test : (same_words xs ys ≡ true → xs ≡ ys) → (b : Bool) → nat_eq x y ≡ b → (b && same_words xs ys) ≡ true → x ∷ xs ≡ y ∷ ys
    by_test again true f e = ap (λ n. n ∷ xs) (eq_told x y f) ∙ ap (λ ws. y ∷ ws) (again e)
    by_test again false f e = absurd (cc)

-- a rising list whose members are all one number
one_member : (xs : List ℕ) (b : ℕ) → In b xs → ((k : ℕ) → In k xs → k ≡ b) → IsRising xs → xs ≡ b ∷ []
one_member [] b h all rises = absurd h
one_member (x ∷ xs) b h all rises =
    let first = all x (inl refl) in
    ap (λ n. n ∷ xs) first ∙ ap (λ ys. b ∷ ys) (rest xs rises.0 (λ k there. all k (inr there)))
  where
    rest : (ys : List ℕ) → ((y : ℕ) → In y ys → x < y) → ((k : ℕ) → In k ys → k ≡ b) → ys ≡ []
    rest [] less same = refl
    rest (y ∷ ys) less same =
        let low = less y (inl refl) in
        let one = all x (inl refl) in
        let two = same y (inl refl) in
        absurd (omega (arith, low, one, two))

-- no label is counted where none stands
count_none : (id : ℕ) (xs : List Inst) → Each (λ i. label_of i ≡ None) xs → count id xs ≡ 0
count_none id [] h = refl
count_none id (i ∷ xs) h =
    let here : bit (is_some_at (label_of i) id) ≡ 0 = ap (λ o. bit (is_some_at o id)) h.0 in
    let rest = count_none id xs h.1 in
    let e : bit (is_some_at (label_of i) id) + count id xs ≡ 0 = omega (arith, here, rest) in
    e

module _ (p : Program) (list : List Region) (at : Bindings) (v : Version) (plan : Plan) (w : Wired p list) (regions : plan.regions ≡ length list) where
  abbrev m : Module
  m = module_of p list at v plan

  abbrev Mine : ℕ → Type 0
  Mine r = r < plan.regions

  owned : Owns Mine (root_of list)
  owned = subst (λ n. Owns (λ r. r < n) (root_of list)) (sym regions) (root_owned p list w)

  -- ---- a label of a region stands once

  frame_count : (id : ℕ) → count id (frame p list at v plan) ≡ single (opening_label (root_of list)) id
  frame_count id =
      let vars = count_none id (variables p list at v plan) (each_weaker IsQuiet (λ i. label_of i ≡ None) (λ i q. q.no_label) (variables p list at v plan) (slots_quiet (ids p list at v plan) (slots_from plan) plan.slots)) in
      let declared = count_none id (decls p list at v plan) (each_weaker IsQuiet (λ i. label_of i ≡ None) (λ i q. q.no_label) (decls p list at v plan) (declarations_quiet p (ids p list at v plan) (table_from plan) plan.table)) in
      let decorated = count_none id (decs p list at v plan) (each_weaker IsRemark (λ i. label_of i ≡ None) (λ i q. q.no_label) (decs p list at v plan) (decorations_remarks p at (table_from plan) plan.table)) in
      let named = count_none id (names 0 list) (names_each p list at v plan 0 list (λ i. label_of i ≡ None) (λ operands. refl)) in
      let four = count_append id (decls p list at v plan) (opening plan (root_of list)) in
      let three = count_append id (decs p list at v plan) (function_types ++ (decls p list at v plan ++ opening plan (root_of list))) in
      let two = count_append id (names 0 list) (decs p list at v plan ++ (function_types ++ (decls p list at v plan ++ opening plan (root_of list)))) in
      let whole : count id (frame p list at v plan) ≡ single (opening_label (root_of list)) id = omega (arith, two, three, four, named, decorated, declared, vars) in
      whole

  label_few : (id : ℕ) → IsLabelOf Mine id → count id m.insts ≤ 1
  label_few id h =
      let n : ℕ = length (frame p list at v plan) in
      let low = label_below p list at v plan id h in
      let first : id < results_from plan = omega (arith, low) in
      let top = count_append id (frame p list at v plan) (ending p list at v plan) in
      let end = count_append id (body p list at v plan) closing in
      let before = frame_count id in
      let once = root_once p list w h.region in
      let bounded = row_count (context_of p plan) h.region h.kind id h.few h.is first Mine (root_of list) owned in
      let plain = bounded n in
      let behind = bounded (n + length (onwards (label_at (root_of list)))) in
      let follow = count_followed id n (onwards (label_at (root_of list))) (λ q. row_code (context_of p plan) q (root_of list)) in
      by_test (begins_plainly (root_of list)) refl top end before once plain behind follow
    where
      by_test : (b : Bool) → begins_plainly (root_of list) ≡ b → count id m.insts ≡ count id (frame p list at v plan) + count id (ending p list at v plan) → count id (ending p list at v plan) ≡ count id (body p list at v plan) + count id closing → count id (frame p list at v plan) ≡ single (opening_label (root_of list)) id → times h.region (root_of list) ≤ 1 → count id (row_code (context_of p plan) (length (frame p list at v plan)) (root_of list)) + single (label_at (root_of list)) id + single (label (place_of (root_of list)) 6) id + single (first_label (place_of (root_of list))) id ≤ times h.region (root_of list) → count id (row_code (context_of p plan) (length (frame p list at v plan) + length (onwards (label_at (root_of list)))) (root_of list)) + single (label_at (root_of list)) id + single (label (place_of (root_of list)) 6) id + single (first_label (place_of (root_of list))) id ≤ times h.region (root_of list) → count id (followed (length (frame p list at v plan)) (onwards (label_at (root_of list))) (λ q. row_code (context_of p plan) q (root_of list))) ≡ count id (onwards (label_at (root_of list))) + count id (row_code (context_of p plan) (length (frame p list at v plan) + length (onwards (label_at (root_of list)))) (root_of list)) → count id m.insts ≤ 1
      by_test true e top end before once plain behind follow =
          let opens : opening_label (root_of list) ≡ label_at (root_of list) = if_so (begins_plainly (root_of list)) e _ _ in
          let code : body p list at v plan ≡ row_code (context_of p plan) (length (frame p list at v plan)) (root_of list) = if_so (begins_plainly (root_of list)) e _ _ in
          let one = ap (λ x. single x id) opens in
          let two = ap (count id) code in
          omega (arith, top, end, before, once, plain, one, two)
      by_test false e top end before once plain behind follow =
          let opens : opening_label (root_of list) ≡ first_label (place_of (root_of list)) = if_not (begins_plainly (root_of list)) e _ _ in
          let code : body p list at v plan ≡ followed (length (frame p list at v plan)) (onwards (label_at (root_of list))) (λ q. row_code (context_of p plan) q (root_of list)) = if_not (begins_plainly (root_of list)) e _ _ in
          let one = ap (λ x. single x id) opens in
          let two = ap (count id) code in
          omega (arith, top, end, before, once, behind, follow, one, two)

  pub once : (j k id : ℕ) (x y : Inst) → slice_get m.insts j ≡ Some x → slice_get m.insts k ≡ Some y → label_of x ≡ Some id → label_of y ≡ Some id → j ≡ k
  once j k id x y ex ey hx hy = both (labelled p list at v plan Mine owned j x ex) (labelled p list at v plan Mine owned k y ey)
    where
      both : Labelled (context_of p plan) Mine j x → Labelled (context_of p plan) Mine k y → j ≡ k
      both (unlabelled none) b = absurd (cc)
      both (at_own a) (unlabelled none) = absurd (cc)
      both (in_region i h a) (unlabelled none) = absurd (cc)
      both (at_own a) (at_own b) =
          let one : id ≡ result (context_of p plan) j = inj (sym hx ∙ a) in
          let two : id ≡ result (context_of p plan) k = inj (sym hy ∙ b) in
          omega (arith, one, two)
      both (at_own a) (in_region i h b) =
          let one : id ≡ result (context_of p plan) j = inj (sym hx ∙ a) in
          let two : id ≡ i = inj (sym hy ∙ ap label_of b) in
          let low = label_below p list at v plan i h in
          absurd (omega (arith, one, two, low))
      both (in_region i h a) (at_own b) =
          let one : id ≡ i = inj (sym hx ∙ ap label_of a) in
          let two : id ≡ result (context_of p plan) k = inj (sym hy ∙ b) in
          let low = label_below p list at v plan i h in
          absurd (omega (arith, one, two, low))
      both (in_region i h a) (in_region i' h' b) =
          let one : i ≡ id = inj (sym (ap label_of a) ∙ hx) in
          one_place id m.insts (subst (λ n. count n m.insts ≤ 1) one (label_few i h)) j k x y ex ey hx hy

  -- ---- which block begins at a label

  -- the leaf that a name tells
  pub record Named (k : ℕ) (id : ℕ) : Type 0 where
    pub place : ℕ
    pub block : ℕ
    pub leaf : slice_get list place ≡ Some (region.Leaf block)
    pub is : id ≡ site_label place
    pub text : block_name block ≡ block_name k

  name_told : (k id j : ℕ) (name : Inst) → slice_get m.insts j ≡ Some name → named_by (block_name k) name ≡ Some id → Named k id
  name_told k id j name e names_it = ⊎_elim (λ other. absurd (clash other)) (λ h. told h) (naming p list at v plan Mine owned j name e)
    where
      clash : nat_eq name.opcode 5 ≡ false → ⊥
      clash e =
          let none : named_by (block_name k) name ≡ None = if_not (nat_eq name.opcode 5) e _ _ in
          absurd (cc)

      told : IsName list name → Named k id
      told h = by_words (same_words (block_name h.block) (block_name k)) refl (sym (ap (named_by (block_name k)) h.is) ∙ names_it)
        where
          by_words : (b : Bool) → same_words (block_name h.block) (block_name k) ≡ b → (if b then Some (site_label h.place) else None) ≡ Some id → Named k id
          by_words true f e =
              record { place = h.place; block = h.block; leaf = h.leaf; is = sym (inj e); text = words_told (block_name h.block) (block_name k) f }
          by_words false f e = absurd (cc)

  same_block : (a b : ℕ) → a < 2 ^ 32 → b < 2 ^ 32 → block_name a ≡ block_name b → a ≡ b
  same_block a b la lb e = sym (name_tells a la) ∙ ap (λ ws. number_in ws 0) e ∙ name_tells b lb

  pub others : (r kind place : ℕ) → 1 ≤ kind → kind ≤ 7 → slice_get m.insts place ≡ Some (label_inst (label r kind)) → begun_at m place ≡ []
  others r kind place low high e =
      begins_none m place (λ k h. clash h (name_told k h.id h.place h.name h.named h.names_it))
    where
      clash : {k : ℕ} → (h : HasSite m k place) → Named k h.id → ⊥
      clash h x =
          let same : label_of h.label_there ≡ Some (label r kind) = ap label_of (inj (sym h.stands ∙ e)) in
          let id : h.id ≡ label r kind = inj (sym h.label_is ∙ same) in
          omega (arith, id, x.is, low, high)

  module _ (few : (r b : ℕ) → slice_get list r ≡ Some (region.Leaf b) → b < 2 ^ 32) where
    name_stands : (k : ℕ) (xs : List Region) (j b : ℕ) → slice_get xs j ≡ Some (region.Leaf b) → list_any (λ i. is_some_at (named_by (block_name b) i) (site_label (k + j))) (names k xs) ≡ true
    name_stands k [] j b e = absurd (cc)
    name_stands k (x ∷ xs) zero b e =
        let same : k ≡ k + 0 = omega arith in
        subst (λ n. list_any (λ i. is_some_at (named_by (block_name b) i) (site_label n)) (names k (x ∷ xs)) ≡ true) same (any_front (λ i. is_some_at (named_by (block_name b) i) (site_label k)) (name_of k x) (names (suc k) xs) (here x (inj e)))
      where
        found : named_by (block_name b) (inst 5 (site_label k ∷ block_name b)) ≡ Some (site_label k)
        found = if_so (same_words (block_name b) (block_name b)) (words_self (block_name b)) _ _

        here : (x : Region) → x ≡ region.Leaf b → list_any (λ i. is_some_at (named_by (block_name b) i) (site_label k)) (name_of k x) ≡ true
        here x e =
            ap (λ y. list_any (λ i. is_some_at (named_by (block_name b) i) (site_label k)) (name_of k y)) e ∙ ap (λ o. is_some_at o (site_label k) || false) found ∙ ap (λ t. t || false) (eq_same (site_label k))
    name_stands k (x ∷ xs) (suc j) b e =
        let same : suc k + j ≡ k + suc j = omega arith in
        subst (λ n. list_any (λ i. is_some_at (named_by (block_name b) i) (site_label n)) (names k (x ∷ xs)) ≡ true) same (any_back (λ i. is_some_at (named_by (block_name b) i) (site_label (suc k + j))) (name_of k x) (names (suc k) xs) (name_stands (suc k) xs j b e))

    is_named_there : (r b : ℕ) → slice_get list r ≡ Some (region.Leaf b) → list_any (λ i. is_some_at (named_by (block_name b) i) (site_label r)) m.insts ≡ true
    is_named_there r b e =
        let same : 0 + r ≡ r = omega arith in
        let test : Inst → Bool = λ i. is_some_at (named_by (block_name b) i) (site_label r) in
        let there : list_any test (names 0 list) ≡ true = subst (λ n. list_any (λ i. is_some_at (named_by (block_name b) i) (site_label n)) (names 0 list) ≡ true) same (name_stands 0 list r b e) in
        let behind : List Inst = decs p list at v plan ++ (function_types ++ (decls p list at v plan ++ opening plan (root_of list))) in
        any_front test (frame p list at v plan) (ending p list at v plan) (any_back test (head p v plan) (names 0 list ++ behind) (any_front test (names 0 list) behind there))

    pub sites : (r b place : ℕ) → slice_get list r ≡ Some (region.Leaf b) → slice_get m.insts place ≡ Some (label_inst (site_label r)) → begun_at m place ≡ b ∷ []
    sites r b place leaf e =
        one_member (begun_at m place) b ((sites_begin m place b).1 begins) (λ k there. only k ((sites_begin m place k).0 there)) (sites_rise m place)
      where
        low : b < 2 ^ 32
        low = few r b leaf

        -- what passes for the label of block b stands at the place
        unique : (j : ℕ) (x : Inst) → slice_get m.insts j ≡ Some x → is_label_of m b x ≡ true → j ≡ place
        unique j x ex passes = by_label (label_of x) refl passes
          where
            by_label : (o : Option ℕ) → label_of x ≡ o → is_named m.insts (block_name b) o ≡ true → j ≡ place
            by_label None is f = absurd (cc)
            by_label (Some id) is f =
                let by = some_passes (λ i. is_some_at (named_by (block_name b) i) id) m.insts f in
                let told = name_told b id by.0 by.1.0 by.1.1 (is_at (named_by (block_name b) by.1.0) id by.1.2) in
                let same = same_block told.block b (few told.place told.block told.leaf) low told.text in
                let one = w.leaf_once told.place r b (told.leaf ∙ ap (λ n. Some (region.Leaf n)) same) leaf in
                once j place id x (label_inst (site_label r)) ex e is (ap (λ n. Some (site_label n)) (sym one) ∙ ap Some (sym told.is))
              where
                is_at : (o : Option ℕ) (id : ℕ) → is_some_at o id ≡ true → o ≡ Some id
                is_at (Some x) id e = ap Some (eq_told x id e)
                is_at None id e = absurd (cc)

        begins : site m b ≡ Some place
        begins =
            let same : 0 + place ≡ place = omega arith in
            if_so (nat_lt b (2 ^ 32)) (less b (2 ^ 32) low) _ _ ∙ only_at (is_label_of m b) 0 m.insts place (label_inst (site_label r)) e (is_named_there r b leaf) unique ∙ ap Some same
          where
            less : (x y : ℕ) → x < y → nat_lt x y ≡ true
            less x y h = grind arith

        only : (k : ℕ) → site m k ≡ Some place → k ≡ b
        only k at_k =
            let h = site_has m k place at_k in
            let told = name_told k h.id h.place h.name h.named h.names_it in
            let there : label_of h.label_there ≡ Some (site_label r) = ap label_of (inj (sym h.stands ∙ e)) in
            let id : h.id ≡ site_label r = inj (sym h.label_is ∙ there) in
            let same : told.place ≡ r = omega (arith, id, told.is) in
            let block : told.block ≡ b = leaf_told (inj (sym (subst (λ n. slice_get list n ≡ Some (region.Leaf told.block)) same told.leaf) ∙ leaf)) in
            same_block k b (bound (nat_lt k (2 ^ 32)) refl at_k) low (sym told.text ∙ ap block_name block)
          where
            leaf_told : {x y : ℕ} → region.Leaf x ≡ region.Leaf y → x ≡ y
            leaf_told {x} e = ap (from x) e
              where
                from : ℕ → Region → ℕ
                from d (region.Leaf b) = b
                from d (region.Then first second target) = d
                from d (region.Loop inner entry) = d
                from d (region.Dispatch arms) = d
                from d (region.Arms first arms) = d

            bound : (t : Bool) → nat_lt k (2 ^ 32) ≡ t → (if t then only_place (is_label_of m k) 0 m.insts else None) ≡ Some place → k < 2 ^ 32
            bound true f e = ltb-true k (2 ^ 32) f
            bound false f e = absurd (cc)
