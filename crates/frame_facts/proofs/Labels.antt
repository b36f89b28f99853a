-- Which labels stand in a module, and what names them.
use Rattle.std.proofs.Common.{◌≡◌, ◌⊎◌, inl, inr, ⊎_elim, ℕ, zero, suc, ◌+◌, ◌<◌, true, false, List, [], ◌∷◌, ◌++◌, length, Some, None, refl, sym, ap, ◌∙◌, subst, arith}
use Rattle.std.specs.Prelude.{slice_get, nat_eq}
use Rattle.dxil_form.specs.declared.program.Program.{Program}
use Rattle.dxil_form.specs.declared.region.Region.{Region}
use Rattle.dxil_form.specs.declared.region.Region.TheVariants as region
use Rattle.spv_form.specs.declared.module.Inst.{Inst}
use Rattle.spv_form.specs.declared.module.Version.{Version}
use Rattle.spirv_meaning.specs.Names.{is_some_at, label_of, block_name}
use Rattle.spirv_meaning.specs.Bindings.{Bindings}
use Rattle.spirv_meaning.specs.Target.{label_at}
use Rattle.spirv_code.specs.Plans.{Plan, Context, inst, label, site_label, result, slots_from, table_from, context_of}
use Rattle.spirv_code.specs.Exits.{label_inst}
use Rattle.spirv_code.specs.Trees.{root_of}
use Rattle.spirv_code.specs.Frame.{name_of, names, function_types, opening, opening_label, frame, closing, insts_of}
use Rattle.frame_facts.specs.Inner.{is_plain, Inner, plain, own, of_region, AreInner, Owns}
use Rattle.frame_facts.proofs.Searches.{Each, each_append, each_weaker, each_at, if_not, if_so, eq_same, inj, IsNot, LabelsNot}
use Rattle.frame_facts.proofs.Declarations.{IsQuiet, IsRemark, declarations_quiet, slots_quiet, decorations_remarks}
use Rattle.frame_facts.proofs.InnerRows.{IsLabelOf}
use Rattle.frame_facts.proofs.Spread.{ids, body, ending, decs, decls, variables, names_each, opening_owned, body_inner}

-- ---- lists

-- what stands at a place of two lists stands in one of them
pub get_either : {A : Type 0} (a b : List A) (j : ℕ) (x : A) → slice_get (a ++ b) j ≡ Some x → (slice_get a j ≡ Some x) ⊎ ((k : ℕ) × (j ≡ length a + k) × (slice_get b k ≡ Some x))
get_either [] b j x e =
    let same : j ≡ 0 + j = omega arith in
    inr (j, same, e)
get_either (y ∷ a) b zero x e = inl e
get_either (y ∷ a) b (suc j) x e =
    ⊎_elim (λ f. inl f) (λ r. let same : suc j ≡ length (y ∷ a) + r.0 = omega (arith, r.1) in inr (r.0, same, r.2)) (get_either a b j x e)

pub inner_at : (c : Context) (M : ℕ → Type 0) (place : ℕ) (code : List Inst) (k : ℕ) (i : Inst) → AreInner c M place code → slice_get code k ≡ Some i → Inner c M (place + k) i
inner_at c M place [] k i h e = absurd (cc)
inner_at c M place (x ∷ code) zero i h e =
    let same : place ≡ place + 0 = omega arith in
    subst (λ n. Inner c M n i) same (subst (Inner c M place) (inj e) h.0)
inner_at c M place (x ∷ code) (suc k) i h e =
    let same : place + 1 + k ≡ place + suc k = omega arith in
    subst (λ n. Inner c M n i) same (inner_at c M (place + 1) code k i h.1 e)

-- a label that stands at a place, and nowhere before it, is found there
pub label_first : (xs : List Inst) (id k n : ℕ) → slice_get xs k ≡ Some (label_inst id) → ((j : ℕ) (i : Inst) → j < k → slice_get xs j ≡ Some i → LabelsNot id i) → label_at xs id n ≡ Some (n + k)
label_first [] id k n e h = absurd (cc)
label_first (x ∷ xs) id zero n e h =
    let same : n ≡ n + 0 = omega arith in
    let here : is_some_at (label_of x) id ≡ true = ap (λ i. is_some_at (label_of i) id) (inj e) ∙ eq_same id in
    if_so _ here _ _ ∙ ap Some same
label_first (x ∷ xs) id (suc k) n e h =
    let same : suc n + k ≡ n + suc k = omega arith in
    let rest = label_first xs id k (suc n) e (λ j i less at. h (suc j) i (omega (arith, less)) at) in
    if_not _ (h 0 x (omega arith) refl) _ _ ∙ rest ∙ ap Some same

-- ---- labels and names

-- what an instruction says of labels: it is none, it is one of a region, or it is the one of its own place
pub data Labelled (c : Context) (M : ℕ → Type 0) (place : ℕ) (i : Inst) : Type 0 where
  unlabelled : label_of i ≡ None → Labelled c M place i
  at_own : label_of i ≡ Some (result c place) → Labelled c M place i
  in_region : (id : ℕ) → IsLabelOf M id → i ≡ label_inst id → Labelled c M place i

pub plain_unlabelled : (i : Inst) → is_plain i.opcode ≡ true → label_of i ≡ None
plain_unlabelled i e = if_not _ (other i.opcode e) _ _
  where
    other : (n : ℕ) → is_plain n ≡ true → nat_eq n 248 ≡ false
    other n e = grind arith

pub inner_labelled : (c : Context) (M : ℕ → Type 0) (place : ℕ) (i : Inst) → Inner c M place i → Labelled c M place i
inner_labelled c M place i (plain e) = unlabelled (plain_unlabelled i e)
inner_labelled c M place i (own e) = at_own (ap label_of e)
inner_labelled c M place i (of_region r kind mine few e) =
    in_region (label r kind) (record { region = r; kind = kind; mine = mine; few = few; is = refl }) e

-- an OpName of a list of names
pub record IsName (list : List Region) (i : Inst) : Type 0 where
  pub place : ℕ
  pub block : ℕ
  pub leaf : slice_get list place ≡ Some (region.Leaf block)
  pub is : i ≡ inst 5 (site_label place ∷ block_name block)

module _ (p : Program) (list : List Region) (at : Bindings) (v : Version) (plan : Plan) where
  abbrev n : ℕ
  n = length (frame p list at v plan)

  -- no label stands ahead of the function but the first one
  abbrev FrameLabels : (ℕ → Type 0) → Inst → Type 0
  FrameLabels M i = (label_of i ≡ None) ⊎ ((id : ℕ) × IsLabelOf M id × (i ≡ label_inst id))

  frame_labels : (M : ℕ → Type 0) → Owns M (root_of list) → Each (FrameLabels M) (frame p list at v plan)
  frame_labels M h =
      let quiet : (xs : List Inst) → Each IsQuiet xs → Each (FrameLabels M) xs = λ xs q. each_weaker IsQuiet (FrameLabels M) (λ i q. inl q.no_label) xs q in
      let open_ : Each (FrameLabels M) (opening plan (root_of list)) = (inl refl, (inr (opening_label (root_of list), opening_owned p list at v plan M h, refl), quiet (variables p list at v plan) (slots_quiet (ids p list at v plan) (slots_from plan) plan.slots))) in
      let types : Each (FrameLabels M) (decls p list at v plan ++ opening plan (root_of list)) = each_append (FrameLabels M) (decls p list at v plan) (opening plan (root_of list)) (quiet (decls p list at v plan) (declarations_quiet p (ids p list at v plan) (table_from plan) plan.table)) open_ in
      let rest : Each (FrameLabels M) (decs p list at v plan ++ (function_types ++ (decls p list at v plan ++ opening plan (root_of list)))) = each_append (FrameLabels M) (decs p list at v plan) _ (each_weaker IsRemark (FrameLabels M) (λ i q. inl q.no_label) (decs p list at v plan) (decorations_remarks p at (table_from plan) plan.table)) (inl refl, (inl refl, types)) in
      (inl refl, (inl refl, (inl refl, (inl refl, each_append (FrameLabels M) (names 0 list) _ (names_each p list at v plan 0 list (FrameLabels M) (λ operands. inl refl)) rest))))

  pub labelled : (M : ℕ → Type 0) → Owns M (root_of list) → (j : ℕ) (i : Inst) → slice_get (insts_of p list at v plan) j ≡ Some i → Labelled (context_of p plan) M j i
  labelled M h j i e = ⊎_elim in_frame behind (get_either (frame p list at v plan) (ending p list at v plan) j i e)
    where
      in_frame : slice_get (frame p list at v plan) j ≡ Some i → Labelled (context_of p plan) M j i
      in_frame f =
          ⊎_elim (λ none. unlabelled none) (λ r. in_region r.0 r.1 r.2) (each_at (FrameLabels M) (frame p list at v plan) j i (frame_labels M h) f)

      in_closing : (k : ℕ) → slice_get closing k ≡ Some i → label_of i ≡ None
      in_closing k f = each_at (λ i. label_of i ≡ None) closing k i (refl, (refl, tt)) f

      behind : (k : ℕ) × (j ≡ n + k) × (slice_get (ending p list at v plan) k ≡ Some i) → Labelled (context_of p plan) M j i
      behind r =
          ⊎_elim (λ f. subst (λ m. Labelled (context_of p plan) M m i) (sym r.1) (inner_labelled (context_of p plan) M (n + r.0) i (inner_at (context_of p plan) M n (body p list at v plan) r.0 i (body_inner p list at v plan M h) f))) (λ f. unlabelled (in_closing f.0 f.2)) (get_either (body p list at v plan) closing r.0 i r.2)

  -- ---- names

  abbrev Naming : Inst → Type 0
  Naming i = (nat_eq i.opcode 5 ≡ false) ⊎ IsName list i

  names_are : (k : ℕ) (xs : List Region) → ((j : ℕ) (x : Region) → slice_get xs j ≡ Some x → slice_get list (k + j) ≡ Some x) → Each Naming (names k xs)
  names_are k [] h = tt
  names_are k (x ∷ xs) h =
      each_append Naming (name_of k x) (names (suc k) xs) (here x (h 0 x refl)) (names_are (suc k) xs (λ j y e. let same : k + suc j ≡ suc k + j = omega arith in subst (λ m. slice_get list m ≡ Some y) same (h (suc j) y e)))
    where
      here : (x : Region) → slice_get list (k + 0) ≡ Some x → Each Naming (name_of k x)
      here (region.Leaf b) e =
          let same : k + 0 ≡ k = omega arith in
          (inr (record { place = k; block = b; leaf = subst (λ m. slice_get list m ≡ Some (region.Leaf b)) same e; is = refl }), tt)
      here (region.Then first second target) e = tt
      here (region.Loop inner entry) e = tt
      here (region.Dispatch arms) e = tt
      here (region.Arms first arms) e = tt

  frame_names : Each Naming (frame p list at v plan)
  frame_names =
      let quiet : (xs : List Inst) → Each IsQuiet xs → Each Naming xs = λ xs q. each_weaker IsQuiet Naming (λ i q. inl q.no_name) xs q in
      let open_ : Each Naming (opening plan (root_of list)) = (inl refl, (inl refl, quiet (variables p list at v plan) (slots_quiet (ids p list at v plan) (slots_from plan) plan.slots))) in
      let types : Each Naming (decls p list at v plan ++ opening plan (root_of list)) = each_append Naming (decls p list at v plan) (opening plan (root_of list)) (quiet (decls p list at v plan) (declarations_quiet p (ids p list at v plan) (table_from plan) plan.table)) open_ in
      let rest : Each Naming (decs p list at v plan ++ (function_types ++ (decls p list at v plan ++ opening plan (root_of list)))) = each_append Naming (decs p list at v plan) _ (each_weaker IsRemark Naming (λ i q. inl q.no_name) (decs p list at v plan) (decorations_remarks p at (table_from plan) plan.table)) (inl refl, (inl refl, types)) in
      (inl refl, (inl refl, (inl refl, (inl refl, each_append Naming (names 0 list) _ (names_are 0 list (λ j x e. let same : j ≡ 0 + j = omega arith in subst (λ m. slice_get list m ≡ Some x) same e)) rest))))

  pub naming : (M : ℕ → Type 0) → Owns M (root_of list) → (j : ℕ) (i : Inst) → slice_get (insts_of p list at v plan) j ≡ Some i → Naming i
  naming M h j i e = ⊎_elim (λ f. each_at Naming (frame p list at v plan) j i frame_names f) behind (get_either (frame p list at v plan) (ending p list at v plan) j i e)
    where
      other : (n : ℕ) → is_plain n ≡ true → nat_eq n 5 ≡ false
      other n e = grind arith

      no_name : (place : ℕ) → Inner (context_of p plan) M place i → nat_eq i.opcode 5 ≡ false
      no_name place (plain e) = other i.opcode e
      no_name place (own e) = ap (λ i. nat_eq i.opcode 5) e
      no_name place (of_region r kind mine few e) = ap (λ i. nat_eq i.opcode 5) e

      behind : (k : ℕ) × (j ≡ n + k) × (slice_get (ending p list at v plan) k ≡ Some i) → Naming i
      behind r =
          ⊎_elim (λ f. inl (no_name (n + r.0) (inner_at (context_of p plan) M n (body p list at v plan) r.0 i (body_inner p list at v plan M h) f))) (λ f. inl (each_at (IsNot 5) closing f.0 i (refl, (refl, tt)) f.2)) (get_either (body p list at v plan) closing r.0 i r.2)
