-- What stands in the module of a program for a key of its table, and what decorates it.
use Rattle.std.proofs.Common.{◌≡◌, ℕ, zero, suc, ◌+◌, ◌<◌, Bool, true, false, List, [], ◌∷◌, ◌++◌, length, Some, refl, sym, ap, ◌∙◌, subst, arith, append-nil}
use Rattle.std.specs.Prelude.{slice_get, nat_eq, ◌&&◌, ◌||◌}
use Rattle.dxil_form.specs.declared.program.Class.{Class}
use Rattle.dxil_form.specs.declared.program.Class.TheVariants.{Srv, Uav, Cbv}
use Rattle.dxil_form.specs.declared.program.Program.{Program}
use Rattle.dxil_form.specs.declared.region.Region.{Region}
use Rattle.spv_form.specs.declared.module.Inst.{Inst}
use Rattle.spv_form.specs.declared.module.Module.{Module}
use Rattle.spv_form.specs.declared.module.Version.{Version}
use Rattle.spirv_meaning.specs.Bindings.{Bindings}
use Rattle.spirv_meaning.specs.Names.{is_some_at}
use Rattle.spirv_code.specs.declared.key.Global.{Global}
use Rattle.spirv_code.specs.Keys.{same_global, index_of, has_key}
use Rattle.spirv_code.specs.Plans.{Plan, inst, slots_from, table_from, global_id}
use Rattle.spirv_code.specs.Trees.{root_of}
use Rattle.spirv_code.specs.Frame.{head, names, declaration, declarations, decorations, decorations_of, read_only, module_of}
use Rattle.frame_facts.specs.Inner.{Owns}
use Rattle.frame_facts.proofs.Searches.{Each, each_weaker, if_not, if_so, eq_same, inj, Elsewhere, get_past, get_front}
use Rattle.frame_facts.proofs.Tables.{key_stands}
use Rattle.frame_facts.proofs.Declarations.{elsewhere}
use Rattle.frame_facts.proofs.Spread.{body, decs, decls, variables, from_types, from_names, from_function, spread, is_spread, names_each}
use Rattle.module_form.specs.Form.{gather}
use Rattle.module_form.proofs.Gathered.{gather_append, gather_none, apart_by, is_declaration, declarations_each, slots_each, is_inner, gather_spread, body_each}
use Rattle.buffer_form.specs.Buffers.{Stands, decorates, decorations_on, non_writable}

-- ---- what stands in a list

abbrev StandsIn : List Inst → Inst → Type 0
StandsIn xs i = (j : ℕ) × (slice_get xs j ≡ Some i)

in_front : (xs ys : List Inst) (i : Inst) → StandsIn xs i → StandsIn (xs ++ ys) i
in_front xs ys i h = (h.0, get_front xs ys h.0 i h.1)

in_back : (xs ys : List Inst) (i : Inst) → StandsIn ys i → StandsIn (xs ++ ys) i
in_back xs ys i h = (length xs + h.0, get_past xs ys h.0 ∙ h.1)

declaration_at : (p : Program) (ids : Global → ℕ) (n : ℕ) (table : List Global) (k : ℕ) (g : Global) → slice_get table k ≡ Some g → slice_get (declarations p ids n table) k ≡ Some (declaration p ids (n + k) g)
declaration_at p ids n [] k g e = absurd (cc)
declaration_at p ids n (x ∷ table) zero g e =
    let same : n ≡ n + 0 = omega arith in
    ap (λ y. Some (declaration p ids n y)) (inj e) ∙ ap (λ id. Some (declaration p ids id g)) same
declaration_at p ids n (x ∷ table) (suc k) g e =
    let same : suc n + k ≡ n + suc k = omega arith in
    declaration_at p ids (suc n) table k g e ∙ ap (λ id. Some (declaration p ids id g)) same

decoration_in : (p : Program) (at : Bindings) (n : ℕ) (table : List Global) (k : ℕ) (g : Global) (i : ℕ → Inst) → slice_get table k ≡ Some g → ((id : ℕ) → StandsIn (decorations_of p at id g) (i id)) → StandsIn (decorations p at n table) (i (n + k))
decoration_in p at n [] k g i e h = absurd (cc)
decoration_in p at n (x ∷ table) zero g i e h =
    let same : n ≡ n + 0 = omega arith in
    let here = subst (λ y. StandsIn (decorations_of p at n y) (i n)) (sym (inj e)) (h n) in
    subst (λ id. StandsIn (decorations p at n (x ∷ table)) (i id)) same (in_front (decorations_of p at n x) (decorations p at (suc n) table) (i n) here)
decoration_in p at n (x ∷ table) (suc k) g i e h =
    let same : suc n + k ≡ n + suc k = omega arith in
    let rest = in_back (decorations_of p at n x) (decorations p at (suc n) table) (i (suc n + k)) (decoration_in p at (suc n) table k g i e h) in
    subst (λ id. StandsIn (decorations p at n (x ∷ table)) (i id)) same rest

-- ---- what decorates an id

decorates_not : (id : ℕ) (xs : List Inst) → Each (Elsewhere id) xs → gather (decorates id) xs ≡ []
decorates_not id xs h =
    gather_none (decorates id) xs (each_weaker (Elsewhere id) (λ i. decorates id i ≡ []) (λ i e. if_not _ e _ _) xs h)

-- what is no decoration at all
decorates_none : (id : ℕ) (i : Inst) → nat_eq i.opcode 71 ≡ false → decorates id i ≡ []
decorates_none id i e = if_not _ (ap (λ b. b && is_some_at (slice_get i.operands 0) id) e) _ _

behind_not : (p : Program) (at : Bindings) (id n : ℕ) (table : List Global) → id < n → gather (decorates id) (decorations p at n table) ≡ []
behind_not p at id n [] less = refl
behind_not p at id n (g ∷ table) less =
    gather_append (decorates id) (decorations_of p at n g) (decorations p at (suc n) table) ∙ ap (λ xs. xs ++ gather (decorates id) (decorations p at (suc n) table)) (decorates_not id (decorations_of p at n g) (elsewhere p at n id g (λ e. omega (arith, e, less)))) ∙ behind_not p at id (suc n) table (omega (arith, less))

table_decorates : (p : Program) (at : Bindings) (n : ℕ) (table : List Global) (k : ℕ) (g : Global) → slice_get table k ≡ Some g → gather (decorates (n + k)) (decorations p at n table) ≡ gather (decorates (n + k)) (decorations_of p at (n + k) g)
table_decorates p at n [] k g e = absurd (cc)
table_decorates p at n (x ∷ table) zero g e =
    let same : n ≡ n + 0 = omega arith in
    let own : gather (decorates n) (decorations p at n (x ∷ table)) ≡ gather (decorates n) (decorations_of p at n g) = gather_append (decorates n) (decorations_of p at n x) (decorations p at (suc n) table) ∙ ap (λ xs. gather (decorates n) (decorations_of p at n x) ++ xs) (behind_not p at n (suc n) table (omega arith)) ∙ append-nil (gather (decorates n) (decorations_of p at n x)) ∙ ap (λ y. gather (decorates n) (decorations_of p at n y)) (inj e) in
    subst (λ id. gather (decorates id) (decorations p at n (x ∷ table)) ≡ gather (decorates id) (decorations_of p at id g)) same own
table_decorates p at n (x ∷ table) (suc k) g e =
    let same : suc n + k ≡ n + suc k = omega arith in
    let id : ℕ = suc n + k in
    let rest : gather (decorates id) (decorations p at n (x ∷ table)) ≡ gather (decorates id) (decorations_of p at id g) = gather_append (decorates id) (decorations_of p at n x) (decorations p at (suc n) table) ∙ ap (λ xs. xs ++ gather (decorates id) (decorations p at (suc n) table)) (decorates_not id (decorations_of p at n x) (elsewhere p at n id x (λ same. omega (arith, same)))) ∙ table_decorates p at (suc n) table k g e in
    subst (λ id. gather (decorates id) (decorations p at n (x ∷ table)) ≡ gather (decorates id) (decorations_of p at id g)) same rest

-- a decoration of the id itself
pub decorates_own : (id : ℕ) (rest : List ℕ) → decorates id (inst 71 (id ∷ rest)) ≡ rest ∷ []
decorates_own id rest = if_so (nat_eq id id) (eq_same id) _ _

pub read_only_decorates : (id : ℕ) (class : Class) → gather (decorates id) (read_only id class) ≡ non_writable class
read_only_decorates id Srv = ap (λ xs. xs ++ []) (decorates_own id (24 ∷ []))
read_only_decorates id Uav = refl
read_only_decorates id Cbv = refl

-- ---- a key that stands in a table is one of it

pub has_at : (table : List Global) (k : ℕ) (g : Global) → same_global g g ≡ true → slice_get table k ≡ Some g → has_key table g ≡ true
has_at [] k g self e = absurd (cc)
has_at (x ∷ table) zero g self e =
    ap (λ b. b || has_key table g) (subst (λ y. same_global g y ≡ true) (sym (inj e)) self)
has_at (x ∷ table) (suc k) g self e = by_test (same_global g x) (has_at table k g self e)
  where
    by_test : (b : Bool) → has_key table g ≡ true → (b || has_key table g) ≡ true
    by_test true h = refl
    by_test false h = h

-- ---- the module

module _ (p : Program) (list : List Region) (at : Bindings) (v : Version) (plan : Plan) where
  abbrev pub m : Module
  m = module_of p list at v plan

  in_module : (i : Inst) → StandsIn (spread p list at v plan) i → Stands m i
  in_module i h = subst (λ xs. StandsIn xs i) (sym (is_spread p list at v plan)) h

  -- the declaration of a key
  pub declared_stands : (g : Global) → has_key plan.table g ≡ true → Stands m (declaration p (global_id plan) (global_id plan g) g)
  declared_stands g h =
      let i : Inst = declaration p (global_id plan) (global_id plan g) g in
      let own = declaration_at p (global_id plan) (table_from plan) plan.table (index_of plan.table g) g (key_stands plan.table g h) in
      let declared = in_front (decls p list at v plan) (from_function p list at v plan) i (index_of plan.table g, own) in
      let types = in_back (inst 19 (2 ∷ []) ∷ inst 33 (3 ∷ 2 ∷ []) ∷ []) (decls p list at v plan ++ from_function p list at v plan) i declared in
      in_module i (in_back (head p v plan) (from_names p list at v plan) i (in_back (names 0 list) (decs p list at v plan ++ from_types p list at v plan) i (in_back (decs p list at v plan) (from_types p list at v plan) i types)))

  -- a decoration of a key
  pub decoration_stands : (g : Global) (i : ℕ → Inst) → has_key plan.table g ≡ true → ((id : ℕ) → (j : ℕ) × (slice_get (decorations_of p at id g) j ≡ Some (i id))) → Stands m (i (global_id plan g))
  decoration_stands g i h there =
      let x : Inst = i (global_id plan g) in
      let own = decoration_in p at (table_from plan) plan.table (index_of plan.table g) g i (key_stands plan.table g h) there in
      in_module x (in_back (head p v plan) (from_names p list at v plan) x (in_back (names 0 list) (decs p list at v plan ++ from_types p list at v plan) x (in_front (decs p list at v plan) (from_types p list at v plan) x own)))

  module _ (owned : Owns (λ r. r < plan.regions) (root_of list)) where
    -- all decorations of the key at a place of the table
    pub decorated_at : (k : ℕ) (g : Global) → slice_get plan.table k ≡ Some g → decorations_on m (table_from plan + k) ≡ gather (decorates (table_from plan + k)) (decorations_of p at (table_from plan + k) g)
    decorated_at k g e =
        gather_spread p list at v plan (decorates id) [] (gather (decorates id) (decorations_of p at id g)) [] [] [] no_names (table_decorates p at (table_from plan) plan.table k g e) no_decls no_locals no_body ∙ append-nil (gather (decorates id) (decorations_of p at id g))
      where
        id : ℕ
        id = table_from plan + k

        no_names : gather (decorates id) (names 0 list) ≡ []
        no_names = gather_none (decorates id) (names 0 list) (names_each p list at v plan 0 list (λ i. decorates id i ≡ []) (λ operands. refl))

        no_decls : gather (decorates id) (decls p list at v plan) ≡ []
        no_decls =
            gather_none (decorates id) (decls p list at v plan) (each_weaker (λ i. is_declaration i.opcode ≡ true) (λ i. decorates id i ≡ []) (λ i t. decorates_none id i (apart_by is_declaration i.opcode 71 t refl)) (decls p list at v plan) (declarations_each p (global_id plan) (table_from plan) plan.table))

        no_locals : gather (decorates id) (variables p list at v plan) ≡ []
        no_locals =
            gather_none (decorates id) (variables p list at v plan) (slots_each (global_id plan) (slots_from plan) plan.slots (λ i. decorates id i ≡ []) (λ operands. refl))

        no_body : gather (decorates id) (body p list at v plan) ≡ []
        no_body =
            gather_none (decorates id) (body p list at v plan) (each_weaker (λ i. is_inner i.opcode ≡ true) (λ i. decorates id i ≡ []) (λ i t. decorates_none id i (apart_by is_inner i.opcode 71 t refl)) (body p list at v plan) (body_each p list at v plan owned))
