-- The label of each leaf's site stands in the module, with any bindings: of the frame, bindings change decorations alone, and no count of them.
use Rattle.std.proofs.Common.{◌≡◌, ⊎_elim, ℕ, zero, suc, ◌+◌, true, false, List, [], ◌∷◌, ◌++◌, length, length-append, Some, refl, sym, ap, ◌∙◌, arith}
use Rattle.std.specs.Prelude.{slice_get, nat_eq}
use Rattle.dxil_form.specs.declared.program.Program.{Program}
use Rattle.dxil_form.specs.declared.region.Region.{Region}
use Rattle.dxil_form.specs.Sound.{Sound}
use Rattle.dxil_form.specs.Wired.{Wired}
use Rattle.spv_form.specs.declared.module.Inst.{Inst}
use Rattle.spv_form.specs.declared.module.Version.{Version}
use Rattle.spirv_meaning.specs.Names.{block_name}
use Rattle.spirv_meaning.specs.Bindings.{Bindings, AreApart}
use Rattle.spirv_code.specs.declared.key.Sort.TheVariants as sort
use Rattle.spirv_code.specs.declared.key.Global.{Global}
use Rattle.spirv_code.specs.declared.key.Global.TheVariants.{Plain, Pointer, Number, Truth, Input, Buffer, Shared}
use Rattle.spirv_code.specs.Plans.{Plan, inst, slots_from, table_from, global_id}
use Rattle.spirv_code.specs.Trees.{root_of}
use Rattle.spirv_code.specs.Exits.{label_inst}
use Rattle.spirv_code.specs.Frame.{head, names, decorations, decorations_of, function_types, declarations, slot_variables, opening, opening_label, frame, body_code, closing, insts_of, module_of}
use Rattle.frame_facts.proofs.Searches.{each_at, each_weaker, Each, eq_told, inj, get_past, get_front}
use Rattle.frame_facts.proofs.Labels.{get_either}
use Rattle.frame_facts.proofs.Spread.{decs, from_types, from_names, is_spread, names_each}
use Rattle.module_form.proofs.Gathered.{apart_by, is_decoration, decorations_each}
use Rattle.line_runs.proofs.Tests.{true_false}
use Rattle.chosen_plan.specs.IsPlan.{IsPlan}
use Rattle.site_form.specs.Sites.{NamesSite}
use Rattle.site_form.proofs.Whole.{has_sites}

-- ---- bindings of which no two are the same

numbered : ℕ → ℕ → Bindings
numbered zero n = []
numbered (suc m) n = (0, n) ∷ numbered m (suc n)

numbered_long : (m n : ℕ) → length (numbered m n) ≡ m
unfolding numbered
numbered_long zero n = refl
numbered_long (suc m) n =
    let rest = numbered_long m (suc n) in
    omega (arith, rest)

numbered_at : (m n k : ℕ) (pair : ℕ × ℕ) → slice_get (numbered m n) k ≡ Some pair → pair.1 ≡ n + k
unfolding numbered
numbered_at zero n k pair e = absurd (cc)
numbered_at (suc m) n zero pair e =
    let same : n ≡ n + 0 = omega arith in
    ap (λ (x : ℕ × ℕ). x.1) (sym (inj e)) ∙ same
numbered_at (suc m) n (suc k) pair e =
    let same : suc n + k ≡ n + suc k = omega arith in
    numbered_at m (suc n) k pair e ∙ same

some_bindings : Program → Bindings
some_bindings p = numbered (length p.resources) 0

some_apart : (p : Program) → AreApart p (some_bindings p)
unfolding some_bindings
some_apart p =
    record {
      one_each = numbered_long (length p.resources) 0;
      apart = λ r s pair er es. (let one = numbered_at (length p.resources) 0 r pair er in let other = numbered_at (length p.resources) 0 s pair es in omega (arith, one, other));
    }

-- ---- bindings change no count

same_count : (p : Program) (at other : Bindings) (n : ℕ) (g : Global) → length (decorations_of p at n g) ≡ length (decorations_of p other n g)
same_count p at other n (Plain sort.Int) = refl
same_count p at other n (Plain sort.Bool) = refl
same_count p at other n (Plain sort.Triple) = refl
same_count p at other n (Plain sort.Row) = refl
same_count p at other n (Plain (sort.Words r)) = refl
same_count p at other n (Plain (sort.Block r)) = refl
same_count p at other n (Plain (sort.Array a)) = refl
same_count p at other n (Pointer st to) = refl
same_count p at other n (Number k) = refl
same_count p at other n (Truth b) = refl
same_count p at other n (Input b) = refl
same_count p at other n (Buffer r) = refl
same_count p at other n (Shared a) = refl

same_counts : (p : Program) (at other : Bindings) (n : ℕ) (table : List Global) → length (decorations p at n table) ≡ length (decorations p other n table)
same_counts p at other n [] = refl
same_counts p at other n (g ∷ table) =
    let one = same_count p at other n g in
    let rest = same_counts p at other (suc n) table in
    let here = length-append (decorations_of p at n g) (decorations p at (suc n) table) in
    let there = length-append (decorations_of p other n g) (decorations p other (suc n) table) in
    omega (arith, one, rest, here, there)

module _ (p : Program) (list : List Region) (v : Version) (plan : Plan) where
  long_frame : (at : Bindings) → length (frame p list at v plan) ≡ length (head p v plan) + (length (names 0 list) + (length (decorations p at (table_from plan) plan.table) + length (function_types ++ (declarations p (global_id plan) (table_from plan) plan.table ++ opening plan (root_of list)))))
  long_frame at =
      let types : List Inst = function_types ++ (declarations p (global_id plan) (table_from plan) plan.table ++ opening plan (root_of list)) in
      let three = length-append (decorations p at (table_from plan) plan.table) types in
      let two = length-append (names 0 list) (decorations p at (table_from plan) plan.table ++ types) in
      let one = length-append (head p v plan) (names 0 list ++ (decorations p at (table_from plan) plan.table ++ types)) in
      omega (arith, one, two, three)

  same_long : (at other : Bindings) → length (frame p list at v plan) ≡ length (frame p list other v plan)
  same_long at other =
      let one = long_frame at in
      let two = long_frame other in
      let same = same_counts p at other (table_from plan) plan.table in
      omega (arith, one, two, same)

  -- all from the types on, where the code of the regions stands at a place
  abbrev types_on : ℕ → List Inst
  types_on place = inst 19 (2 ∷ []) ∷ inst 33 (3 ∷ 2 ∷ []) ∷ (declarations p (global_id plan) (table_from plan) plan.table ++ (inst 54 (2 ∷ 1 ∷ 0 ∷ 3 ∷ []) ∷ label_inst (opening_label (root_of list)) ∷ (slot_variables (global_id plan) (slots_from plan) plan.slots ++ (body_code p plan (root_of list) place ++ closing))))

  same_types : (at other : Bindings) → from_types p list at v plan ≡ from_types p list other v plan
  same_types at other = ap types_on (same_long at other)

  abbrev NoLabel : Inst → Type 0
  NoLabel x = nat_eq x.opcode 248 ≡ false

  type_there : (at : Bindings) (k : ℕ) (x : Inst) → slice_get (from_types p list at v plan) k ≡ Some x → slice_get (insts_of p list at v plan) (length (head p v plan) + (length (names 0 list) + (length (decs p list at v plan) + k))) ≡ Some x
  type_there at k x e =
      let types = from_types p list at v plan in
      let behind = decs p list at v plan ++ types in
      let m : ℕ = length (decs p list at v plan) + k in
      ap (λ xs. slice_get xs (length (head p v plan) + (length (names 0 list) + m))) (is_spread p list at v plan) ∙ get_past (head p v plan) (names 0 list ++ behind) (length (names 0 list) + m) ∙ get_past (names 0 list) behind m ∙ get_past (decs p list at v plan) types k ∙ e

  -- a label stands behind the decorations
  label_place : (at : Bindings) (place id : ℕ) → slice_get (insts_of p list at v plan) place ≡ Some (inst 248 (id ∷ [])) → (k : ℕ) × (slice_get (from_types p list at v plan) k ≡ Some (inst 248 (id ∷ [])))
  label_place at place id e = ⊎_elim (λ f. absurd (none (each_at NoLabel (head p v plan) place x (refl, (refl, (refl, (refl, tt)))) f))) (λ r. behind_head r.0 r.2) (get_either (head p v plan) (from_names p list at v plan) place x (ap (λ xs. slice_get xs place) (sym (is_spread p list at v plan)) ∙ e))
    where
      x : Inst
      x = inst 248 (id ∷ [])

      none : NoLabel (inst 248 (id ∷ [])) → ⊥
      none clash = true_false clash

      marked : Each NoLabel (decs p list at v plan)
      marked =
          each_weaker (λ i. is_decoration i.opcode ≡ true) NoLabel (λ i e. apart_by is_decoration i.opcode 248 e refl) (decs p list at v plan) (decorations_each p at (table_from plan) plan.table)

      behind_names : (j : ℕ) → slice_get (decs p list at v plan ++ from_types p list at v plan) j ≡ Some (inst 248 (id ∷ [])) → (k : ℕ) × (slice_get (from_types p list at v plan) k ≡ Some (inst 248 (id ∷ [])))
      behind_names j f = ⊎_elim (λ g. absurd (none (each_at NoLabel (decs p list at v plan) j (inst 248 (id ∷ [])) marked g))) (λ r. (r.0, r.2)) (get_either (decs p list at v plan) (from_types p list at v plan) j (inst 248 (id ∷ [])) f)

      behind_head : (j : ℕ) → slice_get (from_names p list at v plan) j ≡ Some (inst 248 (id ∷ [])) → (k : ℕ) × (slice_get (from_types p list at v plan) k ≡ Some (inst 248 (id ∷ [])))
      behind_head j f = ⊎_elim (λ g. absurd (none (each_at NoLabel (names 0 list) j (inst 248 (id ∷ [])) (names_each p list at v plan 0 list NoLabel (λ operands. refl)) g))) (λ r. behind_names r.0 r.2) (get_either (names 0 list) (decs p list at v plan ++ from_types p list at v plan) j (inst 248 (id ∷ [])) f)

  label_moves : (at other : Bindings) (place id : ℕ) → slice_get (insts_of p list other v plan) place ≡ Some (inst 248 (id ∷ [])) → (q : ℕ) × (slice_get (insts_of p list at v plan) q ≡ Some (inst 248 (id ∷ [])))
  label_moves at other place id e =
      let there = label_place other place id e in
      let same = ap (λ xs. slice_get xs there.0) (same_types at other) ∙ there.1 in
      (length (head p v plan) + (length (names 0 list) + (length (decs p list at v plan) + there.0)), type_there at there.0 (inst 248 (id ∷ [])) same)

  -- ---- what is named

  -- the label of a site, and the name of its block
  pub record IsNameOf (at : Bindings) (x : Inst) : Type 0 where
    pub label : ℕ
    pub block : ℕ
    pub place : ℕ
    pub stands : slice_get (insts_of p list at v plan) place ≡ Some (inst 248 (label ∷ []))
    pub is : x ≡ inst 5 (label ∷ block_name block)

  pub named : Sound p → Wired p list → IsPlan p list plan → (at : Bindings) (j : ℕ) (x : Inst) → slice_get (names 0 list) j ≡ Some x → IsNameOf at x
  named sound wired is_plan at j x e =
      record { label = site.label; block = site.block; place = moved.0; stands = moved.1; is = is ∙ ap (inst 5) site.is }
    where
      is : x ≡ inst 5 x.operands
      is =
          ap (λ n. inst n x.operands) (eq_told x.opcode 5 (each_at (λ i. nat_eq i.opcode 5 ≡ true) (names 0 list) j x (names_each p list at v plan 0 list (λ i. nat_eq i.opcode 5 ≡ true) (λ operands. refl)) e))

      there : slice_get (insts_of p list (some_bindings p) v plan) (length (head p v plan) + j) ≡ Some (inst 5 x.operands)
      there =
          let behind = decs p list (some_bindings p) v plan ++ from_types p list (some_bindings p) v plan in
          ap (λ xs. slice_get xs (length (head p v plan) + j)) (is_spread p list (some_bindings p) v plan) ∙ get_past (head p v plan) (names 0 list ++ behind) j ∙ get_front (names 0 list) behind j x e ∙ ap (λ (i : Inst). Some i) is

      site : NamesSite p (module_of p list (some_bindings p) v plan) x.operands
      site = (has_sites p list (some_bindings p) v plan sound wired is_plan (some_apart p)).names (length (head p v plan) + j) x.operands there

      moved : (q : ℕ) × (slice_get (insts_of p list at v plan) q ≡ Some (inst 248 (site.label ∷ [])))
      moved = label_moves at (some_bindings p) site.place site.label site.stands
