-- What may use an id that is defined anywhere keeps the rules where each id that it uses is defined: the entry point, names and decorations.
use Rattle.std.proofs.Common.{◌≡◌, ℕ, suc, ◌+◌, ◌<◌, Bool, true, false, not, cond, List, [], ◌∷◌, length, Option, Some, None, refl, sym, ap, ◌∙◌, subst, arith}
use Rattle.std.specs.Prelude.{slice_get, nat_eq, nat_lt, ◌&&◌, option_map, if◌then◌else◌}
use Rattle.std.specs.Option.{option_map_or}
use Rattle.dxil_form.specs.declared.program.Class.{Class}
use Rattle.dxil_form.specs.declared.program.Class.TheVariants.{Srv, Uav, Cbv}
use Rattle.dxil_form.specs.declared.program.Resource.{Resource}
use Rattle.dxil_form.specs.declared.program.Program.{Program}
use Rattle.spv_form.specs.declared.module.Inst.{Inst}
use Rattle.spv_form.specs.declared.module.Version.{Version}
use Rattle.spv_form.specs.declared.shape.Shape.{Shape}
use Rattle.spv_form.specs.declared.shape.Shape.TheVariants.{Plain as PlainShape, Text}
use Rattle.spv_form.specs.Shapes.{shape_of}
use Rattle.spv_form.specs.Operands.{has_zero, string_last, fits as fits_shape, is_id}
use Rattle.spv_ids.specs.Roles.{result_of}
use Rattle.id_rules.specs.Uses.{is_excused, is_out_of_reach, is_misused}
use Rattle.type_rules.specs.Fits.{group_of}
use Rattle.spirv_meaning.specs.Names.{block_name}
use Rattle.spirv_meaning.specs.Bindings.{Bindings}
use Rattle.spirv_code.specs.declared.key.Sort.TheVariants as sort
use Rattle.spirv_code.specs.declared.key.Global.{Global}
use Rattle.spirv_code.specs.declared.key.Global.TheVariants.{Plain, Pointer, Number, Truth, Input, Buffer, Shared}
use Rattle.spirv_code.specs.Keys.{built_in_number}
use Rattle.spirv_code.specs.Plans.{Plan, inst, table_from}
use Rattle.spirv_code.specs.Frame.{decorations, decorations_of, stride_of, rowed, set_of, binding_of, read_only, read_only_of, interface, is_listed, entry_point}
use Rattle.frame_facts.proofs.Searches.{Each, each_append, if_not}
use Rattle.line_runs.proofs.Tests.{some_inj, true_false}
use Rattle.module_formed.proofs.Texts.{name_formed}
use Rattle.ruled_ids.specs.Laws.{DefineOnce}
use Rattle.ruled_lines.specs.Kept.{KeepsRules}
use Rattle.ruled_heads.proofs.Reach.{AreInReach, other_kept}

module _ (insts : List Inst) where
  -- an id that such an instruction may use anywhere
  abbrev pub IsDefined : ℕ → Type 0
  IsDefined id = (at : ℕ) (y : Inst) → is_excused y.opcode ≡ true → is_misused insts at y id ≡ false

  pub defined : DefineOnce insts → (place id : ℕ) (x : Inst) → slice_get insts place ≡ Some x → result_of x ≡ Some id → IsDefined id
  unfolding is_misused
  defined once place id x there is at y excused =
      ap (λ o. option_map_or (λ j. not (is_excused y.opcode) && option_map_or (is_out_of_reach insts at j) (slice_get insts j) false) o true) (once.definer_is place id x there is) ∙ ap (λ b. not b && option_map_or (is_out_of_reach insts at place) (slice_get insts place) false) excused

  -- it keeps the rules wherever it stands
  abbrev pub Kept : Inst → Type 0
  Kept x = (at : ℕ) → KeepsRules insts at x

  -- ---- the head

  pub capability_kept : Kept (inst 17 (1 ∷ []))
  unfolding shape_of group_of
  capability_kept at =
      other_kept insts at 17 (1 ∷ []) (PlainShape false false 1 1 1) refl refl refl ((λ is no. absurd (true_false (sym is))), tt)

  pub model_kept : Kept (inst 14 (0 ∷ 1 ∷ []))
  unfolding shape_of group_of
  model_kept at =
      other_kept insts at 14 (0 ∷ 1 ∷ []) (PlainShape false false 2 2 3) refl refl refl ((λ is no. absurd (true_false (sym is))), ((λ is no. absurd (true_false (sym is))), tt))

  three_kept : (x y z : ℕ) → IsDefined 1 → Kept (inst 16 (1 ∷ 17 ∷ x ∷ y ∷ z ∷ []))
  unfolding shape_of group_of
  three_kept x y z function at =
      other_kept insts at 16 (1 ∷ 17 ∷ x ∷ y ∷ z ∷ []) (PlainShape false false 5 5 30) refl refl refl ((λ is no. function at _ refl), ((λ is no. absurd (true_false (sym is))), ((λ is no. absurd (true_false (sym is))), ((λ is no. absurd (true_false (sym is))), ((λ is no. absurd (true_false (sym is))), tt)))))

  pub mode_kept : (local : List ℕ) → length local ≡ 3 → IsDefined 1 → Kept (inst 16 (1 ∷ 17 ∷ local))
  mode_kept [] three function = absurd (omega (arith, three))
  mode_kept (x ∷ []) three function = absurd (omega (arith, three))
  mode_kept (x ∷ y ∷ []) three function = absurd (omega (arith, three))
  mode_kept (x ∷ y ∷ z ∷ []) three function = three_kept x y z function
  mode_kept (x ∷ y ∷ z ∷ u ∷ rest) three function = absurd (omega (arith, three))

  -- the ids that an entry point lists
  interface_reach : (at : ℕ) (y : Inst) (shape : Shape) → is_excused y.opcode ≡ true → (v : Version) (n k : ℕ) (table : List Global) → ((j : ℕ) (g : Global) → slice_get table j ≡ Some g → IsDefined (n + j)) → AreInReach insts at y shape k (interface v n table)
  interface_reach at y shape excused v n k [] h = tt
  interface_reach at y shape excused v n k (g ∷ table) h =
      by_test (is_listed v g) (λ m. interface_reach at y shape excused v (suc n) m table later)
    where
      own : IsDefined n
      own =
          let same : n + 0 ≡ n = omega arith in
          subst IsDefined same (h 0 g refl)

      later : (j : ℕ) (x : Global) → slice_get table j ≡ Some x → IsDefined (suc n + j)
      later j x e =
          let same : n + suc j ≡ suc n + j = omega arith in
          subst IsDefined same (h (suc j) x e)

      by_test : (b : Bool) → ((m : ℕ) → AreInReach insts at y shape m (interface v (suc n) table)) → AreInReach insts at y shape k (if b then n ∷ interface v (suc n) table else interface v (suc n) table)
      by_test true rest = ((λ is no. own at y excused), rest (suc k))
      by_test false rest = rest k

  name_end : (ids : List ℕ) → string_last (5 ∷ 1 ∷ 0x6E69_616D ∷ 0 ∷ ids) 2 ≡ Some 3
  unfolding has_zero
  name_end ids = ap (λ t. option_map (λ k. 2 + k) (cond t (Some 1) None)) (longer (length ids))
    where
      longer : (n : ℕ) → nat_lt 1 (suc (suc n)) ≡ true
      longer n = grind arith

  pub entry_kept : (v : Version) (plan : Plan) → IsDefined 1 → ((j : ℕ) (g : Global) → slice_get plan.table j ≡ Some g → IsDefined (table_from plan + j)) → Kept (entry_point v plan)
  unfolding shape_of group_of
  entry_kept v plan function keys at =
      other_kept insts at 15 operands (Text 2 true 1) refl refl refl ((λ is no. absurd (true_false (sym is))), ((λ is no. function at _ refl), ((λ is no. absurd (true_false (sym is ∙ ap (λ o. option_map_or (λ place. nat_lt place 2) o false) (name_end ids)))), ((λ is no. absurd (true_false (sym is ∙ ap (λ o. option_map_or (λ place. nat_lt place 3) o false) (name_end ids)))), interface_reach at (entry_point v plan) (Text 2 true 1) refl v (table_from plan) 4 plan.table keys))))
    where
      ids : List ℕ
      ids = interface v (table_from plan) plan.table

      operands : List ℕ
      operands = 5 ∷ 1 ∷ 0x6E69_616D ∷ 0 ∷ interface v (table_from plan) plan.table

  -- ---- names

  name_shape : shape_of 5 ≡ Some (Text 1 false 0)
  unfolding shape_of
  name_shape = refl

  -- behind the id stand the words of a string, up to its last one
  no_id_behind : (id : ℕ) (words : List ℕ) (k : ℕ) → fits_shape (Text 1 false 0) (id ∷ words) ≡ true → suc k < length (id ∷ words) → is_id (Text 1 false 0) (id ∷ words) (suc k) ≡ true → ⊥
  no_id_behind id words k fit low is =
      by_last (string_last (id ∷ words) 1) (second (nat_lt 1 (length (id ∷ words))) _ fit) (sym (if_not (nat_lt (suc k) 1) (below k) _ _) ∙ is)
    where
      second : (a b : Bool) → (a && b) ≡ true → b ≡ true
      second true b e = e
      second false b e = absurd (true_false (sym e))

      below : (k : ℕ) → nat_lt (suc k) 1 ≡ false
      below k = grind arith

      clash : (last n k : ℕ) → nat_eq (last + 1) n ≡ true → nat_lt last k ≡ true → k < n → ⊥
      clash last n k whole behind low = grind arith

      by_last : (o : Option ℕ) → option_map_or (λ last. nat_eq (last + 1) (length (id ∷ words))) o true ≡ true → option_map_or (λ place. nat_lt place (suc k)) o false ≡ true → ⊥
      by_last None whole behind = true_false (sym behind)
      by_last (Some last) whole behind = clash last (length (id ∷ words)) (suc k) whole behind low

  words_reach : (at id : ℕ) (words : List ℕ) → fits_shape (Text 1 false 0) (id ∷ words) ≡ true → (n : ℕ) (rest : List ℕ) → suc n + length rest ≡ length (id ∷ words) → AreInReach insts at (inst 5 (id ∷ words)) (Text 1 false 0) (suc n) rest
  words_reach at id words fit n [] long = tt
  words_reach at id words fit n (w ∷ rest) long =
      ((λ is no. absurd (no_id_behind id words n fit (omega (arith, long)) is)), words_reach at id words fit (suc n) rest (omega (arith, long)))

  pub name_kept : (id block : ℕ) → IsDefined id → Kept (inst 5 (id ∷ block_name block))
  unfolding group_of
  name_kept id block named at =
      other_kept insts at 5 (id ∷ block_name block) (Text 1 false 0) name_shape refl refl ((λ is no. named at _ refl), words_reach at id (block_name block) fit 0 (block_name block) (omega arith))
    where
      fit : fits_shape (Text 1 false 0) (id ∷ block_name block) ≡ true
      fit =
          let formed = name_formed 2 1 block (omega arith, omega arith) in
          subst (λ s. fits_shape s (1 ∷ block_name block) ≡ true) (some_inj (sym formed.listed ∙ name_shape)) formed.fits

  -- ---- decorations

  bare_mark : (id kind : ℕ) → IsDefined id → Kept (inst 71 (id ∷ kind ∷ []))
  unfolding shape_of group_of
  bare_mark id kind is_defined at =
      other_kept insts at 71 (id ∷ kind ∷ []) (PlainShape false false 2 3 6) refl refl refl ((λ is no. is_defined at _ refl), ((λ is no. absurd (true_false (sym is))), tt))

  numbered_mark : (id kind n : ℕ) → IsDefined id → Kept (inst 71 (id ∷ kind ∷ n ∷ []))
  unfolding shape_of group_of
  numbered_mark id kind n is_defined at =
      other_kept insts at 71 (id ∷ kind ∷ n ∷ []) (PlainShape false false 2 3 6) refl refl refl ((λ is no. is_defined at _ refl), ((λ is no. absurd (true_false (sym is))), ((λ is no. absurd (true_false (sym is))), tt)))

  member_mark : (id member kind n : ℕ) → IsDefined id → Kept (inst 72 (id ∷ member ∷ kind ∷ n ∷ []))
  unfolding shape_of group_of
  member_mark id member kind n is_defined at =
      other_kept insts at 72 (id ∷ member ∷ kind ∷ n ∷ []) (PlainShape false false 4 4 14) refl refl refl ((λ is no. is_defined at _ refl), ((λ is no. absurd (true_false (sym is))), ((λ is no. absurd (true_false (sym is))), ((λ is no. absurd (true_false (sym is))), tt))))

  read_marked : (id : ℕ) (o : Option Resource) → IsDefined id → Each Kept (read_only_of id o)
  read_marked id None is_defined = tt
  read_marked id (Some resource) is_defined = by_class resource.class
    where
      by_class : (class : Class) → Each Kept (read_only id class)
      by_class Srv = (bare_mark id 24 is_defined, tt)
      by_class Uav = tt
      by_class Cbv = tt

  key_marked : (p : Program) (at : Bindings) (id : ℕ) (g : Global) → IsDefined id → Each Kept (decorations_of p at id g)
  key_marked p at id (Plain sort.Int) is_defined = tt
  key_marked p at id (Plain sort.Bool) is_defined = tt
  key_marked p at id (Plain sort.Triple) is_defined = tt
  key_marked p at id (Plain sort.Row) is_defined = tt
  key_marked p at id (Plain (sort.Words r)) is_defined = (numbered_mark id 6 (stride_of (rowed p r)) is_defined, tt)
  key_marked p at id (Plain (sort.Block r)) is_defined = (bare_mark id 2 is_defined, (member_mark id 0 35 0 is_defined, tt))
  key_marked p at id (Plain (sort.Array a)) is_defined = tt
  key_marked p at id (Pointer st to) is_defined = tt
  key_marked p at id (Number k) is_defined = tt
  key_marked p at id (Truth b) is_defined = tt
  key_marked p at id (Input b) is_defined = (numbered_mark id 11 (built_in_number b) is_defined, tt)
  key_marked p at id (Buffer r) is_defined =
      (numbered_mark id 34 (set_of (slice_get at r)) is_defined, (numbered_mark id 33 (binding_of (slice_get at r)) is_defined, read_marked id (slice_get p.resources r) is_defined))
  key_marked p at id (Shared a) is_defined = tt

  pub table_marked : (p : Program) (at : Bindings) (n : ℕ) (table : List Global) → ((j : ℕ) (g : Global) → slice_get table j ≡ Some g → IsDefined (n + j)) → Each Kept (decorations p at n table)
  table_marked p at n [] h = tt
  table_marked p at n (g ∷ table) h =
      each_append Kept (decorations_of p at n g) (decorations p at (suc n) table) (key_marked p at n g own) (table_marked p at (suc n) table later)
    where
      own : IsDefined n
      own =
          let same : n + 0 ≡ n = omega arith in
          subst IsDefined same (h 0 g refl)

      later : (j : ℕ) (x : Global) → slice_get table j ≡ Some x → IsDefined (suc n + j)
      later j x e =
          let same : n + suc j ≡ suc n + j = omega arith in
          subst IsDefined same (h (suc j) x e)
