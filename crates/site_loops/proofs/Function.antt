-- The site of each leaf in the function of a module.
use Rattle.std.proofs.Common.{◌≡◌, inl, inr, ℕ, ◌+◌, ◌<◌, Bool, true, false, List, [], ◌∷◌, ◌++◌, length, Some, sym, ap, ◌∙◌, subst, arith}
use Rattle.std.specs.Prelude.{◌^◌, slice_get, map, if◌then◌else◌}
use Rattle.dxil_form.specs.declared.program.Program.{Program}
use Rattle.dxil_form.specs.declared.region.Region.{Region}
use Rattle.dxil_form.specs.declared.region.Region.TheVariants as region
use Rattle.dxil_form.specs.Wired.{Wired}
use Rattle.spv_form.specs.declared.module.Inst.{Inst}
use Rattle.spv_form.specs.declared.module.Version.{Version}
use Rattle.flow_rules.specs.Blocks.{BasicBlock}
use Rattle.flow_rules.specs.declared.block.Merge.{Merge}
use Rattle.flow_blocks.specs.Blocks.{Labeled, labeled_blocks}
use Rattle.flow_blocks.specs.Numbered.{numbered, blocks_of}
use Rattle.spirv_meaning.specs.Bindings.{Bindings}
use Rattle.spirv_code.specs.Plans.{Plan, Context, inst, context_of, slots_from, global_id, site_label, first_label}
use Rattle.spirv_code.specs.Trees.{Tree, label_at, begins_plainly, place_of, root_of}
use Rattle.spirv_code.specs.Rows.{onwards, row_code}
use Rattle.spirv_code.specs.Frame.{module_of}
use Rattle.written_rows.specs.Code.{label_inst, branch_inst, AreInner, labels, RowCode}
use Rattle.written_rows.specs.Laws.{EachOnce}
use Rattle.row_laws.specs.Rows.{Looping}
use Rattle.written_rows.proofs.Function as fun
use Rattle.module_structure.proofs.Function as made
use Rattle.module_structure.proofs.Function.{slots_low}
use Rattle.module_structure.proofs.Wiring.{root_fits}
use Rattle.module_loops.proofs.Wiring.{root_single}
use Rattle.site_loops.specs.Sites.{InLoops, IsSite}
use Rattle.site_loops.proofs.Scan.{after, inner_after}
use Rattle.site_loops.proofs.Closed.{once_back, once_labels, once_rest}
use Rattle.site_loops.proofs.Spots.{Under, Spot, Marked, spot_back, spot_label}
use Rattle.site_loops.proofs.Sited.{spot_tree}
use Rattle.site_loops.proofs.Headed.{Headed, inner_headed}
use Rattle.site_loops.proofs.Headers.{AreHeaders, tree_headed}
use Rattle.site_loops.proofs.Entries.{Enters}
use Rattle.site_loops.proofs.Places as places
use Rattle.site_loops.proofs.Named.{is_site}

module _ (p : Program) (list : List Region) (at : Bindings) (v : Version) (plan : Plan) (w : Wired p list) (regions : plan.regions ≡ length list) where
  abbrev c : Context
  c = context_of p plan

  abbrev tree : Tree
  tree = root_of list

  abbrev slots : List Inst
  slots = made.slots p list at v plan w regions

  abbrev place : ℕ
  place = made.place p list at v plan w regions

  abbrev label : ℕ
  label = made.label p list at v plan w regions

  abbrev code : List Inst
  code = slots ++ made.body p list at v plan w regions

  low : AreInner slots
  low = slots_low (global_id plan) (slots_from plan) plan.slots

  once : EachOnce (label ∷ labels code)
  once = made.labels_once p list at v plan w regions

  -- the code of the root behind the label that the function begins with
  abbrev first : Bool → ℕ
  first b = if b then label_at tree else first_label (place_of tree)

  abbrev behind : Bool → List Inst
  behind b = if b then row_code c place tree else (onwards (label_at tree) ++ row_code c (place + 2) tree)

  marked : (r b : ℕ) (us : List ℕ) → Under tree r b us → Marked label code (site_label r) (length us)
  marked r b us under = by_test (begins_plainly tree) (once_back (labels slots) _ (once_labels slots _ (once_rest label (labels code) once)))
    where
      closed : after [] slots ≡ []
      closed = inner_after [] slots low

      at_tree : (q : ℕ) → EachOnce (labels (row_code c q tree)) → Marked (label_at tree) (row_code c q tree) (site_label r) (length us)
      at_tree q o = spot_tree c tree r b us (root_single p list plan w) (root_fits p list plan w) under q o

      by_test : (t : Bool) → EachOnce (labels (behind t)) → Marked (first t) (slots ++ behind t) (site_label r) (length us)
      by_test true o = elim (at_tree place o) [ inl m ↦ inl m | inr s ↦ inr (spot_back slots (row_code c place tree) (site_label r) (length us) closed s) ]
      by_test false o =
          let row = row_code c (place + 2) tree in
          let spot = spot_label (label_at tree) row (site_label r) (length us) (at_tree (place + 2) (once_rest (label_at tree) (labels row) o)) in
          let whole : Spot (branch_inst (label_at tree) ∷ label_inst (label_at tree) ∷ row) (site_label r) (length us) = record { place = spot.place; label_is = spot.label_is; loops_are = spot.loops_are } in
          inr (spot_back slots (branch_inst (label_at tree) ∷ label_inst (label_at tree) ∷ row) (site_label r) (length us) closed whole)

  abbrev front : List Inst
  front = made.front p list at v plan w regions

  begins : AreInner front
  begins = made.front_low p list at v plan w regions

  abbrev deep : ℕ
  deep = made.deepest p list at v plan w regions

  row : RowCode deep false label code
  row = made.row p list at v plan w regions deep (made.itself p list at v plan w regions)

  abbrev end : List Inst
  end = inst 56 [] ∷ []

  end_low : AreInner end
  end_low = (omega arith, tt)

  pub number : ℕ → ℕ
  number = places.number deep front code end label begins row end_low once

  -- the blocks of the module are those of its function
  labeled_are : labeled_blocks (module_of p list at v plan).insts ≡ places.all_labeled deep front code end label begins row end_low once
  labeled_are =
      ap labeled_blocks (made.insts_are p list at v plan w regions) ∙ fun.blocks_is deep front code end label begins row end_low once

  blocks_are : blocks_of (module_of p list at v plan).insts ≡ places.all_blocks deep front code end label begins row end_low once
  blocks_are = ap numbered labeled_are

  module _ (few : (r b : ℕ) → slice_get list r ≡ Some (region.Leaf b) → b < 2 ^ 32) (headers : AreHeaders (Enters list) tree) where
    headed : Headed (Enters list) label code
    headed = by_test (begins_plainly tree)
      where
        by_test : (t : Bool) → Headed (Enters list) (first t) (slots ++ behind t)
        by_test true =
            inner_headed (Enters list) (label_at tree) slots (row_code c place tree) low (tree_headed (Enters list) c tree headers place)
        by_test false =
            inner_headed (Enters list) (first_label (place_of tree)) slots (onwards (label_at tree) ++ row_code c (place + 2) tree) low (tt, tree_headed (Enters list) c tree headers (place + 2))

    -- the site of a leaf and the loops it stands in
    pub record LeafSite (r b n : ℕ) : Type 0 where
      pub place : ℕ
      pub number_is : number (site_label r) ≡ place
      pub labeled : Labeled
      pub there : slice_get (labeled_blocks (module_of p list at v plan).insts) place ≡ Some labeled
      pub label_is : labeled.label ≡ site_label r
      pub site : IsSite (module_of p list at v plan) b place
      pub loops : InLoops (blocks_of (module_of p list at v plan).insts) place n

    pub leaf_site : (r b : ℕ) (us : List ℕ) → slice_get list r ≡ Some (region.Leaf b) → Under tree r b us → LeafSite r b (length us)
    unfolding number
    leaf_site r b us leaf under =
        let l = places.label_loops deep front code end label begins row end_low once (Enters list) headed (site_label r) (length us) (marked r b us under) no_header in
        let there = ap (λ ds. slice_get ds l.number_is) labeled_are ∙ l.there in
        record {
          place = l.number_is;
          number_is = l.numbers;
          labeled = l.labeled;
          there = there;
          label_is = l.label_is;
          site = is_site p list at v plan w regions few r b l.number_is l.labeled leaf there l.label_is;
          loops = subst (λ bs. InLoops bs l.number_is (length us)) (sym blocks_are) l.loops;
        }
      where
        no_header : (ts : List ℕ) → Enters list (site_label r) ts → ⊥
        no_header ts e =
            let is = e.header_is in
            omega (arith, is)

    -- a loop's header is that of a region, and branches to the leaf of the region's head
    pub record HeaderSite (h : ℕ) (b : BasicBlock) : Type 0 where
      pub labeled : Labeled
      pub there : slice_get (labeled_blocks (module_of p list at v plan).insts) h ≡ Some labeled
      pub targets_are : b.targets ≡ map number labeled.block.targets
      pub enters : Enters list labeled.label labeled.block.targets

    pub header_site : (h : ℕ) (g : Merge) (l : Looping (blocks_of (module_of p list at v plan).insts) h g) → HeaderSite h l.0.0
    unfolding number
    header_site h g l =
        let k = places.header_of deep front code end label begins row end_low once (Enters list) headed h g ((l.0.0, (ap (λ bs. slice_get bs h) (sym blocks_are) ∙ l.0.1.0, l.0.1.1)), l.1) in
        record {
          labeled = k.labeled;
          there = ap (λ ds. slice_get ds h) labeled_are ∙ k.there;
          targets_are = ap (λ (x : BasicBlock). x.targets) k.block_is;
          enters = k.goes;
        }
