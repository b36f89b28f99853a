-- The block whose label is a leaf's begins at the site of the leaf's block.
use Rattle.std.proofs.Common.{◌≡◌, inl, inr, ℕ, ◌<◌, ◌≤◌, Bool, true, List, [], ◌∷◌, length, get_or, Some, None, refl, sym, ap, ◌∙◌, subst, arith}
use Rattle.std.proofs.lemmas.Option.{slice_get-map}
use Rattle.std.specs.Prelude.{◌^◌, slice_get, ◌==◌, if◌then◌else◌}
use Rattle.std.specs.Option.{option_map}
use Rattle.dxil_form.specs.Graphs.{In}
use Rattle.dxil_form.specs.declared.program.Program.{Program}
use Rattle.dxil_form.specs.declared.region.Region.{Region}
use Rattle.dxil_form.specs.declared.region.Region.TheVariants as region
use Rattle.dxil_form.specs.Wired.{Wired}
use Rattle.spv_form.specs.declared.module.Inst.{Inst}
use Rattle.spv_form.specs.declared.module.Module.{Module}
use Rattle.spv_form.specs.declared.module.Version.{Version}
use Rattle.flow_blocks.specs.Blocks.{Labeled, operand, labeled_blocks}
use Rattle.flow_blocks.specs.Numbered.{number_of, numbered_block}
use Rattle.spirv_meaning.specs.Names.{label_of, begun_at}
use Rattle.spirv_meaning.specs.Bindings.{Bindings}
use Rattle.spirv_meaning.proofs.Sites.{sites_begin}
use Rattle.spirv_code.specs.Plans.{Plan, label, site_label, result, context_of}
use Rattle.spirv_code.specs.Trees.{root_of}
use Rattle.spirv_code.specs.Frame.{module_of}
use Rattle.frame_facts.specs.Inner.{Owns}
use Rattle.frame_facts.proofs.Searches.{get_below}
use Rattle.frame_facts.proofs.Labels.{Labelled, unlabelled, at_own, in_region, labelled}
use Rattle.frame_facts.proofs.Regions.{sites}
use Rattle.frame_facts.proofs.Wiring.{root_owned}
use Rattle.written_rows.specs.Code.{label_inst}
use Rattle.written_rows.proofs.Steps.{blocks_are}
use Rattle.site_loops.specs.Sites.{IsSite}
use Rattle.site_loops.proofs.Words.{Located, located, starts}

inj : {A : Type 0} {a b : A} → Some a ≡ Some b → a ≡ b
inj e = cc

-- an instruction that is a label has an id, where its operand is not 0
label_told : (x : Inst) (id : ℕ) → (x.opcode == 248) ≡ true → operand x 0 ≡ id → 1 ≤ id → label_of x ≡ Some id
label_told x id is e low = ap (λ (b : Bool). if b then slice_get x.operands 0 else None) is ∙ first x.operands e
  where
    first : (ops : List ℕ) → get_or ops 0 0 ≡ id → slice_get ops 0 ≡ Some id
    first [] e = absurd (omega (arith, e, low))
    first (a ∷ ops) e = ap Some e

module _ (p : Program) (list : List Region) (at : Bindings) (v : Version) (plan : Plan) (w : Wired p list) (regions : plan.regions ≡ length list) where
  abbrev m : Module
  m = module_of p list at v plan

  abbrev Mine : ℕ → Type 0
  Mine r = r < plan.regions

  owned : Owns Mine (root_of list)
  owned = subst (λ n. Owns (λ r. r < n) (root_of list)) (sym regions) (root_owned p list w)

  -- the instruction that is a region's label
  pub label_is : (j r kind : ℕ) (x : Inst) → r < length list → kind ≤ 7 → slice_get m.insts j ≡ Some x → (x.opcode == 248) ≡ true → operand x 0 ≡ label r kind → x ≡ label_inst (label r kind)
  label_is j r kind x low high e is id = by_kind (labelled p list at v plan Mine owned j x e)
    where
      told : label_of x ≡ Some (label r kind)
      told = label_told x (label r kind) is id (omega arith)

      by_kind : Labelled (context_of p plan) Mine j x → x ≡ label_inst (label r kind)
      by_kind (unlabelled none) = absurd (let never : None ≡ Some (label r kind) = sym none ∙ told in cc)
      by_kind (at_own a) =
          let same : label r kind ≡ result (context_of p plan) j = inj (sym told ∙ a) in
          absurd (omega (arith, same, low, high, regions))
      by_kind (in_region i h a) =
          let same : i ≡ label r kind = inj (sym (ap label_of a) ∙ told) in
          a ∙ ap label_inst same

  pub is_site : ((r b : ℕ) → slice_get list r ≡ Some (region.Leaf b) → b < 2 ^ 32) → (r b q : ℕ) (d : Labeled) → slice_get list r ≡ Some (region.Leaf b) → slice_get (labeled_blocks m.insts) q ≡ Some d → d.label ≡ site_label r → IsSite m b q
  is_site few r b q d leaf e named =
      elim (located None 5 m.insts q d (ap (λ ds. slice_get ds q) (sym (blocks_are None 5 m.insts)) ∙ e)) [
        | inl none ↦ absurd none
        | inr l ↦ at_label l
      ]
    where
      at_label : Located 5 m.insts d → IsSite m b q
      at_label l =
          let low = get_below list r (region.Leaf b) leaf in
          let is = label_is l.place r 0 l.label low (omega arith) l.there l.is_label (l.id_is ∙ named) in
          let begins : begun_at m l.place ≡ b ∷ [] = sites p list at v plan w regions few r b l.place leaf (l.there ∙ ap Some is) in
          record {
            place = l.place;
            site_is = (sites_begin m l.place b).0 (subst (In b) (sym begins) (inl refl));
            block = numbered_block (number_of (labeled_blocks m.insts)) d.block;
            at = slice_get-map (λ (x : Labeled). numbered_block (number_of (labeled_blocks m.insts)) x.block) (labeled_blocks m.insts) q ∙ ap (option_map (λ (x : Labeled). numbered_block (number_of (labeled_blocks m.insts)) x.block)) e;
            word_is = l.word_is ∙ starts m.insts l.place;
          }
