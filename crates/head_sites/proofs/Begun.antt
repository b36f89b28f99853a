-- Which sites blocks of a module begin at: a leaf's label begins one block, and a header's label none.
use Rattle.std.proofs.Common.{◌≡◌, inl, inr, ℕ, zero, suc, ◌<◌, ◌≤◌, List, [], ◌∷◌, length, take, Some, None, refl, sym, ap, ◌∙◌, subst, arith}
use Rattle.std.proofs.lemmas.List.Sums.{sum_by-cons}
use Rattle.std.proofs.lemmas.Option.{slice_get-map}
use Rattle.std.specs.Prelude.{◌^◌, slice_get}
use Rattle.std.specs.List.{sum_by}
use Rattle.std.specs.Option.{option_map}
use Rattle.dxil_form.specs.Graphs.{In}
use Rattle.dxil_form.specs.declared.program.Program.{Program}
use Rattle.dxil_form.specs.declared.region.Region.{Region}
use Rattle.dxil_form.specs.declared.region.Region.TheVariants as region
use Rattle.dxil_form.specs.Wired.{Wired}
use Rattle.spv_form.specs.declared.module.Inst.{Inst}
use Rattle.spv_form.specs.declared.module.Module.{Module}
use Rattle.spv_form.specs.declared.module.Version.{Version}
use Rattle.spv_form.specs.Words.{size_of, start_of}
use Rattle.flow_rules.specs.Blocks.{BasicBlock}
use Rattle.flow_blocks.specs.Blocks.{Labeled, labeled_blocks}
use Rattle.flow_blocks.specs.Numbered.{number_of, numbered_block}
use Rattle.spirv_meaning.specs.Names.{begun_at}
use Rattle.spirv_meaning.specs.Bindings.{Bindings}
use Rattle.spirv_meaning.proofs.Sites.{sites_begin}
use Rattle.spirv_code.specs.Plans.{Plan, label, site_label, header_label}
use Rattle.spirv_code.specs.Frame.{module_of}
use Rattle.frame_facts.proofs.Searches.{get_below}
use Rattle.frame_facts.proofs.Sites.{site_has}
use Rattle.frame_facts.proofs.Regions.{sites, others}
use Rattle.written_rows.specs.Code.{label_inst}
use Rattle.written_rows.proofs.Steps.{blocks_are}
use Rattle.site_loops.specs.Sites.{IsSite}
use Rattle.site_loops.proofs.Words.{Located, located, starts}
use Rattle.site_loops.proofs.Named.{label_is}

inj : {A : Type 0} {a b : A} → Some a ≡ Some b → a ≡ b
inj e = cc

-- no two instructions start at one word
starts_apart : (xs : List Inst) (i j : ℕ) (x y : Inst) → slice_get xs i ≡ Some x → slice_get xs j ≡ Some y → sum_by size_of (take i xs) ≡ sum_by size_of (take j xs) → i ≡ j
starts_apart [] i j x y e f same = absurd (cc)
starts_apart (a ∷ xs) zero zero x y e f same = refl
starts_apart (a ∷ xs) zero (suc j) x y e f same =
    let none : sum_by size_of (take 0 (a ∷ xs)) ≡ 0 = refl in
    let some = sum_by-cons size_of a (take j xs) in
    absurd (omega (arith, none, some, same))
starts_apart (a ∷ xs) (suc i) zero x y e f same =
    let none : sum_by size_of (take 0 (a ∷ xs)) ≡ 0 = refl in
    let some = sum_by-cons size_of a (take i xs) in
    absurd (omega (arith, none, some, same))
starts_apart (a ∷ xs) (suc i) (suc j) x y e f same =
    let one = sum_by-cons size_of a (take i xs) in
    let other = sum_by-cons size_of a (take j xs) in
    ap suc (starts_apart xs i j x y e f (omega (arith, one, other, same)))

module _ (p : Program) (list : List Region) (at : Bindings) (v : Version) (plan : Plan) (w : Wired p list) (regions : plan.regions ≡ length list) where
  abbrev m : Module
  m = module_of p list at v plan

  -- the site at which a block begins is that of the block's label
  record Begun (id b : ℕ) : Type 0 where
    place : ℕ
    stands : slice_get m.insts place ≡ Some (label_inst id)
    begins : In b (begun_at m place)

  begun : (r kind q b : ℕ) (d : Labeled) → r < length list → kind ≤ 7 → slice_get (labeled_blocks m.insts) q ≡ Some d → d.label ≡ label r kind → IsSite m b q → Begun (label r kind) b
  begun r kind q b d low high e named s =
      elim (located None 5 m.insts q d (ap (λ ds. slice_get ds q) (sym (blocks_are None 5 m.insts)) ∙ e)) [
        | inl none ↦ absurd none
        | inr l ↦ at_label l
      ]
    where
      block_is : numbered_block (number_of (labeled_blocks m.insts)) d.block ≡ s.block
      block_is =
          inj (sym (slice_get-map (λ (x : Labeled). numbered_block (number_of (labeled_blocks m.insts)) x.block) (labeled_blocks m.insts) q ∙ ap (option_map (λ (x : Labeled). numbered_block (number_of (labeled_blocks m.insts)) x.block)) e) ∙ s.at)

      at_label : Located 5 m.insts d → Begun (label r kind) b
      at_label l =
          let has = site_has m b s.place s.site_is in
          let word : d.block.word ≡ s.block.word = ap (λ (x : BasicBlock). x.word) block_is in
          let starts_same : start_of m.insts l.place ≡ start_of m.insts s.place = sym (l.word_is ∙ starts m.insts l.place) ∙ (word ∙ s.word_is) in
          let same : l.place ≡ s.place = starts_apart m.insts l.place s.place l.label has.label_there l.there has.stands (omega (arith, starts_same)) in
          record {
            place = l.place;
            stands = l.there ∙ ap Some (label_is p list at v plan w regions l.place r kind l.label low high l.there l.is_label (l.id_is ∙ named));
            begins = (sites_begin m l.place b).1 (s.site_is ∙ ap Some (sym same));
          }

  -- the block of a header's label begins at no site
  pub header_none : (r q b : ℕ) (d : Labeled) → r < length list → slice_get (labeled_blocks m.insts) q ≡ Some d → d.label ≡ header_label r → IsSite m b q → ⊥
  header_none r q b d low e named s =
      let h = begun r 1 q b d low (omega arith) e named s in
      subst (In b) (others p list at v plan w regions r 1 h.place (omega arith) (omega arith) h.stands) h.begins

  -- the block of a leaf's label begins at the site of the leaf's block alone
  pub leaf_sole : ((r b : ℕ) → slice_get list r ≡ Some (region.Leaf b) → b < 2 ^ 32) → (r q b k : ℕ) (d : Labeled) → slice_get list r ≡ Some (region.Leaf b) → slice_get (labeled_blocks m.insts) q ≡ Some d → d.label ≡ site_label r → IsSite m k q → k ≡ b
  leaf_sole few r q b k d leaf e named s =
      let h = begun r 0 q k d (get_below list r (region.Leaf b) leaf) (omega arith) e named s in
      elim (subst (In k) (sites p list at v plan w regions few r b h.place leaf h.stands) h.begins) [ inl same ↦ same | inr none ↦ absurd none ]
