-- The module of a program has a site for each block that is reached, and names for those sites alone.
use Rattle.std.proofs.Common.{◌≡◌, inl, ⊎_elim, ℕ, ◌^◌, ◌<◌, Bool, true, false, List, [], ◌∷◌, length, Some, None, refl, sym, ap, ◌∙◌, subst, arith, ltb-true}
use Rattle.std.specs.Prelude.{slice_get, nat_eq, nat_lt, if◌then◌else◌, ◌&&◌}
use Rattle.dxil_form.specs.Branches.{declared_graph}
use Rattle.dxil_form.specs.Graphs.{In, Reached}
use Rattle.dxil_form.specs.declared.program.Program.{Program}
use Rattle.dxil_form.specs.declared.region.Region.{Region}
use Rattle.dxil_form.specs.declared.region.Region.TheVariants as region
use Rattle.dxil_form.specs.Sound.{Sound}
use Rattle.dxil_form.specs.Wired.{Wired}
use Rattle.spv_form.specs.declared.module.Inst.{Inst}
use Rattle.spv_form.specs.declared.module.Module.{Module}
use Rattle.spv_form.specs.declared.module.Version.{Version}
use Rattle.spirv_meaning.specs.Names.{label_of, named_by, same_words, only_place, is_label_of, block_name, site, number_in, begun_at}
use Rattle.spirv_meaning.specs.Bindings.{Bindings, AreApart}
use Rattle.spirv_meaning.proofs.Numbers.{name_tells}
use Rattle.spirv_meaning.proofs.Sites.{sites_begin}
use Rattle.spirv_code.specs.Plans.{Plan, inst, site_label}
use Rattle.spirv_code.specs.Exits.{label_inst}
use Rattle.spirv_code.specs.Trees.{root_of}
use Rattle.spirv_code.specs.Frame.{module_of}
use Rattle.line_runs.specs.Exits.{IsSite}
use Rattle.frame_facts.specs.Facts.{setting_of}
use Rattle.frame_facts.specs.Inner.{Owns}
use Rattle.frame_facts.proofs.Searches.{inj, if_not, eq_told}
use Rattle.frame_facts.proofs.Labels.{IsName, naming}
use Rattle.frame_facts.proofs.Sites.{HasSite, site_has}
use Rattle.frame_facts.proofs.Declares.{get_some}
use Rattle.frame_facts.proofs.Wiring.{root_owned}
use Rattle.region_runs.proofs.Ways.{Scene}
use Rattle.region_runs.proofs.Entries.{reached_below}
use Rattle.region_runs.proofs.Whole.{regions_stand}
use Rattle.chosen_plan.specs.Chosen.{plan_for}
use Rattle.chosen_plan.specs.IsPlan.{IsPlan}
use Rattle.chosen_plan.proofs.Whole.{plans_are_chosen}
use Rattle.module_same.proofs.Whole.{module_stands}
use Rattle.site_form.specs.Sites.{NamesSite, HasSites, ModulesHaveSites}

words_told : (xs ys : List ℕ) → same_words xs ys ≡ true → xs ≡ ys
words_told [] [] e = refl
words_told [] (y ∷ ys) e = absurd (cc)
words_told (x ∷ xs) [] e = absurd (cc)
words_told (x ∷ xs) (y ∷ ys) e = by_test (words_told xs ys) (nat_eq x y) refl e
  where
    by_test : (same_words xs ys ≡ true → xs ≡ ys) → (t : Bool) → nat_eq x y ≡ t → (t && same_words xs ys) ≡ true → x ∷ xs ≡ y ∷ ys
    by_test again true f e = ap (λ n. n ∷ xs) (eq_told x y f) ∙ ap (λ ws. y ∷ ws) (again e)
    by_test again false f e = absurd (cc)

-- two blocks of one name are one
same_block : (a b : ℕ) → a < 2 ^ 32 → b < 2 ^ 32 → block_name a ≡ block_name b → a ≡ b
same_block a b la lb e = sym (name_tells a la) ∙ ap (λ ws. number_in ws 0) e ∙ name_tells b lb

-- a number with a site is a word
site_below : (m : Module) (k at : ℕ) → site m k ≡ Some at → k < 2 ^ 32
site_below m k at e = by_test (nat_lt k (2 ^ 32)) refl e
  where
    by_test : (t : Bool) → nat_lt k (2 ^ 32) ≡ t → (if t then only_place (is_label_of m k) 0 m.insts else None) ≡ Some at → k < 2 ^ 32
    by_test true f e = ltb-true k (2 ^ 32) f
    by_test false f e = absurd (cc)

module _ (p : Program) (list : List Region) (at : Bindings) (v : Version) (plan : Plan) (sound : Sound p) (wired : Wired p list) (is_plan : IsPlan p list plan) (apart : AreApart p at) where
  abbrev m : Module
  m = module_of p list at v plan

  -- the machines in a launch, of which nothing here depends
  abbrev pub scene : Scene
  scene =
      let stands = module_stands p list at v plan sound wired is_plan apart (record { groups = []; sizes = [] }) in
      record {
        s = setting_of p list at v plan (record { groups = []; sizes = [] });
        declares = stands.declares;
        sound = sound;
        list = list;
        wired = wired;
        head = stands.head;
        place = stands.place;
        has = stands.regions;
        i = 0;
      }

  below : (b : ℕ) → Reached (declared_graph p) b → b < length p.blocks
  below b reached = reached_below scene b reached

  few : (b : ℕ) → Reached (declared_graph p) b → b < 2 ^ 32
  few b reached =
      let low = below b reached in
      omega (arith, low, sound.counts.blocks)

  -- ---- sites

  leaf_stands : (b : ℕ) → Reached (declared_graph p) b → (k : ℕ) × IsSite scene.s b k
  leaf_stands b reached =
      let block = get_some p.blocks b (below b reached) in
      let regions = regions_stand scene.s scene.declares sound list wired scene.head scene.place scene.has 0 in
      let there = regions.leaves b block.0 reached block.1 in
      (there.0, there.1.is_site)

  begun : (b place : ℕ) → begun_at m place ≡ b ∷ [] → site m b ≡ Some place
  begun b place e = (sites_begin m place b).0 (subst (In b) (sym e) (inl refl))

  -- ---- names

  owned : Owns (λ r. r < length list) (root_of list)
  owned = root_owned p list wired

  -- the leaf whose name makes the label the site of a block
  record Leaf_of (k id : ℕ) : Type 0 where
    leaf : ℕ
    is : slice_get list leaf ≡ Some (region.Leaf k)
    label : id ≡ site_label leaf

  leaf_of : (k : ℕ) → k < 2 ^ 32 → (place : ℕ) → (h : HasSite m k place) → Leaf_of k h.id
  leaf_of k low place h = ⊎_elim (λ other. absurd (clash other)) told (naming p list at v plan (λ r. r < length list) owned h.place h.name h.named)
    where
      clash : nat_eq h.name.opcode 5 ≡ false → ⊥
      clash e =
          let none : named_by (block_name k) h.name ≡ None = if_not (nat_eq h.name.opcode 5) e _ _ in
          let names_it = h.names_it in
          absurd (cc)

      told : IsName list h.name → Leaf_of k h.id
      told x = by_words (same_words (block_name x.block) (block_name k)) refl (sym (ap (named_by (block_name k)) x.is) ∙ h.names_it)
        where
          by_words : (t : Bool) → same_words (block_name x.block) (block_name k) ≡ t → (if t then Some (site_label x.place) else None) ≡ Some h.id → Leaf_of k h.id
          by_words true f e =
              let text = words_told (block_name x.block) (block_name k) f in
              let same = same_block x.block k (few x.block (wired.reached x.place x.block x.leaf)) low text in
              record { leaf = x.place; is = x.leaf ∙ ap (λ b. Some (region.Leaf b)) same; label = sym (inj e) }
          by_words false f e = absurd (cc)

  -- the site of a block is the label of its leaf
  site_stands : (r b place : ℕ) → slice_get list r ≡ Some (region.Leaf b) → site m b ≡ Some place → slice_get m.insts place ≡ Some (inst 248 (site_label r ∷ []))
  site_stands r b place leaf e = by_label (leaf_stands b (wired.reached r b leaf))
    where
      h : HasSite m b place
      h = site_has m b place e

      by_label : (k : ℕ) × IsSite scene.s b k → slice_get m.insts place ≡ Some (inst 248 (site_label r ∷ []))
      by_label (k, is) =
          let same : k ≡ place = inj (sym (begun b k is.begins) ∙ e) in
          let there : slice_get m.insts place ≡ Some (label_inst is.label.0) = subst (λ n. slice_get m.insts n ≡ Some (label_inst is.label.0)) same is.label.1 in
          let one : h.label_there ≡ label_inst is.label.0 = inj (sym h.stands ∙ there) in
          let id : h.id ≡ is.label.0 = inj (sym h.label_is ∙ ap label_of one) in
          let of = leaf_of b (few b (wired.reached r b leaf)) place h in
          let at_r = wired.leaf_once of.leaf r b of.is leaf in
          let label : is.label.0 ≡ site_label r = sym id ∙ of.label ∙ ap site_label at_r in
          there ∙ ap (λ n. Some (label_inst n)) label

  named : (j : ℕ) (operands : List ℕ) → slice_get m.insts j ≡ Some (inst 5 operands) → NamesSite p m operands
  named j operands e = ⊎_elim (λ other. absurd (let clash : true ≡ false = other in cc clash)) told (naming p list at v plan (λ r. r < length list) owned j (inst 5 operands) e)
    where
      told : IsName list (inst 5 operands) → NamesSite p m operands
      told x =
          let reached = wired.reached x.place x.block x.leaf in
          let there = leaf_stands x.block reached in
          let site_is = begun x.block there.0 there.1.begins in
          record {
            block = x.block;
            place = there.0;
            label = site_label x.place;
            reached = reached;
            site_is = site_is;
            stands = site_stands x.place x.block there.0 x.leaf site_is;
            is = ap (λ (i : Inst). i.operands) x.is;
          }

  pub has_sites : HasSites p m
  has_sites =
      record {
        sites = λ b reached. (let there = leaf_stands b reached in (there.0, begun b there.0 there.1.begins, there.1.begins));
        others = λ k place e. (let leaf = leaf_of k (site_below m k place e) place (site_has m k place e) in wired.reached leaf.leaf k leaf.is);
        names = named;
      }

pub modules_have_sites : ModulesHaveSites
modules_have_sites p list slots at v sound wired are apart =
    has_sites p list at v (plan_for p list slots) sound wired (plans_are_chosen p list slots sound wired are) apart
