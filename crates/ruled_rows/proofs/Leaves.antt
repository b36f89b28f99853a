-- The leaves of wired regions have what their code asks.
use Rattle.std.proofs.Common.{◌≡◌, ℕ, Bool, true, false, List, [], ◌++◌, None, Some, refl, sym, ap, ◌∙◌, subst, inl, inr}
use Rattle.std.specs.Prelude.{slice_get, nat_lt, ◌||◌}
use Rattle.std.specs.List.{list_any}
use Rattle.dxil_form.specs.declared.block.Block.{Block}
use Rattle.dxil_form.specs.declared.program.Program.{Program}
use Rattle.dxil_form.specs.declared.region.Region.{Region}
use Rattle.dxil_form.specs.declared.region.Region.TheVariants as region
use Rattle.dxil_form.specs.Branches.{has, targets, branches, declared_graph}
use Rattle.dxil_form.specs.Graphs.{Reached}
use Rattle.dxil_form.specs.Sound.{Sound, cases_in}
use Rattle.dxil_form.specs.Wired.{Wired}
use Rattle.spv_form.specs.declared.module.Version.{Version}
use Rattle.dxil_meaning.specs.Source.{Launch}
use Rattle.spirv_meaning.specs.Bindings.{Bindings}
use Rattle.spirv_code.specs.declared.key.Sort.TheVariants as sort
use Rattle.spirv_code.specs.declared.key.Global.{Global}
use Rattle.spirv_code.specs.declared.key.Global.TheVariants.{Plain, Pointer, Number, Truth, Input, Buffer, Shared}
use Rattle.spirv_code.specs.Keys.{has_key}
use Rattle.spirv_code.specs.Plans.{Plan, context_of}
use Rattle.spirv_code.specs.Leaves.{next_blocks, most_pairs}
use Rattle.spirv_code.specs.Exits.{tested}
use Rattle.spirv_code.specs.Trees.{Tree, Arms, arm_label}
use Rattle.spirv_code.specs.Rows.{block_at}
use Rattle.spirv_code.specs.Needed.{phis_keys, lines_keys, tested_keys, end_keys, block_keys, regions_keys, want_keys, slots_keys}
use Rattle.spirv_code.specs.Further.{many_cases, is_split, passes, wants}
use Rattle.spirv_code.specs.Frame.{module_of}
use Rattle.line_runs.specs.Held.{Setting, Uses}
use Rattle.frame_facts.specs.Facts.{setting_of}
use Rattle.frame_facts.proofs.Tabled.{IsKnown}
use Rattle.plan_ready.proofs.Among.{Among, among_front, among_back, contains_among}
use Rattle.plan_ready.proofs.Tables.{all_have}
use Rattle.plan_ready.proofs.Base.{Base, base_of}
use Rattle.plan_ready.proofs.Operands.{AllUsed}
use Rattle.plan_ready.proofs.Whole.{plans_are_ready}
use Rattle.region_runs.proofs.Members as members
use Rattle.region_runs.proofs.Targets.{splits_many, branch_target}
use Rattle.region_runs.proofs.Entries.{any_holds}
use Rattle.chosen_plan.specs.IsPlan.{IsPlan}
use Rattle.formed_rows.proofs.Rows.{block_or}
use Rattle.ruled_lines.specs.Kept.{IsOf, AreUsed}
use Rattle.ruled_exits.specs.Exits.{CanWant}
use Rattle.ruled_rows.proofs.Readiness.{CanTest, SplitReady, LeafReady}

-- ---- keys

known : (p : Program) (g : Global) → IsOf p g → IsKnown p g
known p (Plain s) h = tt
known p (Pointer s to) h = tt
known p (Number n) h = tt
known p (Truth b) h = tt
known p (Input b) h = tt
known p (Buffer r) h = tt
known p (Shared a) h = h

are_used : (s : Setting) (gs : List Global) → AllUsed s gs → AreUsed s gs
are_used s gs all g member of = all g (contains_among g gs member) (known s.program g of)

module _ (p : Program) (list : List Region) (at : Bindings) (v : Version) (plan : Plan) (l : Launch) (is : IsPlan p list plan) (sound : Sound p) (w : Wired p list) where
  abbrev pub s : Setting
  s = setting_of p list at v plan l

  abbrev pub Wanting : Type 0
  Wanting = wants p list ≡ true

  base : Base s
  base = base_of p list (wants p list) plan sound w is.variables is.table (module_of p list at v plan) at l

  bool_used : Wanting → Uses s (Plain sort.Bool)
  bool_used e =
      let g : Global = Plain sort.Bool in
      let keys : List Global = want_keys p (wants p list) in
      let there : Among g keys = subst (λ b. Among g (want_keys p b)) (sym e) (inr (inl refl)) in
      let all : List Global = slots_keys plan.slots ++ (keys ++ regions_keys p (wants p list) list) in
      ap (λ t. has_key t g) is.table ∙ all_have p all [] g (among_back g (slots_keys plan.slots) _ (among_front g keys _ there)) tt

  pub can_test : Wanting → (k : ℕ) → Uses s (Number k) → CanTest s k
  can_test e k number = record { can = (is.want e, number); bool = bool_used e }

  -- ---- a leaf

  module _ (r b : ℕ) (arms : Arms) (stands_in : slice_get list r ≡ Some (region.Leaf b)) (block : Block) (stands : slice_get p.blocks b ≡ Some block) where
    reached : Reached (declared_graph p) b
    reached = w.reached r b stands_in

    used : AllUsed s (block_keys p base.wants block)
    used g h d = base.keys b block g reached stands h d

    ends_used : AllUsed s (end_keys base.wants block.term)
    ends_used g h d = used g (among_back g (phis_keys block.phis) _ (among_back g (lines_keys p block.instrs) _ h)) d

    lines_used : AllUsed s (lines_keys p block.instrs)
    lines_used g h d = used g (among_back g (phis_keys block.phis) _ (among_front g (lines_keys p block.instrs) _ h)) d

    test_used : AllUsed s (tested_keys (tested block.term))
    test_used g h d = ends_used g (among_front g (tested_keys (tested block.term)) _ h) d

    branch : (k : ℕ) → has k (targets block.term) ≡ true → branches p b k ≡ true
    branch k h = branch_target p b k block stands ∙ h

    can_want : Wanting → (k : ℕ) → branches p b k ≡ true → CanWant s k
    can_want e k goes = (is.want e, is.next_numbers e r b k stands_in goes)

    or_true : (t : Bool) → (t || true) ≡ true
    or_true true = refl
    or_true false = refl

    split : nat_lt most_pairs (cases_in block.term) ≡ true → ((k : ℕ) (tree : Tree) → members.Among arms k tree → branches p b k ≡ true) → SplitReady s block arms
    split many inside =
        let picked = any_holds (is_split p) list r (region.Leaf b) stands_in (ap many_cases stands ∙ many) in
        let e : Wanting = ap (λ t. list_any passes list || t) picked ∙ or_true (list_any passes list) in
        record {
          pick = is.pick picked;
          bool = bool_used e;
          targets_can = λ k h. can_want e k (branch k h);
          arms_can = λ k tree among. can_want e k (inside k tree among);
        }

    block_ready : ((k : ℕ) → branches p b k ≡ true → arm_label arms k ≡ None → Wanting) → ((k : ℕ) (tree : Tree) → members.Among arms k tree → branches p b k ≡ true) → LeafReady s b block arms
    block_ready loose inside =
        record {
          ready = λ place. plans_are_ready p list (wants p list) plan sound w is.variables is.table (module_of p list at v plan) at l b block place reached stands;
          fits = λ n line e. sound.lines b n line (record { block = block; stands = stands; line = e });
          lines_used = are_used s (lines_keys p block.instrs) lines_used;
          test_used = are_used s (tested_keys (tested block.term)) test_used;
          loose = λ k h none. can_want (loose k (branch k h) none) k (branch k h);
          ends = λ want. is.no_number (is.wanted want.0 want.1);
          split = λ way. split (splits_many (next_blocks block.term) (cases_in block.term) way) inside;
        }

  -- the block of the leaf is one of the program's
  pub leaf_ready : (r b : ℕ) (arms : Arms) → slice_get list r ≡ Some (region.Leaf b) → (block : Block) → slice_get p.blocks b ≡ Some block → ((k : ℕ) → branches p b k ≡ true → arm_label arms k ≡ None → Wanting) → ((k : ℕ) (tree : Tree) → members.Among arms k tree → branches p b k ≡ true) → LeafReady s b (block_at (context_of p plan) b) arms
  leaf_ready r b arms stands_in block stands loose inside =
      let same : block_at (context_of p plan) b ≡ block = ap block_or stands in
      subst (λ x. LeafReady s b x arms) (sym same) (block_ready r b arms stands_in block stands loose inside)
