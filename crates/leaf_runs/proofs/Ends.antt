-- What follows the lines of a block: its copies, its terminator, and the beginning of the next block.
use Rattle.std.proofs.Common.{◌≡◌, ℕ, suc, ◌+◌, ◌-◌, ◌*◌, ◌≤◌, ◌<◌, List, [], ◌∷◌, ◌++◌, length, length-append, Option, Some, None, refl, sym, ap, ◌∙◌, subst, arith, inl, ⊎_elim}
use Rattle.std.specs.Prelude.{◌⊎◌, slice_get, if◌then◌else◌}
use Rattle.std.proofs.lemmas.Option.{slice_get_within}
use Rattle.dxil_form.specs.declared.value.Ty.TheVariants as ty
use Rattle.dxil_form.specs.declared.block.Phi.{Phi}
use Rattle.dxil_form.specs.declared.block.Block.{Block}
use Rattle.dxil_form.specs.declared.block.Term.{Term}
use Rattle.dxil_form.specs.declared.block.Term.TheVariants.{Ret, Unreachable, Go, If, Switch}
use Rattle.dxil_form.specs.Branches.{targets, declared_graph}
use Rattle.dxil_form.specs.Graphs.{In, Reached}
use Rattle.dxil_form.specs.Sound.{Sound, cases_in}
use Rattle.spv_form.specs.declared.module.Inst.{Inst}
use Rattle.spv_form.specs.declared.module.Module.{Module}
use Rattle.dxil_meaning.specs.Launches.{Step, Wrong, Acts, End}
use Rattle.dxil_meaning.specs.Steps.{Leads, is_wrong, acts, begins}
use Rattle.dxil_meaning.proofs.Simulation.{leads_none, leads_step, leads_on}
use Rattle.dxil_meaning.specs.Source.{Registers, State as SourceState, Line, first_spot, line_step, term_step, enter, given, as_truth, as_number, case_of}
use Rattle.dxil_meaning.specs.Source as source
use Rattle.spirv_meaning.specs.Target.{State, Word, Truth, Returns, next}
use Rattle.spirv_code.specs.Reads.{Env}
use Rattle.spirv_code.specs.Leaves.{next_blocks, way_of, inner_code, edges_code, block_code, block_env, phis_of}
use Rattle.line_runs.specs.Held.{Setting, Held, Has, machine}
use Rattle.line_runs.specs.Declared.{Declares}
use Rattle.line_runs.specs.Exits.{IsSite, ArrivesAt, LeavesBy, LeafStands}
use Rattle.line_runs.proofs.Pieces.{has_front, has_back}
use Rattle.access_runs.proofs.Stepping.{held_at}
use Rattle.access_runs.proofs.Events.{acts_one}
use Rattle.block_runs.specs.Laws.{Match}
use Rattle.block_runs.proofs.Sources.{in_block}
use Rattle.leaf_runs.specs.Begun.{Begun, Fills}
use Rattle.leaf_runs.specs.BlockReady.{BlockReady, WayReady}
use Rattle.leaf_runs.specs.Between.{Placed, lines_end, Between, at_begin}
use Rattle.leaf_runs.specs.Laws.{BlocksStand}
use Rattle.leaf_runs.proofs.Edges.{Copies, Coming, copy_edges}
use Rattle.leaf_runs.proofs.Targets.{Next_block, in_different, either_in, case_in, next_block, one_site}
use Rattle.leaf_runs.proofs.Leaving.{read_arrives, by_way, coming_passes, arrived_held, passes}

-- ---- where the code of a block stands

-- a block that is reached, with its code, which is ready
pub record Here (s : Setting) (i b : ℕ) (block : Block) (site : ℕ) : Type 0 where
  pub placed : Placed s i b block site
  pub ready : BlockReady s b block placed.leaf.start

abbrev pub here_of : (s : Setting) → BlocksStand s → (i b : ℕ) (block : Block) (site : ℕ) → Placed s i b block site → Here s i b block site
here_of s stand i b block site placed =
    record { placed = placed; ready = stand.ready b block placed.leaf.start placed.reached placed.stands }

-- a block whose site is known
pub placed_at : (s : Setting) → BlocksStand s → (i b : ℕ) (block : Block) (site : ℕ) → Reached (declared_graph s.program) b → slice_get s.program.blocks b ≡ Some block → IsSite s b site → Placed s i b block site
placed_at s stand i b block site reached stands is_site =
    let l = stand.leaves i b block reached stands in
    let e : l.0 ≡ site = one_site s b l.0 site l.1.is_site is_site in
    record { reached = reached; stands = stands; leaf = subst (LeafStands s i b block) e l.1 }

-- code stands inside the module
has_within : (m : Module) (place : ℕ) (code : List Inst) → Has m place code → place ≤ length m.insts → place + length code ≤ length m.insts
has_within m place [] has le = omega arith
has_within m place (x ∷ code) has le =
    let lt : place < length m.insts = slice_get_within m.insts place x has.0 in
    let rest = has_within m (place + 1) code has.1 (omega (arith, lt)) in
    omega (arith, rest)

-- so does the first place of a leaf's code
start_within : (s : Setting) (i b : ℕ) (block : Block) (site : ℕ) (leaf : LeafStands s i b block site) → leaf.start ≤ length s.made.insts
start_within s i b block site leaf = ⊎_elim first (⊎_elim behind (λ lt. absurd (omega (arith, lt, leaf.ahead)))) (by_order leaf.start site)
  where
    by_order : (x y : ℕ) → (x ≡ y + 1) ⊎ ((y + 1 < x) ⊎ (x ≤ y))
    by_order x y = grind arith

    first : leaf.start ≡ site + 1 → leaf.start ≤ length s.made.insts
    first e =
        let lt = slice_get_within s.made.insts site _ leaf.is_site.label.1 in
        omega (arith, lt, e)

    behind : site + 1 < leaf.start → leaf.start ≤ length s.made.insts
    behind lt =
        let last = leaf.between (leaf.start - 1) (omega (arith, lt)) (omega (arith, lt)) in
        let inside = slice_get_within s.made.insts (leaf.start - 1) _ last.1 in
        omega (arith, inside, lt)

given_none : {A : Type 0} (o : Option A) (go : A → Step SourceState) → o ≡ None → given o go ≡ Wrong
given_none o go e = ap (λ o. given o go) e

given_some : {A : Type 0} (o : Option A) (go : A → Step SourceState) (a : A) → o ≡ Some a → given o go ≡ go a
given_some o go a e = ap (λ o. given o go) e

-- the steps of the module's machine that the end of a block may take
abbrev pub end_steps : Setting → Block → (start : ℕ) → ℕ
end_steps s block start = 2 * length s.made.insts + 1 - lines_end s block start

module _ (s : Setting) (d : Declares s) (sound : Sound s.program) (stand : BlocksStand s) (i b : ℕ) (block : Block) (site : ℕ) (here : Here s i b block site) where
  abbrev start : ℕ
  start = here.placed.leaf.start

  abbrev known : Env
  known = block_env s.context start block

  abbrev end : ℕ
  end = lines_end s block start

  abbrev edges : List Inst
  edges = edges_code s.context known end b (next_blocks block.term)

  abbrev inner : List Inst
  inner = inner_code s.context start block

  -- behind all code of the block
  abbrev behind : ℕ
  behind = start + length (block_code s.context start b block)

  abbrev Copied : Registers → State → Type 0
  Copied regs t = Copies s i b edges known end regs t (Coming s (next_blocks block.term))

  behind_is : end + length edges ≡ behind
  behind_is = let e : length (inner ++ edges) ≡ length inner + length edges = length-append inner edges in omega (arith, e)

  pub end_within : end ≤ length s.made.insts
  end_within =
      has_within s.made start inner (has_front s.made start inner edges here.placed.leaf.code) (start_within s i b block site here.placed.leaf)

  copied : (regs : Registers) (t : State) → Held s known end regs t → Copied regs t
  copied regs t h =
      copy_edges s d sound stand.blocks i b known (next_blocks block.term) end regs t here.ready.nexts h (has_back s.made start inner edges here.placed.leaf.code)

  -- ---- the next block

  goes : (x : SourceState) (t : State) (k : ℕ) → x.block ≡ b → (cs : Copied x.regs t) → In k (targets block.term) → ArrivesAt s i cs.t' k → (source.source s.program s.launch).step i x ≡ enter s.program k x → Match s (Between s) 1 (end_steps s block start) i x t
  goes x t k at cs is_target (place, is_site, a) step =
      begins 0 (length edges + a.n) x' (next a.t') (k ∷ []) (omega arith) few (leads_step (source.source s.program s.launch) i x (k ∷ []) x' step) leads (at_begin k nb.block place (placed_at s stand i k nb.block place nb.reached nb.stands is_site) begun)
    where
      nb : Next_block s.program k
      nb = next_block s.program sound b k block here.placed.reached here.placed.stands is_target

      x' : SourceState
      x' = record { block = k; spot = first_spot (slice_get s.program.blocks k); regs = x.regs; previous = x.block }

      few : length edges + a.n < end_steps s block start
      few = omega (arith, a.few, cs.held.at)

      leads : Leads (machine s) i (suc (length edges + a.n)) t (k ∷ []) (next a.t')
      leads =
          let e : length edges + suc a.n ≡ suc (length edges + a.n) = omega arith in
          subst (λ n. Leads (machine s) i n t (k ∷ []) (next a.t')) e (leads_on (machine s) i (length edges) (suc a.n) t cs.t' (next a.t') [] (k ∷ []) cs.leads (passes s i k place cs.t' is_site a))

      listed : (n : ℕ) (phi : Phi) → slice_get nb.block.phis n ≡ Some phi → Coming s (next_blocks block.term) phi
      listed n phi at' =
          (k, in_different (targets block.term) k is_target, (n, ap (λ o. slice_get (phis_of o) n) (ap (λ bs. slice_get bs k) stand.blocks ∙ nb.stands) ∙ at'))

      filled : (n : ℕ) (phi : Phi) → slice_get nb.block.phis n ≡ Some phi → Fills s x.regs x.block phi (next a.t')
      filled n phi at' =
          let at_b : Fills s x.regs b phi cs.t' = cs.fills phi (record { b = k; n = n; at = record { block = nb.block; stands = nb.stands; line = at' } }) (inl (listed n phi at')) in
          subst (λ m. Fills s x.regs m phi (next a.t')) (sym at) (λ id slot. (let f = at_b id slot in
          (f.0, a.keeps id (coming_passes s d phi.to phi.ty id slot) ∙ f.1, f.2, f.3)))

      begun : Begun s k nb.block place x' (next a.t')
      begun =
          record { block_is = refl; spot_is = refl; held = arrived_held s d i known (end + length edges) place x.regs cs.t' cs.held a; phis = filled }

  -- ---- terminators

  wrong : (x : SourceState) (t : State) → (source.source s.program s.launch).step i x ≡ Wrong → Match s (Between s) 1 (end_steps s block start) i x t
  wrong x t e = is_wrong 0 x (omega arith) (leads_none (source.source s.program s.launch) i x) e

  leaves_by : (x : SourceState) (t : State) → x.block ≡ b → (cs : Copied x.regs t) → (term : Term) → LeavesBy s i term known behind (way_of term) → WayReady s known term (way_of term) → ((k : ℕ) → In k (targets term) → In k (targets block.term)) → (source.source s.program s.launch).step i x ≡ term_step s.program term x → Match s (Between s) 1 (end_steps s block start) i x t
  leaves_by x t at cs Ret leaves ready those step =
      let r = leaves cs.t' (cs.held.at ∙ behind_is) in
      let few : length edges + r.n < end_steps s block start = omega (arith, r.few, cs.held.at) in
      let does = acts_one s i r.t' r.t'.at 253 [] Returns (Acts End (λ answer. r.t')) refl r.is refl refl in
      acts 0 (length edges + r.n) x r.t' End (λ answer. x) (λ answer. r.t') (omega arith) few (leads_none (source.source s.program s.launch) i x) step (leads_on (machine s) i (length edges) r.n t cs.t' r.t' [] [] cs.leads r.leads) does tt
  leaves_by x t at cs Unreachable leaves ready those step = wrong x t step
  leaves_by x t at cs (Go k) leaves ready those step = goes x t k at cs (those k (inl refl)) (leaves cs.t' (cs.held.at ∙ behind_is)) step
  leaves_by x t at cs (If cond there other) leaves ready those step = by_value (source.value_of x.regs cond) refl
    where
      term : Term
      term = If cond there other

      by_value : (o : Option source.Value) → source.value_of x.regs cond ≡ o → Match s (Between s) 1 (end_steps s block start) i x t
      by_value None e = wrong x t (step ∙ given_none (as_truth (source.value_of x.regs cond)) (λ b. enter s.program (if b then there else other) x) (ap as_truth e))
      by_value (Some (source.Number n)) e = wrong x t (step ∙ given_none (as_truth (source.value_of x.regs cond)) (λ b. enter s.program (if b then there else other) x) (ap as_truth e))
      by_value (Some (source.Truth b)) e =
          let k : ℕ = if b then there else other in
          let held = held_at s known (end + length edges) behind x.regs cs.t' behind_is cs.held in
          let a = by_way s i term known behind cs.t' k (next_blocks term) (cases_in term) (in_different (targets term) k (either_in b there other)) held.at leaves ready (λ tests r. read_arrives s d i known behind x.regs cs.t' cond ty.Bool (source.Truth b) k r e held tests.has (λ t' at w. tests.chosen t' (Truth b) k at w refl)) in
          goes x t k at cs (those k (either_in b there other)) a (step ∙ given_some (as_truth (source.value_of x.regs cond)) (λ b. enter s.program (if b then there else other) x) b (ap as_truth e))
  leaves_by x t at cs (Switch value default cases) leaves ready those step = by_value (source.value_of x.regs value) refl
    where
      term : Term
      term = Switch value default cases

      by_value : (o : Option source.Value) → source.value_of x.regs value ≡ o → Match s (Between s) 1 (end_steps s block start) i x t
      by_value None e = wrong x t (step ∙ given_none (as_number (source.value_of x.regs value)) (λ v. enter s.program (case_of v cases default) x) (ap as_number e))
      by_value (Some (source.Truth b)) e = wrong x t (step ∙ given_none (as_number (source.value_of x.regs value)) (λ v. enter s.program (case_of v cases default) x) (ap as_number e))
      by_value (Some (source.Number n)) e =
          let k : ℕ = case_of n cases default in
          let held = held_at s known (end + length edges) behind x.regs cs.t' behind_is cs.held in
          let a = by_way s i term known behind cs.t' k (next_blocks term) (cases_in term) (in_different (targets term) k (case_in n cases default)) held.at leaves ready (λ tests r. read_arrives s d i known behind x.regs cs.t' value ty.Int (source.Number n) k r e held tests.has (λ t' at w. tests.chosen t' (Word n) k at w refl)) in
          goes x t k at cs (those k (case_in n cases default)) a (step ∙ given_some (as_number (source.value_of x.regs value)) (λ v. enter s.program (case_of v cases default) x) n (ap as_number e))

  -- what leaves the block matches
  pub leaf_leaves : (k : ℕ) (x : SourceState) (t : State) → x.block ≡ b → x.spot ≡ Line k → slice_get block.instrs k ≡ None → Held s known end x.regs t → Match s (Between s) 1 (end_steps s block start) i x t
  leaf_leaves k x t at spot none h =
      let step = in_block s.program s.launch i b block (Line k) x here.placed.stands at spot ∙ ap (λ o. line_step s.program s.launch i k block o x) none in
      leaves_by x t at (copied x.regs t h) block.term here.placed.leaf.leaves here.ready.way (λ k h. h) step
