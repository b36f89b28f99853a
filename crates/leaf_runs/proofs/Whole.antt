-- All states at the beginning of a block, or between two events of it, match; so the program and the module do the same.
use Rattle.std.proofs.Common.{◌≡◌, ℕ, suc, ◌+◌, ◌-◌, ◌*◌, ◌≤◌, ◌<◌, List, [], ◌∷◌, ◌++◌, length, length-append, Some, refl, ap, ◌∙◌, subst, arith}
use Rattle.std.specs.Prelude.{slice_get}
use Rattle.dxil_form.specs.declared.block.Phi.{Phi}
use Rattle.dxil_form.specs.declared.block.Block.{Block}
use Rattle.dxil_form.specs.Sound.{Sound, lines_of}
use Rattle.spv_form.specs.declared.module.Inst.{Inst}
use Rattle.dxil_meaning.specs.Fits.{Fits}
use Rattle.dxil_meaning.proofs.Simulation.{leads_none, leads_step, leads_on}
use Rattle.dxil_meaning.proofs.Budget.{with_room, prepend}
use Rattle.dxil_meaning.specs.Source.{State as SourceState, Phis, Line, source, first_spot, after_phis, at_line}
use Rattle.spirv_meaning.specs.Target.{State}
use Rattle.spirv_meaning.specs.Same.{source_steps, target_steps}
use Rattle.spirv_code.specs.Reads.{Env, no_register}
use Rattle.spirv_code.specs.Lines.{lines_code}
use Rattle.spirv_code.specs.Leaves.{group_code, group_env, edges_code, next_blocks, inner_code, block_env}
use Rattle.line_runs.specs.Held.{Setting, machine}
use Rattle.line_runs.specs.Declared.{Declares}
use Rattle.line_runs.proofs.Pieces.{has_front, has_back}
use Rattle.access_runs.proofs.Stepping.{held_at}
use Rattle.block_runs.specs.Inside.{Left, Nears, Inside, at_line as inside_line}
use Rattle.block_runs.specs.Laws.{Match}
use Rattle.block_runs.proofs.Sources.{in_block}
use Rattle.block_runs.proofs.Whole.{blocks_run}
use Rattle.leaf_runs.specs.Begun.{Begun}
use Rattle.leaf_runs.specs.Between.{lines_end, Between, at_begin, inside}
use Rattle.leaf_runs.specs.Laws.{BlocksStand, LeavesMatch}
use Rattle.leaf_runs.proofs.Groups.{pass_variables, still_fills, group_runs}
use Rattle.leaf_runs.proofs.Targets.{lines_in}
use Rattle.leaf_runs.proofs.Ends.{Here, here_of, end_steps, end_within, leaf_leaves}

module _ (s : Setting) (d : Declares s) (sound : Sound s.program) (fits : Fits s.program s.launch) (stand : BlocksStand s) (i b : ℕ) (block : Block) (site : ℕ) (here : Here s i b block site) where
  abbrev start : ℕ
  start = here.placed.leaf.start

  abbrev known : Env
  known = block_env s.context start block

  abbrev end : ℕ
  end = lines_end s block start

  -- behind the phis
  abbrev front : List Inst
  front = group_code s.context start block.phis

  abbrev known_front : Env
  known_front = group_env s.context no_register start block.phis

  abbrev place_front : ℕ
  place_front = start + length front

  inside_match : (x : SourceState) (t : State) → Inside s b block end known i x t → Match s (Between s) (4 * length block.instrs + 4 + 1) (target_steps s.made) i x t
  inside_match x t h =
      let le : end ≤ length s.made.insts = end_within s d sound stand i b block site here in
      let all = blocks_run s d sound fits b block end known here.placed.stands i 1 (end_steps s block start) (Between s) (λ x t h. inside b block site here.placed h) (leaf_leaves s d sound stand i b block site here) x t h in
      with_room SourceState State (source s.program s.launch) (machine s) (Between s) (4 * length block.instrs + 4 + 1) (end + suc (end_steps s block start)) (4 * length block.instrs + 4 + 1) (target_steps s.made) i x t (omega arith) (omega (arith, le)) all

  lines_left : Left s block.instrs known_front place_front end known
  lines_left =
      let c = s.context in
      let lines : List Inst = lines_code c known_front place_front block.instrs in
      let edges : List Inst = edges_code c known end b (next_blocks block.term) in
      let both = has_front s.made start (inner_code c start block) edges here.placed.leaf.code in
      let size : length (front ++ lines) ≡ length front + length lines = length-append front lines in
      let e : place_front + length lines ≡ end = omega (arith, size) in
      record { ready = here.ready.lines; has = has_back s.made start front lines both; ends = e; knows = refl }

  -- at the first line, of a state whose registers are those behind the phis
  first_line : (x : SourceState) (t : State) → x.block ≡ b → x.spot ≡ Line 0 → Nears s i known_front place_front x.regs t → Inside s b block end known i x t
  first_line x t at spot near = inside_line 0 block.instrs known_front place_front at spot refl lines_left near

  -- the module's machine is on its way through the phis
  phis_near : (x : SourceState) (t : State) → Begun s b block site x t → Nears s i known_front place_front (after_phis x.regs x.previous block.phis x.regs) t
  phis_near x t begun =
      let has = has_front s.made start front (lines_code s.context known_front place_front block.instrs) (has_front s.made start (inner_code s.context start block) (edges_code s.context known end b (next_blocks block.term)) here.placed.leaf.code) in
      let ahead : site < start = here.placed.leaf.ahead in
      let n : ℕ = start - (site + 1) in
      let whole : site + 1 + n ≡ start = omega (arith, ahead) in
      let p = pass_variables s i n no_register (site + 1) x.regs t (λ k le lt. here.placed.leaf.between k (omega arith) (omega (arith, whole))) begun.held in
      let fills = λ (n : ℕ) (phi : Phi) (at : slice_get block.phis n ≡ Some phi). still_fills s x.regs x.previous phi t p.t' (λ reg u variable slot. p.locals variable) (begun.phis n phi at) in
      let a = group_runs s d i x.regs x.previous block.phis no_register start x.regs p.t' here.ready.phis fills (held_at s no_register (site + 1 + n) start x.regs p.t' whole p.held) has in
      record {
        n = n + length front;
        few = omega (arith, whole);
        t' = a.t';
        leads = leads_on (machine s) i n (length front) t p.t' a.t' [] [] p.leads a.leads;
        held = a.held;
      }

  begun_match : (x : SourceState) (t : State) → Begun s b block site x t → Match s (Between s) (source_steps s.program) (target_steps s.made) i x t
  begun_match x t begun = by_phis block.phis refl
    where
      spot_is : x.spot ≡ first_spot (Some block)
      spot_is = begun.spot_is ∙ ap first_spot here.placed.stands

      room : length block.phis + length block.instrs + 1 ≤ lines_of s.program.blocks
      room = lines_in s.program.blocks b block here.placed.stands

      by_phis : (phis : List Phi) → block.phis ≡ phis → Match s (Between s) (source_steps s.program) (target_steps s.made) i x t
      by_phis [] e =
          let spot : x.spot ≡ Line 0 = spot_is ∙ ap (λ ps. first_spot (Some (record { phis = ps; instrs = block.instrs; term = block.term }))) e in
          let near : Nears s i known_front place_front x.regs t = subst (λ ps. Nears s i known_front place_front (after_phis x.regs x.previous ps x.regs) t) e (phis_near x t begun) in
          with_room SourceState State (source s.program s.launch) (machine s) (Between s) (4 * length block.instrs + 4 + 1) (target_steps s.made) (source_steps s.program) (target_steps s.made) i x t (omega (arith, room)) (omega arith) (inside_match x t (first_line x t begun.block_is spot near))
      by_phis (phi ∷ phis) e =
          let spot : x.spot ≡ Phis = spot_is ∙ ap (λ ps. first_spot (Some (record { phis = ps; instrs = block.instrs; term = block.term }))) e in
          let x' : SourceState = at_line 0 (after_phis x.regs x.previous block.phis x.regs) x in
          let step = in_block s.program s.launch i b block Phis x here.placed.stands begun.block_is spot in
          let size : length block.phis ≡ suc (length phis) = ap length e in
          let after = prepend SourceState State (source s.program s.launch) (machine s) (Between s) (4 * length block.instrs + 4 + 1) (target_steps s.made) 0 i x x' t t (leads_step (source s.program s.launch) i x [] x' step) (leads_none (machine s) i t) (inside_match x' t (first_line x' t begun.block_is refl (phis_near x t begun))) in
          with_room SourceState State (source s.program s.launch) (machine s) (Between s) (suc (4 * length block.instrs + 4 + 1)) (0 + target_steps s.made) (source_steps s.program) (target_steps s.made) i x t (omega (arith, room, size)) (omega arith) after

pub leaves_match : LeavesMatch
leaves_match s d sound fits stand i x t (at_begin b block site placed begun) =
    begun_match s d sound fits stand i b block site (here_of s stand i b block site placed) x t begun
leaves_match s d sound fits stand i x t (inside b block site placed h) =
    let room = lines_in s.program.blocks b block placed.stands in
    with_room SourceState State (source s.program s.launch) (machine s) (Between s) (4 * length block.instrs + 4 + 1) (target_steps s.made) (source_steps s.program) (target_steps s.made) i x t (omega (arith, room)) (omega arith) (inside_match s d sound fits stand i b block site (here_of s stand i b block site placed) x t h)
