-- How much all blocks take: their code, what they declare and the variables of their registers, told by the counts of the program.
use Rattle.std.proofs.Common.{◌≡◌, ℕ, ◌+◌, ◌-◌, ◌<◌, ◌≤◌, Bool, List, [], ◌∷◌, ◌++◌, length, Option, Some, None, refl, sym, ap, ◌∙◌, arith}
use Rattle.std.specs.Prelude.{slice_get}
use Rattle.dxil_form.specs.declared.instr.Instr.{Instr}
use Rattle.dxil_form.specs.declared.block.Entry.{Entry}
use Rattle.dxil_form.specs.declared.block.Phi.{Phi}
use Rattle.dxil_form.specs.declared.block.Block.{Block}
use Rattle.dxil_form.specs.declared.program.Program.{Program}
use Rattle.dxil_form.specs.declared.region.Region.{Region}
use Rattle.dxil_form.specs.Sound.{Sound, lines_of, cases_in, cases_of, entries_in, entries_of}
use Rattle.dxil_form.specs.Wired.{Wired}
use Rattle.spv_form.specs.declared.module.Inst.{Inst}
use Rattle.spirv_code.specs.Plans.{Plan, Context, context_of}
use Rattle.spirv_code.specs.Leaves.{next_blocks, way_of, block_code, block_env}
use Rattle.spirv_code.specs.Exits.{exit_code}
use Rattle.spirv_code.specs.Needed.{operand_keys, phis_keys, lines_keys, end_keys, block_keys}
use Rattle.spirv_code.specs.Reads.{no_register}
use Rattle.spirv_code.specs.Rows.{leaf_code}
use Rattle.plan_ready.proofs.Among.{Among}
use Rattle.chosen_plan.proofs.Members.{among_get}
use Rattle.module_sizes.specs.Sizes.{Measure, amount, size}
use Rattle.module_sizes.proofs.Totals.{total, total_less, total_both, total_same, total_swap, times, times_sum, times_both, times_more}
use Rattle.module_sizes.proofs.Below.{below, below_places, below_only}
use Rattle.module_sizes.proofs.Common.{AreSmall, are_small}
use Rattle.module_sizes.proofs.Reading.{size_append, keys, keys_append, operand_fits}
use Rattle.module_sizes.proofs.Lines.{line_most, LineSmall, line_fits}
use Rattle.module_sizes.proofs.Blocks.{phi_most, set_most, line_room, inner_most, kept_most, leave_most, share, shares, given, entries_named, block_fits}
use Rattle.module_sizes.proofs.Exits.{case_most, exit_base, exit_most, exit_fits, end_fits}
use Rattle.module_sizes.proofs.Rows.{LeafFits}
use Rattle.module_sizes.proofs.Regions.{leaves, leaves_within, leaf_low}
use Rattle.module_sizes.proofs.Counted.{splits_many, block_or, Counts, empty, empty_counts, block_counts}

-- ---- by counts

-- an entry: its load or constant, and its store
abbrev pub entry_most : Measure → ℕ
entry_most m = amount m 2 + amount m 3

-- a phi and its variables are shorter than the longest line
phi_fits : (m : Measure) → phi_most m + (amount m 4 + amount m 4) ≤ line_most m
phi_fits Measure.Places = omega arith
phi_fits Measure.Words = omega arith

-- the most for a block
abbrev pub block_limit : Measure → Block → ℕ
block_limit m block =
    times (length block.phis + length block.instrs) (line_most m) + exit_most m block.term + times (entries_in block.phis) (entry_most m)

abbrev pub limits : Measure → List Block → ℕ
limits m blocks =
    times (lines_of blocks) (line_most m) + times (length blocks) (exit_base m) + times (cases_of blocks) (case_most m) + times (entries_of blocks) (entry_most m)

-- the end of a block is no line of these
pub limits_are : (m : Measure) (blocks : List Block) → total (block_limit m) blocks + times (length blocks) (line_most m) ≡ limits m blocks
limits_are m [] = refl
limits_are m (block ∷ blocks) =
    let k : ℕ = line_most m in
    let n : ℕ = length block.phis + length block.instrs in
    let ih = limits_are m blocks in
    let lines = times_sum (n + 1) (lines_of blocks) k in
    let last = times_sum n 1 k in
    let cases = times_sum (cases_in block.term) (cases_of blocks) (case_most m) in
    let entries = times_sum (entries_in block.phis) (entries_of blocks) (entry_most m) in
    let e : times n k + (exit_base m + times (cases_in block.term) (case_most m)) + times (entries_in block.phis) (entry_most m) + total (block_limit m) blocks + (k + times (length blocks) k) ≡ times (n + 1 + lines_of blocks) k + (exit_base m + times (length blocks) (exit_base m)) + times (cases_in block.term + cases_of blocks) (case_most m) + times (entries_in block.phis + entries_of blocks) (entry_most m) = omega (arith, ih, lines, last, cases, entries) in
    e

entries_total : (k : ℕ) (phis : List Phi) → total (λ phi. times (length phi.entries) k) phis ≡ times (entries_in phis) k
entries_total k [] = refl
entries_total k (phi ∷ phis) =
    ap (λ n. times (length phi.entries) k + n) (entries_total k phis) ∙ sym (times_sum (length phi.entries) (entries_in phis) k)

module _ (p : Program) (m : Measure) (small : AreSmall p) (c : Context) where
  -- ---- entries: each is left by one block

  abbrev entry_named : Entry → ℕ
  entry_named e = keys p m small (operand_keys e.value)

  entry_fits : (n : ℕ) (e : Entry) → total (λ b. share m b e) (below n) + entry_named e ≤ entry_most m
  entry_fits n e =
      let once = below_only e.from (leave_most m e.value) n in
      let read = operand_fits p m small e.value in
      omega (arith, once, read)

  phi_entries_fit : (n : ℕ) (entries : List Entry) → total (λ b. total (share m b) entries) (below n) + total entry_named entries ≤ times (length entries) (entry_most m)
  phi_entries_fit n entries =
      let swap = total_swap (λ b e. share m b e) (below n) entries in
      let both = total_both (λ e. total (λ b. share m b e) (below n)) entry_named entries in
      let less = total_less (λ e. total (λ b. share m b e) (below n) + entry_named e) (λ e. entry_most m) entries (λ e among. entry_fits n e) in
      let same = total_same (entry_most m) entries in
      omega (arith, swap, both, less, same)

  phis_entries_fit : (n : ℕ) (phis : List Phi) → total (λ b. shares m b phis) (below n) + entries_named p m small c phis ≤ times (entries_in phis) (entry_most m)
  phis_entries_fit n phis =
      let swap = total_swap (λ b phi. total (share m b) phi.entries) (below n) phis in
      let both = total_both (λ phi. total (λ b. total (share m b) phi.entries) (below n)) (λ phi. total entry_named phi.entries) phis in
      let less = total_less (λ phi. total (λ b. total (share m b) phi.entries) (below n) + total entry_named phi.entries) (λ phi. times (length phi.entries) (entry_most m)) phis (λ phi among. phi_entries_fit n phi.entries) in
      let all = entries_total (entry_most m) phis in
      omega (arith, swap, both, less, all)

  -- ---- lines and phis with their variables

  inner_fits : (block : Block) → ((line : Instr) → Among line block.instrs → LineSmall p line) → inner_most m block + kept_most m block ≤ times (length block.phis + length block.instrs) (line_most m)
  inner_fits block small_lines =
      let phis = times_more (length block.phis) (phi_most m + (amount m 4 + amount m 4)) (line_most m) (phi_fits m) in
      let split = times_both (length block.phis) (phi_most m) (amount m 4 + amount m 4) in
      let both = total_both (line_room m) (set_most m) block.instrs in
      let less = total_less (λ line. line_room m line + set_most m line) (λ line. line_most m) block.instrs (λ line among. (let h = line_fits p m small c no_register 0 line (small_lines line among) in omega (arith, h))) in
      let same = total_same (line_most m) block.instrs in
      let sum = times_sum (length block.phis) (length block.instrs) (line_most m) in
      omega (arith, phis, split, both, less, same, sum)

module _ (p : Program) (m : Measure) (sound : Sound p) (plan : Plan) (wants : Bool) where
  abbrev small_of : AreSmall p
  small_of = are_small p sound

  abbrev code_context : Context
  code_context = context_of p plan

  -- what the code of block b takes, with what it declares
  abbrev block_most : ℕ → Block → ℕ
  block_most b block =
      inner_most m block + (given m p.blocks b + entries_named p m small_of code_context block.phis) + exit_most m block.term

  abbrev pub block_named : Block → ℕ
  block_named block = keys p m small_of (block_keys p wants block)

  abbrev pub code_most : ℕ → ℕ
  code_most b =
      block_most b (block_or (slice_get p.blocks b)) - block_named (block_or (slice_get p.blocks b))

  abbrev pub named_at : ℕ → ℕ
  named_at b = block_named (block_or (slice_get p.blocks b))

  named_split : (block : Block) → block_named block ≡ keys p m small_of (phis_keys block.phis) + keys p m small_of (lines_keys p block.instrs) + keys p m small_of (end_keys wants block.term)
  named_split block =
      let one = keys_append p m small_of (phis_keys block.phis) (lines_keys p block.instrs ++ end_keys wants block.term) in
      let two = keys_append p m small_of (lines_keys p block.instrs) (end_keys wants block.term) in
      let e : block_named block ≡ keys p m small_of (phis_keys block.phis) + keys p m small_of (lines_keys p block.instrs) + keys p m small_of (end_keys wants block.term) = omega (arith, one, two) in
      e

  named_fits : (b : ℕ) (block : Block) → Counts p b block → block_named block ≤ block_most b block
  named_fits b block counts =
      let split = named_split block in
      let one = block_fits p m small_of code_context 0 b block counts.lines counts.entries in
      let three = end_fits p m small_of wants block.term counts.targets in
      omega (arith, split, one, three)

  code_fits : (place meet b : ℕ) (block : Block) (labels : ℕ → Option ℕ) (one : ℕ → ℕ → List Inst) (met wanted : ℕ → List Inst) (arms : ℕ) → ((k p : ℕ) → size m (one k p) ≤ amount m 2 + arms) → ((p : ℕ) → size m (met p) ≤ arms) → ((p : ℕ) → size m (wanted p) ≤ arms) → Counts p b block → size m (leaf_code code_context place meet b block labels one met wanted) ≤ block_most b block - block_named block + arms
  code_fits place meet b block labels one met wanted arms h1 h2 h3 counts =
      let code : List Inst = block_code code_context place b block in
      let q : ℕ = place + length code in
      let exit : List Inst = exit_code code_context meet block.term labels (next_blocks block.term) one met wanted (block_env code_context place block) (way_of block.term) q in
      let outer = size_append m code exit in
      let split = named_split block in
      let inner = block_fits p m small_of code_context place b block counts.lines counts.entries in
      let out = exit_fits m code_context meet block.term labels one met wanted arms h1 h2 h3 (block_env code_context place block) (way_of block.term) (splits_many block.term) q in
      let end = end_fits p m small_of wants block.term counts.targets in
      let low = named_fits b block counts in
      omega (arith, outer, split, inner, out, end, low)

  pub leaf_fits : LeafFits m code_context code_most
  leaf_fits place meet b labels one met wanted arms h1 h2 h3 = by_block (slice_get p.blocks b) refl
    where
      by_block : (o : Option Block) → slice_get p.blocks b ≡ o → size m (leaf_code code_context place meet b (block_or o) labels one met wanted) ≤ block_most b (block_or o) - block_named (block_or o) + arms
      by_block None e = code_fits place meet b empty labels one met wanted arms h1 h2 h3 (empty_counts p b)
      by_block (Some block) e =
          code_fits place meet b block labels one met wanted arms h1 h2 h3 (block_counts p sound b block e)

  -- ---- all blocks

  abbrev rest_most : Block → ℕ
  rest_most block = inner_most m block + entries_named p m small_of code_context block.phis + exit_most m block.term

  split_fits : (b : ℕ) → b < length p.blocks → code_most b + named_at b ≤ rest_most (block_or (slice_get p.blocks b)) + given m p.blocks b
  split_fits b low = by_block (slice_get p.blocks b) refl
    where
      by_block : (o : Option Block) → slice_get p.blocks b ≡ o → block_most b (block_or o) - block_named (block_or o) + block_named (block_or o) ≤ rest_most (block_or o) + given m p.blocks b
      by_block None e = let h = named_fits b empty (empty_counts p b) in omega (arith, h)
      by_block (Some block) e = let h = named_fits b block (block_counts p sound b block e) in omega (arith, h)

  whole_fits : (b : ℕ) (block : Block) → slice_get p.blocks b ≡ Some block → rest_most block + total (λ b. shares m b block.phis) (below (length p.blocks)) + kept_most m block ≤ block_limit m block
  whole_fits b block e =
      let counts = block_counts p sound b block e in
      let inner = inner_fits p m small_of code_context block counts.lines in
      let entries = phis_entries_fit p m small_of code_context (length p.blocks) block.phis in
      omega (arith, inner, entries)

  pub blocks_fit : (list : List Region) → Wired p list → total code_most (leaves list) + total named_at (leaves list) + total (kept_most m) p.blocks + times (length p.blocks) (line_most m) ≤ limits m p.blocks
  blocks_fit list wired =
      let n : ℕ = length p.blocks in
      let rest : ℕ → ℕ = λ b. rest_most (block_or (slice_get p.blocks b)) in
      let sum = total_both code_most named_at (leaves list) in
      let less = total_less (λ b. code_most b + named_at b) (λ b. rest b + given m p.blocks b) (leaves list) (λ b among. split_fits b (leaf_low p list sound wired b among)) in
      let within = leaves_within p list sound wired (λ b. rest b + given m p.blocks b) in
      let both = total_both rest (given m p.blocks) (below n) in
      let rests = below_places rest rest_most p.blocks (λ j x e. (let same : rest j ≡ rest_most x = ap (λ o. rest_most (block_or o)) e in omega (arith, same))) in
      let swap = total_swap (λ b block. shares m b block.phis) (below n) p.blocks in
      let one = total_both rest_most (λ block. total (λ b. shares m b block.phis) (below n)) p.blocks in
      let two = total_both (λ block. rest_most block + total (λ b. shares m b block.phis) (below n)) (kept_most m) p.blocks in
      let whole = total_less (λ block. rest_most block + total (λ b. shares m b block.phis) (below n) + kept_most m block) (block_limit m) p.blocks (λ block among. (let b = among_get block p.blocks among in whole_fits b.0 block b.1)) in
      let limit = limits_are m p.blocks in
      omega (arith, sum, less, within, both, rests, swap, one, two, whole, limit)
