-- The counts of the program are within those of the body.
use Rattle.std.proofs.Common.{ℕ, ◌≡◌, ◌+◌, ◌≤◌, refl, sym, ap, ◌∙◌, arith, Bool, true, false, cond, ◌&&◌, ◌||◌, ◌==◌, List, [], ◌∷◌, map, length, Option, Some, None, is_some, find, filter, filter_map, count_by, sum_by}
use Rattle.std.specs.List.{range_with_len, cons_option}
use Rattle.std.proofs.lemmas.Bool.{both_ways, and_parts, eqb-true}
use Rattle.std.proofs.lemmas.List.{length-map}
use Rattle.std.proofs.lemmas.List.Sums.{sum_by-cons}
use Rattle.dx_base.specs.First.{IsSound}
use Rattle.dxil_form.specs.declared.block.Phi.{Phi}
use Rattle.dxil_form.specs.declared.block.Term.TheVariants.{Ret, Unreachable, Go, If, Switch}
use Rattle.dxil_form.specs.Sound.{CountsFit, lines_of as lines_in, cases_in as cases_in_term, cases_of as all_cases, entries_in as entries_in_phis, entries_of as all_entries}
use Rattle.llvm_bodies.specs.Bodies.{is_terminator}
use Rattle.llvm_bodies.specs.declared.line.Line.{Line}
use Rattle.profile_lines.specs.Calls.{operand}
use Rattle.profile_tables.specs.EntryBody.{EntryBody}
use Rattle.profile_tables.specs.Parts.{cases_of, entries_of}
use Rattle.profile_tables.specs.Read.{IsRead, ends_block, cases_in, entries_in}
use Rattle.profile_rules.specs.Rules.{Broken}
use Rattle.stated_program.specs.Instructions.{at, phi_of, phi_at, instruction_of, instruction, end_of, case_of, entry_of}
use Rattle.stated_program.specs.Stated.{program_of, block_at, lines_of, stands_in, ends, end_by}
use Rattle.program_sound.proofs.Lists.{find_at, find_filter, count-cons, range_length}
use Rattle.program_sound.proofs.Sums.{item_le_sum, keyed, spread, kept_length}
use Rattle.program_sound.proofs.Blocks.{blocks_length}
use Rattle.program_sound.proofs.RowsFit.{few_resources}

abbrev block_number : Line → ℕ
block_number line = line.block

module _ (x : EntryBody) where
  -- what a line counts as a phi and as an instruction
  abbrev phi_weight : Line → ℕ
  phi_weight line = cond (is_some (phi_of x line)) 1 0

  abbrev instr_weight : Line → ℕ
  instr_weight line = cond (is_some (instruction_of x line)) 1 0

  abbrev sum_at : (Line → ℕ) → ℕ → ℕ
  sum_at f k = sum_by (keyed block_number f k) x.lines

  lines_bound : (ks : List ℕ) → lines_in (map (block_at x) ks) ≡ sum_by (sum_at phi_weight) ks + sum_by (sum_at instr_weight) ks + length ks
  lines_bound [] = refl
  lines_bound (k ∷ ks) = omega (arith, lines_bound ks, sum_by-cons (sum_at phi_weight) k ks, sum_by-cons (sum_at instr_weight) k ks, kept_length (phi_of x) (stands_in k) x.lines, kept_length (instruction_of x) (stands_in k) x.lines)

  one_kind : (line : Line) → phi_weight line + instr_weight line + cond (ends_block line) 1 0 ≤ 1
  one_kind line = go (line.code == 16) (is_terminator line.code) (λ e. let c = eqb-true line.code 16 e in rw c refl) where
    go : (a b : Bool) → (a ≡ true → b ≡ false) → cond (is_some (cond a (Some (phi_at x line)) None)) 1 0 + cond (is_some (cond (a || b) None (Some (instruction x line)))) 1 0 + cond b 1 0 ≤ 1
    go true true h = absurd (both_ways true (h refl) refl)
    go true false h = omega arith
    go false true h = omega arith
    go false false h = omega arith

  all_kinds : (lines : List Line) → sum_by phi_weight lines + sum_by instr_weight lines + count_by ends_block lines ≤ length lines
  all_kinds [] = omega arith
  all_kinds (l ∷ lines) = omega (arith, all_kinds lines, one_kind l, sum_by-cons phi_weight l lines, sum_by-cons instr_weight l lines, count-cons ends_block l lines)

  -- ---- cases

  end_cases : (line : Line) → cases_in_term (end_of x line) ≤ cases_in line
  unfolding end_of
  end_cases line = go (line.code == 10) (line.code == 11) (line.code == 12) (length line.numbers == 1) where
    go : (a b c d : Bool) → cases_in_term (cond a Ret (cond b (cond d (Go (operand line 0)) (If (at x line 2) (operand line 0) (operand line 1))) (cond c (Switch (at x line 0) (operand line 1) (map (case_of x) (cases_of line))) Unreachable))) ≤ cond c (length (cases_of line)) 0
    go true b c d = omega arith
    go false true c true = omega arith
    go false true c false = omega arith
    go false false true d = omega (arith, length-map (cases_of line) (case_of x))
    go false false false d = omega arith

  block_cases : (k : ℕ) → cases_in_term (block_at x k).term ≤ sum_at cases_in k
  block_cases k = go (find ends (lines_of x k)) refl where
    go : (o : Option Line) → find ends (lines_of x k) ≡ o → cases_in_term (end_by x o) ≤ sum_at cases_in k
    go None e = omega arith
    go (Some line) e =
        let f = find_at (λ l. stands_in k l && ends l) x.lines line (sym (find_filter (stands_in k) ends x.lines) ∙ e) in
        let here : stands_in k line ≡ true = (and_parts (stands_in k line) (ends line) f.holds.1).0 in
        let w : keyed block_number cases_in k line ≡ cases_in line = ap (λ b. cond b (cases_in line) 0) here in
        omega (arith, end_cases line, w, item_le_sum (keyed block_number cases_in k) x.lines f.i line (f.at ∙ ap Some f.holds.0))

  cases_bound : (ks : List ℕ) → all_cases (map (block_at x) ks) ≤ sum_by (sum_at cases_in) ks
  cases_bound [] = omega arith
  cases_bound (k ∷ ks) = omega (arith, cases_bound ks, block_cases k, sum_by-cons (sum_at cases_in) k ks)

  -- ---- entries

  phi_entries : (line : Line) (c : Bool) (phis : List Phi) → entries_in_phis (cons_option (cond c (Some (phi_at x line)) None) phis) ≡ cond c (length (entries_of line)) 0 + entries_in_phis phis
  phi_entries line true phis = omega (arith, length-map (entries_of line) (entry_of x))
  phi_entries line false phis = omega arith

  kept_entries : (k : ℕ) (lines : List Line) → entries_in_phis (filter_map (phi_of x) (filter (stands_in k) lines)) ≡ sum_by (keyed block_number entries_in k) lines
  kept_entries k [] = refl
  kept_entries k (l ∷ lines) = go (stands_in k l) refl (kept_entries k lines) where
    go : (b : Bool) → stands_in k l ≡ b → entries_in_phis (filter_map (phi_of x) (filter (stands_in k) lines)) ≡ sum_by (keyed block_number entries_in k) lines
        → entries_in_phis (filter_map (phi_of x) (cond b (l ∷ filter (stands_in k) lines) (filter (stands_in k) lines))) ≡ sum_by (keyed block_number entries_in k) (l ∷ lines)
    go true e r =
        let w : keyed block_number entries_in k l ≡ entries_in l = ap (λ b. cond b (entries_in l) 0) e in
        omega (arith, r, w, phi_entries l (l.code == 16) (filter_map (phi_of x) (filter (stands_in k) lines)), sum_by-cons (keyed block_number entries_in k) l lines)
    go false e r =
        let w : keyed block_number entries_in k l ≡ 0 = ap (λ b. cond b (entries_in l) 0) e in
        omega (arith, r, w, sum_by-cons (keyed block_number entries_in k) l lines)

  entries_bound : (ks : List ℕ) → all_entries (map (block_at x) ks) ≡ sum_by (sum_at entries_in) ks
  entries_bound [] = refl
  entries_bound (k ∷ ks) = omega (arith, entries_bound ks, kept_entries k x.lines, sum_by-cons (sum_at entries_in) k ks)

module _ (x : EntryBody) (counts : List ℕ) (read : IsRead x counts) (sound : IsSound (Broken x)) where
  pub counts_fit : CountsFit (program_of x counts)
  unfolding program_of
  counts_fit = record {
    blocks = omega (arith, blocks_length x counts, read.few_blocks);
    instructions = omega (arith, lines_bound x (range_with_len 0 x.blocks), range_length 0 x.blocks, spread block_number (phi_weight x) 0 x.blocks x.lines, spread block_number (instr_weight x) 0 x.blocks x.lines, all_kinds x x.lines, read.blocks, read.few_lines);
    cases = omega (arith, cases_bound x (range_with_len 0 x.blocks), spread block_number cases_in 0 x.blocks x.lines, read.few_cases);
    entries = omega (arith, entries_bound x (range_with_len 0 x.blocks), spread block_number entries_in 0 x.blocks x.lines, read.few_entries);
    resources = few_resources x counts read sound;
  }
