-- Each line stands in a declared block, each block has one end, and the program has each line.
use Rattle.std.proofs.Common.{ℕ, ◌≡◌, ◌+◌, ◌-◌, ◌<◌, ◌≤◌, inl, inr, refl, sym, ap, ◌∙◌, arith, Bool, true, false, cond, ◌&&◌, ◌==◌, List, length, take, slice_get, Some, None, count_by}
use Rattle.std.proofs.lemmas.Bool.{and_parts, and_from, or_from, cases_order, eqb-true, eq-eqb}
use Rattle.std.proofs.lemmas.Option.{same_Some, slice_get_within}
use Rattle.dxil_form.specs.Sound.{LineAt, PhiAt, EndAt}
use Rattle.llvm_bodies.specs.Bodies.{is_terminator}
use Rattle.llvm_bodies.specs.declared.line.Line.{Line}
use Rattle.profile_tables.specs.EntryBody.{EntryBody}
use Rattle.profile_tables.specs.Read.{IsRead, IsAt, ends_block}
use Rattle.stated_program.specs.Instructions.{phi_of, phi_at, instruction_of, instruction, end_of}
use Rattle.stated_program.specs.Stated.{program_of, block_at, stands_in, ends, end_by}
use Rattle.program_sound.proofs.Lists.{find_at, find_from, find_filter, filter_map_filter, filter_map_from, count_before, count_apart, count_rises, get_at, nth}
use Rattle.program_sound.proofs.Blocks.{phi_in, instr_in, phi_place, instr_place, both_from, block_there}

module _ (x : EntryBody) (counts : List ℕ) (read : IsRead x counts) where
  -- the last line
  pub record HasLast : Type 0 where
    pub i : ℕ
    pub line : Line
    pub at : IsAt x i line
    pub is_last : i + 1 ≡ length x.lines

  pub last_line : HasLast
  last_line =
      let n = nth ends_block x.lines 0 (omega (arith, read.blocks, read.begins)) in
      let l : n.i < length x.lines = slice_get_within x.lines n.i n.item n.at in
      let g = get_at x.lines (length x.lines - 1) (omega arith) in
      record { i = length x.lines - 1; line = g.0; at = g.1; is_last = omega arith }

  pub block_below : (i : ℕ) (line : Line) → IsAt x i line → line.block < x.blocks
  block_below i line at =
      let l = last_line in
      let b : i < length x.lines = slice_get_within x.lines i line at in
      let r : count_by ends_block (take i x.lines) ≤ count_by ends_block (take l.i x.lines) = count_rises ends_block x.lines i l.i (omega (arith, l.is_last)) in
      let c : count_by ends_block (take l.i x.lines) < count_by ends_block x.lines = count_before ends_block x.lines l.i l.line l.at (read.last l.i l.line l.at l.is_last) in
      omega (arith, read.block i line at, read.blocks)

  -- two ends of one block are one line
  pub ends_once : (i j : ℕ) (a b : Line) → IsAt x i a → IsAt x j b → is_terminator a.code ≡ true → is_terminator b.code ≡ true → a.block ≡ b.block → i ≡ j
  ends_once i j a b at at' t t' same = elim (cases_order i j) [
    | inl e ↦ e
    | inr (inl l) ↦ absurd (omega (arith, read.block i a at, read.block j b at', count_apart ends_block x.lines i j a at t l))
    | inr (inr l) ↦ absurd (omega (arith, read.block i a at, read.block j b at', count_apart ends_block x.lines j i b at' t' l))
  ]

  pub same_line : (i j : ℕ) (a b : Line) → IsAt x i a → IsAt x j b → i ≡ j → a ≡ b
  same_line i j a b at at' e = same_Some a b (sym at ∙ ap (slice_get x.lines) e ∙ at')

  pub end_there : (i : ℕ) (line : Line) → IsAt x i line → is_terminator line.code ≡ true → EndAt (program_of x counts) line.block (end_of x line)
  end_there i line at t =
      let test : Line → Bool = λ l. stands_in line.block l && ends l in
      let f = find_from test x.lines i line at (and_from _ _ (eq-eqb line.block line.block refl) t) in
      let g = find_at test x.lines f.0 f.1 in
      let h = and_parts (stands_in line.block f.0) (ends f.0) g.holds.1 in
      let at' : IsAt x g.i f.0 = g.at ∙ ap Some g.holds.0 in
      let e : f.0 ≡ line = same_line g.i i f.0 line at' at (ends_once g.i i f.0 line at' at h.1 t (eqb-true _ _ h.0)) in
      record {
        block = block_at x line.block;
        stands = block_there x counts line.block (block_below i line at);
        ends = ap (end_by x) (find_filter (stands_in line.block) ends x.lines ∙ f.1) ∙ ap (end_of x) e;
      }

  pub phi_there : (i : ℕ) (line : Line) → IsAt x i line → line.code ≡ 16 → PhiAt (program_of x counts) line.block (phi_place x line.block i) (phi_at x line)
  phi_there i line at c =
      let here : stands_in line.block line ≡ true = eq-eqb line.block line.block refl in
      let gives : phi_of x line ≡ Some (phi_at x line) = ap (λ b. cond b (Some (phi_at x line)) None) (eq-eqb line.code 16 c) in
      record {
        block = block_at x line.block;
        stands = block_there x counts line.block (block_below i line at);
        line = ap (λ ps. slice_get ps (phi_place x line.block i)) (filter_map_filter (stands_in line.block) (phi_of x) x.lines)
            ∙ filter_map_from (phi_in x line.block) x.lines i line (phi_at x line) at (both_from (stands_in line.block) (phi_of x) line (phi_at x line) here gives);
      }

  pub line_there : (i : ℕ) (line : Line) → IsAt x i line → (line.code == 16) ≡ false → is_terminator line.code ≡ false → LineAt (program_of x counts) line.block (instr_place x line.block i) (instruction x line)
  line_there i line at c t =
      let here : stands_in line.block line ≡ true = eq-eqb line.block line.block refl in
      let gives : instruction_of x line ≡ Some (instruction x line) = ap (λ b. cond b None (Some (instruction x line))) (or_from (line.code == 16) (is_terminator line.code) c t) in
      record {
        block = block_at x line.block;
        stands = block_there x counts line.block (block_below i line at);
        line = ap (λ ps. slice_get ps (instr_place x line.block i)) (filter_map_filter (stands_in line.block) (instruction_of x) x.lines)
            ∙ filter_map_from (instr_in x line.block) x.lines i line (instruction x line) at (both_from (stands_in line.block) (instruction_of x) line (instruction x line) here gives);
      }
