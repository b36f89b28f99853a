-- The blocks of the lines so far, after one line more.
use Rattle.std.proofs.Common.{ℕ, ◌≡◌, ◌<◌, ◌≤◌, ◌+◌, ◌==◌, ◌&&◌, inl, inr, refl, sym, ap, subst, ◌∙◌, arith, List, [], ◌∷◌, ◌++◌, map, filter, filter_map, find, count_by, take, drop, take_all, length, get_or, slice_get, Bool, true, false, cond, Option, Some, None, option_to_list, append-nil}
use Rattle.std.specs.List.{range_with_len}
use Rattle.std.proofs.lemmas.Bool.{cases_Bool, both_ways, ne_eqb, eq-eqb, eqb-true, and_left, and_right, or_right}
use Rattle.std.proofs.lemmas.List.{take-append-drop, length-take}
use Rattle.std.proofs.lemmas.List.Elements.{filter-append, filter_more, filter_map-append}
use Rattle.std.proofs.lemmas.List.Folds.{find-append}
use Rattle.std.proofs.lemmas.List.FromFn.{map-range_with_len_more}
use Rattle.std.proofs.lemmas.List.Sums.{count_by_more_yes, count_by_more_no}
use Rattle.std.proofs.lemmas.Option.{slice_get-get_or, slice_get_within, get_or_from_slice_get}
use Rattle.std.specs.Option.{option_or}
use Rattle.dxil_form.specs.declared.block.Block.{Block}
use Rattle.dxil_form.specs.declared.block.Phi.{Phi}
use Rattle.dxil_form.specs.declared.block.Term.{Term}
use Rattle.dxil_form.specs.declared.instr.Instr.{Instr}
use Rattle.llvm_bodies.specs.Bodies.{is_terminator}
use Rattle.llvm_bodies.specs.declared.line.Line.{Line}
use Rattle.profile_tables.specs.EntryBody.{EntryBody}
use Rattle.stated_program.specs.Instructions.{phi_of, phi_at, instruction_of, instruction, end_of}
use Rattle.stated_program.specs.Stated.{stands_in, ends, end_by, block_at, lines_of}
use Rattle.program_sound.proofs.Lists.{count_rises, find_filter, slice_get-take}
use Rattle.program_maker.specs.Blocks.{AreNumbered, grown, closed, drafted}
use Rattle.program_maker.specs.declared.blocks.Draft.{Draft}
use Rattle.program_maker.proofs.ListLaws.{one_given, filter_none, find_fails, slice_get-drop}

-- ---- terminators are no phis and no instructions

phi_code : (code : ℕ) → code ≡ 16 → is_terminator code ≡ false
phi_code code e = rw e refl

end_no_phi : (x : EntryBody) (line : Line) → ends line ≡ true → phi_of x line ≡ None
end_no_phi x line e = elim (cases_Bool (line.code == 16)) [
  | inl t ↦ absurd (both_ways _ (phi_code line.code (eqb-true line.code 16 t)) e)
  | inr f ↦ ap (λ b. cond b (Some (phi_at x line)) None) f
]

end_no_instr : (x : EntryBody) (line : Line) → ends line ≡ true → instruction_of x line ≡ None
end_no_instr x line e = ap (λ b. cond b None (Some (instruction x line))) (or_right (line.code == 16) (is_terminator line.code) e)

-- ---- the lines of a block so far

-- how many blocks have ended
abbrev pub ended : EntryBody → ℕ → ℕ
ended x i = count_by ends (take i x.lines)

abbrev pub so_far : EntryBody → ℕ → ℕ → List Line
so_far x i k = filter (stands_in k) (take i x.lines)

pub record IsDraft (x : EntryBody) (i : ℕ) (d : Draft) : Type 0 where
  pub blocks : d.blocks ≡ map (block_at x) (range_with_len 0 (ended x i))
  pub phis : d.phis ≡ filter_map (phi_of x) (so_far x i (ended x i))
  pub instrs : d.instrs ≡ filter_map (instruction_of x) (so_far x i (ended x i))

pub draft_none : (x : EntryBody) → IsDraft x 0 (record { blocks = []; phis = []; instrs = [] })
draft_none x = record { blocks = refl; phis = refl; instrs = refl }

module _ (x : EntryBody) (numbered : AreNumbered x) where
  -- a line before a place stands in no later block
  before_block : (i j : ℕ) (line : Line) → slice_get (take i x.lines) j ≡ Some line → (j < i) × (slice_get x.lines j ≡ Some line)
  before_block i j line e =
      let l : j < i = omega (arith, slice_get_within (take i x.lines) j line e, length-take i x.lines) in
      (l, sym (slice_get-take x.lines j i l) ∙ e)

  module _ (i : ℕ) (line : Line) (within : i < length x.lines) (is : line ≡ get_or x.lines i line) where
    stands : slice_get x.lines i ≡ Some line
    stands = slice_get-get_or x.lines i line within ∙ ap Some (sym is)

    here : stands_in (ended x i) line ≡ true
    here = eq-eqb line.block (ended x i) (numbered.block i line stands)

    -- the line comes behind those of its block so far
    one_more : so_far x (i + 1) (ended x i) ≡ so_far x i (ended x i) ++ line ∷ []
    one_more = filter_more (stands_in (ended x i)) x.lines i line within
        ∙ ap (λ (l : Line). so_far x i (ended x i) ++ cond (stands_in (ended x i) l) (l ∷ []) []) (sym is)
        ∙ ap (λ b. so_far x i (ended x i) ++ cond b (line ∷ []) []) here

    given_more : {Y : Type 0} (h : Line → Option Y) → filter_map h (so_far x i (ended x i) ++ line ∷ []) ≡ filter_map h (so_far x i (ended x i)) ++ option_to_list (h line)
    given_more h = filter_map-append h (so_far x i (ended x i)) (line ∷ []) ∙ ap (λ l. filter_map h (so_far x i (ended x i)) ++ l) (one_given (h line))

    -- ---- a line that ends no block

    module _ (goes_on : ends line ≡ false) where
      same_end : ended x (i + 1) ≡ ended x i
      same_end = count_by_more_no ends x.lines i line within (ap ends (sym is) ∙ goes_on)

      same_lines : {Y : Type 0} (h : Line → Option Y) → filter_map h (so_far x i (ended x i)) ++ option_to_list (h line) ≡ filter_map h (so_far x (i + 1) (ended x (i + 1)))
      same_lines h = sym (given_more h) ∙ ap (filter_map h) (sym one_more) ∙ ap (λ k. filter_map h (so_far x (i + 1) k)) (sym same_end)

      grown_more : (d : Draft) → IsDraft x i d → IsDraft x (i + 1) (grown x line d)
      grown_more d a = record {
        blocks = a.blocks ∙ ap (λ k. map (block_at x) (range_with_len 0 k)) (sym same_end);
        phis = ap (λ l. l ++ option_to_list (phi_of x line)) a.phis ∙ same_lines (phi_of x);
        instrs = ap (λ l. l ++ option_to_list (instruction_of x line)) a.instrs ∙ same_lines (instruction_of x);
      }

    -- ---- a terminator

    module _ (stops : ends line ≡ true) where
      next_end : ended x (i + 1) ≡ ended x i + 1
      next_end = count_by_more_yes ends x.lines i line within (ap ends (sym is) ∙ stops)

      later_block : (j : ℕ) (other : Line) → slice_get (drop (i + 1) x.lines) j ≡ Some other → stands_in (ended x i) other ≡ false
      later_block j other e =
          let at : slice_get x.lines (i + 1 + j) ≡ Some other = sym (slice_get-drop x.lines (i + 1) j) ∙ e in
          ne_eqb other.block (ended x i) (λ s. omega (arith, s, numbered.block (i + 1 + j) other at, count_rises ends x.lines (i + 1) (i + 1 + j) (omega arith), next_end))

      -- the block has no line behind its terminator
      whole : lines_of x (ended x i) ≡ so_far x i (ended x i) ++ line ∷ []
      whole = ap (filter (stands_in (ended x i))) (sym (take-append-drop (i + 1) x.lines)) ∙ filter-append (stands_in (ended x i)) (take (i + 1) x.lines) (drop (i + 1) x.lines)
          ∙ ap (λ l. so_far x (i + 1) (ended x i) ++ l) (filter_none (stands_in (ended x i)) (drop (i + 1) x.lines) later_block)
          ∙ append-nil (so_far x (i + 1) (ended x i)) ∙ one_more

      -- no earlier line of the block ends it
      no_end : (j : ℕ) (other : Line) → slice_get (take i x.lines) j ≡ Some other → (stands_in (ended x i) other && ends other) ≡ false
      no_end j other e = elim (cases_Bool (ends other)) [
        | inr f ↦ and_right (stands_in (ended x i) other) (ends other) f
        | inl t ↦
            let b = before_block i j other e in
            let past : get_or x.lines j other ≡ other = get_or_from_slice_get x.lines j other other b.1 in
            let more = count_by_more_yes ends x.lines j other (slice_get_within x.lines j other b.1) (ap ends past ∙ t) in
            and_left (stands_in (ended x i) other) (ends other)
            (ne_eqb other.block (ended x i) (λ s. omega (arith, s, numbered.block j other b.1, more, count_rises ends x.lines (j + 1) i (omega (arith, b.0)))))
      ]

      end_is : find ends (so_far x i (ended x i) ++ line ∷ []) ≡ Some line
      end_is = find-append ends (so_far x i (ended x i)) (line ∷ [])
          ∙ ap (λ o. option_or o (find ends (line ∷ []))) (find_filter (stands_in (ended x i)) ends (take i x.lines) ∙ find_fails (λ l. stands_in (ended x i) l && ends l) (take i x.lines) no_end)
          ∙ ap (λ b. cond b (Some line) None) stops

      nothing_more : {Y : Type 0} (h : Line → Option Y) → h line ≡ None → filter_map h (so_far x i (ended x i)) ≡ filter_map h (lines_of x (ended x i))
      nothing_more h e = sym (append-nil (filter_map h (so_far x i (ended x i)))) ∙ ap (λ o. filter_map h (so_far x i (ended x i)) ++ option_to_list o) (sym e) ∙ sym (given_more h) ∙ ap (filter_map h) (sym whole)

      abbrev same_block : List Phi → List Instr → Term → Block
      same_block phis instrs term = record { phis = phis; instrs = instrs; term = term }

      abbrev made : Draft → Block
      made d = record { phis = d.phis; instrs = d.instrs; term = end_of x line }

      made_is : (d : Draft) → IsDraft x i d → made d ≡ block_at x (ended x i)
      made_is d a =
          ap (λ ps. same_block ps d.instrs (end_of x line)) (a.phis ∙ nothing_more (phi_of x) (end_no_phi x line stops))
          ∙ ap (λ is. same_block (filter_map (phi_of x) (lines_of x (ended x i))) is (end_of x line)) (a.instrs ∙ nothing_more (instruction_of x) (end_no_instr x line stops))
          ∙ ap (λ o. same_block (filter_map (phi_of x) (lines_of x (ended x i))) (filter_map (instruction_of x) (lines_of x (ended x i))) (end_by x o)) (sym (ap (find ends) whole ∙ end_is))

      none_yet : (j : ℕ) (other : Line) → slice_get (take (i + 1) x.lines) j ≡ Some other → stands_in (ended x (i + 1)) other ≡ false
      none_yet j other e =
          let b = before_block (i + 1) j other e in
          ne_eqb other.block (ended x (i + 1)) (λ s. omega (arith, s, numbered.block j other b.1, count_rises ends x.lines j i (omega (arith, b.0)), next_end))

      empty : {Y : Type 0} (h : Line → Option Y) → [] ≡ filter_map h (so_far x (i + 1) (ended x (i + 1)))
      empty h = ap (filter_map h) (sym (filter_none (stands_in (ended x (i + 1))) (take (i + 1) x.lines) none_yet))

      closed_more : (d : Draft) → IsDraft x i d → IsDraft x (i + 1) (closed x line d)
      closed_more d a = record {
        blocks = ap (λ l. l ++ made d ∷ []) a.blocks ∙ ap (λ (b : Block). map (block_at x) (range_with_len 0 (ended x i)) ++ b ∷ []) (made_is d a)
            ∙ sym (map-range_with_len_more (block_at x) 0 (ended x i) (ended x i) (omega arith)) ∙ ap (λ k. map (block_at x) (range_with_len 0 k)) (sym next_end);
        phis = empty (phi_of x);
        instrs = empty (instruction_of x);
      }

    pub draft_more : (d : Draft) → IsDraft x i d → IsDraft x (i + 1) (drafted x line d)
    draft_more d a = go (ends line) refl where
      go : (b : Bool) → ends line ≡ b → IsDraft x (i + 1) (cond b (closed x line d) (grown x line d))
      go true e = closed_more e d a
      go false e = grown_more e d a

  pub draft_whole : (i : ℕ) (d : Draft) → IsDraft x i d → length x.lines ≤ i → d.blocks ≡ map (block_at x) (range_with_len 0 x.blocks)
  draft_whole i d a l = a.blocks ∙ ap (λ (ls : List Line). map (block_at x) (range_with_len 0 (count_by ends ls))) (take_all i x.lines l) ∙ ap (λ k. map (block_at x) (range_with_len 0 k)) (sym numbered.blocks)

pub draft_next : (x : EntryBody) → AreNumbered x → (ls : List Line) → ls ≡ x.lines → (i : ℕ) (line : Line) (old new : Draft) → IsDraft x i old → i < length ls → line ≡ get_or ls i line → new ≡ drafted x line old → IsDraft x (i + 1) new
draft_next x numbered ls same i line old new a l is e =
    let within : i < length x.lines = omega (arith, l, ap (λ (k : List Line). length k) same) in
    let here : line ≡ get_or x.lines i line = is ∙ ap (λ (k : List Line). get_or k i line) same in
    subst (λ (d : Draft). IsDraft x (i + 1) d) (sym e) (draft_more x numbered i line within here old a)
