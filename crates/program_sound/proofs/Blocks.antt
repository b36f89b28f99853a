-- The blocks of the program of a body: which lines its phis, instructions and ends are.
use Rattle.std.proofs.Common.{ℕ, ◌≡◌, ◌+◌, ◌<◌, ◌⊎◌, inl, inr, refl, sym, subst, ap, ◌∙◌, arith, Bool, true, false, cond, ◌&&◌, ◌||◌, ◌==◌, List, length, take, slice_get, Option, Some, None, find}
use Rattle.std.specs.List.{range_with_len}
use Rattle.std.proofs.lemmas.Bool.{and_parts, or_parts, eqb-true}
use Rattle.std.proofs.lemmas.List.{length-map}
use Rattle.std.proofs.lemmas.Option.{same_Some, cond_some}
use Rattle.dxil_form.specs.declared.block.Block.{Block}
use Rattle.dxil_form.specs.declared.block.Phi.{Phi}
use Rattle.dxil_form.specs.declared.block.Term.{Term}
use Rattle.dxil_form.specs.declared.block.Term.TheVariants.{Unreachable}
use Rattle.dxil_form.specs.declared.instr.Instr.{Instr}
use Rattle.dxil_form.specs.Sound.{LineAt, PhiAt, EndAt}
use Rattle.llvm_bodies.specs.Bodies.{is_terminator}
use Rattle.llvm_bodies.specs.declared.line.Line.{Line}
use Rattle.profile_tables.specs.EntryBody.{EntryBody}
use Rattle.profile_tables.specs.Read.{IsAt}
use Rattle.stated_program.specs.Instructions.{phi_of, phi_at, instruction_of, instruction, end_of}
use Rattle.stated_program.specs.Stated.{program_of, block_at, stands_in, ends, end_by}
use Rattle.program_sound.proofs.Lists.{both, given, find_at, find_filter, filter_map_filter, filter_map_at, map_at, map_from, range_at, range_from, range_length}

-- the test of a phi or an instruction of a block
abbrev pub phi_in : EntryBody → ℕ → Line → Option Phi
phi_in x b = both (stands_in b) (phi_of x)

abbrev pub instr_in : EntryBody → ℕ → Line → Option Instr
instr_in x b = both (stands_in b) (instruction_of x)

abbrev pub phi_place : EntryBody → ℕ → ℕ → ℕ
phi_place x b i = given (phi_in x b) (take i x.lines)

abbrev pub instr_place : EntryBody → ℕ → ℕ → ℕ
instr_place x b i = given (instr_in x b) (take i x.lines)

pub record IsPhi (x : EntryBody) (b n : ℕ) (phi : Phi) : Type 0 where
  pub i : ℕ
  pub line : Line
  pub at : IsAt x i line
  pub code : line.code ≡ 16
  pub block : line.block ≡ b
  pub phi_is : phi_at x line ≡ phi
  pub place : n ≡ phi_place x b i

pub record IsLine (x : EntryBody) (b n : ℕ) (instr : Instr) : Type 0 where
  pub i : ℕ
  pub line : Line
  pub at : IsAt x i line
  pub no_phi : (line.code == 16) ≡ false
  pub no_end : is_terminator line.code ≡ false
  pub block : line.block ≡ b
  pub instr_is : instruction x line ≡ instr
  pub place : n ≡ instr_place x b i

pub record IsEnd (x : EntryBody) (b : ℕ) (term : Term) : Type 0 where
  pub i : ℕ
  pub line : Line
  pub at : IsAt x i line
  pub ends : is_terminator line.code ≡ true
  pub block : line.block ≡ b
  pub term_is : end_of x line ≡ term

pub both_some : {X Y : Type 0} (p : X → Bool) (h : X → Option Y) (l : X) (y : Y) → both p h l ≡ Some y → (p l ≡ true) × (h l ≡ Some y)
both_some {X} {Y} p h l y e = go (p l) refl e where
  go : (b : Bool) → p l ≡ b → cond b (h l) None ≡ Some y → (p l ≡ true) × (h l ≡ Some y)
  go true t g = (t, g)
  go false t g = cc

pub both_from : {X Y : Type 0} (p : X → Bool) (h : X → Option Y) (l : X) (y : Y) → p l ≡ true → h l ≡ Some y → both p h l ≡ Some y
both_from p h l y t e = ap (λ b. cond b (h l) None) t ∙ e

none_or_some : {Y : Type 0} (b : Bool) (y z : Y) → cond b None (Some y) ≡ Some z → (b ≡ false) × (y ≡ z)
none_or_some true y z e = cc
none_or_some false y z e = (refl, same_Some y z e)

module _ (x : EntryBody) (counts : List ℕ) where
  pub block_is : (b : ℕ) (block : Block) → slice_get (program_of x counts).blocks b ≡ Some block → (b < x.blocks) × (block_at x b ≡ block)
  unfolding program_of
  block_is b block e =
      let m = map_at (block_at x) (range_with_len 0 x.blocks) b block e in
      let r = range_at 0 x.blocks b m.0 m.1 in
      let s : b ≡ m.0 = omega (arith, r.0) in
      (r.1, ap (block_at x) s ∙ m.2)

  pub block_there : (b : ℕ) → b < x.blocks → slice_get (program_of x counts).blocks b ≡ Some (block_at x b)
  unfolding program_of
  block_there b l = let s : 0 + b ≡ b = omega arith in map_from (block_at x) (range_with_len 0 x.blocks) b b (range_from 0 x.blocks b l ∙ ap Some s)

  pub blocks_length : length (program_of x counts).blocks ≡ x.blocks
  unfolding program_of
  blocks_length = length-map (range_with_len 0 x.blocks) (block_at x) ∙ range_length 0 x.blocks

  phi_in_block : (b n : ℕ) (phi : Phi) → slice_get (block_at x b).phis n ≡ Some phi → IsPhi x b n phi
  phi_in_block b n phi e =
      let g = filter_map_at (phi_in x b) x.lines n phi (ap (λ ps. slice_get ps n) (sym (filter_map_filter (stands_in b) (phi_of x) x.lines)) ∙ e) in
      let h = both_some (stands_in b) (phi_of x) g.item phi g.gives in
      let c = cond_some (g.item.code == 16) (phi_at x g.item) phi h.1 in
      record { i = g.i; line = g.item; at = g.at; code = eqb-true _ _ c.0; block = eqb-true _ _ h.0; phi_is = c.1; place = g.place }

  pub phi_line : (b n : ℕ) (phi : Phi) → PhiAt (program_of x counts) b n phi → IsPhi x b n phi
  phi_line b n phi p = phi_in_block b n phi (ap (λ (k : Block). slice_get k.phis n) (block_is b p.block p.stands).1 ∙ p.line)

  instr_in_block : (b n : ℕ) (instr : Instr) → slice_get (block_at x b).instrs n ≡ Some instr → IsLine x b n instr
  instr_in_block b n instr e =
      let g = filter_map_at (instr_in x b) x.lines n instr (ap (λ ps. slice_get ps n) (sym (filter_map_filter (stands_in b) (instruction_of x) x.lines)) ∙ e) in
      let h = both_some (stands_in b) (instruction_of x) g.item instr g.gives in
      let c = none_or_some (g.item.code == 16 || is_terminator g.item.code) (instruction x g.item) instr h.1 in
      let o = or_parts (g.item.code == 16) (is_terminator g.item.code) c.0 in
      record { i = g.i; line = g.item; at = g.at; no_phi = o.0; no_end = o.1; block = eqb-true _ _ h.0; instr_is = c.1; place = g.place }

  pub line_line : (b n : ℕ) (instr : Instr) → LineAt (program_of x counts) b n instr → IsLine x b n instr
  line_line b n instr p = instr_in_block b n instr (ap (λ (k : Block). slice_get k.instrs n) (block_is b p.block p.stands).1 ∙ p.line)

  end_in_block : (b : ℕ) (o : Option Line) → find (λ l. stands_in b l && ends l) x.lines ≡ o → (end_by x o ≡ Unreachable) ⊎ IsEnd x b (end_by x o)
  end_in_block b None e = inl refl
  end_in_block b (Some line) e =
      let f = find_at (λ l. stands_in b l && ends l) x.lines line e in
      let t = and_parts (stands_in b line) (ends line) f.holds.1 in
      inr (record { i = f.i; line = line; at = f.at ∙ ap Some f.holds.0; ends = t.1; block = eqb-true _ _ t.0; term_is = refl })

  pub end_line : (b : ℕ) (term : Term) → EndAt (program_of x counts) b term → (term ≡ Unreachable) ⊎ IsEnd x b term
  end_line b term p =
      let o = find (λ l. stands_in b l && ends l) x.lines in
      let s : end_by x o ≡ term = ap (end_by x) (sym (find_filter (stands_in b) ends x.lines)) ∙ ap (λ (k : Block). k.term) (block_is b p.block p.stands).1 ∙ p.ends in
      elim (end_in_block b o refl) [ inl u ↦ inl (sym s ∙ u) | inr r ↦ inr (subst (IsEnd x b) s r) ]
