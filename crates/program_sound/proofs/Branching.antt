-- Targets are declared blocks and not block 0, and the entries of a phi are those of its predecessors.
use Rattle.std.proofs.Common.{ℕ, zero, suc, ◌≡◌, ◌<◌, ◌≤◌, inl, inr, refl, sym, subst, ap, ap₂, ◌∙◌, arith, Bool, true, false, not, ◌||◌, ◌==◌, List, map, length, slice_get, Some}
use Rattle.std.specs.List.{list_any}
use Rattle.std.proofs.lemmas.Bool.{both_ways, and_parts, and_cases, or_parts, eqb-true, eq-eqb, not-false}
use Rattle.dx_base.specs.First.{IsSound}
use Rattle.dxil_form.specs.declared.block.Entry.{Entry}
use Rattle.dxil_form.specs.declared.block.Phi.{Phi}
use Rattle.dxil_form.specs.declared.value.Operand.{Operand}
use Rattle.dxil_form.specs.declared.value.Operand.TheVariants as operand
use Rattle.dxil_form.specs.declared.value.Reg.{Reg}
use Rattle.dxil_form.specs.declared.value.Ty.{Ty}
use Rattle.dxil_form.specs.declared.value.Ty.TheVariants as ty
use Rattle.dxil_form.specs.Branches.{branches}
use Rattle.dxil_form.specs.Sound.{PhiAt, EntriesFit}
use Rattle.llvm_bodies.specs.declared.line.Line.{Line}
use Rattle.profile_tables.specs.EntryBody.{EntryBody}
use Rattle.profile_tables.specs.Kinds.{is_plain}
use Rattle.profile_tables.specs.Operands.{operand_of, is_same, is_ty, is_bool}
use Rattle.profile_tables.specs.Parts.{has_target, entries_of, is_predecessor, leads}
use Rattle.profile_tables.specs.Read.{IsRead, IsAt}
use Rattle.profile_rules.specs.Asked.{phi_kind}
use Rattle.profile_rules.specs.Rules.{Broken, differ, has_stranger, lacks_entry, are_at_odds, is_entry, lacks}
use Rattle.stated_program.specs.Instructions.{entry_of}
use Rattle.stated_program.specs.Stated.{program_of}
use Rattle.program_sound.proofs.Lists.{any_at, none_at, map_at, map_from}
use Rattle.program_sound.proofs.Clear.{keeps5, keeps8}
use Rattle.program_sound.proofs.Blocks.{phi_line, blocks_length}
use Rattle.program_sound.proofs.Branches.{branch_line, branch_there}

-- ---- equal operands

same_ty : (a b : Ty) → is_ty a b ≡ true → a ≡ b
same_ty ty.Int ty.Int e = refl
same_ty ty.Bool ty.Bool e = refl
same_ty ty.Int ty.Bool e = cc
same_ty ty.Bool ty.Int e = cc

same_bool : (a b : Bool) → is_bool a b ≡ true → a ≡ b
same_bool true b e = sym e
same_bool false true e = cc
same_bool false false e = refl

abbrev reg_of : ℕ → ℕ → Reg
reg_of value part = record { value = value; part = part }

pub same_operand : (a b : Operand) → is_same a b ≡ true → a ≡ b
same_operand (operand.Reg r t) (operand.Reg s u) e =
    let p = and_parts _ _ e in
    let q = and_parts _ _ p.0 in
    let v : r.value ≡ s.value = eqb-true _ _ q.0 in
    let n : r.part ≡ s.part = eqb-true _ _ q.1 in
    let w : t ≡ u = same_ty t u p.1 in
    let same : r ≡ s = ap₂ reg_of v n in
    ap₂ operand.Reg same w
same_operand (operand.Int n) (operand.Int m) e = ap operand.Int (eqb-true n m e)
same_operand (operand.Bool a) (operand.Bool b) e = ap operand.Bool (same_bool a b e)
same_operand (operand.Undef t) (operand.Undef u) e = ap operand.Undef (same_ty t u e)
same_operand (operand.Reg r t) (operand.Int m) e = cc
same_operand (operand.Reg r t) (operand.Bool m) e = cc
same_operand (operand.Reg r t) (operand.Undef m) e = cc
same_operand (operand.Int n) (operand.Reg m t) e = cc
same_operand (operand.Int n) (operand.Bool m) e = cc
same_operand (operand.Int n) (operand.Undef m) e = cc
same_operand (operand.Bool n) (operand.Reg m t) e = cc
same_operand (operand.Bool n) (operand.Int m) e = cc
same_operand (operand.Bool n) (operand.Undef m) e = cc
same_operand (operand.Undef n) (operand.Reg m t) e = cc
same_operand (operand.Undef n) (operand.Int m) e = cc
same_operand (operand.Undef n) (operand.Bool m) e = cc

-- ---- the rule of a phi

pub record PhiKeeps (x : EntryBody) (line : Line) : Type 0 where
  pub plain : is_plain (phi_kind x line) ≡ true
  pub no_stranger : has_stranger x line ≡ false
  pub no_lack : lacks_entry x line ≡ false
  pub no_odds : are_at_odds x line ≡ false

module _ (x : EntryBody) (counts : List ℕ) (read : IsRead x counts) (sound : IsSound (Broken x)) where
  pub phi_keeps : (i : ℕ) (line : Line) → IsAt x i line → line.code ≡ 16 → PhiKeeps x line
  phi_keeps i line at c =
      let f : (not (is_plain (phi_kind x line)) || has_stranger x line || lacks_entry x line || are_at_odds x line) ≡ false = elim (and_cases (line.code == 16) _ (keeps5 x sound i line at)) [
        | inl n ↦ absurd (both_ways _ n (eq-eqb line.code 16 c))
        | inr m ↦ m
      ] in
      let a = or_parts _ _ f in
      let b = or_parts _ _ a.0 in
      let d = or_parts _ _ b.0 in
      record { plain = not-false _ d.0; no_stranger = d.1; no_lack = b.1; no_odds = a.1 }

  pub targets_fit : (b k : ℕ) → branches (program_of x counts) b k ≡ true → (1 ≤ k) × (k < length (program_of x counts).blocks)
  targets_fit b zero e = let g = branch_line x counts b 0 e in absurd (both_ways _ (keeps8 x sound g.i g.line g.at) g.target)
  targets_fit b (suc k) e = let g = branch_line x counts b (suc k) e in (omega arith, omega (arith, blocks_length x counts, read.targets g.i (suc k) g.line g.at g.target))

  module _ (i : ℕ) (line : Line) (at : IsAt x i line) (keeps : PhiKeeps x line) where
    all_entries : (a : ℕ) → branches (program_of x counts) a line.block ≡ true → (k : ℕ) × (e : Entry) × (slice_get (map (entry_of x) (entries_of line)) k ≡ Some e) × (e.from ≡ a)
    all_entries a e =
        let g = branch_line x counts a line.block e in
        let l : lacks line g.line ≡ false = none_at (lacks line) x.lines g.i g.line keeps.no_lack g.at in
        let t : is_entry line g.line.block ≡ true = elim (and_cases (has_target line.block g.line) _ l) [ inl n ↦ absurd (both_ways _ n g.target) | inr m ↦ not-false _ m ] in
        let f = any_at (λ p. p.1 == g.line.block) (entries_of line) t in
        (f.i, entry_of x f.item, map_from (entry_of x) (entries_of line) f.i f.item f.at, eqb-true _ _ f.holds ∙ g.block)

    only_entries : (k : ℕ) (e : Entry) → slice_get (map (entry_of x) (entries_of line)) k ≡ Some e → branches (program_of x counts) e.from line.block ≡ true
    only_entries k e h =
        let m = map_at (entry_of x) (entries_of line) k e h in
        let n = none_at (λ p. not (is_predecessor x line.block p.1)) (entries_of line) k m.0 keeps.no_stranger m.1 in
        let f = any_at (leads m.0.1 line.block) x.lines (not-false _ n) in
        let q = and_parts (f.item.block == m.0.1) (has_target line.block f.item) f.holds in
        let s : f.item.block ≡ e.from = eqb-true _ _ q.0 ∙ ap (λ (o : Entry). o.from) m.2 in
        ap (λ b. branches (program_of x counts) b line.block) (sym s) ∙ branch_there x counts read f.i line.block f.item f.at q.1

    equal_entries : (j k : ℕ) (d e : Entry) → slice_get (map (entry_of x) (entries_of line)) j ≡ Some d → slice_get (map (entry_of x) (entries_of line)) k ≡ Some e → d.from ≡ e.from → d.value ≡ e.value
    equal_entries j k d e g h s =
        let m = map_at (entry_of x) (entries_of line) j d g in
        let n = map_at (entry_of x) (entries_of line) k e h in
        let o = none_at (λ p. list_any (differ x p) (entries_of line)) (entries_of line) j m.0 keeps.no_odds m.1 in
        let q = none_at (differ x m.0) (entries_of line) k n.0 o n.1 in
        let from : m.0.1 ≡ n.0.1 = ap (λ (o : Entry). o.from) m.2 ∙ s ∙ sym (ap (λ (o : Entry). o.from) n.2) in
        let same : is_same (operand_of x m.0.0) (operand_of x n.0.0) ≡ true = elim (and_cases (m.0.1 == n.0.1) _ q) [ inl z ↦ absurd (both_ways _ z (eq-eqb _ _ from)) | inr z ↦ not-false _ z ] in
        sym (ap (λ (o : Entry). o.value) m.2) ∙ same_operand _ _ same ∙ ap (λ (o : Entry). o.value) n.2

    fit_line : EntriesFit (program_of x counts) line.block (map (entry_of x) (entries_of line))
    fit_line = record { all = all_entries; only = only_entries; equal = equal_entries }

  pub entries_fit : (b n : ℕ) (phi : Phi) → PhiAt (program_of x counts) b n phi → EntriesFit (program_of x counts) b phi.entries
  entries_fit b n phi p =
      let l = phi_line x counts b n phi p in
      let f = fit_line l.i l.line l.at (phi_keeps l.i l.line l.at l.code) in
      subst (λ k. EntriesFit (program_of x counts) k phi.entries) l.block (subst (λ (q : Phi). EntriesFit (program_of x counts) l.line.block q.entries) l.phi_is f)
