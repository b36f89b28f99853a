-- The keys of the parts of an access, part after part: those of a mask are added, and the others are passed over.
use Rattle.std.proofs.Common.{◌≡◌, ℕ, ◌+◌, ◌<◌, Bool, true, false, cond, List, ◌∷◌, length, drop, filter, get_or, sym, ap, ◌∙◌}
use Rattle.std.proofs.lemmas.List.{at_drop_more}
use Rattle.dxil_form.specs.declared.instr.Addr.{Addr}
use Rattle.dxil_form.specs.declared.instr.Target.{Target}
use Rattle.dxil_form.specs.declared.program.Program.{Program}
use Rattle.spirv_code.specs.declared.event.Event.{Event}
use Rattle.spirv_code.specs.declared.key.Global.{Global}
use Rattle.spirv_code.specs.Needed.{access_keys, add_all, parts_keys}
use Rattle.spirv_keys.proofs.Adding.{add_all_more}

module _ (p : Program) (t : Target) (addr : Addr) (event_of : ℕ → Event) (test : ℕ → Bool) (parts : List ℕ) where
  -- the keys of the parts that pass
  abbrev pub passing : List ℕ → List Global
  passing cs = parts_keys p t addr event_of (filter test cs)

  -- by whether the first part passes
  abbrev by_first : ℕ → List ℕ → Bool → List Global
  by_first c cs b = parts_keys p t addr event_of (cond b (c ∷ filter test cs) (filter test cs))

  -- where the parts begin with the i-th one
  from_next : (i x : ℕ) (table all : List Global) → i < length parts → x ≡ get_or parts i 0 → add_all p table (passing (drop i parts)) ≡ all → add_all p table (passing (x ∷ drop (i + 1) parts)) ≡ all
  from_next i x table all within is before =
      ap (λ y. add_all p table (passing (y ∷ drop (i + 1) parts))) is
      ∙ ap (add_all p table) (sym (at_drop_more passing parts i 0 within))
      ∙ before

  pub part_added : (i x : ℕ) (table new all : List Global) → i < length parts → x ≡ get_or parts i 0 → test x ≡ true → new ≡ add_all p table (access_keys p t addr x (event_of x)) → add_all p table (passing (drop i parts)) ≡ all → add_all p new (passing (drop (i + 1) parts)) ≡ all
  part_added i x table new all within is passes added before =
      ap (λ o. add_all p o (passing (drop (i + 1) parts))) added
      ∙ sym (add_all_more p table (access_keys p t addr x (event_of x)) (passing (drop (i + 1) parts)))
      ∙ ap (add_all p table) (sym (ap (by_first x (drop (i + 1) parts)) passes))
      ∙ from_next i x table all within is before

  pub part_passed : (i x : ℕ) (table new all : List Global) → i < length parts → x ≡ get_or parts i 0 → test x ≡ false → new ≡ table → add_all p table (passing (drop i parts)) ≡ all → add_all p new (passing (drop (i + 1) parts)) ≡ all
  part_passed i x table new all within is fails same before =
      ap (λ o. add_all p o (passing (drop (i + 1) parts))) same
      ∙ ap (add_all p table) (sym (ap (by_first x (drop (i + 1) parts)) fails))
      ∙ from_next i x table all within is before
