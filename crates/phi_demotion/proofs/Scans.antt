-- What the loops over instructions and over reads keep.
use Rattle.std.proofs.Common.{◌≡◌, ℕ, ◌+◌, ◌<◌, ◌≤◌, Bool, true, false, ◌||◌, if◌then◌else◌, List, [], ◌∷◌, ◌++◌, length, map, take, get_or, fold, refl, ap, sym, ◌∙◌, subst, arith, append_assoc, length-append}
use Rattle.std.specs.List.{flat_map, list_any}
use Rattle.std.proofs.lemmas.List.{take_more, append-nil}
use Rattle.std.proofs.lemmas.List.Folds.{list_any-append}
use Rattle.std.proofs.lemmas.List.Sums.{fold_more}
use Rattle.std.proofs.lemmas.Grind.{flat_map-append}
use Rattle.dxil_form.specs.declared.value.Ty.{Ty}
use Rattle.dxil_form.specs.declared.value.Reg.{Reg}
use Rattle.dxil_form.specs.declared.value.Operand.{Operand}
use Rattle.dxil_form.specs.declared.value.Operand.TheVariants as operand
use Rattle.dxil_form.specs.declared.instr.Instr.{Instr}
use Rattle.dxil_form.specs.Registers.{Typed, reads, set_by}
use Rattle.phi_demotion.specs.declared.slots.PhiSlot.{PhiSlot}
use Rattle.phi_demotion.specs.declared.slots.CrossSlot.{CrossSlot}
use Rattle.phi_demotion.specs.Reads.{key_of, is_key, has_key, unset, line_reads, settled, is_phi, with_read}
use Rattle.phi_demotion.proofs.Keys.{same_key, or_right}

unset_same : (f g : ℕ × ℕ → Bool) → ((q : ℕ × ℕ) → f q ≡ g q) → (operands : List Operand) → flat_map (unset f) operands ≡ flat_map (unset g) operands
unset_same f g same [] = refl
unset_same f g same (a ∷ operands) =
    ap (λ xs. xs ++ flat_map (unset f) operands) (one a) ∙ ap (λ xs. unset g a ++ xs) (unset_same f g same operands)
  where
    one : (a : Operand) → unset f a ≡ unset g a
    one (operand.Reg reg ty) = ap (λ b. if b then [] else (reg, ty) ∷ []) (same (key_of reg))
    one (operand.Int n) = refl
    one (operand.Bool b) = refl
    one (operand.Undef ty) = refl

abbrev at : List (Typed Reg) → Instr → List (Reg × Ty)
at done instr = flat_map (unset (has_key done)) (reads instr)

pub line_reads_end : (done : List (Typed Reg)) (instrs : List Instr) (instr : Instr) → line_reads done (instrs ++ instr ∷ []) ≡ line_reads done instrs ++ at (done ++ settled instrs) instr
line_reads_end done [] instr =
    append-nil (at done instr) ∙ ap (λ xs. at xs instr) (sym (append-nil done))
line_reads_end done (i ∷ instrs) instr =
    ap (λ xs. at done i ++ xs) (line_reads_end (done ++ set_by i) instrs instr)
    ∙ sym (append_assoc (at done i) (line_reads (done ++ set_by i) instrs) (at ((done ++ set_by i) ++ settled instrs) instr))
    ∙ ap (λ xs. (at done i ++ line_reads (done ++ set_by i) instrs) ++ at xs instr) (append_assoc done (set_by i) (settled instrs))

pub lines_more : (instrs : List Instr) (k : ℕ) (d : Instr) (empty operands : List Operand) (start now next : List (Reg × Ty)) (has more : ℕ × ℕ → Bool) → k < length instrs → empty ≡ [] → operands ≡ empty ++ reads (get_or instrs k d) → now ≡ start ++ line_reads [] (take k instrs) → ((q : ℕ × ℕ) → has q ≡ has_key (settled (take k instrs)) q) → next ≡ now ++ flat_map (unset has) operands → ((q : ℕ × ℕ) → more q ≡ (has q || has_key (set_by (get_or instrs k d)) q)) → record { reads : next ≡ start ++ line_reads [] (take (k + 1) instrs); settled : (q : ℕ × ℕ) → more q ≡ has_key (settled (take (k + 1) instrs)) q }
lines_more instrs k d empty operands start now next has more within none stated read set step sets =
    let instr : Instr = get_or instrs k d in
    let these : operands ≡ reads instr = stated ∙ ap (λ (xs : List Operand). xs ++ reads instr) none in
    let before : List Instr = take k instrs in
    let cut : take (k + 1) instrs ≡ before ++ instr ∷ [] = take_more instrs k d within in
    let one : flat_map (unset has) operands ≡ at (settled before) instr = unset_same has (has_key (settled before)) set operands ∙ ap (flat_map (unset (has_key (settled before)))) these in
    record {
      reads = step ∙ ap (λ xs. xs ++ flat_map (unset has) operands) read ∙ ap (λ xs. (start ++ line_reads [] before) ++ xs) one
          ∙ append_assoc start (line_reads [] before) (at (settled before) instr) ∙ ap (λ xs. start ++ xs) (sym (line_reads_end [] before instr) ∙ ap (line_reads []) (sym cut));
      settled = λ q. sets q ∙ ap (λ b. b || has_key (set_by instr) q) (set q)
          ∙ sym (list_any-append (λ r. is_key (key_of r.item) q) (settled before) (set_by instr))
          ∙ ap (λ xs. has_key (settled before ++ xs) q) (sym (append-nil (set_by instr)))
          ∙ ap (λ xs. has_key xs q) (sym (flat_map-append set_by before (instr ∷ [])) ∙ ap settled (sym cut));
    }

abbrev in_slots : List CrossSlot → ℕ × ℕ → Bool
in_slots slots q = list_any (λ s. is_key (key_of s.reg) q) slots

abbrev with_slot : List CrossSlot → ℕ → Reg × Ty → List CrossSlot
with_slot slots first read =
    slots ++ (record { reg = read.0; ty = read.1; slot = first + length slots }) ∷ []

pub reads_more : (phis : List PhiSlot) (first : ℕ) (list : List (Reg × Ty)) (k : ℕ) (d : Reg × Ty) (slots next : List CrossSlot) (taken more : ℕ × ℕ → Bool) → k < length list → length slots ≤ k → slots ≡ fold (with_read (is_phi phis) first) [] (take k list) → ((q : ℕ × ℕ) → taken q ≡ (is_phi phis q || in_slots slots q)) → next ≡ (if taken (key_of (get_or list k d).0) then slots else with_slot slots first (get_or list k d)) → ((q : ℕ × ℕ) → more q ≡ (taken q || is_key (key_of (get_or list k d).0) q)) → record { few : length next ≤ k + 1; slots : next ≡ fold (with_read (is_phi phis) first) [] (take (k + 1) list); taken : (q : ℕ × ℕ) → more q ≡ (is_phi phis q || in_slots next q) }
reads_more phis first list k d slots next taken more within few made has step adds =
    record {
      few = fewer (taken key) step;
      slots = step ∙ ap (λ b. if b then slots else with_slot slots first read) (has key) ∙ ap (λ s. with_read (is_phi phis) first s read) made ∙ sym (fold_more (with_read (is_phi phis) first) [] list k d within);
      taken = λ q. adds q ∙ taken_more q (taken key) refl step;
    }
  where
    read : Reg × Ty
    read = get_or list k d

    key : ℕ × ℕ
    key = key_of (get_or list k d).0

    fewer : (b : Bool) → next ≡ (if b then slots else with_slot slots first (get_or list k d)) → length next ≤ k + 1
    fewer true e = let same : length next ≡ length slots = ap length e in omega arith
    fewer false e = let same = ap length e in omega (arith, length-append {A = CrossSlot})

    taken_more : (q : ℕ × ℕ) (b : Bool) → taken (key_of (get_or list k d).0) ≡ b → next ≡ (if b then slots else with_slot slots first (get_or list k d)) → (taken q || is_key (key_of (get_or list k d).0) q) ≡ (is_phi phis q || in_slots next q)
    taken_more q true is e =
        sym (or_right (taken q) (is_key (key_of (get_or list k d).0) q) (λ same. ap taken (sym (same_key (key_of (get_or list k d).0) q same)) ∙ is)) ∙ has q ∙ ap (λ s. is_phi phis q || in_slots s q) (sym e)
    taken_more q false is e =
        ap (λ b. b || is_key (key_of (get_or list k d).0) q) (has q) ∙ or_in (is_phi phis q) (in_slots slots q) (is_key (key_of (get_or list k d).0) q)
        ∙ ap (λ b. is_phi phis q || b) (sym (list_any-append (λ s. is_key (key_of s.reg) q) slots ((record { reg = (get_or list k d).0; ty = (get_or list k d).1; slot = first + length slots }) ∷ []))) ∙ ap (λ s. is_phi phis q || in_slots s q) (sym e)
      where
        or_in : (a b c : Bool) → ((a || b) || c) ≡ (a || (b || (c || false)))
        or_in true b c = refl
        or_in false true c = refl
        or_in false false true = refl
        or_in false false false = refl
