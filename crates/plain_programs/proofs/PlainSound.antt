-- A program of plain blocks is sound.
use Rattle.std.proofs.Common.{◌≡◌, inl, inr, ℕ, zero, suc, ◌+◌, ◌<◌, ◌≤◌, true, List, [], ◌∷◌, ◌++◌, length, get_or, map, eqb, Option, Some, None, refl, sym, ap, subst, ◌∙◌, arith, rules, length-append}
use Rattle.std.proofs.lemmas.Bool.{cases_eq, or_cases, eqb-true, false≢true}
use Rattle.std.proofs.lemmas.Option.{none-some, same_Some, some_pair_parts, slice_get_within}
use Rattle.std.specs.List.{slice_get}
use Rattle.dxil_form.specs.declared.value.Ty.{Ty}
use Rattle.dxil_form.specs.declared.value.Reg.{Reg}
use Rattle.dxil_form.specs.declared.value.Operand.{Operand}
use Rattle.dxil_form.specs.declared.value.Operand.TheVariants as operand
use Rattle.dxil_form.specs.declared.instr.Instr.{Instr}
use Rattle.dxil_form.specs.declared.block.Block.{Block}
use Rattle.dxil_form.specs.declared.block.Phi.{Phi}
use Rattle.dxil_form.specs.declared.block.Term.{Term}
use Rattle.dxil_form.specs.declared.block.Term.TheVariants.{Switch}
use Rattle.dxil_form.specs.declared.program.Program.{Program}
use Rattle.dxil_form.specs.declared.program.Resource.{Resource}
use Rattle.dxil_form.specs.Branches.{branches, targets_in, has}
use Rattle.dxil_form.specs.Registers.{Typed, Spot, Sets, SetsAt, term_operands}
use Rattle.dxil_form.specs.Registers.Spot.{At_phi, At_line}
use Rattle.dxil_form.specs.Sound.{Sound, PhiAt, LineAt, EndAt, HasType, TermFits, LocalFits, lines_of, cases_in, cases_of, entries_of, entries_in}
use Rattle.region_laws.proofs.Places.{front, last, cases_last}
use Rattle.plain_programs.specs.Plain.{AreTargets, AreNumbered, IsLiteral, IsPlainTerm, IsPlain, ArePlain}

no_item : {A : Type 0} (xs : List A) (n : ℕ) (x : A) → xs ≡ [] → slice_get xs n ≡ Some x → ⊥
no_item {A} xs n x e h = let P : List A → Type 0 = λ l. slice_get l n ≡ Some x in none-some x (subst P e h)

module _ (blocks : List Block) (some : 1 ≤ length blocks) (few : length blocks ≤ 8192) (room : cases_of blocks ≤ 65536) (plain : ArePlain (length blocks) blocks) where
  abbrev program : List ℕ → Program
  program local = record { local = local; resources = []; shared = []; blocks = blocks }

  module _ (local : List ℕ) (one : local ≡ 1 ∷ 1 ∷ 1 ∷ []) where
    no_set : (b : ℕ) (spot : Spot) (reg : Reg) (ty : Ty) → Sets (program local) b spot reg ty → ⊥
    no_set b spot reg ty s = at spot s.sets
      where
        is : IsPlain (length blocks) s.block
        is = plain b s.block s.stands

        at : (spot : Spot) → SetsAt s.block spot reg ty → ⊥
        at (At_phi n) (phi, h, _, _) = no_item s.block.phis n phi is.no_phis h
        at (At_line n) (instr, h, _) = no_item s.block.instrs n instr is.no_lines h

    no_phi : (b n : ℕ) (phi : Phi) → PhiAt (program local) b n phi → ⊥
    no_phi b n phi h = no_item h.block.phis n phi (plain b h.block h.stands).no_phis h.line

    no_line : (b n : ℕ) (instr : Instr) → LineAt (program local) b n instr → ⊥
    no_line b n instr h = no_item h.block.instrs n instr (plain b h.block h.stands).no_lines h.line

    goes : (b k : ℕ) → branches (program local) b k ≡ true → (1 ≤ k) × (k < length blocks)
    goes b k t = at (slice_get blocks b) refl t
      where
        at : (o : Option Block) → slice_get blocks b ≡ o → has k (targets_in o) ≡ true → (1 ≤ k) × (k < length blocks)
        at None e t = absurd (false≢true t)
        at (Some block) e t = (plain b block e).ends.goes k t

    end_type : (b k : ℕ) (term : Term) (a : Typed Operand) → EndAt (program local) b term → slice_get (term_operands term) k ≡ Some a → HasType (program local) a.item a.ty
    end_type b k term a h s =
        let P : Term → Type 0 = λ z. slice_get (term_operands z) k ≡ Some a in
        let Q : Operand → Type 0 = λ z. HasType (program local) z a.ty in
        elim ((plain b h.block h.stands).ends.reads k a (subst P (sym h.ends) s)) [
          | inl (x, y) ↦ subst Q (sym x) (sym y)
          | inr (x, y) ↦ subst Q (sym x) (sym y)
        ]

    end_fits : (b : ℕ) (term : Term) → EndAt (program local) b term → TermFits term
    end_fits b term h = let P : Term → Type 0 = λ z. TermFits z in subst P h.ends (plain b h.block h.stands).ends.fits

    lines_count : (l : List Block) → ((b : ℕ) (block : Block) → slice_get l b ≡ Some block → IsPlain (length blocks) block) → lines_of l ≡ length l
    lines_count [] h = refl
    lines_count (block ∷ l) h =
        let is = h 0 block refl in
        let x = ap (λ (z : List Phi). length z) is.no_phis in
        let y = ap (λ (z : List Instr). length z) is.no_lines in
        let n = lines_count l (λ b c k. h (suc b) c k) in omega arith

    entries_count : (l : List Block) → ((b : ℕ) (block : Block) → slice_get l b ≡ Some block → IsPlain (length blocks) block) → entries_of l ≡ 0
    entries_count [] h = refl
    entries_count (block ∷ l) h =
        let x = ap (λ (z : List Phi). entries_in z) (h 0 block refl).no_phis in
        let n = entries_count l (λ b c k. h (suc b) c k) in omega arith

    pub plain_sound : Sound (program local)
    plain_sound = record {
      begins = some;
      set_once = λ a b x y reg t u h k. absurd (no_set a x reg t h);
      targets = goes;
      entries = λ b n phi h. absurd (no_phi b n phi h);
      entry_types = λ b n k phi e h s. absurd (no_phi b n phi h);
      line_types = λ b n k instr a h s. absurd (no_line b n instr h);
      end_types = end_type;
      lines = λ b n instr h. absurd (no_line b n instr h);
      ends = end_fits;
      own_value = λ b n to mask target addr reg ty h i. absurd (no_line b n _ h);
      resources = λ r resource h. absurd (none-some resource h);
      apart = λ r s a b h k p. absurd (none-some a h);
      local = (let P : List ℕ → Type 0 = λ z. LocalFits z in subst P (sym one) (search rules));
      shared = record { least = search rules; most = omega arith };
      counts = record {
        blocks = few;
        instructions = (let n = lines_count blocks plain in omega arith);
        cases = room;
        entries = (let n = entries_count blocks plain in omega arith);
        resources = omega arith;
      };
    }

-- the same of empty lists by other names
pub sound_of : (blocks : List Block) → 1 ≤ length blocks → length blocks ≤ 8192 → cases_of blocks ≤ 65536 → ArePlain (length blocks) blocks
    → (local : List ℕ) (resources : List Resource) (shared : List ℕ) → local ≡ 1 ∷ 1 ∷ 1 ∷ [] → resources ≡ [] → shared ≡ []
    → Sound (record { local = local; resources = resources; shared = shared; blocks = blocks })
sound_of blocks some few room plain local resources shared x y z =
    let P : List Resource → Type 0 = λ r. Sound (record { local = local; resources = r; shared = shared; blocks = blocks }) in
    let Q : List ℕ → Type 0 = λ r. Sound (record { local = local; resources = []; shared = r; blocks = blocks }) in
    subst P (sym y) (subst Q (sym z) (plain_sound blocks some few room plain local x))

-- ---- the terminators

pub numbered_on : (ks : List ℕ) (n : ℕ) (cases : List (ℕ × ℕ)) → AreNumbered ks n cases → AreNumbered ks (n + 1) (cases ++ (n, get_or ks n 0) ∷ [])
numbered_on ks n cases are = record {
  count = (let e = length-append cases ((n, get_or ks n 0) ∷ []) in let c = are.count in omega arith);
  each = λ j l. elim (cases_eq j n) [
    | inl q ↦ (
        let P : ℕ → Type 0 = λ z. slice_get (cases ++ (n, get_or ks n 0) ∷ []) z ≡ Some (n, get_or ks n 0) in
        let Q : ℕ → Type 0 = λ z. slice_get (cases ++ (n, get_or ks n 0) ∷ []) z ≡ Some (z, get_or ks z 0) in
        subst Q (sym q) (subst P are.count (last cases (n, get_or ks n 0))))
    | inr o ↦ front cases ((n, get_or ks n 0) ∷ []) j (j, get_or ks j 0) (are.each j (omega arith))
  ];
}

pub none_numbered : (ks : List ℕ) → AreNumbered ks 0 []
none_numbered ks = record { count = refl; each = λ j l. absurd (omega arith) }

module _ (count : ℕ) (ks : List ℕ) (are : AreTargets count ks) (cases : List (ℕ × ℕ)) (numbered : AreNumbered ks (length ks) cases) (some : 1 ≤ length ks)
    (d : ℕ) (first : d ≡ get_or ks 0 0) where
  target_of : (l : List (ℕ × ℕ)) (k : ℕ) → has k (map (λ (c : ℕ × ℕ). c.1) l) ≡ true → (i : ℕ) × (j : ℕ) × (slice_get l i ≡ Some (j, k))
  target_of [] k t = absurd (false≢true t)
  target_of (x ∷ l) k t = elim (or_cases (eqb k x.1) (has k (map (λ (c : ℕ × ℕ). c.1) l)) t) [
    | inl q ↦ (0, x.0, ap (λ (z : ℕ). Some (x.0, z)) (sym (eqb-true k x.1 q)))
    | inr h ↦ (let (i, j, e) = target_of l k h in (suc i, j, e))
  ]

  switch_goes : (k : ℕ) → has k (d ∷ map (λ (c : ℕ × ℕ). c.1) cases) ≡ true → (1 ≤ k) × (k < count)
  switch_goes k t = elim (or_cases (eqb k d) (has k (map (λ (c : ℕ × ℕ). c.1) cases)) t) [
    | inl q ↦ (let P : ℕ → Type 0 = λ z. (1 ≤ z) × (z < count) in subst P (sym (eqb-true k d q ∙ first)) (are 0 (omega arith)))
    | inr h ↦ (
        let (i, j, e) = target_of cases k h in
        let n = numbered.count in
        let m = slice_get_within cases i (j, k) e in
        let l : i < length ks = omega arith in
        let same : Some (j, k) ≡ Some (i, get_or ks i 0) = sym e ∙ numbered.each i l in
        let (_, q) = some_pair_parts j i k (get_or ks i 0) same in
        let P : ℕ → Type 0 = λ z. (1 ≤ z) × (z < count) in subst P (sym q) (are i l))
  ]

  -- each case has its place as its value
  value_is : (j : ℕ) (c : ℕ × ℕ) → slice_get cases j ≡ Some c → c.0 ≡ j
  value_is j c h =
      let n = numbered.count in
      let m = slice_get_within cases j c h in
      let x : c ≡ (j, get_or ks j 0) = same_Some c (j, get_or ks j 0) (sym h ∙ numbered.each j (omega arith)) in ap (λ (z : ℕ × ℕ). z.0) x

  pub switch_plain : IsPlainTerm count (Switch (operand.Int 0) d cases)
  switch_plain = record {
    goes = switch_goes;
    reads = reads;
    fits = λ j k x y h i q. sym (value_is j x h) ∙ q ∙ value_is k y i;
  }
    where
      reads : (n : ℕ) (a : Typed Operand) → slice_get (term_operands (Switch (operand.Int 0) d cases)) n ≡ Some a → IsLiteral a
      reads zero a h = inl (ap (λ (z : Typed Operand). z.item) (sym (same_Some _ a h)), ap (λ (z : Typed Operand). z.ty) (sym (same_Some _ a h)))
      reads (suc n) a h = absurd (none-some a h)

-- ---- the blocks

pub none_plain : (count : ℕ) → ArePlain count []
none_plain count b block h = absurd (none-some block h)

pub plain_on : (count : ℕ) (blocks : List Block) (block : Block) → ArePlain count blocks → IsPlain count block → ArePlain count (blocks ++ block ∷ [])
plain_on count blocks block are is b x h = elim (cases_last blocks block b x h) [
  | inl k ↦ are b x k
  | inr (_, q) ↦ (let P : Block → Type 0 = λ z. IsPlain count z in subst P q is)
]

pub cases_on : (blocks : List Block) (block : Block) → cases_of (blocks ++ block ∷ []) ≡ cases_of blocks + cases_in block.term
cases_on [] block = omega arith
cases_on (x ∷ blocks) block = let e = cases_on blocks block in omega arith
