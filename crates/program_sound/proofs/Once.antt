-- Each register is set at one place.
use Rattle.std.proofs.Common.{ℕ, zero, suc, ◌≡◌, ◌⊎◌, inl, inr, refl, sym, subst, ap, ◌∙◌, arith, Bool, true, false, cond, ◌==◌, List, [], ◌∷◌, map, slice_get, Contains, unwrap_or, Option, Some, None, is_some}
use Rattle.std.proofs.lemmas.Bool.{both_ways, and_parts, and_from, and_right, not_from_false, eq-eqb}
use Rattle.dx_base.specs.First.{IsSound}
use Rattle.dxil_form.specs.declared.block.Phi.{Phi}
use Rattle.dxil_form.specs.declared.instr.Instr.{Instr}
use Rattle.dxil_form.specs.declared.op.OpKind.{OpKind}
use Rattle.dxil_form.specs.declared.op.OpKind.TheVariants.{Bfrev, Countbits, IMax, IMin, UMax, UMin, IMad, UMad, CreateHandle, CBufferLoad, BufferLoad, BufferStore, AtomicBinOp, AtomicCompareExchange, Barrier, ThreadId, GroupId, ThreadIdInGroup, FlatId, RawLoad, RawStore}
use Rattle.dxil_form.specs.declared.value.Reg.{Reg}
use Rattle.dxil_form.specs.declared.value.Ty.{Ty}
use Rattle.dxil_form.specs.declared.value.Ty.TheVariants as ty
use Rattle.dxil_form.specs.Registers.{Typed, typed, set_by as sets_of, part_of, parts_of, Spot, At_phi, At_line, Sets}
use Rattle.llvm_types.specs.declared.kind.LlvmType.{LlvmType}
use Rattle.llvm_types.specs.declared.kind.LlvmType.TheVariants as types
use Rattle.llvm_bodies.specs.declared.line.Line.{Line}
use Rattle.profile_lines.specs.Calls.{operation, outcome}
use Rattle.profile_lines.specs.Pool.{Pool}
use Rattle.profile_lines.specs.Values.{call_type}
use Rattle.profile_lines.specs.declared.call.Outcome.{Outcome}
use Rattle.profile_lines.specs.declared.call.Outcome.TheVariants as gives
use Rattle.profile_lines.specs.declared.known.ValueType.{ValueType}
use Rattle.profile_lines.specs.declared.known.ValueType.TheVariants.{Numbered}
use Rattle.profile_tables.specs.EntryBody.{EntryBody}
use Rattle.profile_tables.specs.Parts.{mask_of}
use Rattle.profile_tables.specs.Places.{is_i32}
use Rattle.profile_tables.specs.Read.{IsRead, IsAt, should_give, is_void, is_void_in}
use Rattle.profile_rules.specs.Asked.{is_result, type_behind, has_parts}
use Rattle.profile_rules.specs.Rules.{Broken}
use Rattle.stated_program.specs.Instructions.{instruction, set_by, call_of, called, number_of}
use Rattle.stated_program.specs.Stated.{program_of}
use Rattle.program_sound.proofs.Blocks.{phi_line, line_line, phi_place, instr_place}
use Rattle.program_sound.proofs.Ends.{same_line}
use Rattle.program_sound.proofs.Codes.{CodeIs, binop, cast, phi, load, extract, compare, select, call, rmw, gep, store, swap, unlisted, code_is, instr2, instr3, instr20, instr26, instr28, instr29, instr34, instr38, instr43, instr44, instr46, instr-other}
use Rattle.program_sound.proofs.Known.{IsGivenBy, given_once}
use Rattle.program_sound.proofs.Plain.{call_fits}

-- ---- lists of what is set

pub in_one : {X : Type 0} (a b : X) → Contains (a ∷ []) b → a ≡ b
in_one a b (zero, l, e) = e
in_one a b (suc k, l, e) = absurd (omega arith)

pub in_two : {X : Type 0} (a b c : X) → Contains (a ∷ b ∷ []) c → (a ≡ c) ⊎ (b ≡ c)
in_two a b c (zero, l, e) = inl e
in_two a b c (suc zero, l, e) = inr e
in_two a b c (suc (suc k), l, e) = absurd (omega arith)

pub in_map : {X Y : Type 0} (f : X → Y) (xs : List X) (y : Y) → Contains (map f xs) y → (x : X) × (f x ≡ y)
in_map f [] y (k, l, e) = absurd (omega arith)
in_map f (x ∷ xs) y (zero, l, e) = (x, e)
in_map f (x ∷ xs) y (suc k, l, e) = in_map f xs y (k, omega arith, e)

abbrev value_in : Typed Reg → ℕ
value_in a = a.item.value

sets_nothing : {A : Type 0} (a : Typed Reg) → Contains [] a → A
sets_nothing a (k, l, e) = absurd (omega arith)

sets_parts : (n mask : ℕ) (a : Typed Reg) → Contains (map (λ c. typed (part_of n c) ty.Int) (parts_of mask)) a → n ≡ a.item.value
sets_parts n mask a k = let m = in_map (λ c. typed (part_of n c) ty.Int) (parts_of mask) a k in ap value_in m.1

-- ---- calls

abbrev pub gives_result : Outcome → Bool
gives_result gives.Number = true
gives_result gives.Parts = true
gives_result gives.Handle = false
gives_result gives.Nothing = false

call_only : (x : EntryBody) (line : Line) (op : OpKind) (a : Typed Reg) → Contains (sets_of (call_of x line op)) a → (gives_result (outcome op) ≡ true) × (number_of line ≡ a.item.value)
call_only x line Bfrev a k = (refl, ap value_in (in_one _ a k))
call_only x line Countbits a k = (refl, ap value_in (in_one _ a k))
call_only x line IMax a k = (refl, ap value_in (in_one _ a k))
call_only x line IMin a k = (refl, ap value_in (in_one _ a k))
call_only x line UMax a k = (refl, ap value_in (in_one _ a k))
call_only x line UMin a k = (refl, ap value_in (in_one _ a k))
call_only x line IMad a k = (refl, ap value_in (in_one _ a k))
call_only x line UMad a k = (refl, ap value_in (in_one _ a k))
call_only x line CreateHandle a k = sets_nothing a k
call_only x line CBufferLoad a k = (refl, sets_parts (number_of line) (mask_of x (number_of line)) a k)
call_only x line BufferLoad a k = (refl, sets_parts (number_of line) (mask_of x (number_of line)) a k)
call_only x line BufferStore a k = sets_nothing a k
call_only x line AtomicBinOp a k = (refl, ap value_in (in_one _ a k))
call_only x line AtomicCompareExchange a k = (refl, elim (in_two _ _ a k) [ inl e ↦ ap value_in e | inr e ↦ ap value_in e ])
call_only x line Barrier a k = sets_nothing a k
call_only x line ThreadId a k = (refl, ap value_in (in_one _ a k))
call_only x line GroupId a k = (refl, ap value_in (in_one _ a k))
call_only x line ThreadIdInGroup a k = (refl, ap value_in (in_one _ a k))
call_only x line FlatId a k = (refl, ap value_in (in_one _ a k))
call_only x line RawLoad a k = (refl, sets_parts (number_of line) (mask_of x (number_of line)) a k)
call_only x line RawStore a k = sets_nothing a k

i32_not_void : (o : Option LlvmType) → is_i32 o ≡ true → is_void_in o ≡ false
i32_not_void None e = refl
i32_not_void (Some types.Void) e = cc
i32_not_void (Some rest) e = refl

parts_not_void : (x : Pool) (o : Option LlvmType) → has_parts x o ≡ true → is_void_in o ≡ false
parts_not_void x None e = refl
parts_not_void x (Some types.Void) e = cc
parts_not_void x (Some rest) e = refl

result_not_void : (x : Pool) (o : Outcome) (t : ValueType) → gives_result o ≡ true → is_result x o (type_behind x t) ≡ true → is_void x t ≡ false
result_not_void x gives.Number (Numbered ty) g e = i32_not_void (slice_get x.types ty) e
result_not_void x gives.Parts (Numbered ty) g e = parts_not_void x (slice_get x.types ty) e
result_not_void x gives.Handle (Numbered ty) g e = cc
result_not_void x gives.Nothing (Numbered ty) g e = cc
result_not_void x o t g e = refl

-- a spot of a block, and the line that sets a register there
abbrev pub spot_of : EntryBody → ℕ → ℕ → Line → Spot
spot_of x b i line = cond (line.code == 16) (At_phi (phi_place x b i)) (At_line (instr_place x b i))

pub record IsSetBy (x : EntryBody) (b : ℕ) (spot : Spot) (reg : Reg) : Type 0 where
  pub i : ℕ
  pub line : Line
  pub by : IsGivenBy x reg.value i line
  pub block : line.block ≡ b
  pub spot_is : spot ≡ spot_of x b i line

some_number : (o : Option ℕ) → is_some o ≡ true → o ≡ Some (unwrap_or o 0)
some_number None e = cc
some_number (Some n) e = refl

module _ (x : EntryBody) (counts : List ℕ) (read : IsRead x counts) (sound : IsSound (Broken x)) where
  pub gives_number : (i : ℕ) (line : Line) → IsAt x i line → should_give x.pool line ≡ true → line.value ≡ Some (number_of line)
  gives_number i line at e = some_number line.value (read.gives i line at ∙ e)

  -- a call of an operation that gives something gives a value
  pub call_number : (i : ℕ) (line : Line) (op : OpKind) → IsAt x i line → line.code ≡ 34 → operation x.pool line ≡ Some op → gives_result (outcome op) ≡ true → line.value ≡ Some (number_of line)
  call_number i line op at c e g =
      let f : is_void x.pool (call_type x.pool line) ≡ false = result_not_void x.pool (outcome op) (call_type x.pool line) g (and_parts _ _ (call_fits x counts read sound i line op at c e)).1 in
      gives_number i line at (and_from _ _ (rw c refl) (not_from_false _ (and_right (line.code == 34) _ f)))

  call_gives : (i : ℕ) (line : Line) (a : Typed Reg) → IsAt x i line → line.code ≡ 34 → (o : Option OpKind) → operation x.pool line ≡ o → Contains (sets_of (called x line o)) a → line.value ≡ Some a.item.value
  call_gives i line a at c None e k = sets_nothing a k
  call_gives i line a at c (Some op) e k = let o = call_only x line op a k in call_number i line op at c e o.0 ∙ ap Some o.1

  -- the register that an instruction sets is that of its line's value
  pub sets_value : (i : ℕ) (line : Line) (a : Typed Reg) → IsAt x i line → (line.code == 16) ≡ false → Contains (sets_of (instruction x line)) a → line.value ≡ Some a.item.value
  sets_value i line a at np k = go (code_is line.code) where
    one : (T : Ty) (instr : Instr) → instruction x line ≡ instr → sets_of instr ≡ typed (set_by line) T ∷ [] → should_give x.pool line ≡ true → line.value ≡ Some a.item.value
    one T instr e s g = gives_number i line at g ∙ ap (λ t. Some (value_in t)) (in_one (typed (set_by line) T) a (subst (λ ss. Contains ss a) (ap sets_of e ∙ s) k))

    go : CodeIs line.code → line.value ≡ Some a.item.value
    go (binop c) = one _ _ (instr2 x line c) refl (rw c refl)
    go (cast c) = one _ _ (instr3 x line c) refl (rw c refl)
    go (phi c) = absurd (both_ways _ np (eq-eqb line.code 16 c))
    go (load c) = one _ _ (instr20 x line c) refl (rw c refl)
    go (extract c) = one _ _ (instr26 x line c) refl (rw c refl)
    go (compare c) = one _ _ (instr28 x line c) refl (rw c refl)
    go (select c) = one _ _ (instr29 x line c) refl (rw c refl)
    go (call c) = call_gives i line a at c (operation x.pool line) refl (subst (λ j. Contains (sets_of j) a) (instr34 x line c) k)
    go (rmw c) = one _ _ (instr38 x line c) refl (rw c refl)
    go (gep c) = one _ _ (instr43 x line c) refl (rw c refl)
    go (store c) = sets_nothing a (subst (λ j. Contains (sets_of j) a) (instr44 x line c) k)
    go (swap c) = gives_number i line at (rw c refl) ∙ elim (in_two _ _ a (subst (λ j. Contains (sets_of j) a) (instr46 x line c) k)) [ inl e ↦ ap (λ t. Some (value_in t)) e | inr e ↦ ap (λ t. Some (value_in t)) e ]
    go (unlisted n) = sets_nothing a (subst (λ j. Contains (sets_of j) a) (instr-other x line n) k)

  set_there : (b : ℕ) (spot : Spot) (reg : Reg) (t : Ty) → Sets (program_of x counts) b spot reg t → IsSetBy x b spot reg
  set_there b (At_phi n) reg t s =
      let l = phi_line x counts b n s.sets.0 (record { block = s.block; stands = s.stands; line = s.sets.1 }) in
      let to : set_by l.line ≡ reg = ap (λ (p : Phi). p.to) l.phi_is ∙ s.sets.2 in
      record {
        i = l.i;
        line = l.line;
        block = l.block;
        by = record { at = l.at; value = gives_number l.i l.line l.at (rw l.code refl) ∙ ap (λ (r : Reg). Some r.value) to };
        spot_is = ap At_phi l.place ∙ sym (ap (λ c. cond c (At_phi (phi_place x b l.i)) (At_line (instr_place x b l.i))) (eq-eqb l.line.code 16 l.code));
      }
  set_there b (At_line n) reg t s =
      let l = line_line x counts b n s.sets.0 (record { block = s.block; stands = s.stands; line = s.sets.1 }) in
      record {
        i = l.i;
        line = l.line;
        block = l.block;
        by = record { at = l.at; value = sets_value l.i l.line (typed reg t) l.at l.no_phi (subst (λ j. Contains (sets_of j) (typed reg t)) (sym l.instr_is) s.sets.2) };
        spot_is = ap At_line l.place ∙ sym (ap (λ c. cond c (At_phi (phi_place x b l.i)) (At_line (instr_place x b l.i))) l.no_phi);
      }

  pub set_once : (a b : ℕ) (p q : Spot) (reg : Reg) (t u : Ty) → Sets (program_of x counts) a p reg t → Sets (program_of x counts) b q reg u → (a ≡ b) × (p ≡ q)
  set_once a b p q reg t u s r =
      let f = set_there a p reg t s in
      let g = set_there b q reg u r in
      let same : f.i ≡ g.i = given_once x counts read reg.value f.i g.i f.line g.line f.by g.by in
      let one : f.line ≡ g.line = same_line x counts read f.i g.i f.line g.line f.by.at g.by.at same in
      let here : a ≡ b = sym f.block ∙ ap (λ (l : Line). l.block) one ∙ g.block in
      (here, f.spot_is ∙ ap (λ n. spot_of x n f.i f.line) here ∙ ap (λ n. spot_of x b n f.line) same ∙ ap (λ l. spot_of x b g.i l) one ∙ sym g.spot_is)
