-- How pieces of code that keep the rules go together.
use Rattle.std.proofs.Common.{◌≡◌, ℕ, ◌+◌, ◌≤◌, true, false, List, [], ◌∷◌, ◌++◌, length, length-append, Option, Some, None, refl, sym, ap, ◌∙◌, subst, arith, ⊎_elim}
use Rattle.std.specs.Prelude.{nat_eq}
use Rattle.dxil_form.specs.declared.value.Ty.{Ty}
use Rattle.dxil_form.specs.declared.value.Reg.{Reg}
use Rattle.dxil_form.specs.declared.value.Operand.{Operand}
use Rattle.dxil_form.specs.Registers.{Sets}
use Rattle.spv_form.specs.declared.module.Inst.{Inst}
use Rattle.spv_form.specs.declared.shape.Shape.TheVariants.{Plain}
use Rattle.spv_form.specs.Shapes.{shape_of}
use Rattle.spv_ids.specs.Places.{block_of}
use Rattle.spirv_code.specs.Plans.{Context, inst, result, type_id, kept}
use Rattle.spirv_code.specs.Reads.{Env, with_id, same_reg, read_size, read_code, read_id, two_size, two_code, second_id, store_code, keep_code}
use Rattle.spirv_code.specs.Needed.{operand_keys}
use Rattle.spirv_code.specs.Lines.{value_code}
use Rattle.line_runs.specs.Held.{Setting, Has}
use Rattle.line_runs.specs.Ready.{Ready, IsSet}
use Rattle.line_runs.proofs.Tests.{some_inj, env_here, env_there, told}
use Rattle.line_runs.proofs.Pieces.{has_front, has_back}
use Rattle.line_runs.proofs.Reading.{read_length}
use Rattle.ruled_lines.specs.Kept.{KeepsRules, AreKept, IsValueAt, KnownAt, AreUsed, StandsAhead}
use Rattle.ruled_lines.proofs.Readings.{block_next, value_later, known_later, read_at}
use Rattle.ruled_lines.proofs.Stores.{keep_kept}
use Rattle.ruled_lines.proofs.Operations.{made_value}

pub kept_at : (insts : List Inst) (code : List Inst) (p q : ℕ) → p ≡ q → AreKept insts p code → AreKept insts q code
kept_at insts code p q e h = subst (λ n. AreKept insts n code) e h

pub kept_append : (insts : List Inst) (place : ℕ) (a b : List Inst) → AreKept insts place a → AreKept insts (place + length a) b → AreKept insts place (a ++ b)
kept_append insts place [] b h k =
    let e : place + 0 ≡ place = omega arith in
    kept_at insts b (place + 0) place e k
kept_append insts place (x ∷ a) b h k =
    let e : place + length (x ∷ a) ≡ place + 1 + length a = omega arith in
    (h.0, kept_append insts (place + 1) a b h.1 (kept_at insts b (place + length (x ∷ a)) (place + 1 + length a) e k))

pub kept_behind : (insts : List Inst) (place q : ℕ) (a b : List Inst) → place + length a ≡ q → AreKept insts place a → AreKept insts q b → AreKept insts place (a ++ b)
kept_behind insts place q a b e h k =
    kept_append insts place a b h (kept_at insts b q (place + length a) (sym e) k)

-- a register that is set is known
pub with_known : (s : Setting) (env : Env) (at id : ℕ) (to : Reg) (t : Ty) → KnownAt s env at → IsSet s to t → IsValueAt s.made.insts at id (type_id s.context t) → KnownAt s (with_id to id env) at
with_known s env at id to t known set value reg n e b spot u sets = ⊎_elim here there (told to reg)
  where
    here : to ≡ reg → IsValueAt s.made.insts at n (type_id s.context u)
    here same =
        let type : u ≡ t = set.one b spot u (subst (λ r. Sets s.program b spot r u) (sym same) sets) in
        let id_is : id ≡ n = some_inj (sym (env_here to id env) ∙ subst (λ r. with_id to id env r ≡ Some n) (sym same) e) in
        subst (λ m. IsValueAt s.made.insts at m (type_id s.context u)) id_is (subst (λ v. IsValueAt s.made.insts at id (type_id s.context v)) (sym type) value)

    there : same_reg to reg ≡ false → IsValueAt s.made.insts at n (type_id s.context u)
    there differs = known reg n (sym (env_there to id env reg differs) ∙ e) b spot u sets

-- behind code that keeps the rules these registers are known
pub record Goes (s : Setting) (place : ℕ) (code : List Inst) (env : Env) : Type 0 where
  pub kept : AreKept s.made.insts place code
  pub known : KnownAt s env (place + length code)

module _ (s : Setting) (low : ℕ) (ahead : StandsAhead s low) where
  abbrev insts : List Inst
  insts = s.made.insts

  abbrev c : Context
  c = s.context

  -- a store of a register stays in the block
  pub stored_block : (at id : ℕ) (slot : Option ℕ) → Has s.made at (store_code slot id) → block_of insts at ≡ block_of insts (at + length (store_code slot id))
  stored_block at id None has =
      let same : at ≡ at + 0 = omega arith in
      ap (block_of insts) same
  stored_block at id (Some v) has = block_next insts at (inst 62 (v ∷ id ∷ [])) has.0 refl

  -- code, and behind it an operation whose result a register takes
  pub ends_with : (env : Env) (place q : ℕ) (to : Reg) (t : Ty) (opcode : ℕ) (operands : List ℕ) (least most numbers : ℕ) (front : List Inst) → place + length front ≡ q → AreKept insts place front → block_of insts place ≡ block_of insts q → Has s.made q (value_code c q to t opcode operands) → KeepsRules insts q (inst opcode (type_id c t ∷ result c q ∷ operands)) → shape_of opcode ≡ Some (Plain true true least most numbers) → nat_eq opcode 248 ≡ false → IsSet s to t → KnownAt s env place → low ≤ place → Goes s place (front ++ value_code c q to t opcode operands) (with_id to (result c q) env)
  ends_with env place q to t opcode operands least most numbers front at kept_front one has rules shape other set known behind =
      let x : Inst = inst opcode (type_id c t ∷ result c q ∷ operands) in
      let keeps : List Inst = keep_code c to t (result c q) in
      let end : ℕ = place + length (front ++ (x ∷ keeps)) in
      let long = length-append front (x ∷ keeps) in
      let end_is : q + 1 + length keeps ≡ end = omega (arith, long, at) in
      let value = made_value s low ahead q opcode (type_id c t) (result c q) operands least most numbers has.0 shape other in
      let stays = one ∙ block_next insts q x has.0 other ∙ stored_block (q + 1) (result c q) (c.slot (kept to t)) has.1 ∙ ap (block_of insts) end_is in
      let stays_behind = stored_block (q + 1) (result c q) (c.slot (kept to t)) has.1 ∙ ap (block_of insts) end_is in
      record {
        kept = kept_behind insts place q front (x ∷ keeps) at kept_front (rules, keep_kept s low ahead (q + 1) (result c q) to t value (omega (arith, at, behind)));
        known = with_known s env end (result c q) to t (known_later s env place end (omega arith) stays known) set (value_later insts (q + 1) end (result c q) (type_id c t) (omega (arith, end_is)) stays_behind value);
      }

  -- ---- two reads

  pub record Two_at (env : Env) (place : ℕ) (a b : Operand) (t u : Ty) : Type 0 where
    pub kept : AreKept insts place (two_code c env place a b)
    pub first : IsValueAt insts (place + two_size c env a b) (read_id c env place a) (type_id c t)
    pub second : IsValueAt insts (place + two_size c env a b) (second_id c env place a b) (type_id c u)
    pub block : block_of insts place ≡ block_of insts (place + two_size c env a b)

  pub two_at : (env : Env) (place : ℕ) (a b : Operand) (t u : Ty) → low ≤ place → Ready s env a t → Ready s env b u → AreUsed s (operand_keys a) → AreUsed s (operand_keys b) → KnownAt s env place → Has s.made place (two_code c env place a b) → Two_at env place a b t u
  two_at env place a b t u behind ra rb ua ub known has =
      let p : ℕ = place + read_size c env a in
      let front = read_code c env place a in
      let back = read_code c env p b in
      let size = read_length c env place a in
      let has_b = subst (λ n. Has s.made (place + n) back) size (has_back s.made place front back has) in
      let one = read_at s low ahead env place a t behind ra ua known (has_front s.made place front back has) in
      let two = read_at s low ahead env p b u (omega (arith, behind)) rb ub (known_later s env place p (omega arith) one.block known) has_b in
      let end_is : p + read_size c env b ≡ place + two_size c env a b = omega arith in
      record {
        kept = kept_behind insts place p front back (ap (λ n. place + n) size) one.kept two.kept;
        first = value_later insts p (place + two_size c env a b) (read_id c env place a) (type_id c t) (omega arith) (two.block ∙ ap (block_of insts) end_is) one.value;
        second = subst (λ n. IsValueAt insts n (second_id c env place a b) (type_id c u)) end_is two.value;
        block = one.block ∙ two.block ∙ ap (block_of insts) end_is;
      }
