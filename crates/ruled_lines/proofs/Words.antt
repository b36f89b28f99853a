-- The word of a part of an access: its code keeps the rules, and gives a number.
use Rattle.std.proofs.Common.{◌≡◌, ℕ, ◌+◌, ◌/◌, ◌≤◌, Bool, true, false, List, [], ◌∷◌, ◌++◌, length, refl, ap, ◌∙◌, subst, arith}
use Rattle.std.specs.Prelude.{nat_eq, if◌then◌else◌}
use Rattle.dxil_form.specs.declared.value.Ty.TheVariants as ty
use Rattle.dxil_form.specs.declared.value.Operand.{Operand}
use Rattle.dxil_form.specs.declared.instr.Addr.{Addr}
use Rattle.dxil_form.specs.declared.instr.Addr.TheVariants.{Byte, Element, Row, Index}
use Rattle.dxil_form.specs.declared.instr.Target.{Target}
use Rattle.dxil_form.specs.declared.instr.Target.TheVariants as target
use Rattle.spv_form.specs.declared.module.Inst.{Inst}
use Rattle.spv_ids.specs.Places.{block_of}
use Rattle.spirv_code.specs.declared.key.Sort.TheVariants as sort
use Rattle.spirv_code.specs.declared.key.Global.TheVariants.{Plain as PlainKey, Number}
use Rattle.spirv_code.specs.Plans.{Context, result, number, int_id}
use Rattle.spirv_code.specs.Reads.{Env, no_register, read_size, read_code, read_id}
use Rattle.spirv_code.specs.Needed.{operand_keys, place_reads}
use Rattle.spirv_code.specs.Accesses.{int_inst, base_size, shift_inst, base_code, base_id, counts_words, adds, word_size, word_code, word_id}
use Rattle.line_runs.specs.Held.{Setting, Has, Uses}
use Rattle.line_runs.specs.Ready.{Ready}
use Rattle.line_runs.proofs.Pieces.{has_front, has_back}
use Rattle.access_runs.specs.Parts.{AddrReady}
use Rattle.access_runs.proofs.Chains.{base_length}
use Rattle.access_runs.proofs.Locating.{ready_anywhere}
use Rattle.ruled_lines.specs.Kept.{AreKept, IsValueAt, KnownAt, AreUsed, StandsAhead}
use Rattle.ruled_lines.proofs.Facts.{number_value}
use Rattle.ruled_lines.proofs.Readings.{known_later, read_at}
use Rattle.ruled_lines.proofs.Going.{kept_behind}
use Rattle.ruled_lines.proofs.Lines.{front_used, back_used}
use Rattle.ruled_lines.proofs.Straight.{cons_kept, adding, multiplying, shifting, number_step, read_step}

-- code between two places of a block that keeps the rules, and gives a value
pub record Gives (s : Setting) (place q : ℕ) (code : List Inst) (id type : ℕ) : Type 0 where
  pub kept : AreKept s.made.insts place code
  pub value : IsValueAt s.made.insts q id type
  pub block : block_of s.made.insts place ≡ block_of s.made.insts q

module _ (s : Setting) (low : ℕ) (ahead : StandsAhead s low) (int : Uses s (PlainKey sort.Int)) where
  abbrev insts : List Inst
  insts = s.made.insts

  abbrev c : Context
  c = s.context

  -- an index that is the word itself
  index_gives : (env : Env) (place : ℕ) (index : Operand) → low ≤ place → Ready s no_register index ty.Int → AreUsed s (operand_keys index) → KnownAt s env place → Has s.made place (read_code c env place index) → Gives s place (place + read_size c env index) (read_code c env place index) (read_id c env place index) (int_id c)
  index_gives env place index behind ready used known has =
      let r = read_at s low ahead env place index ty.Int behind (ready_anywhere s env index ready) used known has in
      record { kept = r.kept; value = r.value; block = r.block }

  byte_gives : (env : Env) (place : ℕ) (at : Operand) → low ≤ place → Ready s no_register at ty.Int → Uses s (Number 2) → AreUsed s (operand_keys at) → KnownAt s env place → Has s.made place (base_code c env place (Byte at)) → Gives s place (place + base_size c env (Byte at)) (base_code c env place (Byte at)) (base_id c env place (Byte at)) (int_id c)
  byte_gives env place at behind ready two used known has =
      let q : ℕ = place + read_size c env at in
      let end : ℕ = place + (read_size c env at + 1) in
      let behind_q : low ≤ q = omega (arith, behind) in
      let id : ℕ = read_id c env place at in
      let r = read_step s low ahead env place q at ty.Int (shift_inst c q id ∷ []) refl behind (ready_anywhere s env at ready) used known has in
      let x = number_step s low ahead q end 194 id (number c 2) [] (omega arith) shifting int behind_q r.value (number_value s low ahead q 2 two behind_q) r.has in
      record { kept = kept_behind insts place q (read_code c env place at) (shift_inst c q id ∷ []) r.size r.kept (x.kept, tt); value = x.value; block = r.block ∙ x.block }

  element_gives : (env : Env) (place : ℕ) (index at : Operand) (stride : ℕ) → low ≤ place → Ready s no_register index ty.Int → Ready s no_register at ty.Int → Uses s (Number 2) → Uses s (Number (stride / 4)) → AreUsed s (operand_keys at) → AreUsed s (operand_keys index) → KnownAt s env place → Has s.made place (base_code c env place (Element index at stride)) → Gives s place (place + base_size c env (Element index at stride)) (base_code c env place (Element index at stride)) (base_id c env place (Element index at stride)) (int_id c)
  element_gives env place index at stride behind ready_index ready_at two words used_at used_index known has =
      let n : ℕ = read_size c env at in
      let m : ℕ = read_size c env index in
      let q1 : ℕ = place + n in
      let q2 : ℕ = place + (n + 1) in
      let q3 : ℕ = place + (n + 1 + m) in
      let q4 : ℕ = place + (n + 1 + m + 1) in
      let end : ℕ = place + (n + 1 + m + 2) in
      let b1 : low ≤ q1 = omega (arith, behind) in
      let b2 : low ≤ q2 = omega (arith, behind) in
      let b3 : low ≤ q3 = omega (arith, behind) in
      let b4 : low ≤ q4 = omega (arith, behind) in
      let id : ℕ = read_id c env place at in
      let id2 : ℕ = read_id c env q2 index in
      let shift : Inst = shift_inst c q1 id in
      let product : Inst = int_inst c q3 132 (id2 ∷ number c (stride / 4) ∷ []) in
      let sum : Inst = int_inst c q4 128 (result c q3 ∷ result c q1 ∷ []) in
      let back : List Inst = read_code c env q2 index ++ (product ∷ sum ∷ []) in
      let r = read_step s low ahead env place q1 at ty.Int (shift ∷ back) refl behind (ready_anywhere s env at ready_at) used_at known has in
      let x1 = number_step s low ahead q1 q2 194 id (number c 2) back (omega arith) shifting int b1 r.value (number_value s low ahead q1 2 two b1) r.has in
      let known2 = known_later s env q1 q2 (omega arith) x1.block r.known in
      let r2 = read_step s low ahead env q2 q3 index ty.Int (product ∷ sum ∷ []) (omega arith) b2 (ready_anywhere s env index ready_index) used_index known2 x1.has in
      let x2 = number_step s low ahead q3 q4 132 id2 (number c (stride / 4)) (sum ∷ []) (omega arith) multiplying int b3 r2.value (number_value s low ahead q3 (stride / 4) words b3) r2.has in
      let x3 = number_step s low ahead q4 end 128 (result c q3) (result c q1) [] (omega arith) adding int b4 x2.value (x2.on (result c q1) (int_id c) (r2.on (result c q1) (int_id c) x1.value)) x2.has in
      let tail = kept_behind insts q2 q3 (read_code c env q2 index) (product ∷ sum ∷ []) r2.size r2.kept (cons_kept insts q3 q4 product (sum ∷ []) (omega arith) x2.kept (x3.kept, tt)) in
      record {
        kept = kept_behind insts place q1 (read_code c env place at) (shift ∷ back) r.size r.kept (cons_kept insts q1 q2 shift back (omega arith) x1.kept tail);
        value = x3.value;
        block = r.block ∙ x1.block ∙ r2.block ∙ x2.block ∙ x3.block;
      }

  pub base_gives : (env : Env) (place : ℕ) (t : Target) (addr : Addr) (part : ℕ) → low ≤ place → AddrReady s t addr part → AreUsed s (place_reads addr) → KnownAt s env place → Has s.made place (base_code c env place addr) → Gives s place (place + base_size c env addr) (base_code c env place addr) (base_id c env place addr) (int_id c)
  base_gives env place (target.Buffer r) (Byte at) part behind ready used known has = byte_gives env place at behind ready.2 ready.3 used known has
  base_gives env place (target.Buffer r) (Element index at stride) part behind ready used known has =
      element_gives env place index at stride behind ready.2 ready.3 ready.4 ready.7 (front_used s (operand_keys at) (operand_keys index) used) (back_used s (operand_keys at) (operand_keys index) used) known has
  base_gives env place (target.Buffer r) (Row index) part behind ready used known has = index_gives env place index behind ready.2 used known has
  base_gives env place (target.Buffer r) (Index index) part behind ready used known has = absurd ready
  base_gives env place (target.Shared a) (Byte at) part behind ready used known has = absurd ready
  base_gives env place (target.Shared a) (Element index at stride) part behind ready used known has = absurd ready
  base_gives env place (target.Shared a) (Row index) part behind ready used known has = absurd ready
  base_gives env place (target.Shared a) (Index index) part behind ready used known has = index_gives env place index behind ready.1 used known has

  -- what is added is declared
  part_used : (t : Target) (addr : Addr) (part : ℕ) → AddrReady s t addr part → counts_words addr ≡ true → Uses s (Number part)
  part_used (target.Buffer r) (Byte at) part ready counts = ready.5
  part_used (target.Buffer r) (Element index at stride) part ready counts = ready.6
  part_used (target.Buffer r) (Row index) part ready counts = absurd (cc)
  part_used (target.Buffer r) (Index index) part ready counts = absurd ready
  part_used (target.Shared a) (Byte at) part ready counts = absurd ready
  part_used (target.Shared a) (Element index at stride) part ready counts = absurd ready
  part_used (target.Shared a) (Row index) part ready counts = absurd ready
  part_used (target.Shared a) (Index index) part ready counts = absurd (cc)

  counted : (b x : Bool) → (if b then false else x) ≡ true → x ≡ true
  counted true x e = absurd (cc)
  counted false x e = e

  pub word_gives : (env : Env) (place : ℕ) (t : Target) (addr : Addr) (part : ℕ) → low ≤ place → AddrReady s t addr part → AreUsed s (place_reads addr) → KnownAt s env place → Has s.made place (word_code c env place addr part) → Gives s place (place + word_size c env addr part) (word_code c env place addr part) (word_id c env place addr part) (int_id c)
  word_gives env place t addr part behind ready used known has =
      by_test (adds addr part) refl has
    where
      n : ℕ
      n = base_size c env addr

      q : ℕ
      q = place + n

      base : List Inst
      base = base_code c env place addr

      id : ℕ
      id = base_id c env place addr

      more : Inst
      more = int_inst c q 128 (id ∷ number c part ∷ [])

      size : place + length base ≡ q
      size = ap (λ k. place + k) (base_length c env place addr)

      by_test : (x : Bool) → adds addr part ≡ x → Has s.made place (base ++ (if x then more ∷ [] else [])) → Gives s place (place + (n + (if x then 1 else 0))) (base ++ (if x then more ∷ [] else [])) (if x then result c q else id) (int_id c)
      by_test true is has =
          let g = base_gives env place t addr part behind ready used known (has_front s.made place base (more ∷ []) has) in
          let has_q = subst (λ k. Has s.made k (more ∷ [])) size (has_back s.made place base (more ∷ []) has) in
          let later : low ≤ q = omega (arith, behind) in
          let number_used = part_used t addr part ready (counted (nat_eq part 0) (counts_words addr) is) in
          let x = number_step s low ahead q (place + (n + 1)) 128 id (number c part) [] (omega arith) adding int later g.value (number_value s low ahead q part number_used later) has_q in
          record { kept = kept_behind insts place q base (more ∷ []) size g.kept (x.kept, tt); value = x.value; block = g.block ∙ x.block }
      by_test false is has =
          let g = base_gives env place t addr part behind ready used known (has_front s.made place base [] has) in
          let same : q ≡ place + (n + 0) = omega arith in
          record {
            kept = kept_behind insts place q base [] size g.kept tt;
            value = subst (λ k. IsValueAt insts k id (int_id c)) same g.value;
            block = g.block ∙ ap (block_of insts) same;
          }
