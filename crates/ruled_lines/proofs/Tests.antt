-- The test whether a word is in range keeps the rules, and gives a truth value.
use Rattle.std.proofs.Common.{◌≡◌, ℕ, ◌+◌, ◌-◌, ◌*◌, ◌/◌, ◌≤◌, Bool, true, false, List, [], ◌∷◌, ◌++◌, Some, refl, ap, ◌∙◌, subst, arith}
use Rattle.std.specs.Prelude.{slice_get, nat_eq, if◌then◌else◌}
use Rattle.dxil_form.specs.declared.value.Ty.TheVariants as ty
use Rattle.dxil_form.specs.declared.value.Operand.{Operand}
use Rattle.dxil_form.specs.declared.program.Resource.{Resource}
use Rattle.dxil_form.specs.declared.program.Kind.{Kind}
use Rattle.dxil_form.specs.declared.program.Kind.TheVariants as kind
use Rattle.dxil_form.specs.declared.instr.Addr.{Addr}
use Rattle.dxil_form.specs.declared.instr.Addr.TheVariants.{Byte, Element, Row, Index}
use Rattle.dxil_form.specs.declared.instr.Target.{Target}
use Rattle.dxil_form.specs.declared.instr.Target.TheVariants as target
use Rattle.spv_form.specs.declared.module.Inst.{Inst}
use Rattle.spv_ids.specs.Places.{block_of}
use Rattle.spirv_code.specs.declared.key.Sort.TheVariants as sort
use Rattle.spirv_code.specs.declared.key.Global.TheVariants.{Plain as PlainKey, Number, Buffer}
use Rattle.spirv_code.specs.Plans.{Context, result, number, int_id, bool_id}
use Rattle.spirv_code.specs.Reads.{Env, no_register, read_size, read_code, read_id}
use Rattle.spirv_code.specs.Needed.{operand_keys, place_reads}
use Rattle.spirv_code.specs.Accesses.{int_inst, bool_inst, shift_inst, length_inst, test_size, test_id, byte_tests, index_test, test_code}
use Rattle.spirv_code.specs.Frame.{has_rows, rowed}
use Rattle.line_runs.specs.Held.{Setting, Has, Uses}
use Rattle.line_runs.specs.Ready.{Ready}
use Rattle.access_runs.specs.Parts.{AddrReady}
use Rattle.access_runs.proofs.Locating.{ready_anywhere}
use Rattle.ruled_lines.specs.Kept.{IsValueAt, KnownAt, AreUsed, StandsAhead}
use Rattle.ruled_lines.proofs.Facts.{number_value}
use Rattle.ruled_lines.proofs.Readings.{known_later}
use Rattle.ruled_lines.proofs.Going.{kept_behind}
use Rattle.ruled_lines.proofs.Lines.{front_used, back_used}
use Rattle.ruled_lines.proofs.Straight.{cons_kept, adding, dividing, shifting, below, at_most, number_step, truth_step, both_step, size_step, read_step}
use Rattle.ruled_lines.proofs.Words.{Gives}

-- whether a buffer has rows is told by its kind
pub rowed_by : (s : Setting) (r : ℕ) (resource : Resource) (k : Kind) → slice_get s.program.resources r ≡ Some resource → resource.kind ≡ k → rowed s.program r ≡ has_rows (Some (record resource { kind = k }))
rowed_by s r resource k is e = ap has_rows is ∙ ap (λ y. has_rows (Some (record resource { kind = y }))) e

module _ (s : Setting) (low : ℕ) (ahead : StandsAhead s low) (int : Uses s (PlainKey sort.Int)) (bool : Uses s (PlainKey sort.Bool)) where
  abbrev insts : List Inst
  insts = s.made.insts

  abbrev c : Context
  c = s.context

  -- of part 0
  first_byte : (place r : ℕ) → low ≤ place → rowed s.program r ≡ false → Uses s (Buffer r) → IsValueAt insts (place + 1) (result c place) (int_id c) → Has s.made (place + 1) (length_inst c (place + 1) (target.Buffer r) ∷ bool_inst c (place + 2) 176 (result c place ∷ result c (place + 1) ∷ []) ∷ []) → Gives s (place + 1) (place + 2 + 1) (length_inst c (place + 1) (target.Buffer r) ∷ bool_inst c (place + 2) 176 (result c place ∷ result c (place + 1) ∷ []) ∷ []) (result c (place + 2)) (bool_id c)
  first_byte place r behind plain uses value has =
      let p1 : ℕ = place + 1 in
      let p2 : ℕ = place + 2 in
      let test : Inst = bool_inst c p2 176 (result c place ∷ result c p1 ∷ []) in
      let x1 = size_step s low ahead p1 p2 r (test ∷ []) (omega arith) plain uses int (omega (arith, behind)) has in
      let x2 = truth_step s low ahead p2 (p2 + 1) 176 (result c place) (result c p1) [] refl below int bool (omega (arith, behind)) (x1.on (result c place) (int_id c) value) x1.value x1.has in
      record { kept = cons_kept insts p1 p2 (length_inst c p1 (target.Buffer r)) (test ∷ []) (omega arith) x1.kept (x2.kept, tt); value = x2.value; block = x1.block ∙ x2.block }

  -- of any other part
  abbrev other_tests : ℕ → ℕ → ℕ → List Inst
  other_tests place r part = int_inst c (place + 1) 128 (result c place ∷ number c part ∷ []) ∷ length_inst c (place + 2) (target.Buffer r) ∷ bool_inst c (place + 3) 176 (result c place ∷ result c (place + 2) ∷ []) ∷ bool_inst c (place + 4) 176 (result c (place + 1) ∷ result c (place + 2) ∷ []) ∷ bool_inst c (place + 5) 167 (result c (place + 3) ∷ result c (place + 4) ∷ []) ∷ []

  other_byte : (place r part : ℕ) → low ≤ place → rowed s.program r ≡ false → Uses s (Buffer r) → Uses s (Number part) → IsValueAt insts (place + 1) (result c place) (int_id c) → Has s.made (place + 1) (other_tests place r part) → Gives s (place + 1) (place + 5 + 1) (other_tests place r part) (result c (place + 5)) (bool_id c)
  other_byte place r part behind plain uses part_used value has =
      let p1 : ℕ = place + 1 in
      let p2 : ℕ = place + 2 in
      let p3 : ℕ = place + 3 in
      let p4 : ℕ = place + 4 in
      let p5 : ℕ = place + 5 in
      let b1 : low ≤ p1 = omega (arith, behind) in
      let r0 : ℕ = result c place in
      let r1 : ℕ = result c p1 in
      let r2 : ℕ = result c p2 in
      let y2 : Inst = length_inst c p2 (target.Buffer r) in
      let y3 : Inst = bool_inst c p3 176 (r0 ∷ r2 ∷ []) in
      let y4 : Inst = bool_inst c p4 176 (r1 ∷ r2 ∷ []) in
      let y5 : Inst = bool_inst c p5 167 (result c p3 ∷ result c p4 ∷ []) in
      let e1 : p1 + 1 ≡ p2 = omega arith in
      let e2 : p2 + 1 ≡ p3 = omega arith in
      let e3 : p3 + 1 ≡ p4 = omega arith in
      let e4 : p4 + 1 ≡ p5 = omega arith in
      let x1 = number_step s low ahead p1 p2 128 r0 (number c part) (y2 ∷ y3 ∷ y4 ∷ y5 ∷ []) e1 adding int b1 value (number_value s low ahead p1 part part_used b1) has in
      let x2 = size_step s low ahead p2 p3 r (y3 ∷ y4 ∷ y5 ∷ []) e2 plain uses int (omega (arith, behind)) x1.has in
      let v0 = x2.on r0 (int_id c) (x1.on r0 (int_id c) value) in
      let v1 = x2.on r1 (int_id c) x1.value in
      let x3 = truth_step s low ahead p3 p4 176 r0 r2 (y4 ∷ y5 ∷ []) e3 below int bool (omega (arith, behind)) v0 x2.value x2.has in
      let x4 = truth_step s low ahead p4 p5 176 r1 r2 (y5 ∷ []) e4 below int bool (omega (arith, behind)) (x3.on r1 (int_id c) v1) (x3.on r2 (int_id c) x2.value) x3.has in
      let x5 = both_step s low ahead p5 (p5 + 1) (result c p3) (result c p4) [] refl bool (omega (arith, behind)) (x4.on (result c p3) (bool_id c) x3.value) x4.value x4.has in
      let k4 = cons_kept insts p4 p5 y4 (y5 ∷ []) e4 x4.kept (x5.kept, tt) in
      let k3 = cons_kept insts p3 p4 y3 (y4 ∷ y5 ∷ []) e3 x3.kept k4 in
      let k2 = cons_kept insts p2 p3 y2 (y3 ∷ y4 ∷ y5 ∷ []) e2 x2.kept k3 in
      record { kept = cons_kept insts p1 p2 (int_inst c p1 128 (r0 ∷ number c part ∷ [])) (y2 ∷ y3 ∷ y4 ∷ y5 ∷ []) e1 x1.kept k2; value = x5.value; block = x1.block ∙ x2.block ∙ x3.block ∙ x4.block ∙ x5.block }

  bytes_give : (b : Bool) (place r part : ℕ) → low ≤ place → rowed s.program r ≡ false → Uses s (Buffer r) → Uses s (Number part) → IsValueAt insts (place + 1) (result c place) (int_id c) → Has s.made (place + 1) (if b then length_inst c (place + 1) (target.Buffer r) ∷ bool_inst c (place + 2) 176 (result c place ∷ result c (place + 1) ∷ []) ∷ [] else other_tests place r part) → Gives s (place + 1) (place + (if b then 2 else 5) + 1) (if b then length_inst c (place + 1) (target.Buffer r) ∷ bool_inst c (place + 2) 176 (result c place ∷ result c (place + 1) ∷ []) ∷ [] else other_tests place r part) (result c (place + (if b then 2 else 5))) (bool_id c)
  bytes_give true place r part behind plain uses part_used value has = first_byte place r behind plain uses value has
  bytes_give false place r part behind plain uses part_used value has = other_byte place r part behind plain uses part_used value has

  byte_test : (env : Env) (place r : ℕ) (at : Operand) (part : ℕ) → low ≤ place → rowed s.program r ≡ false → Uses s (Buffer r) → Ready s no_register at ty.Int → Uses s (Number 2) → Uses s (Number part) → AreUsed s (operand_keys at) → KnownAt s env place → Has s.made place (test_code c env place (target.Buffer r) (Byte at) part) → Gives s place (place + test_size c env (Byte at) part) (test_code c env place (target.Buffer r) (Byte at) part) (test_id c env place (Byte at) part) (bool_id c)
  byte_test env place r at part behind plain uses ready two part_used used known has =
      let n : ℕ = read_size c env at in
      let q : ℕ = place + n in
      let b : low ≤ q = omega (arith, behind) in
      let id : ℕ = read_id c env place at in
      let shift : Inst = shift_inst c q id in
      let back : List Inst = byte_tests c q (target.Buffer r) part in
      let last : ℕ = if nat_eq part 0 then 2 else 5 in
      let end_is : q + last + 1 ≡ place + (n + last + 1) = omega arith in
      let last_is : q + last ≡ place + (n + last) = omega arith in
      let x0 = read_step s low ahead env place q at ty.Int (shift ∷ back) refl behind (ready_anywhere s env at ready) used known has in
      let x1 = number_step s low ahead q (q + 1) 194 id (number c 2) back refl shifting int b x0.value (number_value s low ahead q 2 two b) x0.has in
      let g = bytes_give (nat_eq part 0) q r part b plain uses part_used x1.value x1.has in
      record {
        kept = kept_behind insts place q (read_code c env place at) (shift ∷ back) x0.size x0.kept (x1.kept, g.kept);
        value = subst (λ k. IsValueAt insts k (result c (place + (n + last))) (bool_id c)) end_is (subst (λ k. IsValueAt insts (q + last + 1) (result c k) (bool_id c)) last_is g.value);
        block = x0.block ∙ x1.block ∙ g.block ∙ ap (block_of insts) end_is;
      }

  index_tested : (env : Env) (place : ℕ) (index : Operand) (limit : ℕ) → low ≤ place → Ready s no_register index ty.Int → Uses s (Number limit) → AreUsed s (operand_keys index) → KnownAt s env place → Has s.made place (index_test c env place index limit) → Gives s place (place + (read_size c env index + 1)) (index_test c env place index limit) (result c (place + read_size c env index)) (bool_id c)
  index_tested env place index limit behind ready limit_used used known has =
      let q : ℕ = place + read_size c env index in
      let b : low ≤ q = omega (arith, behind) in
      let id : ℕ = read_id c env place index in
      let test : Inst = bool_inst c q 176 (id ∷ number c limit ∷ []) in
      let x0 = read_step s low ahead env place q index ty.Int (test ∷ []) refl behind (ready_anywhere s env index ready) used known has in
      let x1 = truth_step s low ahead q (place + (read_size c env index + 1)) 176 id (number c limit) [] (omega arith) below int bool b x0.value (number_value s low ahead q limit limit_used b) x0.has in
      record { kept = kept_behind insts place q (read_code c env place index) (test ∷ []) x0.size x0.kept (x1.kept, tt); value = x1.value; block = x0.block ∙ x1.block }

  element_test : (env : Env) (place r : ℕ) (index at : Operand) (stride part : ℕ) → low ≤ place → rowed s.program r ≡ false → Uses s (Buffer r) → Ready s no_register index ty.Int → Ready s no_register at ty.Int → Uses s (Number (stride / 4)) → Uses s (Number (stride - (4 + 4 * part))) → AreUsed s (operand_keys at) → AreUsed s (operand_keys index) → KnownAt s env place → Has s.made place (test_code c env place (target.Buffer r) (Element index at stride) part) → Gives s place (place + test_size c env (Element index at stride) part) (test_code c env place (target.Buffer r) (Element index at stride) part) (test_id c env place (Element index at stride) part) (bool_id c)
  element_test env place r index at stride part behind plain uses ready_index ready_at words room used_at used_index known has =
      let n : ℕ = read_size c env at in
      let m : ℕ = read_size c env index in
      let q0 : ℕ = place + n in
      let q1 : ℕ = place + (n + 1) in
      let q2 : ℕ = place + (n + 2) in
      let q3 : ℕ = place + (n + 3) in
      let q4 : ℕ = place + (n + 3 + m) in
      let q5 : ℕ = place + (n + 3 + m + 1) in
      let end : ℕ = place + (n + 3 + m + 1 + 1) in
      let b0 : low ≤ q0 = omega (arith, behind) in
      let b1 : low ≤ q1 = omega (arith, behind) in
      let b2 : low ≤ q2 = omega (arith, behind) in
      let b3 : low ≤ q3 = omega (arith, behind) in
      let b4 : low ≤ q4 = omega (arith, behind) in
      let b5 : low ≤ q5 = omega (arith, behind) in
      let e0 : q0 + 1 ≡ q1 = omega arith in
      let e1 : q1 + 1 ≡ q2 = omega arith in
      let e2 : q2 + 1 ≡ q3 = omega arith in
      let e4 : q4 + 1 ≡ q5 = omega arith in
      let id : ℕ = read_id c env place at in
      let id2 : ℕ = read_id c env q3 index in
      let y0 : Inst = bool_inst c q0 178 (id ∷ number c (stride - (4 + 4 * part)) ∷ []) in
      let y1 : Inst = length_inst c q1 (target.Buffer r) in
      let y2 : Inst = int_inst c q2 134 (result c q1 ∷ number c (stride / 4) ∷ []) in
      let y4 : Inst = bool_inst c q4 176 (id2 ∷ result c q2 ∷ []) in
      let y5 : Inst = bool_inst c q5 167 (result c q0 ∷ result c q4 ∷ []) in
      let back : List Inst = read_code c env q3 index ++ (y4 ∷ y5 ∷ []) in
      let xr = read_step s low ahead env place q0 at ty.Int (y0 ∷ y1 ∷ y2 ∷ back) refl behind (ready_anywhere s env at ready_at) used_at known has in
      let x0 = truth_step s low ahead q0 q1 178 id (number c (stride - (4 + 4 * part))) (y1 ∷ y2 ∷ back) e0 at_most int bool b0 xr.value (number_value s low ahead q0 (stride - (4 + 4 * part)) room b0) xr.has in
      let x1 = size_step s low ahead q1 q2 r (y2 ∷ back) e1 plain uses int b1 x0.has in
      let x2 = number_step s low ahead q2 q3 134 (result c q1) (number c (stride / 4)) back e2 dividing int b2 x1.value (number_value s low ahead q2 (stride / 4) words b2) x1.has in
      let known3 = known_later s env q0 q3 (omega arith) (x0.block ∙ x1.block ∙ x2.block) xr.known in
      let x3 = read_step s low ahead env q3 q4 index ty.Int (y4 ∷ y5 ∷ []) (omega arith) b3 (ready_anywhere s env index ready_index) used_index known3 x2.has in
      let x4 = truth_step s low ahead q4 q5 176 id2 (result c q2) (y5 ∷ []) e4 below int bool b4 x3.value (x3.on (result c q2) (int_id c) x2.value) x3.has in
      let first = x4.on (result c q0) (bool_id c) (x3.on (result c q0) (bool_id c) (x2.on (result c q0) (bool_id c) (x1.on (result c q0) (bool_id c) x0.value))) in
      let x5 = both_step s low ahead q5 end (result c q0) (result c q4) [] (omega arith) bool b5 first x4.value x4.has in
      let k4 = cons_kept insts q4 q5 y4 (y5 ∷ []) e4 x4.kept (x5.kept, tt) in
      let k3 = kept_behind insts q3 q4 (read_code c env q3 index) (y4 ∷ y5 ∷ []) x3.size x3.kept k4 in
      let k2 = cons_kept insts q2 q3 y2 back e2 x2.kept k3 in
      let k1 = cons_kept insts q1 q2 y1 (y2 ∷ back) e1 x1.kept k2 in
      let k0 = cons_kept insts q0 q1 y0 (y1 ∷ y2 ∷ back) e0 x0.kept k1 in
      record {
        kept = kept_behind insts place q0 (read_code c env place at) (y0 ∷ y1 ∷ y2 ∷ back) xr.size xr.kept k0;
        value = x5.value;
        block = xr.block ∙ x0.block ∙ x1.block ∙ x2.block ∙ x3.block ∙ x4.block ∙ x5.block;
      }

  pub test_gives : (env : Env) (place : ℕ) (t : Target) (addr : Addr) (part : ℕ) → low ≤ place → AddrReady s t addr part → AreUsed s (place_reads addr) → KnownAt s env place → Has s.made place (test_code c env place t addr part) → Gives s place (place + test_size c env addr part) (test_code c env place t addr part) (test_id c env place addr part) (bool_id c)
  test_gives env place (target.Buffer r) (Byte at) part behind ready used known has =
      byte_test env place r at part behind (rowed_by s r ready.0.0 kind.Raw ready.0.1 ready.0.2) ready.1 ready.2 ready.3 ready.5 used known has
  test_gives env place (target.Buffer r) (Element index at stride) part behind ready used known has =
      element_test env place r index at stride part behind (rowed_by s r ready.0.0 (kind.Structured stride) ready.0.1 ready.0.2) ready.1 ready.2 ready.3 ready.7 ready.8 (front_used s (operand_keys at) (operand_keys index) used) (back_used s (operand_keys at) (operand_keys index) used) known has
  test_gives env place (target.Buffer r) (Row index) part behind ready used known has =
      index_tested env place index (c.limit (target.Buffer r)) behind ready.2 ready.3 used known has
  test_gives env place (target.Buffer r) (Index index) part behind ready used known has = absurd ready
  test_gives env place (target.Shared a) (Byte at) part behind ready used known has = absurd ready
  test_gives env place (target.Shared a) (Element index at stride) part behind ready used known has = absurd ready
  test_gives env place (target.Shared a) (Row index) part behind ready used known has = absurd ready
  test_gives env place (target.Shared a) (Index index) part behind ready used known has =
      index_tested env place index (c.limit (target.Shared a)) behind ready.1 ready.2 used known has
