-- What a block leaves for the phis of its next blocks keeps the rules.
use Rattle.std.proofs.Common.{◌≡◌, ℕ, zero, suc, ◌+◌, ◌≤◌, List, [], ◌∷◌, ◌++◌, length, length-append, Some, refl, sym, subst, arith, inl, inr}
use Rattle.std.specs.Prelude.{slice_get}
use Rattle.dxil_form.specs.declared.value.Operand.{Operand}
use Rattle.dxil_form.specs.declared.value.Operand.TheVariants as operand
use Rattle.dxil_form.specs.declared.block.Phi.{Phi}
use Rattle.dxil_form.specs.Graphs.{In}
use Rattle.spv_form.specs.declared.module.Inst.{Inst}
use Rattle.spirv_code.specs.declared.key.Global.{Global}
use Rattle.spirv_code.specs.declared.key.Global.TheVariants.{Plain, Number, Truth}
use Rattle.spirv_code.specs.Plans.{Context, inst, coming, variable, sort_of, zero_of}
use Rattle.spirv_code.specs.Reads.{Env, read_size, read_code, read_id}
use Rattle.spirv_code.specs.Needed.{operand_keys}
use Rattle.spirv_code.specs.Leaves.{entry_operand, leave_code, edge_code, edges_code, phis_of}
use Rattle.line_runs.specs.Held.{Setting, Has, Uses}
use Rattle.line_runs.specs.Ready.{Ready}
use Rattle.line_runs.proofs.Pieces.{has_front, has_back}
use Rattle.line_runs.proofs.Reading.{read_length}
use Rattle.leaf_runs.specs.BlockReady.{HasVariable, EdgeReady}
use Rattle.access_runs.proofs.Stepping.{has_at}
use Rattle.ruled_lines.specs.Kept.{KnownAt, AreUsed, StandsAhead}
use Rattle.ruled_lines.proofs.Readings.{block_next, known_later}
use Rattle.ruled_lines.proofs.Going.{Goes, kept_behind}
use Rattle.ruled_lines.proofs.Straight.{read_step}
use Rattle.ruled_lines.proofs.Zeros.{goes_on, stays}
use Rattle.ruled_blocks.proofs.Phis.{coming_sort, coming_start, sort_used, store_slot}

one_used : (s : Setting) (g : Global) → Uses s g → AreUsed s (g ∷ [])
one_used s g uses h (zero, low, is) of = subst (Uses s) is uses
one_used s g uses h (suc k, low, is) of = absurd (omega (arith, low))

two_used : (s : Setting) (g k : Global) → Uses s g → Uses s k → AreUsed s (g ∷ k ∷ [])
two_used s g k first second h (zero, low, is) of = subst (Uses s) is first
two_used s g k first second h (suc zero, low, is) of = subst (Uses s) is second
two_used s g k first second h (suc (suc n), low, is) of = absurd (omega (arith, low))

module _ (s : Setting) (low : ℕ) (ahead : StandsAhead s low) where
  abbrev c : Context
  c = s.context

  -- the keys of an operand that is stored to a variable of its type
  operand_used : (env : Env) (phi : Phi) (a : Operand) → HasVariable s (coming phi.to phi.ty) → Ready s env a phi.ty → AreUsed s (operand_keys a)
  operand_used env phi (operand.Reg reg t) there ready =
      let sort_there : Uses s (Plain (sort_of phi.ty)) = subst (λ o. Uses s (Plain o)) (coming_sort phi.to phi.ty) (sort_used s low ahead (coming phi.to phi.ty) there) in
      let start_there : Uses s (zero_of phi.ty) = subst (Uses s) (coming_start phi.to phi.ty) (ahead.slots (coming phi.to phi.ty) there.0 there.1).3.1.0 in
      subst (λ u. AreUsed s (Plain (sort_of u) ∷ zero_of u ∷ [])) (sym ready.typed.0) (two_used s (Plain (sort_of phi.ty)) (zero_of phi.ty) sort_there start_there)
  operand_used env phi (operand.Int n) there ready = one_used s (Number n) ready.needs
  operand_used env phi (operand.Bool b) there ready = one_used s (Truth b) ready.needs
  operand_used env phi (operand.Undef t) there ready = one_used s (zero_of t) ready.needs

  pub leave_goes : (env : Env) (place : ℕ) (phi : Phi) (a : Operand) → low ≤ place → HasVariable s (coming phi.to phi.ty) → Ready s env a phi.ty → AreUsed s (operand_keys a) → KnownAt s env place → Has s.made place (leave_code c env place phi a) → Goes s place (leave_code c env place phi a) env
  leave_goes env place phi a behind there ready used known has =
      let q : ℕ = place + read_size c env a in
      let front : List Inst = read_code c env place a in
      let id : ℕ = read_id c env place a in
      let store : Inst = inst 62 (variable c (coming phi.to phi.ty) ∷ id ∷ []) in
      let later : low ≤ q = omega (arith, behind) in
      let r = read_step s low ahead env place q a phi.ty (store ∷ []) refl behind ready used known has in
      let size = r.size in
      let long = length-append front (store ∷ []) in
      let e : q + 1 ≡ place + length (front ++ (store ∷ [])) = omega (arith, size, long) in
      let known' = known_later s env q (q + 1) (omega arith) (block_next s.made.insts q store r.has.0 refl) r.known in
      record {
        kept = kept_behind s.made.insts place q front (store ∷ []) size r.kept (store_slot s low ahead q id (coming phi.to phi.ty) phi.ty there (coming_sort phi.to phi.ty) later r.value, tt);
        known = subst (KnownAt s env) e known';
      }

  edge_goes : (env : Env) (phis : List Phi) (place from : ℕ) → low ≤ place → ((n : ℕ) (phi : Phi) → slice_get phis n ≡ Some phi → EdgeReady s env from phi) → KnownAt s env place → Has s.made place (edge_code c env place from phis) → Goes s place (edge_code c env place from phis) env
  edge_goes env [] place from behind ready known has = stays s place env known
  edge_goes env (phi ∷ phis) place from behind ready known has =
      let h = ready 0 phi refl in
      let a : Operand = entry_operand from phi.ty phi.entries in
      let front : List Inst = leave_code c env place phi a in
      let q : ℕ = place + (read_size c env a + 1) in
      let back : List Inst = edge_code c env q from phis in
      let long = length-append (read_code c env place a) (inst 62 (variable c (coming phi.to phi.ty) ∷ read_id c env place a ∷ []) ∷ []) in
      let reads = read_length c env place a in
      let e : place + length front ≡ q = omega (arith, long, reads) in
      let g = leave_goes env place phi a behind h.next h.entry (operand_used env phi a h.next h.entry) known (has_front s.made place front back has) in
      let rest = edge_goes env phis q from (omega (arith, behind)) (λ n. ready (suc n)) (subst (KnownAt s env) e g.known) (has_at s.made (place + length front) q back e (has_back s.made place front back has)) in
      goes_on s place front back env g.kept (subst (λ n. Goes s n back env) (sym e) rest)

  pub edges_go : (env : Env) (ks : List ℕ) (place from : ℕ) → low ≤ place → ((k n : ℕ) (phi : Phi) → In k ks → slice_get (phis_of (slice_get c.blocks k)) n ≡ Some phi → EdgeReady s env from phi) → KnownAt s env place → Has s.made place (edges_code c env place from ks) → Goes s place (edges_code c env place from ks) env
  edges_go env [] place from behind ready known has = stays s place env known
  edges_go env (k ∷ ks) place from behind ready known has =
      let front : List Inst = edge_code c env place from (phis_of (slice_get c.blocks k)) in
      let q : ℕ = place + length front in
      let back : List Inst = edges_code c env q from ks in
      let g = edge_goes env (phis_of (slice_get c.blocks k)) place from behind (λ n phi. ready k n phi (inl refl)) known (has_front s.made place front back has) in
      goes_on s place front back env g.kept (edges_go env ks q from (omega (arith, behind)) (λ j n phi among. ready j n phi (inr among)) g.known (has_back s.made place front back has))
