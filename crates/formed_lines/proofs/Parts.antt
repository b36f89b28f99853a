-- The parts of an access are formed.
use Rattle.std.proofs.Common.{◌≡◌, ℕ, suc, ◌+◌, Bool, true, false, List, [], ◌∷◌, ◌++◌, length, length-append, refl, arith}
use Rattle.std.specs.Prelude.{if◌then◌else◌}
use Rattle.dxil_form.specs.declared.instr.Addr.{Addr}
use Rattle.dxil_form.specs.declared.instr.Target.{Target}
use Rattle.spv_form.specs.declared.module.Inst.{Inst}
use Rattle.spv_form.specs.Formed.{IsIdBelow}
use Rattle.spirv_code.specs.declared.event.Event.{Event}
use Rattle.spirv_code.specs.Plans.{Context, inst, result}
use Rattle.spirv_code.specs.Reads.{Env, no_register}
use Rattle.spirv_code.specs.Accesses.{is_never, test_code, test_size, test_id, chain_code, chain_size, chain_id, event_code, event_reads, event_tail, event_size, zeros_code, zeros_env, other_code, other_at, meet_at, guarded_code, guard_code, part_code, part_env}
use Rattle.spirv_code.specs.Lines.{parts_code, parts_env}
use Rattle.line_runs.proofs.Tests.{none_some}
use Rattle.access_runs.proofs.Missing.{test_length, chain_length, event_length, other_length}
use Rattle.formed_lines.specs.Formed.{KeysBelow, SlotsBelow, Upto, KnownBelow}
use Rattle.formed_lines.proofs.Lists.{AreFormed, CodeOk, join, up, upto_front, upto_back}
use Rattle.formed_lines.proofs.Shapes.{label_formed, branch_formed, conditional_formed, selection_formed}
use Rattle.formed_lines.proofs.Chains.{chain_formed, chain_ok}
use Rattle.formed_lines.proofs.Checks.{test_formed, test_ok}
use Rattle.formed_lines.proofs.Events.{event_formed, zeros_formed, zeros_known, other_formed}

pub none_known : (b : ℕ) → KnownBelow b no_register
unfolding no_register
none_known b reg id e = absurd (none_some e)

guard_length : (c : Context) (env : Env) (place test : ℕ) (t : Target) (addr : Addr) (part : ℕ) (event : Event) → length (guard_code c env place test t addr part event) ≡ meet_at c env addr part event + 1
guard_length c env place test t addr part event =
    let n : ℕ = chain_size c env addr part in
    let outside : ℕ = result c (place + other_at c env addr part event) in
    let meet : ℕ = result c (place + meet_at c env addr part event) in
    let chain : List Inst = chain_code c env (place + 3) t addr part in
    let events : List Inst = event_code c env (place + 3 + n) (chain_id c env (place + 3) addr part) t event in
    let others : List Inst = other_code c outside meet event in
    let last : List Inst = others ++ (inst 248 (meet ∷ []) ∷ []) in
    let behind : List Inst = events ++ (inst 249 (meet ∷ []) ∷ last) in
    let l2 : length last ≡ length others + 1 = length-append others (inst 248 (meet ∷ []) ∷ []) in
    let l1 : length behind ≡ length events + suc (length last) = length-append events (inst 249 (meet ∷ []) ∷ last) in
    let l0 : length (chain ++ behind) ≡ length chain + length behind = length-append chain behind in
    let e : suc (suc (suc (length (chain ++ behind)))) ≡ meet_at c env addr part event + 1 = omega (arith, l0, l1, l2, chain_length c env (place + 3) t addr part, event_length c env (place + 3 + n) (chain_id c env (place + 3) addr part) t event, other_length c outside meet event) in
    e

module _ (b : ℕ) (c : Context) (keys : KeysBelow b c) (slots : SlotsBelow b c) where
  guarded_formed : (env : Env) (place : ℕ) (t : Target) (addr : Addr) (part : ℕ) (event : Event) (outside meet : ℕ) → KnownBelow b env → IsIdBelow b outside → IsIdBelow b meet → Upto b c (place + event_size c env addr part event) → AreFormed b (guarded_code c env place t addr part event outside meet)
  guarded_formed env place t addr part event outside meet known ho hm upto =
      let n : ℕ = chain_size c env addr part in
      let chained = up b c (place + n) _ (omega arith) upto in
      let acted = up b c (place + n + (event_reads c env event + event_tail c event)) _ (omega arith) upto in
      let chain = chain_formed b c keys slots env place t addr part known chained in
      let does = event_formed b c keys slots env (place + n) _ t event (chain_ok b c keys slots env place addr part chained) known acted in
      let other = other_formed b c keys slots outside meet event ho hm in
      join b (chain_code c env place t addr part) _ chain (join b (event_code c env (place + n) (chain_id c env place addr part) t event) _ does (branch_formed b meet hm, join b (other_code c outside meet event) _ other (label_formed b meet hm, tt)))

  guard_formed : (env : Env) (place test : ℕ) (t : Target) (addr : Addr) (part : ℕ) (event : Event) → KnownBelow b env → IsIdBelow b test → Upto b c (place + (meet_at c env addr part event + 1)) → AreFormed b (guard_code c env place test t addr part event)
  guard_formed env place test t addr part event known ok upto =
      let inside = upto (place + 2) (omega arith) in
      let outside = upto (place + other_at c env addr part event) (omega arith) in
      let meet = upto (place + meet_at c env addr part event) (omega arith) in
      let behind = up b c (place + 3 + event_size c env addr part event) _ (omega arith) upto in
      (selection_formed b _ 0 meet, (conditional_formed b _ _ _ ok inside outside, (label_formed b _ inside, guarded_formed env (place + 3) t addr part event _ _ known outside meet behind)))

  -- a part that is in range somewhere
  tried_formed : (env : Env) (place : ℕ) (t : Target) (addr : Addr) (part : ℕ) (event : Event) → KnownBelow b env → Upto b c (place + length (test_code c env place t addr part ++ guard_code c no_register (place + test_size c env addr part) (test_id c env place addr part) t addr part event)) → AreFormed b (test_code c env place t addr part ++ guard_code c no_register (place + test_size c env addr part) (test_id c env place addr part) t addr part event)
  tried_formed env place t addr part event known upto =
      let n : ℕ = test_size c env addr part in
      let test : ℕ = test_id c env place addr part in
      let front = test_code c env place t addr part in
      let back = guard_code c no_register (place + n) test t addr part event in
      let before = upto_front b c place n front back (test_length c env place t addr part) upto in
      let behind = up b c (place + n + (meet_at c no_register addr part event + 1)) _ (omega (arith, guard_length c no_register (place + n) test t addr part event)) (upto_back b c place n front back (test_length c env place t addr part) upto) in
      join b front back (test_formed b c keys slots env place t addr part known before) (guard_formed no_register (place + n) test t addr part event (none_known b) (test_ok b c keys slots env place addr part before) behind)

  pub part_ok : (env : Env) (place : ℕ) (t : Target) (addr : Addr) (part : ℕ) (event : Event) → KnownBelow b env → Upto b c (place + length (part_code c env place t addr part event)) → CodeOk b (part_code c env place t addr part event) (part_env c env addr part event)
  part_ok env place t addr part event known upto = by_test (is_never addr part) upto
    where
      tried : List Inst
      tried =
          test_code c env place t addr part ++ guard_code c no_register (place + test_size c env addr part) (test_id c env place addr part) t addr part event

      by_test : (x : Bool) → Upto b c (place + length (if x then zeros_code c event else tried)) → CodeOk b (if x then zeros_code c event else tried) (if x then zeros_env c event env else no_register)
      by_test true upto =
          record { formed = zeros_formed b c keys slots event; known = zeros_known b c keys slots event env known }
      by_test false upto =
          record { formed = tried_formed env place t addr part event known upto; known = none_known b }

  pub parts_ok : (t : Target) (addr : Addr) (event_of : ℕ → Event) (parts : List ℕ) (env : Env) (place : ℕ) → KnownBelow b env → Upto b c (place + length (parts_code c env place t addr event_of parts)) → CodeOk b (parts_code c env place t addr event_of parts) (parts_env c env addr event_of parts)
  parts_ok t addr event_of [] env place known upto = record { formed = tt; known = known }
  parts_ok t addr event_of (part ∷ parts) env place known upto =
      let front = part_code c env place t addr part (event_of part) in
      let env' = part_env c env addr part (event_of part) in
      let back = parts_code c env' (place + length front) t addr event_of parts in
      let one = part_ok env place t addr part (event_of part) known (upto_front b c place (length front) front back refl upto) in
      let rest = parts_ok t addr event_of parts env' (place + length front) one.known (upto_back b c place (length front) front back refl upto) in
      record { formed = join b front back one.formed rest.formed; known = rest.known }
