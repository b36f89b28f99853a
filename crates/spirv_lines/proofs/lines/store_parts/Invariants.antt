use Rattle.std.proofs.Common.{◌≡◌, ◌++◌, ◌∷◌, [], ◌/◌, ◌%◌, ◌^◌, nat_eq, filter, drop, length}
use Rattle.spirv_code.specs.Lines.{parts_code, parts_env, store_event}
use Rattle.spirv_table.specs.Known.{env_of}
use Rattle.spirv_emit.specs.Scenes.{context_in}
use Rattle.spirv_lines.proofs.lines.store_parts.Given as goal

abbrev pub invariant-loop-c : goal.invariant-loop-c
invariant-loop-c l =
    (l.code ++ parts_code (context_in l.s) (env_of l.known) (length l.code) l.target l.addr (store_event l.x l.y l.z l.w) (filter (λ c. nat_eq (l.mask / 2 ^ c % 2) 1) (drop l.c-index (0 ∷ 1 ∷ 2 ∷ 3 ∷ []))) ≡ l.initial.code ++ parts_code (context_in l.s) (env_of l.initial.known) (length l.initial.code) l.target l.addr (store_event l.x l.y l.z l.w) (filter (λ c. nat_eq (l.mask / 2 ^ c % 2) 1) (0 ∷ 1 ∷ 2 ∷ 3 ∷ [])))
    × (parts_env (context_in l.s) (env_of l.known) l.addr (store_event l.x l.y l.z l.w) (filter (λ c. nat_eq (l.mask / 2 ^ c % 2) 1) (drop l.c-index (0 ∷ 1 ∷ 2 ∷ 3 ∷ []))) ≡ parts_env (context_in l.s) (env_of l.initial.known) l.addr (store_event l.x l.y l.z l.w) (filter (λ c. nat_eq (l.mask / 2 ^ c % 2) 1) (0 ∷ 1 ∷ 2 ∷ 3 ∷ [])))
