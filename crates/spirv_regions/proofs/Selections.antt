-- Selections with labels from a map, and switches that are written chunk by chunk.
use Rattle.std.proofs.Common.{◌≡◌, ℕ, zero, suc, ◌-◌, ◌<◌, List, [], ◌++◌, length, take, drop, Option, None, sym, ap, ◌∙◌, arith, nat_eq}
use Rattle.std.specs.Map.{lookup}
use Rattle.indexmap.specs.IndexMap.{IndexMap, get}
use Rattle.dxil_form.specs.declared.block.Term.{Term}
use Rattle.spv_form.specs.declared.module.Inst.{Inst}
use Rattle.spirv_code.specs.Plans.{Context}
use Rattle.spirv_code.specs.Leaves.{followed, most_pairs}
use Rattle.spirv_code.specs.Exits.{case_targets, choose_code, chunk_code, chunks_code, loose, setter_label, switch_inst, way_label}
use Rattle.spirv_code.proofs.Follows.{followed_more}

-- where no block has an arm, each goes to its setter
pub plain_switch : {S : Type 0} (labels : IndexMap ℕ ℕ S) (first : ℕ) (ks : List ℕ) (id other : ℕ) (cases : List (ℕ × ℕ)) → labels.entries ≡ [] → switch_inst (way_label (get nat_eq labels) first ks) id other cases ≡ switch_inst (setter_label first ks) id other cases
plain_switch labels first ks id other cases none =
    let empty : get nat_eq labels ≡ (λ k. None) = ap (λ rows k. lookup (nat_eq k) rows) none in
    ap (λ (f : ℕ → Option ℕ). switch_inst (way_label f first ks) id other cases) empty

-- the labels of the map are those of the arms
pub chosen_among : (c : Context) (f g : ℕ → Option ℕ) (old new : List Inst) (meet id : ℕ) (term : Term) (ks blocks : List ℕ) → ((k : ℕ) → f k ≡ g k) → ks ≡ loose f blocks → new ≡ old ++ choose_code c (length old) meet id term f ks → new ≡ old ++ choose_code c (length old) meet id term g (loose g blocks)
chosen_among c f g old new meet id term ks blocks same found one =
    let equal : f ≡ g = λ i k. same k i in
    one
    ∙ ap (λ l. old ++ choose_code c (length old) meet id term f l) found
    ∙ ap (λ (h : ℕ → Option ℕ). old ++ choose_code c (length old) meet id term h (loose h blocks)) equal

chunks_step : (c : Context) (place n : ℕ) (cases : List (ℕ × ℕ)) → 0 < n → chunks_code c place n cases ≡ followed place (chunk_code c place (take most_pairs cases) (case_targets (take most_pairs cases))) (λ p. chunks_code c p (n - 1) (drop most_pairs cases))
chunks_step c place zero cases h = absurd (omega arith)
chunks_step c place (suc n) cases h =
    let e : suc n - 1 ≡ n = omega arith in
    ap (λ m. followed place (chunk_code c place (take most_pairs cases) (case_targets (take most_pairs cases))) (λ p. chunks_code c p m (drop most_pairs cases))) (sym e)

pub chunks_written : (c : Context) (old mid new : List Inst) (n : ℕ) (cases front rest : List (ℕ × ℕ)) → 0 < n → front ≡ take 16383 cases → rest ≡ drop 16383 cases → mid ≡ old ++ chunk_code c (length old) front (case_targets front) → new ≡ mid ++ chunks_code c (length mid) (n - 1) rest → new ≡ old ++ chunks_code c (length old) n cases
chunks_written c old mid new n cases front rest some first last one two =
    followed_more old mid new (chunk_code c (length old) (take most_pairs cases) (case_targets (take most_pairs cases))) (λ p. chunks_code c p (n - 1) (drop most_pairs cases))
    (one ∙ ap (λ xs. old ++ chunk_code c (length old) xs (case_targets xs)) first)
    (two ∙ ap (λ xs. mid ++ chunks_code c (length mid) (n - 1) xs) last)
    ∙ ap (λ o. old ++ o) (sym (chunks_step c (length old) n cases some))
