use Rattle.std.proofs.Common.{arith, rules, leb, ◌∙◌, sym, ap, length, get_or, List, ℕ}
use Rattle.std.proofs.lemmas.List.FromFn.{length-map-range_with_len, get_or-map-range_with_len}
use Rattle.std.proofs.lemmas.List.Sorted.{IsPartitionPoint-from_clause}
use Rattle.flow_scans.specs.Runs.{number_at}
use Rattle.flow_scans.specs.declared.runs.Run.{Run}
use Rattle.flow_scans.proofs.Places.{begun_run, parted}
use Rattle.flow_scans.proofs.runs.Runs.at.Goals as goal

pub overflow_sub-begun : goal.overflow_sub-begun
overflow_sub-begun c =
    let runs = c.self.inside.runs.items in
    let slice = c.as_slice.result.now in
    let d : Run = record { first = 0; number = 0 } in
    let count = ap (λ (l : List ℕ). length l) (sym c.self.view_is) ∙ length-map-range_with_len (number_at runs) 0 c.self.inside.count in
    let point = IsPartitionPoint-from_clause (λ (r : Run). leb r.first c.args.place) slice c.partition_point-begun.result c.partition_point-begun.ensures.partitioned
    (parted runs slice c.self.inside.count c.args.place c.as_slice.ensures.value c.self.invariant) (λ a r q k. search rules) in
    (begun_run runs slice c.self.inside.count c.args.place c.partition_point-begun.result d c.as_slice.ensures.value c.self.invariant (omega arith) c.partition_point-begun.ensures.bound point).0

pub returns : goal.returns
returns c =
    let runs = c.self.inside.runs.items in
    let slice = c.as_slice.result.now in
    let d : Run = c.index.result.now in
    let place = c.args.place in
    let count = ap (λ (l : List ℕ). length l) (sym c.self.view_is) ∙ length-map-range_with_len (number_at runs) 0 c.self.inside.count in
    let point = IsPartitionPoint-from_clause (λ (r : Run). leb r.first place) slice c.partition_point-begun.result c.partition_point-begun.ensures.partitioned
    (parted runs slice c.self.inside.count place c.as_slice.ensures.value c.self.invariant) (λ a r q k. search rules) in
    let found = (begun_run runs slice c.self.inside.count place c.partition_point-begun.result d c.as_slice.ensures.value c.self.invariant (omega arith) c.partition_point-begun.ensures.bound point).1 in
    ap (λ (r : Run). r.number) c.index.ensures ∙ sym found ∙ sym (get_or-map-range_with_len (number_at runs) 0 c.self.inside.count place place 0 (omega arith) (omega arith)) ∙ ap (λ (l : List ℕ). get_or l place 0) c.self.view_is
