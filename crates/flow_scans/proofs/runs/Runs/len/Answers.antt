use Rattle.std.proofs.Common.{◌∙◌, sym, ap, length, List, ℕ}
use Rattle.std.proofs.lemmas.List.FromFn.{length-map-range_with_len}
use Rattle.flow_scans.specs.Runs.{number_at}
use Rattle.flow_scans.proofs.runs.Runs.len.Goals as goal

pub returns : goal.returns
returns c = sym (length-map-range_with_len (number_at c.self.inside.runs.items) 0 c.self.inside.count) ∙ ap (λ (l : List ℕ). length l) c.self.view_is
