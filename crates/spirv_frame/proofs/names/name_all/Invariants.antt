use Rattle.std.proofs.Common.{◌≡◌, ◌++◌, drop}
use Rattle.spirv_code.specs.Frame.{names}
use Rattle.spirv_frame.proofs.names.name_all.Given as goal

abbrev pub invariant-loop-place : goal.invariant-loop-place
invariant-loop-place l =
    l.code ++ names l.place (drop l.place l.list) ≡ l.initial.code ++ names 0 l.list
