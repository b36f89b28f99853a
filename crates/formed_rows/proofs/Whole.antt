-- The code of the regions of a program is formed.
use Rattle.std.proofs.Common.{length}
use Rattle.spirv_code.specs.Plans.{context_of}
use Rattle.spirv_code.specs.Trees.{root_of}
use Rattle.spirv_code.specs.Rows.{row_code}
use Rattle.formed_lines.proofs.Lists.{all_formed}
use Rattle.formed_rows.specs.Rowed.{RowsAreFormed}
use Rattle.formed_rows.proofs.Rows.{row_formed}
use Rattle.formed_rows.proofs.Wiring.{base, root_ready}

pub rows_are_formed : RowsAreFormed
rows_are_formed p list plan bound place sound wired is room upto =
    all_formed bound (row_code (context_of p plan) place (root_of list)) (row_formed bound (context_of p plan) (length list) (base p list plan bound is room) (root_of list) place (root_ready p list plan bound is room sound wired) upto)
