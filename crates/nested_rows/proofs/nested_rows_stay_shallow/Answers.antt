use Rattle.nested_rows.proofs.Rows.{shallow}
use Rattle.nested_rows.proofs.nested_rows_stay_shallow.Goals as goal

pub returns : goal.returns
returns c = shallow
