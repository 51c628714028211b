-- `worst_span` meets its contract: both ends are the column.
use Rattle.worst_case.proofs.worst_span.Goals as goal

pub returns : goal.returns
returns c = (c.worst_column-column.ensures, c.worst_column-column.ensures)
