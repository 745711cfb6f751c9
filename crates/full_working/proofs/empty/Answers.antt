-- `empty`: the empty arm, beside tables that are cleared. Assumes nothing.
use Rattle.full_working.proofs.Cleared.{made_empty, unmade_empty}
use Rattle.full_working.proofs.empty.Goals as goal

pub returns-in_err-clear_tables : goal.returns-in_err-clear_tables
returns-in_err-clear_tables c = unmade_empty c.args.tables.now _ c.clear_tables.ensures c.in_err-clear_tables.was _ c.from_residual.ensures.1

pub returns : goal.returns
returns c = made_empty c.args.tables.now _ c.clear_tables.ensures c.in_ok-clear_tables.was _ c.empty.ensures
