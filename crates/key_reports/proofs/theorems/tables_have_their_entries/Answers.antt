use Rattle.key_reports.proofs.Tabled.{table-has, table-alone, resolved-table}
use Rattle.key_reports.proofs.theorems.tables_have_their_entries.Goals as goal

pub returns-clause-has : goal.returns-clause-has
returns-clause-has c entries = table-has entries

pub returns-clause-alone : goal.returns-clause-alone
returns-clause-alone c entries keymap h = table-alone entries keymap h

pub returns-clause-resolved : goal.returns-clause-resolved
returns-clause-resolved c entries codes key l = resolved-table entries codes key l
