use Rattle.std.proofs.Common.{rules}
use Rattle.field_details.proofs.report.ReportFacts.bytes.Goals as goal

pub returns-else-self-eq0-clause-enough : goal.returns-else-self-eq0-clause-enough
returns-else-self-eq0-clause-enough c = search rules
