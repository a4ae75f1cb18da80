use Rattle.std.proofs.Common.{ℕ, ◌<◌, ◌≤◌, get_or}
use Rattle.descriptor_parse.specs.declared.field.Field.{Field}
use Rattle.report_read.proofs.reader.rows_of.Given as goal

abbrev pub invariant-loop-field : goal.invariant-loop-field
invariant-loop-field l = (l.rows ≤ 256) × ((k : ℕ) (f : Field) → k < l.field-index → (get_or l.field-items k f).id < l.rows)
