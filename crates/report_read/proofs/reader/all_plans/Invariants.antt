use Rattle.std.proofs.Common.{◌<◌, length}
use Rattle.std.specs.Prelude.{All}
use Rattle.descriptor_parse.specs.declared.field.Field.{Field}
use Rattle.report_read.specs.representation.Plans.{AreFilled}
use Rattle.report_read.proofs.reader.all_plans.Given as goal

abbrev pub invariant-loop-number : goal.invariant-loop-number
invariant-loop-number l = AreFilled l.descriptor l.null_states l.number l.by_id.items
    × All (λ (field : Field). field.id < length l.by_id.items) l.descriptor.fields
