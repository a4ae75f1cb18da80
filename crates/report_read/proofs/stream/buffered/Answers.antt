use Rattle.report_read.proofs.Asked.{each_error, bytes_in}
use Rattle.report_read.proofs.stream.buffered.Goals as goal

pub returns-in_err-bytes_of_field-clause-memory : goal.returns-in_err-bytes_of_field-clause-memory
returns-in_err-bytes_of_field-clause-memory c = each_error _ _ _ c.in_ok-found.ensures.taken

pub returns-clause-bytes : goal.returns-clause-bytes
returns-clause-bytes c =
    bytes_in _ c.in_ok-found.found _ _ _ c.in_ok-found.ensures.field (rw c.descriptor.ensures at c.split.ensures.bytes) c.in_ok-bytes_of_field.ensures
