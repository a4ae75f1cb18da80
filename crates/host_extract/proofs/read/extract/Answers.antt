use Rattle.std.proofs.Common.{◌∙◌, ap}
use Rattle.descriptor_parse.specs.declared.field.Kind.TheVariants.{Input}
use Rattle.descriptor_parse.specs.Readers.{fields_of}
use Rattle.host_extract.specs.Found.{found, found_in}
use Rattle.host_extract.proofs.read.extract.Goals as goal

pub returns-clause-read : goal.returns-clause-read
unfolding found
returns-clause-read c =
    c.in_ok-read_fields.ensures ∙ ap (λ id. found_in (fields_of c.args.descriptor.now Input id) c.split_id-id.result.1.now) c.split_id-id.ensures.id
    ∙ ap (found_in (fields_of c.args.descriptor.now Input _)) c.split_id-id.ensures.bytes
