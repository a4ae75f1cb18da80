use Rattle.std.proofs.Common.{ap, ◌∙◌, sym}
use Rattle.descriptor_parse.specs.declared.tag.Tag.TheVariants.{Local}
use Rattle.descriptor_parse.specs.representation.Written.{usage_of}
use Rattle.field_details.proofs.WalkLemmas.{refine_local, refine_usage}
use Rattle.field_details.proofs.walk.Walk.take_local.Goals as goal

pub returns-in-Usage : goal.returns-in-Usage
returns-in-Usage c = λ before item e bytes s.
    refine_usage before item _ _ _ (e ∙ ap Local c.in-Usage.is) (c.read_usage.ensures ∙ ap usage_of (sym bytes)) c.note_usage.ensures s

pub returns-in_default : goal.returns-in_default
returns-in_default c = λ before item e bytes s. refine_local before item c.args.tag _ e c.in_default.not-Usage s
