use Rattle.std.proofs.Common.{refl}
use Rattle.descriptor_parse.specs.Globals.{signed}
use Rattle.field_details.specs.Extents.{power_of}
use Rattle.field_details.specs.representation.Relation.{extents_of}
use Rattle.field_details.proofs.WalkLemmas.{refine_new}
use Rattle.field_details.proofs.walk.Walk.new.Goals as goal

pub returns : goal.returns
unfolding signed power_of
returns c = refine_new _ (c.new.ensures extents_of refl) refl c.new-2.ensures.items c.new-4.ensures.fields c.new-4.ensures.collections c.new-3.ensures c.new-4.ensures.names
