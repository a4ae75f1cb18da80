use Rattle.std.proofs.Common.{refl}
use Rattle.field_details.specs.Collections.{first_usage}
use Rattle.descriptor_parse.specs.Locals.{since_main}
use Rattle.descriptor_parse.specs.Globals.{usage_page}
use Rattle.field_details.proofs.WalkLemmas.{usage_reported}
use Rattle.field_details.proofs.walk.Walk.collection.Goals as goal

pub returns : goal.returns
returns c = λ items item offset kind st s.
    rw (offset, kind, c.usage_on.ensures, c.innermost.ensures, s.usage, s.opened, c.globals.ensures items st, usage_reported (usage_page items) (first_usage (since_main items))) refl
