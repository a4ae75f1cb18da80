use Rattle.report_read.proofs.Places.{places_start}
use Rattle.report_read.proofs.items.places_of.Goals as goal

pub loop-placed-init : goal.loop-placed-init
loop-placed-init c =
    places_start c.args.details.now.fields.items _ _ _ c.in_ok-places.ensures.items c.into_iter-placed-iterator.ensures.into_iter_gives c.data_fields-placed-items.ensures
