use Rattle.std.proofs.Common.{◌≡◌, ◌∙◌, refl, sym, length, Some}
use Rattle.std.proofs.lemmas.Option.{slice_get_read}
use Rattle.std.specs.Prelude.{slice_get}
use Rattle.field_details.proofs.PartLemmas.{found_given, none_given}
use Rattle.field_details.proofs.names.ranges_at.Goals as goal

pub returns-in-Some : goal.returns-in-Some
returns-in-Some c = λ given a.
    let h = c.in-Some.ensures.lookup in
    let at : slice_get c.args.parts.now c.args.place ≡ Some c.in-Some.part.now = slice_get_read c.args.parts.now (length c.args.parts.now) c.args.place c.in-Some.part.now refl h.3.0 h.1 in
    let found = found_given c.args.ranges.now c.args.parts.now given c.args.place c.in-Some.part.now a at in
    c.between.ensures found.0 ∙ found.1

pub returns-in-None : goal.returns-in-None
returns-in-None c = λ given a. sym (none_given c.args.ranges.now c.args.parts.now given c.args.place a c.in-None.ensures.lookup.3)
