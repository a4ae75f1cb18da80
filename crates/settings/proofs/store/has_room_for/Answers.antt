use Rattle.std.proofs.Common.{arith}
use Rattle.std.proofs.lemmas.Bool.{iff_false}
use Rattle.settings.proofs.Begins.{room_held, room_test}
use Rattle.settings.proofs.store.has_room_for.Goals as goal

pub returns-then-not-room : goal.returns-then-not-room
returns-then-not-room c image d =
    let less = c.requires.0 in
    (λ e. cc, λ h. absurd (iff_false c.room.ensures.held c.if-not-room.true (room_held image _ _ d (omega arith) h)))

pub returns-in-Some : goal.returns-in-Some
returns-in-Some c image d =
    room_test image _ c.in-Some.tail c.args.words d (c.room.ensures.held.0 c.if-not-room.false) (c.in-Some.ensures image d) c.requires.0 c.requires.1
