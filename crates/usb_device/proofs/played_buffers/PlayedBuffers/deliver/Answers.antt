use Rattle.std.proofs.Common.{ap}
use Rattle.std.specs.Option.{option_map}
use Rattle.usb_device.proofs.Playing.{noted, takes_one, loses_one}
use Rattle.usb_device.proofs.played_buffers.PlayedBuffers.deliver.Goals as goal

pub returns-then-is_acknowledged : goal.returns-then-is_acknowledged
returns-then-is_acknowledged c =
    let later = c.is_noted.ensures.noted (search) c.if-is_noted.true in
    takes_one _ _ _ _ _ _ _ _ c.in-Some.packet.items (ap (option_map (λ p. p.items)) c.in-Some.is) (let x = c.if-not-self.true in search) (noted _ _ _ _ _ _ later c.agrees-is_new.ensures c.as_slice.ensures.value)

pub returns-else-is_acknowledged : goal.returns-else-is_acknowledged
returns-else-is_acknowledged c =
    let later = c.is_noted.ensures.noted (search) c.if-is_noted.true in
    loses_one _ _ _ _ _ _ _ _ c.in-Some.packet.items (ap (option_map (λ p. p.items)) c.in-Some.is) (noted _ _ _ _ _ _ later c.agrees-is_new.ensures c.as_slice.ensures.value)
