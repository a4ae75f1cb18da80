use Rattle.std.proofs.Common.{◌∷◌, [], sym, ◌∙◌}
use Rattle.usb_device.specs.Calls.{Out}
use Rattle.usb_device.proofs.Wholes.{gives, gives_none}
use Rattle.usb_device.proofs.whole_transfers.give.Goals as goal

pub returns-then-is_empty : goal.returns-then-is_empty
returns-then-is_empty g c = λ past s. ([], s, gives_none c.args.bytes.now (sym c.is_empty.ensures ∙ c.if-is_empty.true))

pub returns-else-is_empty : goal.returns-else-is_empty
returns-else-is_empty g c = λ past s.
    (Out c.args.bytes.now c.out.result ∷ [], c.out.ensures.refines past s, gives c.args.bytes.now c.out.result c.data_status_of.result (sym c.is_empty.ensures ∙ c.if-is_empty.false) c.data_status_of.ensures)
