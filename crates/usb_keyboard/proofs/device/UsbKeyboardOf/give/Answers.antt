use Rattle.std.proofs.Common.{◌∷◌, [], refl, sym, ap, ◌∙◌}
use Rattle.usb_device.specs.Whole.{data_status_of}
use Rattle.keyboard.specs.Calls.{Out}
use Rattle.usb_keyboard.proofs.Writing.{gives, gives_none}
use Rattle.usb_keyboard.proofs.device.UsbKeyboardOf.give.Goals as goal

pub returns-then-is_empty : goal.returns-then-is_empty
returns-then-is_empty g c = record {
  calls = λ start past r. ([], r, gives_none c.args.bytes.now (sym c.is_empty.ensures ∙ c.if-is_empty.true));
  flash = refl;
}

pub returns-else-is_empty : goal.returns-else-is_empty
returns-else-is_empty g c = record {
  calls = λ start past r.
      let o = c.out.ensures.reported start past r in (
        Out c.args.bytes.now o.0 ∷ [],
        o.1,
        gives c.args.bytes.now o.0 c.data_status_of.result (sym c.is_empty.ensures ∙ c.if-is_empty.false) (c.data_status_of.ensures ∙ ap data_status_of o.2),
      );
  flash = c.out.ensures.flash;
}
