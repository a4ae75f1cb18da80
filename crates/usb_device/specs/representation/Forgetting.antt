-- Representation: what is kept of the calls for a host that is to forget, and the device behind.
use Rattle.std.specs.Prelude.{◌≡◌, List}
use Rattle.usb_device.specs.declared.forgetting.Forgets.{Forgets}
use Rattle.usb_device.specs.Bus1.{sets_protocol}
use Rattle.usb_device.specs.Calls.{EpCall}
use Rattle.usb_device.specs.Confirmed.{asked_of}
use Rattle.usb_device.specs.Forgetting.{Shows, names_boot, gave_keys, gave_consumer, owed}

unfoldable pub forgets_of : List EpCall → Forgets
forgets_of calls = record {
  sets = sets_protocol (asked_of calls);
  to_boot = names_boot (asked_of calls);
  keys = gave_keys calls;
  consumer = gave_consumer calls;
  owed = owed calls;
}

pub record RefinesBehind {E : Type 0} (refines : List EpCall → E → Type 0) (calls : List EpCall) (forgets : Forgets) (behind : E) : Type 0 where
  pub kept : forgets ≡ forgets_of calls
  pub passed : List EpCall
  pub shows : Shows calls passed
  pub session : refines passed behind
