-- Trusted: what the keys were asked, and what they answered.
use Rattle.shapes.specs.Shapes.{KeyCodes}
use Rattle.debounce.specs.declared.Scan.{Scan}
use Rattle.reports.specs.declared.Protocol.{Protocol}
use Rattle.reports.specs.Calls.{PollerCall}

-- a call of the keys
pub data KeyCall : Type 0 where
  -- a scan in this protocol, with the codes of the keymap at that moment
  Scanned : (scan : Scan) → (keymap : KeyCodes) → (protocol : Protocol) → KeyCall
  -- a poll with its answer, an idle value that is set, or a loss of what was sent: a call of the poller alone
  Asked : (call : PollerCall) → KeyCall
