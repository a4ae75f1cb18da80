-- A packet as a report that the host has sent.
use Rattle.std.proofs.Common.{ℕ, List}
use Rattle.control_ep.specs.Transfers.{HostReport}
use Rattle.keyboard.specs.Effects.{SentReport}

abbrev pub sent_as : List ℕ → HostReport → SentReport
sent_as packet report = record { report = report; bytes = packet }
