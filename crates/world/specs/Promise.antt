-- Trusted: the guarantee, of a flash at the start and all that has happened since, newest first.
use Rattle.std.specs.Prelude.{List}
use Rattle.flash_model.specs.Sim.{SimValue}
use Rattle.world.specs.Kinds.{Step}
use Rattle.world.specs.History.{EachStep, EachPoint}
use Rattle.world.specs.Conforming.{IsAnswered}
use Rattle.world.specs.Restart.{StartsLegally, KeepsConfirmed, ShowsSettled}
use Rattle.world.specs.Acknowledged.{KeepsStored}
use Rattle.world.specs.Readings.{ReadsWanted, KeepsServed, GathersServed}
use Rattle.world.specs.Moments.{MovesOn}
use Rattle.world.specs.Order.{WorksInOrder, WritesOwnHeader}
use Rattle.world.specs.Bounded.{StaysInTime}
use Rattle.world.specs.Wear.{WearsSlowly}
use Rattle.world.specs.Sound.{KeepsSound}
use Rattle.layers.specs.Codes.{DefaultCodes}

pub record Promise (defaults : DefaultCodes) (start : SimValue) (history : List Step) : Type 0 where
  -- Each event is answered as looking back over those before it says, and what it does to the flash is what its answer says.
  pub answered : EachStep (IsAnswered defaults) start history
  -- Each start finds the keymap of the start before, changed by a prefix, in order, of the commands accepted since that did
  -- not fail; also where the power was cut inside a program or an erase. The prefix holds each settled one.
  pub restarts : EachStep (StartsLegally defaults) start history
  -- What the host was told is stored is what the flash says, at each moment, while no later command writes the entry. Then the
  -- entry holds that code or a later command's: of a settled one, reported or not, its code alone; a failed one, and one that
  -- works, change nothing; one that a cut caught adds its code to those that may stand there until a later one settles.
  pub acknowledged : EachPoint (KeepsStored defaults) start history
  -- Each command that the host was told is stored is settled, and so in the prefix that the next start keeps. The keymap of
  -- each start is the first one changed by all these prefixes in order.
  pub confirmed : KeepsConfirmed defaults start history
  -- Each look at an entry shows the keymap of the latest start, changed by the commands settled since, in order.
  pub looks : EachStep (ShowsSettled defaults) start history
  -- What the host reads in each report is what the keymap gives for the debounced keys, at the moment that the report is of.
  -- It is unread only where report protocol is in force and the host keeps no descriptor.
  pub reads : EachStep (ReadsWanted defaults) start history
  -- The host keeps the keyboard's report descriptor from where a fetch of it came through, in whichever session; else none.
  pub keeps : EachPoint KeepsServed start history
  -- What it gathers, also of a fetch that is cut short, are the first bytes of that descriptor.
  pub gathered : EachPoint GathersServed start history
  -- From one start to the next the moments that reports are of do not go back, and no report is sent twice.
  pub moments : EachStep (MovesOn defaults) start history
  -- A command is settled or fails by the 387th step of the flash work after it was accepted.
  pub in_time : EachStep (StaysInTime defaults) start history
  -- The n-th step of the flash work for a command makes the n-th of its operations: a list that the flash gives when the command
  -- is accepted. It is the record where there is room; else an erase, if the next page is not blank, the copies of the entries
  -- that differ from the default, by rising place, the header, and the record.
  pub in_order : EachStep (WorksInOrder defaults) start history
  -- No step but a header's makes a header, and it no other than its own, on the page after the active one; whatever is torn.
  pub headers : EachStep (WritesOwnHeader defaults) start history
  -- Between two steps that commit a header at least 127 steps write to the tail of the log.
  pub wears : WearsSlowly start history
  -- While each slot 0 is sound, each stays so, whatever is torn. With one that is not, no flash operation is ever made.
  pub sound : EachPoint KeepsSound start history
