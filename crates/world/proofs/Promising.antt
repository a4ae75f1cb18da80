-- A history in which each event is answered as it has to be keeps the guarantee.
use Rattle.std.proofs.Common.{List, [], ◌∷◌}
use Rattle.flash_model.specs.Sim.{SimValue}
use Rattle.world.specs.Kinds.{Step}
use Rattle.world.specs.History.{EachStep, EachPoint}
use Rattle.world.specs.Conforming.{IsAnswered}
use Rattle.world.specs.Restart.{ConfirmsSettled, StartsChanged}
use Rattle.world.specs.Acknowledged.{KeepsStored}
use Rattle.world.specs.Readings.{KeepsServed, GathersServed}
use Rattle.world.specs.Sound.{KeepsSound}
use Rattle.world.specs.Promise.{Promise}
use Rattle.world.proofs.Allowing.{holds_allowed}
use Rattle.world.proofs.Hearing.{reads_wanted, keeps_served, gathers_served}
use Rattle.world.proofs.Moving.{moves_on}
use Rattle.world.proofs.Ordering.{works_in_order, writes_own_header}
use Rattle.world.proofs.Prefixes.{confirms_settled, starts_with_confirmed, starts_changed}
use Rattle.world.proofs.Restarting.{starts_legally, shows_settled}
use Rattle.world.proofs.Sounding.{keeps_sound}
use Rattle.world.proofs.Telling.{acknowledged}
use Rattle.world.proofs.Timing.{stays_in_time}
use Rattle.world.proofs.Wearing.{wears_slowly}
use Rattle.layers.specs.Codes.{DefaultCodes}

module _ (defaults : DefaultCodes) where
  -- what follows at the end of each history holds at each point of one
  each_point : (P : SimValue → List Step → Type 0) → ((start : SimValue) (past : List Step) → EachStep (IsAnswered defaults) start past → P start past)
      → (start : SimValue) (past : List Step) → EachStep (IsAnswered defaults) start past → EachPoint P start past
  each_point P follows start [] h = follows start [] h
  each_point P follows start (step ∷ before) h = (follows start (step ∷ before) h, each_point P follows start before h.1)

  keeps_stored : (start : SimValue) (history : List Step) → EachStep (IsAnswered defaults) start history → KeepsStored defaults start history
  keeps_stored start history h = record { reported = acknowledged defaults start history h; allowed = holds_allowed defaults start history h }

  pub promise : (start : SimValue) (history : List Step) → EachStep (IsAnswered defaults) start history → Promise defaults start history
  promise start history h = record {
    answered = h;
    restarts = starts_legally defaults start history h;
    acknowledged = each_point (KeepsStored defaults) keeps_stored start history h;
    confirmed = record {
      settled = each_point (ConfirmsSettled defaults) (confirms_settled defaults) start history h;
      kept = starts_with_confirmed defaults start history h;
      changed = each_point (StartsChanged defaults) (starts_changed defaults) start history h;
    };
    looks = shows_settled defaults start history h;
    reads = reads_wanted defaults start history h;
    keeps = each_point KeepsServed (keeps_served defaults) start history h;
    gathered = each_point GathersServed (gathers_served defaults) start history h;
    moments = moves_on defaults start history h;
    in_time = stays_in_time defaults start history h;
    in_order = works_in_order defaults start history h;
    headers = writes_own_header defaults start history h;
    wears = wears_slowly defaults start history h;
    sound = each_point KeepsSound (keeps_sound defaults) start history h;
  }
