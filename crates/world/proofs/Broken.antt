-- The host is told what was not stored: the history breaks its fields, computed from the definitions.
use Rattle.std.proofs.Common.{◌≡◌, ℕ, List, [], ◌∷◌, ◌++◌, refl, sym, ◌∙◌, ap, arith}
use Rattle.layers.specs.Standard.{standard}
use Rattle.layers.specs.Entries.{last_written, changed, commands_in, entry_in}
use Rattle.layers.specs.declared.command.Command.{Command}
use Rattle.layers.specs.declared.command.Command.TheVariants.{SetKey}
use Rattle.control_ep.specs.declared.answer.EpAnswer.TheVariants.{Ack as EpAck, Packet as EpPacket}
use Rattle.world.specs.declared.event.Answer.TheVariants.{Ack, Packet}
use Rattle.world.specs.declared.event.Event.TheVariants.{Setup, OutPacket, InPacket}
use Rattle.page_turnover.specs.Active.{newer, newest, active, format}
use Rattle.page_turnover.specs.Words.{words}
use Rattle.keymap_store.specs.Keymap.{entries_of}
use Rattle.layers.specs.Held.{any_below}
use Rattle.keyboard.specs.Acknowledged.{IsConfirmed, IsSettled}
use Rattle.keyboard.specs.Calls.{Call, SetUp, Out, In, keymap}
use Rattle.keyboard.specs.Commands.{Accepted, accepts, accepted, accepted_before}
use Rattle.keyboard.specs.Effects.{report_named}
use Rattle.keyboard.specs.Fate.{Fate, works, settled, changes}
use Rattle.world.specs.Acknowledged.{IsAcknowledged, KeepsAcknowledged}
use Rattle.world.specs.Restart.{ConfirmsSettled}
use Rattle.world.specs.Histories.{blank, reported_but_not_stored, set_feature, set_report, step}

pub default_code : keymap standard [] 0 0 ≡ 4
unfolding last_written changed commands_in entry_in newer newest active format words entries_of
default_code = refl

pub four_not : (n : ℕ) → n ≡ 4 → n ≡ 5 → ⊥
four_not n e f = omega (arith, e, f)

abbrev pub set_key : Command
set_key = SetKey 0 0 5

acknowledges : IsAcknowledged standard blank reported_but_not_stored 0 0 5
unfolding accepts report_named
acknowledges = record {
  in_layers = omega arith;
  in_keys = omega arith;
  before = step (Setup set_feature) Ack ∷ [];
  packet = step (OutPacket (record { items = set_report })) Ack;
  between = [];
  status = step InPacket (Packet (record { items = [] }));
  after = [];
  history_is = refl;
  command = set_key;
  accepted = refl;
  writes = refl;
  same_transfer = tt;
  reported = (refl, refl);
  not_since = (tt, tt);
}

pub not_acknowledged : KeepsAcknowledged standard blank reported_but_not_stored → ⊥
not_acknowledged h = four_not (keymap standard [] 0 0) default_code (h 0 0 5 acknowledges)

-- the same history as the keyboard sees it, without its last call, and without its last two
abbrev pub asked : List Call
asked = SetUp set_feature ∷ []

abbrev reported : List Call
reported = In (EpPacket (record { items = [] })) ∷ Out set_report EpAck ∷ asked

confirms : IsConfirmed reported asked set_key
unfolding accepts report_named
confirms = record { packet = Out set_report EpAck; between = []; after = []; past_is = refl; accepted = refl; same_transfer = tt }

abbrev pub at_work : Accepted
at_work = record { command = set_key; fate = works }

abbrev pub done : Accepted
done = record { command = set_key; fate = settled }

still_works : accepted standard [] reported ≡ at_work ∷ []
unfolding accepted accepts report_named changes any_below last_written changed commands_in entry_in newer newest active format words entries_of
still_works = refl

abbrev first_fate : List Accepted → Fate
first_fate [] = works
first_fate (one ∷ later) = one.fate

none_settled : (earlier later : List Accepted) → at_work ∷ [] ≡ earlier ++ done ∷ later → ⊥
none_settled [] later e = (let same : works ≡ settled = ap first_fate e in cc)
none_settled (one ∷ []) later e = cc
none_settled (one ∷ two ∷ earlier) later e = cc

pub not_confirmed : ConfirmsSettled standard blank reported_but_not_stored → ⊥
not_confirmed h =
    let s : IsSettled standard [] reported asked set_key = h asked set_key confirms in
    none_settled (accepted_before standard [] s.since asked) s.settled_at.later (sym still_works ∙ s.settled_at.all_are)
