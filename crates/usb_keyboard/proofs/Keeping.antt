-- What a confirmed command wrote is there behind each power loss, until a later command that writes the entry is accepted.
use Rattle.std.proofs.Common.{◌≡◌, ℕ, ◌<◌, List, [], ◌∷◌, ◌++◌, Some}
use Rattle.layers.specs.Codes.{layers, keys, DefaultCodes}
use Rattle.layers.specs.Entries.{written}
use Rattle.layers.specs.declared.command.Command.{Command}
use Rattle.keyboard.specs.Acknowledged.{confirmation, NoneAcceptedWrites, IsConfirmed, IsAcknowledgedInSession}
use Rattle.keyboard.specs.Calls.{Call, keymap}
use Rattle.keyboard.specs.Conforming.{IsConforming}
use Rattle.keyboard.specs.Sessions.{Session, StartsAfter, Follow}
use Rattle.keyboard.proofs.Following.{kept_in_session, none_writes, loss_keeps}
use Rattle.keyboard.proofs.Telling.{Stored, stays_stored}
use Rattle.usb_keyboard.specs.Stored.{NoneWrites, Has, HasNow}

module _ (defaults : DefaultCodes) where
  has_stored : (start : List ℕ) (past : List Call) (layer key code : ℕ) → layer < layers → key < keys → Stored defaults start past layer key code → Has defaults start past layer key code
  has_stored start past layer key code l k s = record { now = s.entry_is; lost = λ image m. loss_keeps defaults start past image layer key code l k m s }

  pub has_confirmed : (start : List ℕ) (past before : List Call) (command : Command) (layer key code : ℕ) → layer < layers → key < keys → IsConforming defaults start past
      → (c : IsConfirmed past before command) → written defaults command layer key ≡ Some code → NoneAcceptedWrites defaults (c.after ++ confirmation ∷ c.between) (c.packet ∷ before) layer key
      → Has defaults start past layer key code
  has_confirmed start past before command layer key code l k conforming c w n =
      let told : IsAcknowledgedInSession defaults past layer key code = record {
        in_layers = l;
        in_keys = k;
        before = before;
        packet = c.packet;
        between = c.between;
        after = c.after;
        past_is = c.past_is;
        command = command;
        accepted = c.accepted;
        writes = w;
        same_transfer = c.same_transfer;
        not_since = n;
      } in
      has_stored start past layer key code l k (stays_stored defaults start past conforming layer key code told)

  at_start : (earlier : List Session) (start : List ℕ) (layer key code : ℕ) → StartsAfter defaults start earlier → HasNow defaults earlier layer key code → keymap defaults start layer key ≡ code
  at_start [] start layer key code b h = absurd h
  at_start (session ∷ earlier) start layer key code b h = h.lost start b

  pub has_later : (since before : List Session) (session : Session) (layer key code : ℕ) → layer < layers → key < keys → Follow defaults (since ++ session ∷ before) → NoneWrites defaults since layer key
      → Has defaults session.first session.past layer key code → HasNow defaults (since ++ session ∷ before) layer key code
  has_later [] before session layer key code l k f n h = h
  has_later (next ∷ since) before session layer key code l k f n h =
      let there : HasNow defaults (since ++ session ∷ before) layer key code = has_later since before session layer key code l k f.2 n.1 h in
      has_stored next.first next.past layer key code l k
      (kept_in_session defaults next.first next.past layer key code l k f.0 (none_writes defaults next.past layer key n.0) (at_start (since ++ session ∷ before) next.first layer key code f.1 there))
