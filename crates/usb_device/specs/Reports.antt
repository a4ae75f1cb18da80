-- Trusted: the packets of a report (USB 2.0 section 5.7.3), and what reports the packets are that a host took as new.
use Rattle.std.specs.Prelude.{◌≡◌, ◌⊎◌, ℕ, zero, suc, ◌-◌, ◌/◌, Bool, true, false, List, [], ◌∷◌, ◌++◌, length, take, drop}
use Rattle.usb_device.specs.Bus1.{Got, New, Anew, GivenUp, Known, Sent, Reported, Changed, is_old, newest}

-- so many packets of the bytes: each full, but for the last
abbrev pub cut : ℕ → ℕ → List ℕ → List (List ℕ)
cut size zero bytes = []
cut size (suc count) bytes = take size bytes ∷ cut size count (drop size bytes)

-- how many packets a report has, at least one
abbrev pub count_of : ℕ → List ℕ → ℕ
count_of size report = suc ((length report - 1) / size)

abbrev pub packets_of : ℕ → List ℕ → List (List ℕ)
packets_of size report = cut size (count_of size report) report

-- these packets are taken as new, one behind the other
abbrev pub with_new : List (List ℕ) → List Got → List Got
with_new [] got = got
with_new (packet ∷ rest) got = with_new rest (New packet ∷ got)

abbrev pub IsPacket : List ℕ → List (List ℕ) → Type 0
IsPacket packet [] = ⊥
IsPacket packet (one ∷ rest) = (packet ≡ one) ⊎ IsPacket packet rest

-- packets of this report, and where the device began anew
abbrev pub ArePieces : ℕ → List ℕ → List Got → Type 0
ArePieces size report [] = Unit {0}
ArePieces size report (New packet ∷ rest) = IsPacket packet (packets_of size report) × ArePieces size report rest
ArePieces size report (Anew state ∷ rest) = ArePieces size report rest
ArePieces size report (GivenUp ∷ rest) = ⊥
ArePieces size report (Known ∷ rest) = ArePieces size report rest

-- the host took a packet among these
abbrev pub HasNew : List Got → Type 0
HasNew [] = ⊥
HasNew (New packet ∷ rest) = Unit {0}
HasNew (Anew state ∷ rest) = HasNew rest
HasNew (GivenUp ∷ rest) = HasNew rest
HasNew (Known ∷ rest) = HasNew rest

-- the device emptied its buffers, the host took nothing since, and is not known to have begun anew (sections 8.6 and 9.1.1.5)
abbrev pub IsEmptied : List Got → Type 0
IsEmptied [] = ⊥
IsEmptied (New packet ∷ rest) = ⊥
IsEmptied (Anew state ∷ rest) = Unit {0}
IsEmptied (GivenUp ∷ rest) = Unit {0}
IsEmptied (Known ∷ rest) = ⊥

-- behind the report before, and behind what came of this one, it is so but for packets of this one
abbrev pub MayRepeat : List Got → List Got → Type 0
MayRepeat [] before = IsEmptied before
MayRepeat (New packet ∷ rest) before = MayRepeat rest before
MayRepeat (Anew state ∷ rest) before = Unit {0}
MayRepeat (GivenUp ∷ rest) before = Unit {0}
MayRepeat (Known ∷ rest) before = ⊥

-- a report may come whole behind these packets of it: none came since the device last emptied its buffers, or it may repeat them
abbrev pub MayFollow : List Got → List Got → Type 0
MayFollow [] before = Unit {0}
MayFollow (New packet ∷ rest) before = MayRepeat rest before
MayFollow (_ ∷ rest) before = Unit {0}

-- nothing came, but that the device emptied its buffers
abbrev pub NothingCame : List Got → Type 0
NothingCame [] = Unit {0}
NothingCame (New packet ∷ rest) = ⊥
NothingCame (Anew state ∷ rest) = NothingCame rest
NothingCame (GivenUp ∷ rest) = NothingCame rest
NothingCame (Known ∷ rest) = NothingCame rest

-- the host has these reports, newest first, and each of them whole, in their order. Each came once, unless the device emptied its
-- buffers before it and did not know that the host has begun anew: then packets of it came before it. Only a report behind which the protocol was set may have
-- been given up: then packets of it may have come before, and none came since.
abbrev pub CarriesBy : Bool → ℕ → List Got → List Sent → Type 0
CarriesBy old size got [] = NothingCame got
CarriesBy old size got (Changed ∷ earlier) = CarriesBy true size got earlier
CarriesBy old size got (Reported report ∷ earlier) =
    ((since : List Got) × (pieces : List Got) × (before : List Got) × (got ≡ since ++ with_new (packets_of size report) (pieces ++ before))
    × NothingCame since × ArePieces size report pieces × MayFollow pieces before × CarriesBy false size before earlier)
    ⊎ ((old ≡ true) × (since : List Got) × (pieces : List Got) × (before : List Got) × (got ≡ since ++ GivenUp ∷ (pieces ++ before))
    × NothingCame since × ArePieces size report pieces × CarriesBy false size before earlier)

abbrev pub Carries : ℕ → List Got → List Sent → Type 0
Carries size got sent = CarriesBy false size got sent

-- the newest of these reports is under way: packets of it may have come
pub record Begun (size : ℕ) (report : List ℕ) (got : List Got) (earlier : List Sent) : Type 0 where
  pub pieces : List Got
  pub before : List Got
  pub got_is : got ≡ pieces ++ before
  pub are : ArePieces size report pieces
  pub carried : Carries size before earlier

-- the host has all of these reports whole, or all but the newest. Where the protocol was set behind the newest, and the host has it not
-- whole, it has a packet of it; else it is given up.
pub data GotInOrder (size : ℕ) (got : List Got) (sent : List Sent) : Type 0 where
  all : Carries size got sent → GotInOrder size got sent
  but_one : (report : List ℕ) (earlier : List Sent) → newest sent ≡ Reported report ∷ earlier → (begun : Begun size report got earlier)
      → (is_old sent ≡ true → HasNew begun.pieces) → GotInOrder size got sent
