-- Representation: what is known of an id while the slots of a page are read.
use Rattle.shapes.specs.Shapes.{Bytes}
use Rattle.std.specs.Prelude.{◌-◌, ◌≡◌, ℕ, ◌+◌, ◌<◌, ◌≤◌, ◌==◌, if◌then◌else◌, false, Option, Some, None, List, ◌∷◌, length, slice_index_or}
use Rattle.settings_log.specs.declared.scan.Place.{Place}
use Rattle.settings_log.specs.declared.scan.Entry.{Entry}
use Rattle.settings_log.specs.declared.scan.Open.{Open}
use Rattle.settings_log.specs.declared.words.Head.{Head}
use Rattle.settings_log.specs.declared.words.Word.{Word}
use Rattle.settings_log.specs.Values.{HeadAt, kinds_from, heads_left, in_force, last_of, or_else}

-- the place of a head
abbrev pub place_of : Option HeadAt → Option Place
place_of (Some head) = Some (record { page = head.page; slot = head.slot })
place_of None = None

-- what is found of an id where these heads come in force
abbrev pub found_with : Entry → Option (List HeadAt) → Option Place
found_with entry (Some heads) = or_else (place_of (last_of entry.id heads)) (or_else entry.coming entry.found)
found_with entry None = entry.found

-- what is found where a change goes on in the slots from one on, if one does
abbrev pub closed : ℕ → Entry → Option Open → ℕ → List Word → Option Place
closed page entry (Some pending) slot words = found_with entry (heads_left page slot pending.left pending.last words)
closed page entry None slot words = entry.found

-- what will be found of an id on a page, by what is known before a slot, and the slots from it on
unfoldable pub outcome : ℕ → Entry → Option Open → ℕ → List Word → Option Place
outcome page entry pending slot words = or_else (place_of (last_of entry.id (in_force page slot words))) (closed page entry pending slot words)

-- words of a change are to come
abbrev pub Waits : Option Open → Type 0
Waits (Some pending) = pending.left ≡ 0 → pending.last ≡ false
Waits None = Unit {0}

-- each entry and what became of it
pub record EachEntry (P : Entry → Entry → Type 0) (old new : List Entry) : Type 0 where
  pub same_length : length new ≡ length old
  pub each : (k : ℕ) (d : Entry) → k < length old → P (slice_index_or old k d) (slice_index_or new k d)

-- a head of an id in a change whose words have not all come; nothing is known of others where it is the first one
abbrev pub noted : Head → Place → Entry → Entry
noted head place entry = record { id = entry.id; found = entry.found; coming = if entry.id == head.id then Some place else (if head.first then None else entry.coming) }

-- all words of a change have come
abbrev pub come : Entry → Entry
come entry = record { id = entry.id; found = or_else entry.coming entry.found; coming = entry.coming }

-- entries before an index became f of what they were; the others are as they were
pub record Passed (f : Entry → Entry) (i : ℕ) (old new : List Entry) : Type 0 where
  pub same_length : length new ≡ length old
  pub passed : (k : ℕ) (d : Entry) → k < i → k < length old → slice_index_or new k d ≡ f (slice_index_or old k d)
  pub rest : (k : ℕ) (d : Entry) → i ≤ k → k < length old → slice_index_or new k d ≡ slice_index_or old k d

-- what will be found is the same where a change is in force that has come
pub record IsSettled (pending after : Option Open) (old new : Entry) : Type 0 where
  pub id : new.id ≡ old.id
  pub same : (page slot : ℕ) (words : List Word) → outcome page new after slot words ≡ outcome page old pending slot words

-- an entry before a slot and behind it: what will be found is the same
pub record GoesOn (page slot : ℕ) (word : Word) (pending after : Option Open) (old new : Entry) : Type 0 where
  pub id : new.id ≡ old.id
  pub same : (rest : List Word) → outcome page new after (slot + 1) rest ≡ outcome page old pending slot (word ∷ rest)

-- an entry before a page and before one of its slots: what will be found is the same
pub record IsReading (image : Bytes) (page slot : ℕ) (pending : Option Open) (old new : Entry) : Type 0 where
  pub id : new.id ≡ old.id
  pub same : outcome page new pending slot (kinds_from image page slot (512 - slot)) ≡ outcome page old None 1 (kinds_from image page 1 511)

-- an entry before a page and behind it
pub record IsFoundOn (heads : List HeadAt) (old new : Entry) : Type 0 where
  pub id : new.id ≡ old.id
  pub found : new.found ≡ or_else (place_of (last_of old.id heads)) old.found
