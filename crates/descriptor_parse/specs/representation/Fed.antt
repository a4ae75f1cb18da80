-- Representation: the parser to the bytes that it was fed.
use Rattle.shapes.specs.Shapes.{Bytes}
use Rattle.std.specs.Prelude.{◌≡◌, ℕ, ◌<◌, ◌≤◌, ◌++◌, length, slice_index, Option, Some, None}
use Rattle.descriptor_parse.specs.declared.fault.ParseError.{ParseError}
use Rattle.descriptor_parse.specs.declared.state.State.{State}
use Rattle.descriptor_parse.specs.declared.reading.Reading.{Reading}
use Rattle.descriptor_parse.specs.Items.{ItemValue, item_size, front_item}
use Rattle.descriptor_parse.specs.representation.Parse.{HasReached}
use Rattle.descriptor_parse.specs.Fed.{RefusesAll}

-- Whatever follows a text, its items were read up to this offset, and the rest of it is left.
pub record IsAt (text rest : Bytes) (offset : ℕ) (state : State) : Type 0 where
  pub reached : (more : Bytes) → HasReached (text ++ more) (rest ++ more) offset state
  pub within : offset ≤ 4096

-- a whole item stands at the front
pub record IsFront (item : ItemValue) (rest : Bytes) (offset : ℕ) : Type 0 where
  pub whole : item_size rest ≤ length rest
  pub is : item ≡ front_item offset rest

-- a reading of these bytes keeps the item that is not whole yet
pub record IsReading (text : Bytes) (reading : Reading) : Type 0 where
  pub at : IsAt text reading.part.items reading.offset reading.state
  pub short : length reading.part.items < item_size reading.part.items

-- bytes
abbrev pub AreBytes : Bytes → Type 0
AreBytes text = (i : ℕ) → slice_index text i < 256

-- A reading was fed these bytes, and tells this refusal.
pub record WasFed (text : Bytes) (reading : Reading) (refused : Option ParseError) : Type 0 where
  pub bytes : AreBytes text
  pub going : refused ≡ None → IsReading text reading
  pub reported : (e : ParseError) → refused ≡ Some e → RefusesAll text e
