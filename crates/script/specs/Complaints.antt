-- Trusted: what is wrong with a line, by the words that it has.
use Rattle.shapes.specs.Shapes.{Bytes}
use Rattle.std.specs.Prelude.{◌≡◌, ◌≢◌, ℕ, List, length}
use Rattle.script.specs.Statements.{Kind, IsOfKind, Number, Count, HexBytes, MaskBytes, Takes, spelling}
use Rattle.script.specs.declared.complaint.Complaint.{Complaint}
use Rattle.script.specs.declared.complaint.Complaint.TheVariants as complaint
use Rattle.script.specs.declared.complaint.Wanted.{Wanted}
use Rattle.script.specs.declared.complaint.Wanted.TheVariants as wanted
use Rattle.script.specs.declared.statement.Keyword.{Keyword}
use Rattle.flash_model.specs.declared.TheConstants.{PAGE_SLOTS}

-- what a word is to be, on a flash of so many pages
abbrev pub kind_of : ℕ → Wanted → Kind
kind_of pages wanted.Key = Number 96
kind_of pages wanted.Layer = Number 4
kind_of pages wanted.Page = Number pages
kind_of pages wanted.Slot = Number PAGE_SLOTS
kind_of pages wanted.Scans = Count
kind_of pages wanted.LayerByte = Number 256
kind_of pages wanted.KeyByte = Number 256
kind_of pages wanted.SetupPacket = HexBytes 8 8
kind_of pages wanted.Packet = HexBytes 1 8
kind_of pages wanted.Mask = MaskBytes
kind_of pages wanted.Code = HexBytes 2 2

-- what is complained of is so: no line begins with the word, so many words may not follow, or the word is not what is wanted
abbrev pub IsSo : ℕ → Complaint → Type 0
IsSo pages (complaint.Unknown word) = (k : Keyword) → spelling k ≢ word.now
IsSo pages (complaint.Words k count) = (arguments : List Bytes) × (length arguments ≡ count) × ¬ (Takes k arguments)
IsSo pages (complaint.Word word column w) = ¬ (IsOfKind (kind_of pages w) word.now)
