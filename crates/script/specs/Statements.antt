-- Trusted: the lines of a script: what each one says, and which fault it has.
use Rattle.shapes.specs.Shapes.{Bytes}
use Rattle.std.specs.Prelude.{◌≡◌, ◌≢◌, ℕ, ◌<◌, ◌≤◌, ◌⊎◌, List, [], ◌∷◌, length, map, codes, ◌+◌, ◌*◌}
use Rattle.std.specs.Int.NonZero.{non_zero_u16_get}
use Rattle.script.specs.Keys.{WritesScan}
use Rattle.script.specs.Masks.{IsMaskWord}
use Rattle.script.specs.Numbers.{WritesNumber, IsNumberBelow, IsCount, WritesBytes, IsHexOf}
use Rattle.script.specs.declared.fault.LineFault.{LineFault}
use Rattle.script.specs.declared.fault.LineFault.TheVariants.{UnknownWord, WrongWords, BadNumber, BadHex}
use Rattle.script.specs.declared.statement.Action.TheVariants as action
use Rattle.script.specs.declared.statement.Keyword.{Keyword}
use Rattle.script.specs.declared.statement.Keyword.TheVariants as keyword
use Rattle.script.specs.declared.statement.Statement.{Statement}
use Rattle.script.specs.declared.statement.Statement.TheVariants as statement
use Rattle.flash_model.specs.declared.TheConstants.{PAGE_SLOTS}

-- the first word of a line
abbrev pub spelling : Keyword → Bytes
spelling keyword.Scan = codes "scan"
spelling keyword.Scans = codes "scans"
spelling keyword.Poll = codes "poll"
spelling keyword.Setup = codes "setup"
spelling keyword.Out = codes "out"
spelling keyword.In = codes "in"
spelling keyword.Work = codes "work"
spelling keyword.WorkFault = codes "workfault"
spelling keyword.Cut = codes "cut"
spelling keyword.CutWork = codes "cutwork"
spelling keyword.Reset = codes "reset"
spelling keyword.Entry = codes "entry"
spelling keyword.Slot = codes "slot"
spelling keyword.Leds = codes "leds"
spelling keyword.Set = codes "set"
spelling keyword.Fetch = codes "fetch"

-- what a word after the first one is to be
pub data Kind : Type 0 where
  -- a decimal number below this bound
  Number : ℕ → Kind
  -- a number of scans
  Count : Kind
  -- this many bytes in hex, at least and at most
  HexBytes : ℕ → ℕ → Kind
  -- a mask
  MaskBytes : Kind

abbrev pub IsOfKind : Kind → Bytes → Type 0
IsOfKind (Number bound) word = IsNumberBelow bound word
IsOfKind Count word = IsCount word
IsOfKind (HexBytes least most) word = IsHexOf least most word
IsOfKind MaskBytes word = IsMaskWord word

abbrev pub fault_of : Kind → LineFault
fault_of (Number bound) = BadNumber
fault_of Count = BadNumber
fault_of (HexBytes least most) = BadHex
fault_of MaskBytes = BadHex

-- one number of a key for each of these words
abbrev pub key_kinds : List Bytes → List Kind
key_kinds words = map (λ _. Number 96) words

-- what each of the words after a first word is to be, on a flash of so many pages
abbrev pub kinds : ℕ → Keyword → List Bytes → List Kind
kinds pages keyword.Scan arguments = key_kinds arguments
kinds pages keyword.Scans [] = []
kinds pages keyword.Scans (count ∷ keys) = Count ∷ key_kinds keys
kinds pages keyword.Poll arguments = []
kinds pages keyword.Setup arguments = HexBytes 8 8 ∷ []
kinds pages keyword.Out arguments = HexBytes 1 8 ∷ []
kinds pages keyword.In arguments = []
kinds pages keyword.Work arguments = []
kinds pages keyword.WorkFault arguments = MaskBytes ∷ []
kinds pages keyword.Cut arguments = []
kinds pages keyword.CutWork arguments = MaskBytes ∷ []
kinds pages keyword.Reset arguments = []
kinds pages keyword.Entry arguments = Number 4 ∷ Number 96 ∷ []
kinds pages keyword.Slot arguments = Number pages ∷ Number PAGE_SLOTS ∷ []
kinds pages keyword.Leds arguments = []
kinds pages keyword.Set arguments = Number 256 ∷ Number 256 ∷ HexBytes 2 2 ∷ []
kinds pages keyword.Fetch arguments = []

-- how many words may follow: one for each kind, but `out` may stand alone too, and a scan names up to 96 keys
abbrev pub Takes : Keyword → List Bytes → Type 0
Takes keyword.Out arguments = length arguments ≤ 1
Takes keyword.Scan arguments = length arguments ≤ 96
Takes keyword.Scans arguments = (1 ≤ length arguments) × (length arguments ≤ 97)
Takes k arguments = length arguments ≡ length (kinds 0 k arguments)

-- the first word that is not of its kind gives this fault
abbrev pub FirstBad : List Kind → List Bytes → LineFault → Type 0
FirstBad [] words fault = ⊥
FirstBad (k ∷ ks) [] fault = ⊥
FirstBad (k ∷ ks) (w ∷ ws) fault = (¬ (IsOfKind k w) × (fault ≡ fault_of k)) ⊎ (IsOfKind k w × FirstBad ks ws fault)

-- the fault of a line with a known first word
abbrev pub IsArgumentFault : ℕ → Keyword → List Bytes → LineFault → Type 0
IsArgumentFault pages k arguments UnknownWord = ⊥
IsArgumentFault pages k arguments WrongWords = ¬ (Takes k arguments)
IsArgumentFault pages k arguments BadNumber = Takes k arguments × FirstBad (kinds pages k arguments) arguments BadNumber
IsArgumentFault pages k arguments BadHex = Takes k arguments × FirstBad (kinds pages k arguments) arguments BadHex

-- the fault of a line: its first word, the number of its words, and then each word from the left
abbrev pub IsFault : ℕ → List Bytes → LineFault → Type 0
IsFault pages [] fault = ⊥
IsFault pages (name ∷ arguments) UnknownWord = (k : Keyword) → spelling k ≢ name
IsFault pages (name ∷ arguments) fault = (k : Keyword) × (spelling k ≡ name) × IsArgumentFault pages k arguments fault

-- the words that say a statement
abbrev pub Says : ℕ → Statement → List Bytes → Type 0
Says pages (statement.One (action.Scan scan)) words =
    (ks : List Bytes) × (words ≡ codes "scan" ∷ ks) × (length ks ≤ 96) × WritesScan ks scan
Says pages (statement.One action.Poll) words = words ≡ codes "poll" ∷ []
Says pages (statement.Scans count scan) words =
    (n : Bytes) × (ks : List Bytes) × (words ≡ codes "scans" ∷ n ∷ ks) × (length ks ≤ 96)
    × WritesNumber n (non_zero_u16_get count) × (non_zero_u16_get count ≤ 10000) × WritesScan ks scan
Says pages (statement.One (action.Setup packet)) words =
    (w : Bytes) × (words ≡ codes "setup" ∷ w ∷ []) × WritesBytes w packet
Says pages (statement.One (action.Out packet)) words =
    ((words ≡ codes "out" ∷ []) × (packet.items ≡ []))
    ⊎ ((w : Bytes) × (words ≡ codes "out" ∷ w ∷ []) × WritesBytes w packet.items × (0 < length packet.items))
Says pages (statement.One action.In) words = words ≡ codes "in" ∷ []
Says pages (statement.One action.Work) words = words ≡ codes "work" ∷ []
Says pages (statement.One (action.WorkFault mask)) words = (words ≡ codes "workfault" ∷ mask ∷ []) × IsMaskWord mask
Says pages (statement.One action.Cut) words = words ≡ codes "cut" ∷ []
Says pages (statement.One (action.CutWork mask)) words = (words ≡ codes "cutwork" ∷ mask ∷ []) × IsMaskWord mask
Says pages (statement.One action.Reset) words = words ≡ codes "reset" ∷ []
Says pages (statement.One (action.Entry layer key)) words =
    (l k : Bytes) × (words ≡ codes "entry" ∷ l ∷ k ∷ []) × WritesNumber l layer × WritesNumber k key
Says pages (statement.One (action.Slot page slot)) words =
    (p s : Bytes) × (words ≡ codes "slot" ∷ p ∷ s ∷ []) × WritesNumber p page × WritesNumber s slot × (page < pages) × (slot < PAGE_SLOTS)
Says pages (statement.One action.Leds) words = words ≡ codes "leds" ∷ []
Says pages (statement.Set layer key code) words =
    (l k c : Bytes) × (words ≡ codes "set" ∷ l ∷ k ∷ c ∷ []) × WritesNumber l layer × WritesNumber k key × ((high low : ℕ) × WritesBytes c (high ∷ low ∷ []) × (code ≡ 256 * high + low))
Says pages statement.Fetch words = words ≡ codes "fetch" ∷ []
