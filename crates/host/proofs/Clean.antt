use Rattle.std.proofs.Common.{◌≡◌, ℕ, ◌≤◌, ◌<◌, arith, refl, Bool, true, false, List, [], ◌∷◌, length, Option, Some, None, Result, Ok, Err, sym, inl, inr}
use Rattle.std.specs.Prelude.{◌↔◌, ◌&&◌, ◌==◌, nat_le}
use Rattle.std.proofs.lemmas.Bool.{false≢true, cases_lt, cases_Bool, le-leb, leb-true, eqb-true, and_parts}
use Rattle.descriptor_parse.specs.declared.fault.ParseError.{ParseError}
use Rattle.descriptor_parse.specs.declared.fault.ParseFault.{ParseFault}
use Rattle.descriptor_parse.specs.declared.fault.ParseFault.TheVariants.{CollectionOpen, TooLong}
use Rattle.descriptor_parse.specs.Items.{ItemValue, items_at}
use Rattle.descriptor_parse.specs.Fields.{open_collections}
use Rattle.descriptor_parse.specs.Faults.{fault_at, all_items, IsFaultAmong, IsFaultAtEnd, IsFaultless}
use Rattle.descriptor_parse.proofs.FaultLemmas.{clean, shown_fault}
use Rattle.host.specs.Faultless.{both, all_clean, is_faultless}

among : (before : List ItemValue) (item : ItemValue) (rest : Bool) (found : Option ParseFault) → fault_at before item ≡ found → both found rest ≡ true → (fault_at before item ≡ None) × (rest ≡ true)
among before item rest None e h = (e, h)
among before item rest (Some fault) e h = absurd (false≢true h)

pub none_among : (items : List (Result ItemValue ParseError)) (before : List ItemValue) (fault : ParseFault) (at : ℕ) → all_clean before items ≡ true → IsFaultAmong before items fault at → ⊥
unfolding all_clean
none_among [] before fault at h f = f
none_among (Ok item ∷ more) before fault at h (inl s) = clean before item (among before item (all_clean (item ∷ before) more) (fault_at before item) refl h).0 fault s.0
none_among (Ok item ∷ more) before fault at h (inr s) = none_among more (item ∷ before) fault at (among before item (all_clean (item ∷ before) more) (fault_at before item) refl h).1 s
none_among (Err e ∷ more) before fault at h f = absurd (false≢true h)

none_at_end : (text : List ℕ) (fault : ParseFault) (at : ℕ) → length text ≤ 4096 → open_collections (all_items text) ≡ 0 → IsFaultAtEnd text fault at → ⊥
none_at_end text CollectionOpen at short none f = let l : 0 < open_collections (all_items text) = f.0 in omega arith
none_at_end text TooLong at short none f = let l : 4096 < length text = f.0 in omega arith
none_at_end text _ at short none f = f

pub faultless : (text : List ℕ) → all_clean [] (items_at 0 text) ≡ true → length text ≤ 4096 → open_collections (all_items text) ≡ 0 → IsFaultless text
faultless text c short none fault at (inl f) = none_among (items_at 0 text) [] fault at c f
faultless text c short none fault at (inr f) = none_at_end text fault at short none f

-- ---- a text that is not clean shows a fault

abbrev HasOne : List ItemValue → List (Result ItemValue ParseError) → Type 0
HasOne before items = (fault : ParseFault) × (at : ℕ) × IsFaultAmong before items fault at

later-one : (before : List ItemValue) (item : ItemValue) (more : List (Result ItemValue ParseError)) → HasOne (item ∷ before) more → HasOne before (Ok item ∷ more)
later-one before item more (fault, at, h) = (fault, at, inr h)

here-or-later : (before : List ItemValue) (item : ItemValue) (more : List (Result ItemValue ParseError)) (found : Option ParseFault) → fault_at before item ≡ found
    → both found (all_clean (item ∷ before) more) ≡ false → (all_clean (item ∷ before) more ≡ false → HasOne (item ∷ before) more) → HasOne before (Ok item ∷ more)
here-or-later before item more None e h later = later-one before item more (later h)
here-or-later before item more (Some fault) e h later = (fault, item.offset, inl ((shown_fault before item fault e).0, refl))

some-among : (items : List (Result ItemValue ParseError)) (before : List ItemValue) → all_clean before items ≡ false → HasOne before items
unfolding all_clean
some-among [] before h = absurd (false≢true (sym h))
some-among (Ok item ∷ more) before h = here-or-later before item more (fault_at before item) refl h (some-among more (item ∷ before))
some-among (Err e ∷ more) before h = (e.fault, e.offset, (refl, refl))

-- ---- the test decides

test-true : (text : List ℕ) → is_faultless text ≡ true → IsFaultless text
unfolding is_faultless
test-true text h =
    let (c, rest) = and_parts (all_clean [] (items_at 0 text)) (nat_le (length text) 4096 && open_collections (all_items text) == 0) h in
    let (l, o) = and_parts (nat_le (length text) 4096) (open_collections (all_items text) == 0) rest in
    faultless text c (leb-true (length text) 4096 l) (eqb-true (open_collections (all_items text)) 0 o)

is-clean : (text : List ℕ) → IsFaultless text → all_clean [] (items_at 0 text) ≡ true
is-clean text h = elim (cases_Bool (all_clean [] (items_at 0 text))) [
  | inl clean-all ↦ clean-all
  | inr unclean ↦ absurd (let (fault, at, among) = some-among (items_at 0 text) [] unclean in h fault at (inl among))
]

is-short : (text : List ℕ) → IsFaultless text → length text ≤ 4096
is-short text h = elim (cases_lt 4096 (length text)) [
  | inl long ↦ absurd (h TooLong 4096 (inr (long, refl)))
  | inr short ↦ short
]

is-closed : (text : List ℕ) → IsFaultless text → open_collections (all_items text) ≡ 0
is-closed text h = elim (cases_lt 0 (open_collections (all_items text))) [
  | inl some ↦ absurd (h CollectionOpen (length text) (inr (some, refl)))
  | inr none ↦ omega arith
]

true-test : (text : List ℕ) → IsFaultless text → is_faultless text ≡ true
unfolding is_faultless
true-test text h = rw (is-clean text h, le-leb (length text) 4096 (is-short text h), is-closed text h) refl

pub decided : (text : List ℕ) → is_faultless text ≡ true ↔ IsFaultless text
decided text = (test-true text, true-test text)
