use Rattle.std.proofs.lemmas.Grind.{common_steps}
use Rattle.std.proofs.Common.{◌≡◌, ℕ, zero, suc, ◌+◌, ◌-◌, ◌<◌, ◌≤◌, List, [], ◌∷◌, length, drop, refl, arith, sym, ◌∙◌, ap, Bool, true, Some, None, Ok, Err, inl, inr, length-drop, ◌⊎◌}
use Rattle.std.specs.Prelude.{Result, find, IsTrue, ◌&&◌, nat_le}
use Rattle.std.specs.List.{list_all}
use Rattle.std.proofs.lemmas.Bool.{cases_Bool, cases_lt, and_parts, leb-true}
use Rattle.descriptor_parse.specs.declared.fault.ParseError.{ParseError}
use Rattle.descriptor_parse.specs.declared.fault.ParseFault.{ParseFault}
use Rattle.descriptor_parse.specs.declared.fault.ParseFault.TheVariants.{Truncated, CollectionOpen, TooLong, Memory}
use Rattle.descriptor_parse.specs.Fault.{number_of}
use Rattle.descriptor_parse.specs.Items.{ItemValue, items_at, item_size, front_item}
use Rattle.descriptor_parse.specs.Tags.{tag}
use Rattle.descriptor_parse.specs.Faults.{shows, fault_at, item_faults, onto, all_items, IsFaultAmong, IsFaultAtEnd, HasFault, IsFaultless, IsFirst, wants_memory, WantsMemoryAt}
use Rattle.descriptor_parse.specs.Fields.{open_collections}
use Rattle.descriptor_parse.specs.declared.state.State.{State}
use Rattle.descriptor_parse.specs.representation.StateRefines.{StateRefines, IsRefused}
use Rattle.descriptor_parse.specs.Parse.{Refuses}
use Rattle.descriptor_parse.specs.representation.Parse.{HasReached}
use Rattle.descriptor_parse.specs.declared.field.Kind.{Kind}
use Rattle.descriptor_parse.specs.declared.reports.Reports.{Reports}
use Rattle.descriptor_parse.specs.representation.Totals.{bits_in, no_reports}
use Rattle.std.proofs.Math.ListN.{get_or-map}
use Rattle.descriptor_parse.specs.declared.totals.IdReports.{IdReports}
use Rattle.descriptor_parse.specs.Descriptor.{Describes, bits_of, bits_on}
use Rattle.descriptor_parse.specs.representation.DescriptorView.{value_of}
use Rattle.descriptor_parse.proofs.ItemLemmas.{size_pos, items_none, items_short, items_more, items_next}

-- ---- the least fault of an item

-- each of these faults has a number of at least n
abbrev pub all_from : ℕ → List ParseFault → Bool
all_from n faults = list_all (λ fault. nat_le n (number_of fault)) faults

abbrev pub is_rising : List ParseFault → Bool
is_rising [] = true
is_rising (fault ∷ faults) = all_from (number_of fault) faults && is_rising faults

-- a fault is on the list
abbrev pub IsOn : ParseFault → List ParseFault → Type 0
IsOn fault [] = ⊥
IsOn fault (first ∷ faults) = (fault ≡ first) ⊎ IsOn fault faults

from_on : (n : ℕ) (faults : List ParseFault) (fault : ParseFault) → all_from n faults ≡ true → IsOn fault faults → n ≤ number_of fault
from_on n [] fault a on = absurd on
from_on n (first ∷ faults) fault a on =
    elim on [
      | inl e ↦ (let l : n ≤ number_of first = leb-true _ _ (and_parts _ _ a).0 in let s : number_of fault ≡ number_of first = ap number_of e in omega arith)
      | inr more ↦ from_on n faults fault (and_parts _ _ a).1 more
    ]

-- what is found on a rising list is the least that passes
found_least : (p : ParseFault → Bool) (faults : List ParseFault) (found other : ParseFault) → is_rising faults ≡ true
    → find p faults ≡ Some found → IsOn other faults → p other ≡ true → number_of found ≤ number_of other
found_least p [] found other r f on t = absurd on
found_least p (first ∷ faults) found other r f on t =
    elim (cases_Bool (p first)) [
      | inl passes ↦ (let same : Some first ≡ Some found = (rw passes at f) in
          let e : first ≡ found = cc in
          elim on [
            | inl o ↦ (let s : number_of other ≡ number_of found = ap number_of (o ∙ e) in omega arith)
            | inr more ↦ (let l : number_of first ≤ number_of other = from_on (number_of first) faults other (and_parts _ _ r).0 more in let s : number_of first ≡ number_of found = ap number_of e in omega arith)
          ])
      | inr fails ↦ (let later : find p faults ≡ Some found = (rw fails at f) in
          elim on [
            | inl o ↦ absurd (let y : p first ≡ true = ap p (sym o) ∙ t in cc)
            | inr more ↦ found_least p faults found other (and_parts _ _ r).1 later more t
          ])
    ]

found_on : (p : ParseFault → Bool) (faults : List ParseFault) (found : ParseFault) → find p faults ≡ Some found → IsOn found faults × (p found ≡ true)
found_on p [] found f = cc
found_on p (first ∷ faults) found f =
    elim (cases_Bool (p first)) [
      | inl passes ↦ (let same : Some first ≡ Some found = (rw passes at f) in let e : first ≡ found = cc in (inl (sym e), ap p (sym e) ∙ passes))
      | inr fails ↦ (let later : find p faults ≡ Some found = (rw fails at f) in let more = found_on p faults found later in (inr more.0, more.1))
    ]

found_none : (p : ParseFault → Bool) (faults : List ParseFault) (other : ParseFault) → find p faults ≡ None → IsOn other faults → p other ≡ true → ⊥
found_none p [] other f on t = absurd on
found_none p (first ∷ faults) other f on t =
    elim (cases_Bool (p first)) [
      | inl passes ↦ (let some : Some first ≡ None = (rw passes at f) in cc)
      | inr fails ↦ (let later : find p faults ≡ None = (rw fails at f) in
          elim on [
            | inl o ↦ (let y : p first ≡ true = ap p (sym o) ∙ t in cc)
            | inr more ↦ found_none p faults other later more t
          ])
    ]

-- only the faults of the list show at an item
shown_on : (before : List ItemValue) (item : ItemValue) (fault : ParseFault) → shows before item fault ≡ true → IsOn fault item_faults
unfolding shows
shown_on before item fault h1 = grind (arith, common_steps)

pub clean : (before : List ItemValue) (item : ItemValue) → fault_at before item ≡ None → (fault : ParseFault) → IsTrue (shows before item fault) → ⊥
unfolding fault_at
clean before item none fault t = found_none (shows before item) item_faults fault none (shown_on before item fault t) t

pub least_shown : (before : List ItemValue) (item : ItemValue) (fault other : ParseFault) → fault_at before item ≡ Some fault
    → shows before item other ≡ true → number_of fault ≤ number_of other
unfolding fault_at
least_shown before item fault other e t = found_least (shows before item) item_faults fault other refl e (shown_on before item other t) t

small_on : (faults : List ParseFault) (fault : ParseFault) → list_all (λ f. nat_le (number_of f) 14) faults ≡ true → IsOn fault faults → number_of fault ≤ 14
small_on [] fault a on = absurd on
small_on (first ∷ faults) fault a on =
    elim on [
      | inl e ↦ (let l : number_of first ≤ 14 = leb-true _ _ (and_parts _ _ a).0 in let s : number_of fault ≡ number_of first = ap number_of e in omega arith)
      | inr more ↦ small_on faults fault (and_parts _ _ a).1 more
    ]

-- the fault of an item shows, and is none of the text as a whole
pub shown_fault : (before : List ItemValue) (item : ItemValue) (fault : ParseFault) → fault_at before item ≡ Some fault
    → (shows before item fault ≡ true) × (number_of fault ≤ 14)
unfolding fault_at
shown_fault before item fault e =
    let on = found_on (shows before item) item_faults fault e in (on.1, small_on item_faults fault refl on.0)

-- an item is refused for a fault that it shows
pub refused_for : (before : List ItemValue) (item : ItemValue) (fault : ParseFault) → fault_at before item ≡ Some fault → IsRefused before item fault
refused_for before item fault e =
    let other : fault ≡ Memory → ⊥ = λ m. (let number : number_of fault ≡ 17 = ap number_of m in let small : number_of fault ≤ 14 = (shown_fault before item fault e).1 in omega arith) in
    record {
      first = λ n. e;
      clean = λ m. absurd (other m);
      memory = λ m. absurd (other m);
    }

-- an item without a fault is refused for want of memory
pub refused_memory : (before : List ItemValue) (item : ItemValue) → fault_at before item ≡ None → IsTrue (wants_memory (tag item) before) → IsRefused before item Memory
refused_memory before item none wants = record {
  first = λ n. absurd (n refl);
  clean = λ m. none;
  memory = λ m. wants;
}

-- ---- offsets

-- faults among items from an offset on stand there or later
pub among_from : (n offset : ℕ) (text : List ℕ) (before : List ItemValue) (fault : ParseFault) (at : ℕ) → length text ≤ n
    → IsFaultAmong before (items_at offset text) fault at → offset ≤ at
among_from zero offset text before fault at l f =
    let none : items_at offset text ≡ [] = items_none offset text (omega arith) in
    let f' : IsFaultAmong before [] fault at = (rw none at f) in absurd f'
among_from (suc n) offset text before fault at l f =
    elim (cases_lt 0 (length text)) [
      | inr empty ↦ (let none : items_at offset text ≡ [] = items_none offset text (omega arith) in
          let f' : IsFaultAmong before [] fault at = (rw none at f) in absurd f')
      | inl some ↦ (elim (cases_lt (length text) (item_size text)) [
        | inl short ↦ (let f' : IsFaultAmong before (Err (record { fault = Truncated; offset = offset }) ∷ []) fault at = (rw (items_short offset text some short) at f) in
            let e : at ≡ offset = f'.1 in omega arith)
        | inr whole ↦ (let size = item_size text in
            let pos : 0 < size = size_pos text in
            let len : length (drop size text) ≡ length text - size = length-drop size text in
            let f' : IsFaultAmong before (Ok (front_item offset text) ∷ items_at (offset + size) (drop size text)) fault at = (rw (items_more offset text some whole) at f) in
            elim f' [
              | inl here ↦ (let e : at ≡ offset = here.1 in omega arith)
              | inr later ↦ (let above : offset + size ≤ at = among_from n (offset + size) (drop size text) (front_item offset text ∷ before) fault at (omega arith) later in omega arith)
            ])
      ])
    ]

-- ---- how far a text was read

pub reach_start : (text : List ℕ) (state : State) → StateRefines [] state → HasReached text text 0 state
unfolding all_items
reach_start text state s = record {
  before = [];
  refines = s;
  few = omega arith;
  place = omega arith;
  items = refl;
  faults_left = λ fault at f. f;
  faults_come = λ fault at f. f;
}

pub reach_more : (text rest after : List ℕ) (offset : ℕ) (item : ItemValue) (old new : State) (r : HasReached text rest offset old)
    → 0 < length rest → item_size rest ≤ length rest → after ≡ drop (item_size rest) rest → item ≡ front_item offset rest
    → fault_at r.before item ≡ None → StateRefines (item ∷ r.before) new → HasReached text after (offset + (length rest - length after)) new
reach_more text rest after offset item old new r some whole a e none refines =
    let next : items_at offset rest ≡ Ok item ∷ items_at (offset + (length rest - length after)) after = items_next offset rest after item some whole a e in
    let pos : 0 < item_size rest = size_pos rest in
    let len : length after ≡ length rest - item_size rest = ap length a ∙ length-drop (item_size rest) rest in
    let few = r.few in
    let place = r.place in
    record {
      before = item ∷ r.before;
      refines = refines;
      few = omega arith;
      place = omega arith;
      items = r.items ∙ ap (onto r.before) next;
      faults_left = λ fault at f.
          (let f' : IsFaultAmong r.before (Ok item ∷ items_at (offset + (length rest - length after)) after) fault at = (rw next at (r.faults_left fault at f)) in
          elim f' [ inl here ↦ absurd (clean r.before item none fault here.0) | inr later ↦ later ]);
      faults_come = λ fault at f. r.faults_come fault at (rw next (inr f));
    }

-- where an item was reached, faults come no earlier
ends_later : (text rest : List ℕ) (offset : ℕ) (state : State) (fault : ParseFault) (at : ℕ) → HasReached text rest offset state → 0 < length rest → offset ≤ 4096
    → IsFaultAtEnd text fault at → (offset < at) ⊎ ((offset ≡ at) × (16 ≤ number_of fault))
ends_later text rest offset state fault at h1 h2 h3 h4 = grind (arith, common_steps)

-- where an item was reached before the greatest length, faults of the whole text come later
ends_after : (text rest : List ℕ) (offset : ℕ) (state : State) (fault : ParseFault) (at : ℕ) → HasReached text rest offset state → 0 < length rest → offset < 4096
    → IsFaultAtEnd text fault at → offset < at
ends_after text rest offset state fault at h1 h2 h3 h4 = grind (arith, common_steps)

-- faults of a text from an item on, by what follows the item
first_by : (text rest after : List ℕ) (offset : ℕ) (item : ItemValue) (old : State) (r : HasReached text rest offset old) (fault : ParseFault)
    → 0 < length rest → item_size rest ≤ length rest → after ≡ drop (item_size rest) rest → item ≡ front_item offset rest
    → ((other : ParseFault) (at : ℕ) → IsFaultAtEnd text other at → (offset < at) ⊎ ((offset ≡ at) × (number_of fault ≤ number_of other)))
    → ((other : ParseFault) → shows r.before item other ≡ true → number_of fault ≤ number_of other)
    → IsFirst text fault offset
first_by text rest after offset item old r fault some whole a e ends least other at has =
    let next : items_at offset rest ≡ Ok item ∷ items_at (offset + (length rest - length after)) after = items_next offset rest after item some whole a e in
    let pos : 0 < item_size rest = size_pos rest in
    let len : length after ≡ length rest - item_size rest = ap length a ∙ length-drop (item_size rest) rest in
    elim has [
      | inl among ↦ (let f : IsFaultAmong r.before (Ok item ∷ items_at (offset + (length rest - length after)) after) other at = (rw next at (r.faults_left other at among)) in
          elim f [
            | inl here ↦ (let refines_at : at ≡ item.offset = here.1 in let offset_is : item.offset ≡ offset = ap (λ i. i.offset) e in inr (omega arith, least other here.0))
            | inr later ↦ (let above : offset + (length rest - length after) ≤ at = among_from (length after) _ after _ other at (omega arith) later in inl (omega arith))
          ])
      | inr end ↦ ends other at end
    ]

wanting_keeps : (more : List (Result ItemValue ParseError)) (before : List ItemValue) (at : ℕ) → WantsMemoryAt before at → WantsMemoryAt (onto before more) at
wanting_keeps [] before at i = i
wanting_keeps (Ok item ∷ more) before at i = wanting_keeps more (item ∷ before) at (inr i)
wanting_keeps (Err e ∷ more) before at i = i

-- the answers that are none of memory
refuse_fault : (text : List ℕ) (fault : ParseFault) (offset : ℕ) → HasFault text fault offset → IsFirst text fault offset → number_of fault ≤ 16
    → Refuses text (record { fault = fault; offset = offset })
refuse_fault text fault offset has first small = record {
  first = λ n. (has, first);
  memory = λ m. absurd (let number : number_of fault ≡ 17 = ap number_of m in omega arith);
}

-- an item's first fault is the text's
pub refuse_item : (text rest after : List ℕ) (offset : ℕ) (item : ItemValue) (old : State) (r : HasReached text rest offset old) (fault : ParseFault)
    → 0 < length rest → offset ≤ 4096 → item_size rest ≤ length rest → after ≡ drop (item_size rest) rest → item ≡ front_item offset rest
    → fault_at r.before item ≡ Some fault → Refuses text (record { fault = fault; offset = offset })
refuse_item text rest after offset item old r fault some l whole a i found =
    let next : items_at offset rest ≡ Ok item ∷ items_at (offset + (length rest - length after)) after = items_next offset rest after item some whole a i in
    let shown = shown_fault r.before item fault found in
    refuse_fault text fault offset
    (inl (r.faults_come fault offset (rw next (inl (shown.0, sym (ap (λ x. x.offset) i))))))
    (first_by text rest after offset item old r fault some whole a i
    (λ other at end.
    (elim (ends_later text rest offset old other at r some l end) [ inl later ↦ inl later | inr both ↦ inr (both.0, omega (arith, both.1, shown.1)) ]))
    (λ other t. least_shown r.before item fault other found t))
    (omega (arith, shown.1))

-- a growth that was refused at an item without a fault
pub refuse_growth : (text rest after : List ℕ) (offset : ℕ) (item : ItemValue) (old : State) (r : HasReached text rest offset old)
    → 0 < length rest → offset < 4096 → item_size rest ≤ length rest → after ≡ drop (item_size rest) rest → item ≡ front_item offset rest
    → fault_at r.before item ≡ None → IsTrue (wants_memory (tag item) r.before) → Refuses text (record { fault = Memory; offset = offset })
refuse_growth text rest after offset item old r some l whole a i none wants =
    let next : items_at offset rest ≡ Ok item ∷ items_at (offset + (length rest - length after)) after = items_next offset rest after item some whole a i in
    record {
      first = λ n. absurd (n refl);
      memory = λ m. (
        (rw (r.items ∙ ap (onto r.before) next) (wanting_keeps (items_at (offset + (length rest - length after)) after) (item ∷ r.before) offset (inl (wants, ap (λ x. x.offset) i)))),
        first_by text rest after offset item old r Memory some whole a i (λ other at end. inl (ends_after text rest offset old other at r some l end))
            (λ other t. absurd (clean r.before item none other t)),
      );
    }

-- a text that ends within an item
pub refuse_short : (text rest : List ℕ) (offset : ℕ) (old : State) (r : HasReached text rest offset old)
    → 0 < length rest → offset ≤ 4096 → length rest < item_size rest → Refuses text (record { fault = Truncated; offset = offset })
refuse_short text rest offset old r some l short =
    let cut_off : items_at offset rest ≡ Err (record { fault = Truncated; offset = offset }) ∷ [] = items_short offset rest some short in
    refuse_fault text Truncated offset (inl (r.faults_come Truncated offset (rw cut_off (refl, refl))))
    (λ other at has.
    (elim has [
      | inl among ↦ (let f : IsFaultAmong r.before (Err (record { fault = Truncated; offset = offset }) ∷ []) other at = (rw cut_off at (r.faults_left other at among)) in
          let there : at ≡ offset = f.1 in let same : number_of other ≡ 1 = ap number_of f.0 in inr (omega arith, omega arith))
      | inr end ↦ (elim (ends_later text rest offset old other at r some l end) [ inl later ↦ inl later | inr both ↦ inr (both.0, omega (arith, both.1)) ])
    ]))
    (omega arith)

at_end_long : (text : List ℕ) (other : ParseFault) (at : ℕ) → 4096 < length text → IsFaultAtEnd text other at → (4096 < at) ⊎ ((4096 ≡ at) × (16 ≤ number_of other))
at_end_long text other at h1 h2 = grind (arith, common_steps)

at_end_open : (text : List ℕ) (other : ParseFault) (at : ℕ) → length text ≤ 4096 → IsFaultAtEnd text other at → (length text < at) ⊎ ((length text ≡ at) × (15 ≤ number_of other))
at_end_open text other at h1 h2 = grind (arith, common_steps)

pub no_end : (text : List ℕ) (other : ParseFault) (at : ℕ) → length text ≤ 4096 → open_collections (all_items text) ≡ 0 → IsFaultAtEnd text other at → ⊥
no_end text other at h1 h2 h3 = grind (arith, common_steps)

-- a text that is too long, an item of which has no fault and reaches past the greatest length
pub refuse_past : (text rest after : List ℕ) (offset : ℕ) (item : ItemValue) (old : State) (r : HasReached text rest offset old)
    → 4096 < length text → 4096 < offset + item_size rest → 0 < length rest → item_size rest ≤ length rest → after ≡ drop (item_size rest) rest
    → item ≡ front_item offset rest → fault_at r.before item ≡ None → Refuses text (record { fault = TooLong; offset = 4096 })
refuse_past text rest after offset item old r long past some whole a i none =
    let next : items_at offset rest ≡ Ok item ∷ items_at (offset + (length rest - length after)) after = items_next offset rest after item some whole a i in
    let len : length after ≡ length rest - item_size rest = ap length a ∙ length-drop (item_size rest) rest in
    refuse_fault text TooLong 4096 (inr (long, refl))
    (λ other at has.
    (elim has [
      | inl among ↦ (let f : IsFaultAmong r.before (Ok item ∷ items_at (offset + (length rest - length after)) after) other at = (rw next at (r.faults_left other at among)) in
          elim f [
            | inl here ↦ absurd (clean r.before item none other here.0)
            | inr later ↦ (let above : offset + (length rest - length after) ≤ at = among_from (length after) _ after _ other at (omega arith) later in inl (omega arith))
          ])
      | inr end ↦ at_end_long text other at long end
    ]))
    (omega arith)

-- a text that ends within a collection
pub refuse_open : (text rest : List ℕ) (offset : ℕ) (state : State) (r : HasReached text rest offset state)
    → length rest ≡ 0 → length text ≤ 4096 → 0 < state.collections → Refuses text (record { fault = CollectionOpen; offset = length text })
refuse_open text rest offset state r none short open_ones =
    let nothing : items_at offset rest ≡ [] = items_none offset rest none in
    let same : all_items text ≡ r.before = r.items ∙ ap (onto r.before) nothing in
    let more : 0 < open_collections (all_items text) = (rw (same, ← r.refines.collections) open_ones) in
    refuse_fault text CollectionOpen (length text) (inr (more, refl))
    (λ other at has.
    (elim has [
      | inl among ↦ (let f : IsFaultAmong r.before [] other at = (rw nothing at (r.faults_left other at among)) in absurd f)
      | inr end ↦ at_end_open text other at short end
    ]))
    (omega arith)

bits_same : (reports : Reports) (kind : Kind) (id : ℕ) → bits_of (value_of reports) kind id ≡ bits_in reports.totals kind id
bits_same reports kind id = ap (bits_on kind) (get_or-map (λ (r : IdReports). r.bits) reports.totals.by_id.items id no_reports)

-- the whole text was read and shows no fault
pub accept_end : (text rest : List ℕ) (offset : ℕ) (state : State) (r : HasReached text rest offset state)
    → length rest ≡ 0 → length text ≤ 4096 → state.collections ≡ 0 → IsFaultless text × Describes (all_items text) (value_of state.reports)
accept_end text rest offset state r none short closed =
    let nothing : items_at offset rest ≡ [] = items_none offset rest none in
    let same : all_items text ≡ r.before = r.items ∙ ap (onto r.before) nothing in
    let none_open : open_collections (all_items text) ≡ 0 = (rw (same, ← r.refines.collections) closed) in
    let reports = r.refines.reports in (
      λ fault at has.
          (elim has [
            | inl among ↦ (let f : IsFaultAmong r.before [] fault at = (rw nothing at (r.faults_left fault at among)) in absurd f)
            | inr end ↦ no_end text fault at short none_open end
          ]),
      record {
        fields = rw same reports.fields;
        ranges = rw same reports.ranges;
        uses_ids = rw same reports.has_ids;
        bits = λ kind id. (rw same (bits_same state.reports kind id ∙ reports.bits kind id));
      },
    )
