-- A text that comes in pieces.
use Rattle.std.proofs.lemmas.Grind.{common_steps}
use Rattle.std.proofs.Common.{◌≡◌, ℕ, ◌+◌, ◌*◌, ◌-◌, map, get_or, ◌<◌, ◌≤◌, List, [], ◌∷◌, ◌++◌, length, drop, refl, arith, sym, ◌∙◌, ap, subst, Bool, true, None, Some, inl, inr, length-append, length-drop, append_assoc}
use Rattle.std.specs.Prelude.{slice_index, ◌==◌, IsTrue, Option, Result, Ok, Err}
use Rattle.std.proofs.Math.ListN.{get_or-eq_default}
use Rattle.std.proofs.lemmas.List.{length-map}
use Rattle.std.proofs.lemmas.List.Elements.{All-weaker}
use Rattle.std.proofs.lemmas.List.{drop-append-le, append-nil}
use Rattle.std.proofs.lemmas.Bool.{cases_lt, eqb-true}
use Rattle.descriptor_parse.specs.declared.fault.ParseError.{ParseError}
use Rattle.descriptor_parse.specs.declared.fault.ParseFault.{ParseFault}
use Rattle.descriptor_parse.specs.declared.fault.ParseFault.TheVariants.{Truncated, CollectionOpen, TooLong}
use Rattle.descriptor_parse.specs.declared.field.Kind.{Kind}
use Rattle.descriptor_parse.specs.declared.reports.Link.{Link}
use Rattle.descriptor_parse.specs.declared.totals.IdReports.{IdReports}
use Rattle.descriptor_parse.specs.declared.state.State.{State}
use Rattle.descriptor_parse.specs.declared.reading.Reading.{Reading}
use Rattle.descriptor_parse.specs.Items.{ItemValue, items_at, item_size, front_item}
use Rattle.descriptor_parse.specs.Faults.{fault_at, all_items, IsFaultAmong, IsFaultAtEnd, IsFirst, IsFaultless}
use Rattle.descriptor_parse.specs.Descriptor.{DescriptorValue, Describes, bits_on, bits_of, no_bits}
use Rattle.descriptor_parse.specs.representation.DescriptorView.{value_of}
use Rattle.descriptor_parse.specs.representation.Linked.{ends_of}
use Rattle.descriptor_parse.specs.representation.ReportsRefine.{CanLink}
use Rattle.descriptor_parse.specs.WellFormed.{FitsField}
use Rattle.descriptor_parse.specs.representation.CountsRefine.{RefineTogether}
use Rattle.descriptor_parse.specs.representation.StateRefines.{StateRefines, Takes, IsRefused}
use Rattle.descriptor_parse.specs.Parse.{Refuses, MayGoOn, is_of_the_end, Answers, IsOfTheText, AreSame}
use Rattle.descriptor_parse.specs.representation.Parse.{HasReached}
use Rattle.descriptor_parse.specs.Fed.{RefusesAll}
use Rattle.descriptor_parse.specs.representation.Fed.{AreBytes, IsAt, IsFront, IsReading, WasFed}
use Rattle.descriptor_parse.proofs.PartLemmas.{length_parts}
use Rattle.descriptor_parse.proofs.CountLemmas.{exact_from, drop_front}
use Rattle.descriptor_parse.proofs.WellLemmas.{well_formed}
use Rattle.descriptor_parse.proofs.OneFault.{one_first}
use Rattle.descriptor_parse.proofs.ItemLemmas.{size_pos, items_none, items_short}
use Rattle.descriptor_parse.proofs.FaultLemmas.{reach_start, reach_more, refuse_item, refuse_growth, refuse_past, refuse_short, refuse_open, accept_end}

-- ---- the item at the front of a text that goes on

pub same_size : (rest more : List ℕ) → item_size rest ≤ length rest → item_size (rest ++ more) ≡ item_size rest
same_size rest more h1 = grind (arith, common_steps)

pub same_front : (offset : ℕ) (rest more : List ℕ) → item_size rest ≤ length rest → front_item offset (rest ++ more) ≡ front_item offset rest
same_front offset rest more h1 = grind (arith, common_steps)

pub front_more : (item : ItemValue) (part rest : List ℕ) (offset : ℕ) → IsFront item part offset → IsFront item (part ++ rest) offset
front_more item part rest offset f =
    let size : item_size (part ++ rest) ≡ item_size part = same_size part rest f.whole in
    let whole : item_size part ≤ length part = f.whole in
    record {
      whole = omega (arith, length-append part rest);
      is = f.is ∙ sym (same_front offset part rest f.whole);
    }

-- the bytes between what was left and what is left after an item
pub size_between : (rest after : List ℕ) → after ≡ drop (item_size rest) rest → item_size rest ≤ length rest → length rest - length after ≡ item_size rest
size_between rest after e whole = omega (arith, ap length e, length-drop (item_size rest) rest)

pub no_bytes : (xs : List ℕ) → length xs ≡ 0 → xs ≡ []
no_bytes xs h1 = grind (arith, common_steps)

-- ---- how far a text was read, whatever follows

pub at_start : (state : State) → StateRefines [] state → IsAt [] [] 0 state
at_start state s = record { reached = λ more. reach_start more state s; within = omega arith }

pub at_more : (text rest piece : List ℕ) (offset : ℕ) (state : State) → IsAt text rest offset state → IsAt (text ++ piece) (rest ++ piece) offset state
at_more text rest piece offset state a = record {
  reached = λ more. rw (append_assoc text piece more, append_assoc rest piece more) (a.reached (piece ++ more));
  within = a.within;
}

-- the text as it is, where nothing follows
pub at_end : (text rest : List ℕ) (offset : ℕ) (state : State) → IsAt text rest offset state → HasReached text rest offset state
at_end text rest offset state a = rw (append-nil text, append-nil rest) at (a.reached [])

-- the item at the front, whatever follows
record IsWhole (item : ItemValue) (rest more : List ℕ) (offset : ℕ) : Type 0 where
  some : 0 < length (rest ++ more)
  whole : item_size (rest ++ more) ≤ length (rest ++ more)
  after : drop (item_size rest) rest ++ more ≡ drop (item_size (rest ++ more)) (rest ++ more)
  is : item ≡ front_item offset (rest ++ more)

still_whole : (item : ItemValue) (rest more : List ℕ) (offset : ℕ) → IsFront item rest offset → IsWhole item rest more offset
still_whole item rest more offset f =
    let size : item_size (rest ++ more) ≡ item_size rest = same_size rest more f.whole in
    let pos : 0 < item_size rest = size_pos rest in
    let whole : item_size rest ≤ length rest = f.whole in
    let len : length (rest ++ more) ≡ length rest + length more = length-append rest more in
    record {
      some = omega arith;
      whole = omega arith;
      after = rw size (sym (drop-append-le (item_size rest) rest more f.whole));
      is = f.is ∙ sym (same_front offset rest more f.whole);
    }

-- the item at the front was taken
reached_after : (text rest more : List ℕ) (offset : ℕ) (item : ItemValue) (old new : State) → IsAt text rest offset old → IsFront item rest offset
    → ((before : List ItemValue) → StateRefines before old → length before ≤ 4096 → Takes before item new)
    → HasReached (text ++ more) (drop (item_size rest) rest ++ more) (offset + item_size rest) new
reached_after text rest more offset item old new a f takes =
    let r = a.reached more in
    let w = still_whole item rest more offset f in
    let few : length r.before ≤ offset = r.few in
    let within : offset ≤ 4096 = a.within in
    let took = takes r.before r.refines (omega arith) in
    let next : HasReached (text ++ more) (drop (item_size rest) rest ++ more) (offset + (length (rest ++ more) - length (drop (item_size rest) rest ++ more))) new =
    reach_more (text ++ more) (rest ++ more) (drop (item_size rest) rest ++ more) offset item old new r w.some w.whole w.after w.is took.clean took.refines in
    let pos : 0 < item_size rest = size_pos rest in
    let whole : item_size rest ≤ length rest = f.whole in
    let e : offset + (length (rest ++ more) - length (drop (item_size rest) rest ++ more)) ≡ offset + item_size rest =
    omega (arith, length-append rest more, length-append (drop (item_size rest) rest) more, length-drop (item_size rest) rest) in
    subst (λ n. HasReached (text ++ more) (drop (item_size rest) rest ++ more) n new) e next

pub at_after : (text rest : List ℕ) (offset after size : ℕ) (item : ItemValue) (old new : State) → IsAt text rest offset old → IsFront item rest offset
    → size ≡ item_size rest → after ≡ offset + size → after ≤ 4096
    → ((before : List ItemValue) → StateRefines before old → length before ≤ 4096 → Takes before item new)
    → IsAt text (drop size rest) after new
at_after text rest offset after size item old new a f s e l takes = record {
  reached = λ more. rw (e, s) (reached_after text rest more offset item old new a f takes);
  within = l;
}

-- an item is refused
pub refused_item : (text rest : List ℕ) (offset : ℕ) (item : ItemValue) (old : State) (fault : ParseFault) → IsAt text rest offset old → IsFront item rest offset
    → offset < 4096 → ((before : List ItemValue) → StateRefines before old → IsRefused before item fault)
    → RefusesAll text (record { fault = fault; offset = offset })
refused_item text rest offset item old fault a f l refused = λ more.
    let r = a.reached more in
    let w = still_whole item rest more offset f in
    let why = refused r.before r.refines in
    record {
      first = λ n. (refuse_item (text ++ more) (rest ++ more) (drop (item_size rest) rest ++ more) offset item old r fault w.some (omega arith) w.whole w.after w.is (why.first n)).first n;
      memory = λ m. (refuse_growth (text ++ more) (rest ++ more) (drop (item_size rest) rest ++ more) offset item old r w.some l w.whole w.after w.is (why.clean m) (why.memory m)).memory refl;
    }

-- an item that reaches past the greatest length shows a fault
pub last_item : (text rest : List ℕ) (item : ItemValue) (old : State) (fault : ParseFault) (offset : ℕ) → IsAt text rest offset old → IsFront item rest offset
    → ((before : List ItemValue) → StateRefines before old → fault_at before item ≡ Some fault)
    → RefusesAll text (record { fault = fault; offset = offset })
last_item text rest item old fault offset a f shows = λ more.
    let r = a.reached more in
    let w = still_whole item rest more offset f in
    refuse_item (text ++ more) (rest ++ more) (drop (item_size rest) rest ++ more) offset item old r fault w.some a.within w.whole w.after w.is (shows r.before r.refines)

-- an item that reaches past the greatest length shows none
pub last_clean : (text rest : List ℕ) (item : ItemValue) (old : State) (offset : ℕ) → IsAt text rest offset old → IsFront item rest offset → 4096 < offset + item_size rest
    → ((before : List ItemValue) → StateRefines before old → fault_at before item ≡ None)
    → RefusesAll text (record { fault = TooLong; offset = 4096 })
last_clean text rest item old offset a f past clean = λ more.
    let r = a.reached more in
    let w = still_whole item rest more offset f in
    let same : item_size (rest ++ more) ≡ item_size rest = same_size rest more f.whole in
    let place : offset + length (rest ++ more) ≡ length (text ++ more) = r.place in
    let whole : item_size (rest ++ more) ≤ length (rest ++ more) = w.whole in
    refuse_past (text ++ more) (rest ++ more) (drop (item_size rest) rest ++ more) offset item old r (omega arith) (omega arith) w.some w.whole w.after w.is (clean r.before r.refines)

-- ---- the end

-- A text that ends within a whole number of items goes on only with what its end may show.
go_end : (text rest : List ℕ) (offset : ℕ) (state : State) (fault : ParseFault) (at : ℕ) → HasReached text rest offset state → offset ≤ 4096
    → length rest < item_size rest → IsFirst text fault at → IsFaultAtEnd text fault at → IsTrue (is_of_the_end fault)
go_end text rest offset state CollectionOpen at r within short first end = refl
go_end text rest offset state TooLong at r within short first end =
    let place : offset + length rest ≡ length text = r.place in
    let long : 4096 < length text = end.0 in
    let there : at ≡ 4096 = end.1 in
    let cut_off : items_at offset rest ≡ Err (record { fault = Truncated; offset = offset }) ∷ [] = items_short offset rest (omega arith) short in
    absurd (elim (first Truncated offset (inl (r.faults_come Truncated offset (rw cut_off (refl, refl))))) [
      | inl later ↦ omega arith
      | inr both ↦ omega (arith, both.1)
    ])
go_end text rest offset state _ at r within short first end = absurd end

among_end : (text rest : List ℕ) (offset : ℕ) (before : List ItemValue) (fault : ParseFault) (at : ℕ) → length rest < item_size rest
    → IsFaultAmong before (items_at offset rest) fault at → IsTrue (is_of_the_end fault)
among_end text rest offset before fault at short f =
    elim (cases_lt 0 (length rest)) [
      | inl some ↦ (let f' : IsFaultAmong before (Err (record { fault = Truncated; offset = offset }) ∷ []) fault at = (rw (items_short offset rest some short) at f) in rw f'.0 refl)
      | inr none ↦ (let f' : IsFaultAmong before [] fault at = (rw (items_none offset rest (omega arith)) at f) in absurd f')
    ]

pub may_go_on : (text : List ℕ) (reading : Reading) → IsReading text reading → MayGoOn text
may_go_on text reading s = λ e first.
    let r = at_end text reading.part.items reading.offset reading.state s.at in
    elim first.0 [
      | inl among ↦ among_end text reading.part.items reading.offset r.before e.fault e.offset s.short (r.faults_left e.fault e.offset among)
      | inr end ↦ go_end text reading.part.items reading.offset reading.state e.fault e.offset r s.at.within s.short first.1 end
    ]

-- the text ends within an item
pub ends_short : (text rest : List ℕ) (offset : ℕ) (state : State) → IsAt text rest offset state → length rest < item_size rest → 0 < length rest
    → Refuses text (record { fault = Truncated; offset = offset })
ends_short text rest offset state a short some = refuse_short text rest offset state (at_end text rest offset state a) some a.within short

-- the text ends within a collection
pub ends_open : (text rest : List ℕ) (offset : ℕ) (state : State) → IsAt text rest offset state → length rest ≡ 0 → 0 < state.collections
    → Refuses text (record { fault = CollectionOpen; offset = offset })
ends_open text rest offset state a none open_ones =
    let r = at_end text rest offset state a in
    let place : offset + length rest ≡ length text = r.place in
    let within : offset ≤ 4096 = a.within in
    let e : offset ≡ length text = omega arith in
    rw e (refuse_open text rest offset state r none (omega arith) open_ones)

-- the text ends, and shows no fault
pub ends_well : (text rest : List ℕ) (offset : ℕ) (state : State) → IsAt text rest offset state → length rest ≡ 0 → state.collections ≡ 0
    → IsFaultless text × Describes (all_items text) (value_of state.reports)
ends_well text rest offset state a none closed =
    let r = at_end text rest offset state a in
    let place : offset + length rest ≡ length text = r.place in
    let within : offset ≤ 4096 = a.within in
    accept_end text rest offset state r none (omega arith) closed

-- then the descriptor is that of a text without a fault
pub ends_known : (text rest : List ℕ) (offset : ℕ) (state : State) → AreBytes text → IsAt text rest offset state → length rest ≡ 0 → state.collections ≡ 0
    → ((all : List ℕ) × ((i : ℕ) → slice_index all i < 256) × (length all ≤ 4096) × IsFaultless all × Describes (all_items all) (value_of state.reports))
ends_known text rest offset state bytes a none closed =
    let r = at_end text rest offset state a in
    let place : offset + length rest ≡ length text = r.place in
    let within : offset ≤ 4096 = a.within in
    let well = ends_well text rest offset state a none closed in
    (text, bytes, omega arith, well.0, well.1)

-- and its counts stand beside its ranges
pub ends_counted : (text rest : List ℕ) (offset : ℕ) (state : State) → AreBytes text → IsAt text rest offset state → length rest ≡ 0 → state.collections ≡ 0
    → RefineTogether 0 (ends_of state.reports.links.items) state.reports.ranges.items state.reports.counts.items
ends_counted text rest offset state bytes a none closed =
    let k = ends_known text rest offset state bytes a none closed in
    let well = well_formed k.0 (value_of state.reports) k.1 k.2 k.3 k.4 in
    let reports = (at_end text rest offset state a).refines.reports in
    record {
      rising = reports.ends;
      as_many = reports.as_many_counts;
      counted = exact_from 0 (ends_of state.reports.links.items) state.reports.ranges.items state.reports.counts.items well.ranges well.few_ranges reports.counts;
    }

no_bits_some : (kind : Kind) (bits : ℕ) → bits_on kind no_bits ≡ bits → 0 < bits → ⊥
no_bits_some kind bits h1 h2 = grind (arith, common_steps)

id_within : (totals : List IdReports) (kind : Kind) (id bits : ℕ) → bits_on kind (get_or (map (λ (r : IdReports). r.bits) totals) id no_bits) ≡ bits → 0 < bits → id < length totals
id_within totals kind id bits e some = elim (cases_lt id (length totals)) [
  | inl within ↦ within
  | inr past ↦ (let none : get_or (map (λ (r : IdReports). r.bits) totals) id no_bits ≡ no_bits =
      get_or-eq_default (map (λ (r : IdReports). r.bits) totals) no_bits (omega (arith, length-map totals (λ (r : IdReports). r.bits))) in
      absurd (no_bits_some kind bits (sym (ap (bits_on kind) none) ∙ e) some))
]

some_bits : (bit size count all : ℕ) → 0 < size → 0 < count → bit + size * count ≤ all → 0 < all
some_bits bit size count all h1 h2 h3 = grind (arith, common_steps)

-- and its fields can be tied together
pub ends_linkable : (text rest : List ℕ) (offset : ℕ) (state : State) → AreBytes text → IsAt text rest offset state → length rest ≡ 0 → state.collections ≡ 0 → CanLink state.reports
ends_linkable text rest offset state bytes a none closed =
    let k = ends_known text rest offset state bytes a none closed in
    let d = value_of state.reports in
    let well = well_formed k.0 d k.1 k.2 k.3 k.4 in
    let ends : length (ends_of state.reports.links.items) ≡ length state.reports.links.items = length-map state.reports.links.items (λ (l : Link). l.end) in
    let all : length d.ranges ≡ length (ends_of state.reports.links.items) = length_parts 0 (ends_of state.reports.links.items) state.reports.ranges.items in
    let many : length d.ranges ≡ length state.reports.fields.items = well.as_many in
    record {
      few = well.few;
      as_many = omega arith;
      ids = All-weaker (FitsField d) (λ f. f.id < length state.reports.totals.by_id.items)
          (λ f fits. id_within state.reports.totals.by_id.items f.kind f.id (bits_of d f.kind f.id) refl (some_bits f.bit f.size f.count (bits_of d f.kind f.id) fits.size_some fits.count_some fits.bits))
          state.reports.fields.items well.fields;
      unlinked = (at_end text rest offset state a).refines.reports.unlinked;
    }

pub none_of : (b : Bool) (n : ℕ) → b ≡ (n == 0) → b ≡ true → n ≡ 0
none_of b n e t = eqb-true n 0 (sym e ∙ t)

-- ---- a piece

-- an item that was filled up stands at the front of what is left
pub at_filled : (text part piece filled rest : List ℕ) (offset : ℕ) (state : State) → filled ++ rest ≡ part ++ piece → IsAt text part offset state
    → IsAt (text ++ piece) (filled ++ rest) offset state
at_filled text part piece filled rest offset state moved a = rw moved (at_more text part piece offset state a)

-- a piece where no bytes were kept
pub at_fresh : (text part piece : List ℕ) (offset : ℕ) (state : State) → part ≡ [] → IsAt text part offset state → IsAt (text ++ piece) piece offset state
at_fresh text part piece offset state none a = rw none at (at_more text part piece offset state a)

-- an item that was filled up and no more
pub exact_size : (filled rest : List ℕ) (n : ℕ) → n ≡ length filled → item_size filled ≤ length filled → length filled ≤ item_size filled → n ≡ item_size (filled ++ rest)
exact_size filled rest n e whole most = let size : item_size (filled ++ rest) ≡ item_size filled = same_size filled rest whole in omega arith

-- an item that was filled up stands at the front, and what is left of the piece follows
pub record IsFilled (text front rest : List ℕ) (offset len : ℕ) (item : ItemValue) (state : State) : Type 0 where
  pub at : IsAt text (front ++ rest) offset state
  pub first : IsFront item (front ++ rest) offset
  pub size : len ≡ item_size (front ++ rest)
  pub after : drop len (front ++ rest) ≡ rest

pub filled_up : (text part piece kept front rest : List ℕ) (offset len : ℕ) (item : ItemValue) (state : State) → front ≡ kept → kept ++ rest ≡ part ++ piece
    → (length part ≤ item_size part → length kept ≤ item_size kept) → len ≡ length kept → item_size front ≤ length front → item ≡ front_item offset front
    → IsAt text part offset state → length part < item_size part → IsFilled (text ++ piece) front rest offset len item state
filled_up text part piece kept front rest offset len item state e moved most l whole is a short =
    let moved' : front ++ rest ≡ part ++ piece = rw e moved in
    let below : length part ≤ item_size part = omega arith in
    let most' : length front ≤ item_size front = rw e (most below) in
    let l' : len ≡ length front = l ∙ ap length (sym e) in
    record {
      at = at_filled text part piece front rest offset state moved' a;
      first = front_more item front rest offset (record { whole = whole; is = is });
      size = exact_size front rest len l' whole most';
      after = drop_front front rest len l';
    }

-- ---- what was fed

pub bytes_append : (xs ys : List ℕ) → AreBytes xs → AreBytes ys → AreBytes (xs ++ ys)
bytes_append xs ys h1 h2 = grind (arith, common_steps)

pub fed_on : (text piece : List ℕ) (old new : Reading) (refused : Option ParseError) → refused ≡ None → AreBytes piece → WasFed text old refused
    → (IsReading text old → IsReading (text ++ piece) new) → WasFed (text ++ piece) new refused
fed_on text piece old new refused none bytes s more = record {
  bytes = bytes_append text piece s.bytes bytes;
  going = λ n. more (s.going n);
  reported = λ e t. cc;
}

pub fed_off : (text piece : List ℕ) (old new : Reading) (refused : Option ParseError) (e : ParseError) → refused ≡ None → AreBytes piece → WasFed text old refused
    → (IsReading text old → RefusesAll (text ++ piece) e) → WasFed (text ++ piece) new (Some e)
fed_off text piece old new refused e none bytes s more = record {
  bytes = bytes_append text piece s.bytes bytes;
  going = λ n. cc;
  reported = λ f t. (let same : e ≡ f = cc in rw (← same) (more (s.going none)));
}

-- ---- answers, clause by clause

-- two descriptors of the same items are the same
pub same_fields : (items : List ItemValue) (a b : DescriptorValue) → Describes items a → Describes items b → AreSame (Ok a) (Ok b)
same_fields items a b p q =
    (p.fields ∙ sym q.fields, p.ranges ∙ sym q.ranges, p.uses_ids ∙ sym q.uses_ids, λ kind id. p.bits kind id ∙ sym (q.bits kind id))

-- two answers to one text are the same
pub same_answers : (text : List ℕ) (a b : Result DescriptorValue ParseError) → Answers text a → Answers text b → IsOfTheText a → IsOfTheText b → AreSame a b
same_answers text (Ok a) (Ok b) p q m n = same_fields (all_items text) a b p.1 q.1
same_answers text (Ok a) (Err e) p q m n = p.0 e.fault e.offset (q.first n).0
same_answers text (Err e) (Ok b) p q m n = q.0 e.fault e.offset (p.first m).0
same_answers text (Err e) (Err f) p q m n = one_first text e f (p.first m) (q.first n)
