-- A text whose items are taken twice, by the parser and beside it.
use Rattle.std.proofs.lemmas.Grind.{common_steps}
use Rattle.std.proofs.Common.{◌≡◌, ℕ, ◌+◌, ◌<◌, ◌≤◌, List, [], ◌∷◌, ◌++◌, length, drop, length-drop, refl, arith, sym, ◌∙◌, ap, subst, inl, inr, append_assoc, Result, Ok, Err}
use Rattle.std.specs.Prelude.{OnOk, OnErr, IsTrue, true, false, is_err}
use Rattle.std.proofs.lemmas.Bool.{cases_lt}
use Rattle.std.proofs.lemmas.List.{append_cancel_left}
use Rattle.descriptor_parse.specs.declared.fault.ParseError.{ParseError}
use Rattle.descriptor_parse.specs.declared.fault.ParseFault.{ParseFault}
use Rattle.descriptor_parse.specs.declared.state.State.{State}
use Rattle.descriptor_parse.specs.Items.{ItemValue, items_at, item_size}
use Rattle.descriptor_parse.specs.Tags.{tag}
use Rattle.descriptor_parse.specs.Faults.{onto, all_items, IsFaultAtEnd}
use Rattle.descriptor_parse.specs.Beside.{wants_beside, WantsBesideAt, MayWantBeside}
use Rattle.descriptor_parse.specs.representation.StateRefines.{StateRefines}
use Rattle.descriptor_parse.specs.representation.Fed.{IsAt, IsFront}
use Rattle.descriptor_parse.proofs.ItemLemmas.{size_pos, items_more, items_short, items_none}
use Rattle.descriptor_parse.proofs.FaultLemmas.{among_from}
use Rattle.descriptor_parse.proofs.ReadingLemmas.{at_start, at_more, at_end}

-- the whole items among these, newest first
abbrev whole : List (Result ItemValue ParseError) → List ItemValue
whole [] = []
whole (Ok item ∷ more) = whole more ++ item ∷ []
whole (Err e ∷ more) = []

onto_whole : (more : List (Result ItemValue ParseError)) (before : List ItemValue) → onto before more ≡ whole more ++ before
onto_whole [] before = refl
onto_whole (Ok item ∷ more) before = onto_whole more (item ∷ before) ∙ sym (append_assoc (whole more) (item ∷ []) before)
onto_whole (Err e ∷ more) before = refl

-- The items of a text up to an offset are taken by the parser, and beside it.
pub record AreTaken {B : Type 0} (S : List ItemValue → B → Type 0) (first now : B) (text rest : List ℕ) (offset : ℕ) (state : State) : Type 0 where
  pub at : IsAt text rest offset state
  pub before : List ItemValue
  pub items : all_items text ≡ onto before (items_at offset rest)
  pub refines : S [] first → S before now

pub taken_none : {B : Type 0} (S : List ItemValue → B → Type 0) (first : B) (text : List ℕ) (state : State) → StateRefines [] state → AreTaken S first first text text 0 state
unfolding all_items
taken_none S first text state s = record { at = at_more [] [] text 0 state (at_start state s); before = []; items = refl; refines = λ f. f }

-- the state stands for just these items
pub taken_state : {B : Type 0} (S : List ItemValue → B → Type 0) (first now : B) (text rest : List ℕ) (offset : ℕ) (state : State) (t : AreTaken S first now text rest offset state) → StateRefines t.before state
taken_state S first now text rest offset state t =
    let r = at_end text rest offset state t.at in
    let more = items_at offset rest in
    let same : r.before ≡ t.before = append_cancel_left (whole more) r.before t.before (sym (onto_whole more r.before) ∙ sym r.items ∙ t.items ∙ onto_whole more t.before) in
    subst (λ b. StateRefines b state) same r.refines

-- an item more
pub taken_more : {B : Type 0} (S : List ItemValue → B → Type 0) (first old new : B) (text rest : List ℕ) (offset after : ℕ) (before later : State) (item : ItemValue)
    (t : AreTaken S first old text rest offset before) → IsFront item rest offset → ((items : List ItemValue) → StateRefines items before → S items old → S (item ∷ items) new)
    → IsAt text (drop (item_size rest) rest) after later → AreTaken S first new text (drop (item_size rest) rest) after later
taken_more S first old new text rest offset after before later item t f takes a =
    let pos : 0 < item_size rest = size_pos rest in
    let whole : item_size rest ≤ length rest = f.whole in
    let place : offset + length rest ≡ length text = (at_end text rest offset before t.at).place in
    let place' : after + length (drop (item_size rest) rest) ≡ length text = (at_end text (drop (item_size rest) rest) after later a).place in
    let next : after ≡ offset + item_size rest = omega (arith, length-drop (item_size rest) rest) in
    let is : items_at offset rest ≡ Ok item ∷ items_at after (drop (item_size rest) rest) = rw (f.is, next) (items_more offset rest (omega arith) f.whole) in
    record {
      at = a;
      before = item ∷ t.before;
      items = t.items ∙ ap (onto t.before) is;
      refines = λ s. takes t.before (taken_state S first old text rest offset before t) (t.refines s);
    }

-- no whole item is left
pub taken_all : {B : Type 0} (S : List ItemValue → B → Type 0) (first now : B) (text rest : List ℕ) (offset : ℕ) (state : State) → AreTaken S first now text rest offset state
    → length rest < item_size rest → S [] first → S (all_items text) now
taken_all S first now text rest offset state t short s =
    let none : onto t.before (items_at offset rest) ≡ t.before = elim (cases_lt 0 (length rest)) [
      | inl some ↦ ap (onto t.before) (items_short offset rest some short)
      | inr none ↦ ap (onto t.before) (items_none offset rest (omega arith))
    ] in
    subst (λ items. S items now) (sym (t.items ∙ none)) (t.refines s)

-- what holds where it went well
pub went_well : {A E : Type 0} {P : Type 0} (r : Result A E) → is_err r ≡ false → OnOk r P → P
went_well r h1 h2 = grind (arith, common_steps)

-- what holds where it went wrong
pub went_wrong : {A E : Type 0} {P : Type 0} (r : Result A E) → is_err r ≡ true → OnErr r P → P
went_wrong r h1 h2 = grind (arith, common_steps)

-- ---- memory that is wanted beside

beside_keeps : (more : List (Result ItemValue ParseError)) (before : List ItemValue) (at : ℕ) → WantsBesideAt before at → WantsBesideAt (onto before more) at
beside_keeps [] before at i = i
beside_keeps (Ok item ∷ more) before at i = beside_keeps more (item ∷ before) at (inr i)
beside_keeps (Err e ∷ more) before at i = i

-- what is wrong with the whole text comes after an item that was taken
end_after : (text : List ℕ) (offset after left : ℕ) (fault : ParseFault) (at : ℕ) → offset < after → after ≤ 4096 → after + left ≡ length text → IsFaultAtEnd text fault at → offset < at
end_after text offset after left fault at h1 h2 h3 h4 = grind (arith, common_steps)

-- an item that the parser took comes before each fault
pub wanted_beside : {B : Type 0} (S : List ItemValue → B → Type 0) (first old : B) (text rest : List ℕ) (offset after : ℕ) (before later : State) (item : ItemValue)
    → AreTaken S first old text rest offset before → IsFront item rest offset → IsTrue (wants_beside (tag item))
    → IsAt text (drop (item_size rest) rest) after later → MayWantBeside text
wanted_beside S first old text rest offset after before later item t f wants a =
    let r = at_end text (drop (item_size rest) rest) after later a in
    let pos : 0 < item_size rest = size_pos rest in
    let whole : item_size rest ≤ length rest = f.whole in
    let place : offset + length rest ≡ length text = (at_end text rest offset before t.at).place in
    let place' : after + length (drop (item_size rest) rest) ≡ length text = r.place in
    let next : after ≡ offset + item_size rest = omega (arith, length-drop (item_size rest) rest) in
    let within : after ≤ 4096 = a.within in
    let is : items_at offset rest ≡ Ok item ∷ items_at after (drop (item_size rest) rest) = rw (f.is, next) (items_more offset rest (omega arith) f.whole) in (
      offset,
      rw (t.items ∙ ap (onto t.before) is) (beside_keeps (items_at after (drop (item_size rest) rest)) (item ∷ t.before) offset (inl (wants, ap (λ x. x.offset) f.is))),
      λ other at has. elim has [
        | inl among ↦ (let above : after ≤ at = among_from (length (drop (item_size rest) rest)) after (drop (item_size rest) rest) r.before other at (omega arith) (r.faults_left other at among) in
            inl (omega arith))
        | inr end ↦ inl (end_after text offset after (length (drop (item_size rest) rest)) other at (omega arith) within place' end)
      ],
    )
