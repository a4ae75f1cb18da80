-- A keyboard on blank pages stores its first command while it scans and is polled.
use Rattle.std.proofs.Common.{◌≡◌, ◌≢◌, ℕ, zero, suc, ◌<◌, ◌*◌, ◌-◌, ◌^◌, ◌/◌, ◌%◌, ◌==◌, true, false, if◌then◌else◌, nat_lt, None, Some, Option, List, [], ◌∷◌, ◌++◌, length, refl, ap, sym, ◌∙◌, subst, arith}
use Rattle.std.specs.Prelude.{replicate}
use Rattle.flash_model.proofs.Places.{page_count-blank, slot_at-blank}
use Rattle.layers.proofs.Copying.{copies_below-zero, copies_below-same}
use Rattle.layers.proofs.LastWriter.{changed-one}
use Rattle.layers.specs.Codes.{keys}
use Rattle.layers.specs.Copies.{places, copies_below}
use Rattle.layers.specs.Commands.{word_of}
use Rattle.layers.specs.declared.command.Command.{Command}
use Rattle.layers.specs.declared.command.Command.TheVariants.{SetKey}
use Rattle.layers.specs.Standard.{standard}
use Rattle.records.proofs.SlotLemmas.{slot_of-blank, blank_slot, free_sound}
use Rattle.records.specs.Slots.{slot_of, IsSound}
use Rattle.page_turnover.proofs.Blanks.{is_blank-blank}
use Rattle.page_turnover.specs.Active.{active, format}
use Rattle.page_turnover.specs.Blank.{is_blank}
use Rattle.page_turnover.specs.Turn.{target_page}
use Rattle.page_turnover.specs.declared.operation.Operation.{Operation}
use Rattle.keymap_store.specs.Next.{all_copies}
use Rattle.keymap_store.specs.Operations.{operations_of, has_room, has_room_on, erase_if_used, programs_from, header_and_record}
use Rattle.keyboard.proofs.Changing.{changes-some}
use Rattle.keyboard.proofs.Progressing.{acknowledged}
use Rattle.keyboard.proofs.Serving.{answered_by, status_by}
use Rattle.keyboard.specs.Calls.{Call, Scanned, SetUp, Out, In, Polled, Worked, keymap}
use Rattle.keyboard.specs.Commands.{accepted, accepts, working}
use Rattle.keyboard.specs.Conforming.{IsConforming}
use Rattle.keyboard.specs.Fate.{changes}
use Rattle.keyboard.specs.Progress.{IsReady, steps_for}
use Rattle.keymap_store.specs.declared.store.Work.{Work}
use Rattle.keymap_store.specs.declared.store.Work.TheVariants.{Working, Settled, Failed}
use Rattle.control_ep.specs.declared.answer.EpAnswer.{EpAnswer}
use Rattle.control_ep.specs.declared.answer.EpAnswer.TheVariants.{Nak, Packet}
use Rattle.std.proofs.lemmas.Bool.Decides.{nat_tests}
use Rattle.world.proofs.Shown.{none_active, at_default}
use Rattle.world.specs.Histories.{set_feature, set_report}
use Rattle.world.specs.Meanwhile.{Answers, asked, IsStored}
use Rattle.world.specs.Pad.{first_down}

abbrev blank : ℕ → List ℕ
blank pages = replicate (4096 * suc pages) 255

abbrev command : Command
command = SetKey 0 0 5

-- ---- the command takes two steps

no_room : (pages : ℕ) → has_room (blank pages) ≡ false
unfolding has_room
no_room pages = ap (λ (place : Option (ℕ × ℕ)). has_room_on (blank pages) place (format (blank pages))) (none_active (suc pages))

first_page : (pages : ℕ) → target_page (blank pages) ≡ 0
unfolding target_page
first_page pages = rw (none_active (suc pages)) refl

no_erase : (pages : ℕ) → erase_if_used (blank pages) (target_page (blank pages)) ≡ []
unfolding erase_if_used
no_erase pages =
    let is : is_blank (blank pages) 0 ≡ true = is_blank-blank (blank pages) 0 (λ s f l. ap slot_of (slot_at-blank (suc pages) 0 s (omega arith) l) ∙ slot_of-blank) in
    rw (first_page pages, is) refl

none_copied : (pages place : ℕ) → copies_below standard (keymap standard (blank pages)) place ≡ []
none_copied pages zero = copies_below-zero standard (keymap standard (blank pages))
none_copied pages (suc place) = copies_below-same standard (keymap standard (blank pages)) place (at_default standard (suc pages) (place / keys) (place % keys)) ∙ none_copied pages place

two_operations : (image : List ℕ) (erase : List Operation) (copies : List ℕ) (room : List Operation) → erase ≡ [] → copies ≡ [] → length (erase ++ (programs_from (target_page image) 1 copies ++ header_and_record image (length copies) (word_of command))) ≡ 2
two_operations image erase copies room e c = rw (e, c) refl

takes_two : (pages : ℕ) → length (operations_of standard (blank pages) command) ≡ 2
unfolding operations_of
takes_two pages =
    rw (no_room pages) (two_operations (blank pages) (erase_if_used (blank pages) (target_page (blank pages))) (all_copies standard (keymap standard (blank pages))) [] (no_erase pages) (none_copied pages places))

not_same : (n : ℕ) → n ≡ 4 → 5 ≡ n → ⊥
not_same n e f = omega (arith, e, f)

some_change : (pages : ℕ) → changes standard (keymap standard (blank pages)) command ≡ true
some_change pages =
    changes-some standard (keymap standard (blank pages)) command (record {
      layer = 0;
      key = 0;
      in_layers = omega arith;
      in_keys = omega arith;
      differs = λ e. not_same (keymap standard (blank pages) 0 0) (at_default standard (suc pages) 0 0) (sym (changed-one standard (keymap standard (blank pages)) command 0 0) ∙ e);
    })

two_steps : (pages : ℕ) → steps_for standard (blank pages) command ≡ 2
two_steps pages = rw (some_change pages) (takes_two pages)

-- ---- nothing is in its way

none_or_some : (active : Option (ℕ × ℕ)) (place : ℕ × ℕ) → active ≡ None → active ≡ Some place → ⊥
none_or_some active place n s = cc

rests : (image : List ℕ) → working standard image (SetUp set_feature ∷ []) ≡ None
unfolding working accepted accepts
rests image = refl

ready : (pages : ℕ) → IsReady standard (blank pages) (SetUp set_feature ∷ [])
ready pages = record {
  sound = record {
    sound = λ page l.
        subst IsSound (sym (slot_at-blank (suc pages) page 0 (subst (λ (n : ℕ). page < n) (page_count-blank (suc pages)) l) (omega arith))) (free_sound (replicate 8 255) blank_slot slot_of-blank);
  };
  not_worn = λ w. none_or_some (active (blank pages)) (w.page, 2 ^ 28 - 1) (none_active (suc pages)) w.last;
  rests = rests (blank pages);
}

-- ---- what is answered by two steps

waits_for : (answer : EpAnswer) (made needed : ℕ) → needed ≡ 2 → made < 2 → answer ≡ (if nat_lt made needed then Nak else Packet (record { items = [] })) → answer ≡ Nak
waits_for answer made needed t l e = (let b : nat_lt made needed ≡ true = grind (arith, t, l, nat_tests) in rw b at e)

told_at : (answer : EpAnswer) (needed : ℕ) → needed ≡ 2 → answer ≡ (if nat_lt 2 needed then Nak else Packet (record { items = [] })) → answer ≡ Packet (record { items = [] })
told_at answer needed t e = (let b : nat_lt 2 needed ≡ false = grind (arith, t, nat_tests) in rw b at e)

first_of_two : (work : Work) (needed : ℕ) → needed ≡ 2 → work ≡ (if 1 == needed then Settled else Working) → work ≡ Working
first_of_two work needed t e = (let b : (1 == needed) ≡ false = grind (arith, t, nat_tests) in rw b at e)

last_of_two : (work : Work) (needed : ℕ) → needed ≡ 2 → work ≡ (if 2 == needed then Settled else Working) → work ≡ Settled
last_of_two work needed t e = (let b : (2 == needed) ≡ true = grind (arith, t, nat_tests) in rw b at e)

not_empty : (answer : EpAnswer) → answer ≡ Nak → answer ≢ Packet (record { items = [] })
not_empty answer n e = cc

pub stored : (pages : ℕ) (answers : Answers) → answers.header ≢ Failed → answers.record_made ≢ Failed → IsConforming standard (blank pages) (asked answers) → IsStored answers
stored pages answers f g h =
    let image : List ℕ = blank pages in
    let past : List Call = SetUp set_feature ∷ [] in
    let brings : Call = Out set_report answers.given in
    let before_header : List Call = In answers.early ∷ Polled answers.first_poll ∷ Scanned first_down ∷ [] in
    let before_record : List Call = Scanned first_down ∷ Polled answers.second_poll ∷ In answers.late ∷ Worked answers.header answers.with_header ∷ before_header in
    let two : steps_for standard image command ≡ 2 = two_steps pages in
    let at_status = h.1 in
    let at_late = h.1.1.1.1 in
    let at_early = h.1.1.1.1.1.1 in
    let took = acknowledged standard image [] [] 1 0 0 5 0 answers.given command tt (ready pages) refl h.1.1.1.1.1.1.1.1.1 in
    let early : answers.early ≡ Nak = waits_for answers.early 0 (steps_for standard image command) two (omega arith) (status_by standard image past (Polled answers.first_poll ∷ Scanned first_down ∷ []) brings answers.early command at_early took.1 tt tt) in
    let header : answers.header ≡ Working =
    first_of_two answers.header (steps_for standard image command) two (answered_by standard image past before_header brings command answers.header answers.with_header h.1.1.1.1.1 took.1 (f, tt) (omega (arith, two))) in
    let late : answers.late ≡ Nak =
    waits_for answers.late 1 (steps_for standard image command) two (omega arith) (status_by standard image past (Worked answers.header answers.with_header ∷ before_header) brings answers.late command at_late took.1 (f, tt) (not_empty answers.early early, tt)) in
    record {
      acknowledged = took.0;
      waits = early;
      works = header;
      still_waits = late;
      settled = last_of_two answers.record_made (steps_for standard image command) two (answered_by standard image past before_record brings command answers.record_made answers.with_record at_status took.1 (g, (f, tt)) (omega (arith, two)));
      told =
          told_at answers.status (steps_for standard image command) two
          (status_by standard image past (Worked answers.record_made answers.with_record ∷ before_record) brings answers.status command h took.1 (g, (f, tt)) (not_empty answers.late late, (not_empty answers.early early, tt)));
    }
