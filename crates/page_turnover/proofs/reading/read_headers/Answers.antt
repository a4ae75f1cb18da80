use Rattle.std.proofs.Common.{◌≡◌, ◌∙◌, ap, sym, arith, true, false, ◌<◌}
use Rattle.std.specs.Prelude.{is_some}
use Rattle.records.specs.Slots.{slot_of, IsSound}
use Rattle.flash_model.specs.Image.{slot_at, page_count}
use Rattle.page_turnover.specs.Active.{newest}
use Rattle.page_turnover.proofs.Headers.{newest-none, newest-more, active-newest, still_words}
use Rattle.page_turnover.specs.representation.Log.{numbered}
use Rattle.page_turnover.proofs.Soundness.{none_below, first_found, still_sound, still_first}
use Rattle.page_turnover.proofs.reading.read_headers.Goals as goal
use Rattle.page_turnover.proofs.reading.read_headers.Goals.{then-is_none+then-not-is_sound, else-is_none, else-is_none-via-then-is_none+else-not-is_sound, else-is_none-via-else-is_none}

pub loop-page-init : goal.loop-page-init
loop-page-init g c =
    let image = g.F.NorFlash.image c.args.flash.now in
    record { active_is = sym (newest-none image); words_are = tt; unsound_is = none_below image }

pub loop-page-preserved : goal.loop-page-preserved
loop-page-preserved g c =
    let image = g.F.NorFlash.image c.args.flash.now in
    let page = c.loop-page.page in
    let bytes : c.read_slot-header.result ≡ slot_at image page 0 = c.read_slot-header.ensures in
    let inside : page < page_count image = omega (arith, c.pages-page-end.ensures.count, c.loop-page-test.true) in
    record {
      active_is =
          let more = newest-more image page in
          let header : c.classify.result ≡ slot_of (slot_at image page 0) = c.classify.ensures ∙ ap slot_of bytes in
          let before : numbered c.loop-page.active ≡ newest image page = c.loop-page.invariant.active_is in
          c.newer-active.ensures.active ∙ rw (before, header) (sym more);
      words_are = still_words image page c.classify.result c.loop-page.active c.newer-active.result (c.classify.ensures ∙ ap slot_of bytes) c.loop-page.invariant.words_are c.newer-active.ensures.word;
      unsound_is = elim c.if-is_none.branch [
        | then-is_none+then-not-is_sound w ↦ (
            let none : is_some c.loop-page.unsound ≡ false = rw w.if-is_none.true at c.is_none.ensures in
            let unsound : IsSound (slot_at image page 0) → ⊥ = λ s. let t : w.is_sound.result ≡ true = w.is_sound.ensures.1 (rw bytes s) in let f = w.if-not-is_sound.true in cc in
            rw w.unsound-is (first_found image page c.loop-page.unsound inside none c.loop-page.invariant.unsound_is unsound))
        | else-is_none w ↦ elim w.else-is_none.branch [
          | else-is_none-via-then-is_none+else-not-is_sound v ↦ (
              let sound : IsSound (slot_at image page 0) = rw bytes at (v.is_sound.ensures.0 v.if-not-is_sound.false) in
              rw w.unsound-is (still_sound image page c.loop-page.unsound c.loop-page.invariant.unsound_is sound))
          | else-is_none-via-else-is_none v ↦ (
              let some : is_some c.loop-page.unsound ≡ true = rw v.if-is_none.false at c.is_none.ensures in
              rw w.unsound-is (still_first image page c.loop-page.unsound some c.loop-page.invariant.unsound_is))
        ]
      ];
    }

pub returns-clause-active : goal.returns-clause-active
returns-clause-active g c =
    let image = g.F.NorFlash.image c.args.flash.now in
    c.loop-page.invariant.active_is ∙ active-newest image c.loop-page.page (omega (arith, c.pages-page-end.ensures.count, c.loop-page-test.false, c.loop-page.auto.page-end))
