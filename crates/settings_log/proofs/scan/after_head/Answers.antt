use Rattle.std.proofs.Common.{refl, false, arith, rules, slice_index_or, length, ◌<◌, ◌≡◌, ◌∙◌}
use Rattle.settings_log.proofs.Slots.{goes_on_ignored, goes_on_first, goes_on_next}
use Rattle.settings_log.proofs.scan.after_head.Goals as goal
use Rattle.settings_log.proofs.scan.after_head.Goals.{else-not-head-via-then-not-head+else-not-waits_for_head, else-not-head-via-else-not-head}

pub returns-then-not-waits_for_head-clause-goes_on : goal.returns-then-not-waits_for_head-clause-goes_on
returns-then-not-waits_for_head-clause-goes_on c = record {
  same_length = refl;
  each = λ k d l. goes_on_ignored c.args.place.page c.args.place.slot c.args.head c.args.pending (slice_index_or c.args.entries.now k d) (search rules)
      (λ z. let t = c.waits_for_head.ensures.1 z in let f : c.waits_for_head.result ≡ false = c.if-not-waits_for_head.true in cc);
}

pub returns-clause-goes_on : goal.returns-clause-goes_on
returns-clause-goes_on c = record {
  same_length = c.settled.ensures.same.same_length ∙ c.note.ensures.same_length;
  each = λ k d l.
      let m : k < length c.note.new.entries = omega (arith, l, c.note.ensures.same_length) in
      let old = slice_index_or c.args.entries.now k d in
      let mid = slice_index_or c.note.new.entries k d in
      let new = slice_index_or c.settled.new.entries k d in
      elim c.else-not-head.branch [
        | else-not-head-via-then-not-head+else-not-waits_for_head w ↦
            goes_on_next c.args.place c.args.head c.args.pending c.data_words.result c.settled.result old mid new c.requires.waits (search rules)
            (w.waits_for_head.ensures.0 w.if-not-waits_for_head.false) (c.note.ensures.each k d l) c.data_words.ensures.words (c.settled.ensures.same.each k d m)
        | else-not-head-via-else-not-head w ↦
            goes_on_first c.args.place c.args.head c.args.pending c.data_words.result c.settled.result old mid new c.requires.waits (search rules)
            (c.note.ensures.each k d l) c.data_words.ensures.words (c.settled.ensures.same.each k d m)
      ];
}
