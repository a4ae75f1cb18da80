use Rattle.std.proofs.Common.{◌≡◌, ◌∙◌, sym, rules, [], arith, ap, ℕ, None, List}
use Rattle.page_turnover.specs.Words.{words}
use Rattle.settings.specs.Settings.{after, changes_in}
use Rattle.settings.proofs.Naming.{end_of_words, no_head, settings_of-is, not_named}
use Rattle.settings.proofs.Reading.{after_other}
use Rattle.settings.proofs.lookup.named_in_words.Goals as goal

pub loop-word-init : goal.loop-word-init
loop-word-init g c =
    let image = g.F.NorFlash.image c.args.flash.now in
    let all : c.into_iter-word-iterator.result ≡ words image = search rules in
    record { after = c.requires.small; small = omega arith; same = λ id a b. rw all (sym (settings_of-is image id)) }

pub loop-word-preserved-in-Some-head_of : goal.loop-word-preserved-in-Some-head_of
loop-word-preserved-in-Some-head_of g c =
    let l = c.loop-word.invariant in
    let n = c.nearer-best.ensures in
    record {
      after = n.after;
      small = omega (arith, n.lower, l.small);
      same = λ id a b. sym (after_other None c.in-Some.word c.in-Some-head_of.head c.next.new.self id (sym c.in-Some-head_of.ensures.head) (not_named c.args.from c.nearer-best.result c.in-Some-head_of.head.id id a b n.named))
          ∙ ap (λ (ws : List ℕ). after None (changes_in ws) id) (sym c.in-Some.ensures.steps) ∙ l.same id a (omega (arith, n.lower, b));
    }

pub loop-word-preserved : goal.loop-word-preserved
loop-word-preserved g c =
    let l = c.loop-word.invariant in
    record {
      after = l.after;
      small = l.small;
      same = λ id a b. sym (no_head c.in-Some.word c.next.new.self id (sym c.head_of.ensures.head ∙ c.in_default.is))
          ∙ ap (λ (ws : List ℕ). after None (changes_in ws) id) (sym c.in-Some.ensures.steps) ∙ l.same id a b;
    }

pub returns-clause-none : goal.returns-clause-none
returns-clause-none g c id a b =
    let none : c.loop-word.word-iterator ≡ [] = search rules in
    sym (c.loop-word.invariant.same id a b) ∙ rw none (end_of_words id)
