use Rattle.std.proofs.Common.{rules, ◌≡◌, length, not, ap, arith}
use Rattle.std.proofs.lemmas.List.Sums.{prefix_len-le-length}
use Rattle.std.proofs.lemmas.Grind.{common_steps}
use Rattle.script.specs.Words.{is_blank}
use Rattle.script.proofs.WordLemmas.{FindsWord, finds_word}
use Rattle.script.proofs.words.WordsIterator.next.Goals as goal

pub split_at-requires : goal.split_at-requires
split_at-requires c = rw c.blanks.ensures (prefix_len-le-length is_blank c.args.self.now.rest.now)

pub split_at-requires-2 : goal.split_at-requires-2
split_at-requires-2 c = rw c.word_end.ensures (prefix_len-le-length (λ b. not (is_blank b)) c.split_at.result.1.now)

pub returns-then-is_empty-clause-steps : goal.returns-then-is_empty-clause-steps
returns-then-is_empty-clause-steps c =
    let finds : FindsWord c.args.self.now.rest.now c.split_at-2.result.0.now c.split_at-2.result.1.now
    = finds_word _ _ _ _ _ _ c.blanks.ensures c.split_at.ensures.back c.word_end.ensures c.split_at-2.ensures.front c.split_at-2.ensures.back in
    let none : length c.split_at-2.result.0.now ≡ 0 = search rules in
    (finds.none none, finds.none_after none)

pub returns-else-is_empty-clause-steps : goal.returns-else-is_empty-clause-steps
returns-else-is_empty-clause-steps c =
    let finds : FindsWord c.args.self.now.rest.now c.split_at-2.result.0.now c.split_at-2.result.1.now
    = finds_word _ _ _ _ _ _ c.blanks.ensures c.split_at.ensures.back c.word_end.ensures c.split_at-2.ensures.front c.split_at-2.ensures.back in
    finds.some (grind (arith, common_steps))

pub returns-else-is_empty-clause-goes : goal.returns-else-is_empty-clause-goes
returns-else-is_empty-clause-goes c =
    let steps = returns-else-is_empty-clause-steps c in
    search (rules, ap length steps)
