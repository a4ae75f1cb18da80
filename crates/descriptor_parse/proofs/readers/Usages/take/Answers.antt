use Rattle.std.proofs.Common.{◌≡◌, ◌-◌, [], ◌++◌, length, take, drop, get_or, arith, refl, sym, ◌∙◌, ap, rules}
use Rattle.descriptor_parse.specs.Descriptor.{usage_list}
use Rattle.descriptor_parse.proofs.WalkLemmas.{hand, hand-none, hand-range, hand-more, hand-last, no-ranges, front-range}
use Rattle.descriptor_parse.proofs.readers.Usages.take.Goals as goal

pub returns-in_default : goal.returns-in_default
returns-in_default c =
    let s = c.loop-self.self-inside in
    let nothing : hand s.next s.last s.in_hand ++ usage_list s.rest.now ≡ [] =
    rw (hand-none s.next s.last s.in_hand c.loop-self-test.true, no-ranges s.rest.now (omega (arith, c.in_default.len_below))) refl in
    (sym c.loop-self.invariant.left ∙ nothing, nothing)

pub loop-self-preserved : goal.loop-self-preserved
loop-self-preserved c =
    let s = c.loop-self.self-inside in
    let r = get_or s.rest.now 0 (0, 0) in
    record {
      left = ap (λ xs. xs ++ usage_list (take (length s.rest.now - 1) (drop 1 s.rest.now))) (hand-range r.0 r.1)
          ∙ sym (front-range s.rest.now (omega (arith, c.in-len1-up.len_at_least)))
          ∙ sym (ap (λ xs. xs ++ usage_list s.rest.now) (hand-none s.next s.last s.in_hand c.loop-self-test.true)) ∙ c.loop-self.invariant.left;
      within = search rules;
    }

pub returns-then-usage-self : goal.returns-then-usage-self
returns-then-usage-self c =
    let s = c.loop-self.self-inside in
    sym c.loop-self.invariant.left ∙ ap (λ xs. xs ++ usage_list s.rest.now) (hand-more s.next s.last s.in_hand c.loop-self-test.false c.if-usage-self.true)

pub returns-else-usage-self : goal.returns-else-usage-self
returns-else-usage-self c =
    let s = c.loop-self.self-inside in
    sym c.loop-self.invariant.left
    ∙ ap (λ xs. xs ++ usage_list s.rest.now) (hand-last s.next s.last s.in_hand c.loop-self-test.false (c.loop-self.invariant.within c.loop-self-test.false) c.if-usage-self.false)
