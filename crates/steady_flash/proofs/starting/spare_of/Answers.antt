use Rattle.std.proofs.Common.{rules, arith, true, ◌≡◌, ◌∙◌, sym, inl, inr}
use Rattle.std.proofs.lemmas.Bool.{cases_lt}
use Rattle.steady_flash.proofs.starting.spare_of.Goals as goal

pub loop-page-preserved : goal.loop-page-preserved
loop-page-preserved c = λ q b u. elim (cases_lt q c.loop-page.page) [
  | inl l ↦ c.loop-page.invariant q l u
  | inr m ↦ (let e : q ≡ c.loop-page.page = omega arith in
      let t : c.is_held.result ≡ true = search rules in
      let held = c.is_held.ensures.0 t in
      u held.0 held.1 held.2 (held.3 ∙ sym e))
]

pub returns-then-not-is_held-clause-free : goal.returns-then-not-is_held-clause-free
returns-then-not-is_held-clause-free c = λ q b u p d n e.
    let held : c.is_held.result ≡ true = c.is_held.ensures.1 (p, d, n, e) in
    absurd (search rules)

pub returns-clause-free : goal.returns-clause-free
returns-clause-free c = λ q b u. elim (cases_lt q c.args.layout.now.pages) [
  | inl l ↦ absurd (c.loop-page.invariant q (omega arith) u)
  | inr m ↦ (let e : q ≡ c.args.layout.now.pages = omega arith in λ p d n h. u p d n (h ∙ sym e))
]
