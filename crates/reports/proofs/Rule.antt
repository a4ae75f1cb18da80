-- What each call does to what is kept of a report, and to the poll rule.
use Rattle.std.proofs.lemmas.Bool.{ne_eqb}
use Rattle.std.proofs.Common.{◌≡◌, ◌≢◌, slice_get, if◌then◌else◌, ◌+◌, ℕ, true, false, min, List, [], ◌∷◌, Some, None, length, arith, refl, sym, ◌∙◌}
use Rattle.reports.specs.declared.Protocol.{Protocol}
use Rattle.reports.specs.declared.IdleId.{IdleId}
use Rattle.reports.specs.declared.IdleId.TheVariants as id
use Rattle.reports.specs.declared.Input.{Input}
use Rattle.reports.specs.declared.Input.TheVariants.{Boot, One, Two}
use Rattle.reports.specs.Calls.{PollerCall, ticked, polled, idle_set, forgot, was_reset}
use Rattle.reports.specs.Poll.{is_report, is_for, last_bytes, age, sent_last, idle_value, rule_answer, poll_answer}
use Rattle.reports.specs.Queue.{queue}
use Rattle.reports.specs.representation.Kept.{Kept, SentValue}
use Rattle.reports.specs.representation.Relation.{SentRefines, RuleRefines, NothingSent, Refines}
use Rattle.reports.specs.Wanted.{wanted}
use Rattle.reports.proofs.Waiting.{queue-none, queue-forgot, queue-reset}

-- ---- one report

abbrev pub Older : SentValue → SentValue → Type 0
Older old new = (new.bytes ≡ old.bytes) × ((scans : ℕ) → old.age ≡ min 65535 scans → new.age ≡ min 65535 (scans + 1))

pub sent-tick : (report : Input) (past : List PollerCall) (protocol : Protocol) (before now : Input → List ℕ) (old new : SentValue)
    → SentRefines report past old → Older old new → SentRefines report (ticked protocol before now ∷ past) new
unfolding last_bytes age
sent-tick report past protocol before now old new s (b, a) = record { bytes = b ∙ s.bytes; age = a (age report past) s.age }

pub sent-none : (report : Input) (past : List PollerCall) (protocol : Protocol) (sent : SentValue)
    → SentRefines report past sent → SentRefines report (polled protocol None ∷ past) sent
unfolding last_bytes age
sent-none report past protocol sent s = let z : age report past + 0 ≡ age report past = omega arith in record { bytes = s.bytes; age = rw z s.age }

pub sent-other : (report : Input) (past : List PollerCall) (protocol : Protocol) (bytes : List ℕ) (sent : SentValue) → is_report report bytes ≡ false
    → SentRefines report past sent → SentRefines report (polled protocol (Some bytes) ∷ past) sent
unfolding last_bytes age
sent-other report past protocol bytes sent e s =
    let z : age report past + 0 ≡ age report past = omega arith in record { bytes = rw e s.bytes; age = rw (e, z) s.age }

pub sent-this : (report : Input) (past : List PollerCall) (protocol : Protocol) (bytes : List ℕ) (sent : SentValue) → is_report report bytes ≡ true
    → sent.bytes ≡ bytes → sent.age ≡ 0 → SentRefines report (polled protocol (Some bytes) ∷ past) sent
unfolding last_bytes age
sent-this report past protocol bytes sent e b a = record { bytes = rw e b; age = rw e a }

pub sent-idle : (report : Input) (past : List PollerCall) (id : IdleId) (duration : ℕ) (sent : SentValue)
    → SentRefines report past sent → SentRefines report (idle_set id duration ∷ past) sent
unfolding last_bytes age
sent-idle report past id duration sent s = let z : age report past + 0 ≡ age report past = omega arith in record { bytes = s.bytes; age = rw z s.age }

pub sent-nothing : (report : Input) (sent : SentValue) → sent.bytes ≡ wanted (λ _. false) (λ _. false) report → sent.age ≡ 0 → SentRefines report [] sent
unfolding last_bytes age
sent-nothing report sent b a = record { bytes = b; age = a }

pub sent-forgot : (report : Input) (past : List PollerCall) (sent : SentValue) → SentRefines report [] sent → SentRefines report (forgot ∷ past) sent
unfolding last_bytes age
sent-forgot report past sent s = record { bytes = s.bytes; age = s.age }

pub sent-reset : (report : Input) (past : List PollerCall) (sent : SentValue) → SentRefines report [] sent → SentRefines report (was_reset ∷ past) sent
unfolding last_bytes age
sent-reset report past sent s = record { bytes = s.bytes; age = s.age }

-- ---- the poll rule

pub rule-tick : (past : List PollerCall) (protocol : Protocol) (before now : Input → List ℕ) (old new : Kept) → RuleRefines past old
    → Older old.boot new.boot → Older old.one new.one → Older old.two new.two
    → new.sent_last ≡ old.sent_last → new.idle_one ≡ old.idle_one → new.idle_two ≡ old.idle_two
    → RuleRefines (ticked protocol before now ∷ past) new
unfolding sent_last idle_value
rule-tick past protocol before now old new r boot one two last i1 i2 = record {
  boot = sent-tick Boot past protocol before now old.boot new.boot r.boot boot;
  one = sent-tick One past protocol before now old.one new.one r.one one;
  two = sent-tick Two past protocol before now old.two new.two r.two two;
  sent_last = last ∙ r.sent_last;
  idle_boot = i1 ∙ r.idle_boot;
  idle_one = i1 ∙ r.idle_one;
  idle_two = i2 ∙ r.idle_two;
}

pub rule-none : (past : List PollerCall) (protocol : Protocol) (kept : Kept) → RuleRefines past kept → RuleRefines (polled protocol None ∷ past) kept
unfolding sent_last idle_value
rule-none past protocol kept r = record {
  boot = sent-none Boot past protocol kept.boot r.boot;
  one = sent-none One past protocol kept.one r.one;
  two = sent-none Two past protocol kept.two r.two;
  sent_last = r.sent_last;
  idle_boot = r.idle_boot;
  idle_one = r.idle_one;
  idle_two = r.idle_two;
}

abbrev with_boot : Kept → SentValue → Kept
with_boot kept sent = record { boot = sent; one = kept.one; two = kept.two; sent_last = kept.sent_last; queue = kept.queue; idle_one = kept.idle_one; idle_two = kept.idle_two; made_for = kept.made_for }

abbrev with_one : Kept → SentValue → Kept
with_one kept sent = record { boot = kept.boot; one = sent; two = kept.two; sent_last = Some One; queue = kept.queue; idle_one = kept.idle_one; idle_two = kept.idle_two; made_for = kept.made_for }

abbrev with_two : Kept → SentValue → Kept
with_two kept sent = record { boot = kept.boot; one = kept.one; two = sent; sent_last = Some Two; queue = kept.queue; idle_one = kept.idle_one; idle_two = kept.idle_two; made_for = kept.made_for }

pub rule-boot : (past : List PollerCall) (protocol : Protocol) (bytes : List ℕ) (kept : Kept) (sent : SentValue) → length bytes ≡ 8 → sent.bytes ≡ bytes → sent.age ≡ 0
    → RuleRefines past kept → RuleRefines (polled protocol (Some bytes) ∷ past) (with_boot kept sent)
unfolding sent_last idle_value
rule-boot past protocol bytes kept sent l b a r =
    let yes : is_report Boot bytes ≡ true = rw l refl in
    let one : is_report One bytes ≡ false = rw l refl in
    let two : is_report Two bytes ≡ false = rw l refl in
    record {
      boot = sent-this Boot past protocol bytes sent yes b a;
      one = sent-other One past protocol bytes kept.one one r.one;
      two = sent-other Two past protocol bytes kept.two two r.two;
      sent_last = rw (one, two) r.sent_last;
      idle_boot = r.idle_boot;
      idle_one = r.idle_one;
      idle_two = r.idle_two;
    }

pub rule-one : (past : List PollerCall) (protocol : Protocol) (bytes : List ℕ) (kept : Kept) (sent : SentValue) → length bytes ≡ 23 → sent.bytes ≡ bytes → sent.age ≡ 0
    → RuleRefines past kept → RuleRefines (polled protocol (Some bytes) ∷ past) (with_one kept sent)
unfolding sent_last idle_value
rule-one past protocol bytes kept sent l b a r =
    let boot : is_report Boot bytes ≡ false = rw l refl in
    let yes : is_report One bytes ≡ true = rw l refl in
    let two : is_report Two bytes ≡ false = rw l refl in
    record {
      boot = sent-other Boot past protocol bytes kept.boot boot r.boot;
      one = sent-this One past protocol bytes sent yes b a;
      two = sent-other Two past protocol bytes kept.two two r.two;
      sent_last = rw yes refl;
      idle_boot = r.idle_boot;
      idle_one = r.idle_one;
      idle_two = r.idle_two;
    }

pub rule-two : (past : List PollerCall) (protocol : Protocol) (bytes : List ℕ) (kept : Kept) (sent : SentValue) → length bytes ≡ 9 → sent.bytes ≡ bytes → sent.age ≡ 0
    → RuleRefines past kept → RuleRefines (polled protocol (Some bytes) ∷ past) (with_two kept sent)
unfolding sent_last idle_value
rule-two past protocol bytes kept sent l b a r =
    let boot : is_report Boot bytes ≡ false = rw l refl in
    let one : is_report One bytes ≡ false = rw l refl in
    let yes : is_report Two bytes ≡ true = rw l refl in
    record {
      boot = sent-other Boot past protocol bytes kept.boot boot r.boot;
      one = sent-other One past protocol bytes kept.one one r.one;
      two = sent-this Two past protocol bytes sent yes b a;
      sent_last = rw (one, yes) refl;
      idle_boot = r.idle_boot;
      idle_one = r.idle_one;
      idle_two = r.idle_two;
    }

-- bytes that are no report
pub rule-other : (past : List PollerCall) (protocol : Protocol) (bytes : List ℕ) (kept : Kept) → length bytes ≢ 8 → length bytes ≢ 23 → length bytes ≢ 9
    → RuleRefines past kept → RuleRefines (polled protocol (Some bytes) ∷ past) kept
unfolding sent_last idle_value
rule-other past protocol bytes kept n8 n23 n9 r =
    let boot : is_report Boot bytes ≡ false = ne_eqb (length bytes) 8 n8 in
    let one : is_report One bytes ≡ false = ne_eqb (length bytes) 23 n23 in
    let two : is_report Two bytes ≡ false = ne_eqb (length bytes) 9 n9 in
    record {
      boot = sent-other Boot past protocol bytes kept.boot boot r.boot;
      one = sent-other One past protocol bytes kept.one one r.one;
      two = sent-other Two past protocol bytes kept.two two r.two;
      sent_last = rw (one, two) r.sent_last;
      idle_boot = r.idle_boot;
      idle_one = r.idle_one;
      idle_two = r.idle_two;
    }

abbrev with_idle : Kept → ℕ → ℕ → Kept
with_idle kept one two = record { boot = kept.boot; one = kept.one; two = kept.two; sent_last = kept.sent_last; queue = kept.queue; idle_one = one; idle_two = two; made_for = kept.made_for }

same_idle : (which : IdleId) → is_for which One ≡ is_for which Boot
same_idle id.All = refl
same_idle id.One = refl
same_idle id.Two = refl

pub rule-idle : (past : List PollerCall) (which : IdleId) (duration i1 i2 : ℕ) (kept : Kept)
    → i1 ≡ (if is_for which One then duration else kept.idle_one) → i2 ≡ (if is_for which Two then duration else kept.idle_two)
    → RuleRefines past kept → RuleRefines (idle_set which duration ∷ past) (with_idle kept i1 i2)
unfolding sent_last idle_value
rule-idle past which duration i1 i2 kept e1 e2 r = record {
  boot = sent-idle Boot past which duration kept.boot r.boot;
  one = sent-idle One past which duration kept.one r.one;
  two = sent-idle Two past which duration kept.two r.two;
  sent_last = r.sent_last;
  idle_boot = e1 ∙ rw (r.idle_boot, same_idle which) refl;
  idle_one = e1 ∙ rw r.idle_one refl;
  idle_two = e2 ∙ rw r.idle_two refl;
}

-- ---- nothing sent

pub fresh-refines : (kept : Kept) → NothingSent kept → kept.idle_one ≡ 125 → kept.idle_two ≡ 0 → Refines [] kept
unfolding sent_last idle_value
fresh-refines kept n i1 i2 = record {
  rule = record { boot = n.boot; one = n.one; two = n.two; sent_last = n.sent_last; idle_boot = i1; idle_one = i1; idle_two = i2 };
  queue = n.queue ∙ sym queue-none;
}

pub forgot-refines : (past : List PollerCall) (old new : Kept) → NothingSent new → new.idle_one ≡ old.idle_one → new.idle_two ≡ old.idle_two
    → Refines past old → Refines (forgot ∷ past) new
unfolding sent_last idle_value
forgot-refines past old new n i1 i2 s = record {
  rule = record {
    boot = sent-forgot Boot past new.boot n.boot;
    one = sent-forgot One past new.one n.one;
    two = sent-forgot Two past new.two n.two;
    sent_last = n.sent_last;
    idle_boot = i1 ∙ s.rule.idle_boot;
    idle_one = i1 ∙ s.rule.idle_one;
    idle_two = i2 ∙ s.rule.idle_two;
  };
  queue = n.queue ∙ sym (queue-forgot past);
}

pub reset-refines : (past : List PollerCall) (kept : Kept) → Refines [] kept → Refines (was_reset ∷ past) kept
unfolding sent_last idle_value
reset-refines past kept s = record {
  rule = record {
    boot = sent-reset Boot past kept.boot s.rule.boot;
    one = sent-reset One past kept.one s.rule.one;
    two = sent-reset Two past kept.two s.rule.two;
    sent_last = s.rule.sent_last;
    idle_boot = s.rule.idle_boot;
    idle_one = s.rule.idle_one;
    idle_two = s.rule.idle_two;
  };
  queue = s.queue ∙ queue-none ∙ sym (queue-reset past);
}

pub nothing-idle : (kept : Kept) (one two : ℕ) → NothingSent kept → NothingSent (with_idle kept one two)
nothing-idle kept one two n = record { boot = n.boot; one = n.one; two = n.two; sent_last = n.sent_last; queue = n.queue }

-- ---- the queue

pub rule-queue : (past : List PollerCall) (kept : Kept) (queue : List (List ℕ)) → RuleRefines past kept
    → RuleRefines past record { boot = kept.boot; one = kept.one; two = kept.two; sent_last = kept.sent_last; queue = queue; idle_one = kept.idle_one; idle_two = kept.idle_two; made_for = kept.made_for }
rule-queue past kept queue r = record {
  boot = r.boot;
  one = r.one;
  two = r.two;
  sent_last = r.sent_last;
  idle_boot = r.idle_boot;
  idle_one = r.idle_one;
  idle_two = r.idle_two;
}

pub answer-front : (protocol : Protocol) (bytes : Input → List ℕ) (past : List PollerCall) (front : List ℕ) → slice_get (queue past) 0 ≡ Some front
    → Some front ≡ poll_answer protocol bytes past
unfolding poll_answer
answer-front protocol bytes past front e = rw e refl

pub answer-rule : (protocol : Protocol) (bytes : Input → List ℕ) (past : List PollerCall) → slice_get (queue past) 0 ≡ None
    → rule_answer protocol bytes past ≡ poll_answer protocol bytes past
unfolding poll_answer
answer-rule protocol bytes past e = rw e refl
