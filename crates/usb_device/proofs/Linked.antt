-- What keeps the link between bus, session and transfer.
use Rattle.std.proofs.lemmas.Grind.{common_steps}
use Rattle.std.proofs.Common.{arith}
use Rattle.std.proofs.Common.{◌≡◌, ℕ, Bool, true, false, ◌||◌, ◌&&◌, List, [], ◌∷◌, ◌++◌, Some, refl, ap, sym, subst, ◌∙◌, inl, inr}
use Rattle.usb_device.specs.declared.answer.EpAnswer.{EpAnswer}
use Rattle.usb_device.specs.Calls.{EpCall, Out}
use Rattle.usb_device.specs.Bus.{Bus, Seen, SetupSent, OutTaken, InGot, WasStalled, WasReset, Naks, Sends, NaksOut, Takes, nothing_met, Happens, sets_up, takes_in, loses_ack, brings_out, stalls, resets, Goes, is_pending, is_out, is_write, setup_of, write_of, has_ended, got, with_taken, with_ack_lost, with_out, with_stall, first_out}
use Rattle.usb_device.specs.Confirmed.{asked_of, WasSent, TakesOnly, ConfirmedBefore, AllKept, three_writes, last_is_lost}
use Rattle.usb_device.specs.Transfers.{TransferState, Idle}
use Rattle.usb_device.specs.Given.{got_of, given_of, Hands, AllGiven}
use Rattle.usb_device.specs.representation.Link.{StageLink, Link}
use Rattle.usb_device.proofs.Standing.{given_other, got_given, hands_taken, hands_lost, stands_taken, stands_lost, stands_out, stands_stall}

or_true : (x : Bool) → (x || true) ≡ false → ⊥
or_true x h1 = grind (arith, common_steps)

or_false : true ≡ false → ⊥
or_false e = cc

confirms_by : (pending : Bool) (t : TransferState) (b : Bus) (calls : List EpCall) (has : Bool) (setup data_ : List ℕ) → is_pending b.met ≡ pending → Link t b calls
    → b.input ≡ Sends [] has → setup_of b.seen ≡ Some setup → is_write setup ≡ true → write_of b.seen ≡ Some data_ → ConfirmedBefore [] setup data_ calls
confirms_by pending t b calls has setup data_ h1 h2 h3 h4 h5 h6 = grind (arith, common_steps)

-- more that the host met
sent_more : (seen : Seen) (after : List Seen) (before : List EpCall) (call : EpCall) → TakesOnly after before call → TakesOnly (seen ∷ after) before call
sent_more seen after before call h1 = grind (arith, common_steps)

confirmed_more : (seen : Seen) (after : List Seen) (setup data_ : List ℕ) (calls : List EpCall) → ConfirmedBefore after setup data_ calls → ConfirmedBefore (seen ∷ after) setup data_ calls
confirmed_more seen after setup data_ [] c = c
confirmed_more seen after setup data_ (call ∷ before) (inl c) = inl c
confirmed_more seen after setup data_ (call ∷ before) (inr c) = inr (sent_more seen after before call c.0, confirmed_more seen after setup data_ before c.1)

-- data that are taken in the same transfer
pub takes_as : (sent : List Seen) (packet : List ℕ) (answer : EpAnswer) (behind calls : List EpCall) → asked_of behind ≡ asked_of calls → TakesOnly sent calls (Out packet answer)
    → TakesOnly sent behind (Out packet answer)
takes_as sent packet answer behind calls h1 h2 = grind (arith, common_steps)

kept_more : (x : Seen) (seen : List Seen) (calls : List EpCall) → AllKept seen calls
    → ((setup data_ : List ℕ) → x ≡ InGot [] → setup_of seen ≡ Some setup → is_write setup ≡ true → write_of seen ≡ Some data_ → ConfirmedBefore [] setup data_ calls)
    → AllKept (x ∷ seen) calls
kept_more x seen calls k n [] before s d e es ew ed =
    let first : x ≡ InGot [] = cc in
    let rest : before ≡ seen = cc in
    n s d first (subst (λ l. setup_of l ≡ Some s) rest es) ew (subst (λ l. write_of l ≡ Some d) rest ed)
kept_more x seen calls k n (y ∷ after) before s d e es ew ed =
    let rest : seen ≡ after ++ (InGot [] ∷ before) = cc in
    confirmed_more y after s d calls (k after before s d rest es ew ed)

kept_other : (x : Seen) (seen : List Seen) (calls : List EpCall) → (x ≡ InGot [] → ⊥) → AllKept seen calls → AllKept (x ∷ seen) calls
kept_other x seen calls o k = kept_more x seen calls k (λ s d e es ew ed. absurd (o e))

got_kept : (t : TransferState) (b : Bus) (calls : List EpCall) (packet : List ℕ) (has : Bool) → Link t b calls → b.input ≡ Sends packet has
    → AllKept (got packet has b.seen) calls
got_kept t b calls packet true h e = h.kept
got_kept t b calls (x ∷ xs) false h e = kept_other (InGot (x ∷ xs)) b.seen calls (λ n. cc) h.kept
got_kept t b calls [] false h e =
    kept_more (InGot []) b.seen calls h.kept (λ s d n es ew ed. confirms_by (is_pending b.met) t b calls false s d refl h e es ew ed)

got_link : (t : TransferState) (b : Bus) (calls : List EpCall) (packet : List ℕ) (has pending : Bool) → is_pending b.met ≡ pending → Link t b calls → b.input ≡ Sends packet has
    → AllGiven (got packet has b.seen) calls
got_link t b calls packet has true p h i = absurd (let y : Sends packet has ≡ Naks = sym i ∙ (h.fresh p).input in cc)
got_link t b calls packet has false p h i =
    let c = h.current p in got_given has packet b calls h.given c.setup (subst (λ y. Hands y (got_of b.seen) (given_of calls)) i c.hands)

setup_got : (packet : List ℕ) (has : Bool) (b : Bus) → setup_of (got packet has b.seen) ≡ setup_of b.seen
setup_got packet has b = grind (arith, common_steps)

taken_stage : (t : TransferState) (b : Bus) (calls : List EpCall) (packet : List ℕ) (has : Bool) → b.input ≡ Sends packet has → StageLink t b calls → StageLink t (with_taken b packet has) calls
taken_stage t b calls packet has h1 h2 = grind (arith, common_steps)

lost_stage : (t : TransferState) (b : Bus) (calls : List EpCall) (packet : List ℕ) (has : Bool) → b.input ≡ Sends packet has → StageLink t b calls
    → StageLink t (with_ack_lost b packet has) calls
lost_stage t b calls packet has h1 h2 = grind (arith, common_steps)

out_stage : (t : TransferState) (b : Bus) (calls : List EpCall) (packet : List ℕ) → b.output ≡ Takes → StageLink t b calls → StageLink t (with_out b packet) calls
out_stage t b calls packet h1 h2 = grind (arith, common_steps)

stall_stage : (t : TransferState) (b : Bus) (calls : List EpCall) → StageLink t b calls → StageLink t (with_stall b) calls
stall_stage t b calls h1 = grind (arith, common_steps)

-- one thing that happens on the bus
step : (t : TransferState) (b next : Bus) (calls : List EpCall) → Happens b next → Link t b calls → Link t next calls
step t b next calls (sets_up bytes e) h =
    let P : Bus → Type 0 = λ x. Link t x calls in
    subst P (sym e) (record {
      kept = kept_other (SetupSent bytes) b.seen calls (λ n. cc) h.kept;
      given = given_other (SetupSent bytes) b.seen calls (λ p n. cc) h.given;
      fresh = λ p. record { input = refl; output = refl; setup = refl; write = refl; ended = refl; got = refl; outs = refl };
      current = λ p. absurd (or_true b.met.reset p);
    })
step t b next calls (takes_in packet has i e) h =
    let P : Bus → Type 0 = λ x. Link t x calls in
    subst P (sym e) (record {
      kept = got_kept t b calls packet has h i;
      given = got_link t b calls packet has (is_pending b.met) refl h i;
      fresh = λ p. let f = h.fresh p in cc;
      current = λ p. let c = h.current p in record {
        setup = setup_got packet has b ∙ c.setup;
        stage = λ s es ew. taken_stage t b calls packet has i (c.stage s (sym (setup_got packet has b) ∙ es) ew);
        hands = hands_taken has packet b.seen (given_of calls) (subst (λ y. Hands y (got_of b.seen) (given_of calls)) i c.hands);
        stands = stands_taken t b calls packet has i c.stands;
      };
    })
step t b next calls (loses_ack packet has i e) h =
    let P : Bus → Type 0 = λ x. Link t x calls in
    subst P (sym e) (record {
      kept = got_kept t b calls packet has h i;
      given = got_link t b calls packet has (is_pending b.met) refl h i;
      fresh = λ p. let f = h.fresh p in cc;
      current = λ p. let c = h.current p in record {
        setup = setup_got packet has b ∙ c.setup;
        stage = λ s es ew. lost_stage t b calls packet has i (c.stage s (sym (setup_got packet has b) ∙ es) ew);
        hands = hands_lost has packet b.seen (given_of calls) (subst (λ y. Hands y (got_of b.seen) (given_of calls)) i c.hands);
        stands = stands_lost t b calls packet has i c.stands;
      };
    })
step t b next calls (brings_out packet o e) h =
    let P : Bus → Type 0 = λ x. Link t x calls in
    subst P (sym e) (record {
      kept = kept_other (OutTaken packet) b.seen calls (λ n. cc) h.kept;
      given = given_other (OutTaken packet) b.seen calls (λ p n. cc) h.given;
      fresh = λ p. let f = h.fresh p in cc;
      current = λ p. let c = h.current p in record {
        setup = c.setup;
        stage = λ s es ew. out_stage t b calls packet o (c.stage s es ew);
        hands = c.hands;
        stands = stands_out t b calls packet o c.stands;
      };
    })
step t b next calls (stalls e) h =
    let P : Bus → Type 0 = λ x. Link t x calls in
    subst P (sym e) (record {
      kept = kept_other WasStalled b.seen calls (λ n. cc) h.kept;
      given = given_other WasStalled b.seen calls (λ p n. cc) h.given;
      fresh = λ p. let f = h.fresh p in record { input = f.input; output = f.output; setup = f.setup; write = f.write; ended = f.ended; got = f.got; outs = f.outs };
      current = λ p. let c = h.current p in record {
        setup = c.setup;
        stage = λ s es ew. stall_stage t b calls (c.stage s es ew);
        hands = c.hands;
        stands = stands_stall t b calls c.stands;
      };
    })
step t b next calls (resets e) h =
    let P : Bus → Type 0 = λ x. Link t x calls in
    subst P (sym e) (record {
      kept = kept_other WasReset b.seen calls (λ n. cc) h.kept;
      given = given_other WasReset b.seen calls (λ p n. cc) h.given;
      fresh = λ p. record { input = refl; output = refl; setup = refl; write = refl; ended = refl; got = refl; outs = refl };
      current = λ p. absurd (or_false p);
    })

pub goes : (steps : List Bus) (t : TransferState) (b next : Bus) (calls : List EpCall) → Goes steps b next → Link t b calls → Link t next calls
goes [] t b next calls e h = let P : Bus → Type 0 = λ x. Link t x calls in subst P (sym e) h
goes (mid ∷ rest) t b next calls g h = goes rest t mid next calls g.1 (step t b mid calls g.0 h)

-- where it begins
none_met : (after before : List Seen) (packet : List ℕ) → [] ≡ after ++ (InGot packet ∷ before) → ⊥
none_met [] before packet e = cc
none_met (x ∷ after) before packet e = cc

pub starts : Link Idle (record { seen = []; input = Naks; output = NaksOut; met = nothing_met }) []
starts = record {
  kept = λ after before s d e es ew ed. absurd (none_met after before [] e);
  given = λ after before s p e es. absurd (none_met after before p e);
  fresh = λ p. absurd (or_false (sym p));
  current = λ p. record { setup = refl; stage = λ s es ew. tt; hands = refl; stands = inl (refl, refl, refl, refl) };
}

-- what the host sent in its transfer since it got an empty packet
since_end : (after before : List Seen) (setup : List ℕ) → setup_of (after ++ (InGot [] ∷ before)) ≡ Some setup → has_ended (after ++ (InGot [] ∷ before)) ≡ false
    → (setup_of after ≡ Some setup) × (write_of (after ++ (InGot [] ∷ before)) ≡ write_of after)
since_end [] before setup e n = absurd (let x : true ≡ false = n in cc)
since_end (SetupSent bytes ∷ after) before setup e n = (e, refl)
since_end (OutTaken packet ∷ after) before setup e n = let r = since_end after before setup e n in (r.0, ap (λ first. first_out first packet) r.1)
since_end (InGot [] ∷ after) before setup e n = absurd (let x : true ≡ false = n in cc)
since_end (InGot (x ∷ xs) ∷ after) before setup e n = since_end after before setup e n
since_end (WasStalled ∷ after) before setup e n = since_end after before setup e n
since_end (WasReset ∷ after) before setup e n = cc

was_sent : (after : List Seen) (setup data_ : List ℕ) → setup_of after ≡ Some setup → write_of after ≡ Some data_ → WasSent setup data_ after
was_sent [] setup data_ e d = cc
was_sent (seen ∷ after) setup data_ e d = inl (e, d)

pub sent_since : (seen after before : List Seen) (setup data_ : List ℕ) → seen ≡ after ++ (InGot [] ∷ before) → setup_of seen ≡ Some setup → write_of seen ≡ Some data_ → has_ended seen ≡ false
    → WasSent setup data_ after
sent_since seen after before setup data_ e es ed n =
    let r = since_end after before setup (subst (λ l. setup_of l ≡ Some setup) e es) (subst (λ l. has_ended l ≡ false) e n) in
    was_sent after setup data_ r.0 (sym r.1 ∙ subst (λ l. write_of l ≡ Some data_) e ed)

pub seen_confirmed : (t : TransferState) (b : Bus) (calls : List EpCall) (after before : List Seen) (setup data_ : List ℕ) → Link t b calls
    → b.seen ≡ after ++ (InGot [] ∷ before) → setup_of before ≡ Some setup → is_write setup ≡ true → write_of before ≡ Some data_ → ConfirmedBefore after setup data_ calls
seen_confirmed t b calls after before setup data_ h = h.kept after before setup data_

-- the last of three
out_by : (a b : Bool) → (a && b) ≡ true → a ≡ true
out_by a b h1 = grind (arith, common_steps)

first_is : (setup one other : List ℕ) → is_out setup ≡ true → (other ≡ one → ⊥) → ConfirmedBefore [] setup one (last_is_lost setup one other) → ⊥
first_is setup one other h1 h2 h3 = grind (arith, common_steps)

pub last_counts : (t : TransferState) (b : Bus) (setup one other : List ℕ) → is_write setup ≡ true → (other ≡ one → ⊥) → b.seen ≡ three_writes setup one other
    → Link t b (last_is_lost setup one other) → ⊥
last_counts t b setup one other w n e h =
    let before = OutTaken one ∷ SetupSent setup ∷ InGot [] ∷ OutTaken other ∷ SetupSent setup ∷ InGot [] ∷ OutTaken one ∷ SetupSent setup ∷ [] in
    first_is setup one other (out_by (is_out setup) _ w) n (h.kept [] before setup one e refl w refl)
