-- A host keeps the served descriptor exactly where a fetch came through, whichever session it was in.
use Rattle.std.proofs.Common.{◌≡◌, ◌⊎◌, ◌↔◌, ℕ, ◌≤◌, true, List, [], ◌∷◌, ◌++◌, Option, Some, None, length, refl, sym, ◌∙◌, ap, subst, inl, inr, append-nil}
use Rattle.descriptor_build.specs.Served.{report_bytes}
use Rattle.host.specs.Calls.{HostCall, was_set_up, got_packet, lost}
use Rattle.host.specs.Kept.{asks_for_report, wanted_length, text_length, gathering, kept}
use Rattle.layers.specs.Codes.{DefaultCodes}
use Rattle.keyboard.specs.Calls.{Call, EachCall}
use Rattle.keyboard.specs.Feature.{Where, yes, no}
use Rattle.keyboard.specs.Conforming.{IsAnswered}
use Rattle.std.specs.Int.{div_ceil}
use Rattle.world.specs.Fetched.{AreTaken, IsFetched}
use Rattle.world.specs.Heard.{heard, with_heard, Hears, at_start, one_more, NoneOrServed, none_kept, served_kept}
use Rattle.world.proofs.Descriptors.{kept_is_fetched}

-- ---- a session is heard on top of what was reported before

record Over (reported host : List HostCall) : Type 0 where
  pub new : List HostCall
  pub split : host ≡ new ++ reported

over_with : (o : Option HostCall) (reported earlier : List HostCall) → Over reported earlier → Over reported (with_heard o earlier)
over_with None reported earlier h = h
over_with (Some call) reported earlier h = record { new = call ∷ h.new; split = ap (λ (l : List HostCall). call ∷ l) h.split }

over : (reported : List HostCall) (past : List Call) (host : List HostCall) → Hears reported past host → Over reported host
over reported past host at_start = record { new = []; split = refl }
over reported past host (one_more call memory before earlier h) = over_with (heard call memory) reported earlier (over reported before earlier h)

-- ---- a fetch is of one session

-- nothing was reported before a session, or at last that the keyboard was cut off
abbrev pub IsCutOff : List HostCall → Type 0
IsCutOff [] = Unit {0}
IsCutOff (lost ∷ before) = Unit {0}
IsCutOff (_ ∷ before) = ⊥

within : (packets new reported : List HostCall) (setup : List ℕ) (before : List HostCall) → IsCutOff reported → AreTaken packets → new ++ reported ≡ packets ++ (was_set_up setup ∷ before) → Over reported before
within [] [] [] setup before c t e = cc
within [] [] (lost ∷ reported) setup before c t e = cc
within [] [] (was_set_up bytes ∷ reported) setup before c t e = absurd c
within [] [] (got_packet bytes memory ∷ reported) setup before c t e = absurd c
within [] (call ∷ new) reported setup before c t e = (let rest : new ++ reported ≡ before = cc in record { new = new; split = sym rest })
within (got_packet bytes memory ∷ packets) [] [] setup before c t e = cc
within (got_packet bytes memory ∷ packets) [] (lost ∷ reported) setup before c t e = cc
within (got_packet bytes memory ∷ packets) [] (was_set_up other ∷ reported) setup before c t e = absurd c
within (got_packet bytes memory ∷ packets) [] (got_packet other taken ∷ reported) setup before c t e = absurd c
within (got_packet bytes memory ∷ packets) (call ∷ new) reported setup before c t e =
    let rest : new ++ reported ≡ packets ++ (was_set_up setup ∷ before) = cc in
    within packets new reported setup before c t.1 rest
within (was_set_up bytes ∷ packets) new reported setup before c t e = absurd t
within (lost ∷ packets) new reported setup before c t e = absurd t

-- a fetch, its parts taken one by one
IsSplit : List HostCall → List HostCall → List HostCall → List ℕ → List HostCall → Type 0
IsSplit host later packets setup before = host ≡ later ++ (packets ++ (was_set_up setup ∷ before))

record IsWhole (packets : List HostCall) (setup : List ℕ) : Type 0 where
  pub asks : asks_for_report setup ≡ true
  pub enough : text_length ≤ wanted_length setup
  pub count : length packets ≡ div_ceil text_length 8
  pub taken : AreTaken packets

fetched_from : (reported host later packets : List HostCall) (setup : List ℕ) (before : List HostCall) → IsWhole packets setup → IsSplit host later packets setup (before ++ reported) → IsFetched reported host
unfolding IsSplit
fetched_from reported host later packets setup before w e = record {
  later = later;
  packets = packets;
  setup = setup;
  before = before;
  split = e;
  asks = w.asks;
  enough = w.enough;
  count = w.count;
  taken = w.taken;
}

fetched_ever : (host later packets : List HostCall) (setup : List ℕ) (before : List HostCall) → IsWhole packets setup → IsSplit host later packets setup before → IsFetched [] host
fetched_ever host later packets setup before w e =
    fetched_from [] host later packets setup before w (subst (λ (b : List HostCall). IsSplit host later packets setup b) (sym (append-nil before)) e)

whole_of : {reported host : List HostCall} (f : IsFetched reported host) → IsWhole f.packets f.setup
whole_of f = record { asks = f.asks; enough = f.enough; count = f.count; taken = f.taken }

one_later : (reported host : List HostCall) (call : HostCall) → IsFetched reported host → IsFetched reported (call ∷ host)
unfolding IsSplit
one_later reported host call f = fetched_from reported (call ∷ host) (call ∷ f.later) f.packets f.setup f.before (whole_of f) (ap (λ (l : List HostCall). call ∷ l) f.split)

either : (reported new later packets : List HostCall) (setup : List ℕ) (before : List HostCall) → IsCutOff reported → IsWhole packets setup → IsSplit (new ++ reported) later packets setup before
    → IsFetched [] reported ⊎ IsFetched reported (new ++ reported)
unfolding IsSplit
either reported new [] packets setup before c w e =
    let o = within packets new reported setup before c w.taken e in
    inr (fetched_from reported (new ++ reported) [] packets setup o.new w (subst (λ (b : List HostCall). IsSplit (new ++ reported) [] packets setup b) o.split e))
either reported [] (call ∷ later) packets setup before c w e = inl (fetched_ever reported (call ∷ later) packets setup before w e)
either reported (first ∷ new) (call ∷ later) packets setup before c w e =
    let rest : new ++ reported ≡ later ++ (packets ++ (was_set_up setup ∷ before)) = cc in
    by_either (either reported new later packets setup before c w rest)
  where
    by_either : IsFetched [] reported ⊎ IsFetched reported (new ++ reported) → IsFetched [] reported ⊎ IsFetched reported (first ∷ new ++ reported)
    by_either (inl f) = inl f
    by_either (inr f) = inr (one_later reported (new ++ reported) first f)

before_or_in : (reported host : List HostCall) → Over reported host → IsCutOff reported → IsFetched [] host → IsFetched [] reported ⊎ IsFetched reported host
unfolding IsSplit
before_or_in reported host o c f =
    let ends : f.before ++ [] ≡ f.before = append-nil f.before in
    let parts : host ≡ f.later ++ (f.packets ++ (was_set_up f.setup ∷ f.before)) = rw ends at f.split in
    subst (λ (h : List HostCall). IsFetched [] reported ⊎ IsFetched reported h) (sym o.split)
    (either reported o.new f.later f.packets f.setup f.before c (whole_of f) (sym o.split ∙ parts))

all_later : (new reported : List HostCall) → IsFetched [] reported → IsFetched [] (new ++ reported)
all_later [] reported f = f
all_later (call ∷ new) reported f = one_later [] (new ++ reported) call (all_later new reported f)

of_session : (reported host : List HostCall) → IsFetched reported host → IsFetched [] host
unfolding IsSplit
of_session reported host f = fetched_ever host f.later f.packets f.setup (f.before ++ reported) (whole_of f) f.split

-- ---- over all sessions

abbrev pub KeptIfFetched : List HostCall → Type 0
KeptIfFetched host = kept host ≡ Some report_bytes ↔ IsFetched [] host

nothing_fetched : (later packets : List HostCall) (setup : List ℕ) (before : List HostCall) → [] ≡ later ++ (packets ++ (was_set_up setup ∷ before ++ [])) → ⊥
nothing_fetched [] [] setup before e = cc
nothing_fetched [] (call ∷ packets) setup before e = cc
nothing_fetched (call ∷ later) packets setup before e = cc

pub kept_first : KeptIfFetched []
unfolding kept
kept_first = (λ e. cc, λ f. absurd (nothing_fetched f.later f.packets f.setup f.before f.split))

-- what was split was so before the keyboard was cut off
record Earlier (host packets : List HostCall) (setup : List ℕ) (before : List HostCall) : Type 0 where
  pub later : List HostCall
  pub split : host ≡ later ++ (packets ++ (was_set_up setup ∷ before))

not_cut : (host later packets : List HostCall) (setup : List ℕ) (before : List HostCall) → AreTaken packets → lost ∷ host ≡ later ++ (packets ++ (was_set_up setup ∷ before)) → Earlier host packets setup before
not_cut host [] [] setup before t e = cc
not_cut host [] (got_packet bytes memory ∷ packets) setup before t e = cc
not_cut host [] (was_set_up bytes ∷ packets) setup before t e = absurd t
not_cut host [] (lost ∷ packets) setup before t e = absurd t
not_cut host (call ∷ later) packets setup before t e = (let rest : host ≡ later ++ (packets ++ (was_set_up setup ∷ before)) = cc in record { later = later; split = rest })

pub kept_over_cut : (host : List HostCall) → KeptIfFetched host → KeptIfFetched (lost ∷ host)
unfolding kept IsSplit
kept_over_cut host h = (λ e. one_later [] host lost (h.0 e), λ f. h.1 (earlier f))
  where
    earlier : IsFetched [] (lost ∷ host) → IsFetched [] host
    earlier f =
        let s = not_cut host f.later f.packets f.setup (f.before ++ []) f.taken f.split in
        fetched_ever host s.later f.packets f.setup (f.before ++ []) (whole_of f) s.split

pub where_fetched : (host : List HostCall) → NoneOrServed (kept host) → KeptIfFetched host → Where (IsFetched [] host) (kept host ≡ Some report_bytes) (kept host ≡ None)
where_fetched host (none_kept e) h = no (λ f. (let some = h.1 f in let clash : Some report_bytes ≡ None = sym some ∙ e in cc)) e
where_fetched host (served_kept e) h = yes (h.0 e) e

module _ (defaults : DefaultCodes) where
  pub kept_after : (start : List ℕ) (past : List Call) (reported host : List HostCall) → EachCall (IsAnswered defaults) start past → Hears reported past host → gathering reported ≡ None → NoneOrServed (kept reported)
      → IsCutOff reported → KeptIfFetched reported → KeptIfFetched host
  kept_after start past reported host a h none k c before = (forth, back)
    where
      o : Over reported host
      o = over reported past host h

      in_session : kept host ≡ Some report_bytes ↔ ((kept reported ≡ Some report_bytes) ⊎ IsFetched reported host)
      in_session = kept_is_fetched defaults start past reported host a h none k

      ever : (kept reported ≡ Some report_bytes) ⊎ IsFetched reported host → IsFetched [] host
      ever (inl e) = subst (λ (x : List HostCall). IsFetched [] x) (sym o.split) (all_later o.new reported (before.0 e))
      ever (inr f) = of_session reported host f

      forth : kept host ≡ Some report_bytes → IsFetched [] host
      forth e = ever (in_session.0 e)

      by_session : IsFetched [] reported ⊎ IsFetched reported host → (kept reported ≡ Some report_bytes) ⊎ IsFetched reported host
      by_session (inl f) = inl (before.1 f)
      by_session (inr f) = inr f

      back : IsFetched [] host → kept host ≡ Some report_bytes
      back f = in_session.1 (by_session (before_or_in reported host o c f))
