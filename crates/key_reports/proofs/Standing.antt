-- What the keys stand for after one call more.
use Rattle.std.proofs.Common.{◌≡◌, ℕ, zero, suc, ◌<◌, ◌&&◌, not, Bool, false, Option, List, [], ◌∷◌, reverse, refl, sym, ap, subst, ◌∙◌}
use Rattle.std.proofs.Math.Path.{fun_ext}
use Rattle.debounce.specs.declared.Scan.{Scan}
use Rattle.debounce.specs.declared.debouncer.Edges.{Edges}
use Rattle.debounce.specs.Scans.{has, set_keys}
use Rattle.debounce.specs.Samples.{down, same}
use Rattle.debounce.specs.representation.Kept as debounce_kept
use Rattle.debounce.specs.representation.Relation as debounce
use Rattle.debounce.proofs.Fed.{was_down, is_down_now}
use Rattle.layers.specs.Codes.{keys}
use Rattle.layers.specs.Held.{HeldCall, any_below, code}
use Rattle.layers.specs.representation.HeldRelation.{HeldValue, HeldRefines}
use Rattle.layers.specs.Usages.{UsageSets, has_key, has_consumer, key_usages, consumer_usages}
use Rattle.reports.specs.declared.Protocol.{Protocol}
use Rattle.reports.specs.declared.Input.{Input}
use Rattle.reports.specs.declared.Input.TheVariants.{Boot, One, Two}
use Rattle.reports.specs.Calls.{PollerCall, ticked}
use Rattle.reports.specs.representation.Kept as reports_kept
use Rattle.reports.specs.representation.Relation as reports
use Rattle.reports.specs.Wanted.{wanted, boot_bytes, bitmap_bytes, consumer_bytes}
use Rattle.reports.specs.Poll.{poll_answer}
use Rattle.key_reports.specs.Calls.{KeyCall, Scanned, Asked}
use Rattle.key_reports.specs.Past.{scans_of, held_calls, poller_calls, those_below, presses, releases, keys_after, consumer_after, wanted_after, answer_after}
use Rattle.key_reports.specs.representation.Edges.{with_releases, with_presses, with_edges, Takes}
use Rattle.key_reports.specs.representation.Value.{KeysValue}
use Rattle.key_reports.specs.representation.Relation.{Refines, IsFed}
use Rattle.key_reports.proofs.Those.{those_below-same, those_below-none, those-keys}

-- the wanted bytes by sets that are those of the held keys
wanted-is : (past : List KeyCall) (f g : ℕ → Bool) → ((usage : ℕ) → f usage ≡ keys_after past usage) → ((usage : ℕ) → g usage ≡ consumer_after past usage) → wanted f g ≡ wanted_after past
wanted-is past f g k c =
    let F : f ≡ keys_after past = fun_ext k in
    let G : g ≡ consumer_after past = fun_ext c in
    ap (λ (h : ℕ → Bool). wanted h g) F ∙ ap (λ (h : ℕ → Bool). wanted (keys_after past) h) G

-- no key is held, and no usage is named
nothing-has : (n : ℕ) → any_below (λ _. false) n ≡ false
unfolding any_below
nothing-has zero = refl
nothing-has (suc n) = nothing-has n

keys-none : (usage : ℕ) → keys_after [] usage ≡ false
unfolding keys_after held_calls code
keys-none usage = nothing-has 96

consumer-none : (usage : ℕ) → consumer_after [] usage ≡ false
unfolding consumer_after held_calls code
consumer-none usage = nothing-has 96

wanted-none : (f g : ℕ → Bool) → ((usage : ℕ) → f usage ≡ false) → ((usage : ℕ) → g usage ≡ false) → wanted f g ≡ wanted_after []
wanted-none f g k c = wanted-is [] f g (λ u. k u ∙ sym (keys-none u)) (λ u. c u ∙ sym (consumer-none u))

pub made_none : (f g : ℕ → Bool) (poller : reports_kept.Kept) → ((usage : ℕ) → f usage ≡ false) → ((usage : ℕ) → g usage ≡ false) → reports.IsMade (wanted f g) poller → reports.IsMade (wanted_after []) poller
made_none f g poller k c m = subst (λ (w : Input → List ℕ). reports.IsMade w poller) (wanted-none f g k c) m

pub refines_new : (value : KeysValue) → debounce.Refines [] value.debouncer → HeldRefines [] value.held → reports.Refines [] value.poller → reports.IsMade (wanted_after []) value.poller → Refines [] value
unfolding scans_of held_calls poller_calls
refines_new value d h p m = record { debouncer = d; held = h; poller = p; made = m }

-- a call of the poller alone
pub refines-asked : (past : List KeyCall) (call : PollerCall) (value : KeysValue) (poller : reports_kept.Kept) → Refines past value
    → ((calls : List PollerCall) → reports.Refines calls value.poller → reports.Refines (call ∷ calls) poller)
    → reports.IsMade (wanted_after past) poller
    → Refines (Asked call ∷ past) (record { debouncer = value.debouncer; held = value.held; poller = poller })
unfolding scans_of held_calls poller_calls keys_after consumer_after
refines-asked past call value poller s p m = record { debouncer = s.debouncer; held = s.held; poller = p (poller_calls past) s.poller; made = m }

pub keys-held : (past : List KeyCall) (held : HeldValue) (f : ℕ → Bool) → HeldRefines (held_calls past) held
    → ((calls : List HeldCall) (usage : ℕ) → HeldRefines calls held → f usage ≡ key_usages calls usage) → (usage : ℕ) → f usage ≡ keys_after past usage
unfolding keys_after
keys-held past held f s e usage = e (held_calls past) usage s

pub consumer-held : (past : List KeyCall) (held : HeldValue) (g : ℕ → Bool) → HeldRefines (held_calls past) held
    → ((calls : List HeldCall) (usage : ℕ) → HeldRefines calls held → g usage ≡ consumer_usages calls usage) → (usage : ℕ) → g usage ≡ consumer_after past usage
unfolding consumer_after
consumer-held past held g s e usage = e (held_calls past) usage s

-- what is told of sets that are read off the held keys
pub record AreUsages (held : HeldValue) (f g : ℕ → Bool) : Type 0 where
  pub keys : (calls : List HeldCall) (usage : ℕ) → HeldRefines calls held → f usage ≡ key_usages calls usage
  pub consumer : (calls : List HeldCall) (usage : ℕ) → HeldRefines calls held → g usage ≡ consumer_usages calls usage

pub wanted-held : (past : List KeyCall) (held : HeldValue) (f g : ℕ → Bool) → HeldRefines (held_calls past) held → AreUsages held f g → wanted f g ≡ wanted_after past
wanted-held past held f g s u = wanted-is past f g (keys-held past held f s u.keys) (consumer-held past held g s u.consumer)

-- the bytes that were made for no key that is held
pub made_cleared : (held : HeldValue) (f g : ℕ → Bool) (poller : reports_kept.Kept) → HeldRefines [] held → AreUsages held f g → reports.IsMade (wanted f g) poller → reports.IsMade (wanted_after []) poller
unfolding held_calls
made_cleared held f g poller s u m = subst (λ (w : Input → List ℕ). reports.IsMade w poller) (wanted-held [] held f g s u) m

-- the edges of the keys that a scan changed
pub record AreEdges (scan : Scan) (scans : List Scan) (edges : Edges) : Type 0 where
  pub released_is : (key : ℕ) → key < 96 → has edges.released key ≡ (down scans key && not (down (scan ∷ scans) key))
  pub pressed_is : (key : ℕ) → key < 96 → has edges.pressed key ≡ (down (scan ∷ scans) key && not (down scans key))

pub edges_of : (scan flips : Scan) (scans : List Scan) (edges : Edges) → ((key : ℕ) → key < 96 → has flips key ≡ not (same (down scans key) (down (scan ∷ scans) key)))
    → ((key : ℕ) → key < 96 → has edges.released key ≡ (has flips key && not (down (scan ∷ scans) key)))
    → ((key : ℕ) → key < 96 → has edges.pressed key ≡ (has flips key && down (scan ∷ scans) key)) → AreEdges scan scans edges
edges_of scan flips scans edges f r p = record {
  released_is = λ key l. r key l ∙ was_down (down scans key) (down (scan ∷ scans) key) (has flips key) (f key l);
  pressed_is = λ key l. p key l ∙ is_down_now (down scans key) (down (scan ∷ scans) key) (has flips key) (f key l);
}

held-scanned : (past : List KeyCall) (scan : Scan) (keymap : List ℕ) (protocol : Protocol) (old new : HeldValue) (edges : Edges)
    → AreEdges scan (scans_of past) edges → Takes (with_edges keymap edges) old new → HeldRefines (held_calls past) old → HeldRefines (held_calls (Scanned scan keymap protocol ∷ past)) new
unfolding held_calls with_releases with_presses with_edges
held-scanned past scan keymap protocol old new edges c t s =
    let was = scans_of past in
    let rs : reverse (set_keys edges.released) ≡ those_below (releases scan was) keys =
    those-keys edges.released ∙ those_below-same (has edges.released) (releases scan was) keys c.released_is in
    let ps : reverse (set_keys edges.pressed) ≡ those_below (presses scan was) keys =
    those-keys edges.pressed ∙ those_below-same (has edges.pressed) (presses scan was) keys c.pressed_is in
    rw (← rs, ← ps) (t.each (held_calls past) s)

-- the keys and the tick, from the bytes that were made to those of the keys now
pub record TakesOn (scan : Scan) (keymap : List ℕ) (protocol : Protocol) (past : List KeyCall) (old new : KeysValue) (edges : Edges) (fn gn : ℕ → Bool) : Type 0 where
  pub debouncer : new.debouncer ≡ old.debouncer
  pub takes : Takes (with_edges keymap edges) old.held new.held
  pub now : AreUsages new.held fn gn
  pub ticks : HeldRefines (held_calls past) old.held → reports.IsMade (wanted_after past) old.poller
      → reports.Refines (poller_calls past) old.poller → reports.Refines (ticked protocol (wanted_after past) (wanted fn gn) ∷ poller_calls past) new.poller
  pub made : HeldRefines (held_calls past) old.held → reports.IsMade (wanted_after past) old.poller → reports.IsMade (wanted fn gn) new.poller

pub refines-scanned : (past : List KeyCall) (scan flips : Scan) (keymap : List ℕ) (protocol : Protocol) (old new : KeysValue) (edges : Edges) (fn gn : ℕ → Bool)
    → AreEdges scan (scans_of past) edges → TakesOn scan keymap protocol past old new edges fn gn → IsFed scan flips past old → Refines (Scanned scan keymap protocol ∷ past) new
unfolding scans_of poller_calls
refines-scanned past scan flips keymap protocol old new edges fn gn c t s =
    let h = held-scanned past scan keymap protocol old.held new.held edges c t.takes s.held in
    let wn : wanted fn gn ≡ wanted_after (Scanned scan keymap protocol ∷ past) = wanted-held (Scanned scan keymap protocol ∷ past) new.held fn gn h t.now in
    record {
      debouncer = subst (λ (kept : debounce_kept.Kept). debounce.Refines (scan ∷ scans_of past) kept) (sym t.debouncer) s.debouncer;
      held = h;
      poller = subst (λ (w : Input → List ℕ). reports.Refines (ticked protocol (wanted_after past) w ∷ poller_calls past) new.poller) wn (t.ticks s.held s.made s.poller);
      made = subst (λ (w : Input → List ℕ). reports.IsMade w new.poller) wn (t.made s.held s.made);
    }

-- a scan without edges
pub record Passes (scan flips : Scan) (old new : KeysValue) : Type 0 where
  pub fed : (scans : List Scan) → debounce.Refines scans old.debouncer → debounce.Refines (scan ∷ scans) new.debouncer
  pub flips_are : (scans : List Scan) → debounce.Refines scans old.debouncer → (key : ℕ) → key < 96 → has flips key ≡ not (same (down scans key) (down (scan ∷ scans) key))
  pub none : (key : ℕ) → key < 96 → has flips key ≡ false
  pub held : new.held ≡ old.held
  pub ticks : (calls : List PollerCall) (protocol : Protocol) (bytes : Input → List ℕ) → reports.Refines calls old.poller → reports.Refines (ticked protocol bytes bytes ∷ calls) new.poller
  pub made : (bytes : Input → List ℕ) → reports.IsMade bytes old.poller → reports.IsMade bytes new.poller

no_release : (was is f : Bool) → f ≡ not (same was is) → f ≡ false → (was && not is) ≡ false
no_release was is f e n = sym (was_down was is f e) ∙ rw n refl

no_press : (was is f : Bool) → f ≡ not (same was is) → f ≡ false → (is && not was) ≡ false
no_press was is f e n = sym (is_down_now was is f e) ∙ rw n refl

-- the held keys take no calls
calls-passed : (past : List KeyCall) (scan flips : Scan) (keymap : List ℕ) (protocol : Protocol) (old new : KeysValue)
    → Passes scan flips old new → Refines past old → held_calls (Scanned scan keymap protocol ∷ past) ≡ held_calls past
unfolding held_calls
calls-passed past scan flips keymap protocol old new p s =
    let was = scans_of past in
    let rs : those_below (releases scan was) keys ≡ [] = those_below-none (releases scan was) keys (λ key l. no_release (down was key) (down (scan ∷ was) key) (has flips key) (p.flips_are was s.debouncer key l) (p.none key l)) in
    let ps : those_below (presses scan was) keys ≡ [] = those_below-none (presses scan was) keys (λ key l. no_press (down was key) (down (scan ∷ was) key) (has flips key) (p.flips_are was s.debouncer key l) (p.none key l)) in
    rw (rs, ps) refl

wanted-passed : (past now : List KeyCall) → held_calls now ≡ held_calls past → wanted_after past ≡ wanted_after now
unfolding keys_after consumer_after
wanted-passed past now e = ap (λ (calls : List HeldCall). wanted (key_usages calls) (consumer_usages calls)) (sym e)

pub refines-passed : (past : List KeyCall) (scan flips : Scan) (keymap : List ℕ) (protocol : Protocol) (old new : KeysValue)
    → Passes scan flips old new → Refines past old → Refines (Scanned scan keymap protocol ∷ past) new
unfolding scans_of poller_calls
refines-passed past scan flips keymap protocol old new p s =
    let calls_same = calls-passed past scan flips keymap protocol old new p s in
    let wn : wanted_after past ≡ wanted_after (Scanned scan keymap protocol ∷ past) = wanted-passed past (Scanned scan keymap protocol ∷ past) calls_same in
    record {
      debouncer = p.fed (scans_of past) s.debouncer;
      held = subst (λ (calls : List HeldCall). HeldRefines calls new.held) (sym calls_same) (subst (λ (held : HeldValue). HeldRefines (held_calls past) held) (sym p.held) s.held);
      poller = subst (λ (w : Input → List ℕ). reports.Refines (ticked protocol (wanted_after past) w ∷ poller_calls past) new.poller) wn (p.ticks (poller_calls past) protocol (wanted_after past) s.poller);
      made = subst (λ (w : Input → List ℕ). reports.IsMade w new.poller) wn (p.made (wanted_after past) s.made);
    }

-- the answer of a poll
pub answer_is : (past : List KeyCall) (protocol : Protocol) (answer : Option (List ℕ)) → answer ≡ poll_answer protocol (wanted_after past) (poller_calls past) → answer ≡ answer_after protocol past
unfolding answer_after
answer_is past protocol answer e = e

-- the bytes of the protocol's reports, made for the held keys
pub made_for_held : (past : List KeyCall) (protocol : Protocol) (held : HeldValue) (f g : ℕ → Bool) (poller : reports_kept.Kept) → HeldRefines (held_calls past) held → AreUsages held f g
    → reports.IsMadeFor protocol (wanted f g) poller → reports.IsMadeFor protocol (wanted_after past) poller
made_for_held past protocol held f g poller s u m = subst (λ (w : Input → List ℕ). reports.IsMadeFor protocol w poller) (wanted-held past held f g s u) m

-- the bytes of each report by the usages
pub boot_after : (past : List KeyCall) (usages : UsageSets) → ((usage : ℕ) → has_key usages usage ≡ keys_after past usage) → boot_bytes (has_key usages) ≡ wanted_after past Boot
boot_after past usages k = ap boot_bytes (fun_ext k)

pub bitmap_after : (past : List KeyCall) (usages : UsageSets) → ((usage : ℕ) → has_key usages usage ≡ keys_after past usage) → bitmap_bytes (has_key usages) ≡ wanted_after past One
bitmap_after past usages k = ap bitmap_bytes (fun_ext k)

pub consumer_bytes_after : (past : List KeyCall) (usages : UsageSets) → ((usage : ℕ) → has_consumer usages usage ≡ consumer_after past usage) → consumer_bytes (has_consumer usages) ≡ wanted_after past Two
consumer_bytes_after past usages k = ap consumer_bytes (fun_ext k)

-- the keys where the debouncer has had one scan more
pub fed-refines : (past : List KeyCall) (scan flips : Scan) (value : KeysValue) (debouncer : debounce_kept.Kept)
    → ((scans : List Scan) → debounce.Refines scans value.debouncer → debounce.Refines (scan ∷ scans) debouncer)
    → ((scans : List Scan) → debounce.Refines scans value.debouncer → (key : ℕ) → key < 96 → has flips key ≡ not (same (down scans key) (down (scan ∷ scans) key)))
    → Refines past value → IsFed scan flips past (record { debouncer = debouncer; held = value.held; poller = value.poller })
fed-refines past scan flips value debouncer fed is s = record {
  debouncer = fed (scans_of past) s.debouncer;
  flips_are = is (scans_of past) s.debouncer;
  held = s.held;
  poller = s.poller;
  made = s.made;
}
