-- A confirmed command is settled, and a restart keeps each settled one.
use Rattle.std.proofs.Common.{◌≡◌, ℕ, List, [], ◌∷◌, ◌++◌, refl, ap, sym, ◌∙◌, append_assoc, subst}
use Rattle.std.proofs.lemmas.List.{append-nil}
use Rattle.layers.specs.Codes.{DefaultCodes}
use Rattle.layers.specs.declared.command.Command.{Command}
use Rattle.keyboard.specs.Calls.{Call, image_after, keymap, EachCall}
use Rattle.keyboard.specs.Fate.{Fate, works, settled, failed, fate, ended_by}
use Rattle.keyboard.specs.Commands.{Accepted, accepted, accepted_before, accepted_with, accepts, if_settled, settled_of, standing_of}
use Rattle.keyboard.specs.Conforming.{IsAnswered}
use Rattle.keyboard.specs.Acknowledged.{confirmation, IsConfirmed, SettledAfter, IsSettled}
use Rattle.keyboard.specs.Restart.{RestartsLegally}
use Rattle.keyboard.proofs.Accepting.{ended_by-settled, fate-more}
use Rattle.keyboard.proofs.Restarting.{standing_of-append}
use Rattle.keyboard.proofs.Telling.{EachCall-later, settled_here}

-- the commands that calls accepted stand first, before those that later calls accepted
record Begins (firsts all : List Accepted) : Type 0 where
  later : List Accepted
  is : all ≡ firsts ++ later

-- a settled command is none of those that a restart loses
if_settled-none : (f : Fate) (command : Command) (later : List Command) → f ≡ settled → if_settled f command later ≡ [] → ⊥
if_settled-none works command later e n = cc
if_settled-none settled command later e n = cc
if_settled-none failed command later e n = cc

none_later : (f : Fate) (command : Command) (later : List Command) → if_settled f command later ≡ [] → later ≡ []
none_later works command later n = n
none_later settled command later n = cc
none_later failed command later n = n

settled_among : (firsts later : List Accepted) (one : Accepted) → one.fate ≡ settled → settled_of (firsts ++ one ∷ later) ≡ [] → ⊥
settled_among [] later one e n = if_settled-none one.fate one.command (settled_of later) e n
settled_among (first ∷ firsts) later one e n = settled_among firsts later one e (none_later first.fate first.command (settled_of (firsts ++ one ∷ later)) n)

head_same : (a b : Accepted) (xs ys : List Accepted) → a ∷ xs ≡ b ∷ ys → (a ≡ b) × (xs ≡ ys)
head_same a b xs ys e = (cc, cc)

kept_at : (kept lost earlier later : List Accepted) (command : Command) → kept ++ lost ≡ earlier ++ record { command = command; fate = settled } ∷ later → settled_of lost ≡ [] → SettledAfter earlier command kept
kept_at [] lost earlier later command e n =
    absurd (settled_among earlier later (record { command = command; fate = settled }) refl (ap settled_of (sym e) ∙ n))
kept_at (one ∷ kept) lost [] later command e n = (let s = head_same one (record { command = command; fate = settled }) (kept ++ lost) later e in record { later = kept; all_are = ap (λ (x : Accepted). x ∷ kept) s.0 })
kept_at (one ∷ kept) lost (first ∷ earlier) later command e n =
    let s = head_same one first (kept ++ lost) (earlier ++ record { command = command; fate = settled } ∷ later) e in
    let k : SettledAfter earlier command kept = kept_at kept lost earlier later command s.1 n in
    record { later = k.later; all_are = ap (λ (x : Accepted). x ∷ kept) s.0 ∙ ap (λ (xs : List Accepted). first ∷ xs) k.all_are }

module _ (defaults : DefaultCodes) where
  -- what is settled stays so
  fate-settled : (entries : ℕ → ℕ → ℕ) (command : Command) (after earlier : List Call) → fate defaults entries command earlier ≡ settled → fate defaults entries command (after ++ earlier) ≡ settled
  fate-settled entries command [] earlier e = e
  fate-settled entries command (call ∷ after) earlier e =
      fate-more defaults entries command call (after ++ earlier) ∙ ap (ended_by defaults call) (fate-settled entries command after earlier e) ∙ ended_by-settled defaults call

  begins : (start : List ℕ) (after later past : List Call) → Begins (accepted_before defaults start (after ++ later) past) (accepted_before defaults start after (later ++ past))
  begins start after [] past = record { later = []; is = ap (λ (xs : List Call). accepted_before defaults start xs past) (sym (append-nil after)) ∙ sym (append-nil (accepted_before defaults start (after ++ []) past)) }
  begins start after (call ∷ later) past =
      let b : Begins (accepted_before defaults start ((after ++ call ∷ []) ++ later) past) (accepted_before defaults start (after ++ call ∷ []) (later ++ past)) = begins start (after ++ call ∷ []) later past in
      let here : List Accepted = accepted_with defaults (keymap defaults (image_after start (later ++ past))) after (accepts (later ++ past) call) in
      let same : (after ++ call ∷ []) ++ later ≡ after ++ call ∷ later = append_assoc after (call ∷ []) later in
      let firsts : List Call → List Accepted = λ xs. accepted_before defaults start xs past in
      record {
        later = b.later ++ here;
        is = ap (λ (xs : List Accepted). xs ++ here) (b.is ∙ ap (λ (xs : List Accepted). xs ++ b.later) (ap firsts same)) ∙ append_assoc (firsts (after ++ call ∷ later)) b.later here;
      }

  pub confirmed : (start : List ℕ) (past before : List Call) (command : Command) → EachCall (IsAnswered defaults) start past → IsConfirmed past before command → IsSettled defaults start past before command
  unfolding accepted
  confirmed start past before command h c =
      let rest : List Call = c.between ++ c.packet ∷ before in
      let all : EachCall (IsAnswered defaults) start (c.after ++ confirmation ∷ rest) = subst (λ (xs : List Call). EachCall (IsAnswered defaults) start xs) (c.past_is ∙ append_assoc c.after (confirmation ∷ c.between) (c.packet ∷ before)) h in
      let here : EachCall (IsAnswered defaults) start (confirmation ∷ rest) = EachCall-later (IsAnswered defaults) start c.after (confirmation ∷ rest) all in
      let entries : ℕ → ℕ → ℕ = keymap defaults (image_after start before) in
      let since : List Call = c.after ++ confirmation ∷ c.between in
      let done : fate defaults entries command since ≡ settled = fate-settled entries command c.after (confirmation ∷ c.between)
      (fate-settled entries command (confirmation ∷ []) c.between (settled_here defaults start c.between before c.packet command c.same_transfer c.accepted here.1 here.0)) in
      let parts : past ≡ since ++ c.packet ∷ before = c.past_is in
      let b : Begins (accepted_before defaults start since (c.packet ∷ before)) (accepted_before defaults start [] (since ++ c.packet ∷ before)) = begins start [] since (c.packet ∷ before) in
      let earlier : List Accepted = accepted_before defaults start (since ++ c.packet ∷ []) before in
      let one : Accepted = record { command = command; fate = settled } in
      let brought : accepted_with defaults entries since (accepts before c.packet) ≡ one ∷ [] = rw (c.accepted, done) refl in
      record {
        since = since ++ c.packet ∷ [];
        past_is = parts ∙ sym (append_assoc since (c.packet ∷ []) before);
        settled_at = record {
          later = b.later;
          all_are = ap (accepted_before defaults start []) parts ∙ b.is ∙ ap (λ (xs : List Accepted). (earlier ++ xs) ++ b.later) brought ∙ append_assoc earlier (one ∷ []) b.later;
        };
      }

  pub kept_settled : (start : List ℕ) (past before : List Call) (command : Command) (image : List ℕ) (settled : IsSettled defaults start past before command) (restart : RestartsLegally defaults start past image)
      → SettledAfter (standing_of (accepted_before defaults start settled.since before)) command restart.kept
  kept_settled start past before command image s r =
      let earlier : List Accepted = accepted_before defaults start s.since before in
      let one : Accepted = record { command = command; fate = settled } in
      let standing : standing_of (accepted defaults start past) ≡ standing_of earlier ++ one ∷ standing_of s.settled_at.later =
      ap standing_of s.settled_at.all_are ∙ standing_of-append earlier (one ∷ s.settled_at.later) in
      kept_at r.kept r.lost (standing_of earlier) (standing_of s.settled_at.later) command (r.prefix ∙ standing) r.holds_settled
