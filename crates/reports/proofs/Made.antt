-- The bytes that were made last, where they stay and where they are made anew.
use Rattle.std.proofs.Common.{◌≡◌, ℕ, Bool, true, false, List, [], ◌∷◌, Option, Some, None, is_none, slice_get, drop, refl, sym, ◌∙◌, subst}
use Rattle.std.proofs.Math.Path.{fun_ext}
use Rattle.reports.specs.declared.Protocol.{Protocol}
use Rattle.reports.specs.declared.Protocol.TheVariants as protocol
use Rattle.reports.specs.declared.Input.{Input}
use Rattle.reports.specs.Calls.{PollerCall, polled}
use Rattle.reports.specs.representation.Kept.{Kept}
use Rattle.reports.specs.Queue.{queue}
use Rattle.reports.specs.representation.Relation.{RuleRefines, AreMade, IsMade, IsMadeFor, SameMade}
use Rattle.reports.specs.Wanted.{wanted}
use Rattle.reports.proofs.Waiting.{queue-poll}

are_same : (protocol : Protocol) (bytes : Input → List ℕ) (old new : Kept) → SameMade old new → AreMade protocol bytes old → AreMade protocol bytes new
are_same protocol.Boot bytes old new s a = s.boot ∙ a
are_same protocol.Report bytes old new s a = (s.one ∙ a.0, s.two ∙ a.1)

pub same_made : (bytes : Input → List ℕ) (old new : Kept) → SameMade old new → IsMade bytes old → IsMade bytes new
same_made bytes old new s m = record { are = subst (λ (p : Protocol). AreMade p bytes new) (sym s.made_for) (are_same old.made_for bytes old new s m.are) }

pub same_made_for : (protocol : Protocol) (bytes : Input → List ℕ) (old new : Kept) → SameMade old new → IsMadeFor protocol bytes old → IsMadeFor protocol bytes new
same_made_for protocol bytes old new s m = record { made_for = s.made_for ∙ m.made_for; are = are_same protocol bytes old new s m.are }

-- the protocol aside
pub is_made : (protocol : Protocol) (bytes : Input → List ℕ) (kept : Kept) → IsMadeFor protocol bytes kept → IsMade bytes kept
is_made protocol bytes kept m = record { are = subst (λ (p : Protocol). AreMade p bytes kept) (sym m.made_for) m.are }

pub is_made_for : (protocol : Protocol) (bytes : Input → List ℕ) (kept : Kept) → kept.made_for ≡ protocol → IsMade bytes kept → IsMadeFor protocol bytes kept
is_made_for protocol bytes kept e m = record { made_for = e; are = subst (λ (p : Protocol). AreMade p bytes kept) e m.are }

-- the bytes of sets without usages
pub made_none : (f g : ℕ → Bool) (kept : Kept) → ((usage : ℕ) → f usage ≡ false) → ((usage : ℕ) → g usage ≡ false) → IsMade (wanted f g) kept → IsMade (wanted (λ _. false) (λ _. false)) kept
made_none f g kept k c m =
    let F : f ≡ (λ (_ : ℕ). false) = fun_ext k in
    let G : g ≡ (λ (_ : ℕ). false) = fun_ext c in
    subst (λ (h : ℕ → Bool). IsMade (wanted (λ (_ : ℕ). false) h) kept) G (subst (λ (h : ℕ → Bool). IsMade (wanted h g) kept) F m)

-- what is kept but for the bytes that were made stays
pub record SameSent (old new : Kept) : Type 0 where
  pub boot_bytes : new.boot.bytes ≡ old.boot.bytes
  pub boot_age : new.boot.age ≡ old.boot.age
  pub one_bytes : new.one.bytes ≡ old.one.bytes
  pub one_age : new.one.age ≡ old.one.age
  pub two_bytes : new.two.bytes ≡ old.two.bytes
  pub two_age : new.two.age ≡ old.two.age
  pub sent_last : new.sent_last ≡ old.sent_last
  pub idle_one : new.idle_one ≡ old.idle_one
  pub idle_two : new.idle_two ≡ old.idle_two

pub rule-same : (past : List PollerCall) (old new : Kept) → SameSent old new → RuleRefines past old → RuleRefines past new
rule-same past old new s r = record {
  boot = record { bytes = s.boot_bytes ∙ r.boot.bytes; age = s.boot_age ∙ r.boot.age };
  one = record { bytes = s.one_bytes ∙ r.one.bytes; age = s.one_age ∙ r.one.age };
  two = record { bytes = s.two_bytes ∙ r.two.bytes; age = s.two_age ∙ r.two.age };
  sent_last = s.sent_last ∙ r.sent_last;
  idle_boot = s.idle_one ∙ r.idle_boot;
  idle_one = s.idle_one ∙ r.idle_one;
  idle_two = s.idle_two ∙ r.idle_two;
}

-- a queue without a first report
drop_none : (xs : List (List ℕ)) → is_none (slice_get xs 0) ≡ true → drop 1 xs ≡ xs
drop_none [] e = refl
drop_none (x ∷ xs) e = cc

pub queue-poll_none : (past : List PollerCall) (protocol : Protocol) (answer : Option (List ℕ)) → is_none (slice_get (queue past) 0) ≡ true → queue past ≡ queue (polled protocol answer ∷ past)
queue-poll_none past protocol answer e = sym (queue-poll past protocol answer ∙ drop_none (queue past) e)

pub get_none : (xs : List (List ℕ)) → is_none (slice_get xs 0) ≡ true → slice_get xs 0 ≡ None
get_none [] e = refl
get_none (x ∷ xs) e = cc

pub get_some : (xs : List (List ℕ)) → is_none (slice_get xs 0) ≡ false → (x : List ℕ) × (slice_get xs 0 ≡ Some x)
get_some [] e = cc
get_some (x ∷ xs) e = (x, refl)
