-- What is kept was kept before, or came in a fetch.
use Rattle.std.proofs.Common.{◌≡◌, ◌⊎◌, ◌↔◌, ℕ, true, List, [], Option, Some, None, is_some, refl, sym, ap, subst, inl, inr}
use Rattle.descriptor_build.specs.Served.{report_bytes}
use Rattle.host.specs.Calls.{HostCall}
use Rattle.host.specs.Kept.{gathering, kept}
use Rattle.layers.specs.Codes.{DefaultCodes}
use Rattle.keyboard.specs.Calls.{Call, EachCall}
use Rattle.keyboard.specs.Endpoint.{ep_calls}
use Rattle.keyboard.specs.Conforming.{IsAnswered}
use Rattle.world.specs.Heard.{Hears, NoneOrServed}
use Rattle.world.specs.Fetched.{IsFetched}
use Rattle.world.proofs.Gathering.{NoneOr}
use Rattle.world.proofs.Fetching.{Fetches, fetches, fetches_start, as_sum, served_size}
use Rattle.world.proofs.Completing.{stays_kept, fetched_keeps}

some_served : (o : Option (List ℕ)) → NoneOr report_bytes o → is_some o ≡ true → o ≡ Some report_bytes
some_served o (inl none) e = (let f = ap is_some none in cc)
some_served o (inr some) e = some

from_served : (o : Option (List ℕ)) → o ≡ Some report_bytes → is_some o ≡ true
from_served o e = rw e refl

module _ (defaults : DefaultCodes) where
  pub kept_is_fetched : (start : List ℕ) (past : List Call) (reported host : List HostCall) → EachCall (IsAnswered defaults) start past → Hears reported past host → gathering reported ≡ None → NoneOrServed (kept reported)
      → kept host ≡ Some report_bytes ↔ ((kept reported ≡ Some report_bytes) ⊎ IsFetched reported host)
  kept_is_fetched start past reported host a h none k = (forth, back)
    where
      first : Fetches reported [] reported
      first = fetches_start reported none k

      after : Fetches reported (ep_calls defaults start past) host
      after = fetches defaults start reported past host served_size h a first

      forth_by : (is_some (kept reported) ≡ true) ⊎ IsFetched reported host → (kept reported ≡ Some report_bytes) ⊎ IsFetched reported host
      forth_by (inl e) = inl (some_served (kept reported) (as_sum (kept reported) k) e)
      forth_by (inr f) = inr f

      forth : kept host ≡ Some report_bytes → (kept reported ≡ Some report_bytes) ⊎ IsFetched reported host
      forth e = forth_by (after.traces.fetched (from_served (kept host) e))

      still : is_some (kept reported) ≡ true → is_some (kept host) ≡ true
      still e = subst (λ (x : List HostCall). is_some (kept x) ≡ true) (sym after.traces.follows) (stays_kept after.traces.more reported e)

      back : (kept reported ≡ Some report_bytes) ⊎ IsFetched reported host → kept host ≡ Some report_bytes
      back (inl e) = some_served (kept host) after.keeps (still (from_served (kept reported) e))
      back (inr f) = some_served (kept host) after.keeps (fetched_keeps defaults start reported host past first h a f)
