-- Trusted: when a compaction is refused.
use Rattle.std.specs.Prelude.{◌≡◌, ◌-◌, ◌^◌, None, IsSome, IsSomeAnd, MatchOption, ⊤}
use Rattle.page_turnover.specs.declared.log.turning.TurnRefusal.{TurnRefusal}
use Rattle.page_turnover.specs.declared.log.turning.TurnRefusal.TheVariants.{Unsound, Worn}
use Rattle.page_turnover.specs.Value.{LogValue}

-- all slots 0 are sound, and the active page has not the greatest sequence number
pub record MayTurn (log : LogValue) : Type 0 where
  pub usable : log.unsound ≡ None
  pub numbered : MatchOption log.active ⊤ (λ a. a.seq ≡ 2 ^ 28 - 1 → ⊥)

-- when a compaction is refused, and why
abbrev pub Refuses : LogValue → TurnRefusal → Type 0
Refuses log Unsound = IsSome log.unsound
Refuses log Worn = (log.unsound ≡ None) × IsSomeAnd log.active (λ a. a.seq ≡ 2 ^ 28 - 1)
