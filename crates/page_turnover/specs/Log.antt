-- Trusted: whether a log has room for a record.
use Rattle.std.specs.Prelude.{◌≡◌, IsSomeAnd, ◌≤◌}
use Rattle.page_turnover.specs.Value.{LogValue}

-- the active page that a log holds is of format 2, and its tail is a slot
abbrev pub HasTailRoom : LogValue → Type 0
HasTailRoom log = IsSomeAnd log.active (λ a. (a.format ≡ 2) × (a.tail ≤ 511))
