use Rattle.reports.proofs.LatestPoll.{last-sent, last-forgot, last-never}
use Rattle.reports.proofs.theorems.last_sent_is_of_the_latest_poll.Goals as goal

pub returns : goal.returns
returns c = record { sent = last-sent; forgot = last-forgot; never = last-never }
