-- `count` is safe and ends: it goes over all lists, and check and session accept no more of them than it has tried.
use Rattle.std.proofs.Common.{◌≤◌}
use Rattle.vectors.proofs.counts.count.Given as goal

abbrev pub invariant-loop-number : goal.invariant-loop-number
invariant-loop-number g l =
    (l.by_check ≤ l.number) × (l.by_session ≤ l.number) × goal.M-IsAlwaysCallable g l.messages_of
