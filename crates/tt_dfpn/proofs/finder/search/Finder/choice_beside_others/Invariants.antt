use Rattle.std.proofs.Common.{◌<◌, length, IfSome}
use Rattle.tt_dfpn.proofs.finder.search.Finder.choice_beside_others.Given as goal

abbrev pub invariant-loop-k : goal.invariant-loop-k
invariant-loop-k l = IfSome l.best (λ k. k < length l.list)
