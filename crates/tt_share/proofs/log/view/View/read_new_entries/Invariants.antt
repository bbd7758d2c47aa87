use Rattle.std.proofs.Common.{◌≡◌}
use Rattle.tt_share.specs.Log.{Extends}
use Rattle.tt_share.proofs.log.view.View.read_new_entries.Given as goal

abbrev pub invariant-loop-slot : goal.invariant-loop-slot
invariant-loop-slot l = (l.self.log ≡ l.fn.self.log) × (l.self.kept ≡ l.fn.self.kept) × Extends l.fn.self.tokens l.self.tokens
