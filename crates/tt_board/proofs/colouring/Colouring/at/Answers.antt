use Rattle.std.proofs.Common.{arith, refl}
use Rattle.tt_board.proofs.PlaneLemmas.{count_is, entry_is}
use Rattle.tt_board.proofs.colouring.Colouring.at.Goals as goal

pub has-requires : goal.has-requires
has-requires c = let i = c.self.inside in omega (arith, count_is i.count i.black.words i.white.words _ c.self.view_is, c.self.invariant.small)

pub has-requires-else-has : goal.has-requires-else-has
has-requires-else-has c = let i = c.self.inside in omega (arith, count_is i.count i.black.words i.white.words _ c.self.view_is, c.self.invariant.small)

pub returns-then-has : goal.returns-then-has
returns-then-has c = let i = c.self.inside in
    rw (entry_is i.count i.black.words i.white.words _ c.self.view_is c.args.p c.requires, ← c.has.ensures, c.if-has.true) refl

pub returns-then-has-2 : goal.returns-then-has-2
returns-then-has-2 c = let i = c.self.inside in
    rw (entry_is i.count i.black.words i.white.words _ c.self.view_is c.args.p c.requires, ← c.has.ensures, c.if-has.false, ← c.has-else-has.ensures, c.if-has-2.true) refl

pub returns-else-has-2 : goal.returns-else-has-2
returns-else-has-2 c = let i = c.self.inside in
    rw (entry_is i.count i.black.words i.white.words _ c.self.view_is c.args.p c.requires, ← c.has.ensures, c.if-has.false, ← c.has-else-has.ensures, c.if-has-2.false) refl
