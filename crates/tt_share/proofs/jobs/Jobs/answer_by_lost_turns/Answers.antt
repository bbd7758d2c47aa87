use Rattle.std.proofs.Common.{◌≤◌, arith, sym, subst}
use Rattle.tt_proof.specs.Strategy.{depth}
use Rattle.tt_share.proofs.Lost.{are_children, reply_is_low}
use Rattle.tt_share.proofs.jobs.Jobs.answer_by_lost_turns.Goals as goal

pub reply-requires-clause-children : goal.reply-requires-clause-children
reply-requires-clause-children c =
    let jobs = c.args.self.now in
    are_children jobs.line.now jobs.limits c.args.children.items (omega (arith, jobs.limits.depth_in)) c.requires.lost.each

pub answer_of_proof-requires-clause-shallow : goal.answer_of_proof-requires-clause-shallow
answer_of_proof-requires-clause-shallow c =
    let jobs = c.args.self.now in
    let low = reply_is_low jobs.line.now jobs.limits c.args.children.items c.requires.lost.each in
    subst (λ tree. depth tree ≤ jobs.limits.depth) (sym c.in_ok-proof.ensures.2) low
