use Rattle.std.proofs.Common.{rules, ◌≡◌, ◌<◌, ◌≤◌, length, get_or, Contains, subst, ap, arith}
use Rattle.tt_proof.proofs.SharedLemmas.{shown_at, one_more_place}
use Rattle.tt_proof.proofs.board_set.BoardSet.has_same_as.Goals as goal

pub loop-k-preserved : goal.loop-k-preserved
loop-k-preserved c =
    let mine = c.self.inside.boards.items in
    let theirs = c.others.inside.boards.items in
    let k = c.loop-k.k in
    let other = c.index-other.result.now in
    let lt : k < length theirs = search rules in
    let is : other ≡ get_or theirs k other = search rules in
    let shown = shown_at theirs c.args.others.now k other c.others.view_is lt is in
    let same : get_or mine k other ≡ other = search rules in
    let within : k < length mine = search rules in
    let long = ap length c.self.view_is in
    one_more_place c.args.others.now (λ x. Contains c.args.self.now x) k other c.loop-k.invariant shown
    (k, omega (arith, within, long), subst (λ xs. get_or xs k other ≡ other) c.self.view_is same)

pub returns : goal.returns
returns c =
    let theirs = c.others.inside.boards.items in
    let all : length theirs ≤ c.loop-k.k = search rules in
    let long = ap length c.others.view_is in
    λ y b m. let lt = m.1 in subst (λ x. Contains c.args.self.now x) m.2 (c.loop-k.invariant m.0 b (omega (arith, lt, all, long)))
