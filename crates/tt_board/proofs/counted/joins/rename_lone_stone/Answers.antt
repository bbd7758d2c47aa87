use Rattle.std.proofs.Common.{◌≡◌, ◌+◌, arith, sym, ap, ◌∙◌}
use Rattle.tt_board.specs.inside.Chains.{name_at, liberty_count}
use Rattle.tt_board.proofs.NameLemmas.{count_joined}
use Rattle.tt_board.proofs.JoinLemmas.{one_renamed, root_below, root_on_board}
use Rattle.tt_board.proofs.counted.joins.rename_lone_stone.Goals as goal

pub returns-clause-renamed : goal.returns-clause-renamed
returns-clause-renamed c =
    let ns = c.args.names.now in
    rw c.root_of-p.ensures.value (one_renamed ns c.args.from c.args.to c.requires.chain.living c.requires.other.1 (root_below ns c.args.from c.requires.chain.living c.requires.chain.rooted)
    c.requires.chain.rooted (sym c.requires.chain.count))

pub returns-clause-gained : goal.returns-clause-gained
returns-clause-gained c =
    let ns = c.args.names.now in let a = c.args.from in
    let at = root_on_board c.args.size ns a c.requires.chain.ends c.requires.chain.living c.requires.chain.rooted in
    let within = root_below ns a c.requires.chain.living c.requires.chain.rooted in
    let p = c.root_of-p.result in
    let is = c.root_of-p.ensures.value in
    let here : name_at ns p ≡ a = ap (name_at ns) is ∙ c.requires.chain.rooted in
    count_joined c.args.size ns p c.args.to (omega (arith, at, is)) (omega (arith, within, is))
    (λ e. c.requires.chain.living (sym here ∙ e)) c.requires.other.0 (λ e. c.requires.other.1 (sym here ∙ e))
    ∙ ap (λ x. liberty_count c.args.size ns c.args.to + x) (sym c.count_new_liberties-gained.ensures)
