use Rattle.std.proofs.Common.{◌≡◌, ℕ, zero, suc, ◌<◌, ◌∙◌, List, [], ◌∷◌, length, get_or, inl, inr, sym, ap, arith, rules}
use Rattle.tt_game.specs.declared.turns.Turn.{Turn}
use Rattle.tt_proof.specs.declared.tree.Tree.{Tree}
use Rattle.tt_proof.specs.Strategy.{entries_of_reply}
use Rattle.tt_proof.specs.inside.Replaying.{HasEntry}
use Rattle.tt_proof.proofs.replays.has_turn_at.Goals as goal

-- the turn at an index of the list has an entry
has_at : (list : List (Turn × Tree)) (index : ℕ) (e : Turn × Tree) (t : Turn) → index < length list →
    e ≡ get_or list index e → e.0 ≡ t → HasEntry (entries_of_reply list) t
has_at [] index e t lt is same = absurd (omega arith)
has_at (x ∷ xs) zero e t lt is same = inl (sym (ap (λ y. y.0) is) ∙ same)
has_at (x ∷ xs) (suc index) e t lt is same = inr (has_at xs index e t (omega arith) is same)

pub returns-in-Some-clause-entry : goal.returns-in-Some-clause-entry
returns-in-Some-clause-entry c = λ here.
    let same : c.in-Some.entry.now.0 ≡ c.args.turn = search rules in
    let within : c.args.index < length c.args.list.now = search rules in
    let stands : c.in-Some.entry.now ≡ get_or c.args.list.now c.args.index c.in-Some.entry.now = search rules in
    has_at c.args.list.now c.args.index c.in-Some.entry.now c.args.turn within stands same
