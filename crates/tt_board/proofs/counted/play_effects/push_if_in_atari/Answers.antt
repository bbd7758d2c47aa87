use Rattle.std.proofs.Common.{rules, ◌≡◌, ◌++◌, ◌∷◌, ◌/◌, [], inl, inr, Contains, sym, subst}
use Rattle.std.proofs.lemmas.List.Elements.{Contains-push, Contains-push_cases, Contains-append_left}
use Rattle.tt_board.specs.inside.Chains.{name_at, root_of}
use Rattle.tt_board.proofs.counted.play_effects.push_if_in_atari.Goals as goal

pub returns-then-is_not_yet_found-clause-added : goal.returns-then-is_not_yet_found-clause-added
returns-then-is_not_yet_found-clause-added c m =
    let xs = c.args.found.now.items in let e = c.args.name in
    let all : c.push.new.self.items ≡ xs ++ e ∷ [] = search rules in (
      λ has. elim (Contains-push_cases xs e m (subst (λ ys. Contains ys m) all has)) [
        | inl old ↦ inl old
        | inr is ↦
            let now = subst (λ x. (x / 512 ≡ c.args.code) × (name_at c.args.liberties.now (root_of x) ≡ 1)) is (c.is_in_atari.ensures.0 c.if-is_in_atari.true) in
            inr (is, now.0, now.1)
      ],
      λ h. subst (λ ys. Contains ys m) (sym all) (elim h [
        | inl old ↦ Contains-append_left xs (e ∷ []) m old
        | inr n ↦ subst (Contains (xs ++ e ∷ [])) n.0 (Contains-push xs e)
      ]),
    )
