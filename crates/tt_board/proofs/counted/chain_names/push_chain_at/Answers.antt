use Rattle.std.proofs.Common.{rules, ◌≡◌, ◌++◌, ◌∷◌, [], inl, inr, refl, Contains, sym, subst, ◌∙◌}
use Rattle.std.specs.Prelude.{MatchOption}
use Rattle.std.proofs.lemmas.List.Elements.{Contains-push, Contains-push_cases, Contains-append_left}
use Rattle.tt_board.specs.inside.Chains.{name_at}
use Rattle.tt_board.proofs.counted.chain_names.push_chain_at.Goals as goal

pub returns-then-is_not_yet_found-clause-added : goal.returns-then-is_not_yet_found-clause-added
returns-then-is_not_yet_found-clause-added c m =
    let ns = c.args.names.now in let xs = c.args.found.now.items in let e = name_at ns c.in-Some.q in
    let all : c.push.new.self.items ≡ xs ++ e ∷ [] = search rules in (
      λ has. elim (Contains-push_cases xs e m (subst (λ ys. Contains ys m) all has)) [
        | inl old ↦ inl old
        | inr is ↦ inr ((λ z. c.if-name-ne0.true (is ∙ z)), (λ z. c.if-name-but.true (is ∙ z)), (c.in-Some.q, c.in-Some.is, is))
      ],
      λ h. subst (λ ys. Contains ys m) (sym all) (elim h [
        | inl old ↦ Contains-append_left xs (e ∷ []) m old
        | inr n ↦
            let there : e ≡ name_at ns n.2.0 = subst (λ o. MatchOption o (e ≡ 0) (λ y. e ≡ name_at ns y)) (sym c.in-Some.is ∙ n.2.1) refl in
            subst (Contains (xs ++ e ∷ [])) (there ∙ n.2.2) (Contains-push xs e)
      ]),
    )
