-- The plays of a node of which no turn has been tried.
use Rattle.std.proofs.Common.{◌≡◌, Option, Some, None, ℕ, zero, suc, ◌%◌, ◌<◌, ◌≤◌, inl, inr, Bool, true, false, if◌then◌else◌, List, [], ◌∷◌, ◌++◌, length, refl, sym, ◌∙◌, ap, subst, arith}
use Rattle.std.specs.Option.{is_some}
use Rattle.std.proofs.lemmas.Bool.{cases_lt, lt-ltb, true≢false}
use Rattle.tt_game.specs.declared.frame.Side.{Side}
use Rattle.std.proofs.lemmas.List.{length_push}
use Rattle.tt_sgf.specs.declared.size.TheConstants.{MOST_POINTS}
use Rattle.tt_game.specs.declared.turns.Turn.TheVariants.{Play, Pass}
use Rattle.tt_search.specs.inside.Children.{children_of}
use Rattle.tt_search.specs.inside.Choices.{node_with}
use Rattle.tt_search.specs.Numbers.{is_same_side, number, least, capped_sum}
use Rattle.tt_search.specs.inside.ChildNodes.{choices_with}
use Rattle.tt_search.specs.inside.Edges.{edge_turn, edge_state_of, turn_at, edge_turns, edge_trees, counted, grown_in, AreFresh}
use Rattle.tt_search.specs.inside.Untried.{fresh_edge, plays_in, AreBelow, AreUntried}
use Rattle.tt_search.proofs.FreshRows.{ones, least_ones, capped_ones}
use Rattle.tt_search.proofs.Strategies.{own_zero, other_zero}
use Rattle.tt_search.specs.declared.tree.edges.Edge.{Edge}
use Rattle.tt_search.specs.declared.tree.edges.EdgeState.TheVariants.{Fresh}

-- where a number is meant, its play is the last of those up to it
pub play_here : (has : ℕ → Bool) (n : ℕ) → has n ≡ true → plays_in has (suc n) ≡ plays_in has n ++ fresh_edge n ∷ []
unfolding plays_in
play_here has n on = rw on refl

-- where it isn't, it adds nothing
none_here : (has : ℕ → Bool) (n : ℕ) → has n ≡ false → plays_in has (suc n) ≡ plays_in has n
unfolding plays_in
none_here has n off = rw off refl

-- up to 0 there are none
pub none_yet : (has : ℕ → Bool) → plays_in has 0 ≡ []
unfolding plays_in
none_yet has = refl

-- where nothing is meant between two numbers, the plays up to both are the same
pub skipped : (has : ℕ → Bool) (m n : ℕ) → m ≤ n → ((q : ℕ) → m ≤ q → q < n → has q ≡ false) → plays_in has n ≡ plays_in has m
skipped has m zero le off = let same : zero ≡ m = omega (arith, le) in ap (plays_in has) same
skipped has m (suc n) le off =
    elim (cases_lt n m) [
      | inl lt ↦ (let same : suc n ≡ m = omega (arith, le, lt) in ap (plays_in has) same)
      | inr ge ↦ none_here has n (off n ge (omega arith)) ∙ skipped has m n ge (λ q low high. off q low (omega (arith, high)))
    ]

-- where the same numbers are meant, there are the same plays
pub alike : (a b : ℕ → Bool) (n : ℕ) → ((q : ℕ) → q < n → a q ≡ b q) → plays_in a n ≡ plays_in b n
unfolding plays_in
alike a b zero same = refl
alike a b (suc n) same = rw (same n (omega arith), alike a b n (λ q l. same q (omega (arith, l)))) refl

-- there are no more than numbers
pub few_plays : (has : ℕ → Bool) (n : ℕ) → length (plays_in has n) ≤ n
unfolding plays_in
few_plays has zero = omega arith
few_plays has (suc n) = elim (has n) as (λ b. length (if b then plays_in has n ++ fresh_edge n ∷ [] else plays_in has n) ≤ suc n) [
  | true ↦ omega (arith, length_push (plays_in has n) (fresh_edge n), few_plays has n)
  | false ↦ omega (arith, few_plays has n)
]

-- what holds of all, holds of those before the last
before_last : (p : ℕ) (es : List Edge) (e : Edge) → AreBelow p (es ++ e ∷ []) → AreBelow p es × (e.code < p)
before_last p [] e h = (tt, h.0)
before_last p (x ∷ es) e h = let rest = before_last p es e h.1 in ((h.0, rest.0), rest.1)

-- where all plays are below a number, none is meant from it on
pub none_from : (has : ℕ → Bool) (p n : ℕ) → AreBelow p (plays_in has n) → (q : ℕ) → q < n → p ≤ q → has q ≡ false
none_from has p zero all q l low = absurd (omega (arith, l))
none_from has p (suc n) all q l low =
    elim (has n) as (λ b. has n ≡ b → has q ≡ false) [
      | true ↦ λ on.
          let split = before_last p (plays_in has n) (fresh_edge n) (subst (AreBelow p) (play_here has n on) all) in
          none_from has p n split.0 q (omega (arith, split.1, low, l)) low
      | false ↦ λ off. elim (cases_lt q n) [
        | inl lt ↦ none_from has p n (subst (AreBelow p) (none_here has n off) all) q lt low
        | inr ge ↦ (let same : n ≡ q = omega (arith, ge, l) in subst (λ i. has i ≡ false) same off)
      ]
    ] refl

-- all of what is below a number is below a greater one
pub below_more : (p q : ℕ) (es : List Edge) → p ≤ q → AreBelow p es → AreBelow q es
below_more p q [] le h = tt
below_more p q (e ∷ es) le h = (omega (arith, le, h.0), below_more p q es le h.1)

-- one more is below the next number
pub below_push : (p : ℕ) (es : List Edge) (e : Edge) → AreBelow p es → e.code < p → AreBelow p (es ++ e ∷ [])
below_push p [] e h l = (l, tt)
below_push p (x ∷ es) e h l = (h.0, below_push p es e h.1 l)

-- one more play, above all others
pub play_more : (a b : ℕ → Bool) (p n : ℕ) → p < n → b p ≡ true → ((q : ℕ) → q < n → (q ≡ p → ⊥) → b q ≡ a q) → AreBelow p (plays_in a n)
    → plays_in b n ≡ plays_in a n ++ fresh_edge p ∷ []
play_more a b p n in_n on others below =
    let off = none_from a p n below in
    let above : plays_in b n ≡ plays_in b (suc p) =
    skipped b (suc p) n (omega (arith, in_n)) (λ q low high. others q high (λ e. omega (arith, e, low)) ∙ off q high (omega (arith, low))) in
    let under : plays_in b p ≡ plays_in a p = alike b a p (λ q l. others q (omega (arith, l, in_n)) (λ e. omega (arith, e, l))) in
    let whole : plays_in a n ≡ plays_in a p = skipped a p n (omega (arith, in_n)) (λ q low high. off q high low) in
    above ∙ play_here b p on ∙ ap (λ es. es ++ fresh_edge p ∷ []) (under ∙ sym whole)

-- nothing is known of the children of one more fresh edge
pub fresh_push : (es : List Edge) (e : Edge) → AreFresh es → edge_state_of e ≡ Fresh → AreFresh (es ++ e ∷ [])
fresh_push [] e h m = (m, tt)
fresh_push (x ∷ es) e h m = (h.0, fresh_push es e h.1 m)

-- none of the children of fresh edges has grown
pub fresh_grown : (es : List Edge) → AreFresh es → grown_in es ≡ 0
fresh_grown [] h = refl
fresh_grown (e ∷ es) h = ap (λ m. counted m (grown_in es)) h.0 ∙ fresh_grown es h.1

rest_small : (n : ℕ) → n < MOST_POINTS → n % 512 ≡ n
rest_small n h = omega (arith, h)

-- the turn of a point's edge is the play there
pub play_turn : (p : ℕ) → p < MOST_POINTS → edge_turn (fresh_edge p) ≡ Play p
play_turn p h = ap turn_at (rest_small p h) ∙ ap (λ b. if b then Play p else Pass) (lt-ltb p MOST_POINTS h)

-- where nobody is said to have won, there is no winner
pub no_winner : (winner : Option Side) → is_some winner ≡ false → winner ≡ None
no_winner None h = refl
no_winner (Some side) h = absurd (true≢false h)

-- a node of which no turn has been tried is settled for nobody
pub untried_number : (side mover : Side) (es : List Edge) → AreUntried es → number side (node_with (choices_with mover es [])) ≡ 0 → ⊥
untried_number side mover es u zero_is =
    elim (is_same_side side mover) as (λ b. is_same_side side mover ≡ b → ⊥) [
      | true ↦ λ same.
          let one = ap least (ones side es [] u.fresh) ∙ least_ones (length es) u.some in
          omega (arith, one, own_zero side mover (edge_turns es) (children_of (edge_trees es [])) same zero_is)
      | false ↦ λ other.
          let all = ap capped_sum (ones side es [] u.fresh) ∙ capped_ones (length es) (omega (arith, u.few)) in
          omega (arith, all, u.some, other_zero side mover (edge_turns es) (children_of (edge_trees es [])) other zero_is)
    ] refl
