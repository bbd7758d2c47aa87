-- What a run says of the nodes that it expanded.
use Rattle.std.proofs.Common.{◌≡◌, ℕ, ◌+◌, ◌-◌, ◌≤◌, [], Option, Some, None, inl, inr, refl, sym, ap, subst, ◌∙◌, arith}
use Rattle.tt_game.specs.declared.frame.Frame.{Frame}
use Rattle.tt_game.specs.declared.frame.Side.{Side}
use Rattle.tt_game.specs.declared.turns.Turn.{Turn}
use Rattle.tt_game.specs.Game.{State, after, winner_of}
use Rattle.tt_game.specs.Line.{LineWithUndo}
use Rattle.tt_search.specs.Grants.{GrantTally}
use Rattle.tt_search.specs.Numbers.{count}
use Rattle.tt_search.specs.Growing.{leaf_with_winner, new_leaf, IsGrownFrom, IsGrownFromRoot}
use Rattle.tt_search.specs.SearchState.{SearchState}
use Rattle.tt_search.specs.RunEnds.{HasRunTo, IsEndOf, HasGrantPerExpansion, IsTallyAfterRun}
use Rattle.tt_search.specs.declared.limits.Limits.{Limits}
use Rattle.tt_search.specs.declared.limits.Reason.{Reason}
use Rattle.tt_search.specs.declared.limits.Reason.TheVariants.{Budget, Depth, Total, Memory}
use Rattle.tt_search.specs.declared.search.End.{End}
use Rattle.tt_search.specs.declared.search.End.TheVariants.{Settled, Stuck}
use Rattle.tt_share.specs.Answers.{IsSearchAfter, IsSearchCountAfter}
use Rattle.tt_share.specs.inside.Jobs.{AsksFor, EndsBehind, IsCounted, IsOfEnd, end_of}
use Rattle.tt_share.specs.declared.jobs.JobResult.{JobResult}

-- what a run spent rose by the count, whichever way it ends
has_spent : (start search : SearchState) (old new : GrantTally) (reason : Reason) → IsTallyAfterRun start old (Stuck reason (Some search)) new → HasGrantPerExpansion start old search new
has_spent start search old new Budget h = h.0
has_spent start search old new Depth h = h.0
has_spent start search old new Total h = h.0
has_spent start search old new Memory h = h.0

-- a run from no expanded node gives nothing back
more : (start : SearchState) (old new : GrantTally) (end : End) → count start.tree ≡ 0 → IsTallyAfterRun start old end new → old.granted ≤ new.granted
more start old new (Settled p) none h = let spent = h.3 in omega (arith, spent, none)
more start old new (Stuck Budget None) none h = absurd h
more start old new (Stuck Depth None) none h = absurd h
more start old new (Stuck Total None) none h = absurd h
more start old new (Stuck Memory None) none h = absurd h
more start old new (Stuck reason (Some search)) none h = omega (arith, has_spent start search old new reason h, none)

-- it asks for what it spends
asks_for : (start : SearchState) (old new : GrantTally) (end : End) (n : ℕ) → IsTallyAfterRun start old end new → new.granted ≡ old.granted + n → n ≤ 1000000 → AsksFor old n end new
asks_for start old new (Settled p) n h granted few = record { granted = granted; few = few; refused = λ t. absurd t; still = λ e. h.4 ∙ e }
asks_for start old new (Stuck Budget None) n h granted few = absurd h
asks_for start old new (Stuck Depth None) n h granted few = absurd h
asks_for start old new (Stuck Total None) n h granted few = absurd h
asks_for start old new (Stuck Memory None) n h granted few = absurd h
asks_for start old new (Stuck Budget (Some search)) n h granted few = record { granted = granted; few = few; refused = λ t. absurd t; still = λ e. h.1 ∙ e }
asks_for start old new (Stuck Depth (Some search)) n h granted few = record { granted = granted; few = few; refused = λ t. absurd t; still = λ e. h.1 ∙ e }
asks_for start old new (Stuck Total (Some search)) n h granted few = record { granted = granted; few = few; refused = λ t. h.1; still = λ e. h.1 }
asks_for start old new (Stuck Memory (Some search)) n h granted few = record { granted = granted; few = few; refused = λ t. absurd t; still = λ e. h.1 ∙ e }

-- a new leaf has no expanded node
leaf_count : (o : Option Side) → count (leaf_with_winner o) ≡ 0
leaf_count None = refl
leaf_count (Some side) = refl

pub new_count : (f : Frame) (s : State) → count (new_leaf f s) ≡ 0
new_count f s = leaf_count (winner_of f s)

-- a run of a new search gives nothing back
pub spent_more : (start : SearchState) (old new : GrantTally) (end : End) → start.tree ≡ new_leaf start.line.frame start.line.state → IsTallyAfterRun start old end new → old.granted ≤ new.granted
spent_more start old new end new_is = more start old new end (ap count new_is ∙ new_count start.line.frame start.line.state)

module _ (line : LineWithUndo) (limits : Limits) (t : Turn) (start : SearchState) (behind : IsSearchAfter line limits t start) (new_is : start.tree ≡ new_leaf start.line.frame start.line.state) where
  -- what is reached from a new search behind the turn is behind it, and grown
  reached_behind : (search : SearchState) → HasRunTo start search → IsSearchAfter line limits t search
  reached_behind search h = subst (λ (l : Limits). IsSearchAfter line limits t (record search { limits = l })) (sym h.problem.limits)
      (subst (λ (l : LineWithUndo). IsSearchAfter line limits t (record { line = l; limits = start.limits; tree = search.tree })) (sym h.problem.line)
      (record { frame = behind.frame; state = behind.state; budget = behind.budget; depth_is = behind.depth_is }))

  reached_grown : (search : SearchState) → HasRunTo start search → IsGrownFromRoot search.limits search.line.frame search.line.state search.tree
  reached_grown search h =
      subst (λ (l : Limits). IsGrownFromRoot l search.line.frame search.line.state search.tree) (sym h.problem.limits)
      (subst (λ (l : LineWithUndo). IsGrownFromRoot start.limits l.frame l.state search.tree) (sym h.problem.line)
      (subst (λ (tree : _). IsGrownFrom start.limits start.line.frame start.line.state tree search.tree) new_is h.grown))

  start_count : count start.tree ≡ 0
  start_count = ap count new_is ∙ new_count start.line.frame start.line.state

  reached_count : (search : SearchState) (old new : GrantTally) (n : ℕ) → HasRunTo start search → HasGrantPerExpansion start old search new
      → new.granted ≡ old.granted + n → IsSearchCountAfter line limits t n
  reached_count search old new n h spent granted = (search, reached_behind search h, reached_grown search h, omega (arith, spent, granted, start_count))

  -- its count is what was asked for
  stuck_count : (search : SearchState) (old new : GrantTally) (n : ℕ) → HasRunTo start search → HasGrantPerExpansion start old search new → new.granted ≡ old.granted + n
      → IsSearchCountAfter line limits t n × (count search.tree ≡ n)
  stuck_count search old new n h spent granted = (reached_count search old new n h spent granted, omega (arith, spent, granted, start_count))

  -- how a run from there ends is how the search behind the turn ends
  ends_behind : (end : End) → IsEndOf start end → EndsBehind line limits t end
  ends_behind (Settled p) (search, ran, proof) =
      let b = reached_behind search ran in
      let low = proof.shallow in
      let deep = b.depth_is in
      ((proof.stands.0 ∙ b.frame, proof.stands.1 ∙ b.state), omega (arith, low, deep))
  ends_behind (Stuck reason (Some search)) (ran, stuck) = (reached_behind search ran, reached_grown search ran, stuck)
  ends_behind (Stuck reason None) h = absurd h

  -- a run from there counts the nodes that it expands
  counted : (old new : GrantTally) (end : End) (n : ℕ) → IsEndOf start end → IsTallyAfterRun start old end new → new.granted ≡ old.granted + n → IsCounted line limits t n end
  counted old new (Settled p) n h k granted =
      let both = stuck_count k.0 old new n k.1 k.3 granted in
      (both.0, (k.0, reached_behind k.0 k.1, reached_grown k.0 k.1, k.2, both.1))
  counted old new (Stuck Budget None) n h k granted = absurd k
  counted old new (Stuck Depth None) n h k granted = absurd k
  counted old new (Stuck Total None) n h k granted = absurd k
  counted old new (Stuck Memory None) n h k granted = absurd k
  counted old new (Stuck reason (Some search)) n h k granted = stuck_count search old new n h.0 (has_spent start search old new reason k) granted

-- ---- what is made of an end

module _ (line : LineWithUndo) (limits : Limits) (t : Turn) (start : SearchState) (behind : IsSearchAfter line limits t start) (new_is : start.tree ≡ new_leaf start.line.frame start.line.state)
    (end : End) (made : JobResult) (is : IsOfEnd end made) (ran : IsEndOf start end) where
  pub made_behind : EndsBehind line limits t (end_of made)
  made_behind = elim is [
    | inl same ↦ subst (EndsBehind line limits t) (sym same) (ends_behind line limits t start behind new_is end ran)
    | inr none ↦ subst (λ (r : JobResult). EndsBehind line limits t (end_of r)) (sym none) tt
  ]

  pub made_counted : (old new : GrantTally) (n : ℕ) → IsTallyAfterRun start old end new → new.granted ≡ old.granted + n → IsCounted line limits t n (end_of made)
  made_counted old new n spent granted =
      let h = counted line limits t start behind new_is old new end n ran spent granted in
      elim is [
        | inl same ↦ subst (IsCounted line limits t n) (sym same) h
        | inr none ↦ subst (λ (r : JobResult). IsCounted line limits t n (end_of r)) (sym none) (h.0, tt)
      ]

pub made_asks : (start : SearchState) (old new : GrantTally) (end : End) (made : JobResult) (n : ℕ) → IsOfEnd end made → IsTallyAfterRun start old end new → new.granted ≡ old.granted + n → n ≤ 1000000
    → AsksFor old n (end_of made) new
made_asks start old new end made n is spent granted few =
    let h = asks_for start old new end n spent granted few in
    elim is [
      | inl same ↦ subst (λ (e : End). AsksFor old n e new) (sym same) h
      | inr none ↦ subst (λ (r : JobResult). AsksFor old n (end_of r) new) (sym none) (record { granted = h.granted; few = h.few; refused = λ total. absurd total; still = h.still })
    ]

-- where no search could begin, a new one behind the turn has no expanded node
pub none_begun : (line : LineWithUndo) (limits : Limits) (t : Turn) → 1 ≤ limits.depth → IsSearchCountAfter line limits t 0
none_begun line limits t deep =
    let f = line.frame in
    let s = after line.frame line.state t in
    let behind : Limits = record { budget = limits.budget; depth = limits.depth - 1; budget_in = limits.budget_in; depth_in = omega (arith, limits.depth_in) } in
    let leaf : SearchState = record { line = record { frame = f; state = s; before = [] }; limits = behind; tree = new_leaf f s } in
    (leaf, record { frame = refl; state = refl; budget = refl; depth_is = omega (arith, deep) }, (0, refl), new_count f s)
