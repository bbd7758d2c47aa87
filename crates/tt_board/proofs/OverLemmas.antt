-- The names and the counts of a board written over another one's, as far as one of both has a stone.
use Rattle.std.proofs.Common.{◌≡◌, ◌≢◌, ℕ, ◌+◌, ◌-◌, ◌<◌, ◌≤◌, ◌++◌, List, length, take, drop, inl, inr, arith, sym, ap, ◌∙◌}
use Rattle.std.proofs.lemmas.Bool.{cases_lt}
use Rattle.std.proofs.lemmas.List.{length-take-le, get_or-take, get_or-drop, get_or_append_left, get_or-append_right, ext_get_or}
use Rattle.tt_sgf.specs.declared.size.Size.{Size}
use Rattle.tt_board.specs.declared.counted.chain_counts.ChainCounts.{ChainCounts}
use Rattle.tt_board.specs.inside.Chains.{name_at, root_of, AreCounted}

module _ (n : ℕ) (xs ys : List ℕ) (wide : n ≤ length xs) where
  -- on the first points stands what was written
  pub over_before : (q : ℕ) → q < n → name_at (take n xs ++ drop n ys) q ≡ name_at xs q
  over_before q below = get_or_append_left (take n xs) (drop n ys) 0 q (omega (arith, length-take-le n xs wide, below)) ∙ get_or-take n xs q 0 below

  -- behind them what stood there
  pub over_after : (q : ℕ) → n ≤ q → name_at (take n xs ++ drop n ys) q ≡ name_at ys q
  over_after q past =
      let same : n + (q - n) ≡ q = omega (arith, past) in
      get_or-append_right (take n xs) (drop n ys) n q 0 (length-take-le n xs wide) past ∙ get_or-drop n ys (q - n) 0 ∙ ap (name_at ys) same

  -- lists that have nothing but zeros behind them become the same
  pub over_all : length xs ≡ length ys → length (take n xs ++ drop n ys) ≡ length xs
      → ((q : ℕ) → n ≤ q → name_at xs q ≡ 0) → ((q : ℕ) → n ≤ q → name_at ys q ≡ 0) → take n xs ++ drop n ys ≡ xs
  over_all alike kept bare_x bare_y = ext_get_or 0 (take n xs ++ drop n ys) xs kept (λ q _. elim (cases_lt q n) [
    | inl below ↦ over_before q below
    | inr past ↦ over_after q past ∙ bare_y q past ∙ sym (bare_x q past)
  ])

-- counts stand at the roots of chains, so those before the end are all
pub over_counted : (s : Size) (n : ℕ) (b : ChainCounts) (stones liberties : List ℕ) → AreCounted s b → ((q : ℕ) → n ≤ q → name_at b.names q ≡ 0)
    → n ≤ length b.stones → n ≤ length b.liberties
    → AreCounted s (record { names = b.names; stones = take n b.stones ++ drop n stones; liberties = take n b.liberties ++ drop n liberties })
over_counted s n b stones liberties counted bare wide_s wide_l = record {
  ends = counted.ends;
  rooted = counted.rooted;
  stones_true = λ q some. over_before n b.stones stones wide_s (root_of (name_at b.names q)) (inside q some) ∙ counted.stones_true q some;
  liberties_true = λ q some. over_before n b.liberties liberties wide_l (root_of (name_at b.names q)) (inside q some) ∙ counted.liberties_true q some;
}
  where
    inside : (q : ℕ) → name_at b.names q ≢ 0 → root_of (name_at b.names q) < n
    inside q some = elim (cases_lt (root_of (name_at b.names q)) n) [
      | inl below ↦ below
      | inr past ↦ absurd (some (sym (counted.rooted q some) ∙ bare (root_of (name_at b.names q)) past))
    ]
