use Rattle.std.proofs.Common.{◌≡◌, ◌≢◌, ℕ, ◌+◌, ◌<◌, List, length, count_by, Option, Some, None, Bool, cond, inl, inr, sym, ◌∙◌, set, arith}
use Rattle.std.specs.List.{range_with_len}
use Rattle.std.proofs.lemmas.Bool.{cases_Bool}
use Rattle.std.proofs.lemmas.Option.{none-some}
use Rattle.std.proofs.lemmas.List.{map-id}
use Rattle.std.proofs.lemmas.List.FromFn.{fill_by_all, length-map-range_with_len, sum_by-map-range_with_len_more}
use Rattle.tt_board.specs.declared.Colour.{Colour}
use Rattle.tt_sgf.specs.declared.size.Size.{Size}
use Rattle.tt_sgf.specs.Sizes.{point_count}
use Rattle.tt_board.specs.Reach.{entry_at, Reaches}
use Rattle.tt_board.specs.ReachLaws.{reaches_beside, reaches_on, reaches_all}
use Rattle.tt_board.specs.Decided.{reaches, reaches_is_exact}
use Rattle.tt_board.specs.Play.{other, cleared_entry, clear, play_of}
use Rattle.tt_board.specs.Setup.{AllHaveLiberties}
use Rattle.tt_board.specs.laws.ClearLaws.{cleared_gone, cleared_kept_other, cleared_kept_alive, entry_at_clear, not_other}

-- a colouring that is cleared at each point is the cleared one
pub clear_from : (s : Size) (c d : List (Option Colour)) (k : Colour) → length d ≡ point_count s → ((p : ℕ) → p < point_count s → entry_at d p ≡ cleared_entry s c k p) → d ≡ clear s c k
unfolding clear
clear_from s c d k fits each = fill_by_all (cleared_entry s c k) d (point_count s) None fits each

pub length-clear : (s : Size) (c : List (Option Colour)) (k : Colour) → length (clear s c k) ≡ point_count s
unfolding clear
length-clear s c k = length-map-range_with_len (cleared_entry s c k) 0 (point_count s)

module _ (s : Size) (c : List (Option Colour)) (k : Colour) where
  -- what reaches empty stays
  stays_alive : (p : ℕ) → p < point_count s → Reaches s c p None → entry_at (clear s c k) p ≡ entry_at c p
  stays_alive p in_p r = entry_at_clear s c k p in_p ∙ cleared_kept_alive s c k p ((reaches_is_exact s c p None in_p).1 r)

  -- and goes on to reach empty
  pub survives : (p : ℕ) → p < point_count s → Reaches s c p None → Reaches s (clear s c k) p None
  survives p in_p r =
      (reaches_all s c None (λ x. (x < point_count s) × Reaches s c x None × Reaches s (clear s c k) x None)
      (λ x q in_x other near has.
      let before = reaches_beside s c None x q other near has in
      let empty : entry_at (clear s c k) q ≡ None = entry_at_clear s c k q near.0 ∙ cleared_kept_other s c k q (λ e. cc) ∙ has in
      (in_x, before, reaches_beside s (clear s c k) None x q (λ e. other (sym (stays_alive x in_x before) ∙ e)) near empty))
      (λ x q in_x other near same h.
      let before = reaches_on s c None x q near same h.1 in
      (in_x, before, reaches_on s (clear s c k) None x q near (stays_alive q h.0 h.1 ∙ same ∙ sym (stays_alive x in_x before)) h.2))
      p r.path in_p r.adjacent r.alike r.other r.found r.beside r.has_entry).2

  -- after it each stone of the colour reaches empty, and each other one that did before
  pub alive_after : (p : ℕ) → p < point_count s → entry_at (clear s c k) p ≢ None → (entry_at c p ≢ Some k → Reaches s c p None) → Reaches s (clear s c k) p None
  alive_after p in_p stone others =
      elim (cases_Bool (reaches s c p None)) [
        | inl alive ↦ survives p in_p ((reaches_is_exact s c p None in_p).0 alive)
        | inr dead ↦ survives p in_p (others (λ mine. stone (entry_at_clear s c k p in_p ∙ cleared_gone s c k p mine dead)))
      ]

-- once both colours are cleared each stone reaches empty
pub alive-clear-clear : (s : Size) (c : List (Option Colour)) (k : Colour) → AllHaveLiberties s (clear s (clear s c (other k)) k)
alive-clear-clear s c k p in_p stone =
    let once = clear s c (other k) in
    let empty_stays : entry_at once p ≢ None = λ e. stone (entry_at_clear s once k p in_p ∙ cleared_kept_other s once k p (λ h. none-some k (sym e ∙ h)) ∙ e) in
    alive_after s once k p in_p stone (λ apart.
    alive_after s c (other k) p in_p empty_stays (λ differs.
    let same : entry_at once p ≡ entry_at c p = entry_at_clear s c (other k) p in_p ∙ cleared_kept_other s c (other k) p differs in
    absurd (apart (not_other k (entry_at once p) empty_stays (λ h. differs (sym same ∙ h))))))

-- after a move each stone reaches empty
pub alive-play : (s : Size) (c : List (Option Colour)) (k : Colour) (at : ℕ) → AllHaveLiberties s (play_of s c k at)
unfolding play_of
alive-play s c k at = alive-clear-clear s (set c at (Some k)) k

-- what a move makes has an entry for each point of the board
pub length-play : (s : Size) (c : List (Option Colour)) (k : Colour) (at : ℕ) → length (play_of s c k at) ≡ point_count s
unfolding play_of
length-play s c k at = length-clear s (clear s (set c at (Some k)) (other k)) k

-- one more point of the board, counted
pub score_more : (f : ℕ → Bool) (n : ℕ) → count_by f (range_with_len 0 (n + 1)) ≡ count_by f (range_with_len 0 n) + cond (f n) 1 0
score_more f n =
    let g : ℕ → ℕ = λ p. cond (f p) 1 0 in
    let h = sum_by-map-range_with_len_more g (λ p. p) 0 n n (omega arith) in
    simp map-id at h
