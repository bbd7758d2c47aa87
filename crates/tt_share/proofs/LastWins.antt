-- One more result of a worker, whose flag was down before.
use Rattle.std.proofs.Common.{◌≡◌, ℕ, zero, suc, ◌⊎◌, ◌↔◌, inl, inr, Bool, true, false, ◌||◌, IsTrue, List, [], ◌∷◌, ◌++◌, Option, Some, None, slice_get, length, length-append}
use Rattle.std.proofs.Common.{refl, ap, subst, sym, ◌∙◌, arith}
use Rattle.std.proofs.lemmas.Option.{slice_get_within}
use Rattle.tt_game.specs.declared.frame.Side.{Side}
use Rattle.atomic_table.specs.Seated.{TableId}
use Rattle.tt_share.specs.Seats.{SeatModel, seat_of}
use Rattle.tt_share.specs.inside.Jobs.{IsDropped, IsStuck, IsWinFor, kept_of}
use Rattle.tt_share.specs.inside.Workers.{KeepsFirstStuck, SomeStuck, SomeWin, WinsAreLast}
use Rattle.tt_share.specs.declared.jobs.JobResult.{JobResult}
use Rattle.tt_share.specs.declared.jobs.JobResult.TheVariants as result
use Rattle.tt_share.specs.declared.jobs.SearchedJob.{SearchedJob}

none_there : {X : Type 0} (x : X) → None ≡ Some x → ⊥
none_there x e = cc

pub not_none : {X : Type 0} (o : Option X) (x : X) → o ≡ Some x → o ≡ None → ⊥
not_none o x is none = cc

pub pushed : (xs ys zs : List SearchedJob) (f : SearchedJob) → zs ≡ ys ++ f ∷ [] → ys ≡ xs → zs ≡ xs ++ f ∷ []
pushed xs ys zs f is same = is ∙ ap (λ (l : List SearchedJob). l ++ f ∷ []) same

-- where the flag was down, it is raised exactly by a win
pub marked : (flag before won : Bool) → flag ≡ (before || won) → (IsTrue before → ⊥) → IsTrue flag ↔ IsTrue won
marked flag true won is down = absurd (down refl)
marked flag false won is down = (λ up. sym is ∙ up, λ up. is ∙ up)

pub marks_again : (before after : Bool) → after ≡ before → IsTrue before → IsTrue after
marks_again before after same up = same ∙ up

pub flag_of : (s : SeatModel) (desk : TableId) (numbers grants : List ℕ) (flag saw_flag : Bool) → s ≡ seat_of desk numbers grants flag saw_flag → s.flag ≡ flag
flag_of s desk numbers grants flag saw_flag is = ap (λ (t : SeatModel). t.flag) is

-- what is read of a longer list was there, or is the last
pub read_more : {X : Type 0} (xs : List X) (x : X) (i : ℕ) (y : X) → slice_get (xs ++ x ∷ []) i ≡ Some y → (slice_get xs i ≡ Some y) ⊎ ((i ≡ length xs) × (x ≡ y))
read_more [] x zero y is = inr (refl, cc)
read_more [] x (suc i) y is = absurd (none_there y is)
read_more (z ∷ zs) x zero y is = inl is
read_more (z ∷ zs) x (suc i) y is = elim (read_more zs x i y is) [
  | inl h ↦ inl h
  | inr h ↦ inr (ap suc h.0, h.1)
]

-- with one more result a win is still the last one, where the flag was down and a win raises it
pub wins_more : (side : Side) (flag more : Bool) (found : List SearchedJob) (f : SearchedJob) → (IsTrue flag → ⊥) → (IsWinFor side f.end → IsTrue more) → WinsAreLast side flag found
    → WinsAreLast side more (found ++ f ∷ [])
wins_more side flag more found f down raised was i g is win = elim (read_more found f i g is) [
  | inl h ↦ absurd (down (was i g h win).1)
  | inr h ↦ (let at = h.0 in omega (arith, at, length-append found (f ∷ [])), raised (subst (λ (x : SearchedJob). IsWinFor side x.end) (sym h.1) win))
]

-- one more stands at the slot of the old length
last_there : {X : Type 0} (xs : List X) (x : X) → slice_get (xs ++ x ∷ []) (length xs) ≡ Some x
last_there [] x = refl
last_there (y ∷ ys) x = last_there ys x

-- where the one more is a win, some result is
pub last_wins : (side : Side) (found : List SearchedJob) (f : SearchedJob) → IsWinFor side f.end → SomeWin side (found ++ f ∷ [])
last_wins side found f win = (length found, f, last_there found f, win)

-- a win that is kept was one
pub win_before : (side : Side) (past : Bool) (end : JobResult) → IsWinFor side (kept_of past end) → IsWinFor side end
win_before side false end win = win
win_before side true (result.Settled p) win = win
win_before side true (result.Stuck reason search) win = absurd win
win_before side true result.Dropped win = absurd win
win_before side true result.NoMemory win = absurd win

-- and is one still
pub win_after : (side : Side) (past : Bool) (end : JobResult) → IsWinFor side end → IsWinFor side (kept_of past end)
win_after side false end win = win
win_after side true (result.Settled p) win = win
win_after side true (result.Stuck reason search) win = absurd win
win_after side true result.Dropped win = absurd win
win_after side true result.NoMemory win = absurd win

-- what was there is there with one more
first_there : {X : Type 0} (xs : List X) (x y : X) (i : ℕ) → slice_get xs i ≡ Some y → slice_get (xs ++ x ∷ []) i ≡ Some y
first_there [] x y i is = absurd (none_there y is)
first_there (z ∷ zs) x y zero is = is
first_there (z ∷ zs) x y (suc i) is = first_there zs x y i is

-- with one more result some result is stuck, where one was before or that one is
pub stuck_more : (searched : List SearchedJob) (f : SearchedJob) (past : Bool) → (IsTrue past → SomeStuck searched) → IsTrue past ⊎ IsStuck f.end → SomeStuck (searched ++ f ∷ [])
stuck_more searched f past was is = elim is [
  | inl up ↦ let h = was up in (h.0, h.1, first_there searched f h.1 h.0 h.2, h.3)
  | inr this ↦ (length searched, f, last_there searched f, this)
]

-- where it was dropped some earlier one is stuck
earlier : (searched : List SearchedJob) (f : SearchedJob) (past : Bool) → (IsTrue past → SomeStuck searched) → (past ≡ false → IsDropped f.end → ⊥) → IsDropped f.end → SomeStuck searched
earlier searched f true was whole dropped = was refl
earlier searched f false was whole dropped = absurd (whole refl dropped)

-- and a search is dropped only behind an earlier stuck one
pub kept_more : (searched : List SearchedJob) (f : SearchedJob) (past : Bool) → (IsTrue past → SomeStuck searched) → (past ≡ false → IsDropped f.end → ⊥) → KeepsFirstStuck searched
    → KeepsFirstStuck (searched ++ f ∷ [])
kept_more searched f past was whole kept i g at dropped = elim (read_more searched f i g at) [
  | inl h ↦ let e = kept i g h dropped in (e.0, e.1, e.2, first_there searched f e.1 e.0 e.3, e.4)
  | inr h ↦ let s = earlier searched f past was whole (subst (λ (x : SearchedJob). IsDropped x.end) (sym h.1) dropped) in
      let at_end = h.0 in
      let inside = slice_get_within searched s.0 s.1 s.2 in
      (s.0, s.1, omega (arith, at_end, inside), first_there searched f s.1 s.0 s.2, s.3)
]
