-- Jobs that have a win for a side, and jobs that have a result.
use Rattle.std.proofs.Common.{◌≡◌, ℕ, ◌+◌, ◌<◌, ◌≤◌, ◌≢◌, get_or, List, length, Option, Some, None, slice_get, slice_set, refl, sym, ap, ◌∙◌, subst, arith, inl, inr}
use Rattle.std.proofs.lemmas.Bool.{cases_lt}
use Rattle.std.proofs.lemmas.Option.{same_Some, none-some, slice_get_within, slice_get_read, get_or_from_slice_get}
use Rattle.tt_game.specs.declared.frame.Side.{Side}
use Rattle.tt_game.specs.declared.frame.Side.TheVariants.{Attacker, Defender}
use Rattle.tt_game.specs.Game.{opponent}
use Rattle.tt_proof.specs.ProofClaim.{ProofClaim}
use Rattle.tt_search.specs.declared.limits.Limits.{Limits}
use Rattle.tt_share.specs.declared.jobs.JobResult.{JobResult}
use Rattle.tt_share.specs.declared.jobs.JobResult.TheVariants as result
use Rattle.tt_search.specs.declared.search.End.{End}
use Rattle.tt_search.specs.declared.search.End.TheVariants.{Settled, Stuck}
use Rattle.tt_search.specs.declared.limits.Reason.{Reason}
use Rattle.tt_search.specs.SearchState.{SearchState}
use Rattle.tt_game.specs.declared.turns.Turn.{Turn}
use Rattle.tt_game.specs.Line.{LineWithUndo}
use Rattle.tt_game.specs.Turns.{legal_turns}
use Rattle.tt_share.specs.inside.Jobs.{EndsBehind, IsResultOf, IsJob, IsStuck, IsStuckOrWon, end_of}
use Rattle.tt_share.specs.inside.Results.{HasWonIn, AllStuckOrWon, IsStuckIn, IsStuckAt, IsWinIn, HasEnd, HasResult, IsWinAt, NoWin, IsLeastWin, IsLeastStuck, FilledBelow, IsReady, StopsAtWin}
use Rattle.tt_share.proofs.ResultLemmas.{get_set_other}

-- what holds below i and at i holds below the next
below_more : (P : ℕ → Type 0) (i : ℕ) → ((k : ℕ) → k < i → P k) → P i → (k : ℕ) → k < i + 1 → P k
below_more P i below this k low = elim (cases_lt k i) [
  | inl h ↦ below k h
  | inr h ↦ let same : i ≡ k = omega arith in subst P same this
]

-- no job below the next has a win
pub no_win_more : (side : Side) (ends : List (Option JobResult)) (i : ℕ) → ((k : ℕ) → k < i → ¬ IsWinAt side ends k) → ¬ IsWinAt side ends i → (k : ℕ) → k < i + 1 → ¬ IsWinAt side ends k
no_win_more side ends i = below_more (λ k. ¬ IsWinAt side ends k) i

-- a win is in what is read at its slot
pub win_in : (side : Side) (ends : List (Option JobResult)) (i : ℕ) (slot : Option JobResult) → i < length ends → slot ≡ get_or ends i slot → IsWinAt side ends i → IsWinIn side slot
win_in side ends i slot within read win =
    let here : slice_get ends i ≡ Some slot = slice_get_read ends (length ends) i slot refl within read in
    subst (IsWinIn side) (same_Some (Some win.0) slot (sym win.1 ∙ here)) win.2

-- a stuck search is in what is read at its slot
pub stuck_in : (ends : List (Option JobResult)) (i : ℕ) (slot : Option JobResult) → i < length ends → slot ≡ get_or ends i slot → IsStuckAt ends i → IsStuckIn slot
stuck_in ends i slot within read stuck =
    let here : slice_get ends i ≡ Some slot = slice_get_read ends (length ends) i slot refl within read in
    subst IsStuckIn (same_Some (Some stuck.0) slot (sym stuck.1 ∙ here)) stuck.2

-- and what is read there is its result
stuck_at : (ends : List (Option JobResult)) (i : ℕ) (slot : Option JobResult) → slice_get ends i ≡ Some slot → IsStuckIn slot → IsStuckAt ends i
stuck_at ends i None here stuck = absurd stuck
stuck_at ends i (Some end) here stuck = (end, here, stuck)

-- what is read as a stuck search is the job's
pub stuck_here : (ends : List (Option JobResult)) (i : ℕ) (slot : Option JobResult) → i < length ends → slot ≡ get_or ends i slot → IsStuckIn slot → IsStuckAt ends i
stuck_here ends i slot within read stuck = stuck_at ends i slot (slice_get_read ends (length ends) i slot refl within read) stuck

-- no job below the next is stuck
pub not_stuck_more : (ends : List (Option JobResult)) (i : ℕ) → ((k : ℕ) → k < i → ¬ IsStuckAt ends k) → ¬ IsStuckAt ends i → (k : ℕ) → k < i + 1 → ¬ IsStuckAt ends k
not_stuck_more ends i = below_more (λ k. ¬ IsStuckAt ends k) i

-- a stuck job stands within the list
pub stuck_within : (ends : List (Option JobResult)) (i : ℕ) → IsStuckAt ends i → i < length ends
stuck_within ends i stuck = slice_get_within ends i (Some stuck.0) stuck.1

-- the proofs below the next job win
pub won_more : (ends : List (Option JobResult)) (i : ℕ) (slot : Option JobResult) → i < length ends → slot ≡ get_or ends i slot → HasWonIn slot
    → ((k : ℕ) → k < i → (end : JobResult) → HasEnd ends k end → IsStuckOrWon end) → (k : ℕ) → k < i + 1 → (end : JobResult) → HasEnd ends k end → IsStuckOrWon end
won_more ends i slot within read won below =
    let here : slice_get ends i ≡ Some slot = slice_get_read ends (length ends) i slot refl within read in
    below_more (λ k. (end : JobResult) → HasEnd ends k end → IsStuckOrWon end) i below (λ end at. subst HasWonIn (same_Some slot (Some end) (sym here ∙ at)) won)

-- so do all proofs, once each slot was read
pub all_won : (ends : List (Option JobResult)) → ((k : ℕ) → k < length ends → (end : JobResult) → HasEnd ends k end → IsStuckOrWon end) → AllStuckOrWon ends
all_won ends won job end at = won job (slice_get_within ends job (Some end) at) end at

-- no job of the list has a win
pub no_win : (side : Side) (ends : List (Option JobResult)) → ((k : ℕ) → k < length ends → ¬ IsWinAt side ends k) → NoWin side ends
no_win side ends none job win = none job (slice_get_within ends job (Some win.0) win.1) win

-- one more job has a result
pub filled_more : (old new : List (Option JobResult)) (i : ℕ) → FilledBelow i old → ((k : ℕ) → k ≢ i → slice_get new k ≡ slice_get old k) → HasResult new i → FilledBelow (i + 1) new
filled_more old new i below same this =
    let others : FilledBelow i new = λ k low. (let had = below k low in let other : k ≢ i = λ e. absurd (omega (arith, low, e)) in (had.0, same k other ∙ had.1)) in
    below_more (λ k. HasResult new k) i others this

-- all is ready where a job has a win
pub ready_by : {side : Side} {ends : List (Option JobResult)} {job : ℕ} → IsLeastWin side ends job → IsReady side ends
ready_by {side} {ends} {job} least = inl (job, least.wins)

-- all is ready, and no job has a win: then none is missing
pub not_missing : (side : Side) (ends now : List (Option JobResult)) (i : ℕ) → NoWin side ends → IsReady side ends → i < length ends → slice_get now i ≡ slice_get ends i
    → slice_get now i ≡ Some None → ⊥
not_missing side ends now i none ready within same missing = elim ready [
  | inl h ↦ none h.0 h.1
  | inr h ↦ let had = h i within in none-some had.0 (same_Some None (Some had.0) (sym missing ∙ (same ∙ had.1)))
]

-- nor is any
pub all_filled : (side : Side) (ends : List (Option JobResult)) → NoWin side ends → IsReady side ends → FilledBelow (length ends) ends
all_filled side ends none ready = elim ready [
  | inl h ↦ absurd (none h.0 h.1)
  | inr h ↦ h
]

-- a result that ends so is stuck
pub stuck_of : (end : JobResult) (reason : Reason) (search : Option SearchState) → end_of end ≡ Stuck reason search → IsStuck end
stuck_of (result.Settled p) reason search is = cc
stuck_of (result.Stuck r s) reason search is = tt
stuck_of result.Dropped reason search is = tt
stuck_of result.NoMemory reason search is = tt

-- a result that ends with a proof is that proof
pub settled_of : (end : JobResult) (p : ProofClaim) → end_of end ≡ Settled p → end ≡ result.Settled p
settled_of (result.Settled q) p is = let same : q ≡ p = cc in ap (λ (x : ProofClaim). result.Settled x) same
settled_of (result.Stuck r s) p is = absurd cc
settled_of result.Dropped p is = absurd cc
settled_of result.NoMemory p is = absurd cc

-- a least stuck job is stuck
pub stuck_there : (ends : List (Option JobResult)) (job : ℕ) (reason : Reason) (search : Option SearchState) → IsLeastStuck ends job reason search → IsStuckAt ends job
stuck_there ends job reason search least = (least.stuck.0, least.stuck.1, stuck_of least.stuck.0 reason search least.stuck.2)

-- there is one least win
least_same : (side : Side) (ends : List (Option JobResult)) (a b : ℕ) → IsLeastWin side ends a → IsLeastWin side ends b → a ≡ b
least_same side ends a b v w = elim (cases_lt a b) [
  | inl h ↦ absurd (w.least a h v.wins)
  | inr h ↦ elim (cases_lt b a) [
    | inl g ↦ absurd (v.least b g w.wins)
    | inr g ↦ omega arith
  ]
]

-- the turn of the least win is that of each least win
pub same_turn : (side : Side) (ends : List (Option JobResult)) (turns : List Turn) (i : ℕ) (t : Turn) → IsLeastWin side ends i → t ≡ get_or turns i t → (job : ℕ) (turn : Turn)
    → IsLeastWin side ends job → slice_get turns job ≡ Some turn → t ≡ turn
same_turn side ends turns i t least at job turn win is =
    let same = least_same side ends job i win least in
    at ∙ get_or_from_slice_get turns i turn t (subst (λ n. slice_get turns n ≡ Some turn) same is)

-- there is one least stuck job
pub stuck_same : (ends : List (Option JobResult)) (i job : ℕ) (reason : Reason) (search : Option SearchState) → IsStuckAt ends i → ((k : ℕ) → k < i → ¬ IsStuckAt ends k)
    → IsLeastStuck ends job reason search → i ≡ job
stuck_same ends i job reason search here lesser least = elim (cases_lt i job) [
  | inl h ↦ absurd (least.least (i, h, here))
  | inr h ↦ elim (cases_lt job i) [
    | inl g ↦ absurd (lesser job g (stuck_there ends job reason search least))
    | inr g ↦ omega arith
  ]
]

-- and it says one thing
pub same_stuck : (line : LineWithUndo) (ends : List (Option JobResult)) (i job : ℕ) (t turn : Turn) (r reason : Reason) (o search : Option SearchState) (end : JobResult) → i ≡ job → HasEnd ends i end
    → end_of end ≡ Stuck r o → IsLeastStuck ends job reason search → IsJob line i t → IsJob line job turn → (t ≡ turn) × (r ≡ reason) × (o ≡ search)
same_stuck line ends i job t turn r reason o search end same here is least at_i at_job =
    let other = least.stuck.0 in
    let both : Some (Some end) ≡ Some (Some other) = sym here ∙ (ap (λ n. slice_get ends n) same ∙ least.stuck.1) in
    let one : end ≡ other = same_Some end other (same_Some (Some end) (Some other) both) in
    let all : Stuck r o ≡ Stuck reason search = sym is ∙ (ap end_of one ∙ least.stuck.2) in
    let turns : Some t ≡ Some turn = sym at_i ∙ (ap (λ n. slice_get (legal_turns line.frame line.state) n) same ∙ at_job) in
    let a : t ≡ turn = same_Some t turn turns in
    let b : r ≡ reason = cc in
    let d : o ≡ search = cc in
    (a, b, d)

-- a job whose result is a proof isn't stuck
pub settled_here : (ends : List (Option JobResult)) (i : ℕ) (end : JobResult) (p : ProofClaim) → HasEnd ends i end → end_of end ≡ Settled p → ¬ IsStuckAt ends i
settled_here ends i end p here is stuck =
    let same : stuck.0 ≡ end = same_Some stuck.0 end (same_Some (Some stuck.0) (Some end) (sym stuck.1 ∙ here)) in
    subst IsStuck (same ∙ settled_of end p is) stuck.2

-- the side and the list of a scan are those of the line
pub none_at : (side a : Side) (ends xs : List (Option JobResult)) → a ≡ side → xs ≡ ends → NoWin a xs → NoWin side ends
none_at side a ends xs is_side is_list none = subst (λ s. NoWin s ends) is_side (subst (λ (l : List (Option JobResult)). NoWin a l) is_list none)

-- so is the least win
pub least_at : (side a : Side) (ends xs : List (Option JobResult)) (job : ℕ) → a ≡ side → xs ≡ ends → IsLeastWin a xs job → IsLeastWin side ends job
least_at side a ends xs job is_side is_list least = subst (λ s. IsLeastWin s ends job) is_side (subst (λ (l : List (Option JobResult)). IsLeastWin a l job) is_list least)

-- the turn that is read at a slot is the job's
pub job_here : (line : LineWithUndo) (turns : List Turn) (i n : ℕ) (t : Turn) → turns ≡ legal_turns line.frame line.state → n ≡ i → i < length turns → t ≡ get_or turns i t → IsJob line n t
job_here line turns i n t all same within read =
    let here : slice_get turns i ≡ Some t = slice_get_read turns (length turns) i t refl within read in
    subst (λ (ts : List Turn). slice_get ts n ≡ Some t) all (subst (λ k. slice_get turns k ≡ Some t) (sym same) here)

-- behind what is taken, the rest is as it was
pub rest_same : (first old new : List (Option JobResult)) (i : ℕ) → ((k : ℕ) → i ≤ k → slice_get old k ≡ slice_get first k) → new ≡ slice_set old i None → (k : ℕ) → i + 1 ≤ k
    → slice_get new k ≡ slice_get first k
rest_same first old new i same taken k low =
    let other : k ≢ i = λ e. absurd (omega (arith, low, e)) in
    ap (λ (l : List (Option JobResult)). slice_get l k) taken ∙ (get_set_other old i k None other ∙ same k (omega (arith, low)))

-- a proof that isn't the side's is its opponent's
other_side : (a b : Side) → a ≢ b → a ≡ opponent b
other_side Attacker Attacker other = absurd (other refl)
other_side Attacker Defender other = refl
other_side Defender Attacker other = refl
other_side Defender Defender other = absurd (other refl)

-- where no job has a win each proof is the opponent's
pub lost_side : (side : Side) (ends : List (Option JobResult)) (i : ℕ) (end : JobResult) (p : ProofClaim) → NoWin side ends → end_of end ≡ Settled p → HasEnd ends i end → p.side ≡ opponent side
lost_side side ends i end p none is here = other_side p.side side (λ same. none i (result.Settled p, subst (HasEnd ends i) (settled_of end p is) here, same))

-- a win stands within the list
pub win_within : (side : Side) (ends : List (Option JobResult)) (i : ℕ) → IsWinAt side ends i → i < length ends
win_within side ends i win = slice_get_within ends i (Some win.0) win.1

-- what fits a job's slot is how the search behind its turn ends
pub ends_here : (line : LineWithUndo) (limits : Limits) (i : ℕ) (t : Turn) (end : JobResult) (is : End) → end_of end ≡ is → IsResultOf line limits i end → IsJob line i t → EndsBehind line limits t is
ends_here line limits i t end is same fits job = subst (EndsBehind line limits t) same (fits t job)

-- a win stood there before, where its slot is as it was
pub win_kept : (side : Side) (old new : List (Option JobResult)) (k : ℕ) → slice_get new k ≡ slice_get old k → IsWinAt side new k → IsWinAt side old k
win_kept side old new k same win = (win.0, sym same ∙ win.1, win.2)

-- one more job has no win
pub lost_more : (side : Side) (old new : List (Option JobResult)) (i : ℕ) → ((k : ℕ) → k < i → ¬ IsWinAt side old k) → ((k : ℕ) → k ≢ i → slice_get new k ≡ slice_get old k)
    → ¬ IsWinAt side new i → (k : ℕ) → k < i + 1 → ¬ IsWinAt side new k
lost_more side old new i lost same this =
    let below : (k : ℕ) → k < i → ¬ IsWinAt side new k = λ k low win. (let other : k ≢ i = λ e. absurd (omega (arith, low, e)) in lost k low (win_kept side old new k (same k other) win)) in
    no_win_more side new i below this

-- and the jobs behind it are as they were
pub same_more : (first old new : List (Option JobResult)) (i : ℕ) → ((k : ℕ) → i ≤ k → slice_get old k ≡ slice_get first k) → ((k : ℕ) → k ≢ i → slice_get new k ≡ slice_get old k)
    → (k : ℕ) → i + 1 ≤ k → slice_get new k ≡ slice_get first k
same_more first old new i was same k low =
    let other : k ≢ i = λ e. absurd (omega (arith, low, e)) in
    same k other ∙ was k (omega (arith, low))

-- the first win is that of the last job that was searched
pub stops_at : (side : Side) (first old new : List (Option JobResult)) (i : ℕ) → ((k : ℕ) → k < i → ¬ IsWinAt side old k) → ((k : ℕ) → i ≤ k → slice_get old k ≡ slice_get first k)
    → ((k : ℕ) → k ≢ i → slice_get new k ≡ slice_get old k) → StopsAtWin side first new
stops_at side first old new i lost was same job later win low = elim (cases_lt job i) [
  | inl h ↦
      let other : job ≢ i = λ e. absurd (omega (arith, h, e)) in
      absurd (lost job h (win_kept side old new job (same job other) win))
  | inr h ↦ same_more first old new i was same later (omega arith)
]

-- with no win there is nothing to say
pub stops_never : (side : Side) (first new : List (Option JobResult)) → NoWin side new → StopsAtWin side first new
stops_never side first new none job later win low = absurd (none job win)
