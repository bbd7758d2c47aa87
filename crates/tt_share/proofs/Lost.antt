-- Turns that have lost.
use Rattle.std.proofs.Common.{◌≡◌, ℕ, ◌+◌, ◌<◌, ◌≤◌, ◌++◌, List, [], ◌∷◌, All, Contains, get_or, length, take, sym, ap, ◌∙◌, subst, arith, inl, inr, get_or-take, length-take, length-append, suc}
use Rattle.std.proofs.lemmas.Bool.{cases_lt}
use Rattle.std.proofs.lemmas.List.{get_or_default, get_or-map, length-map, map-append, take_more}
use Rattle.std.proofs.lemmas.List.Elements.{All-push}
use Rattle.std.proofs.lemmas.Option.{slice_get_within, get_or_from_slice_get}
use Rattle.tt_game.specs.declared.frame.Frame.{Frame}
use Rattle.tt_game.specs.declared.turns.Turn.{Turn}
use Rattle.tt_game.specs.Game.{IsLegal, after, opponent, Forces}
use Rattle.tt_game.specs.Line.{LineWithUndo}
use Rattle.tt_game.specs.Turns.{legal_turns, turn_number, IsRising}
use Rattle.tt_game.specs.laws.TurnLaws.{contains-legal_turns, rising-legal_turns}
use Rattle.tt_proof.proofs.ForcesLemmas.{win_forces}
use Rattle.tt_proof.specs.Strategy.{depth, depth_of_entries, entries_of}
use Rattle.tt_proof.specs.ProofClaim.{ProofClaim, AreReplyChildren, trees_by_turn, turns_of}
use Rattle.tt_search.specs.declared.limits.Limits.{Limits}
use Rattle.tt_share.specs.Answers.{LesserTurnsLose}
use Rattle.tt_share.specs.inside.Jobs.{IsJob}
use Rattle.tt_share.specs.inside.Results.{IsLost, HaveLost}

-- what holds of each element holds of the first one and of each of the others
pub first_of_all : {X : Type 0} (P : X → Type 0) (x : X) (xs : List X) → All P (x ∷ xs) → P x
first_of_all P x xs all = all 0 x (omega arith)

pub rest_of_all : {X : Type 0} (P : X → Type 0) (x : X) (xs : List X) → All P (x ∷ xs) → All P xs
rest_of_all P x xs all k d short = all (suc k) d (omega arith)

-- they are children of a reply
pub are_children : (line : LineWithUndo) (limits : Limits) (cs : List (Turn × ProofClaim)) → limits.depth ≤ 512 → All (IsLost line limits) cs → AreReplyChildren line.frame line.state cs
are_children line limits [] most all = tt
are_children line limits (c ∷ cs) most all =
    let lost = first_of_all (IsLost line limits) c cs all in
    (record { stands = lost.stands; same_side = lost.side; shallow = omega (arith, lost.shallow) }, are_children line limits cs most (rest_of_all (IsLost line limits) c cs all))

-- and the reply is within the limit on depth
pub reply_is_low : (line : LineWithUndo) (limits : Limits) (cs : List (Turn × ProofClaim)) → All (IsLost line limits) cs → depth_of_entries (entries_of (trees_by_turn cs)) ≤ limits.depth
reply_is_low line limits [] all = omega arith
reply_is_low line limits (c ∷ cs) all =
    let lost = first_of_all (IsLost line limits) c cs all in
    let rest = reply_is_low line limits cs (rest_of_all (IsLost line limits) c cs all) in
    omega (arith, lost.shallow, rest)

-- one more turn that has lost
pub one_more : (line : LineWithUndo) (limits : Limits) (cs : List (Turn × ProofClaim)) (c : Turn × ProofClaim) → HaveLost line limits cs → IsJob line (length cs) c.0 → IsLost line limits c
    → HaveLost line limits (cs ++ c ∷ [])
one_more line limits cs c lost job this =
    let all = legal_turns line.frame line.state in
    let there : get_or all (length cs) c.0 ≡ c.0 = get_or_from_slice_get all (length cs) c.0 c.0 job in
    let more : take (length cs + 1) all ≡ take (length cs) all ++ get_or all (length cs) c.0 ∷ [] = take_more all (length cs) c.0 (slice_get_within all (length cs) c.0 job) in
    let len : length (cs ++ c ∷ []) ≡ length cs + 1 = omega (arith, length-append cs (c ∷ [])) in
    let turns : turns_of (cs ++ c ∷ []) ≡ turns_of cs ++ c.0 ∷ [] = map-append (λ (e : Turn × ProofClaim). e.0) cs (c ∷ []) in
    record {
      turns = rw (len, more, there, ← lost.turns) turns;
      each = All-push (IsLost line limits) cs c lost.each this;
    }

-- what holds of the turn of each pair holds of each of the turns
of_turns : (P : Turn → Type 0) (cs : List (Turn × ProofClaim)) → All (λ (c : Turn × ProofClaim). P c.0) cs → (t : Turn) → Contains (turns_of cs) t → P t
of_turns P [] all t h = absurd (omega (arith, h.1))
of_turns P (c ∷ cs) all t h =
    let first : Turn × ProofClaim → Turn = λ (e : Turn × ProofClaim). e.0 in
    let short : h.0 < length (c ∷ cs) = simp length-map at h.1 in
    let same : t ≡ first (get_or (c ∷ cs) h.0 c) = sym h.2 ∙ get_or-map first (c ∷ cs) h.0 c t short in
    subst P (sym same) (all h.0 c short)

-- a turn of a lesser number stands before the one at i
before_it : (f : Frame) (ts : List Turn) → IsRising f ts → (i k : ℕ) (t u : Turn) → i < length ts → k < length ts → get_or ts i t ≡ t → get_or ts k t ≡ u → turn_number f u < turn_number f t → k < i
before_it f ts rising i k t u hi hk at_i at_k low = elim (cases_lt k i) [
  | inl h ↦ h
  | inr h ↦ elim (cases_lt i k) [
    | inl g ↦
        let r : turn_number f (get_or ts i t) < turn_number f (get_or ts k t) = rising i k t g hk in
        let q : turn_number f t < turn_number f u = rw (at_i, at_k) at r in
        absurd (omega arith)
    | inr g ↦
        let e : i ≡ k = omega arith in
        let same : t ≡ u = sym at_i ∙ (ap (λ n. get_or ts n t) e ∙ at_k) in
        let q : turn_number f u < turn_number f u = rw same at low in
        absurd (omega arith)
  ]
]

-- a legal turn of a lesser number is among those before the one at i
among_first : (line : LineWithUndo) (i : ℕ) (t u : Turn) → IsJob line i t → IsLegal line.frame line.state u → turn_number line.frame u < turn_number line.frame t
    → Contains (take i (legal_turns line.frame line.state)) u
among_first line i t u job legal low =
    let all = legal_turns line.frame line.state in
    let h = (contains-legal_turns line.frame line.state u).1 legal in
    let within = slice_get_within all i t job in
    let at_i = get_or_from_slice_get all i t t job in
    let at_k : get_or all h.0 t ≡ u = get_or_default all h.0 t u h.1 ∙ h.2 in
    let k = before_it line.frame all (rising-legal_turns line.frame line.state) i h.0 t u within h.1 at_i at_k low in
    let l = length-take i all in
    (h.0, grind (arith, l, within), get_or-take _ _ _ _ k ∙ h.2)

-- after a turn that has lost the other side forces
forces : (line : LineWithUndo) (limits : Limits) (c : Turn × ProofClaim) → IsLost line limits c → (n : ℕ) × Forces line.frame (opponent line.state.to_move) n (after line.frame line.state c.0)
forces line limits c lost =
    let w = win_forces c.1.side c.1.frame c.1.tree c.1.state lost.wins.wins in
    let a = subst (λ x. Forces c.1.frame x (depth c.1.tree) c.1.state) lost.side w in
    let b = subst (λ x. Forces x (opponent line.state.to_move) (depth c.1.tree) c.1.state) lost.stands.0 a in
    (depth c.1.tree, subst (λ x. Forces line.frame (opponent line.state.to_move) (depth c.1.tree) x) lost.stands.1 b)

-- the legal turns below the one behind them have lost
pub lesser_lose : (line : LineWithUndo) (limits : Limits) (cs : List (Turn × ProofClaim)) (t : Turn) → IsJob line (length cs) t → HaveLost line limits cs → LesserTurnsLose line.frame line.state t
lesser_lose line limits cs t job lost u legal low =
    let first = among_first line (length cs) t u job legal low in
    let first' : Contains (turns_of cs) u = subst (λ (ts : List Turn). Contains ts u) (sym lost.turns) first in
    of_turns (λ v. (n : ℕ) × Forces line.frame (opponent line.state.to_move) n (after line.frame line.state v)) cs (λ k d short. forces line limits (get_or cs k d) (lost.each k d short)) u first'

-- the turn of a job is legal
pub legal_job : (line : LineWithUndo) (i : ℕ) (t : Turn) → IsJob line i t → IsLegal line.frame line.state t
legal_job line i t job =
    let all = legal_turns line.frame line.state in
    (contains-legal_turns line.frame line.state t).0 (i, slice_get_within all i t job, get_or_from_slice_get all i t t job)
