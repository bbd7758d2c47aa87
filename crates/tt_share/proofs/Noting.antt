-- What is noted of the jobs' counts.
use Rattle.std.proofs.Common.{◌≡◌, ℕ, zero, suc, ◌+◌, ◌<◌, ◌≤◌, List, [], ◌∷◌, Bool, true, false, Option, Some, None, slice_get, slice_set, get_or, map, replicate, length, sum_by}
use Rattle.std.proofs.Common.{All, IfSome, refl, sym, ap, subst, ◌∙◌, arith}
use Rattle.std.proofs.lemmas.List.{length-set}
use Rattle.std.proofs.lemmas.List.Sums.{sum_by-cons}
use Rattle.std.proofs.lemmas.Option.{same_Some, none-some, slice_get_within, slice_get-map, slice_get-get_or, get_or_from_slice_get}
use Rattle.std.specs.Option.{option_map}
use mathlib.Core.Logic.{dite}
use native.Mathlib.Decide.{ℕ_discrete}
use Rattle.tt_game.specs.declared.turns.Turn.{Turn}
use Rattle.tt_game.specs.Line.{LineWithUndo}
use Rattle.tt_game.specs.Turns.{legal_turns}
use Rattle.tt_search.specs.Numbers.{count}
use Rattle.tt_search.specs.SearchState.{SearchState}
use Rattle.tt_search.specs.declared.limits.Limits.{Limits}
use Rattle.tt_search.specs.declared.limits.Reason.{Reason}
use Rattle.tt_search.specs.declared.limits.Reason.TheVariants.{Total}
use Rattle.tt_share.specs.declared.jobs.JobResult.{JobResult}
use Rattle.tt_search.specs.declared.search.End.TheVariants.{Stuck}
use Rattle.tt_share.specs.declared.jobs.JobResult.TheVariants as result
use Rattle.tt_share.specs.Answers.{AreSearchCounts, IsExpandedInAll, IsSearchCountAfter, IsSpent, IsWithinTotal, spent_in_all}
use Rattle.tt_share.specs.inside.Jobs.{IsCounted, IsForTotal, IsJobCount, IsJob, end_of, kept_of}
use Rattle.tt_share.specs.inside.Results.{ResultsSoFar, AreNoted, HasEnd, FilledBelow, KeepsTotal}
use Rattle.tt_share.proofs.Counting.{none_begun}
use Rattle.tt_share.proofs.ResultLemmas.{get_set_same, get_set_other}

-- what holds of a total, where there is one
pub if_some : (total : Option ℕ) (P : ℕ → Type 0) → ((n : ℕ) → total ≡ Some n → P n) → IfSome total P
if_some None P h = tt
if_some (Some n) P h = h n refl

-- what stands at a slot stands there as its image
map_at : {A B : Type 0} (f : A → B) (xs : List A) (i : ℕ) (x : A) → slice_get xs i ≡ Some x → slice_get (map f xs) i ≡ Some (f x)
map_at f xs i x is = slice_get-map f xs i ∙ ap (option_map f) is

-- what is put with the same image leaves the images
map_put : {A B : Type 0} (f : A → B) (xs : List A) (i : ℕ) (x y : A) → slice_get xs i ≡ Some x → f y ≡ f x → map f (slice_set xs i y) ≡ map f xs
map_put f [] i x y is same = refl
map_put f (z ∷ zs) zero x y is same = ap (λ w. w ∷ map f zs) (same ∙ ap f (sym (same_Some z x is)))
map_put f (z ∷ zs) (suc i) x y is same = ap (λ l. f z ∷ l) (map_put f zs i x y is same)

-- what is put changes the sum by as much as it weighs more
sum_put : {A : Type 0} (f : A → ℕ) (xs : List A) (i : ℕ) (x y : A) → slice_get xs i ≡ Some x → sum_by f (slice_set xs i y) + f x ≡ sum_by f xs + f y
sum_put f [] i x y is = absurd (none-some x is)
sum_put f (z ∷ zs) zero x y is = let e = ap f (same_Some z x is) in omega (arith, sum_by-cons f z zs, sum_by-cons f y zs, e)
sum_put f (z ∷ zs) (suc i) x y is = let e = sum_put f zs i x y is in omega (arith, sum_by-cons f z zs, sum_by-cons f z (slice_set zs i y), e)

not_free : {X : Type 0} (x : X) → Some (Some x) ≡ Some None → ⊥
not_free x e = none-some x (sym (same_Some (Some x) None e))

-- a count is that of an end also as it is kept
pub kept_counted : (line : LineWithUndo) (limits : Limits) (t : Turn) (past : Bool) (n : ℕ) (end : JobResult) → IsCounted line limits t n (end_of end)
    → IsCounted line limits t n (end_of (kept_of past end))
kept_counted line limits t false n end h = h
kept_counted line limits t true n (result.Settled p) h = h
kept_counted line limits t true n (result.Stuck reason search) h = (h.0, tt)
kept_counted line limits t true n result.Dropped h = h
kept_counted line limits t true n result.NoMemory h = h

pub kept_count : (line : LineWithUndo) (limits : Limits) (job : ℕ) (past : Bool) (n : ℕ) (end : JobResult) → IsJobCount line limits job n end → IsJobCount line limits job n (kept_of past end)
kept_count line limits job past n end h t at = kept_counted line limits t past n end (h t at)

-- a result and its count are put where there was none
module _ (line : LineWithUndo) (limits : Limits) (ends : List (Option JobResult)) (spent : List (Turn × ℕ)) (job : ℕ) (e : Turn × ℕ) (was : AreNoted line limits ends spent)
    (free : slice_get ends job ≡ Some None) (at : slice_get spent job ≡ Some e) where
  own_turn : IsJob line job e.0
  own_turn = subst (λ (ts : List Turn). slice_get ts job ≡ Some e.0) was.turns (map_at (λ (x : Turn × ℕ). x.0) spent job e at)

  pub noted_put : (end : JobResult) (n : ℕ) → IsJobCount line limits job n end → AreNoted line limits (slice_set ends job (Some end)) (slice_set spent job (e.0, n))
  noted_put end n count = record {
    turns = map_put (λ (x : Turn × ℕ). x.0) spent job e (e.0, n) at refl ∙ was.turns;
    each = length-set spent job (e.0, n) ∙ (was.each ∙ sym (length-set ends job (Some end)));
    unspent = λ k x none here. dite (ℕ_discrete k job)
        (λ same. absurd (not_free end (sym (get_set_same ends job (Some end) None free) ∙ (ap (λ i. slice_get (slice_set ends job (Some end)) i) (sym same) ∙ none))))
        (λ other. was.unspent k x (sym (get_set_other ends job k (Some end) other) ∙ none) (sym (get_set_other spent job k (e.0, n) other) ∙ here));
    noted = λ k last x has here. dite (ℕ_discrete k job)
        (λ same.
        (let a : Some (Some end) ≡ Some (Some last) = sym (get_set_same ends job (Some end) None free) ∙ (ap (λ i. slice_get (slice_set ends job (Some end)) i) (sym same) ∙ has) in
        let b : Some (e.0, n) ≡ Some x = sym (get_set_same spent job (e.0, n) e at) ∙ (ap (λ i. slice_get (slice_set spent job (e.0, n)) i) (sym same) ∙ here) in
        subst (λ (y : Turn × ℕ). IsCounted line limits y.0 y.1 (end_of last)) (same_Some (e.0, n) x b)
        (subst (λ (x : JobResult). IsCounted line limits e.0 n (end_of x)) (same_Some end last (same_Some (Some end) (Some last) a)) (count e.0 own_turn))))
        (λ other. was.noted k last x (sym (get_set_other ends job k (Some end) other) ∙ has) (sym (get_set_other spent job k (e.0, n) other) ∙ here));
  }

  pub sum_noted : (n : ℕ) → spent_in_all (slice_set spent job (e.0, n)) ≡ spent_in_all spent + n
  sum_noted n = let s = sum_put (λ (x : Turn × ℕ). x.1) spent job e (e.0, n) at in let z = was.unspent job e free at in omega (arith, s, z)

-- each that is read of a list meets what all meet
pub all_at : {A : Type 0} (P : A → Type 0) (xs : List A) (i : ℕ) (x : A) → slice_get xs i ≡ Some x → All P xs → P x
all_at P [] i x is all = absurd (none-some x is)
all_at P (y ∷ ys) zero x is all = subst P (same_Some y x is) (all 0 y (omega arith))
all_at P (y ∷ ys) (suc i) x is all = all_at P ys i x is (λ k d short. all (suc k) d (omega (arith, short)))

-- where nothing is known no end is read
pub blank_none : (n i : ℕ) (end : JobResult) → slice_get (replicate n None) i ≡ Some (Some end) → ⊥
blank_none zero i end is = none-some (Some end) is
blank_none (suc n) zero end is = none-some end (same_Some None (Some end) is)
blank_none (suc n) (suc i) end is = blank_none n i end is

-- before anything is known, nothing was expanded
pub blank_noted : (line : LineWithUndo) (limits : Limits) (ends : List (Option JobResult)) (spent : List (Turn × ℕ)) (n : ℕ) → map (λ (e : Turn × ℕ). e.0) spent ≡ legal_turns line.frame line.state
    → length spent ≡ length ends → All (λ (e : Turn × ℕ). e.1 ≡ 0) spent → ends ≡ replicate n None → AreNoted line limits ends spent
blank_noted line limits ends spent n turns each none blank = record {
  turns = turns;
  each = each;
  unspent = λ job e free at. all_at (λ (x : Turn × ℕ). x.1 ≡ 0) spent job e at none;
  noted = λ job end e has at. absurd (blank_none n job end (ap (λ (l : List (Option JobResult)). slice_get l job) (sym blank) ∙ has));
}

pub blank_sum : (spent : List (Turn × ℕ)) → All (λ (e : Turn × ℕ). e.1 ≡ 0) spent → spent_in_all spent ≡ 0
blank_sum [] none = refl
blank_sum (e ∷ spent) none =
    let one = none 0 e (omega arith) in
    let more = blank_sum spent (λ k d short. none (suc k) d (omega (arith, short))) in
    omega (arith, one, more, sum_by-cons (λ (x : Turn × ℕ). x.1) e spent)

-- what is noted are counts of searches: where a job has no result, of one that begins
pub search_counts : (line : LineWithUndo) (limits : Limits) (ends : List (Option JobResult)) (spent : List (Turn × ℕ)) → 1 ≤ limits.depth → AreNoted line limits ends spent
    → AreSearchCounts line limits spent
search_counts line limits ends spent deep noted = record {
  turns = noted.turns;
  counts = λ k d short. counted k (get_or spent k d) (omega (arith, short, noted.each)) (slice_get-get_or spent k d short);
}
  where
    counted_at : (k : ℕ) (e : Turn × ℕ) (end : Option (Option JobResult)) → k < length ends → slice_get spent k ≡ Some e → slice_get ends k ≡ end → IsSearchCountAfter line limits e.0 e.1
    counted_at k e None low there is = absurd (none-some (get_or ends k None) (sym is ∙ slice_get-get_or ends k None low))
    counted_at k e (Some None) low there is = subst (λ (n : ℕ). IsSearchCountAfter line limits e.0 n) (sym (noted.unspent k e is there)) (none_begun line limits e.0 deep)
    counted_at k e (Some (Some end)) low there is = (noted.noted k end e is there).0

    counted : (k : ℕ) (e : Turn × ℕ) → k < length ends → slice_get spent k ≡ Some e → IsSearchCountAfter line limits e.0 e.1
    counted k e low there = counted_at k e (slice_get ends k) low there refl

-- no search expanded anything
module _ (line : LineWithUndo) (limits : Limits) (deep : 1 ≤ limits.depth) where
  unspent : List Turn → List (Turn × ℕ)
  unspent [] = []
  unspent (t ∷ ts) = (t, 0) ∷ unspent ts

  unspent_turns : (ts : List Turn) → map (λ (e : Turn × ℕ). e.0) (unspent ts) ≡ ts
  unfolding unspent
  unspent_turns [] = refl
  unspent_turns (t ∷ ts) = ap (λ (l : List Turn). t ∷ l) (unspent_turns ts)

  unspent_counts : (ts : List Turn) (k : ℕ) (d : Turn × ℕ) → k < length (unspent ts) → IsSearchCountAfter line limits (get_or (unspent ts) k d).0 (get_or (unspent ts) k d).1
  unfolding unspent
  unspent_counts [] k d short = absurd (omega (arith, short))
  unspent_counts (t ∷ ts) zero d short = none_begun line limits t deep
  unspent_counts (t ∷ ts) (suc k) d short = unspent_counts ts k d (omega (arith, short))

  unspent_sum : (ts : List Turn) → spent_in_all (unspent ts) ≡ 0
  unfolding unspent
  unspent_sum [] = refl
  unspent_sum (t ∷ ts) = let more = unspent_sum ts in omega (arith, more, sum_by-cons (λ (e : Turn × ℕ). e.1) (t, 0) (unspent ts))

  pub none_expanded : IsExpandedInAll line limits 0
  none_expanded =
      let turns = legal_turns line.frame line.state in
      (unspent turns, record { turns = unspent_turns turns; counts = unspent_counts turns }, unspent_sum turns)

-- where every job has a result and the searches keep to the total, the counts tell how
module _ (p : ResultsSoFar) (total : Option ℕ) (job : ℕ) (t : Turn) (held : SearchState) (end : JobResult) (reason : Reason) (noted : AreNoted p.line p.limits p.ends p.spent)
    (filled : FilledBelow (length p.ends) p.ends) (here : HasEnd p.ends job end) (is : end_of end ≡ Stuck reason (Some held)) (at : IsJob p.line job t) (keeps : KeepsTotal total p) where
  -- the search that is stuck is among those that were counted
  spent_is : IsSpent p.line p.limits (spent_in_all p.spent) t held p.spent
  spent_is =
      let within = slice_get_within p.ends job (Some end) here in
      let low : job < length p.spent = omega (arith, within, noted.each) in
      let e : Turn × ℕ = get_or p.spent job (t, 0) in
      let there : slice_get p.spent job ≡ Some e = slice_get-get_or p.spent job (t, 0) low in
      let own : count held.tree ≡ e.1 = (subst (IsCounted p.line p.limits e.0 e.1) is (noted.noted job end e here there)).1 in
      let turns = subst (λ (ts : List Turn). slice_get ts job ≡ Some e.0) noted.turns (map_at (λ (x : Turn × ℕ). x.0) p.spent job e there) in
      let turn : e.0 ≡ t = same_Some e.0 t (sym turns ∙ at) in
      let pair : e ≡ (t, count held.tree) = ap (λ (u : Turn). (u, e.1)) turn ∙ ap (λ (m : ℕ). (t, m)) (sym own) in record {
        by = record {
          turns = noted.turns;
          counts = λ k d short.
              (let had = filled k (omega (arith, short, noted.each)) in (noted.noted k had.0 (get_or p.spent k d) had.1 (slice_get-get_or p.spent k d short)).0);
        };
        own = (job, low, get_or_from_slice_get p.spent job (t, count held.tree) (t, count held.tree) (there ∙ ap Some pair));
        in_all = refl;
      }

  pub within_told : IsWithinTotal p.line p.limits total t held
  within_told = (spent_in_all p.spent, p.spent, spent_is, if_some total (λ most. spent_in_all p.spent ≤ most) keeps.within)

  pub spent_told : reason ≡ Total → (n : ℕ) × (total ≡ Some n) × IsSpent p.line p.limits n t held p.spent
  spent_told e =
      let stuck : end_of end ≡ Stuck Total (Some held) = is ∙ ap (λ (r : Reason). Stuck r (Some held)) e in
      let h = keeps.all (job, end, here, subst IsForTotal (sym stuck) tt) in
      (h.0, h.1, subst (λ (n : ℕ). IsSpent p.line p.limits n t held p.spent) h.2 spent_is)
