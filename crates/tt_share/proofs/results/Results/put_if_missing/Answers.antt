use Rattle.std.proofs.Common.{◌≡◌, ◌<◌, ◌↔◌, ◌∙◌, IsTrue, List, Option, Some, None, slice_get, slice_set, length, sym, ap, subst, arith}
use Rattle.std.proofs.lemmas.List.{length-set}
use Rattle.std.proofs.lemmas.Option.{slice_get_within}
use Rattle.tt_share.specs.declared.jobs.JobResult.{JobResult}
use Rattle.tt_share.specs.Answers.{spent_in_all}
use Rattle.tt_share.specs.inside.Jobs.{IsResultOf, IsJobCount, AreResults, kept_of}
use Rattle.tt_share.specs.inside.Results.{ResultsSoFar, AreNoted, IsPastStuck}
use Rattle.tt_share.proofs.Noting.{noted_put, sum_noted, kept_count}
use Rattle.tt_share.proofs.ResultLemmas.{one_more_result, kept_result}
use Rattle.tt_share.proofs.Placing.{seen}
use Rattle.tt_share.proofs.results.Results.put_if_missing.Goals as goal

pub invariant_of-self : goal.invariant_of-self
invariant_of-self c =
    let line = c.self.inside.jobs.line.now in
    let limits = c.self.inside.jobs.limits in
    let job = c.args.searched.job in
    let found : IsResultOf line limits job c.args.searched.end =
    seen (λ l m. IsResultOf l m job c.args.searched.end) line limits c.self.inside.ends.items c.self.inside.spent.items c.args.self.now c.self.view_is c.requires.searched.0 in
    let this : IsResultOf line limits job c.dropped_if_lesser_stuck.result =
    subst (IsResultOf line limits job) (sym c.dropped_if_lesser_stuck.ensures) (kept_result line limits job c.is_some_lesser_stuck-past_stuck.result c.args.searched.end found) in
    let all = one_more_result line limits c.self.inside.ends.items job c.dropped_if_lesser_stuck.result c.self.invariant.are this in
    let ends : c.self.inside.ends.items ≡ c.args.self.now.ends = ap (λ (p : ResultsSoFar). p.ends) c.self.view_is in
    let free : slice_get c.self.inside.ends.items job ≡ Some None = ap (λ (l : List (Option JobResult)). slice_get l job) ends ∙ c.is_missing.ensures.free.0 c.if-is_missing.true in
    let note = c.note_spent.ensures.noted in
    let count : IsJobCount line limits job c.args.searched.spent c.args.searched.end =
    seen (λ l m. IsJobCount l m job c.args.searched.spent c.args.searched.end) line limits c.self.inside.ends.items c.self.inside.spent.items c.args.self.now c.self.view_is c.requires.searched.1 in
    let kept : IsJobCount line limits job c.args.searched.spent c.dropped_if_lesser_stuck.result = subst (IsJobCount line limits job c.args.searched.spent) (sym c.dropped_if_lesser_stuck.ensures)
    (kept_count line limits job c.is_some_lesser_stuck-past_stuck.result c.args.searched.spent c.args.searched.end count) in
    let noted = noted_put line limits c.self.inside.ends.items c.self.inside.spent.items job note.0 c.self.invariant.noted free note.1 c.dropped_if_lesser_stuck.result c.args.searched.spent kept in
    record {
      are = subst (AreResults line limits) (sym c.write_result.ensures.filled) all;
      noted = subst (λ (l : List (Option JobResult)). AreNoted line limits l c.note_spent.new.spent.items) (sym c.write_result.ensures.filled)
          (subst (AreNoted line limits (slice_set c.self.inside.ends.items job (Some c.dropped_if_lesser_stuck.result))) (sym note.2) noted);
      one_each = c.write_result.ensures.len ∙ c.self.invariant.one_each;
    }

pub returns-then-is_missing-clause-notes : goal.returns-then-is_missing-clause-notes
returns-then-is_missing-clause-notes c =
    let line = c.self.inside.jobs.line.now in
    let limits = c.self.inside.jobs.limits in
    let job = c.args.searched.job in
    let ends : c.self.inside.ends.items ≡ c.args.self.now.ends = ap (λ (p : ResultsSoFar). p.ends) c.self.view_is in
    let spent = ap (λ (p : ResultsSoFar). spent_in_all p.spent) c.self.view_is in
    let free : slice_get c.self.inside.ends.items job ≡ Some None = ap (λ (l : List (Option JobResult)). slice_get l job) ends ∙ c.is_missing.ensures.free.0 c.if-is_missing.true in
    let note = c.note_spent.ensures.noted in
    let more = sum_noted line limits c.self.inside.ends.items c.self.inside.spent.items job note.0 c.self.invariant.noted free note.1 c.args.searched.spent in
    let new = ap spent_in_all note.2 in record {
      put = λ _. omega (arith, spent, more, new);
      dropped = λ other. absurd (other (c.is_missing.ensures.free.0 c.if-is_missing.true));
    }

pub note_spent-requires : goal.note_spent-requires
note_spent-requires c =
    let ends : length c.self.inside.ends.items ≡ length c.args.self.now.ends = ap (λ (p : ResultsSoFar). length p.ends) c.self.view_is in
    let within : c.args.searched.job < length c.args.self.now.ends = slice_get_within c.args.self.now.ends c.args.searched.job None (c.is_missing.ensures.free.0 c.if-is_missing.true) in
    omega (arith, within, ends, c.self.invariant.noted.each, c.self.inside.spent.ok.0)

pub returns-then-is_missing-clause-puts : goal.returns-then-is_missing-clause-puts
returns-then-is_missing-clause-puts c =
    let job = c.args.searched.job in
    let ends : c.self.inside.ends.items ≡ c.args.self.now.ends = ap (λ (p : ResultsSoFar). p.ends) c.self.view_is in
    let past : IsTrue c.is_some_lesser_stuck-past_stuck.result ↔ IsPastStuck c.args.self.now.ends job =
    subst (λ (l : List (Option JobResult)). IsTrue c.is_some_lesser_stuck-past_stuck.result ↔ IsPastStuck l job) (c.as_slice.ensures.value ∙ ends) c.is_some_lesser_stuck-past_stuck.ensures in
    let put : c.write_result.new.ends.items ≡ slice_set c.args.self.now.ends job (Some (kept_of c.is_some_lesser_stuck-past_stuck.result c.args.searched.end)) =
    c.write_result.ensures.filled ∙ ap (λ l. slice_set l job (Some c.dropped_if_lesser_stuck.result)) ends
    ∙ ap (λ (e : JobResult). slice_set c.args.self.now.ends job (Some e)) c.dropped_if_lesser_stuck.ensures in
    record {
      put = λ free. (c.is_some_lesser_stuck-past_stuck.result, past, put);
      dropped = λ other. absurd (other (c.is_missing.ensures.free.0 c.if-is_missing.true));
      len = ap (λ (l : List (Option JobResult)). length l) c.write_result.ensures.filled ∙ length-set c.self.inside.ends.items job (Some c.dropped_if_lesser_stuck.result)
          ∙ ap (λ (l : List (Option JobResult)). length l) ends;
    }

pub write_result-requires : goal.write_result-requires
write_result-requires c =
    let ends : length c.self.inside.ends.items ≡ length c.args.self.now.ends = ap (λ (p : ResultsSoFar). length p.ends) c.self.view_is in
    let within : c.args.searched.job < length c.args.self.now.ends = slice_get_within c.args.self.now.ends c.args.searched.job None (c.is_missing.ensures.free.0 c.if-is_missing.true) in
    omega (arith, within, ends, c.self.inside.ends.ok.0)
