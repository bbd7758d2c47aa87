use Rattle.std.proofs.Common.{Err, ap, sym, ◌∙◌}
use Rattle.std.proofs.lemmas.Result.{err_from_is_err_and}
use Rattle.tt_sgf.specs.laws.TreeLaws.{tree_ends_within}
use Rattle.tt_sgf.proofs.LoopLemmas.{same_err, not_too_long}
use Rattle.tt_sgf.proofs.FirstTreeLemmas.{no_tree_without, no_tree_there, rest_fits, tree_there, begins_rest, never_rest, line_is}
use Rattle.tt_sgf.proofs.trees.read_tree.Goals as goal

pub returns-in_default-clause-syntax : goal.returns-in_default-clause-syntax
returns-in_default-clause-syntax c = λ h. (c.if-bytes-gt-MAX_BYTES.false, no_tree_without c.args.bytes.now c.in_default.ensures)

pub returns-in_err-nodes-clause-syntax : goal.returns-in_err-nodes-clause-syntax
returns-in_err-nodes-clause-syntax c = λ h.
    let p = err_from_is_err_and c.from_residual.result c.from_residual.ensures.1 in
    let s = c.in-Some.ensures in
    (c.if-bytes-gt-MAX_BYTES.false, no_tree_there c.args.bytes.now c.in-Some.start s.0 s.1 s.2 (never_rest c.args.bytes.now _ (c.in_err-nodes.ensures.none (ap Err (sym p.2 ∙ same_err _ _ _ p.1 h)))))

pub overflow_sub-result : goal.overflow_sub-result
overflow_sub-result c =
    let s = c.in-Some.ensures in
    let f = c.in_ok-nodes.ensures.found in
    rest_fits c.args.bytes.now c.in-Some.start s.0 s.1 s.2 f.0 _ (begins_rest c.args.bytes.now _ f.0 _ f.1)

pub returns-clause-found : goal.returns-clause-found
returns-clause-found c =
    let s = c.in-Some.ensures in
    let f = c.in_ok-nodes.ensures.found in
    (f.0, tree_there c.args.bytes.now c.in-Some.start s.0 s.1 s.2 f.0 _ (begins_rest c.args.bytes.now _ f.0 _ f.1), c.from_vec.ensures ∙ f.2)

pub returns-clause-within : goal.returns-clause-within
returns-clause-within c =
    let s = c.in-Some.ensures in
    let f = c.in_ok-nodes.ensures.found in
    let within = tree_ends_within c.args.bytes.now _ f.0 (tree_there c.args.bytes.now c.in-Some.start s.0 s.1 s.2 f.0 _ (begins_rest c.args.bytes.now _ f.0 _ f.1)) in
    (within.0, within.1, c.if-bytes-gt-MAX_BYTES.false)

pub returns-clause-line : goal.returns-clause-line
returns-clause-line c =
    let f = c.in_ok-nodes.ensures.found in
    line_is _ f.0 _ _ f.1 (c.from_vec.ensures ∙ f.2)

pub returns-in_err-nodes-clause-no_tree : goal.returns-in_err-nodes-clause-no_tree
returns-in_err-nodes-clause-no_tree c = λ _ _.
    let p = err_from_is_err_and c.from_residual.result c.from_residual.ensures.1 in
    not_too_long c.from_residual.result p.0 p.1 (λ h. c.in_err-nodes.ensures.short (ap Err (sym p.2 ∙ h)))

pub returns-clause-no_tree : goal.returns-clause-no_tree
returns-clause-no_tree c = λ short none.
    let s = c.in-Some.ensures in
    let f = c.in_ok-nodes.ensures.found in
    absurd (none f.0 _ (tree_there c.args.bytes.now c.in-Some.start s.0 s.1 s.2 f.0 _ (begins_rest c.args.bytes.now _ f.0 _ f.1)))
