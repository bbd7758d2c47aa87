use Rattle.std.proofs.Common.{rules, ◌≡◌, ◌+◌, ◌∷◌, [], length, min, true, false, ◌==◌, ap, ◌∙◌, arith, length-append}
use Rattle.std.proofs.lemmas.List.{nil_from_length}
use lib.Pointwise.{pointwise}
use Rattle.tt_game.specs.Nodes.{values_of}
use Rattle.tt_game.proofs.NodeLemmas.{values-nil, values-named, values-other}
use Rattle.tt_game.proofs.nodes.count_values_to_two.Goals as goal

pub loop-property-preserved-then-eq : goal.loop-property-preserved-then-eq
loop-property-preserved-then-eq c =
    let e : c.loop-property.rest.now ≡ c.in-Some.property.now ∷ c.in-Some.behind.now = search rules in
    let t : pointwise ◌==◌ c.in-Some.property.now.ident c.args.name.now ≡ true = search rules in
    let v = ap (values_of c.args.name.now) e ∙ values-named c.args.name.now c.in-Some.property.now c.in-Some.behind.now t in
    let n : length (values_of c.args.name.now c.loop-property.rest.now) ≡ length c.in-Some.property.now.values + length
    (values_of c.args.name.now c.in-Some.behind.now) = ap length v ∙ length-append c.in-Some.property.now.values (values_of c.args.name.now c.in-Some.behind.now) in
    let m : c.min-count.result ≡ min 2 (c.loop-property.count + min 2 (length c.in-Some.property.now.values)) = search rules in
    (omega (arith, n, m, c.loop-property.invariant.0, c.loop-property.invariant.1), omega (arith, m))

pub loop-property-preserved : goal.loop-property-preserved
loop-property-preserved c =
    let e : c.loop-property.rest.now ≡ c.in-Some.property.now ∷ c.in-Some.behind.now = search rules in
    let t : pointwise ◌==◌ c.in-Some.property.now.ident c.args.name.now ≡ false = search rules in
    let v = ap (values_of c.args.name.now) e ∙ values-other c.args.name.now c.in-Some.property.now c.in-Some.behind.now t in
    let n : length (values_of c.args.name.now c.loop-property.rest.now) ≡ length (values_of c.args.name.now c.in-Some.behind.now) = ap length v in
    (omega (arith, n, c.loop-property.invariant.0), c.loop-property.invariant.1)

pub returns : goal.returns
returns c =
    let e : c.loop-property.rest.now ≡ [] = nil_from_length c.loop-property.rest.now c.in_default.ensures.cases in
    let n : length (values_of c.args.name.now c.loop-property.rest.now) ≡ 0 = ap (λ ps. length (values_of c.args.name.now ps)) e ∙ ap length (values-nil c.args.name.now) in
    omega (arith, n, c.loop-property.invariant.0, c.loop-property.invariant.1)
