use Rattle.std.proofs.Common.{rules, ◌≡◌, ◌∷◌, [], Some, None, true, false, ◌==◌, sym, ap, ◌∙◌}
use Rattle.std.proofs.lemmas.List.{nil_from_length}
use lib.Pointwise.{pointwise}
use Rattle.tt_sgf.specs.PointLists.{set_of}
use Rattle.tt_game.specs.Nodes.{values_of}
use Rattle.tt_game.proofs.NodeLemmas.{joined}
use Rattle.tt_game.proofs.NodeLemmas.{values-nil, values-named, values-other, set-none, set-more, set-end, set-begin}
use Rattle.tt_game.proofs.nodes.named_set.Goals as goal

pub loop-property-init : goal.loop-property-init
loop-property-init c =
    ap (λ s. joined s (set_of c.args.size (values_of c.args.name.now c.args.properties.now))) c.empty-points.ensures ∙ set-begin (set_of c.args.size (values_of c.args.name.now c.args.properties.now))

pub loop-property-preserved-in-Ok : goal.loop-property-preserved-in-Ok
loop-property-preserved-in-Ok c =
    let e : c.loop-property.rest.now ≡ c.in-Some.property.now ∷ c.in-Some.behind.now = search rules in
    let t : pointwise ◌==◌ c.in-Some.property.now.ident c.args.name.now ≡ true = search rules in
    let v = ap (values_of c.args.name.now) e ∙ values-named c.args.name.now c.in-Some.property.now c.in-Some.behind.now t in
    let n : set_of c.args.size c.in-Some.property.now.values ≡ Some c.in-Ok.more = search rules in
    ap (λ s. joined s (set_of c.args.size (values_of c.args.name.now c.in-Some.behind.now))) c.or-points.ensures
    ∙ set-more c.args.size c.in-Some.property.now.values (values_of c.args.name.now c.in-Some.behind.now) c.loop-property.points c.in-Ok.more n
    ∙ ap (λ vs. joined c.loop-property.points (set_of c.args.size vs)) (sym v) ∙ c.loop-property.invariant

pub loop-property-preserved : goal.loop-property-preserved
loop-property-preserved c =
    let e : c.loop-property.rest.now ≡ c.in-Some.property.now ∷ c.in-Some.behind.now = search rules in
    let t : pointwise ◌==◌ c.in-Some.property.now.ident c.args.name.now ≡ false = search rules in
    let v = ap (values_of c.args.name.now) e ∙ values-other c.args.name.now c.in-Some.property.now c.in-Some.behind.now t in
    ap (λ vs. joined c.loop-property.points (set_of c.args.size vs)) (sym v) ∙ c.loop-property.invariant

pub returns : goal.returns
returns c =
    let e : c.loop-property.rest.now ≡ [] = nil_from_length c.loop-property.rest.now c.in_default.ensures.cases in
    sym c.loop-property.invariant ∙ ap (λ ps. joined c.loop-property.points (set_of c.args.size (values_of c.args.name.now ps))) e
    ∙ ap (λ vs. joined c.loop-property.points (set_of c.args.size vs)) (values-nil c.args.name.now) ∙ set-end c.args.size c.loop-property.points

pub returns-in_default-point_set : goal.returns-in_default-point_set
returns-in_default-point_set c =
    let e : c.loop-property.rest.now ≡ c.in-Some.property.now ∷ c.in-Some.behind.now = search rules in
    let t : pointwise ◌==◌ c.in-Some.property.now.ident c.args.name.now ≡ true = search rules in
    let v = ap (values_of c.args.name.now) e ∙ values-named c.args.name.now c.in-Some.property.now c.in-Some.behind.now t in
    let n : set_of c.args.size c.in-Some.property.now.values ≡ None = ap (set_of c.args.size) (sym c.as_slice-then-eq.ensures) ∙ c.in_default-point_set.ensures.reads in
    sym c.loop-property.invariant ∙ ap (λ vs. joined c.loop-property.points (set_of c.args.size vs)) v
    ∙ ap (joined c.loop-property.points) (set-none c.args.size c.in-Some.property.now.values (values_of c.args.name.now c.in-Some.behind.now) n)
