use Rattle.std.proofs.Common.{arith, ◌∙◌, ◌<◌}
use Rattle.tt_board.proofs.PlaneLemmas.{count_is, plain_after, shown_after}
use Rattle.tt_board.proofs.colouring.Colouring.set.Goals as goal

pub write_bit-requires : goal.write_bit-requires
write_bit-requires c = let i = c.self.inside in omega (arith, count_is i.count i.black.words i.white.words _ c.self.view_is, c.self.invariant.small)

pub write_bit-requires-2 : goal.write_bit-requires-2
write_bit-requires-2 c = let i = c.self.inside in omega (arith, count_is i.count i.black.words i.white.words _ c.self.view_is, c.self.invariant.small)

pub invariant_of-self : goal.invariant_of-self
invariant_of-self c =
    let i = c.self.inside in
    let in_count : c.args.p < i.count = omega (arith, count_is i.count i.black.words i.white.words _ c.self.view_is) in
    plain_after i.count i.black.words i.white.words c.write_bit.new.self.words c.write_bit-2.new.self.words c.args.p c.args.entry c.self.invariant in_count
    (c.write_bit.ensures.same ∙ c.is_stone_of.ensures) (c.write_bit-2.ensures.same ∙ c.is_stone_of-2.ensures)
    c.write_bit.ensures.others c.write_bit-2.ensures.others

pub returns : goal.returns
returns c =
    let i = c.self.inside in
    let in_count : c.args.p < i.count = omega (arith, count_is i.count i.black.words i.white.words _ c.self.view_is) in
    shown_after i.count i.black.words i.white.words c.write_bit.new.self.words c.write_bit-2.new.self.words c.args.p c.args.entry c.self.invariant in_count
    (c.write_bit.ensures.same ∙ c.is_stone_of.ensures) (c.write_bit-2.ensures.same ∙ c.is_stone_of-2.ensures)
    c.write_bit.ensures.others c.write_bit-2.ensures.others c.args.self.now c.self.view_is
