use Rattle.tt_parts.proofs.OutlineLemmas.{outline_of_done, outline_of_pick, outline_of_reply, outline_of_part}
use Rattle.tt_parts.proofs.outlines.Outline.first.Goals as goal

pub returns-in-Done : goal.returns-in-Done
returns-in-Done c = rw (c.in-Done.is, outline_of_done)

pub returns-in-Pick : goal.returns-in-Pick
returns-in-Pick c = rw (c.in-Pick.is, outline_of_pick)

pub returns-in-Reply : goal.returns-in-Reply
returns-in-Reply c = rw (c.in-Reply.is, outline_of_reply)

pub returns-in-Part : goal.returns-in-Part
returns-in-Part c = rw (c.in-Part.is, outline_of_part)
