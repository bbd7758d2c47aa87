use Rattle.std.proofs.Common.{rules, ◌≡◌, ◌<◌, ◌≤◌, length, get_or}
use Rattle.tt_parts.proofs.OutlineLemmas.{outline_of_part}
use Rattle.tt_parts.proofs.OutlineReadLemmas.{reads_part}
use Rattle.tt_parts.proofs.OutlineFaultLemmas.{no_name, name_ahead, name_deep}
use Rattle.tt_parts.proofs.outline_read.read_part_reference.Goals as goal

pub returns-in_default : goal.returns-in_default
returns-in_default c = λ size. no_name size c.args.left c.args.depths.now.items c.args.bytes.now c.in_default.ensures

pub returns-in_default-get : goal.returns-in_default-get
returns-in_default-get c = λ size.
    let name = c.in-Some in
    let ahead : length c.args.depths.now.items ≤ name.number = search rules in
    name_ahead size c.args.left c.args.depths.now.items c.args.bytes.now name.rest.now name.number name.ensures.0 name.ensures.1 name.ensures.2 ahead

pub returns-then-depth-left : goal.returns-then-depth-left
returns-then-depth-left c = λ size.
    let name = c.in-Some in
    let ds = c.args.depths.now.items in
    let within : name.number < length ds = search rules in
    let stands : c.in-Some-get.depth.now ≡ get_or ds name.number c.in-Some-get.depth.now = search rules in
    name_deep size c.args.left ds c.args.bytes.now name.rest.now name.number name.ensures.0 name.ensures.1 name.ensures.2
    c.in-Some-get.depth.now within stands c.if-depth-left.true

pub returns : goal.returns
returns c = λ size.
    let name = c.in-Some in
    let ds = c.args.depths.now.items in
    let within : name.number < length ds = search rules in
    let stands : c.in-Some-get.depth.now ≡ get_or ds name.number c.in-Some-get.depth.now = search rules in
    rw outline_of_part
    (reads_part size c.args.left ds name.number c.in-Some-get.depth.now c.args.bytes.now name.rest.now c.if-depth-left.false within name.ensures.0
    stands name.ensures.1 name.ensures.2)
