use Rattle.std.proofs.Common.{◌≡◌, true, ◌∙◌, arith, rules}
use Rattle.buckets.proofs.Filled.{settle_fill, same_closed}
use Rattle.buckets.proofs.Framing.{frame_then, frame_settled}
use Rattle.buckets.proofs.fill.settle_and_expand.Goals as goal

pub expand-requires-clause-kept : goal.expand-requires-clause-kept
expand-requires-clause-kept g c =
    let a = c.args in
    let b = a.bucket in
    let f = settle_fill g.G.Order.as_good g.G.Grade.initial b.task b.number a.point b.within a.outcomes.now c.requires.outcomes_room a.labels.now c.requires.labels_room
    (g.Q.Queue.model a.queue.now).slots c.requires.taking c.settle.result c.settle.new.outcomes c.settle.new.labels (search rules) in
    let kept : c.settle.result ≡ true = search rules in f.2 kept

pub expand-requires-clause-filling : goal.expand-requires-clause-filling
expand-requires-clause-filling g c =
    let a = c.args in
    let b = a.bucket in
    let f = settle_fill g.G.Order.as_good g.G.Grade.initial b.task b.number a.point b.within a.outcomes.now c.requires.outcomes_room a.labels.now c.requires.labels_room
    (g.Q.Queue.model a.queue.now).slots c.requires.taking c.settle.result c.settle.new.outcomes c.settle.new.labels (search rules) in
    f.1

pub returns-then-settle-clause-tally : goal.returns-then-settle-clause-tally
returns-then-settle-clause-tally g c =
    let a = c.args in
    let b = a.bucket in
    let f = settle_fill g.G.Order.as_good g.G.Grade.initial b.task b.number a.point b.within a.outcomes.now c.requires.outcomes_room a.labels.now c.requires.labels_room
    (g.Q.Queue.model a.queue.now).slots c.requires.taking c.settle.result c.settle.new.outcomes c.settle.new.labels (search rules) in
    same_closed g.G.Grade.initial b.task.plan b.number c.settle.new.labels c.expand.new.labels c.expand.ensures.same ∙ f.0

pub returns-then-settle-clause-frame : goal.returns-then-settle-clause-frame
returns-then-settle-clause-frame g c =
    let a = c.args in
    let b = a.bucket in
    let frame = frame_settled g.G.Grade.initial b.task.plan g.G.Order.as_good b.number a.point b.within c.requires.taking.point a.outcomes.now c.settle.new.outcomes a.labels.now c.settle.new.labels
    c.settle.result (omega (arith, c.requires.outcomes_room, c.requires.taking.point)) (search rules) in
    frame_then g.G.Grade.initial b.task.plan a.outcomes.now c.settle.new.outcomes c.settle.new.outcomes a.labels.now c.settle.new.labels c.expand.new.labels frame c.expand.ensures.frame

pub returns-else-settle-clause-filling : goal.returns-else-settle-clause-filling
returns-else-settle-clause-filling g c =
    let a = c.args in
    let b = a.bucket in
    let f = settle_fill g.G.Order.as_good g.G.Grade.initial b.task b.number a.point b.within a.outcomes.now c.requires.outcomes_room a.labels.now c.requires.labels_room
    (g.Q.Queue.model a.queue.now).slots c.requires.taking c.settle.result c.settle.new.outcomes c.settle.new.labels (search rules) in
    f.1

pub returns-else-settle-clause-tally : goal.returns-else-settle-clause-tally
returns-else-settle-clause-tally g c =
    let a = c.args in
    let b = a.bucket in
    let f = settle_fill g.G.Order.as_good g.G.Grade.initial b.task b.number a.point b.within a.outcomes.now c.requires.outcomes_room a.labels.now c.requires.labels_room
    (g.Q.Queue.model a.queue.now).slots c.requires.taking c.settle.result c.settle.new.outcomes c.settle.new.labels (search rules) in
    f.0

pub returns-else-settle-clause-frame : goal.returns-else-settle-clause-frame
returns-else-settle-clause-frame g c =
    let a = c.args in
    let b = a.bucket in
    let frame = frame_settled g.G.Grade.initial b.task.plan g.G.Order.as_good b.number a.point b.within c.requires.taking.point a.outcomes.now c.settle.new.outcomes a.labels.now c.settle.new.labels
    c.settle.result (omega (arith, c.requires.outcomes_room, c.requires.taking.point)) (search rules) in
    frame
