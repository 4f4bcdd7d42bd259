use Rattle.std.proofs.Common.{◌≡◌, ◌-◌, ◌++◌, take}
use Rattle.std.specs.Prelude.{reverse}
use Rattle.search.specs.Trails.{trail}
use Rattle.search.proofs.read.Traces.fill_trail.Given as goal

-- what is still to be written, before what is written from the last link on, makes the whole
abbrev pub invariant-loop-entry : goal.invariant-loop-entry
invariant-loop-entry g l =
    let t = trail g.G.Grade.initial l.self.links.now l.self.buckets l.self.labels.now in
    t l.point l.bucket l.count ≡ t l.at l.within (l.count - l.entry-index) ++ reverse (take l.entry-index l.trail)
