-- What each edit of a board answers, and the board after it.
use Rattle.std.specs.Prelude.{◌≡◌, ℕ, ◌+◌, ◌-◌, ◌*◌, ◌<◌, ◌≤◌, min, max, Bool, true, false, ◌&&◌, ◌||◌, ◌⊎◌, List, [], ◌∷◌, ◌++◌, length, drop, None, Ok, Err, Result, ◌==◌, slice_set}
use Rattle.faults.specs.declared.Fault.{Fault}
use Rattle.faults.specs.declared.Fault.TheVariants.{Full, Taken, NoPoint, NoLink, NotJoinable}
use Rattle.faults.specs.Checks.{Check, Refused, Passed, if_fails, range_check}
use Rattle.stackup.specs.declared.layer.Layer.{Layer}
use Rattle.stackup.specs.declared.layer.Span.{Span}
use Rattle.stackup.specs.Stacks.{Stack, signal_checks, layer_at, span_at, SpanNo}
use Rattle.tables.specs.declared.table.Link.{Link}
use Rattle.tables.specs.Tables.{link_at}
use Rattle.board.specs.declared.point.Point.{Point}
use Rattle.board.specs.Points.{point_at, PointNo}
use Rattle.board.specs.Boards.{BoardState}

-- a table with so many entries in use, so many free, and no more than `most` in all has room for another
abbrev pub room_check : ℕ → ℕ → ℕ → Check
room_check used free most = let room = min (used + free) most in if_fails (room ≤ used) (Full room)

module _ {G : Type 0} (b : BoardState G) where
  abbrev pub point_room_check : Check
  point_room_check = room_check (length b.points) (length b.points_free) 4096

  abbrev pub link_room_check : Check
  link_room_check = room_check (length b.links) (length b.links_free) 16384

  -- a point and a link by number
  abbrev pub point_check : ℕ → Check
  point_check v = if_fails (length b.points ≤ v) (NoPoint v)

  abbrev pub link_check : ℕ → Check
  link_check k = if_fails (length b.links ≤ k) (NoLink k)

  -- the first of two ends that is not on the board is told
  abbrev pub ends_check : ℕ → ℕ → Check
  ends_check u v = record {
    fails = (length b.points ≤ u) ⊎ (length b.points ≤ v);
    gives = λ f. ((length b.points ≤ u) × (f ≡ NoPoint u)) ⊎ ((u < length b.points) × (f ≡ NoPoint v));
  }

abbrev pub place_check : ℕ → ℕ → Check
place_check x y = range_check ((x, 0, 20000) ∷ (y, 0, 20000) ∷ [])

abbrev pub gap_check : ℕ → Check
gap_check g = range_check ((g, 1, 20000) ∷ [])

abbrev pub taken_check : List Point → Point → Check
taken_check ps p = record { fails = (i : ℕ) × PointNo ps p i; gives = λ f. (i : ℕ) × (f ≡ Taken i) × PointNo ps p i }

-- Points.

abbrev pub point_checks : {G : Type 0} → BoardState G → Point → List Check
point_checks b p = point_room_check b ∷ place_check p.x p.y ∷ (signal_checks b.stack.layers p.layer ++ (taken_check b.points p ∷ []))

-- the board with one more point, on which no search stands
abbrev pub with_point : {G : Type 0} → BoardState G → Point → BoardState G
with_point b p = record {
  stack = b.stack;
  points = b.points ++ (p ∷ []);
  points_free = drop 1 b.points_free;
  links = b.links;
  links_free = b.links_free;
  labels = b.labels;
  outcomes = b.outcomes;
  standing = None;
}

-- a point is added under the next number, or the call is refused and nothing changes
abbrev pub AddsPoint : {G : Type 0} → BoardState G → Point → Result ℕ Fault → BoardState G → Type 0
AddsPoint b p (Ok n) c = Passed (point_checks b p) × (n ≡ length b.points) × (c ≡ with_point b p)
AddsPoint b p (Err f) c = Refused (point_checks b p) f × (c ≡ b)

-- Links.

-- the checks that a track and a via share
abbrev pub join_checks : {G : Type 0} → BoardState G → ℕ → ℕ → ℕ → List Check
join_checks b u v g = link_room_check b ∷ gap_check g ∷ ends_check b u v ∷ []

-- the board with one more link, on which no search stands
abbrev pub with_link : {G : Type 0} → BoardState G → Link → BoardState G
with_link b l = record {
  stack = b.stack;
  points = b.points;
  points_free = b.points_free;
  links = b.links ++ (l ∷ []);
  links_free = drop 1 b.links_free;
  labels = b.labels;
  outcomes = b.outcomes;
  standing = None;
}

-- two points of one layer that share x or y
abbrev pub in_line : Point → Point → Bool
in_line p q = p.layer == q.layer && (p.x == q.x || p.y == q.y)

abbrev pub track_check : List Point → ℕ → ℕ → Check
track_check ps u v = if_fails ((u ≡ v) ⊎ (in_line (point_at ps u) (point_at ps v) ≡ false)) (NotJoinable v)

-- how far apart two numbers are
abbrev pub distance : ℕ → ℕ → ℕ
distance m n = (m - n) + (n - m)

abbrev pub track_length : Point → Point → ℕ
track_length p q = distance p.x q.x + distance p.y q.y

-- the open link of a length of track on a layer
abbrev pub track_on : Layer → ℕ → ℕ → ℕ → ℕ → Link
track_on layer len u v g =
    record { delay = len * layer.delay_rate; cost = record { price = len * layer.price_rate; gap = g }; from = u; to = v; «open» = true }

abbrev pub track_between : Stack → List Point → ℕ → ℕ → ℕ → Link
track_between s ps u v g = track_on (layer_at s.layers (point_at ps u).layer) (track_length (point_at ps u) (point_at ps v)) u v g

-- the track between two points that may be joined by one
abbrev pub JoinsTrack : Stack → List Point → ℕ → ℕ → ℕ → Result Link Fault → Type 0
JoinsTrack s ps u v g (Ok l) = Passed (track_check ps u v ∷ []) × (l ≡ track_between s ps u v g)
JoinsTrack s ps u v g (Err f) = Refused (track_check ps u v ∷ []) f

abbrev pub track_checks : {G : Type 0} → BoardState G → ℕ → ℕ → ℕ → List Check
track_checks b u v g = join_checks b u v g ++ (track_check b.points u v ∷ [])

-- a track is added under the next number, or the call is refused and nothing changes
abbrev pub AddsTrack : {G : Type 0} → BoardState G → ℕ → ℕ → ℕ → Result ℕ Fault → BoardState G → Type 0
AddsTrack b u v g (Ok n) c = Passed (track_checks b u v g) × (n ≡ length b.links) × (c ≡ with_link b (track_between b.stack b.points u v g))
AddsTrack b u v g (Err f) c = Refused (track_checks b u v g) f × (c ≡ b)

-- span k allows a via between two points: they share x and y, and it joins their layers, in either order
abbrev pub Allows : List Span → List Point → ℕ → ℕ → ℕ → Type 0
Allows ss ps u v k = ((point_at ps u).x ≡ (point_at ps v).x) × ((point_at ps u).y ≡ (point_at ps v).y)
    × SpanNo ss (min (point_at ps u).layer (point_at ps v).layer) (max (point_at ps u).layer (point_at ps v).layer) k

abbrev pub via_check : List Span → List Point → ℕ → ℕ → Check
via_check ss ps u v = if_fails ((k : ℕ) → Allows ss ps u v k → ⊥) (NotJoinable v)

abbrev pub via_checks : {G : Type 0} → BoardState G → ℕ → ℕ → ℕ → List Check
via_checks b u v g = join_checks b u v g ++ (via_check b.stack.spans b.points u v ∷ [])

-- the open link over a span
abbrev pub via_over : Span → ℕ → ℕ → ℕ → Link
via_over s u v g = record { delay = s.delay; cost = record { price = s.price; gap = g }; from = u; to = v; «open» = true }

-- the via between two points that may be joined by one
abbrev pub JoinsVia : List Span → List Point → ℕ → ℕ → ℕ → Result Link Fault → Type 0
JoinsVia ss ps u v g (Ok l) = Passed (via_check ss ps u v ∷ []) × ((k : ℕ) × Allows ss ps u v k × (l ≡ via_over (span_at ss k) u v g))
JoinsVia ss ps u v g (Err f) = Refused (via_check ss ps u v ∷ []) f

-- a via is added under the next number, or the call is refused and nothing changes
abbrev pub AddsVia : {G : Type 0} → BoardState G → ℕ → ℕ → ℕ → Result ℕ Fault → BoardState G → Type 0
AddsVia b u v g (Ok n) c = Passed (via_checks b u v g) × (n ≡ length b.links)
    × ((k : ℕ) × Allows b.stack.spans b.points u v k × (c ≡ with_link b (via_over (span_at b.stack.spans k) u v g)))
AddsVia b u v g (Err f) c = Refused (via_checks b u v g) f × (c ≡ b)

-- Marks.

abbrev pub opened : Bool → Link → Link
opened m l = record { delay = l.delay; cost = l.cost; from = l.from; to = l.to; «open» = m }

-- the links with the mark of link k set
abbrev pub opened_at : List Link → ℕ → Bool → List Link
opened_at ls k m = slice_set ls k (opened m (link_at ls k))

abbrev pub with_mark : {G : Type 0} → BoardState G → ℕ → Bool → BoardState G
with_mark b k m = record {
  stack = b.stack;
  points = b.points;
  points_free = b.points_free;
  links = opened_at b.links k m;
  links_free = b.links_free;
  labels = b.labels;
  outcomes = b.outcomes;
  standing = None;
}

-- a link is blocked or freed, or the call is refused and nothing changes
abbrev pub SetsMark : {G : Type 0} → BoardState G → ℕ → Bool → Result Unit Fault → BoardState G → Type 0
SetsMark b k m (Ok u) c = Passed (link_check b k ∷ []) × (c ≡ with_mark b k m)
SetsMark b k m (Err f) c = Refused (link_check b k ∷ []) f × (c ≡ b)
