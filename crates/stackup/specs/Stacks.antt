-- Stackups, and what each call on an open one answers and leaves.
use Rattle.std.specs.Prelude.{◌≡◌, ℕ, ◌<◌, ◌≤◌, Bool, true, false, cond, ◌&&◌, ◌⊎◌, List, [], ◌∷◌, ◌++◌, length, Option, Ok, Err, Result, MatchOption, ◌==◌, nat_lt, slice_index_or}
use Rattle.faults.specs.declared.Fault.{Fault}
use Rattle.faults.specs.declared.Fault.TheVariants.{Full, NoLayer, PlaneLayer, Taken, NotJoinable}
use Rattle.faults.specs.Checks.{Check, Refused, Passed, Gives, if_fails, range_check}
use Rattle.stackup.specs.declared.layer.Layer.{Layer}
use Rattle.stackup.specs.declared.layer.Span.{Span}
use Rattle.stackup.specs.declared.layer.LayerKind.{LayerKind}
use Rattle.stackup.specs.declared.layer.LayerKind.TheVariants.{Signal, Plane}

-- layers and spans, by number
pub record Stack : Type 0 where
  pub layers : List Layer
  pub spans : List Span

abbrev pub no_layer : Layer
no_layer = record { kind = Plane; delay_rate = 0; price_rate = 0 }

abbrev pub no_span : Span
no_span = record { delay = 0; price = 0; low = 0; high = 0 }

abbrev pub layer_at : List Layer → ℕ → Layer
layer_at ls l = slice_index_or ls l no_layer

abbrev pub span_at : List Span → ℕ → Span
span_at ss k = slice_index_or ss k no_span

abbrev pub signal_kind : LayerKind → Bool
signal_kind Signal = true
signal_kind Plane = false

-- the kind of a layer by its number, 1 for signal and 2 for plane
abbrev pub kind_of : ℕ → LayerKind
kind_of k = cond (k == 1) Signal Plane

abbrev pub kind_check : ℕ → Check
kind_check k = range_check ((k, 1, 2) ∷ [])

-- what reading a kind by its number answers
abbrev pub ReadsKind : ℕ → Result LayerKind Fault → Type 0
ReadsKind k r = Gives (kind_check k ∷ []) (kind_of k) r

-- l is the number of a signal layer
abbrev pub is_signal : List Layer → ℕ → Bool
is_signal ls l = nat_lt l (length ls) && signal_kind (layer_at ls l).kind

-- the span joins two signal layers of the stackup, the lower number first
abbrev pub joins : List Layer → Span → Bool
joins ls s = nat_lt s.low s.high && is_signal ls s.low && is_signal ls s.high

-- every span joins two of the stackup's own signal layers
abbrev pub OwnSpans : List Layer → List Span → Type 0
OwnSpans ls ss = (k : ℕ) → k < length ss → joins ls (span_at ss k) ≡ true

-- k is the number of a span between two layers
abbrev pub SpanNo : List Span → ℕ → ℕ → ℕ → Type 0
SpanNo ss a b k = (k < length ss) × ((span_at ss k).low ≡ a) × ((span_at ss k).high ≡ b)

-- the number of the span between two layers, or none where they have none
abbrev pub FindsSpanNo : List Span → ℕ → ℕ → Option ℕ → Type 0
FindsSpanNo ss a b r = MatchOption r ((k : ℕ) → SpanNo ss a b k → ⊥) (SpanNo ss a b)

-- the same with the span in place of its number
abbrev pub FindsSpan : List Span → ℕ → ℕ → Option Span → Type 0
FindsSpan ss a b r = MatchOption r ((k : ℕ) → SpanNo ss a b k → ⊥) (λ s. (k : ℕ) × SpanNo ss a b k × (s ≡ span_at ss k))

-- no pair of layers has two spans
abbrev pub OneEach : List Span → Type 0
OneEach ss = (j k : ℕ) → (j < length ss) × SpanNo ss (span_at ss j).low (span_at ss j).high k → j ≡ k

-- The checks of a layer call: room, then the ranges of kind, delay rate and price rate.
abbrev pub layer_numbers_check : ℕ → ℕ → ℕ → Check
layer_numbers_check k d p = range_check ((k, 1, 2) ∷ (d, 1, 1000) ∷ (p, 0, 1000) ∷ [])

abbrev pub layer_checks : Stack → ℕ → ℕ → ℕ → List Check
layer_checks s k d p = if_fails (32 ≤ length s.layers) (Full 32) ∷ layer_numbers_check k d p ∷ []

abbrev pub layer_of : ℕ → ℕ → ℕ → Layer
layer_of k d p = record { kind = kind_of k; delay_rate = d; price_rate = p }

-- a layer is added at the end under the next number, or the call is refused and nothing changes
abbrev pub AddsLayer : Stack → ℕ → ℕ → ℕ → Result ℕ Fault → Stack → Type 0
AddsLayer s k d p (Ok n) t = Passed (layer_checks s k d p) × (n ≡ length s.layers)
    × (t ≡ record { layers = s.layers ++ (layer_of k d p ∷ []); spans = s.spans })
AddsLayer s k d p (Err f) t = Refused (layer_checks s k d p) f × (t ≡ s)

-- The checks of a span call between layers a and b, in order.
abbrev pub span_numbers_check : ℕ → ℕ → Check
span_numbers_check d p = range_check ((d, 0, 20000000) ∷ (p, 0, 20000000) ∷ [])

-- the first of two layers that is not there is told
abbrev pub layers_check : List Layer → ℕ → ℕ → Check
layers_check ls a b = record {
  fails = (length ls ≤ a) ⊎ (length ls ≤ b);
  gives = λ f. ((length ls ≤ a) × (f ≡ NoLayer a)) ⊎ ((a < length ls) × (f ≡ NoLayer b));
}

-- the first of two layers that is no signal layer is told
abbrev pub signals_check : List Layer → ℕ → ℕ → Check
signals_check ls a b = record {
  fails = (is_signal ls a ≡ false) ⊎ (is_signal ls b ≡ false);
  gives = λ f. ((is_signal ls a ≡ false) × (f ≡ PlaneLayer a)) ⊎ ((is_signal ls a ≡ true) × (f ≡ PlaneLayer b));
}

abbrev pub pair_check : List Span → ℕ → ℕ → Check
pair_check ss a b = record { fails = (k : ℕ) × SpanNo ss a b k; gives = λ f. (k : ℕ) × (f ≡ Taken k) × SpanNo ss a b k }

abbrev pub order_check : ℕ → ℕ → Check
order_check a b = if_fails (b ≤ a) (NotJoinable b)

abbrev pub span_checks : Stack → ℕ → ℕ → ℕ → ℕ → List Check
span_checks s a b d p =
    if_fails (64 ≤ length s.spans) (Full 64) ∷ span_numbers_check d p ∷ layers_check s.layers a b ∷ signals_check s.layers a b
    ∷ pair_check s.spans a b ∷ order_check a b ∷ []

-- a span is added at the end under the next number, or the call is refused and nothing changes
abbrev pub AddsSpan : Stack → ℕ → ℕ → ℕ → ℕ → Result ℕ Fault → Stack → Type 0
AddsSpan s a b d p (Ok n) t = Passed (span_checks s a b d p) × (n ≡ length s.spans)
    × (t ≡ record { layers = s.layers; spans = s.spans ++ (record { delay = d; price = p; low = a; high = b } ∷ []) })
AddsSpan s a b d p (Err f) t = Refused (span_checks s a b d p) f × (t ≡ s)

-- The check of a call that needs the layer l.
abbrev pub layer_check : List Layer → ℕ → Check
layer_check ls l = if_fails (length ls ≤ l) (NoLayer l)

-- The checks of a call that needs the signal layer l.
abbrev pub signal_checks : List Layer → ℕ → List Check
signal_checks ls l = layer_check ls l ∷ if_fails (signal_kind (layer_at ls l).kind ≡ false) (PlaneLayer l) ∷ []

abbrev pub FindsSignal : Stack → ℕ → Result Layer Fault → Type 0
FindsSignal s l r = Gives (signal_checks s.layers l) (layer_at s.layers l) r
