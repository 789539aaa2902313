-- Numbers of requests, and the round trip.
use Rattle.std.specs.Prelude.{ℕ, ◌+◌, ◌-◌, ◌*◌, ◌/◌, ◌^◌, min, Option, Some, None}
use Rattle.turn_session_counts.specs.declared.counters.Counters.{Counters}

-- neither number goes beyond 2^64 - 1
abbrev pub requested : Counters → Counters
requested c = record c { requests = min (c.requests + 1) (2 ^ 64 - 1) }

abbrev pub retransmitted : Counters → Counters
retransmitted c = record c { retransmissions = min (c.retransmissions + 1) (2 ^ 64 - 1) }

-- each time goes into the mean by an eighth (RFC 6298, section 2), rounded down
abbrev pub mean_after : ℕ → ℕ → ℕ
mean_after nanos mean = (mean * 7 + nanos) / 8

-- the first one is the mean
abbrev pub measured : ℕ → Counters → Counters
measured nanos c = record c { round_trip = Some (by c.round_trip) }
  where
    by : Option ℕ → ℕ
    by None = nanos
    by (Some mean) = mean_after nanos mean
