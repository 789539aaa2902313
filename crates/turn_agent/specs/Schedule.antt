-- When a request is retransmitted, and when it times out (RFC 8489, section 6.2).
use Rattle.std.specs.Prelude.{ℕ, zero, suc, ◌+◌, ◌-◌, ◌*◌, ◌^◌, min, nat_le, nat_lt, ◌||◌, if◌then◌else◌, List, map, sum}
use Rattle.std.specs.List.{range_with_len}
use Rattle.std.specs.Duration.{as_nanos}
use Rattle.std.specs.declared.time.Duration.{Duration}
use Rattle.turn_stun.specs.declared.transport.TransportType.{TransportType}
use Rattle.turn_stun.specs.declared.transport.TransportType.TheVariants.{Udp, Tcp}

-- The retransmission settings: the first wait and the greatest, how often a request is sent in all,
-- and the wait after the last send. Waits are in nanoseconds.
pub record Timers : Type 0 where
  pub initial : ℕ
  pub max : ℕ
  pub transmissions : ℕ
  pub last : ℕ

-- half a second, no greatest wait, seven sends, and 16 times the initial wait after the last
-- (section 6.2.1, where the waits do not depend on a measured round trip)
abbrev pub default_timers : Timers
default_timers = record {
  initial = 500_000_000;
  max = 2 ^ 64 - 1;
  transmissions = 7;
  last = 8_000_000_000;
}

-- a wait in nanoseconds; one of 2^64 ns or more is as good as endless (our choice)
abbrev pub wait_of : Duration → ℕ
wait_of d = min (as_nanos d) (2 ^ 64 - 1)

-- How often a request is retransmitted over UDP: once less than it is sent in all. It is sent only
-- once if it is to be sent at most once, or if the initial wait is at most 1 ms (our choice).
abbrev pub udp_resends : Timers → ℕ
udp_resends t = if nat_le t.transmissions 1 || nat_le t.initial 1_000_000 then 0 else t.transmissions - 1

-- the first wait, doubled so often, and at most the greatest wait
abbrev pub doubled_wait : ℕ → ℕ → ℕ → ℕ
doubled_wait first greatest place = min (first * 2 ^ place) greatest

-- the wait after the send at this place over UDP, where the first send is at place 0; the wait
-- after the last send has a value of its own (section 6.2.1)
abbrev pub udp_wait_at : Timers → ℕ → ℕ
udp_wait_at t place = if nat_lt place (udp_resends t) then doubled_wait t.initial t.max place else t.last

-- the waits after all sends over UDP, in order
unfoldable pub schedule : Timers → List ℕ
schedule t = map (udp_wait_at t) (range_with_len 0 (udp_resends t + 1))

-- how often a request is retransmitted: over TCP never (section 6.2.2)
abbrev pub resends_of : Timers → TransportType → ℕ
resends_of t Udp = udp_resends t
resends_of t Tcp = 0

-- the wait after the send at this place: over TCP the sum of the waits over UDP (section 6.2.2)
abbrev pub wait_at : Timers → TransportType → ℕ → ℕ
wait_at t Udp place = udp_wait_at t place
wait_at t Tcp place = sum (schedule t)

-- the sum of so many of the doubled waits, from this place on
unfoldable pub doubled_sum : ℕ → ℕ → ℕ → ℕ → ℕ
doubled_sum first greatest place zero = 0
doubled_sum first greatest place (suc n) = doubled_wait first greatest place + doubled_sum first greatest (place + 1) n
