-- The requests of one round of a path check (RFC 8489, section 6.2).
use Rattle.std.specs.Prelude.{ℕ, ◌+◌, ◌-◌, ◌==◌, ◌^◌, min, nat_lt, if◌then◌else◌}
use Rattle.turn_stun.specs.declared.transport.TransportType.{TransportType}
use Rattle.turn_stun.specs.declared.transport.TransportType.TheVariants.{Udp, Tcp}
use Rattle.turn_session_path.specs.declared.round.Asks.{Asks}
use Rattle.turn_session_path.specs.declared.round.Asks.TheVariants.{Both, Bare}
use Rattle.turn_session_path.specs.declared.round.CheckRequest.{CheckRequest}
use Rattle.turn_session_path.specs.declared.round.CheckRequest.TheVariants.{Binding, BarePermission}
use Rattle.turn_session_path.specs.declared.round.Round.{Round}
use Rattle.turn_session_path.specs.declared.round.RoundStep.{RoundStep}
use Rattle.turn_session_path.specs.declared.round.RoundStep.TheVariants.{Send, WaitUntil, Unanswered}

abbrev pub begun_at : Asks → ℕ → Round
begun_at asks now = record { asks = asks; began = now; place = 0 }

-- over UDP requests are sent at 0, 0.5 and 1.5 s, and 2 s after the last the round is over (section 6.2.1, three transmissions)
abbrev pub due_after : ℕ → ℕ
due_after place =
    if place == 0 then 0 else (if place == 1 then 500_000_000 else (if place == 2 then 1_500_000_000 else 3_500_000_000))

abbrev pub due_time : Round → ℕ
due_time r = min (r.began + due_after r.place) (2 ^ 63 - 1)

-- a caller's check sends Binding requests, and a probe in place of the third a bare CREATE_PERMISSION; a server that answers that
-- and nothing else is asked by it
abbrev pub request_at : Asks → ℕ → CheckRequest
request_at Both place = if nat_lt place 2 then Binding else BarePermission
request_at Bare place = BarePermission
request_at _ place = Binding

-- over a stream none is retransmitted (section 6.2.2), so only a probe sends a second one, the bare request
abbrev pub next_place_over_stream : Asks → ℕ → ℕ
next_place_over_stream Both place = if place == 0 then 2 else 3
next_place_over_stream _ place = 3

-- over UDP each of the three is sent
abbrev pub next_place : TransportType → Asks → ℕ → ℕ
next_place Udp asks place = min (place + 1) 3
next_place Tcp asks place = next_place_over_stream asks place

-- the result of `poll`, and the round after it
abbrev pub round_step : TransportType → ℕ → Round → RoundStep × Round
round_step transport now r =
    if nat_lt now (due_time r) then (WaitUntil (due_time r), r)
    else (if nat_lt 2 r.place then (Unanswered, r)
    else (Send (request_at r.asks r.place), record r { place = next_place transport r.asks r.place }))
