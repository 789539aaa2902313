-- When the path to the server is probed.
use Rattle.std.specs.Prelude.{ℕ, ◌+◌, ◌-◌, ◌^◌, min, max, nat_le, Bool, true, false, if◌then◌else◌}
use Rattle.turn_session_path.specs.declared.probes.Probes.{Probes}
use Rattle.turn_session_path.specs.declared.round.Asks.TheVariants.{Both, Bare}
use Rattle.turn_session_path.specs.declared.round.CheckRequest.{CheckRequest}
use Rattle.turn_session_path.specs.declared.round.CheckRequest.TheVariants.{Binding, BarePermission}

abbrev pub first_probe : ℕ → ℕ → Probes
first_probe every now =
    record { every = every; due = min (now + every) (2 ^ 63 - 1); asks = Both; has_binding = false; unanswered = 0 }

-- so long after the probe before it was due, but not in the past
abbrev pub next_due : ℕ → Probes → ℕ
next_due now p = max (min (p.due + p.every) (2 ^ 63 - 1)) now

-- who answers a bare CREATE_PERMISSION, and never answered a Binding request, is asked by it from then on
abbrev pub after_answer : CheckRequest → ℕ → Probes → Probes
after_answer Binding now p = record p { due = next_due now p; unanswered = 0; asks = Both; has_binding = true }
after_answer BarePermission now p =
    record p { due = next_due now p; unanswered = 0; asks = if p.has_binding then p.asks else Bare }

-- something else was received in the round
abbrev pub after_skip : ℕ → Probes → Probes
after_skip now p = record p { due = next_due now p; unanswered = 0 }

-- a round that counts is one more in a row
abbrev pub after_silence : Bool → ℕ → Probes → Probes
after_silence counts now p =
    record p { due = next_due now p; unanswered = if counts then min (p.unanswered + 1) 255 else p.unanswered }

-- three rounds in a row end a session
abbrev pub has_failed : Probes → Bool
has_failed p = nat_le 3 p.unanswered
