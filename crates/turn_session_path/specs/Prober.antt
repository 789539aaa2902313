-- The probes of a path with the round that is under way.
use Rattle.std.specs.Prelude.{ℕ, Option, Some, None}
use Rattle.turn_session_path.specs.Probes.{first_probe, after_answer, after_skip}
use Rattle.turn_session_path.specs.declared.asked.Asked.{Asked}
use Rattle.turn_session_path.specs.declared.prober.Prober.{Prober}
use Rattle.turn_session_path.specs.declared.round.CheckRequest.{CheckRequest}

abbrev pub first_prober : ℕ → ℕ → Prober
first_prober every now = record { probes = first_probe every now; asked = None }

abbrev pub after_probe_answer : CheckRequest → ℕ → Prober → Prober
after_probe_answer request now q = record { probes = after_answer request now q.probes; asked = None }

-- something else was received: a round under way is over, and none was unanswered
abbrev pub after_other : ℕ → Prober → Prober
after_other now q = by q.asked
  where
    by : Option Asked → Prober
    by None = record q { probes = record q.probes { unanswered = 0 } }
    by (Some asked) = record { probes = after_skip now q.probes; asked = None }
