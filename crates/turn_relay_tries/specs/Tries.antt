-- When a relay that has no address is tried again.
use Rattle.std.specs.Prelude.{ℕ, ◌+◌, ◌*◌, ◌-◌, ◌^◌, min, max, nat_lt, Bool, if◌then◌else◌}
use Rattle.turn_relay_tries.specs.Backoff.{drawn_wait, lot_of, next_wait}
use Rattle.turn_relay_tries.specs.declared.backoff.Backoff.{Backoff}
use Rattle.turn_relay_tries.specs.declared.tries.Tries.{Tries}

-- a time after another one
abbrev pub after : ℕ → ℕ → ℕ
after time wait = min (time + wait) (2 ^ 63 - 1)

abbrev pub first_tries : Backoff → Tries
first_tries b = record { due = 0; wait = b.first; length = 3_900_000_000 }

-- the next try is due a wait later, less its random part, and then the wait doubles
abbrev pub begun : Backoff → ℕ → ℕ → Tries → Tries
begun b number now t = record t { due = after now (drawn_wait b t.wait (lot_of number)); wait = next_wait b t.wait }

-- 0.2 s lie between the end of a try and the next one
abbrev pub after_failure : ℕ → Tries → Tries
after_failure now t = record t { due = max t.due (after now 200_000_000) }

-- over a slow path the next try lasts twice as long, up to 31.2 s, and after one without a response as long as the first
abbrev pub after_slow_try : Bool → Tries → Tries
after_slow_try is_heard t = record t { length = if is_heard then min (2 * t.length) 31_200_000_000 else 3_900_000_000 }

abbrev pub at_once : ℕ → Tries → Tries
at_once now t = record t { due = now }

-- only a relay that was up for 60 s begins anew
abbrev pub after_end : Backoff → ℕ → ℕ → Tries → Tries
after_end b since now t = if nat_lt now (after since 60_000_000_000) then after_failure now t else first_tries b
