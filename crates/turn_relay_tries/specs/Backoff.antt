-- How long lies between the tries of a relay.
use Rattle.std.specs.Prelude.{ℕ, ◌≤◌, ◌*◌, ◌-◌, ◌/◌, ◌%◌, ◌^◌, min}
use Rattle.turn_relay_tries.specs.declared.backoff.Backoff.{Backoff}

abbrev pub default_backoff : Backoff
default_backoff = record { first = 500_000_000; longest = 4_000_000_000; jitter = 500 }

-- the lot that a number decides on, of 2^32
abbrev pub lot_of : ℕ → ℕ
lot_of number = number % 2 ^ 32

-- the part of a wait that is random, at most all of it
abbrev pub random_part : Backoff → ℕ → ℕ → ℕ
random_part b wait lot = wait * min b.jitter 1_000 * lot / 4_294_967_296_000

-- a wait less its random part
abbrev pub drawn_wait : Backoff → ℕ → ℕ → ℕ
drawn_wait b wait lot = wait - random_part b wait lot

-- twice as long, up to the longest
abbrev pub next_wait : Backoff → ℕ → ℕ
next_wait b wait = min (min (2 * wait) (2 ^ 64 - 1)) b.longest

-- of a wait is left what is not random: with a jitter of 500 thousandths half of it
abbrev pub IsLeast : Backoff → ℕ → ℕ → Type 0
IsLeast b wait drawn = wait * (1_000 - min b.jitter 1_000) ≤ 1_000 * drawn
