-- Idle peers: what they were granted is released, and kept again when they are used.
use Rattle.std.specs.Prelude.{ℕ, ◌+◌, ◌-◌, ◌/◌, ◌^◌, ◌&&◌, max, min, nat_lt, not, Bool, if◌then◌else◌, List, [], find, map, Option, Some, None, is_some}
use Rattle.std.specs.Option.{option_map_or}
use Rattle.turn_session_book.specs.First.{with_first, without_first}
use Rattle.turn_session_book.specs.declared.held.HeldGrant.{HeldGrant}
use Rattle.turn_session_book.specs.declared.keys.Key.{Key}
use Rattle.turn_session_idle.specs.IdleState.{IdleState}
use Rattle.turn_session_idle.specs.Usage.{carried_out, is_due, used_with}
use Rattle.turn_session_idle.specs.Usages.{grant_at, is_usage_of}
use Rattle.turn_session_idle.specs.declared.peers.IdleStep.{IdleStep}
use Rattle.turn_session_idle.specs.declared.peers.IdleStep.TheVariants.{Keep, Release, WaitUntil, Off}
use Rattle.turn_session_idle.specs.declared.usage.Usage.{Usage}
use Rattle.turn_session_idle.specs.declared.usage.UsePhase.{UsePhase}
use Rattle.turn_session_idle.specs.declared.usage.UsePhase.TheVariants.{UsedAgain}

abbrev pub no_peers : Option ℕ → ℕ → IdleState
no_peers idle now = record { idle = idle; look = now; usages = [] }

-- ---- what is used, and what the caller keeps

abbrev pub after_use : Key → ℕ → IdleState → IdleState
after_use key now s = by s.idle
  where
    by : Option ℕ → IdleState
    by None = s
    by (Some idle) = record s { usages = map (used_with key now) s.usages }

-- it is forgotten until the next look
abbrev pub after_decision : Key → IdleState → IdleState
after_decision key s = record s { usages = without_first (is_usage_of key) s.usages }

-- ---- a look

-- four in the time after which a peer is idle
abbrev pub look_pause : ℕ → ℕ
look_pause idle = max (idle / 4) 1

abbrev pub looks_now : ℕ → IdleState → Bool
looks_now now s = is_some s.idle && not (nat_lt now s.look)

-- all that is granted is looked at, and what is not granted any more is forgotten
abbrev pub after_look : List HeldGrant → ℕ → ℕ → IdleState → IdleState
after_look granted idle now s =
    if nat_lt now s.look then s
    else record s { look = min (now + look_pause idle) (2 ^ 63 - 1); usages = map (grant_at idle now s.usages) granted }

-- ---- what is to be done

abbrev pub step_of : Usage → IdleStep
step_of u = by u.phase
  where
    by : UsePhase → IdleStep
    by UsedAgain = Keep u.key
    by _ = Release u.key

-- the first grant that is to be kept again or released, or else the time of the next look
abbrev pub due_step : IdleState → IdleStep
due_step s = option_map_or step_of (find is_due s.usages) (WaitUntil s.look)

abbrev pub done_state : IdleState → IdleState
done_state s = record s { usages = with_first is_due carried_out s.usages }

-- the result of `poll`, and the peers after it
abbrev pub idle_step : List HeldGrant → ℕ → IdleState → IdleStep × IdleState
idle_step granted now s = by s.idle
  where
    by : Option ℕ → IdleStep × IdleState
    by None = (Off, s)
    by (Some idle) = let t = after_look granted idle now s in (due_step t, done_state t)
