-- When the peer of a grant was last used, and whether the grant is released because the peer is idle.
use Rattle.std.specs.Prelude.{ℕ, ◌+◌, ◌-◌, ◌^◌, ◌||◌, min, nat_lt, Bool, true, false, if◌then◌else◌}
use Rattle.turn_session_book.specs.Keys.{permission_for, same_key}
use Rattle.turn_session_book.specs.declared.keys.Key.{Key}
use Rattle.turn_session_idle.specs.declared.usage.Usage.{Usage}
use Rattle.turn_session_idle.specs.declared.usage.UsePhase.{UsePhase}
use Rattle.turn_session_idle.specs.declared.usage.UsePhase.TheVariants.{InUse, Idle, Released, UsedAgain}

abbrev pub new_usage : Key → ℕ → Usage
new_usage key now = record { key = key; last = now; phase = InUse }

-- ---- a use

-- a permission is used with each port of its IP address
abbrev pub is_used_with : Key → Usage → Bool
is_used_with key u = same_key u.key key || same_key u.key (permission_for key)

-- what was released is to be kept again
abbrev pub phase_used : UsePhase → UsePhase
phase_used InUse = InUse
phase_used Idle = InUse
phase_used Released = UsedAgain
phase_used UsedAgain = UsedAgain

abbrev pub used : ℕ → Usage → Usage
used now u = record u { last = now; phase = phase_used u.phase }

abbrev pub used_with : Key → ℕ → Usage → Usage
used_with key now u = if is_used_with key u then used now u else u

-- ---- a look

-- a peer is idle so long after its last use
abbrev pub phase_at : ℕ → ℕ → ℕ → UsePhase
phase_at idle now last = if nat_lt now (min (last + idle) (2 ^ 63 - 1)) then InUse else Idle

-- only what is kept can be released
abbrev pub looked_at : Bool → ℕ → ℕ → Usage → Usage
looked_at is_kept idle now u = if is_kept then record u { phase = phase_at idle now u.last } else u

-- ---- what is to be done

abbrev pub is_due : Usage → Bool
is_due u = by u.phase
  where
    by : UsePhase → Bool
    by Idle = true
    by UsedAgain = true
    by _ = false

abbrev pub phase_carried_out : UsePhase → UsePhase
phase_carried_out Idle = Released
phase_carried_out Released = Released
phase_carried_out UsedAgain = InUse
phase_carried_out InUse = InUse

-- it was released, or kept again
abbrev pub carried_out : Usage → Usage
carried_out u = record u { phase = phase_carried_out u.phase }
