-- The first line: the client of a session, and the session's settings.
use Rattle.std.specs.Prelude.{ℕ, ◌==◌, ◌^◌, ◌-◌, ◌+◌, ◌&&◌, nat_le, Bool, true, false, if◌then◌else◌}
use Rattle.std.specs.Prelude.{List, [], ◌∷◌, drop, length, slice_index, Option, Some, None}
use Rattle.std.specs.Duration.{as_nanos}
use Rattle.std.specs.Option.{option_map, unwrap_or}
use Rattle.turn_stun.specs.declared.transport.TransportType.{TransportType}
use Rattle.turn_client_calls.specs.Checks.{◌>>=◌}
use Rattle.turn_lines.specs.Head.{head_of}
use Rattle.turn_lines.specs.Number.{decimal_up_to}
use Rattle.turn_lines.specs.Parts.{parts_of, next, ends}
use Rattle.turn_lines.specs.declared.head.Head.{Head}
use Rattle.turn_session.specs.Settings.{default_probe}
use Rattle.turn_session.specs.declared.settings.SessionSettings.{SessionSettings}
use Rattle.turn_session_lines.specs.declared.head.SessionHead.{SessionHead}

-- ---- settings

-- what the settings say, times in nanoseconds
pub record Chosen : Type 0 where
  pub probe : Option ℕ
  pub checks_allocation : Bool
  pub idle : Option ℕ
  pub leave_wait : ℕ

abbrev pub chosen_in : SessionSettings → Chosen
chosen_in s = record {
  probe = option_map as_nanos s.probe;
  checks_allocation = s.checks_allocation;
  idle = option_map as_nanos s.idle;
  leave_wait = as_nanos s.leave_wait;
}

abbrev pub default_settings : TransportType → Chosen
default_settings transport = record { probe = default_probe transport; checks_allocation = false; idle = None; leave_wait = 2_000_000_000 }

-- a time, or never for 0
abbrev pub if_ever : ℕ → Option ℕ
if_ever nanos = if (nanos == 0) then None else Some nanos

-- PROBE,CHECKS,IDLE,LEAVE
unfoldable pub settings_of : List ℕ → Option Chosen
settings_of text = do
  probe ← next (decimal_up_to (2 ^ 64 - 1)) (parts_of 44 text)
  checks ← next (decimal_up_to 1) probe.1
  idle ← next (decimal_up_to (2 ^ 64 - 1)) checks.1
  leave ← next (decimal_up_to (2 ^ 64 - 1)) idle.1
  _ ← ends leave.1
  Some (record { probe = if_ever probe.0; checks_allocation = checks.0 == 1; idle = if_ever idle.0; leave_wait = leave.0 })

-- ---- the line

-- what it describes
pub record Described : Type 0 where
  pub client : Head
  pub settings : Chosen
  -- of the transaction IDs of checks
  pub seed : List ℕ

abbrev pub described_in : SessionHead → Described
described_in h = record { client = h.client; settings = chosen_in h.settings; seed = h.seed }

-- what follows `session` and a space
abbrev pub after_word : List ℕ → Option (List ℕ)
after_word line =
    if nat_le 8 (length line) && (slice_index line 0 == 115) && (slice_index line 1 == 101) && (slice_index line 2 == 115)
    && (slice_index line 3 == 115) && (slice_index line 4 == 105) && (slice_index line 5 == 111)
    && (slice_index line 6 == 110) && (slice_index line 7 == 32)
    then Some (drop 8 line)
    else None

-- the settings, if the first field has them, and the text after it
abbrev pub split_settings : List ℕ → Option Chosen × List ℕ
split_settings text = by (parts_of 32 text)
  where
    after : List ℕ → Option Chosen → Option Chosen × List ℕ
    after first (Some chosen) = (Some chosen, drop (length first + 1) text)
    after first None = (None, text)

    by : List (List ℕ) → Option Chosen × List ℕ
    by [] = (None, text)
    by (first ∷ fields) = after first (settings_of first)

-- with the bits of the first byte flipped
abbrev pub other_seed : List ℕ → List ℕ
other_seed [] = []
other_seed (byte ∷ bytes) = (255 - byte) ∷ bytes

-- requests are timed from when their first copies are sent
abbrev pub head_with : Head → Option Chosen → Described
head_with client chosen = record {
  client = record client { timed_from_send = true };
  settings = unwrap_or chosen (default_settings client.ends.transport);
  seed = other_seed client.seed;
}

-- `session`, the settings or none, and the head of a client
unfoldable pub session_head_of : List ℕ → Option Described
session_head_of line = do
  rest ← after_word line
  client ← head_of (split_settings rest).1
  Some (head_with client (split_settings rest).0)
