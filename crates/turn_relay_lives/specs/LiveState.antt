-- A session of a relay, with its socket.
use Rattle.std.specs.Prelude.{ℕ, ◌==◌, nat_lt, not, Bool, true, false, if◌then◌else◌}
use Rattle.turn_relay_tries.specs.declared.tasks.Attempt.{Attempt}
use Rattle.turn_session.specs.SessionState.{SessionState, with_noted}
use Rattle.turn_session.specs.declared.due.Due.{Due}
use Rattle.turn_session.specs.declared.due.Due.TheVariants as Session
use Rattle.turn_session_client.specs.Ending as Noted
use Rattle.turn_relay_lives.specs.declared.link.Link.{Link}
use Rattle.turn_relay_lives.specs.declared.link.Role.{Role}
use Rattle.turn_relay_lives.specs.declared.link.Role.TheVariants.{Trying, InUse, Leaving}

pub record LiveState : Type 0 where
  -- its socket, and what it is for
  pub link : Link
  -- it has nothing to do before this time
  pub due : ℕ
  -- the session
  pub session : SessionState

abbrev pub new_live : ℕ → Attempt → SessionState → LiveState
new_live socket attempt session =
    record { link = record { socket = socket; attempt = attempt; role = Trying }; due = 0; session = session }

abbrev pub with_role : Role → LiveState → LiveState
with_role role l = record l { link = record l.link { role = role } }

-- ---- what it is for

abbrev pub is_socket : ℕ → LiveState → Bool
is_socket socket l = l.link.socket == socket

abbrev pub is_used_in : Role → Bool
is_used_in InUse = true
is_used_in _ = false

abbrev pub is_used : LiveState → Bool
is_used l = is_used_in l.link.role

-- it leaves, and has something to do
abbrev pub left : ℕ → LiveState → LiveState
left now l = record {
  link = record l.link { role = Leaving };
  due = 0;
  session = with_noted (Noted.left now l.session.noted) l.session;
}

abbrev pub left_if_trying : Role → ℕ → LiveState → LiveState
left_if_trying Trying now l = left now l
left_if_trying _ now l = l

-- one of those that try is used, and the others leave
abbrev pub chosen : ℕ → ℕ → LiveState → LiveState
chosen socket now l = if l.link.socket == socket then with_role InUse l else left_if_trying l.link.role now l

-- ---- when it has something to do

abbrev pub is_due : ℕ → LiveState → Bool
is_due now l = not (nat_lt now l.due)

-- a session that waits has nothing to do before that time
abbrev pub due_after : Due → ℕ → ℕ
due_after (Session.Wait time) due = time
due_after _ due = due
