-- What ends a session.
use Rattle.std.specs.Prelude.{ℕ, Bool, true, false, not, ◌&&◌, ◌||◌, if◌then◌else◌, List, Option, Some, None}
use Rattle.turn_stun.specs.declared.transport.Transmit.{Transmit}
use Rattle.turn_client_api.specs.Abandon.{abandon_step}
use Rattle.turn_session_book.specs.declared.causes.Why.{Why}
use Rattle.turn_session_book.specs.declared.causes.Why.TheVariants.{Closed, Forgotten}
use Rattle.turn_session_book.specs.declared.tags.Tag.{Tag}
use Rattle.turn_session_life.specs.Doubts.{after_doubt}
use Rattle.turn_session_life.specs.Heard.{has_hint, kept_until}
use Rattle.turn_session_life.specs.Life.{after_end, after_ending, after_leave, cause_in}
use Rattle.turn_session_life.specs.Verdict.{after_failure}
use Rattle.turn_session_life.specs.declared.life.Phase.{Phase}
use Rattle.turn_session_life.specs.declared.life.Phase.TheVariants.{Opening, Open, Over}
use Rattle.turn_session_client.specs.NotedState.{NotedState, with_life}

abbrev pub is_opening : Phase → Bool
is_opening Opening = true
is_opening _ = false

abbrev pub is_open : Phase → Bool
is_open Open = true
is_open _ = false

abbrev pub is_over : Phase → Bool
is_over (Over why) = true
is_over _ = false

-- at once, with this cause, or with that for which it leaves
abbrev pub ended : Why → NotedState → NotedState
ended why s = with_life (after_end why s.life) s

-- ---- leaving

-- the server may have granted an allocation: it did, or it has challenged the ALLOCATE
abbrev pub may_be_granted : NotedState → Bool
may_be_granted s = is_open s.life.phase || s.heard.is_challenged

abbrev pub left_open : ℕ → NotedState → NotedState
left_open now s = with_life (after_leave s.leave_wait now s.life) s

-- at once if the server can't have granted one, and if it has refused the ALLOCATE, although nobody signed that
abbrev pub left_unopened : ℕ → NotedState → NotedState
left_unopened now s = if s.heard.is_challenged && not (has_hint s.heard) then left_open now s else ended Closed s

-- the caller leaves; a session that leaves by itself goes on with that, since the server may grant an allocation late
abbrev pub left : ℕ → NotedState → NotedState
left now s = by s.life.phase
  where
    by : Phase → NotedState
    by Open = left_open now s
    by Opening = left_unopened now s
    by _ = s

-- the session leaves by itself for this cause
abbrev pub left_for : Why → ℕ → NotedState → NotedState
left_for why now s = if may_be_granted s then with_life (after_ending why s.leave_wait now s.life) s else ended why s

-- one that the server has forgotten is not kept
abbrev pub may_be_kept_until : NotedState → Option ℕ
may_be_kept_until s = by (cause_in s.life.phase)
  where
    by : Option Why → Option ℕ
    by (Some (Forgotten error)) = None
    by _ = kept_until s.heard

-- ---- a socket that is closed at once

abbrev pub abandon_result : ℕ → NotedState → Option (Transmit (List ℕ))
abandon_result now s = if is_over s.life.phase then None else (abandon_step now s.client).0

abbrev pub abandon_state : ℕ → NotedState → NotedState
abandon_state now s = if is_over s.life.phase then s else ended Closed (record s { client = (abandon_step now s.client).1 })

-- ---- errors of the socket

-- while the allocation is requested it is the verdict after a while, and later it makes one doubt the allocation
abbrev pub after_socket_error : Tag → ℕ → NotedState → NotedState
after_socket_error tag now s = by s.life.phase
  where
    by : Phase → NotedState
    by Opening = record s { verdict = record { blame = after_failure tag now s.verdict.blame } }
    by Open = record s { doubts = after_doubt s.doubts }
    by _ = s
