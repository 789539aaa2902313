-- Whether the server still knows the allocation: it is asked in doubt, by a request for a permission that lets nobody in.
use Rattle.std.specs.Prelude.{◌≡◌, ◌⊎◌, ℕ, Bool, true, false, [], ◌∷◌, Option, Some, None, Result, Ok, Err}
use Rattle.std.specs.declared.net.ip_addr.IpAddr.{IpAddr}
use Rattle.std.specs.declared.net.ip_addr.IpAddr.TheVariants.{V4, V6}
use Rattle.turn_stun.specs.declared.transport.TransportType.{TransportType}
use Rattle.turn_client_api.specs.Calls.{create_permission_step, permission_kept_step}
use Rattle.turn_client_api.specs.State.{State}
use Rattle.turn_client_api.specs.declared.error.CreatePermissionError.{CreatePermissionError}
use Rattle.turn_client_api.specs.declared.error.CreatePermissionError.TheVariants as Create
use Rattle.turn_session_book.specs.declared.causes.Why.{Why}
use Rattle.turn_session_book.specs.declared.keys.Key.TheVariants.{Permission}
use Rattle.turn_session_life.specs.Doubts.{after_asking, after_told, cause_told, doubts_step}
use Rattle.turn_session_life.specs.Doubts as Parts
use Rattle.turn_session_life.specs.declared.doubts.Asking.{Asking}
use Rattle.turn_session_life.specs.declared.doubts.Asking.TheVariants.{Asked, Taken, NoAllocation}
use Rattle.turn_session_life.specs.declared.doubts.Doubts.{Doubts}
use Rattle.turn_session_life.specs.declared.doubts.DoubtsStep.{DoubtsStep}
use Rattle.turn_session_life.specs.declared.doubts.DoubtsStep.TheVariants as Steps
use Rattle.turn_session_life.specs.declared.responses.Response.{Response}
use Rattle.turn_session_client.specs.Ending.{ended, is_open, left_for}
use Rattle.turn_session_client.specs.NotedState.{NotedState}
use Rattle.turn_session_client.specs.Notes.{is_asked, shelved}
use Rattle.turn_session_client.specs.Receiving.{doubted}
use Rattle.turn_session_client.specs.declared.noted.doubting.DoubtsPoll.{DoubtsPoll}
use Rattle.turn_session_client.specs.declared.noted.doubting.DoubtsPoll.TheVariants.{Now, WaitUntil, Idle, NoMemory}
use Rattle.turn_session_client.specs.declared.notes.Told.{Told}

abbrev pub with_doubts : Doubts → NotedState → NotedState
with_doubts doubts s = record s { doubts = doubts }

abbrev pub after_doubt : NotedState → NotedState
after_doubt s = with_doubts (Parts.after_doubt s.doubts) s

abbrev pub after_move : NotedState → NotedState
after_move s = with_doubts (Parts.after_move s.doubts) s

abbrev pub noted_doubts : Response → ℕ → NotedState → NotedState
noted_doubts r now s = with_doubts (doubted r now s) s

-- ---- the request

-- no host has these addresses: 192.0.2.1 to .254 (RFC 5737), and 2001:db8::1 to ::fe (RFC 3849)
abbrev pub question_ip : Bool → ℕ → IpAddr
question_ip false number = V4 (record { octets = 192 ∷ 0 ∷ 2 ∷ number ∷ [] })
question_ip true number = V6 (record { segments = 0x2001 ∷ 0xdb8 ∷ 0 ∷ 0 ∷ 0 ∷ 0 ∷ 0 ∷ number ∷ [] })

-- the permission is not kept, so it ends by itself
abbrev pub asked_by : TransportType → IpAddr → ℕ → State → Asking × State
asked_by relays ip now s = by (create_permission_step relays ip now s)
  where
    by : Result Unit CreatePermissionError × State → Asking × State
    by (Ok done, client) = (Asked, (permission_kept_step relays ip false client).1)
    by (Err Create.AlreadyExists, client) = (Taken, client)
    by (Err Create.NoAllocation, client) = (NoAllocation, client)
    by (Err Create.OutOfMemory, client) = (Asked, client)

-- without memory nothing changes
abbrev pub AsksClient : Option Asking → State → State → Asking × State → Type 0
AsksClient None was s said = s ≡ was
AsksClient (Some asking) was s said = (asking ≡ said.0) × (s ≡ said.1)

-- ---- the question

-- what was asked for is the last question
abbrev pub with_question : Asking → IpAddr → NotedState → NotedState
with_question Asked ip s =
    with_doubts (after_asking Asked s.doubts) (record s { notes = record s.notes { question = Some (Permission ip) } })
with_question asking ip s = with_doubts (after_asking asking s.doubts) s

-- without memory nothing changes
abbrev pub AsksNew : TransportType → IpAddr → ℕ → NotedState → NotedState → DoubtsPoll → Type 0
AsksNew relays ip now was s answer =
    let step = asked_by relays ip now was.client in
    ((answer ≡ Now) × (s ≡ with_question step.0 ip (record was { client = step.1 }))) ⊎ ((answer ≡ NoMemory) × (s ≡ was))

-- the question before it is noted with the others first
abbrev pub AsksFor : TransportType → IpAddr → ℕ → NotedState → NotedState → DoubtsPoll → Type 0
AsksFor relays ip now was s answer = by (is_asked (Permission ip) was.notes)
  where
    by : Bool → Type 0
    by true = (answer ≡ Now) × (s ≡ with_doubts (after_asking Taken was.doubts) was)
    by false =
        AsksNew relays ip now (record was { notes = shelved was.notes }) s answer ⊎ ((answer ≡ NoMemory) × (s ≡ was))

-- the address with the next number, unless it was asked for
abbrev pub AsksNext : ℕ → NotedState → NotedState → DoubtsPoll → Type 0
AsksNext now was s answer = by was.notes.relays
  where
    by : Option TransportType → Type 0
    by None = (answer ≡ Idle) × (s ≡ was)
    by (Some relays) = AsksFor relays (question_ip was.doubts.is_ipv6 was.doubts.number) now was s answer

-- ---- what the server has said to it

abbrev pub told_step : ℕ → NotedState → Bool × NotedState
told_step now s = by s.notes.told
  where
    used : Told → NotedState
    used told = record s { notes = record s.notes { told = None }; doubts = after_told told.error now s.doubts }

    end : Option Why → NotedState → Bool × NotedState
    end None t = (false, t)
    end (Some why) t = (true, ended why t)

    by : Option Told → Bool × NotedState
    by None = (false, s)
    by (Some told) = end (cause_told told.error) (used told)

-- ---- the call

abbrev pub doubts_ended : Why → ℕ → NotedState → DoubtsPoll × NotedState
doubts_ended why now s = (Now, left_for why now s)

abbrev pub DoubtsLead : ℕ → DoubtsStep × Doubts → NotedState → NotedState → DoubtsPoll → Type 0
DoubtsLead now (Steps.Ask, after) was s answer = AsksNext now (with_doubts after was) s answer
DoubtsLead now (Steps.WaitUntil time, after) was s answer = (answer ≡ WaitUntil time) × (s ≡ with_doubts after was)
DoubtsLead now (Steps.Idle, after) was s answer = (answer ≡ Idle) × (s ≡ with_doubts after was)
DoubtsLead now (Steps.End why, after) was s answer = (answer, s) ≡ doubts_ended why now (with_doubts after was)

abbrev pub PollsTold : ℕ → Bool × NotedState → NotedState → DoubtsPoll → Type 0
PollsTold now (true, t) s answer = (answer ≡ Now) × (s ≡ t)
PollsTold now (false, t) s answer = DoubtsLead now (doubts_step now t.doubts) t s answer

-- of an open session
abbrev pub PollsDoubts : ℕ → NotedState → NotedState → DoubtsPoll → Type 0
PollsDoubts now was s answer = by (is_open was.life.phase)
  where
    by : Bool → Type 0
    by true = PollsTold now (told_step now was) s answer
    by false = (answer ≡ Idle) × (s ≡ was)
