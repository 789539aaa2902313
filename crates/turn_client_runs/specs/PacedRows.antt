-- Worked calls, so that the check computes when queued requests leave.
use Rattle.std.specs.Prelude.{◌≡◌, ℕ, true, List, [], ◌∷◌, Option, Some, None, option_map}
use Rattle.turn_stun.specs.declared.message.header.MessageClass.TheVariants.{Request}
use Rattle.turn_client_api.specs.Requests.{create_permission_method, message_of, queued}
use Rattle.turn_client_api.specs.State.{State, seconds}
use Rattle.turn_client_api.specs.Steps.{state_after}
use Rattle.turn_client_api.specs.Transmit.{next_transmit}
use Rattle.turn_client_api.specs.declared.call.Call.TheVariants.{PollTransmit}
use Rattle.turn_client_laws.specs.LawsRows.{granted_at}
use Rattle.turn_client_runs.specs.LastingBursts.{timed}

-- A client whose last packet left at 1 s, with two requests queued. Their bytes are no messages, so that the rows are short.
abbrev pub two_queued : State → State
two_queued s = let t = timed (granted_at (seconds 1) [] s) in queued true t.local (1 ∷ []) (queued true t.local [] t)

-- after the first one left, at 1.05 s
abbrev pub one_left : State → State
one_left s = state_after (PollTransmit 1_050_000_000) (two_queued s)

-- the bytes that leave at this time
abbrev pub sent_at : ℕ → State → Option (List ℕ)
sent_at now s = option_map (λ packet. packet.payload) (next_transmit now s)

-- Such a client with two requests queued, of which the first awaits no response.
abbrev pub first_ended : State → State
first_ended s =
    let t = record (timed (granted_at (seconds 1) [] s)) { transactions = [] } in
    queued true t.local [] (queued true t.local (message_of create_permission_method Request [] 5) t)

-- Each leaves 50 ms after the packet before it, and not a nanosecond earlier. One that has ended does not leave, and takes no
-- pause.
pub record LeavesInTurn (s : State) : Type 0 where
  pub waits : sent_at 1_049_999_999 (two_queued s) ≡ None
  pub first : sent_at 1_050_000_000 (two_queued s) ≡ Some []
  pub pauses : sent_at 1_099_999_999 (one_left s) ≡ None
  pub second : sent_at 1_100_000_000 (one_left s) ≡ Some (1 ∷ [])
  pub passes : sent_at 1_050_000_000 (first_ended s) ≡ Some []
  pub drops : (state_after (PollTransmit 1_050_000_000) (first_ended s)).queue ≡ []
