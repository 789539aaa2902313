-- What each message keeps, the streams keep, however many steps they take.
use Rattle.turn_client_laws.proofs.Common.{ℕ, List, [], ◌∷◌, inl, inr, sym, subst, SocketAddr}
use Rattle.turn_client_laws.proofs.Machine.{TransportType, State, Stream, bind_step, message_step, frame_step, max_steps, poll_recv_step, steps_until_payload, without_stream, connection_gone}
use Rattle.turn_client_laws.proofs.Machine.{first_frame_step, recv_step, state_after, Call, Recv}
use Rattle.turn_client_laws.specs.Handled.{Input, fed_taken, handled, inputs_taken, processed}
use Rattle.turn_client_laws.specs.LawsHandled.{DiffersInStreams, ProcessesInputs, InputsLead}
use Rattle.turn_client_laws.proofs.OneInputLemmas.{frame-by, input-by}
use Rattle.turn_client_laws.proofs.InputChainLemmas.{calls-do, fed-leads, steps-lead}

-- Of a relation between a state and a later one: each state is as itself, later is later again, streams
-- do not count, and messages and the ends of connections keep it.
pub record IsKept (R : State → State → Type 0) : Type 0 where
  pub same : (s : State) → R s s
  pub trans : (s t u : State) → R s t → R t u → R s u
  pub streams : (s : State) (streams : List Stream) → R s (record s { streams = streams })
  pub message : (message : List ℕ) (now : ℕ) (s : State) → R s (message_step message now s).1
  pub binds : (local : SocketAddr) (message : List ℕ) (now : ℕ) (s : State) → R s (bind_step local message now s)
  pub gone : (local : SocketAddr) (s : State) → R s (connection_gone local s)

module _ (R : State → State → Type 0) (k : IsKept R) where
  pub frame-kept : (stream : Stream) (frame : List ℕ) (now : ℕ) (s : State) → R s (frame_step stream frame now s).1
  frame-kept stream frame now s =
      frame-by (R s) frame now s (k.same s) stream (λ mode whole. k.message frame now s) (λ mode whole. k.binds stream.local frame now s)

  pub input-kept : (one : Input) → R one.before (processed one).1
  input-kept one =
      let s = one.before in
      input-by (R s) one (k.same s) (λ over whole. k.message one.bytes one.time s) (λ stream of waits whole. k.binds stream.local one.bytes one.time s)

  pub differs-kept : (s t : State) → DiffersInStreams s t → R s t
  differs-kept s t differs = subst (R s) (sym differs.others) (k.streams s t.streams)

  lead-kept : (inputs : List Input) (s t : State) → InputsLead inputs s t → R s t
  lead-kept [] s t lead = differs-kept s t lead
  lead-kept (x ∷ later) s t (first, lead) =
      k.trans s x.before t (differs-kept s x.before first) (k.trans x.before (processed x).1 t (input-kept x) (lead-kept later (processed x).1 t lead))

  pub steps-kept : (n now : ℕ) (s : State) → R s (steps_until_payload n now s).1
  steps-kept n now s = lead-kept (inputs_taken n now s) s _ (steps-lead n now s)

  pub poll_recv-kept : (now : ℕ) (s : State) → R s (poll_recv_step now s).1
  poll_recv-kept now s = steps-kept (max_steps s) now s

  pub first_frame_step-kept : (stream : Stream) (piece : List ℕ) (now : ℕ) (s : State) → R s (first_frame_step stream piece now s).1
  first_frame_step-kept stream piece now s = lead-kept (fed_taken stream piece now s) s _ (fed-leads stream piece now s)

  pub recv-kept : (transport : TransportType) (from to : SocketAddr) (bytes : List ℕ) (now : ℕ) (s : State) → R s (recv_step transport from to bytes now s).1
  recv-kept transport from to bytes now s = by (calls-do call s tt)
    where
      call : Call
      call = Recv (record { transport = transport; from = from; to = to; payload = bytes }) now

      by : ProcessesInputs call s → R s (state_after call s)
      by (inl lead) = lead-kept (handled call s) s (state_after call s) lead
      by (inr end) =
          let t = connection_gone end.local s in
          subst (R s) (sym end.gone) (k.trans s t _ (k.gone end.local s) (k.streams t (without_stream end.local t).streams))
