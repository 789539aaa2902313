-- The senders of the payloads of a run.
use Rattle.turn_client_laws.proofs.Common.{◌≡◌, Bool, true, false, cond, List, [], ◌∷◌, Option, Some, None, refl, subst, ap, inl, inr, Contains-append_cases, Contains, SocketAddr}
use Rattle.turn_client_laws.proofs.Machine.{State, Payload, Outcome, Handled, Ignored, PeerData, PeerIcmp, owned, payload_in, state_after, Call, Recv, PollRecv, Mode, Control, Waiting, Bound, Stream}
use Rattle.turn_client_laws.proofs.Machine.{has-filter_map}
use Rattle.turn_client_laws.proofs.Laws.{Input, handled, processed, payloads_by, input_payload, IsBoundAt, IsPermittedInput, IsMessageFromPermitted, HasNoPeer, poll_recv-Gives, recv-AreOf}
use Rattle.turn_client_laws.proofs.Laws.{input-IsFromPermitted, contains-has}
use Rattle.turn_client_runs.specs.Peers.{InputDelivers, IsPeerPermitted, IsDeliveredIn, ReportsOfPermitted}
use Rattle.turn_client_runs.specs.Inputs.{IsAmong, delivered_by, answered_in, handled_in, payloads_in}
use Rattle.turn_client_runs.proofs.ComingLemmas.{Stands, inputs-stand}
use Rattle.turn_client_runs.proofs.InputsOfRuns.{among-left, among-right, has-among}

-- ---- the stream of an input is in the state just before it

abbrev IsIn : Input → Type 0
IsIn one = (stream : Stream) → one.stream ≡ Some stream → Stands stream one.before

-- ---- the sender of a payload

-- the peer of a payload is the same if it is owned
peer-same : (l : Bool) (p payload : Payload) → payload_in (cond l (PeerData p) (owned (PeerData p))) ≡ Some payload → p.peer ≡ payload.peer
peer-same true p payload e = let same : p ≡ payload = cc in ap (λ (x : Payload). x.peer) same
peer-same false p payload e = let same : record p { place = None } ≡ payload = cc in ap (λ (x : Payload). x.peer) same

module _ (payload : Payload) where
  -- the outcome has the payload, or owns it
  abbrev Gives : Bool → Outcome → Type 0
  Gives l o = payload_in (cond l o (owned o)) ≡ Some payload

  gives-data : (l : Bool) (o : Outcome) → Gives l o → (p : Payload) × (o ≡ PeerData p) × (p.peer ≡ payload.peer)
  gives-data l (PeerData p) e = (p, refl, peer-same l p payload e)
  gives-data true o e = cc
  gives-data false o e = cc

  -- a whole message or a ChannelData message
  through : (one : Input) (o : Outcome) → IsMessageFromPermitted one.bytes one.before o → Gives one.is_lent o → IsPeerPermitted payload.peer one
  through one o exact gives =
      let (p, is, same) = gives-data one.is_lent o gives in
      subst (λ (peer : SocketAddr). IsPeerPermitted peer one) same
      (elim (subst (IsMessageFromPermitted one.bytes one.before) is exact) [
        | inl (indicated, from) ↦ inl indicated.permitted
        | inr (channel, from) ↦ inr (inl (_, channel))
      ])

  -- what no peer sent is no payload
  nobody : (one : Input) (o : Outcome) → HasNoPeer o → Gives one.is_lent o → IsPeerPermitted payload.peer one
  nobody one o none gives = let (p, is, same) = gives-data one.is_lent o gives in absurd (subst HasNoPeer is none)

  stream_in_mode : (m : Mode) (stream : Stream) (t : Input) → input_payload (record t { stream = Some (record stream { mode = m }) }) ≡ Some payload
      → IsPermittedInput (record t { stream = Some (record stream { mode = m }) }) → IsIn (record t { stream = Some (record stream { mode = m }) })
      → IsPeerPermitted payload.peer (record t { stream = Some (record stream { mode = m }) })
  stream_in_mode Control stream t gives exact is = let one = record t { stream = Some (record stream { mode = Control }) } in through one (processed one).0 exact gives
  stream_in_mode (Bound peer) stream t gives exact is =
      let u = record stream { mode = Bound peer } in
      let one = record t { stream = Some u } in
      let same : peer ≡ payload.peer = peer-same t.is_lent _ payload gives in
      subst (λ (x : SocketAddr). IsPeerPermitted x one) same (inr (inr (u, refl, refl, bound (is u refl))))
    where
      bound : Stands (record stream { mode = Bound peer }) t.before → IsBoundAt stream.local peer t.before
      bound (x, there, at, mode) = (x, there, at, mode)
  stream_in_mode m stream t gives exact is = let one = record t { stream = Some (record stream { mode = m }) } in nobody one (processed one).0 exact gives

  let-in : (one : Input) → input_payload one ≡ Some payload → IsPermittedInput one → IsIn one → IsPeerPermitted payload.peer one
  let-in one = by one.stream one
    where
      by : (o : Option Stream) (t : Input) → input_payload (record t { stream = o }) ≡ Some payload → IsPermittedInput (record t { stream = o }) → IsIn (record t { stream = o })
          → IsPeerPermitted payload.peer (record t { stream = o })
      by None t gives exact is = let one = record t { stream = None } in through one (processed one).0 exact gives
      by (Some stream) t gives exact is = stream_in_mode stream.mode stream t gives exact is

  -- ---- a call, and a run

  by-call : (call : Call) (s : State) → Contains (payloads_by call s) payload → IsAmong (InputDelivers payload) (handled call s)
  by-call call s there =
      let (one, among, gives) = has-filter_map input_payload payload (handled call s) (contains-has payload (payloads_by call s) there) in
      let exact = input-IsFromPermitted one in
      has-among (InputDelivers payload) (handled call s)
      (one, among, record { given = gives; exact = exact; let_in = let-in one gives exact (inputs-stand call s one among) })

  pub received : (s : State) (calls : List Call) → Contains (payloads_in s calls) payload → IsDeliveredIn payload s calls
  received s [] there = absurd (contains-has payload [] there)
  received s (call ∷ calls) there =
      let more = handled_in (state_after call s) calls in
      elim (Contains-append_cases (payloads_by call s) (payloads_in (state_after call s) calls) payload there) [
        | inl here ↦ among-left (InputDelivers payload) (handled call s) more (by-call call s here)
        | inr later ↦ among-right (InputDelivers payload) (handled call s) more (received (state_after call s) calls later)
      ]

-- ---- what the calls return

pub call-answered : (call : Call) (s : State) → payloads_by call s ≡ delivered_by call s
call-answered (Recv packet now) s = recv-AreOf packet now s
call-answered (PollRecv now) s = poll_recv-Gives now s
call-answered _ s = refl

pub all-answered : (s : State) (calls : List Call) → payloads_in s calls ≡ answered_in s calls
all-answered s [] = refl
all-answered s (call ∷ calls) = rw (call-answered call s, all-answered (state_after call s) calls) refl

-- ---- ICMP reports

reports-through : (one : Input) (o : Outcome) → (processed one).0 ≡ o → IsMessageFromPermitted one.bytes one.before o → ReportsOfPermitted one
reports-through one (PeerIcmp transport peer icmp) e (indicated, is) = rw e (indicated, is)
reports-through one o e exact = rw e tt

reports-nothing : (one : Input) (o : Outcome) → (processed one).0 ≡ o → HasNoPeer o → ReportsOfPermitted one
reports-nothing one Handled e none = rw e tt
reports-nothing one Ignored e none = rw e tt
reports-nothing one o e none = absurd none

reports_in_mode : (m : Mode) (stream : Stream) (t : Input) → IsPermittedInput (record t { stream = Some (record stream { mode = m }) })
    → ReportsOfPermitted (record t { stream = Some (record stream { mode = m }) })
reports_in_mode Control stream t exact = let one = record t { stream = Some (record stream { mode = Control }) } in reports-through one (processed one).0 refl exact
reports_in_mode Waiting stream t exact = let one = record t { stream = Some (record stream { mode = Waiting }) } in reports-nothing one (processed one).0 refl exact
reports_in_mode m stream t exact = tt

pub reports-permitted : (one : Input) → ReportsOfPermitted one
reports-permitted one = by one.stream one (input-IsFromPermitted one)
  where
    by : (o : Option Stream) (t : Input) → IsPermittedInput (record t { stream = o }) → ReportsOfPermitted (record t { stream = o })
    by None t exact = let u = record t { stream = None } in reports-through u (processed u).0 refl exact
    by (Some stream) t exact = reports_in_mode stream.mode stream t exact
