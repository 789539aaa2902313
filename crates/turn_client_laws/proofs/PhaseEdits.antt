-- What calls keep whatever the grants, the requests and the queues are, by what the few other edits keep.
use Rattle.turn_client_laws.proofs.Common.{◌≡◌, ◌+◌, ◌<◌, ◌++◌, ℕ, List, map, filter, true, Some, IsSome, SocketAddr}
use Rattle.turn_client_laws.proofs.Machine.{Challenge, State, New, Requesting, Authenticating, Closed, Permission, Channel, Connect, Connection, Pending, Active, Reserved, OwnConnect, is_channel_of}
use Rattle.turn_client_laws.proofs.Machine.{is_connect_to, is_of, is_permission_of, with_grant, without_grants, request_started, challenge_in, challenges_reset, transaction_ended, new_allocation}
use Rattle.turn_client_laws.proofs.Machine.{phase_with, relayed_in, taken_addresses, with_offer, phase_after, with_held, offer_taken, sent, resent, waits_begun}
use Rattle.turn_client_laws.proofs.Edits.{KeepsEdits, KeepsAccepted}

-- a state with grants, requests and queues as in another one
abbrev pub with_rest : State → State → State
with_rest t s = record s {
  ids = t.ids;
  families = t.families;
  grants = t.grants;
  listed = t.listed;
  transactions = t.transactions;
  queue = t.queue;
  events = t.events;
  closes = t.closes;
}

pub record KeepsPhaseEdits (R : State → State → Type 0) : Type 0 where
  pub rest : (s t : State) → R s (with_rest t s)
  pub trans : (s t u : State) → R s t → R t u → R s u
  pub sends : (now : ℕ) (s : State) → R s (sent now s)
  pub begins : (now : ℕ) (s : State) → s.phase ≡ New → R s (sent now (record s { phase = Requesting }))
  pub ends : (s : State) → R s (record s { phase = Closed })

-- those of messages, too
pub record KeepsAllPhaseEdits (HasAccepted : Type 0) (R : State → State → Type 0) : Type 0 where
  pub edits : KeepsPhaseEdits R
  pub holds : (message : List ℕ) (d : Challenge) (s : State) → challenge_in s message ≡ Some d → R s (with_held d s)
  pub counts : (s : State) → IsSome s.held → s.challenges < s.config.max_stale_nonces
      → R s (record s { phase = phase_after s.phase; challenges = s.challenges + 1 })
  pub resets : HasAccepted → (s : State) → R s (challenges_reset s)
  pub allocates : (addresses : List SocketAddr) (s : State) → s.phase ≡ Authenticating → R s (record s { phase = phase_with addresses })

pub phase-edits : (R : State → State → Type 0) → KeepsPhaseEdits R → KeepsEdits R
phase-edits R k = record {
  rest = record {
    same = λ s. k.rest s s;
    trans = k.trans;
    aside = λ s t. k.rest s (record s { ids = t.ids; events = t.events; closes = t.closes });
    queues = λ queue s begun. k.rest s (record s { queue = queue });
    dequeues = λ queue s fewer. k.rest s (record s { queue = queue });
    families = λ families s may. k.rest s (record s { families = families });
    sends = λ now s waits. k.sends now s;
    begins = k.begins;
    ends = λ s none. k.ends s;
    finishes = λ id s. k.rest s (transaction_ended id s);
    resends = λ id now s. k.rest s (record s { transactions = resent id now s.transactions });
    starts = λ id now s. k.rest s (record s { transactions = waits_begun id now s.transactions });
  };
  asks = λ id text purposes now s begun askable spelled. k.rest s (request_started id text purposes now s);
  unlists = λ which s. k.rest s (record s { listed = filter which s.listed });
  removes = λ which s spares. k.rest s (without_grants which s);
  removes_family = λ family s. k.rest s (without_grants (is_of family) s);
  takes_offer = λ id peer s. k.rest s (offer_taken id peer s);
  ages = λ grants s e. k.rest s (record s { grants = grants });
  permission = λ ip s phase room none. k.rest s (with_grant (Permission ip (Pending true)) s);
  channel = λ number peer s phase room none within. k.rest s (with_grant (Channel number peer (Pending true)) s);
  connect = λ peer s phase room none. k.rest s (with_grant (Connect peer) s);
  connection = λ id c origin s phase offer none waits. k.rest s (with_grant (Connection c) (offer_taken id c.peer s));
  reserves = λ number peer was until s there. k.rest s (with_grant (Channel number peer (Reserved until)) (without_grants (is_channel_of number) s));
}

pub all-phase-edits : (HasAccepted : Type 0) (R : State → State → Type 0) → KeepsAllPhaseEdits HasAccepted R → KeepsAccepted HasAccepted R
all-phase-edits HasAccepted R k = record {
  edits = phase-edits R k.edits;
  reshapes = λ grants s e. k.edits.rest s (record s { grants = grants });
  rebinds = λ number peer was progress s there. k.edits.rest s (with_grant (Channel number peer progress) (without_grants (is_channel_of number) s));
  holds = k.holds;
  counts = k.counts;
  resets = k.resets;
  empties = λ s. k.edits.rest s (without_grants (λ g. true) s);
  allocates = λ message lifetime now s e none.
      let t = record s { phase = phase_with (taken_addresses s.families (relayed_in message)) } in
      let more = map (new_allocation lifetime now) (taken_addresses s.families (relayed_in message)) in
      k.edits.trans s t _ (k.allocates (taken_addresses s.families (relayed_in message)) s e) (k.edits.rest t (record t { grants = s.grants ++ more }));
  permits = λ ip is_kept expiry s is. k.edits.rest s (with_grant (Permission ip (Active expiry)) (without_grants (is_permission_of ip) s));
  connects = λ id connection_id peer s t since stay granted listed.
      k.edits.trans s t _ since (k.edits.rest t (with_offer connection_id peer OwnConnect (without_grants (is_connect_to peer) t)));
  offers = λ id peer origin s room few. k.edits.rest s (with_offer id peer origin s);
}
