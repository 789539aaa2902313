-- What a frame leaves of its own stream, and what of its payload counts.
use Rattle.turn_client_laws.proofs.Common.{◌≡◌, ℕ, Bool, true, false, not, cond, List, length, find, flat_map, Option, Some, None, refl, ap, sym, subst, ◌∙◌, inl, inr, cases_Bool, option_map}
use Rattle.turn_client_laws.proofs.Common.{SocketAddr}
use Rattle.turn_client_laws.proofs.Machine.{begins_message, begins_no_frame, frame_len, same_address, State, Mode, Control, Waiting, Bound, Broken, Stream, bind_step, Outcome, Handled, Ignored}
use Rattle.turn_client_laws.proofs.Machine.{PeerData, channel_sent, is_message, message_step, control_frame_step, frame_step, framed_stream_step, ready_len, stream_at, detached_frame_step}
use Rattle.turn_client_laws.proofs.Laws.{Rebound, Same, frame-rebound, message-same}
use Rattle.turn_types.specs.Streams as T
use Rattle.turn_client_laws.proofs.MoveLemmas.{by_test}
use Rattle.turn_client_runs.specs.Cut.{framed_step, outcome_payloads, meant, one_by_one, part_step}
use Rattle.turn_client_runs.proofs.StreamAtLemmas.{find-mapped}
use Rattle.turn_client_laws.proofs.FrameRestLemmas.{mode_by}

-- payloads of a stream in this mode count one by one, or byte by byte
abbrev pub SuitsMode : Bool → Mode → Type 0
SuitsMode true Control = Unit {0}
SuitsMode false Waiting = Unit {0}
SuitsMode false (Bound peer) = Unit {0}
SuitsMode c Broken = Unit {0}
SuitsMode c m = ⊥

abbrev pub Suits : Bool → Option Stream → Type 0
Suits c None = Unit {0}
Suits c (Some stream) = SuitsMode c stream.mode

-- The stream at this local address is not broken, and its payloads count so.
pub record IsThere (c : Bool) (a : SocketAddr) (s : State) : Type 0 where
  pub stream : Stream
  pub found : stream_at a s ≡ Some stream
  pub unbroken : stream.mode ≡ Broken → ⊥
  pub suits : SuitsMode c stream.mode

-- What streams in this mode have in common: their bytes are frames.
pub record IsFramed (c : Bool) (m : Mode) : Type 0 where
  pub unbroken : m ≡ Broken → ⊥
  pub suits : SuitsMode c m
  pub means : meant m ≡ T.Framed
  pub ready : (stream : Stream) (bytes : List ℕ) → ready_len (record stream { mode = m; bytes = bytes }) ≡ cond (begins_no_frame bytes) (Some (length bytes)) (frame_len bytes)
  pub steps : (stream : Stream) (now : ℕ) (t : State) → detached_frame_step (record stream { mode = m }) now t ≡ framed_stream_step (record stream { mode = m }) now t
  pub part : (stream : Stream) (part : List ℕ) (now : ℕ) (t : State) → part_step (record stream { mode = m }) part now t ≡ framed_step (record stream { mode = m }) part now t
  pub same : (stream : Stream) (bytes frame : List ℕ) (now : ℕ) (t : State) → frame_step (record stream { mode = m; bytes = bytes }) frame now t ≡ frame_step (record stream { mode = m }) frame now t
  pub counts : (stream : Stream) (frame : List ℕ) (now : ℕ) (t : State) → flat_map (one_by_one c) (outcome_payloads (frame_step (record stream { mode = m }) frame now t).0) ≡ outcome_payloads
      (frame_step (record stream { mode = m }) frame now t).0
  pub stays : (a : SocketAddr) (stream : Stream) (frame : List ℕ) (now : ℕ) (t : State) → stream_at a t ≡ Some (record stream { mode = m })
      → IsThere c a (frame_step (record stream { mode = m }) frame now t).1

-- ---- the control connection

control-same : (frame : List ℕ) (now : ℕ) (t : State) → Same t (control_frame_step frame now t).1
control-same frame now t =
    by_test (Same t) (not (begins_message frame)) (channel_sent t frame, t) _ refl
    (by_test (Same t) (is_message frame) (message_step frame now t) (Handled, t) (message-same frame now t) refl)

counted-whole : (o : Outcome) → flat_map (one_by_one true) (outcome_payloads o) ≡ outcome_payloads o
counted-whole (PeerData payload) = refl
counted-whole o = refl

pub control-framed : IsFramed true Control
control-framed = record {
  unbroken = λ e. cc;
  suits = tt;
  means = refl;
  ready = λ stream bytes. refl;
  steps = λ stream now t. refl;
  part = λ stream part now t. refl;
  same = λ stream bytes frame now t. refl;
  counts = λ stream frame now t. counted-whole (control_frame_step frame now t).0;
  stays = λ a stream frame now t e. record {
    stream = record stream { mode = Control };
    found = subst (λ (xs : List Stream). find (λ x. same_address x.local a) xs ≡ Some (record stream { mode = Control })) (sym (control-same frame now t)) e;
    unbroken = λ f. cc;
    suits = tt;
  };
}

-- ---- a connection that waits to be bound

waiting-counts : (stream : Stream) (frame : List ℕ) (now : ℕ) (t : State) → flat_map (one_by_one false)
    (outcome_payloads (frame_step (record stream { mode = Waiting }) frame now t).0) ≡ outcome_payloads (frame_step (record stream { mode = Waiting }) frame now t).0
waiting-counts stream frame now t = by (not (begins_message frame)) (is_message frame)
  where
    by : (b d : Bool) → flat_map (one_by_one false) (outcome_payloads (cond {A = Outcome × State} b (Ignored, t)
        (cond {A = Outcome × State} d (Handled, bind_step stream.local frame now t) (Handled, t))).0) ≡ outcome_payloads
        (cond {A = Outcome × State} b (Ignored, t) (cond {A = Outcome × State} d (Handled, bind_step stream.local frame now t) (Handled, t))).0
    by true d = refl
    by false true = refl
    by false false = refl

mode-local : (local : SocketAddr) (mode : Mode) (x : Stream) → (mode_by local mode x).local ≡ x.local
mode-local local mode x = elim (same_address x.local local) as (λ b. (cond b (record x { mode = mode }) x).local ≡ x.local) [
  | true ↦ refl
  | false ↦ refl
]

rebound-there : (a : SocketAddr) (stream : Stream) (s t : State) → Rebound s t → stream_at a s ≡ Some (record stream { mode = Waiting }) → IsThere false a t
rebound-there a stream s t (inl same) e = record {
  stream = record stream { mode = Waiting };
  found = subst (λ (xs : List Stream). find (λ x. same_address x.local a) xs ≡ Some (record stream { mode = Waiting })) (sym same) e;
  unbroken = λ f. cc;
  suits = tt;
}
rebound-there a stream s t (inr (local, peer, is)) e = elim (cases_Bool (same_address stream.local local)) [
  | inl f ↦ record { stream = record stream { mode = Bound peer }; found = mapped ∙ rw f refl; unbroken = λ g. cc; suits = tt }
  | inr f ↦ record { stream = record stream { mode = Waiting }; found = mapped ∙ rw f refl; unbroken = λ g. cc; suits = tt }
]
  where
    mapped : stream_at a t ≡ Some (mode_by local (Bound peer) (record stream { mode = Waiting }))
    mapped =
        ap (λ (xs : List Stream). find (λ x. same_address x.local a) xs) is
        ∙ (find-mapped a (mode_by local (Bound peer)) (mode-local local (Bound peer)) s.streams
        ∙ ap (option_map (mode_by local (Bound peer))) e)

pub waiting-framed : IsFramed false Waiting
waiting-framed = record {
  unbroken = λ e. cc;
  suits = tt;
  means = refl;
  ready = λ stream bytes. refl;
  steps = λ stream now t. refl;
  part = λ stream part now t. refl;
  same = λ stream bytes frame now t. refl;
  counts = waiting-counts;
  stays = λ a stream frame now t e. rebound-there a stream t (frame_step (record stream { mode = Waiting }) frame now t).1 (frame-rebound (record stream { mode = Waiting }) frame now t) e;
}
