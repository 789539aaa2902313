-- Requests are sent to the server.
use Rattle.turn_client_laws.proofs.Common.{◌≡◌, ℕ, Bool, true, false, not, cond, eqb, List, [], ◌∷◌, ◌++◌, ◌⊎◌, inl, inr, refl, ap, ◌∙◌, SocketAddr}
use Rattle.turn_client_laws.proofs.Machine.{TransportType, first_sent, resent, sent_again, waiting_from, waits_begun, Transaction, Config, State, initial, Leaves, Call, Has, all-has, has-all, has-append, has-filter}
use Rattle.turn_client_laws.specs.LawsStates.{AsksServer, IsToServer}
use Rattle.turn_client_laws.proofs.GrantOriginLemmas.{has-mapped}
use Rattle.turn_client_laws.proofs.Edits.{KeepsAllEdits, KeepsEdits}
use Rattle.turn_client_laws.proofs.EditsOfCalls.{leaves-walk}

abbrev AllTo : SocketAddr → List Transaction → Type 0
AllTo server ts = (t : Transaction) → Has t ts → t.to ≡ server

to-append : (server : SocketAddr) (ts : List Transaction) (one : Transaction) → one.to ≡ server → AllTo server ts → AllTo server (ts ++ one ∷ [])
to-append server ts one new old t there = by (has-append t ts (one ∷ []) there)
  where
    by : Has t ts ⊎ Has t (one ∷ []) → t.to ≡ server
    by (inl here) = old t here
    by (inr (inl e)) = ap (λ (x : Transaction). x.to) e ∙ new
    by (inr (inr none)) = absurd none

to-resent : (server : SocketAddr) (id now : ℕ) (ts : List Transaction) → AllTo server ts → AllTo server (resent id now ts)
to-resent server id now ts old t there = of (has-mapped again t ts there)
  where
    again : Transaction → Transaction
    again x = cond (eqb x.id id) (sent_again now x) x

    same : (b : Bool) (x : Transaction) → (cond b (sent_again now x) x).to ≡ x.to
    same true x = refl
    same false x = refl

    of : (x : Transaction) × Has x ts × (t ≡ again x) → t.to ≡ server
    of (x, here, e) = ap (λ (y : Transaction). y.to) e ∙ (same (eqb x.id id) x ∙ old x here)

to-begun : (server : SocketAddr) (id now : ℕ) (ts : List Transaction) → AllTo server ts → AllTo server (waits_begun id now ts)
to-begun server id now ts old t there = of (has-mapped begun t ts there)
  where
    begun : Transaction → Transaction
    begun x = cond (eqb x.id id) (waiting_from now x) x

    same : (b : Bool) (x : Transaction) → (cond b (waiting_from now x) x).to ≡ x.to
    same true x = refl
    same false x = refl

    of : (x : Transaction) × Has x ts × (t ≡ begun x) → t.to ≡ server
    of (x, here, e) = ap (λ (y : Transaction). y.to) e ∙ (same (eqb x.id id) x ∙ old x here)

abbrev StayTo : State → State → Type 0
StayTo s t = AllTo s.remote s.transactions → AllTo t.remote t.transactions

StayTo-KeepsEdits : KeepsEdits StayTo
StayTo-KeepsEdits = record {
  rest = record {
    same = λ s h. h;
    trans = λ s t u first second h. second (first h);
    aside = λ s t h. h;
    queues = λ queue s begun h. h;
    dequeues = λ queue s fewer h. h;
    families = λ families s may h. h;
    sends = λ now s waits h. h;
    begins = λ now s new h. h;
    ends = λ s none h. h;
    finishes = λ id s h t there. h t (has-filter (λ (x : Transaction). not (eqb x.id id)) t s.transactions there).0;
    resends = λ id now s h. to-resent s.remote id now s.transactions h;
    starts = λ id now s h. to-begun s.remote id now s.transactions h;
  };
  asks = λ id text purposes now s begun askable spelled h. to-append s.remote s.transactions (first_sent id s.remote now text) refl h;
  unlists = λ which s h. h;
  removes = λ which s spares h. h;
  removes_family = λ family s h. h;
  takes_offer = λ id peer s h. h;
  ages = λ grants s e h. h;
  permission = λ ip s phase room none h. h;
  channel = λ number peer s phase room none within h. h;
  connect = λ peer s phase room none h. h;
  connection = λ id c origin s phase offer none waits h. h;
  reserves = λ number peer was until s there h. h;
}

StayTo-KeepsAllEdits : KeepsAllEdits StayTo
StayTo-KeepsAllEdits = record {
  edits = StayTo-KeepsEdits;
  reshapes = λ grants s e h. h;
  rebinds = λ number peer was progress s there h. h;
  holds = λ message d s e h. h;
  counts = λ s held few h. h;
  resets = λ accepted s h. h;
  empties = λ s h. h;
  allocates = λ message lifetime now s e none h. h;
  permits = λ ip is_kept expiry s is h. h;
  connects = λ id connection_id peer s t since stay granted listed. since;
  offers = λ id peer origin s room few h. h;
}

pub initial-AsksServer : (transport : TransportType) (local remote : SocketAddr) (config : Config) (seed : List ℕ) → AsksServer (initial transport local remote config seed)
initial-AsksServer transport local remote config seed = all-has (IsToServer (initial transport local remote config seed)) [] (λ t none. absurd none)

pub leaves-AsksServer : (call : Call) (s t : State) → Leaves call s t → AsksServer s → AsksServer t
leaves-AsksServer call s t leaves h =
    all-has (IsToServer t) t.transactions (leaves-walk StayTo StayTo-KeepsAllEdits (λ s streams h. h) call s t leaves (λ x there. has-all (IsToServer s) x s.transactions h there))
