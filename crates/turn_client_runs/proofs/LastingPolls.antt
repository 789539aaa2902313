-- What `poll` changes while no grant is lost.
use Rattle.turn_client_laws.proofs.Common.{◌≡◌, ℕ, Bool, true, false, ◌||◌, List, [], ◌∷◌, Option, None, refl, inl, inr, filter_map, option_map_or, SocketAddr}
use Rattle.turn_client_laws.proofs.Machine.{AddressFamily, timed_out_transaction, Source, Transaction, State, agent_of, Phase, Allocated, TurnEvent, Grant, Allocation, Permission, Channel, Relay}
use Rattle.turn_client_laws.proofs.Machine.{allocations, family_of, has_event, has_reply, answer_step, first_unreported, expired_at, next_offer, offer_step, poll_step, timed_out_step, timed_step}
use Rattle.turn_client_laws.proofs.Machine.{unreported_in, Has}
use Rattle.turn_client_laws.proofs.Laws.{answer-by}
use Rattle.turn_client_runs.specs.History.{History}
use Rattle.turn_client_runs.proofs.LastingLeft.{IsPlain}
use Rattle.turn_client_runs.proofs.LastingStands.{IsKept, Lag, kept-rest, stands-aside}

-- ---- no data connections

pub filter_map-none : {X Y : Type 0} (f : X → Option Y) (xs : List X) → ((x : X) → Has x xs → f x ≡ None) → filter_map f xs ≡ []
filter_map-none f [] none = refl
filter_map-none f (x ∷ xs) none = rw (none x (inl refl)) (filter_map-none f xs (λ y h. none y (inr h)))

abbrev pub ArePlain : State → Type 0
ArePlain s = (g : Grant) → Has g s.grants → IsPlain g

plain-unreported : (family : AddressFamily) (g : Grant) → IsPlain g → unreported_in family g ≡ None
plain-unreported family (Allocation a) h = refl
plain-unreported family (Permission ip progress) h = refl
plain-unreported family (Channel number peer progress) h = refl
plain-unreported family g (inl h) = absurd (let no : false ≡ true = h in cc)
plain-unreported family g (inr (inl h)) = absurd h
plain-unreported family g (inr (inr h)) = absurd h

no-offer : (s : State) → s.phase ≡ Allocated → ArePlain s → next_offer s ≡ None
no-offer s p all = rw (p, filter_map-none (λ (a : Relay). first_unreported (family_of a.relayed) s) (allocations s) (λ a h. none (family_of a.relayed))) refl
  where
    none : (family : AddressFamily) → first_unreported family s ≡ None
    none family = rw (filter_map-none (unreported_in family) s.grants (λ g h. plain-unreported family g (all g h))) refl

-- ---- poll

-- nothing changes, or what is over expires, and a connection to close is reported at most
pub polls : (P : State → Type 0) (now : ℕ) (s : State) → s.phase ≡ Allocated → ArePlain s → timed_out_transaction (agent_of s) now ≡ None → P s
    → ((closes : List SocketAddr) → P (record (expired_at None now s) { closes = closes })) → P (poll_step now s).1
polls P now s p all none same each = by (has_event s || has_reply s) refl
  where
    answers : P (answer_step None now (expired_at None now s)).1
    answers = answer-by P None now (expired_at None now s) each

    allocated : (ph : Phase) → ph ≡ Allocated → timed_step ph None now s ≡ answer_step None now (expired_at None now s)
    allocated ph e = rw e refl

    times_out : timed_out_step now s ≡ answer_step None now (expired_at None now s)
    times_out = rw (timed_out_step, none) (allocated s.phase p)

    waits : P (option_map_or (λ offer. offer_step offer s) (next_offer s) (timed_out_step now s)).1
    waits = rw (no-offer s p all, times_out) answers

    by : (b : Bool) → (has_event s || has_reply s) ≡ b → P (poll_step now s).1
    by true e = rw (poll_step, e) same
    by false e = rw (poll_step, e) waits

-- ---- what is reported does not count

pub kept-aside : (count slots extras : ℕ) (lag : Lag) (delay now : ℕ) (past : History) (transactions : List Transaction) (s : State) (ids : Source) (events : List TurnEvent) (closes : List SocketAddr)
    → IsKept count slots extras lag delay now past transactions s → IsKept count slots extras lag delay now past transactions (record s { ids = ids; events = events; closes = closes })
kept-aside count slots extras lag delay now past transactions s ids events closes k =
    kept-rest count slots extras lag delay now past transactions s k lag.since s.queue s.last_send s.transactions events ids closes (record {
      begins = k.begins;
      behind = k.behind;
      requests = k.requests;
      few = k.few;
      sent = k.sent;
      awaited = λ x h. h;
      stands = λ g there. stands-aside count slots extras lag delay now past transactions s.transactions s ids events closes g;
    })
