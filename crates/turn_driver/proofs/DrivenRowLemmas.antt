-- A worked run of the loop.
use Rattle.turn_client_laws.proofs.Common.{◌≡◌, ◌∙◌, ℕ, List, [], ◌∷◌, Some, ap, refl, subst, sym, option_to_list, SocketAddr}
use Rattle.turn_client_laws.proofs.Machine.{Transmit, Config, refresh_time, State, seconds, packet_step, state_after, steps_until_payload, is_refresh_due, Recv}
use Rattle.turn_client_runs.specs.HandshakeRows.{allocation_packet}
use Rattle.turn_client_runs.specs.LastingRows.{refreshed_grants}
use Rattle.turn_client_runs.proofs.HandshakeRowLemmas as H
use Rattle.turn_client_runs.proofs.LastingRowLemmas as L
use Rattle.turn_driver.specs.DrivenRows.{Allocation, Challenge, IsDriven, Nothing, RelayIsDriven, Reply, Success, DriveCall, after_drive, after_bind, client_after_drives, reply_packet}
use Rattle.turn_driver.specs.DrivenRows.{drives_of_handshake, drives_until_700_s}
use Rattle.turn_driver.specs.Driver.{DriveState, begun, drive_steps, going}
use Rattle.turn_driver.specs.Given.{Given, given_at_once}
use Rattle.turn_driver.specs.declared.task.Rest.TheVariants.{Until}

-- ---- one iteration

-- from this client it returns `Until` this deadline, and leaves the other, whatever was returned before
record Sleeps (now deadline : ℕ) (s t : State) : Type 0 where
  rest : (given : List Given) → (drive_steps 8 now (going given s)).rest ≡ Until deadline
  client : (given : List Given) → (drive_steps 8 now (going given s)).client ≡ t

-- the packet that comes leaves this client
begins : (reply : Reply) (now : ℕ) (packet : Transmit (List ℕ)) (s t : State) → reply_packet reply s ≡ Some packet → state_after (Recv packet now) s ≡ t
    → begun (reply_packet reply s) now (going [] s) ≡ going (option_to_list (given_at_once packet (packet_step packet now s).0)) t
begins reply now packet s t comes after = rw comes (ap (going (option_to_list (given_at_once packet (packet_step packet now s).0))) after)

-- what is said of a client and the iterations that follow
abbrev Goes : (State → Type 0) → State → List DriveCall → Type 0
Goes P s drives = IsDriven s drives × P (client_after_drives s drives)

goes-quiet : (P : State → Type 0) {now deadline : ℕ} {s t : State} (later : List DriveCall) → Sleeps now deadline s t → Goes P t later
    → Goes P s (record { now = now; reply = Nothing; deadline = deadline } ∷ later)
goes-quiet P {now} {deadline} {s} {t} later sleeps goes =
    let rest = subst (λ (x : State). Goes P x later) (sym (sleeps.client [])) goes in
    ((sleeps.rest [], rest.0), rest.1)

goes-reported : (P : State → Type 0) (reply : Reply) {now deadline : ℕ} (packet : Transmit (List ℕ)) (s : State) {r t : State} (later : List DriveCall) → reply_packet reply s ≡ Some packet
    → state_after (Recv packet now) s ≡ r → Sleeps now deadline r t → Goes P t later → Goes P s (record { now = now; reply = reply; deadline = deadline } ∷ later)
goes-reported P reply {now} {deadline} packet s {r} {t} later comes after sleeps goes =
    let given = option_to_list (given_at_once packet (packet_step packet now s).0) in
    let one = begins reply now packet s r comes after in
    let reported : (after_drive (record { now = now; reply = reply; deadline = deadline }) s).rest ≡ Until deadline = ap (λ (d : DriveState). (drive_steps 8 now d).rest) one ∙ sleeps.rest given in
    let left : (after_drive (record { now = now; reply = reply; deadline = deadline }) s).client ≡ t = ap (λ (d : DriveState). (drive_steps 8 now d).client) one ∙ sleeps.client given in
    let rest = subst (λ (x : State). Goes P x later) (sym left) goes in
    ((reported, rest.0), rest.1)

-- a request that is sent, and its success
abbrev round : ℕ → ℕ → ℕ → ℕ → List DriveCall → List DriveCall
round asked timeout answered deadline later = record { now = asked; reply = Nothing; deadline = timeout } ∷ record { now = answered; reply = Success; deadline = deadline } ∷ later

goes-round : (P : State → Type 0) {asked timeout answered deadline : ℕ} (packet : Transmit (List ℕ)) {s : State} (u : State) {r t : State} (later : List DriveCall) → Sleeps asked timeout s u
    → reply_packet Success u ≡ Some packet → state_after (Recv packet answered) u ≡ r → Sleeps answered deadline r t → Goes P t later → Goes P s (round asked timeout answered deadline later)
goes-round P {asked} {timeout} {answered} {deadline} packet u later waits comes after sleeps goes =
    goes-quiet P (record { now = answered; reply = Success; deadline = deadline } ∷ later) waits (goes-reported P Success packet u later comes after sleeps goes)

-- ---- the iterations, from the last one

abbrev last : List DriveCall
last = record { now = seconds 700; reply = Nothing; deadline = 721_300_000_000 } ∷ []

abbrev rounds-5 : List DriveCall
rounds-5 = round 541_100_000_000 541_600_000_000 541_200_000_000 721_300_000_000 last

abbrev rounds-4 : List DriveCall
rounds-4 = round 540_200_000_000 540_700_000_000 540_300_000_000 541_100_000_000 rounds-5

abbrev rounds-3 : List DriveCall
rounds-3 = round 481_200_000_000 481_700_000_000 481_300_000_000 540_200_000_000 rounds-4

abbrev rounds-2 : List DriveCall
rounds-2 = round 241_100_000_000 241_600_000_000 241_200_000_000 481_200_000_000 rounds-3

abbrev rounds-1 : List DriveCall
rounds-1 = round 1_000_000_000 1_500_000_000 1_100_000_000 241_100_000_000 rounds-2

abbrev handshake-3 : List DriveCall
handshake-3 = record { now = 200_000_000; reply = Allocation; deadline = 540_200_000_000 } ∷ []

abbrev handshake-2 : List DriveCall
handshake-2 = record { now = 100_000_000; reply = Challenge; deadline = 600_000_000 } ∷ handshake-3

-- ---- the run

module _ (local remote : SocketAddr) (config : Config) (seed : List ℕ) where
  abbrev first : State
  first = H.h0 local remote config seed

  abbrev reported : State
  reported = record (H.done local remote config seed) { events = [] }

  -- in the handshake
  early :
      Sleeps 0 500_000_000 first (H.h1 local remote config seed)
      × Sleeps 100_000_000 600_000_000 (H.h2 local remote config seed) (H.h3 local remote config seed)
      × Sleeps 200_000_000 540_200_000_000 (H.done local remote config seed) reported
  unfolding drive_steps steps_until_payload refresh_time is_refresh_due
  early = (
    record { rest = λ given. refl; client = λ given. refl },
    record { rest = λ given. refl; client = λ given. refl },
    record { rest = λ given. refl; client = λ given. refl },
  )

  -- while the channel is bound, and grants are refreshed
  sleeps :
      Sleeps 1_000_000_000 1_500_000_000 (L.queued_bind reported refl) (L.sent_bind reported refl)
      × Sleeps 1_100_000_000 241_100_000_000 (L.granted_bind reported refl) (L.s1 reported refl)
      × Sleeps 241_100_000_000 241_600_000_000 (L.s1 reported refl) (L.asked-2 reported refl)
      × Sleeps 241_200_000_000 481_200_000_000 (L.s2 reported refl) (L.s2 reported refl)
      × Sleeps 481_200_000_000 481_700_000_000 (L.s2 reported refl) (L.asked-3 reported refl)
      × Sleeps 481_300_000_000 540_200_000_000 (L.s3 reported refl) (L.s3 reported refl)
      × Sleeps 540_200_000_000 540_700_000_000 (L.s3 reported refl) (L.asked-4 reported refl)
      × Sleeps 540_300_000_000 541_100_000_000 (L.s4 reported refl) (L.s4 reported refl)
      × Sleeps 541_100_000_000 541_600_000_000 (L.s4 reported refl) (L.asked-5 reported refl)
      × Sleeps 541_200_000_000 721_300_000_000 (L.s5 reported refl) (L.s5 reported refl)
      × Sleeps (seconds 700) 721_300_000_000 (L.s5 reported refl) (L.s5 reported refl)
  unfolding drive_steps steps_until_payload refresh_time is_refresh_due
  sleeps = (
    record { rest = λ given. refl; client = λ given. refl },
    record { rest = λ given. refl; client = λ given. refl },
    record { rest = λ given. refl; client = λ given. refl },
    record { rest = λ given. refl; client = λ given. refl },
    record { rest = λ given. refl; client = λ given. refl },
    record { rest = λ given. refl; client = λ given. refl },
    record { rest = λ given. refl; client = λ given. refl },
    record { rest = λ given. refl; client = λ given. refl },
    record { rest = λ given. refl; client = λ given. refl },
    record { rest = λ given. refl; client = λ given. refl },
    record { rest = λ given. refl; client = λ given. refl },
  )

  -- ---- joined

  abbrev IsRefreshed : State → Type 0
  IsRefreshed s = s.grants ≡ refreshed_grants

  from-last : Goes IsRefreshed (L.s5 reported refl) last
  from-last = goes-quiet IsRefreshed [] sleeps.10 (tt, refl)

  from-5 : Goes IsRefreshed (L.s4 reported refl) rounds-5
  from-5 = goes-round IsRefreshed _ (L.asked-5 reported refl) last sleeps.8 refl (L.after-reply _ _ _ 0 [] _ _ _ _ _ _ _ (L.round-5 reported refl)) sleeps.9 from-last

  from-4 : Goes IsRefreshed (L.s3 reported refl) rounds-4
  from-4 = goes-round IsRefreshed _ (L.asked-4 reported refl) rounds-5 sleeps.6 refl (L.after-reply _ _ _ 0 [] _ _ _ _ _ _ _ (L.round-4 reported refl)) sleeps.7 from-5

  from-3 : Goes IsRefreshed (L.s2 reported refl) rounds-3
  from-3 = goes-round IsRefreshed _ (L.asked-3 reported refl) rounds-4 sleeps.4 refl (L.after-reply _ _ _ 0 [] _ _ _ _ _ _ _ (L.round-3 reported refl)) sleeps.5 from-4

  from-2 : Goes IsRefreshed (L.s1 reported refl) rounds-2
  from-2 = goes-round IsRefreshed _ (L.asked-2 reported refl) rounds-3 sleeps.2 refl (L.after-reply _ _ _ 0 [] _ _ _ _ _ _ _ (L.round-2 reported refl)) sleeps.3 from-3

  from-1 : Goes IsRefreshed (L.queued_bind reported refl) rounds-1
  from-1 = goes-round IsRefreshed _ (L.sent_bind reported refl) rounds-2 sleeps.0 refl (L.after-reply _ _ _ 0 [] _ _ _ _ _ _ _ (L.round-1 reported refl)) sleeps.1 from-2

  allocated-after : state_after (Recv (allocation_packet (H.h3 local remote config seed)) 200_000_000) (H.h3 local remote config seed) ≡ H.done local remote config seed
  allocated-after =
      ap (λ (packet : Transmit (List ℕ)). state_after (Recv packet 200_000_000) (H.h3 local remote config seed)) (H.packet-is local remote config seed)
      ∙ H.done-after local remote config seed

  handshake : Goes (λ t. t ≡ reported) first drives_of_handshake
  handshake =
      goes-quiet (λ t. t ≡ reported) handshake-2 early.0
      (goes-reported (λ t. t ≡ reported) Challenge (H.challenge local remote config seed) (H.h1 local remote config seed) handshake-3 refl (H.reached local remote config seed) early.1
      (goes-reported (λ t. t ≡ reported) Allocation (allocation_packet (H.h3 local remote config seed)) (H.h3 local remote config seed) [] refl allocated-after early.2 (tt, refl)))

  pub after-handshake : Goes IsRefreshed (after_bind (client_after_drives first drives_of_handshake)) drives_until_700_s
  after-handshake =
      let same : after_bind (client_after_drives first drives_of_handshake) ≡ L.queued_bind reported refl = ap after_bind handshake.1 ∙ L.binds reported refl in
      subst (λ (x : State). Goes IsRefreshed x drives_until_700_s) (sym same) from-1

  pub handshake-driven : IsDriven first drives_of_handshake
  handshake-driven = handshake.0

pub relay-is-driven : RelayIsDriven
relay-is-driven local remote config seed =
    let goes = after-handshake local remote config seed in record { handshake = handshake-driven local remote config seed; later = goes.0; refreshes = goes.1 }
