-- Each promise, of any run of a new client.
use Rattle.turn_client_laws.proofs.Common.{◌++◌, ◌≡◌, ℕ, List, None, Option, ap, subst, SocketAddr}
use Rattle.turn_client_laws.proofs.Machine.{TransportType, Config, State, initial, Call, poll_recv_step, Payload, Tcp, state_after_all}
use Rattle.turn_client_laws.proofs.Laws.{HasDistinctNumbers, initial-numbers, leaves-apart, AreApart, call-apart, initial-apart, contains-has, handled}
use Rattle.turn_client_runs.specs.Challenges.{IsWithinChallengeLimit}
use Rattle.turn_client_runs.specs.Promises.{AfterEach, BoundHaveSuccess, CutsAgree, FewAreAnswered, GrantsHaveReplies, DeliversOnlyPermitted, NumbersAreDistinct, RealmIsAnswered, RealmStays}
use Rattle.turn_client_runs.specs.Promises.{InEachPart, RepliesCountOnce}
use Rattle.turn_client_runs.specs.Events.{EventsHaveCauses}
use Rattle.turn_client_runs.specs.Offers.{BoundAreOffered}
use Rattle.turn_client_runs.specs.InOrder.{InputsFollow}
use Rattle.turn_client_runs.specs.Processed.{CallsProcessInputs}
use Rattle.turn_client_runs.specs.Replies.{CountsOnce}
use Rattle.turn_client_runs.specs.Cut.{AwaitsBytes}
use Rattle.turn_client_runs.proofs.QuietLemmas.{calls-keep, poll-quiet}
use Rattle.turn_client_runs.proofs.BoundLemmas.{connections-have-success, streams-are-bound-before, streams-have-success}
use Rattle.turn_client_runs.proofs.ChallengeLemmas.{challenge-counts, falls-by-replies, few-answered, initial-patient, leaves-patient, realm-stays, run-configured}
use Rattle.turn_client_runs.proofs.HeldLemmas.{held-from}
use Rattle.turn_client_runs.proofs.ShortLemmas.{streams-short}
use Rattle.turn_client_runs.specs.Sent.{PacketsGoOut}
use Rattle.turn_client_runs.specs.Short.{StreamsAreShort}
use Rattle.turn_client_runs.proofs.HoldLemmas.{holds-found, reaches-behind}
use Rattle.turn_client_runs.proofs.LastingRuns.{datagram-message, success-ended}
use Rattle.turn_client_runs.proofs.LastingSeen.{grants-last-behind}
use Rattle.turn_client_runs.specs.InPieces.{RunsAnswered}
use Rattle.turn_client_runs.specs.Late.{IsSteadyBehind}
use Rattle.turn_client_runs.specs.LastingRuns.{GrantsLastInRuns, Lasts}
use Rattle.turn_client_runs.proofs.OfferRuns.{bound-are-offered}
use Rattle.turn_client_runs.proofs.InOrderRuns.{inputs-follow}
use Rattle.turn_client_runs.proofs.PeerLemmas.{received, reports-permitted}
use Rattle.turn_client_runs.proofs.ProcessedLemmas.{calls-process}
use Rattle.turn_client_runs.proofs.RealmLemmas.{inputs-realm}
use Rattle.turn_client_runs.proofs.ReplyLemmas.{made-between, made-in, made-until, reply-again, reply-ends}
use Rattle.turn_client_runs.proofs.RunCutLemmas.{run-cut}
use Rattle.turn_client_runs.proofs.RunEvents.{events-have-causes}
use Rattle.turn_client_runs.proofs.RunGrants.{first-hold, grants-have-replies}
use Rattle.turn_client_runs.proofs.SentRuns.{run-goes_out}
use Rattle.turn_client_runs.proofs.ComingLemmas.{inputs-come}
use Rattle.turn_client_runs.proofs.ReceivedRuns.{inputs-received}

once : (s : State) (calls : List Call) → CountsOnce s calls
once s calls = (
  λ call later one e is. reply-again s call later one is,
  λ call e. made-between s call,
  λ call between last e. made-until s call between last,
  λ id. made-in id s calls,
)

module _ (transport : TransportType) (local remote : SocketAddr) (config : Config) (seed : List ℕ) (calls : List Call) where
  abbrev first : State
  first = initial transport local remote config seed

  pub run-granted : AfterEach GrantsHaveReplies first calls
  run-granted earlier later e = grants-have-replies transport local remote config seed earlier

  pub run-numbers : AfterEach NumbersAreDistinct first calls
  run-numbers earlier later e = holds-found HasDistinctNumbers leaves-apart initial-numbers transport local remote config seed earlier

  pub run-bound : AfterEach BoundHaveSuccess first calls
  run-bound earlier later e = (
    streams-have-success transport local remote config seed earlier,
    connections-have-success transport local remote config seed earlier,
    streams-are-bound-before transport local remote config seed earlier,
  )

  pub run-offers : AfterEach BoundAreOffered first calls
  run-offers earlier later e = bound-are-offered transport local remote config seed earlier

  pub run-hears : DeliversOnlyPermitted first calls
  run-hears = (
    λ earlier middle later e. (λ payload. received payload (state_after_all first earlier) middle, λ one there. reports-permitted one),
    λ earlier call later one e there.
        let has = contains-has one (handled call (state_after_all first earlier)) there in
        (inputs-come call (state_after_all first earlier) one has, inputs-received earlier call first (first-hold transport local remote config seed) one has),
  )

  pub run-replies : RepliesCountOnce first calls
  run-replies = (λ one there is. reply-ends one is, λ earlier middle later e. once (state_after_all first earlier) middle)

  pub run-few : FewAreAnswered first calls
  run-few earlier middle later e =
      let patient = holds-found IsWithinChallengeLimit leaves-patient initial-patient transport local remote config seed earlier in
      (run-configured first earlier, patient, few-answered (state_after_all first earlier) middle patient, λ one there. challenge-counts one, falls-by-replies (state_after_all first earlier) middle)

  pub run-realm : RealmStays first calls
  run-realm earlier middle later e = (
    realm-stays (state_after_all first earlier) middle (state_after_all (state_after_all first earlier) middle) (reaches-behind (state_after_all first earlier) middle),
    inputs-realm (state_after_all first earlier) middle,
  )

  pub run-held : RealmIsAnswered first calls
  run-held earlier later e = held-from transport local remote config seed earlier

  pub run-processed : CallsProcessInputs first calls
  run-processed = calls-process transport local remote config seed calls

  pub run-order : InputsFollow first calls
  run-order = inputs-follow transport local remote config seed calls

  pub run-sent : PacketsGoOut first calls
  run-sent = run-goes_out transport local remote config seed calls

  pub run-events : EventsHaveCauses first calls
  run-events = events-have-causes transport local remote config seed calls

  pub run-short : StreamsAreShort first calls
  run-short = streams-short transport local remote config seed calls

  pub run-lasts : GrantsLastInRuns first calls
  run-lasts = (lasts, λ earlier later packet now e. (success-ended packet now (state_after_all first earlier), datagram-message packet now (state_after_all first earlier)))
    where
      lasts : InEachPart (λ s middle.
          (count slots extras late delay now : ℕ) (before after : List Call) → middle ≡ before ++ after
          → IsSteadyBehind count slots extras late delay now s → RunsAnswered count slots extras late delay now s middle
          → Lasts delay now s before after) first calls
      lasts earlier middle later e = λ count slots extras late delay now before after cut steady run.
          let s = state_after_all first earlier in
          grants-last-behind count slots extras late delay now s before after steady (subst (RunsAnswered count slots extras late delay now s) cut run)

  pub run-cuts : CutsAgree first calls
  run-cuts earlier middle later e = λ at pieces now tcp drained are. run-cut at pieces now (state_after_all first earlier) (quiet now tcp drained) middle are
    where
      apart : AreApart (state_after_all first earlier)
      apart = calls-keep AreApart call-apart earlier first (initial-apart transport local remote config seed)

      quiet : (now : ℕ) → (state_after_all first earlier).transport ≡ Tcp → poll_recv_step now (state_after_all first earlier) ≡ (None, state_after_all first earlier)
          → AwaitsBytes (state_after_all first earlier)
      quiet now tcp drained =
          subst (λ (p : Option Payload × State). AwaitsBytes p.1) drained (poll-quiet (state_after_all first earlier) tcp apart now (ap (λ (p : Option Payload × State). p.0) drained))
