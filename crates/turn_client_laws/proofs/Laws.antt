-- The words of the laws and what proves them, for the crates above.
pub use Rattle.turn_client_laws.specs.Handled.{Input, datagram_input, fed_taken, frame_taken, handled, input_payload, is_front, payloads_by, piece_inputs, poll_recv_inputs, processed, recv_inputs}
pub use Rattle.turn_client_laws.specs.Handled.{stream_input, stream_inputs, stream_inputs_taken, taken_first, taken_in, taken_of_len, then_taken, unless_given}
unfoldable pub use Rattle.turn_client_laws.specs.Handled.{inputs_taken}
pub use Rattle.turn_client_laws.specs.LawsAllocates.{AllocatesInOrder, IsAllocate}
pub use Rattle.turn_client_laws.specs.LawsBodies.{IsAsideFrom}
pub use Rattle.turn_client_laws.specs.LawsBound.{IsBindInput, IsBoundConnection, IsConnectedBy, IsConnecting}
pub use Rattle.turn_client_laws.specs.LawsDoubles.{HasNoDoubles, is_double}
pub use Rattle.turn_client_laws.specs.LawsGone.{GivesBack}
pub use Rattle.turn_client_laws.specs.LawsGrantAllocations.{GrantsHaveAllocations}
pub use Rattle.turn_client_laws.specs.LawsGranted.{HasChannelTo, IsActiveGrant, IsEndedNow, IsGivenFor, IsGrant, IsGrantedBy, IsGrantedIn, IsSameGrant, WasActive}
pub use Rattle.turn_client_laws.specs.LawsHandled.{DiffersInStreams, InputsLead, IsBoundAt, IsDoneBy, IsOverControl, IsOverWaiting, ProcessesInputs, TakesInput}
pub use Rattle.turn_client_laws.specs.LawsNumbers.{HasDistinctNumbers}
pub use Rattle.turn_client_laws.specs.LawsOrder.{FitsPhase, IsUngranted}
pub use Rattle.turn_client_laws.specs.LawsPeers.{HasNoPeer, HasPermission, IsMessageFromPermitted, IsPermittedInput, IsReportedBy}
pub use Rattle.turn_client_laws.specs.LawsReplies.{IsAccepted, IsAwaited, IsDrawn, IsNotAwaited, IsReplyAccepted}
pub use Rattle.turn_client_laws.specs.LawsRequests.{AsksFor, IsAnswer, IsListedAgain, IsListedAs, IsListedFor, IsListingOf, IsMade, IsMadeAs, IsRequestOf, IsSentAgain}
pub use Rattle.turn_client_laws.specs.LawsRows.{granted_at, ip_of_peer, peer, relayed_v4}
pub use Rattle.turn_client_laws.specs.LawsStates.{AsksServer, HasGrantsAsked, HasItsGrant, HoldsAtFirst, IsHeldIn, IsToServer, StaysInCalls, is_asked_by}
pub use Rattle.turn_client_laws.specs.LawsSteps.{GoesOn, IsChallengeCounted, KeepsRealm, rank}
pub use Rattle.turn_client_laws.specs.LawsStreams.{AreApart, IsEmptyIfBroken, NeedsMoreBytes}
pub use Rattle.turn_client_laws.specs.StreamEffects.{binds_if, opens_at, opens_for, with_stream_at, with_stream_bound}
pub use Rattle.turn_client_laws.proofs.AcceptedReplyLemmas.{accepted-gone, accepted-outstanding, bind-ended, bind-outstanding}
pub use Rattle.turn_client_laws.proofs.AfterExpiryLemmas.{IsReserved, expired_at-shrinks}
pub use Rattle.turn_client_laws.proofs.AllocateFamilies.{StayInOrder, StayInOrder-KeepsAllEdits, in_order-stated, initial-AllocatesInOrder, leaves-AllocatesInOrder, stated-in_order}
pub use Rattle.turn_client_laws.proofs.AnyStreamsCalls.{bind_channel-alike, channel_kept-alike, create_permission-alike, delete-alike, gone-alike, permission_kept-alike, protocol_error-alike}
pub use Rattle.turn_client_laws.proofs.AnyStreamsCalls.{send_to-alike, tcp_closed-alike, tcp_connect-alike}
pub use Rattle.turn_client_laws.proofs.AnyStreamsEffects.{bind-alike, opened_in, socket-alike}
pub use Rattle.turn_client_laws.proofs.AnyStreamsLemmas.{both_with, message-alike, with_streams}
pub use Rattle.turn_client_laws.proofs.AnyStreamsTime.{poll-alike, transmit-alike}
pub use Rattle.turn_client_laws.proofs.BoundLemmas.{binds-input}
pub use Rattle.turn_client_laws.proofs.QueuedLemmas.{first_left, left-none, left-unreplied, none-left, none-queued, none-to_send, queued-left, queued-there, settled-first, settled-has, settled-queued, settled-stays, settled-untimed}
pub use Rattle.turn_client_laws.proofs.CaseLemmas.{all-expire, answer-by, bind-by, by_accepted, by_found, by_test, found-local, indicated-by, requested-by, send_to-by}
pub use Rattle.turn_client_laws.proofs.ChallengeJudgement.{AnswersAllocate, Challenged-is, IsSignedReply, Says, bind-is, judgement-says}
pub use Rattle.turn_client_laws.proofs.ConfiguredLemmas.{call-configured, leaves-configured, message-configured}
pub use Rattle.turn_client_laws.proofs.DistinctGrants.{before-single, initial-single, leaves-single, ungranted-after}
pub use Rattle.turn_client_laws.proofs.DistinctNumbers.{AreApart-KeepsGrants, initial-numbers, leaves-apart}
pub use Rattle.turn_client_laws.proofs.DoubleLemmas.{no-connection, no-permission}
pub use Rattle.turn_client_laws.proofs.Edits.{IgnoresAll, KeepsAllEdits, KeepsEdits, aged, aged-outlines, listing, outline, rest-ignored}
pub use Rattle.turn_client_laws.proofs.EditsOfCalls.{IsQuiet, calls-walk, delete-walk, leaves-walk, quiet-walk, tcp_socket-walk}
pub use Rattle.turn_client_laws.proofs.EditsOfMessages.{bind-walk, connection-there, edits-IsKept, fresh-other, granted-with, message-walk, purposes-listed, retried-has}
pub use Rattle.turn_client_laws.proofs.EditsOfReplies.{and-false, channel-there}
pub use Rattle.turn_client_laws.proofs.FixedFields.{Fixed, SameIn, fixed-all-edits}
pub use Rattle.turn_client_laws.proofs.FrameRestLemmas.{frame-bytes}
pub use Rattle.turn_client_laws.proofs.GrantOriginCallLemmas.{Binds, BindsOrLeaves, bind-leaves, gone-leaves}
pub use Rattle.turn_client_laws.proofs.GrantOriginEffectLemmas.{effect-takes, same_ip-same}
pub use Rattle.turn_client_laws.proofs.GrantOriginLemmas.{IsWithin, has-mapped, purposes-within}
pub use Rattle.turn_client_laws.proofs.GrantOriginMessageLemmas.{SignedSuccess-is, asked_for, challenge-grants, for-allocation, message-grants, taken-family, taken-relayed, wrong-grants}
pub use Rattle.turn_client_laws.proofs.GrantedLemmas.{bringing, deadline-has, leaves-grants}
pub use Rattle.turn_client_laws.proofs.HandledLemmas.{input-IsFromPermitted, poll_recv-Gives, recv-AreOf, recv-IsReportedBy}
pub use Rattle.turn_client_laws.proofs.InAllocation.{GrantsHaveAllocations-AllHaveAllocation, initial-GrantsHaveAllocations, leaves-GrantsHaveAllocations}
pub use Rattle.turn_client_laws.proofs.InAllocationLemmas.{Room, allocation-room, any-has, has-any, not-both, of-room, room-more, room-of, same_family-self, same_family-true}
pub use Rattle.turn_client_laws.proofs.InputBringLemmas.{IsBrought, lead-brings, leaves-bring, processed-brings}
pub use Rattle.turn_client_laws.proofs.InputChainLemmas.{calls-do}
pub use Rattle.turn_client_laws.proofs.InputKeepLemmas.{before-kept}
pub use Rattle.turn_client_laws.proofs.InputLemmas.{brought}
pub use Rattle.turn_client_laws.proofs.ListedGrants.{AllHaveGrant, HasGrant, StayFounded, StayFounded-KeepsAllEdits, initial-HasGrantsAsked, leaves-HasGrantsAsked}
pub use Rattle.turn_client_laws.proofs.MoveInputLemmas.{listings-made, requests-made}
pub use Rattle.turn_client_laws.proofs.MoveLemmas.{Adds, Never, adds-filter, adds-more, adds-one, adds-same, adds-wider, on_choice, on_test}
pub use Rattle.turn_client_laws.proofs.MoveMessageLemmas.{bind-moves, input-moves, message-moves, requested-made}
pub use Rattle.turn_client_laws.proofs.MoveSocketLemmas.{gone-settles}
pub use Rattle.turn_client_laws.proofs.NewIdLemmas.{counted-small, fresh-free}
pub use Rattle.turn_client_laws.proofs.NumberLemmas.{all-of, none-filter}
pub use Rattle.turn_client_laws.proofs.OneInputLemmas.{input-by}
pub use Rattle.turn_client_laws.proofs.OtherStreamLemmas.{broken-aside, bytes-aside, frame-aside, step-aside}
pub use Rattle.turn_client_laws.proofs.PacketLemmas.{packet-by}
pub use Rattle.turn_client_laws.proofs.PhaseEdits.{all-phase-edits, phase-edits}
pub use Rattle.turn_client_laws.proofs.PhasesGoOn.{Keeps, Keeps-KeepsAllEdits, Keeps-KeepsEdits, bind-keeps, call-keeps, challenge-IsCounted, keeps-same, keeps-trans, leaves-keeps, message-keeps}
pub use Rattle.turn_client_laws.proofs.ReadyLemmas.{front-sends, next-sends, no_reply-kept, no_reply-left, not_due-transmit, refreshed-once}
pub use Rattle.turn_client_laws.proofs.RunKeepLemmas.{IsKept, frame-kept, poll_recv-kept, recv-kept, steps-kept}
pub use Rattle.turn_client_laws.proofs.SendOrderLemmas.{initial-steady, leaves-steadies, steady-FitsPhaseForPoll}
pub use Rattle.turn_client_laws.proofs.StandLemmas.{Covers, Leaves, contains-has, covers-has, covers-left, covers-stood, has-contains, kept-stood, kept-trans}
pub use Rattle.turn_client_laws.proofs.StepFrameLemmas.{bytes-twice}
pub use Rattle.turn_client_laws.proofs.StreamCallLemmas.{call-apart, initial-apart, others-opened}
pub use Rattle.turn_client_laws.proofs.StreamDrainLemmas.{IsDone, none-ready, poll_recv-drained, ready-waits, step-lighter, steps-done, steps-enough, walk-enough}
unfoldable pub use Rattle.turn_client_laws.proofs.StreamDrainLemmas.{broken_by, bytes_by, mode_by}
pub use Rattle.turn_client_laws.proofs.StreamFewerLemmas.{IsLessThan, steps-less}
pub use Rattle.turn_client_laws.proofs.StreamMessageLemmas.{Rebound, Same, Same-KeepsEdits, frame-rebound, message-same}
pub use Rattle.turn_client_laws.proofs.StreamWeightLemmas.{weight-le}
unfoldable pub use Rattle.turn_client_laws.proofs.StreamWeightLemmas.{weight}
pub use Rattle.turn_client_laws.proofs.TakenOfferLemmas.{was-first}
pub use Rattle.turn_client_laws.proofs.TimelyLemmas.{poll-timely}
pub use Rattle.turn_client_laws.proofs.TwoPurposes.{IsListingHere, purpose-with}
