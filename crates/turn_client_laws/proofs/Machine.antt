-- The words of the machine, and the lemmas of the crates below: what proofs about it cite, passed on from one place.
pub use Rattle.turn_stun.specs.Attributes.{first_of, is_sha1, is_sha256, seen_of}
unfoldable pub use Rattle.turn_stun.specs.Attributes.{seen_after}
pub use Rattle.turn_stun.specs.Iterator.{attributes_left, placed}
pub use Rattle.turn_stun.specs.Message.{Attribute, HoldsValue, IsMessage, IsWithin, attribute_at, attribute_size, attributes_of, cookie_of, header_fault_of, id_of, is_stun_header, length_of}
pub use Rattle.turn_stun.specs.Message.{padded_len, type_of}
unfoldable pub use Rattle.turn_stun.specs.Message.{attributes_from, fault_of}
pub use Rattle.turn_stun.specs.Number.{u16_at}
pub use Rattle.turn_stun.specs.Writer.{AddsAttribute, IsWritten, header_of}
unfoldable pub use Rattle.turn_stun.specs.Writer.{with_attribute}
pub use Rattle.turn_stun.specs.declared.message.header.MessageClass.{MessageClass}
pub use Rattle.turn_stun.specs.declared.message.header.MessageClass.TheVariants.{Error, Indication, Request, Success}
pub use Rattle.turn_stun.specs.declared.transport.Transmit.{Transmit}
pub use Rattle.turn_stun.specs.declared.transport.TransportType.{TransportType}
pub use Rattle.turn_stun.specs.declared.transport.TransportType.TheVariants.{Tcp, Udp}
pub use Rattle.turn_stun.proofs.FaultLemmas.{IsMessage-no_fault, attributes_of-is, fault_of-none, guard_none, no_fault-IsFaultless}
pub use Rattle.turn_types.specs.Channel.{IsChannel, channel_data_at, channel_frame}
unfoldable pub use Rattle.turn_types.specs.Channel.{channel_fault_of}
pub use Rattle.turn_types.specs.Cuts.{Drained, behind, fed}
unfoldable pub use Rattle.turn_types.specs.Cuts.{drained_at_most}
pub use Rattle.turn_types.specs.Frames.{IsFrame, begins_message, begins_no_frame, frame_len, frame_size}
pub use Rattle.turn_types.specs.Send.{data_kind, peer_kind, send_indication}
pub use Rattle.turn_types.specs.declared.family.AddressFamily.{AddressFamily}
pub use Rattle.turn_types.specs.declared.family.AddressFamily.TheVariants.{IPV4, IPV6}
pub use Rattle.turn_types.proofs.FrameLemmas.{frame_len-IsWhole, size_in-IsPrefixCut}
pub use Rattle.turn_auth.specs.Challenge.{MayTake, challenge_of}
pub use Rattle.turn_auth.specs.LongTerm.{Challenge, ClientAuth, with_algorithm, with_challenge}
pub use Rattle.turn_auth.specs.Signature.{Addition, additions_for, is_unsigned, signed_by, with_additions, with_integrity}
pub use Rattle.turn_auth.specs.Validation.{IsValidated, held_key, judged, validation_of}
pub use Rattle.turn_auth.specs.declared.validation.Validation.{Validation}
pub use Rattle.turn_auth.specs.declared.validation.Validation.TheVariants.{Refused, ResendRequest, Validated}
pub use Rattle.turn_auth.proofs.ChallengeLemmas.{challenge_of-MayTake, challenge_of-sound}
pub use Rattle.turn_agent.specs.Agent.{due, first_sent, is_due, is_outstanding, is_response, is_timed_out, resent, same_address, sent_again, timed_out_transaction, transaction_timeout}
pub use Rattle.turn_agent.specs.Agent.{waiting_from, waits_begun, without_transaction}
pub use Rattle.turn_agent.specs.Schedule.{Timers, doubled_wait, resends_of, udp_resends, wait_at}
unfoldable pub use Rattle.turn_agent.specs.Schedule.{doubled_sum, schedule}
pub use Rattle.turn_agent.specs.TransactionIds.{Source, behind_id, next_id}
pub use Rattle.turn_agent.specs.declared.transaction.Transaction.{Transaction}
pub use Rattle.turn_agent.proofs.AgentLemmas.{find-passes, position-IsFirst, position-none}
pub use Rattle.turn_agent.proofs.TransactionLemmas.{is_outstanding-without, without-none}
pub use Rattle.turn_client_api.specs.Alarm.{AllHaveAllocation, FitsPhaseForPoll, HasAllocation, HasWorkNow, IsBeforeGrants, IsIdleUntil, IsTimely, Lasts}
pub use Rattle.turn_client_api.specs.Answers.{BindsChannel, Connects, CreatesPermission, Deletes, EndsAfterSteps, HandsBack, IsPartOf, IsSent, LeadsTo, RecvEnds, TakesSocket, before_others}
pub use Rattle.turn_client_api.specs.Answers.{event_step, is_data_indication, is_free_piece, outcome_of, takes_no_memory}
pub use Rattle.turn_client_api.specs.Calls.{active_channel, all_expired, allocated_tcp_socket_step, answered_with, as_indication, bind_channel, bind_channel_step, bound_by, bound_to, can_send_to}
pub use Rattle.turn_client_api.specs.Calls.{channel_kept_step, channel_step, channels_to, connect_step, create_permission_step, delete_step, delete_text, deleted, free_number, in_allocation}
pub use Rattle.turn_client_api.specs.Calls.{is_allocated, is_closed, is_control, is_granted_in, is_in_progress, is_local_taken, is_number_taken, is_offer_of, is_open_to, keep_step, marked, marked_if}
pub use Rattle.turn_client_api.specs.Calls.{missing_permission, offer_origin, offer_taken, on_channel, on_connection, permission_kept_step, permission_step, progress_to, protocol_error_step}
pub use Rattle.turn_client_api.specs.Calls.{reserved_from, send_over, send_to_step, socket_opened, socket_refused, socket_step, tcp_connect_step, with_marks, with_stream, without_first}
unfoldable pub use Rattle.turn_client_api.specs.Calls.{channel_numbers}
pub use Rattle.turn_client_api.specs.Config.{Config, is_family_list, same_family, timers_of}
pub use Rattle.turn_client_api.specs.Connections.{accepts_attempt, attempt_indicated, attempt_requested, bind_again, bind_answered, bind_step, bound, connection_at, deadline_set, is_connected}
pub use Rattle.turn_client_api.specs.Connections.{is_connecting, is_connection_to, is_indicated, max_indicated, not_bound, with_deadline, with_mode}
pub use Rattle.turn_client_api.specs.Due.{due_times, end_of, expiry_times, final_expiry, final_times, has_allocation_in_use, has_event, has_queued_request, has_reply, is_kept, is_new, is_paused, is_refreshable, keepalive_times}
pub use Rattle.turn_client_api.specs.Due.{latest_wakeup, least_due, max_wait, next_wakeup, pause_end, refresh_of, refresh_time_by_kind}
unfoldable pub use Rattle.turn_client_api.specs.Due.{refresh_time}
pub use Rattle.turn_client_api.specs.Effect.{active_channel_answered, active_permission_answered, all_gone, allocate_denied, allocate_granted, allocated, allocation_mismatch, challenges_reset}
pub use Rattle.turn_client_api.specs.Effect.{channel_answered, channel_lifetime, closed, connect_answered, delete_answered, effect, fail_all, family_not_supported, granted_until, has_code, in_phase}
pub use Rattle.turn_client_api.specs.Effect.{is_asked_permission, lasting, lasting_if, listed_permissions_answered, min_lifetime, missing_families, new_allocation, pending_channel_answered}
pub use Rattle.turn_client_api.specs.Effect.{pending_permission_answered, permission_answered, permission_answered_for, permission_lifetime, permission_refused_too, phase_with, prolonged, refreshed}
pub use Rattle.turn_client_api.specs.Effect.{relayed_among, relayed_in, renewed, reserved, reserved_time, taken_addresses, transaction_ended, with_offer, without_families}
pub use Rattle.turn_client_api.specs.Grants.{allocations, as_allocation, as_connection, as_offer, changed_allocation, channel_at, channel_peer, failure_of, failures_among, family_of, family_of_grant}
pub use Rattle.turn_client_api.specs.Grants.{family_of_ip, find_allocation, find_allocation_to, first_in, has_active_permission, has_request, is_active, is_channel_of, is_connect, is_connect_to}
pub use Rattle.turn_client_api.specs.Grants.{is_connection_from, is_for, is_for_allocation, is_for_any, is_listed, is_of, is_of_family, is_of_request, is_past, is_pending_channel}
pub use Rattle.turn_client_api.specs.Grants.{is_pending_permission, is_permission_of, jump, permission_progress, permission_state, purposes_of, same_ip, same_transport, unlisted, wait}
pub use Rattle.turn_client_api.specs.Grants.{with_allocations, with_expired, with_grant, with_more_grants, without_grants}
pub use Rattle.turn_client_api.specs.Judgement.{Challenged, ConnectionAttempt, DataIndication, Fatal, Judgement, LateResponse, SignedError, SignedRequest, SignedSuccess, Unrelated}
pub use Rattle.turn_client_api.specs.Judgement.{allocated_judgement, answers_allocate, answers_one, authenticating_judgement, bind_judgement, by_class, challenge_in, challenged_or, class_in}
pub use Rattle.turn_client_api.specs.Judgement.{connection_id_in, has_unknown, is_bind_of, is_unknown, judgement_of, last_icmp_in, last_in, last_peer_in, later_of, lifetime_in, method_in, peer_in}
pub use Rattle.turn_client_api.specs.Judgement.{requesting_judgement}
pub use Rattle.turn_client_api.specs.Memory.{bind_takes_memory, challenge_takes_memory, frame_takes_memory, is_free_frame, is_whole_frame, keeps_connection, message_takes_memory, packet_takes_memory}
pub use Rattle.turn_client_api.specs.Payloads.{Handled, Ignored, Outcome, Payload, PeerData, PeerIcmp, answered_purposes, challenge_step, channel_sent, data_indicated, data_of, datagram_step}
pub use Rattle.turn_client_api.specs.Payloads.{is_answered, is_channel_frame, is_message, message_step, outcome_for, response_step, signed_step, wrong_step}
pub use Rattle.turn_client_api.specs.Poll.{allocation_expires, answer_by, answer_step, as_reported, channel_expired, connections_unbound, expired_allocation, expired_at, expired_in, failed}
pub use Rattle.turn_client_api.specs.Poll.{failed_by_timeout, first_reported, first_unreported, is_expired_channel, is_expired_permission, is_listed_for_allocation, is_over, is_timed_out_offer}
pub use Rattle.turn_client_api.specs.Poll.{is_unbound, last_channel_expired, next_offer, offer_step, offers_timed_out, permissions_expired, poll_step, refreshes_timed_out, set_free, silent_step}
pub use Rattle.turn_client_api.specs.Poll.{timed_out_purposes, timed_out_step, timed_step, unbound, unreported_in}
pub use Rattle.turn_client_api.specs.Receive.{connection_gone, first_frame_step, is_from_server, piece_step, place_kept, recv_step, stream_step, tcp_closed_step, then_all}
pub use Rattle.turn_client_api.specs.Requests.{accepted_reply, allocate_method, asked_attributes, asked_lifetime, attribute, bad_request, binding_indication, binding_method, channel_bind_method}
pub use Rattle.turn_client_api.specs.Requests.{connect_method, connection_already_exists, connection_attempt_method, connection_bind_method, connection_timed_out, counted_up, create_permission_method}
pub use Rattle.turn_client_api.specs.Requests.{data_method, dont_fragment_kind, error_kind, family_attributes, first_allocate, fresh_id, icmp_kind, id_used, is_taken, lifetime_attribute, listings}
pub use Rattle.turn_client_api.specs.Requests.{max_ids_taken, message_of, method_for, queued, refresh_method, refused_reply, replied, request_for, request_started, requested, sent_from, signed}
pub use Rattle.turn_client_api.specs.Requests.{to_server, transport_attribute, waits_from}
pub use Rattle.turn_client_api.specs.Retry.{bind_time, first_or, is_allocate_or_connect, is_channel_bind, is_create_permission, is_refresh, phase_after, retried, state_after_retry, with_held}
pub use Rattle.turn_client_api.specs.State.{State, agent_of, auth_of, first_streams, initial, later_by, max_time, seconds}
pub use Rattle.turn_client_api.specs.Steps.{EndsWithoutMemory, Leaves, packet_step, state_after, state_after_all}
pub use Rattle.turn_client_api.specs.Streams.{HoldsLittle, broken_at, control_frame_step, detached_frame_step, first_ready_step, frame_step, framed_by, framed_stream_step, go_on, is_bound, is_ready}
pub use Rattle.turn_client_api.specs.Streams.{max_steps, next_frame_step, owned, payload_in, poll_recv_step, put_back, ready_len, sent_by, stream_at, stream_with_piece, waiting_frame_step, with_bytes}
pub use Rattle.turn_client_api.specs.Streams.{without_stream}
unfoldable pub use Rattle.turn_client_api.specs.Streams.{steps_until_payload}
pub use Rattle.turn_client_api.specs.Transmit.{idle_step, is_due_in, is_ranked, keepalive_step, next_refresh, next_transmit, queue_step, refresh_purpose, refresh_step, refreshes_in, refreshes_of_rank}
pub use Rattle.turn_client_api.specs.Queue.{ended_count, has_ended, has_request_to_send, is_needed, is_to_send, settled, without_request}
pub use Rattle.turn_client_api.specs.Transmit.{begun_by, front_sent, id_in_header, next_queued, refreshes_first}
pub use Rattle.turn_client_api.specs.Transmit.{reply_in, reply_step, sent, sent_at_once, transmit_step, without_first_reply}
unfoldable pub use Rattle.turn_client_api.specs.Transmit.{is_refresh_due}
pub use Rattle.turn_client_api.specs.declared.call.Call.{Call}
pub use Rattle.turn_client_api.specs.declared.call.Call.TheVariants.{AllocatedTcpSocket, BindChannel, CreatePermission, Delete, HavePermission, Permissions, Poll, PollEvent, PollRecv, PollTransmit}
pub use Rattle.turn_client_api.specs.declared.call.Call.TheVariants.{ProtocolError, Recv, RelayedAddresses, SendTo, SetChannelKept, SetPermissionKept, TcpClosed, TcpConnect}
pub use Rattle.turn_client_api.specs.declared.error.BindChannelError.{BindChannelError}
pub use Rattle.turn_client_api.specs.declared.error.CreatePermissionError.{CreatePermissionError}
pub use Rattle.turn_client_api.specs.declared.error.TcpAllocateError.{TcpAllocateError}
pub use Rattle.turn_client_api.specs.declared.error.TcpConnectError.{TcpConnectError}
pub use Rattle.turn_client_api.specs.declared.event.TurnEvent.{TurnEvent}
pub use Rattle.turn_client_api.specs.declared.event.TurnEvent.TheVariants.{AllocationCreateFailed, AllocationCreated, ChannelCreateFailed, ChannelCreated, PermissionCreateFailed, PermissionCreated}
pub use Rattle.turn_client_api.specs.declared.event.TurnEvent.TheVariants.{TcpConnectFailed, TcpConnected}
pub use Rattle.turn_client_api.specs.declared.grant.DataConnection.{DataConnection}
pub use Rattle.turn_client_api.specs.declared.grant.DataOffer.{DataOffer}
pub use Rattle.turn_client_api.specs.declared.grant.Grant.{Grant}
pub use Rattle.turn_client_api.specs.declared.grant.Grant.TheVariants.{Allocation, Channel, Connect, Connection, Offer, Permission}
pub use Rattle.turn_client_api.specs.declared.grant.Lease.{Lease}
pub use Rattle.turn_client_api.specs.declared.grant.Listing.{Listing}
pub use Rattle.turn_client_api.specs.declared.grant.Origin.{Origin}
pub use Rattle.turn_client_api.specs.declared.grant.Origin.TheVariants.{OwnConnect, ServerIndication, ServerRequest}
pub use Rattle.turn_client_api.specs.declared.grant.Progress.{Progress}
pub use Rattle.turn_client_api.specs.declared.grant.Progress.TheVariants.{Active, Pending, Reserved}
pub use Rattle.turn_client_api.specs.declared.grant.Purpose.{Purpose}
pub use Rattle.turn_client_api.specs.declared.grant.Purpose.TheVariants.{ForAllocation, ForBind, ForChannel, ForConnect, ForPermission, ForRefresh}
pub use Rattle.turn_client_api.specs.declared.grant.Relay.{Relay}
pub use Rattle.turn_client_api.specs.declared.poll.Socket5Tuple.{Socket5Tuple}
pub use Rattle.turn_client_api.specs.declared.poll.TurnPollRet.{TurnPollRet}
pub use Rattle.turn_client_api.specs.declared.state.Mode.{Mode}
pub use Rattle.turn_client_api.specs.declared.state.Mode.TheVariants.{Bound, Broken, Control, Waiting}
pub use Rattle.turn_client_api.specs.declared.state.Phase.{Phase}
pub use Rattle.turn_client_api.specs.declared.state.Phase.TheVariants.{Allocated, Authenticating, Closed, New, Requesting}
pub use Rattle.turn_client_api.specs.declared.state.Queued.{Queued}
pub use Rattle.turn_client_api.specs.declared.state.Stream.{Stream}
pub use Rattle.turn_client_api.proofs.AddressLemmas.{differ-sym, same_address-self, same_address-true, same_ip-true}
pub use Rattle.turn_client_api.proofs.AllocationLemmas.{allocation-there}
pub use Rattle.turn_client_api.proofs.ExpirySteps.{expired_in-does}
pub use Rattle.turn_client_api.proofs.HasLemmas.{Has, all-has, cases_Option, filter-has, filter-none, filter_map-has, find-none, first-has, flat_map-has, has-all, has-append, has-filter}
pub use Rattle.turn_client_api.proofs.HasLemmas.{has-filter_map, has-flat_map, has-found, has-left, has-reverse, has-right, has-unreversed, least-le, least-start, map-has}
pub use Rattle.turn_client_api.proofs.StreamEnds.{IsNoneOf, ends}
