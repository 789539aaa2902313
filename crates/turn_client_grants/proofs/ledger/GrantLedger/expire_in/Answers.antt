use Rattle.std.proofs.Common.{◌∙◌, ap}
use Rattle.turn_client_api.specs.Grants.{is_connect, is_pending_permission}
use Rattle.turn_client_api.specs.Poll.{connections_unbound, failed_by_timeout, last_channel_expired, offers_timed_out, permissions_expired, refreshes_timed_out, set_free}
use Rattle.turn_client_grants.specs.GrantFilter.{holds, purposes_in}
use Rattle.turn_client_grants.proofs.SparedLemmas.{spares-connects, spares-expired_permissions, spares-offers, spares-pending_channels, spares-pending_permissions, spares-unbound}
use Rattle.turn_client_grants.proofs.ledger.GrantLedger.expire_in.Goals as goal

pub fail_front-requires : goal.fail_front-requires
fail_front-requires c = spares-pending_channels c.args.family c.args.purposes.now

pub fail_front-requires-2 : goal.fail_front-requires-2
fail_front-requires-2 c = spares-pending_permissions c.args.family c.args.purposes.now

pub fail_front-requires-3 : goal.fail_front-requires-3
fail_front-requires-3 c = spares-expired_permissions c.args.family c.args.now

pub fail_front-requires-4 : goal.fail_front-requires-4
fail_front-requires-4 c = spares-connects c.args.family c.args.purposes.now

pub unbind-requires : goal.unbind-requires
unbind-requires c = spares-unbound c.args.family c.args.now c.args.purposes.now

pub fail_front-requires-5 : goal.fail_front-requires-5
fail_front-requires-5 c = spares-offers c.args.family c.args.timed_out.now

pub returns-clause-state : goal.returns-clause-state
unfolding holds
returns-clause-state c = λ s.
    let family = c.args.family in
    let purposes = purposes_in c.args.purposes.now in
    let now = c.args.now in
    c.set_free.ensures.state s
    ∙ ap (λ t. set_free family now (refreshes_timed_out family purposes t)) (c.fail_front-5.ensures.state s
    ∙ ap (offers_timed_out family c.args.timed_out.now) (c.unbind.ensures.state s
    ∙ ap (connections_unbound family purposes now) (c.fail_front-4.ensures.state s
    ∙ ap (failed_by_timeout family purposes is_connect) (c.fail_front-3.ensures.state s
    ∙ ap (permissions_expired family now) (c.expire_channel.ensures.state s
    ∙ ap (last_channel_expired family now) (c.fail_front-2.ensures.state s
    ∙ ap (failed_by_timeout family purposes is_pending_permission) (c.fail_front.ensures.state s)))))))
