use Rattle.std.proofs.Common.{◌≡◌, ◌∙◌, ◌&&◌, Some, ap, find, reverse, sym, true}
use Rattle.std.specs.List.{list_all}
use Rattle.turn_client_api.specs.Grants.{is_of}
use Rattle.turn_client_api.specs.Poll.{is_expired_channel}
use Rattle.turn_client_api.specs.declared.grant.Grant.TheVariants.{Channel}
use Rattle.turn_client_api.specs.declared.grant.Progress.TheVariants.{Active}
use Rattle.turn_client_api.proofs.HasLemmas.{Has, has-found, has-unreversed}
use Rattle.turn_client_grants.specs.Ledger.{with_ledger}
use Rattle.turn_client_grants.specs.Table.{is_numbered}
use Rattle.turn_client_grants.proofs.ExpiryRoomLemmas.{ended-aside, ended-fewer, ended-is, ended-numbered, ended-there}
use Rattle.turn_client_grants.proofs.ledger.GrantLedger.expire_channel.Goals as goal

pub end_channel-requires : goal.end_channel-requires
end_channel-requires c =
    let grants = c.args.self.now.grants in
    let g = Channel c.in-Channel.number c.in-Channel.peer (Active c.in-Active.lease) in
    let e : find (λ h. is_of c.args.family h && is_expired_channel c.args.now h) (reverse grants) ≡ Some g =
    rw (← c.self.view_is) (sym c.last_expired_channel.ensures.found ∙ (c.in-Some.is ∙ ap Some (c.in-Channel.is ∙ ap (λ p. Channel c.in-Channel.number c.in-Channel.peer p) c.in-Active.is))) in
    let numbers : list_all is_numbered grants ≡ true = rw (← c.self.view_is) c.last_expired_channel.ensures.numbers in
    let has : Has g grants = has-unreversed g grants (has-found (λ h. is_of c.args.family h && is_expired_channel c.args.now h) g (reverse grants) e).0 in
    record {
      numbered = ended-numbered g grants has numbers;
      there = ended-there c.in-Channel.number c.in-Channel.peer c.in-Active.lease grants has;
      fewer = ended-fewer c.in-Channel.number c.in-Channel.peer c.in-Active.lease grants has;
      aside = ended-aside c.in-Channel.number c.in-Channel.peer c.in-Active.lease grants has;
    }

pub returns-in-Active-clause-state : goal.returns-in-Active-clause-state
returns-in-Active-clause-state c = λ s.
    let grants = c.args.self.now.grants in
    let g = Channel c.in-Channel.number c.in-Channel.peer (Active c.in-Active.lease) in
    let e : find (λ h. is_of c.args.family h && is_expired_channel c.args.now h) (reverse grants) ≡ Some g =
    rw (← c.self.view_is) (sym c.last_expired_channel.ensures.found ∙ (c.in-Some.is ∙ ap Some (c.in-Channel.is ∙ ap (λ p. Channel c.in-Channel.number c.in-Channel.peer p) c.in-Active.is))) in
    c.end_channel.ensures.state s
    ∙ ended-is c.args.family c.args.now (with_ledger c.args.self.now s) c.in-Channel.number c.in-Channel.peer c.in-Active.lease e
