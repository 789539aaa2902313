use Rattle.std.proofs.Common.{◌≡◌, ◌∙◌, [], ◌∷◌, ap, refl}
use Rattle.std.specs.declared.net.socket_addr.SocketAddr.{SocketAddr}
use Rattle.std.specs.declared.net.socket_addr.SocketAddr.TheVariants.{V4}
use Rattle.turn_stun.specs.XorAddress.{xor_v4}
use Rattle.turn_client_grants.proofs.ThereLemmas.{someone}
use Rattle.tests_tables.proofs.grants.rows.holding.Goals as goal

-- some address, for statements about every client
anywhere : SocketAddr
anywhere = V4 (xor_v4 (10 ∷ 0 ∷ 0 ∷ 3 ∷ []) 9000)

pub ask-requires-clause-new : goal.ask-requires-clause-new
ask-requires-clause-new c =
    let none : c.reserve.new.self.grants ≡ [] = ap (λ t. t.grants) (c.reserve.ensures.same (someone anywhere)) ∙ c.new-ledger.ensures.grants in
    rw none c.requires.new

pub ask-requires-clause-new_id : goal.ask-requires-clause-new_id
ask-requires-clause-new_id c =
    let none : c.reserve.new.self.listed ≡ [] = ap (λ t. t.listed) (c.reserve.ensures.same (someone anywhere)) ∙ c.new-ledger.ensures.listed in
    rw none refl
