-- In a run `poll_transmit` gives only messages of the client's own, of which none has the password but in its key.
use Rattle.turn_client_laws.proofs.Common.{◌≡◌, ◌⊎◌, ◌∙◌, ℕ, List, Some, refl, sym, subst, ap, inl, inr, SocketAddr, [], ◌∷◌}
use Rattle.turn_client_laws.proofs.Machine.{Challenge, Config, Has, Phase, Allocated, Purpose, Queued, Request, State, TransportType, Transmit, ForBind, Success}
use Rattle.turn_client_laws.proofs.Machine.{state_after_all, first_allocate, fresh_id, next_refresh, next_transmit, request_for, Call}
use Rattle.turn_client_laws.proofs.Laws.{has-contains, IsHeldIn}
use Rattle.turn_client_runs.specs.Holds.{HoldsOfRuns}
use Rattle.turn_client_runs.specs.Leaving.{IsOwn, OnlyOwnLeave, refusals, first_request, signed_as, request_of, attribute, message_with}
use Rattle.turn_stun.specs.Values.{error_code_value}
use Rattle.turn_client_runs.proofs.LeavingTexts.{accepted-is, first-is, refused-is, request-is}
use Rattle.turn_client_runs.proofs.SentQueues.{IsBindText, IsControlText, IsRequestText, held-some}
use Rattle.turn_client_runs.proofs.SentRuns.{Asks, Hears, brings-asked, first, goes, own-asked, refresh-asked, transmit-sends}
use Rattle.turn_client_runs.proofs.SentTexts.{Requests, Responds}
use Rattle.turn_client_runs.proofs.SentWalk.{GoesWell}
use Rattle.turn_client_laws.proofs.Machine.{Error}

module _ (transport : TransportType) (local remote : SocketAddr) (config : Config) (seed : List ℕ) (calls : List Call) (now : ℕ) where
  abbrev was : State
  was = first transport local remote config seed

  abbrev s : State
  s = state_after_all was calls

  abbrev Own : List ℕ → Type 0
  Own bytes = IsOwn bytes calls was

  abbrev Asked : Purpose → Type 0
  Asked = Asks transport local remote config seed calls

  abbrev Heard : Challenge → Type 0
  Heard = Hears transport local remote config seed calls

  requests-own : (p : Purpose) (text : List ℕ) → Asked p → Requests Heard was.config p text → Own text
  requests-own p text (named, opened) (u, (same, (d, held, heard)), (id, e)) =
      inl (
        p,
        u.families,
        id,
        named,
        (
          d,
          heard,
          e ∙ (request-is u d held p id
              ∙ ap (λ (c : Config). signed_as c d Request (request_of c.allocation_transport u.families p id)) same),
        ),
      )

  responds-own : (text : List ℕ) → Responds Heard was.config text → Own text
  responds-own text (u, (same, (d, held, heard)), (id, inl e)) =
      inr (inl (id, inl (d, heard, e ∙ (accepted-is u d held id ∙ ap (λ (c : Config). signed_as c d Success (message_with 0x00c Success [] id)) same))))
  responds-own text (u, (same, (d, held, heard)), (id, inr (r, listed, e))) =
      inr (inl (
        id,
        inr (
          r,
          has-contains r refusals listed,
          (
            d,
            heard,
            e ∙ (refused-is u d held r id
                ∙ ap (λ (c : Config). signed_as c d Error (message_with 0x00c Error (attribute 0x0009 (error_code_value r) ∷ []) id)) same),
          ),
        ),
      ))

  first-own : (u : State) (id : ℕ) → u.config ≡ was.config → Own (first_allocate u id)
  first-own u id same = inr (inr (id, inl (u.families, first-is u id ∙ ap (λ (c : Config). first_request c.allocation_transport u.families id) same)))

  request-own : (text : List ℕ) → IsRequestText Asked Heard was text → Own text
  request-own text (inl (p, asked, requests)) = requests-own p text asked requests
  request-own text (inr (u, same, (id, e))) = subst Own (sym e) (first-own u id same)

  control-own : (text : List ℕ) → IsControlText Asked Heard was text → Own text
  control-own text (inl (p, other, asked, requests)) = requests-own p text asked requests
  control-own text (inr responds) = responds-own text responds

  transmit-own : (packet : Transmit (List ℕ)) → next_transmit now s ≡ Some packet → Own packet.payload
  transmit-own =
      transmit-sends (λ packet. Own packet.payload) now s (λ x there is. request-own x.request (well.outstanding x there)) queued (first-own s (fresh_id s) well.stays.3) renews
      (inr (inr (fresh_id s, inr refl)))
    where
      well : GoesWell Asked Heard was (own-asked calls was) (brings-asked calls was) s
      well = (goes transport local remote config seed calls).well

      queued : (q : Queued) → Has q s.queue → Own q.packet.payload
      queued q there = by (well.queue q there)
        where
          by : (q.packet.transport ≡ was.transport) × (q.packet.to ≡ was.remote)
              × (((q.packet.from ≡ was.local) × IsControlText Asked Heard was q.packet.payload) ⊎ IsBindText Asked Heard was q.packet.from q.packet.payload)
              → Own q.packet.payload
          by (transport, to, inl (control, text)) = control-own q.packet.payload text
          by (transport, to, inr (peer, id, asked, requests)) = requests-own (ForBind q.packet.from peer id) q.packet.payload asked requests

      -- what is refreshed was asked, and is signed under what is held
      renews : (p : Purpose) → s.phase ≡ Allocated → next_refresh now s ≡ Some p → Own (request_for s p (fresh_id s))
      renews p phase e =
          let (d, held) = held-some s.held (subst (λ (q : Phase). IsHeldIn q s.held) phase well.holds) in
          requests-own p (request_for s p (fresh_id s)) (refresh-asked transport local remote config seed calls now p e) (s, (well.stays.3, (d, held, well.held d held)), (fresh_id s, refl))

pub run-owns : HoldsOfRuns OnlyOwnLeave
run-owns transport local remote config seed calls earlier now later packet e given = transmit-own transport local remote config seed earlier now packet given
