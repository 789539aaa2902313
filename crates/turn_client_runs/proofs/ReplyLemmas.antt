-- In a run a reply that is accepted ends its request.
use Rattle.turn_client_laws.proofs.Common.{◌++◌, ◌≡◌, ◌⊎◌, ◌∙◌, ℕ, Bool, true, false, List, [], ◌∷◌, inl, inr, refl, sym, subst, ap, SocketAddr}
use Rattle.turn_client_laws.proofs.Machine.{id_of, is_outstanding, State, fresh_id, bind_judgement, bind_answered, bind_step, Outcome, is_message, message_step, state_after, state_after_all, Call}
use Rattle.turn_client_laws.proofs.Laws.{Input, processed, InputsLead, IsAccepted, IsDrawn, IsNotAwaited, accepted-gone, accepted-outstanding, bind-ended, bind-outstanding, found-local, IsBrought}
use Rattle.turn_client_laws.proofs.Laws.{lead-brings, brought}
use Rattle.turn_client_laws.proofs.NewIdCallLemmas.{draws-IsBringing, leaves-draws}
use Rattle.turn_client_runs.specs.Replies.{AreReplies, EndsItsRequest, IsBindReply, IsMadeAmong, IsMadeBetween, IsMadeIn, IsMadeSince, IsMadeUntil, IsReplyInput, InputMakesRequest}
use Rattle.turn_client_runs.proofs.MadeLemmas.{control-made, waiting-made}
use Rattle.turn_client_runs.proofs.InputsOfRuns.{handled-leads, has-among, leads-from, leads-to}

-- ---- one input

-- on a connection that waits it is awaited no longer
pub bind-reply-ended : (one : Input) → IsBindReply one → IsNotAwaited one.bytes (processed one).1
bind-reply-ended one b =
    let made : (processed one).1 ≡ bind_step b.local one.bytes one.time one.before = waiting-made b.local one b.over b.whole in
    let answered : bind_step b.local one.bytes one.time one.before ≡ bind_answered b.connection one.bytes one.time one.before =
    rw (b.phase, b.found, b.method) refl in
    let accepted : IsAccepted (bind_judgement one.before b.connection.local one.bytes) =
    subst (λ (local : SocketAddr). IsAccepted (bind_judgement one.before local one.bytes)) (sym (found-local b.local b.connection _ b.found)) b.accepted in
    subst (λ (t : State). IsNotAwaited one.bytes t) (sym (made ∙ answered)) (bind-ended b.connection one.bytes one.time one.before accepted)

pub reply-ends : (one : Input) → IsReplyInput one → EndsItsRequest one
reply-ends one (inl c) = (
  accepted-outstanding one.bytes one.before c.accepted,
  subst (λ (p : Outcome × State). IsNotAwaited one.bytes p.1) (sym (control-made one c.over c.whole))
      (accepted-gone one.bytes one.time one.before c.accepted),
)
reply-ends one (inr b) = (bind-outstanding b.local one.bytes one.before b.accepted, bind-reply-ended one b)

-- ---- what an input causes did not hold before it

module _ (P : State → Bool) (Did : Input → Type 0) (k : IsBrought (λ s. P s ≡ true) Did) where
  abbrev Anew : Input → Type 0
  Anew one = (did : Did one) × (P one.before ≡ false) × (P (processed one).1 ≡ true)

  anew : (one : Input) (t : State) → (processed one).1 ≡ t → P t ≡ true → (P one.before ≡ true) ⊎ Did one → (P one.before ≡ true) ⊎ Anew one
  anew one t made h (inl there) = inl there
  anew one t made h (inr did) = by (P one.before) refl
    where
      by : (b : Bool) → P one.before ≡ b → (P one.before ≡ true) ⊎ Anew one
      by true e = inl e
      by false e = inr (did, e, subst (λ (u : State). P u ≡ true) (sym made) h)

  bringing-anew : IsBrought (λ s. P s ≡ true) (λ one. (did : Did one) × (P one.before ≡ false) × (P (processed one).1 ≡ true))
  bringing-anew = record {
    differs = k.differs;
    message = λ one over whole h.
        anew one (message_step one.bytes one.time one.before).1 (ap (λ (p : Outcome × State). p.1) (control-made one over whole)) h (k.message one over whole h);
    binds = λ one stream of waits whole h.
        anew one (bind_step stream.local one.bytes one.time one.before) (waiting-made stream.local one (rw of (waits, refl)) whole) h
        (k.binds one stream of waits whole h);
    gone = k.gone;
    ended = k.ended;
  }

-- ---- a run

module _ (id : ℕ) where
  abbrev is_out : State → Bool
  is_out t = is_outstanding id t.transactions

  -- an ID that is outstanding was so before, or a call makes a request under it
  pub made-in : (s : State) (calls : List Call) → is_outstanding id (state_after_all s calls).transactions ≡ true → (is_outstanding id s.transactions ≡ true) ⊎ IsMadeIn id s calls
  made-in s [] h = inl h
  made-in s (call ∷ calls) h = elim (made-in (state_after call s) calls h) [ inl out ↦ first (is_out s) refl out | inr made ↦ inr (inr made) ]
    where
      draws : is_out s ≡ false → IsDrawn call id s ⊎ (is_out s ≡ true) → IsDrawn call id s
      draws free (inl drawn) = drawn
      draws free (inr was) = cc (sym was ∙ free)

      first : (b : Bool) → is_out s ≡ b → is_out (state_after call s) ≡ true → (is_out s ≡ true) ⊎ IsMadeIn id s (call ∷ calls)
      first true e out = inl e
      first false e out = inr (inl (record { drawn = draws e (leaves-draws id call s (state_after call s) (inl refl) out); free = e; made = out }))

  abbrev Draws : Input → Type 0
  Draws one = (is_message one.bytes ≡ true) × (id ≡ fresh_id one.before)

  -- so do the inputs of a call
  lead-makes : (inputs : List Input) (s t : State) → InputsLead inputs s t → is_out t ≡ true → (is_out s ≡ true) ⊎ IsMadeAmong id inputs
  lead-makes inputs s t lead h = elim (lead-brings (λ u. is_out u ≡ true) (Anew is_out Draws drawing) (bringing-anew is_out Draws drawing) inputs s t lead h) [
    | inl was ↦ inl was
    | inr (one, there, did) ↦ inr (has-among (InputMakesRequest id) inputs (one, there, makes one did))
  ]
    where
      drawing : IsBrought (λ u. is_out u ≡ true) Draws
      drawing = brought (λ u. is_out u ≡ true) (λ message now u. id ≡ fresh_id u) (draws-IsBringing id)

      makes : (one : Input) → Anew is_out Draws drawing one → InputMakesRequest id one
      makes one (did, free, made) = record { whole = did.0; drawn = did.1; free = free; made = made }

pub reply-again : (s : State) (call : Call) (calls : List Call) (one : Input) → IsReplyInput one → IsMadeSince s call calls one
reply-again s call calls one reply front later e awaited =
    let id = id_of one.bytes in
    let t = state_after call s in
    let lead = leads-from front later one s t (handled-leads call s front later one e) in
    elim (made-in id t calls awaited) [
      | inl out ↦ elim (lead-makes id later (processed one).1 t lead out) [ inl out ↦ cc (sym out ∙ (reply-ends one reply).1) | inr made ↦ inl made ]
      | inr made ↦ inr made
    ]

-- ---- two replies with one ID

-- the second finds its request outstanding
second-out : (one other : Input) → AreReplies one other → is_outstanding (id_of one.bytes) other.before.transactions ≡ true
second-out one other (first, second, same) =
    subst (λ (id : ℕ). is_outstanding id other.before.transactions ≡ true) (sym same) (reply-ends other second).0

pub made-between : (s : State) (call : Call) → IsMadeBetween s call
made-between s call one other front between rest replies e =
    let id = id_of one.bytes in
    let all : InputsLead (front ++ one ∷ (between ++ other ∷ rest)) s (state_after call s) = handled-leads call s front (between ++ other ∷ rest) one e in
    let lead : InputsLead between (processed one).1 other.before =
    leads-to between rest other (processed one).1 (state_after call s) (leads-from front (between ++ other ∷ rest) one s (state_after call s) all) in
    elim (lead-makes id between (processed one).1 other.before lead (second-out one other replies)) [
      | inl out ↦ cc (sym out ∙ (reply-ends one replies.0).1)
      | inr made ↦ made
    ]

pub made-until : (s : State) (call : Call) (calls : List Call) (last : Call) → IsMadeUntil s call calls last
made-until s call calls last one other front later before rest replies e f =
    let id = id_of one.bytes in
    let u = state_after_all (state_after call s) calls in
    let lead = leads-to before rest other u (state_after last u) (handled-leads last u before rest other f) in
    elim (lead-makes id before u other.before lead (second-out one other replies)) [
      | inl out ↦ elim (reply-again s call calls one replies.0 front later e out) [ inl made ↦ inl made | inr made ↦ inr (inl made) ]
      | inr made ↦ inr (inr made)
    ]
