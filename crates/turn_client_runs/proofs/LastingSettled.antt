-- Requests that have ended are dropped from the queue, while no grant is lost.
use Rattle.turn_client_laws.proofs.Common.{◌≡◌, ◌⊎◌, ℕ, zero, suc, ◌+◌, ◌*◌, ◌≤◌, ◌<◌, false, not, List, [], ◌∷◌, refl, inl, inr, subst, arith, drop, length-drop, list_any, or_parts}
use Rattle.std.proofs.lemmas.Nat.{mul-le}
use Rattle.turn_client_laws.proofs.Machine.{State, Grant, Listing, Queued, Has, ended_count, settled}
use Rattle.turn_client_laws.proofs.Laws.{settled-has, settled-stays}
use Rattle.turn_client_runs.specs.History.{History}
use Rattle.turn_client_runs.specs.Lasting.{expiry_of, queue_ahead}
use Rattle.turn_client_runs.proofs.LastingStands.{ahead-more, Goes, IsAwaited, IsIdle, IsKept, IsRequested, Stands, Lag}

-- a part of a queue without replies has none
no-reply-behind : (n : ℕ) (queue : List Queued) → list_any (λ q. not q.is_request) queue ≡ false → list_any (λ q. not q.is_request) (drop n queue) ≡ false
no-reply-behind zero queue none = none
no-reply-behind (suc n) [] none = none
no-reply-behind (suc n) (q ∷ queue) none = no-reply-behind n queue (or_parts (not q.is_request) (list_any (λ q. not q.is_request) queue) none).1

module _ (count slots extras : ℕ) (lag : Lag) (delay now : ℕ) (past : History) (s : State) (k : IsKept count slots extras lag delay now past s.transactions s) where
  abbrev t : State
  t = settled s

  fewer : queue_ahead t ≤ queue_ahead s
  fewer = let all = ahead-more s t 0 refl (omega (arith, length-drop (ended_count s) s.queue)) in omega (arith, all)

  requested-settled : (when : ℕ → Type 0) (g : Grant) → IsRequested when past s.transactions s.listed g → IsRequested when past t.transactions t.listed g
  requested-settled when g p = record {
    transaction = p.transaction;
    there = settled-stays s p.transaction p.listing p.there p.within p.same;
    listing = p.listing;
    within = p.within;
    for = p.for;
    same = p.same;
    made = p.made;
  }

  stands-settled : (g : Grant) → Stands count slots extras lag delay now past s.transactions s g → Stands count slots extras lag delay now past t.transactions t g
  stands-settled g was = record { granted = was.granted; room = was.room; long = was.long; either = by was.either }
    where
      sooner : lag.pace * queue_ahead t ≤ lag.pace * queue_ahead s
      sooner = mul-le lag.pace (queue_ahead t) lag.pace (queue_ahead s) (omega arith) fewer

      by : IsAwaited delay past s.transactions s.listed g ⊎ IsIdle slots lag now past s g → IsAwaited delay past t.transactions t.listed g ⊎ IsIdle slots lag now past t g
      by (inl a) = inl (requested-settled (λ made. made + delay < expiry_of g) g a)
      by (inr idle) =
          let soon = idle.soon in
          let paused = idle.paused in
          inr (record { unasked = idle.unasked; near = idle.near; soon = omega (arith, soon, sooner); paused = omega (arith, paused, sooner) })

  pub kept-settled : IsKept count slots extras lag delay now past t.transactions t
  kept-settled = record {
    phase = k.phase;
    requests = no-reply-behind (ended_count s) s.queue k.requests;
    few = let few = k.few in omega (arith, few, fewer);
    prompt = k.prompt;
    paced = k.paced;
    begins = k.begins;
    behind = k.behind;
    pace = k.pace;
    sent = k.sent;
    aged = λ x h. k.aged x (settled-has s x h);
    lone = λ x y hx hy e. k.lone x y (settled-has s x hx) (settled-has s y hy) e;
    begun = λ x h. k.begun x (settled-has s x h);
    heard = λ x h. k.heard x (settled-has s x h);
    seldom = k.seldom;
    row = k.row;
    asked = k.asked;
    size = k.size;
    single = k.single;
    linked = k.linked;
    in_range = k.in_range;
    in_allocations = k.in_allocations;
    known = λ g there. let (waits, due) = k.known g there in (waits, due);
    each = λ g there. elim (k.each g there) [
      | inl (waits, pending) ↦ inl (waits, requested-settled (λ made. made ≤ now) g pending)
      | inr (inl stands) ↦ inr (inl (stands-settled g stands))
      | inr (inr loose) ↦ inr (inr loose)
    ];
  }

  -- to any state with the same grants and listings
  pub goes-settled : (u : State) → s.grants ≡ u.grants → s.listed ≡ u.listed → Goes past past s.transactions t.transactions s u
  goes-settled u same listed = record {
    let_go = λ g e. e;
    remain = λ g there granted none. (g, subst (λ (gs : List Grant). Has g gs) same there, refl, granted);
    follow = λ until g there waits pending none. inl (
      subst (λ (gs : List Grant). Has g gs) same there,
      subst (λ (ls : List Listing). IsRequested (λ made. made ≤ until) past t.transactions ls g) listed (requested-settled (λ made. made ≤ until) g pending),
    );
  }
