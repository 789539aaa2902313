-- The waits of a request begin as its first copy is given out, while no grant is lost.
use Rattle.turn_client_laws.proofs.Common.{◌≡◌, ◌⊎◌, ℕ, ◌+◌, ◌<◌, ◌≤◌, Bool, true, false, cond, eqb, List, refl, inl, inr, ap, sym, subst, ◌∙◌}
use Rattle.turn_client_laws.proofs.Machine.{waiting_from, waits_begun, Timers, Transaction, timers_of, State, Grant, Listing, Has, map-has}
use Rattle.turn_client_laws.proofs.Laws.{has-mapped}
use Rattle.turn_client_runs.specs.History.{History, waited}
use Rattle.turn_client_runs.specs.Lasting.{expiry_of}
use Rattle.turn_client_runs.proofs.LastingStands.{Goes, IsAwaited, IsIdle, IsKept, IsRequested, Stands, Lag}

module _ (count slots extras : ℕ) (lag : Lag) (delay now : ℕ) (past : History) (s : State) (k : IsKept count slots extras lag delay now past s.transactions s) (id : ℕ) where
  abbrev begun : Transaction → Transaction
  begun y = cond (eqb y.id id) (waiting_from now y) y

  abbrev t : State
  t = record s { transactions = waits_begun id now s.transactions }

  abbrev timers : Timers
  timers = timers_of s.config

  same-id : (y : Transaction) → (begun y).id ≡ y.id
  same-id y = by (eqb y.id id)
    where
      by : (b : Bool) → (cond b (waiting_from now y) y).id ≡ y.id
      by true = refl
      by false = refl

  same-resends : (y : Transaction) → (begun y).resends ≡ y.resends
  same-resends y = by (eqb y.id id)
    where
      by : (b : Bool) → (cond b (waiting_from now y) y).resends ≡ y.resends
      by true = refl
      by false = refl

  aged-begun : (y : Transaction) → Has y s.transactions → past.made (begun y).id + waited timers s.transport (begun y).resends ≤ (begun y).last_send
  aged-begun y h = rw (same-id y, same-resends y) (by (eqb y.id id))
    where
      by : (b : Bool) → past.made y.id + waited timers s.transport y.resends ≤ (cond b (waiting_from now y) y).last_send
      by true = k.begun y h
      by false = k.aged y h

  requested-begun : (when : ℕ → Type 0) (g : Grant) → IsRequested when past s.transactions s.listed g → IsRequested when past t.transactions t.listed g
  requested-begun when g p = record {
    transaction = begun p.transaction;
    there = map-has begun p.transaction s.transactions p.there;
    listing = p.listing;
    within = p.within;
    for = p.for;
    same = same-id p.transaction ∙ p.same;
    made = rw (same-id p.transaction) p.made;
  }

  stands-begun : (g : Grant) → Stands count slots extras lag delay now past s.transactions s g → Stands count slots extras lag delay now past t.transactions t g
  stands-begun g was = record { granted = was.granted; room = was.room; long = was.long; either = by was.either }
    where
      by : IsAwaited delay past s.transactions s.listed g ⊎ IsIdle slots lag now past s g → IsAwaited delay past t.transactions t.listed g ⊎ IsIdle slots lag now past t g
      by (inl a) = inl (requested-begun (λ made. made + delay < expiry_of g) g a)
      by (inr idle) = inr (record { unasked = idle.unasked; near = idle.near; soon = idle.soon; paused = idle.paused })

  came : (y : Transaction) → Has y t.transactions → (z : Transaction) × Has z s.transactions × (y ≡ begun z)
  came y h = has-mapped begun y s.transactions h

  pub kept-begun : IsKept count slots extras lag delay now past t.transactions t
  kept-begun = record {
    phase = k.phase;
    requests = k.requests;
    few = k.few;
    prompt = k.prompt;
    paced = k.paced;
    begins = k.begins;
    behind = k.behind;
    pace = k.pace;
    sent = k.sent;
    aged = λ y h.
        let (z, there, e) = came y h in
        subst (λ (y : Transaction). past.made y.id + waited timers s.transport y.resends ≤ y.last_send) (sym e) (aged-begun z there);
    lone = λ y z hy hz e.
        let (a, here, f) = came y hy in
        let (b, there, g) = came z hz in
        let one : a ≡ b = k.lone a b here there (sym (same-id a) ∙ (sym (ap (λ (w : Transaction). w.id) f) ∙ (e ∙ (ap (λ (w : Transaction). w.id) g ∙ same-id b)))) in
        f ∙ (ap begun one ∙ sym g);
    begun = λ y h.
        let (z, there, e) = came y h in
        subst (λ (y : Transaction). past.made y.id + waited timers s.transport y.resends ≤ now) (sym e) (rw (same-id z, same-resends z) (k.begun z there));
    heard = λ y h.
        let (z, there, e) = came y h in
        subst (λ (y : Transaction). now ≤ past.made y.id + delay) (sym e) (rw (same-id z) (k.heard z there));
    seldom = k.seldom;
    row = k.row;
    asked = k.asked;
    size = k.size;
    single = k.single;
    linked = k.linked;
    in_range = k.in_range;
    in_allocations = k.in_allocations;
    known = λ g there. let (waits, due) = k.known g there in (waits, due);
    each = λ g there. elim (k.each g there) [
      | inl (waits, pending) ↦ inl (waits, requested-begun (λ made. made ≤ now) g pending)
      | inr (inl stands) ↦ inr (inl (stands-begun g stands))
      | inr (inr loose) ↦ inr (inr loose)
    ];
  }

  -- from any state with the same grants and listings
  pub goes-begun : (u : State) → u.grants ≡ s.grants → u.listed ≡ s.listed → Goes past past s.transactions t.transactions u t
  goes-begun u same listed = record {
    let_go = λ g e. e;
    remain = λ g there granted none. (g, subst (λ (gs : List Grant). Has g gs) same there, refl, granted);
    follow = λ until g there waits pending none. inl (
      subst (λ (gs : List Grant). Has g gs) same there,
      requested-begun (λ made. made ≤ until) g (subst (λ (ls : List Listing). IsRequested (λ made. made ≤ until) past s.transactions ls g) listed pending),
    );
  }
