-- A permission is requested while no grant is lost.
use Rattle.turn_client_laws.proofs.Common.{◌<◌, ◌≡◌, ◌⊎◌, ℕ, ◌+◌, ◌≤◌, Bool, true, false, cond, not, List, [], ◌∷◌, length, Option, Some, None, refl, inl, inr, ap, sym, ◌∙◌, arith, Result, Ok, Err}
use Rattle.turn_client_laws.proofs.Common.{filter_map, is_some, socket_ip, SocketAddr, list_any, cases_Bool, eq-eqb, lt-leb, not-true, or_left, or_right, length-append, list_any-append, none-some}
use Rattle.turn_client_laws.proofs.Common.{IpAddr, is_none, append_assoc, subst, ◌++◌}
use Rattle.turn_client_laws.proofs.Machine.{BindChannelError, TransportType, AddressFamily, first_sent, Transaction, same_family, State, Phase, Allocated, Queued, CreatePermissionError, Grant}
use Rattle.turn_client_laws.proofs.Machine.{Allocation, Channel, Permission, Listing, Relay, Progress, Pending, Purpose, ForChannel, ForPermission, allocations, family_of, family_of_grant}
use Rattle.turn_client_laws.proofs.Machine.{family_of_ip, find_allocation, find_allocation_to, has_request, is_channel_of, is_for, is_past, is_permission_of, permission_progress, permission_state}
use Rattle.turn_client_laws.proofs.Machine.{same_transport, with_grant, fresh_id, listings, queued, request_for, request_started, requested, to_server, bind_channel, bind_channel_step, bound_by}
use Rattle.turn_client_laws.proofs.Machine.{channel_numbers, channel_step, channels_to, create_permission_step, free_number, in_allocation, is_allocated, is_in_progress, is_number_taken}
use Rattle.turn_client_laws.proofs.Machine.{missing_permission, permission_step, reserved_from, is_kept, pause_end, map-has, Has, filter_map-has, has-append, has-found, has-left, has-right}
use Rattle.turn_client_laws.proofs.Machine.{allocation-there, waits_from, with_more_grants}
use Rattle.turn_client_laws.proofs.Laws.{any-has, Room, has-any, allocation-room, room-more, has-mapped}
use Rattle.turn_client_api.specs.declared.error.BindChannelError.TheVariants as Bind
use Rattle.turn_client_api.specs.declared.error.CreatePermissionError.TheVariants as Create
use Rattle.turn_client_runs.specs.History.{History}
use Rattle.turn_client_runs.specs.Lasting.{expiry_of, queue_ahead}
use Rattle.turn_client_runs.proofs.AppendLemmas.{has-last}
use Rattle.turn_client_runs.proofs.LastingHistory.{from-later, lone-more}
use Rattle.turn_client_runs.proofs.LastingCounts.{passes, passes-all, passes-append, passes-none}
use Rattle.turn_client_runs.proofs.LastingStands.{Goes, IsPending, IsRequested, requested-more, AreSingle, IsAsked, IsRequest, IsAwaited, IsIdle, IsKept, IsUnique, Stands, allocation-stands, due_of}
use Rattle.turn_client_runs.proofs.LastingStands.{ahead-more, more-paced, asked-before, leased-active, IsLoose, is_served, is_waiting, not-waiting, served, stands-early, unique-refreshing}
use Rattle.turn_client_runs.proofs.LastingStands.{Lag}
use Rattle.turn_client_runs.proofs.LastingTransmits.{same_ip-self}
use Rattle.turn_client_runs.proofs.LastingListings.{requests-more}
use Rattle.turn_client_runs.proofs.LastingEffects.{permission-there, some-first}
use Rattle.turn_client_runs.proofs.LastingReplies.{for-joins}

-- ---- a request is queued

-- a request for permissions or channels is made and queued
abbrev pub asks : List Purpose → List Grant → ℕ → List ℕ → State → State
asks ps news now text s = queued true s.local text (request_started (fresh_id s) text ps (waits_from now s) (with_more_grants news s))

-- what is requested waits, did not exist, and has an allocation
pub record AreNew (s : State) (ps : List Purpose) (news : List Grant) : Type 0 where
  pub unique : (p : Purpose) → Has p ps → IsUnique p
  pub some : 1 ≤ length news
  pub waits : (g : Grant) → Has g news → is_waiting g ≡ true
  pub kept : (g : Grant) → Has g news → is_kept g ≡ true
  pub for : (p : Purpose) → Has p ps → (g : Grant) × Has g news × (is_for p g ≡ true)
  pub none : (p : Purpose) → Has p ps → (g : Grant) → Has g s.grants → is_for p g ≡ false
  pub house : (g : Grant) → Has g news → Room s.grants (family_of_grant g)
  pub single : AreSingle (s.grants ++ news)
  pub asked : (g : Grant) → Has g news → (p : Purpose) × Has p ps × (is_for p g ≡ true)
  pub linked : (id : ℕ) → IsRequest (s.grants ++ news) (listings id ps)

module _ (count slots extras : ℕ) (lag : Lag) (delay now : ℕ) (past : History) (s : State) (k : IsKept count slots extras lag delay now past s.transactions s)
    (ps : List Purpose) (news : List Grant) (are : AreNew s ps news) (text : List ℕ)
    (fresh : past.made (fresh_id s) ≡ now) where
  abbrev id : ℕ
  id = fresh_id s

  abbrev t : State
  t = asks ps news now text s

  abbrev sent : Transaction
  sent = first_sent id s.remote (waits_from now s) text

  abbrev packet : Queued
  packet = record { packet = to_server s s.local text; is_request = true }

  new-listing : (l : Listing) → Has l (listings id ps) → (p : Purpose) × Has p ps × (l ≡ record { id = id; purpose = p })
  new-listing l h = has-mapped (λ (p : Purpose). record { id = id; purpose = p }) l ps h

  still-asked : (g : Grant) → has_request g s ≡ true → has_request g t ≡ true
  still-asked g e = list_any-append (λ (l : Listing). is_for l.purpose g) s.listed (listings id ps) ∙ or_left (has_request g s) _ e

  not-asked : (g : Grant) → Has g s.grants → has_request g s ≡ false → has_request g t ≡ false
  not-asked g there e = list_any-append (λ (l : Listing). is_for l.purpose g) s.listed (listings id ps) ∙ rw e (by (list_any (λ (l : Listing). is_for l.purpose g) (listings id ps)) refl)
    where
      by : (b : Bool) → list_any (λ (l : Listing). is_for l.purpose g) (listings id ps) ≡ b → list_any (λ (l : Listing). is_for l.purpose g) (listings id ps) ≡ false
      by false f = f
      by true f =
          let (l, here, for) = any-has (λ (l : Listing). is_for l.purpose g) (listings id ps) f in
          let (p, among, is) = new-listing l here in
          let also : is_for p g ≡ true = subst (λ (m : Listing). is_for m.purpose g ≡ true) is for in
          let no : false ≡ true = sym (are.none p among g there) ∙ also in
          cc

  -- one more is served, and all that were
  serves-more : (since : ℕ) → served s since + 1 ≤ served t since
  serves-more since =
      let same = passes-all (is_served s since) (is_served t since) s.grants still in
      let more = passes-append (is_served t since) s.grants news in
      omega (arith, same, more, new-served news are.some are.waits)
    where
      still : (x : Grant) → Has x s.grants → is_served s since x ≡ true → is_served t since x ≡ true
      still x h e = elim (cases_Bool (is_waiting x)) [
        | inl w ↦ or_left (is_waiting x) _ w
        | inr w ↦ or_right (is_waiting x) _ (elim (cases_Bool (has_request x s)) [
          | inl f ↦ or_left (has_request x t) _ (still-asked x f)
          | inr f ↦ or_right (has_request x t) _ (rw (w, f) at e)
        ])
      ]

      new-served : (gs : List Grant) → 1 ≤ length gs → ((g : Grant) → Has g gs → is_waiting g ≡ true) → 1 ≤ passes (is_served t since) gs
      new-served [] some waits = absurd (omega (arith, some))
      new-served (g ∷ gs) some waits = rw (waits g (inl refl)) (omega arith)

  one-more : queue_ahead t ≤ queue_ahead s + 1
  one-more = ahead-more s t 1 refl (omega (arith, length-append s.queue (packet ∷ [])))

  requested-old : (when : ℕ → Type 0) (g : Grant) → IsRequested when past s.transactions s.listed g → IsRequested when past t.transactions t.listed g
  requested-old when g = requested-more when past past s.transactions t.transactions s.listed t.listed g (λ x h. refl) (λ x h. has-left x s.transactions _ h) (λ l h for. has-left l s.listed _ h)

  stands-asked : (g : Grant) → Has g s.grants → Stands count slots extras lag delay now past s.transactions s g → Stands count slots extras lag delay now past t.transactions t g
  stands-asked g there was = record { granted = was.granted; room = was.room; long = was.long; either = by was.either }
    where
      by : IsAwaited delay past s.transactions s.listed g ⊎ IsIdle slots lag now past s g → IsAwaited delay past t.transactions t.listed g ⊎ IsIdle slots lag now past t g
      by (inl a) = inl (requested-old (λ made. made + delay < expiry_of g) g a)
      by (inr idle) =
          let more = serves-more (due_of s g) in
          let soon = idle.soon in
          let paused = idle.paused in
          inr (record {
            unasked = not-asked g there idle.unasked;
            near = idle.near;
            soon = more-paced lag.pace lag.since _ _ (due_of s g) slots _ _ one-more (omega (arith, more)) soon;
            paused = more-paced lag.pace (pause_end s) _ _ (due_of s g) slots _ _ one-more (omega (arith, more)) paused;
          })

  -- what is reserved is not asked for
  loose-asked : (g : Grant) → Has g s.grants → IsLoose past s g → IsLoose past t g
  loose-asked g there (inl freed) = inl freed
  loose-asked g there (inr (is, none)) = inr (is, not-asked g there none)

  room-left : (family : AddressFamily) → Room s.grants family → Room t.grants family
  room-left = room-more s.grants t.grants (λ a there. has-left (Allocation a) s.grants news there)

  new-pending : (g : Grant) → Has g news → IsPending now past t.transactions t.listed g
  new-pending g h =
      let (p, among, for) = are.asked g h in
      record {
        transaction = sent;
        there = has-right sent s.transactions (sent ∷ []) (inl refl);
        listing = record { id = id; purpose = p };
        within = has-right (record { id = id; purpose = p }) s.listed (listings id ps) (map-has (λ (p : Purpose). record { id = id; purpose = p }) p ps among);
        for = for;
        same = refl;
        made = omega (arith, fresh);
      }

  pub asked-kept : length t.grants ≤ count → queue_ahead t ≤ slots → IsKept count slots extras lag delay now past t.transactions t
  asked-kept size few = record {
    phase = k.phase;
    requests = list_any-append (λ (q : Queued). not q.is_request) s.queue (packet ∷ []) ∙ rw k.requests refl;
    few = few;
    prompt = k.prompt;
    paced = k.paced;
    begins = k.begins;
    behind = k.behind;
    pace = k.pace;
    sent = k.sent;
    aged = λ x h. elim (has-last x s.transactions sent h) [
      | inl old ↦ k.aged x old
      | inr e ↦ let later = from-later now s k.in_range in rw e (omega (arith, fresh, later))
    ];
    lone = lone-more s s.transactions sent refl (λ x h. h) k.lone;
    begun = λ x h. elim (has-last x s.transactions sent h) [
      | inl old ↦ k.begun x old
      | inr e ↦ rw e (omega (arith, fresh))
    ];
    heard = λ x h. elim (has-last x s.transactions sent h) [
      | inl old ↦ k.heard x old
      | inr e ↦ rw e (omega (arith, fresh))
    ];
    seldom = k.seldom;
    row = k.row;
    asked = λ l h. elim (has-append l s.listed (listings id ps) h) [
      | inl old ↦ let (refreshes, (g, there, for)) = k.asked l old in (refreshes, (g, has-left g s.grants news there, for))
      | inr new ↦
          let (p, among, is) = new-listing l new in
          let (g, there, for) = are.for p among in
          subst (IsAsked t.grants) (sym is) (unique-refreshing p (are.unique p among), (g, has-right g s.grants news there, for))
    ];
    size = size;
    single = are.single;
    linked = requests-more s t.grants (listings id ps) (λ g h. has-left g s.grants news h) (λ l h. ap (λ (m : Listing). m.id) (new-listing l h).2) (are.linked id) k.linked;
    in_range = k.in_range;
    in_allocations = λ g h. elim (has-append g s.grants news h) [
      | inl old ↦ room-left (family_of_grant g) (k.in_allocations g old)
      | inr new ↦ room-left (family_of_grant g) (are.house g new)
    ];
    known = λ g h. elim (has-append g s.grants news h) [
      | inl old ↦
          let (waits, due) = k.known g old in
          (waits, λ leased asked. due leased (asked-before (has_request g s) (has_request g t) (not-asked g old) asked))
      | inr new ↦ (
        λ waits. or_left (is_kept g) _ (are.kept g new),
        λ leased asked. absurd (let no : false ≡ true = sym (not-waiting g (leased-active g leased)) ∙ are.waits g new in cc),
      )
    ];
    each = λ g h. elim (has-append g s.grants news h) [
      | inl old ↦ elim (k.each g old) [
        | inl (waits, pending) ↦ inl (waits, requested-old (λ made. made ≤ now) g pending)
        | inr (inl stands) ↦ inr (inl (stands-asked g old stands))
        | inr (inr loose) ↦ inr (inr (loose-asked g old loose))
      ]
      | inr new ↦ inl (are.waits g new, new-pending g new)
    ];
  }

  pub asked-goes : Goes past past s.transactions t.transactions s t
  asked-goes = record {
    let_go = λ g e. e;
    remain = λ g there granted none. (g, has-left g s.grants news there, refl, granted);
    follow = λ until g there waits pending none. inl (has-left g s.grants news there, requested-old (λ made. made ≤ until) g pending);
  }

-- one grant more of a kind that did not exist
single-more : (gs : List Grant) (p : Purpose) (unique : IsUnique p) (new : Grant) → is_for p new ≡ true → ((g : Grant) → Has g gs → is_for p g ≡ false) → AreSingle gs → AreSingle (gs ++ new ∷ [])
single-more gs p unique new for none-there single q other = by (is_for q new) refl
  where
    more : passes (is_for q) (gs ++ new ∷ []) ≡ passes (is_for q) gs + passes (is_for q) (new ∷ [])
    more = passes-append (is_for q) gs (new ∷ [])

    apart : is_for q new ≡ true → (g : Grant) → Has g gs → (b : Bool) → is_for q g ≡ b → is_for q g ≡ false
    apart e g h false f = f
    apart e g h true f =
        let no : false ≡ true = sym (none-there g h) ∙ for-joins p q g new (unique-refreshing p unique) (unique-refreshing q other) for e f in
        cc

    by : (b : Bool) → is_for q new ≡ b → passes (is_for q) (gs ++ new ∷ []) ≤ 1
    by true e =
        let none = passes-none (is_for q) gs (λ g h. apart e g h (is_for q g) refl) in
        let last : passes (is_for q) (new ∷ []) ≡ 1 = rw e refl in
        omega (arith, more, none, last)
    by false e =
        let few = single q other in
        let last : passes (is_for q) (new ∷ []) ≡ 0 = rw e refl in
        omega (arith, more, few, last)

-- ---- the call

-- what a look-up of an allocation finds has not expired
found-early : (count slots extras : ℕ) (lag : Lag) (delay now : ℕ) (past : History) (s : State) → IsKept count slots extras lag delay now past s.transactions s → (transport : TransportType) (ip : IpAddr) (a : Relay)
    → find_allocation_to transport ip s ≡ Some a → is_past now a ≡ false
found-early count slots extras lag delay now past s k transport ip a e = by (same_transport transport s.config.allocation_transport) e
  where
    by : (b : Bool) → cond b (find_allocation (family_of_ip ip) s) None ≡ Some a → is_past now a ≡ false
    by false e = absurd (none-some a e)
    by true e =
        let found = has-found (λ (r : Relay). same_family (family_of r.relayed) (family_of_ip ip)) a (allocations s) e in
        let there = allocation-there a s.grants found.0 in
        lt-leb a.expiry now (stands-early count slots extras lag delay now past s k (Allocation a) there (allocation-stands count slots extras lag delay now past s.transactions s k a there))

-- no permission for the IP address exists
permission-none : (ip : IpAddr) (s : State) → permission_state ip s ≡ None → (g : Grant) → Has g s.grants → is_permission_of ip g ≡ false
permission-none ip s unknown g there = by (is_permission_of ip g) refl
  where
    by : (b : Bool) → is_permission_of ip g ≡ b → is_permission_of ip g ≡ false
    by false e = e
    by true e =
        let (z, f) = permission-there ip g e in
        let (first, is) = some-first z (filter_map (permission_progress ip) s.grants) (filter_map-has (permission_progress ip) g z s.grants there f) in
        absurd (none-some first (sym unknown ∙ is))

-- nothing changes, or a request is queued for something that did not exist
abbrev pub Asks : (State → Type 0) → ℕ → State → Type 0
Asks P now s = (ps : List Purpose) (news : List Grant) (text : List ℕ) → AreNew s ps news → P (asks ps news now text s)

-- one thing
one-new : (s : State) (single : AreSingle s.grants) (p : Purpose) (unique : IsUnique p) (new : Grant) → is_for p new ≡ true → is_waiting new ≡ true → is_kept new ≡ true
    → ((g : Grant) → Has g s.grants → is_for p g ≡ false)
    → Room s.grants (family_of_grant new) → AreNew s (p ∷ []) (new ∷ [])
one-new s single p unique new for waits kept none house = record {
  unique = λ q h. is-one q h;
  some = omega arith;
  waits = λ g h. elim h [ inl e ↦ rw e waits | inr no_more ↦ absurd no_more ];
  kept = λ g h. elim h [ inl e ↦ rw e kept | inr no_more ↦ absurd no_more ];
  for = λ q h. elim h [ inl e ↦ (new, inl refl, rw e for) | inr no_more ↦ absurd no_more ];
  none = λ q h g there. elim h [ inl e ↦ rw e (none g there) | inr no_more ↦ absurd no_more ];
  house = λ g h. elim h [ inl e ↦ rw e house | inr no_more ↦ absurd no_more ];
  single = single-more s.grants p unique new for none single;
  asked = λ g h. elim h [ inl e ↦ (p, inl refl, rw e for) | inr no_more ↦ absurd no_more ];
  linked = λ id. tt;
}
  where
    is-one : (q : Purpose) → Has q (p ∷ []) → IsUnique q
    is-one q (inl e) = subst IsUnique (sym e) unique
    is-one q (inr no_more) = absurd no_more

-- a channel and the permission that it brings
both-new : (s : State) (single : AreSingle s.grants) (number : ℕ) (peer : SocketAddr) → ((g : Grant) → Has g s.grants → is_channel_of number g ≡ false)
    → ((g : Grant) → Has g s.grants → is_permission_of (socket_ip peer) g ≡ false) → Room s.grants (family_of peer)
    → AreNew s (ForChannel number peer ∷ ForPermission (socket_ip peer) ∷ []) (Channel number peer (Pending true) ∷ Permission (socket_ip peer) (Pending true) ∷ [])
both-new s single number peer no_channel no_permission house = record {
  unique = λ q h. unique q h;
  some = omega arith;
  waits = λ g h. elim h [ inl e ↦ rw e refl | inr (inl e) ↦ rw e refl | inr (inr no_more) ↦ absurd no_more ];
  kept = λ g h. elim h [ inl e ↦ rw e refl | inr (inl e) ↦ rw e refl | inr (inr no_more) ↦ absurd no_more ];
  for = λ q h. elim h [
    | inl e ↦ (Channel number peer (Pending true), inl refl, rw e (eq-eqb number number refl))
    | inr (inl e) ↦ (Permission (socket_ip peer) (Pending true), inr (inl refl), rw e (same_ip-self (socket_ip peer)))
    | inr (inr no_more) ↦ absurd no_more
  ];
  none = λ q h g there. elim h [ inl e ↦ rw e (no_channel g there) | inr (inl e) ↦ rw e (no_permission g there) | inr (inr no_more) ↦ absurd no_more ];
  house = λ g h. elim h [ inl e ↦ rw e house | inr (inl e) ↦ rw e house | inr (inr no_more) ↦ absurd no_more ];
  single = subst AreSingle (append_assoc s.grants (Channel number peer (Pending true) ∷ []) (Permission (socket_ip peer) (Pending true) ∷ []))
      (single-more (s.grants ++ Channel number peer (Pending true) ∷ []) (ForPermission (socket_ip peer)) tt (Permission (socket_ip peer) (Pending true)) (same_ip-self (socket_ip peer)) others
      (single-more s.grants (ForChannel number peer) tt (Channel number peer (Pending true)) (eq-eqb number number refl) no_channel single));
  asked = λ g h. elim h [
    | inl e ↦ (ForChannel number peer, inl refl, rw e (eq-eqb number number refl))
    | inr (inl e) ↦ (ForPermission (socket_ip peer), inr (inl refl), rw e (same_ip-self (socket_ip peer)))
    | inr (inr no_more) ↦ absurd no_more
  ];
  linked = λ id. (Channel number peer (Pending true), has-right (Channel number peer (Pending true)) s.grants _ (inl refl), refl, eq-eqb number number refl);
}
  where
    unique : (q : Purpose) → Has q (ForChannel number peer ∷ ForPermission (socket_ip peer) ∷ []) → IsUnique q
    unique q (inl e) = subst IsUnique (sym e) tt
    unique q (inr (inl e)) = subst IsUnique (sym e) tt
    unique q (inr (inr no_more)) = absurd no_more

    others : (g : Grant) → Has g (s.grants ++ Channel number peer (Pending true) ∷ []) → is_permission_of (socket_ip peer) g ≡ false
    others g h = elim (has-append g s.grants (Channel number peer (Pending true) ∷ []) h) [ inl old ↦ no_permission g old | inr (inl e) ↦ rw e refl | inr (inr no_more) ↦ absurd no_more ]

module _ (P : State → Type 0) (count slots extras : ℕ) (lag : Lag) (delay now : ℕ) (past : History) (s : State) (k : IsKept count slots extras lag delay now past s.transactions s) (same : P s) (asked : Asks P now s) where
  pub creates : (transport : TransportType) (ip : IpAddr) → P (create_permission_step transport ip now s).1
  creates transport ip = by (find_allocation_to transport ip s) refl
    where
      Is : Result Unit CreatePermissionError × State → Type 0
      Is z = P z.1

      made : State
      made = requested (fresh_id s) (ForPermission ip) now (with_grant (Permission ip (Pending true)) s)

      allocated : (f : Phase) → f ≡ Allocated → P made → Is (cond (not (is_allocated f)) (Err Create.NoAllocation, s) (Ok tt, made))
      allocated f e p = rw e p

      step : (o : Option Progress) → permission_state ip s ≡ o → Room s.grants (family_of_ip ip)
          → Is (cond (is_some o) (Err Create.AlreadyExists, s) (cond (not (is_allocated s.phase)) (Err Create.NoAllocation, s) (Ok tt, made)))
      step None e room =
          allocated s.phase k.phase (asked (ForPermission ip ∷ []) (Permission ip (Pending true) ∷ []) (request_for (with_grant (Permission ip (Pending true)) s) (ForPermission ip) (fresh_id s))
          (one-new s k.single (ForPermission ip) tt (Permission ip (Pending true)) (same_ip-self ip) refl refl (permission-none ip s e) room))
      step (Some progress) e room = same

      by : (o : Option Relay) → find_allocation_to transport ip s ≡ o → Is (in_allocation o ip now Create.NoAllocation s (permission_step ip now s))
      by None e = same
      by (Some a) e =
          let early = found-early count slots extras lag delay now past s k transport ip a e in
          let room = allocation-room transport ip s (rw e refl) in
          rw early (step (permission_state ip s) refl room)

  pub binds : (transport : TransportType) (peer : SocketAddr) → P (bind_channel_step transport peer now s).1
  binds transport peer = by (find_allocation_to transport (socket_ip peer) s) refl
    where
      Is : Result Unit BindChannelError × State → Type 0
      Is z = P z.1

      text : ℕ → List ℕ
      text number = request_for s (ForChannel number peer) (fresh_id s)

      missing : Option Progress → List IpAddr
      missing o = cond (is_none o) (socket_ip peer ∷ []) []

      bound_made : (number : ℕ) → free_number s ≡ Some number → Room s.grants (family_of peer) → P (bind_channel number peer now s)
      bound_made number free room = made (permission_state (socket_ip peer) s) refl
        where
          none : (g : Grant) → Has g s.grants → is_channel_of number g ≡ false
          none g there = test (is_channel_of number g) refl
            where
              test : (b : Bool) → is_channel_of number g ≡ b → is_channel_of number g ≡ false
              test false e = e
              test true e =
                  let found = (has-found (λ (n : ℕ). not (is_number_taken n s)) number channel_numbers free).1 in
                  let taken = has-any (is_channel_of number) g s.grants there e in
                  let no : false ≡ true = sym (not-true (is_number_taken number s) found) ∙ taken in
                  cc

          made : (o : Option Progress) → permission_state (socket_ip peer) s ≡ o → P (bind_channel number peer now s)
          made None e =
              let ips : missing_permission peer s ≡ socket_ip peer ∷ [] = rw e refl in
              rw ips (asked (ForChannel number peer ∷ ForPermission (socket_ip peer) ∷ []) (Channel number peer (Pending true) ∷ Permission (socket_ip peer) (Pending true) ∷ [])
              (request_for s (ForChannel number peer) (fresh_id s))
              (both-new s k.single number peer none (permission-none (socket_ip peer) s e) room))
          made (Some progress) e =
              let ips : missing_permission peer s ≡ [] = rw e refl in
              rw ips (asked (ForChannel number peer ∷ []) (Channel number peer (Pending true) ∷ []) (request_for s (ForChannel number peer) (fresh_id s))
              (one-new s k.single (ForChannel number peer) tt (Channel number peer (Pending true)) (eq-eqb number number refl) refl refl none room))

      step_by : (xs : List ℕ) (f : Phase) (o : Option ℕ) → f ≡ Allocated → free_number s ≡ o → Room s.grants (family_of peer) → Is (bound_by peer now s xs (is_allocated f) o)
      step_by (until ∷ xs) f o e free room = same
      step_by [] f None e free room = rw e same
      step_by [] f (Some number) e free room = rw e (bound_made number free room)

      step : (b : Bool) → Room s.grants (family_of peer) → Is (cond b (Err Bind.AlreadyExists, s)
          (bound_by peer now s (filter_map (reserved_from now) (channels_to peer s)) (is_allocated s.phase) (free_number s)))
      step true room = same
      step false room = step_by (filter_map (reserved_from now) (channels_to peer s)) s.phase (free_number s) k.phase refl room

      by : (o : Option Relay) → find_allocation_to transport (socket_ip peer) s ≡ o → Is (in_allocation o (socket_ip peer) now Bind.NoAllocation s (channel_step peer now s))
      by None e = same
      by (Some a) e =
          let early = found-early count slots extras lag delay now past s k transport (socket_ip peer) a e in
          let room = allocation-room transport (socket_ip peer) s (rw e refl) in
          rw early (step (list_any is_in_progress (channels_to peer s)) room)
