-- A grant is let go, or kept again, while no other one is lost.
use Rattle.turn_client_laws.proofs.Common.{◌≡◌, ◌⊎◌, ℕ, ◌≤◌, Bool, true, false, cond, ◌||◌, List, [], ◌∷◌, refl, inl, inr, ap, sym, subst, ◌∙◌, arith, list_any, or_left, or_right, length-map}
use Rattle.turn_client_laws.proofs.Machine.{AddressFamily, marked, marked_if, with_marks, is_kept, pause_end, family_of_grant, has_request, is_for, State, Grant, Allocation, Channel, Permission}
use Rattle.turn_client_laws.proofs.Machine.{Listing, Active, Pending, Purpose, ForChannel, ForPermission, Has, map-has}
use Rattle.turn_client_laws.proofs.Laws.{has-mapped, Room, room-more, IsReserved}
use Rattle.turn_client_runs.specs.History.{History, was_let_go}
use Rattle.turn_client_runs.specs.Lasting.{ahead_of, expiry_of}
use Rattle.turn_client_runs.proofs.LastingCounts.{or_first, passes-map, passes-mapped}
use Rattle.turn_client_runs.proofs.LastingStands.{kept-changed, Brings, Goes, IsAwaited, IsGranted, IsIdle, IsKept, IsKnown, IsLoose, IsPending, IsRequest, IsWell, Stands, due_of, is_served}
use Rattle.turn_client_runs.proofs.LastingStands.{is_waiting, listed_as, served, still-paced, used, Lag}
use Rattle.turn_client_runs.proofs.GrantInputs.{IsLeased}

-- ---- what a mark does not change

marked-for : (q : Purpose) (b : Bool) (g : Grant) → is_for q (marked b g) ≡ is_for q g
marked-for q b g = grind arith

marked-waits : (b : Bool) (g : Grant) → is_waiting (marked b g) ≡ is_waiting g
marked-waits b g = grind arith

marked-expires : (b : Bool) (g : Grant) → expiry_of (marked b g) ≡ expiry_of g
marked-expires b g = grind arith

marked-ahead : (b : Bool) (ahead : ℕ) (g : Grant) → ahead_of ahead (marked b g) ≡ ahead_of ahead g
marked-ahead b ahead g = grind arith

marked-family : (b : Bool) (g : Grant) → family_of_grant (marked b g) ≡ family_of_grant g
marked-family b g = grind arith

marked-let_go : (past : History) (b : Bool) (g : Grant) → was_let_go past (marked b g) ≡ was_let_go past g
marked-let_go past b g = grind arith

marked-leased : (b : Bool) (g : Grant) → IsLeased g → IsLeased (marked b g)
marked-leased b g h = grind arith

unmarked-leased : (b : Bool) (g : Grant) → IsLeased (marked b g) → IsLeased g
unmarked-leased b g h = grind arith

marked-reserved : (b : Bool) (g : Grant) → IsReserved g → marked b g ≡ g
marked-reserved b g h = grind arith

-- what is kept is not changed if it is to be kept
marked-kept : (g : Grant) → is_kept g ≡ true → marked true g ≡ g
marked-kept (Permission ip (Pending was)) kept = let is : was ≡ true = kept in rw is refl
marked-kept (Permission ip (Active lease)) kept = let is : lease.is_kept ≡ true = kept in ap (λ (b : Bool). Permission ip (Active (record lease { is_kept = b }))) (sym is)
marked-kept (Channel number peer (Pending was)) kept = let is : was ≡ true = kept in rw is refl
marked-kept (Channel number peer (Active lease)) kept = let is : lease.is_kept ≡ true = kept in ap (λ (b : Bool). Channel number peer (Active (record lease { is_kept = b }))) (sym is)
marked-kept g kept = grind arith

granted-kept : (g : Grant) → IsGranted g → is_kept g ≡ true
granted-kept (Allocation a) h = refl
granted-kept (Permission ip (Active lease)) h = h
granted-kept (Channel number peer (Active lease)) h = h
granted-kept g h = absurd h

-- an allocation has no mark, and other grants are leased
marked-granted : (b : Bool) (g : Grant) → IsGranted g → (marked b g ≡ g) ⊎ IsLeased g
marked-granted b (Allocation a) h = inl refl
marked-granted b (Permission ip (Active lease)) h = inr tt
marked-granted b (Channel number peer (Active lease)) h = inr tt
marked-granted b g h = absurd h

-- what waits takes the mark
marked-true : (g : Grant) → is_waiting g ≡ true → is_kept (marked true g) ≡ true
marked-true g h = grind arith

-- ---- the call

module _ (count slots extras : ℕ) (lag : Lag) (delay now : ℕ) (past : History) (s : State) (k : IsKept count slots extras lag delay now past s.transactions s) (which : Grant → Bool) (kept : Bool)
    (let_go : (g : Grant) → which g ≡ true → kept ≡ false → was_let_go past g ≡ true) where
  abbrev t : State
  t = with_marks which kept s

  abbrev mark : Grant → Grant
  mark = marked_if which kept

  -- a mark changes what it is set on
  for-mark : (P : Grant → Type 0) (g : Grant) → P g → (which g ≡ true → P (marked kept g)) → P (mark g)
  for-mark P g same changed = by (which g) refl
    where
      by : (b : Bool) → which g ≡ b → P (cond b (marked kept g) g)
      by true e = changed e
      by false e = same

  mark-for : (q : Purpose) (g : Grant) → is_for q (mark g) ≡ is_for q g
  mark-for q g = for-mark (λ x. is_for q x ≡ is_for q g) g refl (λ e. marked-for q kept g)

  mark-asked : (g : Grant) → has_request (mark g) t ≡ has_request g s
  mark-asked g = by s.listed
    where
      by : (ls : List Listing) → list_any (λ (l : Listing). is_for l.purpose (mark g)) ls ≡ list_any (λ (l : Listing). is_for l.purpose g) ls
      by [] = refl
      by (l ∷ ls) = rw (mark-for l.purpose g, by ls) refl

  mark-waits : (g : Grant) → is_waiting (mark g) ≡ is_waiting g
  mark-waits g = for-mark (λ x. is_waiting x ≡ is_waiting g) g refl (λ e. marked-waits kept g)

  mark-due : (g : Grant) → due_of t (mark g) ≡ due_of s g
  mark-due g = for-mark (λ x. due_of s x ≡ due_of s g) g refl (λ e. rw (marked-expires kept g, marked-ahead kept s.config.refresh_ahead g) refl)

  mark-family : (g : Grant) → family_of_grant (mark g) ≡ family_of_grant g
  mark-family g = for-mark (λ x. family_of_grant x ≡ family_of_grant g) g refl (λ e. marked-family kept g)

  mark-there : (g : Grant) → Has g s.grants → Has (mark g) t.grants
  mark-there g there = map-has mark g s.grants there

  came : (g : Grant) → Has g t.grants → (x : Grant) × Has x s.grants × (g ≡ mark x)
  came g h = has-mapped mark g s.grants h

  -- what is kept stays as it is, if no call let it go
  mark-same : (g : Grant) → is_kept g ≡ true → was_let_go past g ≡ false → mark g ≡ g
  mark-same g is none = for-mark (λ x. x ≡ g) g refl (λ e. by kept refl e)
    where
      by : (b : Bool) → kept ≡ b → which g ≡ true → marked b g ≡ g
      by true f e = marked-kept g is
      by false f e = let no : false ≡ true = sym none ∙ let_go g e f in cc

  serves : (since : ℕ) → served s since ≤ served t since
  serves since = passes-map (is_served s since) (is_served t since) mark s.grants each
    where
      each : (g : Grant) → Has g s.grants → is_served s since g ≡ true → is_served t since (mark g) ≡ true
      each g there e = rw (mark-waits g, mark-asked g, mark-due g) e

  -- the others, and what is kept as before
  stands-marked : (g : Grant) → Stands count slots extras lag delay now past s.transactions s g → Stands count slots extras lag delay now past s.transactions t g
  stands-marked g was = record { granted = was.granted; room = was.room; long = was.long; either = by was.either }
    where
      by : IsAwaited delay past s.transactions s.listed g ⊎ IsIdle slots lag now past s g → IsAwaited delay past s.transactions s.listed g ⊎ IsIdle slots lag now past t g
      by (inl a) = inl a
      by (inr idle) =
          let more : used past s (due_of s g) ≤ used past t (due_of s g) = let h = serves (due_of s g) in omega (arith, h) in
          inr (record {
            unasked = idle.unasked;
            near = idle.near;
            soon = still-paced _ _ lag.since _ _ (due_of s g) (due_of s g) slots _ _ refl refl refl more idle.soon;
            paused = still-paced _ _ (pause_end s) _ _ (due_of s g) (due_of s g) slots _ _ refl refl refl more idle.paused;
          })

  pending-marked : (until : ℕ) (g : Grant) → IsPending until past s.transactions s.listed g → IsPending until past s.transactions s.listed (mark g)
  pending-marked until g p = record {
    transaction = p.transaction;
    there = p.there;
    listing = p.listing;
    within = p.within;
    for = mark-for p.listing.purpose g ∙ p.for;
    same = p.same;
    made = p.made;
  }

  loose-marked : (g : Grant) → IsLoose past s g → IsLoose past t (mark g)
  loose-marked g (inl (freed, leased)) =
      inl (for-mark (λ x. was_let_go past x ≡ true) g freed (λ e. marked-let_go past kept g ∙ freed), for-mark IsLeased g leased (λ e. marked-leased kept g leased))
  loose-marked g (inr (is, none)) = inr (for-mark IsReserved g is (λ e. subst IsReserved (sym (marked-reserved kept g is)) is), mark-asked g ∙ none)

  well-marked : (g : Grant) → Has g s.grants → IsWell count slots extras lag delay now past s.transactions t (mark g)
  well-marked g there = elim (k.each g there) [
    | inl (waits, pending) ↦ inl (mark-waits g ∙ waits, pending-marked now g pending)
    | inr (inl stands) ↦ inr (for-mark (λ x. Stands count slots extras lag delay now past s.transactions t x ⊎ IsLoose past t x) g (inl (stands-marked g stands)) (λ e. by stands kept refl e))
    | inr (inr loose) ↦ inr (inr (loose-marked g loose))
  ]
    where
      same : Stands count slots extras lag delay now past s.transactions s g → (b : Bool) → marked b g ≡ g
          → Stands count slots extras lag delay now past s.transactions t (marked b g) ⊎ IsLoose past t (marked b g)
      same stands b e = inl (subst (Stands count slots extras lag delay now past s.transactions t) (sym e) (stands-marked g stands))

      by : Stands count slots extras lag delay now past s.transactions s g → (b : Bool) → kept ≡ b → which g ≡ true
          → Stands count slots extras lag delay now past s.transactions t (marked b g) ⊎ IsLoose past t (marked b g)
      by stands true f e = same stands true (marked-kept g (granted-kept g stands.granted))
      by stands false f e = elim (marked-granted false g stands.granted) [
        | inl is ↦ same stands false is
        | inr leased ↦ inr (inl (marked-let_go past false g ∙ let_go g e f, marked-leased false g leased))
      ]

  known-marked : (g : Grant) → Has g s.grants → IsKnown now past t (mark g)
  known-marked g there = (
    λ w. for-mark (λ x. (is_kept x || was_let_go past x) ≡ true) g (was.0 (sym (mark-waits g) ∙ w)) (λ e. by (sym (mark-waits g) ∙ w) kept refl e),
    λ leased asked.
        let due = was.1 (for-unmarked leased) (sym (mark-asked g) ∙ asked) in
        let same = mark-due g in
        omega (arith, due, same),
  )
    where
      was : IsKnown now past s g
      was = k.known g there

      for-unmarked : IsLeased (mark g) → IsLeased g
      for-unmarked leased = test (which g) leased
        where
          test : (b : Bool) → IsLeased (cond b (marked kept g) g) → IsLeased g
          test true h = unmarked-leased kept g h
          test false h = h

      by : is_waiting g ≡ true → (b : Bool) → kept ≡ b → which g ≡ true → (is_kept (marked b g) || was_let_go past (marked b g)) ≡ true
      by waits true f e = or_left (is_kept (marked true g)) _ (marked-true g waits)
      by waits false f e = or_right (is_kept (marked false g)) _ (marked-let_go past false g ∙ let_go g e f)

  pub kept-marked : IsKept count slots extras lag delay now past s.transactions (with_marks which kept s)
  kept-marked = kept-changed count slots extras lag delay now past past s.transactions s.transactions s (λ x h. refl) k.seldom k t.grants s.listed s.events s.challenges s.ids s.closes (record {
    row = k.row;
    asked = λ l h. let (refreshes, (g, there, for)) = k.asked l h in (refreshes, (mark g, mark-there g there, mark-for l.purpose g ∙ for));
    size = let same = length-map s.grants mark in let size = k.size in omega (arith, same, size);
    single = λ q unique.
        let few = k.single q unique in
        omega (arith, few, passes-mapped (is_for q) (is_for q) mark s.grants (λ g there e. sym (mark-for q g) ∙ e));
    linked = λ id. linked-marked (listed_as id s.listed) (k.linked id);
    in_allocations = λ g h. let (x, there, e) = came g h in subst (λ (y : Grant). Room t.grants (family_of_grant y)) (sym e) (rw (mark-family x) (room (family_of_grant x) (k.in_allocations x there)));
    known = λ g h. let (x, there, e) = came g h in subst (IsKnown now past t) (sym e) (known-marked x there);
    each = λ g h. let (x, there, e) = came g h in subst (IsWell count slots extras lag delay now past s.transactions t) (sym e) (well-marked x there);
  })
    where
      room : (family : AddressFamily) → Room s.grants family → Room t.grants family
      room = room-more s.grants t.grants (λ a there. subst (λ (x : Grant). Has x t.grants) (for-mark (λ x. x ≡ Allocation a) (Allocation a) refl (λ e. refl)) (mark-there (Allocation a) there))

      brings : (p q : Purpose) → Brings s.grants p q → Brings t.grants p q
      brings (ForChannel number peer) (ForPermission ip) (g, there, waits, for) =
          (mark g, mark-there g there, mark-waits g ∙ waits, mark-for (ForChannel number peer) g ∙ for)
      brings p q h = grind arith

      linked-marked : (ls : List Listing) → IsRequest s.grants ls → IsRequest t.grants ls
      linked-marked [] h = tt
      linked-marked (l ∷ []) h = tt
      linked-marked (l ∷ m ∷ []) h = brings l.purpose m.purpose h
      linked-marked (l ∷ m ∷ n ∷ ls) h = absurd h

  pub goes-marked : Goes past past s.transactions s.transactions s (with_marks which kept s)
  goes-marked = record {
    let_go = λ g e. e;
    remain = λ g there granted none. (g, stays g there (granted-kept g granted) none, refl, granted);
    follow = λ until g there waits pending none. inl (stays g there (or_first (is_kept g) (was_let_go past g) none ((k.known g there).0 waits)) none, pending);
  }
    where
      stays : (g : Grant) → Has g s.grants → is_kept g ≡ true → was_let_go past g ≡ false → Has g t.grants
      stays g there is none = subst (λ (x : Grant). Has x t.grants) (mark-same g is none) (mark-there g there)
