-- Before the earliest expiry, time changes nothing.
use Rattle.std.proofs.Common.{◌≡◌, ℕ, ◌<◌, ◌+◌, Bool, true, false, ◌&&◌, ◌||◌, not, leb, ltb, List, [], ◌∷◌, ◌++◌, map, filter, filter_map, fold, reverse, Some, None, refl, ap, ◌∙◌, inl, inr}
use Rattle.std.proofs.Common.{arith}
use Rattle.std.specs.Prelude.{All}
use Rattle.std.specs.List.{list_any}
use Rattle.std.proofs.lemmas.List.{append-nil}
use Rattle.std.proofs.lemmas.Bool.{leb-true, ltb-true, false_from_ne_true}
use Rattle.turn_types.specs.declared.family.AddressFamily.{AddressFamily}
use Rattle.turn_client_api.specs.State.{State}
use Rattle.turn_client_api.specs.declared.grant.Grant.{Grant}
use Rattle.turn_client_api.specs.declared.grant.Grant.TheVariants.{Allocation, Permission, Channel, Connection}
use Rattle.turn_client_api.specs.declared.grant.DataConnection.{DataConnection}
use Rattle.turn_client_api.specs.declared.grant.Relay.{Relay}
use Rattle.turn_client_api.specs.declared.grant.Progress.TheVariants.{Active, Reserved}
use Rattle.turn_client_api.specs.declared.grant.Purpose.{Purpose}
use Rattle.turn_client_api.specs.Grants.{allocations, as_connection, failures_among, family_of, has_request, is_connect, is_for, is_of, is_past, is_pending_channel, is_pending_permission, failure_of}
use Rattle.turn_client_api.specs.Grants.{unlisted, without_grants}
use Rattle.turn_client_api.specs.Poll.{failed, allocation_expires, failed_by_timeout, is_expired_channel, is_expired_permission, is_over, is_unbound, expired_at, expired_allocation, expired_in}
use Rattle.turn_client_api.specs.Poll.{last_channel_expired, unbound}
use Rattle.turn_client_api.specs.Due.{expiry_time, expiry_times, final_expiry}
use Rattle.turn_client_api.specs.declared.event.TurnEvent.{TurnEvent}
use Rattle.turn_client_api.proofs.HasLemmas.{Has, filter-none, filter_map-has, find-none, has-all, cases_Option, has-unreversed}
use Rattle.turn_client_api.proofs.ExpirySteps.{expired_in-does}
use Rattle.turn_client_api.proofs.AllocationLemmas.{allocation-there}

-- none of these passes the test
abbrev PassesNone : (Grant → Bool) → List Grant → Type 0
PassesNone which gs = (g : Grant) → Has g gs → which g ≡ false

-- ---- if nothing passes, nothing changes

filter-all : {X : Type 0} (p : X → Bool) (xs : List X) → ((x : X) → Has x xs → p x ≡ true) → filter p xs ≡ xs
filter-all p [] each = refl
filter-all p (x ∷ xs) each = rw (each x (inl refl)) (ap (λ ys. x ∷ ys) (filter-all p xs (λ y h. each y (inr h))))

any-none : (which : Grant → Bool) (purpose : Purpose) (gs : List Grant) → PassesNone which gs → list_any (λ g. which g && is_for purpose g) gs ≡ false
any-none which purpose [] none = refl
any-none which purpose (g ∷ gs) none = rw (none g (inl refl)) (any-none which purpose gs (λ x h. none x (inr h)))

unlisted-none : (which : Grant → Bool) (s : State) → PassesNone which s.grants → unlisted which s ≡ s
unlisted-none which s none = ap (λ ls. record s { listed = ls }) (filter-all _ s.listed (λ l h. rw (any-none which l.purpose s.grants none) refl))

without-none : (which : Grant → Bool) (s : State) → PassesNone which s.grants → without_grants which s ≡ s
without-none which s none =
    ap (λ gs. record (unlisted which s) { grants = gs }) (filter-all _ s.grants (λ g h. rw (none g h) refl))
    ∙ unlisted-none which s none

-- no failure is reported
none-among : (which : Grant → Bool) (s : State) → PassesNone which s.grants → failures_among which s ≡ []
none-among which s none = ap (filter_map (failure_of s.config.allocation_transport)) (filter-none which s.grants none)

failed-none : (which : Grant → Bool) (s : State) → PassesNone which s.grants → failed which s ≡ s
failed-none which s none =
    ap (λ (es : List TurnEvent). record (without_grants which s) { events = reverse es ++ s.events }) (none-among which s none)
    ∙ without-none which s none

unbound-none : (which : Grant → Bool) (s : State) → PassesNone which s.grants → unbound which s ≡ s
unbound-none which s none =
    ap (λ (gs : List Grant). record (failed which s) { closes = s.closes ++ map (λ (c : DataConnection). c.local) (filter_map as_connection gs) }) (filter-none which s.grants none)
    ∙ (ap (λ ls. record (failed which s) { closes = ls }) (append-nil s.closes)
    ∙ failed-none which s none)

-- ---- in sequence

fold-rest : {X : Type 0} (f : State → X → State) (xs : List X) (s : State) → ((x : X) → Has x xs → f s x ≡ s) → fold f s xs ≡ s
fold-rest f [] s each = refl
fold-rest f (x ∷ xs) s each = ap (λ t. fold f t xs) (each x (inl refl)) ∙ fold-rest f xs s (λ y h. each y (inr h))

-- ---- before a grant expires

-- the grant does not expire by now
abbrev IsEarly : ℕ → State → Grant → Type 0
IsEarly now s g = (time : ℕ) → expiry_time s g ≡ Some time → now < time

late-le : (a b : ℕ) → b < a → leb a b ≡ false
late-le a b less = false_from_ne_true (leb a b) (λ e. let le = leb-true a b e in omega (arith, le, less))

late-lt : (a b : ℕ) → b < a + 1 → ltb a b ≡ false
late-lt a b less = false_from_ne_true (ltb a b) (λ e. let lt = ltb-true a b e in omega (arith, lt, less))

early-permission : (now : ℕ) (s : State) (g : Grant) → IsEarly now s g → is_expired_permission now g ≡ false
early-permission now s (Permission ip (Active lease)) early = late-le lease.expiry now (early lease.expiry refl)
early-permission now s g early = refl

early-channel : (now : ℕ) (s : State) (g : Grant) → IsEarly now s g → is_expired_channel now g ≡ false
early-channel now s (Channel number peer (Active lease)) early = late-le lease.expiry now (early lease.expiry refl)
early-channel now s g early = refl

early-over : (now : ℕ) (s : State) (g : Grant) → IsEarly now s g → is_over now g ≡ false
early-over now s (Channel number peer (Reserved until)) early = late-lt until now (early (until + 1) refl)
early-over now s g early = refl

early-unbound : (now : ℕ) (s : State) (g : Grant) → IsEarly now s g → is_unbound [] now g ≡ false
early-unbound now s (Connection c) early = elim (cases_Option c.deadline) [
  | inl e ↦ rw e refl
  | inr (deadline, e) ↦ rw (e, late-le deadline now (early deadline e)) refl
]
early-unbound now s g early = refl

and-false : (a b : Bool) → (a && b && false) ≡ false
and-false true true = refl
and-false a b = refl

and_then-false : (a b : Bool) → b ≡ false → (a && b) ≡ false
and_then-false true b e = e
and_then-false false b e = refl

-- an expired allocation with a pending request stays, at most up to its final expiry, and else one whose expiry has not passed
stays-by : (past expired asked timed over : Bool) → ((expired && asked) ≡ true → timed ≡ true → over ≡ false) → ((expired && asked) ≡ false → past ≡ false)
    → (past && (false || not asked || not expired || over && timed)) ≡ false
stays-by past true true true over final early = rw (final refl refl) (and_then-false past false refl)
stays-by past true true false over final early = and_then-false past (over && false) (and_then-false over false refl)
stays-by past expired asked timed over final early = rw (early refl) refl

early-stays : (now : ℕ) (s : State) (a : Relay) → IsEarly now s (Allocation a) → allocation_expires [] now s a ≡ false
early-stays now s a early =
    stays-by (is_past now a) a.is_expired (has_request (Allocation a) s) s.config.timed_from_send (leb (final_expiry a) now)
    (λ e timed. late-le (final_expiry a) now (early (final_expiry a) (rw (e, timed) refl)))
    (λ e. late-le a.expiry now (early a.expiry (rw e refl)))

-- ---- nothing timed out

vain-none : (family : AddressFamily) (which : Grant → Bool) (s : State) → failed_by_timeout family [] which s ≡ s
vain-none family which s = failed-none _ s (λ g h. and-false (is_of family g) (which g))

module _ (now : ℕ) (s : State) (early : (g : Grant) → Has g s.grants → IsEarly now s g) (family : AddressFamily) where
  channel-none : last_channel_expired family now s ≡ s
  channel-none =
      rw (find-none (λ g. is_of family g && is_expired_channel now g) (reverse s.grants) (λ g h. and_then-false (is_of family g) _ (early-channel now s g (early g (has-unreversed g s.grants h)))))
      refl

  expired_in-none : expired_in family None [] now s ≡ s
  expired_in-none = expired_in-does (λ t u. t ≡ s → u ≡ s) family None [] now (record {
    trans = λ t u v first later e. later (first e);
    channels = λ t e. rw e (vain-none family is_pending_channel s);
    permissions = λ t e. rw e (vain-none family is_pending_permission s);
    last_channel = λ t e. rw e channel-none;
    expired_permissions = λ t e. rw e (failed-none _ s (λ g h. and_then-false (is_of family g) _ (early-permission now s g (early g h))));
    connects = λ t e. rw e (vain-none family is_connect s);
    connections = λ t e. rw e (unbound-none _ s (λ g h. and_then-false (is_of family g) _ (early-unbound now s g (early g h))));
    offers = λ t e. rw e (failed-none _ s (λ g h. and_then-false (is_of family g) false refl));
    refreshes = λ t e. rw e (unlisted-none _ s (λ g h. and_then-false (is_of family g) false refl));
    frees = λ t e. rw e (without-none _ s (λ g h. and_then-false (is_of family g) _ (early-over now s g (early g h))));
  }) s refl

pub expired_at-none : (now : ℕ) (s : State) → All (λ time. now < time) (expiry_times s) → expired_at None now s ≡ s
expired_at-none now s all = fold-rest (expired_allocation None [] now) (allocations s) s by
  where
    early : (g : Grant) → Has g s.grants → IsEarly now s g
    early g h time e = has-all (λ m. now < m) time (expiry_times s) all (filter_map-has (expiry_time s) g time s.grants h e)

    by : (a : Relay) → Has a (allocations s) → expired_allocation None [] now s a ≡ s
    by a h = rw (early-stays now s a (early (Allocation a) (allocation-there a s.grants h))) (expired_in-none now s early (family_of a.relayed))
