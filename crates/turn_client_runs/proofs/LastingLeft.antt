-- What expires while no grant is lost: permissions and channels that were let go.
use Rattle.turn_client_laws.proofs.Common.{◌≡◌, ◌⊎◌, ℕ, ◌+◌, ◌<◌, ◌≤◌, Bool, true, false, not, ◌&&◌, ◌||◌, List, [], ◌∷◌, ◌++◌, length, filter, find, fold, reverse, Option, Some, None, refl, inl, inr}
use Rattle.turn_client_laws.proofs.Common.{ap, sym, subst, ◌∙◌, arith, list_any, SocketAddr, and_from, and_parts, eq-eqb, leb-true, ltb-true, not_from_false, not-true, length-append}
use Rattle.turn_client_laws.proofs.Machine.{AddressFamily, State, Grant, Allocation, Permission, Channel, Connection, Lease, Listing, Active, Reserved, Purpose, ForRefresh, ForPermission, ForChannel}
use Rattle.turn_client_laws.proofs.Machine.{Relay, reserved, allocations, family_of, family_of_grant, is_channel_of, is_connect, is_for, is_of, is_past, is_pending_channel, is_pending_permission}
use Rattle.turn_client_laws.proofs.Machine.{unlisted, without_grants, channel_expired, failed, is_expired_channel, is_expired_permission, is_over, is_timed_out_offer, is_unbound, expired_at}
use Rattle.turn_client_laws.proofs.Machine.{expired_allocation, expired_in, unbound, Has, filter-has, has-filter, has-left, expired_in-does}
use Rattle.turn_client_laws.proofs.Laws.{any-has, has-any, IsReserved, and-false}
use Rattle.turn_client_runs.specs.History.{History, was_let_go}
use Rattle.turn_client_runs.proofs.AppendLemmas.{has-last}
use Rattle.turn_client_runs.proofs.EventTime.{expired_channel-there}
use Rattle.turn_client_runs.proofs.LastingCounts.{length-filtered, length-without, passes, passes-all, passes-append, passes-both, passes-cut, passes-filter, passes-none, passes-same}
use Rattle.turn_client_runs.proofs.LastingListings.{filter-all, requests-left}
use Rattle.turn_client_runs.proofs.LastingStands.{AreRequests, AreSingle, listed_as, IsActive, IsRefreshing, IsUnique, is_waiting, request-more}

-- ---- what one state and a later one have

-- it has expired, or was reserved for long enough
abbrev pub IsGone : ℕ → Grant → Type 0
IsGone now (Permission ip (Active lease)) = lease.expiry ≤ now
IsGone now (Channel number peer (Active lease)) = lease.expiry ≤ now
IsGone now (Channel number peer (Reserved until)) = until < now
IsGone now _ = ⊥

-- a request is listed for it
abbrev pub asked_in : List Listing → Grant → Bool
asked_in ls g = list_any (λ (l : Listing). is_for l.purpose g) ls

-- its request is listed no more
abbrev pub is_lost : List Listing → List Listing → Grant → Bool
is_lost ls ms g = asked_in ls g && not (asked_in ms g)

-- it takes the place of a channel that is gone, and reserves its number
pub record TakesPlace (now : ℕ) (gs : List Grant) (ms : List Listing) (g : Grant) : Type 0 where
  pub was : Grant
  pub there : Has was gs
  pub gone : IsGone now was
  pub is : IsReserved g
  pub let_go : (past : History) → was_let_go past g ≡ was_let_go past was
  pub family : family_of_grant g ≡ family_of_grant was
  pub unasked : asked_in ms g ≡ false

-- it is no data connection
abbrev pub IsPlain : Grant → Type 0
IsPlain g = (is_waiting g ≡ true) ⊎ (IsActive g ⊎ IsReserved g)

-- no grant is for what another one is for, and what is listed is for them
pub record IsTidy (gs : List Grant) (ls : List Listing) : Type 0 where
  pub refreshing : (l : Listing) → Has l ls → IsRefreshing l.purpose
  pub single : AreSingle gs
  pub linked : AreRequests gs ls
  pub plain : (g : Grant) → Has g gs → IsPlain g

-- Nothing but what is gone is removed, and no request but those for it. Whatever was served is so, or was lost.
pub record ExpiresInto (now : ℕ) (gs : List Grant) (ls : List Listing) (hs : List Grant) (ms : List Listing) : Type 0 where
  pub stays : (g : Grant) → Has g gs → (IsGone now g → ⊥) → Has g hs
  pub came : (g : Grant) → Has g hs → Has g gs ⊎ TakesPlace now gs ms g
  pub listed : (l : Listing) → Has l ms → Has l ls
  pub remains : (l : Listing) → Has l ls → (g : Grant) → Has g gs → is_for l.purpose g ≡ true → (IsGone now g → ⊥) → Has l ms
  pub held : (l : Listing) → Has l ms → (g : Grant) → Has g gs → is_for l.purpose g ≡ true → Has g hs
  pub size : length hs ≤ length gs
  pub fewer : (test : Grant → Bool) → ((g : Grant) → test g ≡ true → asked_in ms g ≡ true) → passes test hs ≤ passes test gs
  pub serves : (a b : Grant → Bool) → ((g : Grant) → IsGone now g → (a g ≡ false) × (b g ≡ false))
      → passes (λ g. a g || (asked_in ls g || b g)) gs ≤ passes (λ g. a g || (asked_in ms g || b g)) hs + passes (is_lost ls ms) gs

-- ---- one after the other

asked-less : (ls ms : List Listing) → ((l : Listing) → Has l ms → Has l ls) → (g : Grant) → asked_in ms g ≡ true → asked_in ls g ≡ true
asked-less ls ms less g e = let (l, there, for) = any-has (λ (l : Listing). is_for l.purpose g) ms e in has-any (λ (l : Listing). is_for l.purpose g) l ls (less l there) for

pub unasked-less : (ls ms : List Listing) → ((l : Listing) → Has l ms → Has l ls) → (g : Grant) → asked_in ls g ≡ false → asked_in ms g ≡ false
unasked-less ls ms less g none = by (asked_in ms g) refl
  where
    by : (b : Bool) → asked_in ms g ≡ b → asked_in ms g ≡ false
    by false e = e
    by true e = let no : false ≡ true = sym none ∙ asked-less ls ms less g e in cc

expires-self : (now : ℕ) (gs : List Grant) (ls : List Listing) → ExpiresInto now gs ls gs ls
expires-self now gs ls = record {
  stays = λ g there not. there;
  came = λ g there. inl there;
  listed = λ l there. there;
  remains = λ l there g here for not. there;
  held = λ l there g here for. here;
  size = omega arith;
  fewer = λ test asked. omega arith;
  serves = λ a b gone. omega arith;
}

expires-trans : (now : ℕ) (gs hs us : List Grant) (ls ms ns : List Listing) → ExpiresInto now gs ls hs ms → ExpiresInto now hs ms us ns → ExpiresInto now gs ls us ns
expires-trans now gs hs us ls ms ns first second = record {
  stays = λ g there not. second.stays g (first.stays g there not) not;
  came = λ g there. elim (second.came g there) [
    | inl old ↦ elim (first.came g old) [
      | inl older ↦ inl older
      | inr takes ↦ inr (record {
        was = takes.was;
        there = takes.there;
        gone = takes.gone;
        is = takes.is;
        let_go = takes.let_go;
        family = takes.family;
        unasked = unasked-less ms ns second.listed g takes.unasked;
      })
    ]
    | inr takes ↦ elim (first.came takes.was takes.there) [
      | inl older ↦ inr (record { was = takes.was; there = older; gone = takes.gone; is = takes.is; let_go = takes.let_go; family = takes.family; unasked = takes.unasked })
      | inr before ↦ inr (record {
        was = before.was;
        there = before.there;
        gone = before.gone;
        is = takes.is;
        let_go = λ past. takes.let_go past ∙ before.let_go past;
        family = takes.family ∙ before.family;
        unasked = takes.unasked;
      })
    ]
  ];
  listed = λ l there. first.listed l (second.listed l there);
  remains = λ l there g here for not. second.remains l (first.remains l there g here for not) g (first.stays g here not) for not;
  held = λ l there g here for. second.held l there g (first.held l (second.listed l there) g here for) for;
  size = let a = first.size in let b = second.size in omega (arith, a, b);
  fewer = λ test asked.
      let a = second.fewer test asked in
      let b = first.fewer test (λ g e. asked-less ms ns second.listed g (asked g e)) in
      omega (arith, a, b);
  serves = λ a b gone.
      let one = first.serves a b gone in
      let two = second.serves a b gone in
      let less = first.fewer (is_lost ms ns) (λ g e. (and_parts (asked_in ms g) (not (asked_in ns g)) e).0) in
      let both = passes-both (is_lost ls ms) (is_lost ms ns) (is_lost ls ns) gs then before in
      omega (arith, one, two, less, both);
}
  where
    before : (g : Grant) → is_lost ms ns g ≡ true → is_lost ls ns g ≡ true
    before g e = let (was, not) = and_parts (asked_in ms g) _ e in and_from (asked_in ls g) _ (asked-less ls ms first.listed g was) not

    then : (g : Grant) → is_lost ls ms g ≡ true → (is_lost ms ns g ≡ false) × (is_lost ls ns g ≡ true)
    then g e =
        let (was, not) = and_parts (asked_in ls g) _ e in
        let none = not-true (asked_in ms g) not in
        let never = unasked-less ms ns second.listed g none in
        (rw none refl, rw (was, never) refl)

-- ---- what is gone is removed

-- it is for a permission or a channel
gone-unique : (now : ℕ) (p : Purpose) (g : Grant) → IsRefreshing p → is_for p g ≡ true → IsGone now g → IsUnique p
gone-unique now (ForRefresh family lifetime) (Allocation a) r e gone = gone
gone-unique now (ForRefresh family lifetime) g r e gone = cc
gone-unique now (ForPermission ip) g r e gone = tt
gone-unique now (ForChannel number peer) g r e gone = tt
gone-unique now p g r e gone = absurd r

-- it was listed for one of these
abbrev is_dropped : (Grant → Bool) → List Grant → Listing → Bool
is_dropped which gs l = list_any (λ g. which g && is_for l.purpose g) gs

module _ (now : ℕ) (which : Grant → Bool) (gs : List Grant) (ls : List Listing) (tidy : IsTidy gs ls) (gone : (g : Grant) → Has g gs → which g ≡ true → IsGone now g) where
  abbrev hs : List Grant
  hs = filter (λ g. not (which g)) gs

  abbrev ms : List Listing
  ms = filter (λ l. not (is_dropped which gs l)) ls

  left-in : (g : Grant) → Has g gs → which g ≡ false → Has g hs
  left-in g there e = filter-has (λ (g : Grant). not (which g)) g gs there (not_from_false (which g) e)

  -- a request is dropped with its grant alone
  spared : (l : Listing) → Has l ls → (g : Grant) → Has g gs → is_for l.purpose g ≡ true → which g ≡ false → Has l ms
  spared l there g here for other = filter-has (λ (l : Listing). not (is_dropped which gs l)) l ls there (by (is_dropped which gs l) refl)
    where
      by : (b : Bool) → is_dropped which gs l ≡ b → not (is_dropped which gs l) ≡ true
      by false e = not_from_false (is_dropped which gs l) e
      by true e =
          let (x, among, both) = any-has (λ g. which g && is_for l.purpose g) gs e in
          let (is, also) = and_parts (which x) (is_for l.purpose x) both in
          let unique = gone-unique now l.purpose x (tidy.refreshing l there) also (gone x among is) in
          let same : x ≡ g = passes-same (is_for l.purpose) x g gs (tidy.single l.purpose unique) among here also for in
          let no : false ≡ true = sym other ∙ (ap which (sym same) ∙ is) in
          cc

  -- with its grant a request is dropped
  kept-for : (l : Listing) → Has l ms → (g : Grant) → Has g gs → is_for l.purpose g ≡ true → which g ≡ false
  kept-for l there g here for = by (which g) refl
    where
      by : (b : Bool) → which g ≡ b → which g ≡ false
      by false e = e
      by true e =
          let no : false ≡ true =
          sym (not-true (is_dropped which gs l) (has-filter (λ (l : Listing). not (is_dropped which gs l)) l ls there).1)
          ∙ has-any (λ g. which g && is_for l.purpose g) g gs here (and_from (which g) (is_for l.purpose g) e for) in
          cc

  not-gone : (g : Grant) → Has g gs → (IsGone now g → ⊥) → which g ≡ false
  not-gone g there not = by (which g) refl
    where
      by : (b : Bool) → which g ≡ b → which g ≡ false
      by false e = e
      by true e = absurd (not (gone g there e))

  serves-left : (a b : Grant → Bool) → ((g : Grant) → IsGone now g → (a g ≡ false) × (b g ≡ false))
      → passes (λ g. a g || (asked_in ls g || b g)) gs ≤ passes (λ g. a g || (asked_in ms g || b g)) hs + passes (is_lost ls ms) gs
  serves-left a b none =
      let cut = passes-cut (λ g. a g || (asked_in ls g || b g)) which gs in
      let still = passes-all (λ g. a g || (asked_in ls g || b g)) (λ g. a g || (asked_in ms g || b g)) hs serves-still in
      let lost = passes-all (λ g. (a g || (asked_in ls g || b g)) && which g) (is_lost ls ms) gs is-lost in
      omega (arith, cut, still, lost)
    where
      both : (x y z w : Bool) → (y ≡ true → w ≡ true) → (x || (y || z)) ≡ true → (x || (w || z)) ≡ true
      both true y z w up e = refl
      both false true z w up e = rw (up refl) refl
      both false false true true up e = refl
      both false false true false up e = refl
      both false false false w up e = cc

      serves-still : (g : Grant) → Has g hs → (a g || (asked_in ls g || b g)) ≡ true → (a g || (asked_in ms g || b g)) ≡ true
      serves-still g h =
          let (there, other) = has-filter (λ (g : Grant). not (which g)) g gs h in
          both (a g) (asked_in ls g) (b g) (asked_in ms g) (λ e.
          let (l, listed, for) = any-has (λ (l : Listing). is_for l.purpose g) ls e in
          has-any (λ (l : Listing). is_for l.purpose g) l ms (spared l listed g there for (not-true (which g) other)) for)

      is-lost : (g : Grant) → Has g gs → ((a g || (asked_in ls g || b g)) && which g) ≡ true → is_lost ls ms g ≡ true
      is-lost g there e =
          let (some, is) = and_parts (a g || (asked_in ls g || b g)) (which g) e in
          let (not_a, not_b) = none g (gone g there is) in
          and_from (asked_in ls g) (not (asked_in ms g)) (only (a g) (asked_in ls g) (b g) not_a not_b some) (not_from_false (asked_in ms g) (dropped is (asked_in ms g) refl))
        where
          only : (x y z : Bool) → x ≡ false → z ≡ false → (x || (y || z)) ≡ true → y ≡ true
          only true y z e f h = cc
          only false true z e f h = refl
          only false false true e f h = cc
          only false false false e f h = cc

          dropped : which g ≡ true → (c : Bool) → asked_in ms g ≡ c → asked_in ms g ≡ false
          dropped is false f = f
          dropped is true f =
              let (l, listed, for) = any-has (λ (l : Listing). is_for l.purpose g) ms f in
              let no : false ≡ true = sym (kept-for l listed g there for) ∙ is in
              cc

  pub left-expires : ExpiresInto now gs ls hs ms
  left-expires = record {
    stays = λ g there not. left-in g there (not-gone g there not);
    came = λ g h. inl (has-filter (λ (g : Grant). not (which g)) g gs h).0;
    listed = λ l h. (has-filter (λ (l : Listing). not (is_dropped which gs l)) l ls h).0;
    remains = λ l there g here for not. spared l there g here for (not-gone g here not);
    held = λ l there g here for. left-in g here (kept-for l there g here for);
    size = length-filtered (λ g. not (which g)) gs;
    fewer = λ test asked. passes-filter test (λ g. not (which g)) gs;
    serves = serves-left;
  }

  pub left-tidy : IsTidy hs ms
  left-tidy = record {
    refreshing = λ l h. tidy.refreshing l (has-filter (λ (l : Listing). not (is_dropped which gs l)) l ls h).0;
    single = λ p unique. let few = tidy.single p unique in omega (arith, few, passes-filter (is_for p) (λ g. not (which g)) gs);
    linked = requests-left gs hs (is_dropped which gs) ls
        (λ l there e g here for. left-in g here (kept-for l (filter-has (λ (l : Listing). not (is_dropped which gs l)) l ls there (not_from_false (is_dropped which gs l) e)) g here for)) tidy.linked;
    plain = λ g h. tidy.plain g (has-filter (λ (g : Grant). not (which g)) g gs h).0;
  }

  -- a channel among them is reserved
  module _ (number until : ℕ) (peer : SocketAddr) (lease : Lease) (there : Has (Channel number peer (Active lease)) gs) (is : which (Channel number peer (Active lease)) ≡ true) where
    abbrev was : Grant
    was = Channel number peer (Active lease)

    abbrev new : Grant
    new = Channel number peer (Reserved until)

    for-both : (p : Purpose) → is_for p new ≡ is_for p was
    for-both p = grind arith

    unasked-new : asked_in ms new ≡ false
    unasked-new = by (asked_in ms new) refl
      where
        by : (b : Bool) → asked_in ms new ≡ b → asked_in ms new ≡ false
        by false e = e
        by true e =
            let (l, listed, for) = any-has (λ (l : Listing). is_for l.purpose new) ms e in
            let no : false ≡ true = sym (kept-for l listed was there (sym (for-both l.purpose) ∙ for)) ∙ is in
            cc

    takes : TakesPlace now gs ms new
    takes = record { was = was; there = there; gone = gone was there is; is = tt; let_go = λ past. refl; family = refl; unasked = unasked-new }

    fewer-new : (test : Grant → Bool) → test new ≡ false → passes test (hs ++ new ∷ []) ≤ passes test hs
    fewer-new test none =
        let more = passes-append test hs (new ∷ []) in
        let last : passes test (new ∷ []) ≡ 0 = rw none refl in
        omega (arith, more, last)

    pub reserved-expires : ExpiresInto now gs ls (hs ++ new ∷ []) ms
    reserved-expires = record {
      stays = λ g there not. has-left g hs (new ∷ []) (left-expires.stays g there not);
      came = λ g h. elim (has-last g hs new h) [
        | inl old ↦ left-expires.came g old
        | inr e ↦ inr (subst (TakesPlace now gs ms) (sym e) takes)
      ];
      listed = left-expires.listed;
      remains = left-expires.remains;
      held = λ l there g here for. has-left g hs (new ∷ []) (left-expires.held l there g here for);
      size = let one = length-without which was gs there is in let len = length-append hs (new ∷ []) in omega (arith, one, len);
      fewer = λ test asked.
          let none = no-test (test new) refl (λ e. asked new e) in
          let a = left-expires.fewer test asked in
          omega (arith, a, fewer-new test none);
      serves = λ a b none.
          let c = left-expires.serves a b none in
          let more = passes-append (λ g. a g || (asked_in ms g || b g)) hs (new ∷ []) in
          omega (arith, c, more);
    }
      where
        no-test : {b : Bool} (c : Bool) → b ≡ c → (c ≡ true → asked_in ms new ≡ true) → b ≡ false
        no-test false e asked = e
        no-test true e asked = let no : false ≡ true = sym unasked-new ∙ asked refl in cc

    pub reserved-tidy : IsTidy (hs ++ new ∷ []) ms
    reserved-tidy = record {
      refreshing = left-tidy.refreshing;
      single = single-new;
      linked = λ id. request-more hs (hs ++ new ∷ []) (listed_as id ms) (λ g h. has-left g hs (new ∷ []) h) (left-tidy.linked id);
      plain = λ g h. elim (has-last g hs new h) [ inl old ↦ left-tidy.plain g old | inr e ↦ rw e (inr (inr tt)) ];
    }
      where
        single-new : AreSingle (hs ++ new ∷ [])
        single-new p unique = by (is_for p new) refl
          where
            more : passes (is_for p) (hs ++ new ∷ []) ≡ passes (is_for p) hs + passes (is_for p) (new ∷ [])
            more = passes-append (is_for p) hs (new ∷ [])

            by : (b : Bool) → is_for p new ≡ b → passes (is_for p) (hs ++ new ∷ []) ≤ 1
            by false e =
                let few = left-tidy.single p unique in
                let last : passes (is_for p) (new ∷ []) ≡ 0 = rw e refl in
                omega (arith, more, few, last)
            by true e =
                let none = passes-none (is_for p) hs apart in
                let last : passes (is_for p) (new ∷ []) ≡ 1 = rw e refl in
                omega (arith, more, none, last)
              where
                apart : (g : Grant) → Has g hs → is_for p g ≡ false
                apart g h = test (is_for p g) refl
                  where
                    test : (c : Bool) → is_for p g ≡ c → is_for p g ≡ false
                    test false f = f
                    test true f =
                        let (here, other) = has-filter (λ (g : Grant). not (which g)) g gs h in
                        let same : was ≡ g = passes-same (is_for p) was g gs (tidy.single p unique) there here (sym (for-both p) ∙ e) f in
                        let no : false ≡ true = sym (not-true (which g) other) ∙ (ap which (sym same) ∙ is) in
                        cc

-- ---- what `poll` removes

-- nothing else changes
abbrev pub Alters : State → State → Type 0
Alters s t = t ≡ record s { grants = t.grants; listed = t.listed; events = t.events; closes = t.closes }

module _ (now : ℕ) where
  abbrev pub Passes : State → State → Type 0
  Passes s t = IsTidy s.grants s.listed → Alters s t × (ExpiresInto now s.grants s.listed t.grants t.listed × IsTidy t.grants t.listed)

  passes-self : (s : State) → Passes s s
  passes-self s tidy = (refl, (expires-self now s.grants s.listed, tidy))

  passes-trans : (s t u : State) → Passes s t → Passes t u → Passes s u
  passes-trans s t u first second tidy =
      let (alters, (expires_into, between)) = first tidy in
      let (again, (later, end)) = second between in (
        subst (λ (x : State). u ≡ record x { grants = u.grants; listed = u.listed; events = u.events; closes = u.closes }) alters again,
        (expires-trans now s.grants t.grants u.grants s.listed t.listed u.listed expires_into later, end),
      )

  -- such grants are removed
  failed-passes : (which : Grant → Bool) (s : State) → ((g : Grant) → IsPlain g → which g ≡ true → IsGone now g) → Passes s (failed which s)
  failed-passes which s gone tidy = (
    refl,
    (left-expires now which s.grants s.listed tidy (λ g h e. gone g (tidy.plain g h) e), left-tidy now which s.grants s.listed tidy (λ g h e. gone g (tidy.plain g h) e)),
  )

  freed-passes : (which : Grant → Bool) (s : State) → ((g : Grant) → IsPlain g → which g ≡ true → IsGone now g) → Passes s (without_grants which s)
  freed-passes which s gone tidy = (
    refl,
    (left-expires now which s.grants s.listed tidy (λ g h e. gone g (tidy.plain g h) e), left-tidy now which s.grants s.listed tidy (λ g h e. gone g (tidy.plain g h) e)),
  )

  unbound-passes : (which : Grant → Bool) (s : State) → ((g : Grant) → IsPlain g → which g ≡ true → IsGone now g) → Passes s (unbound which s)
  unbound-passes which s gone tidy = (
    refl,
    (left-expires now which s.grants s.listed tidy (λ g h e. gone g (tidy.plain g h) e), left-tidy now which s.grants s.listed tidy (λ g h e. gone g (tidy.plain g h) e)),
  )

  -- no request is dropped
  unlisted-passes : (which : Grant → Bool) (s : State) → ((g : Grant) → which g ≡ false) → Passes s (unlisted which s)
  unlisted-passes which s none tidy = (refl, subst (λ (ls : List Listing). ExpiresInto now s.grants s.listed s.grants ls × IsTidy s.grants ls) (sym same) (expires-self now s.grants s.listed, tidy))
    where
      no-one : (gs : List Grant) (l : Listing) → list_any (λ g. which g && is_for l.purpose g) gs ≡ false
      no-one [] l = refl
      no-one (g ∷ gs) l = rw (none g) (no-one gs l)

      same : (unlisted which s).listed ≡ s.listed
      same = filter-all (λ (l : Listing). not (list_any (λ g. which g && is_for l.purpose g) s.grants)) s.listed (λ l h. rw (no-one s.grants l) refl)

  -- the channel is reserved, with the number that no other one has
  channel-passes : (o : Option Grant) (s : State) → ((g : Grant) → o ≡ Some g → Has g s.grants × (is_expired_channel now g ≡ true)) → Passes s (channel_expired o s)
  channel-passes (Some (Channel number peer (Active lease))) s found tidy =
      let (there, is) = found (Channel number peer (Active lease)) refl in
      let late : lease.expiry ≤ now = leb-true lease.expiry now is in (
        refl,
        (
          reserved-expires now (is_channel_of number) s.grants s.listed tidy (alone there late) number _ peer lease there (eq-eqb number number refl),
          reserved-tidy now (is_channel_of number) s.grants s.listed tidy (alone there late) number _ peer lease there (eq-eqb number number refl),
        ),
      )
    where
      alone : Has (Channel number peer (Active lease)) s.grants → lease.expiry ≤ now → (g : Grant) → Has g s.grants → is_channel_of number g ≡ true → IsGone now g
      alone there late g here e =
          subst (IsGone now) (passes-same (is_channel_of number) (Channel number peer (Active lease)) g s.grants
          (tidy.single (ForChannel number peer) tt) there here (eq-eqb number number refl) e) late
  channel-passes o s found tidy = passes-self s tidy

  never : (a b : Bool) → (a && b && false) ≡ true → ⊥
  never true true e = let no : false ≡ true = e in cc
  never true false e = let no : false ≡ true = e in cc
  never false b e = let no : false ≡ true = e in cc

  gone-permission : (g : Grant) → is_expired_permission now g ≡ true → IsGone now g
  gone-permission (Permission ip (Active lease)) is = leb-true lease.expiry now is
  gone-permission g is = cc

  gone-over : (g : Grant) → is_over now g ≡ true → IsGone now g
  gone-over (Channel number peer (Reserved until)) is = ltb-true until now is
  gone-over g is = cc

  gone-unbound : (g : Grant) → IsPlain g → is_unbound [] now g ≡ true → IsGone now g
  gone-unbound (Connection c) (inl waits) is = cc
  gone-unbound (Connection c) (inr (inl active)) is = absurd active
  gone-unbound (Connection c) (inr (inr reserved)) is = absurd reserved
  gone-unbound g plain is = cc

  no-offer : (g : Grant) → is_timed_out_offer None g ≡ true → IsGone now g
  no-offer g is = cc

  in-passes : (family : AddressFamily) (s : State) → Passes s (expired_in family None [] now s)
  in-passes family = expired_in-does Passes family None [] now (record {
    trans = passes-trans;
    channels = λ s. failed-passes _ s (λ g plain e. absurd (never (is_of family g) (is_pending_channel g) e));
    permissions = λ s. failed-passes _ s (λ g plain e. absurd (never (is_of family g) (is_pending_permission g) e));
    last_channel = λ s. channel-passes (find (λ g. is_of family g && is_expired_channel now g) (reverse s.grants)) s (expired_channel-there family now s);
    expired_permissions = λ s. failed-passes _ s (λ g plain e. gone-permission g (and_parts (is_of family g) _ e).1);
    connects = λ s. failed-passes _ s (λ g plain e. absurd (never (is_of family g) (is_connect g) e));
    connections = λ s. unbound-passes _ s (λ g plain e. gone-unbound g plain (and_parts (is_of family g) _ e).1);
    offers = λ s. failed-passes _ s (λ g plain e. no-offer g (and_parts (is_of family g) _ e).1);
    refreshes = λ s. unlisted-passes _ s (λ g. and-false (is_of family g));
    frees = λ s. freed-passes _ s (λ g plain e. gone-over g (and_parts (is_of family g) _ e).1);
  })

  -- no allocation has expired
  all-passes : (relays : List Relay) → ((a : Relay) → Has a relays → is_past now a ≡ false) → (s : State) → Passes s (fold (expired_allocation None [] now) s relays)
  all-passes [] early s = passes-self s
  all-passes (a ∷ relays) early s =
      let t = expired_allocation None [] now s a in
      passes-trans s t (fold (expired_allocation None [] now) t relays) (rw (early a (inl refl)) (in-passes (family_of a.relayed) s)) (all-passes relays (λ b h. early b (inr h)) t)

  pub expired_at-passes : (s : State) → ((a : Relay) → Has a (allocations s) → is_past now a ≡ false) → Passes s (expired_at None now s)
  expired_at-passes s early = all-passes (allocations s) early s
