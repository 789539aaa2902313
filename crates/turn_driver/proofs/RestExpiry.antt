-- What time changes in a client, apart from what timed out: there are fewer grants, or all stays but what is reported.
use Rattle.turn_client_laws.proofs.Common.{◌≡◌, ◌∙◌, ℕ, ◌+◌, ◌<◌, Bool, true, false, cond, not, ◌&&◌, ◌||◌, List, [], ◌∷◌, Option, Some, ◌⊎◌, ap, arith, filter, inl, inr, length, refl, find, reverse}
use Rattle.turn_client_laws.proofs.Common.{eq-eqb, append-nil, SocketAddr, list_any, and_right}
use Rattle.turn_client_laws.proofs.Machine.{AddressFamily, reserved_time, allocations, is_channel_of, is_of, without_grants, channel_expired, failed, is_expired_channel, expired_at, expired_in}
use Rattle.turn_client_laws.proofs.Machine.{timed_out_purposes, unbound, State, later_by, Grant, Channel, Active, Reserved, Purpose, Has, has-found, has-unreversed, expired_in-does, is_for}
use Rattle.turn_client_laws.proofs.Machine.{is_for_any, refreshes_timed_out, TurnEvent, Listing}
use Rattle.turn_client_laws.proofs.Laws.{all-expire}
use Rattle.turn_driver.proofs.RestWeights.{IsParted, load, load-append, parted, removed-load}

-- ---- what stays

-- all but the grants, the events and the connections to close stays
pub record Stands (s t : State) : Type 0 where
  pub config : t.config ≡ s.config
  pub transport : t.transport ≡ s.transport
  pub last_send : t.last_send ≡ s.last_send
  pub streams : t.streams ≡ s.streams
  pub transactions : t.transactions ≡ s.transactions
  pub queue : t.queue ≡ s.queue

pub stands-self : (s : State) → Stands s s
stands-self s = record { config = refl; transport = refl; last_send = refl; streams = refl; transactions = refl; queue = refl }

stands-trans : (s t u : State) → Stands s t → Stands t u → Stands s u
stands-trans s t u a b = record {
  config = b.config ∙ a.config;
  transport = b.transport ∙ a.transport;
  last_send = b.last_send ∙ a.last_send;
  streams = b.streams ∙ a.streams;
  transactions = b.transactions ∙ a.transactions;
  queue = b.queue ∙ a.queue;
}

-- ---- what gets less

-- The grants get less, or stay, and so does what is listed if no request of these purposes timed out.
abbrev pub IsLighter : List Purpose → State → State → Type 0
IsLighter purposes s t =
    (load t.grants < load s.grants)
    ⊎ ((t.grants ≡ s.grants) × (purposes ≡ [] → t.listed ≡ s.listed) × (length t.events + length t.closes ≡ length s.events + length s.closes))

pub record Ages (purposes : List Purpose) (s t : State) : Type 0 where
  pub stands : Stands s t
  pub phase : t.phase ≡ s.phase
  pub lighter : IsLighter purposes s t

-- ---- requests stay listed where no grant is removed

none-any : (which other : Grant → Bool) (gs : List Grant) → filter which gs ≡ [] → list_any (λ g. which g && other g) gs ≡ false
none-any which other [] e = refl
none-any which other (g ∷ gs) e = by (which g) (λ f. none-any which other gs f) e
  where
    by : (b : Bool) → (filter which gs ≡ [] → list_any (λ h. which h && other h) gs ≡ false) → cond b (g ∷ filter which gs) (filter which gs) ≡ []
        → ((b && other g) || list_any (λ h. which h && other h) gs) ≡ false
    by true later f = cc
    by false later f = later f

all-stay : (which : Grant → Bool) (gs : List Grant) (ls : List Listing) → filter which gs ≡ [] → filter (λ l. not (list_any (λ g. which g && is_for l.purpose g) gs)) ls ≡ ls
all-stay which gs [] e = refl
all-stay which gs (l ∷ ls) e = rw (none-any which (is_for l.purpose) gs e, all-stay which gs ls e) refl

-- nothing timed out
no-family : (family : AddressFamily) (gs : List Grant) → filter (λ g. is_of family g && is_for_any [] g) gs ≡ []
no-family family [] = refl
no-family family (g ∷ gs) = rw (and_right (is_of family g) false refl) (no-family family gs)

module _ (purposes : List Purpose) where
  lighter-trans : (s t u : State) → IsLighter purposes s t → IsLighter purposes t u → IsLighter purposes s u
  lighter-trans s t u (inl a) (inl b) = inl (omega (arith, a, b))
  lighter-trans s t u (inl a) (inr b) = let e = ap load b.0 in inl (omega (arith, a, e))
  lighter-trans s t u (inr a) (inl b) = let e = ap load a.0 in inl (omega (arith, e, b))
  lighter-trans s t u (inr (a, b, c)) (inr (d, e, f)) = inr (d ∙ a, (λ none. e none ∙ b none), f ∙ c)

  ages-self : (s : State) → Ages purposes s s
  ages-self s = record { stands = stands-self s; phase = refl; lighter = inr (refl, (λ none. refl), refl) }

  ages-trans : (s t u : State) → Ages purposes s t → Ages purposes t u → Ages purposes s u
  ages-trans s t u a b = record { stands = stands-trans s t u a.stands b.stands; phase = b.phase ∙ a.phase; lighter = lighter-trans s t u a.lighter b.lighter }

  -- ---- what expires in one allocation

  -- such grants are removed, and as many more are reported or to be closed
  removed-ages : (which : Grant → Bool) (events : List TurnEvent) (closes : List SocketAddr) (s : State) → (filter which s.grants ≡ []
      → length events + length closes ≡ length s.events + length s.closes)
      → Ages purposes s (record (without_grants which s) { events = events; closes = closes })
  removed-ages which events closes s reported = record {
    stands = record { config = refl; transport = refl; last_send = refl; streams = refl; transactions = refl; queue = refl };
    phase = refl;
    lighter = by (parted which s.grants);
  }
    where
      by : IsParted which s.grants → IsLighter purposes s (record (without_grants which s) { events = events; closes = closes })
      by (inl (same, none)) = inr (same, (λ untimed. all-stay which s.grants s.listed none), reported none)
      by (inr less) = inl less

  freed-ages : (which : Grant → Bool) (s : State) → Ages purposes s (without_grants which s)
  freed-ages which s = removed-ages which s.events s.closes s (λ none. refl)

  failed-ages : (which : Grant → Bool) (s : State) → Ages purposes s (failed which s)
  failed-ages which s = removed-ages which (failed which s).events s.closes s (λ none. rw none refl)

  unbound-ages : (which : Grant → Bool) (s : State) → Ages purposes s (unbound which s)
  unbound-ages which s = removed-ages which (failed which s).events (unbound which s).closes s (λ none. rw (none, append-nil s.closes) refl)

  channel-ages : (o : Option Grant) (s : State) → ((g : Grant) → o ≡ Some g → Has g s.grants) → Ages purposes s (channel_expired o s)
  channel-ages (Some (Channel number peer (Active lease))) s there = record {
    stands = record { config = refl; transport = refl; last_send = refl; streams = refl; transactions = refl; queue = refl };
    phase = refl;
    lighter = inl (
        let less = removed-load (is_channel_of number) (Channel number peer (Active lease)) s.grants (there (Channel number peer (Active lease)) refl) (eq-eqb number number refl) in
        let more = load-append (filter (λ g. not (is_channel_of number g)) s.grants) (Channel number peer (Reserved (later_by reserved_time lease.expiry)) ∷ []) in
        omega (arith, less, more));
  }
  channel-ages o s there = ages-self s

  listed-ages : (family : AddressFamily) (s : State) → Ages purposes s (refreshes_timed_out family purposes s)
  listed-ages family s = record {
    stands = record { config = refl; transport = refl; last_send = refl; streams = refl; transactions = refl; queue = refl };
    phase = refl;
    lighter = inr (refl, (λ none. rw none (all-stay (λ g. is_of family g && is_for_any [] g) s.grants s.listed (no-family family s.grants))), refl);
  }

  expired_in-ages : (family : AddressFamily) (given : Option ℕ) (now : ℕ) (s : State) → Ages purposes s (expired_in family given purposes now s)
  expired_in-ages family given now =
      let has_expired = λ (x : Grant). is_of family x && is_expired_channel now x in
      expired_in-does (Ages purposes) family given purposes now (record {
        trans = ages-trans;
        channels = λ t. failed-ages _ t;
        permissions = λ t. failed-ages _ t;
        last_channel = λ t. channel-ages (find has_expired (reverse t.grants)) t (λ x found. has-unreversed x t.grants (has-found has_expired x (reverse t.grants) found).0);
        expired_permissions = λ t. failed-ages _ t;
        connects = λ t. failed-ages _ t;
        connections = λ t. unbound-ages _ t;
        offers = λ t. failed-ages _ t;
        refreshes = λ t. listed-ages family t;
        frees = λ t. freed-ages _ t;
      })

pub expired_at-ages : (given : Option ℕ) (now : ℕ) (s : State) → Ages (timed_out_purposes given s) s (expired_at given now s)
expired_at-ages given now s =
    let purposes = timed_out_purposes given s in
    all-expire (Ages purposes) (ages-self purposes) (ages-trans purposes) given purposes now (λ family. freed-ages purposes (is_of family)) (λ family. expired_in-ages purposes family given now)
    (allocations s) s
