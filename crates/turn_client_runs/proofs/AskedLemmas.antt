-- What is listed after a run was listed at first, or its request was made in the run.
use Rattle.turn_client_laws.proofs.Common.{◌≡◌, ◌⊎◌, ◌∙◌, ℕ, Bool, true, false, cond, List, [], ◌∷◌, ◌++◌, Option, Some, None, inl, inr, refl, sym, subst, ap, find, Contains, IpAddr, SocketAddr}
use Rattle.turn_client_laws.proofs.Machine.{id_of, State, Call, Listing, Purpose, ForPermission, ForChannel, purposes_of, first_or, is_allocate_or_connect, is_channel_bind, is_create_permission}
use Rattle.turn_client_laws.proofs.Machine.{is_refresh, retried, state_after, state_after_all, Has, has-found}
use Rattle.turn_client_laws.proofs.Laws.{Input, handled, processed, GivesBack, DiffersInStreams, ProcessesInputs, InputsLead, IsListedFor, listing, retried-has, gone-settles, listings-made}
use Rattle.turn_client_laws.proofs.Laws.{contains-has, has-contains, calls-do, purpose-with}
use Rattle.turn_client_runs.specs.Granted.{IsAskedInCall, IsRequestedByInput, WasAsked, WasAskedBefore}
use Rattle.turn_client_runs.proofs.QuietLemmas.{calls-keep}
use Rattle.turn_client_runs.proofs.RelistLemmas.{IsRetriedFor, input-relists}
use Rattle.turn_client_runs.proofs.TogetherLemmas.{AreTogether, Together, call-together, differs-together, first-together, listing-here}
use Rattle.turn_client_runs.proofs.InputsOfRuns.{handled-leads}

-- ---- the first in order

found-some : {X : Type 0} (p : X → Bool) (x : X) (xs : List X) → Has x xs → p x ≡ true → find p xs ≡ None → ⊥
found-some p x [] none e f = none
found-some {X} p x (y ∷ xs) (inl same) e f = by (p y) (sym (ap p same) ∙ e) f
  where
    by : (b : Bool) → b ≡ true → cond b (Some y) (find p xs) ≡ None → ⊥
    by true g h = cc
    by false g h = cc
found-some {X} p x (y ∷ xs) (inr there) e f = by (p y) (found-some p x xs there e) f
  where
    by : (b : Bool) → (find p xs ≡ None → ⊥) → cond b (Some y) (find p xs) ≡ None → ⊥
    by true later h = cc
    by false later h = later h

-- a request that binds a channel is not made again as one for a permission
channel-first : (all : List Purpose) (number : ℕ) (peer : SocketAddr) (ip : IpAddr) → Has (ForChannel number peer) all → retried all ≡ Some (ForPermission ip) → ⊥
channel-first all number peer ip there = by (find is_refresh all) refl (find is_channel_bind all) refl
  where
    others : Option Purpose
    others = first_or (find is_create_permission all) (find is_allocate_or_connect all)

    by : (r : Option Purpose) → find is_refresh all ≡ r → (c : Option Purpose) → find is_channel_bind all ≡ c → first_or r (first_or c others) ≡ Some (ForPermission ip) → ⊥
    by (Some q) e c f g = let same : q ≡ ForPermission ip = cc in cc (rw same at (has-found is_refresh q all e).1)
    by None e (Some q) f g = let same : q ≡ ForPermission ip = cc in cc (rw same at (has-found is_channel_bind q all f).1)
    by None e None f g = found-some is_channel_bind (ForChannel number peer) all there refl f

-- ---- one input

-- what is made again is made for a purpose that it is listed for
listed-for : (message : List ℕ) (s : State) (purpose p : Purpose) → AreTogether s → (GivesBack p → ⊥) → IsRetriedFor message s purpose p → IsListedFor purpose p
listed-for message s purpose p together wanted (inl e) = inl e
listed-for message s purpose p together wanted (inr (first, there)) =
    by purpose p wanted first there (together (listing (id_of message) p) (listing (id_of message) purpose) (purpose-with (id_of message) p s there)
    (purpose-with (id_of message) purpose s (retried-has all purpose first)) refl)
  where
    all : List Purpose
    all = purposes_of (id_of message) s

    brought : (r q : Purpose) → retried all ≡ Some q → Has r all → IsListedFor r q → IsListedFor q r
    brought r q f h (inl e) = inl (sym e)
    brought (ForChannel number peer) (ForPermission ip) f h (inr e) = absurd (channel-first all number peer ip h f)
    brought r q f h (inr e) = absurd e

    by : (q r : Purpose) → (GivesBack r → ⊥) → retried all ≡ Some q → Has r all → Together r q → IsListedFor q r
    by q r needs f h (inl for) = brought r q f h for
    by q r needs f h (inr (inl for)) = for
    by q r needs f h (inr (inr (back, away))) = absurd (needs back)

-- for a listing that deletes no allocation
module _ (l : Listing) (wanted : GivesBack l.purpose → ⊥) where
  input-asks : (one : Input) → AreTogether one.before → Has l (processed one).1.listed → Has l one.before.listed ⊎ IsRequestedByInput l.id l.purpose one
  input-asks one together there = elim (input-relists one l there) [
    | inl old ↦ inl old
    | inr (purpose, made, is, for) ↦ inr (purpose, listed-for one.bytes one.before purpose l.purpose together wanted for, made, is)
  ]

  -- one of these inputs made it
  abbrev AmongInputs : List Input → Type 0
  AmongInputs inputs = (one : Input) × Has one inputs × IsRequestedByInput l.id l.purpose one

  later-among : (one : Input) (inputs : List Input) → AmongInputs inputs → AmongInputs (one ∷ inputs)
  later-among one inputs (x, there, asked) = (x, inr there, asked)

  differs-listed : (s t : State) → DiffersInStreams s t → Has l t.listed → Has l s.listed
  differs-listed s t differs there = subst (λ (u : State). Has l u.listed) differs.others there

  -- the first input made it, or a later one, or it was listed before
  step-asks : (one : Input) (later : List Input) (s : State) → DiffersInStreams s one.before → AreTogether s → Has l (processed one).1.listed ⊎ AmongInputs later → Has l s.listed
      ⊎ AmongInputs (one ∷ later)
  step-asks one later s differs together (inr among) = inr (later-among one later among)
  step-asks one later s differs together (inl there) = elim (input-asks one (differs-together s one.before differs together) there) [
    | inl old ↦ inl (differs-listed s one.before differs old)
    | inr asked ↦ inr (one, inl refl, asked)
  ]

  lead-asks : (inputs : List Input) (s t : State) → InputsLead inputs s t → AreTogether s → Has l t.listed → Has l s.listed ⊎ AmongInputs inputs
  lead-asks [] s t lead together there = inl (differs-listed s t lead there)
  lead-asks (one ∷ later) s t (first, lead) together there =
      step-asks one later s first together
      (lead-asks later (processed one).1 t lead (first-together one later s first together) there)

  -- up to one of the inputs
  front-asks : (front : List Input) (one : Input) (back : List Input) (s t : State)
      → InputsLead (front ++ one ∷ back) s t → AreTogether s → Has l one.before.listed → Has l s.listed ⊎ AmongInputs front
  front-asks [] one back s t (first, lead) together there = inl (differs-listed s one.before first there)
  front-asks (x ∷ front) one back s t (first, lead) together there =
      step-asks x front s first together
      (front-asks front one back (processed x).1 t lead (first-together x (front ++ one ∷ back) s first together) there)

  -- ---- a call

  module _ (call : Call) (s : State) (together : AreTogether s) where
    gone-listed : ProcessesInputs call s → Has l (state_after call s).listed → Has l s.listed ⊎ AmongInputs (handled call s)
    gone-listed (inl lead) there = lead-asks (handled call s) s (state_after call s) lead together there
    gone-listed (inr end) there = elim ((gone-settles end.local s).1 l (subst (λ (t : State). Has l t.listed) end.gone there)) [
      | inl h ↦ inl h
      | inr none ↦ absurd none
    ]

    call-asks : Contains (state_after call s).listed l → Contains s.listed l ⊎ IsAskedInCall l.id l.purpose call s
    call-asks there = elim (listing-here call s) [
      | inl takes ↦ elim (gone-listed (calls-do call s takes) (contains-has l (state_after call s).listed there)) [
        | inl old ↦ inl (has-contains l s.listed old)
        | inr (one, among, asked) ↦ inr (inr (one, has-contains one (handled call s) among, asked))
      ]
      | inr own ↦ elim (listings-made call s (state_after call s) l (inl refl) there) [ inl old ↦ inl old | inr is ↦ inr (inl (own l is)) ]
    ]

  -- ---- a run

  run-asks : (calls : List Call) (first : State) → AreTogether first → Contains (state_after_all first calls).listed l → Contains first.listed l ⊎ WasAsked l.id l.purpose calls first
  run-asks [] first together there = inl there
  run-asks (call ∷ calls) first together there = elim (run-asks calls (state_after call first) (call-together call first together) there) [
    | inl there ↦ elim (call-asks call first together there) [
      | inl old ↦ inl old
      | inr asked ↦ inr (record { earlier = []; call = call; later = calls; split = refl; asked = asked })
    ]
    | inr was ↦ inr (record {
      earlier = call ∷ was.earlier;
      call = was.call;
      later = was.later;
      split = ap (λ (l : List Call). call ∷ l) was.split;
      asked = was.asked;
    })
  ]

-- the request that an input answers was made before it
pub was-asked : (earlier : List Call) (call : Call) (later : List Call) (first : State) → first.listed ≡ []
    → (front : List Input) (one : Input) (back : List Input) → handled call (state_after_all first earlier) ≡ front ++ one ∷ back
    → (p : Purpose) → (GivesBack p → ⊥) → Contains (purposes_of (id_of one.bytes) one.before) p
    → WasAskedBefore (id_of one.bytes) p earlier first front
was-asked earlier call later first empty front one back cut p wanted listed =
    let s = state_after_all first earlier in
    let l = listing (id_of one.bytes) p in
    let none : AreTogether first = λ x other here there e. absurd (subst (Has x) empty here) in
    let together = calls-keep AreTogether call-together earlier first none in
    let there : Has l one.before.listed = purpose-with (id_of one.bytes) p one.before (contains-has p (purposes_of (id_of one.bytes) one.before) listed) in
    elim (front-asks l wanted front one back s (state_after call s) (handled-leads call s front back one cut) together there) [
      | inl old ↦ elim (run-asks l wanted earlier first none (has-contains l s.listed old)) [
        | inl at_first ↦ absurd (contains-has l [] (subst (λ (ls : List Listing). Contains ls l) empty at_first))
        | inr was ↦ inl was
      ]
      | inr (x, among, asked) ↦ inr (x, has-contains x front among, asked)
    ]
