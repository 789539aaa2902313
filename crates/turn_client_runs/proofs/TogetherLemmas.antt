-- What the listings of one ID are for: one request, a channel and the permission requested with it, or
-- allocations that are deleted.
use Rattle.turn_client_laws.proofs.Common.{◌≡◌, ◌⊎◌, ◌∙◌, ℕ, true, false, eqb, List, [], ◌∷◌, Some, inl, inr, refl, sym, subst, list_any, eq-eqb, or_parts}
use Rattle.turn_client_laws.proofs.Machine.{id_of, is_outstanding, State, Call, Delete, CreatePermission, BindChannel, TcpConnect, AllocatedTcpSocket, Recv, PollRecv, PollTransmit, Listing, Purpose}
use Rattle.turn_client_laws.proofs.Machine.{ForRefresh, ForPermission, ForChannel, is_of_request, purposes_of, fresh_id, state_after, Has}
use Rattle.turn_client_laws.proofs.Laws.{Input, handled, processed, GivesBack, DiffersInStreams, ProcessesInputs, TakesInput, InputsLead, AsksFor, IsListedAgain, IsListedFor, IsListingOf, listing}
use Rattle.turn_client_laws.proofs.Laws.{has-any, input-moves, gone-settles, listings-made, fresh-free, contains-has, has-contains, calls-do, purpose-with, IsListingHere}

-- ---- purposes of one request

abbrev pub Together : Purpose → Purpose → Type 0
Together p q = IsListedFor p q ⊎ IsListedFor q p ⊎ (GivesBack p × GivesBack q)

abbrev pub AreTogether : State → Type 0
AreTogether s = (l other : Listing) → Has l s.listed → Has other s.listed → l.id ≡ other.id → Together l.purpose other.purpose

-- both are listed for one, if not as itself then as the permission requested with it
listed-with : (p a b : Purpose) → IsListedFor p a → IsListedFor p b → Together a b
listed-with p a b (inl e) h = inl (subst (λ (x : Purpose). IsListedFor x b) (sym e) h)
listed-with p a b (inr brings) (inl e) = inr (inl (subst (λ (x : Purpose). IsListedFor x a) (sym e) (inr brings)))
listed-with (ForChannel number peer) (ForPermission ip) (ForPermission other) (inr e) (inr f) = inl (inl (rw (e, f) refl))
listed-with (ForChannel number peer) (ForPermission ip) b (inr e) (inr none) = absurd none
listed-with p a b (inr none) (inr f) = absurd none

-- a request that deletes allocations is listed for nothing else
back-listed : (p a : Purpose) → GivesBack p → IsListedFor p a → GivesBack a
back-listed p a back (inl e) = subst GivesBack (sym e) back
back-listed (ForRefresh family lifetime) a back (inr none) = absurd none
back-listed p a back (inr brings) = absurd back

-- ---- what a call requests

abbrev Same : Purpose → Purpose → Type 0
Same p q = (p ≡ q) ⊎ (GivesBack p × GivesBack q)

-- the call requests one thing, or deletes allocations
asks-one : (call : Call) (s : State) (p q : Purpose) (at then : ℕ) → AsksFor call s p at → AsksFor call s q then → Same p q
asks-one (Delete now) s p q at then (is, (family, e)) (was, (other, f)) = inr (subst GivesBack (sym e) refl, subst GivesBack (sym f) refl)
asks-one (CreatePermission transport ip now) s p q at then (is, e) (was, f) = inl (e ∙ sym f)
asks-one (BindChannel transport peer now) s p q at then (is, (number, free, e)) (was, (other, also, f)) = inl (e ∙ (by (sym free ∙ also) ∙ sym f))
  where
    by : Some number ≡ Some other → ForChannel number peer ≡ ForChannel other peer
    by same = cc
asks-one (TcpConnect peer now) s p q at then (is, e) (was, f) = inl (e ∙ sym f)
asks-one (AllocatedTcpSocket id tuple peer (Some local) now) s p q at then (is, e) (was, f) = inl (e ∙ sym f)
asks-one (PollTransmit now) s p q at then (is, inl (new, e)) (was, inl (also, f)) = inl (e ∙ sym f)
asks-one (PollTransmit now) s p q at then (is, inr (there, e)) (was, inr (also, f)) = inl (cc (sym e ∙ f))
asks-one (PollTransmit now) s p q at then (is, inl (new, e)) (was, inr (there, f)) = cc (sym new ∙ there)
asks-one (PollTransmit now) s p q at then (is, inr (there, e)) (was, inl (new, f)) = cc (sym new ∙ there)
asks-one call s p q at then none asks = absurd none

-- the call processes inputs, or what it lists it requests itself
pub listing-here : (call : Call) (s : State) → TakesInput call ⊎ ((l : Listing) → IsListingOf call s l → IsListingHere call s l)
listing-here (Recv packet now) s = inl tt
listing-here (PollRecv now) s = inl tt
listing-here call s = inr (λ l is. is)

-- ---- one more request

-- nothing is listed under the next ID
pub fresh-unlisted : (s : State) → (l : Listing) → Has l s.listed → l.id ≡ fresh_id s → ⊥
fresh-unlisted s l there e =
    let free = or_parts (is_outstanding (fresh_id s) s.transactions) _ (fresh-free s) in
    let none : list_any (λ (l : Listing). eqb l.id (fresh_id s)) s.listed ≡ false =
    (or_parts (list_any (λ (l : Listing). eqb l.id (fresh_id s)) s.listed) (list_any (is_of_request (fresh_id s)) s.grants) free.1).0 in
    let some = has-any (λ (l : Listing). eqb l.id (fresh_id s)) l s.listed there (eq-eqb l.id (fresh_id s) e) in
    let no : true ≡ false = sym some ∙ none in
    cc

-- what is added is listed under the next ID, and belongs together
together-more : (Came : Listing → Type 0) (s t : State) → ((l other : Listing) → Came l → Came other → Together l.purpose other.purpose)
    → ((l : Listing) → Has l t.listed → Has l s.listed ⊎ ((l.id ≡ fresh_id s) × Came l)) → AreTogether s → AreTogether t
together-more Came s t with came h l other here there e = by (came l here) (came other there)
  where
    by : Has l s.listed ⊎ ((l.id ≡ fresh_id s) × Came l) → Has other s.listed ⊎ ((other.id ≡ fresh_id s) × Came other) → Together l.purpose other.purpose
    by (inl old) (inl also) = h l other old also e
    by (inl old) (inr (is, new)) = absurd (fresh-unlisted s l old (e ∙ is))
    by (inr (is, new)) (inl old) = absurd (fresh-unlisted s other old (sym e ∙ is))
    by (inr (is, new)) (inr (also, too)) = with l other new too

-- no more is added
together-less : (s t : State) → ((l : Listing) → Has l t.listed → Has l s.listed) → AreTogether s → AreTogether t
together-less s t less h l other here there e = h l other (less l here) (less other there) e

-- ---- inputs

-- a request is made again for what the old one is listed for
input-together : (one : Input) → AreTogether one.before → AreTogether (processed one).1
input-together one h = together-more Came one.before (processed one).1 with (λ l there. by l ((input-moves one).1 l there)) h
  where
    Came : Listing → Type 0
    Came l = Has (listing (id_of one.bytes) l.purpose) one.before.listed

    with : (l other : Listing) → Came l → Came other → Together l.purpose other.purpose
    with l other here there = h (listing (id_of one.bytes) l.purpose) (listing (id_of one.bytes) other.purpose) here there refl

    by : (l : Listing) → Has l one.before.listed ⊎ IsListedAgain one.bytes one.time one.before (processed one).1 l → Has l one.before.listed ⊎ ((l.id ≡ fresh_id one.before) × Came l)
    by l (inl old) = inl old
    by l (inr (purpose, asked, answers, (made, is))) = inr (is, purpose-with (id_of one.bytes) l.purpose one.before (contains-has l.purpose (purposes_of (id_of one.bytes) one.before) answers))

pub differs-together : (s t : State) → DiffersInStreams s t → AreTogether s → AreTogether t
differs-together s t differs h = subst AreTogether (sym differs.others) h

pub first-together : (one : Input) (later : List Input) (s : State) → DiffersInStreams s one.before → AreTogether s → AreTogether (processed one).1
first-together one later s differs h = input-together one (differs-together s one.before differs h)

lead-together : (inputs : List Input) (s t : State) → InputsLead inputs s t → AreTogether s → AreTogether t
lead-together [] s t lead h = differs-together s t lead h
lead-together (one ∷ later) s t (first, lead) h = lead-together later (processed one).1 t lead (first-together one later s first h)

-- ---- all calls

module _ (call : Call) (s : State) where
  does-together : ProcessesInputs call s → AreTogether s → AreTogether (state_after call s)
  does-together (inl lead) h = lead-together (handled call s) s (state_after call s) lead h
  does-together (inr end) h = together-less s (state_after call s) (λ l there.
      elim ((gone-settles end.local s).1 l (subst (λ (t : State). Has l t.listed) end.gone there)) [ inl old ↦ old | inr none ↦ absurd none ]) h

  here-together : ((l : Listing) → IsListingOf call s l → IsListingHere call s l) → AreTogether s → AreTogether (state_after call s)
  here-together own h = together-more (IsListingHere call s) s (state_after call s) with
      (λ l there. elim (listings-made call s (state_after call s) l (inl refl) (has-contains l (state_after call s).listed there)) [
        | inl old ↦ inl (contains-has l s.listed old)
        | inr is ↦ let (p, at, asks, for, made) = own l is in inr (made.1, own l is)
      ]) h
    where
      with : (l other : Listing) → IsListingHere call s l → IsListingHere call s other → Together l.purpose other.purpose
      with l other (p, at, asks, for, made) (q, then, also, too, again) = elim (asks-one call s p q at then asks also) [
        | inl e ↦ listed-with q l.purpose other.purpose (subst (λ (x : Purpose). IsListedFor x l.purpose) e for) too
        | inr (back, away) ↦ inr (inr (back-listed p l.purpose back for, back-listed q other.purpose away too))
      ]

  pub call-together : AreTogether s → AreTogether (state_after call s)
  call-together h = elim (listing-here call s) [ inl takes ↦ does-together (calls-do call s takes) h | inr own ↦ here-together own h ]
