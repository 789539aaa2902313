-- A client that has ended stays so, and one that lives keeps its allocations.
use Rattle.turn_client_laws.proofs.Common.{◌≡◌, ◌⊎◌, ◌∙◌, ℕ, Bool, true, false, not, cond, List, [], ◌∷◌, ◌++◌, map, filter, inl, inr, refl, sym, ap, subst, SocketAddr}
use Rattle.turn_client_laws.proofs.Machine.{State, Phase, New, Authenticating, Allocated, Closed, Grant, Allocation, Permission, Channel, Connect, Offer, Connection, Relay, Has, filter-has}
use Rattle.turn_client_laws.proofs.Machine.{has-filter, has-left, has-append, map-has, is_of, is_offer_of, without_first, phase_after, message_step, bind_step, state_after, state_after_all}
use Rattle.turn_client_laws.proofs.Machine.{Call, is_channel_of, is_permission_of, is_connect_to}
use Rattle.turn_client_laws.proofs.Laws.{IgnoresAll, KeepsAllEdits, KeepsEdits, aged-outlines, calls-walk, contains-has, edits-IsKept, has-contains, outline}
use Rattle.turn_client_laws.proofs.Edits.{SparesAllocations}
use Rattle.turn_client_laws.proofs.EditsOfReplies.{alike-map as alike-mapped}
use Rattle.turn_client_runs.specs.Ends.{HasEnded}

-- ---- no allocation is left

abbrev pub IsGone : List Grant → Type 0
IsGone gs = (a : Relay) → Has (Allocation a) gs → ⊥

abbrev pub Over : State → Type 0
Over s = (s.phase ≡ Closed) ⊎ ((s.phase ≡ Allocated) × IsGone s.grants)

pub ended-over : (s : State) → HasEnded s → Over s
ended-over s (inl e) = inl e
ended-over s (inr (e, none)) = inr (e, λ a there. none a (has-contains (Allocation a) s.grants there))

pub over-ended : (s : State) → Over s → HasEnded s
over-ended s (inl e) = inl e
over-ended s (inr (e, none)) = inr (e, λ a there. none a (contains-has (Allocation a) s.grants there))

-- there is one, or none
pub one-or-none : (gs : List Grant) → ((a : Relay) × Has (Allocation a) gs) ⊎ IsGone gs
one-or-none [] = inr (λ a none. none)
one-or-none (Allocation a ∷ gs) = inl (a, inl refl)
one-or-none (Permission ip progress ∷ gs) = elim (one-or-none gs) [ inl (a, there) ↦ inl (a, inr there) | inr none ↦ inr (λ a here. elim here [ inl e ↦ cc | inr there ↦ none a there ]) ]
one-or-none (Channel number peer progress ∷ gs) = elim (one-or-none gs) [ inl (a, there) ↦ inl (a, inr there) | inr none ↦ inr (λ a here. elim here [ inl e ↦ cc | inr there ↦ none a there ]) ]
one-or-none (Connect peer ∷ gs) = elim (one-or-none gs) [ inl (a, there) ↦ inl (a, inr there) | inr none ↦ inr (λ a here. elim here [ inl e ↦ cc | inr there ↦ none a there ]) ]
one-or-none (Offer offer ∷ gs) = elim (one-or-none gs) [ inl (a, there) ↦ inl (a, inr there) | inr none ↦ inr (λ a here. elim here [ inl e ↦ cc | inr there ↦ none a there ]) ]
one-or-none (Connection c ∷ gs) = elim (one-or-none gs) [ inl (a, there) ↦ inl (a, inr there) | inr none ↦ inr (λ a here. elim here [ inl e ↦ cc | inr there ↦ none a there ]) ]

-- ---- a client that has ended stays so

abbrev pub StaysOver : State → State → Type 0
StaysOver s t = Over s → Over t

gone-filter : (which : Grant → Bool) (gs : List Grant) → IsGone gs → IsGone (filter which gs)
gone-filter which gs none a there = none a (has-filter which (Allocation a) gs there).0

-- what is added is no allocation
abbrev pub IsElse : Grant → Type 0
IsElse g = (a : Relay) → Allocation a ≡ g → ⊥

gone-more : (g : Grant) (gs : List Grant) → IsElse g → IsGone gs → IsGone (gs ++ g ∷ [])
gone-more g gs other none a there = elim (has-append (Allocation a) gs (g ∷ []) there) [ inl here ↦ none a here | inr (inl e) ↦ other a e | inr (inr nothing) ↦ absurd nothing ]

gone-first : (which : Grant → Bool) (gs : List Grant) → IsGone gs → IsGone (without_first which gs)
gone-first which [] none = none
gone-first which (g ∷ gs) none = by (which g) (gone-first which gs (λ a there. none a (inr there)))
  where
    by : (b : Bool) → IsGone (without_first which gs) → IsGone (cond b gs (g ∷ without_first which gs))
    by true later a there = none a (inr there)
    by false later a (inl e) = none a (inl e)
    by false later a (inr there) = later a there

-- an allocation has the outline of another one
outlined : (a : Relay) (gs : List Grant) → Has (outline (Allocation a)) (map outline gs) → (b : Relay) × Has (Allocation b) gs
outlined a (Allocation b ∷ gs) here = (b, inl refl)
outlined a (Permission ip progress ∷ gs) (inr there) = let (b, more) = outlined a gs there in (b, inr more)
outlined a (Channel number peer progress ∷ gs) (inr there) = let (b, more) = outlined a gs there in (b, inr more)
outlined a (Connect peer ∷ gs) (inr there) = let (b, more) = outlined a gs there in (b, inr more)
outlined a (Offer offer ∷ gs) (inr there) = let (b, more) = outlined a gs there in (b, inr more)
outlined a (Connection c ∷ gs) (inr there) = let (b, more) = outlined a gs there in (b, inr more)
outlined a [] none = absurd none
outlined a (g ∷ gs) (inl e) = cc

gone-outlines : (hs gs : List Grant) → map outline hs ≡ map outline gs → IsGone gs → IsGone hs
gone-outlines hs gs e none a there =
    let (b, here) = outlined a gs (subst (λ (os : List Grant). Has (outline (Allocation a)) os) e (map-has outline (Allocation a) hs there)) in none b here

on-grants : (s : State) (gs : List Grant) → (IsGone s.grants → IsGone gs) → Over s → (s.phase ≡ Closed) ⊎ ((s.phase ≡ Allocated) × IsGone gs)
on-grants s gs step (inl e) = inl e
on-grants s gs step (inr (e, none)) = inr (e, step none)

counted : (s : State) → Over s → (phase_after s.phase ≡ Closed) ⊎ ((phase_after s.phase ≡ Allocated) × IsGone s.grants)
counted s (inl e) = inl (ap phase_after e)
counted s (inr (e, none)) = inr (ap phase_after e, none)

elsewhere : (p : Phase) (s : State) → s.phase ≡ p → (p ≡ Closed → ⊥) → (p ≡ Allocated → ⊥) → Over s → ⊥
elsewhere p s e one other (inl f) = one (sym e ∙ f)
elsewhere p s e one other (inr (f, none)) = other (sym e ∙ f)

StaysOver-KeepsEdits : KeepsEdits StaysOver
StaysOver-KeepsEdits = record {
  rest = record {
    same = λ s h. h;
    trans = λ s t u first second h. second (first h);
    aside = λ s t h. h;
    queues = λ queue s begun h. h;
    dequeues = λ queue s fewer h. h;
    families = λ families s may h. h;
    sends = λ now s waits h. h;
    begins = λ now s new h. absurd (elsewhere New s new (λ e. cc) (λ e. cc) h);
    ends = λ s none h. inl refl;
    finishes = λ id s h. h;
    resends = λ id now s h. h;
    starts = λ id now s h. h;
  };
  asks = λ id text purposes now s begun askable spelled h. h;
  unlists = λ which s h. h;
  removes = λ which s spares. on-grants s _ (gone-filter (λ g. not (which g)) s.grants);
  removes_family = λ family s. on-grants s _ (gone-filter (λ g. not (is_of family g)) s.grants);
  takes_offer = λ id peer s. on-grants s _ (gone-first (is_offer_of id peer) s.grants);
  ages = λ grants s e. on-grants s _ (gone-outlines grants s.grants (aged-outlines grants s.grants e));
  permission = λ ip s phase room none. on-grants s _ (gone-more _ s.grants (λ a e. cc));
  channel = λ number peer s phase room none within. on-grants s _ (gone-more _ s.grants (λ a e. cc));
  connect = λ peer s phase room none. on-grants s _ (gone-more _ s.grants (λ a e. cc));
  connection = λ id c origin s phase offer none waits.
      on-grants s _ (λ gone. gone-more (Connection c) _ (λ a e. cc) (gone-first (is_offer_of id c.peer) s.grants gone));
  reserves = λ number peer was until s there.
      on-grants s _ (λ gone. gone-more _ _ (λ a e. cc) (gone-filter (λ g. not (is_channel_of number g)) s.grants gone));
}

StaysOver-KeepsAllEdits : KeepsAllEdits StaysOver
StaysOver-KeepsAllEdits = record {
  edits = StaysOver-KeepsEdits;
  reshapes = λ grants s e. on-grants s _ (gone-outlines grants s.grants e);
  rebinds = λ number peer was progress s there.
      on-grants s _ (λ gone. gone-more _ _ (λ a e. cc) (gone-filter (λ g. not (is_channel_of number g)) s.grants gone));
  holds = λ message d s e h. h;
  counts = λ s held few. counted s;
  resets = λ accepted s h. h;
  empties = λ s. on-grants s _ (gone-filter (λ g. not true) s.grants);
  allocates = λ message lifetime now s e none h. absurd (elsewhere Authenticating s e (λ f. cc) (λ f. cc) h);
  permits = λ ip is_kept expiry s is.
      on-grants s _ (λ gone. gone-more _ _ (λ a e. cc) (gone-filter (λ g. not (is_permission_of ip g)) s.grants gone));
  connects = λ id connection_id peer s t since stay granted listed h.
      on-grants t _ (λ gone. gone-more _ _ (λ a e. cc) (gone-filter (λ g. not (is_connect_to peer g)) t.grants gone)) (since h);
  offers = λ id peer origin s room few. on-grants s _ (gone-more _ s.grants (λ a e. cc));
}

any-streams : IgnoresAll StaysOver
any-streams s streams h = h

pub message-over : (message : List ℕ) (now : ℕ) (s : State) → Over s → Over (message_step message now s).1
message-over = (edits-IsKept StaysOver StaysOver-KeepsAllEdits any-streams).message

pub bind-over : (local : SocketAddr) (message : List ℕ) (now : ℕ) (s : State) → Over s → Over (bind_step local message now s)
bind-over = (edits-IsKept StaysOver StaysOver-KeepsAllEdits any-streams).binds

pub call-over : (call : Call) (s : State) → Over s → Over (state_after call s)
call-over = calls-walk StaysOver StaysOver-KeepsAllEdits any-streams

pub calls-over : (calls : List Call) (s : State) → Over s → Over (state_after_all s calls)
calls-over [] s h = h
calls-over (call ∷ calls) s h = calls-over calls (state_after call s) (call-over call s h)

-- ---- one that lives does so

-- where there is an allocation before there is one after, and the other way around
abbrev pub Remain : List Grant → List Grant → Type 0
Remain gs hs = (a : Relay) → Has (Allocation a) gs → (b : Relay) × Has (Allocation b) hs

abbrev pub Alike : List Grant → List Grant → Type 0
Alike gs hs = Remain gs hs × Remain hs gs

abbrev pub Lives : State → State → Type 0
Lives s t = (t.phase ≡ s.phase) × (Alike s.grants t.grants)

remain-then : (gs hs is : List Grant) → Remain gs hs → Remain hs is → Remain gs is
remain-then gs hs is first later a there = let (b, here) = first a there in later b here

pub alike-same : (gs : List Grant) → Alike gs gs
alike-same gs = (λ a there. (a, there), λ a there. (a, there))

pub alike-then : (gs hs is : List Grant) → Alike gs hs → Alike hs is → Alike gs is
alike-then gs hs is first later = (remain-then gs hs is first.0 later.0, remain-then is hs gs later.1 first.1)

pub lives-same : (s : State) → Lives s s
lives-same s = (refl, alike-same s.grants)

pub lives-then : (s t u : State) → Lives s t → Lives t u → Lives s u
lives-then s t u (e, first) (f, later) = (f ∙ e, alike-then s.grants t.grants u.grants first later)

pub alike-filter : (which : Grant → Bool) → SparesAllocations which → (gs : List Grant) → Alike gs (filter (λ g. not (which g)) gs)
alike-filter which spares gs = (
  λ a there. (a, filter-has (λ g. not (which g)) (Allocation a) gs there (rw (spares a) refl)),
  λ a there. (a, (has-filter (λ g. not (which g)) (Allocation a) gs there).0),
)

pub alike-more : (gs : List Grant) (g : Grant) → IsElse g → Alike gs (gs ++ g ∷ [])
alike-more gs g other = (λ a there. (a, has-left (Allocation a) gs (g ∷ []) there), back)
  where
    back : Remain (gs ++ g ∷ []) gs
    back a there = elim (has-append (Allocation a) gs (g ∷ []) there) [ inl here ↦ (a, here) | inr (inl e) ↦ absurd (other a e) | inr (inr nothing) ↦ absurd nothing ]

-- one in place of others
pub alike-instead : (which : Grant → Bool) → SparesAllocations which → (g : Grant) → IsElse g → (gs : List Grant) → Alike gs (filter (λ h. not (which h)) gs ++ g ∷ [])
alike-instead which spares g other gs =
    let kept = filter (λ h. not (which h)) gs in alike-then gs kept (kept ++ g ∷ []) (alike-filter which spares gs) (alike-more kept g other)

-- grants change, and keep their outlines
pub alike-outlines : (gs hs : List Grant) → map outline hs ≡ map outline gs → Alike gs hs
alike-outlines gs hs e = (
  λ a there. outlined a hs (subst (λ (os : List Grant). Has (outline (Allocation a)) os) (sym e) (map-has outline (Allocation a) gs there)),
  λ a there. outlined a gs (subst (λ (os : List Grant). Has (outline (Allocation a)) os) e (map-has outline (Allocation a) hs there)),
)

pub alike-map : (f : Grant → Grant) → ((g : Grant) → outline (f g) ≡ outline g) → (gs : List Grant) → Alike gs (map f gs)
alike-map f same gs = alike-outlines gs (map f gs) (alike-mapped outline f same gs)

pub lives-back : (s t : State) → Lives s t → Over t → Over s
lives-back s t (e, remain) (inl over) = inl (sym e ∙ over)
lives-back s t (e, remain) (inr (f, none)) = inr (sym e ∙ f, λ a there. let (b, here) = remain.0 a there in none b here)

pub lives-over : (s t : State) → Lives s t → Over s → Over t
lives-over s t (e, remain) (inl over) = inl (e ∙ over)
lives-over s t (e, remain) (inr (f, none)) = inr (e ∙ f, λ a there. let (b, here) = remain.1 a there in none b here)
