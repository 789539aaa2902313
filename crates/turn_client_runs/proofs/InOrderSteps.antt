-- A step of a stream takes what comes next of it, and no other stream loses anything.
use Rattle.turn_client_laws.proofs.Common.{◌≡◌, ◌∙◌, ◌++◌, ℕ, zero, suc, Bool, true, false, cond, List, [], ◌∷◌, drop, filter, map, take, Option, Some, None, refl, sym, subst, ap, inl, inr}
use Rattle.turn_client_laws.proofs.Common.{append_assoc, ◌≢◌, ◌⊎◌, find, cases_Bool, append-nil, take-append-drop, SocketAddr}
use Rattle.turn_client_laws.proofs.Machine.{begins_no_frame, frame_len, same_address, State, Mode, Bound, Broken, Stream, Handled, Ignored, Outcome, Payload, PeerData, first_frame_step, then_all}
use Rattle.turn_client_laws.proofs.Machine.{broken_at, detached_frame_step, first_ready_step, frame_step, framed_by, go_on, is_ready, max_steps, next_frame_step, payload_in, poll_recv_step}
use Rattle.turn_client_laws.proofs.Machine.{steps_until_payload, with_bytes, stream_with_piece, same_address-self, same_address-true, differ-sym, Has, has-all, has-filter, has-found}
use Rattle.turn_client_laws.proofs.Laws.{Input, fed_taken, inputs_taken, is_front, poll_recv_inputs, stream_inputs_taken, taken_first, taken_in, taken_of_len, then_taken, unless_given, has-mapped}
use Rattle.turn_client_laws.proofs.Laws.{AreApart, step-aside, broken_by, bytes_by, mode_by}
use Rattle.turn_client_laws.proofs.StreamApartLemmas.{NotBroken, IsWholeAt, bound-NotBroken, bytes-NotBroken, found-NotBroken}
use Rattle.turn_client_laws.proofs.StreamMessageLemmas.{frame-rebound}
use Rattle.turn_client_laws.proofs.StreamStepLemmas.{first_frame_step-apart}
use Rattle.turn_client_runs.specs.InOrder.{bytes_out_of, is_out_of}

-- the bytes of some inputs, and then those of others
pub out-append : (a : SocketAddr) (xs ys : List Input) → bytes_out_of a (xs ++ ys) ≡ bytes_out_of a xs ++ bytes_out_of a ys
out-append a [] ys = refl
out-append a (x ∷ xs) ys =
    let own = cond (is_out_of a x) x.bytes [] in
    ap (λ (l : List ℕ). own ++ l) (out-append a xs ys) ∙ sym (append_assoc own (bytes_out_of a xs) (bytes_out_of a ys))

pub differs-or : (a b : SocketAddr) → same_address a b ≡ false → a ≡ b → ⊥
differs-or a b differ same = let clash : true ≡ false = sym (same_address-self a) ∙ (ap (same_address a) same ∙ differ) in cc

-- none at the local address is broken after a frame that was not before it
frame-whole : (local : SocketAddr) (stream : Stream) (frame : List ℕ) (now : ℕ) (s : State) → NotBroken local s.streams → NotBroken local (frame_step stream frame now s).1.streams
unfolding mode_by
frame-whole local stream frame now s whole = elim (frame-rebound stream frame now s) [
  | inl same ↦ subst (NotBroken local) (sym same) whole
  | inr (other, peer, is) ↦ subst (NotBroken local) (sym is) (bound-NotBroken local other peer s.streams whole)
]

-- for the streams at one local address, of which one was broken before or not
module _ (a : SocketAddr) (Was : Type 0) where
  -- all that arrived for the stream is what was taken and then the rest, which it holds unless it is broken: then it was so
  -- before, or no frame begins as the rest does
  abbrev pub IsRest : List ℕ → List ℕ → Stream → Type 0
  IsRest all taken x =
      (rest : List ℕ) × (all ≡ taken ++ rest) × (x.mode ≢ Broken → rest ≡ x.bytes) × (x.mode ≡ Broken → Was ⊎ (begins_no_frame rest ≡ true))

  abbrev pub Flows : List ℕ → List ℕ → List Stream → Type 0
  Flows all taken xs = (x : Stream) → Has x xs → x.local ≡ a → IsRest all taken x

  pub filter-flows : (all taken : List ℕ) (p : Stream → Bool) (xs : List Stream) → Flows all taken xs → Flows all taken (filter p xs)
  filter-flows all taken p xs flows x there at = flows x (has-filter p x xs there).0 at

  mapped-flows : (all taken : List ℕ) (f : Stream → Stream) (xs : List Stream) → ((x : Stream) → Has x xs → (f x).local ≡ a → IsRest all taken (f x)) → Flows all taken (map f xs)
  mapped-flows all taken f xs each x there at =
      let (y, before, e) = has-mapped f x xs there in
      subst (IsRest all taken) (sym e) (each y before (sym (ap (λ (z : Stream). z.local) e) ∙ at))

  -- the bytes of the stream are set to the rest
  set-flows : (all taken bytes : List ℕ) (local : SocketAddr) (t : State) → local ≡ a → all ≡ taken ++ bytes → NotBroken local t.streams → Flows all taken (with_bytes local bytes t).streams
  unfolding bytes_by
  set-flows all taken bytes local t here is whole = mapped-flows all taken (bytes_by local bytes) t.streams (λ x there. elim (cases_Bool (same_address x.local local)) [
    | inl e ↦ rw e (λ at. (bytes, is, λ f. refl, λ f. absurd (has-all (IsWholeAt local) x t.streams whole there e f)))
    | inr e ↦ rw e (λ at. absurd (differs-or x.local local e (at ∙ sym here)))
  ])

  -- the stream is broken
  broken-flows : (all taken bytes : List ℕ) (local : SocketAddr) (t : State) → local ≡ a → all ≡ taken ++ bytes → begins_no_frame bytes ≡ true → Flows all taken (broken_at local t).streams
  unfolding broken_by
  broken-flows all taken bytes local t here is bits = mapped-flows all taken (broken_by local) t.streams (λ x there. elim (cases_Bool (same_address x.local local)) [
    | inl e ↦ rw e (λ at. (bytes, is, λ whole. absurd (whole refl), λ f. inr bits))
    | inr e ↦ rw e (λ at. absurd (differs-or x.local local e (at ∙ sym here)))
  ])

  -- ---- a step of the stream itself

  -- what the only input took comes before the rest
  one-taken : (taken bytes rest : List ℕ) (local : SocketAddr) → same_address local a ≡ true → taken ++ (bytes ++ rest) ≡ (taken ++ (cond (same_address local a) bytes [] ++ [])) ++ rest
  one-taken taken bytes rest local e =
      rw e (ap (λ (l : List ℕ). taken ++ (l ++ rest)) (sym (append-nil bytes)) ∙ sym (append_assoc taken (bytes ++ []) rest))

  none-taken : (taken rest : List ℕ) → taken ++ rest ≡ (taken ++ []) ++ rest
  none-taken taken rest = ap (λ (l : List ℕ). l ++ rest) (sym (append-nil taken))

  framed-flows : (is_lent : Bool) (stream : Stream) (now : ℕ) (all taken : List ℕ) (e : same_address stream.local a ≡ true) (is : all ≡ taken ++ stream.bytes) (t : State)
      → NotBroken stream.local t.streams → (b : Bool) → begins_no_frame stream.bytes ≡ b → (o : Option ℕ)
      → Flows all (taken ++ bytes_out_of a (cond b [] (taken_of_len is_lent stream now t o))) (cond {A = Outcome × State} b (Handled, broken_at stream.local t) (framed_by stream now t o)).1.streams
  framed-flows is_lent stream now all taken e is t whole true bits o =
      broken-flows all (taken ++ []) stream.bytes stream.local t (same_address-true stream.local a e) (is ∙ none-taken taken stream.bytes) bits
  framed-flows is_lent stream now all taken e is t whole false bits None =
      set-flows all (taken ++ []) stream.bytes stream.local t (same_address-true stream.local a e) (is ∙ none-taken taken stream.bytes) whole
  framed-flows is_lent stream now all taken e is t whole false bits (Some len) =
      let front = take len stream.bytes in
      let rest = drop len stream.bytes in
      set-flows all (taken ++ (cond (same_address stream.local a) front [] ++ [])) rest stream.local (frame_step stream front now t).1 (same_address-true stream.local a e)
      (is ∙ (ap (λ (l : List ℕ). taken ++ l) (sym (take-append-drop len stream.bytes)) ∙ one-taken taken front rest stream.local e))
      (frame-whole stream.local stream front now t whole)

  emptied-whole : (local : SocketAddr) (s : State) → NotBroken local s.streams → NotBroken local (with_bytes local [] s).streams
  unfolding bytes_by
  emptied-whole local s whole = bytes-NotBroken local [] s.streams whole

  own-flows : (is_lent : Bool) (m : Mode) (stream : Stream) (now : ℕ) (s : State) (all taken : List ℕ) → same_address stream.local a ≡ true → all ≡ taken ++ stream.bytes → m ≢ Broken
      → NotBroken stream.local s.streams
      → Flows all (taken ++ bytes_out_of a (taken_in is_lent (record stream { mode = m }) now (with_bytes stream.local [] s)))
      (detached_frame_step (record stream { mode = m }) now (with_bytes stream.local [] s)).1.streams
  own-flows is_lent (Bound peer) stream now s all taken e is whole alone =
      set-flows all (taken ++ (cond (same_address stream.local a) stream.bytes [] ++ [])) [] stream.local s (same_address-true stream.local a e)
      (is ∙ (ap (λ (l : List ℕ). taken ++ l) (sym (append-nil stream.bytes)) ∙ one-taken taken stream.bytes [] stream.local e)) alone
  own-flows is_lent Broken stream now s all taken e is whole alone = absurd (whole refl)
  own-flows is_lent m stream now s all taken e is whole alone =
      framed-flows is_lent (record stream { mode = m }) now all taken e is (with_bytes stream.local [] s) (emptied-whole stream.local s alone)
      (begins_no_frame stream.bytes) refl (frame_len stream.bytes)

  -- ---- a step of any stream

  none-out : (is_lent : Bool) (stream : Stream) (now : ℕ) (t : State) → same_address stream.local a ≡ false → bytes_out_of a (taken_in is_lent stream now t) ≡ []
  none-out is_lent stream now t e = by stream.mode
    where
      framed : (m : Mode) (b : Bool) (o : Option ℕ) → bytes_out_of a (cond b [] (taken_of_len is_lent (record stream { mode = m }) now t o)) ≡ []
      framed m true o = refl
      framed m false None = refl
      framed m false (Some len) = rw e refl

      by : (m : Mode) → bytes_out_of a (taken_in is_lent (record stream { mode = m }) now t) ≡ []
      by (Bound peer) = rw e refl
      by Broken = refl
      by m = framed m (begins_no_frame stream.bytes) (frame_len stream.bytes)

  pub step-flows : (is_lent : Bool) (stream : Stream) (now : ℕ) (s : State) (all taken : List ℕ) → stream.mode ≢ Broken → NotBroken stream.local s.streams
      → (stream.local ≡ a → all ≡ taken ++ stream.bytes) → (same_address stream.local a ≡ false → Flows all taken s.streams)
      → Flows all (taken ++ bytes_out_of a (stream_inputs_taken is_lent stream now s)) (next_frame_step stream now s).1.streams
  step-flows is_lent stream now s all taken whole alone own others = elim (cases_Bool (same_address stream.local a)) [
    | inl e ↦ own-flows is_lent stream.mode stream now s all taken e (own (same_address-true stream.local a e)) whole alone
    | inr e ↦
        subst (λ (l : List ℕ). Flows all l (next_frame_step stream now s).1.streams)
        (sym (ap (λ (l : List ℕ). taken ++ l) (none-out is_lent stream now (with_bytes stream.local [] s) e) ∙ append-nil taken)) (aside e)
  ]
    where
      aside : same_address stream.local a ≡ false → Flows all taken (next_frame_step stream now s).1.streams
      aside e x there at =
          let is = step-aside stream now s in
          let (y, before, same) = has-mapped is.change x s.streams (subst (λ (xs : List Stream). Has x xs) is.same there) in
          let end : y.local ≡ a = sym (is.ends y) ∙ (sym (ap (λ (z : Stream). z.local) same) ∙ at) in
          let apart : same_address y.local stream.local ≡ false = rw end (differ-sym stream.local a e) in
          subst (IsRest all taken) (sym (same ∙ is.others y apart)) (others e y before end)

  -- ---- until a payload

  -- what the call processes is taken
  abbrev pub Goes : List ℕ → List ℕ → List Input → State → Type 0
  Goes all taken inputs t = Flows all (taken ++ bytes_out_of a inputs) t.streams

  then-goes : (all taken : List ℕ) (front later : List Input) (t : State) → Goes all (taken ++ bytes_out_of a front) later t → Goes all taken (front ++ later) t
  then-goes all taken front later t =
      subst (λ (l : List ℕ). Flows all l t.streams)
      (append_assoc taken (bytes_out_of a front) (bytes_out_of a later) ∙ ap (λ (l : List ℕ). taken ++ l) (sym (out-append a front later)))

  pub no-more : (all taken : List ℕ) (t : State) → Flows all taken t.streams → Goes all taken [] t
  no-more all taken t = subst (λ (l : List ℕ). Flows all l t.streams) (sym (append-nil taken))

  go_on-goes : (next : State → Option Payload × State) (later : State → List Input) (all taken : List ℕ) (front : List Input) (p : Outcome × State) → AreApart p.1 → Goes all taken front p.1
      → ((t : State) (more : List ℕ) → AreApart t → Flows all more t.streams → Goes all more (later t) (next t).1)
      → Goes all taken (front ++ unless_given (payload_in p.0) (later p.1)) (go_on next p).1
  go_on-goes next later all taken front (PeerData payload, t) apart first more = then-goes all taken front [] t (no-more all (taken ++ bytes_out_of a front) t first)
  go_on-goes next later all taken front (_, t) apart first more = then-goes all taken front (later t) (next t).1 (more t (taken ++ bytes_out_of a front) apart first)

  ready-whole : (m : Mode) (stream : Stream) → is_ready (record stream { mode = m }) ≡ true → m ≢ Broken
  ready-whole Broken stream e = λ f. cc
  ready-whole m stream e = λ f. cc

  -- what a stream holds that is not broken
  pub holds-rest : (all taken : List ℕ) (xs : List Stream) (stream : Stream) → Flows all taken xs → Has stream xs → stream.mode ≢ Broken → stream.local ≡ a → all ≡ taken ++ stream.bytes
  holds-rest all taken xs stream flows there whole at = let (rest, is, held, broken) = flows stream there at in is ∙ ap (λ (l : List ℕ). taken ++ l) (held whole)

  -- and streams stay apart
  next-apart : (stream : Stream) (now : ℕ) (s : State) → NotBroken stream.local s.streams → AreApart s → AreApart (next_frame_step stream now s).1
  next-apart stream now s alone apart =
      subst (λ (bytes : List ℕ). AreApart (next_frame_step (record stream { bytes = bytes }) now s).1) (append-nil stream.bytes) (first_frame_step-apart stream [] now s alone apart)

  steps-go : (n now : ℕ) (s : State) (all taken : List ℕ) → AreApart s → Flows all taken s.streams → Goes all taken (inputs_taken n now s) (steps_until_payload n now s).1
  unfolding inputs_taken steps_until_payload
  steps-go zero now s all taken apart flows = no-more all taken s flows
  steps-go (suc n) now s all taken apart flows = by (find is_ready s.streams) refl (λ t more. steps-go n now t all more)
    where
      by : (o : Option Stream) → find is_ready s.streams ≡ o → ((t : State) (more : List ℕ) → AreApart t → Flows all more t.streams → Goes all more (inputs_taken n now t) (steps_until_payload n now t).1)
          → Goes all taken (taken_first (inputs_taken n now) now s o) (first_ready_step (steps_until_payload n now) now s o).1
      by None e more = no-more all taken s flows
      by (Some stream) e more =
          let (there, ready) = has-found is_ready stream s.streams e in
          let whole = ready-whole stream.mode stream ready in
          let alone = found-NotBroken is_ready s.streams stream e whole apart.0 in
          go_on-goes (steps_until_payload n now) (inputs_taken n now) all taken (stream_inputs_taken false stream now s) (next_frame_step stream now s) (next-apart stream now s alone apart)
          (step-flows false stream now s all taken whole alone (holds-rest all taken s.streams stream flows there whole) (λ differ. flows)) more

  pub poll-goes : (now : ℕ) (s : State) (all taken : List ℕ) → AreApart s → Flows all taken s.streams → Goes all taken (poll_recv_inputs now s) (poll_recv_step now s).1
  poll-goes now s all taken = steps-go (max_steps s) now s all taken

  pub then_all-goes : (now : ℕ) (all taken : List ℕ) (front : List Input) (p : Outcome × State) → AreApart p.1 → Goes all taken front p.1 → Goes all taken (front ++ then_taken now p) (then_all now p).1
  then_all-goes now all taken front (Handled, t) apart first = then-goes all taken front (poll_recv_inputs now t) (then_all now (Handled, t)).1 (poll-goes now t all (taken ++ bytes_out_of a front) apart first)
  then_all-goes now all taken front (Ignored, t) apart first = then-goes all taken front (poll_recv_inputs now t) (then_all now (Ignored, t)).1 (poll-goes now t all (taken ++ bytes_out_of a front) apart first)
  then_all-goes now all taken front (o, t) apart first = then-goes all taken front [] t (no-more all (taken ++ bytes_out_of a front) t first)

  -- ---- a piece

  -- for a stream that is not broken
  pub fed-goes : (stream : Stream) (piece : List ℕ) (now : ℕ) (s : State) (all taken : List ℕ) → stream.mode ≢ Broken → NotBroken stream.local s.streams → (stream.local ≡ a → all ≡ taken ++ (stream.bytes ++ piece))
      → (same_address stream.local a ≡ false → Flows all taken s.streams) → Goes all taken (fed_taken stream piece now s) (first_frame_step stream piece now s).1
  fed-goes stream piece now s all taken whole alone own others = step-flows (is_front stream.bytes) (stream_with_piece stream piece) now s all taken whole alone own others
