-- The law of cuts: pieces return what all their bytes return.
use Rattle.turn_client_laws.proofs.Common.{◌≡◌, ◌≢◌, ℕ, Bool, List, [], ◌∷◌, ◌++◌, flat_map, Option, Some, None, refl, ap, sym, ◌∙◌, append_assoc, concat, flat_map-append, append-nil, All-head}
use Rattle.turn_client_laws.proofs.Common.{All-tail, SocketAddr}
use Rattle.turn_client_laws.proofs.Machine.{Drained, behind, fed, size_in-IsPrefixCut, State, Control, Stream, Payload, stream_at, with_bytes}
use Rattle.turn_client_laws.proofs.Laws.{bytes-twice}
use Rattle.turn_types.specs.Streams as T
use Rattle.turn_types.proofs.CutLemmas.{drained-append}
use Rattle.turn_client_runs.specs.Cut.{AreNonempty, AwaitsBytes, IsSameForAnyCut, bytes_at, fed_piece, fed_pieces, is_control_stream, left, mode_at, one_by_one, part_at_step, whole, whole_of}
use Rattle.turn_client_runs.proofs.FedStepLemmas.{Agrees}
use Rattle.turn_client_runs.proofs.FollowLemmas.{Suits, SuitsMode}
use Rattle.turn_client_runs.proofs.PieceLemmas.{piece-agrees, waits-same, waits-whole}
use Rattle.turn_client_runs.proofs.QuietLemmas.{fed-quiet}

suits-first : (o : Option Stream) → Suits (is_control_stream o) o
suits-first None = tt
suits-first (Some stream) = elim stream.mode as (λ m. SuitsMode (is_control_stream (Some (record stream { mode = m }))) m) [ Control ↦ tt | m ↦ tt ]

module _ (a : SocketAddr) (now : ℕ) where
  -- the pieces return what these bytes return, where payloads count so
  pub record IsSame (c : Bool) (p q : List Payload × State) : Type 0 where
    pub given : flat_map (one_by_one c) p.0 ≡ q.0
    pub after : p.1 ≡ q.1

  whole-append : (s : State) (first more : List ℕ) → whole a now s (first ++ more) ≡ fed (λ t. T.size_in (mode_at a t)) (part_at_step a now) (whole a now s first) more
  whole-append s first more = drained-append (λ t. T.size_in (mode_at a t)) (part_at_step a now) (size_in-IsPrefixCut (mode_at a)) s first more

  nothing-same : (c : Bool) (s : State) → AwaitsBytes s → IsSame c ([], s) (whole_of a now s [])
  nothing-same c s quiet =
      let d-is : whole a now (with_bytes a [] s) (bytes_at a s ++ []) ≡ left (with_bytes a [] s) (bytes_at a s) = rw (append-nil (bytes_at a s)) (waits-whole a now s quiet) in
      rw d-is (record { given = refl; after = sym (waits-same a now s quiet) })

  -- one piece, and the rest of the pieces after it
  then-same : (c : Bool) (s : State) (piece more : List ℕ) (one others : List Payload × State) → Agrees a c one (whole a now (with_bytes a [] s) (bytes_at a s ++ piece))
      → IsSame c others (whole_of a now one.1 more) → IsSame c (one.0 ++ others.0, others.1) (whole_of a now s (piece ++ more))
  then-same c s piece more one others agrees later =
      let f = one_by_one c in
      let d = whole a now (with_bytes a [] s) (bytes_at a s ++ piece) in
      let e = whole a now d.state (d.rest ++ more) in
      let all-is : whole a now (with_bytes a [] s) (bytes_at a s ++ (piece ++ more)) ≡ behind d.given e =
      ap (whole a now (with_bytes a [] s)) (sym (append_assoc (bytes_at a s) piece more)) ∙ whole-append (with_bytes a [] s) (bytes_at a s ++ piece) more in
      let out-is : with_bytes a [] one.1 ≡ d.state = ap (with_bytes a []) agrees.leaves.after ∙ (bytes-twice a d.rest [] d.state ∙ agrees.leaves.empty) in
      let later-is : whole a now (with_bytes a [] one.1) (bytes_at a one.1 ++ more) ≡ e = ap (λ (t : State). whole a now t (bytes_at a one.1 ++ more)) out-is
      ∙ ap (λ (l : List ℕ). whole a now d.state (l ++ more)) agrees.leaves.held in
      record {
        given =
            flat_map-append f one.0 others.0
            ∙ (ap (λ (l : List Payload). l ++ flat_map f others.0) agrees.given
            ∙ (ap (λ (l : List Payload). d.given ++ l) (later.given ∙ ap (λ (x : Drained State Payload). x.given) later-is)
            ∙ sym (ap (λ (x : Drained State Payload). x.given) all-is)));
        after =
            later.after
            ∙ (ap (λ (x : Drained State Payload). with_bytes a x.rest x.state) later-is
            ∙ sym (ap (λ (x : Drained State Payload). with_bytes a x.rest x.state) all-is));
      }

  pieces-same : (c : Bool) (pieces : List (List ℕ)) (s : State) → AwaitsBytes s → Suits c (stream_at a s) → AreNonempty pieces → IsSame c (fed_pieces a pieces now s) (whole_of a now s (concat pieces))
  unfolding fed_pieces
  pieces-same c [] s quiet suits some = nothing-same c s quiet
  pieces-same c ([] ∷ pieces) s quiet suits some = absurd (All-head (λ (l : List ℕ). l ≢ []) [] pieces some refl)
  pieces-same c ((b ∷ piece) ∷ pieces) s quiet suits some =
      let one = fed_piece a (b ∷ piece) now s in
      let agrees = piece-agrees a now s quiet c b piece suits in
      then-same c s (b ∷ piece) (concat pieces) one (fed_pieces a pieces now one.1) agrees
      (pieces-same c pieces one.1 (fed-quiet a (b ∷ piece) now s quiet) agrees.leaves.suits (All-tail (λ (l : List ℕ). l ≢ []) (b ∷ piece) pieces some))

  pub any-cut : (pieces : List (List ℕ)) (s : State) → AwaitsBytes s → AreNonempty pieces → IsSameForAnyCut a pieces now s
  any-cut pieces s quiet some =
      let same = pieces-same (is_control_stream (stream_at a s)) pieces s quiet (suits-first (stream_at a s)) some in
      (same.given, same.after)

pub pieces-quiet : (a : SocketAddr) (pieces : List (List ℕ)) (now : ℕ) (s : State) → AwaitsBytes s → AwaitsBytes (fed_pieces a pieces now s).1
unfolding fed_pieces
pieces-quiet a [] now s quiet = quiet
pieces-quiet a (piece ∷ pieces) now s quiet = pieces-quiet a pieces now (fed_piece a piece now s).1 (fed-quiet a piece now s quiet)
