-- The client of a session's head can be made.
use Rattle.std.proofs.Common.{◌≡◌, ℕ, List, Option, Some, None, refl, subst}
use Rattle.std.specs.Option.{option_and_then}
use Rattle.turn_client_calls.specs.Checks.{◌>>=◌}
use Rattle.turn_lines.specs.Head.{head_of}
use Rattle.turn_lines.proofs.HeadLemmas.{IsMade, made_line}
use Rattle.turn_lines.proofs.StepLemmas.{some_is}
use Rattle.turn_session_lines.specs.Head.{Chosen, Described, after_word, head_with, session_head_of, split_settings}

found : {A B : Type 0} → (o : Option A) (f : A → Option B) (b : B) → option_and_then f o ≡ Some b → (a : A) × (o ≡ Some a) × (f a ≡ Some b)
found None f b h = cc
found (Some a) f b h = (a, refl, h)

-- the client's head is in the text after the settings
abbrev with_settings : Option Chosen × List ℕ → Option Described
with_settings split = head_of split.1 >>= λ client. Some (head_with client split.0)

pub made_session : (line : List ℕ) (described : Described) → session_head_of line ≡ Some described → IsMade described.client
unfolding session_head_of
made_session line described h =
    let rest = found (after_word line) (λ rest. with_settings (split_settings rest)) described h in
    let split = split_settings rest.0 in
    let client = found (head_of split.1) (λ client. Some (head_with client split.0)) described rest.2 in
    subst (λ (d : Described). IsMade d.client) (some_is (head_with client.0 split.0) described client.2) (made_line split.1 client.0 client.1)
