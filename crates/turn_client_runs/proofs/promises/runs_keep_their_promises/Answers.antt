use Rattle.turn_client_runs.proofs.PromiseLemmas.{run-bound, run-cuts, run-events, run-few, run-granted, run-hears, run-held, run-lasts, run-numbers, run-offers, run-order, run-processed, run-realm}
use Rattle.turn_client_runs.proofs.PromiseLemmas.{run-replies, run-sent, run-short}
use Rattle.turn_client_runs.proofs.CalmRuns.{run-calm}
use Rattle.turn_client_runs.proofs.DeliveryRuns.{run-returns}
use Rattle.turn_client_runs.proofs.EndRuns.{run-tells-end}
use Rattle.turn_client_runs.proofs.SendsRuns.{run-sends_to}
use Rattle.turn_client_runs.proofs.TriedLemmas.{run-tried}
use Rattle.turn_client_runs.proofs.promises.runs_keep_their_promises.Goals as goal

pub returns : goal.returns
returns c = record {
  granted = run-granted;
  numbers = run-numbers;
  bound = run-bound;
  offers = run-offers;
  heard = run-hears;
  delivered = run-returns;
  counted = run-replies;
  challenges = run-few;
  realm = run-realm;
  held = run-held;
  processed = run-processed;
  order = run-order;
  sent = run-sent;
  sends = run-sends_to;
  events = run-events;
  short = run-short;
  cuts = run-cuts;
  lasts = run-lasts;
  calm = run-calm;
  tried = run-tried;
  ends = run-tells-end;
}
