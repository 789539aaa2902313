use Rattle.std.proofs.Common.{◌≡◌, ◌++◌, map, take, drop}
use Rattle.turn_session_book.specs.OpenRequests.{denied_with}
use Rattle.turn_session_book.proofs.open_requests.advancing.deny_all.Given as goal

abbrev pub invariant-loop-request : goal.invariant-loop-request
invariant-loop-request l =
    l.all ≡ map (denied_with l.permission l.error) (take l.request-index l.initial.all) ++ drop l.request-index l.initial.all
