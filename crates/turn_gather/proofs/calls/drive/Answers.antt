use Rattle.turn_client_laws.proofs.Common.{◌∙◌, ap, filter_map}
use Rattle.turn_gather.specs.Drive.{passed_up}
use Rattle.turn_gather.proofs.DriveLemmas.{all_replies-passed}
use Rattle.turn_gather.proofs.calls.drive.Goals as goal

pub returns-clause-payloads : goal.returns-clause-payloads
returns-clause-payloads g c = ap (filter_map passed_up) c.in_ok-replies.ensures.replies ∙ all_replies-passed c.args.gatherer c.args.calls.now
